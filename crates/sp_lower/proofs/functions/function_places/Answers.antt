use Rattle.std.proofs.Common.{List, ℕ, ap, length, ◌∙◌, None}
use Rattle.sp_typed_units.specs.declared.declarations.Parameter.{Parameter}
use Rattle.sp_code_meaning.specs.Layouts.{Layout}
use Rattle.sp_lower.proofs.functions.function_places.Goals as goal

abbrev layout_with : ℕ → Layout
layout_with n = record { own = n; current = 0; offset = None; first = n }

pub returns : goal.returns
returns c = ap layout_with (c.in_ok-own.ensures ∙ ap (λ (l : List Parameter). length l) c.as_slice.ensures)
