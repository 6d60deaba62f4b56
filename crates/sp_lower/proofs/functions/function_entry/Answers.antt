use Rattle.std.proofs.Common.{List, ℕ, [], ap, length, ◌∙◌}
use Rattle.sp_value.specs.Val.{Val}
use Rattle.sp_types.specs.Types.{Ty}
use Rattle.sp_typed_units.specs.declared.declarations.Parameter.{Parameter}
use Rattle.sp_meaning_states.specs.Scopes as called_is
use Rattle.sp_meaning.specs.Globals.{globals_of}
use Rattle.sp_meaning.specs.Calls.{zero_slots}
use Rattle.sp_code.specs.Machine.{Body}
use Rattle.sp_lower.proofs.functions.function_entry.Goals as goal

abbrev entry_with : ℕ → List Val → Body
entry_with takes fresh = record { start = 0; called = called_is.Called.Function; takes = takes; fresh = fresh; name = []; told = 0 }

pub returns : goal.returns
returns c =
    let ranges = (globals_of c.args.list.now).ranges in
    let takes = c.in_ok-takes.ensures ∙ ap (λ (l : List Parameter). length l) c.as_slice.ensures in
    let fresh = c.in_ok-fresh.ensures ∙ ap (λ (l : List Ty). zero_slots ranges l) c.as_slice-2.ensures in
    ap (λ (n : ℕ). entry_with n c.in_ok-fresh.fresh) takes ∙ ap (entry_with (length c.args.x.now.parameters)) fresh
