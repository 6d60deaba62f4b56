-- A tree that is seen as a bitfield, as a bitfield of the typed list.
use Rattle.std.proofs.Common.{ℕ, ◌≡◌, sym, ap, ◌∙◌, List, [], ◌∷◌, map}
use Rattle.sp_base.specs.declared.places.Span.{Span}
use Rattle.sp_ast.specs.Trees.{Tree, tree, in_row, span_of}
use Rattle.sp_ast.specs.declared.forms.Form.TheVariants as form_is
use Rattle.sp_ast.specs.declared.forms.TypeForm.TheVariants as type_is
use Rattle.sp_typed_units.specs.declared.declarations.BitRange.{BitRange}
use Rattle.sp_typed_units.specs.declared.declarations.Bitfield.{Bitfield}
use Rattle.sp_names.specs.declared.rows.Bitfield.{Bitfield as Row}
use Rattle.sp_names.proofs.Lists.{list_of_trees}
use Rattle.sp_type_modules.specs.Members.{written_number, bitfield_width, bitfield_ranges}
use Rattle.sp_type_declarations.specs.Bitfields.{bit_range, width_tree, typed_bitfield}

abbrev made : ℕ → ℕ → Span → List BitRange → Bitfield
made m n at rs = record { «module» = m; width = n; width_span = at; ranges = rs }

pub bitfield_is : (b : Row) (s at : Span) (w : Tree) (ts : List Tree) (n : ℕ) (rs : List BitRange) → tree (form_is.Type type_is.Bitfield) s (w ∷ (in_row ts ∷ [])) ≡ b.tree → n ≡ written_number w → at ≡ span_of w → rs ≡ map bit_range ts
    → made b.«module» n at rs ≡ typed_bitfield b
bitfield_is b s at w ts n rs e width place ranges =
    let m = b.«module» in
    let own_width : written_number w ≡ bitfield_width b.tree = ap bitfield_width e in
    let own_tree : w ≡ width_tree b.tree = ap width_tree e in
    let own_ranges : ts ≡ bitfield_ranges b.tree = sym (list_of_trees ts) ∙ ap bitfield_ranges e in
    ap (λ k. made m k at rs) (width ∙ own_width)
    ∙ ap (λ a. made m (bitfield_width b.tree) a rs) (place ∙ ap span_of own_tree)
    ∙ ap (made m (bitfield_width b.tree) (span_of (width_tree b.tree))) (ranges ∙ ap (map bit_range) own_ranges)
