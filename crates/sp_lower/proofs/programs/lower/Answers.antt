use Rattle.std.proofs.Common.{List, ap, ◌∙◌}
use Rattle.sp_typed_units.specs.declared.declarations.Bitfield.{Bitfield}
use Rattle.sp_typed_units.specs.declared.declarations.Enum.{Enum}
use Rattle.sp_meaning.specs.Names.{names_of_labels, names_of_ranges}
use Rattle.sp_lower.proofs.programs.lower.Goals as goal

pub returns : goal.returns
returns c =
    c.assembled.ensures c.args.list.now c.in_ok-code.ensures (c.in_ok-enums.ensures ∙ ap (λ (l : List Enum). names_of_labels l) c.as_slice.ensures) (c.in_ok-bitfields.ensures ∙ ap (λ (l : List Bitfield). names_of_ranges l) c.as_slice-2.ensures)
