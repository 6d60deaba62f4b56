use Rattle.std.proofs.Common.{List, IfOk, subst}
use Rattle.sp_typed_units.specs.declared.declarations.Bitfield.{Bitfield}
use Rattle.sp_meaning_states.specs.Types.{kind_of_type}
use Rattle.sp_meaning.specs.Globals.{range_counts}
use Rattle.sp_emit.specs.Kinds.{IsNumberOf}
use Rattle.sp_lower_tables.proofs.Numbered.{gives}
use Rattle.sp_lower_tables.proofs.kinds.type_number.Goals as goal

pub returns : goal.returns
returns c =
    let number = subst (λ (bs : List Bitfield). IfOk c.kind.result (IsNumberOf c.kind.new.self.kinds (kind_of_type (range_counts bs) c.args.ty.now))) c.as_slice.ensures c.kind.ensures.number in
    gives c.args.out.now c.kind.new.self _ c.kind.result c.kind.ensures.same number
