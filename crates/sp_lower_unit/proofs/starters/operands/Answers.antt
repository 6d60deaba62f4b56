use Rattle.std.proofs.Common.{◌+◌, List, drop, sym, subst, arith}
use Rattle.sp_typed_units.specs.declared.declarations.Bitfield.{Bitfield}
use Rattle.sp_typed_units.specs.declared.declarations.Parameter.{Parameter}
use Rattle.sp_meaning_states.specs.Types.{kind_of_type}
use Rattle.sp_meaning.specs.Globals.{range_counts, globals_of}
use Rattle.sp_code.specs.Shapes.{with_operands, push}
use Rattle.sp_code_programs.specs.units.Units.{kinds_over}
use Rattle.sp_emit.specs.Emitted.{TurnsTo}
use Rattle.sp_lower_unit.proofs.Joined.{next_item, none_left}
use Rattle.sp_lower_unit.proofs.Begun.{operands_next, turns_none}
use Rattle.sp_lower_unit.proofs.starters.operands.Goals as goal

pub loop-parameter-preserved : goal.loop-parameter-preserved
loop-parameter-preserved c =
    let ranges = (globals_of c.args.list.now).ranges in
    let i = c.loop-parameter.parameter-index in
    let p = c.parameter-item.result in
    let out = c.loop-parameter.out in
    let next = next_item c.args.parameters.now i p c.loop-parameter-test.true c.parameter-item.is in
    let pushed = subst (λ (bs : List Bitfield). TurnsTo out c.push_type.new.self (push (kind_of_type (range_counts bs) p.ty) out.now)) c.as_slice.ensures c.in_ok-push_type.ensures in
    λ x left.
    c.loop-parameter.invariant x
    (subst (λ (ps : List Parameter). TurnsTo out x (with_operands out.now (kinds_over ranges ps out.now.operands))) (sym next) (operands_next ranges out _ x p (drop (i + 1) c.args.parameters.now) pushed left))

pub returns : goal.returns
returns c =
    let ranges = (globals_of c.args.list.now).ranges in
    let out = c.loop-parameter.out in
    c.loop-parameter.invariant out
    (subst (λ (ps : List Parameter). TurnsTo out out (with_operands out.now (kinds_over ranges ps out.now.operands))) (sym (none_left c.args.parameters.now c.loop-parameter.parameter-index (omega arith))) (turns_none out))
