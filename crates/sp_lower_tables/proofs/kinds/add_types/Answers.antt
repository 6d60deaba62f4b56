use Rattle.std.proofs.Common.{drop, refl, arith}
use Rattle.sp_meaning_states.specs.Types.{kind_of_type}
use Rattle.sp_meaning.specs.Globals.{globals_of}
use Rattle.sp_code_programs.specs.programs.Routines.{slot_kinds}
use Rattle.sp_lower_tables.proofs.Numbered.{next_item, none_left, leads_on, leads_to}
use Rattle.sp_lower_tables.proofs.kinds.add_types.Goals as goal

pub loop-ty-preserved : goal.loop-ty-preserved
loop-ty-preserved c =
    let ranges = (globals_of c.args.list.now).ranges in
    let all = c.args.types.now in
    let i = c.loop-ty.ty-index in
    let next = next_item all i c.ty-item.result c.loop-ty-test.true c.ty-item.is in
    leads_on (slot_kinds ranges) (kind_of_type ranges) (λ x rest. refl) c.args.out.now c.loop-ty.out _ c.args.numbers.now.items c.loop-ty.numbers.items _ all i c.ty-item.result next c.loop-ty.invariant c.in_ok-add_type.ensures

pub returns : goal.returns
returns c =
    let all = c.args.types.now in
    let i = c.loop-ty.ty-index in
    leads_to (slot_kinds (globals_of c.args.list.now).ranges) c.args.out.now c.loop-ty.out c.args.numbers.now.items c.loop-ty.numbers.items all (drop i all) refl (none_left all i (omega arith)) c.loop-ty.invariant
