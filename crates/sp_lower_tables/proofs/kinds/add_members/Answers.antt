use Rattle.std.proofs.Common.{drop, refl, arith}
use Rattle.sp_meaning_states.specs.Types.{kind_of_type}
use Rattle.sp_meaning.specs.Globals.{globals_of}
use Rattle.sp_code_programs.specs.programs.Units.{member_kinds}
use Rattle.sp_lower_tables.proofs.Numbered.{next_item, none_left, leads_on, leads_to}
use Rattle.sp_lower_tables.proofs.kinds.add_members.Goals as goal

pub loop-member-preserved : goal.loop-member-preserved
loop-member-preserved c =
    let ranges = (globals_of c.args.list.now).ranges in
    let all = c.args.members.now in
    let i = c.loop-member.member-index in
    let next = next_item all i c.member-item.result c.loop-member-test.true c.member-item.is in
    leads_on (member_kinds ranges) (λ x. kind_of_type ranges x.ty) (λ x rest. refl) c.args.out.now c.loop-member.out _ c.args.numbers.now.items c.loop-member.numbers.items _ all i c.member-item.result next c.loop-member.invariant c.in_ok-add_type.ensures

pub returns : goal.returns
returns c =
    let all = c.args.members.now in
    let i = c.loop-member.member-index in
    leads_to (member_kinds (globals_of c.args.list.now).ranges) c.args.out.now c.loop-member.out c.args.numbers.now.items c.loop-member.numbers.items all (drop i all) refl (none_left all i (omega arith)) c.loop-member.invariant
