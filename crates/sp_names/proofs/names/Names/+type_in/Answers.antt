use Rattle.std.proofs.Common.{◌∙◌}
use Rattle.sp_ast.specs.Trees.{trees, trees_size}
use Rattle.sp_solver.specs.Told.{told}
use Rattle.sp_names.specs.Types.{types_in}
use Rattle.sp_names.proofs.Bits.{less_behind}
use Rattle.sp_names.proofs.TypesOf.{one_type, all_types}
use Rattle.sp_names.proofs.names.Names.+type_in.Goals as goal

pub types_in-loop-member-preserved : goal.types_in-loop-member-preserved
types_in-loop-member-preserved t c =
    let left = c.loop-member.member-iterator in
    let steps = c.in-Some.ensures.steps in (
      tt,
      tt,
      one_type c.args.self.now (told c.args.known.now) c.args.owner c.in-Some.member c.next.new.self left c.loop-member.parts.items c.push.new.self.items c.in_ok-type_in.field-0 steps c.in_ok-push.ensures.items c.in_ok-type_in.ensures ∙ c.loop-member.invariant.2,
      less_behind c.in-Some.member c.next.new.self left (trees_size (trees c.args.members)) steps c.loop-member.invariant.3,
    )

pub types_in-returns : goal.types_in-returns
types_in-returns t c =
    let f = told c.args.known.now in
    all_types c.args.self.now f c.args.owner c.loop-member.member-iterator c.loop-member.parts.items (types_in c.args.self.now f c.args.owner (trees c.args.members)) c.in-None.ensures.steps.0 c.loop-member.invariant.2
