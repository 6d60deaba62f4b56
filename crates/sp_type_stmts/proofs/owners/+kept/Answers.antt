use Rattle.sp_type_stmts.proofs.Steps.{kept_step, kept_scope, size_behind}
use Rattle.sp_type_stmts.proofs.owners.+kept.Goals as goal

pub all_kept-loop-part-preserved : goal.all_kept-loop-part-preserved
all_kept-loop-part-preserved t c = (
  kept_step c.loop-part.all.items c.push.new.self.items c.loop-part.scope c.keep_owners.new.scope c.loop-part.parts.items c.pop.new.self.items c.in-Some.part c.in_ok-keep_owners.field-0 _ c.in-Some.ensures.items c.in_ok-keep_owners.ensures.expr c.in_ok-keep_owners.ensures.scope c.in_ok-push.ensures.items c.loop-part.invariant.0,
  kept_scope c.loop-part.scope c.keep_owners.new.scope c.loop-part.parts.items c.pop.new.self.items c.in-Some.part _ c.in-Some.ensures.items c.in_ok-keep_owners.ensures.scope c.loop-part.invariant.1,
  size_behind c.loop-part.parts.items c.pop.new.self.items c.in-Some.part _ c.in-Some.ensures.items c.loop-part.invariant.2,
)
