use Rattle.std.proofs.Common.{◌∷◌, [], ◌++◌, reverse, sym, subst, ap, ◌∙◌}
use Rattle.sp_code.specs.Programs.{names_of}
use Rattle.sp_show.specs.Inside.{AreOpen, tree_inside}
use Rattle.sp_show.specs.Plans.{plans, tell, run}
use Rattle.sp_show.proofs.Lists.{told_outside}
use Rattle.sp_show.proofs.Moves.{pushed}
use Rattle.sp_show.proofs.walk.walk_value.Goals as goal

pub loop-task-init : goal.loop-task-init
loop-task-init c =
    let names = names_of c.args.p.now in
    let instances = c.args.instances.now in
    let v = c.args.v.now in (
      ap (λ ps. run names instances ps (reverse c.new-outer.result.items) c.new-done.result.items)
          (pushed c.new-tasks.result.items _ c.in_ok-push.ensures.items ∙ ap (λ ts. tell v ∷ plans ts) c.new-tasks.ensures.items)
          ∙ ap (λ r. run names instances (tell v ∷ []) (reverse r) c.new-done.result.items) c.new-outer.ensures.items
          ∙ ap (λ ts. ts ++ tree_inside names instances [] v ∷ []) c.new-done.ensures.items
          ∙ ap (λ t. t ∷ []) (told_outside names instances v),
      subst (λ r. AreOpen instances (reverse r)) (sym c.new-outer.ensures.items) tt,
    )
