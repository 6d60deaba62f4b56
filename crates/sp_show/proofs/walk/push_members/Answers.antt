use Rattle.std.proofs.Common.{◌++◌, ◌∷◌, drop, sym, ap, ◌∙◌, arith}
use Rattle.std.specs.Prelude.{option_copied}
use Rattle.sp_show.specs.Plans.{plans, tell, tells, listed, members_told}
use Rattle.sp_show.proofs.Moves.{pushed, from_member_before, members_over}
use Rattle.sp_show.proofs.walk.push_members.Goals as goal

pub loop-m-init : goal.loop-m-init
loop-m-init c =
    let over = members_over c.args.names.now c.args.instance.now.members c.min-m.result (omega arith) in
    (omega arith, omega arith, ap (λ vs. tells vs ++ plans c.args.tasks.now.items) (sym over))

pub loop-m-preserved-in-Continue-1 : goal.loop-m-preserved-in-Continue-1
loop-m-preserved-in-Continue-1 c =
    let old = plans c.args.tasks.now.items in
    let xs = c.args.names.now in
    let os = c.args.instance.now.members in
    let m = c.loop-m.m in
    let told = sym c.told_member.ensures ∙ ap option_copied c.in-Some.is in (
      omega arith,
      omega arith,
      pushed c.loop-m.tasks.items _ c.in_ok-push.ensures.items
          ∙ ap (λ ps. tell c.in-Some.v.now ∷ ps) c.loop-m.invariant.2
          ∙ ap (λ o. tells (listed o ++ members_told (drop m xs) (drop m os)) ++ old) (sym told)
          ∙ ap (λ vs. tells vs ++ old) (from_member_before xs os m (omega arith) c.loop-m.invariant.0 c.loop-m.invariant.1),
    )

pub loop-m-preserved : goal.loop-m-preserved
loop-m-preserved c =
    let old = plans c.args.tasks.now.items in
    let xs = c.args.names.now in
    let os = c.args.instance.now.members in
    let m = c.loop-m.m in
    let told = sym c.told_member.ensures ∙ ap option_copied c.in_default.is in (
      omega arith,
      omega arith,
      c.loop-m.invariant.2
          ∙ ap (λ o. tells (listed o ++ members_told (drop m xs) (drop m os)) ++ old) (sym told)
          ∙ ap (λ vs. tells vs ++ old) (from_member_before xs os m (omega arith) c.loop-m.invariant.0 c.loop-m.invariant.1),
    )
