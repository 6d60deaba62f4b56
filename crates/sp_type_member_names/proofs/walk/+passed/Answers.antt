use Rattle.std.proofs.Common.{ℕ, ◌+◌, ◌++◌, ◌∙◌, ap, subst, refl, false, Global}
use Rattle.std.specs.Prelude.{◌-◌}
use Rattle.std.specs.declared.vec.Vec.{Vec}
use Rattle.sp_ast.specs.Trees.{trees, trees_size}
use Rattle.sp_names.proofs.Bits.{less_behind}
use Rattle.sp_type_modules.specs.Sources.{declared_in, declared_among}
use Rattle.sp_type_modules.specs.Taken.{numbers_of, kept_of, taken_in, taken_arms}
use Rattle.sp_type_member_names.specs.inside.Seen.{told_count, how_many}
use Rattle.sp_type_member_names.specs.inside.Passing.{PassedIn}
use Rattle.sp_type_member_names.proofs.Passing.{among_step, among_end, arms_step, arms_end, shown, hidden}
use Rattle.sp_type_member_names.proofs.walk.+passed.Goals as goal

pub pass_arms-loop-arm-preserved : goal.pass_arms-loop-arm-preserved
pass_arms-loop-arm-preserved g t c =
    let n = g.N.Naming.numbers c.args.naming.now in
    let type_at = g.N.Naming.types c.args.naming.now in
    let left = c.loop-arm.arm-iterator in
    let steps = c.in-Some.ensures.steps in (
      tt,
      tt,
      arms_step n type_at c.args.seen.now c.loop-arm.seen c.pass_arm.new.seen c.in-Some.arm c.next.new.self left (trees c.args.arms) steps c.in_ok-pass_arm.ensures c.loop-arm.invariant.2,
      less_behind c.in-Some.arm c.next.new.self left (trees_size (trees c.args.arms)) steps c.loop-arm.invariant.3,
    )

pub pass_arms-returns : goal.pass_arms-returns
pass_arms-returns g t c =
    arms_end (g.N.Naming.numbers c.args.naming.now) (g.N.Naming.types c.args.naming.now) c.args.seen.now c.loop-arm.seen c.loop-arm.arm-iterator (trees c.args.arms) c.in-None.ensures.steps.0 c.loop-arm.invariant.2

pub pass_parts-loop-part-preserved : goal.pass_parts-loop-part-preserved
pass_parts-loop-part-preserved g t c =
    let n = g.N.Naming.numbers c.args.naming.now in
    let type_at = g.N.Naming.types c.args.naming.now in
    let left = c.loop-part.part-iterator in
    let steps = c.in-Some.ensures.steps in (
      tt,
      tt,
      among_step n type_at c.args.seen.now c.loop-part.seen c.pass_part.new.seen c.in-Some.part c.next.new.self left (trees c.args.parts) steps c.in_ok-pass_part.ensures c.loop-part.invariant.2,
      less_behind c.in-Some.part c.next.new.self left (trees_size (trees c.args.parts)) steps c.loop-part.invariant.3,
    )

pub pass_parts-returns : goal.pass_parts-returns
pass_parts-returns g t c =
    among_end (g.N.Naming.numbers c.args.naming.now) (g.N.Naming.types c.args.naming.now) c.args.seen.now c.loop-part.seen c.loop-part.part-iterator (trees c.args.parts) c.in-None.ensures.steps.0 c.loop-part.invariant.2

pub pass_switch-returns : goal.pass_switch-returns
pass_switch-returns g t c =
    let n = g.N.Naming.numbers c.args.naming.now in
    let type_at = g.N.Naming.types c.args.naming.now in
    let tree = trees c.args.arms in
    let old = c.args.seen.now in
    let mid = c.pass_arms.new.seen in
    let back = c.in_ok-restore.ensures in
    shown (λ near kept. taken_arms n type_at near kept tree) (numbers_of n type_at (declared_among tree)) (kept_of n type_at (declared_among tree)) old
    (record { near = old.near; kept = old.kept; trail = c.replace-before.new.dest; places = old.places }) mid c.restore.new.seen
    c.in_ok-pass_arms.ensures
    (ap (λ (v : Vec ℕ Global). v.items) c.replace-before.ensures.after ∙ c.new.ensures.items)
    refl
    (λ near kept s. record { near_is = s.near_is; kept_is = s.kept_is })
    (λ j. back.near_stays j ∙ c.in_ok-show.ensures j ∙ ap (λ l. told_count mid.near j + how_many j l) c.deref.ensures.value)
    back.kept_stays back.places_stay
    (back.trail_grows ∙ ap (λ (v : Vec ℕ Global). v.items ++ mid.trail.items) c.replace-before.ensures.value)

pub pass_arm-returns : goal.pass_arm-returns
pass_arm-returns g t c =
    let n = g.N.Naming.numbers c.args.naming.now in
    let type_at = g.N.Naming.types c.args.naming.now in
    let body = c.view.result.body in
    let old = c.args.seen.now in
    let mid = c.pass_body.new.seen in
    let back = c.in_ok-restore.ensures in
    subst (λ u. PassedIn n type_at false u old c.restore.new.seen) c.view.ensures
    (hidden (λ near kept. taken_in n type_at near kept body) (numbers_of n type_at (declared_in body)) (kept_of n type_at (declared_in body)) old
    (record { near = old.near; kept = old.kept; trail = c.replace-before.new.dest; places = old.places }) mid c.restore.new.seen
    c.in_ok-pass_body.ensures
    (ap (λ (v : Vec ℕ Global). v.items) c.replace-before.ensures.after ∙ c.new.ensures.items)
    refl
    (λ near kept s. record { near_is = s.near_is; kept_is = s.kept_is })
    (λ j. back.near_stays j ∙ c.in_ok-hide.ensures j ∙ ap (λ l. told_count mid.near j - how_many j l) c.deref.ensures.value)
    back.kept_stays back.places_stay
    (back.trail_grows ∙ ap (λ (v : Vec ℕ Global). v.items ++ mid.trail.items) c.replace-before.ensures.value))
