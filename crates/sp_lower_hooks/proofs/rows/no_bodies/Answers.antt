use Rattle.std.proofs.Common.{◌≡◌, ◌+◌, ℕ, suc, ap, ◌∙◌, arith}
use Rattle.sp_lower_hooks.specs.inside.Rows.{turns_in}
use Rattle.sp_lower_hooks.proofs.Gathering.{no_turns, none_pushed}
use Rattle.sp_lower_hooks.proofs.rows.no_bodies.Goals as goal

pub loop-preserved : goal.loop-preserved
loop-preserved c =
    let next : suc c.loop.counter ≡ c.loop.counter + 1 = omega arith in
    ap turns_in c.in_ok-push.ensures.items
    ∙ none_pushed c.loop.rows.items c.loop.counter _ c.new.ensures.items c.loop.invariant
    ∙ ap (λ (n : ℕ). no_turns n) next
