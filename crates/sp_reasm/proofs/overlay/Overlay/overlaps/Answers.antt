use Rattle.std.proofs.Common.{◌≡◌, ◌+◌, ◌-◌, length, take, drop, refl, subst, ap, ◌∙◌, arith}
use Rattle.sp_reasm.specs.inside.Overlays.{owner_in, IsNext, IsFirstRun}
use Rattle.sp_reasm.proofs.TellLemmas.{overlaps_more, overlaps_done}
use Rattle.sp_reasm.proofs.overlay.Overlay.overlaps.Goals as goal

pub loop-run-preserved : goal.loop-run-preserved
loop-run-preserved c =
    let to = c.args.from + length c.args.bytes.now in
    let first : IsFirstRun (owner_in c.args.self.now) c.loop-run.at (c.args.from + length c.args.bytes.now) c.in-Some.run'.start c.in-Some.run'.bytes = subst (λ o. IsNext (owner_in c.args.self.now) c.loop-run.at (c.args.from + length c.args.bytes.now) o) c.in-Some.is c.in_ok-run.ensures in
    let len = c.len.ensures in
    let new_is = c.in_ok-new.ensures ∙ ap (λ n. take n (drop (c.in-Some.run'.start - c.args.from) c.args.bytes.now)) (let e : c.in-Some.run'.start - c.args.from + c.len.result - (c.in-Some.run'.start - c.args.from) ≡ length c.in-Some.run'.bytes = omega (arith, len) in e) in
    let begins = first.begins in
    let grows = c.loop-run.invariant.0 in
    let more = overlaps_more (owner_in c.args.self.now) c.args.from c.loop-run.at (c.args.from + length c.args.bytes.now) c.in-Some.run'.start c.args.bytes.now c.in-Some.run'.bytes c.in_ok-new.new _ c.loop-run.notes c.push.new.self c.loop-run.invariant.0 refl c.loop-run.invariant.1 first new_is c.loop-run.invariant.2 c.in_ok-push.ensures.ok in
    rw c.len-in-Some.ensures (omega (arith, begins, grows), first.ends, more)

pub returns : goal.returns
returns c =
    overlaps_done (owner_in c.args.self.now) c.args.from c.loop-run.at (c.args.from + length c.args.bytes.now) c.args.bytes.now _ c.loop-run.notes c.loop-run.invariant.0 c.loop-run.invariant.1 refl (subst (λ o. IsNext (owner_in c.args.self.now) c.loop-run.at (c.args.from + length c.args.bytes.now) o) c.in_default.is c.in_ok-run.ensures) c.loop-run.invariant.2
