use Rattle.std.proofs.Common.{◌≡◌, ◌+◌, ◌++◌, map, sym, subst}
use Rattle.sp_reasm.specs.inside.Overlays.{owner_in, data_in, IsNext}
use Rattle.sp_reasm.specs.Notes.{runs, undelivered_note}
use Rattle.sp_reasm.proofs.TellLemmas.{undelivered_more, undelivered_end}
use Rattle.sp_reasm.proofs.overlay.Overlay.undelivered.Goals as goal

pub loop-run-preserved : goal.loop-run-preserved
loop-run-preserved c =
    subst (λ n. c.push.new.self ++ map undelivered_note (runs (c.in-Some.run'.start + n) (data_in (owner_in c.args.self.now) (c.in-Some.run'.start + n) c.args.to)) ≡ c.args.notes.now ++ map undelivered_note (runs c.args.from (data_in (owner_in c.args.self.now) c.args.from c.args.to))) (sym c.len.ensures)
    (undelivered_more (owner_in c.args.self.now) c.loop-run.at c.args.to c.in-Some.run'.start c.in-Some.run'.bytes (c.args.notes.now ++ map undelivered_note (runs c.args.from (data_in (owner_in c.args.self.now) c.args.from c.args.to))) c.loop-run.notes c.push.new.self (subst (λ o. IsNext (owner_in c.args.self.now) c.loop-run.at c.args.to o) c.in-Some.is c.in_ok-run.ensures) c.loop-run.invariant c.in_ok-push.ensures.ok)

pub returns : goal.returns
returns c =
    undelivered_end (owner_in c.args.self.now) c.loop-run.at c.args.to _ c.loop-run.notes (subst (λ o. IsNext (owner_in c.args.self.now) c.loop-run.at c.args.to o) c.in_default.is c.in_ok-run.ensures) c.loop-run.invariant
