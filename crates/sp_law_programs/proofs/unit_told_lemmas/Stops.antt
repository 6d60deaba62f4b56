-- Runs of the plain machine are determined, and go on over more of an input.
use Rattle.std.proofs.Common.{◌≡◌, List, [], ◌++◌, refl, sym, ap, ◌∙◌, subst, append_assoc, append-nil}
use Rattle.sp_events.specs.declared.event.What.{What}
use Rattle.sp_meaning_states.specs.States.{Reading}
use Rattle.sp_meaning_states.specs.Reads.{Ask, Read, reads}
use Rattle.sp_code.specs.Machine.{Plain, Config, Next, Goes, step}
use Rattle.sp_code.specs.Runs.{Comes, here, next}
use Rattle.sp_law_code.proofs.exprs_lemmas.Steps.{then_comes}
use Rattle.sp_law_machine.proofs.continues_lemmas.Steps.{runs_continue}
use Rattle.sp_law_machine.specs.ends.Ending.{IsStop}
use Rattle.sp_law_programs.specs.unit_told.Laws.{RunsPass, StopsAreOne, RunsGoOn}

-- what a step tells, and to what it goes on
abbrev told_by : Next → List What
told_by (Goes es d) = es
told_by x = []

abbrev goes_to : Config → Next → Config
goes_to c (Goes es d) = d
goes_to c x = c

pub runs_pass : RunsPass
runs_pass p reads c d e es fs here b stop = (fs, refl, b)
runs_pass p reads c d e es fs (next one rest) here stop = absurd (subst IsStop one stop)
runs_pass p reads c d e es fs (next {d = f} {es = gs} {fs = hs} one rest) (next {d = g} {es = is} {fs = js} other more) stop =
    let same : Goes is g ≡ Goes gs f = sym other ∙ one in
    let r = runs_pass p reads f d e hs js rest (subst (λ x. Comes p reads x js e) (ap (goes_to c) same) more) stop in
    (r.0, ap (λ l. l ++ js) (ap told_by same) ∙ ap (λ l. gs ++ l) r.1 ∙ sym (append_assoc gs hs r.0), r.2)

-- a run from a stop is none
no_run : (p : Plain) (reads : Reading → Ask → Read) (d e : Config) (es : List What) → IsStop (step p reads d) → Comes p reads d es e → (es ≡ []) × (d ≡ e)
no_run p reads d e es stop here = (refl, refl)
no_run p reads d e es stop (next one rest) = absurd (subst IsStop one stop)

pub stops_are_one : StopsAreOne
stops_are_one p reads c d e es fs a at_d b at_e =
    let r = runs_pass p reads c d e es fs a b at_e in
    let n = no_run p reads d e r.0 at_d r.2 in
    (sym (r.1 ∙ ap (λ l. es ++ l) n.0 ∙ append-nil es), n.1)

pub runs_go_on : RunsGoOn
runs_go_on p verdict steady s t close c d e es fs a b = then_comes p (reads verdict (s ++ t) close) (runs_continue p verdict steady s t close c d es a) b
