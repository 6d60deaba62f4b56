-- Which end is told by a step that stops, and by that step alone.
use Rattle.std.proofs.Common.{◌≡◌, ℕ, List, refl, ap}
use Rattle.sp_value.specs.Val.{Val}
use Rattle.sp_meaning_states.specs.States.{Error, State, End, Gives, Failed, Returned, Backs, Rejected, Need, Unfinished}
use Rattle.sp_code.specs.Machine.{Frame, Next, Goes, Waits, Over, low_of}
use Rattle.sp_law_programs.specs.unit_told.Told.{told_end}
use Rattle.sp_law_programs.specs.unit_told.Laws.{EndsAreExact}

-- what an end holds
abbrev needed : End → ℕ
needed (Need m) = m
needed how = 0

abbrev given_by : Val → End → Val
given_by v (Gives w) = w
given_by v how = v

abbrev failed_by : Error → End → Error
failed_by e (Failed f) = f
failed_by e how = e

pub needs_wait : (fs : List Frame) (x : Next) (m : ℕ) → told_end fs x ≡ Need m → (mark : ℕ) × (x ≡ Waits mark) × (low_of fs mark ≡ m)
needs_wait fs (Goes es d) m h = absurd (let q : Unfinished ≡ Need m = h in cc)
needs_wait fs (Waits k) m h = (k, refl, ap needed h)
needs_wait fs (Over (Returned w) st) m h = absurd (let q : Gives w ≡ Need m = h in cc)
needs_wait fs (Over (Failed f) st) m h = absurd (let q : Failed f ≡ Need m = h in cc)
needs_wait fs (Over Backs st) m h = absurd (let q : Backs ≡ Need m = h in cc)
needs_wait fs (Over Rejected st) m h = absurd (let q : Rejected ≡ Need m = h in cc)
needs_wait fs (Over _ st) m h = absurd (let q : Unfinished ≡ Need m = h in cc)

given_returns : (fs : List Frame) (x : Next) (v : Val) → told_end fs x ≡ Gives v → (st : State) × (x ≡ Over (Returned v) st)
given_returns fs (Goes es d) v h = absurd (let q : Unfinished ≡ Gives v = h in cc)
given_returns fs (Waits k) v h = absurd (let q : Need (low_of fs k) ≡ Gives v = h in cc)
given_returns fs (Over (Returned w) st) v h = (st, ap (λ w. Over (Returned w) st) (ap (given_by v) h))
given_returns fs (Over (Failed f) st) v h = absurd (let q : Failed f ≡ Gives v = h in cc)
given_returns fs (Over Backs st) v h = absurd (let q : Backs ≡ Gives v = h in cc)
given_returns fs (Over Rejected st) v h = absurd (let q : Rejected ≡ Gives v = h in cc)
given_returns fs (Over _ st) v h = absurd (let q : Unfinished ≡ Gives v = h in cc)

failed_fails : (fs : List Frame) (x : Next) (e : Error) → told_end fs x ≡ Failed e → (st : State) × (x ≡ Over (Failed e) st)
failed_fails fs (Goes es d) e h = absurd (let q : Unfinished ≡ Failed e = h in cc)
failed_fails fs (Waits k) e h = absurd (let q : Need (low_of fs k) ≡ Failed e = h in cc)
failed_fails fs (Over (Returned w) st) e h = absurd (let q : Gives w ≡ Failed e = h in cc)
failed_fails fs (Over (Failed f) st) e h = (st, ap (λ f. Over (Failed f) st) (ap (failed_by e) h))
failed_fails fs (Over Backs st) e h = absurd (let q : Backs ≡ Failed e = h in cc)
failed_fails fs (Over Rejected st) e h = absurd (let q : Rejected ≡ Failed e = h in cc)
failed_fails fs (Over _ st) e h = absurd (let q : Unfinished ≡ Failed e = h in cc)

pub ends_are_exact : EndsAreExact
ends_are_exact fs x = (needs_wait fs x, given_returns fs x, failed_fails fs x)
