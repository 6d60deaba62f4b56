-- What stands in a view, in other bytes or at another place, in both texts.
use Rattle.std.proofs.Common.{ℕ, List, refl, sym, subst}
use Rattle.sp_value.specs.Val.{Val}
use Rattle.sp_meaning_states.specs.States.{State, End, Need, Unfinished, Result, ends, fails}
use Rattle.sp_meaning_states.specs.Scopes.{Scope, left, inside}
use Rattle.sp_meaning_units.specs.Openings.{Opening, Opened, Opens, Refuses, open_by, with_opened, inside_opened}
use Rattle.sp_law_meaning.specs.Laws.{Behind, Agree}
use Rattle.sp_law_meaning.proofs.Agree.{Both, here, ended}
use Rattle.sp_law_meaning.proofs.Framed.{framed}
use Rattle.sp_law_pieces.specs.States.{Low}
use Rattle.sp_law_pieces.proofs.Low.{agree_low}
use Rattle.sp_law_pieces.proofs.Framed.{LeftAlike, OpenAlike, opens_same, fails_same}

-- what is left of an end, behind which the states are in frames
left_low : (at : ℕ) (us : List Val) (x : Scope) → LeftAlike x → (how : End) (st ts : State) → Behind (Low at us) how st ts → Agree (Low at us) (left x how st) (left x how ts)
left_low at us x h (Need m) st ts b = here tt
left_low at us x h Unfinished st ts b =
    subst (λ r. Agree (Low at us) r (left x Unfinished ts)) (sym (h.nothing st)) (subst (λ r. Agree (Low at us) (ends Unfinished (h.behind_nothing st)) r) (sym (h.nothing ts)) (record { how = refl; told = refl; behind = tt }))
left_low at us x h how st ts b =
    subst (λ ts. Agree (Low at us) (left x how st) (left x how ts)) (sym b.are) (agree_low at us b.own b.close (left x how st) (left x how (framed b.own st)) (h.alike b.own how st))

pub inside_low : (at : ℕ) (us : List Val) (x : Scope) → LeftAlike x → (r s : Result) → Agree (Low at us) r s → Agree (Low at us) (inside x r) (inside x s)
inside_low at us x h r s a = ended (Low at us) (Low at us) (left x) (left x) (left_low at us x h) r s a

-- a part inside of what is opened by a value
pub opened_same : (at : ℕ) (us : List Val) (o : Opening) (v : Val) (go on : State → Result) → Both (Low at us) go on → Both (Low at us) (inside_opened o v go) (inside_opened o v on)
opened_same at us o v go on h st ts r =
    subst (λ ts. Agree (Low at us) (inside_opened o v go st) (inside_opened o v on ts)) (sym r.are) (by_opened (open_by o v st) (open_by o v (framed r.own st)) (opens_same r.own o v st))
  where
    by_opened : (a b : Opened) → OpenAlike r.own a b → Agree (Low at us) (with_opened a go st) (with_opened b on (framed r.own st))
    by_opened (Opens x s) (Opens y t) e =
        subst (λ y. Agree (Low at us) (inside x (go s)) (inside y (on t))) e.0
        (inside_low at us x e.2 (go s) (on t) (h s t (record { own = r.own; close = r.close; are = e.1 })))
    by_opened (Refuses k) (Refuses l) e =
        subst (λ l. Agree (Low at us) (fails k st) (fails l (framed r.own st))) e (agree_low at us r.own r.close (fails k st) (fails k (framed r.own st)) (fails_same r.own k st (framed r.own st) refl))
    by_opened (Opens x s) (Refuses l) e = absurd e
    by_opened (Refuses k) (Opens y t) e = absurd e
