-- What is appended, one after another, and fronts of it.
use Rattle.std.proofs.Common.{◌≡◌, List, [], ◌∷◌, ◌++◌, Result, Ok, Err, OnErr, refl, sym, ap, ◌∙◌, append_assoc}
use Rattle.std.proofs.lemmas.List.{append-nil}
use Rattle.sp_events.specs.declared.event.Event.{Event}
use Rattle.sp_events.specs.declared.event.What.{What}
use Rattle.sp_meaning.specs.Meaning.{told}
use Rattle.sp_session.specs.Units.{of_flow}
use Rattle.sp_session.specs.Telling.{IsFront}

pub of_flow_both : (xs ys : List What) → of_flow (xs ++ ys) ≡ of_flow xs ++ of_flow ys
of_flow_both [] ys = refl
of_flow_both (x ∷ xs) ys = ap (λ (es : List Event). record { at = []; what = x } ∷ es) (of_flow_both xs ys)

-- one more, of which some are left
pub appended_more : (first before after : List Event) (xs : List What) (x : What) → before ≡ first ++ of_flow xs → after ≡ before ++ told x → after ≡ first ++ of_flow (xs ++ x ∷ [])
appended_more first before after xs x is pushed =
    pushed ∙ ap (λ es. es ++ told x) is ∙ append_assoc first (of_flow xs) (told x) ∙ ap (λ es. first ++ es) (sym (of_flow_both xs (x ∷ [])))

pub left_more : (all xs rest behind : List What) (x : What) → xs ++ rest ≡ all → rest ≡ x ∷ behind → (xs ++ x ∷ []) ++ behind ≡ all
left_more all xs rest behind x is step = append_assoc xs (x ∷ []) behind ∙ ap (λ ys. xs ++ ys) (sym step) ∙ is

-- at the end
pub appended_all : (first now : List Event) (all xs rest : List What) → now ≡ first ++ of_flow xs → xs ++ rest ≡ all → rest ≡ [] → now ≡ first ++ of_flow all
appended_all first now all xs rest is left none = is ∙ ap (λ ys. first ++ of_flow ys) (sym (append-nil xs) ∙ ap (λ ys. xs ++ ys) (sym none) ∙ left)

-- fronts
pub front_left : (first now : List Event) (all xs rest : List What) → now ≡ first ++ of_flow xs → xs ++ rest ≡ all → IsFront first now (of_flow all)
front_left first now all xs rest is left = record { appended = of_flow xs; rest = of_flow rest; is = is; all = sym (ap of_flow left) ∙ of_flow_both xs rest }

pub front_none : (first events : List Event) → IsFront first first events
front_none first events = record { appended = []; rest = events; is = sym (append-nil first); all = refl }

pub front_more : (first now xs ys : List Event) → IsFront first now xs → IsFront first now (xs ++ ys)
front_more first now xs ys f = record { appended = f.appended; rest = f.rest ++ ys; is = f.is; all = ap (λ es. es ++ ys) f.all ∙ append_assoc f.appended f.rest ys }

pub front_first : (first now xs ys : List Event) → now ≡ first ++ xs → IsFront first now (xs ++ ys)
front_first first now xs ys is = record { appended = xs; rest = ys; is = is; all = refl }

pub front_all : (first now xs : List Event) → now ≡ first ++ xs → IsFront first now xs
front_all first now xs is = record { appended = xs; rest = []; is = is; all = sym (append-nil xs) }

-- what holds holds also where a call fails
pub on_err : {T E : Type 0} (r : Result T E) (P : Type 0) → P → OnErr r P
on_err (Ok v) P p = tt
on_err (Err e) P p = p
