-- What is told on of a fiber whose unit ends so, where the unit waited and where it was over.
use Rattle.std.proofs.Common.{◌≡◌, ◌≢◌, List, ◌++◌, refl, sym, ap, ◌∙◌, subst}
use Rattle.std.proofs.lemmas.List.{append-nil}
use Rattle.sp_events.specs.declared.event.Event.{Event}
use Rattle.sp_events.specs.declared.event.What.{What}
use Rattle.sp_meaning_states.specs.States.{Result}
use Rattle.sp_meaning_states.specs.Telling.{Names}
use Rattle.sp_fiber.specs.Fibers.{Suspended}
use Rattle.sp_meaning.specs.declared.stand.Stand.{Stand}
use Rattle.sp_meaning.specs.declared.stand.Stand.TheVariants.{Waiting, Done, Failed}
use Rattle.sp_session.specs.declared.ending.Ending.{Ending}
use Rattle.sp_session.specs.Units.{of_flow}
use Rattle.sp_session.specs.Telling.{last_by, stand_by, IsEnding, IsOfFiber, news, next_stand, IsFront, IsToldOn, IsToldInPart}
use Rattle.sp_session.proofs.Fronts.{front_none}

module _ (f : Suspended) (names : Names) (es : List What) where
  -- a unit that was over
  pub over_told : (stand : Stand) (out : List Event) → stand ≢ Waiting → IsToldOn f names es stand stand out out
  over_told Waiting out final = absurd (final refl)
  over_told Done out final = λ close from s r h. (sym (append-nil out), refl)
  over_told (Failed e) out final = λ close from s r h. (sym (append-nil out), refl)

  -- nothing was appended
  pub none_told : (stand : Stand) (out : List Event) → IsToldInPart f names es stand out out
  none_told stand out = λ close from s r h. front_none out (news names r es stand)

  module _ (e : Ending) (is : IsOfFiber f names e) (old : Stand) (waits : old ≡ Waiting) where
    news_are : (r : Result) → IsEnding names r e → of_flow es ++ last_by e ≡ news names r es old
    news_are r x = ap (λ ys. of_flow es ++ ys) x.tells ∙ ap (news names r es) (sym waits)

    stand_now : (r : Result) → IsEnding names r e → stand_by e ≡ next_stand r old
    stand_now r x = x.stands ∙ ap (next_stand r) (sym waits)

    pub waiting_told : (now : Stand) (before after : List Event) → after ≡ before ++ (of_flow es ++ last_by e) → now ≡ stand_by e → IsToldOn f names es old now before after
    waiting_told now before after told stands = λ close from s r h.
        let x = is close from s r h in
        (told ∙ ap (λ ys. before ++ ys) (news_are r x), stands ∙ stand_now r x)

    pub waiting_front : (before after : List Event) → IsFront before after (of_flow es ++ last_by e) → IsToldInPart f names es old before after
    waiting_front before after front = λ close from s r h. subst (IsFront before after) (news_are r (is close from s r h)) front
