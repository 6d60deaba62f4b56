-- The answer of a call is one.
use Rattle.std.proofs.Common.{◌≡◌, ℕ, List, [], Option, Some, None, sym, ap, ◌∙◌, subst, ⊎_elim}
use Rattle.sp_command.specs.declared.refusal.Refusal.{Refusal}
use Rattle.sp_command.specs.Refusals.{refusal_text}
use Rattle.sp_front.specs.declared.entries.ModuleFile.{ModuleFile}
use Rattle.sp_load.specs.Loads.{IsLoaded, IsLoadRefused}
use Rattle.sp_load.proofs.Loads.{one_load, one_load_refusal, loaded_or_refused}
use Rattle.sp_spicyc.specs.Files.{printed}
use Rattle.sp_spicyc.specs.Whole.{Answer, IsAnswer}
use Rattle.sp_spicyc.specs.Words.{Words, words_of}

abbrev Told : Type 0
Told = List ℕ → Option (List ℕ)

abbrev Loads : Told → Words → List ModuleFile → Type 0
Loads files w list = IsLoaded (Some files) w.files w.directories list

abbrev Refuses : Told → Words → Refusal → Type 0
Refuses files w refusal = IsLoadRefused (Some files) w.files w.directories refusal

abbrev done : List ℕ → Answer
done text = record { status = 0; out = text; err = [] }

abbrev stopped : Refusal → Answer
stopped refusal = record { status = 3; out = []; err = refusal_text refusal }

one_wanted : (o : Option Words) (a b : Words) → o ≡ Some a → o ≡ Some b → a ≡ b
one_wanted o a b x y = let e : Some a ≡ Some b = sym x ∙ y in cc

none_wanted : (o : Option Words) (a : Words) → o ≡ None → o ≡ Some a → ⊥
none_wanted o a x y = let e : None ≡ Some a = sym x ∙ y in cc

pub one_answer : (words : List (List ℕ)) (files : Told) (first second : Answer) → IsAnswer words files first → IsAnswer words files second → first ≡ second
one_answer words files first second a b =
    ⊎_elim
    (λ x. ⊎_elim (λ y. x.1 ∙ sym y.1) (λ z. ⊎_elim (λ y. absurd (none_wanted (words_of words) y.0 x.0 y.2)) (λ y. absurd (none_wanted (words_of words) y.0 x.0 y.2)) z) b)
    (λ w. ⊎_elim
    (λ x. ⊎_elim (λ y. absurd (none_wanted (words_of words) x.0 y.0 x.2))
    (λ z. ⊎_elim
    (λ y. let same = one_wanted (words_of words) y.0 x.0 y.2 x.2 in
    let r : Refuses files x.0 y.1 = subst (λ w. Refuses files w y.1) same y.3 in
    x.4 ∙ ap stopped (one_load_refusal files x.0.files x.0.directories x.1 y.1 x.3 r) ∙ sym y.4)
    (λ y. let same = one_wanted (words_of words) y.0 x.0 y.2 x.2 in
    absurd (loaded_or_refused files x.0.files x.0.directories y.1 x.1 (subst (λ w. Loads files w y.1) same y.3) x.3)) z) b)
    (λ x. ⊎_elim (λ y. absurd (none_wanted (words_of words) x.0 y.0 x.2))
    (λ z. ⊎_elim
    (λ y. let same = one_wanted (words_of words) y.0 x.0 y.2 x.2 in
    absurd (loaded_or_refused files x.0.files x.0.directories x.1 y.1 x.3 (subst (λ w. Refuses files w y.1) same y.3)))
    (λ y. let same = one_wanted (words_of words) y.0 x.0 y.2 x.2 in
    let lists = one_load files x.0.files x.0.directories x.1 y.1 x.3 (subst (λ w. Loads files w y.1) same y.3) in
    x.4 ∙ ap (λ l. done (printed x.0 l)) lists ∙ ap (λ w. done (printed w y.1)) (sym same) ∙ sym y.4) z) b)
    w)
    a
