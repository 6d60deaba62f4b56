-- The tokens from a place on, and a text as its own longest viable prefix.
use Rattle.std.proofs.Common.{◌≡◌, ℕ, ◌+◌, ◌-◌, ◌≤◌, List, [], length, take, drop, refl, sym, ap, ◌∙◌, subst, arith}
use Rattle.std.proofs.lemmas.List.{append-nil, length-drop, take_all}
use Rattle.sp_parser.specs.declared.symbol.ActionAt.{ActionAt}
use Rattle.sp_parser.specs.declared.outcome.Outcome.{Outcome}
use Rattle.sp_parser.specs.declared.outcome.Outcome.TheVariants.{Phrase, Refused}
use Rattle.sp_parser.specs.Grammar.{Table, IsLongestViable, Derives}
use Rattle.sp_parser.specs.Outcome.{IsParsed, IsParsedWhole}
use Rattle.sp_parser.specs.Sinks.{Became, Passes, Took}
use Rattle.sp_parser.proofs.Passing.{took}

-- the tokens from a place up to their end
pub rest_is : (xs rest : List ℕ) (count at : ℕ) → count ≡ length xs → rest ≡ take (count - at) (drop at xs) → rest ≡ drop at xs
rest_is xs rest count at c e =
    let enough : length (drop at xs) ≤ count - at = omega (arith, c, length-drop at xs) in
    e ∙ take_all (count - at) (drop at xs) enough

-- no longer prefix is viable than the text itself
pub text_is_longest : (g : Table) (n : ℕ) (w v : List ℕ) (τ : List ActionAt) (m : ℕ) → w ≡ v → m ≡ length w → Derives g n w τ → IsLongestViable g n v m × Derives g n (take m v) τ
text_is_longest g n w v τ m same e d =
    let whole : w ≡ take m w = sym (take_all m w (omega (arith, e))) in
    let longest : IsLongestViable g n w m = record {
      within = omega (arith, e);
      begins = ([], τ, tt, subst (λ u. Derives g n u τ) (whole ∙ sym (append-nil (take m w))) d);
      stops = λ h. absurd (omega (arith, h, e));
    } in
    subst (λ u. IsLongestViable g n u m × Derives g n (take m u) τ) same (longest, subst (λ u. Derives g n u τ) whole d)

-- all the tokens are a text
pub phrase_whole : {S : Type 0} (g : Table) (n : ℕ) (w v : List ℕ) (at m : ℕ) (became : Became S) (before after : S) (o : Outcome) → o ≡ Phrase m → w ≡ v → IsParsedWhole g n w (Passes became before after) o → IsParsed g n v at (Took became before after) (Phrase (at + m))
phrase_whole g n w v at m became before after o is same whole =
    let x : IsParsedWhole g n w (Passes became before after) (Phrase m) = subst (λ p. IsParsedWhole g n w (Passes became before after) p) is whole in
    let run = text_is_longest g n w v x.1.0 m same x.0 x.1.2 in
    (m, refl, run.0, (x.1.0, took became before after x.1.0 x.1.1, run.1))

-- where nothing had been passed to the first sink and the last was cleared, the actions are those that were passed since
cleared : {S : Type 0} (became : Became S) (before between clear after : S) (ε δ : List ActionAt) → Passes became before between ε → ((first : S) (τ : List ActionAt) → became first between τ → became first clear []) → Passes became clear after δ → Took became before after δ
cleared became before between clear after ε δ p e q = λ first h. q first [] (e first ε (p first [] h))

-- the longest viable prefix is a text
pub phrase_again : {S : Type 0} (g : Table) (n : ℕ) (w v u : List ℕ) (at m j : ℕ) (became : Became S) (before between clear after : S) (o p : Outcome) → o ≡ Refused m → p ≡ Phrase j → w ≡ v → u ≡ take (m - 0) w
    → IsParsedWhole g n w (Passes became before between) o → ((first : S) (τ : List ActionAt) → became first between τ → became first clear []) → IsParsedWhole g n u (Passes became clear after) p
    → IsParsed g n v at (Took became before after) (Phrase (at + m))
phrase_again g n w v u at m j became before between clear after o p is again same run whole e part =
    let x : IsParsedWhole g n w (Passes became before between) (Refused m) = subst (λ r. IsParsedWhole g n w (Passes became before between) r) is whole in
    let y : IsParsedWhole g n u (Passes became clear after) (Phrase j) = subst (λ r. IsParsedWhole g n u (Passes became clear after) r) again part in
    (m, refl, subst (λ r. IsLongestViable g n r m) same x.0, (y.1.0, cleared became before between clear after x.2.0 y.1.0 x.2.1 e y.1.1, subst (λ r. Derives g n r y.1.0) (run ∙ ap (λ k. take k w) (omega arith) ∙ ap (λ r. take m r) same) y.1.2))

-- all the tokens are the longest viable prefix, and no text
pub refused_whole : (g : Table) (n : ℕ) (w v : List ℕ) (at m : ℕ) (ArePassed : List ActionAt → Type 0) (o : Outcome) → o ≡ Refused m → w ≡ v → m ≡ length w → IsParsedWhole g n w ArePassed o → IsParsed g n v at (λ τ. ⊥) (Refused (at + m))
refused_whole g n w v at m ArePassed o is same all whole =
    let x : IsParsedWhole g n w ArePassed (Refused m) = subst (λ p. IsParsedWhole g n w ArePassed p) is whole in
    let run : take m v ≡ w = ap (λ r. take m r) (sym same) ∙ take_all m w (omega (arith, all)) in
    (m, refl, subst (λ r. IsLongestViable g n r m) same x.0, λ τ d. x.1 τ (subst (λ r. Derives g n r τ) run d))

-- the longest viable prefix is no text
pub refused_again : (g : Table) (n : ℕ) (w v u : List ℕ) (at m j : ℕ) (ArePassed WerePassed : List ActionAt → Type 0) (o p : Outcome) → o ≡ Refused m → p ≡ Refused j → w ≡ v → u ≡ take (m - 0) w
    → IsParsedWhole g n w ArePassed o → IsParsedWhole g n u WerePassed p → IsParsed g n v at (λ τ. ⊥) (Refused (at + m))
refused_again g n w v u at m j ArePassed WerePassed o p is again same run whole part =
    let x : IsParsedWhole g n w ArePassed (Refused m) = subst (λ r. IsParsedWhole g n w ArePassed r) is whole in
    let y : IsParsedWhole g n u WerePassed (Refused j) = subst (λ r. IsParsedWhole g n u WerePassed r) again part in
    let prefix : take m v ≡ u = sym (run ∙ ap (λ k. take k w) (omega arith) ∙ ap (λ r. take m r) same) in
    (m, refl, subst (λ r. IsLongestViable g n r m) same x.0, λ τ d. y.1 τ (subst (λ r. Derives g n r τ) prefix d))
