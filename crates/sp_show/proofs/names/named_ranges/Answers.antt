use Rattle.std.proofs.Common.{◌≡◌, ℕ, List, [], ◌∷◌, ◌++◌, length, refl, sym, ap, ◌∙◌, ◌⊎◌, inl, inr, arith}
use Rattle.std.proofs.Math.Logic.{⊎_map}
use Rattle.std.proofs.lemmas.List.{append-nil}
use Rattle.sp_meaning_states.specs.Telling.{named_ranges}
use Rattle.sp_show.proofs.names.named_ranges.Goals as goal

-- one of the two lists has come to its end
ended : (xs : List (List ℕ)) (ns : List ℕ) → (length xs ≡ 0) ⊎ (length ns ≡ 0) → named_ranges xs ns ≡ []
ended [] ns e = refl
ended (x ∷ xs) [] e = refl
ended (x ∷ xs) (n ∷ ns) (inl e) = absurd (omega arith)
ended (x ∷ xs) (n ∷ ns) (inr e) = absurd (omega arith)

pub returns : goal.returns
returns c =
    let names = c.loop-name.name-iterator.a.rest.now in
    let numbers = c.loop-name.name-iterator.b.rest.now in
    let end = ended names numbers (⊎_map (λ p. p.1.0) (λ p. p.1.0) c.in-None.ensures.steps) in
    sym (append-nil c.loop-name.ranges.items) ∙ ap (λ rs. c.loop-name.ranges.items ++ rs) (sym end) ∙ c.loop-name.invariant
