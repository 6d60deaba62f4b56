-- Counts of positions, up to a limit.
use Rattle.std.proofs.Common.{◌≡◌, ℕ, ◌+◌, ◌<◌, min, List, [], ◌∷◌, take, length, get_or, refl, ap, ◌∙◌, arith, fold}
use Rattle.std.proofs.lemmas.List.{take_more}
use Rattle.std.proofs.lemmas.List.Sums.{fold-append}
use Rattle.sp_regex.specs.Trees.{Syntax, followed, either, empty, never, sequence, alternatives, positions_of}

same_from : (a b : Syntax) (xs : List Syntax) → positions_of a ≡ positions_of b → positions_of (fold followed a xs) ≡ positions_of (fold either b xs)
same_from a b [] e = e
same_from a b (x ∷ xs) e = same_from (followed a x) (either b x) xs (ap (λ n. n + positions_of x) e)

-- alternatives count as pieces do
pub same_positions : (xs : List Syntax) → positions_of (sequence xs) ≡ positions_of (alternatives xs)
same_positions xs = same_from empty never xs refl

-- one more part
pub positions_more : (xs : List Syntax) (i total p limit : ℕ) (d : Syntax) → i < length xs → total ≡ min (positions_of (sequence (take i xs))) limit → p ≡ min (positions_of (get_or xs i d)) limit → min (total + p) limit ≡ min (positions_of (sequence (take (i + 1) xs))) limit
positions_more xs i total p limit d lt e f =
    let more : positions_of (sequence (take (i + 1) xs)) ≡ positions_of (sequence (take i xs)) + positions_of (get_or xs i d) =
    ap (λ l. positions_of (sequence l)) (take_more xs i d lt) ∙ ap positions_of (fold-append followed empty (take i xs) (get_or xs i d ∷ [])) in
    omega arith
