use Rattle.std.proofs.Common.{◌≡◌, ℕ, List, [], ◌∷◌, ◌++◌, reverse, Bool, true, false, refl, sym, ap, ◌∙◌, arith}
use Rattle.std.specs.Prelude.{◌==◌, ◌||◌}
use Rattle.std.specs.List.{list_any}
use Rattle.std.proofs.lemmas.Bool.Decides.{nat_tests}
use Rattle.std.proofs.lemmas.List.{reverse-append}
use Rattle.sp_meaning_states.specs.Scopes.{is_among}
use Rattle.sp_show.proofs.walk.is_open.Goals as goal

same_number : (m n : ℕ) → (m == n) ≡ (n == m)
same_number m n = grind (arith, nat_tests)

or_again : (a b c : Bool) → (a || (b || c)) ≡ ((a || b) || c)
or_again true b c = refl
or_again false b c = refl

or_last : (a b : Bool) → (a || b) ≡ (b || (a || false))
or_last true true = refl
or_last true false = refl
or_last false true = refl
or_last false false = refl

among_both : (n : ℕ) (xs ys : List ℕ) → is_among n (xs ++ ys) ≡ (is_among n xs || is_among n ys)
among_both n [] ys = refl
among_both n (x ∷ xs) ys = ap (λ b. (n == x) || b) (among_both n xs ys) ∙ or_again (n == x) (is_among n xs) (is_among n ys)

among_reversed : (n : ℕ) (xs : List ℕ) → list_any (λ x. x == n) xs ≡ is_among n (reverse xs)
among_reversed n [] = refl
among_reversed n (x ∷ xs) =
    let rest = among_reversed n xs in
    let split = ap (is_among n) (reverse-append (x ∷ []) xs) ∙ among_both n (reverse xs) (x ∷ []) in
    or_last (x == n) (list_any (λ y. y == n) xs)
    ∙ ap (λ b. b || ((x == n) || false)) rest
    ∙ ap (λ b. is_among n (reverse xs) || (b || false)) (same_number x n)
    ∙ sym split

pub returns : goal.returns
returns c = c.contains.ensures.value ∙ among_reversed c.args.n c.args.outer.now
