-- What each call of a token set and a matcher does to the facts about it.
use Rattle.std.proofs.Common.{◌≡◌, ℕ, zero, suc, ◌+◌, ◌<◌, ◌≤◌, ◌++◌, ◌⊎◌, min, Bool, true, false, List, [], ◌∷◌, Option, length, take, get_or, refl, ap, sym, subst, ◌∙◌, inl, inr, arith, fold}
use Rattle.std.proofs.lemmas.List.{take_more}
use Rattle.sp_regex.specs.Trees.{Syntax, empty, never, followed, either, sequence, alternatives, positions_of}
use Rattle.sp_match.specs.declared.spot.Spot.{Spot}
use Rattle.sp_match.specs.Matching.{HasWord, NoMatch, is_literal, Settled, BestSoFar, NoneEmpty}
use Rattle.sp_match.specs.Running.{Begins, Stands, IsNetOf, IsNext, IsWinner, newest_of}
use Rattle.sp_match.specs.Tables.{NoneReads}
use Rattle.sp_match.specs.Sizes.{positions_together}
use Rattle.sp_match.proofs.Compiling.{not_both}
use Rattle.sp_match.proofs.Running.{stands_next}
use Rattle.sp_match.proofs.Deciding.{best_next, grows_live}

followed_no_literal : (xs : List Syntax) (a : Syntax) → is_literal a ≡ false → is_literal (fold followed a xs) ≡ false
followed_no_literal [] a e = e
followed_no_literal (x ∷ xs) a e = followed_no_literal xs (followed a x) refl

either_no_literal : (xs : List Syntax) (a : Syntax) → is_literal a ≡ false → is_literal (fold either a xs) ≡ false
either_no_literal [] a e = e
either_no_literal (x ∷ xs) a e = either_no_literal xs (either a x) refl

pub sequence_no_literal : (xs : List Syntax) → is_literal (sequence xs) ≡ false
sequence_no_literal xs = followed_no_literal xs empty refl

pub alternatives_no_literal : (xs : List Syntax) → is_literal (alternatives xs) ≡ false
alternatives_no_literal xs = either_no_literal xs never refl

together_more : (xs : List Syntax) (x : Syntax) → positions_together (xs ++ x ∷ []) ≡ positions_together xs + positions_of x
together_more [] x = omega arith
together_more (y ∷ ys) x = omega (arith, together_more ys x)

pub item_is : (xs : List Syntax) (i : ℕ) (x d : Syntax) → i < length xs → x ≡ get_or xs i x → get_or xs i d ≡ x
item_is [] i x d lt e = absurd (omega arith)
item_is (y ∷ ys) zero x d lt e = sym e
item_is (y ∷ ys) (suc i) x d lt e = item_is ys i x d (omega arith) e

take_item : (xs : List Syntax) (i : ℕ) (x : Syntax) → i < length xs → x ≡ get_or xs i x → take (i + 1) xs ≡ take i xs ++ x ∷ []
take_item xs i x lt e = take_more xs i x lt ∙ ap (λ z. take i xs ++ z ∷ []) (sym e)

pub positions_next : (xs : List Syntax) (i total p limit : ℕ) (x : Syntax) → i < length xs → x ≡ get_or xs i x → total ≡ min (positions_together (take i xs)) limit → p ≡ min (positions_of x) limit → min (total + p) limit ≡ min (positions_together (take (i + 1) xs)) limit
positions_next xs i total p limit x lt e f g =
    let more : positions_together (take (i + 1) xs) ≡ positions_together (take i xs) + positions_of x = ap positions_together (take_item xs i x lt e) ∙ together_more (take i xs) x in
    omega arith

pub begins_more : (tokens : List Syntax) (i : ℕ) (x : Syntax) (net : List Spot) (start : List ℕ) → i < length tokens → x ≡ get_or tokens i x → Begins (take i tokens ++ x ∷ []) net start → Begins (take (i + 1) tokens) net start
begins_more tokens i x net start lt e b = subst (λ z. Begins z net start) (sym (take_item tokens i x lt e)) b

pub take_long : (tokens : List Syntax) (i : ℕ) → i ≤ length tokens → i ≡ length (take i tokens)
take_long tokens zero le = refl
take_long [] (suc i) le = absurd (omega arith)
take_long (t ∷ ts) (suc i) le = let k = take_long ts i (omega arith) in ap suc k

pub whole_step : (tokens : List Syntax) (net : List Spot) (start : List ℕ) (live next : ℕ → Bool) (w : List ℕ) (b n : ℕ) (best : Option (ℕ × ℕ)) (won : Option (ℕ × Bool)) → IsNetOf tokens net start → Stands tokens net w live → BestSoFar tokens w best → IsNext net live next b → IsWinner net next won → n ≡ length w + 1 → Stands tokens net (w ++ b ∷ []) next × BestSoFar tokens (w ++ b ∷ []) (newest_of won n best)
whole_step tokens net start live next w b n best won is s old step wins e =
    let stand = stands_next tokens net start live next w b is s step in (
      stand,
      subst (λ k. BestSoFar tokens (w ++ b ∷ []) (newest_of won k best)) (sym e) (best_next is w b next best stand old won wins),
    )

pub settled : (tokens : List Syntax) (net : List Spot) (start : List ℕ) (live : ℕ → Bool) (w : List ℕ) (ended : Bool) → IsNetOf tokens net start → Stands tokens net w live → ((ended ≡ true) ⊎ NoneReads net live) → Settled tokens w ended
settled tokens net start live w ended is s x = elim x [
  | inl e ↦ inl e
  | inr none ↦ inr (λ grows. let y = grows_live is w live s grows in not_both y.2 (none y.0 y.1))
]

take_none : (m : ℕ) → take {A = ℕ} m [] ≡ []
take_none zero = refl
take_none (suc m) = refl

pub no_match_first : (tokens : List Syntax) → NoneEmpty tokens → NoMatch tokens []
no_match_first tokens none j m le h = none j (subst (HasWord tokens j) (take_none m) h)
