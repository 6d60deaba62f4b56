-- A part without byte positions has no word but the empty one.
use Rattle.std.proofs.Common.{◌≡◌, ℕ, zero, suc, ◌*◌, ◌≤◌, ◌++◌, ◌⊎◌, max, List, [], ◌∷◌, Option, Some, None, length, refl, ap, sym, subst, ◌∙◌, inl, inr, arith}
use Rattle.sp_regex.specs.Trees.{Syntax, byte, any, class, empty, followed, never, either, repeat, literal, positions_of}
use Rattle.sp_regex.specs.Language.{InL, Times}
use Rattle.sp_match.specs.declared.spot.Spot.{Spot}
use Rattle.sp_match.specs.Sets.{has}
use Rattle.sp_match.specs.Parts.{Below, IsCompiled}
use Rattle.sp_match.proofs.Growing.{is_nothing, is_none, is_same}

both_nil : (u v w : List ℕ) → w ≡ u ++ v → u ≡ [] → v ≡ [] → w ≡ []
both_nil [] v w e a b = e ∙ b
both_nil (c ∷ u) v w e a b = absurd (cc)

times_nil : (A : List ℕ → Type 0) (n : ℕ) (w : List ℕ) → ((u : List ℕ) → A u → u ≡ []) → Times n A w → w ≡ []
times_nil A zero w only t = t
times_nil A (suc n) w only t = both_nil t.0 t.1 w t.2 (only t.0 t.3) (times_nil A n t.1 only t.4)

no_product : (x y : ℕ) → x * y ≡ 0 → (x ≡ 0) ⊎ (y ≡ 0)
no_product zero y e = inl refl
no_product (suc x) zero e = inr refl
no_product (suc x) (suc y) e = absurd (omega arith)

no_length : (w : List ℕ) → length w ≡ 0 → w ≡ []
no_length [] e = refl
no_length (b ∷ w) e = absurd (omega arith)

none_times : (A : List ℕ → Type 0) (n : ℕ) (w : List ℕ) → n ≤ 0 → Times n A w → w ≡ []
none_times A zero w le t = t
none_times A (suc n) w le t = absurd (omega arith)

pub only_empty : (r : Syntax) → positions_of r ≡ 0 → (w : List ℕ) → InL r w → w ≡ []
only_empty (byte b) e w h = absurd (omega arith)
only_empty any e w h = absurd (omega arith)
only_empty (class n rs) e w h = absurd (omega arith)
only_empty empty e w h = h
only_empty (followed a b) e w h = both_nil h.0 h.1 w h.2 (only_empty a (omega arith) h.0 h.3) (only_empty b (omega arith) h.1 h.4)
only_empty never e w h = absurd h
only_empty (either a b) e w (inl h) = only_empty a (omega arith) w h
only_empty (either a b) e w (inr h) = only_empty b (omega arith) w h
only_empty (repeat n (Some m) a) e w h = elim (no_product m (positions_of a) e) [
  | inl z ↦ none_times (InL a) h.0 w (let k = h.2 in omega arith) h.3
  | inr z ↦ times_nil (InL a) h.0 w (only_empty a z) h.3
]
only_empty (repeat n None a) e w h = elim (no_product (max n 1) (positions_of a) e) [
  | inl z ↦ absurd (omega arith)
  | inr z ↦ times_nil (InL a) h.0 w (only_empty a z) h.3
]
only_empty (literal bytes) e w h = h ∙ no_length bytes e

repeat_only : (r : Syntax) (least : ℕ) (most : Option ℕ) → positions_of r ≡ 0 → (w : List ℕ) → InL (repeat least most r) w → w ≡ []
repeat_only r least most e w h = times_nil (InL r) h.0 w (only_empty r e) h.3

pub repeated_then : (r : Syntax) (least : ℕ) (most : Option ℕ) (then : List ℕ) (net : List Spot) → positions_of r ≡ 0 → InL (repeat least most r) [] → Below then (length net) → IsCompiled (InL (repeat least most r)) then then net net
repeated_then r least most then net e has below = is_same (λ w. w ≡ []) (InL (repeat least most r)) then then net net (λ w z. subst (InL (repeat least most r)) (sym z) has) (λ w h. repeat_only r least most e w h) (is_nothing then net below)

pub repeated_none : (r : Syntax) (least : ℕ) (most : Option ℕ) (then entry : List ℕ) (net : List Spot) → positions_of r ≡ 0 → (InL (repeat least most r) [] → ⊥) → entry ≡ [] → IsCompiled (InL (repeat least most r)) then entry net net
repeated_none r least most then entry net e misses none = is_none (InL (repeat least most r)) then entry net (λ p. ap (λ z. has z p) none) (λ u q h t. misses (subst (InL (repeat least most r)) (repeat_only r least most e u h) h))
