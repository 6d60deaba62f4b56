-- The units that are open: that they are no more than there are instances.
use Rattle.std.proofs.Common.{◌≡◌, ℕ, ◌≤◌, ◌<◌, Bool, true, false, List, [], ◌∷◌, length, refl, arith}
use Rattle.std.specs.Prelude.{◌==◌, ◌||◌}
use Rattle.std.specs.List.{AllByRecursion, IsDistinct, list_any}
use Rattle.std.proofs.Math.Dec.{eqb}
use Rattle.std.proofs.lemmas.Bool.Decides.{nat_tests}
use Rattle.std.proofs.lemmas.Map.Steps.{length-le_from_distinct_below}
use Rattle.sp_meaning_states.specs.States.{Instance}
use Rattle.sp_meaning_states.specs.Scopes.{is_among}
use Rattle.sp_show.specs.Inside.{AreOpen}
use Rattle.sp_show.specs.Plans.{Form, tuple, vector, set, map, unit, left_behind}

both_false : (a b : Bool) → (a || b) ≡ false → (a ≡ false) × (b ≡ false)
both_false true b h = absurd (let wrong : true ≡ false = h in cc)
both_false false b h = (refl, h)

apart : (n : ℕ) (ns : List ℕ) → is_among n ns ≡ false → AllByRecursion (λ m. eqb n m ≡ false) ns
apart n [] h = tt
apart n (m ∷ ms) h = let both = both_false (n == m) (is_among n ms) h in (both.0, apart n ms both.1)

module _ (instances : List Instance) where
  distinct : (ns : List ℕ) → AreOpen instances ns → IsDistinct eqb ns
  unfolding IsDistinct
  distinct [] h = tt
  distinct (n ∷ ns) h = (apart n ns h.1, distinct ns h.2)

  below_first : (q n : ℕ) (ns : List ℕ) (b : Bool) → b ≡ (q == n) → n < length instances → (list_any (eqb q) ns ≡ true → q < length instances) → (b || list_any (eqb q) ns) ≡ true → q < length instances
  below_first q n ns true e h rest o = let same : q ≡ n = grind (arith, nat_tests) in omega arith
  below_first q n ns false e h rest o = rest o

  below : (ns : List ℕ) → AreOpen instances ns → (q : ℕ) → list_any (eqb q) ns ≡ true → q < length instances
  below [] h q o = absurd (let wrong : false ≡ true = o in cc)
  below (n ∷ ns) h q o = below_first q n ns (q == n) refl h.0 (below ns h.2 q) o

  pub few_open : (round : List ℕ) → AreOpen instances round → length round ≤ length instances
  few_open round h = length-le_from_distinct_below round (length instances) (distinct round h) (below round h)

  -- those that are open behind what is made
  pub open_behind : (form : Form) (round : List ℕ) → AreOpen instances round → AreOpen instances (left_behind form round)
  open_behind tuple round h = h
  open_behind vector round h = h
  open_behind set round h = h
  open_behind map round h = h
  open_behind (unit x) [] h = h
  open_behind (unit x) (n ∷ round) h = h.2
