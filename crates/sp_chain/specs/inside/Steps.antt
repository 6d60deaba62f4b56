-- What one change of a node does. No public clause cites this module.
use Rattle.std.specs.Prelude.{◌≡◌, ◌≢◌, ℕ, ◌+◌, List, [], ◌∷◌, ◌++◌, Some}
use Rattle.slab.specs.Slab.{Slab, get, slab_len, ContainsKey}
use Rattle.sp_chain.specs.declared.nodes.Node.{Node}
use Rattle.sp_chain.specs.Rings.{after_in, before_in, item_in, length_in, list_from, last_key, IsRing, IsSound}

module _ {T : Type 0} where
  -- the node k now goes on to the node e
  pub record SetsAfter (old new : Slab (Node T)) (k e : ℕ) : Type 0 where
    pub changed : after_in (get new k) ≡ e
    pub others : (other : ℕ) → other ≢ k → after_in (get new other) ≡ after_in (get old other)
    pub before : (other : ℕ) → before_in (get new other) ≡ before_in (get old other)
    pub items : (other : ℕ) → item_in (get new other) ≡ item_in (get old other)
    pub lengths : (other : ℕ) → length_in (get new other) ≡ length_in (get old other)
    pub kept : (other : ℕ) → ContainsKey old other → ContainsKey new other
    pub count : slab_len new ≡ slab_len old
    pub places : new.capacity ≡ old.capacity

  -- the node k now comes behind the node p
  pub record SetsBefore (old new : Slab (Node T)) (k p : ℕ) : Type 0 where
    pub changed : before_in (get new k) ≡ p
    pub others : (other : ℕ) → other ≢ k → before_in (get new other) ≡ before_in (get old other)
    pub after : (other : ℕ) → after_in (get new other) ≡ after_in (get old other)
    pub items : (other : ℕ) → item_in (get new other) ≡ item_in (get old other)
    pub lengths : (other : ℕ) → length_in (get new other) ≡ length_in (get old other)
    pub kept : (other : ℕ) → ContainsKey old other → ContainsKey new other
    pub count : slab_len new ≡ slab_len old
    pub places : new.capacity ≡ old.capacity

  -- the list of the node k now has n items
  pub record SetsLength (old new : Slab (Node T)) (k n : ℕ) : Type 0 where
    pub changed : length_in (get new k) ≡ Some n
    pub others : (other : ℕ) → other ≢ k → length_in (get new other) ≡ length_in (get old other)
    pub after : (other : ℕ) → after_in (get new other) ≡ after_in (get old other)
    pub before : (other : ℕ) → before_in (get new other) ≡ before_in (get old other)
    pub items : (other : ℕ) → item_in (get new other) ≡ item_in (get old other)
    pub kept : (other : ℕ) → ContainsKey old other → ContainsKey new other
    pub count : slab_len new ≡ slab_len old
    pub places : new.capacity ≡ old.capacity

  -- the node p is that of the list l, or of one of its items
  abbrev pub IsPlace : Slab (Node T) → ℕ → ℕ → Type 0
  IsPlace nodes l p = (d : List (ℕ × T)) × (e : List (ℕ × T)) × IsRing (get nodes) l (d ++ e) × (last_key l d ≡ p)

  -- the node s is that of an item of the list l
  abbrev pub IsHeld : Slab (Node T) → ℕ → ℕ → Type 0
  IsHeld nodes l s = (d : List (ℕ × T)) × (x : T) × (e : List (ℕ × T)) × IsRing (get nodes) l (d ++ (s, x) ∷ e)

  -- each list but that of the node l is as it was
  abbrev pub KeepsOthers : Slab (Node T) → Slab (Node T) → ℕ → Type 0
  KeepsOthers old new l = (m : ℕ) → m ≢ l → list_from (get new) (get new m) ≡ list_from (get old) (get old m)

  -- x is under the slot s behind the node p
  pub record Inserts (old new : Slab (Node T)) (l p s : ℕ) (x : T) : Type 0 where
    pub sound : IsSound new
    pub ring : (d e : List (ℕ × T)) → IsRing (get old) l (d ++ e) → last_key l d ≡ p → IsRing (get new) l (d ++ (s, x) ∷ e)
    pub others : KeepsOthers old new l
    pub count : slab_len new ≡ slab_len old + 1

  -- x was under the slot s, which is free
  pub record Unlinks (old new : Slab (Node T)) (l s : ℕ) (x : T) : Type 0 where
    pub sound : IsSound new
    pub ring : (d e : List (ℕ × T)) (y : T) → IsRing (get old) l (d ++ (s, y) ∷ e) → (x ≡ y) × IsRing (get new) l (d ++ e)
    pub others : KeepsOthers old new l
    pub places : new.capacity ≡ old.capacity

  -- the items of the list k went to the end of the list l
  pub record Splices (old new : Slab (Node T)) (l k : ℕ) : Type 0 where
    pub sound : IsSound new
    pub ring : (c d : List (ℕ × T)) → IsRing (get old) l c → IsRing (get old) k d → IsRing (get new) l (c ++ d) × IsRing (get new) k []
    pub others : (m : ℕ) → m ≢ l → m ≢ k → list_from (get new) (get new m) ≡ list_from (get old) (get old m)
    pub places : new.capacity ≡ old.capacity
