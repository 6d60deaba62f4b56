-- What a contract sees of `Chains`: lists of items, each item under a slot.
use Rattle.std.specs.Prelude.{◌≡◌, ◌≢◌, ℕ, ◌+◌, ◌≤◌, suc, List, [], ◌∷◌, ◌++◌, length, map, Option, Some, None, IsSome, sum_by, slice_index_or, slice_set, nat_eq, if◌then◌else◌, refl}
use Rattle.std.specs.Coded.{Coded, code_by, coded×, coded_ℕ, coded_list, coded_option}

-- the items of each list in order, each with its slot, at the number of the list; and how many places the arena has
pub record Chains (T : Type 0) : Type 0 where
  pub lists : List (Option (List (ℕ × T)))
  pub places : ℕ

-- they are stored as the pair of these
abbrev pub chains_code : {T : Type 0} → Coded T → Coded (Chains T)
chains_code {T} code =
    code_by
    (List (Option (List (ℕ × T))) × ℕ)
    (coded× (coded_list (coded_option (coded_list (coded× coded_ℕ code)))) coded_ℕ)
    (λ c. (c.lists, c.places))
    (λ p. record { lists = p.0; places = p.1 })
    (λ _. refl)

module _ {T : Type 0} where
  -- the items of a list with their slots, where there is such a list
  abbrev pub list_of : Chains T → ℕ → Option (List (ℕ × T))
  list_of chains l = slice_index_or chains.lists l None

  -- there is a list with this number
  abbrev pub IsLive : Chains T → ℕ → Type 0
  IsLive chains l = IsSome (list_of chains l)

  -- the list holds an item x under the slot s, behind the items d and before the items e
  abbrev pub Holds : Chains T → ℕ → List (ℕ × T) → ℕ → T → List (ℕ × T) → Type 0
  Holds chains l d s x e = list_of chains l ≡ Some (d ++ (s, x) ∷ e)

  -- the slot is one of this list
  abbrev pub HasSlot : Chains T → ℕ → ℕ → Type 0
  HasSlot chains l s = (d : List (ℕ × T)) × (x : T) × (e : List (ℕ × T)) × Holds chains l d s x e

  -- the slot of the first item
  abbrev pub first_slot : List (ℕ × T) → Option ℕ
  first_slot [] = None
  first_slot (y ∷ _) = Some y.0

  -- the list with this number has become this one, and each other list is as it was
  pub record Updates (old new : Chains T) (l : ℕ) (list : Option (List (ℕ × T))) : Type 0 where
    pub changed : list_of new l ≡ list
    pub others : (other : ℕ) → other ≢ l → list_of new other ≡ list_of old other

  -- these two lists have become this one and an empty one, and each other list is as it was
  pub record Splices (old new : Chains T) (to : ℕ) (list : List (ℕ × T)) (from : ℕ) : Type 0 where
    pub joined : list_of new to ≡ Some list
    pub emptied : list_of new from ≡ Some []
    pub others : (other : ℕ) → other ≢ to → other ≢ from → list_of new other ≡ list_of old other

  -- the list is still there, and nothing else has changed
  pub record IsDrained (old new : Chains T) (l : ℕ) : Type 0 where
    pub live : IsLive new l
    pub others : (other : ℕ) → other ≢ l → list_of new other ≡ list_of old other
    pub places : new.places ≡ old.places

  -- a slot stands once: in one list, at one place
  abbrev pub EachSlotOnce : Chains T → Type 0
  EachSlotOnce chains = (l m s : ℕ) (x y : T) (d e f g : List (ℕ × T))
      → Holds chains l d s x e → Holds chains m f s y g → (l ≡ m) × (x ≡ y) × (d ≡ f) × (e ≡ g)

  -- a list takes a place for itself and one for each item
  abbrev pub places_of : Option (List (ℕ × T)) → ℕ
  places_of None = 0
  places_of (Some list) = suc (length list)

  -- so many more places are free
  abbrev pub HasFree : Chains T → ℕ → Type 0
  HasFree chains more = sum_by places_of chains.lists + more ≤ chains.places

  -- an item, or another one where it is under this slot
  abbrev pub put_one : ℕ → T → ℕ × T → ℕ × T
  put_one s w y = if nat_eq y.0 s then (s, w) else y

  -- items of which the one under a slot is another
  abbrev pub put_at : ℕ → T → List (ℕ × T) → List (ℕ × T)
  put_at s w c = map (put_one s w) c

  abbrev pub put_in : ℕ → T → Option (List (ℕ × T)) → Option (List (ℕ × T))
  put_in s w None = None
  put_in s w (Some c) = Some (put_at s w c)

  -- lists of which one has another item under a slot
  abbrev pub with_slot : Chains T → ℕ → ℕ → T → Chains T
  with_slot chains l s w = record chains { lists = slice_set chains.lists l (put_in s w (list_of chains l)) }
