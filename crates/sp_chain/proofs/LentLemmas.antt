-- What an arena is after a write through a `&mut` to one of its items.
use Rattle.std.proofs.Common.{◌≡◌, ◌≢◌, ◌⊎◌, ℕ, zero, suc, ◌<◌, List, [], ◌∷◌, ◌++◌, length, Bool, true, false, cond, nat_eq, Option, Some, None, IsSome, is_some, get_or, set, sum_by, refl, sym, ap, subst, ◌∙◌, inl, inr, arith}
use Rattle.std.proofs.lemmas.Bool.{cases_eq, eqb-true, eqb-false}
use Rattle.std.proofs.lemmas.List.{ext_get_or, get_or-set_same, get_or-set_other, length-set, length-map}
use Rattle.slab.specs.Slab.{Slab, get, slab_len}
use Rattle.sp_chain.specs.declared.nodes.Node.{Node}
use Rattle.sp_chain.specs.Chains.{list_of, put_one, put_at, put_in, with_slot}
use Rattle.sp_chain.specs.Rings.{after_in, before_in, item_in, length_in, with_own, weight, IsRun, IsRing, IsSound, list_from, lists_in}
use Rattle.sp_chain.specs.inside.Steps.{IsHeld}
use Rattle.sp_chain.specs.inside.Lending.{with_item_in, with_item_at}
use Rattle.sp_chain.proofs.Sums.{sum_same}
use Rattle.sp_chain.proofs.RingLemmas.{Apart, apart_other, run_split, list_of_ring}
use Rattle.sp_chain.proofs.ArenaLemmas.{item_apart, list_cases, no_list, ring_free, held_there, item_of_held}
use Rattle.sp_chain.proofs.ViewLemmas.{seen, list_seen}

module _ {T : Type 0} where
  written_after : (o : Option (Node T)) (w : T) → after_in (with_item_in o w) ≡ after_in o
  written_after None w = refl
  written_after (Some node) w = refl

  written_before : (o : Option (Node T)) (w : T) → before_in (with_item_in o w) ≡ before_in o
  written_before None w = refl
  written_before (Some node) w = refl

  written_item : (o : Option (Node T)) (w : T) → IsSome o → item_in (with_item_in o w) ≡ Some w
  written_item None w h = absurd (cc)
  written_item (Some node) w h = refl

  written_length : (o : Option (Node T)) (w : T) → length_in (with_item_in o w) ≡ None
  written_length None w = refl
  written_length (Some node) w = refl

  written_there : (o : Option (Node T)) (w : T) → is_some (with_item_in o w) ≡ is_some o
  written_there None w = refl
  written_there (Some node) w = refl

  -- one item put in the place of another
  key_kept : (s : ℕ) (w : T) (y : ℕ × T) → (put_one s w y).0 ≡ y.0
  key_kept s w y = by_test (nat_eq y.0 s) refl
    where
      by_test : (t : Bool) → nat_eq y.0 s ≡ t → (cond t (s, w) y).0 ≡ y.0
      by_test false e = refl
      by_test true e = sym (eqb-true y.0 s e)

  apart_same : (s : ℕ) (w : T) (c : List (ℕ × T)) → Apart s c → put_at s w c ≡ c
  apart_same s w [] a = refl
  apart_same s w (y ∷ c) a = (λ i. by_test (nat_eq y.0 s) refl i ∷ apart_same s w c a.1 i)
    where
      by_test : (t : Bool) → nat_eq y.0 s ≡ t → cond t (s, w) y ≡ y
      by_test false e = refl
      by_test true e = absurd (a.0 (eqb-true y.0 s e))

  module _ (nodes : Slab (Node T)) (sound : IsSound nodes) (l s : ℕ) (held : IsHeld nodes l s) (w : T) where
    within : s < length nodes.slots
    within = elim (less_or nodes.slots s) [ inl h ↦ h | inr none ↦ absurd (let some : IsSome {T = Node T} None = subst (λ o. IsSome o) none (held_there nodes l s held) in cc) ]
      where
        less_or : (slots : List (Option (Node T))) (k : ℕ) → (k < length slots) ⊎ (get_or slots k None ≡ None)
        less_or [] k = inr refl
        less_or (o ∷ slots) zero = inl (omega arith)
        less_or (o ∷ slots) (suc k) = elim (less_or slots k) [ inl h ↦ inl (omega (arith, h)) | inr e ↦ inr e ]

    get_same : get (with_item_at nodes s w) s ≡ with_item_in (get nodes s) w
    get_same = get_or-set_same nodes.slots s (with_item_in (get nodes s) w) None within

    get_other : (q : ℕ) → q ≢ s → get (with_item_at nodes s w) q ≡ get nodes q
    get_other q differ = get_or-set_other nodes.slots s q (with_item_in (get nodes s) w) None differ

    after_same : (q : ℕ) → after_in (get (with_item_at nodes s w) q) ≡ after_in (get nodes q)
    after_same q =
        elim (cases_eq q s) [
          | inl same ↦ ap (λ k. after_in (get (with_item_at nodes s w) k)) same ∙ ap after_in get_same ∙ written_after (get nodes s) w ∙ sym (ap (λ k. after_in (get nodes k)) same)
          | inr differ ↦ ap after_in (get_other q differ)
        ]

    before_same : (q : ℕ) → before_in (get (with_item_at nodes s w) q) ≡ before_in (get nodes q)
    before_same q =
        elim (cases_eq q s) [
          | inl same ↦ ap (λ k. before_in (get (with_item_at nodes s w) k)) same ∙ ap before_in get_same ∙ written_before (get nodes s) w ∙ sym (ap (λ k. before_in (get nodes k)) same)
          | inr differ ↦ ap before_in (get_other q differ)
        ]

    length_same : (q : ℕ) → length_in (get (with_item_at nodes s w) q) ≡ length_in (get nodes q)
    length_same q =
        elim (cases_eq q s) [
          | inl same ↦ ap (λ k. length_in (get (with_item_at nodes s w) k)) same ∙ ap length_in get_same ∙ written_length (get nodes s) w ∙ sym (ap (λ k. length_in (get nodes k)) same ∙ item_apart (get nodes s) held.1 (item_of_held nodes l s held))
          | inr differ ↦ ap length_in (get_other q differ)
        ]

    item_put : (y : ℕ × T) → item_in (get nodes y.0) ≡ Some y.1 → item_in (get (with_item_at nodes s w) y.0) ≡ Some (put_one s w y).1
    item_put y h = by_test (nat_eq y.0 s) refl
      where
        by_test : (t : Bool) → nat_eq y.0 s ≡ t → item_in (get (with_item_at nodes s w) y.0) ≡ Some (cond t (s, w) y).1
        by_test false e = ap item_in (get_other y.0 (eqb-false y.0 s e)) ∙ h
        by_test true e = ap (λ k. item_in (get (with_item_at nodes s w) k)) (eqb-true y.0 s e) ∙ ap item_in get_same ∙ written_item (get nodes s) w (held_there nodes l s held)

    run_put : (p : ℕ) (c : List (ℕ × T)) (e : ℕ) → IsRun (get nodes) p c e → IsRun (get (with_item_at nodes s w)) p (put_at s w c) e
    run_put p [] e r = (after_same p ∙ r.0, before_same e ∙ r.1)
    run_put p (y ∷ c) e r =
        let key = key_kept s w y in (
          after_same p ∙ r.0 ∙ sym key,
          ap (λ k. before_in (get (with_item_at nodes s w) k)) key ∙ before_same y.0 ∙ r.1,
          ap (λ k. item_in (get (with_item_at nodes s w) k)) key ∙ item_put y r.2,
          subst (λ k. IsRun (get (with_item_at nodes s w)) k (put_at s w c) e) (sym key) (run_put y.0 c e r.3),
        )

    ring_put : (m : ℕ) (c : List (ℕ × T)) → IsRing (get nodes) m c → IsRing (get (with_item_at nodes s w)) m (put_at s w c)
    ring_put m c ring =
        record {
          counted = length_same m ∙ ring.counted ∙ ap Some (sym (length-map c (put_one s w)));
          linked = run_put m c m ring.linked;
        }

    pub lent_sound : IsSound (with_item_at nodes s w)
    lent_sound = record { rings = rings; whole = whole }
      where
        rings : (m n : ℕ) → length_in (get (with_item_at nodes s w) m) ≡ Some n → (c : List (ℕ × T)) × IsRing (get (with_item_at nodes s w)) m c
        rings m n h = let was = sound.rings m n (sym (length_same m) ∙ h) in (put_at s w was.0, ring_put m was.0 was.1)

        there_same : (q : ℕ) → is_some (get (with_item_at nodes s w) q) ≡ is_some (get nodes q)
        there_same q =
            elim (cases_eq q s) [
              | inl same ↦ ap (λ k. is_some (get (with_item_at nodes s w) k)) same ∙ ap is_some get_same ∙ written_there (get nodes s) w ∙ sym (ap (λ k. is_some (get nodes k)) same)
              | inr differ ↦ ap is_some (get_other q differ)
            ]

        whole : sum_by weight (with_item_at nodes s w).slots ≡ slab_len (with_item_at nodes s w)
        whole =
            sum_same weight None refl nodes.slots (with_item_at nodes s w).slots (λ q. ap with_own (length_same q)) ∙ sound.whole
            ∙ sym (sum_same (λ o. cond (is_some o) 1 0) None refl nodes.slots (with_item_at nodes s w).slots (λ q. ap (λ b. cond b 1 0) (there_same q)))

    -- each list, where the written one is told by itself
    lent_list : (q : ℕ) → list_from (get (with_item_at nodes s w)) (get (with_item_at nodes s w) q) ≡ put_in s w (list_from (get nodes) (get nodes q))
    lent_list q =
        elim (list_cases (get nodes) sound.rings q) [
          | inl none ↦ no_list (get (with_item_at nodes s w)) (get (with_item_at nodes s w) q) (length_same q ∙ none) ∙ sym (ap (put_in s w) (no_list (get nodes) (get nodes q) none))
          | inr (c, ring) ↦ list_of_ring (get (with_item_at nodes s w)) q (put_at s w c) (ring_put q c ring) ∙ sym (ap (put_in s w) (list_of_ring (get nodes) q c ring))
        ]

    other_list : (q : ℕ) → q ≢ l → put_in s w (list_from (get nodes) (get nodes q)) ≡ list_from (get nodes) (get nodes q)
    other_list q differ =
        elim (list_cases (get nodes) sound.rings q) [
          | inl none ↦ ap (put_in s w) (no_list (get nodes) (get nodes q) none) ∙ sym (no_list (get nodes) (get nodes q) none)
          | inr (c, ring) ↦
              (let own = held.3 in
              let split = run_split (get nodes) l held.0 (s, held.1) held.2 l own.linked in
              let apart = apart_other (get nodes) q c q s held.2 l ring.linked split.2 (ring_free (get nodes) q c ring) (ring_free (get nodes) l _ own) differ in
              ap (put_in s w) (list_of_ring (get nodes) q c ring) ∙ ap Some (apart_same s w c apart) ∙ sym (list_of_ring (get nodes) q c ring))
        ]

    list_within : l < length (lists_in nodes)
    list_within = elim (less_or (lists_in nodes) l) [ inl h ↦ h | inr none ↦ absurd (let no : None ≡ Some (held.0 ++ (s, held.1) ∷ held.2) = sym none ∙ list_seen nodes l ∙ list_of_ring (get nodes) l _ held.3 in cc) ]
      where
        less_or : {X : Type 0} (slots : List (Option X)) (k : ℕ) → (k < length slots) ⊎ (get_or slots k None ≡ None)
        less_or [] k = inr refl
        less_or (o ∷ slots) zero = inl (omega arith)
        less_or (o ∷ slots) (suc k) = elim (less_or slots k) [ inl h ↦ inl (omega (arith, h)) | inr e ↦ inr e ]

    pub lent_seen : seen (with_item_at nodes s w) ≡ with_slot (seen nodes) l s w
    lent_seen = ap (λ lists. record { lists = lists; places = nodes.capacity }) (ext_get_or None _ _ lengths (λ q h. each q))
      where
        lengths : length (lists_in (with_item_at nodes s w)) ≡ length (set (lists_in nodes) l (put_in s w (list_of (seen nodes) l)))
        lengths =
            length-map (with_item_at nodes s w).slots (list_from (get (with_item_at nodes s w))) ∙ length-set nodes.slots s (with_item_in (get nodes s) w)
            ∙ sym (length-set (lists_in nodes) l (put_in s w (list_of (seen nodes) l)) ∙ length-map nodes.slots (list_from (get nodes)))

        each : (q : ℕ) → get_or (lists_in (with_item_at nodes s w)) q None ≡ get_or (set (lists_in nodes) l (put_in s w (list_of (seen nodes) l))) q None
        each q =
            elim (cases_eq q l) [
              | inl same ↦
                  (list_seen (with_item_at nodes s w) q ∙ lent_list q ∙ ap (λ k. put_in s w (list_from (get nodes) (get nodes k))) same ∙ ap (put_in s w) (sym (list_seen nodes l))
                  ∙ sym (ap (λ k. get_or (set (lists_in nodes) l (put_in s w (list_of (seen nodes) l))) k None) same ∙ get_or-set_same (lists_in nodes) l (put_in s w (list_of (seen nodes) l)) None list_within))
              | inr differ ↦
                  (list_seen (with_item_at nodes s w) q ∙ lent_list q ∙ other_list q differ ∙ sym (list_seen nodes q)
                  ∙ sym (get_or-set_other (lists_in nodes) l q (put_in s w (list_of (seen nodes) l)) None differ))
            ]
