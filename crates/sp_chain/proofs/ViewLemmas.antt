-- What contracts see of an arena, from its rings.
use Rattle.std.proofs.Common.{◌≡◌, ◌≢◌, ◌⊎◌, ℕ, suc, ◌+◌, List, [], ◌∷◌, ◌++◌, cond, eqb, eq-eqb, ne_eqb, Option, Some, None, IsSome, get_or, sum_by, refl, sym, ap, subst, ◌∙◌, inl, inr, arith, append-nil, append_assoc, length-append}
use Rattle.std.proofs.Math.ListN.{get_or-map}
use Rattle.std.proofs.lemmas.List.{append_cancel_right}
use Rattle.std.proofs.lemmas.Bool.{cases_eq}
use Rattle.slab.specs.Slab.{Slab, get, slab_len, HasRoomFor, ContainsKey, Updates as UpdatesSlab}
use Rattle.sp_chain.specs.declared.nodes.Content.TheVariants.{List as Ring}
use Rattle.sp_chain.specs.declared.nodes.Node.{Node}
use Rattle.sp_chain.specs.Chains.{Chains, list_of, IsLive, HasSlot, Holds, first_slot, Updates, Splices as SplicesLists, EachSlotOnce, IsDrained, places_of, HasFree}
use Rattle.sp_chain.specs.Rings.{after_in, before_in, item_in, length_in, with_own, weight, IsRun, IsRing, IsSound, list_from, lists_in, last_key}
use Rattle.sp_chain.specs.inside.Steps.{IsPlace, IsHeld, Inserts, Unlinks, Splices}
use Rattle.sp_chain.proofs.Sums.{sum_map, sum_one}
use Rattle.sp_chain.proofs.RingLemmas.{apart_free, Near, frame, same_run, run_before, run_split, list_of_ring}
use Rattle.sp_chain.proofs.ArenaLemmas.{rings_stay, keeps, length_there, list_cases, no_list, ring_of_list, ring_free, list_there}

pub there : {X : Type 0} (o : Option X) → IsSome o → (x : X) × (o ≡ Some x)
there None h = absurd (cc)
there (Some x) h = (x, refl)

module _ {T : Type 0} where
  -- what contracts see
  abbrev pub seen : Slab (Node T) → Chains T
  seen nodes = record { lists = lists_in nodes; places = nodes.capacity }

  pub list_seen : (nodes : Slab (Node T)) (l : ℕ) → list_of (seen nodes) l ≡ list_from (get nodes) (get nodes l)
  list_seen nodes l = get_or-map (list_from (get nodes)) nodes.slots l None

  pub ring_seen : (nodes : Slab (Node T)) → IsSound nodes → (l : ℕ) (c : List (ℕ × T)) → list_of (seen nodes) l ≡ Some c → IsRing (get nodes) l c
  ring_seen nodes sound l c h = ring_of_list (get nodes) sound.rings l c (sym (list_seen nodes l) ∙ h)

  pub seen_ring : (nodes : Slab (Node T)) (l : ℕ) (c : List (ℕ × T)) → IsRing (get nodes) l c → list_of (seen nodes) l ≡ Some c
  seen_ring nodes l c ring = list_seen nodes l ∙ list_of_ring (get nodes) l c ring

  pub other_seen : (old new : Slab (Node T)) (m : ℕ) → list_from (get new) (get new m) ≡ list_from (get old) (get old m) → list_of (seen new) m ≡ list_of (seen old) m
  other_seen old new m h = list_seen new m ∙ h ∙ sym (list_seen old m)

  -- the places that the lists take are those of the nodes
  pub places_used : (nodes : Slab (Node T)) → IsSound nodes → sum_by places_of (lists_in nodes) ≡ slab_len nodes
  places_used nodes sound =
      sum_map places_of (list_from (get nodes)) weight None nodes.slots each ∙ sound.whole
    where
      each : (k : ℕ) → places_of (list_from (get nodes) (get nodes k)) ≡ weight (get nodes k)
      each k =
          elim (list_cases (get nodes) sound.rings k) [
            | inl none ↦ ap places_of (no_list (get nodes) (get nodes k) none) ∙ sym (ap with_own none)
            | inr (c, ring) ↦ ap places_of (list_of_ring (get nodes) k c ring) ∙ sym (ap with_own ring.counted)
          ]

  pub room_seen : (nodes : Slab (Node T)) → IsSound nodes → HasFree (seen nodes) 1 → HasRoomFor nodes 1
  room_seen nodes sound free = let used : sum_by places_of (lists_in nodes) ≡ slab_len nodes = places_used nodes sound in omega (arith, free, used)

  pub free_seen : (nodes : Slab (Node T)) → IsSound nodes → HasRoomFor nodes 1 → HasFree (seen nodes) 1
  free_seen nodes sound room = let used : sum_by places_of (lists_in nodes) ≡ slab_len nodes = places_used nodes sound in omega (arith, room, used)

  -- nodes in the same slots are as sound
  pub same_sound : (old new : Slab (Node T)) → new.slots ≡ old.slots → IsSound old → IsSound new
  same_sound old new same sound =
      subst (λ slots. IsSound (record new { slots = slots })) (sym same) (record { rings = sound.rings; whole = sound.whole })

  pub live_length : (nodes : Slab (Node T)) → IsSound nodes → (l : ℕ) → IsLive (seen nodes) l → IsSome (length_in (get nodes l))
  live_length nodes sound l live =
      let list = there (list_of (seen nodes) l) live in
      subst (λ o. IsSome o) (sym (ring_seen nodes sound l list.0 list.1).counted) refl

  pub live_there : (nodes : Slab (Node T)) → IsSound nodes → (l : ℕ) → IsLive (seen nodes) l → ContainsKey nodes l
  live_there nodes sound l live = let own = length_there (length_in (get nodes l)) (live_length nodes sound l live) in list_there (get nodes l) own.0 own.1

  pub held_seen : (nodes : Slab (Node T)) → IsSound nodes → (l s : ℕ) → HasSlot (seen nodes) l s → IsHeld nodes l s
  held_seen nodes sound l s has = (has.0, has.1, has.2, ring_seen nodes sound l (has.0 ++ (s, has.1) ∷ has.2) has.3)

  last_key-append : (p : ℕ) (d : List (ℕ × T)) (y : ℕ × T) → last_key p (d ++ y ∷ []) ≡ y.0
  last_key-append p [] y = refl
  last_key-append p (z ∷ d) y = last_key-append z.0 d y

  -- the place at the end of a list
  pub end_place : (nodes : Slab (Node T)) → IsSound nodes → (l : ℕ) → IsLive (seen nodes) l → IsPlace nodes l (before_in (get nodes l))
  end_place nodes sound l live =
      let list = there (list_of (seen nodes) l) live in
      let ring = ring_seen nodes sound l list.0 list.1 in
      (list.0, [], subst (λ c. IsRing (get nodes) l c) (sym (append-nil list.0)) ring, sym (run_before (get nodes) l list.0 l ring.linked))

  -- the place behind a slot
  pub slot_place : (nodes : Slab (Node T)) → IsSound nodes → (l s : ℕ) → HasSlot (seen nodes) l s → IsPlace nodes l s
  slot_place nodes sound l s has = (
    has.0 ++ (s, has.1) ∷ [],
    has.2,
    subst (λ c. IsRing (get nodes) l c) (sym (append_assoc has.0 ((s, has.1) ∷ []) has.2)) (ring_seen nodes sound l (has.0 ++ (s, has.1) ∷ has.2) has.3),
    last_key-append l has.0 (s, has.1),
  )

  pub pushed : (old new : Slab (Node T)) (l p s : ℕ) (x : T) → IsSound old → p ≡ before_in (get old l) → Inserts old new l p s x → (c : List (ℕ × T)) → list_of (seen old) l ≡ Some c → Updates (seen old) (seen new) l (Some (c ++ (s, x) ∷ []))
  pushed old new l p s x sound end done c h =
      let ring = ring_seen old sound l c h in
      record {
        changed = seen_ring new l (c ++ (s, x) ∷ []) (done.ring c [] (subst (λ d. IsRing (get old) l d) (sym (append-nil c)) ring) (sym (run_before (get old) l c l ring.linked) ∙ sym end));
        others = λ m differ. other_seen old new m (done.others m differ);
      }

  -- the place before the first item
  pub front_place : (nodes : Slab (Node T)) → IsSound nodes → (l : ℕ) → IsLive (seen nodes) l → IsPlace nodes l l
  front_place nodes sound l live =
      let list = there (list_of (seen nodes) l) live in
      ([], list.0, ring_seen nodes sound l list.0 list.1, refl)

  pub put_in_front : (old new : Slab (Node T)) (l s : ℕ) (x : T) → IsSound old → Inserts old new l l s x → (c : List (ℕ × T)) → list_of (seen old) l ≡ Some c → Updates (seen old) (seen new) l (Some ((s, x) ∷ c))
  put_in_front old new l s x sound done c h = record {
    changed = seen_ring new l ((s, x) ∷ c) (done.ring [] c (ring_seen old sound l c h) refl);
    others = λ m differ. other_seen old new m (done.others m differ);
  }

  pub put_behind : (old new : Slab (Node T)) (l s t : ℕ) (x : T) → IsSound old → Inserts old new l s t x → (d e : List (ℕ × T)) (y : T) → Holds (seen old) l d s y e → Updates (seen old) (seen new) l (Some (d ++ (s, y) ∷ (t, x) ∷ e))
  put_behind old new l s t x sound done d e y h =
      let ring = ring_seen old sound l (d ++ (s, y) ∷ e) h in
      let put = done.ring (d ++ (s, y) ∷ []) e (subst (λ c. IsRing (get old) l c) (sym (append_assoc d ((s, y) ∷ []) e)) ring) (last_key-append l d (s, y)) in
      record {
        changed = seen_ring new l (d ++ (s, y) ∷ (t, x) ∷ e) (subst (λ c. IsRing (get new) l c) (append_assoc d ((s, y) ∷ []) ((t, x) ∷ e)) put);
        others = λ m differ. other_seen old new m (done.others m differ);
      }

  pub taken_out : (old new : Slab (Node T)) (l s : ℕ) (x : T) → IsSound old → Unlinks old new l s x → (d e : List (ℕ × T)) (y : T) → Holds (seen old) l d s y e → (x ≡ y) × Updates (seen old) (seen new) l (Some (d ++ e)) × (new.capacity ≡ old.capacity)
  taken_out old new l s x sound done d e y h =
      let out = done.ring d e y (ring_seen old sound l (d ++ (s, y) ∷ e) h) in (
        out.0,
        record {
          changed = seen_ring new l (d ++ e) out.1;
          others = λ m differ. other_seen old new m (done.others m differ);
        },
        done.places,
      )

  pub joined : (old new : Slab (Node T)) (to from : ℕ) → IsSound old → Splices old new to from → (c d : List (ℕ × T)) → list_of (seen old) to ≡ Some c → list_of (seen old) from ≡ Some d → SplicesLists (seen old) (seen new) to (c ++ d) from × (new.capacity ≡ old.capacity)
  joined old new to from sound done c d h k =
      let both = done.ring c d (ring_seen old sound to c h) (ring_seen old sound from d k) in (
        record {
          joined = seen_ring new to (c ++ d) both.0;
          emptied = seen_ring new from [] both.1;
          others = λ m mt mf. other_seen old new m (done.others m mt mf);
        },
        done.places,
      )

  -- the slot of the node behind another
  pub next_key : (nodes : Slab (Node T)) (l p : ℕ) (e : List (ℕ × T)) → IsRun (get nodes) p e l → item_in (get nodes l) ≡ None → ((e ≡ []) × (after_in (get nodes p) ≡ l)) ⊎ ((first_slot e ≡ Some (after_in (get nodes p))) × (after_in (get nodes p) ≢ l))
  next_key nodes l p [] run free = inl (refl, run.0)
  next_key nodes l p (y ∷ e) run free =
      inr (ap Some (sym run.0), λ same. let found : None ≡ Some y.1 = sym free ∙ ap (λ k. item_in (get nodes k)) (sym same ∙ run.0) ∙ run.2 in absurd (cc))

  slot_seen : (l after : ℕ) (result : Option ℕ) (e : List (ℕ × T)) → result ≡ cond (eqb after l) None (Some after) → ((e ≡ []) × (after ≡ l)) ⊎ ((first_slot e ≡ Some after) × (after ≢ l)) → result ≡ first_slot e
  slot_seen l after result e is cases =
      elim cases [
        | inl (none, same) ↦ is ∙ ap (λ b. cond b None (Some after)) (eq-eqb after l same) ∙ sym (ap first_slot none)
        | inr (some, differ) ↦ is ∙ ap (λ b. cond b None (Some after)) (ne_eqb after l differ) ∙ sym some
      ]

  pub next_slot : (nodes : Slab (Node T)) → IsSound nodes → (l s after : ℕ) (result : Option ℕ) → after ≡ after_in (get nodes s) → result ≡ cond (eqb after l) None (Some after) → (d e : List (ℕ × T)) (y : T) → Holds (seen nodes) l d s y e → result ≡ first_slot e
  next_slot nodes sound l s after result follows is d e y h =
      let ring = ring_seen nodes sound l (d ++ (s, y) ∷ e) h in
      let split = run_split (get nodes) l d (s, y) e l ring.linked in
      slot_seen l after result e is
      (subst (λ k. ((e ≡ []) × (k ≡ l)) ⊎ ((first_slot e ≡ Some k) × (k ≢ l))) (sym follows) (next_key nodes l s e split.2 (ring_free (get nodes) l _ ring)))

  pub front_slot : (nodes : Slab (Node T)) → IsSound nodes → (l after : ℕ) (result : Option ℕ) → after ≡ after_in (get nodes l) → result ≡ cond (eqb after l) None (Some after) → (c : List (ℕ × T)) → list_of (seen nodes) l ≡ Some c → result ≡ first_slot c
  front_slot nodes sound l after result follows is c h =
      let ring = ring_seen nodes sound l c h in
      slot_seen l after result c is
      (subst (λ k. ((c ≡ []) × (k ≡ l)) ⊎ ((first_slot c ≡ Some k) × (k ≢ l))) (sym follows) (next_key nodes l l c ring.linked (ring_free (get nodes) l c ring)))

  pub once : (nodes : Slab (Node T)) → IsSound nodes → EachSlotOnce (seen nodes)
  once nodes sound l m s x y d e f g h k =
      let one = ring_seen nodes sound l (d ++ (s, x) ∷ e) h in
      let two = ring_seen nodes sound m (f ++ (s, y) ∷ g) k in
      let first = run_split (get nodes) l d (s, x) e l one.linked in
      let second = run_split (get nodes) m f (s, y) g m two.linked in
      let ends = same_run (get nodes) s e g l m first.2 second.2 (ring_free (get nodes) l _ one) (ring_free (get nodes) m _ two) in
      let both : Some x ≡ Some y = sym first.1 ∙ second.1 in
      let items : x ≡ y = cc in
      let whole : Some (d ++ (s, x) ∷ e) ≡ Some (f ++ (s, y) ∷ g) = sym h ∙ ap (list_of (seen nodes)) ends.0 ∙ k in
      let lists : d ++ (s, x) ∷ e ≡ f ++ (s, y) ∷ g = cc in
      let backs : (s, x) ∷ e ≡ (s, y) ∷ g = λ i. (s, items i) ∷ ends.1 i in
      (ends.0, items, same_front d f ((s, x) ∷ e) ((s, y) ∷ g) lists backs, ends.1)
    where
      same_front : (d f a b : List (ℕ × T)) → d ++ a ≡ f ++ b → a ≡ b → d ≡ f
      same_front d f a b h k = append_cancel_right d f a (h ∙ ap (λ c. f ++ c) (sym k))

  -- a node of a list without items has come
  module _ (old n0 n1 : Slab (Node T)) (s : ℕ) (room : n0.slots ≡ old.slots) (vacant : get n0 s ≡ None) (stored : UpdatesSlab n0 n1 s (Some (record { before = s; after = s; content = Ring 0 }))) (more : slab_len n1 ≡ slab_len n0 + 1) where
    same_get : (q : ℕ) → get n0 q ≡ get old q
    same_get q = ap (λ slots. get_or slots q None) room

    new_free : get old s ≡ None
    new_free = sym (same_get s) ∙ vacant

    new_others : (q : ℕ) → q ≢ s → get n1 q ≡ get old q
    new_others q differ = stored.others q differ ∙ same_get q

    new_near : Near (get old) (get n1) s s s
    new_near = record { after = λ q qs _. ap after_in (new_others q qs); before = λ q qs _. ap before_in (new_others q qs); items = λ q qs. ap item_in (new_others q qs) }

    new_ring : IsRing (get n1) s []
    new_ring = record { counted = ap length_in stored.changed; linked = (ap after_in stored.changed, ap before_in stored.changed) }

    new_other : (m : ℕ) (c : List (ℕ × T)) → m ≢ s → IsRing (get old) m c → IsRing (get n1) m c
    new_other m c differ ring =
        let apart = apart_free (get old) m c m s ring.linked (ap item_in new_free) in
        record {
          counted = ap length_in (new_others m differ) ∙ ring.counted;
          linked = frame (get old) (get n1) s s s new_near m c m ring.linked differ differ apart apart apart differ differ;
        }

    pub new_sound : IsSound old → IsSound n1
    new_sound sound =
        record {
          rings = rings_stay (get old) (get n1) sound.rings s [] new_ring (λ m differ. ap length_in (new_others m differ)) new_other;
          whole = whole;
        }
      where
        whole : sum_by weight n1.slots ≡ slab_len n1
        whole =
            let moved : sum_by weight n1.slots + weight (get old s) ≡ sum_by weight old.slots + weight (get n1 s) = sum_one weight None refl old.slots n1.slots s (λ q differ. ap weight (new_others q differ)) in
            let was : weight (get old s) ≡ 0 = ap weight new_free in
            let is : weight (get n1 s) ≡ 1 = ap weight stored.changed in
            let same_count : slab_len n0 ≡ slab_len old = ap (λ slots. slab_len (record n0 { slots = slots })) room in
            omega (arith, moved, was, is, more, same_count, sound.whole)

    pub new_seen : IsSound old → Updates (seen old) (seen n1) s (Some [])
    new_seen sound =
        record {
          changed = seen_ring n1 s [] new_ring;
          others = λ m differ. other_seen old n1 m (keeps (get old) (get n1) sound.rings m (ap length_in (new_others m differ)) (λ c r. new_other m c differ r));
        }

    pub new_fresh : list_of (seen old) s ≡ None
    new_fresh = list_seen old s ∙ ap (list_from (get old)) new_free

  -- the last item of a list that has one
  pub snoc : (p : ℕ) (y : ℕ × T) (c : List (ℕ × T)) → (d : List (ℕ × T)) × (x : T) × (y ∷ c ≡ d ++ (last_key p (y ∷ c), x) ∷ [])
  snoc p y [] = ([], y.1, refl)
  snoc p y (z ∷ c) = let rest = snoc y.0 z c in (y ∷ rest.0, rest.1, ap (λ l. y ∷ l) rest.2)

  pub last_held : (nodes : Slab (Node T)) → IsSound nodes → (l p : ℕ) → IsLive (seen nodes) l → p ≡ before_in (get nodes l) → p ≢ l → IsHeld nodes l p
  last_held nodes sound l p live end differ =
      let list = there (list_of (seen nodes) l) live in
      by_list list.0 (ring_seen nodes sound l list.0 list.1)
    where
      by_list : (c : List (ℕ × T)) → IsRing (get nodes) l c → IsHeld nodes l p
      by_list [] ring = absurd (differ (end ∙ ring.linked.1))
      by_list (y ∷ c) ring =
          let parts = snoc l y c in
          let same : last_key l (y ∷ c) ≡ p = sym (run_before (get nodes) l (y ∷ c) l ring.linked) ∙ sym end in
          (parts.0, parts.1, [], subst (λ k. IsRing (get nodes) l (parts.0 ++ (k, parts.1) ∷ [])) same (subst (λ k. IsRing (get nodes) l k) parts.2 ring))

  -- the slot at the end of a list is that of its last node, and no list's own
  pub end_of : (nodes : Slab (Node T)) → IsSound nodes → (l p : ℕ) → p ≡ before_in (get nodes l) → (d : List (ℕ × T)) (s : ℕ) (y : T) → Holds (seen nodes) l d s y [] → (s ≡ p) × (p ≢ l)
  end_of nodes sound l p end d s y h =
      let ring = ring_seen nodes sound l (d ++ (s, y) ∷ []) h in
      let same : s ≡ p = sym (last_key-append l d (s, y)) ∙ sym (run_before (get nodes) l (d ++ (s, y) ∷ []) l ring.linked) ∙ sym end in
      let split = run_split (get nodes) l d (s, y) [] l ring.linked in
      (same, λ own. let found : None ≡ Some y = sym (ring_free (get nodes) l _ ring) ∙ ap (λ k. item_in (get nodes k)) (sym own ∙ sym same) ∙ split.1 in absurd (cc))

  -- a list without items ends at its own node
  pub end_of_none : (nodes : Slab (Node T)) → IsSound nodes → (l p : ℕ) → p ≡ before_in (get nodes l) → list_of (seen nodes) l ≡ Some [] → p ≡ l
  end_of_none nodes sound l p end h = end ∙ (ring_seen nodes sound l [] h).linked.1

  pub popped : (old new : Slab (Node T)) (l p : ℕ) (x : T) → IsSound old → p ≡ before_in (get old l) → Unlinks old new l p x → (d : List (ℕ × T)) (s : ℕ) (y : T) → Holds (seen old) l d s y [] → (Some x ≡ Some y) × Updates (seen old) (seen new) l (Some d) × (new.capacity ≡ old.capacity)
  popped old new l p x sound end done d s y h =
      let same = (end_of old sound l p end d s y h).0 in
      let out = taken_out old new l p x sound done d [] y (subst (λ k. Holds (seen old) l d k y []) same h) in
      (ap Some out.0, subst (λ c. Updates (seen old) (seen new) l (Some c)) (append-nil d) out.1, out.2)

  -- a node of an empty list goes
  module _ (old new : Slab (Node T)) (l : ℕ) (sound : IsSound old) (empty : IsRing (get old) l []) (removed : UpdatesSlab old new l None) (fewer : slab_len new + 1 ≡ slab_len old) where
    gone_near : Near (get old) (get new) l l l
    gone_near = record { after = λ q ql _. ap after_in (removed.others q ql); before = λ q ql _. ap before_in (removed.others q ql); items = λ q ql. ap item_in (removed.others q ql) }

    gone_other : (m : ℕ) (c : List (ℕ × T)) → m ≢ l → IsRing (get old) m c → IsRing (get new) m c
    gone_other m c differ ring =
        let apart = apart_free (get old) m c m l ring.linked (ring_free (get old) l [] empty) in
        record {
          counted = ap length_in (removed.others m differ) ∙ ring.counted;
          linked = frame (get old) (get new) l l l gone_near m c m ring.linked differ differ apart apart apart differ differ;
        }

    pub gone_sound : IsSound new
    gone_sound = record { rings = rings; whole = whole }
      where
        rings : (m n : ℕ) → length_in (get new m) ≡ Some n → (c : List (ℕ × T)) × IsRing (get new) m c
        rings m n h =
            elim (cases_eq m l) [
              | inl same ↦ absurd (let no : None ≡ Some n = sym (ap (λ k. length_in (get new k)) same ∙ ap length_in removed.changed) ∙ h in cc)
              | inr differ ↦ (let was = sound.rings m n (sym (ap length_in (removed.others m differ)) ∙ h) in (was.0, gone_other m was.0 differ was.1))
            ]

        whole : sum_by weight new.slots ≡ slab_len new
        whole =
            let moved : sum_by weight new.slots + weight (get old l) ≡ sum_by weight old.slots + weight (get new l) = sum_one weight None refl old.slots new.slots l (λ q differ. ap weight (removed.others q differ)) in
            let was : weight (get old l) ≡ 1 = ap with_own empty.counted in
            let is : weight (get new l) ≡ 0 = ap weight removed.changed in
            omega (arith, moved, was, is, fewer, sound.whole)

    pub gone_seen : Updates (seen old) (seen new) l None
    gone_seen =
        record {
          changed = list_seen new l ∙ ap (list_from (get new)) removed.changed;
          others = λ m differ. other_seen old new m (keeps (get old) (get new) sound.rings m (ap length_in (removed.others m differ)) (λ c r. gone_other m c differ r));
        }

  pub item_seen : (nodes : Slab (Node T)) → IsSound nodes → (l s : ℕ) (x : T) → item_in (get nodes s) ≡ Some x → (d e : List (ℕ × T)) (y : T) → Holds (seen nodes) l d s y e → x ≡ y
  item_seen nodes sound l s x item d e y h =
      let ring = ring_seen nodes sound l (d ++ (s, y) ∷ e) h in
      let both : Some x ≡ Some y = sym item ∙ (run_split (get nodes) l d (s, y) e l ring.linked).1 in
      cc

-- what a call of `pop_back` leaves, by whether it found an item
module _ {T : Type 0} (old new : Chains T) (l : ℕ) (result : Option T) (empty : list_of old l ≡ Some [] → (result ≡ None) × (new ≡ old)) (last : (d : List (ℕ × T)) (s : ℕ) (y : T) → Holds old l d s y [] → (result ≡ Some y) × Updates old new l (Some d) × (new.places ≡ old.places)) where
  -- no item was there, or the list has lost its last
  pub record Popped : Type 0 where
    pub drained : IsDrained old new l
    pub fewer : IsSome result → suc (places_of (list_of new l)) ≡ places_of (list_of old l)
    pub none : result ≡ None → list_of new l ≡ Some []

  by_items : (c : List (ℕ × T)) → list_of old l ≡ Some c → Popped
  by_items [] h =
      let found = empty h in
      record {
        drained = subst (λ v. IsDrained old v l) (sym found.1) (record { live = subst (λ o. IsSome o) (sym h) refl; others = λ m differ. refl; places = refl });
        fewer = λ some. absurd (let no : IsSome {T = T} None = subst (λ o. IsSome o) found.0 some in cc);
        none = λ _. ap (λ v. list_of v l) found.1 ∙ h;
      }
  by_items (y ∷ c) h =
      let parts = snoc 0 y c in
      let is : list_of old l ≡ Some (parts.0 ++ (last_key 0 (y ∷ c), parts.1) ∷ []) = h ∙ ap Some parts.2 in
      let found = last parts.0 (last_key 0 (y ∷ c)) parts.1 is in
      record {
        drained = record { live = subst (λ o. IsSome o) (sym found.1.changed) refl; others = found.1.others; places = found.2 };
        fewer = λ some. rw (found.1.changed, is) (omega (arith, length-append parts.0 ((last_key 0 (y ∷ c), parts.1) ∷ [])));
        none = λ no. absurd (let both : None ≡ Some parts.1 = sym no ∙ found.0 in cc);
      }

  pub popped_cases : IsLive old l → Popped
  popped_cases live = let list = there (list_of old l) live in by_items list.0 list.1

module _ {T : Type 0} where
  pub drained_more : (a b d : Chains T) (l : ℕ) → IsDrained a b l → IsDrained b d l → IsDrained a d l
  drained_more a b d l one two = record { live = two.live; others = λ m differ. two.others m differ ∙ one.others m differ; places = two.places ∙ one.places }

  pub drained_gone : (a b d : Chains T) (l : ℕ) → IsDrained a b l → Updates b d l None → Updates a d l None
  drained_gone a b d l one two = record { changed = two.changed; others = λ m differ. two.others m differ ∙ one.others m differ }
