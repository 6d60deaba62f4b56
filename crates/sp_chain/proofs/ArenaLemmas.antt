-- What a change of several nodes does to the lists of an arena.
use Rattle.std.proofs.Common.{◌≡◌, ◌≢◌, ◌⊎◌, ℕ, suc, ◌+◌, ◌-◌, ◌<◌, ◌≤◌, List, [], ◌∷◌, ◌++◌, length, Option, Some, None, IsSome, get_or, sum_by, refl, sym, ap, subst, ◌∙◌, inl, inr, arith, length-append, append-nil, add-one}
use Rattle.std.proofs.lemmas.Bool.{cases_eq}
use Rattle.slab.specs.Slab.{Slab, get, slab_len, ContainsKey, Updates}
use Rattle.sp_chain.specs.declared.nodes.Node.{Node}
use Rattle.sp_chain.specs.declared.nodes.Content.TheVariants.{List as Ring, Item}
use Rattle.sp_chain.specs.Rings.{after_in, before_in, item_of, item_in, length_of, length_in, with_own, weight, IsRun, IsRing, IsSound, list_at, list_from, last_key, first_key}
use Rattle.sp_chain.specs.inside.Steps.{SetsAfter, SetsBefore, SetsLength, IsPlace, IsHeld, KeepsOthers, Inserts, Unlinks, Splices}
use Rattle.sp_chain.proofs.Sums.{sum_same, sum_one, sum_holds, sum_holds_two}
use Rattle.sp_chain.proofs.RingLemmas.{same_run, Apart, apart_free, apart_longer, away, run_after, run_before, run_split, run_rest, apart_rest, apart_first, apart_last, run_end, run_join, apart_end, Near, frame, insert_run, unlink_run, list_of_ring, Nearly, retarget, untouched}

pub length_there : (o : Option ℕ) → IsSome o → (k : ℕ) × (o ≡ Some k)
length_there None h = absurd (cc)
length_there (Some k) h = (k, refl)

module _ {T : Type 0} where
  content_apart : (o : Option (Node T)) (k : ℕ) → length_in o ≡ Some k → item_in o ≡ None
  content_apart None k h = refl
  content_apart (Some node) k h = by_content node.content h
    where
      by_content : (content : Rattle.sp_chain.specs.declared.nodes.Content.Content T) → length_of content ≡ Some k → item_of content ≡ None
      by_content (Ring n) h = refl
      by_content (Item x) h = absurd (cc)

  pub item_apart : (o : Option (Node T)) (x : T) → item_in o ≡ Some x → length_in o ≡ None
  item_apart None x h = refl
  item_apart (Some node) x h = by_content node.content h
    where
      by_content : (content : Rattle.sp_chain.specs.declared.nodes.Content.Content T) → item_of content ≡ Some x → length_of content ≡ None
      by_content (Ring n) h = absurd (cc)
      by_content (Item x) h = refl

  pub item_there : (o : Option (Node T)) (x : T) → item_in o ≡ Some x → IsSome o
  item_there None x h = absurd (cc)
  item_there (Some node) x h = refl

  pub list_there : (o : Option (Node T)) (k : ℕ) → length_in o ≡ Some k → IsSome o
  list_there None k h = absurd (cc)
  list_there (Some node) k h = refl

  -- the node of a list has no item
  pub ring_free : (f : ℕ → Option (Node T)) (l : ℕ) (c : List (ℕ × T)) → IsRing f l c → item_in (f l) ≡ None
  ring_free f l c ring = content_apart (f l) _ ring.counted

  abbrev pub AreRings : (ℕ → Option (Node T)) → Type 0
  AreRings f = (l n : ℕ) → length_in (f l) ≡ Some n → (c : List (ℕ × T)) × IsRing f l c

  pub no_list : (f : ℕ → Option (Node T)) (o : Option (Node T)) → length_in o ≡ None → list_from f o ≡ None
  no_list f o h = ap (list_at f (after_in o)) h

  -- what holds of each list that is there, and where there is none
  pub list_cases : (f : ℕ → Option (Node T)) → AreRings f → (l : ℕ) → (length_in (f l) ≡ None) ⊎ ((c : List (ℕ × T)) × IsRing f l c)
  list_cases f rings l = by_length (length_in (f l)) refl
    where
      by_length : (o : Option ℕ) → length_in (f l) ≡ o → (length_in (f l) ≡ None) ⊎ ((c : List (ℕ × T)) × IsRing f l c)
      by_length None h = inl h
      by_length (Some n) h = inr (rings l n h)

  pub ring_of_list : (f : ℕ → Option (Node T)) → AreRings f → (l : ℕ) (c : List (ℕ × T)) → list_from f (f l) ≡ Some c → IsRing f l c
  ring_of_list f rings l c h =
      elim (list_cases f rings l) [
        | inl none ↦ absurd (let no : None ≡ Some c = sym (no_list f (f l) none) ∙ h in cc)
        | inr (d, ring) ↦ (let both : Some d ≡ Some c = sym (list_of_ring f l d ring) ∙ h in let same : d ≡ c = cc in subst (λ k. IsRing f l k) same ring)
      ]

  -- a list whose ring is as it was is as it was
  pub keeps : (f g : ℕ → Option (Node T)) → AreRings f → (m : ℕ) → length_in (g m) ≡ length_in (f m) → ((c : List (ℕ × T)) → IsRing f m c → IsRing g m c) → list_from g (g m) ≡ list_from f (f m)
  keeps f g rings m same_length same =
      elim (list_cases f rings m) [
        | inl none ↦ no_list g (g m) (same_length ∙ none) ∙ sym (no_list f (f m) none)
        | inr (c, ring) ↦ list_of_ring g m c (same c ring) ∙ sym (list_of_ring f m c ring)
      ]

  -- there are nodes at the places of a ring
  pub last_there : (f : ℕ → Option (Node T)) (q : ℕ) (d e : List (ℕ × T)) (l : ℕ) → IsRun f q (d ++ e) l → IsSome (f q) → IsSome (f (last_key q d))
  last_there f q [] e l r h = h
  last_there f q (y ∷ d) e l r h = last_there f y.0 d e l r.3 (item_there (f y.0) y.1 r.2)

  pub next_there : (f : ℕ → Option (Node T)) (p : ℕ) (e : List (ℕ × T)) (l : ℕ) → IsRun f p e l → IsSome (f l) → IsSome (f (after_in (f p)))
  next_there f p [] l r h = subst (λ k. IsSome (f k)) (sym r.0) h
  next_there f p (y ∷ e) l r h = subst (λ k. IsSome (f k)) (sym r.0) (item_there (f y.0) y.1 r.2)

  pub place_there : (nodes : Slab (Node T)) (l p : ℕ) → IsPlace nodes l p → ContainsKey nodes p
  place_there nodes l p place =
      let ring = place.2 in
      subst (λ k. ContainsKey nodes k) place.3 (last_there (get nodes) l place.0 place.1 l ring.linked (list_there (get nodes l) _ ring.counted))

  pub next_of_place : (nodes : Slab (Node T)) (l p : ℕ) → IsPlace nodes l p → ContainsKey nodes (after_in (get nodes p))
  next_of_place nodes l p place =
      let ring = place.2 in
      next_there (get nodes) p place.1 l
      (subst (λ k. IsRun (get nodes) k place.1 l) place.3 (run_rest (get nodes) l place.0 place.1 l ring.linked))
      (list_there (get nodes l) _ ring.counted)

  pub stored_there : (old n0 n1 : Slab (Node T)) (s : ℕ) (node : Node T) → n0.slots ≡ old.slots → Updates n0 n1 s (Some node) → (k : ℕ) → ContainsKey old k → ContainsKey n1 k
  stored_there old n0 n1 s node room stored k there =
      elim (cases_eq k s) [
        | inl same ↦ subst (λ o. IsSome o) (sym (ap (get n1) same ∙ stored.changed)) refl
        | inr differ ↦ subst (λ o. IsSome o) (sym (stored.others k differ ∙ ap (λ slots. get_or slots k None) room)) there
      ]

  -- an item x under the slot s comes in between p and n
  pub record Insertion (f g : ℕ → Option (Node T)) (l p n s : ℕ) (x : T) : Type 0 where
    pub near : Near f g p n s
    pub ps : after_in (g p) ≡ s
    pub sp : before_in (g s) ≡ p
    pub sx : item_in (g s) ≡ Some x
    pub sn : after_in (g s) ≡ n
    pub ns : before_in (g n) ≡ s
    pub fresh : f s ≡ None
    pub lengths : (m : ℕ) → m ≢ l → length_in (g m) ≡ length_in (f m)
    pub longer : (k : ℕ) → length_in (f l) ≡ Some k → length_in (g l) ≡ Some (suc k)

  pub not_fresh : (f : ℕ → Option (Node T)) (s l : ℕ) (c : List (ℕ × T)) → f s ≡ None → IsRing f l c → l ≢ s
  not_fresh f s l c fresh ring same = let no : None ≡ Some (length c) = ap length_in (sym (ap f same ∙ fresh)) ∙ ring.counted in absurd (cc)

  pub inserted_ring : (f g : ℕ → Option (Node T)) (l p n s : ℕ) (x : T) → Insertion f g l p n s x → n ≡ after_in (f p) → (d e : List (ℕ × T)) → IsRing f l (d ++ e) → last_key l d ≡ p → IsRing g l (d ++ (s, x) ∷ e)
  inserted_ring f g l p n s x ins follows d e ring last =
      let run = ring.linked in
      let free : item_in (f l) ≡ None = ring_free f l (d ++ e) ring in
      let rest : IsRun f p e l = subst (λ k. IsRun f k e l) last (run_rest f l d e l run) in
      let first : first_key e l ≡ n = sym (run_after f p e l rest) ∙ sym follows in
      let apart : Apart s (d ++ e) = apart_free f l (d ++ e) l s run (ap item_in ins.fresh) in
      let ls : l ≢ s = not_fresh f s l (d ++ e) ins.fresh ring in
      let size : suc (length (d ++ e)) ≡ length (d ++ (s, x) ∷ e) = omega (arith, length-append d e, length-append d ((s, x) ∷ e)) in
      record {
        counted = ins.longer (length (d ++ e)) ring.counted ∙ ap Some size;
        linked = insert_run f g p n s ins.near x ins.ps ins.sp ins.sx ins.sn ins.ns l d e l run free last first ls ls apart;
      }

  -- other rings stay, where p and n are of this one
  pub other_ring : (f g : ℕ → Option (Node T)) (l p n s : ℕ) → Near f g p n s → (e b : List (ℕ × T)) → IsRun f p e l → IsRun f n b l → item_in (f l) ≡ None → (m : ℕ) (c : List (ℕ × T)) → m ≢ l → IsRing f m c → length_in (g m) ≡ length_in (f m) → m ≢ s → Apart s c → IsRing g m c
  other_ring f g l p n s near e b pr nr free m c differ ring same ms apart =
      let own : item_in (f m) ≡ None = ring_free f m c ring in
      let from_p = away f m c p e l ring.linked pr own free differ in
      let from_n = away f m c n b l ring.linked nr own free differ in
      record {
        counted = same ∙ ring.counted;
        linked = frame f g p n s near m c m ring.linked from_p.0 ms from_p.1 from_n.1 apart from_n.0 ms;
      }

  -- the node behind p is of the same ring
  pub rest_of_next : (f : ℕ → Option (Node T)) (p l n : ℕ) (e a : List (ℕ × T)) → IsRun f p e l → IsRun f l a l → n ≡ after_in (f p) → (b : List (ℕ × T)) × IsRun f n b l
  rest_of_next f p l n [] a r ring follows = (a, subst (λ k. IsRun f k a l) (sym (follows ∙ r.0)) ring)
  rest_of_next f p l n (y ∷ e) a r ring follows = (e, subst (λ k. IsRun f k e l) (sym (follows ∙ r.0)) r.3)

  pub inserted_other : (f g : ℕ → Option (Node T)) (l p n s : ℕ) (x : T) → Insertion f g l p n s x → n ≡ after_in (f p) → (d e : List (ℕ × T)) → IsRing f l (d ++ e) → last_key l d ≡ p → (m : ℕ) (c : List (ℕ × T)) → m ≢ l → IsRing f m c → IsRing g m c
  inserted_other f g l p n s x ins follows d e ring last m c differ other =
      let run = ring.linked in
      let rest : IsRun f p e l = subst (λ k. IsRun f k e l) last (run_rest f l d e l run) in
      let next = rest_of_next f p l n e (d ++ e) rest run follows in
      other_ring f g l p n s ins.near e next.0 rest next.1 (ring_free f l (d ++ e) ring) m c differ other (ins.lengths m differ)
      (not_fresh f s m c ins.fresh other)
      (apart_free f m c m s other.linked (ap item_in ins.fresh))

  -- rings stay rings, where one list has changed
  pub rings_stay : (f g : ℕ → Option (Node T)) → AreRings f → (l : ℕ) (c : List (ℕ × T)) → IsRing g l c → ((m : ℕ) → m ≢ l → length_in (g m) ≡ length_in (f m)) → ((m : ℕ) (d : List (ℕ × T)) → m ≢ l → IsRing f m d → IsRing g m d) → AreRings g
  rings_stay f g rings l c ring lengths others m k h =
      elim (cases_eq m l) [
        | inl same ↦ (c, subst (λ j. IsRing g j c) (sym same) ring)
        | inr differ ↦ (let was = rings m k (sym (lengths m differ) ∙ h) in (was.0, others m was.0 differ was.1))
      ]

  -- the steps of an insertion: room is made, a node comes in, its neighbours are set
  pub record InsertionSteps (old n0 n1 n2 n3 : Slab (Node T)) (l p n s k : ℕ) (x : T) : Type 0 where
    pub room : n0.slots ≡ old.slots
    pub vacant : get n0 s ≡ None
    pub stored : Updates n0 n1 s (Some (record { before = p; after = n; content = Item x }))
    pub more : slab_len n1 ≡ slab_len n0 + 1
    pub after : SetsAfter n1 n2 p s
    pub before : SetsBefore n2 n3 n s
    pub counted : length_in (get n3 l) ≡ Some k

  -- the facts of a place in a ring, by names
  pub record Place (f : ℕ → Option (Node T)) (l p n : ℕ) : Type 0 where
    pub front : List (ℕ × T)
    pub back : List (ℕ × T)
    pub ring : IsRing f l (front ++ back)
    pub last : last_key l front ≡ p
    pub follows : n ≡ after_in (f p)

  module _ (old n0 n1 n2 n3 : Slab (Node T)) (l p n s k : ℕ) (x : T) (steps : InsertionSteps old n0 n1 n2 n3 l p n s k x) (place : Place (get old) l p n) where
    same_room : (q : ℕ) → get n0 q ≡ get old q
    same_room q = ap (λ slots. get_or slots q None) steps.room

    fresh : get old s ≡ None
    fresh = sym (same_room s) ∙ steps.vacant

    run : IsRun (get old) l (place.front ++ place.back) l
    run = place.ring.linked

    free : item_in (get old l) ≡ None
    free = ring_free (get old) l (place.front ++ place.back) place.ring

    apart : Apart s (place.front ++ place.back)
    apart = apart_free (get old) l (place.front ++ place.back) l s run (ap item_in fresh)

    not_list : l ≢ s
    not_list = not_fresh (get old) s l (place.front ++ place.back) fresh place.ring

    not_before : p ≢ s
    not_before same = apart_last s l place.front place.back apart not_list (place.last ∙ same)

    rest : IsRun (get old) p place.back l
    rest = subst (λ q. IsRun (get old) q place.back l) place.last (run_rest (get old) l place.front place.back l run)

    first : first_key place.back l ≡ n
    first = sym (run_after (get old) p place.back l rest) ∙ sym place.follows

    not_after : n ≢ s
    not_after same = apart_first s place.back l (apart_rest s place.front place.back apart) not_list (first ∙ same)

    others_stored : (q : ℕ) → q ≢ s → get n1 q ≡ get old q
    others_stored q differ = steps.stored.others q differ ∙ same_room q

    lengths_stored : (q : ℕ) → length_in (get n1 q) ≡ length_in (get old q)
    lengths_stored q =
        elim (cases_eq q s) [
          | inl same ↦ ap (λ j. length_in (get n1 j)) same ∙ ap length_in steps.stored.changed ∙ sym (ap (λ j. length_in (get old j)) same ∙ ap length_in fresh)
          | inr differ ↦ ap length_in (others_stored q differ)
        ]

    lengths_linked : (q : ℕ) → length_in (get n3 q) ≡ length_in (get old q)
    lengths_linked q = steps.before.lengths q ∙ steps.after.lengths q ∙ lengths_stored q

    weights_linked : sum_by weight n3.slots ≡ sum_by weight old.slots
    weights_linked = sum_same weight None refl old.slots n3.slots (λ q. ap with_own (lengths_linked q))

    pub insertion_room : IsSound old → k < slab_len n3
    insertion_room sound =
        let holds : with_own (length_in (get n3 l)) ≤ sum_by weight n3.slots = sum_holds weight None refl n3.slots l in
        let own : with_own (length_in (get n3 l)) ≡ suc k = ap with_own steps.counted in
        omega (arith, holds, own, weights_linked, sound.whole, steps.before.count, steps.after.count, steps.more, same_count)
      where
        same_count : slab_len n0 ≡ slab_len old
        same_count = ap (λ slots. slab_len (record n0 { slots = slots })) steps.room

    insertion : (n4 : Slab (Node T)) → SetsLength n3 n4 l (k + 1) → Insertion (get old) (get n4) l p n s x
    insertion n4 last =
        record {
          near = record {
            after = λ q qp qs. last.after q ∙ steps.before.after q ∙ steps.after.others q qp ∙ ap after_in (others_stored q qs);
            before = λ q qn qs. last.before q ∙ steps.before.others q qn ∙ steps.after.before q ∙ ap before_in (others_stored q qs);
            items = λ q qs. last.items q ∙ steps.before.items q ∙ steps.after.items q ∙ ap item_in (others_stored q qs);
          };
          ps = last.after p ∙ steps.before.after p ∙ steps.after.changed;
          sp = last.before s ∙ steps.before.others s (λ same. not_after (sym same)) ∙ steps.after.before s ∙ ap before_in steps.stored.changed;
          sx = last.items s ∙ steps.before.items s ∙ steps.after.items s ∙ ap item_in steps.stored.changed;
          sn = last.after s ∙ steps.before.after s ∙ steps.after.others s (λ same. not_before (sym same)) ∙ ap after_in steps.stored.changed;
          ns = last.before n ∙ steps.before.changed;
          fresh = fresh;
          lengths = λ m differ. last.others m differ ∙ lengths_linked m;
          longer = λ j was. (let both : Some j ≡ Some k = sym was ∙ sym (lengths_linked l) ∙ steps.counted in let same : j ≡ k = cc in last.changed ∙ ap Some (add-one k ∙ ap suc (sym same)));
        }

    pub inserted : (n4 : Slab (Node T)) → SetsLength n3 n4 l (k + 1) → IsSound old → Inserts old n4 l p s x
    inserted n4 length sound =
        let insertion_is : Insertion (get old) (get n4) l p n s x = insertion n4 length in
        let ring = λ (d : List (ℕ × T)) (e : List (ℕ × T)) (r : IsRing (get old) l (d ++ e)) (last : last_key l d ≡ p). inserted_ring (get old) (get n4) l p n s x insertion_is place.follows d e r last in
        let other = λ (m : ℕ) (c : List (ℕ × T)) (differ : m ≢ l) (r : IsRing (get old) m c). inserted_other (get old) (get n4) l p n s x insertion_is place.follows place.front place.back place.ring place.last m c differ r in
        record {
          sound = record {
            rings = rings_stay (get old) (get n4) sound.rings l (place.front ++ (s, x) ∷ place.back) (ring place.front place.back place.ring place.last) insertion_is.lengths other;
            whole = whole;
          };
          ring = ring;
          others = λ m differ. keeps (get old) (get n4) sound.rings m (insertion_is.lengths m differ) (λ c r. other m c differ r);
          count = count;
        }
      where
        count : slab_len n4 ≡ slab_len old + 1
        count =
            let same_count : slab_len n0 ≡ slab_len old = ap (λ slots. slab_len (record n0 { slots = slots })) steps.room in
            omega (arith, length.count, steps.before.count, steps.after.count, steps.more, same_count)

        whole : sum_by weight n4.slots ≡ slab_len n4
        whole =
            let moved : sum_by weight n4.slots + weight (get n3 l) ≡ sum_by weight n3.slots + weight (get n4 l) = sum_one weight None refl n3.slots n4.slots l (λ q differ. ap with_own (length.others q differ)) in
            let was : weight (get n3 l) ≡ suc k = ap with_own steps.counted in
            let is : weight (get n4 l) ≡ suc (k + 1) = ap with_own length.changed in
            omega (arith, moved, was, is, weights_linked, sound.whole, count)

  -- the steps of an unlinking: the neighbours are joined, the length is set, the node goes
  pub record UnlinkSteps (old n1 n2 n3 n4 : Slab (Node T)) (l p n s k : ℕ) (x : T) : Type 0 where
    pub before_is : p ≡ before_in (get old s)
    pub after_is : n ≡ after_in (get old s)
    pub after : SetsAfter old n1 p n
    pub before : SetsBefore n1 n2 n p
    pub counted : length_in (get n2 l) ≡ Some k
    pub length : SetsLength n2 n3 l (k - 1)
    pub held : item_in (get n3 s) ≡ Some x
    pub removed : Updates n3 n4 s None
    pub fewer : slab_len n4 + 1 ≡ slab_len n3
    pub places : n4.capacity ≡ n3.capacity

  module _ (old n1 n2 n3 n4 : Slab (Node T)) (l p n s k : ℕ) (x : T) (steps : UnlinkSteps old n1 n2 n3 n4 l p n s k x) where
    length_before : (q : ℕ) → length_in (get n2 q) ≡ length_in (get old q)
    length_before q = steps.before.lengths q ∙ steps.after.lengths q

    unlink_near : Near (get old) (get n4) p n s
    unlink_near =
        record {
          after = λ q qp qs. ap after_in (steps.removed.others q qs) ∙ steps.length.after q ∙ steps.before.after q ∙ steps.after.others q qp;
          before = λ q qn qs. ap before_in (steps.removed.others q qs) ∙ steps.length.before q ∙ steps.before.others q qn ∙ steps.after.before q;
          items = λ q qs. ap item_in (steps.removed.others q qs) ∙ steps.length.items q ∙ steps.before.items q ∙ steps.after.items q;
        }

    module _ (d e : List (ℕ × T)) (y : T) (ring : IsRing (get old) l (d ++ (s, y) ∷ e)) where
      split : IsRun (get old) l d s × (item_in (get old s) ≡ Some y) × IsRun (get old) s e l
      split = run_split (get old) l d (s, y) e l ring.linked

      list_free : item_in (get old l) ≡ None
      list_free = ring_free (get old) l (d ++ (s, y) ∷ e) ring

      last_is : last_key l d ≡ p
      last_is = sym (run_before (get old) l d s split.0) ∙ sym steps.before_is

      first_is : first_key e l ≡ n
      first_is = sym (run_after (get old) s e l split.2) ∙ sym steps.after_is

      list_not_slot : l ≢ s
      list_not_slot same = let no : None ≡ Some y = sym list_free ∙ ap (λ q. item_in (get old q)) same ∙ split.1 in absurd (cc)

      run_of_before : IsRun (get old) p ((s, y) ∷ e) l
      run_of_before = subst (λ q. IsRun (get old) q ((s, y) ∷ e) l) last_is (run_rest (get old) l d ((s, y) ∷ e) l ring.linked)

      before_not_slot : p ≢ s
      before_not_slot same =
          let lists = (same_run (get old) p ((s, y) ∷ e) e l l run_of_before (subst (λ q. IsRun (get old) q e l) (sym same) split.2) list_free list_free).1 in
          let none : suc (length e) ≡ length e = ap length lists in
          absurd (omega (arith, none))

      after_not_slot : n ≢ s
      after_not_slot same =
          apart_first s e l (apart_longer (get old) s e l s e split.2 split.2 list_free (omega arith)) list_not_slot (first_is ∙ same)

      length_here : length_in (get n4 l) ≡ Some (length (d ++ e))
      length_here =
          let both : Some k ≡ Some (length (d ++ (s, y) ∷ e)) = sym steps.counted ∙ length_before l ∙ ring.counted in
          let was : k ≡ length (d ++ (s, y) ∷ e) = cc in
          let is : k - 1 ≡ length (d ++ e) = omega (arith, was, length-append d e, length-append d ((s, y) ∷ e)) in
          ap length_in (steps.removed.others l list_not_slot) ∙ steps.length.changed ∙ ap Some is

      pub unlinked_ring : (x ≡ y) × IsRing (get n4) l (d ++ e)
      unlinked_ring =
          let both : Some x ≡ Some y = sym steps.held ∙ steps.length.items s ∙ steps.before.items s ∙ steps.after.items s ∙ split.1 in
          let same : x ≡ y = cc in (
            same,
            record {
              counted = length_here;
              linked = unlink_run (get old) (get n4) p n (s, y) unlink_near
                  (ap after_in (steps.removed.others p before_not_slot) ∙ steps.length.after p ∙ steps.before.after p ∙ steps.after.changed)
                  (ap before_in (steps.removed.others n after_not_slot) ∙ steps.length.before n ∙ steps.before.changed)
                  l d e l ring.linked list_free last_is first_is list_not_slot;
            },
          )

      length_elsewhere : (m : ℕ) → m ≢ l → length_in (get n4 m) ≡ length_in (get old m)
      length_elsewhere m differ =
          elim (cases_eq m s) [
            | inl same ↦ ap (λ q. length_in (get n4 q)) same ∙ ap length_in steps.removed.changed ∙ sym (ap (λ q. length_in (get old q)) same ∙ item_apart (get old s) y split.1)
            | inr other ↦ ap length_in (steps.removed.others m other) ∙ steps.length.others m differ ∙ length_before m
          ]

      unlinked_other : (m : ℕ) (c : List (ℕ × T)) → m ≢ l → IsRing (get old) m c → IsRing (get n4) m c
      unlinked_other m c differ other =
          let next = rest_of_next (get old) s l n e (d ++ (s, y) ∷ e) split.2 ring.linked steps.after_is in
          let from_slot = away (get old) m c s e l other.linked split.2 (ring_free (get old) m c other) list_free differ in
          other_ring (get old) (get n4) l p n s unlink_near ((s, y) ∷ e) next.0 run_of_before next.1 list_free m c differ other (length_elsewhere m differ) from_slot.0 from_slot.1

      pub unlinked_sound : IsSound old → IsSound n4
      unlinked_sound sound =
          record {
            rings = rings_stay (get old) (get n4) sound.rings l (d ++ e) unlinked_ring.1 length_elsewhere unlinked_other;
            whole = whole;
          }
        where
          whole : sum_by weight n4.slots ≡ slab_len n4
          whole =
              let linked : sum_by weight n2.slots ≡ sum_by weight old.slots = sum_same weight None refl old.slots n2.slots (λ q. ap with_own (length_before q)) in
              let moved : sum_by weight n3.slots + weight (get n2 l) ≡ sum_by weight n2.slots + weight (get n3 l) = sum_one weight None refl n2.slots n3.slots l (λ q differ. ap with_own (steps.length.others q differ)) in
              let was : weight (get n2 l) ≡ suc k = ap with_own steps.counted in
              let is : weight (get n3 l) ≡ suc (k - 1) = ap with_own steps.length.changed in
              let gone : sum_by weight n4.slots ≡ sum_by weight n3.slots = sum_same weight None refl n3.slots n4.slots (λ q.
              elim (cases_eq q s) [
                | inl same ↦ ap (λ j. weight (get n4 j)) same ∙ ap weight steps.removed.changed ∙ sym (ap (λ j. weight (get n3 j)) same ∙ ap with_own (item_apart (get n3 s) x steps.held))
                | inr differ ↦ ap weight (steps.removed.others q differ)
              ]) in
              let both : Some k ≡ Some (length (d ++ (s, y) ∷ e)) = sym steps.counted ∙ length_before l ∙ ring.counted in
              let some : k ≡ length (d ++ (s, y) ∷ e) = cc in
              omega (arith, linked, moved, was, is, gone, some, length-append d ((s, y) ∷ e), sound.whole, steps.fewer, steps.length.count, steps.before.count, steps.after.count)

      pub unlinked_keeps : IsSound old → KeepsOthers old n4 l
      unlinked_keeps sound m differ = keeps (get old) (get n4) sound.rings m (length_elsewhere m differ) (λ c r. unlinked_other m c differ r)

    pub unlinked : IsSound old → IsHeld old l s → Unlinks old n4 l s x
    unlinked sound held =
        record {
          sound = unlinked_sound held.0 held.2 held.1 held.3 sound;
          ring = unlinked_ring;
          others = unlinked_keeps held.0 held.2 held.1 held.3 sound;
          places = steps.places ∙ steps.length.places ∙ steps.before.places ∙ steps.after.places;
        }

  pub item_of_held : (nodes : Slab (Node T)) (l s : ℕ) (held : IsHeld nodes l s) → item_in (get nodes s) ≡ Some held.1
  item_of_held nodes l s held = (run_split (get nodes) l held.0 (s, held.1) held.2 l held.3.linked).1

  pub held_there : (nodes : Slab (Node T)) (l s : ℕ) → IsHeld nodes l s → ContainsKey nodes s
  held_there nodes l s held = item_there (get nodes s) held.1 (run_split (get nodes) l held.0 (s, held.1) held.2 l held.3.linked).1

  pub next_of_held : (nodes : Slab (Node T)) (l s : ℕ) → IsHeld nodes l s → ContainsKey nodes (after_in (get nodes s))
  next_of_held nodes l s held =
      next_there (get nodes) s held.2 l (run_split (get nodes) l held.0 (s, held.1) held.2 l held.3.linked).2 (list_there (get nodes l) _ held.3.counted)

  pub previous_of_held : (nodes : Slab (Node T)) (l s : ℕ) → IsHeld nodes l s → ContainsKey nodes (before_in (get nodes s))
  previous_of_held nodes l s held =
      let split = run_split (get nodes) l held.0 (s, held.1) held.2 l held.3.linked in
      subst (λ q. ContainsKey nodes q) (sym (run_before (get nodes) l held.0 s split.0))
      (last_there (get nodes) l held.0 ((s, held.1) ∷ held.2) l held.3.linked (list_there (get nodes l) _ held.3.counted))

  -- the steps of a splicing of the items y and d
  pub record SpliceSteps (old n1 n2 n3 n4 n5 n6 n7 n8 : Slab (Node T)) (to from first last tail k count : ℕ) : Type 0 where
    pub differ : to ≢ from
    pub first_is : first ≡ after_in (get old from)
    pub last_is : last ≡ before_in (get old from)
    pub tail_is : tail ≡ before_in (get old to)
    pub tail_after : SetsAfter old n1 tail first
    pub first_before : SetsBefore n1 n2 first tail
    pub last_after : SetsAfter n2 n3 last to
    pub to_before : SetsBefore n3 n4 to last
    pub from_after : SetsAfter n4 n5 from from
    pub from_before : SetsBefore n5 n6 from from
    pub counted : length_in (get n6 to) ≡ Some k
    pub other_counted : length_in (get old from) ≡ Some count
    pub length : SetsLength n6 n7 to (k + count)
    pub none : SetsLength n7 n8 from 0

  module _ (old n1 n2 n3 n4 n5 n6 n7 n8 : Slab (Node T)) (to from first last tail k count : ℕ) (steps : SpliceSteps old n1 n2 n3 n4 n5 n6 n7 n8 to from first last tail k count) where
    splice_lengths : (q : ℕ) → length_in (get n6 q) ≡ length_in (get old q)
    splice_lengths q = steps.from_before.lengths q ∙ steps.from_after.lengths q ∙ steps.to_before.lengths q ∙ steps.last_after.lengths q ∙ steps.first_before.lengths q ∙ steps.tail_after.lengths q

    after_late : (q : ℕ) → after_in (get n8 q) ≡ after_in (get n5 q)
    after_late q = steps.none.after q ∙ steps.length.after q ∙ steps.from_before.after q

    before_late : (q : ℕ) → before_in (get n8 q) ≡ before_in (get n6 q)
    before_late q = steps.none.before q ∙ steps.length.before q

    splice_near : Nearly (get old) (get n8) tail last from first to from
    splice_near =
        record {
          after = λ q qt qb qk. after_late q ∙ steps.from_after.others q qk ∙ steps.to_before.after q ∙ steps.last_after.others q qb ∙ steps.first_before.after q ∙ steps.tail_after.others q qt;
          before = λ q qu qv qw. before_late q ∙ steps.from_before.others q qw ∙ steps.from_after.before q ∙ steps.to_before.others q qv ∙ steps.last_after.before q ∙ steps.first_before.others q qu ∙ steps.tail_after.before q;
          items = λ q. steps.none.items q ∙ steps.length.items q ∙ steps.from_before.items q ∙ steps.from_after.items q ∙ steps.to_before.items q ∙ steps.last_after.items q ∙ steps.first_before.items q ∙ steps.tail_after.items q;
        }

    length_to : length_in (get n8 to) ≡ Some (k + count)
    length_to = steps.none.others to steps.differ ∙ steps.length.changed

    lengths_else : (m : ℕ) → m ≢ to → m ≢ from → length_in (get n8 m) ≡ length_in (get old m)
    lengths_else m mt mf = steps.none.others m mf ∙ steps.length.others m mt ∙ splice_lengths m

    module _ (c : List (ℕ × T)) (y : ℕ × T) (d : List (ℕ × T)) (ring : IsRing (get old) to c) (other : IsRing (get old) from (y ∷ d)) where
      to_free : item_in (get old to) ≡ None
      to_free = ring_free (get old) to c ring

      from_free : item_in (get old from) ≡ None
      from_free = ring_free (get old) from (y ∷ d) other

      first_key_is : y.0 ≡ first
      first_key_is = sym other.linked.0 ∙ sym steps.first_is

      last_key_is : last_key y.0 d ≡ last
      last_key_is = sym (run_before (get old) from (y ∷ d) from other.linked) ∙ sym steps.last_is

      tail_key_is : last_key to c ≡ tail
      tail_key_is = sym (run_before (get old) to c to ring.linked) ∙ sym steps.tail_is

      first_run : IsRun (get old) first d from
      first_run = subst (λ q. IsRun (get old) q d from) first_key_is other.linked.3

      last_run : IsRun (get old) last [] from
      last_run = subst (λ q. IsRun (get old) q [] from) last_key_is (run_end (get old) y.0 d from other.linked.3)

      tail_run : IsRun (get old) tail [] to
      tail_run = subst (λ q. IsRun (get old) q [] to) tail_key_is (run_end (get old) to c to ring.linked)

      backwards : from ≢ to
      backwards same = steps.differ (sym same)

      from_to_last : (to ≢ last) × Apart last c
      from_to_last = away (get old) to c last [] from ring.linked last_run to_free from_free steps.differ

      from_to_from : (to ≢ from) × Apart from c
      from_to_from = away (get old) to c from (y ∷ d) from ring.linked other.linked to_free from_free steps.differ

      from_to_first : (to ≢ first) × Apart first c
      from_to_first = away (get old) to c first d from ring.linked first_run to_free from_free steps.differ

      from_from_tail : (from ≢ tail) × Apart tail (y ∷ d)
      from_from_tail = away (get old) from (y ∷ d) tail [] to other.linked tail_run from_free to_free backwards

      tail_not_last : tail ≢ last
      tail_not_last same = steps.differ (same_run (get old) last [] [] to from (subst (λ q. IsRun (get old) q [] to) same tail_run) last_run to_free from_free).0

      first_not_from : first ≢ from
      first_not_from same = let no : None ≡ Some y.1 = sym from_free ∙ ap (λ q. item_in (get old q)) (sym same ∙ sym first_key_is) ∙ other.linked.2 in absurd (cc)

      last_not_from : last ≢ from
      last_not_from same = apart_end from y.0 d (apart_free (get old) y.0 d from from other.linked.3 from_free) (λ e. first_not_from (sym first_key_is ∙ e)) (last_key_is ∙ same)

      after_tail : after_in (get n8 tail) ≡ first
      after_tail =
          after_late tail ∙ steps.from_after.others tail (λ same. from_from_tail.0 (sym same)) ∙ steps.to_before.after tail ∙ steps.last_after.others tail tail_not_last
          ∙ steps.first_before.after tail ∙ steps.tail_after.changed

      before_first : before_in (get n8 first) ≡ tail
      before_first =
          before_late first ∙ steps.from_before.others first first_not_from ∙ steps.from_after.before first
          ∙ steps.to_before.others first (λ same. from_to_first.0 (sym same)) ∙ steps.last_after.before first ∙ steps.first_before.changed

      after_last : after_in (get n8 last) ≡ to
      after_last = after_late last ∙ steps.from_after.others last last_not_from ∙ steps.to_before.after last ∙ steps.last_after.changed

      before_to : before_in (get n8 to) ≡ last
      before_to = before_late to ∙ steps.from_before.others to steps.differ ∙ steps.from_after.before to ∙ steps.to_before.changed

      front : IsRun (get n8) to c y.0
      front =
          subst (λ q. IsRun (get n8) to c q) (sym first_key_is)
          (retarget (get old) (get n8) tail last from first to from splice_near to c to first ring.linked to_free tail_key_is after_tail before_first from_to_last.0 steps.differ
          (record { not_b = from_to_last.1; not_k = from_to_from.1; not_u = from_to_first.1; not_v = apart_free (get old) to c to to ring.linked to_free; not_w = from_to_from.1 }))

      back : IsRun (get n8) y.0 d to
      back =
          retarget (get old) (get n8) last tail from first to from nearly y.0 d from to other.linked.3 from_free last_key_is after_last before_to from_from_tail.1.0 (λ same. first_not_from (sym first_key_is ∙ same))
          (record {
            not_b = from_from_tail.1.1;
            not_k = apart_free (get old) y.0 d from from other.linked.3 from_free;
            not_u = subst (λ q. Apart q d) first_key_is (apart_longer (get old) y.0 d from y.0 d other.linked.3 other.linked.3 from_free (omega arith));
            not_v = apart_free (get old) y.0 d from to other.linked.3 to_free;
            not_w = apart_free (get old) y.0 d from from other.linked.3 from_free;
          })
        where
          nearly : Nearly (get old) (get n8) last tail from first to from
          nearly = record { after = λ q ql qt qf. splice_near.after q qt ql qf; before = splice_near.before; items = splice_near.items }

      pub spliced_ring : IsRing (get n8) to (c ++ y ∷ d)
      spliced_ring =
          let both : Some k ≡ Some (length c) = sym steps.counted ∙ splice_lengths to ∙ ring.counted in
          let own : k ≡ length c = cc in
          let two : Some count ≡ Some (length (y ∷ d)) = sym steps.other_counted ∙ other.counted in
          let others : count ≡ length (y ∷ d) = cc in
          let sum : k + count ≡ length (c ++ y ∷ d) = omega (arith, own, others, length-append c (y ∷ d)) in
          record {
            counted = length_to ∙ ap Some sum;
            linked = run_join (get n8) to c y d to front (splice_near.items y.0 ∙ other.linked.2) back;
          }

      pub emptied_ring : IsRing (get n8) from []
      emptied_ring =
          record {
            counted = steps.none.changed;
            linked = (after_late from ∙ steps.from_after.changed, before_late from ∙ steps.from_before.changed);
          }

      pub spliced_other : (m : ℕ) (b : List (ℕ × T)) → m ≢ to → m ≢ from → IsRing (get old) m b → IsRing (get n8) m b
      spliced_other m b mt mf third =
          let free : item_in (get old m) ≡ None = ring_free (get old) m b third in
          let of_tail = away (get old) m b tail [] to third.linked tail_run free to_free mt in
          let of_last = away (get old) m b last [] from third.linked last_run free from_free mf in
          let of_first = away (get old) m b first d from third.linked first_run free from_free mf in
          record {
            counted = lengths_else m mt mf ∙ third.counted;
            linked = untouched (get old) (get n8) tail last from first to from splice_near m b m third.linked of_tail.0 of_last.0 mf of_tail.1
                (record {
                  not_b = of_last.1;
                  not_k = apart_free (get old) m b m from third.linked from_free;
                  not_u = of_first.1;
                  not_v = apart_free (get old) m b m to third.linked to_free;
                  not_w = apart_free (get old) m b m from third.linked from_free;
                })
                of_first.0 mt mf;
          }

      spliced_rings : AreRings (get old) → AreRings (get n8)
      spliced_rings rings m j h =
          elim (cases_eq m to) [
            | inl same ↦ (c ++ y ∷ d, subst (λ q. IsRing (get n8) q (c ++ y ∷ d)) (sym same) spliced_ring)
            | inr mt ↦ elim (cases_eq m from) [
              | inl same ↦ ([], subst (λ q. IsRing (get n8) q []) (sym same) emptied_ring)
              | inr mf ↦ (let was = rings m j (sym (lengths_else m mt mf) ∙ h) in (was.0, spliced_other m was.0 mt mf was.1))
            ]
          ]

      spliced_whole : IsSound old → sum_by weight n8.slots ≡ slab_len n8
      spliced_whole sound =
          let linked : sum_by weight n6.slots ≡ sum_by weight old.slots = sum_same weight None refl old.slots n6.slots (λ q. ap with_own (splice_lengths q)) in
          let moved : sum_by weight n7.slots + weight (get n6 to) ≡ sum_by weight n6.slots + weight (get n7 to) = sum_one weight None refl n6.slots n7.slots to (λ q differ. ap with_own (steps.length.others q differ)) in
          let was : weight (get n6 to) ≡ suc k = ap with_own steps.counted in
          let is : weight (get n7 to) ≡ suc (k + count) = ap with_own steps.length.changed in
          let gone : sum_by weight n8.slots + weight (get n7 from) ≡ sum_by weight n7.slots + weight (get n8 from) = sum_one weight None refl n7.slots n8.slots from (λ q differ. ap with_own (steps.none.others q differ)) in
          let had : weight (get n7 from) ≡ suc count = ap with_own (steps.length.others from backwards ∙ splice_lengths from ∙ steps.other_counted) in
          let has : weight (get n8 from) ≡ suc 0 = ap with_own steps.none.changed in
          omega (arith, linked, moved, was, is, gone, had, has, sound.whole, steps.none.count, steps.length.count, steps.from_before.count, steps.from_after.count, steps.to_before.count, steps.last_after.count, steps.first_before.count, steps.tail_after.count)

      pub spliced_sound : IsSound old → IsSound n8
      spliced_sound sound = record { rings = spliced_rings sound.rings; whole = spliced_whole sound }

    pub spliced : IsSound old → count ≢ 0 → Splices old n8 to from
    spliced sound some =
        by_lists (sound.rings to k (sym (splice_lengths to) ∙ steps.counted)).0 (sound.rings to k (sym (splice_lengths to) ∙ steps.counted)).1 (sound.rings from count steps.other_counted).0 (sound.rings from count steps.other_counted).1
      where
        ring_of_all : (c d : List (ℕ × T)) → IsRing (get old) to c → IsRing (get old) from d → IsRing (get n8) to (c ++ d) × IsRing (get n8) from []
        ring_of_all c [] ring other = absurd (let both : Some count ≡ Some 0 = sym steps.other_counted ∙ other.counted in let no : count ≡ 0 = cc in some no)
        ring_of_all c (y ∷ d) ring other = (spliced_ring c y d ring other, emptied_ring c y d ring other)

        by_lists : (c : List (ℕ × T)) → IsRing (get old) to c → (d : List (ℕ × T)) → IsRing (get old) from d → Splices old n8 to from
        by_lists c ring [] other = absurd (let both : Some count ≡ Some 0 = sym steps.other_counted ∙ other.counted in let no : count ≡ 0 = cc in some no)
        by_lists c ring (y ∷ d) other =
            record {
              sound = spliced_sound c y d ring other sound;
              ring = ring_of_all;
              others = λ m mt mf. keeps (get old) (get n8) sound.rings m (lengths_else m mt mf) (λ b r. spliced_other c y d ring other m b mt mf r);
              places = steps.none.places ∙ steps.length.places ∙ steps.from_before.places ∙ steps.from_after.places ∙ steps.to_before.places ∙ steps.last_after.places ∙ steps.first_before.places ∙ steps.tail_after.places;
            }

  no_items : (d : List (ℕ × T)) → length d ≡ 0 → d ≡ []
  no_items [] h = refl
  no_items (y ∷ d) h = absurd (omega (arith, h))

  pub spliced_nothing : (nodes : Slab (Node T)) (to from : ℕ) → IsSound nodes → length_in (get nodes from) ≡ Some 0 → Splices nodes nodes to from
  spliced_nothing nodes to from sound none =
      record {
        sound = sound;
        ring = λ c d ring other.
            (let both : Some (length d) ≡ Some 0 = sym other.counted ∙ none in
            let zero_length : length d ≡ 0 = cc in
            let empty : d ≡ [] = no_items d zero_length in
            (subst (λ l. IsRing (get nodes) to l) (sym (ap (λ l. c ++ l) empty ∙ append-nil c)) ring, subst (λ l. IsRing (get nodes) from l) empty other));
        others = λ m mt mf. refl;
        places = refl;
      }

  pub rooms : (old new : Slab (Node T)) (l m k j : ℕ) → IsSound old → ((q : ℕ) → length_in (get new q) ≡ length_in (get old q)) → slab_len new ≡ slab_len old → l ≢ m → length_in (get new l) ≡ Some k → length_in (get old m) ≡ Some j → suc k + suc j ≤ slab_len new
  rooms old new l m k j sound same count differ own other =
      let linked : sum_by weight new.slots ≡ sum_by weight old.slots = sum_same weight None refl old.slots new.slots (λ q. ap with_own (same q)) in
      let holds : weight (get new l) + weight (get new m) ≤ sum_by weight new.slots = sum_holds_two weight None refl new.slots l m differ in
      let one : weight (get new l) ≡ suc k = ap with_own own in
      let two : weight (get new m) ≡ suc j = ap with_own (same m ∙ other) in
      omega (arith, linked, holds, one, two, count, sound.whole)

  pub ring_ends_there : (nodes : Slab (Node T)) (l k : ℕ) → IsSound nodes → length_in (get nodes l) ≡ Some k → ContainsKey nodes (before_in (get nodes l)) × ContainsKey nodes (after_in (get nodes l))
  ring_ends_there nodes l k sound own =
      let ring = sound.rings l k own in
      let there : IsSome (get nodes l) = list_there (get nodes l) k own in (
        subst (λ q. ContainsKey nodes q) (sym (run_before (get nodes) l ring.0 l ring.1.linked))
            (last_there (get nodes) l ring.0 [] l (subst (λ c. IsRun (get nodes) l c l) (sym (append-nil ring.0)) ring.1.linked) there),
        next_there (get nodes) l ring.0 l ring.1.linked there,
      )
