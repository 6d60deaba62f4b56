-- Containers in both texts.
use Rattle.std.proofs.Common.{◌≡◌, ℕ, zero, suc, ◌+◌, ◌<◌, ◌≤◌, Bool, true, false, List, [], ◌∷◌, length, Option, Some, None, refl, sym, ap, ◌∙◌, subst, arith}
use Rattle.std.specs.Prelude.{slice_get, slice_set, nat_lt}
use Rattle.sp_base.specs.declared.places.Limits.{Limits}
use Rattle.sp_numbers.specs.declared.width.Width.TheVariants.{W64}
use Rattle.sp_value.specs.Val.{Val, bool, uint}
use Rattle.sp_typed.specs.Exprs.{Expr}
use Rattle.sp_typed_units.specs.declared.declarations.Typed.{Typed}
use Rattle.sp_meaning_states.specs.States.{Reading, State, Gives, Result, ends, got, chosen, truth_of, turn, local_of, set_local}
use Rattle.sp_meaning_states.specs.Reads.{Ask, Read}
use Rattle.sp_meaning_states.specs.Telling.{Names}
use Rattle.sp_meaning.specs.Calls.{hook_means}
use Rattle.sp_code_meaning.specs.Calls as laid_calls
use Rattle.sp_meaning_units.specs.Containers.{Ending, Counted, AtEnd, Until, While, UntilIncluding, Ahead, Loop, added, gives_vector, if_holds, elements}
use Rattle.sp_meaning_units.specs.Fields.{asked, each_body, goes_on_by, in_front_by, behind_by, element_offset}
use Rattle.sp_code_pieces.specs.Pieces.{Asked, Bodies, Piece, Noted, Many}
use Rattle.sp_code_pieces.specs.Pieces as pieces
use Rattle.sp_code_pieces.specs.Locals.{count_locals}
use Rattle.sp_code_pieces.specs.Steps.{asked_at, before_by, test_by, noted, list_piece}
use Rattle.sp_code_pieces.specs.Steps as steps
use Rattle.sp_code_pieces.specs.Means.{before_means, test_means, behind_means, piece_means, raised, is_less}
use Rattle.sp_code_pieces.specs.Means as means
use Rattle.sp_law_meaning.specs.Laws.{Agree}
use Rattle.sp_law_meaning.specs.Standing.{ExprStands, AreHanded, ListStands}
use Rattle.sp_law_meaning.proofs.Agree.{Rel, Same, Both, here, at_once, then_behind, got_agree}
use Rattle.sp_law_meaning.proofs.Calls.{hook_same}
use Rattle.sp_law_pieces.specs.States.{Close, Low, OffsetAt}
use Rattle.sp_law_pieces.proofs.Low.{loose, local_front, known_local, sets_next, fewer, set_there, set_below, set_size}
use Rattle.sp_law_pieces.proofs.Framed.{data_same, turn_same}
use Rattle.sp_law_pieces.proofs.Asked.{with_value_same}
use Rattle.sp_law_pieces.proofs.Onward.{onward_got, onward_done, onward_chosen, onward_holds, with_local, set_above, sets_known, close_trans, low_trans}

-- an expression by which a container ends
abbrev pub EndingStands : Typed → Ending → Type 0
EndingStands list (Counted e) = ExprStands false list.functions e
EndingStands list (Until e) = ExprStands true list.functions e
EndingStands list (While e) = ExprStands true list.functions e
EndingStands list (UntilIncluding e) = ExprStands true list.functions e
EndingStands list how = Unit {0}

-- the counter of a container and its limit
abbrev pub CountAt : Ending → (at : ℕ) → List Val → (k count : ℕ) → Type 0
CountAt (Counted e) at us k count = (slice_get us at ≡ Some (uint W64 k)) × (slice_get us (at + 1) ≡ Some (uint W64 count))
CountAt how at us k count = Unit {0}

-- a container that has a meaning
abbrev pub IsRead : Ending → Type 0
IsRead Ahead = ⊥
IsRead how = Unit {0}

-- where the bodies of `foreach` find the offset of an element, if there are any
abbrev pub BodiesAt : List ℕ → (at : ℕ) → List Val → (o : ℕ) → Val → Type 0
BodiesAt [] at us o offset = Unit {0}
BodiesAt (h ∷ hs) at us o offset = (o < at) × (slice_get us o ≡ Some offset)

module _ (names : Names) (hook_names : List (List ℕ)) (list : Typed) (limits : Limits) (reads : Reading → Ask → Read) (stands : ListStands list) (total n : ℕ)
    (enter also : ℕ → List Val → State → Result) where
  -- one after another, the bodies of `foreach`
  each_same : (at : ℕ) (us : List Val) (Q : Rel) → ((st ts : State) → Low at us st ts → Q st ts) → (hs : List ℕ) → AreHanded list 2 hs → (v offset : Val) (l o : ℕ) → l < at → slice_get us l ≡ Some v → o < at → slice_get us o ≡ Some offset
      → (go on stop off : State → Result) → Same (Low at us) Q go on → Same (Low at us) Q stop off
      → Same (Low at us) Q (each_body names hook_names list limits reads n enter hs v offset go stop) (means.each_body names hook_names list limits reads n also hs l o on off)
  each_same at us Q pass [] handed v offset l o a b c d go on stop off h k = h
  each_same at us Q pass (x ∷ hs) handed v offset l o a b c d go on stop off h k =
      onward_got (Low at us) Q pass
      (hook_means names hook_names list limits false n x (v ∷ offset ∷ []))
      (λ st. laid_calls.hook_means names hook_names list limits false n x (local_of st o ∷ local_of st l ∷ []) st) _ _
      (with_local at us (Low at us) o offset c d (hook_means names hook_names list limits false n x (v ∷ offset ∷ []))
      (λ p st. laid_calls.hook_means names hook_names list limits false n x (p ∷ local_of st l ∷ []) st)
      (with_local at us (Low at us) l v a b (hook_means names hook_names list limits false n x (v ∷ offset ∷ []))
      (λ w st. laid_calls.hook_means names hook_names list limits false n x (offset ∷ w ∷ []) st)
      (loose at us _ _ (λ ws e. hook_same names hook_names list limits stands false n x ws (v ∷ offset ∷ []) handed.0))))
      (λ t. onward_chosen (Low at us) Q pass (truth_of t) _ _ _ _ (each_same at us Q pass hs handed.1 v offset l o a b c d go on stop off h k) k)

  -- that of a container, which may have none
  bodies_same : (at : ℕ) (us : List Val) (Q : Rel) → ((st ts : State) → Low at us st ts → Q st ts) → (hs : List ℕ) → AreHanded list 2 hs → (v offset : Val) (l o : ℕ) → l < at → slice_get us l ≡ Some v → BodiesAt hs at us o offset
      → (go on stop off : State → Result) → Same (Low at us) Q go on → Same (Low at us) Q stop off
      → Same (Low at us) Q (each_body names hook_names list limits reads n enter hs v offset go stop) (means.each_body names hook_names list limits reads n also hs l o on off)
  bodies_same at us Q pass [] handed v offset l o a b c go on stop off h k = h
  bodies_same at us Q pass (x ∷ hs) handed v offset l o a b c go on stop off h k = each_same at us Q pass (x ∷ hs) handed v offset l o a b c.0 c.1 go on stop off h k

  -- A container whose own locals begin at a number, with its counter and limit in front of those of its elements.
  module _ (at : ℕ) (start : List Val) (offset : Option Val) (o : Option ℕ) (place : OffsetAt at start offset o) (own : ℕ) (below : at ≤ own) where
    abbrev Q : Rel
    Q = Low at start

    pass : (to : ℕ) (us : List Val) → at ≤ to → Close at start us → (st ts : State) → Low to us st ts → Q st ts
    pass to us h c st ts r = low_trans at to start us h c st ts r

    -- What follows an element, behind which the counter is one greater.
    abbrev Onward : Ending → ℕ → ℕ → (go on : State → Result) → Type 0
    Onward how k count go on = (vs : List Val) → Close at start vs → length vs ≡ total → CountAt how at vs k count → Same (Low own vs) Q go on

    counted_goes : (k count : ℕ) (us : List Val) → at + 2 ≡ own → own ≤ total → Close at start us → length us ≡ total → slice_get us at ≡ Some (uint W64 k) → slice_get us (at + 1) ≡ Some (uint W64 count) → (e : Expr)
        → (go on stop off : State → Result) → Onward (Counted e) (suc k) count go on → Same (Low own us) Q stop off
        → Same (Low own us) Q (if_holds (ends (Gives (bool (nat_lt k count)))) go stop) (if_holds (before_means names hook_names list limits reads n also (pieces.Before.Counted at (at + 1))) on off)
    counted_goes k count us q fits c s first limit e go on stop off h l st ts r = by_test (nat_lt k count) refl
      where
        counter : local_of ts at ≡ uint W64 k
        counter = ap (λ ts. local_of ts at) r.are ∙ local_front r.own at (uint W64 k) st (known_local own us r.own r.close at (uint W64 k) (omega (arith, q)) first)

        most : local_of ts (at + 1) ≡ uint W64 count
        most = ap (λ ts. local_of ts (at + 1)) r.are ∙ local_front r.own (at + 1) (uint W64 count) st (known_local own us r.own r.close (at + 1) (uint W64 count) (omega (arith, q)) limit)

        less : is_less (local_of ts at) (local_of ts (at + 1)) ≡ nat_lt k count
        less = subst (λ x. is_less (local_of ts at) x ≡ nat_lt k count) (sym most) (subst (λ x. is_less x (uint W64 count) ≡ nat_lt k count) (sym counter) refl)

        there : at < length us
        there = omega (arith, q, fits, s)

        onward : List Val
        onward = slice_set us at (uint W64 (k + 1))

        more : Agree Q (go st) (on (set_local at (raised (local_of ts at)) ts))
        more =
            subst (λ x. Agree Q (go st) (on (set_local at (raised x) ts))) (sym counter)
            (h onward (close_trans at at start us onward (omega arith) c (record { size = set_size us at (uint W64 (k + 1)); same = λ i b. set_below us at i (uint W64 (k + 1)) b })) (set_size us at (uint W64 (k + 1)) ∙ s)
            (set_there us at (uint W64 (k + 1)) there ∙ ap (λ m. Some (uint W64 m)) (omega arith), set_above us at (at + 1) (uint W64 (k + 1)) (omega arith) ∙ limit)
            st (set_local at (uint W64 (k + 1)) ts) (sets_known own us at (uint W64 (k + 1)) there st ts r))

        by_test : (t : Bool) → nat_lt k count ≡ t
            → Agree Q (if_holds (ends (Gives (bool (nat_lt k count)))) go stop st) (if_holds (before_means names hook_names list limits reads n also (pieces.Before.Counted at (at + 1))) on off ts)
        by_test true e =
            subst (λ b. Agree Q (if_holds (ends (Gives (bool b))) go stop st) (if_holds (before_means names hook_names list limits reads n also (pieces.Before.Counted at (at + 1))) on off ts)) (sym e)
            (subst (λ b. Agree Q (if_holds (ends (Gives (bool true))) go stop st) (got (λ v. chosen (truth_of v) on off) (chosen b (λ st. ends (Gives (bool true)) (set_local at (raised (local_of st at)) st)) (ends (Gives (bool false))) ts))) (sym (less ∙ e))
            (then_behind Q [] (go st) (on (set_local at (raised (local_of ts at)) ts)) more))
        by_test false e =
            subst (λ b. Agree Q (if_holds (ends (Gives (bool b))) go stop st) (if_holds (before_means names hook_names list limits reads n also (pieces.Before.Counted at (at + 1))) on off ts)) (sym e)
            (subst (λ b. Agree Q (if_holds (ends (Gives (bool false))) go stop st) (got (λ v. chosen (truth_of v) on off) (chosen b (λ st. ends (Gives (bool true)) (set_local at (raised (local_of st at)) st)) (ends (Gives (bool false))) ts))) (sym (less ∙ e))
            (then_behind Q [] (stop st) (off ts) (l st ts r)))

    -- what lets a container go on, with what follows then, and what follows where it ends
    goes_same : (how : Ending) → at + length (count_locals how) ≡ own → IsRead how → own ≤ total → (k count : ℕ) (us : List Val) → Close at start us → length us ≡ total → CountAt how at us k count
        → (go on stop off : State → Result) → Onward how (suc k) count go on → Same (Low own us) Q stop off
        → Same (Low own us) Q (if_holds (goes_on_by names hook_names list limits reads n enter how count k) go stop) (if_holds (before_means names hook_names list limits reads n also (before_by how at (at + 1))) on off)
    goes_same (Counted e) q d fits k count us c s known go on stop off h l = counted_goes k count us q fits c s known.0 known.1 e go on stop off h l
    goes_same AtEnd q d fits k count us c s known go on stop off h l = onward_holds (Low own us) Q (pass own us below c) _ _ go on stop off (loose own us _ _ (λ ws e. data_same ws reads)) (h us c s tt) l
    goes_same (Until e) q d fits k count us c s known go on stop off h l = onward_holds (Low own us) Q (pass own us below c) _ _ go on stop off (at_once (Low own us) (Gives (bool true))) (h us c s tt) l
    goes_same (While e) q d fits k count us c s known go on stop off h l = onward_holds (Low own us) Q (pass own us below c) _ _ go on stop off (at_once (Low own us) (Gives (bool true))) (h us c s tt) l
    goes_same (UntilIncluding e) q d fits k count us c s known go on stop off h l = onward_holds (Low own us) Q (pass own us below c) _ _ go on stop off (at_once (Low own us) (Gives (bool true))) (h us c s tt) l
    goes_same Ahead q d fits k count us c s known go on stop off h l = absurd d

    -- The element stands in a local behind those, and what it is asked of stands in front of it.
    module _ (l : ℕ) (behind_own : own ≤ l) (room : l < total) where
      offset_then : (us : List Val) → Close at start us → (to : ℕ) → at ≤ to → OffsetAt to us offset o
      offset_then us c to h = by_offset offset o place
        where
          by_offset : (offset : Option Val) (o : Option ℕ) → OffsetAt at start offset o → OffsetAt to us offset o
          by_offset None None p = tt
          by_offset (Some v) (Some x) p = (omega (arith, p.0, h), c.same x p.0 ∙ p.1)
          by_offset None (Some x) p = absurd p
          by_offset (Some v) None p = absurd p

      test_at : (v : Val) (us : List Val) → Close at start us → length us ≡ total → slice_get us l ≡ Some v → (e : Expr) → ExprStands true list.functions e
          → Both (Low (suc l) us) (asked names hook_names list limits reads n enter (Some v) offset e) (means.asked_means names hook_names list limits reads n also (asked_at list.hooks total l o e))
      test_at v us c s known e stands_well =
          with_value_same names hook_names list limits reads stands total n enter also (suc l) us s v offset l o (omega arith) known (offset_then us c (suc l) (omega (arith, below, behind_own))) e stands_well

      front_same : (how : Ending) → EndingStands list how → (v : Val) (us : List Val) → Close at start us → length us ≡ total → slice_get us l ≡ Some v → (go on stop off : State → Result)
          → Same (Low (suc l) us) Q go on → Same (Low (suc l) us) Q stop off
          → Same (Low (suc l) us) Q (in_front_by names hook_names list limits reads n enter how offset v go stop) (test_means names hook_names list limits reads n also (test_by list.hooks total how l o) on off)
      front_same (Until e) w v us c s known go on stop off h k = onward_holds (Low (suc l) us) Q (pass (suc l) us (omega (arith, below, behind_own)) c) _ _ stop off go on (test_at v us c s known e w) k h
      front_same (While e) w v us c s known go on stop off h k = onward_holds (Low (suc l) us) Q (pass (suc l) us (omega (arith, below, behind_own)) c) _ _ go on stop off (test_at v us c s known e w) h k
      front_same (Counted e) w v us c s known go on stop off h k = h
      front_same AtEnd w v us c s known go on stop off h k = h
      front_same (UntilIncluding e) w v us c s known go on stop off h k = h
      front_same Ahead w v us c s known go on stop off h k = h

      back_same : (how : Ending) → EndingStands list how → (v : Val) (us : List Val) → Close at start us → length us ≡ total → slice_get us l ≡ Some v → (go on stop off : State → Result)
          → Same (Low (suc l) us) Q go on → Same (Low (suc l) us) Q stop off
          → Same (Low (suc l) us) Q (behind_by names hook_names list limits reads n enter how offset v go stop) (behind_means names hook_names list limits reads n also (steps.behind_by list.hooks total how l o) on off)
      back_same (UntilIncluding e) w v us c s known go on stop off h k = onward_holds (Low (suc l) us) Q (pass (suc l) us (omega (arith, below, behind_own)) c) _ _ stop off go on (test_at v us c s known e w) k h
      back_same (Counted e) w v us c s known go on stop off h k = h
      back_same AtEnd w v us c s known go on stop off h k = h
      back_same (Until e) w v us c s known go on stop off h k = h
      back_same (While e) w v us c s known go on stop off h k = h
      back_same Ahead w v us c s known go on stop off h k = h

      module _ (how : Ending) (ends_well : EndingStands list how) (counts : at + length (count_locals how) ≡ own) (is_read : IsRead how) (keeps : Bool) (hs : List ℕ) (handed : AreHanded list 2 hs) (ol : ℕ)
          (f g : State → Result) where
        abbrev by_name : ℕ → Loop
        by_name count =
            record {
              goes_on = goes_on_by names hook_names list limits reads n enter how count;
              element = f;
              in_front = in_front_by names hook_names list limits reads n enter how offset;
              bodies = each_body names hook_names list limits reads n enter hs;
              behind = behind_by names hook_names list limits reads n enter how offset;
              keeps = keeps;
            }

        abbrev by_local : pieces.Loop
        by_local =
            record {
              before = before_by how at (at + 1);
              element = l;
              test = test_by list.hooks total how l o;
              bodies = record { value = l; offset = ol; numbers = hs };
              behind = steps.behind_by list.hooks total how l o;
              keeps = keeps;
            }

        -- Each element is read alike: from some state of the locals of its own on, with the offset where bodies find it.
        abbrev pub Reads : Type 0
        Reads =
            (us : List Val) → Close at start us → length us ≡ total → (st ts : State) → Low own us st ts →
            (vs : List Val) × (Close own us vs × (length vs ≡ total) × BodiesAt hs l vs ol (element_offset names hook_names list limits reads n enter offset st) × Agree (Low l vs) (f st) (g ts))

        counts_after : (k count : ℕ) (us vs : List Val) → Close own us vs → CountAt how at us k count → CountAt how at vs k count
        counts_after k count us vs c known = by_ending how counts known
          where
            by_ending : (x : Ending) → at + length (count_locals x) ≡ own → CountAt x at us k count → CountAt x at vs k count
            by_ending (Counted e) q w = (c.same at (omega (arith, q)) ∙ w.0, c.same (at + 1) (omega (arith, q)) ∙ w.1)
            by_ending AtEnd q w = tt
            by_ending (Until e) q w = tt
            by_ending (While e) q w = tt
            by_ending (UntilIncluding e) q w = tt
            by_ending Ahead q w = tt

        bodies_after : (us : List Val) (v w : Val) → BodiesAt hs l us ol w → BodiesAt hs (suc l) (slice_set us l v) ol w
        bodies_after us v w b = by_bodies hs b
          where
            by_bodies : (hs : List ℕ) → BodiesAt hs l us ol w → BodiesAt hs (suc l) (slice_set us l v) ol w
            by_bodies [] b = tt
            by_bodies (h ∷ rest) b = (omega (arith, b.0), set_below us l ol v b.0 ∙ b.1)

        abbrev pub Again : ℕ → ℕ → ℕ → Type 0
        Again count m k =
            (vs us : List Val) → Close at start us → length us ≡ total → CountAt how at us k count
            → Same (Low own us) Q (elements limits.turns (element_offset names hook_names list limits reads n enter offset) (by_name count) m k vs) (means.elements names hook_names list limits reads n also m by_local g vs)

        gives_same : (to : ℕ) (us : List Val) → at ≤ to → Close at start us → (vs : List Val) → Same (Low to us) Q (gives_vector vs) (gives_vector vs)
        gives_same to us h c vs st ts r = here (pass to us h c st ts r)

        -- what follows an element, once it stands in its local
        abbrev rest_by : (count m k : ℕ) → List Val → (v w : Val) → State → Result
        rest_by count m k vs v w =
            in_front_by names hook_names list limits reads n enter how offset v
            (each_body names hook_names list limits reads n enter hs v w
            (behind_by names hook_names list limits reads n enter how offset v (elements limits.turns (element_offset names hook_names list limits reads n enter offset) (by_name count) m (suc k) (added keeps vs v)) (gives_vector (added keeps vs v)))
            (gives_vector vs))
            (gives_vector vs)

        abbrev rest_local : (m : ℕ) → List Val → State → Result
        rest_local m vs =
            test_means names hook_names list limits reads n also (test_by list.hooks total how l o)
            (means.each_body names hook_names list limits reads n also hs l ol
            (λ st. behind_means names hook_names list limits reads n also (steps.behind_by list.hooks total how l o) (means.elements names hook_names list limits reads n also m by_local g (added keeps vs (local_of st l))) (gives_vector (added keeps vs (local_of st l))) st)
            (gives_vector vs))
            (gives_vector vs)

        rest_same : (count m k : ℕ) → Again count m (suc k) → (vs us : List Val) → Close at start us → length us ≡ total → CountAt how at us (suc k) count → (v w : Val) → slice_get us l ≡ Some v → BodiesAt hs (suc l) us ol w
            → Same (Low (suc l) us) Q (rest_by count m k vs v w) (rest_local m vs)
        rest_same count m k again vs us c s known v w here_it_is bodies =
            let to : at ≤ suc l = omega (arith, below, behind_own) in
            front_same how ends_well v us c s here_it_is _ _ _ _
            (bodies_same (suc l) us Q (pass (suc l) us to c) hs handed v w l ol (omega arith) here_it_is bodies _ _ _ _
            (with_local (suc l) us Q l v (omega arith) here_it_is
            (behind_by names hook_names list limits reads n enter how offset v (elements limits.turns (element_offset names hook_names list limits reads n enter offset) (by_name count) m (suc k) (added keeps vs v)) (gives_vector (added keeps vs v)))
            (λ x. behind_means names hook_names list limits reads n also (steps.behind_by list.hooks total how l o) (means.elements names hook_names list limits reads n also m by_local g (added keeps vs x)) (gives_vector (added keeps vs x)))
            (back_same how ends_well v us c s here_it_is _ _ _ _
            (λ st ts r. again (added keeps vs v) us c s known st ts (fewer own (suc l) us (omega (arith, behind_own)) st ts r))
            (gives_same (suc l) us to c (added keeps vs v))))
            (gives_same (suc l) us to c vs))
            (gives_same (suc l) us to c vs)

        -- an element is read and stands in its local
        element_same : Reads → (count m k : ℕ) → Again count m (suc k) → (vs us : List Val) → Close at start us → length us ≡ total → CountAt how at us (suc k) count
            → Same (Low own us) Q (λ at. got (λ v. rest_by count m k vs v (element_offset names hook_names list limits reads n enter offset at)) (f at)) (λ at. got (λ v st. rest_local m vs (set_local l v st)) (g at))
        element_same each count m k again vs us c s known st ts r =
            let x = each us c s st ts r in
            let ws : List Val = x.0 in
            let d : Close at start ws = close_trans at own start us ws below c x.1.0 in
            got_agree (Low l ws) Q (pass l ws (omega (arith, below, behind_own)) d) _ _ (f st) (g ts) x.1.3
            (λ v st ts r.
            rest_same count m k again vs (slice_set ws l v) (close_trans at l start ws (slice_set ws l v) (omega (arith, below, behind_own)) d (record { size = set_size ws l v; same = λ i h. set_below ws l i v h }))
            (set_size ws l v ∙ x.1.1) (counts_after (suc k) count us (slice_set ws l v) (close_trans own l us ws (slice_set ws l v) behind_own x.1.0 (record { size = set_size ws l v; same = λ i h. set_below ws l i v h })) known)
            v _ (set_there ws l v (omega (arith, room, x.1.1))) (bodies_after ws v _ x.1.2) st (set_local l v ts) (sets_next l ws v (omega (arith, room, x.1.1)) st ts r))

        pub elements_same : Reads → (count m k : ℕ) → Again count m k
        elements_same each count zero k vs us c s known st ts r = here tt
        elements_same each count (suc m) k vs us c s known st ts r =
            goes_same how counts is_read (omega (arith, behind_own, room)) k count us c s known _ _ _ _
            (λ us c s known.
            onward_done (Low own us) Q (pass own us below c) (turn limits.turns) (turn limits.turns) _ _ (loose own us (turn limits.turns) (turn limits.turns) (λ ws e. turn_same ws limits.turns))
            (element_same each count m k (elements_same each count m (suc k)) vs us c s known))
            (gives_same own us below c vs) st ts r
