-- What a container takes at a key where its value was taken out, and the steps that change a container inside another one.
use Rattle.std.proofs.Common.{◌≡◌, ℕ, ◌+◌, ◌<◌, ◌≤◌, List, [], ◌∷◌, length, Option, Some, None, Ok, Err, refl, sym, ap, ◌∙◌, subst, append-nil, arith}
use Rattle.std.specs.Prelude.{Bool, true, false, slice_get, slice_set, nat_lt, if◌then◌else◌}
use Rattle.std.specs.Option.{option_map_or}
use Rattle.std.specs.Ordering.{match_ordering}
use Rattle.std.specs.declared.cmp.Ordering.{Ordering}
use Rattle.std.specs.declared.cmp.Ordering.TheVariants.{Less, Equal, Greater}
use Rattle.std.proofs.lemmas.Cmp.{alike_right}
use Rattle.sp_base.specs.declared.kinds.PKind.TheVariants.{Index}
use Rattle.sp_events.specs.declared.event.What.{What}
use Rattle.sp_words.specs.Methods.{arity}
use Rattle.sp_words.specs.declared.methods.Method.{Method}
use Rattle.sp_words.specs.declared.methods.Method.TheVariants.{PushBack}
use Rattle.sp_value.specs.Val.{Val, Vals, void, uint, vector, map, vals_of, list_of, entries_of, pairs_of}
use Rattle.sp_value.specs.Order.{val_cmp}
use Rattle.sp_value.specs.Ascending.{entry_key, found, with_key}
use Rattle.sp_value.specs.Changes.{with_item, with_value, with_value_in}
use Rattle.sp_value.proofs.Total.{val_cmp_total}
use Rattle.sp_value.proofs.Lists.{list_of_vals_of, pairs_of_entries_of}
use Rattle.sp_window.specs.Windows.{Held}
use Rattle.sp_meaning_states.specs.States.{Reading, State, error_at, Failed}
use Rattle.sp_meaning_states.specs.Reads.{Ask, Read}
use Rattle.sp_meaning_states.specs.Values.{with_at}
use Rattle.sp_code.specs.declared.instr.Instr.TheVariants.{SetIndex, AddKey, DeleteKey, Lib}
use Rattle.sp_code.specs.Can.{top, second, third, below_top, IsPlace}
use Rattle.sp_code.specs.Machine.{Frame, Plain, Config, At, Ending, Next, Goes, Waits, Over, step, act, put}
use Rattle.sp_code.specs.Turns.{Turns}
use Rattle.sp_machine.specs.declared.machine.Machine.{Machine}
use Rattle.sp_machine.specs.declared.machine.Stop.TheVariants as stop_is
use Rattle.sp_machine.specs.declared.in_place.Slot.{Slot}
use Rattle.sp_machine.specs.declared.rows.Spot.{Spot}
use Rattle.sp_machine.specs.declared.rows.Spot.TheVariants.{Within, Past, Keyed}
use Rattle.sp_machine.specs.Plain.{state_of, reads_of, Does}
use Rattle.sp_machine.specs.Rows.{IsSpot}
use Rattle.sp_machine.specs.Safe.{IsSafe}
use Rattle.sp_machine.specs.Ran.{Advanced}
use Rattle.sp_machine.specs.InPlace.{IsStored, IsSlot, IsPut, behind, with_slot}
use Rattle.sp_machine.specs.Inside.{is_push, IsPutInside, HasPlace, IsOpened, IsShut, CanPut}
use Rattle.sp_machine.proofs.InPlace.{set_twice, length_set, given_up}
use Rattle.sp_machine.proofs.Safety.{safe_can}
use Rattle.sp_machine.proofs.Spots.{past_error, with_item_at}
use Rattle.sp_machine.proofs.Running.{safe_on, advanced, advanced_put, further_on}

module _ {X : Type 0} (key : X → Val) where
  first_twice : (x y z : X) (zs : List X) (o : Ordering) → val_cmp (key z) (key y) ≡ o → val_cmp (key y) (key x) ≡ Equal → with_key key x (with_key key y zs) ≡ with_key key x zs
      → with_key key x (match_ordering o (z ∷ with_key key y zs) (y ∷ zs) (y ∷ z ∷ zs)) ≡ match_ordering o (z ∷ with_key key x zs) (x ∷ zs) (x ∷ z ∷ zs)
  first_twice x y z zs Less e same rest =
      let less : val_cmp (key z) (key x) ≡ Less = sym (alike_right val_cmp_total (key y) (key x) (key z) same) ∙ e in
      ap (λ o. match_ordering o (z ∷ with_key key x (with_key key y zs)) (x ∷ with_key key y zs) (x ∷ z ∷ with_key key y zs)) less ∙ ap (λ l. z ∷ l) rest
  first_twice x y z zs Equal e same rest = ap (λ o. match_ordering o (y ∷ with_key key x zs) (x ∷ zs) (x ∷ y ∷ zs)) same
  first_twice x y z zs Greater e same rest = ap (λ o. match_ordering o (y ∷ with_key key x (z ∷ zs)) (x ∷ z ∷ zs) (x ∷ y ∷ z ∷ zs)) same

  -- what is put at a key doesn't hang on what was put there before
  pub put_twice : (x y : X) (xs : List X) → val_cmp (key y) (key x) ≡ Equal → with_key key x (with_key key y xs) ≡ with_key key x xs
  put_twice x y [] same = ap (λ o. match_ordering o (y ∷ with_key key x []) (x ∷ []) (x ∷ y ∷ [])) same
  put_twice x y (z ∷ zs) same =
      first_twice x y z zs (val_cmp (key z) (key y)) refl same (put_twice x y zs same)
      ∙ ap (λ o. match_ordering o (z ∷ with_key key x zs) (x ∷ zs) (x ∷ z ∷ zs)) (alike_right val_cmp_total (key y) (key x) (key z) same)

  found_by : (k : Val) (y x : X) (ys : List X) (o : Ordering) → val_cmp (key y) k ≡ o → match_ordering o (found key k ys) (Some y) (found key k ys) ≡ Some x → (found key k ys ≡ Some x → val_cmp (key x) k ≡ Equal) → val_cmp (key x) k ≡ Equal
  found_by k y x ys Less e h rest = rest h
  found_by k y x ys Equal e h rest = let same : y ≡ x = cc in subst (λ z. val_cmp (key z) k ≡ Equal) same e
  found_by k y x ys Greater e h rest = rest h

  -- what is found has the key
  found_same : (k : Val) (xs : List X) (x : X) → found key k xs ≡ Some x → val_cmp (key x) k ≡ Equal
  found_same k [] x h = cc
  found_same k (y ∷ ys) x h = found_by k y x ys (val_cmp (key y) k) refl h (found_same k ys x)

entry_by : (es : List (Val × Val)) (k v x : Val) (o : Option (Val × Val)) → found entry_key k es ≡ o
    → with_key entry_key (k, x) (option_map_or (λ (e : Val × Val). with_key entry_key (e.0, v) es) o es) ≡ with_key entry_key (k, x) es
entry_by es k v x None h = refl
entry_by es k v x (Some e) h = put_twice entry_key (k, x) (e.0, v) es (found_same entry_key k es e h)

entry_twice : (es : List (Val × Val)) (k v x : Val) → with_key entry_key (k, x) (with_value_in es k v) ≡ with_key entry_key (k, x) es
entry_twice es k v x = entry_by es k v x (found entry_key k es) refl

-- a container takes the same at a key, whatever it has there
item_twice : (vs : Vals) (n : ℕ) (h x : Val) → (if nat_lt n (length (list_of (vals_of (slice_set (list_of vs) n h)))) then Ok (vector (vals_of (slice_set (list_of (vals_of (slice_set (list_of vs) n h))) n x))) else Err Index)
    ≡ (if nat_lt n (length (list_of vs)) then Ok (vector (vals_of (slice_set (list_of vs) n x))) else Err Index)
item_twice vs n h x =
    ap (λ (ys : List Val). if nat_lt n (length ys) then Ok (vector (vals_of (slice_set ys n x))) else Err Index) (list_of_vals_of (slice_set (list_of vs) n h))
    ∙ ap (λ (m : ℕ). if nat_lt n m then Ok (vector (vals_of (slice_set (slice_set (list_of vs) n h) n x))) else Err Index) (length_set (list_of vs) n h)
    ∙ ap (λ (ys : List Val). if nat_lt n (length (list_of vs)) then Ok (vector (vals_of ys)) else Err Index) (set_twice (list_of vs) n h x)

pub within_takes : (c k : Val) (i : ℕ) → IsSpot c k (Within i) → (h x : Val) → with_at (with_item c i h) k x ≡ with_at c k x
within_takes (vector vs) (uint w n) i s h x = ap (λ j. with_at (with_item (vector vs) j h) (uint w n) x) s.0 ∙ item_twice vs n h x
within_takes _ _ i s h x = absurd s

pub keyed_takes : (c k : Val) → IsSpot c k Keyed → (h x : Val) → with_at (with_value c k h) k x ≡ with_at c k x
keyed_takes (map es) k s h x =
    ap (λ (l : List (Val × Val)). Ok (map (entries_of (with_key entry_key (k, x) l)))) (pairs_of_entries_of (with_value_in (pairs_of es) k h))
    ∙ ap (λ (l : List (Val × Val)). Ok (map (entries_of l))) (entry_twice (pairs_of es) k h x)
keyed_takes (vector vs) (uint w n) s h x = absurd s
keyed_takes (vector vs) _ s h x = absurd s
keyed_takes _ _ s h x = absurd s

pub within_place : (c k h : Val) (i : ℕ) → IsSpot c k (Within i) → IsPlace (with_item c i h) k
within_place (vector vs) (uint w n) h i s = tt
within_place _ _ h i s = absurd s

pub keyed_place : (c k h : Val) → IsSpot c k Keyed → IsPlace (with_value c k h) k
keyed_place (map es) k h s = tt
keyed_place (vector vs) (uint w n) h s = absurd s
keyed_place (vector vs) _ h s = absurd s
keyed_place _ _ h s = absurd s

pub within_answers : (c k : Val) (i : ℕ) → IsSpot c k (Within i) → (x : Val) → (w : Val) × (with_at c k x ≡ Ok w)
within_answers c k i s x = (with_item c i x, with_item_at c k x i s)

pub keyed_answers : (c k : Val) → IsSpot c k Keyed → (x : Val) → (w : Val) × (with_at c k x ≡ Ok w)
keyed_answers (map es) k s x = (map (entries_of (with_key entry_key (k, x) (pairs_of es))), refl)
keyed_answers (vector vs) (uint w n) s x = absurd s
keyed_answers (vector vs) _ s x = absurd s
keyed_answers _ _ s x = absurd s

-- an item or a value was taken out, and the slot gave up its own value; or there is no such place
pub opened_within : (c k : Val) (i : ℕ) (slot : Slot) (before after : State) (emptied : Val) → IsSpot c k (Within i) → IsPlace emptied k → ((x : Val) → with_at emptied k x ≡ with_at c k x)
    → IsSlot slot before → IsSlot slot after → after ≡ with_slot slot void before → IsOpened c k slot before after emptied
opened_within c k i slot before after emptied s place same was there e =
    record { place = place; same = same; answers = within_answers c k i s; was = was; there = there; stores = λ v. ap (λ st. with_slot slot v st) e ∙ given_up slot v void before }

pub opened_keyed : (c k : Val) (slot : Slot) (before after : State) (emptied : Val) → IsSpot c k Keyed → IsPlace emptied k → ((x : Val) → with_at emptied k x ≡ with_at c k x)
    → IsSlot slot before → IsSlot slot after → after ≡ with_slot slot void before → IsOpened c k slot before after emptied
opened_keyed c k slot before after emptied s place same was there e =
    record { place = place; same = same; answers = keyed_answers c k s; was = was; there = there; stores = λ v. ap (λ st. with_slot slot v st) e ∙ given_up slot v void before }

pub shut : (c k : Val) → IsSpot c k Past → IsShut c k
shut c k s = λ x. past_error c k x s

-- what is put in an emptied container is put in the container that it was
put_open : (c k : Val) (slot : Slot) (before mid : State) (emptied v : Val) (at : ℕ) (vs : List Val) (fs : List Frame) (after : Config) → IsOpened c k slot before mid emptied
    → IsPut slot at (put (with_at emptied k v) at vs fs mid) after → IsPut slot at (put (with_at c k v) at vs fs before) after
put_open c k slot before mid emptied v at vs fs after is h =
    let t = is.answers v in
    let g : IsPut slot at (Goes [] (At at (t.0 ∷ vs) fs mid)) after = subst (λ r. IsPut slot at (put r at vs fs mid) after) (is.same v ∙ t.1) h in
    subst (λ r. IsPut slot at (put r at vs fs before) after) (sym t.1) (g.0, is.was, g.2 ∙ ap (λ st. At (behind slot at) vs fs st) (is.stores t.0))

-- and where there is no such place, the put is an error
put_shut : (c k : Val) (slot : Slot) (v : Val) (at : ℕ) (vs : List Val) (fs : List Frame) (st : State) → IsShut c k
    → IsPut slot at (put (with_at c k v) at vs fs st) (Ending (Failed (error_at Index st)) fs st)
put_shut c k slot v at vs fs st is = subst (λ r. IsPut slot at (put r at vs fs st) (Ending (Failed (error_at Index st)) fs st)) (sym (is v)) refl

-- so is a step whose value is put there
pub put_inside : (slot : Slot) (at : ℕ) (v k c : Val) (ws vs : List Val) (fs : List Frame) (before mid : State) (emptied : Val) (after : Config) → ws ≡ k ∷ c ∷ vs → IsOpened c k slot before mid emptied
    → IsPut slot (at + 1) (put (with_at emptied k v) (at + 1) vs fs mid) after → IsPutInside slot at (Goes [] (At at (v ∷ ws) fs before)) after
put_inside slot at v k c ws vs fs before mid emptied after e is h =
    subst (λ l. IsPutInside slot at (Goes [] (At at (v ∷ l) fs before)) after) (sym e) (refl, put_open c k slot before mid emptied v (at + 1) vs fs after is h)

-- and so is the put by a machine that opened the container after it took both operands
pub put_behind : (m n : Machine) (slot : Slot) (v w k c : Val) (ws vs : List Val) (emptied : Val) (after : Config) → n ≡ record m { operands = vs; locals = n.locals; instances = n.instances }
    → ws ≡ k ∷ c ∷ vs → w ≡ v → IsOpened c k slot (state_of m) (state_of n) emptied
    → IsPut slot (n.pc + 1 + 1) (put (with_at emptied k w) (n.pc + 1 + 1) n.operands n.stack (state_of n)) after
    → IsPutInside slot (m.pc + 1) (Goes [] (At (m.pc + 1) (v ∷ ws) m.stack (state_of m))) after
put_behind m n slot v w k c ws vs emptied after same e is opened h =
    put_inside slot (m.pc + 1) v k c ws vs m.stack (state_of m) (state_of n) emptied after e opened
    (subst (λ x. IsPut slot (m.pc + 1 + 1) (put (with_at emptied k x) (m.pc + 1 + 1) vs m.stack (state_of n)) after) is
    (subst (λ q. IsPut slot (q.pc + 1 + 1) (put (with_at emptied k w) (q.pc + 1 + 1) q.operands q.stack (state_of n)) after) same h))

-- so is a put in a container that has a place for the key
pub put_placed : (m n : Machine) (slot : Slot) (inner i x v k c : Val) (ops vs : List Val) (emptied : Val) (after : Config) → n ≡ record m { operands = vs; locals = n.locals; instances = n.instances }
    → ops ≡ x ∷ i ∷ inner ∷ k ∷ c ∷ vs → with_at inner i x ≡ Ok v → IsOpened c k slot (state_of m) (state_of n) emptied
    → IsPut slot (n.pc + 1 + 1) (put (with_at emptied k v) (n.pc + 1 + 1) n.operands n.stack (state_of n)) after
    → IsPutInside slot (m.pc + 1) (put (with_at (third ops) (second ops) (top ops)) (m.pc + 1) (below_top (below_top (below_top ops))) m.stack (state_of m)) after
put_placed m n slot inner i x v k c ops vs emptied after same e taken opened h =
    subst (λ l. IsPutInside slot (m.pc + 1) (put (with_at (third l) (second l) (top l)) (m.pc + 1) (below_top (below_top (below_top l))) m.stack (state_of m)) after) (sym e)
    (subst (λ r. IsPutInside slot (m.pc + 1) (put r (m.pc + 1) (k ∷ c ∷ vs) m.stack (state_of m)) after) (sym taken)
    (put_behind m n slot v v k c (k ∷ c ∷ vs) vs emptied after same refl refl opened h))

pub fails_inside : (slot : Slot) (at : ℕ) (v k c : Val) (ws vs : List Val) (fs : List Frame) (st : State) (after : Config) → ws ≡ k ∷ c ∷ vs → IsShut c k
    → after ≡ Ending (Failed (error_at Index st)) fs st → IsPutInside slot at (Goes [] (At at (v ∷ ws) fs st)) after
fails_inside slot at v k c ws vs fs st after e is same =
    subst (λ l. IsPutInside slot at (Goes [] (At at (v ∷ l) fs st)) after) (sym e)
    (refl, subst (λ d. IsPut slot (at + 1) (put (with_at c k v) (at + 1) vs fs st) d) (sym same) (put_shut c k slot v (at + 1) vs fs st is))

-- a container that has a place for a key takes a value there
taken_at : (c k x : Val) (spot : Spot) → IsSpot c k spot → (spot ≡ Past → ⊥) → (w : Val) × (with_at c k x ≡ Ok w)
taken_at c k x Past s past = absurd (past refl)
taken_at c k x (Within i) s past = within_answers c k i s x
taken_at c k x Keyed s past = keyed_answers c k s x

-- so what is put there in turn has a place below
pub has_place : (c k x : Val) (spot : Spot) (at : ℕ) (vs : List Val) (fs : List Frame) (st : State) → IsSpot c k spot → (spot ≡ Past → ⊥) → CanPut at (put (with_at c k x) at vs fs st) → HasPlace vs
has_place c k x spot at vs fs st s past can =
    let taken = taken_at c k x spot s past in
    subst (λ r. CanPut at (put r at vs fs st)) taken.1 can refl

module _ (p : Plain) (reads : Reading → Ask → Read) where
  -- what each of these instructions needs below its own operands
  pub push_place : (m : Method) (pc : ℕ) (vs : List Val) (fs : List Frame) (st : State) → is_push m ≡ true → arity m ≤ length vs → CanPut (pc + 1) (act p reads (Some (Lib m)) pc vs fs st)
      → HasPlace (below_top (below_top vs))
  push_place PushBack pc (x ∷ v ∷ vs) fs st h n can = can refl
  push_place PushBack pc (x ∷ []) fs st h n can = absurd (omega (arith, n))
  push_place PushBack pc [] fs st h n can = absurd (omega (arith, n))
  push_place _ pc vs fs st h n can = absurd (let q : false ≡ true = h in cc)

  pub add_place : (pc : ℕ) (vs : List Val) (fs : List Frame) (st : State) → 1 < length vs → CanPut (pc + 1) (act p reads (Some AddKey) pc vs fs st) → HasPlace (below_top (below_top vs))
  add_place pc (k ∷ c ∷ vs) fs st n can = can refl
  add_place pc (k ∷ []) fs st n can = absurd (omega (arith, n))
  add_place pc [] fs st n can = absurd (omega (arith, n))

  pub delete_place : (pc : ℕ) (vs : List Val) (fs : List Frame) (st : State) → 1 < length vs → CanPut (pc + 1) (act p reads (Some DeleteKey) pc vs fs st) → HasPlace (below_top (below_top vs))
  delete_place pc (k ∷ c ∷ vs) fs st n can = can refl
  delete_place pc (k ∷ []) fs st n can = absurd (omega (arith, n))
  delete_place pc [] fs st n can = absurd (omega (arith, n))

module _ (p : Plain) (w : Held) (is_ended : Bool) where
  -- a step whose value is put at a key leaves a container and a key for it
  pub can_put : (at : ℕ) (before : Config) (n : Next) → IsSafe p w before → step p (reads_of w is_ended) before ≡ n → slice_get p.code at ≡ Some SetIndex → CanPut at n
  can_put at before (Goes [] (At pc (v ∷ vs) fs st)) safe e found =
      λ same.
      let one = subst (λ q. step p (reads_of w is_ended) before ≡ Goes [] (At q (v ∷ vs) fs st)) same e in
      let can = safe_can p w at (v ∷ vs) fs st SetIndex (safe_on p w is_ended before (At at (v ∷ vs) fs st) [] safe one) found in
      let many = can.0 in
      (omega (arith, many), can.1)
  can_put at before (Goes [] (At pc [] fs st)) safe e found = tt
  can_put at before (Goes [] (Ending how fs st)) safe e found = tt
  can_put at before (Goes (x ∷ xs) d) safe e found = tt
  can_put at before (Waits m) safe e found = tt
  can_put at before (Over how st) safe e found = tt

  -- a step, the put of what it gives, and the steps that store the container
  pub advanced_inside : Turns p → (slot : Slot) (at : ℕ) (old : List What) (before after : Config) (n : Next) → IsSafe p w before → step p (reads_of w is_ended) before ≡ n
      → slice_get p.code at ≡ Some SetIndex → IsStored p.code (at + 1) slot → IsPutInside slot at n after → Advanced p (reads_of w is_ended) w old old before after stop_is.GoesOn
  advanced_inside turns slot at old before after (Goes [] (At pc (v ∷ k ∷ c ∷ vs) fs st)) safe e found stored is =
      let reads = reads_of w is_ended in
      let mid = At at (v ∷ k ∷ c ∷ vs) fs st in
      let one = subst (λ q. step p reads before ≡ Goes [] (At q (v ∷ k ∷ c ∷ vs) fs st)) is.0 e in
      let next_step : step p reads mid ≡ put (with_at c k v) (at + 1) vs fs st = ap (λ o. act p reads o at (v ∷ k ∷ c ∷ vs) fs st) found in
      further_on p w is_ended turns old before mid after safe one
      (advanced_put p w is_ended turns slot (at + 1) old mid after (put (with_at c k v) (at + 1) vs fs st) (safe_on p w is_ended before mid [] safe one) next_step stored is.1)
  advanced_inside turns slot at old before after (Goes [] (Ending how fs st)) safe e found stored is =
      subst (λ d. Advanced p (reads_of w is_ended) w old old before d stop_is.GoesOn) (sym is)
      (advanced p w is_ended turns stop_is.GoesOn old old before (Ending how fs st) safe (subst (Does stop_is.GoesOn old old before (Ending how fs st)) (sym e) (sym (append-nil old), refl)))
  advanced_inside turns slot at old before after _ safe e found stored is = absurd is
