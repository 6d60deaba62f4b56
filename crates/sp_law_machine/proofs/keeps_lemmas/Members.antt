-- Members, items, keys, rows and methods keep to their kinds.
use Rattle.std.proofs.Common.{◌≡◌, ℕ, zero, suc, ◌+◌, List, [], ◌∷◌, ◌++◌, length, reverse, Option, Some, None, Result as Answer, Ok, Err, refl, sym, ap, ◌∙◌, subst, arith}
use Rattle.std.specs.Prelude.{Bool, true, false, nat_lt, if◌then◌else◌, slice_get, slice_set, ok_or}
use Rattle.std.specs.Option.{option_map}
use Rattle.std.specs.List.{AllByRecursion}
use Rattle.std.specs.Ordering.{match_ordering}
use Rattle.std.specs.declared.cmp.Ordering.{Ordering}
use Rattle.std.specs.declared.cmp.Ordering.TheVariants.{Less, Equal, Greater}
use Rattle.std.proofs.lemmas.List.{reverse-append}
use Rattle.sp_base.specs.declared.kinds.PKind.{PKind}
use Rattle.sp_base.specs.declared.kinds.PKind.TheVariants.{Index, MissingKey}
use Rattle.sp_numbers.specs.declared.width.Width.{Width}
use Rattle.sp_numbers.specs.declared.width.Width.TheVariants.{W8, W64}
use Rattle.sp_words.specs.declared.methods.Method.{Method}
use Rattle.sp_words.specs.Methods.{arity}
use Rattle.sp_value.specs.Val.{Val, uint, bytes, bits, tuple, vector, set, map, vals_of, list_of, entries_of, pairs_of, no_vals, no_entries}
use Rattle.sp_value.specs.Order.{val_cmp}
use Rattle.sp_value.specs.Ascending.{own_key, entry_key, found, with_key, without}
use Rattle.sp_value.specs.Changes.{IsSet, IsKeyed, with_item, value_at, with_entry, with_member, without_key}
use Rattle.sp_value.proofs.Lists.{list_of_vals_of, pairs_of_entries_of}
use Rattle.sp_operators.specs.Operators.{value_or_error}
use Rattle.sp_methods.specs.Kinds.{Kind, Kinds, Unsigned, TupleOf, VectorOf, SetOf, MapOf, no_kinds, kind_and, kinds_of, Has, HasEach, Have}
use Rattle.sp_methods.specs.Methods.{IsMethod, to_uint_takes, to_int_takes, to_uint_order_takes, to_int_order_takes, sub_takes, starts_with_takes, split_takes, split1_takes, lower_takes, upper_takes, decode_takes, encode_takes, push_back_takes, pop_back_takes, front_takes, back_takes, get_takes, get_or_takes}
use Rattle.sp_meaning_states.specs.Values.{item_at, with_at, with_members, set_of, with_entries, map_of, byte_values, entry_values, members_of}
use Rattle.sp_code.specs.Kinds.{IsUnsigned, kind_in, IsPlaceIn, in_vector, in_map, IsItemOf, of_place, of_tuple, of_bits, IsGoneOver, over_vector, over_set, over_bytes, over_map, in_turn}
use Rattle.sp_code.specs.Shapes.{IsKeyOf}
use Rattle.sp_code.specs.Can.{IsItem, IsPlace, IsRow}
use Rattle.sp_law_machine.proofs.keeps_lemmas.Operators.{one_is, both_are, Kept, widened}

abbrev pub OnSome : {A : Type 0} → (A → Type 0) → Option A → Type 0
OnSome P None = Unit {0}
OnSome P (Some x) = P x

module _ {A : Type 0} (P : A → Type 0) where
  all_at : (xs : List A) (n : ℕ) → AllByRecursion P xs → OnSome P (slice_get xs n)
  all_at [] n h = tt
  all_at (x ∷ xs) zero h = h.0
  all_at (x ∷ xs) (suc n) h = all_at xs n h.1

  all_set : (xs : List A) (n : ℕ) (y : A) → AllByRecursion P xs → P y → AllByRecursion P (slice_set xs n y)
  all_set [] n y h g = tt
  all_set (x ∷ xs) zero y h g = (g, h.1)
  all_set (x ∷ xs) (suc n) y h g = (h.0, all_set xs n y h.1 g)

  all_both : (xs ys : List A) → AllByRecursion P xs → AllByRecursion P ys → AllByRecursion P (xs ++ ys)
  all_both [] ys h g = g
  all_both (x ∷ xs) ys h g = (h.0, all_both xs ys h.1 g)

  pub all_reversed : (xs : List A) → AllByRecursion P xs → AllByRecursion P (reverse xs)
  all_reversed [] h = tt
  all_reversed (x ∷ xs) h = subst (AllByRecursion P) (sym (reverse-append (x ∷ []) xs)) (all_both (reverse xs) (x ∷ []) (all_reversed xs h.1) (h.0, tt))

  by_order : (Q : Option A → Type 0) (o : Ordering) (x y z : Option A) → Q x → Q y → Q z → Q (match_ordering o x y z)
  by_order Q Less x y z h g f = h
  by_order Q Equal x y z h g f = g
  by_order Q Greater x y z h g f = f

  lists_by_order : (o : Ordering) (x y z : List A) → AllByRecursion P x → AllByRecursion P y → AllByRecursion P z → AllByRecursion P (match_ordering o x y z)
  lists_by_order Less x y z h g f = h
  lists_by_order Equal x y z h g f = g
  lists_by_order Greater x y z h g f = f

  all_found : (key : A → Val) (k : Val) (xs : List A) → AllByRecursion P xs → OnSome P (found key k xs)
  all_found key k [] h = tt
  all_found key k (x ∷ xs) h = by_order (OnSome P) (val_cmp (key x) k) _ _ _ (all_found key k xs h.1) h.0 (all_found key k xs h.1)

  all_with : (key : A → Val) (x : A) (ys : List A) → P x → AllByRecursion P ys → AllByRecursion P (with_key key x ys)
  all_with key x [] g h = (g, tt)
  all_with key x (y ∷ ys) g h = lists_by_order (val_cmp (key y) (key x)) _ _ _ (h.0, all_with key x ys g h.1) (g, h.1) (g, h)

  all_without : (key : A → Val) (k : Val) (xs : List A) → AllByRecursion P xs → AllByRecursion P (without key k xs)
  all_without key k [] h = tt
  all_without key k (x ∷ xs) h = lists_by_order (val_cmp (key x) k) _ _ _ (h.0, all_without key k xs h.1) (all_without key k xs h.1) (h.0, all_without key k xs h.1)

-- keys and values in turn, a key first
abbrev pub in_pairs : Kind → Kind → ℕ → List Kind
in_pairs j k zero = []
in_pairs j k (suc m) = j ∷ k ∷ in_pairs j k m

turns_in_pairs : (m : ℕ) (j k : Kind) → in_turn (m + m) k j ≡ in_pairs j k m
turns_in_pairs zero j k = let e : 0 + 0 ≡ 0 = omega arith in ap (λ n. in_turn n k j) e
turns_in_pairs (suc m) j k =
    let e : suc m + suc m ≡ suc (suc (m + m)) = omega arith in
    ap (λ n. in_turn n k j) e ∙ ap (λ ks. j ∷ k ∷ ks) (turns_in_pairs m j k)

pairs_behind : (m : ℕ) (j k : Kind) → in_pairs j k m ++ j ∷ k ∷ [] ≡ j ∷ k ∷ in_pairs j k m
pairs_behind zero j k = refl
pairs_behind (suc m) j k = ap (λ ks. j ∷ k ∷ ks) (pairs_behind m j k)

pairs_reversed : (m : ℕ) (j k : Kind) → reverse (in_pairs k j m) ≡ in_pairs j k m
pairs_reversed zero j k = refl
pairs_reversed (suc m) j k = reverse-append (k ∷ j ∷ []) (in_pairs k j m) ∙ ap (λ ks. ks ++ j ∷ k ∷ []) (pairs_reversed m j k) ∙ pairs_behind m j k

-- keys and values, a value on top, are in pairs from below
pub turns_reversed : (m : ℕ) (j k : Kind) → reverse (in_turn (m + m) j k) ≡ in_pairs j k m
turns_reversed m j k = ap reverse (turns_in_pairs m k j) ∙ pairs_reversed m j k

-- a method takes as many operands as it has kinds for
pub method_arity : (m : Method) (ins outs : List Kind) → IsMethod m ins outs → length ins ≡ arity m
method_arity _ _ _ to_uint_takes = refl
method_arity _ _ _ to_int_takes = refl
method_arity _ _ _ (to_uint_order_takes k) = refl
method_arity _ _ _ (to_int_order_takes k) = refl
method_arity _ _ _ sub_takes = refl
method_arity _ _ _ starts_with_takes = refl
method_arity _ _ _ split_takes = refl
method_arity _ _ _ split1_takes = refl
method_arity _ _ _ lower_takes = refl
method_arity _ _ _ upper_takes = refl
method_arity _ _ _ (decode_takes j k) = refl
method_arity _ _ _ encode_takes = refl
method_arity _ _ _ (push_back_takes k) = refl
method_arity _ _ _ (pop_back_takes k) = refl
method_arity _ _ _ (front_takes k) = refl
method_arity _ _ _ (back_takes k) = refl
method_arity _ _ _ (get_takes j k) = refl
method_arity _ _ _ (get_or_takes j k) = refl

module _ (units : List ℕ) where
  given : (k : Kind) (e : PKind) (o : Option Val) → OnSome (Has units k) o → Kept units k (ok_or o e)
  given k e (Some v) h = h
  given k e None h = tt

  abbrev IsEntry : Kind → Kind → Val × Val → Type 0
  IsEntry j k e = Has units j e.0 × Has units k e.1

  second_of : (j k : Kind) (o : Option (Val × Val)) → OnSome (IsEntry j k) o → OnSome (Has units k) (option_map (λ e. e.1) o)
  second_of j k (Some e) h = h.1
  second_of j k None h = tt

  items_have : (k : Kind) (vs : List Val) → AllByRecursion (Has units k) vs → AllByRecursion (Has units k) (list_of (vals_of vs))
  items_have k vs h = subst (AllByRecursion (Has units k)) (sym (list_of_vals_of vs)) h

  entries_have : (j k : Kind) (es : List (Val × Val)) → AllByRecursion (IsEntry j k) es → AllByRecursion (IsEntry j k) (pairs_of (entries_of es))
  entries_have j k es h = subst (AllByRecursion (IsEntry j k)) (sym (pairs_of_entries_of es)) h

  map_value : (j k : Kind) (es : List (Val × Val)) (i : Val) → AllByRecursion (IsEntry j k) es → OnSome (Has units k) (value_at (map (entries_of es)) i)
  map_value j k es i h = second_of j k _ (all_found (IsEntry j k) entry_key i (pairs_of (entries_of es)) (entries_have j k es h))

  number_there : (j : Kind) (v : Val) → IsUnsigned j → Has units j v → (w : Width) × (n : ℕ) × (v ≡ uint w n)
  number_there j v e h = subst (λ k. Has units k v) e (widened units j v h)

  pub place_can : (c j k : Kind) (v i : Val) → IsPlaceIn c j k → Has units c v → Has units j i → IsPlace v i
  place_can _ _ _ v i (in_vector j k e) h g = let n = number_there j i e g in both_are IsPlace v i (vector (vals_of h.0)) (uint n.0 n.1) h.1 n.2 tt
  place_can _ _ _ v i (in_map j k) h g = one_is (λ x. IsPlace x i) v (map (entries_of h.0)) h.1 tt

  place_kept : (c j k : Kind) (v i : Val) → IsPlaceIn c j k → Has units c v → Has units j i → Kept units k (item_at v i)
  place_kept _ _ _ v i (in_vector j k e) h g =
      let n = number_there j i e g in
      both_are (λ x y. Kept units k (item_at x y)) v i (vector (vals_of h.0)) (uint n.0 n.1) h.1 n.2
      (given k Index _ (all_at (Has units k) (list_of (vals_of h.0)) n.1 (items_have k h.0 h.2)))
  place_kept _ _ _ v i (in_map j k) h g =
      one_is (λ x. Kept units k (item_at x i)) v (map (entries_of h.0)) h.1 (given k MissingKey _ (map_value j k h.0 i h.2))

  item_is_place : (v i : Val) → IsPlace v i → IsItem v i
  item_is_place (vector vs) (uint w n) h = tt
  item_is_place (map es) k h = tt
  item_is_place v i h = absurd h

  pub item_can : (c j k : Kind) (v i : Val) → IsItemOf c j k → Has units c v → Has units j i → IsItem v i
  item_can _ _ _ v i (of_place c j k e) h g = item_is_place v i (place_can c j k v i e h g)
  item_can _ _ _ v i (of_tuple ks n k e) h g = both_are IsItem v i (tuple (vals_of h.0)) (uint g.0 n) h.1 g.1 tt
  item_can _ _ _ v i (of_bits b count n l) h g = both_are IsItem v i (bits b h.0) (uint g.0 n) h.1 g.1 tt

  each_at : (ks : Kinds) (vs : List Val) (n : ℕ) (k : Kind) → kind_in ks n ≡ Some k → HasEach units ks vs → OnSome (Has units k) (slice_get vs n)
  each_at no_kinds vs n k e h = cc
  each_at (kind_and j ks) [] n k e h = absurd h
  each_at (kind_and j ks) (v ∷ vs) zero k e h = let same : j ≡ k = cc in subst (λ i. Has units i v) same h.0
  each_at (kind_and j ks) (v ∷ vs) (suc n) k e h = each_at ks vs n k e h.1

  number_given : (r : Answer ℕ PKind) → Kept units Unsigned (value_or_error (uint W64) r)
  number_given (Ok n) = (W64, n, refl)
  number_given (Err e) = tt

  pub item_kept : (c j k : Kind) (v i : Val) → IsItemOf c j k → Has units c v → Has units j i → Kept units k (item_at v i)
  item_kept _ _ _ v i (of_place c j k e) h g = place_kept c j k v i e h g
  item_kept _ _ _ v i (of_tuple ks n k e) h g =
      both_are (λ x y. Kept units k (item_at x y)) v i (tuple (vals_of h.0)) (uint g.0 n) h.1 g.1
      (subst (λ l. Kept units k (ok_or (slice_get l n) Index)) (sym (list_of_vals_of h.0)) (given k Index _ (each_at ks h.0 n k e h.2)))
  item_kept _ _ _ v i (of_bits b count n l) h g =
      both_are (λ x y. Kept units Unsigned (item_at x y)) v i (bits b h.0) (uint g.0 n) h.1 g.1 (number_given (ok_or (slice_get h.0 n) Index))

  pub change_kept : (c j k : Kind) (v i x : Val) → IsPlaceIn c j k → Has units c v → Has units j i → Has units k x → Kept units c (with_at v i x)
  change_kept _ _ _ v i x (in_vector j k e) h g f =
      let n = number_there j i e g in
      both_are (λ y z. Kept units (VectorOf k) (with_at y z x)) v i (vector (vals_of h.0)) (uint n.0 n.1) h.1 n.2 (cases n.1 (nat_lt n.1 (length (list_of (vals_of h.0)))))
    where
      cases : (n : ℕ) (b : Bool) → Kept units (VectorOf k) (if b then Ok (with_item (vector (vals_of h.0)) n x) else Err Index)
      cases n true = (_, refl, all_set (Has units k) (list_of (vals_of h.0)) n x (items_have k h.0 h.2) f)
      cases n false = tt
  change_kept _ _ _ v i x (in_map j k) h g f =
      one_is (λ y. Kept units (MapOf j k) (with_at y i x)) v (map (entries_of h.0)) h.1
      (_, refl, all_with (IsEntry j k) entry_key (i, x) (pairs_of (entries_of h.0)) (g, f) (entries_have j k h.0 h.2))

  -- what a loop goes over
  bytes_have : (b : List ℕ) → AllByRecursion (Has units Unsigned) (byte_values b)
  bytes_have [] = tt
  bytes_have (n ∷ b) = ((W8, n, refl), bytes_have b)

  tuples_have : (j k : Kind) (es : List (Val × Val)) → AllByRecursion (IsEntry j k) es → AllByRecursion (Has units (TupleOf (kinds_of (j ∷ k ∷ [])))) (entry_values es)
  tuples_have j k [] h = tt
  tuples_have j k (e ∷ es) h = ((e.0 ∷ e.1 ∷ [], refl, (h.0.0, (h.0.1, tt))), tuples_have j k es h.1)

  pub row_can : (c k : Kind) (v : Val) → IsGoneOver c k → Has units c v → IsRow v
  row_can _ _ v (over_vector k) h = one_is IsRow v (vector (vals_of h.0)) h.1 tt
  row_can _ _ v (over_set k) h = one_is IsRow v (set (vals_of h.0)) h.1 tt
  row_can _ _ v over_bytes h = one_is IsRow v (bytes h.0) h.1 tt
  row_can _ _ v (over_map j k) h = one_is IsRow v (map (entries_of h.0)) h.1 tt

  pub row_kept : (c k : Kind) (v : Val) (i : ℕ) → IsGoneOver c k → Has units c v → OnSome (Has units k) (slice_get (members_of v) i)
  row_kept _ _ v i (over_vector k) h =
      one_is (λ x. OnSome (Has units k) (slice_get (members_of x) i)) v (vector (vals_of h.0)) h.1 (all_at (Has units k) (list_of (vals_of h.0)) i (items_have k h.0 h.2))
  row_kept _ _ v i (over_set k) h =
      one_is (λ x. OnSome (Has units k) (slice_get (members_of x) i)) v (set (vals_of h.0)) h.1 (all_at (Has units k) (list_of (vals_of h.0)) i (items_have k h.0 h.2))
  row_kept _ _ v i over_bytes h =
      one_is (λ x. OnSome (Has units Unsigned) (slice_get (members_of x) i)) v (bytes h.0) h.1 (all_at (Has units Unsigned) (byte_values h.0) i (bytes_have h.0))
  row_kept _ _ v i (over_map j k) h =
      one_is (λ x. OnSome (Has units (TupleOf (kinds_of (j ∷ k ∷ [])))) (slice_get (members_of x) i)) v (map (entries_of h.0)) h.1
      (all_at (Has units (TupleOf (kinds_of (j ∷ k ∷ [])))) (entry_values (pairs_of (entries_of h.0))) i (tuples_have j k (pairs_of (entries_of h.0)) (entries_have j k h.0 h.2)))

  -- sets and maps
  pub set_can : (k : Kind) (v : Val) → Has units (SetOf k) v → IsSet v
  set_can k v h = one_is IsSet v (set (vals_of h.0)) h.1 tt

  pub key_added : (k : Kind) (v x : Val) → Has units (SetOf k) v → Has units k x → Has units (SetOf k) (with_member v x)
  key_added k v x h g =
      one_is (λ y. Has units (SetOf k) (with_member y x)) v (set (vals_of h.0)) h.1
      (_, refl, all_with (Has units k) own_key x (list_of (vals_of h.0)) g (items_have k h.0 h.2))

  pub keyed_can : (c j : Kind) (v : Val) → IsKeyOf c j → Has units c v → IsKeyed v
  keyed_can (SetOf k) j v e h = one_is IsKeyed v (set (vals_of h.0)) h.1 tt
  keyed_can (MapOf i k) j v e h = one_is IsKeyed v (map (entries_of h.0)) h.1 tt
  keyed_can _ j v e h = absurd e

  pub key_deleted : (c j : Kind) (v x : Val) → IsKeyOf c j → Has units c v → Has units c (without_key v x)
  key_deleted (SetOf k) j v x e h =
      one_is (λ y. Has units (SetOf k) (without_key y x)) v (set (vals_of h.0)) h.1
      (_, refl, all_without (Has units k) own_key x (list_of (vals_of h.0)) (items_have k h.0 h.2))
  key_deleted (MapOf i k) j v x e h =
      one_is (λ y. Has units (MapOf i k) (without_key y x)) v (map (entries_of h.0)) h.1
      (_, refl, all_without (IsEntry i k) entry_key x (pairs_of (entries_of h.0)) (entries_have i k h.0 h.2))
  key_deleted _ j v x e h = absurd e

  members_added : (k : Kind) (s : Val) (xs : List Val) → Has units (SetOf k) s → AllByRecursion (Has units k) xs → Has units (SetOf k) (with_members s xs)
  members_added k s [] h g = h
  members_added k s (x ∷ xs) h g = members_added k (with_member s x) xs (key_added k s x h g.0) g.1

  pub set_made : (k : Kind) (xs : List Val) → AllByRecursion (Has units k) xs → Has units (SetOf k) (set_of xs)
  set_made k xs h = members_added k (set no_vals) xs ([], refl, tt) h

  entry_added : (j k : Kind) (m i x : Val) → Has units (MapOf j k) m → Has units j i → Has units k x → Has units (MapOf j k) (with_entry m i x)
  entry_added j k m i x h g f =
      one_is (λ y. Has units (MapOf j k) (with_entry y i x)) m (map (entries_of h.0)) h.1
      (_, refl, all_with (IsEntry j k) entry_key (i, x) (pairs_of (entries_of h.0)) (g, f) (entries_have j k h.0 h.2))

  entries_added : (n : ℕ) (j k : Kind) (m : Val) (xs : List Val) → Has units (MapOf j k) m → Have units (in_pairs j k n) xs → Has units (MapOf j k) (with_entries m xs)
  entries_added zero j k m [] h g = h
  entries_added zero j k m (x ∷ xs) h g = absurd g
  entries_added (suc n) j k m [] h g = absurd g
  entries_added (suc n) j k m (x ∷ []) h g = absurd g.1
  entries_added (suc n) j k m (x ∷ y ∷ xs) h g = entries_added n j k (with_entry m x y) xs (entry_added j k m x y h g.0 g.1.0) g.1.1

  pub map_made : (n : ℕ) (j k : Kind) (xs : List Val) → Have units (in_pairs j k n) xs → Has units (MapOf j k) (map_of xs)
  map_made n j k xs h = entries_added n j k (map no_entries) xs ([], refl, tt) h
