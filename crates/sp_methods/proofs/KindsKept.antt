-- Each method keeps to its kinds.
use Rattle.std.proofs.Common.{ℕ, ℤ, zero, suc, ◌-◌, Bool, true, false, cond, List, [], ◌∷◌, ◌++◌, length, take, Option, None, Some, Result, Ok, Err, refl, sym, subst}
use Rattle.std.specs.Prelude.{IsTrue, slice_get, ok_or, map, ◌==◌}
use Rattle.std.specs.Option.{option_map}
use Rattle.std.specs.Ordering.{match_ordering}
use Rattle.std.specs.declared.cmp.Ordering.{Ordering}
use Rattle.std.specs.declared.cmp.Ordering.TheVariants.{Less, Equal, Greater}
use Rattle.std.specs.List.{AllByRecursion}
use Rattle.sp_base.specs.declared.kinds.PKind.{PKind}
use Rattle.sp_base.specs.declared.kinds.PKind.TheVariants.{BadConversion, Index}
use Rattle.sp_numbers.specs.declared.width.Width.{Width}
use Rattle.sp_numbers.specs.declared.width.Width.TheVariants.{W64}
use Rattle.sp_value.specs.Val.{Val, uint, int, bytes, str, enum, vector, map as map_of, vals_of, list_of, entries_of, pairs_of}
use Rattle.sp_value.specs.Order.{val_cmp}
use Rattle.sp_value.specs.Ascending.{entry_key, found}
use Rattle.sp_value.specs.Changes.{value_at}
use Rattle.sp_value.proofs.Lists.{list_of_vals_of, pairs_of_entries_of}
use Rattle.sp_operators.specs.Operators.{value_or_error}
use Rattle.sp_operators.specs.Parts.{begins_with}
use Rattle.sp_words.specs.declared.methods.Method.{Method}
use Rattle.sp_words.specs.declared.methods.Method.TheVariants.{ToUint, ToInt, ToUintOrder, ToIntOrder, Sub, StartsWith, Split, Split1, Lower, Upper, Decode, Encode, PushBack, PopBack, Front, Back, Get, GetOr}
use Rattle.sp_methods.specs.Kinds.{Kind, Bools, Unsigned, Signed, Bytes, Text, EnumOf, TupleOf, VectorOf, MapOf, Has, Have, kinds_of}
use Rattle.sp_methods.specs.Conversions.{to_uint, to_int, to_uint_order, to_int_order, sub, lower, upper}
use Rattle.sp_methods.specs.Separated.{parts, split1}
use Rattle.sp_methods.specs.Decoding.{decode}
use Rattle.sp_methods.specs.Taken.{first_item, last_item, parted, or_default}
use Rattle.sp_methods.specs.Methods.{method, suits, alone, in_two, pair_of_bytes, to_uint_takes, to_int_takes, to_uint_order_takes, to_int_order_takes, sub_takes, starts_with_takes, split_takes, split1_takes, lower_takes, upper_takes, decode_takes, encode_takes, push_back_takes, pop_back_takes, front_takes, back_takes, get_takes, get_or_takes}
use Rattle.sp_methods.specs.Kept.{Gives, MethodsKeepToTheirKinds}

-- what is there, if anything
abbrev Got : {A : Type 0} → (A → Type 0) → Option A → Type 0
Got P None = Unit {0}
Got P (Some x) = P x

all_got : {A : Type 0} (P : A → Type 0) (xs : List A) (i : ℕ) → AllByRecursion P xs → Got P (slice_get xs i)
all_got P [] i h = tt
all_got P (x ∷ xs) zero h = h.0
all_got P (x ∷ xs) (suc i) h = all_got P xs i h.1

all_taken : {A : Type 0} (P : A → Type 0) (n : ℕ) (xs : List A) → AllByRecursion P xs → AllByRecursion P (take n xs)
all_taken P zero xs h = tt
all_taken P (suc n) [] h = tt
all_taken P (suc n) (x ∷ xs) h = (h.0, all_taken P n xs h.1)

all_pushed : {A : Type 0} (P : A → Type 0) (xs : List A) (x : A) → AllByRecursion P xs → P x → AllByRecursion P (xs ++ x ∷ [])
all_pushed P [] x h p = (p, tt)
all_pushed P (y ∷ xs) x h p = (h.0, all_pushed P xs x h.1 p)

by_order : {A : Type 0} (Q : A → Type 0) (o : Ordering) (a b c : A) → Q a → Q b → Q c → Q (match_ordering o a b c)
by_order Q Less a b c p q r = p
by_order Q Equal a b c p q r = q
by_order Q Greater a b c p q r = r

all_found : (P : Val × Val → Type 0) (k : Val) (es : List (Val × Val)) → AllByRecursion P es → Got P (found entry_key k es)
all_found P k [] h = tt
all_found P k (e ∷ es) h = by_order (Got P) (val_cmp (entry_key e) k) (found entry_key k es) (Some e) (found entry_key k es) (all_found P k es h.1) h.0 (all_found P k es h.1)

module _ (units : List ℕ) where
  -- operands are as many as their kinds
  one_there : (k : Kind) (P : List Val → Type 0) → ((v : Val) → Has units k v → P (v ∷ [])) → (vs : List Val) → Have units (k ∷ []) vs → P vs
  one_there k P go [] h = absurd h
  one_there k P go (v ∷ []) h = go v h.0
  one_there k P go (v ∷ w ∷ vs) h = absurd h.1

  two_there : (j k : Kind) (P : List Val → Type 0) → ((u v : Val) → Has units j u → Has units k v → P (u ∷ v ∷ [])) → (vs : List Val) → Have units (j ∷ k ∷ []) vs → P vs
  two_there j k P go [] h = absurd h
  two_there j k P go (u ∷ vs) h = one_there k (λ ws. P (u ∷ ws)) (λ v p. go u v h.0 p) vs h.1

  three_there : (i j k : Kind) (P : List Val → Type 0) → ((t u v : Val) → Has units i t → Has units j u → Has units k v → P (t ∷ u ∷ v ∷ [])) → (vs : List Val) → Have units (i ∷ j ∷ k ∷ []) vs → P vs
  three_there i j k P go [] h = absurd h
  three_there i j k P go (t ∷ vs) h = two_there j k (λ ws. P (t ∷ ws)) (λ u v p q. go t u v h.0 p q) vs h.1

  -- the form of a value of a kind
  an_unsigned : (P : Val → Type 0) → ((w : Width) (n : ℕ) → P (uint w n)) → (v : Val) → Has units Unsigned v → P v
  an_unsigned P go v h = subst P (sym h.2) (go h.0 h.1)

  some_bytes : (P : Val → Type 0) → ((b : List ℕ) → P (bytes b)) → (v : Val) → Has units Bytes v → P v
  some_bytes P go v h = subst P (sym h.1) (go h.0)

  a_text : (P : Val → Type 0) → ((b : List ℕ) → P (str b)) → (v : Val) → Has units Text v → P v
  a_text P go v h = subst P (sym h.1) (go h.0)

  a_label : (k : ℕ) (P : Val → Type 0) → ((n : ℕ) → P (enum k n)) → (v : Val) → Has units (EnumOf k) v → P v
  a_label k P go v h = subst P (sym h.1) (go h.0)

  a_vector : (k : Kind) (P : Val → Type 0) → ((xs : List Val) → AllByRecursion (Has units k) xs → P (vector (vals_of xs))) → (v : Val) → Has units (VectorOf k) v → P v
  a_vector k P go v h = subst P (sym h.1) (go h.0 h.2)

  a_map : (j k : Kind) (P : Val → Type 0) → ((es : List (Val × Val)) → AllByRecursion (λ e. Has units j e.0 × Has units k e.1) es → P (map_of (entries_of es))) → (v : Val) → Has units (MapOf j k) v → P v
  a_map j k P go v h = subst P (sym h.1) (go h.0 h.2)

  -- results are of their kinds
  unsigned_given : (r : Result ℕ PKind) → Gives units (Unsigned ∷ []) (alone (value_or_error (uint W64) r))
  unsigned_given (Ok n) = ((W64, n, refl), tt)
  unsigned_given (Err error) = tt

  signed_given : (r : Result ℤ PKind) → Gives units (Signed ∷ []) (alone (value_or_error (int W64) r))
  signed_given (Ok n) = ((W64, n, refl), tt)
  signed_given (Err error) = tt

  bytes_given : (r : Result (List ℕ) PKind) → Gives units (Bytes ∷ []) (alone (value_or_error bytes r))
  bytes_given (Ok b) = ((b, refl), tt)
  bytes_given (Err error) = tt

  text_given : (r : Result (List ℕ) PKind) → Gives units (Text ∷ []) (alone (value_or_error str r))
  text_given (Ok b) = ((b, refl), tt)
  text_given (Err error) = tt

  pair_given : (r : Result (List ℕ × List ℕ) PKind) → Gives units (TupleOf (kinds_of (Bytes ∷ Bytes ∷ [])) ∷ []) (alone (value_or_error pair_of_bytes r))
  pair_given (Ok two) = ((bytes two.0 ∷ bytes two.1 ∷ [], refl, ((two.0, refl), ((two.1, refl), tt))), tt)
  pair_given (Err error) = tt

  all_bytes : (ps : List (List ℕ)) → AllByRecursion (Has units Bytes) (map bytes ps)
  all_bytes [] = tt
  all_bytes (p ∷ ps) = ((p, refl), all_bytes ps)

  parts_given : (t : Bool) (ps : List (List ℕ)) → Gives units (VectorOf Bytes ∷ []) (alone (value_or_error (λ vs. vector (vals_of vs)) (cond t (Err BadConversion) (Ok (map bytes ps)))))
  parts_given true ps = tt
  parts_given false ps = ((map bytes ps, refl, all_bytes ps), tt)

  item_given : (k : Kind) (o : Option Val) → Got (Has units k) o → Gives units (k ∷ []) (alone (ok_or o Index))
  item_given k None h = tt
  item_given k (Some v) h = (h, tt)

  two_given : (k : Kind) (xs : List Val) (o : Option Val) → AllByRecursion (Has units k) (list_of (vals_of xs)) → Got (Has units k) o
      → Gives units (VectorOf k ∷ k ∷ []) (in_two (parted (vector (vals_of xs)) o))
  two_given k xs None all h = tt
  two_given k xs (Some x) all h = ((take (length (list_of (vals_of xs)) - 1) (list_of (vals_of xs)), refl, all_taken (Has units k) _ _ all), (h, tt))

  value_given : (k : Kind) (o d : Option Val) → Got (Has units k) o → Got (Has units k) d → Gives units (k ∷ []) (alone (or_default o d))
  value_given k (Some v) d h g = (h, tt)
  value_given k None (Some v) h g = (g, tt)
  value_given k None None h g = tt

  got_value : (j k : Kind) (o : Option (Val × Val)) → Got (λ e. Has units j e.0 × Has units k e.1) o → Got (Has units k) (option_map (λ e. e.1) o)
  got_value j k None h = tt
  got_value j k (Some e) h = h.1

  all_items : (k : Kind) (xs : List Val) → AllByRecursion (Has units k) xs → AllByRecursion (Has units k) (list_of (vals_of xs))
  all_items k xs h = subst (AllByRecursion (Has units k)) (sym (list_of_vals_of xs)) h

  at_key : (j k : Kind) (key : Val) (es : List (Val × Val)) → AllByRecursion (λ e. Has units j e.0 × Has units k e.1) es → Got (Has units k) (value_at (map_of (entries_of es)) key)
  at_key j k key es h =
      got_value j k _ (all_found (λ e. Has units j e.0 × Has units k e.1) key (pairs_of (entries_of es))
      (subst (AllByRecursion (λ e. Has units j e.0 × Has units k e.1)) (sym (pairs_of_entries_of es)) h))

  -- operands of these forms suit the method, and it gives these kinds
  abbrev Keeps : Method → List Kind → List Val → Type 0
  Keeps m gives vs = IsTrue (suits m vs) × Gives units gives (method m vs)

  module _ (m : Method) (gives : List Kind) where
    of_bytes : ((x : List ℕ) → Keeps m gives (bytes x ∷ [])) → (vs : List Val) → Have units (Bytes ∷ []) vs → Keeps m gives vs
    of_bytes go = one_there Bytes (Keeps m gives) (λ v p. some_bytes (λ u. Keeps m gives (u ∷ [])) go v p)

    of_two_bytes : ((y x : List ℕ) → Keeps m gives (bytes y ∷ bytes x ∷ [])) → (vs : List Val) → Have units (Bytes ∷ Bytes ∷ []) vs → Keeps m gives vs
    of_two_bytes go = two_there Bytes Bytes (Keeps m gives) (λ a b p q.
        some_bytes (λ u. Keeps m gives (u ∷ b ∷ [])) (λ y. some_bytes (λ u. Keeps m gives (bytes y ∷ u ∷ [])) (λ x. go y x) b q) a p)

    of_number : ((w : Width) (n : ℕ) (x : List ℕ) → Keeps m gives (uint w n ∷ bytes x ∷ [])) → (vs : List Val) → Have units (Unsigned ∷ Bytes ∷ []) vs → Keeps m gives vs
    of_number go = two_there Unsigned Bytes (Keeps m gives) (λ a b p q.
        an_unsigned (λ u. Keeps m gives (u ∷ b ∷ [])) (λ w n. some_bytes (λ u. Keeps m gives (uint w n ∷ u ∷ [])) (λ x. go w n x) b q) a p)

    of_two_numbers : ((v : Width) (j : ℕ) (w : Width) (n : ℕ) (x : List ℕ) → Keeps m gives (uint v j ∷ uint w n ∷ bytes x ∷ [])) → (vs : List Val)
        → Have units (Unsigned ∷ Unsigned ∷ Bytes ∷ []) vs → Keeps m gives vs
    of_two_numbers go = three_there Unsigned Unsigned Bytes (Keeps m gives) (λ a b c p q r.
        an_unsigned (λ u. Keeps m gives (u ∷ b ∷ c ∷ [])) (λ v j.
        an_unsigned (λ u. Keeps m gives (uint v j ∷ u ∷ c ∷ [])) (λ w n.
        some_bytes (λ u. Keeps m gives (uint v j ∷ uint w n ∷ u ∷ [])) (λ x. go v j w n x) c r) b q) a p)

    of_label : (k : ℕ) → ((n : ℕ) (x : List ℕ) → Keeps m gives (enum k n ∷ bytes x ∷ [])) → (vs : List Val) → Have units (EnumOf k ∷ Bytes ∷ []) vs → Keeps m gives vs
    of_label k go = two_there (EnumOf k) Bytes (Keeps m gives) (λ a b p q.
        a_label k (λ u. Keeps m gives (u ∷ b ∷ [])) (λ n. some_bytes (λ u. Keeps m gives (enum k n ∷ u ∷ [])) (λ x. go n x) b q) a p)

    of_two_labels : (j k : ℕ) → ((i n : ℕ) (x : List ℕ) → Keeps m gives (enum k i ∷ enum j n ∷ bytes x ∷ [])) → (vs : List Val)
        → Have units (EnumOf k ∷ EnumOf j ∷ Bytes ∷ []) vs → Keeps m gives vs
    of_two_labels j k go = three_there (EnumOf k) (EnumOf j) Bytes (Keeps m gives) (λ a b c p q r.
        a_label k (λ u. Keeps m gives (u ∷ b ∷ c ∷ [])) (λ i.
        a_label j (λ u. Keeps m gives (enum k i ∷ u ∷ c ∷ [])) (λ n.
        some_bytes (λ u. Keeps m gives (enum k i ∷ enum j n ∷ u ∷ [])) (λ x. go i n x) c r) b q) a p)

    of_vector : (k : Kind) → ((xs : List Val) → AllByRecursion (Has units k) xs → Keeps m gives (vector (vals_of xs) ∷ [])) → (vs : List Val) → Have units (VectorOf k ∷ []) vs → Keeps m gives vs
    of_vector k go = one_there (VectorOf k) (Keeps m gives) (λ v p. a_vector k (λ u. Keeps m gives (u ∷ [])) go v p)

  -- the methods of vectors and maps
  pushes : (k : Kind) (vs : List Val) → Have units (k ∷ VectorOf k ∷ []) vs → Keeps PushBack (VectorOf k ∷ []) vs
  pushes k = two_there k (VectorOf k) (Keeps PushBack (VectorOf k ∷ [])) (λ x v p q.
      a_vector k (λ u. Keeps PushBack (VectorOf k ∷ []) (x ∷ u ∷ []))
      (λ xs all. (refl, ((list_of (vals_of xs) ++ x ∷ [], refl, all_pushed (Has units k) (list_of (vals_of xs)) x (all_items k xs all) p), tt))) v q)

  pops : (k : Kind) (vs : List Val) → Have units (VectorOf k ∷ []) vs → Keeps PopBack (VectorOf k ∷ k ∷ []) vs
  pops k = of_vector PopBack (VectorOf k ∷ k ∷ []) k
      (λ xs all. (refl, two_given k xs (last_item (list_of (vals_of xs))) (all_items k xs all) (all_got (Has units k) (list_of (vals_of xs)) _ (all_items k xs all))))

  gets : (j k : Kind) (vs : List Val) → Have units (j ∷ MapOf j k ∷ []) vs → Keeps Get (k ∷ []) vs
  gets j k = two_there j (MapOf j k) (Keeps Get (k ∷ [])) (λ key m p q.
      a_map j k (λ u. Keeps Get (k ∷ []) (key ∷ u ∷ []))
      (λ es all. (refl, value_given k (value_at (map_of (entries_of es)) key) None (at_key j k key es all) tt)) m q)

  gets_or : (j k : Kind) (vs : List Val) → Have units (k ∷ j ∷ MapOf j k ∷ []) vs → Keeps GetOr (k ∷ []) vs
  gets_or j k = three_there k j (MapOf j k) (Keeps GetOr (k ∷ [])) (λ d key m p q r.
      a_map j k (λ u. Keeps GetOr (k ∷ []) (d ∷ key ∷ u ∷ []))
      (λ es all. (refl, value_given k (value_at (map_of (entries_of es)) key) (Some d) (at_key j k key es all) p)) m r)

pub methods_keep : MethodsKeepToTheirKinds
methods_keep units _ _ _ vs to_uint_takes = of_number units ToUint (Unsigned ∷ []) (λ w n x. (refl, unsigned_given units (to_uint x n))) vs
methods_keep units _ _ _ vs to_int_takes = of_number units ToInt (Signed ∷ []) (λ w n x. (refl, signed_given units (to_int x n))) vs
methods_keep units _ _ _ vs (to_uint_order_takes k) = of_label units ToUintOrder (Unsigned ∷ []) k (λ n x. (refl, unsigned_given units (to_uint_order x n))) vs
methods_keep units _ _ _ vs (to_int_order_takes k) = of_label units ToIntOrder (Signed ∷ []) k (λ n x. (refl, signed_given units (to_int_order x n))) vs
methods_keep units _ _ _ vs sub_takes = of_two_numbers units Sub (Bytes ∷ []) (λ v j w n x. (refl, bytes_given units (sub x n j))) vs
methods_keep units _ _ _ vs starts_with_takes = of_two_bytes units StartsWith (Bools ∷ []) (λ y x. (refl, ((begins_with x y, refl), tt))) vs
methods_keep units _ _ _ vs split_takes = of_two_bytes units Split (VectorOf Bytes ∷ []) (λ d x. (refl, parts_given units (length d == 0) (parts d 0 x))) vs
methods_keep units _ _ _ vs split1_takes = of_two_bytes units Split1 (TupleOf (kinds_of (Bytes ∷ Bytes ∷ [])) ∷ []) (λ d x. (refl, pair_given units (split1 x d))) vs
methods_keep units _ _ _ vs lower_takes = of_bytes units Lower (Bytes ∷ []) (λ x. (refl, ((lower x, refl), tt))) vs
methods_keep units _ _ _ vs upper_takes = of_bytes units Upper (Bytes ∷ []) (λ x. (refl, ((upper x, refl), tt))) vs
methods_keep units _ _ _ vs (decode_takes j k) = of_two_labels units Decode (Text ∷ []) j k (λ i n x. (refl, text_given units (decode x n i))) vs
methods_keep units _ _ _ vs encode_takes = one_there units Text (Keeps units Encode (Bytes ∷ []))
    (λ v p. a_text units (λ u. Keeps units Encode (Bytes ∷ []) (u ∷ [])) (λ s. (refl, ((s, refl), tt))) v p) vs
methods_keep units _ _ _ vs (push_back_takes k) = pushes units k vs
methods_keep units _ _ _ vs (pop_back_takes k) = pops units k vs
methods_keep units _ _ _ vs (front_takes k) = of_vector units Front (k ∷ []) k
    (λ xs all. (refl, item_given units k (first_item (list_of (vals_of xs))) (all_got (Has units k) (list_of (vals_of xs)) 0 (all_items units k xs all)))) vs
methods_keep units _ _ _ vs (back_takes k) = of_vector units Back (k ∷ []) k
    (λ xs all. (refl, item_given units k (last_item (list_of (vals_of xs))) (all_got (Has units k) (list_of (vals_of xs)) _ (all_items units k xs all)))) vs
methods_keep units _ _ _ vs (get_takes j k) = gets units j k vs
methods_keep units _ _ _ vs (get_or_takes j k) = gets_or units j k vs
