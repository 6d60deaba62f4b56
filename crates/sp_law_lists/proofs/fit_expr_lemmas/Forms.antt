-- What is made of parts that pass.
use Rattle.std.specs.Prelude.{◌&&◌, Option, Some, None, slice_get, is_some}
use Rattle.std.proofs.Common.{◌≡◌, ◌∙◌, ℕ, true, false, List, [], ◌∷◌, reverse, refl, sym, ap, subst}
use Rattle.std.proofs.lemmas.Bool.{and_parts}
use Rattle.std.proofs.lemmas.List.{reverse-reverse}
use Rattle.sp_base.specs.declared.places.Span.{Span}
use Rattle.sp_words.specs.declared.operators.BinaryOp.{BinaryOp}
use Rattle.sp_words.specs.declared.operators.BinaryOp.TheVariants as op_is
use Rattle.sp_words.specs.declared.methods.Method.{Method}
use Rattle.sp_words.specs.declared.methods.Method.TheVariants.{ToUint, ToInt, ToUintOrder, ToIntOrder, Sub, StartsWith, Split, Split1, Lower, Upper, Decode, Encode, PushBack, PopBack, Front, Back, Get, GetOr}
use Rattle.sp_methods.specs.Kinds.{Kind, Unsigned, Bytes, TupleOf, VectorOf, MapOf, Only, kinds_of}
use Rattle.sp_methods.specs.Methods.{IsMethod, to_uint_takes, to_int_takes, to_uint_order_takes, to_int_order_takes, sub_takes, starts_with_takes, split_takes, split1_takes, lower_takes, upper_takes, decode_takes, encode_takes, push_back_takes, pop_back_takes, front_takes, back_takes, get_takes, get_or_takes}
use Rattle.sp_types.specs.declared.words.Word.TheVariants as word_is
use Rattle.sp_types.specs.declared.words.Maker.TheVariants as maker_is
use Rattle.sp_types.specs.Types.{Ty, Tys, word, made, same}
use Rattle.sp_types.specs.Types as types
use Rattle.sp_typed.specs.declared.words.OneOp.{OneOp}
use Rattle.sp_typed.specs.declared.words.OneOp.TheVariants as one_is
use Rattle.sp_typed.specs.declared.words.TwoOp.{TwoOp}
use Rattle.sp_typed.specs.declared.words.TwoOp.TheVariants as two_is
use Rattle.sp_typed.specs.declared.words.ManyOp.{ManyOp}
use Rattle.sp_typed.specs.declared.words.ManyOp.TheVariants as many_is
use Rattle.sp_typed.specs.declared.words.UnitMethod.TheVariants as unit_method
use Rattle.sp_typed.specs.Exprs.{Expr, Exprs, none, more, type_of}
use Rattle.sp_typed_units.specs.declared.declarations.Function.{Function}
use Rattle.sp_meaning_states.specs.Scopes as called_is
use Rattle.sp_meaning_states.specs.Types.{kind_of_type, kinds_of_types}
use Rattle.sp_code.specs.Kinds.{IsPlaceIn, IsItemOf, in_vector, in_map, of_place, of_tuple}
use Rattle.sp_code.specs.Machine.{Plain}
use Rattle.sp_code.specs.Shapes.{Shapes, OfFunction, Enters}
use Rattle.sp_code_programs.specs.exprs.Code.{kinds_on, count}
use Rattle.sp_code_programs.specs.programs.Routines.{parameter_kinds}
use Rattle.sp_law_code.specs.exprs.Parts.{OneFits, BinaryFits, TwoFits, ManyFits, ChangeFits}
use Rattle.sp_law_meaning.specs.Standing.{CallStands}
use Rattle.sp_law_programs.specs.finished_bodies.Built.{IsThere}
use Rattle.sp_law_lists.specs.fit_expr.Around.{Around, globals_in}
use Rattle.sp_law_lists.specs.fit_expr.Sorts.{Sort, sort_of, takes, is_sized, is_integer, casts}
use Rattle.sp_law_lists.specs.fit_expr.Sorts as sort_is
use Rattle.sp_law_lists.specs.fit_expr.Lists.{part_is, are_two, arguments_are, sorts_are}
use Rattle.sp_law_lists.specs.fit_expr.Passes.{Tables}
use Rattle.sp_law_lists.specs.fit_expr.Test.{is_sort, is_enum, item_is, tuple_has, vector_of, map_of, tuple_of, vector_with, set_with, map_with, pair_of_bytes, call_is, converts, offset_is, wanted, gives, element_is, value_is, value_or_is, method_is, change_is, two_is_of, one_is_of, many_is_of, has_range}
use Rattle.sp_law_lists.proofs.fit_expr_lemmas.OfSorts.{IsOf, kind_is_of, of_sort, booleans_are, operator_gives, sized, to_enum, casts_give}
use Rattle.sp_law_lists.proofs.fit_expr_lemmas.OfTypes.{same_kind, part_kind, first_kind, second_kind, members_kinds, arguments_kinds, arguments_counted, kinds_listed, all_turned, all_repeated, turns}
use Rattle.sp_law_lists.proofs.fit_expr_lemmas.Leaves.{is_of_enum, member_fits, range_fits}

-- types by themselves
module _ (ranges : List ℕ) where
  abbrev kind : Ty → Kind
  kind t = kind_of_type ranges t

  -- an operator on two operands
  pub binary_fits : (p : Plain) (shapes : Shapes) (o : BinaryOp) (a b t : Ty) → takes o (sort_of a) (sort_of b) (sort_of t) ≡ true → BinaryFits p shapes o (kind a) (kind b) (kind t)
  binary_fits p shapes op_is.And a b t h =
      booleans_are (sort_of a) (sort_of b) (sort_of t) (kind a) (kind b) (kind t) (kind_is_of ranges a) (kind_is_of ranges b) (kind_is_of ranges t) h
  binary_fits p shapes op_is.Or a b t h =
      booleans_are (sort_of a) (sort_of b) (sort_of t) (kind a) (kind b) (kind t) (kind_is_of ranges a) (kind_is_of ranges b) (kind_is_of ranges t) h
  binary_fits p shapes o a b t h = operator_gives ranges o a b t h

  -- an item of a container
  pub item_fits : (c key t : Ty) → item_is c key t ≡ true → IsPlaceIn (kind c) (kind key) (kind t)
  item_fits (made maker_is.Vector ts) key t h =
      let b = and_parts (is_sort key sort_is.Unsigned) (part_is ts 0 t) h in
      rw (first_kind ranges ts t b.1, of_sort ranges key sort_is.Unsigned b.0) (in_vector Unsigned (kind t) refl)
  item_fits (made maker_is.Map ts) key t h =
      let b = and_parts (part_is ts 0 key) (part_is ts 1 t) h in
      rw (first_kind ranges ts key b.0, second_kind ranges ts t b.1) (in_map (kind key) (kind t))
  item_fits (made maker_is.Tuple ts) key t h = absurd (let z : false ≡ true = h in cc)
  item_fits (made maker_is.Set ts) key t h = absurd (let z : false ≡ true = h in cc)
  item_fits (word w) key t h = absurd (let z : false ≡ true = h in cc)

  -- a member of a tuple
  tuple_fits : (c : Ty) (n : ℕ) (t : Ty) → tuple_has c n t ≡ true → IsItemOf (kind c) (Only n) (kind t)
  tuple_fits (made maker_is.Tuple ts) n t h = of_tuple (kinds_of_types ranges ts) n (kind t) (part_kind ranges ts n t h)
  tuple_fits (made maker_is.Vector ts) n t h = absurd (let z : false ≡ true = h in cc)
  tuple_fits (made maker_is.Set ts) n t h = absurd (let z : false ≡ true = h in cc)
  tuple_fits (made maker_is.Map ts) n t h = absurd (let z : false ≡ true = h in cc)
  tuple_fits (word w) n t h = absurd (let z : false ≡ true = h in cc)

  -- a vector of elements of a type
  vector_kind : (c t : Ty) → vector_of c t ≡ true → kind c ≡ VectorOf (kind t)
  vector_kind (made maker_is.Vector ts) t h = ap VectorOf (first_kind ranges ts t h)
  vector_kind (made maker_is.Tuple ts) t h = absurd (let z : false ≡ true = h in cc)
  vector_kind (made maker_is.Set ts) t h = absurd (let z : false ≡ true = h in cc)
  vector_kind (made maker_is.Map ts) t h = absurd (let z : false ≡ true = h in cc)
  vector_kind (word w) t h = absurd (let z : false ≡ true = h in cc)

  map_kind : (c key t : Ty) → map_of c key t ≡ true → kind c ≡ MapOf (kind key) (kind t)
  map_kind (made maker_is.Map ts) key t h =
      let b = and_parts (part_is ts 0 key) (part_is ts 1 t) h in
      rw (first_kind ranges ts key b.0, second_kind ranges ts t b.1) refl
  map_kind (made maker_is.Tuple ts) key t h = absurd (let z : false ≡ true = h in cc)
  map_kind (made maker_is.Vector ts) key t h = absurd (let z : false ≡ true = h in cc)
  map_kind (made maker_is.Set ts) key t h = absurd (let z : false ≡ true = h in cc)
  map_kind (word w) key t h = absurd (let z : false ≡ true = h in cc)

  two_bytes : (ts : Tys) → are_two ts sort_is.Bytes ≡ true → kinds_of_types ranges ts ≡ kinds_of (Bytes ∷ Bytes ∷ [])
  two_bytes (types.more a (types.more b types.none)) h =
      let x = and_parts (is_sort a sort_is.Bytes) (is_sort b sort_is.Bytes) h in
      rw (of_sort ranges a sort_is.Bytes x.0, of_sort ranges b sort_is.Bytes x.1) refl
  two_bytes types.none h = absurd (let z : false ≡ true = h in cc)
  two_bytes (types.more a types.none) h = absurd (let z : false ≡ true = h in cc)
  two_bytes (types.more a (types.more b (types.more c ts))) h = absurd (let z : false ≡ true = h in cc)

  pair_kind : (t : Ty) → pair_of_bytes t ≡ true → kind t ≡ TupleOf (kinds_of (Bytes ∷ Bytes ∷ []))
  pair_kind (made maker_is.Tuple ts) h = ap TupleOf (two_bytes ts h)
  pair_kind (made maker_is.Vector ts) h = absurd (let z : false ≡ true = h in cc)
  pair_kind (made maker_is.Set ts) h = absurd (let z : false ≡ true = h in cc)
  pair_kind (made maker_is.Map ts) h = absurd (let z : false ≡ true = h in cc)
  pair_kind (word w) h = absurd (let z : false ≡ true = h in cc)

-- what is made of one part
module _ (around : Around) (p : Plain) (shapes : Shapes) (tables : Tables around.list p shapes) where
  abbrev here : Ty → Kind
  here t = kind_of_type (globals_in around).ranges t

  pub one_fits : (o : OneOp) (a t : Ty) → one_is_of around o a t ≡ true → OneFits p shapes o (here a) t (here t)
  one_fits one_is.Negate a t h =
      let b = and_parts (is_sort a sort_is.Signed) (is_sort t sort_is.Signed) h in
      rw (of_sort (globals_in around).ranges a sort_is.Signed b.0, of_sort (globals_in around).ranges t sort_is.Signed b.1) refl
  one_fits one_is.Not a t h =
      let b = and_parts (is_sort a sort_is.Bools) (is_sort t sort_is.Bools) h in
      rw (of_sort (globals_in around).ranges a sort_is.Bools b.0, of_sort (globals_in around).ranges t sort_is.Bools b.1) refl
  one_fits one_is.Complement a t h =
      let b = and_parts (is_sort a sort_is.Unsigned) (is_sort t sort_is.Unsigned) h in
      rw (of_sort (globals_in around).ranges a sort_is.Unsigned b.0, of_sort (globals_in around).ranges t sort_is.Unsigned b.1) refl
  one_fits one_is.Size a t h =
      let b = and_parts (is_sized (sort_of a)) (is_sort t sort_is.Unsigned) h in
      (sized (sort_of a) (here a) (kind_is_of (globals_in around).ranges a) b.0, of_sort (globals_in around).ranges t sort_is.Unsigned b.1)
  one_fits (one_is.Cast w) a t h = casts_give (globals_in around).ranges (sort_of a) (here a) t (kind_is_of (globals_in around).ranges a) h
  one_fits one_is.Widen a t h = casts_give (globals_in around).ranges (sort_of a) (here a) t (kind_is_of (globals_in around).ranges a) h
  one_fits (one_is.Field m) a t h = member_fits around p shapes tables a m t h
  one_fits (one_is.Variable m) a t h = member_fits around p shapes tables a m t h
  one_fits (one_is.Bit r) a t h =
      let b = and_parts (has_range around a r) (casts sort_is.Unsigned t) h in
      (range_fits around p shapes tables a r b.0, casts_give (globals_in around).ranges sort_is.Unsigned Unsigned t refl b.1)
  one_fits (one_is.IsSet m) a t h =
      let b = and_parts (is_sort a sort_is.Units) (is_sort t sort_is.Bools) h in
      let unit = of_sort (globals_in around).ranges a sort_is.Units b.0 in
      (unit.0, unit.1, of_sort (globals_in around).ranges t sort_is.Bools b.1)
  one_fits _ a t h = absurd (let z : false ≡ true = h in cc)

  -- of two
  pub two_fits : (o : TwoOp) (a b t : Ty) (B : Type 0) → B → two_is_of o a b t ≡ true → TwoFits p shapes o B (here a) (here b) (here t)
  two_fits (two_is.Binary o) a b t B x h = (x, binary_fits (globals_in around).ranges p shapes o a b t h)
  two_fits two_is.Index a b t B x h = (x, of_place (here a) (here b) (here t) (item_fits (globals_in around).ranges a b t h))
  two_fits (two_is.Item n) a b t B x h = tuple_fits (globals_in around).ranges a n t h

-- what is made of any number of parts
module _ (around : Around) where
  abbrev on : Exprs → List Kind → List Kind
  on es ks = kinds_on (globals_in around) around.places es ks

  abbrev there : Ty → Kind
  there t = kind_of_type (globals_in around).ranges t

  -- parts of sorts
  of_one : (s : Sort) (es : Exprs) (P : List Kind → Type 0) → ((i : Kind) → IsOf s i → P (i ∷ [])) → sorts_are (s ∷ []) es ≡ true → P (on es [])
  of_one s none P f h = absurd (let z : false ≡ true = h in cc)
  of_one s (more e none) P f h =
      let b = and_parts (is_sort (type_of e) s) true h in
      f (there (type_of e)) (of_sort (globals_in around).ranges (type_of e) s b.0)
  of_one s (more e (more d es)) P f h =
      let b = and_parts (is_sort (type_of e) s) false h in
      absurd (let z : false ≡ true = b.1 in cc)

  of_two : (s t : Sort) (es : Exprs) (P : List Kind → Type 0) → ((i j : Kind) → IsOf s i → IsOf t j → P (j ∷ i ∷ [])) → sorts_are (s ∷ t ∷ []) es ≡ true → P (on es [])
  of_two s t none P f h = absurd (let z : false ≡ true = h in cc)
  of_two s t (more e none) P f h =
      let b = and_parts (is_sort (type_of e) s) false h in
      absurd (let z : false ≡ true = b.1 in cc)
  of_two s t (more e (more d none)) P f h =
      let b = and_parts (is_sort (type_of e) s) (is_sort (type_of d) t && true) h in
      let c = and_parts (is_sort (type_of d) t) true b.1 in
      f (there (type_of e)) (there (type_of d)) (of_sort (globals_in around).ranges (type_of e) s b.0) (of_sort (globals_in around).ranges (type_of d) t c.0)
  of_two s t (more e (more d (more c es))) P f h =
      let b = and_parts (is_sort (type_of e) s) (is_sort (type_of d) t && false) h in
      let c = and_parts (is_sort (type_of d) t) false b.1 in
      absurd (let z : false ≡ true = c.1 in cc)

  of_three : (s t u : Sort) (es : Exprs) (P : List Kind → Type 0) → ((i j k : Kind) → IsOf s i → IsOf t j → IsOf u k → P (k ∷ j ∷ i ∷ [])) → sorts_are (s ∷ t ∷ u ∷ []) es ≡ true → P (on es [])
  of_three s t u none P f h = absurd (let z : false ≡ true = h in cc)
  of_three s t u (more e none) P f h =
      let b = and_parts (is_sort (type_of e) s) false h in
      absurd (let z : false ≡ true = b.1 in cc)
  of_three s t u (more e (more d none)) P f h =
      let b = and_parts (is_sort (type_of e) s) (is_sort (type_of d) t && false) h in
      let c = and_parts (is_sort (type_of d) t) false b.1 in
      absurd (let z : false ≡ true = c.1 in cc)
  of_three s t u (more e (more d (more g none))) P f h =
      let b = and_parts (is_sort (type_of e) s) (is_sort (type_of d) t && (is_sort (type_of g) u && true)) h in
      let c = and_parts (is_sort (type_of d) t) (is_sort (type_of g) u && true) b.1 in
      let a = and_parts (is_sort (type_of g) u) true c.1 in
      f
      (there (type_of e))
      (there (type_of d))
      (there (type_of g))
      (of_sort (globals_in around).ranges (type_of e) s b.0)
      (of_sort (globals_in around).ranges (type_of d) t c.0)
      (of_sort (globals_in around).ranges (type_of g) u a.0)
  of_three s t u (more e (more d (more g (more c es)))) P f h =
      let b = and_parts (is_sort (type_of e) s) (is_sort (type_of d) t && (is_sort (type_of g) u && false)) h in
      let c = and_parts (is_sort (type_of d) t) (is_sort (type_of g) u && false) b.1 in
      let a = and_parts (is_sort (type_of g) u) false c.1 in
      absurd (let z : false ≡ true = a.1 in cc)

  -- a method that asks for sorts alone
  simple_fits : (m : Method) (es : Exprs) (t : Ty) → sorts_are (wanted m) es ≡ true → gives m t ≡ true → IsMethod m (on es []) (there t ∷ [])
  simple_fits ToUint es t h g =
      of_two sort_is.Bytes sort_is.Unsigned es (λ (js : List Kind). IsMethod ToUint js (there t ∷ [])) (λ i j p q. rw (p, q, of_sort (globals_in around).ranges t sort_is.Unsigned g) to_uint_takes) h
  simple_fits ToInt es t h g =
      of_two sort_is.Bytes sort_is.Unsigned es (λ (js : List Kind). IsMethod ToInt js (there t ∷ [])) (λ i j p q. rw (p, q, of_sort (globals_in around).ranges t sort_is.Signed g) to_int_takes) h
  simple_fits ToUintOrder es t h g =
      of_two
      sort_is.Bytes
      sort_is.Enums
      es
      (λ (js : List Kind). IsMethod ToUintOrder js (there t ∷ []))
      (λ i j p q. rw (p, q.1, of_sort (globals_in around).ranges t sort_is.Unsigned g) (to_uint_order_takes q.0))
      h
  simple_fits ToIntOrder es t h g =
      of_two
      sort_is.Bytes
      sort_is.Enums
      es
      (λ (js : List Kind). IsMethod ToIntOrder js (there t ∷ []))
      (λ i j p q. rw (p, q.1, of_sort (globals_in around).ranges t sort_is.Signed g) (to_int_order_takes q.0))
      h
  simple_fits Sub es t h g =
      of_three
      sort_is.Bytes
      sort_is.Unsigned
      sort_is.Unsigned
      es
      (λ (js : List Kind). IsMethod Sub js (there t ∷ []))
      (λ i j k p q r. rw (p, q, r, of_sort (globals_in around).ranges t sort_is.Bytes g) sub_takes)
      h
  simple_fits StartsWith es t h g =
      of_two sort_is.Bytes sort_is.Bytes es (λ (js : List Kind). IsMethod StartsWith js (there t ∷ [])) (λ i j p q. rw (p, q, of_sort (globals_in around).ranges t sort_is.Bools g) starts_with_takes) h
  simple_fits Split es t h g =
      of_two sort_is.Bytes sort_is.Bytes es (λ (js : List Kind). IsMethod Split js (there t ∷ [])) (λ i j p q. rw (p, q, vector_kind (globals_in around).ranges t (word word_is.Bytes) g) split_takes) h
  simple_fits Split1 es t h g =
      of_two sort_is.Bytes sort_is.Bytes es (λ (js : List Kind). IsMethod Split1 js (there t ∷ [])) (λ i j p q. rw (p, q, pair_kind (globals_in around).ranges t g) split1_takes) h
  simple_fits Lower es t h g =
      of_one sort_is.Bytes es (λ (js : List Kind). IsMethod Lower js (there t ∷ [])) (λ i p. rw (p, of_sort (globals_in around).ranges t sort_is.Bytes g) lower_takes) h
  simple_fits Upper es t h g =
      of_one sort_is.Bytes es (λ (js : List Kind). IsMethod Upper js (there t ∷ [])) (λ i p. rw (p, of_sort (globals_in around).ranges t sort_is.Bytes g) upper_takes) h
  simple_fits Decode es t h g =
      of_three
      sort_is.Bytes
      sort_is.Enums
      sort_is.Enums
      es
      (λ (js : List Kind). IsMethod Decode js (there t ∷ []))
      (λ i j k p q r. rw (p, q.1, r.1, of_sort (globals_in around).ranges t sort_is.Text g) (decode_takes q.0 r.0))
      h
  simple_fits Encode es t h g =
      of_one sort_is.Text es (λ (js : List Kind). IsMethod Encode js (there t ∷ [])) (λ i p. rw (p, of_sort (globals_in around).ranges t sort_is.Bytes g) encode_takes) h
  simple_fits _ es t h g = absurd (let z : false ≡ true = g in cc)

  -- an element of a vector
  element_kind : (es : Exprs) (t : Ty) → element_is es t ≡ true → on es [] ≡ VectorOf (there t) ∷ []
  element_kind none t h = absurd (let z : false ≡ true = h in cc)
  element_kind (more v none) t h = ap (λ (k : Kind). k ∷ []) (vector_kind (globals_in around).ranges (type_of v) t h)
  element_kind (more v (more e es)) t h = absurd (let z : false ≡ true = h in cc)

  -- a value of a map at a key
  value_fits : (es : Exprs) (t : Ty) → value_is es t ≡ true → IsMethod Get (on es []) (there t ∷ [])
  value_fits none t h = absurd (let z : false ≡ true = h in cc)
  value_fits (more m none) t h = absurd (let z : false ≡ true = h in cc)
  value_fits (more m (more k none)) t h = rw (map_kind (globals_in around).ranges (type_of m) (type_of k) t h) (get_takes (there (type_of k)) (there t))
  value_fits (more m (more k (more e es))) t h = absurd (let z : false ≡ true = h in cc)

  abbrev value_in : Kind → Kind
  value_in (MapOf j k) = k
  value_in k = k

  value_or_fits : (es : Exprs) (t : Ty) → value_or_is es t ≡ true → IsMethod GetOr (on es []) (there t ∷ [])
  value_or_fits none t h = absurd (let z : false ≡ true = h in cc)
  value_or_fits (more m none) t h = absurd (let z : false ≡ true = h in cc)
  value_or_fits (more m (more k none)) t h = absurd (let z : false ≡ true = h in cc)
  value_or_fits (more m (more k (more d none))) t h =
      let b = and_parts (map_of (type_of m) (type_of k) (type_of d)) (map_of (type_of m) (type_of k) t) h in
      let one = map_kind (globals_in around).ranges (type_of m) (type_of k) (type_of d) b.0 in
      let other = map_kind (globals_in around).ranges (type_of m) (type_of k) t b.1 in
      let same_value : there (type_of d) ≡ there t = ap value_in (sym one ∙ other) in
      rw (other, same_value) (get_or_takes (there (type_of k)) (there t))
  value_or_fits (more m (more k (more d (more e es)))) t h = absurd (let z : false ≡ true = h in cc)

  -- a method that changes nothing
  method_fits : (m : Method) (es : Exprs) (t : Ty) → method_is m es t ≡ true → IsMethod m (on es []) (there t ∷ [])
  method_fits PushBack es t h = absurd (let z : false ≡ true = h in cc)
  method_fits PopBack es t h = absurd (let z : false ≡ true = h in cc)
  method_fits Front es t h = rw (element_kind es t h) (front_takes (there t))
  method_fits Back es t h = rw (element_kind es t h) (back_takes (there t))
  method_fits Get es t h = value_fits es t h
  method_fits GetOr es t h = value_or_fits es t h
  method_fits m es t h =
      let b = and_parts (sorts_are (wanted m) es) (gives m t) h in
      simple_fits m es t b.0 b.1

  -- a method that changes its receiver
  pub change_fits : (p : Plain) (shapes : Shapes) (m : Method) (slot : Option ℕ) (r : Expr) (es : Exprs) (t : Ty) → change_is m (type_of r) es t ≡ true →
      ChangeFits p shapes (many_is.Method m slot) (on es (there (type_of r) ∷ [])) (there (type_of r)) (there t)
  change_fits p shapes PushBack slot r none t h = absurd (let z : false ≡ true = h in cc)
  change_fits p shapes PushBack slot r (more e none) t h =
      let b = and_parts (vector_of (type_of r) (type_of e)) (is_sort t sort_is.Void) h in
      (rw (vector_kind (globals_in around).ranges (type_of r) (type_of e) b.0) (push_back_takes (there (type_of e))), of_sort (globals_in around).ranges t sort_is.Void b.1)
  change_fits p shapes PushBack slot r (more e (more d es)) t h = absurd (let z : false ≡ true = h in cc)
  change_fits p shapes PopBack slot r none t h = rw (vector_kind (globals_in around).ranges (type_of r) t h) (pop_back_takes (there t))
  change_fits p shapes PopBack slot r (more e es) t h = absurd (let z : false ≡ true = h in cc)
  change_fits p shapes _ slot r es t h = absurd (let z : false ≡ true = h in cc)

  -- containers that are written out
  tuple_made : (p : Plain) (shapes : Shapes) (es : Exprs) (t : Ty) → tuple_of t es ≡ true → ManyFits p shapes many_is.Tuple (count es) (on es []) (there t)
  tuple_made p shapes es (made maker_is.Tuple ts) h =
      let listed = kinds_listed (globals_in around).ranges es in
      ap TupleOf
      (members_kinds (globals_in around).ranges ts es h
      ∙ ap kinds_of (sym (ap (λ (ks : List Kind). reverse ks) (all_turned (globals_in around) around.places es) ∙ reverse-reverse listed)))
  tuple_made p shapes es (made maker_is.Vector ts) h = absurd (let z : false ≡ true = h in cc)
  tuple_made p shapes es (made maker_is.Set ts) h = absurd (let z : false ≡ true = h in cc)
  tuple_made p shapes es (made maker_is.Map ts) h = absurd (let z : false ≡ true = h in cc)
  tuple_made p shapes es (word w) h = absurd (let z : false ≡ true = h in cc)

  vector_made : (p : Plain) (shapes : Shapes) (es : Exprs) (t : Ty) → vector_with t es ≡ true → ManyFits p shapes many_is.Vector (count es) (on es []) (there t)
  vector_made p shapes es (made maker_is.Vector ts) h = (_, all_repeated (globals_in around) around.places ts es h, refl)
  vector_made p shapes es (made maker_is.Tuple ts) h = absurd (let z : false ≡ true = h in cc)
  vector_made p shapes es (made maker_is.Set ts) h = absurd (let z : false ≡ true = h in cc)
  vector_made p shapes es (made maker_is.Map ts) h = absurd (let z : false ≡ true = h in cc)
  vector_made p shapes es (word w) h = absurd (let z : false ≡ true = h in cc)

  set_made : (p : Plain) (shapes : Shapes) (es : Exprs) (t : Ty) → set_with t es ≡ true → ManyFits p shapes many_is.Set (count es) (on es []) (there t)
  set_made p shapes es (made maker_is.Set ts) h = (_, all_repeated (globals_in around) around.places ts es h, refl)
  set_made p shapes es (made maker_is.Tuple ts) h = absurd (let z : false ≡ true = h in cc)
  set_made p shapes es (made maker_is.Vector ts) h = absurd (let z : false ≡ true = h in cc)
  set_made p shapes es (made maker_is.Map ts) h = absurd (let z : false ≡ true = h in cc)
  set_made p shapes es (word w) h = absurd (let z : false ≡ true = h in cc)

  map_made : (p : Plain) (shapes : Shapes) (es : Exprs) (t : Ty) → map_with t es ≡ true → ManyFits p shapes many_is.Map (count es) (on es []) (there t)
  map_made p shapes es (made maker_is.Map ts) h =
      let in_order = turns (globals_in around) around.places ts es h in
      (in_order.0, _, _, in_order.1, in_order.2, refl)
  map_made p shapes es (made maker_is.Tuple ts) h = absurd (let z : false ≡ true = h in cc)
  map_made p shapes es (made maker_is.Vector ts) h = absurd (let z : false ≡ true = h in cc)
  map_made p shapes es (made maker_is.Set ts) h = absurd (let z : false ≡ true = h in cc)
  map_made p shapes es (word w) h = absurd (let z : false ≡ true = h in cc)

  -- `E(n)`
  convert_made : (p : Plain) (shapes : Shapes) (k : ℕ) (es : Exprs) (t : Ty) → converts k es t ≡ true → ManyFits p shapes (many_is.Convert k) (count es) (on es []) (there t)
  convert_made p shapes k none t h = absurd (let z : false ≡ true = h in cc)
  convert_made p shapes k (more e none) t h =
      let b = and_parts (is_integer (sort_of (type_of e))) (is_enum k t) h in (
        there (type_of e),
        refl,
        to_enum k (sort_of (type_of e)) (there (type_of e)) (kind_is_of (globals_in around).ranges (type_of e)) b.0 ∙ ap Some (sym (is_of_enum (globals_in around).ranges k t b.1)),
      )
  convert_made p shapes k (more e (more d es)) t h = absurd (let z : false ≡ true = h in cc)

  -- the offset of a unit
  offset_made : (p : Plain) (shapes : Shapes) (at : Span) (es : Exprs) (t : Ty) → offset_is es t ≡ true → ManyFits p shapes (many_is.OfUnit unit_method.Offset at) (count es) (on es []) (there t)
  offset_made p shapes at none t h = absurd (let z : false ≡ true = h in cc)
  offset_made p shapes at (more e none) t h =
      let b = and_parts (is_sort (type_of e) sort_is.Units) (is_sort t sort_is.Unsigned) h in
      let unit = of_sort (globals_in around).ranges (type_of e) sort_is.Units b.0 in
      (unit.0, ap (λ (k : Kind). k ∷ []) unit.1, of_sort (globals_in around).ranges t sort_is.Unsigned b.1)
  offset_made p shapes at (more e (more d es)) t h = absurd (let z : false ≡ true = h in cc)

  -- a call that names a function of the list
  call_there : (f : ℕ) (es : Exprs) (t : Ty) (o : Option Function) → slice_get around.list.functions f ≡ o → call_is o es t ≡ true →
      (x : Function) × (slice_get around.list.functions f ≡ Some x) × (arguments_are x.parameters es ≡ true) × (same x.result t ≡ true)
  call_there f es t (Some x) is h =
      let b = and_parts (arguments_are x.parameters es) (same x.result t) h in
      (x, is, b.0, b.1)
  call_there f es t None is h = absurd (let z : false ≡ true = h in cc)

  pub function_there : (f : ℕ) (es : Exprs) (t : Ty) → call_is (slice_get around.list.functions f) es t ≡ true → IsThere (slice_get around.list.functions f)
  function_there f es t h =
      let x = call_there f es t (slice_get around.list.functions f) refl h in
      rw x.1 tt

  -- with as many arguments as it has parameters
  pub call_stands : (o : ManyOp) (es : Exprs) (t : Ty) → many_is_of around o es t ≡ true → CallStands (is_some around.places.offset) around.list.functions o (count es)
  call_stands (many_is.Call f) es t h =
      let x = call_there f es t (slice_get around.list.functions f) refl h in
      (x.0, x.1, arguments_counted (globals_in around).ranges x.0.parameters es x.2)
  call_stands _ es t h = tt

  call_made : (p : Plain) (shapes : Shapes) (tables : Tables around.list p shapes) (f : ℕ) (es : Exprs) (t : Ty) → call_is (slice_get around.list.functions f) es t ≡ true → ManyFits p shapes (many_is.Call f) (count es) (on es []) (there t)
  call_made p shapes tables f es t h =
      let x = call_there f es t (slice_get around.list.functions f) refl h in
      let given : reverse (parameter_kinds (globals_in around).ranges x.0.parameters) ≡ on es [] =
      ap (λ (ks : List Kind). reverse ks) (arguments_kinds (globals_in around).ranges x.0.parameters es x.2) ∙ sym (all_turned (globals_in around) around.places es) in
      subst
      (λ (k : Kind). Enters p shapes f None called_is.Called.Function (OfFunction k) (on es []))
      (same_kind (globals_in around).ranges x.0.result t x.3)
      (subst (λ (js : List Kind). Enters p shapes f None called_is.Called.Function (OfFunction (there x.0.result)) js) given (tables.functions f x.0 x.1))

  pub many_fits : (p : Plain) (shapes : Shapes) (tables : Tables around.list p shapes) (o : ManyOp) (es : Exprs) (t : Ty) → many_is_of around o es t ≡ true → ManyFits p shapes o (count es) (on es []) (there t)
  many_fits p shapes tables many_is.Tuple es t h = tuple_made p shapes es t h
  many_fits p shapes tables many_is.Vector es t h = vector_made p shapes es t h
  many_fits p shapes tables many_is.Set es t h = set_made p shapes es t h
  many_fits p shapes tables many_is.Map es t h = map_made p shapes es t h
  many_fits p shapes tables (many_is.Call f) es t h = call_made p shapes tables f es t h
  many_fits p shapes tables (many_is.Convert k) es t h = convert_made p shapes k es t h
  many_fits p shapes tables (many_is.Method m slot) es t h = method_fits m es t h
  many_fits p shapes tables (many_is.OfUnit unit_method.Offset at) es t h = offset_made p shapes at es t h
  many_fits p shapes tables (many_is.OfUnit _ at) es t h = absurd (let z : false ≡ true = h in cc)
  many_fits p shapes tables _ es t h = absurd (let z : false ≡ true = h in cc)
