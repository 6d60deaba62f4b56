-- What the checker takes an expression for is what bodies make of it.
use Rattle.std.specs.Prelude.{ℕ, Bool, true, false, ◌&&◌, if◌then◌else◌, List, [], Option, Some, None, ok_or, slice_get, Result as Answer, Ok, Err}
use Rattle.std.proofs.Common.{◌≡◌, ◌⊎◌, inl, inr, refl, ap, subst}
use Rattle.std.proofs.lemmas.Bool.{and_parts}
use Rattle.sp_base.specs.declared.kinds.PKind.{PKind}
use Rattle.sp_base.specs.declared.kinds.PKind.TheVariants.{Index, MissingKey}
use Rattle.sp_numbers.specs.declared.width.Width.TheVariants.{W64}
use Rattle.sp_words.specs.declared.operators.BinaryOp.{BinaryOp}
use Rattle.sp_words.specs.declared.operators.BinaryOp.TheVariants as op_is
use Rattle.sp_words.specs.declared.operators.UnaryOp.TheVariants as unary_is
use Rattle.sp_value.specs.Val.{Val, uint, int, enum, tuple, vector, map, list_of}
use Rattle.sp_value.specs.Changes.{value_at}
use Rattle.sp_operators.specs.Operands.{takes, takes_one, has_size, is_cast}
use Rattle.sp_operators.specs.Operators.{binary, unary, size_of, cast}
use Rattle.sp_operators.specs.declared.plain_type.PlainType.TheVariants as plain_is
use Rattle.sp_types.specs.declared.words.Word.TheVariants as word_is
use Rattle.sp_types.specs.Types.{Ty, word}
use Rattle.sp_typed.specs.declared.heads.One.{One}
use Rattle.sp_typed.specs.declared.words.LeafOp.{LeafOp}
use Rattle.sp_typed.specs.declared.words.LeafOp.TheVariants as leaf_is
use Rattle.sp_typed.specs.declared.words.OneOp.{OneOp}
use Rattle.sp_typed.specs.declared.words.OneOp.TheVariants as one_is
use Rattle.sp_typed.specs.declared.words.TwoOp.{TwoOp}
use Rattle.sp_typed.specs.declared.words.TwoOp.TheVariants as two_is
use Rattle.sp_typed.specs.declared.words.ManyOp.{ManyOp}
use Rattle.sp_typed.specs.declared.words.ManyOp.TheVariants as many_is
use Rattle.sp_typed.specs.Exprs.{Expr, Exprs, leaf, one, two, three, many, none, more, is_minus, is_number, number_leaf}
use Rattle.sp_typed.specs.Nodes.{holds, all_hold}
use Rattle.sp_type_constants.specs.declared.outcome.Outcome.{Outcome}
use Rattle.sp_type_constants.specs.declared.outcome.Outcome.TheVariants.{Value, Error, Unknown}
use Rattle.sp_type_constants.specs.Known.{Known}
use Rattle.sp_type_constants.specs.Outcomes.{of_one, values, answered}
use Rattle.sp_type_constants.specs.Operations.{operated, operated_on, sized, cast_to, integer_type, negative_literal, indexed, member, or_error, or_unknown}
use Rattle.sp_type_constants.specs.Values.{leaf_number, number_in, one_value, two_value, binary_value, many_value, value_of, all_values}
use Rattle.sp_type_values.specs.Leaves.{Holds, HoldsAll}
use Rattle.sp_meaning_states.specs.States.{State, Result, got}
use Rattle.sp_meaning_states.specs.Values.{item_at, size_value}
use Rattle.sp_meaning_states.specs.Types.{number_value, plain_type}
use Rattle.sp_meaning.specs.Globals.{Globals}
use Rattle.sp_code_meaning.specs.Layouts.{Layout}
use Rattle.sp_meaning.specs.Operations.{negative, unless_literal, one_means, two_means, is_self}
use Rattle.sp_code_meaning.specs.Exprs.{many_means, expr_means, all_got, offset_local, receiver_means}
use Rattle.sp_meaning.specs.Operations as bodies
use Rattle.sp_law_constants.specs.Constants.{AlwaysGives, AlwaysFails, ConstantsGive, GivesAt, stands, ValuesAreMeant, ErrorsAreMeant}
use Rattle.sp_law_constants.proofs.Told.{Evaluation, Told, Tells, told_same, if_told, one_told, two_told}
use Rattle.sp_law_constants.proofs.Truths.{always, three_told, and_told, or_told}
use Rattle.sp_law_constants.proofs.Leaves.{negative_told, leaf_told}
use Rattle.sp_law_constants.proofs.Rows.{worst_of, RowTold, no_rows, row_more, tuple_told, vector_told, set_told, map_told}

-- what an operator answers, where it takes the values
if_taken : (b : Bool) (r : Answer Val PKind) → Tells (if b then answered r else Unknown) r
if_taken true (Ok v) = refl
if_taken true (Err kind) = (kind, refl)
if_taken false r = tt

not_taken : (b : Bool) (r s : Answer Val PKind) → b ≡ false → Tells (if b then answered r else Unknown) s
not_taken true r s e = cc
not_taken false r s e = tt

sized_tells : (v : Val) → Tells (sized v) (Ok (size_value v))
sized_tells v = by (has_size v)
  where
    by : (b : Bool) → Tells (if b then Value (uint W64 (size_of v)) else Unknown) (Ok (size_value v))
    by true = refl
    by false = tt

no_cast : (v : Val) → is_cast v plain_is.Void ≡ false
no_cast (uint w n) = refl
no_cast (int w n) = refl
no_cast (enum k n) = refl
no_cast _ = refl

cast_tells : (t : Ty) (v : Val) → Tells (cast_to t v) (cast v (plain_type t))
cast_tells (word (word_is.Uint w)) v = if_taken (is_cast v (integer_type (word (word_is.Uint w)))) (cast v (plain_type (word (word_is.Uint w))))
cast_tells (word (word_is.Int w)) v = if_taken (is_cast v (integer_type (word (word_is.Int w)))) (cast v (plain_type (word (word_is.Int w))))
cast_tells t v = not_taken (is_cast v plain_is.Void) (cast v plain_is.Void) (cast v (plain_type t)) (no_cast v)

-- items and members
or_error_tells : (error : PKind) (o : Option Val) → Tells (or_error o) (ok_or o error)
or_error_tells error (Some v) = refl
or_error_tells error None = (error, refl)

or_unknown_tells : (error : PKind) (o : Option Val) → Tells (or_unknown o) (ok_or o error)
or_unknown_tells error (Some v) = refl
or_unknown_tells error None = tt

indexed_tells : (a i : Val) → Tells (indexed a i) (item_at a i)
indexed_tells (vector vs) (uint w n) = or_error_tells Index (slice_get (list_of vs) n)
indexed_tells (map es) i = or_error_tells MissingKey (value_at (map es) i)
indexed_tells a i = tt

member_tells : (n : ℕ) (a : Val) → Tells (member n a) (item_at a (uint W64 n))
member_tells n (tuple vs) = or_unknown_tells Index (slice_get (list_of vs) n)
member_tells n a = tt

-- numbers behind a minus sign
leaf_negative : (op : OneOp) (l : LeafOp) (t : Ty) → ((is_minus op && number_leaf l) ≡ false) × (negative op l t ≡ None) ⊎ (((is_minus op && number_leaf l) ≡ true) × (negative op l t ≡ Some (number_value t true (leaf_number l))))
leaf_negative one_is.Negate (leaf_is.Number n) t = inr (refl, refl)
leaf_negative one_is.Negate _ t = inl (refl, refl)
leaf_negative _ l t = inl (refl, refl)

none_false : (b : Bool) → (b && false) ≡ false
none_false true = refl
none_false false = refl

is_negative : (h : One) (a : Expr) → ((is_minus h.op && is_number a) ≡ false) × (bodies.negative_literal h a ≡ None) ⊎ (((is_minus h.op && is_number a) ≡ true) × (bodies.negative_literal h a ≡ Some (number_value h.ty true (number_in a))))
is_negative h (leaf i) = leaf_negative h.op i.op h.ty
is_negative h (one i a) = inl (none_false (is_minus h.op), refl)
is_negative h (two i a b) = inl (none_false (is_minus h.op), refl)
is_negative h (three i a b c) = inl (none_false (is_minus h.op), refl)
is_negative h (many i es) = inl (none_false (is_minus h.op), refl)

module _ (U : Type 0) where
  -- both parts of what holds
  left : (a b : Bool) → U ⊎ ((a && b) ≡ true) → U ⊎ (a ≡ true)
  left a b (inl u) = inl u
  left a b (inr h) = inr (and_parts a b h).0

  right : (a b : Bool) → U ⊎ ((a && b) ≡ true) → U ⊎ (b ≡ true)
  right a b (inl u) = inl u
  right a b (inr h) = inr (and_parts a b h).1

  -- what has one part
  part_told : (op : OneOp) (t : Ty) (o : Outcome) (m : Evaluation) → Told U o m → Told U (one_value t op o) (λ st. got (λ v st. one_means op t v st) (m st))
  part_told one_is.Negate t o m h = one_told U (operated_on unary_is.Negate) (unary unary_is.Negate) o m (λ v. if_taken (takes_one unary_is.Negate v) (unary unary_is.Negate v)) h
  part_told one_is.Not t o m h = one_told U (operated_on unary_is.Not) (unary unary_is.Not) o m (λ v. if_taken (takes_one unary_is.Not v) (unary unary_is.Not v)) h
  part_told one_is.Complement t o m h = one_told U (operated_on unary_is.Complement) (unary unary_is.Complement) o m (λ v. if_taken (takes_one unary_is.Complement v) (unary unary_is.Complement v)) h
  part_told one_is.Size t o m h = one_told U sized (λ v. Ok (size_value v)) o m sized_tells h
  part_told (one_is.Cast written) t o m h = one_told U (cast_to t) (λ v. cast v (plain_type t)) o m (cast_tells t) h
  part_told one_is.Widen t o m h = one_told U (cast_to t) (λ v. cast v (plain_type t)) o m (cast_tells t) h
  part_told (one_is.Field n) t o m h = tt
  part_told (one_is.Variable n) t o m h = tt
  part_told (one_is.SinkOf n) t o m h = tt
  part_told (one_is.Bit n) t o m h = tt
  part_told (one_is.IsSet n) t o m h = tt
  part_told (one_is.NoMember at) t o m h = tt

  -- what has two parts
  operator_told : (op : BinaryOp) (o p : Outcome) (m n : Evaluation) → Told U o m → Told U p n → Told U (binary_value op o p) (two_means (two_is.Binary op) m n)
  operator_told op_is.And o p m n h i = and_told U o p m n h i
  operator_told op_is.Or o p m n h i = or_told U o p m n h i
  operator_told op o p m n h i = two_told U (operated op) (binary op) o p m n (λ x y. if_taken (takes op x y) (binary op x y)) h i

  parts_told : (op : TwoOp) (o p : Outcome) (m n : Evaluation) → Told U o m → Told U p n → Told U (two_value op o p) (two_means op m n)
  parts_told (two_is.Binary op) o p m n h i = operator_told op o p m n h i
  parts_told two_is.Index o p m n h i = two_told U indexed item_at o p m n indexed_tells h i
  parts_told (two_is.Item j) o p m n h i = if_told U p (of_one (member j) o) (two_means (two_is.Item j) m n) (λ _. one_told U (member j) (λ v. item_at v (uint W64 j)) o m (member_tells j) h)

  -- numbers with a minus sign, and all else
  signed_told : (t : Ty) (b : Bool) (s : Option Val) (n : ℕ) (o : Outcome) (m : Evaluation) → Told U o m → (b ≡ false) × (s ≡ None) ⊎ ((b ≡ true) × (s ≡ Some (number_value t true n)))
      → Told U (if b then negative_literal t n else o) (λ st. unless_literal s m st)
  signed_told t true (Some v) n o m h (inl e) = cc
  signed_told t true None n o m h (inl e) = cc
  signed_told t false None n o m h (inl e) = h
  signed_told t false (Some v) n o m h (inl e) = cc
  signed_told t true s n o m h (inr e) = told_same U (negative_literal t n) (always (number_value t true n)) (λ st. unless_literal s m st) (λ st. ap (λ s. unless_literal s m st) e.1) (negative_told U t n)
  signed_told t false s n o m h (inr e) = cc

  module _ (k : Known) (globals : Globals) (call : ℕ → List Val → State → Result) (layout : Layout) where
    abbrev Means : Expr → Evaluation
    Means e = expr_means globals call layout e

    -- a row, or what is no constant
    row_told : (op : ManyOp) (es : Exprs) → RowTold U globals call layout (worst_of (all_values k es)) (values (all_values k es)) es
        → Told U (many_value op (all_values k es)) (many_means globals call layout op (offset_local layout (is_self es)) (all_got globals call layout es []) (receiver_means globals call layout op es))
    row_told many_is.Tuple es h = tuple_told U globals call layout es (all_values k es) h
    row_told many_is.Vector es h = vector_told U globals call layout es (all_values k es) h
    row_told many_is.Set es h = set_told U globals call layout es (all_values k es) h
    row_told many_is.Map es h = map_told U globals call layout es (all_values k es) h
    row_told (many_is.Call f) es h = tt
    row_told (many_is.Convert f) es h = tt
    row_told (many_is.New of span) es h = tt
    row_told (many_is.Method m slot) es h = tt
    row_told (many_is.OfUnit m span) es h = tt
    row_told (many_is.OfSink m) es h = tt
    row_told many_is.NoCall es h = tt

    abbrev Given : Expr → Type 0
    Given e = Holds (GivesAt k globals) e

    mutual
      pub means_told : (e : Expr) → Given e → U ⊎ (holds (stands k) e ≡ true) → Told U (value_of k e) (Means e)
      means_told (leaf h) i s = leaf_told U k globals call layout h.ty h.op i s
      means_told (one h a) i s =
          signed_told h.ty (is_minus h.op && is_number a) (bodies.negative_literal h a) (number_in a) (one_value h.ty h.op (value_of k a)) (λ st. got (λ v st. one_means h.op h.ty v st) (Means a st))
          (part_told h.op h.ty (value_of k a) (Means a) (means_told a i (right true (holds (stands k) a) s))) (is_negative h a)
      means_told (two h a b) i s =
          let r = right true (holds (stands k) a && holds (stands k) b) s in
          parts_told h.op (value_of k a) (value_of k b) (Means a) (Means b) (means_told a i.0 (left (holds (stands k) a) (holds (stands k) b) r)) (means_told b i.1 (right (holds (stands k) a) (holds (stands k) b) r))
      means_told (three h c a b) i s =
          let r = right true (holds (stands k) c && (holds (stands k) a && holds (stands k) b)) s in
          let q = right (holds (stands k) c) (holds (stands k) a && holds (stands k) b) r in
          three_told U (value_of k c) (value_of k a) (value_of k b) (Means c) (Means a) (Means b)
          (means_told c i.0 (left (holds (stands k) c) (holds (stands k) a && holds (stands k) b) r))
          (means_told a i.1 (left (holds (stands k) a) (holds (stands k) b) q)) (means_told b i.2 (right (holds (stands k) a) (holds (stands k) b) q))
      means_told (many h es) i s = row_told h.op es (all_told es i (right true (all_hold (stands k) es) s))

      all_told : (es : Exprs) → HoldsAll (GivesAt k globals) es → U ⊎ (all_hold (stands k) es ≡ true) → RowTold U globals call layout (worst_of (all_values k es)) (values (all_values k es)) es
      all_told none i s = no_rows U globals call layout
      all_told (more e es) i s =
          row_more U globals call layout e es (value_of k e) (all_values k es) (values (all_values k es))
          (means_told e i.0 (left (holds (stands k) e) (all_hold (stands k) es) s)) (all_told es i.1 (right (holds (stands k) e) (all_hold (stands k) es) s))

module _ (k : Known) (globals : Globals) where
  -- values in any case, where that of each leaf is given; errors where all that is named has a value
  pub value_meant : (call : ℕ → List Val → State → Result) (layout : Layout) (e : Expr) (v : Val) → Holds (GivesAt k globals) e → value_of k e ≡ Value v → AlwaysGives v (expr_means globals call layout e)
  value_meant call layout e v i is =
      subst (λ o. Told (Unit {0}) o (expr_means globals call layout e)) is (means_told (Unit {0}) k globals call layout e i (inl tt))

  without_doubt : {A : Type 0} → ⊥ ⊎ A → A
  without_doubt (inl u) = absurd u
  without_doubt (inr a) = a

  error_meant : (call : ℕ → List Val → State → Result) (layout : Layout) (e : Expr) → Holds (GivesAt k globals) e → holds (stands k) e ≡ true → value_of k e ≡ Error
      → (kind : PKind) × AlwaysFails kind (expr_means globals call layout e)
  error_meant call layout e i s is =
      without_doubt (subst (λ o. Told ⊥ o (expr_means globals call layout e)) is (means_told ⊥ k globals call layout e i (inr s)))

  -- what is given of all constants and labels is given at each leaf
  module _ (agree : ConstantsGive k globals) where
    given_at : (op : LeafOp) → GivesAt k globals op
    given_at (leaf_is.Constant n) = λ v e. agree.constants n v e
    given_at (leaf_is.Label owner n) = λ v e. agree.labels owner n v e
    given_at _ = tt

    mutual
      given : (e : Expr) → Holds (GivesAt k globals) e
      given (leaf h) = given_at h.op
      given (one h a) = given a
      given (two h a b) = (given a, given b)
      given (three h c a b) = (given c, given a, given b)
      given (many h es) = all_given es

      all_given : (es : Exprs) → HoldsAll (GivesAt k globals) es
      all_given none = tt
      all_given (more e es) = (given e, all_given es)

pub values_are_meant : ValuesAreMeant
values_are_meant k globals agree call layout e v is = value_meant k globals call layout e v (given k globals agree e) is

pub errors_are_meant : ErrorsAreMeant
errors_are_meant k globals agree call layout e s is = error_meant k globals call layout e (given k globals agree e) s is
