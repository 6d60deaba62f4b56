-- Nodes with two parts or three: what they are as constants fits their types.
use Rattle.std.specs.Prelude.{ℕ, Bool, true, false, not, ◌&&◌, ◌||◌, if◌then◌else◌, ◌++◌, Option, Some, None}
use Rattle.std.proofs.Common.{◌≡◌, ◌⊎◌, refl, sym, ap, ◌∙◌, subst}
use Rattle.std.proofs.lemmas.Bool.{and_parts, and_from}
use Rattle.sp_base.specs.declared.places.Span.{Span}
use Rattle.sp_rules.specs.declared.fault.Fault.{Fault}
use Rattle.sp_words.specs.declared.operators.BinaryOp.{BinaryOp}
use Rattle.sp_words.specs.declared.operators.BinaryOp.TheVariants as op_is
use Rattle.sp_value.specs.Val.{Val, uint, tuple, vector, map}
use Rattle.sp_types.specs.declared.words.Word.{Word}
use Rattle.sp_types.specs.declared.words.Word.TheVariants as word_is
use Rattle.sp_types.specs.declared.words.Maker.TheVariants as maker_is
use Rattle.sp_types.specs.Types.{Ty, Tys, word, made, same}
use Rattle.sp_types.proofs.Same.{same_is}
use Rattle.sp_typed.specs.declared.words.OneOp.{OneOp}
use Rattle.sp_typed.specs.declared.words.TwoOp.{TwoOp}
use Rattle.sp_typed.specs.declared.words.TwoOp.TheVariants as two_is
use Rattle.sp_typed.specs.Exprs.{Expr, type_of}
use Rattle.sp_typed.specs.Nodes.{holds}
use Rattle.sp_type_operands.specs.declared.operators.OperatorSort.{OperatorSort}
use Rattle.sp_type_operands.specs.Operands.{unknown, boolean, is_boolean, is_unsigned, sort_of, stands_before, stands_behind, agree, result_type, key_of, first_type, second_type}
use Rattle.sp_type_operands.specs.Literals.{seen}
use Rattle.sp_type_context.specs.Contexts.{Around}
use Rattle.sp_type_context.specs.Typing.{two_at, to_target, agreeing, joined, is_membership, binary_at, chosen, choice_at, part_at, item_of, item_at, index_at}
use Rattle.sp_rule_bodies.specs.Known.{Known}
use Rattle.sp_rule_bodies.specs.Values.{knows}
use Rattle.sp_rule_bodies.specs.ExprTests.{is_past_key, disagree, index_tests}
use Rattle.sp_type_constants.specs.Known.{Known as Values}
use Rattle.sp_type_constants.specs.declared.outcome.Outcome.{Outcome}
use Rattle.sp_type_constants.specs.Outcomes.{of_one, of_two}
use Rattle.sp_type_constants.specs.Operations.{operated, indexed, member}
use Rattle.sp_type_constants.specs.Values.{binary_value, value_of as constant_of}
use Rattle.sp_law_lists.specs.known_types.Full.{is_right}
use Rattle.sp_law_lists.specs.known_types.Clear.{is_clear}
use Rattle.sp_law_lists.proofs.known_types_lemmas.Full.{never}
use Rattle.sp_law_lists.proofs.known_types_lemmas.Tests.{Fine, Clear, Value, first_fine, seen_is, knows_it, right_when, both_false, not_so}
use Rattle.sp_law_lists.specs.known_values.Values.{is_of, is_regex, fits}
use Rattle.sp_law_lists.specs.known_values.Operators.{is_evaluated}
use Rattle.sp_law_lists.proofs.known_values_lemmas.Operators.{told}
use Rattle.sp_law_lists.proofs.known_values_lemmas.Outcomes.{one_told, two_told, if_told, and_told, or_told, three_told}
use Rattle.sp_law_lists.proofs.known_values_lemmas.Containers.{item_told, member_told, value_told}
use Rattle.sp_law_lists.proofs.known_values_lemmas.Nodes.{Told, part, target_told, agreeing_told}

boolean_is : (t : Ty) → is_boolean t ≡ true → t ≡ boolean
boolean_is (word word_is.Bool) b = refl
boolean_is _ b = never b

-- `&&` and `||`
truths_told : (op : BinaryOp) (s t : Ty) (o p : Outcome) → is_evaluated op ≡ false → stands_before (sort_of op) s ≡ true → stands_behind (sort_of op) t ≡ true → fits s o ≡ true → fits t p ≡ true
    → fits (result_type (sort_of op) s t) (binary_value op o p) ≡ true
truths_told op_is.And s t o p i b c e f = and_told o p (subst (λ u. fits u o ≡ true) (boolean_is s b) e) (subst (λ u. fits u p ≡ true) (boolean_is t c) f)
truths_told op_is.Or s t o p i b c e f = or_told o p (subst (λ u. fits u o ≡ true) (boolean_is s b) e) (subst (λ u. fits u p ≡ true) (boolean_is t c) f)
truths_told _ s t o p i b c e f = never (sym i)

evaluated : (op : BinaryOp) (o p : Outcome) → is_evaluated op ≡ true → binary_value op o p ≡ of_two (operated op) o p
evaluated op_is.And o p e = never e
evaluated op_is.Or o p e = never e
evaluated _ o p e = refl

-- what is indexed
vector_on : (t : Ty) (ts : Tys) (a i : Val) → is_unsigned t ≡ true → is_of (made maker_is.Vector ts) a ≡ true → is_of t i ≡ true → fits (first_type ts) (indexed a i) ≡ true
vector_on (word (word_is.Uint x)) ts (vector vs) (uint w n) u e f = item_told (first_type ts) vs n e
vector_on (word (word_is.Uint x)) ts (vector vs) _ u e f = never f
vector_on (word (word_is.Uint x)) ts _ i u e f = never e
vector_on _ ts a i u e f = never u

map_on : (ts : Tys) (a i : Val) → is_of (made maker_is.Map ts) a ≡ true → fits (second_type ts) (indexed a i) ≡ true
map_on ts (map es) i e = value_told (first_type ts) (second_type ts) i es e
map_on ts _ i e = never e

member_on : (ts : Tys) (n : ℕ) (t : Ty) (a : Val) → part_at ts n ≡ Some t → is_of (made maker_is.Tuple ts) a ≡ true → fits t (member n a) ≡ true
member_on ts n t (tuple vs) p e = member_told ts vs n t p e
member_on ts n t _ p e = never e

or_false : (x y : Bool) → (x || y) ≡ false → y ≡ false
or_false true y e = never (sym e)
or_false false y e = e

module _ (only : OneOp → Bool) (k : Known) (m : ℕ) (v : Values) where
  two_clear : (span : Span) (t : Ty) (op : TwoOp) (a b : Expr) → Clear only k m (two_at span t op a b) → Clear only k m a × Clear only k m b
  two_clear span t op a b c =
      let p = (and_parts (is_clear only k m (two_at span t op a b)) (holds (is_clear only k m) a && holds (is_clear only k m) b) c).1 in
      and_parts (holds (is_clear only k m) a) (holds (is_clear only k m) b) p

  two_right : (span : Span) (t : Ty) (op : TwoOp) (a b : Expr) → holds is_right (two_at span t op a b) ≡ true → (holds is_right a ≡ true) × (holds is_right b ≡ true)
  two_right span t op a b r =
      let p = (and_parts (is_right (two_at span t op a b)) (holds is_right a && holds is_right b) r).1 in
      and_parts (holds is_right a) (holds is_right b) p

  -- of an unknown type no node is right
  never_unknown : {X : Type 0} (span : Span) (op : TwoOp) (a b : Expr) → holds is_right (two_at span unknown op a b) ≡ true → X
  never_unknown span op a b r = never (and_parts (is_right (two_at span unknown op a b)) (holds is_right a && holds is_right b) r).0

  agreed_when : (sort : OperatorSort) (x y : Expr) → Value x → Value y → stands_before sort (type_of x) ≡ true → stands_behind sort (type_of y) ≡ true → disagree sort x y ≡ false → agree sort (type_of x) (type_of y) ≡ true
  agreed_when sort x y p q before behind d =
      let before_it = stands_before sort (type_of x) in
      let behind_it = stands_behind sort (type_of y) in
      let it = agree sort (type_of x) (type_of y) in
      let both = or_false (is_past_key sort x) (knows x && knows y && before_it && behind_it && not it) d in
      not_so it (both_false (knows x && knows y && before_it && behind_it) (not it) both
      (and_from (knows x && knows y && before_it) behind_it (and_from (knows x && knows y) before_it (and_from (knows x) (knows y) (knows_it x p) (knows_it y q)) before) behind))

  joined_told : (span : Span) (op : BinaryOp) (a b : Expr) → Told only k m v a → Told only k m v b → Told only k m v (joined span op a b)
  joined_told span op a b g h c r p =
      let sort = sort_of op in
      let node = joined span op a b in
      let t = result_type sort (seen a) (seen b) in
      let f = first_fine only k m node c in
      let clear = two_clear span t (two_is.Binary op) a b c in
      let right = two_right span t (two_is.Binary op) a b r in
      let x = part only k m v a g clear.0 right.0 f.0 f.1.0 in
      let y = part only k m v b h clear.1 right.1 f.1.1.1.0 f.1.1.1.1.0 in
      let before = right_when a (stands_before sort (type_of a)) x.value f.1.1.0 in
      let behind = right_when b (stands_behind sort (type_of b)) y.value f.1.1.1.1.1.0 in
      let agreed = agreed_when sort a b x.value y.value before behind f.1.1.1.1.1.1.0 in
      let whole = binary_value op (constant_of v a) (constant_of v b) in
      let u = result_type sort (type_of a) (type_of b) in
      ap (λ s. fits (result_type sort s (seen b)) whole) (seen_is a x.value.within)
      ∙ ap (λ s. fits (result_type sort (type_of a) s) whole) (seen_is b y.value.within)
      ∙ by u x.fit y.fit x.plain y.plain before behind agreed (is_evaluated op) refl
    where
      by : (u : Ty) → fits (type_of a) (constant_of v a) ≡ true → fits (type_of b) (constant_of v b) ≡ true → is_regex (type_of a) ≡ false → is_regex (type_of b) ≡ false
          → stands_before (sort_of op) (type_of a) ≡ true → stands_behind (sort_of op) (type_of b) ≡ true → agree (sort_of op) (type_of a) (type_of b) ≡ true
          → (e : Bool) → is_evaluated op ≡ e → fits (result_type (sort_of op) (type_of a) (type_of b)) (binary_value op (constant_of v a) (constant_of v b)) ≡ true
      by u d e i j before behind agreed true is =
          ap (λ o. fits (result_type (sort_of op) (type_of a) (type_of b)) o) (evaluated op (constant_of v a) (constant_of v b) is)
          ∙ two_told (type_of a) (type_of b) (result_type (sort_of op) (type_of a) (type_of b)) (operated op) (constant_of v a) (constant_of v b) d e i j
          (λ x y p q. told op (type_of a) (type_of b) x y is before behind agreed p q)
      by u d e i j before behind agreed false is = truths_told op (type_of a) (type_of b) (constant_of v a) (constant_of v b) is before behind d e

  pub binary_told : (span : Span) (op : BinaryOp) (a b : Expr) → Told only k m v a → Told only k m v b → Told only k m v (binary_at span op a b)
  binary_told span op a b g h = by (is_membership (sort_of op))
    where
      by : (c : Bool) → Told only k m v (if c then joined span op (to_target (key_of (seen b)) a) b else joined span op (agreeing a b).0 (agreeing a b).1)
      by true = joined_told span op (to_target (key_of (seen b)) a) b (target_told only k m v (key_of (seen b)) a g) h
      by false =
          let p = agreeing_told only k m v a b g h in
          joined_told span op (agreeing a b).0 (agreeing a b).1 p.0 p.1

  -- `c ? a : b`
  chosen_told : (span : Span) (x a b : Expr) → Told only k m v x → Told only k m v a → Told only k m v b → Told only k m v (chosen span x a b)
  chosen_told span x a b e g h c r past =
      let node = chosen span x a b in
      let f = first_fine only k m node c in
      let p = and_parts (is_clear only k m node) (holds (is_clear only k m) x && (holds (is_clear only k m) a && holds (is_clear only k m) b)) c in
      let q = and_parts (holds (is_clear only k m) x) (holds (is_clear only k m) a && holds (is_clear only k m) b) p.1 in
      let s = and_parts (holds (is_clear only k m) a) (holds (is_clear only k m) b) q.1 in
      let rp = and_parts (is_right node) (holds is_right x && (holds is_right a && holds is_right b)) r in
      let rq = and_parts (holds is_right x) (holds is_right a && holds is_right b) rp.1 in
      let rs = and_parts (holds is_right a) (holds is_right b) rq.1 in
      let first = part only k m v x e q.0 rq.0 f.0 f.1.0 in
      let left = part only k m v a g s.0 rs.0 f.1.1.1.0 f.1.1.1.1.0 in
      let right = part only k m v b h s.1 rs.1 f.1.1.1.1.1.0 f.1.1.1.1.1.1.0 in
      let condition = boolean_is (type_of x) (right_when x (is_boolean (type_of x)) first.value f.1.1.0) in
      let alike = same (type_of a) (type_of b) in
      let agreed = not_so alike (both_false (knows a && knows b) (not alike) f.1.1.1.1.1.1.1.0 (and_from (knows a) (knows b) (knows_it a left.value) (knows_it b right.value))) in
      let one = same_is (type_of a) (type_of b) agreed in
      let whole = constant_of v node in
      ap (λ t. fits (if same t (seen b) then t else unknown) whole) (seen_is a left.value.within)
      ∙ ap (λ t. fits (if same (type_of a) t then type_of a else unknown) whole) (seen_is b right.value.within)
      ∙ ap (λ z. fits (if z then type_of a else unknown) whole) agreed
      ∙ three_told (type_of a) (constant_of v x) (constant_of v a) (constant_of v b)
      (subst (λ u. fits u (constant_of v x) ≡ true) condition first.fit) left.fit (subst (λ u. fits u (constant_of v b) ≡ true) (sym one) right.fit)

  pub choice_told : (span : Span) (x a b : Expr) → Told only k m v x → Told only k m v a → Told only k m v b → Told only k m v (choice_at span x a b)
  choice_told span x a b e g h =
      let p = agreeing_told only k m v a b g h in
      chosen_told span x (agreeing a b).0 (agreeing a b).1 e p.0 p.1

  -- what stands between brackets
  vector_told : (span : Span) (ts : Tys) (a i : Expr) → seen a ≡ made maker_is.Vector ts → Told only k m v a → Told only k m v i → Told only k m v (two_at span (first_type ts) two_is.Index a i)
  vector_told span ts a i is g h c r p =
      let node = two_at span (first_type ts) two_is.Index a i in
      let f = first_fine only k m node c in
      let clear = two_clear span (first_type ts) two_is.Index a i c in
      let right = two_right span (first_type ts) two_is.Index a i r in
      let x = part only k m v a g clear.0 right.0 f.0 f.1.0 in
      let y = part only k m v i h clear.1 right.1 f.1.1.0 f.1.1.1.0 in
      let of : type_of a ≡ made maker_is.Vector ts = sym (seen_is a x.value.within) ∙ is in
      let tests = subst (λ t. Fine (index_tests k m t a i)) of f.1.1.1.1 in
      let u = right_when i (is_unsigned (type_of i)) y.value tests.0 in
      two_told (type_of a) (type_of i) (first_type ts) indexed (constant_of v a) (constant_of v i) x.fit y.fit x.plain y.plain
      (λ b j d e. vector_on (type_of i) ts b j u (subst (λ t. is_of t b ≡ true) of d) e)

  map_told : (span : Span) (ts : Tys) (a i : Expr) → seen a ≡ made maker_is.Map ts → Told only k m v a → Told only k m v i → Told only k m v (two_at span (second_type ts) two_is.Index a i)
  map_told span ts a i is g h c r p =
      let node = two_at span (second_type ts) two_is.Index a i in
      let f = first_fine only k m node c in
      let clear = two_clear span (second_type ts) two_is.Index a i c in
      let right = two_right span (second_type ts) two_is.Index a i r in
      let x = part only k m v a g clear.0 right.0 f.0 f.1.0 in
      let y = part only k m v i h clear.1 right.1 f.1.1.0 f.1.1.1.0 in
      let of : type_of a ≡ made maker_is.Map ts = sym (seen_is a x.value.within) ∙ is in
      two_told (type_of a) (type_of i) (second_type ts) indexed (constant_of v a) (constant_of v i) x.fit y.fit x.plain y.plain
      (λ b j d e. map_on ts b j (subst (λ t. is_of t b ≡ true) of d))

  item_at_told : (span : Span) (ts : Tys) (o : Option Ty) (n : ℕ) (a i : Expr) → seen a ≡ made maker_is.Tuple ts → part_at ts n ≡ o → Told only k m v a → Told only k m v (item_of span o n a i)
  item_at_told span ts None n a i is at g c r p = never_unknown span two_is.Index a i r
  item_at_told span ts (Some t) n a i is at g c r p =
      let node = two_at span t (two_is.Item n) a i in
      let f = first_fine only k m node c in
      let clear = two_clear span t (two_is.Item n) a i c in
      let right = two_right span t (two_is.Item n) a i r in
      let x = part only k m v a g clear.0 right.0 f.0 f.1.0 in
      let of : type_of a ≡ made maker_is.Tuple ts = sym (seen_is a x.value.within) ∙ is in
      if_told t (constant_of v i) (of_one (member n) (constant_of v a))
      (one_told (type_of a) t (member n) (constant_of v a) x.fit x.plain (λ b d. member_on ts n t b at (subst (λ u. is_of u b ≡ true) of d)))

  items_told : (span : Span) (ts : Tys) (o : Option ℕ) (a i : Expr) → seen a ≡ made maker_is.Tuple ts → Told only k m v a → Told only k m v (item_at span ts o a i)
  items_told span ts None a i is g = λ c r p. never_unknown span two_is.Index a i r
  items_told span ts (Some n) a i is g = item_at_told span ts (part_at ts n) n a i is refl g

  pub index_told : (g : Around) (span : Span) (t : Ty) (a i : Expr) → seen a ≡ t → Told only k m v a → Told only k m v i → Told only k m v (index_at g span t a i)
  index_told g span (made maker_is.Vector ts) a i is ga hi = vector_told span ts a i is ga hi
  index_told g span (made maker_is.Map ts) a i is ga hi = map_told span ts a (to_target (first_type ts) i) is ga (target_told only k m v (first_type ts) i hi)
  index_told g span (made maker_is.Set ts) a i is ga hi = λ c r p. never_unknown span two_is.Index a (to_target (first_type ts) i) r
  index_told g span (made maker_is.Tuple ts) a i is ga hi = items_told span ts (g.item i) a i is ga
  index_told g span (word w) a i is ga hi = λ c r p. never_unknown span two_is.Index a i r
