-- Each node that typing puts round its parts: where no rule is broken, its type is full.
use Rattle.std.specs.Prelude.{ℕ, zero, suc, Bool, true, false, not, ◌&&◌, ◌||◌, if◌then◌else◌, List, ◌++◌, Option, Some, None, is_none}
use Rattle.std.proofs.Common.{◌≡◌, inl, inr, refl, sym, ap, ◌∙◌, subst}
use Rattle.std.proofs.lemmas.Bool.{and_parts, and_from, or_parts, or_from}
use Rattle.sp_base.specs.declared.places.Span.{Span}
use Rattle.sp_words.specs.declared.operators.BinaryOp.{BinaryOp}
use Rattle.sp_words.specs.declared.operators.UnaryOp.{UnaryOp}
use Rattle.sp_words.specs.declared.operators.UnaryOp.TheVariants as unary_is
use Rattle.sp_rules.specs.declared.fault.Fault.{Fault}
use Rattle.sp_types.specs.declared.words.Word.{Word}
use Rattle.sp_types.specs.declared.words.Maker.TheVariants as maker_is
use Rattle.sp_types.specs.Types.{Ty, word, made, same, is_key}
use Rattle.sp_types.specs.Types as types
use Rattle.sp_typed.specs.declared.words.OneOp.{OneOp}
use Rattle.sp_typed.specs.declared.words.OneOp.TheVariants as one_is
use Rattle.sp_typed.specs.declared.words.TwoOp.{TwoOp}
use Rattle.sp_typed.specs.declared.words.TwoOp.TheVariants as two_is
use Rattle.sp_typed.specs.declared.words.Written.{Written}
use Rattle.sp_typed.specs.Exprs.{Expr, type_of, is_number}
use Rattle.sp_typed.specs.Nodes.{holds, word_one}
use Rattle.sp_type_operands.specs.declared.operators.OperatorSort.{OperatorSort}
use Rattle.sp_type_context.specs.declared.context.Member.{Member}
use Rattle.sp_type_context.specs.Contexts.{Around}
use Rattle.sp_type_operands.specs.Operands.{unknown, boolean, is_signed, is_unsigned, is_integer, sort_of, stands_before, stands_behind, agree, result_type, key_of, first_type, second_type}
use Rattle.sp_type_operands.specs.Literals.{seen, is_past, signed_literal}
use Rattle.sp_type_context.specs.Typing.{one_at, two_at, to_target, agreeing, signed_type, unary_at, joined, is_membership, binary_at, choice_at, chosen, member_at, set_member_at, set_op, part_at, item_of, item_at, index_at, size_type}
use Rattle.sp_rule_bodies.specs.Known.{Known}
use Rattle.sp_rule_bodies.specs.Values.{knows, is_set_key, written_tests, value_tests}
use Rattle.sp_rule_bodies.specs.ExprTests.{negates, is_past_key, disagree, index_tests, is_constant, is_not_constant}
use Rattle.sp_law_lists.specs.known_types.Full.{have_values, is_full, are_full, is_right}
use Rattle.sp_law_lists.specs.known_types.Clear.{is_clear}
use Rattle.sp_law_lists.specs.known_types.Given.{is_member_op, is_member, is_decided}
use Rattle.sp_law_lists.proofs.known_types_lemmas.Full.{never, integer_full, result_full, vector_first, map_second}
use Rattle.sp_law_lists.proofs.known_types_lemmas.Tests.{Fine, Good, Clear, Holds, Value, fine_parts, first_fine, first_stands, object_of, value_of, full_of, seen_is, seen_full, knows_it, whole_of, right_when, both_false, not_so, not_misplaced}
use Rattle.sp_law_lists.proofs.known_types_lemmas.Kept.{target_holds, agreeing_holds}

-- a member of a tuple
part_full : (ts : types.Tys) (n : ℕ) (t : Ty) → part_at ts n ≡ Some t → are_full ts ≡ true → is_full t ≡ true
part_full types.none n t e f = absurd (let z : None ≡ Some t = e in let b : ⊥ = (cc) in b)
part_full (types.more u ts) zero t e f =
    let same : u ≡ t = (let s : Some u ≡ Some t = e in cc) in
    ap is_full (sym same) ∙ (and_parts (is_full u) (are_full ts) f).0
part_full (types.more u ts) (suc n) t e f = part_full ts n t e (and_parts (is_full u) (are_full ts) f).1

negated : (b : Bool) (t : Ty) → (b || is_signed t) ≡ true → is_full t ≡ true → is_full (if b then word signed_literal else (if is_signed t then t else unknown)) ≡ true
negated true t n f = refl
negated false t n f = rw (n) f

complemented : (t : Ty) → is_unsigned t ≡ true → is_full t ≡ true → is_full (if is_unsigned t then t else unknown) ≡ true
complemented t u f = rw (u) f

cast_full : (t : Ty) (b : Bool) → (not (is_integer t) && b) ≡ false → b ≡ true → is_full t ≡ true
cast_full t true w b = integer_full t (not_so (is_integer t) (both w))
  where
    both : (not (is_integer t) && true) ≡ false → not (is_integer t) ≡ false
    both e = by (not (is_integer t)) e
      where
        by : (c : Bool) → (c && true) ≡ false → c ≡ false
        by true e = e
        by false e = refl
cast_full t false w b = never b

pub chosen_full : (b : Bool) (t : Ty) → b ≡ true → is_full t ≡ true → is_full (if b then t else unknown) ≡ true
chosen_full true t e f = f
chosen_full false t e f = never e

module _ (only : OneOp → Bool) (k : Known) (m : ℕ) where
  -- what stands inside a node
  inside_one : (span : Span) (t : Ty) (op : OneOp) (e : Expr) → Clear only k m (one_at span t op e) → Clear only k m e
  inside_one span t op e c = (and_parts (is_clear only k m (one_at span t op e)) (holds (is_clear only k m) e) c).1

  -- a node with one part, which is a value
  one_good : (span : Span) (t : Ty) (op : OneOp) (e : Expr) → Value e → word_one op ≡ false → is_full t ≡ true → Good (one_at span t op e)
  one_good span t op e v w f = (whole_of e v, inl (and_from (not (word_one op)) (is_full t) (ap not w) f))

  two_good : (span : Span) (t : Ty) (op : TwoOp) (a b : Expr) → Value a → Value b → is_full t ≡ true → Good (two_at span t op a b)
  two_good span t op a b v w f = (and_from (holds is_right a) (holds is_right b) (whole_of a v) (whole_of b w), inl f)

  -- operators on one value
  pub unary_holds : (span : Span) (op : UnaryOp) (e : Expr) → Holds only k m e → Holds only k m (unary_at span op e)
  unary_holds span unary_is.Not e h c =
      let node = unary_at span unary_is.Not e in
      let f = first_fine only k m node c in
      let v = value_of only k m e h (inside_one span boolean one_is.Not e c) f.0 f.1.0 in
      one_good span boolean one_is.Not e v refl refl
  unary_holds span unary_is.Negate e h c =
      let t = signed_type unary_is.Negate e in
      let f = first_fine only k m (one_at span t one_is.Negate e) c in
      let v = value_of only k m e h (inside_one span t one_is.Negate e c) f.0 f.1.0 in
      let s = seen_is e v.within in
      let n = right_when e (negates e) v f.1.1.0 in
      one_good span t one_is.Negate e v refl (ap (λ u. is_full (if is_number e then word signed_literal else (if is_signed u then u else unknown))) s ∙ negated (is_number e) (type_of e) n (full_of e v))
  unary_holds span unary_is.Complement e h c =
      let t = signed_type unary_is.Complement e in
      let f = first_fine only k m (one_at span t one_is.Complement e) c in
      let v = value_of only k m e h (inside_one span t one_is.Complement e c) f.0 f.1.0 in
      let s = seen_is e v.within in
      let n = right_when e (is_unsigned (type_of e)) v f.1.1.0 in
      one_good span t one_is.Complement e v refl (ap (λ u. is_full (if is_unsigned u then u else unknown)) s ∙ complemented (type_of e) n (full_of e v))

  pub size_holds : (span : Span) (e : Expr) → Holds only k m e → Holds only k m (one_at span size_type one_is.Size e)
  size_holds span e h c =
      let f = first_fine only k m (one_at span size_type one_is.Size e) c in
      let v = value_of only k m e h (inside_one span size_type one_is.Size e c) f.0 f.1.0 in
      one_good span size_type one_is.Size e v refl refl

  pub cast_holds : (span : Span) (t : Ty) (w : Written) (e : Expr) → is_none w.unnamed ≡ true → Holds only k m e → Holds only k m (one_at span t (one_is.Cast w) e)
  cast_holds span t w e named h c =
      let node = one_at span t (one_is.Cast w) e in
      let p = fine_parts (written_tests m w) _ (first_fine only k m node c) in
      let f = p.1 in
      let v = value_of only k m e h (inside_one span t (one_is.Cast w) e c) f.1.0 f.1.1.0 in
      let right = and_from (is_none w.unnamed) (is_none w.misplaced) named (not_misplaced m w.misplaced p.0) in
      one_good span t (one_is.Cast w) e v refl (cast_full t (is_none w.unnamed && is_none w.misplaced) f.0 right)

  -- operators between two values
  joined_holds : (span : Span) (op : BinaryOp) (a b : Expr) → Holds only k m a → Holds only k m b → Holds only k m (joined span op a b)
  joined_holds span op a b g h c =
      let sort = sort_of op in
      let node = joined span op a b in
      let f = first_fine only k m node c in
      let p = and_parts (is_clear only k m node) (holds (is_clear only k m) a && holds (is_clear only k m) b) c in
      let q = and_parts (holds (is_clear only k m) a) (holds (is_clear only k m) b) p.1 in
      let v = value_of only k m a g q.0 f.0 f.1.0 in
      let w = value_of only k m b h q.1 f.1.1.1.0 f.1.1.1.1.0 in
      let before = right_when a (stands_before sort (type_of a)) v f.1.1.0 in
      let behind = right_when b (stands_behind sort (type_of b)) w f.1.1.1.1.1.0 in
      let agreed = agreed_when sort a b v w before behind f.1.1.1.1.1.1.0 in
      let full = result_full sort (type_of a) (type_of b) before behind agreed (full_of a v) in
      two_good span (result_type sort (seen a) (seen b)) (two_is.Binary op) a b v w
      (ap (λ s. is_full (result_type sort s (seen b))) (seen_is a v.within) ∙ ap (λ t. is_full (result_type sort (type_of a) t)) (seen_is b w.within) ∙ full)
    where
      or_false : (x y : Bool) → (x || y) ≡ false → y ≡ false
      or_false true y e = never (sym e)
      or_false false y e = e

      agreed_when : (sort : OperatorSort) (x y : Expr) → Value x → Value y → stands_before sort (type_of x) ≡ true → stands_behind sort (type_of y) ≡ true → disagree sort x y ≡ false → agree sort (type_of x) (type_of y) ≡ true
      agreed_when sort x y v w before behind d =
          let before_it = stands_before sort (type_of x) in
          let behind_it = stands_behind sort (type_of y) in
          let it = agree sort (type_of x) (type_of y) in
          let both = or_false (is_past_key sort x) (knows x && knows y && before_it && behind_it && not it) d in
          not_so it (both_false (knows x && knows y && before_it && behind_it) (not it) both
          (and_from (knows x && knows y && before_it) behind_it (and_from (knows x && knows y) before_it (and_from (knows x) (knows y) (knows_it x v) (knows_it y w)) before) behind))

  pub binary_holds : (span : Span) (op : BinaryOp) (a b : Expr) → Holds only k m a → Holds only k m b → Holds only k m (binary_at span op a b)
  binary_holds span op a b g h = by (is_membership (sort_of op))
    where
      by : (c : Bool) → Holds only k m (if c then joined span op (to_target (key_of (seen b)) a) b else joined span op (agreeing a b).0 (agreeing a b).1)
      by true = joined_holds span op (to_target (key_of (seen b)) a) b (target_holds only k m (key_of (seen b)) a g) h
      by false =
          let p = agreeing_holds only k m a b g h in
          joined_holds span op (agreeing a b).0 (agreeing a b).1 p.0 p.1

  -- `c ? a : b`
  chosen_holds : (span : Span) (x a b : Expr) → Holds only k m x → Holds only k m a → Holds only k m b → Holds only k m (chosen span x a b)
  chosen_holds span x a b e g h c =
      let node = chosen span x a b in
      let f = first_fine only k m node c in
      let p = and_parts (is_clear only k m node) (holds (is_clear only k m) x && (holds (is_clear only k m) a && holds (is_clear only k m) b)) c in
      let q = and_parts (holds (is_clear only k m) x) (holds (is_clear only k m) a && holds (is_clear only k m) b) p.1 in
      let r = and_parts (holds (is_clear only k m) a) (holds (is_clear only k m) b) q.1 in
      let u = value_of only k m x e q.0 f.0 f.1.0 in
      let v = value_of only k m a g r.0 f.1.1.1.0 f.1.1.1.1.0 in
      let w = value_of only k m b h r.1 f.1.1.1.1.1.0 f.1.1.1.1.1.1.0 in
      let alike = same (type_of a) (type_of b) in
      let agreed = not_so alike (both_false (knows a && knows b) (not alike) f.1.1.1.1.1.1.1.0 (and_from (knows a) (knows b) (knows_it a v) (knows_it b w))) in
      let full =
      ap (λ s. is_full (if same s (seen b) then s else unknown)) (seen_is a v.within)
      ∙ ap (λ s. is_full (if same (type_of a) s then type_of a else unknown)) (seen_is b w.within)
      ∙ chosen_full alike (type_of a) agreed (full_of a v) in (
        and_from (holds is_right x) (holds is_right a && holds is_right b) (whole_of x u) (and_from (holds is_right a) (holds is_right b) (whole_of a v) (whole_of b w)),
        inl full,
      )

  pub choice_holds : (span : Span) (x a b : Expr) → Holds only k m x → Holds only k m a → Holds only k m b → Holds only k m (choice_at span x a b)
  choice_holds span x a b e g h =
      let p = agreeing_holds only k m a b g h in
      chosen_holds span x (agreeing a b).0 (agreeing a b).1 e p.0 p.1

  -- no member is left
  pub no_member : {X : Type 0} (span : Span) (t : Ty) (name : Span) (e : Expr) → Holds only k m e → Clear only k m (one_at span t (one_is.NoMember name) e) → X
  no_member span t name e h c =
      let f = first_fine only k m (one_at span t (one_is.NoMember name) e) c in
      let v = object_of only k m e h (inside_one span t (one_is.NoMember name) e c) f.0 f.1.0 in
      never (sym f.1.1.0 ∙ knows_it e v)

  found_holds : (span : Span) (t : Ty) (op : OneOp) (e : Expr) → Holds only k m e → is_member_op op ≡ true → is_full t ≡ true → Holds only k m (one_at span t op e)
  found_holds span t (one_is.Field n) e h i f c =
      let tests = first_fine only k m (one_at span t (one_is.Field n) e) c in
      one_good span t (one_is.Field n) e (value_of only k m e h (inside_one span t (one_is.Field n) e c) tests.0 tests.1.0) refl f
  found_holds span t (one_is.Variable n) e h i f c =
      let tests = first_fine only k m (one_at span t (one_is.Variable n) e) c in
      one_good span t (one_is.Variable n) e (value_of only k m e h (inside_one span t (one_is.Variable n) e c) tests.0 tests.1.0) refl f
  found_holds span t (one_is.SinkOf n) e h i f c =
      let tests = first_fine only k m (one_at span t (one_is.SinkOf n) e) c in
      one_good span t (one_is.SinkOf n) e (value_of only k m e h (inside_one span t (one_is.SinkOf n) e c) tests.0 tests.1.0) refl f
  found_holds span t (one_is.Bit n) e h i f c =
      let tests = first_fine only k m (one_at span t (one_is.Bit n) e) c in
      one_good span t (one_is.Bit n) e (value_of only k m e h (inside_one span t (one_is.Bit n) e c) tests.0 tests.1.0) refl f
  found_holds span t _ e h i f c = never i

  pub member_holds : (span name : Span) (o : Option Member) (e : Expr) → ((x : Member) → o ≡ Some x → only x.op ≡ true → is_member x ≡ true) → Holds only k m e → Holds only k m (member_at span name o e)
  member_holds span name None e is h c = no_member span unknown name e h c
  member_holds span name (Some x) e is h c =
      let p = and_parts (is_member_op x.op) (is_full x.ty) (is x refl (first_stands only k m (one_at span x.ty x.op e) c)) in
      found_holds span x.ty x.op e h p.0 p.1 c

  set_holds : (span name : Span) (op : OneOp) (e : Expr) → Holds only k m e → Holds only k m (one_at span boolean (set_op op name) e)
  set_holds span name (one_is.Field n) e h c =
      let tests = first_fine only k m (one_at span boolean (one_is.IsSet n) e) c in
      one_good span boolean (one_is.IsSet n) e (value_of only k m e h (inside_one span boolean (one_is.IsSet n) e c) tests.0 tests.1.0) refl refl
  set_holds span name _ e h c = no_member span boolean name e h c

  pub set_member_holds : (span name : Span) (o : Option Member) (e : Expr) → Holds only k m e → Holds only k m (set_member_at span name o e)
  set_member_holds span name None e h = no_member span boolean name e h
  set_member_holds span name (Some x) e h = set_holds span name x.op e h

  -- what stands between brackets, and what is indexed
  record Indexed (a i : Expr) : Type 0 where
    object : Value a
    index : Value i

  two_values : (a i : Expr) (rest : List (Bool × Fault)) → Holds only k m a → Holds only k m i → Clear only k m a → Clear only k m i → Fine (value_tests m a ++ (value_tests m i ++ rest)) → Indexed a i × Fine rest
  two_values a i rest g h b c f =
      (record { object = value_of only k m a g b f.0 f.1.0; index = value_of only k m i h c f.1.1.0 f.1.1.1.0 }, f.1.1.1.1)

  indexed_values : (span : Span) (t : Ty) (a i : Expr) → Holds only k m a → Holds only k m i → Clear only k m (two_at span t two_is.Index a i) → Indexed a i × Fine (index_tests k m (type_of a) a i)
  indexed_values span t a i g h c =
      let node = two_at span t two_is.Index a i in
      let p = and_parts (is_clear only k m node) (holds (is_clear only k m) a && holds (is_clear only k m) i) c in
      let q = and_parts (holds (is_clear only k m) a) (holds (is_clear only k m) i) p.1 in
      two_values a i (index_tests k m (type_of a) a i) g h q.0 q.1 (first_fine only k m node c)

  index_good : (span : Span) (t : Ty) (a i : Expr) → Holds only k m a → Holds only k m i → (Value a → is_full t ≡ true) → Holds only k m (two_at span t two_is.Index a i)
  index_good span t a i g h f c =
      let v = (indexed_values span t a i g h c).0 in
      two_good span t two_is.Index a i v.object v.index (f v.object)

  -- whether an index is constant is known where no rule is broken in it
  abbrev pub Decided : Expr → Type 0
  Decided i = Clear only k m i → holds is_right i ≡ true → is_past i ≡ false → is_unsigned (type_of i) ≡ true → is_decided (k.constancy i) ≡ true

  -- an index of a tuple names a member
  no_item : {X : Type 0} (span : Span) (ts : types.Tys) (a i : Expr) → Decided i → seen a ≡ made maker_is.Tuple ts → Holds only k m a → Holds only k m i → Clear only k m (two_at span unknown two_is.Index a i) → X
  no_item span ts a i settled is ga hi c =
      let node = two_at span unknown two_is.Index a i in
      let inner = (and_parts (holds (is_clear only k m) a) (holds (is_clear only k m) i) (and_parts (is_clear only k m node) (holds (is_clear only k m) a && holds (is_clear only k m) i) c).1).1 in
      let v = indexed_values span unknown a i ga hi c in
      let of : type_of a ≡ made maker_is.Tuple ts = sym (seen_is a v.0.object.within) ∙ is in
      let f = subst (λ t. Fine (index_tests k m t a i)) of v.1 in
      let know = knows_it i v.0.index in
      let past = both_false (knows i) (not (is_unsigned (type_of i)) || is_constant (k.constancy i)) f.0 know in
      let parts = or_parts (not (is_unsigned (type_of i))) (is_constant (k.constancy i)) past in
      let decided = settled inner (whole_of i v.0.index) v.0.index.within (not_so (is_unsigned (type_of i)) parts.0) in
      never (sym (or_from (is_constant (k.constancy i)) (is_not_constant (k.constancy i)) parts.1 f.1.0) ∙ decided)

  item_holds : (span : Span) (ts : types.Tys) (o : Option Ty) (n : ℕ) (a i : Expr) → Decided i → seen a ≡ made maker_is.Tuple ts → part_at ts n ≡ o → Holds only k m a → Holds only k m i → Holds only k m (item_of span o n a i)
  item_holds span ts None n a i settled is at ga hi c = no_item span ts a i settled is ga hi c
  item_holds span ts (Some t) n a i settled is at ga hi c =
      let node = two_at span t (two_is.Item n) a i in
      let f = first_fine only k m node c in
      let p = and_parts (is_clear only k m node) (holds (is_clear only k m) a && holds (is_clear only k m) i) c in
      let q = and_parts (holds (is_clear only k m) a) (holds (is_clear only k m) i) p.1 in
      let v = value_of only k m a ga q.0 f.0 f.1.0 in
      let w = value_of only k m i hi q.1 f.1.1.0 f.1.1.1.0 in
      let full : is_full (made maker_is.Tuple ts) ≡ true = sym (ap is_full is) ∙ seen_full a v in
      two_good span t (two_is.Item n) a i v w (part_full ts n t at (and_parts (have_values ts) (are_full ts) full).1)

  items_hold : (span : Span) (ts : types.Tys) (o : Option ℕ) (a i : Expr) → Decided i → seen a ≡ made maker_is.Tuple ts → Holds only k m a → Holds only k m i → Holds only k m (item_at span ts o a i)
  items_hold span ts None a i settled is ga hi = no_item span ts a i settled is ga hi
  items_hold span ts (Some n) a i settled is ga hi = item_holds span ts (part_at ts n) n a i settled is refl ga hi

  -- the key of a set
  key_good : (span : Span) (ts : types.Tys) (a i : Expr) → seen a ≡ made maker_is.Set ts → Holds only k m a → Holds only k m i → Holds only k m (two_at span unknown two_is.Index a i)
  key_good span ts a i is ga hi c =
      let v = (indexed_values span unknown a i ga hi c).0 in
      let of : type_of a ≡ made maker_is.Set ts = sym (seen_is a v.object.within) ∙ is in (
        and_from (holds is_right a) (holds is_right i) (whole_of a v.object) (whole_of i v.index),
        inr (ap (λ t. is_set_key two_is.Index t && true) of),
      )

  -- what is no container
  no_container : {X : Type 0} (span : Span) (w : Word) (a i : Expr) → seen a ≡ word w → Holds only k m a → Holds only k m i → Clear only k m (two_at span unknown two_is.Index a i) → X
  no_container span w a i is ga hi c =
      let v = indexed_values span unknown a i ga hi c in
      let of : type_of a ≡ word w = sym (seen_is a v.0.object.within) ∙ is in
      let f = subst (λ t. Fine (index_tests k m t a i)) of v.1 in
      never (sym (both_false (knows a) true f.0 (knows_it a v.0.object)))

  pub index_holds : (g : Around) (span : Span) (t : Ty) (a i : Expr) → Decided i → seen a ≡ t → Holds only k m a → Holds only k m i → Holds only k m (index_at g span t a i)
  index_holds g span (made maker_is.Vector ts) a i settled is ga hi =
      index_good span (first_type ts) a i ga hi (λ v. vector_first ts (sym (ap is_full is) ∙ seen_full a v))
  index_holds g span (made maker_is.Map ts) a i settled is ga hi =
      index_good span (second_type ts) a (to_target (first_type ts) i) ga (target_holds only k m (first_type ts) i hi) (λ v. map_second ts (sym (ap is_full is) ∙ seen_full a v))
  index_holds g span (made maker_is.Set ts) a i settled is ga hi = key_good span ts a (to_target (first_type ts) i) is ga (target_holds only k m (first_type ts) i hi)
  index_holds g span (made maker_is.Tuple ts) a i settled is ga hi = items_hold span ts (g.item i) a i settled is ga hi
  index_holds g span (word w) a i settled is ga hi = no_container span w a i is ga hi
