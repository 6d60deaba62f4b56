-- Each node that typing puts round its parts: what it is as a constant fits its type, where its parts do and no rule is broken.
use Rattle.std.specs.Prelude.{ℕ, Bool, true, false, not, ◌&&◌, ◌||◌, if◌then◌else◌, List, [], ◌∷◌, ◌++◌, Option, Some, None}
use Rattle.std.proofs.Common.{◌≡◌, inl, inr, refl, sym, ap, ◌∙◌, subst}
use Rattle.std.proofs.lemmas.Bool.{and_parts, and_from}
use Rattle.sp_base.specs.declared.places.Span.{Span}
use Rattle.sp_rules.specs.declared.fault.Fault.{Fault}
use Rattle.sp_words.specs.declared.operators.BinaryOp.{BinaryOp}
use Rattle.sp_words.specs.declared.operators.BinaryOp.TheVariants as op_is
use Rattle.sp_words.specs.declared.operators.UnaryOp.{UnaryOp}
use Rattle.sp_words.specs.declared.operators.UnaryOp.TheVariants as unary_is
use Rattle.sp_numbers.specs.declared.width.Width.{Width}
use Rattle.sp_numbers.specs.Numbers.{unsigned_or, signed_or}
use Rattle.sp_base.specs.declared.kinds.PKind.TheVariants.{Overflow, CastRange}
use Rattle.std.specs.Prelude.{ℤ, pos, neg_ℤ}
use Rattle.sp_value.specs.Val.{Val, bool, uint, int, bytes, str, enum, tuple, vector, set, map}
use Rattle.sp_types.specs.declared.words.Word.{Word}
use Rattle.sp_types.specs.declared.words.Word.TheVariants as word_is
use Rattle.sp_types.specs.declared.words.Maker.TheVariants as maker_is
use Rattle.sp_types.specs.Types.{Ty, Tys, word, made, same, widens}
use Rattle.sp_typed.specs.declared.words.OneOp.{OneOp}
use Rattle.sp_typed.specs.declared.words.OneOp.TheVariants as one_is
use Rattle.sp_typed.specs.declared.words.TwoOp.{TwoOp}
use Rattle.sp_typed.specs.declared.words.TwoOp.TheVariants as two_is
use Rattle.sp_typed.specs.declared.words.Written.{Written}
use Rattle.sp_typed.specs.Exprs.{Expr, leaf, one, two, three, many, type_of, span_of, is_number, is_literal, retyped, settled}
use Rattle.sp_typed.specs.Nodes.{holds, is_word}
use Rattle.sp_type_operands.specs.Operands.{unknown, boolean, is_boolean, is_signed, is_unsigned, is_integer, is_enum, has_size, sort_of, stands_before, stands_behind, agree, result_type, unary_type, can_cast, first_type, is_valueless}
use Rattle.sp_type_operands.specs.Literals.{seen, is_past, is_negative, can_take, taken, signed_literal, literal_word}
use Rattle.sp_type_context.specs.Typing.{one_at, two_at, widened, to_target, signed_type, unary_at, size_type, cast_type, alike, agreeing}
use Rattle.sp_rule_bodies.specs.Known.{Known}
use Rattle.sp_rule_bodies.specs.Values.{is_no_value, written_tests}
use Rattle.sp_rule_bodies.specs.ExprTests.{negates}
use Rattle.sp_type_constants.specs.Known.{Known as Values}
use Rattle.sp_type_constants.specs.declared.outcome.Outcome.{Outcome}
use Rattle.sp_type_constants.specs.Operations.{operated_on, sized, cast_to, negative_literal}
use Rattle.sp_type_constants.specs.Outcomes.{of_one}
use Rattle.sp_type_constants.specs.Values.{number_in, value_of as constant_of}
use Rattle.sp_law_lists.specs.known_types.Full.{is_full, is_right}
use Rattle.sp_law_lists.specs.known_types.Clear.{is_clear}
use Rattle.sp_law_lists.proofs.known_types_lemmas.Full.{never}
use Rattle.sp_law_lists.proofs.known_types_lemmas.Tests.{Clear, Value, first_fine, fine_parts, valued_by, value_of, at_first, inside, seen_is, right_when}
use Rattle.sp_law_lists.specs.known_values.Values.{is_of, is_regex, fits}
use Rattle.sp_law_lists.proofs.known_values_lemmas.Shapes.{number_told}
use Rattle.sp_law_lists.proofs.known_values_lemmas.Outcomes.{one_told}
use Rattle.sp_law_lists.proofs.known_values_lemmas.Literals.{literal_told}

valued_is_plain : (t : Ty) → is_valueless t ≡ false → is_regex t ≡ false
valued_is_plain (word word_is.Regex) e = never (sym e)
valued_is_plain (word _) e = refl
valued_is_plain (made m ts) e = refl

-- operators on one value
not_on : (t : Ty) (a : Val) → is_boolean t ≡ true → is_of t a ≡ true → fits boolean (operated_on unary_is.Not a) ≡ true
not_on (word word_is.Bool) (bool x) b e = refl
not_on (word word_is.Bool) _ b e = never e
not_on _ a b e = never b

complement_on : (t : Ty) (a : Val) → is_unsigned t ≡ true → is_of t a ≡ true → fits (unary_type unary_is.Complement t) (operated_on unary_is.Complement a) ≡ true
complement_on (word (word_is.Uint x)) (uint w n) b e = refl
complement_on (word (word_is.Uint x)) _ b e = never e
complement_on _ a b e = never b

negate_on : (t : Ty) (a : Val) → is_signed t ≡ true → is_of t a ≡ true → fits (unary_type unary_is.Negate t) (operated_on unary_is.Negate a) ≡ true
negate_on (word (word_is.Int x)) (int w n) b e = number_told (word (word_is.Int x)) (int w) (signed_or Overflow w (neg_ℤ n)) (λ k. refl)
negate_on (word (word_is.Int x)) _ b e = never e
negate_on _ a b e = never b

sized_on : (t : Ty) (a : Val) → has_size t ≡ true → is_of t a ≡ true → fits size_type (sized a) ≡ true
sized_on (word word_is.Bytes) (bytes b) h e = refl
sized_on (word word_is.Bytes) _ h e = never e
sized_on (word word_is.String) (str b) h e = refl
sized_on (word word_is.String) _ h e = never e
sized_on (word _) a h e = never h
sized_on (made maker_is.Vector ts) (vector vs) h e = refl
sized_on (made maker_is.Vector ts) _ h e = never e
sized_on (made maker_is.Set ts) (set vs) h e = refl
sized_on (made maker_is.Set ts) _ h e = never e
sized_on (made maker_is.Map ts) (map es) h e = refl
sized_on (made maker_is.Map ts) _ h e = never e
sized_on (made _ ts) a h e = never h

-- casts go from integers and enums to integers, and from enums to unsigned ones
cast_on : (s t : Ty) (a : Val) → can_cast s t ≡ true → is_of s a ≡ true → fits t (cast_to t a) ≡ true
cast_on (word (word_is.Uint x)) (word (word_is.Uint y)) (uint w n) c e = number_told (word (word_is.Uint y)) (uint y) (unsigned_or CastRange y (pos n)) (λ k. refl)
cast_on (word (word_is.Uint x)) (word (word_is.Int y)) (uint w n) c e = number_told (word (word_is.Int y)) (int y) (signed_or CastRange y (pos n)) (λ k. refl)
cast_on (word (word_is.Uint x)) (word (word_is.Uint y)) _ c e = never e
cast_on (word (word_is.Uint x)) (word (word_is.Int y)) _ c e = never e
cast_on (word (word_is.Uint x)) _ a c e = never c
cast_on (word (word_is.Int x)) (word (word_is.Uint y)) (int w n) c e = number_told (word (word_is.Uint y)) (uint y) (unsigned_or CastRange y n) (λ k. refl)
cast_on (word (word_is.Int x)) (word (word_is.Int y)) (int w n) c e = number_told (word (word_is.Int y)) (int y) (signed_or CastRange y n) (λ k. refl)
cast_on (word (word_is.Int x)) (word (word_is.Uint y)) _ c e = never e
cast_on (word (word_is.Int x)) (word (word_is.Int y)) _ c e = never e
cast_on (word (word_is.Int x)) _ a c e = never c
cast_on (word (word_is.Enum x)) (word (word_is.Uint y)) (enum k n) c e = number_told (word (word_is.Uint y)) (uint y) (unsigned_or CastRange y (pos n)) (λ j. refl)
cast_on (word (word_is.Enum x)) (word (word_is.Uint y)) _ c e = never e
cast_on (word (word_is.Enum x)) _ a c e = never c
cast_on _ t a c e = never c

widen_casts : (s t : Ty) → widens s t ≡ true → can_cast s t ≡ true
widen_casts (word (word_is.Uint x)) (word (word_is.Uint y)) w = refl
widen_casts (word (word_is.Uint x)) _ w = never w
widen_casts (word (word_is.Int x)) (word (word_is.Int y)) w = refl
widen_casts (word (word_is.Int x)) _ w = never w
widen_casts _ (word (word_is.Uint y)) w = never w
widen_casts _ (word (word_is.Int y)) w = never w
widen_casts _ (word _) w = never w
widen_casts _ (made m ts) w = never w

-- what goes to a wider type is an integer
widen_is_plain : (s t : Ty) → widens s t ≡ true → is_regex s ≡ false
widen_is_plain (word word_is.Regex) (word (word_is.Uint y)) w = never w
widen_is_plain (word word_is.Regex) (word (word_is.Int y)) w = never w
widen_is_plain (word word_is.Regex) (word _) w = never w
widen_is_plain (word word_is.Regex) (made m ts) w = never w
widen_is_plain (word _) t w = refl
widen_is_plain (made m ts) t w = refl

unknown_widens : {X : Type 0} (t : Ty) → widens unknown t ≡ true → X
unknown_widens (word (word_is.Uint y)) w = never w
unknown_widens (word (word_is.Int y)) w = never w
unknown_widens (word _) w = never w
unknown_widens (made m ts) w = never w

not_past : (e : Expr) (t : Ty) → widens (seen e) t ≡ true → is_past e ≡ false
not_past e t w = by (is_past e) w
  where
    by : (b : Bool) → widens (if b then unknown else type_of e) t ≡ true → b ≡ false
    by true w = unknown_widens t w
    by false w = refl

casts : (s t : Ty) → (is_integer s || is_enum s) ≡ true → (is_enum s && is_signed t) ≡ false → is_integer t ≡ true → can_cast s t ≡ true
casts (word (word_is.Uint x)) (word (word_is.Uint y)) h e i = refl
casts (word (word_is.Uint x)) (word (word_is.Int y)) h e i = refl
casts (word (word_is.Uint x)) _ h e i = never i
casts (word (word_is.Int x)) (word (word_is.Uint y)) h e i = refl
casts (word (word_is.Int x)) (word (word_is.Int y)) h e i = refl
casts (word (word_is.Int x)) _ h e i = never i
casts (word (word_is.Enum n)) (word (word_is.Uint y)) h e i = refl
casts (word (word_is.Enum n)) (word (word_is.Int y)) h e i = never (sym e)
casts (word (word_is.Enum n)) _ h e i = never i
casts _ t h e i = never h

cast_integer : (t : Ty) → is_full (cast_type t) ≡ true → is_integer (cast_type t) ≡ true
cast_integer t f = by (is_integer t) refl f
  where
    by : (b : Bool) → is_integer t ≡ b → is_full (if b then t else unknown) ≡ true → is_integer (if b then t else unknown) ≡ true
    by true e f = e
    by false e f = never f

or_false : (a b : Bool) → (a || b) ≡ true → a ≡ false → b ≡ true
or_false true b e f = never (sym f)
or_false false b e f = e

by_bool : {X : Type 0} (P : X → Type 0) (b : Bool) (x y : X) → (b ≡ true → P x) → P y → P (if b then x else y)
by_bool P true x y f h = f refl
by_bool P false x y f h = h

retyped_type : (t : Ty) (e : Expr) → type_of (retyped t e) ≡ t
retyped_type t (leaf h) = refl
retyped_type t (one h a) = refl
retyped_type t (two h a b) = refl
retyped_type t (three h a b c) = refl
retyped_type t (many h es) = refl

literal_taken : (b : Bool) → can_take (literal_word b) ≡ true
literal_taken true = refl
literal_taken false = refl

-- the type of an expression behind a minus sign, by whether it is a number
abbrev negated : Expr → Bool → Ty
negated e b = if b then word signed_literal else unary_type unary_is.Negate (seen e)

module _ (only : OneOp → Bool) (k : Known) (m : ℕ) (v : Values) where
  -- what an expression is as a constant fits its type, where no rule is broken in it, each node is a value of a full type, and it is no literal
  -- past its type
  abbrev pub Told : Expr → Type 0
  Told e = Clear only k m e → holds is_right e ≡ true → is_past e ≡ false → fits (type_of e) (constant_of v e) ≡ true

  -- a part that stands as a value
  pub record Part (e : Expr) : Type 0 where
    pub value : Value e
    pub fit : fits (type_of e) (constant_of v e) ≡ true
    pub plain : is_regex (type_of e) ≡ false

  pub part : (e : Expr) → Told e → Clear only k m e → holds is_right e ≡ true → is_no_value e ≡ false → is_past e ≡ false → Part e
  part e t c r n p =
      let is : Value e = value_of only k m e (λ d. (inside is_right e r, inl (at_first is_right e r))) c n p in
      record { value = is; fit = t c r p; plain = valued_is_plain (type_of e) (valued_by e n) }

  one_clear : (span : Span) (t : Ty) (op : OneOp) (e : Expr) → Clear only k m (one_at span t op e) → Clear only k m e
  one_clear span t op e c = (and_parts (is_clear only k m (one_at span t op e)) (holds (is_clear only k m) e) c).1

  one_right : (span : Span) (t : Ty) (op : OneOp) (e : Expr) → holds is_right (one_at span t op e) ≡ true → holds is_right e ≡ true
  one_right span t op e r = (and_parts (is_right (one_at span t op e)) (holds is_right e) r).1

  pub not_told : (span : Span) (e : Expr) → Told e → Told (unary_at span unary_is.Not e)
  not_told span e t c r p =
      let f = first_fine only k m (unary_at span unary_is.Not e) c in
      let q = part e t (one_clear span boolean one_is.Not e c) (one_right span boolean one_is.Not e r) f.0 f.1.0 in
      let b = right_when e (is_boolean (type_of e)) q.value f.1.1.0 in
      one_told (type_of e) boolean (operated_on unary_is.Not) (constant_of v e) q.fit q.plain (λ a i. not_on (type_of e) a b i)

  pub complement_told : (span : Span) (e : Expr) → Told e → Told (unary_at span unary_is.Complement e)
  complement_told span e t c r p =
      let u = signed_type unary_is.Complement e in
      let f = first_fine only k m (one_at span u one_is.Complement e) c in
      let q = part e t (one_clear span u one_is.Complement e c) (one_right span u one_is.Complement e r) f.0 f.1.0 in
      let b = right_when e (is_unsigned (type_of e)) q.value f.1.1.0 in
      ap (λ s. fits (unary_type unary_is.Complement s) (constant_of v (one_at span u one_is.Complement e))) (seen_is e q.value.within)
      ∙ one_told (type_of e) (unary_type unary_is.Complement (type_of e)) (operated_on unary_is.Complement) (constant_of v e) q.fit q.plain (λ a i. complement_on (type_of e) a b i)

  pub size_told : (span : Span) (e : Expr) → Told e → Told (one_at span size_type one_is.Size e)
  size_told span e t c r p =
      let f = first_fine only k m (one_at span size_type one_is.Size e) c in
      let q = part e t (one_clear span size_type one_is.Size e c) (one_right span size_type one_is.Size e r) f.0 f.1.0 in
      let b = right_when e (has_size (type_of e)) q.value f.1.1.0 in
      one_told (type_of e) size_type sized (constant_of v e) q.fit q.plain (λ a i. sized_on (type_of e) a b i)

  pub cast_told : (span : Span) (t : Ty) (w : Written) (e : Expr) → Told e → Told (one_at span (cast_type t) (one_is.Cast w) e)
  cast_told span t w e h c r p =
      let u = cast_type t in
      let node = one_at span u (one_is.Cast w) e in
      let f = (fine_parts (written_tests m w) _ (first_fine only k m node c)).1 in
      let q = part e h (one_clear span u (one_is.Cast w) e c) (one_right span u (one_is.Cast w) e r) f.1.0 f.1.1.0 in
      let from = right_when e (is_integer (type_of e) || is_enum (type_of e)) q.value f.1.1.1.0 in
      let full = (and_parts (not (is_word node)) (is_full u) (at_first is_right node r)).1 in
      one_told (type_of e) u (cast_to u) (constant_of v e) q.fit q.plain (λ a i. cast_on (type_of e) u a (casts (type_of e) u from f.1.1.1.1.0 (cast_integer t full)) i)

  -- a minus sign before a number makes a literal
  pub negate_told : (span : Span) (e : Expr) → Told e → Told (unary_at span unary_is.Negate e)
  negate_told span e t c r p = by (is_number e) refl
    where
      by : (b : Bool) → is_number e ≡ b → fits (type_of (unary_at span unary_is.Negate e)) (constant_of v (unary_at span unary_is.Negate e)) ≡ true
      by true l =
          subst (λ u. is_past (one_at span u one_is.Negate e) ≡ false → fits u (constant_of v (one_at span u one_is.Negate e)) ≡ true)
          (sym (ap (negated e) l)) (λ q. literal_told v signed_literal (one_at span unknown one_is.Negate e) refl l q) p
      by false l =
          let u = signed_type unary_is.Negate e in
          let f = first_fine only k m (one_at span u one_is.Negate e) c in
          let q = part e t (one_clear span u one_is.Negate e c) (one_right span u one_is.Negate e r) f.0 f.1.0 in
          let s = or_false (is_number e) (is_signed (type_of e)) (right_when e (negates e) q.value f.1.1.0) l in
          let whole = constant_of v (one_at span u one_is.Negate e) in
          let same : whole ≡ of_one (operated_on unary_is.Negate) (constant_of v e) = ap (λ b. if b then negative_literal u (number_in e) else of_one (operated_on unary_is.Negate) (constant_of v e)) l in
          ap (λ x. fits x whole) (ap (negated e) l)
          ∙ ap (λ x. fits (unary_type unary_is.Negate x) whole) (seen_is e q.value.within)
          ∙ ap (λ o. fits (unary_type unary_is.Negate (type_of e)) o) same
          ∙ one_told (type_of e) (unary_type unary_is.Negate (type_of e)) (operated_on unary_is.Negate) (constant_of v e) q.fit q.plain (λ a i. negate_on (type_of e) a s i)

  -- literals take the types of their places, and values are widened
  retyped_told : (w : Word) (e : Expr) → is_literal e ≡ true → can_take w ≡ true → Told (retyped (word w) e)
  retyped_told w e l n c r p = ap (λ u. fits u (constant_of v (retyped (word w) e))) (retyped_type (word w) e) ∙ literal_told v w e n l p

  pub settled_told : (w : Word) (e : Expr) → can_take w ≡ true → Told e → Told (settled w e)
  settled_told w e n t = by_bool Told (is_literal e) (retyped (word w) e) e (λ l. retyped_told w e l n) t

  pub taken_told : (t : Ty) (e : Expr) → Told e → Told (taken t e)
  taken_told (word w) e t = by_bool Told (is_literal e && can_take w) (settled w e) e (λ b. settled_told w e (and_parts (is_literal e) (can_take w) b).1 t) t
  taken_told (made maker ts) e t = t

  widened_told : (t : Ty) (e : Expr) → Told e → Told (widened t e)
  widened_told t e h = by_bool Told (widens (seen e) t && not (same (seen e) t)) (one_at (span_of e) t one_is.Widen e) e node h
    where
      node : (widens (seen e) t && not (same (seen e) t)) ≡ true → Told (one_at (span_of e) t one_is.Widen e)
      node b c r p =
          let w = (and_parts (widens (seen e) t) (not (same (seen e) t)) b).0 in
          let within = not_past e t w in
          let now : widens (type_of e) t ≡ true = sym (ap (λ s. widens s t) (seen_is e within)) ∙ w in
          let fit = h (one_clear (span_of e) t one_is.Widen e c) (one_right (span_of e) t one_is.Widen e r) within in
          one_told (type_of e) t (cast_to t) (constant_of v e) fit (widen_is_plain (type_of e) t now) (λ a i. cast_on (type_of e) t a (widen_casts (type_of e) t now) i)

  pub target_told : (t : Ty) (e : Expr) → Told e → Told (to_target t e)
  target_told t e h = widened_told t (taken t e) (taken_told t e h)

  abbrev pub Both : Expr × Expr → Type 0
  Both p = Told p.0 × Told p.1

  pub agreeing_told : (a b : Expr) → Told a → Told b → Both (agreeing a b)
  agreeing_told a b g h =
      let w = literal_word (is_negative a || is_negative b) in
      let n = literal_taken (is_negative a || is_negative b) in
      by_bool Both (is_literal a && is_literal b) (alike a b) (taken (seen b) a, taken (seen a) b)
      (λ l. (settled_told w a n g, settled_told w b n h)) (taken_told (seen b) a g, taken_told (seen a) b h)
