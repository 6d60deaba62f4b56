-- The values of constants: choices between regular expressions may stand there, and all else is as in other expressions.
use Rattle.std.specs.Prelude.{ℕ, Bool, true, false, not, ◌&&◌, ◌||◌, if◌then◌else◌, cond, List, [], ◌∷◌, ◌++◌, Option, Some, None}
use Rattle.std.proofs.Common.{◌≡◌, ◌⊎◌, inl, inr, refl, sym, ap, ◌∙◌, subst}
use Rattle.std.proofs.lemmas.Bool.{and_parts, and_from, not-true}
use Rattle.sp_base.specs.declared.places.Span.{Span}
use Rattle.sp_rules.specs.declared.fault.Fault.{Fault}
use Rattle.sp_types.specs.declared.words.Word.{Word}
use Rattle.sp_types.specs.declared.words.Word.TheVariants as word_is
use Rattle.sp_types.specs.Types.{Ty, word, made, same, widens}
use Rattle.sp_types.proofs.Same.{same_is}
use Rattle.sp_typed.specs.declared.words.OneOp.TheVariants as one_is
use Rattle.sp_typed.specs.Exprs.{Expr, leaf, one, two, three, many, type_of, span_of, is_literal, retyped, settled}
use Rattle.sp_typed.specs.Nodes.{holds}
use Rattle.sp_type_operands.specs.Operands.{unknown, boolean, is_boolean}
use Rattle.sp_type_operands.specs.Literals.{seen, is_past, is_negative, can_take, taken, literal_word}
use Rattle.sp_type_context.specs.Typing.{one_at, to_maybe, alike, agreeing, choice_type, chosen, choice_at}
use Rattle.sp_rule_bodies.specs.Known.{Known}
use Rattle.sp_rules.specs.declared.rule.Rule.TheVariants as rule_is
use Rattle.sp_rule_bodies.specs.Values.{is_no_value, knows, value_span, condition_tests}
use Rattle.sp_rules.specs.Faults.{at}
use Rattle.sp_rule_bodies.specs.ExprTests.{unlike}
use Rattle.sp_type_constants.specs.Known.{Known as Values}
use Rattle.sp_type_constants.specs.Values.{value_of as constant_of}
use Rattle.sp_rule_lists.specs.Bodies.{inside_tests, value_or_regex_tests, const_choice_tests, inside_const}
use Rattle.sp_law_lists.specs.known_types.Full.{is_full, is_right}
use Rattle.sp_law_lists.specs.known_types.Clear.{none_hold, names_something, may_stand}
use Rattle.sp_law_lists.proofs.known_types_lemmas.Full.{never}
use Rattle.sp_law_lists.proofs.known_types_lemmas.Tests.{Good, Clear, Holds, value_of, whole_of, seen_is, right_when, both_false, not_so}
use Rattle.sp_law_lists.proofs.known_types_lemmas.Kept.{settled_holds, target_holds}
use Rattle.sp_law_lists.specs.known_values.Values.{fits}
use Rattle.sp_law_lists.proofs.known_values_lemmas.Outcomes.{three_told}
use Rattle.sp_law_lists.proofs.known_values_lemmas.Nodes.{Told, settled_told, target_told}
use Rattle.sp_law_lists.proofs.whole_list_lemmas.None.{none_parts}
use Rattle.sp_law_lists.specs.known_constants.Good.{constant_op}
use Rattle.sp_law_lists.proofs.known_constants_lemmas.Clear.{all_clear, stands_by, known_when, full_when, whole_when}

abbrev pub is_three : Expr → Bool
is_three (three h c a b) = true
is_three _ = false

-- what is by two cases
by_bool : {X : Type 0} (P : X → Type 0) (b : Bool) (x y : X) → (b ≡ true → P x) → P y → P (if b then x else y)
by_bool P true x y f h = f refl
by_bool P false x y f h = h

taken_full : (w : Word) → can_take w ≡ true → is_full (word w) ≡ true
taken_full (word_is.Uint w) e = refl
taken_full (word_is.Int w) e = refl
taken_full _ e = never e

literal_full : (b : Bool) → is_full (word (literal_word b)) ≡ true
literal_full true = refl
literal_full false = refl

literal_taken : (b : Bool) → can_take (literal_word b) ≡ true
literal_taken true = refl
literal_taken false = refl

retyped_three : (t : Ty) (e : Expr) → is_literal e ≡ true → is_three (retyped t e) ≡ false
retyped_three t (leaf h) l = refl
retyped_three t (one h a) l = refl
retyped_three t _ l = never l

boolean_is : (t : Ty) → is_boolean t ≡ true → t ≡ boolean
boolean_is (word word_is.Bool) b = refl
boolean_is _ b = never b

chosen_type : (c : Bool) (t : Ty) → c ≡ true → (if c then t else unknown) ≡ t
chosen_type true t e = refl
chosen_type false t e = never e

module _ (k : Known) (m : ℕ) (v : Values) where
  abbrev only : Expr → Bool
  only = may_stand constant_op

  -- what is asked inside the value of a constant
  abbrev pub ConstClear : Expr → Type 0
  ConstClear e = (holds names_something e ≡ true) × (holds only e ≡ true) × (none_hold (inside_const k m e) ≡ true)

  -- and what holds then
  abbrev pub Const : Expr → Type 0
  Const e = ConstClear e → Good e × (holds is_right e ≡ true → is_past e ≡ false → fits (type_of e) (constant_of v e) ≡ true)

  abbrev Plain : Expr → Type 0
  Plain e = (is_three e ≡ false) × Holds constant_op k m e × Told constant_op k m v e

  abbrev pub Spine : Expr → Type 0
  Spine e = Plain e ⊎ ((is_literal e ≡ false) × Const e)

  plain_tests : (e : Expr) → is_three e ≡ false → none_hold (inside_const k m e) ≡ true → none_hold (inside_tests k m e) ≡ true
  plain_tests (leaf h) n t = t
  plain_tests (one h a) n t = t
  plain_tests (two h a b) n t = t
  plain_tests (three h c a b) n t = never (sym n)
  plain_tests (many h es) n t = t

  plain_clear : (e : Expr) → is_three e ≡ false → ConstClear e → Clear constant_op k m e
  plain_clear e n c = all_clear constant_op k m e c.0 c.1 (plain_tests e n c.2)

  pub const_of : (e : Expr) → Spine e → Const e
  const_of e s c = elim s [
    | inl p ↦ (
        let clear = plain_clear e p.0 c in
        (p.1 clear, λ r n. p.2 clear r n)
        )
    | inr q ↦ q.1 c
  ]

  -- literals take types
  settled_three : (w : Word) (e : Expr) → is_literal e ≡ true → is_three (settled w e) ≡ false
  settled_three w e l = ap (λ b. is_three (cond b (retyped (word w) e) e)) l ∙ retyped_three (word w) e l

  settled_spine : (w : Word) (e : Expr) → is_literal e ≡ true → is_full (word w) ≡ true → can_take w ≡ true → Spine e → Spine (settled w e)
  settled_spine w e l full can s = elim s [
    | inl p ↦ inl (settled_three w e l, settled_holds constant_op k m w e full p.1, settled_told constant_op k m v w e can p.2)
    | inr q ↦ never (sym q.0 ∙ l)
  ]

  taken_spine : (t : Ty) (e : Expr) → Spine e → Spine (taken t e)
  taken_spine (word w) e s =
      by_bool Spine (is_literal e && can_take w) (settled w e) e
      (λ b. (let p = and_parts (is_literal e) (can_take w) b in settled_spine w e p.0 (taken_full w p.1) p.1 s)) s
  taken_spine (made maker ts) e s = s

  abbrev Both : Expr × Expr → Type 0
  Both p = Spine p.0 × Spine p.1

  agreeing_spine : (a b : Expr) → Spine a → Spine b → Both (agreeing a b)
  agreeing_spine a b s t =
      let n = is_negative a || is_negative b in
      by_bool Both (is_literal a && is_literal b) (alike a b) (taken (seen b) a, taken (seen a) b)
      (λ l. (
      let p = and_parts (is_literal a) (is_literal b) l in
      (settled_spine (literal_word n) a p.0 (literal_full n) (literal_taken n) s, settled_spine (literal_word n) b p.1 (literal_full n) (literal_taken n) t)
      ))
      (taken_spine (seen b) a s, taken_spine (seen a) b t)

  -- a choice
  chosen_const : (span : Span) (c a b : Expr) → Holds constant_op k m c → Told constant_op k m v c → Const a → Const b → Const (chosen span c a b)
  chosen_const span c a b hold told f g clear =
      let n = and_parts (holds names_something c) (holds names_something a && holds names_something b) clear.0 in
      let o = and_parts (holds names_something a) (holds names_something b) n.1 in
      let s = and_parts (holds only c) (holds only a && holds only b) clear.1 in
      let r = and_parts (holds only a) (holds only b) s.1 in
      let t = none_parts (const_choice_tests m c a b) (inside_tests k m c ++ (inside_const k m a ++ inside_const k m b)) clear.2 in
      let u = none_parts (inside_tests k m c) (inside_const k m a ++ inside_const k m b) t.1 in
      let w = none_parts (inside_const k m a) (inside_const k m b) u.1 in
      let last : List (Bool × Fault) = (unlike a b, at m rule_is.TypeMismatch (value_span b)) ∷ [] in
      let x = none_parts (condition_tests m c) (value_or_regex_tests m a ++ (value_or_regex_tests m b ++ last)) t.0 in
      let y = none_parts (value_or_regex_tests m a) (value_or_regex_tests m b ++ last) x.1 in
      let z = none_parts (value_or_regex_tests m b) last y.1 in
      let clear_c = all_clear constant_op k m c n.0 s.0 u.0 in
      let first = (f (o.0, r.0, w.0)) in
      let second = (g (o.1, r.1, w.1)) in
      let p = and_parts (not (is_no_value c)) _ x.0 in
      let q = and_parts (not (is_past c)) _ p.1 in
      let value = value_of constant_op k m c hold clear_c (not-true (is_no_value c) p.0) (not-true (is_past c) q.0) in
      let condition = boolean_is (type_of c) (right_when c (is_boolean (type_of c)) value (not-true (knows c && not (is_boolean (type_of c))) (and_parts (not (knows c && not (is_boolean (type_of c)))) true q.1).0)) in
      let left = stands_by m a first.0 y.0 in
      let right = stands_by m b second.0 z.0 in
      let alike_ = not-true (unlike a b) (and_parts (not (unlike a b)) true z.1).0 in
      let agreed = not_so (same (type_of a) (type_of b)) (both_false (knows a && knows b) (not (same (type_of a) (type_of b))) alike_ (and_from (knows a) (knows b) (known_when a left) (known_when b right))) in
      let is = same_is (type_of a) (type_of b) agreed in
      let typed : choice_type a b ≡ type_of a =
      ap (λ s. if same s (seen b) then s else unknown) (seen_is a left.within) ∙ ap (λ s. if same (type_of a) s then type_of a else unknown) (seen_is b right.within) ∙ chosen_type (same (type_of a) (type_of b)) (type_of a) agreed in
      let right_a = whole_when a first.0 left in
      let right_b = whole_when b second.0 right in (
        (and_from (holds is_right c) (holds is_right a && holds is_right b) (whole_of c value) (and_from (holds is_right a) (holds is_right b) right_a right_b), inl (ap is_full typed ∙ full_when a left.right)),
        λ e past.
            ap (λ t. fits t (constant_of v (chosen span c a b))) typed
            ∙ three_told (type_of a) (constant_of v c) (constant_of v a) (constant_of v b)
            (subst (λ t. fits t (constant_of v c) ≡ true) condition (told clear_c (whole_of c value) value.within))
            (first.1 right_a left.within)
            (subst (λ t. fits t (constant_of v b) ≡ true) (sym is) (second.1 right_b right.within)),
      )

  pub choice_spine : (span : Span) (c a b : Expr) → Holds constant_op k m c → Told constant_op k m v c → Spine a → Spine b → Spine (choice_at span c a b)
  choice_spine span c a b hold told s t =
      let p = agreeing_spine a b s t in
      inr (refl, chosen_const span c (agreeing a b).0 (agreeing a b).1 hold told (const_of (agreeing a b).0 p.0) (const_of (agreeing a b).1 p.1))

  -- what goes to a target
  widened_spine : (b : Bool) (node e : Expr) → is_three node ≡ false → Holds constant_op k m (if b then node else e) → Told constant_op k m v (if b then node else e) → Spine e → Spine (if b then node else e)
  widened_spine true node e n hold told s = inl (n, hold, told)
  widened_spine false node e n hold told s = s

  pub maybe_spine : (t : Option Ty) (e : Expr) → Holds constant_op k m e → Told constant_op k m v e → Spine e → Spine (to_maybe t e)
  maybe_spine None e hold told s = s
  maybe_spine (Some t) e hold told s =
      let x = taken t e in
      widened_spine (widens (seen x) t && not (same (seen x) t)) (one_at (span_of x) t one_is.Widen x) x refl (target_holds constant_op k m t e hold) (target_told constant_op k m v t e told) (taken_spine t e s)
