-- What settles, widens and makes agree keeps what holds where no rule is broken.
use Rattle.std.specs.Prelude.{ℕ, suc, Bool, true, false, not, ◌&&◌, ◌||◌, if◌then◌else◌, List, [], ◌∷◌, ◌++◌, map, Option, Some, None}
use Rattle.std.proofs.Common.{◌≡◌, inl, inr, refl, sym, ap, ◌∙◌}
use Rattle.std.proofs.lemmas.Bool.{and_parts, and_from}
use Rattle.sp_types.specs.declared.words.Word.{Word}
use Rattle.sp_types.specs.declared.words.Word.TheVariants as word_is
use Rattle.sp_types.specs.Types.{Ty, word, made, same, widens}
use Rattle.sp_typed.specs.declared.words.LeafOp.{LeafOp}
use Rattle.sp_typed.specs.declared.words.LeafOp.TheVariants as leaf_is
use Rattle.sp_typed.specs.declared.words.OneOp.{OneOp}
use Rattle.sp_typed.specs.declared.words.OneOp.TheVariants as one_is
use Rattle.sp_typed.specs.Exprs.{Expr, leaf, one, span_of, number_leaf, is_minus, is_number, is_literal, retyped, settled}
use Rattle.sp_typed.specs.Nodes.{holds, word_leaf, word_one}
use Rattle.sp_type_operands.specs.Operands.{unknown}
use Rattle.sp_type_operands.specs.Literals.{is_negative, can_take, taken, is_past, seen, literal_word}
use Rattle.sp_type_context.specs.Typing.{one_at, widened, to_target, to_maybe, each_to, alike, agreeing, leading, led, in_turn}
use Rattle.sp_rule_bodies.specs.Known.{Known}
use Rattle.sp_rule_bodies.specs.ExprTests.{leaf_tests, one_op_tests}
use Rattle.sp_law_lists.specs.known_types.Full.{is_full, is_right, is_bare}
use Rattle.sp_law_lists.specs.known_types.Clear.{none_hold, is_clear, names_path}
use Rattle.sp_law_lists.proofs.known_types_lemmas.Full.{never}
use Rattle.sp_law_lists.proofs.known_types_lemmas.Tests.{Good, Clear, Holds, is_whole, bare_is_unknown}

-- words that literals may take
abbrev IsInteger : Word → Type 0
IsInteger w = is_full (word w) ≡ true

taken_word : (w : Word) → can_take w ≡ true → IsInteger w
taken_word (word_is.Uint w) e = refl
taken_word (word_is.Int w) e = refl
taken_word _ e = never e

-- what is by two cases
by_bool : {X : Type 0} (P : X → Type 0) (b : Bool) (x y : X) → (b ≡ true → P x) → P y → P (if b then x else y)
by_bool P true x y f h = f refl
by_bool P false x y f h = h

number_names : (op : LeafOp) → number_leaf op ≡ true → names_path op ≡ true
number_names (leaf_is.Number n) e = refl
number_names _ e = never e

number_tests : (m : ℕ) (x : Expr) (op : LeafOp) → number_leaf op ≡ true → none_hold (leaf_tests m x op) ≡ true
number_tests m x (leaf_is.Number n) e = refl
number_tests m x _ e = never e

number_value : (op : LeafOp) (w : Word) → number_leaf op ≡ true → IsInteger w → (not (word_leaf op) && is_full (word w)) ≡ true
number_value (leaf_is.Number n) w e i = i
number_value _ w e i = never e

minus_tests : (m : ℕ) (t u : Ty) (op : OneOp) (a : Expr) → is_minus op ≡ true → none_hold (one_op_tests m t op a) ≡ true → none_hold (one_op_tests m u op a) ≡ true
minus_tests m t u one_is.Negate a e h = h
minus_tests m t u _ a e h = never e

minus_value : (op : OneOp) (w : Word) → is_minus op ≡ true → IsInteger w → (not (word_one op) && is_full (word w)) ≡ true
minus_value one_is.Negate w e i = i
minus_value _ w e i = never e

module _ (only : OneOp → Bool) (k : Known) (m : ℕ) where
  -- a literal is as clear as it is with another type
  settled_clear : (t : Ty) (e : Expr) → is_literal e ≡ true → Clear only k m (retyped t e) → Clear only k m e
  settled_clear t (leaf h) l c =
      and_from (names_path h.op) (none_hold (leaf_tests m (leaf h) h.op)) (number_names h.op l) (number_tests m (leaf h) h.op l)
  settled_clear t (one h a) l c =
      let minus = (and_parts (is_minus h.op) (is_number a) l).0 in
      let new : Expr = one (record { span = h.span; ty = t; op = h.op }) a in
      let p = and_parts (is_clear only k m new) (holds (is_clear only k m) a) c in
      let q = and_parts (only h.op) (none_hold (one_op_tests m t h.op a)) p.0 in
      and_from (is_clear only k m (one h a)) (holds (is_clear only k m) a)
      (and_from (only h.op) (none_hold (one_op_tests m h.ty h.op a)) q.0 (minus_tests m t h.ty h.op a minus q.1)) p.1
  settled_clear t _ l c = never l

  settled_good : (w : Word) (e : Expr) → is_literal e ≡ true → IsInteger w → Good e → Good (retyped (word w) e)
  settled_good w (leaf h) l i g = (refl, inl (number_value h.op w l i))
  settled_good w (one h a) l i g = (g.0, inl (minus_value h.op w (and_parts (is_minus h.op) (is_number a) l).0 i))
  settled_good w _ l i g = never l

  retyped_holds : (w : Word) (e : Expr) → is_literal e ≡ true → IsInteger w → Holds only k m e → Holds only k m (retyped (word w) e)
  retyped_holds w e l i h c = settled_good w e l i (h (settled_clear (word w) e l c))

  pub settled_holds : (w : Word) (e : Expr) → IsInteger w → Holds only k m e → Holds only k m (settled w e)
  settled_holds w e i h = by_bool (Holds only k m) (is_literal e) (retyped (word w) e) e (λ l. retyped_holds w e l i h) h

  pub taken_holds : (t : Ty) (e : Expr) → Holds only k m e → Holds only k m (taken t e)
  taken_holds (word w) e h =
      by_bool (Holds only k m) (is_literal e && can_take w) (settled w e) e (λ b. settled_holds w e (taken_word w (and_parts (is_literal e) (can_take w) b).1) h) h
  taken_holds (made maker ts) e h = h

  -- what is widened goes to an integer type, and is of one
  wider_integer : (s t : Ty) → widens s t ≡ true → is_full t ≡ true
  wider_integer (word v) (word (word_is.Uint w)) e = refl
  wider_integer (word v) (word (word_is.Int w)) e = refl
  wider_integer (word v) (word _) e = never e
  wider_integer (word v) (made maker ts) e = never e
  wider_integer (made maker ts) t e = never e

  unknown_widens : (t : Ty) → widens unknown t ≡ true → false ≡ true
  unknown_widens (word (word_is.Uint w)) e = e
  unknown_widens (word (word_is.Int w)) e = e
  unknown_widens (word _) e = e
  unknown_widens (made maker ts) e = e

  bare_seen : (e : Expr) → is_bare e ≡ true → seen e ≡ unknown
  bare_seen e b = ap (λ t. if is_past e then unknown else t) (bare_is_unknown e b) ∙ both (is_past e)
    where
      both : (b : Bool) → (if b then unknown else unknown) ≡ unknown
      both true = refl
      both false = refl

  widened_good : (t : Ty) (e : Expr) → widens (seen e) t ≡ true → Good e → Good (one_at (span_of e) t one_is.Widen e)
  widened_good t e w g = elim g.1 [
    | inl r ↦ (is_whole is_right e g.0 r, inl (wider_integer (seen e) t w))
    | inr b ↦ never (unknown_widens t (sym (ap (λ s. widens s t) (bare_seen e b)) ∙ w))
  ]

  widened_holds : (t : Ty) (e : Expr) → Holds only k m e → Holds only k m (widened t e)
  widened_holds t e h =
      let wider = widens (seen e) t in
      let node = one_at (span_of e) t one_is.Widen e in
      by_bool (Holds only k m) (wider && not (same (seen e) t)) node e
      (λ b c. widened_good t e (and_parts wider (not (same (seen e) t)) b).0 (h (and_parts (is_clear only k m node) (holds (is_clear only k m) e) c).1)) h

  pub target_holds : (t : Ty) (e : Expr) → Holds only k m e → Holds only k m (to_target t e)
  target_holds t e h = widened_holds t (taken t e) (taken_holds t e h)

  pub maybe_holds : (t : Option Ty) (e : Expr) → Holds only k m e → Holds only k m (to_maybe t e)
  maybe_holds None e h = h
  maybe_holds (Some t) e h = target_holds t e h

  -- two that agree
  literal_integer : (b : Bool) → IsInteger (literal_word b)
  literal_integer true = refl
  literal_integer false = refl

  abbrev Both : Expr × Expr → Type 0
  Both p = Holds only k m p.0 × Holds only k m p.1

  pub agreeing_holds : (a b : Expr) → Holds only k m a → Holds only k m b → Both (agreeing a b)
  agreeing_holds a b g h =
      let w = literal_word (is_negative a || is_negative b) in
      let i = literal_integer (is_negative a || is_negative b) in
      by_bool Both (is_literal a && is_literal b) (alike a b) (taken (seen b) a, taken (seen a) b)
      (λ l. (settled_holds w a i g, settled_holds w b i h)) (taken_holds (seen b) a g, taken_holds (seen a) b h)

  -- rows
  abbrev pub HoldsAll : List Expr → Type 0
  HoldsAll [] = Unit {0}
  HoldsAll (e ∷ es) = Holds only k m e × HoldsAll es

  abbrev pub HoldsPairs : List (Expr × Expr) → Type 0
  HoldsPairs [] = Unit {0}
  HoldsPairs (p ∷ ps) = Both p × HoldsPairs ps

  pub each_holds : (target : ℕ → Option Ty) (n : ℕ) (es : List Expr) → HoldsAll es → HoldsAll (each_to target n es)
  each_holds target n [] h = tt
  each_holds target n (e ∷ es) h = (maybe_holds (target n) e h.0, each_holds target (suc n) es h.1)

  all_taken : (t : Ty) (es : List Expr) → HoldsAll es → HoldsAll (map (taken t) es)
  all_taken t [] h = tt
  all_taken t (e ∷ es) h = (taken_holds t e h.0, all_taken t es h.1)

  pub led_holds : (es : List Expr) → HoldsAll es → HoldsAll (led es)
  led_holds es h = all_taken (leading es) es h

  pub turn_holds : (s t : Ty) (ps : List (Expr × Expr)) → HoldsPairs ps → HoldsAll (in_turn s t ps)
  turn_holds s t [] h = tt
  turn_holds s t (p ∷ ps) h = (taken_holds s p.0 h.0.0, (taken_holds t p.1 h.0.1, turn_holds s t ps h.1))

  pub joined_holds : (es fs : List Expr) → HoldsAll es → HoldsAll fs → HoldsAll (es ++ fs)
  joined_holds [] fs h i = i
  joined_holds (e ∷ es) fs h i = (h.0, joined_holds es fs h.1 i)
