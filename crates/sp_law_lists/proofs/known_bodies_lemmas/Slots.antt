-- The slots of owners change nothing that a rule asks of an expression.
use Rattle.std.specs.Prelude.{ℕ, Bool, false, not, ◌&&◌, ◌||◌, if◌then◌else◌, Option, None}
use Rattle.std.proofs.Common.{◌≡◌, refl, ap, ◌∙◌}
use Rattle.sp_base.specs.declared.places.Span.{Span}
use Rattle.sp_types.specs.Types.{Ty}
use Rattle.sp_typed.specs.declared.words.ManyOp.{ManyOp}
use Rattle.sp_typed.specs.declared.words.ManyOp.TheVariants as many_is
use Rattle.sp_typed.specs.Exprs.{Expr, Exprs, leaf, one, two, three, many, none, more, exprs, type_of, span_of, is_number, is_literal, is_minus}
use Rattle.sp_type_operands.specs.Literals.{number_of, is_negative, type_has, is_typed_number, is_over}
use Rattle.sp_type_stmts.specs.Scopes.{Scope}
use Rattle.sp_type_stmts.specs.Owners.{with_slot_of, owner_slot, changed_owner, kept, all_kept}
use Rattle.sp_rule_bodies.specs.Values.{is_no_value, is_set_key, value_span}
use Rattle.sp_type_operands.specs.Operands.{is_valueless}
use Rattle.sp_rule_bodies.specs.ExprTests.{is_itself}
use Rattle.sp_law_lists.specs.known_bodies.Slots.{plain, all_plain}

-- what is kept is plainly what it was
slot_twice : (op : ManyOp) (s : Option ℕ) → with_slot_of (with_slot_of op s) None ≡ with_slot_of op None
slot_twice (many_is.Method m old) s = refl
slot_twice _ s = refl

mutual
  pub kept_plain : (sc : Scope) (e : Expr) → plain (kept sc e).0 ≡ plain e
  kept_plain sc (leaf h) = refl
  kept_plain sc (one h a) = ap (one h) (kept_plain sc a)
  kept_plain sc (two h a b) =
      let x = kept sc a in
      let y = kept x.1 b in
      ap (λ p. two h p (plain y.0)) (kept_plain sc a) ∙ ap (λ p. two h (plain a) p) (kept_plain x.1 b)
  kept_plain sc (three h a b c) =
      let x = kept sc a in
      let y = kept x.1 b in
      let z = kept y.1 c in
      ap (λ p. three h p (plain y.0) (plain z.0)) (kept_plain sc a) ∙ ap (λ p. three h (plain a) p (plain z.0)) (kept_plain x.1 b) ∙ ap (λ p. three h (plain a) (plain b) p) (kept_plain y.1 c)
  kept_plain sc (many h es) =
      let xs = all_kept sc es in
      let slot = owner_slot xs.1 (changed_owner h.op xs.0) in
      ap (λ op. many (record { span = h.span; ty = h.ty; op = op }) (all_plain (exprs xs.0))) (slot_twice h.op slot)
      ∙ ap (λ ps. many (record { span = h.span; ty = h.ty; op = with_slot_of h.op None }) ps) (all_kept_plain sc es)

  pub all_kept_plain : (sc : Scope) (es : Exprs) → all_plain (exprs (all_kept sc es).0) ≡ all_plain es
  all_kept_plain sc none = refl
  all_kept_plain sc (more e es) =
      let x = kept sc e in
      ap (λ p. more p (all_plain (exprs (all_kept x.1 es).0))) (kept_plain sc e) ∙ ap (λ ps. more (plain e) ps) (all_kept_plain x.1 es)

-- what the rules ask of an expression by itself
pub type_plain : (e : Expr) → type_of (plain e) ≡ type_of e
type_plain (leaf h) = refl
type_plain (one h a) = refl
type_plain (two h a b) = refl
type_plain (three h a b c) = refl
type_plain (many h es) = refl

pub span_plain : (e : Expr) → span_of (plain e) ≡ span_of e
span_plain (leaf h) = refl
span_plain (one h a) = refl
span_plain (two h a b) = refl
span_plain (three h a b c) = refl
span_plain (many h es) = refl

pub value_span_plain : (e : Expr) → value_span (plain e) ≡ value_span e
value_span_plain (leaf h) = refl
value_span_plain (one h a) = refl
value_span_plain (two h a b) = refl
value_span_plain (three h c a b) = ap (λ (s : Span). if is_valueless h.ty then s else h.span) (value_span_plain a)
value_span_plain (many h es) = refl

pub no_value_plain : (e : Expr) → is_no_value (plain e) ≡ is_no_value e
no_value_plain (leaf h) = refl
no_value_plain (one h a) = refl
no_value_plain (two h a b) = ap (λ t. is_set_key h.op t || is_valueless h.ty) (type_plain a)
no_value_plain (three h a b c) = refl
no_value_plain (many h es) = refl

pub is_number_plain : (e : Expr) → is_number (plain e) ≡ is_number e
is_number_plain (leaf h) = refl
is_number_plain (one h a) = refl
is_number_plain (two h a b) = refl
is_number_plain (three h a b c) = refl
is_number_plain (many h es) = refl

pub literal_plain : (e : Expr) → is_literal (plain e) ≡ is_literal e
literal_plain (leaf h) = refl
literal_plain (one h a) = ap (λ b. is_minus h.op && b) (is_number_plain a)
literal_plain (two h a b) = refl
literal_plain (three h a b c) = refl
literal_plain (many h es) = refl

negative_plain : (e : Expr) → is_negative (plain e) ≡ is_negative e
negative_plain (leaf h) = refl
negative_plain (one h a) = refl
negative_plain (two h a b) = refl
negative_plain (three h a b c) = refl
negative_plain (many h es) = refl

number_plain : (e : Expr) → number_of (plain e) ≡ number_of e
number_plain (leaf h) = refl
number_plain (one h (leaf i)) = refl
number_plain (one h (one i a)) = refl
number_plain (one h (two i a b)) = refl
number_plain (one h (three i a b c)) = refl
number_plain (one h (many i es)) = refl
number_plain (two h a b) = refl
number_plain (three h a b c) = refl
number_plain (many h es) = refl

typed_number_plain : (e : Expr) → is_typed_number (plain e) ≡ is_typed_number e
typed_number_plain (leaf h) = refl
typed_number_plain (one h a) = refl
typed_number_plain (two h a b) = refl
typed_number_plain (three h a b c) = refl
typed_number_plain (many h es) = refl

abbrev over_by : Bool → Bool → Bool → Ty → ℕ → Bool
over_by literal typed negative t n = if literal then not (type_has t negative n) else (if typed then not (type_has t false n) else false)

pub over_plain : (e : Expr) → is_over (plain e) ≡ is_over e
over_plain e =
    ap (λ b. over_by b (is_typed_number (plain e)) (is_negative (plain e)) (type_of (plain e)) (number_of (plain e))) (literal_plain e)
    ∙ ap (λ b. over_by (is_literal e) b (is_negative (plain e)) (type_of (plain e)) (number_of (plain e))) (typed_number_plain e)
    ∙ ap (λ b. over_by (is_literal e) (is_typed_number e) b (type_of (plain e)) (number_of (plain e))) (negative_plain e)
    ∙ ap (λ t. over_by (is_literal e) (is_typed_number e) (is_negative e) t (number_of (plain e))) (type_plain e)
    ∙ ap (λ n. over_by (is_literal e) (is_typed_number e) (is_negative e) (type_of e) n) (number_plain e)

pub itself_plain : (e : Expr) → is_itself (plain e) ≡ is_itself e
itself_plain (leaf h) = refl
itself_plain (one h a) = refl
itself_plain (two h a b) = refl
itself_plain (three h a b c) = refl
itself_plain (many h es) = refl
