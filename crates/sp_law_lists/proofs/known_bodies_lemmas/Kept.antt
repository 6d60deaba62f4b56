-- What is kept in slots is as clear, and as right, as it was.
use Rattle.std.specs.Prelude.{ℕ, Bool, not, ◌&&◌}
use Rattle.std.proofs.Common.{◌≡◌, inl, inr, refl, sym, ap, ◌∙◌}
use Rattle.sp_typed.specs.declared.words.OneOp.{OneOp}
use Rattle.sp_typed.specs.Exprs.{Expr, Exprs, leaf, one, two, three, many, none, more}
use Rattle.sp_typed.specs.Nodes.{holds, all_hold}
use Rattle.sp_type_stmts.specs.Scopes.{Scope}
use Rattle.sp_type_stmts.specs.Owners.{kept}
use Rattle.sp_rule_bodies.specs.Known.{Known}
use Rattle.sp_rule_bodies.specs.Values.{is_set_key}
use Rattle.sp_rule_bodies.specs.ExprTests.{expr_tests}
use Rattle.sp_law_lists.specs.known_types.Full.{is_full, is_right, is_bare, is_unknown, holds_inside}
use Rattle.sp_law_lists.specs.known_types.Clear.{none_hold, is_clear, names_something, may_stand}
use Rattle.sp_law_lists.proofs.known_types_lemmas.Tests.{Good, Holds}
use Rattle.sp_law_lists.specs.known_bodies.Slots.{plain, all_plain, IsBlind}
use Rattle.sp_law_lists.proofs.known_bodies_lemmas.Slots.{kept_plain, type_plain}
use Rattle.sp_law_lists.proofs.known_bodies_lemmas.Asked.{tests_plain, word_slot}

-- a test that asks the same of each node, whatever slots it has
module _ (p : Expr → Bool) (same : (e : Expr) → p (plain e) ≡ p e) where
  mutual
    pub holds_plain : (e : Expr) → holds p (plain e) ≡ holds p e
    holds_plain (leaf h) = refl
    holds_plain (one h a) = ap (λ b. b && holds p (plain a)) (same (one h a)) ∙ ap (λ b. p (one h a) && b) (holds_plain a)
    holds_plain (two h a b) =
        ap (λ x. x && (holds p (plain a) && holds p (plain b))) (same (two h a b))
        ∙ ap (λ x. p (two h a b) && (x && holds p (plain b))) (holds_plain a)
        ∙ ap (λ x. p (two h a b) && (holds p a && x)) (holds_plain b)
    holds_plain (three h a b c) =
        ap (λ x. x && (holds p (plain a) && (holds p (plain b) && holds p (plain c)))) (same (three h a b c))
        ∙ ap (λ x. p (three h a b c) && (x && (holds p (plain b) && holds p (plain c)))) (holds_plain a)
        ∙ ap (λ x. p (three h a b c) && (holds p a && (x && holds p (plain c)))) (holds_plain b)
        ∙ ap (λ x. p (three h a b c) && (holds p a && (holds p b && x))) (holds_plain c)
    holds_plain (many h es) = ap (λ x. x && all_hold p (all_plain es)) (same (many h es)) ∙ ap (λ x. p (many h es) && x) (all_plain_hold es)

    pub all_plain_hold : (es : Exprs) → all_hold p (all_plain es) ≡ all_hold p es
    all_plain_hold none = refl
    all_plain_hold (more e es) = ap (λ x. x && all_hold p (all_plain es)) (holds_plain e) ∙ ap (λ x. holds p e && x) (all_plain_hold es)

  pub inside_plain : (e : Expr) → holds_inside p (plain e) ≡ holds_inside p e
  inside_plain (leaf h) = refl
  inside_plain (one h a) = holds_plain a
  inside_plain (two h a b) = ap (λ x. x && holds p (plain b)) (holds_plain a) ∙ ap (λ x. holds p a && x) (holds_plain b)
  inside_plain (three h a b c) =
      ap (λ x. x && (holds p (plain b) && holds p (plain c))) (holds_plain a) ∙ ap (λ x. holds p a && (x && holds p (plain c))) (holds_plain b) ∙ ap (λ x. holds p a && (holds p b && x)) (holds_plain c)
  inside_plain (many h es) = all_plain_hold es

  -- the same of what is kept
  kept_holds_it : (sc : Scope) (e : Expr) → holds p (kept sc e).0 ≡ holds p e
  kept_holds_it sc e = sym (holds_plain (kept sc e).0) ∙ ap (holds p) (kept_plain sc e) ∙ holds_plain e

  kept_inside : (sc : Scope) (e : Expr) → holds_inside p (kept sc e).0 ≡ holds_inside p e
  kept_inside sc e = sym (inside_plain (kept sc e).0) ∙ ap (holds_inside p) (kept_plain sc e) ∙ inside_plain e

  pub kept_same : (sc : Scope) (e : Expr) → p (kept sc e).0 ≡ p e
  kept_same sc e = sym (same (kept sc e).0) ∙ ap p (kept_plain sc e) ∙ same e

-- what is right, and what is bare
right_plain : (e : Expr) → is_right (plain e) ≡ is_right e
right_plain (leaf h) = refl
right_plain (one h a) = refl
right_plain (two h a b) = refl
right_plain (three h a b c) = refl
right_plain (many h es) = ap (λ b. not b && is_full h.ty) (word_slot h.op)

bare_plain : (e : Expr) → is_bare (plain e) ≡ is_bare e
bare_plain (leaf h) = refl
bare_plain (one h a) = refl
bare_plain (two h a b) = ap (λ t. is_set_key h.op t && is_unknown h.ty) (type_plain a)
bare_plain (three h a b c) = refl
bare_plain (many h es) = refl

names_plain : (e : Expr) → names_something (plain e) ≡ names_something e
names_plain (leaf h) = refl
names_plain (one h a) = refl
names_plain (two h a b) = refl
names_plain (three h a b c) = refl
names_plain (many h es) = refl

stand_plain : (only : OneOp → Bool) (e : Expr) → may_stand only (plain e) ≡ may_stand only e
stand_plain only (leaf h) = refl
stand_plain only (one h a) = refl
stand_plain only (two h a b) = refl
stand_plain only (three h a b c) = refl
stand_plain only (many h es) = refl

module _ (only : OneOp → Bool) (k : Known) (m : ℕ) (blind : IsBlind k) where
  clear_plain : (e : Expr) → is_clear only k m (plain e) ≡ is_clear only k m e
  clear_plain e =
      ap (λ x. x && (may_stand only (plain e) && none_hold (expr_tests k m (plain e)))) (names_plain e)
      ∙ ap (λ x. names_something e && (x && none_hold (expr_tests k m (plain e)))) (stand_plain only e)
      ∙ ap (λ x. names_something e && (may_stand only e && none_hold x)) (tests_plain k blind m e)

  pub kept_good : (sc : Scope) (e : Expr) → Good e → Good (kept sc e).0
  kept_good sc e g = (
    kept_inside is_right right_plain sc e ∙ g.0,
    elim g.1 [
      | inl r ↦ inl (kept_same is_right right_plain sc e ∙ r)
      | inr b ↦ inr (kept_same is_bare bare_plain sc e ∙ b)
    ],
  )

  -- what is good where it is clear is so where it is kept
  pub kept_holds : (sc : Scope) (e : Expr) → Holds only k m e → Holds only k m (kept sc e).0
  kept_holds sc e h c = kept_good sc e (h (sym (kept_holds_it (is_clear only k m) clear_plain sc e) ∙ c))
