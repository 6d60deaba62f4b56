-- Where each member has a type, nothing hangs on one without.
use Rattle.std.specs.Prelude.{if◌then◌else◌, nat_lt}
use Rattle.std.proofs.Common.{ℕ, ◌≡◌, ◌+◌, ◌<◌, Bool, true, false, refl, arith, List, Option, Some, None}
use Rattle.std.proofs.lemmas.Bool.Decides.{nat_tests}
use Rattle.sp_ast.specs.Trees.{Tree, row, node, none, more}
use Rattle.sp_ast.specs.declared.forms.Form.TheVariants as form_is
use Rattle.sp_ast.specs.declared.forms.BaseForm.TheVariants as base_is
use Rattle.sp_types.specs.declared.words.Word.TheVariants as word_is
use Rattle.sp_types.specs.Types.{Ty, word}
use Rattle.sp_typed.specs.declared.words.OneOp.{OneOp}
use Rattle.sp_typed.specs.declared.words.OneOp.TheVariants as one_is
use Rattle.sp_typed.specs.Exprs.{Expr, Exprs, leaf, one, two, three, many}
use Rattle.sp_typed.specs.Exprs as typed_is
use Rattle.sp_type_operands.specs.Literals.{seen}
use Rattle.sp_type_context.specs.Contexts.{Around}
use Rattle.sp_type_context.specs.Typing.{typed}
use Rattle.sp_type_scopes.specs.Decorators.{meant}
use Rattle.sp_type_fields.specs.Attributes.{conversion}
use Rattle.sp_type_fields.specs.Readings.{counted_read}
use Rattle.sp_type_fields.specs.Values.{Values}
use Rattle.sp_names.specs.Types.{or_unknown}
use Rattle.sp_type_modules.specs.Members.{first_member}
use Rattle.sp_type_members.specs.Opens.{unanswered, open_at, open_of, open_member, open_in, open_among, conversion_open, base_open}
use Rattle.sp_type_members.specs.inside.Kept.{none_else}
use Rattle.sp_law_lists.specs.known_types.Full.{is_full}
use Rattle.sp_law_lists.proofs.known_types_lemmas.Full.{never}

module _ (list : List Tree) (count : ℕ) (s : ℕ → Option Ty) (full : (i : ℕ) → i < count → is_full (or_unknown (s i)) ≡ true) where
  at_closed : (j : ℕ) → open_at count s j ≡ None
  at_closed j = by (nat_lt j count) refl
    where
      there : (o : Option Ty) → s j ≡ o → is_full (or_unknown o) ≡ true → unanswered o j ≡ None
      there None e f = never f
      there (Some u) e f = refl

      by : (b : Bool) → nat_lt j count ≡ b → (if b then unanswered (s j) j else None) ≡ None
      by true e = there (s j) refl (full j (let z : j < count = grind (arith, nat_tests) in z))
      by false e = refl

  of_closed : (k : ℕ) (t : Ty) → open_of list count s k t ≡ None
  of_closed k (word (word_is.Unit n)) = at_closed (first_member list n + k)
  of_closed k _ = refl

  member_closed : (op : OneOp) (t : Ty) → open_member list count s op t ≡ None
  member_closed (one_is.Field k) t = of_closed k t
  member_closed (one_is.Variable k) t = of_closed k t
  member_closed _ t = refl

  mutual
    pub expr_closed : (e : Expr) → open_in list count s e ≡ None
    expr_closed (leaf h) = refl
    expr_closed (one h a) = none_else (open_in list count s a) (open_member list count s h.op (seen a)) (expr_closed a) (member_closed h.op (seen a))
    expr_closed (two h a b) = none_else (open_in list count s a) (open_in list count s b) (expr_closed a) (expr_closed b)
    expr_closed (three h a b c) = none_else (open_in list count s a) _ (expr_closed a) (none_else (open_in list count s b) (open_in list count s c) (expr_closed b) (expr_closed c))
    expr_closed (many h es) = exprs_closed es

    exprs_closed : (es : Exprs) → open_among list count s es ≡ None
    exprs_closed typed_is.none = refl
    exprs_closed (typed_is.more e es) = none_else (open_in list count s e) (open_among list count s es) (expr_closed e) (exprs_closed es)

  module _ (g : Around) (v : Values) where
    pub conversion_closed : (t : Ty) (o : Option Tree) → conversion_open list count s g t o ≡ None
    conversion_closed t None = refl
    conversion_closed t (Some e) = expr_closed (typed (meant t g) e)

    pub base_closed : (t : Tree) → base_open list count s g v t ≡ None
    base_closed (node (form_is.Base base_is.Group) at (more inner (more (row counts) (more (row ts) none)))) =
        none_else (base_open list count s g v inner) _ (base_closed inner) (conversion_closed (counted_read g v inner counts).ty (conversion ts))
    base_closed _ = refl
