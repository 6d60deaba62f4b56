-- Where no test of the rules holds, each node is clear; and values of constants that may be regular expressions.
use Rattle.std.specs.Prelude.{ℕ, Bool, true, false, not, ◌&&◌, if◌then◌else◌, []}
use Rattle.std.proofs.Common.{◌≡◌, inl, inr, refl, sym, ap, ◌∙◌}
use Rattle.std.proofs.lemmas.Bool.{and_parts, and_from, not-true}
use Rattle.sp_types.specs.declared.words.Word.TheVariants as word_is
use Rattle.sp_types.specs.Types.{Ty, word, is_known}
use Rattle.sp_typed.specs.declared.words.OneOp.{OneOp}
use Rattle.sp_typed.specs.Exprs.{Expr, leaf, one, two, three, many, type_of, is_literal}
use Rattle.sp_typed.specs.Nodes.{nodes, holds}
use Rattle.sp_typed.proofs.Everywhere.{holds_everywhere}
use Rattle.sp_type_operands.specs.Operands.{unknown}
use Rattle.sp_type_operands.specs.Literals.{is_past, is_negative, number_of, type_has, is_typed_number}
use Rattle.sp_rule_bodies.specs.Known.{Known}
use Rattle.sp_rule_bodies.specs.Values.{is_regex, is_no_value, knows, value_tests}
use Rattle.sp_rule_bodies.specs.ExprTests.{expr_tests}
use Rattle.sp_rule_lists.specs.Bodies.{inside_tests, value_or_regex_tests}
use Rattle.sp_law_lists.specs.known_types.Full.{is_full, is_right}
use Rattle.sp_law_lists.specs.known_types.Clear.{none_hold, names_something, may_stand, is_clear}
use Rattle.sp_law_lists.proofs.known_types_lemmas.Full.{never, full_is_known}
use Rattle.sp_law_lists.proofs.known_types_lemmas.Tests.{Good, right_of, bare_is_unknown, is_whole}
use Rattle.sp_law_lists.proofs.whole_list_lemmas.None.{none_all, holds_both}

module _ (only : OneOp → Bool) (k : Known) (m : ℕ) where
  abbrev fine : Expr → Bool
  fine e = none_hold (expr_tests k m e)

  abbrev stands_fine : Expr → Bool
  stands_fine e = may_stand only e && fine e

  pub all_clear : (e : Expr) → holds names_something e ≡ true → holds (may_stand only) e ≡ true → none_hold (inside_tests k m e) ≡ true → holds (is_clear only k m) e ≡ true
  all_clear e named stands tests =
      let f = sym (holds_everywhere fine e) ∙ none_all (expr_tests k m) (nodes e) tests in
      let s = holds_both (may_stand only) fine stands_fine (λ x a b. and_from (may_stand only x) (fine x) a b) e stands f in
      holds_both names_something stands_fine (is_clear only k m) (λ x a b. and_from (names_something x) (stands_fine x) a b) e named s

-- what is no literal past its type
regex_has : (t : Ty) (negative : Bool) (n : ℕ) → is_regex t ≡ true → type_has t negative n ≡ true
regex_has (word word_is.Regex) negative n e = refl
regex_has _ negative n e = never e

pub regex_within : (e : Expr) → is_regex (type_of e) ≡ true → is_past e ≡ false
regex_within e r = by (is_literal e)
  where
    by : (b : Bool)
        → (b && (if b then not (type_has (type_of e) (is_negative e) (number_of e)) else (if is_typed_number e then not (type_has (type_of e) false (number_of e)) else false))) ≡ false
    by true = ap not (regex_has (type_of e) (is_negative e) (number_of e) r)
    by false = refl

regex_is_known : (t : Ty) → is_regex t ≡ true → t ≡ unknown → false ≡ true
regex_is_known (word word_is.Regex) r e = ap is_regex (sym e)
regex_is_known _ r e = never r

-- a value, or a regular expression
pub record Stands (e : Expr) : Type 0 where
  pub right : is_right e ≡ true
  pub within : is_past e ≡ false

pub stands_as_value : (m : ℕ) (e : Expr) → Good e → is_no_value e ≡ false → is_past e ≡ false → Stands e
stands_as_value m e g n p = record { right = right_of e g n; within = p }

stands_as_regex : (e : Expr) → Good e → is_regex (type_of e) ≡ true → Stands e
stands_as_regex e g r = record {
  right = elim g.1 [
    | inl h ↦ h
    | inr b ↦ never (regex_is_known (type_of e) r (bare_is_unknown e b))
  ];
  within = regex_within e r;
}

pub stands_by : (m : ℕ) (e : Expr) → Good e → none_hold (value_or_regex_tests m e) ≡ true → Stands e
stands_by m e g t = by (is_regex (type_of e)) refl t
  where
    by : (b : Bool) → is_regex (type_of e) ≡ b → none_hold (if b then [] else value_tests m e) ≡ true → Stands e
    by true r h = stands_as_regex e g r
    by false r h =
        let p = and_parts (not (is_no_value e)) (not (is_past e) && true) h in
        stands_as_value m e g (not-true (is_no_value e) p.0) (not-true (is_past e) (and_parts (not (is_past e)) true p.1).0)

pub full_when : (e : Expr) → is_right e ≡ true → is_full (type_of e) ≡ true
full_when (leaf h) r = (and_parts _ (is_full h.ty) r).1
full_when (one h a) r = (and_parts _ (is_full h.ty) r).1
full_when (two h a b) r = r
full_when (three h c a b) r = r
full_when (many h es) r = (and_parts _ (is_full h.ty) r).1

pub known_when : (e : Expr) → Stands e → knows e ≡ true
known_when e s = and_from (is_known (type_of e)) (not (is_past e)) (full_is_known (type_of e) (full_when e s.right)) (ap not s.within)

pub whole_when : (e : Expr) → Good e → Stands e → holds is_right e ≡ true
whole_when e g s = is_whole is_right e g.0 s.right
