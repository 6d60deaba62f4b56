-- A body passes where it keeps what is named round it, and no rule is broken in it.
use Rattle.std.specs.Prelude.{Bool, true, false, ◌&&◌, ◌++◌, ◌-◌, if◌then◌else◌, nat_lt, length}
use Rattle.std.specs.List.{list_all}
use Rattle.std.proofs.Common.{ℕ, ◌≡◌, ◌+◌, zero, suc, refl, sym, ap, subst, ◌∙◌, arith, List, [], ◌∷◌, Option, Some, None, slice_get}
use Rattle.std.proofs.lemmas.Bool.{and_parts}
use Rattle.std.proofs.lemmas.Bool.Decides.{nat_tests}
use Rattle.sp_ast.specs.Trees.{Tree}
use Rattle.sp_types.specs.Types.{Ty}
use Rattle.sp_types.proofs.Same.{same_itself}
use Rattle.sp_typed.specs.StmtNodes.{stmts_in, stmt_nodes}
use Rattle.sp_typed_units.specs.declared.declarations.Function.{Function}
use Rattle.sp_typed_units.specs.declared.declarations.Parameter.{Parameter}
use Rattle.sp_typed_units.specs.declared.declarations.Typed.{Typed}
use Rattle.sp_type_context.specs.Contexts.{Around as Names}
use Rattle.sp_type_stmts.specs.declared.body.Body.{Body as Typing}
use Rattle.sp_type_stmts.specs.Statements.{typed_body}
use Rattle.sp_type_constants.specs.Known.{Known as Values}
use Rattle.sp_rule_bodies.specs.Known.{Known}
use Rattle.sp_rule_bodies.specs.ExprTests.{expr_tests}
use Rattle.sp_rule_bodies.specs.StmtTests.{stmt_tests}
use Rattle.sp_rule_lists.specs.Lists.{all_tests}
use Rattle.sp_rule_lists.specs.Names.{stmt_names}
use Rattle.sp_rule_lists.specs.Told.{known_in, function_takes, parameter_type}
use Rattle.sp_rule_lists.specs.Bodies.{body_tests}
use Rattle.sp_code_meaning.specs.Layouts.{Layout}
use Rattle.sp_law_lists.specs.known_types.Full.{is_full}
use Rattle.sp_law_lists.specs.known_types.Clear.{none_hold, any_op}
use Rattle.sp_law_lists.specs.known_types.Given.{IsKnown}
use Rattle.sp_law_lists.specs.known_literals.Widened.{AreWidened}
use Rattle.sp_law_lists.specs.known_bodies.Slots.{IsBlind}
use Rattle.sp_law_lists.specs.known_bodies.Decided.{DecidesUnder}
use Rattle.sp_law_lists.specs.known_bodies.Trees.{is_body}
use Rattle.sp_law_lists.specs.whole_list.Whole.{is_known_body, is_known_parameter, is_known_function}
use Rattle.sp_law_lists.proofs.whole_list_lemmas.Modules.{none_found, some_found}
use Rattle.sp_law_lists.proofs.whole_list_lemmas.None.{none_parts, none_all, stmt_clear}
use Rattle.sp_law_lists.specs.fit_expr.Around.{Around}
use Rattle.sp_law_lists.specs.fit_expr.Lists.{is_type}
use Rattle.sp_law_lists.specs.fit_expr.Test.{local_is, unit_parameter, seen_parameter}
use Rattle.sp_law_lists.specs.fit_body.Bodies.{Body}
use Rattle.sp_law_lists.specs.fit_body.Test.{stmt_passes}
use Rattle.sp_law_lists.specs.fit_list.Locals.{parameter_types}
use Rattle.sp_law_lists.specs.known_kinds.Made.{AreMade, IsAsked}
use Rattle.sp_law_lists.specs.known_kinds.Kept.{SlotsKept, OffsetKept, ParametersKept}
use Rattle.sp_law_lists.specs.known_statements.Built.{stmt_built}
use Rattle.sp_law_lists.specs.known_statements.Ready.{returns_so}
use Rattle.sp_law_lists.proofs.known_statements_lemmas.Stmts.{stmt_so}
use Rattle.sp_law_lists.proofs.known_statements_lemmas.Typing.{body_is_ready}
use Rattle.sp_law_lists.proofs.known_statements_lemmas.Declared.{body_declares}
use Rattle.sp_law_lists.proofs.passing_list_lemmas.Members.{round_of, found_below}

-- what stands behind others in a row
pub stands_behind : (xs ys : List Ty) (n : ℕ) → slice_get (xs ++ ys) (length xs + n) ≡ slice_get ys n
stands_behind [] ys n = (let e : 0 + n ≡ n = omega arith in ap (slice_get ys) e)
stands_behind (x ∷ xs) ys n =
    let e : suc (length xs) + n ≡ suc (length xs + n) = omega arith in
    ap (slice_get (x ∷ (xs ++ ys))) e ∙ stands_behind xs ys n

pub as_many_types : (ps : List Parameter) → length (parameter_types ps) ≡ length ps
as_many_types [] = refl
as_many_types (p ∷ ps) = ap suc (as_many_types ps)

pub type_at : (ps : List Parameter) (ts : List Ty) (n : ℕ) (p : Parameter) → slice_get ps n ≡ Some p → slice_get (parameter_types ps ++ ts) n ≡ Some p.ty
type_at [] ts n p e = none_found p e
type_at (x ∷ ps) ts zero p e = ap (λ (y : Parameter). Some y.ty) (some_found x p e)
type_at (x ∷ ps) ts (suc n) p e = type_at ps ts n p e

found_within : (ps : List Parameter) (n : ℕ) (p : Parameter) → slice_get ps n ≡ Some p → nat_lt n (length ps) ≡ true
found_within ps n p e = (let lt = found_below ps n p e in grind (arith, nat_tests))

-- a type that is there is this one
pub type_is : (o : Option Ty) (t : Ty) → o ≡ Some t → is_type o t ≡ true
type_is o t e = subst (λ x. is_type x t ≡ true) (sym e) (same_itself t)

-- what is asked of a call is what the list says, and parameters of functions have full types
parameter_full : (ps : List Parameter) (k : ℕ) (t : Ty) → list_all is_known_parameter ps ≡ true → parameter_type (slice_get ps k) ≡ Some t → is_full t ≡ true
parameter_full [] k t h e = none_found t e
parameter_full (p ∷ ps) zero t h e = subst (λ u. is_full u ≡ true) (some_found p.ty t e) (and_parts (is_full p.ty) (list_all is_known_parameter ps) h).0
parameter_full (p ∷ ps) (suc k) t h e = parameter_full ps k t (and_parts (is_full p.ty) (list_all is_known_parameter ps) h).1 e

takes_full : (xs : List Function) (n k : ℕ) (t : Ty) → list_all is_known_function xs ≡ true → function_takes (slice_get xs n) k ≡ Some t → is_full t ≡ true
takes_full [] n k t all e = none_found t e
takes_full (x ∷ xs) zero k t all e =
    let p = and_parts (is_known_function x) (list_all is_known_function xs) all in
    parameter_full x.parameters k t (and_parts (list_all is_known_parameter x.parameters) (is_full x.result && is_known_body x.body) p.0).0 e
takes_full (x ∷ xs) (suc n) k t all e = takes_full xs n k t (and_parts (is_known_function x) (list_all is_known_function xs) all).1 e

pub calls_asked : (t : Typed) (values : Values) (slots : List ℕ) (places : Layout) (locals : List Ty) (unit : Option ℕ) → list_all is_known_function t.functions ≡ true → IsAsked (round_of t places locals unit) (known_in t values slots)
calls_asked t values slots places locals unit all = record { target = λ op u n. refl; full = λ n k u e. takes_full t.functions n k u all e }

-- where a body keeps what it is handed: its parameters, and behind these its slots
abbrev pub handed : ℕ → Layout
handed own = record { own = own; current = 0; offset = None; first = own }

module _ (t : Typed) (ps : List Parameter) (slots : List Ty) (unit : Option ℕ) where
  abbrev pub body_round : Around
  body_round = round_of t (handed (length ps)) (parameter_types ps ++ slots) unit

  pub parameters_kept : ParametersKept body_round 0 ps
  parameters_kept n p e =
      let z : n ≡ 0 + n = omega arith in
      subst (λ i. seen_parameter body_round i p.ty ≡ true) z
      (subst (λ b. (if b then local_is body_round n p.ty else unit_seen n p.ty) ≡ true) (sym (found_within ps n p e)) (type_is (slice_get (parameter_types ps ++ slots) n) p.ty (type_at ps slots n p e)))
    where
      unit_seen : ℕ → Ty → Bool
      unit_seen n u = unit_parameter body_round unit (n - length ps) u

  pub slots_kept : SlotsKept body_round slots
  slots_kept n u e =
      let at : slice_get (parameter_types ps ++ slots) (length ps + n) ≡ Some u = ap (λ k. slice_get (parameter_types ps ++ slots) (k + n)) (sym (as_many_types ps)) ∙ stands_behind (parameter_types ps) slots n ∙ e in
      type_is (slice_get (parameter_types ps ++ slots) (length ps + n)) u at

-- A body of which all that is named round it is known and kept.
module _ (body : Body) (g : Names) (b : Typing) (k : Known) (m : ℕ) (is_type_tree is_path : Tree → Bool) where
  pub body_so : IsBlind k → IsKnown g any_op k m is_type_tree is_path → DecidesUnder g any_op k m is_type_tree is_path → AreMade body.around g → AreWidened g → IsAsked body.around k → OffsetKept body.around → returns_so body.returns b.result ≡ true
      → (tree : Tree) → is_body is_type_tree is_path tree ≡ true → SlotsKept body.around (typed_body b g [] tree).1 → stmt_built (typed_body b g [] tree).0 ≡ true
      → none_hold (stmt_names m (typed_body b g [] tree).0) ≡ true → none_hold (body_tests k b.result m (typed_body b g [] tree).0) ≡ true → is_known_body (typed_body b g [] tree).0 ≡ true
      → stmt_passes body false (typed_body b g [] tree).0 ≡ true
  body_so blind known decides made wide asked offset so tree is slots built names tests right =
      let s = (typed_body b g [] tree).0 in
      let p = none_parts (all_tests (stmt_tests k b.result m) (stmts_in s)) (all_tests (expr_tests k m) (stmt_nodes s)) tests in
      let quiet = none_all (stmt_tests k b.result m) (stmts_in s) p.0 in
      let clear = stmt_clear k m s names (none_all (expr_tests k m) (stmt_nodes s) p.1) in
      stmt_so body b.result k m asked offset so false s (body_declares any_op k m is_type_tree is_path blind b b.result g known decides [] tree is clear quiet)
      (body_is_ready body g made wide b [] tree slots built) clear quiet right
