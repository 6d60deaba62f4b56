-- A list in which nothing isn't built and no rule is broken is built: its functions, its hooks, and the values of its variables.
use Rattle.std.specs.Prelude.{true, not, ◌&&◌, ◌||◌, ◌++◌, slice_get}
use Rattle.std.specs.List.{list_all}
use Rattle.std.proofs.Common.{ℕ, ◌≡◌, Bool, refl, List, [], ◌∷◌, Option, Some, None}
use Rattle.std.proofs.lemmas.Bool.{and_parts, and_from}
use Rattle.sp_ast.specs.Trees.{Tree}
use Rattle.sp_rules.specs.declared.fault.Fault.{Fault}
use Rattle.sp_types.specs.Types.{Ty}
use Rattle.sp_typed.specs.Exprs.{Expr}
use Rattle.sp_typed.specs.Nodes.{nodes}
use Rattle.sp_typed.specs.Stmts.{Stmt}
use Rattle.sp_typed.specs.StmtNodes.{stmts_in, stmt_nodes}
use Rattle.sp_typed_units.specs.declared.declarations.Function.{Function}
use Rattle.sp_typed_units.specs.declared.declarations.Hook.{Hook}
use Rattle.sp_typed_units.specs.declared.declarations.Member.{Member}
use Rattle.sp_typed_units.specs.declared.declarations.Typed.{Typed}
use Rattle.sp_typed_units.specs.declared.declarations.Unit.{Unit as TypedUnit}
use Rattle.sp_typed_units.specs.declared.declarations.Variable.{Variable}
use Rattle.sp_solver.specs.Told.{told}
use Rattle.sp_names.specs.declared.rows.Declaration.{Declaration}
use Rattle.sp_names.specs.declared.sort.DeclSort.TheVariants as sort_is
use Rattle.sp_names.specs.Declarations.{rows, all_of}
use Rattle.sp_type_values.specs.Answers.{values}
use Rattle.sp_type_hook_rows.specs.Sites.{sites}
use Rattle.sp_type_hook_rows.specs.HookRows.{hook_rows}
use Rattle.sp_type_hooks.specs.Fields.{seen_of}
use Rattle.sp_type_list_context.specs.Contexts.{in_units, all_parameters}
use Rattle.sp_rule_bodies.specs.Known.{Known}
use Rattle.sp_rule_bodies.specs.ExprTests.{expr_tests}
use Rattle.sp_rule_bodies.specs.StmtTests.{stmt_tests}
use Rattle.sp_rule_bodies.specs.Sweeps.{end_tests}
use Rattle.sp_rule_lists.specs.Lists.{all_tests, option_tests}
use Rattle.sp_rule_lists.specs.Names.{is_of_nothing, expr_names, stmt_names, variable_names, order_names, unit_names, hook_names, function_names}
use Rattle.sp_rule_lists.specs.Slots.{for_slots}
use Rattle.sp_rule_lists.specs.Told.{known_in, values_of}
use Rattle.sp_rule_bodies.specs.Values.{written_tests}
use Rattle.sp_rule_lists.specs.Bodies.{body_tests, parameter_tests, wanted_of, given_tests, function_tests, priority_tests, hook_tests, order_tests, member_type, first_value_tests, variable_tests}
use Rattle.sp_rule_lists.specs.Wholes.{unit_tests}
use Rattle.sp_type_declarations.specs.FunctionsAndOrders.{ranks}
use Rattle.sp_type_answers.specs.Settled.{Answers}
use Rattle.sp_type_answers.specs.Lists.{hooks_in, typed_of}
use Rattle.sp_type_answers.specs.Rules.{Breaks}
use Rattle.sp_law_lists.specs.known_types.Full.{is_full}
use Rattle.sp_law_lists.specs.known_types.Clear.{none_hold}
use Rattle.sp_law_lists.specs.whole_list.Whole.{is_known_if, is_known_body, is_known_parameter, is_known_member, is_known_variable, is_known_unit, is_known_function, is_known_hook}
use Rattle.sp_law_lists.proofs.whole_list_lemmas.None.{none_parts, none_all, expr_clear, stmt_clear}
use Rattle.sp_law_lists.specs.known_constants.Given.{asked}
use Rattle.sp_law_lists.proofs.known_constants_lemmas.Declarations.{AllOf}
use Rattle.sp_law_lists.proofs.unbroken_list_lemmas.Split.{are_named, are_asked}
use Rattle.sp_law_lists.proofs.known_units_lemmas.Values.{target_value}
use Rattle.sp_law_lists.proofs.known_hooks_lemmas.Lists.{own_tests}
use Rattle.sp_law_lists.specs.known_statements.Built.{stmt_built}
use Rattle.sp_law_lists.specs.passing_list.Built.{function_built, hook_built, value_built, variable_built, unit_built}
use Rattle.sp_law_lists.proofs.passing_list_lemmas.Early.{stmt_early}
use Rattle.sp_law_lists.proofs.passing_list_lemmas.BuiltTrees.{IsBuilt}
use Rattle.sp_law_lists.proofs.passing_list_lemmas.EarlyLists.{FunctionEarly, HookEarly, ValueEarly, VariableEarly, UnitEarly, functions_early, hooks_early, units_early}
use Rattle.sp_law_lists.proofs.passing_list_lemmas.BuiltNodes.{value_is_built, stmt_is_built}

-- what follows from what holds of each and from three tests at each is true of all
joined : {A : Type 0} (P : A → Type 0) (p q r s : A → Bool) → ((x : A) → P x → p x ≡ true → q x ≡ true → r x ≡ true → s x ≡ true) → (xs : List A) → AllOf P xs → list_all p xs ≡ true → list_all q xs ≡ true → list_all r xs ≡ true → list_all s xs ≡ true
joined P p q r s f [] all a b c = refl
joined P p q r s f (x ∷ xs) all a b c =
    let i = and_parts (p x) (list_all p xs) a in
    let j = and_parts (q x) (list_all q xs) b in
    let l = and_parts (r x) (list_all r xs) c in
    and_from (s x) (list_all s xs) (f x all.0 i.0 j.0 l.0) (joined P p q r s f xs all.1 i.1 j.1 l.1)

-- a body
body_is_built : (k : Known) (wanted : Option Ty) (m : ℕ) (s : Stmt) → stmt_early s ≡ true → none_hold (stmt_names m s) ≡ true → none_hold (body_tests k wanted m s) ≡ true → is_known_body s ≡ true → stmt_built s ≡ true
body_is_built k wanted m s early names tests right =
    let p = none_parts (all_tests (stmt_tests k wanted m) (stmts_in s)) (all_tests (expr_tests k m) (stmt_nodes s)) tests in
    let quiet = none_all (stmt_tests k wanted m) (stmts_in s) p.0 in
    let clear = stmt_clear k m s names (none_all (expr_tests k m) (stmt_nodes s) p.1) in
    stmt_is_built k m wanted s early clear quiet right

-- the value of a variable
value_of_variable : (k : Known) (m : ℕ) (t : Ty) (o : Option Expr) → ValueEarly o → none_hold (option_tests (expr_names m) o) ≡ true → none_hold (option_tests (first_value_tests k m t) o) ≡ true → is_known_if o ≡ true → value_built o ≡ true
value_of_variable k m t None early names tests right = refl
value_of_variable k m t (Some e) early names tests right =
    let is = target_value k m t e names tests in
    let clear = expr_clear k m e names (none_all (expr_tests k m) (nodes e) is.tests) in
    value_is_built k m e early clear right is.valued

variable_is_built : (k : Known) (m : ℕ) (members : List Member) (v : Variable) → VariableEarly v → none_hold (variable_names m v) ≡ true → none_hold (variable_tests k m members v) ≡ true → is_known_variable v ≡ true → variable_built v ≡ true
variable_is_built k m members v early names tests right =
    let t = member_type (slice_get members v.member) in
    let n = (and_parts (not v.taken) (none_hold (option_tests (expr_names m) v.value)) names).1 in
    value_of_variable k m t v.value early n (none_parts (written_tests m v.written) (option_tests (first_value_tests k m t) v.value) tests).1 right

unit_is_built : (k : Known) (u : TypedUnit) → UnitEarly u → none_hold (unit_names u) ≡ true → none_hold (unit_tests k u) ≡ true → is_known_unit u ≡ true → unit_built u ≡ true
unit_is_built k u early names tests right =
    let m = u.«module» in
    let x = none_parts (all_tests order_names u.orders) _ names in
    let y = none_parts (all_tests (variable_names m) u.variables) _ x.1 in
    let p = none_parts (all_tests (parameter_tests m) u.parameters) _ tests in
    let q = none_parts (all_tests (order_tests k) u.orders) _ p.1 in
    let o = none_parts (all_tests (variable_tests k m u.members) u.variables) _ q.1 in
    let r = and_parts (list_all is_known_parameter u.parameters) _ right in
    let s = and_parts (list_all is_known_member u.members) _ r.1 in
    let v = and_parts (list_all is_known_variable u.variables) _ s.1 in
    joined VariableEarly (λ w. none_hold (variable_names m w)) (λ w. none_hold (variable_tests k m u.members w)) is_known_variable variable_built (variable_is_built k m u.members) u.variables early
    (none_all (variable_names m) u.variables y.0) (none_all (variable_tests k m u.members) u.variables o.0) v.0

module _ (t : Typed) where
  function_is_built : (x : Function) → FunctionEarly x → none_hold (function_names x) ≡ true → none_hold (function_tests t (values_of t) x) ≡ true → is_known_function x ≡ true → function_built x ≡ true
  function_is_built x early names tests right =
      let m = x.«module» in
      let wanted = wanted_of x.written x.result in
      let k = known_in t (values_of t) (for_slots x.body) in
      let p = none_parts (all_tests (parameter_tests m) x.parameters) (option_tests (written_tests m) x.written ++ given_tests t (values_of t) wanted x) tests in
      let q = none_parts (option_tests (written_tests m) x.written) (given_tests t (values_of t) wanted x) p.1 in
      let r = none_parts (end_tests wanted m x.span x.body) (body_tests k wanted m x.body) q.1 in
      let s = and_parts (list_all is_known_parameter x.parameters) (is_full x.result && is_known_body x.body) right in
      body_is_built k wanted m x.body early names r.1 (and_parts (is_full x.result) (is_known_body x.body) s.1).1

  hook_is_built : (x : Hook) → HookEarly x → none_hold (hook_names x) ≡ true → none_hold (hook_tests t (values_of t) x) ≡ true → is_known_hook x ≡ true → hook_built x ≡ true
  hook_is_built x early names tests right =
      let m = x.«module» in
      let k = known_in t (values_of t) (for_slots x.body) in
      let own = (own_tests t (values_of t) x names tests).2 in
      let n = none_parts (option_tests (expr_names m) x.priority) (stmt_names m x.body) (and_parts (not (is_of_nothing x.of || not x.fits)) _ names).1 in
      let p = none_parts (all_tests (parameter_tests m) x.parameters) _ own in
      let q = none_parts (option_tests (priority_tests (known_in t (values_of t) []) m) x.priority) (body_tests k None m x.body) p.1 in
      let r = and_parts (list_all is_known_parameter x.parameters) (is_known_if x.priority && is_known_body x.body) right in
      body_is_built k None m x.body early n.1 q.1 (and_parts (is_known_if x.priority) (is_known_body x.body) r.1).1

-- A list is built.
module _ (list : List Tree) (a : Answers list) (unbroken : (x : Fault) → Breaks list x → ⊥) (declarations : AllOf (λ (d : Declaration). IsBuilt d.tree) (rows list)) where
  abbrev t : Typed
  t = typed_of list a

  abbrev f : ℕ → Option Ty
  f = told a.types

  pub functions_are_built : list_all is_known_function t.functions ≡ true → list_all function_built t.functions ≡ true
  functions_are_built known =
      joined FunctionEarly (λ x. none_hold (function_names x)) (λ x. none_hold (function_tests t (values_of t) x)) is_known_function function_built (function_is_built t) t.functions
      (functions_early list f declarations (told a.values) a.stored (all_of sort_is.Function list)) (none_all function_names t.functions (are_named list a unbroken).functions) (none_all (function_tests t (values_of t)) t.functions (are_asked list a unbroken).functions) known

  pub hooks_are_built : list_all is_known_hook t.hooks ≡ true → list_all hook_built t.hooks ≡ true
  hooks_are_built known =
      let seen = seen_of list (in_units list f (told a.values) (told a.stored)) (values list f (told a.values)) (sites list) in
      joined HookEarly (λ x. none_hold (hook_names x)) (λ x. none_hold (hook_tests t (values_of t) x)) is_known_hook hook_built (hook_is_built t) t.hooks
      (hooks_early list f declarations (told a.values) a.stored (ranks list f (told a.values)) seen (all_parameters list f (told a.values) (told a.stored))) (none_all hook_names t.hooks (are_named list a unbroken).hooks) (none_all (hook_tests t (values_of t)) t.hooks (are_asked list a unbroken).hooks) known

  pub units_are_built : list_all is_known_unit t.units ≡ true → list_all unit_built t.units ≡ true
  units_are_built known =
      let k = asked t in
      joined UnitEarly (λ x. none_hold (unit_names x)) (λ x. none_hold (unit_tests k x)) is_known_unit unit_built (unit_is_built k) t.units
      (units_early list f declarations (told a.values) a.stored (sites list) (hook_rows list f) (hooks_in list f (told a.values) a.stored (sites list) (hook_rows list f))) (none_all unit_names t.units (are_named list a unbroken).units) (none_all (unit_tests k) t.units (are_asked list a unbroken).units) known
