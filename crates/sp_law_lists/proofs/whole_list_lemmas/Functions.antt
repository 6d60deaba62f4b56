-- Functions in which no test holds: all is known of them.
use Rattle.std.specs.Prelude.{ℕ, Bool, true, false, ◌&&◌, List, [], ◌++◌, Option, Some, None, is_none}
use Rattle.std.specs.List.{list_all}
use Rattle.std.proofs.Common.{◌≡◌, refl}
use Rattle.std.proofs.lemmas.Bool.{and_parts, and_from}
use Rattle.sp_base.specs.declared.places.Span.{Span}
use Rattle.sp_ast.specs.Trees.{Tree, Trees, absent, row, node, none, more}
use Rattle.sp_ast.specs.declared.forms.Form.TheVariants as form_is
use Rattle.sp_ast.specs.declared.forms.DeclForm.TheVariants as decl_is
use Rattle.sp_types.specs.Types.{Ty}
use Rattle.sp_typed.specs.StmtNodes.{stmts_in, stmt_nodes}
use Rattle.sp_typed_units.specs.declared.declarations.Parameter.{Parameter}
use Rattle.sp_typed_units.specs.declared.declarations.Typed.{Typed}
use Rattle.sp_type_context.specs.declared.places.Place.TheVariants.{Value}
use Rattle.sp_type_context.specs.Places.{parameter_place}
use Rattle.sp_type_context.specs.Contexts.{Around}
use Rattle.sp_type_stmts.specs.declared.body.Body.{Body}
use Rattle.sp_type_stmts.specs.Statements.{typed_body, written_type, written_of}
use Rattle.sp_type_scopes.specs.Parameters.{parameter_of, parameters_in, with_parameters}
use Rattle.sp_type_functions.specs.Functions.{or_void, body_giving, function_of}
use Rattle.sp_type_constants.specs.Known.{Known as Values}
use Rattle.sp_rule_bodies.specs.Known.{Known}
use Rattle.sp_rule_bodies.specs.Values.{misplaced_at, written_tests}
use Rattle.sp_rule_bodies.specs.ExprTests.{expr_tests}
use Rattle.sp_rule_bodies.specs.StmtTests.{stmt_tests}
use Rattle.sp_rule_bodies.specs.Sweeps.{end_tests}
use Rattle.sp_rule_lists.specs.Lists.{all_tests, option_tests}
use Rattle.sp_rule_lists.specs.Names.{stmt_names}
use Rattle.sp_rule_lists.specs.Slots.{for_slots}
use Rattle.sp_rule_lists.specs.Told.{known_in}
use Rattle.sp_rule_lists.specs.Bodies.{body_tests, parameter_tests, wanted_of, given_tests, function_tests}
use Rattle.sp_law_lists.specs.known_types.Full.{is_full}
use Rattle.sp_law_lists.specs.known_types.Clear.{none_hold, any_op}
use Rattle.sp_law_lists.specs.known_types.Given.{IsKnown}
use Rattle.sp_law_lists.proofs.known_types_lemmas.Full.{never}
use Rattle.sp_law_lists.proofs.known_types_lemmas.Bodies.{stmt_whole}
use Rattle.sp_law_lists.specs.known_bodies.Slots.{IsBlind}
use Rattle.sp_law_lists.specs.known_bodies.Decided.{Decides, DecidesUnder}
use Rattle.sp_law_lists.specs.known_bodies.Trees.{is_body}
use Rattle.sp_law_lists.proofs.known_bodies_lemmas.Stmts.{body_known}
use Rattle.sp_law_lists.specs.whole_list.Whole.{is_known_body, is_known_parameter, is_known_function}
use Rattle.sp_law_lists.specs.whole_list.Trees.{are_parameters, is_result, is_function}
use Rattle.sp_law_lists.proofs.whole_list_lemmas.None.{none_parts, none_all, stmt_clear}
use Rattle.sp_law_lists.proofs.whole_list_lemmas.Heads.{parameters_full, parameters_known}

pub placed : (m : ℕ) (o : Option Span) → none_hold (misplaced_at m o) ≡ true → is_none o ≡ true
placed m None e = refl
placed m (Some span) e = never e

module _ (k : Known) (m : ℕ) (is_type is_path : Tree → Bool) (blind : IsBlind k) where
  -- a body in which no test holds, where all that can be named is known
  pub body_whole : (g : Around) (b : Body) (wanted : Option Ty) (slots : List Ty) (t : Tree) → IsKnown g any_op k m is_type is_path → DecidesUnder g any_op k m is_type is_path → is_body is_type is_path t ≡ true → none_hold (stmt_names m (typed_body b g slots t).0) ≡ true → none_hold (body_tests k wanted m (typed_body b g slots t).0) ≡ true
      → is_known_body (typed_body b g slots t).0 ≡ true
  body_whole g b wanted slots t known decides is names tests =
      let s = (typed_body b g slots t).0 in
      let p = none_parts (all_tests (stmt_tests k wanted m) (stmts_in s)) (all_tests (expr_tests k m) (stmt_nodes s)) tests in
      let quiet = none_all (stmt_tests k wanted m) (stmts_in s) p.0 in
      let clear = stmt_clear k m s names (none_all (expr_tests k m) (stmt_nodes s) p.1) in
      stmt_whole k wanted m s (body_known any_op k m is_type is_path blind b wanted g known decides slots t is clear quiet) quiet

  module _ (g : Around) (known : IsKnown g any_op k m is_type is_path) where
    -- parameters
    pub parameters_whole : (ps : Trees) → are_parameters is_type ps ≡ true → none_hold (all_tests (parameter_tests m) (parameters_in g ps)) ≡ true → parameters_full (parameters_in g ps) ≡ true
    parameters_whole none is tests = refl
    parameters_whole (more (node (form_is.Parameter inout) span (more name (more t none))) ps) is tests =
        let are = and_parts (is_type t) (are_parameters is_type ps) is in
        let first = parameter_of g inout name t in
        let p = none_parts (parameter_tests m first) (all_tests (parameter_tests m) (parameters_in g ps)) tests in
        let place = parameter_place inout in
        and_from (is_full (g.type_in place t)) (parameters_full (parameters_in g ps)) (known.type_in place t are.0 (placed m (g.written place t).misplaced p.0)) (parameters_whole ps are.1 p.1)
    parameters_whole (more _ ps) is tests = parameters_whole ps is tests

    -- a result
    result_of : (t : Tree) → is_type t ≡ true → none_hold (written_tests m (g.written Value t)) ≡ true → is_full (g.type_in Value t) ≡ true
    result_of t is tests = known.type_in Value t is (placed m (g.written Value t).misplaced tests)

    pub result_whole : (t : Tree) → is_result is_type t ≡ true → none_hold (option_tests (written_tests m) (written_of g Value t)) ≡ true → is_full (or_void (written_type g Value t)) ≡ true
    result_whole absent is tests = refl
    result_whole (row ts) is tests = result_of (row ts) is tests
    result_whole (node form span ts) is tests = result_of (node form span ts) is tests

-- A function of the typed list t.
pub function_whole : (t : Typed) (values : Values) (g : Around) (owner : List ℕ) (m : ℕ) (is_type is_path : Tree → Bool) (d : Tree)
    → ((slots : List ℕ) → IsBlind (known_in t values slots)) → ((slots : List ℕ) → IsKnown g any_op (known_in t values slots) m is_type is_path)
    → ((slots : List ℕ) (ps : List Parameter) → parameters_full ps ≡ true → Decides (with_parameters 0 false ps g) any_op (known_in t values slots) m is_type is_path × DecidesUnder (with_parameters 0 false ps g) any_op (known_in t values slots) m is_type is_path)
    → is_function is_type is_path d ≡ true → none_hold (stmt_names m (function_of g owner m d).body) ≡ true → none_hold (function_tests t values (function_of g owner m d)) ≡ true → is_known_function (function_of g owner m d) ≡ true
function_whole t values g owner m is_type is_path (node (form_is.Decl (decl_is.Function public)) span (more name (more (row ps) (more result (more body none))))) blind known decides is names tests =
    let f = function_of g owner m (node (form_is.Decl (decl_is.Function public)) span (more name (more (row ps) (more result (more body none))))) in
    let parameters = parameters_in g ps in
    let wanted = wanted_of f.written f.result in
    let slots = for_slots f.body in
    let k = known_in t values slots in
    let are = and_parts (are_parameters is_type ps) (is_result is_type result && is_body is_type is_path body) is in
    let rest = and_parts (is_result is_type result) (is_body is_type is_path body) are.1 in
    let p = none_parts (all_tests (parameter_tests m) parameters) (option_tests (written_tests m) f.written ++ given_tests t values wanted f) tests in
    let q = none_parts (option_tests (written_tests m) f.written) (given_tests t values wanted f) p.1 in
    let r = none_parts (end_tests wanted m f.span f.body) (body_tests k wanted m f.body) q.1 in
    let full = parameters_whole k m is_type is_path (blind slots) g (known slots) ps are.0 p.0 in
    let decided = decides slots parameters full in
    let inner = parameters_known g any_op k m is_type is_path (known slots) 0 false parameters decided.0 full in
    let whole = body_whole k m is_type is_path (blind slots) (with_parameters 0 false parameters g) (body_giving (written_type g Value result)) wanted [] body inner decided.1 rest.1 names r.1 in
    and_from (list_all is_known_parameter parameters) (is_full f.result && is_known_body f.body) full
    (and_from (is_full f.result) (is_known_body f.body) (result_whole k m is_type is_path (blind slots) g (known slots) result rest.0 q.0) whole)
function_whole t values g owner m is_type is_path _ blind known decides is names tests = never is
