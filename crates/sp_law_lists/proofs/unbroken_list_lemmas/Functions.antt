-- Functions of a list in which no rule is broken: what they give has a full type, and all is known of them.
use Rattle.std.specs.Prelude.{◌==◌, if◌then◌else◌}
use Rattle.std.proofs.Common.{ℕ, ◌≡◌, ◌+◌, zero, suc, Bool, true, false, ◌&&◌, refl, sym, ap, subst, ◌∙◌, arith, List, [], ◌∷◌, ◌++◌, length, take, Option, Some, None, slice_get}
use Rattle.std.proofs.lemmas.Bool.{and_parts}
use Rattle.sp_base.specs.declared.places.Span.{Span}
use Rattle.sp_ast.specs.Trees.{Tree, Trees, absent, row, node, none, more}
use Rattle.sp_ast.specs.Slots.{slots, fill, is_formed, are_formed}
use Rattle.sp_ast.specs.Groups.{is_of, are_of, fits}
use Rattle.sp_ast.specs.declared.groups.Group.TheVariants as group_is
use Rattle.sp_ast.specs.declared.groups.Sort.TheVariants as slot_is
use Rattle.sp_ast.specs.declared.forms.Form.TheVariants as form_is
use Rattle.sp_ast.specs.declared.forms.DeclForm.TheVariants as decl_is
use Rattle.sp_ast.specs.declared.forms.TypeForm.TheVariants as type_is
use Rattle.sp_rules.specs.declared.fault.Fault.{Fault}
use Rattle.sp_types.specs.Types.{Ty}
use Rattle.sp_typed_units.specs.declared.declarations.Function.{Function}
use Rattle.sp_names.specs.declared.rows.Declaration.{Declaration}
use Rattle.sp_names.specs.declared.sort.DeclSort.{DeclSort}
use Rattle.sp_names.specs.declared.sort.DeclSort.TheVariants as sort_is
use Rattle.sp_names.specs.Declarations.{rows, all_from, all_of, is_sort, sort_number, sort_of, sort_or, sort_at, type_sort, type_tree_of, declaration_at, number_in, number_at, module_name, module_at}
use Rattle.sp_names.specs.Names.{declaration_of}
use Rattle.sp_names.specs.Types.{mentions_in}
use Rattle.sp_type_modules.specs.Heads.{result_type, type_or_void}
use Rattle.sp_type_modules.specs.Written.{type_at, written_in}
use Rattle.sp_type_context.specs.declared.places.Place.TheVariants as place_is
use Rattle.sp_type_context.specs.Contexts.{Around}
use Rattle.sp_type_stmts.specs.Statements.{written_type, written_of}
use Rattle.sp_type_functions.specs.Functions.{or_void, function_of}
use Rattle.sp_type_scopes.specs.Parameters.{parameters_in}
use Rattle.sp_rule_bodies.specs.Values.{written_tests}
use Rattle.sp_rule_lists.specs.Lists.{all_tests, option_tests}
use Rattle.sp_rule_lists.specs.Bodies.{parameter_tests, wanted_of, given_tests, function_tests}
use Rattle.sp_typed_units.specs.declared.declarations.Typed.{Typed}
use Rattle.sp_type_constants.specs.Known.{Known as Values}
use Rattle.sp_type_values.specs.declared.answer.Answer.{Answer}
use Rattle.sp_type_list_context.specs.Contexts.{in_module}
use Rattle.sp_type_declarations.specs.FunctionsAndOrders.{declared_function, functions_of}
use Rattle.sp_law_lists.specs.known_types.Full.{is_full}
use Rattle.sp_law_lists.specs.known_types.Clear.{none_hold}
use Rattle.sp_law_lists.proofs.known_types_lemmas.Full.{never}
use Rattle.sp_law_lists.specs.whole_list.Known.{HasType}
use Rattle.sp_law_lists.specs.whole_list.Types.{is_type}
use Rattle.sp_law_lists.proofs.whole_list_lemmas.None.{none_parts}
use Rattle.sp_law_lists.proofs.whole_list_lemmas.Types.{type_full, each_has}
use Rattle.sp_law_lists.proofs.whole_list_lemmas.Functions.{placed}
use Rattle.sp_law_lists.proofs.whole_list_lemmas.Modules.{none_found, some_found}
use Rattle.sp_law_lists.specs.known_constants.Fine.{IsFine}
use Rattle.sp_law_lists.proofs.known_constants_lemmas.Fine.{inside, first, rest, formed, type_fine}

abbrev pub is_function_sort : DeclSort → Bool
is_function_sort sort_is.Function = true
is_function_sort _ = false

no_type_sort : (t : Tree) → is_function_sort (type_sort t) ≡ false
no_type_sort (node (form_is.Type type_is.Unit) span ts) = refl
no_type_sort (node (form_is.Type type_is.Enum) span ts) = refl
no_type_sort (node (form_is.Type _) span ts) = refl
no_type_sort (node _ span ts) = refl
no_type_sort absent = refl
no_type_sort (row ts) = refl

-- parts of a wrong number
no_part : {X : Type 0} (a b : Bool) → ((a && false) && b) ≡ true → X
no_part true b e = never e
no_part false b e = never e

no_parts : {X : Type 0} (a b c : Bool) → ((a && (b && false)) && c) ≡ true → X
no_parts true b c e = no_part b c e
no_parts false b c e = never e

no_result : {X : Type 0} (a b c d : Bool) → ((a && (b && (c && false))) && d) ≡ true → X
no_result true b c d e = no_parts b c d e
no_result false b c d e = never e

no_body : {X : Type 0} (a b c d e : Bool) → ((a && (b && (c && (d && false)))) && e) ≡ true → X
no_body true b c d e h = no_result b c d e h
no_body false b c d e h = never h

-- the tree of a function, and its parts
abbrev pub whole : Bool → Span → Tree → Trees → Tree → Tree → Tree
whole p span name ps result body = node (form_is.Decl (decl_is.Function p)) span (more name (more (row ps) (more result (more body none))))

pub record IsWhole (x : Tree) : Type 0 where
  pub public : Bool
  pub span : Span
  pub name : Tree
  pub parameters : Trees
  pub result : Tree
  pub body : Tree
  pub is : x ≡ whole public span name parameters result body

pub shape : (x : Tree) → is_function_sort (sort_of x) ≡ true → is_formed x ≡ true → IsWhole x
shape (node (form_is.Decl (decl_is.Function p)) span (more name (more (row ps) (more result (more body none))))) s h =
    record { public = p; span = span; name = name; parameters = ps; result = result; body = body; is = refl }
shape (node (form_is.Decl (decl_is.Function p)) span none) s h = never h
shape (node (form_is.Decl (decl_is.Function p)) span (more name none)) s h = no_part (is_of group_is.Names name) (are_formed (more name none)) h
shape (node (form_is.Decl (decl_is.Function p)) span (more name (more ps none))) s h =
    no_parts (is_of group_is.Names name) (fits (slot_is.Rows group_is.Parameters) ps) (are_formed (more name (more ps none))) h
shape (node (form_is.Decl (decl_is.Function p)) span (more name (more ps (more result none)))) s h =
    no_result (is_of group_is.Names name) (fits (slot_is.Rows group_is.Parameters) ps) (fits (slot_is.Optional group_is.Types) result) (are_formed (more name (more ps (more result none)))) h
shape (node (form_is.Decl (decl_is.Function p)) span (more name (more absent (more result (more body none))))) s h =
    no_part (is_of group_is.Names name) (are_formed (more name (more absent (more result (more body none))))) h
shape (node (form_is.Decl (decl_is.Function p)) span (more name (more (node form at us) (more result (more body none))))) s h =
    no_part (is_of group_is.Names name) (are_formed (more name (more (node form at us) (more result (more body none))))) h
shape (node (form_is.Decl (decl_is.Function p)) span (more name (more ps (more result (more body (more x xs)))))) s h =
    no_body (is_of group_is.Names name) (fits (slot_is.Rows group_is.Parameters) ps) (fits (slot_is.Optional group_is.Types) result) (is_of group_is.Blocks body) (are_formed (more name (more ps (more result (more body (more x xs)))))) h
shape (node (form_is.Decl (decl_is.Type p)) span ts) s h = never (sym (no_type_sort (type_tree_of (node (form_is.Decl (decl_is.Type p)) span ts))) ∙ s)
shape (node (form_is.Decl _) span ts) s h = never s
shape (node (form_is.Type form) span ts) s h = never (sym (no_type_sort (node (form_is.Type form) span ts)) ∙ s)
shape (node _ span ts) s h = never s
shape absent s h = never s
shape (row ts) s h = never s

-- its parameters, its result and its body stand where they may
pub function_slots : (name : Tree) (ps : Trees) (result body : Tree) → fill (slots (form_is.Decl (decl_is.Function false))) (more name (more (row ps) (more result (more body none)))) ≡ true
    → (are_of group_is.Parameters ps ≡ true) × (fits (slot_is.Optional group_is.Types) result ≡ true) × (is_of group_is.Blocks body ≡ true)
function_slots name ps result body a =
    let b = and_parts (is_of group_is.Names name) (are_of group_is.Parameters ps && (fits (slot_is.Optional group_is.Types) result && (is_of group_is.Blocks body && true))) a in
    let c = and_parts (are_of group_is.Parameters ps) (fits (slot_is.Optional group_is.Types) result && (is_of group_is.Blocks body && true)) b.1 in
    let e = and_parts (fits (slot_is.Optional group_is.Types) result) (is_of group_is.Blocks body && true) c.1 in
    (c.0, e.0, (and_parts (is_of group_is.Blocks body) true e.1).0)

-- where a function stands among all
skipped : (b : Bool) (h : ℕ) (xs ys : List ℕ) → slice_get (if b then h ∷ xs else xs) (length (if b then h ∷ ys else ys)) ≡ slice_get xs (length ys)
skipped true h xs ys = refl
skipped false h xs ys = refl

stands_at : (ds : List Declaration) (h g : ℕ) (d : Declaration) → slice_get ds g ≡ Some d → sort_of d.tree ≡ sort_is.Function → slice_get (all_from sort_is.Function h ds) (length (all_from sort_is.Function h (take g ds))) ≡ Some (h + g)
stands_at [] h g d at is = none_found d at
stands_at (x ∷ ds) h zero d at is =
    let k : h ≡ h + 0 = omega arith in
    ap (λ s. slice_get (if sort_number s == 7 then h ∷ all_from sort_is.Function (suc h) ds else all_from sort_is.Function (suc h) ds) 0) (ap (λ (y : Declaration). sort_of y.tree) (some_found x d at) ∙ is) ∙ ap Some k
stands_at (x ∷ ds) h (suc g) d at is =
    let e : suc h + g ≡ h + suc g = omega arith in
    skipped (is_sort sort_is.Function x) h (all_from sort_is.Function (suc h) ds) (all_from sort_is.Function (suc h) (take g ds)) ∙ stands_at ds (suc h) g d at is ∙ ap Some e

pub number_stands : (list : List Tree) (g : ℕ) (d : Declaration) → declaration_at list g ≡ Some d → sort_of d.tree ≡ sort_is.Function → slice_get (all_of sort_is.Function list) (number_at list g) ≡ Some g
number_stands list g d at is =
    let s : sort_at list g ≡ sort_is.Function = ap sort_or at ∙ is in
    let zero_more : 0 + g ≡ g = omega arith in
    ap (λ s. slice_get (all_of sort_is.Function list) (number_in (rows list) g s)) s ∙ stands_at (rows list) 0 g d at is ∙ ap Some zero_more

module _ (list : List Tree) (f : ℕ → Option Ty) (known : ℕ → Option Answer) (stored : ℕ → Option Ty) where
  abbrev pub home : Declaration → Around
  home d = in_module list f known stored d.«module»

  abbrev pub declared : Declaration → Function
  declared d = function_of (home d) (module_name (module_at list d.«module»)) d.«module» d.tree

  -- tests of a function, by its place
  pub function_at : (tests : Function → List (Bool × Fault)) (gs : List ℕ) (n g : ℕ) (d : Declaration) → slice_get gs n ≡ Some g → declaration_at list g ≡ Some d → none_hold (all_tests tests (functions_of list f known stored gs)) ≡ true → none_hold (tests (declared d)) ≡ true
  function_at tests [] n g d at is h = none_found g at
  function_at tests (x ∷ gs) zero g d at is h =
      let one : declaration_of list (Some x) ≡ Some d = ap (declaration_at list) (some_found x g at) ∙ is in
      let h_is = subst (λ o. none_hold (all_tests tests (declared_function list f known stored o ++ functions_of list f known stored gs)) ≡ true) one h in
      (none_parts (tests (declared d)) (all_tests tests (functions_of list f known stored gs)) h_is).0
  function_at tests (x ∷ gs) (suc n) g d at is h = function_at tests gs n g d at is (behind (declaration_of list (Some x)) h)
    where
      behind : (o : Option Declaration) → none_hold (all_tests tests (declared_function list f known stored o ++ functions_of list f known stored gs)) ≡ true → none_hold (all_tests tests (functions_of list f known stored gs)) ≡ true
      behind None k = k
      behind (Some e) k = (none_parts (tests (declared e)) (all_tests tests (functions_of list f known stored gs)) k).1

  module _ (t : Typed) (values : Values) (types : (g : ℕ) → HasType list f g) where
    -- the type of what a function gives
    written_full : (m : ℕ) (w : Tree) → is_type list f m w ≡ true → none_hold (written_tests m (written_in list f m place_is.Value w)) ≡ true → is_full (type_at list f m place_is.Value w) ≡ true
    written_full m w is tests =
        type_full list f m place_is.Value w is (placed m (written_in list f m place_is.Value w).misplaced tests) (each_has list f m types (mentions_in list m w))

    void_full : (m : ℕ) (w : Tree) → fits (slot_is.Optional group_is.Types) w ≡ true → IsFine list f m w → none_hold (option_tests (written_tests m) (written_of (in_module list f known stored m) place_is.Value w)) ≡ true
        → is_full (type_or_void list f m w) ≡ true
    void_full m absent of h tests = refl
    void_full m (row ts) of h tests = never of
    void_full m (node form span ts) of h tests = written_full m (node form span ts) (type_fine list f m (node form span ts) of h) tests

    gives_whole : (d : Declaration) (p : Bool) (span : Span) (name : Tree) (ps : Trees) (result body : Tree) → IsFine list f d.«module» (whole p span name ps result body)
        → none_hold (function_tests t values (function_of (home d) (module_name (module_at list d.«module»)) d.«module» (whole p span name ps result body))) ≡ true
        → is_full (result_type list f d.«module» (whole p span name ps result body)) ≡ true
    gives_whole d p span name ps result body h tests =
        let m = d.«module» in
        let g = home d in
        let ts = more name (more (row ps) (more result (more body none))) in
        let fun = function_of g (module_name (module_at list m)) m (whole p span name ps result body) in
        let e = (function_slots name ps result body (formed list f m (form_is.Decl (decl_is.Function p)) span ts h)).1 in
        let q = rest list f m name (more (row ps) (more result (more body none))) (inside list f m (form_is.Decl (decl_is.Function p)) span ts h) in
        let r = first list f m result (more body none) (rest list f m (row ps) (more result (more body none)) q) in
        let u = none_parts (all_tests (parameter_tests m) (parameters_in g ps)) (option_tests (written_tests m) fun.written ++ given_tests t values (wanted_of fun.written fun.result) fun) tests in
        let v = none_parts (option_tests (written_tests m) fun.written) (given_tests t values (wanted_of fun.written fun.result) fun) u.1 in
        void_full m result e r v.0

    pub gives_full : (d : Declaration) (x : Tree) → is_function_sort (sort_of x) ≡ true → IsFine list f d.«module» x → none_hold (function_tests t values (function_of (home d) (module_name (module_at list d.«module»)) d.«module» x)) ≡ true
        → is_full (result_type list f d.«module» x) ≡ true
    gives_full d x s h tests =
        let w = shape x s h.0 in
        subst (λ x. IsFine list f d.«module» x → none_hold (function_tests t values (function_of (home d) (module_name (module_at list d.«module»)) d.«module» x)) ≡ true → is_full (result_type list f d.«module» x) ≡ true) (sym w.is)
        (gives_whole d w.public w.span w.name w.parameters w.result w.body) h tests
