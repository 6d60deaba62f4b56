-- All is known of the functions of a list in which no rule is broken, where all members of units have full types.
use Rattle.std.specs.Prelude.{◌==◌, if◌then◌else◌, false}
use Rattle.std.specs.List.{list_all}
use Rattle.std.proofs.Common.{ℕ, ◌≡◌, ◌+◌, suc, Bool, true, ◌&&◌, refl, sym, ap, subst, ◌∙◌, arith, List, [], ◌∷◌, ◌++◌, Option, Some, slice_get}
use Rattle.std.proofs.lemmas.Bool.{and_parts, and_from}
use Rattle.sp_base.specs.declared.places.Span.{Span}
use Rattle.sp_ast.specs.Trees.{Tree, Trees, absent, row, node, none, more}
use Rattle.sp_ast.specs.Slots.{is_formed}
use Rattle.sp_ast.specs.Groups.{is_of, fits}
use Rattle.sp_ast.specs.declared.groups.Group.TheVariants as group_is
use Rattle.sp_ast.specs.declared.groups.Sort.TheVariants as slot_is
use Rattle.sp_ast.specs.declared.forms.Form.TheVariants as form_is
use Rattle.sp_ast.specs.declared.forms.DeclForm.TheVariants as decl_is
use Rattle.sp_rules.specs.declared.fault.Fault.{Fault}
use Rattle.sp_types.specs.Types.{Ty}
use Rattle.sp_solver.specs.Told.{told}
use Rattle.sp_typed_units.specs.declared.declarations.Typed.{Typed}
use Rattle.sp_type_context.specs.declared.context.Member.{Member}
use Rattle.sp_type_context.specs.Contexts.{Around}
use Rattle.sp_names.specs.declared.rows.Declaration.{Declaration}
use Rattle.sp_names.specs.declared.sort.DeclSort.{DeclSort}
use Rattle.sp_names.specs.declared.sort.DeclSort.TheVariants as sort_is
use Rattle.sp_names.specs.Declarations.{rows, all_from, all_of, is_sort, sort_number, sort_of, declaration_at, module_name, module_at}
use Rattle.sp_type_modules.specs.Arounds.{stored_by, member_of}
use Rattle.sp_type_functions.specs.Functions.{function_of}
use Rattle.sp_type_scopes.specs.Parameters.{with_parameters}
use Rattle.sp_rule_lists.specs.Told.{known_in, values_of}
use Rattle.sp_rule_lists.specs.Names.{function_names, stmt_names}
use Rattle.sp_rule_lists.specs.Bodies.{function_tests}
use Rattle.sp_type_values.specs.Answers.{number_of}
use Rattle.sp_type_list_context.specs.Contexts.{facts, in_module}
use Rattle.sp_type_answers.specs.Settled.{Answers}
use Rattle.sp_type_answers.specs.Lists.{typed_of}
use Rattle.sp_type_declarations.specs.FunctionsAndOrders.{declared_function, functions_of}
use Rattle.sp_type_answers.specs.Rules.{Breaks}
use Rattle.sp_law_lists.specs.known_types.Full.{is_full}
use Rattle.sp_law_lists.specs.known_types.Clear.{none_hold, any_op}
use Rattle.sp_law_lists.specs.known_types.Given.{IsKnown}
use Rattle.sp_law_lists.proofs.known_types_lemmas.Full.{never}
use Rattle.sp_law_lists.specs.known_values.Given.{AreTold}
use Rattle.sp_law_lists.specs.known_bodies.Trees.{is_body}
use Rattle.sp_law_lists.proofs.known_bodies_lemmas.Formed.{formed_body}
use Rattle.sp_law_lists.specs.whole_list.Known.{AreKnown}
use Rattle.sp_law_lists.specs.whole_list.Types.{is_type}
use Rattle.sp_law_lists.specs.whole_list.Trees.{are_parameters, is_result, is_function}
use Rattle.sp_law_lists.specs.whole_list.Whole.{is_known_function}
use Rattle.sp_law_lists.proofs.whole_list_lemmas.Blind.{known_blind}
use Rattle.sp_law_lists.proofs.whole_list_lemmas.Decided.{decides, decides_under, parameters_told}
use Rattle.sp_law_lists.proofs.whole_list_lemmas.Modules.{module_known}
use Rattle.sp_law_lists.proofs.whole_list_lemmas.Functions.{function_whole}
use Rattle.sp_law_lists.specs.known_constants.Good.{is_told}
use Rattle.sp_law_lists.specs.known_constants.Fine.{IsFine, AreFine}
use Rattle.sp_law_lists.proofs.known_constants_lemmas.Fine.{inside, first, rest, formed, type_fine, written}
use Rattle.sp_law_lists.proofs.known_constants_lemmas.Declarations.{AllOf, declaration_fine}
use Rattle.sp_law_lists.proofs.known_constants_lemmas.Places.{constant_there, constant_typed}
use Rattle.sp_law_lists.proofs.known_constants_lemmas.Paths.{list_told}
use Rattle.sp_law_lists.proofs.known_constants_lemmas.Rounds.{constant_answered}
use Rattle.sp_law_lists.proofs.known_constants_lemmas.Named.{tree_told}
use Rattle.sp_law_lists.proofs.unbroken_list_lemmas.Split.{declared_names, are_named, are_asked}
use Rattle.sp_law_lists.proofs.unbroken_list_lemmas.Functions.{is_function_sort, whole, IsWhole, shape, function_slots, declared, function_at}
use Rattle.sp_law_lists.proofs.unbroken_list_lemmas.Lists.{all_types, all_results, are_unbroken}

function_is : (s : DeclSort) → (sort_number s == 7) ≡ true → s ≡ sort_is.Function
function_is sort_is.Function e = refl
function_is _ e = never e

-- the functions of a list are declared
module _ (list : List Tree) where
  abbrev IsFunction : ℕ → Type 0
  IsFunction g = (d : Declaration) × (declaration_at list g ≡ Some d) × (sort_of d.tree ≡ sort_is.Function)

  functions_are : (h : ℕ) (ds : List Declaration) → ((j : ℕ) → slice_get (rows list) (h + j) ≡ slice_get ds j) → AllOf IsFunction (all_from sort_is.Function h ds)
  functions_are h [] at = tt
  functions_are h (d ∷ ds) at = by (is_sort sort_is.Function d) refl (functions_are (suc h) ds (λ j. (let e : suc h + j ≡ h + suc j = omega arith in ap (slice_get (rows list)) e ∙ at (suc j))))
    where
      by : (b : Bool) → is_sort sort_is.Function d ≡ b → AllOf IsFunction (all_from sort_is.Function (suc h) ds) → AllOf IsFunction (if b then h ∷ all_from sort_is.Function (suc h) ds else all_from sort_is.Function (suc h) ds)
      by true is next =
          let e : h ≡ h + 0 = omega arith in
          ((d, ap (slice_get (rows list)) e ∙ at 0, function_is (sort_of d.tree) is), next)
      by false is next = next

same_module : (g : Around) (owner : List ℕ) (m : ℕ) (x : Tree) → IsWhole x → (function_of g owner m x).«module» ≡ m
same_module g owner m x w = ap (λ x. (function_of g owner m x).«module») w.is

module _ (list : List Tree) (f : ℕ → Option Ty) (m : ℕ) where
  pub parameters_fine : (ps : Trees) → AreFine list f m ps → are_parameters (is_type list f m) ps ≡ true
  parameters_fine none h = refl
  parameters_fine (more (node (form_is.Parameter inout) span (more name (more t none))) ps) h =
      let ts = more name (more t none) in
      let p = first list f m (node (form_is.Parameter inout) span ts) ps h in
      let a = and_parts (is_of group_is.Names name) (is_of group_is.Types t && true) (formed list f m (form_is.Parameter inout) span ts p) in
      let q = first list f m t none (rest list f m name (more t none) (inside list f m (form_is.Parameter inout) span ts p)) in
      and_from (is_type list f m t) (are_parameters (is_type list f m) ps) (type_fine list f m t (and_parts (is_of group_is.Types t) true a.1).0 q)
      (parameters_fine ps (rest list f m (node (form_is.Parameter inout) span ts) ps h))
  parameters_fine (more (node (form_is.Parameter inout) span none) ps) h = parameters_fine ps (rest list f m (node (form_is.Parameter inout) span none) ps h)
  parameters_fine (more (node (form_is.Parameter inout) span (more name none)) ps) h = parameters_fine ps (rest list f m (node (form_is.Parameter inout) span (more name none)) ps h)
  parameters_fine (more (node (form_is.Parameter inout) span (more name (more t (more u us)))) ps) h =
      parameters_fine ps (rest list f m (node (form_is.Parameter inout) span (more name (more t (more u us)))) ps h)
  parameters_fine (more (node form span us) ps) h = parameters_fine ps (rest list f m (node form span us) ps h)
  parameters_fine (more absent ps) h = parameters_fine ps (rest list f m absent ps h)
  parameters_fine (more (row us) ps) h = parameters_fine ps (rest list f m (row us) ps h)

  result_fine : (t : Tree) → fits (slot_is.Optional group_is.Types) t ≡ true → IsFine list f m t → is_result (is_type list f m) t ≡ true
  result_fine absent of h = refl
  result_fine (row ts) of h = never of
  result_fine (node form span ts) of h = type_fine list f m (node form span ts) of h

module _ (list : List Tree) (a : Answers list) (formed_list : list_all is_formed list ≡ true) (unbroken : (x : Fault) → Breaks list x → ⊥) where
  abbrev f : ℕ → Option Ty
  f = told a.types

  abbrev t : Typed
  t = typed_of list a

  abbrev paths : ℕ → Tree → Bool
  paths m = is_told list f (told a.values) m

  abbrev round_module : (ℕ → Option Ty) → ℕ → Around
  round_module stored m = in_module list f (told a.values) stored m

  -- what stands round the expressions of a module, whatever is known of members
  pub module_told : (stored : ℕ → Option Ty) (slots : List ℕ) (m : ℕ) → AreTold (round_module stored m) any_op (known_in t (values_of t) slots) m (values_of t) (paths m)
  module_told stored slots m =
      let it = are_unbroken list a formed_list unbroken in
      list_told list f (told a.values) it.settled t refl refl any_op (known_in t (values_of t) slots) m m (stored_by list stored) (number_of list f (told a.values))

  -- the tree of a function
  tree_whole : (m : ℕ) (p : Bool) (span : Span) (name : Tree) (ps : Trees) (result body : Tree) → IsFine list f m (whole p span name ps result body)
      → is_function (is_type list f m) (paths m) (whole p span name ps result body) ≡ true
  tree_whole m p span name ps result body h =
      let ts = more name (more (row ps) (more result (more body none))) in
      let it = are_unbroken list a formed_list unbroken in
      let types = is_type list f m in
      let e = function_slots name ps result body (formed list f m (form_is.Decl (decl_is.Function p)) span ts h) in
      let q = rest list f m name (more (row ps) (more result (more body none))) (inside list f m (form_is.Decl (decl_is.Function p)) span ts h) in
      let r = rest list f m (row ps) (more result (more body none)) q in
      let fine_body = first list f m body none (rest list f m result (more body none) r) in
      let is_a_body = formed_body types (paths m) body fine_body.0 (written list f m (told a.values) body fine_body (tree_told list f (told a.values) t it m body)) in
      and_from (are_parameters types ps) (is_result types result && is_body types (paths m) body) (parameters_fine list f m ps (first list f m (row ps) (more result (more body none)) q))
      (and_from (is_result types result) (is_body types (paths m) body) (result_fine list f m result e.1 (first list f m result (more body none) r)) is_a_body)

  function_tree : (m : ℕ) (x : Tree) → is_function_sort (sort_of x) ≡ true → IsFine list f m x → is_function (is_type list f m) (paths m) x ≡ true
  function_tree m x s h =
      let w = shape x s h.0 in
      subst (λ x. IsFine list f m x → is_function (is_type list f m) (paths m) x ≡ true) (sym w.is) (tree_whole m w.public w.span w.name w.parameters w.result w.body) h

  module _ (stored : ℕ → Option Ty) (members : (u : Ty) (name : List ℕ) (found : Member) → member_of list (stored_by list stored) u name ≡ Some found → is_full found.ty ≡ true) where
    all_known : AreKnown list (facts list f (told a.values) stored) any_op
    all_known =
        let it = are_unbroken list a formed_list unbroken in
        record {
          types = all_types list a formed_list unbroken;
          constants = λ g e. (let lt = constant_there list f g e in constant_typed list f (told a.values) _ lt (constant_answered list f (told a.values) t it _ lt));
          results = all_results list a formed_list unbroken;
          members = λ u name found e may. members u name found e;
        }

    pub module_is_known : (slots : List ℕ) (m : ℕ) → IsKnown (round_module stored m) any_op (known_in t (values_of t) slots) m (is_type list f m) (paths m)
    module_is_known slots m =
        module_known list (facts list f (told a.values) stored) any_op all_known (known_in t (values_of t) slots) m m (paths m)
        (decides t (values_of t) slots any_op m (is_type list f m) (paths m) (round_module stored m) (module_told stored slots m))

  module _ (members : (u : Ty) (name : List ℕ) (found : Member) → member_of list (stored_by list (told a.stored)) u name ≡ Some found → is_full found.ty ≡ true) where
    -- a function, and all
    one_known : (n g : ℕ) (d : Declaration) → slice_get (all_of sort_is.Function list) n ≡ Some g → declaration_at list g ≡ Some d → sort_of d.tree ≡ sort_is.Function → is_known_function (declared list f (told a.values) (told a.stored) d) ≡ true
    one_known n g d at is sort =
        let m = d.«module» in
        let values = values_of t in
        let env = round_module (told a.stored) m in
        let types = is_type list f m in
        let fine = declaration_fine list f formed_list (declared_names list a unbroken) g d is in
        let names = function_at list f (told a.values) (told a.stored) function_names (all_of sort_is.Function list) n g d at is (are_named list a unbroken).functions in
        let tests = function_at list f (told a.values) (told a.stored) (function_tests t values) (all_of sort_is.Function list) n g d at is (are_asked list a unbroken).functions in
        function_whole t values env (module_name (module_at list m)) m types (paths m) d.tree (known_blind t values) (λ slots. module_is_known (told a.stored) members slots m)
        (λ slots ps full. (
        let inner = parameters_told t values slots any_op m types (paths m) env (module_told (told a.stored) slots m) 0 false ps in
        (decides t values slots any_op m types (paths m) (with_parameters 0 false ps env) inner, decides_under t values slots any_op m types (paths m) (with_parameters 0 false ps env) inner)
        ))
        (function_tree m d.tree (ap is_function_sort sort) fine) (subst (λ i. none_hold (stmt_names i (declared list f (told a.values) (told a.stored) d).body) ≡ true) (same_module env (module_name (module_at list m)) m d.tree (shape d.tree (ap is_function_sort sort) fine.0)) names) tests

    abbrev functions_known : List ℕ → Bool
    functions_known gs = list_all is_known_function (functions_of list f (told a.values) (told a.stored) gs)

    each_known : (n : ℕ) (gs : List ℕ) → ((j : ℕ) → slice_get (all_of sort_is.Function list) (n + j) ≡ slice_get gs j) → AllOf (IsFunction list) gs → functions_known gs ≡ true
    each_known n [] at are = refl
    each_known n (g ∷ gs) at are =
        let d = are.0.0 in
        let e : n ≡ n + 0 = omega arith in
        let one = one_known n g d (ap (slice_get (all_of sort_is.Function list)) e ∙ at 0) are.0.1 are.0.2 in
        let next = each_known (suc n) gs (λ j. (let s : suc n + j ≡ n + suc j = omega arith in ap (slice_get (all_of sort_is.Function list)) s ∙ at (suc j))) are.1 in
        subst (λ o. list_all is_known_function (declared_function list f (told a.values) (told a.stored) o ++ functions_of list f (told a.values) (told a.stored) gs) ≡ true) (sym are.0.1)
        (and_from (is_known_function (declared list f (told a.values) (told a.stored) d)) (functions_known gs) one next)

    -- All functions are known.
    pub all_functions_known : list_all is_known_function t.functions ≡ true
    all_functions_known =
        each_known 0 (all_of sort_is.Function list) (λ j. (let e : 0 + j ≡ j = omega arith in ap (slice_get (all_of sort_is.Function list)) e))
        (functions_are list 0 (rows list) (λ j. (let e : 0 + j ≡ j = omega arith in ap (slice_get (rows list)) e)))
