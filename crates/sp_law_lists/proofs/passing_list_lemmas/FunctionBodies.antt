-- The functions of a list in which no rule is broken pass.
use Rattle.std.specs.Prelude.{Bool, true, false, ◌&&◌, ◌++◌}
use Rattle.std.specs.List.{list_all}
use Rattle.std.proofs.Common.{ℕ, zero, suc, ◌≡◌, refl, sym, ap, subst, ◌∙◌, List, [], ◌∷◌, Option, Some, None, slice_get}
use Rattle.std.proofs.lemmas.Bool.{and_parts, and_from}
use Rattle.sp_base.specs.declared.places.Span.{Span}
use Rattle.sp_methods.specs.Kinds.{Kind}
use Rattle.sp_ast.specs.Trees.{Tree, Trees, absent, row, node, none, more}
use Rattle.sp_ast.specs.Slots.{is_formed}
use Rattle.sp_ast.specs.declared.forms.Form.TheVariants as form_is
use Rattle.sp_ast.specs.declared.forms.DeclForm.TheVariants as decl_is
use Rattle.sp_rules.specs.declared.fault.Fault.{Fault}
use Rattle.sp_types.specs.Types.{Ty, same}
use Rattle.sp_types.proofs.Same.{same_itself}
use Rattle.sp_typed_units.specs.declared.declarations.Function.{Function}
use Rattle.sp_typed_units.specs.declared.declarations.Typed.{Typed}
use Rattle.sp_solver.specs.Told.{told}
use Rattle.sp_names.specs.declared.rows.Declaration.{Declaration}
use Rattle.sp_names.specs.declared.sort.DeclSort.TheVariants as sort_is
use Rattle.sp_names.specs.Declarations.{all_of, sort_of, declaration_at, module_name, module_at}
use Rattle.sp_names.specs.Names.{declaration_of}
use Rattle.sp_type_context.specs.declared.places.Place.TheVariants as place_is
use Rattle.sp_type_context.specs.declared.context.Member.{Member}
use Rattle.sp_type_context.specs.Contexts.{Around as Names}
use Rattle.sp_type_stmts.specs.Statements.{written_type, written_of}
use Rattle.sp_type_functions.specs.Functions.{or_void, body_giving, function_of}
use Rattle.sp_type_scopes.specs.Parameters.{parameters_in, with_parameters}
use Rattle.sp_type_modules.specs.Arounds.{stored_by, member_of}
use Rattle.sp_rule_lists.specs.Lists.{all_tests, option_tests}
use Rattle.sp_rule_lists.specs.Names.{function_names}
use Rattle.sp_rule_lists.specs.Slots.{for_slots}
use Rattle.sp_rule_lists.specs.Told.{known_in, values_of}
use Rattle.sp_rule_bodies.specs.Values.{written_tests}
use Rattle.sp_rule_lists.specs.Bodies.{body_tests, parameter_tests, wanted_of, given_tests, function_tests}
use Rattle.sp_rule_bodies.specs.Sweeps.{end_tests}
use Rattle.sp_type_answers.specs.Settled.{Answers}
use Rattle.sp_type_answers.specs.Lists.{typed_of}
use Rattle.sp_type_answers.specs.Rules.{Breaks}
use Rattle.sp_meaning.specs.Globals.{globals_of}
use Rattle.sp_code_meaning.specs.Calls.{function_layout}
use Rattle.sp_meaning_states.specs.Types.{kind_of_type}
use Rattle.sp_code.specs.Shapes.{OfFunction}
use Rattle.sp_law_lists.specs.known_types.Full.{is_full}
use Rattle.sp_law_lists.specs.known_types.Clear.{none_hold, any_op}
use Rattle.sp_law_lists.specs.known_bodies.Trees.{is_body}
use Rattle.sp_law_lists.proofs.known_bodies_lemmas.Formed.{formed_body}
use Rattle.sp_law_lists.specs.whole_list.Types.{is_type}
use Rattle.sp_law_lists.specs.whole_list.Whole.{is_known_body, is_known_parameter, is_known_function}
use Rattle.sp_law_lists.proofs.whole_list_lemmas.Blind.{known_blind}
use Rattle.sp_law_lists.proofs.whole_list_lemmas.Decided.{decides, decides_under, parameters_told}
use Rattle.sp_law_lists.proofs.whole_list_lemmas.Heads.{parameters_known}
use Rattle.sp_law_lists.proofs.whole_list_lemmas.Modules.{none_found, some_found}
use Rattle.sp_law_lists.proofs.whole_list_lemmas.None.{none_parts}
use Rattle.sp_law_lists.specs.known_constants.Good.{is_told}
use Rattle.sp_law_lists.specs.known_constants.Fine.{IsFine}
use Rattle.sp_law_lists.proofs.known_constants_lemmas.Fine.{inside, first, rest, written}
use Rattle.sp_law_lists.proofs.known_constants_lemmas.Declarations.{at_all, declaration_fine}
use Rattle.sp_law_lists.proofs.known_constants_lemmas.Enums.{test_at}
use Rattle.sp_law_lists.proofs.known_constants_lemmas.Named.{tree_told}
use Rattle.sp_law_lists.proofs.unbroken_list_lemmas.Split.{declared_names, are_named, are_asked}
use Rattle.sp_law_lists.proofs.unbroken_list_lemmas.Functions.{is_function_sort, whole, IsWhole, shape}
use Rattle.sp_law_lists.proofs.unbroken_list_lemmas.Bodies.{module_told, module_is_known}
use Rattle.sp_law_lists.proofs.unbroken_list_lemmas.Lists.{are_unbroken}
use Rattle.sp_law_lists.specs.fit_body.Bodies.{Body}
use Rattle.sp_law_lists.specs.fit_body.Bodies as returns
use Rattle.sp_law_lists.specs.fit_body.Passes.{StmtPasses}
use Rattle.sp_law_lists.proofs.fit_body_lemmas.Sound.{stmt_sound}
use Rattle.sp_law_lists.specs.fit_list.Bodies.{FunctionPasses}
use Rattle.sp_law_lists.proofs.fit_list_lemmas.Handed.{locals_listed}
use Rattle.sp_law_lists.proofs.known_kinds_lemmas.Names.{parameters_made}
use Rattle.sp_law_lists.specs.known_statements.Ready.{returns_so}
use Rattle.sp_law_lists.specs.passing_list.Built.{function_built}
use Rattle.sp_law_lists.proofs.passing_list_lemmas.Functions.{IsDeclared, all_declared, function_is, the_function, function_maybe, function_number}
use Rattle.sp_law_lists.proofs.passing_list_lemmas.Names.{home as home_of, home_made, home_widens, parameters_widen}
use Rattle.sp_law_lists.proofs.passing_list_lemmas.Bodies.{handed, body_round, parameters_kept, slots_kept, calls_asked, body_so}

-- a test of each of a list, at one of them
pub each_at : {A : Type 0} (p : A → Bool) (xs : List A) (n : ℕ) (x : A) → slice_get xs n ≡ Some x → list_all p xs ≡ true → p x ≡ true
each_at p [] n x at h = none_found x at
each_at p (y ∷ xs) zero x at h = subst (λ z. p z ≡ true) (some_found y x at) (and_parts (p y) (list_all p xs) h).0
each_at p (y ∷ xs) (suc n) x at h = each_at p xs n x at (and_parts (p y) (list_all p xs) h).1

-- what a function gives, by its rules
wanted_is : (g : Names) (result : Tree) → wanted_of (written_of g place_is.Value result) (or_void (written_type g place_is.Value result)) ≡ written_type g place_is.Value result
wanted_is g absent = refl
wanted_is g (row ts) = refl
wanted_is g (node form span ts) = refl

gives_back : (g : Names) (result : Tree) → is_full (or_void (written_type g place_is.Value result)) ≡ true → returns_so (returns.Function (or_void (written_type g place_is.Value result))) (written_type g place_is.Value result) ≡ true
gives_back g absent full = refl
gives_back g (row ts) full = (let u = g.type_in place_is.Value (row ts) in and_from (same u u) (is_full u) (same_itself u) full)
gives_back g (node form span ts) full = (let u = g.type_in place_is.Value (node form span ts) in and_from (same u u) (is_full u) (same_itself u) full)

module _ (list : List Tree) (a : Answers list) (formed_list : list_all is_formed list ≡ true) (unbroken : (x : Fault) → Breaks list x → ⊥)
    (members : (u : Ty) (name : List ℕ) (found : Member) → member_of list (stored_by list (told a.stored)) u name ≡ Some found → is_full found.ty ≡ true)
    (known : list_all is_known_function (typed_of list a).functions ≡ true) (built : list_all function_built (typed_of list a).functions ≡ true) where
  abbrev f : ℕ → Option Ty
  f = told a.types

  abbrev t : Typed
  t = typed_of list a

  abbrev types : ℕ → Tree → Bool
  types m = is_type list f m

  abbrev paths : ℕ → Tree → Bool
  paths m = is_told list f (told a.values) m

  abbrev home : ℕ → Names
  home m = home_of list a formed_list unbroken m

  -- the block of a function
  block_is : (m : ℕ) (p : Bool) (span : Span) (name : Tree) (ps : Trees) (result body : Tree) → IsFine list f m (whole p span name ps result body) → is_body (types m) (paths m) body ≡ true
  block_is m p span name ps result body h =
      let it = are_unbroken list a formed_list unbroken in
      let q = rest list f m name (more (row ps) (more result (more body none))) (inside list f m (form_is.Decl (decl_is.Function p)) span (more name (more (row ps) (more result (more body none)))) h) in
      let r = rest list f m (row ps) (more result (more body none)) q in
      let fine_body = first list f m body none (rest list f m result (more body none) r) in
      formed_body (types m) (paths m) body fine_body.0 (written list f m (told a.values) body fine_body (tree_told list f (told a.values) t it m body))

  whole_passes : (m : ℕ) (owner : List ℕ) (p : Bool) (span : Span) (name : Tree) (ps : Trees) (result body : Tree) → IsFine list f m (whole p span name ps result body)
      → none_hold (function_names (function_of (home m) owner m (whole p span name ps result body))) ≡ true → none_hold (function_tests t (values_of t) (function_of (home m) owner m (whole p span name ps result body))) ≡ true
      → is_known_function (function_of (home m) owner m (whole p span name ps result body)) ≡ true → function_built (function_of (home m) owner m (whole p span name ps result body)) ≡ true
      → FunctionPasses t (function_of (home m) owner m (whole p span name ps result body))
  whole_passes m owner p span name ps result body h names tests known_here built_here =
      let x = function_of (home m) owner m (whole p span name ps result body) in
      let g = home m in
      let values = values_of t in
      let parameters = parameters_in g ps in
      let wanted = wanted_of x.written x.result in
      let slots = for_slots x.body in
      let k = known_in t values slots in
      let inner = with_parameters 0 false parameters g in
      let round = body_round t parameters x.slots None in
      let told_here = parameters_told t values slots any_op m (types m) (paths m) g (module_told list a formed_list unbroken (told a.stored) slots m) 0 false parameters in
      let a1 = and_parts (list_all is_known_parameter parameters) (is_full x.result && is_known_body x.body) known_here in
      let a2 = and_parts (is_full x.result) (is_known_body x.body) a1.1 in
      let seen = parameters_known g any_op k m (types m) (paths m) (module_is_known list a formed_list unbroken (told a.stored) members slots m) 0 false parameters (decides t values slots any_op m (types m) (paths m) inner told_here) a1.0 in
      let under = decides_under t values slots any_op m (types m) (paths m) inner told_here in
      let q1 = none_parts (all_tests (parameter_tests m) parameters) (option_tests (written_tests m) x.written ++ given_tests t values wanted x) tests in
      let q2 = none_parts (option_tests (written_tests m) x.written) (given_tests t values wanted x) q1.1 in
      let q3 = none_parts (end_tests wanted m x.span x.body) (body_tests k wanted m x.body) q2.1 in
      let asks = subst (λ w. none_hold (body_tests k w m x.body) ≡ true) (wanted_is g result) q3.1 in
      let of : Body = record { around = round; returns = returns.Function x.result } in
      let passes = body_so of inner (body_giving (written_type g place_is.Value result)) k m (types m) (paths m) (known_blind t values slots) seen under (parameters_made round g 0 false parameters (home_made list a formed_list unbroken (handed _) _ None m) (parameters_kept t parameters x.slots None)) (parameters_widen g 0 false parameters (home_widens list a formed_list unbroken m)) (calls_asked t values slots (handed _) _ None known) refl (gives_back g result a2.0) body (block_is m p span name ps result body h) (slots_kept t parameters x.slots None) built_here names asks a2.1 in
      let ranges = (globals_of t).ranges in
      subst (λ (ks : List Kind). StmtPasses t (function_layout x) ks None (OfFunction (kind_of_type ranges x.result)) false x.body) (locals_listed ranges parameters x.slots) (stmt_sound of false x.body passes)

  -- a function by its declaration
  tree_passes : (m : ℕ) (owner : List ℕ) (x : Tree) → IsWhole x → IsFine list f m x → none_hold (function_names (function_of (home m) owner m x)) ≡ true → none_hold (function_tests t (values_of t) (function_of (home m) owner m x)) ≡ true
      → is_known_function (function_of (home m) owner m x) ≡ true → function_built (function_of (home m) owner m x) ≡ true → FunctionPasses t (function_of (home m) owner m x)
  tree_passes m owner x w =
      subst (λ y. IsFine list f m y → none_hold (function_names (function_of (home m) owner m y)) ≡ true → none_hold (function_tests t (values_of t) (function_of (home m) owner m y)) ≡ true
      → is_known_function (function_of (home m) owner m y) ≡ true → function_built (function_of (home m) owner m y) ≡ true → FunctionPasses t (function_of (home m) owner m y)) (sym w.is)
      (whole_passes m owner w.public w.span w.name w.parameters w.result w.body)

  one_passes : (n g : ℕ) (d : Declaration) → declaration_at list g ≡ Some d → sort_of d.tree ≡ sort_is.Function → slice_get t.functions n ≡ Some (the_function list f (told a.values) (told a.stored) d) → FunctionPasses t (the_function list f (told a.values) (told a.stored) d)
  one_passes n g d is sort at =
      let m = d.«module» in
      let x = the_function list f (told a.values) (told a.stored) d in
      let fine = declaration_fine list f formed_list (declared_names list a unbroken) g d is in
      let names = test_at function_names t.functions n x (are_named list a unbroken).functions at in
      let tests = test_at (function_tests t (values_of t)) t.functions n x (are_asked list a unbroken).functions at in
      tree_passes m (module_name (module_at list m)) d.tree (shape d.tree (ap is_function_sort sort) fine.0) fine names tests (each_at is_known_function t.functions n x at known) (each_at function_built t.functions n x at built)

  -- All functions pass.
  pub functions_pass : (n : ℕ) (x : Function) → slice_get t.functions n ≡ Some x → FunctionPasses t x
  functions_pass n x at = by (slice_get (all_of sort_is.Function list) n) refl
    where
      found : (g : ℕ) (d : Declaration) → declaration_at list g ≡ Some d → sort_of d.tree ≡ sort_is.Function → slice_get t.functions n ≡ Some (the_function list f (told a.values) (told a.stored) d) → FunctionPasses t x
      found g d is sort e =
          subst (FunctionPasses t) (some_found (the_function list f (told a.values) (told a.stored) d) x (sym e ∙ at)) (one_passes n g d is sort e)

      by : (o : Option ℕ) → slice_get (all_of sort_is.Function list) n ≡ o → FunctionPasses t x
      by None e =
          let none : slice_get t.functions n ≡ None = function_number list f (told a.values) (told a.stored) n ∙ ap (λ o. function_maybe list f (told a.values) (told a.stored) (declaration_of list o)) e in
          none_found x (sym none ∙ at)
      by (Some g) e =
          let is = at_all (IsDeclared list sort_is.Function) (all_of sort_is.Function list) n g (all_declared list sort_is.Function) e in
          let there = function_number list f (told a.values) (told a.stored) n ∙ ap (λ o. function_maybe list f (told a.values) (told a.stored) (declaration_of list o)) e ∙ ap (function_maybe list f (told a.values) (told a.stored)) is.1 in
          found g is.0 is.1 (function_is (sort_of is.0.tree) is.2) there
