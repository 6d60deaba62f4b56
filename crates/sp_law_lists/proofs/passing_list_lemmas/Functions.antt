-- The functions of a typed list, by their numbers: what they give and take is what is known of them where expressions are typed.
use Rattle.std.specs.Prelude.{Bool, true, false, ◌==◌, if◌then◌else◌, ◌++◌}
use Rattle.std.specs.List.{list_all}
use Rattle.std.proofs.Common.{ℕ, ◌≡◌, ◌+◌, zero, suc, refl, sym, ap, subst, ◌∙◌, arith, List, [], ◌∷◌, Option, Some, None, slice_get}
use Rattle.std.proofs.lemmas.Bool.{and_parts}
use Rattle.sp_base.specs.declared.places.Span.{Span}
use Rattle.sp_ast.specs.Trees.{Tree, Trees, absent, row, node, none, more}
use Rattle.sp_ast.specs.Slots.{fill, slots, is_formed, are_formed}
use Rattle.sp_ast.specs.Groups.{is_of, are_of}
use Rattle.sp_ast.specs.declared.groups.Group.TheVariants as group_is
use Rattle.sp_ast.specs.declared.forms.Form.TheVariants as form_is
use Rattle.sp_ast.specs.declared.forms.DeclForm.TheVariants as decl_is
use Rattle.sp_rules.specs.declared.fault.Fault.{Fault}
use Rattle.sp_types.specs.Types.{Ty}
use Rattle.sp_solver.specs.Told.{told}
use Rattle.sp_typed_units.specs.declared.declarations.Function.{Function}
use Rattle.sp_typed_units.specs.declared.declarations.Parameter.{Parameter}
use Rattle.sp_typed_units.specs.declared.declarations.Typed.{Typed}
use Rattle.sp_names.specs.declared.rows.Declaration.{Declaration}
use Rattle.sp_names.specs.declared.sort.DeclSort.{DeclSort}
use Rattle.sp_names.specs.declared.sort.DeclSort.TheVariants as sort_is
use Rattle.sp_names.specs.Declarations.{list_of, rows, all_from, all_of, is_sort, sort_number, sort_of, declaration_at, module_name, module_at}
use Rattle.sp_type_modules.specs.Written.{type_at}
use Rattle.sp_type_values.specs.declared.answer.Answer.{Answer}
use Rattle.sp_names.specs.Names.{declaration_of}
use Rattle.sp_type_context.specs.declared.places.Place.{Place}
use Rattle.sp_type_context.specs.declared.places.Place.TheVariants.{Value}
use Rattle.sp_type_context.specs.Places.{parameter_place}
use Rattle.sp_type_context.specs.Contexts.{Around}
use Rattle.sp_type_stmts.specs.Statements.{written_type}
use Rattle.sp_type_functions.specs.Functions.{or_void, function_of}
use Rattle.sp_type_scopes.specs.Parameters.{parameters_in}
use Rattle.sp_type_modules.specs.Heads.{parameter_types, function_parameters, types_of_function, result_type, result_of, type_or_void, function_takes as takes_of, function_gives, function_declaration}
use Rattle.sp_rule_lists.specs.Told.{function_takes, parameter_type}
use Rattle.sp_type_list_context.specs.Contexts.{in_module}
use Rattle.sp_type_answers.specs.Settled.{Answers}
use Rattle.sp_type_answers.specs.Lists.{typed_of}
use Rattle.sp_type_declarations.specs.FunctionsAndOrders.{declared_function, functions_of, functions}
use Rattle.sp_type_answers.specs.Rules.{Breaks}
use Rattle.sp_law_lists.proofs.known_types_lemmas.Full.{never}
use Rattle.sp_law_lists.proofs.known_constants_lemmas.Declarations.{AllOf, at_all, declaration_fine}
use Rattle.sp_law_lists.proofs.whole_list_lemmas.Modules.{none_found, some_found}
use Rattle.sp_law_lists.proofs.known_members_lemmas.Shapes.{no_first, no_second}
use Rattle.sp_law_lists.proofs.unbroken_list_lemmas.Split.{declared_names}
use Rattle.sp_law_lists.proofs.unbroken_list_lemmas.Functions.{is_function_sort, whole, IsWhole, shape, function_slots, declared}
use Rattle.sp_law_lists.specs.known_kinds.Made.{given_by}

-- what is declared of a sort
pub function_is : (s : DeclSort) → (sort_number s == 7) ≡ true → s ≡ sort_is.Function
function_is sort_is.Function e = refl
function_is _ e = never e

module _ (list : List Tree) (s : DeclSort) where
  abbrev pub IsDeclared : ℕ → Type 0
  IsDeclared g = (d : Declaration) × (declaration_at list g ≡ Some d) × (is_sort s d ≡ true)

  declared_are : (h : ℕ) (ds : List Declaration) → ((j : ℕ) → slice_get (rows list) (h + j) ≡ slice_get ds j) → AllOf IsDeclared (all_from s h ds)
  declared_are h [] at = tt
  declared_are h (d ∷ ds) at = by (is_sort s d) refl (declared_are (suc h) ds (λ j. (let e : suc h + j ≡ h + suc j = omega arith in ap (slice_get (rows list)) e ∙ at (suc j))))
    where
      by : (b : Bool) → is_sort s d ≡ b → AllOf IsDeclared (all_from s (suc h) ds) → AllOf IsDeclared (if b then h ∷ all_from s (suc h) ds else all_from s (suc h) ds)
      by true is next =
          let e : h ≡ h + 0 = omega arith in
          ((d, ap (slice_get (rows list)) e ∙ at 0, is), next)
      by false is next = next

  pub all_declared : AllOf IsDeclared (all_of s list)
  all_declared = declared_are 0 (rows list) (λ j. (let e : 0 + j ≡ j = omega arith in ap (slice_get (rows list)) e))

-- the types of parameters
abbrev pub types_in : List Parameter → List Ty
types_in [] = []
types_in (p ∷ ps) = p.ty ∷ types_in ps

pub types_at : (ps : List Parameter) (n : ℕ) → slice_get (types_in ps) n ≡ parameter_type (slice_get ps n)
types_at [] n = refl
types_at (p ∷ ps) zero = refl
types_at (p ∷ ps) (suc n) = types_at ps n

-- the tree of a parameter
record IsParameter (p : Tree) : Type 0 where
  inout : Bool
  span : Span
  name : Tree
  ty : Tree
  is : p ≡ node (form_is.Parameter inout) span (more name (more ty none))

parameter_shape : (p : Tree) → is_of group_is.Parameters p ≡ true → is_formed p ≡ true → IsParameter p
parameter_shape (node (form_is.Parameter inout) span (more name (more t none))) of h = record { inout = inout; span = span; name = name; ty = t; is = refl }
parameter_shape (node (form_is.Parameter inout) span none) of h = never h
parameter_shape (node (form_is.Parameter inout) span (more name none)) of h = no_first (is_of group_is.Names name) (are_formed (more name none)) h
parameter_shape (node (form_is.Parameter inout) span (more name (more t (more x xs)))) of h =
    no_second (is_of group_is.Names name) (is_of group_is.Types t) (are_formed (more name (more t (more x xs)))) h
parameter_shape (node _ span ts) of h = never of
parameter_shape absent of h = never of
parameter_shape (row ts) of h = never of

module _ (list : List Tree) (f : ℕ → Option Ty) (m : ℕ) (g : Around) (types : (place : Place) (t : Tree) → g.type_in place t ≡ type_at list f m place t) where
  pub same_types : (ps : Trees) → are_of group_is.Parameters ps ≡ true → are_formed ps ≡ true → parameter_types list f m (list_of ps) ≡ types_in (parameters_in g ps)
  same_types none of h = refl
  same_types (more p ps) of h =
      let o = and_parts (is_of group_is.Parameters p) (are_of group_is.Parameters ps) of in
      let i = and_parts (is_formed p) (are_formed ps) h in
      let s = parameter_shape p o.0 i.0 in
      subst (λ q. parameter_types list f m (q ∷ list_of ps) ≡ types_in (parameters_in g (more q ps))) (sym s.is)
      (ap (λ t. t ∷ parameter_types list f m (list_of ps)) (sym (types (parameter_place s.inout) s.ty)) ∙ ap (λ ts. g.type_in (parameter_place s.inout) s.ty ∷ ts) (same_types ps o.1 i.1))

module _ (list : List Tree) (f : ℕ → Option Ty) (known : ℕ → Option Answer) (stored : ℕ → Option Ty) where
  abbrev pub the_function : Declaration → Function
  the_function d = declared list f known stored d

  abbrev pub function_maybe : Option Declaration → Option Function
  function_maybe None = None
  function_maybe (Some d) = Some (the_function d)

  pub functions_get : (gs : List ℕ) (n : ℕ) → AllOf (IsDeclared list sort_is.Function) gs → slice_get (functions_of list f known stored gs) n ≡ function_maybe (declaration_of list (slice_get gs n))
  functions_get [] n are = refl
  functions_get (g ∷ gs) zero are =
      subst (λ o. slice_get (declared_function list f known stored o ++ functions_of list f known stored gs) zero ≡ function_maybe o) (sym are.0.1) refl
  functions_get (g ∷ gs) (suc n) are =
      subst (λ o. slice_get (declared_function list f known stored o ++ functions_of list f known stored gs) (suc n) ≡ function_maybe (declaration_of list (slice_get gs n))) (sym are.0.1) (functions_get gs n are.1)

  pub function_number : (n : ℕ) → slice_get (functions list f known stored) n ≡ function_maybe (function_declaration list n)
  function_number n = functions_get (all_of sort_is.Function list) n (all_declared list sort_is.Function)

  -- what a function gives and takes
  gives_in : (d : Declaration) (result : Tree) → type_or_void list f d.«module» result ≡ or_void (written_type (in_module list f known stored d.«module») Value result)
  gives_in d absent = refl
  gives_in d (row ts) = refl
  gives_in d (node form span ts) = refl

  whole_gives : (d : Declaration) (x : Tree) → IsWhole x → result_type list f d.«module» x ≡ (function_of (in_module list f known stored d.«module») (module_name (module_at list d.«module»)) d.«module» x).result
  whole_gives d x w =
      subst (λ y. result_type list f d.«module» y ≡ (function_of (in_module list f known stored d.«module») (module_name (module_at list d.«module»)) d.«module» y).result) (sym w.is) (gives_in d w.result)

  whole_takes : (d : Declaration) (x : Tree) → IsWhole x → is_formed x ≡ true → parameter_types list f d.«module» (function_parameters x) ≡ types_in (function_of (in_module list f known stored d.«module») (module_name (module_at list d.«module»)) d.«module» x).parameters
  whole_takes d x w h =
      let m = d.«module» in
      let y = whole w.public w.span w.name w.parameters w.result w.body in
      let ts = more w.name (more (row w.parameters) (more w.result (more w.body none))) in
      let formed : is_formed y ≡ true = subst (λ z. is_formed z ≡ true) w.is h in
      let p = and_parts (fill (slots (form_is.Decl (decl_is.Function false))) ts) (are_formed ts) formed in
      let of = (function_slots w.name w.parameters w.result w.body p.0).0 in
      let q = and_parts (is_formed w.name) (are_formed (more (row w.parameters) (more w.result (more w.body none)))) p.1 in
      let r = and_parts (are_formed w.parameters) (are_formed (more w.result (more w.body none))) q.1 in
      subst (λ z. parameter_types list f m (function_parameters z) ≡ types_in (function_of (in_module list f known stored m) (module_name (module_at list m)) m z).parameters) (sym w.is)
      (same_types list f m (in_module list f known stored m) (λ place t. refl) w.parameters of r.0)

-- In a list in which no rule is broken.
module _ (list : List Tree) (a : Answers list) (formed_list : list_all is_formed list ≡ true) (unbroken : (x : Fault) → Breaks list x → ⊥) where
  abbrev f : ℕ → Option Ty
  f = told a.types

  abbrev t : Typed
  t = typed_of list a

  tree_formed : (g : ℕ) (d : Declaration) → declaration_at list g ≡ Some d → is_formed d.tree ≡ true
  tree_formed g d at = (declaration_fine list f formed_list (declared_names list a unbroken) g d at).0

  -- a declaration of a function, by its number
  pub record Found (o : Option Declaration) : Type 0 where
    pub whole_tree : (d : Declaration) → o ≡ Some d → IsWhole d.tree × (is_formed d.tree ≡ true)

  pub found_function : (n : ℕ) → Found (function_declaration list n)
  found_function n = by (slice_get (all_of sort_is.Function list) n) refl
    where
      by : (o : Option ℕ) → slice_get (all_of sort_is.Function list) n ≡ o → Found (declaration_of list o)
      by None e = record { whole_tree = λ d i. none_found d i }
      by (Some g) e = record {
        whole_tree = λ d i. (
            let is = at_all (IsDeclared list sort_is.Function) (all_of sort_is.Function list) n g (all_declared list sort_is.Function) e in
            let same = some_found is.0 d (sym is.1 ∙ i) in
            let sort = function_is (sort_of d.tree) (subst (λ c. is_sort sort_is.Function c ≡ true) same is.2) in
            let h = tree_formed g d i in
            (shape d.tree (ap is_function_sort sort) h, h)
            );
      }

  pub gives : (n : ℕ) → function_gives list f n ≡ given_by (slice_get t.functions n)
  gives n = by (function_declaration list n) (found_function n) ∙ ap given_by (sym (function_number list f (told a.values) (told a.stored) n))
    where
      by : (o : Option Declaration) → Found o → result_of list f o ≡ given_by (function_maybe list f (told a.values) (told a.stored) o)
      by None x = refl
      by (Some d) x = whole_gives list f (told a.values) (told a.stored) d d.tree (x.whole_tree d refl).0

  pub takes : (n k : ℕ) → slice_get (takes_of list f n) k ≡ function_takes (slice_get t.functions n) k
  takes n k = by (function_declaration list n) (found_function n) ∙ ap (λ o. function_takes o k) (sym (function_number list f (told a.values) (told a.stored) n))
    where
      by : (o : Option Declaration) → Found o → slice_get (types_of_function list f o) k ≡ function_takes (function_maybe list f (told a.values) (told a.stored) o) k
      by None x = refl
      by (Some d) x =
          let w = x.whole_tree d refl in
          ap (λ ts. slice_get ts k) (whole_takes list f (told a.values) (told a.stored) d d.tree w.0 w.1) ∙ types_at (the_function list f (told a.values) (told a.stored) d).parameters k
