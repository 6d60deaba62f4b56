-- In a list in which nothing isn't built, no function, no hook and no value of a variable has a late node.
use Rattle.std.specs.Prelude.{ℤ, Bool, true, false, length}
use Rattle.std.proofs.Common.{ℕ, ◌≡◌, zero, suc, refl, subst, List, [], ◌∷◌, Option, Some, None, slice_get}
use Rattle.sp_base.specs.declared.places.Span.{Span}
use Rattle.sp_ast.specs.Trees.{Tree, Trees, absent, row, node, none, more}
use Rattle.sp_ast.specs.declared.forms.Form.TheVariants as form_is
use Rattle.sp_ast.specs.declared.forms.DeclForm.TheVariants as decl_is
use Rattle.sp_ast.specs.declared.forms.ItemForm.TheVariants as item_is
use Rattle.sp_types.specs.Types.{Ty, word}
use Rattle.sp_types.specs.declared.words.Word.TheVariants as word_is
use Rattle.sp_typed.specs.declared.words.Standing.TheVariants as standing_is
use Rattle.sp_typed.specs.Exprs.{Expr}
use Rattle.sp_typed_units.specs.declared.declarations.Function.{Function}
use Rattle.sp_typed_units.specs.declared.declarations.Hook.{Hook}
use Rattle.sp_typed_units.specs.declared.declarations.HookOf.{HookOf}
use Rattle.sp_typed_units.specs.declared.declarations.HookOf.TheVariants as of_is
use Rattle.sp_typed_units.specs.declared.declarations.Parameter.{Parameter}
use Rattle.sp_typed_units.specs.declared.declarations.Unit.{Unit as TypedUnit}
use Rattle.sp_typed_units.specs.declared.declarations.Variable.{Variable}
use Rattle.sp_solver.specs.Told.{told}
use Rattle.sp_names.specs.declared.rows.Declaration.{Declaration}
use Rattle.sp_names.specs.declared.sort.DeclSort.TheVariants as sort_is
use Rattle.sp_names.specs.Declarations.{rows, all_of, number_at, module_name, module_at}
use Rattle.sp_names.specs.Names.{declaration_of}
use Rattle.sp_type_context.specs.declared.places.Place.TheVariants.{Value}
use Rattle.sp_type_context.specs.Contexts.{Around}
use Rattle.sp_type_fields.specs.Attributes.{maybe_typed}
use Rattle.sp_ast.specs.Views.{present}
use Rattle.sp_type_scopes.specs.Decorators.{with_current, with_self}
use Rattle.sp_type_fields.specs.Parts.{Fields}
use Rattle.sp_type_fields.specs.Values.{Values}
use Rattle.sp_type_stmts.specs.Statements.{written_type}
use Rattle.sp_type_functions.specs.declared.site.Site.{Site as HookSite}
use Rattle.sp_type_functions.specs.Events.{is_of_sink}
use Rattle.sp_type_functions.specs.Functions.{body_giving, function_of}
use Rattle.sp_type_scopes.specs.Parameters.{parameters_in, with_parameters}
use Rattle.sp_type_functions.specs.Hooks.{self_type, self_standing, current_type, current_standing, hook_around, hook_body as body_of_hook, hook_of_body, hook_on}
use Rattle.sp_type_hooks.specs.Hooks.{seen_by, site_of, parameters_of, written_hook, hook_in, typed_hooks}
use Rattle.sp_typed_units.specs.Hooks.{unit_of}
use Rattle.sp_type_modules.specs.Members.{unit_items, declared_unit, unit_declaration}
use Rattle.sp_type_values.specs.declared.answer.Answer.{Answer}
use Rattle.sp_type_values.specs.Answers.{values}
use Rattle.sp_type_hook_order.specs.declared.keys.HookKey.{HookKey}
use Rattle.sp_type_hook_rows.specs.declared.sites.Holder.{Holder}
use Rattle.sp_type_hook_rows.specs.declared.sites.Holder.TheVariants as holder_is
use Rattle.sp_type_hook_rows.specs.declared.sites.Site.{Site}
use Rattle.sp_type_hook_rows.specs.declared.rows.HookRow.{HookRow}
use Rattle.sp_type_hook_rows.specs.Sites.{sites}
use Rattle.sp_type_hook_rows.specs.HookRows.{plain_of, each_of, field_number, is_some_tree, body_rows, named_rows, field_rows, item_row, declared_row, holder_rows, rows_of, hook_rows}
use Rattle.sp_type_list_context.specs.Contexts.{facts, module_of, in_module, modules_from, homes_of}
use Rattle.sp_type_units.specs.declared.calls.UnitCalls.{UnitCalls}
use Rattle.sp_type_units.specs.Items.{brought, variable_in, variables_in}
use Rattle.sp_type_units.specs.UnitRows.{inside_unit, parameter_trees, fields_in}
use Rattle.sp_type_units.specs.UnitRows as unit_rows
use Rattle.sp_type_declarations.specs.FunctionsAndOrders.{declared_function, functions_of}
use Rattle.sp_type_answers.specs.Lists.{calls_of, by_keys, units_from}
use Rattle.sp_law_lists.proofs.whole_list_lemmas.Modules.{none_found, some_found}
use Rattle.sp_law_lists.proofs.known_constants_lemmas.Declarations.{AllOf, both_of, at_all}
use Rattle.sp_law_lists.proofs.known_hooks_lemmas.Walks.{tree_at, places_pass, all_places}
use Rattle.sp_law_lists.proofs.passing_list_lemmas.Early.{stmt_early, AreEarly}
use Rattle.sp_law_lists.proofs.passing_list_lemmas.BuiltTrees.{IsBuilt, AreBuilt, built_passes}
use Rattle.sp_law_lists.proofs.passing_list_lemmas.EarlyExprs.{Early, target_early, typed_early}
use Rattle.sp_law_lists.proofs.passing_list_lemmas.EarlyNames.{items_built, found_built, module_early, parameters_early, self_early, current_early}
use Rattle.sp_law_lists.proofs.passing_list_lemmas.EarlyStmts.{body_early}

abbrev pub FunctionEarly : Function → Type 0
FunctionEarly x = stmt_early x.body ≡ true

abbrev pub HookEarly : Hook → Type 0
HookEarly x = stmt_early x.body ≡ true

abbrev pub ValueEarly : Option Expr → Type 0
ValueEarly None = Unit {0}
ValueEarly (Some e) = Early e

abbrev pub VariableEarly : Variable → Type 0
VariableEarly v = ValueEarly v.value

abbrev pub UnitEarly : TypedUnit → Type 0
UnitEarly u = AllOf VariableEarly u.variables

-- parts of a tree
parts_built : (t : Tree) (ts : Trees) → AreBuilt (more t ts) → IsBuilt t × AreBuilt ts
parts_built t ts h = ((built_passes 0).first t ts h, (built_passes 0).rest t ts h)

second_built : (a b : Tree) (ts : Trees) → AreBuilt (more a (more b ts)) → IsBuilt b
second_built a b ts h = (parts_built b ts (parts_built a (more b ts) h).1).0

third_built : (a b c : Tree) (ts : Trees) → AreBuilt (more a (more b (more c ts))) → IsBuilt c
third_built a b c ts h = second_built b c ts (parts_built a (more b (more c ts)) h).1

module _ (g : Around) (early : AreEarly g) where
  -- functions
  function_early : (owner : List ℕ) (m : ℕ) (x : Tree) → IsBuilt x → FunctionEarly (function_of g owner m x)
  function_early owner m (node (form_is.Decl (decl_is.Function public)) span (more name (more (row ps) (more result (more body none))))) h =
      let inner = (built_passes 0).parts (form_is.Decl (decl_is.Function public)) span (more name (more (row ps) (more result (more body none)))) h in
      let block = third_built (row ps) result body none (parts_built name (more (row ps) (more result (more body none))) inner).1 in
      let own = parameters_in g ps in
      body_early (with_parameters 0 false own g) (parameters_early g 0 false own early) block.text block.«module» (body_giving (written_type g Value result)) [] body block.all
  function_early owner m _ h = refl

  -- hooks
  around_early : (of : HookOf) (current : Ty) (units own : List Parameter) → AreEarly (hook_around of current units own g)
  around_early of current units own =
      let outer = with_parameters (length own) (is_of_sink of) units g in
      let being = with_self (self_type of) (self_standing of) outer in
      let having = with_current (current_type of current) (current_standing of) being in
      parameters_early having 0 false own (current_early being (current_type of current) (current_standing of) (self_early outer (self_type of) (self_standing of) (parameters_early g (length own) (is_of_sink of) units early)))

  module _ (ranks : Expr → Option ℤ) (s : HookSite) (units : List Parameter) where
    does_early : (own : List Parameter) (x : Tree) → IsBuilt x → HookEarly (hook_of_body g ranks s units own x)
    does_early own (node (form_is.HookBody each) span (more priority (more body none))) h =
        let block = second_built priority body none ((built_passes 0).parts (form_is.HookBody each) span (more priority (more body none)) h) in
        body_early (hook_around s.of s.current units own g) (around_early s.of s.current units own) block.text block.«module» (body_of_hook s.of) [] body block.all
    does_early own _ h = refl

    on_early : (x : Tree) → IsBuilt x → HookEarly (hook_on g ranks s units x)
    on_early (node form_is.Hook span (more (row ps) (more body none))) h =
        does_early (parameters_in g ps) body (second_built (row ps) body none ((built_passes 0).parts form_is.Hook span (more (row ps) (more body none)) h))
    on_early _ h = refl

  -- variables
  value_early : (t : Ty) (x : Tree) → IsBuilt x → ValueEarly (brought t (maybe_typed g (present x)))
  value_early t absent h = tt
  value_early t (row ts) h = target_early t _ (typed_early g early h.text h.«module» (row ts) h.all)
  value_early t (node form span ts) h = target_early t _ (typed_early g early h.text h.«module» (node form span ts) h.all)

  variable_early : (fields : Fields) (x : Tree) → IsBuilt x → AllOf VariableEarly (variable_in g fields x)
  variable_early fields (node (form_is.Item item_is.Variable) span (more name (more t (more value none)))) h =
      (value_early (g.type_in Value t) value (third_built name t value none ((built_passes 0).parts (form_is.Item item_is.Variable) span (more name (more t (more value none))) h)), tt)
  variable_early fields _ h = tt

  variables_early : (fields : Fields) (xs : Trees) → AreBuilt xs → AllOf VariableEarly (variables_in g fields xs)
  variables_early fields none h = tt
  variables_early fields (more x xs) h =
      let p = parts_built x xs h in
      both_of VariableEarly (variable_in g fields x) (variables_in g fields xs) (variable_early fields x p.0) (variables_early fields xs p.1)

-- rows of hooks
abbrev HookBuilt : Option Tree → Tree → Type 0
HookBuilt None body = IsBuilt body
HookBuilt (Some hook) body = IsBuilt hook

abbrev RowBuilt : HookRow → Type 0
RowBuilt r = HookBuilt r.hook r.body

behind_built : (m : ℕ) (plain elements : HookOf) (counted : Bool) (place : Option ℕ) (ts : Trees) → AreBuilt ts → AllOf RowBuilt (body_rows m plain elements counted place ts)
behind_built m plain elements counted place none h = tt
behind_built m plain elements counted place (more b ts) h = (let p = parts_built b ts h in (p.0, behind_built m plain elements counted place ts p.1))

module _ (list : List Tree) (f : ℕ → Option Ty) where
  named_built : (m n : ℕ) (span : Span) (name : Tree) (counted : Bool) (ts : Trees) → AreBuilt ts → AllOf RowBuilt (named_rows list m n span name counted ts)
  named_built m n span (node (form_is.Name x) s us) counted ts h = behind_built m (plain_of n (field_number list n x)) (each_of n (field_number list n x)) counted None ts h
  named_built m n span (node _ s us) counted ts h = behind_built m (of_is.Anonymous n) (of_is.AnonymousElements n) counted (Some span.from) ts h
  named_built m n span absent counted ts h = behind_built m (of_is.Anonymous n) (of_is.AnonymousElements n) counted (Some span.from) ts h
  named_built m n span (row us) counted ts h = behind_built m (of_is.Anonymous n) (of_is.AnonymousElements n) counted (Some span.from) ts h

  field_built : (m n : ℕ) (t : Tree) → IsBuilt t → AllOf RowBuilt (field_rows list m n t)
  field_built m n (node form_is.Field span (more name (more base (more (row counts) (more attributes (more condition (more sink (more (row bodies) none)))))))) h =
      let last = more (row bodies) none in
      let d = more condition (more sink last) in
      let b = more (row counts) (more attributes d) in
      let inner = (built_passes 0).parts form_is.Field span (more name (more base b)) h in
      let behind = (parts_built attributes d (parts_built (row counts) (more attributes d) (parts_built base b (parts_built name (more base b) inner).1).1).1).1 in
      named_built m n span name (is_some_tree counts) bodies ((built_passes 0).in_row bodies (third_built condition sink (row bodies) none behind))
  field_built m n _ h = tt

  item_built : (m n : ℕ) (t : Tree) → IsBuilt t → AllOf RowBuilt (item_row list m n t)
  item_built m n (node (form_is.Item item_is.On) span (more target (more hook ts))) h = (second_built target hook ts ((built_passes 0).parts (form_is.Item item_is.On) span (more target (more hook ts)) h), tt)
  item_built m n _ h = tt

  declared_built : (m : ℕ) (t : Tree) → IsBuilt t → AllOf RowBuilt (declared_row list f m t)
  declared_built m (node (form_is.Decl decl_is.On) span (more path (more name (more hook ts)))) h =
      (third_built path name hook ts ((built_passes 0).parts (form_is.Decl decl_is.On) span (more path (more name (more hook ts))) h), tt)
  declared_built m _ h = tt

  abbrev SiteBuilt : Site → Type 0
  SiteBuilt s = IsBuilt (tree_at s.holder)

  holder_built : (m n : ℕ) (h : Holder) → IsBuilt (tree_at h) → AllOf RowBuilt (holder_rows list f m n h)
  holder_built m n (holder_is.Declaration t) h = declared_built m t h
  holder_built m n (holder_is.Item t) h = item_built m n t h
  holder_built m n (holder_is.Field t) h = field_built m n t h

  each_built : (ss : List Site) → AllOf SiteBuilt ss → AllOf RowBuilt (rows_of list f ss)
  each_built [] h = tt
  each_built (s ∷ ss) h = both_of RowBuilt (holder_rows list f s.«module» s.unit s.holder) (rows_of list f ss) (holder_built s.«module» s.unit s.holder h.0) (each_built ss h.1)

  module _ (built : AllOf (λ (d : Declaration). IsBuilt d.tree) (rows list)) where
    rows_built : AllOf RowBuilt (hook_rows list f)
    rows_built =
        each_built (sites list)
        (all_places list SiteBuilt
        (λ g d is. places_pass (λ m x. IsBuilt x) (λ m xs. AreBuilt xs) built_passes d.«module» (number_at list g) d.tree (at_all (λ (x : Declaration). IsBuilt x.tree) (rows list) g d built is)))

    module _ (known : ℕ → Option Answer) (stored : List (Option Ty)) where
      abbrev home : ℕ → Around
      home m = in_module list f known (told stored) m

      home_early : (m : ℕ) → AreEarly (home m)
      home_early m = module_early list built (facts list f known (told stored)) m

      -- the functions of the list
      declared_early : (o : Option Declaration) → ((d : Declaration) → o ≡ Some d → IsBuilt d.tree) → AllOf FunctionEarly (declared_function list f known (told stored) o)
      declared_early None h = tt
      declared_early (Some d) h = (function_early (home d.«module») (home_early d.«module») (module_name (module_at list d.«module»)) d.«module» d.tree (h d refl), tt)

      pub functions_early : (gs : List ℕ) → AllOf FunctionEarly (functions_of list f known (told stored) gs)
      functions_early [] = tt
      functions_early (g ∷ gs) =
          let o = declaration_of list (Some g) in
          both_of FunctionEarly (declared_function list f known (told stored) o) (functions_of list f known (told stored) gs) (declared_early o (found_built list built (Some g))) (functions_early gs)

      -- its hooks
      context_early : (m : ℕ) (ts : List Tree) (n : ℕ) (g : Around) → slice_get (modules_from list f known (told stored) m ts) n ≡ Some g → AreEarly g
      context_early m [] n g e = none_found g e
      context_early m (t ∷ ts) zero g e = subst AreEarly (some_found (home m) g e) (home_early m)
      context_early m (t ∷ ts) (suc n) g e = context_early (suc m) ts n g e

      written_early : (g : Around) → AreEarly g → (ranks : Expr → Option ℤ) (s : HookSite) (units : List Parameter) (hook : Option Tree) (body : Tree) → HookBuilt hook body → HookEarly (written_hook g ranks s units hook body)
      written_early g early ranks s units (Some hook) body h = on_early g early ranks s units hook h
      written_early g early ranks s units None body h = does_early g early ranks s units [] body h

      hook_early : (ranks : Expr → Option ℤ) (units : List (List Parameter)) (r : HookRow) (seen : Option Ty × Option Ty) (o : Option Around) → ((g : Around) → o ≡ Some g → AreEarly g) → RowBuilt r → HookEarly (hook_in o ranks units r seen)
      hook_early ranks units r seen None early h = refl
      hook_early ranks units r seen (Some g) early h = written_early g (early g refl) ranks (site_of seen r) (parameters_of units (unit_of r.of)) r.hook r.body h

      abbrev contexts : List Around
      contexts = modules_from list f known (told stored) 0 list

      each_hook_early : (ranks : Expr → Option ℤ) (seen : ℕ × ℕ × ℕ → Option Ty × Option Ty) (units : List (List Parameter)) (rs : List HookRow) → AllOf RowBuilt rs → AllOf HookEarly (typed_hooks contexts ranks seen units rs)
      each_hook_early ranks seen units [] h = tt
      each_hook_early ranks seen units (r ∷ rs) h =
          (hook_early ranks units r (seen_by seen r) (slice_get contexts r.«module») (context_early 0 list r.«module») h.0, each_hook_early ranks seen units rs h.1)

      pub hooks_early : (ranks : Expr → Option ℤ) (seen : ℕ × ℕ × ℕ → Option Ty × Option Ty) (units : List (List Parameter)) → AllOf HookEarly (typed_hooks contexts ranks seen units (hook_rows list f))
      hooks_early ranks seen units = each_hook_early ranks seen units (hook_rows list f) rows_built

      -- its units
      module _ (ss : List Site) (hooks : List (Option HookKey) × List ℤ) (v : Values) (calls : UnitCalls) where
        row_early : (g : Around) → AreEarly g → (n : ℕ) (o : Option Declaration) → ((d : Declaration) → o ≡ Some d → IsBuilt d.tree) → UnitEarly (unit_rows.declared_row list (told stored) ss hooks v calls g n o)
        row_early g early n None h = tt
        row_early g early n (Some d) h =
            let unit = declared_unit (Some d) in
            let ps = parameters_in g (parameter_trees unit) in
            let outer = with_parameters 0 false ps g in
            let inside = inside_unit n ps g in
            variables_early inside (self_early outer (word (word_is.Unit n)) standing_is.Meant (parameters_early g 0 false ps early)) (fields_in list (told stored) ss hooks v n unit inside) (unit_items unit) (items_built d.tree (h d refl))

      each_unit_early : (ss : List Site) (rs : List HookRow) (hs : List Hook) (n : ℕ) (gs : List Around) → AllOf AreEarly gs → AllOf UnitEarly (units_from list f known stored ss rs hs n gs)
      each_unit_early ss rs hs n [] early = tt
      each_unit_early ss rs hs n (g ∷ gs) early =
          (row_early ss (by_keys rs hs) (values list f known) (calls_of hs n) g early.0 n (unit_declaration list n) (found_built list built (slice_get (all_of sort_is.Unit list) n)), each_unit_early ss rs hs (suc n) gs early.1)

      homes_early : (gs : List ℕ) → AllOf AreEarly (homes_of list f known (told stored) gs)
      homes_early [] = tt
      homes_early (g ∷ gs) = (home_early (module_of (declaration_of list (Some g))), homes_early gs)

      pub units_early : (ss : List Site) (rs : List HookRow) (hs : List Hook) → AllOf UnitEarly (units_from list f known stored ss rs hs 0 (homes_of list f known (told stored) (all_of sort_is.Unit list)))
      units_early ss rs hs = each_unit_early ss rs hs 0 (homes_of list f known (told stored) (all_of sort_is.Unit list)) (homes_early (all_of sort_is.Unit list))
