-- The hooks of a list in which no rule is broken pass.
use Rattle.std.specs.Prelude.{true, false, is_some}
use Rattle.std.specs.List.{list_all}
use Rattle.std.proofs.Common.{ℕ, ℤ, ◌≡◌, ◌+◌, zero, suc, refl, sym, ap, subst, ◌∙◌, arith, List, [], ◌∷◌, Option, Some, None, slice_get}
use Rattle.sp_ast.specs.Trees.{Tree}
use Rattle.sp_ast.specs.Slots.{is_formed}
use Rattle.sp_rules.specs.declared.fault.Fault.{Fault}
use Rattle.sp_types.specs.Types.{Ty}
use Rattle.sp_typed.specs.Exprs.{Expr}
use Rattle.sp_typed_units.specs.declared.declarations.Hook.{Hook}
use Rattle.sp_typed_units.specs.declared.declarations.HookOf.{HookOf}
use Rattle.sp_typed_units.specs.declared.declarations.HookOf.TheVariants as of_is
use Rattle.sp_typed_units.specs.declared.declarations.Parameter.{Parameter}
use Rattle.sp_typed_units.specs.declared.declarations.Typed.{Typed}
use Rattle.sp_solver.specs.Told.{told}
use Rattle.sp_names.specs.Types.{or_unknown}
use Rattle.sp_type_context.specs.Contexts.{Around as Names}
use Rattle.sp_type_functions.specs.declared.site.Site.{Site}
use Rattle.sp_type_functions.specs.Events.{is_of_elements}
use Rattle.sp_type_functions.specs.Hooks.{current_type, no_hook}
use Rattle.sp_type_hooks.specs.Fields.{seen_of}
use Rattle.sp_type_hooks.specs.Hooks.{current_of as typed_current, site_of, parameters_of, written_hook, hook_in, typed_hooks}
use Rattle.sp_typed_units.specs.Hooks.{unit_of}
use Rattle.sp_type_hook_rows.specs.declared.rows.HookRow.{HookRow}
use Rattle.sp_type_hook_rows.specs.Sites.{sites}
use Rattle.sp_type_hook_rows.specs.HookRows.{hook_rows}
use Rattle.sp_type_values.specs.Answers.{values}
use Rattle.sp_type_list_context.specs.Contexts.{in_module, in_modules, in_units, all_parameters}
use Rattle.sp_rule_lists.specs.Names.{is_of_nothing, hook_names}
use Rattle.sp_rule_lists.specs.Told.{values_of}
use Rattle.sp_rule_lists.specs.Bodies.{own_hook_tests, hook_tests}
use Rattle.sp_type_declarations.specs.FunctionsAndOrders.{ranks}
use Rattle.sp_type_answers.specs.Settled.{Answers}
use Rattle.sp_type_answers.specs.Lists.{typed_of}
use Rattle.sp_type_answers.specs.Rules.{Breaks}
use Rattle.sp_meaning.specs.Hooks.{has_current}
use Rattle.sp_code_programs.specs.programs.Routines.{hook_unit}
use Rattle.sp_law_lists.specs.known_types.Clear.{none_hold}
use Rattle.sp_law_lists.proofs.known_types_lemmas.Full.{never}
use Rattle.sp_law_lists.specs.whole_list.Whole.{is_known_function, is_known_hook}
use Rattle.sp_law_lists.proofs.whole_list_lemmas.Modules.{none_found, some_found}
use Rattle.sp_law_lists.proofs.known_constants_lemmas.Declarations.{AllOf, at_all}
use Rattle.sp_law_lists.proofs.known_constants_lemmas.Enums.{test_at}
use Rattle.sp_law_lists.proofs.unbroken_list_lemmas.Split.{are_named, are_asked}
use Rattle.sp_law_lists.specs.known_members.Given.{unit_reads}
use Rattle.sp_law_lists.proofs.known_members_lemmas.Rounds.{NoneIsPassed}
use Rattle.sp_law_lists.proofs.known_hooks_lemmas.Bodies.{types, paths, HookWritten}
use Rattle.sp_law_lists.proofs.known_hooks_lemmas.Contexts.{module_is}
use Rattle.sp_law_lists.proofs.known_hooks_lemmas.Seen.{all_own}
use Rattle.sp_law_lists.proofs.known_hooks_lemmas.Rows.{RowGood, rows_good}
use Rattle.sp_law_lists.proofs.known_hooks_lemmas.Lists.{of_written, own_tests, all_fine, current_full, unit_parameters, env_known, env_told}
use Rattle.sp_code_meaning.specs.Layouts.{Layout}
use Rattle.sp_law_lists.specs.fit_expr.Test.{unit_parameter}
use Rattle.sp_law_lists.specs.fit_list.Bodies.{current_of, HookPasses}
use Rattle.sp_law_lists.specs.passing_list.Built.{hook_built}
use Rattle.sp_law_lists.specs.passing_list.Hooked.{seen_in}
use Rattle.sp_law_lists.proofs.passing_list_lemmas.Members.{round_of}
use Rattle.sp_law_lists.proofs.passing_list_lemmas.Names.{home_made, home_widens}
use Rattle.sp_law_lists.proofs.passing_list_lemmas.FunctionBodies.{each_at}
use Rattle.sp_law_lists.proofs.passing_list_lemmas.Seen.{unit_keeps}
use Rattle.sp_law_lists.proofs.passing_list_lemmas.HookBodies.{nothing_passes, behind_passes, on_passes}

-- the unit of a hook, named twice
same_unit : (of : HookOf) → unit_of of ≡ hook_unit of
same_unit of_is.Nothing = refl
same_unit (of_is.Unit n h) = refl
same_unit (of_is.Field n k) = refl
same_unit (of_is.Elements n k) = refl
same_unit (of_is.Anonymous n) = refl
same_unit (of_is.AnonymousElements n) = refl

-- `$$` of a hook that is run once is what its field stores
pub stored_current : (of : HookOf) (o e : Option Ty) → has_current of ≡ true → is_of_elements of ≡ false → current_type of (typed_current of o e) ≡ or_unknown o
stored_current of_is.Nothing o e h w = never h
stored_current (of_is.Unit n x) o e h w = never h
stored_current (of_is.Field n k) o e h w = refl
stored_current (of_is.Elements n k) o e h w = never (sym w)
stored_current (of_is.Anonymous n) o e h w = refl
stored_current (of_is.AnonymousElements n) o e h w = never (sym w)

pub told_current : (of : HookOf) (t : Ty) → has_current of ≡ true → is_of_elements of ≡ false → current_of of (Some t) ≡ t
told_current of_is.Nothing t h w = never h
told_current (of_is.Unit n x) t h w = never h
told_current (of_is.Field n k) t h w = refl
told_current (of_is.Elements n k) t h w = never (sym w)
told_current (of_is.Anonymous n) t h w = refl
told_current (of_is.AnonymousElements n) t h w = never (sym w)

module _ (list : List Tree) (a : Answers list) (formed_list : list_all is_formed list ≡ true) (unbroken : (x : Fault) → Breaks list x → ⊥) (reads : list_all unit_reads (typed_of list a).units ≡ true) (passed : NoneIsPassed)
    (single : AllOf (λ (r : HookRow). is_of_elements r.of ≡ false) (hook_rows list (told a.types)))
    (functions : list_all is_known_function (typed_of list a).functions ≡ true) (known : list_all is_known_hook (typed_of list a).hooks ≡ true) (built : list_all hook_built (typed_of list a).hooks ≡ true) where
  abbrev f : ℕ → Option Ty
  f = told a.types

  abbrev pub t : Typed
  t = typed_of list a

  abbrev rows : List HookRow
  rows = hook_rows list f

  abbrev rank : Expr → Option ℤ
  rank = ranks list f (told a.values)

  abbrev all_units : List (List Parameter)
  all_units = all_parameters list f (told a.values) (told a.stored)

  abbrev contexts : List Names
  contexts = in_modules list f (told a.values) (told a.stored)

  -- what a hook sees of its field
  abbrev pub seen : HookRow → Option Ty × Option Ty
  seen r = seen_in list a r

  abbrev the_hook : HookRow → Hook
  the_hook r = hook_in (slice_get contexts r.«module») rank all_units r (seen r)

  good : AllOf (RowGood list a formed_list unbroken) rows
  good = rows_good list a formed_list unbroken (all_fine list a formed_list unbroken reads passed) (all_own list)

  -- the hook of a row
  module _ (r : HookRow) (fine : RowGood list a formed_list unbroken r) (once : is_of_elements r.of ≡ false) (o : Option Ty) (agree : has_current r.of ≡ true → current_of r.of o ≡ or_unknown (seen r).0) where
    abbrev env : Names
    env = in_module list f (told a.values) (told a.stored) r.«module»

    abbrev place : Site
    place = site_of (seen r) r

    abbrev own_units : List Parameter
    own_units = parameters_of all_units (unit_of r.of)

    keeps : (places : Layout) (kinds : List Ty) (n : ℕ) (p : Parameter) → slice_get own_units n ≡ Some p → unit_parameter (round_of t places kinds (hook_unit r.of)) (hook_unit r.of) n p.ty ≡ true
    keeps places kinds n p e = unit_keeps list a places kinds (hook_unit r.of) n p (sym (ap (λ u. slice_get (parameters_of all_units u) n) (same_unit r.of)) ∙ e)

    whole : is_of_elements r.of ≡ false → is_of_elements r.of ≡ true → is_some (seen r).1 ≡ true
    whole w e = never (sym w ∙ e)

    agrees : has_current r.of ≡ true → current_of r.of o ≡ current_type r.of (typed_current r.of (seen r).0 (seen r).1)
    agrees h = agree h ∙ sym (stored_current r.of (seen r).0 (seen r).1 h once)

    row_passes : none_hold (hook_names (written_hook env rank place own_units r.hook r.body)) ≡ true → none_hold (hook_tests t (values_of t) (written_hook env rank place own_units r.hook r.body)) ≡ true → is_known_hook (written_hook env rank place own_units r.hook r.body) ≡ true
        → hook_built (written_hook env rank place own_units r.hook r.body) ≡ true → HookPasses t o (written_hook env rank place own_units r.hook r.body)
    row_passes names tests right built_here =
        let asked = own_tests t (values_of t) (written_hook env rank place own_units r.hook r.body) names tests in
        let something : is_of_nothing r.of ≡ false = sym (ap is_of_nothing (of_written env rank place own_units r.hook r.body)) ∙ asked.0 in
        by something r.hook r.body fine.0 names asked.2 right built_here
      where
        by : is_of_nothing r.of ≡ false → (hook : Option Tree) (body : Tree) → HookWritten list a formed_list unbroken r.«module» hook body → none_hold (hook_names (written_hook env rank place own_units hook body)) ≡ true → none_hold (own_hook_tests t (values_of t) (written_hook env rank place own_units hook body)) ≡ true
            → is_known_hook (written_hook env rank place own_units hook body) ≡ true → hook_built (written_hook env rank place own_units hook body) ≡ true → HookPasses t o (written_hook env rank place own_units hook body)
        by something (Some hook) body written names tests right built_here =
            on_passes t functions env (home_widens list a formed_list unbroken r.«module») (λ places kinds unit. home_made list a formed_list unbroken places kinds unit r.«module») place (types list a formed_list unbroken r.«module») (paths list a formed_list unbroken r.«module»)
            (env_known list a formed_list unbroken reads passed r fine) (env_told list a formed_list unbroken reads passed r fine) own_units something (unit_parameters list a formed_list unbroken reads passed (unit_of r.of)) (current_full list a formed_list unbroken reads passed r.of r.field something fine.1 (whole once)) keeps once o agrees rank hook written names tests right built_here
        by something None body written names tests right built_here =
            behind_passes t functions env (home_widens list a formed_list unbroken r.«module») (λ places kinds unit. home_made list a formed_list unbroken places kinds unit r.«module») place (types list a formed_list unbroken r.«module») (paths list a formed_list unbroken r.«module»)
            (env_known list a formed_list unbroken reads passed r fine) (env_told list a formed_list unbroken reads passed r fine) own_units something (unit_parameters list a formed_list unbroken reads passed (unit_of r.of)) (current_full list a formed_list unbroken reads passed r.of r.field something fine.1 (whole once)) keeps once o agrees rank body written names tests right built_here

    -- in the context of its module, if it has one
    hook_passes : (c : Option Names) → slice_get contexts r.«module» ≡ c → none_hold (hook_names (hook_in c rank all_units r (seen r))) ≡ true → none_hold (hook_tests t (values_of t) (hook_in c rank all_units r (seen r))) ≡ true → is_known_hook (hook_in c rank all_units r (seen r)) ≡ true
        → hook_built (hook_in c rank all_units r (seen r)) ≡ true → HookPasses t o (hook_in c rank all_units r (seen r))
    hook_passes None at names tests right built_here =
        let something : is_of_nothing r.of ≡ false = (own_tests t (values_of t) (no_hook place) names tests).0 in
        nothing_passes t functions env (home_widens list a formed_list unbroken r.«module») (λ places kinds unit. home_made list a formed_list unbroken places kinds unit r.«module») place (types list a formed_list unbroken r.«module») (paths list a formed_list unbroken r.«module»)
        (env_known list a formed_list unbroken reads passed r fine) (env_told list a formed_list unbroken reads passed r fine) own_units something (unit_parameters list a formed_list unbroken reads passed (unit_of r.of)) (current_full list a formed_list unbroken reads passed r.of r.field something fine.1 (whole once)) keeps once o names
    hook_passes (Some g) at names tests right built_here =
        let z : 0 + r.«module» ≡ r.«module» = omega arith in
        let same : env ≡ g = ap (in_module list f (told a.values) (told a.stored)) (sym z) ∙ module_is list f (told a.values) (told a.stored) 0 list r.«module» g at in
        subst (λ x. none_hold (hook_names (written_hook x rank place own_units r.hook r.body)) ≡ true → none_hold (hook_tests t (values_of t) (written_hook x rank place own_units r.hook r.body)) ≡ true → is_known_hook (written_hook x rank place own_units r.hook r.body) ≡ true → hook_built (written_hook x rank place own_units r.hook r.body) ≡ true → HookPasses t o (written_hook x rank place own_units r.hook r.body)) same row_passes names tests right built_here

  -- the hook of a number is that of its row
  row_found : (rs : List HookRow) (n : ℕ) (x : Hook) → slice_get (typed_hooks contexts rank (seen_of list (in_units list f (told a.values) (told a.stored)) (values list f (told a.values)) (sites list)) all_units rs) n ≡ Some x → (r : HookRow) × (slice_get rs n ≡ Some r) × (the_hook r ≡ x)
  row_found [] n x e = none_found x e
  row_found (r ∷ rs) zero x e = (r, refl, some_found (the_hook r) x e)
  row_found (r ∷ rs) (suc n) x e = row_found rs n x e

  -- A hook passes over what its field stores.
  pub passes_over : (n : ℕ) (x : Hook) → slice_get t.hooks n ≡ Some x → (o : Option Ty) → ((r : HookRow) → slice_get rows n ≡ Some r → has_current r.of ≡ true → current_of r.of o ≡ or_unknown (seen r).0) → HookPasses t o x
  passes_over n x at o agree =
      let w = row_found rows n x at in
      let r = w.0 in
      let here = ap Some w.2 in
      let there : slice_get t.hooks n ≡ Some (the_hook r) = at ∙ sym here in
      let names = test_at hook_names t.hooks n (the_hook r) (are_named list a unbroken).hooks there in
      let tests = test_at (hook_tests t (values_of t)) t.hooks n (the_hook r) (are_asked list a unbroken).hooks there in
      subst (HookPasses t o) w.2
      (hook_passes r (at_all (RowGood list a formed_list unbroken) rows n r good w.1) (at_all (λ (y : HookRow). is_of_elements y.of ≡ false) rows n r single w.1) o (agree r w.1) (slice_get contexts r.«module») refl names tests (each_at is_known_hook t.hooks n (the_hook r) there known) (each_at hook_built t.hooks n (the_hook r) there built))

  -- Each hook passes over what it sees of its field.
  pub passes_so : (n : ℕ) (x : Hook) → slice_get t.hooks n ≡ Some x → (o : Option Ty) × HookPasses t o x
  passes_so n x at =
      let w = row_found rows n x at in
      let o = Some (or_unknown (seen w.0).0) in
      (o, passes_over n x at o (λ r e h. (let same : w.0 ≡ r = some_found w.0 r (sym w.1 ∙ e) in told_current r.of (or_unknown (seen w.0).0) h (at_all (λ (y : HookRow). is_of_elements y.of ≡ false) rows n r single e) ∙ ap (λ (y : HookRow). or_unknown (seen y).0) same)))
