-- Functions and bodies of hooks of a program that is laid out can be entered.
use Rattle.std.proofs.Common.{◌≡◌, ℕ, ◌+◌, Bool, true, false, List, [], ◌∷◌, ◌++◌, length, reverse, Option, Some, None, refl, sym, ap, ◌∙◌, arith}
use Rattle.std.proofs.lemmas.List.{length-reverse, reverse-reverse}
use Rattle.std.specs.Prelude.{slice_get, if◌then◌else◌}
use Rattle.sp_methods.specs.Kinds.{Kind, Unsigned}
use Rattle.sp_typed_units.specs.declared.declarations.Parameter.{Parameter}
use Rattle.sp_typed_units.specs.declared.declarations.Hook.{Hook}
use Rattle.sp_meaning.specs.Globals.{globals_of}
use Rattle.sp_code_meaning.specs.Calls.{function_layout, hook_layout}
use Rattle.sp_meaning.specs.Hooks.{has_current}
use Rattle.sp_code.specs.Machine.{Body, Plain}
use Rattle.sp_code.specs.Shapes.{BodyKinds, Shapes, Round, body_shape, AlwaysHave, IsBody, Shown, Enters}
use Rattle.sp_code_programs.specs.exprs.Code.{kind_at}
use Rattle.sp_code_programs.specs.units.Bodies.{handed, function_entry, hook_entry, name_at}
use Rattle.sp_code_programs.specs.programs.Routines.{parameter_kinds, slot_kinds, handed_kinds, function_shape, hook_shape}
use Rattle.sp_law_programs.proofs.program_laid_lemmas.Laid.{placed_function, placed_hook}
use Rattle.sp_law_programs.specs.program_laid.Laws.{LaidFunctionsEnter, LaidHooksEnter}
use Rattle.sp_law_programs.proofs.program_laid_lemmas.Zeros.{slots_have}
use Rattle.sp_law_programs.proofs.program_laid_lemmas.Begins.{stmt_begins, shown_first}

parameters_counted : (ranges : List ℕ) (xs : List Parameter) → length (parameter_kinds ranges xs) ≡ length xs
parameters_counted ranges [] = refl
parameters_counted ranges (x ∷ xs) = omega (arith, parameters_counted ranges xs)

handed_counted : (ranges : List ℕ) (current : Kind) (x : Hook) → length (handed_kinds ranges current x) ≡ handed x
handed_counted ranges current x = cases (has_current x.of)
  where
    cases : (b : Bool) → length (if b then current ∷ Unsigned ∷ [] else parameter_kinds ranges x.parameters) ≡ (if b then 2 else length x.parameters)
    cases true = refl
    cases false = parameters_counted ranges x.parameters

-- a body with these entries, whose first locals are what it is handed, and whose code begins so
enters : (p : Plain) (shapes : Shapes) (n : ℕ) (e : Body) (u : Option ℕ) (round : Round) (taken others : List Kind) → slice_get p.bodies n ≡ Some e → slice_get shapes.bodies n ≡ Some (record { locals = taken ++ others })
    → length taken ≡ e.takes → AlwaysHave others e.fresh → Shown p shapes e.start (body_shape u round (taken ++ others)) → Enters p shapes n u e.called round (reverse taken)
enters p shapes n e u round taken others listed locals takes fresh shown =
    let kinds : BodyKinds = record { locals = taken ++ others } in
    let body : IsBody e kinds (reverse taken) =
    record { others = others; takes = length-reverse taken ∙ takes; locals = ap (λ ks. ks ++ others) (sym (reverse-reverse taken)); fresh = fresh } in
    (e, kinds, listed, locals, refl, body, shown)

pub laid_functions_enter : LaidFunctionsEnter
laid_functions_enter p shapes hook_names currents list rest laid f x e changes =
    let globals = globals_of list in
    let i = placed_function p shapes hook_names currents list rest laid f x e in
    let s = function_shape globals x in
    enters p shapes f (function_entry globals i.start x) None s.round (parameter_kinds globals.ranges x.parameters) (slot_kinds globals.ranges x.slots)
    i.listed i.locals (parameters_counted globals.ranges x.parameters) (λ units. slots_have globals.ranges units x.slots)
    (shown_first shapes.at i.start s _ (stmt_begins globals (function_layout x) x.body s i.start i.start i.start _ changes refl) i.shows)

pub laid_hooks_enter : LaidHooksEnter
laid_hooks_enter p shapes hook_names currents list rest laid h x e changes =
    let globals = globals_of list in
    let current = kind_at currents h in
    let i = placed_hook p shapes hook_names currents list rest laid h x e in
    let s = hook_shape globals current x in
    enters p shapes (length list.functions + h) (hook_entry globals i.start (name_at hook_names h) x) s.unit s.round (handed_kinds globals.ranges current x) (slot_kinds globals.ranges x.slots)
    i.listed i.locals (handed_counted globals.ranges current x) (λ units. slots_have globals.ranges units x.slots)
    (shown_first shapes.at i.start s _ (stmt_begins globals (hook_layout x) x.body s i.start i.start i.start _ changes refl) i.shows)
