-- A list that is built, so that its program runs both of its units, and what the first one means by the list; and what isn't built, or
-- isn't runnable.
use Rattle.std.specs.Prelude.{◌≡◌, ℕ, zero, suc, true, false, List, [], ◌∷◌, Some, None, codes, refl, slice_get, unwrap_or}
use Rattle.std.proofs.Common.{subst, ap, sym}
use Rattle.sp_base.specs.Input.{Close, held_open, ended}
use Rattle.sp_base.specs.declared.places.Limits.{Limits}
use Rattle.sp_numbers.specs.declared.width.Width.TheVariants.{W8}
use Rattle.sp_value.specs.Val.{unit, uint, bytes}
use Rattle.sp_methods.specs.Kinds.{Bytes, Unsigned, Have}
use Rattle.sp_typed.specs.declared.stmt_words.BareOp.TheVariants as bare_is
use Rattle.sp_typed.specs.Stmts.{bare}
use Rattle.sp_typed_units.specs.declared.declarations.Function.{Function}
use Rattle.sp_typed_units.specs.declared.declarations.Hook.{Hook}
use Rattle.sp_typed_units.specs.declared.declarations.Typed.{Typed}
use Rattle.sp_typed_units.specs.declared.declarations.Unit.{Unit as TypedUnit}
use Rattle.sp_meaning_states.specs.States.{Gives, Need, Result, end_of}
use Rattle.sp_meaning_states.specs.Reads.{reads}
use Rattle.sp_meaning_states.specs.Scopes as called_is
use Rattle.sp_meaning.specs.Globals.{globals_of}
use Rattle.sp_code.specs.declared.program.Program.{Program}
use Rattle.sp_code.specs.Shapes.{OfFunction, Enters}
use Rattle.sp_code_programs.specs.units.Units.{starter_kinds}
use Rattle.sp_code_programs.specs.programs.Rows.{here, same, seven}
use Rattle.sp_code_programs.specs.programs.Whole.{IsCompiled}
use Rattle.sp_code_programs.specs.programs.WholeRows.{with_hook, with_parameter, told_byte, whole_list, whole_program, whole_shapes, it_is_the_program}
use Rattle.sp_law_programs.specs.finished_bodies.Built.{StmtIsBuilt}
use Rattle.sp_law_programs.specs.unit_told.Rows.{none}
use Rattle.sp_law_programs.specs.finished_units.Built.{HookIsBuilt, UnitIsBuilt}
use Rattle.sp_law_programs.specs.finished_units.Meaning.{meaning, RunsUnit}
use Rattle.sp_law_programs.specs.whole_program.Fits.{AlwaysFits}
use Rattle.sp_law_programs.specs.whole_program.Rows.{the_list_fits}
use Rattle.sp_law_programs.specs.list_runs.Runs.{BodiesAreBuilt, UnitsAreBuilt, IsRunnable, list_meaning}
use Rattle.sp_law_programs.specs.list_runs.Laws.{FunctionsFitAsCalled, ProgramsRun, MeaningsAreTheLists, UnitsAreRunnable}

-- its bodies are built
abbrev InFunction : Function → Type 0
InFunction x = StmtIsBuilt (globals_of whole_list) whole_list.functions x.body

functions_built : (n : ℕ) (x : Function) → slice_get whole_list.functions n ≡ Some x → InFunction x
functions_built zero x e = subst InFunction (ap (λ o. unwrap_or o same) e) tt
functions_built (suc zero) x e = subst InFunction (ap (λ o. unwrap_or o seven) e) ((tt, (tt, (tt, tt))), (tt, tt))
functions_built (suc (suc n)) x e = absurd (let q : None ≡ Some x = e in cc)

hooks_built : (n : ℕ) (x : Hook) → slice_get whole_list.hooks n ≡ Some x → HookIsBuilt whole_list x
hooks_built zero x e = subst (λ x. HookIsBuilt whole_list x) (ap (λ o. unwrap_or o told_byte) e) (tt, tt)
hooks_built (suc n) x e = absurd (let q : None ≡ Some x = e in cc)

bodies_built : BodiesAreBuilt whole_list
bodies_built = record { functions = functions_built; hooks = hooks_built }

-- and so are its units
first_built : UnitIsBuilt whole_list 0 with_hook
first_built = record { plain = refl; variables = tt; parts = ((tt, ((told_byte, refl, refl, (tt, tt)), tt)), tt); hooks = λ name h y e is. hooks_built h y e }

second_built : UnitIsBuilt whole_list 1 with_parameter
second_built = record { plain = refl; variables = tt; parts = ((tt, tt), tt); hooks = λ name h y e is. hooks_built h y e }

units_built : UnitsAreBuilt whole_list
units_built zero x e = subst (λ x. UnitIsBuilt whole_list 0 x) (ap (λ o. unwrap_or o with_hook) e) first_built
units_built (suc zero) x e = subst (λ x. UnitIsBuilt whole_list 1 x) (ap (λ o. unwrap_or o with_parameter) e) second_built
units_built (suc (suc n)) x e = absurd (let q : None ≡ Some x = e in cc)

-- so its program runs both, the second one with a number
the_first_unit_runs : ProgramsRun → RunsUnit whole_program whole_shapes (codes "M::U::f" ∷ []) whole_list 34 0 []
the_first_unit_runs law = law whole_list whole_program whole_shapes it_is_the_program the_list_fits bodies_built 0 with_hook refl first_built [] tt

the_second_unit_runs : ProgramsRun → RunsUnit whole_program whole_shapes (codes "M::U::f" ∷ []) whole_list 36 1 (uint W8 3 ∷ [])
the_second_unit_runs law = law whole_list whole_program whole_shapes it_is_the_program the_list_fits bodies_built 1 with_parameter refl second_built (uint W8 3 ∷ []) ((W8, 3, refl), tt)

-- and each of them is runnable in its compiled program, if it fits in whatever is its program
it_is_runnable : UnitsAreRunnable → (program : Program) → IsCompiled whole_list program → AlwaysFits whole_list → IsRunnable whole_list program 1 (uint W8 3 ∷ [])
it_is_runnable law program is fits =
    law whole_list program is (record { fits = fits; bodies = bodies_built; units = units_built }) 1 with_parameter refl (uint W8 3 ∷ []) ((W8, 3, refl), tt)

-- a function whose result is a number is never called for bytes
no_bytes_are_given : FunctionsFitAsCalled → Enters whole_program whole_shapes 0 None called_is.Called.Function (OfFunction Bytes) (Unsigned ∷ []) → ⊥
no_bytes_are_given law enters =
    let f = law whole_list whole_program whole_shapes it_is_the_program the_list_fits bodies_built 0 same (Unsigned ∷ []) Bytes refl enters in
    let h = f.ending [] in
    absurd (let q : uint W8 0 ≡ bytes h.0 = h.1 in cc)

-- what the first unit means by the list over these bytes
abbrev four_turns : Limits
four_turns = record { turns = 4; depth = 3; fibers = 1 }

abbrev over : List ℕ → Close → Result
over s close = list_meaning whole_list four_turns (reads none s close) 0 []

it_waits : end_of (over [] held_open) ≡ Need 0
it_waits = refl

it_is_given : end_of (over (7 ∷ []) ended) ≡ Gives (unit 0)
it_is_given = refl

in_its_program : MeaningsAreTheLists → (s : List ℕ) (close : Close) → meaning whole_program (codes "M::U::f" ∷ []) whole_list (reads none s close) 0 [] ≡ over s close
in_its_program law s close = law whole_list whole_program whole_shapes it_is_the_program (reads none s close) 0 []

-- a body of a hook that stops isn't built, and a unit that is a filter isn't
abbrev with_body : Hook → Typed
with_body x = record whole_list { hooks = x ∷ [] }

abbrev stopping : Hook
stopping = record told_byte { body = bare (record { span = here; op = bare_is.Stop true }) }

a_stop_is_not_built : BodiesAreBuilt (with_body stopping) → ⊥
a_stop_is_not_built built = built.hooks 0 stopping refl

abbrev filter : TypedUnit
filter = record with_parameter { filter = true }

a_filter_is_not_built : UnitsAreBuilt (record whole_list { units = filter ∷ [] }) → ⊥
a_filter_is_not_built built = let q : false ≡ true = (built 0 filter refl).plain in cc

-- no program runs a unit that isn't there
no_third_unit : (program : Program) → IsRunnable whole_list program 2 [] → ⊥
no_third_unit program is = let q : None ≡ Some is.unit = is.listed in cc

-- nor the first one with an argument
no_argument_too_many : (program : Program) → IsRunnable whole_list program 0 (bytes [] ∷ []) → ⊥
no_argument_too_many program is =
    let x : with_hook ≡ is.unit = ap (λ o. unwrap_or o with_hook) is.listed in
    subst (λ x. Have [] (starter_kinds whole_list x) (bytes [] ∷ [])) (sym x) is.arguments
