-- That the program of the example runs its unit.
use Rattle.std.specs.Prelude.{slice_get, unwrap_or}
use Rattle.std.proofs.Common.{◌≡◌, ℕ, zero, suc, true, [], Some, None, refl, sym, ap, subst}
use Rattle.sp_base.specs.declared.places.Limits.{Limits}
use Rattle.sp_words.specs.declared.words.HookName.{HookName}
use Rattle.sp_typed_units.specs.declared.declarations.Hook.{Hook}
use Rattle.sp_typed_units.specs.declared.declarations.MemberKind.TheVariants as member_is
use Rattle.sp_typed_units.specs.declared.declarations.Unit.{Unit as TypedUnit}
use Rattle.sp_meaning.specs.Hooks.{has_current, is_of_unit}
use Rattle.sp_meaning.specs.Globals.{globals_of}
use Rattle.sp_code.specs.Machine.{Plain}
use Rattle.sp_code.specs.Programs.{plain_of, shapes_of}
use Rattle.sp_code.specs.Shapes.{Shapes, IsSound}
use Rattle.sp_code.specs.Turns.{Turns}
use Rattle.sp_code_programs.specs.exprs.Code.{kind_at}
use Rattle.sp_code_programs.specs.programs.Currents.{currents_of}
use Rattle.sp_meaning.specs.Names.{hook_names_of}
use Rattle.sp_code_programs.specs.programs.Whole.{starter_at, IsProgramOf}
use Rattle.sp_law_programs.specs.program_laid.Fits as laid
use Rattle.sp_law_programs.specs.program_laid.Places.{StmtChangesPlaces}
use Rattle.sp_law_meaning.specs.Standing.{StmtStands}
use Rattle.sp_law_programs.specs.finished_bodies.Finished.{HookFits, FunctionsFit}
use Rattle.sp_law_programs.specs.unit_told.Told.{Starts}
use Rattle.sp_law_programs.specs.finished_units.Built.{HookIsBuilt, UnitIsBuilt, HooksFit}
use Rattle.sp_law_programs.specs.finished_units.Meaning.{RunsUnit}
use Rattle.sp_law_programs.specs.whole_program.Fits.{UnitFits, ListFits}
use Rattle.sp_law_programs.proofs.whole_program_lemmas.Programs.{programs_have_bodies, programs_have_units, programs_have_starters}
use Rattle.sp_law_programs.proofs.whole_program_lemmas.Fitting.{listed_units_fit, listed_calls_count, fitting_lists_stand, fitting_programs_are_sound}
use Rattle.sp_session.specs.Session.{Runs}
use Rattle.sp_session.specs.Laws.{ExampleRuns}
use Rattle.sp_session.specs.Example.{byte, one_byte, done_body, list, program, unit_kinds, shapes}

is_program : (limits : Limits) → IsProgramOf list (program limits) shapes
is_program limits =
    record {
      laid = record { bodies = refl; locals = refl; code = ((0, refl, refl), (refl, ((0, refl, refl), (refl, (refl, (refl, (refl, (refl, (refl, (refl, (refl, (refl, (refl, tt))))))))))))); before = refl };
      units = refl;
      kinds = refl;
      names = refl;
    }

-- one body, which returns, and one unit
of_body : (P : Hook → Type 0) → P done_body → (n : ℕ) (x : Hook) → slice_get list.hooks n ≡ Some x → P x
of_body P h zero x e = subst P (ap (λ o. unwrap_or o done_body) e) h
of_body P h (suc n) x e = absurd (let q : None ≡ Some x = e in cc)

hook_in_list : (limits : Limits) (n : ℕ) (x : Hook) → slice_get list.hooks n ≡ Some x → laid.HookFits (program limits) shapes (globals_of list) (kind_at (currents_of list) n) x
hook_in_list limits zero x e = subst (laid.HookFits (program limits) shapes (globals_of list) (kind_at (currents_of list) 0)) (ap (λ o. unwrap_or o done_body) e) tt
hook_in_list limits (suc n) x e = absurd (let q : None ≡ Some x = e in cc)

unit_in_list : (limits : Limits) (n : ℕ) (x : TypedUnit) → slice_get list.units n ≡ Some x → UnitFits list (program limits) shapes n x
unit_in_list limits zero x e =
    subst (UnitFits list (program limits) shapes 0) (ap (λ o. unwrap_or o one_byte) e) (record { variables = tt; parts = ((tt, ((record { name = _; kind = member_is.Field; ty = byte }, refl, refl), tt)), tt) })
unit_in_list limits (suc n) x e = absurd (let q : None ≡ Some x = e in cc)

takes_nothing : (n u : ℕ) (name : HookName) (x : Hook) → slice_get list.hooks n ≡ Some x → is_of_unit u name x.of ≡ true → x.parameters ≡ []
takes_nothing n u name x e is = of_body (λ (x : Hook). x.parameters ≡ []) refl n x e

fits : (limits : Limits) → ListFits list (program limits) shapes
fits limits =
    record {
      bodies = record { functions = λ n x e. absurd (let q : None ≡ Some x = e in cc); hooks = hook_in_list limits };
      places = record { functions = λ n x e. absurd (let q : None ≡ Some x = e in cc); hooks = λ n x e. of_body (λ x. StmtChangesPlaces x.body) tt n x e };
      arguments = record { functions = λ n x e. absurd (let q : None ≡ Some x = e in cc); hooks = λ n x e. of_body (λ x. StmtStands (has_current x.of) list.functions x.body) tt n x e };
      events = takes_nothing;
      units = unit_in_list limits;
    }

-- so it is sound, and starts the unit
sound : (limits : Limits) → IsSound (program limits) shapes × Turns (program limits)
sound limits = fitting_programs_are_sound list (program limits) shapes (is_program limits) (fits limits)

abbrev starts : (limits : Limits) → Starts (program limits) (hook_names_of list) list (starter_at list 0) 0 []
starts limits =
    let is = is_program limits in
    let counted = listed_calls_count list (program limits) shapes is (fits limits) in
    record {
      bodies = programs_have_bodies list (program limits) shapes is;
      bodies_are_counted = counted.0;
      units = programs_have_units list (program limits) shapes is;
      units_are_counted = counted.1;
      unit = one_byte;
      listed = refl;
      starter = programs_have_starters list (program limits) shapes is 0 one_byte refl;
      taken = refl;
    }

no_functions : (limits : Limits) → FunctionsFit (program limits) shapes list
no_functions limits f x ins k is enters = absurd (let q : None ≡ Some x = is in cc)

body_fits : (limits : Limits) → HooksFit (program limits) shapes list
body_fits limits zero x u ins is built enters =
    subst (λ x. HookFits (program limits) shapes list x u ins) (ap (λ o. unwrap_or o done_body) is) (record { slots = []; fresh = λ units. tt; body = tt; built = tt })
body_fits limits (suc h) x u ins is built enters = absurd (let q : None ≡ Some x = is in cc)

built : UnitIsBuilt list 0 one_byte
built = record { plain = refl; variables = tt; parts = ((tt, tt), tt); hooks = λ n h y is of. of_body (HookIsBuilt list) tt h y is }

runs_unit : (limits : Limits) → RunsUnit (program limits) shapes (hook_names_of list) list (starter_at list 0) 0 []
runs_unit limits =
    record {
      starts = starts limits;
      functions = no_functions limits;
      hooks = body_fits limits;
      fits = listed_units_fit list (program limits) shapes (is_program limits) (fits limits) 0 one_byte refl;
      built = built;
      kinds = unit_kinds;
      listed = refl;
      are = record { takes = refl; parameters = refl; members = refl; locals = refl };
      arguments = tt;
    }

-- and so does each program with these tables
pub example_runs : ExampleRuns
example_runs l p limits same plain shaped =
    let both : (P : Plain → Shapes → Type 0) → ((limits : Limits) → P (program limits) shapes) → (limits : Limits) → P (plain_of limits p) (shapes_of p) =
    λ P h limits. subst (λ q. P q (shapes_of p)) (sym (plain limits)) (subst (P (program limits)) (sym shaped) (h limits)) in
    subst (λ l. Runs l p limits 0) (sym same)
    (record {
      compiled = both (IsProgramOf list) is_program;
      sound = both (λ q s. IsSound q s × Turns q) sound;
      stands = fitting_lists_stand list (program limits) shapes (is_program limits) (fits limits);
      unit = both (λ q s. RunsUnit q s (hook_names_of list) list (starter_at list 0) 0 []) runs_unit limits;
    })
