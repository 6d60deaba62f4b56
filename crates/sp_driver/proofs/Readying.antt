-- A list that passes, and the unit of it that is chosen.
use Rattle.std.specs.Prelude.{◌&&◌, not, IsTrue, slice_get, Result, Ok, Err, IfOk}
use Rattle.std.proofs.Common.{◌≡◌, ℕ, true, List, [], ◌∷◌, Option, Some, None, sym, refl, subst}
use Rattle.std.proofs.lemmas.Bool.{and_parts}
use Rattle.sp_base.specs.declared.places.Diag.{Diag}
use Rattle.sp_ast.specs.Trees.{Tree}
use Rattle.sp_methods.specs.Kinds.{Have}
use Rattle.sp_load.specs.Loads.{refusal_of}
use Rattle.sp_load.specs.declared.sources.Source.{Source}
use Rattle.sp_typed_units.specs.declared.declarations.Parameter.{Parameter}
use Rattle.sp_typed_units.specs.declared.declarations.Typed.{Typed}
use Rattle.sp_typed_units.specs.declared.declarations.Unit.{Unit as TypedUnit}
use Rattle.sp_meaning.specs.Globals.{globals_of}
use Rattle.sp_code.specs.declared.program.Program.{Program}
use Rattle.sp_code_programs.specs.units.Units.{kinds_over, starter_kinds}
use Rattle.sp_code_programs.specs.programs.Whole.{IsCompiled}
use Rattle.sp_law_programs.specs.list_runs.Laws.{CompiledListsRun}
use Rattle.sp_lower.specs.Literals.{ListLiteralsFit}
use Rattle.sp_law_lists.specs.fit_list.Passes.{ListPasses}
use Rattle.sp_base.specs.declared.bytes.NoMemory.{NoMemory}
use Rattle.sp_choose.specs.Choices.{takes_nothing, is_parser, is_asked, chosen}
use Rattle.sp_choose.specs.Laws.{asked_at, IsAskedAt}
use Rattle.sp_choose.proofs.Choosing.{choice_is}
use Rattle.sp_driver.specs.declared.exits.Unready.{Unready}
use Rattle.sp_driver.specs.Lists.{unbuilt_in}
use Rattle.sp_driver.specs.inside.Ready.{AlwaysRuns, RunsWhatIsChosen, IsRefusalOrNoMemory, IsHindered}

-- the literals of a list that passes fit
pub literals_fit : (t : Typed) → ListPasses t → ListLiteralsFit t
literals_fit t p = record {
  functions = p.literals.functions;
  hooks = p.literals.hooks;
  units = p.values;
}

-- a unit stands there, and takes no arguments
record IsThere (o : Option TypedUnit) : Type 0 where
  pub unit : TypedUnit
  pub is : o ≡ Some unit
  pub nothing : unit.parameters ≡ []

nothing_taken : (ps : List Parameter) → takes_nothing ps ≡ true → ps ≡ []
nothing_taken [] e = refl
nothing_taken (p ∷ ps) e = cc

parser_takes : (u : TypedUnit) → is_parser u ≡ true → u.parameters ≡ []
parser_takes u e = nothing_taken u.parameters (and_parts (takes_nothing u.parameters) (not u.filter) (and_parts u.public (takes_nothing u.parameters && not u.filter) e).1).0

asked_takes : (name : Option (List ℕ)) (u : TypedUnit) → is_asked name u ≡ true → u.parameters ≡ []
asked_takes None u e = parser_takes u e
asked_takes (Some x) u e = parser_takes u (and_parts (is_parser u) _ e).0

there : (name : Option (List ℕ)) (o : Option TypedUnit) → IsTrue (asked_at name o) → IsThere o
there name None e = cc
there name (Some u) e = record { unit = u; is = refl; nothing = asked_takes name u e }

chosen_asked : (name : Option (List ℕ)) (us : List TypedUnit) (u : ℕ) → chosen name us ≡ Some u → IsAskedAt name us u
chosen_asked None us u is = (rw is at (choice_is None us)).0
chosen_asked (Some x) us u is = (rw is at (choice_is (Some x) us)).0

no_arguments : (t : Typed) (x : TypedUnit) → x.parameters ≡ [] → Have [] (starter_kinds t x) []
no_arguments t x none = subst (λ ps. Have [] (kinds_over (globals_of t).ranges ps []) []) (sym none) tt

-- the program of a list that passes runs the unit that is chosen
always_runs : CompiledListsRun → (name : Option (List ℕ)) (t : Typed) (p : Program) (u : ℕ) → IsCompiled t p → ListPasses t → chosen name t.units ≡ Some u → AlwaysRuns t p u
always_runs law name t p u compiled passes is limits =
    let at = there name (slice_get t.units u) (chosen_asked name t.units u is) in
    let runs = law t p compiled passes.fits (record { functions = passes.bodies.functions; hooks = passes.bodies.hooks }) in
    record { compiled = compiled; sound = runs.0; stands = runs.2; unit = runs.1 u at.unit at.is (passes.units u at.unit at.is) [] (no_arguments t at.unit at.nothing) limits }

pub passing_runs : CompiledListsRun → (t : Typed) (r : Result Program NoMemory) → IfOk r (IsCompiled t) → ListPasses t → IfOk r (RunsWhatIsChosen t)
passing_runs law t (Ok p) compiled passes = λ name u is. always_runs law name t p u compiled passes is
passing_runs law t (Err e) compiled passes = tt

-- why a list can't be run, by its refusal
pub hindered_there : (ss : List Source) (ts : List Tree) (t : Typed) (d : Diag) (why : Unready) → unbuilt_in ss ts t ≡ Some d → IsRefusalOrNoMemory (refusal_of ss d) why → IsHindered ss ts t why
hindered_there ss ts t d Unready.NoParser found is = absurd is
hindered_there ss ts t d (Unready.Unbuilt r) found is = (d, found, is)
hindered_there ss ts t d Unready.NoMemory found is = tt
