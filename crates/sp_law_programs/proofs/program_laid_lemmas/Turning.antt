-- A program that is laid out counts a turn in each cycle, where its bodies keep to their loops and what stands behind them does so.
use Rattle.std.proofs.Common.{◌≡◌, ℕ, ◌+◌, false, List, [], ◌∷◌, ◌++◌, length, sym, subst, arith}
use Rattle.sp_meaning.specs.Globals.{Globals, globals_of}
use Rattle.sp_code_meaning.specs.Calls.{function_layout, hook_layout}
use Rattle.sp_code_programs.specs.exprs.Marked.{Marked}
use Rattle.sp_code_programs.specs.exprs.Code.{kind_at}
use Rattle.sp_code_programs.specs.programs.Routines.{Routine, routine_size, routine_code, function_shape, hook_shape}
use Rattle.sp_code_programs.specs.programs.Programs.{routines_code}
use Rattle.sp_law_code.specs.turns.Loops.{KeepsToLoops}
use Rattle.sp_law_code.specs.turns.Falling.{AllTurn}
use Rattle.sp_law_code.proofs.turns_lemmas.Kept.{fitting_keeps_to_loops}
use Rattle.sp_law_code.proofs.turns_lemmas.Programs.{bodies_turn, joined_turn, pieces_turn, programs_turn}
use Rattle.sp_law_programs.specs.program_laid.Laws.{FittingBodiesKeepToLoops, LaidProgramsTurn}
use Rattle.sp_law_programs.proofs.program_laid_lemmas.Placed.{wanted_length}
use Rattle.sp_law_programs.proofs.program_laid_lemmas.Routines.{routine_sized, AreAll, all_routines}
use Rattle.sp_law_programs.proofs.program_laid_lemmas.Laid.{of_functions, of_hooks, all_stands, rest_at}

-- where the parts of a body fit, it does so
pub fitting_bodies_keep_to_loops : FittingBodiesKeepToLoops
fitting_bodies_keep_to_loops p shapes currents list fit =
    let globals = globals_of list in
    record {
      functions = λ f x e. let s = function_shape globals x in fitting_keeps_to_loops p shapes globals (function_layout x) s.locals s.unit s.round false x.body (fit.functions f x e);
      hooks = λ h x e. let s = hook_shape globals (kind_at currents h) x in fitting_keeps_to_loops p shapes globals (hook_layout x) s.locals s.unit s.round false x.body (fit.hooks h x e);
    }

abbrev KeepsIn : Routine → Type 0
KeepsIn r = KeepsToLoops false r.body

module _ (globals : Globals) where
  routines_turn : (rs : List Routine) (at : ℕ) → AreAll globals KeepsIn rs → AllTurn at (routines_code globals at rs)
  routines_turn [] at keep = pieces_turn at [] tt
  routines_turn (r ∷ rs) at keep =
      let code = routine_code globals at r in
      let later = routines_code globals (at + routine_size r) rs in
      let to : at + length code ≡ at + routine_size r = omega (arith, routine_sized globals at r) in
      joined_turn at code later (bodies_turn globals r.layout r.body r.shape at r.ending r.result keep.0) (subst (λ n. AllTurn n later) (sym to) (routines_turn rs (at + routine_size r) keep.1))

pub laid_programs_turn : LaidProgramsTurn
laid_programs_turn p shapes hook_names currents list rest laid keep turn =
    let globals = globals_of list in
    let code : List Marked = routines_code globals 0 (of_functions p shapes hook_names currents list rest laid ++ of_hooks p shapes hook_names currents list rest laid) in
    let of_bodies : AllTurn 0 code = routines_turn globals _ 0 (all_routines globals KeepsIn hook_names currents list.functions list.hooks keep.functions keep.hooks) in
    programs_turn p (code ++ rest)
    (joined_turn 0 code rest of_bodies (subst (λ n. AllTurn n rest) (sym (rest_at p shapes hook_names currents list rest laid)) turn))
    (all_stands p shapes hook_names currents list rest laid) (wanted_length p.consts (code ++ rest) p.code laid.code)
