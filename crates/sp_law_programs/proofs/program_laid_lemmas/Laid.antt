-- A program that is laid out has its bodies, and is sound where they fit.
use Rattle.std.proofs.Common.{◌≡◌, ℕ, ◌+◌, List, ◌++◌, length, Some, refl, sym, ap, ◌∙◌, subst, arith}
use Rattle.std.specs.Prelude.{slice_get}
use Rattle.sp_methods.specs.Kinds.{Kind}
use Rattle.sp_typed_units.specs.declared.declarations.Hook.{Hook}
use Rattle.sp_typed_units.specs.declared.declarations.Typed.{Typed}
use Rattle.sp_typed_units.specs.declared.declarations.Function.{Function}
use Rattle.sp_meaning_states.specs.Reads.{NoWord}
use Rattle.sp_meaning.specs.Globals.{Globals, globals_of}
use Rattle.sp_code.specs.Shapes.{Shape, IsSound, Shapes, Shown, Keeps}
use Rattle.sp_code.specs.Machine.{Plain}
use Rattle.sp_code_programs.specs.exprs.Marked.{Marked, HasAt, Shows}
use Rattle.sp_code_programs.specs.exprs.Code.{kind_at}
use Rattle.sp_code_programs.specs.units.Bodies.{HasBodies, name_at}
use Rattle.sp_code_programs.specs.programs.Routines.{function_routine, hook_routine, Routine, function_routines, hook_routines, function_shape, hook_shape}
use Rattle.sp_code_programs.specs.programs.Programs.{shapes_before, bodies_end, routines_code, program_code, IsLaid}
use Rattle.sp_law_code.specs.exprs.Laws.{AllKeep}
use Rattle.sp_law_code.proofs.exprs_lemmas.Steps.{has_front, has_back}
use Rattle.sp_law_code.proofs.exprs_lemmas.Keeping.{shows_front, shows_back, keep_both}
use Rattle.sp_law_programs.specs.program_laid.Fits.{BodiesFit}
use Rattle.sp_law_programs.specs.program_laid.Laws.{LaidProgramsHaveBodies, WhatFollowsStands, WhatStandsIsLaid, LaidProgramsAreSound}
use Rattle.sp_law_programs.proofs.program_laid_lemmas.Placed.{stands, shows, wanted, before, instr_there, keeps_there}
use Rattle.sp_law_programs.proofs.program_laid_lemmas.Routines.{function_at, hook_at, routines_sized, all_routines, IsPlaced, placed_at, IsGood, routines_keep}
use Rattle.sp_law_programs.proofs.program_laid_lemmas.Zeros.{zero_has}

module _ (p : Plain) (shapes : Shapes) (hook_names : List (List ℕ)) (currents : List Kind) (list : Typed) (rest : List Marked) (laid : IsLaid p shapes hook_names currents list rest) where
  abbrev globals : Globals
  globals = globals_of list

  abbrev pub of_functions : List Routine
  of_functions = function_routines globals list.functions

  abbrev pub of_hooks : List Routine
  of_hooks = hook_routines globals hook_names currents 0 list.hooks

  abbrev code : List Marked
  code = routines_code globals 0 (of_functions ++ of_hooks)

  pub all_stands : HasAt p 0 (code ++ rest)
  all_stands = stands p (code ++ rest) laid.code

  all_shows : Shows shapes.at 0 (code ++ rest)
  all_shows = shows shapes.at (code ++ rest) laid.before

  pub rest_at : 0 + length code ≡ bodies_end hook_names currents list
  rest_at = omega (arith, routines_sized globals (of_functions ++ of_hooks) 0)

  placed : (n : ℕ) (r : Routine) → slice_get (of_functions ++ of_hooks) n ≡ Some r → IsPlaced p shapes globals p.bodies shapes.bodies n r
  placed n r e =
      let i = placed_at p shapes globals (of_functions ++ of_hooks) 0 n r e (has_front p (λ _ _. NoWord) 0 code rest all_stands) (shows_front p shapes 0 code rest all_shows) in
      record { start = i.start; listed = ap (λ bs. slice_get bs n) laid.bodies ∙ i.listed; locals = ap (λ ks. slice_get ks n) laid.locals ∙ i.locals; stands = i.stands; shows = i.shows }

  -- by its number, a function and a body of a hook
  pub placed_function : (f : ℕ) (x : Function) → slice_get list.functions f ≡ Some x → IsPlaced p shapes globals p.bodies shapes.bodies f (function_routine globals x)
  placed_function f x e = placed f (function_routine globals x) (function_at globals list.functions of_hooks f x e)

  pub placed_hook : (h : ℕ) (x : Hook) → slice_get list.hooks h ≡ Some x
      → IsPlaced p shapes globals p.bodies shapes.bodies (length list.functions + h) (hook_routine globals (name_at hook_names h) (kind_at currents h) x)
  placed_hook h x e = placed (length list.functions + h) (hook_routine globals (name_at hook_names h) (kind_at currents h) x) (hook_at globals hook_names currents list.functions list.hooks h x e)

  bodies : HasBodies p hook_names list
  bodies =
      record {
        functions = λ f x e. let i = placed_function f x e in record { start = i.start; shape = function_shape globals x; listed = i.listed; stands = i.stands };
        hooks = λ h x e. let i = placed_hook h x e in record { start = i.start; shape = hook_shape globals (kind_at currents h) x; listed = i.listed; stands = i.stands };
      }

  follows : HasAt p (bodies_end hook_names currents list) rest × Shows shapes.at (bodies_end hook_names currents list) rest
  follows = (subst (λ n. HasAt p n rest) rest_at (has_back p (λ _ _. NoWord) 0 code rest all_stands), subst (λ n. Shows shapes.at n rest) rest_at (shows_back p shapes 0 code rest all_shows))

  all_keep : BodiesFit p shapes currents list → AllKeep p shapes (bodies_end hook_names currents list) rest → AllKeep p shapes 0 (code ++ rest)
  all_keep fit keeps =
      let good =
      all_routines globals (IsGood p shapes globals) hook_names currents list.functions list.hooks
      (λ f x e. record { closed = refl; fits = fit.functions f x e; always = λ units. zero_has globals.ranges units x.result; returns = refl })
      (λ h x e. record { closed = refl; fits = fit.hooks h x e; always = λ units. refl; returns = tt }) in
      keep_both p shapes 0 code rest (routines_keep p shapes globals (of_functions ++ of_hooks) 0 good (shows_front p shapes 0 code rest all_shows)) (subst (λ n. AllKeep p shapes n rest) (sym rest_at) keeps)

  sound : AllKeep p shapes 0 (code ++ rest) → IsSound p shapes
  sound keep =
      let among : (pc : ℕ) (s : Shape) → Shown p shapes pc s → slice_get (shapes_before (code ++ rest)) pc ≡ Some s = λ pc s e. ap (λ ss. slice_get ss pc) (sym laid.before) ∙ e in
      record {
        within = λ pc s e. instr_there p.consts (code ++ rest) p.code pc s laid.code (among pc s e);
        keeps = λ pc i s ei es.
            let n : 0 + pc ≡ pc = omega arith in
            subst (λ n. Keeps p shapes i n s) n (keeps_there p shapes 0 (code ++ rest) p.code pc i s laid.code keep ei (among pc s es));
      }

pub laid_programs_have_bodies : LaidProgramsHaveBodies
laid_programs_have_bodies p shapes hook_names currents list rest laid = bodies p shapes hook_names currents list rest laid

pub what_follows_stands : WhatFollowsStands
what_follows_stands p shapes hook_names currents list rest laid = follows p shapes hook_names currents list rest laid

pub what_stands_is_laid : WhatStandsIsLaid
what_stands_is_laid p shapes hook_names currents list rest of_bodies of_locals has counted shows_all counted_shapes =
    let code = program_code hook_names currents list rest in
    record { bodies = of_bodies; locals = of_locals; code = wanted p code has counted; before = before shapes.at code shows_all counted_shapes }

pub laid_programs_are_sound : LaidProgramsAreSound
laid_programs_are_sound p shapes hook_names currents list rest laid fit keeps =
    sound p shapes hook_names currents list rest laid (all_keep p shapes hook_names currents list rest laid fit keeps)
