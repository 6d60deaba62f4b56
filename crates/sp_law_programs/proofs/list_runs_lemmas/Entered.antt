-- What is entered in the program of a list that fits: by the shape at its entry, a body is entered with the locals, in the unit and with the
-- result with which it fits.
use Rattle.std.proofs.Common.{◌≡◌, ℕ, ◌+◌, false, List, ◌++◌, length, reverse, Option, Some, None, refl, sym, ap, ◌∙◌, subst}
use Rattle.std.specs.Prelude.{slice_get, unwrap_or}
use Rattle.sp_methods.specs.Kinds.{Kind, Has}
use Rattle.sp_typed_units.specs.declared.declarations.Function.{Function}
use Rattle.sp_typed_units.specs.declared.declarations.Hook.{Hook}
use Rattle.sp_typed_units.specs.declared.declarations.Typed.{Typed}
use Rattle.sp_meaning_states.specs.Scopes as called_is
use Rattle.sp_meaning_states.specs.Types.{zero_value, kind_of_type}
use Rattle.sp_meaning.specs.Globals.{Globals, globals_of}
use Rattle.sp_code_meaning.specs.Calls.{function_layout, hook_layout}
use Rattle.sp_meaning.specs.Hooks.{is_foreach}
use Rattle.sp_code.specs.Machine.{Body, Plain}
use Rattle.sp_code.specs.Shapes.{Shapes, Round, OfFunction, OfHook, body_shape, IsResult, AlwaysHave, Shown, Enters}
use Rattle.sp_code_programs.specs.exprs.Code.{kind_at}
use Rattle.sp_code_programs.specs.units.Bodies.{name_at}
use Rattle.sp_meaning.specs.Names.{hook_names_of}
use Rattle.sp_code_programs.specs.programs.Routines.{Routine, entry_at, function_shape, hook_shape, function_routine, hook_routine}
use Rattle.sp_code_programs.specs.programs.Currents.{currents_of}
use Rattle.sp_code_programs.specs.programs.Whole.{behind_bodies, IsProgramOf}
use Rattle.sp_law_code.specs.bodies.Fits.{StmtFits}
use Rattle.sp_law_programs.specs.finished_bodies.Finished.{FunctionFits, HookFits}
use Rattle.sp_law_programs.proofs.program_laid_lemmas.Begins.{stmt_begins, shown_first}
use Rattle.sp_law_programs.proofs.program_laid_lemmas.Laid.{placed_function, placed_hook}
use Rattle.sp_law_programs.proofs.program_laid_lemmas.Routines.{IsPlaced}
use Rattle.sp_law_programs.proofs.program_laid_lemmas.Zeros.{zero_has}
use Rattle.sp_law_programs.specs.finished_units.Built.{HookIsBuilt}
use Rattle.sp_law_programs.specs.whole_program.Fits.{ListFits}
use Rattle.sp_law_programs.specs.list_runs.Runs.{BodiesAreBuilt}
use Rattle.sp_law_programs.specs.list_runs.Laws.{FunctionsFitAsCalled, HooksFitAsRun}

-- A body that is entered with operands of these kinds: behind them it has other locals, which begin with values of their kinds; and the
-- shape before its first instruction is the one with which it is entered.
record IsEntered (r : Routine) (u : Option ℕ) (round : Round) (ins : List Kind) : Type 0 where
  others : List Kind
  fresh : AlwaysHave others r.entry.fresh
  shape : r.shape ≡ body_shape u round (reverse ins ++ others)

module _ (p : Plain) (shapes : Shapes) (globals : Globals) where
  entered : (n : ℕ) (r : Routine) (i : IsPlaced p shapes globals p.bodies shapes.bodies n r) → Shown p shapes i.start r.shape →
      (u : Option ℕ) (called : called_is.Called) (round : Round) (ins : List Kind) → Enters p shapes n u called round ins → IsEntered r u round ins
  entered n r i shown u called round ins (e, h, listed, locals, is, body, there) =
      let same : e ≡ entry_at i.start r = ap (λ o. unwrap_or o e) (sym listed ∙ i.listed) in
      let at : e.start ≡ i.start = ap (λ (b : Body). b.start) same in
      let begins : r.shape ≡ body_shape u round h.locals = ap (λ o. unwrap_or o r.shape) (sym shown ∙ ap (λ n. slice_get shapes.at n) (sym at) ∙ there) in
      record {
        others = body.others;
        fresh = subst (λ (b : Body). AlwaysHave body.others b.fresh) same body.fresh;
        shape = begins ∙ ap (λ ls. body_shape u round ls) body.locals;
      }

module _ (list : Typed) (p : Plain) (shapes : Shapes) (is : IsProgramOf list p shapes) (fits : ListFits list p shapes) where
  abbrev globals : Globals
  globals = globals_of list

  function_fits : BodiesAreBuilt list → (f : ℕ) (x : Function) (ins : List Kind) (k : Kind) → slice_get list.functions f ≡ Some x →
      Enters p shapes f None called_is.Called.Function (OfFunction k) ins → FunctionFits p shapes list x ins k
  function_fits built f x ins k e enters =
      let i = placed_function p shapes (hook_names_of list) (currents_of list) list (behind_bodies list) is.laid f x e in
      let s = function_shape globals x in
      let shown = shown_first shapes.at i.start s _ (stmt_begins globals (function_layout x) x.body s i.start i.start i.start _ (fits.places.functions f x e) refl) i.shows in
      let t = entered p shapes globals f (function_routine globals x) i shown None called_is.Called.Function (OfFunction k) ins enters in
      let result = kind_of_type globals.ranges x.result in
      let given : result ≡ k = subst (λ s. IsResult s.round result) t.shape refl in
      record {
        slots = t.others;
        fresh = t.fresh;
        ending = λ units. subst (λ k. Has units k (zero_value globals.ranges x.result)) given (zero_has globals.ranges units x.result);
        body = subst (λ s. StmtFits p shapes globals (function_layout x) s.locals s.unit s.round false x.body) t.shape (fits.bodies.functions f x e);
        built = built.functions f x e;
      }

  hook_fits : (h : ℕ) (x : Hook) (u : Option ℕ) (ins : List Kind) → slice_get list.hooks h ≡ Some x → HookIsBuilt list x →
      Enters p shapes (length list.functions + h) u (called_is.Called.Hook (is_foreach x.of)) (OfHook (is_foreach x.of)) ins → HookFits p shapes list x u ins
  hook_fits h x u ins e built enters =
      let names = hook_names_of list in
      let current = kind_at (currents_of list) h in
      let i = placed_hook p shapes names (currents_of list) list (behind_bodies list) is.laid h x e in
      let s = hook_shape globals current x in
      let shown = shown_first shapes.at i.start s _ (stmt_begins globals (hook_layout x) x.body s i.start i.start i.start _ (fits.places.hooks h x e) refl) i.shows in
      let t = entered p shapes globals (length list.functions + h) (hook_routine globals (name_at names h) current x) i shown u (called_is.Called.Hook (is_foreach x.of)) (OfHook (is_foreach x.of)) ins enters in
      record {
        slots = t.others;
        fresh = t.fresh;
        body = subst (λ s. StmtFits p shapes globals (hook_layout x) s.locals s.unit s.round false x.body) t.shape (fits.bodies.hooks h x e);
        built = built;
      }

pub functions_fit_as_called : FunctionsFitAsCalled
functions_fit_as_called list p shapes is fits built f x ins k e enters = function_fits list p shapes is fits built f x ins k e enters

pub hooks_fit_as_run : HooksFitAsRun
hooks_fit_as_run list p shapes is fits h x u ins e built enters = hook_fits list p shapes is fits h x u ins e built enters
