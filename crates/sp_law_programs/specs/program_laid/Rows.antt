-- A program whose bodies fit, so that the laws speak of it.
use Rattle.std.specs.Prelude.{◌≡◌, ℕ, zero, suc, false, [], ◌∷◌, length, Some, None, refl, slice_get, unwrap_or}
use Rattle.std.proofs.Common.{sym, subst, ap, arith}
use Rattle.sp_numbers.specs.declared.width.Width.TheVariants.{W8}
use Rattle.sp_words.specs.declared.methods.Method.TheVariants.{PushBack}
use Rattle.sp_methods.specs.Kinds.{Bytes, Unsigned}
use Rattle.sp_types.specs.declared.words.Word.TheVariants as word_is
use Rattle.sp_types.specs.Types.{word}
use Rattle.sp_typed.specs.declared.words.LeafOp.TheVariants as leaf_is
use Rattle.sp_typed.specs.declared.words.ManyOp.{ManyOp}
use Rattle.sp_typed.specs.declared.words.ManyOp.TheVariants as many_is
use Rattle.sp_typed.specs.Exprs.{Expr, Exprs, leaf, many, exprs}
use Rattle.sp_typed_units.specs.declared.declarations.Function.{Function}
use Rattle.sp_typed_units.specs.declared.declarations.Hook.{Hook}
use Rattle.sp_meaning_states.specs.Scopes.{Called}
use Rattle.sp_meaning.specs.Hooks.{has_current}
use Rattle.sp_meaning.specs.Globals.{Globals, globals_of}
use Rattle.sp_code.specs.Shapes.{OfFunction, OfHook, IsSound, Keeps, Enters}
use Rattle.sp_code.specs.Turns.{Turns}
use Rattle.sp_code_programs.specs.exprs.Code.{kind_at}
use Rattle.sp_code_programs.specs.programs.Rows.{here, same, seven, shown, modules, hook_names, currents, in_unit, rest, program, shapes, the_program_is_laid}
use Rattle.sp_law_code.specs.exprs.Laws.{AllKeep}
use Rattle.sp_law_code.specs.bodies.Parts.{BodiesAreCounted}
use Rattle.sp_law_code.specs.turns.Falling.{AllTurn}
use Rattle.sp_law_programs.specs.program_laid.Places.{ChangesPlaces}
use Rattle.sp_law_meaning.specs.Standing.{ExprStands, StmtStands}
use Rattle.sp_law_programs.specs.program_laid.Fits.{FunctionFits, HookFits, BodiesFit}
use Rattle.sp_law_programs.specs.program_laid.Laws.{LaidFunctionsEnter, LaidHooksEnter, LaidProgramsAreSound, FittingBodiesKeepToLoops, LaidProgramsTurn, LaidProgramsCount}

abbrev globals : Globals
globals = globals_of modules

-- the first function takes a number and gives one
same_enters : Enters program shapes 0 None Called.Function (OfFunction Unsigned) (Unsigned ∷ [])
same_enters = (_, _, refl, refl, refl, record { others = []; takes = refl; locals = refl; fresh = λ units. tt }, refl)

same_fits : FunctionFits program shapes globals same
same_fits = (refl, refl)

-- the second one calls it
seven_fits : FunctionFits program shapes globals seven
seven_fits = ((refl, (((λ units. (W8, 7, refl)), tt), same_enters), refl), ((refl, refl), tt))

shown_fits : HookFits program shapes globals Bytes shown
shown_fits = (refl, tt)

functions_fit : (n : ℕ) (x : Function) → slice_get modules.functions n ≡ Some x → FunctionFits program shapes globals x
functions_fit zero x e = subst (λ x. FunctionFits program shapes globals x) (ap (λ o. unwrap_or o same) e) same_fits
functions_fit (suc zero) x e = subst (λ x. FunctionFits program shapes globals x) (ap (λ o. unwrap_or o seven) e) seven_fits
functions_fit (suc (suc n)) x e = absurd (let q : None ≡ Some x = e in cc)

hooks_fit : (n : ℕ) (x : Hook) → slice_get modules.hooks n ≡ Some x → HookFits program shapes globals (kind_at currents n) x
hooks_fit zero x e = subst (λ x. HookFits program shapes globals Bytes x) (ap (λ o. unwrap_or o shown) e) shown_fits
hooks_fit (suc n) x e = absurd (let q : None ≡ Some x = e in cc)

pub the_bodies_fit : BodiesFit program shapes currents modules
the_bodies_fit = record { functions = functions_fit; hooks = hooks_fit }

-- what stands behind them keeps to its shape
pub the_rest_keeps : AllKeep program shapes 15 rest
the_rest_keeps = ((λ i e. subst (λ i. Keeps program shapes i 15 in_unit) (sym e) (tt, refl)), tt)

-- the end of a unit leads nowhere
the_rest_turns : AllTurn 15 rest
the_rest_turns = record { heights = 0 ∷ []; count = refl; low = (omega arith, tt); fall = λ height have. (tt, tt) }

pub the_program_turns : FittingBodiesKeepToLoops → LaidProgramsTurn → Turns program
the_program_turns fitting law =
    law program shapes hook_names currents modules rest the_program_is_laid (fitting program shapes currents modules the_bodies_fit) the_rest_turns

pub the_program_is_sound : LaidProgramsAreSound → IsSound program shapes
the_program_is_sound law = law program shapes hook_names currents modules rest the_program_is_laid the_bodies_fit the_rest_keeps

-- the functions can be called, and the body of the hook can be run: it is handed `$$`, and the offset on top of it
pub the_functions_enter : LaidFunctionsEnter → Enters program shapes 0 None Called.Function (OfFunction Unsigned) (Unsigned ∷ []) × Enters program shapes 1 None Called.Function (OfFunction Unsigned) []
the_functions_enter law =
    (law program shapes hook_names currents modules rest the_program_is_laid 0 same refl (tt, tt), law program shapes hook_names currents modules rest the_program_is_laid 1 seven refl ((tt, tt, (tt, (tt, tt))), ((tt, tt), tt)))

pub the_hook_enters : LaidHooksEnter → Enters program shapes 2 (Some 0) (Called.Hook false) (OfHook false) (Unsigned ∷ Bytes ∷ [])
the_hook_enters law = law program shapes hook_names currents modules rest the_program_is_laid 0 shown refl (tt, tt)

-- calls
abbrev row_of : ManyOp → Exprs → Expr
row_of op es = many (record { span = here; ty = word (word_is.Uint W8); op = op }) es

abbrev number : Expr
number = leaf (record { span = here; ty = word (word_is.Uint W8); op = leaf_is.Number 7 })

-- `same(7).push_back(7)`, whose receiver is no place
pub no_push_to_a_result : ChangesPlaces (row_of (many_is.Method PushBack None) (exprs (row_of (many_is.Call 0) (exprs (number ∷ [])) ∷ number ∷ []))) → ⊥
no_push_to_a_result changes = changes.0 refl

-- `same(7)` has its argument, and so has each call of the list
functions_match : (n : ℕ) (x : Function) → slice_get modules.functions n ≡ Some x → StmtStands false modules.functions x.body
functions_match zero x e = subst (λ x. StmtStands false modules.functions x.body) (ap (λ o. unwrap_or o same) e) tt
functions_match (suc zero) x e = subst (λ x. StmtStands false modules.functions x.body) (ap (λ o. unwrap_or o seven) e) ((tt, ((same, refl, refl), (tt, tt))), (tt, tt))
functions_match (suc (suc n)) x e = absurd (let q : None ≡ Some x = e in cc)

hooks_match : (n : ℕ) (x : Hook) → slice_get modules.hooks n ≡ Some x → StmtStands (has_current x.of) modules.functions x.body
hooks_match zero x e = subst (λ x. StmtStands (has_current x.of) modules.functions x.body) (ap (λ o. unwrap_or o shown) e) (refl, tt)
hooks_match (suc n) x e = absurd (let q : None ≡ Some x = e in cc)

pub the_calls_are_counted : LaidProgramsCount → BodiesAreCounted program modules
the_calls_are_counted law = law program shapes hook_names currents modules rest the_program_is_laid (record { functions = functions_match; hooks = hooks_match })

-- `same()` lacks its argument
pub no_call_lacks_an_argument : ExprStands false modules.functions (row_of (many_is.Call 0) (exprs [])) → ⊥
no_call_lacks_an_argument ((x, is, e), rest) = let n : 1 ≡ length x.parameters = ap (λ o. length (unwrap_or o same).parameters) is in omega (arith, n, e)

-- and there are two functions
pub no_third_function : ExprStands false modules.functions (row_of (many_is.Call 2) (exprs [])) → ⊥
no_third_function ((x, is, e), rest) = absurd (let q : None ≡ Some x = is in cc)
