-- A program that has the bodies of a list of modules, so that the laws speak of it.
use Rattle.std.specs.Prelude.{◌≡◌, ℕ, zero, suc, true, List, [], ◌∷◌, Some, None, refl, slice_get, unwrap_or}
use Rattle.std.proofs.Common.{subst, ap}
use Rattle.sp_base.specs.declared.places.Span.{Span}
use Rattle.sp_words.specs.declared.words.HookName.TheVariants as hook_name
use Rattle.sp_value.specs.Val.{void}
use Rattle.sp_methods.specs.Kinds.{Void}
use Rattle.sp_types.specs.declared.words.Word.TheVariants as word_is
use Rattle.sp_types.specs.Types.{word}
use Rattle.sp_typed.specs.declared.stmt_words.BareOp.TheVariants as bare_is
use Rattle.sp_typed.specs.Stmts.{Stmt, bare}
use Rattle.sp_typed_units.specs.declared.declarations.Function.{Function}
use Rattle.sp_typed_units.specs.declared.declarations.Hook.{Hook}
use Rattle.sp_typed_units.specs.declared.declarations.HookOf.TheVariants as hook_of
use Rattle.sp_typed_units.specs.declared.declarations.Typed.{Typed}
use Rattle.sp_meaning.specs.Globals.{Globals, globals_of}
use Rattle.sp_code.specs.declared.instr.Instr.TheVariants as does
use Rattle.sp_code.specs.Machine.{Plain}
use Rattle.sp_code.specs.Shapes.{Shape, OfFunction, body_shape}
use Rattle.sp_code_programs.specs.units.Bodies.{function_entry, hook_entry, HasFunction, HasHook, HasBodies}
use Rattle.sp_law_code.specs.bodies.Parts.{StmtIsCounted, BodiesAreCounted}

abbrev here : Span
here = record { from = 0; to = 0 }

abbrev returns : Stmt
returns = bare (record { span = here; op = bare_is.Return })

-- a function and a body of `%init`, both of which return
abbrev function : Function
function = record { path = []; «module» = 0; span = here; parameters = []; result = word word_is.Void; written = None; slots = []; body = returns }

abbrev hook : Hook
hook = record { «module» = 0; span = here; of = hook_of.Unit 0 hook_name.Init; fits = true; parameters = []; priority = None; rank = None; slots = []; body = returns }

abbrev list : Typed
list = record { units = []; functions = function ∷ []; hooks = hook ∷ []; constants = []; enums = []; bitfields = []; aliases = []; conversions = []; orders = [] }

abbrev globals : Globals
globals = globals_of list

abbrev shape : Shape
shape = body_shape None (OfFunction Void) []

-- the code of the function, that of the hook, and what calls both
abbrev program : Plain
program =
    record {
      limits = record { turns = 4; depth = 3; fibers = 1 };
      names = record { members = []; labels = []; ranges = [] };
      consts = void ∷ [];
      bodies = function_entry globals 0 function ∷ hook_entry globals 4 [] hook ∷ [];
      units = [];
      code = does.Const 0 ∷ does.Return ∷ does.Const 0 ∷ does.Return ∷ does.Const 0 ∷ does.Return ∷ does.Const 0 ∷ does.Return ∷ does.Call 0 ∷ does.Pop ∷ does.Hook 1 ∷ does.LeaveUnit ∷ [];
    }

has_function : HasFunction globals program 0 function
has_function = record { start = 0; shape = shape; listed = refl; stands = (does.Const 0, refl, (0, refl, refl), (does.Return, refl, refl, (does.Const 0, refl, (0, refl, refl), (does.Return, refl, refl, tt)))) }

has_hook : HasHook globals program 1 [] hook
has_hook = record { start = 4; shape = shape; listed = refl; stands = (does.Const 0, refl, (0, refl, refl), (does.Return, refl, refl, (does.Const 0, refl, (0, refl, refl), (does.Return, refl, refl, tt)))) }

functions_of : (n : ℕ) (x : Function) → slice_get list.functions n ≡ Some x → HasFunction globals program n x
functions_of zero x e = subst (λ x. HasFunction globals program 0 x) (ap (λ o. unwrap_or o function) e) has_function
functions_of (suc n) x e = absurd (let q : None ≡ Some x = e in cc)

hooks_of : (n : ℕ) (x : Hook) → slice_get list.hooks n ≡ Some x → HasHook globals program (suc n) [] x
hooks_of zero x e = subst (λ x. HasHook globals program 1 [] x) (ap (λ o. unwrap_or o hook) e) has_hook
hooks_of (suc n) x e = absurd (let q : None ≡ Some x = e in cc)

counted_functions : (n : ℕ) (x : Function) → slice_get list.functions n ≡ Some x → StmtIsCounted program x.body
counted_functions zero x e = subst (λ x. StmtIsCounted program x.body) (ap (λ o. unwrap_or o function) e) tt
counted_functions (suc n) x e = absurd (let q : None ≡ Some x = e in cc)

counted_hooks : (n : ℕ) (x : Hook) → slice_get list.hooks n ≡ Some x → StmtIsCounted program x.body
counted_hooks zero x e = subst (λ x. StmtIsCounted program x.body) (ap (λ o. unwrap_or o hook) e) tt
counted_hooks (suc n) x e = absurd (let q : None ≡ Some x = e in cc)

counted : BodiesAreCounted program list
counted = record { functions = counted_functions; hooks = counted_hooks }
