-- That all bodies of a list of modules keep to their loops.
use Rattle.std.specs.Prelude.{◌≡◌, ℕ, false, Some, slice_get}
use Rattle.sp_typed_units.specs.declared.declarations.Function.{Function}
use Rattle.sp_typed_units.specs.declared.declarations.Hook.{Hook}
use Rattle.sp_typed_units.specs.declared.declarations.Typed.{Typed}
use Rattle.sp_law_code.specs.turns.Loops.{KeepsToLoops}

-- Each break and each continue in a body of a function or a hook stands in a loop of that body.
pub record BodiesKeepToLoops (list : Typed) : Type 0 where
  pub functions : (f : ℕ) (x : Function) → slice_get list.functions f ≡ Some x → KeepsToLoops false x.body
  pub hooks : (h : ℕ) (x : Hook) → slice_get list.hooks h ≡ Some x → KeepsToLoops false x.body
