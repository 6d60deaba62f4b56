-- A list passes where all that it declares does.
use Rattle.std.specs.Prelude.{◌≡◌, ℕ, Some, slice_get}
use Rattle.sp_typed_units.specs.declared.declarations.Function.{Function}
use Rattle.sp_typed_units.specs.declared.declarations.Hook.{Hook}
use Rattle.sp_typed_units.specs.declared.declarations.Typed.{Typed}
use Rattle.sp_typed_units.specs.declared.declarations.Unit.{Unit as TypedUnit}
use Rattle.sp_law_lists.specs.fit_expr.Passes.{ConstantsFit}
use Rattle.sp_law_lists.specs.fit_list.Bodies.{FunctionPasses, HookPasses}
use Rattle.sp_law_lists.specs.fit_list.Units.{UnitPasses}
use Rattle.sp_law_lists.specs.fit_list.Stored.{type_for}
use Rattle.sp_law_lists.specs.fit_list.Passes.{ListPasses}

-- A list fits in whatever is its program, and its bodies and units are built of what has a meaning and have literals of their types,
-- where its constants are of their types, and all its functions, all its hooks, by what their fields store, and all its units pass.
abbrev pub PassingListsFit : Type 0
PassingListsFit =
    (list : Typed) → ConstantsFit list
    → ((f : ℕ) (x : Function) → slice_get list.functions f ≡ Some x → FunctionPasses list x)
    → ((h : ℕ) (x : Hook) → slice_get list.hooks h ≡ Some x → HookPasses list (type_for list h) x)
    → ((u : ℕ) (x : TypedUnit) → slice_get list.units u ≡ Some x → UnitPasses list u x)
    → ListPasses list
