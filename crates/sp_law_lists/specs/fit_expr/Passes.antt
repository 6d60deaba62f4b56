-- All that is asked of an expression, whatever program it stands in.
use Rattle.std.specs.Prelude.{◌≡◌, ℕ, List, reverse, Option, Some, None, slice_get, is_some}
use Rattle.sp_value.specs.Val.{Val}
use Rattle.sp_methods.specs.Kinds.{Kind, Has}
use Rattle.sp_typed.specs.Exprs.{Expr, Exprs}
use Rattle.sp_typed_units.specs.declared.declarations.Constant.{Constant}
use Rattle.sp_typed_units.specs.declared.declarations.Function.{Function}
use Rattle.sp_typed_units.specs.declared.declarations.Member.{Member}
use Rattle.sp_typed_units.specs.declared.declarations.Parameter.{Parameter}
use Rattle.sp_typed_units.specs.declared.declarations.Typed.{Typed}
use Rattle.sp_typed_units.specs.declared.declarations.Unit.{Unit as TypedUnit}
use Rattle.sp_meaning_states.specs.Scopes as called_is
use Rattle.sp_meaning_states.specs.Types.{kind_of_type}
use Rattle.sp_code_meaning.specs.Layouts.{Layout}
use Rattle.sp_meaning.specs.Globals.{globals_of, constant_value}
use Rattle.sp_code.specs.Machine.{Plain}
use Rattle.sp_code.specs.Shapes.{UnitKinds, Shapes, OfFunction, IsMember, Enters}
use Rattle.sp_code_programs.specs.programs.Routines.{parameter_kinds}
use Rattle.sp_law_code.specs.exprs.Parts as expressions
use Rattle.sp_law_programs.specs.finished_bodies.Built.{ExprIsBuilt, AllAreBuilt, PlaceIsBuilt}
use Rattle.sp_lower_expr.specs.Literals.{LiteralsFit, AllLiteralsFit, PlaceFits}
use Rattle.sp_law_meaning.specs.Standing.{ExprStands, AllStand}
use Rattle.sp_law_programs.specs.program_laid.Places.{IsPlace, ChangesPlaces, AllChangePlaces}

-- each constant that has a value has one of the kind of its type, whatever instances there are
abbrev pub ConstantsFit : Typed → Type 0
ConstantsFit list =
    (c : ℕ) (x : Constant) (v : Val) → slice_get list.constants c ≡ Some x → constant_value x.value ≡ Some v →
    (units : List ℕ) → Has units (kind_of_type (globals_of list).ranges x.ty) v

-- What a program has of a list of modules: each member and each parameter of a unit with the kind of its type, and each function, which
-- can be called with values of the kinds of its parameters, the last on top. And constants are of their types.
pub record Tables (list : Typed) (p : Plain) (shapes : Shapes) : Type 0 where
  pub members : (u : ℕ) (x : TypedUnit) → slice_get list.units u ≡ Some x → (m : ℕ) (y : Member) → slice_get x.members m ≡ Some y → IsMember p shapes u m (kind_of_type (globals_of list).ranges y.ty)
  pub parameters : (u : ℕ) (x : TypedUnit) → slice_get list.units u ≡ Some x → (n : ℕ) (y : Parameter) → slice_get x.parameters n ≡ Some y → (t : UnitKinds) × (slice_get shapes.units u ≡ Some t) × (slice_get t.parameters n ≡ Some (kind_of_type (globals_of list).ranges y.ty))
  pub functions : (f : ℕ) (x : Function) → slice_get list.functions f ≡ Some x → Enters p shapes f None called_is.Called.Function (OfFunction (kind_of_type (globals_of list).ranges x.result)) (reverse (parameter_kinds (globals_of list).ranges x.parameters))
  pub constants : ConstantsFit list

module _ (list : Typed) (layout : Layout) (locals : List Kind) (unit : Option ℕ) where
  -- An expression: its parts are of the kinds that its form asks, it is built of what has a meaning, its literals are of their types,
  -- calls have as many arguments as their functions have parameters, `$$` stands where there is one, and what is changed is a place.
  pub record ExprPasses (e : Expr) : Type 0 where
    pub fits : (p : Plain) (shapes : Shapes) → Tables list p shapes → expressions.Fits p shapes (globals_of list) layout locals unit e
    pub built : ExprIsBuilt (globals_of list) list.functions e
    pub literals : LiteralsFit e
    pub stands : ExprStands (is_some layout.offset) list.functions e
    pub places : ChangesPlaces e

  -- each of several
  pub record ExprsPass (es : Exprs) : Type 0 where
    pub fits : (p : Plain) (shapes : Shapes) → Tables list p shapes → expressions.AllFit p shapes (globals_of list) layout locals unit es
    pub built : AllAreBuilt (globals_of list) list.functions es
    pub literals : AllLiteralsFit es
    pub stands : AllStand (is_some layout.offset) list.functions es
    pub places : AllChangePlaces es

  -- A place that is changed, where the owner of a member may be kept in a local.
  pub record PlacePasses (owner : Option ℕ) (e : Expr) : Type 0 where
    pub fits : (p : Plain) (shapes : Shapes) → Tables list p shapes → expressions.PlaceFits p shapes (globals_of list) layout locals unit owner e
    pub built : PlaceIsBuilt (globals_of list) list.functions e
    pub literals : PlaceFits e
    pub all_literals : LiteralsFit e
    pub stands : ExprStands (is_some layout.offset) list.functions e
    pub places : ChangesPlaces e
    pub place : IsPlace e
