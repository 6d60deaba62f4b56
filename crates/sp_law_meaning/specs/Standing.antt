-- What a typed list has where its bodies name only what there is: as many arguments as parameters, and `$$` where there is one.
use Rattle.std.specs.Prelude.{◌≡◌, ℕ, Bool, true, false, List, [], ◌∷◌, length, Option, Some, None, slice_get, if◌then◌else◌}
use Rattle.sp_words.specs.declared.words.HookName.{HookName}
use Rattle.sp_typed.specs.declared.words.LeafOp.{LeafOp}
use Rattle.sp_typed.specs.declared.words.LeafOp.TheVariants as leaf_is
use Rattle.sp_typed.specs.declared.words.ManyOp.{ManyOp}
use Rattle.sp_typed.specs.declared.words.ManyOp.TheVariants as many_is
use Rattle.sp_typed.specs.Exprs.{Expr, Exprs, leaf, one, two, three, many, none, more}
use Rattle.sp_typed.specs.Stmts.{Stmt, Stmts, Branches, Cases, bare, valued, assign, print, block, branch, while_loop, for_loop, switch, no_stmts, more_stmts, no_branches, more_branches, no_cases, more_cases}
use Rattle.sp_typed_units.specs.declared.declarations.Function.{Function}
use Rattle.sp_typed_units.specs.declared.declarations.Hook.{Hook}
use Rattle.sp_typed_units.specs.declared.declarations.Typed.{Typed}
use Rattle.sp_typed_units.specs.declared.declarations.Unit.{Unit as TypedUnit}
use Rattle.sp_typed_units.specs.declared.declarations.Variable.{Variable}
use Rattle.sp_typed_units.specs.Parts.{Part, Parts, field, no_parts, more_parts, parts}
use Rattle.sp_code_meaning.specs.Exprs.{how_many}
use Rattle.sp_meaning.specs.Hooks.{has_current, hook_bodies, is_of_unit}

-- Whether there is a `$$`, and the functions of the list.
module _ (has : Bool) (functions : List Function) where
  abbrev pub LeafStands : LeafOp → Type 0
  LeafStands (leaf_is.Current s) = has ≡ true
  LeafStands l = Unit {0}

  -- a call is one of these functions, and has as many arguments as that has parameters
  abbrev pub CallStands : ManyOp → ℕ → Type 0
  CallStands (many_is.Call f) n = (x : Function) × (slice_get functions f ≡ Some x) × (n ≡ length x.parameters)
  CallStands op n = Unit {0}

  abbrev mutual
    pub ExprStands : Expr → Type 0
    ExprStands (leaf h) = LeafStands h.op
    ExprStands (one h a) = ExprStands a
    ExprStands (two h a b) = ExprStands a × ExprStands b
    ExprStands (three h c a b) = ExprStands c × ExprStands a × ExprStands b
    ExprStands (many h es) = CallStands h.op (how_many es) × AllStand es

    pub AllStand : Exprs → Type 0
    AllStand none = Unit {0}
    AllStand (more e es) = ExprStands e × AllStand es

  abbrev mutual
    pub StmtStands : Stmt → Type 0
    StmtStands (bare h) = Unit {0}
    StmtStands (valued h e) = ExprStands e
    StmtStands (assign h target e) = ExprStands target × ExprStands e
    StmtStands (print at es) = AllStand es
    StmtStands (block ss) = StmtsStand ss
    StmtStands (branch bs s) = BranchesStand bs × StmtStands s
    StmtStands (while_loop e s) = ExprStands e × StmtStands s
    StmtStands (for_loop h e s) = ExprStands e × StmtStands s
    StmtStands (switch slot e cs s) = ExprStands e × CasesStand cs × StmtStands s

    pub StmtsStand : Stmts → Type 0
    StmtsStand no_stmts = Unit {0}
    StmtsStand (more_stmts s ss) = StmtStands s × StmtsStand ss

    pub BranchesStand : Branches → Type 0
    BranchesStand no_branches = Unit {0}
    BranchesStand (more_branches e s bs) = ExprStands e × StmtStands s × BranchesStand bs

    pub CasesStand : Cases → Type 0
    CasesStand no_cases = Unit {0}
    CasesStand (more_cases es s cs) = AllStand es × StmtStands s × CasesStand cs

-- an expression that is there
abbrev pub ValueStands : List Function → Option Expr → Type 0
ValueStands functions (Some e) = ExprStands false functions e
ValueStands functions None = Unit {0}

-- the values of variables, which see no `$$`
abbrev pub VariablesStand : List Function → List Variable → Type 0
VariablesStand functions [] = Unit {0}
VariablesStand functions (v ∷ vs) = ValueStands functions v.value × VariablesStand functions vs

-- how many values a body of a hook is handed: `$$` and the offset of the field, or its arguments
abbrev pub handed : Hook → ℕ
handed x = if has_current x.of then 2 else length x.parameters

module _ (list : Typed) where
  -- the bodies of these numbers are handed so many values
  abbrev pub AreHanded : ℕ → List ℕ → Type 0
  AreHanded k [] = Unit {0}
  AreHanded k (h ∷ hs) = ((x : Hook) → slice_get list.hooks h ≡ Some x → handed x ≡ k) × AreHanded k hs

  -- the hooks of a field are handed two
  abbrev pub PartStands : Part → Type 0
  PartStands (field f) = AreHanded 2 f.hooks
  PartStands p = Unit {0}

  abbrev pub PartsStand : Parts → Type 0
  PartsStand no_parts = Unit {0}
  PartsStand (more_parts p ps) = PartStands p × PartsStand ps

  -- the bodies of the list: those of hooks of fields and of elements have a `$$`
  pub record BodiesStand : Type 0 where
    pub functions : (f : ℕ) (x : Function) → slice_get list.functions f ≡ Some x → StmtStands false list.functions x.body
    pub hooks : (h : ℕ) (x : Hook) → slice_get list.hooks h ≡ Some x → StmtStands (has_current x.of) list.functions x.body

  -- a unit: the hooks that each unit has are handed nothing
  pub record UnitStands (u : ℕ) (x : TypedUnit) : Type 0 where
    pub variables : VariablesStand list.functions x.variables
    pub of_parts : PartsStand (parts x.parts)
    pub hooks : (name : HookName) → AreHanded 0 (hook_bodies (is_of_unit u name) list.hooks)

  pub record ListStands : Type 0 where
    pub bodies : BodiesStand
    pub units : (u : ℕ) (x : TypedUnit) → slice_get list.units u ≡ Some x → UnitStands u x
