-- What is broken in units, hooks, functions and bitfields, and in a whole typed list.
use Rattle.std.specs.Prelude.{ℕ, Bool, true, false, ◌⊎◌, List, [], ◌∷◌, ◌++◌, Option, Some, None}
use Rattle.sp_words.specs.declared.words.HookName.{HookName}
use Rattle.sp_words.specs.declared.words.HookName.TheVariants as hook_is
use Rattle.sp_rules.specs.declared.fault.Fault.{Fault}
use Rattle.sp_rules.specs.Least.{Among}
use Rattle.sp_typed.specs.Exprs.{Expr, exprs}
use Rattle.sp_typed.specs.StmtNodes.{stmt_nodes}
use Rattle.sp_typed_units.specs.declared.items.Field.{Field}
use Rattle.sp_typed_units.specs.declared.declarations.Variable.{Variable}
use Rattle.sp_typed_units.specs.declared.declarations.Unit.{Unit}
use Rattle.sp_typed_units.specs.declared.declarations.HookOf.{HookOf}
use Rattle.sp_typed_units.specs.declared.declarations.HookOf.TheVariants as hook_of
use Rattle.sp_typed_units.specs.declared.declarations.Hook.{Hook}
use Rattle.sp_typed_units.specs.declared.declarations.Function.{Function}
use Rattle.sp_typed_units.specs.declared.declarations.Typed.{Typed}
use Rattle.sp_typed_units.specs.Parts.{Part, Parts, Arms, field, choice, no_parts, more_parts, no_arms, more_arms, parts}
use Rattle.sp_rule_units.specs.declared.here.Here.{Here}
use Rattle.sp_rule_units.specs.Faults.{each}
use Rattle.sp_rule_units.specs.Bits.{bitfield_tests}
use Rattle.sp_rule_units.specs.Filters.{is_filter, node_tests}
use Rattle.sp_type_fields.specs.Kinds.{kind_of, holder_of}
use Rattle.sp_rule_units.specs.Readings.{maybe_tests, exprs_tests, attributes_tests, spec_tests}

-- a field: how it is read, its attributes, its condition, and the sink behind `->`
abbrev pub field_tests : List Unit → Here → Field → List (Bool × Fault)
field_tests us d f =
    spec_tests us d f.attributes f.spec ++ (attributes_tests us d (holder_of f.member) (kind_of f.spec) [] f.attributes ++ (maybe_tests us d f.condition ++ maybe_tests us d f.sink))

-- a field, or a switch with what it compares, the values of its arms and the parts in them
abbrev mutual
  pub part_tests : List Unit → Here → Part → List (Bool × Fault)
  part_tests us d (field f) = field_tests us d f
  part_tests us d (choice at e rows) = maybe_tests us d e ++ arms_tests us d rows

  pub parts_tests : List Unit → Here → Parts → List (Bool × Fault)
  parts_tests us d no_parts = []
  parts_tests us d (more_parts p ps) = part_tests us d p ++ parts_tests us d ps

  pub arms_tests : List Unit → Here → Arms → List (Bool × Fault)
  arms_tests us d no_arms = []
  arms_tests us d (more_arms a ps rest) = exprs_tests us d (exprs a.values) ++ (parts_tests us d ps ++ arms_tests us d rest)

-- the values of variables
abbrev pub variables_tests : List Unit → Here → List Variable → List (Bool × Fault)
variables_tests us d [] = []
variables_tests us d (v ∷ vs) = maybe_tests us d v.value ++ variables_tests us d vs

abbrev pub in_unit : Unit → Here
in_unit u = record { owner = u.«module»; filter = u.filter; init = false }

abbrev pub unit_tests : List Unit → Unit → List (Bool × Fault)
unit_tests us u = variables_tests us (in_unit u) u.variables ++ parts_tests us (in_unit u) (parts u.parts)

abbrev pub is_init : HookName → Bool
is_init hook_is.Init = true
is_init _ = false

-- where the body of a hook stands, if its hook is one of a unit or a field
abbrev pub of_unit : List Unit → ℕ → ℕ → Bool → Option Here
of_unit us m n init = Some (record { owner = m; filter = is_filter us n; init = init })

abbrev pub in_hook : List Unit → ℕ → HookOf → Option Here
in_hook us m hook_of.Nothing = None
in_hook us m (hook_of.Unit n name) = of_unit us m n (is_init name)
in_hook us m (hook_of.Field n k) = of_unit us m n false
in_hook us m (hook_of.Elements n k) = of_unit us m n false
in_hook us m (hook_of.Anonymous n) = of_unit us m n false
in_hook us m (hook_of.AnonymousElements n) = of_unit us m n false

-- Of the body of a hook of nothing nothing is asked.
abbrev pub body_tests : List Unit → Option Here → List Expr → List (Bool × Fault)
body_tests us None es = []
body_tests us (Some d) es = each (node_tests us d) es

abbrev pub hook_tests : List Unit → Hook → List (Bool × Fault)
hook_tests us h = body_tests us (in_hook us h.«module» h.of) (stmt_nodes h.body)

abbrev pub in_function : Function → Here
in_function f = record { owner = f.«module»; filter = false; init = false }

abbrev pub function_tests : List Unit → Function → List (Bool × Fault)
function_tests us f = body_tests us (Some (in_function f)) (stmt_nodes f.body)

-- all tests of a typed list: at its units, hooks, functions and bitfields
abbrev pub all_tests : Typed → List (Bool × Fault)
all_tests t =
    each (unit_tests t.units) t.units ++ (each (hook_tests t.units) t.hooks ++ (each (function_tests t.units) t.functions ++ each bitfield_tests t.bitfields))

-- A rule is broken in a list where one of some tests holds.
abbrev pub BreaksAt : {X : Type 0} → (X → List (Bool × Fault)) → List X → Fault → Type 0
BreaksAt {X} tests xs f = (x : X) × Among xs x × Among (tests x) (true, f)

-- A rule of units is broken in a typed list: in a unit, a hook, a function or a bitfield.
abbrev pub Breaks : Typed → Fault → Type 0
Breaks t f =
    BreaksAt (unit_tests t.units) t.units f ⊎ BreaksAt (hook_tests t.units) t.hooks f ⊎ BreaksAt (function_tests t.units) t.functions f ⊎ BreaksAt bitfield_tests t.bitfields f
