-- How many declarations a module has at most, how many items a unit, and how many parameters a unit and a function.
use Rattle.std.specs.Prelude.{ℕ, zero, suc, Bool, true, List, [], ◌∷◌, ◌++◌, Option, Some, None}
use Rattle.sp_ast.specs.Trees.{Tree, Trees, row, node, none, more, span_of}
use Rattle.sp_ast.specs.declared.forms.Form.TheVariants as form_is
use Rattle.sp_ast.specs.declared.forms.DeclForm.TheVariants as decl_is
use Rattle.sp_ast.specs.declared.forms.TypeForm.TheVariants as type_is
use Rattle.sp_rules.specs.declared.rule.Rule.TheVariants as rule_is
use Rattle.sp_rules.specs.declared.fault.Fault.{Fault}
use Rattle.sp_rules.specs.Faults.{at}

abbrev pub most_declarations : ℕ
most_declarations = 4096

abbrev pub most_items : ℕ
most_items = 256

abbrev pub most_parameters : ℕ
most_parameters = 16

-- the first of a row that stands behind so many
abbrev pub first_behind : ℕ → Trees → Option Tree
first_behind n none = None
first_behind zero (more t ts) = Some t
first_behind (suc n) (more t ts) = first_behind n ts

abbrev pub too_many : ℕ → Option Tree → List (Bool × Fault)
too_many m None = []
too_many m (Some t) = (true, at m rule_is.TooMany (span_of t)) ∷ []

-- a row of at most so many: else the first too many
abbrev pub row_limit : ℕ → ℕ → Trees → List (Bool × Fault)
row_limit m most ts = too_many m (first_behind most ts)

-- a unit: its parameters, and its items, which are fields and switches, variables, sinks, hooks and properties
abbrev pub unit_limits : ℕ → Tree → List (Bool × Fault)
unit_limits m (node form_is.Unit span (more (row parameters) (more (row items) none))) =
    row_limit m most_parameters parameters ++ row_limit m most_items items
unit_limits m _ = []

abbrev pub type_limits : ℕ → Tree → List (Bool × Fault)
type_limits m (node (form_is.Type type_is.Unit) span (more unit none)) = unit_limits m unit
type_limits m _ = []

abbrev pub declaration_limits : ℕ → Tree → List (Bool × Fault)
declaration_limits m (node (form_is.Decl (decl_is.Type public)) span (more name (more t none))) = type_limits m t
declaration_limits m (node (form_is.Decl (decl_is.Function public)) span (more name (more (row parameters) rest))) =
    row_limit m most_parameters parameters
declaration_limits m _ = []

abbrev pub declarations_limits : ℕ → Trees → List (Bool × Fault)
declarations_limits m none = []
declarations_limits m (more t ts) = declaration_limits m t ++ declarations_limits m ts

-- a module: its declarations, imports, properties and hooks among them, and what stands in each
abbrev pub module_limits : ℕ → Tree → List (Bool × Fault)
module_limits m (node form_is.Module span (more name (more (row declarations) none))) =
    row_limit m most_declarations declarations ++ declarations_limits m declarations
module_limits m _ = []
