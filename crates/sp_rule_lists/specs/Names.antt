-- The rules on names over a typed list: names in expressions that name nothing, names that are declared twice in a body or in a
-- unit, and hooks of nothing. Each is a test with the fault where it holds, in the order of the text.
use Rattle.std.specs.Prelude.{ℕ, Bool, true, false, not, ◌||◌, List, [], ◌∷◌, ◌++◌}
use Rattle.sp_rules.specs.declared.rule.Rule.TheVariants as rule_is
use Rattle.sp_rules.specs.declared.fault.Fault.{Fault}
use Rattle.sp_typed.specs.declared.words.LeafOp.{LeafOp}
use Rattle.sp_typed.specs.declared.words.LeafOp.TheVariants as leaf_is
use Rattle.sp_typed.specs.declared.stmt_words.BareOp.{BareOp}
use Rattle.sp_typed.specs.declared.stmt_words.BareOp.TheVariants as bare_is
use Rattle.sp_typed.specs.declared.stmt_words.ValuedOp.{ValuedOp}
use Rattle.sp_typed.specs.declared.stmt_words.ValuedOp.TheVariants as valued_is
use Rattle.sp_typed.specs.Exprs.{Expr, Exprs, leaf, one, two, three, many, none, more}
use Rattle.sp_typed.specs.Stmts.{Stmt, Stmts, Branches, Cases, bare, valued, assign, print, block, branch, while_loop, for_loop, switch, no_stmts, more_stmts, no_branches, more_branches, no_cases, more_cases}
use Rattle.sp_typed_units.specs.declared.attributes.Attribute.{Attribute}
use Rattle.sp_typed_units.specs.declared.items.Field.{Field}
use Rattle.sp_typed_units.specs.Specs.{Spec, read, unit_read, list_read, group_read}
use Rattle.sp_typed_units.specs.Parts.{Part, Parts, Arms, field, choice, no_parts, more_parts, no_arms, more_arms, parts}
use Rattle.sp_typed_units.specs.declared.declarations.Variable.{Variable}
use Rattle.sp_typed_units.specs.declared.declarations.Sink.{Sink}
use Rattle.sp_typed_units.specs.declared.declarations.OrderProperty.{OrderProperty}
use Rattle.sp_typed_units.specs.declared.declarations.Unit.{Unit}
use Rattle.sp_typed_units.specs.declared.declarations.HookOf.{HookOf}
use Rattle.sp_typed_units.specs.declared.declarations.HookOf.TheVariants as hook_is
use Rattle.sp_typed_units.specs.declared.declarations.Hook.{Hook}
use Rattle.sp_typed_units.specs.declared.declarations.Function.{Function}
use Rattle.sp_typed_units.specs.declared.declarations.Constant.{Constant}
use Rattle.sp_typed_units.specs.declared.declarations.Label.{Label}
use Rattle.sp_typed_units.specs.declared.declarations.Enum.{Enum}
use Rattle.sp_typed_units.specs.declared.declarations.Typed.{Typed}
use Rattle.sp_rules.specs.Faults.{at}
use Rattle.sp_rule_lists.specs.Lists.{all_tests, option_tests}

-- a path of which an identifier names nothing
abbrev pub leaf_names : ℕ → LeafOp → List (Bool × Fault)
leaf_names m (leaf_is.Nothing name) = (true, at m rule_is.UnknownName name) ∷ []
leaf_names m _ = []

-- all such paths of an expression
abbrev mutual
  pub expr_names : ℕ → Expr → List (Bool × Fault)
  expr_names m (leaf h) = leaf_names m h.op
  expr_names m (one h a) = expr_names m a
  expr_names m (two h a b) = expr_names m a ++ expr_names m b
  expr_names m (three h a b c) = expr_names m a ++ (expr_names m b ++ expr_names m c)
  expr_names m (many h es) = exprs_names m es

  pub exprs_names : ℕ → Exprs → List (Bool × Fault)
  exprs_names m none = []
  exprs_names m (more e es) = expr_names m e ++ exprs_names m es

-- a local whose name an open block has already
abbrev pub bare_names : ℕ → BareOp → List (Bool × Fault)
bare_names m (bare_is.Local l) = (l.taken, at m rule_is.NameTwice l.name) ∷ []
bare_names m _ = []

abbrev pub valued_names : ℕ → ValuedOp → List (Bool × Fault)
valued_names m (valued_is.Local l) = (l.taken, at m rule_is.NameTwice l.name) ∷ []
valued_names m _ = []

-- all names of a statement
abbrev mutual
  pub stmt_names : ℕ → Stmt → List (Bool × Fault)
  stmt_names m (bare h) = bare_names m h.op
  stmt_names m (valued h e) = valued_names m h.op ++ expr_names m e
  stmt_names m (assign h target value) = expr_names m target ++ expr_names m value
  stmt_names m (print span es) = exprs_names m es
  stmt_names m (block ss) = stmts_names m ss
  stmt_names m (branch bs s) = branches_names m bs ++ stmt_names m s
  stmt_names m (while_loop e s) = expr_names m e ++ stmt_names m s
  stmt_names m (for_loop h e s) = (h.taken, at m rule_is.NameTwice h.name) ∷ (expr_names m e ++ stmt_names m s)
  stmt_names m (switch slot e cs s) = expr_names m e ++ (cases_names m cs ++ stmt_names m s)

  pub stmts_names : ℕ → Stmts → List (Bool × Fault)
  stmts_names m no_stmts = []
  stmts_names m (more_stmts s ss) = stmt_names m s ++ stmts_names m ss

  pub branches_names : ℕ → Branches → List (Bool × Fault)
  branches_names m no_branches = []
  branches_names m (more_branches e s bs) = expr_names m e ++ (stmt_names m s ++ branches_names m bs)

  pub cases_names : ℕ → Cases → List (Bool × Fault)
  cases_names m no_cases = []
  cases_names m (more_cases es s cs) = exprs_names m es ++ (stmt_names m s ++ cases_names m cs)

-- all names of a reading
abbrev pub attribute_names : ℕ → Attribute → List (Bool × Fault)
attribute_names m a = option_tests (expr_names m) a.value

abbrev pub spec_names : ℕ → Spec → List (Bool × Fault)
spec_names m (read h) = []
spec_names m (unit_read h es) = exprs_names m es
spec_names m (list_read span s n) = spec_names m s ++ option_tests (expr_names m) n
spec_names m (group_read span s l) = spec_names m s ++ all_tests (attribute_names m) l

-- a field whose name its unit has already, and all names in it
abbrev pub field_names : ℕ → Field → List (Bool × Fault)
field_names m f =
    (f.taken, at m rule_is.NameTwice f.span) ∷ (spec_names m f.spec ++ (all_tests (attribute_names m) f.attributes ++ (option_tests (expr_names m) f.condition ++ option_tests (expr_names m) f.sink)))

abbrev mutual
  pub part_names : ℕ → Part → List (Bool × Fault)
  part_names m (field f) = field_names m f
  part_names m (choice span subject rows) = option_tests (expr_names m) subject ++ arms_names m rows

  pub parts_names : ℕ → Parts → List (Bool × Fault)
  parts_names m no_parts = []
  parts_names m (more_parts p ps) = part_names m p ++ parts_names m ps

  pub arms_names : ℕ → Arms → List (Bool × Fault)
  arms_names m no_arms = []
  arms_names m (more_arms a ps rest) = all_tests (expr_names m) a.values ++ (parts_names m ps ++ arms_names m rest)

-- the names of a unit, apart from those of its parameters and of types
abbrev pub variable_names : ℕ → Variable → List (Bool × Fault)
variable_names m v = (v.taken, at m rule_is.NameTwice v.span) ∷ option_tests (expr_names m) v.value

abbrev pub sink_names : ℕ → Sink → List (Bool × Fault)
sink_names m s = (s.taken, at m rule_is.NameTwice s.span) ∷ []

abbrev pub order_names : OrderProperty → List (Bool × Fault)
order_names o = expr_names o.«module» o.value

abbrev pub unit_names : Unit → List (Bool × Fault)
unit_names u =
    all_tests order_names u.orders ++ (all_tests (variable_names u.«module») u.variables ++ (all_tests (sink_names u.«module») u.sinks ++ parts_names u.«module» (parts u.parts)))

-- A hook of no unit or field, or with parameters that its hook doesn't have; and the names in its body.
abbrev pub is_of_nothing : HookOf → Bool
is_of_nothing hook_is.Nothing = true
is_of_nothing _ = false

abbrev pub hook_names : Hook → List (Bool × Fault)
hook_names h =
    (is_of_nothing h.of || not h.fits, at h.«module» rule_is.UnknownHook h.span) ∷ (option_tests (expr_names h.«module») h.priority ++ stmt_names h.«module» h.body)

-- the names of other declarations
abbrev pub function_names : Function → List (Bool × Fault)
function_names f = stmt_names f.«module» f.body

abbrev pub constant_names : Constant → List (Bool × Fault)
constant_names c = expr_names c.«module» c.expr

abbrev pub label_names : ℕ → Label → List (Bool × Fault)
label_names m l = option_tests (expr_names m) l.expr

abbrev pub enum_names : Enum → List (Bool × Fault)
enum_names e = all_tests (label_names e.«module») e.labels

-- All names of a typed list.
abbrev pub list_names : Typed → List (Bool × Fault)
list_names t =
    all_tests order_names t.orders ++ (all_tests enum_names t.enums ++ (all_tests constant_names t.constants ++ (all_tests unit_names t.units ++ (all_tests function_names t.functions ++ all_tests hook_names t.hooks))))
