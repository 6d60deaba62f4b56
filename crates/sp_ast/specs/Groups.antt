-- The groups of alternatives that can stand in one another's place, and what may stand where a part is wanted.
use Rattle.sp_ast.specs.declared.groups.Group.{Group}
use Rattle.sp_ast.specs.declared.groups.Group.TheVariants.{Names as names, Strings as strings, Numbers as numbers, HookNames as hook_names, Paths as paths, Expressions as expressions, Pairs as pairs, Types as types, Labels as labels, Ranges as ranges, Parameters as parameters, Statements as statements, Blocks as blocks, Branches as branches, Cases as cases, Items as items, Targets as targets, Parts as parts, Arms as arms, Guards as guards, Bodies as bodies, Bases as bases, Counts as counts, Attributes as attributes, Hooks as hooks, HookBodies as hook_bodies, Units as units, Fields as fields, Declarations as declarations, Modules as modules}
use Rattle.sp_ast.specs.declared.groups.Sort.{Sort}
use Rattle.sp_ast.specs.declared.groups.Sort.TheVariants.{One as one, Optional as optional, Rows as rows}
use Rattle.sp_ast.specs.declared.forms.Form.{Form}
use Rattle.sp_ast.specs.declared.forms.Form.TheVariants as form_is
use Rattle.std.specs.Prelude.{ℕ, Bool, true, false, ◌==◌, ◌&&◌, Option, Some, None}
use Rattle.sp_ast.specs.Trees.{Tree, Trees, node, absent, row, none, more}

abbrev pub group_number : Group → ℕ
group_number names = 0
group_number strings = 1
group_number numbers = 2
group_number hook_names = 3
group_number paths = 4
group_number expressions = 5
group_number pairs = 6
group_number types = 7
group_number labels = 8
group_number ranges = 9
group_number parameters = 10
group_number statements = 11
group_number blocks = 12
group_number branches = 13
group_number cases = 14
group_number items = 15
group_number targets = 16
group_number parts = 17
group_number arms = 18
group_number guards = 19
group_number bodies = 20
group_number bases = 21
group_number counts = 22
group_number attributes = 23
group_number hooks = 24
group_number hook_bodies = 25
group_number declarations = 28
group_number modules = 29
group_number units = 26
group_number fields = 27

abbrev pub same_group : Group → Group → Bool
same_group g h = group_number g == group_number h

-- the group of an alternative
abbrev pub group : Form → Group
group (form_is.Name _) = names
group (form_is.String _) = strings
group (form_is.Number _) = numbers
group (form_is.HookName _) = hook_names
group form_is.Path = paths
group (form_is.Expr _) = expressions
group form_is.Pair = pairs
group (form_is.Type _) = types
group form_is.Label = labels
group form_is.Bits = ranges
group (form_is.Parameter _) = parameters
group (form_is.Stmt _) = statements
group form_is.Block = blocks
group form_is.Branch = branches
group form_is.Case = cases
group (form_is.Item _) = items
group (form_is.Target _) = targets
group (form_is.Part _) = parts
group form_is.Arm = arms
group (form_is.Guard _) = guards
group (form_is.Body _) = bodies
group (form_is.Base _) = bases
group form_is.Count = counts
group (form_is.Attribute _) = attributes
group form_is.Hook = hooks
group (form_is.HookBody _) = hook_bodies
group form_is.Unit = units
group form_is.Field = fields
group (form_is.Decl _) = declarations
group form_is.Module = modules

-- the group of a tree, unless it is left out or a row
abbrev pub tree_group : Tree → Option Group
tree_group (node form span ts) = Some (group form)
tree_group absent = None
tree_group (row ts) = None

abbrev pub is_in : Group → Option Group → Bool
is_in g None = false
is_in g (Some h) = same_group g h

abbrev pub is_of : Group → Tree → Bool
is_of g t = is_in g (tree_group t)

abbrev pub are_of : Group → Trees → Bool
are_of g none = true
are_of g (more t ts) = is_of g t && are_of g ts

-- whether a tree may stand there
abbrev pub fits : Sort → Tree → Bool
fits (one g) t = is_of g t
fits (optional g) absent = true
fits (optional g) t = is_of g t
fits (rows g) (row ts) = are_of g ts
fits (rows g) t = false

-- a tree that is neither left out nor a row
abbrev pub is_node : Tree → Bool
is_node (node form span ts) = true
is_node absent = false
is_node (row ts) = false
