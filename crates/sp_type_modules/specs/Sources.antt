-- What gives each member of a unit its type.
use Rattle.std.specs.Prelude.{ℕ, zero, suc, Bool, not, if◌then◌else◌, List, [], ◌∷◌, ◌++◌, length, filter, Option, Some, None}
use Rattle.std.specs.Str.{bytes_eq}
use Rattle.sp_ast.specs.Trees.{Tree, Trees, absent, row, node, none, more}
use Rattle.sp_ast.specs.declared.forms.Form.TheVariants as form_is
use Rattle.sp_ast.specs.declared.forms.ItemForm.TheVariants as item_is
use Rattle.sp_ast.specs.declared.forms.PartForm.TheVariants as part_is
use Rattle.sp_ast.specs.declared.forms.BodyForm.TheVariants as body_is
use Rattle.sp_names.specs.declared.sort.DeclSort.TheVariants as sort_is
use Rattle.sp_names.specs.Declarations.{name_of, all_of}
use Rattle.sp_typed_units.specs.declared.declarations.MemberKind.{MemberKind}
use Rattle.sp_typed_units.specs.declared.declarations.MemberKind.TheVariants as kind_is
use Rattle.sp_type_modules.specs.Members.{UnitMember, unit_items, declared_unit, unit_declaration, first_member}
use Rattle.sp_type_modules.specs.declared.sources.Source.{Source}
use Rattle.sp_type_modules.specs.declared.sources.Source.TheVariants as source_is
use Rattle.sp_type_modules.specs.declared.sources.Question.{Question}

-- a variable, a sink or a field of a unit, by its name
pub record Named : Type 0 where
  pub name : List ℕ
  pub source : Source

abbrev pub named_as : List ℕ → Source → List Named
named_as name source = record { name = name; source = source } ∷ []

-- a field, if it has a name
abbrev pub field_named : Tree → List Named
field_named (node form_is.Field span (more (node (form_is.Name x) s us) ts)) =
    named_as x (source_is.Field (node form_is.Field span (more (node (form_is.Name x) s us) ts)))
field_named _ = []

-- what stands behind the name of a variable first: its type
abbrev pub first_tree : Trees → Tree
first_tree (more t ts) = t
first_tree none = absent

-- What is named in items and parts of a unit, in the order of the text: variables, sinks and fields, also those in the arms of
-- switches.
abbrev mutual
  pub declared_in : Tree → List Named
  declared_in (node (form_is.Item item_is.Variable) span (more name ts)) = named_as (name_of name) (source_is.Variable (first_tree ts))
  declared_in (node (form_is.Item item_is.Sink) span (more name ts)) = named_as (name_of name) source_is.Sink
  declared_in (node (form_is.Item item_is.Part) span (more part ts)) = declared_in part
  declared_in (node (form_is.Part part_is.Field) span (more field ts)) = field_named field
  declared_in (node (form_is.Part part_is.Switch) span (more subject (more (row arms) ts))) = declared_among arms
  declared_in (node form_is.Arm span (more guard (more body ts))) = declared_in body
  declared_in (node (form_is.Body body_is.One) span ts) = declared_among ts
  declared_in (node (form_is.Body body_is.Many) span ts) = declared_among ts
  declared_in _ = []

  pub declared_among : Trees → List Named
  declared_among none = []
  declared_among (more t ts) = declared_in t ++ declared_among ts

-- the first of each name counts
abbrev pub has_name : List ℕ → Named → Bool
has_name x d = bytes_eq x d.name

abbrev pub firsts : List Named → List Named
firsts [] = []
firsts (d ∷ ds) = d ∷ filter (λ e. not (has_name e.name d)) (firsts ds)

abbrev pub sources_of : List Named → List Source
sources_of [] = []
sources_of (d ∷ ds) = d.source ∷ sources_of ds

-- What gives the members of a unit their types, member after member.
abbrev pub unit_sources : Tree → List Source
unit_sources unit = sources_of (firsts (declared_among (unit_items unit)))

-- the members of a unit of this number as questions: what is the type of what is stored there?
abbrev pub asked : ℕ → List Source → List Question
asked n [] = []
asked n (s ∷ ss) = record { unit = n; source = s } ∷ asked n ss

-- The questions of the first units of a list, and of all: the members of all units in one row, unit after unit.
abbrev pub questions_of : List Tree → ℕ → List Question
questions_of list n = asked n (unit_sources (declared_unit (unit_declaration list n)))

abbrev pub questions_before : List Tree → ℕ → List Question
questions_before list zero = []
questions_before list (suc n) = questions_before list n ++ questions_of list n

abbrev pub units : List Tree → ℕ
units list = length (all_of sort_is.Unit list)

-- where the members of the first units begin
abbrev pub firsts_before : List Tree → ℕ → List ℕ
firsts_before list zero = []
firsts_before list (suc n) = firsts_before list n ++ first_member list n ∷ []

abbrev pub questions : List Tree → List Question
questions list = questions_before list (units list)

-- the number of the first of a name
abbrev pub numbered : List ℕ → ℕ → List Named → Option ℕ
numbered x k [] = None
numbered x k (d ∷ ds) = if has_name x d then Some k else numbered x (suc k) ds

-- what is declared, as members
abbrev pub kind_of : Source → MemberKind
kind_of (source_is.Variable t) = kind_is.Variable
kind_of source_is.Sink = kind_is.Sink
kind_of (source_is.Field t) = kind_is.Field

abbrev pub member_of : Named → UnitMember
member_of d = record { name = d.name; kind = kind_of d.source }

abbrev pub members : List Named → List UnitMember
members [] = []
members (d ∷ ds) = member_of d ∷ members ds
