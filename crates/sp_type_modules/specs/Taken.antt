-- Which names of a unit come twice.
use Rattle.std.specs.Prelude.{ℕ, ◌==◌, Bool, true, false, not, ◌&&◌, ◌||◌, List, [], ◌∷◌, ◌++◌, Option, Some, None}
use Rattle.sp_base.specs.declared.places.Span.{Span}
use Rattle.sp_ast.specs.Trees.{Tree, Trees, row, node, none, more}
use Rattle.sp_ast.specs.Trees as read
use Rattle.sp_ast.specs.declared.forms.Form.TheVariants as form_is
use Rattle.sp_ast.specs.declared.forms.ItemForm.TheVariants as item_is
use Rattle.sp_ast.specs.declared.forms.PartForm.TheVariants as part_is
use Rattle.sp_ast.specs.declared.forms.BodyForm.TheVariants as body_is
use Rattle.sp_types.specs.Types.{Ty, is_known, same}
use Rattle.sp_names.specs.Declarations.{name_of}
use Rattle.sp_type_modules.specs.Members.{unit_items}
use Rattle.sp_type_modules.specs.Heads.{unit_parameters}
use Rattle.sp_type_modules.specs.declared.sources.Source.{Source}
use Rattle.sp_type_modules.specs.declared.sources.Source.TheVariants as source_is
use Rattle.sp_type_modules.specs.Sources.{Named, declared_in, declared_among, firsts, numbered}

-- a field, by the number of its member and the type of what it stores
pub record Kept : Type 0 where
  pub member : ℕ
  pub ty : Ty

abbrev pub has : ℕ → List ℕ → Bool
has k [] = false
has k (j ∷ js) = j == k || has k js

-- two types that are known and not the same
abbrev pub differ : Ty → Ty → Bool
differ s t = is_known s && (is_known t && not (same s t))

-- whether some field of a member is of another type
abbrev pub differs : ℕ → Ty → List Kept → Bool
differs k t [] = false
differs k t (s ∷ ss) = (s.member == k && differ s.ty t) || differs k t ss

abbrev pub same_place : Span → Span → Bool
same_place a b = a.from == b.from && a.to == b.to

abbrev pub has_place : Span → List Span → Bool
has_place at [] = false
has_place at (p ∷ ps) = same_place p at || has_place at ps

abbrev pub with_number : Option ℕ → List ℕ → List ℕ
with_number None ks = ks
with_number (Some k) ks = k ∷ ks

abbrev pub with_kept : Option ℕ → Ty → List Kept → List Kept
with_kept None t ss = ss
with_kept (Some k) t ss = record { member = k; ty = t } ∷ ss

abbrev pub has_number : Option ℕ → List ℕ → Bool
has_number None near = false
has_number (Some k) near = has k near

abbrev pub number_differs : Option ℕ → Ty → List Kept → Bool
number_differs None t kept = false
number_differs (Some k) t kept = differs k t kept

abbrev pub place_if : Bool → Span → List Span
place_if true at = at ∷ []
place_if false at = []

-- the number of the member of a name, among those of a unit, and the type of what a field stores
module _ (number : List ℕ → Option ℕ) (type_at : Tree → Ty) where
  -- the members that are named
  abbrev pub numbers_of : List Named → List ℕ
  numbers_of [] = []
  numbers_of (d ∷ ds) = with_number (number d.name) (numbers_of ds)

  -- the fields among them
  abbrev pub kept_as : Option ℕ → Source → List Kept → List Kept
  kept_as k (source_is.Field t) ss = with_kept k (type_at t) ss
  kept_as k _ ss = ss

  abbrev pub kept_of : List Named → List Kept
  kept_of [] = []
  kept_of (d ∷ ds) = kept_as (number d.name) d.source (kept_of ds)

  -- A field whose name was named before, other than in another arm of a switch that holds both; or that comes again in such an
  -- arm with another type.
  abbrev pub field_taken : List ℕ → List Kept → Tree → List Span
  field_taken near kept (node form_is.Field span (more (node (form_is.Name x) s us) ts)) =
      place_if (has_number (number x) near || number_differs (number x) (type_at (node form_is.Field span (more (node (form_is.Name x) s us) ts))) kept) s
  field_taken near kept _ = []

  abbrev pub name_taken : List ℕ → Tree → List Span
  name_taken near name = place_if (has_number (number (name_of name)) near) (read.span_of name)

  -- The places of the names that come twice. `near` are the members that were named before, other than in another arm of a
  -- switch round the place, and `kept` all fields before it.
  abbrev mutual
    pub taken_in : List ℕ → List Kept → Tree → List Span
    taken_in near kept (node (form_is.Item item_is.Variable) span (more name ts)) = name_taken near name
    taken_in near kept (node (form_is.Item item_is.Sink) span (more name ts)) = name_taken near name
    taken_in near kept (node (form_is.Item item_is.Part) span (more part ts)) = taken_in near kept part
    taken_in near kept (node (form_is.Part part_is.Field) span (more field ts)) = field_taken near kept field
    taken_in near kept (node (form_is.Part part_is.Switch) span (more subject (more (row arms) ts))) = taken_arms near kept arms
    taken_in near kept (node form_is.Arm span (more guard (more body ts))) = taken_in near kept body
    taken_in near kept (node (form_is.Body body_is.One) span ts) = taken_among near kept ts
    taken_in near kept (node (form_is.Body body_is.Many) span ts) = taken_among near kept ts
    taken_in near kept _ = []

    pub taken_among : List ℕ → List Kept → Trees → List Span
    taken_among near kept none = []
    taken_among near kept (more t ts) =
        taken_in near kept t ++ taken_among (near ++ numbers_of (declared_in t)) (kept ++ kept_of (declared_in t)) ts

    pub taken_arms : List ℕ → List Kept → Trees → List Span
    taken_arms near kept none = []
    taken_arms near kept (more t ts) = taken_in near kept t ++ taken_arms near (kept ++ kept_of (declared_in t)) ts

-- the parameters of a unit are named before its members
abbrev pub parameter_name : Tree → List ℕ
parameter_name (node (form_is.Parameter _) span (more name ts)) = name_of name
parameter_name _ = []

abbrev pub parameter_numbers : (List ℕ → Option ℕ) → List Tree → List ℕ
parameter_numbers number [] = []
parameter_numbers number (p ∷ ps) = with_number (number (parameter_name p)) (parameter_numbers number ps)

abbrev pub member_number : Tree → List ℕ → Option ℕ
member_number unit x = numbered x 0 (firsts (declared_among (unit_items unit)))

-- The places of the names of a unit that come twice, where fields store these types.
abbrev pub taken_places : (Tree → Ty) → Tree → List Span
taken_places type_at unit =
    taken_among (member_number unit) type_at (parameter_numbers (member_number unit) (unit_parameters unit)) [] (unit_items unit)
