-- The conversions that a typed list tells as made of themselves, by the fields at its sites.
use Rattle.std.specs.Prelude.{ℕ, ◌≡◌, List, Option, Some, None}
use Rattle.sp_base.specs.declared.places.Span.{Span}
use Rattle.sp_ast.specs.Trees.{Tree}
use Rattle.sp_solver.specs.Rows.{Among}
use Rattle.sp_solver.specs.Told.{told}
use Rattle.sp_types.specs.Types.{Ty}
use Rattle.sp_typed_units.specs.declared.declarations.EndlessConversion.{EndlessConversion}
use Rattle.sp_type_context.specs.Contexts.{Around}
use Rattle.sp_type_fields.specs.Values.{Values}
use Rattle.sp_type_members.specs.Tries.{AreStored}
use Rattle.sp_type_hook_rows.specs.declared.sites.Holder.{Holder}
use Rattle.sp_type_hook_rows.specs.declared.sites.Holder.TheVariants as holder_is
use Rattle.sp_type_hook_rows.specs.declared.sites.Site.{Site}
use Rattle.sp_type_declarations.specs.Conversions.{endless}
use Rattle.sp_law_rules.specs.Conversions.{Conversion, UnitField, conversions_of, IsEndless}

-- the field at a site, if one stands there
abbrev pub held_field : ℕ → Holder → Option UnitField
held_field n (holder_is.Field t) = Some (record { unit = n; tree = t })
held_field n _ = None

abbrev pub field_at : Site → Option UnitField
field_at s = held_field s.unit s.holder

-- What is told is the place of a conversion of a field at one of these sites, in its module, and conversions lead from that field to one
-- that is made of itself.
abbrev pub ToldAreEndless : Type 0
ToldAreEndless =
    (list : List Tree) (contexts : List Around) (v : Values) (types : List (Option Ty)) → AreStored list contexts v types →
    (ss : List Site) (c : EndlessConversion) → Among (endless list contexts v types ss) c →
    (s : Site) × Among ss s × (x : UnitField) × (field_at s ≡ Some x) × (c.«module» ≡ s.«module»)
    × (d : Conversion) × Among (conversions_of list contexts v (told types) x) d × (d.place ≡ c.span)
    × IsEndless list contexts v (told types) x

-- And of each field at one of these sites from which they lead to one that is made of itself, a conversion is told.
abbrev pub EndlessAreTold : Type 0
EndlessAreTold =
    (list : List Tree) (contexts : List Around) (v : Values) (types : List (Option Ty)) → AreStored list contexts v types →
    (ss : List Site) (s : Site) (x : UnitField) → Among ss s → field_at s ≡ Some x → IsEndless list contexts v (told types) x →
    (at : Span) × Among (endless list contexts v types ss) (record { «module» = s.«module»; span = at })
