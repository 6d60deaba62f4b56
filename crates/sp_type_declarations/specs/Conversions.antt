-- The conversions of the typed list that are made of themselves: those of all fields, wherever these stand in their units.
use Rattle.std.specs.Prelude.{ℕ, List, [], ◌∷◌, ◌++◌, Option, Some, None}
use Rattle.sp_base.specs.declared.places.Span.{Span}
use Rattle.sp_ast.specs.Trees.{Tree}
use Rattle.sp_types.specs.Types.{Ty}
use Rattle.sp_type_context.specs.Contexts.{Around}
use Rattle.sp_type_fields.specs.Values.{Values}
use Rattle.sp_typed_units.specs.declared.declarations.EndlessConversion.{EndlessConversion}
use Rattle.sp_type_hook_rows.specs.declared.sites.Holder.{Holder}
use Rattle.sp_type_hook_rows.specs.declared.sites.Holder.TheVariants as holder_is
use Rattle.sp_type_hook_rows.specs.declared.sites.Site.{Site}
use Rattle.sp_type_members.specs.Endless.{place_of}

abbrev pub endless_row : ℕ → Option Span → List EndlessConversion
endless_row m None = []
endless_row m (Some span) = record { «module» = m; span = span } ∷ []

module _ (list : List Tree) (contexts : List Around) (v : Values) (types : List (Option Ty)) where
  -- that of a field in a unit of a module
  abbrev pub held_conversion : ℕ → ℕ → Holder → List EndlessConversion
  held_conversion m n (holder_is.Field t) = endless_row m (place_of list contexts v types n t)
  held_conversion m n _ = []

  abbrev pub site_conversion : Site → List EndlessConversion
  site_conversion s = held_conversion s.«module» s.unit s.holder

  -- Where these are the types of the members of all units, those of the fields at these sites, in their order.
  abbrev pub endless : List Site → List EndlessConversion
  endless [] = []
  endless (s ∷ ss) = site_conversion s ++ endless ss
