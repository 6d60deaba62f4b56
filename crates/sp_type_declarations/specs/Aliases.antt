-- The aliases of the typed list: the declarations of types that are neither units nor enums.
use Rattle.std.specs.Prelude.{ℕ, suc, Bool, true, false, not, is_some, List, [], ◌∷◌, ◌++◌, Option}
use Rattle.sp_ast.specs.Trees.{Tree}
use Rattle.sp_types.specs.Types.{Ty}
use Rattle.sp_typed_units.specs.declared.declarations.Alias.{Alias}
use Rattle.sp_names.specs.declared.rows.Declaration.{Declaration}
use Rattle.sp_names.specs.declared.sort.DeclSort.{DeclSort}
use Rattle.sp_names.specs.declared.sort.DeclSort.TheVariants as sort_is
use Rattle.sp_names.specs.Declarations.{rows, sort_of, type_tree_of}
use Rattle.sp_type_context.specs.declared.places.Place.TheVariants.{Whole}
use Rattle.sp_type_modules.specs.Written.{written_in}

abbrev pub is_alias : DeclSort → Bool
is_alias sort_is.Alias = true
is_alias _ = false

module _ (list : List Tree) (f : ℕ → Option Ty) where
  -- the alias of a number in a module: what is written, and whether it has no answer, so that it is made of itself
  abbrev pub alias : ℕ → ℕ → Tree → Alias
  alias g m t =
      record { «module» = m; written = written_in list f m Whole t; endless = not (is_some (f g)) }

  abbrev pub if_alias : ℕ → ℕ → Tree → Bool → List Alias
  if_alias g m t true = alias g m t ∷ []
  if_alias g m t false = []

  -- those of a row of declarations, of which the first has the number g
  abbrev pub aliases_from : ℕ → List Declaration → List Alias
  aliases_from g [] = []
  aliases_from g (d ∷ ds) = if_alias g d.«module» (type_tree_of d.tree) (is_alias (sort_of d.tree)) ++ aliases_from (suc g) ds

  -- All aliases, under the answers of type declarations: module by module, each in the order of its text.
  abbrev pub aliases : List Alias
  aliases = aliases_from 0 (rows list)
