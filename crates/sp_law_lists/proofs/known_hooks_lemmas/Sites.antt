-- The places of hooks in a module in which each alternative has its parts: so has each hook and each field that stands there.
use Rattle.std.proofs.Common.{ℕ, List, Option}
use Rattle.sp_ast.specs.Trees.{Tree}
use Rattle.sp_types.specs.Types.{Ty}
use Rattle.sp_type_hook_rows.specs.declared.sites.Site.{Site}
use Rattle.sp_type_hook_rows.specs.Sites.{sites_of}
use Rattle.sp_law_lists.specs.known_constants.Fine.{IsFine, AreFine}
use Rattle.sp_law_lists.proofs.known_constants_lemmas.Declarations.{AllOf, fine_passes}
use Rattle.sp_law_lists.proofs.known_hooks_lemmas.Walks.{tree_at, places_pass}

module _ (list : List Tree) (f : ℕ → Option Ty) where
  abbrev pub SiteFine : Site → Type 0
  SiteFine s = IsFine list f s.«module» (tree_at s.holder)

  pub places_fine : (m n : ℕ) (x : Tree) → IsFine list f m x → AllOf SiteFine (sites_of m n x)
  places_fine m n x h = places_pass (IsFine list f) (AreFine list f) (fine_passes list f) m n x h
