-- Trees of a module in which each alternative has its parts, each name in a type names something, and each bitfield is one of the
-- module's.
use Rattle.std.specs.Prelude.{ℕ, Bool, List, Option, is_some, IsTrue}
use Rattle.std.specs.List.{list_all}
use Rattle.sp_ast.specs.Trees.{Tree, Trees, span_of}
use Rattle.sp_ast.specs.Slots.{is_formed, are_formed}
use Rattle.sp_types.specs.Types.{Ty}
use Rattle.sp_names.specs.Types.{bitfields_in, bitfields_among, bitfield_number}
use Rattle.sp_names.specs.Faults.{faults_in, faults_among}
use Rattle.sp_law_lists.specs.known_types.Clear.{none_hold}

module _ (list : List Tree) (f : ℕ → Option Ty) (m : ℕ) where
  -- the type of a bitfield that is found where it begins
  abbrev pub is_found : Tree → Bool
  is_found t = is_some (bitfield_number list m (span_of t).from)

  abbrev pub IsFine : Tree → Type 0
  IsFine t = IsTrue (is_formed t) × IsTrue (none_hold (faults_in list f m t)) × IsTrue (list_all is_found (bitfields_in t))

  abbrev pub AreFine : Trees → Type 0
  AreFine ts = IsTrue (are_formed ts) × IsTrue (none_hold (faults_among list f m ts)) × IsTrue (list_all is_found (bitfields_among ts))
