use Rattle.std.proofs.Common.{◌≡◌, ℕ, List, drop}
use Rattle.sp_front.specs.Imports.{paths_of}
use Rattle.sp_front.specs.Lists.{IsFirst, IsNone}
use Rattle.sp_front.specs.inside.Asking.{Searching}
use Rattle.sp_front.proofs.paths.find.Given as goal

abbrev pub invariant-loop-directory : goal.invariant-loop-directory
invariant-loop-directory g l = record {
  first : (path text : List ℕ) → IsFirst (g.M.Modules.files l.fn.modules) (paths_of (drop l.directory-index l.directories) l.name) path text → IsFirst (g.M.Modules.files l.fn.modules) (paths_of l.directories l.name) path text;
  none : IsNone (g.M.Modules.files l.fn.modules) (paths_of (drop l.directory-index l.directories) l.name) → IsNone (g.M.Modules.files l.fn.modules) (paths_of l.directories l.name);
  asks : Searching (g.M.Modules.files l.fn.modules) (g.M.Modules.asked l.fn.modules) (g.M.Modules.asked l.modules) (paths_of l.directories l.name) (paths_of (drop l.directory-index l.directories) l.name);
  files : g.M.Modules.files l.modules ≡ g.M.Modules.files l.fn.modules;
  quiet : g.M.Modules.faults l.modules ≡ g.M.Modules.faults l.fn.modules;
}
