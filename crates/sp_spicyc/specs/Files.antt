-- What is printed of a list.
use Rattle.std.specs.Prelude.{ℕ, List, [], length, take, flat_map, if◌then◌else◌}
use Rattle.sp_ast.specs.Trees.{Tree}
use Rattle.sp_front.specs.declared.entries.ModuleFile.{ModuleFile}
use Rattle.sp_load.specs.Loads.{trees_of}
use Rattle.sp_print.specs.Canonical.{canonical}
use Rattle.sp_spicyc.specs.Words.{Words}

-- the canonical texts of the first modules of a list, so many of them
abbrev pub printed_first : ℕ → List Tree → List ℕ
printed_first n trees = flat_map canonical (take n trees)

-- what is printed of a list, if it is: the named files, which come first in it
abbrev pub printed : Words → List ModuleFile → List ℕ
printed words list = if words.print then printed_first (length words.files) (trees_of list) else []
