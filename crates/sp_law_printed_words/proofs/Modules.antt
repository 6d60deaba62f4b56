-- The canonical text of a module is the text of its words.
use Rattle.std.proofs.Common.{◌≡◌, None, refl, ap, ◌++◌}
use Rattle.sp_ast.specs.Trees.{Tree, Trees, none, more}
use Rattle.sp_print.specs.Canonical.{spelled, lines, canonical, declarations}
use Rattle.sp_print.specs.Page.{line}
use Rattle.sp_law_printed_words.specs.Modules.{lines_of, module_lines}
use Rattle.sp_law_printed_words.specs.Read.{text_of}

lines_same : (ts : Trees) → lines ts ≡ text_of (lines_of ts)
lines_same none = refl
lines_same (more t ts) = ap (λ text. line (spelled t None) ++ text) (lines_same ts)

pub module_same : (m : Tree) → canonical m ≡ text_of (module_lines m)
module_same m = ap (λ text. line (spelled m None) ++ text) (lines_same (declarations m))
