-- Each word of the canonical text of a module that was read stands where it may.
use Rattle.std.specs.List.{AllByRecursion}
use Rattle.std.proofs.Common.{None, subst}
use Rattle.sp_lex.specs.Lexed.{Lexed, IsLexed}
use Rattle.sp_ast.specs.Trees.{Tree, Trees, absent, row, node, none, more}
use Rattle.sp_read_unit.specs.Modules.{IsModuleTree}
use Rattle.sp_law_printed_words.specs.Modules.{module_lines}
use Rattle.sp_law_printed_words.specs.Sound.{IsSound, ArePlaced}
use Rattle.sp_law_printed_words.specs.Trees.{TellsOnly, TellOnly}
use Rattle.sp_law_printed_words.proofs.Placed.{module_placed}
use Rattle.sp_law_printed_words.proofs.Told.{told_sound}
use Rattle.sp_law_round_trip.specs.Bare.{bare, bares}
use Rattle.sp_law_round_trip.proofs.TextReadings.{goes_of_tree}
use Rattle.sp_law_round_trip.proofs.Placeless.{lines_same}
use Rattle.sp_law_round_trip.proofs.Tells.{module_tells}
use Rattle.sp_law_round_trip.proofs.FormedModules.{module_formed}
use Rattle.sp_law_round_trip.proofs.ToldWords.{told_words}

-- a tree apart from places tells what the tree tells
mutual
  tells_bare : (t : Tree) → TellsOnly IsSound t → TellsOnly IsSound (bare t)
  tells_bare absent tells = tt
  tells_bare (row ts) tells = tell_bare ts tells
  tells_bare (node form span ts) tells = (tells.0, tell_bare ts tells.1)

  tell_bare : (ts : Trees) → TellOnly IsSound ts → TellOnly IsSound (bares ts)
  tell_bare none tells = tt
  tell_bare (more t ts) tells = (tells_bare t tells.0, tell_bare ts tells.1)

-- each word of a module that was read stands where it may
pub words_placed : (lexed : Lexed) (m : Tree) → IsLexed lexed.text lexed.list → IsModuleTree lexed m → AllByRecursion (ArePlaced None) (module_lines m)
words_placed lexed m is read =
    let told = told_words lexed is in
    let formed = module_formed (bare m) (goes_of_tree lexed m told.0 told.1 read) in
    subst (AllByRecursion (ArePlaced None)) (lines_same m) (module_placed (bare m) (tells_bare m (module_tells IsSound (λ kind fixed. fixed) lexed m (told_sound lexed.text lexed.list is) read)) formed)
