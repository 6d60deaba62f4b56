-- The canonical text of a module that was read reads as the same module, apart from places. How this is proved:
--
-- Apart from places, what actions build of a text is of what its tokens tell (Held, Machine). So a reading is one of words
-- (Goes), and the readings of a text are those of the words that its tokens tell (TextReadings, ToldWords).
-- Of each part of the grammar a claim is made: what it built is read again from its own words (Shown). In a trace each part
-- has its claim in place of its reading (Steps). Each production has the claim if it has such a trace (Productions). This is shown
-- - by a test, which finds by its symbols how its trees are written (Chunks, Advance): as the layout of the alternative says
--   (Laid), and from these words the actions do the same (Closing, Piles, Moves, Sound, Tested); or
-- - one by one, where the canonical text has other tokens, or parentheses (SpecialAlternatives, and what it cites).
-- The words of a module don't look at places (Placeless). Each is as some token told it (Tells), and stands where it may, for
-- what is read is formed (FormedTrees, FormedModules, PlacedWords). So the tokens of the canonical text tell these words.
use Rattle.std.proofs.Common.{◌≡◌, ◌≤◌, List, [], length, map, true, ap, ◌∙◌, subst}
use Rattle.sp_base.specs.declared.kinds.MKind.{MKind}
use Rattle.sp_base.specs.declared.kinds.MKind.TheVariants as module_kind
use Rattle.sp_base.specs.declared.places.Span.{Span}
use Rattle.sp_lex.specs.declared.tokens.Token.{Token}
use Rattle.sp_lex.specs.Faults.{IsFault, most_bytes}
use Rattle.sp_lex.specs.Lexed.{Lexed, IsLexed}
use Rattle.sp_lex.proofs.Faultless.{has_tokens}
use Rattle.sp_grammar.specs.declared.language.Start.TheVariants.{Module}
use Rattle.sp_ast.specs.Trees.{Tree}
use Rattle.sp_ast.specs.Groups.{is_of}
use Rattle.sp_build.specs.Starting.{group_of}
use Rattle.sp_print.specs.Canonical.{canonical}
use Rattle.sp_read_unit.specs.Modules.{IsModuleTree}
use Rattle.sp_law_printed_words.specs.Modules.{module_lines}
use Rattle.sp_law_printed_words.specs.Sound.{AreSound, HasNoZero, IsSound}
use Rattle.sp_law_printed_words.proofs.Faultless.{no_other_fault}
use Rattle.sp_law_printed_words.proofs.Lines.{tokens_in, lines_read}
use Rattle.sp_law_printed_words.proofs.Modules.{module_same}
use Rattle.sp_law_printed_words.proofs.Told.{told_no_zero, told_sound}
use Rattle.sp_law_printed_words.proofs.Trees.{module_holds}
use Rattle.sp_law_round_trip.specs.Bare.{bare}
use Rattle.sp_law_round_trip.specs.ReadAs.{IsReadAs, IsTooDeep}
use Rattle.sp_law_round_trip.specs.Told.{told}
use Rattle.sp_law_round_trip.proofs.TextReadings.{ReadsModule, goes_of_tree, tree_of_goes}
use Rattle.sp_law_round_trip.proofs.Goes.{telling_of, before}
use Rattle.sp_law_round_trip.proofs.Machine.{of_bare}
use Rattle.sp_law_round_trip.proofs.Shown.{flat}
use Rattle.sp_law_round_trip.proofs.Placeless.{lines_same}
use Rattle.sp_law_round_trip.proofs.Tells.{module_tells}
use Rattle.sp_law_round_trip.proofs.PlacedWords.{words_placed}
use Rattle.sp_law_round_trip.proofs.Productions.{again}
use Rattle.sp_law_round_trip.proofs.ToldWords.{told_words, lines_told}

-- each word of a module that was read can be read again, where it stands
pub lines_sound : (lexed : Lexed) (m : Tree) → IsLexed lexed.text lexed.list → IsModuleTree lexed m → AreSound (module_lines m)
lines_sound lexed m is read =
    record { words = module_holds IsSound (λ kind fixed. fixed) m (module_tells IsSound (λ kind fixed. fixed) lexed m (told_sound lexed.text lexed.list is) read); places = words_placed lexed m is read }

-- the tokens of the canonical text tell the words of the module
pub canonical_told : (m : Tree) → AreSound (module_lines m) → (tokens : List Token) → IsLexed (canonical m) tokens → told (record { text = canonical m; list = tokens }) ≡ map telling_of (flat (module_lines m))
canonical_told m sound tokens lexed =
    let lines = module_lines m in
    ap (λ bytes. told (record { text = bytes; list = tokens })) (module_same m)
    ∙ lines_told lines (tokens_in 0 lines) tokens sound.words (lines_read lines sound) (subst (λ bytes. IsLexed bytes tokens) (module_same m) lexed)

-- The canonical text of a module that was read reads as the same module, apart from places.
pub reads_back : (lexed : Lexed) (m : Tree) → IsLexed lexed.text lexed.list → IsModuleTree lexed m
    → (tokens : List Token) → IsLexed (canonical m) tokens → (u : Tree) × IsModuleTree (record { text = canonical m; list = tokens }) u × (bare u ≡ bare m)
reads_back lexed m is read tokens lexed_again =
    let (ws, tell) = told_words lexed is in
    let (actions, derived, built, kind) = read in
    let kind_bare : is_of (group_of Module) (bare m) ≡ true = of_bare (group_of Module) m ∙ kind in
    let anew = again (before ws []) (bare m) (goes_of_tree lexed m ws tell read) in
    tree_of_goes (record { text = canonical m; list = tokens }) (flat (module_lines m)) (bare m) (canonical_told m (lines_sound lexed m is read) tokens lexed_again)
    (subst (λ lines. ReadsModule (before (flat lines) []) (bare m)) (lines_same m) anew) kind_bare

-- Nothing is wrong with it but that it may be nested too deep.
pub only_too_deep : (lexed : Lexed) (m : Tree) → IsLexed lexed.text lexed.list → IsModuleTree lexed m
    → length (canonical m) ≤ most_bytes → (span : Span) (kind : MKind) → IsFault (canonical m) span kind → kind ≡ module_kind.TooDeep
only_too_deep lexed m is read small span kind fault =
    let lines = module_lines m in
    no_other_fault lines (lines_sound lexed m is read) (module_holds HasNoZero (λ kind fixed. tt) m (module_tells HasNoZero (λ kind fixed. tt) lexed m (told_no_zero lexed.text lexed.list is) read)) (subst (λ bytes. length bytes ≤ most_bytes) (module_same m) small) span kind (subst (λ bytes. IsFault bytes span kind) (module_same m) fault)

-- It has tokens where it is not too large and not nested too deep, and they are the same module.
pub reads_whole : (lexed : Lexed) (m : Tree) → IsLexed lexed.text lexed.list → IsModuleTree lexed m
    → length (canonical m) ≤ most_bytes → ¬ IsTooDeep (canonical m) → (u : Tree) × IsReadAs (canonical m) u × (bare u ≡ bare m)
reads_whole lexed m is read small shallow =
    let faultless : (span : Span) (kind : MKind) → ¬ IsFault (canonical m) span kind =
    λ span kind fault. shallow (span, subst (λ k. IsFault (canonical m) span k) (only_too_deep lexed m is read small span kind fault) fault) in
    let (tokens, lexed_again) = has_tokens (canonical m) faultless in
    let (u, read_again, same) = reads_back lexed m is read tokens lexed_again in
    (u, (tokens, lexed_again, read_again, faultless), same)
