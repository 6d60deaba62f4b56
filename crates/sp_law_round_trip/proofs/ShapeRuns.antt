-- What a production has read, as shapes since each tree began; and the test that each action closes what is written as the
-- layout of its alternative, and that what is left is written as its part.
use Rattle.std.specs.Prelude.{length, not, ◌&&◌, ◌||◌, ◌<◌, if◌then◌else◌}
use Rattle.std.proofs.Common.{◌≡◌, ℕ, suc, List, [], ◌∷◌, ◌++◌, reverse, Bool, true, false, ◌==◌, Option, Some, None, refl, sym, ◌∙◌, inl, inr}
use Rattle.std.proofs.lemmas.Bool.{not-true, or_cases}
use Rattle.sp_words.specs.declared.keywords.Keyword.TheVariants as keyword
use Rattle.sp_words.specs.declared.punctuation.Punctuation.TheVariants as sign
use Rattle.sp_lex.specs.declared.kinds.TokenKind.TheVariants as token
use Rattle.sp_parser.specs.declared.symbol.Symbol.{Symbol}
use Rattle.sp_parser.specs.declared.symbol.Symbol.TheVariants as symbol
use Rattle.sp_parser.specs.Grammar.{Take, right, takes, Nothing, CLOSE, SECOND, productions_of}
use Rattle.sp_grammar.specs.declared.actions.Action.{Action}
use Rattle.sp_grammar.specs.Actions.{action_with}
use Rattle.sp_grammar.specs.Own.{own}
use Rattle.sp_grammar.specs.Terminals.{terminal_number}
use Rattle.sp_grammar.specs.declared.terminals.Terminal.TheVariants as terminal
use Rattle.sp_grammar.specs.Written.{Part, part_number}
use Rattle.sp_grammar.proofs.Spans.{below}
use Rattle.sp_words.specs.declared.words.AttributeName.TheVariants as attribute_name
use Rattle.sp_words.specs.declared.words.IntWord.TheVariants as integer
use Rattle.sp_ast.specs.declared.groups.Slot.{Slot}
use Rattle.sp_ast.specs.declared.groups.Slot.TheVariants as slot
use Rattle.sp_build.specs.Rules.{always, Rule, begins, leaves_out, takes as takes_leaf, gathers, closes, closes_integer, closes_attribute, encloses, joins, wraps, rule}
use Rattle.sp_print.specs.declared.layouts.Separator.TheVariants as separator
use Rattle.sp_print.specs.declared.layouts.Frame.TheVariants as frame
use Rattle.sp_print.specs.Words.{Word, fixed}
use Rattle.sp_law_round_trip.proofs.HeardWords.{fixed_words}
use Rattle.sp_law_round_trip.proofs.Productions.{is_other, test_at}
use Rattle.sp_law_round_trip.proofs.Shapes.{Shape, word, tree, one, optional, left_out, listed, some, followed, in_row, words, quiet, unframed, shapes_of, rest_shapes, covers, no_shapes, are_ordered}
use Rattle.sp_law_round_trip.proofs.Shown.{Yield, one as yields_one, optional as yields_optional, left_out as yields_absent, listed as yields_listed, followed as yields_followed, in_row as yields_row, arguments, hooks, silent, Manner, plain, expression, in_lines, path_rest, if_rest, new_rest, other, manner_of}
use Rattle.sp_law_round_trip.proofs.Singles.{is_single, kind_for}

-- Shapes on the pile beneath which a production began, and those since each tree began, the last one first; there the word at
-- which the tree began may stand before them.
pub data State : Type 0 where
  base : List Shape → State
  inner : Bool → List Shape → State → State

abbrev pub adds : List Shape → State → State
adds ds (base cs) = base (cs ++ ds)
adds ds (inner known cs st) = inner known (cs ++ ds) st

abbrev pub is_nothing : Take → Bool
is_nothing Nothing = true
is_nothing _ = false

-- a terminal that takes no half of a `>>`
abbrev pub is_whole : ℕ → Bool
is_whole e = is_nothing (takes e SECOND)

-- one that is of a single kind; and one that closes a list of types
abbrev pub is_lone : ℕ → Bool
is_lone e = is_single (kind_for e) && is_whole e

abbrev pub is_plain : ℕ → Bool
is_plain e = (e == CLOSE) || is_lone e

-- the words of such a terminal
abbrev pub words_at : ℕ → List Word
words_at e = if e == CLOSE then fixed_words (token.Punctuation sign.Greater) else fixed_words (kind_for e)

-- the words behind the last tree
abbrev are_words : List Shape → Bool
are_words [] = true
are_words (word w ∷ cs) = are_words cs
are_words (tree y ∷ cs) = false

abbrev ending_words : List Shape → List Word
ending_words [] = []
ending_words (word w ∷ cs) = if are_words cs then w ∷ ending_words cs else ending_words cs
ending_words (tree y ∷ cs) = ending_words cs

-- how many shapes a test looks at, at most
abbrev pub depth : ℕ
depth = 40

-- Shapes that are written as these become one tree. Words that are left over stand behind it.
abbrev pub left_over : List Shape → List Shape → List Word
left_over cs want = if covers depth cs want then [] else ending_words cs

abbrev pub shut : List Shape → List Shape → Shape → State → Option State
shut cs want c st = let ws = left_over cs want in if covers depth cs (want ++ words ws) then Some (adds (c ∷ words ws) st) else None

abbrev pub or_else : Option State → Option State → Option State
or_else None o = o
or_else (Some st) o = Some st

-- as many trees
abbrev pub holds : List Shape → ℕ → Bool
holds [] n = n == 0
holds (word w ∷ cs) n = holds cs n
holds (tree one ∷ cs) (suc n) = holds cs n
holds (tree (optional around) ∷ cs) (suc n) = holds cs n
holds (tree left_out ∷ cs) (suc n) = holds cs n
holds (tree (in_row by) ∷ cs) (suc n) = holds cs n
holds _ n = false

abbrev pub are_parts : List Slot → Bool
are_parts [] = true
are_parts (slot.Part sort ∷ slots) = are_parts slots
are_parts (slot.Several g ∷ slots) = false

abbrev pub whole_shapes : List Shape → List Shape → ℕ → Bool
whole_shapes cs want n = holds cs n && (are_ordered want && covers depth cs want)

-- what an action makes of them
abbrev pub after : Rule → State → Option State
after begins st = Some (inner false [] st)
after leaves_out st = Some (adds (tree left_out ∷ []) st)
after (takes_leaf (always form)) st = if no_shapes (shapes_of form) then Some (adds (tree one ∷ []) st) else None
after gathers (inner false cs st) = or_else (shut cs (tree (listed separator.Nothing) ∷ []) (tree (in_row separator.Nothing)) st) (shut cs (tree (listed separator.ElseIf) ∷ []) (tree (in_row separator.ElseIf)) st)
after (closes slots form) (inner false cs st) = if are_ordered (shapes_of form) then shut cs (shapes_of form) (tree one) st else None
after (closes_integer slots form) (inner true cs st) = let rest = rest_shapes (form integer.Uint8) in if are_ordered rest then shut cs rest (tree one) st else None
after (closes_attribute slots form) (inner true cs st) = let rest = rest_shapes (form attribute_name.Size) in if are_ordered rest then shut cs rest (tree one) st else None
after encloses (inner false cs st) = shut cs (tree one ∷ []) (tree one) st
after (joins slots form) (base cs) = if are_parts (reverse slots) && whole_shapes cs (shapes_of form) (length (reverse slots)) then Some (base (tree one ∷ [])) else None
after (wraps g form) (base cs) = if whole_shapes cs (shapes_of form) 1 then Some (base (tree one ∷ [])) else None
after _ _ = None

-- an action and the token behind it, of which a tree is made, or which tells what the tree is
abbrev pub begins_with : ℕ → Bool
begins_with e = ((e == terminal_number terminal.IntWord) || (e == terminal_number terminal.Attribute)) && is_whole e

abbrev pub is_said : ℕ → List Shape → Bool
is_said e want = is_lone e && (are_ordered want && covers depth (words (words_at e)) want)

abbrev pub pairs : Rule → ℕ → State → Option State
pairs begins e st = if begins_with e then Some (inner true [] st) else None
pairs (takes_leaf (always form)) e st = if is_said e (shapes_of form) then Some (adds (tree one ∷ []) st) else None
pairs (takes_leaf l) e st = if is_whole e then Some (adds (tree one ∷ []) st) else None
pairs _ e st = None

abbrev pub after_at : Option Action → State → Option State
after_at None st = None
after_at (Some m) st = after (rule m) st

abbrev pub pairs_at : Option Action → ℕ → State → Option State
pairs_at None e st = None
pairs_at (Some m) e st = pairs (rule m) e st

-- what a part reads, and what it closes that began before
abbrev yields : Yield → List Shape
yields (yields_one level) = tree one ∷ []
yields (yields_optional around) = tree (optional (unframed around)) ∷ []
yields yields_absent = tree left_out ∷ []
yields (yields_listed by) = tree (listed (quiet by)) ∷ []
yields (yields_followed separator.Comma) = tree (listed separator.Nothing) ∷ []
yields (yields_followed by) = tree (followed by) ∷ []
yields (yields_row by) = tree (in_row (quiet by)) ∷ []
yields arguments = tree (in_row separator.Nothing) ∷ []
yields hooks = tree (in_row separator.Nothing) ∷ []
yields silent = []

abbrev gives_as : Manner → List Shape
gives_as (plain y) = yields y
gives_as (expression level) = tree one ∷ []
gives_as in_lines = tree (listed separator.Nothing) ∷ []
gives_as path_rest = tree one ∷ tree (optional frame.Scope) ∷ []
gives_as if_rest = tree one ∷ []
gives_as new_rest = tree (in_row separator.Nothing) ∷ []
gives_as other = tree one ∷ []

abbrev needs_as : Manner → List (List Shape)
needs_as path_rest = (tree (some separator.Scope) ∷ []) ∷ []
needs_as if_rest = (tree (some separator.ElseIf) ∷ []) ∷ (word (fixed (token.Keyword keyword.If)) ∷ []) ∷ []
needs_as _ = []

abbrev pub gives : ℕ → List Shape
gives n = gives_as (manner_of n)

abbrev pub needs : ℕ → List (List Shape)
needs n = needs_as (manner_of n)

-- the parts of the grammar in its own words: the module, and all of which something is claimed
abbrev pub is_used : ℕ → Bool
is_used n = (n == part_number Part.Module) || not (is_other (manner_of n))

abbrev pub enters : List (List Shape) → State → Option State
enters [] st = Some st
enters (x ∷ xs) (inner false cs st) = if covers depth cs x then enters xs st else None
enters (x ∷ xs) st = None

abbrev pub floor : List (List Shape) → State
floor [] = base []
floor (x ∷ xs) = inner false x (floor xs)

abbrev pub if_so : Option State → (State → Bool) → Bool
if_so None go = false
if_so (Some st) go = go st

abbrev pub either : Option State → (State → Bool) → Bool → Bool
either None go b = b
either (Some st) go b = go st

abbrev pub ends : State → List Shape → Bool
ends (base cs) want = covers depth cs want
ends (inner known cs st) want = false

abbrev pub passes : State → List Symbol → List Shape → Bool
passes st [] want = ends st want
passes st (symbol.Terminal e ∷ ss) want = is_plain e && passes (adds (words (words_at e)) st) ss want
passes st (symbol.Nonterminal n ∷ ss) want = is_used n && if_so (enters (needs n) st) (λ rest. passes (adds (gives n) rest) ss want)
passes st (symbol.Action n ∷ symbol.Terminal e ∷ ss) want = either (pairs_at (action_with n) e st) (λ paired. passes paired ss want) (if_so (after_at (action_with n) st) (λ made. is_plain e && passes (adds (words (words_at e)) made) ss want))
passes st (symbol.Action n ∷ ss) want = if_so (after_at (action_with n) st) (λ made. passes made ss want)

abbrev is_fine : ℕ → ℕ → Bool
is_fine n p = not (is_used n) || passes (floor (needs n)) (right own n p) (gives n)

all_fine : below (λ n. below (λ p. is_fine n p) (length (productions_of own n))) (length own.productions) ≡ true
unfolding own
all_fine = refl

pub production_fine : (n p : ℕ) → p < length (productions_of own n) → is_used n ≡ true → passes (floor (needs n)) (right own n p) (gives n) ≡ true
production_fine n p inside used = elim (or_cases (not (is_used n)) (passes (floor (needs n)) (right own n p) (gives n)) (test_at (λ n p. is_fine n p) n p all_fine inside)) [
  | inl unused ↦ absurd (let q : false ≡ true = sym (not-true (is_used n) unused) ∙ used in cc)
  | inr fine ↦ fine
]
