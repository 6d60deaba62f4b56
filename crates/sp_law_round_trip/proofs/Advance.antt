-- What the symbols of a production read, found by going over them, and the test that each production's trees are written
-- as its part's trees are.
use Rattle.std.specs.Prelude.{not, nat_lt, ◌&&◌, ◌||◌, if◌then◌else◌}
use Rattle.std.specs.Int.{bit_at}
use Rattle.std.proofs.Common.{ℕ, List, [], ◌∷◌, ◌++◌, get_or, Bool, true, false, ◌==◌, Option, Some, None}
use Rattle.sp_parser.specs.declared.symbol.Symbol.{Symbol}
use Rattle.sp_parser.specs.declared.symbol.Symbol.TheVariants as symbol
use Rattle.sp_parser.specs.Grammar.{Take, Nothing, All, takes, CLOSE, GREATER, SECOND}
use Rattle.sp_grammar.specs.declared.terminals.Terminal.{Terminal}
use Rattle.sp_words.specs.declared.keywords.Keyword.TheVariants as keyword
use Rattle.sp_words.specs.declared.punctuation.Punctuation.TheVariants as sign
use Rattle.sp_grammar.specs.declared.terminals.Terminal.TheVariants as token
use Rattle.sp_grammar.specs.declared.actions.Action.{Action}
use Rattle.sp_grammar.specs.Actions.{action_with}
use Rattle.sp_grammar.specs.Sets.{sets}
use Rattle.sp_grammar.specs.Terminals.{terminal_number}
use Rattle.sp_grammar.specs.Written.{Part, part_number}
use Rattle.sp_phrases.specs.Kinds.{number_of, terminal_of}
use Rattle.sp_ast.specs.declared.forms.Form.{Form}
use Rattle.sp_words.specs.declared.words.IntWord.TheVariants as integer
use Rattle.sp_words.specs.declared.words.HookName.TheVariants as hook_name
use Rattle.sp_ast.specs.declared.groups.Slot.{Slot}
use Rattle.sp_build.specs.Rules.{Leaf, always, by_name, by_string, by_bytes, by_regex, by_number, by_integer, by_hook_name, Rule, begins, leaves_out, takes as takes_leaf, gathers, closes, joins, wraps, rule}
use Rattle.sp_build.proofs.Shapes.{and_then}
use Rattle.sp_print.specs.declared.layouts.Piece.{Piece}
use Rattle.sp_print.specs.declared.layouts.Piece.TheVariants as piece
use Rattle.sp_print.specs.Layouts.{layout}
use Rattle.sp_law_round_trip.proofs.Closing.{are_parts}
use Rattle.sp_law_round_trip.proofs.Singles.{kind_for}
use Rattle.sp_law_round_trip.proofs.Shown.{Yield, one, optional, left_out, in_row, arguments, hooks, Manner, plain, expression, manner_of, avoided, is_kept, level_part, is_avoided}
use Rattle.sp_law_round_trip.proofs.Chunks.{Chunk, word, tree, built, is_new, node_chunk, is_token, laid_as, ends_as, row_chunks}

-- The sets of the table, as they are for the parts of the grammar in its own words: there `Postfix` is an operand, and no
-- tail of one.
abbrev table_part : ℕ → ℕ
table_part n = if n == part_number Part.Postfix then part_number Part.Primary else n

abbrev pub begins_with : ℕ → ℕ → Bool
begins_with e n = bit_at (get_or sets.first (table_part n) 0) e == 1

abbrev pub is_nullable : ℕ → Bool
is_nullable n = get_or sets.nullable (table_part n) false

-- whether these symbols can read nothing
abbrev pub may_be_empty : List Symbol → Bool
may_be_empty [] = true
may_be_empty (symbol.Terminal e ∷ ss) = false
may_be_empty (symbol.Action m ∷ ss) = may_be_empty ss
may_be_empty (symbol.Nonterminal n ∷ ss) = is_nullable n && may_be_empty ss

abbrev pub is_taken : Take → Bool
is_taken Nothing = false
is_taken _ = true

-- whether what they read can begin with this kind
abbrev pub comes_first : ℕ → List Symbol → Bool
comes_first e [] = false
comes_first e (symbol.Terminal f ∷ ss) = is_taken (takes f e)
comes_first e (symbol.Action m ∷ ss) = comes_first e ss
comes_first e (symbol.Nonterminal n ∷ ss) = begins_with e n || (is_nullable n && comes_first e ss)

-- what may come behind a production: not this token, but an `else` where one came
pub record Guard : Type 0 where
  pub avoid : Option Terminal
  pub kept : Bool

abbrev pub guard_of : ℕ → Guard
guard_of n = record { avoid = avoided n; kept = is_kept n }

abbrev pub unguarded : Guard
unguarded = record { avoid = None; kept = false }

abbrev pub are_actions : List Symbol → Bool
are_actions [] = true
are_actions (symbol.Action m ∷ ss) = are_actions ss
are_actions _ = false

-- the tokens that parts avoid
abbrev pub is_watched : Terminal → Bool
is_watched (token.Punctuation sign.LeftParen) = true
is_watched (token.Keyword keyword.Else) = true
is_watched _ = false

-- whether the part may stand before these symbols
abbrev pub next_fits : Option Terminal → Guard → ℕ → List Symbol → Bool
next_fits None guard n rest = true
next_fits (Some e) guard n rest =
    is_watched e && not (comes_first (terminal_number e) rest)
    && (not (may_be_empty rest) || (is_avoided guard.avoid e && (not guard.kept || (is_kept n && are_actions rest))))

-- chunks for each tree that has begun, the last one first
abbrev pub State : Type 0
State = List (List Chunk)

-- more chunks for the last one
abbrev pub put_on : List Chunk → State → State
put_on ds [] = []
put_on ds (cs ∷ σ) = (cs ++ ds) ∷ σ

abbrev pub add : Chunk → State → State
add c σ = put_on (c ∷ []) σ

-- what an action makes of a state, by itself or with the token that comes next
pub data Move : Type 0 where
  stays eats : State → Move
  stuck : Move

-- the chunk of a token's tree
abbrev pub leaf_chunk : Leaf → Chunk
leaf_chunk (always form) = node_chunk form
leaf_chunk (by_name form) = node_chunk (form [])
leaf_chunk (by_string form) = node_chunk (form [])
leaf_chunk (by_bytes form) = node_chunk (form [])
leaf_chunk (by_regex form) = node_chunk (form [])
leaf_chunk (by_number form) = node_chunk (form 0)
leaf_chunk (by_integer form) = node_chunk (form integer.Uint8)
leaf_chunk (by_hook_name form) = node_chunk (form hook_name.Init)

abbrev pub is_all : Take → Bool
is_all All = true
is_all _ = false

-- a kind that is expected as it stands, and not what closes a list of types
abbrev pub is_itself : ℕ → Bool
is_itself e = is_all (takes e e) && not (is_taken (takes e SECOND))

-- a tree that is always the same, and the token that it is written as, if any
abbrev pub always_moved : Form → List Piece → Option ℕ → State → Move
always_moved form [] coming σ = if is_new form then stuck else stays (add (node_chunk form) σ)
always_moved form (piece.Word k ∷ []) (Some e) σ = if is_token k e && is_itself e && not (is_new form) then eats (add (node_chunk form) σ) else stuck
always_moved form _ coming σ = stuck

-- whether a chunk is one tree
abbrev pub is_one : Chunk → Bool
is_one (tree (one level)) = true
is_one (tree (optional around)) = true
is_one (tree left_out) = true
is_one (tree (in_row by)) = true
is_one (tree arguments) = true
is_one (tree hooks) = true
is_one (built level) = true
is_one _ = false

-- whether there are as many trees as slots
abbrev pub one_each : List Chunk → List Slot → Bool
one_each [] [] = true
one_each (word e ∷ cs) slots = one_each cs slots
one_each (c ∷ cs) (slot ∷ slots) = is_one c && one_each cs slots
one_each _ _ = false

abbrev pub is_laid : Form → List Chunk → Bool
is_laid form cs = laid_as form (layout form) cs && not (is_new form)

abbrev pub put_before : Chunk → Option (List Chunk) → Option (List Chunk)
put_before c None = None
put_before c (Some cs) = Some (c ∷ cs)

-- the last tree of the chunks is wrapped
abbrev pub wrapped_last : Form → List Chunk → Option (List Chunk)
wrapped_last form [] = None
wrapped_last form (c ∷ []) = if is_one c && is_laid form (c ∷ []) then Some (node_chunk form ∷ []) else None
wrapped_last form (c ∷ d ∷ cs) = put_before c (wrapped_last form (d ∷ cs))

abbrev pub moved : Option (List Chunk) → State → Move
moved None σ = stuck
moved (Some cs) σ = stays (cs ∷ σ)

abbrev pub row_moved : Option (List Chunk) → List Chunk → State → Move
row_moved None ds σ = stuck
row_moved (Some cs) ds σ = stays (put_on cs (ds ∷ σ))

abbrev pub move : Rule → Option ℕ → State → Move
move begins coming σ = stays ([] ∷ σ)
move leaves_out coming σ = stays (add (tree left_out) σ)
move (takes_leaf (always form)) coming σ = always_moved form (layout form) coming σ
move (takes_leaf l) (Some e) σ = if is_itself e then eats (add (leaf_chunk l) σ) else stuck
move gathers coming (cs ∷ ds ∷ σ) = row_moved (row_chunks cs) ds σ
move (closes slots form) coming (cs ∷ ds ∷ σ) = if is_laid form cs then stays (add (node_chunk form) (ds ∷ σ)) else stuck
move (joins slots form) coming (cs ∷ σ) = if are_parts slots && one_each cs slots && is_laid form cs then stays ((node_chunk form ∷ []) ∷ σ) else stuck
move (wraps g form) coming (cs ∷ σ) = moved (wrapped_last form cs) σ
move _ coming σ = stuck

abbrev pub move_at : Option Action → Option ℕ → State → Move
move_at None coming σ = stuck
move_at (Some m) coming σ = move (rule m) coming σ

-- how a part in a production is written
abbrev pub yield_of : Manner → Option Yield
yield_of (plain y) = Some y
yield_of (expression level) = if nat_lt level 15 then Some (one level) else None
yield_of _ = None

-- the number of the token as which one is written: where a list of types closes, a `>`
abbrev pub shown_number : ℕ → ℕ
shown_number e = if e == CLOSE then GREATER else e

-- whether it is the token of its number
abbrev pub is_read : ℕ → Bool
is_read e = is_all (takes e (number_of (terminal_of (kind_for (shown_number e)))))

abbrev pub then_go : Move → (State → Option State) → (State → Option State) → Option State
then_go stuck stay eat = None
then_go (stays σ) stay eat = stay σ
then_go (eats σ) stay eat = eat σ

-- what is read, from what was read before
abbrev pub advance : Guard → List Symbol → State → Option State
advance guard [] σ = Some σ
advance guard (symbol.Terminal e ∷ ss) σ = if is_read e then advance guard ss (add (word (shown_number e)) σ) else None
advance guard (symbol.Action m ∷ symbol.Terminal e ∷ ss) σ =
    then_go (move_at (action_with m) (Some e) σ) (λ next. advance guard (symbol.Terminal e ∷ ss) next) (λ next. advance guard ss next)
advance guard (symbol.Action m ∷ ss) σ = then_go (move_at (action_with m) None σ) (λ next. advance guard ss next) (λ next. None)
advance guard (symbol.Nonterminal n ∷ ss) σ =
    and_then (yield_of (manner_of n)) (λ y. if next_fits (avoided n) guard n ss then advance guard ss (add (tree y) σ) else None)

-- whether one tree's chunks are left, and they are written as the yield is
abbrev pub is_yield : Yield → Option State → Bool
is_yield y (Some (cs ∷ [])) = ends_as y cs
is_yield y _ = false

-- whether an expression is left that the part reads: one that may pass before a `(` only where it can't end with a `new`
abbrev pub is_spelled : ℕ → Bool → Option State → Bool
is_spelled n passes (Some ((built level ∷ []) ∷ [])) = (if passes then level == 15 else nat_lt level 15) && ((n == part_number Part.Primary) || (n == part_number (level_part level)))
is_spelled n passes _ = false

-- whether nothing else is avoided than this token
abbrev pub avoids_only : Terminal → Option Terminal → Bool
avoids_only e None = true
avoids_only e (Some f) = terminal_number e == terminal_number f

-- a production of a part is written as the part's trees are
abbrev pub is_again : Manner → ℕ → List Symbol → Bool
is_again (plain y) n ss = is_yield y (advance (guard_of n) ss ([] ∷ []))
is_again (expression level) n ss = is_spelled n true (advance unguarded ss ([] ∷ [])) || (avoids_only (token.Punctuation sign.LeftParen) (avoided n) && is_spelled n false (advance (guard_of n) ss ([] ∷ [])))
is_again _ n ss = false
