-- What the symbols of a production read, chunk by chunk, and the tests by which it is written as the layout of an
-- alternative, or as the yield of a part. That chunks which pass them are written so is proved in Laid.
use Rattle.std.specs.Prelude.{not, ◌&&◌, if◌then◌else◌}
use Rattle.std.proofs.Common.{◌≡◌, ℕ, zero, suc, List, [], ◌∷◌, ◌++◌, Bool, true, false, ◌==◌, Option, Some, None}
use Rattle.sp_lex.specs.declared.kinds.TokenKind.{TokenKind}
use Rattle.sp_phrases.specs.Kinds.{number_of, terminal_of}
use Rattle.sp_ast.specs.declared.forms.Form.{Form}
use Rattle.sp_ast.specs.declared.forms.Form.TheVariants as form_is
use Rattle.sp_ast.specs.declared.forms.ExprForm.TheVariants as expr_is
use Rattle.sp_ast.specs.Trees.{Tree, node, none, trees}
use Rattle.sp_print.specs.declared.layouts.Frame.{Frame}
use Rattle.sp_print.specs.declared.layouts.Frame.TheVariants as frame
use Rattle.sp_print.specs.declared.layouts.Separator.{Separator}
use Rattle.sp_print.specs.declared.layouts.Separator.TheVariants as separator
use Rattle.sp_print.specs.declared.layouts.PartLayout.{PartLayout}
use Rattle.sp_print.specs.declared.layouts.PartLayout.TheVariants as layout_is
use Rattle.sp_print.specs.declared.layouts.Piece.{Piece}
use Rattle.sp_print.specs.declared.layouts.Piece.TheVariants as piece
use Rattle.sp_print.specs.Canonical.{Writing, nothing, chain, kinds, least, is_dividend, form_level, spelled}
use Rattle.sp_print.specs.Layouts.{opening, closing, between}
use Rattle.sp_print.specs.Own.{own_words}
use Rattle.sp_print.specs.Words.{Word, fixed}
use Rattle.sp_law_round_trip.specs.Bare.{nowhere}
use Rattle.sp_law_round_trip.proofs.Singles.{kind_for, is_single}
use Rattle.sp_law_round_trip.proofs.Shown.{Yield, one, optional, left_out, listed, followed, in_row, arguments, hooks, silent, yielded, Fits}

-- a token of this number; trees that are written so; an expression that binds so tightly, without parentheses round it
pub data Chunk : Type 0 where
  word : ℕ → Chunk
  tree : Yield → Chunk
  built : ℕ → Chunk

-- an alternative may stand in parentheses, where it is one of expressions
abbrev pub is_expression : Form → Bool
is_expression (form_is.Expr form) = true
is_expression _ = false

-- how tightly a `new` binds, its parts tell
abbrev pub is_new : Form → Bool
is_new (form_is.Expr expr_is.New) = true
is_new _ = false

-- an expression that isn't a `new`, and binds so tightly
abbrev IsBuilt : ℕ → List Tree → Type 0
IsBuilt level us = (form : Form) × (ts : List Tree) × (us ≡ node form nowhere (trees ts) ∷ []) × (is_expression form ≡ true) × (is_new form ≡ false) × (form_level form none ≡ level)

-- the trees that a chunk is
abbrev pub Owns : Chunk → List Tree → Type 0
Owns (word e) us = us ≡ []
Owns (tree y) us = Fits y us
Owns (built level) us = IsBuilt level us

abbrev pub chunk_words : Chunk → List Tree → Writing
chunk_words (word e) us = kinds (kind_for e ∷ [])
chunk_words (tree y) us = yielded y us
chunk_words (built level) (t ∷ []) = spelled t
chunk_words (built level) _ = nothing

-- trees by the chunks that they are
pub data Split : List Chunk → List Tree → Type 0 where
  no_chunk : Split [] []
  a_chunk : {c : Chunk} {cs : List Chunk} {ts : List Tree} → (us : List Tree) → Owns c us → Split cs ts → Split (c ∷ cs) (us ++ ts)

-- the words of chunks
abbrev pub wrote : {cs : List Chunk} {ts : List Tree} → Split cs ts → Writing
wrote no_chunk = nothing
wrote (a_chunk {c = c} us owns rest) = chain (chunk_words c us) (wrote rest)

-- the chunk that a tree is when it is built
abbrev pub node_chunk : Form → Chunk
node_chunk form = if is_expression form then built (form_level form none) else tree (one 1)

abbrev pub frame_number : Frame → ℕ
frame_number frame.Bare = 0
frame_number frame.Parentheses = 1
frame_number frame.Colon = 2
frame_number frame.Scope = 3
frame_number frame.Equal = 4
frame_number frame.UpTo = 5
frame_number frame.Arrow = 6
frame_number frame.If = 7
frame_number frame.Else = 8
frame_number frame.Default = 9
frame_number frame.Priority = 10

abbrev pub separator_number : Separator → ℕ
separator_number separator.Nothing = 0
separator_number separator.Comma = 1
separator_number separator.Scope = 2
separator_number separator.ElseIf = 3

abbrev pub same_frame : Frame → Frame → Bool
same_frame f g = frame_number f == frame_number g

abbrev pub same_separator : Separator → Separator → Bool
same_separator f g = separator_number f == separator_number g

-- a token of a kind that is the only one of its terminal
abbrev pub is_token : TokenKind → ℕ → Bool
is_token k e = is_single k && (number_of (terminal_of k) == e)

-- whether nothing is left, or no tree
abbrev pub is_end : List Chunk → Bool
is_end [] = true
is_end (tree silent ∷ cs) = is_end cs
is_end _ = false

abbrev pub is_treeless : List Chunk → Bool
is_treeless [] = true
is_treeless (word e ∷ cs) = is_treeless cs
is_treeless (tree silent ∷ cs) = is_treeless cs
is_treeless _ = false

-- these tokens come, and what is left passes a test
abbrev pub words_come : List TokenKind → List Chunk → (List Chunk → Bool) → Bool
words_come [] cs go = go cs
words_come (k ∷ ks) (word e ∷ cs) go = is_token k e && words_come ks cs go
words_come _ _ go = false

-- one tree comes, anywhere
abbrev pub one_comes : List Chunk → (List Chunk → Bool) → Bool
one_comes (tree (one (suc zero)) ∷ cs) go = go cs
one_comes _ go = false

-- the word that stands between parts in a row
abbrev pub is_between : Separator → ℕ → Bool
is_between by e = words_come (between by) (word e ∷ []) is_end

-- trees come as they follow another one
abbrev pub more_come : Separator → List Chunk → (List Chunk → Bool) → Bool
more_come by (tree (followed also) ∷ cs) go = same_separator by also && go cs
more_come by (tree (listed also) ∷ cs) go = same_separator by separator.Nothing && same_separator also separator.Nothing && go cs
more_come by (word e ∷ tree (one (suc zero)) ∷ cs) go = is_between by e && more_come by cs go
more_come by _ go = false

-- any number of trees comes
abbrev pub list_comes : Separator → List Chunk → (List Chunk → Bool) → Bool
list_comes by (tree (listed also) ∷ cs) go = same_separator by also && go cs
list_comes by (tree (one (suc zero)) ∷ cs) go = more_come by cs go
list_comes by _ go = false

-- a part that can be left out comes: as one of this frame, as one that is left out, or as one with its frame round it
abbrev pub optional_comes : Frame → List Chunk → (List Chunk → Bool) → Bool
optional_comes around (tree (optional also) ∷ cs) go = same_frame around also && go cs
optional_comes around (tree left_out ∷ cs) go = go cs
optional_comes around cs go = words_come (opening around) cs (λ inner. one_comes inner (λ behind. words_come (closing around) behind go))

-- a part comes by its layout
abbrev pub part_comes : Form → PartLayout → List Chunk → (List Chunk → Bool) → Bool
part_comes form (layout_is.One at) (tree (one level) ∷ cs) go = (least form at == level) && not (is_dividend form at) && go cs
part_comes form (layout_is.Optional around) cs go = optional_comes around cs go
part_comes form (layout_is.Row by) (tree (in_row also) ∷ cs) go = same_separator by also && go cs
part_comes form layout_is.Arguments (tree arguments ∷ cs) go = go cs
part_comes form layout_is.Hooks (tree hooks ∷ cs) go = go cs
part_comes form _ cs go = false

-- the own word of an alternative comes
abbrev pub own_comes : List Word → List Chunk → (List Chunk → Bool) → Bool
own_comes (fixed k ∷ []) cs go = words_come (k ∷ []) cs go
own_comes _ cs go = false

-- the chunks are written as the pieces of a layout are
abbrev pub laid_as : Form → List Piece → List Chunk → Bool
laid_as form [] cs = is_end cs
laid_as form (piece.Word k ∷ ps) cs = words_come (k ∷ []) cs (λ rest. laid_as form ps rest)
laid_as form (piece.Own ∷ ps) cs = own_comes (own_words form) cs (λ rest. laid_as form ps rest)
laid_as form (piece.All by ∷ ps) cs = list_comes by cs (λ rest. is_treeless rest && laid_as form ps rest)
laid_as form (piece.Part p ∷ ps) cs = part_comes form p cs (λ rest. laid_as form ps rest)

-- the chunks are written as the yield of a part is
abbrev pub ends_as : Yield → List Chunk → Bool
ends_as (one level) (tree (one also) ∷ cs) = (level == also) && is_end cs
ends_as (optional around) cs = optional_comes around cs is_end
ends_as (listed by) [] = true
ends_as (listed by) cs = list_comes by cs is_end
ends_as (followed by) [] = true
ends_as (followed by) cs = more_come by cs is_end
ends_as _ cs = false

-- Trees in a row, and the tokens behind them: one chunk in place of the trees.
abbrev pub row_chunks : List Chunk → Option (List Chunk)
row_chunks (tree (listed by) ∷ rest) = if is_treeless rest then Some (tree (in_row by) ∷ rest) else None
row_chunks (tree (one (suc zero)) ∷ tree (followed by) ∷ rest) = if is_treeless rest then Some (tree (in_row by) ∷ rest) else None
row_chunks _ = None
