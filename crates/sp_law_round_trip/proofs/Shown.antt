-- How the trees of each part of the grammar are written, and what is claimed of a part that was read: that what it
-- built is read from these words.
use Rattle.std.specs.Prelude.{flat_map, ◌≤◌, ◌⊎◌, if◌then◌else◌}
use Rattle.std.proofs.Common.{◌≡◌, ℕ, List, [], ◌∷◌, ◌++◌, map, get_or, Bool, true, false, ◌==◌, Option, Some, None, subst, eqb-true}
use Rattle.sp_words.specs.declared.punctuation.Punctuation.TheVariants as sign
use Rattle.sp_lex.specs.declared.kinds.TokenKind.{TokenKind}
use Rattle.sp_lex.specs.declared.kinds.TokenKind.TheVariants as kind
use Rattle.sp_parser.specs.declared.symbol.Symbol.{Symbol}
use Rattle.sp_parser.specs.declared.symbol.Symbol.TheVariants as symbol
use Rattle.sp_parser.specs.Grammar.{takes, First, All}
use Rattle.sp_grammar.specs.declared.terminals.Terminal.{Terminal}
use Rattle.sp_words.specs.declared.keywords.Keyword.TheVariants as keyword
use Rattle.sp_grammar.specs.declared.terminals.Terminal.TheVariants as token
use Rattle.sp_grammar.specs.Actions.{action_with}
use Rattle.sp_grammar.specs.Terminals.{terminal_number}
use Rattle.sp_grammar.specs.Written.{Part, part_number, all_parts, part as part_symbol}
use Rattle.sp_ast.specs.declared.forms.Form.TheVariants as form_is
use Rattle.sp_ast.specs.declared.forms.StmtForm.TheVariants as stmt_is
use Rattle.sp_ast.specs.Trees.{Tree, absent, row, trees, tree}
use Rattle.sp_ast.specs.declared.groups.Group.TheVariants.{Expressions as expressions}
use Rattle.sp_ast.specs.Groups.{is_of, is_node}
use Rattle.sp_build.specs.Rules.{rule}
use Rattle.sp_build.proofs.Told.{never}
use Rattle.sp_print.specs.declared.layouts.Frame.{Frame}
use Rattle.sp_print.specs.declared.layouts.Frame.TheVariants as frame
use Rattle.sp_print.specs.declared.layouts.Separator.{Separator}
use Rattle.sp_print.specs.declared.layouts.Separator.TheVariants as separator
use Rattle.sp_print.specs.Canonical.{Writing, nothing as no_words, chain, kinds, enclosed, at_place, framed, is_empty_row, level_of, spelled, rowed, parts_of, part_of, listed as written_listed, followed as written_followed}
use Rattle.sp_print.specs.Words.{Word}
use Rattle.sp_law_printed_words.specs.Modules.{lines_of}
use Rattle.sp_law_round_trip.specs.Bare.{nowhere}
use Rattle.sp_law_round_trip.specs.Told.{Telling}
use Rattle.sp_law_round_trip.proofs.Held.{Pile, started, made, does}
use Rattle.sp_law_round_trip.proofs.Goes.{Tok, entire, half, number, next, coming, Goes, before, pushed}

-- how trees are written
pub data Yield : Type 0 where
  -- one tree, at a place that asks for this level
  one : ℕ → Yield
  -- one tree that may be left out, with what stands round it
  optional : Frame → Yield
  -- one that is left out
  left_out : Yield
  -- any number of trees, with what stands between them; as they follow another one
  listed followed : Separator → Yield
  -- a row of trees
  in_row : Separator → Yield
  -- a row in parentheses, or nothing
  arguments : Yield
  -- a row of hooks, or a semicolon
  hooks : Yield
  -- no trees
  silent : Yield

abbrev pub yielded : Yield → List Tree → Writing
yielded (one level) (t ∷ []) = at_place level false t (spelled t)
yielded (optional around) (t ∷ []) = framed around (part_of t)
yielded (listed by) ts = written_listed by (parts_of (trees ts))
yielded (followed by) ts = written_followed by (parts_of (trees ts))
yielded (in_row by) (t ∷ []) = rowed t by
yielded arguments (t ∷ []) = if is_empty_row t then no_words else enclosed (rowed t separator.Comma)
yielded hooks (t ∷ []) = if is_empty_row t then kinds (kind.Punctuation sign.Semicolon ∷ []) else rowed t separator.Nothing
yielded _ ts = no_words

-- one tree, and it is neither left out nor a row
abbrev pub IsOneNode : List Tree → Type 0
IsOneNode ts = (t : Tree) × (ts ≡ t ∷ []) × (is_node t ≡ true)

abbrev pub IsOneRow : List Tree → Type 0
IsOneRow ts = (us : List Tree) × (ts ≡ row (trees us) ∷ [])

-- as many trees as are written so, and of this kind
abbrev pub Fits : Yield → List Tree → Type 0
Fits (one level) ts = IsOneNode ts
Fits (optional around) ts = (t : Tree) × (ts ≡ t ∷ [])
Fits left_out ts = ts ≡ absent ∷ []
Fits (listed by) ts = Unit {0}
Fits (followed by) ts = Unit {0}
Fits (in_row by) ts = IsOneRow ts
Fits arguments ts = IsOneRow ts
Fits hooks ts = IsOneRow ts
Fits silent ts = ts ≡ []

-- how the trees of a part are written; an expression of this level stands in parentheses where it has to
pub data Manner : Type 0 where
  plain : Yield → Manner
  expression : ℕ → Manner
  -- declarations, each a line; the rest of a path of a hook; the rest of an `if`; the arguments of a `new`; the module, and
  -- pieces of the table
  in_lines path_rest if_rest new_rest other : Manner

abbrev pub manner : Part → Manner
manner Part.Decl = plain (one 1)
manner Part.OptType = plain (optional frame.Colon)
manner Part.Hook = plain (one 1)
manner Part.OptParen = plain arguments
manner Part.OptPriority = plain (optional frame.Priority)
manner Part.Path = plain (one 1)
manner Part.PathTail = plain (followed separator.Scope)
manner Part.OptParams = plain (listed separator.Comma)
manner Part.Params = plain (followed separator.Comma)
manner Part.Param = plain (one 1)
manner Part.TypeTree = plain (one 1)
manner Part.Plain = plain (one 1)
manner Part.Types = plain (followed separator.Comma)
manner Part.Label = plain (one 1)
manner Part.OptValue = plain (optional frame.Equal)
manner Part.Labels = plain (followed separator.Comma)
manner Part.Ranges = plain (listed separator.Nothing)
manner Part.Range = plain (one 1)
manner Part.OptUpTo = plain (optional frame.UpTo)
manner Part.Items = plain (listed separator.Nothing)
manner Part.Item = plain (one 1)
manner Part.ItemOn = plain (one 1)
manner Part.OptSemi = plain silent
manner Part.UnitPart = plain (one 1)
manner Part.ValueArms = plain (listed separator.Nothing)
manner Part.ValueArm = plain (one 1)
manner Part.PlainArms = plain (listed separator.Nothing)
manner Part.Arm = plain (one 1)
manner Part.Parts = plain (listed separator.Nothing)
manner Part.Field = plain (one 1)
manner Part.Counts = plain (listed separator.Nothing)
manner Part.OptExpr = plain (optional frame.Bare)
manner Part.Attrs = plain (listed separator.Nothing)
manner Part.OptIf = plain (optional frame.If)
manner Part.OptSink = plain (optional frame.Arrow)
manner Part.FieldEnd = plain hooks
manner Part.FieldHooks = plain (listed separator.Nothing)
manner Part.FieldHook = plain (one 1)
manner Part.Base = plain (one 1)
manner Part.Args = plain (listed separator.Comma)
manner Part.Exprs = plain (followed separator.Comma)
manner Part.Block = plain (one 1)
manner Part.Stmts = plain (listed separator.Nothing)
manner Part.Stmt = plain (one 1)
manner Part.Branch = plain (one 1)
manner Part.Other = plain (one 1)
manner Part.Cases = plain (listed separator.Nothing)
manner Part.OptDefault = plain (optional frame.Default)
manner Part.OptText = plain (optional frame.Colon)
manner Part.Decls = in_lines
manner Part.OnPath = path_rest
manner Part.OptElse = if_rest
manner Part.Expr = expression 1
manner Part.Or = expression 2
manner Part.And = expression 3
manner Part.Membership = expression 4
manner Part.Equality = expression 5
manner Part.Order = expression 6
manner Part.BitOr = expression 7
manner Part.BitXor = expression 8
manner Part.BitAnd = expression 9
manner Part.Shift = expression 10
manner Part.Sum = expression 11
manner Part.Product = expression 12
manner Part.Prefix = expression 13
manner Part.Postfix = expression 14
manner Part.Member = plain (one 1)
manner Part.Primary = expression 15
manner Part.Pairs = plain (followed separator.Comma)
manner Part.Pair = plain (one 1)
manner Part.NewArgs = new_rest
manner _ = other

-- The token that may not come behind a part: a `(` behind what can end with a `new` without arguments, an `else` behind
-- what can end with an `if` without one.
abbrev avoids : Part → Option Terminal
avoids Part.OptPriority = Some (token.Punctuation sign.LeftParen)
avoids Part.Label = Some (token.Punctuation sign.LeftParen)
avoids Part.OptValue = Some (token.Punctuation sign.LeftParen)
avoids Part.Labels = Some (token.Punctuation sign.LeftParen)
avoids Part.OptExpr = Some (token.Punctuation sign.LeftParen)
avoids Part.Attrs = Some (token.Punctuation sign.LeftParen)
avoids Part.OptSink = Some (token.Punctuation sign.LeftParen)
avoids Part.Args = Some (token.Punctuation sign.LeftParen)
avoids Part.Exprs = Some (token.Punctuation sign.LeftParen)
avoids Part.Stmts = Some (token.Keyword keyword.Else)
avoids Part.Stmt = Some (token.Keyword keyword.Else)
avoids Part.Branch = Some (token.Keyword keyword.Else)
avoids Part.OptElse = Some (token.Keyword keyword.Else)
avoids Part.Other = Some (token.Keyword keyword.Else)
avoids Part.Cases = Some (token.Keyword keyword.Else)
avoids Part.OptDefault = Some (token.Keyword keyword.Else)
avoids Part.Expr = Some (token.Punctuation sign.LeftParen)
avoids Part.Or = Some (token.Punctuation sign.LeftParen)
avoids Part.And = Some (token.Punctuation sign.LeftParen)
avoids Part.Membership = Some (token.Punctuation sign.LeftParen)
avoids Part.Equality = Some (token.Punctuation sign.LeftParen)
avoids Part.Order = Some (token.Punctuation sign.LeftParen)
avoids Part.BitOr = Some (token.Punctuation sign.LeftParen)
avoids Part.BitXor = Some (token.Punctuation sign.LeftParen)
avoids Part.BitAnd = Some (token.Punctuation sign.LeftParen)
avoids Part.Shift = Some (token.Punctuation sign.LeftParen)
avoids Part.Sum = Some (token.Punctuation sign.LeftParen)
avoids Part.Product = Some (token.Punctuation sign.LeftParen)
avoids Part.Prefix = Some (token.Punctuation sign.LeftParen)
avoids Part.Postfix = Some (token.Punctuation sign.LeftParen)
avoids Part.Primary = Some (token.Punctuation sign.LeftParen)
avoids Part.Pairs = Some (token.Punctuation sign.LeftParen)
avoids Part.Pair = Some (token.Punctuation sign.LeftParen)
avoids _ = None

abbrev pub manner_of : ℕ → Manner
manner_of n = get_or (map manner all_parts) n other

abbrev pub avoided : ℕ → Option Terminal
avoided n = get_or (map avoids all_parts) n None

-- Where an `else` came behind the original, and so the last `if` of the part has one, it may come again.
abbrev keeps_else : Part → Bool
keeps_else Part.Stmt = true
keeps_else Part.Other = true
keeps_else Part.Branch = true
keeps_else _ = false

abbrev pub is_kept : ℕ → Bool
is_kept n = get_or (map keeps_else all_parts) n false

abbrev pub Avoids : Option Terminal → List Tok → Type 0
Avoids None v = Unit {0}
Avoids (Some e) v = (coming v == terminal_number e) ≡ false

-- whether it is this token that is avoided
abbrev pub is_avoided : Option Terminal → Terminal → Bool
is_avoided None e = false
is_avoided (Some f) e = terminal_number f == terminal_number e

pub avoided_there : (o : Option Terminal) (e : Terminal) (v : List Tok) → is_avoided o e ≡ true → Avoids o v → Avoids (Some e) v
avoided_there None e v ok avoids = never ok
avoided_there (Some f) e v ok avoids = subst (λ n. (coming v == n) ≡ false) (eqb-true (terminal_number f) (terminal_number e) ok) avoids

-- what may come behind a part, behind which this kind came in the original
abbrev pub MayFollow : ℕ → ℕ → List Tok → Type 0
MayFollow n came v = Avoids (avoided n) v ⊎ ((is_kept n ≡ true) × (came ≡ terminal_number (token.Keyword keyword.Else)))

-- the trees of a part are read from their words
abbrev pub Shows : ℕ → Yield → List Tree → ℕ → Type 0
Shows n y ts came = (last : Option TokenKind) (v : List Tok) (s : Pile) → MayFollow n came v → Goes (symbol.Nonterminal n ∷ []) (before (yielded y ts last) v) s v (pushed ts s)

-- the part that reads expressions of a level
abbrev pub level_part : ℕ → Part
level_part level = get_or (Part.Expr ∷ Part.Expr ∷ Part.Or ∷ Part.And ∷ Part.Membership ∷ Part.Equality ∷ Part.Order ∷ Part.BitOr ∷ Part.BitXor ∷ Part.BitAnd ∷ Part.Shift ∷ Part.Sum ∷ Part.Product ∷ Part.Prefix ∷ []) level Part.Postfix

-- An expression of level 15 can stand before a `(`, and one of another level can't: it may end with a `new` without arguments.
abbrev pub MayPass : ℕ → List Tok → Type 0
MayPass level v = (level ≡ 15) ⊎ Avoids (Some (token.Punctuation sign.LeftParen)) v

-- an expression is read from its words, by the part of its own level
pub record Spells (t : Tree) : Type 0 where
  pub is : is_of expressions t ≡ true
  pub low : 1 ≤ level_of t
  pub high : level_of t ≤ 15
  pub reads : (last : Option TokenKind) (v : List Tok) (s : Pile) → MayPass (level_of t) v → Goes (symbol.Nonterminal (part_number (level_part (level_of t))) ∷ []) (before (spelled t last) v) s v (made t ∷ s)

-- The rest of a path of a hook, behind the names xs: more names, and the name of a hook or none.
abbrev OnPathClaim : Pile → Pile → Type 0
OnPathClaim s t =
    (xs : List Tree) (p : Telling) (b : Pile) → s ≡ pushed xs (started p ∷ b)
    → (ys : List Tree) × (e : Tree) × (t ≡ made e ∷ made (tree form_is.Path nowhere (xs ++ ys)) ∷ b)
    × ((last : Option TokenKind) (v : List Tok) (q : Telling) (c : Pile)
    → Goes (part_symbol Part.OnPath ∷ []) (before (chain (written_followed separator.Scope (parts_of (trees ys))) (framed frame.Scope (part_of e)) last) v) (pushed xs (started q ∷ c)) v (made e ∷ made (tree form_is.Path nowhere (xs ++ ys)) ∷ c))

-- The rest of an `if`, behind the branches bs: more branches, and an `else` or none.
abbrev pub OptElseClaim : List Tok → Pile → Pile → List Tok → Type 0
OptElseClaim w s t u =
    (bs : List Tree) (p q : Telling) (b : Pile) → s ≡ pushed bs (started p ∷ started q ∷ b)
    → (cs : List Tree) × (e : Tree) × (t ≡ made (tree (form_is.Stmt stmt_is.If) nowhere (row (trees (bs ++ cs)) ∷ e ∷ [])) ∷ b)
    × ((coming w ≡ terminal_number (token.Keyword keyword.Else)) ⊎ ((cs ≡ []) × (e ≡ absent) × (coming w ≡ coming u)))
    × ((last : Option TokenKind) (v : List Tok) (x y : Telling) (c : Pile) → MayFollow (part_number Part.Stmt) (coming u) v
    → Goes (part_symbol Part.OptElse ∷ []) (before (chain (written_followed separator.ElseIf (parts_of (trees cs))) (framed frame.Else (part_of e)) last) v) (pushed bs (started x ∷ started y ∷ c)) v (made (tree (form_is.Stmt stmt_is.If) nowhere (row (trees (bs ++ cs)) ∷ e ∷ [])) ∷ c))

-- The arguments of a `new`: a row of trees. Where it is empty nothing stands there, and then no `(` may come behind.
abbrev NewArgsClaim : Pile → Pile → Type 0
NewArgsClaim s t =
    (us : List Tree) × (t ≡ made (row (trees us)) ∷ s)
    × ((last : Option TokenKind) (v : List Tok) (b : Pile) → (us ≡ [] → Avoids (Some (token.Punctuation sign.LeftParen)) v)
    → Goes (part_symbol Part.NewArgs ∷ []) (before (yielded arguments (row (trees us) ∷ []) last) v) b v (made (row (trees us)) ∷ b))

-- words of lines, one behind the other
abbrev pub flat : List (List Word) → List Word
flat lines = flat_map (λ ws. ws) lines

-- declarations, each as a line
abbrev DeclsClaim : Pile → Pile → Type 0
DeclsClaim s t =
    (ts : List Tree) × (t ≡ pushed ts s)
    × ((v : List Tok) (b : Pile) → Goes (part_symbol Part.Decls ∷ []) (before (flat (lines_of (trees ts))) v) b v (pushed ts b))

-- what is claimed of a part that was read from w to u, and from the pile s to the pile t
abbrev pub ClaimAs : Manner → ℕ → List Tok → Pile → Pile → List Tok → Type 0
ClaimAs (plain y) n w s t u = (ts : List Tree) × (t ≡ pushed ts s) × Fits y ts × Shows n y ts (coming u)
ClaimAs (expression level) n w s t u = (x : Tree) × (t ≡ made x ∷ s) × Spells x
ClaimAs in_lines n w s t u = DeclsClaim s t
ClaimAs path_rest n w s t u = OnPathClaim s t
ClaimAs if_rest n w s t u = OptElseClaim w s t u
ClaimAs new_rest n w s t u = NewArgsClaim s t
ClaimAs other n w s t u = Unit {0}

abbrev pub Claim : ℕ → List Tok → Pile → Pile → List Tok → Type 0
Claim n w s t u = ClaimAs (manner_of n) n w s t u

-- A reading in which each part has its claim in place of its reading.
pub data Trace : List Symbol → List Tok → Pile → List Tok → Pile → Type 0 where
  ended : {w : List Tok} {s : Pile} → Trace [] w s w s
  token_passed : {e : ℕ} {x : Tok} {ss : List Symbol} {w v : List Tok} {s t : Pile} → takes e (number x) ≡ All → Trace ss w s v t → Trace (symbol.Terminal e ∷ ss) (x ∷ w) s v t
  half_passed : {e : ℕ} {x : Word} {ss : List Symbol} {w v : List Tok} {s t : Pile} → takes e (number (entire x)) ≡ First → Trace ss (half x ∷ w) s v t → Trace (symbol.Terminal e ∷ ss) (entire x ∷ w) s v t
  action_passed : {n : ℕ} {ss : List Symbol} {w v : List Tok} {s t u : Pile} (m : _) → action_with n ≡ Some m → does (rule m) (next w) s ≡ Some t → Trace ss w t v u → Trace (symbol.Action n ∷ ss) w s v u
  part_passed : {n : ℕ} {ss : List Symbol} {w u v : List Tok} {s t z : Pile} → Claim n w s t u → Trace ss u t v z → Trace (symbol.Nonterminal n ∷ ss) w s v z
