-- Readings in the grammar in its own words, over the words that tokens tell, with what the actions build. Places are
-- forgotten.
use Rattle.std.proofs.Common.{◌++◌, refl, ap, ◌≡◌, ℕ, List, [], ◌∷◌, map, Some}
use Rattle.sp_words.specs.declared.punctuation.Punctuation.TheVariants as sign
use Rattle.sp_lex.specs.declared.kinds.TokenKind.TheVariants as token
use Rattle.sp_parser.specs.declared.symbol.Symbol.{Symbol}
use Rattle.sp_parser.specs.declared.symbol.Symbol.TheVariants as symbol
use Rattle.sp_parser.specs.Grammar.{right, takes, First, All, Applies, SECOND, ahead}
use Rattle.sp_grammar.specs.Actions.{action_with}
use Rattle.sp_grammar.specs.Own.{own}
use Rattle.sp_phrases.specs.Kinds.{number_of, terminal_of}
use Rattle.sp_ast.specs.Trees.{Tree}
use Rattle.sp_build.specs.Rules.{rule}
use Rattle.sp_print.specs.Words.{Word, fixed}
use Rattle.sp_law_printed_words.specs.Sound.{read_as}
use Rattle.sp_law_round_trip.specs.Told.{Telling}
use Rattle.sp_law_round_trip.proofs.Held.{Pile, made, does}

-- a word as it is read, or the second half of a `>>`, the first of which is passed
pub data Tok : Type 0 where
  entire half : Word → Tok

abbrev pub telling_of : Word → Telling
telling_of w = record { kind = read_as w; word = w }

abbrev pub tells : Tok → Telling
tells (entire w) = telling_of w
tells (half w) = telling_of w

-- the kind of token that it is for the parser
abbrev pub number : Tok → ℕ
number (entire w) = number_of (terminal_of (read_as w))
number (half w) = SECOND

-- what is told behind the last token
abbrev pub ending : Telling
ending = telling_of (fixed (token.Punctuation sign.Semicolon))

abbrev pub next : List Tok → Telling
next [] = ending
next (t ∷ w) = tells t

-- the kind that comes next
abbrev pub coming : List Tok → ℕ
coming w = ahead (map number w)

-- `Goes ss w s v t`: from the pile s, the symbols read what stands in w before v, and leave the pile t.
pub data Goes : List Symbol → List Tok → Pile → List Tok → Pile → Type 0 where
  nothing : {w : List Tok} {s : Pile} → Goes [] w s w s
  whole : {e : ℕ} {x : Tok} {ss : List Symbol} {w v : List Tok} {s t : Pile} → takes e (number x) ≡ All → Goes ss w s v t → Goes (symbol.Terminal e ∷ ss) (x ∷ w) s v t
  first_half : {e : ℕ} {x : Word} {ss : List Symbol} {w v : List Tok} {s t : Pile} → takes e (number (entire x)) ≡ First → Goes ss (half x ∷ w) s v t → Goes (symbol.Terminal e ∷ ss) (entire x ∷ w) s v t
  action : {n : ℕ} {ss : List Symbol} {w v : List Tok} {s t u : Pile} (m : _) → action_with n ≡ Some m → does (rule m) (next w) s ≡ Some t → Goes ss w t v u → Goes (symbol.Action n ∷ ss) w s v u
  part : {n : ℕ} {ss : List Symbol} {w u v : List Tok} {s t z : Pile} → (p : ℕ) → Applies own n p (map number w) → Goes (right own n p) w s u t → Goes ss u t v z → Goes (symbol.Nonterminal n ∷ ss) w s v z

-- words before others
abbrev pub before : List Word → List Tok → List Tok
before [] v = v
before (w ∷ ws) v = entire w ∷ before ws v

-- one list behind the other
pub before_both : (xs ys : List Word) (v : List Tok) → before (xs ++ ys) v ≡ before xs (before ys v)
before_both [] ys v = refl
before_both (x ∷ xs) ys v = ap (λ w. entire x ∷ w) (before_both xs ys v)

-- trees on top of a pile, in the order of the text
abbrev pub pushed : List Tree → Pile → Pile
pushed [] s = s
pushed (t ∷ ts) s = pushed ts (made t ∷ s)

pub pushed_append : (ts us : List Tree) (s : Pile) → pushed (ts ++ us) s ≡ pushed us (pushed ts s)
pushed_append [] us s = refl
pushed_append (t ∷ ts) us s = pushed_append ts us (made t ∷ s)
