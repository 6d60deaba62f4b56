-- The words of a tree don't look at places.
use Rattle.std.specs.Prelude.{◌||◌, not, if◌then◌else◌, nat_lt}
use Rattle.std.proofs.Common.{◌≡◌, ℕ, ◌+◌, List, [], ◌∷◌, map, Bool, false, ◌&&◌, Option, None, refl, ap, ◌∙◌}
use Rattle.std.proofs.Math.Path.{fun_ext}
use Rattle.sp_lex.specs.declared.kinds.TokenKind.{TokenKind}
use Rattle.sp_lex.specs.declared.kinds.TokenKind.TheVariants as token
use Rattle.sp_words.specs.declared.punctuation.Punctuation.TheVariants as punctuation
use Rattle.sp_words.specs.Operators.{level}
use Rattle.sp_ast.specs.Trees.{Tree, Trees, node, absent, row, none, more}
use Rattle.sp_ast.specs.declared.forms.Form.{Form}
use Rattle.sp_ast.specs.declared.forms.Form.TheVariants as form_is
use Rattle.sp_ast.specs.declared.forms.ExprForm.TheVariants as expr_is
use Rattle.sp_print.specs.declared.layouts.Frame.{Frame}
use Rattle.sp_print.specs.declared.layouts.Separator.{Separator}
use Rattle.sp_print.specs.declared.layouts.Separator.TheVariants as separator
use Rattle.sp_print.specs.declared.layouts.PartLayout.{PartLayout}
use Rattle.sp_print.specs.declared.layouts.PartLayout.TheVariants as part_is
use Rattle.sp_print.specs.declared.layouts.Piece.{Piece}
use Rattle.sp_print.specs.declared.layouts.Piece.TheVariants as piece
use Rattle.sp_print.specs.Own.{own_words}
use Rattle.sp_print.specs.Layouts.{layout, opening, closing, between}
use Rattle.sp_print.specs.Canonical.{Writing, Part, nothing, these, chain, kinds, enclosed, form_level, level_of, is_bare, is_skip, is_regex, divides, divides_behind, last_divides, needs_parentheses, at_place, least, is_dividend, is_absent, is_empty_row, anywhere, followed, listed, framed, part, laid, spelled, rowed, parts_of, row_of, declarations}
use Rattle.sp_law_printed_words.specs.Modules.{lines_of, module_lines}
use Rattle.sp_law_round_trip.specs.Bare.{bare, bares}

-- what decides on the parentheses round a tree
is_absent_bare : (t : Tree) → is_absent (bare t) ≡ is_absent t
is_absent_bare absent = refl
is_absent_bare t = refl

empty_bare : (t : Tree) → is_empty_row (bare t) ≡ is_empty_row t
empty_bare (row none) = refl
empty_bare t = refl

arguments_bare : (ts : Trees) → is_bare (bares ts) ≡ is_bare ts
arguments_bare (more path (more arguments ts)) = empty_bare arguments
arguments_bare ts = refl

form_level_bare : (form : Form) (ts : Trees) → form_level form (bares ts) ≡ form_level form ts
form_level_bare (form_is.Expr expr_is.New) ts = ap (λ b. if b then 14 else 15) (arguments_bare ts)
form_level_bare form ts = refl

level_bare : (t : Tree) → level_of (bare t) ≡ level_of t
level_bare (node form span ts) = form_level_bare form ts
level_bare t = refl

skip_bare : (t : Tree) → is_skip (bare t) ≡ is_skip t
skip_bare (node (form_is.Name x) span ts) = refl
skip_bare t = refl

mutual
  divides_bare : (t : Tree) → divides_behind (bare t) ≡ divides_behind t
  divides_bare absent = refl
  divides_bare (row ts) = refl
  divides_bare (node form span ts) = last_bare form ts

  last_bare : (form : Form) (ts : Trees) → last_divides form (bares ts) ≡ last_divides form ts
  last_bare (form_is.Expr expr_is.Member) (more t (more n ts)) = ap not (skip_bare n)
  last_bare (form_is.Expr (expr_is.Unary op)) (more t ts) = ap (λ n. nat_lt n 13 || divides_behind (bare t)) (level_bare t) ∙ ap (λ b. nat_lt (level_of t) 13 || b) (divides_bare t)
  last_bare (form_is.Expr (expr_is.Binary op)) (more t (more u ts)) =
      ap (λ n. nat_lt n (level op + 1) || divides_behind (bare u)) (level_bare u) ∙ ap (λ b. nat_lt (level_of u) (level op + 1) || b) (divides_bare u)
  last_bare form ts = refl

regex_bare : (t : Tree) → is_regex (bare t) ≡ is_regex t
regex_bare (node (form_is.Expr (expr_is.Regex x)) span ts) = refl
regex_bare t = refl

needs_bare : (tight : ℕ) (dividend : Bool) (t : Tree) (before : Option TokenKind) → needs_parentheses tight dividend (bare t) before ≡ needs_parentheses tight dividend t before
needs_bare tight dividend t before =
    let level = level_bare t in
    let behind = divides_bare t in
    let regex = regex_bare t in
    ap (λ n. nat_lt n tight || (dividend && not (divides_behind (bare t))) || (is_regex (bare t) && divides before)) level
    ∙ ap (λ b. nat_lt (level_of t) tight || (dividend && not b) || (is_regex (bare t) && divides before)) behind
    ∙ ap (λ b. nat_lt (level_of t) tight || (dividend && not (divides_behind t)) || (b && divides before)) regex

place_bare : (tight : ℕ) (dividend : Bool) (t : Tree) (x : Writing) → at_place tight dividend (bare t) x ≡ at_place tight dividend t x
place_bare tight dividend t x = fun_ext (λ before. ap (λ b. if b then enclosed x before else x before) (needs_bare tight dividend t before))

-- a part whose tree stands nowhere, written as before
abbrev moved : Part → Part
moved x = record { tree = bare x.tree; plain = x.plain; in_row = x.in_row }

anywhere_moved : (x : Part) → anywhere (moved x) ≡ anywhere x
anywhere_moved x = place_bare 1 false x.tree x.plain

followed_moved : (by : Separator) (xs : List Part) → followed by (map moved xs) ≡ followed by xs
followed_moved by [] = refl
followed_moved by (x ∷ xs) =
    ap (λ w. chain (kinds (between by)) (chain w (followed by (map moved xs)))) (anywhere_moved x) ∙ ap (λ w. chain (kinds (between by)) (chain (anywhere x) w)) (followed_moved by xs)

listed_moved : (by : Separator) (xs : List Part) → listed by (map moved xs) ≡ listed by xs
listed_moved by [] = refl
listed_moved by (x ∷ xs) = ap (λ w. chain w (followed by (map moved xs))) (anywhere_moved x) ∙ ap (λ w. chain (anywhere x) w) (followed_moved by xs)

framed_moved : (around : Frame) (x : Part) → framed around (moved x) ≡ framed around x
framed_moved around x =
    ap (λ b. if b then nothing else chain (kinds (opening around)) (chain (anywhere (moved x)) (kinds (closing around)))) (is_absent_bare x.tree)
    ∙ ap (λ w. if is_absent x.tree then nothing else chain (kinds (opening around)) (chain w (kinds (closing around)))) (anywhere_moved x)

part_moved : (form : Form) (p : PartLayout) (x : Part) → part form p (moved x) ≡ part form p x
part_moved form (part_is.One at) x = place_bare (least form at) (is_dividend form at) x.tree x.plain
part_moved form (part_is.Optional around) x = framed_moved around x
part_moved form (part_is.Row by) x = refl
part_moved form part_is.Arguments x = ap (λ b. if b then nothing else enclosed (x.in_row separator.Comma)) (empty_bare x.tree)
part_moved form part_is.Hooks x = ap (λ b. if b then kinds (token.Punctuation punctuation.Semicolon ∷ []) else x.in_row separator.Nothing) (empty_bare x.tree)

laid_moved : (form : Form) (ps : List Piece) (xs : List Part) → laid form ps (map moved xs) ≡ laid form ps xs
laid_moved form [] xs = refl
laid_moved form (piece.Word kind ∷ ps) xs = ap (λ w. chain (kinds (kind ∷ [])) w) (laid_moved form ps xs)
laid_moved form (piece.Own ∷ ps) xs = ap (λ w. chain (these (own_words form)) w) (laid_moved form ps xs)
laid_moved form (piece.All by ∷ ps) xs = ap (λ w. chain w (laid form ps [])) (listed_moved by xs)
laid_moved form (piece.Part p ∷ ps) [] = laid_moved form ps []
laid_moved form (piece.Part p ∷ ps) (x ∷ xs) = ap (λ w. chain w (laid form ps (map moved xs))) (part_moved form p x) ∙ ap (λ w. chain (part form p x) w) (laid_moved form ps xs)

mutual
  pub spelled_bare : (t : Tree) → spelled (bare t) ≡ spelled t
  spelled_bare absent = refl
  spelled_bare (row ts) = refl
  spelled_bare (node form span ts) = ap (λ xs. laid form (layout form) xs) (parts_bare ts) ∙ laid_moved form (layout form) (parts_of ts)

  rowed_bare : (t : Tree) → rowed (bare t) ≡ rowed t
  rowed_bare absent = refl
  rowed_bare (row ts) = fun_ext (λ by. ap (λ xs. listed by xs) (parts_bare ts) ∙ listed_moved by (parts_of ts))
  rowed_bare (node form span ts) = refl

  parts_bare : (ts : Trees) → parts_of (bares ts) ≡ map moved (parts_of ts)
  parts_bare none = refl
  parts_bare (more t ts) =
      ap (λ w. record { tree = bare t; plain = w; in_row = rowed (bare t) } ∷ parts_of (bares ts)) (spelled_bare t)
      ∙ ap (λ w. record { tree = bare t; plain = spelled t; in_row = w } ∷ parts_of (bares ts)) (rowed_bare t)
      ∙ ap (λ xs. record { tree = bare t; plain = spelled t; in_row = rowed t } ∷ xs) (parts_bare ts)

lines_bare : (ts : Trees) → lines_of (bares ts) ≡ lines_of ts
lines_bare none = refl
lines_bare (more t ts) = ap (λ w. w None ∷ lines_of (bares ts)) (spelled_bare t) ∙ ap (λ lines. spelled t None ∷ lines) (lines_bare ts)

row_bare : (t : Tree) → row_of (bare t) ≡ bares (row_of t)
row_bare (row ts) = refl
row_bare t = refl

declarations_bare : (m : Tree) → declarations (bare m) ≡ bares (declarations m)
declarations_bare (node form span (more name (more r ts))) = row_bare r
declarations_bare t = refl

-- the words of a module are those of the module apart from places
pub lines_same : (m : Tree) → module_lines (bare m) ≡ module_lines m
lines_same m = ap (λ w. w None ∷ lines_of (declarations (bare m))) (spelled_bare m) ∙ ap (λ lines. spelled m None ∷ lines) (ap lines_of (declarations_bare m) ∙ lines_bare (declarations m))
