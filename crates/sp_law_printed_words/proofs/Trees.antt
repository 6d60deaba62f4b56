-- What holds of all fixed words and of those that the alternatives in a tree tell holds of all words of the tree.
use Rattle.std.proofs.Common.{◌≡◌, List, [], ◌∷◌, ◌++◌, Bool, true, false, ◌&&◌, cond, Option, None, map, refl, rules, tests}
use Rattle.std.specs.List.{AllByRecursion}
use Rattle.sp_lex.specs.declared.kinds.TokenKind.{TokenKind}
use Rattle.sp_lex.specs.declared.kinds.TokenKind.TheVariants as token
use Rattle.sp_words.specs.declared.punctuation.Punctuation.TheVariants as punctuation
use Rattle.sp_ast.specs.Trees.{Tree, Trees, node, absent, row, none, more}
use Rattle.sp_ast.specs.declared.forms.Form.{Form}
use Rattle.sp_print.specs.declared.layouts.Frame.{Frame}
use Rattle.sp_print.specs.declared.layouts.Separator.{Separator}
use Rattle.sp_print.specs.declared.layouts.Separator.TheVariants as separator
use Rattle.sp_print.specs.declared.layouts.PartLayout.{PartLayout}
use Rattle.sp_print.specs.declared.layouts.PartLayout.TheVariants as part_is
use Rattle.sp_print.specs.declared.layouts.Piece.{Piece}
use Rattle.sp_print.specs.declared.layouts.Piece.TheVariants as piece
use Rattle.sp_print.specs.Words.{Word, fixed}
use Rattle.sp_print.specs.Own.{own_words}
use Rattle.sp_print.specs.Layouts.{layout, opening, closing, between}
use Rattle.sp_print.specs.Canonical.{Writing, Part, nothing, these, chain, kinds, last_kind, enclosed, needs_parentheses, at_place, least, is_dividend, is_absent, is_empty_row, anywhere, followed, listed, framed, part, laid, spelled, rowed, parts_of, row_of, declarations}
use Rattle.sp_law_printed_words.specs.Sound.{is_fixed}
use Rattle.sp_law_printed_words.specs.Modules.{lines_of, module_lines}
use Rattle.sp_law_printed_words.specs.Trees.{TellsOnly, TellOnly}

abbrev all_fixed : List TokenKind → Bool
all_fixed [] = true
all_fixed (k ∷ ks) = is_fixed k && all_fixed ks

both : (a b : Bool) → (a && b) ≡ true → (a ≡ true) × (b ≡ true)
both true b h = (refl, h)
both false b h = cc

between_fixed : (by : Separator) → all_fixed (between by) ≡ true
between_fixed by = search (rules, tests)

opening_fixed : (around : Frame) → all_fixed (opening around) ≡ true
opening_fixed around = search (rules, tests)

closing_fixed : (around : Frame) → all_fixed (closing around) ≡ true
closing_fixed around = search (rules, tests)

abbrev pieces_fixed : List Piece → Bool
pieces_fixed [] = true
pieces_fixed (piece.Word kind ∷ ps) = is_fixed kind && pieces_fixed ps
pieces_fixed (_ ∷ ps) = pieces_fixed ps

layout_fixed : (form : Form) → pieces_fixed (layout form) ≡ true
layout_fixed form = search (rules, tests)

module _ (P : Word → Type 0) (of_fixed : (k : TokenKind) → is_fixed k ≡ true → P (fixed k)) where
  -- it holds of all words that are written, whatever stands before them
  abbrev Writes : Writing → Type 0
  Writes x = (before : Option TokenKind) → AllByRecursion P (x before)

  all_append : (xs ys : List Word) → AllByRecursion P xs → AllByRecursion P ys → AllByRecursion P (xs ++ ys)
  all_append [] ys first second = second
  all_append (x ∷ xs) ys first second = (first.0, all_append xs ys first.1 second)

  chain_holds : (x y : Writing) → Writes x → Writes y → Writes (chain x y)
  chain_holds x y first second before = all_append (x before) (y (last_kind before (x before))) (first before) (second (last_kind before (x before)))

  fixed_holds : (ks : List TokenKind) → all_fixed ks ≡ true → AllByRecursion P (map fixed ks)
  fixed_holds [] h = tt
  fixed_holds (k ∷ ks) h = let parts = both (is_fixed k) (all_fixed ks) h in (of_fixed k parts.0, fixed_holds ks parts.1)

  kinds_holds : (ks : List TokenKind) → all_fixed ks ≡ true → Writes (kinds ks)
  kinds_holds ks h before = fixed_holds ks h

  enclosed_holds : (x : Writing) → Writes x → Writes (enclosed x)
  enclosed_holds x all =
      chain_holds (kinds (token.Punctuation punctuation.LeftParen ∷ [])) (chain x (kinds (token.Punctuation punctuation.RightParen ∷ []))) (kinds_holds (token.Punctuation punctuation.LeftParen ∷ []) refl)
      (chain_holds x (kinds (token.Punctuation punctuation.RightParen ∷ [])) all (kinds_holds (token.Punctuation punctuation.RightParen ∷ []) refl))

  by_test : (b : Bool) (xs ys : List Word) → AllByRecursion P xs → AllByRecursion P ys → AllByRecursion P (cond b xs ys)
  by_test true xs ys first second = first
  by_test false xs ys first second = second

  place_holds : (tight : _) (dividend : Bool) (t : Tree) (x : Writing) → Writes x → Writes (at_place tight dividend t x)
  place_holds tight dividend t x all before = by_test (needs_parentheses tight dividend t before) (enclosed x before) (x before) (enclosed_holds x all before) (all before)

  -- a part, by itself and as a row
  abbrev IsPart : Part → Type 0
  IsPart x = Writes x.plain × ((by : Separator) → Writes (x.in_row by))

  anywhere_holds : (x : Part) → IsPart x → Writes (anywhere x)
  anywhere_holds x all = place_holds 1 false x.tree x.plain all.0

  followed_holds : (by : Separator) (xs : List Part) → AllByRecursion IsPart xs → Writes (followed by xs)
  followed_holds by [] all = λ before. tt
  followed_holds by (x ∷ xs) all =
      chain_holds (kinds (between by)) (chain (anywhere x) (followed by xs)) (kinds_holds (between by) (between_fixed by))
      (chain_holds (anywhere x) (followed by xs) (anywhere_holds x all.0) (followed_holds by xs all.1))

  listed_holds : (by : Separator) (xs : List Part) → AllByRecursion IsPart xs → Writes (listed by xs)
  listed_holds by [] all = λ before. tt
  listed_holds by (x ∷ xs) all = chain_holds (anywhere x) (followed by xs) (anywhere_holds x all.0) (followed_holds by xs all.1)

  writing_by : (b : Bool) (x y : Writing) → Writes x → Writes y → Writes (cond b x y)
  writing_by true x y first second = first
  writing_by false x y first second = second

  framed_holds : (around : Frame) (x : Part) → IsPart x → Writes (framed around x)
  framed_holds around x all =
      writing_by (is_absent x.tree) nothing (chain (kinds (opening around)) (chain (anywhere x) (kinds (closing around)))) (λ before. tt)
      (chain_holds (kinds (opening around)) (chain (anywhere x) (kinds (closing around))) (kinds_holds (opening around) (opening_fixed around))
      (chain_holds (anywhere x) (kinds (closing around)) (anywhere_holds x all) (kinds_holds (closing around) (closing_fixed around))))

  part_holds : (form : Form) (p : PartLayout) (x : Part) → IsPart x → Writes (part form p x)
  part_holds form (part_is.One at) x all = place_holds (least form at) (is_dividend form at) x.tree x.plain all.0
  part_holds form (part_is.Optional around) x all = framed_holds around x all
  part_holds form (part_is.Row by) x all = all.1 by
  part_holds form part_is.Arguments x all = writing_by (is_empty_row x.tree) nothing (enclosed (x.in_row separator.Comma)) (λ before. tt) (enclosed_holds (x.in_row separator.Comma) (all.1 separator.Comma))
  part_holds form part_is.Hooks x all = writing_by (is_empty_row x.tree) (kinds (token.Punctuation punctuation.Semicolon ∷ [])) (x.in_row separator.Nothing) (kinds_holds (token.Punctuation punctuation.Semicolon ∷ []) refl) (all.1 separator.Nothing)

  laid_holds : (form : Form) (ps : List Piece) (xs : List Part) → pieces_fixed ps ≡ true → AllByRecursion P (own_words form) → AllByRecursion IsPart xs → Writes (laid form ps xs)
  laid_holds form [] xs is own all = λ before. tt
  laid_holds form (piece.Word kind ∷ ps) xs is own all =
      let parts = both (is_fixed kind) (pieces_fixed ps) is in
      chain_holds (kinds (kind ∷ [])) (laid form ps xs) (λ before. (of_fixed kind parts.0, tt)) (laid_holds form ps xs parts.1 own all)
  laid_holds form (piece.Own ∷ ps) xs is own all = chain_holds (these (own_words form)) (laid form ps xs) (λ before. own) (laid_holds form ps xs is own all)
  laid_holds form (piece.All by ∷ ps) xs is own all = chain_holds (listed by xs) (laid form ps []) (listed_holds by xs all) (laid_holds form ps [] is own tt)
  laid_holds form (piece.Part p ∷ ps) [] is own all = laid_holds form ps [] is own all
  laid_holds form (piece.Part p ∷ ps) (x ∷ xs) is own all = chain_holds (part form p x) (laid form ps xs) (part_holds form p x all.0) (laid_holds form ps xs is own all.1)

  mutual
    pub spelled_holds : (t : Tree) → TellsOnly P t → Writes (spelled t)
    spelled_holds (node form span ts) all = laid_holds form (layout form) (parts_of ts) (layout_fixed form) all.0 (parts_holds ts all.1)
    spelled_holds (row ts) all = λ before. tt
    spelled_holds absent all = λ before. tt

    rowed_holds : (t : Tree) → TellsOnly P t → (by : Separator) → Writes (rowed t by)
    rowed_holds (row ts) all by = listed_holds by (parts_of ts) (parts_holds ts all)
    rowed_holds (node form span ts) all by = λ before. tt
    rowed_holds absent all by = λ before. tt

    parts_holds : (ts : Trees) → TellOnly P ts → AllByRecursion IsPart (parts_of ts)
    parts_holds none all = tt
    parts_holds (more t ts) all = ((spelled_holds t all.0, rowed_holds t all.0), parts_holds ts all.1)

  lines_holds : (ts : Trees) → TellOnly P ts → AllByRecursion (AllByRecursion P) (lines_of ts)
  lines_holds none all = tt
  lines_holds (more t ts) all = (spelled_holds t all.0 None, lines_holds ts all.1)

  row_holds : (t : Tree) → TellsOnly P t → TellOnly P (row_of t)
  row_holds (row ts) all = all
  row_holds (node form span ts) all = tt
  row_holds absent all = tt

  declarations_holds : (m : Tree) → TellsOnly P m → TellOnly P (declarations m)
  declarations_holds (node form span (more name (more r ts))) all = row_holds r all.1.1.0
  declarations_holds (node form span (more name none)) all = tt
  declarations_holds (node form span none) all = tt
  declarations_holds (row ts) all = tt
  declarations_holds absent all = tt

  -- the words of a module
  pub module_holds : (m : Tree) → TellsOnly P m → AllByRecursion (AllByRecursion P) (module_lines m)
  module_holds m all = (spelled_holds m all None, lines_holds (declarations m) (declarations_holds m all))
