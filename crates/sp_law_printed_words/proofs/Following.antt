-- Where words stand that are written along a layout, by what the word before and the last word are.
use Rattle.std.proofs.Common.{◌≡◌, ℕ, List, [], ◌∷◌, ◌++◌, Bool, true, false, ◌&&◌, ◌||◌, not, cond, nat_lt, Option, Some, None, map, inl, inr, refl, sym, subst, ap}
use Rattle.std.specs.List.{AllByRecursion}
use Rattle.sp_lex.specs.Elements.{ends_operand}
use Rattle.sp_lex.specs.declared.kinds.TokenKind.{TokenKind}
use Rattle.sp_lex.specs.declared.kinds.TokenKind.TheVariants as token
use Rattle.sp_words.specs.declared.punctuation.Punctuation.TheVariants as punctuation
use Rattle.sp_lex.specs.Signs.{word_kind}
use Rattle.sp_literals.specs.Values.{IsName}
use Rattle.sp_ast.specs.Trees.{Tree, Trees, node, none, more}
use Rattle.sp_ast.specs.declared.forms.Form.{Form}
use Rattle.sp_ast.specs.declared.forms.Form.TheVariants as form_is
use Rattle.sp_ast.specs.declared.forms.ExprForm.TheVariants as expr_is
use Rattle.sp_ast.specs.declared.forms.BaseForm.TheVariants as base_is
use Rattle.sp_print.specs.declared.layouts.Frame.{Frame}
use Rattle.sp_print.specs.declared.layouts.Separator.{Separator}
use Rattle.sp_print.specs.declared.layouts.Separator.TheVariants as separator
use Rattle.sp_print.specs.declared.layouts.PartLayout.{PartLayout}
use Rattle.sp_print.specs.declared.layouts.PartLayout.TheVariants as layout_is
use Rattle.sp_print.specs.declared.layouts.Piece.{Piece}
use Rattle.sp_print.specs.declared.layouts.Piece.TheVariants as piece
use Rattle.sp_print.specs.Layouts.{opening, closing, between}
use Rattle.sp_print.specs.Own.{own_words}
use Rattle.sp_print.specs.Words.{Word, fixed, name, number, text, bytes, regex, kind_of}
use Rattle.sp_print.specs.Canonical.{Writing, Part, part_of, nothing, these, chain, kinds, last_kind, enclosed, divides, is_absent, is_empty_row, is_regex, level_of, divides_behind, last_divides, needs_parentheses, at_place, least, is_dividend, anywhere, followed, listed, framed, part, laid, spelled, rowed, parts_of}
use Rattle.sp_law_printed_words.specs.Sound.{read_as, IsSound, may_follow, ArePlaced}
use Rattle.sp_law_printed_words.specs.Formed.{is_regex_base, HaveNoRegexBase}

-- What is known of the word before: of the kind that it has, and of the one as which it is read. A name has the kind ID,
-- and may be read as `skip`.
abbrev pub Agree : Option TokenKind → Option TokenKind → Type 0
Agree (Some k) (Some r) = ends_operand k ≡ false → ends_operand r ≡ false
Agree k r = ⊥

-- the kind as which the last word is read
abbrev last_read : Option TokenKind → List Word → Option TokenKind
last_read before [] = before
last_read before (w ∷ ws) = last_read (Some (read_as w)) ws

-- Behind a word of which the first holds, the words stand where they may, and the second holds of the last one.
abbrev pub Goes : (Option TokenKind → Type 0) → Writing → (Option TokenKind → Type 0) → Type 0
Goes P x Q = (k r : Option TokenKind) → Agree k r → P r → ArePlaced r (x k) × Q (last_read r (x k))

-- a word before; one behind which a / divides, and one behind which it doesn't
abbrev pub Any : Option TokenKind → Type 0
Any r = Unit {0}

abbrev pub Ends : Option TokenKind → Type 0
Ends r = divides r ≡ true

abbrev pub Free : Option TokenKind → Type 0
Free r = divides r ≡ false

word_agrees : (w : Word) → Agree (Some (kind_of w)) (Some (read_as w))
word_agrees (fixed kind) e = e
word_agrees (name x) e = cc
word_agrees (number n) e = e
word_agrees (text x) e = e
word_agrees (bytes x) e = e
word_agrees (regex x) e = e

agree_last : (ws : List Word) (k r : Option TokenKind) → Agree k r → Agree (last_kind k ws) (last_read r ws)
agree_last [] k r agree = agree
agree_last (w ∷ ws) k r agree = agree_last ws (Some (kind_of w)) (Some (read_as w)) (word_agrees w)

free_before : (k r : Option TokenKind) → Agree k r → divides k ≡ false → divides r ≡ false
free_before (Some k) (Some r) agree e = agree e
free_before None r agree e = absurd agree
free_before (Some k) None agree e = absurd agree

last_append : (xs ys : List Word) (r : Option TokenKind) → last_read r (xs ++ ys) ≡ last_read (last_read r xs) ys
last_append [] ys r = refl
last_append (x ∷ xs) ys r = last_append xs ys (Some (read_as x))

placed_append : (xs ys : List Word) (r : Option TokenKind) → ArePlaced r xs → ArePlaced (last_read r xs) ys → ArePlaced r (xs ++ ys)
placed_append [] ys r one two = two
placed_append (x ∷ xs) ys r one two = (one.0, placed_append xs ys (Some (read_as x)) one.1 two)

pub chain_goes : (P Q R : Option TokenKind → Type 0) (x y : Writing) → Goes P x Q → Goes Q y R → Goes P (chain x y) R
chain_goes P Q R x y one two k r agree p =
    let h = one k r agree p in
    let g = two (last_kind k (x k)) (last_read r (x k)) (agree_last (x k) k r agree) h.1 in
    (placed_append (x k) (y (last_kind k (x k))) r h.0 g.0, subst R (sym (last_append (x k) (y (last_kind k (x k))) r)) g.1)

-- a token that may stand behind any
abbrev pub plain_kind : TokenKind → Bool
plain_kind (token.Punctuation punctuation.Slash) = false
plain_kind (token.Punctuation punctuation.ColonColon) = false
plain_kind token.Regex = false
plain_kind _ = true

plain_may : (r kind : TokenKind) → plain_kind kind ≡ true → may_follow (Some r) kind ≡ true
plain_may r (token.Punctuation punctuation.Slash) e = cc
plain_may r (token.Punctuation punctuation.ColonColon) e = cc
plain_may r token.Regex e = cc
plain_may r kind e = refl

pub some_may : (k r : Option TokenKind) (kind : TokenKind) → Agree k r → plain_kind kind ≡ true → may_follow r kind ≡ true
some_may (Some k) (Some r) kind agree e = plain_may r kind e
some_may None r kind agree e = absurd agree
some_may (Some k) None kind agree e = absurd agree

pub nothing_goes : (P : Option TokenKind → Type 0) → Goes P nothing P
nothing_goes P k r agree p = (tt, p)

pub kind_goes : (P Q : Option TokenKind → Type 0) (kind : TokenKind) → plain_kind kind ≡ true → Q (Some kind) → Goes P (kinds (kind ∷ [])) Q
kind_goes P Q kind e q k r agree p = ((some_may k r kind agree e, tt), q)

abbrev plain_kinds : List TokenKind → Bool
plain_kinds [] = true
plain_kinds (k ∷ ks) = plain_kind k && plain_kinds ks

pub both : (a b : Bool) → (a && b) ≡ true → (a ≡ true) × (b ≡ true)
both true b h = (refl, h)
both false b h = cc

plain_placed : (ks : List TokenKind) (k r : Option TokenKind) → plain_kinds ks ≡ true → Agree k r → ArePlaced r (map fixed ks)
plain_placed [] k r e agree = tt
plain_placed (kind ∷ ks) k r e agree =
    let h = both (plain_kind kind) (plain_kinds ks) e in
    (some_may k r kind agree h.0, plain_placed ks (Some kind) (Some kind) h.1 (λ free. free))

kinds_goes : (P : Option TokenKind → Type 0) (ks : List TokenKind) → plain_kinds ks ≡ true → Goes P (kinds ks) Any
kinds_goes P ks e k r agree p = (plain_placed ks k r e agree, tt)

-- in parentheses anything may stand that may stand behind a (
enclosed_goes : (P Q R : Option TokenKind → Type 0) (x : Writing) → P (Some (token.Punctuation punctuation.LeftParen)) → R (Some (token.Punctuation punctuation.RightParen)) → Goes P x Q → Goes Any (enclosed x) R
enclosed_goes P Q R x p last go =
    chain_goes Any P R (kinds (token.Punctuation punctuation.LeftParen ∷ [])) (chain x (kinds (token.Punctuation punctuation.RightParen ∷ []))) (kind_goes Any P (token.Punctuation punctuation.LeftParen) refl p)
    (chain_goes P Q R x (kinds (token.Punctuation punctuation.RightParen ∷ [])) go (kind_goes Q R (token.Punctuation punctuation.RightParen) refl last))

-- a regular expression
abbrev is_slashed : Tree → Bool
is_slashed (node (form_is.Expr (expr_is.Regex x)) span ts) = true
is_slashed (node (form_is.Base (base_is.Regex x)) span ts) = true
is_slashed t = false

-- a tree whose last word ends an operand
abbrev pub ends : Tree → Bool
ends (node form_is.Path span ts) = true
ends (node (form_is.Expr expr_is.Choice) span ts) = false
ends (node (form_is.Expr form) span ts) = last_divides (form_is.Expr form) ts
ends t = false

-- what a tree wants of the word before, and what is known of its last word
abbrev pub Before : Tree → Option TokenKind → Type 0
Before t r = is_slashed t ≡ true → Free r

abbrev pub After : Tree → Option TokenKind → Type 0
After t r = ends t ≡ true → Ends r

-- it does, by itself and as a row
abbrev pub IsReady : Tree → Type 0
IsReady t = Goes (Before t) (spelled t) (After t) × ((by : Separator) → plain_kinds (between by) ≡ true → Goes Any (rowed t by) Any)

abbrev pub AreReady : Trees → Type 0
AreReady none = Unit {0}
AreReady (more t ts) = IsReady t × AreReady ts

pub neither : (a b c : Bool) → (a || b || c) ≡ false → (a ≡ false) × (b ≡ false) × (c ≡ false)
neither false false false e = (refl, refl, refl)
neither true b c e = cc
neither false true c e = cc
neither false false true e = cc

left_true : (a b : Bool) → a ≡ true → (a && b) ≡ false → b ≡ false
left_true true b e f = f
left_true false b e f = cc

regex_or_base : (t : Tree) → is_slashed t ≡ true → is_regex_base t ≡ false → is_regex t ≡ true
regex_or_base (node (form_is.Expr (expr_is.Regex x)) span ts) e f = refl
regex_or_base (node (form_is.Base (base_is.Regex x)) span ts) e f = cc
regex_or_base t e f = cc

module _ (tight : ℕ) (dividend : Bool) (t : Tree) (P Q : Option TokenKind → Type 0) (ready : IsReady t) where
  -- without parentheses
  abbrev IsBare : Option TokenKind → Type 0
  IsBare k = needs_parentheses tight dividend t k ≡ false

  place_by : (needs : Bool) (k r : Option TokenKind) → Agree k r → (needs ≡ false → Before t r) → (needs ≡ false → (s : Option TokenKind) → After t s → Q s) → Q (Some (token.Punctuation punctuation.RightParen))
      → ArePlaced r (cond needs (enclosed (spelled t) k) (spelled t k)) × Q (last_read r (cond needs (enclosed (spelled t) k) (spelled t k)))
  place_by true k r agree start end last = enclosed_goes (Before t) (After t) Q (spelled t) (λ is. refl) last ready.0 k r agree tt
  place_by false k r agree start end last = let h = ready.0 k r agree (start refl) in (h.0, end refl (last_read r (spelled t k)) h.1)

  pub place_goes : ((k r : Option TokenKind) → Agree k r → P r → IsBare k → Before t r) → ((k : Option TokenKind) → IsBare k → (s : Option TokenKind) → After t s → Q s) → Q (Some (token.Punctuation punctuation.RightParen))
      → Goes P (at_place tight dividend t (spelled t)) Q
  place_goes start end last k r agree p = place_by (needs_parentheses tight dividend t k) k r agree (start k r agree p) (end k) last

-- what is not a regular expression as a base may stand at any place
pub any_place : (tight : ℕ) (dividend : Bool) (t : Tree) → is_regex_base t ≡ false → (k r : Option TokenKind) → Agree k r → needs_parentheses tight dividend t k ≡ false → Before t r
any_place tight dividend t base k r agree bare slashed =
    let h = neither (nat_lt (level_of t) tight) (dividend && not (divides_behind t)) (is_regex t && divides k) bare in
    free_before k r agree (left_true (is_regex t) (divides k) (regex_or_base t slashed base) h.2)

pub anywhere_goes : (t : Tree) → IsReady t → is_regex_base t ≡ false → Goes Any (anywhere (part_of t)) Any
anywhere_goes t ready base = place_goes 1 false t Any Any ready (λ k r agree p bare. any_place 1 false t base k r agree bare) (λ k bare s after. tt) tt

pub base_goes : (t : Tree) → IsReady t → Goes Free (anywhere (part_of t)) Any
base_goes t ready = place_goes 1 false t Free Any ready (λ k r agree p bare slashed. p) (λ k bare s after. tt) tt

-- rows
followed_goes : (by : Separator) (ts : Trees) → plain_kinds (between by) ≡ true → AreReady ts → HaveNoRegexBase ts → Goes Any (followed by (parts_of ts)) Any
followed_goes by none e ready bases = nothing_goes Any
followed_goes by (more t ts) e ready bases =
    chain_goes Any Any Any (kinds (between by)) (chain (anywhere (part_of t)) (followed by (parts_of ts))) (kinds_goes Any (between by) e)
    (chain_goes Any Any Any (anywhere (part_of t)) (followed by (parts_of ts)) (anywhere_goes t ready.0 bases.0) (followed_goes by ts e ready.1 bases.1))

pub listed_goes : (by : Separator) (ts : Trees) → plain_kinds (between by) ≡ true → AreReady ts → HaveNoRegexBase ts → Goes Any (listed by (parts_of ts)) Any
listed_goes by none e ready bases = nothing_goes Any
listed_goes by (more t ts) e ready bases = chain_goes Any Any Any (anywhere (part_of t)) (followed by (parts_of ts)) (anywhere_goes t ready.0 bases.0) (followed_goes by ts e ready.1 bases.1)

pub by_test : (P Q : Option TokenKind → Type 0) (b : Bool) (x y : Writing) → Goes P x Q → Goes P y Q → Goes P (cond b x y) Q
by_test P Q true x y one two = one
by_test P Q false x y one two = two

pub framed_goes : (around : Frame) (t : Tree) → (plain_kinds (opening around) && plain_kinds (closing around)) ≡ true → IsReady t → is_regex_base t ≡ false → Goes Any (framed around (part_of t)) Any
framed_goes around t e ready base =
    let h = both (plain_kinds (opening around)) (plain_kinds (closing around)) e in
    by_test Any Any (is_absent t) nothing (chain (kinds (opening around)) (chain (anywhere (part_of t)) (kinds (closing around)))) (nothing_goes Any)
    (chain_goes Any Any Any (kinds (opening around)) (chain (anywhere (part_of t)) (kinds (closing around))) (kinds_goes Any (opening around) h.0)
    (chain_goes Any Any Any (anywhere (part_of t)) (kinds (closing around)) (anywhere_goes t ready base) (kinds_goes Any (closing around) h.1)))

pub arguments_goes : (P : Option TokenKind → Type 0) (form : Form) (t : Tree) → P (Some (token.Punctuation punctuation.RightParen)) → IsReady t → Goes P (part form layout_is.Arguments (part_of t)) P
arguments_goes P form t last ready =
    by_test P P (is_empty_row t) nothing (enclosed (rowed t separator.Comma)) (nothing_goes P)
    (λ k r agree p. enclosed_goes Any Any P (rowed t separator.Comma) tt last (ready.1 separator.Comma refl) k r agree tt)

-- a layout in which all may stand behind anything
abbrev plain_part : PartLayout → Bool
plain_part (layout_is.Optional around) = plain_kinds (opening around) && plain_kinds (closing around)
plain_part (layout_is.Row by) = plain_kinds (between by)
plain_part p = true

abbrev pub plain_pieces : List Piece → Bool
plain_pieces [] = true
plain_pieces (piece.Word kind ∷ ps) = plain_kind kind && plain_pieces ps
plain_pieces (piece.Own ∷ ps) = plain_pieces ps
plain_pieces (piece.All by ∷ ps) = plain_kinds (between by) && plain_pieces ps
plain_pieces (piece.Part p ∷ ps) = plain_part p && plain_pieces ps

pub part_goes : (form : Form) (p : PartLayout) (t : Tree) → plain_part p ≡ true → IsReady t → is_regex_base t ≡ false → Goes Any (part form p (part_of t)) Any
part_goes form (layout_is.One at) t e ready base =
    place_goes (least form at) (is_dividend form at) t Any Any ready (λ k r agree p bare. any_place (least form at) (is_dividend form at) t base k r agree bare) (λ k bare s after. tt) tt
part_goes form (layout_is.Optional around) t e ready base = framed_goes around t e ready base
part_goes form (layout_is.Row by) t e ready base = ready.1 by e
part_goes form layout_is.Arguments t e ready base = arguments_goes Any form t tt ready
part_goes form layout_is.Hooks t e ready base = by_test Any Any (is_empty_row t) (kinds (token.Punctuation punctuation.Semicolon ∷ [])) (rowed t separator.Nothing) (kinds_goes Any (token.Punctuation punctuation.Semicolon ∷ []) refl) (ready.1 separator.Nothing refl)

pub laid_goes : (form : Form) (ps : List Piece) (ts : Trees) → plain_pieces ps ≡ true → Goes Any (these (own_words form)) Any → AreReady ts → HaveNoRegexBase ts → Goes Any (laid form ps (parts_of ts)) Any
laid_goes form [] ts e own ready bases = nothing_goes Any
laid_goes form (piece.Word kind ∷ ps) ts e own ready bases =
    let h = both (plain_kind kind) (plain_pieces ps) e in
    chain_goes Any Any Any (kinds (kind ∷ [])) (laid form ps (parts_of ts)) (kind_goes Any Any kind h.0 tt) (laid_goes form ps ts h.1 own ready bases)
laid_goes form (piece.Own ∷ ps) ts e own ready bases = chain_goes Any Any Any (these (own_words form)) (laid form ps (parts_of ts)) own (laid_goes form ps ts e own ready bases)
laid_goes form (piece.All by ∷ ps) ts e own ready bases =
    let h = both (plain_kinds (between by)) (plain_pieces ps) e in
    chain_goes Any Any Any (listed by (parts_of ts)) (laid form ps []) (listed_goes by ts h.0 ready bases) (laid_goes form ps none h.1 own tt tt)
laid_goes form (piece.Part p ∷ ps) none e own ready bases = laid_goes form ps none (both (plain_part p) (plain_pieces ps) e).1 own ready bases
laid_goes form (piece.Part p ∷ ps) (more t ts) e own ready bases =
    let h = both (plain_part p) (plain_pieces ps) e in
    chain_goes Any Any Any (part form p (part_of t)) (laid form ps (parts_of ts)) (part_goes form p t h.0 ready.0 bases.0) (laid_goes form ps ts h.1 own ready.1 bases.1)

-- whether a layout ends with a word that ends an operand, or is empty and the word before does
abbrev pub ends_from : Bool → List Piece → Bool
ends_from ending [] = ending
ends_from ending (piece.Word kind ∷ ps) = ends_from (ends_operand kind) ps
ends_from ending (p ∷ ps) = ends_from false ps

chain_last : (x y : Writing) (k r : Option TokenKind) → Ends (last_read (last_read r (x k)) (y (last_kind k (x k)))) → Ends (last_read r (chain x y k))
chain_last x y k r last = subst Ends (sym (last_append (x k) (y (last_kind k (x k))) r)) last

pub laid_ends : (form : Form) (ps : List Piece) (xs : List Part) (ending : Bool) → ends_from ending ps ≡ true → (k r : Option TokenKind) → (ending ≡ true → Ends r) → Ends (last_read r (laid form ps xs k))
laid_ends form [] xs ending e k r last = last e
laid_ends form (piece.Word kind ∷ ps) xs ending e k r last = laid_ends form ps xs (ends_operand kind) e (Some kind) (Some kind) (λ end. end)
laid_ends form (piece.Own ∷ ps) xs ending e k r last =
    chain_last (these (own_words form)) (laid form ps xs) k r (laid_ends form ps xs false e (last_kind k (own_words form)) (last_read r (own_words form)) (λ f. cc))
laid_ends form (piece.All by ∷ ps) xs ending e k r last =
    chain_last (listed by xs) (laid form ps []) k r (laid_ends form ps [] false e (last_kind k (listed by xs k)) (last_read r (listed by xs k)) (λ f. cc))
laid_ends form (piece.Part p ∷ ps) [] ending e k r last = laid_ends form ps [] false e k r (λ f. cc)
laid_ends form (piece.Part p ∷ ps) (x ∷ xs) ending e k r last =
    chain_last (part form p x) (laid form ps xs) k r (laid_ends form ps xs false e (last_kind k (part form p x k)) (last_read r (part form p x k)) (λ f. cc))

-- the words that an alternative tells, but the / and regular expressions
abbrev pub plain_words : List Word → Bool
plain_words [] = true
plain_words (fixed kind ∷ ws) = plain_kind kind && plain_words ws
plain_words (regex x ∷ ws) = false
plain_words (w ∷ ws) = plain_words ws

pub name_plain : (kind : TokenKind) → IsName kind → plain_kind kind ≡ true
name_plain kind (inl e) = ap plain_kind e
name_plain kind (inr e) = ap plain_kind e

words_placed : (ws : List Word) → plain_words ws ≡ true → AllByRecursion IsSound ws → (k r : Option TokenKind) → Agree k r → ArePlaced r ws
words_placed [] e sound k r agree = tt
words_placed (fixed kind ∷ ws) e sound k r agree =
    let h = both (plain_kind kind) (plain_words ws) e in (some_may k r kind agree h.0, words_placed ws h.1 sound.1 (Some kind) (Some kind) (λ free. free))
words_placed (name x ∷ ws) e sound k r agree = (some_may k r (word_kind x) agree (name_plain (word_kind x) sound.0.2), words_placed ws e sound.1 (Some token.Id) (Some (word_kind x)) (λ free. cc))
words_placed (number n ∷ ws) e sound k r agree = (some_may k r token.Number agree refl, words_placed ws e sound.1 (Some token.Number) (Some token.Number) (λ free. free))
words_placed (text x ∷ ws) e sound k r agree = (some_may k r token.String agree refl, words_placed ws e sound.1 (Some token.String) (Some token.String) (λ free. free))
words_placed (bytes x ∷ ws) e sound k r agree = (some_may k r token.Bytes agree refl, words_placed ws e sound.1 (Some token.Bytes) (Some token.Bytes) (λ free. free))
words_placed (regex x ∷ ws) e sound k r agree = cc

pub own_goes : (form : Form) → plain_words (own_words form) ≡ true → AllByRecursion IsSound (own_words form) → Goes Any (these (own_words form)) Any
own_goes form e sound k r agree p = (words_placed (own_words form) e sound k r agree, tt)
