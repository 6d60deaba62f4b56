-- What each tree tells, read off its layout: its words in the order of the text, but for those that do not stay. A layout is
-- a list of shapes, and so is what a production has read; a test finds out whether the second is written as the first.
use Rattle.std.specs.Prelude.{◌&&◌, ◌||◌, if◌then◌else◌}
use Rattle.std.proofs.Common.{◌≡◌, ℕ, zero, suc, List, [], ◌∷◌, ◌++◌, map, Bool, true, false, ◌==◌, refl, sym, ◌∙◌, ap, subst, inl, inr, append_assoc}
use Rattle.std.proofs.lemmas.Bool.{and_parts, or_cases, eqb-true}
use Rattle.std.proofs.lemmas.List.{append-nil}
use Rattle.sp_phrases.specs.Kinds.{number_of, terminal_of}
use Rattle.sp_ast.specs.declared.forms.Form.{Form}
use Rattle.sp_ast.specs.declared.forms.Form.TheVariants as form_is
use Rattle.sp_ast.specs.Trees.{Tree, Trees, absent, row, node, none, more, trees}
use Rattle.sp_ast.specs.Groups.{is_node}
use Rattle.sp_build.proofs.Told.{never}
use Rattle.sp_print.specs.declared.layouts.Frame.{Frame}
use Rattle.sp_print.specs.declared.layouts.Frame.TheVariants as frame
use Rattle.sp_print.specs.declared.layouts.Separator.{Separator}
use Rattle.sp_print.specs.declared.layouts.Separator.TheVariants as separator
use Rattle.sp_print.specs.declared.layouts.PartLayout.TheVariants as layout_is
use Rattle.sp_print.specs.declared.layouts.Piece.{Piece}
use Rattle.sp_print.specs.declared.layouts.Piece.TheVariants as piece
use Rattle.sp_print.specs.Canonical.{is_absent}
use Rattle.sp_print.specs.Layouts.{layout, opening, between}
use Rattle.sp_print.specs.Own.{own_words}
use Rattle.sp_print.specs.Words.{Word, fixed}
use Rattle.sp_law_round_trip.specs.Bare.{nowhere}
use Rattle.sp_law_round_trip.proofs.Chunks.{same_frame, same_separator}
use Rattle.sp_law_round_trip.proofs.HeardWords.{heard}
use Rattle.sp_law_round_trip.proofs.Laid.{is_frame, is_separator}
use Rattle.sp_law_round_trip.proofs.Singles.{is_single, kind_for, kind_again}

-- how trees stand among words: one; one that may be left out, or is; any number, one at least, those that follow another;
-- a row
pub data Way : Type 0 where
  one : Way
  optional : Frame → Way
  left_out : Way
  listed some followed in_row : Separator → Way

pub data Shape : Type 0 where
  word : Word → Shape
  tree : Way → Shape

abbrev pub words : List Word → List Shape
words ws = map word ws

-- what stays of the words before a part that can be left out, and between parts in a row
abbrev pub frame_words : Frame → List Word
frame_words around = heard (map fixed (opening around))

abbrev pub between_words : Separator → List Word
between_words by = heard (map fixed (between by))

-- a comma does not stay
abbrev pub quiet : Separator → Separator
quiet separator.Comma = separator.Nothing
quiet by = by

abbrev pub unframed : Frame → Frame
unframed frame.Parentheses = frame.Bare
unframed around = around

abbrev piece_shapes : Form → Piece → List Shape
piece_shapes form (piece.Word k) = words (heard (fixed k ∷ []))
piece_shapes form piece.Own = words (heard (own_words form))
piece_shapes form (piece.All by) = tree (listed (quiet by)) ∷ []
piece_shapes form (piece.Part (layout_is.One at)) = tree one ∷ []
piece_shapes form (piece.Part (layout_is.Optional around)) = tree (optional (unframed around)) ∷ []
piece_shapes form (piece.Part (layout_is.Row by)) = tree (in_row (quiet by)) ∷ []
piece_shapes form (piece.Part layout_is.Arguments) = tree (in_row separator.Nothing) ∷ []
piece_shapes form (piece.Part layout_is.Hooks) = tree (in_row separator.Nothing) ∷ []

abbrev pieces : Form → List Piece → List Shape
pieces form [] = []
pieces form (p ∷ ps) = piece_shapes form p ++ pieces form ps

-- the declarations of a module are lines of their own
abbrev lines_behind : Form → List Shape
lines_behind form_is.Module = tree (in_row separator.Nothing) ∷ []
lines_behind form = []

abbrev pub shapes_of : Form → List Shape
shapes_of form = pieces form (layout form) ++ lines_behind form

-- the same behind the first piece
abbrev behind_first : List Piece → List Piece
behind_first [] = []
behind_first (p ∷ ps) = ps

abbrev pub rest_shapes : Form → List Shape
rest_shapes form = pieces form (behind_first (layout form)) ++ lines_behind form

-- A part of a tree: the tree that it is, its words before others, and those of the row that it is.
record Said : Type 0 where
  tree : Tree
  plain : List Word → List Word
  in_row : Separator → List Word → List Word

abbrev trailing : Separator → List Said → List Word → List Word
trailing by [] r = r
trailing by (x ∷ xs) r = between_words by ++ x.plain (trailing by xs r)

abbrev joined : Separator → List Said → List Word → List Word
joined by [] r = r
joined by (x ∷ xs) r = x.plain (trailing by xs r)

abbrev way_words : Way → Said → List Word → List Word
way_words (optional around) x r = if is_absent x.tree then r else frame_words around ++ x.plain r
way_words (in_row by) x r = x.in_row by r
way_words y x r = x.plain r

abbrev writes : List Shape → List Said → List Word → List Word
writes [] xs r = r
writes (word w ∷ cs) xs r = w ∷ writes cs xs r
writes (tree (listed by) ∷ cs) xs r = joined by xs (writes cs [] r)
writes (tree y ∷ cs) [] r = writes cs [] r
writes (tree y ∷ cs) (x ∷ xs) r = way_words y x (writes cs xs r)

-- the words of a tree, and then others
abbrev mutual
  pub tree_words : Tree → List Word → List Word
  tree_words (node form span ts) r = writes (shapes_of form) (parts_of ts) r
  tree_words _ r = r

  row_words : Tree → Separator → List Word → List Word
  row_words (row ts) by r = joined by (parts_of ts) r
  row_words _ by r = r

  parts_of : Trees → List Said
  parts_of none = []
  parts_of (more t ts) = record { tree = t; plain = tree_words t; in_row = row_words t } ∷ parts_of ts

abbrev part_of : Tree → Said
part_of t = record { tree = t; plain = tree_words t; in_row = row_words t }

-- the trees that stand so
abbrev pub Hold : Way → Type 0
Hold one = (t : Tree) × (is_node t ≡ true)
Hold (optional around) = Tree
Hold left_out = Unit {0}
Hold (listed by) = List Tree
Hold (some by) = (t : Tree) × List Tree
Hold (followed by) = List Tree
Hold (in_row by) = Tree

abbrev pub trees_of : (y : Way) → Hold y → List Tree
trees_of one h = h.0 ∷ []
trees_of (optional around) t = t ∷ []
trees_of left_out h = absent ∷ []
trees_of (listed by) ts = ts
trees_of (some by) h = h.0 ∷ h.1
trees_of (followed by) ts = ts
trees_of (in_row by) t = t ∷ []

abbrev pub text_of : (y : Way) → Hold y → List Word → List Word
text_of one h r = tree_words h.0 r
text_of (optional around) t r = way_words (optional around) (part_of t) r
text_of left_out h r = r
text_of (listed by) ts r = joined by (parts_of (trees ts)) r
text_of (some by) h r = joined by (parts_of (trees (h.0 ∷ h.1))) r
text_of (followed by) ts r = trailing by (parts_of (trees ts)) r
text_of (in_row by) t r = row_words t by r

abbrev pub HoldOf : Shape → Type 0
HoldOf (word w) = Unit {0}
HoldOf (tree y) = Hold y

-- trees by the shapes in which they stand, and all words there before others
abbrev pub Split : List Shape → Type 0
Split [] = Unit {0}
Split (c ∷ cs) = (h : HoldOf c) × Split cs

abbrev pub trees_in : (cs : List Shape) → Split cs → List Tree
trees_in [] sp = []
trees_in (word w ∷ cs) sp = trees_in cs sp.1
trees_in (tree y ∷ cs) sp = trees_of y sp.0 ++ trees_in cs sp.1

abbrev pub wrote : (cs : List Shape) → Split cs → List Word → List Word
wrote [] sp r = r
wrote (word w ∷ cs) sp r = w ∷ wrote cs sp.1 r
wrote (tree y ∷ cs) sp r = text_of y sp.0 (wrote cs sp.1 r)

-- two that are the same trees and words
abbrev pub Same : (cs ds : List Shape) → Split cs → Split ds → Type 0
Same cs ds sp sq = (trees_in cs sp ≡ trees_in ds sq) × ((r : List Word) → wrote cs sp r ≡ wrote ds sq r)

then_same : (cs ds es : List Shape) (sp : Split cs) (sq : Split ds) (sr : Split es) → Same cs ds sp sq → Same ds es sq sr → Same cs es sp sr
then_same cs ds es sp sq sr a b = (a.0 ∙ b.0, λ r. a.1 r ∙ b.1 r)

same_behind : (c : Shape) (h : HoldOf c) (cs ds : List Shape) (sp : Split cs) (sq : Split ds) → Same cs ds sp sq → Same (c ∷ cs) (c ∷ ds) (h, sp) (h, sq)
same_behind (word w) h cs ds sp sq a = (a.0, λ r. ap (λ ws. w ∷ ws) (a.1 r))
same_behind (tree y) h cs ds sp sq a = (ap (λ ts. trees_of y h ++ ts) a.0, λ r. ap (text_of y h) (a.1 r))

-- two lists of shapes, one behind the other
pub joined_split : (cs ds : List Shape) (sp : Split cs) (sq : Split ds) → (x : Split (cs ++ ds)) × (trees_in (cs ++ ds) x ≡ trees_in cs sp ++ trees_in ds sq) × ((r : List Word) → wrote (cs ++ ds) x r ≡ wrote cs sp (wrote ds sq r))
joined_split [] ds sp sq = (sq, refl, λ r. refl)
joined_split (word w ∷ cs) ds sp sq = let (x, all, says) = joined_split cs ds sp.1 sq in ((tt, x), all, λ r. ap (λ ws. w ∷ ws) (says r))
joined_split (tree y ∷ cs) ds sp sq =
    let (x, all, says) = joined_split cs ds sp.1 sq in
    ((sp.0, x), ap (λ ts. trees_of y sp.0 ++ ts) all ∙ sym (append_assoc (trees_of y sp.0) (trees_in cs sp.1) (trees_in ds sq)), λ r. ap (text_of y sp.0) (says r))

pub parted : (cs ds : List Shape) (x : Split (cs ++ ds)) → (sp : Split cs) × (sq : Split ds) × (trees_in (cs ++ ds) x ≡ trees_in cs sp ++ trees_in ds sq) × ((r : List Word) → wrote (cs ++ ds) x r ≡ wrote cs sp (wrote ds sq r))
parted [] ds x = (tt, x, refl, λ r. refl)
parted (word w ∷ cs) ds x = let (sp, sq, all, says) = parted cs ds x.1 in ((tt, sp), sq, all, λ r. ap (λ ws. w ∷ ws) (says r))
parted (tree y ∷ cs) ds x =
    let (sp, sq, all, says) = parted cs ds x.1 in
    ((x.0, sp), sq, ap (λ ts. trees_of y x.0 ++ ts) all ∙ sym (append_assoc (trees_of y x.0) (trees_in cs sp) (trees_in ds sq)), λ r. ap (text_of y x.0) (says r))

pub only_words : (ws : List Word) → Split (words ws)
only_words [] = tt
only_words (w ∷ ws) = (tt, only_words ws)

pub words_in : (ws : List Word) (sp : Split (words ws)) → (trees_in (words ws) sp ≡ []) × ((r : List Word) → wrote (words ws) sp r ≡ ws ++ r)
words_in [] sp = (refl, λ r. refl)
words_in (w ∷ ws) sp = let (none_there, says) = words_in ws sp.1 in (none_there, λ r. ap (λ vs. w ∷ vs) (says r))

-- tests of equality
abbrev same_word : Word → Word → Bool
same_word (fixed j) (fixed k) = is_single j && (is_single k && (number_of (terminal_of j) == number_of (terminal_of k)))
same_word _ _ = false

is_word : (v w : Word) → same_word v w ≡ true → v ≡ w
is_word (fixed j) (fixed k) ok =
    let (j_is, rest) = and_parts (is_single j) (is_single k && (number_of (terminal_of j) == number_of (terminal_of k))) ok in
    let (k_is, same) = and_parts (is_single k) (number_of (terminal_of j) == number_of (terminal_of k)) rest in
    ap fixed (sym (kind_again j j_is) ∙ ap kind_for (eqb-true (number_of (terminal_of j)) (number_of (terminal_of k)) same) ∙ kind_again k k_is)
is_word v w ok = never ok

abbrev same_way : Way → Way → Bool
same_way one one = true
same_way (optional f) (optional g) = same_frame f g
same_way left_out left_out = true
same_way (listed f) (listed g) = same_separator f g
same_way (some f) (some g) = same_separator f g
same_way (followed f) (followed g) = same_separator f g
same_way (in_row f) (in_row g) = same_separator f g
same_way _ _ = false

is_way : (x y : Way) → same_way x y ≡ true → y ≡ x
is_way one one ok = refl
is_way (optional f) (optional g) ok = ap optional (is_frame f g ok)
is_way left_out left_out ok = refl
is_way (listed f) (listed g) ok = ap listed (is_separator f g ok)
is_way (some f) (some g) ok = ap some (is_separator f g ok)
is_way (followed f) (followed g) ok = ap followed (is_separator f g ok)
is_way (in_row f) (in_row g) ok = ap in_row (is_separator f g ok)
is_way x y ok = never ok

abbrev same_shape : Shape → Shape → Bool
same_shape (word v) (word w) = same_word v w
same_shape (tree x) (tree y) = same_way x y
same_shape _ _ = false

is_shape : (c d : Shape) → same_shape c d ≡ true → c ≡ d
is_shape (word v) (word w) ok = ap word (is_word v w ok)
is_shape (tree x) (tree y) ok = ap tree (sym (is_way x y ok))
is_shape c d ok = never ok

-- what else is written so
abbrev alternatives : Way → List (List Shape)
alternatives (optional around) = (tree left_out ∷ []) ∷ (words (frame_words around) ++ tree one ∷ []) ∷ []
alternatives (listed separator.Nothing) = [] ∷ (tree one ∷ tree (listed separator.Nothing) ∷ []) ∷ []
alternatives (listed by) = [] ∷ (tree one ∷ tree (followed by) ∷ []) ∷ (tree (some by) ∷ []) ∷ []
alternatives (some by) = (tree one ∷ tree (followed by) ∷ []) ∷ (tree (some by) ∷ tree (followed by) ∷ []) ∷ []
alternatives (followed by) = [] ∷ (words (between_words by) ++ tree one ∷ tree (followed by) ∷ []) ∷ []
alternatives _ = []

abbrev others : Shape → List (List Shape)
others (word w) = []
others (tree y) = alternatives y

-- the first shape is this one, and the rest passes
abbrev heads : List Shape → Shape → (List Shape → Bool) → Bool
heads [] d go = false
heads (c ∷ cs) d go = same_shape c d && go cs

abbrev tries : List (List Shape) → List Shape → List Shape → (List Shape → List Shape → Bool) → Bool
tries [] cs ds go = false
tries ([] ∷ alts) cs ds go = go cs ds || tries alts cs ds go
tries ((b ∷ bs) ∷ alts) cs ds go = heads cs b (λ rest. go rest (bs ++ ds)) || tries alts cs ds go

abbrev pub no_shapes : List Shape → Bool
no_shapes [] = true
no_shapes (c ∷ cs) = false

-- The first shapes are written as the second.
abbrev pub covers : ℕ → List Shape → List Shape → Bool
covers zero cs ds = false
covers (suc n) cs [] = no_shapes cs
covers (suc n) cs (d ∷ ds) = heads cs d (λ rest. covers n rest ds) || tries (others d) cs ds (λ xs ys. covers n xs ys)

abbrev Wider : List Shape → List Shape → Type 0
Wider cs ds = (sp : Split cs) → (sq : Split ds) × Same cs ds sp sq

abbrev EachWider : Shape → List (List Shape) → Type 0
EachWider d [] = Unit {0}
EachWider d (a ∷ alts) = ((ds : List Shape) → Wider (a ++ ds) (d ∷ ds)) × EachWider d alts

framed_node : (around : Frame) (t : Tree) → is_node t ≡ true → (r : List Word) → frame_words around ++ tree_words t r ≡ text_of (optional around) t r
framed_node around (node form span ts) h r = refl
framed_node around absent h r = never h
framed_node around (row ts) h r = never h

framed_wider : (around : Frame) (ds : List Shape) → Wider ((words (frame_words around) ++ tree one ∷ []) ++ ds) (tree (optional around) ∷ ds)
framed_wider around ds sp =
    let (inner, sq, all, says) = parted (words (frame_words around) ++ tree one ∷ []) ds sp in
    let (before, alone, all_inner, says_inner) = parted (words (frame_words around)) (tree one ∷ []) inner in
    let (none_there, says_words) = words_in (frame_words around) before in
    let t = alone.0.0 in (
      (t, sq),
      (
        all ∙ ap (λ ts. ts ++ trees_in ds sq) (all_inner ∙ ap (λ ts. ts ++ t ∷ []) none_there),
        λ r. says r ∙ says_inner (wrote ds sq r) ∙ says_words (tree_words t (wrote ds sq r)) ∙ framed_node around t alone.0.1 (wrote ds sq r),
      ),
    )

followed_wider : (by : Separator) (ds : List Shape) → Wider ((words (between_words by) ++ tree one ∷ tree (followed by) ∷ []) ++ ds) (tree (followed by) ∷ ds)
followed_wider by ds sp =
    let (inner, sq, all, says) = parted (words (between_words by) ++ tree one ∷ tree (followed by) ∷ []) ds sp in
    let (before, alone, all_inner, says_inner) = parted (words (between_words by)) (tree one ∷ tree (followed by) ∷ []) inner in
    let (none_there, says_words) = words_in (between_words by) before in
    let t = alone.0.0 in
    let us = alone.1.0 in (
      (t ∷ us, sq),
      (
        all ∙ ap (λ ts. ts ++ trees_in ds sq) (all_inner ∙ ap (λ ts. ts ++ t ∷ (us ++ [])) none_there ∙ ap (λ ts. t ∷ ts) (append-nil us)),
        λ r. says r ∙ says_inner (wrote ds sq r) ∙ says_words (text_of one alone.0 (text_of (followed by) us (wrote ds sq r))),
      ),
    )

nothing_between : (xs : List Said) (r : List Word) → joined separator.Nothing xs r ≡ trailing separator.Nothing xs r
nothing_between [] r = refl
nothing_between (x ∷ xs) r = refl

trailing_both : (by : Separator) (ts us : List Tree) (r : List Word) → trailing by (parts_of (trees ts)) (trailing by (parts_of (trees us)) r) ≡ trailing by (parts_of (trees (ts ++ us))) r
trailing_both by [] us r = refl
trailing_both by (t ∷ ts) us r = ap (λ ws. between_words by ++ tree_words t ws) (trailing_both by ts us r)

listed_wider : (by : Separator) (ds : List Shape) → Wider (tree one ∷ tree (followed by) ∷ ds) (tree (listed by) ∷ ds)
listed_wider by ds sp = ((sp.0.0 ∷ sp.1.0, sp.1.1), (refl, λ r. refl))

some_wider : (by : Separator) (ds : List Shape) → Wider (tree (some by) ∷ ds) (tree (listed by) ∷ ds)
some_wider by ds sp = ((sp.0.0 ∷ sp.0.1, sp.1), (refl, λ r. refl))

grown_wider : (by : Separator) (ds : List Shape) → Wider (tree (some by) ∷ tree (followed by) ∷ ds) (tree (some by) ∷ ds)
grown_wider by ds sp =
    let t = sp.0.0 in
    let ts = sp.0.1 in
    let us = sp.1.0 in (
      ((t, ts ++ us), sp.1.1),
      (ap (λ vs. t ∷ vs) (sym (append_assoc ts us (trees_in ds sp.1.1))), λ r. ap (tree_words t) (trailing_both by ts us (wrote ds sp.1.1 r))),
    )

none_wider : (by : Separator) (ds : List Shape) → Wider ds (tree (listed by) ∷ ds)
none_wider by ds sp = (([], sp), (refl, λ r. refl))

each_wider : (d : Shape) → EachWider d (others d)
each_wider (word w) = tt
each_wider (tree one) = tt
each_wider (tree (optional around)) = (λ ds sp. ((absent, sp.1), (refl, λ r. refl)), (framed_wider around, tt))
each_wider (tree left_out) = tt
each_wider (tree (listed separator.Nothing)) = (
  none_wider separator.Nothing,
  (λ ds sp. ((sp.0.0 ∷ sp.1.0, sp.1.1), (refl, λ r. ap (tree_words sp.0.0) (nothing_between (parts_of (trees sp.1.0)) (wrote ds sp.1.1 r)))), tt),
)
each_wider (tree (listed separator.Comma)) = (none_wider separator.Comma, (listed_wider separator.Comma, (some_wider separator.Comma, tt)))
each_wider (tree (listed separator.Scope)) = (none_wider separator.Scope, (listed_wider separator.Scope, (some_wider separator.Scope, tt)))
each_wider (tree (listed separator.ElseIf)) = (none_wider separator.ElseIf, (listed_wider separator.ElseIf, (some_wider separator.ElseIf, tt)))
each_wider (tree (some by)) = (λ ds sp. (((sp.0.0, sp.1.0), sp.1.1), (refl, λ r. refl)), (grown_wider by, tt))
each_wider (tree (followed by)) = (λ ds sp. (([], sp), (refl, λ r. refl)), (followed_wider by, tt))
each_wider (tree (in_row by)) = tt

abbrev Headed : List Shape → Shape → (List Shape → Bool) → (cs : List Shape) → Split cs → Type 0
Headed all d go cs sp = (rest : List Shape) × (h : HoldOf d) × (sr : Split rest) × (go rest ≡ true) × Same cs (d ∷ rest) sp (h, sr)

heads_on : (cs : List Shape) (d : Shape) (go : List Shape → Bool) (sp : Split cs) → heads cs d go ≡ true → Headed cs d go cs sp
heads_on [] d go sp ok = never ok
heads_on (c ∷ cs) d go sp ok =
    let (same, goes) = and_parts (same_shape c d) (go cs) ok in
    subst (λ x. Headed (c ∷ cs) x go (c ∷ cs) sp) (is_shape c d same) (cs, sp.0, sp.1, goes, (refl, λ r. refl))

abbrev Onward : (List Shape → List Shape → Bool) → Type 0
Onward go = (xs ys : List Shape) (sp : Split xs) → go xs ys ≡ true → (sq : Split ys) × Same xs ys sp sq

tries_on : (d : Shape) (alts : List (List Shape)) → EachWider d alts → (cs ds : List Shape) (go : List Shape → List Shape → Bool) → Onward go → (sp : Split cs) → tries alts cs ds go ≡ true → (sq : Split (d ∷ ds)) × Same cs (d ∷ ds) sp sq
tries_on d [] wider cs ds go on sp ok = never ok
tries_on d ([] ∷ alts) wider cs ds go on sp ok = elim (or_cases (go cs ds) (tries alts cs ds go) ok) [
  | inl here ↦ (
      let (sq, same) = on cs ds sp here in
      let (sr, also) = wider.0 ds sq in
      (sr, then_same cs ds (d ∷ ds) sp sq sr same also)
      )
  | inr later ↦ tries_on d alts wider.1 cs ds go on sp later
]
tries_on d ((b ∷ bs) ∷ alts) wider cs ds go on sp ok = elim (or_cases (heads cs b (λ rest. go rest (bs ++ ds))) (tries alts cs ds go) ok) [
  | inl here ↦ (
      let (rest, h, sr, goes, same) = heads_on cs b (λ rest. go rest (bs ++ ds)) sp here in
      let (sq, more_same) = on rest (bs ++ ds) sr goes in
      let (sz, also) = wider.0 ds (h, sq) in
      (sz, then_same cs (b ∷ rest) (d ∷ ds) sp (h, sr) sz same (then_same (b ∷ rest) (b ∷ (bs ++ ds)) (d ∷ ds) (h, sr) (h, sq) sz (same_behind b h rest (bs ++ ds) sr sq more_same) also))
      )
  | inr later ↦ tries_on d alts wider.1 cs ds go on sp later
]

pub covers_on : (n : ℕ) (cs ds : List Shape) (sp : Split cs) → covers n cs ds ≡ true → (sq : Split ds) × Same cs ds sp sq
covers_on zero cs ds sp ok = never ok
covers_on (suc n) [] [] sp ok = (tt, (refl, λ r. refl))
covers_on (suc n) (c ∷ cs) [] sp ok = never ok
covers_on (suc n) cs (d ∷ ds) sp ok = elim (or_cases (heads cs d (λ rest. covers n rest ds)) (tries (others d) cs ds (λ xs ys. covers n xs ys)) ok) [
  | inl here ↦ (
      let (rest, h, sr, goes, same) = heads_on cs d (λ rest. covers n rest ds) sp here in
      let (sq, more_same) = covers_on n rest ds sr goes in
      ((h, sq), then_same cs (d ∷ rest) (d ∷ ds) sp (h, sr) (h, sq) same (same_behind d h rest ds sr sq more_same))
      )
  | inr also ↦ tries_on d (others d) (each_wider d) cs ds (λ xs ys. covers n xs ys) (λ xs ys sx. covers_on n xs ys sx) sp also
]

-- A tree is written as its shapes are, where trees of any number stand last.
abbrev has_no_tree : List Shape → Bool
has_no_tree [] = true
has_no_tree (word w ∷ cs) = has_no_tree cs
has_no_tree (c ∷ cs) = false

abbrev pub are_ordered : List Shape → Bool
are_ordered [] = true
are_ordered (word w ∷ cs) = are_ordered cs
are_ordered (tree one ∷ cs) = are_ordered cs
are_ordered (tree (optional around) ∷ cs) = are_ordered cs
are_ordered (tree (in_row by) ∷ cs) = are_ordered cs
are_ordered (tree (listed by) ∷ cs) = has_no_tree cs && are_ordered cs
are_ordered _ = false

no_tree_in : (cs : List Shape) (sp : Split cs) → has_no_tree cs ≡ true → trees_in cs sp ≡ []
no_tree_in [] sp ok = refl
no_tree_in (word w ∷ cs) sp ok = no_tree_in cs sp.1 ok
no_tree_in (tree y ∷ cs) sp ok = never ok

written_so : (cs : List Shape) (sp : Split cs) → are_ordered cs ≡ true → (r : List Word) → writes cs (parts_of (trees (trees_in cs sp))) r ≡ wrote cs sp r
written_so [] sp ok r = refl
written_so (word w ∷ cs) sp ok r = ap (λ ws. w ∷ ws) (written_so cs sp.1 ok r)
written_so (tree one ∷ cs) sp ok r = ap (text_of one sp.0) (written_so cs sp.1 ok r)
written_so (tree (optional around) ∷ cs) sp ok r = ap (text_of (optional around) sp.0) (written_so cs sp.1 ok r)
written_so (tree (in_row by) ∷ cs) sp ok r = ap (text_of (in_row by) sp.0) (written_so cs sp.1 ok r)
written_so (tree (listed by) ∷ cs) sp ok r =
    let (none_behind, rest) = and_parts (has_no_tree cs) (are_ordered cs) ok in
    let gone = no_tree_in cs sp.1 none_behind in
    ap (λ ts. joined by (parts_of (trees (sp.0 ++ ts))) (writes cs [] r)) gone
    ∙ ap (λ ts. joined by (parts_of (trees ts)) (writes cs [] r)) (append-nil sp.0)
    ∙ ap (λ ws. joined by (parts_of (trees sp.0)) ws) (ap (λ ts. writes cs (parts_of (trees ts)) r) (sym gone) ∙ written_so cs sp.1 rest r)
written_so (tree left_out ∷ cs) sp ok r = never ok
written_so (tree (some by) ∷ cs) sp ok r = never ok
written_so (tree (followed by) ∷ cs) sp ok r = never ok

pub node_words : (form : Form) (cs : List Shape) (sp : Split cs) (ts : List Tree) → shapes_of form ≡ cs → are_ordered cs ≡ true → trees_in cs sp ≡ ts → (r : List Word) → tree_words (node form nowhere (trees ts)) r ≡ wrote cs sp r
node_words form cs sp ts is ok all r = ap (λ ds. writes ds (parts_of (trees ts)) r) is ∙ ap (λ us. writes cs (parts_of (trees us)) r) (sym all) ∙ written_so cs sp ok r
