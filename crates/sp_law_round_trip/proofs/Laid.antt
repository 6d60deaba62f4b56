-- Chunks that pass a test are written as the layout of an alternative is, or as the yield of a part.
use Rattle.std.specs.Prelude.{not, ◌&&◌}
use Rattle.std.proofs.Common.{◌≡◌, ℕ, zero, suc, List, [], ◌∷◌, ◌++◌, get_or, Bool, true, false, ◌==◌, Option, Some, refl, sym, ap, subst, ◌∙◌, eqb-true}
use Rattle.std.proofs.Math.Path.{fun_ext}
use Rattle.std.proofs.lemmas.Bool.{and_parts, not-true}
use Rattle.std.proofs.lemmas.List.{append-nil, append_assoc}
use Rattle.sp_lex.specs.declared.kinds.TokenKind.{TokenKind}
use Rattle.sp_lex.specs.declared.kinds.TokenKind.TheVariants as kind
use Rattle.sp_words.specs.declared.punctuation.Punctuation.TheVariants as punctuation
use Rattle.sp_words.specs.declared.keywords.Keyword.TheVariants as keyword
use Rattle.sp_phrases.specs.Kinds.{number_of, terminal_of}
use Rattle.sp_ast.specs.declared.forms.Form.{Form}
use Rattle.sp_ast.specs.declared.forms.Form.TheVariants as form_is
use Rattle.sp_ast.specs.Trees.{Tree, absent, row, node, trees}
use Rattle.sp_ast.specs.Groups.{is_node}
use Rattle.sp_build.proofs.Standing.{some_equal, not_some, if_some}
use Rattle.sp_build.proofs.Told.{never}
use Rattle.sp_print.specs.declared.layouts.Frame.{Frame}
use Rattle.sp_print.specs.declared.layouts.Frame.TheVariants as frame
use Rattle.sp_print.specs.declared.layouts.Separator.{Separator}
use Rattle.sp_print.specs.declared.layouts.Separator.TheVariants as separator
use Rattle.sp_print.specs.declared.layouts.PartLayout.{PartLayout}
use Rattle.sp_print.specs.declared.layouts.PartLayout.TheVariants as layout_is
use Rattle.sp_print.specs.declared.layouts.Piece.{Piece}
use Rattle.sp_print.specs.declared.layouts.Piece.TheVariants as piece
use Rattle.sp_print.specs.Canonical.{Writing, nothing, these, chain, kinds, at_place, least, is_dividend, spelled, parts_of, part_of, part, laid}
use Rattle.sp_print.specs.Layouts.{layout, opening, closing, between}
use Rattle.sp_print.specs.Own.{own_words}
use Rattle.sp_print.specs.Words.{Word, fixed}
use Rattle.sp_law_round_trip.specs.Bare.{nowhere}
use Rattle.sp_law_round_trip.proofs.Singles.{kind_for, is_single, kind_again}
use Rattle.sp_law_round_trip.proofs.Shown.{Yield, one, optional, left_out, listed, followed, in_row, arguments, hooks, silent, yielded, Fits, IsOneNode, IsOneRow}
use Rattle.sp_law_round_trip.proofs.Chunks.{Chunk, word, tree, is_new, Owns, chunk_words, Split, no_chunk, a_chunk, wrote, node_chunk, frame_number, separator_number, same_frame, same_separator, is_token, is_end, is_treeless, words_come, one_comes, is_between, more_come, list_comes, optional_comes, part_comes, own_comes, laid_as, ends_as, row_chunks}
use Rattle.sp_law_round_trip.proofs.Piles.{chain_both}

chain_groups : (x y z : Writing) → chain (chain x y) z ≡ chain x (chain y z)
chain_groups x y z = fun_ext (chain_both x y z)

chain_nothing : (x : Writing) → chain x nothing ≡ x
chain_nothing x = fun_ext (λ last. append-nil (x last))

-- The trees that stand first, and how they are written; the chunks that are left pass a test.
record Came (Are : List Tree → Type 0) (said : List Tree → Writing) (go : List Chunk → Bool) (ts : List Tree) (w : Writing) : Type 0 where
  first : List Tree
  others : List Tree
  are : Are first
  rest : List Chunk
  split : Split rest others
  passes : go rest ≡ true
  all : ts ≡ first ++ others
  written : w ≡ chain (said first) (wrote split)

abbrev NoTrees : List Tree → Type 0
NoTrees us = us ≡ []

-- the first chunk
came : {c : Chunk} {cs : List Chunk} {ts : List Tree} (go : List Chunk → Bool) → go cs ≡ true → (sp : Split (c ∷ cs) ts) → Came (Owns c) (chunk_words c) go ts (wrote sp)
came go h (a_chunk us owns rest) = record { first = us; others = _; are = owns; rest = _; split = rest; passes = h; all = refl; written = refl }

-- the same trees, by what else they are, and how else they are said
as_well : {A B : List Tree → Type 0} {x y : List Tree → Writing} {go : List Chunk → Bool} {ts : List Tree} {w : Writing}
    → ((us : List Tree) → A us → B us) → ((us : List Tree) → A us → x us ≡ y us) → Came A x go ts w → Came B y go ts w
as_well are same c = record {
  first = c.first;
  others = c.others;
  are = are c.first c.are;
  rest = c.rest;
  split = c.split;
  passes = c.passes;
  all = c.all;
  written = c.written ∙ ap (λ z. chain z (wrote c.split)) (same c.first c.are);
}

-- a token of this number is of the kind
is_kind : (k : TokenKind) (e : ℕ) → is_token k e ≡ true → kind_for e ≡ k
is_kind k e h = let (single, same) = and_parts (is_single k) (number_of (terminal_of k) == e) h in sym (ap kind_for (eqb-true _ e same)) ∙ kind_again k single

-- tokens first, and then the others
words_came : (ks : List TokenKind) (cs : List Chunk) (go : List Chunk → Bool) (ts : List Tree) → words_come ks cs go ≡ true → (sp : Split cs ts) → Came NoTrees (λ us. kinds ks) go ts (wrote sp)
words_came [] cs go ts h sp = record { first = []; others = ts; are = refl; rest = cs; split = sp; passes = h; all = refl; written = refl }
words_came (k ∷ ks) (word e ∷ cs) go _ h (a_chunk {ts = us} none_first are_none sp) =
    let (is, more) = and_parts (is_token k e) (words_come ks cs go) h in
    let c = words_came ks cs go us more sp in
    record {
      first = none_first ++ c.first;
      others = c.others;
      are = ap (λ z. z ++ c.first) are_none ∙ c.are;
      rest = c.rest;
      split = c.split;
      passes = c.passes;
      all = ap (λ z. none_first ++ z) c.all ∙ sym (append_assoc none_first c.first c.others);
      written = ap (λ z. chain (kinds (z ∷ [])) (wrote sp)) (is_kind k e is) ∙ ap (chain (kinds (k ∷ []))) c.written;
    }
words_came (k ∷ ks) _ go ts h sp = never h

one_came : (cs : List Chunk) (go : List Chunk → Bool) (ts : List Tree) → one_comes cs go ≡ true → (sp : Split cs ts) → Came IsOneNode (yielded (one 1)) go ts (wrote sp)
one_came (tree (one (suc zero)) ∷ cs) go ts h sp = came go h sp
one_came _ go ts h sp = never h

-- words before what came, and behind it
words_before : (ks : List TokenKind) {A : List Tree → Type 0} {x : List Tree → Writing} {go step : List Chunk → Bool} {ts : List Tree} {w : Writing}
    → (c : Came NoTrees (λ us. kinds ks) step ts w) → Came A x go c.others (wrote c.split) → Came A (λ us. chain (kinds ks) (x us)) go ts w
words_before ks {x = x} c d = record {
  first = d.first;
  others = d.others;
  are = d.are;
  rest = d.rest;
  split = d.split;
  passes = d.passes;
  all = c.all ∙ ap (λ z. z ++ c.others) c.are ∙ d.all;
  written = c.written ∙ ap (chain (kinds ks)) d.written ∙ sym (chain_groups (kinds ks) (x d.first) (wrote d.split));
}

words_behind : (ks : List TokenKind) {A : List Tree → Type 0} {x : List Tree → Writing} {go step : List Chunk → Bool} {ts : List Tree} {w : Writing}
    → (c : Came A x step ts w) → Came NoTrees (λ us. kinds ks) go c.others (wrote c.split) → Came A (λ us. chain (x us) (kinds ks)) go ts w
words_behind ks {x = x} c d = record {
  first = c.first;
  others = d.others;
  are = c.are;
  rest = d.rest;
  split = d.split;
  passes = d.passes;
  all = c.all ∙ ap (λ z. c.first ++ z) (d.all ∙ ap (λ z. z ++ d.others) d.are);
  written = c.written ∙ ap (chain (x c.first)) d.written ∙ sym (chain_groups (x c.first) (kinds ks) (wrote d.split));
}

-- frames and separators by their numbers
abbrev frame_with : ℕ → Frame
frame_with n = get_or (frame.Bare ∷ frame.Parentheses ∷ frame.Colon ∷ frame.Scope ∷ frame.Equal ∷ frame.UpTo ∷ frame.Arrow ∷ frame.If ∷ frame.Else ∷ frame.Default ∷ frame.Priority ∷ []) n frame.Bare

frame_again : (f : Frame) → frame_with (frame_number f) ≡ f
frame_again frame.Bare = refl
frame_again f = refl

pub is_frame : (f g : Frame) → same_frame f g ≡ true → g ≡ f
is_frame f g h = sym (frame_again g) ∙ sym (ap frame_with (eqb-true (frame_number f) (frame_number g) h)) ∙ frame_again f

abbrev separator_with : ℕ → Separator
separator_with n = get_or (separator.Nothing ∷ separator.Comma ∷ separator.Scope ∷ separator.ElseIf ∷ []) n separator.Nothing

separator_again : (x : Separator) → separator_with (separator_number x) ≡ x
separator_again separator.Nothing = refl
separator_again x = refl

pub is_separator : (x y : Separator) → same_separator x y ≡ true → y ≡ x
is_separator x y h = sym (separator_again y) ∙ sym (ap separator_with (eqb-true (separator_number x) (separator_number y) h)) ∙ separator_again x

-- one tree with its frame round it
framed_node : (around : Frame) (t : Tree) → is_node t ≡ true → chain (kinds (opening around)) (chain (yielded (one 1) (t ∷ [])) (kinds (closing around))) ≡ yielded (optional around) (t ∷ [])
framed_node around (node form span ts) h = refl
framed_node around absent h = never h
framed_node around (row ts) h = never h

framed_came : (around : Frame) (cs : List Chunk) (go : List Chunk → Bool) (ts : List Tree)
    → words_come (opening around) cs (λ inner. one_comes inner (λ behind. words_come (closing around) behind go)) ≡ true
    → (sp : Split cs ts) → Came (Fits (optional around)) (yielded (optional around)) go ts (wrote sp)
framed_came around cs go ts h sp =
    let c = words_came (opening around) cs (λ inner. one_comes inner (λ behind. words_come (closing around) behind go)) ts h sp in
    let d = one_came c.rest (λ behind. words_come (closing around) behind go) c.others c.passes c.split in
    let e = words_came (closing around) d.rest go d.others d.passes d.split in
    let framing : (us : List Tree) → IsOneNode us → chain (kinds (opening around)) (chain (yielded (one 1) us) (kinds (closing around))) ≡ yielded (optional around) us =
    λ us (t, is, n). ap (λ z. chain (kinds (opening around)) (chain (yielded (one 1) z) (kinds (closing around)))) is ∙ framed_node around t n ∙ sym (ap (yielded (optional around)) is) in
    as_well (λ us (t, is, n). (t, is)) framing (words_before (opening around) c (words_behind (closing around) d e))

optional_came : (around : Frame) (cs : List Chunk) (go : List Chunk → Bool) (ts : List Tree) → optional_comes around cs go ≡ true → (sp : Split cs ts) → Came (Fits (optional around)) (yielded (optional around)) go ts (wrote sp)
optional_came around (tree (optional also) ∷ cs) go ts h sp =
    let (same, goes) = and_parts (same_frame around also) (go cs) h in
    subst (λ z. Came (Fits (optional z)) (yielded (optional z)) go ts (wrote sp)) (is_frame around also same) (came go goes sp)
optional_came around (tree left_out ∷ cs) go ts h sp = as_well (λ us is. (absent, is)) (λ us is. sym (ap (yielded (optional around)) is)) (came go h sp)
optional_came around cs go ts h sp = framed_came around cs go ts h sp

-- the one token that stands between parts in a row
between_one : (by : Separator) (e : ℕ) → is_between by e ≡ true → kinds (kind_for e ∷ []) ≡ kinds (between by)
between_one separator.Nothing e h = never h
between_one separator.Comma e h = ap (λ k. kinds (k ∷ [])) (is_kind (kind.Punctuation punctuation.Comma) e (and_parts _ true h).0)
between_one separator.Scope e h = ap (λ k. kinds (k ∷ [])) (is_kind (kind.Punctuation punctuation.ColonColon) e (and_parts _ true h).0)
between_one separator.ElseIf e h = never (and_parts (is_token (kind.Keyword keyword.Else) e) false h).1

-- rows with nothing between the trees follow a tree as they stand alone
pub nothing_between : (us : List Tree) → yielded (listed separator.Nothing) us ≡ yielded (followed separator.Nothing) us
nothing_between [] = refl
nothing_between (t ∷ us) = refl

abbrev IsSome : List Tree → Type 0
IsSome us = (t : Tree) × (rest : List Tree) × (us ≡ t ∷ rest)

-- a tree, and those that follow it
one_and_more : (by : Separator) (vs us : List Tree) {go : List Chunk → Bool} {w : Writing} → IsOneNode vs → Came (Fits (followed by)) (yielded (followed by)) go us w → Came IsSome (yielded (listed by)) go (vs ++ us) (chain (yielded (one 1) vs) w)
one_and_more by vs us {w = w} (t, is, n) d = record {
  first = t ∷ d.first;
  others = d.others;
  are = (t, d.first, refl);
  rest = d.rest;
  split = d.split;
  passes = d.passes;
  all = ap (λ z. z ++ us) is ∙ ap (λ z. t ∷ z) d.all;
  written = ap (λ z. chain (yielded (one 1) z) w) is ∙ ap (chain (yielded (one 1) (t ∷ []))) d.written ∙ sym (chain_groups (yielded (one 1) (t ∷ [])) (yielded (followed by) d.first) (wrote d.split));
}

more_came : (by : Separator) (cs : List Chunk) (go : List Chunk → Bool) (ts : List Tree) → more_come by cs go ≡ true → (sp : Split cs ts) → Came (Fits (followed by)) (yielded (followed by)) go ts (wrote sp)
more_came by (tree (followed also) ∷ cs) go ts h sp =
    let (same, goes) = and_parts (same_separator by also) (go cs) h in
    subst (λ z. Came (Fits (followed z)) (yielded (followed z)) go ts (wrote sp)) (is_separator by also same) (came go goes sp)
more_came by (tree (listed also) ∷ cs) go ts h sp =
    let (both, goes) = and_parts (same_separator by separator.Nothing && same_separator also separator.Nothing) (go cs) h in
    let (by_none, also_none) = and_parts (same_separator by separator.Nothing) (same_separator also separator.Nothing) both in
    let bare : Came (Fits (listed separator.Nothing)) (yielded (listed separator.Nothing)) go ts (wrote sp) = subst (λ z. Came (Fits (listed z)) (yielded (listed z)) go ts (wrote sp)) (sym (is_separator also separator.Nothing also_none)) (came go goes sp) in
    subst (λ z. Came (Fits (followed z)) (yielded (followed z)) go ts (wrote sp)) (is_separator by separator.Nothing by_none) (as_well (λ us fits. fits) (λ us fits. nothing_between us) bare)
more_came by (word e ∷ tree (one (suc zero)) ∷ cs) go _ h (a_chunk us no_tree (a_chunk {ts = ts} vs is_one sp)) =
    let (between_these, more) = and_parts (is_between by e) (more_come by cs go) h in
    let d = one_and_more by vs ts is_one (more_came by cs go ts more sp) in
    let c : Came NoTrees (λ us. kinds (between by)) (λ rest. true) (us ++ (vs ++ ts)) (chain (kinds (kind_for e ∷ [])) (chain (yielded (one 1) vs) (wrote sp))) = record { first = us; others = vs ++ ts; are = no_tree; rest = _; split = a_chunk {c = tree (one 1)} vs is_one sp; passes = refl; all = refl; written = ap (λ z. chain z (chain (yielded (one 1) vs) (wrote sp))) (between_one by e between_these) } in
    as_well (λ us some. tt) (λ us (t, rest, is). ap (λ z. chain (kinds (between by)) (yielded (listed by) z)) is ∙ sym (ap (yielded (followed by)) is)) (words_before (between by) c d)
more_came by _ go ts h sp = never h

list_came : (by : Separator) (cs : List Chunk) (go : List Chunk → Bool) (ts : List Tree) → list_comes by cs go ≡ true → (sp : Split cs ts) → Came (Fits (listed by)) (yielded (listed by)) go ts (wrote sp)
list_came by (tree (listed also) ∷ cs) go ts h sp =
    let (same, goes) = and_parts (same_separator by also) (go cs) h in
    subst (λ z. Came (Fits (listed z)) (yielded (listed z)) go ts (wrote sp)) (is_separator by also same) (came go goes sp)
list_came by (tree (one (suc zero)) ∷ cs) go _ h (a_chunk {ts = ts} vs is_one sp) = as_well (λ us some. tt) (λ us some. refl) (one_and_more by vs ts is_one (more_came by cs go ts h sp))
list_came by _ go ts h sp = never h

-- where no trees come, or nothing at all
no_more_trees : (cs : List Chunk) (ts : List Tree) → is_treeless cs ≡ true → Split cs ts → ts ≡ []
no_more_trees [] _ h no_chunk = refl
no_more_trees (word e ∷ cs) _ h (a_chunk {ts = ts} us owns sp) = ap (λ z. z ++ ts) owns ∙ no_more_trees cs ts h sp
no_more_trees (tree silent ∷ cs) _ h (a_chunk {ts = ts} us owns sp) = ap (λ z. z ++ ts) owns ∙ no_more_trees cs ts h sp
no_more_trees _ ts h sp = never h

no_more : (cs : List Chunk) (ts : List Tree) → is_end cs ≡ true → (sp : Split cs ts) → (ts ≡ []) × (wrote sp ≡ nothing)
no_more [] _ h no_chunk = (refl, refl)
no_more (tree silent ∷ cs) _ h (a_chunk {ts = ts} us owns sp) = let (none_left, ends) = no_more cs ts h sp in (ap (λ z. z ++ ts) owns ∙ none_left, ends)
no_more _ ts h sp = never h

-- a part by its layout
abbrev part_words : Form → PartLayout → List Tree → Writing
part_words form p (t ∷ []) = part form p (part_of t)
part_words form p _ = nothing

abbrev IsOne : List Tree → Type 0
IsOne us = (t : Tree) × (us ≡ t ∷ [])

-- one tree that is said so
as_one : {A : List Tree → Type 0} {x y : List Tree → Writing} {go : List Chunk → Bool} {ts : List Tree} {w : Writing}
    → ((us : List Tree) → A us → IsOne us) → ((t : Tree) → x (t ∷ []) ≡ y (t ∷ [])) → Came A x go ts w → Came IsOne y go ts w
as_one {x = x} {y = y} are same c = as_well are (λ us fits. let (t, is) = are us fits in ap x is ∙ same t ∙ sym (ap y is)) c

row_is_one : (us : List Tree) → IsOneRow us → IsOne us
row_is_one us (parts, is) = (row (trees parts), is)

part_came : (form : Form) (p : PartLayout) (cs : List Chunk) (go : List Chunk → Bool) (ts : List Tree) → part_comes form p cs go ≡ true → (sp : Split cs ts) → Came IsOne (part_words form p) go ts (wrote sp)
part_came form (layout_is.One at) (tree (one level) ∷ cs) go ts h sp =
    let (both, goes) = and_parts ((least form at == level) && not (is_dividend form at)) (go cs) h in
    let (same, whole) = and_parts (least form at == level) (not (is_dividend form at)) both in
    let tight : level ≡ least form at = sym (eqb-true (least form at) level same) in
    let undivided : false ≡ is_dividend form at = sym (not-true (is_dividend form at) whole) in
    as_one (λ us (t, is, n). (t, is)) (λ t. ap (λ l. at_place l false t (spelled t)) tight ∙ ap (λ d. at_place (least form at) d t (spelled t)) undivided) (came go goes sp)
part_came form (layout_is.Optional around) cs go ts h sp = as_one (λ us is. is) (λ t. refl) (optional_came around cs go ts h sp)
part_came form (layout_is.Row by) (tree (in_row also) ∷ cs) go ts h sp =
    let (same, goes) = and_parts (same_separator by also) (go cs) h in
    as_one row_is_one (λ t. refl) (subst (λ z. Came (Fits (in_row z)) (yielded (in_row z)) go ts (wrote sp)) (is_separator by also same) (came go goes sp))
part_came form layout_is.Arguments (tree arguments ∷ cs) go ts h sp = as_one row_is_one (λ t. refl) (came go h sp)
part_came form layout_is.Hooks (tree hooks ∷ cs) go ts h sp = as_one row_is_one (λ t. refl) (came go h sp)
part_came form _ cs go ts h sp = never h

own_came : (ws : List Word) (cs : List Chunk) (go : List Chunk → Bool) (ts : List Tree) → own_comes ws cs go ≡ true → (sp : Split cs ts) → Came NoTrees (λ us. these ws) go ts (wrote sp)
own_came (fixed k ∷ []) cs go ts h sp = words_came (k ∷ []) cs go ts h sp
own_came _ cs go ts h sp = never h

-- the pieces that are left are written behind what came
behind : (form : Form) (ps : List Piece) {A : List Tree → Type 0} {x : List Tree → Writing} {go : List Chunk → Bool} {ts : List Tree} {w : Writing}
    → (c : Came A x go ts w) → wrote c.split ≡ laid form ps (parts_of (trees c.others)) → w ≡ chain (x c.first) (laid form ps (parts_of (trees c.others)))
behind form ps {x = x} c rest = c.written ∙ ap (chain (x c.first)) rest

-- the pieces of a layout
laid_all : (form : Form) (ps : List Piece) (cs : List Chunk) (ts : List Tree) → laid_as form ps cs ≡ true → (sp : Split cs ts) → wrote sp ≡ laid form ps (parts_of (trees ts))
laid_all form [] cs ts h sp = (no_more cs ts h sp).1
laid_all form (piece.Word k ∷ ps) cs ts h sp =
    let c = words_came (k ∷ []) cs (λ rest. laid_as form ps rest) ts h sp in
    behind form ps c (laid_all form ps c.rest c.others c.passes c.split) ∙ ap (λ us. chain (kinds (k ∷ [])) (laid form ps (parts_of (trees us)))) (sym (ap (λ us. us ++ c.others) c.are) ∙ sym c.all)
laid_all form (piece.Own ∷ ps) cs ts h sp =
    let c = own_came (own_words form) cs (λ rest. laid_as form ps rest) ts h sp in
    behind form ps c (laid_all form ps c.rest c.others c.passes c.split) ∙ ap (λ us. chain (these (own_words form)) (laid form ps (parts_of (trees us)))) (sym (ap (λ us. us ++ c.others) c.are) ∙ sym c.all)
laid_all form (piece.All by ∷ ps) cs ts h sp =
    let c = list_came by cs (λ rest. is_treeless rest && laid_as form ps rest) ts h sp in
    let (treeless, passes) = and_parts (is_treeless c.rest) (laid_as form ps c.rest) c.passes in
    let none_left = no_more_trees c.rest c.others treeless c.split in
    let first : c.first ≡ ts = sym (append-nil c.first) ∙ ap (λ us. c.first ++ us) (sym none_left) ∙ sym c.all in
    behind form ps c (laid_all form ps c.rest c.others passes c.split) ∙ ap (λ us. chain (yielded (listed by) c.first) (laid form ps (parts_of (trees us)))) none_left ∙ ap (λ us. chain (yielded (listed by) us) (laid form ps [])) first
laid_all form (piece.Part p ∷ ps) cs ts h sp =
    let c = part_came form p cs (λ rest. laid_as form ps rest) ts h sp in
    let (t, is) = c.are in
    behind form ps c (laid_all form ps c.rest c.others c.passes c.split) ∙ ap (λ us. chain (part_words form p us) (laid form ps (parts_of (trees c.others)))) is ∙ ap (λ us. laid form (piece.Part p ∷ ps) (parts_of (trees us))) (sym (ap (λ us. us ++ c.others) is) ∙ sym c.all)

-- Chunks that are laid out as an alternative is are written as a tree of it.
pub laid_again : (form : Form) (cs : List Chunk) (ts : List Tree) → laid_as form (layout form) cs ≡ true → (sp : Split cs ts) → (last : Option TokenKind) → wrote sp last ≡ spelled (node form nowhere (trees ts)) last
laid_again form cs ts h sp last = ap (λ w. w last) (laid_all form (layout form) cs ts h sp)

-- all trees of what came, where nothing is left
ended : (y : Yield) {ts : List Tree} {w : Writing} → Came (Fits y) (yielded y) is_end ts w → Fits y ts × ((last : Option TokenKind) → w last ≡ yielded y ts last)
ended y {ts = ts} c =
    let (none_left, ends) = no_more c.rest c.others c.passes c.split in
    let first : c.first ≡ ts = sym (append-nil c.first) ∙ ap (λ us. c.first ++ us) (sym none_left) ∙ sym c.all in
    (subst (Fits y) first c.are, λ last. ap (λ x. x last) (c.written ∙ ap (chain (yielded y c.first)) ends ∙ chain_nothing (yielded y c.first) ∙ ap (yielded y) first))

-- Chunks that end as the trees of a part do are written as these.
pub ends_again : (y : Yield) (cs : List Chunk) (ts : List Tree) → ends_as y cs ≡ true → (sp : Split cs ts) → Fits y ts × ((last : Option TokenKind) → wrote sp last ≡ yielded y ts last)
ends_again (one level) (tree (one also) ∷ cs) ts h sp =
    let (same, goes) = and_parts (level == also) (is_end cs) h in
    ended (one level) (subst (λ z. Came (Fits (one z)) (yielded (one z)) is_end ts (wrote sp)) (sym (eqb-true level also same)) (came is_end goes sp))
ends_again (optional around) cs ts h sp = ended (optional around) (optional_came around cs is_end ts h sp)
ends_again (listed by) [] _ h no_chunk = (tt, λ last. refl)
ends_again (listed by) cs ts h sp = ended (listed by) (list_came by cs is_end ts h sp)
ends_again (followed by) [] _ h no_chunk = (tt, λ last. refl)
ends_again (followed by) cs ts h sp = ended (followed by) (more_came by cs is_end ts h sp)
ends_again _ cs ts h sp = never h

-- the same chunks, over the list that is empty
treeless_split : (cs : List Chunk) (ts : List Tree) → is_treeless cs ≡ true → (sp : Split cs ts) → (again : Split cs []) × (wrote again ≡ wrote sp)
treeless_split [] _ h no_chunk = (no_chunk, refl)
treeless_split (word e ∷ cs) _ h (a_chunk {ts = ts} us owns sp) = let (again, same) = treeless_split cs ts h sp in (a_chunk [] refl again, ap (chain (kinds (kind_for e ∷ []))) same)
treeless_split (tree silent ∷ cs) _ h (a_chunk {ts = ts} us owns sp) = let (again, same) = treeless_split cs ts h sp in (a_chunk [] refl again, ap (chain nothing) same)
treeless_split _ ts h sp = never h

abbrev InRow : List Chunk → List Tree → Writing → Type 0
InRow ds ts w = (again : Split ds (row (trees ts) ∷ [])) × ((last : Option TokenKind) → wrote again last ≡ w last)

as_row : (by : Separator) (rest : List Chunk) (us ts : List Tree) (w : Writing) → is_treeless rest ≡ true → (sp : Split rest ts) → w ≡ chain (yielded (listed by) us) (wrote sp) → InRow (tree (in_row by) ∷ rest) (us ++ ts) w
as_row by rest us ts w h sp is =
    let (again, same) = treeless_split rest ts h sp in
    let all : us ++ ts ≡ us = ap (λ z. us ++ z) (no_more_trees rest ts h sp) ∙ append-nil us in
    (a_chunk (row (trees (us ++ ts)) ∷ []) (us ++ ts, refl) again, λ last. ap (λ x. x last) (ap (λ z. chain (yielded (listed by) z) (wrote again)) all ∙ ap (chain (yielded (listed by) us)) same ∙ sym is))

-- Trees that are put in a row are written as before.
pub row_again : (cs ds : List Chunk) (ts : List Tree) → row_chunks cs ≡ Some ds → (sp : Split cs ts) → (again : Split ds (row (trees ts) ∷ [])) × ((last : Option TokenKind) → wrote again last ≡ wrote sp last)
row_again (tree (listed by) ∷ rest) ds _ h (a_chunk {ts = ts} us owns sp) =
    let (ok, is) = if_some (is_treeless rest) (Some (tree (in_row by) ∷ rest)) ds h in
    subst (λ z. InRow z (us ++ ts) (chain (yielded (listed by) us) (wrote sp))) (some_equal is) (as_row by rest us ts _ ok sp refl)
row_again (tree (one (suc zero)) ∷ tree (followed by) ∷ rest) ds _ h (a_chunk us (t, is_t, n) (a_chunk {ts = ts} vs owns sp)) =
    let (ok, is) = if_some (is_treeless rest) (Some (tree (in_row by) ∷ rest)) ds h in
    let w : Writing = chain (yielded (one 1) us) (chain (yielded (followed by) vs) (wrote sp)) in
    let listing : chain (yielded (one 1) us) (yielded (followed by) vs) ≡ yielded (listed by) (us ++ vs) = ap (λ z. chain (yielded (one 1) z) (yielded (followed by) vs)) is_t ∙ sym (ap (λ z. yielded (listed by) (z ++ vs)) is_t) in
    let words : w ≡ chain (yielded (listed by) (us ++ vs)) (wrote sp) = sym (chain_groups (yielded (one 1) us) (yielded (followed by) vs) (wrote sp)) ∙ ap (λ z. chain z (wrote sp)) listing in
    subst (λ z. InRow z (us ++ (vs ++ ts)) w) (some_equal is) (subst (λ z. InRow (tree (in_row by) ∷ rest) z w) (append_assoc us vs ts) (as_row by rest (us ++ vs) ts w ok sp words))
row_again _ ds ts h sp = not_some h

-- A tree that is built is one chunk, and is written as it stands.
pub node_again : (form : Form) (ts : List Tree) → is_new form ≡ false
    → Owns (node_chunk form) (node form nowhere (trees ts) ∷ []) × ((last : Option TokenKind) → chunk_words (node_chunk form) (node form nowhere (trees ts) ∷ []) last ≡ spelled (node form nowhere (trees ts)) last)
node_again (form_is.Expr form) ts h = ((form_is.Expr form, ts, refl, refl, h, refl), λ last. refl)
node_again form ts h = ((node form nowhere (trees ts), refl, refl), λ last. refl)
