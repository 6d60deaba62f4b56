-- What an action does to a pile by its chunks, and to a copy of it.
use Rattle.std.specs.Prelude.{length, not, ◌&&◌, if◌then◌else◌}
use Rattle.std.proofs.Common.{◌≡◌, ℕ, suc, List, [], ◌∷◌, ◌++◌, Bool, true, false, ◌==◌, Option, Some, None, refl, sym, ◌∙◌, ap, subst}
use Rattle.std.proofs.lemmas.Bool.{and_parts, eqb-true, not-true}
use Rattle.std.proofs.lemmas.List.{append-nil, append_assoc}
use Rattle.sp_lex.specs.declared.kinds.TokenKind.{TokenKind}
use Rattle.sp_parser.specs.Grammar.{Take, Nothing, First, All, takes as parser_takes, SECOND}
use Rattle.sp_grammar.specs.declared.actions.Action.{Action}
use Rattle.sp_grammar.specs.declared.actions.Action.TheVariants as build
use Rattle.sp_phrases.specs.Kinds.{number_of, terminal_of}
use Rattle.sp_ast.specs.declared.forms.Form.{Form}
use Rattle.sp_ast.specs.Trees.{Tree, absent, node, none, trees, in_row}
use Rattle.sp_ast.specs.declared.groups.Group.{Group}
use Rattle.sp_ast.specs.declared.groups.Slot.{Slot}
use Rattle.sp_build.specs.Rules.{Leaf, always, Rule, begins, leaves_out, takes, gathers, closes, joins, wraps, rule}
use Rattle.sp_build.proofs.Standing.{some_equal, not_some, if_some}
use Rattle.sp_build.proofs.Told.{never}
use Rattle.sp_print.specs.declared.layouts.Piece.{Piece}
use Rattle.sp_print.specs.declared.layouts.Piece.TheVariants as piece
use Rattle.sp_print.specs.Canonical.{Writing, nothing, chain, last_kind, laid, spelled}
use Rattle.sp_print.specs.Layouts.{layout}
use Rattle.sp_print.specs.Words.{Word, fixed}
use Rattle.sp_law_round_trip.specs.Bare.{nowhere}
use Rattle.sp_law_round_trip.specs.Told.{Telling}
use Rattle.sp_law_round_trip.proofs.Held.{Pile, started, made, does, form_told, put_if}
use Rattle.sp_law_round_trip.proofs.Goes.{Tok, entire, tells, telling_of, number, pushed, pushed_append}
use Rattle.sp_law_round_trip.proofs.Closing.{closed_all, gathered_all, joined_all, wrapped, are_parts}
use Rattle.sp_law_round_trip.proofs.Leaves.{LeafSays, is_always, leaf_again, EachForm, of_told}
use Rattle.sp_law_round_trip.proofs.Shown.{one, optional, left_out, listed, followed, in_row as a_row, arguments, hooks, silent}
use Rattle.sp_law_round_trip.proofs.Chunks.{Chunk, word, tree, built, is_new, node_chunk, is_token, Owns, chunk_words, Split, no_chunk, a_chunk, wrote, laid_as, row_chunks}
use Rattle.sp_law_round_trip.proofs.Laid.{laid_again, row_again, node_again}
use Rattle.sp_law_round_trip.proofs.Advance.{State, put_on, add, stays, eats, stuck, leaf_chunk, is_itself, is_taken, is_all, always_moved, is_one, one_each, is_laid, put_before, wrapped_last, moved, row_moved, move}
use Rattle.sp_law_round_trip.proofs.Piles.{Same, chain_same, alone, Piled, bottom, above, said, Copies, grown}
use Rattle.sp_law_round_trip.proofs.Steps.{was_put}

-- a token's tree is written by its own word alone
abbrev Plainly : Leaf → Form → Type 0
Plainly l form = (leaf_chunk l ≡ node_chunk form) × (layout form ≡ piece.Own ∷ []) × (is_new form ≡ false)

abbrev RulePlain : Rule → Type 0
RulePlain (takes (always form)) = Unit {0}
RulePlain (takes l) = EachForm (Plainly l) l × LeafSays l
RulePlain _ = Unit {0}

pub rule_plain : (m : Action) → RulePlain (rule m)
rule_plain build.Name = (λ x. (refl, refl, refl), λ x. refl)
rule_plain build.String = (λ x. (refl, refl, refl), λ x. refl)
rule_plain build.Number = (λ x. (refl, refl, refl), λ x. refl)
rule_plain build.HookName = (λ x. (refl, refl, refl), λ x. refl)
rule_plain build.IntType = (λ x. (refl, refl, refl), λ x. refl)
rule_plain build.NameTarget = (λ x. (refl, refl, refl), λ x. refl)
rule_plain build.HookTarget = (λ x. (refl, refl, refl), λ x. refl)
rule_plain build.BytesBase = (λ x. (refl, refl, refl), λ x. refl)
rule_plain build.RegexBase = (λ x. (refl, refl, refl), λ x. refl)
rule_plain build.NumberExpr = (λ x. (refl, refl, refl), λ x. refl)
rule_plain build.StringExpr = (λ x. (refl, refl, refl), λ x. refl)
rule_plain build.BytesExpr = (λ x. (refl, refl, refl), λ x. refl)
rule_plain build.RegexExpr = (λ x. (refl, refl, refl), λ x. refl)
rule_plain m = tt

-- An action by itself: it writes nothing, and does the same on each copy, whatever token comes.
abbrev Stays : Rule → State → {σ : State} {b s : Pile} → Piled σ b s → Pile → Type 0
Stays r next {b = b} g t =
    (now : Piled next b t) × Same (said now) (said g) × ((c z : Pile) (x : Telling) → Copies g c z → (y : Pile) × (does r x z ≡ Some y) × Copies now c y)

-- An action with the token that comes: it writes one word, which is such a token, and does the same on each copy where that word comes.
abbrev Eats : Rule → ℕ → State → {σ : State} {b s : Pile} → Piled σ b s → Pile → Type 0
Eats r e next {b = b} g t =
    (now : Piled next b t) × (w : Word) × Same (said now) (chain (said g) (λ last. w ∷ [])) × (parser_takes e (number (entire w)) ≡ All)
    × ((c z : Pile) → Copies g c z → (y : Pile) × (does r (telling_of w) z ≡ Some y) × Copies now c y)

no_more : (x y : Writing) → Same y nothing → Same (chain x y) x
no_more x y same last = ap (λ ws. x last ++ ws) (same (last_kind last (x last))) ∙ append-nil (x last)

-- the tree of an alternative without parts, with its words
single : (form : Form) → is_new form ≡ false → (it : Split (node_chunk form ∷ []) (node form nowhere none ∷ [])) × Same (wrote it) (spelled (node form nowhere none))
single form old =
    let again = node_again form [] old in let lone = alone (node_chunk form) (node form nowhere none ∷ []) again.0 in (lone.0, λ last. lone.1 last ∙ again.1 last)

moved_to : {σ τ : State} → stays σ ≡ stays τ → σ ≡ τ
moved_to e = cc

begun : (σ : State) {b s t : Pile} (x : Telling) → Some (started x ∷ s) ≡ Some t → (g : Piled σ b s) → Stays begins ([] ∷ σ) g t
begun σ {s = s} x e g = (above [] x s g no_chunk (sym (some_equal e)), no_more (said g) nothing (λ last. refl), λ c z q copy. (started q ∷ z, refl, (q, z, refl, copy)))

left : (σ : State) {b s t : Pile} → Some (made absent ∷ s) ≡ Some t → (g : Piled σ b s) → Stays leaves_out (add (tree left_out) σ) g t
left σ {b = b} e g =
    let lone = alone (tree left_out) (absent ∷ []) refl in
    let (now, same, copies) = grown lone.0 g in
    subst (λ t. Stays leaves_out (add (tree left_out) σ) g t) (some_equal e)
    (now, λ last. same last ∙ no_more (said g) (wrote lone.0) lone.1 last, λ c z x copy. (made absent ∷ z, refl, copies c z copy))

-- a tree that is built of the trees since it began
abbrev node_of : Form → List Tree → Tree
node_of form ts = node form nowhere (trees ts)

built_one : (form : Form) (cs : List Chunk) (ts : List Tree) → is_laid form cs ≡ true → (sp : Split cs ts) → (it : Split (node_chunk form ∷ []) (node_of form ts ∷ [])) × Same (wrote it) (wrote sp)
built_one form cs ts ok sp =
    let b = and_parts (laid_as form (layout form) cs) (not (is_new form)) ok in
    let again = node_again form ts (not-true _ b.1) in
    let lone = alone (node_chunk form) (node_of form ts ∷ []) again.0 in
    (lone.0, λ last. lone.1 last ∙ again.1 last ∙ sym (laid_again form cs ts b.0 sp last))

-- a tree in place of the trees since it began, written as they are
in_place : (r : Rule) {ds cs : List Chunk} {σ : State} {b s : Pile} (u : Tree) (ts : List Tree) (p : Telling) (rest : Pile) (below : Piled (ds ∷ σ) b rest) (sp : Split cs ts) (e : s ≡ pushed ts (started p ∷ rest)) (it : (es : List Chunk) × (new : Split es (u ∷ [])) × Same (wrote new) (wrote sp))
    → ((x q : Telling) (c : Pile) → does r x (pushed ts (started q ∷ c)) ≡ Some (made u ∷ c)) → {t : Pile} → t ≡ made u ∷ rest → Stays r (put_on it.0 (ds ∷ σ)) (above ts p rest below sp e) t
in_place r {ds = ds} {σ = σ} u ts p rest below sp e it done {t = t} is =
    let (now, same, copies) = grown it.1 below in
    subst (λ z. Stays r (put_on it.0 (ds ∷ σ)) (above ts p rest below sp e) z) (sym is) (
      now,
      λ last. same last ∙ chain_same (said below) (wrote it.1) (wrote sp) it.2 last,
      λ c z x copy. (made u ∷ copy.1, ap (λ y. does r x y) copy.2 ∙ done x copy.0 copy.1, copies c copy.1 copy.3),
    )

gathered : (cs ds es : List Chunk) (σ : State) {b s t : Pile} (x : Telling) → row_chunks cs ≡ Some es → does gathers x s ≡ Some t → (g : Piled (cs ∷ ds ∷ σ) b s) → Stays gathers (put_on es (ds ∷ σ)) g t
gathered cs ds es σ {t = t} x ok e (above ts p rest below sp is) =
    let all = gathered_all ts p rest t x (ap (λ z. does gathers x z) (sym is) ∙ e) in
    let row = row_again cs es ts ok sp in
    in_place gathers (in_row ts) ts p rest below sp is (es, row.0, row.1) all.1 all.0

closed_here : (slots : List Slot) (form : Form) (cs ds : List Chunk) (σ : State) {b s t : Pile} (x : Telling) → is_laid form cs ≡ true → does (closes slots form) x s ≡ Some t → (g : Piled (cs ∷ ds ∷ σ) b s) → Stays (closes slots form) (add (node_chunk form) (ds ∷ σ)) g t
closed_here slots form cs ds σ {t = t} x ok e (above ts p rest below sp is) =
    let all = closed_all slots (λ q. Some form) ts p rest t (ap (λ z. does (closes slots form) x z) (sym is) ∙ e) in
    let it = built_one form cs ts ok sp in
    let same : form ≡ all.0 = some_equal all.1 in
    in_place (closes slots form) (node_of form ts) ts p rest below sp is (node_chunk form ∷ [], it.0, it.1)
    (λ y q c. all.3 q c (ap Some same) ∙ ap (λ f. Some (made (node_of f ts) ∷ c)) (sym same)) (all.2 ∙ ap (λ f. made (node_of f ts) ∷ rest) (sym same))

one_tree : (c : Chunk) (us : List Tree) → is_one c ≡ true → Owns c us → (t : Tree) × (us ≡ t ∷ [])
one_tree (word e) us ok owns = never ok
one_tree (built level) us ok owns = (node_of owns.0 owns.1, owns.2)
one_tree (tree (one level)) us ok owns = (owns.0, owns.1)
one_tree (tree (optional around)) us ok owns = (owns.0, owns.1)
one_tree (tree left_out) us ok owns = (absent, owns)
one_tree (tree (a_row by)) us ok owns = (in_row owns.0, owns.1)
one_tree (tree arguments) us ok owns = (in_row owns.0, owns.1)
one_tree (tree hooks) us ok owns = (in_row owns.0, owns.1)
one_tree (tree (listed by)) us ok owns = never ok
one_tree (tree (followed by)) us ok owns = never ok
one_tree (tree silent) us ok owns = never ok

one_more : (c : Chunk) (us ts : List Tree) (slots : List Slot) → is_one c ≡ true → Owns c us → length ts ≡ length slots → length (us ++ ts) ≡ suc (length slots)
one_more c us ts slots ok owns e = let t = one_tree c us ok owns in ap (λ vs. length (vs ++ ts)) t.1 ∙ ap suc e

as_many : (cs : List Chunk) (slots : List Slot) {ts : List Tree} → one_each cs slots ≡ true → Split cs ts → length ts ≡ length slots
as_many [] [] ok no_chunk = refl
as_many [] (slot ∷ slots) ok sp = never ok
as_many (word e ∷ cs) slots ok (a_chunk {ts = ts} us owns rest) = ap (λ vs. length (vs ++ ts)) owns ∙ as_many cs slots ok rest
as_many (tree y ∷ cs) [] ok sp = never ok
as_many (built level ∷ cs) [] ok sp = never ok
as_many (tree y ∷ cs) (slot ∷ slots) ok (a_chunk {ts = ts} us owns rest) =
    let b = and_parts (is_one (tree y)) (one_each cs slots) ok in one_more (tree y) us ts slots b.0 owns (as_many cs slots b.1 rest)
as_many (built level ∷ cs) (slot ∷ slots) ok (a_chunk {ts = ts} us owns rest) =
    let b = and_parts (is_one (built level)) (one_each cs slots) ok in one_more (built level) us ts slots b.0 owns (as_many cs slots b.1 rest)

-- a tree in place of the last ones
joined_here : (slots : List Slot) (form : Form) (cs : List Chunk) (σ : State) {b s t : Pile} (x : Telling) → are_parts slots && one_each cs slots && is_laid form cs ≡ true → does (joins slots form) x s ≡ Some t → (g : Piled (cs ∷ σ) b s) → Stays (joins slots form) ((node_chunk form ∷ []) ∷ σ) g t
joined_here slots form cs σ {b = b} {t = t} x ok e (bottom ts sp is) =
    let c = and_parts (are_parts slots && one_each cs slots) (is_laid form cs) ok in let d = and_parts (are_parts slots) (one_each cs slots) c.0 in
    let all = joined_all slots form ts b t x d.0 (as_many cs slots d.1 sp) (ap (λ z. does (joins slots form) x z) (sym is) ∙ e) in
    let it = built_one form cs ts c.1 sp in
    (bottom (node_of form ts ∷ []) it.0 all.0, it.1, λ d z y copy. (made (node_of form ts) ∷ d, ap (λ q. does (joins slots form) y q) copy ∙ all.1 y d, refl))
joined_here slots form cs σ {t = t} x ok e (above ts p rest below sp is) =
    let c = and_parts (are_parts slots && one_each cs slots) (is_laid form cs) ok in let d = and_parts (are_parts slots) (one_each cs slots) c.0 in
    let all = joined_all slots form ts (started p ∷ rest) t x d.0 (as_many cs slots d.1 sp) (ap (λ z. does (joins slots form) x z) (sym is) ∙ e) in
    let it = built_one form cs ts c.1 sp in (
      above (node_of form ts ∷ []) p rest below it.0 all.0,
      chain_same (said below) (wrote it.0) (wrote sp) it.1,
      λ d z y copy. (made (node_of form ts) ∷ started copy.0 ∷ copy.1, ap (λ q. does (joins slots form) y q) copy.2 ∙ all.1 y (started copy.0 ∷ copy.1), (copy.0, copy.1, refl, copy.3)),
    )

-- the chunks with the last tree wrapped
abbrev Wraps : Form → List Chunk → {cs : List Chunk} {ts : List Tree} → Split cs ts → Type 0
Wraps form es {ts = ts} sp = (us : List Tree) × (u : Tree) × (ts ≡ us ++ u ∷ []) × (new : Split es (us ++ node_of form (u ∷ []) ∷ [])) × Same (wrote new) (wrote sp)

last_wrapped : (form : Form) (c : Chunk) (u : Tree) → is_laid form (c ∷ []) ≡ true → (owns : Owns c (u ∷ [])) → Wraps form (node_chunk form ∷ []) (a_chunk (u ∷ []) owns no_chunk)
last_wrapped form c u ok owns = let it = built_one form (c ∷ []) (u ∷ []) ok (a_chunk (u ∷ []) owns no_chunk) in ([], u, refl, it.0, it.1)

before_some : (c : Chunk) (o : Option (List Chunk)) (es : List Chunk) → put_before c o ≡ Some es → (ds : List Chunk) × (o ≡ Some ds) × (c ∷ ds ≡ es)
before_some c None es e = not_some e
before_some c (Some ds) es e = (ds, refl, some_equal e)

wrapped_split : (form : Form) (cs es : List Chunk) {ts : List Tree} → wrapped_last form cs ≡ Some es → (sp : Split cs ts) → Wraps form es sp
wrapped_split form [] es e sp = not_some e
wrapped_split form (c ∷ []) es e (a_chunk us owns no_chunk) =
    let i = if_some (is_one c && is_laid form (c ∷ [])) (Some (node_chunk form ∷ [])) es e in let b = and_parts (is_one c) (is_laid form (c ∷ [])) i.0 in
    let t = one_tree c us b.0 owns in
    let make : (vs : List Tree) → vs ≡ t.0 ∷ [] → (o : Owns c vs) → Wraps form (node_chunk form ∷ []) (a_chunk vs o no_chunk) =
    λ vs is. subst (λ xs. (o : Owns c xs) → Wraps form (node_chunk form ∷ []) (a_chunk xs o no_chunk)) (sym is) (λ o. last_wrapped form c t.0 b.1 o) in
    subst (λ ds. Wraps form ds (a_chunk us owns no_chunk)) (some_equal i.1) (make us t.1 owns)
wrapped_split form (c ∷ d ∷ cs) es e (a_chunk {ts = ts} us owns rest) =
    let o = before_some c (wrapped_last form (d ∷ cs)) es e in
    let more = wrapped_split form (d ∷ cs) o.0 o.1 rest in
    let new : Split (c ∷ o.0) (us ++ (more.0 ++ node_of form (more.1 ∷ []) ∷ [])) = a_chunk us owns more.3 in
    let both = subst (λ zs. (it : Split (c ∷ o.0) zs) × Same (wrote it) (wrote (a_chunk us owns rest))) (sym (append_assoc us more.0 (node_of form (more.1 ∷ []) ∷ [])))
    (new, chain_same (chunk_words c us) (wrote more.3) (wrote rest) more.4) in
    subst (λ ds. Wraps form ds (a_chunk us owns rest)) o.2 (us ++ more.0, more.1, ap (λ zs. us ++ zs) more.2 ∙ sym (append_assoc us more.0 (more.1 ∷ [])), both.0, both.1)

-- the last tree of a pile
last_of : (us ts : List Tree) (u : Tree) (b s : Pile) → s ≡ pushed ts b → ts ≡ us ++ u ∷ [] → s ≡ made u ∷ pushed us b
last_of us ts u b s is all = is ∙ ap (λ zs. pushed zs b) all ∙ pushed_append us (u ∷ []) b

wrapped_here : (g : Group) (form : Form) (cs es : List Chunk) (σ : State) {b s t : Pile} (x : Telling) → wrapped_last form cs ≡ Some es → does (wraps g form) x s ≡ Some t → (h : Piled (cs ∷ σ) b s) → Stays (wraps g form) (es ∷ σ) h t
wrapped_here g form cs es σ {b = b} {s = s} {t = t} x ok e (bottom ts sp is) =
    let w = wrapped_split form cs es ok sp in let node_here = node_of form (w.1 ∷ []) in
    let all = wrapped g form w.1 (pushed w.0 b) t x (ap (λ z. does (wraps g form) x z) (sym (last_of w.0 ts w.1 b s is w.2)) ∙ e) in (
      bottom (w.0 ++ node_here ∷ []) w.3 (all.0 ∙ sym (pushed_append w.0 (node_here ∷ []) b)),
      w.4,
      λ d z y copy. (made node_here ∷ pushed w.0 d, ap (λ q. does (wraps g form) y q) (last_of w.0 ts w.1 d z copy w.2) ∙ all.1 y (pushed w.0 d), sym (pushed_append w.0 (node_here ∷ []) d)),
    )
wrapped_here g form cs es σ {s = s} {t = t} x ok e (above ts p rest below sp is) =
    let w = wrapped_split form cs es ok sp in let node_here = node_of form (w.1 ∷ []) in
    let all = wrapped g form w.1 (pushed w.0 (started p ∷ rest)) t x (ap (λ z. does (wraps g form) x z) (sym (last_of w.0 ts w.1 (started p ∷ rest) s is w.2)) ∙ e) in (
      above (w.0 ++ node_here ∷ []) p rest below w.3 (all.0 ∙ sym (pushed_append w.0 (node_here ∷ []) (started p ∷ rest))),
      chain_same (said below) (wrote w.3) (wrote sp) w.4,
      λ d z y copy. (
        made node_here ∷ pushed w.0 (started copy.0 ∷ copy.1),
        ap (λ q. does (wraps g form) y q) (last_of w.0 ts w.1 (started copy.0 ∷ copy.1) z copy.2 w.2) ∙ all.1 y (pushed w.0 (started copy.0 ∷ copy.1)),
        (copy.0, copy.1, sym (pushed_append w.0 (node_here ∷ []) (started copy.0 ∷ copy.1)), copy.3),
      ),
    )

stays_no_eat : {A : Type 0} {σ τ : State} → stays σ ≡ eats τ → A
stays_no_eat e = absurd (let q : stays _ ≡ eats _ = e in cc)

if_stays : (c : Bool) (σ τ : State) → (if c then stays σ else stuck) ≡ stays τ → (c ≡ true) × (σ ≡ τ)
if_stays true σ τ e = (refl, cc)
if_stays false σ τ e = absurd (let q : stuck ≡ stays _ = e in cc)

if_eats : (c : Bool) (σ τ : State) → (if c then eats σ else stuck) ≡ eats τ → (c ≡ true) × (σ ≡ τ)
if_eats true σ τ e = (refl, cc)
if_eats false σ τ e = absurd (let q : stuck ≡ eats _ = e in cc)

not_stays : {A : Type 0} (c : Bool) (σ τ : State) → (if c then eats σ else stuck) ≡ stays τ → A
not_stays true σ τ e = absurd (let q : eats _ ≡ stays _ = e in cc)
not_stays false σ τ e = absurd (let q : stuck ≡ stays _ = e in cc)

not_eats : {A : Type 0} (c : Bool) (σ τ : State) → (if c then stays σ else stuck) ≡ eats τ → A
not_eats true σ τ e = stays_no_eat e
not_eats false σ τ e = absurd (let q : stuck ≡ eats _ = e in cc)

no_stay : {A : Type 0} {τ : State} → stuck ≡ stays τ → A
no_stay e = absurd (let q : stuck ≡ stays _ = e in cc)

no_eat : {A : Type 0} {τ : State} → stuck ≡ eats τ → A
no_eat e = absurd (let q : stuck ≡ eats _ = e in cc)

stuck_or_stays : {A : Type 0} (c : Bool) (σ τ : State) → (if c then stuck else stays σ) ≡ eats τ → A
stuck_or_stays true σ τ e = no_eat e
stuck_or_stays false σ τ e = stays_no_eat e

-- a tree that is always the same
always_stays : (form : Form) (σ : State) {b s t : Pile} → is_new form ≡ false → layout form ≡ [] → Some (made (node form nowhere none) ∷ s) ≡ Some t → (g : Piled σ b s) → Stays (takes (always form)) (add (node_chunk form) σ) g t
always_stays form σ old none_laid e g =
    let lone = single form old in
    let (now, same, copies) = grown lone.0 g in
    subst (λ t. Stays (takes (always form)) (add (node_chunk form) σ) g t) (some_equal e)
    (now, λ last. same last ∙ no_more (said g) (wrote lone.0) (λ l. lone.1 l ∙ ap (λ ps. laid form ps [] l) none_laid) last, λ c z x copy. (made (node form nowhere none) ∷ z, refl, copies c z copy))

pub all_taken : (t : Take) → is_all t ≡ true → t ≡ All
all_taken All h = refl
all_taken First h = never h
all_taken Nothing h = never h

-- what a kind takes that is expected as it stands
takes_itself : (e : ℕ) → is_itself e ≡ true → parser_takes e e ≡ All
takes_itself e ok = all_taken (parser_takes e e) (and_parts (is_all (parser_takes e e)) (not (is_taken (parser_takes e SECOND))) ok).0

pub not_second : (e : ℕ) → is_itself e ≡ true → parser_takes e SECOND ≡ Nothing
not_second e ok = none_taken (parser_takes e SECOND) (and_parts (is_all (parser_takes e e)) (not (is_taken (parser_takes e SECOND))) ok).1
  where
    none_taken : (t : Take) → not (is_taken t) ≡ true → t ≡ Nothing
    none_taken Nothing h = refl
    none_taken First h = never h
    none_taken All h = never h

always_eats : (form : Form) (k : TokenKind) (n : ℕ) (σ : State) {b s t : Pile} → is_token k n && is_itself n && not (is_new form) ≡ true → layout form ≡ piece.Word k ∷ [] → Some (made (node form nowhere none) ∷ s) ≡ Some t → (g : Piled σ b s) → Eats (takes (always form)) n (add (node_chunk form) σ) g t
always_eats form k n σ ok it_is e g =
    let a = and_parts (is_token k n && is_itself n) (not (is_new form)) ok in let c = and_parts (is_token k n) (is_itself n) a.0 in
    let number_is : number_of (terminal_of k) ≡ n = eqb-true (number_of (terminal_of k)) n (and_parts _ (number_of (terminal_of k) == n) c.0).1 in
    let lone = single form (not-true _ a.1) in
    let (now, same, copies) = grown lone.0 g in
    subst (λ t. Eats (takes (always form)) n (add (node_chunk form) σ) g t) (some_equal e) (
      now,
      fixed k,
      λ last. same last ∙ chain_same (said g) (wrote lone.0) (λ l. fixed k ∷ []) (λ l. lone.1 l ∙ ap (λ ps. laid form ps [] l) it_is) last,
      ap (λ m. parser_takes n m) number_is ∙ takes_itself n c.1,
      λ d z copy. (made (node form nowhere none) ∷ z, refl, copies d z copy),
    )

leaf_eats : (l : Leaf) (n : ℕ) (σ : State) {b s t : Pile} (x : Tok) → is_always l ≡ false → EachForm (Plainly l) l → LeafSays l → is_itself n ≡ true → parser_takes n (number x) ≡ All → does (takes l) (tells x) s ≡ Some t → (g : Piled σ b s) → Eats (takes l) n (add (leaf_chunk l) σ) g t
leaf_eats l n σ {s = s} x other plain says ok passed e g =
    let f = was_put (form_told l (tells x).kind (tells x).word) s _ e in
    let again = leaf_again l f.0 x n says other (not_second n ok) passed f.1 in
    let facts = of_told (Plainly l) l (tells x).kind (tells x).word f.0 plain f.1 in
    let lone = single f.0 facts.2 in
    let (now, same, copies) = grown lone.0 g in
    let words : Same (wrote lone.0) (λ last. again.0 ∷ []) = λ last. lone.1 last ∙ ap (λ ps. laid f.0 ps [] last) facts.1 ∙ ap (λ ws. ws ++ []) again.1 in
    let all : Eats (takes l) n (add (node_chunk f.0) σ) g (made (node f.0 nowhere none) ∷ s) = (
      now,
      again.0,
      λ last. same last ∙ chain_same (said g) (wrote lone.0) (λ last. again.0 ∷ []) words last,
      ap (λ m. parser_takes n m) again.2 ∙ passed,
      λ d z copy. (made (node f.0 nowhere none) ∷ z, ap (λ o. put_if o z) again.3, copies d z copy),
    ) in
    subst (λ t. Eats (takes l) n (add (leaf_chunk l) σ) g t) (sym f.2) (subst (λ c. Eats (takes l) n (add c σ) g (made (node f.0 nowhere none) ∷ s)) (sym facts.0) all)

always_moves : (form : Form) (ps : List Piece) (coming : Option ℕ) (σ τ : State) {b s t : Pile} → layout form ≡ ps → always_moved form ps coming σ ≡ stays τ → Some (made (node form nowhere none) ∷ s) ≡ Some t → (g : Piled σ b s) → Stays (takes (always form)) τ g t
always_moves form [] coming σ τ {t = t} laid_so ok e g =
    let i = not_new (is_new form) ok in subst (λ z. Stays (takes (always form)) z g t) i.1 (always_stays form σ i.0 laid_so e g)
  where
    not_new : (c : Bool) → (if c then stuck else stays (add (node_chunk form) σ)) ≡ stays τ → (c ≡ false) × (add (node_chunk form) σ ≡ τ)
    not_new true e = no_stay e
    not_new false e = (refl, cc)
always_moves form (piece.Word k ∷ []) (Some n) σ τ laid_so ok e g = not_stays (is_token k n && is_itself n && not (is_new form)) (add (node_chunk form) σ) τ ok
always_moves form ps coming σ τ laid_so ok e g = no_stay ok

always_takes : (form : Form) (ps : List Piece) (n : ℕ) (σ τ : State) {b s t : Pile} → layout form ≡ ps → always_moved form ps (Some n) σ ≡ eats τ → Some (made (node form nowhere none) ∷ s) ≡ Some t → (g : Piled σ b s) → Eats (takes (always form)) n τ g t
always_takes form (piece.Word k ∷ []) n σ τ {t = t} laid_so ok e g =
    let i = if_eats (is_token k n && is_itself n && not (is_new form)) (add (node_chunk form) σ) τ ok in subst (λ z. Eats (takes (always form)) n z g t) i.1 (always_eats form k n σ i.0 laid_so e g)
always_takes form [] n σ τ laid_so ok e g = stuck_or_stays (is_new form) (add (node_chunk form) σ) τ ok
always_takes form ps n σ τ laid_so ok e g = no_eat ok

row_some : (o : Option (List Chunk)) (ds : List Chunk) (σ τ : State) → row_moved o ds σ ≡ stays τ → (es : List Chunk) × (o ≡ Some es) × (put_on es (ds ∷ σ) ≡ τ)
row_some None ds σ τ e = no_stay e
row_some (Some es) ds σ τ e = (es, refl, cc)

moved_some : (o : Option (List Chunk)) (σ τ : State) → moved o σ ≡ stays τ → (es : List Chunk) × (o ≡ Some es) × (es ∷ σ ≡ τ)
moved_some None σ τ e = no_stay e
moved_some (Some es) σ τ e = (es, refl, cc)

-- An action that stays does as its chunks say.
pub stayed : (r : Rule) → RulePlain r → (coming : Option ℕ) (σ τ : State) {b s t : Pile} (x : Telling) → move r coming σ ≡ stays τ → does r x s ≡ Some t → (g : Piled σ b s) → Stays r τ g t
stayed begins plain coming σ τ {t = t} x ok e g = subst (λ z. Stays begins z g t) (moved_to ok) (begun σ x e g)
stayed leaves_out plain coming σ τ {t = t} x ok e g = subst (λ z. Stays leaves_out z g t) (moved_to ok) (left σ e g)
stayed (takes (always form)) plain coming σ τ x ok e g = always_moves form (layout form) coming σ τ refl ok e g
stayed (takes l) plain (Some n) σ τ x ok e g = not_stays (is_itself n) (add (leaf_chunk l) σ) τ ok
stayed (takes l) plain None σ τ x ok e g = no_stay ok
stayed gathers plain coming (cs ∷ ds ∷ σ) τ {t = t} x ok e g = let o = row_some (row_chunks cs) ds σ τ ok in subst (λ z. Stays gathers z g t) o.2 (gathered cs ds o.0 σ x o.1 e g)
stayed (closes slots form) plain coming (cs ∷ ds ∷ σ) τ {t = t} x ok e g =
    let i = if_stays (is_laid form cs) (add (node_chunk form) (ds ∷ σ)) τ ok in subst (λ z. Stays (closes slots form) z g t) i.1 (closed_here slots form cs ds σ x i.0 e g)
stayed (joins slots form) plain coming (cs ∷ σ) τ {t = t} x ok e g =
    let i = if_stays (are_parts slots && one_each cs slots && is_laid form cs) ((node_chunk form ∷ []) ∷ σ) τ ok in subst (λ z. Stays (joins slots form) z g t) i.1 (joined_here slots form cs σ x i.0 e g)
stayed (wraps k form) plain coming (cs ∷ σ) τ {t = t} x ok e g = let o = moved_some (wrapped_last form cs) σ τ ok in subst (λ z. Stays (wraps k form) z g t) o.2 (wrapped_here k form cs o.0 σ x o.1 e g)
stayed r plain coming σ τ x ok e g = no_stay ok

leaf_takes : (l : Leaf) (n : ℕ) (σ τ : State) {b s t : Pile} (x : Tok) → is_always l ≡ false → EachForm (Plainly l) l → LeafSays l → (if is_itself n then eats (add (leaf_chunk l) σ) else stuck) ≡ eats τ → parser_takes n (number x) ≡ All → does (takes l) (tells x) s ≡ Some t → (g : Piled σ b s) → Eats (takes l) n τ g t
leaf_takes l n σ τ {t = t} x other plain says ok passed e g =
    let i = if_eats (is_itself n) (add (leaf_chunk l) σ) τ ok in subst (λ z. Eats (takes l) n z g t) i.1 (leaf_eats l n σ x other plain says i.0 passed e g)

row_no_eat : {A : Type 0} (o : Option (List Chunk)) (ds : List Chunk) (σ τ : State) → row_moved o ds σ ≡ eats τ → A
row_no_eat None ds σ τ e = no_eat e
row_no_eat (Some es) ds σ τ e = stays_no_eat e

moved_no_eat : {A : Type 0} (o : Option (List Chunk)) (σ τ : State) → moved o σ ≡ eats τ → A
moved_no_eat None σ τ e = no_eat e
moved_no_eat (Some es) σ τ e = stays_no_eat e

-- An action that eats the token that comes does as its chunks say.
pub ate : (r : Rule) → RulePlain r → (n : ℕ) (σ τ : State) {b s t : Pile} (x : Tok) → move r (Some n) σ ≡ eats τ → parser_takes n (number x) ≡ All → does r (tells x) s ≡ Some t → (g : Piled σ b s) → Eats r n τ g t
ate (takes (always form)) plain n σ τ x ok passed e g = always_takes form (layout form) n σ τ refl ok e g
ate (takes l) plain n σ τ x ok passed e g = leaf_takes l n σ τ x refl plain.0 plain.1 ok passed e g
ate begins plain n σ τ x ok passed e g = stays_no_eat ok
ate leaves_out plain n σ τ x ok passed e g = stays_no_eat ok
ate gathers plain n (cs ∷ ds ∷ σ) τ x ok passed e g = row_no_eat (row_chunks cs) ds σ τ ok
ate (closes slots form) plain n (cs ∷ ds ∷ σ) τ x ok passed e g = not_eats (is_laid form cs) (add (node_chunk form) (ds ∷ σ)) τ ok
ate (joins slots form) plain n (cs ∷ σ) τ x ok passed e g = not_eats (are_parts slots && one_each cs slots && is_laid form cs) ((node_chunk form ∷ []) ∷ σ) τ ok
ate (wraps k form) plain n (cs ∷ σ) τ x ok passed e g = moved_no_eat (wrapped_last form cs) σ τ ok
ate r plain n σ τ x ok passed e g = no_eat ok

-- The token that is eaten is no half of another.
always_itself : (form : Form) (ps : List Piece) (n : ℕ) (σ τ : State) → always_moved form ps (Some n) σ ≡ eats τ → is_itself n ≡ true
always_itself form (piece.Word k ∷ []) n σ τ ok =
    (and_parts (is_token k n) (is_itself n) (and_parts (is_token k n && is_itself n) (not (is_new form)) (if_eats (is_token k n && is_itself n && not (is_new form)) (add (node_chunk form) σ) τ ok).0).0).1
always_itself form [] n σ τ ok = stuck_or_stays (is_new form) (add (node_chunk form) σ) τ ok
always_itself form ps n σ τ ok = no_eat ok

pub eats_itself : (r : Rule) (n : ℕ) (σ τ : State) → move r (Some n) σ ≡ eats τ → is_itself n ≡ true
eats_itself (takes (always form)) n σ τ ok = always_itself form (layout form) n σ τ ok
eats_itself (takes l) n σ τ ok = (if_eats (is_itself n) (add (leaf_chunk l) σ) τ ok).0
eats_itself begins n σ τ ok = stays_no_eat ok
eats_itself leaves_out n σ τ ok = stays_no_eat ok
eats_itself gathers n (cs ∷ ds ∷ σ) τ ok = row_no_eat (row_chunks cs) ds σ τ ok
eats_itself (closes slots form) n (cs ∷ ds ∷ σ) τ ok = not_eats (is_laid form cs) (add (node_chunk form) (ds ∷ σ)) τ ok
eats_itself (joins slots form) n (cs ∷ σ) τ ok = not_eats (are_parts slots && one_each cs slots && is_laid form cs) ((node_chunk form ∷ []) ∷ σ) τ ok
eats_itself (wraps k form) n (cs ∷ σ) τ ok = moved_no_eat (wrapped_last form cs) σ τ ok
eats_itself r n σ τ ok = no_eat ok
