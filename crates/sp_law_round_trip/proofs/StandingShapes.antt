-- The shapes in which what was read stands on a pile, and what each action makes of them: the words stay.
use Rattle.std.specs.Prelude.{option_map, length, ◌&&◌, ◌||◌, if◌then◌else◌}
use Rattle.std.proofs.Common.{◌≡◌, ◌⊎◌, ℕ, suc, List, [], ◌∷◌, ◌++◌, reverse, Bool, true, false, ◌==◌, Option, Some, None, inl, inr, refl, sym, ◌∙◌, ap, subst}
use Rattle.std.proofs.lemmas.Bool.{and_parts, eqb-true}
use Rattle.std.proofs.lemmas.List.{append-nil}
use Rattle.sp_lex.specs.declared.kinds.TokenKind.{TokenKind}
use Rattle.sp_lex.specs.declared.kinds.TokenKind.TheVariants as token
use Rattle.sp_parser.specs.Grammar.{takes, All}
use Rattle.sp_grammar.specs.declared.actions.Action.{Action}
use Rattle.sp_grammar.specs.declared.actions.Action.TheVariants as build
use Rattle.sp_grammar.specs.Terminals.{terminal_number}
use Rattle.sp_grammar.specs.declared.terminals.Terminal.TheVariants as terminal
use Rattle.sp_ast.specs.declared.forms.Form.{Form}
use Rattle.sp_words.specs.declared.words.AttributeName.{AttributeName}
use Rattle.sp_words.specs.declared.words.AttributeName.TheVariants as attribute_name
use Rattle.sp_words.specs.declared.words.IntWord.{IntWord}
use Rattle.sp_words.specs.declared.words.IntWord.TheVariants as integer
use Rattle.sp_ast.specs.Trees.{Tree, absent, tree as tree_of, in_row as row_of}
use Rattle.sp_build.specs.Rules.{Leaf, always, by_name, by_string, by_bytes, by_regex, by_number, by_integer, by_hook_name, Rule, begins, leaves_out, takes as takes_leaf, gathers, closes, closes_integer, closes_attribute, encloses, joins, wraps, rule}
use Rattle.sp_build.specs.Tokens.{integer_of, attribute_of}
use Rattle.sp_build.proofs.Standing.{some_equal, not_some, if_some}
use Rattle.sp_build.proofs.Told.{never}
use Rattle.sp_print.specs.declared.layouts.Separator.{Separator}
use Rattle.sp_print.specs.declared.layouts.Separator.TheVariants as separator
use Rattle.sp_print.specs.Own.{own_words}
use Rattle.sp_print.specs.Words.{Word, fixed, name, text as literal, bytes, regex, number as numeral}
use Rattle.sp_law_printed_words.specs.Sound.{read_as}
use Rattle.sp_law_round_trip.specs.Bare.{nowhere}
use Rattle.sp_law_round_trip.proofs.ClosedTrees.{closed_so, gathered_so, enclosed_so, joined_so, wrapped_so}
use Rattle.sp_law_round_trip.proofs.Held.{Pile, started, made, form_told, does}
use Rattle.sp_law_round_trip.proofs.Goes.{Tok, tells, telling_of, number, pushed, pushed_append}
use Rattle.sp_law_round_trip.proofs.HeardTokens.{heard_by_kind, lone_says, tok_words, whole_word}
use Rattle.sp_law_round_trip.proofs.HeardWords.{carries, fixed_words, heard_of, heard}
use Rattle.sp_law_round_trip.proofs.Leaves.{LeafSays, EachForm, is_always, of_told, mapped, hook_name_told, integer_is}
use Rattle.sp_law_round_trip.proofs.Shapes.{Shape, word, tree, one, optional, left_out, listed, in_row, words, shapes_of, rest_shapes, tree_words, text_of, Split, trees_in, wrote, joined_split, parted, only_words, words_in, covers, covers_on, no_shapes, are_ordered, node_words}
use Rattle.sp_law_round_trip.proofs.ShapeRuns.{State, base, inner, adds, is_whole, is_lone, words_at, left_over, depth, shut, or_else, holds, are_parts, whole_shapes, after, begins_with, is_said, pairs, enters, floor}
use Rattle.sp_law_round_trip.proofs.Singles.{is_single, kind_for}
use Rattle.sp_law_round_trip.proofs.Steps.{was_put}

-- what stands on a pile, by its shapes; and its words before others
abbrev pub Stands : State → Pile → Pile → Type 0
Stands (base cs) b s = (sp : Split cs) × (s ≡ pushed (trees_in cs sp) b)
Stands (inner known cs st) b s = (sp : Split cs) × (w : Word) × (under : Pile) × (s ≡ pushed (trees_in cs sp) (started (telling_of w) ∷ under)) × Stands st b under

abbrev begun : Bool → Word → List Word
begun known w = if known then heard_of w else []

abbrev pub text : (st : State) (b s : Pile) → Stands st b s → List Word → List Word
text (base cs) b s o r = wrote cs o.0 r
text (inner known cs st) b s o r = text st b o.2 o.4 (begun known o.1 ++ wrote cs o.0 r)

-- the pile t stands so, and its words before any others are these
abbrev pub Next : State → Pile → Pile → (List Word → List Word) → Type 0
Next st b t said = (o : Stands st b t) × ((r : List Word) → said r ≡ text st b t o r)

pub stands_with : (ds : List Shape) (st : State) (b s : Pile) (o : Stands st b s) (sq : Split ds) → Next (adds ds st) b (pushed (trees_in ds sq) s) (λ r. text st b s o (wrote ds sq r))
stands_with ds (base cs) b s o sq =
    let (x, all, says) = joined_split cs ds o.0 sq in (
      (x, ap (pushed (trees_in ds sq)) o.1 ∙ sym (pushed_append (trees_in cs o.0) (trees_in ds sq) b) ∙ ap (λ ts. pushed ts b) (sym all)),
      λ r. sym (says r),
    )
stands_with ds (inner known cs st) b s o sq =
    let (sp, w, under, is, lower) = o in
    let (x, all, says) = joined_split cs ds sp sq in
    let bottom = started (telling_of w) ∷ under in (
      (x, w, under, ap (pushed (trees_in ds sq)) is ∙ sym (pushed_append (trees_in cs sp) (trees_in ds sq) bottom) ∙ ap (λ ts. pushed ts bottom) (sym all), lower),
      λ r. ap (λ ws. text st b under lower (begun known w ++ ws)) (sym (says r)),
    )

pub moved : (st st' : State) (b t t' : Pile) (said : List Word → List Word) → st ≡ st' → t ≡ t' → Next st b t said → Next st' b t' said
moved st st' b t t' said p q now = subst (λ z. Next z b t' said) p (subst (λ z. Next st b z said) q now)

pub said_so : (st : State) (b t : Pile) (said other : List Word → List Word) → ((r : List Word) → other r ≡ said r) → Next st b t said → Next st b t other
said_so st b t said other same now = (now.0, λ r. same r ∙ now.1 r)

-- words that were read stand behind
pub stands_words : (ws : List Word) (st : State) (b s : Pile) (o : Stands st b s) → Next (adds (words ws) st) b s (λ r. text st b s o (ws ++ r))
stands_words ws st b s o =
    let sq = only_words ws in
    let (none_there, says) = words_in ws sq in
    said_so (adds (words ws) st) b s (λ r. text st b s o (wrote (words ws) sq r)) (λ r. text st b s o (ws ++ r)) (λ r. ap (text st b s o) (sym (says r)))
    (subst (λ ts. Next (adds (words ws) st) b (pushed ts s) (λ r. text st b s o (wrote (words ws) sq r))) none_there (stands_with (words ws) st b s o sq))

-- Shapes that are closed become this tree, if it has their words.
abbrev Makes : List Shape → List Tree → (List Word → List Word) → Shape → Tree → Type 0
Makes want ts before_it c u = (sq : Split want) → ts ≡ trees_in want sq → (x : Split (c ∷ [])) × (trees_in (c ∷ []) x ≡ u ∷ []) × ((r : List Word) → before_it (wrote want sq r) ≡ wrote (c ∷ []) x r)

shut_on : (known : Bool) (cs want : List Shape) (c : Shape) (st st' : State) (b under : Pile) (sp : Split cs) (w : Word) (lower : Stands st b under) → shut cs want c st ≡ Some st' → (u : Tree) → Makes want (trees_in cs sp) (λ r. begun known w ++ r) c u
    → Next st' b (made u ∷ under) (λ r. text st b under lower (begun known w ++ wrote cs sp r))
shut_on known cs want c st st' b under sp w lower h u makes =
    let ws = left_over cs want in
    let (ok, is) = if_some (covers depth cs (want ++ words ws)) (Some (adds (c ∷ words ws) st)) st' h in
    let (sx, same) = covers_on depth cs (want ++ words ws) sp ok in
    let (sq, sr, all, says) = parted want (words ws) sx in
    let (none_there, says_words) = words_in ws sr in
    let (x, is_u, says_u) = makes sq (same.0 ∙ all ∙ ap (λ ts. trees_in want sq ++ ts) none_there ∙ append-nil (trees_in want sq)) in
    let (y, all_y, says_y) = joined_split (c ∷ []) (words ws) x (only_words ws) in
    let (none_again, says_again) = words_in ws (only_words ws) in
    let trees_are : trees_in (c ∷ words ws) y ≡ u ∷ [] = all_y ∙ ap (λ ts. trees_in (c ∷ []) x ++ ts) none_again ∙ append-nil (trees_in (c ∷ []) x) ∙ is_u in
    moved (adds (c ∷ words ws) st) st' b (pushed (trees_in (c ∷ words ws) y) under) (made u ∷ under) (λ r. text st b under lower (begun known w ++ wrote cs sp r)) (some_equal is) (ap (λ ts. pushed ts under) trees_are)
    (said_so (adds (c ∷ words ws) st) b (pushed (trees_in (c ∷ words ws) y) under) (λ r. text st b under lower (wrote (c ∷ words ws) y r)) (λ r. text st b under lower (begun known w ++ wrote cs sp r))
    (λ r. ap (text st b under lower)
    (ap (λ vs. begun known w ++ vs) (same.1 r ∙ says r ∙ ap (wrote want sq) (says_words r)) ∙ says_u (ws ++ r) ∙ sym (says_y r ∙ ap (wrote (c ∷ []) x) (says_again r))))
    (stands_with (c ∷ words ws) st b under lower y))

only_ordered : (ks : List Word) → are_ordered (words ks) ≡ true
only_ordered [] = refl
only_ordered (k ∷ ks) = only_ordered ks

ordered_behind : (ks : List Word) (rest : List Shape) → are_ordered rest ≡ true → are_ordered (words ks ++ rest) ≡ true
ordered_behind [] rest ok = ok
ordered_behind (k ∷ ks) rest ok = ordered_behind ks rest ok

makes_node : (form : Form) (ts : List Tree) → are_ordered (shapes_of form) ≡ true → Makes (shapes_of form) ts (λ r. r) (tree one) (tree_of form nowhere ts)
makes_node form ts ok sq all = (((tree_of form nowhere ts, refl), tt), refl, λ r. sym (node_words form (shapes_of form) sq ts refl ok (sym all) r))

-- the same, where the word at which it began is its own
makes_own : (form : Form) (w : Word) (ks : List Word) (rest : List Shape) (ts : List Tree) → shapes_of form ≡ words ks ++ rest → heard_of w ≡ ks → are_ordered rest ≡ true → Makes rest ts (λ r. heard_of w ++ r) (tree one) (tree_of form nowhere ts)
makes_own form w ks rest ts is same ok sq all =
    let (x, all_x, says_x) = joined_split (words ks) rest (only_words ks) sq in
    let (none_there, says) = words_in ks (only_words ks) in (
      ((tree_of form nowhere ts, refl), tt),
      refl,
      λ r. ap (λ vs. vs ++ wrote rest sq r) same ∙ sym (says (wrote rest sq r)) ∙ sym (says_x r)
          ∙ sym (node_words form (words ks ++ rest) x ts is (ordered_behind ks rest ok) (all_x ∙ ap (λ us. us ++ trees_in rest sq) none_there ∙ sym all) r),
    )

abbrev integer_word : IntWord → List Word
integer_word i = fixed (token.Integer i) ∷ []

abbrev attribute_word : AttributeName → List Word
attribute_word a = fixed (token.Attribute a) ∷ []

attribute_is : (kind : TokenKind) (a : AttributeName) → attribute_of kind ≡ Some a → kind ≡ token.Attribute a
attribute_is (token.Attribute x) a e = ap token.Attribute (some_equal e)
attribute_is kind a e = not_some e

integer_heard : (w : Word) (i : IntWord) → integer_of (read_as w) ≡ Some i → heard_of w ≡ integer_word i
integer_heard w i e = let is = integer_is (read_as w) i e in heard_by_kind w (ap carries is) ∙ ap fixed_words is

attribute_heard : (w : Word) (a : AttributeName) → attribute_of (read_as w) ≡ Some a → heard_of w ≡ attribute_word a
attribute_heard w a e = let is = attribute_is (read_as w) a e in heard_by_kind w (ap carries is) ∙ ap fixed_words is

-- The own word of an alternative stands first.
abbrev IsOwned : Rule → Type 0
IsOwned (closes_integer slots form) = (i : IntWord) → shapes_of (form i) ≡ words (integer_word i) ++ rest_shapes (form integer.Uint8)
IsOwned (closes_attribute slots form) = (a : AttributeName) → shapes_of (form a) ≡ words (attribute_word a) ++ rest_shapes (form attribute_name.Size)
IsOwned (takes_leaf (always form)) = Unit {0}
IsOwned (takes_leaf l) = LeafSays l × EachForm (λ form. shapes_of form ≡ (words (heard (own_words form)) ++ []) ++ []) l
IsOwned _ = Unit {0}

pub rule_owned : (m : Action) → IsOwned (rule m)
rule_owned build.Begin = tt
rule_owned build.Name = (λ x. refl, λ x. refl)
rule_owned build.String = (λ x. refl, λ x. refl)
rule_owned build.Number = (λ x. refl, λ x. refl)
rule_owned build.HookName = (λ x. refl, λ x. refl)
rule_owned build.IntType = (λ x. refl, λ x. refl)
rule_owned build.NameTarget = (λ x. refl, λ x. refl)
rule_owned build.HookTarget = (λ x. refl, λ x. refl)
rule_owned build.Attribute = λ x. refl
rule_owned build.BytesBase = (λ x. refl, λ x. refl)
rule_owned build.RegexBase = (λ x. refl, λ x. refl)
rule_owned build.NumberBase = λ x. refl
rule_owned build.IntBase = λ x. refl
rule_owned build.NumberExpr = (λ x. refl, λ x. refl)
rule_owned build.StringExpr = (λ x. refl, λ x. refl)
rule_owned build.BytesExpr = (λ x. refl, λ x. refl)
rule_owned build.RegexExpr = (λ x. refl, λ x. refl)
rule_owned build.TypedNumberExpr = λ x. refl
rule_owned m = tt

or_some : (o p : Option State) (st : State) → or_else o p ≡ Some st → (o ≡ Some st) ⊎ (p ≡ Some st)
or_some None p st h = inr h
or_some (Some x) p st h = inl h

makes_row : (by : Separator) (ts : List Tree) → Makes (tree (listed by) ∷ []) ts (λ r. r) (tree (in_row by)) (row_of ts)
makes_row by ts sq all =
    let same : ts ≡ sq.0 = all ∙ append-nil sq.0 in
    ((row_of ts, tt), refl, λ r. ap (λ us. text_of (listed by) us r) (sym same))

makes_enclosed : (u : Tree) (ts : List Tree) → u ∷ [] ≡ ts → Makes (tree one ∷ []) ts (λ r. r) (tree one) u
makes_enclosed u ts is sq all = (sq, sym (is ∙ all), λ r. refl)

no_shapes_are : (cs : List Shape) → no_shapes cs ≡ true → cs ≡ []
no_shapes_are [] ok = refl
no_shapes_are (c ∷ cs) ok = never ok

holds_trees : (cs : List Shape) (n : ℕ) (sp : Split cs) → holds cs n ≡ true → length (trees_in cs sp) ≡ n
holds_trees [] n sp ok = sym (eqb-true n 0 ok)
holds_trees (word w ∷ cs) n sp ok = holds_trees cs n sp.1 ok
holds_trees (tree one ∷ cs) (suc n) sp ok = ap suc (holds_trees cs n sp.1 ok)
holds_trees (tree (optional around) ∷ cs) (suc n) sp ok = ap suc (holds_trees cs n sp.1 ok)
holds_trees (tree left_out ∷ cs) (suc n) sp ok = ap suc (holds_trees cs n sp.1 ok)
holds_trees (tree (in_row by) ∷ cs) (suc n) sp ok = ap suc (holds_trees cs n sp.1 ok)
holds_trees cs n sp ok = never ok

-- all that was read becomes one tree
whole_made : (form : Form) (cs : List Shape) (n : ℕ) (b s : Pile) (o : Stands (base cs) b s) → whole_shapes cs (shapes_of form) n ≡ true
    → (length (trees_in cs o.0) ≡ n) × Next (base (tree one ∷ [])) b (made (tree_of form nowhere (trees_in cs o.0)) ∷ b) (λ r. text (base cs) b s o r)
whole_made form cs n b s o ok =
    let (counted, rest) = and_parts (holds cs n) (are_ordered (shapes_of form) && covers depth cs (shapes_of form)) ok in
    let (ordered, covered) = and_parts (are_ordered (shapes_of form)) (covers depth cs (shapes_of form)) rest in
    let (sq, same) = covers_on depth cs (shapes_of form) o.0 covered in (
      holds_trees cs n o.0 counted,
      ((((tree_of form nowhere (trees_in cs o.0), refl), tt), refl), λ r. same.1 r ∙ sym (node_words form (shapes_of form) sq (trees_in cs o.0) refl ordered (sym same.0) r)),
    )

gathers_on : (by : Separator) (v : Word) (cs : List Shape) (st st' : State) (b s t : Pile) (o : Stands (inner false cs st) b s) → shut cs (tree (listed by) ∷ []) (tree (in_row by)) st ≡ Some st' → does gathers (telling_of v) s ≡ Some t → Next st' b t (λ r. text (inner false cs st) b s o r)
gathers_on by v cs st st' b s t o ok h =
    let (sp, w, under, is, lower) = o in
    let ts = trees_in cs sp in
    moved st' st' b (made (row_of ts) ∷ under) t (λ r. text (inner false cs st) b s o r) refl (sym (gathered_so (telling_of v) s t ts (telling_of w) under is h))
    (shut_on false cs (tree (listed by) ∷ []) (tree (in_row by)) st st' b under sp w lower ok (row_of ts) (makes_row by ts))

-- what an action makes of what stands on a pile, the words stay
pub acted : (r : Rule) → IsOwned r → (v : Word) (st st' : State) (b s t : Pile) (o : Stands st b s) → after r st ≡ Some st' → does r (telling_of v) s ≡ Some t → Next st' b t (λ r. text st b s o r)
acted begins owned v st st' b s t o ok h = moved (inner false [] st) st' b (started (telling_of v) ∷ s) t (λ r. text st b s o r) (some_equal ok) (some_equal h) ((tt, v, s, refl, o), λ r. refl)
acted leaves_out owned v st st' b s t o ok h = moved (adds (tree left_out ∷ []) st) st' b (made absent ∷ s) t (λ r. text st b s o r) (some_equal ok) (some_equal h) (stands_with (tree left_out ∷ []) st b s o (tt, tt))
acted (takes_leaf (always form)) owned v st st' b s t o ok h =
    let (none_there, is) = if_some (no_shapes (shapes_of form)) (Some (adds (tree one ∷ []) st)) st' ok in
    let u = tree_of form nowhere [] in
    moved (adds (tree one ∷ []) st) st' b (made u ∷ s) t (λ r. text st b s o r) (some_equal is) (some_equal h)
    (said_so (adds (tree one ∷ []) st) b (made u ∷ s) (λ r. text st b s o (tree_words u r)) (λ r. text st b s o r) (λ r. ap (text st b s o) (sym (node_words form [] tt [] (no_shapes_are (shapes_of form) none_there) refl refl r)))
    (stands_with (tree one ∷ []) st b s o ((u, refl), tt)))
acted gathers owned v (inner false cs st) st' b s t o ok h = elim (or_some (shut cs (tree (listed separator.Nothing) ∷ []) (tree (in_row separator.Nothing)) st) (shut cs (tree (listed separator.ElseIf) ∷ []) (tree (in_row separator.ElseIf)) st) st' ok) [
  | inl plainly ↦ gathers_on separator.Nothing v cs st st' b s t o plainly h
  | inr branches ↦ gathers_on separator.ElseIf v cs st st' b s t o branches h
]
acted (closes slots form) owned v (inner false cs st) st' b s t o ok h =
    let (sp, w, under, is, lower) = o in
    let ts = trees_in cs sp in
    let (ordered, made_so) = if_some (are_ordered (shapes_of form)) (shut cs (shapes_of form) (tree one) st) st' ok in
    let (f, told_so, pile) = closed_so slots (λ p. Some form) s t ts (telling_of w) under is h in
    moved st' st' b (made (tree_of form nowhere ts) ∷ under) t (λ r. text (inner false cs st) b s o r) refl (ap (λ g. made (tree_of g nowhere ts) ∷ under) (some_equal told_so) ∙ sym pile)
    (shut_on false cs (shapes_of form) (tree one) st st' b under sp w lower made_so (tree_of form nowhere ts) (makes_node form ts ordered))
acted (closes_integer slots form) owned v (inner true cs st) st' b s t o ok h =
    let (sp, w, under, is, lower) = o in
    let ts = trees_in cs sp in
    let rest = rest_shapes (form integer.Uint8) in
    let (ordered, made_so) = if_some (are_ordered rest) (shut cs rest (tree one) st) st' ok in
    let (f, told_so, pile) = closed_so slots (λ p. option_map form (integer_of p.kind)) s t ts (telling_of w) under is h in
    let (i, word_is, form_is) = mapped form (integer_of (read_as w)) f told_so in
    moved st' st' b (made (tree_of (form i) nowhere ts) ∷ under) t (λ r. text (inner true cs st) b s o r) refl (ap (λ g. made (tree_of g nowhere ts) ∷ under) form_is ∙ sym pile)
    (shut_on true cs rest (tree one) st st' b under sp w lower made_so (tree_of (form i) nowhere ts) (makes_own (form i) w (integer_word i) rest ts (owned i) (integer_heard w i word_is) ordered))
acted (closes_attribute slots form) owned v (inner true cs st) st' b s t o ok h =
    let (sp, w, under, is, lower) = o in
    let ts = trees_in cs sp in
    let rest = rest_shapes (form attribute_name.Size) in
    let (ordered, made_so) = if_some (are_ordered rest) (shut cs rest (tree one) st) st' ok in
    let (f, told_so, pile) = closed_so slots (λ p. option_map form (attribute_of p.kind)) s t ts (telling_of w) under is h in
    let (a, word_is, form_is) = mapped form (attribute_of (read_as w)) f told_so in
    moved st' st' b (made (tree_of (form a) nowhere ts) ∷ under) t (λ r. text (inner true cs st) b s o r) refl (ap (λ g. made (tree_of g nowhere ts) ∷ under) form_is ∙ sym pile)
    (shut_on true cs rest (tree one) st st' b under sp w lower made_so (tree_of (form a) nowhere ts) (makes_own (form a) w (attribute_word a) rest ts (owned a) (attribute_heard w a word_is) ordered))
acted encloses owned v (inner false cs st) st' b s t o ok h =
    let (sp, w, under, is, lower) = o in
    let ts = trees_in cs sp in
    let (u, alone, pile) = enclosed_so (telling_of v) s t ts (telling_of w) under is h in
    moved st' st' b (made u ∷ under) t (λ r. text (inner false cs st) b s o r) refl (sym pile)
    (shut_on false cs (tree one ∷ []) (tree one) st st' b under sp w lower ok u (makes_enclosed u ts alone))
acted (joins slots form) owned v (base cs) st' b s t o ok h =
    let (test, is) = if_some (are_parts (reverse slots) && whole_shapes cs (shapes_of form) (length (reverse slots))) (Some (base (tree one ∷ []))) st' ok in
    let (only_parts, whole_so) = and_parts (are_parts (reverse slots)) (whole_shapes cs (shapes_of form) (length (reverse slots))) test in
    let (long, now) = whole_made form cs (length (reverse slots)) b s o whole_so in
    moved (base (tree one ∷ [])) st' b (made (tree_of form nowhere (trees_in cs o.0)) ∷ b) t (λ r. text (base cs) b s o r) (some_equal is) (sym (joined_so slots form (telling_of v) s t b (trees_in cs o.0) o.1 only_parts long h)) now
acted (wraps g form) owned v (base cs) st' b s t o ok h =
    let (test, is) = if_some (whole_shapes cs (shapes_of form) 1) (Some (base (tree one ∷ []))) st' ok in
    let (long, now) = whole_made form cs 1 b s o test in
    moved (base (tree one ∷ [])) st' b (made (tree_of form nowhere (trees_in cs o.0)) ∷ b) t (λ r. text (base cs) b s o r) (some_equal is) (sym (wrapped_so g form (telling_of v) s t b (trees_in cs o.0) o.1 long h)) now
acted r owned v st st' b s t o ok h = not_some ok

-- the tree of a token tells what the token does
told_says : (l : Leaf) (w : Word) (form : Form) → LeafSays l → is_always l ≡ false → form_told l (read_as w) w ≡ Some form → heard (own_words form) ≡ heard_of w ++ []
told_says (always its) w form says other h = absurd cc
told_says (by_name its) (name x) form says other h = ap (λ f. heard (own_words f)) (sym (some_equal h)) ∙ ap heard (says x)
told_says (by_string its) (literal x) form says other h = ap (λ f. heard (own_words f)) (sym (some_equal h)) ∙ ap heard (says x)
told_says (by_bytes its) (bytes x) form says other h = ap (λ f. heard (own_words f)) (sym (some_equal h)) ∙ ap heard (says x)
told_says (by_regex its) (regex x) form says other h = ap (λ f. heard (own_words f)) (sym (some_equal h)) ∙ ap heard (says x)
told_says (by_number its) (numeral n) form says other h = ap (λ f. heard (own_words f)) (sym (some_equal h)) ∙ ap heard (says n)
told_says (by_integer its) w form says other h =
    let (i, is, same) = mapped its (integer_of (read_as w)) form h in
    ap (λ f. heard (own_words f)) (sym same) ∙ ap heard (says i) ∙ ap (λ ws. ws ++ []) (sym (integer_heard w i is))
told_says (by_hook_name its) w form says other h =
    let (k, is, same) = hook_name_told (read_as w) its w form h in
    let here : heard_of w ≡ fixed (token.Hook k) ∷ [] = heard_by_kind w (ap carries is) ∙ ap fixed_words is in
    ap (λ f. heard (own_words f)) (sym same) ∙ ap heard (says k) ∙ ap (λ ws. ws ++ []) (sym here)
told_says l w form says other h = not_some h

-- a tree that is put where its words are these
leaf_stands : (form : Form) (ks : List Word) (st : State) (b s : Pile) (o : Stands st b s) → shapes_of form ≡ words ks → Next (adds (tree one ∷ []) st) b (made (tree_of form nowhere []) ∷ s) (λ r. text st b s o (ks ++ r))
leaf_stands form ks st b s o is =
    let u = tree_of form nowhere [] in
    let (none_there, says) = words_in ks (only_words ks) in
    said_so (adds (tree one ∷ []) st) b (made u ∷ s) (λ r. text st b s o (tree_words u r)) (λ r. text st b s o (ks ++ r))
    (λ r. ap (text st b s o) (sym (says r) ∙ sym (node_words form (words ks) (only_words ks) [] is (only_ordered ks) none_there r)))
    (stands_with (tree one ∷ []) st b s o ((u, refl), tt))

leaf_on : (l : Leaf) → LeafSays l → EachForm (λ form. shapes_of form ≡ (words (heard (own_words form)) ++ []) ++ []) l → is_always l ≡ false → (e : ℕ) (x : Tok) (st st' : State) (b s t : Pile) (o : Stands st b s)
    → (if is_whole e then Some (adds (tree one ∷ []) st) else None) ≡ Some st' → takes e (number x) ≡ All → does (takes_leaf l) (tells x) s ≡ Some t → Next st' b t (λ r. text st b s o (tok_words x ++ r))
leaf_on l says each other e x st st' b s t o ok h done =
    let (entirely, is) = if_some (is_whole e) (Some (adds (tree one ∷ []) st)) st' ok in
    let (w, x_is) = whole_word e x entirely h in
    let (form, told_so, pile) = was_put (form_told l (read_as w) w) s t (ap (λ y. does (takes_leaf l) (tells y) s) (sym x_is) ∙ done) in
    let shape = of_told (λ f. shapes_of f ≡ (words (heard (own_words f)) ++ []) ++ []) l (read_as w) w form each told_so in
    let ks = heard_of w in
    let it : shapes_of form ≡ words ks = shape ∙ append-nil (words (heard (own_words form)) ++ []) ∙ append-nil (words (heard (own_words form))) ∙ ap words (told_says l w form says other told_so ∙ append-nil ks) in
    moved (adds (tree one ∷ []) st) st' b (made (tree_of form nowhere []) ∷ s) t (λ r. text st b s o (tok_words x ++ r)) (some_equal is) (sym pile)
    (said_so (adds (tree one ∷ []) st) b (made (tree_of form nowhere []) ∷ s) (λ r. text st b s o (ks ++ r)) (λ r. text st b s o (tok_words x ++ r)) (λ r. ap (λ y. text st b s o (tok_words y ++ r)) x_is) (leaf_stands form ks st b s o it))

-- a token that is read behind an action to which it belongs
pub paired : (r : Rule) → IsOwned r → (e : ℕ) (x : Tok) (st st' : State) (b s t : Pile) (o : Stands st b s) → pairs r e st ≡ Some st' → takes e (number x) ≡ All → does r (tells x) s ≡ Some t → Next st' b t (λ r. text st b s o (tok_words x ++ r))
paired begins owned e x st st' b s t o ok h done =
    let (test, is) = if_some (begins_with e) (Some (inner true [] st)) st' ok in
    let (w, x_is) = whole_word e x (and_parts ((e == terminal_number terminal.IntWord) || (e == terminal_number terminal.Attribute)) (is_whole e) test).1 h in
    moved (inner true [] st) st' b (started (telling_of w) ∷ s) t (λ r. text st b s o (tok_words x ++ r)) (some_equal is) (some_equal (ap (λ y. does begins (tells y) s) (sym x_is) ∙ done))
    (said_so (inner true [] st) b (started (telling_of w) ∷ s) (λ r. text st b s o (heard_of w ++ r)) (λ r. text st b s o (tok_words x ++ r)) (λ r. ap (λ y. text st b s o (tok_words y ++ r)) x_is) ((tt, w, s, refl, o), λ r. refl))
paired (takes_leaf (always form)) owned e x st st' b s t o ok h done =
    let (test, is) = if_some (is_said e (shapes_of form)) (Some (adds (tree one ∷ []) st)) st' ok in
    let (lone, rest) = and_parts (is_lone e) (are_ordered (shapes_of form) && covers depth (words (words_at e)) (shapes_of form)) test in
    let (ordered, covered) = and_parts (are_ordered (shapes_of form)) (covers depth (words (words_at e)) (shapes_of form)) rest in
    let ks = words_at e in
    let (sq, same) = covers_on depth (words ks) (shapes_of form) (only_words ks) covered in
    let (none_there, says) = words_in ks (only_words ks) in
    let u = tree_of form nowhere [] in
    moved (adds (tree one ∷ []) st) st' b (made u ∷ s) t (λ r. text st b s o (tok_words x ++ r)) (some_equal is) (some_equal done)
    (said_so (adds (tree one ∷ []) st) b (made u ∷ s) (λ r. text st b s o (tree_words u r)) (λ r. text st b s o (tok_words x ++ r))
    (λ r. ap (text st b s o) (ap (λ ws. ws ++ r) (lone_says e x lone h) ∙ sym (says r) ∙ same.1 r ∙ sym (node_words form (shapes_of form) sq [] refl ordered (sym same.0 ∙ none_there) r)))
    (stands_with (tree one ∷ []) st b s o ((u, refl), tt)))
paired (takes_leaf (by_name its)) owned e x st st' b s t o ok h done = leaf_on (by_name its) owned.0 owned.1 refl e x st st' b s t o ok h done
paired (takes_leaf (by_string its)) owned e x st st' b s t o ok h done = leaf_on (by_string its) owned.0 owned.1 refl e x st st' b s t o ok h done
paired (takes_leaf (by_bytes its)) owned e x st st' b s t o ok h done = leaf_on (by_bytes its) owned.0 owned.1 refl e x st st' b s t o ok h done
paired (takes_leaf (by_regex its)) owned e x st st' b s t o ok h done = leaf_on (by_regex its) owned.0 owned.1 refl e x st st' b s t o ok h done
paired (takes_leaf (by_number its)) owned e x st st' b s t o ok h done = leaf_on (by_number its) owned.0 owned.1 refl e x st st' b s t o ok h done
paired (takes_leaf (by_integer its)) owned e x st st' b s t o ok h done = leaf_on (by_integer its) owned.0 owned.1 refl e x st st' b s t o ok h done
paired (takes_leaf (by_hook_name its)) owned e x st st' b s t o ok h done = leaf_on (by_hook_name its) owned.0 owned.1 refl e x st st' b s t o ok h done
paired r owned e x st st' b s t o ok h done = not_some ok

pub paired_whole : (r : Rule) (e : ℕ) (st st' : State) → pairs r e st ≡ Some st' → is_whole e ≡ true
paired_whole begins e st st' ok = (and_parts ((e == terminal_number terminal.IntWord) || (e == terminal_number terminal.Attribute)) (is_whole e) (if_some (begins_with e) (Some (inner true [] st)) st' ok).0).1
paired_whole (takes_leaf (always form)) e st st' ok =
    let lone = (and_parts (is_lone e) (are_ordered (shapes_of form) && covers depth (words (words_at e)) (shapes_of form)) (if_some (is_said e (shapes_of form)) (Some (adds (tree one ∷ []) st)) st' ok).0).0 in
    (and_parts (is_single (kind_for e)) (is_whole e) lone).1
paired_whole (takes_leaf (by_name its)) e st st' ok = (if_some (is_whole e) (Some (adds (tree one ∷ []) st)) st' ok).0
paired_whole (takes_leaf (by_string its)) e st st' ok = (if_some (is_whole e) (Some (adds (tree one ∷ []) st)) st' ok).0
paired_whole (takes_leaf (by_bytes its)) e st st' ok = (if_some (is_whole e) (Some (adds (tree one ∷ []) st)) st' ok).0
paired_whole (takes_leaf (by_regex its)) e st st' ok = (if_some (is_whole e) (Some (adds (tree one ∷ []) st)) st' ok).0
paired_whole (takes_leaf (by_number its)) e st st' ok = (if_some (is_whole e) (Some (adds (tree one ∷ []) st)) st' ok).0
paired_whole (takes_leaf (by_integer its)) e st st' ok = (if_some (is_whole e) (Some (adds (tree one ∷ []) st)) st' ok).0
paired_whole (takes_leaf (by_hook_name its)) e st st' ok = (if_some (is_whole e) (Some (adds (tree one ∷ []) st)) st' ok).0
paired_whole r e st st' ok = not_some ok

-- a part that closes what began before it
pub entered : (xs : List (List Shape)) (st rest : State) (b s : Pile) (o : Stands st b s) → enters xs st ≡ Some rest
    → (under : Pile) × (lower : Stands rest b under) × (upper : Stands (floor xs) under s) × ((r : List Word) → text st b s o r ≡ text rest b under lower (text (floor xs) under s upper r))
entered [] st rest b s o h = subst (λ z. (under : Pile) × (lower : Stands z b under) × (upper : Stands (base []) under s) × ((r : List Word) → text st b s o r ≡ text z b under lower (text (base []) under s upper r))) (some_equal h) (s, o, (tt, refl), λ r. refl)
entered (x ∷ xs) (inner false cs st) rest b s o h =
    let (sp, w, below, is, deeper) = o in
    let (ok, goes) = if_some (covers depth cs x) (enters xs st) rest h in
    let (sq, same) = covers_on depth cs x sp ok in
    let (under, lower, upper, says) = entered xs st rest b below deeper goes in
    (under, lower, (sq, w, below, is ∙ ap (λ ts. pushed ts (started (telling_of w) ∷ below)) same.0, upper), λ r. ap (text st b below deeper) (same.1 r) ∙ says (wrote x sq r))
entered (x ∷ xs) (inner true cs st) rest b s o h = not_some h
entered (x ∷ xs) (base cs) rest b s o h = not_some h
