-- Each tree that the rules build has the parts of its alternatives.
use Rattle.std.specs.Prelude.{reverse, option_map}
use Rattle.std.proofs.Common.{◌≡◌, ℕ, List, [], ◌∷◌, Bool, Option, Some, None, true, refl, ap, ◌∙◌, subst, inl, inr}
use Rattle.std.proofs.lemmas.Bool.{and_from, cases_Bool}
use Rattle.sp_base.specs.declared.places.Span.{Span}
use Rattle.sp_lex.specs.declared.tokens.Token.{Token}
use Rattle.sp_lex.specs.Readings.{bytes_of}
use Rattle.sp_parser.specs.declared.symbol.ActionAt.{ActionAt}
use Rattle.sp_grammar.specs.declared.actions.Action.{Action}
use Rattle.sp_grammar.specs.Actions.{action_with}
use Rattle.sp_ast.specs.declared.forms.Form.{Form}
use Rattle.sp_ast.specs.declared.groups.Sort.{Sort}
use Rattle.sp_ast.specs.declared.groups.Group.TheVariants.{Expressions as expressions}
use Rattle.sp_ast.specs.declared.groups.Sort.TheVariants.{One as one}
use Rattle.sp_ast.specs.declared.groups.Slot.{Slot}
use Rattle.sp_ast.specs.declared.groups.Slot.TheVariants.{Part as part, Several as several}
use Rattle.sp_ast.specs.Groups.{is_node, is_of, fits}
use Rattle.sp_ast.specs.Slots.{slots, fill, is_formed, are_formed}
use Rattle.sp_ast.specs.Trees.{Tree, absent, row, node, more, none, trees, tree, in_row, respan, span_of}
use Rattle.sp_build.specs.Items.{begun, built}
use Rattle.sp_build.specs.Rules.{Rule, begins, leaves_out, takes, gathers, closes, closes_integer, closes_attribute, encloses, joins, wraps, rule}
use Rattle.sp_build.specs.inside.RuleParts.{HasParts}
use Rattle.sp_build.specs.Tokens.{form_of, integer_of, attribute_of}
use Rattle.sp_build.specs.Building.{Stack, Left, left, then_do, popped, gathered, popped_all, opened, parts_of, popped_parts, token_of, stretch, stretch_from, push, push_if, close_with, worded, done_by, acted, with_action, go_on, all_done}
use Rattle.sp_build.proofs.Standing.{some_equal, not_some}
use Rattle.sp_build.proofs.RuleParts.{rules_have_parts, leaf_has_none, none_fill, parts_fill}

abbrev pub AreFormed : Stack → Type 0
AreFormed [] = Unit {0}
AreFormed (begun p ∷ s) = AreFormed s
AreFormed (built t ∷ s) = (is_formed t ≡ true) × AreFormed s

-- what is done with an answer
then_some : {A B : Type 0} (o : Option (Left A)) (go : A → Stack → Option B) (y : B) → then_do o go ≡ Some y → (x : Left A) × (o ≡ Some x) × (go x.value x.rest ≡ Some y)
then_some None go y e = not_some e
then_some (Some x) go y e = (x, refl, e)

pushed : (t : Tree) (s next : Stack) → push t s ≡ Some next → is_formed t ≡ true → AreFormed s → AreFormed next
pushed t s next e formed are = subst AreFormed (some_equal e) (formed, are)

popped_formed : (sort : Sort) (s : Stack) (x : Left Tree) → popped sort s ≡ Some x → AreFormed s → (is_formed x.value ≡ true) × AreFormed x.rest × (fits sort x.value ≡ true)
popped_formed sort [] x e are = not_some e
popped_formed sort (begun p ∷ s) x e are = not_some e
popped_formed sort (built t ∷ s) x e are = elim (cases_Bool (fits sort t)) [
  | inl y ↦
      let same : left t s ≡ x = some_equal (rw y at e) in
      subst (λ (z : Left Tree). (is_formed z.value ≡ true) × AreFormed z.rest × (fits sort z.value ≡ true)) same (are.0, are.1, y)
  | inr n ↦ not_some (rw n at e)
]

opened_formed : (s : Stack) (x : Left ℕ) → opened s ≡ Some x → AreFormed s → AreFormed x.rest
opened_formed [] x e are = not_some e
opened_formed (begun p ∷ s) x e are = subst (λ (z : Left ℕ). AreFormed z.rest) (some_equal e) are
opened_formed (built t ∷ s) x e are = not_some e

gathered_formed : (test : Tree → Bool) (s : Stack) (ts : List Tree) → AreFormed s → are_formed (trees ts) ≡ true → (are_formed (trees (gathered test s ts).value) ≡ true) × AreFormed (gathered test s ts).rest
gathered_formed test [] ts are formed = (formed, tt)
gathered_formed test (begun p ∷ s) ts are formed = (formed, are)
gathered_formed test (built t ∷ s) ts are formed = elim (cases_Bool (test t)) [
  | inl y ↦ rw y (gathered_formed test s (t ∷ ts) are.1 (and_from (is_formed t) (are_formed (trees ts)) are.0 formed))
  | inr n ↦ rw n (formed, are)
]

parts_formed : (asked : List Slot) (ts : List Tree) (s : Stack) (x : Left (List Tree)) → parts_of asked ts s ≡ Some x → AreFormed s → are_formed (trees ts) ≡ true → (are_formed (trees x.value) ≡ true) × AreFormed x.rest
parts_formed [] ts s x e are formed = subst (λ (z : Left (List Tree)). (are_formed (trees z.value) ≡ true) × AreFormed z.rest) (some_equal e) (formed, are)
parts_formed (part sort ∷ asked) ts s x e are formed =
    let a = then_some (popped sort s) (λ (t : Tree) (rest : Stack). parts_of asked (t ∷ ts) rest) x e in
    let p = popped_formed sort s a.0 a.1 are in
    parts_formed asked (a.0.value ∷ ts) a.0.rest x a.2 p.1 (and_from (is_formed a.0.value) (are_formed (trees ts)) p.0 formed)
parts_formed (several g ∷ asked) ts s x e are formed =
    let f = gathered_formed (is_of g) s ts are formed in
    parts_formed asked (gathered (is_of g) s ts).value (gathered (is_of g) s ts).rest x e f.1 f.0

-- the parts of an alternative, and its tree
whole_formed : (form : Form) (asked : List Slot) (span : Span) (s : Stack) (x : Left (List Tree)) → slots form ≡ asked → popped_parts asked s ≡ Some x → AreFormed s → (is_formed (tree form span x.value) ≡ true) × AreFormed x.rest
whole_formed form asked span s x same e are =
    let f = parts_formed (reverse asked) [] s x e are refl in
    (and_from (fill (slots form) (trees x.value)) (are_formed (trees x.value)) (parts_fill form asked x.value s x.rest same e) f.0, f.1)

closed_formed : (asked : List Slot) (s next : Stack) (go : ℕ → List Tree → Stack → Option Stack) → close_with asked s go ≡ Some next → AreFormed s → ((p : ℕ) (x : Left (List Tree)) (below : Stack) → popped_parts asked s ≡ Some x → AreFormed below → go p x.value below ≡ Some next → AreFormed next) → AreFormed next
closed_formed asked s next go e are each =
    let a = then_some (popped_parts asked s) (λ (ts : List Tree) (rest : Stack). then_do (opened rest) (λ (p : ℕ) (below : Stack). go p ts below)) next e in
    let b = then_some (opened a.0.rest) (λ (p : ℕ) (below : Stack). go p a.0.value below) next a.2 in
    let f = parts_formed (reverse asked) [] s a.0 a.1 are refl in
    each b.0.value a.0 b.0.rest a.1 (opened_formed a.0.rest b.0 b.1 f.1) b.2

worded_formed : {A : Type 0} (o : Option A) (form : A → Form) (span : Span) (ts : List Tree) (s next : Stack) → worded o form span ts s ≡ Some next → AreFormed s → ((x : A) → is_formed (tree (form x) span ts) ≡ true) → AreFormed next
worded_formed None form span ts s next e are each = not_some e
worded_formed (Some x) form span ts s next e are each = pushed (tree (form x) span ts) s next e (each x) are

leaf_formed : (o : Option Form) (span : Span) (s next : Stack) → push_if (option_map (λ form. tree form span []) o) s ≡ Some next → AreFormed s → ((form : Form) → o ≡ Some form → slots form ≡ []) → AreFormed next
leaf_formed None span s next e are each = not_some e
leaf_formed (Some form) span s next e are each =
    pushed (tree form span []) s next e (and_from (fill (slots form) none) (are_formed none) (none_fill form (each form refl)) refl) are

respan_formed : (span : Span) (t : Tree) → is_formed t ≡ true → is_formed (respan span t) ≡ true
respan_formed span absent e = e
respan_formed span (row ts) e = e
respan_formed span (node form old ts) e = e

pub done_formed : (r : Rule) (text : List ℕ) (tokens : List Token) (n : ℕ) (s next : Stack) → HasParts r → done_by r text tokens n s ≡ Some next → AreFormed s → AreFormed next
done_formed begins text tokens n s next has e are = subst AreFormed (some_equal e) are
done_formed leaves_out text tokens n s next has e are = pushed absent s next e refl are
done_formed (takes l) text tokens n s next has e are =
    leaf_formed (form_of l (token_of tokens n).kind (bytes_of text (token_of tokens n))) (token_of tokens n).span s next e are
    (λ form q. leaf_has_none l has (token_of tokens n).kind (bytes_of text (token_of tokens n)) form q)
done_formed gathers text tokens n s next has e are =
    let found = popped_all s in
    let f = gathered_formed is_node s [] are refl in
    let a = then_some (opened found.rest) (λ (p : ℕ) (below : Stack). push (in_row found.value) below) next e in
    pushed (in_row found.value) a.0.rest next a.2 f.0 (opened_formed found.rest a.0 a.1 f.1)
done_formed (closes asked form) text tokens n s next has e are =
    closed_formed asked s next (λ p ts below. push (tree form (stretch tokens p n) ts) below) e are
    (λ p x below q under f. pushed (tree form (stretch tokens p n) x.value) below next f (whole_formed form asked (stretch tokens p n) s x has q are).0 under)
done_formed (closes_integer asked form) text tokens n s next has e are =
    closed_formed asked s next (λ p ts below. worded (integer_of (token_of tokens p).kind) form (stretch tokens p n) ts below) e are
    (λ p x below q under f. worded_formed (integer_of (token_of tokens p).kind) form (stretch tokens p n) x.value below next f under (λ word. (whole_formed (form word) asked (stretch tokens p n) s x (has word) q are).0))
done_formed (closes_attribute asked form) text tokens n s next has e are =
    closed_formed asked s next (λ p ts below. worded (attribute_of (token_of tokens p).kind) form (stretch tokens p n) ts below) e are
    (λ p x below q under f. worded_formed (attribute_of (token_of tokens p).kind) form (stretch tokens p n) x.value below next f under (λ name. (whole_formed (form name) asked (stretch tokens p n) s x (has name) q are).0))
done_formed encloses text tokens n s next has e are =
    let a = then_some (popped (one expressions) s) (λ (t : Tree) (rest : Stack). then_do (opened rest) (λ (p : ℕ) (below : Stack). push (respan (stretch tokens p n) t) below)) next e in
    let f = popped_formed (one expressions) s a.0 a.1 are in
    let b = then_some (opened a.0.rest) (λ (p : ℕ) (below : Stack). push (respan (stretch tokens p n) a.0.value) below) next a.2 in
    pushed (respan (stretch tokens b.0.value n) a.0.value) b.0.rest next b.2 (respan_formed (stretch tokens b.0.value n) a.0.value f.0) (opened_formed a.0.rest b.0 b.1 f.1)
done_formed (joins asked form) text tokens n s next has e are =
    let a = then_some (popped_parts asked s) (λ (ts : List Tree) (rest : Stack). push (tree form (stretch_from tokens ts n) ts) rest) next e in
    let f = whole_formed form asked (stretch_from tokens a.0.value n) s a.0 has a.1 are in
    pushed (tree form (stretch_from tokens a.0.value n) a.0.value) a.0.rest next a.2 f.0 f.1
done_formed (wraps g form) text tokens n s next has e are =
    let a = then_some (popped (one g) s) (λ (t : Tree) (rest : Stack). push (tree form (span_of t) (t ∷ [])) rest) next e in
    let f = popped_formed (one g) s a.0 a.1 are in
    let fills : fill (slots form) (more a.0.value none) ≡ true = ap (λ (l : List Slot). fill l (more a.0.value none)) has ∙ and_from (fits (one g) a.0.value) true f.2 refl in
    pushed (tree form (span_of a.0.value) (a.0.value ∷ [])) a.0.rest next a.2 (and_from (fill (slots form) (more a.0.value none)) (are_formed (more a.0.value none)) fills (and_from (is_formed a.0.value) true f.0 refl)) f.1

acted_formed : (o : Option Action) (text : List ℕ) (tokens : List Token) (n : ℕ) (s next : Stack) → with_action o (λ m. acted m text tokens n s) ≡ Some next → AreFormed s → AreFormed next
acted_formed None text tokens n s next e are = not_some e
acted_formed (Some m) text tokens n s next e are = done_formed (rule m) text tokens n s next (rules_have_parts m) e are

went_on : (o : Option Stack) (go : Stack → Option Stack) (next : Stack) → go_on o go ≡ Some next → (x : Stack) × (o ≡ Some x) × (go x ≡ Some next)
went_on None go next e = not_some e
went_on (Some x) go next e = (x, refl, e)

-- what the actions of a derivation build
pub all_formed : (text : List ℕ) (tokens : List Token) (actions : List ActionAt) (s next : Stack) → all_done text tokens actions s ≡ Some next → AreFormed s → AreFormed next
all_formed text tokens [] s next e are = subst AreFormed (some_equal e) are
all_formed text tokens (passed ∷ actions) s next e are =
    let a = went_on (with_action (action_with passed.action) (λ m. acted m text tokens passed.at s)) (λ (after : Stack). all_done text tokens actions after) next e in
    all_formed text tokens actions a.0 next a.2 (acted_formed (action_with passed.action) text tokens passed.at s a.0 a.1 are)
