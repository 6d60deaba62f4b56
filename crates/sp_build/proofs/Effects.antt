-- What a rule makes of known shapes it makes of each stack that has them.
use Rattle.std.specs.Prelude.{ℕ, ◌≡◌, List, [], ◌∷◌, reverse, true, ◌==◌, if◌then◌else◌, Option, Some, None, option_map, refl}
use Rattle.std.proofs.Common.{◌∙◌, ap, sym, subst, eq-eqb, eqb-true}
use Rattle.std.proofs.lemmas.Bool.{and_from}
use Rattle.sp_base.specs.declared.places.Span.{Span}
use Rattle.sp_words.specs.declared.words.IntWord.TheVariants as integer
use Rattle.sp_words.specs.declared.words.AttributeName.TheVariants as attribute_name
use Rattle.sp_lex.specs.Readings.{bytes_of}
use Rattle.sp_lex.specs.declared.tokens.Token.{Token}
use Rattle.sp_grammar.specs.declared.terminals.Terminal.TheVariants as terminal
use Rattle.sp_grammar.specs.Terminals.{terminal_number}
use Rattle.sp_lex.specs.declared.kinds.TokenKind.{TokenKind}
use Rattle.sp_phrases.specs.Kinds.{token_number, number_of, terminal_of}
use Rattle.sp_ast.specs.declared.forms.Form.{Form}
use Rattle.sp_ast.specs.Trees.{Tree, absent, row, node, tree, trees, in_row, respan, span_of}
use Rattle.sp_ast.specs.declared.groups.Group.{Group}
use Rattle.sp_ast.specs.declared.groups.Sort.{Sort}
use Rattle.sp_ast.specs.declared.groups.Group.TheVariants.{Expressions as expressions}
use Rattle.sp_ast.specs.declared.groups.Sort.TheVariants.{One as one, Rows as rows}
use Rattle.sp_ast.specs.Groups.{is_node, group_number, same_group, group, is_of, are_of, fits}
use Rattle.sp_ast.specs.declared.groups.Slot.{Slot}
use Rattle.sp_ast.specs.declared.groups.Slot.TheVariants.{Part as part, Several as several}
use Rattle.sp_build.specs.Rules.{Rule, begins, leaves_out, takes, gathers, closes, closes_integer, closes_attribute, encloses, joins, wraps}
use Rattle.sp_build.specs.Tokens.{integer_of, attribute_of}
use Rattle.sp_build.specs.Items.{Item, begun, built}
use Rattle.sp_build.specs.Building.{Stack, Left, left, then_do, popped, gathered, opened, parts_of, popped_parts, token_of, stretch, stretch_from, push, push_if, close_with, worded, done_by}
use Rattle.sp_build.proofs.Shapes.{Shape, opens, opens_at, stands, no_row, and_then, under, under_one, under_opening, under_opening_at, is_opening, under_part, under_parts, closed_under, one_of, put, opening, leaf_group, is_told, group_in, rowed, effect}
use Rattle.sp_build.proofs.Told.{never, an_integer, an_attribute, IsEvenRule, IsKind, told}
use Rattle.sp_build.proofs.Standing.{is_shaped, Stands, bottom, above, no_more, one_more, some_equal, not_some, then_some, if_some, one_above, Front, no_tree, a_tree, under_front}

-- a tree begins at the last item
abbrev Opening : List Token → List Shape → Stack → Stack → Type 0
Opening tokens xs s b = (p : ℕ) × (r : Stack) × (s ≡ begun p ∷ r) × Stands tokens xs r b

opening_there : {tokens : List Token} {xs : List Shape} {s b : Stack} → is_opening xs ≡ true → Stands tokens xs s b → (p : ℕ) × (r : Stack) × (s ≡ begun p ∷ r)
opening_there e bottom = never e
opening_there e (above {x = opens} {i = begun p} {s = s} q st) = (p, s, refl)
opening_there e (above {x = opens} {i = built t} q st) = never q
opening_there e (above {x = opens_at k} {i = begun p} {s = s} q st) = (p, s, refl)
opening_there e (above {x = opens_at k} {i = built t} q st) = never q
opening_there e (above {x = _} q st) = never e
opening_there e (no_more st) = never e
opening_there e (one_more q st) = never e

opening_under : {tokens : List Token} {xs ys : List Shape} {s b : Stack} → under_opening xs ≡ Some ys → Stands tokens xs s b → Opening tokens ys s b
opening_under e bottom = not_some e
opening_under {tokens = tokens} {b = b} e (above {x = opens} {i = begun p} {s = s} q st) = (p, s, refl, subst (λ zs. Stands tokens zs s b) (some_equal e) st)
opening_under e (above {x = opens} {i = built t} q st) = never q
opening_under {tokens = tokens} {b = b} e (above {x = opens_at k} {i = begun p} {s = s} q st) = (p, s, refl, subst (λ zs. Stands tokens zs s b) (some_equal e) st)
opening_under e (above {x = opens_at k} {i = built t} q st) = never q
opening_under e (above {x = _} q st) = not_some e
opening_under e (no_more st) = not_some e
opening_under e (one_more q st) = not_some e

-- a tree begins at a token of this kind
abbrev OpeningAt : ℕ → List Token → List Shape → Stack → Stack → Type 0
OpeningAt k tokens xs s b = (p : ℕ) × (r : Stack) × (s ≡ begun p ∷ r) × Stands tokens xs r b × ((token_number (token_of tokens p) == k) ≡ true)

opening_at_under : {tokens : List Token} (k : ℕ) {xs ys : List Shape} {s b : Stack} → under_opening_at k xs ≡ Some ys → Stands tokens xs s b → OpeningAt k tokens ys s b
opening_at_under k e bottom = not_some e
opening_at_under {tokens = tokens} k {ys = ys} {b = b} e (above {x = opens_at n} {i = begun p} {xs = xs} {s = s} q st) =
    let c = if_some (n == k) (Some xs) ys e in
    (p, s, refl, subst (λ zs. Stands tokens zs s b) (some_equal c.1) st, eq-eqb (token_number (token_of tokens p)) k (eqb-true (token_number (token_of tokens p)) n q ∙ eqb-true n k c.0))
opening_at_under k e (above {x = opens_at n} {i = built t} q st) = never q
opening_at_under k e (above {x = _} q st) = not_some e
opening_at_under k e (no_more st) = not_some e
opening_at_under k e (one_more q st) = not_some e

-- the trees of a group down to where a tree begins
gathered_front : {g : Group} {s r : Stack} (p : ℕ) → Front g s (begun p ∷ r) → (acc : List Tree) → (ts : List Tree) × (gathered (is_of g) s acc ≡ left ts (begun p ∷ r))
gathered_front p no_tree acc = (acc, refl)
gathered_front {g = g} {r = r} p (a_tree {t = t} {s = s} q f) acc =
    let h = gathered_front p f (t ∷ acc) in
    (h.0, subst (λ c. (if c then gathered (is_of g) s (t ∷ acc) else left acc (built t ∷ s)) ≡ left h.0 (begun p ∷ r)) (sym q) h.1)

collected_front : {g : Group} {s r : Stack} (p : ℕ) → Front g s (begun p ∷ r) → (acc : List Tree) → are_of g (trees acc) ≡ true → (ts : List Tree) × (gathered is_node s acc ≡ left ts (begun p ∷ r)) × (are_of g (trees ts) ≡ true)
collected_front p no_tree acc a = (acc, refl, a)
collected_front {g = g} p (a_tree {t = node form span parts} q f) acc a = collected_front p f (node form span parts ∷ acc) (and_from (is_of g (node form span parts)) (are_of g (trees acc)) q a)
collected_front p (a_tree {t = absent} q f) acc a = never q
collected_front p (a_tree {t = row ts} q f) acc a = never q

-- the last tree fits
popped_there : {tokens : List Token} (sort : Sort) {xs ys : List Shape} {s b : Stack} → under_one (stands sort) xs ≡ Some ys → Stands tokens xs s b → (t : Tree) × (m : Stack) × (s ≡ built t ∷ m) × (fits sort t ≡ true) × Stands tokens ys m b
popped_there {tokens = tokens} sort {ys = ys} {b = b} e st =
    let a = one_above (stands sort) e st in there a.0 a.1 a.2 a.3 a.4
  where
    there : {s : Stack} (i : Item) (m : Stack) → s ≡ i ∷ m → is_shaped tokens (stands sort) i ≡ true → Stands tokens ys m b → (t : Tree) × (r : Stack) × (s ≡ built t ∷ r) × (fits sort t ≡ true) × Stands tokens ys r b
    there (built t) m e q st = (t, m, e, q, st)
    there (begun p) m e q st = never q

popped_fits : (sort : Sort) (t : Tree) (s : Stack) → fits sort t ≡ true → popped sort (built t ∷ s) ≡ Some (left t s)
popped_fits sort t s q = ap (λ c. if c then Some (left t s) else None) q

one_part : (sort : Sort) (slots : List Slot) (acc : List Tree) (t : Tree) {s m : Stack} (found : Left (List Tree)) → s ≡ built t ∷ m → fits sort t ≡ true → parts_of slots (t ∷ acc) m ≡ Some found → parts_of (part sort ∷ slots) acc s ≡ Some found
one_part sort slots acc t {m = m} found e q h =
    let go = λ (t : Tree) (rest : Stack). parts_of slots (t ∷ acc) rest in
    ap (λ z. then_do (popped sort z) go) e ∙ (ap (λ o. then_do o go) (popped_fits sort t m q) ∙ h)

all_parts : (g : Group) (slots : List Slot) (acc ts : List Tree) (s : Stack) {m : Stack} (found : Left (List Tree)) → gathered (is_of g) s acc ≡ left ts m → parts_of slots ts m ≡ Some found → parts_of (several g ∷ slots) acc s ≡ Some found
all_parts g slots acc ts s found e h = ap (λ (z : Left (List Tree)). parts_of slots z.value z.rest) e ∙ h

-- the parts for the slots are found
parts_there : {tokens : List Token} (slots : List Slot) {xs ys : List Shape} {s b : Stack} → under_parts slots xs ≡ Some ys → Stands tokens xs s b → (acc : List Tree) → (ts : List Tree) × (m : Stack) × (parts_of slots acc s ≡ Some (left ts m)) × Stands tokens ys m b
parts_there {tokens = tokens} [] {s = s} {b = b} e st acc = (acc, s, refl, subst (λ zs. Stands tokens zs s b) (some_equal e) st)
parts_there (part sort ∷ slots) {xs = xs} {ys = ys} e st acc =
    let a = then_some (under_part (part sort) xs) (λ rest. under_parts slots rest) ys e in
    let f = popped_there sort a.1 st in
    let h = parts_there slots a.2 f.4 (f.0 ∷ acc) in
    (h.0, h.1, one_part sort slots acc f.0 (left h.0 h.1) f.2 f.3 h.2, h.3)
parts_there {tokens = tokens} (several g ∷ slots) {xs = xs} {ys = ys} {s = s} {b = b} e st acc =
    let a = then_some (under_part (several g) xs) (λ rest. under_parts slots rest) ys e in
    let c = if_some (is_opening (under g xs)) (Some (under g xs)) a.0 a.1 in
    let f = under_front g st in
    let o = opening_there c.0 f.2 in
    let found = gathered_front o.0 (subst (λ z. Front g s z) o.2 f.1) acc in
    let h = parts_there slots a.2 (subst (λ z. Stands tokens a.0 z b) o.2 (subst (λ zs. Stands tokens zs f.0 b) (some_equal c.1) f.2)) found.0 in
    (h.0, h.1, all_parts g slots acc found.0 s (left h.0 h.1) found.1 h.2, h.3)

-- a stack of these shapes is made
abbrev pub IsMade : List Token → Option Stack → List Shape → Stack → Type 0
IsMade tokens o xs b = (s : Stack) × (o ≡ Some s) × Stands tokens xs s b

of_group : (form : Form) → same_group (group form) (group form) ≡ true
of_group form = eq-eqb (group_number (group form)) (group_number (group form)) refl

-- a tree is put on the stack
put_there : {tokens : List Token} (sort : Sort) (t : Tree) {xs ys : List Shape} {s b : Stack} → put (stands sort) xs ≡ Some ys → fits sort t ≡ true → Stands tokens xs s b → IsMade tokens (push t s) ys b
put_there {tokens = tokens} sort t {s = s} {b = b} e q st = (built t ∷ s, refl, subst (λ zs. Stands tokens zs (built t ∷ s) b) (some_equal e) (above q st))

enclosed : (span : Span) (t : Tree) → is_of expressions t ≡ true → is_of expressions (respan span t) ≡ true
enclosed span (node form old ts) q = q
enclosed span absent q = never q
enclosed span (row ts) q = never q

opening_shaped : (tokens : List Token) (n : ℕ) (next : Option ℕ) → IsKind next (token_of tokens n).kind → is_shaped tokens (opening next) (begun n) ≡ true
opening_shaped tokens n None k = refl
opening_shaped tokens n (Some e) k = eq-eqb (token_number (token_of tokens n)) e k

-- A tree is closed, with the parts that stand since it began.
record Closing (tokens : List Token) (slots : List Slot) (ys : List Shape) (s b : Stack) : Type 0 where
  begin : ℕ
  found : List Tree
  below : Stack
  closes_with : (go : ℕ → List Tree → Stack → Option Stack) → close_with slots s go ≡ go begin found below
  stands_below : Stands tokens ys below b

closing_with : (slots : List Slot) (s : Stack) {m r : Stack} {ts : List Tree} {p : ℕ} → popped_parts slots s ≡ Some (left ts m) → m ≡ begun p ∷ r → (go : ℕ → List Tree → Stack → Option Stack) → close_with slots s go ≡ go p ts r
closing_with slots s {ts = ts} e q go =
    ap (λ o. then_do o (λ ts rest. then_do (opened rest) (λ p below. go p ts below))) e
    ∙ ap (λ z. then_do (opened z) (λ p below. go p ts below)) q

closing : {tokens : List Token} (slots : List Slot) {xs zs ys : List Shape} {s b : Stack} → under_parts (reverse slots) xs ≡ Some zs → under_opening zs ≡ Some ys → Stands tokens xs s b → Closing tokens slots ys s b
closing slots {s = s} e q st =
    let f = parts_there (reverse slots) e st [] in
    let o = opening_under q f.3 in
    record { begin = o.0; found = f.0; below = o.1; closes_with = closing_with slots s f.2 o.2; stands_below = o.3 }

-- the same, where it began at a token of this kind
closing_at : {tokens : List Token} (k : ℕ) (slots : List Slot) {xs zs ys : List Shape} {s b : Stack} → under_parts (reverse slots) xs ≡ Some zs → under_opening_at k zs ≡ Some ys → Stands tokens xs s b → (c : Closing tokens slots ys s b) × ((token_number (token_of tokens c.begin) == k) ≡ true)
closing_at k slots {s = s} e q st =
    let f = parts_there (reverse slots) e st [] in
    let o = opening_at_under k q f.3 in
    (record { begin = o.0; found = f.0; below = o.1; closes_with = closing_with slots s f.2 o.2; stands_below = o.3 }, o.4)

-- what one of two equal steps makes the other makes
made_as : {tokens : List Token} {o next : Option Stack} {ys : List Shape} {b : Stack} → o ≡ next → IsMade tokens next ys b → IsMade tokens o ys b
made_as e d = (d.0, e ∙ d.1, d.2)

abbrev pub Made : Rule → List ℕ → List Token → ℕ → List Shape → Stack → Stack → Type 0
Made r text tokens n ys s b = IsMade tokens (done_by r text tokens n s) ys b

gathers_there : {tokens : List Token} (text : List ℕ) (n : ℕ) (g : Option Group) {xs ys : List Shape} {s b : Stack} → rowed g xs ≡ Some ys → Stands tokens xs s b → Made gathers text tokens n ys s b
gathers_there {tokens = tokens} text n None {xs = xs} {ys = ys} {b = b} e st =
    let a = then_some (under_opening xs) (λ rest. put no_row rest) ys e in
    let o = opening_under a.1 st in
    subst (λ z. Made gathers text tokens n ys z b) (sym o.2) (built (in_row []) ∷ o.1, refl, subst (λ zs. Stands tokens zs (built (in_row []) ∷ o.1) b) (some_equal a.2) (above refl o.3))
gathers_there {tokens = tokens} text n (Some g) {xs = xs} {ys = ys} {s = s} {b = b} e st =
    let a = then_some (under_opening (under g xs)) (λ rest. put (stands (rows g)) rest) ys e in
    let f = under_front g st in
    let o = opening_under a.1 f.2 in
    let found = collected_front o.0 (subst (λ z. Front g s z) o.2 f.1) [] refl in
    made_as (ap (λ (z : Left (List Tree)). then_do (opened z.rest) (λ p below. push (in_row z.value) below)) found.1) (put_there (rows g) (in_row found.0) a.2 found.2 o.3)

word_put : {tokens : List Token} {A : Type 0} (o : Option A) (word : A) (form : A → Form) (span : Span) (ts : List Tree) (s : Stack) {ys : List Shape} {b : Stack} → o ≡ Some word → IsMade tokens (push (tree (form word) span ts) s) ys b → IsMade tokens (worded o form span ts s) ys b
word_put o word form span ts s e d = made_as (ap (λ z. worded z form span ts s) e) d

-- a tree whose alternative is by the word at which it began
words_there : {tokens : List Token} {A : Type 0} (k : ℕ) (word_of : TokenKind → Option A) (form : A → Form) (first : A) → ((kind : TokenKind) → (number_of (terminal_of kind) == k) ≡ true → (word : A) × (word_of kind ≡ Some word)) → ((word : A) → group (form word) ≡ group (form first)) → (slots : List Slot) (n : ℕ) {xs ys : List Shape} {s b : Stack} → closed_under slots (under_opening_at k) (group (form first)) xs ≡ Some ys → Stands tokens xs s b → IsMade tokens (close_with slots s (λ p ts below. worded (word_of (token_of tokens p).kind) form (stretch tokens p n) ts below)) ys b
words_there {tokens = tokens} k word_of form first tells even slots n {xs = xs} {ys = ys} e st =
    let a = then_some (under_parts (reverse slots) xs) (λ zs. and_then (under_opening_at k zs) (λ rest. put (one_of (group (form first))) rest)) ys e in
    let d = then_some (under_opening_at k a.0) (λ rest. put (one_of (group (form first))) rest) ys a.2 in
    let c = closing_at k slots a.1 d.1 st in
    let w = tells (token_of tokens c.0.begin).kind c.1 in
    let is_of_group = subst (λ g. same_group g (group (form w.0)) ≡ true) (even w.0) (of_group (form w.0)) in
    let span = stretch tokens c.0.begin n in
    let done = put_there (one (group (form first))) (tree (form w.0) span c.0.found) d.2 is_of_group c.0.stands_below in
    made_as {next = worded (word_of (token_of tokens c.0.begin).kind) form span c.0.found c.0.below} (c.0.closes_with (λ p ts below. worded (word_of (token_of tokens p).kind) form (stretch tokens p n) ts below)) (word_put (word_of (token_of tokens c.0.begin).kind) w.0 form span c.0.found c.0.below w.1 done)

enclosed_there : (tokens : List Token) (n p : ℕ) (t : Tree) {s m r : Stack} → s ≡ built t ∷ m → is_of expressions t ≡ true → m ≡ begun p ∷ r → then_do (popped (one expressions) s) (λ t rest. then_do (opened rest) (λ p below. push (respan (stretch tokens p n) t) below)) ≡ push (respan (stretch tokens p n) t) r
enclosed_there tokens n p t {m = m} e q o =
    let go = λ (t : Tree) (rest : Stack). then_do (opened rest) (λ p below. push (respan (stretch tokens p n) t) below) in
    ap (λ z. then_do (popped (one expressions) z) go) e ∙ (ap (λ z. then_do z go) (popped_fits (one expressions) t m q) ∙ ap (λ z. go t z) o)

wrapped_there : (g : Group) (form : Form) (t : Tree) {s m : Stack} → s ≡ built t ∷ m → is_of g t ≡ true → then_do (popped (one g) s) (λ t rest. push (tree form (span_of t) (t ∷ [])) rest) ≡ push (tree form (span_of t) (t ∷ [])) m
wrapped_there g form t {m = m} e q =
    let go = λ (t : Tree) (rest : Stack). push (tree form (span_of t) (t ∷ [])) rest in
    ap (λ z. then_do (popped (one g) z) go) e ∙ ap (λ z. then_do z go) (popped_fits (one g) t m q)

pub effect_there : {tokens : List Token} (r : Rule) → IsEvenRule r → (text : List ℕ) (n : ℕ) (next : Option ℕ) → IsKind next (token_of tokens n).kind → {xs ys : List Shape} {s b : Stack} → effect r next xs ≡ Some ys → Stands tokens xs s b → Made r text tokens n ys s b
effect_there {tokens = tokens} begins even text n next k {s = s} {b = b} e st = (begun n ∷ s, refl, subst (λ zs. Stands tokens zs (begun n ∷ s) b) (some_equal e) (above (opening_shaped tokens n next k) st))
effect_there {tokens = tokens} leaves_out even text n next k {s = s} {b = b} e st = (built absent ∷ s, refl, subst (λ zs. Stands tokens zs (built absent ∷ s) b) (some_equal e) (above refl st))
effect_there {tokens = tokens} (takes l) even text n next k {xs = xs} {ys = ys} {s = s} e st =
    let c = if_some (is_told l next) (put (one_of (leaf_group l)) xs) ys e in
    let f = told l next (token_of tokens n).kind (bytes_of text (token_of tokens n)) even c.0 k in
    let is_of_group = subst (λ g. same_group g (group f.0) ≡ true) f.2 (of_group f.0) in
    made_as (ap (λ o. push_if (option_map (λ form. tree form (token_of tokens n).span []) o) s) f.1) (put_there (one (leaf_group l)) (tree f.0 (token_of tokens n).span []) c.1 is_of_group st)
effect_there gathers even text n next k e bottom = not_some e
effect_there gathers even text n next k e (above {x = x} q st) = gathers_there text n (group_in x) e (above q st)
effect_there gathers even text n next k e (no_more {g = g} st) = gathers_there text n (Some g) e (no_more st)
effect_there gathers even text n next k e (one_more {g = g} q st) = gathers_there text n (Some g) e (one_more q st)
effect_there {tokens = tokens} (closes slots form) even text n next k {xs = xs} {ys = ys} e st =
    let a = then_some (under_parts (reverse slots) xs) (λ zs. and_then (under_opening zs) (λ rest. put (one_of (group form)) rest)) ys e in
    let d = then_some (under_opening a.0) (λ rest. put (one_of (group form)) rest) ys a.2 in
    let c = closing slots a.1 d.1 st in
    made_as (c.closes_with (λ p ts below. push (tree form (stretch tokens p n) ts) below)) (put_there (one (group form)) (tree form (stretch tokens c.begin n) c.found) d.2 (of_group form) c.stands_below)
effect_there (closes_integer slots form) even text n next k e st = words_there (terminal_number terminal.IntWord) integer_of form integer.Uint8 an_integer even slots n e st
effect_there (closes_attribute slots form) even text n next k e st = words_there (terminal_number terminal.Attribute) attribute_of form attribute_name.Size an_attribute even slots n e st
effect_there {tokens = tokens} encloses even text n next k {xs = xs} {ys = ys} e st =
    let a = then_some (under_parts (part (one expressions) ∷ []) xs) (λ zs. and_then (under_opening zs) (λ rest. put (one_of expressions) rest)) ys e in
    let first = then_some (under_part (part (one expressions)) xs) (λ rest. Some rest) a.0 a.1 in
    let d = then_some (under_opening a.0) (λ rest. put (one_of expressions) rest) ys a.2 in
    let f = popped_there (one expressions) first.1 st in
    let o = opening_under (ap under_opening (some_equal first.2) ∙ d.1) f.4 in
    made_as (enclosed_there tokens n o.0 f.0 f.2 f.3 o.2) (put_there (one expressions) (respan (stretch tokens o.0 n) f.0) d.2 (enclosed (stretch tokens o.0 n) f.0 f.3) o.3)
effect_there {tokens = tokens} (joins slots form) even text n next k {xs = xs} {ys = ys} e st =
    let a = then_some (under_parts (reverse slots) xs) (λ rest. put (one_of (group form)) rest) ys e in
    let f = parts_there (reverse slots) a.1 st [] in
    made_as (ap (λ z. then_do z (λ ts rest. push (tree form (stretch_from tokens ts n) ts) rest)) f.2) (put_there (one (group form)) (tree form (stretch_from tokens f.0 n) f.0) a.2 (of_group form) f.3)
effect_there (wraps g form) even text n next k {xs = xs} {ys = ys} e st =
    let a = then_some (under_part (part (one g)) xs) (λ rest. put (one_of (group form)) rest) ys e in
    let f = popped_there (one g) a.1 st in
    made_as (wrapped_there g form f.0 f.2 f.3) (put_there (one (group form)) (tree form (span_of f.0) (f.0 ∷ [])) a.2 (of_group form) f.4)
