-- Where no rule is broken in an expression, each number in it is one of its type.
use Rattle.std.specs.Prelude.{ℕ, ◌+◌, Bool, true, false, not, ◌&&◌, if◌then◌else◌, Option, Some, None}
use Rattle.std.proofs.Common.{◌≡◌, refl, sym, ap, ◌∙◌, arith}
use Rattle.std.proofs.lemmas.Bool.{and_parts, not-true}
use Rattle.std.proofs.lemmas.Bool.Decides.{nat_tests}
use Rattle.sp_base.specs.declared.places.Span.{Span}
use Rattle.sp_numbers.specs.declared.width.Width.TheVariants.{W8, W16, W32, W64}
use Rattle.sp_words.specs.Methods.{changes}
use Rattle.sp_types.specs.declared.words.Word.TheVariants as word_is
use Rattle.sp_types.specs.Types.{Ty, word, made}
use Rattle.sp_typed.specs.declared.heads.Leaf.{Leaf}
use Rattle.sp_typed.specs.declared.heads.One.{One}
use Rattle.sp_typed.specs.declared.words.LeafOp.{LeafOp}
use Rattle.sp_typed.specs.declared.words.LeafOp.TheVariants as leaf_is
use Rattle.sp_typed.specs.declared.words.OneOp.{OneOp}
use Rattle.sp_typed.specs.declared.words.OneOp.TheVariants as one_is
use Rattle.sp_typed.specs.declared.words.TwoOp.{TwoOp}
use Rattle.sp_typed.specs.declared.words.TwoOp.TheVariants as two_is
use Rattle.sp_typed.specs.declared.words.ManyOp.{ManyOp}
use Rattle.sp_typed.specs.declared.words.ManyOp.TheVariants as many_is
use Rattle.sp_typed.specs.Exprs.{Expr, Exprs, leaf, one, two, three, many, none, more, type_of, number_leaf, is_minus}
use Rattle.sp_typed.specs.Nodes.{holds, all_hold}
use Rattle.sp_type_operands.specs.Operands.{unknown}
use Rattle.sp_type_operands.specs.Literals.{is_past, leaf_number, type_has, typed_leaf, seen}
use Rattle.sp_rule_bodies.specs.Known.{Known}
use Rattle.sp_rule_bodies.specs.Values.{written_tests}
use Rattle.sp_rule_bodies.specs.ExprTests.{leaf_tests, one_op_tests, two_op_tests, all_value_tests, element_tests, elements_tests, row_tests, entries_tests, map_tests, argument_fits, arguments_fit, converts, call_tests, receiver_tests, method_tests, uncalled_tests, many_op_tests, changes_one, is_element, is_place, expr_tests}
use Rattle.sp_lower_expr.specs.Literals.{NumberFits, LeafFits, number_behind, NegativeFits, OnlyIf, WhereItChanges, LiteralsFit, AllLiteralsFit, PlaceFits, ReceiverFits}
use Rattle.sp_law_lists.specs.known_types.Clear.{none_hold}
use Rattle.sp_law_lists.proofs.known_types_lemmas.Full.{never}
use Rattle.sp_law_lists.proofs.known_types_lemmas.Tests.{Fine, fine, fine_parts, not_so, at_first}
use Rattle.sp_law_lists.proofs.known_values_lemmas.Literals.{signed_within, negative_within}
use Rattle.sp_law_lists.specs.known_literals.Widened.{is_widen, widens_value, is_sound}

-- a number that its type has
number_fits : (t : Ty) (n : ℕ) → type_has t false n ≡ true → NumberFits t false n
number_fits (word (word_is.Uint w)) n h = grind (arith, nat_tests)
number_fits (word (word_is.Int w)) n h = signed_within w n h
number_fits (word _) n h = tt
number_fits (made maker ts) n h = tt

minus_fits : (t : Ty) (n : ℕ) → type_has t true n ≡ true → NumberFits t true n
minus_fits (word (word_is.Uint W8)) n h = grind (arith, nat_tests)
minus_fits (word (word_is.Uint W16)) n h = grind (arith, nat_tests)
minus_fits (word (word_is.Uint W32)) n h = grind (arith, nat_tests)
minus_fits (word (word_is.Uint W64)) n h = grind (arith, nat_tests)
minus_fits (word (word_is.Int w)) n h = negative_within w n h
minus_fits (word _) n h = tt
minus_fits (made maker ts) n h = tt

-- a node without parts
abbrev over_of : Ty → LeafOp → Bool
over_of t op = if number_leaf op then not (type_has t false (leaf_number op)) else (if typed_leaf op then not (type_has t false (leaf_number op)) else false)

leaf_fits : (m : ℕ) (h : Leaf) (op : LeafOp) → h.op ≡ op → Fine (leaf_tests m (leaf h) op) → (number_leaf op && over_of h.ty op) ≡ false → LeafFits op h.ty
leaf_fits m h (leaf_is.Number n) is f past = number_fits h.ty n (not_so (type_has h.ty false n) past)
leaf_fits m h (leaf_is.TypedNumber n) is f past = number_fits h.ty n (not_so (type_has h.ty false n) (sym (ap (over_of h.ty) is) ∙ f.0))
leaf_fits m h _ is f past = tt

-- a minus sign before a number
negative_fits : (op : OneOp) (o : LeafOp) (t : Ty) (A : Type 0) → A → ((is_minus op && number_leaf o) && (if is_minus op && number_leaf o then not (type_has t true (leaf_number o)) else false)) ≡ false → NegativeFits (number_behind op o) t A
negative_fits one_is.Negate (leaf_is.Number n) t A a past = minus_fits t n (not_so (type_has t true n) past)
negative_fits one_is.Negate _ t A a past = a
negative_fits _ o t A a past = a

one_fits : (h : One) (a : Expr) → LiteralsFit a → is_past (one h a) ≡ false → LiteralsFit (one h a)
one_fits h (leaf i) l past = negative_fits h.op i.op h.ty (LiteralsFit (leaf i)) l past
one_fits h (one i a) l past = l
one_fits h (two i a b) l past = l
one_fits h (three i c a b) l past = l
one_fits h (many i es) l past = l

-- what a node asks of its parts
abbrev Within : Exprs → Type 0
Within none = Unit {0}
Within (more e es) = (is_past e ≡ false) × Within es

one_within : (m : ℕ) (t : Ty) (op : OneOp) (a : Expr) → Fine (one_op_tests m t op a) → (if is_widen op then not (is_past a) else true) ≡ true → is_past a ≡ false
one_within m t one_is.Negate a f w = f.1.0
one_within m t one_is.Not a f w = f.1.0
one_within m t one_is.Complement a f w = f.1.0
one_within m t one_is.Size a f w = f.1.0
one_within m t (one_is.Cast x) a f w = (fine_parts (written_tests m x) _ f).1.1.1.0
one_within m t (one_is.NoMember name) a f w = f.1.0
one_within m t one_is.Widen a f w = not-true (is_past a) w
one_within m t _ a f w = f.1.0

two_within : (k : Known) (m : ℕ) (op : TwoOp) (a b : Expr) → Fine (two_op_tests k m op a b) → (is_past a ≡ false) × (is_past b ≡ false)
two_within k m (two_is.Binary op) a b f = (f.1.0, f.1.1.1.1.0)
two_within k m two_is.Index a b f = (f.1.0, f.1.1.1.0)
two_within k m (two_is.Item n) a b f = (f.1.0, f.1.1.1.0)

values_within : (m : ℕ) (es : Exprs) → Fine (all_value_tests m es) → Within es
values_within m none f = tt
values_within m (more e es) f = (f.1.0, values_within m es f.1.1)

elements_within : (m : ℕ) (keyed : Bool) (first : Expr) (es : Exprs) → Fine (elements_tests m keyed first es) → Within es
elements_within m keyed first none f = tt
elements_within m keyed first (more e es) f =
    let p = fine_parts (element_tests m keyed first e) (elements_tests m keyed first es) f in
    (p.0.1.0, elements_within m keyed first es p.1)

row_within : (m : ℕ) (keyed : Bool) (span : Span) (es : Exprs) → Fine (row_tests m keyed span es) → Within es
row_within m keyed span none f = tt
row_within m keyed span (more e es) f = elements_within m keyed e (more e es) f

entries_within : (m : ℕ) (keyed : Bool) (key value : Expr) (es : Exprs) → Fine (entries_tests m keyed key value es) → Within es
entries_within m keyed key value none f = tt
entries_within m keyed key value (more e es) f =
    let p = fine_parts (element_tests m keyed (if keyed then key else value) e) (entries_tests m (not keyed) key value es) f in
    (p.0.1.0, entries_within m (not keyed) key value es p.1)

map_within : (m : ℕ) (span : Span) (es : Exprs) → Fine (map_tests m span es) → Within es
map_within m span none f = tt
map_within m span (more e none) f = never (sym f.0)
map_within m span (more key (more value es)) f = entries_within m true key value (more key (more value es)) f

argument_within : (t : Option Ty) (e : Expr) → argument_fits t e ≡ true → is_past e ≡ false
argument_within None e f = never f
argument_within (Some t) e f = not-true (is_past e) (and_parts (not (is_past e)) _ f).0

arguments_within : (target : ℕ → Option Ty) (n : ℕ) (es : Exprs) → arguments_fit target n es ≡ true → Within es
arguments_within target n none f = tt
arguments_within target n (more e es) f =
    let p = and_parts (argument_fits (target n) e) (arguments_fit target (n + 1) es) f in
    (argument_within (target n) e p.0, arguments_within target (n + 1) es p.1)

call_within : (k : Known) (m : ℕ) (op : ManyOp) (span : Span) (receiver : Ty) (es : Exprs) → Fine (call_tests k m op span receiver es) → Within es
call_within k m op span receiver es f = arguments_within (k.target op receiver) 0 es (not_so (arguments_fit (k.target op receiver) 0 es) f.0)

converted_within : (es : Exprs) → converts es ≡ true → Within es
converted_within none c = never c
converted_within (more e none) c = (not-true (is_past e) (and_parts (not (is_past e)) _ c).0, tt)
converted_within (more e (more f es)) c = never c

method_within : (k : Known) (m : ℕ) (op : ManyOp) (span : Span) (es : Exprs) → Fine (method_tests k m op span es) → Within es
method_within k m op span none f = tt
method_within k m op span (more e es) f = (f.1.0, call_within k m op span (seen e) es (fine_parts (receiver_tests k m op e) (call_tests k m op span (seen e) es) f.1.1).1)

uncalled_within : (m : ℕ) (es : Exprs) → Fine (uncalled_tests m es) → Within es
uncalled_within m none f = tt
uncalled_within m (more e es) f = (f.1.0, values_within m es f.1.1.1)

many_within : (k : Known) (m : ℕ) (op : ManyOp) (span : Span) (es : Exprs) → Fine (many_op_tests k m op span es) → Within es
many_within k m many_is.Tuple span es f = values_within m es f
many_within k m many_is.Vector span es f = row_within m false span es f
many_within k m many_is.Set span es f = row_within m true span es f
many_within k m many_is.Map span es f = map_within m span es f
many_within k m (many_is.Call n) span es f = call_within k m (many_is.Call n) span unknown es f
many_within k m (many_is.Convert n) span es f = converted_within es (not_so (converts es) f.0)
many_within k m (many_is.New of path) span es f = call_within k m (many_is.New of path) path unknown es f
many_within k m (many_is.Method method slot) span es f = method_within k m (many_is.Method method slot) span es f
many_within k m (many_is.OfUnit method name) span es f = method_within k m (many_is.OfUnit method name) span es f
many_within k m (many_is.OfSink method) span es f = method_within k m (many_is.OfSink method) span es f
many_within k m many_is.NoCall span es f = uncalled_within m es f

-- places
changed_one : (op : OneOp) (o : LeafOp) (t : Ty) (A : Type 0) → changes_one op ≡ true → NegativeFits (number_behind op o) t A → A
changed_one one_is.Negate o t A c l = never c
changed_one _ o t A c l = l

changed_part : (h : One) (a : Expr) → changes_one h.op ≡ true → LiteralsFit (one h a) → LiteralsFit a
changed_part h (leaf i) c l = changed_one h.op i.op h.ty (LiteralsFit (leaf i)) c l
changed_part h (one i a) c l = l
changed_part h (two i a b) c l = l
changed_part h (three i x a b) c l = l
changed_part h (many i es) c l = l

pub place_fits : (k : Known) (e : Expr) → is_place k e ≡ true → LiteralsFit e → PlaceFits e
place_fits k (leaf h) c l = tt
place_fits k (one h a) c l = changed_part h a c l
place_fits k (two h a b) c l = (place_fits k a (and_parts (is_element h.op (type_of a)) (is_place k a) c).1 l.0, l.1)
place_fits k (three h x a b) c l = tt
place_fits k (many h es) c l = tt

changed_fits : (k : Known) (b : Bool) (e : Expr) → (b && not (is_place k e)) ≡ false → LiteralsFit e → OnlyIf b (PlaceFits e)
changed_fits k true e f l = place_fits k e (not_so (is_place k e) f) l
changed_fits k false e f l = tt

receiver_fits : (k : Known) (m : ℕ) (op : ManyOp) (span : Span) (e : Expr) (es : Exprs) → Fine (many_op_tests k m op span (more e es)) → LiteralsFit e → WhereItChanges op (PlaceFits e)
receiver_fits k m (many_is.Method method slot) span e es f l = changed_fits k (changes method) e (fine_parts (receiver_tests k m (many_is.Method method slot) e) (call_tests k m (many_is.Method method slot) span (seen e) es) f.1.1).0.0 l
receiver_fits k m _ span e es f l = tt

module _ (k : Known) (m : ℕ) where
  abbrev sound : Expr → Bool
  sound = is_sound k m

  tests_of : (e : Expr) → holds sound e ≡ true → Fine (expr_tests k m e)
  tests_of e h = fine (expr_tests k m e) (and_parts (widens_value e) (none_hold (expr_tests k m e)) (at_first sound e h)).1

  receivers_fit : (op : ManyOp) (span : Span) (es : Exprs) → Fine (many_op_tests k m op span es) → AllLiteralsFit es → ReceiverFits op es
  receivers_fit op span none f l = tt
  receivers_fit op span (more e es) f l = receiver_fits k m op span e es f l.0

  mutual
    pub literals_fit : (e : Expr) → holds sound e ≡ true → is_past e ≡ false → LiteralsFit e
    literals_fit (leaf h) s past = leaf_fits m h h.op refl (tests_of (leaf h) s) past
    literals_fit (one h a) s past =
        let e = one h a in
        let p = and_parts (sound e) (holds sound a) s in
        let within = one_within m h.ty h.op a (tests_of e s) (and_parts (widens_value e) (none_hold (expr_tests k m e)) p.0).0 in
        one_fits h a (literals_fit a p.1 within) past
    literals_fit (two h a b) s past =
        let e = two h a b in
        let p = and_parts (sound e) (holds sound a && holds sound b) s in
        let q = and_parts (holds sound a) (holds sound b) p.1 in
        let within = two_within k m h.op a b (tests_of e s) in
        (literals_fit a q.0 within.0, literals_fit b q.1 within.1)
    literals_fit (three h c a b) s past =
        let e = three h c a b in
        let p = and_parts (sound e) (holds sound c && (holds sound a && holds sound b)) s in
        let q = and_parts (holds sound c) (holds sound a && holds sound b) p.1 in
        let r = and_parts (holds sound a) (holds sound b) q.1 in
        let f = tests_of e s in
        (literals_fit c q.0 f.1.0, literals_fit a r.0 f.1.1.1.1.0, literals_fit b r.1 f.1.1.1.1.1.1.0)
    literals_fit (many h es) s past =
        let e = many h es in
        let p = and_parts (sound e) (all_hold sound es) s in
        let f = tests_of e s in
        let all = all_fit es p.1 (many_within k m h.op h.span es f) in
        (all, receivers_fit h.op h.span es f all)

    pub all_fit : (es : Exprs) → all_hold sound es ≡ true → Within es → AllLiteralsFit es
    all_fit none s w = tt
    all_fit (more e es) s w =
        let p = and_parts (holds sound e) (all_hold sound es) s in
        (literals_fit e p.0 w.0, all_fit es p.1 w.1)
