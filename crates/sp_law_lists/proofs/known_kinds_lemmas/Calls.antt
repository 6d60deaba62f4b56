-- Arguments in which no rule is broken are of the types of their targets, and methods take and give what the test asks.
use Rattle.std.specs.Prelude.{ℕ, ◌+◌, zero, suc, Bool, true, false, not, ◌&&◌, ◌||◌, List, [], ◌∷◌, map, Option, Some, None, is_none, slice_get}
use Rattle.std.specs.List.{list_all}
use Rattle.std.proofs.Common.{◌≡◌, refl, sym, ap, ◌∙◌, subst, arith}
use Rattle.std.proofs.lemmas.Bool.{and_parts, and_from}
use Rattle.sp_words.specs.declared.methods.Method.{Method}
use Rattle.sp_words.specs.declared.methods.Method.TheVariants as method_is
use Rattle.sp_words.specs.Methods.{changes}
use Rattle.sp_types.specs.declared.words.Word.TheVariants as word_is
use Rattle.sp_types.specs.declared.words.Maker.TheVariants as maker_is
use Rattle.sp_types.specs.Types.{Ty, word, made, same, widens, goes}
use Rattle.sp_types.specs.Types as types
use Rattle.sp_types.proofs.Same.{same_is}
use Rattle.sp_typed.specs.Exprs.{Expr, Exprs, none, more, type_of}
use Rattle.sp_typed.specs.Nodes.{holds, all_hold}
use Rattle.sp_typed_units.specs.declared.declarations.Parameter.{Parameter}
use Rattle.sp_typed_units.specs.declared.declarations.Function.{Function}
use Rattle.sp_type_operands.specs.Operands.{unknown}
use Rattle.sp_type_operands.specs.Literals.{is_past}
use Rattle.sp_type_methods.specs.Methods.{number, signed, octets, nothing, order, charset, strategy, element, mapped, method_gives, method_takes}
use Rattle.sp_rule_bodies.specs.Values.{is_no_value, is_no_object}
use Rattle.sp_rule_bodies.specs.ExprTests.{argument_fits, arguments_fit, argument_tests}
use Rattle.sp_rule_lists.specs.Told.{parameter_type, function_takes}
use Rattle.sp_law_lists.specs.known_types.Full.{is_full, is_right, is_unknown}
use Rattle.sp_law_lists.proofs.known_types_lemmas.Full.{never, full_is_known, vector_first, map_first, map_second}
use Rattle.sp_law_lists.proofs.known_types_lemmas.Tests.{Fine, at_first, no_object}
use Rattle.sp_law_lists.specs.fit_expr.Sorts.{Void, Vectors, Maps, sort_of, same_sort}
use Rattle.sp_law_lists.specs.fit_expr.Lists.{arguments_are, sorts_are}
use Rattle.sp_law_lists.specs.fit_expr.Test.{is_sort, vector_of, wanted, gives, simple_is, element_is, map_of, value_is, value_or_is, method_is as method_passes, pushes, pops, change_is, call_is}
use Rattle.sp_law_lists.specs.known_kinds.Made.{maybe_targeted, are_targeted, given_by, receiver_sort}
use Rattle.sp_law_lists.proofs.known_kinds_lemmas.Types.{sort_itself, either}
use Rattle.sp_law_lists.proofs.known_kinds_lemmas.Values.{no_regex_value, seen_is, full_type, not_unknown, turned, key_same, not_true, and_false, Valued}

some_is : (a b : Ty) → Some a ≡ Some b → a ≡ b
some_is a b e = cc

none_is : (o : Option Ty) → is_none o ≡ true → o ≡ None
none_is None e = refl
none_is (Some t) e = never e

-- arguments, each of the type of its target, and as many as there are targets, where the first of them has the number n
abbrev pub IsOf : Option Ty → Expr → Type 0
IsOf None e = ⊥
IsOf (Some t) e = same t (type_of e) ≡ true

abbrev pub AreOf : (ℕ → Option Ty) → ℕ → Exprs → Type 0
AreOf target n none = target n ≡ None
AreOf target n (more e es) = IsOf (target n) e × AreOf target (suc n) es

one_of : (o : Option Ty) (e : Expr) → ((t : Ty) → o ≡ Some t → is_full t ≡ true) → argument_fits o e ≡ true → is_no_value e ≡ false → is_right e ≡ true → maybe_targeted o e ≡ true → IsOf o e × (is_past e ≡ false)
one_of None e full fit valued right targeted = never fit
one_of (Some t) e full fit valued right targeted =
    let p = and_parts (not (is_past e)) (is_no_object e || goes (type_of e) t) fit in
    let past = not_true (is_past e) p.0 in
    let go : goes (type_of e) t ≡ true = either (is_no_object e) (goes (type_of e) t) p.1 (λ v. never (sym (no_object e valued) ∙ v)) (λ x. x) in
    let own = key_same (type_of e) t (full_is_known (type_of e) (full_type e right)) (full_is_known t (full t refl)) go (subst (λ u. not (widens u t && not (same u t)) ≡ true) (seen_is e past) targeted) in
    (turned (type_of e) t own, past)

pub arguments_of : (m : ℕ) (asked target : ℕ → Option Ty) → ((i : ℕ) → asked i ≡ target i) → ((i : ℕ) (t : Ty) → target i ≡ Some t → is_full t ≡ true) → (n : ℕ) (es : Exprs) → arguments_fit asked n es ≡ true → Fine (argument_tests m false es) → all_hold is_right es ≡ true
    → are_targeted target n es ≡ true → AreOf target n es × Valued es
arguments_of m asked target is full n none fit tests right targeted = (sym (is n) ∙ none_is (asked n) fit, tt)
arguments_of m asked target is full n (more e es) fit tests right targeted =
    let p = and_parts (argument_fits (asked n) e) (arguments_fit asked (n + 1) es) fit in
    let r = and_parts (holds is_right e) (all_hold is_right es) right in
    let q = and_parts (maybe_targeted (target n) e) (are_targeted target (suc n) es) targeted in
    let next : n + 1 ≡ suc n = omega arith in
    let valued = and_false (is_no_value e) tests.0 in
    let first = one_of (target n) e (full n) (subst (λ o. argument_fits o e ≡ true) (is n) p.0) valued (at_first is_right e r.0) q.0 in
    let rest = arguments_of m asked target is full (suc n) es (subst (λ i. arguments_fit asked i es ≡ true) next p.1) tests.1 r.1 q.1 in
    ((first.0, rest.0), ((first.1, no_regex_value e valued), rest.1))

-- the same by a list of types
abbrev pub types_are : List Ty → Exprs → Bool
types_are [] none = true
types_are (t ∷ ts) (more e es) = same t (type_of e) && types_are ts es
types_are ts es = false

shifted : (t : Ty) (ts : List Ty) (n : ℕ) (es : Exprs) → AreOf (slice_get (t ∷ ts)) (suc n) es → AreOf (slice_get ts) n es
shifted t ts n none a = a
shifted t ts n (more e es) a = (a.0, shifted t ts (suc n) es a.1)

pub of_list : (ts : List Ty) (es : Exprs) → AreOf (slice_get ts) 0 es → types_are ts es ≡ true
of_list [] none a = refl
of_list [] (more e es) a = absurd a.0
of_list (t ∷ ts) none a = absurd (let z : ⊥ = cc in z)
of_list (t ∷ ts) (more e es) a = and_from (same t (type_of e)) (types_are ts es) a.0 (of_list ts es (shifted t ts 0 es a.1))

all_alike : (f g : ℕ → Option Ty) → ((i : ℕ) → f i ≡ g i) → (n : ℕ) (es : Exprs) → AreOf f n es → AreOf g n es
all_alike f g is n none a = sym (is n) ∙ a
all_alike f g is n (more e es) a = (subst (λ o. IsOf o e) (is n) a.0, all_alike f g is (suc n) es a.1)

-- a call of a function
abbrev parameter_types : List Parameter → List Ty
parameter_types [] = []
parameter_types (x ∷ xs) = x.ty ∷ parameter_types xs

taken_at : (xs : List Parameter) (i : ℕ) → parameter_type (slice_get xs i) ≡ slice_get (parameter_types xs) i
taken_at [] i = refl
taken_at (x ∷ xs) zero = refl
taken_at (x ∷ xs) (suc i) = taken_at xs i

arguments_so : (xs : List Parameter) (es : Exprs) → types_are (parameter_types xs) es ≡ true → arguments_are xs es ≡ true
arguments_so [] none a = refl
arguments_so [] (more e es) a = never a
arguments_so (x ∷ xs) none a = never a
arguments_so (x ∷ xs) (more e es) a =
    let p = and_parts (same x.ty (type_of e)) (types_are (parameter_types xs) es) a in
    and_from (same x.ty (type_of e)) (arguments_are xs es) p.0 (arguments_so xs es p.1)

pub call_so : (o : Option Function) (t : Ty) (es : Exprs) → same t (given_by o) ≡ true → is_full t ≡ true → AreOf (function_takes o) 0 es → call_is o es t ≡ true
call_so None t es own full a = never (not_unknown t full (ap is_unknown (same_is t unknown own)))
call_so (Some x) t es own full a =
    let ts = parameter_types x.parameters in
    let b = of_list ts es (all_alike (function_takes (Some x)) (slice_get ts) (taken_at x.parameters) 0 es a) in
    and_from (arguments_are x.parameters es) (same x.result t) (arguments_so x.parameters es b) (turned t x.result own)

-- what a vector and a map of full types hold
on_vector : (P : Ty → Type 0) → ((x : Ty) → is_full x ≡ true → P (made maker_is.Vector (types.more x types.none))) → (s : Ty) → is_sort s Vectors ≡ true → is_full s ≡ true → P s
on_vector P go (made maker_is.Vector types.none) r f = never f
on_vector P go (made maker_is.Vector (types.more x types.none)) r f = go x (vector_first (types.more x types.none) f)
on_vector P go (made maker_is.Vector (types.more x (types.more y ts))) r f = never f
on_vector P go (made _ ts) r f = never r
on_vector P go (word word_is.Bytes) r f = never r
on_vector P go (word _) r f = never r

on_map : (P : Ty → Type 0) → ((x v : Ty) → is_full x ≡ true → is_full v ≡ true → P (made maker_is.Map (types.more x (types.more v types.none)))) → (s : Ty) → is_sort s Maps ≡ true → is_full s ≡ true → P s
on_map P go (made maker_is.Map types.none) r f = never f
on_map P go (made maker_is.Map (types.more x types.none)) r f = never f
on_map P go (made maker_is.Map (types.more x (types.more v types.none))) r f = go x v (map_first x v f) (map_second (types.more x (types.more v types.none)) f)
on_map P go (made maker_is.Map (types.more x (types.more v (types.more y ts)))) r f = never f
on_map P go (made _ ts) r f = never r
on_map P go (word word_is.Bytes) r f = never r
on_map P go (word _) r f = never r

pub row_full : (ts : List Ty) → list_all is_full ts ≡ true → (i : ℕ) (t : Ty) → slice_get ts i ≡ Some t → is_full t ≡ true
row_full [] f i t e = absurd (let z : ⊥ = cc in z)
row_full (x ∷ xs) f zero t e = subst (λ u. is_full u ≡ true) (some_is x t e) (and_parts (is_full x) (list_all is_full xs) f).0
row_full (x ∷ xs) f (suc i) t e = row_full xs (and_parts (is_full x) (list_all is_full xs) f).1 i t e

pub takes_full : (m : Method) (s : Ty) → is_sort s (receiver_sort m) ≡ true → is_full s ≡ true → list_all is_full (method_takes m s) ≡ true
takes_full method_is.PushBack s r f = and_from (is_full (element s)) true (on_vector (λ u. is_full (element u) ≡ true) (λ x g. g) s r f) refl
takes_full method_is.Get s r f = and_from (is_full (element s)) true (on_map (λ u. is_full (element u) ≡ true) (λ x v g h. g) s r f) refl
takes_full method_is.GetOr s r f =
    and_from (is_full (element s)) (is_full (mapped s) && true) (on_map (λ u. is_full (element u) ≡ true) (λ x v g h. g) s r f)
    (and_from (is_full (mapped s)) true (on_map (λ u. is_full (mapped u) ≡ true) (λ x v g h. h) s r f) refl)
takes_full _ s r f = refl

vector_so : (s t : Ty) → is_sort s Vectors ≡ true → is_full s ≡ true → same t (element s) ≡ true → vector_of s t ≡ true
vector_so s t r f = on_vector (λ u. same t (element u) ≡ true → vector_of u t ≡ true) (λ x g e. turned t x e) s r f

-- methods that ask for sorts alone
sorts_so : (ts : List Ty) (es : Exprs) → types_are ts es ≡ true → sorts_are (map sort_of ts) es ≡ true
sorts_so [] none a = refl
sorts_so [] (more e es) a = never a
sorts_so (t ∷ ts) none a = never a
sorts_so (t ∷ ts) (more e es) a =
    let p = and_parts (same t (type_of e)) (types_are ts es) a in
    let own : same_sort (sort_of (type_of e)) (sort_of t) ≡ true = subst (λ u. same_sort (sort_of u) (sort_of t) ≡ true) (same_is t (type_of e) p.0) (sort_itself (sort_of t)) in
    and_from (same_sort (sort_of (type_of e)) (sort_of t)) (sorts_are (map sort_of ts) es) own (sorts_so ts es p.1)

simple_so : (m : Method) (ts : List Ty) (t u : Ty) (r : Expr) (es : Exprs) → wanted m ≡ receiver_sort m ∷ map sort_of ts → gives m u ≡ true → is_sort (type_of r) (receiver_sort m) ≡ true → same t u ≡ true → types_are ts es ≡ true → simple_is m (more r es) t ≡ true
simple_so m ts t u r es w g q own a =
    and_from (sorts_are (wanted m) (more r es)) (gives m t)
    (subst (λ ss. sorts_are ss (more r es) ≡ true) (sym w) (and_from (same_sort (sort_of (type_of r)) (receiver_sort m)) (sorts_are (map sort_of ts) es) q (sorts_so ts es a)))
    (subst (λ x. gives m x ≡ true) (sym (same_is t u own)) g)

-- those of vectors and maps
element_so : (t : Ty) (r : Expr) (es : Exprs) → is_sort (type_of r) Vectors ≡ true → is_full (type_of r) ≡ true → same t (element (type_of r)) ≡ true → types_are [] es ≡ true → element_is (more r es) t ≡ true
element_so t r none q f own a = vector_so (type_of r) t q f own
element_so t r (more e es) q f own a = never a

value_so : (t : Ty) (r : Expr) (es : Exprs) → is_sort (type_of r) Maps ≡ true → is_full (type_of r) ≡ true → same t (mapped (type_of r)) ≡ true → types_are (element (type_of r) ∷ []) es ≡ true → value_is (more r es) t ≡ true
value_so t r none q f own a = never a
value_so t r (more k none) q f own a =
    on_map (λ u. same t (mapped u) ≡ true → types_are (element u ∷ []) (more k none) ≡ true → map_of u (type_of k) t ≡ true) (λ x v g h e b. and_from (same x (type_of k)) (same v t) (and_parts (same x (type_of k)) true b).0 (turned t v e)) (type_of r) q f own a
value_so t r (more k (more d es)) q f own a = never (and_parts (same (element (type_of r)) (type_of k)) false a).1

value_or_so : (t : Ty) (r : Expr) (es : Exprs) → is_sort (type_of r) Maps ≡ true → is_full (type_of r) ≡ true → same t (mapped (type_of r)) ≡ true → types_are (element (type_of r) ∷ mapped (type_of r) ∷ []) es ≡ true → value_or_is (more r es) t ≡ true
value_or_so t r none q f own a = never a
value_or_so t r (more k none) q f own a = never (and_parts (same (element (type_of r)) (type_of k)) false a).1
value_or_so t r (more k (more d none)) q f own a =
    on_map (λ u. same t (mapped u) ≡ true → types_are (element u ∷ mapped u ∷ []) (more k (more d none)) ≡ true → (map_of u (type_of k) (type_of d) && map_of u (type_of k) t) ≡ true)
    (λ x v g h e b. (
    let p = and_parts (same x (type_of k)) (same v (type_of d) && true) b in
    let key = p.0 in
    let value = (and_parts (same v (type_of d)) true p.1).0 in
    and_from (same x (type_of k) && same v (type_of d)) (same x (type_of k) && same v t) (and_from (same x (type_of k)) (same v (type_of d)) key value) (and_from (same x (type_of k)) (same v t) key (turned t v e))))
    (type_of r) q f own a
value_or_so t r (more k (more d (more x es))) q f own a =
    never (and_parts (same (mapped (type_of r)) (type_of d)) false (and_parts (same (element (type_of r)) (type_of k)) (same (mapped (type_of r)) (type_of d) && false) a).1).1

-- a method that changes nothing
pub method_so : (m : Method) (t : Ty) (r : Expr) (es : Exprs) → changes m ≡ false → is_sort (type_of r) (receiver_sort m) ≡ true → is_full (type_of r) ≡ true → same t (method_gives m (type_of r)) ≡ true → types_are (method_takes m (type_of r)) es ≡ true → method_passes m (more r es) t ≡ true
method_so method_is.ToUint t r es c q f own a = simple_so method_is.ToUint (number ∷ []) t number r es refl refl q own a
method_so method_is.ToInt t r es c q f own a = simple_so method_is.ToInt (number ∷ []) t signed r es refl refl q own a
method_so method_is.ToUintOrder t r es c q f own a = simple_so method_is.ToUintOrder (order ∷ []) t number r es refl refl q own a
method_so method_is.ToIntOrder t r es c q f own a = simple_so method_is.ToIntOrder (order ∷ []) t signed r es refl refl q own a
method_so method_is.Sub t r es c q f own a = simple_so method_is.Sub (number ∷ number ∷ []) t octets r es refl refl q own a
method_so method_is.StartsWith t r es c q f own a = simple_so method_is.StartsWith (octets ∷ []) t (word word_is.Bool) r es refl refl q own a
method_so method_is.Split t r es c q f own a = simple_so method_is.Split (octets ∷ []) t (method_gives method_is.Split octets) r es refl refl q own a
method_so method_is.Split1 t r es c q f own a = simple_so method_is.Split1 (octets ∷ []) t (method_gives method_is.Split1 octets) r es refl refl q own a
method_so method_is.Lower t r es c q f own a = simple_so method_is.Lower [] t octets r es refl refl q own a
method_so method_is.Upper t r es c q f own a = simple_so method_is.Upper [] t octets r es refl refl q own a
method_so method_is.Decode t r es c q f own a = simple_so method_is.Decode (charset ∷ strategy ∷ []) t (word word_is.String) r es refl refl q own a
method_so method_is.Encode t r es c q f own a = simple_so method_is.Encode [] t octets r es refl refl q own a
method_so method_is.PushBack t r es c q f own a = never (sym c)
method_so method_is.PopBack t r es c q f own a = never (sym c)
method_so method_is.Front t r es c q f own a = element_so t r es q f own a
method_so method_is.Back t r es c q f own a = element_so t r es q f own a
method_so method_is.Get t r es c q f own a = value_so t r es q f own a
method_so method_is.GetOr t r es c q f own a = value_or_so t r es q f own a

-- one that changes its receiver
pushes_so : (t s : Ty) (es : Exprs) → is_sort s Vectors ≡ true → is_full s ≡ true → same t nothing ≡ true → types_are (element s ∷ []) es ≡ true → pushes s es t ≡ true
pushes_so t s none q f own a = never a
pushes_so t s (more e none) q f own a =
    let p = (and_parts (same (element s) (type_of e)) true a).0 in
    and_from (vector_of s (type_of e)) (is_sort t Void) (vector_so s (type_of e) q f (turned (element s) (type_of e) p)) (subst (λ u. is_sort u Void ≡ true) (sym (same_is t nothing own)) refl)
pushes_so t s (more e (more x es)) q f own a = never (and_parts (same (element s) (type_of e)) false a).1

pops_so : (t s : Ty) (es : Exprs) → is_sort s Vectors ≡ true → is_full s ≡ true → same t (element s) ≡ true → types_are [] es ≡ true → pops s es t ≡ true
pops_so t s none q f own a = vector_so s t q f own
pops_so t s (more e es) q f own a = never a

pub change_so : (m : Method) (t s : Ty) (es : Exprs) → changes m ≡ true → is_sort s (receiver_sort m) ≡ true → is_full s ≡ true → same t (method_gives m s) ≡ true → types_are (method_takes m s) es ≡ true → change_is m s es t ≡ true
change_so method_is.PushBack t s es c q f own a = pushes_so t s es q f own a
change_so method_is.PopBack t s es c q f own a = pops_so t s es q f own a
change_so _ t s es c q f own a = never c
