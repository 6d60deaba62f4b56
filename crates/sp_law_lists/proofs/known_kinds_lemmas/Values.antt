-- What is known of a value of a full type: of which sort it is, what is asked of it, and where it goes.
use Rattle.std.specs.Prelude.{ℕ, Bool, true, false, not, ◌&&◌, ◌||◌, if◌then◌else◌}
use Rattle.std.proofs.Common.{◌≡◌, refl, sym, ap, ◌∙◌, subst, arith}
use Rattle.std.proofs.lemmas.Bool.{and_parts, and_from}
use Rattle.std.proofs.lemmas.Bool.Decides.{nat_tests}
use Rattle.sp_numbers.specs.declared.width.Width.TheVariants.{W8, W16, W32, W64}
use Rattle.sp_types.specs.declared.words.Word.TheVariants as word_is
use Rattle.sp_types.specs.Types.{Ty, Tys, word, made, same, is_known, widens, goes}
use Rattle.sp_types.specs.Types as types
use Rattle.sp_types.proofs.Same.{same_is, same_itself}
use Rattle.sp_typed.specs.Exprs.{Expr, Exprs, none, more, leaf, one, two, three, many, type_of}
use Rattle.sp_typed.specs.Nodes.{is_word}
use Rattle.sp_type_operands.specs.Operands.{unknown, is_valueless, is_signed, is_integer, is_enum as is_enum_type, first_type}
use Rattle.sp_type_operands.specs.Literals.{type_has, is_past, seen}
use Rattle.sp_rule_bodies.specs.Values.{is_sink, names_no_value, is_set_key, is_no_value, is_no_object, is_regex, knows}
use Rattle.sp_law_lists.specs.known_types.Full.{is_full, is_right, is_unknown}
use Rattle.sp_law_lists.proofs.known_types_lemmas.Full.{never, full_is_known}
use Rattle.sp_law_lists.proofs.known_types_lemmas.Tests.{both_false, not_so}
use Rattle.sp_law_lists.proofs.known_values_lemmas.Literals.{signed_within, negative_within}
use Rattle.sp_law_lists.specs.fit_expr.Sorts.{Sort, sort_of, same_sort, is_integer as is_integer_sort, casts}
use Rattle.sp_law_lists.specs.fit_expr.Lists.{part_is}
use Rattle.sp_law_lists.specs.fit_expr.Test.{number_is, is_sort}
use Rattle.sp_law_lists.proofs.known_kinds_lemmas.Types.{sort_itself}

-- a type of a sort
pub sorted : (t : Ty) (s : Sort) → sort_of t ≡ s → is_sort t s ≡ true
sorted t s e = ap (λ x. same_sort x s) e ∙ sort_itself s

-- numbers
pub number_in : (t : Ty) (n : ℕ) → is_integer t ≡ true → type_has t false n ≡ true → number_is t false n ≡ true
number_in (word (word_is.Uint w)) n i h = h
number_in (word (word_is.Int w)) n i h = signed_within w n h
number_in (word _) n i h = never i
number_in (made m ts) n i h = never i

pub minus_in : (t : Ty) (n : ℕ) → is_integer t ≡ true → type_has t true n ≡ true → number_is t true n ≡ true
minus_in (word (word_is.Uint W8)) n i h = grind (arith, nat_tests)
minus_in (word (word_is.Uint W16)) n i h = grind (arith, nat_tests)
minus_in (word (word_is.Uint W32)) n i h = grind (arith, nat_tests)
minus_in (word (word_is.Uint W64)) n i h = grind (arith, nat_tests)
minus_in (word (word_is.Int w)) n i h = negative_within w n h
minus_in (word _) n i h = never i
minus_in (made m ts) n i h = never i

-- what is known of a value
pub or_false : (a b : Bool) → (a || b) ≡ false → b ≡ false
or_false true b e = never (sym e)
or_false false b e = e

pub has_type : (e : Expr) → is_no_value e ≡ false → is_valueless (type_of e) ≡ false
has_type (leaf h) n = or_false (names_no_value h.op) (is_valueless h.ty) n
has_type (one h a) n = n
has_type (two h a b) n = or_false (is_set_key h.op (type_of a)) (is_valueless h.ty) n
has_type (three h c a b) n = n
has_type (many h es) n = n

pub seen_is : (e : Expr) → is_past e ≡ false → seen e ≡ type_of e
seen_is e past = ap (λ b. if b then unknown else type_of e) past

pub full_type : (e : Expr) → is_right e ≡ true → is_full (type_of e) ≡ true
full_type e r = (and_parts (not (is_word e)) (is_full (type_of e)) r).1

pub is_asked : (e : Expr) → is_right e ≡ true → is_past e ≡ false → knows e ≡ true
is_asked e r past = and_from (is_known (type_of e)) (not (is_past e)) (full_is_known (type_of e) (full_type e r)) (ap not past)

-- what is asked of a value of a full type is so
pub asked_so : (e : Expr) (right : Bool) → is_right e ≡ true → is_past e ≡ false → (knows e && not right) ≡ false → right ≡ true
asked_so e right r past wrong = not_so right (both_false (knows e) (not right) wrong (is_asked e r past))

pub not_unknown : (t : Ty) → is_full t ≡ true → is_unknown t ≡ true → false ≡ true
not_unknown (word word_is.Unknown) f u = f
not_unknown (word _) f u = u
not_unknown (made m ts) f u = u

-- casts, and what widens
pub cast_sorts : (s t : Ty) → (is_integer s || is_enum_type s) ≡ true → (is_enum_type s && is_signed t) ≡ false → is_integer t ≡ true → casts (sort_of s) t ≡ true
cast_sorts (word (word_is.Uint v)) (word (word_is.Uint w)) h e i = refl
cast_sorts (word (word_is.Uint v)) (word (word_is.Int w)) h e i = refl
cast_sorts (word (word_is.Int v)) (word (word_is.Uint w)) h e i = refl
cast_sorts (word (word_is.Int v)) (word (word_is.Int w)) h e i = refl
cast_sorts (word (word_is.Enum n)) (word (word_is.Uint w)) h e i = refl
cast_sorts (word (word_is.Enum n)) (word (word_is.Int w)) h e i = never (sym e)
cast_sorts (word _) (word (word_is.Uint w)) h e i = never h
cast_sorts (word _) (word (word_is.Int w)) h e i = never h
cast_sorts (made m ts) (word (word_is.Uint w)) h e i = never h
cast_sorts (made m ts) (word (word_is.Int w)) h e i = never h
cast_sorts s (word _) h e i = never i
cast_sorts s (made m ts) h e i = never i

pub widen_sorts : (s t : Ty) → widens s t ≡ true → casts (sort_of s) t ≡ true
widen_sorts (word (word_is.Uint v)) (word (word_is.Uint w)) h = refl
widen_sorts (word (word_is.Int v)) (word (word_is.Int w)) h = refl
widen_sorts (word _) (word (word_is.Uint w)) h = never h
widen_sorts (word _) (word (word_is.Int w)) h = never h
widen_sorts (word _) (word _) h = never h
widen_sorts (word _) (made m ts) h = never h
widen_sorts (made m ts) t h = never h

pub widened_valued : (s t : Ty) → widens s t ≡ true → is_valueless s ≡ false
widened_valued (word (word_is.Uint v)) t h = refl
widened_valued (word (word_is.Int v)) t h = refl
widened_valued (word _) (word (word_is.Uint w)) h = never h
widened_valued (word _) (word (word_is.Int w)) h = never h
widened_valued (word _) (word _) h = never h
widened_valued (word _) (made m ts) h = never h
widened_valued (made m ts) t h = never h

-- types that are the same, the other way round, and the first of several
pub turned : (s t : Ty) → same s t ≡ true → same t s ≡ true
turned s t e = subst (λ u. same u s ≡ true) (same_is s t e) (same_itself s)

pub first_part : (ts : Tys) (t : Ty) → same t (first_type ts) ≡ true → is_full t ≡ true → part_is ts 0 t ≡ true
first_part types.none t e full = never (not_unknown t full (ap is_unknown (same_is t unknown e)))
first_part (types.more u us) t e full = turned t u e

-- a key that goes to a type and needs no widening is of it
pub key_same : (s t : Ty) → is_known s ≡ true → is_known t ≡ true → goes s t ≡ true → not (widens s t && not (same s t)) ≡ true → same s t ≡ true
key_same s t ks kt g n = by (is_known s && is_known t) (same s t) (widens s t) (and_from (is_known s) (is_known t) ks kt) g n
  where
    by : (a b c : Bool) → a ≡ true → (not a || b || c) ≡ true → not (c && not b) ≡ true → b ≡ true
    by true true c k g n = refl
    by true false true k g n = never n
    by true false false k g n = never g
    by false b c k g n = never k

pub integer_sort : (t : Ty) → is_integer t ≡ true → is_integer_sort (sort_of t) ≡ true
integer_sort (word (word_is.Uint w)) e = refl
integer_sort (word (word_is.Int w)) e = refl
integer_sort (word _) e = never e
integer_sort (made m ts) e = never e

pub no_number : (b : Bool) → (b && false) ≡ false
no_number true = refl
no_number false = refl

pub not_true : (b : Bool) → not b ≡ true → b ≡ false
not_true true e = never e
not_true false e = refl

-- a type of values is that of no regular expression
pub no_regex : (t : Ty) → is_valueless t ≡ false → is_regex t ≡ false
no_regex (word word_is.Regex) v = never (sym v)
no_regex (word _) v = refl
no_regex (made m ts) v = refl

pub and_false : (b : Bool) → (b && true) ≡ false → b ≡ false
and_false true e = e
and_false false e = e

-- what has a value, and a sink, is no regular expression
pub no_regex_value : (e : Expr) → is_no_value e ≡ false → is_regex (type_of e) ≡ false
no_regex_value e n = no_regex (type_of e) (has_type e n)

sink_is : (t : Ty) → is_sink t ≡ true → is_regex t ≡ false
sink_is (word word_is.Sink) s = refl
sink_is (word _) s = never s
sink_is (made m ts) s = never s

pub no_regex_object : (e : Expr) → is_no_object e ≡ false → is_regex (type_of e) ≡ false
no_regex_object e n = by (is_sink (type_of e)) refl n
  where
    by : (b : Bool) → is_sink (type_of e) ≡ b → (is_no_value e && not b) ≡ false → is_regex (type_of e) ≡ false
    by true s i = sink_is (type_of e) s
    by false s i = no_regex_value e (and_false (is_no_value e) i)

-- several values and sinks, of which none is a literal past its type
abbrev pub Valued : Exprs → Type 0
Valued none = Unit {0}
Valued (more e es) = ((is_past e ≡ false) × (is_regex (type_of e) ≡ false)) × Valued es
