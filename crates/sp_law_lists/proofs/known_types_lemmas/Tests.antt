-- What is known where no test holds.
use Rattle.std.specs.Prelude.{ℕ, Bool, true, false, not, ◌&&◌, ◌||◌, if◌then◌else◌, List, [], ◌∷◌, ◌++◌, Option, Some, None, is_none}
use Rattle.std.proofs.Common.{◌≡◌, ◌⊎◌, inl, inr, refl, sym, ap, ◌∙◌}
use Rattle.std.proofs.lemmas.Bool.{and_parts, and_from}
use Rattle.sp_base.specs.declared.places.Span.{Span}
use Rattle.sp_rules.specs.declared.fault.Fault.{Fault}
use Rattle.sp_types.specs.declared.words.Word.TheVariants as word_is
use Rattle.sp_types.specs.Types.{Ty, word, made, is_known}
use Rattle.sp_typed.specs.declared.words.OneOp.{OneOp}
use Rattle.sp_typed.specs.Exprs.{Expr, leaf, one, two, three, many, type_of}
use Rattle.sp_typed.specs.Nodes.{holds, all_hold, is_word}
use Rattle.sp_type_operands.specs.Operands.{unknown, is_valueless}
use Rattle.sp_type_operands.specs.Literals.{seen, is_past}
use Rattle.sp_rule_bodies.specs.Known.{Known}
use Rattle.sp_rule_bodies.specs.Values.{is_sink, names_no_value, is_no_value, is_no_object, knows, is_set_key, misplaced_at}
use Rattle.sp_rule_bodies.specs.ExprTests.{is_fixed, is_place, may_change, may_change_in, expr_tests}
use Rattle.sp_law_lists.specs.known_types.Full.{is_full, is_right, is_bare, is_unknown, holds_inside}
use Rattle.sp_law_lists.specs.known_types.Clear.{none_hold, is_clear, names_something, may_stand}
use Rattle.sp_law_lists.proofs.known_types_lemmas.Full.{never, full_is_known, unknown_is}

-- none of some tests holds, one by one
abbrev pub Fine : List (Bool × Fault) → Type 0
Fine [] = Unit {0}
Fine (c ∷ cs) = (c.0 ≡ false) × Fine cs

not_true : (b : Bool) → not b ≡ true → b ≡ false
not_true true e = never e
not_true false e = refl

pub fine : (cs : List (Bool × Fault)) → none_hold cs ≡ true → Fine cs
fine [] e = tt
fine (c ∷ cs) e =
    let p = and_parts (not c.0) (none_hold cs) e in
    (not_true c.0 p.0, fine cs p.1)

pub fine_parts : (xs ys : List (Bool × Fault)) → Fine (xs ++ ys) → Fine xs × Fine ys
fine_parts [] ys f = (tt, f)
fine_parts (x ∷ xs) ys f =
    let p = fine_parts xs ys f.1 in
    ((f.0, p.0), p.1)

-- nothing that is written is misplaced
pub not_misplaced : (m : ℕ) (o : Option Span) → Fine (misplaced_at m o) → is_none o ≡ true
not_misplaced m None f = refl
not_misplaced m (Some span) f = never (sym f.0)

-- two that aren't both so
pub both_false : (a b : Bool) → (a && b) ≡ false → a ≡ true → b ≡ false
both_false true b e h = e
both_false false b e h = never h

pub not_so : (b : Bool) → not b ≡ false → b ≡ true
not_so true e = refl
not_so false e = never (sym e)

-- a node, and those in it
pub is_whole : (p : Expr → Bool) (e : Expr) → holds_inside p e ≡ true → p e ≡ true → holds p e ≡ true
is_whole p (leaf h) i r = r
is_whole p (one h a) i r = and_from (p (one h a)) (holds p a) r i
is_whole p (two h a b) i r = and_from (p (two h a b)) (holds p a && holds p b) r i
is_whole p (three h a b c) i r = and_from (p (three h a b c)) (holds p a && (holds p b && holds p c)) r i
is_whole p (many h es) i r = and_from (p (many h es)) (all_hold p es) r i

pub at_first : (p : Expr → Bool) (e : Expr) → holds p e ≡ true → p e ≡ true
at_first p (leaf h) r = r
at_first p (one h a) r = (and_parts (p (one h a)) (holds p a) r).0
at_first p (two h a b) r = (and_parts (p (two h a b)) (holds p a && holds p b) r).0
at_first p (three h a b c) r = (and_parts (p (three h a b c)) (holds p a && (holds p b && holds p c)) r).0
at_first p (many h es) r = (and_parts (p (many h es)) (all_hold p es) r).0

pub inside : (p : Expr → Bool) (e : Expr) → holds p e ≡ true → holds_inside p e ≡ true
inside p (leaf h) r = refl
inside p (one h a) r = (and_parts (p (one h a)) (holds p a) r).1
inside p (two h a b) r = (and_parts (p (two h a b)) (holds p a && holds p b) r).1
inside p (three h a b c) r = (and_parts (p (three h a b c)) (holds p a && (holds p b && holds p c)) r).1
inside p (many h es) r = (and_parts (p (many h es)) (all_hold p es) r).1

-- each node inside is right, and the first one is right or has no type
abbrev pub Good : Expr → Type 0
Good e = (holds_inside is_right e ≡ true) × ((is_right e ≡ true) ⊎ (is_bare e ≡ true))

module _ (only : OneOp → Bool) (k : Known) (m : ℕ) where
  abbrev pub Clear : Expr → Type 0
  Clear e = holds (is_clear only k m) e ≡ true

  -- so it is where no rule is broken
  abbrev pub Holds : Expr → Type 0
  Holds e = Clear e → Good e

  pub tests_of : (e : Expr) → is_clear only k m e ≡ true → Fine (expr_tests k m e)
  tests_of e c =
      let p = and_parts (names_something e) (may_stand only e && none_hold (expr_tests k m e)) c in
      fine (expr_tests k m e) (and_parts (may_stand only e) (none_hold (expr_tests k m e)) p.1).1

  -- no test holds at the first node
  pub first_fine : (e : Expr) → Clear e → Fine (expr_tests k m e)
  first_fine e c = tests_of e (at_first (is_clear only k m) e c)

  pub first_names : (e : Expr) → Clear e → names_something e ≡ true
  first_names e c = (and_parts (names_something e) (may_stand only e && none_hold (expr_tests k m e)) (at_first (is_clear only k m) e c)).0

  pub first_stands : (e : Expr) → Clear e → may_stand only e ≡ true
  first_stands e c =
      let p = and_parts (names_something e) (may_stand only e && none_hold (expr_tests k m e)) (at_first (is_clear only k m) e c) in
      (and_parts (may_stand only e) (none_hold (expr_tests k m e)) p.1).0

-- a bare node is no value
or_true : (a b c : Bool) → (a && b) ≡ true → (a || c) ≡ true
or_true true b c e = refl
or_true false b c e = never e

pub bare_is_none : (e : Expr) → is_bare e ≡ true → is_no_value e ≡ true
bare_is_none (leaf h) b = or_true (names_no_value h.op) (is_unknown h.ty) (is_valueless h.ty) b
bare_is_none (two h x y) b = or_true (is_set_key h.op (type_of x)) (is_unknown h.ty) (is_valueless h.ty) b
bare_is_none (one h x) b = never b
bare_is_none (three h x y z) b = never b
bare_is_none (many h es) b = never b

pub bare_is_unknown : (e : Expr) → is_bare e ≡ true → type_of e ≡ unknown
bare_is_unknown (leaf h) b = unknown_is h.ty (and_parts (names_no_value h.op) (is_unknown h.ty) b).1
bare_is_unknown (two h x y) b = unknown_is h.ty (and_parts (is_set_key h.op (type_of x)) (is_unknown h.ty) b).1
bare_is_unknown (one h x) b = never b
bare_is_unknown (three h x y z) b = never b
bare_is_unknown (many h es) b = never b

-- a node that has a value is of a type of values
or_second : (a b : Bool) → (a || b) ≡ false → b ≡ false
or_second true b e = never (sym e)
or_second false b e = e

pub valued_by : (e : Expr) → is_no_value e ≡ false → is_valueless (type_of e) ≡ false
valued_by (leaf h) n = or_second (names_no_value h.op) (is_valueless h.ty) n
valued_by (one h a) n = n
valued_by (two h a b) n = or_second (is_set_key h.op (type_of a)) (is_valueless h.ty) n
valued_by (three h c a b) n = n
valued_by (many h es) n = n

-- a value or a sink whose type is full, and that is no literal past it
pub record Value (e : Expr) : Type 0 where
  pub right : is_right e ≡ true
  pub within : is_past e ≡ false
  pub inside : holds_inside is_right e ≡ true

pub right_of : (e : Expr) → Good e → is_no_value e ≡ false → is_right e ≡ true
right_of e g n = elim g.1 [
  | inl r ↦ r
  | inr b ↦ never (sym n ∙ bare_is_none e b)
]

pub no_object : (e : Expr) → is_no_value e ≡ false → is_no_object e ≡ false
no_object e n = ap (λ b. b && not (is_sink (type_of e))) n

pub bare_is_no_object : (e : Expr) → is_bare e ≡ true → is_no_object e ≡ true
bare_is_no_object e b = and_from (is_no_value e) (not (is_sink (type_of e))) (bare_is_none e b) (ap (λ t. not (is_sink t)) (bare_is_unknown e b))

pub object_of : (only : OneOp → Bool) (k : Known) (m : ℕ) (e : Expr) → Holds only k m e → Clear only k m e → is_no_object e ≡ false → is_past e ≡ false → Value e
object_of only k m e h c n p =
    let g = h c in
    let r : is_right e ≡ true = elim g.1 [
      | inl r ↦ r
      | inr b ↦ never (sym n ∙ bare_is_no_object e b)
    ] in
    record { right = r; within = p; inside = g.0 }

pub value_of : (only : OneOp → Bool) (k : Known) (m : ℕ) (e : Expr) → Holds only k m e → Clear only k m e → is_no_value e ≡ false → is_past e ≡ false → Value e
value_of only k m e h c n p = object_of only k m e h c (no_object e n) p

pub full_of : (e : Expr) → Value e → is_full (type_of e) ≡ true
full_of e v = (and_parts (not (is_word e)) (is_full (type_of e)) v.right).1

pub seen_is : (e : Expr) → is_past e ≡ false → seen e ≡ type_of e
seen_is e o = ap (λ b. if b then unknown else type_of e) o

pub seen_full : (e : Expr) → Value e → is_full (seen e) ≡ true
seen_full e v = ap is_full (seen_is e v.within) ∙ full_of e v

pub knows_it : (e : Expr) → Value e → knows e ≡ true
knows_it e v = and_from (is_known (type_of e)) (not (is_past e)) (full_is_known (type_of e) (full_of e v)) (ap not v.within)

pub whole_of : (e : Expr) → Value e → holds is_right e ≡ true
whole_of e v = is_whole is_right e v.inside v.right

-- what is asked of a value whose type is known
pub right_when : (e : Expr) (b : Bool) → Value e → (knows e && not b) ≡ false → b ≡ true
right_when e b v w = not_so b (both_false (knows e) (not b) w (knows_it e v))

-- what may be changed is a place where its type is known, and so is what an element of may be changed
placed : (p known fixed : Bool) → known ≡ true → (p || (not known && fixed)) ≡ true → p ≡ true
placed true known fixed k c = refl
placed false true fixed k c = never c
placed false false fixed k c = never k

placed_in : (p known : Bool) → known ≡ true → (p || not known) ≡ true → p ≡ true
placed_in true known k c = refl
placed_in false true k c = never c
placed_in false false k c = never k

known_type : (e : Expr) → is_right e ≡ true → is_known (type_of e) ≡ true
known_type e r = full_is_known (type_of e) (and_parts (not (is_word e)) (is_full (type_of e)) r).1

pub place_of : (k : Known) (e : Expr) → is_right e ≡ true → may_change k e ≡ true → is_place k e ≡ true
place_of k e r c = placed (is_place k e) (is_known (type_of e)) (not (is_fixed e)) (known_type e r) c

pub place_in : (k : Known) (e : Expr) → is_right e ≡ true → may_change_in k e ≡ true → is_place k e ≡ true
place_in k e r c = placed_in (is_place k e) (is_known (type_of e)) (known_type e r) c
