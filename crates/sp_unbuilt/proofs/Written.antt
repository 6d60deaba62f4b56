-- A test that holds somewhere in a list of modules is one of all its tests, and back.
use Rattle.std.proofs.Common.{ℕ, zero, suc, ◌+◌, ◌≡◌, ◌⊎◌, Bool, true, false, List, [], ◌∷◌, ◌++◌, Some, None, slice_get, refl, sym, ap, subst, arith, inl, inr}
use Rattle.std.specs.Prelude.{not}
use Rattle.sp_base.specs.declared.places.Diag.{Diag}
use Rattle.sp_rules.specs.Least.{Among}
use Rattle.sp_ast.specs.Trees.{Tree, Trees, absent, row, node, none, more}
use Rattle.sp_typed_units.specs.declared.items.Field.{Field}
use Rattle.sp_typed_units.specs.declared.declarations.Unit.{Unit}
use Rattle.sp_typed_units.specs.declared.declarations.Typed.{Typed}
use Rattle.sp_typed_units.specs.Parts.{Part, Parts, Arms, field, choice, no_parts, more_parts, no_arms, more_arms, parts}
use Rattle.sp_unbuilt.specs.First.{IsFirst}
use Rattle.sp_unbuilt.specs.Next.{saturated}
use Rattle.sp_unbuilt.specs.Constructs.{at, tests_at}
use Rattle.sp_unbuilt.specs.Fields.{reads_integer, kind_test, kinds_of_part, kinds_among, kinds_in_arms, kinds_in_unit, kinds_in_units}
use Rattle.sp_unbuilt.specs.Unbuilt.{Texts, tests_in, tests_among, tests_from, unbuilt_tests, first_unbuilt}
use Rattle.sp_unbuilt.specs.Places.{IsIn, IsAmong, IsWritten, IsFieldOf, IsFieldAmong, IsFieldInArms, IsOther, IsRead, IsUnbuilt}
use Rattle.sp_unbuilt.proofs.Order.{noted_is_first, first_of_same}

among_left : {X : Type 0} (xs ys : List X) (x : X) → Among xs x → Among (xs ++ ys) x
among_left [] ys x h = elim h [ ]
among_left (z ∷ xs) ys x h = elim h [ inl e ↦ inl e | inr r ↦ inr (among_left xs ys x r) ]

among_right : {X : Type 0} (xs ys : List X) (x : X) → Among ys x → Among (xs ++ ys) x
among_right [] ys x h = h
among_right (z ∷ xs) ys x h = inr (among_right xs ys x h)

among_cases : {X : Type 0} (xs ys : List X) (x : X) → Among (xs ++ ys) x → Among xs x ⊎ Among ys x
among_cases [] ys x h = inr h
among_cases (z ∷ xs) ys x h = elim h [ inl e ↦ inl (inl e) | inr r ↦ elim (among_cases xs ys x r) [ inl a ↦ inl (inr a) | inr b ↦ inr b ] ]

-- trees
mutual
  from_in : (text : List ℕ) (m : ℕ) (t : Tree) (d : Diag) → Among (tests_in text m t) (true, d) → (u : Tree) × IsIn u t × Among (tests_at text m u) (true, d)
  from_in text m absent d h = elim h [ ]
  from_in text m (row ts) d h = from_among text m ts d h
  from_in text m (node form span ts) d h = elim (among_cases (tests_at text m (node form span ts)) (tests_among text m ts) (true, d) h) [
    | inl a ↦ (node form span ts, inl refl, a)
    | inr b ↦ (let r = from_among text m ts d b in (r.0, inr r.1, r.2))
  ]

  from_among : (text : List ℕ) (m : ℕ) (ts : Trees) (d : Diag) → Among (tests_among text m ts) (true, d) → (u : Tree) × IsAmong u ts × Among (tests_at text m u) (true, d)
  from_among text m none d h = elim h [ ]
  from_among text m (more t ts) d h = elim (among_cases (tests_in text m t) (tests_among text m ts) (true, d) h) [
    | inl a ↦ (let r = from_in text m t d a in (r.0, inl r.1, r.2))
    | inr b ↦ (let r = from_among text m ts d b in (r.0, inr r.1, r.2))
  ]

mutual
  to_in : (text : List ℕ) (m : ℕ) (t u : Tree) (d : Diag) → IsIn u t → Among (tests_at text m u) (true, d) → Among (tests_in text m t) (true, d)
  to_in text m absent u d i h = elim i [ ]
  to_in text m (row ts) u d i h = to_among text m ts u d i h
  to_in text m (node form span ts) u d i h = elim i [
    | inl is ↦ among_left (tests_at text m (node form span ts)) (tests_among text m ts) (true, d) (subst (λ z. Among (tests_at text m z) (true, d)) is h)
    | inr r ↦ among_right (tests_at text m (node form span ts)) (tests_among text m ts) (true, d) (to_among text m ts u d r h)
  ]

  to_among : (text : List ℕ) (m : ℕ) (ts : Trees) (u : Tree) (d : Diag) → IsAmong u ts → Among (tests_at text m u) (true, d) → Among (tests_among text m ts) (true, d)
  to_among text m none u d i h = elim i [ ]
  to_among text m (more t ts) u d i h = elim i [
    | inl r ↦ among_left (tests_in text m t) (tests_among text m ts) (true, d) (to_in text m t u d r h)
    | inr r ↦ among_right (tests_in text m t) (tests_among text m ts) (true, d) (to_among text m ts u d r h)
  ]

-- modules, of which the first has a number
abbrev Holds : Texts → Tree → Diag → ℕ → Type 0
Holds texts u d n = Among (tests_at (texts (saturated n)) (saturated n) u) (true, d)

abbrev Found : Texts → ℕ → List Tree → Diag → Type 0
Found texts m list d = (k : ℕ) × (t : Tree) × (u : Tree) × (slice_get list k ≡ Some t) × IsIn u t × Holds texts u d (m + k)

from_list : (texts : Texts) (m : ℕ) (list : List Tree) (d : Diag) → Among (tests_from texts m list) (true, d) → Found texts m list d
from_list texts m [] d h = elim h [ ]
from_list texts m (t ∷ ts) d h = elim (among_cases (tests_in (texts (saturated m)) (saturated m) t) (tests_from texts (m + 1) ts) (true, d) h) [
  | inl a ↦ (let r = from_in (texts (saturated m)) (saturated m) t d a in (zero, t, r.0, refl, r.1, subst (Holds texts r.0 d) (let z : m ≡ m + 0 = omega arith in z) r.2))
  | inr b ↦ (let r = from_list texts (m + 1) ts d b in (suc r.0, r.1, r.2, r.3, r.4, subst (Holds texts r.2 d) (let z : (m + 1) + r.0 ≡ m + suc r.0 = omega arith in z) r.5))
]

to_list : (texts : Texts) (m : ℕ) (list : List Tree) (k : ℕ) (t u : Tree) (d : Diag) → slice_get list k ≡ Some t → IsIn u t → Holds texts u d (m + k) → Among (tests_from texts m list) (true, d)
to_list texts m [] k t u d e i h = absurd (let z : None ≡ Some t = e in cc)
to_list texts m (x ∷ xs) zero t u d e i h =
    let is : x ≡ t = some_is x t e in
    among_left (tests_in (texts (saturated m)) (saturated m) x) (tests_from texts (m + 1) xs) (true, d)
    (to_in (texts (saturated m)) (saturated m) x u d (subst (λ z. IsIn u z) (sym is) i) (subst (Holds texts u d) (let z : m + 0 ≡ m = omega arith in z) h))
  where
    some_is : (a b : Tree) → Some a ≡ Some b → a ≡ b
    some_is a b e = cc
to_list texts m (x ∷ xs) (suc k) t u d e i h =
    among_right (tests_in (texts (saturated m)) (saturated m) x) (tests_from texts (m + 1) xs) (true, d)
    (to_list texts (m + 1) xs k t u d e i (subst (Holds texts u d) (let z : m + suc k ≡ (m + 1) + k = omega arith in z) h))

from_written : (texts : Texts) (list : List Tree) (d : Diag) → Among (tests_from texts 0 list) (true, d) → IsWritten texts list d
from_written texts list d h =
    let r = from_list texts 0 list d h in (r.0, r.1, r.2, r.3, r.4, subst (Holds texts r.2 d) (let z : 0 + r.0 ≡ r.0 = omega arith in z) r.5)

to_written : (texts : Texts) (list : List Tree) (d : Diag) → IsWritten texts list d → Among (tests_from texts 0 list) (true, d)
to_written texts list d r =
    to_list texts 0 list r.0 r.1 r.2 d r.3 r.4 (subst (Holds texts r.2 d) (let z : r.0 ≡ 0 + r.0 = omega arith in z) r.5)

-- fields: what is read, and where each begins
from_test : (m : ℕ) (f : Field) (d : Diag) → Among (kind_test m f ∷ []) (true, d) → IsOther m f d
from_test m f d h = elim h [ inl e ↦ (not_true (reads_integer f.spec) (ap (λ (p : Bool × Diag). p.0) e), sym (ap (λ (p : Bool × Diag). p.1) e)) | inr r ↦ elim r [ ] ]
  where
    not_true : (b : Bool) → not b ≡ true → b ≡ false
    not_true false e = refl
    not_true true e = (let z : false ≡ true = e in cc)

to_test : (m : ℕ) (f : Field) (d : Diag) → IsOther m f d → Among (kind_test m f ∷ []) (true, d)
to_test m f d h = inl (pair (not (reads_integer f.spec)) (at m f.span) d (ap not h.0) h.1)
  where
    pair : (b : Bool) (x y : Diag) → b ≡ true → y ≡ x → ◌≡◌ {A = Bool × Diag} (b, x) (true, y)
    pair b x y e f = cc

mutual
  from_part : (m : ℕ) (p : Part) (d : Diag) → Among (kinds_of_part m p) (true, d) → (f : Field) × IsFieldOf f p × IsOther m f d
  from_part m (field g) d h = (g, refl, from_test m g d h)
  from_part m (choice span e rows) d h = from_arms m rows d h

  from_parts : (m : ℕ) (ps : Parts) (d : Diag) → Among (kinds_among m ps) (true, d) → (f : Field) × IsFieldAmong f ps × IsOther m f d
  from_parts m no_parts d h = elim h [ ]
  from_parts m (more_parts p ps) d h = elim (among_cases (kinds_of_part m p) (kinds_among m ps) (true, d) h) [
    | inl a ↦ (let r = from_part m p d a in (r.0, inl r.1, r.2))
    | inr b ↦ (let r = from_parts m ps d b in (r.0, inr r.1, r.2))
  ]

  from_arms : (m : ℕ) (rows : Arms) (d : Diag) → Among (kinds_in_arms m rows) (true, d) → (f : Field) × IsFieldInArms f rows × IsOther m f d
  from_arms m no_arms d h = elim h [ ]
  from_arms m (more_arms a ps rest) d h = elim (among_cases (kinds_among m ps) (kinds_in_arms m rest) (true, d) h) [
    | inl x ↦ (let r = from_parts m ps d x in (r.0, inl r.1, r.2))
    | inr y ↦ (let r = from_arms m rest d y in (r.0, inr r.1, r.2))
  ]

mutual
  to_part : (m : ℕ) (p : Part) (f : Field) (d : Diag) → IsFieldOf f p → IsOther m f d → Among (kinds_of_part m p) (true, d)
  to_part m (field g) f d i h = to_test m g d (subst (λ (z : Field). IsOther m z d) i h)
  to_part m (choice span e rows) f d i h = to_arms m rows f d i h

  to_parts : (m : ℕ) (ps : Parts) (f : Field) (d : Diag) → IsFieldAmong f ps → IsOther m f d → Among (kinds_among m ps) (true, d)
  to_parts m no_parts f d i h = elim i [ ]
  to_parts m (more_parts p ps) f d i h = elim i [
    | inl r ↦ among_left (kinds_of_part m p) (kinds_among m ps) (true, d) (to_part m p f d r h)
    | inr r ↦ among_right (kinds_of_part m p) (kinds_among m ps) (true, d) (to_parts m ps f d r h)
  ]

  to_arms : (m : ℕ) (rows : Arms) (f : Field) (d : Diag) → IsFieldInArms f rows → IsOther m f d → Among (kinds_in_arms m rows) (true, d)
  to_arms m no_arms f d i h = elim i [ ]
  to_arms m (more_arms a ps rest) f d i h = elim i [
    | inl r ↦ among_left (kinds_among m ps) (kinds_in_arms m rest) (true, d) (to_parts m ps f d r h)
    | inr r ↦ among_right (kinds_among m ps) (kinds_in_arms m rest) (true, d) (to_arms m rest f d r h)
  ]

from_units : (us : List Unit) (d : Diag) → Among (kinds_in_units us) (true, d) → IsRead us d
from_units [] d h = elim h [ ]
from_units (u ∷ us) d h = elim (among_cases (kinds_in_unit u) (kinds_in_units us) (true, d) h) [
  | inl a ↦ (let r = from_parts u.«module» (parts u.parts) d a in (u, r.0, inl refl, r.1, r.2))
  | inr b ↦ (let r = from_units us d b in (r.0, r.1, inr r.2, r.3, r.4))
]

to_units : (us : List Unit) (u : Unit) (f : Field) (d : Diag) → Among us u → IsFieldAmong f (parts u.parts) → IsOther u.«module» f d → Among (kinds_in_units us) (true, d)
to_units [] u f d a i h = elim a [ ]
to_units (x ∷ us) u f d a i h =
    let in_it : Among (kinds_in_unit u) (true, d) = to_parts u.«module» (parts u.parts) f d i h in
    elim a [
      | inl is ↦ among_left (kinds_in_unit x) (kinds_in_units us) (true, d) (subst (λ (z : Unit). Among (kinds_in_unit z) (true, d)) (sym is) in_it)
      | inr r ↦ among_right (kinds_in_unit x) (kinds_in_units us) (true, d) (to_units us u f d r i h)
    ]

from_all : (texts : Texts) (list : List Tree) (t : Typed) (d : Diag) → Among (unbuilt_tests texts list t) (true, d) → IsUnbuilt texts list t d
from_all texts list t d h = elim (among_cases (tests_from texts 0 list) (kinds_in_units t.units) (true, d) h) [
  | inl a ↦ inl (from_written texts list d a)
  | inr b ↦ inr (from_units t.units d b)
]

to_all : (texts : Texts) (list : List Tree) (t : Typed) (d : Diag) → IsUnbuilt texts list t d → Among (unbuilt_tests texts list t) (true, d)
to_all texts list t d h = elim h [
  | inl a ↦ among_left (tests_from texts 0 list) (kinds_in_units t.units) (true, d) (to_written texts list d a)
  | inr b ↦ among_right (tests_from texts 0 list) (kinds_in_units t.units) (true, d) (to_units t.units b.0 b.1 d b.2 b.3 b.4)
]

pub first_in : (texts : Texts) (list : List Tree) (t : Typed) → IsFirst (IsUnbuilt texts list t) (first_unbuilt texts list t)
first_in texts list t =
    first_of_same (λ d. Among (unbuilt_tests texts list t) (true, d)) (IsUnbuilt texts list t) (first_unbuilt texts list t) (from_all texts list t) (to_all texts list t)
    (noted_is_first (unbuilt_tests texts list t))
