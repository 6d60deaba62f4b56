-- A test that holds somewhere in a typed list is one of all its tests, and back.
use Rattle.std.proofs.Common.{◌⊎◌, Bool, true, List, [], ◌∷◌, ◌++◌, None, refl, sym, subst, inl, inr}
use Rattle.sp_rules.specs.declared.fault.Fault.{Fault}
use Rattle.sp_rules.specs.Least.{checked, Among, IsLeast}
use Rattle.sp_rules.proofs.Least.{checked_is_least, least_of_same}
use Rattle.sp_typed_units.specs.declared.declarations.Typed.{Typed}
use Rattle.sp_rule_units.specs.Faults.{each}
use Rattle.sp_rule_units.specs.Bits.{bitfield_tests}
use Rattle.sp_rule_units.specs.Units.{unit_tests, hook_tests, function_tests, all_tests, BreaksAt, Breaks}

among_left : {X : Type 0} (xs ys : List X) (x : X) → Among xs x → Among (xs ++ ys) x
among_left [] ys x h = elim h [ ]
among_left (z ∷ xs) ys x h = elim h [ inl e ↦ inl e | inr r ↦ inr (among_left xs ys x r) ]

among_right : {X : Type 0} (xs ys : List X) (x : X) → Among ys x → Among (xs ++ ys) x
among_right [] ys x h = h
among_right (z ∷ xs) ys x h = inr (among_right xs ys x h)

among_cases : {X : Type 0} (xs ys : List X) (x : X) → Among (xs ++ ys) x → Among xs x ⊎ Among ys x
among_cases [] ys x h = inr h
among_cases (z ∷ xs) ys x h = elim h [ inl e ↦ inl (inl e) | inr r ↦ elim (among_cases xs ys x r) [ inl a ↦ inl (inr a) | inr b ↦ inr b ] ]

from_each : {X : Type 0} (tests : X → List (Bool × Fault)) (xs : List X) (f : Fault) → Among (each tests xs) (true, f) → BreaksAt tests xs f
from_each tests [] f h = elim h [ ]
from_each tests (x ∷ xs) f h = elim (among_cases (tests x) (each tests xs) (true, f) h) [
  | inl a ↦ (x, inl refl, a)
  | inr b ↦ (let i = from_each tests xs f b in (i.0, inr i.1, i.2))
]

to_each : {X : Type 0} (tests : X → List (Bool × Fault)) (xs : List X) (y : X) (f : Fault) → Among xs y → Among (tests y) (true, f) → Among (each tests xs) (true, f)
to_each tests [] y f h a = elim h [ ]
to_each tests (x ∷ xs) y f h a = elim h [
  | inl e ↦ among_left (tests x) (each tests xs) (true, f) (subst (λ z. Among (tests z) (true, f)) (sym e) a)
  | inr r ↦ among_right (tests x) (each tests xs) (true, f) (to_each tests xs y f r a)
]

-- of four lists of tests, one after another
from_all : (t : Typed) (f : Fault) → Among (all_tests t) (true, f) → Breaks t f
from_all t f h =
    let us = each (unit_tests t.units) t.units in
    let hs = each (hook_tests t.units) t.hooks in
    let fs = each (function_tests t.units) t.functions in
    let bs = each bitfield_tests t.bitfields in
    elim (among_cases us (hs ++ (fs ++ bs)) (true, f) h) [
      | inl a ↦ inl (from_each (unit_tests t.units) t.units f a)
      | inr r ↦ elim (among_cases hs (fs ++ bs) (true, f) r) [
        | inl a ↦ inr (inl (from_each (hook_tests t.units) t.hooks f a))
        | inr s ↦ elim (among_cases fs bs (true, f) s) [
          | inl a ↦ inr (inr (inl (from_each (function_tests t.units) t.functions f a)))
          | inr b ↦ inr (inr (inr (from_each bitfield_tests t.bitfields f b)))
        ]
      ]
    ]

to_all : (t : Typed) (f : Fault) → Breaks t f → Among (all_tests t) (true, f)
to_all t f h =
    let us = each (unit_tests t.units) t.units in
    let hs = each (hook_tests t.units) t.hooks in
    let fs = each (function_tests t.units) t.functions in
    let bs = each bitfield_tests t.bitfields in
    elim h [
      | inl a ↦ among_left us (hs ++ (fs ++ bs)) (true, f) (to_each (unit_tests t.units) t.units a.0 f a.1 a.2)
      | inr r ↦ among_right us (hs ++ (fs ++ bs)) (true, f) (elim r [
        | inl a ↦ among_left hs (fs ++ bs) (true, f) (to_each (hook_tests t.units) t.hooks a.0 f a.1 a.2)
        | inr s ↦ among_right hs (fs ++ bs) (true, f) (elim s [
          | inl a ↦ among_left fs bs (true, f) (to_each (function_tests t.units) t.functions a.0 f a.1 a.2)
          | inr b ↦ among_right fs bs (true, f) (to_each bitfield_tests t.bitfields b.0 f b.1 b.2)
        ])
      ])
    ]

pub least_in : (t : Typed) → IsLeast (Breaks t) (checked None (all_tests t))
least_in t =
    least_of_same (λ f. Among (all_tests t) (true, f)) (Breaks t) (checked None (all_tests t)) (from_all t) (to_all t)
    (checked_is_least (all_tests t))
