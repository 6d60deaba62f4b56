-- Of a typed list in which nothing is found that isn't built, each field reads an integer, and so something that can be read.
use Rattle.std.specs.Prelude.{not, ◌&&◌, if◌then◌else◌}
use Rattle.std.specs.List.{list_all}
use Rattle.std.proofs.Common.{ℕ, ◌≡◌, Bool, true, false, refl, sym, List, [], ◌∷◌, ◌++◌, Option, Some, None}
use Rattle.std.proofs.lemmas.Bool.{and_parts, and_from}
use Rattle.sp_base.specs.declared.places.Diag.{Diag}
use Rattle.sp_ast.specs.Trees.{Tree}
use Rattle.sp_typed_units.specs.declared.readings.ReadOp.{ReadOp}
use Rattle.sp_typed_units.specs.declared.readings.ReadOp.TheVariants as read_is
use Rattle.sp_typed_units.specs.declared.declarations.Unit.{Unit}
use Rattle.sp_typed_units.specs.declared.declarations.Typed.{Typed}
use Rattle.sp_typed_units.specs.Specs.{Spec, read, unit_read, list_read, group_read}
use Rattle.sp_typed_units.specs.Parts.{Part, Parts, Arms, field, choice, no_parts, more_parts, no_arms, more_arms, parts}
use Rattle.sp_unbuilt.specs.First.{earlier, noted}
use Rattle.sp_unbuilt.specs.Fields.{is_integer, reads_integer, kinds_of_part, kinds_among, kinds_in_arms, kinds_in_unit, kinds_in_units}
use Rattle.sp_unbuilt.specs.Unbuilt.{Texts, tests_from, unbuilt_tests, first_unbuilt}
use Rattle.sp_law_lists.proofs.known_types_lemmas.Full.{never}
use Rattle.sp_law_lists.proofs.whole_list_lemmas.Modules.{none_found}
use Rattle.sp_law_lists.specs.known_members.Given.{can_read, is_read, part_reads, parts_read, arms_read, unit_reads}

-- nothing is noted
abbrev pub nothing : List (Bool × Diag) → Bool
nothing [] = true
nothing (c ∷ cs) = not c.0 && nothing cs

abbrev Noted : Option Diag → List (Bool × Diag) → Type 0
Noted o cs = noted o cs ≡ None

kept : {X : Type 0} (d : Diag) (cs : List (Bool × Diag)) → Noted (Some d) cs → X
kept d [] e = none_found d (sym e)
kept {X} d (c ∷ cs) e = by c.0 (λ x. kept x cs) e
  where
    by : (b : Bool) → ((x : Diag) → Noted (Some x) cs → X) → Noted (if b then earlier (Some d) c.1 else Some d) cs → X
    by true next h = next _ h
    by false next h = next d h

pub none_noted : (cs : List (Bool × Diag)) → Noted None cs → nothing cs ≡ true
none_noted [] e = refl
none_noted (c ∷ cs) e = by c.0 (none_noted cs) e
  where
    by : (b : Bool) → (Noted None cs → nothing cs ≡ true) → Noted (if b then earlier None c.1 else None) cs → (not b && nothing cs) ≡ true
    by true next h = kept c.1 cs h
    by false next h = next h

pub two_parts : (xs ys : List (Bool × Diag)) → nothing (xs ++ ys) ≡ true → (nothing xs ≡ true) × (nothing ys ≡ true)
two_parts [] ys e = (refl, e)
two_parts (x ∷ xs) ys e =
    let p = and_parts (not x.0) (nothing (xs ++ ys)) e in
    let q = two_parts xs ys p.1 in
    (and_from (not x.0) (nothing xs) p.0 q.0, q.1)

integer_read : (op : ReadOp) → is_integer op ≡ true → can_read op ≡ true
integer_read read_is.Int e = refl
integer_read _ e = never e

spec_read : (s : Spec) → reads_integer s ≡ true → is_read s ≡ true
spec_read (read h) e = integer_read h.op e
spec_read (unit_read h es) e = never e
spec_read (list_read span s n) e = never e
spec_read (group_read span s attributes) e = spec_read s e

twice_not : (b : Bool) → (not (not b) && true) ≡ true → b ≡ true
twice_not true e = refl
twice_not false e = never e

mutual
  part_built : (m : ℕ) (p : Part) → nothing (kinds_of_part m p) ≡ true → part_reads p ≡ true
  part_built m (field x) e = spec_read x.spec (twice_not (reads_integer x.spec) e)
  part_built m (choice span subject rows) e = arms_built m rows e

  parts_built : (m : ℕ) (ps : Parts) → nothing (kinds_among m ps) ≡ true → parts_read ps ≡ true
  parts_built m no_parts e = refl
  parts_built m (more_parts p ps) e =
      let h = two_parts (kinds_of_part m p) (kinds_among m ps) e in
      and_from (part_reads p) (parts_read ps) (part_built m p h.0) (parts_built m ps h.1)

  arms_built : (m : ℕ) (rows : Arms) → nothing (kinds_in_arms m rows) ≡ true → arms_read rows ≡ true
  arms_built m no_arms e = refl
  arms_built m (more_arms a ps rows) e =
      let h = two_parts (kinds_among m ps) (kinds_in_arms m rows) e in
      and_from (parts_read ps) (arms_read rows) (parts_built m ps h.0) (arms_built m rows h.1)

units_built : (us : List Unit) → nothing (kinds_in_units us) ≡ true → list_all unit_reads us ≡ true
units_built [] e = refl
units_built (u ∷ us) e =
    let h = two_parts (kinds_in_unit u) (kinds_in_units us) e in
    and_from (unit_reads u) (list_all unit_reads us) (parts_built u.«module» (parts u.parts) h.0) (units_built us h.1)

pub built_is_read : (texts : Texts) (list : List Tree) (t : Typed) → first_unbuilt texts list t ≡ None → list_all unit_reads t.units ≡ true
built_is_read texts list t e = units_built t.units (two_parts (tests_from texts 0 list) (kinds_in_units t.units) (none_noted (unbuilt_tests texts list t) e)).1
