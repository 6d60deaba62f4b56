-- The members of a unit in the typed list: each has a full type.
use Rattle.std.specs.Prelude.{nat_le}
use Rattle.std.specs.List.{list_all}
use Rattle.std.proofs.Common.{ℕ, ◌≡◌, ◌+◌, ◌<◌, ◌≤◌, zero, suc, Bool, true, false, refl, sym, ap, ◌∙◌, arith, List, [], ◌∷◌, length, Some, slice_get}
use Rattle.std.proofs.lemmas.Bool.{and_from}
use Rattle.std.proofs.lemmas.Bool.Decides.{nat_tests}
use Rattle.sp_ast.specs.Trees.{Tree}
use Rattle.sp_types.specs.Types.{Ty}
use Rattle.sp_typed_units.specs.declared.declarations.MemberKind.{MemberKind}
use Rattle.sp_typed_units.specs.declared.declarations.MemberKind.TheVariants as kind_is
use Rattle.sp_type_modules.specs.Members.{UnitMember, unit_members, first_member}
use Rattle.sp_type_modules.specs.Arounds.{kind_type}
use Rattle.sp_type_modules.specs.Sources.{units, questions}
use Rattle.sp_type_members.specs.inside.Aligned.{begins_at}
use Rattle.sp_type_units.specs.UnitRows.{member_rows}
use Rattle.sp_law_lists.specs.known_types.Full.{is_full}
use Rattle.sp_law_lists.specs.whole_list.Whole.{is_known_member}
use Rattle.sp_law_lists.proofs.whole_list_lemmas.Modules.{none_found}

kind_full : (stored : ℕ → Ty) (i : ℕ) (kind : MemberKind) → is_full (stored i) ≡ true → is_full (kind_type stored i kind) ≡ true
kind_full stored i kind_is.Sink full = refl
kind_full stored i kind_is.Field full = full
kind_full stored i kind_is.Variable full = full

pub rows_full : (stored : ℕ → Ty) (i : ℕ) (ms : List UnitMember) → ((j : ℕ) → j < length ms → is_full (stored (i + j)) ≡ true) → list_all is_known_member (member_rows stored i ms) ≡ true
rows_full stored i [] h = refl
rows_full stored i (x ∷ ms) h =
    let s : i + 0 ≡ i = omega arith in
    and_from (is_full (kind_type stored i x.kind)) (list_all is_known_member (member_rows stored (suc i) ms)) (kind_full stored i x.kind (ap (λ j. is_full (stored j)) (sym s) ∙ h 0 (omega arith)))
    (rows_full stored (suc i) ms (λ j lt. (let z : suc i + j ≡ i + suc j = omega arith in ap (λ u. is_full (stored u)) z ∙ h (suc j) (omega (arith, lt)))))

pub found_below : {A : Type 0} (xs : List A) (n : ℕ) (x : A) → slice_get xs n ≡ Some x → n < length xs
found_below [] n x e = none_found x e
found_below (y ∷ xs) zero x e = omega arith
found_below (y ∷ xs) (suc n) x e = (let h = found_below xs n x e in omega (arith, h))

-- members of earlier units stand before those of later ones
first_rises : (list : List Tree) (u n : ℕ) → n ≤ u → first_member list n ≤ first_member list u
first_rises list zero n le = (let z : n ≡ 0 = omega (arith, le) in let e : first_member list n ≡ 0 = ap (first_member list) z in omega (arith, e))
first_rises list (suc u) n le = by (nat_le n u) refl (first_rises list u n)
  where
    by : (b : Bool) → nat_le n u ≡ b → (n ≤ u → first_member list n ≤ first_member list u) → first_member list n ≤ first_member list (suc u)
    by true e rises =
        let below : n ≤ u = grind (arith, nat_tests) in
        let h = rises below in
        let z : first_member list n ≤ first_member list u + length (unit_members list u) = omega (arith, h) in
        z
    by false e rises =
        let above : suc u ≤ n = grind (arith, nat_tests) in
        let same : n ≡ suc u = omega (arith, above, le) in
        let z = ap (first_member list) same in
        omega (arith, z)

-- The members of a unit have questions.
pub is_asked : (list : List Tree) (n k : ℕ) → n < units list → k < length (unit_members list n) → first_member list n + k < length (questions list)
is_asked list n k lt below =
    let h = first_rises list (units list) (suc n) (omega (arith, lt)) in
    let next : first_member list n + length (unit_members list n) ≤ first_member list (units list) = h in
    let all = begins_at list (units list) in
    omega (arith, next, all, below)
