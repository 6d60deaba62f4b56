-- The members of units have their numbers in the row of all.
use Rattle.std.proofs.Common.{ℕ, ◌≡◌, ◌+◌, ◌<◌, ◌≤◌, zero, suc, Bool, true, false, refl, sym, ap, subst, ◌∙◌, List, [], ◌∷◌, ◌++◌, length, length-append, Some, None, arith}
use Rattle.std.specs.Prelude.{if◌then◌else◌, nat_le, ◌-◌}
use Rattle.std.proofs.lemmas.Option.{slice_get_past}
use Rattle.std.proofs.lemmas.Bool.Decides.{nat_tests}
use Rattle.sp_ast.specs.Trees.{Tree}
use Rattle.sp_names.specs.declared.sort.DeclSort.TheVariants as sort_is
use Rattle.sp_names.specs.Declarations.{all_of}
use Rattle.sp_names.specs.Names.{declaration_of}
use Rattle.sp_type_modules.specs.Members.{UnitMember, is_called, unit_items, members_of, declared_unit, unit_declaration, unit_members, first_member}
use Rattle.sp_type_modules.specs.Members as around
use Rattle.sp_type_modules.specs.Sources.{Named, declared_among, firsts, sources_of, asked, questions_of, questions_before, units, questions, members}
use Rattle.sp_type_modules.specs.declared.sources.Source.{Source}
use Rattle.sp_type_modules.specs.inside.Aligned.{members_are}
use Rattle.sp_type_members.specs.inside.Typed.{AreInRow}

-- how many there are
length_members : (ds : List Named) → length (members ds) ≡ length ds
length_members [] = refl
length_members (d ∷ ds) = ap suc (length_members ds)

length_sources : (ds : List Named) → length (sources_of ds) ≡ length ds
length_sources [] = refl
length_sources (d ∷ ds) = ap suc (length_sources ds)

length_asked : (n : ℕ) (ss : List Source) → length (asked n ss) ≡ length ss
length_asked n [] = refl
length_asked n (s ∷ ss) = ap suc (length_asked n ss)

pub length_of : (list : List Tree) (n : ℕ) → length (questions_of list n) ≡ length (unit_members list n)
length_of list n =
    let unit = declared_unit (unit_declaration list n) in
    let ds = firsts (declared_among (unit_items unit)) in
    length_asked n (sources_of ds) ∙ length_sources ds ∙ sym (length_members ds) ∙ ap length (members_are unit)

-- where the members of a unit begin
pub begins_at : (list : List Tree) (n : ℕ) → length (questions_before list n) ≡ first_member list n
begins_at list zero = refl
begins_at list (suc n) =
    length-append (questions_before list n) (questions_of list n)
    ∙ ap (λ a. a + length (questions_of list n)) (begins_at list n)
    ∙ ap (λ b. first_member list n + b) (length_of list n)

numbered_below : (x : List ℕ) (k j : ℕ) (ms : List UnitMember) → around.numbered x k ms ≡ Some j → j < k + length ms
numbered_below x k j [] e = (let z : None ≡ Some j = e in cc)
numbered_below x k j (m ∷ ms) e = by (is_called x m) e (numbered_below x (suc k) j ms)
  where
    by : (b : Bool) → (if b then Some k else around.numbered x (suc k) ms) ≡ Some j → (around.numbered x (suc k) ms ≡ Some j → j < suc k + length ms) → j < k + suc (length ms)
    by true i h = (let s : Some k ≡ Some j = i in let is : k ≡ j = cc in omega (arith, is))
    by false i h = (let lt = h i in omega (arith, lt))

-- a unit that is not there has no members
no_members : (list : List Tree) (n : ℕ) → units list ≤ n → unit_members list n ≡ []
no_members list n le = ap (λ o. members_of (declared_unit (declaration_of list o))) (slice_get_past (all_of sort_is.Unit list) n le)

abbrev plus : ℕ → ℕ → ℕ
plus zero n = n
plus (suc d) n = suc (plus d n)

plus_is : (d n : ℕ) → plus d n ≡ d + n
plus_is zero n = (let z : n ≡ 0 + n = omega arith in z)
plus_is (suc d) n = (let h = plus_is d n in let z : suc (plus d n) ≡ suc d + n = omega (arith, h) in z)

first_rises : (list : List Tree) (n d : ℕ) → first_member list n ≤ first_member list (plus d n)
first_rises list n zero = (let z : first_member list n ≤ first_member list n = omega arith in z)
first_rises list n (suc d) =
    let h = first_rises list n d in
    let z : first_member list n ≤ first_member list (plus d n) + length (unit_members list (plus d n)) = omega (arith, h) in
    z

nothing_past : (list : List Tree) (n d : ℕ) → units list ≤ n → first_member list (plus d n) ≡ first_member list n
nothing_past list n zero le = refl
nothing_past list n (suc d) le =
    let h = nothing_past list n d le in
    let p = plus_is d n in
    let z : length (unit_members list (plus d n)) ≡ 0 = ap length (no_members list (plus d n) (let y : units list ≤ plus d n = omega (arith, le, p) in y)) in
    let s : first_member list (plus d n) + length (unit_members list (plus d n)) ≡ first_member list n = omega (arith, h, z) in
    s

-- behind the last unit nothing begins
pub past_units : (list : List Tree) (n : ℕ) → units list ≤ n → first_member list n ≡ length (questions list)
past_units list n le =
    let d : plus (n - units list) (units list) ≡ n = (let p = plus_is (n - units list) (units list) in omega (arith, p, le)) in
    ap (first_member list) (sym d) ∙ nothing_past list (units list) (n - units list) (let z : units list ≤ units list = omega arith in z) ∙ sym (begins_at list (units list))

pub are_in_row : (list : List Tree) → AreInRow list (length (questions list))
are_in_row list n k x e = by (nat_le (units list) n) refl
  where
    lt : k < length (unit_members list n)
    lt = (let z = numbered_below x 0 k (unit_members list n) e in omega (arith, z))

    there : suc n ≤ units list → first_member list n + k < length (questions list)
    there le =
        let is : plus (units list - suc n) (suc n) ≡ units list = (let p = plus_is (units list - suc n) (suc n) in omega (arith, le, p)) in
        let rise : first_member list (suc n) ≤ first_member list (plus (units list - suc n) (suc n)) = first_rises list (suc n) (units list - suc n) in
        let more_than : first_member list (suc n) ≤ first_member list (units list) = subst (λ u. first_member list (suc n) ≤ first_member list u) is rise in
        let all = begins_at list (units list) in
        omega (arith, lt, more_than, all)

    by : (b : Bool) → nat_le (units list) n ≡ b → first_member list n + k < length (questions list)
    by true e =
        let le : units list ≤ n = grind (arith, nat_tests) in
        let z : length (unit_members list n) ≡ 0 = ap length (no_members list n le) in
        absurd (let y : ⊥ = omega (arith, z, lt) in y)
    by false e = there (let z : suc n ≤ units list = grind (arith, nat_tests) in z)
