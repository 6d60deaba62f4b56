-- What a table of members tells of a name is its number.
use Rattle.std.proofs.Common.{ℕ, ◌≡◌, ◌+◌, ◌<◌, zero, suc, Bool, true, false, refl, sym, ap, ◌∙◌, List, [], ◌∷◌, length, Option, Some, None, arith}
use Rattle.std.specs.Prelude.{if◌then◌else◌, slice_get}
use Rattle.sp_ast.specs.Trees.{Tree}
use Rattle.sp_types.specs.Types.{Ty}
use Rattle.sp_typed_units.specs.declared.declarations.MemberKind.{MemberKind}
use Rattle.sp_typed_units.specs.declared.declarations.MemberKind.TheVariants as kind_is
use Rattle.sp_type_modules.specs.Members.{UnitMember, is_called, numbered, kinds_of, members_of, unit_items}
use Rattle.sp_type_modules.specs.Arounds.{unit_member, some_member}
use Rattle.sp_type_modules.specs.Sources.{firsts, declared_among}
use Rattle.sp_type_modules.specs.Taken.{member_number}
use Rattle.sp_type_modules.specs.inside.Aligned.{members_are, numbered_is}
use Rattle.sp_type_member_names.specs.inside.Numbers.{number_of}

below : (x : List ℕ) (k j : ℕ) (ms : List UnitMember) → numbered x k ms ≡ Some j → j < k + length ms
below x k j [] e = (let z : None ≡ Some j = e in cc)
below x k j (m ∷ ms) e = by (is_called x m) e (below x (suc k) j ms)
  where
    by : (b : Bool) → (if b then Some k else numbered x (suc k) ms) ≡ Some j → (numbered x (suc k) ms ≡ Some j → j < suc k + length ms) → j < k + suc (length ms)
    by true i h = (let s : Some k ≡ Some j = i in let is : k ≡ j = cc in omega (arith, is))
    by false i h = (let lt = h i in omega (arith, lt))

kind_there : (stored : ℕ → Ty) (k j : ℕ) (ms : List UnitMember) → j < length ms → number_of (some_member stored k (slice_get (kinds_of ms) j)) ≡ Some k
kind_there stored k j [] lt = absurd (let z : ⊥ = omega (arith, lt) in z)
kind_there stored k zero (m ∷ ms) lt = by m.kind
  where
    by : (kind : MemberKind) → number_of (some_member stored k (Some kind)) ≡ Some k
    by kind_is.Field = refl
    by kind_is.Variable = refl
    by kind_is.Sink = refl
kind_there stored k (suc j) (m ∷ ms) lt = kind_there stored k j ms (omega (arith, lt))

told_is : (stored : ℕ → Ty) (ms : List UnitMember) (o : Option ℕ) → ((j : ℕ) → o ≡ Some j → j < length ms) → number_of (unit_member stored ms o) ≡ o
told_is stored ms None h = refl
told_is stored ms (Some k) h = kind_there stored k k ms (h k refl)

pub number_is : (stored : ℕ → Ty) (unit : Tree) (x : List ℕ) → number_of (unit_member stored (members_of unit) (numbered x 0 (members_of unit))) ≡ member_number unit x
number_is stored unit x =
    told_is stored (members_of unit) (numbered x 0 (members_of unit)) (λ j e. (let lt = below x 0 j (members_of unit) e in omega (arith, lt)))
    ∙ ap (numbered x 0) (sym (members_are unit))
    ∙ sym (numbered_is x 0 (firsts (declared_among (unit_items unit))))
