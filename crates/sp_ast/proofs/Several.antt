-- Trees in a list, all of one group, and parts in their slots.
use Rattle.std.proofs.Common.{◌≡◌, ℕ, zero, suc, ◌<◌, List, [], ◌∷◌, true, length, get_or, refl, arith}
use Rattle.std.specs.Prelude.{◌&&◌}
use Rattle.sp_ast.specs.Trees.{Tree, absent, trees}
use Rattle.sp_ast.specs.declared.groups.Group.{Group}
use Rattle.sp_ast.specs.declared.groups.Sort.{Sort}
use Rattle.sp_ast.specs.declared.groups.Slot.{Slot}
use Rattle.sp_ast.specs.declared.groups.Slot.TheVariants.{Part as part}
use Rattle.sp_ast.specs.Groups.{is_of, are_of, fits}
use Rattle.sp_ast.specs.Slots.{fill}
use Rattle.sp_ast.specs.Views.{first_fits}

pub member_is_of : (g : Group) (ts : List Tree) (i : ℕ) → are_of g (trees ts) ≡ true → i < length ts → is_of g (get_or ts i absent) ≡ true
member_is_of g [] i all below = absurd (omega arith)
member_is_of g (t ∷ ts) zero all below = grind arith
member_is_of g (t ∷ ts) (suc i) all below = member_is_of g ts i (grind arith) (omega arith)

-- where nothing is asked for there are no parts
pub no_parts : (ts : List Tree) → fill [] (trees ts) ≡ true → ts ≡ []
no_parts [] e = refl
no_parts (t ∷ ts) e = cc

pub first_part : (s : Sort) (asked : List Slot) (ts : List Tree) → fill (part s ∷ asked) (trees ts) ≡ true → first_fits s ts ≡ true
first_part s asked [] e = cc
first_part s asked (t ∷ ts) e = grind arith

pub other_parts : (s : Sort) (asked : List Slot) (t : Tree) (ts us : List Tree) → ts ≡ t ∷ us → fill (part s ∷ asked) (trees ts) ≡ true → fill asked (trees us) ≡ true
other_parts s asked t ts us e h = let h' : fits s t && fill asked (trees us) ≡ true = rw e at h in grind arith
