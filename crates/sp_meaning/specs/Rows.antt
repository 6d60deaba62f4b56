-- Rows on which the definitions are run: a unit that waits, and one that is done.
use Rattle.std.specs.Prelude.{◌≡◌, ℕ, List, [], ◌∷◌, refl}
use Rattle.sp_base.specs.Input.{held_open}
use Rattle.sp_events.specs.Tree.{unit, no_fields}
use Rattle.sp_events.specs.declared.event.What.TheVariants as What
use Rattle.sp_meaning.specs.declared.stand.Stand.TheVariants.{Waiting, Done}
use Rattle.sp_meaning.specs.Meaning.{UnitMeaning, told, low}
use Rattle.sp_meaning.specs.Steady.{IsDecided}

abbrev waits_at : List ℕ → UnitMeaning
waits_at points s close = record { events = []; stand = Waiting; retention_points = points }

abbrev is_done : UnitMeaning
is_done s close = record { events = told (What.Done (unit no_fields)); stand = Done; retention_points = [] }

the_least_point_counts : low (waits_at (3 ∷ 1 ∷ 2 ∷ [])) (7 ∷ 7 ∷ 7 ∷ 7 ∷ []) held_open ≡ 1
the_least_point_counts = refl

nothing_is_kept : low is_done (7 ∷ 7 ∷ 7 ∷ 7 ∷ []) held_open ≡ 4
nothing_is_kept = refl

it_is_decided : IsDecided is_done
it_is_decided s e = let q : Done ≡ Waiting = e in cc

no_wait_is_decided : IsDecided (waits_at []) → ⊥
no_wait_is_decided law = law [] refl
