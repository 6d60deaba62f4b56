-- The two values on top of a stack, as a slice with the lower one first.
use Rattle.std.proofs.Common.{◌≡◌, ◌<◌, List, [], ◌∷◌, length, reverse, take, refl, ap, ◌∙◌, arith}
use Rattle.std.specs.Prelude.{get_or}
use Rattle.sp_value.specs.Val.{Val}
use Rattle.sp_code.specs.Can.{top, second}

first_of_two : (vs : List Val) (v : Val) → 1 < length vs → get_or (reverse (take 2 vs)) 0 v ≡ second vs
first_of_two [] v h = absurd (omega (arith, h))
first_of_two (x ∷ []) v h = absurd (omega (arith, h))
first_of_two (x ∷ y ∷ vs) v h = refl

last_of_two : (vs : List Val) (v : Val) → 1 < length vs → get_or (reverse (take 2 vs)) 1 v ≡ top vs
last_of_two [] v h = absurd (omega (arith, h))
last_of_two (x ∷ []) v h = absurd (omega (arith, h))
last_of_two (x ∷ y ∷ vs) v h = refl

pub below : (vs two : List Val) (v : Val) → two ≡ reverse (take 2 vs) → 1 < length vs → v ≡ get_or two 0 v → v ≡ second vs
below vs two v e h g = g ∙ ap (λ l. get_or l 0 v) e ∙ first_of_two vs v h

pub on_top : (vs two : List Val) (v : Val) → two ≡ reverse (take 2 vs) → 1 < length vs → v ≡ get_or two 1 v → v ≡ top vs
on_top vs two v e h g = g ∙ ap (λ l. get_or l 1 v) e ∙ last_of_two vs v h
