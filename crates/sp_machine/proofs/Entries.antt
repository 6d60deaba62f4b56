-- Entries of a program's tables as plain data.
use Rattle.std.proofs.Common.{◌≡◌, ℕ, zero, suc, ◌<◌, List, [], ◌∷◌, length, Some, refl, arith}
use Rattle.std.specs.Prelude.{slice_get, get_or}
use Rattle.sp_code.specs.declared.program.BodyCode.{BodyCode}
use Rattle.sp_code.specs.declared.program.UnitCode.{UnitCode}
use Rattle.sp_code.specs.Machine as plain
use Rattle.sp_code.specs.Programs.{bodies_of, units_of}
use Rattle.sp_machine.specs.Bodies.{body_of, unit_of}

pub body_found : (bs : List BodyCode) (n : ℕ) (d : BodyCode) → n < length bs → slice_get (bodies_of bs) n ≡ Some (body_of (get_or bs n d))
body_found [] n d h = absurd (omega (arith, h))
body_found (b ∷ bs) zero d h = refl
body_found (b ∷ bs) (suc n) d h = body_found bs n d (omega (arith, h))

pub body_there : (bs : List BodyCode) (n : ℕ) (e : plain.Body) → slice_get (bodies_of bs) n ≡ Some e → n < length bs
body_there [] n e h = cc
body_there (b ∷ bs) zero e h = omega arith
body_there (b ∷ bs) (suc n) e h = let g = body_there bs n e h in omega (arith, g)

pub unit_found : (us : List UnitCode) (n : ℕ) (d : UnitCode) → n < length us → slice_get (units_of us) n ≡ Some (unit_of (get_or us n d))
unit_found [] n d h = absurd (omega (arith, h))
unit_found (u ∷ us) zero d h = refl
unit_found (u ∷ us) (suc n) d h = unit_found us n d (omega (arith, h))

pub unit_there : (us : List UnitCode) (n : ℕ) (e : plain.UnitCode) → slice_get (units_of us) n ≡ Some e → n < length us
unit_there [] n e h = cc
unit_there (u ∷ us) zero e h = omega arith
unit_there (u ∷ us) (suc n) e h = let g = unit_there us n e h in omega (arith, g)
