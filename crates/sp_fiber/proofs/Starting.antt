-- What a fiber is that has run nothing.
use Rattle.std.proofs.Common.{◌≡◌, ℕ, List, [], refl, sym, subst, arith}
use Rattle.sp_base.specs.declared.places.Limits.{Limits}
use Rattle.sp_value.specs.Val.{Val}
use Rattle.sp_window.specs.Windows.{Held}
use Rattle.sp_code.specs.declared.program.Program.{Program}
use Rattle.sp_code.specs.Machine.{Config}
use Rattle.sp_code.specs.Programs.{plain_of, shapes_of, IsSoundProgram}
use Rattle.sp_code.specs.Shapes.{Shaped}
use Rattle.sp_fiber.specs.declared.phase.Phase.TheVariants as phase_is
use Rattle.sp_fiber.specs.Fibers.{Suspended, started, IsFiber, StandsFor}

abbrev fresh : Program → Limits → Held → Config → Suspended
fresh program limits w c = record { code = plain_of limits program; phase = phase_is.Fresh; window = w; at = c; received = 0 }

pub fresh_is : (program : Program) (limits : Limits) (at : ℕ) (ws : List Val) (w : Held) (c : Config) → IsSoundProgram program → Shaped (plain_of limits program) (shapes_of program) (started at ws)
    → w ≡ record { base = 0; bytes = [] } → c ≡ started at ws → IsFiber program limits phase_is.Fresh w c 0
fresh_is program limits at ws w c sound shaped empty begins =
    subst (λ w. IsFiber program limits phase_is.Fresh w c 0) (sym empty)
    (subst (λ c. IsFiber program limits phase_is.Fresh (record { base = 0; bytes = [] }) c 0) (sym begins)
    (record { sound = sound; bound = omega arith; ready = record { shapes = shapes_of program; sound = (sound limits).0; shaped = shaped; from = (tt, omega arith, tt, tt) } }))

pub fresh_stands : (program : Program) (limits : Limits) (at : ℕ) (ws : List Val) (w : Held) (c : Config) → w ≡ record { base = 0; bytes = [] } → c ≡ started at ws
    → StandsFor (fresh program limits w c) (started at ws) [] []
fresh_stands program limits at ws w c empty begins =
    subst (λ w. StandsFor (fresh program limits w c) (started at ws) [] []) (sym empty)
    (subst (λ c. StandsFor (fresh program limits (record { base = 0; bytes = [] }) c) (started at ws) [] []) (sym begins)
    (record { live = (refl, refl, refl, record { within = omega arith; bytes = refl; from = (tt, omega arith, tt, tt) }); counted = refl }))
