-- How a fiber stands, by what its machine does next.
use Rattle.std.specs.Prelude.{◌≡◌}
use Rattle.sp_meaning_states.specs.States.{Fine, Failed as FailedBy, Returned}
use Rattle.sp_code.specs.Machine.{Next, Waits, Over}
use Rattle.sp_frames.specs.Frames.{error_of}
use Rattle.sp_machine.specs.declared.machine.Mode.{Mode}
use Rattle.sp_machine.specs.declared.machine.Mode.TheVariants as mode_is
use Rattle.sp_fiber.specs.declared.stand.Stand.{Stand}
use Rattle.sp_fiber.specs.declared.stand.Stand.TheVariants.{Waiting, Done, Failed, Left}

-- by the mode of its machine
abbrev pub IsOfMode : Stand → Mode → Type 0
IsOfMode Waiting mode_is.Running = Unit {0}
IsOfMode Left mode_is.Leaving = Unit {0}
IsOfMode (Done x) (mode_is.Returning v) = x.now ≡ v
IsOfMode (Failed x) (mode_is.Failing e) = x.now ≡ e
IsOfMode stand mode = ⊥

-- a step that waits, and one by which all is over
abbrev pub IsStand : Stand → Next → Type 0
IsStand Waiting (Waits m) = Unit {0}
IsStand Left (Over Fine st) = Unit {0}
IsStand (Done x) (Over (Returned v) st) = x.now ≡ v
IsStand (Failed x) (Over (FailedBy e) st) = error_of x.now ≡ e
IsStand stand next = ⊥
