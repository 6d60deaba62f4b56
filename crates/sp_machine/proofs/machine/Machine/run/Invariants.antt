use Rattle.sp_code.specs.Programs.{plain_of}
use Rattle.sp_law_machine.specs.ends.Ending.{steps_left, whole}
use Rattle.sp_machine.specs.Plain.{plain, reads_of}
use Rattle.sp_machine.specs.Ran.{Came}
use Rattle.sp_machine.proofs.machine.Machine.run.Given as goal

abbrev pub invariant-loop-stop : goal.invariant-loop-stop
invariant-loop-stop l =
    Came (plain_of l.fn.limits l.fn.p) (reads_of l.fn.window l.fn.is_ended) l.fn.window l.fn.told.items l.told.items (plain l.fn.self) (plain l.self)

abbrev pub decreases-loop-stop : goal.decreases-loop-stop
decreases-loop-stop l = steps_left (plain_of l.fn.limits l.fn.p) (whole l.fn.window.base l.fn.window.bytes) (plain l.self)
