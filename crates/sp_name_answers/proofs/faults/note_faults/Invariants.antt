use Rattle.std.proofs.Common.{◌≡◌, drop}
use Rattle.sp_rules.specs.Least.{checked}
use Rattle.sp_solver.specs.Told.{told}
use Rattle.sp_names.specs.Faults.{faults_from, name_faults}
use Rattle.sp_name_answers.proofs.faults.note_faults.Given as goal

abbrev pub invariant-loop-i : goal.invariant-loop-i
invariant-loop-i l = checked l.least (faults_from l.names (told l.known) l.i (drop l.i l.modules)) ≡ checked l.fn.least (name_faults l.names (told l.known))
