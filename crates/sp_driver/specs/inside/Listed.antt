-- What is done with a list that was loaded.
use Rattle.std.specs.Prelude.{◌≡◌, ℕ, List, Option}
use Rattle.sp_ast.specs.Trees.{Tree}
use Rattle.sp_load.specs.declared.sources.Source.{Source}
use Rattle.sp_typed_units.specs.declared.declarations.Typed.{Typed}
use Rattle.sp_driver_args.specs.Words.{Words}
use Rattle.sp_driver.specs.declared.exits.Exit.{Exit}
use Rattle.sp_driver.specs.Driver.{run_meaning}
use Rattle.sp_driver.specs.Lists.{IsUnready, IsChosen}
use Rattle.sp_driver.specs.Options.{options_of}
use Rattle.sp_driver.specs.Run.{Runs, RunCause}

-- no unit of it runs, and nothing was taken and put; or one ran
abbrev pub IsRunOf : Words → List Source → List Tree → Typed → (left_before left_after held_before held_after : Option (List ℕ)) → Exit → Type 0
IsRunOf w ss ts t left_before left_after held_before held_after (Exit.Unready unready) =
    IsUnready w.unit ss ts t unready × (left_after ≡ left_before) × (held_after ≡ held_before)
IsRunOf w ss ts t left_before left_after held_before held_after (Exit.Ran exit) =
    (u : ℕ) × IsChosen w.unit ss ts t u × Runs (run_meaning w t u) (options_of w) left_before left_after held_before held_after exit
IsRunOf w ss ts t left_before left_after held_before held_after exit = ⊥

-- which counts of faults rose: in a run that of the input or of the output as the run says, and else none
abbrev pub IsRunCause : (input_before input_after out_before out_after : ℕ) → Exit → Type 0
IsRunCause input_before input_after out_before out_after (Exit.Ran exit) = RunCause input_before input_after out_before out_after exit
IsRunCause input_before input_after out_before out_after (Exit.Unready unready) = (input_after ≡ input_before) × (out_after ≡ out_before)
IsRunCause input_before input_after out_before out_after exit = ⊥
