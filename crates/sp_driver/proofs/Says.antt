-- What the exits say behind a list that was loaded.
use Rattle.std.proofs.Common.{◌≡◌, ℕ, List, Some, subst}
use Rattle.sp_ast.specs.Trees.{Tree}
use Rattle.sp_command.specs.Directories.{directories_of}
use Rattle.sp_front.specs.Lists.{Files}
use Rattle.sp_front.specs.declared.entries.ModuleFile.{ModuleFile}
use Rattle.sp_load.specs.Loads.{IsLoaded, sources_of, trees_of}
use Rattle.sp_load.specs.declared.sources.Source.{Source}
use Rattle.sp_type_answers.specs.NameRules.{IsTyped}
use Rattle.sp_typed_units.specs.declared.declarations.Typed.{Typed}
use Rattle.sp_driver_args.specs.Words.{Words, words_of}
use Rattle.sp_driver.specs.declared.exits.Exit.{Exit}
use Rattle.sp_driver.specs.declared.exits.RunExit.{RunExit}
use Rattle.sp_driver.specs.declared.exits.Unready.{Unready}
use Rattle.sp_driver.specs.Driver.{Faults, Objects, IsUntouched, Says, ExitCause, run_meaning}
use Rattle.sp_driver.specs.Lists.{IsListed, IsUnready, IsChosen}
use Rattle.sp_driver.specs.Options.{options_of}
use Rattle.sp_driver.specs.Run.{Runs}
use Rattle.sp_driver.specs.inside.Listed.{IsRunOf, IsRunCause}

module _ (words : List (List ℕ)) (files : Files) (before after : Objects) (w : Words) (ss : List Source) (ts : List Tree) (t : Typed) (found : words_of words ≡ Some w)
    (loaded : (fs : List ModuleFile) × IsLoaded files w.files (directories_of w.directories) fs × (ss ≡ sources_of fs) × (ts ≡ trees_of fs)) (typed : IsTyped ts t) where
  listed : IsListed files w loaded.0 t
  listed = (loaded.1, subst (λ ts. IsTyped ts t) loaded.3 typed)

  -- no unit of it runs
  says_unready : (unready : Unready) → IsUnready w.unit ss ts t unready → IsUntouched before after → Says words files before after (Exit.Unready unready)
  says_unready unready is untouched =
      (w, loaded.0, t, found, listed, subst (λ ss. IsUnready w.unit ss (trees_of loaded.0) t unready) loaded.2 (subst (λ ts. IsUnready w.unit ss ts t unready) loaded.3 is), untouched)

  -- one ran
  says_ran : (u : ℕ) (exit : RunExit) → IsChosen w.unit ss ts t u → Runs (run_meaning w t u) (options_of w) before.left after.left before.held after.held exit
      → Says words files before after (Exit.Ran exit)
  says_ran u exit is ran =
      (w, loaded.0, t, u, found, listed, subst (λ ss. IsChosen w.unit ss (trees_of loaded.0) t u) loaded.2 (subst (λ ts. IsChosen w.unit ss ts t u) loaded.3 is), ran)

  -- either
  pub says_run_of : (exit : Exit) → IsRunOf w ss ts t before.left after.left before.held after.held exit → Says words files before after exit
  says_run_of Exit.Usage run = absurd run
  says_run_of (Exit.Unread unread) run = absurd run
  says_run_of (Exit.Unready unready) run = says_unready unready run.0 (run.1, run.2)
  says_run_of (Exit.Ran exit) run = says_ran run.0 exit run.1 run.2

-- and the counts of faults that rose
pub cause_run_of : (before after : Faults) (exit : Exit) → after.modules ≡ before.modules → IsRunCause before.input after.input before.out after.out exit → ExitCause before after exit
cause_run_of before after Exit.Usage same cause = absurd cause
cause_run_of before after (Exit.Unread unread) same cause = absurd cause
cause_run_of before after (Exit.Unready unready) same cause = (same, cause.0, cause.1)
cause_run_of before after (Exit.Ran exit) same cause = (same, cause)
