-- The options of a run, as the words have them.
use Rattle.std.specs.Prelude.{ℕ, ◌≤◌, ◌^◌}
use Rattle.sp_base.specs.declared.places.Limits.{Limits}
use Rattle.sp_driver_args.specs.Words.{Words}
use Rattle.sp_driver.specs.declared.options.RunOptions.{RunOptions}

-- The limits of a run: so many turns without progress, 100 units and functions open, and 8 fibers within one another.
abbrev pub limits_of : ℕ → Limits
limits_of turns = record { turns = turns; depth = 100; fibers = 8 }

-- `--report` adds no line yet.
abbrev pub options_of : Words → RunOptions
options_of w = record { increment = w.increment; most = w.most; trace = w.trace }

-- pieces that are neither empty nor large, and no more bytes than an input has
pub record AreOptions (o : RunOptions) : Type 0 where
  pub some : 1 ≤ o.increment
  pub small : o.increment ≤ 65536
  pub most : o.most ≤ 2 ^ 62
