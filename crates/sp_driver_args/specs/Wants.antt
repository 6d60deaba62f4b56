-- What the words of a call say, as the code holds them.
use Rattle.std.specs.Prelude.{◌≤◌, ◌^◌, option_map}
use Rattle.sp_driver_args.specs.declared.options.Taken as code_taken
use Rattle.sp_driver_args.specs.declared.options.Flag as code_flag
use Rattle.sp_driver_args.specs.declared.words.Wanted.{Wanted}
use Rattle.sp_driver_args.specs.Words.{Words, Taken, Flag}

-- an option with its value
abbrev pub taken_words : code_taken.Taken → Taken
taken_words t = record { value = option_map (λ s. s.now) t.value; behind = t.behind.now }

-- a flag
abbrev pub flag_words : code_flag.Flag → Flag
flag_words f = record { set = f.set; behind = f.behind.now }

abbrev pub wanted_words : Wanted → Words
wanted_words w =
    record {
      unit = option_map (λ s. s.now) w.unit;
      increment = w.increment;
      directories = w.directories.now;
      report = w.report;
      trace = w.trace;
      turns = w.turns;
      most = w.most;
      files = w.files.now;
    }

-- pieces that are neither empty nor large, at least one turn, and no more bytes than an input has
pub record AreInRange (w : Wanted) : Type 0 where
  pub some : 1 ≤ w.increment
  pub small : w.increment ≤ 65536
  pub turns : 1 ≤ w.turns
  pub most : w.most ≤ 2 ^ 62
