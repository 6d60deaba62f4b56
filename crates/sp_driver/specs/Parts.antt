-- Why lines were not put.
use Rattle.std.specs.Prelude.{◌≡◌, ◌<◌, ℕ}
use Rattle.sp_driver.specs.declared.exits.Stop.{Stop}
use Rattle.sp_driver.specs.declared.exits.Stop.TheVariants.{Failed, NoMemory}

-- a failed put raised the count of faults; want of memory left it
abbrev pub StopCause : ℕ → ℕ → Stop → Type 0
StopCause before after Failed = before < after
StopCause before after NoMemory = after ≡ before
