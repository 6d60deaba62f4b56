-- Of what the shapes of a unit's code are.
use Rattle.sp_code.specs.declared.program.RoundRow.{RoundRow}
use Rattle.sp_code.specs.declared.program.RoundRow.TheVariants as round_is

-- its parts, what runs behind them, or what runs where they fail
abbrev pub IsOfUnit : RoundRow → Type 0
IsOfUnit round_is.Unit = Unit {0}
IsOfUnit round_is.Ending = Unit {0}
IsOfUnit round_is.Failing = Unit {0}
IsOfUnit r = ⊥
