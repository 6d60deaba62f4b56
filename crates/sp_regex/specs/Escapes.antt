-- Escapes: how far one is read, and what the next byte leads to. For private functions.
use Rattle.std.specs.Prelude.{ℕ, Option, Some, None}
use Rattle.sp_regex.specs.declared.bytes.Escaped.{Escaped}
use Rattle.sp_regex.specs.declared.bytes.Escaped.TheVariants as escaped
use Rattle.sp_regex.specs.declared.escape.EscapePlace.{EscapePlace}
use Rattle.sp_regex.specs.declared.escape.EscapePlace.TheVariants.{Start, Hex, Digit}
use Rattle.sp_regex.specs.declared.escape.EscapeStep.{EscapeStep}
use Rattle.sp_regex.specs.declared.escape.EscapeStep.TheVariants.{Goes, Ends, Refused}
use Rattle.sp_regex.specs.Bytes.{escaped_of, hex_value, hex_value_of_two}

abbrev pub start_step : Escaped → EscapeStep
start_step (escaped.Byte b) = Ends b
start_step escaped.Hex = Goes Hex
start_step escaped.Misplaced = Refused

abbrev pub high_step : Option ℕ → ℕ → EscapeStep
high_step (Some x) b = Goes (Digit b)
high_step None b = Refused

abbrev pub low_step : Option ℕ → EscapeStep
low_step (Some b) = Ends b
low_step None = Refused

-- what the next byte of an escape leads to
abbrev pub escape_step : EscapePlace → ℕ → EscapeStep
escape_step Start b = start_step (escaped_of b)
escape_step Hex b = high_step (hex_value b) b
escape_step (Digit high) b = low_step (hex_value_of_two high b)
