use Rattle.std.proofs.Common.{◌≡◌, string_bytes, take}
use Rattle.sp_json.specs.Lines.{path_text}
use Rattle.sp_json.proofs.lines.path_name.Given as goal

abbrev pub invariant-loop-number : goal.invariant-loop-number
invariant-loop-number l = string_bytes l.text ≡ path_text l.flow (take l.number-index l.numbers)
