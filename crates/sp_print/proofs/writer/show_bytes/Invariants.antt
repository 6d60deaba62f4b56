use Rattle.std.proofs.Common.{◌≡◌, ◌++◌, drop, flat_map, string_bytes}
use Rattle.sp_print.specs.Words.{shown_byte}
use Rattle.sp_print.proofs.writer.show_bytes.Given as goal

abbrev pub invariant-loop-byte : goal.invariant-loop-byte
invariant-loop-byte l = string_bytes l.text ++ flat_map shown_byte (drop l.byte-index l.x) ≡ string_bytes l.fn.text ++ flat_map shown_byte l.x
