use Rattle.std.proofs.Common.{◌≡◌, ◌++◌, length}
use Rattle.std.specs.Prelude.{string_bytes}
use Rattle.sp_methods.specs.Decoding.{character_in, characters}
use Rattle.sp_lib.proofs.texts.filled.Given as goal

abbrev pub invariant-loop-rest : goal.invariant-loop-rest
invariant-loop-rest l = string_bytes l.text ++ characters (character_in l.charset) l.fill 0 l.rest ≡ characters (character_in l.charset) l.fill 0 l.x

abbrev pub decreases-loop-rest : goal.decreases-loop-rest
decreases-loop-rest l = length l.rest
