use Rattle.std.proofs.Common.{◌≡◌, ◌++◌, length}
use denote.Shadow.{shadow}
use denote.Text.{Utf8}
use Rattle.sp_command.specs.Directories.{directories_of}
use Rattle.sp_command.proofs.directories.directories_of.Given as goal

abbrev pub invariant-loop-directory : goal.invariant-loop-directory
invariant-loop-directory l = shadow (Utf8 l.rest) × (l.directories.items ++ directories_of l.rest ≡ directories_of l.text)

abbrev pub decreases-loop-directory : goal.decreases-loop-directory
decreases-loop-directory l = length l.rest
