use Rattle.std.proofs.Common.{◌≡◌, ◌++◌, drop, flat_map}
use Rattle.sp_print.specs.Canonical.{canonical}
use Rattle.sp_spicyc.proofs.files.print_all.Given as goal

abbrev pub invariant-loop-one : goal.invariant-loop-one
invariant-loop-one l = l.text ++ flat_map canonical (drop l.one-index l.modules) ≡ flat_map canonical l.modules
