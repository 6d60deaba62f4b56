use Rattle.std.proofs.Common.{◌≡◌, drop}
use Rattle.sp_unbuilt.specs.First.{noted}
use Rattle.sp_unbuilt.specs.Unbuilt.{tests_from}
use Rattle.sp_unbuilt.proofs.whole.note_modules.Given as goal

abbrev pub invariant-loop-m : goal.invariant-loop-m
invariant-loop-m g l =
    noted l.first (tests_from (g.T.Texts.texts l.texts) l.m (drop l.m l.modules)) ≡ noted l.fn.first (tests_from (g.T.Texts.texts l.texts) 0 l.modules)
