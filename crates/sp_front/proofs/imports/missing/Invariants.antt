use Rattle.std.proofs.Common.{◌≡◌, List, ◌++◌}
use Rattle.sp_front.specs.declared.entries.Entry.{Entry}
use Rattle.sp_front.specs.Imports.{imports_among, imports_of}
use Rattle.sp_front.specs.Lists.{missing}
use Rattle.sp_front.specs.inside.Seen.{AreSeen}
use Rattle.sp_front.proofs.imports.missing.Given as goal

abbrev pub invariant-loop-declaration : goal.invariant-loop-declaration
invariant-loop-declaration l = record {
  ready : (goal.iterator-loop-declaration).can_next l.declaration-iterator × (goal.iterator-loop-declaration).is_finite l.declaration-iterator;
  so_far : (es : List Entry) → AreSeen l.seen es → l.imports.items ++ missing es (imports_among l.declaration-iterator) ≡ missing es (imports_of l.file.«module»);
}
