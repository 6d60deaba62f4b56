use Rattle.std.proofs.Common.{◌≡◌, ◌++◌}
use Rattle.sp_front.specs.Lists.{entries_of}
use Rattle.sp_front.proofs.list.files_of.Given as goal

abbrev pub invariant-loop-entry : goal.invariant-loop-entry
invariant-loop-entry l = record {
  made : entries_of l.files.items ≡ l.yielded;
  left : l.yielded ++ l.entry-iterator.rest.items ≡ l.fn.entries.items;
}
