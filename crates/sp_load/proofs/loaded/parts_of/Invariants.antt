use Rattle.std.proofs.Common.{◌≡◌}
use Rattle.sp_load.specs.Loads.{sources_of, trees_of}
use Rattle.sp_load.proofs.loaded.parts_of.Given as goal

abbrev pub invariant-loop-file : goal.invariant-loop-file
invariant-loop-file l = record {
  sources : l.sources.items ≡ sources_of l.yielded;
  modules : l.modules.items ≡ trees_of l.yielded;
}
