use Rattle.std.proofs.Common.{◌≡◌, ◌≤◌, [], length, take}
use Rattle.sp_io.specs.Asked.{also_asked}
use Rattle.sp_front.specs.Lists.{most_modules, AreNamed}
use Rattle.sp_front.specs.inside.Seen.{AreSeen}
use Rattle.sp_front.proofs.named.read_named.Given as goal

abbrev pub invariant-loop-path : goal.invariant-loop-path
invariant-loop-path g l = record {
  named : AreNamed (g.M.Modules.files l.fn.modules) [] (take l.path-index l.names) l.entries.items;
  count : length l.entries.items ≡ l.path-index;
  room : l.path-index ≤ most_modules;
  seen : AreSeen l.seen l.entries.items;
  asks : g.M.Modules.asked l.modules ≡ also_asked (g.M.Modules.asked l.fn.modules) (take l.path-index l.names);
  files : g.M.Modules.files l.modules ≡ g.M.Modules.files l.fn.modules;
  quiet : g.M.Modules.faults l.modules ≡ g.M.Modules.faults l.fn.modules;
}
