use Rattle.std.proofs.Common.{◌≡◌, ◌≤◌, ◌+◌, length, drop}
use Rattle.sp_front.specs.Lists.{most_modules}
use Rattle.sp_front.specs.inside.Asking.{FollowedAsking}
use Rattle.sp_front.specs.inside.Follow.{IsDue, IsFollowed}
use Rattle.sp_front.specs.inside.Seen.{AreSeen}
use Rattle.sp_front.proofs.follow.follow.Given as goal

abbrev pub invariant-loop-import : goal.invariant-loop-import
invariant-loop-import g l = record {
  followed : IsFollowed (g.M.Modules.files l.fn.modules) l.directories l.fn.entries.items l.entries.items;
  due : IsDue l.entries.items l.place (drop l.import-index l.imports);
  seen : AreSeen l.seen l.entries.items;
  most : length l.entries.items ≤ most_modules + 1;
  asks : FollowedAsking (g.M.Modules.files l.fn.modules) l.directories l.fn.entries.items l.entries.items (g.M.Modules.asked l.fn.modules) (g.M.Modules.asked l.modules);
  files : g.M.Modules.files l.modules ≡ g.M.Modules.files l.fn.modules;
  quiet : g.M.Modules.faults l.modules ≡ g.M.Modules.faults l.fn.modules;
}
