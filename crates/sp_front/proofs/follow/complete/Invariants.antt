use Rattle.std.proofs.Common.{◌≡◌, ◌≤◌, ◌+◌, ◌-◌, length}
use Rattle.sp_front.specs.Lists.{most_modules}
use Rattle.sp_front.specs.inside.Asking.{FollowedAsking}
use Rattle.sp_front.specs.inside.Follow.{IsClear, IsFollowed}
use Rattle.sp_front.specs.inside.Seen.{AreSeen}
use Rattle.sp_front.proofs.follow.complete.Given as goal

abbrev pub invariant-loop-place : goal.invariant-loop-place
invariant-loop-place g l = record {
  followed : IsFollowed (g.M.Modules.files l.fn.modules) l.directories l.fn.entries.items l.entries.items;
  clear : IsClear l.entries.items l.place;
  seen : AreSeen l.seen l.entries.items;
  most : length l.entries.items ≤ most_modules + 1;
  asks : FollowedAsking (g.M.Modules.files l.fn.modules) l.directories l.fn.entries.items l.entries.items (g.M.Modules.asked l.fn.modules) (g.M.Modules.asked l.modules);
  files : g.M.Modules.files l.modules ≡ g.M.Modules.files l.fn.modules;
  quiet : g.M.Modules.faults l.modules ≡ g.M.Modules.faults l.fn.modules;
}

abbrev pub decreases-loop-place : goal.decreases-loop-place
decreases-loop-place g l = most_modules + 1 - l.place
