use Rattle.std.proofs.Common.{◌≡◌, ◌≤◌, ◌+◌, ◌*◌, ◌++◌, length, drop}
use Rattle.sp_events.specs.Tree.{fields_of}
use Rattle.sp_events.specs.TreeSizes.{fields_size}
use Rattle.sp_json.specs.inside.Writing.{each_tokens, field_tokens, pending, work}
use Rattle.sp_json.proofs.walk.push_fields.Given as goal

abbrev pub decreases-loop-i : goal.decreases-loop-i
decreases-loop-i l = l.i

abbrev pub invariant-loop-i : goal.invariant-loop-i
invariant-loop-i l = record {
  within : l.i ≤ length l.fields;
  tokens : pending l.tasks.items ≡ each_tokens field_tokens (drop l.i l.fields) ++ pending l.fn.tasks.items;
  work : work l.tasks.items ≤ 3 * fields_size (fields_of (drop l.i l.fields)) + work l.fn.tasks.items;
}
