use Rattle.std.proofs.Common.{◌≡◌, ◌≤◌, ◌+◌, ◌*◌, ◌++◌, length}
use Rattle.sp_events.specs.TreeSizes.{tree_size}
use Rattle.sp_json.specs.inside.Tokens.{lent, total}
use Rattle.sp_json.specs.inside.Writing.{each_tokens, field_tokens, pending, work}
use Rattle.sp_json.proofs.walk.push_table.Given as goal

abbrev pub decreases-loop-name : goal.decreases-loop-name
decreases-loop-name l = length l.table.entries

abbrev pub invariant-loop-name : goal.invariant-loop-name
invariant-loop-name l = record {
  tokens : each_tokens field_tokens (lent l.table.entries) ++ pending l.tasks.items ≡ each_tokens field_tokens (lent l.fn.table.entries) ++ pending l.fn.tasks.items;
  work : 3 * total (λ t. tree_size t + 1) (lent l.table.entries) + work l.tasks.items ≤ 3 * total (λ t. tree_size t + 1) (lent l.fn.table.entries) + work l.fn.tasks.items;
}
