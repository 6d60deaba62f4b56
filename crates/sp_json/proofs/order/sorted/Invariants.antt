use Rattle.std.proofs.Common.{◌≡◌, ◌≤◌, ◌+◌, ℕ, drop}
use Rattle.serde_json.specs.Data.{Data, no_members}
use Rattle.sp_json.specs.inside.Tokens.{lent, in_order, with_entries, total}
use Rattle.sp_json.proofs.order.sorted.Given as goal

abbrev pub invariant-loop-name : goal.invariant-loop-name
invariant-loop-name g l = record {
  members : (json : g.row.T.Denot → Data) → with_entries json (drop l.name-index l.entries) (in_order json (lent l.table.entries)) ≡ with_entries json l.entries no_members;
  weight : (weight : g.row.T.Denot → ℕ) → total weight (lent l.table.entries) + total weight (drop l.name-index l.entries) ≤ total weight l.entries;
}
