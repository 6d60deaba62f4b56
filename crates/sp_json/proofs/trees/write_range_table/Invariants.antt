use Rattle.std.proofs.Common.{◌≡◌, ◌++◌}
use Rattle.serde_json.specs.Data.{number, unsigned}
use Rattle.sp_json.specs.inside.Tokens.{lent, object_rest, in_order}
use Rattle.sp_json.proofs.trees.write_range_table.Given as goal

abbrev pub invariant-loop-name : goal.invariant-loop-name
invariant-loop-name l = record {
  tokens : l.out.tokens ++ object_rest (in_order (λ n. number (unsigned n)) (lent l.name-iterator)) ≡ l.initial.out.tokens ++ object_rest (in_order (λ n. number (unsigned n)) (lent l.table.entries));
  before : l.out.before ≡ l.initial.out.before;
}
