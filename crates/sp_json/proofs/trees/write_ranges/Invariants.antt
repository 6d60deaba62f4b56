use Rattle.std.proofs.Common.{◌≡◌, ◌++◌, drop}
use Rattle.serde_json.specs.Data.{number, unsigned}
use Rattle.sp_json.specs.inside.Tokens.{object_rest, in_order}
use Rattle.sp_json.proofs.trees.write_ranges.Given as goal

abbrev pub invariant-loop-name : goal.invariant-loop-name
invariant-loop-name l = record {
  tokens : l.out.tokens ++ object_rest (in_order (λ n. number (unsigned n)) (drop l.name-index l.ranges)) ≡ l.initial.out.tokens ++ object_rest (in_order (λ n. number (unsigned n)) l.ranges);
  before : l.out.before ≡ l.initial.out.before;
}
