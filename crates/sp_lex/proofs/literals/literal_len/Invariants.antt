use Rattle.std.proofs.Common.{length, ◌-◌, ◌≡◌, ◌≤◌, drop}
use Rattle.sp_lex.specs.Literals.{opening, literal_end}
use Rattle.sp_lex.proofs.literals.literal_len.Given as goal

abbrev pub invariant-loop-at : goal.invariant-loop-at
invariant-loop-at l = record {
  after_opening : opening l.form ≤ l.at;
  within : l.at ≤ length l.text;
  same : literal_end l.form (opening l.form) 0 (drop (opening l.form) l.text) ≡ literal_end l.form l.at 0 (drop l.at l.text);
}

abbrev pub decreases-loop-at : goal.decreases-loop-at
decreases-loop-at l = length l.text - l.at
