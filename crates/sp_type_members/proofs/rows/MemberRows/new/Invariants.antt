use Rattle.std.proofs.Common.{◌≡◌}
use Rattle.sp_type_modules.specs.Sources.{questions_before, firsts_before}
use Rattle.sp_type_members.proofs.rows.MemberRows.new.Given as goal

abbrev pub invariant-loop-n : goal.invariant-loop-n
invariant-loop-n l = (l.begins.items ≡ firsts_before l.names l.n) × (l.questions.items ≡ questions_before l.names l.n)
