use Rattle.std.proofs.Common.{◌+◌, ◌*◌, [], take}
use Rattle.sp_regex.specs.Trees.{sequence, alternatives, syntax_size}
use Rattle.sp_regex.specs.Language.{InL}
use Rattle.sp_match.proofs.empties.+has_empty_word.Given as goal

abbrev pub decreases-has_empty_word : goal.decreases-has_empty_word
decreases-has_empty_word l = 4 * syntax_size l.regex.now + 1

abbrev pub decreases-all_have : goal.decreases-all_have
decreases-all_have l = 4 * syntax_size (sequence l.parts.now)

abbrev pub decreases-one_has : goal.decreases-one_has
decreases-one_has l = 4 * syntax_size (alternatives l.parts.now)

abbrev pub decreases-repetition_has : goal.decreases-repetition_has
decreases-repetition_has l = 4 * syntax_size l.part.now + 2

abbrev pub invariant-all_have-loop-part : goal.invariant-all_have-loop-part
invariant-all_have-loop-part l = InL (sequence (take l.part-index l.parts)) []

abbrev pub invariant-one_has-loop-part : goal.invariant-one_has-loop-part
invariant-one_has-loop-part l = InL (alternatives (take l.part-index l.parts)) [] → ⊥
