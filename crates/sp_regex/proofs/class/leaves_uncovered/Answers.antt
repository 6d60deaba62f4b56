use Rattle.std.proofs.Common.{sym, ◌∙◌, arith, not, slice_index_or, false, ◌≡◌, true}
use Rattle.std.proofs.lemmas.Bool.{and_from, not_from_false}
use Rattle.sp_regex.proofs.Covers.{some_below-found, some_below-none}
use Rattle.sp_regex.specs.Bytes.{is_within}
use Rattle.sp_regex.proofs.class.leaves_uncovered.Goals as goal

pub returns-then-not-contains : goal.returns-then-not-contains
returns-then-not-contains c =
    let free : not (slice_index_or c.args.covered.now c.loop-i.i false) ≡ true = not_from_false _ c.if-not-covered.true in
    let outside : not (is_within c.loop-i.i c.args.range) ≡ true = not_from_false _ (sym c.contains.ensures ∙ c.if-not-contains.true) in
    sym (some_below-found 256 _ c.loop-i.i (omega arith) (and_from _ _ free outside))

pub returns : goal.returns
returns c = sym (some_below-none 256 _ (λ x lt. c.loop-i.invariant x (omega arith)))
