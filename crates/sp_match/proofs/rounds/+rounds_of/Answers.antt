use Rattle.std.proofs.Common.{◌≡◌, ap, sym, subst, refl, ◌∙◌}
use Rattle.sp_regex.specs.Trees.{sequence, alternatives, repeat}
use Rattle.sp_regex.specs.Language.{InL}
use Rattle.sp_match.specs.Parts.{Many}
use Rattle.sp_match.proofs.Nested.{many_map, nested_forth, nested_back, sequence_one, one_sequence, choice_one, one_choice, only_item}
use Rattle.sp_match.proofs.rounds.+rounds_of.Goals as goal

pub returns-then-parts-eq1-clause-forth : goal.returns-then-parts-eq1-clause-forth
returns-then-parts-eq1-clause-forth t c = λ w h.
    let x = c.index-parts-0.result in
    let one = only_item c.in-Sequence.parts.now x c.if-parts-eq1.true c.index-parts-0.is in
    let whole : sequence c.in-Sequence.parts.now ≡ c.args.part.now = c.in-Sequence.ensures in
    c.rounds_of.ensures.forth w (many_map c.args.may_miss (InL c.args.part.now) (InL x) (λ v k. sequence_one x v (subst (λ z. InL z v) (sym whole ∙ ap sequence one) k)) w h)

pub returns-then-parts-eq1-clause-back : goal.returns-then-parts-eq1-clause-back
returns-then-parts-eq1-clause-back t c = λ w h.
    let x = c.index-parts-0.result in
    let one = only_item c.in-Sequence.parts.now x c.if-parts-eq1.true c.index-parts-0.is in
    let whole : sequence c.in-Sequence.parts.now ≡ c.args.part.now = c.in-Sequence.ensures in
    many_map c.args.may_miss (InL x) (InL c.args.part.now) (λ v k. subst (λ z. InL z v) (sym (ap sequence one) ∙ whole) (one_sequence x v k)) w (c.rounds_of.ensures.back w h)

pub returns-then-parts-eq1-2-clause-forth : goal.returns-then-parts-eq1-2-clause-forth
returns-then-parts-eq1-2-clause-forth t c = λ w h.
    let x = c.index-parts-0-then-parts-eq1-2.result in
    let one = only_item c.in-Alternatives.parts.now x c.if-parts-eq1-2.true c.index-parts-0-then-parts-eq1-2.is in
    let whole : alternatives c.in-Alternatives.parts.now ≡ c.args.part.now = c.in-Alternatives.ensures in
    c.rounds_of-then-parts-eq1-2.ensures.forth w (many_map c.args.may_miss (InL c.args.part.now) (InL x) (λ v k. choice_one x v (subst (λ z. InL z v) (sym whole ∙ ap alternatives one) k)) w h)

pub returns-then-parts-eq1-2-clause-back : goal.returns-then-parts-eq1-2-clause-back
returns-then-parts-eq1-2-clause-back t c = λ w h.
    let x = c.index-parts-0-then-parts-eq1-2.result in
    let one = only_item c.in-Alternatives.parts.now x c.if-parts-eq1-2.true c.index-parts-0-then-parts-eq1-2.is in
    let whole : alternatives c.in-Alternatives.parts.now ≡ c.args.part.now = c.in-Alternatives.ensures in
    many_map c.args.may_miss (InL x) (InL c.args.part.now) (λ v k. subst (λ z. InL z v) (sym (ap alternatives one) ∙ whole) (one_choice x v k)) w (c.rounds_of-then-parts-eq1-2.ensures.back w h)

pub returns-then-allows_one-clause-forth : goal.returns-then-allows_one-clause-forth
returns-then-allows_one-clause-forth t c = λ w h.
    let inner = c.in-Repeat.inner.now in
    let count = c.in-Repeat.count in
    let m = c.args.may_miss in
    let allowed = c.if-allows_one.ensures refl in
    let whole : repeat count.least count.most inner ≡ c.args.part.now = c.in-Repeat.ensures in
    c.rounds_of-then-allows_one.ensures.forth w (subst (λ z. Many z (InL inner) w) (sym c.misses.ensures)
    (nested_forth m inner count.least count.most allowed.0 w (many_map m (InL c.args.part.now) (InL (repeat count.least count.most inner)) (λ v k. subst (λ z. InL z v) (sym whole) k) w h)))

pub returns-then-allows_one-clause-back : goal.returns-then-allows_one-clause-back
returns-then-allows_one-clause-back t c = λ w h.
    let inner = c.in-Repeat.inner.now in
    let count = c.in-Repeat.count in
    let m = c.args.may_miss in
    let allowed = c.if-allows_one.ensures refl in
    let whole : repeat count.least count.most inner ≡ c.args.part.now = c.in-Repeat.ensures in
    many_map m (InL (repeat count.least count.most inner)) (InL c.args.part.now) (λ v k. subst (λ z. InL z v) whole k) w
    (nested_back m inner count.least count.most allowed.0 allowed.1 w (subst (λ z. Many z (InL inner) w) c.misses.ensures (c.rounds_of-then-allows_one.ensures.back w h)))
