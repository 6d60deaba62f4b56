use Rattle.std.proofs.Common.{◌≡◌, true, false, [], ◌∷◌, ◌∙◌}
use Rattle.sp_lex.specs.declared.kinds.TokenKind.TheVariants as token
use Rattle.sp_words.specs.declared.punctuation.Punctuation.TheVariants as punctuation
use Rattle.sp_print.specs.declared.layouts.Separator.TheVariants as separator
use Rattle.sp_print.specs.Layouts.{opening, closing}
use Rattle.sp_print.specs.Canonical.{needs_parentheses, is_absent, is_empty_row, spelled, rowed, part_of, anywhere}
use Rattle.sp_print.proofs.Parts.{less_behind}
use Rattle.sp_print.proofs.Writing.{within, in_parentheses, in_frame, as_arguments, one_more, first_and_others, all_laid, part_laid}
use Rattle.sp_print.proofs.print.+put.Goals as goal

pub put_all-returns : goal.put_all-returns
put_all-returns t c =
    first_and_others c.args.by c.args.all.now c.in-Some.others c.in-Some.first c.args.writer.now c.put_at.new.writer c.put_others.new.writer c.in-Some.ensures.some c.in_ok-put_at.ensures c.in_ok-put_others.ensures

pub put_at-returns : goal.put_at-returns
put_at-returns t c =
    let needs : needs_parentheses c.args.tight c.args.dividend c.args.tree.now c.args.writer.now.last ≡ true = cc in
    within (token.Punctuation punctuation.LeftParen ∷ []) (token.Punctuation punctuation.RightParen ∷ []) (spelled c.args.tree.now) c.args.writer.now c.put_kind.new.self c.put_tree-2.new.writer c.put_kind-2.new.self c.in_ok-put_kind.ensures c.in_ok-put_tree.ensures c.in_ok-put_kind-2.ensures
    ∙ in_parentheses c.args.tight c.args.dividend c.args.tree.now (spelled c.args.tree.now) c.args.writer.now needs

pub put_framed-returns : goal.put_framed-returns
put_framed-returns t c =
    let stands : is_absent c.args.tree.now ≡ false = cc in
    within (opening c.args.frame) (closing c.args.frame) (anywhere (part_of c.args.tree.now)) c.args.writer.now c.put_kinds.new.self c.put_at.new.writer c.put_kinds-2.new.self (rw c.opening.ensures at c.in_ok-put_kinds.ensures) c.in_ok-put_at.ensures (rw c.closing.ensures at c.in_ok-put_kinds-2.ensures)
    ∙ in_frame c.args.frame c.args.tree.now c.args.writer.now stands

pub put_others-loop-tree-preserved : goal.put_others-loop-tree-preserved
put_others-loop-tree-preserved t c = (
  tt,
  tt,
  one_more c.args.by c.loop-tree.tree-iterator c.next.new.self c.in-Some.tree c.loop-tree.writer c.put_kinds.new.self c.put_at.new.writer c.in-Some.ensures.steps (rw c.kinds.ensures at c.in_ok-put_kinds.ensures) c.in_ok-put_at.ensures
      ∙ c.loop-tree.invariant.2,
  less_behind c.loop-tree.tree-iterator c.next.new.self c.in-Some.tree c.args.others c.in-Some.ensures.steps c.loop-tree.invariant.3,
)

pub put_part-returns-in_ok-put_kind-in-Arguments-2 : goal.put_part-returns-in_ok-put_kind-in-Arguments-2
put_part-returns-in_ok-put_kind-in-Arguments-2 t c =
    let some : is_empty_row c.args.tree.now ≡ false = cc in
    within (token.Punctuation punctuation.LeftParen ∷ []) (token.Punctuation punctuation.RightParen ∷ []) (rowed c.args.tree.now separator.Comma) c.args.writer.now c.put_kind.new.self c.put_row-in-Arguments.new.writer c.put_kind-in-Arguments.new.self c.in_ok-put_kind-in-Arguments.ensures c.in_ok-put_row-in-Arguments.ensures c.in_ok-put_kind-in-Arguments-2.ensures
    ∙ as_arguments c.args.form.now c.args.layout c.args.tree.now c.args.writer.now c.in-Arguments.is some

pub put_piece-returns-in_ok-put_all-in-All-clause-laid : goal.put_piece-returns-in_ok-put_all-in-All-clause-laid
put_piece-returns-in_ok-put_all-in-All-clause-laid t c =
    all_laid c.args.form.now c.args.piece c.in-All.by c.args.parts c.end.result c.args.writer.now c.put_all.new.writer c.in-All.is c.end.ensures c.in_ok-put_all-in-All.ensures

pub put_piece-returns-in_ok-put_part-in-Some-clause-laid : goal.put_piece-returns-in_ok-put_part-in-Some-clause-laid
put_piece-returns-in_ok-put_part-in-Some-clause-laid t c =
    part_laid c.args.form.now c.args.piece c.in-Part.layout c.args.parts c.in-Some.others c.in-Some.part c.args.writer.now c.put_part.new.writer c.in-Part.is c.in-Some.ensures.some c.in_ok-put_part-in-Some.ensures
