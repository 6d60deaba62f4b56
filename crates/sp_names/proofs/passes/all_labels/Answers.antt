use Rattle.std.proofs.Common.{◌∙◌, ap, sym}
use Rattle.sp_names.specs.Names.{first_named, label_name, labels_of}
use Rattle.sp_names.specs.Tables.{IsLabels, declaration_in}
use Rattle.sp_names.proofs.Lists.{each_more, one_longer, here}
use Rattle.sp_names.proofs.passes.all_labels.Goals as goal

pub loop-n-preserved : goal.loop-n-preserved
loop-n-preserved c =
    let rs = c.args.rows.now in
    let es = c.args.enums.now in
    let before = c.loop-n.invariant in
    let at = here es c.loop-n.n 0 c.loop-n-test.true in (
      one_longer c.loop-n.tables.items c.push.new.self.items c.loop-n.n c.in_ok-labels_at.field-0 c.in_ok-push.ensures.items before.0,
      each_more (IsLabels rs es) c.loop-n.tables.items c.push.new.self.items c.loop-n.n c.in_ok-labels_at.field-0 c.in_ok-push.ensures.items before.0 before.1
          (λ x. c.in_ok-labels_at.ensures x ∙ ap (λ o. first_named label_name x 0 (labels_of (declaration_in rs o))) (sym at)),
    )
