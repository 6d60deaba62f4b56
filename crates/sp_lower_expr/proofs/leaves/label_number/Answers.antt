use Rattle.std.proofs.Common.{◌∙◌, ap, sym, arith}
use Rattle.sp_meaning.specs.Globals.{number_of}
use Rattle.sp_lower_expr.proofs.Lookups.{label_there, no_label}
use Rattle.sp_lower_expr.proofs.leaves.label_number.Goals as goal

pub returns-then-l-labels : goal.returns-then-l-labels
returns-then-l-labels c =
    let here = c.index-labels-l.is in
    c.number_of.ensures ∙ ap (λ x. number_of x.number) (sym here) ∙ label_there c.args.labels.now c.args.l c.index-labels-l.result c.if-l-labels.true here

pub returns-else-l-labels : goal.returns-else-l-labels
returns-else-l-labels c = no_label c.args.labels.now c.args.l (omega arith)
