use Rattle.std.proofs.Common.{◌∙◌, ap, sym}
use Rattle.sp_solver.specs.Told.{told}
use Rattle.sp_names.specs.Declarations.{name_of}
use Rattle.sp_names.proofs.Behind.{behind_label}
use Rattle.sp_names.proofs.names.Names.behind.Goals as goal

pub returns-else-is_empty : goal.returns-else-is_empty
returns-else-is_empty c =
    behind_label c.args.self.now (told c.args.known.now) c.args.meaning c.in-Some.found c.args.names c.in-Some-split_first.others c.in-Some-split_first.name c.in-Some-enum_of.owner c.in-Some-label.label c.text.result.now
    c.in-Some.is c.in-Some-split_first.ensures.some (c.in-Some-enum_of.ensures) (c.in-Some-label.ensures) (ap name_of c.text.ensures) (sym c.is_empty.ensures ∙ c.if-is_empty.false)
