use Rattle.sp_read_file.proofs.Endings.{refused_by}
use Rattle.sp_read_file.proofs.files.read_text.Goals as goal

pub returns-in-Err-Diag-clause-unread : goal.returns-in-Err-Diag-clause-unread
returns-in-Err-Diag-clause-unread c =
    refused_by c.args.path.now c.args.text.now c.in-Err-Diag.field-0 c.in-Err-Diag.span c.in-Err-Diag.kind c.place_of.result c.refused.result c.in-Err-Diag.field-0-is c.in-Err-Diag.ensures.unreadable c.place_of.ensures.line c.place_of.ensures.column c.refused.ensures
