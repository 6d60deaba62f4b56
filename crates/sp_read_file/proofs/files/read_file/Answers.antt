use Rattle.std.proofs.Common.{Some}
use Rattle.sp_read_file.specs.Files.{IsStopped}
use Rattle.sp_read_file.specs.Loads.{IsTextUnread}
use Rattle.sp_read_file.proofs.Endings.{stopped_by, unread_by}
use Rattle.sp_command.proofs.Files.{holds_by}
use Rattle.sp_read_file.proofs.files.read_file.Goals as goal

pub returns-in-Ok-Some-clause-unread : goal.returns-in-Ok-Some-clause-unread
returns-in-Ok-Some-clause-unread g c =
    let files = g.M.Modules.files c.args.modules.now in
    let path = c.args.path.now in
    let text = c.in-Ok-Some.text in
    let holds = holds_by files path (Some text) (λ map told. rw c.in-Ok-Some.field-0-is at (c.in-Ok-Some.ensures.content map told)) in
    unread_by c.read_text.result (λ u. IsTextUnread path text u) (λ u. IsStopped files path u) (λ u is. stopped_by files path text u holds is) (rw c.as_slice.ensures at c.read_text.ensures.unread)
