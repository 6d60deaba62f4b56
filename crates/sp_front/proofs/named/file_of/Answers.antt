use Rattle.sp_front.proofs.Noting.{refused_text}
use Rattle.sp_front.proofs.named.file_of.Goals as goal

pub returns-in-Err-Refused : goal.returns-in-Err-Refused
returns-in-Err-Refused c =
    refused_text c.as_str.result.now c.args.path c.as_slice.result.now c.args.text c.in-Err-Refused.field-0 c.in-Err-Refused.refusal c.as_str.ensures c.as_slice.ensures c.in-Err-Refused.field-0-is c.in-Err-Refused.ensures.unread
