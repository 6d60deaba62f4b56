use Rattle.std.proofs.Common.{◌∙◌}
use Rattle.sp_io.proofs.Told.{front_read}
use Rattle.sp_io.proofs.folders.front_of.Goals as goal

pub returns-in-Ok : goal.returns-in-Ok
returns-in-Ok g c =
    front_read g.R.Read.remaining c.take-front.result c.args.reader 1048577 _ _ c.in-Ok.front c.take-front.ensures.limit c.take-front.ensures.inner c.new-bytes.ensures.items
    (c.in-Ok.ensures ∙ c.as_slice.ensures.value) c.in_default.ensures.bytes
