use Rattle.std.proofs.Common.{◌≡◌, ◌+◌, ◌-◌, ◌^◌, ap, ◌∙◌, arith}
use Rattle.sp_reasm.specs.inside.Overlays.{owner_in}
use Rattle.sp_reasm.proofs.RunLemmas.{some_read}
use Rattle.sp_reasm.proofs.TellLemmas.{told_data, told_lost}
use Rattle.sp_reasm.proofs.overlay.Overlay.deliver_run.Goals as goal

pub returns-in_ok-push-in-Bytes : goal.returns-in_ok-push-in-Bytes
returns-in_ok-push-in-Bytes c =
    let fits = c.in-Bytes.ensures.fits in
    let some = c.in-Bytes.ensures.some in
    let run = c.in_ok-bytes-in-Bytes.ensures in
    let long = some_read (owner_in c.args.self.now) c.args.at (2 ^ 64 - 1) c.in-Bytes.field-0.now c.in_ok-bytes-in-Bytes.bytes (omega (arith, fits, some)) c.in-Bytes.ensures run in
    told_data (owner_in c.args.self.now) c.args.at (c.args.at + c.len.result) c.in_ok-bytes-in-Bytes.bytes c.args.notes.now c.push.new.self (omega (arith, fits, some)) long run (ap (λ n. c.args.at + n) c.len.ensures) c.in_ok-push-in-Bytes.ensures.ok

pub returns-in_ok-push-in-Missing : goal.returns-in_ok-push-in-Missing
returns-in_ok-push-in-Missing c =
    let fits = c.in-Missing.ensures.fits in
    let some = c.in-Missing.ensures.some in
    let first = c.in-Missing.ensures.each 0 some in
    told_lost (owner_in c.args.self.now) c.args.at c.lost_end-next.result c.args.notes.now c.push-in-Missing.new.self (omega (arith, fits, some)) (ap (owner_in c.args.self.now) (let e : c.args.at ≡ c.args.at + 0 = omega arith in e) ∙ first) c.lost_end-next.ensures c.in_ok-push-in-Missing.ensures.ok
