use Rattle.std.proofs.Common.{◌≡◌, ◌+◌, ◌≤◌, ◌^◌, length, sym, ap, subst, ◌∙◌, arith}
use Rattle.sp_reasm.specs.Pieces.{laid, spot_len, AreData}
use Rattle.sp_reasm.proofs.RunLemmas.{part_behind, part_data}
use Rattle.sp_reasm.proofs.piece.Spot.part.Goals as goal

pub returns-then-end-at-clause-spot : goal.returns-then-end-at-clause-spot
returns-then-end-at-clause-spot c =
    let end = c.if-end-at.true in let len = c.len.ensures in
    part_behind c.args.start c.args.at c.args.room c.args.self.now c.requires.room c.requires.some (omega (arith, end, len))

pub returns-in-Bytes-clause-spot : goal.returns-in-Bytes-clause-spot
returns-in-Bytes-clause-spot c =
    let len : c.len.result ≡ length c.in-Bytes.bytes.now = c.len.ensures ∙ ap spot_len c.in-Bytes.is in
    let fits : c.args.start + length c.in-Bytes.bytes.now ≤ 2 ^ 62 = subst (λ s. c.args.start + spot_len s ≤ 2 ^ 62) c.in-Bytes.is c.requires.fits in
    let most = c.min-most.ensures in
    let before = c.if-end-at.false in
    let from = c.if-at-start.false in
    let some = c.requires.some (omega (arith, before, len, fits)) in
    subst (λ s. AreData (laid c.args.start s) c.args.at c.clipped.result.now) (sym c.in-Bytes.is)
    (part_data c.args.start c.args.at c.min-most.result c.in-Bytes.bytes.now c.clipped.result.now from fits (omega (arith, most, some, before)) (omega (arith, most, before, len)) c.clipped.ensures)
