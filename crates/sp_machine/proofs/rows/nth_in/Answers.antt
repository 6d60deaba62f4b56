use Rattle.std.proofs.Common.{◌≡◌, ◌+◌, ◌-◌, ◌<◌, ◌≤◌, length, drop, sym, ap, ◌∙◌, subst, arith}
use Rattle.std.specs.Prelude.{slice_get, get_or}
use Rattle.sp_value.specs.Pieces.{all_in}
use Rattle.sp_machine.proofs.Pieces.{looked_up, nth_here, nth_later}
use Rattle.sp_machine.proofs.rows.nth_in.Goals as goal

pub returns-then-left-len : goal.returns-then-left-len
returns-then-left-len g c =
    let p = c.piece-item.result in
    let i = c.loop-piece.piece-index in
    let left = c.loop-piece.left in
    let x = c.index.result.now in
    let test = c.loop-piece-test.true in
    let end = c.loop-piece.auto.piece-index-end in
    let less = c.if-left-len.true in
    let len = c.len-len.ensures in
    let here = ap length (ap (λ v. v.items) c.deref.ensures) in
    let within : left < length p.value.items = grind (arith) in
    sym (nth_here c.args.pieces.now i left c.args.n p (looked_up c.args.pieces.now i p (grind (arith)) c.piece-item.is) c.loop-piece.invariant within
    ∙ looked_up p.value.items left x within (subst (λ v. x ≡ get_or v.items left x) c.deref-then-left-len.ensures c.index.ensures))

pub loop-piece-preserved : goal.loop-piece-preserved
loop-piece-preserved g c =
    let p = c.piece-item.result in
    let i = c.loop-piece.piece-index in
    let left = c.loop-piece.left in
    let test = c.loop-piece-test.true in
    let end = c.loop-piece.auto.piece-index-end in
    let less = c.if-left-len.false in
    let len = c.len-len.ensures in
    let here = ap length (ap (λ v. v.items) c.deref.ensures) in
    let past : length p.value.items ≤ left = grind (arith) in
    let same : length p.value.items ≡ c.len-len.result = grind (arith) in
    subst (λ k. slice_get (all_in (drop (i + 1) c.args.pieces.now)) (left - k) ≡ slice_get (all_in c.args.pieces.now) c.args.n) same
    (nth_later c.args.pieces.now i left c.args.n p (looked_up c.args.pieces.now i p (grind (arith)) c.piece-item.is) c.loop-piece.invariant past)
