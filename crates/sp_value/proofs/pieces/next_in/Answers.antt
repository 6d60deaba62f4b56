use Rattle.std.proofs.Common.{◌<◌, ◌≤◌, ◌+◌, length, sym, subst, ◌∙◌, arith, rules}
use Rattle.sp_value.proofs.PieceLists.{rest_ended, here, over, some_at}
use Rattle.sp_value.proofs.pieces.next_in.Goals as goal

pub returns-then-c-pieces : goal.returns-then-c-pieces
returns-then-c-pieces g c = rest_ended c.args.pieces.now c.args.at.now.piece c.args.at.now.item (omega arith)

pub returns-then-i-len : goal.returns-then-i-len
returns-then-i-len g c =
    let low : c.args.at.now.item < length c.deref.result.now.items = search rules in
    let l = subst (λ v. c.args.at.now.item < length v.items) (c.deref.ensures ∙ sym c.deref-then-i-len.ensures) low in
    here c.args.pieces.now c.args.at.now.piece c.args.at.now.item c.index-pieces-c.result c.deref-then-i-len.result.now c.index.result.now (omega arith) c.index-pieces-c.is c.deref-then-i-len.ensures l c.index.ensures

pub returns-then-c-pieces-2 : goal.returns-then-c-pieces-2
returns-then-c-pieces-2 g c =
    let l : length c.deref.result.now.items ≤ c.args.at.now.item = search rules in
    over c.args.pieces.now c.args.at.now.piece c.args.at.now.item c.index-pieces-c.result c.deref.result.now (omega arith) c.index-pieces-c.is c.deref.ensures l
    ∙ rest_ended c.args.pieces.now (c.args.at.now.piece + 1) 0 (omega arith)

pub index-requires-2 : goal.index-requires-2
index-requires-2 g c =
    let l : 0 < length c.deref-2.result.now.items = some_at c.args.pieces.now (c.args.at.now.piece + 1) c.index-pieces-c-2.result c.deref-2.result.now c.requires (omega arith) c.index-pieces-c-2.is c.deref-2.ensures in
    search rules

pub returns : goal.returns
returns g c =
    let l : length c.deref.result.now.items ≤ c.args.at.now.item = search rules in
    let m : 0 < length c.deref-2.result.now.items = some_at c.args.pieces.now (c.args.at.now.piece + 1) c.index-pieces-c-2.result c.deref-2.result.now c.requires (omega arith) c.index-pieces-c-2.is c.deref-2.ensures in
    over c.args.pieces.now c.args.at.now.piece c.args.at.now.item c.index-pieces-c.result c.deref.result.now (omega arith) c.index-pieces-c.is c.deref.ensures l
    ∙ here c.args.pieces.now (c.args.at.now.piece + 1) 0 c.index-pieces-c-2.result c.deref-2.result.now c.index-2.result.now (omega arith) c.index-pieces-c-2.is c.deref-2.ensures m c.index-2.ensures
