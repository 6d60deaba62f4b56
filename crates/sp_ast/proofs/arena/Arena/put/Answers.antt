use Rattle.std.proofs.Common.{◌∙◌, length, ap, arith}
use Rattle.std.proofs.lemmas.Result.{err_from_is_err_and}
use Rattle.sp_ast.proofs.Growth.{later, later_trees, put_next, length_trees, IsNext}
use Rattle.sp_ast.proofs.arena.Arena.put.Goals as goal

pub invariant_of-self-in_err-head : goal.invariant_of-self-in_err-head
invariant_of-self-in_err-head c =
    let a = c.self.inside in
    later a.heads _ a.places.items _ c.args.parts.now a.entries.items c.keep.ensures.stay c.in-Ok-or_drop.ensures.items c.self.invariant

pub returns-in_err-head-clause-err : goal.returns-in_err-head-clause-err
returns-in_err-head-clause-err c =
    let a = c.self.inside in
    let p = err_from_is_err_and c.from_residual.result c.from_residual.ensures.1 in
    rw p.1 (later_trees a.heads _ a.places.items _ c.args.parts.now a.entries.items c.keep.ensures.stay c.in-Ok-or_drop.ensures.items c.self.invariant ∙ c.self.view_is)

pub invariant_of-self-in_err-push : goal.invariant_of-self-in_err-push
invariant_of-self-in_err-push c =
    let a = c.self.inside in
    rw c.in_err-push.ensures.items (later a.heads _ a.places.items _ c.args.parts.now a.entries.items c.keep.ensures.stay c.in-Ok-or_drop.ensures.items c.self.invariant)

pub returns-in_err-push-clause-err : goal.returns-in_err-push-clause-err
returns-in_err-push-clause-err c =
    let a = c.self.inside in
    let p = err_from_is_err_and c.from_residual-in_err-push.result c.from_residual-in_err-push.ensures.1 in
    rw (p.1, c.in_err-push.ensures.items) (later_trees a.heads _ a.places.items _ c.args.parts.now a.entries.items c.keep.ensures.stay c.in-Ok-or_drop.ensures.items c.self.invariant ∙ c.self.view_is)

next : (c : goal.In_ok-push) → IsNext c.keep.new.self c.self.inside.places.items c.args.parts.now c.args.self.now record { head = c.in_ok-head.head; from = c.in-Ok.from; count = c.in-Ok-try_from.count; span = c.args.span; levels = c.args.levels } c.args.head
next c = record {
  head = c.in_ok-head.ensures.at.0;
  root = c.in_ok-head.ensures.at.1;
  from = omega (arith, c.in-Ok.ensures.1, c.len.ensures, c.self.inside.places.ok.0);
  count = c.in-Ok-try_from.ensures.1;
  before = c.requires.places;
  levels = c.requires.levels;
  low = c.requires.low;
  formed = c.requires.formed;
}

pub invariant_of-self-2 : goal.invariant_of-self-2
invariant_of-self-2 c =
    let a = c.self.inside in
    (put_next a.heads c.keep.new.self a.places.items c.extend_from_slice.new.self.items c.args.parts.now a.entries.items c.push.new.self.items c.args.self.now _ c.args.head c.self.view_is c.keep.ensures.stay c.in-Ok-or_drop.ensures.items c.in_ok-push.ensures.items c.self.invariant (next c) (omega (arith, c.if-at-ge-NO_PARTS.false, c.count-at.ensures, ap length c.self.view_is, length_trees a.heads a.places.items a.entries.items))).0

pub returns-2-clause-ok : goal.returns-2-clause-ok
returns-2-clause-ok c =
    let a = c.self.inside in
    (c.count-at.ensures, omega (arith, c.if-at-ge-NO_PARTS.false), (put_next a.heads c.keep.new.self a.places.items c.extend_from_slice.new.self.items c.args.parts.now a.entries.items c.push.new.self.items c.args.self.now _ c.args.head c.self.view_is c.keep.ensures.stay c.in-Ok-or_drop.ensures.items c.in_ok-push.ensures.items c.self.invariant (next c) (omega (arith, c.if-at-ge-NO_PARTS.false, c.count-at.ensures, ap length c.self.view_is, length_trees a.heads a.places.items a.entries.items))).1)
