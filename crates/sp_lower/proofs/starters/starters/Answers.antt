use Rattle.std.proofs.Common.{◌+◌, ℕ, [], None, drop, ap, subst, ◌∙◌, arith}
use Rattle.sp_methods.specs.Kinds.{UnitOf}
use Rattle.sp_code.specs.Shapes.{OfFunction, push, body_shape}
use Rattle.sp_code_programs.specs.units.Units.{starter_code}
use Rattle.sp_emit.specs.Emitted.{Adds}
use Rattle.sp_lower_tables.proofs.Numbered.{next_item, none_left}
use Rattle.sp_lower.proofs.Counted.{starters_on, starters_to}
use Rattle.sp_lower.proofs.starters.starters.Goals as goal

pub loop-i-preserved : goal.loop-i-preserved
loop-i-preserved c =
    let list = c.args.list.now in
    let i = c.loop-i.i in
    let x = c.index-all-i.result in
    let all = c.args.all.now in
    let next = next_item all i x c.loop-i-test.true c.index-all-i.is in
    let one = subst (λ (n : ℕ). Adds c.loop-i.out c.starter.new.out (starter_code list n x) (push (UnitOf n) (body_shape None (OfFunction (UnitOf n)) []))) c.loop-i.invariant.number c.in_ok-starter.ensures in
    record {
      number = c.in_ok-next.ensures ∙ ap (λ (n : ℕ). n + 1) c.loop-i.invariant.number;
      added = starters_on list c.args.out.now c.loop-i.out _ all (drop i all) (drop (i + 1) all) i x _ next c.loop-i.invariant.added one;
    }

pub returns : goal.returns
returns c =
    let all = c.args.all.now in
    let i = c.loop-i.i in
    starters_to c.args.list.now c.args.out.now c.loop-i.out all (drop i all) i (none_left all i (omega arith)) c.loop-i.invariant.added
