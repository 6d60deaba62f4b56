use Rattle.std.proofs.Common.{◌+◌, List, length, drop, sym, subst, ◌∙◌, arith}
use Rattle.sp_typed_units.specs.declared.declarations.Variable.{Variable}
use Rattle.sp_code_programs.specs.units.Units.{variables_code}
use Rattle.sp_emit.specs.Emitted.{Adds}
use Rattle.sp_lower_unit.specs.Values.{ValuesFit}
use Rattle.sp_lower_unit.proofs.Joined.{adds_none, next_item, none_left}
use Rattle.sp_lower_unit.proofs.Stored.{variables_next}
use Rattle.sp_lower_unit.proofs.variables.variables.Goals as goal

pub variable-requires : goal.variable-requires
variable-requires c =
    let next = next_item c.args.all.now c.loop-next.next-index c.next-item.result c.loop-next-test.true c.next-item.is in
    let fits = subst (λ (vs : List Variable). ValuesFit vs) next c.loop-next.invariant.fits in fits.0

pub loop-next-preserved : goal.loop-next-preserved
loop-next-preserved c =
    let list = c.args.list.now in
    let s = c.args.out.now.now in
    let i = c.loop-next.next-index in
    let v = c.next-item.result in
    let next = next_item c.args.all.now i v c.loop-next-test.true c.next-item.is in
    let fits = subst (λ (vs : List Variable). ValuesFit vs) next c.loop-next.invariant.fits in
    let h = c.in_ok-variable.ensures in
    record {
      fits = fits.1;
      here = h.now ∙ c.loop-next.invariant.here;
      code =
          λ x left. c.loop-next.invariant.code x
          (subst (λ (vs : List Variable). Adds c.loop-next.out x (variables_code list c.args.unit s (length c.loop-next.out.marks) vs) s) (sym next)
          (variables_next list c.loop-next.out _ x c.args.unit s v (drop (i + 1) c.args.all.now) c.loop-next.invariant.here h left));
    }

pub returns : goal.returns
returns c =
    let s = c.args.out.now.now in
    let out = c.loop-next.out in
    c.loop-next.invariant.code out
    (subst (λ (vs : List Variable). Adds out out (variables_code c.args.list.now c.args.unit s (length out.marks) vs) s) (sym (none_left c.args.all.now c.loop-next.next-index (omega arith)))
    (adds_none out s c.loop-next.invariant.here))
