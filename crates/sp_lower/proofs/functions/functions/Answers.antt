use Rattle.std.proofs.Common.{◌+◌, List, drop, subst, ap, arith}
use Rattle.std.specs.List.{AllByRecursion}
use Rattle.sp_typed_units.specs.declared.declarations.Function.{Function}
use Rattle.sp_meaning.specs.Globals.{globals_of}
use Rattle.sp_code_programs.specs.programs.Routines.{function_routine, function_routines}
use Rattle.sp_lower_tables.proofs.Numbered.{next_item, none_left}
use Rattle.sp_lower.specs.Literals.{FunctionFits}
use Rattle.sp_lower.proofs.Laid.{leads_on, leads_to}
use Rattle.sp_lower.proofs.functions.functions.Goals as goal

pub function-requires : goal.function-requires
function-requires c =
    let next = next_item c.args.all.now c.loop-x.x-index c.x-item.result c.loop-x-test.true c.x-item.is in
    let fits = subst (λ (l : List Function). AllByRecursion FunctionFits l) next c.loop-x.invariant.fits in fits.0

pub loop-x-preserved : goal.loop-x-preserved
loop-x-preserved c =
    let g = globals_of c.args.list.now in
    let i = c.loop-x.x-index in
    let x = c.x-item.result in
    let rest = drop (i + 1) c.args.all.now in
    let next = next_item c.args.all.now i x c.loop-x-test.true c.x-item.is in
    let fits = subst (λ (l : List Function). AllByRecursion FunctionFits l) next c.loop-x.invariant.fits in
    record {
      fits = fits.1;
      laid =
          leads_on g c.args.out.now c.loop-x.out _ c.args.bodies.now c.loop-x.bodies _ (function_routines g c.args.all.now) (function_routines g (drop i c.args.all.now)) (function_routines g rest) (function_routine g x)
          (ap (λ (l : List Function). function_routines g l) next) c.loop-x.invariant.laid c.in_ok-function.ensures;
    }

pub returns : goal.returns
returns c =
    let g = globals_of c.args.list.now in
    let i = c.loop-x.x-index in
    leads_to g c.args.out.now c.loop-x.out c.args.bodies.now c.loop-x.bodies (function_routines g c.args.all.now) (function_routines g (drop i c.args.all.now))
    (ap (λ (l : List Function). function_routines g l) (none_left c.args.all.now i (omega arith))) c.loop-x.invariant.laid
