use Rattle.std.proofs.Common.{◌≡◌, ◌<◌, ◌+◌, ℕ, suc, List, ◌∷◌, drop, length, subst, ap, ◌∙◌, arith}
use Rattle.std.specs.List.{AllByRecursion}
use Rattle.sp_typed_units.specs.declared.declarations.Hook.{Hook}
use Rattle.sp_meaning.specs.Globals.{globals_of}
use Rattle.sp_code_programs.specs.programs.Routines.{hook_routine}
use Rattle.sp_meaning.specs.Names.{hook_name}
use Rattle.sp_code_programs.specs.programs.Currents.{current_kind}
use Rattle.sp_lower_tables.proofs.Numbered.{next_item, none_left}
use Rattle.sp_lower.specs.Literals.{HookFits}
use Rattle.sp_lower.specs.inside.Laid.{named_routines}
use Rattle.sp_lower.proofs.Laid.{leads_on, leads_to}
use Rattle.sp_lower.proofs.hooks.hooks.Goals as goal

pub hook-requires-clause-number : goal.hook-requires-clause-number
hook-requires-clause-number c = subst (λ (l : List Hook). c.loop-body.body < length l) c.requires.all c.loop-body-test.true

pub hook-requires-clause-literals : goal.hook-requires-clause-literals
hook-requires-clause-literals c =
    let next = next_item c.args.all.now c.loop-body.body c.index-all-body.result c.loop-body-test.true c.index-all-body.is in
    let fits = subst (λ (l : List Hook). AllByRecursion HookFits l) next c.loop-body.invariant.fits in fits.0

pub loop-body-preserved : goal.loop-body-preserved
loop-body-preserved c =
    let list = c.args.fields.now.list.now in
    let g = globals_of list in
    let i = c.loop-body.body in
    let x = c.index-all-body.result in
    let all = c.args.all.now in
    let rest = drop (i + 1) all in
    let next = next_item all i x c.loop-body-test.true c.index-all-body.is in
    let fits = subst (λ (l : List Hook). AllByRecursion HookFits l) next c.loop-body.invariant.fits in
    let one : suc i ≡ i + 1 = omega arith in
    let r = hook_routine g (hook_name list.units x.of) (current_kind g.ranges list.units i x) x in
    record {
      fits = fits.1;
      laid =
          leads_on g c.args.out.now c.loop-body.out _ c.args.bodies.now c.loop-body.bodies _ (named_routines list 0 all) (named_routines list i (drop i all)) (named_routines list (i + 1) rest) r
          (ap (λ (l : List Hook). named_routines list i l) next ∙ ap (λ (n : ℕ). r ∷ named_routines list n rest) one) c.loop-body.invariant.laid c.in_ok-hook.ensures;
    }

pub returns : goal.returns
returns c =
    let list = c.args.fields.now.list.now in
    let all = c.args.all.now in
    let i = c.loop-body.body in
    leads_to (globals_of list) c.args.out.now c.loop-body.out c.args.bodies.now c.loop-body.bodies (named_routines list 0 all) (named_routines list i (drop i all))
    (ap (λ (l : List Hook). named_routines list i l) (none_left all i (omega arith))) c.loop-body.invariant.laid
