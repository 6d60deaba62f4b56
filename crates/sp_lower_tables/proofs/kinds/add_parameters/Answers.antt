use Rattle.std.proofs.Common.{drop, refl, arith}
use Rattle.sp_meaning_states.specs.Types.{kind_of_type}
use Rattle.sp_meaning.specs.Globals.{globals_of}
use Rattle.sp_code_programs.specs.programs.Routines.{parameter_kinds}
use Rattle.sp_lower_tables.proofs.Numbered.{next_item, none_left, leads_on, leads_to}
use Rattle.sp_lower_tables.proofs.kinds.add_parameters.Goals as goal

pub loop-parameter-preserved : goal.loop-parameter-preserved
loop-parameter-preserved c =
    let ranges = (globals_of c.args.list.now).ranges in
    let all = c.args.parameters.now in
    let i = c.loop-parameter.parameter-index in
    let next = next_item all i c.parameter-item.result c.loop-parameter-test.true c.parameter-item.is in
    leads_on (parameter_kinds ranges) (λ x. kind_of_type ranges x.ty) (λ x rest. refl) c.args.out.now c.loop-parameter.out _ c.args.numbers.now.items c.loop-parameter.numbers.items _ all i c.parameter-item.result next c.loop-parameter.invariant c.in_ok-add_type.ensures

pub returns : goal.returns
returns c =
    let all = c.args.parameters.now in
    let i = c.loop-parameter.parameter-index in
    leads_to (parameter_kinds (globals_of c.args.list.now).ranges) c.args.out.now c.loop-parameter.out c.args.numbers.now.items c.loop-parameter.numbers.items all (drop i all) refl (none_left all i (omega arith)) c.loop-parameter.invariant
