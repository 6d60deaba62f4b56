use Rattle.std.proofs.Common.{List, [], ◌∙◌, subst, sym}
use Rattle.sp_code.specs.Programs.{stacks_from, opens_from, shapes_at}
use Rattle.sp_code.specs.declared.program.OpenRow.{OpenRow}
use Rattle.sp_code_programs.specs.exprs.Marked.{Shows}
use Rattle.sp_emit.specs.declared.emission.Emission.{Emission}
use Rattle.sp_emit.specs.inside.Fields.{marks_in}
use Rattle.sp_emit.specs.Emission.{IsEmission}
use Rattle.sp_emit.proofs.Finished.{finished}
use Rattle.sp_emit.proofs.emitter.Emitter.finish.Goals as goal

pub returns : goal.returns
returns c =
    let e = c.self.inside in
    let parts = c.in_ok-code.ensures in
    let all = finished e.kinds e.consts.items e.steps.items e.here c.in_ok-code.code.items c.in_ok-code.at.items c.self.invariant parts.0 parts.1 in
    let rows = c.into_rows-2.result.items in
    let x : Emission = record { code = c.in_ok-code.code; consts = c.new.result; kinds = c.into_rows.result; stacks = c.into_rows-2.result; opens = c.new-2.result; at = c.in_ok-code.at } in
    let shows = subst (λ (os : List OpenRow). Shows (shapes_at e.kinds (stacks_from [] rows) (opens_from e.kinds (stacks_from [] rows) [] os) c.in_ok-code.at.items) 0 (marks_in e.kinds e.here.stacks e.consts.items e.steps.items)) (sym c.new-2.ensures.items) (all.3 (stacks_from [] rows) c.into_rows-2.ensures) in
    subst (λ s. IsEmission s x) c.self.view_is (record { kinds = c.into_rows.ensures; counted = all.0; counted_shapes = all.1; code = λ p is consts. all.2 p is (consts ∙ c.new.ensures); shapes = shows })
