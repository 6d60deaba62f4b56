use Rattle.std.proofs.Common.{subst}
use Rattle.std.proofs.lemmas.Result.{on_ok_weaker}
use Rattle.sp_code.specs.Programs.{kind_at}
use Rattle.sp_code_programs.specs.units.Bodies.{body_code}
use Rattle.sp_emit.proofs.Growing.{kind_before}
use Rattle.sp_lower_expr.specs.Around.{globals_in, layout_in}
use Rattle.sp_lower_stmt.specs.Added.{AddsBody}
use Rattle.sp_lower_stmt.proofs.Sequels.{still_below, turn_adds}
use Rattle.sp_lower_stmt.proofs.bodies.routine.Goals as goal

pub body-requires-clause-kind : goal.body-requires-clause-kind
body-requires-clause-kind c = still_below _ _ c.args.frame.kind c.begin.ensures.kinds c.requires.kind

pub returns : goal.returns
returns c =
    let g = globals_in c.args.around.now in
    let l = layout_in c.args.around.now in
    let frame = c.args.frame in
    let b = c.args.s.now in
    let k = kind_at c.args.out.now.kinds frame.kind in
    let same = kind_before c.args.out.now.kinds c.begin.new.self.kinds frame.kind c.begin.ensures.kinds c.requires.kind in
    on_ok_weaker c.body.result
    (λ h. turn_adds (λ t n. body_code g l t n frame.ending k b) (λ t. t) c.begin.ensures (subst (λ j. AddsBody c.args.around.now c.begin.new.self c.body.new.out frame.ending j b) same h)) c.body.ensures
