use Rattle.std.proofs.Common.{[], ◌∷◌}
use Rattle.std.proofs.lemmas.Result.{on_ok_weaker}
use Rattle.sp_meaning_states.specs.Types.{kind_of_type}
use Rattle.sp_code.specs.declared.instr.Instr.TheVariants as does
use Rattle.sp_code.specs.Shapes.{push}
use Rattle.sp_code_programs.specs.exprs.Marked.{mark}
use Rattle.sp_code_programs.specs.exprs.Code.{kind_of}
use Rattle.sp_emit.proofs.Adding.{adds_then, adds_turn}
use Rattle.sp_lower_expr.specs.Around.{globals_in, layout_in}
use Rattle.sp_lower_expr.proofs.places.load_item.Goals as goal

pub returns : goal.returns
returns c =
    let u = c.args.out.now.now in
    let j = kind_of (globals_in c.args.around.now) (layout_in c.args.around.now) c.args.a.now in
    let k = kind_of (globals_in c.args.around.now) (layout_in c.args.around.now) c.args.b.now in
    let keys = adds_turn (λ t. push k (push j t)) c.in_ok-emit.ensures c.in_ok-push_values.ensures in
    let item = adds_then (λ t n. mark (push k (push j u)) does.Index ∷ []) (λ t. u) keys (c.in_ok-both.ensures u j k keys.now) in
    on_ok_weaker c.push_type.result (adds_turn (push (kind_of_type (globals_in c.args.around.now).ranges c.args.head.now.ty)) item) c.push_type.ensures
