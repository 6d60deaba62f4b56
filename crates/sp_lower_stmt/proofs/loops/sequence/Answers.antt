use Rattle.std.proofs.Common.{[], ◌∷◌}
use Rattle.std.proofs.lemmas.Result.{on_ok_weaker}
use Rattle.sp_methods.specs.Kinds.{Unsigned}
use Rattle.sp_code.specs.declared.instr.Instr.TheVariants as does
use Rattle.sp_code.specs.Shapes.{push}
use Rattle.sp_code_programs.specs.exprs.Marked.{mark}
use Rattle.sp_emit.proofs.Adding.{adds_then, adds_turn}
use Rattle.sp_lower_stmt.proofs.loops.sequence.Goals as goal

pub returns : goal.returns
returns c =
    let started = adds_then (λ t n. mark t does.EachStart ∷ []) (λ t. t) c.in_ok-expr.ensures c.in_ok-emit.ensures in
    on_ok_weaker c.push_row.result (adds_turn (push Unsigned) started) c.push_row.ensures
