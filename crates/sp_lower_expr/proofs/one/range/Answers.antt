use Rattle.std.proofs.Common.{[], ◌∷◌}
use Rattle.std.proofs.lemmas.Result.{on_ok_weaker}
use Rattle.sp_methods.specs.Kinds.{Unsigned}
use Rattle.sp_meaning_states.specs.Types.{plain_type}
use Rattle.sp_code.specs.declared.instr.Instr.TheVariants.{Cast}
use Rattle.sp_code.specs.Shapes.{push}
use Rattle.sp_code_programs.specs.exprs.Marked.{mark}
use Rattle.sp_emit.proofs.Adding.{adds_then}
use Rattle.sp_lower_expr.proofs.one.range.Goals as goal

pub returns : goal.returns
returns c =
    λ s k begin. on_ok_weaker c.as_integer.result (adds_then (λ t n. mark (push Unsigned t) (Cast (plain_type c.args.ty.now)) ∷ []) (λ t. t) (c.in_ok-item.ensures s k begin)) c.as_integer.ensures
