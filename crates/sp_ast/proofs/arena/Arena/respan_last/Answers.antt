use Rattle.std.proofs.Common.{◌∙◌, arith}
use Rattle.sp_ast.proofs.Growth.{respan_at}
use Rattle.sp_ast.proofs.arena.Arena.respan_last.Goals as goal

pub invariant_of-self : goal.invariant_of-self
invariant_of-self c =
    let a = c.self.inside in
    (respan_at a.heads a.places.items a.entries.items _ c.args.span c.index_mut.result.now c.self.invariant (omega (arith, c.if-count-gt0.true, c.len-count.ensures, a.entries.ok.0)) c.index_mut.ensures.value).0

pub returns-then-count-gt0 : goal.returns-then-count-gt0
returns-then-count-gt0 c =
    let a = c.self.inside in
    λ ts t q. (respan_at a.heads a.places.items a.entries.items _ c.args.span c.index_mut.result.now c.self.invariant (omega (arith, c.if-count-gt0.true, c.len-count.ensures, a.entries.ok.0)) c.index_mut.ensures.value).1 ts t (c.self.view_is ∙ q)
