use Rattle.std.proofs.Common.{sym, subst, IfOk}
use Rattle.sp_methods.specs.Kinds.{Kind}
use Rattle.sp_emit.specs.Kinds.{IsNumberOf}
use Rattle.sp_emit.proofs.Parts.{part_number, no_part}
use Rattle.sp_emit.proofs.kinds.KindTable.part.Goals as goal

pub returns-then-i-parts-clause-number : goal.returns-then-i-parts-clause-number
returns-then-i-parts-clause-number c = part_number c.args.self.now c.args.parts.now c.args.i c.if-i-parts.true c.requires

pub returns-else-i-parts-clause-number : goal.returns-else-i-parts-clause-number
returns-else-i-parts-clause-number c =
    subst (λ (k : Kind). IfOk c.row.result (IsNumberOf c.row.new.self k)) (sym (no_part c.args.self.now c.args.parts.now c.args.i c.if-i-parts.false)) c.row.ensures.number
