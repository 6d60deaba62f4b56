use Rattle.std.proofs.Common.{sym, subst}
use Rattle.sp_base.specs.declared.kinds.MKind.{MKind}
use Rattle.sp_base.specs.declared.places.Span.{Span}
use Rattle.sp_lex.proofs.Least.{goes_before-trans}
use Rattle.sp_lex.specs.Faults.{IsReadingFault, GoesBefore, OnDiag}
use Rattle.sp_lex.specs.Nesting.{outermost}
use Rattle.sp_lex.specs.Readings.{reading}
use Rattle.sp_lex.specs.declared.tokens.ReadFault.{ReadFault}
use Rattle.sp_lex.proofs.lexer.refused.Goals as goal
use Rattle.sp_lex.proofs.lexer.refused.Goals.{in-Ok, in-Err-Diag, in-Err-NoMemory}

pub returns-clause-before_all : goal.returns-clause-before_all
returns-clause-before_all c =
    let text = c.args.seen.now in
    let Before : ReadFault → Type 0 = OnDiag (λ span kind. (other : Span) (k : MKind) → IsReadingFault text outermost (reading text) other k → GoesBefore span kind other k) in
    elim c.match-scan.branch [
      | in-Ok w ↦ subst Before (sym w.result-is) (λ other k fault. absurd (w.in-Ok.ensures.right other k fault))
      | in-Err-Diag w ↦ subst Before (sym w.result-is) (λ other k fault. goes_before-trans w.earlier-least.result.span w.earlier-least.result.kind w.in-Err-Diag.span w.in-Err-Diag.kind other k w.earlier-least.ensures.before_second ((subst Before w.in-Err-Diag.field-0-is w.in-Err-Diag.ensures.least) other k fault))
      | in-Err-NoMemory w ↦ subst Before (sym w.result-is) tt
    ]
