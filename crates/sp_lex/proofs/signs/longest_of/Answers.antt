use Rattle.std.proofs.Common.{◌∙◌, ◌≤◌, ℕ, List, Option, length, sym, subst}
use Rattle.std.specs.Prelude.{IfSome}
use Rattle.sp_lex.specs.Spellings.{spelling}
use Rattle.sp_lex.specs.declared.kinds.TokenKind.{TokenKind}
use Rattle.sp_lex.proofs.Firsts.{sign_taken, sign_passes}
use Rattle.sp_lex.proofs.signs.longest_of.Goals as goal
use Rattle.sp_lex.proofs.signs.longest_of.Goals.{then-firsts-n, else-firsts-n}

-- a text has room for what was found
abbrev Fits : List ℕ → Option TokenKind → Type 0
Fits text found = IfSome found (λ kind. length (spelling kind) ≤ length text)

pub loop-n-preserved : goal.loop-n-preserved
loop-n-preserved c =
    elim c.if-firsts-n.branch [
      | then-firsts-n w ↦ record {
        value = sign_taken c.args.text.now c.loop-n.found c.if-firsts-n.found c.args.kinds.now c.loop-n.n _ _ c.loop-n-test.true (w.found-is ∙ w.longer-found.ensures.value) c.loop-n.invariant.value;
        within = subst (Fits c.args.text.now) (sym w.found-is) (w.longer-found.ensures.within c.loop-n.invariant.within);
      }
      | else-firsts-n w ↦ record {
        value = sign_passes c.args.text.now c.args.firsts.now c.loop-n.found c.if-firsts-n.found c.args.kinds.now c.loop-n.n c.first_byte-first.result _ c.requires.firsts c.first_byte-first.ensures c.requires.spelled c.loop-n-test.true w.if-firsts-n.false w.found-is c.loop-n.invariant.value;
        within = subst (Fits c.args.text.now) (sym w.found-is) c.loop-n.invariant.within;
      }
    ]
