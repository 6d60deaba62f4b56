use Rattle.sp_lex.proofs.Least.{looked_at_small, looked_at_whole}
use Rattle.sp_lex.proofs.lexer.looked_at.Goals as goal

pub returns-then-source-gt-MOST_BYTES-clause-small : goal.returns-then-source-gt-MOST_BYTES-clause-small
returns-then-source-gt-MOST_BYTES-clause-small c = looked_at_small c.args.source.now

pub returns-else-source-gt-MOST_BYTES-clause-value : goal.returns-else-source-gt-MOST_BYTES-clause-value
returns-else-source-gt-MOST_BYTES-clause-value c = looked_at_whole c.args.source.now c.if-source-gt-MOST_BYTES.false
