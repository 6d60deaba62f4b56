use Rattle.std.proofs.Common.{sym, subst}
use Rattle.sp_lex.proofs.Least.{right_tokens}
use Rattle.sp_lex.specs.Lexed.{IsLexed}
use Rattle.sp_lex.proofs.lexer.lexed.Goals as goal

pub new-requires : goal.new-requires
new-requires c =
    let scanned = c.in-Ok.ensures in
    subst (λ text. IsLexed text c.in-Ok.list) (sym c.in_ok-from_slice-in-Ok.ensures)
    (record {
      read = scanned.tokens;
      longest = scanned.longest;
      texts = scanned.texts;
      right = right_tokens c.args.text.now c.in-Ok.list scanned.tokens scanned.right;
      order = scanned.order;
      small = c.requires.small;
      utf8 = c.requires.utf8;
      no_zero = c.requires.no_zero;
    })
