use Rattle.std.proofs.Common.{sym, subst}
use Rattle.std.specs.Str.{IsUtf8}
use Rattle.sp_lex.specs.Readings.{token_at}
use Rattle.sp_lex.specs.declared.kinds.TokenKind.TheVariants as token
use Rattle.sp_lex.proofs.Valid.{name_utf8}
use Rattle.sp_literals.proofs.values.name_text.Goals as goal

pub text_of-requires : goal.text_of-requires
text_of-requires c =
    let lexed = c.args.tokens.now in
    subst IsUtf8 (sym c.token_bytes.ensures.value) (name_utf8 lexed.text lexed.list c.are_of_their_text.ensures c.args.at (token_at token.Id 0 0) c.requires.inside c.requires.kind)
