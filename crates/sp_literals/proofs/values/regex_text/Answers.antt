use Rattle.std.proofs.Common.{◌∙◌, sym, subst, ap}
use Rattle.std.specs.Str.{IsUtf8}
use Rattle.sp_lex.specs.Faults.{between}
use Rattle.sp_lex.specs.Readings.{token_at}
use Rattle.sp_lex.specs.declared.kinds.TokenKind.TheVariants as token
use Rattle.sp_lex.proofs.Valid.{regex_utf8}
use Rattle.sp_literals.proofs.values.regex_text.Goals as goal

pub text_of-requires : goal.text_of-requires
text_of-requires c =
    let lexed = c.args.tokens.now in
    subst IsUtf8 (sym (c.between.ensures ∙ ap between c.token_bytes.ensures.value)) (regex_utf8 lexed.text lexed.list c.are_of_their_text.ensures c.args.at (token_at token.Id 0 0) c.requires.inside c.requires.kind)
