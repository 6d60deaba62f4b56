use Rattle.std.proofs.Common.{◌∙◌, sym, subst, ap}
use Rattle.std.specs.Str.{IsUtf8}
use Rattle.sp_lex.specs.Faults.{between}
use Rattle.sp_lex.specs.Readings.{token_at}
use Rattle.sp_lex.specs.declared.kinds.TokenKind.TheVariants as token
use Rattle.sp_lex.proofs.Valid.{string_utf8, string_characters}
use Rattle.sp_literals.specs.Values.{bytes_at, decoded}
use Rattle.sp_literals.proofs.Utf8.{decoded_utf8}
use Rattle.sp_literals.proofs.values.string_value.Goals as goal

pub text_of-requires : goal.text_of-requires
text_of-requires c =
    let lexed = c.args.tokens.now in
    let default = token_at token.Id 0 0 in
    let inside = between (bytes_at lexed c.args.at) in
    let utf8 = string_utf8 lexed.text lexed.list c.are_of_their_text.ensures c.args.at default c.requires.inside c.requires.kind in
    let chars = string_characters lexed.text lexed.list c.are_of_their_text.ensures c.args.at default c.requires.inside c.requires.kind in
    subst IsUtf8 (sym (c.as_slice.ensures ∙ c.in_ok-value.ensures ∙ ap decoded (c.between.ensures ∙ ap between c.token_bytes.ensures.value))) (decoded_utf8 inside utf8 chars)
