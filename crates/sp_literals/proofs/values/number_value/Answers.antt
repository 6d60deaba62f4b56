use Rattle.std.proofs.Common.{◌^◌, ◌≤◌, subst}
use Rattle.std.specs.Prelude.{IfNone}
use Rattle.sp_lex.specs.Faults.{IsRight}
use Rattle.sp_lex.specs.Literals.{number_value}
use Rattle.sp_lex.specs.Readings.{token_at}
use Rattle.sp_lex.specs.declared.kinds.TokenKind.TheVariants as token
use Rattle.sp_lex.proofs.Standing.{of_each}
use Rattle.sp_literals.specs.Values.{kind_at, bytes_at}
use Rattle.sp_literals.proofs.Fits.{number_fits}
use Rattle.sp_literals.proofs.values.number_value.Goals as goal

pub unwrap-requires : goal.unwrap-requires
unwrap-requires c =
    let lexed = c.args.tokens.now in
    number_fits c.number_of.result (kind_at lexed c.args.at) (bytes_at lexed c.args.at) c.requires.kind
    (of_each (IsRight lexed.text) lexed.list c.args.at (token_at token.Id 0 0) c.requires.inside c.are_of_their_text.ensures.right)
    (subst (λ bytes. IfNone c.number_of.result (2 ^ 64 ≤ number_value bytes)) c.token_bytes.ensures.value c.number_of.ensures.none)
