use Rattle.std.proofs.Common.{◌≡◌, ap}
use Rattle.std.proofs.lemmas.Result.{err_from_is_err_and}
use Rattle.sp_lex.specs.Readings.{token_at}
use Rattle.sp_lex.specs.declared.tokens.Token.{Token}
use Rattle.sp_lex.proofs.Takes.{token_least, token_taken}
use Rattle.sp_lex.proofs.scanner.Progress.take.Goals as goal

pub returns-in_err-pass-clause-least : goal.returns-in_err-pass-clause-least
returns-in_err-pass-clause-least c =
    let p = err_from_is_err_and c.from_residual.result c.from_residual.ensures.1 in
    let token : Token = record { kind = c.args.kind; span = c.span_of.result } in
    let same : token ≡ token_at c.args.kind c.args.self.now.at c.args.n = ap (λ s. record { kind = c.args.kind; span = s }) c.span_of.ensures in
    let asked = c.requires in
    rw (p.1, p.2) (token_least c.args.text.now c.args.self.now.at c.args.self.now.divides c.args.self.now.nesting c.args.self.now.tokens c.args.kind c.args.n asked.scanned asked.inside asked.stands asked.some asked.within token same c.in_err-pass.field-0.0 c.in_err-pass.ensures.place c.in_err-pass.ensures.least)

pub returns-clause-scanned : goal.returns-clause-scanned
returns-clause-scanned c =
    let token : Token = record { kind = c.args.kind; span = c.span_of.result } in
    let same : token ≡ token_at c.args.kind c.args.self.now.at c.args.n = ap (λ s. record { kind = c.args.kind; span = s }) c.span_of.ensures in
    let asked = c.requires in
    let passed = c.in_ok-pass.ensures in
    token_taken c.args.text.now c.args.self.now.at c.args.self.now.divides c.args.self.now.nesting c.args.self.now.tokens c.args.kind c.args.n asked.scanned asked.inside asked.stands asked.some asked.within token same passed.right passed.low c.ends_operand-self.result c.ends_operand-self.ensures c.pass.new.nesting passed.behind c.push.new.self c.in_ok-push.ensures.ok
