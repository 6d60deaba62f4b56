use Rattle.std.proofs.Common.{◌≡◌, ◌++◌, [], ◌∷◌, sym, subst, rules}
use Rattle.std.specs.Prelude.{OnOk}
use Rattle.std.specs.Fmt.{signed_decimal}
use Rattle.json.specs.Token.{number}
use Rattle.sp_json.proofs.Written.{integer_text}
use Rattle.sp_json.proofs.trees.write_integer.Goals as goal

pub returns-clause-tokens : goal.returns-clause-tokens
returns-clause-tokens c =
    let written : OnOk c.i64.result (c.i64.new.self.tokens ≡ c.args.out.now.tokens ++ number (signed_decimal c.args.n) ∷ []) = search rules in
    subst (λ s. OnOk c.i64.result (c.i64.new.self.tokens ≡ c.args.out.now.tokens ++ number s ∷ [])) (sym (integer_text c.args.n)) written
