use Rattle.std.proofs.Common.{[], ◌∷◌, decimal}
use Rattle.std.proofs.lemmas.Result.{on_ok_weaker}
use Rattle.json.specs.Token.{key, number}
use Rattle.sp_json.proofs.Written.{behind}
use Rattle.sp_json.proofs.events.write_number.Goals as goal

pub returns-clause-tokens : goal.returns-clause-tokens
returns-clause-tokens c =
    on_ok_weaker c.u64.result (λ e.
    behind c.args.out.now.tokens c.key.new.self.tokens c.u64.new.self.tokens (key c.args.name.now ∷ []) (number (decimal c.args.n) ∷ []) c.in_ok-key.ensures.ok
    e) c.u64.ensures.ok
