use Rattle.std.proofs.Common.{[], ◌∷◌}
use Rattle.std.proofs.lemmas.Result.{on_ok_weaker}
use Rattle.json.specs.Token.{key, string}
use Rattle.sp_json.proofs.Written.{behind}
use Rattle.sp_json.proofs.events.write_text.Goals as goal

pub returns-clause-tokens : goal.returns-clause-tokens
returns-clause-tokens c =
    on_ok_weaker c.string.result (λ e.
    behind c.args.out.now.tokens c.key.new.self.tokens c.string.new.self.tokens (key c.args.name.now ∷ []) (string c.args.text.now ∷ []) c.in_ok-key.ensures.ok
    e) c.string.ensures.ok
