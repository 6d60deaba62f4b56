use Rattle.std.proofs.Common.{true, [], ◌∷◌, ◌++◌}
use Rattle.std.specs.Prelude.{codes}
use Rattle.std.proofs.lemmas.Result.{on_ok_weaker}
use Rattle.json.specs.Token.{key, string, boolean, end_object}
use Rattle.sp_json.specs.Lines.{path_text}
use Rattle.sp_json.proofs.Written.{behind}
use Rattle.sp_json.proofs.events.write_forward_end.Goals as goal

pub returns-clause-tokens : goal.returns-clause-tokens
returns-clause-tokens c =
    let path = path_text c.args.at.flow.now c.args.at.numbers.now in
    on_ok_weaker c.end_object.result (λ e.
    behind c.args.out.now.tokens c.write_at.new.out.tokens c.end_object.new.self.tokens (key (codes "at") ∷ string path ∷ []) (key (codes "forward_eod") ∷ [] ++ (boolean true ∷ [] ++ end_object ∷ [])) c.in_ok-write_at.ensures.tokens
    (behind c.write_at.new.out.tokens c.key.new.self.tokens c.end_object.new.self.tokens (key (codes "forward_eod") ∷ []) (boolean true ∷ [] ++ end_object ∷ []) c.in_ok-key.ensures.ok
    (behind c.key.new.self.tokens c.boolean.new.self.tokens c.end_object.new.self.tokens (boolean true ∷ []) (end_object ∷ []) c.in_ok-boolean.ensures.ok
    e))) c.end_object.ensures.ok
