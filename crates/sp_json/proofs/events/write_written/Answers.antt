use Rattle.std.proofs.Common.{[], ◌∷◌, ◌++◌, decimal, ap, ◌∙◌}
use Rattle.std.specs.Prelude.{codes}
use Rattle.std.proofs.lemmas.Result.{on_ok_weaker}
use Rattle.json.specs.Token.{key, string, number, end_object}
use Rattle.sp_json.specs.Values.{bytes_json}
use Rattle.sp_json.specs.Lines.{path_text}
use Rattle.sp_json.specs.inside.Tokens.{value_tokens}
use Rattle.sp_json.proofs.Written.{behind}
use Rattle.sp_json.proofs.events.write_written.Goals as goal

pub returns-clause-tokens : goal.returns-clause-tokens
returns-clause-tokens c =
    let path = path_text c.args.at.flow.now c.args.at.numbers.now in
    on_ok_weaker c.end_object.result (λ e.
    behind c.args.out.now.tokens c.write_at.new.out.tokens c.end_object.new.self.tokens (key (codes "at") ∷ string path ∷ []) (key (codes "seq") ∷ number (decimal c.args.seq) ∷ [] ++ (key (codes "sink") ∷ string c.args.sink.now ∷ [] ++ (key (codes "write") ∷ [] ++ (value_tokens (bytes_json c.args.bytes.now) ++ end_object ∷ [])))) c.in_ok-write_at.ensures.tokens
    (behind c.write_at.new.out.tokens c.write_number.new.out.tokens c.end_object.new.self.tokens (key (codes "seq") ∷ number (decimal c.args.seq) ∷ []) (key (codes "sink") ∷ string c.args.sink.now ∷ [] ++ (key (codes "write") ∷ [] ++ (value_tokens (bytes_json c.args.bytes.now) ++ end_object ∷ []))) c.in_ok-write_number.ensures.tokens
    (behind c.write_number.new.out.tokens c.write_text.new.out.tokens c.end_object.new.self.tokens (key (codes "sink") ∷ string c.args.sink.now ∷ []) (key (codes "write") ∷ [] ++ (value_tokens (bytes_json c.args.bytes.now) ++ end_object ∷ [])) (c.in_ok-write_text.ensures.tokens ∙ ap (λ xs. c.write_number.new.out.tokens ++ key (codes "sink") ∷ string xs ∷ []) c.as_str.ensures)
    (behind c.write_text.new.out.tokens c.key.new.self.tokens c.end_object.new.self.tokens (key (codes "write") ∷ []) (value_tokens (bytes_json c.args.bytes.now) ++ end_object ∷ []) c.in_ok-key.ensures.ok
    (behind c.key.new.self.tokens c.write_bytes.new.out.tokens c.end_object.new.self.tokens (value_tokens (bytes_json c.args.bytes.now)) (end_object ∷ []) (c.in_ok-write_bytes.ensures.tokens ∙ ap (λ xs. c.key.new.self.tokens ++ value_tokens (bytes_json xs)) c.as_slice.ensures)
    e))))) c.end_object.ensures.ok
