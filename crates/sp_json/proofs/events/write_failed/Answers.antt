use Rattle.std.proofs.Common.{[], ◌∷◌, ◌++◌, decimal, ap, ◌∙◌}
use Rattle.std.specs.Prelude.{codes}
use Rattle.std.proofs.lemmas.Result.{on_ok_weaker}
use Rattle.json.specs.Token.{key, string, number}
use Rattle.sp_base.specs.Kinds.{run_kind_name}
use Rattle.sp_json.specs.Lines.{path_text, text_member}
use Rattle.sp_json.specs.inside.Tokens.{object_rest}
use Rattle.sp_json.proofs.Written.{behind}
use Rattle.sp_json.proofs.events.write_failed.Goals as goal

pub returns-clause-tokens : goal.returns-clause-tokens
returns-clause-tokens c =
    let path = path_text c.args.at.flow.now c.args.at.numbers.now in
    on_ok_weaker c.write_error_text.result (λ e.
    behind c.args.out.now.tokens c.write_at.new.out.tokens c.write_error_text.new.out.tokens (key (codes "at") ∷ string path ∷ []) (key (codes "error") ∷ string (run_kind_name c.args.error.now.kind) ∷ [] ++ (key (codes "offset") ∷ number (decimal c.args.error.now.offset) ∷ [] ++ object_rest (text_member c.args.error.now.text))) c.in_ok-write_at.ensures.tokens
    (behind c.write_at.new.out.tokens c.write_text.new.out.tokens c.write_error_text.new.out.tokens (key (codes "error") ∷ string (run_kind_name c.args.error.now.kind) ∷ []) (key (codes "offset") ∷ number (decimal c.args.error.now.offset) ∷ [] ++ object_rest (text_member c.args.error.now.text)) (c.in_ok-write_text.ensures.tokens ∙ ap (λ xs. c.write_at.new.out.tokens ++ key (codes "error") ∷ string xs ∷ []) c.name.ensures)
    (behind c.write_text.new.out.tokens c.write_number.new.out.tokens c.write_error_text.new.out.tokens (key (codes "offset") ∷ number (decimal c.args.error.now.offset) ∷ []) (object_rest (text_member c.args.error.now.text)) c.in_ok-write_number.ensures.tokens
    e))) c.write_error_text.ensures.tokens
