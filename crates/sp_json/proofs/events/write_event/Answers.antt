use Rattle.std.proofs.Common.{[], ◌∷◌, ◌++◌, ap, ◌∙◌}
use Rattle.std.proofs.lemmas.Result.{on_ok_weaker}
use Rattle.json.specs.Token.{begin_object}
use Rattle.sp_json.specs.Lines.{path_text, members_of}
use Rattle.sp_json.specs.inside.Tokens.{object_rest}
use Rattle.sp_json.proofs.Written.{behind}
use Rattle.sp_json.proofs.events.write_event.Goals as goal

pub returns-clause-tokens : goal.returns-clause-tokens
returns-clause-tokens c =
    let event = c.args.event.now in
    let begun = c.begin_object.new.self.tokens in
    on_ok_weaker c.write_members.result (λ e.
    behind c.args.out.now.tokens begun c.write_members.new.out.tokens (begin_object ∷ []) (object_rest (members_of (path_text c.args.flow.now event.at) event.what)) c.in_ok-begin_object.ensures.ok
    (e ∙ ap (λ ns. begun ++ object_rest (members_of (path_text c.args.flow.now ns) event.what)) c.numbers-numbers.ensures)) c.write_members.ensures.tokens
