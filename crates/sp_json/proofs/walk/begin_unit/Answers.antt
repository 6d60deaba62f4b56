use Rattle.std.proofs.lemmas.Result.{on_ok_weaker}
use Rattle.json.specs.Token.{begin_object, end_object}
use Rattle.serde_json.specs.Data.{no_members}
use Rattle.sp_events.specs.Tree.{fields_of}
use Rattle.sp_json.specs.Values.{with_fields}
use Rattle.sp_json.specs.inside.Writing.{unit_tokens, pending}
use Rattle.sp_json.proofs.Pushes.{pushed, begun, members_rest}
use Rattle.sp_json.proofs.walk.begin_unit.Goals as goal

pub returns-clause-tokens : goal.returns-clause-tokens
returns-clause-tokens c =
    on_ok_weaker c.push_unit.result (λ e. begun begin_object end_object _ (unit_tokens c.args.fields.now) c.args.out.now.tokens c.begin_object.new.self.tokens (pending c.push_unit.new.tasks.items) (pending c.push.new.self.items) (pending c.args.tasks.now.items)
    (members_rest (with_fields (fields_of c.args.fields.now) no_members)) c.in_ok-begin_object.ensures.ok (pushed c.args.tasks.now.items _ c.in_ok-push.ensures.items) e) c.push_unit.ensures.tokens
