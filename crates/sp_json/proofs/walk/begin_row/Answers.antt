use Rattle.std.proofs.lemmas.Result.{on_ok_weaker}
use Rattle.json.specs.Token.{begin_array, end_array}
use Rattle.sp_json.specs.inside.Writing.{tree_tokens, each_tokens, pending}
use Rattle.sp_json.proofs.Pushes.{pushed, begun, trees_rest}
use Rattle.sp_json.proofs.walk.begin_row.Goals as goal

pub returns-clause-tokens : goal.returns-clause-tokens
returns-clause-tokens c =
    on_ok_weaker c.push_trees.result (λ e. begun begin_array end_array _ (each_tokens tree_tokens c.args.trees.now) c.args.out.now.tokens c.begin_array.new.self.tokens (pending c.push_trees.new.tasks.items) (pending c.push.new.self.items) (pending c.args.tasks.now.items)
    (trees_rest c.args.trees.now) c.in_ok-begin_array.ensures.ok (pushed c.args.tasks.now.items _ c.in_ok-push.ensures.items) e) c.push_trees.ensures.tokens
