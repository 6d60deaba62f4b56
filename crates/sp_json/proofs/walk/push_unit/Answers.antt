use Rattle.std.proofs.Common.{◌+◌, ◌++◌, sym, ap, ◌∙◌, arith}
use Rattle.std.proofs.lemmas.Result.{on_ok_weaker}
use Rattle.sp_events.specs.TreeSizes.{tree_size}
use Rattle.sp_json.specs.Values.{tree_json}
use Rattle.sp_json.specs.inside.Writing.{pending}
use Rattle.sp_json.proofs.Written.{fields_weigh}
use Rattle.sp_json.proofs.Pushes.{rising_unit, sorted_unit}
use Rattle.sp_json.proofs.walk.push_unit.Goals as goal

pub returns-then-are_rising-clause-tokens : goal.returns-then-are_rising-clause-tokens
returns-then-are_rising-clause-tokens c =
    on_ok_weaker c.push_fields.result (λ e. e ∙ ap (λ ts. ts ++ pending c.args.tasks.now.items) (rising_unit c.args.fields.now (sym c.are_rising.ensures ∙ c.if-are_rising.true))) c.push_fields.ensures.tokens

pub returns-clause-tokens : goal.returns-clause-tokens
returns-clause-tokens c =
    on_ok_weaker c.push_table.result (λ e. e ∙ ap (λ ts. ts ++ pending c.args.tasks.now.items) (sorted_unit c.in_ok-table.table.entries c.args.fields.now (c.in_ok-table.ensures.members tree_json))) c.push_table.ensures.tokens

pub returns-clause-work : goal.returns-clause-work
returns-clause-work c =
    let all = fields_weigh c.args.fields.now in
    let small = c.in_ok-table.ensures.weight (λ x. tree_size x + 1) in
    on_ok_weaker c.push_table.result (λ e. omega (arith, e, all, small)) c.push_table.ensures.work
