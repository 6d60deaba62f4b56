use Rattle.std.proofs.Common.{◌++◌, ◌∷◌, [], ap, ◌∙◌}
use Rattle.indexmap.specs.IndexMap.{get}
use Rattle.sp_type_hook_order.specs.Keys.{are_same}
use Rattle.sp_type_hook_order.specs.inside.Buckets.{told}
use Rattle.sp_type_hook_order.proofs.Gathering.{added}
use Rattle.sp_type_hook_order.proofs.table.add.Goals as goal

pub returns : goal.returns
returns c = λ x.
    added c.args.parts x (told c.args.table.now) (get are_same c.taken.new.table.of x) (get are_same c.insert.new.self x) c.in_ok-numbers.numbers c.args.number
    (c.taken.ensures.left x)
    (c.in_ok-insert.ensures.updates.0 x)
    (c.in_ok-numbers.ensures ∙ ap (λ l. l ++ c.args.number ∷ []) c.taken.ensures.list)
