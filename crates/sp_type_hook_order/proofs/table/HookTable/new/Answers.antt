use Rattle.std.proofs.Common.{ap, ◌∙◌}
use Rattle.sp_type_hook_order.specs.Order.{run_order}
use Rattle.sp_type_hook_order.specs.Keys.{gathered}
use Rattle.sp_type_hook_order.proofs.table.HookTable.new.Goals as goal

pub invariant_of-result : goal.invariant_of-result
invariant_of-result c = λ parts.
    c.in_ok-buckets.ensures parts
    ∙ ap (λ l. gathered l c.deref-3.result.now parts) c.deref-2.ensures.value
    ∙ ap (λ l. gathered c.args.keys.items l parts) (c.deref-3.ensures.value ∙ c.in_ok-order.ensures.order ∙ ap run_order c.deref.ensures.value)
