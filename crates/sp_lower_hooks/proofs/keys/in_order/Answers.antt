use Rattle.std.proofs.Common.{◌≡◌, map, ap, ◌∙◌}
use Rattle.std.proofs.lemmas.Result.{IfOk-weaker}
use Rattle.sp_lower_hooks.specs.inside.Turns.{turn_of, key_number, sorted, turn_numbers}
use Rattle.sp_lower_hooks.proofs.Sorting.{sorted_keys}
use Rattle.sp_lower_hooks.proofs.keys.in_order.Goals as goal

pub returns : goal.returns
returns c =
    let all = sorted_keys c.args.keys.items c.sort_unstable.new.self.items c.sort_unstable.ensures.permutation c.sort_unstable.ensures.sorted in
    IfOk-weaker c.numbers_of.result (λ ns. ns.items ≡ map key_number c.deref.result.now) (λ ns. ns.items ≡ turn_numbers (sorted (map turn_of c.args.keys.items)))
    (λ ns is. is ∙ ap (map key_number) c.deref.ensures.value ∙ all) c.numbers_of.ensures
