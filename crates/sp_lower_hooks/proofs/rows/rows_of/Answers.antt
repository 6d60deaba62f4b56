use Rattle.std.proofs.Common.{◌≡◌, ◌<◌, ℕ, map, sym, ap, subst, ◌∙◌}
use Rattle.std.proofs.lemmas.Result.{IfOk-weaker}
use Rattle.sp_meaning.specs.Hooks.{hook_bodies, is_of_unit}
use Rattle.sp_lower_hooks.specs.inside.Rows.{row_numbers, lists, AreRows}
use Rattle.sp_lower_hooks.proofs.Gathering.{rows_are}
use Rattle.sp_lower_hooks.proofs.rows.rows_of.Goals as goal

pub returns : goal.returns
returns c =
    let list = c.args.list.now in
    let name = c.args.name in
    let keys = c.in_ok-keys.keys.items in
    let units = c.unit_count-units.ensures in
    IfOk-weaker c.ordered.result (λ rows. lists rows.items ≡ map row_numbers keys) (λ rows. AreRows name list rows.items)
    (λ rows is u lt. rows_are name c.unit_count-units.result c.as_slice.result.now keys rows.items c.in_ok-keys.ensures is u (subst (λ (n : ℕ). u < n) (sym units) lt) ∙ ap (hook_bodies (is_of_unit u name)) c.as_slice.ensures)
    c.ordered.ensures
