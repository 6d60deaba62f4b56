use Rattle.std.proofs.Common.{sym, ap, ◌∙◌}
use Rattle.sp_code.specs.Programs.{range_names}
use Rattle.sp_meaning_states.specs.Telling.{names_at}
use Rattle.sp_show.proofs.Tables.{ranges_within, ranges_past}
use Rattle.sp_show.proofs.names.range_names.Goals as goal

pub returns-in-Some : goal.returns-in-Some
returns-in-Some c =
    let found = c.in-Some.ensures.lookup in
    c.as_slice.ensures.value
    ∙ sym (ranges_within c.deref.result.now c.args.kind c.in-Some.kind.now found.3.0 found.1)
    ∙ ap (λ rs. names_at (range_names rs) c.args.kind) c.deref.ensures.value

pub returns-in-None : goal.returns-in-None
returns-in-None c =
    sym (ranges_past c.deref.result.now c.args.kind c.in-None.ensures.lookup.3)
    ∙ ap (λ rs. names_at (range_names rs) c.args.kind) c.deref.ensures.value
