use Rattle.std.proofs.Common.{sym, ap, ◌∙◌}
use Rattle.sp_code.specs.Programs.{member_names}
use Rattle.sp_meaning_states.specs.Telling.{names_at}
use Rattle.sp_show.proofs.Tables.{members_within, members_past}
use Rattle.sp_show.proofs.names.member_names.Goals as goal

pub returns-in-Some : goal.returns-in-Some
returns-in-Some c =
    let found = c.in-Some.ensures.lookup in
    c.as_slice.ensures.value
    ∙ sym (members_within c.deref.result.now c.args.unit c.in-Some.unit.now found.3.0 found.1)
    ∙ ap (λ us. names_at (member_names us) c.args.unit) c.deref.ensures.value

pub returns-in-None : goal.returns-in-None
returns-in-None c =
    sym (members_past c.deref.result.now c.args.unit c.in-None.ensures.lookup.3)
    ∙ ap (λ us. names_at (member_names us) c.args.unit) c.deref.ensures.value
