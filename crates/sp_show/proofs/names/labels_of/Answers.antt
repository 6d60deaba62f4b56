use Rattle.std.proofs.Common.{sym, ap, ◌∙◌}
use Rattle.sp_code.specs.Programs.{label_names}
use Rattle.sp_meaning_states.specs.Telling.{names_at}
use Rattle.sp_show.proofs.Tables.{labels_within, labels_past}
use Rattle.sp_show.proofs.names.labels_of.Goals as goal

pub returns-in-Some : goal.returns-in-Some
returns-in-Some c =
    let found = c.in-Some.ensures.lookup in
    c.as_slice.ensures.value
    ∙ sym (labels_within c.deref.result.now c.args.kind c.in-Some.kind.now found.3.0 found.1)
    ∙ ap (λ ls. names_at (label_names ls) c.args.kind) c.deref.ensures.value

pub returns-in-None : goal.returns-in-None
returns-in-None c =
    sym (labels_past c.deref.result.now c.args.kind c.in-None.ensures.lookup.3)
    ∙ ap (λ ls. names_at (label_names ls) c.args.kind) c.deref.ensures.value
