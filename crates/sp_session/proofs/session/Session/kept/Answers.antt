use Rattle.std.proofs.Common.{◌∙◌}
use Rattle.sp_session.proofs.Stands.{kept_at}
use Rattle.sp_session.proofs.session.Session.kept.Goals as goal

pub returns-clause-live : goal.returns-clause-live
returns-clause-live c = λ s is.
    let h = c.args.self.now in
    c.kept.ensures ∙ kept_at h.list.now h.program.now h.limits h.unit h.phase h.stand h.fiber s is
