use Rattle.std.proofs.Common.{sym, subst, OnOk}
use Rattle.sp_code.specs.Shapes.{push}
use Rattle.sp_emit.specs.Emitted.{TurnsTo}
use Rattle.sp_emit.proofs.emitter.Emitter.push_local.Goals as goal

pub returns-in-Some : goal.returns-in-Some
returns-in-Some c = subst (λ k. OnOk c.push.result (TurnsTo c.args.self.now c.push.new.self (push k c.args.self.now.now))) c.in-Some.ensures.some.is c.push.ensures

pub returns-in-None : goal.returns-in-None
returns-in-None c = subst (λ k. OnOk c.push_row.result (TurnsTo c.args.self.now c.push_row.new.self (push k c.args.self.now.now))) (sym c.in-None.ensures.none) c.push_row.ensures
