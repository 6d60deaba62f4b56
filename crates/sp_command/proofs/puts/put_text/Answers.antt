use Rattle.std.proofs.Common.{refl}
use Rattle.std.proofs.lemmas.Result.{on_err_weaker}
use Rattle.sp_command.proofs.PartPuts.{part_of, put_cause}
use Rattle.sp_command.proofs.puts.put_text.Goals as goal

pub returns-clause-part : goal.returns-clause-part
returns-clause-part g c =
    on_err_weaker c.put_all.result (λ e. part_of (g.O.Out.held c.args.out.now) (g.O.Out.held c.put_all.new.out) e.0 c.args.text.now c.args.text.now refl e.2) c.put_all.ensures.part

pub returns-clause-cause : goal.returns-clause-cause
returns-clause-cause g c = put_cause c.put_all.result (g.O.Out.faults c.args.out.now) (g.O.Out.faults c.put_all.new.out) c.put_all.ensures.failed c.put_all.ensures.cause
