use Rattle.std.specs.Prelude.{slice_get}
use Rattle.std.proofs.lemmas.Result.{on_ok_weaker}
use Rattle.sp_meaning.specs.Globals.{globals_of}
use Rattle.sp_code_programs.specs.units.Units.{member_kind, member_code}
use Rattle.sp_lower_unit.proofs.Joined.{adds_on}
use Rattle.sp_lower_unit.proofs.variables.begin.Goals as goal

pub returns : goal.returns
returns c =
    let s = c.args.out.now.now in
    let m = c.args.variable.now.member in
    let k = member_kind (globals_of c.args.list.now).ranges (slice_get c.args.members.now m) in
    let first = c.in_ok-first_of_member.ensures in
    on_ok_weaker c.set_member.result (λ h. adds_on (member_code c.args.unit s k m) s first h) (c.set_member.ensures s k first.now)
