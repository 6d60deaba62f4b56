use Rattle.std.proofs.Common.{◌≡◌, OnOk, subst}
use Rattle.sp_rules.specs.Least.{checked}
use Rattle.sp_rule_lists.specs.Bodies.{given_tests}
use Rattle.sp_rule_lists.proofs.functions.note_function_body.Goals as goal

pub returns : goal.returns
returns g c =
    subst (λ w. OnOk c.note_given.result (c.note_given.new.least ≡ checked c.args.least.now (given_tests c.args.typed.now (g.C.Constants.known c.args.constants.now) w c.args.function.now))) c.in_ok-wanted.ensures c.note_given.ensures
