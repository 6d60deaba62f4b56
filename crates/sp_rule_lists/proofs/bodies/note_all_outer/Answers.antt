use Rattle.std.proofs.Common.{◌≡◌, OnOk, subst}
use Rattle.sp_rules.specs.Least.{checked}
use Rattle.sp_rule_lists.specs.Told.{known_in}
use Rattle.sp_rule_lists.specs.Wholes.{outer_tests}
use Rattle.sp_rule_lists.proofs.bodies.note_all_outer.Goals as goal

pub returns : goal.returns
returns g c =
    subst (λ s. OnOk c.note_outer_in.result (c.note_outer_in.new.least ≡ checked c.args.least.now (outer_tests (known_in c.args.typed.now (g.C.Constants.known c.args.constants.now) s) c.args.typed.now))) c.none-slots.ensures c.note_outer_in.ensures
