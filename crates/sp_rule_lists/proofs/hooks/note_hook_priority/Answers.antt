use Rattle.std.proofs.Common.{◌≡◌, OnOk, subst}
use Rattle.sp_rules.specs.Least.{checked}
use Rattle.sp_rule_lists.specs.Lists.{option_tests}
use Rattle.sp_rule_lists.specs.Told.{known_in}
use Rattle.sp_rule_lists.specs.Bodies.{priority_tests}
use Rattle.sp_rule_lists.proofs.hooks.note_hook_priority.Goals as goal

pub returns : goal.returns
returns g c =
    subst (λ s. OnOk c.note_priority_in.result (c.note_priority_in.new.least ≡ checked c.args.least.now (option_tests (priority_tests (known_in c.args.typed.now (g.C.Constants.known c.args.constants.now) s) c.args.hook.now.«module») c.args.hook.now.priority))) c.none-slots.ensures c.note_priority_in.ensures
