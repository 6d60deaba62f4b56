use Rattle.std.proofs.Common.{None, subst, sym, ap, ◌∙◌}
use Rattle.sp_rules.specs.Least.{IsLeast, checked}
use Rattle.sp_rule_lists.specs.Told.{values_of}
use Rattle.sp_rule_lists.specs.Wholes.{list_tests}
use Rattle.sp_check_expr.specs.Broken.{BreaksBody}
use Rattle.sp_check_expr.proofs.bodies.least_of.Goals as goal

pub returns : goal.returns
returns c =
    let t = c.args.scopes.now.typed in
    subst (λ o. IsLeast (BreaksBody t) o) (sym (c.in_ok-note_bodies.ensures ∙ ap (λ x. checked None (list_tests x (values_of t))) c.typed.ensures)) (c.least_of_broken.ensures.bodies t (values_of t))
