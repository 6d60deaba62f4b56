use Rattle.std.proofs.Common.{sym, ◌∙◌}
use Rattle.sp_build.specs.inside.RuleViews.{leaf_view}
use Rattle.sp_build.proofs.RuleParts.{leaf_has_none, none_fill}
use Rattle.sp_build.proofs.steps.takes.Goals as goal

pub join-requires-clause-fill : goal.join-requires-clause-fill
join-requires-clause-fill c =
    none_fill c.in-Some.form (leaf_has_none (leaf_view c.args.what) c.requires.parts _ _ c.in-Some.form (sym c.in_ok-form.ensures ∙ c.in-Some.is))
