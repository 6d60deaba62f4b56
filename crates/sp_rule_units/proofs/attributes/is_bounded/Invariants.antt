use Rattle.std.proofs.Common.{◌≡◌, drop}
use Rattle.sp_rule_units.specs.Attributes.{is_bounded}
use Rattle.sp_rule_units.proofs.attributes.is_bounded.Given as goal

abbrev pub invariant-loop-attribute : goal.invariant-loop-attribute
invariant-loop-attribute l = is_bounded (drop l.attribute-index l.all) ≡ is_bounded l.all
