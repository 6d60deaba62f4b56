-- Broken rules.
use Rattle.std.specs.Prelude.{ℕ}
use Rattle.sp_base.specs.declared.places.Span.{Span}
use Rattle.sp_rules.specs.declared.rule.Rule.{Rule}
use Rattle.sp_rules.specs.declared.fault.Fault.{Fault}

-- the fault of a rule in a module, on a slice of its text
abbrev pub at : ℕ → Rule → Span → Fault
at m rule span = record { rule = rule; «module» = m; span = span }
