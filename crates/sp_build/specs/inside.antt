pub mod RuleParts
pub mod RuleViews
pub mod Popping
