-- The rules over a list of modules: their kinds, which have their numbers, and the groups in which they are asked.
use Rattle.std.specs.Prelude.{ℕ}
use Rattle.sp_base.specs.declared.kinds.MKind.{MKind}
use Rattle.sp_base.specs.declared.kinds.MKind.TheVariants as kind_is
use Rattle.sp_base.specs.declared.places.Diag.{Diag}
use Rattle.sp_base.specs.Kinds.{module_kind_number}
use Rattle.sp_rules.specs.declared.rule.Rule.{Rule}
use Rattle.sp_rules.specs.declared.rule.Rule.TheVariants as rule_is
use Rattle.sp_rules.specs.declared.rule.RuleGroup.{RuleGroup}
use Rattle.sp_rules.specs.declared.rule.RuleGroup.TheVariants as group_is
use Rattle.sp_rules.specs.declared.fault.Fault.{Fault}

abbrev pub kind : Rule → MKind
kind rule_is.ModuleTwice = kind_is.ModuleTwice
kind rule_is.NameTwice = kind_is.NameTwice
kind rule_is.UnknownName = kind_is.UnknownName
kind rule_is.UnknownHook = kind_is.UnknownHook
kind rule_is.UnknownMember = kind_is.UnknownName
kind rule_is.TypeMismatch = kind_is.TypeMismatch
kind rule_is.NotAssignable = kind_is.NotAssignable
kind rule_is.LiteralRange = kind_is.LiteralRange
kind rule_is.NotConstant = kind_is.NotConstant
kind rule_is.SelfOutside = kind_is.SelfOutside
kind rule_is.MissingReturn = kind_is.MissingReturn
kind rule_is.OutsideLoop = kind_is.OutsideLoop
kind rule_is.WrongArguments = kind_is.WrongArguments
kind rule_is.BadAttribute = kind_is.BadAttribute
kind rule_is.MissingBound = kind_is.MissingBound
kind rule_is.AttributeClash = kind_is.AttributeClash
kind rule_is.BadBitRange = kind_is.BadBitRange
kind rule_is.FilterPlace = kind_is.FilterPlace
kind rule_is.HookSeesState = kind_is.HookSeesState
kind rule_is.EmptyToken = kind_is.EmptyToken
kind rule_is.NoLookAhead = kind_is.NoLookAhead
kind rule_is.LookAheadClash = kind_is.LookAheadClash
kind rule_is.SyncNoToken = kind_is.SyncNoToken
kind rule_is.TooMany = kind_is.TooMany

-- names first, then bodies, then units, then tokens and limits
abbrev pub group : Rule → RuleGroup
group rule_is.ModuleTwice = group_is.Names
group rule_is.NameTwice = group_is.Names
group rule_is.UnknownName = group_is.Names
group rule_is.UnknownHook = group_is.Names
group rule_is.BadAttribute = group_is.Units
group rule_is.MissingBound = group_is.Units
group rule_is.AttributeClash = group_is.Units
group rule_is.BadBitRange = group_is.Units
group rule_is.FilterPlace = group_is.Units
group rule_is.HookSeesState = group_is.Units
group rule_is.EmptyToken = group_is.Tokens
group rule_is.NoLookAhead = group_is.Tokens
group rule_is.LookAheadClash = group_is.Tokens
group rule_is.SyncNoToken = group_is.Tokens
group rule_is.TooMany = group_is.Tokens
group _ = group_is.Bodies

abbrev pub group_number : RuleGroup → ℕ
group_number group_is.Names = 1
group_number group_is.Bodies = 2
group_number group_is.Units = 3
group_number group_is.Tokens = 4

abbrev pub rule_group : Rule → ℕ
rule_group rule = group_number (group rule)

abbrev pub rule_number : Rule → ℕ
rule_number rule = module_kind_number (kind rule)

-- the refusal of the module
abbrev pub diag_of : Fault → Diag
diag_of f = record { «module» = f.«module»; span = f.span; kind = kind f.rule }
