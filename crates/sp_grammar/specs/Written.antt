-- The parts of the grammar by their numbers, and tokens, parts and actions as symbols, which a script writes from
-- tools/grammar.txt.
use Rattle.std.specs.Prelude.{ℕ, List, [], ◌∷◌}
use Rattle.sp_parser.specs.declared.symbol.Symbol.{Symbol}
use Rattle.sp_parser.specs.declared.symbol.Symbol.TheVariants as symbol
use Rattle.sp_parser.specs.Grammar.{CLOSE}
use Rattle.sp_grammar.specs.declared.terminals.Terminal.{Terminal}
use Rattle.sp_grammar.specs.declared.actions.Action.{Action}
use Rattle.sp_grammar.specs.Terminals.{terminal_number}
use Rattle.sp_grammar.specs.Actions.{action_number}

-- a part of the grammar
pub data Part : Type 0 where
  Module Decls Decl Public OnPath OnName OptType Hook : Part
  HookTail OptParen OptPriority Path PathTail OptParams Params Param : Part
  TypeTree Plain Types Label OptValue Labels MoreLabels Ranges : Part
  Range OptUpTo Items Item ItemOn OptSemi UnitPart Switch : Part
  ValueArms ValueArm PlainArms Arm Parts Field FieldTail Counts : Part
  OptExpr Attrs OptIf OptSink FieldEnd FieldHooks FieldHook Base : Part
  BaseTail OptNum Args Exprs Block Stmts Stmt Branch : Part
  OptElse Else Other Local Cases OptDefault OptText OptAssign : Part
  Expr OptChoice Or OrTail And AndTail Membership MembershipTail : Part
  Equality EqualityTail Order OrderTail BitOr BitOrTail BitXor BitXorTail : Part
  BitAnd BitAndTail Shift ShiftTail Sum SumTail Product ProductTail : Part
  Prefix Postfix Member Primary Paren Set Map Pairs : Part
  Pair NewArgs : Part

abbrev pub part_number : Part → ℕ
part_number Part.Module = 0
part_number Part.Decls = 1
part_number Part.Decl = 2
part_number Part.Public = 3
part_number Part.OnPath = 4
part_number Part.OnName = 5
part_number Part.OptType = 6
part_number Part.Hook = 7
part_number Part.HookTail = 8
part_number Part.OptParen = 9
part_number Part.OptPriority = 10
part_number Part.Path = 11
part_number Part.PathTail = 12
part_number Part.OptParams = 13
part_number Part.Params = 14
part_number Part.Param = 15
part_number Part.TypeTree = 16
part_number Part.Plain = 17
part_number Part.Types = 18
part_number Part.Label = 19
part_number Part.OptValue = 20
part_number Part.Labels = 21
part_number Part.MoreLabels = 22
part_number Part.Ranges = 23
part_number Part.Range = 24
part_number Part.OptUpTo = 25
part_number Part.Items = 26
part_number Part.Item = 27
part_number Part.ItemOn = 28
part_number Part.OptSemi = 29
part_number Part.UnitPart = 30
part_number Part.Switch = 31
part_number Part.ValueArms = 32
part_number Part.ValueArm = 33
part_number Part.PlainArms = 34
part_number Part.Arm = 35
part_number Part.Parts = 36
part_number Part.Field = 37
part_number Part.FieldTail = 38
part_number Part.Counts = 39
part_number Part.OptExpr = 40
part_number Part.Attrs = 41
part_number Part.OptIf = 42
part_number Part.OptSink = 43
part_number Part.FieldEnd = 44
part_number Part.FieldHooks = 45
part_number Part.FieldHook = 46
part_number Part.Base = 47
part_number Part.BaseTail = 48
part_number Part.OptNum = 49
part_number Part.Args = 50
part_number Part.Exprs = 51
part_number Part.Block = 52
part_number Part.Stmts = 53
part_number Part.Stmt = 54
part_number Part.Branch = 55
part_number Part.OptElse = 56
part_number Part.Else = 57
part_number Part.Other = 58
part_number Part.Local = 59
part_number Part.Cases = 60
part_number Part.OptDefault = 61
part_number Part.OptText = 62
part_number Part.OptAssign = 63
part_number Part.Expr = 64
part_number Part.OptChoice = 65
part_number Part.Or = 66
part_number Part.OrTail = 67
part_number Part.And = 68
part_number Part.AndTail = 69
part_number Part.Membership = 70
part_number Part.MembershipTail = 71
part_number Part.Equality = 72
part_number Part.EqualityTail = 73
part_number Part.Order = 74
part_number Part.OrderTail = 75
part_number Part.BitOr = 76
part_number Part.BitOrTail = 77
part_number Part.BitXor = 78
part_number Part.BitXorTail = 79
part_number Part.BitAnd = 80
part_number Part.BitAndTail = 81
part_number Part.Shift = 82
part_number Part.ShiftTail = 83
part_number Part.Sum = 84
part_number Part.SumTail = 85
part_number Part.Product = 86
part_number Part.ProductTail = 87
part_number Part.Prefix = 88
part_number Part.Postfix = 89
part_number Part.Member = 90
part_number Part.Primary = 91
part_number Part.Paren = 92
part_number Part.Set = 93
part_number Part.Map = 94
part_number Part.Pairs = 95
part_number Part.Pair = 96
part_number Part.NewArgs = 97

-- the parts in the order of their numbers
abbrev pub all_parts : List Part
all_parts = Part.Module ∷ Part.Decls ∷ Part.Decl ∷ Part.Public ∷ Part.OnPath ∷ Part.OnName ∷ Part.OptType ∷ Part.Hook ∷ Part.HookTail ∷ Part.OptParen ∷ Part.OptPriority ∷ Part.Path ∷ Part.PathTail ∷ Part.OptParams ∷ Part.Params ∷ Part.Param ∷ Part.TypeTree ∷ Part.Plain ∷ Part.Types ∷ Part.Label ∷ Part.OptValue ∷ Part.Labels ∷ Part.MoreLabels ∷ Part.Ranges ∷ Part.Range ∷ Part.OptUpTo ∷ Part.Items ∷ Part.Item ∷ Part.ItemOn ∷ Part.OptSemi ∷ Part.UnitPart ∷ Part.Switch ∷ Part.ValueArms ∷ Part.ValueArm ∷ Part.PlainArms ∷ Part.Arm ∷ Part.Parts ∷ Part.Field ∷ Part.FieldTail ∷ Part.Counts ∷ Part.OptExpr ∷ Part.Attrs ∷ Part.OptIf ∷ Part.OptSink ∷ Part.FieldEnd ∷ Part.FieldHooks ∷ Part.FieldHook ∷ Part.Base ∷ Part.BaseTail ∷ Part.OptNum ∷ Part.Args ∷ Part.Exprs ∷ Part.Block ∷ Part.Stmts ∷ Part.Stmt ∷ Part.Branch ∷ Part.OptElse ∷ Part.Else ∷ Part.Other ∷ Part.Local ∷ Part.Cases ∷ Part.OptDefault ∷ Part.OptText ∷ Part.OptAssign ∷ Part.Expr ∷ Part.OptChoice ∷ Part.Or ∷ Part.OrTail ∷ Part.And ∷ Part.AndTail ∷ Part.Membership ∷ Part.MembershipTail ∷ Part.Equality ∷ Part.EqualityTail ∷ Part.Order ∷ Part.OrderTail ∷ Part.BitOr ∷ Part.BitOrTail ∷ Part.BitXor ∷ Part.BitXorTail ∷ Part.BitAnd ∷ Part.BitAndTail ∷ Part.Shift ∷ Part.ShiftTail ∷ Part.Sum ∷ Part.SumTail ∷ Part.Product ∷ Part.ProductTail ∷ Part.Prefix ∷ Part.Postfix ∷ Part.Member ∷ Part.Primary ∷ Part.Paren ∷ Part.Set ∷ Part.Map ∷ Part.Pairs ∷ Part.Pair ∷ Part.NewArgs ∷ []

-- a token of this kind
abbrev pub kind : Terminal → Symbol
kind t = symbol.Terminal (terminal_number t)

-- what closes a list of types: a `>`, or a half of a `>>`
abbrev pub close : Symbol
close = symbol.Terminal CLOSE

abbrev pub part : Part → Symbol
part p = symbol.Nonterminal (part_number p)

-- the place at which this is built
abbrev pub action : Action → Symbol
action m = symbol.Action (action_number m)
