-- What each part of the grammar finds on the stack and what it leaves there, and that each of its alternatives does so.
use Rattle.std.specs.Prelude.{◌≡◌, ℕ, List, [], ◌∷◌, ◌++◌, Bool, true, false, nat_lt, if◌then◌else◌, Option, Some, None, map, refl}
use Rattle.std.proofs.Common.{get_or}
use Rattle.sp_parser.specs.declared.symbol.Symbol.{Symbol}
use Rattle.sp_parser.specs.declared.symbol.Symbol.TheVariants.{Terminal, Nonterminal, Action}
use Rattle.sp_parser.specs.Grammar.{SECOND}
use Rattle.sp_grammar.specs.declared.actions.Action as grammar_action
use Rattle.sp_grammar.specs.declared.terminals.Terminal.TheVariants as terminal
use Rattle.sp_grammar.specs.Terminals.{terminal_number}
use Rattle.sp_grammar.specs.Actions.{action_with}
use Rattle.sp_grammar.specs.Written.{Part, all_parts}
use Rattle.sp_grammar.specs.Language.{language}
use Rattle.sp_grammar.proofs.Spans.{every_production}
use Rattle.sp_ast.specs.declared.groups.Group.{Group}
use Rattle.sp_ast.specs.declared.groups.Group.TheVariants.{Names as names, Strings as strings, Numbers as numbers, HookNames as hook_names, Paths as paths, Expressions as expressions, Pairs as pairs, Types as types, Labels as labels, Ranges as ranges, Parameters as parameters, Statements as statements, Blocks as blocks, Branches as branches, Cases as cases, Items as items, Targets as targets, Parts as parts, Arms as arms, Bodies as bodies, Bases as bases, Counts as counts, Attributes as attributes, Hooks as hooks, HookBodies as hook_bodies, Declarations as declarations, Modules as modules}
use Rattle.sp_ast.specs.declared.groups.Sort.TheVariants.{One as one, Optional as optional, Rows as rows}
use Rattle.sp_build.specs.Rules.{rule}
use Rattle.sp_build.proofs.Shapes.{Shape, opens, opens_at, stands, many, and_then, strip, effect}

-- What a part finds on the stack and leaves in its place, the last first. It doesn't touch what stands below.
pub record Signature : Type 0 where
  pub finds : List Shape
  pub leaves : List Shape

-- finds nothing of its own
abbrev leaves : Shape → Signature
leaves x = record { finds = []; leaves = x ∷ [] }

abbrev turns : List Shape → Shape → Signature
turns xs y = record { finds = xs; leaves = y ∷ [] }

abbrev a : Group → Shape
a g = stands (one g)

abbrev perhaps : Group → Shape
perhaps g = stands (optional g)

abbrev row_of : Group → Shape
row_of g = stands (rows g)

-- an operand stands there, and the operation is left
abbrev operation : Signature
operation = turns (a expressions ∷ []) (a expressions)

-- the branches of an `if` statement that has begun
abbrev an_if : List Shape
an_if = many branches ∷ opens ∷ opens ∷ []

abbrev pub signature : Part → Signature
signature Part.Module = leaves (a modules)
signature Part.Decls = leaves (many declarations)
signature Part.Decl = leaves (a declarations)
signature Part.Public = turns (opens ∷ []) (a declarations)
signature Part.OnPath = record { finds = many names ∷ opens ∷ []; leaves = perhaps hook_names ∷ a paths ∷ [] }
signature Part.OnName = record { finds = many names ∷ opens ∷ []; leaves = perhaps hook_names ∷ a paths ∷ [] }
signature Part.OptType = leaves (perhaps types)
signature Part.Hook = leaves (a hooks)
signature Part.HookTail = leaves (a hook_bodies)
signature Part.OptParen = leaves (row_of parameters)
signature Part.OptPriority = leaves (perhaps expressions)
signature Part.Path = leaves (a paths)
signature Part.PathTail = leaves (many names)
signature Part.OptParams = leaves (many parameters)
signature Part.Params = leaves (many parameters)
signature Part.Param = leaves (a parameters)
signature Part.TypeTree = leaves (a types)
signature Part.Plain = leaves (a types)
signature Part.Types = leaves (many types)
signature Part.Label = leaves (a labels)
signature Part.OptValue = leaves (perhaps expressions)
signature Part.Labels = leaves (many labels)
signature Part.MoreLabels = leaves (many labels)
signature Part.Ranges = leaves (many ranges)
signature Part.Range = leaves (a ranges)
signature Part.OptUpTo = leaves (perhaps numbers)
signature Part.Items = leaves (many items)
signature Part.Item = leaves (a items)
signature Part.ItemOn = leaves (a targets)
signature Part.OptSemi = record { finds = []; leaves = [] }
signature Part.UnitPart = leaves (a parts)
signature Part.Switch = turns (opens ∷ []) (a parts)
signature Part.ValueArms = leaves (many arms)
signature Part.ValueArm = leaves (a arms)
signature Part.PlainArms = leaves (many arms)
signature Part.Arm = leaves (a bodies)
signature Part.Parts = leaves (many parts)
signature Part.Field = leaves (a parts)
signature Part.FieldTail = turns (perhaps names ∷ opens ∷ []) (a parts)
signature Part.Counts = leaves (many counts)
signature Part.OptExpr = leaves (perhaps expressions)
signature Part.Attrs = leaves (many attributes)
signature Part.OptIf = leaves (perhaps expressions)
signature Part.OptSink = leaves (perhaps expressions)
signature Part.FieldEnd = leaves (row_of hook_bodies)
signature Part.FieldHooks = leaves (many hook_bodies)
signature Part.FieldHook = leaves (a hook_bodies)
signature Part.Base = leaves (a bases)
signature Part.BaseTail = turns (a paths ∷ []) (a bases)
signature Part.OptNum = turns (opens_at (terminal_number terminal.IntWord) ∷ []) (a bases)
signature Part.Args = leaves (many expressions)
signature Part.Exprs = leaves (many expressions)
signature Part.Block = leaves (a blocks)
signature Part.Stmts = leaves (many statements)
signature Part.Stmt = leaves (a statements)
signature Part.Branch = leaves (a branches)
signature Part.OptElse = turns an_if (a statements)
signature Part.Else = turns an_if (a statements)
signature Part.Other = leaves (a statements)
signature Part.Local = record { finds = []; leaves = perhaps expressions ∷ perhaps types ∷ [] }
signature Part.Cases = leaves (many cases)
signature Part.OptDefault = leaves (perhaps statements)
signature Part.OptText = leaves (perhaps strings)
signature Part.OptAssign = turns (a expressions ∷ opens ∷ []) (a statements)
signature Part.Expr = leaves (a expressions)
signature Part.OptChoice = operation
signature Part.Or = leaves (a expressions)
signature Part.OrTail = operation
signature Part.And = leaves (a expressions)
signature Part.AndTail = operation
signature Part.Membership = leaves (a expressions)
signature Part.MembershipTail = operation
signature Part.Equality = leaves (a expressions)
signature Part.EqualityTail = operation
signature Part.Order = leaves (a expressions)
signature Part.OrderTail = operation
signature Part.BitOr = leaves (a expressions)
signature Part.BitOrTail = operation
signature Part.BitXor = leaves (a expressions)
signature Part.BitXorTail = operation
signature Part.BitAnd = leaves (a expressions)
signature Part.BitAndTail = operation
signature Part.Shift = leaves (a expressions)
signature Part.ShiftTail = operation
signature Part.Sum = leaves (a expressions)
signature Part.SumTail = operation
signature Part.Product = leaves (a expressions)
signature Part.ProductTail = operation
signature Part.Prefix = leaves (a expressions)
signature Part.Postfix = operation
signature Part.Member = leaves (a names)
signature Part.Primary = leaves (a expressions)
signature Part.Paren = turns (a expressions ∷ opens ∷ []) (a expressions)
signature Part.Set = turns (opens ∷ []) (a expressions)
signature Part.Map = turns (opens ∷ []) (a expressions)
signature Part.Pairs = leaves (many pairs)
signature Part.Pair = leaves (a pairs)
signature Part.NewArgs = leaves (row_of expressions)

-- the signature of the part with a number
abbrev pub signature_at : ℕ → Signature
signature_at n = get_or (map signature all_parts) n (record { finds = []; leaves = [] })

-- the kind of the token that comes next, if the symbols tell it
abbrev pub next_kind : List Symbol → Option ℕ
next_kind (Terminal e ∷ ss) = if nat_lt e SECOND then Some e else None
next_kind _ = None

abbrev pub passed : Option grammar_action.Action → Option ℕ → List Shape → Option (List Shape)
passed None next xs = None
passed (Some m) next xs = effect (rule m) next xs

-- What symbols make of a stack: actions by their rules, and parts by their signatures.
abbrev pub run : List Symbol → List Shape → Option (List Shape)
run [] xs = Some xs
run (Terminal e ∷ ss) xs = run ss xs
run (Action m ∷ ss) xs = and_then (passed (action_with m) (next_kind ss) xs) (λ next. run ss next)
run (Nonterminal n ∷ ss) xs = and_then (strip (signature_at n).finds xs) (λ rest. run ss ((signature_at n).leaves ++ rest))

abbrev pub is_used_up : Option (List Shape) → Bool
is_used_up (Some []) = true
is_used_up _ = false

-- an alternative of a part leaves what the part leaves
abbrev pub keeps_signature : ℕ → List Symbol → Bool
keeps_signature n ss = is_used_up (and_then (run ss (signature_at n).finds) (λ xs. strip (signature_at n).leaves xs))

pub signatures_kept : every_production language (λ n r. keeps_signature n r.symbols) ≡ true
unfolding language
signatures_kept = refl
