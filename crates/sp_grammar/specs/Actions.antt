-- The numbers of the actions in the table.
use Rattle.std.specs.Prelude.{ℕ, List, [], ◌∷◌, Option, Some, None}
use Rattle.std.proofs.Common.{get_or}
use Rattle.std.specs.Prelude.{map}
use Rattle.sp_words.specs.declared.operators.BinaryOp.TheVariants as binary
use Rattle.sp_words.specs.declared.operators.UnaryOp.TheVariants as unary
use Rattle.sp_words.specs.declared.operators.AssignOp.TheVariants as assign
use Rattle.sp_grammar.specs.declared.actions.Action.{Action}
use Rattle.sp_grammar.specs.declared.actions.Action.TheVariants as build

abbrev pub action_number : Action → ℕ
action_number build.Begin = 0
action_number build.Name = 1
action_number build.Row = 2
action_number build.ModuleDecl = 3
action_number build.ImportDecl = 4
action_number build.ByteOrderDecl = 5
action_number build.String = 6
action_number build.VersionDecl = 7
action_number build.TypeDecl = 8
action_number build.ConstDecl = 9
action_number build.FunctionDecl = 10
action_number build.OnDecl = 11
action_number build.PublicTypeDecl = 12
action_number build.PublicConstDecl = 13
action_number build.PublicFunctionDecl = 14
action_number build.Path = 15
action_number build.Absent = 16
action_number build.HookName = 17
action_number build.Hook = 18
action_number build.EachBody = 19
action_number build.HookBody = 20
action_number build.InoutParameter = 21
action_number build.Parameter = 22
action_number build.PathType = 23
action_number build.IntType = 24
action_number build.BoolType = 25
action_number build.BytesType = 26
action_number build.StringType = 27
action_number build.VoidType = 28
action_number build.TupleType = 29
action_number build.VectorType = 30
action_number build.SetType = 31
action_number build.MapType = 32
action_number build.EnumType = 33
action_number build.Number = 34
action_number build.BitfieldType = 35
action_number build.Unit = 36
action_number build.UnitType = 37
action_number build.Label = 38
action_number build.Bits = 39
action_number build.FilterItem = 40
action_number build.ByteOrderItem = 41
action_number build.MimeTypeItem = 42
action_number build.DescriptionItem = 43
action_number build.VariableItem = 44
action_number build.SinkItem = 45
action_number build.OnItem = 46
action_number build.PartItem = 47
action_number build.NameTarget = 48
action_number build.HookTarget = 49
action_number build.SwitchPart = 50
action_number build.OtherwiseGuard = 51
action_number build.Arm = 52
action_number build.ValuesGuard = 53
action_number build.LookAheadGuard = 54
action_number build.NothingBody = 55
action_number build.OneBody = 56
action_number build.ManyBody = 57
action_number build.Field = 58
action_number build.FieldPart = 59
action_number build.Count = 60
action_number build.Attribute = 61
action_number build.TypeBase = 62
action_number build.BytesBase = 63
action_number build.RegexBase = 64
action_number build.GroupBase = 65
action_number build.UnitBase = 66
action_number build.NumberBase = 67
action_number build.IntBase = 68
action_number build.Block = 69
action_number build.Branch = 70
action_number build.IfStmt = 71
action_number build.BlockStmt = 72
action_number build.LocalStmt = 73
action_number build.WhileStmt = 74
action_number build.ForStmt = 75
action_number build.SwitchStmt = 76
action_number build.ReturnStmt = 77
action_number build.BreakStmt = 78
action_number build.ContinueStmt = 79
action_number build.StopStmt = 80
action_number build.ConfirmStmt = 81
action_number build.RejectStmt = 82
action_number build.PrintStmt = 83
action_number build.ThrowStmt = 84
action_number build.AssertStmt = 85
action_number build.AddStmt = 86
action_number build.DeleteStmt = 87
action_number build.Case = 88
action_number (build.Assign assign.Set) = 89
action_number (build.Assign assign.Add) = 90
action_number (build.Assign assign.Subtract) = 91
action_number build.ExprStmt = 92
action_number build.Choice = 93
action_number (build.Binary binary.Or) = 94
action_number (build.Binary binary.And) = 95
action_number (build.Binary binary.In) = 96
action_number (build.Binary binary.NotIn) = 97
action_number (build.Binary binary.Equal) = 98
action_number (build.Binary binary.NotEqual) = 99
action_number (build.Binary binary.Less) = 100
action_number (build.Binary binary.LessEqual) = 101
action_number (build.Binary binary.Greater) = 102
action_number (build.Binary binary.GreaterEqual) = 103
action_number (build.Binary binary.BitOr) = 104
action_number (build.Binary binary.BitXor) = 105
action_number (build.Binary binary.BitAnd) = 106
action_number (build.Binary binary.ShiftLeft) = 107
action_number (build.Binary binary.ShiftRight) = 108
action_number (build.Binary binary.Add) = 109
action_number (build.Binary binary.Subtract) = 110
action_number (build.Binary binary.Multiply) = 111
action_number (build.Binary binary.Divide) = 112
action_number (build.Binary binary.Remainder) = 113
action_number (build.Unary unary.Not) = 114
action_number (build.Unary unary.Negate) = 115
action_number (build.Unary unary.Complement) = 116
action_number build.Member = 117
action_number build.SetMember = 118
action_number build.Index = 119
action_number build.Call = 120
action_number build.PathExpr = 121
action_number build.SelfExpr = 122
action_number build.CurrentExpr = 123
action_number build.NumberExpr = 124
action_number build.StringExpr = 125
action_number build.BytesExpr = 126
action_number build.RegexExpr = 127
action_number build.TrueExpr = 128
action_number build.FalseExpr = 129
action_number build.VectorExpr = 130
action_number build.EmptyVectorExpr = 131
action_number build.TypedNumberExpr = 132
action_number build.CastExpr = 133
action_number build.NewExpr = 134
action_number build.SizeExpr = 135
action_number build.Paren = 136
action_number build.TupleExpr = 137
action_number build.SetExpr = 138
action_number build.EmptySetExpr = 139
action_number build.MapExpr = 140
action_number build.EmptyMapExpr = 141
action_number build.Pair = 142

-- the actions in the order of their numbers
abbrev pub all_actions : List Action
all_actions = build.Begin ∷ build.Name ∷ build.Row ∷ build.ModuleDecl ∷ build.ImportDecl ∷ build.ByteOrderDecl ∷ build.String ∷ build.VersionDecl ∷ build.TypeDecl ∷ build.ConstDecl ∷ build.FunctionDecl ∷ build.OnDecl ∷ build.PublicTypeDecl ∷ build.PublicConstDecl ∷ build.PublicFunctionDecl ∷ build.Path ∷ build.Absent ∷ build.HookName ∷ build.Hook ∷ build.EachBody ∷ build.HookBody ∷ build.InoutParameter ∷ build.Parameter ∷ build.PathType ∷ build.IntType ∷ build.BoolType ∷ build.BytesType ∷ build.StringType ∷ build.VoidType ∷ build.TupleType ∷ build.VectorType ∷ build.SetType ∷ build.MapType ∷ build.EnumType ∷ build.Number ∷ build.BitfieldType ∷ build.Unit ∷ build.UnitType ∷ build.Label ∷ build.Bits ∷ build.FilterItem ∷ build.ByteOrderItem ∷ build.MimeTypeItem ∷ build.DescriptionItem ∷ build.VariableItem ∷ build.SinkItem ∷ build.OnItem ∷ build.PartItem ∷ build.NameTarget ∷ build.HookTarget ∷ build.SwitchPart ∷ build.OtherwiseGuard ∷ build.Arm ∷ build.ValuesGuard ∷ build.LookAheadGuard ∷ build.NothingBody ∷ build.OneBody ∷ build.ManyBody ∷ build.Field ∷ build.FieldPart ∷ build.Count ∷ build.Attribute ∷ build.TypeBase ∷ build.BytesBase ∷ build.RegexBase ∷ build.GroupBase ∷ build.UnitBase ∷ build.NumberBase ∷ build.IntBase ∷ build.Block ∷ build.Branch ∷ build.IfStmt ∷ build.BlockStmt ∷ build.LocalStmt ∷ build.WhileStmt ∷ build.ForStmt ∷ build.SwitchStmt ∷ build.ReturnStmt ∷ build.BreakStmt ∷ build.ContinueStmt ∷ build.StopStmt ∷ build.ConfirmStmt ∷ build.RejectStmt ∷ build.PrintStmt ∷ build.ThrowStmt ∷ build.AssertStmt ∷ build.AddStmt ∷ build.DeleteStmt ∷ build.Case ∷ (build.Assign assign.Set) ∷ (build.Assign assign.Add) ∷ (build.Assign assign.Subtract) ∷ build.ExprStmt ∷ build.Choice ∷ (build.Binary binary.Or) ∷ (build.Binary binary.And) ∷ (build.Binary binary.In) ∷ (build.Binary binary.NotIn) ∷ (build.Binary binary.Equal) ∷ (build.Binary binary.NotEqual) ∷ (build.Binary binary.Less) ∷ (build.Binary binary.LessEqual) ∷ (build.Binary binary.Greater) ∷ (build.Binary binary.GreaterEqual) ∷ (build.Binary binary.BitOr) ∷ (build.Binary binary.BitXor) ∷ (build.Binary binary.BitAnd) ∷ (build.Binary binary.ShiftLeft) ∷ (build.Binary binary.ShiftRight) ∷ (build.Binary binary.Add) ∷ (build.Binary binary.Subtract) ∷ (build.Binary binary.Multiply) ∷ (build.Binary binary.Divide) ∷ (build.Binary binary.Remainder) ∷ (build.Unary unary.Not) ∷ (build.Unary unary.Negate) ∷ (build.Unary unary.Complement) ∷ build.Member ∷ build.SetMember ∷ build.Index ∷ build.Call ∷ build.PathExpr ∷ build.SelfExpr ∷ build.CurrentExpr ∷ build.NumberExpr ∷ build.StringExpr ∷ build.BytesExpr ∷ build.RegexExpr ∷ build.TrueExpr ∷ build.FalseExpr ∷ build.VectorExpr ∷ build.EmptyVectorExpr ∷ build.TypedNumberExpr ∷ build.CastExpr ∷ build.NewExpr ∷ build.SizeExpr ∷ build.Paren ∷ build.TupleExpr ∷ build.SetExpr ∷ build.EmptySetExpr ∷ build.MapExpr ∷ build.EmptyMapExpr ∷ build.Pair ∷ []

-- the action with a number, if there is one
abbrev pub action_with : ℕ → Option Action
action_with n = get_or (map Some all_actions) n None
