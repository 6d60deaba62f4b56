-- The list of the actions in the code is that of the definitions, and their numbers are their places in it.
use Rattle.std.specs.Prelude.{◌==◌, map, Some, None}
use Rattle.std.proofs.Common.{◌≡◌, ◌≤◌, ◌<◌, ◌+◌, ℕ, zero, suc, List, [], ◌∷◌, Bool, true, ◌&&◌, get_or, length, refl, ◌∙◌, arith, lit<}
use Rattle.std.proofs.lemmas.Bool.{eqb-true, and_parts}
use Rattle.sp_words.specs.declared.operators.BinaryOp.TheVariants as binary
use Rattle.sp_words.specs.declared.operators.UnaryOp.TheVariants as unary
use Rattle.sp_words.specs.declared.operators.AssignOp.TheVariants as assign
use Rattle.sp_grammar.specs.declared.actions.Action.{Action}
use Rattle.sp_grammar.specs.declared.actions.Action.TheVariants as build
use Rattle.sp_grammar.specs.declared.actions.TheConstants.{ACTIONS}
use Rattle.sp_grammar.specs.Actions.{action_number, action_with, all_actions}

in_list : (xs : List Action) (n : ℕ) (d : Action) → n < length xs → Some (get_or xs n d) ≡ get_or (map Some xs) n None
in_list [] n d h = absurd (omega arith)
in_list (x ∷ xs) zero d h = refl
in_list (x ∷ xs) (suc n) d h = in_list xs n d (omega arith)

past_list : (xs : List Action) (n : ℕ) → length xs ≤ n → None ≡ get_or (map Some xs) n None
past_list [] n h = refl
past_list (x ∷ xs) zero h = absurd (omega arith)
past_list (x ∷ xs) (suc n) h = past_list xs n (omega arith)

pub action_there : (n : ℕ) (d : Action) → n < 143 → Some (get_or ACTIONS n d) ≡ action_with n
action_there n d h = in_list ACTIONS n d h

pub no_action : (n : ℕ) → 143 ≤ n → None ≡ action_with n
no_action n h = past_list all_actions n h

abbrev counts : ℕ → List Action → Bool
counts k [] = true
counts k (x ∷ xs) = (action_number x == k) && counts (suc k) xs

counted : (xs : List Action) (k n : ℕ) (d : Action) → counts k xs ≡ true → n < length xs → action_number (get_or xs n d) ≡ k + n
counted [] k n d t h = absurd (omega arith)
counted (x ∷ xs) k zero d t h = let e : action_number x ≡ k = eqb-true (action_number x) k (and_parts (action_number x == k) (counts (suc k) xs) t).0 in e ∙ omega arith
counted (x ∷ xs) k (suc n) d t h = counted xs (suc k) n d (and_parts (action_number x == k) (counts (suc k) xs) t).1 (omega arith) ∙ omega arith

pub number_there : (n : ℕ) (d : Action) → n < 143 → action_number (get_or ACTIONS n d) ≡ n
number_there n d h = counted ACTIONS 0 n d refl h ∙ omega arith

pub below : (m : Action) → action_number m < 143
below build.Begin = lit< tt
below build.Name = lit< tt
below build.Row = lit< tt
below build.ModuleDecl = lit< tt
below build.ImportDecl = lit< tt
below build.ByteOrderDecl = lit< tt
below build.String = lit< tt
below build.VersionDecl = lit< tt
below build.TypeDecl = lit< tt
below build.ConstDecl = lit< tt
below build.FunctionDecl = lit< tt
below build.OnDecl = lit< tt
below build.PublicTypeDecl = lit< tt
below build.PublicConstDecl = lit< tt
below build.PublicFunctionDecl = lit< tt
below build.Path = lit< tt
below build.Absent = lit< tt
below build.HookName = lit< tt
below build.Hook = lit< tt
below build.EachBody = lit< tt
below build.HookBody = lit< tt
below build.InoutParameter = lit< tt
below build.Parameter = lit< tt
below build.PathType = lit< tt
below build.IntType = lit< tt
below build.BoolType = lit< tt
below build.BytesType = lit< tt
below build.StringType = lit< tt
below build.VoidType = lit< tt
below build.TupleType = lit< tt
below build.VectorType = lit< tt
below build.SetType = lit< tt
below build.MapType = lit< tt
below build.EnumType = lit< tt
below build.Number = lit< tt
below build.BitfieldType = lit< tt
below build.Unit = lit< tt
below build.UnitType = lit< tt
below build.Label = lit< tt
below build.Bits = lit< tt
below build.FilterItem = lit< tt
below build.ByteOrderItem = lit< tt
below build.MimeTypeItem = lit< tt
below build.DescriptionItem = lit< tt
below build.VariableItem = lit< tt
below build.SinkItem = lit< tt
below build.OnItem = lit< tt
below build.PartItem = lit< tt
below build.NameTarget = lit< tt
below build.HookTarget = lit< tt
below build.SwitchPart = lit< tt
below build.OtherwiseGuard = lit< tt
below build.Arm = lit< tt
below build.ValuesGuard = lit< tt
below build.LookAheadGuard = lit< tt
below build.NothingBody = lit< tt
below build.OneBody = lit< tt
below build.ManyBody = lit< tt
below build.Field = lit< tt
below build.FieldPart = lit< tt
below build.Count = lit< tt
below build.Attribute = lit< tt
below build.TypeBase = lit< tt
below build.BytesBase = lit< tt
below build.RegexBase = lit< tt
below build.GroupBase = lit< tt
below build.UnitBase = lit< tt
below build.NumberBase = lit< tt
below build.IntBase = lit< tt
below build.Block = lit< tt
below build.Branch = lit< tt
below build.IfStmt = lit< tt
below build.BlockStmt = lit< tt
below build.LocalStmt = lit< tt
below build.WhileStmt = lit< tt
below build.ForStmt = lit< tt
below build.SwitchStmt = lit< tt
below build.ReturnStmt = lit< tt
below build.BreakStmt = lit< tt
below build.ContinueStmt = lit< tt
below build.StopStmt = lit< tt
below build.ConfirmStmt = lit< tt
below build.RejectStmt = lit< tt
below build.PrintStmt = lit< tt
below build.ThrowStmt = lit< tt
below build.AssertStmt = lit< tt
below build.AddStmt = lit< tt
below build.DeleteStmt = lit< tt
below build.Case = lit< tt
below (build.Assign assign.Set) = lit< tt
below (build.Assign assign.Add) = lit< tt
below (build.Assign assign.Subtract) = lit< tt
below build.ExprStmt = lit< tt
below build.Choice = lit< tt
below (build.Binary binary.Or) = lit< tt
below (build.Binary binary.And) = lit< tt
below (build.Binary binary.In) = lit< tt
below (build.Binary binary.NotIn) = lit< tt
below (build.Binary binary.Equal) = lit< tt
below (build.Binary binary.NotEqual) = lit< tt
below (build.Binary binary.Less) = lit< tt
below (build.Binary binary.LessEqual) = lit< tt
below (build.Binary binary.Greater) = lit< tt
below (build.Binary binary.GreaterEqual) = lit< tt
below (build.Binary binary.BitOr) = lit< tt
below (build.Binary binary.BitXor) = lit< tt
below (build.Binary binary.BitAnd) = lit< tt
below (build.Binary binary.ShiftLeft) = lit< tt
below (build.Binary binary.ShiftRight) = lit< tt
below (build.Binary binary.Add) = lit< tt
below (build.Binary binary.Subtract) = lit< tt
below (build.Binary binary.Multiply) = lit< tt
below (build.Binary binary.Divide) = lit< tt
below (build.Binary binary.Remainder) = lit< tt
below (build.Unary unary.Not) = lit< tt
below (build.Unary unary.Negate) = lit< tt
below (build.Unary unary.Complement) = lit< tt
below build.Member = lit< tt
below build.SetMember = lit< tt
below build.Index = lit< tt
below build.Call = lit< tt
below build.PathExpr = lit< tt
below build.SelfExpr = lit< tt
below build.CurrentExpr = lit< tt
below build.NumberExpr = lit< tt
below build.StringExpr = lit< tt
below build.BytesExpr = lit< tt
below build.RegexExpr = lit< tt
below build.TrueExpr = lit< tt
below build.FalseExpr = lit< tt
below build.VectorExpr = lit< tt
below build.EmptyVectorExpr = lit< tt
below build.TypedNumberExpr = lit< tt
below build.CastExpr = lit< tt
below build.NewExpr = lit< tt
below build.SizeExpr = lit< tt
below build.Paren = lit< tt
below build.TupleExpr = lit< tt
below build.SetExpr = lit< tt
below build.EmptySetExpr = lit< tt
below build.MapExpr = lit< tt
below build.EmptyMapExpr = lit< tt
below build.Pair = lit< tt

pub no_number : (n : ℕ) → 143 ≤ n → (m : Action) → ¬ (action_number m ≡ n)
no_number n h m e = omega (arith, below m, h, e)
