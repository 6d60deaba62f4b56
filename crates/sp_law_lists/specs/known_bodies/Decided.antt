-- Whether it is known of indexes in which no rule is broken if they are constant.
use Rattle.std.specs.Prelude.{ℕ, Bool, true, ◌&&◌, List, [], ◌∷◌, IsTrue, IsFalse}
use Rattle.sp_ast.specs.Trees.{Tree}
use Rattle.sp_typed.specs.declared.words.OneOp.{OneOp}
use Rattle.sp_typed.specs.Exprs.{type_of}
use Rattle.sp_typed.specs.Nodes.{holds}
use Rattle.sp_type_context.specs.Contexts.{Around}
use Rattle.sp_type_operands.specs.Operands.{is_unsigned}
use Rattle.sp_type_operands.specs.Literals.{is_past}
use Rattle.sp_type_context.specs.Typing.{typed}
use Rattle.sp_type_stmts.specs.Scopes.{Local}
use Rattle.sp_type_stmts.specs.Visible.{with_locals}
use Rattle.sp_rule_bodies.specs.Known.{Known}
use Rattle.sp_law_lists.specs.known_types.Full.{is_full, is_right}
use Rattle.sp_law_lists.specs.known_types.Clear.{is_clear}
use Rattle.sp_law_lists.specs.known_types.Trees.{is_expr}
use Rattle.sp_law_lists.specs.known_types.Given.{is_decided}

-- of each unsigned expression that stands there and is no literal past its type
abbrev pub Decides : Around → (OneOp → Bool) → Known → ℕ → (Tree → Bool) → (Tree → Bool) → Type 0
Decides g only k m is_type is_path = (i : Tree) → IsTrue (is_expr is_type is_path i) → IsTrue (holds (is_clear only k m) (typed g i)) → IsTrue (holds is_right (typed g i)) → IsFalse (is_past (typed g i)) → IsTrue (is_unsigned (type_of (typed g i)))
    → IsTrue (is_decided (k.constancy (typed g i)))

-- locals of full types
abbrev pub locals_full : List Local → Bool
locals_full [] = true
locals_full (l ∷ ls) = is_full l.ty && locals_full ls

-- and the same wherever locals of full types are seen
abbrev pub DecidesUnder : Around → (OneOp → Bool) → Known → ℕ → (Tree → Bool) → (Tree → Bool) → Type 0
DecidesUnder g only k m is_type is_path = (ls : List Local) → IsTrue (locals_full ls) → Decides (with_locals ls g) only k m is_type is_path
