-- Nodes at which no rule is broken.
use Rattle.std.specs.Prelude.{ℕ, Bool, true, false, not, ◌&&◌, List, [], ◌∷◌}
use Rattle.sp_rules.specs.declared.fault.Fault.{Fault}
use Rattle.sp_typed.specs.declared.words.LeafOp.{LeafOp}
use Rattle.sp_typed.specs.declared.words.LeafOp.TheVariants as leaf_is
use Rattle.sp_typed.specs.declared.words.OneOp.{OneOp}
use Rattle.sp_typed.specs.Exprs.{Expr, leaf, one}
use Rattle.sp_rule_bodies.specs.Known.{Known}
use Rattle.sp_rule_bodies.specs.ExprTests.{expr_tests}

-- whether none of some tests holds
abbrev pub none_hold : List (Bool × Fault) → Bool
none_hold [] = true
none_hold (c ∷ cs) = not c.0 && none_hold cs

-- whether a path names something
abbrev pub names_path : LeafOp → Bool
names_path (leaf_is.Nothing name) = false
names_path _ = true

-- whether what is done to one value may be done where the node stands: a test says so of each operator, cast and member
abbrev pub may_stand : (OneOp → Bool) → Expr → Bool
may_stand only (one h a) = only h.op
may_stand only _ = true

abbrev pub names_something : Expr → Bool
names_something (leaf h) = names_path h.op
names_something _ = true

-- whether no rule on names and no rule of bodies is broken at a node that may stand there
abbrev pub is_clear : (OneOp → Bool) → Known → ℕ → Expr → Bool
is_clear only k m e = names_something e && (may_stand only e && none_hold (expr_tests k m e))

-- where all that can be done to a value may be done
abbrev pub any_op : OneOp → Bool
any_op op = true
