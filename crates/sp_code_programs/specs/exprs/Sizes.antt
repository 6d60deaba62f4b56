-- How many instructions expressions and places have, so that a jump past them can be written.
use Rattle.std.specs.Prelude.{ℕ, ◌+◌, Bool, false, ◌&&◌, Option, Some, None, if◌then◌else◌}
use Rattle.sp_words.specs.declared.methods.Method.{Method}
use Rattle.sp_words.specs.declared.operators.BinaryOp.{BinaryOp}
use Rattle.sp_words.specs.declared.operators.BinaryOp.TheVariants as op_is
use Rattle.sp_words.specs.Methods.{changes}
use Rattle.sp_value.specs.Val.{Val}
use Rattle.sp_typed.specs.declared.words.OneOp.{OneOp}
use Rattle.sp_typed.specs.declared.words.OneOp.TheVariants as one_is
use Rattle.sp_typed.specs.declared.words.TwoOp.{TwoOp}
use Rattle.sp_typed.specs.declared.words.TwoOp.TheVariants as two_is
use Rattle.sp_typed.specs.declared.words.ManyOp.{ManyOp}
use Rattle.sp_typed.specs.declared.words.ManyOp.TheVariants as many_is
use Rattle.sp_typed.specs.declared.words.UnitMethod.TheVariants as unit_method
use Rattle.sp_typed.specs.Exprs.{Expr, Exprs, leaf, one, two, three, many, none, more}
use Rattle.sp_code_meaning.specs.Layouts.{Layout}
use Rattle.sp_meaning.specs.Operations.{negative_literal, is_self, slot_of_receiver}
use Rattle.sp_code_meaning.specs.Exprs.{offset_local, slot_local, gives_result, is_item_place}

-- a literal with a minus sign is one constant
abbrev pub size_or : Option Val → ℕ → ℕ
size_or (Some v) n = 1
size_or None n = n

-- what stands behind a part
abbrev pub one_size : OneOp → ℕ
one_size (one_is.Bit r) = 3
one_size o = 1

-- what a node with two parts has, whose parts have so many
abbrev pub binary_size : BinaryOp → ℕ → ℕ → ℕ
binary_size op_is.And a b = a + (1 + (b + (1 + 1)))
binary_size op_is.Or a b = a + (1 + (1 + (1 + b)))
binary_size o a b = a + (b + 1)

abbrev pub two_size : TwoOp → ℕ → ℕ → ℕ
two_size (two_is.Binary o) a b = binary_size o a b
two_size two_is.Index a b = a + (b + 1)
two_size (two_is.Item n) a b = a + (1 + 1)

-- a method that changes its receiver: the receiver is loaded and stored
abbrev pub change_size : Method → ℕ → ℕ → ℕ → ℕ
change_size m load args store = load + (args + (1 + (store + (if gives_result m then 0 else 1))))

abbrev pub offset_size : Option ℕ → ℕ → ℕ
offset_size (Some l) n = 1
offset_size None n = n + 1

-- what a node with any number of parts has, whose parts have so many, or whose change of the receiver has
abbrev pub many_size : ManyOp → Option ℕ → ℕ → ℕ → ℕ
many_size (many_is.Method m slot) o parts change = if changes m then change else parts + 1
many_size (many_is.OfUnit unit_method.Offset at) o parts change = offset_size o parts
many_size op o parts change = parts + 1

-- the owner of a member that is kept, and how it is had again
abbrev pub keep_size : Option ℕ → ℕ → ℕ
keep_size (Some l) n = n + 1
keep_size None n = 0

abbrev pub owner_size : Option ℕ → ℕ → ℕ
owner_size (Some l) n = 1
owner_size None n = n

abbrev pub method_size : ManyOp → ℕ → ℕ → ℕ → ℕ
method_size (many_is.Method m slot) load args store = change_size m load args store
method_size op load args store = 0

-- whether a result stands on the container of the item that is changed, under which it goes
abbrev pub stands_on : ManyOp → Expr → Bool
stands_on (many_is.Method m slot) r = gives_result m && is_item_place r
stands_on op r = false

abbrev pub under_size : ManyOp → Expr → ℕ
under_size op r = if stands_on op r then 1 else 0

module _ (layout : Layout) where
  abbrev mutual
    pub expr_size : Expr → ℕ
    expr_size (leaf h) = 1
    expr_size (one h a) = size_or (negative_literal h a) (expr_size a + one_size h.op)
    expr_size (two h a b) = two_size h.op (expr_size a) (expr_size b)
    expr_size (three h c a b) = expr_size c + (1 + (expr_size a + (1 + expr_size b)))
    expr_size (many h es) = many_size h.op (offset_local layout (is_self es)) (exprs_size es) (receiver_size h.op es)

    pub exprs_size : Exprs → ℕ
    exprs_size none = 0
    exprs_size (more e es) = expr_size e + exprs_size es

    pub receiver_size : ManyOp → Exprs → ℕ
    receiver_size op none = 0
    receiver_size op (more r es) =
        method_size op (load_size (slot_local layout (slot_of_receiver op)) r) (exprs_size es) (under_size op r + store_size (slot_local layout (slot_of_receiver op)) r)

    -- what gives the value of a place, with what it leaves below it; and what puts a value there
    pub load_size : Option ℕ → Expr → ℕ
    load_size owner (leaf h) = 1
    load_size owner (one h a) = keep_size owner (expr_size a) + (owner_size owner (expr_size a) + 1)
    load_size owner (two h a b) = load_size owner a + (expr_size b + (1 + 1))
    load_size owner e = 0

    pub store_size : Option ℕ → Expr → ℕ
    store_size owner (leaf h) = 1
    store_size owner (one h a) = owner_size owner (expr_size a) + 1
    store_size owner (two h a b) = 1 + store_size owner a
    store_size owner e = 0

  -- `t = e`, `t o= e`, and `add s[k]`
  abbrev pub put_size : Option ℕ → Expr → ℕ → ℕ
  put_size owner (leaf h) n = n + 1
  put_size owner (one h a) n = keep_size owner (expr_size a) + (n + (owner_size owner (expr_size a) + 1))
  put_size owner (two h a b) n = load_size owner a + (expr_size b + (n + (1 + store_size owner a)))
  put_size owner target n = 0

  abbrev pub update_size : Option ℕ → Expr → ℕ → ℕ
  update_size owner target n = load_size owner target + (n + (1 + store_size owner target))

  abbrev pub key_size : Option ℕ → Expr → ℕ
  key_size owner (two h a b) = load_size owner a + (expr_size b + (1 + store_size owner a))
  key_size owner target = 0
