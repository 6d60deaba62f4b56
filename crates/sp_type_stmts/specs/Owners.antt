-- The owners of changed members. A value that owns a member which is changed is kept in a slot of its own, unless it is `self`
-- or a local, which are at hand.
use Rattle.std.specs.Prelude.{ℕ, Bool, true, false, not, ◌&&◌, if◌then◌else◌, List, [], ◌∷◌, length, Option, Some, None}
use Rattle.sp_words.specs.Methods.{changes}
use Rattle.sp_types.specs.Types.{Ty}
use Rattle.sp_typed.specs.declared.heads.Many.{Many}
use Rattle.sp_typed.specs.declared.words.LeafOp.{LeafOp}
use Rattle.sp_typed.specs.declared.words.LeafOp.TheVariants as leaf_is
use Rattle.sp_typed.specs.declared.words.OneOp.{OneOp}
use Rattle.sp_typed.specs.declared.words.OneOp.TheVariants as one_is
use Rattle.sp_typed.specs.declared.words.TwoOp.{TwoOp}
use Rattle.sp_typed.specs.declared.words.TwoOp.TheVariants as two_is
use Rattle.sp_typed.specs.declared.words.ManyOp.{ManyOp}
use Rattle.sp_typed.specs.declared.words.ManyOp.TheVariants as many_is
use Rattle.sp_typed.specs.Exprs.{Expr, Exprs, leaf, one, two, three, many, none, more, exprs, type_of}
use Rattle.sp_type_stmts.specs.Scopes.{Scope, with_slot}

-- `self`, and locals
abbrev pub at_hand_leaf : LeafOp → Bool
at_hand_leaf (leaf_is.Itself standing) = true
at_hand_leaf (leaf_is.Local slot) = true
at_hand_leaf _ = false

abbrev pub is_at_hand : Expr → Bool
is_at_hand (leaf h) = at_hand_leaf h.op
is_at_hand _ = false

-- members of a unit that can be changed
abbrev pub is_changeable : OneOp → Bool
is_changeable (one_is.Field n) = true
is_changeable (one_is.Variable n) = true
is_changeable _ = false

abbrev pub is_index : TwoOp → Bool
is_index two_is.Index = true
is_index _ = false

-- the type of the owner that has to be kept where this is changed: a member, or an element of what is one
abbrev pub owner : Expr → Option Ty
owner (one h a) = if is_changeable h.op && not (is_at_hand a) then Some (type_of a) else None
owner (two h a i) = if is_index h.op then owner a else None
owner _ = None

-- the slot of such an owner, which is the next one
abbrev pub owner_slot : Scope → Option Ty → Option ℕ
owner_slot sc None = None
owner_slot sc (Some t) = Some (length sc.slots)

abbrev pub with_owner : Scope → Option Ty → Scope
with_owner sc None = sc
with_owner sc (Some t) = with_slot sc t

-- the owner of the receiver, where a method changes it
abbrev pub receiver_owner : List Expr → Option Ty
receiver_owner [] = None
receiver_owner (e ∷ es) = owner e

abbrev pub changed_owner : ManyOp → List Expr → Option Ty
changed_owner (many_is.Method m slot) es = if changes m then receiver_owner es else None
changed_owner _ es = None

abbrev pub with_slot_of : ManyOp → Option ℕ → ManyOp
with_slot_of (many_is.Method m old) slot = many_is.Method m slot
with_slot_of op slot = op

abbrev pub many_kept : Scope → Many → Option Ty → List Expr → Expr × Scope
many_kept sc h o es =
    (many (record { span = h.span; ty = h.ty; op = with_slot_of h.op (owner_slot sc o) }) (exprs es), with_owner sc o)

-- An expression in which each method that changes its receiver has a slot for the owner, where that has to be kept. The slots
-- of its parts come before its own, in the order of the parts.
abbrev mutual
  pub kept : Scope → Expr → Expr × Scope
  kept sc (leaf h) = (leaf h, sc)
  kept sc (one h a) = let x = kept sc a in (one h x.0, x.1)
  kept sc (two h a b) = let x = kept sc a in let y = kept x.1 b in (two h x.0 y.0, y.1)
  kept sc (three h a b c) =
      let x = kept sc a in let y = kept x.1 b in let z = kept y.1 c in (three h x.0 y.0 z.0, z.1)
  kept sc (many h es) = let xs = all_kept sc es in many_kept xs.1 h (changed_owner h.op xs.0) xs.0

  pub all_kept : Scope → Exprs → List Expr × Scope
  all_kept sc none = ([], sc)
  all_kept sc (more e es) = let x = kept sc e in let xs = all_kept x.1 es in (x.0 ∷ xs.0, xs.1)
