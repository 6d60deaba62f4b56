-- What typing makes has the type that its form gives, and each name the type under which a body keeps it.
use Rattle.std.specs.Prelude.{ℕ, ◌≡◌, suc, Bool, true, false, not, ◌&&◌, ◌||◌, if◌then◌else◌, List, map, Option, Some, None, slice_get, IsTrue}
use Rattle.sp_base.specs.declared.places.Span.{Span}
use Rattle.sp_words.specs.declared.operators.UnaryOp.TheVariants as unary_is
use Rattle.sp_words.specs.declared.methods.Method.{Method}
use Rattle.sp_words.specs.declared.methods.Method.TheVariants as method_is
use Rattle.sp_ast.specs.Trees.{Tree}
use Rattle.sp_types.specs.declared.words.Maker.TheVariants as maker_is
use Rattle.sp_types.specs.Types.{Ty, made, tys, same, widens}
use Rattle.sp_typed.specs.declared.words.LeafOp.{LeafOp}
use Rattle.sp_typed.specs.declared.words.LeafOp.TheVariants as leaf_is
use Rattle.sp_typed.specs.declared.words.OneOp.{OneOp}
use Rattle.sp_typed.specs.declared.words.OneOp.TheVariants as one_is
use Rattle.sp_typed.specs.declared.words.TwoOp.{TwoOp}
use Rattle.sp_typed.specs.declared.words.TwoOp.TheVariants as two_is
use Rattle.sp_typed.specs.declared.words.ManyOp.{ManyOp}
use Rattle.sp_typed.specs.declared.words.ManyOp.TheVariants as many_is
use Rattle.sp_typed.specs.declared.words.UnitMethod.{UnitMethod}
use Rattle.sp_typed.specs.declared.words.UnitMethod.TheVariants as unit_is
use Rattle.sp_typed.specs.Exprs.{Expr, Exprs, leaf, one, two, three, many, none, more, exprs, listed, type_of, is_number}
use Rattle.sp_typed.specs.Nodes.{holds, all_hold}
use Rattle.sp_typed_units.specs.declared.declarations.Function.{Function}
use Rattle.sp_type_operands.specs.Operands.{unknown, is_unsigned, is_integer, is_boolean, is_bytes, is_text, first_type, sort_of, result_type, unary_type, second_type}
use Rattle.sp_type_operands.specs.Literals.{seen}
use Rattle.sp_type_operands.specs.Wholes.{row_type, map_type, tuple_type}
use Rattle.sp_type_context.specs.declared.context.Member.{Member}
use Rattle.sp_type_context.specs.declared.context.Callable.{Callable}
use Rattle.sp_type_context.specs.Contexts.{Around as Names}
use Rattle.sp_type_context.specs.Typing.{choice_type}
use Rattle.sp_type_methods.specs.Methods.{method_gives, method_takes, unit_method_gives}
use Rattle.sp_rule_bodies.specs.Values.{is_regex}
use Rattle.sp_rule_bodies.specs.Known.{Known}
use Rattle.sp_rule_bodies.specs.ExprTests.{is_unmeant}
use Rattle.sp_rule_lists.specs.Told.{function_takes, target_of}
use Rattle.sp_code_meaning.specs.Exprs.{slot_local}
use Rattle.sp_law_lists.specs.known_types.Full.{is_full, is_unknown}
use Rattle.sp_law_lists.specs.fit_expr.Around.{Around}
use Rattle.sp_law_lists.specs.fit_expr.Sorts.{Sort, Unsigned, Bytes, Text, Vectors, Maps, Units, casts}
use Rattle.sp_law_lists.specs.fit_expr.Test.{is_sort, is_enum, tuple_has, leaf_is_of, has_member, has_range, owner_is}

-- a key that goes to a type is of it, or widened to it
abbrev pub is_targeted : Ty → Expr → Bool
is_targeted t e = not (widens (seen e) t && not (same (seen e) t))

-- an element of a value of a type: the element of a vector, the value of a map; nothing is known of others, as of the key of a set
abbrev pub element_made : Ty → Ty → Expr → Bool
element_made (made maker_is.Vector ts) t i = same t (first_type ts)
element_made (made maker_is.Map ts) t i = same t (second_type ts) && is_targeted (first_type ts) i
element_made (made maker_is.Set ts) t i = is_unknown t && is_targeted (first_type ts) i
element_made s t i = is_unknown t

abbrev pub two_made : TwoOp → Ty → Expr → Expr → Bool
two_made (two_is.Binary op) t a b = same t (result_type (sort_of op) (seen a) (seen b))
two_made two_is.Index t a i = element_made (seen a) t i
two_made (two_is.Item n) t a i = tuple_has (seen a) n t

-- keys and values in turn end with a value
abbrev pub is_even : Exprs → Bool
is_even none = true
is_even (more k none) = false
is_even (more k (more v es)) = is_even es

-- each argument that goes to a target is of it, or widened to it, where the first of them has the number n
abbrev pub maybe_targeted : Option Ty → Expr → Bool
maybe_targeted (Some t) e = is_targeted t e
maybe_targeted None e = true

abbrev pub are_targeted : (ℕ → Option Ty) → ℕ → Exprs → Bool
are_targeted target n none = true
are_targeted target n (more e es) = maybe_targeted (target n) e && are_targeted target (suc n) es

-- what a function gives; nothing is known of one that isn't there
abbrev pub given_by : Option Function → Ty
given_by (Some f) = f.result
given_by None = unknown

-- of which sort the receivers of a method are
abbrev pub receiver_sort : Method → Sort
receiver_sort method_is.Encode = Text
receiver_sort method_is.PushBack = Vectors
receiver_sort method_is.PopBack = Vectors
receiver_sort method_is.Front = Vectors
receiver_sort method_is.Back = Vectors
receiver_sort method_is.Get = Maps
receiver_sort method_is.GetOr = Maps
receiver_sort m = Bytes

-- a call of a method: its receiver is of the method's sort, and it gives what the method gives
abbrev pub method_made : Method → Ty → Exprs → Bool
method_made m t none = false
method_made m t (more r es) =
    is_sort (seen r) (receiver_sort m) && same t (method_gives m (seen r)) && are_targeted (slice_get (method_takes m (seen r))) 0 es

abbrev pub unit_method_made : UnitMethod → Ty → Exprs → Bool
unit_method_made m t none = false
unit_method_made m t (more r es) = is_sort (seen r) Units && same t (unit_method_gives m)

-- a method that values of a type have, as what is called, with the type of what it gives; it has no slot yet
abbrev pub has_slot : Option ℕ → Bool
has_slot (Some s) = true
has_slot None = false

abbrev pub callable_made : Ty → ManyOp → Ty → Bool
callable_made s (many_is.Method m slot) t = is_sort s (receiver_sort m) && same t (method_gives m s) && not (has_slot slot)
callable_made s (many_is.OfUnit m name) t = is_sort s Units && same t (unit_method_gives m)
callable_made s (many_is.OfSink m) t = true
callable_made s op t = false

-- what takes arguments of which it is asked to which types they go
abbrev pub takes_arguments : ManyOp → Bool
takes_arguments (many_is.Call f) = true
takes_arguments (many_is.Method m slot) = true
takes_arguments op = false

-- in what stands round the code of an expression
module _ (around : Around) where
  -- A leaf: a literal, or a name that a body keeps with its type. `self` and `$$` may be unmeant, and a constant may be a regular
  -- expression, which other rules refuse.
  abbrev pub leaf_made : LeafOp → Ty → Bool
  leaf_made leaf_is.True t = is_boolean t
  leaf_made leaf_is.False t = is_boolean t
  leaf_made (leaf_is.Number n) t = is_integer t
  leaf_made (leaf_is.TypedNumber n) t = is_integer t
  leaf_made (leaf_is.Text x) t = is_text t
  leaf_made (leaf_is.Bytes x) t = is_bytes t
  leaf_made (leaf_is.Regex x) t = is_regex t
  leaf_made (leaf_is.Itself s) t = is_unmeant s || leaf_is_of around (leaf_is.Itself s) t
  leaf_made (leaf_is.Current s) t = is_unmeant s || leaf_is_of around (leaf_is.Current s) t
  leaf_made (leaf_is.Local l) t = leaf_is_of around (leaf_is.Local l) t
  leaf_made (leaf_is.Parameter n s) t = leaf_is_of around (leaf_is.Parameter n s) t
  leaf_made (leaf_is.Constant c) t = is_regex t || leaf_is_of around (leaf_is.Constant c) t
  leaf_made (leaf_is.Label k l) t = leaf_is_of around (leaf_is.Label k l) t
  leaf_made op t = true

  -- a member of a value of a type: one that a unit or a bitfield of the list has; a bitfield of a wrong width has ranges of no type
  abbrev pub member_made : OneOp → Ty → Ty → Bool
  member_made (one_is.Field m) s t = has_member around s m t
  member_made (one_is.Variable m) s t = has_member around s m t
  member_made (one_is.Bit r) s t = has_range around s r && (is_unknown t || casts Unsigned t)
  member_made (one_is.SinkOf m) s t = true
  member_made op s t = false

  -- what is done to one value: a minus sign before a number makes a literal, which may be of any integer type
  abbrev pub one_made : OneOp → Ty → Expr → Bool
  one_made one_is.Negate t a = if is_number a then is_integer t else same t (unary_type unary_is.Negate (seen a))
  one_made one_is.Not t a = is_boolean t
  one_made one_is.Complement t a = same t (unary_type unary_is.Complement (seen a))
  one_made one_is.Size t a = is_unsigned t
  one_made (one_is.Cast w) t a = is_integer t || is_unknown t
  one_made one_is.Widen t a = widens (seen a) t
  one_made (one_is.Field m) t a = member_made (one_is.Field m) (seen a) t
  one_made (one_is.Variable m) t a = member_made (one_is.Variable m) (seen a) t
  one_made (one_is.Bit r) t a = member_made (one_is.Bit r) (seen a) t
  one_made (one_is.IsSet m) t a = is_sort (seen a) Units && is_boolean t
  one_made op t a = true

  abbrev pub many_made : ManyOp → Ty → Exprs → Bool
  many_made many_is.Tuple t es = same t (tuple_type (map seen (listed es)))
  many_made many_is.Vector t es = same t (row_type maker_is.Vector (listed es))
  many_made many_is.Set t es = same t (row_type maker_is.Set (listed es))
  many_made many_is.Map t es = same t (map_type (listed es)) && is_even es
  many_made (many_is.Convert k) t es = is_enum k t
  many_made (many_is.Call f) t es =
      same t (given_by (slice_get around.list.functions f)) && are_targeted (function_takes (slice_get around.list.functions f)) 0 es
  many_made (many_is.Method m slot) t es = method_made m t es
  many_made (many_is.OfUnit m name) t es = unit_method_made m t es
  many_made op t es = true

  -- A node has the type that its form gives.
  abbrev pub is_made : Expr → Bool
  is_made (leaf h) = leaf_made h.op h.ty
  is_made (one h a) = one_made h.op h.ty a
  is_made (two h a b) = two_made h.op h.ty a b
  is_made (three h c a b) = same h.ty (choice_type a b)
  is_made (many h es) = many_made h.op h.ty es

  abbrev pub IsMade : Expr → Type 0
  IsMade e = IsTrue (holds is_made e)

  -- All that is named round an expression is made so, and members are members.
  pub record AreMade (g : Names) : Type 0 where
    pub path : (span : Span) (path : Tree) → IsMade (g.path span path)
    pub named : (span : Span) (path : Tree) → IsMade (g.named span path)
    pub itself : (span : Span) → IsMade (g.itself span)
    pub current : (span : Span) → IsMade (g.current span)
    pub left_out : (op : ManyOp) (span : Span) (n : ℕ) → IsTrue (all_hold is_made (exprs (g.left_out op span n)))
    pub member : (t : Ty) (name : List ℕ) (found : Member) → g.member t name ≡ Some found → IsTrue (member_made found.op t found.ty)
    pub method : (t : Ty) (name : List ℕ) (at : Span) (ts : List Ty) (found : Callable) → g.method t name at ts ≡ Some found → IsTrue (callable_made t found.op found.ty)
    pub result : (f : ℕ) → g.result f ≡ given_by (slice_get around.list.functions f)
    pub target : (op : ManyOp) (t : Ty) (n : ℕ) → IsTrue (takes_arguments op) → g.target op t n ≡ target_of around.list op t n
    pub filled : (op : ManyOp) (t : Ty) (span : Span) (n : ℕ) → IsTrue (takes_arguments op) → IsTrue (are_targeted (target_of around.list op t) n (exprs (g.left_out op span n)))

  -- What the rules ask of calls is what the list says, and parameters of functions have full types.
  pub record IsAsked (k : Known) : Type 0 where
    pub target : (op : ManyOp) (t : Ty) (n : ℕ) → k.target op t n ≡ target_of around.list op t n
    pub full : (f n : ℕ) (t : Ty) → function_takes (slice_get around.list.functions f) n ≡ Some t → IsTrue (is_full t)

  -- The owner of a changed member is kept in a local of its type, where it is kept in one.
  abbrev pub owner_kept : Option ℕ → Expr → Bool
  owner_kept owner (one h a) = owner_is around owner (type_of a)
  owner_kept owner (two h a b) = owner_kept owner a
  owner_kept owner e = true

  -- so is that of the receiver of a method, by its slot
  abbrev pub receiver_kept : ManyOp → Exprs → Bool
  receiver_kept (many_is.Method m slot) (more r es) = owner_kept (slot_local around.places slot) r
  receiver_kept op es = true

  abbrev pub keeps_owner : Expr → Bool
  keeps_owner (many h es) = receiver_kept h.op es
  keeps_owner e = true

-- what is built: all but sinks, `new`, and methods of units other than `offset`
abbrev pub is_operator : OneOp → Bool
is_operator one_is.Negate = true
is_operator one_is.Not = true
is_operator one_is.Complement = true
is_operator one_is.Size = true
is_operator (one_is.Cast w) = true
is_operator one_is.Widen = true
is_operator (one_is.Field m) = true
is_operator (one_is.Variable m) = true
is_operator (one_is.Bit r) = true
is_operator (one_is.IsSet m) = true
is_operator op = false

abbrev pub is_offset : UnitMethod → Bool
is_offset unit_is.Offset = true
is_offset m = false

abbrev pub is_row : ManyOp → Bool
is_row many_is.Tuple = true
is_row many_is.Vector = true
is_row many_is.Set = true
is_row many_is.Map = true
is_row (many_is.Convert k) = true
is_row (many_is.Call f) = true
is_row (many_is.Method m slot) = true
is_row (many_is.OfUnit m name) = is_offset m
is_row op = false

abbrev pub is_built : Expr → Bool
is_built (leaf h) = true
is_built (one h a) = is_operator h.op
is_built (two h a b) = true
is_built (three h c a b) = true
is_built (many h es) = is_row h.op
