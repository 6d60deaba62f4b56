-- The code of expressions and of places.
use Rattle.std.specs.Prelude.{ℕ, ◌+◌, ◌-◌, Bool, true, false, List, [], ◌∷◌, ◌++◌, Option, Some, None, nat_lt, slice_get, unwrap_or, if◌then◌else◌}
use Rattle.sp_numbers.specs.declared.width.Width.TheVariants.{W64}
use Rattle.sp_words.specs.declared.operators.BinaryOp.{BinaryOp}
use Rattle.sp_words.specs.declared.operators.BinaryOp.TheVariants as op_is
use Rattle.sp_words.specs.declared.operators.UnaryOp.TheVariants as unary_is
use Rattle.sp_words.specs.declared.methods.Method.{Method}
use Rattle.sp_words.specs.Methods.{changes}
use Rattle.sp_value.specs.Val.{Val, void, bool, uint, bytes, str}
use Rattle.sp_operators.specs.declared.plain_type.PlainType.TheVariants as plain
use Rattle.sp_methods.specs.Kinds.{Kind, Void, Bools, Unsigned, Only}
use Rattle.sp_types.specs.Types.{Ty}
use Rattle.sp_typed.specs.declared.words.LeafOp.{LeafOp}
use Rattle.sp_typed.specs.declared.words.LeafOp.TheVariants as leaf_is
use Rattle.sp_typed.specs.declared.words.OneOp.{OneOp}
use Rattle.sp_typed.specs.declared.words.OneOp.TheVariants as one_is
use Rattle.sp_typed.specs.declared.words.TwoOp.{TwoOp}
use Rattle.sp_typed.specs.declared.words.TwoOp.TheVariants as two_is
use Rattle.sp_typed.specs.declared.words.ManyOp.{ManyOp}
use Rattle.sp_typed.specs.declared.words.ManyOp.TheVariants as many_is
use Rattle.sp_typed.specs.declared.words.UnitMethod.TheVariants as unit_method
use Rattle.sp_typed.specs.Exprs.{Expr, Exprs, leaf, one, two, three, many, none, more, type_of}
use Rattle.sp_meaning_states.specs.Types.{number_value, plain_type, zero_value, kind_of_type}
use Rattle.sp_meaning.specs.Globals.{Globals, label_value}
use Rattle.sp_code_meaning.specs.Layouts.{Layout}
use Rattle.sp_code_meaning.specs.Exprs.{how_many, offset_local, slot_local, gives_result}
use Rattle.sp_meaning.specs.Operations.{negative_literal, is_self, slot_of_receiver, member_named, local_named}
use Rattle.sp_code.specs.declared.instr.Instr.{Instr}
use Rattle.sp_code.specs.declared.instr.Instr.TheVariants as does
use Rattle.sp_code.specs.Shapes.{Shape, with_operands, push}
use Rattle.sp_code_programs.specs.exprs.Marked.{Marked, mark, constant}
use Rattle.sp_code_programs.specs.exprs.Sizes.{stands_on, under_size, expr_size, exprs_size, load_size, keep_size}

abbrev pub unless_literal : Option Val → Shape → List Marked → List Marked
unless_literal (Some v) s ms = constant s v ∷ []
unless_literal None s ms = ms

abbrev pub kind_at : List Kind → ℕ → Kind
kind_at ks n = unwrap_or (slice_get ks n) Void

-- what stands behind the code of a part, whose value is on top
abbrev pub one_code : Shape → Kind → OneOp → Ty → List Marked
one_code s k one_is.Negate t = mark (push k s) (does.Unary unary_is.Negate) ∷ []
one_code s k one_is.Not t = mark (push k s) (does.Unary unary_is.Not) ∷ []
one_code s k one_is.Complement t = mark (push k s) (does.Unary unary_is.Complement) ∷ []
one_code s k one_is.Size t = mark (push k s) does.Size ∷ []
one_code s k (one_is.Cast w) t = mark (push k s) (does.Cast (plain_type t)) ∷ []
one_code s k one_is.Widen t = mark (push k s) (does.Cast (plain_type t)) ∷ []
one_code s k (one_is.Field m) t = mark (push k s) (does.GetField m) ∷ []
one_code s k (one_is.Variable m) t = mark (push k s) (does.GetField m) ∷ []
one_code s k (one_is.Bit r) t = constant (push k s) (uint W64 r) ∷ mark (push (Only r) (push k s)) does.Index ∷ mark (push Unsigned s) (does.Cast (plain_type t)) ∷ []
one_code s k (one_is.IsSet m) t = mark (push k s) (does.HasField m) ∷ []
one_code s k o t = constant (push k s) void ∷ []

-- the owner of a member: its code and where it is kept, and how it is had again
abbrev pub keep_code : Option ℕ → Shape → Kind → List Marked → List Marked
keep_code (Some l) s k ms = ms ++ mark (push k s) (does.Store l) ∷ []
keep_code None s k ms = []

abbrev pub owner_code : Option ℕ → Shape → List Marked → List Marked
owner_code (Some l) s ms = mark s (does.Load l) ∷ []
owner_code None s ms = ms

abbrev pub member_of : OneOp → ℕ
member_of o = unwrap_or (member_named o) 0

abbrev pub count : Exprs → ℕ
count es = how_many es

-- the value that an expression of a method without a result has
abbrev pub result_code : Method → Shape → List Marked
result_code m s = if gives_result m then [] else constant s void ∷ []

-- how many operands a place leaves below its value when it is loaded
abbrev pub pending_count : Expr → ℕ
pending_count (two h a b) = pending_count a + 2
pending_count e = 0

-- what puts a result under them
abbrev pub under_code : Bool → ℕ → Shape → List Marked
under_code true n s = mark s (does.Under n) ∷ []
under_code false n s = []

module _ (globals : Globals) (layout : Layout) where
  abbrev pub kind_of : Expr → Kind
  kind_of e = kind_of_type globals.ranges (type_of e)

  -- the kinds of values in turn, the last on top, on these
  abbrev pub kinds_on : Exprs → List Kind → List Kind
  kinds_on none ks = ks
  kinds_on (more e es) ks = kinds_on es (kind_of e ∷ ks)

  abbrev pub constant_code : Shape → Option (Option Val) → List Marked
  constant_code s (Some (Some v)) = constant s v ∷ []
  constant_code s o = constant s void ∷ []

  abbrev pub parameter_code : Shape → ℕ → List Marked
  parameter_code s n = if nat_lt n layout.own then mark s (does.Load n) ∷ [] else mark s (does.Param (n - layout.own)) ∷ []

  abbrev pub leaf_code : Shape → LeafOp → Ty → List Marked
  leaf_code s leaf_is.True t = constant s (bool true) ∷ []
  leaf_code s leaf_is.False t = constant s (bool false) ∷ []
  leaf_code s (leaf_is.Number n) t = constant s (number_value t false n) ∷ []
  leaf_code s (leaf_is.TypedNumber n) t = constant s (number_value t false n) ∷ []
  leaf_code s (leaf_is.Text x) t = constant s (str x) ∷ []
  leaf_code s (leaf_is.Bytes b) t = constant s (bytes b) ∷ []
  leaf_code s (leaf_is.Empty w) t = constant s (zero_value globals.ranges t) ∷ []
  leaf_code s (leaf_is.Itself x) t = mark s does.SelfUnit ∷ []
  leaf_code s (leaf_is.Current x) t = mark s (does.Load layout.current) ∷ []
  leaf_code s (leaf_is.Local l) t = mark s (does.Load (layout.first + l)) ∷ []
  leaf_code s (leaf_is.Parameter n x) t = parameter_code s n
  leaf_code s (leaf_is.Constant c) t = constant_code s (slice_get globals.constants c)
  leaf_code s (leaf_is.Label k l) t = constant s (label_value globals k l) ∷ []
  leaf_code s l t = constant s void ∷ []

  -- what is left on the operands below the value of a place that is loaded: the containers, each under its key
  abbrev pub pending : Shape → Expr → Shape
  pending s (two h a b) = push (kind_of b) (push (kind_of a) (pending s a))
  pending s e = s

  -- what a node with any number of parts does with their values, which stand on top
  abbrev pub many_code : Shape → ManyOp → ℕ → List Marked
  many_code s many_is.Tuple n = mark s (does.MakeTuple n) ∷ []
  many_code s many_is.Vector n = mark s (does.MakeVector n) ∷ []
  many_code s many_is.Set n = mark s (does.MakeSet n) ∷ []
  many_code s many_is.Map n = mark s (does.MakeMap n) ∷ []
  many_code s (many_is.Call f) n = mark s (does.Call f) ∷ []
  many_code s (many_is.Convert k) n = mark s (does.Cast (plain.Enum k)) ∷ []
  many_code s (many_is.Method m slot) n = mark s (does.Lib m) ∷ []
  many_code s (many_is.OfUnit unit_method.Offset at) n = mark s does.Offset ∷ []
  many_code s op n = constant s void ∷ []

  -- the offset of the field at hand, where it is kept in a local
  abbrev pub kept_offset : Shape → ManyOp → Option ℕ → List Marked → List Marked
  kept_offset s (many_is.OfUnit unit_method.Offset at) (Some l) ms = mark s (does.Load l) ∷ []
  kept_offset s op o ms = ms

  abbrev pub changing : ManyOp → List Marked → List Marked → List Marked
  changing (many_is.Method m slot) change ms = if changes m then change else ms
  changing op change ms = ms

  -- the call of a method that changes its receiver, with how many it has below it
  abbrev pub method_code : ManyOp → Shape → Shape → List Marked → List Marked → List Marked → List Marked
  method_code (many_is.Method m slot) s t load args store = load ++ (args ++ mark t (does.Lib m) ∷ (store ++ result_code m s))
  method_code op s t load args store = []

  -- what stands behind the code of a first part, where this is that of the second part by its shape and address
  abbrev pub binary_code : Shape → ℕ → BinaryOp → ℕ → ℕ → Kind → Kind → List Marked → (Shape → ℕ → List Marked) → List Marked
  binary_code s at op_is.And m n j k a b =
      let at_b = at + m + 1 in
      let at_false = at_b + n + 1 in
      a ++ mark (push Bools s) (does.JumpNot at_false) ∷ (b s at_b ++ mark (push Bools s) (does.Jump (at_false + 1)) ∷ constant s (bool false) ∷ [])
  binary_code s at op_is.Or m n j k a b =
      let at_b = at + m + 1 + 1 + 1 in
      a ++ mark (push Bools s) (does.JumpNot at_b) ∷ constant s (bool true) ∷ mark (push Bools s) (does.Jump (at_b + n)) ∷ b s at_b
  binary_code s at o m n j k a b = a ++ (b (push j s) (at + m) ++ mark (push k (push j s)) (does.Binary o) ∷ [])

  abbrev pub two_code : Shape → ℕ → TwoOp → ℕ → ℕ → Kind → Kind → List Marked → (Shape → ℕ → List Marked) → List Marked
  two_code s at (two_is.Binary o) m n j k a b = binary_code s at o m n j k a b
  two_code s at two_is.Index m n j k a b = a ++ (b (push j s) (at + m) ++ mark (push k (push j s)) does.Index ∷ [])
  two_code s at (two_is.Item i) m n j k a b = a ++ constant (push j s) (uint W64 i) ∷ mark (push (Only i) (push j s)) does.Index ∷ []

  -- a local of a place
  abbrev pub place_local : LeafOp → ℕ
  place_local o = layout.first + unwrap_or (local_named o) 0

  -- what a method's result is put on, if it has one
  abbrev pub with_result : ManyOp → Kind → Shape → Shape
  with_result (many_is.Method m slot) k s = if gives_result m then push k s else s
  with_result op k s = s

  abbrev mutual
    -- an expression at an address, before which the shape is s, and behind which its value is on top
    pub expr_code : Shape → ℕ → Expr → List Marked
    expr_code s at (leaf h) = leaf_code s h.op h.ty
    expr_code s at (one h a) = unless_literal (negative_literal h a) s (expr_code s at a ++ one_code s (kind_of a) h.op h.ty)
    expr_code s at (two h a b) =
        two_code s at h.op (expr_size layout a) (expr_size layout b) (kind_of a) (kind_of b) (expr_code s at a) (λ t at. expr_code t at b)
    expr_code s at (three h c a b) =
        let at_a = at + expr_size layout c + 1 in
        let at_b = at_a + expr_size layout a + 1 in
        expr_code s at c ++ mark (push Bools s) (does.JumpNot at_b) ∷ (expr_code s at_a a ++ mark (push (kind_of a) s) (does.Jump (at_b + expr_size layout b)) ∷ expr_code s at_b b)
    expr_code s at (many h es) =
        kept_offset s h.op (offset_local layout (is_self es)) (changing h.op
        (receiver_code s at h.op (kind_of_type globals.ranges h.ty) es)
        (exprs_code s at es ++ many_code (with_operands s (kinds_on es s.operands)) h.op (count es)))

    pub exprs_code : Shape → ℕ → Exprs → List Marked
    exprs_code s at none = []
    exprs_code s at (more e es) = expr_code s at e ++ exprs_code (push (kind_of e) s) (at + expr_size layout e) es

    -- the call of a method that changes its receiver, and whose result is of a kind
    pub receiver_code : Shape → ℕ → ManyOp → Kind → Exprs → List Marked
    receiver_code s at op k none = []
    receiver_code s at op k (more r es) =
        let owner = slot_local layout (slot_of_receiver op) in
        let t = push (kind_of r) (pending s r) in
        let at_args = at + load_size layout owner r in
        let at_store = at_args + exprs_size layout es + 1 + under_size op r in
        method_code op s (with_operands t (kinds_on es t.operands)) (load_code owner s at r) (exprs_code t at_args es)
        (under_code (stands_on op r) (pending_count r) (push (kind_of r) (push k (pending s r))) ++ store_code owner (with_result op k s) at_store r)

    -- what gives the value of a place, and below it what is pending
    pub load_code : Option ℕ → Shape → ℕ → Expr → List Marked
    load_code owner s at (leaf h) = mark s (does.Load (place_local h.op)) ∷ []
    load_code owner s at (one h a) =
        keep_code owner s (kind_of a) (expr_code s at a) ++ (owner_code owner s (expr_code s (at + keep_size owner (expr_size layout a)) a) ++ mark (push (kind_of a) s) (does.GetField (member_of h.op)) ∷ [])
    load_code owner s at (two h a b) =
        let t = push (kind_of a) (pending s a) in
        let u = push (kind_of b) t in
        load_code owner s at a ++ (expr_code t (at + load_size layout owner a) b ++ mark u does.Dup ∷ mark (push (kind_of b) (push (kind_of a) u)) does.Index ∷ [])
    load_code owner s at e = []

    -- what puts a value, which stands on what is pending, in a place
    pub store_code : Option ℕ → Shape → ℕ → Expr → List Marked
    store_code owner s at (leaf h) = mark (push (kind_of (leaf h)) s) (does.Store (place_local h.op)) ∷ []
    store_code owner s at (one h a) =
        let t = push (kind_of (one h a)) s in
        owner_code owner t (expr_code t at a) ++ mark (push (kind_of a) t) (does.SetField (member_of h.op)) ∷ []
    store_code owner s at (two h a b) = mark (push (kind_of (two h a b)) (pending s (two h a b))) does.SetIndex ∷ store_code owner s (at + 1) a
    store_code owner s at e = []

  -- `t = e`, by the code and the size of e
  abbrev pub put_code : Option ℕ → Shape → ℕ → Expr → Kind → ℕ → (Shape → ℕ → List Marked) → List Marked
  put_code owner s at (leaf h) k n e = e s at ++ mark (push k s) (does.Store (place_local h.op)) ∷ []
  put_code owner s at (one h a) k n e =
      let at_e = at + keep_size owner (expr_size layout a) in
      keep_code owner s (kind_of a) (expr_code s at a) ++ (e s at_e ++ (owner_code owner (push k s) (expr_code (push k s) (at_e + n) a) ++ mark (push (kind_of a) (push k s)) (does.SetField (member_of h.op)) ∷ []))
  put_code owner s at (two h a b) k n e =
      let t = push (kind_of a) (pending s a) in
      let u = push (kind_of b) t in
      let at_b = at + load_size layout owner a in
      let at_e = at_b + expr_size layout b in
      load_code owner s at a ++ (expr_code t at_b b ++ (e u at_e ++ mark (push k u) does.SetIndex ∷ store_code owner s (at_e + n + 1) a))
  put_code owner s at target k n e = []

  -- `t o= e`
  abbrev pub update_code : Option ℕ → Shape → ℕ → Expr → BinaryOp → Kind → ℕ → (Shape → ℕ → List Marked) → List Marked
  update_code owner s at target o k n e =
      let t = push (kind_of target) (pending s target) in
      let at_e = at + load_size layout owner target in
      load_code owner s at target ++ (e t at_e ++ mark (push k t) (does.Binary o) ∷ store_code owner s (at_e + n + 1) target)

  -- `add s[k]` and `delete s[k]`
  abbrev pub key_code : Option ℕ → Shape → ℕ → Expr → Instr → List Marked
  key_code owner s at (two h a b) i =
      let t = push (kind_of a) (pending s a) in
      let at_b = at + load_size layout owner a in
      load_code owner s at a ++ (expr_code t at_b b ++ mark (push (kind_of b) t) i ∷ store_code owner s (at_b + expr_size layout b + 1) a)
  key_code owner s at target i = []
