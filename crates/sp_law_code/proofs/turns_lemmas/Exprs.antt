-- The code of expressions and of places leads only further on.
use Rattle.std.proofs.Common.{◌≡◌, ℕ, ◌+◌, ◌-◌, Bool, true, false, List, [], ◌∷◌, ◌++◌, length, Option, Some, None, refl, arith, length-append}
use Rattle.std.specs.Prelude.{nat_lt, slice_get, if◌then◌else◌}
use Rattle.sp_words.specs.declared.operators.BinaryOp.{BinaryOp}
use Rattle.sp_words.specs.declared.operators.BinaryOp.TheVariants as op_is
use Rattle.sp_words.specs.declared.methods.Method.{Method}
use Rattle.sp_words.specs.Methods.{changes}
use Rattle.sp_value.specs.Val.{Val, void}
use Rattle.sp_methods.specs.Kinds.{Kind}
use Rattle.sp_types.specs.Types.{Ty}
use Rattle.sp_typed.specs.declared.words.LeafOp.{LeafOp}
use Rattle.sp_typed.specs.declared.words.LeafOp.TheVariants as leaf_is
use Rattle.sp_typed.specs.declared.words.OneOp.{OneOp}
use Rattle.sp_typed.specs.declared.words.OneOp.TheVariants as one_is
use Rattle.sp_typed.specs.declared.words.TwoOp.{TwoOp}
use Rattle.sp_typed.specs.declared.words.TwoOp.TheVariants as two_is
use Rattle.sp_typed.specs.declared.words.ManyOp.{ManyOp}
use Rattle.sp_typed.specs.declared.words.ManyOp.TheVariants as many_is
use Rattle.sp_typed.specs.declared.words.UnitMethod.TheVariants as unit_method
use Rattle.sp_typed.specs.Exprs.{Expr, Exprs, leaf, one, two, three, many, none, more}
use Rattle.sp_meaning_states.specs.Types.{kind_of_type}
use Rattle.sp_meaning.specs.Globals.{Globals}
use Rattle.sp_code_meaning.specs.Layouts.{Layout}
use Rattle.sp_meaning.specs.Operations.{negative_literal, is_self, slot_of_receiver}
use Rattle.sp_code_meaning.specs.Exprs.{offset_local, slot_local, gives_result}
use Rattle.sp_code.specs.declared.instr.Instr.TheVariants as does
use Rattle.sp_code.specs.Shapes.{Shape, with_operands, push}
use Rattle.sp_code_programs.specs.exprs.Marked.{Marked, mark, constant}
use Rattle.sp_code_programs.specs.exprs.Sizes.{stands_on, under_size, keep_size, owner_size, expr_size, exprs_size, load_size}
use Rattle.sp_code_programs.specs.exprs.Code.{unless_literal, one_code, keep_code, owner_code, count, result_code, pending_count, under_code, kind_of, kinds_on, constant_code, parameter_code, leaf_code, pending, many_code, kept_offset, changing, method_code, binary_code, two_code, with_result, expr_code, exprs_code, receiver_code, load_code, store_code}
use Rattle.sp_law_code.proofs.exprs_lemmas.Sizes.{under_sized, keep_sized, owner_sized, expr_sized, exprs_sized, load_sized}
use Rattle.sp_law_code.proofs.turns_lemmas.Forward.{IsForward, to_next, then_forward}

literal_forward : (o : Option Val) (s : Shape) (pc : ℕ) (ms : List Marked) → IsForward 0 pc ms → IsForward 0 pc (unless_literal o s ms)
literal_forward (Some v) s pc ms h = (to_next pc 0 0, tt)
literal_forward None s pc ms h = h

one_forward : (s : Shape) (k : Kind) (o : OneOp) (t : Ty) (pc : ℕ) → IsForward 0 pc (one_code s k o t)
one_forward s k (one_is.Bit r) t pc = (to_next pc 2 0, (to_next (pc + 1) 1 0, (to_next (pc + 1 + 1) 0 0, tt)))
one_forward s k _ t pc = (to_next pc 0 0, tt)

-- the owner of a member is kept, and had again, where the code that gives it has this size
pub keep_forward : (owner : Option ℕ) (s : Shape) (k : Kind) (pc n : ℕ) (ms : List Marked) → length ms ≡ n → IsForward 0 pc ms → IsForward 0 pc (keep_code owner s k ms)
keep_forward (Some l) s k pc n ms e h = then_forward 0 pc n ms _ e h (to_next (pc + n) 0 0, tt)
keep_forward None s k pc n ms e h = tt

pub owner_forward : (owner : Option ℕ) (s : Shape) (pc : ℕ) (ms : List Marked) → IsForward 0 pc ms → IsForward 0 pc (owner_code owner s ms)
owner_forward (Some l) s pc ms h = (to_next pc 0 0, tt)
owner_forward None s pc ms h = h

result_forward : (m : Method) (s : Shape) (pc : ℕ) → IsForward 0 pc (result_code m s)
result_forward m s pc = cases (gives_result m)
  where
    cases : (b : Bool) → IsForward 0 pc (if b then [] else constant s void ∷ [])
    cases true = tt
    cases false = (to_next pc 0 0, tt)

under_forward : (b : Bool) (n : ℕ) (s : Shape) (pc : ℕ) → IsForward 0 pc (under_code b n s)
under_forward true n s pc = (to_next pc 0 0, tt)
under_forward false n s pc = tt

module _ (globals : Globals) (layout : Layout) where
  constant_forward : (s : Shape) (o : Option (Option Val)) (pc : ℕ) → IsForward 0 pc (constant_code globals layout s o)
  constant_forward s (Some (Some v)) pc = (to_next pc 0 0, tt)
  constant_forward s (Some None) pc = (to_next pc 0 0, tt)
  constant_forward s None pc = (to_next pc 0 0, tt)

  parameter_forward : (s : Shape) (n pc : ℕ) → IsForward 0 pc (parameter_code globals layout s n)
  parameter_forward s n pc = cases (nat_lt n layout.own)
    where
      cases : (b : Bool) → IsForward 0 pc (if b then mark s (does.Load n) ∷ [] else mark s (does.Param (n - layout.own)) ∷ [])
      cases true = (to_next pc 0 0, tt)
      cases false = (to_next pc 0 0, tt)

  leaf_forward : (s : Shape) (o : LeafOp) (t : Ty) (pc : ℕ) → IsForward 0 pc (leaf_code globals layout s o t)
  leaf_forward s (leaf_is.Parameter n x) t pc = parameter_forward s n pc
  leaf_forward s (leaf_is.Constant c) t pc = constant_forward s (slice_get globals.constants c) pc
  leaf_forward s _ t pc = (to_next pc 0 0, tt)

  -- what is done with the values of parts leads on, or counts a turn
  made_forward : (s : Shape) (o : ManyOp) (c pc : ℕ) → IsForward 0 pc (many_code globals layout s o c)
  made_forward s (many_is.Call f) c pc = (tt, tt)
  made_forward s (many_is.OfUnit unit_method.Offset at) c pc = (to_next pc 0 0, tt)
  made_forward s (many_is.OfUnit _ at) c pc = (to_next pc 0 0, tt)
  made_forward s _ c pc = (to_next pc 0 0, tt)

  changing_forward : (b : Bool) (pc : ℕ) (change ms : List Marked) → IsForward 0 pc change → IsForward 0 pc ms → IsForward 0 pc (if b then change else ms)
  changing_forward true pc change ms h g = h
  changing_forward false pc change ms h g = g

  many_forward : (s : Shape) (op : ManyOp) (o : Option ℕ) (pc : ℕ) (change ms : List Marked) → IsForward 0 pc change → IsForward 0 pc ms
      → IsForward 0 pc (kept_offset globals layout s op o (changing globals layout op change ms))
  many_forward s (many_is.Method i slot) o pc change ms h g = changing_forward (changes i) pc change ms h g
  many_forward s (many_is.OfUnit unit_method.Offset at) (Some l) pc change ms h g = (to_next pc 0 0, tt)
  many_forward s (many_is.OfUnit unit_method.Offset at) None pc change ms h g = g
  many_forward s (many_is.OfUnit u at) o pc change ms h g = g
  many_forward s op o pc change ms h g = g

  method_forward : (op : ManyOp) (s t : Shape) (pc i j k : ℕ) (load args store : List Marked) → length load ≡ i → length args ≡ j → length store ≡ k → IsForward 0 pc load → IsForward 0 (pc + i) args → IsForward 0 (pc + i + j + 1) store
      → IsForward 0 pc (method_code globals layout op s t load args store)
  method_forward (many_is.Method m slot) s t pc i j k load args store hi hj hk f g h =
      then_forward 0 pc i load _ hi f
      (then_forward 0 (pc + i) j args _ hj g
      (to_next (pc + i + j) (length (store ++ result_code m s)) 0, then_forward 0 (pc + i + j + 1) k store _ hk h (result_forward m s (pc + i + j + 1 + k))))
  method_forward _ s t pc i j k load args store hi hj hk f g h = tt

  binary_forward : (s : Shape) (pc : ℕ) (o : BinaryOp) (m n : ℕ) (j k : Kind) (a : List Marked) (b : Shape → ℕ → List Marked) → length a ≡ m → ((t : Shape) (at : ℕ) → length (b t at) ≡ n)
      → IsForward 0 pc a → ((t : Shape) (at : ℕ) → IsForward 0 at (b t at)) → IsForward 0 pc (binary_code globals layout s pc o m n j k a b)
  binary_forward s pc op_is.And m n j k a b ha hb f g =
      let at_b = pc + m + 1 in
      let behind = at_b + n in
      let counted = hb s at_b in
      then_forward 0 pc m a _ ha f (
        (omega arith, omega (arith, length-append {A = Marked}, counted), to_next (pc + m) _ 0),
        then_forward 0 at_b n (b s at_b) _ counted (g s at_b) ((omega arith, omega arith, tt), (to_next (behind + 1) 0 0, tt)),
      )
  binary_forward s pc op_is.Or m n j k a b ha hb f g =
      let at_b = pc + m + 1 + 1 + 1 in
      let counted = hb s at_b in
      then_forward 0 pc m a _ ha f (
        (omega arith, omega (arith, counted), to_next (pc + m) _ 0),
        (to_next (pc + m + 1) _ 0, ((omega arith, omega (arith, counted), tt), g s at_b)),
      )
  binary_forward s pc _ m n j k a b ha hb f g =
      then_forward 0 pc m a _ ha f (then_forward 0 (pc + m) n (b (push j s) (pc + m)) _ (hb (push j s) (pc + m)) (g (push j s) (pc + m)) (to_next (pc + m + n) 0 0, tt))

  two_forward : (s : Shape) (pc : ℕ) (o : TwoOp) (m n : ℕ) (j k : Kind) (a : List Marked) (b : Shape → ℕ → List Marked) → length a ≡ m → ((t : Shape) (at : ℕ) → length (b t at) ≡ n)
      → IsForward 0 pc a → ((t : Shape) (at : ℕ) → IsForward 0 at (b t at)) → IsForward 0 pc (two_code globals layout s pc o m n j k a b)
  two_forward s pc (two_is.Binary o) m n j k a b ha hb f g = binary_forward s pc o m n j k a b ha hb f g
  two_forward s pc two_is.Index m n j k a b ha hb f g =
      then_forward 0 pc m a _ ha f (then_forward 0 (pc + m) n (b (push j s) (pc + m)) _ (hb (push j s) (pc + m)) (g (push j s) (pc + m)) (to_next (pc + m + n) 0 0, tt))
  two_forward s pc (two_is.Item i) m n j k a b ha hb f g = then_forward 0 pc m a _ ha f (to_next (pc + m) 1 0, (to_next (pc + m + 1) 0 0, tt))

  mutual
    pub expr_forward : (s : Shape) (pc : ℕ) (e : Expr) → IsForward 0 pc (expr_code globals layout s pc e)
    expr_forward s pc (leaf h) = leaf_forward s h.op h.ty pc
    expr_forward s pc (one h a) =
        literal_forward (negative_literal h a) s pc _
        (then_forward 0 pc (expr_size layout a) (expr_code globals layout s pc a) _ (expr_sized globals layout s pc a) (expr_forward s pc a) (one_forward s (kind_of globals layout a) h.op h.ty (pc + expr_size layout a)))
    expr_forward s pc (two h a b) =
        two_forward s pc h.op (expr_size layout a) (expr_size layout b) (kind_of globals layout a) (kind_of globals layout b) (expr_code globals layout s pc a) (λ t at. expr_code globals layout t at b)
        (expr_sized globals layout s pc a) (λ t at. expr_sized globals layout t at b) (expr_forward s pc a) (λ t at. expr_forward t at b)
    expr_forward s pc (three h c a b) =
        let at_a = pc + expr_size layout c + 1 in
        let at_b = at_a + expr_size layout a + 1 in
        let size_a = expr_sized globals layout s at_a a in
        let size_b = expr_sized globals layout s at_b b in
        then_forward 0 pc (expr_size layout c) (expr_code globals layout s pc c) _ (expr_sized globals layout s pc c) (expr_forward s pc c) (
          (omega arith, omega (arith, length-append {A = Marked}, size_a, size_b), to_next (pc + expr_size layout c) _ 0),
          then_forward 0 at_a (expr_size layout a) (expr_code globals layout s at_a a) _ size_a (expr_forward s at_a a) ((omega arith, omega (arith, size_b), tt), expr_forward s at_b b),
        )
    expr_forward s pc (many h es) =
        many_forward s h.op (offset_local layout (is_self es)) pc (receiver_code globals layout s pc h.op (kind_of_type globals.ranges h.ty) es) _ (receiver_forward s pc h.op (kind_of_type globals.ranges h.ty) es)
        (then_forward 0 pc (exprs_size layout es) (exprs_code globals layout s pc es) _ (exprs_sized globals layout s pc es) (exprs_forward s pc es)
        (made_forward (with_operands s (kinds_on globals layout es s.operands)) h.op (count es) (pc + exprs_size layout es)))

    pub exprs_forward : (s : Shape) (pc : ℕ) (es : Exprs) → IsForward 0 pc (exprs_code globals layout s pc es)
    exprs_forward s pc none = tt
    exprs_forward s pc (more e es) =
        then_forward 0 pc (expr_size layout e) (expr_code globals layout s pc e) _ (expr_sized globals layout s pc e) (expr_forward s pc e) (exprs_forward (push (kind_of globals layout e) s) (pc + expr_size layout e) es)

    receiver_forward : (s : Shape) (pc : ℕ) (op : ManyOp) (k : Kind) (es : Exprs) → IsForward 0 pc (receiver_code globals layout s pc op k es)
    receiver_forward s pc op k none = tt
    receiver_forward s pc op k (more r es) =
        let owner = slot_local layout (slot_of_receiver op) in
        let t = push (kind_of globals layout r) (pending globals layout s r) in
        let at_args = pc + load_size layout owner r in
        let at_call = at_args + exprs_size layout es + 1 in
        let at_store = at_call + under_size op r in
        let u = with_result globals layout op k s in
        let b = stands_on op r in
        let v = push (kind_of globals layout r) (push k (pending globals layout s r)) in
        let under = under_code b (pending_count r) v in
        let store = store_code globals layout owner u at_store r in
        let size = under_sized b (pending_count r) v in
        method_forward op s (with_operands t (kinds_on globals layout es t.operands)) pc _ _ _ (load_code globals layout owner s pc r) (exprs_code globals layout t at_args es) (under ++ store)
        (load_sized globals layout owner s pc r) (exprs_sized globals layout t at_args es) refl
        (load_forward owner s pc r) (exprs_forward t at_args es) (then_forward 0 at_call (under_size op r) under store size (under_forward b (pending_count r) v at_call) (store_forward owner u at_store r))

    pub load_forward : (owner : Option ℕ) (s : Shape) (pc : ℕ) (e : Expr) → IsForward 0 pc (load_code globals layout owner s pc e)
    load_forward owner s pc (leaf h) = (to_next pc 0 0, tt)
    load_forward owner s pc (one h a) =
        let n = expr_size layout a in
        let q = pc + keep_size owner n in
        let k = kind_of globals layout a in
        then_forward 0 pc (keep_size owner n) (keep_code owner s k (expr_code globals layout s pc a)) _ (keep_sized owner s k _ n (expr_sized globals layout s pc a))
        (keep_forward owner s k pc n (expr_code globals layout s pc a) (expr_sized globals layout s pc a) (expr_forward s pc a))
        (then_forward 0 q (owner_size owner n) (owner_code owner s (expr_code globals layout s q a)) _ (owner_sized owner s _ n (expr_sized globals layout s q a))
        (owner_forward owner s q (expr_code globals layout s q a) (expr_forward s q a)) (to_next (q + owner_size owner n) 0 0, tt))
    load_forward owner s pc (two h a b) =
        let t = push (kind_of globals layout a) (pending globals layout s a) in
        let q = pc + load_size layout owner a in
        let r = q + expr_size layout b in
        then_forward 0 pc (load_size layout owner a) (load_code globals layout owner s pc a) _ (load_sized globals layout owner s pc a) (load_forward owner s pc a)
        (then_forward 0 q (expr_size layout b) (expr_code globals layout t q b) _ (expr_sized globals layout t q b) (expr_forward t q b) (to_next r 1 0, (to_next (r + 1) 0 0, tt)))
    load_forward owner s pc (three h c a b) = tt
    load_forward owner s pc (many h es) = tt

    pub store_forward : (owner : Option ℕ) (s : Shape) (pc : ℕ) (e : Expr) → IsForward 0 pc (store_code globals layout owner s pc e)
    store_forward owner s pc (leaf h) = (to_next pc 0 0, tt)
    store_forward owner s pc (one h a) =
        let n = expr_size layout a in
        let t = push (kind_of globals layout (one h a)) s in
        then_forward 0 pc (owner_size owner n) (owner_code owner t (expr_code globals layout t pc a)) _ (owner_sized owner t _ n (expr_sized globals layout t pc a))
        (owner_forward owner t pc (expr_code globals layout t pc a) (expr_forward t pc a)) (to_next (pc + owner_size owner n) 0 0, tt)
    store_forward owner s pc (two h a b) = (to_next pc _ 0, store_forward owner s (pc + 1) a)
    store_forward owner s pc (three h c a b) = tt
    store_forward owner s pc (many h es) = tt
