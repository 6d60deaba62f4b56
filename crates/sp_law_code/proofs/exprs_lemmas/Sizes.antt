-- The code has the stated size, and a part of it stands at its place.
use Rattle.std.proofs.Common.{◌≡◌, ℕ, ◌+◌, ◌-◌, Bool, true, false, List, [], ◌∷◌, ◌++◌, length, Option, Some, None, refl, arith, length-append}
use Rattle.std.specs.Prelude.{nat_lt, slice_get, if◌then◌else◌}
use Rattle.sp_words.specs.declared.operators.BinaryOp.{BinaryOp}
use Rattle.sp_words.specs.declared.operators.BinaryOp.TheVariants as op_is
use Rattle.sp_words.specs.declared.methods.Method.{Method}
use Rattle.sp_words.specs.Methods.{changes}
use Rattle.sp_value.specs.Val.{Val, void}
use Rattle.sp_methods.specs.Kinds.{Kind}
use Rattle.sp_types.specs.Types.{Ty}
use Rattle.sp_typed.specs.declared.words.LeafOp.{LeafOp}
use Rattle.sp_typed.specs.declared.words.LeafOp.TheVariants as leaf_is
use Rattle.sp_typed.specs.declared.words.OneOp.{OneOp}
use Rattle.sp_typed.specs.declared.words.OneOp.TheVariants as one_is
use Rattle.sp_typed.specs.declared.words.TwoOp.{TwoOp}
use Rattle.sp_typed.specs.declared.words.TwoOp.TheVariants as two_is
use Rattle.sp_typed.specs.declared.words.ManyOp.{ManyOp}
use Rattle.sp_typed.specs.declared.words.ManyOp.TheVariants as many_is
use Rattle.sp_typed.specs.declared.words.UnitMethod.TheVariants as unit_method
use Rattle.sp_typed.specs.Exprs.{Expr, Exprs, leaf, one, two, three, many, none, more}
use Rattle.sp_meaning_states.specs.Types.{kind_of_type}
use Rattle.sp_meaning.specs.Globals.{Globals}
use Rattle.sp_code_meaning.specs.Layouts.{Layout}
use Rattle.sp_meaning.specs.Operations.{negative_literal, is_self, slot_of_receiver}
use Rattle.sp_code_meaning.specs.Exprs.{offset_local, slot_local, gives_result}
use Rattle.sp_code.specs.declared.instr.Instr.TheVariants as does
use Rattle.sp_code.specs.Shapes.{Shape, push}
use Rattle.sp_code_programs.specs.exprs.Marked.{Marked, mark, constant}
use Rattle.sp_code_programs.specs.exprs.Sizes.{size_or, one_size, binary_size, two_size, many_size, keep_size, owner_size, method_size, stands_on, under_size, expr_size, exprs_size, receiver_size, load_size, store_size}
use Rattle.sp_code_programs.specs.exprs.Code.{unless_literal, one_code, keep_code, owner_code, count, result_code, pending_count, under_code, kind_of, constant_code, parameter_code, leaf_code, pending, many_code, kept_offset, changing, method_code, binary_code, two_code, with_result, expr_code, exprs_code, receiver_code, load_code, store_code}

literal_sized : (o : Option Val) (s : Shape) (ms : List Marked) (n : ℕ) → length ms ≡ n → length (unless_literal o s ms) ≡ size_or o n
literal_sized (Some v) s ms n h = refl
literal_sized None s ms n h = h

one_sized : (s : Shape) (k : Kind) (o : OneOp) (t : Ty) → length (one_code s k o t) ≡ one_size o
one_sized s k (one_is.Bit r) t = refl
one_sized s k _ t = refl

pub keep_sized : (owner : Option ℕ) (s : Shape) (k : Kind) (ms : List Marked) (n : ℕ) → length ms ≡ n → length (keep_code owner s k ms) ≡ keep_size owner n
keep_sized (Some l) s k ms n h = omega (arith, length-append {A = Marked}, h)
keep_sized None s k ms n h = refl

pub owner_sized : (owner : Option ℕ) (s : Shape) (ms : List Marked) (n : ℕ) → length ms ≡ n → length (owner_code owner s ms) ≡ owner_size owner n
owner_sized (Some l) s ms n h = refl
owner_sized None s ms n h = h

result_sized : (m : Method) (s : Shape) → length (result_code m s) ≡ (if gives_result m then 0 else 1)
result_sized m s = cases (gives_result m)
  where
    cases : (b : Bool) → length (if b then [] else constant s void ∷ []) ≡ (if b then 0 else 1)
    cases true = refl
    cases false = refl

pub under_sized : (b : Bool) (n : ℕ) (s : Shape) → length (under_code b n s) ≡ (if b then 1 else 0)
under_sized true n s = refl
under_sized false n s = refl

module _ (globals : Globals) (layout : Layout) where
  method_sized : (op : ManyOp) (s t : Shape) (load args store : List Marked) (i j k : ℕ) → length load ≡ i → length args ≡ j → length store ≡ k → length (method_code globals layout op s t load args store) ≡ method_size op i j k
  method_sized (many_is.Method m slot) s t load args store i j k hi hj hk = omega (arith, length-append {A = Marked}, hi, hj, hk, result_sized m s)
  method_sized _ s t load args store i j k hi hj hk = refl

  binary_sized : (s : Shape) (at : ℕ) (o : BinaryOp) (m n : ℕ) (j k : Kind) (a : List Marked) (b : Shape → ℕ → List Marked) → length a ≡ m → ((t : Shape) (at : ℕ) → length (b t at) ≡ n) → length (binary_code globals layout s at o m n j k a b) ≡ binary_size o m n
  binary_sized s at op_is.And m n j k a b ha hb = omega (arith, length-append {A = Marked}, ha, hb s (at + m + 1))
  binary_sized s at op_is.Or m n j k a b ha hb = omega (arith, length-append {A = Marked}, ha, hb s (at + m + 1 + 1 + 1))
  binary_sized s at _ m n j k a b ha hb = omega (arith, length-append {A = Marked}, ha, hb (push j s) (at + m))

  two_sized : (s : Shape) (at : ℕ) (o : TwoOp) (m n : ℕ) (j k : Kind) (a : List Marked) (b : Shape → ℕ → List Marked) → length a ≡ m → ((t : Shape) (at : ℕ) → length (b t at) ≡ n) → length (two_code globals layout s at o m n j k a b) ≡ two_size o m n
  two_sized s at (two_is.Binary o) m n j k a b ha hb = binary_sized s at o m n j k a b ha hb
  two_sized s at two_is.Index m n j k a b ha hb = omega (arith, length-append {A = Marked}, ha, hb (push j s) (at + m))
  two_sized s at (two_is.Item i) m n j k a b ha hb = omega (arith, length-append {A = Marked}, ha)

  changing_sized : (b : Bool) (change ms : List Marked) (m n : ℕ) → length change ≡ m → length ms ≡ n → length (if b then change else ms) ≡ (if b then m else n)
  changing_sized true change ms m n h g = h
  changing_sized false change ms m n h g = g

  constant_sized : (s : Shape) (o : Option (Option Val)) → length (constant_code globals layout s o) ≡ 1
  constant_sized s (Some (Some v)) = refl
  constant_sized s (Some None) = refl
  constant_sized s None = refl

  parameter_sized : (s : Shape) (n : ℕ) → length (parameter_code globals layout s n) ≡ 1
  parameter_sized s n = cases (nat_lt n layout.own)
    where
      cases : (b : Bool) → length (if b then mark s (does.Load n) ∷ [] else mark s (does.Param (n - layout.own)) ∷ []) ≡ 1
      cases true = refl
      cases false = refl

  leaf_sized : (s : Shape) (o : LeafOp) (t : Ty) → length (leaf_code globals layout s o t) ≡ 1
  leaf_sized s (leaf_is.Parameter n x) t = parameter_sized s n
  leaf_sized s (leaf_is.Constant c) t = constant_sized s (slice_get globals.constants c)
  leaf_sized s _ t = refl

  made_sized : (s : Shape) (o : ManyOp) (c n : ℕ) (ms : List Marked) → length ms ≡ n → length (ms ++ many_code globals layout s o c) ≡ n + 1
  made_sized s (many_is.OfUnit unit_method.Offset at) c n ms h = omega (arith, length-append {A = Marked}, h)
  made_sized s (many_is.OfUnit _ at) c n ms h = omega (arith, length-append {A = Marked}, h)
  made_sized s _ c n ms h = omega (arith, length-append {A = Marked}, h)

  many_sized : (s t : Shape) (op : ManyOp) (o : Option ℕ) (c m n : ℕ) (change ms : List Marked) → length change ≡ m → length ms ≡ n
      → length (kept_offset globals layout s op o (changing globals layout op change (ms ++ many_code globals layout t op c))) ≡ many_size op o n m
  many_sized s t (many_is.Method i slot) o c m n change ms h g = changing_sized (changes i) change _ m (n + 1) h (made_sized t (many_is.Method i slot) c n ms g)
  many_sized s t (many_is.OfUnit unit_method.Offset at) (Some l) c m n change ms h g = refl
  many_sized s t (many_is.OfUnit unit_method.Offset at) None c m n change ms h g = made_sized t (many_is.OfUnit unit_method.Offset at) c n ms g
  many_sized s t (many_is.OfUnit u at) o c m n change ms h g = made_sized t (many_is.OfUnit u at) c n ms g
  many_sized s t op o c m n change ms h g = made_sized t op c n ms g

  mutual
    pub expr_sized : (s : Shape) (at : ℕ) (e : Expr) → length (expr_code globals layout s at e) ≡ expr_size layout e
    expr_sized s at (leaf h) = leaf_sized s h.op h.ty
    expr_sized s at (one h a) =
        literal_sized (negative_literal h a) s _ _ (omega (arith, length-append {A = Marked}, expr_sized s at a, one_sized s (kind_of globals layout a) h.op h.ty))
    expr_sized s at (two h a b) =
        two_sized s at h.op _ _ (kind_of globals layout a) (kind_of globals layout b) (expr_code globals layout s at a) (λ t at. expr_code globals layout t at b) (expr_sized s at a) (λ t at. expr_sized t at b)
    expr_sized s at (three h c a b) =
        omega (arith, length-append {A = Marked}, expr_sized s at c, expr_sized s (at + expr_size layout c + 1) a, expr_sized s (at + expr_size layout c + 1 + expr_size layout a + 1) b)
    expr_sized s at (many h es) =
        many_sized s _ h.op (offset_local layout (is_self es)) (count es) _ _ (receiver_code globals layout s at h.op (kind_of_type globals.ranges h.ty) es) (exprs_code globals layout s at es) (receiver_sized s at h.op _ es) (exprs_sized s at es)

    pub exprs_sized : (s : Shape) (at : ℕ) (es : Exprs) → length (exprs_code globals layout s at es) ≡ exprs_size layout es
    exprs_sized s at none = refl
    exprs_sized s at (more e es) =
        omega (arith, length-append {A = Marked}, expr_sized s at e, exprs_sized (push (kind_of globals layout e) s) (at + expr_size layout e) es)

    receiver_sized : (s : Shape) (at : ℕ) (op : ManyOp) (k : Kind) (es : Exprs) → length (receiver_code globals layout s at op k es) ≡ receiver_size layout op es
    receiver_sized s at op k none = refl
    receiver_sized s at op k (more r es) =
        let owner = slot_local layout (slot_of_receiver op) in
        let t = push (kind_of globals layout r) (pending globals layout s r) in
        let at_args = at + load_size layout owner r in
        let at_store = at_args + exprs_size layout es + 1 + under_size op r in
        let u = push (kind_of globals layout r) (push k (pending globals layout s r)) in
        let under = under_code (stands_on op r) (pending_count r) u in
        let store = store_code globals layout owner (with_result globals layout op k s) at_store r in
        method_sized op s _ (load_code globals layout owner s at r) (exprs_code globals layout t at_args es) (under ++ store) _ _ _ (load_sized owner s at r) (exprs_sized t at_args es)
        (omega (arith, length-append under store, under_sized (stands_on op r) (pending_count r) u, store_sized owner (with_result globals layout op k s) at_store r))

    pub load_sized : (owner : Option ℕ) (s : Shape) (at : ℕ) (e : Expr) → length (load_code globals layout owner s at e) ≡ load_size layout owner e
    load_sized owner s at (leaf h) = refl
    load_sized owner s at (one h a) =
        omega (
          arith,
          length-append {A = Marked},
          keep_sized owner s (kind_of globals layout a) _ _ (expr_sized s at a),
          owner_sized owner s _ _ (expr_sized s (at + keep_size owner (expr_size layout a)) a),
        )
    load_sized owner s at (two h a b) =
        let t = push (kind_of globals layout a) (pending globals layout s a) in
        omega (arith, length-append {A = Marked}, load_sized owner s at a, expr_sized t (at + load_size layout owner a) b)
    load_sized owner s at (three h c a b) = refl
    load_sized owner s at (many h es) = refl

    pub store_sized : (owner : Option ℕ) (s : Shape) (at : ℕ) (e : Expr) → length (store_code globals layout owner s at e) ≡ store_size layout owner e
    store_sized owner s at (leaf h) = refl
    store_sized owner s at (one h a) =
        let t = push (kind_of globals layout (one h a)) s in
        omega (arith, length-append {A = Marked}, owner_sized owner t _ _ (expr_sized t at a))
    store_sized owner s at (two h a b) = omega (arith, store_sized owner s (at + 1) a)
    store_sized owner s at (three h c a b) = refl
    store_sized owner s at (many h es) = refl
