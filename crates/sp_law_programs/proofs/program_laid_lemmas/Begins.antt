-- Code begins with the shape before it, where what it changes are places.
use Rattle.std.proofs.Common.{◌≡◌, ℕ, ◌+◌, Bool, true, false, List, [], ◌∷◌, ◌++◌, Option, Some, None, refl, sym, subst, append_assoc}
use Rattle.std.specs.Prelude.{nat_lt, slice_get, if◌then◌else◌}
use Rattle.sp_words.specs.declared.operators.BinaryOp.TheVariants as op_is
use Rattle.sp_words.specs.declared.operators.AssignOp.{AssignOp}
use Rattle.sp_words.specs.declared.operators.AssignOp.TheVariants as assign_is
use Rattle.sp_words.specs.Methods.{changes}
use Rattle.sp_value.specs.Val.{Val}
use Rattle.sp_methods.specs.Kinds.{Kind}
use Rattle.sp_types.specs.Types.{Ty}
use Rattle.sp_typed.specs.declared.words.LeafOp.{LeafOp}
use Rattle.sp_typed.specs.declared.words.LeafOp.TheVariants as leaf_is
use Rattle.sp_typed.specs.declared.words.TwoOp.{TwoOp}
use Rattle.sp_typed.specs.declared.words.TwoOp.TheVariants as two_is
use Rattle.sp_typed.specs.declared.words.ManyOp.{ManyOp}
use Rattle.sp_typed.specs.declared.words.ManyOp.TheVariants as many_is
use Rattle.sp_typed.specs.declared.words.UnitMethod.TheVariants as unit_method
use Rattle.sp_typed.specs.declared.stmt_words.BareOp.{BareOp}
use Rattle.sp_typed.specs.declared.stmt_words.BareOp.TheVariants as bare_is
use Rattle.sp_typed.specs.declared.stmt_words.ValuedOp.{ValuedOp}
use Rattle.sp_typed.specs.declared.stmt_words.ValuedOp.TheVariants as valued_is
use Rattle.sp_typed.specs.Exprs.{Expr, Exprs, leaf, one, two, three, many, none, more}
use Rattle.sp_typed.specs.Stmts.{Stmt, Stmts, Branches, bare, valued, assign, print, block, branch, while_loop, for_loop, switch, no_stmts, more_stmts, no_branches, more_branches}
use Rattle.sp_meaning.specs.Globals.{Globals}
use Rattle.sp_code_meaning.specs.Layouts.{Layout}
use Rattle.sp_meaning.specs.Operations.{negative_literal, is_self}
use Rattle.sp_code_meaning.specs.Exprs.{offset_local, slot_local}
use Rattle.sp_code.specs.declared.instr.Instr.{Instr}
use Rattle.sp_code.specs.declared.instr.Instr.TheVariants as does
use Rattle.sp_code.specs.Shapes.{Shape, with_operands}
use Rattle.sp_code_programs.specs.exprs.Marked.{Marked, mark, Shows}
use Rattle.sp_code_programs.specs.exprs.Sizes.{keep_size, expr_size}
use Rattle.sp_code_programs.specs.exprs.Code.{unless_literal, keep_code, owner_code, count, kind_of, kinds_on, constant_code, leaf_code, many_code, kept_offset, changing, two_code, expr_code, exprs_code, receiver_code, load_code, put_code, key_code}
use Rattle.sp_code_programs.specs.units.Sizes.{stmt_size, branches_size}
use Rattle.sp_code_programs.specs.units.Code.{bare_code, valued_code, assign_code, stmt_code, stmts_code, branches_code}
use Rattle.sp_law_programs.specs.program_laid.Places.{IsPlace, BeginsWithPlace, HasReceiver, HasTarget, ChangesPlaces, AllChangePlaces, StmtChangesPlaces, StmtsChangePlaces, BranchesChangePlaces}

-- there is an instruction, and the first one has this shape before it
abbrev pub Begins : Shape → List Marked → Type 0
Begins s [] = ⊥
Begins s (m ∷ ms) = m.before ≡ s

front : (s : Shape) (a b : List Marked) → Begins s a → Begins s (a ++ b)
front s [] b h = absurd h
front s (m ∷ a) b h = h

-- a part before others that are put together
first_of : (s : Shape) (a b c : List Marked) → Begins s (a ++ (b ++ c)) → Begins s ((a ++ b) ++ c)
first_of s a b c h = subst (λ ms. Begins s ms) (sym (append_assoc a b c)) h

unless_begins : (o : Option Val) (s : Shape) (ms : List Marked) → Begins s ms → Begins s (unless_literal o s ms)
unless_begins (Some v) s ms h = refl
unless_begins None s ms h = h

module _ (globals : Globals) (layout : Layout) where
  constant_begins : (o : Option (Option Val)) (s : Shape) → Begins s (constant_code globals layout s o)
  constant_begins (Some (Some v)) s = refl
  constant_begins (Some None) s = refl
  constant_begins None s = refl

  parameter_begins : (b : Bool) (s : Shape) (i j : Instr) → Begins s (if b then mark s i ∷ [] else mark s j ∷ [])
  parameter_begins true s i j = refl
  parameter_begins false s i j = refl

  leaf_begins : (s : Shape) (o : LeafOp) (t : Ty) → Begins s (leaf_code globals layout s o t)
  leaf_begins s (leaf_is.Parameter n _) t = parameter_begins (nat_lt n layout.own) s _ _
  leaf_begins s (leaf_is.Constant c) t = constant_begins (slice_get globals.constants c) s
  leaf_begins s _ t = refl

  many_begins : (s : Shape) (op : ManyOp) (n : ℕ) → Begins s (many_code globals layout s op n)
  many_begins s (many_is.OfUnit unit_method.Offset at) n = refl
  many_begins s (many_is.OfUnit _ at) n = refl
  many_begins s _ n = refl

  two_begins : (s : Shape) (at : ℕ) (op : TwoOp) (m n : ℕ) (j k : Kind) (a : List Marked) (b : Shape → ℕ → List Marked) → Begins s a → Begins s (two_code globals layout s at op m n j k a b)
  two_begins s at (two_is.Binary op_is.And) m n j k a b h = front s a _ h
  two_begins s at (two_is.Binary op_is.Or) m n j k a b h = front s a _ h
  two_begins s at (two_is.Binary _) m n j k a b h = front s a _ h
  two_begins s at two_is.Index m n j k a b h = front s a _ h
  two_begins s at (two_is.Item i) m n j k a b h = front s a _ h

  -- a demand on methods alone
  abbrev IfMethod : ManyOp → Type 0 → Type 0
  IfMethod (many_is.Method m slot) A = A
  IfMethod op A = Unit {0}

  -- the code of a row, by that of its parts, and by the change of its receiver
  row_begins : (s : Shape) (op : ManyOp) (o : Option ℕ) (es : Exprs) (change ms : List Marked) → HasReceiver op es → IfMethod op (BeginsWithPlace es → Begins s change) → Begins s ms
      → Begins s (kept_offset globals layout s op o (changing globals layout op change ms))
  row_begins s (many_is.Method m slot) o es change ms r h g = changed (changes m) (λ e. h (r e))
    where
      changed : (b : Bool) → (b ≡ true → Begins s change) → Begins s (if b then change else ms)
      changed true h = h refl
      changed false h = g
  row_begins s (many_is.OfUnit unit_method.Offset at) (Some l) es change ms r h g = refl
  row_begins s (many_is.OfUnit unit_method.Offset at) None es change ms r h g = g
  row_begins s (many_is.OfUnit _ at) o es change ms r h g = g
  row_begins s _ o es change ms r h g = g

  -- what begins with the owner of a member, if that is kept, or else with what stands behind
  keep_begins : (owner : Option ℕ) (s : Shape) (k : Kind) (ms rest : List Marked) → Begins s ms → (owner ≡ None → Begins s rest) → Begins s (keep_code owner s k ms ++ rest)
  keep_begins (Some l) s k ms rest h g = front s (keep_code (Some l) s k ms) rest (front s ms _ h)
  keep_begins None s k ms rest h g = g refl

  owner_begins : (owner : Option ℕ) (s : Shape) (ms : List Marked) → Begins s ms → Begins s (owner_code owner s ms)
  owner_begins (Some l) s ms h = refl
  owner_begins None s ms h = h

  mutual
    pub expr_begins : (e : Expr) (s : Shape) (at : ℕ) → ChangesPlaces e → Begins s (expr_code globals layout s at e)
    expr_begins (leaf h) s at c = leaf_begins s h.op h.ty
    expr_begins (one h a) s at c = unless_begins (negative_literal h a) s _ (front s (expr_code globals layout s at a) _ (expr_begins a s at c))
    expr_begins (two h a b) s at c = two_begins s at h.op _ _ _ _ (expr_code globals layout s at a) (λ t at. expr_code globals layout t at b) (expr_begins a s at c.0)
    expr_begins (three h e a b) s at c = front s (expr_code globals layout s at e) _ (expr_begins e s at c.0)
    expr_begins (many h es) s at c =
        row_begins s h.op (offset_local layout (is_self es)) es _ _ c.0 (receiver_begins h.op es s at _ c.1)
        (all_begin es s at (many_code globals layout (with_operands s (kinds_on globals layout es s.operands)) h.op (count es)) c.1 (many_begins _ h.op (count es)))

    -- any number of parts, and what stands behind them, which is at the beginning where there are none
    all_begin : (es : Exprs) (s : Shape) (at : ℕ) (rest : List Marked) → AllChangePlaces es → Begins (with_operands s (kinds_on globals layout es s.operands)) rest → Begins s (exprs_code globals layout s at es ++ rest)
    all_begin none s at rest c h = h
    all_begin (more e es) s at rest c h = front s (exprs_code globals layout s at (more e es)) rest (front s (expr_code globals layout s at e) _ (expr_begins e s at c.0))

    receiver_begins : (op : ManyOp) (es : Exprs) (s : Shape) (at : ℕ) (k : Kind) → AllChangePlaces es → IfMethod op (BeginsWithPlace es → Begins s (receiver_code globals layout s at op k es))
    receiver_begins (many_is.Method m slot) none s at k c = λ h. absurd h
    receiver_begins (many_is.Method m slot) (more r es) s at k c = λ h. front s (load_code globals layout (slot_local layout slot) s at r) _ (load_begins (slot_local layout slot) r s at h c.0)
    receiver_begins _ es s at k c = tt

    load_begins : (owner : Option ℕ) (r : Expr) (s : Shape) (at : ℕ) → IsPlace r → ChangesPlaces r → Begins s (load_code globals layout owner s at r)
    load_begins owner (leaf h) s at i c = refl
    load_begins owner (one h a) s at i c =
        let at_owner = at + keep_size owner (expr_size layout a) in
        keep_begins owner s (kind_of globals layout a) (expr_code globals layout s at a) _ (expr_begins a s at c)
        (λ e. front s (owner_code owner s (expr_code globals layout s at_owner a)) _ (owner_begins owner s (expr_code globals layout s at_owner a) (expr_begins a s at_owner c)))
    load_begins owner (two h a b) s at i c = front s (load_code globals layout owner s at a) _ (load_begins owner a s at i c.0)
    load_begins owner (three h e a b) s at i c = absurd i
    load_begins owner (many h es) s at i c = absurd i

  -- `t = e`, by code that begins so wherever it stands
  put_begins : (owner : Option ℕ) (target : Expr) (s : Shape) (at : ℕ) (k : Kind) (n : ℕ) (e : Shape → ℕ → List Marked) → IsPlace target → ChangesPlaces target → ((at : ℕ) → Begins s (e s at))
      → Begins s (put_code globals layout owner s at target k n e)
  put_begins owner (leaf h) s at k n e i c he = front s (e s at) _ (he at)
  put_begins owner (one h a) s at k n e i c he =
      let at_e = at + keep_size owner (expr_size layout a) in
      keep_begins owner s (kind_of globals layout a) (expr_code globals layout s at a) _ (expr_begins a s at c) (λ o. front s (e s at_e) _ (he at_e))
  put_begins owner (two h a b) s at k n e i c he = front s (load_code globals layout owner s at a) _ (load_begins owner a s at i c.0)
  put_begins owner (three h x a b) s at k n e i c he = absurd i
  put_begins owner (many h es) s at k n e i c he = absurd i

  assign_begins : (op : AssignOp) (owner : Option ℕ) (target e : Expr) (s : Shape) (at : ℕ) → IsPlace target → ChangesPlaces target → ChangesPlaces e → Begins s (assign_code globals layout s at op owner target e)
  assign_begins assign_is.Set owner target e s at i c ce = put_begins owner target s at _ _ (λ t at. expr_code globals layout t at e) i c (λ at. expr_begins e s at ce)
  assign_begins assign_is.Add owner target e s at i c ce = front s (load_code globals layout owner s at target) _ (load_begins owner target s at i c)
  assign_begins assign_is.Subtract owner target e s at i c ce = front s (load_code globals layout owner s at target) _ (load_begins owner target s at i c)

  -- what stands before the rest of a body begins as the rest does, if it has no code
  key_begins : (owner : Option ℕ) (e : Expr) (s : Shape) (at : ℕ) (i : Instr) (rest : List Marked) → IsPlace e → ChangesPlaces e → Begins s rest → Begins s (key_code globals layout owner s at e i ++ rest)
  key_begins owner (leaf h) s at j rest i c g = g
  key_begins owner (one h a) s at j rest i c g = g
  key_begins owner (two h a b) s at j rest i c g = front s (key_code globals layout owner s at (two h a b) j) rest (front s (load_code globals layout owner s at a) _ (load_begins owner a s at i c.0))
  key_begins owner (three h x a b) s at j rest i c g = absurd i
  key_begins owner (many h es) s at j rest i c g = absurd i

  bare_begins : (op : BareOp) (s : Shape) (out again : ℕ) (rest : List Marked) → Begins s rest → Begins s (bare_code globals layout s out again op ++ rest)
  bare_begins (bare_is.Local l) s out again rest g = refl
  bare_begins bare_is.Return s out again rest g = refl
  bare_begins (bare_is.Break meant) s out again rest g = refl
  bare_begins (bare_is.Continue meant) s out again rest g = refl
  bare_begins _ s out again rest g = g

  valued_begins : (op : ValuedOp) (e : Expr) (s : Shape) (at : ℕ) (rest : List Marked) → HasTarget op e → ChangesPlaces e → Begins s rest → Begins s (valued_code globals layout s at op e ++ rest)
  valued_begins (valued_is.Add owner) e s at rest i c g = key_begins (slot_local layout owner) e s at does.AddKey rest i c g
  valued_begins (valued_is.Delete owner) e s at rest i c g = key_begins (slot_local layout owner) e s at does.DeleteKey rest i c g
  valued_begins (valued_is.Assert text) e s at rest i c g = front s (valued_code globals layout s at (valued_is.Assert text) e) rest (front s (expr_code globals layout s at e) _ (expr_begins e s at c))
  valued_begins op e s at rest i c g = first_of s (expr_code globals layout s at e) _ rest (front s (expr_code globals layout s at e) _ (expr_begins e s at c))

  mutual
    pub stmt_begins : (b : Stmt) (s : Shape) (out again at : ℕ) (rest : List Marked) → StmtChangesPlaces b → Begins s rest → Begins s (stmt_code globals layout s out again at b ++ rest)
    stmt_begins (bare h) s out again at rest c g = bare_begins h.op s out again rest g
    stmt_begins (valued h e) s out again at rest c g = valued_begins h.op e s at rest c.0 c.1 g
    stmt_begins (assign h target e) s out again at rest c g = front s (assign_code globals layout s at h.op (slot_local layout h.owner) target e) rest (assign_begins h.op (slot_local layout h.owner) target e s at c.0 c.1 c.2)
    stmt_begins (print span es) s out again at rest c g = front s (stmt_code globals layout s out again at (print span es)) rest (all_begin es s at _ c refl)
    stmt_begins (block ss) s out again at rest c g = stmts_begin ss s out again at rest c g
    stmt_begins (branch bs b) s out again at rest c g =
        let at_else = at + branches_size layout bs in
        let to = at_else + stmt_size layout b in
        first_of s (branches_code globals layout s out again to at bs) (stmt_code globals layout s out again at_else b) rest
        (branches_begin bs s out again to at (stmt_code globals layout s out again at_else b ++ rest) c.0 (stmt_begins b s out again at_else rest c.1 g))
    stmt_begins (while_loop e b) s out again at rest c g = front s (stmt_code globals layout s out again at (while_loop e b)) rest (front s (expr_code globals layout s at e) _ (expr_begins e s at c.0))
    stmt_begins (for_loop h e b) s out again at rest c g = front s (stmt_code globals layout s out again at (for_loop h e b)) rest (front s (expr_code globals layout s at e) _ (expr_begins e s at c.0))
    stmt_begins (switch slot e cs b) s out again at rest c g = front s (stmt_code globals layout s out again at (switch slot e cs b)) rest (front s (expr_code globals layout s at e) _ (expr_begins e s at c.0))

    stmts_begin : (ss : Stmts) (s : Shape) (out again at : ℕ) (rest : List Marked) → StmtsChangePlaces ss → Begins s rest → Begins s (stmts_code globals layout s out again at ss ++ rest)
    stmts_begin no_stmts s out again at rest c g = g
    stmts_begin (more_stmts b ss) s out again at rest c g =
        let at_ss = at + stmt_size layout b in
        first_of s (stmt_code globals layout s out again at b) (stmts_code globals layout s out again at_ss ss) rest
        (stmt_begins b s out again at (stmts_code globals layout s out again at_ss ss ++ rest) c.0 (stmts_begin ss s out again at_ss rest c.1 g))

    branches_begin : (bs : Branches) (s : Shape) (out again to at : ℕ) (rest : List Marked) → BranchesChangePlaces bs → Begins s rest → Begins s (branches_code globals layout s out again to at bs ++ rest)
    branches_begin no_branches s out again to at rest c g = g
    branches_begin (more_branches e b bs) s out again to at rest c g =
        front s (branches_code globals layout s out again to at (more_branches e b bs)) rest (front s (expr_code globals layout s at e) _ (expr_begins e s at c.0))

-- where code that begins so has its shapes, the shape is shown
pub shown_first : (shapes : List Shape) (at : ℕ) (s : Shape) (ms : List Marked) → Begins s ms → Shows shapes at ms → slice_get shapes at ≡ Some s
shown_first shapes at s [] h g = absurd h
shown_first shapes at s (m ∷ ms) h g = subst (λ t. slice_get shapes at ≡ Some t) h g.0
