-- The code of statements has the stated size.
use Rattle.std.proofs.Common.{◌≡◌, ℕ, ◌+◌, List, [], ◌∷◌, ◌++◌, length, Option, Some, None, refl, arith, length-append}
use Rattle.sp_words.specs.declared.operators.AssignOp.{AssignOp}
use Rattle.sp_words.specs.declared.operators.AssignOp.TheVariants as assign_is
use Rattle.sp_words.specs.declared.operators.BinaryOp.{BinaryOp}
use Rattle.sp_words.specs.declared.operators.BinaryOp.TheVariants as op_is
use Rattle.sp_methods.specs.Kinds.{Kind, Bools, Unsigned}
use Rattle.sp_typed.specs.declared.stmt_words.BareOp.{BareOp}
use Rattle.sp_typed.specs.declared.stmt_words.BareOp.TheVariants as bare_is
use Rattle.sp_typed.specs.declared.stmt_words.ValuedOp.{ValuedOp}
use Rattle.sp_typed.specs.declared.stmt_words.ValuedOp.TheVariants as valued_is
use Rattle.sp_typed.specs.Exprs.{Expr, Exprs, leaf, one, two, three, many, none, more}
use Rattle.sp_typed.specs.Stmts.{Stmt, Stmts, Branches, Cases, bare, valued, assign, print, block, branch, while_loop, for_loop, switch, no_stmts, more_stmts, no_branches, more_branches, no_cases, more_cases}
use Rattle.sp_meaning.specs.Globals.{Globals}
use Rattle.sp_code_meaning.specs.Layouts.{Layout}
use Rattle.sp_code_meaning.specs.Exprs.{slot_local}
use Rattle.sp_code.specs.declared.instr.Instr.{Instr}
use Rattle.sp_code.specs.declared.instr.Instr.TheVariants as does
use Rattle.sp_code.specs.Shapes.{Shape, push}
use Rattle.sp_code_programs.specs.exprs.Marked.{Marked}
use Rattle.sp_code_programs.specs.exprs.Sizes.{expr_size, exprs_size, keep_size, load_size, put_size, update_size, key_size}
use Rattle.sp_code_programs.specs.exprs.Code.{kind_at, kind_of, pending, expr_code, exprs_code, put_code, update_code, key_code}
use Rattle.sp_code_programs.specs.units.Sizes.{bare_size, valued_size, assign_size, values_size, stmt_size, stmts_size, branches_size, cases_size}
use Rattle.sp_code_programs.specs.units.Code.{bare_code, valued_code, assign_code, values_code, stmt_code, stmts_code, branches_code, cases_code}
use Rattle.sp_law_code.proofs.exprs_lemmas.Sizes.{keep_sized, owner_sized, expr_sized, exprs_sized, load_sized, store_sized}

module _ (globals : Globals) (layout : Layout) where
  put_sized : (owner : Option ℕ) (s : Shape) (at : ℕ) (target : Expr) (k : Kind) (n : ℕ) (e : Shape → ℕ → List Marked) → ((t : Shape) (at : ℕ) → length (e t at) ≡ n)
      → length (put_code globals layout owner s at target k n e) ≡ put_size layout owner target n
  put_sized owner s at (leaf h) k n e size = omega (arith, length-append {A = Marked}, size s at)
  put_sized owner s at (one h a) k n e size =
      let at_e = at + keep_size owner (expr_size layout a) in
      omega (
        arith,
        length-append {A = Marked},
        keep_sized owner s (kind_of globals layout a) _ _ (expr_sized globals layout s at a),
        size s at_e,
        owner_sized owner (push k s) _ _ (expr_sized globals layout (push k s) (at_e + n) a),
      )
  put_sized owner s at (two h a b) k n e size =
      let t = push (kind_of globals layout a) (pending globals layout s a) in
      let at_b = at + load_size layout owner a in
      let at_e = at_b + expr_size layout b in
      omega (
        arith,
        length-append {A = Marked},
        load_sized globals layout owner s at a,
        expr_sized globals layout t at_b b,
        size (push (kind_of globals layout b) t) at_e,
        store_sized globals layout owner s (at_e + n + 1) a,
      )
  put_sized owner s at (three h c a b) k n e size = refl
  put_sized owner s at (many h es) k n e size = refl

  update_sized : (owner : Option ℕ) (s : Shape) (at : ℕ) (target : Expr) (o : BinaryOp) (k : Kind) (n : ℕ) (e : Shape → ℕ → List Marked) → ((t : Shape) (at : ℕ) → length (e t at) ≡ n)
      → length (update_code globals layout owner s at target o k n e) ≡ update_size layout owner target n
  update_sized owner s at target o k n e size =
      let at_e = at + load_size layout owner target in
      omega (
        arith,
        length-append {A = Marked},
        load_sized globals layout owner s at target,
        size (push (kind_of globals layout target) (pending globals layout s target)) at_e,
        store_sized globals layout owner s (at_e + n + 1) target,
      )

  key_sized : (owner : Option ℕ) (s : Shape) (at : ℕ) (target : Expr) (i : Instr) → length (key_code globals layout owner s at target i) ≡ key_size layout owner target
  key_sized owner s at (two h a b) i =
      let t = push (kind_of globals layout a) (pending globals layout s a) in
      let at_b = at + load_size layout owner a in
      omega (
        arith,
        length-append {A = Marked},
        load_sized globals layout owner s at a,
        expr_sized globals layout t at_b b,
        store_sized globals layout owner s (at_b + expr_size layout b + 1) a,
      )
  key_sized owner s at (leaf h) i = refl
  key_sized owner s at (one h a) i = refl
  key_sized owner s at (three h c a b) i = refl
  key_sized owner s at (many h es) i = refl

  bare_sized : (s : Shape) (out again : ℕ) (o : BareOp) → length (bare_code globals layout s out again o) ≡ bare_size o
  bare_sized s out again (bare_is.Local l) = refl
  bare_sized s out again bare_is.Return = refl
  bare_sized s out again (bare_is.Break meant) = refl
  bare_sized s out again (bare_is.Continue meant) = refl
  bare_sized s out again _ = refl

  valued_sized : (s : Shape) (at : ℕ) (o : ValuedOp) (e : Expr) → length (valued_code globals layout s at o e) ≡ valued_size layout o e
  valued_sized s at (valued_is.Add owner) e = key_sized (slot_local layout owner) s at e does.AddKey
  valued_sized s at (valued_is.Delete owner) e = key_sized (slot_local layout owner) s at e does.DeleteKey
  valued_sized s at _ e = omega (arith, length-append {A = Marked}, expr_sized globals layout s at e)

  assign_sized : (s : Shape) (at : ℕ) (o : AssignOp) (owner : Option ℕ) (target e : Expr) → length (assign_code globals layout s at o owner target e) ≡ assign_size layout o owner target e
  assign_sized s at assign_is.Set owner target e = put_sized owner s at target (kind_of globals layout e) (expr_size layout e) (λ t at. expr_code globals layout t at e) (λ t at. expr_sized globals layout t at e)
  assign_sized s at assign_is.Add owner target e = update_sized owner s at target op_is.Add (kind_of globals layout e) (expr_size layout e) (λ t at. expr_code globals layout t at e) (λ t at. expr_sized globals layout t at e)
  assign_sized s at assign_is.Subtract owner target e =
      update_sized owner s at target op_is.Subtract (kind_of globals layout e) (expr_size layout e) (λ t at. expr_code globals layout t at e) (λ t at. expr_sized globals layout t at e)

  pub values_sized : (s : Shape) (l body at : ℕ) (es : Exprs) → length (values_code globals layout s l body at es) ≡ values_size layout es
  values_sized s l body at none = refl
  values_sized s l body at (more e es) =
      omega (
        arith,
        length-append {A = Marked},
        expr_sized globals layout (push (kind_at s.locals l) s) (at + 1) e,
        values_sized s l body (at + (1 + (expr_size layout e + (1 + (1 + 1))))) es,
      )

  mutual
    pub stmt_sized : (s : Shape) (out again at : ℕ) (b : Stmt) → length (stmt_code globals layout s out again at b) ≡ stmt_size layout b
    stmt_sized s out again at (bare h) = bare_sized s out again h.op
    stmt_sized s out again at (valued h e) = valued_sized s at h.op e
    stmt_sized s out again at (assign h target e) = assign_sized s at h.op (slot_local layout h.owner) target e
    stmt_sized s out again at (print span es) = omega (arith, length-append {A = Marked}, exprs_sized globals layout s at es)
    stmt_sized s out again at (block ss) = stmts_sized s out again at ss
    stmt_sized s out again at (branch bs b) =
        let at_else = at + branches_size layout bs in
        omega (arith, length-append {A = Marked}, branches_sized s out again (at_else + stmt_size layout b) at bs, stmt_sized s out again at_else b)
    stmt_sized s out again at (while_loop e b) =
        let at_b = at + expr_size layout e + 1 + 1 in
        omega (arith, length-append {A = Marked}, expr_sized globals layout s at e, stmt_sized s (at_b + stmt_size layout b + 1) at at_b b)
    stmt_sized s out again at (for_loop h e b) =
        let u = push Unsigned (push (kind_of globals layout e) s) in
        let at_next = at + expr_size layout e + 1 in
        let at_b = at_next + 1 + 1 in
        omega (arith, length-append {A = Marked}, expr_sized globals layout s at e, stmt_sized u (at_b + stmt_size layout b + 1) at_next at_b b)
    stmt_sized s out again at (switch slot e cs b) =
        let at_cases = at + expr_size layout e + 1 in
        let at_else = at_cases + cases_size layout cs in
        omega (
          arith,
          length-append {A = Marked},
          expr_sized globals layout s at e,
          cases_sized s out again (at_else + stmt_size layout b) (layout.first + slot) at_cases cs,
          stmt_sized s out again at_else b,
        )

    pub stmts_sized : (s : Shape) (out again at : ℕ) (ss : Stmts) → length (stmts_code globals layout s out again at ss) ≡ stmts_size layout ss
    stmts_sized s out again at no_stmts = refl
    stmts_sized s out again at (more_stmts b ss) =
        omega (arith, length-append {A = Marked}, stmt_sized s out again at b, stmts_sized s out again (at + stmt_size layout b) ss)

    pub branches_sized : (s : Shape) (out again behind at : ℕ) (bs : Branches) → length (branches_code globals layout s out again behind at bs) ≡ branches_size layout bs
    branches_sized s out again behind at no_branches = refl
    branches_sized s out again behind at (more_branches e b bs) =
        let at_b = at + expr_size layout e + 1 in
        omega (
          arith,
          length-append {A = Marked},
          expr_sized globals layout s at e,
          stmt_sized s out again at_b b,
          branches_sized s out again behind (at_b + stmt_size layout b + 1) bs,
        )

    pub cases_sized : (s : Shape) (out again behind l at : ℕ) (cs : Cases) → length (cases_code globals layout s out again behind l at cs) ≡ cases_size layout cs
    cases_sized s out again behind l at no_cases = refl
    cases_sized s out again behind l at (more_cases es b cs) =
        let at_b = at + values_size layout es + 1 in
        omega (
          arith,
          length-append {A = Marked},
          values_sized s l at_b at es,
          stmt_sized s out again at_b b,
          cases_sized s out again behind l (at_b + stmt_size layout b + 1) cs,
        )
