-- The code of statements. A break leads to one address and a continue to another.
use Rattle.std.specs.Prelude.{ℕ, ◌+◌, List, [], ◌∷◌, ◌++◌, Option, Some, None}
use Rattle.sp_words.specs.declared.operators.AssignOp.{AssignOp}
use Rattle.sp_words.specs.declared.operators.AssignOp.TheVariants as assign_is
use Rattle.sp_words.specs.declared.operators.BinaryOp.TheVariants as op_is
use Rattle.sp_words.specs.declared.operators.UnaryOp.TheVariants as unary_is
use Rattle.sp_value.specs.Val.{Val, void, str}
use Rattle.sp_methods.specs.Kinds.{Kind, Void, Bools, Unsigned, Text}
use Rattle.sp_typed.specs.declared.stmt_words.BareOp.{BareOp}
use Rattle.sp_typed.specs.declared.stmt_words.BareOp.TheVariants as bare_is
use Rattle.sp_typed.specs.declared.stmt_words.ValuedOp.{ValuedOp}
use Rattle.sp_typed.specs.declared.stmt_words.ValuedOp.TheVariants as valued_is
use Rattle.sp_typed.specs.Exprs.{Expr, Exprs, none, more}
use Rattle.sp_typed.specs.Stmts.{Stmt, Stmts, Branches, Cases, bare, valued, assign, print, block, branch, while_loop, for_loop, switch, no_stmts, more_stmts, no_branches, more_branches, no_cases, more_cases}
use Rattle.sp_meaning_states.specs.Types.{zero_value, kind_of_type}
use Rattle.sp_meaning.specs.Globals.{Globals}
use Rattle.sp_code_meaning.specs.Layouts.{Layout}
use Rattle.sp_code_meaning.specs.Exprs.{slot_local}
use Rattle.sp_code.specs.declared.instr.Instr.TheVariants as does
use Rattle.sp_code.specs.Shapes.{Shape, with_operands, push}
use Rattle.sp_code_programs.specs.exprs.Marked.{Marked, mark, constant}
use Rattle.sp_code_programs.specs.exprs.Sizes.{expr_size}
use Rattle.sp_code_programs.specs.exprs.Code.{kind_of, kinds_on, kind_at, count, expr_code, exprs_code, put_code, update_code, key_code}
use Rattle.sp_code_programs.specs.units.Sizes.{stmt_size, branches_size, cases_size, values_size}

-- the text of an assertion, or void where it has none
abbrev pub message : Option (List ℕ) → Val
message (Some x) = str x
message None = void

abbrev pub message_kind : Option (List ℕ) → Kind
message_kind (Some x) = Text
message_kind None = Void

module _ (globals : Globals) (layout : Layout) where
  abbrev pub bare_code : Shape → ℕ → ℕ → BareOp → List Marked
  bare_code s out again (bare_is.Local l) =
      constant s (zero_value globals.ranges l.ty) ∷ mark (push (kind_of_type globals.ranges l.ty) s) (does.Store (layout.first + l.slot)) ∷ []
  bare_code s out again bare_is.Return = constant s void ∷ mark (push Void s) does.Return ∷ []
  bare_code s out again (bare_is.Break meant) = mark s (does.Jump out) ∷ []
  bare_code s out again (bare_is.Continue meant) = mark s (does.Jump again) ∷ []
  bare_code s out again op = []

  abbrev pub valued_code : Shape → ℕ → ValuedOp → Expr → List Marked
  valued_code s at (valued_is.Local l) e = expr_code globals layout s at e ++ mark (push (kind_of globals layout e) s) (does.Store (layout.first + l.slot)) ∷ []
  valued_code s at valued_is.Return e = expr_code globals layout s at e ++ mark (push (kind_of globals layout e) s) does.Return ∷ []
  valued_code s at valued_is.Throw e = expr_code globals layout s at e ++ mark (push (kind_of globals layout e) s) does.Throw ∷ []
  valued_code s at (valued_is.Assert text) e =
      expr_code globals layout s at e ++ constant (push Bools s) (message text) ∷ mark (push (message_kind text) (push Bools s)) does.Assert ∷ []
  valued_code s at (valued_is.Add owner) e = key_code globals layout (slot_local layout owner) s at e does.AddKey
  valued_code s at (valued_is.Delete owner) e = key_code globals layout (slot_local layout owner) s at e does.DeleteKey
  valued_code s at valued_is.Expr e = expr_code globals layout s at e ++ mark (push (kind_of globals layout e) s) does.Pop ∷ []

  abbrev pub assign_code : Shape → ℕ → AssignOp → Option ℕ → Expr → Expr → List Marked
  assign_code s at assign_is.Set owner target e =
      put_code globals layout owner s at target (kind_of globals layout e) (expr_size layout e) (λ t at. expr_code globals layout t at e)
  assign_code s at assign_is.Add owner target e =
      update_code globals layout owner s at target op_is.Add (kind_of globals layout e) (expr_size layout e) (λ t at. expr_code globals layout t at e)
  assign_code s at assign_is.Subtract owner target e =
      update_code globals layout owner s at target op_is.Subtract (kind_of globals layout e) (expr_size layout e) (λ t at. expr_code globals layout t at e)

  -- the values of a case against that of a local: the first equal one leads to the body
  abbrev pub values_code : Shape → ℕ → ℕ → ℕ → Exprs → List Marked
  values_code s l body at none = []
  values_code s l body at (more e es) =
      let t = push (kind_at s.locals l) s in
      let b = push Bools s in
      mark s (does.Load l) ∷ (expr_code globals layout t (at + 1) e ++ mark (push (kind_of globals layout e) t) (does.Binary op_is.Equal) ∷ mark b (does.Unary unary_is.Not) ∷ mark b (does.JumpNot body) ∷ values_code s l body (at + (1 + (expr_size layout e + (1 + (1 + 1))))) es)

  abbrev mutual
    pub stmt_code : Shape → ℕ → ℕ → ℕ → Stmt → List Marked
    stmt_code s out again at (bare h) = bare_code s out again h.op
    stmt_code s out again at (valued h e) = valued_code s at h.op e
    stmt_code s out again at (assign h target e) = assign_code s at h.op (slot_local layout h.owner) target e
    stmt_code s out again at (print span es) =
        exprs_code globals layout s at es ++ mark (with_operands s (kinds_on globals layout es s.operands)) (does.Print (count es)) ∷ []
    stmt_code s out again at (block ss) = stmts_code s out again at ss
    stmt_code s out again at (branch bs b) =
        let at_else = at + branches_size layout bs in
        branches_code s out again (at_else + stmt_size layout b) at bs ++ stmt_code s out again at_else b
    stmt_code s out again at (while_loop e b) =
        let at_b = at + expr_size layout e + 1 + 1 in
        let behind = at_b + stmt_size layout b + 1 in
        expr_code globals layout s at e ++ mark (push Bools s) (does.JumpNot behind) ∷ mark s does.Turn ∷ (stmt_code s behind at at_b b ++ mark s (does.Jump at) ∷ [])
    stmt_code s out again at (for_loop h e b) =
        let t = push (kind_of globals layout e) s in
        let u = push Unsigned t in
        let at_next = at + expr_size layout e + 1 in
        let at_b = at_next + 1 + 1 in
        let leave = at_b + stmt_size layout b + 1 in
        expr_code globals layout s at e ++ mark t does.EachStart ∷ mark u (does.EachNext (leave + 1 + 1)) ∷ mark (push (kind_of_type globals.ranges h.ty) u) (does.Store (layout.first + h.slot)) ∷ (stmt_code u leave at_next at_b b ++ mark u (does.Jump at_next) ∷ mark u does.Pop ∷ mark t does.Pop ∷ [])
    stmt_code s out again at (switch slot e cs b) =
        let at_cases = at + expr_size layout e + 1 in
        let at_else = at_cases + cases_size layout cs in
        expr_code globals layout s at e ++ mark (push (kind_of globals layout e) s) (does.Store (layout.first + slot)) ∷ (cases_code s out again (at_else + stmt_size layout b) (layout.first + slot) at_cases cs ++ stmt_code s out again at_else b)

    pub stmts_code : Shape → ℕ → ℕ → ℕ → Stmts → List Marked
    stmts_code s out again at no_stmts = []
    stmts_code s out again at (more_stmts b ss) = stmt_code s out again at b ++ stmts_code s out again (at + stmt_size layout b) ss

    -- the branches of an `if`, each of which leads behind the whole at its end
    pub branches_code : Shape → ℕ → ℕ → ℕ → ℕ → Branches → List Marked
    branches_code s out again behind at no_branches = []
    branches_code s out again behind at (more_branches e b bs) =
        let at_b = at + expr_size layout e + 1 in
        let next = at_b + stmt_size layout b + 1 in
        expr_code globals layout s at e ++ mark (push Bools s) (does.JumpNot next) ∷ (stmt_code s out again at_b b ++ mark s (does.Jump behind) ∷ branches_code s out again behind next bs)

    -- the cases of a `switch`
    pub cases_code : Shape → ℕ → ℕ → ℕ → ℕ → ℕ → Cases → List Marked
    cases_code s out again behind l at no_cases = []
    cases_code s out again behind l at (more_cases es b cs) =
        let at_b = at + values_size layout es + 1 in
        let next = at_b + stmt_size layout b + 1 in
        values_code s l at_b at es ++ mark s (does.Jump next) ∷ (stmt_code s out again at_b b ++ mark s (does.Jump behind) ∷ cases_code s out again behind l next cs)
