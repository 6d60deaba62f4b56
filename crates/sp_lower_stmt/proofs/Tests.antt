-- The code of the tests of a case's values, and of what is printed.
use Rattle.std.proofs.Common.{◌≡◌, ℕ, ◌+◌, List, [], ◌∷◌, ◌++◌, append_assoc, length, sym, ap, subst, ◌∙◌, arith}
use Rattle.sp_words.specs.declared.operators.BinaryOp.TheVariants as op_is
use Rattle.sp_words.specs.declared.operators.UnaryOp.TheVariants as unary_is
use Rattle.sp_methods.specs.Kinds.{Kind, Bools}
use Rattle.sp_typed.specs.Exprs.{Expr, Exprs, none, more, exprs}
use Rattle.sp_meaning.specs.Globals.{Globals}
use Rattle.sp_code_meaning.specs.Layouts.{Layout}
use Rattle.sp_code.specs.declared.instr.Instr.TheVariants as does
use Rattle.sp_code.specs.Shapes.{Shape, push, with_operands}
use Rattle.sp_code_programs.specs.exprs.Marked.{Marked, mark}
use Rattle.sp_code_programs.specs.exprs.Sizes.{expr_size}
use Rattle.sp_code_programs.specs.exprs.Code.{kind_at, kind_of, kinds_on, count, expr_code, exprs_code}
use Rattle.sp_code_programs.specs.units.Code.{values_code}
use Rattle.sp_emit.specs.Emitted.{Emitted, Adds, TurnsTo, popped, lowered}
use Rattle.sp_emit.proofs.Adding.{adds_as, adds_then, adds_behind, adds_turn}
use Rattle.sp_lower_expr.proofs.Many.{count_is, lowered_row}
use Rattle.sp_law_code.proofs.bodies_lemmas.Sizes.{values_sized}

module _ (globals : Globals) (layout : Layout) where
  abbrev code : Shape → ℕ → Expr → List Marked
  code s at e = expr_code globals layout s at e

  abbrev kind : Expr → Kind
  kind e = kind_of globals layout e

  -- a test
  pub value_added : (e₀ e₁ e₂ e₃ e₄ e₅ e₆ e₇ : Emitted) (e : Expr) (l body : ℕ) → Adds e₀ e₁ (mark e₀.now (does.Load l) ∷ []) e₀.now → TurnsTo e₁ e₂ (push (kind_at e₁.now.locals l) e₁.now)
      → Adds e₂ e₃ (code e₂.now (length e₂.marks) e) (push (kind e) e₂.now) → Adds e₃ e₄ (mark e₃.now (does.Binary op_is.Equal) ∷ []) (popped e₃.now)
      → ((s : Shape) (k : Kind) → e₄.now ≡ push k s → TurnsTo e₄ e₅ (push Bools s))
      → Adds e₅ e₆ (mark e₅.now (does.Unary unary_is.Not) ∷ []) e₅.now → Adds e₆ e₇ (mark e₆.now (does.JumpNot body) ∷ []) (popped e₆.now)
      → Adds e₀ e₇ (values_code globals layout e₀.now l body (length e₀.marks) (more e none)) e₀.now
  value_added e₀ e₁ e₂ e₃ e₄ e₅ e₆ e₇ e l body h₁ t₂ h₃ h₄ t₅ h₆ h₇ =
      let s = e₀.now in
      let at = length e₀.marks in
      let k = kind_at s.locals l in
      let t = push k s in
      let b = push Bools s in
      let load = mark s (does.Load l) in
      let value = code t (at + 1) e in
      let equal = mark (push (kind e) t) (does.Binary op_is.Equal) in
      let isnt = mark b (does.Unary unary_is.Not) in
      let found = mark b (does.JumpNot body) in
      let a₂ = adds_turn (λ u. push (kind_at u.locals l) u) h₁ t₂ in
      let a₃ : Adds e₀ e₃ ((load ∷ []) ++ value) (push (kind e) t) = adds_then (λ u n. code u n e) (push (kind e)) a₂ h₃ in
      let a₄ : Adds e₀ e₄ (((load ∷ []) ++ value) ++ equal ∷ []) t = adds_then (λ u n. mark u (does.Binary op_is.Equal) ∷ []) popped a₃ h₄ in
      let a₅ = adds_turn (λ u. b) a₄ (t₅ s k a₄.now) in
      let a₆ = adds_then (λ u n. mark u (does.Unary unary_is.Not) ∷ []) (λ u. u) a₅ h₆ in
      let a₇ : Adds e₀ e₇ (((((load ∷ []) ++ value) ++ equal ∷ []) ++ isnt ∷ []) ++ found ∷ []) s = adds_then (λ u n. mark u (does.JumpNot body) ∷ []) popped a₆ h₇ in
      adds_as (load ∷ (value ++ equal ∷ isnt ∷ found ∷ [])) a₇ (simp append_assoc)

  -- a test, and those behind it
  pub values_added : (e₀ e₁ e₂ : Emitted) (e : Expr) (es : Exprs) (l body : ℕ) → Adds e₀ e₁ (values_code globals layout e₀.now l body (length e₀.marks) (more e none)) e₀.now
      → Adds e₁ e₂ (values_code globals layout e₁.now l body (length e₁.marks) es) e₁.now
      → Adds e₀ e₂ (values_code globals layout e₀.now l body (length e₀.marks) (more e es)) e₀.now
  values_added e₀ e₁ e₂ e es l body h₁ h₂ =
      let s = e₀.now in
      let at = length e₀.marks in
      let t = push (kind_at s.locals l) s in
      let b = push Bools s in
      let load = mark s (does.Load l) in
      let value = code t (at + 1) e in
      let equal = mark (push (kind e) t) (does.Binary op_is.Equal) in
      let isnt = mark b (does.Unary unary_is.Not) in
      let found = mark b (does.JumpNot body) in
      let n = 1 + (expr_size layout e + (1 + (1 + (1 + 0)))) in
      let next = at + (1 + (expr_size layout e + (1 + (1 + 1)))) in
      let is_next : at + n ≡ next = omega arith in
      let a = adds_behind (λ u m. values_code globals layout u l body m es) (λ u. u) n (values_sized globals layout s l body at (more e none)) h₁ h₂ in
      let placed = adds_as ((load ∷ (value ++ equal ∷ isnt ∷ found ∷ [])) ++ values_code globals layout s l body next es) a (ap (λ (m : ℕ). (load ∷ (value ++ equal ∷ isnt ∷ found ∷ [])) ++ values_code globals layout s l body m es) is_next) in
      adds_as (load ∷ (value ++ equal ∷ isnt ∷ found ∷ values_code globals layout s l body next es)) placed (simp append_assoc)

  -- values that are told
  pub print_added : (e₀ e₁ e₂ e₃ : Emitted) (es : List Expr) (n depth : ℕ) → n ≡ length es → depth ≡ length e₀.now.operands
      → Adds e₀ e₁ (exprs_code globals layout e₀.now (length e₀.marks) (exprs es)) (with_operands e₀.now (kinds_on globals layout (exprs es) e₀.now.operands))
      → Adds e₁ e₂ (mark e₁.now (does.Print n) ∷ []) e₁.now → TurnsTo e₂ e₃ (lowered depth e₂.now)
      → Adds e₀ e₃ (exprs_code globals layout e₀.now (length e₀.marks) (exprs es) ++ mark (with_operands e₀.now (kinds_on globals layout (exprs es) e₀.now.operands)) (does.Print (count (exprs es))) ∷ []) e₀.now
  print_added e₀ e₁ e₂ e₃ es n depth is at_depth h₁ h₂ h₃ =
      let s = e₀.now in
      let t = with_operands s (kinds_on globals layout (exprs es) s.operands) in
      let parts = exprs_code globals layout s (length e₀.marks) (exprs es) in
      let all = adds_turn (lowered depth) (adds_then (λ u m. mark u (does.Print n) ∷ []) (λ u. u) h₁ h₂) h₃ in
      let back = subst (λ (u : Shape). Adds e₀ e₃ (parts ++ mark t (does.Print n) ∷ []) u) (lowered_row globals layout s (exprs es) depth at_depth) all in
      adds_as _ back (ap (λ (m : ℕ). parts ++ mark t (does.Print m) ∷ []) (is ∙ sym (count_is es)))
