-- The code of any number of parts, and of what takes their values.
use Rattle.std.proofs.Common.{◌≡◌, ◌≢◌, ◌<◌, ◌≤◌, ◌-◌, ◌+◌, ℕ, zero, suc, Bool, true, false, List, [], ◌∷◌, ◌++◌, append_assoc, length, get_or, drop, drop-cons, refl, sym, ap, subst, ◌∙◌, arith, length-append, Option, Some, None}
use Rattle.std.specs.Prelude.{if◌then◌else◌}
use Rattle.std.proofs.Math.Seq.{drop-append_seam}
use Rattle.sp_words.specs.declared.methods.Method.{Method}
use Rattle.sp_words.specs.Methods.{changes}
use Rattle.sp_methods.specs.Kinds.{Kind}
use Rattle.sp_typed.specs.declared.words.ManyOp.{ManyOp}
use Rattle.sp_typed.specs.declared.words.ManyOp.TheVariants as many_is
use Rattle.sp_typed.specs.declared.words.UnitMethod.TheVariants as unit_method
use Rattle.sp_typed.specs.Exprs.{Expr, Exprs, leaf, two, none, more, exprs}
use Rattle.sp_typed.specs.inside.ExprCodes.{expr_size, exprs_size}
use Rattle.sp_meaning.specs.Globals.{Globals}
use Rattle.sp_code_meaning.specs.Layouts.{Layout}
use Rattle.sp_meaning.specs.Operations.{is_self}
use Rattle.sp_code.specs.Shapes.{Shape, push, with_operands}
use Rattle.sp_code_programs.specs.exprs.Marked.{Marked}
use Rattle.sp_code_programs.specs.exprs.Sizes as sizes
use Rattle.sp_code_programs.specs.exprs.Code.{kind_of, kinds_on, count, many_code, kept_offset, changing, expr_code, exprs_code, pending}
use Rattle.sp_emit.specs.Emitted.{Emitted, Adds, TurnsTo, lowest, lowered}
use Rattle.sp_emit.proofs.Adding.{adds_as, adds_then, adds_behind, adds_turn}
use Rattle.sp_lower_expr.specs.declared.rows.Row.TheVariants as row_is
use Rattle.sp_lower_expr.specs.Many.{row_of}
use Rattle.sp_law_code.proofs.exprs_lemmas.Sizes.{expr_sized}

pub not_self : (es : List Expr) → length es ≢ 1 → false ≡ is_self (exprs es)
not_self [] h = refl
not_self (e ∷ []) h = absurd (h refl)
not_self (e ∷ f ∷ es) h = cases e
  where
    cases : (e : Expr) → false ≡ is_self (more e (more f (exprs es)))
    cases (leaf h) = refl
    cases _ = refl

-- the next of what is left
pub next_part : (es : List Expr) (i : ℕ) (e : Expr) → i < length es → e ≡ get_or es i e → drop i es ≡ e ∷ drop (i + 1) es
next_part es i e lt is =
    let one : suc i ≡ i + 1 = omega arith in
    drop-cons es i e lt ∙ ap (λ (x : Expr). x ∷ drop (suc i) es) (sym is) ∙ ap (λ (n : ℕ). e ∷ drop n es) one

pub part_smaller : (es : List Expr) (i : ℕ) (e : Expr) → drop i es ≡ e ∷ drop (i + 1) es → expr_size e + 1 ≤ exprs_size (exprs es)
part_smaller es i e next = omega (arith, dropped es i, ap (λ (l : List Expr). exprs_size (exprs l)) next)
  where
    dropped : (es : List Expr) (i : ℕ) → exprs_size (exprs (drop i es)) ≤ exprs_size (exprs es)
    dropped es zero = omega arith
    dropped [] (suc i) = omega arith
    dropped (e ∷ es) (suc i) = omega (arith, dropped es i)

pub count_is : (es : List Expr) → count (exprs es) ≡ length es
count_is [] = refl
count_is (e ∷ es) = omega (arith, count_is es)

-- the lowest operands are there again
pub lowest_on : (js ks : List Kind) → lowest (length ks) (js ++ ks) ≡ ks
lowest_on js ks =
    let more_are : length (js ++ ks) - length ks ≡ length js = omega (arith, length-append js ks) in
    ap (λ (n : ℕ). drop n (js ++ ks)) more_are ∙ drop-append_seam js ks

module _ (globals : Globals) (layout : Layout) where
  kinds_above : (es : Exprs) (ks : List Kind) → (js : List Kind) × (kinds_on globals layout es ks ≡ js ++ ks)
  kinds_above none ks = ([], refl)
  kinds_above (more e es) ks =
      let k = kind_of globals layout e in
      let above = kinds_above es (k ∷ ks) in
      (above.0 ++ k ∷ [], above.1 ∙ sym (append_assoc above.0 (k ∷ []) ks))

  pub lowered_row : (s : Shape) (es : Exprs) (n : ℕ) → n ≡ length s.operands → lowered n (with_operands s (kinds_on globals layout es s.operands)) ≡ s
  lowered_row s es n is =
      let above = kinds_above es s.operands in
      ap (λ (m : ℕ). with_operands s (lowest m (kinds_on globals layout es s.operands))) is
      ∙ ap (λ (ks : List Kind). with_operands s (lowest (length s.operands) ks)) above.1
      ∙ ap (λ (ks : List Kind). with_operands s ks) (lowest_on above.0 s.operands)

  pending_above : (s : Shape) (e : Expr) → (js : List Kind) × (pending globals layout s e ≡ with_operands s (js ++ s.operands))
  pending_above s (two h a b) =
      let above = pending_above s a in
      let i = kind_of globals layout a in
      let k = kind_of globals layout b in
      (k ∷ i ∷ above.0, ap (λ (t : Shape). push k (push i t)) above.1)
  pending_above s _ = ([], refl)

  -- what waits for a receiver, and its arguments, are gone
  pub lowered_above : (s : Shape) (r : Expr) (es : Exprs) (n : ℕ) → n ≡ length s.operands
      → let t = push (kind_of globals layout r) (pending globals layout s r) in lowered n (with_operands t (kinds_on globals layout es t.operands)) ≡ s
  lowered_above s r es n is =
      let k = kind_of globals layout r in
      let waits = pending_above s r in
      let above = kinds_above es (k ∷ (waits.0 ++ s.operands)) in
      let all : above.0 ++ k ∷ (waits.0 ++ s.operands) ≡ (above.0 ++ k ∷ waits.0) ++ s.operands = sym (append_assoc above.0 (k ∷ waits.0) s.operands) in
      ap (λ (t : Shape). lowered n (with_operands (push k t) (kinds_on globals layout es (push k t).operands))) waits.1
      ∙ ap (λ (m : ℕ). with_operands s (lowest m (kinds_on globals layout es (k ∷ (waits.0 ++ s.operands))))) is
      ∙ ap (λ (ks : List Kind). with_operands s (lowest (length s.operands) ks)) (above.1 ∙ all)
      ∙ ap (λ (ks : List Kind). with_operands s ks) (lowest_on (above.0 ++ k ∷ waits.0) s.operands)

  -- what waits for a receiver, and the result and the new receiver on it, are gone
  pub lowered_under : (s : Shape) (r : Expr) (j k : Kind) (n : ℕ) → n ≡ length s.operands → lowered n (push j (push k (pending globals layout s r))) ≡ s
  lowered_under s r j k n is =
      let waits = pending_above s r in
      ap (λ (t : Shape). lowered n (push j (push k t))) waits.1
      ∙ ap (λ (m : ℕ). with_operands s (lowest m (j ∷ k ∷ (waits.0 ++ s.operands)))) is
      ∙ ap (λ (ks : List Kind). with_operands s ks) (lowest_on (j ∷ k ∷ waits.0) s.operands)

  pub exprs_added : (e₀ e₁ e₂ : Emitted) (e : Expr) (es : Exprs) → Adds e₀ e₁ (expr_code globals layout e₀.now (length e₀.marks) e) (push (kind_of globals layout e) e₀.now)
      → Adds e₁ e₂ (exprs_code globals layout e₁.now (length e₁.marks) es) (with_operands e₁.now (kinds_on globals layout es e₁.now.operands))
      → Adds e₀ e₂ (exprs_code globals layout e₀.now (length e₀.marks) (more e es)) (with_operands e₀.now (kinds_on globals layout (more e es) e₀.now.operands))
  exprs_added e₀ e₁ e₂ e es h₁ h₂ =
      adds_behind (λ t n. exprs_code globals layout t n es) (λ t. with_operands t (kinds_on globals layout es t.operands)) (sizes.expr_size layout e) (expr_sized globals layout e₀.now (length e₀.marks) e) h₁ h₂

  -- a row whose values are taken at once
  method_values : (b : Bool) (m : Method) (slot : Option ℕ) (change ms : List Marked) → (if b then row_is.Changes m slot else row_is.Values) ≡ row_is.Values → (if b then change else ms) ≡ ms
  method_values true m slot change ms is = cc
  method_values false m slot change ms is = refl

  pub values_code : (s t : Shape) (op : ManyOp) (o : Option ℕ) (n : ℕ) (change ms : List Marked) → row_of op o ≡ row_is.Values
      → kept_offset globals layout s op o (changing globals layout op change (ms ++ many_code globals layout t op n)) ≡ ms ++ many_code globals layout t op n
  values_code s t (many_is.OfUnit unit_method.Offset at) (Some l) n change ms is = cc
  values_code s t (many_is.OfUnit unit_method.Offset at) None n change ms is = refl
  values_code s t (many_is.OfUnit _ at) o n change ms is = refl
  values_code s t (many_is.Method m slot) o n change ms is = method_values (changes m) m slot change _ is
  values_code s t _ o n change ms is = refl

  pub values_added : (e₀ e₁ e₂ e₃ : Emitted) (op : ManyOp) (o : Option ℕ) (es : List Expr) (depth : ℕ) (change : List Marked) → row_of op o ≡ row_is.Values → depth ≡ length e₀.now.operands
      → Adds e₀ e₁ (exprs_code globals layout e₀.now (length e₀.marks) (exprs es)) (with_operands e₀.now (kinds_on globals layout (exprs es) e₀.now.operands))
      → Adds e₁ e₂ (many_code globals layout e₁.now op (length es)) e₁.now → TurnsTo e₂ e₃ (lowered depth e₂.now)
      → Adds e₀ e₃ (kept_offset globals layout e₀.now op o (changing globals layout op change
      (exprs_code globals layout e₀.now (length e₀.marks) (exprs es) ++ many_code globals layout (with_operands e₀.now (kinds_on globals layout (exprs es) e₀.now.operands)) op (count (exprs es))))) e₀.now
  values_added e₀ e₁ e₂ e₃ op o es depth change is at_depth h₁ h₂ h₃ =
      let s = e₀.now in
      let t = with_operands s (kinds_on globals layout (exprs es) s.operands) in
      let parts = exprs_code globals layout s (length e₀.marks) (exprs es) in
      let all = adds_turn (lowered depth) (adds_then (λ u n. many_code globals layout u op (length es)) (λ u. u) h₁ h₂) h₃ in
      let back = subst (λ (u : Shape). Adds e₀ e₃ (parts ++ many_code globals layout t op (length es)) u) (lowered_row s (exprs es) depth at_depth) all in
      adds_as _ back (ap (λ (n : ℕ). parts ++ many_code globals layout t op n) (sym (count_is es)) ∙ sym (values_code s t op o (count (exprs es)) change parts is))
