-- The code of loops, put together from that of their parts.
use Rattle.std.proofs.Common.{◌≡◌, ℕ, ◌+◌, List, [], ◌∷◌, ◌++◌, append_assoc, length, ap, subst, ◌∙◌, arith, length-append}
use Rattle.sp_methods.specs.Kinds.{Kind, Bools, Unsigned}
use Rattle.sp_typed.specs.declared.stmt_words.For.{For}
use Rattle.sp_typed.specs.Exprs.{Expr}
use Rattle.sp_typed.specs.Stmts.{Stmt, while_loop, for_loop}
use Rattle.sp_meaning_states.specs.Types.{kind_of_type}
use Rattle.sp_meaning.specs.Globals.{Globals}
use Rattle.sp_code_meaning.specs.Layouts.{Layout}
use Rattle.sp_code.specs.declared.instr.Instr.TheVariants as does
use Rattle.sp_code.specs.Shapes.{Shape, push}
use Rattle.sp_code_programs.specs.exprs.Marked.{Marked, mark}
use Rattle.sp_code_programs.specs.exprs.Sizes.{expr_size}
use Rattle.sp_code_programs.specs.exprs.Code.{kind_of, expr_code}
use Rattle.sp_code_programs.specs.units.Sizes.{stmt_size}
use Rattle.sp_code_programs.specs.units.Code.{stmt_code}
use Rattle.sp_emit.specs.Emitted.{Emitted, Adds, TurnsTo, popped}
use Rattle.sp_emit.proofs.Adding.{adds_as, adds_long, adds_then, adds_behind, adds_turn}
use Rattle.sp_lower_stmt.specs.Added.{each_code, left_code}
use Rattle.sp_law_code.proofs.exprs_lemmas.Sizes.{expr_sized}

module _ (globals : Globals) (layout : Layout) where
  abbrev code : Shape → ℕ → Expr → List Marked
  code s at e = expr_code globals layout s at e

  abbrev kind : Expr → Kind
  kind e = kind_of globals layout e

  abbrev size : Expr → ℕ
  size e = expr_size layout e

  -- a `while`, by where a break and a continue lead and where its body stands
  abbrev while_as : Shape → ℕ → Expr → Stmt → ℕ → ℕ → ℕ → List Marked
  while_as s at e b leave again at_b =
      code s at e ++ mark (push Bools s) (does.JumpNot leave) ∷ mark s does.Turn ∷ (stmt_code globals layout s leave again at_b b ++ mark s (does.Jump again) ∷ [])

  pub while_added : (e₀ e₁ e₂ e₃ e₄ e₅ : Emitted) (e : Expr) (b : Stmt) (out onward leave again : ℕ) → again ≡ length e₀.marks → leave ≡ length e₁.marks + stmt_size layout b + 3
      → Adds e₀ e₁ (code e₀.now (length e₀.marks) e) (push Bools e₀.now) → Adds e₁ e₂ (mark e₁.now (does.JumpNot leave) ∷ []) (popped e₁.now)
      → Adds e₂ e₃ (mark e₂.now does.Turn ∷ []) e₂.now → Adds e₃ e₄ (stmt_code globals layout e₃.now leave again (length e₃.marks) b) e₃.now
      → Adds e₄ e₅ (mark e₄.now (does.Jump again) ∷ []) e₄.now
      → Adds e₀ e₅ (stmt_code globals layout e₀.now out onward (length e₀.marks) (while_loop e b)) e₀.now
  while_added e₀ e₁ e₂ e₃ e₄ e₅ e b out onward leave again is_again is_leave h₁ h₂ h₃ h₄ h₅ =
      let s = e₀.now in
      let at = length e₀.marks in
      let at_b = at + size e + 1 + 1 in
      let test = code s at e in
      let skip = mark (push Bools s) (does.JumpNot leave) in
      let turn = mark s does.Turn in
      let front = test ++ skip ∷ turn ∷ [] in
      let long_e = expr_sized globals layout s at e in
      let a₂ : Adds e₀ e₂ (test ++ skip ∷ []) s = adds_then (λ t n. mark t (does.JumpNot leave) ∷ []) popped h₁ h₂ in
      let a₃ = adds_as front (adds_then (λ t n. mark t does.Turn ∷ []) (λ t. t) a₂ h₃) (append_assoc test (skip ∷ []) (turn ∷ [])) in
      let long₃ : length front ≡ size e + 2 = omega (arith, length-append test (skip ∷ turn ∷ []), long_e) in
      let a₄ = adds_behind (λ t n. stmt_code globals layout t leave again n b) (λ t. t) (size e + 2) long₃ a₃ h₄ in
      let a₅ = adds_then (λ t n. mark t (does.Jump again) ∷ []) (λ t. t) a₄ h₅ in
      let is_b : at + (size e + 2) ≡ at_b = omega arith in
      let is_behind : leave ≡ at_b + stmt_size layout b + 1 = omega (arith, is_leave, adds_long h₁, long_e) in
      let a₆ = adds_as (test ++ skip ∷ turn ∷ (stmt_code globals layout s leave again (at + (size e + 2)) b ++ mark s (does.Jump again) ∷ [])) a₅ (simp append_assoc) in
      adds_as _ a₆
      (ap (while_as s at e b leave again) is_b ∙ ap (λ (n : ℕ). while_as s at e b leave n at_b) is_again ∙ ap (λ (n : ℕ). while_as s at e b n at at_b) is_behind)

  -- a `for`, by the same
  abbrev for_as : Shape → ℕ → For → Expr → Stmt → ℕ → ℕ → ℕ → List Marked
  for_as s at h e b leave again at_b =
      let t = push (kind e) s in
      let u = push Unsigned t in
      code s at e ++ mark t does.EachStart ∷ mark u (does.EachNext (leave + 1 + 1)) ∷ mark (push (kind_of_type globals.ranges h.ty) u) (does.Store (layout.first + h.slot)) ∷ (stmt_code globals layout u leave again at_b b ++ left_code t again)

  pub for_added : (e₀ e₁ e₂ e₃ e₄ : Emitted) (h : For) (e : Expr) (b : Stmt) (out onward leave again : ℕ) → again ≡ length e₁.marks → leave ≡ again + stmt_size layout b + 3
      → Adds e₀ e₁ (code e₀.now (length e₀.marks) e ++ mark (push (kind e) e₀.now) does.EachStart ∷ []) (push Unsigned (push (kind e) e₀.now))
      → Adds e₁ e₂ (each_code globals layout e₁.now leave h) e₁.now → Adds e₂ e₃ (stmt_code globals layout e₂.now leave again (length e₂.marks) b) e₂.now
      → Adds e₃ e₄ (left_code (push (kind e) e₀.now) again) e₀.now
      → Adds e₀ e₄ (stmt_code globals layout e₀.now out onward (length e₀.marks) (for_loop h e b)) e₀.now
  for_added e₀ e₁ e₂ e₃ e₄ h e b out onward leave again is_again is_leave h₁ h₂ h₃ h₄ =
      let s = e₀.now in
      let at = length e₀.marks in
      let t = push (kind e) s in
      let u = push Unsigned t in
      let at_next = at + size e + 1 in
      let at_b = at_next + 1 + 1 in
      let sequence = code s at e in
      let start = mark t does.EachStart in
      let k = kind_of_type globals.ranges h.ty in
      let next = mark u (does.EachNext (leave + 1 + 1)) ∷ mark (push k u) (does.Store (layout.first + h.slot)) ∷ [] in
      let front = (sequence ++ start ∷ []) ++ next in
      let long_e = expr_sized globals layout s at e in
      let a₂ = adds_then (λ v n. mark v (does.EachNext (leave + 1 + 1)) ∷ mark (push k v) (does.Store (layout.first + h.slot)) ∷ []) (λ v. v) h₁ h₂ in
      let long₁ : length (sequence ++ start ∷ []) ≡ size e + 1 = omega (arith, length-append sequence (start ∷ []), long_e) in
      let long₂ : length front ≡ size e + 3 = omega (arith, length-append (sequence ++ start ∷ []) next, long₁) in
      let a₃ = adds_behind (λ v n. stmt_code globals layout v leave again n b) (λ v. v) (size e + 3) long₂ a₂ h₃ in
      let a₄ = adds_then (λ v n. left_code t again) (λ v. s) a₃ h₄ in
      let is_b : at + (size e + 3) ≡ at_b = omega arith in
      let is_next : again ≡ at_next = omega (arith, is_again, adds_long h₁, long₁) in
      let is_behind : leave ≡ at_b + stmt_size layout b + 1 = omega (arith, is_leave, is_next) in
      let a₅ = adds_as (sequence ++ start ∷ mark u (does.EachNext (leave + 1 + 1)) ∷ mark (push k u) (does.Store (layout.first + h.slot)) ∷ (stmt_code globals layout u leave again (at + (size e + 3)) b ++ left_code t again)) a₄ (simp append_assoc) in
      adds_as _ a₅
      (ap (for_as s at h e b leave again) is_b ∙ ap (λ (n : ℕ). for_as s at h e b leave n at_b) is_next ∙ ap (λ (n : ℕ). for_as s at h e b n at_next at_b) is_behind)

  -- the next value of a `for`
  pub each_added : (e₀ e₁ e₂ e₃ : Emitted) (h : For) (leave behind l : ℕ) → behind ≡ leave + 1 + 1 → l ≡ layout.first + h.slot
      → Adds e₀ e₁ (mark e₀.now (does.EachNext behind) ∷ []) e₀.now → TurnsTo e₁ e₂ (push (kind_of_type globals.ranges h.ty) e₁.now)
      → Adds e₂ e₃ (mark e₂.now (does.Store l) ∷ []) (popped e₂.now) → Adds e₀ e₃ (each_code globals layout e₀.now leave h) e₀.now
  each_added e₀ e₁ e₂ e₃ h leave behind l is_behind is_local h₁ t₂ h₃ =
      let u = e₀.now in
      let k = kind_of_type globals.ranges h.ty in
      let a₂ = adds_turn (push k) h₁ t₂ in
      let a₃ = adds_then (λ t n. mark t (does.Store l) ∷ []) popped a₂ h₃ in
      adds_as _ a₃
      (ap (λ (n : ℕ). mark u (does.EachNext n) ∷ mark (push k u) (does.Store l) ∷ []) is_behind
      ∙ ap (λ (n : ℕ). mark u (does.EachNext (leave + 1 + 1)) ∷ mark (push k u) (does.Store n) ∷ []) is_local)

-- what stands behind the body of a `for`
pub left_added : (e₀ e₁ e₂ e₃ : Emitted) (s : Shape) (k : Kind) (again : ℕ) → e₀.now ≡ push Unsigned (push k s) → Adds e₀ e₁ (mark e₀.now (does.Jump again) ∷ []) e₀.now
    → Adds e₁ e₂ (mark e₁.now does.Pop ∷ []) (popped e₁.now) → Adds e₂ e₃ (mark e₂.now does.Pop ∷ []) (popped e₂.now) → Adds e₀ e₃ (left_code (push k s) again) s
left_added e₀ e₁ e₂ e₃ s k again begin h₁ h₂ h₃ =
    let a₂ = adds_then (λ t n. mark t does.Pop ∷ []) popped h₁ h₂ in
    let a₃ = adds_then (λ t n. mark t does.Pop ∷ []) popped a₂ h₃ in
    subst (λ (t : Shape). Adds e₀ e₃ (mark t (does.Jump again) ∷ mark t does.Pop ∷ mark (popped t) does.Pop ∷ []) (popped (popped t))) begin a₃
