-- The code of `if` and `switch`, put together from that of their branches and cases.
use Rattle.std.proofs.Common.{◌≡◌, ℕ, ◌+◌, List, [], ◌∷◌, ◌++◌, append_assoc, length, ap, ◌∙◌, arith, length-append}
use Rattle.sp_methods.specs.Kinds.{Kind, Bools}
use Rattle.sp_typed.specs.Exprs.{Expr, Exprs}
use Rattle.sp_typed.specs.Stmts.{Stmt, Branches, Cases, branch, switch, no_branches, more_branches, no_cases, more_cases}
use Rattle.sp_meaning.specs.Globals.{Globals}
use Rattle.sp_code_meaning.specs.Layouts.{Layout}
use Rattle.sp_code.specs.declared.instr.Instr.TheVariants as does
use Rattle.sp_code.specs.Shapes.{Shape, push}
use Rattle.sp_code_programs.specs.exprs.Marked.{Marked, mark}
use Rattle.sp_code_programs.specs.exprs.Sizes.{expr_size}
use Rattle.sp_code_programs.specs.exprs.Code.{kind_of, expr_code}
use Rattle.sp_code_programs.specs.units.Sizes.{values_size, stmt_size, branches_size, cases_size}
use Rattle.sp_code_programs.specs.units.Code.{values_code, stmt_code, branches_code, cases_code}
use Rattle.sp_emit.specs.Emitted.{Emitted, Adds, popped}
use Rattle.sp_emit.proofs.Adding.{adds_as, adds_long, adds_then, adds_behind}
use Rattle.sp_law_code.proofs.exprs_lemmas.Sizes.{expr_sized}
use Rattle.sp_law_code.proofs.bodies_lemmas.Sizes.{values_sized, branches_sized, cases_sized}

module _ (globals : Globals) (layout : Layout) where
  abbrev code : Shape → ℕ → Expr → List Marked
  code s at e = expr_code globals layout s at e

  abbrev kind : Expr → Kind
  kind e = kind_of globals layout e

  abbrev size : Expr → ℕ
  size e = expr_size layout e

  abbrev stmt : Shape → ℕ → ℕ → ℕ → Stmt → List Marked
  stmt s out onward at b = stmt_code globals layout s out onward at b

  -- a branch, by where its body stands and where the next one does
  abbrev branch_as : Shape → ℕ → ℕ → ℕ → ℕ → Expr → Stmt → ℕ → ℕ → List Marked
  branch_as s out onward behind at e b at_b next = code s at e ++ mark (push Bools s) (does.JumpNot next) ∷ (stmt s out onward at_b b ++ mark s (does.Jump behind) ∷ [])

  pub branch_added : (e₀ e₁ e₂ e₃ e₄ : Emitted) (e : Expr) (b : Stmt) (out onward behind next : ℕ) → next ≡ length e₁.marks + stmt_size layout b + 2
      → Adds e₀ e₁ (code e₀.now (length e₀.marks) e) (push Bools e₀.now) → Adds e₁ e₂ (mark e₁.now (does.JumpNot next) ∷ []) (popped e₁.now)
      → Adds e₂ e₃ (stmt e₂.now out onward (length e₂.marks) b) e₂.now → Adds e₃ e₄ (mark e₃.now (does.Jump behind) ∷ []) e₃.now
      → Adds e₀ e₄ (branches_code globals layout e₀.now out onward behind (length e₀.marks) (more_branches e b no_branches)) e₀.now
  branch_added e₀ e₁ e₂ e₃ e₄ e b out onward behind next is_next h₁ h₂ h₃ h₄ =
      let s = e₀.now in
      let at = length e₀.marks in
      let at_b = at + size e + 1 in
      let test = code s at e in
      let skip = mark (push Bools s) (does.JumpNot next) in
      let long_e = expr_sized globals layout s at e in
      let a₂ : Adds e₀ e₂ (test ++ skip ∷ []) s = adds_then (λ t n. mark t (does.JumpNot next) ∷ []) popped h₁ h₂ in
      let long₂ : length (test ++ skip ∷ []) ≡ size e + 1 = omega (arith, length-append test (skip ∷ []), long_e) in
      let a₃ = adds_behind (λ t n. stmt t out onward n b) (λ t. t) (size e + 1) long₂ a₂ h₃ in
      let a₄ = adds_then (λ t n. mark t (does.Jump behind) ∷ []) (λ t. t) a₃ h₄ in
      let is_b : at + (size e + 1) ≡ at_b = omega arith in
      let is_end : next ≡ at_b + stmt_size layout b + 1 = omega (arith, is_next, adds_long h₁, long_e) in
      let a₅ = adds_as (test ++ skip ∷ (stmt s out onward (at + (size e + 1)) b ++ mark s (does.Jump behind) ∷ [])) a₄ (simp append_assoc) in
      adds_as _ a₅ (ap (λ (n : ℕ). branch_as s out onward behind at e b n next) is_b ∙ ap (branch_as s out onward behind at e b at_b) is_end)

  -- a branch, and those behind it
  pub branches_added : (e₀ e₁ e₂ : Emitted) (e : Expr) (b : Stmt) (bs : Branches) (out onward behind : ℕ)
      → Adds e₀ e₁ (branches_code globals layout e₀.now out onward behind (length e₀.marks) (more_branches e b no_branches)) e₀.now
      → Adds e₁ e₂ (branches_code globals layout e₁.now out onward behind (length e₁.marks) bs) e₁.now
      → Adds e₀ e₂ (branches_code globals layout e₀.now out onward behind (length e₀.marks) (more_branches e b bs)) e₀.now
  branches_added e₀ e₁ e₂ e b bs out onward behind h₁ h₂ =
      let s = e₀.now in
      let at = length e₀.marks in
      let at_b = at + size e + 1 in
      let next = at_b + stmt_size layout b + 1 in
      let test = code s at e in
      let skip = mark (push Bools s) (does.JumpNot next) in
      let body = stmt s out onward at_b b in
      let over = mark s (does.Jump behind) in
      let n = size e + (1 + (stmt_size layout b + (1 + 0))) in
      let is_next : at + n ≡ next = omega arith in
      let a = adds_behind (λ t m. branches_code globals layout t out onward behind m bs) (λ t. t) n (branches_sized globals layout s out onward behind at (more_branches e b no_branches)) h₁ h₂ in
      let placed = adds_as ((test ++ skip ∷ (body ++ over ∷ [])) ++ branches_code globals layout s out onward behind next bs) a (ap (λ (m : ℕ). (test ++ skip ∷ (body ++ over ∷ [])) ++ branches_code globals layout s out onward behind m bs) is_next) in
      adds_as (test ++ skip ∷ (body ++ over ∷ branches_code globals layout s out onward behind next bs)) placed (simp append_assoc)

  -- all branches, and the last `else`
  pub choice_added : (e₀ e₁ e₂ : Emitted) (bs : Branches) (b : Stmt) (out onward behind : ℕ) → behind ≡ length e₀.marks + (branches_size layout bs + stmt_size layout b)
      → Adds e₀ e₁ (branches_code globals layout e₀.now out onward behind (length e₀.marks) bs) e₀.now → Adds e₁ e₂ (stmt e₁.now out onward (length e₁.marks) b) e₁.now
      → Adds e₀ e₂ (stmt e₀.now out onward (length e₀.marks) (branch bs b)) e₀.now
  choice_added e₀ e₁ e₂ bs b out onward behind is_behind h₁ h₂ =
      let s = e₀.now in
      let at = length e₀.marks in
      let at_else = at + branches_size layout bs in
      let a = adds_behind (λ t n. stmt t out onward n b) (λ t. t) (branches_size layout bs) (branches_sized globals layout s out onward behind at bs) h₁ h₂ in
      let is : behind ≡ at_else + stmt_size layout b = omega (arith, is_behind) in
      adds_as _ a (ap (λ (n : ℕ). branches_code globals layout s out onward n at bs ++ stmt s out onward at_else b) is)

  -- a case, by where its body stands and where the next one does
  abbrev case_as : Shape → ℕ → ℕ → ℕ → ℕ → ℕ → Exprs → Stmt → ℕ → ℕ → List Marked
  case_as s out onward behind l at es b at_b next = values_code globals layout s l at_b at es ++ mark s (does.Jump next) ∷ (stmt s out onward at_b b ++ mark s (does.Jump behind) ∷ [])

  pub case_added : (e₀ e₁ e₂ e₃ e₄ : Emitted) (es : Exprs) (b : Stmt) (out onward behind l at_body next : ℕ) → at_body ≡ length e₀.marks + values_size layout es + 1 → next ≡ at_body + stmt_size layout b + 1
      → Adds e₀ e₁ (values_code globals layout e₀.now l at_body (length e₀.marks) es) e₀.now → Adds e₁ e₂ (mark e₁.now (does.Jump next) ∷ []) e₁.now
      → Adds e₂ e₃ (stmt e₂.now out onward (length e₂.marks) b) e₂.now → Adds e₃ e₄ (mark e₃.now (does.Jump behind) ∷ []) e₃.now
      → Adds e₀ e₄ (cases_code globals layout e₀.now out onward behind l (length e₀.marks) (more_cases es b no_cases)) e₀.now
  case_added e₀ e₁ e₂ e₃ e₄ es b out onward behind l at_body next is_body is_next h₁ h₂ h₃ h₄ =
      let s = e₀.now in
      let at = length e₀.marks in
      let n = values_size layout es in
      let at_b = at + n + 1 in
      let tests = values_code globals layout s l at_body at es in
      let skip = mark s (does.Jump next) in
      let long = values_sized globals layout s l at_body at es in
      let a₂ = adds_then (λ t m. mark t (does.Jump next) ∷ []) (λ t. t) h₁ h₂ in
      let long₂ : length (tests ++ skip ∷ []) ≡ n + 1 = omega (arith, length-append tests (skip ∷ []), long) in
      let a₃ = adds_behind (λ t m. stmt t out onward m b) (λ t. t) (n + 1) long₂ a₂ h₃ in
      let a₄ = adds_then (λ t m. mark t (does.Jump behind) ∷ []) (λ t. t) a₃ h₄ in
      let is_b : at + (n + 1) ≡ at_body = omega (arith, is_body) in
      let is_end : next ≡ at_b + stmt_size layout b + 1 = omega (arith, is_next, is_body) in
      let a₅ = adds_as (tests ++ skip ∷ (stmt s out onward (at + (n + 1)) b ++ mark s (does.Jump behind) ∷ [])) a₄ (simp append_assoc) in
      let a₆ = adds_as (case_as s out onward behind l at es b at_body next) a₅ (ap (λ (m : ℕ). tests ++ skip ∷ (stmt s out onward m b ++ mark s (does.Jump behind) ∷ [])) is_b) in
      adds_as _ a₆ (ap (λ (m : ℕ). case_as s out onward behind l at es b m next) is_body ∙ ap (case_as s out onward behind l at es b at_b) is_end)

  -- a case, and those behind it
  pub cases_added : (e₀ e₁ e₂ : Emitted) (es : Exprs) (b : Stmt) (cs : Cases) (out onward behind l : ℕ)
      → Adds e₀ e₁ (cases_code globals layout e₀.now out onward behind l (length e₀.marks) (more_cases es b no_cases)) e₀.now
      → Adds e₁ e₂ (cases_code globals layout e₁.now out onward behind l (length e₁.marks) cs) e₁.now
      → Adds e₀ e₂ (cases_code globals layout e₀.now out onward behind l (length e₀.marks) (more_cases es b cs)) e₀.now
  cases_added e₀ e₁ e₂ es b cs out onward behind l h₁ h₂ =
      let s = e₀.now in
      let at = length e₀.marks in
      let at_b = at + values_size layout es + 1 in
      let next = at_b + stmt_size layout b + 1 in
      let tests = values_code globals layout s l at_b at es in
      let skip = mark s (does.Jump next) in
      let body = stmt s out onward at_b b in
      let over = mark s (does.Jump behind) in
      let n = values_size layout es + (1 + (stmt_size layout b + (1 + 0))) in
      let is_next : at + n ≡ next = omega arith in
      let a = adds_behind (λ t m. cases_code globals layout t out onward behind l m cs) (λ t. t) n (cases_sized globals layout s out onward behind l at (more_cases es b no_cases)) h₁ h₂ in
      let placed = adds_as ((tests ++ skip ∷ (body ++ over ∷ [])) ++ cases_code globals layout s out onward behind l next cs) a (ap (λ (m : ℕ). (tests ++ skip ∷ (body ++ over ∷ [])) ++ cases_code globals layout s out onward behind l m cs) is_next) in
      adds_as (tests ++ skip ∷ (body ++ over ∷ cases_code globals layout s out onward behind l next cs)) placed (simp append_assoc)

  -- all cases, and the `default`
  abbrev chosen_code : Shape → ℕ → ℕ → ℕ → ℕ → Cases → Stmt → List Marked
  chosen_code s out onward l at cs b =
      let at_else = at + cases_size layout cs in
      cases_code globals layout s out onward (at_else + stmt_size layout b) l at cs ++ stmt s out onward at_else b

  pub chosen_added : (e₀ e₁ e₂ : Emitted) (cs : Cases) (b : Stmt) (out onward behind l : ℕ) → behind ≡ length e₀.marks + (cases_size layout cs + stmt_size layout b)
      → Adds e₀ e₁ (cases_code globals layout e₀.now out onward behind l (length e₀.marks) cs) e₀.now → Adds e₁ e₂ (stmt e₁.now out onward (length e₁.marks) b) e₁.now
      → Adds e₀ e₂ (chosen_code e₀.now out onward l (length e₀.marks) cs b) e₀.now
  chosen_added e₀ e₁ e₂ cs b out onward behind l is_behind h₁ h₂ =
      let s = e₀.now in
      let at = length e₀.marks in
      let at_else = at + cases_size layout cs in
      let a = adds_behind (λ t n. stmt t out onward n b) (λ t. t) (cases_size layout cs) (cases_sized globals layout s out onward behind l at cs) h₁ h₂ in
      let is : behind ≡ at_else + stmt_size layout b = omega (arith, is_behind) in
      adds_as _ a (ap (λ (n : ℕ). cases_code globals layout s out onward n l at cs ++ stmt s out onward at_else b) is)

  -- the subject, which is kept in a local, and all cases
  pub switch_added : (e₀ e₁ e₂ : Emitted) (e : Expr) (cs : Cases) (b : Stmt) (out onward slot l : ℕ) → l ≡ layout.first + slot
      → Adds e₀ e₁ (code e₀.now (length e₀.marks) e ++ mark (push (kind e) e₀.now) (does.Store l) ∷ []) e₀.now → Adds e₁ e₂ (chosen_code e₁.now out onward l (length e₁.marks) cs b) e₁.now
      → Adds e₀ e₂ (stmt e₀.now out onward (length e₀.marks) (switch slot e cs b)) e₀.now
  switch_added e₀ e₁ e₂ e cs b out onward slot l is_local h₁ h₂ =
      let s = e₀.now in
      let at = length e₀.marks in
      let at_cases = at + size e + 1 in
      let subject = code s at e in
      let kept = mark (push (kind e) s) (does.Store l) in
      let long : length (subject ++ kept ∷ []) ≡ size e + 1 = omega (arith, length-append subject (kept ∷ []), expr_sized globals layout s at e) in
      let a = adds_behind (λ t n. chosen_code t out onward l n cs b) (λ t. t) (size e + 1) long h₁ h₂ in
      let is_cases : at + (size e + 1) ≡ at_cases = omega arith in
      let a₂ = adds_as (subject ++ kept ∷ chosen_code s out onward l (at + (size e + 1)) cs b) a (append_assoc subject (kept ∷ []) (chosen_code s out onward l (at + (size e + 1)) cs b)) in
      adds_as _ a₂
      (ap (λ (n : ℕ). subject ++ kept ∷ chosen_code s out onward l n cs b) is_cases
      ∙ ap (λ (m : ℕ). subject ++ mark (push (kind e) s) (does.Store m) ∷ chosen_code s out onward m at_cases cs b) is_local)
