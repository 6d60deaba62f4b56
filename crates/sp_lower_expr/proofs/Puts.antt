-- The code of what changes places, put together from that of its parts.
use Rattle.std.proofs.Common.{◌≡◌, ℕ, ◌+◌, List, [], ◌∷◌, ◌++◌, append_assoc, length, subst, arith, length-append, Option}
use Rattle.sp_words.specs.declared.operators.BinaryOp.{BinaryOp}
use Rattle.sp_methods.specs.Kinds.{Kind}
use Rattle.sp_typed.specs.declared.heads.One.{One}
use Rattle.sp_typed.specs.declared.heads.Two.{Two}
use Rattle.sp_typed.specs.Exprs.{Expr, one, two}
use Rattle.sp_meaning.specs.Globals.{Globals}
use Rattle.sp_code_meaning.specs.Layouts.{Layout}
use Rattle.sp_code.specs.declared.instr.Instr.{Instr}
use Rattle.sp_code.specs.declared.instr.Instr.TheVariants as does
use Rattle.sp_code.specs.Shapes.{Shape, push}
use Rattle.sp_code_programs.specs.exprs.Marked.{Marked, mark}
use Rattle.sp_code_programs.specs.exprs.Sizes.{expr_size, keep_size, load_size}
use Rattle.sp_code_programs.specs.exprs.Code.{keep_code, owner_code, member_of, kind_of, pending, expr_code, load_code, store_code, put_code, update_code, key_code}
use Rattle.sp_emit.specs.Emitted.{Emitted, Adds, popped}
use Rattle.sp_emit.proofs.Adding.{adds_as, adds_then, adds_behind}
use Rattle.sp_law_code.proofs.exprs_lemmas.Sizes.{expr_sized, keep_sized, load_sized}

module _ (globals : Globals) (layout : Layout) where
  abbrev code : Shape → ℕ → Expr → List Marked
  code s at e = expr_code globals layout s at e

  abbrev kind : Expr → Kind
  kind e = kind_of globals layout e

  abbrev size : Expr → ℕ
  size e = expr_size layout e

  abbrev put : Option ℕ → Shape → ℕ → Expr → Expr → List Marked
  put owner s at target e = put_code globals layout owner s at target (kind e) (size e) (λ t n. code t n e)

  pub member_put : (e₀ e₁ e₂ e₃ e₄ : Emitted) (owner : Option ℕ) (h : One) (a e : Expr) → Adds e₀ e₁ (keep_code owner e₀.now (kind a) (code e₀.now (length e₀.marks) a)) e₀.now
      → Adds e₁ e₂ (code e₁.now (length e₁.marks) e) (push (kind e) e₁.now) → Adds e₂ e₃ (owner_code owner e₂.now (code e₂.now (length e₂.marks) a)) (push (kind a) e₂.now)
      → Adds e₃ e₄ (mark (push (kind a) (push (kind e) e₀.now)) (does.SetField (member_of h.op)) ∷ []) e₀.now → Adds e₀ e₄ (put owner e₀.now (length e₀.marks) (one h a) e) e₀.now
  member_put e₀ e₁ e₂ e₃ e₄ owner h a e h₁ h₂ h₃ h₄ =
      let s = e₀.now in
      let at = length e₀.marks in
      let n = keep_size owner (size a) in
      let t = push (kind e) s in
      let kept = keep_code owner s (kind a) (code s at a) in
      let value = code s (at + n) e in
      let last = mark (push (kind a) t) (does.SetField (member_of h.op)) ∷ [] in
      let long = keep_sized owner s (kind a) (code s at a) (size a) (expr_sized globals layout s at a) in
      let a₂ = adds_behind (λ u m. code u m e) (push (kind e)) n long h₁ h₂ in
      let long₂ : length (kept ++ value) ≡ n + size e = omega (arith, length-append kept value, long, expr_sized globals layout s (at + n) e) in
      let is : at + (n + size e) ≡ at + n + size e = omega arith in
      let a₃ = subst (λ (m : ℕ). Adds e₀ e₃ ((kept ++ value) ++ owner_code owner t (code t m a)) (push (kind a) t)) is (adds_behind (λ u m. owner_code owner u (code u m a)) (push (kind a)) (n + size e) long₂ a₂ h₃) in
      adds_as _ (adds_then (λ u m. last) (λ u. s) a₃ h₄) (simp append_assoc)

  pub item_put : (e₀ e₁ e₂ e₃ e₄ e₅ : Emitted) (owner : Option ℕ) (h : Two) (a b e : Expr) → Adds e₀ e₁ (load_code globals layout owner e₀.now (length e₀.marks) a) (push (kind a) (pending globals layout e₀.now a))
      → Adds e₁ e₂ (code e₁.now (length e₁.marks) b) (push (kind b) e₁.now) → Adds e₂ e₃ (code e₂.now (length e₂.marks) e) (push (kind e) e₂.now)
      → (let t = push (kind a) (pending globals layout e₀.now a) in Adds e₃ e₄ (mark (push (kind e) (push (kind b) t)) does.SetIndex ∷ []) t)
      → Adds e₄ e₅ (store_code globals layout owner e₀.now (length e₄.marks) a) e₀.now → Adds e₀ e₅ (put owner e₀.now (length e₀.marks) (two h a b) e) e₀.now
  item_put e₀ e₁ e₂ e₃ e₄ e₅ owner h a b e h₁ h₂ h₃ h₄ h₅ =
      let s = e₀.now in
      let at = length e₀.marks in
      let n = load_size layout owner a in
      let t = push (kind a) (pending globals layout s a) in
      let u = push (kind b) t in
      let loads = load_code globals layout owner s at a in
      let keys = code t (at + n) b in
      let at_e = at + n + size b in
      let value = code u at_e e in
      let last = mark (push (kind e) u) does.SetIndex in
      let long = load_sized globals layout owner s at a in
      let long_b = expr_sized globals layout t (at + n) b in
      let long_e = expr_sized globals layout u at_e e in
      let a₂ = adds_behind (λ v m. code v m b) (push (kind b)) n long h₁ h₂ in
      let long₂ : length (loads ++ keys) ≡ n + size b = omega (arith, length-append loads keys, long, long_b) in
      let is₃ : at + (n + size b) ≡ at_e = omega arith in
      let a₃ = subst (λ (m : ℕ). Adds e₀ e₃ ((loads ++ keys) ++ code u m e) (push (kind e) u)) is₃ (adds_behind (λ v m. code v m e) (push (kind e)) (n + size b) long₂ a₂ h₃) in
      let a₄ = adds_then (λ v m. last ∷ []) (λ v. t) a₃ h₄ in
      let all = ((loads ++ keys) ++ value) ++ last ∷ [] in
      let long₄ : length all ≡ n + size b + size e + 1 = omega (arith, length-append ((loads ++ keys) ++ value) (last ∷ []), length-append (loads ++ keys) value, long₂, long_e) in
      let is₅ : at + (n + size b + size e + 1) ≡ at_e + size e + 1 = omega arith in
      let a₅ = subst (λ (m : ℕ). Adds e₀ e₅ (all ++ store_code globals layout owner s m a) s) is₅ (adds_behind (λ v m. store_code globals layout owner s m a) (λ v. s) (n + size b + size e + 1) long₄ a₄ h₅) in
      adds_as _ a₅ (simp append_assoc)

  pub updated : (e₀ e₁ e₂ e₃ e₄ : Emitted) (owner : Option ℕ) (target e : Expr) (o : BinaryOp)
      → Adds e₀ e₁ (load_code globals layout owner e₀.now (length e₀.marks) target) (push (kind target) (pending globals layout e₀.now target))
      → Adds e₁ e₂ (code e₁.now (length e₁.marks) e) (push (kind e) e₁.now) → Adds e₂ e₃ (mark e₂.now (does.Binary o) ∷ []) (popped e₂.now)
      → Adds e₃ e₄ (store_code globals layout owner e₀.now (length e₃.marks) target) e₀.now
      → Adds e₀ e₄ (update_code globals layout owner e₀.now (length e₀.marks) target o (kind e) (size e) (λ t n. code t n e)) e₀.now
  updated e₀ e₁ e₂ e₃ e₄ owner target e o h₁ h₂ h₃ h₄ =
      let s = e₀.now in
      let at = length e₀.marks in
      let n = load_size layout owner target in
      let t = push (kind target) (pending globals layout s target) in
      let loads = load_code globals layout owner s at target in
      let value = code t (at + n) e in
      let last = mark (push (kind e) t) (does.Binary o) in
      let long = load_sized globals layout owner s at target in
      let long_e = expr_sized globals layout t (at + n) e in
      let a₂ = adds_behind (λ v m. code v m e) (push (kind e)) n long h₁ h₂ in
      let a₃ = adds_then (λ v m. mark v (does.Binary o) ∷ []) popped a₂ h₃ in
      let all = (loads ++ value) ++ last ∷ [] in
      let long₃ : length all ≡ n + size e + 1 = omega (arith, length-append (loads ++ value) (last ∷ []), length-append loads value, long, long_e) in
      let is₄ : at + (n + size e + 1) ≡ at + n + size e + 1 = omega arith in
      let a₄ = subst (λ (m : ℕ). Adds e₀ e₄ (all ++ store_code globals layout owner s m target) s) is₄ (adds_behind (λ v m. store_code globals layout owner s m target) (λ v. s) (n + size e + 1) long₃ a₃ h₄) in
      adds_as _ a₄ (simp append_assoc)

  pub key_changed : (e₀ e₁ e₂ e₃ e₄ : Emitted) (owner : Option ℕ) (h : Two) (a b : Expr) (i : Instr)
      → Adds e₀ e₁ (load_code globals layout owner e₀.now (length e₀.marks) a) (push (kind a) (pending globals layout e₀.now a))
      → Adds e₁ e₂ (code e₁.now (length e₁.marks) b) (push (kind b) e₁.now) → Adds e₂ e₃ (mark e₂.now i ∷ []) (popped e₂.now)
      → Adds e₃ e₄ (store_code globals layout owner e₀.now (length e₃.marks) a) e₀.now
      → Adds e₀ e₄ (key_code globals layout owner e₀.now (length e₀.marks) (two h a b) i) e₀.now
  key_changed e₀ e₁ e₂ e₃ e₄ owner h a b i h₁ h₂ h₃ h₄ =
      let s = e₀.now in
      let at = length e₀.marks in
      let n = load_size layout owner a in
      let t = push (kind a) (pending globals layout s a) in
      let loads = load_code globals layout owner s at a in
      let keys = code t (at + n) b in
      let last = mark (push (kind b) t) i in
      let long = load_sized globals layout owner s at a in
      let long_b = expr_sized globals layout t (at + n) b in
      let a₂ = adds_behind (λ v m. code v m b) (push (kind b)) n long h₁ h₂ in
      let a₃ = adds_then (λ v m. mark v i ∷ []) popped a₂ h₃ in
      let all = (loads ++ keys) ++ last ∷ [] in
      let long₃ : length all ≡ n + size b + 1 = omega (arith, length-append (loads ++ keys) (last ∷ []), length-append loads keys, long, long_b) in
      let is₄ : at + (n + size b + 1) ≡ at + n + size b + 1 = omega arith in
      let a₄ = subst (λ (m : ℕ). Adds e₀ e₄ (all ++ store_code globals layout owner s m a) s) is₄ (adds_behind (λ v m. store_code globals layout owner s m a) (λ v. s) (n + size b + 1) long₃ a₃ h₄) in
      adds_as _ a₄ (simp append_assoc)
