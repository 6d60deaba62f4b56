-- The code of statements one after another, and of bodies.
use Rattle.std.proofs.Common.{◌≡◌, ◌<◌, ℕ, ◌+◌, List, [], ◌∷◌, ◌++◌, append_assoc, length, ap, subst, ◌∙◌, arith}
use Rattle.sp_value.specs.Val.{Val}
use Rattle.sp_methods.specs.Kinds.{Kind}
use Rattle.sp_typed.specs.Stmts.{Stmt, Stmts, more_stmts}
use Rattle.sp_meaning.specs.Globals.{Globals}
use Rattle.sp_code_meaning.specs.Layouts.{Layout}
use Rattle.sp_code.specs.declared.instr.Instr.TheVariants as does
use Rattle.sp_code.specs.Programs.{kind_at}
use Rattle.sp_code.specs.Shapes.{Shape, push}
use Rattle.sp_code_programs.specs.exprs.Marked.{Marked, mark, constant}
use Rattle.sp_code_programs.specs.units.Sizes.{stmt_size}
use Rattle.sp_code_programs.specs.units.Code.{stmt_code, stmts_code}
use Rattle.sp_code_programs.specs.units.Bodies.{body_code}
use Rattle.sp_emit.specs.Kinds.{Grows}
use Rattle.sp_emit.specs.Emitted.{Emitted, Adds, TurnsTo, popped}
use Rattle.sp_emit.proofs.Adding.{adds_as, adds_then, adds_behind, adds_turn}
use Rattle.sp_emit.proofs.Growing.{grows_then, grows_long, kind_before}
use Rattle.sp_law_code.proofs.bodies_lemmas.Sizes.{stmt_sized}

-- a number of a kind is still one where kinds grow
pub still_below : (ks js : List Kind) (n : ℕ) → Grows ks js → n < length ks → n < length js
still_below ks js n g h = omega (arith, h, grows_long ks js g)

-- code behind another shape
pub turn_adds : {a b c : Emitted} {s : Shape} (f : Shape → ℕ → List Marked) (g : Shape → Shape) → TurnsTo a b s → Adds b c (f b.now (length b.marks)) (g b.now) → Adds a c (f s (length a.marks)) (g s)
turn_adds {a} {b} {c} {s} f g t h =
    record {
      marks = h.marks ∙ ap (λ (ms : List Marked). ms ++ f b.now (length ms)) t.marks ∙ ap (λ (u : Shape). a.marks ++ f u (length a.marks)) t.now;
      now = h.now ∙ ap g t.now;
      kinds = grows_then _ _ _ t.kinds h.kinds;
    }

module _ (globals : Globals) (layout : Layout) where
  abbrev stmt : Shape → ℕ → ℕ → ℕ → Stmt → List Marked
  stmt s out onward at b = stmt_code globals layout s out onward at b

  pub stmts_added : (e₀ e₁ e₂ : Emitted) (b : Stmt) (bs : Stmts) (out onward : ℕ) → Adds e₀ e₁ (stmt e₀.now out onward (length e₀.marks) b) e₀.now
      → Adds e₁ e₂ (stmts_code globals layout e₁.now out onward (length e₁.marks) bs) e₁.now → Adds e₀ e₂ (stmts_code globals layout e₀.now out onward (length e₀.marks) (more_stmts b bs)) e₀.now
  stmts_added e₀ e₁ e₂ b bs out onward h₁ h₂ =
      adds_behind (λ t n. stmts_code globals layout t out onward n bs) (λ t. t) (stmt_size layout b) (stmt_sized globals layout e₀.now out onward (length e₀.marks) b) h₁ h₂

  pub body_added : (e₀ e₁ e₂ e₃ e₄ : Emitted) (v : Val) (n begin : ℕ) (b : Stmt) → begin ≡ length e₀.marks → n < length e₀.kinds
      → Adds e₀ e₁ (stmt e₀.now begin begin (length e₀.marks) b) e₀.now → Adds e₁ e₂ (constant e₁.now v ∷ []) e₁.now → TurnsTo e₂ e₃ (push (kind_at e₂.kinds n) e₂.now)
      → Adds e₃ e₄ (mark e₃.now does.Return ∷ []) (popped e₃.now) → Adds e₀ e₄ (body_code globals layout e₀.now (length e₀.marks) v (kind_at e₀.kinds n) b) e₀.now
  body_added e₀ e₁ e₂ e₃ e₄ v n begin b is within h₁ h₂ t₃ h₄ =
      let s = e₀.now in
      let at = length e₀.marks in
      let a₂ = adds_then (λ u m. constant u v ∷ []) (λ u. u) h₁ h₂ in
      let same = kind_before e₀.kinds e₂.kinds n a₂.kinds within in
      let t = subst (λ (k : Kind). TurnsTo e₂ e₃ (push k e₂.now)) same t₃ in
      let k = kind_at e₀.kinds n in
      let a₃ = adds_turn (push k) a₂ t in
      let a₄ : Adds e₀ e₄ ((stmt s begin begin at b ++ constant s v ∷ []) ++ mark (push k s) does.Return ∷ []) s = adds_then (λ u m. mark u does.Return ∷ []) popped a₃ h₄ in
      let a₅ = adds_as (stmt s begin begin at b ++ constant s v ∷ mark (push k s) does.Return ∷ []) a₄ (simp append_assoc) in
      adds_as _ a₅ (ap (λ (m : ℕ). stmt s m m at b ++ constant s v ∷ mark (push k s) does.Return ∷ []) is)
