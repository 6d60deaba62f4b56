-- The code of statements in which no other one stands.
use Rattle.std.proofs.Common.{◌≡◌, List, [], ◌∷◌, ◌++◌, append_assoc, ap, ◌∙◌}
use Rattle.sp_value.specs.Val.{Val}
use Rattle.sp_methods.specs.Kinds.{Kind, Bools}
use Rattle.sp_code.specs.declared.instr.Instr.{Instr}
use Rattle.sp_code.specs.declared.instr.Instr.TheVariants as does
use Rattle.sp_code.specs.Shapes.{Shape, push}
use Rattle.sp_code_programs.specs.exprs.Marked.{Marked, mark, constant}
use Rattle.sp_emit.specs.Emitted.{Emitted, Adds, TurnsTo, popped}
use Rattle.sp_emit.proofs.Adding.{adds_as, adds_then, adds_turn}

-- a value that is there, and what takes it
pub given_added : (e₀ e₁ e₂ e₃ : Emitted) (v w : Val) (k : Kind) (i j : Instr) → v ≡ w → i ≡ j → Adds e₀ e₁ (constant e₀.now v ∷ []) e₀.now → TurnsTo e₁ e₂ (push k e₁.now)
    → Adds e₂ e₃ (mark e₂.now i ∷ []) (popped e₂.now) → Adds e₀ e₃ (constant e₀.now w ∷ mark (push k e₀.now) j ∷ []) e₀.now
given_added e₀ e₁ e₂ e₃ v w k i j same is h₁ t₂ h₃ =
    let s = e₀.now in
    let a₂ = adds_turn (push k) h₁ t₂ in
    let a₃ : Adds e₀ e₃ (constant s v ∷ mark (push k s) i ∷ []) s = adds_then (λ t n. mark t i ∷ []) popped a₂ h₃ in
    adds_as _ a₃ (ap (λ (x : Val). constant s x ∷ mark (push k s) i ∷ []) same ∙ ap (λ (x : Instr). constant s w ∷ mark (push k s) x ∷ []) is)

-- an assertion, behind the code of its test
pub asserted_added : (e₀ e₁ e₂ e₃ e₄ e₅ : Emitted) (ms : List Marked) (j k : Kind) (v : Val) → Adds e₀ e₁ ms (push j e₀.now) → ((s : Shape) (i : Kind) → e₁.now ≡ push i s → TurnsTo e₁ e₂ (push Bools s))
    → Adds e₂ e₃ (constant e₂.now v ∷ []) (push k e₂.now) → Adds e₃ e₄ (mark e₃.now does.Assert ∷ []) (popped e₃.now) → TurnsTo e₄ e₅ (popped e₄.now)
    → Adds e₀ e₅ (ms ++ constant (push Bools e₀.now) v ∷ mark (push k (push Bools e₀.now)) does.Assert ∷ []) e₀.now
asserted_added e₀ e₁ e₂ e₃ e₄ e₅ ms j k v h₁ t₂ h₃ h₄ t₅ =
    let s = e₀.now in
    let b = push Bools s in
    let a₂ = adds_turn (λ t. b) h₁ (t₂ s j h₁.now) in
    let a₃ = adds_then (λ t n. constant t v ∷ []) (push k) a₂ h₃ in
    let a₄ : Adds e₀ e₄ ((ms ++ constant b v ∷ []) ++ mark (push k b) does.Assert ∷ []) b = adds_then (λ t n. mark t does.Assert ∷ []) popped a₃ h₄ in
    let a₅ : Adds e₀ e₅ ((ms ++ constant b v ∷ []) ++ mark (push k b) does.Assert ∷ []) s = adds_turn popped a₄ t₅ in
    adds_as (ms ++ constant b v ∷ mark (push k b) does.Assert ∷ []) a₅ (simp append_assoc)
