-- The code that runs the bodies of a hook, put together.
use Rattle.std.proofs.Common.{◌≡◌, ◌+◌, ℕ, Bool, true, false, List, [], ◌∷◌, ◌++◌, append_assoc, refl, subst}
use Rattle.sp_methods.specs.Kinds.{Unsigned}
use Rattle.sp_code_meaning.specs.Units.{value_slot, offset_slot}
use Rattle.sp_code.specs.declared.instr.Instr.TheVariants as does
use Rattle.sp_code.specs.Shapes.{Shape, Round, push, read_kind}
use Rattle.sp_code_programs.specs.exprs.Marked.{mark}
use Rattle.sp_code_programs.specs.units.Bodies.{loads_code, loaded, hooks_code}
use Rattle.sp_code_programs.specs.units.Units.{unit_shape}
use Rattle.sp_emit.specs.Emitted.{Emitted, Adds, TurnsTo, lowered}
use Rattle.sp_emit.proofs.Adding.{adds_then, adds_turn}
use Rattle.sp_lower_unit.specs.declared.hooks.Handed.{Handed}
use Rattle.sp_lower_unit.specs.declared.hooks.Handed.TheVariants as hands
use Rattle.sp_lower_unit.specs.Handed.{handed_locals}

pub current_loaded : (e₀ e₁ e₂ e₃ : Emitted) (signed : Bool) (l : ℕ) → l ≡ value_slot signed → Adds e₀ e₁ (mark e₀.now (does.Load l) ∷ []) e₀.now → TurnsTo e₁ e₂ (push (read_kind signed) e₁.now)
    → Adds e₂ e₃ (mark e₂.now (does.Load offset_slot) ∷ []) e₂.now
    → Adds e₀ e₃ (mark e₀.now (does.Load (value_slot signed)) ∷ mark (push (read_kind signed) e₀.now) (does.Load offset_slot) ∷ []) (push (read_kind signed) e₀.now)
current_loaded e₀ e₁ e₂ e₃ signed l is h₁ t₁ h₂ =
    let h = subst (λ (n : ℕ). Adds e₀ e₁ (mark e₀.now (does.Load n) ∷ []) e₀.now) is h₁ in
    adds_then (λ t n. mark t (does.Load offset_slot) ∷ []) (λ t. t) (adds_turn (push (read_kind signed)) h t₁) h₂

-- in a unit's own code the locals are of the kinds that are claimed
pub current_loads : (e₀ e₁ : Emitted) (u : ℕ) (r : Round) (signed : Bool) → e₀.now ≡ unit_shape u r
    → Adds e₀ e₁ (mark e₀.now (does.Load (value_slot signed)) ∷ mark (push (read_kind signed) e₀.now) (does.Load offset_slot) ∷ []) (push Unsigned (push (read_kind signed) e₀.now))
    → Adds e₀ e₁ (loads_code (unit_shape u r) (handed_locals (hands.Current signed))) (loaded (unit_shape u r) (handed_locals (hands.Current signed)))
current_loads e₀ e₁ u r true begin h =
    subst (λ (t : Shape). Adds e₀ e₁ (mark t (does.Load (value_slot true)) ∷ mark (push (read_kind true) t) (does.Load offset_slot) ∷ []) (push Unsigned (push (read_kind true) t))) begin h
current_loads e₀ e₁ u r false begin h =
    subst (λ (t : Shape). Adds e₀ e₁ (mark t (does.Load (value_slot false)) ∷ mark (push (read_kind false) t) (does.Load offset_slot) ∷ []) (push Unsigned (push (read_kind false) t))) begin h

-- behind a body no operands are left
back_again : (u : ℕ) (r : Round) (h : Handed) → lowered 0 (loaded (unit_shape u r) (handed_locals h)) ≡ unit_shape u r
back_again u r hands.Nothing = refl
back_again u r (hands.Current true) = refl
back_again u r (hands.Current false) = refl

pub hook_added : (e₀ e₁ e₂ e₃ : Emitted) (u : ℕ) (r : Round) (h : Handed) (functions body n : ℕ) → n ≡ functions + body
    → Adds e₀ e₁ (loads_code (unit_shape u r) (handed_locals h)) (loaded (unit_shape u r) (handed_locals h)) → Adds e₁ e₂ (mark e₁.now (does.Hook n) ∷ []) e₁.now → TurnsTo e₂ e₃ (lowered 0 e₂.now)
    → Adds e₀ e₃ (hooks_code (unit_shape u r) functions (handed_locals h) (body ∷ [])) (unit_shape u r)
hook_added e₀ e₁ e₂ e₃ u r h functions body n is h₁ h₂ t₃ =
    let s = unit_shape u r in
    let k = subst (λ (m : ℕ). Adds e₁ e₂ (mark e₁.now (does.Hook m) ∷ []) e₁.now) is h₂ in
    let all = adds_turn (lowered 0) (adds_then (λ t m. mark t (does.Hook (functions + body)) ∷ []) (λ t. t) h₁ k) t₃ in
    subst (λ (t : Shape). Adds e₀ e₃ (hooks_code s functions (handed_locals h) (body ∷ [])) t) (back_again u r h) all

-- one body before others
pub hooks_split : (s : Shape) (functions : ℕ) (ls : List ℕ) (body : ℕ) (rest : List ℕ) → hooks_code s functions ls (body ∷ []) ++ hooks_code s functions ls rest ≡ hooks_code s functions ls (body ∷ rest)
hooks_split s functions ls body rest = append_assoc (loads_code s ls) (mark (loaded s ls) (does.Hook (functions + body)) ∷ []) (hooks_code s functions ls rest)
