-- The code of members, fields and variables, put together.
use Rattle.std.proofs.Common.{◌≡◌, ℕ, suc, Bool, true, false, List, [], ◌∷◌, ◌++◌, append_assoc, length, refl, subst, arith, Option, Some}
use Rattle.std.specs.Prelude.{◌==◌}
use Rattle.std.proofs.lemmas.Bool.{eqb-true}
use Rattle.sp_methods.specs.Kinds.{Kind, Unsigned, UnitOf}
use Rattle.sp_typed.specs.Exprs.{Expr}
use Rattle.sp_typed_units.specs.declared.declarations.Typed.{Typed}
use Rattle.sp_typed_units.specs.declared.declarations.Variable.{Variable}
use Rattle.sp_meaning.specs.Globals.{Globals, globals_of}
use Rattle.sp_code_meaning.specs.Layouts.{Layout}
use Rattle.sp_code_meaning.specs.Units.{value_slot, offset_slot, unit_layout}
use Rattle.sp_code.specs.declared.instr.Instr.TheVariants as does
use Rattle.sp_code.specs.declared.instr.IntForm.{IntForm}
use Rattle.sp_code.specs.Shapes.{Shape, push, read_kind}
use Rattle.sp_code_programs.specs.exprs.Marked.{Marked, mark}
use Rattle.sp_code_programs.specs.exprs.Code.{kind_of, expr_code}
use Rattle.sp_code_programs.specs.units.Bodies.{hooks_code}
use Rattle.sp_code_programs.specs.units.Units.{member_code, stored_code, kept_code, hooked_code, field_code, variable_code, variables_code}
use Rattle.sp_emit.specs.Emitted.{Emitted, Adds, TurnsTo, popped}
use Rattle.sp_emit.proofs.Adding.{adds_as, adds_then, adds_turn}
use Rattle.sp_lower_unit.specs.Forms.{form_of}
use Rattle.sp_lower_unit.proofs.Joined.{adds_on}

-- the value on top becomes that of a member
pub member_added : (e₀ e₁ e₂ e₃ e₄ : Emitted) (u m : ℕ) (s : Shape) (k : Kind) → e₀.now ≡ push k s → Adds e₀ e₁ (mark e₀.now does.SelfUnit ∷ []) e₀.now → TurnsTo e₁ e₂ (push (UnitOf u) e₁.now)
    → Adds e₂ e₃ (mark e₂.now (does.SetField m) ∷ []) (popped e₂.now) → TurnsTo e₃ e₄ (popped e₃.now) → Adds e₀ e₄ (member_code u s k m) s
member_added e₀ e₁ e₂ e₃ e₄ u m s k begin h₁ t₁ h₂ t₂ =
    let all = adds_turn popped (adds_then (λ t n. mark t (does.SetField m) ∷ []) popped (adds_turn (push (UnitOf u)) h₁ t₁) h₂) t₂ in
    subst (λ (t : Shape). Adds e₀ e₄ (mark t does.SelfUnit ∷ mark (push (UnitOf u) t) (does.SetField m) ∷ []) (popped (popped (push (UnitOf u) t)))) begin all

-- a local is loaded, and becomes that of a member
pub kept_added : (e₀ e₁ e₂ e₃ : Emitted) (u m l : ℕ) (signed : Bool) → l ≡ value_slot signed → Adds e₀ e₁ (mark e₀.now (does.Load l) ∷ []) e₀.now → TurnsTo e₁ e₂ (push (read_kind signed) e₁.now)
    → Adds e₂ e₃ (member_code u e₀.now (read_kind signed) m) e₀.now → Adds e₀ e₃ (kept_code u e₀.now (read_kind signed) (value_slot signed) (Some m)) e₀.now
kept_added e₀ e₁ e₂ e₃ u m l signed is h₁ t₁ h₂ =
    let h = subst (λ (n : ℕ). Adds e₀ e₁ (mark e₀.now (does.Load n) ∷ []) e₀.now) is h₁ in
    adds_on (member_code u e₀.now (read_kind signed) m) e₀.now (adds_turn (push (read_kind signed)) h t₁) h₂

pub offset_added : (e₀ e₁ e₂ e₃ e₄ e₅ : Emitted) (u : ℕ) → Adds e₀ e₁ (mark e₀.now does.SelfUnit ∷ []) e₀.now → TurnsTo e₁ e₂ (push (UnitOf u) e₁.now) → Adds e₂ e₃ (mark e₂.now does.Offset ∷ []) (popped e₂.now)
    → TurnsTo e₃ e₄ (push Unsigned e₃.now) → Adds e₄ e₅ (mark e₄.now (does.Store offset_slot) ∷ []) (popped e₄.now)
    → Adds e₀ e₅ (mark e₀.now does.SelfUnit ∷ mark (push (UnitOf u) e₀.now) does.Offset ∷ mark (push Unsigned e₀.now) (does.Store offset_slot) ∷ []) e₀.now
offset_added e₀ e₁ e₂ e₃ e₄ e₅ u h₁ t₁ h₂ t₂ h₃ =
    let offset = adds_turn (push Unsigned) (adds_then (λ t n. mark t does.Offset ∷ []) popped (adds_turn (push (UnitOf u)) h₁ t₁) h₂) t₂ in
    adds_then (λ t n. mark t (does.Store offset_slot) ∷ []) popped offset h₃

-- the value that was read is kept in the local of `$$`
pub current_read : (e₀ e₁ e₂ : Emitted) (form : IntForm) (l : ℕ) → l ≡ value_slot form.signed → Adds e₀ e₁ (mark e₀.now (does.ReadInt form) ∷ []) (push (read_kind form.signed) e₀.now)
    → Adds e₁ e₂ (mark e₁.now (does.Store l) ∷ []) (popped e₁.now)
    → Adds e₀ e₂ (mark e₀.now (does.ReadInt form) ∷ mark (push (read_kind form.signed) e₀.now) (does.Store (value_slot form.signed)) ∷ []) e₀.now
current_read e₀ e₁ e₂ form l is h₁ h₂ =
    adds_then (λ t n. mark t (does.Store (value_slot form.signed)) ∷ []) popped h₁ (subst (λ (n : ℕ). Adds e₁ e₂ (mark e₁.now (does.Store n) ∷ []) (popped e₁.now)) is h₂)

-- a field with hooks
pub hooked_added : (list : Typed) (e₀ e₁ e₂ e₃ e₄ : Emitted) (u : ℕ) (s : Shape) (form : IntForm) (member : Option ℕ) (hs : List ℕ) → e₀.now ≡ s
    → Adds e₀ e₁ (mark e₀.now does.SelfUnit ∷ mark (push (UnitOf u) e₀.now) does.Offset ∷ mark (push Unsigned e₀.now) (does.Store offset_slot) ∷ []) e₀.now
    → Adds e₁ e₂ (mark e₁.now (does.ReadInt form) ∷ mark (push (read_kind form.signed) e₁.now) (does.Store (value_slot form.signed)) ∷ []) e₁.now
    → Adds e₂ e₃ (kept_code u e₂.now (read_kind form.signed) (value_slot form.signed) member) e₂.now
    → Adds e₃ e₄ (hooks_code s (length list.functions) (value_slot form.signed ∷ offset_slot ∷ []) hs) s → Adds e₀ e₄ (hooked_code list u s (form_of form) member hs) s
hooked_added list e₀ e₁ e₂ e₃ e₄ u s form member hs begin h₁ h₂ h₃ h₄ =
    let k = read_kind form.signed in
    let l = value_slot form.signed in
    let a₂ = adds_then (λ t n. mark t (does.ReadInt form) ∷ mark (push k t) (does.Store l) ∷ []) (λ t. t) h₁ h₂ in
    let a₃ = adds_then (λ t n. kept_code u t k l member) (λ t. t) a₂ h₃ in
    let front : Shape → List Marked =
    λ t. mark t does.SelfUnit ∷ mark (push (UnitOf u) t) does.Offset ∷ mark (push Unsigned t) (does.Store offset_slot) ∷ mark t (does.ReadInt form) ∷ mark (push k t) (does.Store l) ∷ [] in
    let b₃ = subst (λ (t : Shape). Adds e₀ e₃ (front t ++ kept_code u t k l member) t) begin a₃ in
    adds_as (hooked_code list u s (form_of form) member hs) (adds_on (hooks_code s (length list.functions) (l ∷ offset_slot ∷ []) hs) s b₃ h₄)
    (append_assoc (front s) (kept_code u s k l member) (hooks_code s (length list.functions) (l ∷ offset_slot ∷ []) hs))

-- a field without hooks
pub plain_added : (e₀ e₁ e₂ : Emitted) (u : ℕ) (s : Shape) (form : IntForm) (member : Option ℕ) → e₀.now ≡ s → Adds e₀ e₁ (mark e₀.now (does.ReadInt form) ∷ []) (push (read_kind form.signed) e₀.now)
    → Adds e₁ e₂ (stored_code u s (read_kind form.signed) member) s → Adds e₀ e₂ (mark s (does.ReadInt form) ∷ stored_code u s (read_kind form.signed) member) s
plain_added e₀ e₁ e₂ u s form member begin h₁ h₂ =
    adds_on (stored_code u s (read_kind form.signed) member) s (subst (λ (t : Shape). Adds e₀ e₁ (mark t (does.ReadInt form) ∷ []) (push (read_kind form.signed) t)) begin h₁) h₂

-- a variable's own value
pub value_added : (list : Typed) (globals : Globals) (layout : Layout) (e₀ e₁ e₂ : Emitted) (u m : ℕ) (e : Expr) → globals ≡ globals_of list → layout ≡ unit_layout
    → Adds e₀ e₁ (expr_code globals layout e₀.now (length e₀.marks) e) (push (kind_of globals layout e) e₀.now) → Adds e₁ e₂ (member_code u e₀.now (kind_of globals layout e) m) e₀.now
    → Adds e₀ e₂ (variable_code list u e₀.now (length e₀.marks) m (Some e)) e₀.now
value_added list globals layout e₀ e₁ e₂ u m e is_globals is_layout h₁ h₂ =
    subst (λ (g : Globals). Adds e₀ e₂ (expr_code g unit_layout e₀.now (length e₀.marks) e ++ member_code u e₀.now (kind_of g unit_layout e) m) e₀.now) is_globals
    (subst (λ (l : Layout). Adds e₀ e₂ (expr_code globals l e₀.now (length e₀.marks) e ++ member_code u e₀.now (kind_of globals l e) m) e₀.now) is_layout
    (adds_on (member_code u e₀.now (kind_of globals layout e) m) e₀.now h₁ h₂))

-- the values of variables, one before others
pub variables_next : (list : Typed) (e₀ e₁ e₂ : Emitted) (u : ℕ) (s : Shape) (v : Variable) (vs : List Variable) → e₀.now ≡ s → Adds e₀ e₁ (variable_code list u e₀.now (length e₀.marks) v.member v.value) e₀.now
    → Adds e₁ e₂ (variables_code list u s (length e₁.marks) vs) s → Adds e₀ e₂ (variables_code list u s (length e₀.marks) (v ∷ vs)) s
variables_next list e₀ e₁ e₂ u s v vs begin h₁ h₂ =
    let h = subst (λ (t : Shape). Adds e₀ e₁ (variable_code list u t (length e₀.marks) v.member v.value) t) begin h₁ in
    adds_then (λ t n. variables_code list u s n vs) (λ t. s) h h₂

-- whether a field has hooks
pub without_hooks : (list : Typed) (u : ℕ) (s : Shape) (form : IntForm) (member : Option ℕ) (hs : List ℕ) → (length hs == 0) ≡ true
    → mark s (does.ReadInt form) ∷ stored_code u s (read_kind form.signed) member ≡ field_code list u s (form_of form) member hs
without_hooks list u s form member [] is = refl
without_hooks list u s form member (h ∷ hs) is = absurd (let z : suc (length hs) ≡ 0 = eqb-true (suc (length hs)) 0 is in omega (arith, z))

pub with_hooks : (list : Typed) (u : ℕ) (s : Shape) (form : IntForm) (member : Option ℕ) (hs : List ℕ) → (length hs == 0) ≡ false
    → hooked_code list u s (form_of form) member hs ≡ field_code list u s (form_of form) member hs
with_hooks list u s form member [] is = absurd (let z : true ≡ false = is in cc)
with_hooks list u s form member (h ∷ hs) is = refl
