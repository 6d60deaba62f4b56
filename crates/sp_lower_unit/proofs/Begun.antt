-- The code of whole units and of starters, put together.
use Rattle.std.proofs.Common.{◌≡◌, ◌<◌, ◌+◌, ◌-◌, ℕ, List, [], ◌∷◌, ◌++◌, append_assoc, length, drop, refl, ap, subst, ◌∙◌, arith, None, Some, Option}
use Rattle.std.specs.List.{AllByRecursion}
use Rattle.std.proofs.Math.Seq.{drop-length}
use Rattle.sp_words.specs.declared.words.HookName.TheVariants.{Init, Done}
use Rattle.sp_methods.specs.Kinds.{Kind, Unsigned, Signed, UnitOf}
use Rattle.sp_typed_units.specs.declared.declarations.Typed.{Typed}
use Rattle.sp_typed_units.specs.declared.declarations.Unit.{Unit as TypedUnit}
use Rattle.sp_typed_units.specs.declared.declarations.Parameter.{Parameter}
use Rattle.sp_typed_units.specs.declared.declarations.Member.{Member}
use Rattle.sp_typed_units.specs.declared.declarations.Variable.{Variable}
use Rattle.sp_typed_units.specs.Parts.{Part, parts}
use Rattle.sp_meaning_states.specs.Types.{kind_of_type}
use Rattle.sp_meaning.specs.Globals.{globals_of}
use Rattle.sp_meaning.specs.Integers.{last_order, module_order}
use Rattle.sp_code.specs.declared.program.RoundRow.{RoundRow}
use Rattle.sp_code.specs.declared.program.RoundRow.TheVariants as round_is
use Rattle.sp_code.specs.declared.instr.Instr.TheVariants as does
use Rattle.sp_code.specs.Programs.{kind_at, kinds_at, round_of}
use Rattle.sp_code.specs.Shapes.{Shape, Round, OfUnit, OfFunction, with_operands, push, body_shape}
use Rattle.sp_code_programs.specs.exprs.Marked.{Marked, mark}
use Rattle.sp_code_programs.specs.units.Units.{unit_shape, slot_kinds, kinds_over, begin_code, variables_code, unit_hook_code, parts_code, unit_parts_code, starter_kinds, starter_code}
use Rattle.sp_emit.specs.Kinds.{IsNumberOf}
use Rattle.sp_emit.specs.Numbered.{RoundBelow}
use Rattle.sp_emit.specs.Emitted.{Emitted, Adds, TurnsTo, lowered}
use Rattle.sp_emit.proofs.Adding.{adds_nothing, adds_as, adds_then, adds_turn, turns_then}
use Rattle.sp_emit.proofs.Growing.{grows_not, grows_then, number_before}
use Rattle.sp_lower_unit.specs.Rounds.{IsOfUnit}
use Rattle.sp_lower_unit.proofs.Joined.{adds_on}

-- a round of a unit hangs on no kinds
same_round : (ks js : List Kind) (r : RoundRow) → IsOfUnit r → round_of ks r ≡ round_of js r
same_round ks js round_is.Unit is = refl
same_round ks js round_is.Ending is = refl
same_round ks js round_is.Failing is = refl
same_round ks js (round_is.Function k) is = absurd is
same_round ks js (round_is.Hook each) is = absurd is

-- the locals of a unit's own code
pub slots_below : (e₁ e₂ : Emitted) (m n : ℕ) → IsNumberOf e₁.kinds Unsigned m → TurnsTo e₁ e₂ e₁.now → IsNumberOf e₂.kinds Signed n → AllByRecursion (λ k. k < length e₂.kinds) (m ∷ m ∷ n ∷ [])
slots_below e₁ e₂ m n first t second =
    let kept = number_before e₁.kinds e₂.kinds Unsigned m t.kinds first in (kept.within, (kept.within, (second.within, tt)))

pub slots_are : (e₁ e₂ : Emitted) (m n : ℕ) → IsNumberOf e₁.kinds Unsigned m → TurnsTo e₁ e₂ e₁.now → IsNumberOf e₂.kinds Signed n → kinds_at e₂.kinds (m ∷ m ∷ n ∷ []) ≡ slot_kinds
slots_are e₁ e₂ m n first t second =
    let kept = number_before e₁.kinds e₂.kinds Unsigned m t.kinds first in
    ap (λ (k : Kind). k ∷ k ∷ kind_at e₂.kinds n ∷ []) kept.is ∙ ap (λ (k : Kind). Unsigned ∷ Unsigned ∷ k ∷ []) second.is

pub begun : (e₀ e₁ e₂ e₃ : Emitted) (u m n : ℕ) (r : RoundRow) (locals : List ℕ) → IsOfUnit r → IsNumberOf e₁.kinds Unsigned m → TurnsTo e₀ e₁ e₀.now → IsNumberOf e₂.kinds Signed n → TurnsTo e₁ e₂ e₁.now → locals ≡ m ∷ m ∷ n ∷ []
    → TurnsTo e₂ e₃ (body_shape (Some u) (round_of e₂.kinds r) (kinds_at e₂.kinds locals)) → TurnsTo e₀ e₃ (unit_shape u (round_of [] r))
begun e₀ e₁ e₂ e₃ u m n r locals of first t₁ second t₂ are t₃ =
    let kinds = ap (λ (l : List ℕ). kinds_at e₂.kinds l) are ∙ slots_are e₁ e₂ m n first t₂ second in
    let begins =
    ap (λ (ks : List Kind). body_shape (Some u) (round_of e₂.kinds r) ks) kinds ∙ ap (λ (x : Round). body_shape (Some u) x slot_kinds) (same_round e₂.kinds [] r of) in
    let last = subst (λ (s : Shape). TurnsTo e₂ e₃ s) begins t₃ in
    turns_then (λ s. unit_shape u (round_of [] r)) (turns_then (λ s. s) t₁ t₂) last

-- all that runs before the way out of a unit, whose rows are lent
pub parts_added : (list : Typed) (e₀ e₁ e₂ e₃ e₄ e₅ : Emitted) (u : ℕ) (x : TypedUnit) (order : Option ℕ) (ms : List Member) (vs ws : List Variable) (ps : List Part)
    → ms ≡ x.members → vs ≡ x.variables → ws ≡ x.variables → ps ≡ x.parts → order ≡ last_order (module_order x.«module» None list.orders) x.orders → e₀.now ≡ unit_shape u OfUnit
    → Adds e₀ e₁ (begin_code list u e₀.now ms vs) e₀.now → Adds e₁ e₂ (variables_code list u e₁.now (length e₁.marks) ws) e₁.now
    → Adds e₂ e₃ (unit_hook_code list u (unit_shape u OfUnit) Init) (unit_shape u OfUnit) → Adds e₃ e₄ (parts_code list u (unit_shape u OfUnit) order (parts ps)) (unit_shape u OfUnit)
    → Adds e₄ e₅ (unit_hook_code list u (unit_shape u OfUnit) Done) (unit_shape u OfUnit) → Adds e₀ e₅ (unit_parts_code list (length e₀.marks) u x) (unit_shape u OfUnit)
parts_added list e₀ e₁ e₂ e₃ e₄ e₅ u x order ms vs ws ps are_ms are_vs are_ws are_ps is begin h₁ h₂ h₃ h₄ h₅ =
    let s = unit_shape u OfUnit in
    let at = length e₀.marks in
    let begins = begin_code list u s x.members x.variables in
    let values = variables_code list u s (at + length begins) x.variables in
    let inits = unit_hook_code list u s Init in
    let reads = parts_code list u s (last_order (module_order x.«module» None list.orders) x.orders) (parts x.parts) in
    let dones = unit_hook_code list u s Done in
    let begun_here = subst (λ (t : Shape). Adds e₀ e₁ (begin_code list u t ms vs) t) begin h₁ in
    let b₁ : Adds e₀ e₁ begins s = adds_as begins begun_here (ap (λ (l : List Member). begin_code list u s l vs) are_ms ∙ ap (λ (l : List Variable). begin_code list u s x.members l) are_vs) in
    let b₂ = subst (λ (l : List Variable). Adds e₁ e₂ (variables_code list u e₁.now (length e₁.marks) l) e₁.now) are_ws h₂ in
    let a₂ : Adds e₀ e₂ (begins ++ values) s = adds_then (λ t n. variables_code list u t n x.variables) (λ t. t) b₁ b₂ in
    let a₃ = adds_on inits s a₂ h₃ in
    let b₄ : Adds e₃ e₄ reads s = adds_as reads h₄ (ap (λ (o : Option ℕ). parts_code list u s o (parts ps)) is ∙ ap (λ (l : List Part). parts_code list u s (last_order (module_order x.«module» None list.orders) x.orders) (parts l)) are_ps) in
    let a₅ = adds_on dones s (adds_on reads s a₃ b₄) h₅ in
    adds_as (unit_parts_code list at u x) a₅ (simp append_assoc)

-- the way out behind other code
pub leaves : (e₀ e₁ e₂ : Emitted) (ms : List Marked) (s : Shape) → Adds e₀ e₁ ms s → Adds e₁ e₂ (mark e₁.now does.LeaveUnit ∷ []) e₁.now → Adds e₀ e₂ (ms ++ mark s does.LeaveUnit ∷ []) s
leaves e₀ e₁ e₂ ms s h k = adds_then (λ t n. mark t does.LeaveUnit ∷ []) (λ t. t) h k

-- code behind the shape with which it begins
pub begins_with : (e₀ e₁ e₂ : Emitted) (s t : Shape) (f : ℕ → List Marked) → TurnsTo e₀ e₁ s → Adds e₁ e₂ (f (length e₁.marks)) t → Adds e₀ e₂ (f (length e₀.marks)) t
begins_with e₀ e₁ e₂ s t f h k =
    record { marks = k.marks ∙ ap (λ (l : List Marked). l ++ f (length l)) h.marks; now = k.now; kinds = grows_then _ _ _ h.kinds k.kinds }

-- a round of a unit names no kind
pub round_below : (n : ℕ) (r : RoundRow) → IsOfUnit r → RoundBelow n r
round_below n round_is.Unit is = tt
round_below n round_is.Ending is = tt
round_below n round_is.Failing is = tt
round_below n (round_is.Function k) is = absurd is
round_below n (round_is.Hook each) is = tt

-- no operands are left
none_lowered : (s : Shape) (ks : List Kind) → lowered 0 (with_operands s ks) ≡ with_operands s []
none_lowered s ks =
    let all : length ks - 0 ≡ length ks = omega arith in
    ap (λ (l : List Kind). with_operands s l) (ap (λ (n : ℕ). drop n ks) all ∙ drop-length ks)

-- what a machine begins with
pub starter_added : (list : Typed) (e₀ e₁ e₂ e₃ e₄ e₅ e₆ : Emitted) (u : ℕ) (x : TypedUnit) → TurnsTo e₀ e₁ (body_shape None (OfFunction (UnitOf u)) [])
    → TurnsTo e₁ e₂ (with_operands e₁.now (kinds_over (globals_of list).ranges x.parameters e₁.now.operands)) → Adds e₂ e₃ (mark e₂.now (does.EnterUnit u) ∷ []) e₂.now → TurnsTo e₃ e₄ (lowered 0 e₃.now)
    → TurnsTo e₄ e₅ (push (UnitOf u) e₄.now) → Adds e₅ e₆ (mark e₅.now does.Return ∷ []) e₅.now → Adds e₀ e₆ (starter_code list u x) (push (UnitOf u) (body_shape None (OfFunction (UnitOf u)) []))
starter_added list e₀ e₁ e₂ e₃ e₄ e₅ e₆ u x t₁ t₂ h₃ t₄ t₅ h₆ =
    let s = body_shape None (OfFunction (UnitOf u)) [] in
    let ranges = (globals_of list).ranges in
    let at_begin = with_operands s (starter_kinds list x) in
    let first : TurnsTo e₀ e₂ at_begin = turns_then (λ t. with_operands t (kinds_over ranges x.parameters t.operands)) t₁ t₂ in
    let enters = adds_then (λ t n. mark t (does.EnterUnit u) ∷ []) (λ t. t) (adds_turn (λ t. at_begin) (adds_nothing e₀) first) h₃ in
    let entered = subst (λ (t : Shape). Adds e₀ e₄ (mark at_begin (does.EnterUnit u) ∷ []) t) (none_lowered s (starter_kinds list x)) (adds_turn (lowered 0) enters t₄) in
    adds_then (λ t n. mark t does.Return ∷ []) (λ t. t) (adds_turn (push (UnitOf u)) entered t₅) h₆

-- operands, one before others
pub operands_next : (ranges : List ℕ) (e₀ e₁ e₂ : Emitted) (p : Parameter) (ps : List Parameter) → TurnsTo e₀ e₁ (push (kind_of_type ranges p.ty) e₀.now) → TurnsTo e₁ e₂ (with_operands e₁.now (kinds_over ranges ps e₁.now.operands))
    → TurnsTo e₀ e₂ (with_operands e₀.now (kinds_over ranges (p ∷ ps) e₀.now.operands))
operands_next ranges e₀ e₁ e₂ p ps t₁ t₂ = turns_then (λ s. with_operands s (kinds_over ranges ps s.operands)) t₁ t₂

pub turns_none : (e : Emitted) → TurnsTo e e e.now
turns_none e = record { marks = refl; now = refl; kinds = grows_not e.kinds }

-- the shape of a function that returns a unit
pub function_begun : (e₀ e₁ e₂ : Emitted) (u n : ℕ) (locals : List ℕ) → IsNumberOf e₁.kinds (UnitOf u) n → TurnsTo e₀ e₁ e₀.now → locals ≡ []
    → TurnsTo e₁ e₂ (body_shape None (round_of e₁.kinds (round_is.Function n)) (kinds_at e₁.kinds locals)) → TurnsTo e₀ e₂ (body_shape None (OfFunction (UnitOf u)) [])
function_begun e₀ e₁ e₂ u n locals number t₁ empty t₂ =
    let shape =
    ap (λ (l : List ℕ). body_shape None (round_of e₁.kinds (round_is.Function n)) (kinds_at e₁.kinds l)) empty ∙ ap (λ (k : Kind). body_shape None (OfFunction k) []) number.is in
    turns_then (λ s. body_shape None (OfFunction (UnitOf u)) []) t₁ (subst (λ (s : Shape). TurnsTo e₁ e₂ s) shape t₂)
