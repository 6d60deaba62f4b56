-- The code of a unit keeps to its shapes.
use Rattle.std.proofs.Common.{◌≡◌, ℕ, ◌+◌, Bool, true, false, List, [], ◌∷◌, ◌++◌, length, Option, Some, None, refl, sym, ap, subst}
use Rattle.std.specs.Prelude.{pos, slice_get}
use Rattle.sp_numbers.specs.declared.width.Width.TheVariants.{W64}
use Rattle.sp_words.specs.declared.words.HookName.{HookName}
use Rattle.sp_words.specs.declared.words.HookName.TheVariants.{Init, Done, Error, Finally}
use Rattle.sp_methods.specs.Kinds.{Kind, Unsigned, UnitOf}
use Rattle.sp_typed.specs.Exprs.{Expr}
use Rattle.sp_typed_units.specs.declared.declarations.Member.{Member}
use Rattle.sp_typed_units.specs.declared.declarations.Typed.{Typed}
use Rattle.sp_typed_units.specs.declared.declarations.Unit.{Unit as TypedUnit}
use Rattle.sp_typed_units.specs.declared.declarations.Variable.{Variable}
use Rattle.sp_typed_units.specs.Parts.{Part, Parts, field, no_parts, more_parts, parts}
use Rattle.sp_meaning_states.specs.Scopes as called_is
use Rattle.sp_meaning.specs.Globals.{Globals, globals_of}
use Rattle.sp_meaning.specs.Hooks.{hook_bodies, is_of_unit}
use Rattle.sp_meaning.specs.Integers.{IntegerForm, integer_field, last_order, module_order}
use Rattle.sp_code_meaning.specs.Units.{offset_slot, value_slot, unit_slots, unit_layout}
use Rattle.sp_meaning.specs.Units.{first_value}
use Rattle.sp_code.specs.declared.instr.Instr.{Instr}
use Rattle.sp_code.specs.declared.instr.Instr.TheVariants as does
use Rattle.sp_code.specs.Machine.{Plain}
use Rattle.sp_code.specs.Shapes.{Shape, Shapes, Round, OfUnit, OfEnding, OfFailing, OfHook, body_shape, with_operands, push, IsOfUnit, read_kind, IsMember, Enters, AlwaysHave, Shown, Keeps}
use Rattle.sp_code_programs.specs.exprs.Marked.{Marked, mark, constant, Shows}
use Rattle.sp_code_programs.specs.exprs.Code.{kind_at, kind_of, expr_code}
use Rattle.sp_code_programs.specs.units.Bodies.{loads_code, loaded, hooks_code}
use Rattle.sp_code_programs.specs.units.Units.{slot_kinds, unit_shape, int_form, member_code, stored_code, kept_code, member_kind, field_code, where_integer, part_code, parts_code, begin_code, variable_code, variables_code, unit_hook_code, unit_parts_code, unit_code, ending_code, failing_code, unit_entry}
use Rattle.sp_law_code.specs.exprs.Laws.{AllKeep}
use Rattle.sp_law_code.proofs.exprs_lemmas.Keeping.{Leads, shows_front, shows_back, keep_both, nothing, behind, does_keep, constant_keeps}
use Rattle.sp_law_code.proofs.exprs_lemmas.KeptExprs.{expr_keeps}
use Rattle.sp_law_code.specs.units.Fits.{BodiesFit, UnitHookFits, VariablesBegin, ValueFits, VariablesFit, StoreFits, IntegerFits, PartFits, PartsFit, UnitFits}
use Rattle.sp_law_code.specs.units.Keeps.{UnitsKeep, UnitsEnter}

-- the local of a value is of its kind
value_local : (signed : Bool) → slice_get slot_kinds (value_slot signed) ≡ Some (read_kind signed)
value_local true = refl
value_local false = refl

value_kind : (signed : Bool) → kind_at slot_kinds (value_slot signed) ≡ read_kind signed
value_kind true = refl
value_kind false = refl

slots_have : AlwaysHave slot_kinds unit_slots
slots_have units = ((W64, 0, refl), ((W64, 0, refl), ((W64, pos 0, refl), tt)))

-- these locals are there
abbrev AreThere : List Kind → List ℕ → Type 0
AreThere kinds [] = Unit {0}
AreThere kinds (l ∷ ls) = (slice_get kinds l ≡ Some (kind_at kinds l)) × AreThere kinds ls

module _ (p : Plain) (shapes : Shapes) where
  -- an instruction, and what is behind it
  then_keeps : (pc : ℕ) (s t u : Shape) (i : Instr) (b : List Marked) → (Shown p shapes (pc + 1) t → Keeps p shapes i pc s) → Leads p shapes (pc + 1) b t u → Leads p shapes pc (mark s i ∷ b) s u
  then_keeps pc s t u i b h g = behind p shapes pc (mark s i ∷ []) b s t u (does_keep p shapes pc s t i h) g

  loads_keep : (ls : List ℕ) (s : Shape) (pc : ℕ) → AreThere s.locals ls → Leads p shapes pc (loads_code s ls) s (loaded s ls)
  loads_keep [] s pc there = nothing p shapes pc s
  loads_keep (l ∷ ls) s pc there =
      let k = kind_at s.locals l in
      then_keeps pc s (push k s) (loaded (push k s) ls) (does.Load l) (loads_code (push k s) ls) (λ shown. (k, there.0, shown)) (loads_keep ls (push k s) (pc + 1) there.1)

  module _ (list : Typed) (u : ℕ) where
    abbrev globals : Globals
    globals = globals_of list

    -- the bodies of a hook, for each of which the same locals are loaded
    hooks_keep : (ins : List Kind) (ls hs : List ℕ) (s : Shape) (pc : ℕ) → AreThere s.locals ls → (loaded s ls).unit ≡ Some u → (loaded s ls).operands ≡ ins ++ s.operands → with_operands (loaded s ls) s.operands ≡ s
        → BodiesFit p shapes list u ins hs → Leads p shapes pc (hooks_code s (length list.functions) ls hs) s s
    hooks_keep ins ls [] s pc there of over same fits = nothing p shapes pc s
    hooks_keep ins ls (h ∷ hs) s pc there of over same fits =
        let n = length list.functions + h in
        let load = loads_code s ls in
        let t = loaded s ls in
        let later = hooks_code s (length list.functions) ls hs in
        let q = pc + length load in
        behind p shapes pc load (mark t (does.Hook n) ∷ later) s t s (loads_keep ls s pc there)
        (then_keeps q t s s (does.Hook n) later
        (λ shown. (ins, false, subst (λ o. Enters p shapes n o (called_is.Called.Hook false) (OfHook false) ins) (sym of) fits.0, (s.operands, over, subst (λ s. Shown p shapes (q + 1) s) (sym same) shown)))
        (hooks_keep ins ls hs s (q + 1) there of over same fits.1))

    -- code of the unit, in its parts, behind them, or where it fails
    module _ (r : Round) where
      abbrev s : Shape
      s = unit_shape u r

      unit_hook_keeps : (name : HookName) (pc : ℕ) → UnitHookFits p shapes list u name → Leads p shapes pc (unit_hook_code list u s name) s s
      unit_hook_keeps name pc fits = hooks_keep [] [] (hook_bodies (is_of_unit u name) list.hooks) s pc tt refl refl refl fits

      member_keeps : (k : Kind) (m pc : ℕ) → IsMember p shapes u m k → Leads p shapes pc (member_code u s k m) (push k s) s
      member_keeps k m pc is =
          let v = push (UnitOf u) (push k s) in
          then_keeps pc (push k s) v s does.SelfUnit (mark v (does.SetField m) ∷ []) (λ shown. (u, refl, shown))
          (does_keep p shapes (pc + 1) v s (does.SetField m) (λ shown. (u, k, is, (s.operands, refl, shown))))

      stored_keeps : (k : Kind) (member : Option ℕ) (pc : ℕ) → StoreFits p shapes list u member k → Leads p shapes pc (stored_code u s k member) (push k s) s
      stored_keeps k (Some m) pc fits = member_keeps k m pc fits
      stored_keeps k None pc fits = does_keep p shapes pc (push k s) s does.Pop (λ shown. (k, (s.operands, refl, shown)))

      kept_keeps : (k : Kind) (l : ℕ) (member : Option ℕ) (pc : ℕ) → slice_get slot_kinds l ≡ Some k → StoreFits p shapes list u member k → Leads p shapes pc (kept_code u s k l member) s s
      kept_keeps k l (Some m) pc is fits = then_keeps pc s (push k s) s (does.Load l) (member_code u s k m) (λ shown. (k, is, shown)) (member_keeps k m (pc + 1) fits)
      kept_keeps k l None pc is fits = nothing p shapes pc s

      -- variables
      begin_keeps : (ms : List Member) (vs : List Variable) (pc : ℕ) → VariablesBegin p shapes list u ms vs → Leads p shapes pc (begin_code list u s ms vs) s s
      begin_keeps ms [] pc fits = nothing p shapes pc s
      begin_keeps ms (v ∷ vs) pc fits =
          let m = slice_get ms v.member in
          let k = member_kind globals.ranges m in
          let store = member_code u s k v.member in
          behind p shapes pc (constant s (first_value globals.ranges m) ∷ []) (store ++ begin_code list u s ms vs) s (push k s) s (constant_keeps p shapes pc s k (first_value globals.ranges m) fits.1)
          (behind p shapes (pc + 1) store (begin_code list u s ms vs) (push k s) s s (member_keeps k v.member (pc + 1) fits.0) (begin_keeps ms vs (pc + 1 + length store) fits.2))

      variable_keeps : (m : ℕ) (e : Option Expr) (pc : ℕ) → ValueFits p shapes list u m e → Leads p shapes pc (variable_code list u s pc m e) s s
      variable_keeps m (Some e) pc fits =
          let code_e = expr_code globals unit_layout s pc e in
          let k = kind_of globals unit_layout e in
          behind p shapes pc code_e (member_code u s k m) s (push k s) s (expr_keeps p shapes globals unit_layout e s pc fits.0) (member_keeps k m (pc + length code_e) fits.1)
      variable_keeps m None pc fits = nothing p shapes pc s

      variables_keep : (vs : List Variable) (pc : ℕ) → VariablesFit p shapes list u vs → Leads p shapes pc (variables_code list u s pc vs) s s
      variables_keep [] pc fits = nothing p shapes pc s
      variables_keep (v ∷ vs) pc fits =
          let code_v = variable_code list u s pc v.member v.value in
          behind p shapes pc code_v (variables_code list u s (pc + length code_v) vs) s s s (variable_keeps v.member v.value pc fits.0) (variables_keep vs (pc + length code_v) fits.1)

      -- fields
      field_keeps : (form : IntegerForm) (member : Option ℕ) (hs : List ℕ) (pc : ℕ) → StoreFits p shapes list u member (read_kind form.signed) → BodiesFit p shapes list u (Unsigned ∷ read_kind form.signed ∷ []) hs
          → Leads p shapes pc (field_code list u s form member hs) s s
      field_keeps form member [] pc stores fits =
          let k = read_kind form.signed in
          then_keeps pc s (push k s) s (does.ReadInt (int_form form)) (stored_code u s k member) (λ shown. shown) (stored_keeps k member (pc + 1) stores)
      field_keeps form member (h ∷ hs) pc stores fits =
          let k = read_kind form.signed in
          let l = value_slot form.signed in
          let is = value_local form.signed in
          let here = value_kind form.signed in
          let kept = kept_code u s k l member in
          let hooks = hooks_code s (length list.functions) (l ∷ offset_slot ∷ []) (h ∷ hs) in
          let q = pc + 1 + 1 + 1 in
          let store = mark (push k s) (does.Store l) ∷ (kept ++ hooks) in
          let read = mark s (does.ReadInt (int_form form)) ∷ store in
          let keep_offset = mark (push Unsigned s) (does.Store offset_slot) ∷ read in
          then_keeps pc s (push (UnitOf u) s) s does.SelfUnit (mark (push (UnitOf u) s) does.Offset ∷ keep_offset) (λ shown. (u, refl, shown))
          (then_keeps (pc + 1) (push (UnitOf u) s) (push Unsigned s) s does.Offset keep_offset (λ shown. (u, (s.operands, refl, shown)))
          (then_keeps (pc + 1 + 1) (push Unsigned s) s s (does.Store offset_slot) read (λ shown. (Unsigned, refl, (s.operands, refl, shown)))
          (then_keeps q s (push k s) s (does.ReadInt (int_form form)) store (λ shown. shown)
          (then_keeps (q + 1) (push k s) s s (does.Store l) (kept ++ hooks) (λ shown. (k, is, (s.operands, refl, shown)))
          (behind p shapes (q + 1 + 1) kept hooks s s s (kept_keeps k l member (q + 1 + 1) is stores)
          (hooks_keep (Unsigned ∷ k ∷ []) (l ∷ offset_slot ∷ []) (h ∷ hs) s (q + 1 + 1 + length kept)
          (subst (λ k. slice_get slot_kinds l ≡ Some k) (sym here) is, (refl, tt)) refl (ap (λ k. Unsigned ∷ k ∷ s.operands) here) refl fits))))))

      integer_keeps : (o : Option IntegerForm) (member : Option ℕ) (hs : List ℕ) (pc : ℕ) → IntegerFits p shapes list u o member hs → Leads p shapes pc (where_integer list o (λ form. field_code list u s form member hs)) s s
      integer_keeps (Some form) member hs pc fits = field_keeps form member hs pc fits.0 fits.1
      integer_keeps None member hs pc fits = nothing p shapes pc s

      part_keeps : (o : Option ℕ) (x : Part) (pc : ℕ) → PartFits p shapes list u o x → Leads p shapes pc (part_code list u s o x) s s
      part_keeps o (field f) pc fits = integer_keeps (integer_field o f) f.member f.hooks pc fits
      part_keeps o _ pc fits = nothing p shapes pc s

      parts_keep : (o : Option ℕ) (xs : Parts) (pc : ℕ) → PartsFit p shapes list u o xs → Leads p shapes pc (parts_code list u s o xs) s s
      parts_keep o no_parts pc fits = nothing p shapes pc s
      parts_keep o (more_parts x xs) pc fits =
          let code_x = part_code list u s o x in
          behind p shapes pc code_x (parts_code list u s o xs) s s s (part_keeps o x pc fits.0) (parts_keep o xs (pc + length code_x) fits.1)

      -- code that is followed by the leaving of the unit
      leaving_keeps : (pc : ℕ) (ms : List Marked) → IsOfUnit r → Leads p shapes pc ms s s → Shows shapes.at pc (ms ++ mark s does.LeaveUnit ∷ []) → AllKeep p shapes pc (ms ++ mark s does.LeaveUnit ∷ []) × Shown p shapes pc s
      leaving_keeps pc ms is h shows =
          let last = mark s does.LeaveUnit ∷ [] in
          let of_last = shows_back p shapes pc ms last shows in
          let of_ms = h (shows_front p shapes pc ms last shows) of_last.0 in
          let leaves : Keeps p shapes does.LeaveUnit (pc + length ms) s = (is, refl) in
          (keep_both p shapes pc ms last of_ms.0 ((λ i e. subst (λ i. Keeps p shapes i (pc + length ms) s) (sym e) leaves), tt), of_ms.1)

    module _ (x : TypedUnit) (fits : UnitFits p shapes list u x) (at : ℕ) where
      unit_keeps : Shows shapes.at at (unit_code list at u x) → AllKeep p shapes at (unit_code list at u x) × Shown p shapes at (unit_shape u OfUnit)
      unit_keeps shows =
          let s = unit_shape u OfUnit in
          let o = last_order (module_order x.«module» None list.orders) x.orders in
          let a = begin_code list u s x.members x.variables in
          let b = variables_code list u s (at + length a) x.variables in
          let c = unit_hook_code list u s Init in
          let d = parts_code list u s o (parts x.parts) in
          let e = unit_hook_code list u s Done in
          leaving_keeps OfUnit at (unit_parts_code list at u x) tt
          (behind p shapes at (a ++ b ++ c ++ d) e s s s
          (behind p shapes at (a ++ b ++ c) d s s s
          (behind p shapes at (a ++ b) c s s s
          (behind p shapes at a b s s s (begin_keeps OfUnit x.members x.variables at fits.begins) (variables_keep OfUnit x.variables (at + length a) fits.variables))
          (unit_hook_keeps OfUnit Init (at + length (a ++ b)) fits.init))
          (parts_keep OfUnit o (parts x.parts) (at + length (a ++ b ++ c)) fits.parts))
          (unit_hook_keeps OfUnit Done (at + length (a ++ b ++ c ++ d)) fits.done))
          shows

      ending_keeps : Shows shapes.at at (ending_code list u) → AllKeep p shapes at (ending_code list u) × Shown p shapes at (unit_shape u OfEnding)
      ending_keeps shows = leaving_keeps OfEnding at (unit_hook_code list u (unit_shape u OfEnding) Finally) tt (unit_hook_keeps OfEnding Finally at fits.finally) shows

      failing_keeps : Shows shapes.at at (failing_code list u) → AllKeep p shapes at (failing_code list u) × Shown p shapes at (unit_shape u OfFailing)
      failing_keeps shows =
          let s = unit_shape u OfFailing in
          let a = unit_hook_code list u s Error in
          let b = unit_hook_code list u s Finally in
          leaving_keeps OfFailing at (a ++ b) tt (behind p shapes at a b s s s (unit_hook_keeps OfFailing Error at fits.error) (unit_hook_keeps OfFailing Finally (at + length a) fits.finally)) shows

pub units_keep : UnitsKeep
units_keep p shapes list u x fits at = (unit_keeps p shapes list u x fits at, ending_keeps p shapes list u x fits at, failing_keeps p shapes list u x fits at)

pub units_enter : UnitsEnter
units_enter p shapes list u x fits code parts_show ending_shows failing_shows kinds ins listed are pc s takes =
    let shown : (at : ℕ) (r : Round) → Shown p shapes at (unit_shape u r) → Shown p shapes at (body_shape (Some u) r kinds.locals) = λ at r h. subst (λ ls. Shown p shapes at (body_shape (Some u) r ls)) (sym are.locals) h in (
      unit_entry code.start code.ending code.failing x,
      kinds,
      ins,
      code.listed,
      listed,
      record { takes = are.takes; parameters = are.parameters; members = are.members; fresh = subst (λ ls. AlwaysHave ls unit_slots) (sym are.locals) slots_have },
      shown code.start OfUnit (unit_keeps p shapes list u x fits code.start parts_show).1,
      shown code.ending OfEnding (ending_keeps p shapes list u x fits code.ending ending_shows).1,
      shown code.failing OfFailing (failing_keeps p shapes list u x fits code.failing failing_shows).1,
      takes,
    )
