-- The code of units of integers: of their parts, of what is behind them, and of their failing. What else may stand in a unit has no code
-- yet.
use Rattle.std.specs.Prelude.{◌≡◌, ℕ, ◌+◌, List, [], ◌∷◌, ◌++◌, length, Option, Some, None, slice_get}
use Rattle.sp_words.specs.declared.words.HookName.{HookName}
use Rattle.sp_words.specs.declared.words.HookName.TheVariants.{Init, Done, Error, Finally}
use Rattle.sp_methods.specs.Kinds.{Kind, Void, Unsigned, Signed, UnitOf}
use Rattle.sp_typed.specs.Exprs.{Expr}
use Rattle.sp_typed_units.specs.declared.declarations.Member.{Member}
use Rattle.sp_typed_units.specs.declared.declarations.Parameter.{Parameter}
use Rattle.sp_typed_units.specs.declared.declarations.Typed.{Typed}
use Rattle.sp_typed_units.specs.declared.declarations.Unit.{Unit as TypedUnit}
use Rattle.sp_typed_units.specs.declared.declarations.Variable.{Variable}
use Rattle.sp_typed_units.specs.Parts.{Part, Parts, field, no_parts, more_parts, parts}
use Rattle.sp_meaning_states.specs.Types.{kind_of_type}
use Rattle.sp_meaning.specs.Globals.{globals_of}
use Rattle.sp_meaning.specs.Hooks.{hook_bodies, is_of_unit}
use Rattle.sp_meaning.specs.Integers.{IntegerForm, integer_field, last_order, module_order}
use Rattle.sp_code_meaning.specs.Units.{offset_slot, value_slot, unit_slots, unit_layout}
use Rattle.sp_meaning.specs.Units.{first_value}
use Rattle.sp_code.specs.declared.instr.IntForm.{IntForm}
use Rattle.sp_code.specs.declared.instr.Instr.TheVariants as does
use Rattle.sp_code.specs.Machine.{UnitCode, Plain}
use Rattle.sp_code.specs.Shapes.{Shape, Round, OfUnit, OfEnding, OfFailing, OfFunction, with_operands, push, body_shape, read_kind}
use Rattle.sp_code_programs.specs.exprs.Marked.{Marked, mark, constant, HasAt}
use Rattle.sp_code_programs.specs.exprs.Code.{kind_of, expr_code}
use Rattle.sp_code_programs.specs.units.Bodies.{hooks_code}

-- the kinds of the locals of a unit's own code
abbrev pub slot_kinds : List Kind
slot_kinds = Unsigned ∷ Unsigned ∷ Signed ∷ []

-- in the code of the unit u: its parts, what is behind them, or its failing
abbrev pub unit_shape : ℕ → Round → Shape
unit_shape u r = body_shape (Some u) r slot_kinds

-- the same form in an instruction
abbrev pub int_form : IntegerForm → IntForm
int_form f = record { width = f.width; signed = f.signed; little = f.little }

-- a value of a kind, on top, becomes that of a member of the unit u
abbrev pub member_code : ℕ → Shape → Kind → ℕ → List Marked
member_code u s k m = mark (push k s) does.SelfUnit ∷ mark (push (UnitOf u) (push k s)) (does.SetField m) ∷ []

-- so does that of a field, unless it has no name
abbrev pub stored_code : ℕ → Shape → Kind → Option ℕ → List Marked
stored_code u s k (Some m) = member_code u s k m
stored_code u s k None = mark (push k s) does.Pop ∷ []

-- the value of a local is stored, unless the field has no name
abbrev pub kept_code : ℕ → Shape → Kind → ℕ → Option ℕ → List Marked
kept_code u s k l (Some m) = mark s (does.Load l) ∷ member_code u s k m
kept_code u s k l None = []

-- the kind of what a member holds
abbrev pub member_kind : List ℕ → Option Member → Kind
member_kind ranges (Some m) = kind_of_type ranges m.ty
member_kind ranges None = Void

-- the kinds of these parameters, the last first, and behind them those of what is below
abbrev pub kinds_over : List ℕ → List Parameter → List Kind → List Kind
kinds_over ranges [] ks = ks
kinds_over ranges (x ∷ xs) ks = kinds_over ranges xs (kind_of_type ranges x.ty ∷ ks)

module _ (list : Typed) where
  -- A field with hooks: the offset of its first byte is kept, and its value, before which the hooks run.
  abbrev pub hooked_code : ℕ → Shape → IntegerForm → Option ℕ → List ℕ → List Marked
  hooked_code u s form member hs =
      let k = read_kind form.signed in
      let l = value_slot form.signed in
      mark s does.SelfUnit ∷ mark (push (UnitOf u) s) does.Offset ∷ mark (push Unsigned s) (does.Store offset_slot) ∷ mark s (does.ReadInt (int_form form)) ∷ mark (push k s) (does.Store l) ∷ (kept_code u s k l member ++ hooks_code s (length list.functions) (l ∷ offset_slot ∷ []) hs)

  -- one without hooks keeps nothing for them
  abbrev pub field_code : ℕ → Shape → IntegerForm → Option ℕ → List ℕ → List Marked
  field_code u s form member [] = mark s (does.ReadInt (int_form form)) ∷ stored_code u s (read_kind form.signed) member
  field_code u s form member (h ∷ hs) = hooked_code u s form member (h ∷ hs)

  -- what is no integer has no code
  abbrev pub where_integer : Option IntegerForm → (IntegerForm → List Marked) → List Marked
  where_integer (Some form) go = go form
  where_integer None go = []

  -- a part, where this is the byte order of the unit
  abbrev pub part_code : ℕ → Shape → Option ℕ → Part → List Marked
  part_code u s o (field f) = where_integer (integer_field o f) (λ form. field_code u s form f.member f.hooks)
  part_code u s o p = []

  -- the parts in order
  abbrev pub parts_code : ℕ → Shape → Option ℕ → Parts → List Marked
  parts_code u s o no_parts = []
  parts_code u s o (more_parts p ps) = part_code u s o p ++ parts_code u s o ps

  -- variables begin with the first values of their types
  abbrev pub begin_code : ℕ → Shape → List Member → List Variable → List Marked
  begin_code u s ms [] = []
  begin_code u s ms (v ∷ vs) =
      let m = slice_get ms v.member in
      constant s (first_value (globals_of list).ranges m) ∷ (member_code u s (member_kind (globals_of list).ranges m) v.member ++ begin_code u s ms vs)

  -- the value that a variable has of its own
  abbrev pub variable_code : ℕ → Shape → ℕ → ℕ → Option Expr → List Marked
  variable_code u s at m (Some e) = expr_code (globals_of list) unit_layout s at e ++ member_code u s (kind_of (globals_of list) unit_layout e) m
  variable_code u s at m None = []

  -- the values of variables, from an address on
  abbrev pub variables_code : ℕ → Shape → ℕ → List Variable → List Marked
  variables_code u s at [] = []
  variables_code u s at (v ∷ vs) =
      let ms = variable_code u s at v.member v.value in
      ms ++ variables_code u s (at + length ms) vs

  -- the bodies of a hook that each unit has
  abbrev pub unit_hook_code : ℕ → Shape → HookName → List Marked
  unit_hook_code u s name = hooks_code s (length list.functions) [] (hook_bodies (is_of_unit u name) list.hooks)

  -- what runs once a unit is entered, from an address on: variables, `%init`, the parts in order, `%done`
  abbrev pub unit_parts_code : ℕ → ℕ → TypedUnit → List Marked
  unit_parts_code at u x =
      let s = unit_shape u OfUnit in
      let begins = begin_code u s x.members x.variables in
      begins ++ variables_code u s (at + length begins) x.variables ++ unit_hook_code u s Init ++ parts_code u s (last_order (module_order x.«module» None list.orders) x.orders) (parts x.parts) ++ unit_hook_code u s Done

  -- the parts, and the way behind them
  abbrev pub unit_code : ℕ → ℕ → TypedUnit → List Marked
  unit_code at u x = unit_parts_code at u x ++ mark (unit_shape u OfUnit) does.LeaveUnit ∷ []

  -- what runs behind its parts
  abbrev pub ending_code : ℕ → List Marked
  ending_code u =
      let s = unit_shape u OfEnding in
      unit_hook_code u s Finally ++ mark s does.LeaveUnit ∷ []

  -- what runs where they fail
  abbrev pub failing_code : ℕ → List Marked
  failing_code u =
      let s = unit_shape u OfFailing in
      unit_hook_code u s Error ++ unit_hook_code u s Finally ++ mark s does.LeaveUnit ∷ []

  -- the kinds of what a starter of a unit takes: those of the unit's parameters, the last on top
  abbrev pub starter_kinds : TypedUnit → List Kind
  starter_kinds x = kinds_over (globals_of list).ranges x.parameters []

  -- A starter of a unit: what a machine runs that begins with the unit's parameters as operands. It is the body of a function that
  -- returns the unit.
  abbrev pub starter_code : ℕ → TypedUnit → List Marked
  starter_code u x =
      let s = body_shape None (OfFunction (UnitOf u)) [] in
      mark (with_operands s (starter_kinds x)) (does.EnterUnit u) ∷ mark (push (UnitOf u) s) does.Return ∷ []

-- the entry of a unit, whose code begins at these addresses
abbrev pub unit_entry : ℕ → ℕ → ℕ → TypedUnit → UnitCode
unit_entry start ending failing x =
    record { start = start; ending = ending; failing = failing; keeps = x.uses_input; takes = length x.parameters; members = length x.members; fresh = unit_slots }

-- a unit has its entry at its number of the table of units, and its code where the entry says
pub record HasUnit (p : Plain) (list : Typed) (u : ℕ) (x : TypedUnit) : Type 0 where
  pub start : ℕ
  pub ending : ℕ
  pub failing : ℕ
  pub listed : slice_get p.units u ≡ Some (unit_entry start ending failing x)
  pub parts_stand : HasAt p start (unit_code list start u x)
  pub ending_stands : HasAt p ending (ending_code list u)
  pub failing_stands : HasAt p failing (failing_code list u)

-- a program has the units of a list of modules
abbrev pub HasUnits : Plain → Typed → Type 0
HasUnits p list = (u : ℕ) (x : TypedUnit) → slice_get list.units u ≡ Some x → HasUnit p list u x

-- a program has a starter of a unit at an address
abbrev pub HasStarter : Plain → Typed → ℕ → ℕ → TypedUnit → Type 0
HasStarter p list at u x = HasAt p at (starter_code list u x)
