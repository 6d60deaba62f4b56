-- Two functions, a body of a hook and two units as a whole program; names of hooks and labels; and the kinds of `$$`.
use Rattle.std.specs.Prelude.{◌≡◌, ℕ, true, false, List, [], ◌∷◌, Some, None, codes, refl}
use Rattle.std.proofs.Common.{ap, arith}
use Rattle.sp_numbers.specs.declared.width.Width.TheVariants.{W8}
use Rattle.sp_words.specs.declared.words.AttributeName.TheVariants as attribute_is
use Rattle.sp_words.specs.declared.words.HookName.TheVariants as event_is
use Rattle.sp_value.specs.Val.{void, uint}
use Rattle.sp_methods.specs.Kinds.{Kind, Void, Bytes, Unsigned, UnitOf, VectorOf}
use Rattle.sp_types.specs.declared.words.Word.TheVariants as word_is
use Rattle.sp_types.specs.declared.words.Maker.TheVariants as maker_is
use Rattle.sp_types.specs.Types.{Ty, word, made, none, more}
use Rattle.sp_typed.specs.declared.words.LeafOp.TheVariants as leaf_is
use Rattle.sp_typed.specs.declared.words.Standing.TheVariants.{Meant}
use Rattle.sp_typed.specs.Exprs.{exprs}
use Rattle.sp_typed.specs.Stmts.{print}
use Rattle.sp_typed_units.specs.declared.attributes.Attribute.{Attribute}
use Rattle.sp_typed_units.specs.declared.declarations.Enum.{Enum}
use Rattle.sp_typed_units.specs.declared.declarations.Hook.{Hook}
use Rattle.sp_typed_units.specs.declared.declarations.HookOf.{HookOf}
use Rattle.sp_typed_units.specs.declared.declarations.HookOf.TheVariants as hook_of
use Rattle.sp_typed_units.specs.declared.declarations.LabelNumber.TheVariants as number_is
use Rattle.sp_typed_units.specs.declared.declarations.MemberKind.TheVariants as member_is
use Rattle.sp_typed_units.specs.declared.declarations.Typed.{Typed}
use Rattle.sp_typed_units.specs.declared.declarations.Unit.{Unit as TypedUnit}
use Rattle.sp_typed_units.specs.declared.items.Field.{Field}
use Rattle.sp_typed_units.specs.declared.readings.ReadOp.TheVariants as read_is
use Rattle.sp_typed_units.specs.Specs.{Spec, read, list_read, group_read}
use Rattle.sp_typed_units.specs.Parts.{field, choice, no_arms, more_arms, parts}
use Rattle.sp_meaning_states.specs.Scopes.{Called}
use Rattle.sp_code_meaning.specs.Units.{unit_slots}
use Rattle.sp_code.specs.declared.instr.IntForm.{IntForm}
use Rattle.sp_code.specs.declared.instr.Instr.TheVariants as does
use Rattle.sp_code.specs.Machine.{UnitCode, Plain}
use Rattle.sp_code.specs.Shapes.{Shape, UnitKinds, Shapes, OfUnit, OfEnding, OfFailing, OfFunction, OfHook, body_shape, push, with_operands}
use Rattle.sp_code_programs.specs.units.Units.{slot_kinds, unit_shape}
use Rattle.sp_meaning.specs.Names.{hook_name, hook_names_of, own_name, names_of_labels}
use Rattle.sp_code_programs.specs.programs.Currents.{currents_of}
use Rattle.sp_code_programs.specs.programs.Whole.{units_start, starters_start, starter_at, IsProgramOf}
use Rattle.sp_code_programs.specs.programs.Rows.{here, byte, leaf_of, same, seven}

-- a field of bytes, what it reads, and its hooks
abbrev pub field_with : Spec → Ty → List Attribute → List ℕ → Field
field_with spec t attributes hooks =
    record { span = here; member = None; taken = false; ty = t; spec = spec; attributes = attributes; condition = None; sink = None; hooks = hooks }

abbrev pub reads_byte : Spec
reads_byte = read (record { span = here; ty = byte; op = read_is.Int })

-- `type U = unit { f: uint8 { print $$; } };`
abbrev pub with_hook : TypedUnit
with_hook =
    record {
      path = codes "M::U";
      «module» = 0;
      span = here;
      public = true;
      parameters = [];
      members = (record { name = codes "f"; kind = member_is.Field; ty = byte }) ∷ [];
      variables = [];
      sinks = [];
      parts = field (record (field_with reads_byte byte [] (0 ∷ [])) { member = Some 0 }) ∷ [];
      orders = [];
      filter = false;
      uses_input = false;
      connects_filter = false;
    }

-- `type V = unit(x: uint8) { : uint8; };`
abbrev pub with_parameter : TypedUnit
with_parameter =
    record {
      path = codes "M::V";
      «module» = 0;
      span = here;
      public = true;
      parameters = (record { name = codes "x"; span = here; written = record { span = here; unnamed = None; misplaced = None }; ty = byte; inout = false }) ∷ [];
      members = [];
      variables = [];
      sinks = [];
      parts = field (field_with reads_byte byte [] []) ∷ [];
      orders = [];
      filter = false;
      uses_input = false;
      connects_filter = false;
    }

abbrev pub told_byte : Hook
told_byte =
    record {
      «module» = 0;
      span = here;
      of = hook_of.Field 0 0;
      fits = true;
      parameters = [];
      priority = None;
      rank = None;
      slots = [];
      body = print here (exprs (leaf_of byte (leaf_is.Current Meant) ∷ []));
    }

abbrev pub whole_list : Typed
whole_list =
    record { units = with_hook ∷ with_parameter ∷ []; functions = same ∷ seven ∷ []; hooks = told_byte ∷ []; constants = []; enums = []; bitfields = []; aliases = []; conversions = []; orders = [] }

names_are : hook_names_of whole_list ≡ codes "M::U::f" ∷ []
names_are = refl

currents_are : currents_of whole_list ≡ Unsigned ∷ []
currents_are = refl

the_units_start_at_15 : units_start whole_list ≡ 15
the_units_start_at_15 = refl

the_starters_start_at_34 : starters_start whole_list ≡ 34
the_starters_start_at_34 = refl

the_second_starter_stands_at_36 : starter_at whole_list 1 ≡ 36
the_second_starter_stands_at_36 = refl

abbrev byte_form : IntForm
byte_form = record { width = W8; signed = false; little = false }

-- the entries of both units, of which the second begins at an address
abbrev first_entry : UnitCode
first_entry = record { start = 15; ending = 27; failing = 28; keeps = false; takes = 0; members = 1; fresh = unit_slots }

abbrev second_entry : ℕ → UnitCode
second_entry at = record { start = at; ending = 32; failing = 33; keeps = false; takes = 1; members = 0; fresh = unit_slots }

abbrev pub whole_at : ℕ → Plain
whole_at at =
    record {
      limits = record { turns = 4; depth = 3; fibers = 1 };
      names = record { members = (codes "f" ∷ []) ∷ [] ∷ []; labels = []; ranges = [] };
      consts = uint W8 0 ∷ uint W8 7 ∷ void ∷ [];
      bodies =
          (record { start = 0; called = Called.Function; takes = 1; fresh = []; name = []; told = 0 })
          ∷ (record { start = 4; called = Called.Function; takes = 0; fresh = uint W8 0 ∷ []; name = []; told = 0 })
          ∷ (record { start = 11; called = Called.Hook false; takes = 2; fresh = []; name = codes "M::U::f"; told = 1 })
          ∷ [];
      units = first_entry ∷ second_entry at ∷ [];
      code =
          does.Load 0
          ∷ does.Return
          ∷ does.Const 0
          ∷ does.Return
          ∷ does.Const 1
          ∷ does.Call 0
          ∷ does.Store 0
          ∷ does.Load 0
          ∷ does.Return
          ∷ does.Const 0
          ∷ does.Return
          ∷ does.Load 0
          ∷ does.Print 1
          ∷ does.Const 2
          ∷ does.Return
          ∷ does.SelfUnit
          ∷ does.Offset
          ∷ does.Store 0
          ∷ does.ReadInt byte_form
          ∷ does.Store 1
          ∷ does.Load 1
          ∷ does.SelfUnit
          ∷ does.SetField 0
          ∷ does.Load 1
          ∷ does.Load 0
          ∷ does.Hook 2
          ∷ does.LeaveUnit
          ∷ does.LeaveUnit
          ∷ does.LeaveUnit
          ∷ does.ReadInt byte_form
          ∷ does.Pop
          ∷ does.LeaveUnit
          ∷ does.LeaveUnit
          ∷ does.LeaveUnit
          ∷ does.EnterUnit 0
          ∷ does.Return
          ∷ does.EnterUnit 1
          ∷ does.Return
          ∷ [];
    }

abbrev pub whole_program : Plain
whole_program = whole_at 29

abbrev in_function : Shape
in_function = body_shape None (OfFunction Unsigned) (Unsigned ∷ [])

abbrev in_hook : Shape
in_hook = body_shape (Some 0) (OfHook false) (Unsigned ∷ Unsigned ∷ [])

abbrev in_first : Shape
in_first = unit_shape 0 OfUnit

abbrev in_second : Shape
in_second = unit_shape 1 OfUnit

-- before a starter, where nothing was handed to it yet
abbrev starting : ℕ → Shape
starting u = body_shape None (OfFunction (UnitOf u)) []

-- the kinds of both units, of which the second takes values of these
abbrev unit_kinds : List Kind → List UnitKinds
unit_kinds taken = (record { parameters = []; members = Unsigned ∷ []; locals = slot_kinds }) ∷ (record { parameters = taken; members = []; locals = slot_kinds }) ∷ []

abbrev pub whole_shapes_with : List Kind → Shapes
whole_shapes_with taken =
    record {
      at =
          in_function
          ∷ push Unsigned in_function
          ∷ in_function
          ∷ push Unsigned in_function
          ∷ in_function
          ∷ push Unsigned in_function
          ∷ push Unsigned in_function
          ∷ in_function
          ∷ push Unsigned in_function
          ∷ in_function
          ∷ push Unsigned in_function
          ∷ in_hook
          ∷ push Unsigned in_hook
          ∷ in_hook
          ∷ push Void in_hook
          ∷ in_first
          ∷ push (UnitOf 0) in_first
          ∷ push Unsigned in_first
          ∷ in_first
          ∷ push Unsigned in_first
          ∷ in_first
          ∷ push Unsigned in_first
          ∷ push (UnitOf 0) (push Unsigned in_first)
          ∷ in_first
          ∷ push Unsigned in_first
          ∷ push Unsigned (push Unsigned in_first)
          ∷ in_first
          ∷ unit_shape 0 OfEnding
          ∷ unit_shape 0 OfFailing
          ∷ in_second
          ∷ push Unsigned in_second
          ∷ in_second
          ∷ unit_shape 1 OfEnding
          ∷ unit_shape 1 OfFailing
          ∷ starting 0
          ∷ push (UnitOf 0) (starting 0)
          ∷ with_operands (starting 1) (Unsigned ∷ [])
          ∷ push (UnitOf 1) (starting 1)
          ∷ [];
      units = unit_kinds taken;
      bodies = (record { locals = Unsigned ∷ [] }) ∷ (record { locals = Unsigned ∷ [] }) ∷ (record { locals = Unsigned ∷ Unsigned ∷ [] }) ∷ [];
    }

abbrev pub whole_shapes : Shapes
whole_shapes = whole_shapes_with (Unsigned ∷ [])

pub it_is_the_program : IsProgramOf whole_list whole_program whole_shapes
it_is_the_program =
    record {
      laid =
          record {
            bodies = refl;
            locals = refl;
            code = (refl, (refl, ((0, refl, refl), (refl, ((1, refl, refl), (refl, (refl, (refl, (refl, ((0, refl, refl), (refl, (refl, (refl, ((2, refl, refl), (refl, (refl, (refl, (refl, (refl, (refl, (refl, (refl, (refl, (refl, (refl, (refl, (refl, (refl, (refl, (refl, (refl, (refl, (refl, (refl, (refl, (refl, (refl, (refl, tt))))))))))))))))))))))))))))))))))))));
            before = refl;
          };
      units = refl;
      kinds = refl;
      names = refl;
    }

abbrev second_start : List UnitCode → ℕ
second_start (a ∷ b ∷ bs) = b.start
second_start us = 0

-- a program in which the second unit begins one too low
pub no_unit_is_elsewhere : IsProgramOf whole_list (whole_at 28) whole_shapes → ⊥
no_unit_is_elsewhere is = omega (arith, ap second_start is.units)

abbrev taken_by_second : List UnitKinds → List Kind
taken_by_second (a ∷ b ∷ bs) = b.parameters
taken_by_second us = []

-- one in whose table the second unit takes bytes
pub no_parameter_is_another : IsProgramOf whole_list whole_program (whole_shapes_with (Bytes ∷ [])) → ⊥
no_parameter_is_another is = absurd (let q : Bytes ∷ [] ≡ Unsigned ∷ [] = ap taken_by_second is.kinds in cc)

-- names of hooks
abbrev name_of_hook : HookOf → List ℕ
name_of_hook of = hook_name whole_list.units of

a_unit_and_its_own_hook : name_of_hook (hook_of.Unit 1 event_is.Done) ≡ codes "M::V::%done"
a_unit_and_its_own_hook = refl

elements_of_a_field : name_of_hook (hook_of.Elements 0 0) ≡ codes "M::U::f foreach"
elements_of_a_field = refl

a_field_without_a_name : name_of_hook (hook_of.Anonymous 1) ≡ codes "M::V"
a_field_without_a_name = refl

its_elements : name_of_hook (hook_of.AnonymousElements 1) ≡ codes "M::V foreach"
its_elements = refl

-- labels are told by the own name of their enum
abbrev colours : Enum
colours = record { path = codes "M::Colour"; «module» = 0; span = here; labels = (record { name = codes "Red"; span = here; expr = None; number = number_is.Number 3 }) ∷ [] }

labels_are_told : names_of_labels (colours ∷ []) ≡ ((3, codes "Colour::Red") ∷ []) ∷ []
labels_are_told = refl

a_name_without_a_module : own_name (codes "E") ≡ codes "E"
a_name_without_a_module = refl

-- `$$` in the bodies of a field without a name and of its elements, which stand in an arm of a switch: `: (int8 &convert=b"")[]` stores a
-- vector, each of whose elements is converted
abbrev signed : Ty
signed = word (word_is.Int W8)

abbrev to_bytes : Attribute
to_bytes = record { span = here; name = attribute_is.Convert; value = Some (leaf_of (word word_is.Bytes) (leaf_is.Bytes [])); number = None; bytes = None }

abbrev converted_elements : Spec
converted_elements = list_read here (group_read here (read (record { span = here; ty = signed; op = read_is.Int })) (to_bytes ∷ [])) None

abbrev many_bytes : Ty
many_bytes = made maker_is.Vector (more (word word_is.Bytes) none)

abbrev in_an_arm : Field → TypedUnit
in_an_arm f = record with_hook { parts = choice here None (more_arms (record { span = here; values = []; otherwise = true }) (parts (field f ∷ [])) no_arms) ∷ [] }

abbrev hook_on : HookOf → Hook
hook_on of = record told_byte { of = of }

abbrev list_with : Field → Typed
list_with f = record whole_list { units = with_hook ∷ in_an_arm f ∷ []; hooks = told_byte ∷ hook_on (hook_of.Anonymous 1) ∷ hook_on (hook_of.AnonymousElements 1) ∷ hook_on (hook_of.Unit 1 event_is.Init) ∷ [] }

what_is_stored_and_what_is_read : currents_of (list_with (field_with converted_elements many_bytes [] (1 ∷ 2 ∷ []))) ≡ Unsigned ∷ VectorOf Bytes ∷ Bytes ∷ Void ∷ []
what_is_stored_and_what_is_read = refl
