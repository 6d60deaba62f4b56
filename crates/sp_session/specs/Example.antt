-- A unit of one byte with a body of `%done`, and its program.
use Rattle.std.specs.Prelude.{true, false, List, [], ◌∷◌, Some, None, codes}
use Rattle.sp_base.specs.declared.places.Limits.{Limits}
use Rattle.sp_base.specs.declared.places.Span.{Span}
use Rattle.sp_numbers.specs.declared.width.Width.TheVariants.{W8}
use Rattle.sp_words.specs.declared.words.HookName.TheVariants as hook_name
use Rattle.sp_value.specs.Val.{void}
use Rattle.sp_methods.specs.Kinds.{Void, Unsigned, UnitOf}
use Rattle.sp_types.specs.declared.words.Word.TheVariants as word_is
use Rattle.sp_types.specs.Types.{Ty, word}
use Rattle.sp_typed.specs.declared.stmt_words.BareOp.TheVariants as bare_is
use Rattle.sp_typed.specs.Stmts.{bare}
use Rattle.sp_typed_units.specs.declared.declarations.Hook.{Hook}
use Rattle.sp_typed_units.specs.declared.declarations.HookOf.TheVariants as hook_of
use Rattle.sp_typed_units.specs.declared.declarations.MemberKind.TheVariants as member_is
use Rattle.sp_typed_units.specs.declared.declarations.Typed.{Typed}
use Rattle.sp_typed_units.specs.declared.declarations.Unit.{Unit as TypedUnit}
use Rattle.sp_typed_units.specs.declared.readings.ReadOp.TheVariants as read_is
use Rattle.sp_typed_units.specs.Specs.{read}
use Rattle.sp_typed_units.specs.Parts.{field}
use Rattle.sp_meaning_states.specs.Scopes.{Called}
use Rattle.sp_code_meaning.specs.Units.{unit_slots}
use Rattle.sp_code.specs.declared.instr.Instr.{Instr}
use Rattle.sp_code.specs.declared.instr.Instr.TheVariants as does
use Rattle.sp_code.specs.Machine.{Plain}
use Rattle.sp_code.specs.Shapes.{UnitKinds, Shape, Shapes, OfUnit, OfEnding, OfFailing, OfFunction, OfHook, push, body_shape}
use Rattle.sp_code_programs.specs.units.Units.{slot_kinds, unit_shape}

abbrev pub here : Span
here = record { from = 0; to = 0 }

abbrev pub byte : Ty
byte = word (word_is.Uint W8)

-- `public type U = unit { a: uint8; on %done { return; } };` of a module `M`
abbrev pub one_byte : TypedUnit
one_byte =
    record {
      path = codes "M::U";
      «module» = 0;
      span = here;
      public = true;
      parameters = [];
      members = (record { name = codes "a"; kind = member_is.Field; ty = byte }) ∷ [];
      variables = [];
      sinks = [];
      parts = field (record { span = here; member = Some 0; taken = false; ty = byte; spec = read (record { span = here; ty = byte; op = read_is.Int }); attributes = []; condition = None; sink = None; hooks = [] }) ∷ [];
      orders = [];
      filter = false;
      uses_input = false;
      connects_filter = false;
    }

abbrev pub done_body : Hook
done_body = record { «module» = 0; span = here; of = hook_of.Unit 0 hook_name.Done; fits = true; parameters = []; priority = None; rank = None; slots = []; body = bare (record { span = here; op = bare_is.Return }) }

abbrev pub list : Typed
list = record { units = one_byte ∷ []; functions = []; hooks = done_body ∷ []; constants = []; enums = []; bitfields = []; aliases = []; conversions = []; orders = [] }

-- the code of the body, that of the unit, and its starter
abbrev pub code : List Instr
code = does.Const 0 ∷ does.Return ∷ does.Const 0 ∷ does.Return ∷ does.ReadInt (record { width = W8; signed = false; little = false }) ∷ does.SelfUnit ∷ does.SetField 0 ∷ does.Hook 0 ∷ does.LeaveUnit ∷ does.LeaveUnit ∷ does.LeaveUnit ∷ does.EnterUnit 0 ∷ does.Return ∷ []

abbrev pub program : Limits → Plain
program limits =
    record {
      limits = limits;
      names = record { members = (codes "a" ∷ []) ∷ []; labels = []; ranges = [] };
      consts = void ∷ [];
      bodies = (record { start = 0; called = Called.Hook false; takes = 0; fresh = []; name = codes "M::U::%done"; told = 0 }) ∷ [];
      units = (record { start = 4; ending = 9; failing = 10; keeps = false; takes = 0; members = 1; fresh = unit_slots }) ∷ [];
      code = code;
    }

abbrev in_body : Shape
in_body = body_shape (Some 0) (OfHook false) []

abbrev in_unit : Shape
in_unit = unit_shape 0 OfUnit

abbrev starting : Shape
starting = body_shape None (OfFunction (UnitOf 0)) []

abbrev pub unit_kinds : UnitKinds
unit_kinds = record { parameters = []; members = Unsigned ∷ []; locals = slot_kinds }

abbrev pub shapes : Shapes
shapes =
    record {
      at = in_body ∷ push Void in_body ∷ in_body ∷ push Void in_body ∷ in_unit ∷ push Unsigned in_unit ∷ push (UnitOf 0) (push Unsigned in_unit) ∷ in_unit ∷ in_unit ∷ unit_shape 0 OfEnding ∷ unit_shape 0 OfFailing ∷ starting ∷ push (UnitOf 0) starting ∷ [];
      units = unit_kinds ∷ [];
      bodies = (record { locals = [] }) ∷ [];
    }
