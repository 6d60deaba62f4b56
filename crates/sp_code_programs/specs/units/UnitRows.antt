-- Rows on which the meaning of a unit, the same in the text of code, and the run of its code are computed: what all tell, and how they end.
use Rattle.std.specs.Prelude.{◌≡◌, ℕ, ◌+◌, pos, neg_ℤ, true, false, List, [], ◌∷◌, ◌++◌, length, Option, Some, None, refl}
use Rattle.sp_base.specs.Input.{Close, held_open, ended}
use Rattle.sp_base.specs.declared.kinds.PKind.TheVariants as error_is
use Rattle.sp_numbers.specs.declared.width.Width.TheVariants.{W16}
use Rattle.sp_words.specs.declared.words.AttributeName.TheVariants.{ByteOrder}
use Rattle.sp_words.specs.declared.words.HookName.{HookName}
use Rattle.sp_words.specs.declared.words.HookName.TheVariants as hook_name
use Rattle.sp_events.specs.declared.event.What.{What}
use Rattle.sp_events.specs.Tree as told
use Rattle.sp_value.specs.Val.{unit}
use Rattle.sp_types.specs.declared.words.Word.TheVariants as word_is
use Rattle.sp_types.specs.Types.{Ty, word}
use Rattle.sp_typed.specs.declared.words.LeafOp.TheVariants as leaf_is
use Rattle.sp_typed.specs.declared.words.Standing.TheVariants.{Meant}
use Rattle.sp_typed.specs.declared.words.ManyOp.TheVariants as many_is
use Rattle.sp_typed.specs.declared.words.UnitMethod.TheVariants as unit_method
use Rattle.sp_typed.specs.declared.stmt_words.ValuedOp.TheVariants as valued_is
use Rattle.sp_typed.specs.Exprs.{Expr, many, exprs}
use Rattle.sp_typed.specs.Stmts.{Stmt, while_loop}
use Rattle.sp_typed_units.specs.declared.attributes.Attribute.{Attribute}
use Rattle.sp_typed_units.specs.declared.declarations.Hook.{Hook}
use Rattle.sp_typed_units.specs.declared.declarations.HookOf.TheVariants as hook_of
use Rattle.sp_typed_units.specs.declared.declarations.Member.{Member}
use Rattle.sp_typed_units.specs.declared.declarations.MemberKind.{MemberKind}
use Rattle.sp_typed_units.specs.declared.declarations.MemberKind.TheVariants as member_is
use Rattle.sp_typed_units.specs.declared.declarations.OrderProperty.{OrderProperty}
use Rattle.sp_typed_units.specs.declared.declarations.Typed.{Typed}
use Rattle.sp_typed_units.specs.declared.declarations.Unit.{Unit as TypedUnit}
use Rattle.sp_typed_units.specs.declared.declarations.Variable.{Variable}
use Rattle.sp_typed_units.specs.declared.readings.ReadOp.TheVariants as read_is
use Rattle.sp_typed_units.specs.Specs.{read}
use Rattle.sp_typed_units.specs.Parts.{Part, field}
use Rattle.sp_meaning_states.specs.States.{Main, State}
use Rattle.sp_code_meaning.specs.Units as laid
use Rattle.sp_meaning.specs.Units.{unit_means}
use Rattle.sp_code.specs.declared.instr.Instr.TheVariants as does
use Rattle.sp_code.specs.Machine.{Plain, At, step}
use Rattle.sp_code_programs.specs.units.Units.{unit_code, ending_code, failing_code, unit_entry}
use Rattle.sp_code_programs.specs.units.Rows.{here, byte, boolean, nothing, leaf_of, number, truth, valued_by, printed, both, hook, names, limits, reading, Stand, Done, Odd, Waiting, Fails, told_of, placed, constants, hooks_code, hook_codes, drive, says}
use Rattle.sp_code_programs.specs.units.Rows as rows

abbrev short : Ty
short = word (word_is.Uint W16)

abbrev little : Attribute
little = record { span = here; name = ByteOrder; value = None; number = Some 0; bytes = None }

-- a field of a type, by its member
abbrev read_as : Ty → List Attribute → Option ℕ → List ℕ → Part
read_as t attributes member hooks =
    field (record { span = here; member = member; taken = false; ty = t; spec = read (record { span = here; ty = t; op = read_is.Int }); attributes = attributes; condition = None; sink = None; hooks = hooks })

abbrev member : MemberKind → Ty → Member
member kind t = record { name = []; kind = kind; ty = t }

-- the offset and `$$` of a field
abbrev offset : Expr
offset = many (record { span = here; ty = byte; op = many_is.OfUnit unit_method.Offset here }) (exprs (rows.itself ∷ []))

abbrev value : Ty → Expr
value t = leaf_of t (leaf_is.Current Meant)

-- a unit whose parts are these, with variables of bytes behind two fields
abbrev unit_of : List Variable → List Part → TypedUnit
unit_of variables ps =
    record {
      path = [];
      «module» = 0;
      span = here;
      public = true;
      parameters = [];
      members = member member_is.Field byte ∷ member member_is.Field short ∷ member member_is.Variable byte ∷ member member_is.Variable byte ∷ [];
      variables = variables;
      sinks = [];
      parts = ps;
      orders = [];
      filter = false;
      uses_input = false;
      connects_filter = false;
    }

abbrev listed : TypedUnit → List Hook → Typed
listed x hooks = record { units = x ∷ []; functions = []; hooks = hooks; constants = []; enums = []; bitfields = []; aliases = []; conversions = []; orders = [] }

-- its code behind that of its hooks, in a program that enters it
abbrev lowered : TypedUnit → List Hook → Plain
lowered x hooks =
    let list = listed x hooks in
    let bodies = hooks_code list 2 hooks in
    let start = 2 + length bodies in
    let parts = unit_code list start 0 x in
    let ending = start + length parts in
    let behind = ending_code list 0 in
    let failing = ending + length behind in
    let ms = bodies ++ (parts ++ (behind ++ failing_code list 0)) in
    record { limits = limits; names = names; consts = constants ms; bodies = hook_codes list 2 hooks; units = unit_entry start ending failing x ∷ []; code = does.EnterUnit 0 ∷ does.Return ∷ placed 0 ms }

-- nothing was read yet
abbrev begin : State
begin = record { instances = []; self = 0; locals = []; now = record { source = Main; place = 0; high = 0; count = 0; views = [] }; outer = []; level = 0; stamps = 0; depth = 0; tries = false; move = None }

-- the meaning of a unit over these bytes, and what its code does
abbrev meant : TypedUnit → List Hook → List ℕ → Close → (List What) × Stand
meant x hooks s close = told_of (unit_means names [] (listed x hooks) limits (reading s close) 30 0 [] begin)

abbrev also_meant : TypedUnit → List Hook → List ℕ → Close → (List What) × Stand
also_meant x hooks s close = told_of (laid.unit_means names [] (listed x hooks) limits (reading s close) 30 0 [] begin)

abbrev ran : TypedUnit → List Hook → List ℕ → Close → (List What) × Stand
ran x hooks s close = drive (step (lowered x hooks) (reading s close)) 200 [] (At 0 [] [] begin)

-- all are this
abbrev Tell : TypedUnit → List Hook → List ℕ → Close → List What → Stand → Type 0
Tell x hooks s close es how = (meant x hooks s close ≡ (es, how)) × (also_meant x hooks s close ≡ (es, how)) × (ran x hooks s close ≡ (es, how))

-- `a: uint8 { .. } b: uint16;` with hooks of the unit
abbrev two : TypedUnit
two = unit_of [] (read_as byte [] (Some 0) (0 ∷ []) ∷ read_as short [] (Some 1) [] ∷ [])

abbrev of_field : Stmt → Hook
of_field s = hook (hook_of.Field 0 0) None s

abbrev of_unit : HookName → Stmt → Hook
of_unit name s = hook (hook_of.Unit 0 name) None s

abbrev first_of_unit : HookName → Stmt → Hook
first_of_unit name s = hook (hook_of.Unit 0 name) (Some (pos 1)) s

-- what a body of the field's hook tells, and one of the unit's
abbrev begins_field : ℕ → What
begins_field n = What.Hook [] (told.uint n ∷ [])

abbrev begins : What
begins = What.Hook [] []

-- `on a { print $$; } on %done { print self.b; }`
abbrev telling : List Hook
telling = of_field (printed (value byte ∷ [])) ∷ of_unit hook_name.Done (printed (rows.field 1 ∷ [])) ∷ []

whole : Tell two telling (5 ∷ 1 ∷ 2 ∷ []) held_open (begins_field 5 ∷ says (5 ∷ []) ∷ begins ∷ says (258 ∷ []) ∷ []) (Done (unit 0))
whole = (refl, refl, refl)

too_short : Tell two telling (5 ∷ 1 ∷ []) ended (begins_field 5 ∷ says (5 ∷ []) ∷ []) (Fails error_is.Short None 1)
too_short = (refl, refl, refl)

waits : Tell two telling (5 ∷ 1 ∷ []) held_open (begins_field 5 ∷ says (5 ∷ []) ∷ []) (Waiting 1)
waits = (refl, refl, refl)

-- `on a { assert False; } on %error { print 1; } on %finally { print 2; }`
abbrev wrong : Stmt
wrong = valued_by (valued_is.Assert None) (truth leaf_is.False)

abbrev prints : ℕ → Stmt
prints n = printed (number n ∷ [])

abbrev failing : List Hook
failing = of_field wrong ∷ of_unit hook_name.Error (prints 1) ∷ of_unit hook_name.Finally (prints 2) ∷ []

failed : Tell two failing (5 ∷ []) held_open (begins_field 5 ∷ begins ∷ says (1 ∷ []) ∷ begins ∷ says (2 ∷ []) ∷ []) (Fails error_is.Assert None 1)
failed = (refl, refl, refl)

-- an error of a field does the same
ended_early : Tell two (of_field (prints 0) ∷ of_unit hook_name.Error (prints 1) ∷ of_unit hook_name.Finally (prints 2) ∷ []) (5 ∷ []) ended (begins_field 5 ∷ says (0 ∷ []) ∷ begins ∷ says (1 ∷ []) ∷ begins ∷ says (2 ∷ []) ∷ []) (Fails error_is.Short None 1)
ended_early = (refl, refl, refl)

-- the later body of `%error`, and `%finally`, run though the first body fails
abbrev failing_twice : List Hook
failing_twice = of_field (prints 0) ∷ first_of_unit hook_name.Error (both (prints 1 ∷ wrong ∷ prints 9 ∷ [])) ∷ of_unit hook_name.Error (prints 3) ∷ of_unit hook_name.Finally (prints 2) ∷ []

dropped : Tell two failing_twice [] ended (begins ∷ says (1 ∷ []) ∷ begins ∷ says (3 ∷ []) ∷ begins ∷ says (2 ∷ []) ∷ []) (Fails error_is.Short None 0)
dropped = (refl, refl, refl)

-- an error in `%finally` behind a good end runs no further hook
abbrev failing_last : List Hook
failing_last = of_field (prints 0) ∷ of_unit hook_name.Error (prints 1) ∷ first_of_unit hook_name.Finally wrong ∷ of_unit hook_name.Finally (prints 2) ∷ []

failed_last : Tell two failing_last (5 ∷ 1 ∷ 2 ∷ []) held_open (begins_field 5 ∷ says (0 ∷ []) ∷ begins ∷ []) (Fails error_is.Assert None 3)
failed_last = (refl, refl, refl)

-- one turn too many ends the run without a hook, also in `%error`
abbrev endless : Stmt
endless = while_loop (truth leaf_is.True) (both [])

no_hook_runs : Tell two (of_field endless ∷ of_unit hook_name.Error (prints 1) ∷ []) (5 ∷ []) held_open (begins_field 5 ∷ []) (Fails error_is.Turns None 1)
no_hook_runs = (refl, refl, refl)

nor_behind_an_error : Tell two (of_field wrong ∷ of_unit hook_name.Error endless ∷ of_unit hook_name.Finally (prints 2) ∷ []) (5 ∷ []) held_open (begins_field 5 ∷ begins ∷ []) (Fails error_is.Turns None 1)
nor_behind_an_error = (refl, refl, refl)

-- An anonymous field with a sign, whose first byte counts least, with `{ print self.offset(), $$; }`, behind a field without a hook. Of
-- the two variables the first reads the second before that has its own value.
abbrev signed : Ty
signed = word (word_is.Int W16)

abbrev minus_two : told.TreeData
minus_two = told.int (neg_ℤ (pos 2))

abbrev variable : ℕ → Expr → Variable
variable m e = record { member = m; span = here; written = record { span = here; unnamed = None; misplaced = None }; taken = false; value = Some e }

abbrev counted : TypedUnit
counted = unit_of (variable 2 (rows.field 3) ∷ variable 3 (number 8) ∷ []) (read_as byte [] (Some 0) [] ∷ read_as signed (little ∷ []) None (0 ∷ []) ∷ [])

abbrev counting : List Hook
counting = hook (hook_of.Anonymous 0) None (printed (offset ∷ value signed ∷ [])) ∷ of_unit hook_name.Init (printed (rows.field 2 ∷ rows.field 3 ∷ [])) ∷ []

all_kept : Tell counted counting (5 ∷ 254 ∷ 255 ∷ []) held_open (begins ∷ says (0 ∷ 8 ∷ []) ∷ What.Hook [] (minus_two ∷ []) ∷ What.Print (told.uint 1 ∷ minus_two ∷ []) ∷ []) (Done (unit 0))
all_kept = (refl, refl, refl)

-- `%byte-order = spicy::ByteOrder::Little;` in the unit; and a unit without one in a module that has it
abbrev little_property : OrderProperty
little_property = record { «module» = 0; value = number 0; number = Some 0 }

abbrev as_number : List Hook
as_number = hook (hook_of.Field 0 1) None (printed (value short ∷ [])) ∷ []

abbrev short_alone : TypedUnit
short_alone = unit_of [] (read_as short [] (Some 1) (0 ∷ []) ∷ [])

order_of_unit : Tell (record short_alone { orders = little_property ∷ [] }) as_number (1 ∷ 2 ∷ []) held_open (begins_field 513 ∷ says (513 ∷ []) ∷ []) (Done (unit 0))
order_of_unit = (refl, refl, refl)

order_of_module : (told_of (unit_means names [] (record (listed short_alone as_number) { orders = little_property ∷ [] }) limits (reading (1 ∷ 2 ∷ []) held_open) 30 0 [] begin)).0 ≡ begins_field 513 ∷ says (513 ∷ []) ∷ []
order_of_module = refl

order_of_network : Tell short_alone as_number (1 ∷ 2 ∷ []) held_open (begins_field 258 ∷ says (258 ∷ []) ∷ []) (Done (unit 0))
order_of_network = (refl, refl, refl)

-- a unit that uses its input still needs its start where it waits
start_is_needed : meant (record two { uses_input = true }) telling (5 ∷ []) held_open ≡ (begins_field 5 ∷ says (5 ∷ []) ∷ [], Waiting 0)
start_is_needed = refl

-- a unit with a part of another kind claims nothing
abbrev with_condition : Part
with_condition =
    field (record { span = here; member = None; taken = false; ty = byte; spec = read (record { span = here; ty = byte; op = read_is.Int }); attributes = []; condition = Some (truth leaf_is.True); sink = None; hooks = [] })

unfinished : (meant (unit_of [] (with_condition ∷ [])) [] (5 ∷ []) held_open).1 ≡ Odd
unfinished = refl
