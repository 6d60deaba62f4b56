-- A program that has a unit with a body of `%done` and its starter, so that the laws speak of it; what the unit means on fronts of an
-- input, and what the machine has told where it stops there.
use Rattle.std.specs.Prelude.{◌≡◌, ℕ, zero, suc, Bool, true, false, List, [], ◌∷◌, ◌++◌, Some, None, refl, slice_get, unwrap_or}
use Rattle.std.proofs.Common.{subst, ap, arith}
use Rattle.sp_base.specs.declared.places.Span.{Span}
use Rattle.sp_base.specs.Input.{Close, held_open, ended}
use Rattle.sp_base.specs.declared.kinds.PKind.TheVariants as error_is
use Rattle.sp_numbers.specs.declared.width.Width.TheVariants.{W8}
use Rattle.sp_words.specs.declared.words.HookName.TheVariants as hook_name
use Rattle.sp_events.specs.declared.event.What.{What}
use Rattle.sp_value.specs.Val.{void, unit}
use Rattle.sp_methods.specs.Kinds.{Void, Unsigned, UnitOf, Have}
use Rattle.sp_types.specs.declared.words.Word.TheVariants as word_is
use Rattle.sp_types.specs.Types.{Ty, word}
use Rattle.sp_typed.specs.declared.stmt_words.BareOp.TheVariants as bare_is
use Rattle.sp_typed.specs.Stmts.{bare}
use Rattle.sp_typed_units.specs.declared.declarations.Hook.{Hook}
use Rattle.sp_typed_units.specs.declared.declarations.HookOf.TheVariants as hook_of
use Rattle.sp_typed_units.specs.declared.declarations.MemberKind.TheVariants as member_is
use Rattle.sp_typed_units.specs.declared.declarations.Parameter.{Parameter}
use Rattle.sp_typed_units.specs.declared.declarations.Typed.{Typed}
use Rattle.sp_typed_units.specs.declared.declarations.Unit.{Unit as TypedUnit}
use Rattle.sp_typed_units.specs.declared.readings.ReadOp.TheVariants as read_is
use Rattle.sp_typed_units.specs.Specs.{read}
use Rattle.sp_typed_units.specs.Parts.{field}
use Rattle.sp_meaning_states.specs.States.{Reading, Gives, Fine, Failed, Need, Unfinished, Result, Ends, error_at, first, state_of}
use Rattle.sp_meaning_states.specs.Reads.{Ask, Read, Verdict, NoToken, Match, reads}
use Rattle.sp_meaning_states.specs.Types.{kind_of_type}
use Rattle.sp_meaning.specs.Globals.{globals_of}
use Rattle.sp_code.specs.declared.instr.Instr.TheVariants as does
use Rattle.sp_code.specs.Machine.{Plain, Config, Next, Goes, Over, step}
use Rattle.sp_code.specs.Shapes.{UnitKinds, Shape, Shapes, OfUnit, OfEnding, OfFailing, OfFunction, OfHook, push, with_operands, body_shape}
use Rattle.sp_code_programs.specs.exprs.Marked.{mark, Shows}
use Rattle.sp_code_programs.specs.units.Bodies.{handed, hook_entry, HasHook, HasBodies}
use Rattle.sp_code_programs.specs.units.Units.{slot_kinds, unit_shape, unit_code, ending_code, failing_code, starter_kinds, starter_code, unit_entry, HasUnit, HasUnits}
use Rattle.sp_law_code.specs.units.Parts.{UnitIsCounted, UnitsAreCounted}
use Rattle.sp_law_code.specs.units.Fits.{UnitFits}
use Rattle.sp_law_code.specs.units.Keeps.{AreKindsOf}
use Rattle.sp_law_machine.specs.continues.Laws.{IsSteady}
use Rattle.sp_law_code.specs.bodies.Parts.{StmtIsCounted, BodiesAreCounted}
use Rattle.sp_law_programs.specs.unit_told.Told.{started, Starts, meant, MayEndUnit, told_end, Tells}

abbrev pub here : Span
here = record { from = 0; to = 0 }

abbrev pub byte : Ty
byte = word (word_is.Uint W8)

-- `type U = unit { a: uint8; on %done { return; } };`
abbrev pub one_field : TypedUnit
one_field =
    record {
      path = [];
      «module» = 0;
      span = here;
      public = true;
      parameters = [];
      members = (record { name = []; kind = member_is.Field; ty = byte }) ∷ [];
      variables = [];
      sinks = [];
      parts = field (record { span = here; member = Some 0; taken = false; ty = byte; spec = read (record { span = here; ty = byte; op = read_is.Int }); attributes = []; condition = None; sink = None; hooks = [] }) ∷ [];
      orders = [];
      filter = false;
      uses_input = false;
      connects_filter = false;
    }

abbrev pub hook : Hook
hook = record { «module» = 0; span = here; of = hook_of.Unit 0 hook_name.Done; fits = true; parameters = []; priority = None; rank = None; slots = []; body = bare (record { span = here; op = bare_is.Return }) }

abbrev pub list : Typed
list = record { units = one_field ∷ []; functions = []; hooks = hook ∷ []; constants = []; enums = []; bitfields = []; aliases = []; conversions = []; orders = [] }

-- the name of the hook, `D`
abbrev pub name : List ℕ
name = 68 ∷ []

-- the starter, the code of the hook, and that of the unit, of what is behind its parts, and of its failing
abbrev pub program : Plain
program =
    record {
      limits = record { turns = 4; depth = 3; fibers = 1 };
      names = record { members = []; labels = []; ranges = [] };
      consts = void ∷ [];
      bodies = hook_entry (globals_of list) 2 name hook ∷ [];
      units = unit_entry 6 11 12 one_field ∷ [];
      code = does.EnterUnit 0 ∷ does.Return ∷ does.Const 0 ∷ does.Return ∷ does.Const 0 ∷ does.Return ∷ does.ReadInt (record { width = W8; signed = false; little = false }) ∷ does.SelfUnit ∷ does.SetField 0 ∷ does.Hook 0 ∷ does.LeaveUnit ∷ does.LeaveUnit ∷ does.LeaveUnit ∷ [];
    }

has_hook : HasHook (globals_of list) program 0 name hook
has_hook = record { start = 2; shape = body_shape (Some 0) (OfHook false) []; listed = refl; stands = (does.Const 0, refl, (0, refl, refl), (does.Return, refl, refl, (does.Const 0, refl, (0, refl, refl), (does.Return, refl, refl, tt)))) }

abbrev pub names : List (List ℕ)
names = name ∷ []

hooks_of : (n : ℕ) (x : Hook) → slice_get list.hooks n ≡ Some x → HasHook (globals_of list) program n (unwrap_or (slice_get names n) []) x
hooks_of zero x e = subst (λ x. HasHook (globals_of list) program 0 name x) (ap (λ o. unwrap_or o hook) e) has_hook
hooks_of (suc n) x e = absurd (let q : None ≡ Some x = e in cc)

pub has_bodies : HasBodies program names list
has_bodies = record { functions = λ n x e. absurd (let q : None ≡ Some x = e in cc); hooks = λ n x e. subst (λ m. HasHook (globals_of list) program m (unwrap_or (slice_get names n) []) x) (omega arith) (hooks_of n x e) }

has_unit : HasUnit program list 0 one_field
has_unit =
    record {
      start = 6;
      ending = 11;
      failing = 12;
      listed = refl;
      parts_stand = (does.ReadInt (record { width = W8; signed = false; little = false }), refl, refl, (does.SelfUnit, refl, refl, (does.SetField 0, refl, refl, (does.Hook 0, refl, refl, (does.LeaveUnit, refl, refl, tt)))));
      ending_stands = (does.LeaveUnit, refl, refl, tt);
      failing_stands = (does.LeaveUnit, refl, refl, tt);
    }

pub has_units : HasUnits program list
has_units zero x e = subst (λ x. HasUnit program list 0 x) (ap (λ o. unwrap_or o one_field) e) has_unit
has_units (suc n) x e = absurd (let q : None ≡ Some x = e in cc)

takes_nothing : (x : Hook) → slice_get list.hooks 0 ≡ Some x → handed x ≡ 0
takes_nothing x e = subst (λ x. handed x ≡ 0) (ap (λ o. unwrap_or o hook) e) refl

counted_unit : UnitIsCounted program list 0 one_field
counted_unit = record { variables = tt; parts = (tt, tt); init = tt; done = (takes_nothing, tt); error = tt; finally = tt }

pub counted : UnitsAreCounted program list
counted zero x e = subst (λ x. UnitIsCounted program list 0 x) (ap (λ o. unwrap_or o one_field) e) counted_unit
counted (suc n) x e = absurd (let q : None ≡ Some x = e in cc)

bare_is_counted : (h : ℕ) (x : Hook) → slice_get list.hooks h ≡ Some x → StmtIsCounted program x.body
bare_is_counted zero x e = subst (λ x. StmtIsCounted program x.body) (ap (λ o. unwrap_or o hook) e) tt
bare_is_counted (suc n) x e = absurd (let q : None ≡ Some x = e in cc)

pub counted_bodies : BodiesAreCounted program list
counted_bodies = record { functions = λ f x e. absurd (let q : None ≡ Some x = e in cc); hooks = bare_is_counted }

-- the program starts the unit, which takes nothing
abbrev pub starts : Starts program names list 0 0 []
starts =
    record { bodies = has_bodies; bodies_are_counted = counted_bodies; units = has_units; units_are_counted = counted; unit = one_field; listed = refl; starter = (does.EnterUnit 0, refl, refl, (does.Return, refl, refl, tt)); taken = refl }

-- the last of two parameters is on top
the_last_is_on_top : (x y : Parameter)
    → starter_code list 0 (record one_field { parameters = x ∷ y ∷ [] })
    ≡ mark (with_operands (body_shape None (OfFunction (UnitOf 0)) []) (kind_of_type [] y.ty ∷ kind_of_type [] x.ty ∷ [])) (does.EnterUnit 0) ∷ mark (push (UnitOf 0) (body_shape None (OfFunction (UnitOf 0)) [])) does.Return ∷ []
the_last_is_on_top x y = refl

-- its shapes
abbrev pub byte_kinds : UnitKinds
byte_kinds = record { parameters = []; members = Unsigned ∷ []; locals = slot_kinds }

abbrev outside : Shape
outside = body_shape None (OfFunction (UnitOf 0)) []

abbrev in_hook : Shape
in_hook = body_shape (Some 0) (OfHook false) []

abbrev in_parts : Shape
in_parts = unit_shape 0 OfUnit

abbrev pub shapes : Shapes
shapes =
    record {
      at = outside ∷ push (UnitOf 0) outside ∷ in_hook ∷ push Void in_hook ∷ in_hook ∷ push Void in_hook ∷ in_parts ∷ push Unsigned in_parts ∷ push (UnitOf 0) (push Unsigned in_parts) ∷ in_parts ∷ in_parts ∷ unit_shape 0 OfEnding ∷ unit_shape 0 OfFailing ∷ [];
      units = byte_kinds ∷ [];
      bodies = (record { locals = [] }) ∷ [];
    }

-- its parts fit, its shapes are shown, and its starter takes what it takes
pub fits : UnitFits program shapes list 0 one_field
fits =
    record {
      begins = tt;
      variables = tt;
      parts = (((byte_kinds, refl, refl), tt), tt);
      init = tt;
      done = ((hook_entry (globals_of list) 2 name hook, record { locals = [] }, refl, refl, refl, record { others = []; takes = refl; locals = refl; fresh = λ units. tt }, refl), tt);
      error = tt;
      finally = tt;
    }

parts_show : Shows shapes.at 6 (unit_code list 6 0 one_field)
parts_show = (refl, (refl, (refl, (refl, (refl, tt)))))

ending_shows : Shows shapes.at 11 (ending_code list 0)
ending_shows = (refl, tt)

failing_shows : Shows shapes.at 12 (failing_code list 0)
failing_shows = (refl, tt)

starter_shows : Shows shapes.at 0 (starter_code list 0 one_field)
starter_shows = (refl, (refl, tt))

pub kinds : AreKindsOf one_field (starter_kinds list one_field) byte_kinds
kinds = record { takes = refl; parameters = refl; members = refl; locals = refl }

it_takes_nothing : Have [] (starter_kinds list one_field) []
it_takes_nothing = tt

-- sets of tokens that find none
abbrev pub none : ℕ → List ℕ → Bool → Verdict
none set w over = NoToken

pub none_is_steady : IsSteady none
none_is_steady = record { stays = λ set w t over told. refl; fits = λ set w over token n e. absurd (let q : NoToken ≡ Match token n = e in cc) }

-- what the unit means over these bytes
abbrev pub over : List ℕ → Close → Result
over s close = meant program names list (reads none s close) 3 0 []

it_waits : over [] held_open ≡ Ends (Need 0) [] (state_of (over [] held_open))
it_waits = refl

it_is_given : over (7 ∷ []) held_open ≡ Ends (Gives (unit 0)) (What.Hook name [] ∷ []) (state_of (over (7 ∷ []) held_open))
it_is_given = refl

more_changes_nothing : over (7 ∷ 8 ∷ []) ended ≡ over (7 ∷ []) held_open
more_changes_nothing = refl

it_is_too_short : over [] ended ≡ Ends (Failed (error_at error_is.Short first)) [] (state_of (over [] ended))
it_is_too_short = refl

-- what the machine tells in at most so many steps, and to what it comes
abbrev after_step : (Config → (List What) × Config) → Config → Next → (List What) × Config
after_step go c (Goes es d) = (es ++ (go d).0, (go d).1)
after_step go c x = ([], c)

abbrev ran : (Reading → Ask → Read) → ℕ → Config → (List What) × Config
ran reads zero c = ([], c)
ran reads (suc n) c = after_step (ran reads n) c (step program reads c)

-- it tells what is meant over these bytes
abbrev IsTold : List ℕ → Close → Type 0
IsTold s close = Tells program (reads none s close) (ran (reads none s close) 20 (started 0 [])).1 (ran (reads none s close) 20 (started 0 [])).0 (over s close)

the_wait_is_told : IsTold [] held_open
the_wait_is_told = record { events = refl; ends = refl; state = tt }

the_unit_is_told : IsTold (7 ∷ []) held_open
the_unit_is_told = record { events = refl; ends = refl; state = refl }

the_error_is_told : IsTold [] ended
the_error_is_told = record { events = refl; ends = refl; state = refl }

-- from where it waited it goes on with one byte more
the_rest_is_told : (ran (reads none (7 ∷ []) held_open) 20 (ran (reads none [] held_open) 20 (started 0 [])).1).0 ≡ What.Hook name [] ∷ []
the_rest_is_told = refl

-- what goes on tells no end, and neither does what is over but has no value
no_end_yet : told_end [] (Goes [] (started 0 [])) ≡ Unfinished
no_end_yet = refl

no_value : told_end [] (Over Fine first) ≡ Unfinished
no_value = refl

-- and no unit ends well without its instance
fine_is_no_end : MayEndUnit 0 Fine → ⊥
fine_is_no_end h = h
