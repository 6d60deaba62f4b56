-- A program that has a unit with a body of `%error`, so that the laws speak of it.
use Rattle.std.specs.Prelude.{◌≡◌, ℕ, zero, suc, pos, true, false, [], ◌∷◌, Some, None, refl, slice_get, unwrap_or}
use Rattle.std.proofs.Common.{subst, ap, arith}
use Rattle.sp_base.specs.declared.places.Span.{Span}
use Rattle.sp_numbers.specs.declared.width.Width.TheVariants.{W8, W64}
use Rattle.sp_words.specs.declared.words.HookName.TheVariants as hook_name
use Rattle.sp_value.specs.Val.{void}
use Rattle.sp_methods.specs.Kinds.{Void, Unsigned, UnitOf}
use Rattle.sp_types.specs.declared.words.Word.TheVariants as word_is
use Rattle.sp_types.specs.Types.{Ty, word}
use Rattle.sp_typed.specs.declared.stmt_words.BareOp.TheVariants as bare_is
use Rattle.sp_typed.specs.Stmts.{bare}
use Rattle.sp_typed_units.specs.declared.declarations.Hook.{Hook}
use Rattle.sp_typed_units.specs.declared.declarations.HookOf.TheVariants as hook_of
use Rattle.sp_typed_units.specs.declared.declarations.MemberKind.TheVariants as member_is
use Rattle.sp_typed_units.specs.declared.declarations.Typed.{Typed}
use Rattle.sp_typed_units.specs.declared.declarations.Unit.{Unit as TypedUnit}
use Rattle.sp_typed_units.specs.declared.readings.ReadOp.TheVariants as read_is
use Rattle.sp_typed_units.specs.Specs.{read}
use Rattle.sp_typed_units.specs.Parts.{field}
use Rattle.sp_meaning.specs.Globals.{globals_of}
use Rattle.sp_code.specs.declared.instr.IntForm.{IntForm}
use Rattle.sp_code.specs.declared.instr.Instr.{Instr}
use Rattle.sp_code.specs.declared.instr.Instr.TheVariants as does
use Rattle.sp_code.specs.Machine.{Plain}
use Rattle.sp_code.specs.Shapes.{UnitKinds, Shape, Shapes, OfUnit, OfEnding, OfFailing, OfFunction, OfHook, push, body_shape, Shown, Takes, Keeps, IsSound}
use Rattle.sp_code_programs.specs.exprs.Marked.{Shows}
use Rattle.sp_code_programs.specs.units.Bodies.{handed, hook_entry, HasHook, HasBodies}
use Rattle.sp_code_programs.specs.units.Units.{slot_kinds, unit_shape, unit_code, ending_code, failing_code, unit_entry, HasUnit, HasUnits}
use Rattle.sp_law_code.specs.units.Parts.{UnitIsCounted, UnitsAreCounted}
use Rattle.sp_law_code.specs.units.Fits.{UnitFits}
use Rattle.sp_law_code.specs.units.Keeps.{AreKindsOf}

abbrev here : Span
here = record { from = 0; to = 0 }

abbrev byte : Ty
byte = word (word_is.Uint W8)

-- `type U = unit { a: uint8; on %error { return; } };`
abbrev one_field : TypedUnit
one_field =
    record {
      path = [];
      «module» = 0;
      span = here;
      public = true;
      parameters = [];
      members = (record { name = []; kind = member_is.Field; ty = byte }) ∷ [];
      variables = [];
      sinks = [];
      parts = field (record { span = here; member = Some 0; taken = false; ty = byte; spec = read (record { span = here; ty = byte; op = read_is.Int }); attributes = []; condition = None; sink = None; hooks = [] }) ∷ [];
      orders = [];
      filter = false;
      uses_input = false;
      connects_filter = false;
    }

abbrev hook : Hook
hook = record { «module» = 0; span = here; of = hook_of.Unit 0 hook_name.Error; fits = true; parameters = []; priority = None; rank = None; slots = []; body = bare (record { span = here; op = bare_is.Return }) }

abbrev list : Typed
list = record { units = one_field ∷ []; functions = []; hooks = hook ∷ []; constants = []; enums = []; bitfields = []; aliases = []; conversions = []; orders = [] }

-- what enters the unit, the code of the hook, and that of the unit, of what is behind its parts, and of its failing
abbrev program : Plain
program =
    record {
      limits = record { turns = 4; depth = 3; fibers = 1 };
      names = record { members = []; labels = []; ranges = [] };
      consts = void ∷ [];
      bodies = hook_entry (globals_of list) 2 [] hook ∷ [];
      units = unit_entry 6 10 11 one_field ∷ [];
      code = does.EnterUnit 0 ∷ does.Return ∷ does.Const 0 ∷ does.Return ∷ does.Const 0 ∷ does.Return ∷ does.ReadInt (record { width = W8; signed = false; little = false }) ∷ does.SelfUnit ∷ does.SetField 0 ∷ does.LeaveUnit ∷ does.LeaveUnit ∷ does.Hook 0 ∷ does.LeaveUnit ∷ [];
    }

abbrev byte_form : IntForm
byte_form = record { width = W8; signed = false; little = false }

abbrev unit_kinds : UnitKinds
unit_kinds = record { parameters = []; members = Unsigned ∷ []; locals = slot_kinds }

abbrev outside : Shape
outside = body_shape None (OfFunction (UnitOf 0)) []

abbrev in_hook : Shape
in_hook = body_shape (Some 0) (OfHook false) []

abbrev in_parts : Shape
in_parts = unit_shape 0 OfUnit

abbrev shapes : Shapes
shapes =
    record {
      at = outside ∷ push (UnitOf 0) outside ∷ in_hook ∷ push Void in_hook ∷ in_hook ∷ push Void in_hook ∷ in_parts ∷ push Unsigned in_parts ∷ push (UnitOf 0) (push Unsigned in_parts) ∷ in_parts ∷ unit_shape 0 OfEnding ∷ unit_shape 0 OfFailing ∷ unit_shape 0 OfFailing ∷ [];
      units = unit_kinds ∷ [];
      bodies = (record { locals = [] }) ∷ [];
    }

has_hook : HasHook (globals_of list) program 0 [] hook
has_hook = record { start = 2; shape = in_hook; listed = refl; stands = (does.Const 0, refl, (0, refl, refl), (does.Return, refl, refl, (does.Const 0, refl, (0, refl, refl), (does.Return, refl, refl, tt)))) }

hooks_of : (n : ℕ) (x : Hook) → slice_get list.hooks n ≡ Some x → HasHook (globals_of list) program n [] x
hooks_of zero x e = subst (λ x. HasHook (globals_of list) program 0 [] x) (ap (λ o. unwrap_or o hook) e) has_hook
hooks_of (suc n) x e = absurd (let q : None ≡ Some x = e in cc)

has_bodies : HasBodies program [] list
has_bodies = record { functions = λ n x e. absurd (let q : None ≡ Some x = e in cc); hooks = λ n x e. subst (λ m. HasHook (globals_of list) program m [] x) (omega arith) (hooks_of n x e) }

has_unit : HasUnit program list 0 one_field
has_unit =
    record {
      start = 6;
      ending = 10;
      failing = 11;
      listed = refl;
      parts_stand = (does.ReadInt (record { width = W8; signed = false; little = false }), refl, refl, (does.SelfUnit, refl, refl, (does.SetField 0, refl, refl, (does.LeaveUnit, refl, refl, tt))));
      ending_stands = (does.LeaveUnit, refl, refl, tt);
      failing_stands = (does.Hook 0, refl, refl, (does.LeaveUnit, refl, refl, tt));
    }

has_units : HasUnits program list
has_units zero x e = subst (λ x. HasUnit program list 0 x) (ap (λ o. unwrap_or o one_field) e) has_unit
has_units (suc n) x e = absurd (let q : None ≡ Some x = e in cc)

takes_nothing : (x : Hook) → slice_get list.hooks 0 ≡ Some x → handed x ≡ 0
takes_nothing x e = subst (λ x. handed x ≡ 0) (ap (λ o. unwrap_or o hook) e) refl

counted_unit : UnitIsCounted program list 0 one_field
counted_unit = record { variables = tt; parts = (tt, tt); init = tt; done = tt; error = (takes_nothing, tt); finally = tt }

counted : UnitsAreCounted program list
counted zero x e = subst (λ x. UnitIsCounted program list 0 x) (ap (λ o. unwrap_or o one_field) e) counted_unit
counted (suc n) x e = absurd (let q : None ≡ Some x = e in cc)

-- its parts fit, and its shapes are shown
fits : UnitFits program shapes list 0 one_field
fits =
    record {
      begins = tt;
      variables = tt;
      parts = (((unit_kinds, refl, refl), tt), tt);
      init = tt;
      done = tt;
      error = ((hook_entry (globals_of list) 2 [] hook, record { locals = [] }, refl, refl, refl, record { others = []; takes = refl; locals = refl; fresh = λ units. tt }, refl), tt);
      finally = tt;
    }

parts_show : Shows shapes.at 6 (unit_code list 6 0 one_field)
parts_show = (refl, (refl, (refl, (refl, tt))))

ending_shows : Shows shapes.at 10 (ending_code list 0)
ending_shows = (refl, tt)

failing_shows : Shows shapes.at 11 (failing_code list 0)
failing_shows = (refl, (refl, tt))

-- and it can be entered
kinds : AreKindsOf one_field [] unit_kinds
kinds = record { takes = refl; parameters = refl; members = refl; locals = refl }

entering : Takes program shapes 0 outside [] (UnitOf 0 ∷ [])
entering = ([], refl, refl)

-- The whole program is sound: so the laws on steps of sound code speak of units, of what is behind their parts, and of their failing.
one_address : (pc : ℕ) (i : Instr) (s : Shape) → Keeps program shapes i pc s → (j : Instr) (t : Shape) → Some i ≡ Some j → Some s ≡ Some t → Keeps program shapes j pc t
one_address pc i s h j t e f = subst (λ t. Keeps program shapes j pc t) (ap (λ o. unwrap_or o s) f) (subst (λ j. Keeps program shapes j pc s) (ap (λ o. unwrap_or o i) e) h)

keeps : (pc : ℕ) (i : Instr) (s : Shape) → slice_get program.code pc ≡ Some i → Shown program shapes pc s → Keeps program shapes i pc s
keeps zero i s e f = one_address 0 (does.EnterUnit 0) outside (unit_entry 6 10 11 one_field, unit_kinds, [], refl, refl, record { takes = refl; parameters = refl; members = refl; fresh = λ units. ((W64, 0, refl), ((W64, 0, refl), ((W64, pos 0, refl), tt))) }, refl, refl, refl, ([], refl, refl)) i s e f
keeps (suc zero) i s e f = one_address 1 does.Return (push (UnitOf 0) outside) (UnitOf 0, [], refl, refl, refl) i s e f
keeps (suc (suc zero)) i s e f = one_address 2 (does.Const 0) in_hook (void, Void, refl, (λ units. refl), refl) i s e f
keeps (suc (suc (suc zero))) i s e f = one_address 3 does.Return (push Void in_hook) (Void, [], refl, tt, refl) i s e f
keeps (suc (suc (suc (suc zero)))) i s e f = one_address 4 (does.Const 0) in_hook (void, Void, refl, (λ units. refl), refl) i s e f
keeps (suc (suc (suc (suc (suc zero))))) i s e f = one_address 5 does.Return (push Void in_hook) (Void, [], refl, tt, refl) i s e f
keeps (suc (suc (suc (suc (suc (suc zero)))))) i s e f = one_address 6 (does.ReadInt byte_form) in_parts refl i s e f
keeps (suc (suc (suc (suc (suc (suc (suc zero))))))) i s e f = one_address 7 does.SelfUnit (push Unsigned in_parts) (0, refl, refl) i s e f
keeps (suc (suc (suc (suc (suc (suc (suc (suc zero)))))))) i s e f = one_address 8 (does.SetField 0) (push (UnitOf 0) (push Unsigned in_parts)) (0, Unsigned, (unit_kinds, refl, refl), ([], refl, refl)) i s e f
keeps (suc (suc (suc (suc (suc (suc (suc (suc (suc zero))))))))) i s e f = one_address 9 does.LeaveUnit in_parts (tt, refl) i s e f
keeps (suc (suc (suc (suc (suc (suc (suc (suc (suc (suc zero)))))))))) i s e f = one_address 10 does.LeaveUnit (unit_shape 0 OfEnding) (tt, refl) i s e f
keeps (suc (suc (suc (suc (suc (suc (suc (suc (suc (suc (suc zero))))))))))) i s e f = one_address 11 (does.Hook 0) (unit_shape 0 OfFailing) ([], false, (hook_entry (globals_of list) 2 [] hook, record { locals = [] }, refl, refl, refl, record { others = []; takes = refl; locals = refl; fresh = λ units. tt }, refl), ([], refl, refl)) i s e f
keeps (suc (suc (suc (suc (suc (suc (suc (suc (suc (suc (suc (suc zero)))))))))))) i s e f = one_address 12 does.LeaveUnit (unit_shape 0 OfFailing) (tt, refl) i s e f
keeps (suc (suc (suc (suc (suc (suc (suc (suc (suc (suc (suc (suc (suc pc))))))))))))) i s e f = absurd (let q : None ≡ Some i = e in cc)

within : (pc : ℕ) (s : Shape) → Shown program shapes pc s → (i : Instr) × (slice_get program.code pc ≡ Some i)
within zero s f = (does.EnterUnit 0, refl)
within (suc zero) s f = (does.Return, refl)
within (suc (suc zero)) s f = (does.Const 0, refl)
within (suc (suc (suc zero))) s f = (does.Return, refl)
within (suc (suc (suc (suc zero)))) s f = (does.Const 0, refl)
within (suc (suc (suc (suc (suc zero))))) s f = (does.Return, refl)
within (suc (suc (suc (suc (suc (suc zero)))))) s f = (does.ReadInt byte_form, refl)
within (suc (suc (suc (suc (suc (suc (suc zero))))))) s f = (does.SelfUnit, refl)
within (suc (suc (suc (suc (suc (suc (suc (suc zero)))))))) s f = (does.SetField 0, refl)
within (suc (suc (suc (suc (suc (suc (suc (suc (suc zero))))))))) s f = (does.LeaveUnit, refl)
within (suc (suc (suc (suc (suc (suc (suc (suc (suc (suc zero)))))))))) s f = (does.LeaveUnit, refl)
within (suc (suc (suc (suc (suc (suc (suc (suc (suc (suc (suc zero))))))))))) s f = (does.Hook 0, refl)
within (suc (suc (suc (suc (suc (suc (suc (suc (suc (suc (suc (suc zero)))))))))))) s f = (does.LeaveUnit, refl)
within (suc (suc (suc (suc (suc (suc (suc (suc (suc (suc (suc (suc (suc pc))))))))))))) s f = absurd (let q : None ≡ Some s = f in cc)

sound : IsSound program shapes
sound = record { within = within; keeps = keeps }
