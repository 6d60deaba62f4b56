-- A list that fits in its program, so that the laws speak of it, and what doesn't fit.
use Rattle.std.specs.Prelude.{◌≡◌, ℕ, zero, suc, true, false, [], ◌∷◌, Some, None, codes, refl, slice_get, unwrap_or}
use Rattle.std.proofs.Common.{subst, ap, ◌∙◌, arith}
use Rattle.sp_numbers.specs.declared.width.Width.TheVariants.{W8}
use Rattle.sp_words.specs.declared.words.HookName.{HookName}
use Rattle.sp_value.specs.Val.{uint}
use Rattle.sp_methods.specs.Kinds.{Bytes, Unsigned}
use Rattle.sp_typed_units.specs.declared.declarations.Function.{Function}
use Rattle.sp_typed_units.specs.declared.declarations.Hook.{Hook}
use Rattle.sp_typed_units.specs.declared.declarations.MemberKind.TheVariants as member_is
use Rattle.sp_typed_units.specs.declared.declarations.Unit.{Unit as TypedUnit}
use Rattle.sp_meaning_states.specs.Scopes.{Called}
use Rattle.sp_meaning.specs.Hooks.{has_current, is_of_unit}
use Rattle.sp_meaning.specs.Globals.{globals_of}
use Rattle.sp_code.specs.Shapes.{OfFunction, Enters, Shaped, IsSound}
use Rattle.sp_code.specs.Turns.{Turns}
use Rattle.sp_code_programs.specs.exprs.Code.{kind_at}
use Rattle.sp_code_programs.specs.programs.Routines.{hook_unit}
use Rattle.sp_code_programs.specs.programs.Currents.{currents_of}
use Rattle.sp_code_programs.specs.programs.Rows.{byte, same, seven}
use Rattle.sp_code_programs.specs.programs.WholeRows.{with_hook, with_parameter, told_byte, whole_list, whole_program, whole_shapes, it_is_the_program}
use Rattle.sp_law_programs.specs.program_laid.Fits.{FunctionFits, HookFits}
use Rattle.sp_law_programs.specs.program_laid.Places.{StmtChangesPlaces}
use Rattle.sp_law_meaning.specs.Standing.{StmtStands}
use Rattle.sp_law_programs.specs.unit_told.Told.{started, Starts}
use Rattle.sp_law_programs.specs.whole_program.Fits.{IsOfField, IsOfValue, UnitFits, ListFits}
use Rattle.sp_law_programs.specs.whole_program.Laws.{FittingProgramsAreSound, FittingProgramsStart}

-- bodies
abbrev InFunction : Function → Type 0
InFunction x = FunctionFits whole_program whole_shapes (globals_of whole_list) x

abbrev InHook : Hook → Type 0
InHook x = HookFits whole_program whole_shapes (globals_of whole_list) Unsigned x

same_enters : Enters whole_program whole_shapes 0 None Called.Function (OfFunction Unsigned) (Unsigned ∷ [])
same_enters = (_, _, refl, refl, refl, record { others = []; takes = refl; locals = refl; fresh = λ units. tt }, refl)

same_fits : InFunction same
same_fits = (refl, refl)

seven_fits : InFunction seven
seven_fits = ((refl, (((λ units. (W8, 7, refl)), tt), same_enters), refl), ((refl, refl), tt))

told_fits : InHook told_byte
told_fits = (refl, tt)

functions_fit : (n : ℕ) (x : Function) → slice_get whole_list.functions n ≡ Some x → InFunction x
functions_fit zero x e = subst InFunction (ap (λ o. unwrap_or o same) e) same_fits
functions_fit (suc zero) x e = subst InFunction (ap (λ o. unwrap_or o seven) e) seven_fits
functions_fit (suc (suc n)) x e = absurd (let q : None ≡ Some x = e in cc)

hooks_fit : (n : ℕ) (x : Hook) → slice_get whole_list.hooks n ≡ Some x → HookFits whole_program whole_shapes (globals_of whole_list) (kind_at (currents_of whole_list) n) x
hooks_fit zero x e = subst InHook (ap (λ o. unwrap_or o told_byte) e) told_fits
hooks_fit (suc n) x e = absurd (let q : None ≡ Some x = e in cc)

functions_change : (n : ℕ) (x : Function) → slice_get whole_list.functions n ≡ Some x → StmtChangesPlaces x.body
functions_change zero x e = subst (λ x. StmtChangesPlaces x.body) (ap (λ o. unwrap_or o same) e) (tt, tt)
functions_change (suc zero) x e = subst (λ x. StmtChangesPlaces x.body) (ap (λ o. unwrap_or o seven) e) ((tt, tt, (tt, (tt, tt))), ((tt, tt), tt))
functions_change (suc (suc n)) x e = absurd (let q : None ≡ Some x = e in cc)

hooks_change : (n : ℕ) (x : Hook) → slice_get whole_list.hooks n ≡ Some x → StmtChangesPlaces x.body
hooks_change zero x e = subst (λ x. StmtChangesPlaces x.body) (ap (λ o. unwrap_or o told_byte) e) (tt, tt)
hooks_change (suc n) x e = absurd (let q : None ≡ Some x = e in cc)

functions_match : (n : ℕ) (x : Function) → slice_get whole_list.functions n ≡ Some x → StmtStands false whole_list.functions x.body
functions_match zero x e = subst (λ x. StmtStands false whole_list.functions x.body) (ap (λ o. unwrap_or o same) e) tt
functions_match (suc zero) x e = subst (λ x. StmtStands false whole_list.functions x.body) (ap (λ o. unwrap_or o seven) e) ((tt, ((same, refl, refl), (tt, tt))), (tt, tt))
functions_match (suc (suc n)) x e = absurd (let q : None ≡ Some x = e in cc)

hooks_match : (n : ℕ) (x : Hook) → slice_get whole_list.hooks n ≡ Some x → StmtStands (has_current x.of) whole_list.functions x.body
hooks_match zero x e = subst (λ x. StmtStands (has_current x.of) whole_list.functions x.body) (ap (λ o. unwrap_or o told_byte) e) (refl, tt)
hooks_match (suc n) x e = absurd (let q : None ≡ Some x = e in cc)

take_nothing : (n u : ℕ) (name : HookName) (x : Hook) → slice_get whole_list.hooks n ≡ Some x → is_of_unit u name x.of ≡ true → x.parameters ≡ []
take_nothing zero u name x e is = subst (λ (x : Hook). x.parameters ≡ []) (ap (λ o. unwrap_or o told_byte) e) refl
take_nothing (suc n) u name x e is = absurd (let q : None ≡ Some x = e in cc)

-- units: the body of the hook is one of the field
abbrev of_field : IsOfField whole_list 0 0
of_field = record { body = told_byte; listed = refl; unit = refl; current = refl }

of_value : IsOfValue whole_list Unsigned 0 0
of_value = record { is = of_field; once = refl; kind = refl }

abbrev InUnit : ℕ → TypedUnit → Type 0
InUnit u x = UnitFits whole_list whole_program whole_shapes u x

first_fits : InUnit 0 with_hook
first_fits = record { variables = tt; parts = (((of_field, tt), ((record { name = codes "f"; kind = member_is.Field; ty = byte }, refl, refl), (of_value, tt))), tt) }

second_fits : InUnit 1 with_parameter
second_fits = record { variables = tt; parts = ((tt, (tt, tt)), tt) }

units_fit : (n : ℕ) (x : TypedUnit) → slice_get whole_list.units n ≡ Some x → InUnit n x
units_fit zero x e = subst (λ x. InUnit 0 x) (ap (λ o. unwrap_or o with_hook) e) first_fits
units_fit (suc zero) x e = subst (λ x. InUnit 1 x) (ap (λ o. unwrap_or o with_parameter) e) second_fits
units_fit (suc (suc n)) x e = absurd (let q : None ≡ Some x = e in cc)

pub the_list_fits : ListFits whole_list whole_program whole_shapes
the_list_fits =
    record {
      bodies = record { functions = functions_fit; hooks = hooks_fit };
      places = record { functions = functions_change; hooks = hooks_change };
      arguments = record { functions = functions_match; hooks = hooks_match };
      events = take_nothing;
      units = units_fit;
    }

pub the_whole_is_sound : FittingProgramsAreSound → IsSound whole_program whole_shapes × Turns whole_program
the_whole_is_sound law = law whole_list whole_program whole_shapes it_is_the_program the_list_fits

-- the starter of the second unit takes one number
pub the_second_unit_starts : FittingProgramsStart → Starts whole_program (codes "M::U::f" ∷ []) whole_list 36 1 (uint W8 3 ∷ [])
the_second_unit_starts law = (law whole_list whole_program whole_shapes it_is_the_program the_list_fits 1 with_parameter refl (uint W8 3 ∷ [])).0 refl

pub its_shapes_begin : FittingProgramsStart → Shaped whole_program whole_shapes (started 36 (uint W8 3 ∷ []))
its_shapes_begin law = (law whole_list whole_program whole_shapes it_is_the_program the_list_fits 1 with_parameter refl (uint W8 3 ∷ [])).1 ((W8, 3, refl), tt)

-- the body is none of a field of the second unit, and its `$$` isn't of bytes
pub no_field_of_another_unit : IsOfField whole_list 1 0 → ⊥
no_field_of_another_unit is =
    let b : told_byte ≡ is.body = ap (λ o. unwrap_or o told_byte) is.listed in
    let q : 0 ≡ 1 = ap (λ o. unwrap_or o 0) (ap (λ (x : Hook). hook_unit x.of) b ∙ is.unit) in
    omega (arith, q)

pub no_value_of_bytes : IsOfValue whole_list Bytes 0 0 → ⊥
no_value_of_bytes v = absurd (let q : Unsigned ≡ Bytes = v.kind in cc)
