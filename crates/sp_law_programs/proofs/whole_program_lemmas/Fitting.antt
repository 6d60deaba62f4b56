-- Where a list fits, so do its units in its program, all values are counted, and each unit is started.
use Rattle.std.proofs.Common.{◌≡◌, ℕ, ◌+◌, Bool, true, false, List, [], ◌∷◌, length, reverse, Option, Some, None, refl, sym, ap, ◌∙◌, subst}
use Rattle.std.specs.Prelude.{slice_get, unwrap_or, if◌then◌else◌}
use Rattle.sp_words.specs.declared.words.HookName.{HookName}
use Rattle.sp_words.specs.declared.words.HookName.TheVariants.{Init, Done, Error, Finally}
use Rattle.sp_methods.specs.Kinds.{Kind, Unsigned, Has}
use Rattle.sp_typed.specs.Exprs.{Expr}
use Rattle.sp_typed_units.specs.declared.declarations.Hook.{Hook}
use Rattle.sp_typed_units.specs.declared.declarations.Parameter.{Parameter}
use Rattle.sp_typed_units.specs.declared.declarations.Typed.{Typed}
use Rattle.sp_typed_units.specs.declared.declarations.Unit.{Unit as TypedUnit}
use Rattle.sp_typed_units.specs.declared.declarations.Variable.{Variable}
use Rattle.sp_typed_units.specs.Parts.{Part, Parts, field, no_parts, more_parts, parts}
use Rattle.sp_meaning_states.specs.Scopes as called_is
use Rattle.sp_meaning_states.specs.Types.{kind_of_type}
use Rattle.sp_meaning.specs.Globals.{globals_of}
use Rattle.sp_meaning.specs.Hooks.{has_current, is_foreach, hook_bodies, is_of_unit}
use Rattle.sp_meaning.specs.Integers.{IntegerForm, integer_field, last_order, module_order}
use Rattle.sp_code_meaning.specs.Units.{unit_layout}
use Rattle.sp_meaning.specs.Units.{first_value}
use Rattle.sp_code.specs.Machine.{Plain}
use Rattle.sp_code.specs.Programs.{plain_of, shapes_of}
use Rattle.sp_code.specs.Shapes.{Shapes, OfHook, read_kind, IsMember, Enters}
use Rattle.sp_code_programs.specs.exprs.Code.{kind_of, kind_at}
use Rattle.sp_code_programs.specs.units.Bodies.{handed}
use Rattle.sp_code_programs.specs.units.Units.{member_kind}
use Rattle.sp_meaning.specs.Names.{hook_names_of}
use Rattle.sp_code_programs.specs.programs.Routines.{hook_unit, parameter_kinds, handed_kinds}
use Rattle.sp_code_programs.specs.programs.Currents.{currents_of}
use Rattle.sp_code_programs.specs.programs.Units.{kinds_of_unit}
use Rattle.sp_code_programs.specs.programs.Whole.{starter_at, behind_bodies, IsProgramOf}
use Rattle.sp_law_code.specs.bodies.Laws.{AllTake}
use Rattle.sp_law_code.specs.units.Parts.{ValueIsCounted, VariablesAreCounted, PartIsCounted, PartsAreCounted, HookTakesNothing, UnitIsCounted}
use Rattle.sp_law_code.specs.units.Fits as code_units
use Rattle.sp_law_programs.proofs.program_laid_lemmas.Enters.{laid_hooks_enter}
use Rattle.sp_law_programs.proofs.program_laid_lemmas.Turning.{fitting_bodies_keep_to_loops}
use Rattle.sp_law_programs.proofs.program_laid_lemmas.Counted.{expr_counted, laid_programs_count}
use Rattle.sp_law_programs.proofs.program_laid_lemmas.Zeros.{zero_has}
use Rattle.sp_law_programs.proofs.unit_told_lemmas.Kept.{started_keeps}
use Rattle.sp_law_programs.specs.whole_program.Fits.{IsOfValue, AreOfField, AreOfValue, HasMember, StoreFits, IntegerFits, PartFits, PartsFit, ValueFits, VariablesFit, ListFits}
use Rattle.sp_law_meaning.specs.Standing.{ValueStands, VariablesStand, AreHanded, PartStands, PartsStand, UnitStands, ListStands}
use Rattle.sp_law_programs.specs.whole_program.Laws.{ListedUnitsFit, ListedCallsCount, FittingProgramsAreSound, CompiledListsAreSound, FittingProgramsStart}
use Rattle.sp_law_programs.proofs.whole_program_lemmas.Tables.{member_among}
use Rattle.sp_law_programs.proofs.whole_program_lemmas.Listed.{AreListed, bodies_listed, of_unit}
use Rattle.sp_law_programs.proofs.whole_program_lemmas.Programs.{has_kinds, starter_shows, programs_have_bodies, programs_have_units, programs_have_starters, programs_are_sound, programs_turn}

module _ (list : Typed) (p : Plain) (shapes : Shapes) (is : IsProgramOf list p shapes) (fits : ListFits list p shapes) where
  abbrev ranges : List ℕ
  ranges = (globals_of list).ranges

  -- a body of a hook can be run in a unit with values of these kinds, the top first
  abbrev EntersAs : ℕ → Option ℕ → Bool → List Kind → Type 0
  EntersAs h u each ins = Enters p shapes (length list.functions + h) u (called_is.Called.Hook each) (OfHook each) ins

  enters : (h : ℕ) (x : Hook) → slice_get list.hooks h ≡ Some x → EntersAs h (hook_unit x.of) (is_foreach x.of) (reverse (handed_kinds ranges (kind_at (currents_of list) h) x))
  enters h x e = laid_hooks_enter p shapes (hook_names_of list) (currents_of list) list (behind_bodies list) is.laid h x e (fits.places.hooks h x e)

  -- what it is handed, the last on top, by whether it has a `$$`
  abbrev taken : Kind → List Parameter → Bool → List Kind
  taken current ps b = reverse (if b then current ∷ Unsigned ∷ [] else parameter_kinds ranges ps)

  -- one that is handed a value and its offset
  value_enters : (k : Kind) (u h : ℕ) → IsOfValue list k u h → EntersAs h (Some u) false (Unsigned ∷ k ∷ [])
  value_enters k u h v =
      let x = v.is.body in
      let current = kind_at (currents_of list) h in
      let ps = x.parameters in
      let in_unit : EntersAs h (Some u) (is_foreach x.of) (taken current ps (has_current x.of)) =
      subst (λ o. EntersAs h o (is_foreach x.of) (taken current ps (has_current x.of))) v.is.unit (enters h x v.is.listed) in
      let once : EntersAs h (Some u) false (taken current ps (has_current x.of)) = subst (λ b. EntersAs h (Some u) b (taken current ps (has_current x.of))) v.once in_unit in
      let with_value : EntersAs h (Some u) false (Unsigned ∷ current ∷ []) = subst (λ b. EntersAs h (Some u) false (taken current ps b)) v.is.current once in
      subst (λ k. EntersAs h (Some u) false (Unsigned ∷ k ∷ [])) v.kind with_value

  values_enter : (k : Kind) (u : ℕ) (hs : List ℕ) → AreOfValue list k u hs → code_units.BodiesFit p shapes list u (Unsigned ∷ k ∷ []) hs
  values_enter k u [] are = tt
  values_enter k u (h ∷ hs) are = (value_enters k u h are.0, values_enter k u hs are.1)

  -- one of a hook that each unit has, which is handed nothing
  event_enters : (u : ℕ) (name : HookName) (h : ℕ) (x : Hook) → slice_get list.hooks h ≡ Some x → is_of_unit u name x.of ≡ true → EntersAs h (Some u) false []
  event_enters u name h x listed e =
      let facts = of_unit u name x.of e in
      let current = kind_at (currents_of list) h in
      let ps = x.parameters in
      let in_unit : EntersAs h (Some u) (is_foreach x.of) (taken current ps (has_current x.of)) =
      subst (λ o. EntersAs h o (is_foreach x.of) (taken current ps (has_current x.of))) facts.0 (enters h x listed) in
      let once : EntersAs h (Some u) false (taken current ps (has_current x.of)) = subst (λ b. EntersAs h (Some u) b (taken current ps (has_current x.of))) facts.1 in_unit in
      let without_value : EntersAs h (Some u) false (taken current ps false) = subst (λ b. EntersAs h (Some u) false (taken current ps b)) facts.2 once in
      subst (λ ps. EntersAs h (Some u) false (taken current ps false)) (fits.events h u name x listed e) without_value

  events_enter : (u : ℕ) (name : HookName) (hs : List ℕ) → AreListed list.hooks (is_of_unit u name) hs → code_units.BodiesFit p shapes list u [] hs
  events_enter u name [] are = tt
  events_enter u name (h ∷ hs) are = (event_enters u name h are.0.0 are.0.1 are.0.2, events_enter u name hs are.1)

  event_fits : (u : ℕ) (name : HookName) → code_units.UnitHookFits p shapes list u name
  event_fits u name = events_enter u name (hook_bodies (is_of_unit u name) list.hooks) (bodies_listed list.hooks (is_of_unit u name))

  -- the unit of a number
  module _ (u : ℕ) (x : TypedUnit) (listed : slice_get list.units u ≡ Some x) where
    is_member : (m : ℕ) (k : Kind) → HasMember list x m k → IsMember p shapes u m k
    is_member m k h = (kinds_of_unit ranges x, has_kinds list p shapes is u x listed, member_among ranges x.members m h.0 h.1 ∙ ap (λ k. Some k) h.2)

    variables_begin : (vs : List Variable) → VariablesFit list p shapes u x vs → code_units.VariablesBegin p shapes list u x.members vs
    variables_begin [] f = tt
    variables_begin (v ∷ vs) f =
        let y = f.0.0 in
        let at : slice_get x.members v.member ≡ Some y = f.0.1 in (
          subst (λ o. IsMember p shapes u v.member (member_kind ranges o)) (sym at) (is_member v.member (kind_of_type ranges y.ty) (y, at, refl)),
          subst (λ o. (units : List ℕ) → Has units (member_kind ranges o) (first_value ranges o)) (sym at) (λ units. zero_has ranges units y.ty),
          variables_begin vs f.2,
        )

    value_fits : (m : ℕ) (value : Option Expr) → ValueFits list p shapes u x m value → code_units.ValueFits p shapes list u m value
    value_fits m (Some e) f = (f.0, is_member m (kind_of (globals_of list) unit_layout e) f.2)
    value_fits m None f = tt

    variables_fit : (vs : List Variable) → VariablesFit list p shapes u x vs → code_units.VariablesFit p shapes list u vs
    variables_fit [] f = tt
    variables_fit (v ∷ vs) f = (value_fits v.member v.value f.1, variables_fit vs f.2)

    store_fits : (member : Option ℕ) (k : Kind) → StoreFits list x member k → code_units.StoreFits p shapes list u member k
    store_fits (Some m) k f = is_member m k f
    store_fits None k f = tt

    integer_fits : (o : Option IntegerForm) (member : Option ℕ) (hs : List ℕ) → IntegerFits list u x o member hs → code_units.IntegerFits p shapes list u o member hs
    integer_fits (Some form) member hs f = (store_fits member (read_kind form.signed) f.0, values_enter (read_kind form.signed) u hs f.1)
    integer_fits None member hs f = tt

    part_fits : (o : Option ℕ) (part : Part) → PartFits list u x o part → code_units.PartFits p shapes list u o part
    part_fits o (field g) f = integer_fits (integer_field o g) g.member g.hooks f.1
    part_fits o _ f = tt

    parts_fit : (o : Option ℕ) (ps : Parts) → PartsFit list u x o ps → code_units.PartsFit p shapes list u o ps
    parts_fit o no_parts f = tt
    parts_fit o (more_parts part ps) f = (part_fits o part f.0, parts_fit o ps f.1)

    unit_fits : code_units.UnitFits p shapes list u x
    unit_fits =
        let f = fits.units u x listed in
        record {
          begins = variables_begin x.variables f.variables;
          variables = variables_fit x.variables f.variables;
          parts = parts_fit (last_order (module_order x.«module» None list.orders) x.orders) (parts x.parts) f.parts;
          init = event_fits u Init;
          done = event_fits u Done;
          error = event_fits u Error;
          finally = event_fits u Finally;
        }

    -- how many values are handed on
    value_counted : (m : ℕ) (value : Option Expr) → ValueFits list p shapes u x m value → ValueIsCounted p value
    value_counted m (Some e) f = expr_counted p (hook_names_of list) list (programs_have_bodies list p shapes is) false e f.1
    value_counted m None f = tt

    variables_counted : (vs : List Variable) → VariablesFit list p shapes u x vs → VariablesAreCounted p vs
    variables_counted [] f = tt
    variables_counted (v ∷ vs) f = (value_counted v.member v.value f.1, variables_counted vs f.2)

    hooks_take : (hs : List ℕ) → AreOfField list u hs → AllTake list 2 hs
    hooks_take [] are = tt
    hooks_take (h ∷ hs) are =
        let b = are.0.body in
        let two : handed b ≡ 2 = ap (λ c. if c then 2 else length b.parameters) are.0.current in
        ((λ y e. subst (λ y. handed y ≡ 2) (ap (λ o. unwrap_or o b) (sym are.0.listed ∙ e)) two), hooks_take hs are.1)

    part_counted : (o : Option ℕ) (part : Part) → PartFits list u x o part → PartIsCounted list part
    part_counted o (field g) f = hooks_take g.hooks f.0
    part_counted o _ f = tt

    parts_counted : (o : Option ℕ) (ps : Parts) → PartsFit list u x o ps → PartsAreCounted list ps
    parts_counted o no_parts f = tt
    parts_counted o (more_parts part ps) f = (part_counted o part f.0, parts_counted o ps f.1)

    events_take : (name : HookName) (hs : List ℕ) → AreListed list.hooks (is_of_unit u name) hs → AllTake list 0 hs
    events_take name [] are = tt
    events_take name (h ∷ hs) are =
        let b = are.0.0 in
        let facts = of_unit u name b.of are.0.2 in
        let none : handed b ≡ 0 = ap (λ c. if c then 2 else length b.parameters) facts.2 ∙ ap (λ (ps : List Parameter). length ps) (fits.events h u name b are.0.1 are.0.2) in
        ((λ y e. subst (λ y. handed y ≡ 0) (ap (λ o. unwrap_or o b) (sym are.0.1 ∙ e)) none), events_take name hs are.1)

    event_counted : (name : HookName) → HookTakesNothing list u name
    event_counted name = events_take name (hook_bodies (is_of_unit u name) list.hooks) (bodies_listed list.hooks (is_of_unit u name))

    unit_counted : UnitIsCounted p list u x
    unit_counted =
        let f = fits.units u x listed in
        record {
          variables = variables_counted x.variables f.variables;
          parts = parts_counted (last_order (module_order x.«module» None list.orders) x.orders) (parts x.parts) f.parts;
          init = event_counted Init;
          done = event_counted Done;
          error = event_counted Error;
          finally = event_counted Finally;
        }

    -- and what the meaning asks of it
    handed_so : (k : ℕ) (hs : List ℕ) → AllTake list k hs → AreHanded list k hs
    handed_so k [] take = tt
    handed_so k (h ∷ hs) take = (take.0, handed_so k hs take.1)

    value_stands : (m : ℕ) (value : Option Expr) → ValueFits list p shapes u x m value → ValueStands list.functions value
    value_stands m (Some e) f = f.1
    value_stands m None f = tt

    variables_stand : (vs : List Variable) → VariablesFit list p shapes u x vs → VariablesStand list.functions vs
    variables_stand [] f = tt
    variables_stand (v ∷ vs) f = (value_stands v.member v.value f.1, variables_stand vs f.2)

    part_stands : (o : Option ℕ) (part : Part) → PartFits list u x o part → PartStands list part
    part_stands o (field g) f = handed_so 2 g.hooks (hooks_take g.hooks f.0)
    part_stands o _ f = tt

    parts_stand : (o : Option ℕ) (ps : Parts) → PartsFit list u x o ps → PartsStand list ps
    parts_stand o no_parts f = tt
    parts_stand o (more_parts part ps) f = (part_stands o part f.0, parts_stand o ps f.1)

    unit_stands : UnitStands list u x
    unit_stands =
        let f = fits.units u x listed in
        record {
          variables = variables_stand x.variables f.variables;
          of_parts = parts_stand (last_order (module_order x.«module» None list.orders) x.orders) (parts x.parts) f.parts;
          hooks = λ name. handed_so 0 (hook_bodies (is_of_unit u name) list.hooks) (event_counted name);
        }

pub listed_units_fit : ListedUnitsFit
listed_units_fit list p shapes is fits u x listed = unit_fits list p shapes is fits u x listed

pub listed_calls_count : ListedCallsCount
listed_calls_count list p shapes is fits =
    (laid_programs_count p shapes (hook_names_of list) (currents_of list) list (behind_bodies list) is.laid fits.arguments, λ u x listed. unit_counted list p shapes is fits u x listed)

-- so a list that fits names only what there is
pub fitting_lists_stand : (list : Typed) (p : Plain) (shapes : Shapes) → IsProgramOf list p shapes → ListFits list p shapes → ListStands list
fitting_lists_stand list p shapes is fits = record { bodies = fits.arguments; units = λ u x listed. unit_stands list p shapes is fits u x listed }

pub fitting_programs_are_sound : FittingProgramsAreSound
fitting_programs_are_sound list p shapes is fits =
    (programs_are_sound list p shapes is fits.bodies (listed_units_fit list p shapes is fits), programs_turn list p shapes is (fitting_bodies_keep_to_loops p shapes (currents_of list) list fits.bodies))

pub compiled_lists_are_sound : CompiledListsAreSound
compiled_lists_are_sound list p is fits limits =
    let plain = plain_of limits p in
    let shapes = shapes_of p in
    fitting_programs_are_sound list plain shapes (is limits) (fits plain shapes (is limits))

pub fitting_programs_start : FittingProgramsStart
fitting_programs_start list p shapes is fits u x listed ws =
    let counted = listed_calls_count list p shapes is fits in (
      (λ taken. record {
        bodies = programs_have_bodies list p shapes is;
        bodies_are_counted = counted.0;
        units = programs_have_units list p shapes is;
        units_are_counted = counted.1;
        unit = x;
        listed = listed;
        starter = programs_have_starters list p shapes is u x listed;
        taken = taken;
      }),
      (λ have. started_keeps p shapes list u x (starter_at list u) (starter_shows list p shapes is u x listed) ws have),
    )
