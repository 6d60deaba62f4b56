-- The parts of a unit of integers end as they may, from its variables on, with fuel enough.
use Rattle.std.proofs.Common.{◌≡◌, ℕ, ◌+◌, ◌-◌, ◌<◌, Bool, true, false, List, [], ◌∷◌, Option, Some, None, refl, arith}
use Rattle.std.specs.Prelude.{slice_get}
use Rattle.sp_base.specs.declared.kinds.PKind.TheVariants.{NoMatch}
use Rattle.sp_base.specs.declared.places.Limits.{Limits}
use Rattle.sp_numbers.specs.declared.width.Width.TheVariants.{W64}
use Rattle.sp_value.specs.Val.{Val, unit}
use Rattle.sp_value.specs.Integers.{integer_of}
use Rattle.sp_methods.specs.Kinds.{Kind, Unsigned, Has, Have}
use Rattle.sp_typed.specs.Exprs.{Expr}
use Rattle.sp_typed_units.specs.declared.declarations.Member.{Member}
use Rattle.sp_typed_units.specs.declared.declarations.Typed.{Typed}
use Rattle.sp_typed_units.specs.declared.declarations.Variable.{Variable}
use Rattle.sp_typed_units.specs.Parts.{Part, Parts, field, no_parts, more_parts}
use Rattle.sp_meaning_states.specs.States.{Reading, State, Gives, Fine, Result, ends, fails, go, local_of, set_local, put_member, start_of}
use Rattle.sp_meaning_states.specs.Reads.{Ask, Bytes, Read, Got, Lacks, Shorts, NoWord, on_read}
use Rattle.sp_meaning_states.specs.Types.{width_bytes}
use Rattle.sp_meaning_states.specs.Telling.{Names}
use Rattle.sp_meaning.specs.Globals.{globals_of}
use Rattle.sp_meaning.specs.Operations.{known}
use Rattle.sp_code_meaning.specs.Exprs.{expr_means}
use Rattle.sp_code_meaning.specs.Calls.{call_means, hooks_mean}
use Rattle.sp_meaning.specs.Integers.{IntegerForm, integer_field}
use Rattle.sp_code_meaning.specs.Units.{offset_slot, value_slot, unit_layout, integer_in, field_means, part_means, parts_mean, variables_begin, variable_means, variables_mean}
use Rattle.sp_meaning.specs.Units.{stored, first_value, offset_here}
use Rattle.sp_code.specs.Machine.{Plain}
use Rattle.sp_code.specs.Shapes.{Shapes, read_kind, Holds}
use Rattle.sp_law_machine.proofs.keeps_lemmas.Frames.{still}
use Rattle.sp_code_programs.specs.exprs.Code.{kind_of}
use Rattle.sp_code_programs.specs.units.Units.{slot_kinds, member_kind}
use Rattle.sp_law_code.specs.units.Fits.{BodiesFit, VariablesBegin, ValueFits, VariablesFit, StoreFits, IntegerFits, PartFits, PartsFit}
use Rattle.sp_law_programs.specs.finished_bodies.Built.{IsThere}
use Rattle.sp_law_programs.specs.finished_bodies.Finished.{FunctionsFit}
use Rattle.sp_law_programs.specs.finished_bodies.Laws.{AllEnd}
use Rattle.sp_law_programs.proofs.finished_bodies_lemmas.Right.{local_has, set_holds}
use Rattle.sp_law_programs.proofs.finished_bodies_lemmas.RightCalls.{fuel_suffices}
use Rattle.sp_law_programs.specs.finished_units.Built.{HooksAreBuilt, ValueIsBuilt, VariablesAreBuilt, PartIsBuilt, PartsAreBuilt, HooksFit}
use Rattle.sp_law_programs.proofs.finished_units_lemmas.Right.{IsPart, IsValue, Makes, then_got, then_done, at_once, hooks_right, expression_right, put_right}
use Rattle.sp_law_programs.proofs.finished_units_lemmas.Hooks.{all_fit}

-- the local of a value is of its kind, and so is what is read
value_local : (signed : Bool) → slice_get slot_kinds (value_slot signed) ≡ Some (read_kind signed)
value_local true = refl
value_local false = refl

read_has : (units : List ℕ) (little signed : Bool) (bs : List ℕ) → Has units (read_kind signed) (integer_of little signed bs)
read_has units little true bs = (_, _, refl)
read_has units little false bs = (_, _, refl)

module _ (p : Plain) (shapes : Shapes) (names : Names) (hook_names : List (List ℕ)) (list : Typed) (limits : Limits) (reads : Reading → Ask → Read) (functions : FunctionsFit p shapes list) (fit : HooksFit p shapes list)
    (n : ℕ) (enough : limits.turns < n) (units : List ℕ) (u : ℕ) where
  -- from each state in the unit in which values have their kinds
  abbrev pub Does : (State → Result) → Type 0
  Does f = Makes p shapes units (Some u) slot_kinds IsPart f

  abbrev Gets : Kind → (State → Result) → Type 0
  Gets k f = Makes p shapes units (Some u) slot_kinds (IsValue units k) f

  abbrev HoldsHere : State → Type 0
  HoldsHere st = Holds p shapes units (Some u) slot_kinds st

  -- all that fits ends as it may from there
  all_end : (st : State) → HoldsHere st → AllEnd p shapes names hook_names list limits n units (Some u) slot_kinds st
  all_end st holds = fuel_suffices p shapes names hook_names list limits functions n units (Some u) slot_kinds st (omega (arith, enough)) holds

  -- the bodies of a hook
  pub rows_right : (failing : Bool) (hs : List ℕ) (ins : List Kind) (vs : List Val) → HooksAreBuilt list hs → BodiesFit p shapes list u ins hs → Have units ins vs → Does (hooks_mean names hook_names list limits failing n hs vs)
  rows_right failing hs ins vs built fits have = λ st holds.
      hooks_right p shapes units (Some u) slot_kinds (hooks_mean names hook_names list limits failing n hs vs st)
      ((all_end st holds).rows failing hs ins vs (all_fit list p shapes fit u ins hs built fits) have)

  -- an integer
  read_right : (little signed : Bool) (x : Read)
      → Gets (read_kind signed) (on_read x (λ t n bs st. ends (Gives (integer_of little signed bs)) (go (st.now.place + n) st)) (fails NoMatch))
  read_right little signed (Got t n bs) = λ st holds. (read_has units little signed bs, still p shapes units (Some u) slot_kinds st (go (st.now.place + n) st) refl refl refl holds)
  read_right little signed (Lacks m) = λ st holds. (tt, holds)
  read_right little signed (Shorts overs) = λ st holds. (tt, holds)
  read_right little signed NoWord = λ st holds. (tt, holds)

  integer_right : (form : IntegerForm) → Gets (read_kind form.signed) (integer_in names hook_names list limits reads form)
  integer_right form = λ st holds. read_right form.little form.signed (reads st.now (Bytes (width_bytes form.width))) st holds

  stored_right : (member : Option ℕ) (k : Kind) (v : Val) → StoreFits p shapes list u member k → Has units k v → Does (stored member v)
  stored_right (Some m) k v fits h = put_right p shapes units u slot_kinds m k v fits h
  stored_right None k v fits h = at_once p shapes units (Some u) slot_kinds Fine tt

  -- a local of the unit's own code
  set_right : (l : ℕ) (k : Kind) (v : Val) (st : State) → slice_get slot_kinds l ≡ Some k → Has units k v → HoldsHere st → HoldsHere (set_local l v st)
  set_right l k v st is h holds = set_holds p shapes units (Some u) slot_kinds l k v st is h holds

  get_right : (l : ℕ) (k : Kind) (st : State) → slice_get slot_kinds l ≡ Some k → HoldsHere st → Has units k (local_of st l)
  get_right l k st is holds = local_has p shapes units (Some u) slot_kinds l k st is holds

  -- a field, whose hooks take its offset and its value
  field_right : (form : IntegerForm) (member : Option ℕ) (hs : List ℕ) → StoreFits p shapes list u member (read_kind form.signed) → HooksAreBuilt list hs
      → BodiesFit p shapes list u (Unsigned ∷ read_kind form.signed ∷ []) hs → Does (field_means names hook_names list limits reads n form member hs)
  field_right form member [] stores built fits =
      then_got p shapes units (Some u) slot_kinds (read_kind form.signed) (integer_in names hook_names list limits reads form) (stored member) (integer_right form)
      (λ v h. stored_right member (read_kind form.signed) v stores h)
  field_right form member (h ∷ hs) stores built fits =
      then_got p shapes units (Some u) slot_kinds (read_kind form.signed) (λ st. integer_in names hook_names list limits reads form (set_local offset_slot (offset_here st) st)) _
      (λ st holds. integer_right form (set_local offset_slot (offset_here st) st) (set_right offset_slot Unsigned (offset_here st) st refl (W64, st.now.place - start_of st (unit st.self), refl) holds))
      (λ v has. then_done p shapes units (Some u) slot_kinds _ (λ st. hooks_mean names hook_names list limits false n (h ∷ hs) (local_of st offset_slot ∷ local_of st (value_slot form.signed) ∷ []) st)
      (λ st holds.
      let now = set_local (value_slot form.signed) v st in
      let held = set_right (value_slot form.signed) (read_kind form.signed) v st (value_local form.signed) has holds in
      stored_right member (read_kind form.signed) (local_of now (value_slot form.signed)) stores (get_right (value_slot form.signed) (read_kind form.signed) now (value_local form.signed) held) now held)
      (λ st holds.
      rows_right false (h ∷ hs) (Unsigned ∷ read_kind form.signed ∷ []) (local_of st offset_slot ∷ local_of st (value_slot form.signed) ∷ []) built fits
      (get_right offset_slot Unsigned st refl holds, (get_right (value_slot form.signed) (read_kind form.signed) st (value_local form.signed) holds, tt)) st holds))

  where_integer : (o : Option IntegerForm) (member : Option ℕ) (hs : List ℕ) → IsThere o → IntegerFits p shapes list u o member hs → HooksAreBuilt list hs
      → Does (known o (λ form st. field_means names hook_names list limits reads n form member hs st))
  where_integer (Some form) member hs there fits built = field_right form member hs fits.0 built fits.1
  where_integer None member hs there fits built = absurd there

  part_right : (o : Option ℕ) (x : Part) → PartFits p shapes list u o x → PartIsBuilt list o x → Does (part_means names hook_names list limits reads n o x)
  part_right o (field f) fits built = where_integer (integer_field o f) f.member f.hooks built.0 fits built.1
  part_right o _ fits built = absurd built

  pub parts_right : (o : Option ℕ) (xs : Parts) → PartsFit p shapes list u o xs → PartsAreBuilt list o xs → Does (parts_mean names hook_names list limits reads n o xs)
  parts_right o no_parts fits built = at_once p shapes units (Some u) slot_kinds Fine tt
  parts_right o (more_parts x xs) fits built =
      then_done p shapes units (Some u) slot_kinds (part_means names hook_names list limits reads n o x) (parts_mean names hook_names list limits reads n o xs) (part_right o x fits.0 built.0) (parts_right o xs fits.1 built.1)

  -- variables
  pub begin_right : (ms : List Member) (vs : List Variable) → VariablesBegin p shapes list u ms vs → Does (variables_begin names hook_names list limits reads ms vs)
  begin_right ms [] fits = at_once p shapes units (Some u) slot_kinds Fine tt
  begin_right ms (v ∷ vs) fits =
      let m = slice_get ms v.member in
      let first = first_value (globals_of list).ranges m in
      then_done p shapes units (Some u) slot_kinds (λ st. put_member (unit st.self) v.member first st) (variables_begin names hook_names list limits reads ms vs)
      (put_right p shapes units u slot_kinds v.member (member_kind (globals_of list).ranges m) first fits.0 (fits.1 units)) (begin_right ms vs fits.2)

  variable_right : (m : ℕ) (e : Option Expr) → ValueFits p shapes list u m e → ValueIsBuilt list e → Does (variable_means names hook_names list limits reads n m e)
  variable_right m (Some e) fits built =
      let k = kind_of (globals_of list) unit_layout e in
      then_got p shapes units (Some u) slot_kinds k (expr_means (globals_of list) (call_means names hook_names list limits n) unit_layout e) (λ v st. put_member (unit st.self) m v st)
      (λ st holds.
      expression_right p shapes units (Some u) slot_kinds k (expr_means (globals_of list) (call_means names hook_names list limits n) unit_layout e st) ((all_end st holds).expressions unit_layout e fits.0 built))
      (λ v h. put_right p shapes units u slot_kinds m k v fits.1 h)
  variable_right m None fits built = at_once p shapes units (Some u) slot_kinds Fine tt

  pub variables_right : (vs : List Variable) → VariablesFit p shapes list u vs → VariablesAreBuilt list vs → Does (variables_mean names hook_names list limits reads n vs)
  variables_right [] fits built = at_once p shapes units (Some u) slot_kinds Fine tt
  variables_right (v ∷ vs) fits built =
      then_done p shapes units (Some u) slot_kinds (variable_means names hook_names list limits reads n v.member v.value) (variables_mean names hook_names list limits reads n vs)
      (variable_right v.member v.value fits.0 built.0) (variables_right vs fits.1 built.1)
