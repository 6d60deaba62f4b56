-- What has no parts, and what a list of modules has by numbers.
use Rattle.std.specs.Prelude.{◌<◌, ◌-◌, nat_lt, if◌then◌else◌, Option, Some, None, slice_get, is_some}
use Rattle.std.proofs.Common.{◌≡◌, ◌∙◌, ◌+◌, ℕ, zero, suc, Bool, true, false, List, [], ◌∷◌, refl, sym, ap, subst, arith}
use Rattle.std.proofs.lemmas.Bool.{and_parts}
use Rattle.std.proofs.lemmas.Bool.Decides.{nat_tests}
use Rattle.sp_value.specs.Val.{Val}
use Rattle.sp_methods.specs.Kinds.{Kind, EnumOf, UnitOf, Has}
use Rattle.sp_types.specs.declared.words.Word.TheVariants as word_is
use Rattle.sp_types.specs.Types.{Ty, word, made, same}
use Rattle.sp_typed.specs.declared.words.LeafOp.{LeafOp}
use Rattle.sp_typed.specs.declared.words.LeafOp.TheVariants as leaf_is
use Rattle.sp_typed_units.specs.declared.declarations.Constant.{Constant}
use Rattle.sp_typed_units.specs.declared.declarations.ConstantValue.{ConstantValue}
use Rattle.sp_typed_units.specs.declared.declarations.ConstantValue.TheVariants as constant_is
use Rattle.sp_typed_units.specs.declared.declarations.Member.{Member}
use Rattle.sp_typed_units.specs.declared.declarations.Parameter.{Parameter}
use Rattle.sp_typed_units.specs.declared.declarations.Typed.{Typed}
use Rattle.sp_typed_units.specs.declared.declarations.Unit.{Unit as TypedUnit}
use Rattle.sp_meaning_states.specs.Types.{number_value, ranges_of, kind_of_type}
use Rattle.sp_meaning.specs.Globals.{constant_value, constant_values}
use Rattle.sp_code.specs.Kinds.{IsItemOf, of_bits}
use Rattle.sp_code.specs.Machine.{Plain}
use Rattle.sp_code.specs.Shapes.{UnitKinds, Shapes, IsMember}
use Rattle.sp_methods.specs.Kinds as kinds
use Rattle.sp_law_programs.proofs.program_laid_lemmas.Zeros.{zero_has}
use Rattle.sp_law_code.specs.exprs.Parts.{OneOf, LeafFits}
use Rattle.sp_law_programs.specs.finished_bodies.Built.{LeafIsBuilt}
use Rattle.sp_lower_expr.specs.Literals as literals
use Rattle.sp_law_lists.specs.fit_expr.Around.{Around, globals_in, locals_in}
use Rattle.sp_law_lists.specs.fit_expr.Sorts as sort_is
use Rattle.sp_law_lists.specs.fit_expr.Lists.{is_type}
use Rattle.sp_law_lists.specs.fit_expr.Passes.{Tables}
use Rattle.sp_law_lists.specs.fit_expr.Test.{local_is, number_is, is_enum, is_unit, has_value, constant_is_of, member_type, parameter_type, member_is, parameter_is, unit_parameter, leaf_is_of, has_member, has_range}
use Rattle.sp_law_lists.proofs.fit_expr_lemmas.OfSorts.{equal_numbers, of_sort}
use Rattle.sp_law_lists.proofs.fit_expr_lemmas.OfTypes.{same_kind, local_kind}

-- a number of a type
pub number_fits : (t : Ty) (minus : Bool) (n : ℕ) → number_is t minus n ≡ true → literals.NumberFits t minus n
number_fits (word (word_is.Uint w)) minus n h = grind (arith, nat_tests)
number_fits (word (word_is.Int w)) minus n h = h
number_fits (word _) minus n h = tt
number_fits (made m ts) minus n h = tt

pub number_has : (ranges units : List ℕ) (t : Ty) (minus : Bool) (n : ℕ) → number_is t minus n ≡ true → Has units (kind_of_type ranges t) (number_value t minus n)
number_has ranges units (word (word_is.Uint w)) minus n h = (w, n, refl)
number_has ranges units (word (word_is.Int w)) minus n h = (w, _, refl)
number_has ranges units (word _) minus n h = absurd (let z : false ≡ true = h in cc)
number_has ranges units (made m ts) minus n h = absurd (let z : false ≡ true = h in cc)

below : (m n : ℕ) → nat_lt m n ≡ true → m < n
below m n h = grind (arith, nat_tests)

enum_kind : (ranges : List ℕ) (k : ℕ) (t : Ty) → is_enum k t ≡ true → EnumOf k ≡ kind_of_type ranges t
enum_kind ranges k (word (word_is.Enum j)) h = ap EnumOf (equal_numbers k j h)
enum_kind ranges k (word _) h = absurd (let z : false ≡ true = h in cc)
enum_kind ranges k (made m ts) h = absurd (let z : false ≡ true = h in cc)

-- the type of an enum, of which the kind is the one of its number
pub is_of_enum : (ranges : List ℕ) (k : ℕ) (t : Ty) → is_enum k t ≡ true → kind_of_type ranges t ≡ EnumOf k
is_of_enum ranges k t h = sym (enum_kind ranges k t h)

unit_kind : (ranges : List ℕ) (o : Option ℕ) (t : Ty) → is_unit o t ≡ true → (u : ℕ) × (o ≡ Some u) × (kind_of_type ranges t ≡ UnitOf u)
unit_kind ranges (Some u) (word (word_is.Unit v)) h = (u, refl, ap UnitOf (sym (equal_numbers u v h)))
unit_kind ranges (Some u) (word _) h = absurd (let z : false ≡ true = h in cc)
unit_kind ranges (Some u) (made m ts) h = absurd (let z : false ≡ true = h in cc)
unit_kind ranges None t h = absurd (let z : false ≡ true = h in cc)

-- one of two
either : (b : Bool) {x y : Bool} {A B : Type 0} → (x ≡ true → A) → (y ≡ true → B) → (if b then x else y) ≡ true → OneOf b A B
either true f g h = f h
either false f g h = g h

-- what has a value
valued : (c : ConstantValue) → has_value c ≡ true → (v : Val) × (constant_value c ≡ Some v)
valued (constant_is.Value v) h = (v, refl)
valued _ h = absurd (let z : false ≡ true = h in cc)

value_listed : (cs : List Constant) (c : ℕ) (x : Constant) → slice_get cs c ≡ Some x → slice_get (constant_values cs) c ≡ Some (constant_value x.value)
value_listed [] c x is = absurd (let z : None ≡ Some x = is in cc)
value_listed (y ∷ cs) zero x is = ap (λ (o : Option Constant). value_in o) is
  where
    value_in : Option Constant → Option (Option Val)
    value_in (Some z) = Some (constant_value z.value)
    value_in None = None
value_listed (y ∷ cs) (suc c) x is = value_listed cs c x is

-- a constant of a list that has a value, and is of a type
constant_there : (list : Typed) (c : ℕ) (t : Ty) (o : Option Constant) → slice_get list.constants c ≡ o → constant_is_of o t ≡ true →
    (x : Constant) × (v : Val) × (slice_get list.constants c ≡ Some x) × (constant_value x.value ≡ Some v) × (same x.ty t ≡ true)
constant_there list c t (Some x) is h =
    let b = and_parts (has_value x.value) (same x.ty t) h in
    let v = valued x.value b.0 in
    (x, v.0, is, v.1, b.1)
constant_there list c t None is h = absurd (let z : false ≡ true = h in cc)

module _ (around : Around) where
  abbrev kind : Ty → Kind
  kind t = kind_of_type (globals_in around).ranges t

  -- a constant has its value
  constant_valued : (c : ℕ) (t : Ty) → constant_is_of (slice_get around.list.constants c) t ≡ true → (v : Val) × (slice_get (globals_in around).constants c ≡ Some (Some v))
  constant_valued c t h =
      let there = constant_there around.list c t (slice_get around.list.constants c) refl h in
      (there.1, value_listed around.list.constants c there.0 there.2 ∙ ap Some there.3)

  -- a leaf is built
  pub leaf_built : (op : LeafOp) (t : Ty) → leaf_is_of around op t ≡ true → LeafIsBuilt (globals_in around) around.list.functions op
  leaf_built leaf_is.True t h = tt
  leaf_built leaf_is.False t h = tt
  leaf_built (leaf_is.Number n) t h = tt
  leaf_built (leaf_is.TypedNumber n) t h = tt
  leaf_built (leaf_is.Text x) t h = tt
  leaf_built (leaf_is.Bytes b) t h = tt
  leaf_built (leaf_is.Empty w) t h = tt
  leaf_built (leaf_is.Itself s) t h = tt
  leaf_built (leaf_is.Current s) t h = tt
  leaf_built (leaf_is.Local l) t h = tt
  leaf_built (leaf_is.Parameter n s) t h = tt
  leaf_built (leaf_is.Constant c) t h = rw ((constant_valued c t h).1) tt
  leaf_built (leaf_is.Label k l) t h = tt
  leaf_built _ t h = absurd (let z : false ≡ true = h in cc)

  -- its literal fits
  pub leaf_literal : (op : LeafOp) (t : Ty) → leaf_is_of around op t ≡ true → literals.LeafFits op t
  leaf_literal (leaf_is.Number n) t h = number_fits t false n h
  leaf_literal (leaf_is.TypedNumber n) t h = number_fits t false n h
  leaf_literal _ t h = tt

  module _ (p : Plain) (shapes : Shapes) (tables : Tables around.list p shapes) where
    -- a member of a unit of the list
    member_listed : (u m : ℕ) (t : Ty) (x : TypedUnit) (o : Option Member) → slice_get around.list.units u ≡ Some x → slice_get x.members m ≡ o → is_type (member_type o) t ≡ true → IsMember p shapes u m (kind t)
    member_listed u m t x (Some y) is at h = subst (IsMember p shapes u m) (same_kind (globals_in around).ranges y.ty t h) (tables.members u x is m y at)
    member_listed u m t x None is at h = absurd (let z : false ≡ true = h in cc)

    member_of_unit : (u m : ℕ) (t : Ty) (o : Option TypedUnit) → slice_get around.list.units u ≡ o → member_is o m t ≡ true → IsMember p shapes u m (kind t)
    member_of_unit u m t (Some x) is h = member_listed u m t x (slice_get x.members m) is refl h
    member_of_unit u m t None is h = absurd (let z : false ≡ true = h in cc)

    pub member_fits : (a : Ty) (m : ℕ) (t : Ty) → has_member around a m t ≡ true → (u : ℕ) × (kind a ≡ UnitOf u) × IsMember p shapes u m (kind t)
    member_fits (word (word_is.Unit u)) m t h = (u, refl, member_of_unit u m t (slice_get around.list.units u) refl h)
    member_fits (word _) m t h = absurd (let z : false ≡ true = h in cc)
    member_fits (made w ts) m t h = absurd (let z : false ≡ true = h in cc)

    -- a parameter of a unit
    abbrev IsParameterOf : ℕ → ℕ → Kind → Type 0
    IsParameterOf u n k = (t : UnitKinds) × (slice_get shapes.units u ≡ Some t) × (slice_get t.parameters n ≡ Some k)

    parameter_listed : (u n : ℕ) (t : Ty) (x : TypedUnit) (o : Option Parameter) → slice_get around.list.units u ≡ Some x → slice_get x.parameters n ≡ o → is_type (parameter_type o) t ≡ true → IsParameterOf u n (kind t)
    parameter_listed u n t x (Some y) is at h = subst (IsParameterOf u n) (same_kind (globals_in around).ranges y.ty t h) (tables.parameters u x is n y at)
    parameter_listed u n t x None is at h = absurd (let z : false ≡ true = h in cc)

    parameter_of_unit : (u n : ℕ) (t : Ty) (o : Option TypedUnit) → slice_get around.list.units u ≡ o → parameter_is o n t ≡ true → IsParameterOf u n (kind t)
    parameter_of_unit u n t (Some x) is h = parameter_listed u n t x (slice_get x.parameters n) is refl h
    parameter_of_unit u n t None is h = absurd (let z : false ≡ true = h in cc)

    parameter_fits : (o : Option ℕ) (n : ℕ) (t : Ty) → unit_parameter around o n t ≡ true → (u : ℕ) × (s : UnitKinds) × (o ≡ Some u) × (slice_get shapes.units u ≡ Some s) × (slice_get s.parameters n ≡ Some (kind t))
    parameter_fits (Some u) n t h =
        let there = parameter_of_unit u n t (slice_get around.list.units u) refl h in
        (u, there.0, refl, there.1, there.2)
    parameter_fits None n t h = absurd (let z : false ≡ true = h in cc)

    constant_fits : (c : ℕ) (t : Ty) → constant_is_of (slice_get around.list.constants c) t ≡ true → (v : Val) × (slice_get (globals_in around).constants c ≡ Some (Some v)) × ((units : List ℕ) → Has units (kind t) v)
    constant_fits c t h =
        let there = constant_there around.list c t (slice_get around.list.constants c) refl h in (
          there.1,
          value_listed around.list.constants c there.0 there.2 ∙ ap Some there.3,
          λ units. subst (λ (k : Kind). Has units k there.1) (same_kind (globals_in around).ranges there.0.ty t there.4) (tables.constants c there.0 there.1 there.2 there.3 units),
        )

    -- a leaf fits
    pub leaf_fits : (op : LeafOp) (t : Ty) → leaf_is_of around op t ≡ true → LeafFits p shapes (globals_in around) around.places (locals_in around) around.unit op t (kind t)
    leaf_fits leaf_is.True t h = λ units. rw (of_sort (globals_in around).ranges t sort_is.Bools h) (true, refl)
    leaf_fits leaf_is.False t h = λ units. rw (of_sort (globals_in around).ranges t sort_is.Bools h) (false, refl)
    leaf_fits (leaf_is.Number n) t h = λ units. number_has (globals_in around).ranges units t false n h
    leaf_fits (leaf_is.TypedNumber n) t h = λ units. number_has (globals_in around).ranges units t false n h
    leaf_fits (leaf_is.Text x) t h = λ units. rw (of_sort (globals_in around).ranges t sort_is.Text h) (x, refl)
    leaf_fits (leaf_is.Bytes b) t h = λ units. rw (of_sort (globals_in around).ranges t sort_is.Bytes h) (b, refl)
    leaf_fits (leaf_is.Empty w) t h = λ units. zero_has (globals_in around).ranges units t
    leaf_fits (leaf_is.Itself s) t h = unit_kind (globals_in around).ranges around.unit t h
    leaf_fits (leaf_is.Current s) t h = local_kind (globals_in around).ranges around.locals around.places.current t (and_parts (is_some around.places.offset) (local_is around around.places.current t) h).1
    leaf_fits (leaf_is.Local l) t h = local_kind (globals_in around).ranges around.locals (around.places.first + l) t h
    leaf_fits (leaf_is.Parameter n s) t h =
        either (nat_lt n around.places.own) (local_kind (globals_in around).ranges around.locals n t) (parameter_fits around.unit (n - around.places.own) t) h
    leaf_fits (leaf_is.Constant c) t h =
        let there = constant_fits c t h in
        rw there.1 there.2
    leaf_fits (leaf_is.Label k l) t h = λ units. rw (is_of_enum (globals_in around).ranges k t h) (_, refl)
    leaf_fits _ t h = absurd (let z : false ≡ true = h in cc)

    -- a range of a bitfield
    pub range_fits : (a : Ty) (r : ℕ) → has_range around a r ≡ true → IsItemOf (kind a) (kinds.Only r) kinds.Unsigned
    range_fits (word (word_is.Bitfield b)) r h = of_bits b (ranges_of (globals_in around).ranges b) r (below r (ranges_of (globals_in around).ranges b) h)
    range_fits (word _) r h = absurd (let z : false ≡ true = h in cc)
    range_fits (made m ts) r h = absurd (let z : false ≡ true = h in cc)
