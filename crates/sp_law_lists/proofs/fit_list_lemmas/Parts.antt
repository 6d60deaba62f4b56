-- Variables and parts of units, as the program of a list wants them.
use Rattle.std.proofs.Common.{◌≡◌, ℕ, Bool, true, false, ◌&&◌, List, [], ◌∷◌, Option, Some, None, refl, sym, ap, ◌∙◌}
use Rattle.std.specs.Prelude.{slice_get}
use Rattle.std.proofs.lemmas.Bool.{and_parts}
use Rattle.sp_types.specs.Types.{Ty}
use Rattle.sp_typed.specs.Exprs.{Expr, type_of}
use Rattle.sp_typed_units.specs.declared.declarations.Hook.{Hook}
use Rattle.sp_typed_units.specs.declared.declarations.HookOf.{HookOf}
use Rattle.sp_typed_units.specs.declared.declarations.HookOf.TheVariants as hook_of
use Rattle.sp_typed_units.specs.declared.declarations.Member.{Member}
use Rattle.sp_typed_units.specs.declared.declarations.Typed.{Typed}
use Rattle.sp_typed_units.specs.declared.declarations.Unit.{Unit as TypedUnit}
use Rattle.sp_typed_units.specs.declared.declarations.Variable.{Variable}
use Rattle.sp_typed_units.specs.declared.items.Field.{Field}
use Rattle.sp_typed_units.specs.Parts.{Parts, field, choice, no_parts, more_parts}
use Rattle.sp_meaning_states.specs.Types.{kind_of_type}
use Rattle.sp_meaning.specs.Globals.{globals_of}
use Rattle.sp_meaning.specs.Hooks.{has_current, is_foreach}
use Rattle.sp_meaning.specs.Integers.{IntegerForm, integer_field}
use Rattle.sp_code.specs.Machine.{Plain}
use Rattle.sp_code.specs.Shapes.{Shapes, read_kind}
use Rattle.sp_code_programs.specs.programs.Routines.{hook_unit}
use Rattle.sp_law_programs.specs.whole_program.Laws.{CurrentsAreListed}
use Rattle.sp_law_programs.specs.whole_program.Fits.{IsOfField, IsOfValue, AreOfField, AreOfValue, HasMember, StoreFits, IntegerFits, PartsFit, ValueFits, VariablesFit}
use Rattle.sp_law_programs.specs.finished_bodies.Built.{IsThere}
use Rattle.sp_law_programs.specs.finished_units.Built as built
use Rattle.sp_lower_unit.specs.Values as literals
use Rattle.sp_law_lists.specs.fit_expr.Around.{Around}
use Rattle.sp_law_lists.specs.fit_expr.Sorts as sort_is
use Rattle.sp_law_lists.specs.fit_expr.Passes.{Tables}
use Rattle.sp_law_lists.specs.fit_expr.Test.{expr_passes}
use Rattle.sp_law_lists.proofs.fit_expr_lemmas.OfSorts.{of_sort, equal_numbers}
use Rattle.sp_law_lists.proofs.fit_expr_lemmas.OfTypes.{same_kind}
use Rattle.sp_law_lists.proofs.fit_expr_lemmas.Sound.{expr_sound}
use Rattle.sp_law_lists.specs.fit_list.Stored.{type_for}
use Rattle.sp_law_lists.specs.fit_list.Bodies.{current_of, HookPasses}
use Rattle.sp_law_lists.specs.fit_list.Units.{is_read, stored_passes, store_passes, is_own, value_is, body_passes, bodies_pass, field_passes, parts_pass, has_member, member_is_of, value_passes, variables_pass, unit_around}
use Rattle.sp_law_lists.proofs.fit_list_lemmas.Handed.{current_listed}

-- the type of an integer that is read with a sign or without
read_is : (ranges : List ℕ) (signed : Bool) (t : Ty) → is_read signed t ≡ true → kind_of_type ranges t ≡ read_kind signed
read_is ranges true t h = of_sort ranges t sort_is.Signed h
read_is ranges false t h = of_sort ranges t sort_is.Unsigned h

-- a body of a hook of a field of the unit u
own_unit : (u : ℕ) (of : HookOf) → is_own u of ≡ true → (hook_unit of ≡ Some u) × (has_current of ≡ true) × (is_foreach of ≡ false)
own_unit u (hook_of.Field v m) h = (ap (λ (n : ℕ). Some n) (sym (equal_numbers u v h)), refl, refl)
own_unit u (hook_of.Anonymous v) h = (ap (λ (n : ℕ). Some n) (sym (equal_numbers u v h)), refl, refl)
own_unit u _ h = absurd (let z : false ≡ true = h in cc)

-- whose `$$` is such an integer
own_value : (ranges : List ℕ) (u : ℕ) (signed : Bool) (of : HookOf) (o : Option Ty) → is_own u of ≡ true → value_is o signed ≡ true → kind_of_type ranges (current_of of o) ≡ read_kind signed
own_value ranges u signed (hook_of.Field v m) (Some t) h e = read_is ranges signed t e
own_value ranges u signed (hook_of.Anonymous v) (Some t) h e = read_is ranges signed t e
own_value ranges u signed of None h e = absurd (let z : false ≡ true = e in cc)
own_value ranges u signed _ (Some t) h e = absurd (let z : false ≡ true = h in cc)

module _ (law : CurrentsAreListed) (list : Typed) (hooks : (h : ℕ) (x : Hook) → slice_get list.hooks h ≡ Some x → HookPasses list (type_for list h) x) (u : ℕ) where
  -- a body of a hook of a field, in which `$$` is of the kind that is read, and which is built
  record Own (signed : Bool) (h : ℕ) : Type 0 where
    fits : IsOfValue list (read_kind signed) u h
    is_built : (x : Hook) × (slice_get list.hooks h ≡ Some x) × (is_foreach x.of ≡ false) × built.HookIsBuilt list x

  own_listed : (signed : Bool) (h : ℕ) (o : Option Hook) → slice_get list.hooks h ≡ o → body_passes o (type_for list h) u signed ≡ true → Own signed h
  own_listed signed h (Some x) is e =
      let q = and_parts (is_own u x.of) (value_is (type_for list h) signed) e in
      let unit = own_unit u x.of q.0 in
      let value = own_value (globals_of list).ranges u signed x.of (type_for list h) q.0 q.1 in
      let here : IsOfField list u h = record { body = x; listed = is; unit = unit.0; current = unit.1 } in
      record {
        fits = record { is = here; once = unit.2; kind = current_listed law list h x is unit.2 ∙ value };
        is_built = (x, is, unit.2, (hooks h x is).body.built);
      }
  own_listed signed h None is e = absurd (let z : false ≡ true = e in cc)

  -- all bodies of a field
  record AllOwn (signed : Bool) (hs : List ℕ) : Type 0 where
    of_field : AreOfField list u hs
    of_value : AreOfValue list (read_kind signed) u hs
    are_built : built.HooksAreBuilt list hs

  all_own : (signed : Bool) (hs : List ℕ) → bodies_pass list u signed hs ≡ true → AllOwn signed hs
  all_own signed [] e = record { of_field = tt; of_value = tt; are_built = tt }
  all_own signed (h ∷ hs) e =
      let q = and_parts (body_passes (slice_get list.hooks h) (type_for list h) u signed) (bodies_pass list u signed hs) e in
      let one = own_listed signed h (slice_get list.hooks h) refl q.0 in
      let rest = all_own signed hs q.1 in
      record { of_field = (one.fits.is, rest.of_field); of_value = (one.fits, rest.of_value); are_built = (one.is_built, rest.are_built) }

  module _ (x : TypedUnit) where
    member_stored : (signed : Bool) (m : ℕ) (o : Option Member) → slice_get x.members m ≡ o → stored_passes o signed ≡ true → HasMember list x m (read_kind signed)
    member_stored signed m (Some y) is e = (y, is, read_is (globals_of list).ranges signed y.ty e)
    member_stored signed m None is e = absurd (let z : false ≡ true = e in cc)

    store_fits : (signed : Bool) (member : Option ℕ) → store_passes x.members member signed ≡ true → StoreFits list x member (read_kind signed)
    store_fits signed (Some m) e = member_stored signed m (slice_get x.members m) refl e
    store_fits signed None e = tt

    -- a field that reads integers of a form
    record FieldGood (o : Option IntegerForm) (f : Field) : Type 0 where
      of_field : AreOfField list u f.hooks
      fits : IntegerFits list u x o f.member f.hooks
      is_there : IsThere o
      are_built : built.HooksAreBuilt list f.hooks

    field_sound : (o : Option IntegerForm) (f : Field) → field_passes list u x.members o f ≡ true → FieldGood o f
    field_sound (Some form) f e =
        let q = and_parts (store_passes x.members f.member form.signed) (bodies_pass list u form.signed f.hooks) e in
        let own = all_own form.signed f.hooks q.1 in
        record { of_field = own.of_field; fits = (store_fits form.signed f.member q.0, own.of_value); is_there = tt; are_built = own.are_built }
    field_sound None f e = absurd (let z : false ≡ true = e in cc)

    pub record PartsGood (o : Option ℕ) (ps : Parts) : Type 0 where
      pub fits : PartsFit list u x o ps
      pub are_built : built.PartsAreBuilt list o ps

    pub parts_sound : (o : Option ℕ) (ps : Parts) → parts_pass list u x.members o ps ≡ true → PartsGood o ps
    parts_sound o no_parts e = record { fits = tt; are_built = tt }
    parts_sound o (more_parts (field f) ps) e =
        let q = and_parts (field_passes list u x.members (integer_field o f) f) (parts_pass list u x.members o ps) e in
        let one = field_sound (integer_field o f) f q.0 in
        let rest = parts_sound o ps q.1 in
        record { fits = ((one.of_field, one.fits), rest.fits); are_built = ((one.is_there, one.are_built), rest.are_built) }
    parts_sound o (more_parts (choice span subject cs) ps) e =
        let q = and_parts false (parts_pass list u x.members o ps) e in
        absurd (let z : false ≡ true = q.0 in cc)

-- variables, in what stands round the expressions of a unit
module _ (list : Typed) (u : ℕ) (x : TypedUnit) where
  abbrev around : Around
  around = unit_around list u

  member_of_type : (m : ℕ) (t : Ty) (o : Option Member) → slice_get x.members m ≡ o → member_is_of o t ≡ true → HasMember list x m (kind_of_type (globals_of list).ranges t)
  member_of_type m t (Some y) is h = (y, is, same_kind (globals_of list).ranges y.ty t h)
  member_of_type m t None is h = absurd (let z : false ≡ true = h in cc)

  member_there : (m : ℕ) (o : Option Member) → slice_get x.members m ≡ o → has_member o ≡ true → (y : Member) × (slice_get x.members m ≡ Some y)
  member_there m (Some y) is h = (y, is)
  member_there m None is h = absurd (let z : false ≡ true = h in cc)

  record ValueGood (m : ℕ) (o : Option Expr) : Type 0 where
    fits : (p : Plain) (shapes : Shapes) → Tables list p shapes → ValueFits list p shapes u x m o
    is_built : built.ValueIsBuilt list o
    is_literal : literals.ValueFits o

  own_sound : (m : ℕ) (o : Option Expr) → value_passes around x.members m o ≡ true → ValueGood m o
  own_sound m (Some e) h =
      let q = and_parts (expr_passes around e) (member_is_of (slice_get x.members m) (type_of e)) h in
      let v = expr_sound around e q.0 in
      let y = member_of_type m (type_of e) (slice_get x.members m) refl q.1 in
      record { fits = λ p shapes tables. (v.fits p shapes tables, v.stands, y); is_built = v.built; is_literal = v.literals }
  own_sound m None h = record { fits = λ p shapes tables. tt; is_built = tt; is_literal = tt }

  pub record VariablesGood (vs : List Variable) : Type 0 where
    pub fits : (p : Plain) (shapes : Shapes) → Tables list p shapes → VariablesFit list p shapes u x vs
    pub are_built : built.VariablesAreBuilt list vs
    pub are_literals : literals.ValuesFit vs

  pub variables_sound : (vs : List Variable) → variables_pass around x.members vs ≡ true → VariablesGood vs
  variables_sound [] h = record { fits = λ p shapes tables. tt; are_built = tt; are_literals = tt }
  variables_sound (v ∷ vs) h =
      let q = and_parts (has_member (slice_get x.members v.member) && value_passes around x.members v.member v.value) (variables_pass around x.members vs) h in
      let r = and_parts (has_member (slice_get x.members v.member)) (value_passes around x.members v.member v.value) q.0 in
      let there = member_there v.member (slice_get x.members v.member) refl r.0 in
      let one = own_sound v.member v.value r.1 in
      let rest = variables_sound vs q.1 in
      record {
        fits = λ p shapes tables. (there, one.fits p shapes tables, rest.fits p shapes tables);
        are_built = (one.is_built, rest.are_built);
        are_literals = (one.is_literal, rest.are_literals);
      }
