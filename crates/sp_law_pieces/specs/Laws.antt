-- What readings and fields mean is what their pieces mean, which keep what is asked later among the locals of a unit's own code.
use Rattle.std.specs.Prelude.{◌≡◌, ◌≤◌, ℕ, ◌+◌, Bool, List, ◌++◌, length, reverse, Option, None, is_some}
use Rattle.sp_base.specs.declared.places.Limits.{Limits}
use Rattle.sp_value.specs.Val.{Val}
use Rattle.sp_typed_units.specs.declared.attributes.Attribute.{Attribute}
use Rattle.sp_typed_units.specs.declared.declarations.Typed.{Typed}
use Rattle.sp_typed_units.specs.declared.items.Field.{Field}
use Rattle.sp_typed_units.specs.Specs.{Spec}
use Rattle.sp_meaning_states.specs.States.{Reading, State, Result}
use Rattle.sp_meaning_states.specs.Reads.{Ask, Read}
use Rattle.sp_meaning_states.specs.Telling.{Names}
use Rattle.sp_meaning_units.specs.Fields.{spec_means, field_means}
use Rattle.sp_code_pieces.specs.Locals.{spec_locals, field_locals}
use Rattle.sp_code_pieces.specs.Steps.{spec_piece, field_step}
use Rattle.sp_code_pieces.specs.Means.{piece_means, step_means}
use Rattle.sp_law_meaning.specs.Laws.{Agree}
use Rattle.sp_law_meaning.specs.Standing.{AreHanded, ListStands}
use Rattle.sp_law_pieces.specs.Standing.{AttributesStand, SpecStands, FieldStands}
use Rattle.sp_law_pieces.specs.States.{Low, OffsetAt}

-- Two ways to enter a unit lead to the same, whatever locals stand in front.
abbrev pub EnterAlike : (enter also : ℕ → List Val → State → Result) → Type 0
EnterAlike enter also =
    (ws : List Val) (u : ℕ) (vs : List Val) (st ts : State) → ts ≡ record st { locals = ws ++ st.locals } → Agree (λ st ts. ts ≡ record st { locals = ws ++ st.locals }) (enter u vs st) (also u (reverse vs) ts)

-- A reading with its attributes means the same in both texts: where its locals stand from a number on, and those in front of them are known.
abbrev pub ReadingsAreOne : Type 0
ReadingsAreOne =
    (names : Names) (hook_names : List (List ℕ)) (list : Typed) (limits : Limits) (reads : Reading → Ask → Read) → ListStands list →
    (total n : ℕ) (enter also : ℕ → List Val → State → Result) → EnterAlike enter also →
    (s : Spec) → SpecStands list.functions s →
    (at : ℕ) (us : List Val) → length us ≡ total → (offset : Option Val) (o : Option ℕ) → OffsetAt at us offset o →
    (keeps : Bool) (hs : List ℕ) → AreHanded list 2 hs → (byte_order bit_order : Option ℕ) (attributes : List Attribute) → AttributesStand list.functions attributes →
    at + length (spec_locals (is_some o) hs attributes s) ≤ total →
    (st ts : State) → Low at us st ts →
    Agree (Low at us) (spec_means names hook_names list limits reads n enter (record { byte_order = byte_order; bit_order = bit_order; offset = offset }) keeps hs attributes s st)
    (piece_means names hook_names list limits reads n also (spec_piece list.hooks total at (record { byte_order = byte_order; bit_order = bit_order; offset = None }) o keeps hs attributes s) ts)

-- A field does the same in both texts: it is read, its value is stored, and the bodies of its hooks run.
abbrev pub FieldsAreOne : Type 0
FieldsAreOne =
    (names : Names) (hook_names : List (List ℕ)) (list : Typed) (limits : Limits) (reads : Reading → Ask → Read) → ListStands list →
    (total n : ℕ) (enter also : ℕ → List Val → State → Result) → EnterAlike enter also →
    (f : Field) → FieldStands list f →
    (at : ℕ) (us : List Val) → length us ≡ total → at + length (field_locals list.hooks f) ≤ total → (byte_order bit_order : Option ℕ) →
    (st ts : State) → Low at us st ts →
    Agree (Low at us) (field_means names hook_names list limits reads n enter (record { byte_order = byte_order; bit_order = bit_order; offset = None }) f st)
    (step_means names hook_names list limits reads n also (field_step list.hooks total at (record { byte_order = byte_order; bit_order = bit_order; offset = None }) f) ts)
