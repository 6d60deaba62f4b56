-- A member without a type is a field with a conversion that hangs on a member without a type.
use Rattle.std.proofs.Common.{ℕ, ◌≡◌, refl, sym, ap, ◌∙◌, List, length, Option, Some, None, slice_get}
use Rattle.std.specs.Prelude.{true, false, is_some}
use Rattle.sp_base.specs.declared.places.Span.{Span}
use Rattle.sp_ast.specs.Trees.{Tree, row, node, none, more, span_of}
use Rattle.sp_ast.specs.declared.forms.Form.TheVariants as form_is
use Rattle.sp_ast.specs.declared.forms.BaseForm.TheVariants as base_is
use Rattle.sp_types.specs.Types.{Ty}
use Rattle.sp_type_context.specs.Contexts.{Around}
use Rattle.sp_type_context.specs.Typing.{or_else as first_of}
use Rattle.sp_type_fields.specs.Values.{Values}
use Rattle.sp_type_fields.specs.Attributes.{conversion}
use Rattle.sp_type_fields.specs.Fields.{field_type}
use Rattle.sp_type_fields.specs.Readings.{counted_read}
use Rattle.sp_solver.specs.declared.attempt.Attempt.TheVariants.{Done, Waits}
use Rattle.sp_solver.specs.Told.{told}
use Rattle.sp_type_modules.specs.declared.sources.Source.{Source}
use Rattle.sp_type_modules.specs.declared.sources.Source.TheVariants as source_is
use Rattle.sp_type_modules.specs.declared.sources.Question.{Question}
use Rattle.sp_type_modules.specs.Sources.{questions}
use Rattle.sp_type_members.specs.Opens.{or_else, conversion_open, base_open, field_open}
use Rattle.sp_type_members.specs.Tries.{in_unit, source_type, source_open, when_open, try_unit, try_asked, AreStored}
use Rattle.sp_type_members.specs.Endless.{span_if, conversion_place, base_place, field_place, unit_place, place_of}

-- where there is an open member there is a place, and the other way round
span_there : (o : Option ℕ) (at : Span) → is_some (span_if o at) ≡ is_some o
span_there None at = refl
span_there (Some j) at = refl

either : (p q : Option Span) (a b : Option ℕ) → is_some p ≡ is_some a → is_some q ≡ is_some b → is_some (first_of p q) ≡ is_some (or_else a b)
either None q None b e h = h
either (Some x) q (Some j) b e h = refl
either None q (Some j) b e h = absurd (let z : false ≡ true = e in cc)
either (Some x) q None b e h = absurd (let z : true ≡ false = e in cc)

module _ (list : List Tree) (count : ℕ) (f : ℕ → Option Ty) (g : Around) (v : Values) where
  conversion_there : (t : Ty) (o : Option Tree) → is_some (conversion_place list count f g t o) ≡ is_some (conversion_open list count f g t o)
  conversion_there t None = refl
  conversion_there t (Some e) = span_there (conversion_open list count f g t (Some e)) (span_of e)

  base_there : (t : Tree) → is_some (base_place list count f g v t) ≡ is_some (base_open list count f g v t)
  base_there (node (form_is.Base base_is.Group) at (more inner (more (row counts) (more (row ts) none)))) =
      let read = (counted_read g v inner counts).ty in
      either (base_place list count f g v inner) (conversion_place list count f g read (conversion ts)) (base_open list count f g v inner) (conversion_open list count f g read (conversion ts)) (base_there inner) (conversion_there read (conversion ts))
  base_there _ = refl

  pub field_there : (t : Tree) → is_some (field_place list count f g v t) ≡ is_some (field_open list count f g v t)
  field_there (node form_is.Field span (more name (more base (more (row counts) (more (row ts) rest))))) =
      let read = (counted_read g v base counts).ty in
      either (base_place list count f g v base) (conversion_place list count f g read (conversion ts)) (base_open list count f g v base) (conversion_open list count f g read (conversion ts)) (base_there base) (conversion_there read (conversion ts))
  field_there _ = refl

pub there : {A : Type 0} (o : Option A) → is_some o ≡ true → (a : A) × (o ≡ Some a)
there (Some a) e = (a, refl)
there None e = absurd (let z : false ≡ true = e in cc)

-- what waits is open, and it is a field
open_there : (t : Ty) (o : Option ℕ) (j : ℕ) → when_open t o ≡ Waits j → is_some o ≡ true
open_there t (Some i) j e = refl
open_there t None j e = absurd (let z : Done t ≡ Waits j = e in cc)

source_there : (list : List Tree) (count : ℕ) (f : ℕ → Option Ty) (g : Around) (v : Values) (s : Source) (j : ℕ) → when_open (source_type g v s) (source_open list count f g v s) ≡ Waits j
    → (t : Tree) × (s ≡ source_is.Field t) × (at : Span) × (field_place list count f g v t ≡ Some at)
source_there list count f g v (source_is.Field t) j e =
    let h = there (field_place list count f g v t) (field_there list count f g v t ∙ open_there (field_type g v t) (field_open list count f g v t) j e) in
    (t, refl, h.0, h.1)
source_there list count f g v (source_is.Variable t) j e = absurd (let z : Done _ ≡ Waits j = e in cc)
source_there list count f g v source_is.Sink j e = absurd (let z : Done _ ≡ Waits j = e in cc)

unit_there : (list : List Tree) (count : ℕ) (f : ℕ → Option Ty) (v : Values) (q : Question) (o : Option Around) (j : ℕ) → try_unit list count f v q o ≡ Waits j
    → (t : Tree) × (q.source ≡ source_is.Field t) × (at : Span) × (unit_place list count f v q.unit t o ≡ Some at)
unit_there list count f v q (Some g) j e = source_there list count f (in_unit list f q.unit g) v q.source j e
unit_there list count f v q None j e = absurd (let z : Done _ ≡ Waits j = e in cc)

pub has_place : (list : List Tree) (contexts : List Around) (v : Values) (types : List (Option Ty)) (i : ℕ) (q : Question) → AreStored list contexts v types → slice_get (questions list) i ≡ Some q → told types i ≡ None
    → (t : Tree) × (q.source ≡ source_is.Field t) × (at : Span) × (place_of list contexts v types q.unit t ≡ Some at)
has_place list contexts v types i q stored at unknown =
    let count = length (questions list) in
    let waits = stored.settled.stuck i unknown in
    unit_there list count (told types) v q (slice_get contexts q.unit) waits.0 (ap (try_asked list contexts v count (told types) i) (sym at) ∙ waits.1)
