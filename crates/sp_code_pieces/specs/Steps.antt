-- The pieces of a unit: of what stands in its parts, with the locals that `Locals` gives them, in the same order.
use Rattle.std.specs.Prelude.{ℕ, ◌+◌, Bool, true, false, List, [], ◌∷◌, length, Option, Some, None, is_some, if◌then◌else◌}
use Rattle.sp_words.specs.declared.words.AttributeName.{AttributeName}
use Rattle.sp_words.specs.declared.words.AttributeName.TheVariants as name_is
use Rattle.sp_types.specs.Types.{Ty}
use Rattle.sp_typed.specs.Exprs.{Expr}
use Rattle.sp_typed_units.specs.declared.attributes.Attribute.{Attribute}
use Rattle.sp_typed_units.specs.declared.declarations.Hook.{Hook}
use Rattle.sp_typed_units.specs.declared.items.Field.{Field}
use Rattle.sp_typed_units.specs.declared.readings.ReadOp.{ReadOp}
use Rattle.sp_typed_units.specs.declared.readings.ReadOp.TheVariants as read_is
use Rattle.sp_typed_units.specs.Specs.{Spec, read, unit_read, list_read, group_read}
use Rattle.sp_typed_units.specs.Parts.{Part, Parts, Arms, field, choice, no_parts, more_parts, no_arms, more_arms}
use Rattle.sp_meaning.specs.Integers.{integer_type, is_little}
use Rattle.sp_code_meaning.specs.Layouts.{Layout}
use Rattle.sp_meaning_units.specs.Openings.{Opening, BySize, ByMax, ByBytes, ByPlace}
use Rattle.sp_meaning_units.specs.Attributes.{Around, ordered, has, value_of, delimiter_of}
use Rattle.sp_meaning_units.specs.Leaves.{is_msb0}
use Rattle.sp_meaning_units.specs.Containers as containers
use Rattle.sp_meaning_units.specs.Containers.{Ending, ending_of}
use Rattle.sp_meaning_units.specs.Fields.{is_sized_bytes, bodies_for, has_meaning}
use Rattle.sp_code_pieces.specs.Pieces.{Asked, Integer, Bits, Until, UntilIncluding, Rest, Before, Always, Counted, Remain, Loop, Piece, Nothing, Unread, Read, Sized, Nested, Within, Settled, Noted, Converted, Required, Counting, Many, Store, Plain, Hooked, Step, Stored, When, Try, Chosen, Unbuilt, Steps, no_steps, more_steps, Cases, otherwise, no_case, case}
use Rattle.sp_code_pieces.specs.Locals.{number_type, where_asked, is_asked, finish_locals, count_locals, offset_locals, spec_type, keeps_offset, has_bodies, part_locals, parts_locals}

-- what is made of an expression or of bytes that may be there
abbrev pub by_option : {A B : Type 0} → Option A → (A → B) → B → B
by_option (Some x) there absent = there x
by_option None there absent = absent

-- a piece that may be wrapped
abbrev pub noted : Bool → (offset : ℕ) → Piece → Piece
noted true o p = Noted o p
noted false o p = p

abbrev pub are_there : List Ty → Bool
are_there [] = false
are_there (t ∷ ts) = true

-- the tests of containers by where they end
abbrev pub before_by : Ending → (counter limit : ℕ) → Before
before_by (containers.Counted e) c l = Counted c l
before_by containers.AtEnd c l = Remain
before_by how c l = Always

-- an arm before what is made of the rest; one that is taken where no other is goes behind all
abbrev pub arm_case : (is_other : Bool) → List Asked → Steps → (Cases → Cases) → Cases → Cases
arm_case true values ss rest last = rest (otherwise ss)
arm_case false values ss rest last = case values ss (rest last)

-- the local of the offset of an element: that of its field, or its own
abbrev pub element_offset : Option ℕ → ℕ → ℕ
element_offset (Some o) own = o
element_offset None own = own

-- the locals of a unit's own code are so many
module _ (hooks : List Hook) (first : ℕ) where
  abbrev pub layout_at : (current : ℕ) → (offset : Option ℕ) → Layout
  layout_at current offset = record { own = 0; current = current; offset = offset; first = first }

  abbrev pub asked_at : (current : ℕ) → (offset : Option ℕ) → Expr → Asked
  asked_at current offset e = record { layout = layout_at current offset; value = e }

  -- without `$$`
  abbrev pub asked : (offset : Option ℕ) → Expr → Asked
  asked offset e = asked_at 0 offset e

  abbrev pub all_asked : List Expr → List Asked
  all_asked [] = []
  all_asked (e ∷ es) = asked None e ∷ all_asked es

  -- from a local on: `&convert`, and behind it `&requires`
  abbrev pub finished : (at : ℕ) → List Attribute → (offset : Option ℕ) → Piece → Piece
  finished at attributes offset p =
      let behind = at + length (where_asked (is_asked (value_of name_is.Convert attributes)) number_type) in
      by_option (value_of name_is.Requires attributes) (λ e. Required behind (asked_at behind offset e))
      (λ p. p) (by_option (value_of name_is.Convert attributes) (λ e. Converted at (asked_at at offset e)) (λ p. p) p)

  abbrev pub in_view : AttributeName → Opening → List Attribute → (offset : Option ℕ) → Piece → Piece
  in_view name opening attributes offset p = by_option (value_of name attributes) (λ e. Within opening (asked offset e)) (λ p. p) p

  abbrev pub in_views : List Attribute → (offset : Option ℕ) → Spec → Piece → Piece
  in_views attributes offset s p =
      let inner = in_view name_is.MaxSize ByMax attributes offset p in
      if is_sized_bytes attributes s then inner else in_view name_is.Size BySize attributes offset inner

  abbrev pub bytes_piece : List Attribute → (offset : Option ℕ) → Piece
  bytes_piece attributes offset =
      by_option (delimiter_of name_is.Until attributes) (λ d. Read (Until d))
      (by_option (delimiter_of name_is.UntilIncluding attributes) (λ d. Read (UntilIncluding d))
      (if has name_is.Eod attributes
      then Read Rest
      else by_option (value_of name_is.Size attributes) (λ e. Sized (asked offset e)) Unread))

  abbrev pub one_piece : Around → List Attribute → (offset : Option ℕ) → Ty → ReadOp → Piece
  one_piece around attributes offset t read_is.Int = by_option (integer_type around.byte_order t) (λ form. Read (Integer form)) Unread
  one_piece around attributes offset t (read_is.Bits k) = Read (Bits k (is_little around.byte_order) (is_msb0 around.bit_order))
  one_piece around attributes offset t read_is.Bytes = bytes_piece attributes offset
  one_piece around attributes offset t read_is.Void = Nothing
  one_piece around attributes offset t op = Unread

  abbrev pub test_by : Ending → (element : ℕ) → (offset : Option ℕ) → Option (Bool × Asked)
  test_by (containers.Until e) l offset = Some (false, asked_at l offset e)
  test_by (containers.While e) l offset = Some (true, asked_at l offset e)
  test_by how l offset = None

  abbrev pub behind_by : Ending → (element : ℕ) → (offset : Option ℕ) → Option Asked
  behind_by (containers.UntilIncluding e) l offset = Some (asked_at l offset e)
  behind_by how l offset = None

  abbrev pub counting : Ending → (at : ℕ) → (offset : Option ℕ) → Piece → Piece
  counting (containers.Counted e) at offset p = Counting at (at + 1) (asked offset e) p
  counting containers.Ahead at offset p = Unread
  counting how at offset p = p

  -- a container, from a local on; the piece of its element begins behind its own locals
  abbrev pub list_piece : (at : ℕ) → (offset : Option ℕ) → (keeps : Bool) → (bodies : List ℕ) → Ending → (ℕ → Piece) → Piece
  list_piece at offset keeps hs how element =
      let o = at + length (count_locals how) in
      let own = offset_locals (is_some offset) hs in
      let l = o + length own in
      let loop : Loop =
      record {
        before = before_by how at (at + 1);
        element = l;
        test = test_by how l offset;
        bodies = record { value = l; offset = element_offset offset o; numbers = hs };
        behind = behind_by how l offset;
        keeps = keeps;
      }
      in
      counting how at offset (Many loop (noted (are_there own) o (element (l + 1))))

  abbrev pub spec_piece : (at : ℕ) → Around → (offset : Option ℕ) → (keeps : Bool) → (bodies : List ℕ) → List Attribute → Spec → Piece
  spec_piece at around offset keeps hs attributes (read r) =
      in_views attributes offset (read r) (one_piece (ordered around attributes) attributes offset r.ty r.op)
  spec_piece at around offset keeps hs attributes (unit_read u es) =
      in_views attributes offset (unit_read u es) (Nested u.unit (layout_at 0 offset) es)
  spec_piece at around offset keeps hs attributes (list_read span s count) =
      in_views attributes offset (list_read span s count)
      (list_piece at offset keeps hs (ending_of count attributes) (λ inner. spec_piece inner (ordered around attributes) offset true [] [] s))
  spec_piece at around offset keeps hs attributes (group_read span s own) =
      in_views attributes offset (group_read span s own)
      (finished at own offset (spec_piece (at + length (finish_locals own (spec_type s))) (ordered around attributes) offset true [] own s))

  -- what is parsed from the place, from bytes, or from another place
  abbrev pub placed : List Attribute → Bool → (offset : ℕ) → Piece → Piece
  placed attributes keeps o p =
      by_option (value_of name_is.ParseFrom attributes) (λ e. noted keeps o (Within ByBytes (asked None e) p))
      (by_option (value_of name_is.ParseAt attributes) (λ e. Within ByPlace (asked None e) (Settled (noted keeps o p))) (noted keeps o p))

  abbrev pub store_by : Option ℕ → (value offset : ℕ) → (bodies : List ℕ) → Store
  store_by member v o [] = Plain member
  store_by member v o (h ∷ hs) = Hooked member (record { value = v; offset = o; numbers = h ∷ hs })

  abbrev pub tried : Field → Step → Step
  tried f s = if has name_is.Try f.attributes then Try f.member s else s

  abbrev pub field_step : (at : ℕ) → Around → Field → Step
  field_step at around f =
      let bodies = bodies_for false hooks f.hooks in
      let keeps = keeps_offset bodies (value_of name_is.ParseFrom f.attributes) in
      let v = at + length (where_asked keeps f.ty) in
      let behind = v + length (where_asked (has_bodies bodies) f.ty) in
      let inner = behind + length (finish_locals f.attributes (spec_type f.spec)) in
      let offset : Option ℕ = if is_asked (value_of name_is.ParseFrom f.attributes) then Some at else None in
      let parsed = placed f.attributes keeps at (spec_piece inner around offset (is_some f.member) (bodies_for true hooks f.hooks) f.attributes f.spec) in
      let step = tried f (Stored (store_by f.member v at bodies) (finished behind f.attributes None parsed)) in
      if has_meaning f then by_option f.condition (λ e. When (asked None e) step) step else Unbuilt

  abbrev mutual
    pub parts_steps : (at : ℕ) → Around → Parts → Steps
    parts_steps at around no_parts = no_steps
    parts_steps at around (more_parts p ps) = more_steps (part_step at around p) (parts_steps (at + length (part_locals hooks p)) around ps)

    pub part_step : (at : ℕ) → Around → Part → Step
    part_step at around (field f) = field_step at around f
    part_step at around (choice span (Some e) arms) = Chosen at (asked None e) (arm_cases (at + 1) around arms no_case)
    part_step at around (choice span None arms) = Unbuilt

    -- arms in order, and behind them what is taken where no other is
    pub arm_cases : (at : ℕ) → Around → Arms → (last : Cases) → Cases
    arm_cases at around no_arms last = last
    arm_cases at around (more_arms a ps rest) last =
        arm_case a.otherwise (all_asked a.values) (parts_steps at around ps) (λ last. arm_cases (at + length (parts_locals hooks ps)) around rest last) last
