-- What fields mean: how a reading is read with the attributes of its field or group, and what a field does with its value. Literals, and
-- containers and switches by look-ahead, claim nothing yet, and neither do sinks.
use Rattle.std.specs.Prelude.{ℕ, ◌/◌, Bool, true, false, not, ◌&&◌, ◌||◌, List, [], ◌∷◌, Option, Some, None, is_some, ◌-◌, nat_lt, slice_get, if◌then◌else◌}
use Rattle.sp_base.specs.declared.kinds.PKind.TheVariants.{Requires}
use Rattle.sp_base.specs.declared.places.Limits.{Limits}
use Rattle.sp_words.specs.declared.words.AttributeName.{AttributeName}
use Rattle.sp_words.specs.declared.words.AttributeName.TheVariants as name_is
use Rattle.sp_numbers.specs.declared.width.Width.TheVariants.{W64}
use Rattle.sp_value.specs.Val.{Val, void, bool, uint, unit, place}
use Rattle.sp_types.specs.Types.{Ty}
use Rattle.sp_typed.specs.Exprs.{Expr, Exprs}
use Rattle.sp_typed_units.specs.declared.attributes.Attribute.{Attribute}
use Rattle.sp_typed_units.specs.declared.declarations.Hook.{Hook}
use Rattle.sp_typed_units.specs.declared.declarations.Typed.{Typed}
use Rattle.sp_typed_units.specs.declared.items.Field.{Field}
use Rattle.sp_typed_units.specs.declared.readings.ReadOp.{ReadOp}
use Rattle.sp_typed_units.specs.declared.readings.ReadOp.TheVariants as read_is
use Rattle.sp_typed_units.specs.Specs.{Spec, read, unit_read, list_read, group_read}
use Rattle.sp_meaning_states.specs.States.{Reading, State, Gives, Fine, Unfinished, Result, ends, got, chosen, truth_of, fails, start_of}
use Rattle.sp_meaning_states.specs.Scopes.{InTry, inside}
use Rattle.sp_meaning_states.specs.Reads.{Ask, Read}
use Rattle.sp_meaning_states.specs.Types.{width_bytes}
use Rattle.sp_meaning_states.specs.Telling.{Names}
use Rattle.sp_meaning.specs.Globals.{globals_of}
use Rattle.sp_meaning.specs.Operations.{known}
use Rattle.sp_meaning.specs.Hooks.{is_foreach}
use Rattle.sp_meaning.specs.Integers.{IntegerForm, integer_type, is_little, integer_means}
use Rattle.sp_meaning.specs.Exprs.{expr_means, all_got}
use Rattle.sp_meaning.specs.Calls.{call_means, hook_means, hooks_mean}
use Rattle.sp_meaning.specs.Units.{in_turn, stored, offset_here}
use Rattle.sp_meaning_units.specs.Openings.{Opening, BySize, ByMax, ByBytes, ByPlace, inside_opened, settled, count_of}
use Rattle.sp_meaning_units.specs.Attributes.{Around, ordered, has, value_of, delimiter_of}
use Rattle.sp_meaning_units.specs.Leaves.{is_msb0, bitfield_value, taken_as, sized_bytes, bytes_until, bytes_until_including, bytes_to_end}
use Rattle.sp_meaning_units.specs.Containers.{Ending, Counted, AtEnd, Until, While, UntilIncluding, Ahead, ending_of, Loop, if_holds, always, data_remain, with_count, elements}
use Rattle.sp_meaning.specs.Around as bodies
use Rattle.sp_meaning_states.specs.Reads as asks

-- what is made of a part that may be there
abbrev pub where_there : {A : Type 0} → Option A → (A → State → Result) → (State → Result) → State → Result
where_there (Some x) there absent st = there x st
where_there None there absent st = absent st

-- `bytes` whose end only its `&size` says is read without a view
abbrev pub is_bytes : Spec → Bool
is_bytes (read r) = is_bytes_read r.op
  where
    is_bytes_read : ReadOp → Bool
    is_bytes_read read_is.Bytes = true
    is_bytes_read op = false
is_bytes s = false

abbrev pub is_sized_bytes : List Attribute → Spec → Bool
is_sized_bytes attributes s = is_bytes s && not (has name_is.Until attributes || has name_is.UntilIncluding attributes)

-- the offset of a field at a place
abbrev pub offset_of : Val → State → Val
offset_of (place to) st = uint W64 (to - start_of st (unit st.self))
offset_of v st = uint W64 0

-- the bodies of a field that hang on its elements, and the others
abbrev pub is_body_of : (foreach : Bool) → Option Hook → Bool
is_body_of true (Some x) = is_foreach x.of
is_body_of false (Some x) = not (is_foreach x.of)
is_body_of foreach None = false

abbrev pub bodies_for : (foreach : Bool) → List Hook → List ℕ → List ℕ
bodies_for foreach hooks [] = []
bodies_for foreach hooks (h ∷ hs) = if is_body_of foreach (slice_get hooks h) then h ∷ bodies_for foreach hooks hs else bodies_for foreach hooks hs

-- what goes to a sink, and what the input is searched for, has no meaning yet
abbrev pub has_meaning : Field → Bool
has_meaning f = not (is_some f.sink || has name_is.Synchronize f.attributes)

-- `enter` is what a unit means that is read, by its number and its arguments; at most n calls, rounds and elements are inside one another.
module _ (names : Names) (hook_names : List (List ℕ)) (list : Typed) (limits : Limits) (reads : Reading → Ask → Read) (n : ℕ) (enter : ℕ → List Val → State → Result) where
  -- An expression of an attribute: `$$` is this value, where it is meant, and `self.offset()` gives this one where a `&parse-from` of the
  -- unit's own is read.
  abbrev pub asked : (current offset : Option Val) → Expr → State → Result
  asked current offset e =
      let around : bodies.Around = record { arguments = []; current = current; offset = offset } in
      expr_means (globals_of list) (call_means names hook_names list limits n) around e

  abbrev pub arguments_of : (offset : Option Val) → Exprs → (List Val → State → Result) → State → Result
  arguments_of offset es go =
      let around : bodies.Around = record { arguments = []; current = None; offset = offset } in
      all_got (globals_of list) (call_means names hook_names list limits n) around es [] go

  -- Behind a parse: `&convert` makes another value of what it gives, and of that `&requires` must hold.
  abbrev pub converted : List Attribute → (offset : Option Val) → (parse : State → Result) → State → Result
  converted attributes offset parse = where_there (value_of name_is.Convert attributes) (λ e st. got (λ v. asked (Some v) offset e) (parse st)) parse

  abbrev pub required : List Attribute → (offset : Option Val) → (parse : State → Result) → State → Result
  required attributes offset parse =
      where_there (value_of name_is.Requires attributes)
      (λ e st. got (λ v. if_holds (asked (Some v) offset e) (ends (Gives v)) (fails Requires)) (parse st)) parse

  abbrev pub finished : List Attribute → (offset : Option Val) → (parse : State → Result) → State → Result
  finished attributes offset parse = required attributes offset (converted attributes offset parse)

  -- The views round a parse: that of `&size`, and inside of it that of `&max-size`.
  abbrev pub in_view : AttributeName → Opening → List Attribute → (offset : Option Val) → (State → Result) → State → Result
  in_view name opening attributes offset go =
      where_there (value_of name attributes) (λ e st. got (λ v. inside_opened opening v go) (asked None offset e st)) go

  abbrev pub in_views : List Attribute → (offset : Option Val) → Spec → (State → Result) → State → Result
  in_views attributes offset s go =
      let inner : State → Result = in_view name_is.MaxSize ByMax attributes offset go in
      if is_sized_bytes attributes s then inner else in_view name_is.Size BySize attributes offset inner

  -- `bytes`, by the attribute that says where they end
  abbrev pub bytes_mean : List Attribute → (offset : Option Val) → State → Result
  bytes_mean attributes offset =
      where_there (delimiter_of name_is.Until attributes) (bytes_until reads)
      (where_there (delimiter_of name_is.UntilIncluding attributes) (bytes_until_including reads)
      (if has name_is.Eod attributes
      then bytes_to_end reads
      else where_there (value_of name_is.Size attributes) (λ e st. got (sized_bytes reads) (asked None offset e st)) (ends Unfinished)))

  abbrev pub integer_in : IntegerForm → State → Result
  integer_in form = integer_means reads (width_bytes form.width) form.little form.signed

  -- a bitfield of the list
  abbrev pub bitfield_means : Around → ℕ → State → Result
  bitfield_means around k =
      known (slice_get list.bitfields k) (λ x. taken_as reads (bitfield_value k (is_little around.byte_order) (is_msb0 around.bit_order) x) (asks.Bytes (x.width / 8)))

  -- what is read as one
  abbrev pub one_means : Around → List Attribute → Ty → ReadOp → State → Result
  one_means around attributes t read_is.Int = known (integer_type around.byte_order t) integer_in
  one_means around attributes t (read_is.Bits k) = bitfield_means around k
  one_means around attributes t read_is.Bytes = bytes_mean attributes around.offset
  one_means around attributes t read_is.Void = ends (Gives void)
  one_means around attributes t op = ends Unfinished

  -- the bodies of `foreach` on an element, one after another; one that ends with `stop` ends the container
  abbrev pub each_body : List ℕ → (value offset : Val) → (go stop : State → Result) → State → Result
  each_body [] v offset go stop st = go st
  each_body (h ∷ hs) v offset go stop st =
      got (λ b. chosen (truth_of b) (each_body hs v offset go stop) stop) (hook_means names hook_names list limits false n h (v ∷ offset ∷ []) st)

  -- what a container asks before an element, in front of it and behind it
  abbrev pub goes_on_by : Ending → (count : ℕ) → ℕ → State → Result
  goes_on_by (Counted e) count k = ends (Gives (bool (nat_lt k count)))
  goes_on_by AtEnd count k = data_remain reads
  goes_on_by (Until e) count k = always
  goes_on_by (While e) count k = always
  goes_on_by (UntilIncluding e) count k = always
  goes_on_by Ahead count k = ends Unfinished

  abbrev pub in_front_by : Ending → (offset : Option Val) → Val → (go stop : State → Result) → State → Result
  in_front_by (Until e) offset v go stop = if_holds (asked (Some v) offset e) stop go
  in_front_by (While e) offset v go stop = if_holds (asked (Some v) offset e) go stop
  in_front_by how offset v go stop = go

  abbrev pub behind_by : Ending → (offset : Option Val) → Val → (go stop : State → Result) → State → Result
  behind_by (UntilIncluding e) offset v go stop = if_holds (asked (Some v) offset e) stop go
  behind_by how offset v go stop = go

  -- The count is asked once, before the first element.
  abbrev pub counted_by : Ending → (offset : Option Val) → (ℕ → State → Result) → State → Result
  counted_by (Counted e) offset go st = got (λ v. with_count (count_of v) go) (asked None offset e st)
  counted_by how offset go st = go 0 st

  -- where an element begins, as its bodies see it: while a `&parse-from` of the unit's own is read, that is where its field stands
  abbrev pub element_offset : Option Val → State → Val
  element_offset (Some v) st = v
  element_offset None st = offset_here st

  abbrev pub container_means : Around → (keeps : Bool) → (bodies : List ℕ) → Ending → (element : State → Result) → State → Result
  container_means around keeps hs how element =
      counted_by how around.offset (λ count.
      let loop : Loop =
      record {
        goes_on = goes_on_by how count;
        element = element;
        in_front = in_front_by how around.offset;
        bodies = each_body hs;
        behind = behind_by how around.offset;
        keeps = keeps;
      }
      in
      elements limits.turns (element_offset around.offset) loop n 0 [])

  -- A reading inside of the views of its attributes. The bodies are those of the elements of a field that is a container; containers
  -- inside of it have none and keep their elements, and so does one in parentheses.
  abbrev pub spec_means : Around → (keeps : Bool) → (bodies : List ℕ) → List Attribute → Spec → State → Result
  spec_means around keeps hs attributes (read r) =
      let inner : Around = ordered around attributes in
      in_views attributes around.offset (read r) (one_means inner attributes r.ty r.op)
  spec_means around keeps hs attributes (unit_read u es) =
      in_views attributes around.offset (unit_read u es) (arguments_of around.offset es (enter u.unit))
  spec_means around keeps hs attributes (list_read span s count) =
      let inner : Around = ordered around attributes in
      in_views attributes around.offset (list_read span s count)
      (container_means around keeps hs (ending_of count attributes) (spec_means inner true [] [] s))
  spec_means around keeps hs attributes (group_read span s own) =
      let inner : Around = ordered around attributes in
      in_views attributes around.offset (group_read span s own) (finished own around.offset (spec_means inner true [] own s))

  -- The value of a field is stored, and then the bodies of its hooks run in order, each with the value and the offset of the field's first
  -- byte.
  abbrev pub kept : Field → (value offset : Val) → State → Result
  kept f v offset = in_turn (stored f.member v ∷ hooks_mean names hook_names list limits false n (bodies_for false list.hooks f.hooks) (v ∷ offset ∷ []) ∷ [])

  -- a field whose first byte has this offset, where this is how it is parsed
  abbrev pub parsed : Field → (parse : State → Result) → (offset : Val) → State → Result
  parsed f parse offset st = got (λ v. kept f v offset) (finished f.attributes None parse st)

  -- A field is parsed from its place, from the bytes of its `&parse-from`, or from the place of its `&parse-at`.
  abbrev pub read_means : Around → Field → State → Result
  read_means around f st =
      let here : Val = offset_here st in
      let parse : Option Val → State → Result =
      λ offset. spec_means (record around { offset = offset }) (is_some f.member) (bodies_for true list.hooks f.hooks) f.attributes f.spec
      in
      where_there (value_of name_is.ParseFrom f.attributes)
      (λ e st. got (λ b. parsed f (inside_opened ByBytes b (parse (Some here))) here) (asked None None e st))
      (where_there (value_of name_is.ParseAt f.attributes)
      (λ e st. got (λ to st. parsed f (inside_opened ByPlace to (settled reads (parse None))) (offset_of to st) st) (asked None None e st))
      (parsed f (parse None) here)) st

  -- `&try` is open until the last body has ended
  abbrev pub tried_means : Around → Field → State → Result
  tried_means around f st =
      if has name_is.Try f.attributes
      then inside (InTry st.tries st.now.place f.member) (read_means around f (record st { tries = true }))
      else read_means around f st

  -- what is read where it isn't left out by its `if`
  abbrev pub if_means : Around → Field → State → Result
  if_means around f =
      where_there f.condition (λ e. if_holds (asked None None e) (tried_means around f) (ends Fine)) (tried_means around f)

  abbrev pub field_means : Around → Field → State → Result
  field_means around f = chosen (has_meaning f) (if_means around f) (ends Unfinished)
