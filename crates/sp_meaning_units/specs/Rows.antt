-- Rows on which units are computed: what each tells of some bytes, and how it ends.
use Rattle.std.specs.Prelude.{◌≡◌, ℕ, ◌^◌, pos, true, false, Bool, List, [], ◌∷◌, ◌++◌, replicate, Option, Some, None, refl}
use Rattle.sp_base.specs.Input.{Close, held_open, ended}
use Rattle.sp_base.specs.declared.kinds.PKind.{PKind}
use Rattle.sp_base.specs.declared.kinds.PKind.TheVariants as error_is
use Rattle.sp_base.specs.declared.places.Span.{Span}
use Rattle.sp_base.specs.declared.places.Limits.{Limits}
use Rattle.sp_numbers.specs.declared.width.Width.TheVariants.{W8, W16, W64}
use Rattle.sp_words.specs.declared.operators.BinaryOp.{BinaryOp}
use Rattle.sp_words.specs.declared.operators.BinaryOp.TheVariants as op_is
use Rattle.sp_words.specs.declared.words.AttributeName.{AttributeName}
use Rattle.sp_words.specs.declared.words.AttributeName.TheVariants as name_is
use Rattle.sp_events.specs.declared.event.What.{What}
use Rattle.sp_events.specs.declared.event.What.TheVariants as told_as
use Rattle.sp_events.specs.Tree.{TreeData}
use Rattle.sp_events.specs.Tree as told
use Rattle.sp_types.specs.declared.words.Word.TheVariants as word_is
use Rattle.sp_types.specs.Types.{Ty, word}
use Rattle.sp_typed.specs.declared.words.LeafOp.{LeafOp}
use Rattle.sp_typed.specs.declared.words.LeafOp.TheVariants as leaf_is
use Rattle.sp_typed.specs.declared.words.OneOp.TheVariants as one_is
use Rattle.sp_typed.specs.declared.words.TwoOp.TheVariants as two_is
use Rattle.sp_typed.specs.declared.words.ManyOp.TheVariants as many_is
use Rattle.sp_typed.specs.declared.words.UnitMethod.TheVariants as unit_method
use Rattle.sp_typed.specs.declared.words.Standing.TheVariants.{Meant}
use Rattle.sp_typed.specs.Exprs.{Expr, leaf, one, two, many, exprs, none}
use Rattle.sp_typed.specs.Stmts.{print}
use Rattle.sp_typed_units.specs.declared.attributes.Attribute.{Attribute}
use Rattle.sp_typed_units.specs.declared.declarations.BitRange.{BitRange}
use Rattle.sp_typed_units.specs.declared.declarations.Bitfield.{Bitfield}
use Rattle.sp_typed_units.specs.declared.declarations.Hook.{Hook}
use Rattle.sp_typed_units.specs.declared.declarations.HookOf.{HookOf}
use Rattle.sp_typed_units.specs.declared.declarations.HookOf.TheVariants as hook_of
use Rattle.sp_typed_units.specs.declared.declarations.MemberKind.TheVariants as member_is
use Rattle.sp_typed_units.specs.declared.declarations.Typed.{Typed}
use Rattle.sp_typed_units.specs.declared.declarations.Unit.{Unit as TypedUnit}
use Rattle.sp_typed_units.specs.declared.items.Arm.{Arm}
use Rattle.sp_typed_units.specs.declared.readings.ReadOp.{ReadOp}
use Rattle.sp_typed_units.specs.declared.readings.ReadOp.TheVariants as read_is
use Rattle.sp_typed_units.specs.Specs.{Spec, read, unit_read, list_read, group_read}
use Rattle.sp_typed_units.specs.Parts.{Part, field, choice, parts, no_arms, more_arms}
use Rattle.sp_meaning_states.specs.States.{State, End, Gives, Failed, Need, Result, Ends, first}
use Rattle.sp_meaning_states.specs.Reads.{NoToken, reads}
use Rattle.sp_meaning_states.specs.Telling.{Names, value_tree}
use Rattle.sp_meaning_units.specs.Units.{unit_means}

abbrev pub here : Span
here = record { from = 0; to = 0 }

abbrev pub byte : Ty
byte = word (word_is.Uint W8)

abbrev pub short : Ty
short = word (word_is.Uint W16)

abbrev pub signed : Ty
signed = word (word_is.Int W8)

abbrev pub octets : Ty
octets = word word_is.Bytes

abbrev pub leaf_of : Ty → LeafOp → Expr
leaf_of t o = leaf (record { span = here; ty = t; op = o })

abbrev pub number : ℕ → Expr
number n = leaf_of byte (leaf_is.Number n)

abbrev pub itself : Expr
itself = leaf_of (word (word_is.Unit 0)) (leaf_is.Itself Meant)

abbrev pub member : ℕ → Expr
member m = one (record { span = here; ty = byte; op = one_is.Field m }) itself

abbrev pub current : Expr
current = leaf_of byte (leaf_is.Current Meant)

abbrev pub joined : BinaryOp → Expr → Expr → Expr
joined o a b = two (record { span = here; ty = byte; op = two_is.Binary o }) a b

abbrev pub offset : Expr
offset = many (record { span = here; ty = byte; op = many_is.OfUnit unit_method.Offset here }) (exprs (itself ∷ []))

-- attributes
abbrev pub plain : AttributeName → Attribute
plain name = record { span = here; name = name; value = None; number = None; bytes = None }

abbrev pub valued : AttributeName → Expr → Attribute
valued name e = record { span = here; name = name; value = Some e; number = None; bytes = None }

abbrev pub ordering : AttributeName → ℕ → Attribute
ordering name n = record { span = here; name = name; value = None; number = Some n; bytes = None }

abbrev pub delimited : AttributeName → List ℕ → Attribute
delimited name d = record { span = here; name = name; value = None; number = None; bytes = Some d }

-- readings
abbrev pub one_as : Ty → ReadOp → Spec
one_as t o = read (record { span = here; ty = t; op = o })

abbrev pub integer : Ty → Spec
integer t = one_as t read_is.Int

abbrev pub raw : Spec
raw = one_as octets read_is.Bytes

abbrev pub list_of : Spec → Option Expr → Spec
list_of s count = list_read here s count

abbrev pub in_group : Spec → List Attribute → Spec
in_group s attributes = group_read here s attributes

-- a field of the unit, by its member; one with a condition; and one with hooks
abbrev pub the_field : Option ℕ → Spec → List Attribute → Option Expr → List ℕ → Part
the_field m s attributes condition hooks =
    field (record { span = here; member = m; taken = false; ty = byte; spec = s; attributes = attributes; condition = condition; sink = None; hooks = hooks })

abbrev pub named : ℕ → Spec → List Attribute → Part
named m s attributes = the_field (Some m) s attributes None []

-- `on f { print $$, self.offset(); }`
abbrev pub prints : HookOf → Hook
prints of =
    record { «module» = 0; span = here; of = of; fits = true; parameters = []; priority = None; rank = Some (pos 0); slots = []; body = print here (exprs (current ∷ offset ∷ [])) }

abbrev pub unit_of : List Part → TypedUnit
unit_of ps =
    record {
      path = [];
      «module» = 0;
      span = here;
      public = true;
      parameters = [];
      members = replicate 3 (record { name = []; kind = member_is.Field; ty = byte });
      variables = [];
      sinks = [];
      parts = ps;
      orders = [];
      filter = false;
      uses_input = false;
      connects_filter = false;
    }

abbrev pub range : ℕ → ℕ → BitRange
range from to = record { name = []; span = here; from = from; from_span = here; to = to; to_span = here }

-- two bitfields: of one byte in two halves, and of two bytes with the lowest and the highest bit
abbrev pub bitfields : List Bitfield
bitfields =
    (record { «module» = 0; width = 8; width_span = here; ranges = range 0 3 ∷ range 4 7 ∷ [] })
    ∷ (record { «module» = 0; width = 16; width_span = here; ranges = range 0 0 ∷ range 8 15 ∷ [] })
    ∷ []

abbrev pub listed : List TypedUnit → List Hook → Typed
listed us hooks = record { units = us; functions = []; hooks = hooks; constants = []; enums = []; bitfields = bitfields; aliases = []; conversions = []; orders = [] }

abbrev pub names : Names
names =
    record { members = replicate 3 ((97 ∷ []) ∷ (98 ∷ []) ∷ (99 ∷ []) ∷ []); labels = []; ranges = replicate 2 ((120 ∷ []) ∷ (121 ∷ []) ∷ []) }

abbrev pub limits : Limits
limits = record { turns = 9; depth = 3; fibers = 1 }

-- how the first unit of a list stands
pub data Stand : Type 0 where
  Done : TreeData → Stand
  Waiting : ℕ → Stand
  Fails : PKind → ℕ → Stand
  Odd : Stand

abbrev pub stand : End → State → Stand
stand (Gives v) st = Done (value_tree names st.instances v)
stand (Failed e) st = Fails e.kind e.place
stand (Need m) st = Waiting m
stand how st = Odd

abbrev pub told_of : Result → (List What) × Stand
told_of (Ends how es st) = (es, stand how st)

abbrev pub of_list : List TypedUnit → List Hook → List ℕ → Close → (List What) × Stand
of_list us hooks s close = told_of (unit_means names [] (listed us hooks) limits (reads (λ set w over. NoToken) s close) 20 0 [] first)

abbrev pub of : List Part → List ℕ → Close → (List What) × Stand
of ps s close = of_list (unit_of ps ∷ []) [] s close

-- the members that are set, by their names in order
abbrev pub holds : List (List ℕ × TreeData) → (List What) × Stand
holds ms = ([], Done (told.unit (told.fields_of ms)))

abbrev pub a : TreeData → List ℕ × TreeData
a t = (97 ∷ [], t)

abbrev pub b : TreeData → List ℕ × TreeData
b t = (98 ∷ [], t)

abbrev pub fails : PKind → ℕ → (List What) × Stand
fails kind at = ([], Fails kind at)

abbrev pub waits : ℕ → (List What) × Stand
waits at = ([], Waiting at)

-- `a: bytes &size=2; b: uint8;`
abbrev pub sized : List Part
sized = named 0 raw (valued name_is.Size (number 2) ∷ []) ∷ named 1 (integer byte) [] ∷ []

size_takes_all : of sized (1 ∷ 2 ∷ 3 ∷ []) held_open ≡ holds (a (told.bytes (1 ∷ 2 ∷ [])) ∷ b (told.uint 3) ∷ [])
size_takes_all = refl

size_waits : of sized (1 ∷ []) held_open ≡ waits 0
size_waits = refl

size_is_short : of sized (1 ∷ []) ended ≡ fails error_is.Short 0
size_is_short = refl

-- a size that is negative, and one that leads past 2^63
abbrev pub minus : Expr
minus = one (record { span = here; ty = signed; op = one_is.Negate }) (leaf_of signed (leaf_is.Number 1))

no_negative_size : of (named 0 raw (valued name_is.Size minus ∷ []) ∷ []) (1 ∷ []) held_open ≡ fails error_is.BadSize 0
no_negative_size = refl

abbrev pub wide : ℕ → Expr
wide n = leaf_of (word (word_is.Uint W64)) (leaf_is.Number n)

no_size_past_the_bound : of (named 1 (integer byte) [] ∷ named 0 raw (valued name_is.Size (wide (2 ^ 63)) ∷ []) ∷ []) (1 ∷ []) held_open ≡ fails error_is.BadSize 1
no_size_past_the_bound = refl

-- delimiters: the first one counts, is taken, and is left out of the value or kept
abbrev pub until : AttributeName → List Part
until name = named 0 raw (delimited name (10 ∷ 10 ∷ []) ∷ []) ∷ named 1 (integer byte) [] ∷ []

until_the_first : of (until name_is.Until) (1 ∷ 10 ∷ 10 ∷ 10 ∷ []) held_open ≡ holds (a (told.bytes (1 ∷ [])) ∷ b (told.uint 10) ∷ [])
until_the_first = refl

until_including : of (until name_is.UntilIncluding) (1 ∷ 10 ∷ 10 ∷ 5 ∷ []) held_open ≡ holds (a (told.bytes (1 ∷ 10 ∷ 10 ∷ [])) ∷ b (told.uint 5) ∷ [])
until_including = refl

until_waits : of (until name_is.Until) (1 ∷ 10 ∷ []) held_open ≡ waits 0
until_waits = refl

until_is_short : of (until name_is.Until) (1 ∷ 10 ∷ []) ended ≡ fails error_is.Short 0
until_is_short = refl

-- `&eod` waits for the end
eod_waits : of (named 0 raw (plain name_is.Eod ∷ []) ∷ []) (1 ∷ []) held_open ≡ waits 0
eod_waits = refl

eod_takes_all : of (named 0 raw (plain name_is.Eod ∷ []) ∷ []) (1 ∷ 2 ∷ []) ended ≡ holds (a (told.bytes (1 ∷ 2 ∷ [])) ∷ [])
eod_takes_all = refl

-- `a: uint8 &size=2;` ends before its view, and doesn't wait for the rest
size_left : of (named 0 (integer byte) (valued name_is.Size (number 2) ∷ []) ∷ []) (1 ∷ []) held_open ≡ fails error_is.SizeLeft 1
size_left = refl

-- `a: uint16 &size=1;`: the view ends where its byte is there
short_in_a_view : of (named 0 (integer short) (valued name_is.Size (number 1) ∷ []) ∷ []) (1 ∷ []) held_open ≡ fails error_is.Short 0
short_in_a_view = refl

-- `a: bytes &until=b"\n" &max-size=2;`
abbrev pub at_most : List Part
at_most = named 0 raw (delimited name_is.Until (10 ∷ []) ∷ valued name_is.MaxSize (number 2) ∷ []) ∷ []

within_the_size : of at_most (1 ∷ 10 ∷ []) held_open ≡ holds (a (told.bytes (1 ∷ [])) ∷ [])
within_the_size = refl

-- the delimiter is the third byte: more than two are taken
over_the_size : of at_most (1 ∷ 2 ∷ 10 ∷ []) held_open ≡ fails error_is.SizeOver 3
over_the_size = refl

-- no delimiter in three bytes: the data end at the limit
over_by_short : of at_most (1 ∷ 2 ∷ 3 ∷ []) held_open ≡ fails error_is.SizeOver 0
over_by_short = refl

-- two bytes of an ended input don't reach the limit
short_before_the_limit : of at_most (1 ∷ 2 ∷ []) ended ≡ fails error_is.Short 0
short_before_the_limit = refl

-- `a: (bytes &eod) &size=2` inside `&max-size=1`: the inner limit is beyond, so the Short is at the outer one
nested_views : of (named 0 (in_group (integer short) (valued name_is.Size (number 2) ∷ [])) (valued name_is.MaxSize (number 0) ∷ []) ∷ []) (1 ∷ 2 ∷ []) held_open ≡ fails error_is.SizeOver 0
nested_views = refl

-- `a: uint8 &convert=$$ + 1 &requires=$$ == 3;`
abbrev pub made_sure : List Part
made_sure =
    named 0 (integer byte)
    (valued name_is.Requires (joined op_is.Equal current (number 3)) ∷ valued name_is.Convert (joined op_is.Add current (number 1)) ∷ []) ∷ []

convert_before_requires : of made_sure (2 ∷ []) held_open ≡ holds (a (told.uint 3) ∷ [])
convert_before_requires = refl

requires_fails_behind : of made_sure (3 ∷ []) held_open ≡ fails error_is.Requires 1
requires_fails_behind = refl

-- `a: uint8; b: uint8 if (self.a == 1);`
abbrev pub where_one : List Part
where_one = named 0 (integer byte) [] ∷ the_field (Some 1) (integer byte) [] (Some (joined op_is.Equal (member 0) (number 1))) [] ∷ []

condition_holds : of where_one (1 ∷ 7 ∷ []) held_open ≡ holds (a (told.uint 1) ∷ b (told.uint 7) ∷ [])
condition_holds = refl

condition_fails : of where_one (2 ∷ []) held_open ≡ holds (a (told.uint 2) ∷ [])
condition_fails = refl

-- bitfields by byte and bit orders
abbrev pub bits : ℕ → List Attribute → List Part
bits k attributes = named 0 (one_as (word (word_is.Bitfield k)) (read_is.Bits k)) attributes ∷ []

abbrev pub two_ranges : ℕ → ℕ → (List What) × Stand
two_ranges x y = holds (a (told.bits ((120 ∷ [], x) ∷ (121 ∷ [], y) ∷ [])) ∷ [])

from_the_lowest : of (bits 0 []) (165 ∷ []) held_open ≡ two_ranges 5 10
from_the_lowest = refl

from_the_highest : of (bits 0 (ordering name_is.BitOrder 1 ∷ [])) (165 ∷ []) held_open ≡ two_ranges 10 5
from_the_highest = refl

network_bits : of (bits 1 []) (18 ∷ 53 ∷ []) held_open ≡ two_ranges 1 18
network_bits = refl

little_bits : of (bits 1 (ordering name_is.ByteOrder 0 ∷ [])) (18 ∷ 53 ∷ []) held_open ≡ two_ranges 0 53
little_bits = refl

-- the nearest byte order counts: `a: (uint16 &byte-order=Little) &..`
nearest_order : of (named 0 (in_group (integer short) (ordering name_is.ByteOrder 0 ∷ [])) (ordering name_is.ByteOrder 1 ∷ []) ∷ []) (1 ∷ 0 ∷ []) held_open ≡ holds (a (told.uint 1) ∷ [])
nearest_order = refl

-- `a: uint8; b: uint8[self.a];`
abbrev pub counted : List Part
counted = named 0 (integer byte) [] ∷ named 1 (list_of (integer byte) (Some (member 0))) [] ∷ []

count_of_elements : of counted (2 ∷ 7 ∷ 8 ∷ []) held_open ≡ holds (a (told.uint 2) ∷ b (told.vector (told.trees_of (told.uint 7 ∷ told.uint 8 ∷ []))) ∷ [])
count_of_elements = refl

no_elements : of counted (0 ∷ []) held_open ≡ holds (a (told.uint 0) ∷ b (told.vector (told.trees_of [])) ∷ [])
no_elements = refl

element_waits : of counted (2 ∷ 7 ∷ []) held_open ≡ waits 2
element_waits = refl

-- elements up to the end of a view, of which the last may be cut
abbrev pub to_end : List Part
to_end = named 0 (list_of (integer short) None) (valued name_is.Size (number 3) ∷ []) ∷ []

waits_for_an_element : of (named 0 (list_of (integer byte) None) (plain name_is.Eod ∷ []) ∷ []) (1 ∷ []) held_open ≡ waits 1
waits_for_an_element = refl

ends_at_the_end : of (named 0 (list_of (integer byte) None) (plain name_is.Eod ∷ []) ∷ []) (1 ∷ []) ended ≡ holds (a (told.vector (told.trees_of (told.uint 1 ∷ []))) ∷ [])
ends_at_the_end = refl

cut_element : of to_end (0 ∷ 1 ∷ 2 ∷ []) held_open ≡ fails error_is.Short 2
cut_element = refl

-- `a: uint8[] &until=$$ == 0;`, with `&while=$$ == 1`, and with `&until-including=$$ == 0`
abbrev pub tested : AttributeName → ℕ → List Part
tested name n = named 0 (list_of (integer byte) None) (valued name (joined op_is.Equal current (number n)) ∷ []) ∷ []

until_drops : of (tested name_is.Until 0) (1 ∷ 2 ∷ 0 ∷ []) held_open ≡ holds (a (told.vector (told.trees_of (told.uint 1 ∷ told.uint 2 ∷ []))) ∷ [])
until_drops = refl

while_drops : of (tested name_is.While 1) (1 ∷ 2 ∷ []) held_open ≡ holds (a (told.vector (told.trees_of (told.uint 1 ∷ []))) ∷ [])
while_drops = refl

including_keeps : of (tested name_is.UntilIncluding 0) (1 ∷ 0 ∷ []) held_open ≡ holds (a (told.vector (told.trees_of (told.uint 1 ∷ told.uint 0 ∷ []))) ∷ [])
including_keeps = refl

-- each element counts a turn of its input, which go back to 0 where the place rises: elements that take nothing end by the limit
endless_elements : of (named 0 (list_of (one_as byte read_is.Void) (Some (number 20))) [] ∷ []) [] held_open ≡ fails error_is.Turns 0
endless_elements = refl

-- `: uint8; a: uint16 { print $$, self.offset(); }`
abbrev pub print_of : TreeData → ℕ → List What
print_of t n = told_as.Print (t ∷ told.uint n ∷ []) ∷ []

hook_has_the_first_byte :
    of_list (unit_of (the_field None (integer byte) [] None [] ∷ the_field (Some 0) (integer short) [] None (0 ∷ []) ∷ []) ∷ []) (prints (hook_of.Field 0 0) ∷ []) (9 ∷ 0 ∷ 5 ∷ []) held_open
    ≡ (told_as.Hook [] (told.uint 5 ∷ []) ∷ print_of (told.uint 5) 1, Done (told.unit (told.fields_of (a (told.uint 5) ∷ []))))
hook_has_the_first_byte = refl

-- bodies of `foreach` have the element and its offset, and run before it is added
abbrev pub element_told : ℕ → ℕ → List What
element_told v n = told_as.Hook [] (told.uint v ∷ []) ∷ print_of (told.uint v) n

foreach_has_the_element :
    of_list (unit_of (the_field None (integer byte) [] None [] ∷ the_field (Some 0) (list_of (integer byte) (Some (number 2))) [] None (0 ∷ []) ∷ []) ∷ []) (prints (hook_of.Elements 0 0) ∷ []) (9 ∷ 5 ∷ 6 ∷ []) held_open
    ≡ (element_told 5 1 ++ element_told 6 2, Done (told.unit (told.fields_of (a (told.vector (told.trees_of (told.uint 5 ∷ told.uint 6 ∷ []))) ∷ []))))
foreach_has_the_element = refl

-- `a: bytes &size=2; b: uint16 &parse-from=self.a; : uint8`: the input goes on behind `a`
abbrev pub from_bytes : Spec → List Part
from_bytes s = named 0 raw (valued name_is.Size (number 2) ∷ []) ∷ named 1 s (valued name_is.ParseFrom (member 0) ∷ []) ∷ named 2 (integer byte) [] ∷ []

abbrev pub c : TreeData → List ℕ × TreeData
c t = (99 ∷ [], t)

parse_from_takes_nothing : of (from_bytes (integer short)) (1 ∷ 2 ∷ 3 ∷ []) held_open ≡ holds (a (told.bytes (1 ∷ 2 ∷ [])) ∷ b (told.uint 258) ∷ c (told.uint 3) ∷ [])
parse_from_takes_nothing = refl

-- an error inside stands at the place of the field
parse_from_is_short : of (from_bytes (integer (word (word_is.Uint W64)))) (1 ∷ 2 ∷ 3 ∷ []) held_open ≡ fails error_is.Short 2
parse_from_is_short = refl

-- while it is read, `self.offset()` is where the field stands
offset_in_parse_from : of (from_bytes (list_of (integer byte) (Some offset))) (1 ∷ 2 ∷ 3 ∷ []) held_open ≡ holds (a (told.bytes (1 ∷ 2 ∷ [])) ∷ b (told.vector (told.trees_of (told.uint 1 ∷ told.uint 2 ∷ []))) ∷ c (told.uint 3) ∷ [])
offset_in_parse_from = refl

-- units in units: the inner one counts from its own start
abbrev pub nested : List TypedUnit
nested = unit_of (named 0 (integer byte) [] ∷ named 1 (unit_read (record { span = here; unit = 1 }) none) [] ∷ []) ∷ unit_of (the_field (Some 0) (integer byte) [] None (0 ∷ []) ∷ []) ∷ []

unit_in_a_unit :
    of_list nested (prints (hook_of.Field 1 0) ∷ []) (7 ∷ 8 ∷ []) held_open
    ≡ (told_as.Hook [] (told.uint 8 ∷ []) ∷ print_of (told.uint 8) 0, Done (told.unit (told.fields_of (a (told.uint 7) ∷ b (told.unit (told.fields_of (a (told.uint 8) ∷ []))) ∷ []))))
unit_in_a_unit = refl

-- `switch (self.a) { * -> b: uint8; 1, 2 -> b: uint16; }`
abbrev pub arm : List Expr → Bool → Arm
arm values otherwise = record { span = here; values = values; otherwise = otherwise }

abbrev pub switched : Bool → List Part
switched otherwise =
    named 0 (integer byte) []
    ∷ choice here (Some (member 0))
    (more_arms (arm [] otherwise) (parts (named 1 (integer byte) [] ∷ [])) (more_arms (arm (number 1 ∷ number 2 ∷ []) false) (parts (named 1 (integer short) [] ∷ [])) no_arms))
    ∷ []

first_equal_arm : of (switched true) (2 ∷ 0 ∷ 9 ∷ []) held_open ≡ holds (a (told.uint 2) ∷ b (told.uint 9) ∷ [])
first_equal_arm = refl

any_other_arm : of (switched true) (3 ∷ 9 ∷ []) held_open ≡ holds (a (told.uint 3) ∷ b (told.uint 9) ∷ [])
any_other_arm = refl

no_arm : of (switched false) (3 ∷ 9 ∷ []) held_open ≡ fails error_is.NoAlternative 1
no_arm = refl

-- units inside one another are limited in depth
abbrev pub itself_again : List TypedUnit
itself_again = unit_of (named 0 (unit_read (record { span = here; unit = 0 }) none) [] ∷ []) ∷ []

depth_is_limited : of_list itself_again [] [] held_open ≡ fails error_is.Depth 0
depth_is_limited = refl
