-- The methods of values: which there are, what they take, what they give, and what stands for arguments that are left out.
use Rattle.std.specs.Prelude.{ℕ, ◌==◌, Bool, false, if◌then◌else◌, List, [], ◌∷◌, length, Option, Some, None, codes}
use Rattle.std.specs.Str.{bytes_eq}
use Rattle.sp_base.specs.declared.places.Span.{Span}
use Rattle.sp_words.specs.declared.methods.Method.{Method}
use Rattle.sp_words.specs.declared.methods.Method.TheVariants as method_is
use Rattle.sp_numbers.specs.declared.width.Width.TheVariants.{W64}
use Rattle.sp_types.specs.declared.words.Word.TheVariants as word_is
use Rattle.sp_types.specs.declared.words.Maker.TheVariants as maker_is
use Rattle.sp_types.specs.Types.{Ty, word, made}
use Rattle.sp_types.specs.Types as types
use Rattle.sp_typed.specs.declared.words.UnitMethod.{UnitMethod}
use Rattle.sp_typed.specs.declared.words.UnitMethod.TheVariants as unit_is
use Rattle.sp_typed.specs.declared.words.SinkMethod.{SinkMethod}
use Rattle.sp_typed.specs.declared.words.SinkMethod.TheVariants as sink_is
use Rattle.sp_typed.specs.declared.words.ManyOp.TheVariants as many_is
use Rattle.sp_typed.specs.declared.words.LeafOp.TheVariants as leaf_is
use Rattle.sp_typed.specs.Exprs.{Expr}
use Rattle.sp_type_context.specs.declared.context.Callable.{Callable}
use Rattle.sp_type_operands.specs.Operands.{unknown, first_type, second_type}
use Rattle.sp_type_context.specs.Typing.{leaf_at}

abbrev pub number : Ty
number = word (word_is.Uint W64)

abbrev pub signed : Ty
signed = word (word_is.Int W64)

abbrev pub octets : Ty
octets = word word_is.Bytes

abbrev pub nothing : Ty
nothing = word word_is.Void

-- the enums of the library by their numbers: byte orders, charsets, and what is done where bytes don't decode
abbrev pub order : Ty
order = word (word_is.Enum 0)

abbrev pub charset : Ty
charset = word (word_is.Enum 2)

abbrev pub strategy : Ty
strategy = word (word_is.Enum 3)

-- what a table says of a name
abbrev pub told : {A : Type 0} → List ℕ → List (List ℕ × A) → Option A
told x [] = None
told x (r ∷ rs) = if bytes_eq x r.0 then Some r.1 else told x rs

-- whether the first argument is a byte order
abbrev pub is_order : Ty → Bool
is_order (word (word_is.Enum n)) = n == 0
is_order _ = false

abbrev pub begins_with_order : List Ty → Bool
begins_with_order [] = false
begins_with_order (t ∷ ts) = is_order t

-- digits in a base, or bytes in an order
abbrev pub by_order : Method → Method → List Ty → Method
by_order digits bytes ts = if begins_with_order ts then bytes else digits

abbrev pub bytes_methods : List Ty → List (List ℕ × Method)
bytes_methods ts =
    (codes "to_uint", by_order method_is.ToUint method_is.ToUintOrder ts)
    ∷ (codes "to_int", by_order method_is.ToInt method_is.ToIntOrder ts)
    ∷ (codes "sub", method_is.Sub)
    ∷ (codes "starts_with", method_is.StartsWith)
    ∷ (codes "split", method_is.Split)
    ∷ (codes "split1", method_is.Split1)
    ∷ (codes "lower", method_is.Lower)
    ∷ (codes "upper", method_is.Upper)
    ∷ (codes "decode", method_is.Decode)
    ∷ []

abbrev pub text_methods : List (List ℕ × Method)
text_methods = (codes "encode", method_is.Encode) ∷ []

abbrev pub vector_methods : List (List ℕ × Method)
vector_methods =
    (codes "push_back", method_is.PushBack)
    ∷ (codes "pop_back", method_is.PopBack)
    ∷ (codes "front", method_is.Front)
    ∷ (codes "back", method_is.Back)
    ∷ []

-- `get(k)`, and `get(k, d)`
abbrev pub are_two : List Ty → Bool
are_two ts = length ts == 2

abbrev pub get_method : List Ty → Method
get_method ts = if are_two ts then method_is.GetOr else method_is.Get

abbrev pub map_methods : List Ty → List (List ℕ × Method)
map_methods ts = (codes "get", get_method ts) ∷ []

-- the method of the library that values of a type have, for arguments of these types
abbrev pub library_method : Ty → List ℕ → List Ty → Option Method
library_method (word word_is.Bytes) x ts = told x (bytes_methods ts)
library_method (word word_is.String) x ts = told x text_methods
library_method (made maker_is.Vector us) x ts = told x vector_methods
library_method (made maker_is.Map us) x ts = told x (map_methods ts)
library_method _ x ts = None

-- the element of a vector and the key of a map, and the value of a map
abbrev pub element : Ty → Ty
element (made m ts) = first_type ts
element (word w) = unknown

abbrev pub mapped : Ty → Ty
mapped (made m ts) = second_type ts
mapped (word w) = unknown

-- what a method of the library gives, by its receiver's type
abbrev pub method_gives : Method → Ty → Ty
method_gives method_is.ToUint t = number
method_gives method_is.ToUintOrder t = number
method_gives method_is.ToInt t = signed
method_gives method_is.ToIntOrder t = signed
method_gives method_is.Sub t = octets
method_gives method_is.StartsWith t = word word_is.Bool
method_gives method_is.Split t = made maker_is.Vector (types.more octets types.none)
method_gives method_is.Split1 t = made maker_is.Tuple (types.more octets (types.more octets types.none))
method_gives method_is.Lower t = octets
method_gives method_is.Upper t = octets
method_gives method_is.Decode t = word word_is.String
method_gives method_is.Encode t = octets
method_gives method_is.PushBack t = nothing
method_gives method_is.PopBack t = element t
method_gives method_is.Front t = element t
method_gives method_is.Back t = element t
method_gives method_is.Get t = mapped t
method_gives method_is.GetOr t = mapped t

-- what it takes beside its receiver
abbrev pub method_takes : Method → Ty → List Ty
method_takes method_is.ToUint t = number ∷ []
method_takes method_is.ToInt t = number ∷ []
method_takes method_is.ToUintOrder t = order ∷ []
method_takes method_is.ToIntOrder t = order ∷ []
method_takes method_is.Sub t = number ∷ number ∷ []
method_takes method_is.StartsWith t = octets ∷ []
method_takes method_is.Split t = octets ∷ []
method_takes method_is.Split1 t = octets ∷ []
method_takes method_is.Lower t = []
method_takes method_is.Upper t = []
method_takes method_is.Decode t = charset ∷ strategy ∷ []
method_takes method_is.Encode t = []
method_takes method_is.PushBack t = element t ∷ []
method_takes method_is.PopBack t = []
method_takes method_is.Front t = []
method_takes method_is.Back t = []
method_takes method_is.Get t = element t ∷ []
method_takes method_is.GetOr t = element t ∷ mapped t ∷ []

-- the methods of units, what each gives, and what it takes
abbrev pub unit_methods : List (List ℕ × UnitMethod)
unit_methods =
    (codes "offset", unit_is.Offset)
    ∷ (codes "input", unit_is.Input)
    ∷ (codes "set_input", unit_is.SetInput)
    ∷ (codes "backtrack", unit_is.Backtrack)
    ∷ (codes "connect_filter", unit_is.ConnectFilter)
    ∷ (codes "forward", unit_is.Forward)
    ∷ (codes "forward_eod", unit_is.ForwardEod)
    ∷ []

abbrev pub unit_method_gives : UnitMethod → Ty
unit_method_gives unit_is.Offset = number
unit_method_gives unit_is.Input = word word_is.Iterator
unit_method_gives _ = nothing

abbrev pub unit_method_takes : UnitMethod → List Ty
unit_method_takes unit_is.SetInput = word word_is.Iterator ∷ []
unit_method_takes unit_is.ConnectFilter = word word_is.New ∷ []
unit_method_takes unit_is.Forward = octets ∷ []
unit_method_takes _ = []

-- `write(data)`, and `write(data, seq)`
abbrev pub write_method : List Ty → SinkMethod
write_method ts = if are_two ts then sink_is.WriteAt else sink_is.Write

-- the methods of sinks, for so many arguments, and what each takes; none gives anything
abbrev pub sink_methods : List Ty → List (List ℕ × SinkMethod)
sink_methods ts =
    (codes "connect", sink_is.Connect)
    ∷ (codes "write", write_method ts)
    ∷ (codes "gap", sink_is.Gap)
    ∷ (codes "skip", sink_is.Skip)
    ∷ (codes "close", sink_is.Close)
    ∷ (codes "set_initial_sequence_number", sink_is.SetInitial)
    ∷ []

abbrev pub sink_method_takes : SinkMethod → List Ty
sink_method_takes sink_is.Connect = word word_is.New ∷ []
sink_method_takes sink_is.Write = octets ∷ []
sink_method_takes sink_is.WriteAt = octets ∷ number ∷ []
sink_method_takes sink_is.Gap = number ∷ number ∷ []
sink_method_takes sink_is.Skip = number ∷ []
sink_method_takes sink_is.Close = []
sink_method_takes sink_is.SetInitial = number ∷ []

-- a method as what is called, with the type of what it gives
abbrev pub library_call : Ty → Option Method → Option Callable
library_call t None = None
library_call t (Some m) = Some (record { op = many_is.Method m None; ty = method_gives m t })

abbrev pub unit_call : Span → Option UnitMethod → Option Callable
unit_call span None = None
unit_call span (Some m) = Some (record { op = many_is.OfUnit m span; ty = unit_method_gives m })

abbrev pub sink_call : Option SinkMethod → Option Callable
sink_call None = None
sink_call (Some m) = Some (record { op = many_is.OfSink m; ty = nothing })

-- The method of a name that values of a type have, for arguments of these types, where its name stands on this slice. What is
-- unknown has none.
abbrev pub method_of : Ty → List ℕ → Span → List Ty → Option Callable
method_of (word (word_is.Unit n)) x span ts = unit_call span (told x unit_methods)
method_of (word word_is.Sink) x span ts = sink_call (told x (sink_methods ts))
method_of t x span ts = library_call t (library_method t x ts)

-- What stands for arguments of a method that were left out, where so many were given: the base 10, UTF-8, and that each byte
-- that doesn't decode is replaced.
abbrev pub base_ten : Span → Expr
base_ten span = leaf_at span number (leaf_is.Number 10)

abbrev pub utf8 : Span → Expr
utf8 span = leaf_at span charset (leaf_is.Label 2 0)

abbrev pub replace : Span → Expr
replace span = leaf_at span strategy (leaf_is.Label 3 1)

abbrev pub left_out_of : Method → Span → ℕ → List Expr
left_out_of method_is.ToUint span n = if n == 0 then base_ten span ∷ [] else []
left_out_of method_is.ToInt span n = if n == 0 then base_ten span ∷ [] else []
left_out_of method_is.Decode span n = if n == 0 then utf8 span ∷ replace span ∷ [] else (if n == 1 then replace span ∷ [] else [])
left_out_of _ span n = []
