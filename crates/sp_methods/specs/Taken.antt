-- Items of vectors, and values of maps.
use Rattle.std.specs.Prelude.{◌-◌, List, length, take, slice_get, Option, None, Some, Result, Ok, Err, ok_or}
use Rattle.sp_base.specs.declared.kinds.PKind.{PKind}
use Rattle.sp_base.specs.declared.kinds.PKind.TheVariants.{Index, MissingKey}
use Rattle.sp_value.specs.Val.{Val, vector, vals_of}
use Rattle.sp_value.specs.Changes.{items_of, value_at}

-- the first and the last item of a list
abbrev pub first_item : List Val → Option Val
first_item xs = slice_get xs 0

abbrev pub last_item : List Val → Option Val
last_item xs = slice_get xs (length xs - 1)

-- a vector's first and last item
abbrev pub front : Val → Result Val PKind
front v = ok_or (first_item (items_of v)) Index

abbrev pub back : Val → Result Val PKind
back v = ok_or (last_item (items_of v)) Index

-- the vector without its last item
abbrev pub without_last : Val → Val
without_last v = vector (vals_of (take (length (items_of v) - 1) (items_of v)))

-- a vector without its last item, and that item
abbrev pub parted : Val → Option Val → Result (Val × Val) PKind
parted v None = Err Index
parted v (Some x) = Ok (without_last v, x)

abbrev pub popped : Val → Result (Val × Val) PKind
popped v = parted v (last_item (items_of v))

-- the value that a map has at a key, or else what is given in its place
abbrev pub or_default : Option Val → Option Val → Result Val PKind
or_default (Some v) d = Ok v
or_default None (Some v) = Ok v
or_default None None = Err MissingKey

abbrev pub got : Val → Val → Option Val → Result Val PKind
got m k d = or_default (value_at m k) d
