-- What leaves give: integers, bitfields and bytes. A leaf has its value once its bytes are there, and else it waits, or is Short.
use Rattle.std.specs.Prelude.{ℕ, suc, ◌+◌, ◌-◌, ◌/◌, ◌%◌, ◌^◌, Bool, true, false, List, [], ◌∷◌, ◌++◌, Option, Some, None}
use Rattle.sp_base.specs.declared.kinds.PKind.TheVariants.{NoMatch, BadSize}
use Rattle.sp_value.specs.Val.{Val, bytes, bits}
use Rattle.sp_value.specs.Integers.{unsigned_of}
use Rattle.sp_typed_units.specs.declared.declarations.BitRange.{BitRange}
use Rattle.sp_typed_units.specs.declared.declarations.Bitfield.{Bitfield}
use Rattle.sp_meaning_states.specs.States.{Reading, State, Gives, Result, ends, fails, go}
use Rattle.sp_meaning_states.specs.Reads.{Ask, Bytes, Mark, Rest, Read, on_read}
use Rattle.sp_meaning_units.specs.Openings.{count_of, within}

-- the first label of the library's bit orders counts bits from that of the least value, the second from that of the greatest
abbrev pub is_msb0 : Option ℕ → Bool
is_msb0 (Some (suc n)) = true
is_msb0 o = false

-- the number that bits hold of an integer of a width
abbrev pub bits_from : (from to : ℕ) → ℕ → ℕ
bits_from from to x = x / 2 ^ from % 2 ^ (to + 1 - from)

abbrev pub range_of : (msb0 : Bool) → (width : ℕ) → ℕ → BitRange → ℕ
range_of false width x r = bits_from r.from r.to x
range_of true width x r = bits_from (width - 1 - r.to) (width - 1 - r.from) x

abbrev pub ranges_of : (msb0 : Bool) → (width : ℕ) → ℕ → List BitRange → List ℕ
ranges_of msb0 width x [] = []
ranges_of msb0 width x (r ∷ rs) = range_of msb0 width x r ∷ ranges_of msb0 width x rs

-- the bitfield of this number
abbrev pub bitfield_value : (number : ℕ) → (little msb0 : Bool) → Bitfield → List ℕ → Val
bitfield_value k little msb0 x bs = bits k (ranges_of msb0 x.width (unsigned_of little bs) x.ranges)

module _ (reads : Reading → Ask → Read) where
  -- what is asked for is taken, and a value is made of its bytes
  abbrev pub taken_as : (List ℕ → Val) → Ask → State → Result
  taken_as value ask st = on_read (reads st.now ask) (λ t n bs st. ends (Gives (value bs)) (go (st.now.place + n) st)) (fails NoMatch) st

  -- so many bytes, without a view
  abbrev pub counted_bytes : Option ℕ → State → Result
  counted_bytes (Some n) st = taken_as bytes (Bytes n) st
  counted_bytes None st = fails BadSize st

  abbrev pub sized_bytes : Val → State → Result
  sized_bytes v st = counted_bytes (within (count_of v) st.now.place) st

  -- all up to the first delimiter, which is taken; its own bytes are left out of the value, or kept
  abbrev pub bytes_until : (delimiter : List ℕ) → State → Result
  bytes_until d st = taken_as bytes (Mark d) st

  abbrev pub bytes_until_including : (delimiter : List ℕ) → State → Result
  bytes_until_including d st = taken_as (λ bs. bytes (bs ++ d)) (Mark d) st

  -- all up to the end of the view
  abbrev pub bytes_to_end : State → Result
  bytes_to_end st = taken_as bytes Rest st
