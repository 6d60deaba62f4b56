-- The definitions, run on rows.
use Rattle.std.specs.Prelude.{◌≡◌, pos, neg_ℤ, [], ◌∷◌, Ok, Err, codes, refl}
use Rattle.sp_base.specs.declared.kinds.PKind.TheVariants.{BadConversion, Overflow, Index, MissingKey}
use Rattle.sp_numbers.specs.declared.width.Width.TheVariants.{W8, W64}
use Rattle.sp_value.specs.Val.{uint, bytes, vector, map, vals_of, entries_of}
use Rattle.sp_words.specs.declared.methods.Method.TheVariants.{PopBack, Get, GetOr}
use Rattle.sp_methods.specs.Conversions.{to_uint, to_int, to_uint_order, to_int_order, sub, lower}
use Rattle.sp_methods.specs.Separated.{split, split1}
use Rattle.sp_methods.specs.Decoding.{decode}
use Rattle.sp_methods.specs.Methods.{method}

hexadecimal : to_uint (codes "fF") 16 ≡ Ok 255
hexadecimal = refl

greatest : to_uint (codes "18446744073709551615") 10 ≡ Ok 18446744073709551615
greatest = refl

too_large : to_uint (codes "18446744073709551616") 10 ≡ Err Overflow
too_large = refl

bad_and_too_large : to_uint (codes "99999999999999999999x") 10 ≡ Err BadConversion
bad_and_too_large = refl

no_digits : to_uint [] 10 ≡ Err BadConversion
no_digits = refl

no_base : to_uint (codes "1") 37 ≡ Err BadConversion
no_base = refl

least : to_int (codes "-9223372036854775808") 10 ≡ Ok (neg_ℤ (pos 9223372036854775808))
least = refl

too_small : to_int (codes "-9223372036854775809") 10 ≡ Err Overflow
too_small = refl

two_signs : to_int (codes "--1") 10 ≡ Err BadConversion
two_signs = refl

sign_alone : to_int (codes "-") 10 ≡ Err BadConversion
sign_alone = refl

three_bytes : to_uint_order (1 ∷ 2 ∷ 3 ∷ []) 0 ≡ Ok 197121
three_bytes = refl

network_order : to_int_order (255 ∷ 254 ∷ []) 2 ≡ Ok (neg_ℤ (pos 2))
network_order = refl

nine_bytes : to_uint_order (1 ∷ 1 ∷ 1 ∷ 1 ∷ 1 ∷ 1 ∷ 1 ∷ 1 ∷ 1 ∷ []) 1 ≡ Err BadConversion
nine_bytes = refl

middle : sub (codes "abc") 1 2 ≡ Ok (codes "b")
middle = refl

past_the_end : sub (codes "abc") 0 4 ≡ Err Index
past_the_end = refl

small_letters : lower (codes "AZaz@[") ≡ codes "azaz@["
small_letters = refl

empty_part : split (codes "a,b,,c") (codes ",") ≡ Ok (bytes (codes "a") ∷ bytes (codes "b") ∷ bytes [] ∷ bytes (codes "c") ∷ [])
empty_part = refl

no_overlap : split (codes "aaa") (codes "aa") ≡ Ok (bytes [] ∷ bytes (codes "a") ∷ [])
no_overlap = refl

no_separator : split (codes "aaa") [] ≡ Err BadConversion
no_separator = refl

first_alone : split1 (codes "a,b,c") (codes ",") ≡ Ok (codes "a", codes "b,c")
first_alone = refl

separator_missing : split1 (codes "abc") (codes ",") ≡ Ok (codes "abc", [])
separator_missing = refl

euro : decode (0xE2 ∷ 0x82 ∷ 0xAC ∷ []) 0 2 ≡ Ok (0xE2 ∷ 0x82 ∷ 0xAC ∷ [])
euro = refl

each_stray_byte : decode (0xE2 ∷ 0x82 ∷ 97 ∷ []) 0 1 ≡ Ok (0xEF ∷ 0xBF ∷ 0xBD ∷ 0xEF ∷ 0xBF ∷ 0xBD ∷ 97 ∷ [])
each_stray_byte = refl

dropped : decode (97 ∷ 0xFF ∷ 98 ∷ []) 0 0 ≡ Ok (codes "ab")
dropped = refl

refused : decode (97 ∷ 0xFF ∷ 98 ∷ []) 0 2 ≡ Err BadConversion
refused = refl

not_ascii : decode (0xC3 ∷ 0xA9 ∷ 120 ∷ []) 1 0 ≡ Ok (codes "x")
not_ascii = refl

popped_off : method PopBack (vector (vals_of (uint W8 1 ∷ uint W8 2 ∷ [])) ∷ []) ≡ Ok (vector (vals_of (uint W8 1 ∷ [])) ∷ uint W8 2 ∷ [])
popped_off = refl

nothing_to_pop : method PopBack (vector (vals_of []) ∷ []) ≡ Err Index
nothing_to_pop = refl

missing_key : method Get (uint W8 2 ∷ map (entries_of ((uint W8 1, bytes []) ∷ [])) ∷ []) ≡ Err MissingKey
missing_key = refl

given_default : method GetOr (bytes (codes "d") ∷ uint W8 2 ∷ map (entries_of ((uint W8 1, bytes []) ∷ [])) ∷ []) ≡ Ok (bytes (codes "d") ∷ [])
given_default = refl

own_value : method GetOr (bytes (codes "d") ∷ uint W64 1 ∷ map (entries_of ((uint W8 1, bytes []) ∷ [])) ∷ []) ≡ Ok (bytes [] ∷ [])
own_value = refl
