-- What a few command lines want.
use Rattle.std.specs.Prelude.{◌≡◌, [], ◌∷◌, true, Some, None, refl, codes}
use Rattle.sp_driver_args.specs.Words.{Words, nothing_wanted, words_of}

-- one file
abbrev one_file : Words
one_file = record nothing_wanted { files = codes "m.spicy" ∷ [] }

a_file : words_of (codes "m.spicy" ∷ []) ≡ Some one_file
a_file = refl

-- all options
all_options : words_of (codes "-p" ∷ codes "M::U" ∷ codes "-i" ∷ codes "1" ∷ codes "-L" ∷ codes "lib" ∷ codes "--report" ∷ codes "--trace" ∷ codes "--max-turns" ∷ codes "7" ∷ codes "--max-input" ∷ codes "0" ∷ codes "m.spicy" ∷ [])
    ≡ Some (record { unit = Some (codes "M::U"); increment = 1; directories = codes "lib"; report = true; trace = true; turns = 7; most = 0; files = codes "m.spicy" ∷ [] })
all_options = refl

-- flags in another order, an option without a value, a number with a zero in front, pieces without bytes, no file, and an option behind a
-- file
other_order : words_of (codes "--trace" ∷ codes "--report" ∷ codes "m.spicy" ∷ []) ≡ None
other_order = refl

no_value : words_of (codes "-p" ∷ []) ≡ None
no_value = refl

empty_value : words_of (codes "-p" ∷ [] ∷ codes "m.spicy" ∷ []) ≡ None
empty_value = refl

zero_in_front : words_of (codes "-i" ∷ codes "01" ∷ codes "m.spicy" ∷ []) ≡ None
zero_in_front = refl

empty_pieces : words_of (codes "-i" ∷ codes "0" ∷ codes "m.spicy" ∷ []) ≡ None
empty_pieces = refl

no_file : words_of (codes "--trace" ∷ []) ≡ None
no_file = refl

behind_a_file : words_of (codes "m.spicy" ∷ codes "--trace" ∷ []) ≡ None
behind_a_file = refl
