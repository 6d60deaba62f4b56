-- What is wanted is in its range.
use Rattle.std.specs.Prelude.{option_map, IfSome}
use Rattle.std.proofs.Common.{◌≡◌, ◌≤◌, ℕ, List, Option, Some, None, ap, ◌∙◌, arith}
use Rattle.sp_driver_args.specs.declared.words.Wanted.{Wanted}
use Rattle.sp_driver_args.specs.Wants.{wanted_words, AreInRange}
use Rattle.sp_driver_args.specs.Words.{Words, words_of}

-- pieces have at least one byte
pub some_of : (words : List (List ℕ)) (wanted : Option Wanted) → option_map wanted_words wanted ≡ words_of words → IfSome wanted AreInRange
    → (w : Words) → words_of words ≡ Some w → 1 ≤ w.increment
some_of words None is range w found = absurd (let e : None ≡ Some w = is ∙ found in cc)
some_of words (Some wanted) is range w found = let e : wanted_words wanted ≡ w = cc in omega (arith, range.some, ap (λ (w : Words). w.increment) e)
