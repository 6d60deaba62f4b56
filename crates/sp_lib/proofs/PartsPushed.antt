-- Parts that are put into a list one by one.
use Rattle.std.proofs.Common.{◌≡◌, ◌<◌, ◌+◌, ◌-◌, ℕ, List, [], ◌∷◌, ◌++◌, length, take, drop, None, Some, sym, ap, ◌∙◌, append_assoc}
use Rattle.std.specs.Prelude.{map}
use Rattle.memchr.specs.Find.{FindsNeedle}
use Rattle.sp_value.specs.Val.{Val, bytes}
use Rattle.sp_methods.specs.Separated.{parts}
use Rattle.sp_methods.proofs.Found.{parts_at_the_first, parts_without_any}
use Rattle.sp_lib.proofs.TextsDecoded.{left}

module _ (d rest : List ℕ) (some : 0 < length d) (whole list new : List Val) (v : Val) (before : whole ≡ list ++ map bytes (parts d 0 rest)) (pushed : new ≡ list ++ v ∷ []) where
  -- one more part, and those that are left
  pub parts_more : (at : ℕ) → FindsNeedle rest d 0 (Some at) → v ≡ bytes (take at rest) → whole ≡ new ++ map bytes (parts d 0 (take (length rest - (at + length d)) (drop (at + length d) rest)))
  parts_more at found is =
      let now = parts_at_the_first d rest at some found in
      before ∙ ap (λ ps. list ++ map bytes ps) now.2 ∙ ap (λ u. list ++ u ∷ map bytes (parts d 0 (drop (at + length d) rest))) (sym is)
      ∙ sym (append_assoc list (v ∷ []) (map bytes (parts d 0 (drop (at + length d) rest))))
      ∙ ap (λ vs. vs ++ map bytes (parts d 0 (drop (at + length d) rest))) (sym pushed)
      ∙ ap (λ r. new ++ map bytes (parts d 0 r)) (sym (left (at + length d) rest found.1.fits))

  -- the last part
  pub parts_last : FindsNeedle rest d 0 None → v ≡ bytes rest → new ≡ whole
  parts_last none is =
      let now = parts_without_any d rest some none in
      pushed ∙ ap (λ u. list ++ u ∷ []) is ∙ sym (before ∙ ap (λ ps. list ++ map bytes ps) now.2)
