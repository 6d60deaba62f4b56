-- What characters stand for, one after the other.
use Rattle.std.proofs.Common.{◌≡◌, ℕ, zero, suc, ◌+◌, ◌-◌, ◌<◌, List, [], ◌∷◌, length, get_or, drop, Bool, true, false, ◌==◌, cond, refl, ap, ◌∙◌, arith, length-drop}
use Rattle.std.proofs.lemmas.List.{drop-drop}
use Rattle.sp_literals.specs.Values.{char_value, char_size, decoded_behind, decoded}

size_by : (b c : Bool) → 0 < cond b (cond c 4 2) 1
size_by true true = omega arith
size_by true false = omega arith
size_by false c = omega arith

pub char_size-positive : (text : List ℕ) → 0 < char_size text
unfolding char_size
char_size-positive text = size_by (get_or text 0 0 == 92) (get_or text 1 0 == 120)

pub decoded_behind-left : (left : ℕ) (text : List ℕ) → decoded_behind left text ≡ decoded (drop left text)
decoded_behind-left zero text = refl
decoded_behind-left (suc left) [] = refl
decoded_behind-left (suc left) (byte ∷ text) = decoded_behind-left left text

decoded-cons : (rest : List ℕ) → 0 < length rest → decoded rest ≡ char_value rest ∷ decoded (drop (char_size rest) rest)
decoded-cons [] h = absurd (omega arith)
decoded-cons (byte ∷ text) h =
    let positive = char_size-positive (byte ∷ text) in
    let one : suc (char_size (byte ∷ text) - 1) ≡ char_size (byte ∷ text) = omega (arith, positive) in
    ap (λ more. char_value (byte ∷ text) ∷ more) (decoded_behind-left (char_size (byte ∷ text) - 1) text ∙ ap (λ n. decoded (drop n (byte ∷ text))) one)

-- the first character behind a place
pub decoded-next : (text : List ℕ) (at : ℕ) → at < length text → decoded (drop at text) ≡ char_value (drop at text) ∷ decoded (drop (at + char_size (drop at text)) text)
decoded-next text at h =
    decoded-cons (drop at text) (omega (arith, length-drop at text))
    ∙ ap (λ rest. char_value (drop at text) ∷ decoded rest) (drop-drop (char_size (drop at text)) at text)
