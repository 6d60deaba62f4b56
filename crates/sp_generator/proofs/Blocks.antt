-- Where records stand in the made input: the lengths of records begin anew after 64 of them, which are 2,080 bytes.
use Rattle.std.proofs.Common.{◌≡◌, ◌≤◌, ◌<◌, ◌+◌, ◌-◌, ◌*◌, ◌/◌, ◌%◌, ℕ, zero, suc, List, [], ◌∷◌, ◌++◌, length, take, drop, refl, ap, sym, ◌∙◌, append_assoc, zero-add, add-zero, suc-add, arith, inl, inr}
use Rattle.std.proofs.lemmas.Bool.{cases_lt}
use Rattle.std.proofs.lemmas.List.{length-append, drop_at, drop-append-le, drop_all, drop-drop}
use Rattle.sp_generator.specs.Input.{size_of, rising, record_of, records}

-- the length of so many records
unfoldable total : ℕ → ℕ → ℕ
total i zero = 0
total i (suc count) = suc (size_of i) + total (i + 1) count

drop_none : (n : ℕ) → ◌≡◌ {A = List ℕ} (drop n []) []
drop_none zero = refl
drop_none (suc n) = refl

length_rising : (v k : ℕ) → length (rising v k) ≡ k
unfolding rising
length_rising v zero = refl
length_rising v (suc k) = ap suc (length_rising (v + 1) k)

length_records : (i k : ℕ) → length (records i k) ≡ total i k
unfolding records total
length_records i zero = refl
length_records i (suc k) =
    ap suc (length-append (rising i (size_of i)) (records (i + 1) k)
    ∙ ap (λ n. n + length (records (i + 1) k)) (length_rising i (size_of i))
    ∙ ap (λ n. size_of i + n) (length_records (i + 1) k))
    ∙ sym (suc-add (size_of i) (total (i + 1) k))

total_shift : (i k : ℕ) → total (i + 64) k ≡ total i k
unfolding total
total_shift i zero = refl
total_shift i (suc k) =
    let same : size_of (i + 64) ≡ size_of i = omega arith in
    let later : i + 64 + 1 ≡ i + 1 + 64 = omega arith in
    ap (λ n. suc n + total (i + 64 + 1) k) same ∙ ap (λ n. suc (size_of i) + n) (ap (λ j. total j k) later ∙ total_shift (i + 1) k)

total_more : (i k m : ℕ) → total i (k + m) ≡ total i k + total (i + k) m
unfolding total
total_more i zero m = ap (λ n. total i n) (zero-add m) ∙ sym (zero-add (total (i + 0) m) ∙ ap (λ j. total j m) (add-zero i))
total_more i (suc k) m =
    let later : i + 1 + k ≡ i + suc k = omega arith in
    ap (λ n. total i n) (suc-add k m)
    ∙ ap (λ n. suc (size_of i) + n) (total_more (i + 1) k m ∙ ap (λ j. total (i + 1) k + total j m) later)
    ∙ omega arith

block_total : (b : ℕ) → total (b * 64) 64 ≡ 2080
unfolding total
block_total zero = refl
block_total (suc b) =
    let at : suc b * 64 ≡ b * 64 + 64 = omega arith in
    ap (λ j. total j 64) at ∙ total_shift (b * 64) 64 ∙ block_total b

blocks_total : (b : ℕ) → total 0 (b * 64) ≡ b * 2080
unfolding total
blocks_total zero = refl
blocks_total (suc b) =
    let at : suc b * 64 ≡ b * 64 + 64 = omega arith in
    ap (λ n. total 0 n) at ∙ total_more 0 (b * 64) 64
    ∙ ap (λ n. n + total (0 + b * 64) 64) (blocks_total b)
    ∙ ap (λ j. b * 2080 + total j 64) (zero-add (b * 64))
    ∙ ap (λ n. b * 2080 + n) (block_total b)
    ∙ omega arith

records_more : (i k m : ℕ) → records i (k + m) ≡ records i k ++ records (i + k) m
unfolding records
records_more i zero m = ap (λ n. records i n) (zero-add m) ∙ ap (λ j. records j m) (sym (add-zero i))
records_more i (suc k) m =
    let later : i + 1 + k ≡ i + suc k = omega arith in
    ap (λ n. records i n) (suc-add k m)
    ∙ ap (λ rest. record_of i ++ rest) (records_more (i + 1) k m ∙ ap (λ j. records (i + 1) k ++ records j m) later)
    ∙ sym (append_assoc (record_of i) (records (i + 1) k) (records (i + suc k) m))

-- a place is as far behind the first record of its block as it is behind the block's beginning
within_block : (count b rest : ℕ) → b * 64 ≤ count → drop rest (records (b * 64) (count - b * 64)) ≡ drop (b * 2080 + rest) (records 0 count)
within_block count b rest le =
    let split : count ≡ b * 64 + (count - b * 64) = omega arith in
    let size : length (records 0 (b * 64)) ≡ b * 2080 = length_records 0 (b * 64) ∙ blocks_total b in
    let parts : records 0 count ≡ records 0 (b * 64) ++ records (b * 64) (count - b * 64) =
    ap (λ n. records 0 n) split ∙ records_more 0 (b * 64) (count - b * 64) ∙ ap (λ j. records 0 (b * 64) ++ records j (count - b * 64)) (zero-add (b * 64)) in
    sym (ap (λ l. drop (b * 2080 + rest) l) parts
    ∙ sym (drop-drop rest (b * 2080) (records 0 (b * 64) ++ records (b * 64) (count - b * 64)))
    ∙ ap (λ l. drop rest l) (drop_at (records 0 (b * 64)) (records (b * 64) (count - b * 64)) (b * 2080) size))

behind_all : (count b rest : ℕ) → count < b * 64 → drop rest (records (b * 64) (count - b * 64)) ≡ drop (b * 2080 + rest) (records 0 count)
unfolding records
behind_all count b rest lt =
    let none : count - b * 64 ≡ 0 = omega arith in
    let split : b * 64 ≡ count + (b * 64 - count) = omega arith in
    let more : total 0 (b * 64) ≡ total 0 count + total (0 + count) (b * 64 - count) = ap (λ n. total 0 n) split ∙ total_more 0 count (b * 64 - count) in
    let short : length (records 0 count) ≤ b * 2080 + rest = omega (arith, length_records 0 count, more, blocks_total b) in
    ap (λ n. drop rest (records (b * 64) n)) none ∙ drop_none rest ∙ sym (drop_all (b * 2080 + rest) (records 0 count) short)

pub at_block : (count place : ℕ) → drop (place % 2080) (records (place / 2080 * 64) (count - place / 2080 * 64)) ≡ drop place (records 0 count)
at_block count place =
    let whole : place / 2080 * 2080 + place % 2080 ≡ place = omega arith in
    elim (cases_lt count (place / 2080 * 64)) [
      | inl lt ↦ behind_all count (place / 2080) (place % 2080) lt ∙ ap (λ n. drop n (records 0 count)) whole
      | inr le ↦ within_block count (place / 2080) (place % 2080) le ∙ ap (λ n. drop n (records 0 count)) whole
    ]

-- the next record, before those behind it
next_record : (next end : ℕ) → next < end → records next (end - next) ≡ record_of next ++ records (next + 1) (end - (next + 1))
unfolding records
next_record next end lt =
    let more : end - next ≡ suc (end - (next + 1)) = omega arith in
    ap (λ n. records next n) more

-- one record before the place is passed over
pub past_record : (next end skipped : ℕ) → next < end → size_of next < skipped
    → drop (skipped - (size_of next + 1)) (records (next + 1) (end - (next + 1))) ≡ drop skipped (records next (end - next))
past_record next end skipped lt over =
    let later : List ℕ = records (next + 1) (end - (next + 1)) in
    let split : skipped ≡ suc (size_of next) + (skipped - (size_of next + 1)) = omega arith in
    let size : length (record_of next) ≡ suc (size_of next) = ap suc (length_rising next (size_of next)) in
    sym (ap (λ l. drop skipped l) (next_record next end lt)
    ∙ ap (λ n. drop n (record_of next ++ later)) split
    ∙ sym (drop-drop (skipped - (size_of next + 1)) (suc (size_of next)) (record_of next ++ later))
    ∙ ap (λ l. drop (skipped - (size_of next + 1)) l) (drop_at (record_of next) later (suc (size_of next)) size))

-- rising bytes from a place among them on
drop_rising : (value count skipped : ℕ) → skipped ≤ count → drop skipped (rising value count) ≡ rising (value + skipped) (count - skipped)
unfolding rising
drop_rising value count zero le =
    let all : count - 0 ≡ count = omega arith in
    ap (λ v. rising v count) (sym (add-zero value)) ∙ ap (λ n. rising (value + 0) n) (sym all)
drop_rising value zero (suc k) le = absurd (omega arith)
drop_rising value (suc count) (suc k) le =
    let from : value + 1 + k ≡ value + suc k = omega arith in
    let left : suc count - suc k ≡ count - k = omega arith in
    drop_rising (value + 1) count k (omega arith) ∙ ap (λ v. rising v (count - k)) from ∙ ap (λ n. rising (value + suc k) n) (sym left)

-- a place within a record
pub within_record : (next end skipped : ℕ) → next < end → 0 < skipped → skipped ≤ size_of next
    → rising (next + skipped - 1) (size_of next + 1 - skipped) ++ records (next + 1) (end - (next + 1)) ≡ drop skipped (records next (end - next))
within_record next end skipped lt some small =
    let later : List ℕ = records (next + 1) (end - (next + 1)) in
    let split : skipped ≡ suc (skipped - 1) = omega arith in
    let from : next + (skipped - 1) ≡ next + skipped - 1 = omega arith in
    let left : size_of next - (skipped - 1) ≡ size_of next + 1 - skipped = omega arith in
    sym (ap (λ l. drop skipped l) (next_record next end lt)
    ∙ ap (λ n. drop n (record_of next ++ later)) split
    ∙ drop-append-le (skipped - 1) (rising next (size_of next)) later (omega (arith, length_rising next (size_of next)))
    ∙ ap (λ l. l ++ later) (drop_rising next (size_of next) (skipped - 1) (omega arith)
    ∙ ap (λ v. rising v (size_of next - (skipped - 1))) from ∙ ap (λ n. rising (next + skipped - 1) n) left))

-- at a record's beginning
pub at_record : (value next end skipped : ℕ) → skipped ≡ 0 → rising value 0 ++ records next (end - next) ≡ drop skipped (records next (end - next))
unfolding rising
at_record value next end skipped e = ap (λ n. drop n (records next (end - next))) (sym e)

-- behind the last record
pub no_record : (value next end skipped : ℕ) → end ≤ next → rising value 0 ++ records next (end - next) ≡ drop skipped (records next (end - next))
unfolding rising records
no_record value next end skipped over =
    let none : end - next ≡ 0 = omega arith in
    ap (λ n. records next n) none ∙ sym (ap (λ n. drop skipped (records next n)) none ∙ drop_none skipped)

-- the next byte
pub next_rising : (value left : ℕ) (rest : List ℕ) → 0 < left → rising value left ++ rest ≡ value % 256 ∷ (rising (value + 1) (left - 1) ++ rest)
unfolding rising
next_rising value zero rest some = absurd (omega arith)
next_rising value (suc left) rest some =
    let same : suc left - 1 ≡ left = omega arith in
    ap (λ n. value % 256 ∷ (rising (value + 1) n ++ rest)) (sym same)

pub next_size : (value next end : ℕ) → next < end
    → rising value 0 ++ records next (end - next) ≡ size_of next ∷ (rising next (size_of next) ++ records (next + 1) (end - (next + 1)))
unfolding rising
next_size value next end lt = next_record next end lt

pub nothing_left : (value next end : ℕ) → end ≤ next → rising value 0 ++ records next (end - next) ≡ []
unfolding rising records
nothing_left value next end over =
    let none : end - next ≡ 0 = omega arith in
    ap (λ n. records next n) none

-- one more byte of a piece
pub pushed : (piece new : List ℕ) (byte most : ℕ) (ahead rest whole : List ℕ) → new ≡ piece ++ byte ∷ [] → ahead ≡ byte ∷ rest → length piece < most
    → piece ++ take (most - length piece) ahead ≡ whole → (length new ≤ most) × (new ++ take (most - length new) rest ≡ whole)
pushed piece new byte most ahead rest whole e next lt so_far =
    let size : length new ≡ length piece + 1 = ap length e ∙ length-append piece (byte ∷ []) in
    let more : most - length piece ≡ suc (most - length new) = omega arith in (
      omega arith,
      ap (λ l. l ++ take (most - length new) rest) e
          ∙ append_assoc piece (byte ∷ []) (take (most - length new) rest)
          ∙ sym (ap (λ l. piece ++ take (most - length piece) l) next ∙ ap (λ n. piece ++ take n (byte ∷ rest)) more)
          ∙ so_far,
    )
