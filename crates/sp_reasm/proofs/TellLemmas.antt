-- Notes in runs.
use Rattle.std.proofs.Common.{◌≡◌, ℕ, zero, suc, ◌+◌, ◌-◌, ◌<◌, ◌≤◌, ◌^◌, max, nat_eq, cond, Bool, true, false, List, [], ◌∷◌, ◌++◌, length, map, take, drop, Option, Some, None, IsSome, ◌⊎◌, refl, sym, ap, subst, ◌∙◌, inl, inr, arith, length-drop, length-append, append_assoc, append-nil}
use Rattle.std.proofs.lemmas.List.{length-take-le, map-append, take-append-drop, length-map}
use Rattle.std.proofs.lemmas.Bool.{cases_eq, ne_eqb, eq-eqb, le-leb}
use Rattle.sp_reasm.specs.declared.notes.Note.{Note}
use Rattle.sp_reasm.specs.declared.notes.Note.TheVariants.{Overlap, Undelivered, Skipped, Deliver, Gap as Missing, Closed}
use Rattle.sp_reasm.specs.Owners.{Owner, Data, Lost, byte_at}
use Rattle.sp_reasm.specs.Notes.{owners_from, before_runs, runs, datum, both, overlapped, overlap_note, undelivered_note, before_notes, told}
use Rattle.sp_reasm.specs.inside.Overlays.{IsDataRun, IsLostRun, NoData, IsFirstRun, AreOwned, IsTold, AreDelivered, data_in, overlaps_in}
use Rattle.sp_reasm.proofs.StandLemmas.{BeginsFrom, runs_apart}
use Rattle.sp_reasm.proofs.PieceLemmas.{byte_some}
use Rattle.sp_reasm.proofs.PlaceLemmas.{below_or}

pub owners-split : (f : ℕ → Option Owner) (q m n : ℕ) → owners_from f q (m + n) ≡ owners_from f q m ++ owners_from f (q + m) n
owners-split f q zero n =
    ap (λ k. owners_from f q k) (let e : 0 + n ≡ n = omega arith in e) ∙ ap (λ k. owners_from f k n) (let e : q ≡ q + 0 = omega arith in e)
owners-split f q (suc m) n =
    ap (λ k. owners_from f q k) (let e : suc m + n ≡ suc (m + n) = omega arith in e)
    ∙ ap (λ l. f q ∷ l) (owners-split f (suc q) m n ∙ ap (λ k. owners_from f (suc q) m ++ owners_from f k n) (let e : suc q + m ≡ q + suc m = omega arith in e))

data-split : (f : ℕ → Option Owner) (q m n : ℕ) → map datum (owners_from f q (m + n)) ≡ map datum (owners_from f q m) ++ map datum (owners_from f (q + m) n)
data-split f q m n = ap (λ l. map datum l) (owners-split f q m n) ∙ map-append datum (owners_from f q m) (owners_from f (q + m) n)

-- where there are no data the runs begin later
no_runs : (f : ℕ → Option Owner) (q m : ℕ) (rest : List (Option ℕ)) → NoData f q (q + m) → runs q (map datum (owners_from f q m) ++ rest) ≡ runs (q + m) rest
no_runs f q zero rest none = ap (λ k. runs k rest) (let e : q ≡ q + 0 = omega arith in e)
no_runs f q (suc m) rest none =
    ap (λ o. runs q (o ∷ map datum (owners_from f (suc q) m) ++ rest)) (none q (omega arith) (omega arith))
    ∙ no_runs f (suc q) m rest (λ k low high. none k (omega (arith, low)) (omega (arith, high)))
    ∙ ap (λ k. runs k rest) (let e : suc q + m ≡ q + suc m = omega arith in e)

module _ {X : Type 0} where
  -- a list that does not begin with an item
  abbrev pub BeginsFree : List (Option X) → Type 0
  BeginsFree [] = Unit {0}
  BeginsFree (None ∷ xs) = Unit {0}
  BeginsFree (Some x ∷ xs) = ⊥

  alone : (at : ℕ) (x : X) (rs : List (ℕ × List X)) → BeginsFrom (suc (suc at)) rs → before_runs at x rs ≡ (at, x ∷ []) ∷ rs
  alone at x [] from = refl
  alone at x (r ∷ rs) from = ap (λ b. cond b ((at, x ∷ r.1) ∷ rs) ((at, x ∷ []) ∷ r ∷ rs)) (ne_eqb r.0 (suc at) (λ e. omega (arith, e, from)))

  one_run : (at : ℕ) (x : X) (rest : List (Option X)) → BeginsFree rest → runs at (Some x ∷ rest) ≡ (at, x ∷ []) ∷ runs (suc at) rest
  one_run at x [] free = refl
  one_run at x (None ∷ xs) free = alone at x (runs (suc (suc at)) xs) (runs_apart (suc (suc at)) xs).0
  one_run at x (Some y ∷ xs) free = absurd free

  -- items in a row are one run
  pub whole_run : (at : ℕ) (x : X) (xs : List X) (rest : List (Option X)) → BeginsFree rest → runs at (map Some (x ∷ xs) ++ rest) ≡ (at, x ∷ xs) ∷ runs (at + length (x ∷ xs)) rest
  whole_run at x [] rest free =
      one_run at x rest free ∙ ap (λ k. (at, x ∷ []) ∷ runs k rest) (let l : length (x ∷ []) ≡ 1 = refl in let e : suc at ≡ at + length (x ∷ []) = omega (arith, l) in e)
  whole_run at x (y ∷ xs) rest free =
      let long : length (x ∷ y ∷ xs) ≡ suc (length (y ∷ xs)) = refl in
      ap (λ rs. before_runs at x rs) (whole_run (suc at) y xs rest free)
      ∙ ap (λ b. cond b ((at, x ∷ y ∷ xs) ∷ runs (suc at + length (y ∷ xs)) rest) ((at, x ∷ []) ∷ (suc at, y ∷ xs) ∷ runs (suc at + length (y ∷ xs)) rest)) (eq-eqb (suc at) (suc at) refl)
      ∙ ap (λ k. (at, x ∷ y ∷ xs) ∷ runs k rest) (let e : suc at + length (y ∷ xs) ≡ at + length (x ∷ y ∷ xs) = omega (arith, long) in e)

owned_data : (f : ℕ → Option Owner) (q : ℕ) (bytes : List ℕ) → ((i : ℕ) → i < length bytes → f (q + i) ≡ byte_at bytes i) → owners_from f q (length bytes) ≡ map (λ b. Some (Data b)) bytes
owned_data f q [] each = refl
owned_data f q (b ∷ bytes) each =
    let long : length (b ∷ bytes) ≡ suc (length bytes) = refl in
    ap (λ o. o ∷ owners_from f (suc q) (length bytes)) (ap f (let e : q ≡ q + 0 = omega arith in e) ∙ each 0 (omega (arith, long)))
    ∙ ap (λ l. Some (Data b) ∷ l) (owned_data f (suc q) bytes (λ i h. ap f (let e : suc q + i ≡ q + suc i = omega arith in e) ∙ each (suc i) (omega (arith, h, long))))

datum_data : (bytes : List ℕ) → map datum (map (λ b. Some (Data b)) bytes) ≡ map Some bytes
datum_data [] = refl
datum_data (b ∷ bytes) = ap (λ l. Some b ∷ l) (datum_data bytes)

begins_free : (f : ℕ → Option Owner) (q n : ℕ) → (n ≡ 0) ⊎ (datum (f q) ≡ None) → BeginsFree (map datum (owners_from f q n))
begins_free f q zero h = tt
begins_free f q (suc n) (inl empty) = absurd (omega (arith, empty))
begins_free f q (suc n) (inr none) = subst (λ o. BeginsFree (o ∷ map datum (owners_from f (suc q) n))) (sym none) tt

-- without data there is no run
pub runs_end : (f : ℕ → Option Owner) (from to : ℕ) → NoData f from to → runs from (data_in f from to) ≡ []
runs_end f from to none =
    ap (λ l. runs from l) (sym (append-nil (data_in f from to)))
    ∙ no_runs f from (to - from) [] (λ q low high. none q low (omega (arith, low, high)))

-- the first run of data, and those behind it
pub runs_first : (f : ℕ → Option Owner) (from to start : ℕ) (bytes : List ℕ) → IsFirstRun f from to start bytes → runs from (data_in f from to) ≡ (start, bytes) ∷ runs (start + length bytes) (data_in f (start + length bytes) to)
runs_first f from to start [] first = absurd (let e : length {A = ℕ} [] ≡ 0 = refl in let s = first.some in omega (arith, s, e))
runs_first f from to start (b ∷ bytes) first =
    let begins = first.begins in
    let ends = first.ends in
    let len = length (b ∷ bytes) in
    let cut : to - from ≡ (start - from) + (length (b ∷ bytes) + (to - (start + length (b ∷ bytes)))) = omega (arith, begins, ends) in
    let place : from + (start - from) ≡ start = omega (arith, begins) in
    let run : map datum (owners_from f start (length (b ∷ bytes))) ≡ map Some (b ∷ bytes) = ap (λ l. map datum l) (owned_data f start (b ∷ bytes) first.run.each) ∙ datum_data (b ∷ bytes) in
    let rest = map datum (owners_from f (start + length (b ∷ bytes)) (to - (start + length (b ∷ bytes)))) in
    ap (λ n. runs from (map datum (owners_from f from n))) cut
    ∙ ap (λ l. runs from l) (data-split f from (start - from) (length (b ∷ bytes) + (to - (start + length (b ∷ bytes)))))
    ∙ no_runs f from (start - from) (map datum (owners_from f (from + (start - from)) (length (b ∷ bytes) + (to - (start + length (b ∷ bytes)))))) (λ q low high. first.before q low (omega (arith, high, begins)))
    ∙ ap (λ q. runs q (map datum (owners_from f q (length (b ∷ bytes) + (to - (start + length (b ∷ bytes))))))) place
    ∙ ap (λ l. runs start l) (data-split f start (length (b ∷ bytes)) (to - (start + length (b ∷ bytes))) ∙ ap (λ l. l ++ map datum (owners_from f (start + length (b ∷ bytes)) (to - (start + length (b ∷ bytes))))) run)
    ∙ whole_run start b bytes (map datum (owners_from f (start + length (b ∷ bytes)) (to - (start + length (b ∷ bytes))))) (begins_free f (start + length (b ∷ bytes)) (to - (start + length (b ∷ bytes))) (end first.run.ended))
  where
    end : (to ≤ start + length (b ∷ bytes)) ⊎ (datum (f (start + length (b ∷ bytes))) ≡ None) → (to - (start + length (b ∷ bytes)) ≡ 0) ⊎ (datum (f (start + length (b ∷ bytes))) ≡ None)
    end (inl h) = inl (omega (arith, h))
    end (inr h) = inr h

-- a list that is empty or begins with a lost position
abbrev pub BeginsLost : List (Option Owner) → Type 0
BeginsLost [] = Unit {0}
BeginsLost (None ∷ os) = ⊥
BeginsLost (Some Lost ∷ os) = Unit {0}
BeginsLost (Some (Data b) ∷ os) = ⊥

abbrev pub BeginsData : List (Option Owner) → Type 0
BeginsData [] = Unit {0}
BeginsData (None ∷ os) = ⊥
BeginsData (Some Lost ∷ os) = ⊥
BeginsData (Some (Data b) ∷ os) = Unit {0}

lost_head : (at : ℕ) (notes : List Note) → (n : ℕ) × (ns : List Note) × (before_notes at (Some Lost) notes ≡ Missing at n ∷ ns)
lost_head at [] = (1, [], refl)
lost_head at (Overlap s o n ∷ notes) = (1, Overlap s o n ∷ notes, refl)
lost_head at (Undelivered s b ∷ notes) = (1, Undelivered s b ∷ notes, refl)
lost_head at (Skipped s ∷ notes) = (1, Skipped s ∷ notes, refl)
lost_head at (Deliver s b ∷ notes) = (1, Deliver s b ∷ notes, refl)
lost_head at (Closed ∷ notes) = (1, Closed ∷ notes, refl)
lost_head at (Missing seq len ∷ notes) = by_test (nat_eq seq (suc at))
  where
    by_test : (t : Bool) → (n : ℕ) × (ns : List Note) × (cond t (Missing at (suc len) ∷ notes) (Missing at 1 ∷ Missing seq len ∷ notes) ≡ Missing at n ∷ ns)
    by_test true = (suc len, notes, refl)
    by_test false = (1, Missing seq len ∷ notes, refl)

data_head : (at b : ℕ) (notes : List Note) → (bs : List ℕ) × (ns : List Note) × (before_notes at (Some (Data b)) notes ≡ Deliver at bs ∷ ns)
data_head at b [] = (b ∷ [], [], refl)
data_head at b (Overlap s o n ∷ notes) = (b ∷ [], Overlap s o n ∷ notes, refl)
data_head at b (Undelivered s c ∷ notes) = (b ∷ [], Undelivered s c ∷ notes, refl)
data_head at b (Skipped s ∷ notes) = (b ∷ [], Skipped s ∷ notes, refl)
data_head at b (Missing s n ∷ notes) = (b ∷ [], Missing s n ∷ notes, refl)
data_head at b (Closed ∷ notes) = (b ∷ [], Closed ∷ notes, refl)
data_head at b (Deliver seq bytes ∷ notes) = by_test (nat_eq seq (suc at))
  where
    by_test : (t : Bool) → (bs : List ℕ) × (ns : List Note) × (cond t (Deliver at (b ∷ bytes) ∷ notes) (Deliver at (b ∷ []) ∷ Deliver seq bytes ∷ notes) ≡ Deliver at bs ∷ ns)
    by_test true = (b ∷ bytes, notes, refl)
    by_test false = (b ∷ [], Deliver seq bytes ∷ notes, refl)

last_data : (at b : ℕ) (rest : List (Option Owner)) → BeginsLost rest → told at (Some (Data b) ∷ rest) ≡ Deliver at (b ∷ []) ∷ told (suc at) rest
last_data at b [] lost = refl
last_data at b (None ∷ os) lost = absurd lost
last_data at b (Some (Data d) ∷ os) lost = absurd lost
last_data at b (Some Lost ∷ os) lost =
    let head = lost_head (suc at) (told (suc (suc at)) os) in
    ap (λ l. before_notes at (Some (Data b)) l) head.2 ∙ ap (λ l. Deliver at (b ∷ []) ∷ l) (sym head.2)

-- data in a row are one note
whole_data : (at b : ℕ) (bytes : List ℕ) (rest : List (Option Owner)) → BeginsLost rest → told at (map (λ d. Some (Data d)) (b ∷ bytes) ++ rest) ≡ Deliver at (b ∷ bytes) ∷ told (at + length (b ∷ bytes)) rest
whole_data at b [] rest lost =
    last_data at b rest lost ∙ ap (λ k. Deliver at (b ∷ []) ∷ told k rest) (let l : length (b ∷ []) ≡ 1 = refl in let e : suc at ≡ at + length (b ∷ []) = omega (arith, l) in e)
whole_data at b (d ∷ bytes) rest lost =
    let long : length (b ∷ d ∷ bytes) ≡ suc (length (d ∷ bytes)) = refl in
    ap (λ l. before_notes at (Some (Data b)) l) (whole_data (suc at) d bytes rest lost)
    ∙ ap (λ t. cond t (Deliver at (b ∷ d ∷ bytes) ∷ told (suc at + length (d ∷ bytes)) rest) (Deliver at (b ∷ []) ∷ Deliver (suc at) (d ∷ bytes) ∷ told (suc at + length (d ∷ bytes)) rest)) (eq-eqb (suc at) (suc at) refl)
    ∙ ap (λ k. Deliver at (b ∷ d ∷ bytes) ∷ told k rest) (let e : suc at + length (d ∷ bytes) ≡ at + length (b ∷ d ∷ bytes) = omega (arith, long) in e)

last_lost : (at : ℕ) (rest : List (Option Owner)) → BeginsData rest → told at (Some Lost ∷ rest) ≡ Missing at 1 ∷ told (suc at) rest
last_lost at [] begins = refl
last_lost at (None ∷ os) begins = absurd begins
last_lost at (Some Lost ∷ os) begins = absurd begins
last_lost at (Some (Data b) ∷ os) begins =
    let head = data_head (suc at) b (told (suc (suc at)) os) in
    ap (λ l. before_notes at (Some Lost) l) head.2 ∙ ap (λ l. Missing at 1 ∷ l) (sym head.2)

-- lost positions in a row are one note
whole_lost : (f : ℕ → Option Owner) (at n : ℕ) (rest : List (Option Owner)) → ((q : ℕ) → at ≤ q → q < at + suc n → f q ≡ Some Lost) → BeginsData rest → told at (owners_from f at (suc n) ++ rest) ≡ Missing at (suc n) ∷ told (at + suc n) rest
whole_lost f at zero rest lost begins =
    ap (λ o. told at (o ∷ rest)) (lost at (omega arith) (omega arith)) ∙ last_lost at rest begins
    ∙ ap (λ k. Missing at 1 ∷ told k rest) (let e : suc at ≡ at + 1 = omega arith in e)
whole_lost f at (suc n) rest lost begins =
    ap (λ o. told at (o ∷ owners_from f (suc at) (suc n) ++ rest)) (lost at (omega arith) (omega arith))
    ∙ ap (λ l. before_notes at (Some Lost) l) (whole_lost f (suc at) n rest (λ q low high. lost q (omega (arith, low)) (omega (arith, high))) begins)
    ∙ ap (λ t. cond t (Missing at (suc (suc n)) ∷ told (suc at + suc n) rest) (Missing at 1 ∷ Missing (suc at) (suc n) ∷ told (suc at + suc n) rest)) (eq-eqb (suc at) (suc at) refl)
    ∙ ap (λ k. Missing at (suc (suc n)) ∷ told k rest) (let e : suc at + suc n ≡ at + suc (suc n) = omega arith in e)

begins_lost : (f : ℕ → Option Owner) (q n : ℕ) → (0 < n → IsSome (f q)) → datum (f q) ≡ None → BeginsLost (owners_from f q n)
begins_lost f q zero some none = tt
begins_lost f q (suc n) some none = by_owner (f q) (some (omega arith)) none
  where
    by_owner : (o : Option Owner) → IsSome o → datum o ≡ None → BeginsLost (o ∷ owners_from f (suc q) n)
    by_owner None some none = absurd (let e : IsSome {T = Owner} None = some in cc)
    by_owner (Some Lost) some none = tt
    by_owner (Some (Data b)) some none = absurd (let e : ◌≡◌ {A = Option ℕ} (Some b) None = none in cc)

begins_data : (f : ℕ → Option Owner) (q n : ℕ) → (0 < n → IsSome (f q)) → (f q ≡ Some Lost → ⊥) → BeginsData (owners_from f q n)
begins_data f q zero some other = tt
begins_data f q (suc n) some other = by_owner (f q) refl (some (omega arith))
  where
    by_owner : (o : Option Owner) → f q ≡ o → IsSome o → BeginsData (o ∷ owners_from f (suc q) n)
    by_owner None is some = absurd (let e : IsSome {T = Owner} None = some in cc)
    by_owner (Some Lost) is some = other is
    by_owner (Some (Data b)) is some = tt

pub told_data : (f : ℕ → Option Owner) (at next : ℕ) (bytes : List ℕ) (old new : List Note) → at < 2 ^ 62 → 0 < length bytes → IsDataRun f at (2 ^ 64 - 1) bytes → next ≡ at + length bytes → new ≡ old ++ Deliver at bytes ∷ [] → IsTold f at next old new
told_data f at next [] old new small some run is more = absurd (let e : length {A = ℕ} [] ≡ 0 = refl in omega (arith, some, e))
told_data f at next (b ∷ bytes) old new small some run is more =
    let fits = run.fits in
    record {
      note = Deliver at (b ∷ bytes);
      grows = omega (arith, is, some);
      owned = λ q low high.
          let place : at + (q - at) ≡ q = omega (arith, low) in
          subst (λ o. IsSome o) (sym (run.each (q - at) (omega (arith, high, is, low))) ∙ ap f place) (byte_some (b ∷ bytes) (q - at) (omega (arith, high, is, low)));
      fits = omega (arith, is, fits, small);
      more = more;
      rest = λ to low owned.
          let cut : to - at ≡ length (b ∷ bytes) + (to - next) = omega (arith, low, is) in
          let none : datum (f next) ≡ None = ap (λ k. datum (f k)) is ∙ end run.ended fits in
          ap (λ n. told at (owners_from f at n)) cut
          ∙ ap (λ l. told at l) (owners-split f at (length (b ∷ bytes)) (to - next))
          ∙ ap (λ l. told at (l ++ owners_from f (at + length (b ∷ bytes)) (to - next))) (owned_data f at (b ∷ bytes) run.each)
          ∙ ap (λ k. told at (map (λ d. Some (Data d)) (b ∷ bytes) ++ owners_from f k (to - next))) (sym is)
          ∙ whole_data at b bytes (owners_from f next (to - next)) (begins_lost f next (to - next) (λ more. owned next (omega (arith, is)) (omega (arith, more))) none)
          ∙ ap (λ k. Deliver at (b ∷ bytes) ∷ told k (owners_from f next (to - next))) (sym is);
    }
  where
    end : (2 ^ 64 - 1 ≤ at + length (b ∷ bytes)) ⊎ (datum (f (at + length (b ∷ bytes))) ≡ None) → at + length (b ∷ bytes) ≤ max at (2 ^ 62) → datum (f (at + length (b ∷ bytes))) ≡ None
    end (inl h) fits = absurd (omega (arith, h, fits, small))
    end (inr h) fits = h

pub told_lost : (f : ℕ → Option Owner) (at next : ℕ) (old new : List Note) → at < 2 ^ 62 → f at ≡ Some Lost → IsLostRun f at next → new ≡ old ++ Missing at (next - at) ∷ [] → IsTold f at next old new
told_lost f at next old new small first run more =
    let grows = run.grows in
    let fits = run.fits in
    let some : at < next = elim (cases_eq at next) [
      | inl same ↦ absurd (run.ended (ap f (sym same) ∙ first))
      | inr differ ↦ omega (arith, grows, differ)
    ] in
    let size : next - at ≡ suc (next - at - 1) = omega (arith, some) in
    let place : at + suc (next - at - 1) ≡ next = omega (arith, some) in
    record {
      note = Missing at (next - at);
      grows = some;
      owned = λ q low high. subst (λ o. IsSome o) (sym (run.each q low high)) refl;
      fits = omega (arith, fits, small);
      more = more;
      rest = λ to low owned.
          let cut : to - at ≡ suc (next - at - 1) + (to - next) = omega (arith, low, some) in
          ap (λ n. told at (owners_from f at n)) cut
          ∙ ap (λ l. told at l) (owners-split f at (suc (next - at - 1)) (to - next))
          ∙ ap (λ k. told at (owners_from f at (suc (next - at - 1)) ++ owners_from f k (to - next))) place
          ∙ whole_lost f at (next - at - 1) (owners_from f next (to - next)) (λ q from below. run.each q from (omega (arith, below, place))) (begins_data f next (to - next) (λ rest. owned next (omega (arith, some)) (omega (arith, rest))) run.ended)
          ∙ ap (λ n. Missing at n ∷ told (at + suc (next - at - 1)) (owners_from f next (to - next))) (sym size)
          ∙ ap (λ k. Missing at (next - at) ∷ told k (owners_from f next (to - next))) place;
    }

-- the notes so far, and those of what comes from a number on, are all
pub record Leads (f : ℕ → Option Owner) (from at : ℕ) (old new : List Note) : Type 0 where
  pub grows : from ≤ at
  pub owned : AreOwned f from at
  pub rest : (to : ℕ) → at ≤ to → AreOwned f from to → new ++ told at (owners_from f at (to - at)) ≡ old ++ told from (owners_from f from (to - from))

pub leads_first : (f : ℕ → Option Owner) (from : ℕ) (old : List Note) → Leads f from from old old
leads_first f from old = record { grows = omega arith; owned = λ q low high. absurd (omega (arith, low, high)); rest = λ to low owned. refl }

pub leads_on : (f : ℕ → Option Owner) (from at next : ℕ) (old mid new : List Note) → Leads f from at old mid → IsTold f at next mid new → Leads f from next old new
leads_on f from at next old mid new leads one =
    let grows = leads.grows in
    let more = one.grows in
    record {
      grows = omega (arith, grows, more);
      owned = λ q low high. elim (below_or q at) [ inl left ↦ leads.owned q low left | inr right ↦ one.owned q right high ];
      rest = λ to low owned.
          ap (λ l. l ++ told next (owners_from f next (to - next))) one.more
          ∙ append_assoc mid (one.note ∷ []) (told next (owners_from f next (to - next)))
          ∙ ap (λ l. mid ++ l) (sym (one.rest to low (λ q from_at to_at. owned q (omega (arith, from_at, grows)) to_at)))
          ∙ leads.rest to (omega (arith, low, more)) owned;
    }

pub leads_end : (f : ℕ → Option Owner) (from at : ℕ) (old new after : List Note) → Leads f from at old new → f at ≡ None → after ≡ new → AreDelivered f from at old after
leads_end f from at old new after leads free same = record {
  grows = leads.grows;
  owned = leads.owned;
  free = free;
  more = same ∙ sym (append-nil new) ∙ ap (λ n. new ++ told at (owners_from f at n)) (let e : 0 ≡ at - at = omega arith in e) ∙ leads.rest at (omega arith) leads.owned;
}

-- one more run of data is told as not delivered
pub undelivered_more : (f : ℕ → Option Owner) (at to start : ℕ) (bytes : List ℕ) (all mid new : List Note) → IsFirstRun f at to start bytes → mid ++ map undelivered_note (runs at (data_in f at to)) ≡ all → new ≡ mid ++ Undelivered start bytes ∷ [] → new ++ map undelivered_note (runs (start + length bytes) (data_in f (start + length bytes) to)) ≡ all
undelivered_more f at to start bytes all mid new first done is =
    ap (λ l. l ++ map undelivered_note (runs (start + length bytes) (data_in f (start + length bytes) to))) is
    ∙ append_assoc mid (Undelivered start bytes ∷ []) (map undelivered_note (runs (start + length bytes) (data_in f (start + length bytes) to)))
    ∙ ap (λ l. mid ++ map undelivered_note l) (sym (runs_first f at to start bytes first))
    ∙ done

pub undelivered_end : (f : ℕ → Option Owner) (at to : ℕ) (all mid : List Note) → NoData f at to → mid ++ map undelivered_note (runs at (data_in f at to)) ≡ all → mid ≡ all
undelivered_end f at to all mid none done =
    sym (append-nil mid) ∙ ap (λ l. mid ++ map undelivered_note l) (sym (runs_end f at to none)) ∙ done

-- the old byte beside each new one, where there is one
abbrev pub met : (ℕ → Option Owner) → ℕ → List ℕ → List (Option (ℕ × ℕ))
met f q [] = []
met f q (b ∷ bytes) = both (datum (f q)) b ∷ met f (suc q) bytes

abbrev pub pairs : List ℕ → List ℕ → List (ℕ × ℕ)
pairs [] ys = []
pairs (x ∷ xs) [] = []
pairs (x ∷ xs) (y ∷ ys) = (x, y) ∷ pairs xs ys

pub overlapped_met : (f : ℕ → Option Owner) (head end q : ℕ) (bytes : List ℕ) → head ≤ q → overlapped (record { owner = f; head = head; end = end }) q bytes ≡ met f q bytes
overlapped_met f head end q [] h = refl
overlapped_met f head end q (b ∷ bytes) h =
    ap (λ t. cond t (both (datum (f q)) b) None ∷ overlapped (record { owner = f; head = head; end = end }) (suc q) bytes) (le-leb head q h)
    ∙ ap (λ l. both (datum (f q)) b ∷ l) (overlapped_met f head end (suc q) bytes (omega (arith, h)))

met-split : (f : ℕ → Option Owner) (q : ℕ) (xs ys : List ℕ) → met f q (xs ++ ys) ≡ met f q xs ++ met f (q + length xs) ys
met-split f q [] ys = ap (λ k. met f k ys) (let z : length {A = ℕ} [] ≡ 0 = refl in let e : q ≡ q + length {A = ℕ} [] = omega (arith, z) in e)
met-split f q (x ∷ xs) ys =
    let long : length (x ∷ xs) ≡ suc (length xs) = refl in
    ap (λ l. both (datum (f q)) x ∷ l) (met-split f (suc q) xs ys ∙ ap (λ k. met f (suc q) xs ++ met f k ys) (let e : suc q + length xs ≡ q + length (x ∷ xs) = omega (arith, long) in e))

met_none : (f : ℕ → Option Owner) (q : ℕ) (xs : List ℕ) (rest : List (Option (ℕ × ℕ))) → NoData f q (q + length xs) → runs q (met f q xs ++ rest) ≡ runs (q + length xs) rest
met_none f q [] rest none = ap (λ k. runs k rest) (let z : length {A = ℕ} [] ≡ 0 = refl in let e : q ≡ q + length {A = ℕ} [] = omega (arith, z) in e)
met_none f q (x ∷ xs) rest none =
    let long : length (x ∷ xs) ≡ suc (length xs) = refl in
    ap (λ o. runs q (both o x ∷ met f (suc q) xs ++ rest)) (none q (omega arith) (omega (arith, long)))
    ∙ met_none f (suc q) xs rest (λ k low high. none k (omega (arith, low)) (omega (arith, high, long)))
    ∙ ap (λ k. runs k rest) (let e : suc q + length xs ≡ q + length (x ∷ xs) = omega (arith, long) in e)

met_run : (f : ℕ → Option Owner) (q : ℕ) (old new : List ℕ) → ((i : ℕ) → i < length old → f (q + i) ≡ byte_at old i) → length new ≡ length old → met f q new ≡ map Some (pairs old new)
met_run f q [] [] each same = refl
met_run f q [] (y ∷ new) each same = absurd (let z : length {A = ℕ} [] ≡ 0 = refl in let e : length (y ∷ new) ≡ suc (length new) = refl in omega (arith, same, z, e))
met_run f q (x ∷ old) [] each same = absurd (let z : length {A = ℕ} [] ≡ 0 = refl in let e : length (x ∷ old) ≡ suc (length old) = refl in omega (arith, same, z, e))
met_run f q (x ∷ old) (y ∷ new) each same =
    let long : length (x ∷ old) ≡ suc (length old) = refl in
    let longer : length (y ∷ new) ≡ suc (length new) = refl in
    ap (λ o. both (datum o) y ∷ met f (suc q) new) (ap f (let e : q ≡ q + 0 = omega arith in e) ∙ each 0 (omega (arith, long)))
    ∙ ap (λ l. Some (x, y) ∷ l) (met_run f (suc q) old new (λ i h. ap f (let e : suc q + i ≡ q + suc i = omega arith in e) ∙ each (suc i) (omega (arith, h, long))) (omega (arith, same, long, longer)))

olds : (old new : List ℕ) → length new ≡ length old → map (λ p. p.0) (pairs old new) ≡ old
olds [] new same = refl
olds (x ∷ old) [] same = absurd (let z : length {A = ℕ} [] ≡ 0 = refl in let e : length (x ∷ old) ≡ suc (length old) = refl in omega (arith, same, z, e))
olds (x ∷ old) (y ∷ new) same =
    let long : length (x ∷ old) ≡ suc (length old) = refl in
    let longer : length (y ∷ new) ≡ suc (length new) = refl in
    ap (λ l. x ∷ l) (olds old new (omega (arith, same, long, longer)))

news : (old new : List ℕ) → length new ≡ length old → map (λ p. p.1) (pairs old new) ≡ new
news [] [] same = refl
news [] (y ∷ new) same = absurd (let z : length {A = ℕ} [] ≡ 0 = refl in let e : length (y ∷ new) ≡ suc (length new) = refl in omega (arith, same, z, e))
news (x ∷ old) [] same = absurd (let z : length {A = ℕ} [] ≡ 0 = refl in let e : length (x ∷ old) ≡ suc (length old) = refl in omega (arith, same, z, e))
news (x ∷ old) (y ∷ new) same =
    let long : length (x ∷ old) ≡ suc (length old) = refl in
    let longer : length (y ∷ new) ≡ suc (length new) = refl in
    ap (λ l. y ∷ l) (news old new (omega (arith, same, long, longer)))

pairs_long : (old new : List ℕ) → length new ≡ length old → length (pairs old new) ≡ length old
pairs_long old new same = sym (length-map (pairs old new) (λ p. p.0)) ∙ ap length (olds old new same)

met_free : (f : ℕ → Option Owner) (q : ℕ) (ys : List ℕ) → (length ys ≡ 0) ⊎ (datum (f q) ≡ None) → BeginsFree (met f q ys)
met_free f q [] h = tt
met_free f q (y ∷ ys) (inl empty) = absurd (let e : length (y ∷ ys) ≡ suc (length ys) = refl in omega (arith, empty, e))
met_free f q (y ∷ ys) (inr none) = subst (λ o. BeginsFree (both o y ∷ met f (suc q) ys)) (sym none) tt

-- pairs in a row are one run
pairs_run : (at : ℕ) (old new : List ℕ) (rest : List (Option (ℕ × ℕ))) → 0 < length old → length new ≡ length old → BeginsFree rest → runs at (map Some (pairs old new) ++ rest) ≡ (at, pairs old new) ∷ runs (at + length old) rest
pairs_run at [] new rest some same free = absurd (let z : length {A = ℕ} [] ≡ 0 = refl in omega (arith, some, z))
pairs_run at (x ∷ old) [] rest some same free = absurd (let z : length {A = ℕ} [] ≡ 0 = refl in omega (arith, some, same, z))
pairs_run at (x ∷ old) (y ∷ new) rest some same free =
    whole_run at (x, y) (pairs old new) rest free ∙ ap (λ n. (at, (x, y) ∷ pairs old new) ∷ runs (at + n) rest) (pairs_long (x ∷ old) (y ∷ new) same)

-- the first run of overlapped data, with what is new before it, beside it and behind it
pub overlaps_first : (f : ℕ → Option Owner) (at to start : ℕ) (old before new behind : List ℕ) → IsFirstRun f at to start old → to ≡ at + length (before ++ (new ++ behind)) → start ≡ at + length before → length new ≡ length old → overlaps_in f at (before ++ (new ++ behind)) ≡ Overlap start old new ∷ overlaps_in f (start + length old) behind
overlaps_first f at to start old before new behind first to_is start_is same =
    let next = start + length old in
    let long : length (before ++ (new ++ behind)) ≡ length before + (length new + length behind) = length-append before (new ++ behind) ∙ ap (λ n. length before + n) (length-append new behind) in
    ap (λ l. map overlap_note (runs at l)) (overlapped_met f at 0 at (before ++ (new ++ behind)) (omega arith))
    ∙ ap (λ l. map overlap_note (runs at l)) (met-split f at before (new ++ behind))
    ∙ ap (λ l. map overlap_note l) (met_none f at before (met f (at + length before) (new ++ behind)) (λ q low high. first.before q low (omega (arith, high, start_is))))
    ∙ ap (λ k. map overlap_note (runs k (met f k (new ++ behind)))) (sym start_is)
    ∙ ap (λ l. map overlap_note (runs start l)) (met-split f start new behind)
    ∙ ap (λ n. map overlap_note (runs start (met f start new ++ met f (start + n) behind))) same
    ∙ ap (λ l. map overlap_note (runs start (l ++ met f (start + length old) behind))) (met_run f start old new first.run.each same)
    ∙ ap (λ l. map overlap_note l) (pairs_run start old new (met f (start + length old) behind) first.some same (met_free f (start + length old) behind (end long first.run.ended)))
    ∙ ap (λ l. Overlap start l (map (λ p. p.1) (pairs old new)) ∷ map overlap_note (runs (start + length old) (met f (start + length old) behind))) (olds old new same)
    ∙ ap (λ l. Overlap start old l ∷ map overlap_note (runs (start + length old) (met f (start + length old) behind))) (news old new same)
    ∙ ap (λ l. Overlap start old new ∷ map overlap_note (runs (start + length old) l)) (sym (overlapped_met f (start + length old) 0 (start + length old) behind (omega arith)))
  where
    end : length (before ++ (new ++ behind)) ≡ length before + (length new + length behind) → (to ≤ start + length old) ⊎ (datum (f (start + length old)) ≡ None) → (length behind ≡ 0) ⊎ (datum (f (start + length old)) ≡ None)
    end long (inl h) = inl (omega (arith, h, to_is, start_is, same, long))
    end long (inr h) = inr h

pub overlaps_end : (f : ℕ → Option Owner) (at to : ℕ) (bytes : List ℕ) → to ≡ at + length bytes → NoData f at to → overlaps_in f at bytes ≡ []
overlaps_end f at to bytes to_is none =
    ap (λ l. map overlap_note (runs at l)) (overlapped_met f at 0 at bytes (omega arith) ∙ sym (append-nil (met f at bytes)))
    ∙ ap (λ l. map overlap_note l) (met_none f at bytes [] (λ q low high. none q low (omega (arith, high, to_is))))

drop-nil : (m : ℕ) → drop {A = ℕ} m [] ≡ []
drop-nil zero = refl
drop-nil (suc m) = refl

drop-drop : (m k : ℕ) (xs : List ℕ) → drop m (drop k xs) ≡ drop (k + m) xs
drop-drop m zero xs = ap (λ n. drop n xs) (let e : m ≡ 0 + m = omega arith in e)
drop-drop m (suc k) [] = drop-nil m ∙ sym (drop-nil (suc k + m))
drop-drop m (suc k) (x ∷ xs) = drop-drop m k xs ∙ ap (λ n. drop n (x ∷ xs)) (let e : suc (k + m) ≡ suc k + m = omega arith in e)

cut_drop : (xs : List ℕ) (k m : ℕ) → xs ≡ take k xs ++ (take m (drop k xs) ++ drop (k + m) xs)
cut_drop xs k m =
    sym (take-append-drop k xs) ∙ ap (λ l. take k xs ++ l) (sym (take-append-drop m (drop k xs)) ∙ ap (λ l. take m (drop k xs) ++ l) (drop-drop m k xs))

-- one more overlap is told
pub overlaps_more : (f : ℕ → Option Owner) (from at to start : ℕ) (bytes old new : List ℕ) (all mid after : List Note) → from ≤ at → to ≡ from + length bytes → at ≤ to → IsFirstRun f at to start old → new ≡ take (length old) (drop (start - from) bytes) → mid ++ overlaps_in f at (drop (at - from) bytes) ≡ all → after ≡ mid ++ Overlap start old new ∷ [] → after ++ overlaps_in f (start + length old) (drop (start + length old - from) bytes) ≡ all
overlaps_more f from at to start bytes old new all mid after grows to_is below first new_is done is =
    let begins = first.begins in
    let ends = first.ends in
    let rest = drop (at - from) bytes in
    let k = start - at in
    let here : drop k rest ≡ drop (start - from) bytes = drop-drop (start - at) (at - from) bytes ∙ ap (λ n. drop n bytes) (let e : at - from + (start - at) ≡ start - from = omega (arith, begins, grows) in e) in
    let there : drop (k + length old) rest ≡ drop (start + length old - from) bytes = drop-drop (start - at + length old) (at - from) bytes ∙ ap (λ n. drop n bytes) (let e : at - from + (start - at + length old) ≡ start + length old - from = omega (arith, begins, grows) in e) in
    let cut : rest ≡ take k rest ++ (new ++ drop (start + length old - from) bytes) =
    cut_drop (drop (at - from) bytes) (start - at) (length old)
    ∙ ap (λ l. take (start - at) (drop (at - from) bytes) ++ (take (length old) l ++ drop (start - at + length old) (drop (at - from) bytes))) here
    ∙ ap (λ l. take (start - at) (drop (at - from) bytes) ++ (l ++ drop (start - at + length old) (drop (at - from) bytes))) (sym new_is)
    ∙ ap (λ l. take (start - at) (drop (at - from) bytes) ++ (new ++ l)) there in
    let rest_long : length (drop (at - from) bytes) ≡ length bytes - (at - from) = length-drop (at - from) bytes in
    let before_long : length (take (start - at) (drop (at - from) bytes)) ≡ start - at = length-take-le (start - at) (drop (at - from) bytes) (omega (arith, rest_long, begins, ends, to_is, grows)) in
    let behind_long : length (drop (start - from) bytes) ≡ length bytes - (start - from) = length-drop (start - from) bytes in
    let new_long : length new ≡ length old = ap length new_is ∙ length-take-le (length old) (drop (start - from) bytes) (omega (arith, behind_long, begins, ends, to_is, grows)) in
    let whole : length (take (start - at) (drop (at - from) bytes) ++ (new ++ drop (start + length old - from) bytes)) ≡ length bytes - (at - from) = sym (ap length cut) ∙ rest_long in
    ap (λ l. l ++ overlaps_in f (start + length old) (drop (start + length old - from) bytes)) is
    ∙ append_assoc mid (Overlap start old new ∷ []) (overlaps_in f (start + length old) (drop (start + length old - from) bytes))
    ∙ ap (λ l. mid ++ l) (sym (ap (λ l. overlaps_in f at l) cut
    ∙ overlaps_first f at to start old (take (start - at) (drop (at - from) bytes)) new (drop (start + length old - from) bytes) first (omega (arith, whole, to_is, grows, below)) (omega (arith, before_long, begins)) new_long))
    ∙ done

pub overlaps_done : (f : ℕ → Option Owner) (from at to : ℕ) (bytes : List ℕ) (all mid : List Note) → from ≤ at → at ≤ to → to ≡ from + length bytes → NoData f at to → mid ++ overlaps_in f at (drop (at - from) bytes) ≡ all → mid ≡ all
overlaps_done f from at to bytes all mid grows below to_is none done =
    let long : length (drop (at - from) bytes) ≡ length bytes - (at - from) = length-drop (at - from) bytes in
    sym (append-nil mid) ∙ ap (λ l. mid ++ l) (sym (overlaps_end f at to (drop (at - from) bytes) (omega (arith, long, to_is, grows, below)) none)) ∙ done
