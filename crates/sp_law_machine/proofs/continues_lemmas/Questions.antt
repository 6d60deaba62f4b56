-- What is read of an input that is held open is read of what continues it, whatever is asked.
use Rattle.std.proofs.Common.{◌≡◌, ℕ, ◌+◌, ◌≤◌, Bool, true, false, List, [], ◌∷◌, ◌++◌, length, take, Option, Some, None, refl, sym, ap, ◌∙◌, subst, arith, length-append}
use Rattle.std.proofs.lemmas.Bool.{and_parts, leb-true, le-leb, ltb-true, lt-ltb}
use Rattle.std.proofs.lemmas.List.{take-append-le}
use Rattle.std.specs.Prelude.{nat_le, nat_lt, min, ◌==◌, ◌&&◌, if◌then◌else◌}
use Rattle.sp_base.specs.Input.{held_open}
use Rattle.sp_operators.specs.Parts.{begins_with}
use Rattle.sp_meaning_states.specs.Reads.{Ask, Bytes, Mark, Rest, Word, Data, Reach, Got, Lacks, Verdict, Grows, Match, NoToken, plus_one, place_in, Seen, lacking, cut_at, told_by, read_in, seen_from}
use Rattle.sp_law_machine.specs.continues.Laws.{IsSteady, IsLack, ReadsContinue}
use Rattle.sp_law_machine.proofs.continues_lemmas.Views.{Continues, Same, Longer, seen_continues}

-- a front that fits into the bytes
front_stays : (d w u : List ℕ) → length d ≤ length w → begins_with (w ++ u) d ≡ begins_with w d
front_stays [] [] [] h = refl
front_stays [] [] (c ∷ u) h = refl
front_stays [] (c ∷ w) u h = refl
front_stays (b ∷ d) [] u h = absurd (omega (arith, h))
front_stays (b ∷ d) (c ∷ w) u h = ap (λ x. c == b && x) (front_stays d w u (omega (arith, h)))

front_fits : (d w : List ℕ) → begins_with w d ≡ true → length d ≤ length w
front_fits [] w e = omega arith
front_fits (b ∷ d) [] e = cc
front_fits (b ∷ d) (c ∷ w) e = let rest = (and_parts (c == b) (begins_with w d) e).1 in omega (arith, front_fits d w rest)

-- where a delimiter was found, it is found again, and it fits
abbrev IsFound : List ℕ → List ℕ → List ℕ → Option ℕ → Type 0
IsFound d w u (Some k) = (place_in d (w ++ u) ≡ Some k) × (k + length d ≤ length w)
IsFound d w u None = Unit {0}

found_behind : (d : List ℕ) (b : ℕ) (w u : List ℕ) (o : Option ℕ) → begins_with (b ∷ w) d ≡ false → IsFound d w u o → IsFound d (b ∷ w) u (plus_one o)
found_behind d b w u None e h = tt
found_behind d b w u (Some k) e h =
    let fits = h.1 in
    let not_here : begins_with (b ∷ (w ++ u)) d ≡ false = front_stays d (b ∷ w) u (omega (arith, fits)) ∙ e in
    (ap (λ x. if x then Some 0 else plus_one (place_in d (w ++ u))) not_here ∙ ap plus_one h.0, omega (arith, fits))

found_if : (d : List ℕ) (b : ℕ) (w u : List ℕ) (x : Bool) → begins_with (b ∷ w) d ≡ x → IsFound d w u (place_in d w) → IsFound d (b ∷ w) u (if x then Some 0 else plus_one (place_in d w))
found_if d b w u true e h =
    let fits = front_fits d (b ∷ w) e in
    (ap (λ x. if x then Some 0 else plus_one (place_in d (w ++ u))) (front_stays d (b ∷ w) u fits ∙ e), omega (arith, fits))
found_if d b w u false e h = found_behind d b w u (place_in d w) e h

is_found : (d w u : List ℕ) → IsFound d w u (place_in d w)
is_found d [] u = tt
is_found d (b ∷ w) u = found_if d b w u (begins_with (b ∷ w) d) refl (is_found d w u)

module _ (verdict : ℕ → List ℕ → Bool → Verdict) (steady : IsSteady verdict) where
  -- each question, where more bytes may stand behind those that were seen, and the answer wasn't that some lack
  bytes_if : (x y : Seen) (at n : ℕ) (u : List ℕ) (b : Bool) → nat_le n (length x.ahead) ≡ b → x.over ≡ false → y.ahead ≡ x.ahead ++ u
      → (IsLack (if b then Got 0 n (take n x.ahead) else lacking x.over at x.overs) → ⊥)
      → read_in verdict y at (Bytes n) ≡ (if b then Got 0 n (take n x.ahead) else lacking x.over at x.overs)
  bytes_if x y at n u true e over ahead h =
      let g = leb-true n (length x.ahead) e in
      let long : n ≤ length (x.ahead ++ u) = omega (arith, length-append x.ahead u, g) in
      ap (λ l. if nat_le n (length l) then Got 0 n (take n l) else lacking y.over at y.overs) ahead
      ∙ ap (λ b. if b then Got 0 n (take n (x.ahead ++ u)) else lacking y.over at y.overs) (le-leb n (length (x.ahead ++ u)) long)
      ∙ ap (Got 0 n) (take-append-le n x.ahead u g)
  bytes_if x y at n u false e over ahead h = absurd (h (subst (λ o. IsLack (lacking o at x.overs)) (sym over) tt))

  mark_if : (x y : Seen) (at : ℕ) (d u : List ℕ) (o : Option ℕ) → IsFound d x.ahead u o → x.over ≡ false → y.ahead ≡ x.ahead ++ u
      → (IsLack (cut_at o (length d) x.ahead (lacking x.over at x.overs)) → ⊥)
      → read_in verdict y at (Mark d) ≡ cut_at o (length d) x.ahead (lacking x.over at x.overs)
  mark_if x y at d u (Some k) found over ahead h =
      let fits = found.1 in
      ap (λ l. cut_at (place_in d l) (length d) l (lacking y.over at y.overs)) ahead
      ∙ ap (λ o. cut_at o (length d) (x.ahead ++ u) (lacking y.over at y.overs)) found.0
      ∙ ap (Got 0 (k + length d)) (take-append-le k x.ahead u (omega (arith, fits)))
  mark_if x y at d u None found over ahead h = absurd (h (subst (λ o. IsLack (lacking o at x.overs)) (sym over) tt))

  word_same : (x y : Seen) (at set : ℕ) (u : List ℕ) (v : Verdict) → verdict set x.ahead false ≡ v → (v ≡ Grows → ⊥) → y.ahead ≡ x.ahead ++ u
      → read_in verdict y at (Word set) ≡ told_by v (x.ahead ++ u) (lacking y.over at y.overs)
  word_same x y at set u v e told ahead =
      ap (λ l. told_by (verdict set l y.over) l (lacking y.over at y.overs)) ahead
      ∙ ap (λ v. told_by v (x.ahead ++ u) (lacking y.over at y.overs)) (steady.stays set x.ahead u y.over (λ f. told (sym e ∙ f)) ∙ e)

  word_if : (x y : Seen) (at set : ℕ) (u : List ℕ) (v : Verdict) → verdict set x.ahead false ≡ v → x.over ≡ false → y.ahead ≡ x.ahead ++ u
      → (IsLack (told_by v x.ahead (lacking x.over at x.overs)) → ⊥)
      → read_in verdict y at (Word set) ≡ told_by v x.ahead (lacking x.over at x.overs)
  word_if x y at set u Grows e over ahead h = absurd (h (subst (λ o. IsLack (lacking o at x.overs)) (sym over) tt))
  word_if x y at set u (Match t n) e over ahead h = word_same x y at set u (Match t n) e told ahead ∙ ap (Got t n) (take-append-le n x.ahead u (steady.fits set x.ahead false t n e))
    where
      told : Match t n ≡ Grows → ⊥
      told f = cc
  word_if x y at set u NoToken e over ahead h = word_same x y at set u NoToken e told ahead
    where
      told : NoToken ≡ Grows → ⊥
      told f = cc

  data_if : (x y : Seen) (at : ℕ) (b : Bool) → nat_lt at x.stop ≡ b → x.over ≡ false → x.stop ≤ y.stop
      → (IsLack (if b then Got 1 0 [] else if x.over then Got 0 0 [] else Lacks at) → ⊥)
      → read_in verdict y at Data ≡ (if b then Got 1 0 [] else if x.over then Got 0 0 [] else Lacks at)
  data_if x y at true e over up h =
      let g = ltb-true at x.stop e in
      ap (λ b. if b then Got 1 0 [] else if y.over then Got 0 0 [] else Lacks at) (lt-ltb at y.stop (omega (arith, g, up)))
  data_if x y at false e over up h = absurd (h (subst (λ o. IsLack (if o then Got 0 0 [] else Lacks at)) (sym over) tt))

  reach_if : (x y : Seen) (at to : ℕ) (b : Bool) → nat_le to x.stop ≡ b → x.over ≡ false → x.stop ≤ y.stop
      → (IsLack (if b then Got 0 0 [] else lacking x.over (min at (min to x.stop)) x.overs) → ⊥)
      → read_in verdict y at (Reach to) ≡ (if b then Got 0 0 [] else lacking x.over (min at (min to x.stop)) x.overs)
  reach_if x y at to true e over up h =
      let g = leb-true to x.stop e in
      ap (λ b. if b then Got 0 0 [] else lacking y.over (min at (min to y.stop)) y.overs) (le-leb to y.stop (omega (arith, g, up)))
  reach_if x y at to false e over up h = absurd (h (subst (λ o. IsLack (lacking o (min at (min to x.stop)) x.overs)) (sym over) tt))

  read_continues : (x y : Seen) (at : ℕ) (a : Ask) → Continues x y → (IsLack (read_in verdict x at a) → ⊥) → read_in verdict y at a ≡ read_in verdict x at a
  read_continues x y at a (Same e) h = ap (λ z. read_in verdict z at a) e
  read_continues x y at (Bytes n) (Longer u over ahead up) h = bytes_if x y at n u (nat_le n (length x.ahead)) refl over ahead h
  read_continues x y at (Mark d) (Longer u over ahead up) h = mark_if x y at d u (place_in d x.ahead) (is_found d x.ahead u) over ahead h
  read_continues x y at Rest (Longer u over ahead up) h = absurd (h (subst (λ o. IsLack (if o then Got 0 (length x.ahead) x.ahead else Lacks at)) (sym over) tt))
  read_continues x y at (Word set) (Longer u over ahead up) h =
      word_if x y at set u (verdict set x.ahead x.over) (sym (ap (verdict set x.ahead) over)) over ahead h
  read_continues x y at Data (Longer u over ahead up) h = data_if x y at (nat_lt at x.stop) refl over up h
  read_continues x y at (Reach to) (Longer u over ahead up) h = reach_if x y at to (nat_le to x.stop) refl over up h

pub reads_continue : ReadsContinue
reads_continue verdict steady s t close r a h =
    read_continues verdict steady (seen_from s held_open r.source r.place r.views) (seen_from (s ++ t) close r.source r.place r.views) r.place a (seen_continues s t close r.source r.place r.views) h
