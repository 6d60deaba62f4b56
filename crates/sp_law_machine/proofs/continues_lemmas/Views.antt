-- What the open views show of an input that is held open, and of what continues it.
use Rattle.std.proofs.Common.{◌≡◌, ℕ, ◌+◌, ◌-◌, ◌≤◌, Bool, true, false, List, [], ◌∷◌, ◌++◌, length, take, drop, refl, sym, ap, ◌∙◌, arith, length-append, length-drop}
use Rattle.std.proofs.lemmas.Bool.{leb-true, leb-false, le-leb, or_right}
use Rattle.std.proofs.lemmas.List.{take_all, take-append-le, drop-append-le}
use Rattle.std.proofs.Math.Seq.{take-append-add}
use Rattle.std.specs.Prelude.{◌||◌, nat_le, min}
use Rattle.sp_base.specs.Input.{Close, held_open}
use Rattle.sp_meaning_states.specs.States.{Source, Main, Given, View}
use Rattle.sp_meaning_states.specs.Reads.{is_ended, data_end, is_over, overs_of, Seen, seen_in, seen_from}

-- a view ends no earlier where there are more bytes, and at the same place where there were enough
rises : (vs : List View) (len more : ℕ) → len ≤ more → data_end len vs ≤ data_end more vs
rises [] len more h = h
rises (v ∷ vs) len more h = omega (arith, rises vs len more h)

capped : (vs : List View) (k len more : ℕ) → k ≤ len → len ≤ more → min k (data_end more vs) ≡ min k (data_end len vs)
capped [] k len more h g = omega arith
capped (v ∷ vs) k len more h g = omega (arith, capped vs k len more h g)

-- where no view is over, the data end with the bytes
ends_if : (limit len stop : ℕ) (b c : Bool) → nat_le limit len ≡ b → b || c ≡ false → (c ≡ false → stop ≡ len) → min limit stop ≡ len
ends_if limit len stop true c f e rest = cc
ends_if limit len stop false c f e rest = omega (arith, leb-false limit len f, rest e)

ends_with_bytes : (vs : List View) (len : ℕ) → is_over false len vs ≡ false → data_end len vs ≡ len
ends_with_bytes [] len e = refl
ends_with_bytes (v ∷ vs) len e = ends_if v.limit len (data_end len vs) (nat_le v.limit len) (is_over false len vs) refl e (ends_with_bytes vs len)

-- what a view that is over holds stays
record IsFixed (c : Bool) (vs : List View) (len more : ℕ) : Type 0 where
  over : is_over c more vs ≡ true
  stop : data_end more vs ≡ data_end len vs
  within : data_end len vs ≤ len

fixed_if : (c : Bool) (v : View) (vs : List View) (len more : ℕ) (b : Bool) → len ≤ more → nat_le v.limit len ≡ b → b || is_over false len vs ≡ true
    → (is_over false len vs ≡ true → IsFixed c vs len more) → IsFixed c (v ∷ vs) len more
fixed_if c v vs len more true h f e rest =
    let g = leb-true v.limit len f in
    record {
      over = ap (λ b. b || is_over c more vs) (le-leb v.limit more (omega (arith, g, h)));
      stop = capped vs v.limit len more g h;
      within = omega (arith, g);
    }
fixed_if c v vs len more false h f e rest =
    let r = rest e in
    let same = r.stop in
    let low = r.within in
    record {
      over = or_right (nat_le v.limit more) (is_over c more vs) r.over;
      stop = omega (arith, same);
      within = omega (arith, low);
    }

stays_over : (c : Bool) (vs : List View) (len more : ℕ) → len ≤ more → is_over false len vs ≡ true → IsFixed c vs len more
stays_over c [] len more h e = cc
stays_over c (v ∷ vs) len more h e = fixed_if c v vs len more (nat_le v.limit len) h refl e (stays_over c vs len more h)

-- the bytes up to a place that was there
taken_if : (at stop : ℕ) (s t : List ℕ) (b : Bool) → stop ≤ length s → nat_le at (length s) ≡ b → take (stop - at) (drop at (s ++ t)) ≡ take (stop - at) (drop at s)
taken_if at stop s t true h f =
    let g = leb-true at (length s) f in
    ap (take (stop - at)) (drop-append-le at s t g) ∙ take-append-le (stop - at) (drop at s) t (omega (arith, length-drop at s, h))
taken_if at stop s t false h f =
    let n : stop - at ≡ 0 = omega (arith, leb-false at (length s) f, h) in
    ap (λ k. take k (drop at (s ++ t))) n ∙ sym (ap (λ k. take k (drop at s)) n)

-- What is seen of the whole is what was seen of its front; or no view was over, and more bytes may stand behind the same ones.
pub data Continues (x y : Seen) : Type 0 where
  Same : y ≡ x → Continues x y
  Longer : (u : List ℕ) → x.over ≡ false → y.ahead ≡ x.ahead ++ u → x.stop ≤ y.stop → Continues x y

longer_if : (at more : ℕ) (s t : List ℕ) (b : Bool) → length s ≤ more → nat_le at (length s) ≡ b → (u : List ℕ) × (take (more - at) (drop at (s ++ t)) ≡ take (length s - at) (drop at s) ++ u)
longer_if at more s t true h f =
    let g = leb-true at (length s) f in
    let k = more - at - (length s - at) in
    let n : more - at ≡ length (drop at s) + k = omega (arith, length-drop at s, g, h) in
    let all : take (length s - at) (drop at s) ≡ drop at s = take_all (length s - at) (drop at s) (omega (arith, length-drop at s)) in
    (take k t, ap (take (more - at)) (drop-append-le at s t g) ∙ ap (λ n. take n (drop at s ++ t)) n ∙ take-append-add (drop at s) t k ∙ sym (ap (λ l. l ++ take k t) all))
longer_if at more s t false h f =
    let n : length s - at ≡ 0 = omega (arith, leb-false at (length s) f) in
    (take (more - at) (drop at (s ++ t)), sym (ap (λ k. take k (drop at s) ++ take (more - at) (drop at (s ++ t))) n))

continues_if : (s t : List ℕ) (c : Bool) (at : ℕ) (vs : List View) (b : Bool) → is_over false (length s) vs ≡ b → Continues (seen_in s false at vs) (seen_in (s ++ t) c at vs)
continues_if s t c at vs true e =
    let len : length s ≤ length (s ++ t) = omega (arith, length-append s t) in
    let r = stays_over c vs (length s) (length (s ++ t)) len e in
    let made : List ℕ → ℕ → Bool → Seen = λ bs n over. record { ahead = bs; stop = n; over = over; overs = overs_of n vs } in
    Same (ap (λ n. made (take (n - at) (drop at (s ++ t))) n (is_over c (length (s ++ t)) vs)) r.stop
    ∙ ap (λ bs. made bs (data_end (length s) vs) (is_over c (length (s ++ t)) vs)) (taken_if at (data_end (length s) vs) s t (nat_le at (length s)) r.within refl)
    ∙ ap (λ o. made (take (data_end (length s) vs - at) (drop at s)) (data_end (length s) vs) o) (r.over ∙ sym e))
continues_if s t c at vs false e =
    let len : length s ≤ length (s ++ t) = omega (arith, length-append s t) in
    let stop = ends_with_bytes vs (length s) e in
    let up = rises vs (length s) (length (s ++ t)) len in
    let r = longer_if at (data_end (length (s ++ t)) vs) s t (nat_le at (length s)) (omega (arith, stop, up)) refl in
    Longer r.0 e (r.1 ∙ ap (λ n. take (n - at) (drop at s) ++ r.0) (sym stop)) up

pub seen_continues : (s t : List ℕ) (c : Close) (x : Source) (at : ℕ) (vs : List View) → Continues (seen_from s held_open x at vs) (seen_from (s ++ t) c x at vs)
seen_continues s t c Main at vs = continues_if s t (is_ended c) at vs (is_over false (length s) vs) refl
seen_continues s t c (Given b) at vs = Same refl
