-- Reading owners in runs.
use Rattle.std.proofs.Common.{◌≡◌, ℕ, zero, suc, ◌+◌, ◌-◌, ◌<◌, ◌≤◌, ◌^◌, min, max, List, [], ◌∷◌, ◌++◌, length, take, drop, Option, Some, None, IsSome, ◌⊎◌, refl, sym, ap, subst, ◌∙◌, inl, inr, arith, length-drop, length-append}
use Rattle.std.proofs.lemmas.List.{length-take}
use Rattle.sp_reasm.specs.declared.piece.Content.TheVariants.{Bytes, Missing}
use Rattle.sp_reasm.specs.declared.piece.Spot.{Spot}
use Rattle.sp_reasm.specs.declared.piece.Spot.TheVariants.{Bytes as SpotBytes, Missing as SpotMissing, Free}
use Rattle.sp_reasm.specs.Owners.{Owner, Lost, Write, covering, byte_at, or_else}
use Rattle.sp_reasm.specs.Notes.{datum}
use Rattle.sp_reasm.specs.Pieces.{AreData, AreLost, AreFree, IsSpot, spot_len, laid}
use Rattle.sp_reasm.specs.inside.Overlays.{IsDataRun, NoData}
use Rattle.sp_reasm.proofs.PieceLemmas.{byte-drop, byte-take, byte_some, covering_write, covering_behind}
use Rattle.sp_reasm.proofs.FloorLemmas.{or_some}
use Rattle.sp_reasm.proofs.PlaceLemmas.{below_or}

pub laid_behind : (start : ℕ) (cover : Spot) (q : ℕ) → start + spot_len cover ≤ q → laid start cover q ≡ None
laid_behind start (SpotBytes bytes) q h = covering_behind start (Bytes bytes.now) q h
laid_behind start (SpotMissing len) q h = covering_behind start (Missing len) q h
laid_behind start (Free len) q h = refl

-- behind its end a cover has nothing
pub part_behind : (start at room : ℕ) (cover : Spot) → at + room ≤ 2 ^ 64 - 1 → (at < 2 ^ 64 - 1 → 0 < room) → start + spot_len cover ≤ at → AreFree (laid start cover) at room
part_behind start at room cover fits some behind = record {
  first = laid_behind start cover at behind;
  some = some;
  fits = fits;
  each = λ i h. laid_behind start cover (at + i) (omega (arith, behind));
}

-- what data that are laid have from a number on
pub part_data : (start at most : ℕ) (bytes part : List ℕ) → start ≤ at → start + length bytes ≤ 2 ^ 62 → 0 < most → at + most ≤ start + length bytes → part ≡ take most (drop (at - start) bytes) → AreData (λ q. covering (Write start bytes) q) at part
part_data start at most bytes part from fits some within is =
    let rest : length (drop (at - start) bytes) ≡ length bytes - (at - start) = length-drop (at - start) bytes in
    let len : length part ≡ most = ap length is ∙ length-take most (drop (at - start) bytes) ∙ (let e : min most (length (drop (at - start) bytes)) ≡ most = omega (arith, rest, from, within) in e) in
    record {
      some = omega (arith, len, some);
      fits = omega (arith, len, within, fits);
      each = λ i h.
          let place : at + i ≡ start + (at - start + i) = omega (arith, from) in
          ap (λ q. covering (Write start bytes) q) place
          ∙ covering_write start (at - start + i) bytes
          ∙ sym (byte-drop (at - start) i bytes)
          ∙ sym (byte-take most i (drop (at - start) bytes) (omega (arith, h, len)))
          ∙ ap (λ b. byte_at b i) (sym is);
    }

-- what is pending stays, whatever is laid over it
pub data_stay : (owner other : ℕ → Option Owner) (at : ℕ) (bytes : List ℕ) → AreData owner at bytes → AreData (λ q. or_else (owner q) (other q)) at bytes
data_stay owner other at bytes h = record {
  some = h.some;
  fits = h.fits;
  each = λ i k. or_some (owner (at + i)) (other (at + i)) (subst (λ o. IsSome o) (sym (h.each i k)) (byte_some bytes i k)) ∙ h.each i k;
}

pub byte-append-left : (xs ys : List ℕ) (i : ℕ) → i < length xs → byte_at (xs ++ ys) i ≡ byte_at xs i
byte-append-left [] ys i h = absurd (let e : length {A = ℕ} [] ≡ 0 = refl in omega (arith, h, e))
byte-append-left (x ∷ xs) ys zero h = refl
byte-append-left (x ∷ xs) ys (suc i) h = byte-append-left xs ys i (omega (arith, h))

pub byte-append-right : (xs ys : List ℕ) (i : ℕ) → byte_at (xs ++ ys) (length xs + i) ≡ byte_at ys i
byte-append-right [] ys i = ap (λ k. byte_at ys k) (let e : 0 + i ≡ i = omega arith in e)
byte-append-right (x ∷ xs) ys i =
    ap (λ k. byte_at (x ∷ xs ++ ys) k) (let e : suc (length xs) + i ≡ suc (length xs + i) = omega arith in e)
    ∙ byte-append-right xs ys i

-- the data that were read from a number on
pub record AreRead (owner : ℕ → Option Owner) (from to at : ℕ) (run : List ℕ) : Type 0 where
  pub at_is : at ≡ from + length run
  pub within : from ≤ to → at ≤ to
  pub fits : at ≤ max from (2 ^ 62)
  pub each : (i : ℕ) → i < length run → owner (from + i) ≡ byte_at run i

pub read_none : (owner : ℕ → Option Owner) (from to : ℕ) → AreRead owner from to from []
read_none owner from to = record {
  at_is = let e : length {A = ℕ} [] ≡ 0 = refl in omega (arith, e);
  within = λ h. h;
  fits = omega arith;
  each = λ i h. absurd (let e : length {A = ℕ} [] ≡ 0 = refl in omega (arith, h, e));
}

pub read_more : (owner : ℕ → Option Owner) (from to at len : ℕ) (run bytes part new : List ℕ) → AreRead owner from to at run → at < to → AreData owner at bytes → part ≡ take (to - at) bytes → len ≡ length part → new ≡ run ++ part → AreRead owner from to (at + len) new
read_more owner from to at len run bytes part new done below more is len_is new_is =
    let long : length part ≡ min (to - at) (length bytes) = ap length is ∙ length-take (to - at) bytes in
    let whole : length new ≡ length run + length part = ap length new_is ∙ length-append run part in
    let place = done.at_is in
    record {
      at_is = omega (arith, whole, place, len_is);
      within = λ h. omega (arith, len_is, long, below);
      fits = let f = more.fits in omega (arith, len_is, long, f);
      each = λ i h. elim (below_or i (length run)) [
        | inl left ↦ done.each i left ∙ sym (byte-append-left run part i left) ∙ ap (λ b. byte_at b i) (sym new_is)
        | inr right ↦
            let k : length run + (i - length run) ≡ i = omega (arith, right) in
            let at_is : from + i ≡ at + (i - length run) = omega (arith, right, place) in
            let short : i - length run < length part = omega (arith, h, whole, right) in
            ap owner at_is
            ∙ more.each (i - length run) (omega (arith, short, long))
            ∙ sym (byte-take (to - at) (i - length run) bytes (omega (arith, short, long)))
            ∙ ap (λ b. byte_at b (i - length run)) (sym is)
            ∙ sym (byte-append-right run part (i - length run))
            ∙ ap (λ j. byte_at (run ++ part) j) k ∙ ap (λ b. byte_at b i) (sym new_is)
      ];
    }

-- a spot that is no data has none at its number
pub no_datum : (owner : ℕ → Option Owner) (at : ℕ) (spot : Spot) → IsSpot owner at spot → ((bytes : _) → spot ≡ SpotBytes bytes → ⊥) → datum (owner at) ≡ None
no_datum owner at (SpotBytes bytes) h other = absurd (other bytes refl)
no_datum owner at (SpotMissing len) h other =
    ap (λ q. datum (owner q)) (let e : at ≡ at + 0 = omega arith in e) ∙ ap datum (h.each 0 h.some)
no_datum owner at (Free len) h other = ap datum h.first

pub read_ended : (owner : ℕ → Option Owner) (from to at : ℕ) (run : List ℕ) → AreRead owner from to at run → (to ≤ at) ⊎ (datum (owner at) ≡ None) → IsDataRun owner from to run
read_ended owner from to at run done end = record {
  each = done.each;
  within = λ h. let place = done.at_is in let within = done.within h in omega (arith, place, within);
  fits = let place = done.at_is in let fits = done.fits in omega (arith, place, fits);
  ended = subst (λ q. (to ≤ q) ⊎ (datum (owner q) ≡ None)) done.at_is end;
}

pub lost_more : (owner : ℕ → Option Owner) (from at len : ℕ) → ((q : ℕ) → from ≤ q → q < at → owner q ≡ Some Lost) → AreLost owner at len → (q : ℕ) → from ≤ q → q < at + len → owner q ≡ Some Lost
lost_more owner from at len done more q low high = elim (below_or q at) [
  | inl left ↦ done q low left
  | inr right ↦
      let place : q ≡ at + (q - at) = omega (arith, right) in
      ap owner place ∙ more.each (q - at) (omega (arith, right, high))
]

-- a spot that is not lost does not begin with a lost position
pub not_lost : (owner : ℕ → Option Owner) (at : ℕ) (spot : Spot) → IsSpot owner at spot → ((len : ℕ) → spot ≡ SpotMissing len → ⊥) → owner at ≡ Some Lost → ⊥
not_lost owner at (SpotBytes bytes) h other lost =
    let first : owner (at + 0) ≡ byte_at bytes.now 0 = h.each 0 h.some in
    no_loss bytes.now (sym first ∙ ap owner (let e : at + 0 ≡ at = omega arith in e) ∙ lost)
  where
    no_loss : (bytes : List ℕ) → byte_at bytes 0 ≡ Some Lost → ⊥
    no_loss [] e = let q : IsSome {T = Owner} None = subst (λ o. IsSome o) (sym e) refl in cc
    no_loss (b ∷ bytes) e = let q : ◌≡◌ {A = Option ℕ} (Some b) None = ap datum e in cc
not_lost owner at (SpotMissing len) h other lost = other len refl
not_lost owner at (Free len) h other lost = let q : IsSome {T = Owner} None = subst (λ o. IsSome o) (sym lost ∙ h.first) refl in cc

pub lost_no_data : (owner : ℕ → Option Owner) (from at len : ℕ) → NoData owner from at → AreLost owner at len → NoData owner from (at + len)
lost_no_data owner from at len done h q low high = elim (below_or q at) [
  | inl left ↦ done q low left
  | inr right ↦
      let place : q ≡ at + (q - at) = omega (arith, right) in
      ap (λ k. datum (owner k)) place ∙ ap datum (h.each (q - at) (omega (arith, right, high)))
]

pub free_no_data : (owner : ℕ → Option Owner) (from at len : ℕ) → NoData owner from at → AreFree owner at len → NoData owner from (at + len)
free_no_data owner from at len done h q low high = elim (below_or q at) [
  | inl left ↦ done q low left
  | inr right ↦
      let place : q ≡ at + (q - at) = omega (arith, right) in
      ap (λ k. datum (owner k)) place ∙ ap datum (h.each (q - at) (omega (arith, right, high)))
]

-- a run from data on is not empty
pub some_read : (owner : ℕ → Option Owner) (at to : ℕ) (bytes run : List ℕ) → at < to → AreData owner at bytes → IsDataRun owner at to run → 0 < length run
some_read owner at to bytes [] below h run = elim run.ended [
  | inl past ↦ absurd (let e : length {A = ℕ} [] ≡ 0 = refl in omega (arith, past, below, e))
  | inr none ↦
      let none_here : datum (owner at) ≡ None = ap (λ q. datum (owner q)) (let e : length {A = ℕ} [] ≡ 0 = refl in let f : at ≡ at + length {A = ℕ} [] = omega (arith, e) in f) ∙ none in
      let first : owner at ≡ byte_at bytes 0 = ap owner (let e : at ≡ at + 0 = omega arith in e) ∙ h.each 0 h.some in
      absurd (no_byte bytes h.some (sym (ap datum first) ∙ none_here))
]
  where
    no_byte : (bytes : List ℕ) → 0 < length bytes → datum (byte_at bytes 0) ≡ None → ⊥
    no_byte [] some e = let z : length {A = ℕ} [] ≡ 0 = refl in omega (arith, some, z)
    no_byte (b ∷ bytes) some e = let q : ◌≡◌ {A = Option ℕ} (Some b) None = e in cc
some_read owner at to bytes (b ∷ run) below h done = let e : length (b ∷ run) ≡ suc (length run) = refl in omega (arith, e)
