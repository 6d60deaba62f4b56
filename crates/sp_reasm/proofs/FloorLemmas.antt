-- The last key of an index up to a number, and the piece that it leads to.
use Rattle.std.proofs.Common.{◌≡◌, ℕ, suc, ◌+◌, ◌-◌, ◌<◌, ◌≤◌, ◌^◌, not, nat_lt, nat_eq, cond, Bool, true, false, List, [], ◌∷◌, ◌++◌, length, Option, Some, None, IsSome, IfSome, refl, sym, ap, subst, ◌∙◌, arith}
use Rattle.std.proofs.lemmas.Bool.{ltb-true, ltb-false, lt-ltb}
use Rattle.std.specs.Ordering.{nat_cmp, is_lt}
use Rattle.std.specs.declared.cmp.Ordering.TheVariants.{Less, Equal, Greater}
use Rattle.std.specs.List.{AllByRecursion}
use Rattle.std.specs.List.Sorted.{IsStrictlySortedBy}
use Rattle.std.specs.Map.{keys_of}
use Rattle.std.specs.BTreeMap.Range.{entries_between}
use Rattle.std.specs.declared.ops.Bound.TheVariants.{Included, Unbounded}
use Rattle.sp_chain.specs.Chains.{first_slot}
use Rattle.sp_reasm.specs.declared.piece.Piece.{Piece}
use Rattle.sp_reasm.specs.declared.piece.Spot.{Spot}
use Rattle.sp_reasm.specs.declared.piece.Spot.TheVariants.{Bytes as SpotBytes, Missing as SpotMissing, Free}
use Rattle.sp_reasm.specs.Owners.{Owner, or_else}
use Rattle.sp_reasm.specs.Pieces.{has, owner_of, past_of, AreOrdered, AreFree, IsSpot}
use Rattle.sp_reasm.specs.Listed.{IsSlotIn, StandsIn, pieces_of, ArePast, IsFloor, IsIndexed, room_to}
use Rattle.sp_reasm.proofs.PieceLemmas.{byte_some, covering_within, pieces-append, cut, owner_cut, owner_behind, room_is_free, FloorItem, floor_item}

abbrev pub AreUpTo : ℕ → List (ℕ × ℕ) → Type 0
AreUpTo at [] = Unit {0}
AreUpTo at (entry ∷ entries) = (entry.0 ≤ at) × AreUpTo at entries

-- entries in order, cut behind those up to a number
pub record AreSplit (at : ℕ) (es : List (ℕ × ℕ)) : Type 0 where
  pub up : List (ℕ × ℕ)
  pub rest : List (ℕ × ℕ)
  pub whole : es ≡ up ++ rest
  pub kept : entries_between nat_cmp Unbounded (Included at) es ≡ up
  pub within : AreUpTo at up
  pub past : ArePast at rest

tested : (at k : ℕ) (b : Bool) → nat_lt at k ≡ b → not (is_lt (nat_cmp at k)) ≡ not b
tested at k true e = ap (λ t. not (is_lt (cond t Less (cond (nat_eq at k) Equal Greater)))) e
tested at k false e = ap (λ t. not (is_lt (cond t Less (cond (nat_eq at k) Equal Greater)))) e ∙ other (nat_eq at k)
  where
    other : (t : Bool) → not (is_lt (cond t Equal Greater)) ≡ true
    other true = refl
    other false = refl

less : (a b : ℕ) → nat_cmp a b ≡ Less → a < b
less a b h = by_test (nat_lt a b) refl
  where
    by_test : (t : Bool) → nat_lt a b ≡ t → a < b
    by_test true e = ltb-true a b e
    by_test false e =
        let off : not (is_lt (nat_cmp a b)) ≡ true = tested a b false e in
        let on : not (is_lt (nat_cmp a b)) ≡ false = ap (λ o. not (is_lt o)) h in
        absurd (let q : false ≡ true = sym on ∙ off in cc)

all_past : (at key : ℕ) (es : List (ℕ × ℕ)) → at < key → AllByRecursion (λ y. nat_cmp key y ≡ Less) (keys_of es) → ArePast at es
all_past at key [] h above = tt
all_past at key (e ∷ es) h above = (let over = less key e.0 above.0 in omega (arith, h, over), all_past at key es h above.1)

none_kept : (at : ℕ) (es : List (ℕ × ℕ)) → ArePast at es → entries_between nat_cmp Unbounded (Included at) es ≡ []
none_kept at [] past = refl
none_kept at (e ∷ es) past =
    ap (λ b. cond b (e ∷ entries_between nat_cmp Unbounded (Included at) es) (entries_between nat_cmp Unbounded (Included at) es)) (tested at e.0 true (lt-ltb at e.0 past.0))
    ∙ none_kept at es past.1

pub split_at : (at : ℕ) (es : List (ℕ × ℕ)) → IsStrictlySortedBy nat_cmp (keys_of es) → AreSplit at es
unfolding IsStrictlySortedBy
split_at at [] sorted = record { up = []; rest = []; whole = refl; kept = refl; within = tt; past = tt }
split_at at (e ∷ es) sorted = by_test (nat_lt at e.0) refl (split_at at es sorted.1)
  where
    by_test : (b : Bool) → nat_lt at e.0 ≡ b → AreSplit at es → AreSplit at (e ∷ es)
    by_test true h rest =
        let past : ArePast at (e ∷ es) = (ltb-true at e.0 h, all_past at e.0 es (ltb-true at e.0 h) sorted.0) in
        record { up = []; rest = e ∷ es; whole = refl; kept = none_kept at (e ∷ es) past; within = tt; past = past }
    by_test false h rest = record {
      up = e ∷ rest.up;
      rest = rest.rest;
      whole = ap (λ l. e ∷ l) rest.whole;
      kept = ap (λ b. cond b (e ∷ entries_between nat_cmp Unbounded (Included at) es) (entries_between nat_cmp Unbounded (Included at) es)) (tested at e.0 false h) ∙ ap (λ l. e ∷ l) rest.kept;
      within = (ltb-false at e.0 h, rest.within);
      past = rest.past;
    }

last_within : (at : ℕ) (t : List (ℕ × ℕ)) (e : ℕ × ℕ) → AreUpTo at (t ++ e ∷ []) → e.0 ≤ at
last_within at [] e within = within.0
last_within at (y ∷ t) e within = last_within at t e within.1

joined : (t : List (ℕ × ℕ)) (e : ℕ × ℕ) (rest : List (ℕ × ℕ)) → (t ++ e ∷ []) ++ rest ≡ t ++ e ∷ rest
joined [] e rest = refl
joined (y ∷ t) e rest = ap (λ l. y ∷ l) (joined t e rest)

pub floor_some : (at : ℕ) (es r t : List (ℕ × ℕ)) (key slot : ℕ) → IsStrictlySortedBy nat_cmp (keys_of es) → r ≡ entries_between nat_cmp Unbounded (Included at) es → r ≡ t ++ (key, slot) ∷ [] → IsFloor es at (Some slot)
floor_some at es r t key slot sorted between last =
    let split = split_at at es sorted in
    let up : split.up ≡ t ++ (key, slot) ∷ [] = sym split.kept ∙ sym between ∙ last in
    let within : AreUpTo at (t ++ (key, slot) ∷ []) = subst (λ l. AreUpTo at l) up split.within in
    (t, key, split.rest, split.whole ∙ ap (λ l. l ++ split.rest) up ∙ joined t (key, slot) split.rest, last_within at t (key, slot) within, split.past)

pub floor_none : (at : ℕ) (es r : List (ℕ × ℕ)) → IsStrictlySortedBy nat_cmp (keys_of es) → r ≡ entries_between nat_cmp Unbounded (Included at) es → r ≡ [] → IsFloor es at None
floor_none at es r sorted between empty =
    let split = split_at at es sorted in
    let up : split.up ≡ [] = sym split.kept ∙ sym between ∙ empty in
    subst (λ l. ArePast at l) (sym (split.whole ∙ ap (λ l. l ++ split.rest) up)) split.past

pub floor_empty : (at : ℕ) (es : List (ℕ × ℕ)) → length es ≡ 0 → IsFloor es at None
floor_empty at [] empty = tt
floor_empty at (e ∷ es) empty = absurd (let long : length (e ∷ es) ≡ suc (length es) = refl in omega (arith, empty, long))

pub found : (items : List (ℕ × Piece)) (entries : List (ℕ × ℕ)) (at slot : ℕ) → IsIndexed items entries → IsFloor entries at (Some slot) → FloorItem items at slot
found items entries at slot indexed floor = floor_item items at slot floor.0 floor.1 floor.2 (sym indexed.indexed ∙ floor.3) floor.4 floor.5

pub found_slot : {items : List (ℕ × Piece)} {at slot : ℕ} → FloorItem items at slot → IsSlotIn items slot
found_slot f = (f.before, f.piece, f.behind, f.stands)

pub first_in : (items d e : List (ℕ × Piece)) → items ≡ d ++ e → IfSome (first_slot e) (λ s. IsSlotIn items s)
first_in items d [] is = tt
first_in items d (y ∷ e) is = (d, y.1, e, is)

-- behind the item of a slot
pub next_in : (items d : List (ℕ × Piece)) (s : ℕ) (x : Piece) (e : List (ℕ × Piece)) → StandsIn items d s x e → items ≡ (d ++ (s, x) ∷ []) ++ e
next_in items d s x e is = is ∙ sym (put d)
  where
    put : (d : List (ℕ × Piece)) → (d ++ (s, x) ∷ []) ++ e ≡ d ++ (s, x) ∷ e
    put [] = refl
    put (y ∷ d) = ap (λ l. y ∷ l) (put d)

pub cut_pieces : {items : List (ℕ × Piece)} {at slot : ℕ} → (f : FloorItem items at slot) → pieces_of items ≡ pieces_of f.before ++ f.piece ∷ pieces_of f.behind
cut_pieces {slot = slot} f = ap pieces_of f.stands ∙ pieces-append f.before ((slot, f.piece) ∷ f.behind)

pub ordered_cut : {items : List (ℕ × Piece)} {at slot : ℕ} → (f : FloorItem items at slot) → AreOrdered 0 (pieces_of items) → AreOrdered 0 (pieces_of f.before ++ f.piece ∷ pieces_of f.behind)
ordered_cut f ordered = subst (λ l. AreOrdered 0 l) (cut_pieces f) ordered

pub free_at_front : (items : List (ℕ × Piece)) (entries : List (ℕ × ℕ)) (at : ℕ) → at ≤ 2 ^ 64 - 1 → IsIndexed items entries → IsFloor entries at None → AreFree (owner_of (pieces_of items)) at (room_to items at)
free_at_front items entries at small indexed floor =
    room_is_free (owner_of (pieces_of items)) at 0 items small (λ q h. refl) indexed.ordered (subst (λ l. ArePast at l) indexed.indexed floor)

pub free_behind : (items : List (ℕ × Piece)) (at slot : ℕ) → at ≤ 2 ^ 64 - 1 → AreOrdered 0 (pieces_of items) → (f : FloorItem items at slot) → past_of f.piece ≤ at → AreFree (owner_of (pieces_of items)) at (room_to f.behind at)
free_behind items at slot small ordered f past =
    let apart = ordered_cut f ordered in
    room_is_free (owner_of (pieces_of items)) at (past_of f.piece) f.behind small
    (λ q h. ap (λ l. owner_of l q) (cut_pieces f) ∙ owner_behind 0 (pieces_of f.before) f.piece (pieces_of f.behind) q apart (omega (arith, h, past)))
    (cut 0 (pieces_of f.before) f.piece (pieces_of f.behind) apart).behind.3
    f.past

pub or_some : (o r : Option Owner) → IsSome o → or_else o r ≡ o
or_some None r h = absurd (let q : IsSome {T = Owner} None = h in cc)
or_some (Some o) r h = refl

-- what the piece of a floor has is what all pieces have
pub spot_within : (items : List (ℕ × Piece)) (at slot from : ℕ) (spot : Spot) → AreOrdered 0 (pieces_of items) → (f : FloorItem items at slot) → at < past_of f.piece → from ≡ at → IsSpot (has f.piece) from spot → IsSpot (owner_of (pieces_of items)) at spot
spot_within items at slot from spot ordered f within is h = by_spot spot (subst (λ k. IsSpot (has f.piece) k spot) is h)
  where
    owned : (q : ℕ) → at ≤ q → IsSome (has f.piece q) → owner_of (pieces_of items) q ≡ has f.piece q
    owned q from some =
        ap (λ l. owner_of l q) (cut_pieces f)
        ∙ owner_cut 0 (pieces_of f.before) f.piece (pieces_of f.behind) q (ordered_cut f ordered) (let b = f.begins in omega (arith, from, b))
        ∙ or_some (has f.piece q) (owner_of (pieces_of f.behind) q) some

    by_spot : (spot : Spot) → IsSpot (has f.piece) at spot → IsSpot (owner_of (pieces_of items)) at spot
    by_spot (SpotBytes bytes) has_data = record {
      some = has_data.some;
      fits = has_data.fits;
      each = λ i h. owned (at + i) (omega arith) (subst (λ o. IsSome o) (sym (has_data.each i h)) (byte_some bytes.now i h)) ∙ has_data.each i h;
    }
    by_spot (SpotMissing len) lost = record {
      some = lost.some;
      fits = lost.fits;
      each = λ i h. owned (at + i) (omega arith) (subst (λ o. IsSome o) (sym (lost.each i h)) refl) ∙ lost.each i h;
    }
    by_spot (Free len) free =
        absurd (let q : IsSome {T = Owner} None = subst (λ o. IsSome o) free.first (covering_within f.piece.start f.piece.content at f.begins within) in cc)
