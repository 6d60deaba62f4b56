-- A piece that is put between others in order, and pieces that go from the front.
use Rattle.std.proofs.Common.{◌≡◌, ℕ, ◌<◌, ◌≤◌, ◌^◌, nat_lt, nat_eq, cond, Bool, true, false, List, [], ◌∷◌, ◌++◌, map, drop, slice_get, Option, Some, None, IsSome, IfSome, ◌⊎◌, refl, sym, ap, subst, ◌∙◌, inl, inr, arith}
use Rattle.std.proofs.lemmas.Bool.{ltb-true, ltb-false, ne_eqb, eq-eqb, eqb-true}
use Rattle.std.proofs.lemmas.List.{map-append}
use Rattle.std.specs.Ordering.{nat_cmp, match_ordering, is_eq}
use Rattle.std.specs.declared.cmp.Ordering.TheVariants.{Less, Equal, Greater}
use Rattle.std.specs.BTreeMap.{insert_entry, is_at}
use Rattle.std.specs.Map.{lookup, remove_entry}
use Rattle.sp_reasm.specs.declared.piece.Piece.{Piece}
use Rattle.sp_reasm.specs.Owners.{Owner, or_else}
use Rattle.sp_reasm.specs.Pieces.{size_of, has, owner_of, past_of, AreOrdered, begins_below}
use Rattle.sp_reasm.specs.Listed.{IsSlotIn, StandsIn, entry_of, pieces_of, ArePast, IsFloor, IsIndexed}
use Rattle.sp_reasm.specs.inside.Filling.{without}
use Rattle.sp_reasm.proofs.PieceLemmas.{covering_before, covering_within, covering_behind, owner-append, owner_below, pieces-append, cut, owner_cut, replaced, loosen, lt_false, lt_true}
use Rattle.sp_reasm.proofs.FloorLemmas.{found, found_slot, next_in, cut_pieces, ordered_cut}

pub below_or : (a b : ℕ) → (a < b) ⊎ (b ≤ a)
below_or a b = by_test (nat_lt a b) refl
  where
    by_test : (t : Bool) → nat_lt a b ≡ t → (a < b) ⊎ (b ≤ a)
    by_test true h = inl (ltb-true a b h)
    by_test false h = inr (ltb-false a b h)

abbrev pub AreBelow : ℕ → List (ℕ × ℕ) → Type 0
AreBelow at [] = Unit {0}
AreBelow at (entry ∷ entries) = (entry.0 < at) × AreBelow at entries

compared : (a b : ℕ) → b < a → nat_cmp a b ≡ Greater
compared a b h =
    ap (λ t. cond t Less (cond (nat_eq a b) Equal Greater)) (lt_false a b (omega (arith, h)))
    ∙ ap (λ t. cond t Equal Greater) (ne_eqb a b (λ same. omega (arith, h, same)))

put_first : (es : List (ℕ × ℕ)) (k v : ℕ) → ArePast k es → insert_entry nat_cmp es k v ≡ (k, v) ∷ es
put_first [] k v past = refl
put_first (e ∷ es) k v past =
    ap (λ t. match_ordering (cond t Less (cond (nat_eq k e.0) Equal Greater)) ((k, v) ∷ e ∷ es) ((e.0, v) ∷ es) (e ∷ insert_entry nat_cmp es k v)) (lt_true k e.0 past.0)

-- an entry goes behind those with lesser keys and before those with greater ones
pub put_entry : (ds es : List (ℕ × ℕ)) (k v : ℕ) → AreBelow k ds → ArePast k es → insert_entry nat_cmp (ds ++ es) k v ≡ ds ++ (k, v) ∷ es
put_entry [] es k v below past = put_first es k v past
put_entry (d ∷ ds) es k v below past =
    ap (λ o. match_ordering o ((k, v) ∷ d ∷ ds ++ es) ((d.0, v) ∷ ds ++ es) (d ∷ insert_entry nat_cmp (ds ++ es) k v)) (compared k d.0 below.0)
    ∙ ap (λ l. d ∷ l) (put_entry ds es k v below.1 past)

pub both_none : (a b : Option Owner) → or_else a b ≡ None → (a ≡ None) × (b ≡ None)
both_none None b h = (refl, h)
both_none (Some o) b h = absurd (let q : IsSome {T = Owner} None = subst (λ p. IsSome p) h refl in cc)

pub not_none : (o : Option Owner) → IsSome o → o ≡ None → ⊥
not_none None some h = let q : IsSome {T = Owner} None = some in cc
not_none (Some o) some h = let q : IsSome {T = Owner} None = subst (λ p. IsSome p) h refl in cc

-- a piece that has nothing for a number where it has begun ends there or before
pub past_none : (x : Piece) (q : ℕ) → x.start ≤ q → has x q ≡ None → past_of x ≤ q
past_none x q from h = elim (below_or q (past_of x)) [
  | inl t ↦ absurd (not_none (has x q) (covering_within x.start x.content q from t) h)
  | inr f ↦ f
]

-- the pieces behind a piece that is put where nothing is begin behind it
tail_ordered : (from start past : ℕ) (e : List (ℕ × Piece)) → AreOrdered from (pieces_of e) → ArePast start (map entry_of e) → ((q : ℕ) → start ≤ q → q < past → owner_of (pieces_of e) q ≡ None) → AreOrdered past (pieces_of e)
tail_ordered from start past [] ordered over free = tt
tail_ordered from start past (y ∷ e) ordered over free = elim (below_or y.1.start past) [
  | inl t ↦
      let none = both_none (has y.1 y.1.start) (owner_of (pieces_of e) y.1.start) (free y.1.start (let o = over.0 in omega (arith, o)) t) in
      let ends = past_none y.1 y.1.start (omega arith) none.0 in
      let some = ordered.1 in
      absurd (omega (arith, ends, some))
  | inr f ↦ (f, ordered.1, ordered.2, ordered.3)
]

-- what putting a piece between others comes to
pub record IsPlaced (items : List (ℕ × Piece)) (piece : Piece) (slot : ℕ) (new : List (ℕ × Piece)) : Type 0 where
  pub before : List (ℕ × Piece)
  pub behind : List (ℕ × Piece)
  pub old_is : items ≡ before ++ behind
  pub new_is : new ≡ before ++ (slot, piece) ∷ behind
  pub below : AreBelow piece.start (map entry_of before)
  pub past : ArePast piece.start (map entry_of behind)
  pub ordered : AreOrdered 0 (pieces_of new)

all_below : (from k : ℕ) (d : List (ℕ × Piece)) (s : ℕ) (x : Piece) (e : List Piece) → AreOrdered from (pieces_of d ++ x ∷ e) → x.start < k → AreBelow k (map entry_of (d ++ (s, x) ∷ []))
all_below from k [] s x e ordered h = (h, tt)
all_below from k (y ∷ d) s x e ordered h =
    let rest = cut (past_of y.1) (pieces_of d) x e ordered.3 in
    let begins = rest.begins in
    (omega (arith, begins, h), all_below (past_of y.1) k d s x e ordered.3 h)

pub placed : (floor : Option ℕ) (items : List (ℕ × Piece)) (entries : List (ℕ × ℕ)) (piece : Piece) (slot : ℕ) (new : List (ℕ × Piece)) → IsIndexed items entries → IsFloor entries piece.start floor → 0 < size_of piece.content → past_of piece ≤ 2 ^ 62 → ((q : ℕ) → piece.start ≤ q → q < past_of piece → owner_of (pieces_of items) q ≡ None) → (floor ≡ None → new ≡ (slot, piece) ∷ items) → ((d e : List (ℕ × Piece)) (s : ℕ) (x : Piece) → floor ≡ Some s → StandsIn items d s x e → new ≡ d ++ (s, x) ∷ (slot, piece) ∷ e) → IsPlaced items piece slot new
placed None items entries piece slot new indexed floor some fits free front behind =
    let past : ArePast piece.start (map entry_of items) = subst (λ l. ArePast piece.start l) indexed.indexed floor in
    let tail : AreOrdered (past_of piece) (pieces_of items) = tail_ordered 0 piece.start (past_of piece) items indexed.ordered past free in
    record {
      before = [];
      behind = items;
      old_is = refl;
      new_is = front refl;
      below = tt;
      past = past;
      ordered = subst (λ l. AreOrdered 0 (pieces_of l)) (sym (front refl)) (omega arith, some, fits, tail);
    }
placed (Some s) items entries piece slot new indexed floor some fits free front behind =
    let f = found items entries piece.start s indexed floor in
    let apart = ordered_cut f indexed.ordered in
    let cuts = cut 0 (pieces_of f.before) f.piece (pieces_of f.behind) apart in
    let own : (q : ℕ) → piece.start ≤ q → q < past_of piece → or_else (has f.piece q) (owner_of (pieces_of f.behind) q) ≡ None =
    λ q from to. sym (owner_cut 0 (pieces_of f.before) f.piece (pieces_of f.behind) q apart (let b = f.begins in omega (arith, b, from))) ∙ sym (ap (λ l. owner_of l q) (cut_pieces f)) ∙ free q from to in
    let ends : past_of f.piece ≤ piece.start = past_none f.piece piece.start f.begins (both_none _ _ (own piece.start (omega arith) (omega (arith, some)))).0 in
    let tail : AreOrdered (past_of piece) (pieces_of f.behind) = tail_ordered (past_of f.piece) piece.start (past_of piece) f.behind cuts.behind.3 f.past (λ q from to. (both_none _ _ (own q from to)).1) in
    let size = cuts.behind.1 in
    let is : new ≡ f.before ++ (s, f.piece) ∷ (slot, piece) ∷ f.behind = behind f.before f.behind s f.piece refl f.stands in
    record {
      before = f.before ++ (s, f.piece) ∷ [];
      behind = f.behind;
      old_is = next_in items f.before s f.piece f.behind f.stands;
      new_is = next_in new f.before s f.piece ((slot, piece) ∷ f.behind) is;
      below = all_below 0 piece.start f.before s f.piece (pieces_of f.behind) apart (omega (arith, ends, size));
      past = f.past;
      ordered = subst (λ l. AreOrdered 0 l) (sym (ap pieces_of is ∙ pieces-append f.before ((s, f.piece) ∷ (slot, piece) ∷ f.behind)))
          (replaced 0 (pieces_of f.before) f.piece (pieces_of f.behind) (f.piece ∷ piece ∷ pieces_of f.behind) apart (omega arith, cuts.behind.1, cuts.behind.2, (ends, some, fits, tail)));
    }

-- the index of what was placed
pub placed_indexed : {items : List (ℕ × Piece)} {piece : Piece} {slot : ℕ} {new : List (ℕ × Piece)} → (entries more : List (ℕ × ℕ)) → IsPlaced items piece slot new → IsIndexed items entries → more ≡ insert_entry nat_cmp entries piece.start slot → IsIndexed new more
placed_indexed {items} {piece} {slot} {new} entries more placed indexed is = record {
  indexed =
      is ∙ ap (λ l. insert_entry nat_cmp l piece.start slot) (indexed.indexed ∙ ap (λ l. map entry_of l) placed.old_is ∙ map-append entry_of placed.before placed.behind)
      ∙ put_entry (map entry_of placed.before) (map entry_of placed.behind) piece.start slot placed.below placed.past
      ∙ sym (ap (λ l. map entry_of l) placed.new_is ∙ map-append entry_of placed.before ((slot, piece) ∷ placed.behind));
  ordered = placed.ordered;
}

put_owner : (d e : List Piece) (p : Piece) (q : ℕ) → (IsSome (has p q) → owner_of (d ++ e) q ≡ None) → owner_of (d ++ p ∷ e) q ≡ or_else (owner_of (d ++ e) q) (has p q)
put_owner d e p q free = owner-append d (p ∷ e) q ∙ by_owner (has p q) refl ∙ ap (λ o. or_else o (has p q)) (sym (owner-append d e q))
  where
    in_order : (a b : Option Owner) → or_else a b ≡ or_else (or_else a b) None
    in_order None None = refl
    in_order None (Some o) = refl
    in_order (Some o) b = refl

    by_owner : (o : Option Owner) → has p q ≡ o → or_else (owner_of d q) (or_else o (owner_of e q)) ≡ or_else (or_else (owner_of d q) (owner_of e q)) o
    by_owner None h = in_order (owner_of d q) (owner_of e q)
    by_owner (Some o) h =
        let none = both_none (owner_of d q) (owner_of e q) (sym (owner-append d e q) ∙ free (subst (λ p. IsSome p) (sym h) refl)) in
        ap (λ p. or_else p (Some o)) none.0 ∙ sym (ap (λ p. or_else p (Some o)) (ap (λ p. or_else p (owner_of e q)) none.0 ∙ none.1))

pub placed_owner : {items : List (ℕ × Piece)} {piece : Piece} {slot : ℕ} {new : List (ℕ × Piece)} → IsPlaced items piece slot new → ((q : ℕ) → piece.start ≤ q → q < past_of piece → owner_of (pieces_of items) q ≡ None) → (q : ℕ) → owner_of (pieces_of new) q ≡ or_else (owner_of (pieces_of items) q) (has piece q)
placed_owner {items} {piece} {slot} {new} placed free q =
    let old : pieces_of items ≡ pieces_of placed.before ++ pieces_of placed.behind = ap pieces_of placed.old_is ∙ pieces-append placed.before placed.behind in
    ap (λ l. owner_of l q) (ap pieces_of placed.new_is ∙ pieces-append placed.before ((slot, piece) ∷ placed.behind))
    ∙ put_owner (pieces_of placed.before) (pieces_of placed.behind) piece q (λ some. sym (ap (λ l. owner_of l q) old) ∙ free q (starts some) (ends some))
    ∙ ap (λ o. or_else o (has piece q)) (sym (ap (λ l. owner_of l q) old))
  where
    starts : IsSome (has piece q) → piece.start ≤ q
    starts some = elim (below_or q piece.start) [
      | inl t ↦ absurd (not_none (has piece q) some (covering_before piece.start piece.content q t))
      | inr f ↦ f
    ]

    ends : IsSome (has piece q) → q < past_of piece
    ends some = elim (below_or q (past_of piece)) [
      | inl t ↦ t
      | inr f ↦ absurd (not_none (has piece q) some (covering_behind piece.start piece.content q f))
    ]

-- the first piece goes
pub first_dropped : (p : Piece) (ps : List Piece) (to : ℕ) → AreOrdered 0 (p ∷ ps) → p.start < to → owner_of (p ∷ ps) to ≡ None → (q : ℕ) → to ≤ q → owner_of ps q ≡ owner_of (p ∷ ps) q
first_dropped p ps to ordered below none q h =
    let ends : past_of p ≤ to = past_none p to (omega (arith, below)) (both_none (has p to) (owner_of ps to) none).0 in
    sym (ap (λ o. or_else o (owner_of ps q)) (covering_behind p.start p.content q (omega (arith, h, ends))))

pub all_dropped : (ps : List Piece) (to : ℕ) → AreOrdered 0 ps → begins_below ps to ≡ false → (q : ℕ) → q < to → owner_of ps q ≡ None
all_dropped [] to ordered h q below = refl
all_dropped (p ∷ ps) to ordered h q below =
    owner_below p.start (p ∷ ps) q (omega arith, ordered.1, ordered.2, ordered.3) (let le : to ≤ p.start = ltb-false p.start to h in omega (arith, le, below))

-- the item that the first entry leads to
pub record IsFirst (items : List (ℕ × Piece)) (slot : ℕ) (entries : List (ℕ × ℕ)) : Type 0 where
  pub piece : Piece
  pub rest : List (ℕ × Piece)
  pub stands : items ≡ (slot, piece) ∷ rest
  pub indexed : entries ≡ map entry_of rest

pub first_item : (items : List (ℕ × Piece)) (key slot : ℕ) (entries : List (ℕ × ℕ)) → (key, slot) ∷ entries ≡ map entry_of items → IsFirst items slot entries
first_item [] key slot entries is = absurd (let q : (key, slot) ∷ entries ≡ [] = is in cc)
first_item (y ∷ items) key slot entries is = record {
  piece = y.1;
  rest = items;
  stands = ap (λ s. (s, y.1) ∷ items) (sym (ap (λ l. slot_or slot l) is));
  indexed = ap (λ l. drop 1 l) is;
}
  where
    slot_or : ℕ → List (ℕ × ℕ) → ℕ
    slot_or other [] = other
    slot_or other (p ∷ ps) = p.1

pub rest_indexed : {items : List (ℕ × Piece)} {slot : ℕ} {entries : List (ℕ × ℕ)} → (f : IsFirst items slot entries) → AreOrdered 0 (pieces_of items) → IsIndexed f.rest entries
rest_indexed f ordered =
    let all : AreOrdered 0 (f.piece ∷ pieces_of f.rest) = subst (λ l. AreOrdered 0 (pieces_of l)) f.stands ordered in
    record { indexed = f.indexed; ordered = loosen (past_of f.piece) 0 (pieces_of f.rest) (omega arith) all.3 }

pub first_begins : (items : List (ℕ × Piece)) (entries : List (ℕ × ℕ)) (key slot to : ℕ) → IsIndexed items entries → slice_get entries 0 ≡ Some (key, slot) → nat_lt key to ≡ begins_below (pieces_of items) to
first_begins [] entries key slot to indexed first =
    absurd (let q : Some (key, slot) ≡ None = sym first ∙ ap (λ l. slice_get l 0) indexed.indexed in cc)
first_begins (y ∷ items) entries key slot to indexed first =
    ap (λ k. nat_lt k to) (sym (ap (λ o. key_or key o) (sym (ap (λ l. slice_get l 0) indexed.indexed) ∙ first)))
  where
    key_or : ℕ → Option (ℕ × ℕ) → ℕ
    key_or other None = other
    key_or other (Some p) = p.0

pub floor_slot : (floor : Option ℕ) (items : List (ℕ × Piece)) (entries : List (ℕ × ℕ)) (at : ℕ) → IsIndexed items entries → IsFloor entries at floor → IfSome floor (λ s. IsSlotIn items s)
floor_slot None items entries at indexed floor = tt
floor_slot (Some s) items entries at indexed floor = found_slot (found items entries at s indexed floor)

-- the same where the pieces are known by the value that they stand for
pub placed_in : (old : List Piece) (floor : Option ℕ) (items : List (ℕ × Piece)) (entries : List (ℕ × ℕ)) (piece : Piece) (slot : ℕ) (new : List (ℕ × Piece)) → pieces_of items ≡ old → IsIndexed items entries → IsFloor entries piece.start floor → 0 < size_of piece.content → past_of piece ≤ 2 ^ 62 → ((q : ℕ) → piece.start ≤ q → q < past_of piece → owner_of old q ≡ None) → (floor ≡ None → new ≡ (slot, piece) ∷ items) → ((d e : List (ℕ × Piece)) (s : ℕ) (x : Piece) → floor ≡ Some s → StandsIn items d s x e → new ≡ d ++ (s, x) ∷ (slot, piece) ∷ e) → IsPlaced items piece slot new
placed_in old floor items entries piece slot new is indexed at some fits free front behind =
    placed floor items entries piece slot new indexed at some fits (λ q from to. ap (λ l. owner_of l q) is ∙ free q from to) front behind

pub taken_back : {items : List (ℕ × Piece)} {piece : Piece} {slot : ℕ} {new : List (ℕ × Piece)} → IsPlaced items piece slot new → (after : List (ℕ × Piece)) → ((d e : List (ℕ × Piece)) (x : Piece) → StandsIn new d slot x e → after ≡ d ++ e) → after ≡ items
taken_back {piece = piece} p after removed = removed p.before p.behind piece p.new_is ∙ sym p.old_is

pub dropped_step : (self new : List Piece) (to : ℕ) → begins_below self to ≡ true → AreOrdered 0 self → owner_of self to ≡ None → ((p : Piece) (ps : List Piece) → self ≡ p ∷ ps → new ≡ ps) → (q : ℕ) → to ≤ q → owner_of new q ≡ owner_of self q
dropped_step [] new to begins ordered none drop q h = absurd (let no : false ≡ true = begins in cc)
dropped_step (p ∷ ps) new to begins ordered none drop q h =
    ap (λ l. owner_of l q) (drop p ps refl) ∙ first_dropped p ps to ordered (ltb-true p.start to begins) none q h

without_here : (d e : List (ℕ × Piece)) (start slot : ℕ) (x : Piece) → x.start ≡ start → AreBelow start (map entry_of d) → without start (pieces_of (d ++ (slot, x) ∷ e)) ≡ pieces_of (d ++ e)
without_here [] e start slot x is below = ap (λ b. cond b (pieces_of e) (x ∷ without start (pieces_of e))) (eq-eqb start x.start (sym is))
without_here (y ∷ d) e start slot x is below =
    ap (λ b. cond b (pieces_of (d ++ (slot, x) ∷ e)) (y.1 ∷ without start (pieces_of (d ++ (slot, x) ∷ e)))) (ne_eqb start y.1.start (λ same. let b = below.0 in omega (arith, b, same)))
    ∙ ap (λ l. y.1 ∷ l) (without_here d e start slot x is below.1)

-- what was placed can be taken away again
pub placed_back : {items : List (ℕ × Piece)} {piece : Piece} {slot : ℕ} {new : List (ℕ × Piece)} → IsPlaced items piece slot new → without piece.start (pieces_of new) ≡ pieces_of items
placed_back {items} {piece} {slot} {new} p =
    ap (λ l. without piece.start (pieces_of l)) p.new_is ∙ without_here p.before p.behind piece.start slot piece refl p.below ∙ sym (ap pieces_of p.old_is)

-- an item that is found by where it begins, and the entries without it
pub record IsRemoved (items : List (ℕ × Piece)) (start slot : ℕ) (entries : List (ℕ × ℕ)) : Type 0 where
  pub before : List (ℕ × Piece)
  pub piece : Piece
  pub behind : List (ℕ × Piece)
  pub stands : StandsIn items before slot piece behind
  pub indexed : entries ≡ map entry_of (before ++ behind)
  pub pieces : without start (pieces_of items) ≡ pieces_of (before ++ behind)

tests : (start key : ℕ) → is_eq (nat_cmp start key) ≡ nat_eq start key
tests start key = by_tests (nat_lt start key) (nat_eq start key) refl refl
  where
    by_tests : (less same : Bool) → nat_lt start key ≡ less → nat_eq start key ≡ same → is_eq (cond less Less (cond same Equal Greater)) ≡ same
    by_tests true true l s = absurd (let a = ltb-true start key l in let b = eqb-true start key s in omega (arith, a, b))
    by_tests true false l s = refl
    by_tests false true l s = refl
    by_tests false false l s = refl

or_number : Option ℕ → ℕ
or_number None = 0
or_number (Some n) = n

pub removed : (items : List (ℕ × Piece)) (start slot : ℕ) → lookup (is_at (nat_cmp start)) (map entry_of items) ≡ Some slot → IsRemoved items start slot (remove_entry (is_at (nat_cmp start)) (map entry_of items))
unfolding or_number
removed [] start slot found = absurd (let q : ◌≡◌ {A = Option ℕ} None (Some slot) = found in cc)
removed (y ∷ items) start slot found = by_test (nat_eq start y.1.start) refl (removed items start slot)
  where
    by_test : (b : Bool) → nat_eq start y.1.start ≡ b → (lookup (is_at (nat_cmp start)) (map entry_of items) ≡ Some slot → IsRemoved items start slot (remove_entry (is_at (nat_cmp start)) (map entry_of items))) → IsRemoved (y ∷ items) start slot (remove_entry (is_at (nat_cmp start)) (map entry_of (y ∷ items)))
    by_test true h rest =
        let test : is_at (nat_cmp start) y.1.start ≡ true = tests start y.1.start ∙ h in
        let same : Some y.0 ≡ Some slot = sym (ap (λ b. cond b (Some y.0) (lookup (is_at (nat_cmp start)) (map entry_of items))) test) ∙ found in
        record {
          before = [];
          piece = y.1;
          behind = items;
          stands = ap (λ s. (s, y.1) ∷ items) (ap (λ o. or_number o) same);
          indexed = ap (λ b. cond b (map entry_of items) (entry_of y ∷ remove_entry (is_at (nat_cmp start)) (map entry_of items))) test;
          pieces = ap (λ b. cond b (pieces_of items) (y.1 ∷ without start (pieces_of items))) h;
        }
    by_test false h rest =
        let test : is_at (nat_cmp start) y.1.start ≡ false = tests start y.1.start ∙ h in
        let r = rest (sym (ap (λ b. cond b (Some y.0) (lookup (is_at (nat_cmp start)) (map entry_of items))) test) ∙ found) in
        record {
          before = y ∷ r.before;
          piece = r.piece;
          behind = r.behind;
          stands = ap (λ l. y ∷ l) r.stands;
          indexed = ap (λ b. cond b (map entry_of items) (entry_of y ∷ remove_entry (is_at (nat_cmp start)) (map entry_of items))) test ∙ ap (λ l. entry_of y ∷ l) r.indexed;
          pieces = ap (λ b. cond b (pieces_of items) (y.1 ∷ without start (pieces_of items))) h ∙ ap (λ l. y.1 ∷ l) r.pieces;
        }

pub none_removed : (items : List (ℕ × Piece)) (start : ℕ) → lookup (is_at (nat_cmp start)) (map entry_of items) ≡ None → without start (pieces_of items) ≡ pieces_of items
none_removed [] start h = refl
none_removed (y ∷ items) start h = by_test (nat_eq start y.1.start) refl (none_removed items start)
  where
    by_test : (b : Bool) → nat_eq start y.1.start ≡ b → (lookup (is_at (nat_cmp start)) (map entry_of items) ≡ None → without start (pieces_of items) ≡ pieces_of items) → without start (pieces_of (y ∷ items)) ≡ pieces_of (y ∷ items)
    by_test true e rest =
        let test : is_at (nat_cmp start) y.1.start ≡ true = tests start y.1.start ∙ e in
        absurd (let q : ◌≡◌ {A = Option ℕ} (Some y.0) None = sym (ap (λ b. cond b (Some y.0) (lookup (is_at (nat_cmp start)) (map entry_of items))) test) ∙ h in cc)
    by_test false e rest =
        let test : is_at (nat_cmp start) y.1.start ≡ false = tests start y.1.start ∙ e in
        ap (λ b. cond b (pieces_of items) (y.1 ∷ without start (pieces_of items))) e ∙ ap (λ l. y.1 ∷ l) (rest (sym (ap (λ b. cond b (Some y.0) (lookup (is_at (nat_cmp start)) (map entry_of items))) test) ∙ h))

pub removed_indexed : {items : List (ℕ × Piece)} {start slot : ℕ} {entries : List (ℕ × ℕ)} → (r : IsRemoved items start slot entries) → AreOrdered 0 (pieces_of items) → IsIndexed (r.before ++ r.behind) entries
removed_indexed {items} {start} {slot} r ordered =
    let apart : AreOrdered 0 (pieces_of r.before ++ r.piece ∷ pieces_of r.behind) = subst (λ l. AreOrdered 0 l) (ap pieces_of r.stands ∙ pieces-append r.before ((slot, r.piece) ∷ r.behind)) ordered in
    record {
      indexed = r.indexed;
      ordered = subst (λ l. AreOrdered 0 l) (sym (pieces-append r.before r.behind))
          (replaced 0 (pieces_of r.before) r.piece (pieces_of r.behind) (pieces_of r.behind) apart (loosen (past_of r.piece) r.piece.start (pieces_of r.behind) (omega arith) (cut 0 (pieces_of r.before) r.piece (pieces_of r.behind) apart).behind.3));
    }
