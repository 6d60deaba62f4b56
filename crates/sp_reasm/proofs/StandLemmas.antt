-- The laws of the specs, each by induction on the operations.
use Rattle.std.proofs.Common.{◌≡◌, ℕ, zero, suc, ◌+◌, ◌-◌, ◌<◌, ◌≤◌, ◌&&◌, nat_lt, nat_le, nat_eq, cond, max, Bool, true, false, List, [], ◌∷◌, ◌++◌, length, map, Option, Some, None, IsSome, refl, sym, ap, subst, ◌∙◌, inl, inr, arith}
use Rattle.std.proofs.Math.Dec.{eqb-suc-zero}
use Rattle.std.proofs.lemmas.Bool.{lt-leb, leb-true, eqb-true, eqb-false, cases_eq}
use Rattle.sp_reasm.specs.declared.notes.Note.{Note}
use Rattle.sp_reasm.specs.declared.notes.Note.TheVariants.{Overlap, Undelivered, Skipped, Deliver, Gap as Missing, Closed}
use Rattle.sp_reasm.specs.Owners.{Owner, Data, Lost, Op, Write, Gap, Skip, byte_at, covering, end_of, Stand, or_else, owner_after, start_of, first_without, after, nothing, after_all, stand_of}
use Rattle.sp_reasm.specs.Notes.{before_notes, told, before_runs, runs, owners_from}
use Rattle.sp_reasm.specs.Laws.{OwnersStay, HeadStays, BelowStays, HeadIsFree, NoHole, numbered, losses, all_covered, DeliveredOnce, AreApart, items_of, found, RunsApart, RunsFind}

pub all-append : (stand : Stand) (ops more : List Op) → after_all stand (ops ++ more) ≡ after_all (after_all stand ops) more
all-append stand [] more = refl
all-append stand (op ∷ ops) more = all-append (after stand op) ops more

owner_stays : (stand : Stand) (ops : List Op) (q : ℕ) (o : Owner) → stand.owner q ≡ Some o → (after_all stand ops).owner q ≡ Some o
owner_stays stand [] q o h = h
owner_stays stand (op ∷ ops) q o h =
    owner_stays (after stand op) ops q o (ap (λ first. or_else first (cond (nat_le stand.head q) (covering op q) None)) h)

pub owners_stay : OwnersStay
owners_stay ops more q o h = ap (λ stand. stand.owner q) (all-append nothing ops more) ∙ owner_stays (stand_of ops) more q o h

pub first_is_past : (f : ℕ → Option Owner) (q n : ℕ) → q ≤ first_without f q n
first_is_past f q zero = omega arith
first_is_past f q (suc n) = by_owner (f q) (first_is_past f (suc q) n)
  where
    by_owner : (o : Option Owner) → suc q ≤ first_without f (suc q) n → q ≤ elim o as (λ _. ℕ) [ None ↦ q | Some _ ↦ first_without f (suc q) n ]
    by_owner None rest = omega arith
    by_owner (Some o) rest = omega (arith, rest)

pub start_is_past : (stand : Stand) (op : Op) → stand.head ≤ start_of stand op
start_is_past stand (Write at bytes) = omega arith
start_is_past stand (Gap at len) = omega arith
start_is_past stand (Skip to) = omega arith

head_stays : (stand : Stand) (ops : List Op) → stand.head ≤ (after_all stand ops).head
head_stays stand [] = omega arith
head_stays stand (op ∷ ops) =
    let start = start_is_past stand op in
    let past : start_of stand op ≤ (after stand op).head = first_is_past (owner_after stand op) (start_of stand op) (max stand.end (end_of op)) in
    let rest : (after stand op).head ≤ (after_all (after stand op) ops).head = head_stays (after stand op) ops in
    omega (arith, start, past, rest)

pub heads_stay : HeadStays
heads_stay ops more = subst (λ stand. (stand_of ops).head ≤ stand.head) (sym (all-append nothing ops more)) (head_stays (stand_of ops) more)

or_else_none : (o : Option Owner) → or_else o None ≡ o
or_else_none None = refl
or_else_none (Some o) = refl

below_stays : (stand : Stand) (ops : List Op) (q : ℕ) → q < stand.head → (after_all stand ops).owner q ≡ stand.owner q
below_stays stand [] q h = refl
below_stays stand (op ∷ ops) q h =
    let below : nat_le stand.head q ≡ false = not_le stand.head q h in
    let past : stand.head ≤ (after stand op).head = head_stays stand (op ∷ []) in
    below_stays (after stand op) ops q (omega (arith, h, past))
    ∙ ap (λ b. or_else (stand.owner q) (cond b (covering op q) None)) below ∙ or_else_none (stand.owner q)
  where
    not_le : (m n : ℕ) → n < m → nat_le m n ≡ false
    not_le m n h = lt-leb m n h

pub belows_stay : BelowStays
belows_stay ops more q h = ap (λ stand. stand.owner q) (all-append nothing ops more) ∙ below_stays (stand_of ops) more q h

abbrev none : Option Owner
none = None

-- no position from the end on has an owner
abbrev pub IsBounded : Stand → Type 0
IsBounded stand = (q : ℕ) → stand.end ≤ q → stand.owner q ≡ None

pub byte_past : (bytes : List ℕ) (n : ℕ) → length bytes ≤ n → byte_at bytes n ≡ None
byte_past [] n h = refl
byte_past (b ∷ bytes) zero h = absurd (omega (arith, h))
byte_past (b ∷ bytes) (suc n) h = byte_past bytes n (omega (arith, h))

pub covering_past : (op : Op) (q : ℕ) → end_of op ≤ q → covering op q ≡ None
covering_past (Write at []) q h = same (nat_le at q)
  where
    same : (b : Bool) → cond b none none ≡ none
    same true = refl
    same false = refl
covering_past (Write at (b ∷ bytes)) q h =
    let past : byte_at (b ∷ bytes) (q - at) ≡ None = byte_past (b ∷ bytes) (q - at) (omega (arith, h)) in
    ap (λ o. cond (nat_le at q) o None) past ∙ same (nat_le at q)
  where
    same : (c : Bool) → cond c none none ≡ none
    same true = refl
    same false = refl
covering_past (Gap at zero) q h = by_test (nat_le at q) refl
  where
    by_test : (b : Bool) → nat_le at q ≡ b → cond (b && nat_lt q (at + 0)) (Some Lost) None ≡ None
    by_test false e = refl
    by_test true e = ap (λ b. cond b (Some Lost) None) (lt-leb (suc q) (at + 0) (let le : at ≤ q = leb-true at q e in omega (arith, le)))
covering_past (Gap at (suc len)) q h = by_test (nat_le at q)
  where
    by_test : (b : Bool) → cond (b && nat_lt q (at + suc len)) (Some Lost) None ≡ None
    by_test false = refl
    by_test true =
        let is : end_of (Gap at (suc len)) ≡ at + suc len = ap (λ b. cond b 0 (at + suc len)) (eqb-suc-zero len) in
        ap (λ b. cond b (Some Lost) None) (lt-leb (suc q) (at + suc len) (omega (arith, h, is)))
covering_past (Skip to) q h = refl

pub bounded_after : (stand : Stand) (op : Op) → IsBounded stand → IsBounded (after stand op)
bounded_after stand op bounded q h =
    let old : stand.owner q ≡ None = bounded q (omega (arith, h)) in
    let own : covering op q ≡ None = covering_past op q (omega (arith, h)) in
    ap (λ o. or_else o (cond (nat_le stand.head q) (covering op q) None)) old
    ∙ ap (λ o. cond (nat_le stand.head q) o None) own ∙ same (nat_le stand.head q)
  where
    same : (c : Bool) → cond c none none ≡ none
    same true = refl
    same false = refl

first_is_free : (f : ℕ → Option Owner) (q n : ℕ) → ((k : ℕ) → q + n ≤ k → f k ≡ None) → f (first_without f q n) ≡ None
first_is_free f q zero h = h q (omega arith)
first_is_free f q (suc n) h = by_owner (f q) refl (first_is_free f (suc q) n (λ k past. h k (omega (arith, past))))
  where
    by_owner : (o : Option Owner) → f q ≡ o → f (first_without f (suc q) n) ≡ None → f (elim o as (λ _. ℕ) [ None ↦ q | Some _ ↦ first_without f (suc q) n ]) ≡ None
    by_owner None e rest = e
    by_owner (Some o) e rest = rest

head_is_free : (stand : Stand) (ops : List Op) → IsBounded stand → stand.owner stand.head ≡ None → (after_all stand ops).owner (after_all stand ops).head ≡ None
head_is_free stand [] bounded free = free
head_is_free stand (op ∷ ops) bounded free =
    let more = bounded_after stand op bounded in
    head_is_free (after stand op) ops more (first_is_free (owner_after stand op) (start_of stand op) (max stand.end (end_of op)) (λ k past. more k (omega (arith, past))))

pub heads_are_free : HeadIsFree
heads_are_free ops = head_is_free nothing ops (λ q h. refl) refl

passed : (f : ℕ → Option Owner) (q n k : ℕ) → q ≤ k → k < first_without f q n → IsSome (f k)
passed f q zero k from to = absurd (omega (arith, from, to))
passed f q (suc n) k from to = by_owner (f q) refl (λ later. passed f (suc q) n k later) to
  where
    by_owner : (o : Option Owner) → f q ≡ o → (suc q ≤ k → k < first_without f (suc q) n → IsSome (f k)) → k < elim o as (λ _. ℕ) [ None ↦ q | Some _ ↦ first_without f (suc q) n ] → IsSome (f k)
    by_owner None e rest to = absurd (omega (arith, from, to))
    by_owner (Some o) e rest to =
        elim (cases_eq q k) [
          | inl same ↦ subst (λ p. IsSome p) (sym (ap f (sym same) ∙ e)) refl
          | inr differ ↦ rest (omega (arith, from, differ)) to
        ]

pub no_hole : NoHole
no_hole ops op q from to = passed (owner_after (stand_of ops) op) (start_of (stand_of ops) op) (max (stand_of ops).end (end_of op)) q from to

-- what one owner adds
abbrev pub owned_one : ℕ → Option Owner → List (ℕ × Owner) → List (ℕ × Owner)
owned_one at None rest = rest
owned_one at (Some o) rest = (at, o) ∷ rest

told_one : (at : ℕ) (o : Option Owner) (notes : List Note) → all_covered (before_notes at o notes) ≡ owned_one at o (all_covered notes)
told_one at None notes = refl
told_one at (Some (Data b)) [] = refl
told_one at (Some (Data b)) (Overlap _ _ _ ∷ notes) = refl
told_one at (Some (Data b)) (Undelivered _ _ ∷ notes) = refl
told_one at (Some (Data b)) (Skipped _ ∷ notes) = refl
told_one at (Some (Data b)) (Missing _ _ ∷ notes) = refl
told_one at (Some (Data b)) (Closed ∷ notes) = refl
told_one at (Some (Data b)) (Deliver seq bytes ∷ notes) = by_test (nat_eq seq (suc at)) refl
  where
    by_test : (t : Bool) → nat_eq seq (suc at) ≡ t → all_covered (cond t (Deliver at (b ∷ bytes) ∷ notes) (Deliver at (b ∷ []) ∷ Deliver seq bytes ∷ notes)) ≡ (at, Data b) ∷ (numbered seq (map Data bytes) ++ all_covered notes)
    by_test false e = refl
    by_test true e = ap (λ k. (at, Data b) ∷ (numbered k (map Data bytes) ++ all_covered notes)) (sym (eqb-true seq (suc at) e))
told_one at (Some Lost) [] = refl
told_one at (Some Lost) (Overlap _ _ _ ∷ notes) = refl
told_one at (Some Lost) (Undelivered _ _ ∷ notes) = refl
told_one at (Some Lost) (Skipped _ ∷ notes) = refl
told_one at (Some Lost) (Deliver _ _ ∷ notes) = refl
told_one at (Some Lost) (Closed ∷ notes) = refl
told_one at (Some Lost) (Missing seq len ∷ notes) = by_test (nat_eq seq (suc at)) refl
  where
    by_test : (t : Bool) → nat_eq seq (suc at) ≡ t → all_covered (cond t (Missing at (suc len) ∷ notes) (Missing at 1 ∷ Missing seq len ∷ notes)) ≡ (at, Lost) ∷ (numbered seq (losses len) ++ all_covered notes)
    by_test false e = refl
    by_test true e = ap (λ k. (at, Lost) ∷ (numbered k (losses len) ++ all_covered notes)) (sym (eqb-true seq (suc at) e))

told_once : (at : ℕ) (os : List (Option Owner)) → all_covered (told at os) ≡ found at os
told_once at [] = refl
told_once at (None ∷ os) = told_once (suc at) os
told_once at (Some o ∷ os) = told_one at (Some o) (told (suc at) os) ∙ ap (λ rest. (at, o) ∷ rest) (told_once (suc at) os)

module _ {X : Type 0} where
  -- the first run begins at this position or later
  abbrev pub BeginsFrom : ℕ → List (ℕ × List X) → Type 0
  BeginsFrom at [] = Unit {0}
  BeginsFrom at (run ∷ runs) = at ≤ run.0

  later : (at : ℕ) (rs : List (ℕ × List X)) → BeginsFrom (suc at) rs → BeginsFrom at rs
  later at [] h = tt
  later at (run ∷ rs) h = omega (arith, h)

  joined_apart : (at : ℕ) (x : X) (rs : List (ℕ × List X)) → BeginsFrom (suc at) rs → AreApart rs → BeginsFrom at (before_runs at x rs) × AreApart (before_runs at x rs)
  joined_apart at x [] from apart = (omega arith, tt)
  joined_apart at x (run ∷ rs) from apart = by_test (nat_eq run.0 (suc at)) refl rs apart
    where
      by_test : (t : Bool) → nat_eq run.0 (suc at) ≡ t → (rs : List (ℕ × List X)) → AreApart (run ∷ rs) → BeginsFrom at (cond t ((at, x ∷ run.1) ∷ rs) ((at, x ∷ []) ∷ run ∷ rs)) × AreApart (cond t ((at, x ∷ run.1) ∷ rs) ((at, x ∷ []) ∷ run ∷ rs))
      by_test false e rs apart =
          let differ = eqb-false run.0 (suc at) e in
          let one : length (x ∷ []) ≡ 1 = refl in
          (omega arith, (omega (arith, from, differ, one), apart))
      by_test true e [] apart = (omega arith, tt)
      by_test true e (next ∷ rest) apart =
          let same : run.0 ≡ suc at = eqb-true run.0 (suc at) e in
          let more : length (x ∷ run.1) ≡ suc (length run.1) = refl in
          let gap : run.0 + length run.1 < next.0 = apart.0 in
          (omega arith, (omega (arith, same, more, gap), apart.1))

  pub runs_apart : (at : ℕ) (xs : List (Option X)) → BeginsFrom at (runs at xs) × AreApart (runs at xs)
  runs_apart at [] = (tt, tt)
  runs_apart at (None ∷ xs) = let rest = runs_apart (suc at) xs in (later at (runs (suc at) xs) rest.0, rest.1)
  runs_apart at (Some x ∷ xs) = let rest = runs_apart (suc at) xs in joined_apart at x (runs (suc at) xs) rest.0 rest.1

  found_one : (at : ℕ) (x : X) (rs : List (ℕ × List X)) → items_of (before_runs at x rs) ≡ (at, x) ∷ items_of rs
  found_one at x [] = refl
  found_one at x (run ∷ rs) = by_test (nat_eq run.0 (suc at)) refl
    where
      by_test : (t : Bool) → nat_eq run.0 (suc at) ≡ t → items_of (cond t ((at, x ∷ run.1) ∷ rs) ((at, x ∷ []) ∷ run ∷ rs)) ≡ (at, x) ∷ items_of (run ∷ rs)
      by_test false e = refl
      by_test true e = ap (λ k. (at, x) ∷ (numbered k run.1 ++ items_of rs)) (sym (eqb-true run.0 (suc at) e))

  runs_find : (at : ℕ) (xs : List (Option X)) → items_of (runs at xs) ≡ found at xs
  runs_find at [] = refl
  runs_find at (None ∷ xs) = runs_find (suc at) xs
  runs_find at (Some x ∷ xs) = found_one at x (runs (suc at) xs) ∙ ap (λ rest. (at, x) ∷ rest) (runs_find (suc at) xs)

pub all_runs_apart : RunsApart
all_runs_apart at xs = (runs_apart at xs).1

pub all_runs_find : RunsFind
all_runs_find at xs = runs_find at xs

all_owned : (f : ℕ → Option Owner) (q n : ℕ) → ((k : ℕ) → q ≤ k → k < q + n → IsSome (f k)) → (os : List Owner) × (owners_from f q n ≡ map Some os)
all_owned f q zero h = ([], refl)
all_owned f q (suc n) h =
    by_owner (f q) refl (h q (omega arith) (omega arith)) (all_owned f (suc q) n (λ k from to. h k (omega (arith, from)) (omega (arith, to))))
  where
    by_owner : (o : Option Owner) → f q ≡ o → IsSome (f q) → ((os : List Owner) × (owners_from f (suc q) n ≡ map Some os)) → (os : List Owner) × (f q ∷ owners_from f (suc q) n ≡ map Some os)
    by_owner None e some rest = absurd (let no : IsSome {T = Owner} None = subst (λ o. IsSome o) e some in cc)
    by_owner (Some o) e some rest = (o ∷ rest.0, λ i. e i ∷ rest.1 i)

found_all : (at : ℕ) (os : List Owner) → found at (map Some os) ≡ numbered at os
found_all at [] = refl
found_all at (o ∷ os) = ap (λ rest. (at, o) ∷ rest) (found_all (suc at) os)

pub all_delivered_once : DeliveredOnce
all_delivered_once initial ops op =
    let start = start_of (stand_of ops) op in
    let new = after (stand_of ops) op in
    let past : start ≤ new.head = first_is_past (owner_after (stand_of ops) op) start (max (stand_of ops).end (end_of op)) in
    let list = all_owned new.owner start (new.head - start) (λ k from to. no_hole ops op k from (omega (arith, to, past))) in
    (list.0, list.1, told_once (initial + start) (owners_from new.owner start (new.head - start)) ∙ ap (λ os. found (initial + start) os) list.1 ∙ found_all (initial + start) list.0)
