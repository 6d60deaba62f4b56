-- What pieces in order have for a number.
use Rattle.std.proofs.Common.{◌≡◌, ℕ, zero, suc, ◌+◌, ◌-◌, ◌<◌, ◌≤◌, ◌^◌, ◌&&◌, nat_lt, nat_le, cond, Bool, true, false, List, [], ◌∷◌, ◌++◌, length, map, take, drop, Option, Some, None, IsSome, refl, sym, ap, subst, ◌∙◌, arith, length-drop}
use Rattle.std.proofs.lemmas.Bool.{lt-leb, le-leb, lt-ltb}
use Rattle.std.proofs.lemmas.List.{take_all, map-append}
use Rattle.sp_chain.specs.Chains.{Chains}
use Rattle.sp_reasm.specs.declared.piece.Piece.{Piece}
use Rattle.sp_reasm.specs.declared.piece.Content.{Content}
use Rattle.sp_reasm.specs.declared.piece.Content.TheVariants.{Bytes, Missing}
use Rattle.sp_reasm.specs.Owners.{Owner, Lost, Write, Gap, covering, byte_at, or_else}
use Rattle.sp_reasm.specs.Pieces.{size_of, op_at, has, owner_of, past_of, AreOrdered, AreData, AreFree}
use Rattle.sp_reasm.specs.Listed.{items_of, IsSlotIn, StandsIn, entry_of, pieces_of, ArePast, room_to}
use Rattle.sp_reasm.proofs.StandLemmas.{byte_past}

no_middle : {X : Type 0} (d : List X) (x : X) (e : List X) → [] ≡ d ++ x ∷ e → ⊥
no_middle [] x e h = cc
no_middle (y ∷ d) x e h = cc

-- before the list is made there is no slot
pub no_slot : (chains : Chains Piece) (list : Option ℕ) (slot : ℕ) → list ≡ None → IsSlotIn (items_of chains list) slot → ⊥
no_slot chains list slot is has = no_middle has.0 (slot, has.1) has.2 (sym (ap (λ l. items_of chains l) is) ∙ has.3)

pub byte-drop : (n i : ℕ) (bytes : List ℕ) → byte_at (drop n bytes) i ≡ byte_at bytes (n + i)
byte-drop zero i bytes = ap (λ k. byte_at bytes k) (let e : i ≡ 0 + i = omega arith in e)
byte-drop (suc n) i [] = refl
byte-drop (suc n) i (b ∷ bytes) =
    let e : suc n + i ≡ suc (n + i) = omega arith in
    byte-drop n i bytes ∙ ap (λ k. byte_at (b ∷ bytes) k) (sym e)

pub byte-take : (n i : ℕ) (bytes : List ℕ) → i < n → byte_at (take n bytes) i ≡ byte_at bytes i
byte-take zero i bytes h = absurd (omega (arith, h))
byte-take (suc n) i [] h = refl
byte-take (suc n) zero (b ∷ bytes) h = refl
byte-take (suc n) (suc i) (b ∷ bytes) h = byte-take n i bytes (omega (arith, h))

pub byte_some : (bytes : List ℕ) (i : ℕ) → i < length bytes → IsSome (byte_at bytes i)
byte_some [] i h = absurd (let e : length {A = ℕ} [] ≡ 0 = refl in omega (arith, h, e))
byte_some (b ∷ bytes) zero h = refl
byte_some (b ∷ bytes) (suc i) h = byte_some bytes i (omega (arith, h))

pub le_true : (m n : ℕ) → m ≤ n → nat_le m n ≡ true
le_true m n h = le-leb m n h

pub lt_true : (m n : ℕ) → m < n → nat_lt m n ≡ true
lt_true m n h = lt-ltb m n h

pub lt_false : (m n : ℕ) → n ≤ m → nat_lt m n ≡ false
lt_false m n h = lt-leb (suc m) n (omega (arith, h))

abbrev none : Option Owner
none = None

-- what a write has so many positions behind its first
pub covering_write : (start i : ℕ) (bytes : List ℕ) → covering (Write start bytes) (start + i) ≡ byte_at bytes i
covering_write start i bytes =
    ap (λ b. cond b (byte_at bytes (start + i - start)) None) (le_true start (start + i) (omega arith))
    ∙ ap (λ k. byte_at bytes k) (let e : start + i - start ≡ i = omega arith in e)

pub covering_gap : (start i len : ℕ) → i < len → covering (Gap start len) (start + i) ≡ Some Lost
covering_gap start i len h =
    ap (λ b. cond (b && nat_lt (start + i) (start + len)) (Some Lost) None) (le_true start (start + i) (omega arith))
    ∙ ap (λ b. cond b (Some Lost) None) (lt_true (start + i) (start + len) (omega (arith, h)))

pub covering_before : (start : ℕ) (content : Content) (q : ℕ) → q < start → covering (op_at start content) q ≡ None
covering_before start (Bytes bytes) q h = ap (λ b. cond b (byte_at bytes (q - start)) None) (lt-leb start q h)
covering_before start (Missing len) q h = ap (λ b. cond (b && nat_lt q (start + len)) (Some Lost) None) (lt-leb start q h)

pub covering_behind : (start : ℕ) (content : Content) (q : ℕ) → start + size_of content ≤ q → covering (op_at start content) q ≡ None
covering_behind start (Bytes bytes) q h =
    ap (λ o. cond (nat_le start q) o None) (byte_past bytes (q - start) (omega (arith, h))) ∙ same (nat_le start q)
  where
    same : (b : Bool) → cond b none none ≡ none
    same true = refl
    same false = refl
covering_behind start (Missing len) q h =
    ap (λ b. cond (nat_le start q && b) (Some Lost) None) (lt_false q (start + len) h) ∙ same (nat_le start q)
  where
    same : (b : Bool) → cond (b && false) (Some Lost) none ≡ none
    same true = refl
    same false = refl

pub covering_within : (start : ℕ) (content : Content) (q : ℕ) → start ≤ q → q < start + size_of content → IsSome (covering (op_at start content) q)
covering_within start (Bytes bytes) q from to =
    let at : start + (q - start) ≡ q = omega (arith, from) in
    subst (λ o. IsSome o) (sym (covering_write start (q - start) bytes) ∙ ap (λ k. covering (Write start bytes) k) at) (byte_some bytes (q - start) (omega (arith, from, to)))
covering_within start (Missing len) q from to =
    let at : start + (q - start) ≡ q = omega (arith, from) in
    subst (λ o. IsSome o) (sym (covering_gap start (q - start) len (omega (arith, from, to))) ∙ ap (λ k. covering (Gap start len) k) at) refl

-- the rest of a piece of data
pub rest_is_data : (piece : Piece) (bytes rest : List ℕ) (past : ℕ) → piece.content ≡ Bytes bytes → past < size_of piece.content → past_of piece ≤ 2 ^ 62 → rest ≡ take (length bytes - past) (drop past bytes) → AreData (has piece) (piece.start + past) rest
rest_is_data piece bytes rest past is within fits e =
    let size : size_of piece.content ≡ length bytes = ap size_of is in
    let long : length (drop past bytes) ≡ length bytes - past = length-drop past bytes in
    let all : rest ≡ drop past bytes = e ∙ take_all (length bytes - past) (drop past bytes) (omega (arith, long)) in
    let len : length rest ≡ length bytes - past = ap length all ∙ long in
    record {
      some = omega (arith, len, within, size);
      fits = omega (arith, len, within, size, fits);
      each = λ i h.
          let at : piece.start + past + i ≡ piece.start + (past + i) = omega arith in
          ap (λ c. covering (op_at piece.start c) (piece.start + past + i)) is
          ∙ ap (λ k. covering (Write piece.start bytes) k) at
          ∙ covering_write piece.start (past + i) bytes
          ∙ sym (byte-drop past i bytes) ∙ ap (λ b. byte_at b i) (sym all);
    }

pub or_none : (o : Option Owner) → or_else o None ≡ o
or_none None = refl
or_none (Some o) = refl

or_assoc : (a b c : Option Owner) → or_else (or_else a b) c ≡ or_else a (or_else b c)
or_assoc None b c = refl
or_assoc (Some a) b c = refl

pub owner-append : (d e : List Piece) (q : ℕ) → owner_of (d ++ e) q ≡ or_else (owner_of d q) (owner_of e q)
owner-append [] e q = refl
owner-append (p ∷ d) e q = ap (λ o. or_else (has p q) o) (owner-append d e q) ∙ sym (or_assoc (has p q) (owner_of d q) (owner_of e q))

pub loosen : (from earlier : ℕ) (ps : List Piece) → earlier ≤ from → AreOrdered from ps → AreOrdered earlier ps
loosen from earlier [] h ordered = tt
loosen from earlier (p ∷ ps) h ordered = (omega (arith, h, ordered.0), ordered.1, ordered.2, ordered.3)

pub owner_below : (from : ℕ) (ps : List Piece) (q : ℕ) → AreOrdered from ps → q < from → owner_of ps q ≡ None
owner_below from [] q ordered h = refl
owner_below from (p ∷ ps) q ordered h =
    ap (λ o. or_else o (owner_of ps q)) (covering_before p.start p.content q (omega (arith, h, ordered.0)))
    ∙ owner_below (past_of p) ps q ordered.3 (omega (arith, h, ordered.0))

-- pieces in order, cut at one
pub record AreCut (from : ℕ) (d : List Piece) (x : Piece) (e : List Piece) : Type 0 where
  pub begins : from ≤ x.start
  pub before : (q : ℕ) → x.start ≤ q → owner_of d q ≡ None
  pub behind : AreOrdered x.start (x ∷ e)

pub cut : (from : ℕ) (d : List Piece) (x : Piece) (e : List Piece) → AreOrdered from (d ++ x ∷ e) → AreCut from d x e
cut from [] x e ordered = record { begins = ordered.0; before = λ q h. refl; behind = (omega arith, ordered.1, ordered.2, ordered.3) }
cut from (p ∷ d) x e ordered =
    let rest = cut (past_of p) d x e ordered.3 in
    record {
      begins = omega (arith, rest.begins, ordered.0);
      before = λ q h. ap (λ o. or_else o (owner_of d q)) (covering_behind p.start p.content q (omega (arith, h, rest.begins))) ∙ rest.before q h;
      behind = rest.behind;
    }

-- other pieces in place of those from one on
pub replaced : (from : ℕ) (d : List Piece) (x : Piece) (e f : List Piece) → AreOrdered from (d ++ x ∷ e) → AreOrdered x.start f → AreOrdered from (d ++ f)
replaced from [] x e f ordered h = loosen x.start from f ordered.0 h
replaced from (p ∷ d) x e f ordered h = (ordered.0, ordered.1, ordered.2, replaced (past_of p) d x e f ordered.3 h)

pub owner_cut : (from : ℕ) (d : List Piece) (x : Piece) (e : List Piece) (q : ℕ) → AreOrdered from (d ++ x ∷ e) → x.start ≤ q → owner_of (d ++ x ∷ e) q ≡ or_else (has x q) (owner_of e q)
owner_cut from d x e q ordered h =
    owner-append d (x ∷ e) q ∙ ap (λ o. or_else o (or_else (has x q) (owner_of e q))) ((cut from d x e ordered).before q h)

pub owner_within : (from : ℕ) (d : List Piece) (x : Piece) (e : List Piece) (q : ℕ) → AreOrdered from (d ++ x ∷ e) → x.start ≤ q → q < past_of x → owner_of (d ++ x ∷ e) q ≡ has x q
owner_within from d x e q ordered h k =
    owner_cut from d x e q ordered h
    ∙ ap (λ o. or_else (has x q) o) (owner_below (past_of x) e q (cut from d x e ordered).behind.3 k)
    ∙ or_none (has x q)

pub owner_behind : (from : ℕ) (d : List Piece) (x : Piece) (e : List Piece) (q : ℕ) → AreOrdered from (d ++ x ∷ e) → past_of x ≤ q → owner_of (d ++ x ∷ e) q ≡ owner_of e q
owner_behind from d x e q ordered h =
    owner_cut from d x e q ordered (omega (arith, h))
    ∙ ap (λ o. or_else o (owner_of e q)) (covering_behind x.start x.content q h)

-- the slot of a floor leads to an item
pub record FloorItem (items : List (ℕ × Piece)) (at slot : ℕ) : Type 0 where
  pub before : List (ℕ × Piece)
  pub piece : Piece
  pub behind : List (ℕ × Piece)
  pub stands : StandsIn items before slot piece behind
  pub begins : piece.start ≤ at
  pub past : ArePast at (map entry_of behind)

pub floor_item : (items : List (ℕ × Piece)) (at slot : ℕ) → (before : List (ℕ × ℕ)) (key : ℕ) (behind : List (ℕ × ℕ)) → map entry_of items ≡ before ++ (key, slot) ∷ behind → key ≤ at → ArePast at behind → FloorItem items at slot
floor_item [] at slot before key behind is h past = absurd (no_middle before (key, slot) behind is)
floor_item (y ∷ items) at slot [] key behind is h past =
    let head : entry_of y ≡ (key, slot) = ap (λ l. first_or (key, slot) l) is in
    let tail : map entry_of items ≡ behind = ap (λ l. drop 1 l) is in
    record {
      before = [];
      piece = y.1;
      behind = items;
      stands = ap (λ s. (s, y.1) ∷ items) (ap (λ p. p.1) head);
      begins = subst (λ k. k ≤ at) (sym (ap (λ p. p.0) head)) h;
      past = subst (λ l. ArePast at l) (sym tail) past;
    }
  where
    first_or : ℕ × ℕ → List (ℕ × ℕ) → ℕ × ℕ
    first_or other [] = other
    first_or other (p ∷ ps) = p
floor_item (y ∷ items) at slot (b ∷ before) key behind is h past =
    let rest = floor_item items at slot before key behind (ap (λ l. drop 1 l) is) h past in
    record {
      before = y ∷ rest.before;
      piece = rest.piece;
      behind = rest.behind;
      stands = ap (λ l. y ∷ l) rest.stands;
      begins = rest.begins;
      past = rest.past;
    }

pub pieces-append : (d e : List (ℕ × Piece)) → pieces_of (d ++ e) ≡ pieces_of d ++ pieces_of e
pieces-append d e = map-append (λ item. item.1) d e

-- from a number on there is nothing up to the first of these pieces
pub room_is_free : (owner : ℕ → Option Owner) (at from : ℕ) (e : List (ℕ × Piece)) → at ≤ 2 ^ 64 - 1 → ((q : ℕ) → at ≤ q → owner q ≡ owner_of (pieces_of e) q) → AreOrdered from (pieces_of e) → ArePast at (map entry_of e) → AreFree owner at (room_to e at)
room_is_free owner at from [] small same ordered past = record {
  first = same at (omega arith);
  some = λ h. omega (arith, h);
  fits = omega (arith, small);
  each = λ i h. same (at + i) (omega arith);
}
room_is_free owner at from (y ∷ e) small same ordered past =
    let begins : at < y.1.start = past.0 in
    let starts : AreOrdered y.1.start (pieces_of (y ∷ e)) = (omega arith, ordered.1, ordered.2, ordered.3) in
    record {
      first = same at (omega arith) ∙ owner_below y.1.start (pieces_of (y ∷ e)) at starts begins;
      some = λ h. omega (arith, begins);
      fits = omega (arith, begins, ordered.1, ordered.2);
      each = λ i h. same (at + i) (omega arith) ∙ owner_below y.1.start (pieces_of (y ∷ e)) (at + i) starts (omega (arith, h, begins));
    }
