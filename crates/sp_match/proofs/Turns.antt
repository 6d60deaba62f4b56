-- One turn of each loop of a run, and the empty word.
use Rattle.std.proofs.Common.{◌≡◌, ℕ, zero, suc, ◌<◌, ◌≤◌, ◌++◌, ◌==◌, Bool, true, false, List, [], ◌∷◌, length, get_or, refl, ap, sym, subst, ◌∙◌, inl, inr, arith, fold, eqb-true, eq-eqb}
use Rattle.std.specs.Global.{Vec}
use Rattle.sp_regex.specs.Trees.{Syntax, empty, never, either, sequence, alternatives}
use Rattle.sp_regex.specs.Language.{InL, Times}
use Rattle.sp_match.specs.declared.spot.Spot.{Spot}
use Rattle.sp_match.specs.declared.spot.Spot.TheVariants as spot
use Rattle.sp_match.specs.Sets.{class_has}
use Rattle.sp_match.specs.Nets.{at, moves, jumps, is_jump, Orderly}
use Rattle.sp_match.specs.Bits.{holds, row, led, IsStep}
use Rattle.sp_match.specs.Tables.{reads_byte, next_of, AreNexts, AreClasses, AreReaders}
use Rattle.sp_match.specs.Parts.{InAll}
use Rattle.sp_match.specs.Running.{Closing, IsClosed, IsNext}
use Rattle.sp_match.proofs.Compiling.{both_true, and_true}
use Rattle.sp_match.proofs.Running.{within_jumps}
use Rattle.sp_match.proofs.Steps.{in_order_forth}

-- a spot that reads a byte is then at its next spot
pub reader_moves : (s : Spot) (b q : ℕ) → reads_byte s b ≡ true → next_of s ≡ q → moves s b q ≡ true
reader_moves (spot.Byte bytes next) b q r e = and_true (class_has bytes.items b) (q == next) r (eq-eqb q next (sym e))
reader_moves (spot.Jump to) b q r e = absurd (let k : false ≡ true = r in cc)
reader_moves (spot.Goal token literal) b q r e = absurd (let k : false ≡ true = r in cc)
reader_moves spot.Nothing b q r e = absurd (let k : false ≡ true = r in cc)

pub mover_reads : (s : Spot) (b q : ℕ) → moves s b q ≡ true → (reads_byte s b ≡ true) × (q ≡ next_of s)
mover_reads (spot.Byte bytes next) b q m = let two = both_true (class_has bytes.items b) (q == next) m in (two.0, eqb-true q next two.1)
mover_reads (spot.Jump to) b q m = absurd (let k : false ≡ true = m in cc)
mover_reads (spot.Goal token literal) b q m = absurd (let k : false ≡ true = m in cc)
mover_reads spot.Nothing b q m = absurd (let k : false ≡ true = m in cc)

pub at_is : (net : List Spot) (j : ℕ) (x : Spot) → j < length net → x ≡ get_or net j x → at net j ≡ x
at_is [] j x lt e = absurd (omega arith)
at_is (y ∷ ys) zero x lt e = sym e
at_is (y ∷ ys) (suc j) x lt e = at_is ys j x (omega arith) e

pub jump_is : (s : Spot) (q : ℕ) → jumps s q ≡ true → is_jump s ≡ true
jump_is (spot.Jump to) q j = refl
jump_is (spot.Byte bytes next) q j = absurd (let k : false ≡ true = j in cc)
jump_is (spot.Goal token literal) q j = absurd (let k : false ≡ true = j in cc)
jump_is spot.Nothing q j = absurd (let k : false ≡ true = j in cc)

pub closing_begin : (net : List Spot) (set : ℕ → Bool) (n : ℕ) → length net ≤ n → Closing net set set n
closing_begin net set n room = record {
  keeps = λ q h. h;
  done = λ p q le h k. let lt = within_jumps net p q k in absurd (omega arith);
  came = λ q h g w r. (q, h, r);
  alive = λ lively first. first;
}

pub closed_done : (net : List Spot) (initial set : ℕ → Bool) (i : ℕ) → i ≡ 0 → Closing net initial set i → IsClosed net initial set
closed_done net initial set i e c = record {
  keeps = c.keeps;
  closed = λ p q h k. c.done p q (omega arith) h k;
  came = c.came;
  alive = c.alive;
}

-- the readers of a byte's class read the byte
pub readers_read : (net : List Spot) (of firsts : List ℕ) (read : List (Vec ℕ)) (c b : ℕ) → AreClasses net of firsts 256 → AreReaders net firsts read → b < 256 → c ≡ get_or of b 0 → (p : ℕ) → holds (row read c) p ≡ reads_byte (at net p) b
readers_read net of firsts read c b classes readers lt is p =
    (let within = classes.within b lt in readers c p (omega arith)) ∙ ap (λ k. reads_byte (at net p) (get_or firsts k 0)) is ∙ classes.like b lt p

pub closed_same : (net : List Spot) (initial other set : ℕ → Bool) → ((p : ℕ) → initial p ≡ other p) → IsClosed net initial set → IsClosed net other set
closed_same net initial other set same c = record {
  keeps = λ q h. c.keeps q (same q ∙ h);
  closed = c.closed;
  came = λ q h g w r. let y = c.came q h g w r in (y.0, sym (same y.0) ∙ y.1, y.2);
  alive = λ lively first. c.alive lively (λ q h. first q (sym (same q) ∙ h));
}

-- what a step leads to, and all that this jumps to, is the next set
pub step_closed : (net : List Spot) (live readers first next : ℕ → Bool) (nexts : List ℕ) (b : ℕ) → Orderly net → ((p : ℕ) → readers p ≡ reads_byte (at net p) b) → AreNexts net nexts → IsStep live readers nexts first → IsClosed net first next → IsNext net live next b
step_closed net live readers first next nexts b o reads are s c =
    let is : (p : ℕ) → reads_byte (at net p) b ≡ true → led nexts p ≡ next_of (at net p) =
    λ p r. are p (o.next_within p b (next_of (at net p)) (reader_moves (at net p) b (next_of (at net p)) r refl)) in
    let moved : (p q : ℕ) → reads_byte (at net p) b ≡ true → led nexts p ≡ q → moves (at net p) b q ≡ true = λ p q r e. reader_moves (at net p) b q r (sym (is p r) ∙ e) in
    record {
      goes = λ p q h m. let k = mover_reads (at net p) b q m in
          c.keeps q (subst (λ z. first z ≡ true) (is p k.0 ∙ sym k.1) (s.goes p h (reads p ∙ k.0)));
      closed = c.closed;
      came = λ q h g w r. let x = c.came q h g w r in let y = s.came x.0 x.1 in (y.0, x.0, y.1, moved y.0 x.0 (sym (reads y.0) ∙ y.2) y.3, x.2);
      alive = λ lively. c.alive lively (λ q h. let y = s.came q h in lively y.0 q (inl (b, moved y.0 q (sym (reads y.0) ∙ y.2) y.3)));
    }

-- the empty word

nil_left : (u v : List ℕ) → [] ≡ u ++ v → u ≡ []
nil_left [] v e = refl
nil_left (c ∷ u) v e = absurd (cc)

nil_right : (u v : List ℕ) → [] ≡ u ++ v → v ≡ []
nil_right [] v e = sym e
nil_right (c ∷ u) v e = absurd (cc)

in_all_at : (parts : List Syntax) (i : ℕ) (d : Syntax) → i < length parts → InAll parts [] → InL (get_or parts i d) []
in_all_at [] i d lt h = absurd (omega arith)
in_all_at (x ∷ xs) zero d lt h = subst (InL x) (nil_left h.0 h.1 h.2) h.3
in_all_at (x ∷ xs) (suc i) d lt h = in_all_at xs i d (omega arith) (subst (InAll xs) (nil_right h.0 h.1 h.2) h.4)

pub all_miss : (parts : List Syntax) (i : ℕ) (x : Syntax) → i < length parts → x ≡ get_or parts i x → (InL x [] → ⊥) → InL (sequence parts) [] → ⊥
all_miss parts i x lt is misses h =
    let k = in_order_forth parts empty [] h in
    misses (subst (λ z. InL z []) (sym is) (in_all_at parts i x lt (subst (InAll parts) (nil_right k.0 k.1 k.2) k.4)))

in_fold : (xs : List Syntax) (a : Syntax) (w : List ℕ) → InL a w → InL (fold either a xs) w
in_fold [] a w h = h
in_fold (x ∷ xs) a w h = in_fold xs (either a x) w (inl h)

in_some : (xs : List Syntax) (a : Syntax) (i : ℕ) (d : Syntax) (w : List ℕ) → i < length xs → InL (get_or xs i d) w → InL (fold either a xs) w
in_some [] a i d w lt h = absurd (omega arith)
in_some (x ∷ xs) a zero d w lt h = in_fold xs (either a x) w (inr h)
in_some (x ∷ xs) a (suc i) d w lt h = in_some xs (either a x) i d w (omega arith) h

pub one_has_it : (parts : List Syntax) (i : ℕ) (x : Syntax) → i < length parts → x ≡ get_or parts i x → InL x [] → InL (alternatives parts) []
one_has_it parts i x lt is h = in_some parts never i x [] lt (subst (λ z. InL z []) is h)

pub times_empty : (A : List ℕ → Type 0) (n : ℕ) → A [] → Times n A []
times_empty A zero h = refl
times_empty A (suc n) h = ([], [], refl, h, times_empty A n h)

pub times_has_empty : (A : List ℕ → Type 0) (n : ℕ) → 0 < n → Times n A [] → A []
times_has_empty A zero lt t = absurd (omega arith)
times_has_empty A (suc n) lt t = subst A (nil_left t.0 t.1 t.2) t.3
