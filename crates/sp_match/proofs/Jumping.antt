-- The jumps of a word, as they are made and as a set is closed under them.
use Rattle.std.proofs.Common.{◌≡◌, ◌≢◌, ℕ, zero, suc, ◌+◌, ◌-◌, ◌*◌, ◌/◌, ◌%◌, ◌<◌, ◌≤◌, ◌++◌, ◌==◌, ◌||◌, ◌&&◌, ◌⊎◌, Bool, true, false, List, [], ◌∷◌, length, get_or, refl, ap, sym, subst, ◌∙◌, length-append, inl, inr, arith, eqb-true, eq-eqb}
use Rattle.std.specs.Prelude.{set as put_at}
use Rattle.std.specs.Global.{Vec}
use Rattle.std.specs.Int.{bit_at}
use Rattle.std.proofs.lemmas.Nat.Bits.{bit_at-zero}
use Rattle.sp_match.specs.declared.spot.Spot.{Spot}
use Rattle.sp_match.specs.declared.spot.Spot.TheVariants as spot
use Rattle.sp_match.specs.declared.word_jumps.WordJump.{WordJump}
use Rattle.sp_match.specs.Nets.{at, jumps, Reads, through, Leads, Orderly}
use Rattle.sp_match.specs.Bits.{holds}
use Rattle.sp_match.specs.Jumps.{in_word, is_target, lead, jump_of, bit_of, IsRising, AreWordJumps, of_word, AreJumps}
use Rattle.sp_match.proofs.Compiling.{order, before_or_not, either_true, left_true, right_true, both_true, and_true, true_or_false, not_both, or_false}
use Rattle.sp_match.specs.Running.{Closing, ReadsFrom}
use Rattle.sp_match.specs.Nets.{AliveAt}
use Rattle.sp_match.proofs.Growing.{at_behind}
use Rattle.sp_match.proofs.Turns.{jump_is}

or_assoc : (x y z : Bool) → ((x || y) || z) ≡ (x || (y || z))
or_assoc true y z = refl
or_assoc false y z = refl

or_twice : (x y z : Bool) → ((x || y) || z) ≡ ((x || z) || y)
or_twice true y z = refl
or_twice false true true = refl
or_twice false true false = refl
or_twice false false true = refl
or_twice false false false = refl

or_none : (x y : Bool) → y ≡ false → x ≡ (x || y)
or_none true y e = refl
or_none false y e = sym e

and_all : (x : Bool) → (x && true) ≡ x
and_all true = refl
and_all false = refl

and_none : (x : Bool) → (x && false) ≡ false
and_none true = refl
and_none false = refl

less : (b bit : ℕ) → b < bit + 1 → b ≢ bit → b < bit
less b bit lt differ = elim (order b bit) [ inl k ↦ k | inr ge ↦ elim ge [ inl e ↦ absurd (differ e) | inr gt ↦ absurd (omega arith) ] ]

-- one jump more
pub lead_pushed : (list : List WordJump) (x : WordJump) (b q : ℕ) → lead (list ++ x ∷ []) b q ≡ (lead list b q || (is_target x q && (b == x.bit)))
lead_pushed [] x b q = or_false (is_target x q && (b == x.bit))
lead_pushed (y ∷ ys) x b q = ap (λ z. (is_target y q && (b == y.bit)) || z) (lead_pushed ys x b q) ∙ sym (or_assoc (is_target y q && (b == y.bit)) (lead ys b q) (is_target x q && (b == x.bit)))

-- a jump that is another now
pub lead_put : (list : List WordJump) (j : ℕ) (x : WordJump) (b q : ℕ) (e : Bool) → j < length list → (is_target x q && (b == x.bit)) ≡ ((is_target (jump_of list j) q && (b == bit_of list j)) || e) → lead (put_at list j x) b q ≡ (lead list b q || e)
lead_put [] j x b q e lt is = absurd (omega arith)
lead_put (y ∷ ys) zero x b q e lt is = ap (λ z. z || lead ys b q) is ∙ or_twice (is_target y q && (b == y.bit)) e (lead ys b q)
lead_put (y ∷ ys) (suc j) x b q e lt is = ap (λ z. (is_target y q && (b == y.bit)) || z) (lead_put ys j x b q e (omega arith) is) ∙ sym (or_assoc (is_target y q && (b == y.bit)) (lead ys b q) e)

pub jump_put : (list : List WordJump) (j : ℕ) (x : WordJump) → x.bit ≡ bit_of list j → (i : ℕ) → bit_of (put_at list j x) i ≡ bit_of list i
jump_put [] j x e i = refl
jump_put (y ∷ ys) zero x e zero = e
jump_put (y ∷ ys) zero x e (suc i) = refl
jump_put (y ∷ ys) (suc j) x e zero = refl
jump_put (y ∷ ys) (suc j) x e (suc i) = jump_put ys j x e i

pub bit_before : (list : List WordJump) (x : WordJump) (j : ℕ) → j < length list → bit_of (list ++ x ∷ []) j ≡ bit_of list j
bit_before [] x j lt = absurd (omega arith)
bit_before (y ∷ ys) x zero lt = refl
bit_before (y ∷ ys) x (suc j) lt = bit_before ys x j (omega arith)

pub bit_new : (list : List WordJump) (x : WordJump) (j : ℕ) → length list ≤ j → bit_of (list ++ x ∷ []) j ≤ x.bit
bit_new [] x zero le = omega arith
bit_new [] x (suc j) le = omega arith
bit_new (y ∷ ys) x zero le = absurd (omega arith)
bit_new (y ∷ ys) x (suc j) le = bit_new ys x j (omega arith)

pub bit_last : (list : List WordJump) (x : WordJump) (j : ℕ) → length list ≤ j → j < length (list ++ x ∷ []) → bit_of (list ++ x ∷ []) j ≡ x.bit
bit_last [] x zero le lt = refl
bit_last [] x (suc j) le lt = absurd (omega arith)
bit_last (y ∷ ys) x zero le lt = absurd (omega arith)
bit_last (y ∷ ys) x (suc j) le lt = bit_last ys x j (omega arith) (omega arith)

pub bits_same : (old new : List WordJump) (most : ℕ) → length new ≡ length old → ((j : ℕ) → bit_of new j ≡ bit_of old j) → IsRising old most → IsRising new most
bits_same old new most long same r = record {
  rises = λ i j le lt. let a = same i in let b = same j in let c = r.rises i j le (omega arith) in omega arith;
  within = λ j. let a = same j in let b = r.within j in omega arith;
}

pub rising_pushed : (list : List WordJump) (x : WordJump) (most : ℕ) → x.bit ≡ most → IsRising list most → IsRising (list ++ x ∷ []) most
rising_pushed list x most is r = record {
  rises = λ i j le lt. elim (before_or_not j (length list)) [
    | inl less ↦ (let a = bit_before list x i (omega arith) in let b = bit_before list x j less in let c = r.rises i j le less in omega arith)
    | inr ge ↦ elim (before_or_not i (length list)) [
      | inl less ↦ (let a = bit_before list x i less in let b = bit_last list x j ge (let long = length-append list (x ∷ []) in omega arith) in let c = r.within i in omega arith)
      | inr far ↦ (let a = bit_new list x i far in let b = bit_last list x j ge (let long = length-append list (x ∷ []) in omega arith) in omega arith)
    ]
  ];
  within = λ j. elim (before_or_not j (length list)) [
    | inl less ↦ (let a = bit_before list x j less in let b = r.within j in omega arith)
    | inr ge ↦ (let a = bit_new list x j ge in omega arith)
  ];
}

pub jump_found : (list : List WordJump) (j : ℕ) (x : WordJump) → j < length list → x ≡ get_or list j x → jump_of list j ≡ x
jump_found [] j x lt e = absurd (omega arith)
jump_found (y ∷ ys) zero x lt e = sym e
jump_found (y ∷ ys) (suc j) x lt e = jump_found ys j x (omega arith) e

bit_wider : (spots wider place i : ℕ) → bit_at wider place ≡ 1 → ((k : ℕ) → k ≢ place → bit_at wider k ≡ bit_at spots k) → (bit_at wider i == 1) ≡ ((bit_at spots i == 1) || (i == place))
bit_wider spots wider place i one others = elim (true_or_false (i == place)) [
  | inl e ↦ (let is = eqb-true i place e in ap (λ z. bit_at wider z == 1) is ∙ ap (λ z. z == 1) one ∙ sym (right_true (bit_at spots i == 1) (i == place) e))
  | inr e ↦ ap (λ z. z == 1) (others i (λ same. not_both (eq-eqb i place same) e)) ∙ or_none (bit_at spots i == 1) (i == place) e
]

wider : (a x y b : Bool) → ((a && (x || y)) && b) ≡ (((a && x) && b) || ((a && y) && b))
wider false x y b = refl
wider true true true true = refl
wider true true true false = refl
wider true true false true = refl
wider true true false false = refl
wider true false true b = refl
wider true false false b = refl

pub widened : (list : List WordJump) (j : ℕ) (last x : WordJump) (place b q : ℕ) → j < length list → last ≡ get_or list j last → last.bit ≡ x.bit → last.word ≡ x.word → bit_at x.spots place ≡ 1 → ((k : ℕ) → k ≢ place → bit_at x.spots k ≡ bit_at (last.spots) k) → lead (put_at list j x) b q ≡ (lead list b q || (in_word q x.word place && (b == x.bit)))
widened list j last x place b q lt e bit word one others =
    let here = jump_found list j last lt e in
    lead_put list j x b q (in_word q x.word place && (b == x.bit)) lt
    (ap (λ z. ((q / 64 == x.word) && z) && (b == x.bit)) (bit_wider (last.spots) x.spots place (q % 64) one others)
    ∙ wider (q / 64 == x.word) (bit_at (last.spots) (q % 64) == 1) (q % 64 == place) (b == x.bit)
    ∙ ap (λ z. z || (in_word q x.word place && (b == x.bit)))
    (ap (λ z. ((q / 64 == z) && (bit_at (last.spots) (q % 64) == 1)) && (b == x.bit)) (sym word)
    ∙ ap (λ z. is_target last q && (b == z)) (sym bit)
    ∙ ap (λ (z : WordJump). is_target z q && (b == z.bit)) (sym here)))

-- the spot of a word and a place
pub spot_is : (q spot : ℕ) → in_word q (spot / 64) (spot % 64) ≡ (q == spot)
spot_is q spot = elim (true_or_false (q == spot)) [
  | inl e ↦ (let is = eqb-true q spot e in and_true (q / 64 == spot / 64) (q % 64 == spot % 64) (eq-eqb (q / 64) (spot / 64) (ap (λ z. z / 64) is)) (eq-eqb (q % 64) (spot % 64) (ap (λ z. z % 64) is)) ∙ sym e)
  | inr e ↦ elim (true_or_false (in_word q (spot / 64) (spot % 64))) [
    | inr f ↦ f ∙ sym e
    | inl f ↦ (let two = both_true (q / 64 == spot / 64) (q % 64 == spot % 64) f in
        let a = eqb-true (q / 64) (spot / 64) two.0 in let b = eqb-true (q % 64) (spot % 64) two.1 in
        let same : q ≡ spot = omega arith in absurd (not_both (eq-eqb q spot same) e))
  ]
]

-- a jump to one spot, behind the others
pub target_pushed : (list : List WordJump) (x : WordJump) (spot b q : ℕ) → x.word ≡ spot / 64 → bit_at x.spots (spot % 64) ≡ 1 → ((k : ℕ) → k ≢ spot % 64 → bit_at x.spots k ≡ bit_at 0 k) → lead (list ++ x ∷ []) b q ≡ (lead list b q || ((q == spot) && (b == x.bit)))
target_pushed list x spot b q word one others =
    let i = q % 64 in
    let none : (bit_at 0 i == 1) ≡ false = ap (λ z. z == 1) (bit_at-zero i) in
    lead_pushed list x b q ∙ ap (λ z. lead list b q || (z && (b == x.bit)))
    (ap (λ z. (q / 64 == x.word) && z) (bit_wider 0 x.spots (spot % 64) i one others ∙ ap (λ z. z || (i == spot % 64)) none)
    ∙ ap (λ z. (q / 64 == z) && (i == spot % 64)) word ∙ spot_is q spot)

pub no_spot : (old : Bool) (b bit : ℕ) → old ≡ (old || (false && (b == bit)))
no_spot old b bit = sym (or_false old)

-- the jumps of a word, and the words one after another
pub rising_none : (most : ℕ) → IsRising [] most
rising_none most = record { rises = λ i j le lt. absurd (omega arith); within = λ j. omega arith }

pub rising_wider : (list : List WordJump) (most more : ℕ) → most ≤ more → IsRising list most → IsRising list more
rising_wider list most more le r = record { rises = r.rises; within = λ j. let a = r.within j in omega arith }

pub place_done : (net : List Spot) (old new : List WordJump) (word bit : ℕ) → ((b q : ℕ) → lead new b q ≡ (lead old b q || (jumps (at net (word * 64 + bit)) q && (b == bit)))) → ((b q : ℕ) → b < bit → lead old b q ≡ jumps (at net (word * 64 + b)) q) → ((b q : ℕ) → bit ≤ b → lead old b q ≡ false) → (b q : ℕ) → b < bit + 1 → lead new b q ≡ jumps (at net (word * 64 + b)) q
place_done net old new word bit is done rest b q lt = elim (true_or_false (b == bit)) [
  | inl e ↦ (let same = eqb-true b bit e in let j = jumps (at net (word * 64 + bit)) q in
      is b q ∙ ap (λ z. z || (j && (b == bit))) (rest b q (omega arith)) ∙ ap (λ z. j && z) e ∙ and_all j ∙ ap (λ z. jumps (at net (word * 64 + z)) q) (sym same))
  | inr e ↦ (let j = jumps (at net (word * 64 + bit)) q in
      is b q ∙ sym (or_none (lead old b q) (j && (b == bit)) (ap (λ z. j && z) e ∙ and_none j)) ∙ done b q (less b bit lt (λ same. not_both (eq-eqb b bit same) e)))
]

pub place_rest : (net : List Spot) (old new : List WordJump) (word bit : ℕ) → ((b q : ℕ) → lead new b q ≡ (lead old b q || (jumps (at net (word * 64 + bit)) q && (b == bit)))) → ((b q : ℕ) → bit ≤ b → lead old b q ≡ false) → (b q : ℕ) → bit + 1 ≤ b → lead new b q ≡ false
place_rest net old new word bit is rest b q le = elim (true_or_false (b == bit)) [
  | inl e ↦ absurd (let same = eqb-true b bit e in omega arith)
  | inr e ↦ (let j = jumps (at net (word * 64 + bit)) q in
      is b q ∙ sym (or_none (lead old b q) (j && (b == bit)) (ap (λ z. j && z) e ∙ and_none j)) ∙ rest b q (omega arith))
]

word_before : (all : List (Vec WordJump)) (x : Vec WordJump) (w : ℕ) → w < length all → of_word (all ++ x ∷ []) w ≡ of_word all w
word_before [] x w lt = absurd (omega arith)
word_before (y ∷ ys) x zero lt = refl
word_before (y ∷ ys) x (suc w) lt = word_before ys x w (omega arith)

word_new : (all : List (Vec WordJump)) (x : Vec WordJump) → of_word (all ++ x ∷ []) (length all) ≡ x.items
word_new [] x = refl
word_new (y ∷ ys) x = word_new ys x

word_past : (all : List (Vec WordJump)) (w : ℕ) → length all ≤ w → of_word all w ≡ []
word_past [] w le = refl
word_past (y ∷ ys) zero le = absurd (omega arith)
word_past (y ∷ ys) (suc w) le = word_past ys w (omega arith)

pub word_is : (all : List (Vec WordJump)) (w : ℕ) (x : Vec WordJump) → w < length all → x ≡ get_or all w x → of_word all w ≡ x.items
word_is [] w x lt e = absurd (omega arith)
word_is (y ∷ ys) zero x lt e = ap (λ (z : Vec WordJump). z.items) (sym e)
word_is (y ∷ ys) (suc w) x lt e = word_is ys w x (omega arith) e

pub words_turn : (net : List Spot) (all : List (Vec WordJump)) (x : Vec WordJump) (n : ℕ) → length all ≡ n → ((w : ℕ) → w < n → AreWordJumps net w (of_word all w)) → AreWordJumps net n x.items → (w : ℕ) → w < n + 1 → AreWordJumps net w (of_word (all ++ x ∷ []) w)
words_turn net all x n long done one w lt = elim (order w n) [
  | inl less ↦ subst (AreWordJumps net w) (sym (word_before all x w (omega arith))) (done w less)
  | inr ge ↦ elim ge [
    | inl e ↦ subst (λ z. AreWordJumps net z (of_word (all ++ x ∷ []) z)) (sym (e ∙ sym long)) (subst (AreWordJumps net (length all)) (sym (word_new all x)) (subst (λ z. AreWordJumps net z x.items) (sym long) one))
    | inr gt ↦ absurd (omega arith)
  ]
]

past_jumps : (s : Spot) (q : ℕ) → s ≡ spot.Nothing → jumps s q ≡ false
past_jumps s q e = ap (λ z. jumps z q) e

none_past : (net : List Spot) (w : ℕ) → length net ≤ w * 64 → AreWordJumps net w []
none_past net w le = record {
  are = λ bit q lt. sym (past_jumps (at net (w * 64 + bit)) q (at_behind net (w * 64 + bit) (omega arith)));
  rising = rising_none 63;
}

pub words_done : (net : List Spot) (all : List (Vec WordJump)) (n : ℕ) → length net < n * 64 → length all ≡ n → ((w : ℕ) → w < n → AreWordJumps net w (of_word all w)) → AreJumps net all
words_done net all n room long done w = elim (before_or_not w n) [
  | inl lt ↦ done w lt
  | inr ge ↦ subst (AreWordJumps net w) (sym (word_past all w (omega arith))) (none_past net w (omega arith))
]

-- a set is closed under the jumps of a word, the last first

-- The set so far, where of this word's jumps those from i on are followed, and all jumps behind the word.
pub record WordClosing (net : List Spot) (initial set : ℕ → Bool) (word : ℕ) (list : List WordJump) (i : ℕ) : Type 0 where
  pub keeps : (q : ℕ) → initial q ≡ true → set q ≡ true
  pub later : (p q : ℕ) → (word + 1) * 64 ≤ p → set p ≡ true → jumps (at net p) q ≡ true → set q ≡ true
  pub done : (j q : ℕ) → i ≤ j → j < length list → set (word * 64 + bit_of list j) ≡ true → is_target (jump_of list j) q ≡ true → set q ≡ true
  pub came : (q : ℕ) → set q ≡ true → (g : ℕ) (w : List ℕ) → Reads net g q w → ReadsFrom net g initial w
  pub alive : ((p q : ℕ) → Leads (at net p) q → AliveAt net q) → ((q : ℕ) → initial q ≡ true → AliveAt net q) → (q : ℕ) → set q ≡ true → AliveAt net q

lead_at : (list : List WordJump) (j q : ℕ) → j < length list → is_target (jump_of list j) q ≡ true → lead list (bit_of list j) q ≡ true
lead_at [] j q lt e = absurd (omega arith)
lead_at (x ∷ xs) zero q lt e = left_true (is_target x q && (x.bit == x.bit)) (lead xs (x.bit) q) (and_true (is_target x q) (x.bit == x.bit) e (eq-eqb (x.bit) (x.bit) refl))
lead_at (x ∷ xs) (suc j) q lt e = right_true (is_target x q && (bit_of xs j == x.bit)) (lead xs (bit_of xs j) q) (lead_at xs j q (omega arith) e)

lead_some : (list : List WordJump) (b q : ℕ) → lead list b q ≡ true → (j : ℕ) × (j < length list) × (bit_of list j ≡ b) × (is_target (jump_of list j) q ≡ true)
lead_some [] b q h = absurd (let k : false ≡ true = h in cc)
lead_some (x ∷ xs) b q h = elim (either_true (is_target x q && (b == x.bit)) (lead xs b q) h) [
  | inl k ↦ (let two = both_true (is_target x q) (b == x.bit) k in (0, omega arith, sym (eqb-true b (x.bit) two.1), two.0))
  | inr k ↦ (let y = lead_some xs b q k in let lt = y.1 in (suc y.0, omega arith, y.2, y.3))
]

pub jumps_from : (net : List Spot) (word : ℕ) (list : List WordJump) → AreWordJumps net word list → (i q : ℕ) → i < length list → is_target (jump_of list i) q ≡ true → jumps (at net (word * 64 + bit_of list i)) q ≡ true
jumps_from net word list w i q small e = sym (w.are (bit_of list i) q (let k = w.rising.within i in omega arith)) ∙ lead_at list i q small e

pub held_at : (set : List ℕ) (word bit : ℕ) → bit < 64 → (bit_at (get_or set word 0) bit == 1) ≡ holds set (word * 64 + bit)
held_at set word bit lt =
    let at_word : word ≡ (word * 64 + bit) / 64 = omega arith in
    let at_bit : bit ≡ (word * 64 + bit) % 64 = omega arith in
    ap (λ z. bit_at (get_or set z 0) bit == 1) at_word ∙ ap (λ z. bit_at (get_or set ((word * 64 + bit) / 64) 0) z == 1) at_bit

pub word_begins : (net : List Spot) (initial set : ℕ → Bool) (word : ℕ) (list : List WordJump) → Closing net initial set ((word + 1) * 64) → WordClosing net initial set word list (length list)
word_begins net initial set word list c = record {
  keeps = c.keeps;
  later = c.done;
  done = λ j q le lt. absurd (omega arith);
  came = c.came;
  alive = c.alive;
}

module _ (net : List Spot) (initial set new : ℕ → Bool) (word : ℕ) (list : List WordJump) (j : ℕ) (on : Bool) (o : Orderly net) (w : AreWordJumps net word list) (lt : j < length list) (live : on ≡ set (word * 64 + bit_of list j)) (is : (q : ℕ) → new q ≡ (set q || (on && is_target (jump_of list j) q))) where
  follow_cases : (q : ℕ) → new q ≡ true → (set q ≡ true) ⊎ ((on ≡ true) × (is_target (jump_of list j) q ≡ true))
  follow_cases q h = elim (either_true (set q) (on && is_target (jump_of list j) q) (sym (is q) ∙ h)) [
    | inl k ↦ inl k
    | inr k ↦ inr (both_true on (is_target (jump_of list j) q) k)
  ]

  old : (q : ℕ) → set q ≡ true → new q ≡ true
  old q h = is q ∙ left_true (set q) (on && is_target (jump_of list j) q) h

  followed_is : (q : ℕ) → on ≡ true → is_target (jump_of list j) q ≡ true → new q ≡ true
  followed_is q live_now e = is q ∙ right_true (set q) (on && is_target (jump_of list j) q) (and_true on (is_target (jump_of list j) q) live_now e)

  -- a spot that jumps and to which this one jumps stands before it
  before : (p q : ℕ) → is_target (jump_of list j) p ≡ true → jumps (at net p) q ≡ true → p < word * 64 + bit_of list j
  before p q e k = o.earlier (word * 64 + bit_of list j) p (jumps_from net word list w j p lt e) (jump_is (at net p) q k)

  pub follow_turn : WordClosing net initial set word list (j + 1) → WordClosing net initial new word list j
  follow_turn c = record {
    keeps = λ q h. old q (c.keeps q h);
    later = λ p q le h k. elim (follow_cases p h) [
      | inl s ↦ old q (c.later p q le s k)
      | inr s ↦ (let less = before p q s.1 k in let small = w.rising.within j in absurd (omega arith))
    ];
    done = λ i q le small h e. elim (order i j) [
      | inl less ↦ absurd (omega arith)
      | inr ge ↦ elim ge [
        | inl same ↦ (let here : is_target (jump_of list j) q ≡ true = subst (λ z. is_target (jump_of list z) q ≡ true) same e in
            elim (follow_cases (word * 64 + bit_of list j) (subst (λ z. new (word * 64 + bit_of list z) ≡ true) same h)) [
              | inl s ↦ followed_is q (live ∙ s) here
              | inr s ↦ followed_is q s.0 here
            ])
        | inr gt ↦ elim (follow_cases (word * 64 + bit_of list i) h) [
          | inl s ↦ old q (c.done i q (omega arith) small s e)
          | inr s ↦ (let less = before (word * 64 + bit_of list i) q s.1 (jumps_from net word list w i q small e) in let up = w.rising.rises j i (omega arith) small in absurd (omega arith))
        ]
      ]
    ];
    came = λ q h g v r. elim (follow_cases q h) [
      | inl s ↦ c.came q s g v r
      | inr s ↦ c.came (word * 64 + bit_of list j) (sym live ∙ s.0) g v (through (jumps_from net word list w j q lt s.1) r)
    ];
    alive = λ lively first q h. elim (follow_cases q h) [
      | inl s ↦ c.alive lively first q s
      | inr s ↦ lively (word * 64 + bit_of list j) q (inr (jumps_from net word list w j q lt s.1))
    ];
  }

pub word_done : (net : List Spot) (initial set : ℕ → Bool) (word : ℕ) (list : List WordJump) → AreWordJumps net word list → WordClosing net initial set word list 0 → Closing net initial set (word * 64)
word_done net initial set word list w c = record {
  keeps = c.keeps;
  done = λ p q le h k. elim (before_or_not p ((word + 1) * 64)) [
    | inr ge ↦ c.later p q ge h k
    | inl lt ↦ (let b = p - word * 64 in
        let place : p ≡ word * 64 + b = omega arith in
        let y = lead_some list b q (w.are b q (omega arith) ∙ ap (λ z. jumps (at net z) q) (sym place) ∙ k) in
        c.done y.0 q (omega arith) y.1 (ap set (ap (λ z. word * 64 + z) y.2 ∙ sym place) ∙ h) y.3)
  ];
  came = c.came;
  alive = c.alive;
}

-- a word of which no spot is in the set, or none jumps
pub word_still : (net : List Spot) (initial set : ℕ → Bool) (word : ℕ) → ((p q : ℕ) → p / 64 ≡ word → set p ≡ true → jumps (at net p) q ≡ true → ⊥) → Closing net initial set ((word + 1) * 64) → Closing net initial set (word * 64)
word_still net initial set word none c = record {
  keeps = c.keeps;
  done = λ p q le h k. elim (before_or_not p ((word + 1) * 64)) [
    | inl lt ↦ absurd (none p q (omega arith) h k)
    | inr ge ↦ c.done p q ge h k
  ];
  came = c.came;
  alive = c.alive;
}

pub none_in_word : (set : List ℕ) (word p : ℕ) → get_or set word 0 ≡ 0 → p / 64 ≡ word → holds set p ≡ true → ⊥
none_in_word set word p none place h = not_both h (ap (λ z. bit_at (get_or set z 0) (p % 64) == 1) place ∙ ap (λ z. bit_at z (p % 64) == 1) none ∙ ap (λ z. z == 1) (bit_at-zero (p % 64)))

pub no_word : (net : List Spot) (all : List (Vec WordJump)) (word p q : ℕ) → length all ≤ word → AreJumps net all → p / 64 ≡ word → jumps (at net p) q ≡ true → ⊥
no_word net all word p q le w place k =
    let b = p % 64 in
    let is : word * 64 + b ≡ p = omega arith in
    not_both k (ap (λ z. jumps (at net z) q) (sym is) ∙ sym ((w word).are b q (omega arith)) ∙ ap (λ z. lead z b q) (word_past all word le))
