-- One turn of each loop that makes the automaton.
use Rattle.std.proofs.Common.{◌≡◌, ℕ, zero, suc, ◌+◌, ◌-◌, ◌<◌, ◌≤◌, ◌++◌, ◌==◌, ◌&&◌, ◌||◌, not, ◌⊎◌, ◌≢◌, Bool, true, false, List, [], ◌∷◌, Some, None, length, take, drop, set, get_or, nat_lt, refl, ap, sym, subst, ◌∙◌, inl, inr, arith, append_assoc, length-append, eqb-true, eq-eqb, add-one, drop-cons, fold}
use Rattle.std.proofs.lemmas.List.{append-nil, take_more, get_or_append_left, length-set, get_or-set_same, get_or-set_other}
use Rattle.std.proofs.lemmas.Bool.{ltb-true}
use Rattle.std.proofs.lemmas.Bool.Decides.{nat_tests}
use Rattle.std.proofs.lemmas.List.Sums.{fold-append}
use Rattle.std.specs.Global.{Vec}
use Rattle.sp_regex.specs.Trees.{Syntax, byte, any, class, empty, followed, never, either, repeat, literal, sequence, alternatives, syntax_size}
use Rattle.sp_regex.specs.Syntax.{belongs}
use Rattle.sp_regex.specs.declared.bytes.ByteRange.{ByteRange}
use Rattle.sp_regex.specs.Language.{InL, Times}
use Rattle.sp_match.specs.declared.spot.Spot.{Spot}
use Rattle.sp_match.specs.declared.spot.Spot.TheVariants as spot
use Rattle.sp_match.specs.Sets.{has, class_has}
use Rattle.sp_match.specs.Nets.{at, moves, jumps, is_byte, is_jump, is_goal, Compiled, Orderly}
use Rattle.sp_match.specs.Parts.{Below, IsCompiled, IsChain, Both, OneByte, in_row, InAll, copies, Star, Plus, Many}
use Rattle.sp_match.proofs.Compiling.{order, either_true, both_true, not_both, not_true, true_or_false, compiled_later, entry_below}
use Rattle.sp_match.proofs.Looping.{IsLoop, Looped, compiled_star, compiled_plus, compiled_plus_empty}
use Rattle.sp_match.proofs.Growing.{is_none, is_same, is_both, is_either, orderly_pushed, chain_of, chain_same, chain_or, jump_loops}

-- a byte

one_byte_forth : (set : List Bool) (b : ℕ) → ((p : ℕ) → class_has set p ≡ (p == b)) → (w : List ℕ) → OneByte set w → w ≡ b ∷ []
one_byte_forth set b is w x = x.2 ∙ ap (λ z. z ∷ []) (eqb-true x.0 b (sym (is x.0) ∙ x.1))

both_are : (x y : Bool) → x ≡ true → y ≡ true → (x && y) ≡ true
both_are x y h k = rw (h, k) refl

small : (b : ℕ) → b < 256 → nat_lt b 256 ≡ true
small b lt = grind (arith, nat_tests)

pub is_byte_part : (set : List Bool) (b : ℕ) (then entry : List ℕ) (old new : List Spot) → ((p : ℕ) → class_has set p ≡ (p == b)) → IsCompiled (OneByte set) then entry old new → IsCompiled (InL (byte b)) then entry old new
is_byte_part set b then entry old new is c = is_same (OneByte set) (InL (byte b)) then entry old new (one_byte_forth set b is) (λ w e. (b, is b ∙ eq-eqb b b refl, e)) c

pub is_class_part : (set : List Bool) (negated : Bool) (rs : List ByteRange) (then entry : List ℕ) (old new : List Spot) → ((p : ℕ) → class_has set p ≡ (nat_lt p 256 && belongs negated rs p)) → IsCompiled (OneByte set) then entry old new → IsCompiled (InL (class negated rs)) then entry old new
is_class_part set negated rs then entry old new is c = is_same (OneByte set) (InL (class negated rs)) then entry old new
    (λ w x. let two = both_true (nat_lt x.0 256) (belongs negated rs x.0) (sym (is x.0) ∙ x.1) in (x.0, ltb-true x.0 256 two.0, two.1, x.2))
    (λ w x. (x.0, is x.0 ∙ both_are (nat_lt x.0 256) (belongs negated rs x.0) (small x.0 x.1) x.2, x.3)) c

pub is_any_part : (set : List Bool) (then entry : List ℕ) (old new : List Spot) → ((p : ℕ) → class_has set p ≡ (nat_lt p 256 && belongs true [] p)) → IsCompiled (OneByte set) then entry old new → IsCompiled (InL any) then entry old new
is_any_part set then entry old new is c = is_same (OneByte set) (InL any) then entry old new
    (λ w x. let two = both_true (nat_lt x.0 256) (belongs true [] x.0) (sym (is x.0) ∙ x.1) in (x.0, ltb-true x.0 256 two.0, x.2))
    (λ w x. (x.0, is x.0 ∙ both_are (nat_lt x.0 256) (belongs true [] x.0) (small x.0 x.1) refl, x.2)) c

-- a literal, from its end

pub word_step : (bytes : List ℕ) (i j b : ℕ) (set : List Bool) (then mid entry : List ℕ) (first second third : List Spot) → j + 1 ≡ i → i ≤ length bytes → b ≡ get_or bytes j 0 → ((p : ℕ) → class_has set p ≡ (p == b)) → Below then (length first) → IsCompiled (InL (literal (drop i bytes))) then mid first second → IsCompiled (OneByte set) mid entry second third → IsCompiled (InL (literal (drop j bytes))) then entry first third
word_step bytes i j b set then mid entry first second third e le isb is below cb ca =
    let front : drop j bytes ≡ b ∷ drop i bytes = drop-cons bytes j 0 (omega arith) ∙ ap (λ z. z ∷ drop (suc j) bytes) (sym isb) ∙ ap (λ n. b ∷ drop n bytes) (sym (add-one j) ∙ e) in
    is_same (Both (OneByte set) (InL (literal (drop i bytes)))) (InL (literal (drop j bytes))) then entry first third
    (λ w x. x.2 ∙ ap (λ z. z ++ x.1) (one_byte_forth set b is x.0 x.3) ∙ ap (λ z. (b ∷ []) ++ z) x.4 ∙ sym front)
    (λ w x. (b ∷ [], drop i bytes, x ∙ front, (b, is b ∙ eq-eqb b b refl, refl), refl))
    (is_both (OneByte set) (InL (literal (drop i bytes))) then mid entry first second third below cb ca)

-- parts in their order, from the last

pub in_order_step : (parts : List Syntax) (i j : ℕ) (x : Syntax) → j + 1 ≡ i → i ≤ length parts → x ≡ get_or parts j x → followed x (in_row (drop i parts)) ≡ in_row (drop j parts)
in_order_step parts i j x e le is =
    let front : drop j parts ≡ x ∷ drop i parts = drop-cons parts j x (omega arith) ∙ ap (λ z. z ∷ drop (suc j) parts) (sym is) ∙ ap (λ n. x ∷ drop n parts) (sym (add-one j) ∙ e) in
    sym (ap in_row front)

pub in_order_forth : (xs : List Syntax) (s : Syntax) (w : List ℕ) → InL (fold followed s xs) w → Both (InL s) (InAll xs) w
in_order_forth [] s w x = (w, [], sym (append-nil w), x, refl)
in_order_forth (y ∷ ys) s w x =
    let k = in_order_forth ys (followed s y) w x in
    (k.3.0, k.3.1 ++ k.1, k.2 ∙ ap (λ z. z ++ k.1) k.3.2 ∙ append_assoc k.3.0 k.3.1 k.1, k.3.3, (k.3.1, k.1, refl, k.3.4, k.4))

in_order_back : (xs : List Syntax) (s : Syntax) (w : List ℕ) → Both (InL s) (InAll xs) w → InL (fold followed s xs) w
in_order_back [] s w x = subst (InL s) (sym (x.2 ∙ ap (λ z. x.0 ++ z) x.4 ∙ append-nil x.0)) x.3
in_order_back (y ∷ ys) s w x = in_order_back ys (followed s y) w
    (x.0 ++ x.4.0, x.4.1, x.2 ∙ ap (λ z. x.0 ++ z) x.4.2 ∙ sym (append_assoc x.0 x.4.0 x.4.1), (x.0, x.4.0, refl, x.3, x.4.3), x.4.4)

pub in_order_done : (parts : List Syntax) (then entry : List ℕ) (old new : List Spot) → IsCompiled (InL (in_row parts)) then entry old new → IsCompiled (InL (sequence parts)) then entry old new
in_order_done parts then entry old new c = is_same (InL (in_row parts)) (InL (sequence parts)) then entry old new
    (λ w x. in_order_back parts empty w ([], w, refl, refl, x))
    (λ w x. let k = in_order_forth parts empty w x in subst (InAll parts) (sym (k.2 ∙ ap (λ z. z ++ k.1) k.3)) k.4) c

-- one of the parts, from the first

pub one_of_begin : (then : List ℕ) (net : List Spot) → IsCompiled (InL never) then [] net net
one_of_begin then net = is_none (InL never) then [] net (λ p. refl) (λ u q x h. x)

pub one_of_step : (parts : List Syntax) (i : ℕ) (x : Syntax) (then one two entry : List ℕ) (first second third : List Spot) → i < length parts → x ≡ get_or parts i x → Below then (length first) → ((p : ℕ) → has entry p ≡ (has one p || has two p)) → IsCompiled (InL (alternatives (take i parts))) then one first second → IsCompiled (InL x) then two second third → IsCompiled (InL (alternatives (take (i + 1) parts))) then entry first third
one_of_step parts i x then one two entry first second third lt is below has_is ca cb =
    let more : alternatives (take (i + 1) parts) ≡ either (alternatives (take i parts)) x =
    ap alternatives (take_more parts i x lt) ∙ fold-append either never (take i parts) (get_or parts i x ∷ []) ∙ ap (λ z. either (alternatives (take i parts)) z) (sym is) in
    subst (λ z. IsCompiled (InL z) then entry first third) (sym more) (is_either (InL (alternatives (take i parts))) (InL x) then one two entry first second third below has_is ca cb)

-- so many times

pub copies_more : (n : ℕ) (r rest : Syntax) → followed r (copies n r rest) ≡ copies (n + 1) r rest
copies_more n r rest = ap (λ k. copies k r rest) (sym (add-one n))

pub copies_forth : (n : ℕ) (r rest : Syntax) (w : List ℕ) → InL (copies n r rest) w → Both (Times n (InL r)) (InL rest) w
copies_forth zero r rest w x = ([], w, refl, refl, x)
copies_forth (suc n) r rest w x =
    let k = copies_forth n r rest x.1 x.4 in
    (x.0 ++ k.0, k.1, x.2 ∙ ap (λ z. x.0 ++ z) k.2 ∙ sym (append_assoc x.0 k.0 k.1), (x.0, k.0, refl, x.3, k.3), k.4)

pub copies_back : (n : ℕ) (r rest : Syntax) (w : List ℕ) → Both (Times n (InL r)) (InL rest) w → InL (copies n r rest) w
copies_back zero r rest w x = subst (InL rest) (sym (x.2 ∙ ap (λ z. z ++ x.1) x.3)) x.4
copies_back (suc n) r rest w x =
    let t = x.3 in
    (t.0, t.1 ++ x.1, x.2 ∙ ap (λ z. z ++ x.1) t.2 ∙ append_assoc t.0 t.1 x.1, t.3, copies_back n r rest (t.1 ++ x.1) (t.1, x.1, refl, t.4, x.4))

none : (A : List ℕ → Type 0) (n : ℕ) (w : List ℕ) → n ≤ 0 → Times n A w → w ≡ []
none A zero w le x = x
none A (suc n) w le x = absurd (omega arith)

pub up_to_begin : (r : Syntax) (then : ℕ) (entry begin : List ℕ) (net : List Spot) → IsChain empty then entry begin net net → IsChain (repeat 0 (Some 0) r) then entry begin net net
up_to_begin r then entry begin net c = chain_same empty (repeat 0 (Some 0) r) then entry begin net net
    (λ w e. (0, omega arith, omega arith, e))
    (λ w x. none (InL r) x.0 w x.2 x.3) c

fewer : (r : Syntax) (n k : ℕ) (w : List ℕ) → k ≤ n + 1 → Times k (InL r) w → InL (either (followed r (repeat 0 (Some n) r)) empty) w
fewer r n zero w le x = inr x
fewer r n (suc k) w le x = inl (x.0, x.1, x.2, x.3, (k, omega arith, omega arith, x.4))

pub up_to_step : (r : Syntax) (n then : ℕ) (entry begin all set : List ℕ) (first net : List Spot) → ((p : ℕ) → has all p ≡ (has entry p || (p == then))) → ((p : ℕ) → has set p ≡ (has begin p || (p == then))) → IsChain (followed r (repeat 0 (Some n) r)) then entry begin first net → IsChain (repeat 0 (Some (n + 1)) r) then all set first net
up_to_step r n then entry begin all set first net is begin_is c =
    chain_same (either (followed r (repeat 0 (Some n) r)) empty) (repeat 0 (Some (n + 1)) r) then all set first net
    (λ w x. elim x [ inl k ↦ (let le : k.4.0 ≤ n = k.4.2 in (suc k.4.0, omega arith, omega arith, (k.0, k.1, k.2, k.3, k.4.3))) | inr e ↦ (0, omega arith, omega arith, e) ])
    (λ w x. fewer r n x.0 w x.2 x.3)
    (chain_or (followed r (repeat 0 (Some n) r)) then entry begin all set first net is begin_is c)

pub times_join : (A : List ℕ → Type 0) (m n : ℕ) (u v : List ℕ) → Times m A u → Times n A v → Times (m + n) A (u ++ v)
times_join A zero n u v x y = let e : n ≡ 0 + n = omega arith in rw x (subst (λ k. Times k A v) e y)
times_join A (suc m) n u v x y =
    let e : suc (m + n) ≡ suc m + n = omega arith in
    let whole : Times (suc (m + n)) A (u ++ v) = (x.0, x.1 ++ v, ap (λ z. z ++ v) x.2 ∙ append_assoc x.0 x.1 v, x.3, times_join A m n x.1 v x.4 y) in
    subst (λ k. Times k A (u ++ v)) e whole

times_split : (A : List ℕ → Type 0) (m n : ℕ) (w : List ℕ) → Times (m + n) A w → Both (Times m A) (Times n A) w
times_split A zero n w x = let e : 0 + n ≡ n = omega arith in ([], w, refl, refl, subst (λ k. Times k A w) e x)
times_split A (suc m) n w x =
    let e : suc m + n ≡ suc (m + n) = omega arith in
    let y : Times (suc (m + n)) A w = subst (λ k. Times k A w) e x in
    let k = times_split A m n y.1 y.4 in
    (y.0 ++ k.0, k.1, y.2 ∙ ap (λ z. y.0 ++ z) k.2 ∙ sym (append_assoc y.0 k.0 k.1), (y.0, k.0, refl, y.3, k.3), k.4)

pub bounded_done : (r : Syntax) (least most then : ℕ) (entry : List ℕ) (first net : List Spot) → least ≤ most → IsCompiled (InL (copies least r (repeat 0 (Some (most - least)) r))) (then ∷ []) entry first net → IsCompiled (InL (repeat least (Some most) r)) (then ∷ []) entry first net
bounded_done r least most then entry first net le c =
    is_same (InL (copies least r (repeat 0 (Some (most - least)) r))) (InL (repeat least (Some most) r)) (then ∷ []) entry first net
    (λ w y. let x = copies_forth least r (repeat 0 (Some (most - least)) r) w y in let k : x.4.0 ≤ most - least = x.4.2 in
    (least + x.4.0, omega arith, omega arith, subst (Times (least + x.4.0) (InL r)) (sym x.2) (times_join (InL r) least x.4.0 x.0 x.1 x.3 x.4.3)))
    (λ w x. let low = x.1 in let high : x.0 ≤ most = x.2 in let is : x.0 ≡ least + (x.0 - least) = omega arith in
    let k = times_split (InL r) least (x.0 - least) w (subst (λ n. Times n (InL r) w) is x.3) in
    copies_back least r (repeat 0 (Some (most - least)) r) w (k.0, k.1, k.2, k.3, (x.0 - least, omega arith, omega arith, k.4)))
    c

pub bounds_none : (r : Syntax) (least most : ℕ) (then : List ℕ) (net : List Spot) → most < least → IsCompiled (InL (repeat least (Some most) r)) then [] net net
bounds_none r least most then net lt = is_none (InL (repeat least (Some most) r)) then [] net (λ p. refl) (λ u q x h. let low = x.1 in let high : x.0 ≤ most = x.2 in absurd (omega arith))

-- what stands behind the copies of a part that has no greatest number
abbrev pub many_syntax : Bool → Syntax → Syntax
many_syntax true r = repeat 0 None r
many_syntax false r = repeat 1 None r

pub many_chain : (r : Syntax) (may_miss : Bool) (then : ℕ) (entry begin : List ℕ) (first net : List Spot) → then < length first → begin ≡ entry → IsCompiled (Many may_miss (InL r)) (then ∷ []) entry first net → IsChain (many_syntax may_miss r) then entry begin first net
many_chain r true then entry begin first net lt e c = subst (λ z. IsChain (repeat 0 None r) then entry z first net) (sym e) (chain_of (repeat 0 None r) then entry first net lt
    (is_same (Star (InL r)) (InL (repeat 0 None r)) (then ∷ []) entry first net (λ w x. (x.0, omega arith, tt, x.1)) (λ w x. (x.0, x.3)) c))
many_chain r false then entry begin first net lt e c = subst (λ z. IsChain (repeat 1 None r) then entry z first net) (sym e) (chain_of (repeat 1 None r) then entry first net lt
    (is_same (Plus (InL r)) (InL (repeat 1 None r)) (then ∷ []) entry first net
    (λ w x. (suc x.0, omega arith, tt, x.1))
    (λ w x. let low = x.1 in let is : x.0 ≡ suc (x.0 - 1) = omega arith in (x.0 - 1, subst (λ n. Times n (InL r) w) is x.3)) c))

no_zero : (n : ℕ) → (suc n == 0) ≡ false
no_zero n = grind (arith, nat_tests)

pub unbounded_done : (r : Syntax) (least then : ℕ) (entry : List ℕ) (first net : List Spot) → IsCompiled (InL (copies (least - 1) r (many_syntax (least == 0) r))) (then ∷ []) entry first net → IsCompiled (InL (repeat least None r)) (then ∷ []) entry first net
unbounded_done r zero then entry first net c = c
unbounded_done r (suc least) then entry first net c =
    let d : IsCompiled (InL (copies least r (repeat 1 None r))) (then ∷ []) entry first net =
    subst (λ z. IsCompiled (InL (copies least r (many_syntax z r))) (then ∷ []) entry first net) (no_zero least) (subst (λ n. IsCompiled (InL (copies n r (many_syntax (suc least == 0) r))) (then ∷ []) entry first net) (omega arith) c) in
    is_same (InL (copies least r (repeat 1 None r))) (InL (repeat (suc least) None r)) (then ∷ []) entry first net
    (λ w y. let x = copies_forth least r (repeat 1 None r) w y in let low = x.4.1 in
    (least + x.4.0, omega arith, tt, subst (Times (least + x.4.0) (InL r)) (sym x.2) (times_join (InL r) least x.4.0 x.0 x.1 x.3 x.4.3)))
    (λ w x. let low = x.1 in let is : x.0 ≡ least + (x.0 - least) = omega arith in
    let k = times_split (InL r) least (x.0 - least) w (subst (λ n. Times n (InL r) w) is x.3) in
    copies_back least r (repeat 1 None r) w (k.0, k.1, k.2, k.3, (x.0 - least, omega arith, tt, k.4)))
    d

-- a repetition without a greatest number

same_or_not : (p a : ℕ) → (p ≡ a) ⊎ (p ≢ a)
same_or_not p a = elim (order p a) [
  | inl lt ↦ inr (λ e. absurd (omega arith))
  | inr ge ↦ elim ge [ inl e ↦ inl e | inr gt ↦ inr (λ e. absurd (omega arith)) ]
]

above : (p a n : ℕ) → a ≤ p → p ≢ a → n ≡ a + 1 → n ≤ p
above p a n le ne e = elim (order p a) [ inl lt ↦ omega arith | inr ge ↦ elim ge [ inl same ↦ absurd (ne same) | inr gt ↦ omega arith ] ]

many_kept : (second : List Spot) (a : ℕ) (s : Spot) (p : ℕ) → p ≢ a → at (set second a s) p ≡ at second p
many_kept second a s p ne = get_or-set_other second a p s spot.Nothing ne

byte_no_jump : (s : Spot) → is_byte s ≡ true → is_jump s ≡ true → ⊥
byte_no_jump (spot.Byte bytes next) b j = absurd (let q : false ≡ true = j in cc)
byte_no_jump (spot.Jump to) b j = absurd (let q : false ≡ true = b in cc)
byte_no_jump (spot.Goal token _) b j = absurd (let q : false ≡ true = b in cc)
byte_no_jump spot.Nothing b j = absurd (let q : false ≡ true = b in cc)

-- the automaton before the repetition, with a spot for its jump, with its body, and with the jump
pub record IsMany (A : List ℕ → Type 0) (then back entry : List ℕ) (jump : Vec ℕ) (a : ℕ) (first second third fourth : List Spot) : Type 0 where
  pub begins : a ≡ length first
  pub pushed : second ≡ first ++ spot.Nothing ∷ []
  pub body : IsCompiled A back entry second third
  pub put : fourth ≡ set third a (spot.Jump jump)
  pub below : Below then (length first)
  pub goes_on : (q : ℕ) × (has then q ≡ true)
  pub back_is : (p : ℕ) → has back p ≡ (p == a)
  pub to_is : (p : ℕ) → has jump.items p ≡ ((has entry p && not (p == a)) || has then p)

module _ {A : List ℕ → Type 0} {then back entry : List ℕ} {jump : Vec ℕ} {a : ℕ} {first second third fourth : List Spot} (m : IsMany A then back entry jump a first second third fourth) where
  long : length second ≡ a + 1
  long = ap length m.pushed ∙ length-append first (spot.Nothing ∷ []) ∙ ap (λ n. n + 1) (sym m.begins)

  longer : length fourth ≡ length third
  longer = ap length m.put ∙ length-set third a (spot.Jump jump)

  deep : a < length third
  deep = let g = m.body.grown in let l = long in omega arith

  at_jump : at fourth a ≡ spot.Jump jump
  at_jump = ap (λ z. at z a) m.put ∙ get_or-set_same third a (spot.Jump jump) spot.Nothing deep

  at_other : (p : ℕ) → p ≢ a → at fourth p ≡ at third p
  at_other p ne = ap (λ z. at z p) m.put ∙ many_kept third a (spot.Jump jump) p ne

  at_first : (p : ℕ) → p < length first → at third p ≡ at first p
  at_first p lt = let l = long in let b = m.begins in m.body.kept p (omega arith) ∙ ap (λ z. at z p) m.pushed ∙ get_or_append_left first (spot.Nothing ∷ []) spot.Nothing p lt

  looped : Looped A then entry back jump.items a (length fourth) fourth
  looped = record {
    below = subst (λ n. Below then n) (sym m.begins) m.below;
    goes_on = m.goes_on;
    order = let l = longer in let d = deep in omega arith;
    loop = subst (λ s. IsLoop jump.items s) (sym at_jump) (jump_loops jump);
    to_is = m.to_is;
    back_is = m.back_is;
    body = compiled_later A back entry (a + 1) (length fourth) third fourth (λ p le lt. at_other p (λ e. absurd (omega arith)))
        (subst (λ n. Compiled A back entry n (length fourth) third) long (subst (λ n. Compiled A back entry (length second) n third) (sym longer) m.body.compiled));
  }

  jump_cases : (q : ℕ) → has jump.items q ≡ true → (((a + 1 ≤ q) × (q < length third)) × (is_byte (at third q) ≡ true)) ⊎ (q < a)
  jump_cases q h = elim (either_true (has entry q && not (q == a)) (has then q) (sym (m.to_is q) ∙ h)) [
    | inr k ↦ inr (let lt = m.below q k in let b = m.begins in omega arith)
    | inl k ↦ (let two = both_true (has entry q) (not (q == a)) k in
        elim (m.body.compiled.spots q two.0) [
          | inl j ↦ absurd (not_both (sym (m.back_is q) ∙ j.0) (not_true (q == a) two.1))
          | inr j ↦ inl ((let l = long in let le = j.0 in omega arith, j.1), j.2)
        ])
  ]

  pub many_orderly : Orderly first → Orderly fourth
  many_orderly o =
      let o1 : Orderly second = subst Orderly (sym m.pushed) (orderly_pushed first spot.Nothing (λ b q h. absurd (let k : false ≡ true = h in cc)) (λ q h. absurd (let k : false ≡ true = h in cc)) o) in
      let o2 : Orderly third = m.body.orderly o1 in
      let l = longer in let d = deep in let begin = m.begins in
      record {
        next_within = λ p b q h. elim (same_or_not p a) [
          | inl e ↦ absurd (let k : false ≡ true = sym (ap (λ z. moves z b q) (ap (at fourth) e ∙ at_jump)) ∙ h in cc)
          | inr ne ↦ (let k = o2.next_within p b q (subst (λ z. moves z b q ≡ true) (at_other p ne) h) in omega arith)
        ];
        jump_within = λ p q h. elim (same_or_not p a) [
          | inl e ↦ elim (jump_cases q (subst (λ z. jumps z q ≡ true) (ap (at fourth) e ∙ at_jump) h)) [
            | inl k ↦ (let lt = k.0.1 in omega arith)
            | inr k ↦ omega arith
          ]
          | inr ne ↦ (let k = o2.jump_within p q (subst (λ z. jumps z q ≡ true) (at_other p ne) h) in omega arith)
        ];
        earlier = λ p q h i. elim (same_or_not p a) [
          | inl e ↦ elim (jump_cases q (subst (λ z. jumps z q ≡ true) (ap (at fourth) e ∙ at_jump) h)) [
            | inl k ↦ absurd (byte_no_jump (at third q) k.1 (subst (λ z. is_jump z ≡ true) (at_other q (λ x. absurd (let le = k.0.0 in omega arith))) i))
            | inr k ↦ omega arith
          ]
          | inr ne ↦ (let j = subst (λ z. jumps z q ≡ true) (at_other p ne) h in
              elim (same_or_not q a) [
                | inr other ↦ o2.earlier p q j (subst (λ z. is_jump z ≡ true) (at_other q other) i)
                | inl e ↦ elim (order p a) [
                  | inl lt ↦ (let k = o.jump_within p q (subst (λ z. jumps z q ≡ true) (at_first p (omega arith)) j) in absurd (omega arith))
                  | inr ge ↦ elim ge [ inl same ↦ absurd (ne same) | inr gt ↦ omega arith ]
                ]
              ])
        ];
      }

  pub many_kept_first : (p : ℕ) → p < length first → at fourth p ≡ at first p
  many_kept_first p lt = let b = m.begins in at_other p (λ e. absurd (omega arith)) ∙ at_first p lt

  pub many_begin : (may_miss : Bool) (begin : List ℕ) → ((may_miss || has entry a) ≡ true → begin ≡ jump.items) → ((may_miss || has entry a) ≡ false → begin ≡ entry) → Compiled (Many may_miss A) then begin (length first) (length fourth) fourth
  many_begin true begin wide narrow = subst (λ z. Compiled (Star A) then begin z (length fourth) fourth) m.begins (subst (λ z. Compiled (Star A) then z a (length fourth) fourth) (sym (wide refl)) (compiled_star looped))
  many_begin false begin wide narrow = elim (true_or_false (has entry a)) [
    | inl t ↦ subst (λ z. Compiled (Plus A) then begin z (length fourth) fourth) m.begins (subst (λ z. Compiled (Plus A) then z a (length fourth) fourth) (sym (wide t)) (compiled_plus_empty looped t))
    | inr f ↦ subst (λ z. Compiled (Plus A) then begin z (length fourth) fourth) m.begins (subst (λ z. Compiled (Plus A) then z a (length fourth) fourth) (sym (narrow f)) (compiled_plus looped f))
  ]

  pub many_done : (may_miss : Bool) (begin : List ℕ) → ((may_miss || has entry a) ≡ true → begin ≡ jump.items) → ((may_miss || has entry a) ≡ false → begin ≡ entry) → IsCompiled (Many may_miss A) then begin first fourth
  many_done may_miss begin wide narrow =
      let c = many_begin may_miss begin wide narrow in
      let le : length first ≤ length fourth = let l = longer in let d = deep in let b = m.begins in omega arith in
      record {
        grown = le;
        kept = many_kept_first;
        compiled = c;
        orderly = many_orderly;
        below = entry_below (Many may_miss A) then begin (length first) (length fourth) fourth le m.below c;
        no_goal = λ p from g. elim (same_or_not p a) [
          | inl e ↦ absurd (let k : false ≡ true = sym (ap is_goal (ap (at fourth) e ∙ at_jump)) ∙ g in cc)
          | inr ne ↦ m.body.no_goal p (let l = long in let b = m.begins in above p a (length second) (omega arith) ne l) (ap is_goal (sym (at_other p ne)) ∙ g)
        ];
      }

-- sizes

grows_followed : (xs : List Syntax) (a : Syntax) → syntax_size a ≤ syntax_size (fold followed a xs)
grows_followed [] a = omega arith
grows_followed (x ∷ xs) a = omega (arith, grows_followed xs (followed a x))

within_followed : (xs : List Syntax) (a : Syntax) (i : ℕ) (d : Syntax) → i < length xs → syntax_size (get_or xs i d) + 1 ≤ syntax_size (fold followed a xs)
within_followed [] a i d lt = absurd (omega arith)
within_followed (x ∷ xs) a zero d lt = omega (arith, grows_followed xs (followed a x))
within_followed (x ∷ xs) a (suc i) d lt = within_followed xs (followed a x) i d (omega arith)

grows_either : (xs : List Syntax) (a : Syntax) → syntax_size a ≤ syntax_size (fold either a xs)
grows_either [] a = omega arith
grows_either (x ∷ xs) a = omega (arith, grows_either xs (either a x))

within_either : (xs : List Syntax) (a : Syntax) (i : ℕ) (d : Syntax) → i < length xs → syntax_size (get_or xs i d) + 1 ≤ syntax_size (fold either a xs)
within_either [] a i d lt = absurd (omega arith)
within_either (x ∷ xs) a zero d lt = omega (arith, grows_either xs (either a x))
within_either (x ∷ xs) a (suc i) d lt = within_either xs (either a x) i d (omega arith)

pub in_order_size : (xs : List Syntax) (i : ℕ) (x : Syntax) → i < length xs → x ≡ get_or xs i x → syntax_size x + 1 ≤ syntax_size (sequence xs)
in_order_size xs i x lt is = subst (λ z. syntax_size z + 1 ≤ syntax_size (sequence xs)) (sym is) (within_followed xs empty i x lt)

pub one_of_size : (xs : List Syntax) (i : ℕ) (x : Syntax) → i < length xs → x ≡ get_or xs i x → syntax_size x + 1 ≤ syntax_size (alternatives xs)
one_of_size xs i x lt is = subst (λ z. syntax_size z + 1 ≤ syntax_size (alternatives xs)) (sym is) (within_either xs never i x lt)
