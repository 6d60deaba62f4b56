-- A table that passes the test is sound.
use Rattle.std.proofs.Common.{◌≡◌, ℕ, zero, suc, ◌<◌, min, List, [], ◌∷◌, length, cond, Bool, true, false, not, ◌&&◌, ◌||◌, refl, sym, ◌∙◌, ap, subst, inl, inr, arith, get_or}
use Rattle.std.specs.Prelude.{◌==◌, bit_or, bit_and, nat_lt}
use Rattle.std.specs.Int.{bit_at}
use Rattle.std.proofs.lemmas.Nat.Bits.{bit_at_and, bit_at-zero, bit_at-lt}
use Rattle.std.proofs.lemmas.Bool.{eqb-true, ltb-true, and_parts, cond-true, cond-false, eq-eqb, ne_eqb, eqb-false, cases_lt}
use Rattle.std.proofs.lemmas.List.{get_or_past}
use Rattle.sp_parser.specs.declared.symbol.Symbol.{Symbol}
use Rattle.sp_parser.specs.declared.symbol.Symbol.TheVariants.{Terminal, Nonterminal, Action}
use Rattle.sp_parser.specs.Grammar.{Table, Production, no_production, chosen, productions_of, production_of, right, predict, SECOND, CLOSE}
use Rattle.sp_parser.specs.Certificate.{Certificate, Has, first_of, follow_of, nullable_of, weight_of, best_of, height_of, firsts, nullables, followed, steps_of, within, lower, AreListed, Productive, IsCertified}
use Rattle.sp_parser.specs.Test.{known, production_test, productions_test, nonterminal_test, all_below, table_test}
use Rattle.sp_parser.proofs.Looks.{within_has, or_has, or_left, or_right}

are_listed : (f : Certificate) (ss : List Symbol) → known f ss ≡ true → AreListed f ss
are_listed f [] t = tt
are_listed f (Terminal e ∷ ss) t = let x = and_parts (nat_lt e SECOND || (e == CLOSE)) (known f ss) t in (x.0, are_listed f ss x.1)
are_listed f (Action m ∷ ss) t = are_listed f ss t
are_listed f (Nonterminal n ∷ ss) t = let x = and_parts (nat_lt n (length f.height)) (known f ss) t in (ltb-true n (length f.height) x.0, are_listed f ss x.1)

min_one : (x y : ℕ) → x ≡ 1 → y ≡ 1 → min x y ≡ 1
min_one x y a b = omega arith

apart : (a b k : ℕ) → (bit_and a b == 0) ≡ true → Has a k → Has b k → ⊥
apart a b k t x y =
    let e : bit_and a b ≡ 0 = eqb-true (bit_and a b) 0 t in
    let z : bit_at (bit_and a b) k ≡ 0 = ap (λ s. bit_at s k) e ∙ bit_at-zero k in
    let o : bit_at (bit_and a b) k ≡ 1 = bit_at_and a b k ∙ min_one (bit_at a k) (bit_at b k) x y in
    let q : ◌≡◌ {A = ℕ} 0 1 = sym z ∙ o in cc

not_in : (a k : ℕ) → (Has a k → ⊥) → bit_at a k ≡ 0
not_in a k n = below (bit_at a k) (bit_at-lt a k) n
  where
    below : (b : ℕ) → b < 2 → (b ≡ 1 → ⊥) → b ≡ 0
    below b h m = grind arith

implied : (a b : Bool) → (not a || b) ≡ true → a ≡ true → b ≡ true
implied true b t e = t
implied false b t e = cc

pub record RuleFacts (f : Certificate) (n seen : ℕ) (r : Production) : Type 0 where
  pub first : within (firsts f 0 r.symbols) (first_of f n) ≡ true
  pub nullable : nullables f r.symbols ≡ true → nullable_of f n ≡ true
  pub after : followed f (follow_of f n) r.symbols ≡ true
  pub less : steps_of f 0 r.symbols < weight_of f n
  pub select : within (firsts f (follow_of f n) r.symbols) (bit_or r.avoid r.select) ≡ true
  pub avoid : (bit_and r.select r.avoid == 0) ≡ true
  pub fresh : (bit_and r.select seen == 0) ≡ true
  pub listed : AreListed f r.symbols

production_facts : (f : Certificate) (n seen : ℕ) (r : Production) → production_test f n seen r ≡ true → RuleFacts f n seen r
production_facts f n seen r t =
    let a = within (firsts f 0 r.symbols) (first_of f n) in
    let b = not (nullables f r.symbols) || nullable_of f n in
    let c = followed f (follow_of f n) r.symbols in
    let d = nat_lt (steps_of f 0 r.symbols) (weight_of f n) in
    let e = within (firsts f (follow_of f n) r.symbols) (bit_or r.avoid r.select) in
    let h = bit_and r.select r.avoid == 0 in
    let i = bit_and r.select seen == 0 in
    let k = known f r.symbols in
    let x = and_parts (((a && b) && (c && d)) && (e && h)) (i && k) t in
    let y = and_parts ((a && b) && (c && d)) (e && h) x.0 in
    let z = and_parts (a && b) (c && d) y.0 in
    let ab = and_parts a b z.0 in let cd = and_parts c d z.1 in let eh = and_parts e h y.1 in let ik = and_parts i k x.1 in
    record {
      first = ab.0;
      nullable = implied (nullables f r.symbols) (nullable_of f n) ab.1;
      after = cd.0;
      less = ltb-true (steps_of f 0 r.symbols) (weight_of f n) cd.1;
      select = eh.0;
      avoid = eh.1;
      fresh = ik.0;
      listed = are_listed f r.symbols ik.1;
    }

-- what of the production at p, with those before it
productions_facts : (f : Certificate) (n seen : ℕ) (rs : List Production) (p : ℕ) → productions_test f n seen rs ≡ true → p < length rs → (s : ℕ) × RuleFacts f n s (get_or rs p no_production) × ((k : ℕ) → Has seen k → Has s k)
productions_facts f n seen [] p t h = absurd (omega arith)
productions_facts f n seen (r ∷ rs) zero t h = (seen, production_facts f n seen r (and_parts (production_test f n seen r) (productions_test f n (bit_or seen r.select) rs) t).0, λ k x. x)
productions_facts f n seen (r ∷ rs) (suc p) t h =
    let y = productions_facts f n (bit_or seen r.select) rs p (and_parts (production_test f n seen r) (productions_test f n (bit_or seen r.select) rs) t).1 (omega arith) in
    (y.0, y.1, λ k x. y.2 k (or_left seen r.select k x))

is_selected : (f : Certificate) (n s k : ℕ) (r : Production) → RuleFacts f n s r → Has (firsts f (follow_of f n) r.symbols) k → bit_at r.avoid k ≡ 0 → Has r.select k
is_selected f n s k r x h a =
    elim (or_has r.avoid r.select k (within_has (firsts f (follow_of f n) r.symbols) (bit_or r.avoid r.select) k x.select h))
    [ inl y ↦ absurd (let q : 0 ≡ 1 = sym a ∙ y in cc) | inr y ↦ y ]

chosen_at : (f : Certificate) (n seen k : ℕ) (rs : List Production) (p : ℕ) → productions_test f n seen rs ≡ true → p < length rs → Has (get_or rs p no_production).select k → chosen rs k ≡ p
chosen_at f n seen k [] p t h x = absurd (omega arith)
chosen_at f n seen k (r ∷ rs) zero t h x = cond-true (bit_at r.select k == 1) 0 (suc (chosen rs k)) (eq-eqb (bit_at r.select k) 1 x)
chosen_at f n seen k (r ∷ rs) (suc p) t h x =
    let u = (and_parts (production_test f n seen r) (productions_test f n (bit_or seen r.select) rs) t).1 in
    let y = productions_facts f n (bit_or seen r.select) rs p u (omega arith) in
    cond-false (bit_at r.select k == 1) 0 (suc (chosen rs k)) (ne_eqb (bit_at r.select k) 1 (λ e. apart (get_or rs p no_production).select y.0 k y.1.fresh x (y.2 k (or_right seen r.select k e))))
    ∙ ap suc (chosen_at f n (bit_or seen r.select) k rs p u (omega arith) x)

chosen_has : (k : ℕ) (rs : List Production) → chosen rs k < length rs → Has (get_or rs (chosen rs k) no_production).select k
chosen_has k [] h = absurd (omega arith)
chosen_has k (r ∷ rs) h = go (bit_at r.select k == 1) refl (chosen_has k rs) h
  where
    go : (b : Bool) → (bit_at r.select k == 1) ≡ b → (chosen rs k < length rs → Has (get_or rs (chosen rs k) no_production).select k) → cond b 0 (suc (chosen rs k)) < suc (length rs) → Has (get_or (r ∷ rs) (cond b 0 (suc (chosen rs k))) no_production).select k
    go true e ih l = eqb-true (bit_at r.select k) 1 e
    go false e ih l = ih (omega arith)

below_case : (p : ℕ → Bool) (m n : ℕ) (b : Bool) → (n == m) ≡ b → n < suc m → p m ≡ true → (n < m → p n ≡ true) → p n ≡ true
below_case p m n true e h x y = ap p (eqb-true n m e) ∙ x
below_case p m n false e h x y = y (not_last n m h (eqb-false n m e))
  where
    not_last : (a c : ℕ) → a < suc c → (a ≡ c → ⊥) → a < c
    not_last a c l d = grind arith

all_below_at : (p : ℕ → Bool) (m n : ℕ) → all_below p m ≡ true → n < m → p n ≡ true
all_below_at p zero n t h = absurd (omega arith)
all_below_at p (suc m) n t h = let x = and_parts (p m) (all_below p m) t in below_case p m n (n == m) refl h x.0 (all_below_at p m n x.1)

in_table : (g : Table) (n p : ℕ) → p < length (productions_of g n) → n < length g.productions
in_table g n p h = elim (cases_lt n (length g.productions)) [ inl x ↦ x | inr y ↦ absurd (let e : length (productions_of g n) ≡ 0 = ap length (get_or_past g.productions n [] y) in omega (arith, h, e)) ]

part_at : (g : Table) (f : Certificate) (n : ℕ) → table_test g f ≡ true → n < length g.productions → nonterminal_test g f n ≡ true
part_at g f n t h = all_below_at (nonterminal_test g f) (length g.productions) n (and_parts (length f.height == length g.productions) (all_below (nonterminal_test g f) (length g.productions)) t).1 h

part_productions : (g : Table) (f : Certificate) (n : ℕ) → nonterminal_test g f n ≡ true → productions_test f n 0 (productions_of g n) ≡ true
part_productions g f n t =
    let a = productions_test f n 0 (productions_of g n) in
    let b = nat_lt (best_of f n) (length (productions_of g n)) && ((production_of g n (best_of f n)).avoid == 0) in
    (and_parts a b (and_parts (a && b) (lower f (height_of f n) (right g n (best_of f n))) t).0).0

part_productive : (g : Table) (f : Certificate) (n : ℕ) → nonterminal_test g f n ≡ true → Productive g f n
part_productive g f n t =
    let a = productions_test f n 0 (productions_of g n) in
    let c = nat_lt (best_of f n) (length (productions_of g n)) in
    let d = (production_of g n (best_of f n)).avoid == 0 in
    let x = and_parts (a && (c && d)) (lower f (height_of f n) (right g n (best_of f n))) t in
    let y = and_parts c d (and_parts a (c && d) x.0).1 in
    record { below = ltb-true (best_of f n) (length (productions_of g n)) y.0; free = eqb-true (production_of g n (best_of f n)).avoid 0 y.1; lower = x.1 }

pub certified_by_test : (g : Table) (f : Certificate) → table_test g f ≡ true → IsCertified g f
certified_by_test g f t =
    let productions : (n p : ℕ) → p < length (productions_of g n) → productions_test f n 0 (productions_of g n) ≡ true = λ n p h. part_productions g f n (part_at g f n t (in_table g n p h)) in
    let certificate : (n p : ℕ) → p < length (productions_of g n) → (s : ℕ) × RuleFacts f n s (production_of g n p) × ((k : ℕ) → Has 0 k → Has s k) = λ n p h. productions_facts f n 0 (productions_of g n) p (productions n p h) h in
    record {
      first = λ n p k h x. within_has (firsts f 0 (right g n p)) (first_of f n) k (certificate n p h).1.first x;
      nullable = λ n p h. (certificate n p h).1.nullable;
      after = λ n p h. (certificate n p h).1.after;
      less = λ n p h. (certificate n p h).1.less;
      predicted = λ n p k h x a. chosen_at f n 0 k (productions_of g n) p (productions n p h) h (is_selected f n (certificate n p h).0 k (production_of g n p) (certificate n p h).1 x a);
      free = λ n k h. not_in (production_of g n (predict g n k)).avoid k (λ x. apart (production_of g n (predict g n k)).select (production_of g n (predict g n k)).avoid k (certificate n (predict g n k) h).1.avoid (chosen_has k (productions_of g n) h) x);
      listed = λ n p h. (certificate n p h).1.listed;
      productive = λ n h. part_productive g f n (part_at g f n t (subst (λ m. n < m) (eqb-true (length f.height) (length g.productions) (and_parts (length f.height == length g.productions) (all_below (nonterminal_test g f) (length g.productions)) t).0) h));
    }
