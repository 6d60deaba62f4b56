-- Reading by trees and leftmost derivations are the same, and what follows where each alternative of a part keeps a meaning.
use Rattle.std.proofs.Common.{◌≡◌, ℕ, zero, suc, ◌<◌, List, [], ◌∷◌, ◌++◌, length, Bool, true, false, ◌&&◌, ◌||◌, refl, sym, ◌∙◌, ap, subst, inl, inr, arith}
use Rattle.std.specs.Prelude.{◌==◌}
use Rattle.std.specs.Int.{bit_at}
use Rattle.std.proofs.lemmas.Bool.{eqb-true, and_parts, or_cases, cases_lt}
use Rattle.std.proofs.lemmas.List.{get_or_past}
use Rattle.sp_parser.specs.declared.symbol.Symbol.{Symbol}
use Rattle.sp_parser.specs.declared.symbol.Symbol.TheVariants.{Terminal, Nonterminal, Action}
use Rattle.sp_parser.specs.declared.symbol.ActionAt.{ActionAt}
use Rattle.sp_parser.specs.Grammar.{Table, Production, productions_of, production_of, at_production, right, ahead, takes, First, All, Applies, action_at, SECOND, Derivation, Derives}
use Rattle.sp_parser.specs.Grammar as derivation
use Rattle.sp_grammar.specs.Reads.{Reads, nothing, whole, half, action, part, IsRead}

pub append : {g : Table} {i m j : ℕ} {xs ys : List Symbol} {w u v : List ℕ} {ρ σ τ : List ActionAt} → Reads g xs i w ρ m u σ → Reads g ys m u σ j v τ → Reads g (xs ++ ys) i w ρ j v τ
append nothing k = k
append (whole t r) k = whole t (append r k)
append (half t r) k = half t (append r k)
append (action r) k = action (append r k)
append (part p a r s) k = part p a r (append s k)

pub split_reads : {g : Table} {i j : ℕ} {w v : List ℕ} {ρ τ : List ActionAt} (xs ys : List Symbol) → Reads g (xs ++ ys) i w ρ j v τ → (m : ℕ) × (u : List ℕ) × (σ : List ActionAt) × Reads g xs i w ρ m u σ × Reads g ys m u σ j v τ
split_reads {i = i} {w = w} {ρ = ρ} [] ys r = (i, w, ρ, nothing, r)
split_reads (Terminal e ∷ xs) ys (whole t r) = let a = split_reads xs ys r in (a.0, a.1, a.2, whole t a.3, a.4)
split_reads (Terminal e ∷ xs) ys (half t r) = let a = split_reads xs ys r in (a.0, a.1, a.2, half t a.3, a.4)
split_reads (Action m ∷ xs) ys (action r) = let a = split_reads xs ys r in (a.0, a.1, a.2, action a.3, a.4)
split_reads (Nonterminal n ∷ xs) ys (part p b r s) = let a = split_reads xs ys s in (a.0, a.1, a.2, part p b r a.3, a.4)

pub derives_read : {g : Table} {i j : ℕ} {xs ys : List Symbol} {w v : List ℕ} {ρ τ : List ActionAt} → Reads g xs i w ρ j v τ → Derivation g j ys v τ → Derivation g i (xs ++ ys) w ρ
derives_read nothing k = k
derives_read (whole t r) k = derivation.whole t (derives_read r k)
derives_read (half t r) k = derivation.half t (derives_read r k)
derives_read (action r) k = derivation.action (derives_read r k)
derives_read (part p a r s) k = derivation.expand p a (derives_read r (derives_read s k))

pub reads_derived : {g : Table} {i : ℕ} {ss : List Symbol} {w : List ℕ} {τ : List ActionAt} → Derivation g i ss w τ → (j : ℕ) × Reads g ss i w τ j [] []
reads_derived (derivation.done {i = i}) = (i, nothing)
reads_derived (derivation.whole t r) = let a = reads_derived r in (a.0, whole t a.1)
reads_derived (derivation.half t r) = let a = reads_derived r in (a.0, half t a.1)
reads_derived (derivation.action r) = let a = reads_derived r in (a.0, action a.1)
reads_derived {g = g} (derivation.expand {n = n} {ss = ss} p a r) =
    let b = reads_derived r in let c = split_reads (right g n p) ss b.1 in (b.0, part p a c.3 c.4)

pub derived_if_read : (g : Table) (n : ℕ) (w : List ℕ) (τ : List ActionAt) → IsRead g n w τ → Derives g n w τ
derived_if_read g n w τ r = derives_read r.1 derivation.done

pub read_if_derived : (g : Table) (n : ℕ) (w : List ℕ) (τ : List ActionAt) → Derives g n w τ → IsRead g n w τ
read_if_derived g n w τ d = reads_derived d

-- from a place with kinds and actions to another
abbrev pub Span : Type 1
Span = ℕ → List ℕ → List ActionAt → ℕ → List ℕ → List ActionAt → Type 0

-- the symbols, with a meaning for each part
pub data Through (M : ℕ → Span) : List Symbol → ℕ → List ℕ → List ActionAt → ℕ → List ℕ → List ActionAt → Type 0 where
  nothing' : {i : ℕ} {w : List ℕ} {ρ : List ActionAt} → Through M [] i w ρ i w ρ
  whole' : {i j e k : ℕ} {ss : List Symbol} {w v : List ℕ} {ρ τ : List ActionAt} → takes e k ≡ All → Through M ss (suc i) w ρ j v τ → Through M (Terminal e ∷ ss) i (k ∷ w) ρ j v τ
  half' : {i j e k : ℕ} {ss : List Symbol} {w v : List ℕ} {ρ τ : List ActionAt} → takes e k ≡ First → Through M ss i (SECOND ∷ w) ρ j v τ → Through M (Terminal e ∷ ss) i (k ∷ w) ρ j v τ
  action' : {i j m : ℕ} {ss : List Symbol} {w v : List ℕ} {ρ τ : List ActionAt} → Through M ss i w ρ j v τ → Through M (Action m ∷ ss) i w (action_at m i ∷ ρ) j v τ
  part' : {i m j n : ℕ} {ss : List Symbol} {w u v : List ℕ} {ρ σ τ : List ActionAt} → M n i w ρ m u σ → Through M ss m u σ j v τ → Through M (Nonterminal n ∷ ss) i w ρ j v τ

pub through : (g : Table) (M : ℕ → Span) → ((n p i j : ℕ) (w v : List ℕ) (ρ τ : List ActionAt) → Applies g n p w → Through M (right g n p) i w ρ j v τ → M n i w ρ j v τ) → {i j : ℕ} {ss : List Symbol} {w v : List ℕ} {ρ τ : List ActionAt} → Reads g ss i w ρ j v τ → Through M ss i w ρ j v τ
through g M l nothing = nothing'
through g M l (whole t r) = whole' t (through g M l r)
through g M l (half t r) = half' t (through g M l r)
through g M l (action r) = action' (through g M l r)
through g M l (part {i = i} {m = m} {n = n} {w = w} {u = u} {ρ = ρ} {σ = σ} p a r s) = part' (l n p i m w u ρ σ a (through g M l r)) (through g M l s)

pub split : (M : ℕ → Span) {i j : ℕ} {w v : List ℕ} {ρ τ : List ActionAt} (xs ys : List Symbol) → Through M (xs ++ ys) i w ρ j v τ → (m : ℕ) × (u : List ℕ) × (σ : List ActionAt) × Through M xs i w ρ m u σ × Through M ys m u σ j v τ
split M {i = i} {w = w} {ρ = ρ} [] ys r = (i, w, ρ, nothing', r)
split M (Terminal e ∷ xs) ys (whole' t r) = let a = split M xs ys r in (a.0, a.1, a.2, whole' t a.3, a.4)
split M (Terminal e ∷ xs) ys (half' t r) = let a = split M xs ys r in (a.0, a.1, a.2, half' t a.3, a.4)
split M (Action m ∷ xs) ys (action' r) = let a = split M xs ys r in (a.0, a.1, a.2, action' a.3, a.4)
split M (Nonterminal n ∷ xs) ys (part' x s) = let a = split M xs ys s in (a.0, a.1, a.2, part' x a.3, a.4)

-- every part among the symbols passes the test
abbrev pub every_part : (ℕ → Bool) → List Symbol → Bool
every_part ok [] = true
every_part ok (Terminal e ∷ ss) = every_part ok ss
every_part ok (Action m ∷ ss) = every_part ok ss
every_part ok (Nonterminal n ∷ ss) = ok n && every_part ok ss

pub reads_through : (g : Table) (M : ℕ → Span) (ok : ℕ → Bool) → ((n i j : ℕ) (w v : List ℕ) (ρ τ : List ActionAt) → ok n ≡ true → M n i w ρ j v τ → Reads g (Nonterminal n ∷ []) i w ρ j v τ) → {i j : ℕ} {ss : List Symbol} {w v : List ℕ} {ρ τ : List ActionAt} → every_part ok ss ≡ true → Through M ss i w ρ j v τ → Reads g ss i w ρ j v τ
reads_through g M ok c h nothing' = nothing
reads_through g M ok c h (whole' t r) = whole t (reads_through g M ok c h r)
reads_through g M ok c h (half' t r) = half t (reads_through g M ok c h r)
reads_through g M ok c h (action' r) = action (reads_through g M ok c h r)
reads_through g M ok c h (part' {i = i} {m = m} {n = n} {ss = ss} {w = w} {u = u} {ρ = ρ} {σ = σ} x s) =
    let b = and_parts (ok n) (every_part ok ss) h in append (c n i m w u ρ σ b.0 x) (reads_through g M ok c b.1 s)

abbrev pub same_symbol : Symbol → Symbol → Bool
same_symbol (Terminal a) (Terminal b) = a == b
same_symbol (Nonterminal a) (Nonterminal b) = a == b
same_symbol (Action a) (Action b) = a == b
same_symbol _ _ = false

symbols_equal : (x y : Symbol) → same_symbol x y ≡ true → x ≡ y
symbols_equal (Terminal a) (Terminal b) h = ap (λ n. Terminal n) (eqb-true a b h)
symbols_equal (Nonterminal a) (Nonterminal b) h = ap (λ n. Nonterminal n) (eqb-true a b h)
symbols_equal (Action a) (Action b) h = ap (λ n. Action n) (eqb-true a b h)
symbols_equal (Terminal a) (Nonterminal b) h = cc
symbols_equal (Terminal a) (Action b) h = cc
symbols_equal (Nonterminal a) (Terminal b) h = cc
symbols_equal (Nonterminal a) (Action b) h = cc
symbols_equal (Action a) (Terminal b) h = cc
symbols_equal (Action a) (Nonterminal b) h = cc

abbrev pub same : List Symbol → List Symbol → Bool
same [] [] = true
same (x ∷ xs) (y ∷ ys) = same_symbol x y && same xs ys
same _ _ = false

pub same_equal : (xs ys : List Symbol) → same xs ys ≡ true → xs ≡ ys
same_equal [] [] h = refl
same_equal [] (y ∷ ys) h = cc
same_equal (x ∷ xs) [] h = cc
same_equal (x ∷ xs) (y ∷ ys) h =
    let b = and_parts (same_symbol x y) (same xs ys) h in ap (λ z. z ∷ xs) (symbols_equal x y b.0) ∙ ap (λ zs. y ∷ zs) (same_equal xs ys b.1)

-- one of the productions has this right side, and is avoided before these kinds
abbrev pub has : List Production → List Symbol → ℕ → Bool
has [] ss a = false
has (r ∷ rs) ss a = (same r.symbols ss && r.avoid == a) || has rs ss a

has_one : (rs : List Production) (ss : List Symbol) (a : ℕ) → has rs ss a ≡ true → (p : ℕ) × (p < length rs) × ((at_production rs p).symbols ≡ ss) × ((at_production rs p).avoid ≡ a)
has_one [] ss a h = cc
has_one (r ∷ rs) ss a h = elim (or_cases (same r.symbols ss && r.avoid == a) (has rs ss a) h) [
  | inl x ↦ let b = and_parts (same r.symbols ss) (r.avoid == a) x in (0, omega arith, same_equal r.symbols ss b.0, eqb-true r.avoid a b.1)
  | inr y ↦ let b = has_one rs ss a y in (suc b.0, omega (arith, b.1), b.2, b.3)
]

pub by_one : (g : Table) (n : ℕ) (ss : List Symbol) (a : ℕ) → has (productions_of g n) ss a ≡ true → {i j : ℕ} {w v : List ℕ} {ρ τ : List ActionAt} → bit_at a (ahead w) ≡ 0 → Reads g ss i w ρ j v τ → Reads g (Nonterminal n ∷ []) i w ρ j v τ
by_one g n ss a h {i = i} {j = j} {w = w} {v = v} {ρ = ρ} {τ = τ} z r =
    let b = has_one (productions_of g n) ss a h in
    part b.0 (record { below = b.1; allowed = subst (λ c. bit_at c (ahead w) ≡ 0) (sym b.3) z }) (subst (λ xs. Reads g xs i w ρ j v τ) (sym b.2) r) nothing

-- a test of all numbers below this
abbrev pub below : (ℕ → Bool) → ℕ → Bool
below f zero = true
below f (suc n) = f n && below f n

pub below_all : (f : ℕ → Bool) (n k : ℕ) → below f n ≡ true → k < n → f k ≡ true
below_all f zero k h l = absurd (omega arith)
below_all f (suc n) k h l = let b = and_parts (f n) (below f n) h in elim (cases_lt k n) [ inl a ↦ below_all f n k b.1 a | inr a ↦ let e : n ≡ k = omega arith in subst (λ m. f m ≡ true) e b.0 ]

-- every production of a table passes the test
abbrev pub every_production : Table → (ℕ → Production → Bool) → Bool
every_production g f = below (λ n. below (λ p. f n (production_of g n p)) (length (productions_of g n))) (length g.productions)

pub one_production : (g : Table) (f : ℕ → Production → Bool) (n p : ℕ) → every_production g f ≡ true → p < length (productions_of g n) → f n (production_of g n p) ≡ true
one_production g f n p t h =
    let in_table : n < length g.productions = elim (cases_lt n (length g.productions)) [ inl x ↦ x | inr y ↦ absurd (let e : length (productions_of g n) ≡ 0 = ap length (get_or_past g.productions n [] y) in omega (arith, h, e)) ] in
    below_all (λ p. f n (production_of g n p)) (length (productions_of g n)) p (below_all (λ n. below (λ p. f n (production_of g n p)) (length (productions_of g n))) (length g.productions) n t in_table) h
