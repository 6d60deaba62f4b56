-- Tails read what left recursion reads, and ends that are split off what whole alternatives read: a test of two tables under
-- which each reads what the other does.
use Rattle.std.proofs.Common.{◌≡◌, ℕ, zero, suc, ◌<◌, List, [], ◌∷◌, ◌++◌, length, get_or, Bool, true, false, ◌&&◌, ◌||◌, refl, sym, subst, inl, inr, arith}
use Rattle.std.specs.Prelude.{◌==◌}
use Rattle.std.specs.Int.{bit_at}
use Rattle.std.proofs.lemmas.Bool.{eqb-true, and_parts, or_cases}
use Rattle.std.proofs.lemmas.List.{append_assoc}
use Rattle.std.proofs.lemmas.Nat.Bits.{bit_at-zero}
use Rattle.sp_parser.specs.declared.symbol.Symbol.{Symbol}
use Rattle.sp_parser.specs.declared.symbol.Symbol.TheVariants.{Terminal, Nonterminal, Action}
use Rattle.sp_parser.specs.declared.symbol.ActionAt.{ActionAt}
use Rattle.sp_parser.specs.Grammar.{Table, Production, productions_of, production_of, at_production, right, ahead, Applies}
use Rattle.sp_grammar.specs.Reads.{Reads, nothing, whole, half, action, part}
use Rattle.sp_grammar.proofs.Spans.{Span, Through, nothing', whole', half', action', part', through, split, split_reads, every_part, reads_through, same, same_equal, has, by_one, append, below, below_all, every_production, one_production}

abbrev pub heads : List ℕ → ℕ → ℕ
heads l n = get_or l n 0

-- What a part of the table with tails is in the other: the same part, the tail of a part, or the ends in which the
-- alternatives of other parts differ that begin alike.
pub data Role : Type 0 where
  Same Ends : Role
  TailOf : ℕ → Role

abbrev pub role : List Role → ℕ → Role
role l n = get_or l n Same

abbrev pub is_same : Role → Bool
is_same Same = true
is_same Ends = false
is_same (TailOf q) = false

abbrev pub is_ends : Role → Bool
is_ends Same = false
is_ends Ends = true
is_ends (TailOf q) = false

abbrev pub ordinary : List Role → ℕ → Bool
ordinary l n = is_same (role l n)

abbrev pub front : List Symbol → List Symbol
front [] = []
front (x ∷ []) = []
front (x ∷ y ∷ ss) = x ∷ front (y ∷ ss)

abbrev pub is_none : List Symbol → Bool
is_none [] = true
is_none (x ∷ ss) = false

-- an operand and a tail
abbrev pub joined_at : Role → Role → Table → ℕ → ℕ → Bool
joined_at Same (TailOf q) h n a = has (productions_of h q) (Nonterminal a ∷ []) 0 && (q == n || has (productions_of h n) (Nonterminal q ∷ []) 0)
joined_at _ _ h n a = false

abbrev pub joined : List Role → Table → ℕ → List Symbol → Bool
joined l h n (Nonterminal a ∷ Nonterminal t ∷ []) = joined_at (role l a) (role l t) h n a
joined l h n _ = false

-- with each of the ends in its place the symbols are an alternative of the part
abbrev pub with_ends : Table → Table → ℕ → ℕ → List Symbol → List Symbol → Bool
with_ends g h n t before ss = below (λ p. has (productions_of h n) (before ++ (right g t p ++ ss)) 0) (length (productions_of g t))

abbrev pub spread : List Role → Table → Table → ℕ → List Symbol → List Symbol → Bool
spread l g h n before [] = false
spread l g h n before (Terminal e ∷ ss) = spread l g h n (before ++ Terminal e ∷ []) ss
spread l g h n before (Action m ∷ ss) = spread l g h n (before ++ Action m ∷ []) ss
spread l g h n before (Nonterminal t ∷ ss) = (is_ends (role l t) && (every_part (ordinary l) ss && with_ends g h n t before ss)) || (ordinary l t && spread l g h n (before ++ Nonterminal t ∷ []) ss)

-- A production of the table with tails has its like in the other.
abbrev pub forth_test : List Role → Table → Table → Role → ℕ → List Symbol → ℕ → Bool
forth_test l g h Same n ss a = (every_part (ordinary l) ss && has (productions_of h n) ss a) || (joined l h n ss || spread l g h n [] ss)
forth_test l g h Ends n ss a = every_part (ordinary l) ss
forth_test l g h (TailOf q) n ss a = is_none ss || (every_part (ordinary l) (front ss) && (same ss (front ss ++ Nonterminal n ∷ []) && has (productions_of h q) (Nonterminal q ∷ front ss) 0))

-- what a part of the table with tails means in the other: a tail lengthens what its part has read
abbrev pub Forth : Table → Table → Role → ℕ → Span
Forth g h Same n i w ρ j v τ = Reads h (Nonterminal n ∷ []) i w ρ j v τ
Forth g h Ends n i w ρ j v τ = (p : ℕ) × (p < length (productions_of g n)) × Reads h (right g n p) i w ρ j v τ
Forth g h (TailOf q) n i w ρ j v τ = (i₀ : ℕ) (w₀ : List ℕ) (ρ₀ : List ActionAt) → Reads h (Nonterminal q ∷ []) i₀ w₀ ρ₀ i w ρ → Reads h (Nonterminal q ∷ []) i₀ w₀ ρ₀ j v τ

abbrev pub Means : List Role → Table → Table → ℕ → Span
Means l g h n = Forth g h (role l n) n

never : {A : Type 0} → false ≡ true → A
never h = absurd (let q : false ≡ true = h in cc)

plainly : (g h : Table) (q : Role) (n i j : ℕ) (w v : List ℕ) (ρ τ : List ActionAt) → is_same q ≡ true → Forth g h q n i w ρ j v τ → Reads h (Nonterminal n ∷ []) i w ρ j v τ
plainly g h Same n i j w v ρ τ e x = x
plainly g h Ends n i j w v ρ τ e x = never e
plainly g h (TailOf q) n i j w v ρ τ e x = never e

endings : (g h : Table) (q : Role) (n i j : ℕ) (w v : List ℕ) (ρ τ : List ActionAt) → is_ends q ≡ true → Forth g h q n i w ρ j v τ → (p : ℕ) × (p < length (productions_of g n)) × Reads h (right g n p) i w ρ j v τ
endings g h Same n i j w v ρ τ e x = never e
endings g h Ends n i j w v ρ τ e x = x
endings g h (TailOf q) n i j w v ρ τ e x = never e

closed : (l : List Role) (g h : Table) {i j : ℕ} {ss : List Symbol} {w v : List ℕ} {ρ τ : List ActionAt} → every_part (ordinary l) ss ≡ true → Through (Means l g h) ss i w ρ j v τ → Reads h ss i w ρ j v τ
closed l g h e r = reads_through h (Means l g h) (ordinary l) (λ n i j w v ρ τ o x. plainly g h (role l n) n i j w v ρ τ o x) e r

first_part : (M : ℕ → Span) (n i j : ℕ) (w v : List ℕ) (ρ τ : List ActionAt) → Through M (Nonterminal n ∷ []) i w ρ j v τ → M n i w ρ j v τ
first_part M n i j w v ρ τ (part' x nothing') = x

join_two : (g h : Table) (p q : Role) (n a t i m j : ℕ) (w u v : List ℕ) (ρ σ τ : List ActionAt) → joined_at p q h n a ≡ true → Forth g h p a i w ρ m u σ → Forth g h q t m u σ j v τ → Reads h (Nonterminal n ∷ []) i w ρ j v τ
join_two g h Same (TailOf q) n a t i m j w u v ρ σ τ e x y =
    let b = and_parts (has (productions_of h q) (Nonterminal a ∷ []) 0) (q == n || has (productions_of h n) (Nonterminal q ∷ []) 0) e in
    let r = y i w ρ (by_one h q (Nonterminal a ∷ []) 0 b.0 (bit_at-zero (ahead w)) x) in
    elim (or_cases (q == n) (has (productions_of h n) (Nonterminal q ∷ []) 0) b.1) [
      | inl z ↦ subst (λ k. Reads h (Nonterminal k ∷ []) i w ρ j v τ) (eqb-true q n z) r
      | inr z ↦ by_one h n (Nonterminal q ∷ []) 0 z (bit_at-zero (ahead w)) r
    ]
join_two g h _ _ n a t i m j w u v ρ σ τ e x y = never e

join_parts : (l : List Role) (g h : Table) (n i j : ℕ) (ss : List Symbol) (w v : List ℕ) (ρ τ : List ActionAt) → joined l h n ss ≡ true → Through (Means l g h) ss i w ρ j v τ → Reads h (Nonterminal n ∷ []) i w ρ j v τ
join_parts l g h n i j (Nonterminal a ∷ Nonterminal t ∷ []) w v ρ τ e (part' {m = m} {u = u} {σ = σ} x (part' y nothing')) = join_two g h (role l a) (role l t) n a t i m j w u v ρ σ τ e x y
join_parts l g h n i j _ w v ρ τ e r = never e

spread_parts : (l : List Role) (g h : Table) (n i₀ : ℕ) (w₀ : List ℕ) (ρ₀ : List ActionAt) (before ss : List Symbol) {i j : ℕ} {w v : List ℕ} {ρ τ : List ActionAt} → spread l g h n before ss ≡ true → Reads h before i₀ w₀ ρ₀ i w ρ → Through (Means l g h) ss i w ρ j v τ → Reads h (Nonterminal n ∷ []) i₀ w₀ ρ₀ j v τ
spread_parts l g h n i₀ w₀ ρ₀ before [] e k r = never e
spread_parts l g h n i₀ w₀ ρ₀ before (Terminal x ∷ ss) e k (whole' t r) = spread_parts l g h n i₀ w₀ ρ₀ (before ++ Terminal x ∷ []) ss e (append k (whole t nothing)) r
spread_parts l g h n i₀ w₀ ρ₀ before (Terminal x ∷ ss) e k (half' t r) = spread_parts l g h n i₀ w₀ ρ₀ (before ++ Terminal x ∷ []) ss e (append k (half t nothing)) r
spread_parts l g h n i₀ w₀ ρ₀ before (Action m ∷ ss) e k (action' r) = spread_parts l g h n i₀ w₀ ρ₀ (before ++ Action m ∷ []) ss e (append k (action nothing)) r
spread_parts l g h n i₀ w₀ ρ₀ before (Nonterminal t ∷ ss) {i = i} {w = w} {ρ = ρ} e k (part' {m = m} {u = u} {σ = σ} x r) =
    elim (or_cases (is_ends (role l t) && (every_part (ordinary l) ss && with_ends g h n t before ss)) (ordinary l t && spread l g h n (before ++ Nonterminal t ∷ []) ss) e) [
      | inl z ↦
          let b = and_parts (is_ends (role l t)) (every_part (ordinary l) ss && with_ends g h n t before ss) z in
          let c = and_parts (every_part (ordinary l) ss) (with_ends g h n t before ss) b.1 in
          let y = endings g h (role l t) t i m w u ρ σ b.0 x in
          by_one h n (before ++ (right g t y.0 ++ ss)) 0 (below_all (λ p. has (productions_of h n) (before ++ (right g t p ++ ss)) 0) (length (productions_of g t)) y.0 c.1 y.1) (bit_at-zero (ahead w₀)) (append k (append y.2 (closed l g h c.0 r)))
      | inr z ↦
          let b = and_parts (ordinary l t) (spread l g h n (before ++ Nonterminal t ∷ []) ss) z in
          spread_parts l g h n i₀ w₀ ρ₀ (before ++ Nonterminal t ∷ []) ss b.1 (append k (plainly g h (role l t) t i m w u ρ σ b.0 x)) r
    ]

none_read : (l : List Role) (g h : Table) (q i j : ℕ) (ss : List Symbol) (w v : List ℕ) (ρ τ : List ActionAt) (i₀ : ℕ) (w₀ : List ℕ) (ρ₀ : List ActionAt) → is_none ss ≡ true → Through (Means l g h) ss i w ρ j v τ → Reads h (Nonterminal q ∷ []) i₀ w₀ ρ₀ i w ρ → Reads h (Nonterminal q ∷ []) i₀ w₀ ρ₀ j v τ
none_read l g h q i j [] w v ρ τ i₀ w₀ ρ₀ e nothing' k = k
none_read l g h q i j (x ∷ ss) w v ρ τ i₀ w₀ ρ₀ e r k = never e

pub forth_local : (l : List Role) (g h : Table) (q : Role) (n p i j a : ℕ) (ss : List Symbol) (w v : List ℕ) (ρ τ : List ActionAt) → role l n ≡ q → p < length (productions_of g n) → right g n p ≡ ss → forth_test l g h q n ss a ≡ true → bit_at a (ahead w) ≡ 0 → Through (Means l g h) ss i w ρ j v τ → Forth g h q n i w ρ j v τ
forth_local l g h Same n p i j a ss w v ρ τ q below same_side t z r = elim (or_cases (every_part (ordinary l) ss && has (productions_of h n) ss a) (joined l h n ss || spread l g h n [] ss) t) [
  | inl x ↦ let b = and_parts (every_part (ordinary l) ss) (has (productions_of h n) ss a) x in by_one h n ss a b.1 z (closed l g h b.0 r)
  | inr x ↦ elim (or_cases (joined l h n ss) (spread l g h n [] ss) x) [
    | inl y ↦ join_parts l g h n i j ss w v ρ τ y r
    | inr y ↦ spread_parts l g h n i w ρ [] ss y nothing r
  ]
]
forth_local l g h Ends n p i j a ss w v ρ τ e below same_side t z r = (p, below, subst (λ xs. Reads h xs i w ρ j v τ) (sym same_side) (closed l g h t r))
forth_local l g h (TailOf q) n p i j a ss w v ρ τ e below same_side t z r = λ i₀ w₀ ρ₀ k.
    let more = every_part (ordinary l) (front ss) && (same ss (front ss ++ Nonterminal n ∷ []) && has (productions_of h q) (Nonterminal q ∷ front ss) 0) in
    elim (or_cases (is_none ss) more t) [
      | inl x ↦ none_read l g h q i j ss w v ρ τ i₀ w₀ ρ₀ x r k
      | inr x ↦
          let b = and_parts (every_part (ordinary l) (front ss)) (same ss (front ss ++ Nonterminal n ∷ []) && has (productions_of h q) (Nonterminal q ∷ front ss) 0) x in
          let c = and_parts (same ss (front ss ++ Nonterminal n ∷ [])) (has (productions_of h q) (Nonterminal q ∷ front ss) 0) b.1 in
          let r' : Through (Means l g h) (front ss ++ Nonterminal n ∷ []) i w ρ j v τ = subst (λ xs. Through (Means l g h) xs i w ρ j v τ) (same_equal ss (front ss ++ Nonterminal n ∷ []) c.0) r in
          let s = split (Means l g h) (front ss) (Nonterminal n ∷ []) r' in
          let f : Forth g h (TailOf q) n s.0 s.1 s.2 j v τ = subst (λ p. Forth g h p n s.0 s.1 s.2 j v τ) e (first_part (Means l g h) n s.0 j s.1 v s.2 τ s.4) in
          f i₀ w₀ ρ₀ (by_one h q (Nonterminal q ∷ front ss) 0 c.1 (bit_at-zero (ahead w₀)) (append k (closed l g h b.0 s.3)))
    ]

abbrev pub all_forth : List Role → Table → Table → Bool
all_forth l g h = every_production g (λ n r. forth_test l g h (role l n) n r.symbols r.avoid)

-- What the table with tails reads as a part that is no tail and no ends, the other reads.
pub forth : (l : List Role) (g h : Table) → all_forth l g h ≡ true → (n i j : ℕ) (w v : List ℕ) (ρ τ : List ActionAt) → ordinary l n ≡ true → Reads g (Nonterminal n ∷ []) i w ρ j v τ → Reads h (Nonterminal n ∷ []) i w ρ j v τ
forth l g h t n i j w v ρ τ o r =
    let locals : (n p i j : ℕ) (w v : List ℕ) (ρ τ : List ActionAt) → Applies g n p w → Through (Means l g h) (right g n p) i w ρ j v τ → Means l g h n i w ρ j v τ
    = λ n p i j w v ρ τ a x. forth_local l g h (role l n) n p i j (production_of g n p).avoid (right g n p) w v ρ τ refl a.below refl (one_production g (λ n r. forth_test l g h (role l n) n r.symbols r.avoid) n p t a.below) a.allowed x in
    plainly g h (role l n) n i j w v ρ τ o (first_part (Means l g h) n i j w v ρ τ (through g (Means l g h) locals r))

-- The symbols are the production `before ++ xs`, where one of its parts is replaced by one of that part's productions.
abbrev pub replaced : List Production → List Symbol → List Symbol → List Symbol → Bool
replaced [] before xs ss = false
replaced (r ∷ rs) before xs ss = (same ss (before ++ (r.symbols ++ xs)) && r.avoid == 0) || replaced rs before xs ss

abbrev pub folds : Table → List Symbol → List Symbol → List Symbol → Bool
folds g before [] ss = false
folds g before (Terminal e ∷ xs) ss = folds g (before ++ Terminal e ∷ []) xs ss
folds g before (Action m ∷ xs) ss = folds g (before ++ Action m ∷ []) xs ss
folds g before (Nonterminal t ∷ xs) ss = replaced (productions_of g t) before xs ss || folds g (before ++ Nonterminal t ∷ []) xs ss

abbrev pub gathers : Table → List Production → List Symbol → Bool
gathers g [] ss = false
gathers g (r ∷ rs) ss = (folds g [] r.symbols ss && r.avoid == 0) || gathers g rs ss

replaced_one : (rs : List Production) (before xs ss : List Symbol) → replaced rs before xs ss ≡ true → (p : ℕ) × (p < length rs) × (ss ≡ before ++ ((at_production rs p).symbols ++ xs)) × ((at_production rs p).avoid ≡ 0)
replaced_one [] before xs ss h = never h
replaced_one (r ∷ rs) before xs ss h = elim (or_cases (same ss (before ++ (r.symbols ++ xs)) && r.avoid == 0) (replaced rs before xs ss) h) [
  | inl x ↦ let b = and_parts (same ss (before ++ (r.symbols ++ xs))) (r.avoid == 0) x in (0, omega arith, same_equal ss (before ++ (r.symbols ++ xs)) b.0, eqb-true r.avoid 0 b.1)
  | inr y ↦ let b = replaced_one rs before xs ss y in (suc b.0, omega (arith, b.1), b.2, b.3)
]

gathers_one : (g : Table) (rs : List Production) (ss : List Symbol) → gathers g rs ss ≡ true → (p : ℕ) × (p < length rs) × (folds g [] (at_production rs p).symbols ss ≡ true) × ((at_production rs p).avoid ≡ 0)
gathers_one g [] ss h = never h
gathers_one g (r ∷ rs) ss h = elim (or_cases (folds g [] r.symbols ss && r.avoid == 0) (gathers g rs ss) h) [
  | inl x ↦ let b = and_parts (folds g [] r.symbols ss) (r.avoid == 0) x in (0, omega arith, b.0, eqb-true r.avoid 0 b.1)
  | inr y ↦ let b = gathers_one g rs ss y in (suc b.0, omega (arith, b.1), b.2, b.3)
]

at_once : (g : Table) (n p : ℕ) → p < length (productions_of g n) → (production_of g n p).avoid ≡ 0 → {i j m : ℕ} {ss : List Symbol} {w v u : List ℕ} {ρ τ σ : List ActionAt} → Reads g (right g n p) i w ρ m u σ → Reads g ss m u σ j v τ → Reads g (Nonterminal n ∷ ss) i w ρ j v τ
at_once g n p b a {w = w} r s = part p (record { below = b; allowed = subst (λ c. bit_at c (ahead w) ≡ 0) (sym a) (bit_at-zero (ahead w)) }) r s

folded : (g : Table) (i j : ℕ) (w v : List ℕ) (ρ τ : List ActionAt) (before xs ss : List Symbol) → folds g before xs ss ≡ true → Reads g ss i w ρ j v τ → Reads g (before ++ xs) i w ρ j v τ
folded g i j w v ρ τ before [] ss e r = never e
folded g i j w v ρ τ before (Terminal x ∷ xs) ss e r = subst (λ ys. Reads g ys i w ρ j v τ) (append_assoc before (Terminal x ∷ []) xs) (folded g i j w v ρ τ (before ++ Terminal x ∷ []) xs ss e r)
folded g i j w v ρ τ before (Action x ∷ xs) ss e r = subst (λ ys. Reads g ys i w ρ j v τ) (append_assoc before (Action x ∷ []) xs) (folded g i j w v ρ τ (before ++ Action x ∷ []) xs ss e r)
folded g i j w v ρ τ before (Nonterminal t ∷ xs) ss e r = elim (or_cases (replaced (productions_of g t) before xs ss) (folds g (before ++ Nonterminal t ∷ []) xs ss) e) [
  | inl z ↦
      let b = replaced_one (productions_of g t) before xs ss z in
      let r' : Reads g (before ++ (right g t b.0 ++ xs)) i w ρ j v τ = subst (λ ys. Reads g ys i w ρ j v τ) b.2 r in
      let c = split_reads before (right g t b.0 ++ xs) r' in
      let d = split_reads (right g t b.0) xs c.4 in
      append c.3 (at_once g t b.0 b.1 b.3 d.3 d.4)
  | inr z ↦ subst (λ ys. Reads g ys i w ρ j v τ) (append_assoc before (Nonterminal t ∷ []) xs) (folded g i j w v ρ τ (before ++ Nonterminal t ∷ []) xs ss z r)
]

gathered : (g : Table) (n i j : ℕ) (ss : List Symbol) (w v : List ℕ) (ρ τ : List ActionAt) → gathers g (productions_of g n) ss ≡ true → Reads g ss i w ρ j v τ → Reads g (Nonterminal n ∷ []) i w ρ j v τ
gathered g n i j ss w v ρ τ e r =
    let b = gathers_one g (productions_of g n) ss e in
    at_once g n b.0 b.1 b.3 (folded g i j w v ρ τ [] (right g n b.0) ss b.2 r) nothing

-- An operand and an empty tail are the part.
abbrev pub close_test : Table → ℕ → ℕ → ℕ → Bool
close_test g zero a n = true
close_test g (suc t) a n = has (productions_of g n) (Nonterminal a ∷ Nonterminal (suc t) ∷ []) 0 && has (productions_of g (suc t)) [] 0

abbrev pub closes : Table → List ℕ → List ℕ → ℕ → Bool
closes g ts bs n = close_test g (heads ts n) (heads bs n) n

-- an operand and an empty tail, of another part
abbrev pub lone_at : Table → ℕ → ℕ → ℕ → Bool
lone_at g zero a n = false
lone_at g (suc t) a n = close_test g (suc t) a n

abbrev pub lone : Table → List ℕ → List ℕ → ℕ → List Symbol → Bool
lone g ts bs n (Nonterminal q ∷ []) = lone_at g (heads ts q) (heads bs q) n
lone g ts bs n _ = false

-- the part itself, and then what the tail t reads
abbrev pub lengthens : Table → List ℕ → List ℕ → ℕ → ℕ → List Symbol → Bool
lengthens g ts bs t n (Nonterminal m ∷ ss) = m == n && (every_part (closes g ts bs) ss && has (productions_of g t) (ss ++ Nonterminal t ∷ []) 0)
lengthens g ts bs t n _ = false

abbrev pub back_test : Table → List ℕ → List ℕ → ℕ → ℕ → ℕ → List Symbol → ℕ → Bool
back_test g ts bs zero b n ss a = (every_part (closes g ts bs) ss && (has (productions_of g n) ss a || gathers g (productions_of g n) ss)) || lone g ts bs n ss
back_test g ts bs (suc t) b n ss a = (same ss (Nonterminal b ∷ []) && every_part (closes g ts bs) ss) || lengthens g ts bs (suc t) n ss

-- what a part of the left-recursive table means in the one with tails: before its tail it is an operand and a tail
abbrev pub Back : Table → ℕ → ℕ → ℕ → Span
Back g zero a n i w ρ j v τ = Reads g (Nonterminal n ∷ []) i w ρ j v τ
Back g (suc t) a n i w ρ j v τ = (k : ℕ) (x : List ℕ) (υ : List ActionAt) → Reads g (Nonterminal (suc t) ∷ []) j v τ k x υ → Reads g (Nonterminal a ∷ Nonterminal (suc t) ∷ []) i w ρ k x υ

abbrev pub MeansBack : Table → List ℕ → List ℕ → ℕ → Span
MeansBack g ts bs n = Back g (heads ts n) (heads bs n) n

close_back : (g : Table) (t a m n i j : ℕ) (w v : List ℕ) (ρ τ : List ActionAt) → close_test g t a n ≡ true → Back g t a m i w ρ j v τ → (t ≡ 0 → m ≡ n) → Reads g (Nonterminal n ∷ []) i w ρ j v τ
close_back g zero a m n i j w v ρ τ e x o = subst (λ k. Reads g (Nonterminal k ∷ []) i w ρ j v τ) (o refl) x
close_back g (suc t) a m n i j w v ρ τ e x o =
    let b = and_parts (has (productions_of g n) (Nonterminal a ∷ Nonterminal (suc t) ∷ []) 0) (has (productions_of g (suc t)) [] 0) e in
    by_one g n (Nonterminal a ∷ Nonterminal (suc t) ∷ []) 0 b.0 (bit_at-zero (ahead w)) (x j v τ (by_one g (suc t) [] 0 b.1 (bit_at-zero (ahead v)) nothing))

closed_back : (g : Table) (ts bs : List ℕ) {i j : ℕ} {ss : List Symbol} {w v : List ℕ} {ρ τ : List ActionAt} → every_part (closes g ts bs) ss ≡ true → Through (MeansBack g ts bs) ss i w ρ j v τ → Reads g ss i w ρ j v τ
closed_back g ts bs e r = reads_through g (MeansBack g ts bs) (closes g ts bs) (λ n i j w v ρ τ o x. close_back g (heads ts n) (heads bs n) n n i j w v ρ τ o x (λ _. refl)) e r

lone_part : (g : Table) (t a q n i j : ℕ) (w v : List ℕ) (ρ τ : List ActionAt) → lone_at g t a n ≡ true → Back g t a q i w ρ j v τ → Reads g (Nonterminal n ∷ []) i w ρ j v τ
lone_part g zero a q n i j w v ρ τ e x = never e
lone_part g (suc t) a q n i j w v ρ τ e x = close_back g (suc t) a q n i j w v ρ τ e x (λ z. absurd (let y : suc t ≡ 0 = z in cc))

lone_back : (g : Table) (ts bs : List ℕ) (n i j : ℕ) (ss : List Symbol) (w v : List ℕ) (ρ τ : List ActionAt) → lone g ts bs n ss ≡ true → Through (MeansBack g ts bs) ss i w ρ j v τ → Reads g (Nonterminal n ∷ []) i w ρ j v τ
lone_back g ts bs n i j (Nonterminal q ∷ []) w v ρ τ e (part' x nothing') = lone_part g (heads ts q) (heads bs q) q n i j w v ρ τ e x
lone_back g ts bs n i j _ w v ρ τ e r = never e

longer_back : (g : Table) (ts bs : List ℕ) (t b n i j : ℕ) (ss : List Symbol) (w v : List ℕ) (ρ τ : List ActionAt) → heads ts n ≡ suc t → heads bs n ≡ b → lengthens g ts bs (suc t) n ss ≡ true → Through (MeansBack g ts bs) ss i w ρ j v τ → Back g (suc t) b n i w ρ j v τ
longer_back g ts bs t b n i j (Nonterminal m ∷ ss) w v ρ τ et eb e (part' {m = m'} {u = u} {σ = σ} x s) = λ k y υ r.
    let c = and_parts (m == n) (every_part (closes g ts bs) ss && has (productions_of g (suc t)) (ss ++ Nonterminal (suc t) ∷ []) 0) e in
    let d = and_parts (every_part (closes g ts bs) ss) (has (productions_of g (suc t)) (ss ++ Nonterminal (suc t) ∷ []) 0) c.1 in
    let tail : Reads g (Nonterminal (suc t) ∷ []) m' u σ k y υ = by_one g (suc t) (ss ++ Nonterminal (suc t) ∷ []) 0 d.1 (bit_at-zero (ahead u)) (append (closed_back g ts bs d.0 s) r) in
    let x₁ : MeansBack g ts bs n i w ρ m' u σ = subst (λ o. MeansBack g ts bs o i w ρ m' u σ) (eqb-true m n c.0) x in
    let x₂ : Back g (suc t) (heads bs n) n i w ρ m' u σ = subst (λ o. Back g o (heads bs n) n i w ρ m' u σ) et x₁ in
    let x₃ : Back g (suc t) b n i w ρ m' u σ = subst (λ o. Back g (suc t) o n i w ρ m' u σ) eb x₂ in
    x₃ k y υ tail
longer_back g ts bs t b n i j _ w v ρ τ et eb e r = never e

back_local : (g : Table) (ts bs : List ℕ) (t b n i j a : ℕ) (ss : List Symbol) (w v : List ℕ) (ρ τ : List ActionAt) → heads ts n ≡ t → heads bs n ≡ b → back_test g ts bs t b n ss a ≡ true → bit_at a (ahead w) ≡ 0 → Through (MeansBack g ts bs) ss i w ρ j v τ → Back g t b n i w ρ j v τ
back_local g ts bs zero b n i j a ss w v ρ τ et eb e z r = elim (or_cases (every_part (closes g ts bs) ss && (has (productions_of g n) ss a || gathers g (productions_of g n) ss)) (lone g ts bs n ss) e) [
  | inl x ↦
      let c = and_parts (every_part (closes g ts bs) ss) (has (productions_of g n) ss a || gathers g (productions_of g n) ss) x in
      elim (or_cases (has (productions_of g n) ss a) (gathers g (productions_of g n) ss) c.1) [
        | inl y ↦ by_one g n ss a y z (closed_back g ts bs c.0 r)
        | inr y ↦ gathered g n i j ss w v ρ τ y (closed_back g ts bs c.0 r)
      ]
  | inr x ↦ lone_back g ts bs n i j ss w v ρ τ x r
]
back_local g ts bs (suc t) b n i j a ss w v ρ τ et eb e z r = elim (or_cases (same ss (Nonterminal b ∷ []) && every_part (closes g ts bs) ss) (lengthens g ts bs (suc t) n ss) e) [
  | inl x ↦
      let c = and_parts (same ss (Nonterminal b ∷ [])) (every_part (closes g ts bs) ss) x in
      λ k y υ q. append (subst (λ xs. Reads g xs i w ρ j v τ) (same_equal ss (Nonterminal b ∷ []) c.0) (closed_back g ts bs c.1 r)) q
  | inr x ↦ longer_back g ts bs t b n i j ss w v ρ τ et eb x r
]

abbrev pub all_back : List ℕ → List ℕ → Table → Table → Bool
all_back ts bs g h = every_production h (λ n r. back_test g ts bs (heads ts n) (heads bs n) n r.symbols r.avoid)

-- What the left-recursive table reads, the one with tails reads.
pub back : (ts bs : List ℕ) (g h : Table) → all_back ts bs g h ≡ true → (n i j : ℕ) (w v : List ℕ) (ρ τ : List ActionAt) → closes g ts bs n ≡ true → Reads h (Nonterminal n ∷ []) i w ρ j v τ → Reads g (Nonterminal n ∷ []) i w ρ j v τ
back ts bs g h t n i j w v ρ τ o r =
    let locals : (n p i j : ℕ) (w v : List ℕ) (ρ τ : List ActionAt) → Applies h n p w → Through (MeansBack g ts bs) (right h n p) i w ρ j v τ → MeansBack g ts bs n i w ρ j v τ
    = λ n p i j w v ρ τ a x. back_local g ts bs (heads ts n) (heads bs n) n i j (production_of h n p).avoid (right h n p) w v ρ τ refl refl (one_production h (λ n r. back_test g ts bs (heads ts n) (heads bs n) n r.symbols r.avoid) n p t a.below) a.allowed x in
    close_back g (heads ts n) (heads bs n) n n i j w v ρ τ o (first_part (MeansBack g ts bs) n i j w v ρ τ (through h (MeansBack g ts bs) locals r)) (λ _. refl)
