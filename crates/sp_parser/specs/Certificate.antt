-- What a certificate tells of the nonterminals of a grammar, and what makes the parsing of a table exact.
use Rattle.std.specs.Prelude.{◌≡◌, ℕ, suc, ◌+◌, ◌^◌, ◌<◌, List, [], ◌∷◌, length, cond, ◌==◌, ◌||◌, ◌&&◌, Bool, true, false, bit_or, nat_lt}
use Rattle.std.proofs.Common.{get_or}
use Rattle.std.specs.Int.{bit_at}
use Rattle.sp_parser.specs.declared.symbol.Symbol.{Symbol}
use Rattle.sp_parser.specs.declared.symbol.Symbol.TheVariants.{Terminal, Nonterminal, Action}
use Rattle.sp_parser.specs.declared.symbol.ActionAt.{ActionAt}
use Rattle.sp_parser.specs.Grammar.{Table, productions_of, production_of, right, predict, Advances, Derivation, GREATER, SHIFT, SECOND, CLOSE, END}
use Rattle.sp_parser.specs.Sinks.{Became, Passes}

-- Of each nonterminal: its first set, its follow set, whether it is nullable (derives the empty text), how many symbols
-- are gone through at most before a token is taken, the production that leads to a text by the fewest levels, and the
-- number of these levels. A set of kinds is a number, by its bits.
pub record Certificate : Type 0 where
  pub first : List ℕ
  pub follow : List ℕ
  pub nullable : List Bool
  pub weight : List ℕ
  pub best : List ℕ
  pub height : List ℕ

abbrev pub first_of : Certificate → ℕ → ℕ
first_of f n = get_or f.first n 0

abbrev pub follow_of : Certificate → ℕ → ℕ
follow_of f n = get_or f.follow n 0

abbrev pub nullable_of : Certificate → ℕ → Bool
nullable_of f n = get_or f.nullable n false

abbrev pub weight_of : Certificate → ℕ → ℕ
weight_of f n = get_or f.weight n 0

abbrev pub best_of : Certificate → ℕ → ℕ
best_of f n = get_or f.best n 0

abbrev pub height_of : Certificate → ℕ → ℕ
height_of f n = get_or f.height n 0

-- the kind k is in the set s
abbrev pub Has : ℕ → ℕ → Type 0
Has s k = bit_at s k ≡ 1

abbrev pub takers : ℕ → ℕ
takers e = cond (e == CLOSE) (2 ^ GREATER + 2 ^ SHIFT + 2 ^ SECOND) (2 ^ e)

-- the first set of these symbols, where the kinds of b may come after them
abbrev pub firsts : Certificate → ℕ → List Symbol → ℕ
firsts f b [] = b
firsts f b (Terminal e ∷ ss) = takers e
firsts f b (Action m ∷ ss) = firsts f b ss
firsts f b (Nonterminal n ∷ ss) = let rest = firsts f b ss in cond (nullable_of f n) (bit_or (first_of f n) rest) (first_of f n)

abbrev pub nullables : Certificate → List Symbol → Bool
nullables f [] = true
nullables f (Terminal e ∷ ss) = false
nullables f (Action m ∷ ss) = nullables f ss
nullables f (Nonterminal n ∷ ss) = nullable_of f n && nullables f ss

-- the symbols that are gone through at most before a token, where b come after these
abbrev pub steps_of : Certificate → ℕ → List Symbol → ℕ
steps_of f b [] = b
steps_of f b (Terminal e ∷ ss) = 1
steps_of f b (Action m ∷ ss) = 1 + steps_of f b ss
steps_of f b (Nonterminal n ∷ ss) = let rest = steps_of f b ss in weight_of f n + cond (nullable_of f n) rest 0

abbrev pub within : ℕ → ℕ → Bool
within a b = bit_or a b == b

-- each nonterminal of the symbols may have after it what may come there
abbrev pub followed : Certificate → ℕ → List Symbol → Bool
followed f b [] = true
followed f b (Terminal e ∷ ss) = followed f b ss
followed f b (Action m ∷ ss) = followed f b ss
followed f b (Nonterminal n ∷ ss) = within (firsts f b ss) (follow_of f n) && followed f b ss

-- each symbol's least text is of less height
abbrev pub lower : Certificate → ℕ → List Symbol → Bool
lower f h [] = true
lower f h (Terminal e ∷ ss) = (nat_lt e SECOND || (e == CLOSE)) && lower f h ss
lower f h (Action m ∷ ss) = lower f h ss
lower f h (Nonterminal n ∷ ss) = nat_lt n (length f.height) && (nat_lt (height_of f n) h && lower f h ss)

-- Each nonterminal has a text.
pub record Productive (g : Table) (f : Certificate) (n : ℕ) : Type 0 where
  pub below : best_of f n < length (productions_of g n)
  pub free : (production_of g n (best_of f n)).avoid ≡ 0
  pub lower : lower f (height_of f n) (right g n (best_of f n)) ≡ true

-- the kinds that may come next before symbols at the end of which nothing comes
abbrev pub looks : Certificate → List Symbol → ℕ
looks f ss = firsts f (2 ^ END) ss

-- each nonterminal on the stack has after it what may come there
abbrev pub Fits : Certificate → List Symbol → Type 0
Fits f [] = Unit {0}
Fits f (Terminal e ∷ ss) = Fits f ss
Fits f (Action m ∷ ss) = Fits f ss
Fits f (Nonterminal n ∷ ss) = ((k : ℕ) → Has (looks f ss) k → Has (follow_of f n) k) × Fits f ss

-- the terminals are kinds of tokens or close lists of types, and the nonterminals are those of the grammar
abbrev pub AreListed : Certificate → List Symbol → Type 0
AreListed f [] = Unit {0}
AreListed f (Terminal e ∷ ss) = ((nat_lt e SECOND || (e == CLOSE)) ≡ true) × AreListed f ss
AreListed f (Action m ∷ ss) = AreListed f ss
AreListed f (Nonterminal n ∷ ss) = (n < length f.height) × AreListed f ss

-- What makes the parsing of a table exact: the sets hold what they must, and each production is the one that is predicted
-- before every kind that can begin it and before which none is preferred to it.
pub record IsCertified (g : Table) (f : Certificate) : Type 0 where
  pub first : (n p k : ℕ) → p < length (productions_of g n) → Has (firsts f 0 (right g n p)) k → Has (first_of f n) k
  pub nullable : (n p : ℕ) → p < length (productions_of g n) → nullables f (right g n p) ≡ true → nullable_of f n ≡ true
  pub after : (n p : ℕ) → p < length (productions_of g n) → followed f (follow_of f n) (right g n p) ≡ true
  pub less : (n p : ℕ) → p < length (productions_of g n) → steps_of f 0 (right g n p) < weight_of f n
  pub predicted : (n p k : ℕ) → p < length (productions_of g n) → Has (firsts f (follow_of f n) (right g n p)) k → bit_at (production_of g n p).avoid k ≡ 0 → predict g n k ≡ p
  pub free : (n k : ℕ) → predict g n k < length (productions_of g n) → bit_at (production_of g n (predict g n k)).avoid k ≡ 0
  pub listed : (n p : ℕ) → p < length (productions_of g n) → AreListed f (right g n p)
  pub productive : (n : ℕ) → n < length f.height → Productive g f n

-- what holds of the stack
pub record Ready (f : Certificate) (ss : List Symbol) : Type 0 where
  pub fits : Fits f ss
  pub listed : AreListed f ss

-- a text may end after the nonterminal: the end is in its follow set
abbrev pub IsStart : Certificate → ℕ → Type 0
IsStart f n = Has (follow_of f n) END

-- whether a token of the kind k is taken, and what was passed to a sink
abbrev pub Takes : {S : Type 0} → Table → Certificate → Bool → ℕ → List Symbol → ℕ → List Symbol → Became S → S → S → Type 0
Takes g f true i ss k ts became before after = Ready f ts × ((ε : List ActionAt) × Passes became before after ε × ((w : List ℕ) → Advances g i ss (k ∷ w) (suc i) ts w ε))
Takes g f false i ss k ts became before after = ((ε : List ActionAt) × Passes became before after ε) × ((w : List ℕ) (τ : List ActionAt) → Derivation g i ss (k ∷ w) τ → ⊥)
