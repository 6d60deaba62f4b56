-- Grammars as tables of productions, and what their nonterminals derive.
use Rattle.std.specs.Prelude.{◌≡◌, ℕ, suc, ◌+◌, ◌<◌, List, [], ◌∷◌, ◌++◌, length, cond, ◌==◌, ◌||◌, ◌≤◌, take}
use Rattle.std.proofs.Common.{get_or}
use Rattle.std.specs.Int.{bit_at}
use Rattle.sp_parser.specs.declared.symbol.Symbol.{Symbol}
use Rattle.sp_parser.specs.declared.symbol.Symbol.TheVariants.{Terminal, Nonterminal, Action}
use Rattle.sp_parser.specs.declared.symbol.ActionAt.{ActionAt}
use Rattle.sp_parser.specs.declared.symbol.Step.{Step}
use Rattle.sp_parser.specs.declared.symbol.Step.TheVariants.{Whole, Half, Refused, Emptied}

-- A production: its right side, its select set (the kinds of tokens before which it is predicted), and the kinds before
-- which it may not be taken, since another production is preferred there. A set of kinds is a number, by its bits.
pub record Production : Type 0 where
  pub symbols : List Symbol
  pub select : ℕ
  pub avoid : ℕ

-- the productions of each nonterminal
pub record Table : Type 0 where
  pub productions : List (List Production)

abbrev pub no_production : Production
no_production = record { symbols = []; select = 0; avoid = 0 }

abbrev pub productions_of : Table → ℕ → List Production
productions_of g n = get_or g.productions n []

abbrev pub at_production : List Production → ℕ → Production
at_production rs p = get_or rs p no_production

abbrev pub production_of : Table → ℕ → ℕ → Production
production_of g n p = get_or (productions_of g n) p no_production

abbrev pub right : Table → ℕ → ℕ → List Symbol
right g n p = (production_of g n p).symbols

-- the place of the first production that is taken before k, or the number of the productions
abbrev pub chosen : List Production → ℕ → ℕ
chosen [] k = 0
chosen (r ∷ rs) k = let rest = chosen rs k in cond (bit_at r.select k == 1) 0 (suc rest)

abbrev pub predict : Table → ℕ → ℕ → ℕ
predict g n k = chosen (productions_of g n) k

-- The kind `>`, the kind `>>`, the second half of a `>>`, the terminal that closes a list of types, and the end of the
-- tokens. A `>>` is one token, and yet closes two lists of types: each takes a half of it.
abbrev pub GREATER : ℕ
GREATER = 120

abbrev pub SHIFT : ℕ
SHIFT = 121

abbrev pub SECOND : ℕ
SECOND = 122

abbrev pub CLOSE : ℕ
CLOSE = 123

abbrev pub END : ℕ
END = 124

-- what an expected token takes of the next one
pub data Take : Type 0 where
  Nothing First All : Take

abbrev pub takes : ℕ → ℕ → Take
takes e k = cond (e == CLOSE) (cond (k == GREATER || k == SECOND) All (cond (k == SHIFT) First Nothing)) (cond (e == k) All Nothing)

-- the kind that comes next
abbrev pub ahead : List ℕ → ℕ
ahead [] = END
ahead (k ∷ w) = k

-- The production p of nonterminal n may be taken where w follows.
pub record Applies (g : Table) (n p : ℕ) (w : List ℕ) : Type 0 where
  pub below : p < length (productions_of g n)
  pub allowed : bit_at (production_of g n p).avoid (ahead w) ≡ 0

abbrev pub action_at : ℕ → ℕ → ActionAt
action_at m i = record { action = m; at = i }

-- A leftmost derivation: the symbols derive exactly these kinds of tokens, before which i tokens stand, and pass these
-- actions. A nonterminal is replaced by the right side of one of its productions.
pub data Derivation (g : Table) : ℕ → List Symbol → List ℕ → List ActionAt → Type 0 where
  done : {i : ℕ} → Derivation g i [] [] []
  whole : {i e k : ℕ} {ss : List Symbol} {w : List ℕ} {τ : List ActionAt} → takes e k ≡ All → Derivation g (suc i) ss w τ → Derivation g i (Terminal e ∷ ss) (k ∷ w) τ
  half : {i e k : ℕ} {ss : List Symbol} {w : List ℕ} {τ : List ActionAt} → takes e k ≡ First → Derivation g i ss (SECOND ∷ w) τ → Derivation g i (Terminal e ∷ ss) (k ∷ w) τ
  action : {i m : ℕ} {ss : List Symbol} {w : List ℕ} {τ : List ActionAt} → Derivation g i ss w τ → Derivation g i (Action m ∷ ss) w (action_at m i ∷ τ)
  expand : {i n : ℕ} {ss : List Symbol} {w : List ℕ} {τ : List ActionAt} → (p : ℕ) → Applies g n p w → Derivation g i (right g n p ++ ss) w τ → Derivation g i (Nonterminal n ∷ ss) w τ

-- kinds of tokens
abbrev pub AreKinds : List ℕ → Type 0
AreKinds [] = Unit {0}
AreKinds (k ∷ w) = (k < SECOND) × AreKinds w

-- The kinds are a text that the nonterminal derives, passing these actions.
abbrev pub Derives : Table → ℕ → List ℕ → List ActionAt → Type 0
Derives g n w τ = Derivation g 0 (Nonterminal n ∷ []) w τ

-- The kinds are a viable prefix: some text of the nonterminal begins with them.
abbrev pub IsViable : Table → ℕ → List ℕ → Type 0
IsViable g n w = (more : List ℕ) × (τ : List ActionAt) × AreKinds more × Derives g n (w ++ more) τ

-- To derive w from the symbols ss, before which i tokens stand, is to pass the actions ε and to derive v from the symbols
-- ts, before which j tokens stand.
pub record Advances (g : Table) (i : ℕ) (ss : List Symbol) (w : List ℕ) (j : ℕ) (ts : List Symbol) (v : List ℕ) (ε : List ActionAt) : Type 0 where
  pub forth : (τ : List ActionAt) → Derivation g j ts v τ → Derivation g i ss w (ε ++ τ)
  pub back : (τ : List ActionAt) → Derivation g i ss w τ → (σ : List ActionAt) × (τ ≡ ε ++ σ) × Derivation g j ts v σ

-- what a step with the next kind k tells of the symbols before it and those after it
abbrev pub Tells : Table → Step → ℕ → List Symbol → ℕ → List Symbol → List ActionAt → Type 0
Tells g Whole i ss k ts ε = ((w : List ℕ) → Advances g i ss (k ∷ w) (suc i) ts w ε) × (k ≡ END → (τ : List ActionAt) → Derivation g i ss [] τ → ⊥)
Tells g Half i ss k ts ε = (k ≡ SECOND → ⊥) × ((w : List ℕ) → Advances g i ss (k ∷ w) i ts (SECOND ∷ w) ε) × (k ≡ END → (τ : List ActionAt) → Derivation g i ss [] τ → ⊥)
Tells g Refused i ss k ts ε = (w : List ℕ) → ahead w ≡ k → (τ : List ActionAt) → Derivation g i ss w τ → ⊥
Tells g Emptied i ss k ts ε = (ts ≡ []) × ((w : List ℕ) → ahead w ≡ k → Advances g i ss w i [] w ε)

-- the step for what was taken
abbrev pub taken_of : Step → Take → Type 0
taken_of Whole t = t ≡ All
taken_of Half t = t ≡ First
taken_of Refused t = t ≡ Nothing
taken_of Emptied t = ⊥

-- the first m kinds of w are its longest viable prefix
pub record IsLongestViable (g : Table) (n : ℕ) (w : List ℕ) (m : ℕ) : Type 0 where
  pub within : m ≤ length w
  pub begins : IsViable g n (take m w)
  pub stops : m < length w → IsViable g n (take (m + 1) w) → ⊥
