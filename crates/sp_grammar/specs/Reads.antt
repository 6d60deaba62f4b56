-- What the symbols of a grammar read, as trees: each part by one of its alternatives, in any grammar, left-recursive ones too.
use Rattle.std.specs.Prelude.{◌≡◌, ℕ, suc, List, [], ◌∷◌}
use Rattle.sp_parser.specs.declared.symbol.Symbol.{Symbol}
use Rattle.sp_parser.specs.declared.symbol.Symbol.TheVariants as symbol
use Rattle.sp_parser.specs.declared.symbol.ActionAt.{ActionAt}
use Rattle.sp_parser.specs.Grammar.{Table, right, takes, First, All, Applies, action_at, SECOND}

-- `Reads g ss i w ρ j v τ`: from place i, where the kinds of tokens w stand and the actions ρ are still to pass, the symbols
-- ss read up to place j, where the kinds v stand and the actions τ are still to pass. So what is read is w up to v, and it
-- passes the actions ρ up to τ.
pub data Reads (g : Table) : List Symbol → ℕ → List ℕ → List ActionAt → ℕ → List ℕ → List ActionAt → Type 0 where
  nothing : {i : ℕ} {w : List ℕ} {ρ : List ActionAt} → Reads g [] i w ρ i w ρ
  whole : {i j e k : ℕ} {ss : List Symbol} {w v : List ℕ} {ρ τ : List ActionAt} → takes e k ≡ All → Reads g ss (suc i) w ρ j v τ → Reads g (symbol.Terminal e ∷ ss) i (k ∷ w) ρ j v τ
  -- the first half of a `>>` closes a list of types, and its second half is left
  half : {i j e k : ℕ} {ss : List Symbol} {w v : List ℕ} {ρ τ : List ActionAt} → takes e k ≡ First → Reads g ss i (SECOND ∷ w) ρ j v τ → Reads g (symbol.Terminal e ∷ ss) i (k ∷ w) ρ j v τ
  action : {i j m : ℕ} {ss : List Symbol} {w v : List ℕ} {ρ τ : List ActionAt} → Reads g ss i w ρ j v τ → Reads g (symbol.Action m ∷ ss) i w (action_at m i ∷ ρ) j v τ
  -- a part, by its alternative p
  part : {i m j n : ℕ} {ss : List Symbol} {w u v : List ℕ} {ρ σ τ : List ActionAt} → (p : ℕ) → Applies g n p w → Reads g (right g n p) i w ρ m u σ → Reads g ss m u σ j v τ → Reads g (symbol.Nonterminal n ∷ ss) i w ρ j v τ

-- From place 0 on the part reads all of w and passes all of the actions.
abbrev pub IsRead : Table → ℕ → List ℕ → List ActionAt → Type 0
IsRead g n w ρ = (j : ℕ) × Reads g (symbol.Nonterminal n ∷ []) 0 w ρ j [] []
