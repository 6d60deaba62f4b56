-- Code whose heights fall along all that it leads to without a turn.
use Rattle.std.specs.Prelude.{◌≡◌, ℕ, ◌+◌, ◌≤◌, List, [], ◌∷◌, ◌++◌, length, Some}
use Rattle.sp_code.specs.Turns.{edges, AreLower}
use Rattle.sp_code_programs.specs.exprs.Marked.{Wanted, Does, Constant, Marked}

-- the addresses in the same body to which code to be leads without a turn
abbrev pub leads_to : Wanted → ℕ → List ℕ
leads_to (Does i) pc = edges (Some i) pc
leads_to (Constant v) pc = (pc + 1) ∷ []

-- the addresses from one on have these heights
abbrev pub HaveHeights : (ℕ → ℕ) → ℕ → List ℕ → Type 0
HaveHeights height pc [] = Unit {0}
HaveHeights height pc (h ∷ hs) = (height pc ≡ h) × HaveHeights height (pc + 1) hs

-- each instruction of code that stands from an address on leads without a turn only to lower addresses
abbrev pub AllFall : (ℕ → ℕ) → ℕ → List Marked → Type 0
AllFall height pc [] = Unit {0}
AllFall height pc (m ∷ ms) = AreLower height (height pc) (leads_to m.wanted pc) × AllFall height (pc + 1) ms

-- none of these heights is above this
abbrev pub AreAtMost : ℕ → List ℕ → Type 0
AreAtMost most [] = Unit {0}
AreAtMost most (h ∷ hs) = (h ≤ most) × AreAtMost most hs

-- Code that stands from an address on counts a turn in each cycle: there are heights of its addresses that fall, whatever the heights
-- of other addresses are, and that are at most the number of its instructions. So it leads to no other address without a turn.
pub record AllTurn (pc : ℕ) (ms : List Marked) : Type 0 where
  pub heights : List ℕ
  pub count : length heights ≡ length ms
  pub low : AreAtMost (length ms) heights
  pub fall : (height : ℕ → ℕ) → HaveHeights height pc heights → AllFall height pc ms

-- pieces of code, one behind another
abbrev pub joined : List (List Marked) → List Marked
joined [] = []
joined (ms ∷ pieces) = ms ++ joined pieces

-- each of these pieces does so, the first of which stands from an address on
abbrev pub EachTurns : ℕ → List (List Marked) → Type 0
EachTurns pc [] = Unit {0}
EachTurns pc (ms ∷ pieces) = AllTurn pc ms × EachTurns (pc + length ms) pieces
