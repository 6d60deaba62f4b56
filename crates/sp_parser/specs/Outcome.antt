-- What the answer of a parse says.
use Rattle.std.specs.Prelude.{◌≡◌, ℕ, ◌+◌, List, length, take}
use Rattle.sp_parser.specs.declared.symbol.ActionAt.{ActionAt}
use Rattle.sp_parser.specs.declared.outcome.Outcome.{Outcome}
use Rattle.sp_parser.specs.declared.outcome.Outcome.TheVariants.{Phrase, Refused}
use Rattle.sp_parser.specs.Grammar.{Table, IsLongestViable, Derives}

-- What a parse of the tokens w, which stand from place `at` on, answers, where the actions that were passed are those of which
-- this is true: the place after the longest viable prefix, if that is a text with the actions that were passed, and else too.
abbrev pub IsParsed : Table → ℕ → List ℕ → ℕ → (List ActionAt → Type 0) → Outcome → Type 0
IsParsed g n w at ArePassed (Phrase j) = (m : ℕ) × (j ≡ at + m) × IsLongestViable g n w m × ((τ : List ActionAt) × ArePassed τ × Derives g n (take m w) τ)
IsParsed g n w at ArePassed (Refused j) = (m : ℕ) × (j ≡ at + m) × IsLongestViable g n w m × ((τ : List ActionAt) → Derives g n (take m w) τ → ⊥)

-- What a parse of all the tokens w answers: if they are a text, their number, where the actions of its one derivation were
-- passed, and else the length of the longest viable prefix, where some actions were passed.
abbrev pub IsParsedWhole : Table → ℕ → List ℕ → (List ActionAt → Type 0) → Outcome → Type 0
IsParsedWhole g n w ArePassed (Phrase j) = (j ≡ length w) × ((τ : List ActionAt) × ArePassed τ × Derives g n w τ × ((σ : List ActionAt) → Derives g n w σ → σ ≡ τ))
IsParsedWhole g n w ArePassed (Refused j) = IsLongestViable g n w j × ((τ : List ActionAt) → Derives g n w τ → ⊥) × ((τ : List ActionAt) × ArePassed τ)
