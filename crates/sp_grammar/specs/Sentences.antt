-- The texts of the language as kinds of tokens, and what begins one, by the grammar in its own words.
use Rattle.std.specs.Prelude.{◌≡◌, ℕ, ◌+◌, ◌<◌, ◌≤◌, List, ◌++◌, length, take}
use Rattle.sp_parser.specs.declared.symbol.ActionAt.{ActionAt}
use Rattle.sp_parser.specs.declared.outcome.Outcome.{Outcome}
use Rattle.sp_parser.specs.declared.outcome.Outcome.TheVariants.{Phrase, Refused}
use Rattle.sp_parser.specs.Grammar.{AreKinds}
use Rattle.sp_grammar.specs.declared.language.Start.{Start}
use Rattle.sp_grammar.specs.Own.{own}
use Rattle.sp_grammar.specs.Reads.{IsRead}
use Rattle.sp_grammar.specs.Starts.{start_number}

-- the grammar reads all these kinds as a module, a type, a statement or an expression, and passes these actions
abbrev pub IsSentence : Start → List ℕ → List ActionAt → Type 0
IsSentence start kinds actions = IsRead own (start_number start) kinds actions

-- some sentence of this kind begins with the kinds
abbrev pub BeginsSentence : Start → List ℕ → Type 0
BeginsSentence start kinds = (more : List ℕ) × (actions : List ActionAt) × AreKinds more × IsSentence start (kinds ++ more) actions

-- the first m kinds begin some sentence of this kind, and no more of them do
pub record IsLongestPrefix (start : Start) (kinds : List ℕ) (m : ℕ) : Type 0 where
  pub within : m ≤ length kinds
  pub begins : BeginsSentence start (take m kinds)
  pub stops : m < length kinds → ¬ BeginsSentence start (take (m + 1) kinds)

-- What is made of the kinds from place `at` on, where the actions that were passed are those of which this is true: the place
-- behind their longest prefix, if that is a sentence with the actions that were passed, and else too.
abbrev pub IsParsed : Start → List ℕ → ℕ → (List ActionAt → Type 0) → Outcome → Type 0
IsParsed start kinds at ArePassed (Phrase j) = (m : ℕ) × (j ≡ at + m) × IsLongestPrefix start kinds m × ((actions : List ActionAt) × ArePassed actions × IsSentence start (take m kinds) actions)
IsParsed start kinds at ArePassed (Refused j) = (m : ℕ) × (j ≡ at + m) × IsLongestPrefix start kinds m × ((actions : List ActionAt) → ¬ IsSentence start (take m kinds) actions)
