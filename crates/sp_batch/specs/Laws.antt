-- A text begins with one record at most, and is a batch of one list of records at most.
use Rattle.std.specs.Prelude.{◌≡◌, ◌≢◌, ◌⊎◌, ℕ, List, []}
use Rattle.sp_batch.specs.declared.record.Record.{Record}
use Rattle.sp_batch.specs.Grammar.{IsRecord, IsCutShort, IsBad, IsBatch}

abbrev pub OneRecord : Type 0
OneRecord = (text rest other : List ℕ) (r s : Record) → IsRecord text r rest → IsRecord text s other → (r ≡ s) × (rest ≡ other)

-- a text that isn't empty begins with a record, is cut short or is bad
abbrev pub SomeAnswer : Type 0
SomeAnswer = (text : List ℕ) → text ≢ [] → ((r : Record) × (rest : List ℕ) × IsRecord text r rest) ⊎ IsCutShort text ⊎ IsBad text

-- and only one of these
abbrev pub OneAnswer : Type 0
OneAnswer = (text rest : List ℕ) (r : Record) →
    (IsRecord text r rest → ¬ IsCutShort text) × (IsRecord text r rest → ¬ IsBad text) × (IsCutShort text → ¬ IsBad text)

abbrev pub OneBatch : Type 0
OneBatch = (text : List ℕ) (rs ss : List Record) → IsBatch text rs → IsBatch text ss → rs ≡ ss
