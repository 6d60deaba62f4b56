-- What the calls answer.
use Rattle.std.specs.Prelude.{◌≡◌, ℕ, List}
use Rattle.sp_base.specs.declared.kinds.BKind.{BKind}
use Rattle.sp_base.specs.declared.kinds.BKind.TheVariants.{BadHeader, BadRecord, UnknownFlow, FlowTwice, UnknownParser, CutShort}
use Rattle.sp_batch.specs.declared.record.BatchFault.{BatchFault}
use Rattle.sp_batch.specs.declared.record.BatchFault.TheVariants.{Bad, NoMemory}
use Rattle.sp_batch.specs.declared.reading.Reading.{Reading as Answer}
use Rattle.sp_batch.specs.declared.reading.Reading.TheVariants.{Found, Bad as BadText}
use Rattle.sp_batch.specs.Grammar.{IsBad, IsCutShort}
use Rattle.sp_batch.specs.Reading.{Reading, found, bad}

-- what the code found, as what the text begins with
abbrev pub reading_of : Answer → Reading
reading_of (Found r rest) = found r rest.now
reading_of (BadText kind) = bad kind

-- what is wrong with the text at a place
abbrev pub IsWrong : List ℕ → BKind → Type 0
IsWrong text BadRecord = IsBad text
IsWrong text CutShort = IsCutShort text
IsWrong text BadHeader = ⊥
IsWrong text UnknownFlow = ⊥
IsWrong text FlowTwice = ⊥
IsWrong text UnknownParser = ⊥

-- the refusal is that of the text at this place
abbrev pub IsFault : List ℕ → ℕ → BatchFault → Type 0
IsFault text at (Bad kind place) = (place ≡ at) × IsWrong text kind
IsFault text at NoMemory = Unit {0}
