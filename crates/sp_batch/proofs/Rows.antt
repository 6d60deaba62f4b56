-- What texts begin with, computed.
use Rattle.std.specs.Prelude.{false, codes}
use Rattle.std.specs.Fmt.{digits}
use Rattle.std.proofs.Common.{◌≡◌, [], refl}
use Rattle.sp_base.specs.declared.kinds.BKind.TheVariants.{BadRecord, CutShort}
use Rattle.sp_batch.specs.declared.record.Record.TheVariants.{BeginFlow, Data, Gap}
use Rattle.sp_batch.specs.Reading.{found, bad, read}

flow : read (codes "@begin-flow a stream M::U\n@data") ≡ found (BeginFlow (codes "a") false (codes "M::U")) (codes "@data")
flow = refl

data_row : read (codes "@data a 1\nA\n@") ≡ found (Data (codes "a") (codes "A")) (codes "@")
unfolding digits
data_row = refl

last_data : read (codes "@data a 1\n\n") ≡ found (Data (codes "a") (codes "\n")) []
unfolding digits
last_data = refl

no_data : read (codes "@data a 0\n") ≡ found (Data (codes "a") []) []
unfolding digits
no_data = refl

gap : read (codes "@gap a 5") ≡ found (Gap (codes "a") 5) []
unfolding digits
gap = refl

without_end : read (codes "@data a 0") ≡ bad CutShort
unfolding digits
without_end = refl

too_short : read (codes "@data a 5\nAB") ≡ bad CutShort
unfolding digits
too_short = refl

too_long : read (codes "@data a 1\nAB\n") ≡ bad BadRecord
unfolding digits
too_long = refl

begun : read (codes "@data a") ≡ bad BadRecord
begun = refl

leading_zero : read (codes "@gap a 05\n") ≡ bad BadRecord
unfolding digits
leading_zero = refl

empty_line : read (codes "\n") ≡ bad BadRecord
empty_line = refl
