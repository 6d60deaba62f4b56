-- Rows on which the definitions are run.
use Rattle.std.specs.Prelude.{◌≡◌, [], ◌∷◌, Some, None, Ok, Err, true, false, refl}
use Rattle.sp_base.specs.declared.kinds.PKind.TheVariants.{Overflow, LateInitial, SinkClosed}
use Rattle.sp_reasm.specs.declared.notes.Note.TheVariants.{Overlap, Undelivered, Skipped, Deliver, Gap as Missing, Closed}
use Rattle.sp_reasm.specs.Sink.{new_sink, write, gap, skip, close, set_initial, tale}

pub overlap_row : tale new_sink (write (Some 4) (69 ∷ 70 ∷ []) ∷ write (Some 0) (65 ∷ 66 ∷ []) ∷ write (Some 2) (67 ∷ 68 ∷ 88 ∷ 71 ∷ []) ∷ [])
    ≡ ((Ok ([]), 6) ∷ (Ok (Deliver 0 (65 ∷ 66 ∷ []) ∷ []), 6) ∷ (Ok (Overlap 4 (69 ∷ 70 ∷ []) (88 ∷ 71 ∷ []) ∷ Deliver 2 (67 ∷ 68 ∷ 69 ∷ 70 ∷ []) ∷ []), 6) ∷ [])
overlap_row = refl

pub overlap_runs : tale new_sink (write (Some 1) (98 ∷ []) ∷ write (Some 3) (100 ∷ []) ∷ write (Some 5) (102 ∷ []) ∷ write (Some 0) (65 ∷ 66 ∷ 67 ∷ 68 ∷ 69 ∷ 70 ∷ 71 ∷ []) ∷ [])
    ≡ ((Ok ([]), 2) ∷ (Ok ([]), 4) ∷ (Ok ([]), 6) ∷ (Ok (Overlap 1 (98 ∷ []) (66 ∷ []) ∷ Overlap 3 (100 ∷ []) (68 ∷ []) ∷ Overlap 5 (102 ∷ []) (70 ∷ []) ∷ Deliver 0 (65 ∷ 98 ∷ 67 ∷ 100 ∷ 69 ∷ 102 ∷ 71 ∷ []) ∷ []), 7) ∷ [])
overlap_runs = refl

pub overlap_of_two_writes : tale new_sink (write (Some 1) (98 ∷ 99 ∷ []) ∷ write (Some 3) (100 ∷ 101 ∷ []) ∷ write (Some 0) (65 ∷ 66 ∷ 67 ∷ 68 ∷ 69 ∷ 70 ∷ []) ∷ [])
    ≡ ((Ok ([]), 3) ∷ (Ok ([]), 5) ∷ (Ok (Overlap 1 (98 ∷ 99 ∷ 100 ∷ 101 ∷ []) (66 ∷ 67 ∷ 68 ∷ 69 ∷ []) ∷ Deliver 0 (65 ∷ 98 ∷ 99 ∷ 100 ∷ 101 ∷ 70 ∷ []) ∷ []), 6) ∷ [])
overlap_of_two_writes = refl

pub gap_between : tale new_sink (write (Some 5) (102 ∷ []) ∷ gap 3 2 ∷ write (Some 2) (67 ∷ 68 ∷ 69 ∷ 70 ∷ 71 ∷ []) ∷ write (Some 0) (97 ∷ 98 ∷ []) ∷ [])
    ≡ ((Ok ([]), 6) ∷ (Ok ([]), 6) ∷ (Ok (Overlap 5 (102 ∷ []) (70 ∷ []) ∷ []), 7) ∷ (Ok (Deliver 0 (97 ∷ 98 ∷ 67 ∷ []) ∷ Missing 3 2 ∷ Deliver 5 (102 ∷ 71 ∷ []) ∷ []), 7) ∷ [])
gap_between = refl

pub gap_round_data : tale new_sink (write (Some 2) (99 ∷ 100 ∷ 101 ∷ 102 ∷ []) ∷ gap 0 8 ∷ [])
    ≡ ((Ok ([]), 6) ∷ (Ok (Missing 0 2 ∷ Deliver 2 (99 ∷ 100 ∷ 101 ∷ 102 ∷ []) ∷ Missing 6 2 ∷ []), 8) ∷ [])
gap_round_data = refl

pub empty_gap_begins : tale new_sink (gap 0 0 ∷ set_initial 5 ∷ [])
    ≡ ((Ok ([]), 0) ∷ (Err LateInitial, 0) ∷ [])
empty_gap_begins = refl

pub skip_into_data : tale new_sink (write (Some 2) (99 ∷ 100 ∷ []) ∷ write (Some 6) (103 ∷ 104 ∷ []) ∷ skip 7 ∷ [])
    ≡ ((Ok ([]), 4) ∷ (Ok ([]), 8) ∷ (Ok (Undelivered 2 (99 ∷ 100 ∷ []) ∷ Undelivered 6 (103 ∷ []) ∷ Skipped 7 ∷ Deliver 7 (104 ∷ []) ∷ []), 8) ∷ [])
skip_into_data = refl

pub skip_past_a_gap : tale new_sink (write (Some 1) (98 ∷ []) ∷ gap 2 2 ∷ write (Some 4) (101 ∷ []) ∷ skip 3 ∷ [])
    ≡ ((Ok ([]), 2) ∷ (Ok ([]), 4) ∷ (Ok ([]), 5) ∷ (Ok (Undelivered 1 (98 ∷ []) ∷ Skipped 3 ∷ Missing 3 1 ∷ Deliver 4 (101 ∷ []) ∷ []), 5) ∷ [])
skip_past_a_gap = refl

pub data_behind_a_skip : tale new_sink (write (Some 2) (99 ∷ []) ∷ skip 1 ∷ write (Some 0) (97 ∷ 98 ∷ 99 ∷ []) ∷ [])
    ≡ ((Ok ([]), 3) ∷ (Ok (Skipped 1 ∷ []), 3) ∷ (Ok (Overlap 2 (99 ∷ []) (99 ∷ []) ∷ Deliver 1 (98 ∷ 99 ∷ []) ∷ []), 3) ∷ [])
data_behind_a_skip = refl

pub initial_number : tale new_sink (set_initial 3 ∷ write (Some 3) (97 ∷ []) ∷ write (Some 2) (98 ∷ []) ∷ write (Some 4) (99 ∷ []) ∷ [])
    ≡ ((Ok ([]), 3) ∷ (Ok (Deliver 3 (97 ∷ []) ∷ []), 4) ∷ (Err Overflow, 4) ∷ (Ok (Deliver 4 (99 ∷ []) ∷ []), 5) ∷ [])
initial_number = refl

pub close_gives_up : tale new_sink (set_initial 5 ∷ write (Some 7) (99 ∷ []) ∷ write (Some 9) (101 ∷ []) ∷ close false ∷ write (Some 4) (120 ∷ []) ∷ write (Some 0) (121 ∷ []) ∷ [])
    ≡ ((Ok ([]), 5) ∷ (Ok ([]), 8) ∷ (Ok ([]), 10) ∷ (Ok (Undelivered 7 (99 ∷ []) ∷ Undelivered 9 (101 ∷ []) ∷ Closed ∷ []), 0) ∷ (Ok ([]), 5) ∷ (Ok (Deliver 0 (121 ∷ []) ∷ []), 5) ∷ [])
close_gives_up = refl

pub closed_for_good : tale new_sink (close true ∷ set_initial 4611686018427387909 ∷ write None (97 ∷ []) ∷ write (Some 18446744073709551615) (97 ∷ []) ∷ [])
    ≡ ((Ok (Closed ∷ []), 0) ∷ (Ok ([]), 0) ∷ (Err SinkClosed, 0) ∷ (Err SinkClosed, 0) ∷ [])
closed_for_good = refl
