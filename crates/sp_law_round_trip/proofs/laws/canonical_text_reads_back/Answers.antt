use Rattle.sp_law_round_trip.proofs.Canonical.{only_too_deep, reads_back, reads_whole}
use Rattle.sp_law_round_trip.proofs.laws.canonical_text_reads_back.Goals as goal

pub returns-clause-reads_back : goal.returns-clause-reads_back
returns-clause-reads_back c = λ lexed m is read small shallow. reads_whole lexed m is read small shallow

pub returns-clause-same : goal.returns-clause-same
returns-clause-same c = λ lexed m is read tokens again. reads_back lexed m is read tokens again

pub returns-clause-no_other_fault : goal.returns-clause-no_other_fault
returns-clause-no_other_fault c = λ lexed m is read small span kind fault. only_too_deep lexed m is read small span kind fault
