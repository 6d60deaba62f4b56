use Rattle.sp_law_printed_words.proofs.Faultless.{no_other_fault}
use Rattle.sp_law_printed_words.proofs.laws.words_have_no_other_fault.Goals as goal

pub returns : goal.returns
returns c = no_other_fault
