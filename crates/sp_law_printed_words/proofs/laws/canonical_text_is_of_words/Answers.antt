use Rattle.sp_law_printed_words.proofs.Modules.{module_same}
use Rattle.sp_law_printed_words.proofs.laws.canonical_text_is_of_words.Goals as goal

pub returns : goal.returns
returns c = module_same
