use Rattle.sp_driver.proofs.Wanting.{some_of}
use Rattle.sp_driver.proofs.driver.wanted_of.Goals as goal

pub returns-clause-some : goal.returns-clause-some
returns-clause-some c = some_of c.args.words.now c.words_wanted.result c.words_wanted.ensures.value c.words_wanted.ensures.range
