use Rattle.std.specs.Int.{w64}
use Rattle.std.proofs.lemmas.Nat.Bits.{bit_at_clear_same, bit_at_clear_other}
use Rattle.sp_match.proofs.Words.{cleared_less}
use Rattle.sp_match.proofs.bits.without.Goals as goal

pub returns-clause-less : goal.returns-clause-less
returns-clause-less c = cleared_less c.args.word c.args.bit c.requires.within c.requires.set

pub returns-clause-cleared : goal.returns-clause-cleared
returns-clause-cleared c = bit_at_clear_same w64 c.args.word c.args.bit c.requires.within

pub returns-clause-others : goal.returns-clause-others
returns-clause-others c = λ i lt ne. bit_at_clear_other w64 c.args.word c.args.bit c.requires.within i lt ne
