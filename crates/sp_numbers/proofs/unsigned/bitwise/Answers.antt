use Rattle.std.proofs.lemmas.Nat.{or_lt, xor_lt}
use Rattle.sp_numbers.proofs.unsigned.bitwise.Goals as goal

pub returns-in-Or-clause-in_width : goal.returns-in-Or-clause-in_width
returns-in-Or-clause-in_width c bits p q = or_lt bits c.args.a c.args.b p q

pub returns-in-Xor-clause-in_width : goal.returns-in-Xor-clause-in_width
returns-in-Xor-clause-in_width c bits p q = xor_lt bits c.args.a c.args.b p q
