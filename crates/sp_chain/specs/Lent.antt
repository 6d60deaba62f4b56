-- What the lists end as, where a `&mut` to an item is lent.
use Rattle.std.specs.Prelude.{ℕ}
use Rattle.std.specs.Borrow.{Lends, Fml, RattleType, MutBor}
use Rattle.sp_chain.specs.Chains.{Chains, with_slot}
use Rattle.sp_chain.specs.contracts.lists.Chains.{the_row}

-- once the borrow ends, the slot has the last value written through it
abbrev pub lends_slot : (T : RattleType) → MutBor (Chains T.Denot) → ℕ → ℕ → MutBor T.Denot → Fml
lends_slot T chains l s r = Lends (the_row T) T chains r (with_slot chains.now l s)
