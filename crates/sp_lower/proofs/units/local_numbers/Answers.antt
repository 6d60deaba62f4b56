use Rattle.sp_lower.proofs.Counted.{gives_slots}
use Rattle.sp_lower.proofs.units.local_numbers.Goals as goal

pub returns : goal.returns
returns c = gives_slots _ _ _ _ _ _ c.in_ok-unsigned.ensures c.in_ok-signed.ensures c.in_ok-numbers.ensures.items
