use Rattle.std.proofs.Common.{false}
use Rattle.std.proofs.lemmas.List.{get_or-replicate}
use Rattle.sp_regex.proofs.class.unmarked.Goals as goal

pub returns : goal.returns
returns c k lt = get_or-replicate 256 k false false lt
