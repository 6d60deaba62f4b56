use Rattle.sp_type_members.proofs.EndlessLaws.{has_place}
use Rattle.sp_type_members.proofs.laws.none_is_passed_over.Goals as goal

pub returns : goal.returns
returns c = has_place
