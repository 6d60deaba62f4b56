use Rattle.sp_law_lists.proofs.known_types_lemmas.Typed.{typed_holds, whole_value}
use Rattle.sp_law_lists.proofs.known_types.types_are_known.Goals as goal

pub returns-clause-inside : goal.returns-clause-inside
returns-clause-inside c = λ g only k m is_type is_path t known is clear. typed_holds g only k m is_type is_path known t is clear

pub returns-clause-values : goal.returns-clause-values
returns-clause-values c = whole_value
