use Rattle.std.proofs.Common.{rules, ◌∷◌, []}
use Rattle.sp_ast.specs.declared.groups.Slot.TheVariants.{Part as part}
use Rattle.sp_ast.proofs.Several.{other_parts}
use Rattle.sp_ast.proofs.views.members.four.Goals as goal

pub three-b-requires : goal.three-b-requires
three-b-requires g c κs = (search rules, other_parts _ (part g.B.Member.sort ∷ part g.C.Member.sort ∷ part g.D.Member.sort ∷ []) _ _ _ c.first-a.ensures c.requires)
