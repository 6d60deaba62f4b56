use Rattle.std.proofs.Common.{rules, ◌∷◌, []}
use Rattle.sp_ast.specs.declared.groups.Slot.TheVariants.{Part as part}
use Rattle.sp_ast.proofs.Several.{first_part, other_parts}
use Rattle.sp_ast.proofs.views.members.seven.Goals as goal

pub first-b-requires : goal.first-b-requires
first-b-requires g c κs =
    (search rules, first_part g.B.Member.sort (part g.C.Member.sort ∷ part g.D.Member.sort ∷ part g.E.Member.sort ∷ part g.F.Member.sort ∷ part g.G.Member.sort ∷ []) c.first-a.result.1 (other_parts _ (part g.B.Member.sort ∷ part g.C.Member.sort ∷ part g.D.Member.sort ∷ part g.E.Member.sort ∷ part g.F.Member.sort ∷ part g.G.Member.sort ∷ []) _ _ _ c.first-a.ensures c.requires))

pub first-c-requires : goal.first-c-requires
first-c-requires g c κs =
    (search rules, first_part g.C.Member.sort (part g.D.Member.sort ∷ part g.E.Member.sort ∷ part g.F.Member.sort ∷ part g.G.Member.sort ∷ []) c.first-b.result.1 (other_parts _ (part g.C.Member.sort ∷ part g.D.Member.sort ∷ part g.E.Member.sort ∷ part g.F.Member.sort ∷ part g.G.Member.sort ∷ []) _ _ _ c.first-b.ensures (other_parts _ (part g.B.Member.sort ∷ part g.C.Member.sort ∷ part g.D.Member.sort ∷ part g.E.Member.sort ∷ part g.F.Member.sort ∷ part g.G.Member.sort ∷ []) _ _ _ c.first-a.ensures c.requires)))

pub four-requires : goal.four-requires
four-requires g c κs =
    (search rules, other_parts _ (part g.D.Member.sort ∷ part g.E.Member.sort ∷ part g.F.Member.sort ∷ part g.G.Member.sort ∷ []) _ _ _ c.first-c.ensures (other_parts _ (part g.C.Member.sort ∷ part g.D.Member.sort ∷ part g.E.Member.sort ∷ part g.F.Member.sort ∷ part g.G.Member.sort ∷ []) _ _ _ c.first-b.ensures (other_parts _ (part g.B.Member.sort ∷ part g.C.Member.sort ∷ part g.D.Member.sort ∷ part g.E.Member.sort ∷ part g.F.Member.sort ∷ part g.G.Member.sort ∷ []) _ _ _ c.first-a.ensures c.requires)))
