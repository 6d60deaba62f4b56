use Rattle.std.proofs.Common.{ap, ◌∙◌}
use Rattle.sp_code.specs.Programs.{kind_at, kinds_at}
use Rattle.sp_emit.proofs.Growing.{kinds_before, number_before}
use Rattle.sp_emit.proofs.Parts.{vector_made, set_made, map_made}
use Rattle.sp_emit.proofs.kinds.KindTable.made.Goals as goal

pub returns-in_ok-item-in-Vector-clause-number : goal.returns-in_ok-item-in-Vector-clause-number
returns-in_ok-item-in-Vector-clause-number c =
    vector_made _ _ _ c.part.new.self _ _ _ c.in-Vector.is (ap (λ ns. kinds_at c.args.self.now ns) c.deref.ensures.value) c.in_ok-item-in-Vector.ensures.number c.row-in-Vector.ensures.number

pub returns-in_ok-key-in-Set-clause-number : goal.returns-in_ok-key-in-Set-clause-number
returns-in_ok-key-in-Set-clause-number c =
    set_made _ _ _ c.part-in-Set.new.self _ _ _ c.in-Set.is (ap (λ ns. kinds_at c.args.self.now ns) c.deref-in-Set.ensures.value) c.in_ok-key-in-Set.ensures.number c.row-in-Set.ensures.number

pub returns-in_ok-value-in-Map-clause-number : goal.returns-in_ok-value-in-Map-clause-number
returns-in_ok-value-in-Map-clause-number c =
    map_made _ _ c.part-in-Map-2.new.self _ _ _ _ _ _ c.in-Map.is (ap (λ ns. kind_at (kinds_at c.args.self.now ns) 0) c.deref-in-Map.ensures.value)
    (ap (λ ns. kind_at (kinds_at c.part-in-Map.new.self ns) 1) c.deref-in-Map-2.ensures.value ∙ ap (λ ks. kind_at ks 1) (kinds_before c.args.self.now c.part-in-Map.new.self c.args.parts.items c.part-in-Map.ensures.grows c.requires))
    (number_before _ _ _ _ c.part-in-Map-2.ensures.grows c.in_ok-key-in-Map.ensures.number) c.in_ok-value-in-Map.ensures.number c.row-in-Map.ensures.number
