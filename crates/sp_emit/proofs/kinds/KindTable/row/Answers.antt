use Rattle.std.proofs.Common.{[], ◌∷◌, ◌++◌, length, get_or, subst, sym, arith}
use Rattle.sp_code.specs.Programs.{kind_of_row, kinds_from}
use Rattle.sp_emit.specs.Kinds.{IsNumberOf, NamesBelow}
use Rattle.sp_emit.proofs.Growing.{grows_by, from_more, row_is_last, last_number, known_number}
use Rattle.sp_emit.proofs.kinds.KindTable.row.Goals as goal

pub returns-then-is_same-clause-number : goal.returns-then-is_same-clause-number
returns-then-is_same-clause-number c =
    let table = c.self.inside.rows.items in
    let known = get_or c.self.inside.recent c.place_of-place.result 0 in
    subst (λ ks. IsNumberOf ks (kind_of_row ks c.args.row) known) c.self.view_is
    (known_number table known c.index.result.now c.args.row c.self.invariant (omega arith) c.index.ensures (c.is_same.ensures c.if-is_same.true))

pub invariant_of-self-2 : goal.invariant_of-self-2
invariant_of-self-2 c =
    rw c.in_ok-push.ensures.items (row_is_last c.self.inside.rows.items c.args.row c.self.invariant (subst (λ ks. NamesBelow (length ks) c.args.row) (sym c.self.view_is) c.requires))

pub returns-clause-number : goal.returns-clause-number
returns-clause-number c =
    rw (c.in_ok-push.ensures.items, ← c.self.view_is)
    (subst (λ n. IsNumberOf (kinds_from [] (c.self.inside.rows.items ++ c.args.row ∷ [])) (kind_of_row (kinds_from [] c.self.inside.rows.items) c.args.row) n)
    (omega arith) (last_number c.self.inside.rows.items c.args.row))

pub returns-clause-grows : goal.returns-clause-grows
returns-clause-grows c =
    rw (c.in_ok-push.ensures.items, ← c.self.view_is, from_more [] c.self.inside.rows.items c.args.row)
    (grows_by _ _)
