use Rattle.std.proofs.Common.{◌<◌, ℕ, List, length, sym, subst}
use Rattle.std.specs.List.{AllByRecursion}
use Rattle.sp_lower_unit.proofs.Begun.{slots_below, begun, round_below}
use Rattle.sp_lower_unit.proofs.units.begin.Goals as goal

pub begin-requires : goal.begin-requires
begin-requires c =
    let kinds = c.row-2.new.self.kinds in
    let below = slots_below c.row.new.self c.row-2.new.self _ _ c.in_ok-unsigned.ensures.number c.row-2.ensures.same c.in_ok-signed.ensures.number in
    record { round = round_below (length kinds) c.args.round c.requires; locals = subst (λ (ns : List ℕ). AllByRecursion (λ n. n < length kinds) ns) (sym c.in_ok-locals.ensures.items) below }

pub returns : goal.returns
returns c =
    begun c.args.out.now c.row.new.self c.row-2.new.self _ c.args.unit _ _ c.args.round _ c.requires c.in_ok-unsigned.ensures.number c.row.ensures.same c.in_ok-signed.ensures.number c.row-2.ensures.same c.in_ok-locals.ensures.items
    c.begin.ensures
