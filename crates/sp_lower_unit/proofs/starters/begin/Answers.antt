use Rattle.std.proofs.Common.{◌<◌, ℕ, List, length, sym, subst}
use Rattle.std.specs.List.{AllByRecursion}
use Rattle.sp_lower_unit.proofs.Begun.{function_begun}
use Rattle.sp_lower_unit.proofs.starters.begin.Goals as goal

pub begin-requires : goal.begin-requires
begin-requires c =
    let kinds = c.row.new.self.kinds in
    record { round = c.in_ok-kind.ensures.number.within; locals = subst (λ (ns : List ℕ). AllByRecursion (λ n. n < length kinds) ns) (sym c.new-locals.ensures.items) tt }

pub returns : goal.returns
returns c = function_begun c.args.out.now c.row.new.self _ c.args.unit _ _ c.in_ok-kind.ensures.number c.row.ensures.same c.new-locals.ensures.items c.begin.ensures
