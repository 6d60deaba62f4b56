-- The code of a starter keeps to its shapes, and a started machine keeps to them.
use Rattle.std.proofs.Common.{◌+◌, [], ◌∷◌, None, refl, sym, subst, append-nil}
use Rattle.sp_methods.specs.Kinds.{UnitOf}
use Rattle.sp_code.specs.Shapes.{OfFunction, push, with_operands, body_shape, Takes, Keeps}
use Rattle.sp_code_programs.specs.units.Units.{starter_kinds}
use Rattle.sp_law_code.proofs.units_lemmas.Kept.{units_enter}
use Rattle.sp_law_programs.specs.unit_told.Keeps.{StartersKeep, StartedKeeps}

pub starters_keep : StartersKeep
starters_keep p shapes list u x fits code parts_show ending_shows failing_shows kinds listed are at shows =
    let base = body_shape None (OfFunction (UnitOf u)) [] in
    let ks = starter_kinds list x in
    let s = with_operands base ks in
    let taken : Takes p shapes at s ks (UnitOf u ∷ []) = ([], sym (append-nil ks), shows.1.0) in
    let enters = units_enter p shapes list u x fits code parts_show ending_shows failing_shows kinds ks listed are at s taken in (
      (λ i is. subst (λ j. Keeps p shapes j at s) (sym is) enters),
      ((λ i is. subst (λ j. Keeps p shapes j (at + 1) (push (UnitOf u) base)) (sym is) (UnitOf u, [], refl, refl, refl)), tt),
    )

pub started_keeps : StartedKeeps
started_keeps p shapes list u x at shows ws have =
    record {
      units = [];
      shape = with_operands (body_shape None (OfFunction (UnitOf u)) []) (starter_kinds list x);
      shown = shows.0;
      holds = record { told = refl; instances = tt; self = tt; locals = tt };
      operands = have;
      framed = tt;
    }
