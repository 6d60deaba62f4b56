use Rattle.std.specs.Prelude.{option_map}
use Rattle.std.proofs.Common.{◌≡◌, Some, sym, ap, ◌∙◌}
use Rattle.sp_choose.specs.Choices.{chosen}
use Rattle.sp_driver.proofs.compile.compile.Goals as goal

pub returns-clause-ok : goal.returns-clause-ok
returns-clause-ok c =
    let name = option_map (λ x. x.now) c.args.name in
    let is : chosen name c.args.list.now.typed.units ≡ Some c.in_ok-unit.unit = ap (λ us. chosen name us) (sym c.as_slice.ensures) ∙ c.in_ok-unit.ensures.ok in
    record {
      unit = record { unit = is; built = c.in_ok-can_run.ensures.built };
      runs = c.in_ok-program.ensures name c.in_ok-unit.unit is;
    }
