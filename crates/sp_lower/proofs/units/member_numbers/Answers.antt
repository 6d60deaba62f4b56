use Rattle.std.proofs.Common.{List, ap}
use Rattle.sp_typed_units.specs.declared.declarations.Member.{Member}
use Rattle.sp_meaning.specs.Globals.{globals_of}
use Rattle.sp_code_programs.specs.programs.Units.{member_kinds}
use Rattle.sp_lower_tables.proofs.Numbered.{gives_all, numbers_as}
use Rattle.sp_lower.proofs.units.member_numbers.Goals as goal

pub returns : goal.returns
returns c =
    numbers_as _ _ _ _ _ (ap (λ (l : List Member). member_kinds (globals_of c.args.list.now).ranges l) c.as_slice.ensures)
    (gives_all _ _ _ _ _ c.new-numbers.ensures.items c.in_ok-add_members.ensures)
