use Rattle.std.proofs.Common.{Option, subst}
use Rattle.sp_typed_units.specs.declared.items.Field.{Field}
use Rattle.sp_methods.specs.Kinds.{Unsigned}
use Rattle.sp_meaning_states.specs.Types.{kind_of_type}
use Rattle.sp_meaning.specs.Globals.{globals_of}
use Rattle.sp_code_programs.specs.programs.Currents.{current_type}
use Rattle.sp_lower_tables.specs.Numbers.{GivesNumber}
use Rattle.sp_lower_tables.proofs.Numbered.{gives_two}
use Rattle.sp_lower.proofs.hooks.current_numbers.Goals as goal

pub returns : goal.returns
returns c =
    let ranges = (globals_of c.args.fields.now.list.now).ranges in
    let x = c.args.x.now in
    let first = subst (λ (o : Option Field). GivesNumber c.args.out.now c.current.new.out (kind_of_type ranges (current_type x.of o)) c.in_ok-first.first) c.at.ensures c.in_ok-first.ensures in
    gives_two _ _ _ _ Unsigned _ _ _ first c.in_ok-second.ensures c.in_ok-numbers.ensures.items
