use Rattle.std.proofs.Common.{◌≡◌, Option, option_copied, sym, ap, subst, ◌∙◌, IfOk}
use Rattle.std.specs.Borrow.{Bor}
use Rattle.sp_types.specs.declared.words.Word.TheVariants as word_is
use Rattle.sp_types.specs.Types.{Ty, word}
use Rattle.sp_typed_units.specs.declared.items.Field.{Field}
use Rattle.sp_meaning_states.specs.Types.{kind_of_type}
use Rattle.sp_meaning.specs.Globals.{globals_of}
use Rattle.sp_code_programs.specs.programs.Currents.{current_type}
use Rattle.sp_lower_tables.specs.Numbers.{GivesNumber}
use Rattle.sp_lower_tables.proofs.Read.{no_field}
use Rattle.sp_lower_tables.proofs.currents.current.Goals as goal

pub returns-in-None : goal.returns-in-None
returns-in-None c =
    let ranges = (globals_of c.args.list.now).ranges in
    let none : current_type c.args.of (option_copied c.args.field) ≡ word word_is.Void = ap (λ (o : Option (Bor Field)). current_type c.args.of (option_copied o)) c.in-None.is ∙ no_field c.args.of in
    subst (λ (t : Ty). IfOk c.row_number.result (GivesNumber c.args.out.now c.row_number.new.out (kind_of_type ranges t))) (sym none) c.row_number.ensures
