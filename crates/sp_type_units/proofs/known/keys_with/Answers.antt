use Rattle.std.proofs.Common.{◌∙◌, sym}
use Rattle.sp_type_units.proofs.Finding.{none_found}
use Rattle.sp_type_units.proofs.known.keys_with.Goals as goal

pub returns-then-is_empty : goal.returns-then-is_empty
returns-then-is_empty c = none_found c.args.tables.now.0 c.args.sites.now c.args.hooks.now c.none.result (sym c.is_empty.ensures ∙ c.if-is_empty.true)
