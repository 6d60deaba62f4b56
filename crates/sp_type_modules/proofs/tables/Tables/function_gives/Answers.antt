use Rattle.std.proofs.Common.{◌∙◌}
use Rattle.sp_names.proofs.Lookups.{some_at, none_at}
use Rattle.sp_type_modules.proofs.Told.{gives_found, gives_none}
use Rattle.sp_type_modules.proofs.tables.Tables.function_gives.Goals as goal

pub returns-in-Some : goal.returns-in-Some
returns-in-Some c =
    let t = c.self.inside in
    let at = rw c.deref.ensures.value at c.in-Some.ensures.lookup in
    gives_found c.copy.result t.names.now t.known.now c.args.self.now t.functions.items c.args.function c.in-Some.table.now c.self.view_is c.self.invariant.functions_are (some_at t.functions.items c.args.function c.in-Some.table.now at.3.0 at.1) c.copy.ensures

pub returns-in-None : goal.returns-in-None
returns-in-None c =
    let t = c.self.inside in
    let at = rw c.deref.ensures.value at c.in-None.ensures.lookup in
    c.word.ensures ∙ gives_none t.names.now t.known.now c.args.self.now t.functions.items c.args.function c.self.view_is c.self.invariant.all_functions (none_at t.functions.items c.args.function at.3)
