use Rattle.std.proofs.Common.{◌≡◌, ◌∙◌, ap, sym, None, Some}
use Rattle.std.specs.Prelude.{option_copied, slice_get}
use Rattle.sp_solver.specs.Told.{told}
use Rattle.sp_names.specs.Names.{declaration_of}
use Rattle.sp_type_modules.specs.Heads.{function_declaration}
use Rattle.sp_type_modules.proofs.Steps.{function_at, function_is}
use Rattle.sp_type_modules.proofs.tables.function_table_at.Goals as goal

pub returns-in-Some : goal.returns-in-Some
returns-in-Some c =
    let list = c.args.names.now in
    let n = c.args.place in
    let d = c.in-Some.declaration.now in
    let at : Some d ≡ function_declaration list n = sym (ap option_copied c.in-Some.is) ∙ c.declaration_at.ensures ∙ ap (λ l. declaration_of list (slice_get l n)) c.functions.ensures in
    let e = c.function_table.ensures in
    function_at c.function_table.result list (told c.args.known.now) n d at e.takes e.gives

pub returns-in-None : goal.returns-in-None
returns-in-None c =
    let list = c.args.names.now in
    let n = c.args.place in
    let at : None ≡ function_declaration list n = sym (ap option_copied c.in-None.is) ∙ c.declaration_at.ensures ∙ ap (λ l. declaration_of list (slice_get l n)) c.functions.ensures in
    let e = c.no_function.ensures in
    function_is list (told c.args.known.now) n None c.no_function.result at e.takes e.gives
