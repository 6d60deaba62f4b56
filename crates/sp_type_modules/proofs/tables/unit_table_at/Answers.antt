use Rattle.std.proofs.Common.{◌≡◌, ◌∙◌, ap, sym, refl, None, Some}
use Rattle.std.specs.Prelude.{option_copied, slice_get}
use Rattle.sp_solver.specs.Told.{told}
use Rattle.sp_names.specs.Names.{declaration_of}
use Rattle.sp_type_modules.specs.Members.{unit_declaration}
use Rattle.sp_type_modules.proofs.Steps.{unit_at, no_unit}
use Rattle.sp_type_modules.proofs.tables.unit_table_at.Goals as goal

pub returns-in-Some : goal.returns-in-Some
returns-in-Some c =
    let list = c.args.names.now in
    let n = c.args.place in
    let d = c.in-Some.declaration.now in
    let at : Some d ≡ unit_declaration list n = sym (ap option_copied c.in-Some.is) ∙ c.declaration_at.ensures ∙ ap (λ l. declaration_of list (slice_get l n)) c.units.ensures in
    let e = c.unit_table.ensures in
    unit_at c.unit_table.result list (told c.args.known.now) n d c.args.first at e.members e.first e.takes

pub returns-in-None : goal.returns-in-None
returns-in-None c =
    let list = c.args.names.now in
    let n = c.args.place in
    let at : None ≡ unit_declaration list n = sym (ap option_copied c.in-None.is) ∙ c.declaration_at.ensures ∙ ap (λ l. declaration_of list (slice_get l n)) c.units.ensures in
    λ is. no_unit list (told c.args.known.now) n (record { members = c.no_members.result; first = c.args.first; takes = c.new.result }) c.args.first at c.no_members.ensures refl c.new.ensures.items is
