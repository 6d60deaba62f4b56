use Rattle.std.proofs.Common.{◌≡◌, ◌++◌, map, drop}
use Rattle.sp_type_declarations.specs.Conversions.{endless}
use Rattle.sp_type_declarations.proofs.conversion_rows.at_sites.Given as goal

abbrev pub invariant-loop-site : goal.invariant-loop-site
invariant-loop-site g l =
    let around = map g.C.Context.around l.contexts in
    let values = g.V.Constants.values l.constants in
    l.list.items ++ endless l.rows around values l.types (drop l.site-index l.sites) ≡ endless l.rows around values l.types l.sites
