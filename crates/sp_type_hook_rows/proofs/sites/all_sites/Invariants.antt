use Rattle.std.proofs.Common.{◌≡◌, ◌++◌, drop}
use Rattle.sp_names.specs.Declarations.{rows}
use Rattle.sp_type_hook_rows.specs.Sites.{sites, sites_from}
use Rattle.sp_type_hook_rows.proofs.sites.all_sites.Given as goal

abbrev pub invariant-loop-g : goal.invariant-loop-g
invariant-loop-g l = l.sites.items ++ sites_from l.names l.g (drop l.g (rows l.names)) ≡ sites l.names
