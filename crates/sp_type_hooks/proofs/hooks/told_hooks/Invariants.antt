use Rattle.std.proofs.Common.{◌≡◌, ◌++◌, drop, map}
use Rattle.sp_type_hooks.specs.Hooks.{typed_hooks}
use Rattle.sp_type_hooks.specs.inside.Tables.{seen_told}
use Rattle.sp_type_hooks.proofs.hooks.told_hooks.Given as goal

abbrev pub invariant-loop-i : goal.invariant-loop-i
invariant-loop-i g l =
    let contexts = map g.C.Context.around l.contexts in
    let ranks = g.R.Ranks.ranks l.ranks in
    l.hooks.items ++ typed_hooks contexts ranks (seen_told l.types) l.units (drop l.i l.rows) ≡ typed_hooks contexts ranks (seen_told l.types) l.units l.rows
