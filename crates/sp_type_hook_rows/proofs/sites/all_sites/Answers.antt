use Rattle.std.proofs.Common.{◌≡◌, ◌+◌, ◌++◌, ap, sym, subst, ◌∙◌, append_assoc, drop, List}
use Rattle.sp_names.specs.declared.rows.Declaration.{Declaration}
use Rattle.sp_names.specs.Declarations.{rows, number_at}
use Rattle.sp_type_hook_rows.specs.Sites.{sites_of, sites_from}
use Rattle.sp_type_hook_rows.proofs.Steps.{sites_next}
use Rattle.sp_type_hook_rows.proofs.sites.all_sites.Goals as goal

pub loop-g-preserved : goal.loop-g-preserved
loop-g-preserved c =
    let names = c.args.names.now in
    let g = c.loop-g.g in
    let d = c.index-rows-g.result in
    let old = c.loop-g.sites.items in
    let rest = sites_from names (g + 1) (drop (g + 1) (rows names)) in
    let step = sites_next names c.rows-rows.result.now g d c.loop-g-test.true c.index-rows-g.is in
    let here =
    subst (λ (ds : List Declaration). sites_from names g (drop g ds) ≡ sites_of d.«module» (number_at names g) d.tree ++ sites_from names (g + 1) (drop (g + 1) ds)) c.rows-rows.ensures step in
    let number = c.number-unit.ensures ∙ ap (number_at names) c.in-Ok-or_drop.ensures in
    ap (λ l. l ++ rest) c.in-Ok-or_drop-2.ensures
    ∙ append_assoc old (sites_of d.«module» c.number-unit.result d.tree) rest
    ∙ ap (λ n. old ++ (sites_of d.«module» n d.tree ++ rest)) number
    ∙ ap (λ l. old ++ l) (sym here)
    ∙ c.loop-g.invariant
