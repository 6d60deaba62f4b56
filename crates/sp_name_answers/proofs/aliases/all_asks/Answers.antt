use Rattle.std.proofs.Common.{◌∙◌, ap, sym, slice_get, Some}
use Rattle.sp_names.specs.declared.rows.Declaration.{Declaration}
use Rattle.sp_names.specs.Aliases.{asks, IsAsked}
use Rattle.sp_names.proofs.Lists.{each_more, one_longer, here}
use Rattle.sp_name_answers.proofs.aliases.all_asks.Goals as goal

pub loop-g-preserved : goal.loop-g-preserved
loop-g-preserved c =
    let list = c.args.names.now in
    let g = c.loop-g.g in
    let before = c.loop-g.invariant in
    let rs = c.rows-rows.result.now in
    let at = here rs g c.index-rows-g.result c.loop-g-test.true in (
      one_longer c.loop-g.all.items c.push.new.self.items g c.in_ok-asks_of.field-0 c.in_ok-push.ensures.items before.0,
      each_more (IsAsked list) c.loop-g.all.items c.push.new.self.items g c.in_ok-asks_of.field-0 c.in_ok-push.ensures.items before.0 before.1
          (c.in_ok-asks_of.ensures ∙ ap (λ d. let e : Declaration = d in asks list (Some e)) c.index-rows-g.is ∙ ap (asks list) (sym at) ∙ ap (λ l. asks list (slice_get l g)) c.rows-rows.ensures),
    )
