use Rattle.std.proofs.Common.{None, Some, subst}
use Rattle.std.specs.Prelude.{map}
use Rattle.memchr.specs.Find.{FindsNeedle}
use Rattle.sp_value.specs.Val.{bytes}
use Rattle.sp_methods.specs.Separated.{parts}
use Rattle.sp_lib.proofs.PartsPushed.{parts_more, parts_last}
use Rattle.sp_lib.proofs.separated.parts.Goals as goal

pub loop-at-preserved : goal.loop-at-preserved
loop-at-preserved c =
    let found = subst (λ d. FindsNeedle c.loop-at.rest.now d 0 (Some c.in-Some.at)) c.new-finder.ensures c.in-Some.ensures in
    parts_more c.args.d.now c.loop-at.rest.now c.requires (map bytes (parts c.args.d.now 0 c.args.x.now)) c.loop-at.list.items c.push.new.self.items c.in_ok-part.field-0
    c.loop-at.invariant c.in_ok-push.ensures.items c.in-Some.at found c.in_ok-part.ensures

pub returns : goal.returns
returns c =
    let none = subst (λ d. FindsNeedle c.loop-at.rest.now d 0 None) c.new-finder.ensures c.in_default.ensures in
    parts_last c.args.d.now c.loop-at.rest.now c.requires (map bytes (parts c.args.d.now 0 c.args.x.now)) c.loop-at.list.items c.push-2.new.self.items c.in_ok-part-2.field-0
    c.loop-at.invariant c.in_ok-push-2.ensures.items none c.in_ok-part-2.ensures
