use Rattle.std.proofs.Common.{ap, ◌∙◌, ◌++◌, sym}
use Rattle.sp_front.proofs.Noting.{never_refused, left_more, made_more}
use Rattle.sp_front.proofs.list.files_of.Goals as goal

pub unreachable-requires : goal.unreachable-requires
unreachable-requires c =
    never_refused c.args.entries.items c.loop-entry.yielded c.in-Some.entry c.next.new.self.rest.items c.in-Refused.field-0 c.in-Refused.field-1 c.requires
    (sym c.loop-entry.invariant.left ∙ ap (λ es. c.loop-entry.yielded ++ es) c.in-Some.ensures.steps.0) c.in-Refused.is

pub loop-entry-preserved : goal.loop-entry-preserved
loop-entry-preserved c = record {
  made = made_more c.loop-entry.files.items c.push.new.self.items c.in-Held.file c.loop-entry.yielded c.in-Some.entry c.in_ok-push-in-Held.ensures.items c.in-Held.is c.loop-entry.invariant.made;
  left = left_more c.args.entries.items c.loop-entry.yielded c.loop-entry.entry-iterator.rest.items c.next.new.self.rest.items c.in-Some.entry c.loop-entry.invariant.left c.in-Some.ensures.steps.0;
}
