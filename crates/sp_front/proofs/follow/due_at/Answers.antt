use Rattle.std.proofs.Common.{arith}
use Rattle.sp_front.proofs.Following.{refused_here, due_over, due_room}
use Rattle.sp_front.proofs.follow.due_at.Goals as goal

pub returns-in_ok-copied-in-Refused : goal.returns-in_ok-copied-in-Refused
returns-in_ok-copied-in-Refused c =
    refused_here c.args.entries.now c.args.place c.index-entries-place.result c.in-Refused.field-0 c.in-Refused.refusal c.in_ok-copied-in-Refused.field-0
    c.requires.inside c.index-entries-place.is c.in-Refused.is c.in_ok-copied-in-Refused.ensures c.requires.clear

pub returns-then-entries-gt-MOST_MODULES : goal.returns-then-entries-gt-MOST_MODULES
returns-then-entries-gt-MOST_MODULES c =
    due_over c.args.entries.now c.args.place c.index-entries-place.result c.in-Held.file c.new.result.items
    c.requires.inside c.index-entries-place.is c.in-Held.is c.requires.clear c.if-entries-gt-MOST_MODULES.true c.new.ensures.items

pub returns-in_ok-missing-in-Held : goal.returns-in_ok-missing-in-Held
returns-in_ok-missing-in-Held c =
    due_room c.args.entries.now c.args.place c.index-entries-place.result c.in-Held.file c.in_ok-missing-in-Held.field-0.items
    c.requires.inside c.index-entries-place.is c.in-Held.is c.requires.clear (omega (arith, c.if-entries-gt-MOST_MODULES.false)) (c.in_ok-missing-in-Held.ensures c.args.entries.now c.requires.seen)
