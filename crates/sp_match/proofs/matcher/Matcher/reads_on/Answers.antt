use Rattle.std.proofs.Common.{sym, subst, ◌∙◌, arith}
use Rattle.sp_match.specs.Bits.{holds}
use Rattle.sp_match.specs.Tables.{SomeReads, NoneReads}
use Rattle.sp_match.specs.Sizes.{live_of}
use Rattle.sp_match.proofs.matcher.Matcher.reads_on.Goals as goal

pub returns-in-Some-clause-some : goal.returns-in-Some-clause-some
returns-in-Some-clause-some c = λ e tokens w h.
    let sets = c.args.self.now.set.now.table.states.sets.items in
    let lt = h.within c.in-Some.state c.in-Some.is in
    let long = h.set.table.states.accepts_long in
    let told = c.reads_on.ensures (omega arith) in
    subst (λ z. SomeReads h.set.net (holds (live_of sets z c.args.self.now.live.items))) (sym c.in-Some.is) ((h.set.table.states.accepts c.in-Some.state lt).reads (sym told ∙ e))

pub returns-in-Some-clause-none : goal.returns-in-Some-clause-none
returns-in-Some-clause-none c = λ e tokens w h.
    let sets = c.args.self.now.set.now.table.states.sets.items in
    let lt = h.within c.in-Some.state c.in-Some.is in
    let long = h.set.table.states.accepts_long in
    let told = c.reads_on.ensures (omega arith) in
    subst (λ z. NoneReads h.set.net (holds (live_of sets z c.args.self.now.live.items))) (sym c.in-Some.is) ((h.set.table.states.accepts c.in-Some.state lt).ends (sym told ∙ e))

pub returns-in-None-clause-some : goal.returns-in-None-clause-some
returns-in-None-clause-some c = λ e tokens w h.
    let sets = c.args.self.now.set.now.table.states.sets.items in
    let x = c.reads_on-in-None.ensures.some e in
    subst (λ z. SomeReads h.set.net (holds (live_of sets z c.args.self.now.live.items))) (sym c.in-None.is) (x.0, x.1, sym (h.set.machine.bytes x.0) ∙ x.2)

pub returns-in-None-clause-none : goal.returns-in-None-clause-none
returns-in-None-clause-none c = λ e tokens w h.
    let sets = c.args.self.now.set.now.table.states.sets.items in
    subst (λ z. NoneReads h.set.net (holds (live_of sets z c.args.self.now.live.items))) (sym c.in-None.is) (λ p k. sym (h.set.machine.bytes p) ∙ c.reads_on-in-None.ensures.none e p k)
