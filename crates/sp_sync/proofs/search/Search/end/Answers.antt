use Rattle.std.proofs.Common.{true, sym, subst}
use Rattle.sp_sync.specs.Told.{PartsTold}
use Rattle.sp_sync.proofs.Telling.{told_ended, told_nowhere}
use Rattle.sp_sync.proofs.search.Search.end.Goals as goal

pub returns-then-self-clause-told : goal.returns-then-self-clause-told
returns-then-self-clause-told c = λ tokens from d h last.
    let a = c.args.self.now.attempt in
    let b = c.fail.new.self in
    let told = subst (λ z. PartsTold a.matcher a.start a.wants z tokens from d true) c.requires.«open» h in
    subst (λ z. PartsTold b.matcher b.start b.wants z tokens from d true) (sym c.requires.«open») (told_ended a.matcher b.matcher a.start a.wants b.start b.wants tokens from d told last c.if-self.true c.fail.ensures.start c.fail.ensures.wants (c.fail.ensures.read tokens _ told.given))

pub returns-else-self-clause-told : goal.returns-else-self-clause-told
returns-else-self-clause-told c = λ tokens from d h last.
    let a = c.args.self.now.attempt in
    let told = subst (λ z. PartsTold a.matcher a.start a.wants z tokens from d true) c.requires.«open» h in
    told_nowhere a.matcher a.start a.wants tokens from d told last c.if-self.false
