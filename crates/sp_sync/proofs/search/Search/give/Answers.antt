use Rattle.std.proofs.Common.{◌+◌, ◌++◌, ◌∙◌, ap, ◌∷◌, [], take, drop, refl, inl, inr, sym, subst}
use Rattle.sp_sync.specs.Places.{Comes}
use Rattle.sp_sync.specs.declared.found.Found.TheVariants as found
use Rattle.sp_sync.specs.Told.{PartsTold, IsStep}
use Rattle.sp_sync.proofs.Telling.{told_byte, told_failed}
use Rattle.sp_sync.proofs.search.Search.give.Goals as goal

pub returns-in-Begins-clause-told : goal.returns-in-Begins-clause-told
returns-in-Begins-clause-told c = λ tokens from d ended h at.
    let a = c.args.self.now.attempt in
    let b = c.give.new.self in
    let told = subst (λ z. PartsTold a.matcher a.start a.wants z tokens from d ended) c.requires.«open» h in
    let read = c.give.ensures.read tokens (take told.read (drop told.passed d)) told.given in
    let comes = subst (Comes tokens (take told.read (drop told.passed d) ++ c.args.byte ∷ [])) c.in-Begins.is (c.outcome.ensures tokens (take told.read (drop told.passed d) ++ c.args.byte ∷ []) read) in
    told_byte a.matcher b.matcher a.start a.wants b.start b.wants tokens from d ended c.args.byte (found.At b.start) told at c.give.ensures.start c.give.ensures.wants read (λ passed lt. (refl, lt, comes))

pub returns-in-Begins-clause-step : goal.returns-in-Begins-clause-step
returns-in-Begins-clause-step c = λ tokens w h.
    let comes = subst (Comes tokens (w ++ c.args.byte ∷ [])) c.in-Begins.is (c.outcome.ensures tokens (w ++ c.args.byte ∷ []) (c.give.ensures.read tokens w h)) in
    (comes, c.give.ensures.start, c.give.ensures.start, c.give.ensures.wants)

pub returns-in-Waits-clause-told : goal.returns-in-Waits-clause-told
returns-in-Waits-clause-told c = λ tokens from d ended h at.
    let a = c.args.self.now.attempt in
    let b = c.give.new.self in
    let told = subst (λ z. PartsTold a.matcher a.start a.wants z tokens from d ended) c.requires.«open» h in
    let read = c.give.ensures.read tokens (take told.read (drop told.passed d)) told.given in
    let comes = subst (Comes tokens (take told.read (drop told.passed d) ++ c.args.byte ∷ [])) c.in-Waits.is (c.outcome.ensures tokens (take told.read (drop told.passed d) ++ c.args.byte ∷ []) read) in
    subst (λ z. PartsTold b.matcher b.start b.wants z tokens from d ended) (sym c.requires.«open») (told_byte a.matcher b.matcher a.start a.wants b.start b.wants tokens from d ended c.args.byte found.Need told at c.give.ensures.start c.give.ensures.wants read (λ passed lt. (comes.0, inl comes.1)))

pub returns-in-Waits-clause-step : goal.returns-in-Waits-clause-step
returns-in-Waits-clause-step c = λ tokens w h.
    let a = c.args.self.now.attempt in
    let b = c.give.new.self in
    let comes = subst (Comes tokens (w ++ c.args.byte ∷ [])) c.in-Waits.is (c.outcome.ensures tokens (w ++ c.args.byte ∷ []) (c.give.ensures.read tokens w h)) in
    subst (IsStep tokens (w ++ c.args.byte ∷ []) a.start a.wants b.start b.wants) (sym c.requires.«open») (comes.0, inl (comes.1, c.give.ensures.start, c.give.ensures.wants))

pub returns-in-Fails-clause-told : goal.returns-in-Fails-clause-told
returns-in-Fails-clause-told c = λ tokens from d ended h at.
    let a = c.args.self.now.attempt in
    let b = c.fail.new.self in
    let told = subst (λ z. PartsTold a.matcher a.start a.wants z tokens from d ended) c.requires.«open» h in
    let read = c.give.ensures.read tokens (take told.read (drop told.passed d)) told.given in
    let comes = subst (Comes tokens (take told.read (drop told.passed d) ++ c.args.byte ∷ [])) c.in-Fails.is (c.outcome.ensures tokens (take told.read (drop told.passed d) ++ c.args.byte ∷ []) read) in
    subst (λ z. PartsTold b.matcher b.start b.wants z tokens from d ended) (sym c.requires.«open») (told_failed a.matcher b.matcher a.start a.wants b.start b.wants tokens from d ended c.args.byte told at (c.fail.ensures.start ∙ ap (λ n. n + 1) c.give.ensures.start) (c.fail.ensures.wants ∙ ap (λ n. n + 1) c.give.ensures.start) (c.fail.ensures.read tokens (take told.read (drop told.passed d) ++ c.args.byte ∷ []) read) comes.0 comes.1)

pub returns-in-Fails-clause-step : goal.returns-in-Fails-clause-step
returns-in-Fails-clause-step c = λ tokens w h.
    let a = c.args.self.now.attempt in
    let b = c.fail.new.self in
    let comes = subst (Comes tokens (w ++ c.args.byte ∷ [])) c.in-Fails.is (c.outcome.ensures tokens (w ++ c.args.byte ∷ []) (c.give.ensures.read tokens w h)) in
    subst (IsStep tokens (w ++ c.args.byte ∷ []) a.start a.wants b.start b.wants) (sym c.requires.«open») (comes.0, inr (comes.1, c.fail.ensures.start ∙ ap (λ n. n + 1) c.give.ensures.start, c.fail.ensures.wants ∙ ap (λ n. n + 1) c.give.ensures.start))
