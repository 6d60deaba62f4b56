use Rattle.std.proofs.Common.{ℕ, List, ◌++◌, ◌∷◌, [], ◌<◌, length, take, sym, ap, ◌∙◌, subst}
use Rattle.std.specs.List.{AllByRecursion}
use Rattle.sp_methods.specs.Kinds.{kinds_of}
use Rattle.sp_meaning_states.specs.Types.{kind_of_made}
use Rattle.sp_code.specs.Programs.{kinds_at}
use Rattle.sp_emit.specs.Kinds.{IsNumberOf}
use Rattle.sp_emit.proofs.Parts.{below_next}
use Rattle.sp_emit.proofs.KindPlans.{below_taken, made_of_last}
use Rattle.sp_emit.proofs.kinds.KindTable.end.Goals as goal

pub returns-clause-below : goal.returns-clause-below
returns-clause-below c =
    let items = c.in_ok-push.ensures.items ∙ ap (λ ns. ns ++ c.in_ok-n.n ∷ []) c.in_ok-parts.ensures.left in
    subst (λ ns. AllByRecursion (λ n. n < length c.made.new.self) ns) (sym {A = List ℕ} items)
    (below_next c.args.self.now c.made.new.self (take c.args.n c.args.done.now.items) _ c.in_ok-n.n c.made.ensures.grows (below_taken (length c.args.self.now) c.args.n c.args.done.now.items c.requires) (c.in_ok-n.ensures.number []))

pub returns-clause-kinds : goal.returns-clause-kinds
returns-clause-kinds c = λ ranges.
    let made = subst (λ ns. IsNumberOf c.made.new.self (kind_of_made ranges c.args.maker (kinds_of (kinds_at c.args.self.now ns))) c.in_ok-n.n) c.in_ok-parts.ensures.taken (c.in_ok-n.ensures.number ranges) in
    ap (λ ns. kinds_at c.made.new.self ns) (c.in_ok-push.ensures.items ∙ ap (λ ns. ns ++ c.in_ok-n.n ∷ []) c.in_ok-parts.ensures.left)
    ∙ made_of_last c.args.self.now c.made.new.self c.args.done.now.items ranges c.args.maker c.args.n c.in_ok-n.n c.made.ensures.grows c.requires made
