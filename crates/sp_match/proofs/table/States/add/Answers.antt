use Rattle.std.proofs.Common.{◌≡◌, ◌+◌, ◌++◌, ◌∷◌, [], length, length-append, sym, subst}
use Rattle.sp_match.specs.Bits.{row}
use Rattle.sp_match.specs.Tables.{IsStates, AreKept}
use Rattle.sp_match.proofs.Tabling.{states_more, kept_more, row_new}
use Rattle.sp_match.proofs.table.States.add.Goals as goal

pub returns-clause-states : goal.returns-clause-states
returns-clause-states c = λ net m room st.
    let old = c.args.self.now.sets.items in
    let x = c.args.set in
    let words = c.args.machine.now.words in
    subst (λ z. IsStates net words z c.push-2.new.self.items × AreKept old z × (length z ≡ length old + 1) × (row z (length old) ≡ x.items)) (sym c.in_ok-push.ensures.items)
    (subst (λ y. IsStates net words (old ++ x ∷ []) y × AreKept old (old ++ x ∷ []) × (length (old ++ x ∷ []) ≡ length old + 1) × (row (old ++ x ∷ []) (length old) ≡ x.items)) (sym c.in_ok-push-2.ensures.items)
    (states_more net words old c.args.self.now.acceptances.items x c.acceptance_of-told.result room (c.acceptance_of-told.ensures net m) st, kept_more old x, length-append old (x ∷ []), row_new old x))
