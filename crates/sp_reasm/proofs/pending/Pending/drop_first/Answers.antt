use Rattle.std.proofs.Common.{sym, ap, ◌∙◌, [], drop}
use Rattle.sp_reasm.specs.Listed.{pieces_of}
use Rattle.sp_reasm.proofs.PlaceLemmas.{first_item, rest_indexed}
use Rattle.sp_reasm.proofs.pending.Pending.drop_first.Goals as goal

pub remove-requires : goal.remove-requires
remove-requires c =
    let f = first_item c.self.inside.list _ _ c.pop_first.new.self.entries (sym c.in-Some.ensures.removal ∙ c.self.invariant.indexed) in
    ([], f.piece, f.rest, f.stands)

pub invariant_of-self : goal.invariant_of-self
invariant_of-self c =
    let f = first_item c.self.inside.list _ _ c.pop_first.new.self.entries (sym c.in-Some.ensures.removal ∙ c.self.invariant.indexed) in
    rw (c.remove.ensures [] f.rest f.piece f.stands) (rest_indexed f c.self.invariant.ordered)

pub returns-in-Some : goal.returns-in-Some
returns-in-Some c p ps is =
    let f = first_item c.self.inside.list _ _ c.pop_first.new.self.entries (sym c.in-Some.ensures.removal ∙ c.self.invariant.indexed) in
    ap pieces_of (c.remove.ensures [] f.rest f.piece f.stands) ∙ sym (ap (λ l. drop 1 (pieces_of l)) f.stands) ∙ ap (λ l. drop 1 l) (c.self.view_is ∙ is)
