use Rattle.std.proofs.Common.{◌++◌, sym, ap, subst, ◌∙◌}
use Rattle.std.specs.Map.{lookup, remove_entry}
use Rattle.std.specs.BTreeMap.{is_at}
use Rattle.std.specs.Ordering.{nat_cmp}
use Rattle.sp_reasm.specs.Listed.{pieces_of, IsIndexed}
use Rattle.sp_reasm.specs.inside.Filling.{without}
use Rattle.sp_reasm.proofs.PlaceLemmas.{removed, none_removed, removed_indexed}
use Rattle.sp_reasm.proofs.pending.Pending.remove.Goals as goal

pub remove-requires-in-Some : goal.remove-requires-in-Some
remove-requires-in-Some c =
    let r = removed c.self.inside.list c.args.start c.in-Some.slot (ap (λ l. lookup (is_at (nat_cmp c.args.start)) l) (sym c.self.invariant.indexed) ∙ sym c.remove.ensures.value ∙ c.in-Some.is) in
    (r.before, r.piece, r.behind, r.stands)

pub invariant_of-self : goal.invariant_of-self
invariant_of-self c =
    let r = removed c.self.inside.list c.args.start c.in-Some.slot (ap (λ l. lookup (is_at (nat_cmp c.args.start)) l) (sym c.self.invariant.indexed) ∙ sym c.remove.ensures.value ∙ c.in-Some.is) in
    subst (λ l. IsIndexed l c.remove.new.self.entries) (sym (c.remove-in-Some.ensures r.before r.behind r.piece r.stands))
    (subst (λ es. IsIndexed (r.before ++ r.behind) es) (sym (c.remove.ensures.entries ∙ ap (λ l. remove_entry (is_at (nat_cmp c.args.start)) l) c.self.invariant.indexed)) (removed_indexed r c.self.invariant.ordered))

pub returns-in-Some : goal.returns-in-Some
returns-in-Some c =
    let r = removed c.self.inside.list c.args.start c.in-Some.slot (ap (λ l. lookup (is_at (nat_cmp c.args.start)) l) (sym c.self.invariant.indexed) ∙ sym c.remove.ensures.value ∙ c.in-Some.is) in
    ap pieces_of (c.remove-in-Some.ensures r.before r.behind r.piece r.stands) ∙ sym r.pieces ∙ ap (λ l. without c.args.start l) c.self.view_is

pub returns-in_default : goal.returns-in_default
returns-in_default c =
    sym (none_removed c.self.inside.list c.args.start (ap (λ l. lookup (is_at (nat_cmp c.args.start)) l) (sym c.self.invariant.indexed) ∙ sym c.remove.ensures.value ∙ c.in_default.is)) ∙ ap (λ l. without c.args.start l) c.self.view_is
