use Rattle.std.proofs.Common.{sym, ap, subst, ◌∙◌}
use Rattle.sp_reasm.specs.Listed.{pieces_of, IsIndexed}
use Rattle.sp_reasm.specs.Pieces.{owner_of, has}
use Rattle.sp_reasm.specs.Owners.{or_else}
use Rattle.sp_reasm.proofs.PlaceLemmas.{placed_in, placed_indexed, placed_owner, placed_back, floor_slot, taken_back}
use Rattle.sp_reasm.proofs.pending.Pending.insert.Goals as goal

pub insert-requires : goal.insert-requires
insert-requires c = floor_slot c.floor-before.result c.self.inside.list c.self.inside.index.entries c.args.piece.start c.self.invariant c.floor-before.ensures

pub invariant_of-self-in-Ok : goal.invariant_of-self-in-Ok
invariant_of-self-in-Ok c =
    let placed = placed_in c.args.self.now c.floor-before.result c.self.inside.list c.self.inside.index.entries c.args.piece c.in_ok-slot.slot c.insert.new.self c.self.view_is c.self.invariant c.floor-before.ensures c.requires.some c.requires.fits c.requires.free c.in_ok-slot.ensures.front c.in_ok-slot.ensures.behind in
    placed_indexed c.self.inside.index.entries c.insert-2.new.self.entries placed c.self.invariant c.in-Ok.ensures.entries

pub remove-requires : goal.remove-requires
remove-requires c =
    let placed = placed_in c.args.self.now c.floor-before.result c.self.inside.list c.self.inside.index.entries c.args.piece c.in_ok-slot.slot c.insert.new.self c.self.view_is c.self.invariant c.floor-before.ensures c.requires.some c.requires.fits c.requires.free c.in_ok-slot.ensures.front c.in_ok-slot.ensures.behind in
    (placed.before, c.args.piece, placed.behind, placed.new_is)

pub invariant_of-self-in-Err : goal.invariant_of-self-in-Err
invariant_of-self-in-Err c =
    let placed = placed_in c.args.self.now c.floor-before.result c.self.inside.list c.self.inside.index.entries c.args.piece c.in_ok-slot.slot c.insert.new.self c.self.view_is c.self.invariant c.floor-before.ensures c.requires.some c.requires.fits c.requires.free c.in_ok-slot.ensures.front c.in_ok-slot.ensures.behind in
    subst (λ l. IsIndexed l c.insert-2.new.self.entries) (sym (taken_back placed c.remove.new.self c.remove.ensures))
    (subst (λ l. IsIndexed c.self.inside.list l) (sym c.in-Err.ensures.err) c.self.invariant)

pub returns-in-Ok-clause-ok : goal.returns-in-Ok-clause-ok
returns-in-Ok-clause-ok c q =
    let placed = placed_in c.args.self.now c.floor-before.result c.self.inside.list c.self.inside.index.entries c.args.piece c.in_ok-slot.slot c.insert.new.self c.self.view_is c.self.invariant c.floor-before.ensures c.requires.some c.requires.fits c.requires.free c.in_ok-slot.ensures.front c.in_ok-slot.ensures.behind in
    placed_owner placed (λ k from to. ap (λ l. owner_of l k) c.self.view_is ∙ c.requires.free k from to) q
    ∙ ap (λ l. or_else (owner_of l q) (has c.args.piece q)) c.self.view_is

pub returns-in-Err-clause-err : goal.returns-in-Err-clause-err
returns-in-Err-clause-err c =
    let placed = placed_in c.args.self.now c.floor-before.result c.self.inside.list c.self.inside.index.entries c.args.piece c.in_ok-slot.slot c.insert.new.self c.self.view_is c.self.invariant c.floor-before.ensures c.requires.some c.requires.fits c.requires.free c.in_ok-slot.ensures.front c.in_ok-slot.ensures.behind in
    ap pieces_of (taken_back placed c.remove.new.self c.remove.ensures) ∙ c.self.view_is

pub returns-in-Ok-clause-back : goal.returns-in-Ok-clause-back
returns-in-Ok-clause-back c =
    let placed = placed_in c.args.self.now c.floor-before.result c.self.inside.list c.self.inside.index.entries c.args.piece c.in_ok-slot.slot c.insert.new.self c.self.view_is c.self.invariant c.floor-before.ensures c.requires.some c.requires.fits c.requires.free c.in_ok-slot.ensures.front c.in_ok-slot.ensures.behind in
    placed_back placed ∙ c.self.view_is
