use Rattle.std.proofs.Common.{◌≡◌, ◌+◌, ◌-◌, ◌++◌, ◌∷◌, [], None, ap, subst, ◌∙◌, arith, refl}
use Rattle.sp_reasm.specs.Pieces.{size_of, has, IsSpot}
use Rattle.sp_reasm.proofs.PieceLemmas.{cut}
use Rattle.sp_reasm.specs.Listed.{pieces_of, IsFloor}
use Rattle.sp_reasm.proofs.FloorLemmas.{found, found_slot, first_in, next_in, free_at_front, free_behind, spot_within, ordered_cut}
use Rattle.sp_reasm.proofs.pending.Pending.spot.Goals as goal

pub room-requires : goal.room-requires
room-requires c = rw c.first.ensures (first_in c.self.inside.list [] c.self.inside.list refl)

pub returns-in_default : goal.returns-in_default
returns-in_default c =
    let none : IsFloor c.self.inside.index.entries c.args.at None = subst (λ r. IsFloor c.self.inside.index.entries c.args.at r) c.in_default.is c.floor.ensures in
    let free = free_at_front c.self.inside.list c.self.inside.index.entries c.args.at (let fits = c.ranges.at in omega (arith, fits)) c.self.invariant none in
    let room = c.room.ensures [] c.self.inside.list refl c.first.ensures in
    rw (← c.self.view_is, room) free

pub get-piece-requires : goal.get-piece-requires
get-piece-requires c = found_slot (found c.self.inside.list c.self.inside.index.entries c.args.at c.in-Some.slot c.self.invariant c.in-Some.ensures)

pub overflow_sub-past : goal.overflow_sub-past
overflow_sub-past c =
    let f = found c.self.inside.list c.self.inside.index.entries c.args.at c.in-Some.slot c.self.invariant c.in-Some.ensures in
    rw (c.get-piece.ensures f.before f.behind f.piece f.stands) f.begins

pub from-requires-clause-fits : goal.from-requires-clause-fits
from-requires-clause-fits c =
    let f = found c.self.inside.list c.self.inside.index.entries c.args.at c.in-Some.slot c.self.invariant c.in-Some.ensures in
    rw (c.get-piece.ensures f.before f.behind f.piece f.stands) (cut 0 (pieces_of f.before) f.piece (pieces_of f.behind) (ordered_cut f c.self.invariant.ordered)).behind.2

pub returns-then-past-size : goal.returns-then-past-size
returns-then-past-size c =
    let f = found c.self.inside.list c.self.inside.index.entries c.args.at c.in-Some.slot c.self.invariant c.in-Some.ensures in
    let is : c.get-piece.result.now ≡ f.piece = c.get-piece.ensures f.before f.behind f.piece f.stands in
    let size : c.size.result ≡ size_of f.piece.content = c.size.ensures ∙ ap (λ p. size_of p.content) is in
    let start : c.get-piece.result.now.start ≡ f.piece.start = ap (λ p. p.start) is in
    let begins = f.begins in
    let test = c.if-past-size.true in
    let from = subst (λ p. IsSpot (has p) (p.start + (c.args.at - c.get-piece.result.now.start)) c.from.result) is c.from.ensures in
    rw (← c.self.view_is) (spot_within c.self.inside.list c.args.at c.in-Some.slot (f.piece.start + (c.args.at - c.get-piece.result.now.start)) c.from.result c.self.invariant.ordered f (omega (arith, size, start, begins, test)) (omega (arith, start, begins)) from)

pub next-requires : goal.next-requires
next-requires c = found_slot (found c.self.inside.list c.self.inside.index.entries c.args.at c.in-Some.slot c.self.invariant c.in-Some.ensures)

pub room-requires-2 : goal.room-requires-2
room-requires-2 c =
    let f = found c.self.inside.list c.self.inside.index.entries c.args.at c.in-Some.slot c.self.invariant c.in-Some.ensures in
    let next = c.next.ensures f.before f.behind f.piece f.stands in
    rw next (first_in c.self.inside.list (f.before ++ (c.in-Some.slot, f.piece) ∷ []) f.behind (next_in c.self.inside.list f.before c.in-Some.slot f.piece f.behind f.stands))

pub returns : goal.returns
returns c =
    let f = found c.self.inside.list c.self.inside.index.entries c.args.at c.in-Some.slot c.self.invariant c.in-Some.ensures in
    let is : c.get-piece.result.now ≡ f.piece = c.get-piece.ensures f.before f.behind f.piece f.stands in
    let size : c.size.result ≡ size_of f.piece.content = c.size.ensures ∙ ap (λ p. size_of p.content) is in
    let start : c.get-piece.result.now.start ≡ f.piece.start = ap (λ p. p.start) is in
    let begins = f.begins in
    let test = c.if-past-size.false in
    let next = c.next.ensures f.before f.behind f.piece f.stands in
    let room = c.room-2.ensures (f.before ++ (c.in-Some.slot, f.piece) ∷ []) f.behind (next_in c.self.inside.list f.before c.in-Some.slot f.piece f.behind f.stands) next in
    rw (← c.self.view_is, room) (free_behind c.self.inside.list c.args.at c.in-Some.slot (let fits = c.ranges.at in omega (arith, fits)) c.self.invariant.ordered f (omega (arith, size, start, begins, test)))
