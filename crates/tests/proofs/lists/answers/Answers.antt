-- What the list holds after each call.
use Rattle.std.proofs.Common.{◌≡◌, ℕ, List, [], ◌∷◌, Some, IsSome, refl, sym, subst}
use Rattle.sp_chain.specs.Chains.{Chains, list_of, IsLive}
use Rattle.tests.proofs.lists.answers.Goals as goal

live : (chains : Chains ℕ) (l : ℕ) (c : List (ℕ × ℕ)) → list_of chains l ≡ Some c → IsLive chains l
live chains l c h = subst (λ o. IsSome o) (sym h) refl

pub push_back-requires : goal.push_back-requires
push_back-requires c = live c.args.chains.now c.args.list [] c.requires

pub insert_after-requires : goal.insert_after-requires
insert_after-requires c = ([], 1, [], (c.in_ok-one.ensures.ok [] c.requires).changed)

pub get-second-requires : goal.get-second-requires
get-second-requires c =
    let pushed = (c.in_ok-one.ensures.ok [] c.requires).changed in
    let two = (c.in_ok-two.ensures.ok [] [] 1 pushed).changed in
    ((c.in_ok-one.one, 1) ∷ [], 2, [], two)

pub first-requires : goal.first-requires
first-requires c =
    let pushed = (c.in_ok-one.ensures.ok [] c.requires).changed in
    let two = (c.in_ok-two.ensures.ok [] [] 1 pushed).changed in
    live c.insert_after.new.self c.args.list _ two

pub next-requires : goal.next-requires
next-requires c =
    let pushed = (c.in_ok-one.ensures.ok [] c.requires).changed in
    let two = (c.in_ok-two.ensures.ok [] [] 1 pushed).changed in
    ([], 1, (c.in_ok-two.two, 2) ∷ [], two)

pub unlink-taken-requires : goal.unlink-taken-requires
unlink-taken-requires c =
    let pushed = (c.in_ok-one.ensures.ok [] c.requires).changed in
    let two = (c.in_ok-two.ensures.ok [] [] 1 pushed).changed in
    ([], 1, (c.in_ok-two.two, 2) ∷ [], two)

pub pop_back-last-requires : goal.pop_back-last-requires
pop_back-last-requires c =
    let pushed = (c.in_ok-one.ensures.ok [] c.requires).changed in
    let two = (c.in_ok-two.ensures.ok [] [] 1 pushed).changed in
    let one = (c.unlink-taken.ensures [] ((c.in_ok-two.two, 2) ∷ []) 1 two).1.changed in
    live c.unlink-taken.new.self c.args.list _ one

pub push_back-requires-2 : goal.push_back-requires-2
push_back-requires-2 c =
    let pushed = (c.in_ok-one.ensures.ok [] c.requires).changed in
    let two = (c.in_ok-two.ensures.ok [] [] 1 pushed).changed in
    let one = (c.unlink-taken.ensures [] ((c.in_ok-two.two, 2) ∷ []) 1 two).1.changed in
    let none = (c.pop_back-last.ensures.last [] c.in_ok-two.two 2 one).1.changed in
    live c.pop_back-last.new.self c.args.list _ none

pub get_mut-requires : goal.get_mut-requires
get_mut-requires c =
    let pushed = (c.in_ok-one.ensures.ok [] c.requires).changed in
    let two = (c.in_ok-two.ensures.ok [] [] 1 pushed).changed in
    let one = (c.unlink-taken.ensures [] ((c.in_ok-two.two, 2) ∷ []) 1 two).1.changed in
    let none = (c.pop_back-last.ensures.last [] c.in_ok-two.two 2 one).1.changed in
    let third = (c.in_ok-three.ensures.ok [] none).changed in
    ([], 3, [], third)
