use Rattle.std.proofs.Common.{◌≤◌, ◌+◌, ◌*◌, ℕ, List, [], ◌∷◌, length, take, drop, Some}
use Rattle.sp_regex.specs.Trees.{Syntax, sequence, alternatives, repeat, syntax_size}
use Rattle.sp_regex.specs.Language.{InL}
use Rattle.sp_match.specs.declared.spot.Spot.{Spot}
use Rattle.sp_match.specs.Parts.{IsCompiled, IsChain, Below, in_row, copies}
use Rattle.sp_match.proofs.compile.+compile.Given as goal

abbrev pub decreases-compile : goal.decreases-compile
decreases-compile l = 8 * syntax_size l.regex.now + 1

abbrev pub decreases-prepend : goal.decreases-prepend
decreases-prepend l = 8 * syntax_size l.part.now + 2

abbrev pub decreases-in_order : goal.decreases-in_order
decreases-in_order l = 8 * syntax_size (sequence l.parts.now)

abbrev pub decreases-one_of : goal.decreases-one_of
decreases-one_of l = 8 * syntax_size (alternatives l.parts.now)

abbrev pub decreases-times : goal.decreases-times
decreases-times l = 8 * syntax_size l.part.now + 3

abbrev pub decreases-up_to : goal.decreases-up_to
decreases-up_to l = 8 * syntax_size l.part.now + 3

abbrev pub decreases-many : goal.decreases-many
decreases-many l = 8 * syntax_size l.part.now + 3

abbrev pub decreases-repeated : goal.decreases-repeated
decreases-repeated l = 8 * syntax_size l.part.now + 5

abbrev pub decreases-bounded : goal.decreases-bounded
decreases-bounded l = 8 * syntax_size l.part.now + 4

abbrev pub decreases-unbounded : goal.decreases-unbounded
decreases-unbounded l = 8 * syntax_size l.part.now + 4

abbrev pub invariant-in_order-loop-i : goal.invariant-in_order-loop-i
invariant-in_order-loop-i l = record {
  within : l.i ≤ length l.parts;
  so_far : IsChain (in_row (drop l.i l.parts)) l.then l.chain.entry.items l.chain.begin.items l.initial.net.items l.net.items;
}

abbrev pub decreases-in_order-loop-i : goal.decreases-in_order-loop-i
decreases-in_order-loop-i l = l.i

abbrev pub invariant-one_of-loop-part : goal.invariant-one_of-loop-part
invariant-one_of-loop-part l = IsCompiled (InL (alternatives (take l.part-index l.parts))) (l.then ∷ []) l.entry.items l.initial.net.items l.net.items

abbrev pub invariant-times-loop : goal.invariant-times-loop
invariant-times-loop l = record {
  below : Below l.chain.begin.items (length l.net.items);
  so_far : (rest : Syntax) (then : ℕ) (first : List Spot) → IsChain rest then l.initial.chain.entry.items l.initial.chain.begin.items first l.initial.net.items → IsChain (copies l.counter l.part rest) then l.chain.entry.items l.chain.begin.items first l.net.items;
}

abbrev pub invariant-up_to-loop : goal.invariant-up_to-loop
invariant-up_to-loop l = IsChain (repeat 0 (Some l.counter) l.part) l.then l.chain.entry.items l.chain.begin.items l.initial.net.items l.net.items
