use Rattle.std.proofs.Common.{ap, arith}
use Rattle.sp_events.specs.Tree.{trees_of, pairs_of, fields_of}
use Rattle.sp_events.specs.TreeSizes.{trees_size, pairs_size, fields_size}
use Rattle.sp_events.proofs.Members.{size_of, pair_size_of, field_size_of}
use Rattle.sp_events.proofs.copies.+copy_tree.Goals as goal

pub copy_trees-copy_tree-requires : goal.copy_trees-copy_tree-requires
copy_trees-copy_tree-requires t c =
    let same = ap (λ ts. trees_size (trees_of ts)) c.deref-tree-items.ensures.value in
    let small = size_of c.deref-tree-items.result.now c.loop-tree.tree-index c.tree-item.result (omega arith) c.tree-item.is in
    (omega arith, tt)

pub copy_pairs-copy_tree-requires : goal.copy_pairs-copy_tree-requires
copy_pairs-copy_tree-requires t c =
    let same = ap (λ ps. pairs_size (pairs_of ps)) c.deref-key-items.ensures.value in
    let small = pair_size_of c.deref-key-items.result.now c.loop-key.key-index c.loop-key-item.result (omega arith) c.loop-key-item.is in
    (omega arith, tt)

pub copy_pairs-copy_tree-requires-in-loop-key : goal.copy_pairs-copy_tree-requires-in-loop-key
copy_pairs-copy_tree-requires-in-loop-key t c =
    let same = ap (λ ps. pairs_size (pairs_of ps)) c.deref-key-items.ensures.value in
    let small = pair_size_of c.deref-key-items.result.now c.loop-key.key-index c.loop-key-item.result (omega arith) c.loop-key-item.is in
    (omega arith, tt)

pub copy_fields-copy_tree-requires : goal.copy_fields-copy_tree-requires
copy_fields-copy_tree-requires t c =
    let same = ap (λ fs. fields_size (fields_of fs)) c.deref-name-items.ensures.value in
    let small = field_size_of c.deref-name-items.result.now c.loop-name.name-index c.loop-name-item.result (omega arith) c.loop-name-item.is in
    (omega arith, tt)
