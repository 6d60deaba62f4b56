-- What a node and an arena of nodes end as, where a `&mut` to an item is lent. No public clause cites this module.
use Rattle.std.specs.Prelude.{ℕ, Option, Some, None, slice_set}
use Rattle.std.specs.Borrow.{Lends, Fml, RattleType, MutBor}
use Rattle.std.specs.contracts.alloc.Global as global
use Rattle.std.specs.contracts.impls.GlobalAllocator.TheImpl.{ghosts}
use Rattle.slab.specs.Slab.{Slab, get}
use Rattle.slab.specs.contracts.Slab.{the_row as slab_row}
use Rattle.sp_chain.specs.declared.nodes.Node.{Node}
use Rattle.sp_chain.specs.declared.nodes.Content.TheVariants.{Item}
use Rattle.sp_chain.specs.contracts.nodes.Node.{the_row}

-- a node with another item
abbrev pub with_item : {T : Type 0} → Node T → T → Node T
with_item node w = record node { content = Item w }

abbrev pub with_item_in : {T : Type 0} → Option (Node T) → T → Option (Node T)
with_item_in None w = None
with_item_in (Some node) w = Some (with_item node w)

-- nodes of which one has another item
abbrev pub with_item_at : {T : Type 0} → Slab (Node T) → ℕ → T → Slab (Node T)
with_item_at nodes key w = record nodes { slots = slice_set nodes.slots key (with_item_in (get nodes key) w) }

-- once the borrow ends, the node has the last value written through it
abbrev pub lends_item : (T : RattleType) → MutBor (Node T.Denot) → MutBor T.Denot → Fml
lends_item T s r = Lends (the_row T) T s r (with_item s.now)

-- the same of a node among others
abbrev pub lends_node : (T : RattleType) → MutBor (Slab (Node T.Denot)) → ℕ → MutBor T.Denot → Fml
lends_node T s key r = Lends (slab_row (the_row T) global.the_row ghosts) T s r (with_item_at s.now key)
