-- How the arena holds the lists: each is a ring of nodes that begins and ends at a node of its own. No public clause
-- cites this module.
use Rattle.std.specs.Prelude.{◌≡◌, ℕ, zero, suc, List, [], ◌∷◌, length, map, Option, Some, None, sum_by}
use Rattle.slab.specs.Slab.{Slab, get, slab_len}
use Rattle.sp_chain.specs.declared.nodes.Node.{Node}
use Rattle.sp_chain.specs.declared.nodes.Content.{Content}
use Rattle.sp_chain.specs.declared.nodes.Content.TheVariants.{List as Ring, Item}

-- what a node with such a length counts
abbrev pub with_own : Option ℕ → ℕ
with_own None = 0
with_own (Some n) = suc n

module _ {T : Type 0} where
  abbrev pub after_in : Option (Node T) → ℕ
  after_in None = 0
  after_in (Some node) = node.after

  abbrev pub before_in : Option (Node T) → ℕ
  before_in None = 0
  before_in (Some node) = node.before

  abbrev pub item_of : Content T → Option T
  item_of (Ring _) = None
  item_of (Item x) = Some x

  -- the item of a node, where it has one
  abbrev pub item_in : Option (Node T) → Option T
  item_in None = None
  item_in (Some node) = item_of node.content

  abbrev pub length_of : Content T → Option ℕ
  length_of (Ring n) = Some n
  length_of (Item _) = None

  -- the number of items, of a node that is that of a list
  abbrev pub length_in : Option (Node T) → Option ℕ
  length_in None = None
  length_in (Some node) = length_of node.content

  -- the node of a list counts for itself and for its items
  abbrev pub weight : Option (Node T) → ℕ
  weight node = with_own (length_in node)

  -- from the node p to the node e stand these items, linked both ways
  abbrev pub IsRun : (ℕ → Option (Node T)) → ℕ → List (ℕ × T) → ℕ → Type 0
  IsRun f p [] e = (after_in (f p) ≡ e) × (before_in (f e) ≡ p)
  IsRun f p (y ∷ c) e = (after_in (f p) ≡ y.0) × (before_in (f y.0) ≡ p) × (item_in (f y.0) ≡ Some y.1) × IsRun f y.0 c e

  -- the node before what comes behind these items, and the node behind what comes before them
  abbrev pub last_key : ℕ → List (ℕ × T) → ℕ
  last_key p [] = p
  last_key p (y ∷ c) = last_key y.0 c

  abbrev pub first_key : List (ℕ × T) → ℕ → ℕ
  first_key [] e = e
  first_key (y ∷ c) e = y.0

  -- the node l is that of the list of these items
  pub record IsRing (f : ℕ → Option (Node T)) (l : ℕ) (c : List (ℕ × T)) : Type 0 where
    pub counted : length_in (f l) ≡ Some (length c)
    pub linked : IsRun f l c l

  -- an item that is met, and those behind it
  abbrev pub met : ℕ → Option T → List (ℕ × T) → List (ℕ × T)
  met at None rest = []
  met at (Some x) rest = (at, x) ∷ rest

  -- the items that are met going on from a node, at most so many
  abbrev pub walk : (ℕ → Option (Node T)) → ℕ → ℕ → List (ℕ × T)
  walk f zero at = []
  walk f (suc n) at = met at (item_in (f at)) (walk f n (after_in (f at)))

  abbrev pub list_at : (ℕ → Option (Node T)) → ℕ → Option ℕ → Option (List (ℕ × T))
  list_at f at None = None
  list_at f at (Some n) = Some (walk f n at)

  -- the items of the list of a node, where it is that of one
  abbrev pub list_from : (ℕ → Option (Node T)) → Option (Node T) → Option (List (ℕ × T))
  list_from f node = list_at f (after_in node) (length_in node)

  -- the lists of the arena, each at the number of its node
  abbrev pub lists_in : Slab (Node T) → List (Option (List (ℕ × T)))
  lists_in nodes = map (list_from (get nodes)) nodes.slots

  -- each list is a ring, and the nodes are those of the lists and of their items
  pub record IsSound (nodes : Slab (Node T)) : Type 0 where
    pub rings : (l n : ℕ) → length_in (get nodes l) ≡ Some n → (c : List (ℕ × T)) × IsRing (get nodes) l c
    pub whole : sum_by weight nodes.slots ≡ slab_len nodes
