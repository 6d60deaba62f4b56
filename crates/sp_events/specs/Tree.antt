-- What a told value is, as plain data.
use Rattle.std.specs.Prelude.{ℕ, ℤ, Bool, List, [], ◌∷◌}

mutual
  -- void is the value of what has none; an enum is the name of its label, as E::A, or its number where no label has it; a bitfield is the numbers of its
  -- named ranges; a place is where an iterator stands
  pub data TreeData : Type 0 where
    void : TreeData
    bool : Bool → TreeData
    uint : ℕ → TreeData
    int : ℤ → TreeData
    bytes : List ℕ → TreeData
    str : List ℕ → TreeData
    label : List ℕ → TreeData
    unlisted : ℕ → TreeData
    bits : List (List ℕ × ℕ) → TreeData
    tuple : TreesData → TreeData
    vector : TreesData → TreeData
    set : TreesData → TreeData
    map : PairsData → TreeData
    unit : FieldsData → TreeData
    place : ℕ → TreeData

  pub data TreesData : Type 0 where
    no_trees : TreesData
    tree : TreeData → TreesData → TreesData

  pub data PairsData : Type 0 where
    no_pairs : PairsData
    pair : TreeData → TreeData → PairsData → PairsData

  pub data FieldsData : Type 0 where
    no_fields : FieldsData
    field : List ℕ → TreeData → FieldsData → FieldsData

-- the members of a list of values
abbrev pub trees_of : List TreeData → TreesData
trees_of [] = no_trees
trees_of (t ∷ ts) = tree t (trees_of ts)

-- the entries of a list of keys and values
abbrev pub pairs_of : List (TreeData × TreeData) → PairsData
pairs_of [] = no_pairs
pairs_of (p ∷ ps) = pair p.0 p.1 (pairs_of ps)

-- the fields of a list of names and values
abbrev pub fields_of : List (List ℕ × TreeData) → FieldsData
fields_of [] = no_fields
fields_of (f ∷ fs) = field f.0 f.1 (fields_of fs)
