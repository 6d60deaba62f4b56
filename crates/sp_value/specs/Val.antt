-- What a value is, with no mention of memory.
use Rattle.std.specs.Prelude.{◌≡◌, ℕ, ℤ, Bool, List, [], ◌∷◌}
use Rattle.sp_numbers.specs.declared.width.Width.{Width}

mutual
  -- an enum and a bitfield have the number of their type, a unit that of its instance; behind a bitfield's are the
  -- numbers that its named ranges hold, in the order in which they are declared
  pub data Val : Type 0 where
    void : Val
    bool : Bool → Val
    uint : Width → ℕ → Val
    int : Width → ℤ → Val
    bytes : List ℕ → Val
    str : List ℕ → Val
    enum : ℕ → ℕ → Val
    bits : ℕ → List ℕ → Val
    tuple : Vals → Val
    vector : Vals → Val
    set : Vals → Val
    map : Entries → Val
    unit : ℕ → Val
    place : ℕ → Val

  pub data Vals : Type 0 where
    no_vals : Vals
    val : Val → Vals → Vals

  pub data Entries : Type 0 where
    no_entries : Entries
    entry : Val → Val → Entries → Entries

-- the values of a list, and a list of values
abbrev pub vals_of : List Val → Vals
vals_of [] = no_vals
vals_of (v ∷ vs) = val v (vals_of vs)

abbrev pub list_of : Vals → List Val
list_of no_vals = []
list_of (val v vs) = v ∷ list_of vs

-- the entries of a list of keys and values, and their list
abbrev pub entries_of : List (Val × Val) → Entries
entries_of [] = no_entries
entries_of (e ∷ es) = entry e.0 e.1 (entries_of es)

abbrev pub pairs_of : Entries → List (Val × Val)
pairs_of no_entries = []
pairs_of (entry k v es) = (k, v) ∷ pairs_of es

-- what a clone of a value is
abbrev pub IsSame : Val → Val → Type 0
IsSame v w = w ≡ v
