-- The kinds of values.
use Rattle.std.specs.Prelude.{◌≡◌, ℕ, ℤ, Bool, List, [], ◌∷◌, length, Some, slice_get}
use Rattle.std.specs.List.{AllByRecursion}
use Rattle.sp_numbers.specs.declared.width.Width.{Width}
use Rattle.sp_value.specs.Val.{Val, void, bool, uint, int, bytes, str, enum, bits, tuple, vector, set, map, unit, place, vals_of, entries_of}

mutual
  -- an integer's kind has no width, since no operator and no method asks for one; `Only` has one unsigned number, so that the
  -- member of a tuple at it has one kind; an enum and a unit have the number of their type, and a bitfield has also how many named
  -- ranges there are
  pub data Kind : Type 0 where
    Void Bools Unsigned Signed Bytes Text Iterator : Kind
    Only EnumOf UnitOf : ℕ → Kind
    BitsOf : ℕ → ℕ → Kind
    TupleOf : Kinds → Kind
    VectorOf SetOf : Kind → Kind
    MapOf : Kind → Kind → Kind

  pub data Kinds : Type 0 where
    no_kinds : Kinds
    kind_and : Kind → Kinds → Kinds

abbrev pub kinds_of : List Kind → Kinds
kinds_of [] = no_kinds
kinds_of (k ∷ ks) = kind_and k (kinds_of ks)

-- an instance of a unit, among instances of these units; a local that has had no value yet is void
pub data IsUnit (units : List ℕ) (u : ℕ) (v : Val) : Type 0 where
  nowhere : v ≡ void → IsUnit units u v
  somewhere : (n : ℕ) → v ≡ unit n → slice_get units n ≡ Some u → IsUnit units u v

-- over the number of its unit for each instance
module _ (units : List ℕ) where
  abbrev mutual
    -- a value is of a kind
    pub Has : Kind → Val → Type 0
    Has Void v = v ≡ void
    Has Bools v = (b : Bool) × (v ≡ bool b)
    Has Unsigned v = (w : Width) × (n : ℕ) × (v ≡ uint w n)
    Has Signed v = (w : Width) × (n : ℤ) × (v ≡ int w n)
    Has Bytes v = (b : List ℕ) × (v ≡ bytes b)
    Has Text v = (b : List ℕ) × (v ≡ str b)
    Has Iterator v = (n : ℕ) × (v ≡ place n)
    Has (EnumOf k) v = (n : ℕ) × (v ≡ enum k n)
    Has (UnitOf u) v = IsUnit units u v
    Has (Only k) v = (w : Width) × (v ≡ uint w k)
    Has (BitsOf k count) v = (ns : List ℕ) × (v ≡ bits k ns) × (length ns ≡ count)
    Has (TupleOf ks) v = (vs : List Val) × (v ≡ tuple (vals_of vs)) × HasEach ks vs
    Has (VectorOf k) v = (vs : List Val) × (v ≡ vector (vals_of vs)) × AllByRecursion (Has k) vs
    Has (SetOf k) v = (vs : List Val) × (v ≡ set (vals_of vs)) × AllByRecursion (Has k) vs
    Has (MapOf j k) v = (es : List (Val × Val)) × (v ≡ map (entries_of es)) × AllByRecursion (λ e. Has j e.0 × Has k e.1) es

    -- each member of a tuple is of its kind
    pub HasEach : Kinds → List Val → Type 0
    HasEach no_kinds [] = Unit {0}
    HasEach (kind_and k ks) (v ∷ vs) = Has k v × HasEach ks vs
    HasEach _ _ = ⊥

  -- each value of a list is of its kind
  abbrev pub Have : List Kind → List Val → Type 0
  Have [] [] = Unit {0}
  Have (k ∷ ks) (v ∷ vs) = Has k v × Have ks vs
  Have _ _ = ⊥
