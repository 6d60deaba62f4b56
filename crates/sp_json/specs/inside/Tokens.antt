-- What is written of a value token by token, and the members of entries by name.
use Rattle.std.specs.Prelude.{ℕ, ◌+◌, List, [], ◌∷◌, Bool, true, ◌&&◌, map}
use Rattle.std.specs.Ordering.{nat_cmp, is_lt}
use Rattle.std.specs.Cmp.Lexicographic.{slice_cmp}
use denote.Ref.{Bor}
use Rattle.json.specs.Token.{Token}
use Rattle.json.specs.Tree.{json_tokens, items_tokens, members_tokens}
use Rattle.serde_json.specs.Data.{Data, Items, Members, no_members, member, put}
use Rattle.serde_json.specs.Written.{outline, items_outline, members_outline}

-- the tokens of a value
abbrev pub value_tokens : Data → List Token
value_tokens d = json_tokens (outline d)

-- those of the rest of an array, and its closing bracket
abbrev pub array_rest : Items → List Token
array_rest ds = items_tokens (items_outline ds)

-- those of the rest of an object, and its closing bracket
abbrev pub object_rest : Members → List Token
object_rest ms = members_tokens (members_outline ms)

module _ {X : Type 0} where
  -- entries that are lent
  abbrev pub lent : List (Bor (List ℕ) × Bor X) → List (List ℕ × X)
  lent es = map (λ e. (e.0.now, e.1.now)) es

  -- each name is greater than the one before it, and the first than this one
  abbrev pub rise_from : List ℕ → List (List ℕ × X) → Bool
  rise_from name [] = true
  rise_from name (e ∷ es) = is_lt (slice_cmp nat_cmp name e.0) && rise_from e.0 es

  -- the entries as members, in the order in which they stand
  abbrev pub in_order : (X → Data) → List (List ℕ × X) → Members
  in_order json [] = no_members
  in_order json (e ∷ es) = member e.0 (json e.1) (in_order json es)

  -- these members, and the entries at their names
  abbrev pub with_entries : (X → Data) → List (List ℕ × X) → Members → Members
  with_entries json [] ms = ms
  with_entries json (e ∷ es) ms = with_entries json es (put e.0 (json e.1) ms)

  -- the weights of the values of entries together
  abbrev pub total : (X → ℕ) → List (List ℕ × X) → ℕ
  total weight [] = 0
  total weight (e ∷ es) = weight e.1 + total weight es
