-- The written syntax of regular expressions, one case for each of its alternatives.
-- In each relation a list `w` stands, what is named is read from its front, and `v` is left of it.
use Rattle.std.specs.Prelude.{◌≡◌, ℕ, suc, ◌+◌, ◌*◌, ◌<◌, ◌≤◌, ◌++◌, Bool, true, false, not, List, [], ◌∷◌, length, take, Option, Some, None, if◌then◌else◌}
use Rattle.sp_regex.specs.declared.bytes.ByteRange.{ByteRange}
use Rattle.sp_regex.specs.declared.bytes.ByteRole.TheVariants as role
use Rattle.sp_regex.specs.declared.bytes.ClassByteRole.TheVariants as class_role
use Rattle.sp_regex.specs.declared.bytes.Escaped.TheVariants.{Byte}
use Rattle.sp_regex.specs.Bytes.{role_of, class_role_of, escaped_of, hex_value_of_two, decimal_value, is_covered}
use Rattle.sp_regex.specs.Trees.{Syntax, byte, any, class, empty, followed, never, either, repeat, range_of}

-- an escape of the byte c: \n and its like, a metacharacter behind \, or \x and two hexadecimal digits
pub data IsEscape : ℕ → List ℕ → List ℕ → Type 0 where
  short : {b c : ℕ} {w : List ℕ} → escaped_of b ≡ Byte c → IsEscape c (92 ∷ b ∷ w) w
  hex : {high low c : ℕ} {w : List ℕ} → hex_value_of_two high low ≡ Some c → IsEscape c (92 ∷ 120 ∷ high ∷ low ∷ w) w

-- a byte of a class: itself, or an escape
pub data IsClassByte : ℕ → List ℕ → List ℕ → Type 0 where
  plain : {b : ℕ} {w : List ℕ} → class_role_of b ≡ class_role.Plain → IsClassByte b (b ∷ w) w
  caret : {b : ℕ} {w : List ℕ} → class_role_of b ≡ class_role.Caret → IsClassByte b (b ∷ w) w
  escaped : {b : ℕ} {w v : List ℕ} → IsEscape b w v → IsClassByte b w v

-- an item of a class: a byte, or two with a dash between them
pub data IsItem : ByteRange → List ℕ → List ℕ → Type 0 where
  one : {b : ℕ} {w v : List ℕ} → IsClassByte b w v → IsItem (range_of b b) w v
  two : {f t : ℕ} {w u v : List ℕ} → IsClassByte f w (45 ∷ u) → IsClassByte t u v → f ≤ t → IsItem (range_of f t) w v

-- behind the items rs, further ones: together they are ss
pub data MoreItems : List ByteRange → List ByteRange → List ℕ → List ℕ → Type 0 where
  no_item : {rs : List ByteRange} {w : List ℕ} → MoreItems rs rs w w
  one_item : {rs ss : List ByteRange} {r : ByteRange} {w u v : List ℕ} → IsItem r w u → MoreItems (rs ++ r ∷ []) ss u v → MoreItems rs ss w v

-- whether a byte belongs to a class: to its ranges, or if it is negated to none of them
abbrev pub belongs : Bool → List ByteRange → ℕ → Bool
belongs negated rs b = if negated then not (is_covered rs b) else is_covered rs b

-- some byte belongs to the class
abbrev pub HasByte : Bool → List ByteRange → Type 0
HasByte negated rs = (b : ℕ) × (b < 256) × (belongs negated rs b ≡ true)

-- the first byte is no ^
abbrev pub NoCaret : List ℕ → Type 0
NoCaret w = (v : List ℕ) → w ≡ 94 ∷ v → ⊥

-- a class: one or more items in brackets, perhaps behind ^, to which some byte belongs
pub data IsClass : Bool → List ByteRange → List ℕ → List ℕ → Type 0 where
  positive : {rs : List ByteRange} {r : ByteRange} {w u v : List ℕ} → NoCaret w → IsItem r w u → MoreItems (r ∷ []) rs u (93 ∷ v) → HasByte false rs → IsClass false rs (91 ∷ w) v
  negative : {rs : List ByteRange} {r : ByteRange} {w u v : List ℕ} → IsItem r w u → MoreItems (r ∷ []) rs u (93 ∷ v) → HasByte true rs → IsClass true rs (91 ∷ 94 ∷ w) v

-- behind the digits of the number m, further ones: together they are the number n
pub data MoreDigits : ℕ → ℕ → List ℕ → List ℕ → Type 0 where
  no_digit : {n : ℕ} {w : List ℕ} → MoreDigits n n w w
  one_digit : {m n b d : ℕ} {w v : List ℕ} → decimal_value b ≡ Some d → MoreDigits (m * 10 + d) n w v → MoreDigits m n (b ∷ w) v

-- a number: one or more digits
pub data IsNumber : ℕ → List ℕ → List ℕ → Type 0 where
  digits : {n b d : ℕ} {w v : List ℕ} → decimal_value b ≡ Some d → MoreDigits d n w v → IsNumber n (b ∷ w) v

-- how many times an atom stands: *, +, ?, {n}, {n,} or {n,m}
pub data IsCount : ℕ → Option ℕ → List ℕ → List ℕ → Type 0 where
  star : {w : List ℕ} → IsCount 0 None (42 ∷ w) w
  plus : {w : List ℕ} → IsCount 1 None (43 ∷ w) w
  question : {w : List ℕ} → IsCount 0 (Some 1) (63 ∷ w) w
  exactly : {n : ℕ} {w v : List ℕ} → IsNumber n w (125 ∷ v) → n ≤ 255 → IsCount n (Some n) (123 ∷ w) v
  at_least : {n : ℕ} {w v : List ℕ} → IsNumber n w (44 ∷ 125 ∷ v) → n ≤ 255 → IsCount n None (123 ∷ w) v
  between : {n m : ℕ} {w u v : List ℕ} → IsNumber n w (44 ∷ u) → IsNumber m u (125 ∷ v) → n ≤ m → m ≤ 255 → IsCount n (Some m) (123 ∷ w) v

mutual
  -- an atom, in which k groups may stand within one another
  pub data IsAtom : ℕ → Syntax → List ℕ → List ℕ → Type 0 where
    plain_byte : {k b : ℕ} {w : List ℕ} → role_of b ≡ role.Plain → IsAtom k (byte b) (b ∷ w) w
    any_byte : {k : ℕ} {w : List ℕ} → IsAtom k any (46 ∷ w) w
    escaped_byte : {k b : ℕ} {w v : List ℕ} → IsEscape b w v → IsAtom k (byte b) w v
    byte_class : {k : ℕ} {negated : Bool} {rs : List ByteRange} {w v : List ℕ} → IsClass negated rs w v → IsAtom k (class negated rs) w v
    group : {k : ℕ} {r : Syntax} {w v : List ℕ} → IsRegex k r w (41 ∷ v) → IsAtom (suc k) r (40 ∷ w) v

  -- a piece: an atom, and perhaps how many times it stands
  pub data IsPiece : ℕ → Syntax → List ℕ → List ℕ → Type 0 where
    once : {k : ℕ} {a : Syntax} {w v : List ℕ} → IsAtom k a w v → IsPiece k a w v
    counted : {k n : ℕ} {m : Option ℕ} {a : Syntax} {w u v : List ℕ} → IsAtom k a w u → IsCount n m u v → IsPiece k (repeat n m a) w v

  -- behind the pieces s, further ones: together they are t
  pub data MorePieces : ℕ → Syntax → Syntax → List ℕ → List ℕ → Type 0 where
    no_piece : {k : ℕ} {s : Syntax} {w : List ℕ} → MorePieces k s s w w
    one_piece : {k : ℕ} {s t p : Syntax} {w u v : List ℕ} → IsPiece k p w u → MorePieces k (followed s p) t u v → MorePieces k s t w v

  -- an alternative: one or more pieces
  pub data IsAlternative : ℕ → Syntax → List ℕ → List ℕ → Type 0 where
    pieces : {k : ℕ} {s p : Syntax} {w u v : List ℕ} → IsPiece k p w u → MorePieces k (followed empty p) s u v → IsAlternative k s w v

  -- behind the alternatives r, further ones, each behind a bar: together they are t
  pub data MoreAlternatives : ℕ → Syntax → Syntax → List ℕ → List ℕ → Type 0 where
    no_alternative : {k : ℕ} {r : Syntax} {w : List ℕ} → MoreAlternatives k r r w w
    one_alternative : {k : ℕ} {r t s : Syntax} {w u v : List ℕ} → IsAlternative k s w u → MoreAlternatives k (either r s) t u v → MoreAlternatives k r t (124 ∷ w) v

  -- a regular expression: one or more alternatives
  pub data IsRegex : ℕ → Syntax → List ℕ → List ℕ → Type 0 where
    alternatives : {k : ℕ} {r s : Syntax} {w u v : List ℕ} → IsAlternative k s w u → MoreAlternatives k (either never s) r u v → IsRegex k r w v

-- the bytes are the text of the regular expression r, in which at most 64 groups stand within one another
abbrev pub Derives : List ℕ → Syntax → Type 0
Derives text r = IsRegex 64 r text []

-- the bytes are the text of some regular expression
abbrev pub IsRegexText : List ℕ → Type 0
IsRegexText text = (r : Syntax) × Derives text r

-- some text of a regular expression begins with these bytes
abbrev pub Begins : List ℕ → Type 0
Begins front = (rest : List ℕ) × IsRegexText (front ++ rest)

-- The text is that of no regular expression, and at `i` is the first byte that no such text has there, or
-- the end, where the text ends too early.
pub record IsFault (text : List ℕ) (i : ℕ) : Type 0 where
  pub within : i ≤ length text
  pub before : Begins (take i text)
  pub here : i < length text → Begins (take (i + 1) text) → ⊥
  pub no_text : IsRegexText text → ⊥
