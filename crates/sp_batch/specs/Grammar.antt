-- The text of a batch: a header's line, and records. A record is a line of words with one space between two of them, and behind
-- the line of data stand the data. A line ends by LF, and so do data; the last LF of the text may be missing.
use Rattle.std.specs.Prelude.{◌≡◌, ◌≢◌, ℕ, ◌≤◌, ◌<◌, ◌^◌, ◌⊎◌, nat_lt, nat_le, Bool, true, false, ◌&&◌, ◌==◌, if◌then◌else◌, List, [], ◌∷◌, ◌++◌, length, codes, decimal}
use Rattle.std.specs.List.{list_all}
use Rattle.sp_batch.specs.declared.record.Record.{Record}
use Rattle.sp_batch.specs.declared.record.Record.TheVariants.{BeginFlow, Data, Gap, EndFlow, BeginConn, EndConn}

-- a printable ASCII character that is no space
abbrev pub is_visible : ℕ → Bool
is_visible c = nat_lt 32 c && nat_lt c 127

-- 1 to 255 of these
abbrev pub is_name : List ℕ → Bool
is_name w = nat_lt 0 (length w) && nat_le (length w) 255 && list_all is_visible w

-- the greatest number that a record may have
abbrev pub Most : ℕ
Most = 2 ^ 62

-- words with one space between two of them
abbrev pub spaced : List (List ℕ) → List ℕ
spaced [] = []
spaced (w ∷ []) = w
spaced (w ∷ v ∷ ws) = w ++ 32 ∷ spaced (v ∷ ws)

-- the word for a flow of blocks or for a stream
abbrev pub kind_word : Bool → List ℕ
kind_word true = codes "block"
kind_word false = codes "stream"

-- the line of data: it says for which flow they are, and how many bytes
abbrev pub data_line : List ℕ → ℕ → List ℕ
data_line id size = spaced (codes "@data" ∷ id ∷ decimal size ∷ [])

-- the line of a record
abbrev pub line_of : Record → List ℕ
line_of (BeginFlow id block parser) = spaced (codes "@begin-flow" ∷ id ∷ kind_word block ∷ parser ∷ [])
line_of (Data id bytes) = data_line id (length bytes)
line_of (Gap id size) = spaced (codes "@gap" ∷ id ∷ decimal size ∷ [])
line_of (EndFlow id) = spaced (codes "@end-flow" ∷ id ∷ [])
line_of (BeginConn cid block oid oparser rid rparser) = spaced (codes "@begin-conn" ∷ cid ∷ kind_word block ∷ oid ∷ oparser ∷ rid ∷ rparser ∷ [])
line_of (EndConn cid) = spaced (codes "@end-conn" ∷ cid ∷ [])

-- the names of a record are names, and its number is small enough
abbrev pub IsSound : Record → Type 0
IsSound (BeginFlow id block parser) = (is_name id ≡ true) × (is_name parser ≡ true)
IsSound (Data id bytes) = (is_name id ≡ true) × (length bytes ≤ Most)
IsSound (Gap id size) = (is_name id ≡ true) × (size ≤ Most)
IsSound (EndFlow id) = is_name id ≡ true
IsSound (BeginConn cid block oid oparser rid rparser) =
    (is_name cid ≡ true) × (is_name oid ≡ true) × (is_name oparser ≡ true) × (is_name rid ≡ true) × (is_name rparser ≡ true)
IsSound (EndConn cid) = is_name cid ≡ true

-- a record without the LF at its end
abbrev pub written : Record → List ℕ
written (Data id bytes) = line_of (Data id bytes) ++ 10 ∷ bytes
written r = line_of r

-- an LF and then rest; at the end of the text the LF may be missing
abbrev pub Ends : List ℕ → List ℕ → Type 0
Ends tail rest = (tail ≡ 10 ∷ rest) ⊎ ((tail ≡ []) × (rest ≡ []))

-- the text begins with the record r, and rest is what follows
pub record IsRecord (text : List ℕ) (r : Record) (rest : List ℕ) : Type 0 where
  pub sound : IsSound r
  pub tail : List ℕ
  pub begins : text ≡ written r ++ tail
  pub ends : Ends tail rest

-- the text ends inside data, or inside their line where this is whole but for its LF
pub record IsCutShort (text : List ℕ) : Type 0 where
  pub id : List ℕ
  pub name : is_name id ≡ true
  pub size : ℕ
  pub small : size ≤ Most
  pub tail : List ℕ
  pub begins : text ≡ data_line id size ++ tail
  pub cut : (tail ≡ []) ⊎ ((bytes : List ℕ) × (tail ≡ 10 ∷ bytes) × (length bytes < size))

-- the bytes before the first c, or all
abbrev pub front : ℕ → List ℕ → List ℕ
front c [] = []
front c (x ∷ xs) = if x == c then [] else x ∷ front c xs

-- the first line is that of no record
abbrev pub IsNoLine : List ℕ → Type 0
IsNoLine text = (r : Record) → IsSound r → front 10 text ≢ line_of r

-- where data end stands another byte than LF
pub record IsUnended (text : List ℕ) : Type 0 where
  pub id : List ℕ
  pub name : is_name id ≡ true
  pub bytes : List ℕ
  pub small : length bytes ≤ Most
  pub byte : ℕ
  pub other : byte ≢ 10
  pub rest : List ℕ
  pub begins : text ≡ written (Data id bytes) ++ byte ∷ rest

-- the text begins with no record, and not because it is too short
abbrev pub IsBad : List ℕ → Type 0
IsBad text = (text ≢ []) × (IsNoLine text ⊎ IsUnended text)

-- the text begins with the header's line, and rest is what follows
pub record IsHeader (text rest : List ℕ) : Type 0 where
  pub tail : List ℕ
  pub begins : text ≡ codes "!spicy-batch v2" ++ tail
  pub ends : Ends tail rest

-- the text is these records, one behind the other
abbrev pub AreRecords : List ℕ → List Record → Type 0
AreRecords text [] = text ≡ []
AreRecords text (r ∷ rs) = (rest : List ℕ) × IsRecord text r rest × AreRecords rest rs

-- the text is a batch of these records
abbrev pub IsBatch : List ℕ → List Record → Type 0
IsBatch text rs = (rest : List ℕ) × IsHeader text rest × AreRecords rest rs
