-- How a text is read from the left: its first line, the words of this line, and the data behind it. What this finds is what the
-- grammar says (`Laws`).
use Rattle.std.specs.Prelude.{ℕ, ◌+◌, ◌-◌, ◌*◌, nat_lt, nat_le, Bool, true, false, ◌&&◌, ◌==◌, if◌then◌else◌, List, [], ◌∷◌, length, take, drop, Option, Some, None, codes, decimal}
use Rattle.std.specs.Str.{bytes_eq}
use Rattle.sp_base.specs.declared.kinds.BKind.{BKind}
use Rattle.sp_base.specs.declared.kinds.BKind.TheVariants.{BadRecord, CutShort}
use Rattle.sp_batch.specs.declared.record.Record.{Record}
use Rattle.sp_batch.specs.declared.record.Record.TheVariants.{BeginFlow, Data, Gap, EndFlow, BeginConn, EndConn}
use Rattle.sp_batch.specs.declared.heads.Head.{Head}
use Rattle.sp_batch.specs.declared.heads.Head.TheVariants.{Whole, DataLine}
use Rattle.sp_batch.specs.Grammar.{is_name, Most, front}

-- the bytes behind the first c, where there is one
abbrev pub past : ℕ → List ℕ → Option (List ℕ)
past c [] = None
past c (x ∷ xs) = if x == c then Some xs else past c xs

-- the bytes behind a front
abbrev pub behind : List ℕ → List ℕ → Option (List ℕ)
behind [] s = Some s
behind (p ∷ ps) [] = None
behind (p ∷ ps) (x ∷ xs) = if x == p then behind ps xs else None

-- what follows an LF, or nothing at the end of the text
abbrev pub line_end : List ℕ → Option (List ℕ)
line_end [] = Some []
line_end (c ∷ rest) = if c == 10 then Some rest else None

abbrev pub if_some : {A B : Type 0} → Option A → (A → Option B) → Option B
if_some None f = None
if_some (Some x) f = f x

-- what is made of one, or else of another
abbrev pub or_else : {A B : Type 0} → Option A → (A → Option B) → Option B → Option B
or_else None f other = other
or_else (Some x) f other = f x

-- all is one name
abbrev pub name : List ℕ → Option (List ℕ)
name w = if is_name w then Some w else None

-- a name, and what stands behind its space
abbrev pub first_name : List ℕ → Option (List ℕ × List ℕ)
first_name s = if_some (past 32 s) (λ rest. if_some (name (front 32 s)) (λ w. Some (w, rest)))

-- whether it is a flow of blocks, and what stands behind the space
abbrev pub first_kind : List ℕ → Option (Bool × List ℕ)
first_kind s = or_else (behind (codes "block ") s) (λ rest. Some (true, rest))
    (if_some (behind (codes "stream ") s) (λ rest. Some (false, rest)))

-- the number that digits write behind a number n
abbrev pub number_from : ℕ → List ℕ → ℕ
number_from n [] = n
number_from n (d ∷ ds) = number_from (n * 10 + (d - 48)) ds

-- a number that is written without a sign or a leading zero, and is not too great
abbrev pub number : List ℕ → Option ℕ
number w = if bytes_eq w (decimal (number_from 0 w)) && nat_le (number_from 0 w) Most then Some (number_from 0 w) else None

-- a name and a number
abbrev pub sized : List ℕ → Option (List ℕ × ℕ)
sized s = if_some (first_name s) (λ id. if_some (number id.1) (λ size. Some (id.0, size)))

abbrev pub begin_flow : List ℕ → Option Head
begin_flow s = if_some (first_name s) (λ id. if_some (first_kind id.1) (λ kind. if_some (name kind.1) (λ parser.
    Some (Whole (BeginFlow id.0 kind.0 parser)))))

abbrev pub begin_conn : List ℕ → Option Head
begin_conn s = if_some (first_name s) (λ cid. if_some (first_kind cid.1) (λ kind. if_some (first_name kind.1) (λ oid. if_some (first_name oid.1) (λ oparser.
    if_some (first_name oparser.1) (λ rid. if_some (name rid.1) (λ rparser.
    Some (Whole (BeginConn cid.0 kind.0 oid.0 oparser.0 rid.0 rparser))))))))

abbrev pub data_line : List ℕ → Option Head
data_line s = if_some (sized s) (λ d. Some (DataLine d.0 d.1))

abbrev pub gap : List ℕ → Option Head
gap s = if_some (sized s) (λ d. Some (Whole (Gap d.0 d.1)))

abbrev pub end_flow : List ℕ → Option Head
end_flow s = if_some (name s) (λ id. Some (Whole (EndFlow id)))

abbrev pub end_conn : List ℕ → Option Head
end_conn s = if_some (name s) (λ cid. Some (Whole (EndConn cid)))

-- what a line says, by its first word
abbrev pub head : List ℕ → Option Head
head s = or_else (behind (codes "@data ") s) data_line
    (or_else (behind (codes "@gap ") s) gap
    (or_else (behind (codes "@begin-flow ") s) begin_flow
    (or_else (behind (codes "@end-flow ") s) end_flow
    (or_else (behind (codes "@begin-conn ") s) begin_conn
    (or_else (behind (codes "@end-conn ") s) end_conn None)))))

-- a record with what follows it, or what is wrong
pub data Reading : Type 0 where
  found : Record → List ℕ → Reading
  bad : BKind → Reading

-- what stands behind the first line; nothing where the text ends with it
abbrev pub following : Option (List ℕ) → List ℕ
following None = []
following (Some rest) = rest

abbrev pub with_end : Record → Option (List ℕ) → Reading
with_end r None = bad BadRecord
with_end r (Some rest) = found r rest

-- data, before what stands behind them
abbrev pub ended : List ℕ → List ℕ → List ℕ → Reading
ended id bytes tail = with_end (Data id bytes) (line_end tail)

-- data from behind their line on
abbrev pub with_data : List ℕ → ℕ → Option (List ℕ) → Reading
with_data id size None = bad CutShort
with_data id size (Some rest) = if nat_lt (length rest) size then bad CutShort else ended id (take size rest) (drop size rest)

abbrev pub with_head : Option Head → Option (List ℕ) → Reading
with_head None rest = bad BadRecord
with_head (Some (Whole r)) rest = found r (following rest)
with_head (Some (DataLine id size)) rest = with_data id size rest

-- what a text begins with
abbrev pub read : List ℕ → Reading
read text = with_head (head (front 10 text)) (past 10 text)

-- what follows the header
abbrev pub header : List ℕ → Option (List ℕ)
header text = if_some (behind (codes "!spicy-batch v2") text) line_end
