-- The command line: `[-p UNIT] [-i N] [-L DIRS] [--report] [--trace] [--max-turns N] [--max-input N] FILES`, in this order, at least one
-- file.
use Rattle.std.specs.Prelude.{ℕ, ◌+◌, ◌-◌, ◌*◌, ◌^◌, List, [], ◌∷◌, Option, Some, None, Bool, true, false, ◌&&◌, ◌==◌, nat_le, if◌then◌else◌, bytes_eq, codes}
use Rattle.std.specs.List.{list_all}
use Rattle.sp_command.specs.Words.{is_file}

-- What the words of a call say: the path of the unit that runs, where one is named; the size of pieces in bytes; the directories in which
-- imports are looked for, as one text; whether lines on the bytes that are kept are written, and lines on hooks; how many turns may pass
-- without a byte, and how many bytes may be taken; and the files.
pub record Words : Type 0 where
  pub unit : Option (List ℕ)
  pub increment : ℕ
  pub directories : List ℕ
  pub report : Bool
  pub trace : Bool
  pub turns : ℕ
  pub most : ℕ
  pub files : List (List ℕ)

-- what is made of something, where it is there
abbrev pub where_some : {A : Type 0} {B : Type 0} → Option A → (A → Option B) → Option B
where_some None go = None
where_some (Some x) go = go x

-- the number that decimal digits make behind a number n, if it is at most this
abbrev pub number_from : (most : ℕ) → ℕ → List ℕ → Option ℕ
number_from most n [] = if nat_le n most then Some n else None
number_from most n (d ∷ ds) = if nat_le 48 d && nat_le d 57 then number_from most (n * 10 + (d - 48)) ds else None

-- digits without a zero in front, unless there is one alone
abbrev pub number_of : (most : ℕ) → List ℕ → Option ℕ
number_of most [] = None
number_of most (d ∷ []) = number_from most 0 (d ∷ [])
number_of most (d ∷ e ∷ ds) = if d == 48 then None else number_from most 0 (d ∷ e ∷ ds)

-- a number that is not below another
abbrev pub not_below : ℕ → Option ℕ → Option ℕ
not_below least None = None
not_below least (Some n) = if nat_le least n then Some n else None

-- the value of an option as a number of a range, or a number where the option isn't there
abbrev pub number_in : (least most default : ℕ) → Option (List ℕ) → Option ℕ
number_in least most default None = Some default
number_in least most default (Some digits) = not_below least (number_of most digits)

-- the value of an option, where it is there, and the words behind it
pub record Taken : Type 0 where
  pub value : Option (List ℕ)
  pub behind : List (List ℕ)

-- an option has a value, which is not empty and doesn't begin with a dash
abbrev pub valued : List (List ℕ) → Option Taken
valued [] = None
valued (value ∷ words) = if is_file value then Some (record { value = Some value; behind = words }) else None

-- the option of this name, where the words begin with it
abbrev pub option_of : List ℕ → List (List ℕ) → Option Taken
option_of name [] = Some (record { value = None; behind = [] })
option_of name (word ∷ words) = if bytes_eq word name then valued words else Some (record { value = None; behind = word ∷ words })

-- whether a flag is there, and the words behind it
pub record Flag : Type 0 where
  pub set : Bool
  pub behind : List (List ℕ)

-- the flag of this name, where the words begin with it
abbrev pub flag_of : List ℕ → List (List ℕ) → Flag
flag_of name [] = record { set = false; behind = [] }
flag_of name (word ∷ words) = if bytes_eq word name then record { set = true; behind = words } else record { set = false; behind = word ∷ words }

-- all words can be files
abbrev pub are_files : List (List ℕ) → Bool
are_files words = list_all is_file words

-- a text, or none of it
abbrev pub text_or_nothing : Option (List ℕ) → List ℕ
text_or_nothing None = []
text_or_nothing (Some x) = x

-- the words with these files, if there are some and all can be files
abbrev pub with_files : Words → List (List ℕ) → Option Words
with_files w [] = None
with_files w (file ∷ files) = if are_files (file ∷ files) then Some (record w { files = file ∷ files }) else None

-- what the words behind the flags want
abbrev pub limits_of : Words → List (List ℕ) → Option Words
limits_of w words =
    where_some (option_of (codes "--max-turns") words) (λ turns.
    where_some (number_in 1 (2 ^ 32) 1000000 turns.value) (λ t.
    where_some (option_of (codes "--max-input") turns.behind) (λ input.
    where_some (number_in 0 (2 ^ 62) (2 ^ 62) input.value) (λ m. with_files (record w { turns = t; most = m }) input.behind))))

-- what the words behind the directories want
abbrev pub flags_of : Words → List (List ℕ) → Option Words
flags_of w words =
    let report = flag_of (codes "--report") words in
    let trace = flag_of (codes "--trace") report.behind in
    limits_of (record w { report = report.set; trace = trace.set }) trace.behind

-- without any word
abbrev pub nothing_wanted : Words
nothing_wanted = record { unit = None; increment = 65536; directories = []; report = false; trace = false; turns = 1000000; most = 2 ^ 62; files = [] }

-- what the words want, or none at a usage fault
abbrev pub words_of : List (List ℕ) → Option Words
words_of words =
    where_some (option_of (codes "-p") words) (λ unit.
    where_some (option_of (codes "-i") unit.behind) (λ pieces.
    where_some (number_in 1 65536 65536 pieces.value) (λ n.
    where_some (option_of (codes "-L") pieces.behind)
    (λ library. flags_of (record nothing_wanted { unit = unit.value; increment = n; directories = text_or_nothing library.value }) library.behind))))
