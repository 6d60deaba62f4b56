-- The last line of a run on the made input.
use Rattle.std.specs.Prelude.{ℕ, List, ◌++◌, codes}
use Rattle.serde_json.specs.Data.{Data, number, unsigned, object, member, no_members}
use Rattle.serde_json.specs.Written.{compact_text}

-- how many bytes were made, and the most that were kept
abbrev pub line_json : ℕ → ℕ → Data
line_json bytes most_kept =
    object (member (codes "bytes") (number (unsigned bytes)) (member (codes "most_kept") (number (unsigned most_kept)) no_members))

abbrev pub line_of : ℕ → ℕ → List ℕ
line_of bytes most_kept = compact_text (line_json bytes most_kept) ++ codes "\n"
