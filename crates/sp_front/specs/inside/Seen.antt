-- Which names the entries of a list have, by a table.
use Rattle.std.specs.Prelude.{ℕ, ◌≡◌, Bool, is_some, List}
use Rattle.indexmap.specs.IndexMap.{get_by_text}
use Rattle.sp_front.specs.declared.seen.Seen.{Seen}
use Rattle.sp_front.specs.declared.entries.Entry.{Entry}
use Rattle.sp_front.specs.Lists.{is_in}

abbrev pub told : Seen → List ℕ → Bool
told s x = is_some (get_by_text s.names x)

-- the table has the names of these entries
abbrev pub AreSeen : Seen → List Entry → Type 0
AreSeen s es = (x : List ℕ) → told s x ≡ is_in x es
