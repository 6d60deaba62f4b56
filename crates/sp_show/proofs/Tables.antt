-- The names of a program's tables, by their numbers.
use Rattle.std.proofs.Common.{◌≡◌, ℕ, ◌<◌, ◌≤◌, List, [], ◌∷◌, length, get_or, map, refl, ap, ◌∙◌}
use Rattle.std.specs.Prelude.{unwrap_or}
use Rattle.std.specs.Option.{option_map}
use Rattle.std.proofs.lemmas.Option.{slice_get-map, slice_get_past, slice_get_read}
use Rattle.sp_code.specs.declared.program.UnitCode.{UnitCode}
use Rattle.sp_code.specs.declared.program.Labels.{Labels}
use Rattle.sp_code.specs.declared.program.Ranges.{Ranges}
use Rattle.sp_code.specs.Programs.{member_names, label_names, range_names}
use Rattle.sp_meaning_states.specs.Telling.{names_at}

-- the row at a number, in a table that has one for each of a list, and what is past its end
module _ {A B : Type 0} (row : A → List B) where
  row_within : (xs : List A) (n : ℕ) (x : A) → n < length xs → x ≡ get_or xs n x → names_at (map row xs) n ≡ row x
  row_within xs n x h e = ap (λ o. unwrap_or o []) (slice_get-map row xs n ∙ ap (option_map row) (slice_get_read xs (length xs) n x refl h e))

  row_past : (xs : List A) (n : ℕ) → length xs ≤ n → names_at (map row xs) n ≡ []
  row_past xs n h = ap (λ o. unwrap_or o []) (slice_get-map row xs n ∙ ap (option_map row) (slice_get_past xs n h))

member_rows : (us : List UnitCode) → member_names us ≡ map (λ u. u.members.items) us
member_rows [] = refl
member_rows (u ∷ us) = ap (λ t. u.members.items ∷ t) (member_rows us)

label_rows : (ls : List Labels) → label_names ls ≡ map (λ l. l.labels.items) ls
label_rows [] = refl
label_rows (l ∷ ls) = ap (λ t. l.labels.items ∷ t) (label_rows ls)

range_rows : (rs : List Ranges) → range_names rs ≡ map (λ r. r.ranges.items) rs
range_rows [] = refl
range_rows (r ∷ rs) = ap (λ t. r.ranges.items ∷ t) (range_rows rs)

pub members_within : (us : List UnitCode) (n : ℕ) (u : UnitCode) → n < length us → u ≡ get_or us n u → names_at (member_names us) n ≡ u.members.items
members_within us n u h e = ap (λ t. names_at t n) (member_rows us) ∙ row_within (λ (u : UnitCode). u.members.items) us n u h e

pub members_past : (us : List UnitCode) (n : ℕ) → length us ≤ n → names_at (member_names us) n ≡ []
members_past us n h = ap (λ t. names_at t n) (member_rows us) ∙ row_past (λ (u : UnitCode). u.members.items) us n h

pub labels_within : (ls : List Labels) (n : ℕ) (l : Labels) → n < length ls → l ≡ get_or ls n l → names_at (label_names ls) n ≡ l.labels.items
labels_within ls n l h e = ap (λ t. names_at t n) (label_rows ls) ∙ row_within (λ (l : Labels). l.labels.items) ls n l h e

pub labels_past : (ls : List Labels) (n : ℕ) → length ls ≤ n → names_at (label_names ls) n ≡ []
labels_past ls n h = ap (λ t. names_at t n) (label_rows ls) ∙ row_past (λ (l : Labels). l.labels.items) ls n h

pub ranges_within : (rs : List Ranges) (n : ℕ) (r : Ranges) → n < length rs → r ≡ get_or rs n r → names_at (range_names rs) n ≡ r.ranges.items
ranges_within rs n r h e = ap (λ t. names_at t n) (range_rows rs) ∙ row_within (λ (r : Ranges). r.ranges.items) rs n r h e

pub ranges_past : (rs : List Ranges) (n : ℕ) → length rs ≤ n → names_at (range_names rs) n ≡ []
ranges_past rs n h = ap (λ t. names_at t n) (range_rows rs) ∙ row_past (λ (r : Ranges). r.ranges.items) rs n h
