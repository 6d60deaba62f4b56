-- A walk through a unit passes what it names.
use Rattle.std.specs.Prelude.{ℕ, ◌≡◌, Bool, true, false, ◌||◌, if◌then◌else◌, List, [], ◌++◌, Option}
use Rattle.sp_base.specs.declared.places.Span.{Span}
use Rattle.sp_ast.specs.Trees.{Tree, Trees}
use Rattle.sp_types.specs.Types.{Ty}
use Rattle.sp_type_modules.specs.Sources.{declared_in, declared_among, field_named}
use Rattle.sp_type_modules.specs.Taken.{Kept, has_number, number_differs, differs, place_if, with_number, with_kept, numbers_of, kept_of, field_taken, taken_in, taken_among, taken_arms}
use Rattle.sp_type_member_names.specs.declared.seen.Seen.{Seen}
use Rattle.sp_type_member_names.specs.inside.Seen.{told_count, how_many, kept_differs}

-- these were named near, and these fields before
pub record IsSeen (near : List ℕ) (kept : List Kept) (seen : Seen) : Type 0 where
  pub near_is : (k : ℕ) → told_count seen.near k ≡ how_many k near
  pub kept_is : (k : ℕ) (t : Ty) → kept_differs seen.kept k t ≡ differs k t kept

-- What was seen before a part, and behind it: these members are named in it, these fields stand in it, and these places in it
-- are of names that come twice. Behind an arm what it names isn't near.
pub record Passed (shows : Bool) (places : List ℕ → List Kept → List Span) (ks : List ℕ) (ss : List Kept) (old new : Seen) : Type 0 where
  pub trail : new.trail.items ≡ old.trail.items ++ ks
  pub found : (near : List ℕ) (kept : List Kept) → IsSeen near kept old → new.places.items ≡ old.places.items ++ places near kept
  pub seen : (near : List ℕ) (kept : List Kept) → IsSeen near kept old → IsSeen (if shows then near ++ ks else near) (kept ++ ss) new

abbrev pub PassedName : Option ℕ → Span → Seen → Seen → Type 0
PassedName number at old new = Passed true (λ near kept. place_if (has_number number near) at) (with_number number []) [] old new

abbrev pub PassedKept : Option ℕ → Ty → Span → Seen → Seen → Type 0
PassedKept number t at old new =
    Passed true (λ near kept. place_if (has_number number near || number_differs number t kept) at) (with_number number []) (with_kept number t []) old new

-- the members before an arm or a switch stand before those in it
pub record Restored (before : List ℕ) (old new : Seen) : Type 0 where
  pub near_stays : (j : ℕ) → told_count new.near j ≡ told_count old.near j
  pub kept_stays : (j : ℕ) (t : Ty) → kept_differs new.kept j t ≡ kept_differs old.kept j t
  pub places_stay : new.places.items ≡ old.places.items
  pub trail_grows : new.trail.items ≡ before ++ old.trail.items

module _ (number : List ℕ → Option ℕ) (type_at : Tree → Ty) where
  abbrev pub PassedField : Tree → Seen → Seen → Type 0
  PassedField t old new =
      Passed true (λ near kept. field_taken number type_at near kept t) (numbers_of number type_at (field_named t)) (kept_of number type_at (field_named t)) old new

  abbrev pub PassedIn : Bool → Tree → Seen → Seen → Type 0
  PassedIn shows t old new =
      Passed shows (λ near kept. taken_in number type_at near kept t) (numbers_of number type_at (declared_in t)) (kept_of number type_at (declared_in t)) old new

  abbrev pub PassedAmong : Trees → Seen → Seen → Type 0
  PassedAmong ts old new =
      Passed true (λ near kept. taken_among number type_at near kept ts) (numbers_of number type_at (declared_among ts)) (kept_of number type_at (declared_among ts)) old new

  abbrev pub PassedArms : Bool → Trees → Seen → Seen → Type 0
  PassedArms shows ts old new =
      Passed shows (λ near kept. taken_arms number type_at near kept ts) (numbers_of number type_at (declared_among ts)) (kept_of number type_at (declared_among ts)) old new

  -- whatever is passed behind these, in the end all are
  abbrev pub LeadsAmong : Seen → Seen → Trees → Trees → Type 0
  LeadsAmong first now left all = (later : Seen) → PassedAmong left now later → PassedAmong all first later

  abbrev pub LeadsArms : Seen → Seen → Trees → Trees → Type 0
  LeadsArms first now left all = (later : Seen) → PassedArms false left now later → PassedArms false all first later
