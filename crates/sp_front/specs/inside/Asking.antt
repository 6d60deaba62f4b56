-- How far was asked, where the files are told.
use Rattle.std.specs.Prelude.{◌≡◌, ℕ, List, ◌++◌, take, Option, Some, None}
use Rattle.sp_io.specs.Asked.{also_asked}
use Rattle.sp_command.specs.declared.refusal.Refusal.{Refusal}
use Rattle.sp_front.specs.declared.entries.Entry.{Entry}
use Rattle.sp_front.specs.Lists.{Files, stop, AreNext, IsStop}
use Rattle.sp_front.specs.Asked.{Told, asked_along, asked_for_all, asked_next}

-- a front of these paths was asked
abbrev pub IsPart : Option (List (List ℕ)) → Option (List (List ℕ)) → List (List ℕ) → Type 0
IsPart before now all = (n : ℕ) × (now ≡ also_asked before (take n all))

-- all these paths were asked
abbrev pub Asked : Files → Option (List (List ℕ)) → Option (List (List ℕ)) → (Told → List (List ℕ)) → Type 0
Asked None before now all = Unit {0}
Asked (Some files) before now all = now ≡ also_asked before (all files)

-- a front of these paths was asked
abbrev pub AskedPart : Files → Option (List (List ℕ)) → Option (List (List ℕ)) → (Told → List (List ℕ)) → Type 0
AskedPart None before now all = Unit {0}
AskedPart (Some files) before now all = IsPart before now (all files)

-- of these paths those before the ones that are left were asked
abbrev pub Searching : Files → Option (List (List ℕ)) → Option (List (List ℕ)) → List (List ℕ) → List (List ℕ) → Type 0
Searching None before now paths left = Unit {0}
Searching (Some files) before now paths left =
    (done : List (List ℕ)) × (now ≡ also_asked before done) × (asked_along files paths ≡ done ++ asked_along files left)

-- imports were followed from these entries to those, and asked for
abbrev pub FollowedAsking : Files → List (List ℕ) → List Entry → List Entry → Option (List (List ℕ)) → Option (List (List ℕ)) → Type 0
FollowedAsking None dirs es now before after = Unit {0}
FollowedAsking (Some files) dirs es now before after =
    (more : List Entry) × AreNext (Some files) dirs es more × (now ≡ es ++ more) × (after ≡ also_asked before (asked_for_all files dirs more))

-- some were followed, and of the next a front was asked
abbrev pub StuckAsking : Files → List (List ℕ) → List Entry → Option (List (List ℕ)) → Option (List (List ℕ)) → Type 0
StuckAsking None dirs es before after = Unit {0}
StuckAsking (Some files) dirs es before after =
    (now : List Entry) × (mid : Option (List (List ℕ))) × FollowedAsking (Some files) dirs es now before mid × IsPart mid after (asked_next files dirs now)

-- some were followed, then the list is refused, and all that is asked next was asked
abbrev pub StoppedAsking : Files → List (List ℕ) → List Entry → Option (List (List ℕ)) → Option (List (List ℕ)) → Refusal → Type 0
StoppedAsking None dirs es before after r = Unit {0}
StoppedAsking (Some files) dirs es before after r =
    (now : List Entry) × (mid : Option (List (List ℕ))) × FollowedAsking (Some files) dirs es now before mid
    × IsStop (Some files) dirs now (stop now) r × (after ≡ also_asked mid (asked_next files dirs now))
