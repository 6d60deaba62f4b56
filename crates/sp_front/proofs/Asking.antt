-- What was asked so far.
use Rattle.std.proofs.Common.{◌≡◌, ◌<◌, ◌≤◌, ℕ, zero, suc, ◌+◌, List, [], ◌∷◌, ◌++◌, length, take, drop, Bool, true, false, cond, Option, Some, None, is_some, nat_lt, codes, get_or, Result, Ok, Err, sym, ap, subst, ◌∙◌, refl, arith, append_assoc, inl, inr}
use Rattle.std.specs.Prelude.{IfErr}
use Rattle.std.proofs.Math.Seq.{drop-cons}
use Rattle.std.proofs.lemmas.Bool.Decides.{nat_tests}
use Rattle.std.proofs.lemmas.List.{append-nil, take_all, take_more, drop_all}
use Rattle.sp_io.specs.Asked.{also_asked}
use Rattle.sp_command.specs.Files.{Holds}
use Rattle.sp_command.specs.declared.refusal.Refusal.{Refusal}
use Rattle.sp_read_file.specs.declared.unread.Unread.{Unread}
use Rattle.sp_front.specs.declared.entries.ModuleFile.{ModuleFile}
use Rattle.sp_front.specs.declared.entries.Import.{Import}
use Rattle.sp_front.specs.declared.entries.Entry.{Entry}
use Rattle.sp_front.specs.Imports.{file_name, paths_of}
use Rattle.sp_front.specs.Lists.{Files, refused, most_modules, is_missing, stop, entries_of, AreNext, AreNamedFiles, IsImported, IsAskedInVain, IsStop}
use Rattle.sp_front.specs.Asked.{Told, asked_along, asked_for, asked_for_name, asked_for_entry, asked_for_all, asked_behind, asked_at_stop, asked_next, AreAskedFor, AsksList, AsksRefused, AsksNoMore, Asks}
use Rattle.sp_front.specs.inside.Asking.{IsPart, Asked, AskedPart, Searching, FollowedAsking, StuckAsking, StoppedAsking}
use Rattle.sp_front.specs.inside.Follow.{IsDue, IsRefusedBy}
use Rattle.sp_front.proofs.Following.{due_stop, next_more, next_all}
use Rattle.sp_front.proofs.Missing.{imported_name}

pub also_nil : (before : Option (List (List ℕ))) → also_asked before [] ≡ before
also_nil None = refl
also_nil (Some before) = ap Some (append-nil before)

pub also_also : (before : Option (List (List ℕ))) (p q : List (List ℕ)) → also_asked (also_asked before p) q ≡ also_asked before (p ++ q)
also_also None p q = refl
also_also (Some before) p q = ap Some (append_assoc before p q)

-- nothing, or all, is a part
pub part_none : (before : Option (List (List ℕ))) (all : List (List ℕ)) → IsPart before before all
part_none before all = (0, sym (also_nil before))

pub part_all : (before now : Option (List (List ℕ))) (all : List (List ℕ)) → now ≡ also_asked before all → IsPart before now all
part_all before now all is = (length all, is ∙ ap (λ x. also_asked before x) (sym (take_all (length all) all (omega arith))))

pub asked_part : (files : Files) (before now : Option (List (List ℕ))) (all : Told → List (List ℕ)) → Asked files before now all → AskedPart files before now all
asked_part None before now all is = tt
asked_part (Some files) before now all is = part_all before now (all files) is

pub nothing_part : (files : Files) (before : Option (List (List ℕ))) (all : Told → List (List ℕ)) → AskedPart files before before all
nothing_part None before all = tt
nothing_part (Some files) before all = part_none before (all files)

-- a search begins; goes on behind a path without a file; and ends
pub search_start : (files : Files) (before : Option (List (List ℕ))) (paths : List (List ℕ)) → Searching files before before paths paths
search_start None before paths = tt
search_start (Some files) before paths = ([], sym (also_nil before), refl)

more_is : (before mid now : Option (List (List ℕ))) (done more : List (List ℕ)) → mid ≡ also_asked before done → now ≡ also_asked mid more → now ≡ also_asked before (done ++ more)
more_is before mid now done more was is = is ∙ ap (λ o. also_asked o more) was ∙ also_also before done more

along_by : (b : Bool) (p : List ℕ) (rest : List (List ℕ)) → b ≡ false → p ∷ cond b [] rest ≡ p ∷ rest
along_by b p rest is = ap (λ c. p ∷ cond c [] rest) is

along_here : (b : Bool) (p : List ℕ) (rest : List (List ℕ)) → b ≡ true → p ∷ cond b [] rest ≡ p ∷ []
along_here b p rest is = ap (λ c. p ∷ cond c [] rest) is

along_last : (files : Told) (p : List ℕ) → asked_along files (p ∷ []) ≡ p ∷ []
along_last files p = by (is_some (files p))
  where
    by : (b : Bool) → p ∷ cond b [] [] ≡ p ∷ []
    by true = refl
    by false = refl

pub search_on : (files : Files) (before mid now : Option (List (List ℕ))) (paths : List (List ℕ)) (p : List ℕ) (left : List (List ℕ)) → Searching files before mid paths (p ∷ left) → Holds files p None → now ≡ also_asked mid (p ∷ []) → Searching files before now paths left
search_on None before mid now paths p left so holds is = tt
search_on (Some files) before mid now paths p left (done, was, all) holds is = (
  done ++ p ∷ [],
  more_is before mid now done (p ∷ []) was is,
  all ∙ ap (λ x. done ++ x) (along_by (is_some (files p)) p (asked_along files left) (sym (ap is_some holds))) ∙ sym (append_assoc done (p ∷ []) (asked_along files left)),
)

pub search_found : (files : Files) (before mid now : Option (List (List ℕ))) (paths : List (List ℕ)) (p : List ℕ) (left : List (List ℕ)) (t : List ℕ) → Searching files before mid paths (p ∷ left) → Holds files p (Some t) → now ≡ also_asked mid (p ∷ []) → Asked files before now (λ told. asked_along told paths)
search_found None before mid now paths p left t so holds is = tt
search_found (Some files) before mid now paths p left t (done, was, all) holds is =
    more_is before mid now done (p ∷ []) was is
    ∙ ap (λ x. also_asked before x) (sym (all ∙ ap (λ x. done ++ x) (along_here (is_some (files p)) p (asked_along files left) (sym (ap is_some holds)))))

pub search_last : (files : Files) (before mid now : Option (List (List ℕ))) (paths : List (List ℕ)) (p : List ℕ) → Searching files before mid paths (p ∷ []) → now ≡ also_asked mid (p ∷ []) → Asked files before now (λ told. asked_along told paths)
search_last None before mid now paths p so is = tt
search_last (Some files) before mid now paths p (done, was, all) is =
    more_is before mid now done (p ∷ []) was is ∙ ap (λ x. also_asked before x) (sym (all ∙ ap (λ x. done ++ x) (along_last files p)))

take_front : (xs ys : List (List ℕ)) → take (length xs) (xs ++ ys) ≡ xs
take_front [] ys = refl
take_front (x ∷ xs) ys = ap (λ zs. x ∷ zs) (take_front xs ys)

pub search_part : (files : Files) (before now : Option (List (List ℕ))) (paths left : List (List ℕ)) → Searching files before now paths left → AskedPart files before now (λ told. asked_along told paths)
search_part None before now paths left so = tt
search_part (Some files) before now paths left (done, was, all) =
    (length done, was ∙ ap (λ x. also_asked before x) (sym (ap (λ x. take (length done) x) all ∙ take_front done (asked_along files left))))

-- there is room for one more module
pub room_part : (files : Files) (dirs : List (List ℕ)) (n : ℕ) (x : List ℕ) (before now : Option (List (List ℕ))) → n < most_modules → AskedPart files before now (λ told. asked_for told dirs x) → AskedPart files before now (λ told. asked_behind told dirs n x)
room_part None dirs n x before now less is = tt
room_part (Some files) dirs n x before now less is =
    let room : nat_lt n most_modules ≡ true = grind (arith, nat_tests) in
    subst (λ b. IsPart before now (cond b (asked_for files dirs x) [])) (sym room) is

pub room_all : (files : Files) (dirs : List (List ℕ)) (n : ℕ) (x : List ℕ) (before now : Option (List (List ℕ))) → n < most_modules → Asked files before now (λ told. asked_for told dirs x) → Asked files before now (λ told. asked_behind told dirs n x)
room_all None dirs n x before now less is = tt
room_all (Some files) dirs n x before now less is =
    let room : nat_lt n most_modules ≡ true = grind (arith, nat_tests) in
    subst (λ b. now ≡ also_asked before (cond b (asked_for files dirs x) [])) (sym room) is

-- there is none
pub full_none : (files : Files) (dirs : List (List ℕ)) (n : ℕ) (x : List ℕ) (before : Option (List (List ℕ))) → most_modules ≤ n → Asked files before before (λ told. asked_behind told dirs n x)
full_none None dirs n x before full = tt
full_none (Some files) dirs n x before full =
    let over : nat_lt n most_modules ≡ false = grind (arith, nat_tests) in
    subst (λ b. before ≡ also_asked before (cond b (asked_for files dirs x) [])) (sym over) (sym (also_nil before))

-- imports that are followed
pub followed_none : (files : Files) (dirs : List (List ℕ)) (es : List Entry) (before : Option (List (List ℕ))) → FollowedAsking files dirs es es before before
followed_none None dirs es before = tt
followed_none (Some files) dirs es before = ([], tt, sym (append-nil es), sym (also_nil before))

all_append : (files : Told) (dirs : List (List ℕ)) (xs ys : List Entry) → asked_for_all files dirs (xs ++ ys) ≡ asked_for_all files dirs xs ++ asked_for_all files dirs ys
all_append files dirs [] ys = refl
all_append files dirs (x ∷ xs) ys =
    ap (λ zs. asked_for_entry files dirs x ++ zs) (all_append files dirs xs ys) ∙ sym (append_assoc (asked_for_entry files dirs x) (asked_for_all files dirs xs) (asked_for_all files dirs ys))

all_one : (files : Told) (dirs : List (List ℕ)) (e : Entry) (x : List ℕ) → IsImported (Some files) dirs x e → asked_for_all files dirs (e ∷ []) ≡ asked_for files dirs x
all_one files dirs e x imported = append-nil (asked_for_entry files dirs e) ∙ ap (λ o. asked_for_name files dirs o) (imported_name (Some files) dirs x e imported)

pub followed_by : (files : Files) (dirs : List (List ℕ)) (es now : List Entry) (at : ℕ) (i : Import) (is : List Import) (new : List Entry) (before mid after : Option (List (List ℕ))) → FollowedAsking files dirs es now before mid
    → IsDue now at (i ∷ is) → is_missing now i ≡ true → length now < most_modules
    → (e : Entry) × IsImported files dirs i.name e × (new ≡ now ++ e ∷ []) → Asked files mid after (λ told. asked_for told dirs i.name) → FollowedAsking files dirs es new before after
followed_by None dirs es now at i is new before mid after so due missing_is less added asked = tt
followed_by (Some files) dirs es now at i is new before mid after (more, are, all, was) due missing_is less (e, imported, pushed) asked = (
  more ++ e ∷ [],
  next_more (Some files) dirs es more e are (due.file, i, ap stop (sym all) ∙ due_stop now at i is due missing_is, subst (λ xs. length xs < most_modules) all less, imported),
  pushed ∙ ap (λ xs. xs ++ e ∷ []) all ∙ append_assoc es more (e ∷ []),
  more_is before mid after (asked_for_all files dirs more) (asked_for files dirs i.name) was asked
      ∙ ap (λ x. also_asked before x) (ap (λ x. asked_for_all files dirs more ++ x) (sym (all_one files dirs e i.name imported)) ∙ sym (all_append files dirs more (e ∷ []))),
)

pub stuck_by : (files : Files) (dirs : List (List ℕ)) (es now : List Entry) (at : ℕ) (i : Import) (is : List Import) (before mid after : Option (List (List ℕ))) → FollowedAsking files dirs es now before mid
    → IsDue now at (i ∷ is) → is_missing now i ≡ true → AskedPart files mid after (λ told. asked_behind told dirs (length now) i.name) → StuckAsking files dirs es before after
stuck_by None dirs es now at i is before mid after so due missing_is asked = tt
stuck_by (Some files) dirs es now at i is before mid after so due missing_is asked =
    (now, mid, so, subst (λ s. IsPart mid after (asked_at_stop files dirs (length now) s)) (sym (due_stop now at i is due missing_is)) asked)

pub stuck_none : (files : Files) (dirs : List (List ℕ)) (es now : List Entry) (before after : Option (List (List ℕ))) → FollowedAsking files dirs es now before after → StuckAsking files dirs es before after
stuck_none None dirs es now before after so = tt
stuck_none (Some files) dirs es now before after so = (now, after, so, part_none after (asked_next files dirs now))

pub followed_on : (files : Files) (dirs : List (List ℕ)) (es now last : List Entry) (before mid after : Option (List (List ℕ))) → FollowedAsking files dirs es now before mid → FollowedAsking files dirs now last mid after → FollowedAsking files dirs es last before after
followed_on None dirs es now last before mid after so further = tt
followed_on (Some files) dirs es now last before mid after (more, are, all, was) (rest, also, whole, is) = (
  more ++ rest,
  next_all (Some files) dirs es more rest are (subst (λ xs. AreNext (Some files) dirs xs rest) all also),
  whole ∙ ap (λ xs. xs ++ rest) all ∙ append_assoc es more rest,
  more_is before mid after (asked_for_all files dirs more) (asked_for_all files dirs rest) was is ∙ ap (λ x. also_asked before x) (sym (all_append files dirs more rest)),
)

pub stuck_on : (files : Files) (dirs : List (List ℕ)) (es now : List Entry) (before mid after : Option (List (List ℕ))) → FollowedAsking files dirs es now before mid → StuckAsking files dirs now mid after → StuckAsking files dirs es before after
stuck_on None dirs es now before mid after so stuck = tt
stuck_on (Some files) dirs es now before mid after so (last, between, further, part) =
    (last, between, followed_on (Some files) dirs es now last before mid between so further, part)

-- an import in vain, or a file that is refused, and all was asked
pub stopped_by : (files : Files) (dirs : List (List ℕ)) (es now : List Entry) (at : ℕ) (i : Import) (is : List Import) (u : Unread) (before mid after : Option (List (List ℕ))) → FollowedAsking files dirs es now before mid
    → (due : IsDue now at (i ∷ is)) → is_missing now i ≡ true → IsRefusedBy (IsAskedInVain files dirs now due.file i) u → IsRefusedBy (λ _. Asked files mid after (λ told. asked_behind told dirs (length now) i.name)) u
    → IsRefusedBy (StoppedAsking files dirs es before after) u
stopped_by None dirs es now at i is (Unread.Refused r) before mid after so due missing_is vain asked = tt
stopped_by (Some files) dirs es now at i is (Unread.Refused r) before mid after so due missing_is vain asked =
    let here = sym (due_stop now at i is due missing_is) in
    (now, mid, so, subst (λ s. IsStop (Some files) dirs now s r) here vain, subst (λ s. after ≡ also_asked mid (asked_at_stop files dirs (length now) s)) here asked)
stopped_by files dirs es now at i is Unread.ModulesFault before mid after so due missing_is vain asked = tt
stopped_by files dirs es now at i is Unread.NoMemory before mid after so due missing_is vain asked = tt

pub stopped_at : (files : Files) (dirs : List (List ℕ)) (es now : List Entry) (r : Refusal) (before after : Option (List (List ℕ))) → FollowedAsking files dirs es now before after → stop now ≡ refused r → StoppedAsking files dirs es before after r
stopped_at None dirs es now r before after so is = tt
stopped_at (Some files) dirs es now r before after so is =
    (now, after, so, subst (λ s. IsStop (Some files) dirs now s r) (sym is) refl, subst (λ s. after ≡ also_asked after (asked_at_stop files dirs (length now) s)) (sym is) (sym (also_nil after)))

pub stopped_on : (files : Files) (dirs : List (List ℕ)) (es now : List Entry) (u : Unread) (before mid after : Option (List (List ℕ))) → FollowedAsking files dirs es now before mid
    → IsRefusedBy (StoppedAsking files dirs now mid after) u → IsRefusedBy (StoppedAsking files dirs es before after) u
stopped_on None dirs es now (Unread.Refused r) before mid after so stopped = tt
stopped_on (Some files) dirs es now (Unread.Refused r) before mid after so (last, between, further, is, asked) =
    (last, between, followed_on (Some files) dirs es now last before mid between so further, is, asked)
stopped_on files dirs es now Unread.ModulesFault before mid after so stopped = tt
stopped_on files dirs es now Unread.NoMemory before mid after so stopped = tt

-- the whole list
named_and : (files : Told) (names dirs : List (List ℕ)) (named now : List Entry) (before mid after : Option (List (List ℕ))) → AreNamedFiles (Some files) names named → mid ≡ also_asked before (take most_modules names)
    → FollowedAsking (Some files) dirs named now mid after → (done : List (List ℕ)) × AreAskedFor files names dirs now done × (after ≡ also_asked before done)
named_and files names dirs named now before mid after are was (more, next, all, is) =
    (take most_modules names ++ asked_for_all files dirs more, (named, more, are, next, all, refl), more_is before mid after (take most_modules names) (asked_for_all files dirs more) was is)

pub asks_named : (files : Files) (names dirs : List (List ℕ)) (before now : Option (List (List ℕ))) → IsPart before now (take most_modules names) → Asks files before now (λ told. AsksNoMore told names dirs)
asks_named None names dirs before now part = tt
asks_named (Some files) names dirs before now (n, is) = (take n (take most_modules names), is, inl (n, refl))

pub asks_list : (files : Files) (names dirs : List (List ℕ)) (named now : List Entry) (list : List ModuleFile) (before mid after : Option (List (List ℕ))) → AreNamedFiles files names named → mid ≡ also_asked before (take most_modules names)
    → FollowedAsking files dirs named now mid after → entries_of list ≡ now → Asks files before after (λ told. AsksList told names dirs list)
asks_list None names dirs named now list before mid after are was so same = tt
asks_list (Some files) names dirs named now list before mid after are was so same =
    let (done, all, is) = named_and files names dirs named now before mid after are was so in
    (done, is, subst (λ es. AreAskedFor files names dirs es done) (sym same) all)

pub asks_stuck : (files : Files) (names dirs : List (List ℕ)) (named : List Entry) (before mid after : Option (List (List ℕ))) → AreNamedFiles files names named → mid ≡ also_asked before (take most_modules names)
    → StuckAsking files dirs named mid after → Asks files before after (λ told. AsksNoMore told names dirs)
asks_stuck None names dirs named before mid after are was stuck = tt
asks_stuck (Some files) names dirs named before mid after are was (now, between, so, (n, part)) =
    let (done, all, is) = named_and files names dirs named now before mid between are was so in
    let last = take n (asked_next files dirs now) in
    (done ++ last, more_is before between after done last is part, inr (now, done, n, all, refl))

pub asks_followed : (files : Files) (names dirs : List (List ℕ)) (named now : List Entry) (before mid after : Option (List (List ℕ))) → AreNamedFiles files names named → mid ≡ also_asked before (take most_modules names)
    → FollowedAsking files dirs named now mid after → Asks files before after (λ told. AsksNoMore told names dirs)
asks_followed files names dirs named now before mid after are was so =
    asks_stuck files names dirs named before mid after are was (stuck_none files dirs named now mid after so)

pub asks_stopped : (files : Files) (names dirs : List (List ℕ)) (named : List Entry) (u : Unread) (before mid after : Option (List (List ℕ))) → AreNamedFiles files names named → mid ≡ also_asked before (take most_modules names)
    → IsRefusedBy (StoppedAsking files dirs named mid after) u → IsRefusedBy (λ r. Asks files before after (λ told. AsksRefused told names dirs r)) u
asks_stopped None names dirs named (Unread.Refused r) before mid after are was stopped = tt
asks_stopped (Some files) names dirs named (Unread.Refused r) before mid after are was (now, between, so, is, asked) =
    let (done, all, behind) = named_and files names dirs named now before mid between are was so in
    let last = asked_next files dirs now in
    (done ++ last, more_is before between after done last behind asked, (now, done, all, is, refl))
asks_stopped files names dirs named Unread.ModulesFault before mid after are was stopped = tt
asks_stopped files names dirs named Unread.NoMemory before mid after are was stopped = tt

-- a clause on refusals, by the fact itself
pub err_is : {T E : Type 0} (r : Result T E) {P : Type 0} → P → IfErr r (λ _. P)
err_is (Ok v) is = tt
err_is (Err e) is = is

-- the path in the next directory, and the last path
pub path_here : (dirs : List (List ℕ)) (x : List ℕ) (k : ℕ) (d e f q p : List ℕ) → k < length dirs → d ≡ get_or dirs k d → e ≡ d → f ≡ file_name x → q ≡ e ++ codes "/" ++ f → p ≡ q → paths_of (drop k dirs) x ≡ p ∷ paths_of (drop (k + 1) dirs) x
path_here dirs x k d e f q p inside at_d same name is at_p =
    let next : k + 1 ≡ suc k = omega arith in
    let path : p ≡ d ++ codes "/" ++ file_name x = at_p ∙ is ∙ ap (λ y. y ++ codes "/" ++ f) same ∙ ap (λ y. d ++ codes "/" ++ y) name in
    ap (λ ds. paths_of ds x) (drop-cons dirs k d inside)
    ∙ ap (λ y. (y ++ codes "/" ++ file_name x) ∷ paths_of (drop (suc k) dirs) x) (sym at_d)
    ∙ ap (λ y. y ∷ paths_of (drop (suc k) dirs) x) (sym path)
    ∙ ap (λ n. p ∷ paths_of (drop n dirs) x) (sym next)

pub path_last : (dirs : List (List ℕ)) (x p : List ℕ) (k : ℕ) → length dirs ≤ k → p ≡ file_name x → paths_of (drop k dirs) x ≡ p ∷ []
path_last dirs x p k over is = ap (λ ds. paths_of ds x) (drop_all k dirs over) ∙ ap (λ y. y ∷ []) (sym is)

-- a search that a refused read ends
pub search_stopped : (files : Files) (before mid now : Option (List (List ℕ))) (paths left : List (List ℕ)) → Searching files before mid paths left → now ≡ mid → AskedPart files before now (λ told. asked_along told paths)
search_stopped files before mid now paths left so same = subst (λ o. AskedPart files before o (λ told. asked_along told paths)) (sym same) (search_part files before mid paths left so)

-- one more named file
pub named_on : (before mid now : Option (List (List ℕ))) (names : List (List ℕ)) (k : ℕ) (p : List ℕ) → k < length names → p ≡ get_or names k p → mid ≡ also_asked before (take k names) → now ≡ also_asked mid (p ∷ []) → now ≡ also_asked before (take (k + 1) names)
named_on before mid now names k p inside at_p was is =
    more_is before mid now (take k names) (p ∷ []) was is
    ∙ ap (λ x. also_asked before x) (ap (λ q. take k names ++ q ∷ []) at_p ∙ sym (take_more names k p inside))

-- the first so many of the named files are a part
take_within : (k n : ℕ) (names : List (List ℕ)) → k ≤ n → take k (take n names) ≡ take k names
take_within zero n names le = refl
take_within (suc k) zero names le = absurd (let z : ⊥ = omega (arith, le) in z)
take_within (suc k) (suc n) [] le = refl
take_within (suc k) (suc n) (x ∷ names) le = ap (λ xs. x ∷ xs) (take_within k n names (omega (arith, le)))

pub named_part : (before mid now : Option (List (List ℕ))) (names : List (List ℕ)) (k : ℕ) (p : List ℕ) → k < length names → k < most_modules → p ≡ get_or names k p → mid ≡ also_asked before (take k names) → IsPart mid now (p ∷ []) → IsPart before now (take most_modules names)
named_part before mid now names k p inside room at_p was (zero, is) =
    (k, is ∙ also_nil mid ∙ was ∙ ap (λ x. also_asked before x) (sym (take_within k most_modules names (omega (arith, room)))))
named_part before mid now names k p inside room at_p was (suc n, is) =
    (k + 1, named_on before mid now names k p inside at_p was (is ∙ ap (λ x. also_asked mid x) (take_one n p)) ∙ ap (λ x. also_asked before x) (sym (take_within (k + 1) most_modules names (omega (arith, room)))))
  where
    take_one : (n : ℕ) (p : List ℕ) → take (suc n) (p ∷ []) ≡ p ∷ []
    take_one zero p = refl
    take_one (suc n) p = refl

-- the part that was asked where all so far were
pub named_so_far : (before now : Option (List (List ℕ))) (names : List (List ℕ)) (k : ℕ) → k ≤ most_modules → now ≡ also_asked before (take k names) → IsPart before now (take most_modules names)
named_so_far before now names k room is = (k, is ∙ ap (λ x. also_asked before x) (sym (take_within k most_modules names room)))

-- all are asked
pub named_done : (before now : Option (List (List ℕ))) (names : List (List ℕ)) (k : ℕ) → k ≤ most_modules → length names ≤ k → now ≡ also_asked before (take k names) → now ≡ also_asked before (take most_modules names)
named_done before now names k room over is =
    is ∙ ap (λ x. also_asked before x) (take_all k names over ∙ sym (take_all most_modules names (omega (arith, room, over))))

-- one path by an equal one, and a part where nothing was asked
pub path_asked : (before now : Option (List (List ℕ))) (q p : List ℕ) → now ≡ also_asked before (q ∷ []) → q ≡ p → now ≡ also_asked before (p ∷ [])
path_asked before now q p is same = is ∙ ap (λ x. also_asked before (x ∷ [])) same

pub part_same : (before now : Option (List (List ℕ))) (all : List (List ℕ)) → now ≡ before → IsPart before now all
part_same before now all is = (0, is ∙ sym (also_nil before))

-- where the greatest number of files is named, all that are asked were
pub named_full : (before now : Option (List (List ℕ))) (names : List (List ℕ)) (k : ℕ) → k ≡ most_modules → now ≡ also_asked before (take k names) → now ≡ also_asked before (take most_modules names)
named_full before now names k same is = is ∙ ap (λ n. also_asked before (take n names)) same
