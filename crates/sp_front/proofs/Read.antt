-- The modules of a list are read from the texts of their files.
use Rattle.std.specs.List.{AllByRecursion}
use Rattle.std.proofs.Common.{ℕ, List, [], ◌∷◌, ◌++◌, take, drop, sym, subst}
use Rattle.sp_front.specs.declared.entries.ModuleFile.{ModuleFile}
use Rattle.sp_front.specs.declared.entries.Entry.{Entry}
use Rattle.sp_front.specs.declared.entries.Entry.TheVariants.{Held, Refused}
use Rattle.sp_front.specs.Lists.{Files, most_modules, first_over, entries_of, AreNamed, AreNext, IsList, IsRead}

both_of : {A : Type 0} (P : A → Type 0) (xs ys : List A) → AllByRecursion P xs → AllByRecursion P ys → AllByRecursion P (xs ++ ys)
both_of P [] ys h i = i
both_of P (x ∷ xs) ys h i = (h.0, both_of P xs ys h.1 i)

-- an entry that holds a module holds one that is read
abbrev IsReadEntry : Entry → Type 0
IsReadEntry (Held f) = IsRead f
IsReadEntry (Refused x r) = Unit {0}

named_read : (files : Files) (before : List Entry) (paths : List (List ℕ)) (es : List Entry) → AreNamed files before paths es → AllByRecursion IsReadEntry es
named_read files before [] [] are = tt
named_read files before [] (e ∷ es) are = absurd are
named_read files before (p ∷ paths) [] are = absurd are
named_read files before (p ∷ paths) (Held f ∷ es) are = (are.0.0.2, named_read files (before ++ Held f ∷ []) paths es are.1)
named_read files before (p ∷ paths) (Refused x r ∷ es) are = (tt, named_read files (before ++ Refused x r ∷ []) paths es are.1)

over_read : (paths : List (List ℕ)) → AllByRecursion IsReadEntry (first_over paths)
over_read [] = tt
over_read (p ∷ paths) = (tt, tt)

next_read : (files : Files) (directories : List (List ℕ)) (es more : List Entry) → AreNext files directories es more → AllByRecursion IsReadEntry more
next_read files directories es [] are = tt
next_read files directories es (Held f ∷ more) are = (are.0.4.1, next_read files directories (es ++ Held f ∷ []) more are.1)
next_read files directories es (Refused x r ∷ more) are = (tt, next_read files directories (es ++ Refused x r ∷ []) more are.1)

entries_read : (fs : List ModuleFile) → AllByRecursion IsReadEntry (entries_of fs) → AllByRecursion IsRead fs
entries_read [] h = tt
entries_read (f ∷ fs) h = (h.0, entries_read fs h.1)

pub list_read : (files : Files) (names directories : List (List ℕ)) (fs : List ModuleFile) → IsList files names directories fs → AllByRecursion IsRead fs
list_read files names directories fs (are, nothing) =
    let named = are.2 in
    let first = both_of IsReadEntry named.0 (first_over (drop most_modules names)) (named_read files [] (take most_modules names) named.0 named.1) (over_read (drop most_modules names)) in
    let all = both_of IsReadEntry are.0 are.1 (subst (AllByRecursion IsReadEntry) (sym named.2) first) (next_read files directories are.0 are.1 are.3) in
    entries_read fs (subst (AllByRecursion IsReadEntry) (sym are.4) all)
