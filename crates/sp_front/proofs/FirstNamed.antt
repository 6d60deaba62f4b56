-- The named files are the first of a list.
use Rattle.std.proofs.Common.{◌≡◌, ℕ, suc, List, [], ◌∷◌, ◌++◌, length, take, drop, map, Option, Some, None, sym, ap, ◌∙◌, refl, subst, append_assoc}
use Rattle.std.proofs.lemmas.List.{append-nil, take-append-drop}
use Rattle.sp_base.specs.declared.kinds.MKind.TheVariants.{TooMany}
use Rattle.sp_read_file.specs.Files.{refused_at}
use Rattle.sp_command.specs.declared.refusal.Refusal.{Refusal}
use Rattle.sp_front.specs.declared.entries.ModuleFile.{ModuleFile}
use Rattle.sp_front.specs.declared.entries.Entry.{Entry}
use Rattle.sp_front.specs.declared.entries.Entry.TheVariants.{Held, Refused}
use Rattle.sp_front.specs.Lists.{Files, most_modules, nowhere, first_over, entries_of, paths_in, IsNamed, AreNamed, IsList}

-- no entry of files is refused
never : (fs : List ModuleFile) (xs ys : List Entry) (x : Option (List ℕ)) (r : Refusal) → entries_of fs ≡ xs ++ Refused x r ∷ ys → ⊥
never [] [] ys x r e = absurd (let z : ⊥ = cc in z)
never [] (d ∷ xs) ys x r e = absurd (let z : ⊥ = cc in z)
never (f ∷ fs) [] ys x r e = absurd (let z : ⊥ = cc in z)
never (f ∷ fs) (d ∷ xs) ys x r e = let rest : entries_of fs ≡ xs ++ Refused x r ∷ ys = cc in never fs xs ys x r rest

named_first : (files : Files) (before : List Entry) (paths : List (List ℕ)) (named more : List Entry) (fs : List ModuleFile) → AreNamed files before paths named → entries_of fs ≡ named ++ more
    → paths_in (take (length paths) fs) ≡ paths
named_first files before [] [] more fs are e = refl
named_first files before [] (d ∷ named) more fs are e = absurd are
named_first files before (p ∷ paths) [] more fs are e = absurd are
named_first files before (p ∷ paths) (d ∷ named) more [] are e = absurd (let z : ⊥ = cc in z)
named_first files before (p ∷ paths) (d ∷ named) more (f ∷ fs) are e =
    let whole : Held f ∷ entries_of fs ≡ d ∷ (named ++ more) = e in
    let first : d ≡ Held f = cc in
    let is : IsNamed files before p (Held f) = subst (λ c. IsNamed files before p c) first are.0 in
    let path : f.path ≡ p = is.0.0 in
    let rest : entries_of fs ≡ named ++ more = cc in
    let behind : paths_in (take (length paths) fs) ≡ paths = named_first files (before ++ d ∷ []) paths named more fs are.1 rest in
    ap (λ q. q ∷ paths_in (take (length paths) fs)) path ∙ ap (λ qs. p ∷ qs) behind

-- where none is past the greatest number, all are taken
all_taken : (n : ℕ) (names : List (List ℕ)) → drop n names ≡ [] → take n names ≡ names
all_taken n names e = sym (append-nil (take n names)) ∙ ap (λ l. take n names ++ l) (sym e) ∙ take-append-drop n names

within_by : (fs : List ModuleFile) (named more : List Entry) (over : List (List ℕ)) → entries_of fs ≡ (named ++ first_over over) ++ more → over ≡ []
within_by fs named more [] e = refl
within_by fs named more (p ∷ ps) e = absurd (never fs named more None (refused_at p nowhere TooMany) (e ∙ append_assoc named (first_over (p ∷ ps)) more))

pub named_come_first : (files : Files) (names dirs : List (List ℕ)) (fs : List ModuleFile) → IsList files names dirs fs → paths_in (take (length names) fs) ≡ names
named_come_first files names dirs fs (x, nothing) =
    let named = x.2.0 in
    let over = first_over (drop most_modules names) in
    let whole : entries_of fs ≡ (named ++ over) ++ x.1 = x.4 ∙ ap (λ l. l ++ x.1) x.2.2 in
    let within : drop most_modules names ≡ [] = within_by fs named x.1 (drop most_modules names) whole in
    let all : take most_modules names ≡ names = all_taken most_modules names within in
    let now : entries_of fs ≡ named ++ (over ++ x.1) = whole ∙ append_assoc named over x.1 in
    named_first files [] names named (over ++ x.1) fs (subst (λ l. AreNamed files [] l named) all x.2.1) now
