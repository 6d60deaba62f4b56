-- Imports that are followed one after another.
use Rattle.std.proofs.Common.{◌≡◌, ◌<◌, ◌≤◌, ℕ, zero, suc, ◌+◌, List, [], ◌∷◌, ◌++◌, length, take, drop, Bool, true, false, Option, Some, sym, ap, subst, ◌∙◌, refl, arith, append_assoc, slice_get, get_or}
use Rattle.std.proofs.Math.Seq.{split_at}
use Rattle.std.proofs.lemmas.Bool.Decides.{nat_tests}
use Rattle.std.proofs.lemmas.List.{append-nil, take-append-le, length-append, length-take-le}
use Rattle.sp_command.specs.declared.refusal.Refusal.{Refusal}
use Rattle.sp_read_file.specs.declared.unread.Unread.{Unread}
use Rattle.sp_front.specs.declared.entries.ModuleFile.{ModuleFile}
use Rattle.sp_front.specs.declared.entries.Import.{Import}
use Rattle.sp_front.specs.declared.entries.Entry.{Entry}
use Rattle.sp_front.specs.declared.entries.Entry.TheVariants.{Held, Refused}
use Rattle.sp_front.specs.Imports.{imports_of}
use Rattle.sp_front.specs.Lists.{Files, clear, refused, asks, most_modules, is_missing, missing, is_asked, asked_of, first_asked, or_else, first_stop, stop, IsNext, AreNext, IsImported, IsStop, IsAskedInVain}
use Rattle.sp_front.specs.inside.Follow.{IsClear, IsDue, IsFollowed, IsStuckBy, IsRefusedBy}
use Rattle.sp_front.proofs.Missing.{missing_first, missing_later, missing_again, here_now, imported_name, clear_more, stop_split}

-- one more is followed
pub next_more : (files : Files) (dirs : List (List ℕ)) (es more : List Entry) (e : Entry) → AreNext files dirs es more → IsNext files dirs (es ++ more) e → AreNext files dirs es (more ++ e ∷ [])
next_more files dirs es [] e are is = (subst (λ xs. IsNext files dirs xs e) (append-nil es) is, tt)
next_more files dirs es (x ∷ more) e are is =
    (are.0, next_more files dirs (es ++ x ∷ []) more e are.1 (subst (λ xs. IsNext files dirs xs e) (sym (append_assoc es (x ∷ []) more)) is))

pub followed_more : (files : Files) (dirs : List (List ℕ)) (es now : List Entry) (e : Entry) → IsFollowed files dirs es now → IsNext files dirs now e → IsFollowed files dirs es (now ++ e ∷ [])
followed_more files dirs es now e (more, are, is) next =
    (more ++ e ∷ [], next_more files dirs es more e are (subst (λ xs. IsNext files dirs xs e) is next), ap (λ xs. xs ++ e ∷ []) is ∙ append_assoc es more (e ∷ []))

-- an import whose module is missing is what is in the way
asked_true : (es : List Entry) (f : ModuleFile) (i : Import) (is : List Import) → asked_of (is_asked es) es f ≡ i ∷ is → is_asked es ≡ true
asked_true es f i is e = by (is_asked es) e
  where
    by : (b : Bool) → asked_of b es f ≡ i ∷ is → b ≡ true
    by true e = refl
    by false e = absurd (let z : ⊥ = cc in z)

pub due_stop : (es : List Entry) (at : ℕ) (i : Import) (is : List Import) (due : IsDue es at (i ∷ is)) → is_missing es i ≡ true → stop es ≡ asks due.file i
due_stop es at i is due missing_is =
    ap (λ xs. first_stop (is_asked es) es xs) due.split
    ∙ stop_split (is_asked es) es (take at es) (Held due.file ∷ due.after)
    ∙ ap (λ s. or_else s (first_stop (is_asked es) es (Held due.file ∷ due.after))) due.before
    ∙ ap (λ xs. or_else (first_asked due.file xs) (first_stop (is_asked es) es due.after)) (due.due ∙ missing_first es i is missing_is)

asked_more : (es : List Entry) (e : Entry) → length es < most_modules → is_asked (es ++ e ∷ []) ≡ true
asked_more es e less = let n = length-append es (e ∷ []) in grind (arith, nat_tests)

pub due_more : (files : Files) (dirs : List (List ℕ)) (es : List Entry) (at : ℕ) (i : Import) (is : List Import) (e : Entry) → IsDue es at (i ∷ is) → is_missing es i ≡ true → length es < most_modules
    → IsImported files dirs i.name e → IsDue (es ++ e ∷ []) at is
due_more files dirs es at i is e due missing_is less imported =
    let more = es ++ e ∷ [] in
    let asked = asked_true es due.file i (missing es is) (due.due ∙ missing_first es i is missing_is) in
    let now = asked_more es e less in
    let same = take-append-le at es (e ∷ []) (omega (arith, due.inside)) in
    let imports = imports_of due.file.«module» in
    let was : missing es imports ≡ missing es (i ∷ is) = ap (λ b. asked_of b es due.file) (sym asked) ∙ due.due in
    record {
      file = due.file;
      after = due.after ++ e ∷ [];
      inside = let n = length-append es (e ∷ []) in omega (arith, due.inside, n);
      split = ap (λ xs. xs ++ e ∷ []) due.split ∙ append_assoc (take at es) (Held due.file ∷ due.after) (e ∷ []) ∙ ap (λ xs. xs ++ Held due.file ∷ (due.after ++ e ∷ [])) (sym same);
      before = ap (λ b. first_stop b more (take at more)) now ∙ ap (λ xs. first_stop true more xs) same ∙ clear_more es (take at es) e (ap (λ b. first_stop b es (take at es)) (sym asked) ∙ due.before);
      due = ap (λ b. asked_of b more due.file) now ∙ sym (missing_again es e imports) ∙ ap (λ xs. missing more xs) was ∙ missing_again es e (i ∷ is) ∙ missing_later more i is (here_now es e i (imported_name files dirs i.name e imported));
    }

-- all imports of an entry are followed
take_past : (xs : List Entry) (x : Entry) (ys : List Entry) → take (suc (length xs)) (xs ++ x ∷ ys) ≡ xs ++ x ∷ []
take_past [] x ys = refl
take_past (y ∷ xs) x ys = ap (λ zs. y ∷ zs) (take_past xs x ys)

pub due_done : (es : List Entry) (at : ℕ) → IsDue es at [] → IsClear es (at + 1)
due_done es at due =
    let asked = is_asked es in
    let taken = length-take-le at es (omega (arith, due.inside)) in
    let past : at + 1 ≡ suc (length (take at es)) = omega (arith, taken) in
    let whole = ap (λ n. take n es) past ∙ ap (λ xs. take (suc (length (take at es))) xs) due.split ∙ take_past (take at es) (Held due.file) due.after in
    ap (λ xs. first_stop asked es xs) whole
    ∙ stop_split asked es (take at es) (Held due.file ∷ [])
    ∙ ap (λ s. or_else s (first_stop asked es (Held due.file ∷ []))) due.before
    ∙ ap (λ xs. or_else (first_asked due.file xs) clear) due.due

-- the entry at a place behind which nothing is in the way, and its imports
pub due_at : (es : List Entry) (at : ℕ) (f : ModuleFile) (after : List Entry) (is : List Import) → at < length es → es ≡ take at es ++ Held f ∷ after → IsClear es at → asked_of (is_asked es) es f ≡ missing es is → IsDue es at is
due_at es at f after is inside split before due = record { file = f; after = after; inside = inside; split = split; before = before; due = due }

-- a refused entry is in the way
pub refused_at : (es : List Entry) (at : ℕ) (x : Option (List ℕ)) (r : Refusal) (after : List Entry) → es ≡ take at es ++ Refused x r ∷ after → IsClear es at → stop es ≡ refused r
refused_at es at x r after split before =
    ap (λ xs. first_stop (is_asked es) es xs) split
    ∙ stop_split (is_asked es) es (take at es) (Refused x r ∷ after)
    ∙ ap (λ s. or_else s (first_stop (is_asked es) es (Refused x r ∷ after))) before

-- the entry at a place divides a list
divided : (es : List Entry) (at : ℕ) (e : Entry) → at < length es → e ≡ get_or es at e → es ≡ take at es ++ e ∷ drop (suc at) es
divided es at e inside is = split_at es at e inside ∙ ap (λ x. take at es ++ x ∷ drop (suc at) es) (sym is)

pub held_at : (es : List Entry) (at : ℕ) (e : Entry) (f : ModuleFile) → at < length es → e ≡ get_or es at e → e ≡ Held f → es ≡ take at es ++ Held f ∷ drop (suc at) es
held_at es at e f inside is held = divided es at e inside is ∙ ap (λ x. take at es ++ x ∷ drop (suc at) es) held

pub refused_here : (es : List Entry) (at : ℕ) (e : Entry) (x : Option (List ℕ)) (r copy : Refusal) → at < length es → e ≡ get_or es at e → e ≡ Refused x r → copy ≡ r → IsClear es at → stop es ≡ refused copy
refused_here es at e x r copy inside is held same before =
    refused_at es at x r (drop (suc at) es) (divided es at e inside is ∙ ap (λ y. take at es ++ y ∷ drop (suc at) es) held) before ∙ ap refused (sym same)

none_twice : (es : List Entry) (is : List Import) → missing es (missing es is) ≡ missing es is
none_twice es [] = refl
none_twice es (i ∷ is) = by (is_missing es i) refl (none_twice es is)
  where
    by : (b : Bool) → is_missing es i ≡ b → missing es (missing es is) ≡ missing es is → missing es (missing es (i ∷ is)) ≡ missing es (i ∷ is)
    by true e same = ap (λ xs. missing es xs) (missing_first es i is e) ∙ missing_first es i (missing es is) e ∙ ap (λ xs. i ∷ xs) same ∙ sym (missing_first es i is e)
    by false e same = ap (λ xs. missing es xs) (missing_later es i is e) ∙ same ∙ sym (missing_later es i is e)

pub due_over : (es : List Entry) (at : ℕ) (e : Entry) (f : ModuleFile) (is : List Import) → at < length es → e ≡ get_or es at e → e ≡ Held f → IsClear es at → most_modules < length es → is ≡ [] → IsDue es at is
due_over es at e f is inside at_e held before over none =
    let asked : is_asked es ≡ false = grind (arith, nat_tests) in
    due_at es at f (drop (suc at) es) is inside (held_at es at e f inside at_e held) before (ap (λ b. asked_of b es f) asked ∙ sym (ap (λ xs. missing es xs) none))

pub due_room : (es : List Entry) (at : ℕ) (e : Entry) (f : ModuleFile) (is : List Import) → at < length es → e ≡ get_or es at e → e ≡ Held f → IsClear es at → length es ≤ most_modules → is ≡ missing es (imports_of f.«module») → IsDue es at is
due_room es at e f is inside at_e held before room are =
    let asked : is_asked es ≡ true = grind (arith, nat_tests) in
    due_at es at f (drop (suc at) es) is inside (held_at es at e f inside at_e held) before
    (ap (λ b. asked_of b es f) asked ∙ sym (ap (λ xs. missing es xs) are ∙ none_twice es (imports_of f.«module»)))

-- an import in vain is what stops a list
pub vain_stuck : (files : Files) (dirs : List (List ℕ)) (es now : List Entry) (at : ℕ) (i : Import) (is : List Import) (u : Unread) → IsFollowed files dirs es now → (due : IsDue now at (i ∷ is)) → is_missing now i ≡ true
    → IsRefusedBy (IsAskedInVain files dirs now due.file i) u → IsStuckBy files dirs es u
vain_stuck files dirs es now at i is (Unread.Refused r) followed due missing_is vain =
    (now, followed, subst (λ s. IsStop files dirs now s r) (sym (due_stop now at i is due missing_is)) vain)
vain_stuck files dirs es now at i is Unread.ModulesFault followed due missing_is vain = tt
vain_stuck files dirs es now at i is Unread.NoMemory followed due missing_is vain = tt

-- what stops a list behind imports that were followed stops it from the first
pub next_all : (files : Files) (dirs : List (List ℕ)) (es more last : List Entry) → AreNext files dirs es more → AreNext files dirs (es ++ more) last → AreNext files dirs es (more ++ last)
next_all files dirs es [] last are behind = subst (λ xs. AreNext files dirs xs last) (append-nil es) behind
next_all files dirs es (x ∷ more) last are behind =
    (are.0, next_all files dirs (es ++ x ∷ []) more last are.1 (subst (λ xs. AreNext files dirs xs last) (sym (append_assoc es (x ∷ []) more)) behind))

pub followed_all : (files : Files) (dirs : List (List ℕ)) (es now last : List Entry) → IsFollowed files dirs es now → IsFollowed files dirs now last → IsFollowed files dirs es last
followed_all files dirs es now last (more, are, is) (rest, further, so) =
    (more ++ rest, next_all files dirs es more rest are (subst (λ xs. AreNext files dirs xs rest) is further), so ∙ ap (λ xs. xs ++ rest) is ∙ append_assoc es more rest)

pub stuck_all : (files : Files) (dirs : List (List ℕ)) (es now : List Entry) (u : Unread) → IsFollowed files dirs es now → IsStuckBy files dirs now u → IsStuckBy files dirs es u
stuck_all files dirs es now (Unread.Refused r) followed (last, further, is) = (last, followed_all files dirs es now last followed further, is)
stuck_all files dirs es now Unread.ModulesFault followed is = tt
stuck_all files dirs es now Unread.NoMemory followed is = tt

-- the entry at a place
pub at_place : (es : List Entry) (at : ℕ) (f : ModuleFile) (after : List Entry) → at < length es → es ≡ take at es ++ Held f ∷ after → slice_get es at ≡ Some (Held f)
at_place es at f after inside split =
    let taken = length-take-le at es (omega (arith, inside)) in
    ap (λ xs. slice_get xs at) split ∙ ap (λ n. slice_get (take at es ++ Held f ∷ after) n) (sym taken) ∙ here (take at es) (Held f) after
  where
    here : (xs : List Entry) (x : Entry) (ys : List Entry) → slice_get (xs ++ x ∷ ys) (length xs) ≡ Some x
    here [] x ys = refl
    here (y ∷ xs) x ys = here xs x ys

-- a list with one more entry, by the import that it is of
pub due_added : (files : Files) (dirs : List (List ℕ)) (es : List Entry) (at : ℕ) (i : Import) (is : List Import) (new : List Entry) → IsDue es at (i ∷ is) → is_missing es i ≡ true → length es < most_modules
    → (e : Entry) × IsImported files dirs i.name e × (new ≡ es ++ e ∷ []) → IsDue new at is
due_added files dirs es at i is new due missing_is less (e, imported, pushed) =
    subst (λ xs. IsDue xs at is) (sym pushed) (due_more files dirs es at i is e due missing_is less imported)

pub followed_added : (files : Files) (dirs : List (List ℕ)) (es now : List Entry) (at : ℕ) (i : Import) (is : List Import) (new : List Entry) → IsFollowed files dirs es now → IsDue now at (i ∷ is) → is_missing now i ≡ true → length now < most_modules
    → (e : Entry) × IsImported files dirs i.name e × (new ≡ now ++ e ∷ []) → IsFollowed files dirs es new
followed_added files dirs es now at i is new followed due missing_is less (e, imported, pushed) =
    subst (λ xs. IsFollowed files dirs es xs) (sym pushed) (followed_more files dirs es now e followed (due.file, i, due_stop now at i is due missing_is, less, imported))

pub added_most : (es : List Entry) (new : List Entry) (e : Entry) → length es < most_modules → new ≡ es ++ e ∷ [] → length new ≤ most_modules + 1
added_most es new e less pushed = let n = length-append es (e ∷ []) in let m : length new ≡ length (es ++ e ∷ []) = ap length pushed in omega (arith, less, n, m)

drop_here : {X : Type 0} (xs : List X) (i : ℕ) (d : X) → i < length xs → drop i xs ≡ get_or xs i d ∷ drop (suc i) xs
drop_here [] i d inside = absurd (let z : ⊥ = omega (arith, inside) in z)
drop_here (x ∷ xs) zero d inside = refl
drop_here (x ∷ xs) (suc i) d inside = drop_here xs i d (omega (arith, inside))

-- the next import that is due
pub due_first : (es : List Entry) (at : ℕ) (is : List Import) (k : ℕ) (i : Import) → k < length is → i ≡ get_or is k i → IsDue es at (drop k is) → IsDue es at (i ∷ drop (k + 1) is)
due_first es at is k i inside at_i due =
    let next : k + 1 ≡ suc k = omega arith in
    subst (λ n. IsDue es at (i ∷ drop n is)) (sym next) (subst (λ xs. IsDue es at xs) (drop_here is k i inside ∙ ap (λ x. x ∷ drop (suc k) is) (sym at_i)) due)
