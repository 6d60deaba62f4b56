-- Names that are noted, and entries that are added.
use Rattle.std.specs.Str.{bytes_eq}
use Rattle.std.proofs.Common.{◌≡◌, ◌<◌, ℕ, List, [], ◌∷◌, ◌++◌, length, take, Bool, true, false, ◌||◌, cond, Option, Some, None, sym, ap, subst, ◌∙◌, refl, arith, append_assoc, get_or, Result, Ok, Err, ◌≤◌, ◌+◌, inl, inr}
use Rattle.std.proofs.Math.Bool.{or_comm}
use Rattle.std.proofs.lemmas.List.{append-nil, take_more, take_all, drop_all}
use Rattle.sp_ast.specs.Trees.{Tree}
use Rattle.sp_command.specs.declared.refusal.Refusal.{Refusal}
use Rattle.sp_names.specs.Names.{is_name}
use Rattle.sp_base.specs.declared.kinds.MKind.TheVariants.{ModuleNotFound, TooMany}
use Rattle.sp_read_file.specs.Files.{IsModuleOf, IsRefused, Refuses, refused_at}
use Rattle.sp_command.specs.Files.{Holds}
use Rattle.sp_read_file.specs.declared.unread.Unread.{Unread}
use Rattle.sp_read_file.specs.Loads.{IsTextUnread}
use Rattle.sp_front.specs.declared.seen.Seen.{Seen}
use Rattle.sp_front.specs.declared.entries.ModuleFile.{ModuleFile}
use Rattle.sp_front.specs.declared.entries.Import.{Import}
use Rattle.sp_front.specs.declared.entries.Entry.{Entry}
use Rattle.sp_front.specs.declared.entries.Entry.TheVariants.{Held, Refused}
use Rattle.sp_front.specs.Imports.{import_of, imports_among}
use Rattle.sp_front.specs.Lists.{Files, Stop, clear, entry_name, is_in, is_taken, is_missing, missing, twice, or_else, stop_at, first_stop, is_asked, stop, entries_of, nowhere, most_modules, first_over, IsNamed, AreNamed, AreNamedFiles}
use Rattle.sp_front.specs.inside.Files.{IsFileOf, named_module}
use Rattle.sp_front.specs.inside.Seen.{told, AreSeen}
use Rattle.sp_front.proofs.Missing.{in_more}

or_false : (a : Bool) → a ≡ (a || false)
or_false true = refl
or_false false = refl

-- an entry without a name changes no table
pub seen_same : (s : Seen) (es : List Entry) (e : Entry) → entry_name e ≡ None → AreSeen s es → AreSeen s (es ++ e ∷ [])
seen_same s es e none are x = are x ∙ or_false (is_in x es) ∙ ap (λ o. is_in x es || is_name x o) (sym none) ∙ sym (in_more x es e)

-- an entry whose name is noted
pub seen_more : (old new : Seen) (es : List Entry) (e : Entry) (n : List ℕ) → entry_name e ≡ Some n → ((x : List ℕ) → told new x ≡ (bytes_eq x n || told old x)) → AreSeen old es → AreSeen new (es ++ e ∷ [])
seen_more old new es e n name noted are x =
    noted x ∙ ap (λ b. bytes_eq x n || b) (are x) ∙ or_comm (bytes_eq x n) (is_in x es) ∙ ap (λ o. is_in x es || is_name x o) (sym name) ∙ sym (in_more x es e)

-- what is missing of two rows of imports
pub missing_append : (es : List Entry) (xs ys : List Import) → missing es (xs ++ ys) ≡ missing es xs ++ missing es ys
missing_append es [] ys = refl
missing_append es (x ∷ xs) ys = by (is_missing es x) (missing_append es xs ys)
  where
    by : (b : Bool) → missing es (xs ++ ys) ≡ missing es xs ++ missing es ys → cond b (x ∷ missing es (xs ++ ys)) (missing es (xs ++ ys)) ≡ cond b (x ∷ missing es xs) (missing es xs) ++ missing es ys
    by true e = ap (λ zs. x ∷ zs) e
    by false e = e

-- one more declaration is looked at
pub missing_step : (es : List Entry) (left behind : List Tree) (d : Tree) (old new all : List Import) → left ≡ d ∷ behind → new ≡ old ++ missing es (import_of d) → old ++ missing es (imports_among left) ≡ all
    → new ++ missing es (imports_among behind) ≡ all
missing_step es left behind d old new all e step is =
    ap (λ xs. xs ++ missing es (imports_among behind)) step ∙ append_assoc old (missing es (import_of d)) (missing es (imports_among behind))
    ∙ ap (λ xs. old ++ xs) (sym (missing_append es (import_of d) (imports_among behind))) ∙ ap (λ ds. old ++ missing es (imports_among ds)) (sym e) ∙ is

-- a named file that is there and holds a module
pub named_by : (files : Files) (before : List Entry) (f : ModuleFile) → Holds files f.path (Some f.text) → IsModuleOf f.text f.«module» → IsNamed files before f.path (named_module before f)
named_by files before f holds is = by (is_taken before f) refl
  where
    by : (b : Bool) → is_taken before f ≡ b → IsNamed files before f.path (cond b (Refused None (twice f)) (Held f))
    by true e = (refl, inr (f, (refl, holds, is), e, refl))
    by false e = ((refl, holds, is), e)

-- a file that is refused
pub refused_by : (files : Files) (before : List Entry) (path : List ℕ) (r : Refusal) → Refuses files path r → IsNamed files before path (Refused None r)
refused_by files before path r is = (refl, inl is)

-- one more named file
pub named_more : (files : Files) (before es : List Entry) (ps : List (List ℕ)) (p : List ℕ) (e : Entry) → AreNamed files before ps es → IsNamed files (before ++ es) p e → AreNamed files before (ps ++ p ∷ []) (es ++ e ∷ [])
named_more files before [] [] p e are is = (subst (λ xs. IsNamed files xs p e) (append-nil before) is, tt)
named_more files before [] (q ∷ ps) p e are is = absurd are
named_more files before (x ∷ es) [] p e are is = absurd are
named_more files before (x ∷ es) (q ∷ ps) p e are is =
    (are.0, named_more files (before ++ x ∷ []) es ps p e are.1 (subst (λ xs. IsNamed files xs p e) (sym (append_assoc before (x ∷ []) es)) is))

-- in a list that is clear no entry is refused
clear_both : (a b : Stop) → or_else a b ≡ clear → (a ≡ clear) × (b ≡ clear)
clear_both clear b e = (refl, e)
clear_both (Stop.refused r) b e = absurd (let z : ⊥ = cc in z)
clear_both (Stop.asks f i) b e = absurd (let z : ⊥ = cc in z)

pub clear_here : (asked : Bool) (all xs ys : List Entry) (y : Entry) → first_stop asked all (xs ++ y ∷ ys) ≡ clear → stop_at asked all y ≡ clear
clear_here asked all [] ys y e = (clear_both (stop_at asked all y) (first_stop asked all ys) e).0
clear_here asked all (x ∷ xs) ys y e = clear_here asked all xs ys y (clear_both (stop_at asked all x) (first_stop asked all (xs ++ y ∷ ys)) e).1

pub entries_more : (fs : List ModuleFile) (f : ModuleFile) → entries_of (fs ++ f ∷ []) ≡ entries_of fs ++ Held f ∷ []
entries_more [] f = refl
entries_more (g ∷ fs) f = ap (λ es. Held g ∷ es) (entries_more fs f)

-- a text that is refused, as the file at a path
pub refused_text : (p q t s : List ℕ) (u : Unread) (r : Refusal) → p ≡ q → t ≡ s → u ≡ Unread.Refused r → IsTextUnread p t u → IsRefused q (Some s) r
refused_text p q t s u r path text refused is = subst (λ x. IsRefused q (Some x) r) text (subst (λ x. IsRefused x (Some t) r) path (subst (λ v. IsTextUnread p t v) refused is))

-- what a named file is: it is not there; it is no module; it is one
pub not_there : (files : Files) (before : List Entry) (s : Seen) (path : List ℕ) (e : Entry) → Holds files path None → e ≡ Refused None (refused_at path nowhere ModuleNotFound) → AreSeen s before → IsNamed files before path e × AreSeen s (before ++ e ∷ [])
not_there files before s path e holds is are =
    let r = refused_at path nowhere ModuleNotFound in
    subst (λ x. IsNamed files before path x × AreSeen s (before ++ x ∷ [])) (sym is) (refused_by files before path r (None, holds, refl), seen_same s before (Refused None r) refl are)

pub unreadable : (files : Files) (before : List Entry) (s : Seen) (path text : List ℕ) (r : Refusal) → Holds files path (Some text) → IsRefused path (Some text) r → AreSeen s before → IsNamed files before path (Refused None r) × AreSeen s (before ++ Refused None r ∷ [])
unreadable files before s path text r holds is are = (refused_by files before path r (Some text, holds, is), seen_same s before (Refused None r) refl are)

pub readable : (files : Files) (before : List Entry) (s : Seen) (path text : List ℕ) (f : ModuleFile) (e : Entry) → Holds files path (Some text) → f.path ≡ path → f.text ≡ text → IsModuleOf f.text f.«module» → e ≡ named_module before f → AreSeen s (before ++ e ∷ [])
    → IsNamed files before path e × AreSeen s (before ++ e ∷ [])
readable files before s path text f e holds path_is text_is is named are =
    let there : Holds files f.path (Some f.text) = subst (λ t. Holds files f.path (Some t)) (sym text_is) (subst (λ p. Holds files p (Some text)) (sym path_is) holds) in
    (subst (λ x. IsNamed files before path x) (sym named) (subst (λ p. IsNamed files before p (named_module before f)) path_is (named_by files before f there is)), are)

-- no entry of a list is refused of which nothing is in the way
pub never_refused : (all xs : List Entry) (y : Entry) (ys : List Entry) (n : Option (List ℕ)) (r : Refusal) → stop all ≡ clear → all ≡ xs ++ y ∷ ys → y ≡ Refused n r → ⊥
never_refused all xs y ys n r is split refused =
    let here = clear_here (is_asked all) all xs ys y (subst (λ es. first_stop (is_asked all) all es ≡ clear) split is) in
    let z : Stop.refused r ≡ clear = subst (λ e. stop_at (is_asked all) all e ≡ clear) refused here in
    let no : ⊥ = cc in no

-- what is known of a file by its answer
pub file_is : (path text : List ℕ) (o : Result ModuleFile Refusal) (f : ModuleFile) → o ≡ Ok f → IsFileOf path text o → (f.path ≡ path) × (f.text ≡ text) × IsModuleOf f.text f.«module»
file_is path text o f e is = subst (λ o. IsFileOf path text o) e is

pub file_refused : (copy path text : List ℕ) (o : Result ModuleFile Refusal) (r : Refusal) → copy ≡ path → o ≡ Err r → IsFileOf copy text o → IsRefused path (Some text) r
file_refused copy path text o r same e is = subst (λ p. IsRefused p (Some text) r) same (subst (λ o. IsFileOf copy text o) e is)

-- a list and one more, of which so much was passed on
pub left_more : (all done left behind : List Entry) (e : Entry) → done ++ left ≡ all → left ≡ e ∷ behind → (done ++ e ∷ []) ++ behind ≡ all
left_more all done left behind e are step = append_assoc done (e ∷ []) behind ∙ ap (λ xs. done ++ xs) (sym step) ∙ are

pub made_more : (fs more : List ModuleFile) (f : ModuleFile) (done : List Entry) (e : Entry) → more ≡ fs ++ f ∷ [] → e ≡ Held f → entries_of fs ≡ done → entries_of more ≡ done ++ e ∷ []
made_more fs more f done e pushed held are = ap entries_of pushed ∙ entries_more fs f ∙ ap (λ xs. xs ++ Held f ∷ []) are ∙ ap (λ x. done ++ x ∷ []) (sym held)

-- the named files so far, and one more
pub named_next : (files : Files) (names : List (List ℕ)) (i : ℕ) (p : List ℕ) (es more : List Entry) (e : Entry) → i < length names → p ≡ get_or names i p → AreNamed files [] (take i names) es → IsNamed files es p e → more ≡ es ++ e ∷ []
    → AreNamed files [] (take (i + 1) names) more
named_next files names i p es more e inside at are is pushed =
    let whole = take_more names i p inside ∙ ap (λ x. take i names ++ x ∷ []) (sym at) in
    subst (λ xs. AreNamed files [] (take (i + 1) names) xs) (sym pushed) (subst (λ ps. AreNamed files [] ps (es ++ e ∷ [])) (sym whole) (named_more files [] es (take i names) p e are is))

pub named_all : (files : Files) (names : List (List ℕ)) (i : ℕ) (es : List Entry) → length names ≤ i → i ≤ most_modules → AreNamed files [] (take i names) es → AreNamedFiles files names es
named_all files names i es past room are =
    let short : length names ≤ most_modules = omega (arith, past, room) in
    let whole = take_all i names past ∙ sym (take_all most_modules names short) in
    (es, subst (λ ps. AreNamed files [] ps es) whole are, sym (append-nil es) ∙ ap (λ ps. es ++ first_over ps) (sym (drop_all most_modules names short)))

-- what a path holds, by an equal one
pub held_as : (files : Files) (p path : List ℕ) (o content : Option (List ℕ)) → p ≡ path → o ≡ content → Holds files p o → Holds files path content
held_as files p path o content same is holds = subst (λ c. Holds files path c) is (subst (λ p. Holds files p o) same holds)

-- a refused entry behind others
pub seen_over : (s : Seen) (es more : List Entry) (e : Entry) (path : List ℕ) → e ≡ Refused None (refused_at path nowhere TooMany) → more ≡ es ++ e ∷ [] → AreSeen s es → AreSeen s more
seen_over s es more e path is pushed are =
    subst (λ xs. AreSeen s xs) (sym pushed) (seen_same s es e (ap entry_name is) are)
