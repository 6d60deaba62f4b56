-- There is one list of modules at most, or one refusal of it.
use Rattle.std.proofs.Common.{◌≡◌, ◌⊎◌, ◌<◌, ◌≤◌, ℕ, Bool, true, false, List, [], ◌∷◌, ◌++◌, length, take, drop, Option, Some, None, sym, ap, ◌∙◌, refl, subst, arith, ⊎_elim, append_assoc}
use Rattle.std.proofs.lemmas.List.{append-nil}
use Rattle.sp_ast.specs.Trees.{Tree}
use Rattle.sp_command.specs.declared.refusal.Refusal.{Refusal}
use Rattle.sp_command.specs.Files.{Holds}
use Rattle.sp_names.specs.Declarations.{module_name}
use Rattle.sp_read_file.specs.Files.{IsModuleOf, IsRefused, Reads, Refuses}
use Rattle.sp_read_file.proofs.Single.{one_tree, not_both, one_refusal, reads_or_refused}
use Rattle.sp_front.specs.declared.entries.ModuleFile.{ModuleFile}
use Rattle.sp_front.specs.declared.entries.Import.{Import}
use Rattle.sp_front.specs.declared.entries.Entry.{Entry}
use Rattle.sp_front.specs.declared.entries.Entry.TheVariants.{Held, Refused}
use Rattle.sp_front.specs.Imports.{paths_of}
use Rattle.sp_front.specs.Asked.{asked_for_all, asked_at_stop, asked_next, AreAskedFor, AsksList, AsksRefused, AsksAll}
use Rattle.sp_front.specs.Lists.{Stop, clear, refused, asks, stop, is_taken, twice, most_modules, first_over, entries_of, Holding, IsNamed, AreNamed, AreNamedFiles, IsFirst, IsNone, IsImported, IsNotFound, IsNext, AreNext, AreEntries, IsAskedInVain, IsStop, IsList, IsListRefused}

-- what the files hold, by their paths
abbrev pub Told : Type 0
Told = List ℕ → Option (List ℕ)

-- a path has one text
one_text : (files : Told) (path t u : List ℕ) → Holds (Some files) path (Some t) → Holds (Some files) path (Some u) → t ≡ u
one_text files path t u x y = let e : Some t ≡ Some u = x ∙ sym y in cc

no_text : (files : Told) (path t : List ℕ) → Holds (Some files) path None → Holds (Some files) path (Some t) → ⊥
no_text files path t x y = let e : None ≡ Some t = x ∙ sym y in cc

-- the first path that is there, and its text
abbrev AreSame : List ℕ → List ℕ → List ℕ → List ℕ → Type 0
AreSame p q t u = (p ≡ q) × (t ≡ u)

one_first : (files : Told) (ps : List (List ℕ)) (p q t u : List ℕ) → IsFirst (Some files) ps p t → IsFirst (Some files) ps q u → AreSame p q t u
one_first files [] p q t u x y = absurd x
one_first files (r ∷ ps) p q t u x y =
    ⊎_elim
    (λ a. ⊎_elim (λ b. (a.0 ∙ sym b.0, one_text files r t u a.1 b.1)) (λ b. absurd (no_text files r t b.0 a.1)) y)
    (λ a. ⊎_elim (λ b. absurd (no_text files r u a.0 b.1)) (λ b. one_first files ps p q t u a.1 b.1) y)
    x

first_holds : (files : Told) (ps : List (List ℕ)) (p t : List ℕ) → IsFirst (Some files) ps p t → Holds (Some files) p (Some t)
first_holds files [] p t x = absurd x
first_holds files (r ∷ ps) p t x = ⊎_elim (λ a. subst (λ q. Holds (Some files) q (Some t)) (sym a.0) a.1) (λ a. first_holds files ps p t a.1) x

first_or_none : (files : Told) (ps : List (List ℕ)) (p t : List ℕ) → IsNone (Some files) ps → IsFirst (Some files) ps p t → ⊥
first_or_none files [] p t absent x = absurd x
first_or_none files (r ∷ ps) p t absent x = ⊎_elim (λ a. no_text files r t absent.0 a.1) (λ a. first_or_none files ps p t absent.1 a.1) x

-- a file by its parts
abbrev file_of : List ℕ → List ℕ → Tree → ModuleFile
file_of path text t = record { path = path; text = text; «module» = t }

same_file : (f g : ModuleFile) → f.path ≡ g.path → f.text ≡ g.text → f.«module» ≡ g.«module» → f ≡ g
same_file f g a b c =
    ap (λ path. file_of path f.text f.«module») a ∙ (ap (λ text. file_of g.path text f.«module») b ∙ ap (λ t. file_of g.path g.text t) c)

same_module : (f g : ModuleFile) → f.path ≡ g.path → f.text ≡ g.text → IsModuleOf f.text f.«module» → IsModuleOf g.text g.«module» → f ≡ g
same_module f g a b x y = same_file f g a b (one_tree g.text f.«module» g.«module» (subst (λ t. IsModuleOf t f.«module») b x) y)

-- no text is that of a module and refused
read_or_refused : (path text : List ℕ) (t : Tree) (r : Refusal) → IsModuleOf text t → IsRefused path (Some text) r → ⊥
read_or_refused path text t r is (span, kind, unreadable, said) = not_both text t span kind is unreadable

-- a named file is one entry
one_holding : (files : Told) (path : List ℕ) (f g : ModuleFile) → Holding (Some files) path f → Holding (Some files) path g → f ≡ g
one_holding files path f g (a, x, m) (b, y, n) = same_module f g (a ∙ sym b) (one_text files path f.text g.text x y) m n

reads_of : (files : Told) (path : List ℕ) (f : ModuleFile) → Holding (Some files) path f → Reads (Some files) path f.«module»
reads_of files path f (a, x, m) = (f.text, x, m)

refused_entry : (x y : Option (List ℕ)) (r s : Refusal) → x ≡ y → r ≡ s → Refused x r ≡ Refused y s
refused_entry x y r s a b = cc

both_taken : (b : Bool) → b ≡ true → b ≡ false → ⊥
both_taken b x y = let e : true ≡ false = sym x ∙ y in cc

one_named : (files : Told) (before : List Entry) (path : List ℕ) (d e : Entry) → IsNamed (Some files) before path d → IsNamed (Some files) before path e → d ≡ e
one_named files before path (Held f) (Held g) (a, free) (b, also) = ap Held (one_holding files path f g a b)
one_named files before path (Held f) (Refused x r) (a, free) (y, why) =
    absurd (⊎_elim
    (λ bad. reads_or_refused files path f.«module» r (reads_of files path f a) bad)
    (λ is. both_taken (is_taken before f) (subst (λ h. is_taken before h ≡ true) (sym (one_holding files path f is.0 a is.1)) is.2) free)
    why)
one_named files before path (Refused x r) (Held g) (y, why) (b, free) =
    absurd (⊎_elim
    (λ bad. reads_or_refused files path g.«module» r (reads_of files path g b) bad)
    (λ is. both_taken (is_taken before g) (subst (λ h. is_taken before h ≡ true) (sym (one_holding files path g is.0 b is.1)) is.2) free)
    why)
one_named files before path (Refused x r) (Refused y s) (a, why) (b, because) =
    refused_entry x y r s (a ∙ sym b)
    (⊎_elim
    (λ bad. ⊎_elim
    (λ worse. one_refusal files path r s bad worse)
    (λ is. absurd (reads_or_refused files path (is.0.«module») r (reads_of files path is.0 is.1) bad)) because)
    (λ is. ⊎_elim
    (λ worse. absurd (reads_or_refused files path (is.0.«module») s (reads_of files path is.0 is.1) worse))
    (λ also. is.3 ∙ ap twice (one_holding files path is.0 also.0 is.1 also.1) ∙ sym also.3) because)
    why)

one_named_row : (files : Told) (before : List Entry) (paths : List (List ℕ)) (ds es : List Entry) → AreNamed (Some files) before paths ds → AreNamed (Some files) before paths es → ds ≡ es
one_named_row files before [] [] [] x y = refl
one_named_row files before [] [] (e ∷ es) x y = absurd y
one_named_row files before [] (d ∷ ds) es x y = absurd x
one_named_row files before (p ∷ paths) [] es x y = absurd x
one_named_row files before (p ∷ paths) (d ∷ ds) [] x y = absurd y
one_named_row files before (p ∷ paths) (d ∷ ds) (e ∷ es) x y =
    let first : d ≡ e = one_named files before p d e x.0 y.0 in
    let rest : ds ≡ es = one_named_row files (before ++ e ∷ []) paths ds es (subst (λ c. AreNamed (Some files) (before ++ c ∷ []) paths ds) first x.1) y.1 in
    cc

one_row_of_files : (files : Told) (names : List (List ℕ)) (ds es : List Entry) → AreNamedFiles (Some files) names ds → AreNamedFiles (Some files) names es → ds ≡ es
one_row_of_files files names ds es (named, x, a) (also, y, b) =
    a ∙ ap (λ n. n ++ first_over (drop most_modules names)) (one_named_row files [] (take most_modules names) named also x y) ∙ sym b

-- an import's file is one entry
one_imported : (files : Told) (dirs : List (List ℕ)) (x : List ℕ) (d e : Entry) → IsImported (Some files) dirs x d → IsImported (Some files) dirs x e → d ≡ e
one_imported files dirs x (Held f) (Held g) (a, m, n) (b, k, l) =
    let same = one_first files (paths_of dirs x) f.path g.path f.text g.text a b in
    ap Held (same_module f g same.0 same.1 m k)
one_imported files dirs x (Held f) (Refused y r) (a, m, n) (named, (path, text, b, bad)) =
    let same = one_first files (paths_of dirs x) path f.path text f.text b a in
    absurd (read_or_refused path f.text f.«module» r m (subst (λ t. IsRefused path (Some t) r) same.1 bad))
one_imported files dirs x (Refused y r) (Held f) (named, (path, text, b, bad)) (a, m, n) =
    let same = one_first files (paths_of dirs x) path f.path text f.text b a in
    absurd (read_or_refused path f.text f.«module» r m (subst (λ t. IsRefused path (Some t) r) same.1 bad))
one_imported files dirs x (Refused y r) (Refused z s) (a, (p, t, i, bad)) (b, (q, u, j, worse)) =
    let same = one_first files (paths_of dirs x) p q t u i j in
    let here : IsRefused p (Some t) s = subst (λ v. IsRefused p (Some v) s) (sym same.1) (subst (λ v. IsRefused v (Some u) s) (sym same.0) worse) in
    refused_entry y z r s (a ∙ sym b) (one_refusal files p r s (Some t, first_holds files (paths_of dirs x) p t i, bad) (Some t, first_holds files (paths_of dirs x) p t i, here))

-- a module that is not found is no entry
found_or_not : (files : Told) (dirs : List (List ℕ)) (x : List ℕ) (e : Entry) → IsNotFound (Some files) dirs x → IsImported (Some files) dirs x e → ⊥
found_or_not files dirs x (Held f) lost (a, m, n) =
    ⊎_elim (λ absent. first_or_none files (paths_of dirs x) f.path f.text absent a)
    (λ other. let same = one_first files (paths_of dirs x) other.0 f.path other.1 f.text other.3 a in
    let tree = one_tree f.text other.2 f.«module» (subst (λ t. IsModuleOf t other.2) same.1 other.4) m in
    other.5 (ap module_name tree ∙ n))
    lost
found_or_not files dirs x (Refused y r) lost (named, (path, text, a, m)) =
    ⊎_elim (λ absent. first_or_none files (paths_of dirs x) path text absent a)
    (λ other. let same = one_first files (paths_of dirs x) other.0 path other.1 text other.3 a in
    read_or_refused path text other.2 r (subst (λ t. IsModuleOf t other.2) same.1 other.4) m)
    lost

-- no entry is next
abbrev IsEnd : Told → List (List ℕ) → List Entry → Type 0
IsEnd files dirs es = (e : Entry) → IsNext (Some files) dirs es e → ⊥

asks_once : (f g : ModuleFile) (i j : Import) → asks f i ≡ asks g j → i ≡ j
asks_once f g i j e = cc

never_clear : (f : ModuleFile) (i : Import) → clear ≡ asks f i → ⊥
never_clear f i e = cc

never_refused : (r : Refusal) (f : ModuleFile) (i : Import) → refused r ≡ asks f i → ⊥
never_refused r f i e = cc

clear_end : (files : Told) (dirs : List (List ℕ)) (es : List Entry) → stop es ≡ clear → IsEnd files dirs es
clear_end files dirs es is = λ e next. never_clear next.0 next.1 (sym is ∙ next.2)

stop_end_by : (files : Told) (dirs : List (List ℕ)) (es : List Entry) (s : Stop) (r : Refusal) → stop es ≡ s → IsStop (Some files) dirs es s r → IsEnd files dirs es
stop_end_by files dirs es clear r is x = absurd x
stop_end_by files dirs es (refused t) r is x = λ e next. never_refused t next.0 next.1 (sym is ∙ next.2)
stop_end_by files dirs es (asks f i) r is x = λ e next.
    let same : i ≡ next.1 = asks_once f next.0 i next.1 (sym is ∙ next.2) in
    ⊎_elim (λ full. absurd (omega (arith, full.0, next.3)))
    (λ vain. found_or_not files dirs i.name e vain.1 (subst (λ (j : Import). IsImported (Some files) dirs j.name e) (sym same) next.4))
    x

stop_end : (files : Told) (dirs : List (List ℕ)) (es : List Entry) (r : Refusal) → IsStop (Some files) dirs es (stop es) r → IsEnd files dirs es
stop_end files dirs es r x = stop_end_by files dirs es (stop es) r refl x

one_next : (files : Told) (dirs : List (List ℕ)) (es : List Entry) (d e : Entry) → IsNext (Some files) dirs es d → IsNext (Some files) dirs es e → d ≡ e
one_next files dirs es d e (f, i, wants, room, x) (g, j, asked, also, y) =
    let same : i ≡ j = asks_once f g i j (sym wants ∙ asked) in
    one_imported files dirs j.name d e (subst (λ (k : Import). IsImported (Some files) dirs k.name d) same x) y

one_row : (files : Told) (dirs : List (List ℕ)) (es ds cs : List Entry) → AreNext (Some files) dirs es ds → AreNext (Some files) dirs es cs → IsEnd files dirs (es ++ ds) → IsEnd files dirs (es ++ cs) → ds ≡ cs
one_row files dirs es [] [] x y a b = refl
one_row files dirs es [] (c ∷ cs) x y a b = absurd (a c (subst (λ l. IsNext (Some files) dirs l c) (sym (append-nil es)) y.0))
one_row files dirs es (d ∷ ds) [] x y a b = absurd (b d (subst (λ l. IsNext (Some files) dirs l d) (sym (append-nil es)) x.0))
one_row files dirs es (d ∷ ds) (c ∷ cs) x y a b =
    let first : d ≡ c = one_next files dirs es d c x.0 y.0 in
    let left : IsEnd files dirs ((es ++ c ∷ []) ++ ds) = subst (λ l. IsEnd files dirs l) (ap (λ k. es ++ k ∷ ds) first ∙ sym (append_assoc es (c ∷ []) ds)) a in
    let right : IsEnd files dirs ((es ++ c ∷ []) ++ cs) = subst (λ l. IsEnd files dirs l) (sym (append_assoc es (c ∷ []) cs)) b in
    let rest : ds ≡ cs = one_row files dirs (es ++ c ∷ []) ds cs (subst (λ k. AreNext (Some files) dirs (es ++ k ∷ []) ds) first x.1) y.1 left right in
    cc

one_end : (files : Told) (names dirs : List (List ℕ)) (ds es : List Entry) → AreEntries (Some files) names dirs ds → AreEntries (Some files) names dirs es → IsEnd files dirs ds → IsEnd files dirs es → ds ≡ es
one_end files names dirs ds es (named, more, x, p, a) (also, rest, y, q, b) m n =
    let first : named ≡ also = one_row_of_files files names named also x y in
    let p' : AreNext (Some files) dirs also more = subst (λ l. AreNext (Some files) dirs l more) first p in
    let m' : IsEnd files dirs (also ++ more) = subst (λ l. IsEnd files dirs l) (a ∙ ap (λ l. l ++ more) first) m in
    let n' : IsEnd files dirs (also ++ rest) = subst (λ l. IsEnd files dirs l) b n in
    a ∙ ap (λ l. l ++ more) first ∙ ap (λ l. also ++ l) (one_row files dirs also more rest p' q m' n') ∙ sym b

same_files : (fs gs : List ModuleFile) → entries_of fs ≡ entries_of gs → fs ≡ gs
same_files [] [] e = refl
same_files [] (g ∷ gs) e = absurd (let z : ⊥ = cc in z)
same_files (f ∷ fs) [] e = absurd (let z : ⊥ = cc in z)
same_files (f ∷ fs) (g ∷ gs) e =
    let rest : entries_of fs ≡ entries_of gs = cc in let same : fs ≡ gs = same_files fs gs rest in let first : f ≡ g = cc in cc

-- the list is one
pub one_list : (files : Told) (names dirs : List (List ℕ)) (fs gs : List ModuleFile) → IsList (Some files) names dirs fs → IsList (Some files) names dirs gs → fs ≡ gs
one_list files names dirs fs gs (x, a) (y, b) =
    same_files fs gs (one_end files names dirs (entries_of fs) (entries_of gs) x y (clear_end files dirs (entries_of fs) a) (clear_end files dirs (entries_of gs) b))

one_stop : (files : Told) (dirs : List (List ℕ)) (es : List Entry) (s : Stop) (first second : Refusal) → IsStop (Some files) dirs es s first → IsStop (Some files) dirs es s second → first ≡ second
one_stop files dirs es clear first second x y = absurd x
one_stop files dirs es (refused r) first second x y = x ∙ sym y
one_stop files dirs es (asks f i) first second x y =
    ⊎_elim
    (λ a. ⊎_elim (λ b. a.1 ∙ sym b.1) (λ b. absurd (omega (arith, a.0, b.0))) y)
    (λ a. ⊎_elim (λ b. absurd (omega (arith, a.0, b.0))) (λ b. a.2 ∙ sym b.2) y)
    x

-- its refusal is one
pub one_list_refusal : (files : Told) (names dirs : List (List ℕ)) (first second : Refusal) → IsListRefused (Some files) names dirs first → IsListRefused (Some files) names dirs second → first ≡ second
one_list_refusal files names dirs first second (ds, x, a) (es, y, b) =
    let same : ds ≡ es = one_end files names dirs ds es x y (stop_end files dirs ds first a) (stop_end files dirs es second b) in
    one_stop files dirs es (stop es) first second (subst (λ l. IsStop (Some files) dirs l (stop l) first) same a) b

-- and there is not both
pub list_or_refusal : (files : Told) (names dirs : List (List ℕ)) (fs : List ModuleFile) (r : Refusal) → IsList (Some files) names dirs fs → IsListRefused (Some files) names dirs r → ⊥
list_or_refusal files names dirs fs r (x, a) (es, y, b) =
    let same : entries_of fs ≡ es = one_end files names dirs (entries_of fs) es x y (clear_end files dirs (entries_of fs) a) (stop_end files dirs es r b) in
    subst (λ s. IsStop (Some files) dirs es s r) (ap stop (sym same) ∙ a) b

-- what is asked for entries is one
same_behind : (xs ys zs : List Entry) → xs ++ ys ≡ xs ++ zs → ys ≡ zs
same_behind [] ys zs e = e
same_behind (x ∷ xs) ys zs e = let rest : xs ++ ys ≡ xs ++ zs = cc in same_behind xs ys zs rest

entries_asked : (files : Told) (names dirs : List (List ℕ)) (es : List Entry) (done : List (List ℕ)) → AreAskedFor files names dirs es done → AreEntries (Some files) names dirs es
entries_asked files names dirs es done (named, more, x, p, a, is) = (named, more, x, p, a)

one_asked : (files : Told) (names dirs : List (List ℕ)) (es : List Entry) (first second : List (List ℕ)) → AreAskedFor files names dirs es first → AreAskedFor files names dirs es second → first ≡ second
one_asked files names dirs es first second (named, more, x, p, a, is) (also, rest, y, q, b, so) =
    let same : named ≡ also = one_row_of_files files names named also x y in
    let left : more ≡ rest = same_behind also more rest (sym (ap (λ l. l ++ more) same) ∙ sym a ∙ b) in
    is ∙ ap (λ l. take most_modules names ++ asked_for_all files dirs l) left ∙ sym so

-- all is asked: no entry is next, and what is in the way is asked
abbrev AsksToEnd : Told → List (List ℕ) → List (List ℕ) → List (List ℕ) → Type 0
AsksToEnd files names dirs asked =
    (es : List Entry) × (done : List (List ℕ)) × AreAskedFor files names dirs es done × IsEnd files dirs es × (asked ≡ done ++ asked_next files dirs es)

list_to_end : (files : Told) (names dirs : List (List ℕ)) (list : List ModuleFile) (asked : List (List ℕ)) → IsList (Some files) names dirs list → AsksList files names dirs list asked → AsksToEnd files names dirs asked
list_to_end files names dirs list asked (entries, is) all = (
  entries_of list,
  asked,
  all,
  clear_end files dirs (entries_of list) is,
  sym (ap (λ s. asked ++ asked_at_stop files dirs (length (entries_of list)) s) is ∙ append-nil asked),
)

refused_to_end : (files : Told) (names dirs : List (List ℕ)) (r : Refusal) (asked : List (List ℕ)) → AsksRefused files names dirs r asked → AsksToEnd files names dirs asked
refused_to_end files names dirs r asked (es, done, all, is, same) = (es, done, all, stop_end files dirs es r is, same)

to_end : (files : Told) (names dirs asked : List (List ℕ)) → AsksAll files names dirs asked → AsksToEnd files names dirs asked
to_end files names dirs asked all =
    ⊎_elim (λ x. let (list, is, asks_list) = x in list_to_end files names dirs list asked is asks_list) (λ x. let (r, is) = x in refused_to_end files names dirs r asked is) all

one_to_end : (files : Told) (names dirs first second : List (List ℕ)) → AsksToEnd files names dirs first → AsksToEnd files names dirs second → first ≡ second
one_to_end files names dirs first second (ds, x, all, end, a) (es, y, also, last, b) =
    let same : ds ≡ es = one_end files names dirs ds es (entries_asked files names dirs ds x all) (entries_asked files names dirs es y also) end last in
    let done : x ≡ y = one_asked files names dirs es x y (subst (λ l. AreAskedFor files names dirs l x) same all) also in
    a ∙ ap (λ l. l ++ asked_next files dirs ds) done ∙ ap (λ l. y ++ asked_next files dirs l) same ∙ sym b

-- all that is asked is one
pub one_asking : (files : Told) (names dirs first second : List (List ℕ)) → AsksAll files names dirs first → AsksAll files names dirs second → first ≡ second
one_asking files names dirs first second x y = one_to_end files names dirs first second (to_end files names dirs first x) (to_end files names dirs second y)
