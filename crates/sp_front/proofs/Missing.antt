-- What is missing in a list, and in the same with one more entry.
use Rattle.std.specs.Str.{bytes_eq}
use Rattle.std.proofs.lemmas.Slice.Eq.{bytes_eq-Decides}
use Rattle.std.proofs.Common.{◌≡◌, ℕ, List, [], ◌∷◌, ◌++◌, Bool, true, false, not, ◌||◌, cond, Option, Some, sym, ap, subst, ◌∙◌, refl}
use Rattle.sp_names.specs.Names.{is_name}
use Rattle.sp_names.specs.Faults.{is_reserved}
use Rattle.sp_front.specs.declared.entries.ModuleFile.{ModuleFile}
use Rattle.sp_front.specs.declared.entries.Import.{Import}
use Rattle.sp_front.specs.declared.entries.Entry.{Entry}
use Rattle.sp_front.specs.declared.entries.Entry.TheVariants.{Held, Refused}
use Rattle.sp_front.specs.Imports.{imports_of}
use Rattle.sp_front.specs.inside.Files.{IsImport}
use Rattle.sp_front.specs.Lists.{Stop, clear, refused, asks, entry_name, is_in, is_missing, missing, first_asked, stop_at, or_else, first_stop, IsImported, Files}

or_assoc : (a b c : Bool) → a || (b || c) ≡ (a || b) || c
or_assoc true b c = refl
or_assoc false b c = refl

or_false : (a : Bool) → (a || false) ≡ a
or_false true = refl
or_false false = refl

-- a name is among the names of some entries and of one more, or is that of the one
pub in_more : (x : List ℕ) (es : List Entry) (e : Entry) → is_in x (es ++ e ∷ []) ≡ (is_in x es || is_name x (entry_name e))
in_more x [] e = or_false (is_name x (entry_name e))
in_more x (d ∷ es) e = ap (λ b. is_name x (entry_name d) || b) (in_more x es e) ∙ or_assoc (is_name x (entry_name d)) (is_in x es) (is_name x (entry_name e))

-- the entry of an import has its name
pub imported_name : (files : Files) (dirs : List (List ℕ)) (x : List ℕ) (e : Entry) → IsImported files dirs x e → entry_name e ≡ Some x
imported_name files dirs x (Held f) is = ap Some is.2
imported_name files dirs x (Refused y r) is = is.0

same_bytes : (x : List ℕ) → bytes_eq x x ≡ true
same_bytes x = (bytes_eq-Decides x x).1 refl

-- it isn't missing any more
pub here_now : (es : List Entry) (e : Entry) (i : Import) → entry_name e ≡ Some i.name → is_missing (es ++ e ∷ []) i ≡ false
here_now es e i name =
    ap (λ b. not (is_reserved i.name || b)) (in_more i.name es e ∙ ap (λ o. is_in i.name es || is_name i.name o) name ∙ ap (λ b. is_in i.name es || b) (same_bytes i.name))
    ∙ always (is_reserved i.name) (is_in i.name es)
  where
    always : (a b : Bool) → not (a || (b || true)) ≡ false
    always true b = refl
    always false true = refl
    always false false = refl

-- what isn't missing stays so
stays : (es : List Entry) (e : Entry) (i : Import) → is_missing es i ≡ false → is_missing (es ++ e ∷ []) i ≡ false
stays es e i is = ap (λ b. not (is_reserved i.name || b)) (in_more i.name es e) ∙ kept (is_reserved i.name) (is_in i.name es) (is_name i.name (entry_name e)) is
  where
    kept : (a b c : Bool) → not (a || b) ≡ false → not (a || (b || c)) ≡ false
    kept true b c e = refl
    kept false true c e = refl
    kept false false c e = absurd (let z : ⊥ = cc in z)

-- the first of some imports is missing, or isn't
pub missing_first : (es : List Entry) (i : Import) (is : List Import) → is_missing es i ≡ true → missing es (i ∷ is) ≡ i ∷ missing es is
missing_first es i is e = ap (λ b. cond b (i ∷ missing es is) (missing es is)) e

pub missing_later : (es : List Entry) (i : Import) (is : List Import) → is_missing es i ≡ false → missing es (i ∷ is) ≡ missing es is
missing_later es i is e = ap (λ b. cond b (i ∷ missing es is) (missing es is)) e

again_by : (es : List Entry) (e : Entry) (i : Import) (is : List Import) → missing (es ++ e ∷ []) (missing es is) ≡ missing (es ++ e ∷ []) is
    → (b : Bool) → is_missing es i ≡ b → missing (es ++ e ∷ []) (missing es (i ∷ is)) ≡ missing (es ++ e ∷ []) (i ∷ is)
again_by es e i is same true is_so =
    let more = es ++ e ∷ [] in
    ap (λ xs. missing more xs) (missing_first es i is is_so) ∙ ap (λ xs. cond (is_missing more i) (i ∷ xs) xs) same
again_by es e i is same false is_so =
    let more = es ++ e ∷ [] in
    ap (λ xs. missing more xs) (missing_later es i is is_so) ∙ same ∙ sym (missing_later more i is (stays es e i is_so))

-- what is missing of that which was missing before
pub missing_again : (es : List Entry) (e : Entry) (is : List Import) → missing (es ++ e ∷ []) (missing es is) ≡ missing (es ++ e ∷ []) is
missing_again es e [] = refl
missing_again es e (i ∷ is) = again_by es e i is (missing_again es e is) (is_missing es i) refl

pub none_missing : (es : List Entry) (e : Entry) (is : List Import) → missing es is ≡ [] → missing (es ++ e ∷ []) is ≡ []
none_missing es e is none = sym (missing_again es e is) ∙ ap (λ xs. missing (es ++ e ∷ []) xs) none

-- nothing is in the way of an entry where none of its imports is missing, and of those behind it
none_asked : (f : ModuleFile) (is : List Import) (s : Stop) → or_else (first_asked f is) s ≡ clear → (is ≡ []) × (s ≡ clear)
none_asked f [] s e = (refl, e)
none_asked f (i ∷ is) s e = absurd (let z : ⊥ = cc in z)

-- what is clear stays so with one more entry
pub clear_more : (es before : List Entry) (e : Entry) → first_stop true es before ≡ clear → first_stop true (es ++ e ∷ []) before ≡ clear
clear_more es [] e is = refl
clear_more es (Refused x r ∷ before) e is = absurd (let z : ⊥ = cc in z)
clear_more es (Held f ∷ before) e is =
    let both = none_asked f (missing es (imports_of f.«module»)) (first_stop true es before) is in
    ap (λ xs. or_else (first_asked f xs) (first_stop true (es ++ e ∷ []) before)) (none_missing es e (imports_of f.«module») both.0) ∙ clear_more es before e both.1

or_else_assoc : (a b c : Stop) → or_else a (or_else b c) ≡ or_else (or_else a b) c
or_else_assoc clear b c = refl
or_else_assoc (refused r) b c = refl
or_else_assoc (asks f i) b c = refl

-- what is in the way of two lists one behind the other
pub stop_split : (asked : Bool) (es xs ys : List Entry) → first_stop asked es (xs ++ ys) ≡ or_else (first_stop asked es xs) (first_stop asked es ys)
stop_split asked es [] ys = refl
stop_split asked es (x ∷ xs) ys = ap (λ s. or_else (stop_at asked es x) s) (stop_split asked es xs ys) ∙ or_else_assoc (stop_at asked es x) (first_stop asked es xs) (first_stop asked es ys)

-- the entry that an import's file is has its name
pub imported_by : (files : Files) (dirs : List (List ℕ)) (x : List ℕ) (o : Option Entry) (e : Entry) → o ≡ Some e → IsImport files dirs x o → entry_name e ≡ Some x
imported_by files dirs x o e some is = imported_name files dirs x e (subst (λ o. IsImport files dirs x o) some is)
