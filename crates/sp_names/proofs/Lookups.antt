-- What the tables of a list tell.
use Rattle.std.proofs.Common.{ℕ, ◌≡◌, ◌<◌, ◌≤◌, ◌-◌, zero, suc, refl, sym, ap, ◌∙◌, arith, Bool, false, List, [], ◌∷◌, length, Option, Some, None, is_some, slice_get, get_or}
use Rattle.std.specs.Prelude.{if◌then◌else◌, nat_lt}
use Rattle.std.proofs.lemmas.Bool.Decides.{nat_tests}
use Rattle.sp_ast.specs.Trees.{Tree}
use Rattle.sp_names.specs.declared.rows.Declaration.{Declaration}
use Rattle.sp_names.specs.declared.sort.DeclSort.TheVariants as sort_is
use Rattle.sp_names.specs.declared.table.ModuleNames.{ModuleNames}
use Rattle.sp_name_tables.specs.declared.tables.NameTable.{NameTable}
use Rattle.sp_names.specs.Declarations.{rows, all_of, base, tree_or, module_declarations, library_enums}
use Rattle.sp_names.specs.Names.{first_named, declared_name, import_name, label_name, declared, is_imported, declaration_of, own_labels, labels_of, label_in, place_among, library_labels}
use Rattle.sp_names.specs.Tables.{Each, IsOf, IsLabels, declaration_in}
use Rattle.sp_name_tables.specs.Tables.{told_by}
use Rattle.sp_names.proofs.Lists.{here}

none_some : {A : Type 0} (a : A) → None ≡ Some a → ⊥
none_some a e = cc

-- nothing stands behind the end, in lists of one length
pub past_end : {X Y : Type 0} (xs : List X) (ys : List Y) (i : ℕ) → length xs ≡ length ys → None ≡ slice_get xs i → slice_get ys i ≡ None
past_end xs [] i e n = refl
past_end [] (y ∷ ys) i e n = absurd (let z : ⊥ = omega (arith, e) in z)
past_end (x ∷ xs) (y ∷ ys) zero e n = absurd (none_some x n)
past_end (x ∷ xs) (y ∷ ys) (suc i) e n = past_end xs ys i (omega (arith, e)) n

pub declared_told : (list value : List Tree) (names : List ModuleNames) (m : ℕ) (one : ModuleNames) (x : List ℕ) (o : Option ℕ) → list ≡ value → Each (IsOf list) names → Some one ≡ slice_get names m → o ≡ told_by one.declared x → o ≡ declared value m x
declared_told list value names m one x o v each at told = told ∙ (each m one (sym at)).declared_is x ∙ ap (λ l. declared l m x) v

pub none_declared : (list value : List Tree) (names : List ModuleNames) (m : ℕ) (x : List ℕ) → list ≡ value → length names ≡ length list → None ≡ slice_get names m → None ≡ declared value m x
none_declared list value names m x v all at =
    sym (ap (λ o. first_named declared_name x (base list m) (module_declarations (tree_or o))) (past_end names list m all at))
    ∙ ap (λ l. declared l m x) v

pub imported_told : (list value : List Tree) (names : List ModuleNames) (m : ℕ) (one : ModuleNames) (x : List ℕ) (b : Bool) (o : Option ℕ) → list ≡ value → Each (IsOf list) names → Some one ≡ slice_get names m → o ≡ told_by one.imported x → b ≡ is_some o → b ≡ is_imported value m x
imported_told list value names m one x b o v each at told is = is ∙ ap is_some told ∙ (each m one (sym at)).imported_is x ∙ ap (λ l. is_imported l m x) v

pub none_imported : (list value : List Tree) (names : List ModuleNames) (m : ℕ) (x : List ℕ) → list ≡ value → length names ≡ length list → None ≡ slice_get names m → false ≡ is_imported value m x
none_imported list value names m x v all at =
    sym (ap (λ o. is_some (first_named import_name x (base list m) (module_declarations (tree_or o)))) (past_end names list m all at))
    ∙ ap (λ l. is_imported l m x) v

in_rows : (list : List Tree) (o : Option ℕ) → declaration_in (rows list) o ≡ declaration_of list o
in_rows list None = refl
in_rows list (Some g) = refl

own_are : (list : List Tree) (rs : List Declaration) (es : List ℕ) (n : ℕ) → rs ≡ rows list → es ≡ all_of sort_is.Enum list → labels_of (declaration_in rs (slice_get es n)) ≡ own_labels list n
own_are list rs es n r e =
    ap (λ l. labels_of (declaration_in l (slice_get es n))) r
    ∙ ap (λ l. labels_of (declaration_in (rows list) (slice_get l n))) e
    ∙ ap labels_of (in_rows list (slice_get (all_of sort_is.Enum list) n))

behind_library : (list : List Tree) (n : ℕ) (x : List ℕ) (b : Bool) → nat_lt n library_enums ≡ b → b ≡ false → label_in list n x ≡ first_named label_name x 0 (own_labels list (n - library_enums))
behind_library list n x b e f = ap (λ c. if c then place_among x 0 (library_labels n) else first_named label_name x 0 (own_labels list (n - library_enums))) (e ∙ f)

pub label_told : (list value : List Tree) (rs : List Declaration) (es : List ℕ) (labels : List NameTable) (n : ℕ) (one : NameTable) (x : List ℕ) (o : Option ℕ) → list ≡ value → rs ≡ rows list → es ≡ all_of sort_is.Enum list
    → Each (IsLabels rs es) labels → nat_lt n library_enums ≡ false → Some one ≡ slice_get labels (n - library_enums) → o ≡ told_by one x → o ≡ label_in value n x
label_told list value rs es labels n one x o v r e each lt at told =
    told
    ∙ each (n - library_enums) one (sym at) x
    ∙ ap (first_named label_name x 0) (own_are list rs es (n - library_enums) r e)
    ∙ sym (behind_library list n x (nat_lt n library_enums) refl lt)
    ∙ ap (λ l. label_in l n x) v

pub none_labelled : (list value : List Tree) (rs : List Declaration) (es : List ℕ) (labels : List NameTable) (n : ℕ) (x : List ℕ) → list ≡ value → rs ≡ rows list → es ≡ all_of sort_is.Enum list
    → length labels ≡ length es → nat_lt n library_enums ≡ false → None ≡ slice_get labels (n - library_enums) → None ≡ label_in value n x
none_labelled list value rs es labels n x v r e all lt at =
    sym (ap (λ o. first_named label_name x 0 (labels_of (declaration_in rs o))) (past_end labels es (n - library_enums) all at))
    ∙ ap (first_named label_name x 0) (own_are list rs es (n - library_enums) r e)
    ∙ sym (behind_library list n x (nat_lt n library_enums) refl lt)
    ∙ ap (λ l. label_in l n x) v

pub some_at : {X : Type 0} (xs : List X) (i : ℕ) (x : X) → i < length xs → x ≡ get_or xs i x → Some x ≡ slice_get xs i
some_at xs i x lt e = ap Some e ∙ sym (here xs i x lt)

pub none_at : {X : Type 0} (xs : List X) (i : ℕ) → length xs ≤ i → None ≡ slice_get xs i
none_at [] i le = refl
none_at (x ∷ xs) zero le = absurd (let z : ⊥ = omega (arith, le) in z)
none_at (x ∷ xs) (suc i) le = none_at xs i (omega (arith, le))

pub not_library : (n : ℕ) → 4 ≤ n → nat_lt n library_enums ≡ false
not_library n le = grind (arith, nat_tests)
