-- The tables of a list, a step further.
use Rattle.std.proofs.Common.{ℕ, ◌≡◌, ◌<◌, ◌+◌, suc, refl, sym, ap, ◌∙◌, arith, Bool, true, false, List, [], ◌∷◌, ◌++◌, length, take, is_some, get_or}
use Rattle.std.specs.Prelude.{if◌then◌else◌}
use Rattle.std.proofs.lemmas.List.{length-append, length-take-le, take_more}
use Rattle.sp_ast.specs.Trees.{Tree}
use Rattle.sp_names.specs.declared.rows.Declaration.{Declaration}
use Rattle.sp_names.specs.declared.sort.DeclSort.{DeclSort}
use Rattle.sp_names.specs.declared.sort.DeclSort.TheVariants as sort_is
use Rattle.sp_names.specs.declared.table.ModuleNames.{ModuleNames}
use Rattle.sp_names.specs.Declarations.{rows_of, rows_from, base, tree_or, module_at, module_declarations, is_sort, sort_of, all_from, number_in, sort_or, library_enums}
use Rattle.sp_names.specs.Names.{first_named, declared_name, import_name}
use Rattle.sp_names.specs.Tables.{IsTable, IsOf, IsNumber, AreSorted, grown, grown_by, number_by}
use Rattle.sp_name_tables.specs.Tables.{told_by}
use Rattle.sp_names.proofs.Lists.{here}

length_rows_of : (m : ℕ) (ds : List Tree) → length (rows_of m ds) ≡ length ds
length_rows_of m [] = refl
length_rows_of m (d ∷ ds) = ap suc (length_rows_of m ds)

length_rows_more : (m : ℕ) (ts : List Tree) (t : Tree) → length (rows_from m (ts ++ t ∷ [])) ≡ length (rows_from m ts) + length (module_declarations t)
length_rows_more m [] t = length-append (rows_of m (module_declarations t)) [] ∙ (let n = length_rows_of m (module_declarations t) in omega (arith, n))
length_rows_more m (x ∷ xs) t =
    let a = length-append (rows_of m (module_declarations x)) (rows_from (suc m) (xs ++ t ∷ [])) in
    let b = length-append (rows_of m (module_declarations x)) (rows_from (suc m) xs) in
    let c = length_rows_more (suc m) xs t in
    omega (arith, a, b, c)

-- how many declarations stand before the next module
pub next_base : (list : List Tree) (i : ℕ) (t : Tree) (first count next : ℕ) (ds : List Tree) → i < length list → ds ≡ module_declarations (get_or list i t)
    → first ≡ base list i → count ≡ length ds → next ≡ first + count → next ≡ base list (i + 1)
next_base list i t first count next ds lt d f c n =
    let a = ap (λ l. length (rows_from 0 l)) (take_more list i t lt) in
    let b = length_rows_more 0 (take i list) (get_or list i t) in
    let l = ap length d in
    omega (arith, a, b, f, c, n, l)

pub names_of_module : (list : List Tree) (i : ℕ) (t : Tree) (first : ℕ) (ds : List Tree) (names : ModuleNames) → i < length list → ds ≡ module_declarations (get_or list i t) → first ≡ base list i
    → IsTable declared_name first ds (told_by names.declared) → IsTable import_name first ds (told_by names.imported) → IsOf list i names
names_of_module list i t first ds names lt d f declared imported =
    let at : ds ≡ module_declarations (module_at list i) = d ∙ ap (λ o. module_declarations (tree_or o)) (sym (here list i t lt)) in
    record {
      declared_is = λ x. declared x ∙ ap (λ k. first_named declared_name x k ds) f ∙ ap (first_named declared_name x (base list i)) at;
      imported_is = λ x. ap is_some (imported x ∙ ap (λ k. first_named import_name x k ds) f ∙ ap (first_named import_name x (base list i)) at);
    }

-- the numbers of a sort, with one more declaration
in_front : (b : Bool) (g : ℕ) (ys : List ℕ) (k : ℕ) → g ∷ grown b ys k ≡ grown b (g ∷ ys) k
in_front true g ys k = refl
in_front false g ys k = refl

one_sorted : (s : DeclSort) (g : ℕ) (ds : List Declaration) (d : Declaration) → all_from s g (ds ++ d ∷ []) ≡ grown (is_sort s d) (all_from s g ds) (g + length ds)
one_sorted s g [] d = elim (is_sort s d) as (λ b. (if b then g ∷ [] else []) ≡ grown b [] (g + 0)) [ true ↦ ap (λ j. j ∷ []) (omega arith) | false ↦ refl ]
one_sorted s g (x ∷ xs) d =
    let n : suc g + length xs ≡ g + length (x ∷ xs) = omega arith in
    let i = one_sorted s (suc g) xs d ∙ ap (grown (is_sort s d) (all_from s (suc g) xs)) n in
    elim (is_sort s x) as (λ b. (if b then g ∷ all_from s (suc g) (xs ++ d ∷ []) else all_from s (suc g) (xs ++ d ∷ [])) ≡ grown (is_sort s d) (if b then g ∷ all_from s (suc g) xs else all_from s (suc g) xs) (g + length (x ∷ xs))) [
      | true ↦ ap (λ l. g ∷ l) i ∙ in_front (is_sort s d) g (all_from s (suc g) xs) (g + length (x ∷ xs))
      | false ↦ i
    ]

sorted_more : (s sort : DeclSort) (rs : List Declaration) (g : ℕ) (d : Declaration) (xs xs' : List ℕ) (k : ℕ) → g < length rs → sort ≡ sort_of (get_or rs g d).tree → k ≡ g
    → xs ≡ all_from s 0 (take g rs) → xs' ≡ grown_by s sort xs k → xs' ≡ all_from s 0 (take (g + 1) rs)
sorted_more s sort rs g d xs xs' k lt so n old new =
    let long : k ≡ 0 + length (take g rs) = (let l = length-take-le g rs (omega (arith, lt)) in omega (arith, n, l)) in
    let e = get_or rs g d in
    new
    ∙ ap (λ z. grown_by s z xs k) so
    ∙ ap (λ l. grown (is_sort s e) l k) old
    ∙ ap (grown (is_sort s e) (all_from s 0 (take g rs))) long
    ∙ sym (one_sorted s 0 (take g rs) e)
    ∙ ap (all_from s 0) (sym (take_more rs g d lt))

pub sorted_next : (rs : List Declaration) (g : ℕ) (d : Declaration) (sort : DeclSort) (k : ℕ) (us es cs fs us' es' cs' fs' : List ℕ) → g < length rs → sort ≡ sort_of (get_or rs g d).tree → k ≡ g
    → AreSorted (take g rs) us es cs fs → us' ≡ grown_by sort_is.Unit sort us k → es' ≡ grown_by sort_is.Enum sort es k → cs' ≡ grown_by sort_is.Constant sort cs k → fs' ≡ grown_by sort_is.Function sort fs k
    → AreSorted (take (g + 1) rs) us' es' cs' fs'
sorted_next rs g d sort k us es cs fs us' es' cs' fs' lt so n old u v w x = record {
  units_are = sorted_more sort_is.Unit sort rs g d us us' k lt so n old.units_are u;
  enums_are = sorted_more sort_is.Enum sort rs g d es es' k lt so n old.enums_are v;
  constants_are = sorted_more sort_is.Constant sort rs g d cs cs' k lt so n old.constants_are w;
  functions_are = sorted_more sort_is.Function sort rs g d fs fs' k lt so n old.functions_are x;
}

number_same : (rs : List Declaration) (g : ℕ) (us es cs fs : List ℕ) → AreSorted (take g rs) us es cs fs → (sort : DeclSort) → number_by us es cs fs sort ≡ number_in rs g sort
number_same rs g us es cs fs s sort_is.Unit = ap length s.units_are
number_same rs g us es cs fs s sort_is.Enum = ap (λ l. library_enums + length l) s.enums_are
number_same rs g us es cs fs s sort_is.Constant = ap length s.constants_are
number_same rs g us es cs fs s sort_is.Function = ap length s.functions_are
number_same rs g us es cs fs s _ = refl

pub number_next : (rs : List Declaration) (g : ℕ) (d : Declaration) (sort : DeclSort) (us es cs fs : List ℕ) (n : ℕ) → g < length rs → sort ≡ sort_of (get_or rs g d).tree
    → AreSorted (take g rs) us es cs fs → n ≡ number_by us es cs fs sort → IsNumber rs g n
number_next rs g d sort us es cs fs n lt so old num =
    num
    ∙ number_same rs g us es cs fs old sort
    ∙ ap (number_in rs g) (so ∙ ap sort_or (sym (here rs g d lt)))
