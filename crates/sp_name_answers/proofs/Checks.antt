-- What is noted of tests, a step further.
use Rattle.std.proofs.Common.{ℕ, ◌≡◌, ◌<◌, ◌+◌, suc, refl, sym, ap, ◌∙◌, arith, Bool, List, [], ◌∷◌, ◌++◌, length, drop, get_or, Option}
use Rattle.std.specs.Prelude.{if◌then◌else◌}
use Rattle.std.proofs.lemmas.List.{drop_more}
use Rattle.sp_base.specs.declared.places.Span.{Span}
use Rattle.sp_ast.specs.Trees.{Tree, trees, tree}
use Rattle.sp_ast.specs.declared.forms.Form.{Form}
use Rattle.sp_ast.specs.declared.forms.Form.TheVariants as form_is
use Rattle.sp_rules.specs.declared.fault.Fault.{Fault}
use Rattle.sp_rules.specs.Least.{better, checked}
use Rattle.sp_types.specs.Types.{Ty}
use Rattle.sp_names.specs.Faults.{path_parts, path_faults, name_part, name_fault, with_name, repeated, twice_faults, faults_in, faults_among, module_faults, faults_from}
use Rattle.sp_names.proofs.Lists.{list_of_trees}

pub parts_are : (span : Span) (path : Tree) (names : List Tree) → path ≡ tree form_is.Path span names → path_parts path ≡ names
parts_are span path names e = ap path_parts e ∙ list_of_trees names

checked_both : (o : Option Fault) (xs ys : List (Bool × Fault)) → checked (checked o xs) ys ≡ checked o (xs ++ ys)
checked_both o [] ys = refl
checked_both o (x ∷ xs) ys = checked_both (if x.0 then better o x.1 else o) xs ys

pub one_repeated : (m : ℕ) (given : List (List ℕ)) (t : Tree) (ts left : List Tree) (old new r : Option Fault) → left ≡ t ∷ ts → new ≡ checked old (name_fault m given (name_part t)) → checked old (repeated m given (trees left)) ≡ r
    → checked new (repeated m (with_name (name_part t) given) (trees ts)) ≡ r
one_repeated m given t ts left old new r e n k =
    ap (λ o. checked o (repeated m (with_name (name_part t) given) (trees ts))) n
    ∙ checked_both old (name_fault m given (name_part t)) (repeated m (with_name (name_part t) given) (trees ts))
    ∙ ap (λ l. checked old (repeated m given (trees l))) (sym e)
    ∙ k

pub one_tree : (list : List Tree) (f : ℕ → Option Ty) (m : ℕ) (t : Tree) (ts left : List Tree) (old new r : Option Fault) → left ≡ t ∷ ts → new ≡ checked old (faults_in list f m t) → checked old (faults_among list f m (trees left)) ≡ r
    → checked new (faults_among list f m (trees ts)) ≡ r
one_tree list f m t ts left old new r e n k =
    ap (λ o. checked o (faults_among list f m (trees ts))) n
    ∙ checked_both old (faults_in list f m t) (faults_among list f m (trees ts))
    ∙ ap (λ l. checked old (faults_among list f m (trees l))) (sym e)
    ∙ k

pub whole_tree : (list : List Tree) (f : ℕ → Option Ty) (m : ℕ) (form : Form) (span : Span) (parts : List Tree) (t : Tree) (old path twice : Option Fault) → t ≡ tree form span parts
    → path ≡ checked old (path_faults list f m t) → twice ≡ checked path (twice_faults m t) → checked twice (faults_among list f m (trees parts)) ≡ checked old (faults_in list f m t)
whole_tree list f m form span parts t old path twice e p w =
    ap (λ o. checked o (faults_among list f m (trees parts))) (w ∙ ap (λ o. checked o (twice_faults m t)) p ∙ ap (λ u. checked (checked old (path_faults list f m u)) (twice_faults m u)) e)
    ∙ checked_both (checked old (path_faults list f m (tree form span parts))) (twice_faults m (tree form span parts)) (faults_among list f m (trees parts))
    ∙ checked_both old (path_faults list f m (tree form span parts)) (twice_faults m (tree form span parts) ++ faults_among list f m (trees parts))
    ∙ ap (λ u. checked old (faults_in list f m u)) (sym e)

pub one_module : (list : List Tree) (f : ℕ → Option Ty) (ms : List Tree) (i k : ℕ) (t : Tree) (old new r : Option Fault) → i < length ms → t ≡ get_or ms i t → k ≡ i → new ≡ checked old (module_faults list f k t)
    → checked old (faults_from list f i (drop i ms)) ≡ r → checked new (faults_from list f (i + 1) (drop (i + 1) ms)) ≡ r
one_module list f ms i k t old new r lt e n p q =
    let rest = drop (i + 1) ms in
    let next : i + 1 ≡ suc i = omega arith in
    ap (λ j. checked new (faults_from list f j rest)) next
    ∙ ap (λ o. checked o (faults_from list f (suc i) rest)) (p ∙ ap (λ j. checked old (module_faults list f j t)) n)
    ∙ checked_both old (module_faults list f i t) (faults_from list f (suc i) rest)
    ∙ ap (λ u. checked old (faults_from list f i (u ∷ rest))) e
    ∙ ap (λ l. checked old (faults_from list f i l)) (sym (drop_more ms i t lt))
    ∙ q
