-- What is loaded is one list, or one refusal.
use Rattle.std.proofs.Common.{◌≡◌, ◌⊎◌, ℕ, List, Some, None, Result, Ok, Err, sym, ap, ◌∙◌, refl, subst, inl, inr, ⊎_elim}
use Rattle.sp_base.specs.declared.places.Diag.{Diag}
use Rattle.sp_ast.specs.Trees.{Tree}
use Rattle.sp_command.specs.declared.refusal.Refusal.{Refusal}
use Rattle.sp_front.specs.declared.entries.ModuleFile.{ModuleFile}
use Rattle.sp_front.specs.Lists.{Files, IsList}
use Rattle.sp_rules.specs.Least.{IsLeast}
use Rattle.sp_type_answers.specs.NameRules.{IsTyped}
use Rattle.sp_typed_units.specs.declared.declarations.Typed.{Typed}
use Rattle.sp_type_answers.specs.Rules.{Breaks}
use Rattle.sp_load.specs.Loads.{refusal_of, sources_of, trees_of, IsVerdict, IsLoaded, IsLoadRefused, IsBroken, IsLeastRefusal}
use Rattle.sp_load.specs.declared.sources.Source.{Source}
use Rattle.sp_load.proofs.Leasts.{one_least_refusal}
use Rattle.sp_front.proofs.Single.{Told, one_list, one_list_refusal, list_or_refusal}

pub one_load : (files : Told) (names dirs : List (List ℕ)) (first second : List ModuleFile) → IsLoaded (Some files) names dirs first → IsLoaded (Some files) names dirs second → first ≡ second
one_load files names dirs first second x y = one_list files names dirs first second x.0 y.0

one_broken : (files : Told) (names dirs : List (List ℕ)) (first second : Refusal) → IsBroken (Some files) names dirs first → IsBroken (Some files) names dirs second → first ≡ second
one_broken files names dirs first second (fs, x, a) (gs, y, b) =
    let same : fs ≡ gs = one_list files names dirs fs gs x y in
    one_least_refusal (sources_of gs) (trees_of gs) first second (subst (λ l. IsLeastRefusal (sources_of l) (trees_of l) first) same a) b

pub one_load_refusal : (files : Told) (names dirs : List (List ℕ)) (first second : Refusal) → IsLoadRefused (Some files) names dirs first → IsLoadRefused (Some files) names dirs second → first ≡ second
one_load_refusal files names dirs first second x y =
    ⊎_elim
    (λ a. ⊎_elim (λ b. one_list_refusal files names dirs first second a b) (λ b. absurd (list_or_refusal files names dirs b.0 first b.1 a)) y)
    (λ a. ⊎_elim (λ b. absurd (list_or_refusal files names dirs a.0 second a.1 b)) (λ b. one_broken files names dirs first second a b) y)
    x

pub loaded_or_refused : (files : Told) (names dirs : List (List ℕ)) (list : List ModuleFile) (refusal : Refusal) → IsLoaded (Some files) names dirs list → IsLoadRefused (Some files) names dirs refusal → ⊥
loaded_or_refused files names dirs list refusal (x, whole) y =
    ⊎_elim
    (λ a. list_or_refusal files names dirs list refusal x a)
    (λ a. let same : list ≡ a.0 = one_list files names dirs list a.0 x a.1 in
    let unbroken : IsLeast (Breaks (trees_of a.0)) None = subst (λ l. IsLeast (Breaks (trees_of l)) None) same whole in
    let least = a.2 in
    unbroken least.0 least.1.0)
    y

-- what is loaded, by the verdict on the trees of a list
abbrev pub IsListed : Files → List (List ℕ) → List (List ℕ) → List Source → List Tree → Type 0
IsListed files names dirs ss ts = (fs : List ModuleFile) × IsList files names dirs fs × (ss ≡ sources_of fs) × (ts ≡ trees_of fs)

pub verdict_of : (ts us : List Tree) (r s : Result Typed Diag) → ts ≡ us → r ≡ s → IsVerdict ts r → IsVerdict us s
verdict_of ts us r s a b v = subst (λ x. IsVerdict us x) b (subst (λ l. IsVerdict l r) a v)

-- a list in which no rule is broken
pub loaded_list : (files : Files) (names dirs : List (List ℕ)) (ss : List Source) (ts : List Tree) (t : Typed) → IsListed files names dirs ss ts → IsVerdict ts (Ok t)
    → (gs : List ModuleFile) × IsLoaded files names dirs gs × (ss ≡ sources_of gs) × (ts ≡ trees_of gs)
loaded_list files names dirs ss ts t (fs, is, a, b) (typed, whole) = (fs, (is, subst (λ l. IsLeast (Breaks l) None) b whole), a, b)

pub loaded_typed : (ts : List Tree) (t : Typed) → IsVerdict ts (Ok t) → IsTyped ts t
loaded_typed ts t v = v.0

-- the refusal of the least rule that is broken
pub refused_rule : (files : Files) (names dirs : List (List ℕ)) (ss : List Source) (ts : List Tree) (d : Diag) (r : Refusal) → IsListed files names dirs ss ts → IsVerdict ts (Err d) → r ≡ refusal_of ss d → IsLoadRefused files names dirs r
refused_rule files names dirs ss ts d r (fs, is, a, b) (x, least, told) e =
    let now : IsLeast (Breaks (trees_of fs)) (Some x) = subst (λ l. IsLeast (Breaks l) (Some x)) b least in
    inr (fs, is, (x, now, e ∙ ap (λ l. refusal_of l d) a ∙ ap (λ y. refusal_of (sources_of fs) y) told))
