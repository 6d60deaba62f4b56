-- One more name in a table.
use Rattle.std.proofs.Common.{ℕ, ◌≡◌, Bool, true, false, cond, List, ◌∷◌, Option, Some, None, is_some, suc, ◌+◌, refl, sym, ap, ◌∙◌, arith}
use Rattle.std.specs.Prelude.{if◌then◌else◌}
use Rattle.std.specs.Str.{bytes_eq}
use Rattle.sp_ast.specs.Trees.{Tree}
use Rattle.sp_names.specs.Names.{is_name, first_named}
use Rattle.sp_names.specs.Tables.{earlier, IsNoted, LeadsTo}

meets : (old mine : Option ℕ) (same : Bool) (i : ℕ) → (same ≡ true → old ≡ mine) → cond (is_some mine) old (cond same (Some i) old) ≡ earlier old (if same then Some i else None)
meets None None true i h = refl
meets None None false i h = refl
meets None (Some n) true i h = (let z : None ≡ Some n = h refl in cc)
meets None (Some n) false i h = refl
meets (Some n) None true i h = (let z : Some n ≡ None = h refl in cc)
meets (Some n) None false i h = refl
meets (Some n) (Some k) same i h = refl

pub noted : (n : List ℕ) (i : ℕ) (old new : List ℕ → Option ℕ) → ((x y : List ℕ) → bytes_eq x y ≡ true → x ≡ y)
    → ((x : List ℕ) → new x ≡ cond (is_some (old n)) (old x) (cond (bytes_eq x n) (Some i) (old x))) → IsNoted old new (Some n) i
noted n i old new decides step = λ x. step x ∙ meets (old x) (old n) (bytes_eq x n) i (λ e. ap old (decides x n e))

pub not_noted : (i : ℕ) (old : List ℕ → Option ℕ) → IsNoted old old None i
not_noted i old = λ x. kept (old x)
  where
    kept : (o : Option ℕ) → o ≡ earlier o None
    kept None = refl
    kept (Some n) = refl

one_step : (old new : Option ℕ) (same : Bool) (k : ℕ) (rest : Option ℕ) → new ≡ earlier old (if same then Some k else None)
    → earlier new rest ≡ earlier old (if same then Some k else rest)
one_step None new true k rest e = ap (λ o. earlier o rest) e
one_step None new false k rest e = ap (λ o. earlier o rest) e
one_step (Some n) new true k rest e = ap (λ o. earlier o rest) e
one_step (Some n) new false k rest e = ap (λ o. earlier o rest) e

pub one_more : (gives : Tree → Option (List ℕ)) (first : ℕ) (all : List Tree) (k k' : ℕ) (t : Tree) (ts left : List Tree) (name : Option (List ℕ)) (old new : List ℕ → Option ℕ)
    → left ≡ t ∷ ts → name ≡ gives t → k' ≡ k + 1 → IsNoted old new name k → LeadsTo gives first all k left old → LeadsTo gives first all k' ts new
one_more gives first all k k' t ts left name old new e g n noted leads = λ x. (
    let next : k' ≡ suc k = omega (arith, n) in
    ap (λ j. earlier (new x) (first_named gives x j ts)) next
    ∙ one_step (old x) (new x) (is_name x (gives t)) k (first_named gives x (suc k) ts) (noted x ∙ ap (λ o. earlier (old x) (if is_name x o then Some k else None)) g)
    ∙ ap (λ l. earlier (old x) (first_named gives x k l)) (sym e)
    ∙ leads x)
