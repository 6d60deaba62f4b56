-- The walk over the declarations on which one hangs.
use Rattle.std.proofs.Common.{ℕ, ◌≡◌, ◌≤◌, ◌<◌, ◌+◌, zero, suc, refl, sym, ap, subst, ◌∙◌, arith, List, [], ◌∷◌, length, take, Option, Some, None, slice_get, get_or, is_some, true, false, Vec, Global}
use Rattle.std.proofs.lemmas.List.{take_all}
use Rattle.sp_ast.specs.Trees.{Tree}
use Rattle.sp_types.specs.Types.{Ty}
use Rattle.sp_solver.specs.declared.attempt.Attempt.TheVariants.{Done, Waits}
use Rattle.sp_names.specs.declared.rows.Declaration.{Declaration}
use Rattle.sp_names.specs.Declarations.{rows, declaration_at}
use Rattle.sp_names.specs.Aliases.{first_open, open_or, asks, declaration_type, when_open, try_one, tries, ready, IsAsked}
use Rattle.sp_names.specs.AliasLaws.{here as some_here, none_some, some_is, open_none, none_open}
use Rattle.sp_names.specs.Tables.{Each}
use Rattle.sp_names.proofs.Lists.{here}

open_step : (f : ℕ → Option Ty) (xs : List ℕ) (m j : ℕ) (a : Ty) → first_open f (take m xs) ≡ None → slice_get xs m ≡ Some j → f j ≡ Some a → first_open f (take (suc m) xs) ≡ None
open_step f [] m j a e g h = absurd (none_some None j refl g)
open_step f (x ∷ xs) zero j a e g h = none_open f x [] a (ap f (some_is x j g) ∙ h) refl
open_step f (x ∷ xs) (suc m) j a e g h = (let o = open_none f x (take m xs) e in none_open f x (take (suc m) xs) o.0.0 o.0.1 (open_step f xs m j a o.1 g h))

open_found : (f : ℕ → Option Ty) (xs : List ℕ) (m j : ℕ) → first_open f (take m xs) ≡ None → slice_get xs m ≡ Some j → f j ≡ None → first_open f xs ≡ Some j
open_found f [] m j e g h = absurd (none_some None j refl g)
open_found f (x ∷ xs) zero j e g h = ap (λ o. open_or o x (first_open f xs)) (ap f (some_is x j g) ∙ h) ∙ g
open_found f (x ∷ xs) (suc m) j e g h = (let o = open_none f x (take m xs) e in ap (λ o. open_or o x (first_open f xs)) o.0.1 ∙ open_found f xs m j o.1 g h)

some_of : (o : Option Ty) → is_some o ≡ true → (a : Ty) × (o ≡ Some a)
some_of None e = absurd (let z : false ≡ true = e in let b : ⊥ = (cc) in b)
some_of (Some a) e = (a, refl)

none_of : (o : Option Ty) → is_some o ≡ false → o ≡ None
none_of None e = refl
none_of (Some a) e = absurd (let z : true ≡ false = e in let b : ⊥ = (cc) in b)

pub open_step_at : (f : ℕ → Option Ty) (xs : List ℕ) (m : ℕ) → first_open f (take m xs) ≡ None → m < length xs → is_some (f (get_or xs m 0)) ≡ true → first_open f (take (m + 1) xs) ≡ None
open_step_at f xs m e lt h =
    let a = some_of (f (get_or xs m 0)) h in
    let s : suc m ≡ m + 1 = omega arith in
    subst (λ k. first_open f (take k xs) ≡ None) s (open_step f xs m (get_or xs m 0) a.0 e (here xs m 0 lt) a.1)

pub open_found_at : (f : ℕ → Option Ty) (xs : List ℕ) (m : ℕ) → first_open f (take m xs) ≡ None → m < length xs → is_some (f (get_or xs m 0)) ≡ false → Some (get_or xs m 0) ≡ first_open f xs
open_found_at f xs m e lt h = sym (open_found f xs m (get_or xs m 0) e (here xs m 0 lt) (none_of (f (get_or xs m 0)) h))

pub open_all_at : (f : ℕ → Option Ty) (xs : List ℕ) (m : ℕ) → first_open f (take m xs) ≡ None → length xs ≤ m → None ≡ first_open f xs
open_all_at f xs m e le = sym (ap (first_open f) (sym (take_all m xs le)) ∙ e)

-- the list of one declaration is what it asks
pub asked : (list : List Tree) (vs : List (Vec ℕ Global)) (i : ℕ) (v : Vec ℕ Global) (xs : List ℕ) → i < length (rows list) → length vs ≡ length (rows list) → Each (IsAsked list) vs → v ≡ get_or vs i v → xs ≡ v.items → xs ≡ asks list (declaration_at list i)
asked list vs i v xs lt all each is x =
    x ∙ each i v (here vs i v (omega (arith, lt, all)) ∙ ap Some (sym is))

pub ready_from : (list : List Tree) (f : ℕ → Option Ty) (i c : ℕ) (xs : List ℕ) → xs ≡ asks list (declaration_at list i) → ready list f i c → first_open f (take c xs) ≡ None
ready_from list f i c xs e r = ap (λ l. first_open f (take c l)) e ∙ r

pub ready_to : (list : List Tree) (f : ℕ → Option Ty) (i c : ℕ) (xs : List ℕ) → xs ≡ asks list (declaration_at list i) → first_open f (take c xs) ≡ None → ready list f i c
ready_to list f i c xs e r = ap (λ l. first_open f (take c l)) (sym e) ∙ r

some_try : (list : List Tree) (f : ℕ → Option Ty) (i : ℕ) (d : Declaration) → declaration_at list i ≡ Some d → tries list f i ≡ when_open (declaration_type list f i (Some d)) (first_open f (asks list (Some d)))
some_try list f i d e = ap (try_one list f i) e

pub try_is : (list : List Tree) (f : ℕ → Option Ty) (i : ℕ) → i < length (rows list) → tries list f i ≡ when_open (declaration_type list f i (declaration_at list i)) (first_open f (asks list (declaration_at list i)))
try_is list f i lt = by_option (declaration_at list i) refl
  where
    by_option : (o : Option Declaration) → declaration_at list i ≡ o → tries list f i ≡ when_open (declaration_type list f i (declaration_at list i)) (first_open f (asks list (declaration_at list i)))
    by_option None e = absurd (let h = some_here (rows list) i lt in none_some (declaration_at list i) h.0 e h.1)
    by_option (Some d) e = some_try list f i d e ∙ ap (λ o. when_open (declaration_type list f i o) (first_open f (asks list o))) (sym e)

pub waits_is_tried : (list : List Tree) (f : ℕ → Option Ty) (i j : ℕ) (xs : List ℕ) → i < length (rows list) → xs ≡ asks list (declaration_at list i) → Some j ≡ first_open f xs → Waits j ≡ tries list f i
waits_is_tried list f i j xs lt e o = ap (when_open (declaration_type list f i (declaration_at list i))) (o ∙ ap (first_open f) e) ∙ sym (try_is list f i lt)

pub done_is_tried : (list : List Tree) (f : ℕ → Option Ty) (i : ℕ) (xs : List ℕ) (t : Ty) → i < length (rows list) → xs ≡ asks list (declaration_at list i) → None ≡ first_open f xs → t ≡ declaration_type list f i (declaration_at list i) → Done t ≡ tries list f i
done_is_tried list f i xs t lt e o d = ap Done d ∙ ap (when_open (declaration_type list f i (declaration_at list i))) (o ∙ ap (first_open f) e) ∙ sym (try_is list f i lt)
