-- Questions that are open, by their places.
use Rattle.std.proofs.Common.{ℕ, ◌≡◌, ◌+◌, ◌≤◌, ◌<◌, Bool, true, false, refl, sym, ap, ◌∙◌, List, [], ◌∷◌, ◌++◌, length, length-append, zero, suc, Option, Some, None, slice_get, get_or, arith}
use Rattle.std.specs.Prelude.{if◌then◌else◌, nat_lt}
use Rattle.std.proofs.lemmas.Bool.Decides.{nat_tests}
use Rattle.std.proofs.lemmas.Option.{slice_get_within, get_or_from_slice_get, slice_get-get_or}
use Rattle.std.proofs.Common.{inl, inr}
use Rattle.std.specs.Prelude.{◌⊎◌, map}
use Rattle.std.proofs.lemmas.List.{append_assoc}
use Rattle.sp_types.specs.Types.{word}
use Rattle.sp_types.specs.declared.words.Word.TheVariants as word_is
use Rattle.sp_typed.specs.declared.words.Standing.TheVariants as standing_is
use Rattle.sp_type_context.specs.Contexts.{Around}
use Rattle.sp_type_operands.specs.Operands.{unknown}
use Rattle.sp_type_fields.specs.Values.{Values}
use Rattle.sp_type_scopes.specs.Decorators.{with_self}
use Rattle.sp_solver.specs.declared.attempt.Attempt.{Attempt}
use Rattle.sp_solver.specs.declared.attempt.Attempt.TheVariants.{Done}
use Rattle.sp_type_members.specs.Tries.{try_in, try_unit}
use Rattle.sp_type_modules.specs.declared.sources.Source.{Source}
use Rattle.sp_type_modules.specs.declared.sources.Question.{Question}
use Rattle.sp_ast.specs.Trees.{Tree}
use Rattle.sp_types.specs.Types.{Ty}
use Rattle.sp_typed.specs.Exprs.{Expr, exprs}
use Rattle.sp_typed.specs.inside.ExprCodes.{expr_size, exprs_size}
use Rattle.sp_type_modules.specs.Members.{first_member}
use Rattle.sp_type_modules.specs.Sources.{asked, questions, questions_of, questions_before, units, firsts_before}
use Rattle.sp_type_members.specs.inside.Aligned.{begins_at, past_units}
use Rattle.sp_solver.specs.Told.{told}
use Rattle.sp_type_members.specs.Opens.{unanswered, open_at, with_members}

at_is : (known : List (Option Ty)) (k : ℕ) (o : Option Ty) → slice_get known k ≡ Some o → open_at (length known) (told known) k ≡ unanswered o k
at_is known k o e =
    let lt = slice_get_within known k o e in
    let b : nat_lt k (length known) ≡ true = grind (arith, nat_tests) in
    ap (λ b. if b then unanswered (told known k) k else None) b ∙ ap (λ a. unanswered a k) (get_or_from_slice_get known k o None e)

pub open_here : (known : List (Option Ty)) (k : ℕ) → slice_get known k ≡ Some None → Some k ≡ open_at (length known) (told known) k
open_here known k e = sym (at_is known k None e)

pub closed_here : (known : List (Option Ty)) (k : ℕ) (t : Ty) → slice_get known k ≡ Some (Some t) → None ≡ open_at (length known) (told known) k
closed_here known k t e = sym (at_is known k (Some t) e)

pub past : (count : ℕ) (f : ℕ → Option Ty) (k : ℕ) → count ≤ k → open_at count f k ≡ None
past count f k le = (let b : nat_lt k count ≡ false = grind (arith, nat_tests) in ap (λ b. if b then unanswered (f k) k else None) b)

pub open_past : (known : List (Option Ty)) (k : ℕ) → slice_get known k ≡ None → None ≡ open_at (length known) (told known) k
open_past known k e = by (nat_lt k (length known)) refl
  where
    by : (b : Bool) → nat_lt k (length known) ≡ b → None ≡ open_at (length known) (told known) k
    by false b = ap (λ b. if b then unanswered (told known k) k else None) (sym b)
    by true b = (let lt : k < length known = grind (arith, nat_tests) in let some = slice_get-get_or known k None lt in (let z : None ≡ Some (get_or known k None) = sym e ∙ some in cc))

-- where the members of a unit begin
last_or : (xs : List ℕ) (x y n : ℕ) → slice_get (xs ++ x ∷ []) n ≡ Some y → (slice_get xs n ≡ Some y) ⊎ ((n ≡ length xs) × (y ≡ x))
last_or [] x y zero e = inr (refl, (let s : Some x ≡ Some y = e in cc))
last_or [] x y (suc n) e = absurd (let z : ⊥ = (let s : None ≡ Some y = e in cc) in z)
last_or (z ∷ xs) x y zero e = inl e
last_or (z ∷ xs) x y (suc n) e = by (last_or xs x y n e)
  where
    by : (slice_get xs n ≡ Some y) ⊎ ((n ≡ length xs) × (y ≡ x)) → (slice_get xs n ≡ Some y) ⊎ ((suc n ≡ suc (length xs)) × (y ≡ x))
    by (inl i) = inl i
    by (inr p) = inr (ap suc p.0, p.1)

length_begins : (list : List Tree) (c : ℕ) → length (firsts_before list c) ≡ c
length_begins list zero = refl
length_begins list (suc c) =
    let a = length-append (firsts_before list c) (first_member list c ∷ []) in
    let h = length_begins list c in
    let z : length (firsts_before list c ++ first_member list c ∷ []) ≡ suc c = omega (arith, a, h) in
    z

begins_is : (list : List Tree) (c n y : ℕ) → slice_get (firsts_before list c) n ≡ Some y → y ≡ first_member list n
begins_is list zero n y e = absurd (let z : ⊥ = (let s : None ≡ Some y = e in cc) in z)
begins_is list (suc c) n y e = by (λ i. begins_is list c n y i) (last_or (firsts_before list c) (first_member list c) y n e)
  where
    by : (slice_get (firsts_before list c) n ≡ Some y → y ≡ first_member list n) → (slice_get (firsts_before list c) n ≡ Some y) ⊎ ((n ≡ length (firsts_before list c)) × (y ≡ first_member list c)) → y ≡ first_member list n
    by h (inl i) = h i
    by h (inr p) = p.1 ∙ ap (first_member list) (sym (p.0 ∙ length_begins list c))

pub unit_open : (list : List Tree) (known : List (Option Ty)) (n k y : ℕ) (o : Option ℕ) → length known ≡ length (questions list) → Some y ≡ slice_get (firsts_before list (units list)) n → o ≡ open_at (length known) (told known) (y + k)
    → o ≡ open_at (length (questions list)) (told known) (first_member list n + k)
unit_open list known n k y o long e is =
    is ∙ ap (λ c. open_at c (told known) (y + k)) long ∙ ap (λ f. open_at (length (questions list)) (told known) (f + k)) (begins_is list (units list) n y (sym e))

pub no_unit_open : (list : List Tree) (f : ℕ → Option Ty) (n k : ℕ) → None ≡ slice_get (firsts_before list (units list)) n → None ≡ open_at (length (questions list)) f (first_member list n + k)
no_unit_open list f n k e = by (nat_lt n (units list)) refl
  where
    by : (b : Bool) → nat_lt n (units list) ≡ b → None ≡ open_at (length (questions list)) f (first_member list n + k)
    by false b =
        let le : units list ≤ n = grind (arith, nat_tests) in
        let p = past_units list n le in
        sym (past (length (questions list)) f (first_member list n + k) (omega (arith, p)))
    by true b =
        let lt : n < units list = grind (arith, nat_tests) in
        let l = length_begins list (units list) in
        let some = slice_get-get_or (firsts_before list (units list)) n 0 (omega (arith, lt, l)) in
        (let z : None ≡ Some (get_or (firsts_before list (units list)) n 0) = e ∙ some in cc)

-- one question more
asked_more : (n : ℕ) (ys : List Source) (s : Source) → asked n (ys ++ s ∷ []) ≡ asked n ys ++ (record { unit = n; source = s }) ∷ []
asked_more n [] s = refl
asked_more n (y ∷ ys) s = ap (λ l. (record { unit = n; source = y }) ∷ l) (asked_more n ys s)

pub asked_step : (n : ℕ) (base old new : List Question) (ys : List Source) (s : Source) → old ≡ base ++ asked n ys → new ≡ old ++ (record { unit = n; source = s }) ∷ [] → new ≡ base ++ asked n (ys ++ s ∷ [])
asked_step n base old new ys s e is =
    is ∙ ap (λ l. l ++ (record { unit = n; source = s }) ∷ []) e ∙ append_assoc base (asked n ys) ((record { unit = n; source = s }) ∷ []) ∙ ap (λ l. base ++ l) (sym (asked_more n ys s))

-- a unit that has a context
pub unit_there : {C : Type 0} (around : C → Around) (contexts : List C) (c : C) (n : ℕ) → Some c ≡ slice_get contexts n → slice_get (map around contexts) n ≡ Some (around c)
unit_there around [] c n e = absurd (let z : ⊥ = (let s : Some c ≡ None = e in cc) in z)
unit_there around (x ∷ xs) c zero e = ap Some (let s : Some c ≡ Some x = e in let i : x ≡ c = cc in ap around i)
unit_there around (x ∷ xs) c (suc n) e = unit_there around xs c n e

pub unit_absent : {C : Type 0} (around : C → Around) (contexts : List C) (n : ℕ) → None ≡ slice_get contexts n → slice_get (map around contexts) n ≡ None
unit_absent around [] n e = refl
unit_absent around (x ∷ xs) zero e = absurd (let z : ⊥ = (let s : None ≡ Some x = e in cc) in z)
unit_absent around (x ∷ xs) (suc n) e = unit_absent around xs n e

-- the next unit begins behind those before it
pub begins_step : (list : List Tree) (n b length_now : ℕ) (old new : List ℕ) (all : List Question) → old ≡ firsts_before list n → all ≡ questions_before list n → length_now ≡ length all → b ≡ length_now → new ≡ old ++ b ∷ []
    → new ≡ firsts_before list (n + 1)
begins_step list n b length_now old new all e is long at more =
    let first : b ≡ first_member list n = at ∙ long ∙ ap length is ∙ begins_at list n in
    let up : suc n ≡ n + 1 = omega arith in
    more ∙ ap (λ l. l ++ b ∷ []) e ∙ ap (λ x. firsts_before list n ++ x ∷ []) first ∙ ap (firsts_before list) up

pub questions_step : (list : List Tree) (n m : ℕ) (old new : List Question) → old ≡ questions_before list n → m ≡ n → new ≡ old ++ questions_of list m → new ≡ questions_before list (n + 1)
questions_step list n m old new e i is =
    let up : suc n ≡ n + 1 = omega arith in
    is ∙ ap (λ l. l ++ questions_of list m) e ∙ ap (λ k. questions_before list n ++ questions_of list k) i ∙ ap (questions_before list) up

-- what stands in a row is smaller than the row
pub expr_falls : (es : List Expr) (i : ℕ) (e : Expr) → i < length es → e ≡ get_or es i e → expr_size e + 1 ≤ exprs_size (exprs es)
expr_falls [] i e lt q = absurd (let z : ⊥ = omega (arith, lt) in z)
expr_falls (x ∷ es) zero e lt q = (let s : expr_size e ≡ expr_size x = ap expr_size q in omega (arith, s))
expr_falls (x ∷ es) (suc i) e lt q = (let h = expr_falls es i e (omega (arith, lt)) q in omega (arith, h))

pub try_there : {C : Type 0} (around : C → Around) (contexts : List C) (c : C) (list told_list : List Tree) (count : ℕ) (f : ℕ → Option Ty) (v : Values) (q : Question) (t : Attempt Ty)
    → Some c ≡ slice_get contexts q.unit → told_list ≡ list
    → t ≡ try_in list count f (with_self (word (word_is.Unit q.unit)) standing_is.Meant (with_members told_list f (around c))) v q.source
    → t ≡ try_unit list count f v q (slice_get (map around contexts) q.unit)
try_there around contexts c list told_list count f v q t at same is =
    is
    ∙ ap (λ l. try_in list count f (with_self (word (word_is.Unit q.unit)) standing_is.Meant (with_members l f (around c))) v q.source) same
    ∙ ap (try_unit list count f v q) (sym (unit_there around contexts c q.unit at))

pub try_absent : {C : Type 0} (around : C → Around) (contexts : List C) (list : List Tree) (count : ℕ) (f : ℕ → Option Ty) (v : Values) (q : Question) (t : Ty)
    → None ≡ slice_get contexts q.unit → t ≡ unknown → Done t ≡ try_unit list count f v q (slice_get (map around contexts) q.unit)
try_absent around contexts list count f v q t at is =
    ap Done is ∙ ap (try_unit list count f v q) (sym (unit_absent around contexts q.unit at))
