-- The bodies of a hook, gathered by units.
use Rattle.std.proofs.Common.{ℕ, ◌≡◌, ◌≢◌, ◌≤◌, ◌<◌, Bool, true, false, zero, suc, refl, sym, ap, ◌∙◌, arith, List, [], ◌∷◌, ◌++◌, append_assoc, length, map, get_or, Global}
use Rattle.std.specs.Prelude.{◌==◌, ◌&&◌, if◌then◌else◌, replicate, slice_get, slice_set, unwrap_or}
use Rattle.std.specs.declared.vec.Vec.{Vec}
use Rattle.std.proofs.lemmas.Bool.{eqb-true, eq-eqb}
use Rattle.std.proofs.lemmas.List.{append-nil}
use Rattle.sp_words.specs.declared.words.HookName.{HookName}
use Rattle.sp_words.specs.declared.words.HookName.TheVariants as name_is
use Rattle.sp_typed_units.specs.declared.declarations.Hook.{Hook}
use Rattle.sp_typed_units.specs.declared.declarations.HookOf.{HookOf}
use Rattle.sp_typed_units.specs.declared.declarations.HookOf.TheVariants as hook_of
use Rattle.sp_meaning.specs.Hooks.{bodies_of, hook_bodies, is_hook, is_of_unit}
use Rattle.sp_lower_hooks.specs.declared.keys.BodyKey.{BodyKey}
use Rattle.sp_lower_hooks.specs.inside.Turns.{Turn, turn, turn_of, sorted, turn_numbers}
use Rattle.sp_lower_hooks.specs.inside.Rows.{turns_of, turns_in, noted, noted_hook, all_noted, row_numbers, list_of, lists, row_at, IsOther}
use Rattle.sp_lower_hooks.proofs.Bodies.{bodies_sorted, no_bodies}

-- what a row of a unit says
abbrev turns_at : List (List Turn) → ℕ → List Turn
turns_at rs u = unwrap_or (slice_get rs u) []

noted_long : (v : ℕ) (t : Turn) (rs : List (List Turn)) → length (noted v t rs) ≡ length rs
noted_long v t [] = refl
noted_long zero t (r ∷ rs) = refl
noted_long (suc v) t (r ∷ rs) = ap suc (noted_long v t rs)

noted_here : (u : ℕ) (t : Turn) (rs : List (List Turn)) → u < length rs → turns_at (noted u t rs) u ≡ turns_at rs u ++ t ∷ []
noted_here u t [] lt = absurd (let z : u < 0 = lt in omega (arith, z))
noted_here zero t (r ∷ rs) lt = refl
noted_here (suc u) t (r ∷ rs) lt = noted_here u t rs (let z : suc u < suc (length rs) = lt in omega (arith, z))

noted_there : (u v : ℕ) (t : Turn) (rs : List (List Turn)) → (u ≡ v → ⊥) → turns_at (noted v t rs) u ≡ turns_at rs u
noted_there u v t [] apart = refl
noted_there zero zero t (r ∷ rs) apart = absurd (apart refl)
noted_there (suc u) zero t (r ∷ rs) apart = refl
noted_there zero (suc v) t (r ∷ rs) apart = refl
noted_there (suc u) (suc v) t (r ∷ rs) apart = noted_there u v t rs (λ e. apart (ap suc e))

abbrev if_so : Bool → Turn → List Turn
if_so true t = t ∷ []
if_so false t = []

noted_if : (u v : ℕ) (t : Turn) (rs : List (List Turn)) → u < length rs → turns_at (noted v t rs) u ≡ turns_at rs u ++ if_so (u == v && true) t
noted_if u v t rs lt = by (u == v) refl
  where
    by : (b : Bool) → (u == v) ≡ b → turns_at (noted v t rs) u ≡ turns_at rs u ++ if_so (b && true) t
    by true e = ap (λ w. turns_at (noted w t rs) u) (sym (eqb-true u v e)) ∙ noted_here u t rs lt
    by false e = noted_there u v t rs (λ same. absurd (let z : true ≡ false = sym (eq-eqb u v same) ∙ e in cc)) ∙ sym (append-nil (turns_at rs u))

never_both : (b : Bool) → (b && false) ≡ false
never_both true = refl
never_both false = refl

hook_noted : (name : HookName) (of : HookOf) (t : Turn) (rs : List (List Turn)) (u : ℕ) → u < length rs → turns_at (noted_hook name of t rs) u ≡ turns_at rs u ++ if_so (is_of_unit u name of) t
hook_noted name (hook_of.Unit v other) t rs u lt = by (is_hook name other)
  where
    by : (b : Bool) → turns_at (if b then noted v t rs else rs) u ≡ turns_at rs u ++ if_so (u == v && b) t
    by true = noted_if u v t rs lt
    by false = sym (append-nil (turns_at rs u)) ∙ ap (λ b. turns_at rs u ++ if_so b t) (sym (never_both (u == v)))
hook_noted name _ t rs u lt = sym (append-nil (turns_at rs u))

hook_long : (name : HookName) (of : HookOf) (t : Turn) (rs : List (List Turn)) → length (noted_hook name of t rs) ≡ length rs
hook_long name (hook_of.Unit v other) t rs = by (is_hook name other)
  where
    by : (b : Bool) → length (if b then noted v t rs else rs) ≡ length rs
    by true = noted_long v t rs
    by false = refl
hook_long name _ t rs = refl

all_at : (name : HookName) (n : ℕ) (xs : List Hook) (rs : List (List Turn)) (u : ℕ) → u < length rs → turns_at (all_noted name n xs rs) u ≡ turns_at rs u ++ map turn (bodies_of (is_of_unit u name) n xs)
all_at name n [] rs u lt = sym (append-nil (turns_at rs u))
all_at name n (x ∷ xs) rs u lt =
    let more_are = noted_hook name x.of (turn (n, x)) rs in
    let inside : u < length more_are = omega (arith, lt, hook_long name x.of (turn (n, x)) rs) in
    all_at name (suc n) xs more_are u inside
    ∙ ap (λ l. l ++ map turn (bodies_of (is_of_unit u name) (suc n) xs)) (hook_noted name x.of (turn (n, x)) rs u lt)
    ∙ append_assoc (turns_at rs u) (if_so (is_of_unit u name x.of) (turn (n, x))) (map turn (bodies_of (is_of_unit u name) (suc n) xs))
    ∙ ap (λ l. turns_at rs u ++ l) (by (is_of_unit u name x.of) (bodies_of (is_of_unit u name) (suc n) xs))
  where
    by : (b : Bool) (ps : List (ℕ × Hook)) → if_so b (turn (n, x)) ++ map turn ps ≡ map turn (if b then (n, x) ∷ ps else ps)
    by true ps = refl
    by false ps = refl

-- no turns, of so many units
abbrev pub no_turns : ℕ → List (List Turn)
no_turns n = replicate n []

none_yet : (n u : ℕ) → turns_at (no_turns n) u ≡ []
none_yet zero u = refl
none_yet (suc n) zero = refl
none_yet (suc n) (suc u) = none_yet n u

none_long : (n : ℕ) → length (no_turns n) ≡ n
none_long zero = refl
none_long (suc n) = ap suc (none_long n)

one_none_more : (n : ℕ) → no_turns n ++ [] ∷ [] ≡ no_turns (suc n)
one_none_more zero = refl
one_none_more (suc n) = ap (λ (l : List (List Turn)). [] ∷ l) (one_none_more n)

turns_more : (vs : List (Vec BodyKey Global)) (v : Vec BodyKey Global) → turns_in (vs ++ v ∷ []) ≡ turns_in vs ++ turns_of v ∷ []
turns_more [] v = refl
turns_more (w ∷ vs) v = ap (λ l. turns_of w ∷ l) (turns_more vs v)

-- one more unit without bodies
pub none_pushed : (vs : List (Vec BodyKey Global)) (n : ℕ) (v : Vec BodyKey Global) → v.items ≡ [] → turns_in vs ≡ no_turns n → turns_in (vs ++ v ∷ []) ≡ no_turns (suc n)
none_pushed vs n v empty is =
    turns_more vs v
    ∙ ap (λ rs. rs ++ turns_of v ∷ []) is
    ∙ ap (λ ks. no_turns n ++ map turn_of ks ∷ []) empty
    ∙ one_none_more n

numbers_at : (vs : List (Vec BodyKey Global)) (u : ℕ) → row_at (map row_numbers vs) u ≡ turn_numbers (sorted (turns_at (turns_in vs) u))
numbers_at [] u = refl
numbers_at (v ∷ vs) zero = refl
numbers_at (v ∷ vs) (suc u) = numbers_at vs u

-- the rows of so many units
pub rows_are : (name : HookName) (units : ℕ) (xs : List Hook) (vs : List (Vec BodyKey Global)) (rows : List (Vec ℕ Global))
    → turns_in vs ≡ all_noted name 0 xs (no_turns units) → lists rows ≡ map row_numbers vs → (u : ℕ) → u < units → row_at (lists rows) u ≡ hook_bodies (is_of_unit u name) xs
rows_are name units xs vs rows noted_are in_order_are u lt =
    let long : length (no_turns units) ≡ units = none_long units in
    let told = all_at name 0 xs (no_turns units) u (omega (arith, lt, long)) in
    let here = told ∙ ap (λ l. l ++ map turn (bodies_of (is_of_unit u name) 0 xs)) (none_yet units u) in
    ap (λ rs. row_at rs u) in_order_are
    ∙ numbers_at vs u
    ∙ ap (λ rs. turn_numbers (sorted (turns_at rs u))) noted_are
    ∙ ap (λ ts. turn_numbers (sorted ts)) here
    ∙ bodies_sorted (is_of_unit u name) xs

-- a key at the end of the row of a unit
pub noted_by : (vs ws : List (Vec BodyKey Global)) (u : ℕ) (k : BodyKey) (v w d : Vec BodyKey Global) → u < length vs → v ≡ get_or vs u d → w.items ≡ v.items ++ k ∷ [] → ws ≡ slice_set vs u w
    → turns_in ws ≡ noted u (turn_of k) (turns_in vs)
noted_by vs ws u k v w d lt here longer set = ap turns_in set ∙ noted_set vs u lt here
  where
    pushed : (xs : List BodyKey) → map turn_of (xs ++ k ∷ []) ≡ map turn_of xs ++ turn_of k ∷ []
    pushed [] = refl
    pushed (x ∷ xs) = ap (λ l. turn_of x ∷ l) (pushed xs)

    noted_set : (vs : List (Vec BodyKey Global)) (u : ℕ) → u < length vs → v ≡ get_or vs u d → turns_in (slice_set vs u w) ≡ noted u (turn_of k) (turns_in vs)
    noted_set [] u lt here = absurd (let z : u < 0 = lt in omega (arith, z))
    noted_set (x ∷ xs) zero lt here = ap (λ l. l ∷ turns_in xs) (ap (map turn_of) longer ∙ pushed v.items ∙ ap (λ y. turns_of y ++ turn_of k ∷ []) here)
    noted_set (x ∷ xs) (suc u) lt here = ap (λ l. turns_of x ∷ l) (noted_set xs u (let z : suc u < suc (length xs) = lt in omega (arith, z)) here)

-- a unit of which there is no row
pub none_noted : (rs : List (List Turn)) (u : ℕ) (t : Turn) → length rs ≤ u → noted u t rs ≡ rs
none_noted [] u t h = refl
none_noted (r ∷ rs) zero t h = absurd (let z : suc (length rs) ≤ 0 = h in omega (arith, z))
none_noted (r ∷ rs) (suc u) t h = ap (λ l. r ∷ l) (none_noted rs u t (let z : suc (length rs) ≤ suc u = h in omega (arith, z)))

pub rows_long : (vs : List (Vec BodyKey Global)) → length (turns_in vs) ≡ length vs
rows_long [] = refl
rows_long (v ∷ vs) = ap suc (rows_long vs)

-- a row that is there, and one that isn't
pub row_there : (vs : List (Vec ℕ Global)) (u : ℕ) (v d : Vec ℕ Global) → u < length vs → v ≡ get_or vs u d → v.items ≡ row_at (lists vs) u
row_there [] u v d lt here = absurd (let z : u < 0 = lt in omega (arith, z))
row_there (x ∷ xs) zero v d lt here = ap list_of here
row_there (x ∷ xs) (suc u) v d lt here = row_there xs u v d (let z : suc u < suc (length xs) = lt in omega (arith, z)) here

pub no_row : (vs : List (Vec ℕ Global)) (u : ℕ) → length vs ≤ u → [] ≡ row_at (lists vs) u
no_row [] u h = refl
no_row (x ∷ xs) zero h = absurd (let z : suc (length xs) ≤ 0 = h in omega (arith, z))
no_row (x ∷ xs) (suc u) h = no_row xs u (let z : suc (length xs) ≤ suc u = h in omega (arith, z))

-- of a hook that not each unit has there are no bodies
never : (u : ℕ) (name : HookName) → ((x : HookName) → is_hook name x ≡ false) → (of : HookOf) → is_of_unit u name of ≡ false
never u name not_it (hook_of.Unit v x) = ap (λ b. u == v && b) (not_it x) ∙ never_both (u == v)
never u name not_it _ = refl

pub other_bodies : (u : ℕ) (name : HookName) (xs : List Hook) → IsOther name → [] ≡ hook_bodies (is_of_unit u name) xs
other_bodies u name_is.Init xs h = absurd h
other_bodies u name_is.Done xs h = absurd h
other_bodies u name_is.Error xs h = absurd h
other_bodies u name_is.Finally xs h = absurd h
other_bodies u name_is.Synced xs h = no_bodies (is_of_unit u name_is.Synced) (never u name_is.Synced (λ x. refl)) xs
other_bodies u name_is.Confirmed xs h = no_bodies (is_of_unit u name_is.Confirmed) (never u name_is.Confirmed (λ x. refl)) xs
other_bodies u name_is.Rejected xs h = no_bodies (is_of_unit u name_is.Rejected) (never u name_is.Rejected (λ x. refl)) xs
other_bodies u name_is.Gap xs h = no_bodies (is_of_unit u name_is.Gap) (never u name_is.Gap (λ x. refl)) xs
other_bodies u name_is.Skipped xs h = no_bodies (is_of_unit u name_is.Skipped) (never u name_is.Skipped (λ x. refl)) xs
other_bodies u name_is.Overlap xs h = no_bodies (is_of_unit u name_is.Overlap) (never u name_is.Overlap (λ x. refl)) xs
other_bodies u name_is.Undelivered xs h = no_bodies (is_of_unit u name_is.Undelivered) (never u name_is.Undelivered (λ x. refl)) xs

-- a name that is none of four
pub is_other : (name : HookName) → name ≢ name_is.Init → name ≢ name_is.Done → name ≢ name_is.Error → name ≢ name_is.Finally → IsOther name
is_other name_is.Init a b c d = absurd (a refl)
is_other name_is.Done a b c d = absurd (b refl)
is_other name_is.Error a b c d = absurd (c refl)
is_other name_is.Finally a b c d = absurd (d refl)
is_other _ a b c d = tt
