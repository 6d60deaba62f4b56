-- What is left of a row, and what is made of it.
use Rattle.std.proofs.Common.{ℕ, zero, suc, ◌+◌, ◌≡◌, ◌≤◌, ◌<◌, List, [], ◌∷◌, ◌++◌, append_assoc, length, drop, get_or, refl, sym, ap, subst, ◌∙◌, arith}
use Rattle.std.proofs.lemmas.List.{at_drop_more}
use Rattle.sp_value.specs.Val.{Val, set, map}
use Rattle.sp_value.specs.Changes.{IsSet, IsMap, with_member, with_entry}
use Rattle.sp_typed.specs.Exprs.{Expr, exprs}
use Rattle.sp_typed.specs.inside.ExprCodes.{expr_size, exprs_size}
use Rattle.sp_type_constants.specs.declared.lack.Lack.{Lack}
use Rattle.sp_type_constants.specs.declared.lack.Lack.TheVariants as lack_is
use Rattle.sp_type_constants.specs.declared.outcome.Outcome.{Outcome}
use Rattle.sp_type_constants.specs.Known.{Known}
use Rattle.sp_type_constants.specs.Outcomes.{lack_of, worse, worst, kept, values}
use Rattle.sp_type_constants.specs.Values.{value_of, all_values}
use Rattle.sp_type_constants.specs.Operations.{with_entries}

pub worse_assoc : (a b c : Lack) → worse (worse a b) c ≡ worse a (worse b c)
worse_assoc lack_is.Nothing b c = refl
worse_assoc lack_is.Known lack_is.Nothing c = refl
worse_assoc lack_is.Known lack_is.Known lack_is.Nothing = refl
worse_assoc lack_is.Known lack_is.Known lack_is.Known = refl
worse_assoc lack_is.Known lack_is.Known lack_is.Value = refl
worse_assoc lack_is.Known lack_is.Known lack_is.Constant = refl
worse_assoc lack_is.Known lack_is.Value lack_is.Nothing = refl
worse_assoc lack_is.Known lack_is.Value lack_is.Known = refl
worse_assoc lack_is.Known lack_is.Value lack_is.Value = refl
worse_assoc lack_is.Known lack_is.Value lack_is.Constant = refl
worse_assoc lack_is.Known lack_is.Constant c = refl
worse_assoc lack_is.Value lack_is.Nothing lack_is.Nothing = refl
worse_assoc lack_is.Value lack_is.Nothing lack_is.Known = refl
worse_assoc lack_is.Value lack_is.Nothing lack_is.Value = refl
worse_assoc lack_is.Value lack_is.Nothing lack_is.Constant = refl
worse_assoc lack_is.Value lack_is.Known lack_is.Nothing = refl
worse_assoc lack_is.Value lack_is.Known lack_is.Known = refl
worse_assoc lack_is.Value lack_is.Known lack_is.Value = refl
worse_assoc lack_is.Value lack_is.Known lack_is.Constant = refl
worse_assoc lack_is.Value lack_is.Value lack_is.Nothing = refl
worse_assoc lack_is.Value lack_is.Value lack_is.Known = refl
worse_assoc lack_is.Value lack_is.Value lack_is.Value = refl
worse_assoc lack_is.Value lack_is.Value lack_is.Constant = refl
worse_assoc lack_is.Value lack_is.Constant c = refl
worse_assoc lack_is.Constant b c = refl

-- one more part, before those that are left
pub worse_step : (a b c d e : Lack) → worse a (worse b c) ≡ d → e ≡ worse a b → worse e c ≡ d
worse_step a b c d e h is = ap (λ x. worse x c) is ∙ worse_assoc a b c ∙ h

pub kept_step : (xs ys zs all new : List Val) → xs ++ (ys ++ zs) ≡ all → new ≡ xs ++ ys → new ++ zs ≡ all
kept_step xs ys zs all new h is = ap (λ l. l ++ zs) is ∙ append_assoc xs ys zs ∙ h

-- one more part of a row of expressions
pub next_lack : (k : Known) (es : List Expr) (i : ℕ) (e : Expr) (a b l : Lack) (f o : Outcome) (q : Lack) → i < length es → e ≡ get_or es i e → f ≡ value_of k e → o ≡ f → l ≡ lack_of o → b ≡ worse a l
    → worse a (worst (all_values k (exprs (drop i es)))) ≡ q → worse b (worst (all_values k (exprs (drop (i + 1) es)))) ≡ q
next_lack k es i e a b l f o q lt is found out lack new before =
    let rest = worst (all_values k (exprs (drop (i + 1) es))) in
    let row : worst (all_values k (exprs (drop i es))) ≡ worse (lack_of (value_of k e)) rest =
    at_drop_more (λ xs. worst (all_values k (exprs xs))) es i e lt ∙ ap (λ x. worse (lack_of (value_of k x)) rest) (sym is) in
    worse_step a (lack_of (value_of k e)) rest q b (ap (worse a) (sym row) ∙ before) (new ∙ ap (worse a) (lack ∙ ap lack_of (out ∙ found)))

pub next_values : (k : Known) (es : List Expr) (i : ℕ) (e : Expr) (xs new : List Val) (f o : Outcome) (q : List Val) → i < length es → e ≡ get_or es i e → f ≡ value_of k e → o ≡ f → new ≡ xs ++ kept o
    → xs ++ values (all_values k (exprs (drop i es))) ≡ q → new ++ values (all_values k (exprs (drop (i + 1) es))) ≡ q
next_values k es i e xs new f o q lt is found out put before =
    let rest = values (all_values k (exprs (drop (i + 1) es))) in
    let row : values (all_values k (exprs (drop i es))) ≡ kept (value_of k e) ++ rest =
    at_drop_more (λ xs. values (all_values k (exprs xs))) es i e lt ∙ ap (λ x. kept (value_of k x) ++ rest) (sym is) in
    kept_step xs (kept (value_of k e)) rest q new (ap (λ l. xs ++ l) (sym row) ∙ before) (put ∙ ap (λ x. xs ++ kept x) (out ∙ found))

-- a set and a map stay one
pub stays_set : (s k : Val) → IsSet s → IsSet (with_member s k)
stays_set (set vs) k h = tt
stays_set _ k h = absurd h

pub stays_map : (m k v : Val) → IsMap m → IsMap (with_entry m k v)
stays_map (map es) k v h = tt
stays_map _ k v h = absurd h

-- the next two of a row
next_two : (m : Val) (xs : List Val) (i : ℕ) (d e : Val) → suc i < length xs → with_entries m (drop i xs) ≡ with_entries (with_entry m (get_or xs i d) (get_or xs (suc i) e)) (drop (suc (suc i)) xs)
next_two m [] i d e lt = absurd (let z : ⊥ = omega (arith, lt) in z)
next_two m (x ∷ []) zero d e lt = absurd (let z : ⊥ = omega (arith, lt) in z)
next_two m (x ∷ (y ∷ xs)) zero d e lt = refl
next_two m (x ∷ xs) (suc i) d e lt = next_two m xs i d e (omega (arith, lt))

pub two_left : (m : Val) (xs : List Val) (i : ℕ) (d e : Val) → i + 1 < length xs → with_entries m (drop i xs) ≡ with_entries (with_entry m (get_or xs i d) (get_or xs (i + 1) e)) (drop (i + 2) xs)
two_left m xs i d e lt =
    let a : suc i ≡ i + 1 = omega arith in
    let b : suc (suc i) ≡ i + 2 = omega arith in
    next_two m xs i d e (omega (arith, lt))
    ∙ ap (λ j. with_entries (with_entry m (get_or xs i d) (get_or xs j e)) (drop (suc (suc i)) xs)) a
    ∙ ap (λ j. with_entries (with_entry m (get_or xs i d) (get_or xs (i + 1) e)) (drop j xs)) b

-- fewer than two are left
pub none_left : (m : Val) (xs : List Val) (i : ℕ) → length xs ≤ i + 1 → with_entries m (drop i xs) ≡ m
none_left m [] zero le = refl
none_left m [] (suc i) le = refl
none_left m (x ∷ []) zero le = refl
none_left m (x ∷ (y ∷ xs)) zero le = absurd (let z : ⊥ = omega (arith, le) in z)
none_left m (x ∷ xs) (suc i) le = none_left m xs i (omega (arith, le))

-- a part is smaller than its row
part_within : (es : List Expr) (i : ℕ) (d : Expr) → i < length es → expr_size (get_or es i d) + 1 ≤ exprs_size (exprs es)
part_within [] i d h = absurd (let z : ⊥ = omega (arith, h) in z)
part_within (e ∷ es) zero d h = omega arith
part_within (e ∷ es) (suc i) d h = omega (arith, part_within es i d (omega (arith, h)))

pub size_of : (es : List Expr) (i : ℕ) (e : Expr) → i < length es → e ≡ get_or es i e → expr_size e + 1 ≤ exprs_size (exprs es)
size_of es i e h is = let P : Expr → Type 0 = λ x. expr_size x + 1 ≤ exprs_size (exprs es) in subst P (sym is) (part_within es i e h)
