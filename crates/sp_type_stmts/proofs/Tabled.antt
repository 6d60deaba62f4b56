-- The table of the innermost open locals, with one more and with one less.
use Rattle.std.specs.Prelude.{if◌then◌else◌, string_bytes, reverse}
use Rattle.std.specs.Str.{bytes_eq}
use Rattle.std.proofs.Common.{ℕ, suc, ◌-◌, ◌<◌, ◌≡◌, length, arith, Bool, true, false, cond, ◌&&◌, List, [], ◌∷◌, ◌++◌, drop, Option, Some, None, is_some, refl, sym, ap, ◌∙◌}
use Rattle.std.proofs.lemmas.List.{reverse-append, length-reverse}
use Rattle.std.proofs.lemmas.Slice.Eq.{bytes_eq-Decides}
use Rattle.indexmap.specs.IndexMap.{get_by_text}
use Rattle.sp_type_stmts.specs.declared.locals.Known.{Known}
use Rattle.sp_type_stmts.specs.declared.locals.Opened.{Opened}
use Rattle.sp_type_stmts.specs.declared.locals.Innermost.{Innermost}
use Rattle.sp_type_stmts.specs.Scopes.{Local, found, local}
use Rattle.sp_type_stmts.specs.inside.Tables.{held, told_by, known, names_of, AreOpen}

pub rev_more : (ys : List Opened) (o : Opened) → reverse (ys ++ o ∷ []) ≡ o ∷ reverse ys
rev_more ys o = reverse-append ys (o ∷ [])

pub rev_of : (xs ys : List Opened) (o : Opened) → xs ≡ ys ++ o ∷ [] → reverse xs ≡ o ∷ reverse ys
rev_of xs ys o e = ap reverse e ∙ rev_more ys o

abbrev pub known_of : Opened → Known
known_of o = record { slot = o.slot; ty = o.ty }

abbrev pub name_of : Opened → List ℕ
name_of o = string_bytes o.name

more_told : (b : Bool) (k : Known) (l : Local) (t : Option Known) (f : Option Local) → Some k ≡ known (Some l) → t ≡ known f → cond b (Some k) t ≡ known (if b then Some l else f)
more_told true k l t f same is = same
more_told false k l t f same is = is

pub open_more : (os : List Opened) (o : Opened) (t u : Innermost) → AreOpen os t → o.hidden ≡ told_by t (name_of o) → ((x : List ℕ) → told_by u x ≡ cond (bytes_eq x (name_of o)) (Some (known_of o)) (told_by t x)) → AreOpen (o ∷ os) u
open_more os o t u h hid note = record {
  hidden_are = (hid ∙ h.told_is (name_of o), h.hidden_are);
  told_is = λ x. note x ∙ more_told (bytes_eq x (name_of o)) (known_of o) (local (name_of o) o.slot o.ty) (told_by t x) (found x (names_of os)) refl (h.told_is x);
}

pub open_same : (os : List Opened) (t u : Innermost) → AreOpen os t → ((x : List ℕ) → told_by u x ≡ told_by t x) → AreOpen os u
open_same os t u h same = record { hidden_are = h.hidden_are; told_is = λ x. same x ∙ h.told_is x }

-- the first local is found by its name
first_found : (o : Opened) (os : List Opened) → found (name_of o) (names_of (o ∷ os)) ≡ Some (local (name_of o) o.slot o.ty)
first_found o os =
    ap (λ b. if b then Some (local (name_of o) o.slot o.ty) else found (name_of o) (names_of os)) ((bytes_eq-Decides (name_of o) (name_of o)).1 refl)

some_there : (e : Option (Option Known)) (k : Known) → held e ≡ Some k → is_some e ≡ true
some_there None k is = absurd (let z : None ≡ Some k = is in let b : ⊥ = cc in b)
some_there (Some x) k is = refl

less_told : (b c : Bool) (l : Local) (old t hidden : Option Known) (f g : Option Local) → c ≡ true → (b ≡ true → f ≡ g) → hidden ≡ known f → t ≡ cond (b && c) hidden old → old ≡ known (if b then Some l else g) → t ≡ known g
less_told true c l old t hidden f g there same is told now =
    told ∙ ap (λ d. cond d hidden old) there ∙ is ∙ ap known (same refl)
less_told false c l old t hidden f g there same is told now = told ∙ now

pub open_less : (os : List Opened) (o : Opened) (t u : Innermost) → AreOpen (o ∷ os) t → ((x : List ℕ) → told_by u x ≡ cond (bytes_eq x (name_of o) && is_some (get_by_text t.by_name (name_of o))) o.hidden (told_by t x)) → AreOpen os u
open_less os o t u h put =
    let there : is_some (get_by_text t.by_name (name_of o)) ≡ true =
    some_there (get_by_text t.by_name (name_of o)) (known_of o) (h.told_is (name_of o) ∙ ap known (first_found o os)) in
    record {
      hidden_are = h.hidden_are.1;
      told_is = λ x. less_told (bytes_eq x (name_of o)) (is_some (get_by_text t.by_name (name_of o))) (local (name_of o) o.slot o.ty) (told_by t x) (told_by u x) o.hidden (found (name_of o) (names_of os)) (found x (names_of os)) there
          (λ e. ap (λ y. found y (names_of os)) (sym ((bytes_eq-Decides x (name_of o)).0 e))) h.hidden_are.0 (put x) (h.told_is x);
    }

pub noted_told : (b : Bool) (k : Option Known) (o : Option (Option Known)) → held (cond b (Some k) o) ≡ cond b k (held o)
noted_told true k o = refl
noted_told false k o = refl

pub put_told : (b t : Bool) (k : Option Known) (o : Option (Option Known)) → t ≡ true → held (cond b (Some k) o) ≡ cond (b && t) k (held o)
put_told true t k o is = sym (ap (λ d. cond d k (held o)) is)
put_told false t k o is = refl

names_long : (os : List Opened) → length (names_of os) ≡ length os
names_long [] = refl
names_long (o ∷ os) = ap suc (names_long os)

pub names_count : (os : List Opened) → length (names_of (reverse os)) ≡ length os
names_count os = names_long (reverse os) ∙ length-reverse os

pub close_step : (keep : ℕ) (xs ys : List Local) → keep < length xs → ys ≡ drop 1 xs → drop (length ys - keep) ys ≡ drop (length xs - keep) xs
close_step keep [] ys lt e = absurd (let z : ⊥ = omega (arith, lt) in z)
close_step keep (x ∷ xs) ys lt e =
    let count : suc (length xs - keep) ≡ length (x ∷ xs) - keep = omega (arith, lt) in
    ap (λ l. drop (length l - keep) l) e ∙ ap (λ n. drop n (x ∷ xs)) count
