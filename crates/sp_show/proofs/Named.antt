-- Trees under the names of the members that are told, from one member on.
use Rattle.std.proofs.Common.{◌≡◌, ℕ, zero, suc, ◌+◌, ◌≤◌, ◌<◌, List, [], ◌∷◌, ◌++◌, length, reverse, drop, get_or, min, append_assoc, add-one, refl, sym, ap, ◌∙◌, arith}
use Rattle.std.proofs.lemmas.List.{reverse-append}
use Rattle.std.specs.Prelude.{Option, Some, None, slice_get}
use Rattle.sp_events.specs.Tree.{TreeData}
use Rattle.sp_value.specs.Val.{Val}
use Rattle.sp_meaning_states.specs.States.{flat}
use Rattle.sp_show.specs.Inside.{told_member}
use Rattle.sp_show.specs.Plans.{with_name, with_names}

none_left : (xs : List (List ℕ)) (ts : List TreeData) → with_names xs [] ts ≡ []
none_left [] ts = refl
none_left (x ∷ xs) ts = refl

-- the members from the end of either list on
pub names_end : (xs : List (List ℕ)) (os : List (Option Val)) (m : ℕ) (ts : List TreeData) → min (length xs) (length os) ≤ m → with_names (drop m xs) (drop m os) ts ≡ []
names_end [] os zero ts h = refl
names_end [] os (suc m) ts h = refl
names_end (x ∷ xs) [] zero ts h = refl
names_end (x ∷ xs) [] (suc m) ts h = none_left (drop m xs) ts
names_end (x ∷ xs) (o ∷ os) zero ts h = absurd (omega arith)
names_end (x ∷ xs) (o ∷ os) (suc m) ts h = names_end xs os m ts (omega arith)

-- those from one on
from_name : (xs : List (List ℕ)) (os : List (Option Val)) (m : ℕ) (d : List ℕ) (ts : List TreeData) → m < length xs → m < length os
    → with_names (drop m xs) (drop m os) ts ≡ with_name (get_or xs m d) (told_member (flat (slice_get os m))) (with_names (drop (suc m) xs) (drop (suc m) os)) ts
from_name [] os m d ts h k = absurd (omega arith)
from_name (x ∷ xs) [] m d ts h k = absurd (omega arith)
from_name (x ∷ xs) (o ∷ os) zero d ts h k = refl
from_name (x ∷ xs) (o ∷ os) (suc m) d ts h k = from_name xs os m d ts (omega arith) (omega arith)

module _ (xs : List (List ℕ)) (os : List (Option Val)) (m : ℕ) (h : m < length xs) (k : m < length os) (fields whole : List (List ℕ × TreeData)) where
  -- where nothing is told of that one
  pub without_name : (ts : List TreeData) → told_member (flat (slice_get os m)) ≡ None
      → fields ++ with_names (drop m xs) (drop m os) (reverse ts) ≡ whole
      → fields ++ with_names (drop (m + 1) xs) (drop (m + 1) os) (reverse ts) ≡ whole
  without_name ts none so_far =
      let rest = with_names (drop (suc m) xs) (drop (suc m) os) in
      rw (add-one m) (ap (λ fs. fields ++ fs) (sym (from_name xs os m [] (reverse ts) h k ∙ ap (λ o. with_name (get_or xs m []) o rest (reverse ts)) none)) ∙ so_far)

  -- where something is, and no tree is left
  pub with_none : (v : Val) → told_member (flat (slice_get os m)) ≡ Some v
      → fields ++ with_names (drop m xs) (drop m os) [] ≡ whole
      → fields ++ with_names (drop (m + 1) xs) (drop (m + 1) os) [] ≡ whole
  with_none v some so_far =
      let rest = with_names (drop (suc m) xs) (drop (suc m) os) in
      rw (add-one m) (ap (λ fs. fields ++ fs) (sym (from_name xs os m [] [] h k ∙ ap (λ o. with_name (get_or xs m []) o rest []) some)) ∙ so_far)

  -- and where one is
  pub with_one : (v : Val) (x : List ℕ) (t : TreeData) (ts : List TreeData) → x ≡ get_or xs m x → told_member (flat (slice_get os m)) ≡ Some v
      → fields ++ with_names (drop m xs) (drop m os) (reverse (ts ++ t ∷ [])) ≡ whole
      → (fields ++ (x, t) ∷ []) ++ with_names (drop (m + 1) xs) (drop (m + 1) os) (reverse ts) ≡ whole
  with_one v x t ts is some so_far =
      let rest = with_names (drop (suc m) xs) (drop (suc m) os) in
      let found : with_names (drop m xs) (drop m os) (reverse (ts ++ t ∷ [])) ≡ (x, t) ∷ rest (reverse ts) =
      from_name xs os m x (reverse (ts ++ t ∷ [])) h k
      ∙ ap (λ o. with_name (get_or xs m x) o rest (reverse (ts ++ t ∷ []))) some
      ∙ ap (λ us. with_name (get_or xs m x) (Some v) rest us) (reverse-append ts (t ∷ []))
      ∙ ap (λ z. (z, t) ∷ rest (reverse ts)) (sym is) in
      rw (add-one m) (append_assoc fields ((x, t) ∷ []) (rest (reverse ts)) ∙ ap (λ fs. fields ++ fs) (sym found) ∙ so_far)
