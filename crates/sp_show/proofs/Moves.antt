-- Lists of what is left to do: one task more.
use Rattle.std.proofs.Common.{◌≡◌, ℕ, suc, zero, ◌-◌, ◌<◌, ◌≤◌, min, List, [], ◌∷◌, ◌++◌, length, map, drop, get_or, refl, sym, ap, ◌∙◌, append_assoc, arith}
use Rattle.std.proofs.Common.{Bor, true, false}
use Rattle.std.specs.Prelude.{Option, Some, None, slice_get, option_copied, is_some}
use Rattle.std.proofs.lemmas.List.{reverse-append}
use Rattle.sp_value.specs.Val.{Val}
use Rattle.sp_meaning_states.specs.States.{flat}
use Rattle.sp_show.specs.Inside.{told_member}
use Rattle.sp_show.specs.declared.walk.Task.{Task}
use Rattle.sp_show.specs.Plans.{Plan, tell, plan, plans, tells, halves, listed, members_told}

-- behind a push
pub pushed : {new : List Task} (old : List Task) (t : Task) → new ≡ old ++ t ∷ [] → plans new ≡ plan t ∷ plans old
pushed old t e = ap plans e ∙ ap (map plan) (reverse-append old (t ∷ []))

pub one_more : (ts : List Task) (t : Task) → plans (ts ++ t ∷ []) ≡ plan t ∷ plans ts
one_more ts t = ap (map plan) (reverse-append ts (t ∷ []))

tells_both : (vs ws : List Val) → tells (vs ++ ws) ≡ tells vs ++ tells ws
tells_both [] ws = refl
tells_both (v ∷ vs) ws = ap (λ ps. tell v ∷ ps) (tells_both vs ws)

pub tells_before : (vs ws : List Val) (ps : List Plan) → tells vs ++ (tells ws ++ ps) ≡ tells (vs ++ ws) ++ ps
tells_before vs ws ps = sym (append_assoc (tells vs) (tells ws) ps) ∙ ap (λ qs. qs ++ ps) (sym (tells_both vs ws))

-- the item at a place, and those behind it
pub from_item : {A : Type 0} (xs : List A) (i : ℕ) (d : A) → i < length xs → get_or xs i d ∷ drop (suc i) xs ≡ drop i xs
from_item [] i d h = absurd (omega arith)
from_item (x ∷ xs) zero d h = refl
from_item (x ∷ xs) (suc i) d h = from_item xs i d (omega arith)

-- the items from the place before on
pub from_before : {A : Type 0} (xs : List A) (i : ℕ) (d : A) → 0 < i → i ≤ length xs → d ≡ get_or xs (i - 1) d → d ∷ drop i xs ≡ drop (i - 1) xs
from_before xs zero d h k e = absurd (omega arith)
from_before xs (suc i) d h k e =
    let less : suc i - 1 ≡ i = omega arith in
    ap (λ x. x ∷ drop (suc i) xs) (e ∙ ap (λ j. get_or xs j d) less) ∙ from_item xs i d (omega arith) ∙ ap (λ j. drop j xs) (sym less)

halves_both : (es fs : List (Val × Val)) → halves (es ++ fs) ≡ halves es ++ halves fs
halves_both [] fs = refl
halves_both (e ∷ es) fs = ap (λ vs. e.0 ∷ e.1 ∷ vs) (halves_both es fs)

pub halves_before : (es fs : List (Val × Val)) (ps : List Plan) → tells (halves es) ++ (tells (halves fs) ++ ps) ≡ tells (halves (es ++ fs)) ++ ps
halves_before es fs ps = tells_before (halves es) (halves fs) ps ∙ ap (λ vs. tells vs ++ ps) (sym (halves_both es fs))

-- the members from one on
pub from_member : (xs : List (List ℕ)) (os : List (Option Val)) (m : ℕ) → m < length xs → m < length os
    → listed (told_member (flat (slice_get os m))) ++ members_told (drop (suc m) xs) (drop (suc m) os) ≡ members_told (drop m xs) (drop m os)
from_member [] os m h k = absurd (omega arith)
from_member (x ∷ xs) [] m h k = absurd (omega arith)
from_member (x ∷ xs) (o ∷ os) zero h k = refl
from_member (x ∷ xs) (o ∷ os) (suc m) h k = from_member xs os m (omega arith) (omega arith)

-- the members from the one before on
pub from_member_before : (xs : List (List ℕ)) (os : List (Option Val)) (m : ℕ) → 0 < m → m ≤ length xs → m ≤ length os
    → listed (told_member (flat (slice_get os (m - 1)))) ++ members_told (drop m xs) (drop m os) ≡ members_told (drop (m - 1) xs) (drop (m - 1) os)
from_member_before xs os zero g h k = absurd (omega arith)
from_member_before xs os (suc m) g h k =
    let less : suc m - 1 ≡ m = omega arith in
    ap (λ j. listed (told_member (flat (slice_get os j))) ++ members_told (drop (suc m) xs) (drop (suc m) os)) less
    ∙ from_member xs os m (omega arith) (omega arith)
    ∙ ap (λ j. members_told (drop j xs) (drop j os)) (sym less)

no_members : (xs : List (List ℕ)) → members_told xs [] ≡ []
no_members [] = refl
no_members (x ∷ xs) = refl

-- those from the end of either list on
pub members_over : (xs : List (List ℕ)) (os : List (Option Val)) (m : ℕ) → min (length xs) (length os) ≤ m → members_told (drop m xs) (drop m os) ≡ []
members_over [] os zero h = refl
members_over [] os (suc m) h = refl
members_over (x ∷ xs) [] zero h = refl
members_over (x ∷ xs) [] (suc m) h = no_members (drop m xs)
members_over (x ∷ xs) (o ∷ os) zero h = absurd (omega arith)
members_over (x ∷ xs) (o ∷ os) (suc m) h = members_over xs os m (omega arith)

-- what stands behind a reference that is there, and that there is none
pub some_told : (r : Option (Bor Val)) (o : Option Val) → option_copied r ≡ o → is_some r ≡ true → (v : Val) × (o ≡ Some v)
some_told None o h e = absurd (let wrong : false ≡ true = e in cc)
some_told (Some b) o h e = (b.now, sym h)

pub none_told : (r : Option (Bor Val)) (o : Option Val) → option_copied r ≡ o → is_some r ≡ false → o ≡ None
none_told None o h e = sym h
none_told (Some b) o h e = absurd (let wrong : true ≡ false = e in cc)

pub nothing : {A : Type 0} (xs : List A) → length xs ≡ 0 → xs ≡ []
nothing [] h = refl
nothing (x ∷ xs) h = absurd (omega arith)
