-- What the actions build of the trees on top of a pile, where these are all since one began, or as many as the action wants.
-- What is built, and whether it is, does not depend on what lies below.
use Rattle.std.specs.Prelude.{option_map, if◌then◌else◌}
use Rattle.std.proofs.Common.{◌≡◌, zero, suc, pred, List, [], ◌∷◌, reverse, length, Bool, true, false, Option, Some, None, refl, sym, ap, subst, inl, inr, ◌∙◌}
use Rattle.std.proofs.lemmas.Bool.{cases_Bool}
use Rattle.std.proofs.lemmas.List.{reverse-reverse, length-reverse}
use mathlib.Core.List.{reverse_aux}
use Rattle.sp_ast.specs.declared.forms.Form.{Form}
use Rattle.sp_ast.specs.Trees.{Tree, tree, in_row}
use Rattle.sp_ast.specs.declared.groups.Group.{Group}
use Rattle.sp_ast.specs.declared.groups.Sort.TheVariants.{One as one}
use Rattle.sp_ast.specs.declared.groups.Slot.{Slot}
use Rattle.sp_ast.specs.declared.groups.Slot.TheVariants.{Part as part, Several as several}
use Rattle.sp_ast.specs.Groups.{fits, is_of, is_node}
use Rattle.sp_build.specs.Rules.{gathers, joins, wraps}
use Rattle.sp_build.proofs.Standing.{not_some}
use Rattle.sp_build.proofs.Told.{never}
use Rattle.sp_law_round_trip.specs.Bare.{nowhere}
use Rattle.sp_law_round_trip.specs.Told.{Telling}
use Rattle.sp_law_round_trip.proofs.Held.{Pile, started, made, After, after, after_do, front, start, filled, put, closed, does}
use Rattle.sp_law_round_trip.proofs.Goes.{pushed}

-- trees on top of a pile, the last one first
abbrev heaped : List Tree → Pile → Pile
heaped [] s = s
heaped (r ∷ rs) s = made r ∷ heaped rs s

pushed_heaped : (ts rs : List Tree) (s : Pile) → pushed ts (heaped rs s) ≡ heaped (reverse_aux ts rs) s
pushed_heaped [] rs s = refl
pushed_heaped (t ∷ ts) rs s = pushed_heaped ts (t ∷ rs) s

heaped_back : (ts : List Tree) (s : Pile) → pushed ts s ≡ heaped (reverse ts) s
heaped_back ts s = pushed_heaped ts [] s

made_is_begun : {B : Type 0} {t : Tree} {r s : Pile} {p : Telling} → made t ∷ r ≡ started p ∷ s → B
made_is_begun h = absurd (let q : made _ ∷ _ ≡ started _ ∷ _ = h in cc)

-- what went before an answer
parted : {A B : Type 0} (x : Option (After A)) (go : A → Pile → Option B) (t : B) → after_do x go ≡ Some t → (a : A) × (rest : Pile) × (x ≡ Some (after a rest)) × (go a rest ≡ Some t)
parted None go t h = not_some h
parted (Some x) go t h = (x.value, x.rest, refl, h)

-- a tree that passes a test, and then what is made of it
tested : {A B : Type 0} (ok : Bool) (x : A) (s : Pile) (go : A → Pile → Option B) (t : B) → after_do (if ok then Some (after x s) else None) go ≡ Some t → (ok ≡ true) × (go x s ≡ Some t)
tested true x s go t h = (refl, h)
tested false x s go t h = not_some h

passed : {A B : Type 0} (ok : Bool) (x : A) (s : Pile) (go : A → Pile → Option B) (t : B) → ok ≡ true → go x s ≡ Some t → after_do (if ok then Some (after x s) else None) go ≡ Some t
passed true x s go t e h = h
passed false x s go t e h = never e

same_after : {A : Type 0} {a b : A} {r s : Pile} → Some (after a r) ≡ Some (after b s) → (a ≡ b) × (r ≡ s)
same_after {a = a} {b = b} {r = r} {s = s} h = let e : after a r ≡ after b s = cc in (ap (λ x. x.value) e, ap (λ x. x.rest) e)

-- What passes a test of the trees that stand last, and what is left of them.
abbrev Fronts : (Tree → Bool) → List Tree → List Tree → Type 0
Fronts wanted rs us = (left : List Tree) × (found : List Tree) × (reverse_aux rs us ≡ reverse_aux left found) × ((p : Telling) (s : Pile) → front wanted (heaped rs (started p ∷ s)) us ≡ after found (heaped left (started p ∷ s)))

fronts : (wanted : Tree → Bool) (rs us : List Tree) → Fronts wanted rs us
fronts wanted [] us = ([], us, refl, λ p s. refl)
fronts wanted (r ∷ rs) us =
    let (left, found, all, goes) = fronts wanted rs (r ∷ us) in
    elim (cases_Bool (wanted r)) [
      | inl y ↦ (left, found, all, λ p s. ap (λ ok. if ok then front wanted (heaped rs (started p ∷ s)) (r ∷ us) else after us (made r ∷ heaped rs (started p ∷ s))) y ∙ goes p s)
      | inr n ↦ (r ∷ rs, us, refl, λ p s. ap (λ ok. if ok then front wanted (heaped rs (started p ∷ s)) (r ∷ us) else after us (made r ∷ heaped rs (started p ∷ s))) n)
    ]

-- The parts that slots want of the trees since one began: all of these, if the beginning is reached.
filled_since : (slots : List Slot) (rs us : List Tree) (p q : Telling) (s b : Pile) (vs : List Tree)
    → filled slots us (heaped rs (started p ∷ s)) ≡ Some (after vs (started q ∷ b))
    → (vs ≡ reverse_aux rs us) × (q ≡ p) × (b ≡ s) × ((x : Telling) (c : Pile) → filled slots us (heaped rs (started x ∷ c)) ≡ Some (after (reverse_aux rs us) (started x ∷ c)))
filled_since [] [] us p q s b vs h = let (same, below) = same_after h in (sym same, cc, cc, λ x c. refl)
filled_since [] (r ∷ rs) us p q s b vs h = made_is_begun (same_after h).1
filled_since (part sort ∷ slots) [] us p q s b vs h = not_some h
filled_since (part sort ∷ slots) (r ∷ rs) us p q s b vs h =
    let (ok, rest) = tested (fits sort r) r (heaped rs (started p ∷ s)) (λ t below. filled slots (t ∷ us) below) _ h in
    let (same, begin, under, goes) = filled_since slots rs (r ∷ us) p q s b vs rest in
    (same, begin, under, λ x c. passed (fits sort r) r (heaped rs (started x ∷ c)) (λ t below. filled slots (t ∷ us) below) _ ok (goes x c))
filled_since (several g ∷ slots) rs us p q s b vs h =
    let (left, found, all, splits) = fronts (is_of g) rs us in
    let rest : filled slots found (heaped left (started p ∷ s)) ≡ Some (after vs (started q ∷ b)) = sym (ap (λ x. filled slots x.value x.rest) (splits p s)) ∙ h in
    let (same, begin, under, goes) = filled_since slots left found p q s b vs rest in
    (same ∙ sym all, begin, under, λ x c. ap (λ z. filled slots z.value z.rest) (splits x c) ∙ goes x c ∙ ap (λ z. Some (after z (started x ∷ c))) (sym all))

-- a tree of an alternative that may be told
told_tree : (told : Option Form) (ts : List Tree) (s t : Pile) → after_do (option_map (λ form. after form s) told) (λ form below. put (tree form nowhere ts) below) ≡ Some t → (form : Form) × (told ≡ Some form) × (t ≡ made (tree form nowhere ts) ∷ s)
told_tree None ts s t h = not_some h
told_tree (Some form) ts s t h = (form, refl, let e : Some (made (tree form nowhere ts) ∷ s) ≡ Some t = h in cc)

-- a tree of these parts, with what the token tells at which it began
abbrev closed_on : (Telling → Option Form) → List Tree → Pile → Option Pile
closed_on f ts s = after_do (start s) (λ p below. after_do (option_map (λ form. after form below) (f p)) (λ form under. put (tree form nowhere ts) under))

abbrev ClosesAs : List Slot → (Telling → Option Form) → List Tree → Telling → Pile → Pile → Type 0
ClosesAs slots f ts p s t =
    (form : Form) × (f p ≡ Some form) × (t ≡ made (tree form nowhere ts) ∷ s)
    × ((q : Telling) (c : Pile) → f q ≡ Some form → closed slots f (pushed ts (started q ∷ c)) ≡ Some (made (tree form nowhere ts) ∷ c))

closes_again : (slots : List Slot) (f : Telling → Option Form) (ts : List Tree) (form : Form)
    → ((x : Telling) (c : Pile) → filled (reverse slots) [] (heaped (reverse ts) (started x ∷ c)) ≡ Some (after (reverse (reverse ts)) (started x ∷ c)))
    → (x : Telling) (c : Pile) → f x ≡ Some form → closed slots f (pushed ts (started x ∷ c)) ≡ Some (made (tree form nowhere ts) ∷ c)
closes_again slots f ts form goes x c e =
    let pile : filled (reverse slots) [] (pushed ts (started x ∷ c)) ≡ Some (after (reverse (reverse ts)) (started x ∷ c)) = ap (filled (reverse slots) []) (heaped_back ts (started x ∷ c)) ∙ goes x c in
    let parts = pile ∙ ap (λ us. Some (after us (started x ∷ c))) (reverse-reverse ts) in
    ap (λ found. after_do found (closed_on f)) parts ∙ ap (λ told. after_do (option_map (λ g. after g c) told) (λ g under. put (tree g nowhere ts) under)) e

closed_of : (slots : List Slot) (f : Telling → Option Form) (ts us : List Tree) (p : Telling) (s t rest : Pile)
    → filled (reverse slots) [] (heaped (reverse ts) (started p ∷ s)) ≡ Some (after us rest) → closed_on f us rest ≡ Some t → ClosesAs slots f ts p s t
closed_of slots f ts us p s t [] parts h = not_some h
closed_of slots f ts us p s t (made x ∷ rest) parts h = not_some h
closed_of slots f ts us p s t (started q ∷ b) parts h =
    let (form, told, is) = told_tree (f q) us b t h in
    let (same, begun, left, goes) = filled_since (reverse slots) (reverse ts) [] p q s b us parts in
    let all : us ≡ ts = same ∙ reverse-reverse ts in
    let of_all : t ≡ made (tree form nowhere ts) ∷ s = is ∙ ap (λ xs. made (tree form nowhere xs) ∷ b) all ∙ ap (λ c. made (tree form nowhere ts) ∷ c) left in
    (form, subst (λ x. f x ≡ Some form) begun told, of_all, closes_again slots f ts form goes)

-- A tree that is closed is of all trees since it began, and what lies below is as it was.
pub closed_all : (slots : List Slot) (f : Telling → Option Form) (ts : List Tree) (p : Telling) (s t : Pile)
    → closed slots f (pushed ts (started p ∷ s)) ≡ Some t
    → (form : Form) × (f p ≡ Some form) × (t ≡ made (tree form nowhere ts) ∷ s) × ((q : Telling) (c : Pile) → f q ≡ Some form → closed slots f (pushed ts (started q ∷ c)) ≡ Some (made (tree form nowhere ts) ∷ c))
closed_all slots f ts p s t h =
    let (us, rest, parts, ends) = parted _ (closed_on f) t (sym (ap (closed slots f) (heaped_back ts (started p ∷ s))) ∙ h) in
    closed_of slots f ts us p s t rest parts ends

-- a row of these trees
abbrev row_on : List Tree → Pile → Option Pile
row_on ts s = after_do (start s) (λ p below. put (in_row ts) below)

abbrev GathersAs : List Tree → Pile → Pile → Type 0
GathersAs ts s u = (u ≡ made (in_row ts) ∷ s) × ((x q : Telling) (c : Pile) → does gathers x (pushed ts (started q ∷ c)) ≡ Some (made (in_row ts) ∷ c))

gathered_of : (ts left found : List Tree) (p : Telling) (s u : Pile) → reverse_aux (reverse ts) [] ≡ reverse_aux left found
    → ((x : Telling) (c : Pile) → front is_node (heaped (reverse ts) (started x ∷ c)) [] ≡ after found (heaped left (started x ∷ c)))
    → row_on found (heaped left (started p ∷ s)) ≡ Some u → GathersAs ts s u
gathered_of ts (l ∷ left) found p s u all splits h = not_some h
gathered_of ts [] found p s u all splits h =
    let same : found ≡ ts = sym all ∙ reverse-reverse ts in let e : Some (made (in_row found) ∷ s) ≡ Some u = h in
    (cc, λ x q c. ap (λ z. row_on z.value z.rest) (ap (λ z. front is_node z []) (heaped_back ts (started q ∷ c)) ∙ splits q c) ∙ ap (λ xs. Some (made (in_row xs) ∷ c)) same)

-- A row is of all trees since it began.
pub gathered_all : (ts : List Tree) (p : Telling) (s u : Pile) (w : Telling) → does gathers w (pushed ts (started p ∷ s)) ≡ Some u
    → (u ≡ made (in_row ts) ∷ s) × ((x q : Telling) (c : Pile) → does gathers x (pushed ts (started q ∷ c)) ≡ Some (made (in_row ts) ∷ c))
gathered_all ts p s u w h =
    let (left, found, all, splits) = fronts is_node (reverse ts) [] in
    gathered_of ts left found p s u all splits (sym (ap (λ z. row_on z.value z.rest) (ap (λ z. front is_node z []) (heaped_back ts (started p ∷ s)) ∙ splits p s)) ∙ h)

-- whether each slot wants one part
abbrev pub are_parts : List Slot → Bool
are_parts [] = true
are_parts (part sort ∷ slots) = are_parts slots
are_parts (several g ∷ slots) = false

parts_turned : (slots others : List Slot) → are_parts slots ≡ true → are_parts others ≡ true → are_parts (reverse_aux slots others) ≡ true
parts_turned [] others h k = k
parts_turned (part sort ∷ slots) others h k = parts_turned slots (part sort ∷ others) h k
parts_turned (several g ∷ slots) others h k = never h

filled_by : (slots : List Slot) (rs us vs : List Tree) (s b : Pile) → are_parts slots ≡ true → length rs ≡ length slots
    → filled slots us (heaped rs s) ≡ Some (after vs b)
    → (vs ≡ reverse_aux rs us) × (b ≡ s) × ((c : Pile) → filled slots us (heaped rs c) ≡ Some (after (reverse_aux rs us) c))
filled_by [] [] us vs s b ok n h = let (same, below) = same_after h in (sym same, sym below, λ c. refl)
filled_by [] (r ∷ rs) us vs s b ok n h = absurd (let q : suc _ ≡ zero = n in cc)
filled_by (part sort ∷ slots) [] us vs s b ok n h = absurd (let q : zero ≡ suc _ = n in cc)
filled_by (part sort ∷ slots) (r ∷ rs) us vs s b ok n h =
    let (fit, rest) = tested (fits sort r) r (heaped rs s) (λ t below. filled slots (t ∷ us) below) _ h in
    let (same, under, goes) = filled_by slots rs (r ∷ us) vs s b ok (ap pred n) rest in
    (same, under, λ c. passed (fits sort r) r (heaped rs c) (λ t below. filled slots (t ∷ us) below) _ fit (goes c))
filled_by (several g ∷ slots) rs us vs s b ok n h = never ok

-- A tree that is joined of as many parts as it has is of these, and what lies below is as it was.
pub joined_all : (slots : List Slot) (form : Form) (ts : List Tree) (s u : Pile) (w : Telling) → are_parts slots ≡ true → length ts ≡ length slots
    → does (joins slots form) w (pushed ts s) ≡ Some u
    → (u ≡ made (tree form nowhere ts) ∷ s) × ((x : Telling) (c : Pile) → does (joins slots form) x (pushed ts c) ≡ Some (made (tree form nowhere ts) ∷ c))
joined_all slots form ts s u w ok n h =
    let join : List Tree → Pile → Option Pile = λ xs below. put (tree form nowhere xs) below in
    let (us, rest, parts, is) = parted _ join u (sym (ap (λ z. after_do (filled (reverse slots) [] z) join) (heaped_back ts s)) ∙ h) in
    let (same, under, goes) = filled_by (reverse slots) (reverse ts) [] us s rest (parts_turned slots [] ok refl) (length-reverse ts ∙ n ∙ sym (length-reverse slots)) parts in
    let all : us ≡ ts = same ∙ reverse-reverse ts in
    let e : Some (made (tree form nowhere us) ∷ rest) ≡ Some u = is in
    (cc, λ x c. ap (λ o. after_do o join) (ap (filled (reverse slots) []) (heaped_back ts c) ∙ goes c ∙ ap (λ xs. Some (after xs c)) (reverse-reverse ts)))

-- A tree that wraps another one.
pub wrapped : (g : Group) (form : Form) (t : Tree) (s u : Pile) (w : Telling) → does (wraps g form) w (made t ∷ s) ≡ Some u
    → (u ≡ made (tree form nowhere (t ∷ [])) ∷ s) × ((x : Telling) (c : Pile) → does (wraps g form) x (made t ∷ c) ≡ Some (made (tree form nowhere (t ∷ [])) ∷ c))
wrapped g form t s u w h =
    let wrap : Tree → Pile → Option Pile = λ x below. put (tree form nowhere (x ∷ [])) below in
    let (fit, is) = tested (fits (one g) t) t s wrap u h in
    let e : Some (made (tree form nowhere (t ∷ [])) ∷ s) ≡ Some u = is in
    (cc, λ x c. passed (fits (one g) t) t c wrap _ fit refl)
