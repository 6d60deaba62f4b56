-- Stacks that have the shapes that are known of them, and what the rules do to such a stack.
use Rattle.std.specs.Prelude.{◌≡◌, List, [], ◌∷◌, ◌++◌, Bool, true, false, ◌==◌, if◌then◌else◌, Option, Some, None, refl}
use Rattle.std.proofs.Common.{◌∙◌, sym, subst, inl, inr, eq-eqb, eqb-true}
use Rattle.std.proofs.lemmas.Bool.{and_parts, and_from, cases_Bool}
use Rattle.sp_lex.specs.declared.tokens.Token.{Token}
use Rattle.sp_phrases.specs.Kinds.{token_number}
use Rattle.sp_ast.specs.Trees.{Tree, Trees, absent, row, node, none, more}
use Rattle.sp_ast.specs.declared.groups.Group.{Group}
use Rattle.sp_ast.specs.declared.groups.Sort.{Sort}
use Rattle.sp_ast.specs.declared.groups.Sort.TheVariants.{One as one, Optional as optional, Rows as rows}
use Rattle.sp_ast.specs.Groups.{group_number, same_group, group, is_of, are_of, fits}
use Rattle.sp_build.specs.Items.{Item, begun, built}
use Rattle.sp_build.specs.Building.{Stack, token_of}
use Rattle.sp_build.proofs.Shapes.{Shape, opens, opens_at, stands, left_out, no_row, many, and_then, is_all_of, under, suits, covers, under_one, under_wanted, strip}
use Rattle.sp_build.proofs.Told.{never}

-- an item of a stack has the shape of one
abbrev pub is_shaped : List Token → Shape → Item → Bool
is_shaped tokens opens (begun p) = true
is_shaped tokens (opens_at k) (begun p) = token_number (token_of tokens p) == k
is_shaped tokens (stands sort) (built t) = fits sort t
is_shaped tokens left_out (built absent) = true
is_shaped tokens no_row (built (row none)) = true
is_shaped tokens _ _ = false

-- The first stack has these shapes on top of the second.
pub data Stands (tokens : List Token) : List Shape → Stack → Stack → Type 0 where
  bottom : {s : Stack} → Stands tokens [] s s
  above : {x : Shape} {i : Item} {xs : List Shape} {s b : Stack} → is_shaped tokens x i ≡ true → Stands tokens xs s b → Stands tokens (x ∷ xs) (i ∷ s) b
  no_more : {g : Group} {xs : List Shape} {s b : Stack} → Stands tokens xs s b → Stands tokens (many g ∷ xs) s b
  one_more : {g : Group} {t : Tree} {xs : List Shape} {s b : Stack} → is_of g t ≡ true → Stands tokens (many g ∷ xs) s b → Stands tokens (many g ∷ xs) (built t ∷ s) b

pub append_stands : {tokens : List Token} {xs ys : List Shape} {s m b : Stack} → Stands tokens xs s m → Stands tokens ys m b → Stands tokens (xs ++ ys) s b
append_stands bottom r = r
append_stands (above e q) r = above e (append_stands q r)
append_stands (no_more q) r = no_more (append_stands q r)
append_stands (one_more e q) r = one_more e (append_stands q r)

-- equations of options
pub some_equal : {A : Type 0} {x y : A} → Some x ≡ Some y → x ≡ y
some_equal e = cc

pub not_some : {A B : Type 0} {x : A} → None ≡ Some x → B
not_some e = absurd (let q : None ≡ Some _ = e in cc)

pub then_some : {A B : Type 0} (o : Option A) (go : A → Option B) (y : B) → and_then o go ≡ Some y → (x : A) × (o ≡ Some x) × (go x ≡ Some y)
then_some None go y e = not_some e
then_some (Some x) go y e = (x, refl, e)

pub if_some : {A : Type 0} (c : Bool) (o : Option A) (y : A) → (if c then o else None) ≡ Some y → (c ≡ true) × (o ≡ Some y)
if_some true o y e = (refl, e)
if_some false o y e = not_some e

-- a tree of a group is one of an equal group
is_of_like : (g h : Group) (t : Tree) → same_group g h ≡ true → is_of h t ≡ true → is_of g t ≡ true
is_of_like g h (node form span ts) e x = eq-eqb (group_number g) (group_number (group form)) (eqb-true (group_number g) (group_number h) e ∙ eqb-true (group_number h) (group_number (group form)) x)
is_of_like g h absent e x = never x
is_of_like g h (row ts) e x = never x

are_of_like : (g h : Group) (ts : Trees) → same_group g h ≡ true → are_of h ts ≡ true → are_of g ts ≡ true
are_of_like g h none e x = refl
are_of_like g h (more t ts) e x = let p = and_parts (is_of h t) (are_of h ts) x in and_from (is_of g t) (are_of g ts) (is_of_like g h t e p.0) (are_of_like g h ts e p.1)

-- a tree that fits stands there
abbrev pub Fitting : Sort → Item → Type 0
Fitting sort i = (t : Tree) × (i ≡ built t) × (fits sort t ≡ true)

suited : (sort : Sort) (x : Shape) (tokens : List Token) (i : Item) → suits sort x ≡ true → is_shaped tokens x i ≡ true → Fitting sort i
suited (one g) (stands (one h)) tokens (built t) e q = (t, refl, is_of_like g h t e q)
suited (one g) (stands (one h)) tokens (begun p) e q = never q
suited (one g) _ tokens i e q = never e
suited (optional g) (stands (one h)) tokens (built (node form span ts)) e q = (node form span ts, refl, is_of_like g h (node form span ts) e q)
suited (optional g) (stands (one h)) tokens i e q = never q
suited (optional g) (stands (optional h)) tokens (built (node form span ts)) e q = (node form span ts, refl, is_of_like g h (node form span ts) e q)
suited (optional g) (stands (optional h)) tokens (built absent) e q = (absent, refl, refl)
suited (optional g) (stands (optional h)) tokens i e q = never q
suited (optional g) left_out tokens (built absent) e q = (absent, refl, refl)
suited (optional g) left_out tokens i e q = never q
suited (optional g) _ tokens i e q = never e
suited (rows g) (stands (rows h)) tokens (built (row ts)) e q = (row ts, refl, are_of_like g h ts e q)
suited (rows g) (stands (rows h)) tokens i e q = never q
suited (rows g) no_row tokens (built (row none)) e q = (row none, refl, refl)
suited (rows g) no_row tokens i e q = never q
suited (rows g) _ tokens i e q = never e

covered : (w x : Shape) (tokens : List Token) (i : Item) → covers w x ≡ true → is_shaped tokens x i ≡ true → is_shaped tokens w i ≡ true
covered opens opens tokens i e q = q
covered opens (opens_at k) tokens (begun p) e q = refl
covered opens (opens_at k) tokens (built t) e q = never q
covered opens _ tokens i e q = never e
covered (opens_at k) (opens_at n) tokens (begun p) e q = eq-eqb (token_number (token_of tokens p)) k (eqb-true (token_number (token_of tokens p)) n q ∙ eqb-true n k e)
covered (opens_at k) (opens_at n) tokens (built t) e q = never q
covered (opens_at k) _ tokens i e q = never e
covered (stands sort) x tokens i e q = let f = suited sort x tokens i e q in subst (λ z. is_shaped tokens (stands sort) z ≡ true) (sym f.1) f.2
covered left_out left_out tokens i e q = q
covered left_out _ tokens i e q = never e
covered no_row no_row tokens i e q = q
covered no_row _ tokens i e q = never e
covered (many g) _ tokens i e q = never e

-- no shape of one covers any number of trees
not_many : {A : Type 0} (w : Shape) (g : Group) → covers w (many g) ≡ true → A
not_many opens g e = never e
not_many (opens_at k) g e = never e
not_many (stands (one h)) g e = never e
not_many (stands (optional h)) g e = never e
not_many (stands (rows h)) g e = never e
not_many left_out g e = never e
not_many no_row g e = never e
not_many (many h) g e = never e

-- an item of this shape stands above
abbrev pub IsAbove : List Token → Shape → List Shape → Stack → Stack → Type 0
IsAbove tokens w xs s b = (i : Item) × (m : Stack) × (s ≡ i ∷ m) × (is_shaped tokens w i ≡ true) × Stands tokens xs m b

pub one_above : {tokens : List Token} (w : Shape) {xs ys : List Shape} {s b : Stack} → under_one w xs ≡ Some ys → Stands tokens xs s b → IsAbove tokens w ys s b
one_above w e bottom = not_some e
one_above {tokens = tokens} w {ys = ys} {b = b} e (above {x = x} {i = i} {xs = xs} {s = s} q st) =
    let c = if_some (covers w x) (Some xs) ys e in (i, s, refl, covered w x tokens i c.0 q, subst (λ zs. Stands tokens zs s b) (some_equal c.1) st)
one_above w {ys = ys} e (no_more {g = g} {xs = xs} st) = not_many w g (if_some (covers w (many g)) (Some xs) ys e).0
one_above w {ys = ys} e (one_more {g = g} {xs = xs} q st) = not_many w g (if_some (covers w (many g)) (Some xs) ys e).0

-- trees of a group, on top of the second stack
pub data Front (g : Group) : Stack → Stack → Type 0 where
  no_tree : {s : Stack} → Front g s s
  a_tree : {t : Tree} {s r : Stack} → is_of g t ≡ true → Front g s r → Front g (built t ∷ s) r

in_group : (g : Group) (x : Shape) (tokens : List Token) (i : Item) → is_all_of g x ≡ true → is_shaped tokens x i ≡ true → (t : Tree) × (i ≡ built t) × (is_of g t ≡ true)
in_group g (stands (one h)) tokens (built t) e q = (t, refl, is_of_like g h t e q)
in_group g (stands (one h)) tokens (begun p) e q = never q
in_group g (many h) tokens i e q = never q
in_group g (stands (optional h)) tokens i e q = never e
in_group g (stands (rows h)) tokens i e q = never e
in_group g _ tokens i e q = never e

-- all trees of a group stand there, and under them what is known
pub under_front : {tokens : List Token} (g : Group) {xs : List Shape} {s b : Stack} → Stands tokens xs s b → (r : Stack) × Front g s r × Stands tokens (under g xs) r b
under_front g {s = s} bottom = (s, no_tree, bottom)
under_front {tokens = tokens} g {b = b} (above {x = x} {i = i} {xs = xs} {s = s} q st) = elim (cases_Bool (is_all_of g x)) [
  | inl y ↦
      let f = in_group g x tokens i y q in
      let h = under_front g st in
      (h.0, subst (λ z. Front g (z ∷ s) h.0) (sym f.1) (a_tree f.2 h.1), subst (λ c. Stands tokens (if c then under g xs else x ∷ xs) h.0 b) (sym y) h.2)
  | inr n ↦ (i ∷ s, no_tree, subst (λ c. Stands tokens (if c then under g xs else x ∷ xs) (i ∷ s) b) (sym n) (above q st))
]
under_front {tokens = tokens} g {s = s} {b = b} (no_more {g = h} {xs = xs} st) = elim (cases_Bool (same_group g h)) [
  | inl y ↦ let f = under_front g st in (f.0, f.1, subst (λ c. Stands tokens (if c then under g xs else many h ∷ xs) f.0 b) (sym y) f.2)
  | inr n ↦ (s, no_tree, subst (λ c. Stands tokens (if c then under g xs else many h ∷ xs) s b) (sym n) (no_more st))
]
under_front {tokens = tokens} g {b = b} (one_more {g = h} {t = t} {xs = xs} {s = s} q st) = elim (cases_Bool (same_group g h)) [
  | inl y ↦ let f = under_front g st in (f.0, a_tree (is_of_like g h t y q) f.1, f.2)
  | inr n ↦ (built t ∷ s, no_tree, subst (λ c. Stands tokens (if c then under g xs else many h ∷ xs) (built t ∷ s) b) (sym n) (one_more q st))
]

front_stands : {tokens : List Token} {g : Group} {xs : List Shape} {s r b : Stack} → Front g s r → Stands tokens xs r b → Stands tokens (many g ∷ xs) s b
front_stands no_tree st = no_more st
front_stands (a_tree q f) st = one_more q (front_stands f st)

-- one of the wanted shapes stands above
abbrev IsWanted : List Token → Shape → List Shape → Stack → Stack → Type 0
IsWanted tokens w xs s b = (m : Stack) × Stands tokens xs m b × ((ws : List Shape) (c : Stack) → Stands tokens ws m c → Stands tokens (w ∷ ws) s c)

wanted_one : {tokens : List Token} (w : Shape) {xs ys : List Shape} {s b : Stack} → under_one w xs ≡ Some ys → Stands tokens xs s b → IsWanted tokens w ys s b
wanted_one {tokens = tokens} w e st = let a = one_above w e st in (a.1, a.4, λ ws c q. subst (λ z. Stands tokens (w ∷ ws) z c) (sym a.2) (above a.3 q))

wanted : {tokens : List Token} (w : Shape) {xs ys : List Shape} {s b : Stack} → under_wanted w xs ≡ Some ys → Stands tokens xs s b → IsWanted tokens w ys s b
wanted {tokens = tokens} (many g) {b = b} e st = let f = under_front g st in (f.0, subst (λ zs. Stands tokens zs f.0 b) (some_equal e) f.2, λ ws c q. front_stands f.1 q)
wanted opens e st = wanted_one opens e st
wanted (opens_at k) e st = wanted_one (opens_at k) e st
wanted (stands sort) e st = wanted_one (stands sort) e st
wanted left_out e st = wanted_one left_out e st
wanted no_row e st = wanted_one no_row e st

-- the wanted shapes stand on top, and what is left of the others under them
pub strip_stands : {tokens : List Token} (ws : List Shape) {xs ys : List Shape} {s b : Stack} → strip ws xs ≡ Some ys → Stands tokens xs s b → (m : Stack) × Stands tokens ws s m × Stands tokens ys m b
strip_stands {tokens = tokens} [] {s = s} {b = b} e st = (s, bottom, subst (λ zs. Stands tokens zs s b) (some_equal e) st)
strip_stands (w ∷ ws) {xs = xs} {ys = ys} e st =
    let a = then_some (under_wanted w xs) (λ rest. strip ws rest) ys e in
    let f = wanted w a.1 st in
    let h = strip_stands ws a.2 f.1 in
    (h.0, f.2 ws h.0 h.1, h.2)
