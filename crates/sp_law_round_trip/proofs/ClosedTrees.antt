-- What stood on the pile is what an action closes: all trees since it began, whatever its slots ask for, or as many as it joins.
use Rattle.std.specs.Prelude.{option_map, length, ◌+◌, if◌then◌else◌}
use Rattle.std.proofs.Common.{◌≡◌, ℕ, zero, suc, List, [], ◌∷◌, ◌++◌, reverse, Bool, true, false, Option, Some, None, refl, sym, ◌∙◌, ap, arith}
use Rattle.std.proofs.lemmas.List.{append-nil}
use Rattle.sp_ast.specs.declared.forms.Form.{Form}
use Rattle.sp_ast.specs.Trees.{Tree, tree, in_row}
use Rattle.sp_ast.specs.declared.groups.Group.{Group}
use Rattle.sp_ast.specs.declared.groups.Group.TheVariants.{Expressions as expressions}
use Rattle.sp_ast.specs.declared.groups.Sort.{Sort}
use Rattle.sp_ast.specs.declared.groups.Sort.TheVariants.{One as one}
use Rattle.sp_ast.specs.declared.groups.Slot.{Slot}
use Rattle.sp_ast.specs.declared.groups.Slot.TheVariants.{Part as a_part, Several as several}
use Rattle.sp_ast.specs.Groups.{fits, is_of, is_node}
use Rattle.sp_build.specs.Rules.{gathers, encloses, joins, wraps}
use Rattle.sp_build.proofs.Standing.{some_equal, not_some}
use Rattle.sp_build.proofs.Told.{never}
use Rattle.sp_law_round_trip.specs.Bare.{nowhere}
use Rattle.sp_law_round_trip.specs.Told.{Telling}
use Rattle.sp_law_round_trip.proofs.Held.{Pile, After, after, after_do, started, made, top, front, start, filled, closed, does}
use Rattle.sp_law_round_trip.proofs.Goes.{pushed}
use Rattle.sp_law_round_trip.proofs.Leaves.{mapped}
use Rattle.sp_law_round_trip.proofs.ShapeRuns.{are_parts}

after_value : {A : Type 0} {x y : A} {s t : Pile} → after x s ≡ after y t → x ≡ y
after_value e = ap (λ z. let w : After _ = z in w.value) e

after_rest : {A : Type 0} {x y : A} {s t : Pile} → after x s ≡ after y t → s ≡ t
after_rest e = ap (λ z. let w : After _ = z in w.rest) e

top_if : (b : Bool) (t u : Tree) (s rest : Pile) → (if b then Some (after t s) else None) ≡ Some (after u rest) → made t ∷ s ≡ made u ∷ rest
top_if true t u s rest h =
    let same = some_equal h in
    let tree_is : t ≡ u = after_value same in
    let rest_is : s ≡ rest = after_rest same in cc
top_if false t u s rest h = not_some h

top_is : (sort : Sort) (s : Pile) (u : Tree) (rest : Pile) → top sort s ≡ Some (after u rest) → s ≡ made u ∷ rest
top_is sort [] u rest h = not_some h
top_is sort (started p ∷ s) u rest h = not_some h
top_is sort (made t ∷ s) u rest h = top_if (fits sort t) t u s rest h

start_rest : (s : Pile) (p : Telling) (rest : Pile) → start s ≡ Some (after p rest) → s ≡ started p ∷ rest
start_rest [] p rest h = not_some h
start_rest (made t ∷ s) p rest h = not_some h
start_rest (started q ∷ s) p rest h =
    let same = some_equal h in
    let telling_is : q ≡ p = after_value same in
    let rest_is : s ≡ rest = after_rest same in cc

-- an answer that goes on came from one
after_some : {A B : Type 0} (o : Option (After A)) (go : A → Pile → Option B) (y : B) → after_do o go ≡ Some y → (x : A) × (rest : Pile) × (o ≡ Some (after x rest)) × (go x rest ≡ Some y)
after_some None go y h = not_some h
after_some (Some x) go y h = (x.value, x.rest, refl, h)

-- all trees that stand last
abbrev standing : Pile → List Tree → After (List Tree)
standing s ts = front (λ t. true) s ts

standing_pushed : (ts : List Tree) (s : Pile) (us : List Tree) → standing (pushed ts s) us ≡ standing s (ts ++ us)
standing_pushed [] s us = refl
standing_pushed (t ∷ ts) s us = standing_pushed ts (made t ∷ s) us

front_if : (b : Bool) (x y : After (List Tree)) (z : After (List Tree)) → z ≡ standing x.rest x.value → z ≡ standing y.rest y.value → z ≡ standing (if b then x else y).rest (if b then x else y).value
front_if true x y z p q = p
front_if false x y z p q = q

front_standing : (wanted : Tree → Bool) (s : Pile) (us : List Tree) → standing s us ≡ standing (front wanted s us).rest (front wanted s us).value
front_standing wanted [] us = refl
front_standing wanted (started p ∷ s) us = refl
front_standing wanted (made t ∷ s) us = front_if (wanted t) (front wanted s (t ∷ us)) (after us (made t ∷ s)) (standing (made t ∷ s) us) (front_standing wanted s (t ∷ us)) refl

filled_standing : (slots : List Slot) (us : List Tree) (s : Pile) (vs : List Tree) (rest : Pile) → filled slots us s ≡ Some (after vs rest) → standing s us ≡ standing rest vs
filled_standing [] us s vs rest h = ap (λ x. let y : After (List Tree) = x in standing y.rest y.value) (some_equal h)
filled_standing (a_part sort ∷ slots) us s vs rest h =
    let (t, below, is, goes) = after_some (top sort s) (λ t rest. filled slots (t ∷ us) rest) (after vs rest) h in
    ap (λ z. standing z us) (top_is sort s t below is) ∙ filled_standing slots (t ∷ us) below vs rest goes
filled_standing (several g ∷ slots) us s vs rest h =
    let found = front (is_of g) s us in
    front_standing (is_of g) s us ∙ filled_standing slots found.value found.rest vs rest h

-- what is popped down to a beginning is what was pushed on it
since : (s : Pile) (ts : List Tree) (q : Telling) (under : Pile) (vs : List Tree) (rest : Pile) (p : Telling) (below : Pile) → s ≡ pushed ts (started q ∷ under) → standing s [] ≡ standing rest vs → start rest ≡ Some (after p below) → (vs ≡ ts) × (p ≡ q) × (below ≡ under)
since s ts q under vs rest p below is popped begun =
    let all : after (ts ++ []) (started q ∷ under) ≡ after vs (started p ∷ below) = sym (standing_pushed ts (started q ∷ under) []) ∙ ap (λ z. standing z []) (sym is) ∙ popped ∙ ap (λ z. standing z vs) (start_rest rest p below begun) in
    let starts : started q ∷ under ≡ started p ∷ below = after_rest all in
    let same : q ≡ p = cc in
    let lower : under ≡ below = cc in
    (sym (after_value all) ∙ append-nil ts, sym same, sym lower)

pub closed_so : (slots : List Slot) (form : Telling → Option Form) (s t : Pile) (ts : List Tree) (q : Telling) (under : Pile) → s ≡ pushed ts (started q ∷ under) → closed slots form s ≡ Some t → (f : Form) × (form q ≡ Some f) × (t ≡ made (tree f nowhere ts) ∷ under)
closed_so slots form s t ts q under is h =
    let (vs, rest, filled_so, h) = after_some (filled (reverse slots) [] s) _ t h in
    let (p, below, begun, h) = after_some (start rest) _ t h in
    let (f, lower, told_so, h) = after_some (option_map (λ f. after f below) (form p)) (λ f under. Some (made (tree f nowhere vs) ∷ under)) t h in
    let (g, form_is, same) = mapped (λ f. after f below) (form p) (after f lower) told_so in
    let g_is : g ≡ f = after_value same in
    let lower_is : below ≡ lower = after_rest same in
    let (trees_are, telling_is, under_is) = since s ts q under vs rest p below is (filled_standing (reverse slots) [] s vs rest filled_so) begun in (
      f,
      ap form (sym telling_is) ∙ form_is ∙ ap Some g_is,
      sym (some_equal h) ∙ ap (λ us. made (tree f nowhere us) ∷ lower) trees_are ∙ ap (λ z. made (tree f nowhere ts) ∷ z) (sym lower_is ∙ under_is),
    )

pub gathered_so : (x : Telling) (s t : Pile) (ts : List Tree) (q : Telling) (under : Pile) → s ≡ pushed ts (started q ∷ under) → does gathers x s ≡ Some t → t ≡ made (in_row ts) ∷ under
gathered_so x s t ts q under is h =
    let found = front is_node s [] in
    let (p, below, begun, h) = after_some (start found.rest) _ t h in
    let (trees_are, telling_is, under_is) = since s ts q under found.value found.rest p below is (front_standing is_node s []) begun in
    sym (some_equal h) ∙ ap (λ us. made (in_row us) ∷ below) trees_are ∙ ap (λ z. made (in_row ts) ∷ z) under_is

pub enclosed_so : (x : Telling) (s t : Pile) (ts : List Tree) (q : Telling) (under : Pile) → s ≡ pushed ts (started q ∷ under) → does encloses x s ≡ Some t → (u : Tree) × (u ∷ [] ≡ ts) × (t ≡ made u ∷ under)
enclosed_so x s t ts q under is h =
    let (u, rest, top_so, h) = after_some (top (one expressions) s) _ t h in
    let (p, below, begun, h) = after_some (start rest) _ t h in
    let (trees_are, telling_is, under_is) = since s ts q under (u ∷ []) rest p below is (ap (λ z. standing z []) (top_is (one expressions) s u rest top_so)) begun in
    (u, trees_are, sym (some_equal h) ∙ ap (λ z. made u ∷ z) under_is)

-- as many of the last trees
abbrev taken : ℕ → Pile → List Tree → After (List Tree)
taken zero s ts = after ts s
taken (suc n) (made t ∷ s) ts = taken n s (t ∷ ts)
taken (suc n) s ts = after ts s

filled_taken : (slots : List Slot) (us : List Tree) (s : Pile) (vs : List Tree) (rest : Pile) → are_parts slots ≡ true → filled slots us s ≡ Some (after vs rest) → taken (length slots) s us ≡ after vs rest
filled_taken [] us s vs rest ok h = some_equal h
filled_taken (a_part sort ∷ slots) us s vs rest ok h =
    let (t, below, is, goes) = after_some (top sort s) (λ t rest. filled slots (t ∷ us) rest) (after vs rest) h in
    ap (λ z. taken (suc (length slots)) z us) (top_is sort s t below is) ∙ filled_taken slots (t ∷ us) below vs rest ok goes
filled_taken (several g ∷ slots) us s vs rest ok h = never ok

taken_pushed : (ts : List Tree) (k n : ℕ) (s : Pile) (us : List Tree) → n ≡ length ts + k → taken n (pushed ts s) us ≡ taken k s (ts ++ us)
taken_pushed [] k n s us is = let same : n ≡ k = omega (arith, is) in ap (λ m. taken m s us) same
taken_pushed (t ∷ ts) k n s us is = let same : n ≡ length ts + suc k = omega (arith, is) in taken_pushed ts (suc k) n (made t ∷ s) us same

last_taken : (s b : Pile) (ts vs : List Tree) (n : ℕ) (rest : Pile) → s ≡ pushed ts b → length ts ≡ n → taken n s [] ≡ after vs rest → (vs ≡ ts) × (rest ≡ b)
last_taken s b ts vs n rest is long h =
    let counted : n ≡ length ts + 0 = omega (arith, long) in
    let all : after (ts ++ []) b ≡ after vs rest = sym (taken_pushed ts 0 n b [] counted) ∙ ap (λ z. taken n z []) (sym is) ∙ h in
    (sym (after_value all) ∙ append-nil ts, sym (after_rest all))

pub joined_so : (slots : List Slot) (form : Form) (x : Telling) (s t b : Pile) (ts : List Tree) → s ≡ pushed ts b → are_parts (reverse slots) ≡ true → length ts ≡ length (reverse slots) → does (joins slots form) x s ≡ Some t → t ≡ made (tree form nowhere ts) ∷ b
joined_so slots form x s t b ts is ok long h =
    let (vs, rest, filled_so, h) = after_some (filled (reverse slots) [] s) _ t h in
    let (trees_are, rest_is) = last_taken s b ts vs (length (reverse slots)) rest is long (filled_taken (reverse slots) [] s vs rest ok filled_so) in
    sym (some_equal h) ∙ ap (λ us. made (tree form nowhere us) ∷ rest) trees_are ∙ ap (λ z. made (tree form nowhere ts) ∷ z) rest_is

pub wrapped_so : (g : Group) (form : Form) (x : Telling) (s t b : Pile) (ts : List Tree) → s ≡ pushed ts b → length ts ≡ 1 → does (wraps g form) x s ≡ Some t → t ≡ made (tree form nowhere ts) ∷ b
wrapped_so g form x s t b ts is long h =
    let (u, rest, top_so, h) = after_some (top (one g) s) _ t h in
    let (trees_are, rest_is) = last_taken s b ts (u ∷ []) 1 rest is long (ap (λ z. taken 1 z []) (top_is (one g) s u rest top_so)) in
    sym (some_equal h) ∙ ap (λ us. made (tree form nowhere us) ∷ rest) trees_are ∙ ap (λ z. made (tree form nowhere ts) ∷ z) rest_is
