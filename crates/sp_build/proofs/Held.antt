-- What each change of the stack's lists makes of the stack, and that they still hold together.
use Rattle.std.specs.Prelude.{reverse}
use Rattle.std.proofs.Common.{◌≡◌, ℕ, ◌+◌, ◌-◌, ◌<◌, ◌≤◌, zero, suc, List, [], ◌∷◌, ◌++◌, length, get_or, take, drop, true, refl, ap, sym, ◌∙◌, subst, arith, inl, inr}
use Rattle.std.specs.Prelude.{None}
use Rattle.std.proofs.lemmas.Bool.{cases_eq}
use Rattle.std.proofs.lemmas.List.{get_or_default, drop-map, length-drop, drop-append-le, get_or-map, map-append, length-append, length-map, length-take-le, length_push, reverse-append, take-append-le, take_at, take_all, take_more, take-map, get_or_at, same_from_push}
use Rattle.sp_base.specs.declared.places.Span.{Span}
use Rattle.sp_ast.specs.Trees.{Tree, absent, row, none, in_row, respan}
use Rattle.sp_ast.specs.Groups.{is_node}
use Rattle.sp_ast.specs.Places.{tree_at, trees_at, IsPlace, ArePlaces, left_out, no_parts}
use Rattle.sp_ast.proofs.ByPlace.{at_row, at_tree, at_none, trees_stay, places_later}
use Rattle.sp_build.proofs.Told.{never}
use Rattle.sp_build.specs.declared.stack.Begin.{Begin}
use Rattle.sp_build.specs.Items.{begun, built}
use Rattle.sp_build.specs.Building.{Stack, opened}
use Rattle.sp_build.specs.Stacks.{built_on, stack_of, floor_of, AreInOrder, Holds, last_trees, AreTrees, IsFloor, IsNodeOnTop}
use Rattle.sp_build.proofs.OnStack.{tree_put, begin_put, above_floor, Cut, cut, on_begin, on_tree, at_floor, next_item}

-- places of lists
places_push : (ts : List Tree) (ps : List ℕ) (at : ℕ) → ArePlaces ts ps → IsPlace ts at → ArePlaces ts (ps ++ at ∷ [])
places_push ts [] at are is = (is, tt)
places_push ts (p ∷ ps) at are is = (are.0, places_push ts ps at are.1 is)

places_front : (ts : List Tree) (n : ℕ) (ps : List ℕ) → ArePlaces ts ps → ArePlaces ts (take n ps)
places_front ts zero ps are = tt
places_front ts (suc n) [] are = tt
places_front ts (suc n) (p ∷ ps) are = (are.0, places_front ts n ps are.1)

pub places_drop : (ts : List Tree) (n : ℕ) (ps : List ℕ) → ArePlaces ts ps → ArePlaces ts (drop n ps)
places_drop ts zero ps are = are
places_drop ts (suc n) [] are = tt
places_drop ts (suc n) (p ∷ ps) are = places_drop ts n ps are.1

in_order_above : (bs : List Begin) (m n : ℕ) → m ≤ n → AreInOrder bs m → AreInOrder bs n
in_order_above [] m n h are = tt
in_order_above (b ∷ bs) m n h are = (omega (arith, are.0), are.1)

in_order_push : (bs : List Begin) (m n : ℕ) → AreInOrder bs m → floor_of bs ≤ n → AreInOrder bs n
in_order_push [] m n order h = tt
in_order_push (b ∷ bs) m n order h = (h, order.1)

floor_within : (bs : List Begin) (n : ℕ) → AreInOrder bs n → floor_of bs ≤ n
floor_within [] n are = omega arith
floor_within (b ∷ bs) n are = are.0

-- a list ends with its last item
data Ending {A : Type 0} : List A → Type 0 where
  nothing : Ending []
  ends : (xs : List A) (x : A) → Ending (xs ++ x ∷ [])

ending : {A : Type 0} (xs : List A) → Ending xs
ending [] = nothing
ending (x ∷ xs) = behind x (ending xs)
  where
    behind : {A : Type 0} (x : A) {xs : List A} → Ending xs → Ending (x ∷ xs)
    behind x nothing = ends [] x
    behind x (ends ys y) = ends (x ∷ ys) y

count_of : (ts : List Tree) (ps : List ℕ) → length (trees_at ts ps) ≡ length ps
count_of ts ps = length-map ps (tree_at ts)

-- the last tree, and those below
record Top (bs : List Begin) (ts : List Tree) (t : Tree) (s : Stack) : Type 0 where
  below : List Tree
  whole : ts ≡ below ++ t ∷ []
  within : floor_of bs ≤ length below
  rest : s ≡ stack_of bs below

top_of : (bs : List Begin) {ts : List Tree} (t : Tree) (s : Stack) → Ending ts → floor_of bs + 1 ≤ length ts → stack_of bs ts ≡ built t ∷ s → Top bs ts t s
top_of bs t s nothing h e = absurd (omega (arith, h))
top_of bs t s (ends xs u) h e =
    let within : floor_of bs ≤ length xs = omega (arith, h, length_push xs u) in
    let p : built u ∷ stack_of bs xs ≡ built t ∷ s = sym (tree_put bs xs u within) ∙ e in
    let same : u ≡ t = cc in
    let rest : s ≡ stack_of bs xs = cc in
    record { below = xs; whole = ap (λ (x : Tree). xs ++ x ∷ []) same; within = within; rest = rest }

top : (bs : List Begin) (ts : List Tree) (t : Tree) (s : Stack) → AreInOrder bs (length ts) → stack_of bs ts ≡ built t ∷ s → Top bs ts t s
top bs ts t s order e =
    let one : AreTrees 1 (stack_of bs ts) = subst (AreTrees 1) (sym e) tt in
    top_of bs t s (ending ts) (above_floor bs ts 1 order one) e

-- the list of places under the last one
record TopPlace (ts : List Tree) (ps : List ℕ) (below : List Tree) (t : Tree) : Type 0 where
  front : List ℕ
  at : ℕ
  whole : ps ≡ front ++ at ∷ []
  under : trees_at ts front ≡ below
  is : tree_at ts at ≡ t

top_place : (ts : List Tree) {ps : List ℕ} (below : List Tree) (t : Tree) → Ending ps → trees_at ts ps ≡ below ++ t ∷ [] → TopPlace ts ps below t
top_place ts below t nothing e = absurd (let n : 0 ≡ length below + 1 = ap length e ∙ length_push below t in omega (arith, n))
top_place ts below t (ends qs q) e =
    let p = same_from_push (trees_at ts qs) below (tree_at ts q) t (sym (map-append (tree_at ts) qs (q ∷ [])) ∙ e) in
    record { front = qs; at = q; whole = refl; under = p.0; is = p.1 }

-- a tree that began
pub begin_holds : (ts : List Tree) (ps : List ℕ) (bs bs' : List Begin) (b : Begin) → bs' ≡ bs ++ b ∷ [] → b.below ≡ length ps → Holds ts ps bs → Holds ts ps bs' × (stack_of (reverse bs') (trees_at ts ps) ≡ begun b.token ∷ stack_of (reverse bs) (trees_at ts ps))
begin_holds ts ps bs bs' b e below holds =
    let r : reverse bs' ≡ b ∷ reverse bs = ap reverse e ∙ reverse-append bs (b ∷ []) in (
      record {
        known = holds.known;
        in_order = subst (λ (l : List Begin). AreInOrder l (length ps)) (sym r) (omega (arith, below), subst (AreInOrder (reverse bs)) (sym below) holds.in_order);
        on_top = holds.on_top;
      },
      ap (λ (l : List Begin). stack_of l (trees_at ts ps)) r ∙ begin_put b (reverse bs) (trees_at ts ps) (below ∙ sym (count_of ts ps)),
    )

-- The last trees, so many, are replaced by one that was built of them.
pub joined : (ts us : List Tree) (ps : List ℕ) (bs : List Begin) (n at : ℕ) (t : Tree) → Holds ts ps bs → length (ts ++ us) ≤ no_parts → AreTrees n (stack_of (reverse bs) (trees_at ts ps)) → IsPlace (ts ++ us) at → tree_at (ts ++ us) at ≡ t → (is_node t ≡ true → (at ≡ length ts) × (length us ≡ 1))
    → Holds (ts ++ us) (take (length ps - n) ps ++ at ∷ []) bs × (stack_of (reverse bs) (trees_at (ts ++ us) (take (length ps - n) ps ++ at ∷ [])) ≡ built t ∷ drop n (stack_of (reverse bs) (trees_at ts ps)))
joined ts us ps bs n at t holds few are is tree_is last =
    let rs = reverse bs in
    let count : length (trees_at ts ps) ≡ length ps = count_of ts ps in
    let order : AreInOrder rs (length (trees_at ts ps)) = subst (AreInOrder rs) (sym count) holds.in_order in
    let c : Cut rs (trees_at ts ps) n = cut rs (trees_at ts ps) n order are in
    let from = length ps - n in
    let within : floor_of rs + n ≤ length ps = omega (arith, c.within, count) in
    let front = take from ps in
    let short : length front ≡ from = length-take-le from ps (omega arith) in
    let known : ArePlaces ts front = places_front ts from ps holds.known in
    let stay : trees_at (ts ++ us) front ≡ trees_at ts front = trees_stay ts us front few known in
    let all : trees_at (ts ++ us) (front ++ at ∷ []) ≡ trees_at ts front ++ t ∷ [] = map-append (tree_at (ts ++ us)) front (at ∷ []) ∙ ap (λ (l : List Tree). l ++ tree_at (ts ++ us) at ∷ []) stay ∙ ap (λ (x : Tree). trees_at ts front ++ x ∷ []) tree_is in
    let trees_under : trees_at ts front ≡ take (length (trees_at ts ps) - n) (trees_at ts ps) = sym (take-map (tree_at ts) from ps) ∙ ap (λ (k : ℕ). take (k - n) (trees_at ts ps)) (sym count) in
    let floor : floor_of rs ≤ length (trees_at ts front) = omega (arith, within, count_of ts front, short) in (
      record {
        known = places_push (ts ++ us) front at (places_later ts us front known) is;
        in_order = in_order_push rs (length ps) (length (front ++ at ∷ [])) holds.in_order (omega (arith, within, short, length_push front at));
        on_top = λ below x e q.
            let same = same_from_push front below at x e in
            let top_is : is_node t ≡ true = ap is_node (sym tree_is) ∙ ap (λ (y : ℕ). is_node (tree_at (ts ++ us) y)) same.1 ∙ q in
            let l = last top_is in
            let here : x ≡ length ts = sym same.1 ∙ l.0 in
            let whole : take x (ts ++ us) ≡ ts = take_at ts us x (sym here) in
            (omega (arith, here, l.1, length-append ts us), subst (λ (l : List Tree). ArePlaces l below) (sym whole) (subst (ArePlaces ts) same.0 known));
      },
      ap (stack_of rs) all ∙ tree_put rs (trees_at ts front) t floor ∙ ap (λ (s : Stack). built t ∷ s) (ap (stack_of rs) trees_under ∙ sym c.under),
    )

-- so many trees stand above the last place where a tree began
pub count_within : (ts : List Tree) (ps : List ℕ) (bs : List Begin) (n : ℕ) → Holds ts ps bs → AreTrees n (stack_of (reverse bs) (trees_at ts ps)) → floor_of (reverse bs) + n ≤ length ps
count_within ts ps bs n holds are =
    let order : AreInOrder (reverse bs) (length (trees_at ts ps)) = subst (AreInOrder (reverse bs)) (sym (count_of ts ps)) holds.in_order in
    let h = above_floor (reverse bs) (trees_at ts ps) n order are in omega (arith, h, count_of ts ps)

-- the places of the last trees, as the code takes them
pub parts_places : (ps list : List ℕ) (spare n end : ℕ) → list ≡ ps ++ spare ∷ [] → end ≡ length ps → n ≤ end → take (end - (end - n)) (drop (end - n) list) ≡ drop (length ps - n) ps
parts_places ps list spare n end e count h =
    let from = length ps - n in
    let k : end - (end - n) ≡ n = omega (arith, h) in
    let m : end - n ≡ from = omega (arith, count) in
    let behind : drop from list ≡ drop from ps ++ spare ∷ [] = ap (drop from) e ∙ drop-append-le from ps (spare ∷ []) (omega arith) in
    let long : length (drop from ps) ≡ n = omega (arith, length-drop from ps, count, h) in
    ap (λ (x : ℕ). take x (drop (end - n) list)) k ∙ ap (λ (x : ℕ). take n (drop x list)) m ∙ ap (take n) behind ∙ take_at (drop from ps) (spare ∷ []) n long

pub parts_trees : (ts : List Tree) (ps : List ℕ) (bs : List Begin) (n : ℕ) → Holds ts ps bs → AreTrees n (stack_of (reverse bs) (trees_at ts ps)) → trees_at ts (drop (length ps - n) ps) ≡ last_trees n (stack_of (reverse bs) (trees_at ts ps))
parts_trees ts ps bs n holds are =
    let order : AreInOrder (reverse bs) (length (trees_at ts ps)) = subst (AreInOrder (reverse bs)) (sym (count_of ts ps)) holds.in_order in
    let c = cut (reverse bs) (trees_at ts ps) n order are in
    sym (drop-map (tree_at ts) (length ps - n) ps) ∙ ap (λ (k : ℕ). drop (k - n) (trees_at ts ps)) (sym (count_of ts ps)) ∙ sym c.last

places_now : (ps : List ℕ) (spare n end at : ℕ) → end ≡ length ps → n ≤ end → take (end - n) (ps ++ spare ∷ []) ++ at ∷ [] ≡ take (length ps - n) ps ++ at ∷ []
places_now ps spare n end at count h =
    let m : end - n ≡ length ps - n = omega (arith, count) in
    ap (λ (k : ℕ). take k (ps ++ spare ∷ []) ++ at ∷ []) m ∙ ap (λ (l : List ℕ). l ++ at ∷ []) (take-append-le (length ps - n) ps (spare ∷ []) (omega arith))

-- What the code makes of the last trees, so many, of an arena, of places and of the stack that they stand for.
pub record Joined (ts' : List Tree) (ps' : List ℕ) (bs : List Begin) (t : Tree) (rest : Stack) : Type 0 where
  pub holds : Holds ts' ps' bs
  pub stack : stack_of (reverse bs) (trees_at ts' ps') ≡ built t ∷ rest

pub joined_tree : (ts ts' : List Tree) (ps ps' list : List ℕ) (bs : List Begin) (n end at spare : ℕ) (t u : Tree) (s : Stack) → Holds ts ps bs → AreTrees n s → stack_of (reverse bs) (trees_at ts ps) ≡ s → (at ≡ length ts) × (at < no_parts) × (ts' ≡ ts ++ u ∷ []) → u ≡ t → length ts' ≤ no_parts → end ≡ length ps → list ≡ ps ++ spare ∷ [] → ps' ≡ take (end - n) list ++ at ∷ [] → Joined ts' ps' bs t (drop n s)
joined_tree ts ts' ps ps' list bs n end at spare t u s holds are view ok same few count list_is places =
    let there : AreTrees n (stack_of (reverse bs) (trees_at ts ps)) = subst (AreTrees n) (sym view) are in
    let within = count_within ts ps bs n holds there in
    let now : ts' ≡ ts ++ t ∷ [] = ok.2 ∙ ap (λ (x : Tree). ts ++ x ∷ []) same in
    let few_now : length (ts ++ t ∷ []) ≤ no_parts = subst (λ (l : List Tree). length l ≤ no_parts) now few in
    let ps_now : ps' ≡ take (length ps - n) ps ++ at ∷ [] = places ∙ ap (λ (l : List ℕ). take (end - n) l ++ at ∷ []) list_is ∙ places_now ps spare n end at count (omega (arith, within, count)) in
    let n_is : at ≡ no_parts → ⊥ = λ q. omega (arith, ok.1, q) in
    let is_there : tree_at (ts ++ t ∷ []) at ≡ t = at_tree (ts ++ t ∷ []) at n_is ∙ get_or_at ts t [] absent at (sym ok.0) in
    let j = joined ts (t ∷ []) ps bs n at t holds few_now there (inl (omega (arith, ok.0, length_push ts t))) is_there (λ q. (ok.0, refl)) in
    rw (now, ps_now) (record { holds = j.0; stack = j.1 ∙ ap (λ (z : Stack). built t ∷ drop n z) view })

pub joined_row : (ts ts' us : List Tree) (ps ps' list : List ℕ) (bs : List Begin) (n end at spare : ℕ) (ts_in : List Tree) (s : Stack) → Holds ts ps bs → AreTrees n s → stack_of (reverse bs) (trees_at ts ps) ≡ s → ts' ≡ ts ++ us → IsPlace ts' at → tree_at ts' at ≡ in_row ts_in → length ts' ≤ no_parts → end ≡ length ps → list ≡ ps ++ spare ∷ [] → ps' ≡ take (end - n) list ++ at ∷ [] → Joined ts' ps' bs (in_row ts_in) (drop n s)
joined_row ts ts' us ps ps' list bs n end at spare ts_in s holds are view now is tree_is few count list_is places =
    let there : AreTrees n (stack_of (reverse bs) (trees_at ts ps)) = subst (AreTrees n) (sym view) are in
    let within = count_within ts ps bs n holds there in
    let few_now : length (ts ++ us) ≤ no_parts = subst (λ (l : List Tree). length l ≤ no_parts) now few in
    let ps_now : ps' ≡ take (length ps - n) ps ++ at ∷ [] = places ∙ ap (λ (l : List ℕ). take (end - n) l ++ at ∷ []) list_is ∙ places_now ps spare n end at count (omega (arith, within, count)) in
    let j = joined ts us ps bs n at (in_row ts_in) holds few_now there (subst (λ (l : List Tree). IsPlace l at) now is) (ap (λ (l : List Tree). tree_at l at) (sym now) ∙ tree_is) (λ q. never q) in
    rw (now, ps_now) (record { holds = j.0; stack = j.1 ∙ ap (λ (z : Stack). built (in_row ts_in) ∷ drop n z) view })

-- a part that is left out
pub left_out_holds : (ts : List Tree) (ps : List ℕ) (bs : List Begin) → Holds ts ps bs → length ts ≤ no_parts → Holds ts (ps ++ left_out ∷ []) bs × (stack_of (reverse bs) (trees_at ts (ps ++ left_out ∷ [])) ≡ built absent ∷ stack_of (reverse bs) (trees_at ts ps))
left_out_holds ts ps bs holds few =
    let nowhere : tree_at ts left_out ≡ absent = at_none ts left_out (λ e. omega (arith, e)) (omega (arith, few)) in
    let rs = reverse bs in
    let all : trees_at ts (ps ++ left_out ∷ []) ≡ trees_at ts ps ++ absent ∷ [] = map-append (tree_at ts) ps (left_out ∷ []) ∙ ap (λ (x : Tree). trees_at ts ps ++ x ∷ []) nowhere in (
      record {
        known = places_push ts ps left_out holds.known (inr (omega arith));
        in_order = in_order_above rs (length ps) (length (ps ++ left_out ∷ [])) (omega (arith, length_push ps left_out)) holds.in_order;
        on_top = λ below x e q.
            let same = same_from_push ps below left_out x e in
            let n : is_node absent ≡ true = ap is_node (sym nowhere) ∙ ap (λ (y : ℕ). is_node (tree_at ts y)) same.1 ∙ q in absurd (cc);
      },
      ap (stack_of rs) all ∙ tree_put rs (trees_at ts ps) absent (omega (arith, floor_within rs (length ps) holds.in_order, count_of ts ps)),
    )

-- a tree has ended, and is on top
ended_under : (rs : List Begin) (ts : List Tree) (t : Tree) (p : ℕ) (s : Stack) → AreInOrder rs (length ts) → stack_of rs ts ≡ built t ∷ begun p ∷ s → (b : Begin) × (bs : List Begin) × (rs ≡ b ∷ bs) × (stack_of bs ts ≡ built t ∷ s)
ended_under rs ts t p s order e =
    let f = top rs ts t (begun p ∷ s) order e in
    opened_at rs f.below order f.within f.whole (sym f.rest)
  where
    no_begin : (below : List Tree) → Ending below → begun p ∷ s ≡ stack_of [] below → ⊥
    no_begin below nothing q = absurd (cc)
    no_begin below (ends xs x) q = let r = q ∙ tree_put [] xs x (omega arith) in absurd (cc)

    all_above : (b : Begin) (bs : List Begin) (below : List Tree) → Ending below → b.below < length below → begun p ∷ s ≡ stack_of (b ∷ bs) below → ⊥
    all_above b bs below nothing h q = absurd (omega (arith, h))
    all_above b bs below (ends xs x) h q =
        let r = q ∙ tree_put (b ∷ bs) xs x (omega (arith, h, length_push xs x)) in absurd (cc)

    opened_at : (rs : List Begin) (below : List Tree) → AreInOrder rs (length ts) → floor_of rs ≤ length below → ts ≡ below ++ t ∷ [] → stack_of rs below ≡ begun p ∷ s → (b : Begin) × (bs : List Begin) × (rs ≡ b ∷ bs) × (stack_of bs ts ≡ built t ∷ s)
    opened_at [] below order within whole q = absurd (no_begin below (ending below) (sym q))
    opened_at (b ∷ bs) below order within whole q = elim (cases_eq b.below (length below)) [
      | inl e ↦
          let r : begun b.token ∷ stack_of bs below ≡ begun p ∷ s = sym (begin_put b bs below e) ∙ q in
          let rest : stack_of bs below ≡ s = cc in
          let floor : floor_of bs ≤ length below = omega (arith, floor_within bs b.below order.1, e) in
          (b, bs, refl, ap (stack_of bs) whole ∙ tree_put bs below t floor ∙ ap (λ (z : Stack). built t ∷ z) rest)
      | inr n ↦ absurd (all_above b bs below (ending below) (omega (arith, within, n)) (sym q))
    ]

pub ended : (ts : List Tree) (ps : List ℕ) (bs cs : List Begin) (b : Begin) → bs ≡ cs ++ b ∷ [] → Holds ts ps bs → Holds ts ps cs × ((t : Tree) (p : ℕ) (s : Stack) → stack_of (reverse bs) (trees_at ts ps) ≡ built t ∷ begun p ∷ s → stack_of (reverse cs) (trees_at ts ps) ≡ built t ∷ s)
ended ts ps bs cs b e holds =
    let r : reverse bs ≡ b ∷ reverse cs = ap reverse e ∙ reverse-append cs (b ∷ []) in
    let order : AreInOrder (b ∷ reverse cs) (length ps) = subst (λ (l : List Begin). AreInOrder l (length ps)) r holds.in_order in (
      record { known = holds.known; in_order = in_order_above (reverse cs) b.below (length ps) order.0 order.1; on_top = holds.on_top },
      λ t p s q.
          let u = ended_under (b ∷ reverse cs) (trees_at ts ps) t p s (subst (AreInOrder (b ∷ reverse cs)) (sym (count_of ts ps)) order) (ap (λ (l : List Begin). stack_of l (trees_at ts ps)) (sym r) ∙ q) in
          let same : reverse cs ≡ u.1 = cc (u.2) in
          ap (λ (l : List Begin). stack_of l (trees_at ts ps)) same ∙ u.3,
    )

pub ended_none : (ts : List Tree) (ps : List ℕ) (t : Tree) (p : ℕ) (s : Stack) → stack_of [] (trees_at ts ps) ≡ built t ∷ begun p ∷ s → ⊥
ended_none ts ps t p s q =
    let u = ended_under [] (trees_at ts ps) t p s tt q in absurd (cc (u.2))

pub ended_last : (ts : List Tree) (ps : List ℕ) (bs cs : List Begin) (count : ℕ) → count ≡ length bs → 0 < count → cs ≡ take (count - 1) bs → Holds ts ps bs → Holds ts ps cs × ((t : Tree) (p : ℕ) (s : Stack) → stack_of (reverse bs) (trees_at ts ps) ≡ built t ∷ begun p ∷ s → stack_of (reverse cs) (trees_at ts ps) ≡ built t ∷ s)
ended_last ts ps bs cs count is some_there e holds =
    let d : Begin = record { token = 0; below = 0 } in
    let n = count - 1 in
    let whole : bs ≡ take n bs ++ get_or bs n d ∷ [] = sym (take_all (n + 1) bs (omega (arith, is, some_there))) ∙ take_more bs n d (omega (arith, is, some_there)) in
    ended ts ps bs cs (get_or bs n d) (whole ∙ ap (λ (l : List Begin). l ++ get_or bs n d ∷ []) (sym e)) holds

pub ended_nowhere : (ts : List Tree) (ps : List ℕ) (bs : List Begin) (count : ℕ) (t : Tree) (p : ℕ) (s : Stack) → count ≡ length bs → count ≤ 0 → stack_of (reverse bs) (trees_at ts ps) ≡ built t ∷ begun p ∷ s → ⊥
ended_nowhere ts ps [] count t p s is no_begins q = ended_none ts ps t p s q
ended_nowhere ts ps (b ∷ bs) count t p s is no_begins q = omega (arith, is)

-- the last tree on another slice of the text
is_below : (ts : List Tree) (at : ℕ) → is_node (tree_at ts at) ≡ true → tree_at ts at ≡ get_or ts at absent
is_below ts at q = elim (cases_eq at no_parts) [
  | inl e ↦ let r : is_node (row none) ≡ true = ap is_node (sym (at_row ts at e)) ∙ q in absurd (cc)
  | inr n ↦ at_tree ts at n
]

pub respanned_top : (ts ts' : List Tree) (ps : List ℕ) (bs : List Begin) (span : Span) → length ts ≤ no_parts → Holds ts ps bs → IsNodeOnTop (stack_of (reverse bs) (trees_at ts ps)) → ((us : List Tree) (t : Tree) → ts ≡ us ++ t ∷ [] → ts' ≡ us ++ respan span t ∷ [])
    → Holds ts' ps bs × ((t : Tree) (s : Stack) → stack_of (reverse bs) (trees_at ts ps) ≡ built t ∷ s → stack_of (reverse bs) (trees_at ts' ps) ≡ built (respan span t) ∷ s)
respanned_top ts ts' ps bs span few holds is_node_there respans = of_top (stack_of (reverse bs) (trees_at ts ps)) refl is_node_there
  where
    rs : List Begin
    rs = reverse bs

    of_top : (whole : Stack) → whole ≡ stack_of (reverse bs) (trees_at ts ps) → IsNodeOnTop whole → Holds ts' ps bs × ((t : Tree) (s : Stack) → stack_of (reverse bs) (trees_at ts ps) ≡ built t ∷ s → stack_of (reverse bs) (trees_at ts' ps) ≡ built (respan span t) ∷ s)
    of_top [] e is = absurd is
    of_top (begun p ∷ s) e is = absurd is
    of_top (built t ∷ s) e is =
        let order : AreInOrder (reverse bs) (length (trees_at ts ps)) = subst (AreInOrder (reverse bs)) (sym (count_of ts ps)) holds.in_order in
        let f = top (reverse bs) (trees_at ts ps) t s order (sym e) in
        let g = top_place ts f.below t (ending ps) f.whole in
        let is_there : is_node (tree_at ts g.at) ≡ true = ap is_node g.is ∙ is in
        let last = holds.on_top g.front g.at g.whole is_there in
        let below = take g.at ts in
        let short : length below ≡ g.at = length-take-le g.at ts (omega (arith, last.0)) in
        let here : get_or ts g.at absent ≡ t = sym (is_below ts g.at is_there) ∙ g.is in
        let split : ts ≡ below ++ t ∷ [] = sym (take_all (g.at + 1) ts (omega (arith, last.0))) ∙ take_more ts g.at absent (omega (arith, last.0)) ∙ ap (λ (x : Tree). below ++ x ∷ []) here in
        let now : ts' ≡ below ++ respan span t ∷ [] = respans below t split in
        let few_now : length (below ++ respan span t ∷ []) ≤ no_parts = omega (arith, few, length_push below (respan span t), short, last.0) in
        let few_then : length (below ++ t ∷ []) ≤ no_parts = omega (arith, few, length_push below t, short, last.0) in
        let n : g.at ≡ no_parts → ⊥ = λ q. omega (arith, few, last.0, q) in
        let is_now : tree_at ts' g.at ≡ respan span t = at_tree ts' g.at n ∙ ap (λ (l : List Tree). get_or l g.at absent) now ∙ get_or_at below (respan span t) [] absent g.at short in
        let front_now : trees_at ts' g.front ≡ trees_at below g.front = ap (λ (l : List Tree). trees_at l g.front) now ∙ trees_stay below (respan span t ∷ []) g.front few_now last.1 in
        let front_then : trees_at ts g.front ≡ trees_at below g.front = ap (λ (l : List Tree). trees_at l g.front) split ∙ trees_stay below (t ∷ []) g.front few_then last.1 in
        let all : trees_at ts' ps ≡ f.below ++ respan span t ∷ [] = ap (trees_at ts') g.whole ∙ map-append (tree_at ts') g.front (g.at ∷ []) ∙ ap (λ (l : List Tree). l ++ tree_at ts' g.at ∷ []) (front_now ∙ sym front_then ∙ g.under) ∙ ap (λ (x : Tree). f.below ++ x ∷ []) is_now in
        let stack_now : stack_of (reverse bs) (trees_at ts' ps) ≡ built (respan span t) ∷ stack_of (reverse bs) f.below = ap (stack_of (reverse bs)) all ∙ tree_put (reverse bs) f.below (respan span t) f.within in
        let count : length ts' ≡ suc g.at = ap length now ∙ omega (arith, length_push below (respan span t), short) in (
          record {
            known = subst (ArePlaces ts') (sym g.whole) (places_push ts' g.front g.at (subst (λ (l : List Tree). ArePlaces l g.front) (sym now) (places_later below (respan span t ∷ []) g.front last.1)) (inl (omega (arith, count))));
            in_order = holds.in_order;
            on_top = λ under x q r.
                let same = same_from_push g.front under g.at x (sym g.whole ∙ q) in
                let at_is : take x ts' ≡ below = ap (λ (k : ℕ). take k ts') (sym same.1) ∙ ap (take g.at) now ∙ take_at below (respan span t ∷ []) g.at short in
                (omega (arith, count, same.1), subst (λ (l : List Tree). ArePlaces l under) (sym at_is) (subst (ArePlaces below) same.0 last.1));
          },
          λ u v q.
              let both : built t ∷ s ≡ built u ∷ v = e ∙ q in
              let tree_same : t ≡ u = cc in
              let rest_same : s ≡ v = cc in
              stack_now ∙ ap (λ (z : Stack). built (respan span t) ∷ z) (sym f.rest ∙ rest_same) ∙ ap (λ (x : Tree). built (respan span x) ∷ v) tree_same,
        )

-- the tree on top
pub top_tree : (ts : List Tree) (ps : List ℕ) (bs : List Begin) (at : ℕ) (t : Tree) (s : Stack) → Holds ts ps bs → ((others : List ℕ) (x : ℕ) → ps ≡ others ++ x ∷ [] → at ≡ x) → stack_of (reverse bs) (trees_at ts ps) ≡ built t ∷ s → tree_at ts at ≡ t
top_tree ts ps bs at t s holds is_last e =
    let order : AreInOrder (reverse bs) (length (trees_at ts ps)) = subst (AreInOrder (reverse bs)) (sym (count_of ts ps)) holds.in_order in
    let f = top (reverse bs) (trees_at ts ps) t s order e in
    let g = top_place ts f.below t (ending ps) f.whole in
    ap (tree_at ts) (is_last g.front g.at g.whole) ∙ g.is

-- the last place where a tree began
pub floor_of_last : (bs cs : List Begin) (b : Begin) → bs ≡ cs ++ b ∷ [] → floor_of (reverse bs) ≡ b.below
floor_of_last bs cs b e = ap (λ (l : List Begin). floor_of l) (ap reverse e ∙ reverse-append cs (b ∷ []))

pub split_last : {A : Type 0} (xs : List A) (n : ℕ) (d : A) → n + 1 ≡ length xs → xs ≡ take n xs ++ get_or xs n d ∷ []
split_last xs n d count = sym (take_all (n + 1) xs (omega (arith, count))) ∙ take_more xs n d (omega (arith, count))

no_begin_on : (s : Stack) (ts : List Tree) → opened s ≡ None → opened (built_on ts s) ≡ None
no_begin_on s [] e = e
no_begin_on s (t ∷ ts) e = no_begin_on (built t ∷ s) ts refl

-- what stands under the last trees
pub begun_there : (ts : List Tree) (ps : List ℕ) (bs cs : List Begin) (b : Begin) (n : ℕ) → bs ≡ cs ++ b ∷ [] → Holds ts ps bs → AreTrees n (stack_of (reverse bs) (trees_at ts ps)) → b.below ≡ length ps - n → drop n (stack_of (reverse bs) (trees_at ts ps)) ≡ begun b.token ∷ drop (suc n) (stack_of (reverse bs) (trees_at ts ps))
begun_there ts ps bs cs b n e holds are at =
    let r : reverse bs ≡ b ∷ reverse cs = ap reverse e ∙ reverse-append cs (b ∷ []) in
    let ts_at = trees_at ts ps in
    let order : AreInOrder (b ∷ reverse cs) (length ts_at) = subst (λ (l : List Begin). AreInOrder l (length ts_at)) r (subst (AreInOrder (reverse bs)) (sym (count_of ts ps)) holds.in_order) in
    let stand = on_begin b (reverse cs) ts_at n order (subst (λ (l : List Begin). AreTrees n (stack_of l ts_at)) r are) (omega (arith, at, count_of ts ps)) in
    next_item n (stack_of (reverse bs) ts_at) _ (begun b.token) (ap (λ (l : List Begin). drop n (stack_of l ts_at)) r ∙ stand)

pub not_begun_none : (ts : List Tree) (ps : List ℕ) (bs : List Begin) (n : ℕ) → Holds ts ps bs → AreTrees n (stack_of (reverse bs) (trees_at ts ps)) → bs ≡ [] → opened (drop n (stack_of (reverse bs) (trees_at ts ps))) ≡ None
not_begun_none ts ps bs n holds are nothing_there =
    let all = trees_at ts ps in
    let order : AreInOrder (reverse bs) (length all) = subst (AreInOrder (reverse bs)) (sym (count_of ts ps)) holds.in_order in
    let c = cut (reverse bs) all n order are in
    ap opened (c.under ∙ ap (λ (l : List Begin). stack_of (reverse l) (take (length all - n) all)) nothing_there) ∙ no_begin_on [] (take (length all - n) all) refl

pub tree_there : (ts : List Tree) (ps : List ℕ) (bs : List Begin) (n below : ℕ) → below ≡ floor_of (reverse bs) → Holds ts ps bs → AreTrees n (stack_of (reverse bs) (trees_at ts ps)) → below < length ps - n → drop n (stack_of (reverse bs) (trees_at ts ps)) ≡ built (tree_at ts (get_or ps (length ps - n - 1) 0)) ∷ drop (suc n) (stack_of (reverse bs) (trees_at ts ps))
tree_there ts ps bs n below is holds are above =
    let all = trees_at ts ps in
    let order : AreInOrder (reverse bs) (length all) = subst (AreInOrder (reverse bs)) (sym (count_of ts ps)) holds.in_order in
    let stand = on_tree (reverse bs) all n order are (omega (arith, is, above, count_of ts ps)) in
    let at : get_or all (length all - n - 1) absent ≡ tree_at ts (get_or ps (length ps - n - 1) 0) = ap (λ (k : ℕ). get_or all (k - n - 1) absent) (count_of ts ps) ∙ get_or-map (tree_at ts) ps (length ps - n - 1) 0 absent (omega (arith, above)) in
    next_item n (stack_of (reverse bs) all) _ (built (tree_at ts (get_or ps (length ps - n - 1) 0))) (stand ∙ ap (λ (x : Tree). built x ∷ stack_of (reverse bs) (take (length all - n - 1) all)) at)

pub tree_there_read : (ts : List Tree) (ps : List ℕ) (bs bs' : List Begin) (n below len x d : ℕ) (t : Tree) (s : Stack) → bs' ≡ bs → below ≡ floor_of (reverse bs') → Holds ts ps bs → stack_of (reverse bs) (trees_at ts ps) ≡ s → AreTrees n s → below < len - n → len ≡ length ps → x ≡ get_or ps (len - n - 1) d → t ≡ tree_at ts x → drop n s ≡ built t ∷ drop (suc n) s
tree_there_read ts ps bs bs' n below len x d t s same is holds view are above count at tree_is =
    let place : x ≡ get_or ps (length ps - n - 1) 0 = at ∙ ap (λ (k : ℕ). get_or ps (k - n - 1) d) count ∙ get_or_default ps (length ps - n - 1) d 0 (omega (arith, above, count)) in
    let there = tree_there ts ps bs n below (is ∙ ap (λ (l : List Begin). floor_of (reverse l)) same) holds (subst (AreTrees n) (sym view) are) (omega (arith, above, count)) in
    subst (λ (z : Stack). drop n z ≡ built t ∷ drop (suc n) z) view (there ∙ ap (λ (y : Tree). built y ∷ drop (suc n) (stack_of (reverse bs) (trees_at ts ps))) (ap (tree_at ts) (sym place) ∙ sym tree_is))

pub no_tree_under : (ts : List Tree) (ps : List ℕ) (bs : List Begin) (n : ℕ) → Holds ts ps bs → AreTrees n (stack_of (reverse bs) (trees_at ts ps)) → length ps - n ≤ floor_of (reverse bs) → IsFloor (drop n (stack_of (reverse bs) (trees_at ts ps)))
no_tree_under ts ps bs n holds are low =
    let all = trees_at ts ps in
    let order : AreInOrder (reverse bs) (length all) = subst (AreInOrder (reverse bs)) (sym (count_of ts ps)) holds.in_order in
    at_floor (reverse bs) all n order are (omega (arith, low, count_of ts ps))

pub no_tree_under_read : (ts : List Tree) (ps : List ℕ) (bs bs' : List Begin) (n below len : ℕ) (s : Stack) → bs' ≡ bs → below ≡ floor_of (reverse bs') → Holds ts ps bs → stack_of (reverse bs) (trees_at ts ps) ≡ s → AreTrees n s → len - n ≤ below → len ≡ length ps → IsFloor (drop n s)
no_tree_under_read ts ps bs bs' n below len s same is holds view are low count =
    let floor : below ≡ floor_of (reverse bs) = is ∙ ap (λ (l : List Begin). floor_of (reverse l)) same in
    subst (λ (z : Stack). IsFloor (drop n z)) view (no_tree_under ts ps bs n holds (subst (AreTrees n) (sym view) are) (omega (arith, low, count, floor)))

pub not_begun_there : (ts : List Tree) (ps : List ℕ) (bs : List Begin) (n : ℕ) → Holds ts ps bs → AreTrees n (stack_of (reverse bs) (trees_at ts ps)) → floor_of (reverse bs) < length ps - n → opened (drop n (stack_of (reverse bs) (trees_at ts ps))) ≡ None
not_begun_there ts ps bs n holds are above =
    ap opened (tree_there ts ps bs n (floor_of (reverse bs)) refl holds are above)
