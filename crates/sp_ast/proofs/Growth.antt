-- Trees of entries: what more heads, places and entries leave, and what stands at a place.
use Rattle.std.proofs.Common.{◌≡◌, ℕ, ◌+◌, ◌<◌, ◌≤◌, zero, suc, List, [], ◌∷◌, ◌++◌, length, get_or, take, drop, set, ltb, true, false, ◌-◌, refl, ap, sym, ◌∙◌, subst, arith, ⊎_elim}
use Rattle.std.proofs.lemmas.List.{append_assoc, append-nil, get_or_append_left, get_or_at, length-append, length-drop, length_push, drop-append-le, take-append-le, set_split, take_more, take_all, drop_all, drop_at, same_from_push}
use Rattle.std.proofs.lemmas.Bool.{ltb-true, ltb-false, cases_eq}
use Rattle.sp_base.specs.declared.places.Span.{Span}
use Rattle.sp_ast.specs.Trees.{Tree, absent, row, node, respan}
use Rattle.sp_ast.specs.Heights.{height, most_levels}
use Rattle.sp_ast.specs.Slots.{is_formed}
use Rattle.sp_ast.specs.Places.{tree_at, trees_at, ArePlaces, AreSound, no_parts}
use Rattle.sp_ast.specs.Arenas.{parts_of, headed, made, grown, arena_trees, IsEntry, AreEntries, Stands}
use Rattle.sp_ast.specs.declared.heads.Head.{Head}
use Rattle.sp_ast.specs.declared.heads.Head.TheVariants as head_is
use Rattle.sp_ast.specs.declared.arena.Entry.{Entry}
use Rattle.sp_ast.proofs.ByPlace.{at_row, at_tree, at_none, trees_stay, sound_push, sound_front, sound_back}

pub length_grown : (h : List Head) (p : List ℕ) (ts : List Tree) (es : List Entry) → length (grown h p ts es) ≡ length ts + length es
length_grown h p ts [] = omega arith
length_grown h p ts (e ∷ es) =
    let rest = length_grown h p (ts ++ made h p ts e ∷ []) es in omega (arith, rest, length_push ts (made h p ts e))

pub grown_append : (h : List Head) (p : List ℕ) (ts : List Tree) (es fs : List Entry) → grown h p ts (es ++ fs) ≡ grown h p (grown h p ts es) fs
grown_append h p ts [] fs = refl
grown_append h p ts (e ∷ es) fs = grown_append h p (ts ++ made h p ts e ∷ []) es fs

-- the trees of entries begin with those before them
pub grown_is : (h : List Head) (p : List ℕ) (ts : List Tree) (es : List Entry) → (us : List Tree) × (grown h p ts es ≡ ts ++ us)
grown_is h p ts [] = ([], sym (append-nil ts))
grown_is h p ts (e ∷ es) =
    let rest = grown_is h p (ts ++ made h p ts e ∷ []) es in
    (made h p ts e ∷ rest.0, rest.1 ∙ append_assoc ts (made h p ts e ∷ []) rest.0)

parts_same : (p q : List ℕ) (e : Entry) → e.from + e.count ≤ length p → parts_of (p ++ q) e ≡ parts_of p e
parts_same p q e within =
    ap (take e.count) (drop-append-le e.from p q (omega arith)) ∙ take-append-le e.count (drop e.from p) q (omega (arith, length-drop e.from p))

made_same : (h k : List Head) (p q : List ℕ) (ts : List Tree) (e : Entry) → e.head < length h → e.from + e.count ≤ length p → made (h ++ k) (p ++ q) ts e ≡ made h p ts e
made_same h k p q ts e known within =
    let a = get_or_append_left h k head_is.Row e.head known in let b = parts_same p q e within in
    rw (a, b) refl

-- more heads and places leave all trees and entries
pub grown_same : (h k : List Head) (p q : List ℕ) (ts : List Tree) (es : List Entry) → AreEntries h p ts es → grown (h ++ k) (p ++ q) ts es ≡ grown h p ts es
grown_same h k p q ts [] are = refl
grown_same h k p q ts (e ∷ es) are =
    ap (λ (t : Tree). grown (h ++ k) (p ++ q) (ts ++ t ∷ []) es) (made_same h k p q ts e are.0.head are.0.within) ∙ grown_same h k p q (ts ++ made h p ts e ∷ []) es are.1

entry_same : (h k : List Head) (p q : List ℕ) (ts : List Tree) (e : Entry) → IsEntry h p ts e → IsEntry (h ++ k) (p ++ q) ts e
entry_same h k p q ts e is = record {
  head = omega (arith, is.head, length-append h k);
  within = omega (arith, is.within, length-append p q);
  before = rw (parts_same p q e is.within) is.before;
  levels = is.levels ∙ ap height (sym (made_same h k p q ts e is.head is.within));
}

pub entries_same : (h k : List Head) (p q : List ℕ) (ts : List Tree) (es : List Entry) → AreEntries h p ts es → AreEntries (h ++ k) (p ++ q) ts es
entries_same h k p q ts [] are = tt
entries_same h k p q ts (e ∷ es) are =
    (entry_same h k p q ts e are.0, subst (λ (t : Tree). AreEntries (h ++ k) (p ++ q) (ts ++ t ∷ []) es) (sym (made_same h k p q ts e are.0.head are.0.within)) (entries_same h k p q (ts ++ made h p ts e ∷ []) es are.1))

pub entries_push : (h : List Head) (p : List ℕ) (ts : List Tree) (es : List Entry) (e : Entry) → AreEntries h p ts es → IsEntry h p (grown h p ts es) e → AreEntries h p ts (es ++ e ∷ [])
entries_push h p ts [] e are is = (is, tt)
entries_push h p ts (f ∷ es) e are is = (are.0, entries_push h p (ts ++ made h p ts f ∷ []) es e are.1 is)

pub entries_front : (h : List Head) (p : List ℕ) (ts : List Tree) (es fs : List Entry) → AreEntries h p ts (es ++ fs) → AreEntries h p ts es
entries_front h p ts [] fs are = tt
entries_front h p ts (e ∷ es) fs are = (are.0, entries_front h p (ts ++ made h p ts e ∷ []) es fs are.1)

pub entries_back : (h : List Head) (p : List ℕ) (ts : List Tree) (es fs : List Entry) → AreEntries h p ts (es ++ fs) → AreEntries h p (grown h p ts es) fs
entries_back h p ts [] fs are = are
entries_back h p ts (e ∷ es) fs are = entries_back h p (ts ++ made h p ts e ∷ []) es fs are.1

-- What stands at a place: an entry, whose tree has its parts among all trees.
pub record StandsAt (h : List Head) (p : List ℕ) (all : List Tree) (k : ℕ) (e : Entry) : Type 0 where
  pub head : e.head < length h
  pub within : e.from + e.count ≤ length p
  pub is : get_or all k absent ≡ made h p all e
  pub levels : e.levels ≡ height (get_or all k absent)

first_at : (h : List Head) (p : List ℕ) (ts us all : List Tree) (e : Entry) (k : ℕ) → k ≡ length ts → all ≡ ts ++ made h p ts e ∷ us → length all ≤ no_parts → IsEntry h p ts e → StandsAt h p all k e
first_at h p ts us all e k place split few is =
    let here : get_or all k absent ≡ made h p ts e = ap (λ (l : List Tree). get_or l k absent) split ∙ get_or_at ts (made h p ts e) us absent k (sym place) in
    let parts : trees_at all (parts_of p e) ≡ trees_at ts (parts_of p e) = ap (λ (l : List Tree). trees_at l (parts_of p e)) split ∙ trees_stay ts (made h p ts e ∷ us) (parts_of p e) (subst (λ (l : List Tree). length l ≤ no_parts) split few) is.before in
    record {
      head = is.head;
      within = is.within;
      is = here ∙ ap (headed (get_or h e.head head_is.Row) e.span) (sym parts);
      levels = is.levels ∙ ap height (sym here);
    }

pub stands_at : (h : List Head) (p : List ℕ) (ts : List Tree) (es : List Entry) (d : Entry) (i k : ℕ) → AreEntries h p ts es → length (grown h p ts es) ≤ no_parts → i < length es → k ≡ length ts + i → StandsAt h p (grown h p ts es) k (get_or es i d)
stands_at h p ts [] d i k are few within place = absurd (omega (arith, within))
stands_at h p ts (e ∷ es) d zero k are few within place =
    let rest = grown_is h p (ts ++ made h p ts e ∷ []) es in
    first_at h p ts rest.0 (grown h p ts (e ∷ es)) e k (omega (arith, place)) (rest.1 ∙ append_assoc ts (made h p ts e ∷ []) rest.0) few are.0
stands_at h p ts (e ∷ es) d (suc i) k are few within place =
    stands_at h p (ts ++ made h p ts e ∷ []) es d i k are.1 few (omega (arith, within)) (omega (arith, place, length_push ts (made h p ts e)))

-- what stands at a place of an arena
pub entry_at : (h : List Head) (p : List ℕ) (es : List Entry) (d : Entry) (i : ℕ) → Stands h p es → i < length es → StandsAt h p (arena_trees h p es) i (get_or es i d)
entry_at h p es d i stands within =
    stands_at h p [] es d i i stands.entries_are (omega (arith, stands.few, length_grown h p [] es)) within (omega arith)

pub length_trees : (h : List Head) (p : List ℕ) (es : List Entry) → length (arena_trees h p es) ≡ length es
length_trees h p es = omega (arith, length_grown h p [] es)

-- more heads and places leave an arena's trees
pub stands_later : (h k : List Head) (p q : List ℕ) (es : List Entry) → Stands h p es → Stands (h ++ k) (p ++ q) es
stands_later h k p q es stands = record {
  entries_are = entries_same h k p q [] es stands.entries_are;
  sound = subst AreSound (sym (grown_same h k p q [] es stands.entries_are)) stands.sound;
  few = stands.few;
}

-- one more entry
pub trees_push : (h : List Head) (p : List ℕ) (es : List Entry) (e : Entry) → arena_trees h p (es ++ e ∷ []) ≡ arena_trees h p es ++ made h p (arena_trees h p es) e ∷ []
trees_push h p es e = grown_append h p [] es (e ∷ [])

pub stands_push : (h : List Head) (p : List ℕ) (es : List Entry) (e : Entry) → Stands h p es → IsEntry h p (arena_trees h p es) e → height (made h p (arena_trees h p es) e) ≤ most_levels → is_formed (made h p (arena_trees h p es) e) ≡ true → length es < no_parts → Stands h p (es ++ e ∷ [])
stands_push h p es e stands is low formed few = record {
  entries_are = entries_push h p [] es e stands.entries_are is;
  sound = subst AreSound (sym (trees_push h p es e)) (sound_push _ _ stands.sound low formed);
  few = omega (arith, length_push es e);
}

-- What a reading of an entry tells of the tree at its place.
pub record IsRead (h : List Head) (p : List ℕ) (all : List Tree) (at : ℕ) (e : Entry) : Type 0 where
  pub head : e.head < length h
  pub within : e.from + e.count ≤ length p
  pub is : tree_at all at ≡ made h p all e
  pub levels : e.levels ≡ height (tree_at all at)

read_at : (h : List Head) (p : List ℕ) (es : List Entry) (at : ℕ) (e f : Entry) → Stands h p es → at < length es → f ≡ e → f ≡ get_or es at e → IsRead h p (arena_trees h p es) at e
read_at h p es at e f stands within same is =
    let s = entry_at h p es e at stands within in
    let n : at ≡ no_parts → ⊥ = λ q. omega (arith, stands.few) in
    let t = at_tree (arena_trees h p es) at n in
    let g : get_or es at e ≡ e = sym is ∙ same in
    let r = subst (StandsAt h p (arena_trees h p es) at) g s in
    record { head = r.head; within = r.within; is = t ∙ r.is; levels = r.levels ∙ ap height (sym t) }

-- an entry that was read at a place
pub entry_read : (h : List Head) (p : List ℕ) (es xs : List Entry) (at : ℕ) (e : Entry) → Stands h p es → xs ≡ es → true ≡ ltb at (length xs) → e ≡ get_or xs at e → IsRead h p (arena_trees h p es) at e
entry_read h p es xs at e stands same within is =
    let below : at < length xs = ltb-true at (length xs) (sym within) in
    read_at h p es at e e stands (subst (λ (l : List Entry). at < length l) same below) refl (is ∙ ap (λ (l : List Entry). get_or l at e) same)

-- the tree at the place of an entry, by its root and its parts
pub level_at : (h : List Head) (p : List ℕ) (all parts : List Tree) (at : ℕ) (e : Entry) (hd : Head) → IsRead h p all at e → hd ≡ get_or h e.head head_is.Row → parts ≡ trees_at all (take (e.from + e.count - e.from) (drop e.from p)) → headed hd e.span parts ≡ tree_at all at
level_at h p all parts at e hd read is parts_are =
    let n : e.from + e.count - e.from ≡ e.count = omega arith in
    let ps : parts ≡ trees_at all (parts_of p e) = parts_are ∙ ap (λ (k : ℕ). trees_at all (take k (drop e.from p))) n in
    let whole : tree_at all at ≡ headed (get_or h e.head head_is.Row) e.span (trees_at all (parts_of p e)) = read.is in
    ap (λ (d : Head). headed d e.span parts) is ∙ ap (headed (get_or h e.head head_is.Row) e.span) ps ∙ sym whole

-- a place behind all entries
pub nothing_at : (h : List Head) (p : List ℕ) (es xs : List Entry) (at : ℕ) → xs ≡ es → false ≡ ltb at (length xs) → (at ≡ no_parts → ⊥) → tree_at (arena_trees h p es) at ≡ absent
nothing_at h p es xs at same beyond n =
    let past : length xs ≤ at = ltb-false at (length xs) (sym beyond) in
    at_none (arena_trees h p es) at n (omega (arith, length_trees h p es, ap length same))

pub no_height_at : (h : List Head) (p : List ℕ) (es xs : List Entry) (at : ℕ) → xs ≡ es → false ≡ ltb at (length xs) → 0 ≡ height (tree_at (arena_trees h p es) at)
no_height_at h p es xs at same beyond =
    ⊎_elim (λ (e : at ≡ no_parts). ap height (sym (at_row (arena_trees h p es) at e))) (λ (n : at ≡ no_parts → ⊥). ap height (sym (nothing_at h p es xs at same beyond n))) (cases_eq at no_parts)

-- more heads and places, as the code has them
pub later : (h h' : List Head) (p p' q : List ℕ) (es : List Entry) → ((k : List Head) × (h' ≡ h ++ k)) → p' ≡ p ++ q → Stands h p es → Stands h' p' es
later h h' p p' q es more_heads more_places stands =
    rw (more_heads.1, more_places) (stands_later h more_heads.0 p q es stands)

pub later_trees : (h h' : List Head) (p p' q : List ℕ) (es : List Entry) → ((k : List Head) × (h' ≡ h ++ k)) → p' ≡ p ++ q → Stands h p es → arena_trees h' p' es ≡ arena_trees h p es
later_trees h h' p p' q es more_heads more_places stands =
    rw (more_heads.1, more_places) (grown_same h more_heads.0 p q [] es stands.entries_are)

-- What is asked of one more entry.
pub record IsNext (h : List Head) (p parts : List ℕ) (all : List Tree) (e : Entry) (hd : Head) : Type 0 where
  pub head : e.head < length h
  pub root : get_or h e.head head_is.Row ≡ hd
  pub from : e.from ≡ length p
  pub count : e.count ≡ length parts
  pub before : ArePlaces all parts
  pub levels : e.levels ≡ height (headed hd e.span (trees_at all parts))
  pub low : e.levels ≤ most_levels
  pub formed : is_formed (headed hd e.span (trees_at all parts)) ≡ true

next_parts : (p parts : List ℕ) (e : Entry) → e.from ≡ length p → e.count ≡ length parts → parts_of (p ++ parts) e ≡ parts
next_parts p parts e from count =
    ap (take e.count) (drop_at p parts e.from (sym from)) ∙ take_all e.count parts (omega (arith, count))

next_made : (h : List Head) (p parts : List ℕ) (all : List Tree) (e : Entry) (hd : Head) → IsNext h p parts all e hd → made h (p ++ parts) all e ≡ headed hd e.span (trees_at all parts)
next_made h p parts all e hd next =
    ap (λ (d : Head). headed d e.span (trees_at all (parts_of (p ++ parts) e))) next.root ∙ ap (λ (l : List ℕ). headed hd e.span (trees_at all l)) (next_parts p parts e next.from next.count)

next_entry : (h : List Head) (p parts : List ℕ) (all : List Tree) (e : Entry) (hd : Head) → IsNext h p parts all e hd → IsEntry h (p ++ parts) all e
next_entry h p parts all e hd next = record {
  head = next.head;
  within = omega (arith, next.from, next.count, length-append p parts);
  before = subst (ArePlaces all) (sym (next_parts p parts e next.from next.count)) next.before;
  levels = next.levels ∙ ap height (sym (next_made h p parts all e hd next));
}

pub pushed : (h : List Head) (p parts : List ℕ) (es : List Entry) (e : Entry) (hd : Head) → Stands h (p ++ parts) es → IsNext h p parts (arena_trees h (p ++ parts) es) e hd → length es < no_parts → Stands h (p ++ parts) (es ++ e ∷ []) × (arena_trees h (p ++ parts) (es ++ e ∷ []) ≡ arena_trees h (p ++ parts) es ++ headed hd e.span (trees_at (arena_trees h (p ++ parts) es) parts) ∷ [])
pushed h p parts es e hd stands next few =
    let m = next_made h p parts (arena_trees h (p ++ parts) es) e hd next in (
      stands_push h (p ++ parts) es e stands (next_entry h p parts (arena_trees h (p ++ parts) es) e hd next) (subst (λ (n : ℕ). n ≤ most_levels) (next.levels ∙ ap height (sym m)) next.low) (ap is_formed m ∙ next.formed) few,
      trees_push h (p ++ parts) es e ∙ ap (λ (t : Tree). arena_trees h (p ++ parts) es ++ t ∷ []) m,
    )

-- the same, as the code has it
pub put_next : (h h' : List Head) (p p' parts : List ℕ) (es es' : List Entry) (all : List Tree) (e : Entry) (hd : Head) → arena_trees h p es ≡ all → ((k : List Head) × (h' ≡ h ++ k)) → p' ≡ p ++ parts → es' ≡ es ++ e ∷ [] → Stands h p es → IsNext h' p parts all e hd → length es < no_parts → Stands h' p' es' × (arena_trees h' p' es' ≡ all ++ headed hd e.span (trees_at all parts) ∷ [])
put_next h h' p p' parts es es' all e hd is more_heads more_places more_entries stands next few =
    let there : arena_trees h' (p ++ parts) es ≡ all = later_trees h h' p (p ++ parts) parts es more_heads refl stands ∙ is in
    let stand : Stands h' (p ++ parts) es = later h h' p (p ++ parts) parts es more_heads refl stands in
    let asked : IsNext h' p parts (arena_trees h' (p ++ parts) es) e hd = subst (λ (l : List Tree). IsNext h' p parts l e hd) (sym there) next in
    let r = pushed h' p parts es e hd stand asked few in
    rw (more_places, more_entries) (r.0, r.1 ∙ ap (λ (l : List Tree). l ++ headed hd e.span (trees_at l parts) ∷ []) there)

-- the last tree on another slice of the text
height_respan : (s : Span) (t : Tree) → height (respan s t) ≡ height t
height_respan s (node form span ts) = refl
height_respan s absent = refl
height_respan s (row ts) = refl

formed_respan : (s : Span) (t : Tree) → is_formed (respan s t) ≡ is_formed t
formed_respan s (node form span ts) = refl
formed_respan s absent = refl
formed_respan s (row ts) = refl

headed_respan : (s u : Span) (hd : Head) (ts : List Tree) → headed hd s ts ≡ respan s (headed hd u ts)
headed_respan s u head_is.Row ts = refl
headed_respan s u (head_is.Of form) ts = refl

-- an entry on another slice
abbrev pub respanned : Span → Entry → Entry
respanned s e = record { head = e.head; from = e.from; count = e.count; span = s; levels = e.levels }

made_respan : (h : List Head) (p : List ℕ) (ts : List Tree) (s : Span) (e : Entry) → made h p ts (respanned s e) ≡ respan s (made h p ts e)
made_respan h p ts s e = headed_respan s e.span (get_or h e.head head_is.Row) (trees_at ts (parts_of p e))

entry_respan : (h : List Head) (p : List ℕ) (ts : List Tree) (s : Span) (e : Entry) → IsEntry h p ts e → IsEntry h p ts (respanned s e)
entry_respan h p ts s e is = record {
  head = is.head;
  within = is.within;
  before = is.before;
  levels = is.levels ∙ sym (height_respan s (made h p ts e)) ∙ ap height (sym (made_respan h p ts s e));
}

last_respan : (h : List Head) (p : List ℕ) (es : List Entry) (s : Span) (e : Entry) → Stands h p (es ++ e ∷ []) → Stands h p (es ++ respanned s e ∷ []) × ((ts : List Tree) (t : Tree) → arena_trees h p (es ++ e ∷ []) ≡ ts ++ t ∷ [] → arena_trees h p (es ++ respanned s e ∷ []) ≡ ts ++ respan s t ∷ [])
last_respan h p es s e stands =
    let all = arena_trees h p es in
    let old : Tree = made h p all e in
    let front = entries_front h p [] es (e ∷ []) stands.entries_are in
    let back = entries_back h p [] es (e ∷ []) stands.entries_are in
    let trees_are = trees_push h p es e in
    let are_sound : AreSound (all ++ old ∷ []) = subst AreSound trees_are stands.sound in
    let last_sound = sound_back all (old ∷ []) are_sound in
    let is_now = made_respan h p all s e in
    let few : length es < no_parts = omega (arith, stands.few, length_push es e) in
    let stood : Stands h p es = record { entries_are = front; sound = sound_front all (old ∷ []) are_sound; few = omega (arith, few) } in (
      stands_push h p es (respanned s e) stood (entry_respan h p all s e back.0) (omega (arith, ap height is_now, height_respan s old, last_sound.0)) (ap is_formed is_now ∙ formed_respan s old ∙ last_sound.1) few,
      λ ts t q.
          let parts = same_from_push all ts old t (sym trees_are ∙ q) in
          trees_push h p es (respanned s e) ∙ ap (λ (x : Tree). all ++ x ∷ []) (is_now ∙ ap (respan s) parts.1) ∙ ap (λ (l : List Tree). l ++ respan s t ∷ []) parts.0,
    )

-- the same, as the code has it: the last entry is replaced
pub respan_at : (h : List Head) (p : List ℕ) (es : List Entry) (n : ℕ) (s : Span) (e : Entry) → Stands h p es → n + 1 ≡ length es → e ≡ get_or es n e → Stands h p (set es n (respanned s e)) × ((ts : List Tree) (t : Tree) → arena_trees h p es ≡ ts ++ t ∷ [] → arena_trees h p (set es n (respanned s e)) ≡ ts ++ respan s t ∷ [])
respan_at h p es n s e stands count is =
    let split : es ≡ take n es ++ e ∷ [] = sym (take_all (n + 1) es (omega (arith, count))) ∙ take_more es n e (omega (arith, count)) ∙ ap (λ (x : Entry). take n es ++ x ∷ []) (sym is) in
    let is_set : set es n (respanned s e) ≡ take n es ++ respanned s e ∷ [] = set_split es n (respanned s e) (omega (arith, count)) ∙ ap (λ (l : List Entry). take n es ++ respanned s e ∷ l) (drop_all (suc n) es (omega (arith, count))) in
    let r = last_respan h p (take n es) s e (subst (Stands h p) split stands) in
    rw is_set (r.0, λ ts t q. r.1 ts t (ap (arena_trees h p) (sym split) ∙ q))
