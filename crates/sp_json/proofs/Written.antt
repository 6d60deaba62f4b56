-- What is written of a row, token by token, and members in the order of their names.
use Rattle.std.specs.Prelude.{ℤ, pos, negsuc}
use Rattle.std.proofs.Common.{◌≡◌, ◌≤◌, ◌<◌, ◌+◌, ◌==◌, ℕ, true, List, [], ◌∷◌, ◌++◌, length, drop, get_or, sym, ap, ◌∙◌, refl, arith, append_assoc}
use Rattle.std.proofs.lemmas.Bool.{and_parts}
use Rattle.std.proofs.lemmas.Cmp.{nat_list_cmp_total}
use Rattle.std.proofs.lemmas.List.{append-nil, drop_more}
use Rattle.std.proofs.lemmas.Bool.Decides.{nat_tests}
use Rattle.std.specs.declared.cmp.Ordering.{Ordering}
use Rattle.std.specs.Cmp.Lexicographic.{slice_cmp}
use Rattle.std.specs.Fmt.{signed_decimal}
use Rattle.std.specs.Ordering.{match_ordering, nat_cmp, is_lt, ordering_reverse}
use Rattle.std.specs.BTreeMap.{insert_entry}
use denote.Ref.{Bor}
use Rattle.json.specs.Token.{Token}
use Rattle.serde_json.specs.Data.{Data, number, unsigned, Members, no_members, member, put}
use Rattle.serde_json.specs.Find.{of_integer}
use Rattle.serde_json.specs.Written.{number_text}
use Rattle.sp_events.specs.Tree.{TreeData, fields_of}
use Rattle.sp_events.specs.TreeSizes.{tree_size, fields_size}
use Rattle.sp_json.specs.Values.{tree_json, with_fields, with_ranges}
use Rattle.sp_json.specs.Lines.{path_text}
use Rattle.sp_json.specs.inside.Tokens.{lent, rise_from, in_order, with_entries, total}

-- an integer is written as it stands
pub integer_text : (z : ℤ) → number_text (of_integer z) ≡ signed_decimal z
integer_text (pos n) = refl
integer_text (negsuc n) = refl

-- what is written of one thing, and then of another
pub behind : (old mid new first second : List Token) → mid ≡ old ++ first → new ≡ mid ++ second → new ≡ old ++ (first ++ second)
behind old mid new first second one two = two ∙ ap (λ ts. ts ++ second) one ∙ append_assoc old first second

-- the name of a flow's own fiber is that of the flow
pub path_alone : (flow numbers : List ℕ) → (length numbers == 0) ≡ true → flow ≡ path_text flow numbers
path_alone flow [] e = sym (append-nil flow)
path_alone flow (n ∷ ns) e = first_of (cc, grind (arith, nat_tests))

-- ---- rows: `rest` is what is written of the rest of a row, with its closing bracket, and `one` what is written of one in it

module _ {X : Type 0} (rest : List X → List Token) (one : X → List Token) (steps : (x : X) (xs : List X) → rest (x ∷ xs) ≡ one x ++ rest xs) where
  -- one more was written
  pub one_more : (out new all : List Token) (xs : List X) (i : ℕ) (x : X) → i < length xs → x ≡ get_or xs i x → new ≡ out ++ one x → out ++ rest (drop i xs) ≡ all → new ++ rest (drop (i + 1) xs) ≡ all
  one_more out new all xs i x lt is wrote so =
      let here : drop i xs ≡ x ∷ drop (i + 1) xs = drop_more xs i x lt ∙ ap (λ y. y ∷ drop (i + 1) xs) (sym is) in
      ap (λ ts. ts ++ rest (drop (i + 1) xs)) wrote ∙ append_assoc out (one x) (rest (drop (i + 1) xs)) ∙ ap (λ ts. out ++ ts) (sym (ap rest here ∙ steps x (drop (i + 1) xs))) ∙ so

  -- the next one of those that are left was written
  pub next_written : (out new all : List Token) (xs left : List X) (x : X) → xs ≡ x ∷ left → new ≡ out ++ one x → out ++ rest xs ≡ all → new ++ rest left ≡ all
  next_written out new all xs left x is wrote so =
      ap (λ ts. ts ++ rest left) wrote ∙ append_assoc out (one x) (rest left) ∙ ap (λ ts. out ++ ts) (sym (ap rest is ∙ steps x left)) ∙ so

-- all of a row was written between its brackets
pub all_written : {X : Type 0} (rest : List X → List Token) (opening closing : Token) → rest [] ≡ closing ∷ []
    → (old begun out new : List Token) (xs ended : List X) → ended ≡ [] → begun ≡ old ++ opening ∷ [] → out ++ rest ended ≡ begun ++ rest xs → new ≡ out ++ closing ∷ [] → new ≡ old ++ opening ∷ rest xs
all_written rest opening closing ends old begun out new xs ended is opened so wrote =
    wrote ∙ ap (λ ts. out ++ ts) (sym (ap rest is ∙ ends)) ∙ so ∙ ap (λ ts. ts ++ rest xs) opened ∙ append_assoc old (opening ∷ []) (rest xs)

-- ---- members in the order of their names

less_is : (o : Ordering) → is_lt o ≡ true → o ≡ Ordering.Less
less_is Ordering.Less e = refl
less_is Ordering.Equal e = cc
less_is Ordering.Greater e = cc

greater : (name other : List ℕ) → slice_cmp nat_cmp name other ≡ Ordering.Less → slice_cmp nat_cmp other name ≡ Ordering.Greater
greater name other less = nat_list_cmp_total.antisymm other name ∙ ap ordering_reverse less

module _ {X : Type 0} where
  -- a name is below all of these
  abbrev Below : List ℕ → List (List ℕ × X) → Type 0
  Below name [] = Unit {0}
  Below name (e ∷ es) = (slice_cmp nat_cmp name e.0 ≡ Ordering.Less) × Below name es

  below_further : (name other : List ℕ) (es : List (List ℕ × X)) → slice_cmp nat_cmp name other ≡ Ordering.Less → Below other es → Below name es
  below_further name other [] less below = tt
  below_further name other (e ∷ es) less below = (nat_list_cmp_total.trans name other e.0 less below.0, below_further name other es less below.1)

  rising_below : (name : List ℕ) (es : List (List ℕ × X)) → rise_from name es ≡ true → Below name es
  rising_below name [] h = tt
  rising_below name (e ∷ es) h =
      let parts = and_parts (is_lt (slice_cmp nat_cmp name e.0)) (rise_from e.0 es) h in
      let less = less_is (slice_cmp nat_cmp name e.0) parts.0 in
      (less, below_further name e.0 es less (rising_below e.0 es parts.1))

  -- a member whose name is below all others stays the first
  first_stays : (json : X → Data) (name : List ℕ) (d : Data) (es : List (List ℕ × X)) (ms : Members) → Below name es → with_entries json es (member name d ms) ≡ member name d (with_entries json es ms)
  first_stays json name d [] ms below = refl
  first_stays json name d (e ∷ es) ms below = rw (greater name e.0 below.0) (first_stays json name d es (put e.0 (json e.1) ms) below.1)

  -- entries whose names rise are put where they stand
  pub rising_stays : (json : X → Data) (name : List ℕ) (es : List (List ℕ × X)) → rise_from name es ≡ true → with_entries json es no_members ≡ in_order json es
  rising_stays json name [] h = refl
  rising_stays json name (e ∷ es) h =
      let rest = (and_parts (is_lt (slice_cmp nat_cmp name e.0)) (rise_from e.0 es) h).1 in
      first_stays json e.0 (json e.1) es no_members (rising_below e.0 es rest) ∙ ap (member e.0 (json e.1)) (rising_stays json e.0 es rest)

-- ---- the table of entries by name

abbrev Lent : Type 0 → Type 0
Lent X = Bor (List ℕ) × Bor X

abbrev by_name : Bor (List ℕ) → Bor (List ℕ) → Ordering
by_name x y = slice_cmp nat_cmp x.now y.now

module _ {X : Type 0} where
  in_order-match_ordering : (json : X → Data) (o : Ordering) (a b c : List (Lent X))
      → in_order json (lent (match_ordering o a b c)) ≡ match_ordering o (in_order json (lent a)) (in_order json (lent b)) (in_order json (lent c))
  in_order-match_ordering json Ordering.Less a b c = refl
  in_order-match_ordering json Ordering.Equal a b c = refl
  in_order-match_ordering json Ordering.Greater a b c = refl

  -- an entry was inserted
  pub inserted_members : (json : X → Data) (es : List (Lent X)) (name : Bor (List ℕ)) (v : Bor X) → in_order json (lent (insert_entry by_name es name v)) ≡ put name.now (json v.now) (in_order json (lent es))
  inserted_members json [] name v = refl
  inserted_members json (e ∷ es) name v = in_order-match_ordering json (by_name name e.0) _ _ _ ∙ rw (inserted_members json es name v)

  total-match_ordering : (weight : X → ℕ) (o : Ordering) (a b c : List (Lent X)) (most : ℕ) → total weight (lent a) ≤ most → total weight (lent b) ≤ most → total weight (lent c) ≤ most
      → total weight (lent (match_ordering o a b c)) ≤ most
  total-match_ordering weight Ordering.Less a b c most p q r = p
  total-match_ordering weight Ordering.Equal a b c most p q r = q
  total-match_ordering weight Ordering.Greater a b c most p q r = r

  pub inserted_weight : (weight : X → ℕ) (es : List (Lent X)) (name : Bor (List ℕ)) (v : Bor X) → total weight (lent (insert_entry by_name es name v)) ≤ weight v.now + total weight (lent es)
  inserted_weight weight [] name v = omega arith
  inserted_weight weight (e ∷ es) name v =
      let rest = inserted_weight weight es name v in
      total-match_ordering weight (by_name name e.0) ((name, v) ∷ e ∷ es) ((e.0, v) ∷ es) (e ∷ insert_entry by_name es name v) (weight v.now + (weight e.1.now + total weight (lent es)))
      (omega arith) (omega arith) (omega arith)

-- one more entry of a list is in the table
pub entry_put : {X : Type 0} (json : X → Data) (xs : List (List ℕ × X)) (i : ℕ) (x : List ℕ × X) (old new : List (Lent X)) (name : Bor (List ℕ)) (v : Bor X) (ms : Members)
    → i < length xs → x ≡ get_or xs i x → new ≡ insert_entry by_name old name v → name.now ≡ x.0 → v.now ≡ x.1 → with_entries json (drop i xs) (in_order json (lent old)) ≡ ms
    → with_entries json (drop (i + 1) xs) (in_order json (lent new)) ≡ ms
entry_put json xs i x old new name v ms lt is put_in named held so =
    let rest = drop (i + 1) xs in
    let here : drop i xs ≡ x ∷ rest = drop_more xs i x lt ∙ ap (λ y. y ∷ rest) (sym is) in
    ap (λ es. with_entries json rest (in_order json (lent es))) put_in ∙ ap (λ m. with_entries json rest m) (inserted_members json old name v)
    ∙ ap (λ k. with_entries json rest (put k (json v.now) (in_order json (lent old)))) named ∙ ap (λ y. with_entries json rest (put x.0 (json y) (in_order json (lent old)))) held
    ∙ ap (λ es. with_entries json es (in_order json (lent old))) (sym here) ∙ so

pub entry_weighs : {X : Type 0} (weight : X → ℕ) (xs : List (List ℕ × X)) (i : ℕ) (x : List ℕ × X) (old new : List (Lent X)) (name : Bor (List ℕ)) (v : Bor X) (most : ℕ)
    → i < length xs → x ≡ get_or xs i x → new ≡ insert_entry by_name old name v → v.now ≡ x.1 → total weight (lent old) + total weight (drop i xs) ≤ most
    → total weight (lent new) + total weight (drop (i + 1) xs) ≤ most
entry_weighs weight xs i x old new name v most lt is put_in held so =
    let rest = drop (i + 1) xs in
    let here : drop i xs ≡ x ∷ rest = drop_more xs i x lt ∙ ap (λ y. y ∷ rest) (sym is) in
    let left : total weight (drop i xs) ≡ weight x.1 + total weight rest = ap (λ es. total weight es) here in
    let table : total weight (lent new) ≡ total weight (lent (insert_entry by_name old name v)) = ap (λ es. total weight (lent es)) put_in in
    let one : weight v.now ≡ weight x.1 = ap weight held in
    let most_in = inserted_weight weight old name v in
    omega arith

-- ---- fields and ranges as entries

pub fields_are : (fs : List (List ℕ × TreeData)) (ms : Members) → with_entries tree_json fs ms ≡ with_fields (fields_of fs) ms
fields_are [] ms = refl
fields_are (f ∷ fs) ms = fields_are fs (put f.0 (tree_json f.1) ms)

pub ranges_are : (rs : List (List ℕ × ℕ)) (ms : Members) → with_entries (λ n. number (unsigned n)) rs ms ≡ with_ranges rs ms
ranges_are [] ms = refl
ranges_are (r ∷ rs) ms = ranges_are rs (put r.0 (number (unsigned r.1)) ms)

-- the trees of fields are as much as the unit
pub fields_weigh : (fs : List (List ℕ × TreeData)) → total (λ t. tree_size t + 1) fs ≡ fields_size (fields_of fs)
fields_weigh [] = refl
fields_weigh (f ∷ fs) = omega (arith, fields_weigh fs)
