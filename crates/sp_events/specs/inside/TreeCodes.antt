-- Trees as codes, by which a proof tells them apart.
use Rattle.std.specs.Prelude.{◌≡◌, ℕ, List, [], ◌∷◌, refl}
use base.Stored.{Gv, gnil, gnum, gcons, Coded, coded_bool, coded_ℤ}
use Rattle.std.proofs.Common.{ap, arith}
use Rattle.sp_events.specs.Tree.{TreeData, void, bool, uint, int, bytes, str, label, unlisted, bits, tuple, vector, set, map, unit, place, TreesData, no_trees, tree, PairsData, no_pairs, pair, FieldsData, no_fields, field}

abbrev numbers_code : List ℕ → Gv
numbers_code [] = gnil
numbers_code (n ∷ ns) = gcons (gnum n) (numbers_code ns)

abbrev ranges_code : List (List ℕ × ℕ) → Gv
ranges_code [] = gnil
ranges_code (r ∷ rs) = gcons (gcons (numbers_code r.0) (gnum r.1)) (ranges_code rs)

abbrev mutual
  tree_code : TreeData → Gv
  tree_code void = gcons (gnum 14) gnil
  tree_code (bool b) = gcons (gnum 0) (coded_bool.code b)
  tree_code (uint n) = gcons (gnum 1) (gnum n)
  tree_code (int n) = gcons (gnum 2) (coded_ℤ.code n)
  tree_code (bytes bs) = gcons (gnum 3) (numbers_code bs)
  tree_code (str bs) = gcons (gnum 4) (numbers_code bs)
  tree_code (label bs) = gcons (gnum 5) (numbers_code bs)
  tree_code (unlisted n) = gcons (gnum 6) (gnum n)
  tree_code (bits rs) = gcons (gnum 7) (ranges_code rs)
  tree_code (tuple ts) = gcons (gnum 8) (trees_code ts)
  tree_code (vector ts) = gcons (gnum 9) (trees_code ts)
  tree_code (set ts) = gcons (gnum 10) (trees_code ts)
  tree_code (map ps) = gcons (gnum 11) (pairs_code ps)
  tree_code (unit fs) = gcons (gnum 12) (fields_code fs)
  tree_code (place n) = gcons (gnum 13) (gnum n)

  trees_code : TreesData → Gv
  trees_code no_trees = gnil
  trees_code (tree t ts) = gcons (tree_code t) (trees_code ts)

  pairs_code : PairsData → Gv
  pairs_code no_pairs = gnil
  pairs_code (pair k v ps) = gcons (gcons (tree_code k) (tree_code v)) (pairs_code ps)

  fields_code : FieldsData → Gv
  fields_code no_fields = gnil
  fields_code (field name t fs) = gcons (gcons (numbers_code name) (tree_code t)) (fields_code fs)

abbrev head : Gv → Gv
head (gcons a b) = a
head _ = gnil

abbrev tail : Gv → Gv
tail (gcons a b) = b
tail _ = gnil

abbrev number : Gv → ℕ
number (gnum n) = n
number _ = 0

numbers_code-inj : (x y : List ℕ) → numbers_code x ≡ numbers_code y → x ≡ y
numbers_code-inj [] [] p = refl
numbers_code-inj (x ∷ xs) (y ∷ ys) p = let h = ap (λ g. number (head g)) p in let t = numbers_code-inj xs ys (ap tail p) in cc
numbers_code-inj xs ys p = cc

ranges_code-inj : (x y : List (List ℕ × ℕ)) → ranges_code x ≡ ranges_code y → x ≡ y
ranges_code-inj [] [] p = refl
ranges_code-inj ((m, i) ∷ xs) ((n, j) ∷ ys) p =
    let name = numbers_code-inj m n (ap (λ g. head (head g)) p) in
    let same = ap (λ g. number (tail (head g))) p in
    let rest = ranges_code-inj xs ys (ap tail p) in cc
ranges_code-inj xs ys p = cc

mutual
  pub tree_code-inj : (x y : TreeData) → tree_code x ≡ tree_code y → x ≡ y
  tree_code-inj void void p = refl
  tree_code-inj (bool b) (bool c) p = ap bool (coded_bool.inj b c (ap tail p))
  tree_code-inj (uint m) (uint n) p = ap (λ g. uint (number (tail g))) p
  tree_code-inj (int m) (int n) p = ap int (coded_ℤ.inj m n (ap tail p))
  tree_code-inj (bytes xs) (bytes ys) p = ap bytes (numbers_code-inj xs ys (ap tail p))
  tree_code-inj (str xs) (str ys) p = ap str (numbers_code-inj xs ys (ap tail p))
  tree_code-inj (label xs) (label ys) p = ap label (numbers_code-inj xs ys (ap tail p))
  tree_code-inj (unlisted m) (unlisted n) p = ap (λ g. unlisted (number (tail g))) p
  tree_code-inj (bits xs) (bits ys) p = ap bits (ranges_code-inj xs ys (ap tail p))
  tree_code-inj (tuple xs) (tuple ys) p = ap tuple (trees_code-inj xs ys (ap tail p))
  tree_code-inj (vector xs) (vector ys) p = ap vector (trees_code-inj xs ys (ap tail p))
  tree_code-inj (set xs) (set ys) p = ap set (trees_code-inj xs ys (ap tail p))
  tree_code-inj (map xs) (map ys) p = ap map (pairs_code-inj xs ys (ap tail p))
  tree_code-inj (unit xs) (unit ys) p = ap unit (fields_code-inj xs ys (ap tail p))
  tree_code-inj (place m) (place n) p = ap (λ g. place (number (tail g))) p
  tree_code-inj x y p = absurd (omega (arith, ap (λ g. number (head g)) p))

  trees_code-inj : (x y : TreesData) → trees_code x ≡ trees_code y → x ≡ y
  trees_code-inj no_trees no_trees p = refl
  trees_code-inj (tree x xs) (tree y ys) p =
      let h = tree_code-inj x y (ap head p) in let t = trees_code-inj xs ys (ap tail p) in cc
  trees_code-inj xs ys p = cc

  pairs_code-inj : (x y : PairsData) → pairs_code x ≡ pairs_code y → x ≡ y
  pairs_code-inj no_pairs no_pairs p = refl
  pairs_code-inj (pair j x xs) (pair k y ys) p =
      let key = tree_code-inj j k (ap (λ g. head (head g)) p) in
      let value = tree_code-inj x y (ap (λ g. tail (head g)) p) in
      let rest = pairs_code-inj xs ys (ap tail p) in cc
  pairs_code-inj xs ys p = cc

  fields_code-inj : (x y : FieldsData) → fields_code x ≡ fields_code y → x ≡ y
  fields_code-inj no_fields no_fields p = refl
  fields_code-inj (field m x xs) (field n y ys) p =
      let name = numbers_code-inj m n (ap (λ g. head (head g)) p) in
      let value = tree_code-inj x y (ap (λ g. tail (head g)) p) in
      let rest = fields_code-inj xs ys (ap tail p) in cc
  fields_code-inj xs ys p = cc

abbrev pub coded_tree : Coded TreeData
coded_tree = record { code = tree_code; inj = tree_code-inj }
