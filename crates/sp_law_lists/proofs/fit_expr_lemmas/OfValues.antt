-- What the test of constants says of kinds.
use Rattle.std.specs.Prelude.{◌&&◌, Some, None, slice_get}
use Rattle.std.specs.List.{AllByRecursion}
use Rattle.std.proofs.Common.{◌≡◌, ℕ, zero, suc, Bool, true, false, List, [], ◌∷◌, refl, ap, subst}
use Rattle.std.proofs.lemmas.Bool.{and_parts}
use Rattle.sp_value.specs.Val.{Val, Vals, Entries, bool, uint, int, bytes, str, enum, tuple, vector, set, map, no_vals, val, no_entries, entry, vals_of, list_of, entries_of, pairs_of}
use Rattle.sp_methods.specs.Kinds.{Kind, Has, HasEach}
use Rattle.sp_types.specs.declared.words.Maker.TheVariants as maker_is
use Rattle.sp_types.specs.Types.{Ty, Tys, made}
use Rattle.sp_types.specs.Types as types
use Rattle.sp_typed_units.specs.declared.declarations.Constant.{Constant}
use Rattle.sp_typed_units.specs.declared.declarations.ConstantValue.{ConstantValue}
use Rattle.sp_typed_units.specs.declared.declarations.ConstantValue.TheVariants as constant_is
use Rattle.sp_meaning_states.specs.Types.{kind_of_type, kinds_of_types, first_of, behind_first}
use Rattle.sp_meaning.specs.Globals.{constant_value}
use Rattle.sp_law_lists.specs.fit_expr.Sorts as sort_is
use Rattle.sp_law_lists.specs.fit_expr.Constants.{nth_has, value_has, members_have, items_have, entries_have, constant_passes, constants_pass}
use Rattle.sp_law_lists.proofs.fit_expr_lemmas.OfSorts.{of_sort}
use Rattle.sp_law_lists.proofs.fit_expr_lemmas.Leaves.{is_of_enum}

listed : (vs : Vals) → vs ≡ vals_of (list_of vs)
listed no_vals = refl
listed (val v vs) = ap (val v) (listed vs)

paired : (es : Entries) → es ≡ entries_of (pairs_of es)
paired no_entries = refl
paired (entry k v es) = ap (entry k v) (paired es)

module _ (ranges units : List ℕ) where
  abbrev kind : Ty → Kind
  kind t = kind_of_type ranges t

  -- a test that gives a kind, of the first part of a type and of the second
  first_has : (ts : Tys) (f : Ty → Bool) (v : Val) → ((t : Ty) → f t ≡ true → Has units (kind t) v) → nth_has ts 0 f ≡ true → Has units (first_of ranges (kinds_of_types ranges ts)) v
  first_has types.none f v g h = absurd (let z : false ≡ true = h in cc)
  first_has (types.more t ts) f v g h = g t h

  second_has : (ts : Tys) (f : Ty → Bool) (v : Val) → ((t : Ty) → f t ≡ true → Has units (kind t) v) → nth_has ts 1 f ≡ true → Has units (first_of ranges (behind_first ranges (kinds_of_types ranges ts))) v
  second_has types.none f v g h = absurd (let z : false ≡ true = h in cc)
  second_has (types.more t types.none) f v g h = absurd (let z : false ≡ true = h in cc)
  second_has (types.more t (types.more u ts)) f v g h = g u h

  mutual
    pub value_fits : (v : Val) (t : Ty) → value_has v t ≡ true → Has units (kind t) v
    value_fits (bool b) t h = rw (of_sort ranges t sort_is.Bools h) (b, refl)
    value_fits (uint w n) t h = rw (of_sort ranges t sort_is.Unsigned h) (w, n, refl)
    value_fits (int w n) t h = rw (of_sort ranges t sort_is.Signed h) (w, n, refl)
    value_fits (bytes b) t h = rw (of_sort ranges t sort_is.Bytes h) (b, refl)
    value_fits (str b) t h = rw (of_sort ranges t sort_is.Text h) (b, refl)
    value_fits (enum k n) t h = rw (is_of_enum ranges k t h) (n, refl)
    value_fits (tuple vs) (made maker_is.Tuple ts) h = (list_of vs, ap tuple (listed vs), members_fit vs ts h)
    value_fits (vector vs) (made maker_is.Vector ts) h = (list_of vs, ap vector (listed vs), items_fit vs ts h)
    value_fits (set vs) (made maker_is.Set ts) h = (list_of vs, ap set (listed vs), items_fit vs ts h)
    value_fits (map es) (made maker_is.Map ts) h = (pairs_of es, ap map (paired es), entries_fit es ts h)
    value_fits _ t h = absurd (let z : false ≡ true = h in cc)

    members_fit : (vs : Vals) (ts : Tys) → members_have vs ts ≡ true → HasEach units (kinds_of_types ranges ts) (list_of vs)
    members_fit no_vals types.none h = tt
    members_fit (val v vs) (types.more t ts) h =
        let b = and_parts (value_has v t) (members_have vs ts) h in
        (value_fits v t b.0, members_fit vs ts b.1)
    members_fit no_vals (types.more t ts) h = absurd (let z : false ≡ true = h in cc)
    members_fit (val v vs) types.none h = absurd (let z : false ≡ true = h in cc)

    items_fit : (vs : Vals) (ts : Tys) → items_have vs ts ≡ true → AllByRecursion (Has units (first_of ranges (kinds_of_types ranges ts))) (list_of vs)
    items_fit no_vals ts h = tt
    items_fit (val v vs) ts h =
        let b = and_parts (nth_has ts 0 (value_has v)) (items_have vs ts) h in
        (first_has ts (value_has v) v (λ t. value_fits v t) b.0, items_fit vs ts b.1)

    entries_fit : (es : Entries) (ts : Tys) → entries_have es ts ≡ true →
        AllByRecursion (λ e. Has units (first_of ranges (kinds_of_types ranges ts)) e.0 × Has units (first_of ranges (behind_first ranges (kinds_of_types ranges ts))) e.1) (pairs_of es)
    entries_fit no_entries ts h = tt
    entries_fit (entry k v es) ts h =
        let b = and_parts (nth_has ts 0 (value_has k) && nth_has ts 1 (value_has v)) (entries_have es ts) h in
        let c = and_parts (nth_has ts 0 (value_has k)) (nth_has ts 1 (value_has v)) b.0 in
        ((first_has ts (value_has k) k (λ t. value_fits k t) c.0, second_has ts (value_has v) v (λ t. value_fits v t) c.1), entries_fit es ts b.1)

  constant_fits : (c : ConstantValue) (t : Ty) (v : Val) → constant_passes c t ≡ true → constant_value c ≡ Some v → Has units (kind t) v
  constant_fits (constant_is.Value w) t v h is = subst (Has units (kind t)) (one is) (value_fits w t h)
    where
      one : {w v : Val} → Some w ≡ Some v → w ≡ v
      one is = cc
  constant_fits _ t v h is = absurd (let z : None ≡ Some v = is in cc)

  pub constants_fit : (cs : List Constant) (c : ℕ) (x : Constant) (v : Val) → constants_pass cs ≡ true → slice_get cs c ≡ Some x → constant_value x.value ≡ Some v → Has units (kind x.ty) v
  constants_fit [] c x v h at is = absurd (let z : None ≡ Some x = at in cc)
  constants_fit (y ∷ cs) zero x v h at is =
      let same : y ≡ x = (let z : Some y ≡ Some x = at in cc) in
      let passed : constant_passes x.value x.ty ≡ true = subst (λ (z : Constant). constant_passes z.value z.ty ≡ true) same (and_parts (constant_passes y.value y.ty) (constants_pass cs) h).0 in
      constant_fits x.value x.ty v passed is
  constants_fit (y ∷ cs) (suc c) x v h at is = constants_fit cs c x v (and_parts (constant_passes y.value y.ty) (constants_pass cs) h).1 at is
