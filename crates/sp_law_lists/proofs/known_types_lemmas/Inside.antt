-- What stands inside a full type may stand there.
use Rattle.std.specs.Prelude.{Bool, true, ◌&&◌}
use Rattle.std.specs.List.{list_all}
use Rattle.std.proofs.Common.{◌≡◌, refl, ◌∙◌, [], ◌∷◌, ◌++◌}
use Rattle.std.proofs.lemmas.Bool.{and_parts, and_from}
use Rattle.std.proofs.lemmas.List.Folds.{list_all-append}
use Rattle.sp_types.specs.declared.words.Maker.{Maker}
use Rattle.sp_types.specs.declared.words.Maker.TheVariants as maker_is
use Rattle.sp_types.specs.Types.{Ty, Tys, word, made, is_known, is_key}
use Rattle.sp_types.specs.Types as types
use Rattle.sp_law_lists.specs.known_types.Full.{has_value, have_values, has_parts, is_full, are_full}
use Rattle.sp_law_lists.specs.known_types.Inside.{inside, all_inside, own_keys, keys_in, all_keys_in, may_stand_inside}
use Rattle.sp_law_lists.proofs.known_types_lemmas.Full.{never, full_is_known, key_valued}

-- the parts of what is made of types have values
parts_valued : (m : Maker) (ts : Tys) → has_parts m ts ≡ true → have_values ts ≡ true
parts_valued maker_is.Tuple ts h = h
parts_valued maker_is.Vector types.none h = never h
parts_valued maker_is.Vector (types.more t types.none) h = and_from (has_value t) true h refl
parts_valued maker_is.Vector (types.more t (types.more u ts)) h = never h
parts_valued maker_is.Set types.none h = never h
parts_valued maker_is.Set (types.more t types.none) h = and_from (has_value t) true (key_valued t h) refl
parts_valued maker_is.Set (types.more t (types.more u ts)) h = never h
parts_valued maker_is.Map types.none h = never h
parts_valued maker_is.Map (types.more t types.none) h = never h
parts_valued maker_is.Map (types.more t (types.more u types.none)) h =
    let p = and_parts (is_key t) (has_value u) h in
    and_from (has_value t) (has_value u && true) (key_valued t p.0) (and_from (has_value u) true p.1 refl)
parts_valued maker_is.Map (types.more t (types.more u (types.more v ts))) h = never h

mutual
  inside_stands : (t : Ty) → is_full t ≡ true → list_all may_stand_inside (inside t) ≡ true
  inside_stands (word w) f = refl
  inside_stands (made m ts) f = (let p = and_parts (has_parts m ts) (are_full ts) f in all_stand ts (parts_valued m ts p.0) p.1)

  all_stand : (ts : Tys) → have_values ts ≡ true → are_full ts ≡ true → list_all may_stand_inside (all_inside ts) ≡ true
  all_stand types.none v f = refl
  all_stand (types.more t ts) v f =
      let p = and_parts (has_value t) (have_values ts) v in
      let q = and_parts (is_full t) (are_full ts) f in
      and_from (may_stand_inside t) (list_all may_stand_inside (inside t ++ all_inside ts)) (and_from (is_known t) (has_value t) (full_is_known t q.0) p.0)
      (list_all-append may_stand_inside (inside t) (all_inside ts) ∙ and_from (list_all may_stand_inside (inside t)) (list_all may_stand_inside (all_inside ts)) (inside_stands t q.0) (all_stand ts p.1 q.1))

-- keys
own_are_keys : (m : Maker) (ts : Tys) → has_parts m ts ≡ true → list_all is_key (own_keys m ts) ≡ true
own_are_keys maker_is.Tuple ts h = refl
own_are_keys maker_is.Vector ts h = refl
own_are_keys maker_is.Set types.none h = refl
own_are_keys maker_is.Set (types.more t types.none) h = and_from (is_key t) true h refl
own_are_keys maker_is.Set (types.more t (types.more u ts)) h = never h
own_are_keys maker_is.Map types.none h = refl
own_are_keys maker_is.Map (types.more t types.none) h = never h
own_are_keys maker_is.Map (types.more t (types.more u types.none)) h = and_from (is_key t) true (and_parts (is_key t) (has_value u) h).0 refl
own_are_keys maker_is.Map (types.more t (types.more u (types.more v ts))) h = never h

mutual
  are_keys : (t : Ty) → is_full t ≡ true → list_all is_key (keys_in t) ≡ true
  are_keys (word w) f = refl
  are_keys (made m ts) f =
      let p = and_parts (has_parts m ts) (are_full ts) f in
      list_all-append is_key (own_keys m ts) (all_keys_in ts) ∙ and_from (list_all is_key (own_keys m ts)) (list_all is_key (all_keys_in ts)) (own_are_keys m ts p.0) (all_are_keys ts p.1)

  all_are_keys : (ts : Tys) → are_full ts ≡ true → list_all is_key (all_keys_in ts) ≡ true
  all_are_keys types.none f = refl
  all_are_keys (types.more t ts) f =
      let q = and_parts (is_full t) (are_full ts) f in
      list_all-append is_key (keys_in t) (all_keys_in ts) ∙ and_from (list_all is_key (keys_in t)) (list_all is_key (all_keys_in ts)) (are_keys t q.0) (all_are_keys ts q.1)

pub parts_stand : (t : Ty) → is_full t ≡ true → (list_all may_stand_inside (inside t) ≡ true) × (list_all is_key (keys_in t) ≡ true)
parts_stand t f = (inside_stands t f, are_keys t f)
