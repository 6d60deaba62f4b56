-- What stands in vectors, tuples and maps.
use Rattle.std.specs.Prelude.{ℕ, zero, suc, Bool, true, ◌&&◌, [], ◌∷◌, Option, Some, None, slice_get, option_map}
use Rattle.std.proofs.Common.{◌≡◌, refl, sym, ap, ◌∙◌}
use Rattle.std.proofs.lemmas.Bool.{and_parts}
use Rattle.std.specs.declared.cmp.Ordering.{Ordering}
use Rattle.std.specs.declared.cmp.Ordering.TheVariants.{Less, Equal, Greater}
use Rattle.std.specs.Ordering.{match_ordering}
use Rattle.sp_value.specs.Val.{Val, Vals, Entries, no_vals, val, no_entries, entry, list_of, pairs_of, map}
use Rattle.sp_value.specs.Order.{val_cmp}
use Rattle.sp_value.specs.Ascending.{entry_key, found}
use Rattle.sp_value.specs.Changes.{value_at}
use Rattle.sp_types.specs.Types.{Ty, Tys}
use Rattle.sp_types.specs.Types as types
use Rattle.sp_type_context.specs.Typing.{part_at}
use Rattle.sp_type_constants.specs.Operations.{or_error, or_unknown}
use Rattle.sp_law_lists.proofs.known_types_lemmas.Full.{never}
use Rattle.sp_law_lists.specs.known_values.Values.{is_of, are_of, all_of, all_in, fits}

pub item_told : (t : Ty) (vs : Vals) (n : ℕ) → all_of t vs ≡ true → fits t (or_error (slice_get (list_of vs) n)) ≡ true
item_told t no_vals n e = refl
item_told t (val v vs) zero e = (and_parts (is_of t v) (all_of t vs) e).0
item_told t (val v vs) (suc n) e = item_told t vs n (and_parts (is_of t v) (all_of t vs) e).1

pub member_told : (ts : Tys) (vs : Vals) (n : ℕ) (t : Ty) → part_at ts n ≡ Some t → are_of ts vs ≡ true → fits t (or_unknown (slice_get (list_of vs) n)) ≡ true
member_told types.none vs n t p e = absurd (let z : None ≡ Some t = p in let b : ⊥ = (cc) in b)
member_told (types.more u us) no_vals n t p e = never e
member_told (types.more u us) (val v vs) zero t p e =
    let same : u ≡ t = (let s : Some u ≡ Some t = p in cc) in
    ap (λ x. is_of x v) (sym same) ∙ (and_parts (is_of u v) (are_of us vs) e).0
member_told (types.more u us) (val v vs) (suc n) t p e = member_told us vs n t p (and_parts (is_of u v) (are_of us vs) e).1

-- what stands at a key, if anything does
abbrev There : Ty → Option (Val × Val) → Type 0
There t o = fits t (or_error (option_map (λ (e : Val × Val). e.1) o)) ≡ true

at_key : (s t : Ty) (k : Val) (es : Entries) → all_in s t es ≡ true → fits t (or_error (option_map (λ (e : Val × Val). e.1) (found entry_key k (pairs_of es)))) ≡ true
at_key s t k no_entries e = refl
at_key s t k (entry j v es) e =
    let p = and_parts (is_of t v) (all_in s t es) (and_parts (is_of s j) (is_of t v && all_in s t es) e).1 in
    by (val_cmp j k) p.0 (at_key s t k es p.1)
  where
    by : (o : Ordering) → is_of t v ≡ true → There t (found entry_key k (pairs_of es)) → There t (match_ordering o (found entry_key k (pairs_of es)) (Some (j, v)) (found entry_key k (pairs_of es)))
    by Less is more = more
    by Equal is more = is
    by Greater is more = more

pub value_told : (s t : Ty) (k : Val) (es : Entries) → all_in s t es ≡ true → fits t (or_error (value_at (map es) k)) ≡ true
value_told s t k es e = at_key s t k es e
