-- The laws of sets and maps, from those of their lists.
use Rattle.std.proofs.Common.{◌≡◌, List, Option, Some, None, ap, ◌∙◌}
use Rattle.std.specs.Option.{option_map}
use Rattle.std.specs.Prelude.{is_some}
use Rattle.sp_value.specs.Val.{Val, set, map, vals_of, list_of, entries_of, pairs_of}
use Rattle.sp_value.specs.Ascending.{own_key, entry_key, found, with_key, without}
use Rattle.sp_value.specs.OneKey.{PutsAtOneKey, AddsOneKey, DeletesOneKey, DeletesOneEntry}
use Rattle.sp_value.proofs.Lists.{list_of_vals_of, pairs_of_entries_of}
use Rattle.sp_value.proofs.Found.{found_with, found_other_with, found_without, found_other_without}

-- what is found in the entries of a list, and in the values of one
in_entries : (j : Val) (xs : List (Val × Val)) (r : Option (Val × Val)) → found entry_key j xs ≡ r → found entry_key j (pairs_of (entries_of xs)) ≡ r
in_entries j xs r h = ap (found entry_key j) (pairs_of_entries_of xs) ∙ h

in_vals : (j : Val) (xs : List Val) (r : Option Val) → found own_key j xs ≡ r → found own_key j (list_of (vals_of xs)) ≡ r
in_vals j xs r h = ap (found own_key j) (list_of_vals_of xs) ∙ h

pub puts_at_one_key : PutsAtOneKey
puts_at_one_key (map es) k v h =
    let xs = pairs_of es in
    let new = with_key entry_key (k, v) xs in (
      ap (option_map (λ (e : Val × Val). e.1)) (in_entries k new (Some (k, v)) (found_with entry_key (k, v) xs)),
      λ j other. ap (option_map (λ (e : Val × Val). e.1)) (in_entries j new (found entry_key j xs) (found_other_with entry_key j (k, v) xs other)),
    )
puts_at_one_key m k v h = absurd h

pub adds_one_key : AddsOneKey
adds_one_key (set vs) k h =
    let xs = list_of vs in
    let new = with_key own_key k xs in (
      ap is_some (in_vals k new (Some k) (found_with own_key k xs)),
      λ j other. ap is_some (in_vals j new (found own_key j xs) (found_other_with own_key j k xs other)),
    )
adds_one_key s k h = absurd h

pub deletes_one_key : DeletesOneKey
deletes_one_key (set vs) k h =
    let xs = list_of vs in
    let new = without own_key k xs in (
      ap is_some (in_vals k new None (found_without own_key k xs)),
      λ j other. ap is_some (in_vals j new (found own_key j xs) (found_other_without own_key j k xs other)),
    )
deletes_one_key (map es) k h =
    let xs = pairs_of es in
    let new = without entry_key k xs in (
      ap is_some (in_entries k new None (found_without entry_key k xs)),
      λ j other. ap is_some (in_entries j new (found entry_key j xs) (found_other_without entry_key j k xs other)),
    )
deletes_one_key v k h = absurd h

pub deletes_one_entry : DeletesOneEntry
deletes_one_entry (map es) k h =
    let xs = pairs_of es in
    let new = without entry_key k xs in (
      ap (option_map (λ (e : Val × Val). e.1)) (in_entries k new None (found_without entry_key k xs)),
      λ j other. ap (option_map (λ (e : Val × Val). e.1)) (in_entries j new (found entry_key j xs) (found_other_without entry_key j k xs other)),
    )
deletes_one_entry m k h = absurd h
