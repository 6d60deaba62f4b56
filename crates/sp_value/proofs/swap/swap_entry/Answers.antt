use Rattle.std.proofs.Common.{◌≡◌, subst, ap, IfOk}
use Rattle.std.specs.Prelude.{is_some, unwrap_or}
use Rattle.std.specs.Option.{option_map, option_map_or}
use Rattle.sp_value.specs.Val.{Val}
use Rattle.sp_value.specs.Ascending.{entry_key, with_key}
use Rattle.sp_value.specs.inside.Places.{IsKeyAt, IsGapAt}
use Rattle.sp_value.proofs.Search.{found_not}
use Rattle.sp_value.proofs.Swaps.{swapped_at, taken_at, on_ok, is_there}
use Rattle.sp_value.proofs.swap.swap_entry.Goals as goal

pub returns-in-Ok-clause-there : goal.returns-in-Ok-clause-there
returns-in-Ok-clause-there c =
    let same : c.as_slice.result.now ≡ c.args.entries.now.value.items = let slice = c.as_slice.ensures.value in let list = c.deref.ensures in cc in
    let is : IsKeyAt entry_key c.args.entries.now.value.items c.args.key.now c.in-Ok.i = subst (λ xs. IsKeyAt entry_key xs c.args.key.now c.in-Ok.i) same c.in-Ok.ensures in
    subst (λ b. IfOk c.swap_at.result (λ there. there ≡ b)) (is_there c.args.entries.now.value.items c.args.key.now c.in-Ok.i c.requires is) c.swap_at.ensures.there

pub returns-in-Ok-clause-ok : goal.returns-in-Ok-clause-ok
returns-in-Ok-clause-ok c =
    let same : c.as_slice.result.now ≡ c.args.entries.now.value.items = let slice = c.as_slice.ensures.value in let list = c.deref.ensures in cc in
    let is : IsKeyAt entry_key c.args.entries.now.value.items c.args.key.now c.in-Ok.i = subst (λ xs. IsKeyAt entry_key xs c.args.key.now c.in-Ok.i) same c.in-Ok.ensures in
    on_ok c.swap_at.result (swapped_at c.args.entries.now.value.items c.swap_at.new.entries.value.items c.args.key.now c.args.x.now c.in-Ok.i c.requires is) c.swap_at.ensures.ok

pub returns-in-Ok-clause-taken : goal.returns-in-Ok-clause-taken
returns-in-Ok-clause-taken c =
    let same : c.as_slice.result.now ≡ c.args.entries.now.value.items = let slice = c.as_slice.ensures.value in let list = c.deref.ensures in cc in
    let is : IsKeyAt entry_key c.args.entries.now.value.items c.args.key.now c.in-Ok.i = subst (λ xs. IsKeyAt entry_key xs c.args.key.now c.in-Ok.i) same c.in-Ok.ensures in
    on_ok c.swap_at.result (taken_at c.args.entries.now.value.items c.args.key.now c.swap_at.new.x c.args.x.now c.in-Ok.i c.requires is) c.swap_at.ensures.taken

pub returns-in-Err-clause-there : goal.returns-in-Err-clause-there
returns-in-Err-clause-there c =
    let same : c.as_slice.result.now ≡ c.args.entries.now.value.items = let slice = c.as_slice.ensures.value in let list = c.deref.ensures in cc in
    let is : IsGapAt entry_key c.args.entries.now.value.items c.args.key.now c.in-Err.field-0 = subst (λ xs. IsGapAt entry_key xs c.args.key.now c.in-Err.field-0) same c.in-Err.ensures in
    ap is_some (found_not entry_key c.args.entries.now.value.items c.args.key.now c.in-Err.field-0 is)

pub returns-in-Err-clause-ok : goal.returns-in-Err-clause-ok
returns-in-Err-clause-ok c =
    let same : c.as_slice.result.now ≡ c.args.entries.now.value.items = let slice = c.as_slice.ensures.value in let list = c.deref.ensures in cc in
    let is : IsGapAt entry_key c.args.entries.now.value.items c.args.key.now c.in-Err.field-0 = subst (λ xs. IsGapAt entry_key xs c.args.key.now c.in-Err.field-0) same c.in-Err.ensures in
    ap (λ o. option_map_or (λ (e : Val × Val). with_key entry_key (e.0, c.args.x.now) c.args.entries.now.value.items) o c.args.entries.now.value.items) (found_not entry_key c.args.entries.now.value.items c.args.key.now c.in-Err.field-0 is)

pub returns-in-Err-clause-taken : goal.returns-in-Err-clause-taken
returns-in-Err-clause-taken c =
    let same : c.as_slice.result.now ≡ c.args.entries.now.value.items = let slice = c.as_slice.ensures.value in let list = c.deref.ensures in cc in
    let is : IsGapAt entry_key c.args.entries.now.value.items c.args.key.now c.in-Err.field-0 = subst (λ xs. IsGapAt entry_key xs c.args.key.now c.in-Err.field-0) same c.in-Err.ensures in
    ap (λ o. unwrap_or (option_map (λ (e : Val × Val). e.1) o) c.args.x.now) (found_not entry_key c.args.entries.now.value.items c.args.key.now c.in-Err.field-0 is)
