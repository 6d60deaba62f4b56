use Rattle.std.proofs.Common.{◌≡◌, subst, OnOk}
use Rattle.sp_value.specs.inside.Places.{IsKeyAt, IsGapAt}
use Rattle.sp_value.proofs.Search.{without_key_at, without_gap}
use Rattle.sp_value.proofs.keyed.take.Goals as goal

pub returns-in-Ok-clause-ok : goal.returns-in-Ok-clause-ok
returns-in-Ok-clause-ok g c =
    let key = g.T.Keyed.key in
    let same : c.as_slice.result.now ≡ c.args.items.now.value.items = let slice = c.as_slice.ensures.value in let list = c.deref.ensures in cc in
    let is : IsKeyAt key c.args.items.now.value.items c.args.key.now c.in-Ok.i = subst (λ xs. IsKeyAt key xs c.args.key.now c.in-Ok.i) same c.in-Ok.ensures in
    let left = without_key_at key c.args.items.now.value.items c.args.key.now c.in-Ok.i c.requires is in
    subst (λ xs. OnOk c.remove_item.result (c.remove_item.new.items.value.items ≡ xs)) left c.remove_item.ensures.ok

pub returns-in-Err-clause-ok : goal.returns-in-Err-clause-ok
returns-in-Err-clause-ok g c =
    let key = g.T.Keyed.key in
    let same : c.as_slice.result.now ≡ c.args.items.now.value.items = let slice = c.as_slice.ensures.value in let list = c.deref.ensures in cc in
    let is : IsGapAt key c.args.items.now.value.items c.args.key.now c.in-Err.field-0 = subst (λ xs. IsGapAt key xs c.args.key.now c.in-Err.field-0) same c.in-Err.ensures in
    without_gap key c.args.items.now.value.items c.args.key.now c.in-Err.field-0 is
