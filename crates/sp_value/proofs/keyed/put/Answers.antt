use Rattle.std.proofs.Common.{subst, ◌∙◌}
use Rattle.sp_value.specs.inside.Places.{IsKeyAt, IsGapAt}
use Rattle.sp_value.proofs.Search.{put_at, put_gap}
use Rattle.sp_value.proofs.keyed.put.Goals as goal

pub returns-in-Ok-clause-ok : goal.returns-in-Ok-clause-ok
returns-in-Ok-clause-ok g c =
    let key = g.T.Keyed.key in
    let there : IsKeyAt key c.args.items.now.items c.key.result.now c.in-Ok.i = subst (λ xs. IsKeyAt key xs c.key.result.now c.in-Ok.i) c.as_slice.ensures.value c.in-Ok.ensures in
    let is : IsKeyAt key c.args.items.now.items (key c.args.item) c.in-Ok.i = subst (λ k. IsKeyAt key c.args.items.now.items k c.in-Ok.i) c.key.ensures there in
    put_at key c.args.items.now.items c.args.item c.in-Ok.i c.args.item c.requires is.within (is.same c.args.item)

pub returns-in_ok-insert-in-Err-clause-ok : goal.returns-in_ok-insert-in-Err-clause-ok
returns-in_ok-insert-in-Err-clause-ok g c =
    let key = g.T.Keyed.key in
    let there : IsGapAt key c.args.items.now.items c.key.result.now c.in-Err.i = subst (λ xs. IsGapAt key xs c.key.result.now c.in-Err.i) c.as_slice.ensures.value c.in-Err.ensures in
    let is : IsGapAt key c.args.items.now.items (key c.args.item) c.in-Err.i = subst (λ k. IsGapAt key c.args.items.now.items k c.in-Err.i) c.key.ensures there in
    c.in_ok-insert-in-Err.ensures.items ∙ put_gap key c.args.items.now.items c.args.item c.in-Err.i is
