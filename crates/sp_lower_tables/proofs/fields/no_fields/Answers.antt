use Rattle.std.proofs.Common.{◌≡◌, ◌+◌, ◌++◌, ℕ, suc, List, [], ◌∷◌, None, Option, replicate, ap, ◌∙◌, arith}
use Rattle.std.specs.Borrow.{Bor}
use Rattle.sp_typed_units.specs.declared.items.Field.{Field}
use Rattle.sp_lower_tables.proofs.Noted.{one_none_more}
use Rattle.sp_lower_tables.proofs.fields.no_fields.Goals as goal

pub loop-preserved : goal.loop-preserved
loop-preserved c =
    let n = c.loop.counter in
    let next : suc n ≡ n + 1 = omega arith in
    c.in_ok-push.ensures.items
    ∙ ap (λ (rows : List (Option (Bor Field))). rows ++ None ∷ []) c.loop.invariant
    ∙ one_none_more n
    ∙ ap (λ (m : ℕ). replicate {A = Option (Bor Field)} m None) next
