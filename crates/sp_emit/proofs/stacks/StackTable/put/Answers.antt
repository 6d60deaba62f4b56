use Rattle.std.proofs.Common.{◌≡◌, ◌≤◌, ℕ, List, [], ◌∷◌, ◌++◌, length, subst, sym, ap, arith}
use Rattle.sp_code.specs.declared.program.StackRow.{StackRow}
use Rattle.sp_emit.proofs.Listed.{row_stands, row_grows, number_of_row}
use Rattle.sp_emit.proofs.stacks.StackTable.put.Goals as goal

pub invariant_of-self-2 : goal.invariant_of-self-2
invariant_of-self-2 c =
    let below = subst (λ (ss : List (List ℕ)). c.args.below ≤ length ss) (sym c.self.view_is) c.requires in
    rw c.in_ok-push.ensures.items (row_stands c.self.inside.rows.items _ c.self.invariant below)

pub returns-clause-row : goal.returns-clause-row
returns-clause-row c =
    let rows = c.self.inside.rows.items in
    let row : StackRow = record { top = c.args.top; below = c.args.below } in
    let long : c.len.result ≡ length (rows ++ row ∷ []) = omega (arith, ap length c.in_ok-push.ensures.items) in
    rw (c.in_ok-push.ensures.items, ← c.self.view_is) (number_of_row rows row c.len.result c.number.result long c.number.ensures)

pub returns-clause-grows : goal.returns-clause-grows
returns-clause-grows c =
    rw (c.in_ok-push.ensures.items, ← c.self.view_is) (row_grows c.self.inside.rows.items _)
