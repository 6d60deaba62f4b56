use Rattle.std.proofs.Common.{◌+◌, ℕ, List, arith}
use denote.Ref.{Bor}
use Rattle.sp_events.specs.Tree.{TreeData}
use Rattle.sp_events.specs.TreeSizes.{tree_size}
use Rattle.sp_json.proofs.Pushes.{pushed, pushed_work, table_tokens, table_weighs}
use Rattle.sp_json.proofs.walk.push_table.Goals as goal

pub loop-name-preserved : goal.loop-name-preserved
loop-name-preserved c =
    let l = c.loop-name in
    let e : Bor (List ℕ) × Bor TreeData = (c.in-Some.name, c.in-Some.tree) in
    record {
      tokens = table_tokens l.table.entries c.pop_last.new.self.entries e _ _ _ c.in-Some.ensures.removal (pushed l.tasks.items _ c.in_ok-push.ensures.items) l.invariant.tokens;
      work = omega (arith, table_weighs (λ t. tree_size t + 1) l.table.entries c.pop_last.new.self.entries e c.in-Some.ensures.removal, pushed_work l.tasks.items _ c.in_ok-push.ensures.items, l.invariant.work);
    }
