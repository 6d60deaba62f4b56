use Rattle.std.proofs.Common.{◌≡◌, ◌<◌, [], ◌∷◌, length}
use Rattle.std.specs.List.{AllByRecursion}
use Rattle.sp_meaning_states.specs.Types.{kind_of_type}
use Rattle.sp_meaning.specs.Globals.{range_counts}
use Rattle.sp_code.specs.Programs.{kinds_at}
use Rattle.sp_emit.specs.Kinds.{Grows}
use Rattle.sp_emit.specs.Plans.{plans, work}
use Rattle.sp_emit.specs.inside.KindPlans.{kinds_behind}
use Rattle.sp_emit.proofs.kinds.KindTable.kind.Given as goal

abbrev pub decreases-loop-task : goal.decreases-loop-task
decreases-loop-task l = work (plans l.tasks.items)

abbrev pub invariant-loop-task : goal.invariant-loop-task
invariant-loop-task l = record {
  grows : Grows l.fn.self l.self;
  below : AllByRecursion (λ n. n < length l.self) l.done.items;
  leads : kinds_behind (range_counts l.bitfields) (plans l.tasks.items) (kinds_at l.self l.done.items) ≡ kind_of_type (range_counts l.bitfields) l.ty ∷ [];
}
