use Rattle.std.proofs.Common.{reverse, arith}
use Rattle.std.proofs.lemmas.Result.{on_ok_weaker}
use Rattle.sp_code.specs.Programs.{names_of}
use Rattle.sp_value.specs.Val.{vals_of, entries_of}
use Rattle.sp_value.specs.Val as val
use Rattle.sp_value.specs.Pieces.{all_in}
use Rattle.sp_show.specs.Plans.{plans, halves}
use Rattle.sp_show.proofs.Begun.{led, lessened, run_tuple, tuple_falls, run_vector, vector_falls, run_set, set_falls, run_map, map_falls}
use Rattle.sp_show.proofs.Moves.{pushed}
use Rattle.sp_show.proofs.walk.begin.Goals as goal

pub returns-in_ok-push-in-Tuple-clause-told : goal.returns-in_ok-push-in-Tuple-clause-told
returns-in_ok-push-in-Tuple-clause-told c =
    on_ok_weaker c.push_row.result (λ e. led (names_of c.args.p.now) c.args.instances.now c.in-Tuple.members.now (val.tuple (vals_of c.in-Tuple.members.now)) (reverse c.args.outer.now.items) (reverse c.args.outer.now.items) e (pushed c.args.tasks.now.items _ c.in_ok-push-in-Tuple.ensures.items) c.in-Tuple.ensures.value c.args.done.now.items (omega arith) (run_tuple (names_of c.args.p.now) c.args.instances.now (plans c.args.tasks.now.items) (reverse c.args.outer.now.items) c.args.done.now.items c.in-Tuple.members.now)) c.push_row.ensures

pub returns-in_ok-push-in-Tuple-clause-falls : goal.returns-in_ok-push-in-Tuple-clause-falls
returns-in_ok-push-in-Tuple-clause-falls c =
    on_ok_weaker c.push_row.result (λ e. lessened (names_of c.args.p.now) c.args.instances.now c.in-Tuple.members.now (val.tuple (vals_of c.in-Tuple.members.now)) (reverse c.args.outer.now.items) (reverse c.args.outer.now.items) e (pushed c.args.tasks.now.items _ c.in_ok-push-in-Tuple.ensures.items) c.in-Tuple.ensures.value (tuple_falls (names_of c.args.p.now) c.args.instances.now (plans c.args.tasks.now.items) (reverse c.args.outer.now.items) c.len-n.result c.in-Tuple.members.now)) c.push_row.ensures

pub returns-in_ok-push-in-Vector-clause-told : goal.returns-in_ok-push-in-Vector-clause-told
returns-in_ok-push-in-Vector-clause-told c =
    on_ok_weaker c.push_row-in-Vector.result (λ e. led (names_of c.args.p.now) c.args.instances.now c.in-Vector.items.now (val.vector (vals_of c.in-Vector.items.now)) (reverse c.args.outer.now.items) (reverse c.args.outer.now.items) e (pushed c.args.tasks.now.items _ c.in_ok-push-in-Vector.ensures.items) c.in-Vector.ensures.value c.args.done.now.items (omega arith) (run_vector (names_of c.args.p.now) c.args.instances.now (plans c.args.tasks.now.items) (reverse c.args.outer.now.items) c.args.done.now.items c.in-Vector.items.now)) c.push_row-in-Vector.ensures

pub returns-in_ok-push-in-Vector-clause-falls : goal.returns-in_ok-push-in-Vector-clause-falls
returns-in_ok-push-in-Vector-clause-falls c =
    on_ok_weaker c.push_row-in-Vector.result (λ e. lessened (names_of c.args.p.now) c.args.instances.now c.in-Vector.items.now (val.vector (vals_of c.in-Vector.items.now)) (reverse c.args.outer.now.items) (reverse c.args.outer.now.items) e (pushed c.args.tasks.now.items _ c.in_ok-push-in-Vector.ensures.items) c.in-Vector.ensures.value (vector_falls (names_of c.args.p.now) c.args.instances.now (plans c.args.tasks.now.items) (reverse c.args.outer.now.items) c.len-n.result c.in-Vector.items.now)) c.push_row-in-Vector.ensures

pub returns-in_ok-push-in-Set-clause-told : goal.returns-in_ok-push-in-Set-clause-told
returns-in_ok-push-in-Set-clause-told c =
    on_ok_weaker c.push_pieces.result (λ e. led (names_of c.args.p.now) c.args.instances.now (all_in c.in-Set.pieces.now) (val.set (vals_of (all_in c.in-Set.pieces.now))) (reverse c.args.outer.now.items) (reverse c.args.outer.now.items) e (pushed c.args.tasks.now.items _ c.in_ok-push-in-Set.ensures.items) c.in-Set.ensures.value c.args.done.now.items (omega arith) (run_set (names_of c.args.p.now) c.args.instances.now (plans c.args.tasks.now.items) (reverse c.args.outer.now.items) c.args.done.now.items (all_in c.in-Set.pieces.now))) c.push_pieces.ensures

pub returns-in_ok-push-in-Set-clause-falls : goal.returns-in_ok-push-in-Set-clause-falls
returns-in_ok-push-in-Set-clause-falls c =
    on_ok_weaker c.push_pieces.result (λ e. lessened (names_of c.args.p.now) c.args.instances.now (all_in c.in-Set.pieces.now) (val.set (vals_of (all_in c.in-Set.pieces.now))) (reverse c.args.outer.now.items) (reverse c.args.outer.now.items) e (pushed c.args.tasks.now.items _ c.in_ok-push-in-Set.ensures.items) c.in-Set.ensures.value (set_falls (names_of c.args.p.now) c.args.instances.now (plans c.args.tasks.now.items) (reverse c.args.outer.now.items) c.len-n.result (all_in c.in-Set.pieces.now))) c.push_pieces.ensures

pub returns-in_ok-push-in-Map-clause-told : goal.returns-in_ok-push-in-Map-clause-told
returns-in_ok-push-in-Map-clause-told c =
    on_ok_weaker c.push_entries.result (λ e. led (names_of c.args.p.now) c.args.instances.now (halves (all_in c.in-Map.pieces.now)) (val.map (entries_of (all_in c.in-Map.pieces.now))) (reverse c.args.outer.now.items) (reverse c.args.outer.now.items) e (pushed c.args.tasks.now.items _ c.in_ok-push-in-Map.ensures.items) c.in-Map.ensures.value c.args.done.now.items (omega arith) (run_map (names_of c.args.p.now) c.args.instances.now (plans c.args.tasks.now.items) (reverse c.args.outer.now.items) c.args.done.now.items (all_in c.in-Map.pieces.now))) c.push_entries.ensures

pub returns-in_ok-push-in-Map-clause-falls : goal.returns-in_ok-push-in-Map-clause-falls
returns-in_ok-push-in-Map-clause-falls c =
    on_ok_weaker c.push_entries.result (λ e. lessened (names_of c.args.p.now) c.args.instances.now (halves (all_in c.in-Map.pieces.now)) (val.map (entries_of (all_in c.in-Map.pieces.now))) (reverse c.args.outer.now.items) (reverse c.args.outer.now.items) e (pushed c.args.tasks.now.items _ c.in_ok-push-in-Map.ensures.items) c.in-Map.ensures.value (map_falls (names_of c.args.p.now) c.args.instances.now (plans c.args.tasks.now.items) (reverse c.args.outer.now.items) c.len-n.result (all_in c.in-Map.pieces.now))) c.push_entries.ensures
