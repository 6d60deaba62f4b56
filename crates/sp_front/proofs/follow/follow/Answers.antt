use Rattle.std.proofs.Common.{◌∙◌, sym, ◌+◌, drop}
use Rattle.sp_read_file.proofs.Endings.{passed_on}
use Rattle.sp_front.specs.inside.Asking.{StoppedAsking}
use Rattle.sp_front.specs.inside.Follow.{IsRefusedBy, IsStuckBy}
use Rattle.sp_front.proofs.Following.{vain_stuck, due_first, due_added, followed_added, added_most, at_place}
use Rattle.sp_front.proofs.Asking.{err_is, followed_by, stuck_by, stopped_by}
use Rattle.sp_front.proofs.follow.follow.Goals as goal

pub returns-in_err-add_import-clause-stuck : goal.returns-in_err-add_import-clause-stuck
returns-in_err-add_import-clause-stuck g c =
    let files = g.M.Modules.files c.args.modules.now in
    let dirs = c.args.directories.now in
    let es = c.args.entries.now.items in
    let now = c.loop-import.entries.items in
    let i = c.import-item.result in
    let k = c.loop-import.import-index in
    let is = c.args.imports.now in
    let due = due_first now c.args.place is k i c.loop-import-test.true c.import-item.is c.loop-import.invariant.due in
    let missing = sym (c.is_missing.ensures now c.loop-import.invariant.seen) ∙ c.if-not-is_missing.false in
    let vain = c.in_err-add_import.ensures.vain due.file (at_place now c.args.place due.file due.after due.inside due.split) in
    passed_on c.from_residual.result c.in_err-add_import.field-0.0 (λ u. IsStuckBy files dirs es u) c.from_residual.ensures.1
    (vain_stuck files dirs es now c.args.place i (drop (k + 1) is) c.in_err-add_import.field-0.0 c.loop-import.invariant.followed due missing (rw c.loop-import.invariant.files at vain))

pub returns-in_err-add_import-clause-asks_part : goal.returns-in_err-add_import-clause-asks_part
returns-in_err-add_import-clause-asks_part g c =
    let files = g.M.Modules.files c.args.modules.now in
    let now = c.loop-import.entries.items in
    let i = c.import-item.result in
    let k = c.loop-import.import-index in
    let is = c.args.imports.now in
    let due = due_first now c.args.place is k i c.loop-import-test.true c.import-item.is c.loop-import.invariant.due in
    let missing = sym (c.is_missing.ensures now c.loop-import.invariant.seen) ∙ c.if-not-is_missing.false in
    err_is c.from_residual.result
    (stuck_by files c.args.directories.now c.args.entries.now.items now c.args.place i (drop (k + 1) is) (g.M.Modules.asked c.args.modules.now) (g.M.Modules.asked c.loop-import.modules) (g.M.Modules.asked c.add_import.new.modules)
    c.loop-import.invariant.asks due missing (rw c.loop-import.invariant.files at c.in_err-add_import.ensures.asks_part))

pub returns-in_err-add_import-clause-asks_stopped : goal.returns-in_err-add_import-clause-asks_stopped
returns-in_err-add_import-clause-asks_stopped g c =
    let files = g.M.Modules.files c.args.modules.now in
    let dirs = c.args.directories.now in
    let es = c.args.entries.now.items in
    let now = c.loop-import.entries.items in
    let i = c.import-item.result in
    let k = c.loop-import.import-index in
    let is = c.args.imports.now in
    let before = g.M.Modules.asked c.args.modules.now in
    let mid = g.M.Modules.asked c.loop-import.modules in
    let after = g.M.Modules.asked c.add_import.new.modules in
    let u = c.in_err-add_import.field-0.0 in
    let due = due_first now c.args.place is k i c.loop-import-test.true c.import-item.is c.loop-import.invariant.due in
    let missing = sym (c.is_missing.ensures now c.loop-import.invariant.seen) ∙ c.if-not-is_missing.false in
    let vain = c.in_err-add_import.ensures.vain due.file (at_place now c.args.place due.file due.after due.inside due.split) in
    passed_on c.from_residual.result u (λ u. IsRefusedBy (StoppedAsking files dirs es before after) u) c.from_residual.ensures.1
    (stopped_by files dirs es now c.args.place i (drop (k + 1) is) u before mid after c.loop-import.invariant.asks due missing (rw c.loop-import.invariant.files at vain) (rw c.loop-import.invariant.files at c.in_err-add_import.ensures.asks_vain))

pub loop-import-preserved : goal.loop-import-preserved
loop-import-preserved g c =
    let files = g.M.Modules.files c.args.modules.now in
    let dirs = c.args.directories.now in
    let es = c.args.entries.now.items in
    let now = c.loop-import.entries.items in
    let i = c.import-item.result in
    let k = c.loop-import.import-index in
    let is = c.args.imports.now in
    let due = due_first now c.args.place is k i c.loop-import-test.true c.import-item.is c.loop-import.invariant.due in
    let missing = sym (c.is_missing.ensures now c.loop-import.invariant.seen) ∙ c.if-not-is_missing.false in
    let added = rw c.loop-import.invariant.files at c.in_ok-add_import.ensures.added in
    record {
      followed = followed_added files dirs es now c.args.place i (drop (k + 1) is) c.add_import.new.entries.items c.loop-import.invariant.followed due missing c.in_ok-add_import.ensures.room added;
      due = due_added files dirs now c.args.place i (drop (k + 1) is) c.add_import.new.entries.items due missing c.in_ok-add_import.ensures.room added;
      seen = c.in_ok-add_import.ensures.seen;
      most = added_most now c.add_import.new.entries.items added.0 c.in_ok-add_import.ensures.room added.2;
      asks = followed_by files dirs es now c.args.place i (drop (k + 1) is) c.add_import.new.entries.items (g.M.Modules.asked c.args.modules.now) (g.M.Modules.asked c.loop-import.modules) (g.M.Modules.asked c.add_import.new.modules)
          c.loop-import.invariant.asks due missing c.in_ok-add_import.ensures.room added (rw c.loop-import.invariant.files at c.in_ok-add_import.ensures.asks);
      files = c.in_ok-add_import.ensures.files ∙ c.loop-import.invariant.files;
      quiet = c.in_ok-add_import.ensures.cause ∙ c.loop-import.invariant.quiet;
    }
