use Rattle.std.proofs.Common.{◌∙◌, sym, ap}
use Rattle.sp_read_file.proofs.Endings.{passed_on}
use Rattle.sp_front.specs.Lists.{stop}
use Rattle.sp_front.specs.inside.Asking.{StoppedAsking}
use Rattle.sp_front.specs.inside.Follow.{IsRefusedBy, IsStuckBy}
use Rattle.sp_front.proofs.Following.{followed_all, stuck_all, due_done}
use Rattle.sp_front.proofs.Asking.{err_is, followed_on, stuck_none, stuck_on, stopped_at, stopped_on}
use Rattle.sp_front.proofs.follow.complete.Goals as goal

pub returns-in_err-follow-clause-stuck : goal.returns-in_err-follow-clause-stuck
returns-in_err-follow-clause-stuck g c =
    let files = g.M.Modules.files c.args.modules.now in
    let dirs = c.args.directories.now in
    let es = c.args.entries.now.items in
    let now = c.loop-place.entries.items in
    passed_on c.from_residual-in_err-follow.result c.in_err-follow.field-0.0 (λ u. IsStuckBy files dirs es u) c.from_residual-in_err-follow.ensures.1
    (stuck_all files dirs es now c.in_err-follow.field-0.0 c.loop-place.invariant.followed (rw c.loop-place.invariant.files at c.in_err-follow.ensures.stuck))

pub returns-in_err-follow-clause-asks_part : goal.returns-in_err-follow-clause-asks_part
returns-in_err-follow-clause-asks_part g c =
    err_is c.from_residual-in_err-follow.result
    (stuck_on (g.M.Modules.files c.args.modules.now) c.args.directories.now c.args.entries.now.items c.loop-place.entries.items (g.M.Modules.asked c.args.modules.now) (g.M.Modules.asked c.loop-place.modules) (g.M.Modules.asked c.follow.new.modules)
    c.loop-place.invariant.asks (rw c.loop-place.invariant.files at c.in_err-follow.ensures.asks_part))

pub loop-place-preserved : goal.loop-place-preserved
loop-place-preserved g c =
    let files = g.M.Modules.files c.args.modules.now in
    let dirs = c.args.directories.now in
    let es = c.args.entries.now.items in
    let now = c.loop-place.entries.items in
    record {
      followed = followed_all files dirs es now c.follow.new.entries.items c.loop-place.invariant.followed (rw c.loop-place.invariant.files at c.in_ok-follow.ensures.followed);
      clear = due_done c.follow.new.entries.items c.loop-place.place c.in_ok-follow.ensures.due;
      seen = c.in_ok-follow.ensures.seen;
      most = c.in_ok-follow.ensures.most;
      asks = followed_on files dirs es now c.follow.new.entries.items (g.M.Modules.asked c.args.modules.now) (g.M.Modules.asked c.loop-place.modules) (g.M.Modules.asked c.follow.new.modules) c.loop-place.invariant.asks (rw c.loop-place.invariant.files at c.in_ok-follow.ensures.asks);
      files = c.in_ok-follow.ensures.files ∙ c.loop-place.invariant.files;
      quiet = c.in_ok-follow.ensures.cause ∙ c.loop-place.invariant.quiet;
    }

pub returns-in_err-imports-clause-asks_part : goal.returns-in_err-imports-clause-asks_part
returns-in_err-imports-clause-asks_part g c =
    err_is c.from_residual.result
    (stuck_none (g.M.Modules.files c.args.modules.now) c.args.directories.now c.args.entries.now.items c.loop-place.entries.items (g.M.Modules.asked c.args.modules.now) (g.M.Modules.asked c.loop-place.modules) c.loop-place.invariant.asks)

pub returns-in-Err-clause-asks_part : goal.returns-in-Err-clause-asks_part
returns-in-Err-clause-asks_part g c =
    stuck_none (g.M.Modules.files c.args.modules.now) c.args.directories.now c.args.entries.now.items c.loop-place.entries.items (g.M.Modules.asked c.args.modules.now) (g.M.Modules.asked c.loop-place.modules) c.loop-place.invariant.asks

pub returns-in_err-follow-clause-asks_stopped : goal.returns-in_err-follow-clause-asks_stopped
returns-in_err-follow-clause-asks_stopped g c =
    let files = g.M.Modules.files c.args.modules.now in
    let dirs = c.args.directories.now in
    let es = c.args.entries.now.items in
    let before = g.M.Modules.asked c.args.modules.now in
    let mid = g.M.Modules.asked c.loop-place.modules in
    let after = g.M.Modules.asked c.follow.new.modules in
    let u = c.in_err-follow.field-0.0 in
    passed_on c.from_residual-in_err-follow.result u (λ u. IsRefusedBy (StoppedAsking files dirs es before after) u) c.from_residual-in_err-follow.ensures.1
    (stopped_on files dirs es c.loop-place.entries.items u before mid after c.loop-place.invariant.asks (rw c.loop-place.invariant.files at c.in_err-follow.ensures.asks_stopped))

pub returns-in-Err-clause-asks_stopped : goal.returns-in-Err-clause-asks_stopped
returns-in-Err-clause-asks_stopped g c =
    let due = ap stop (sym c.deref.ensures.value) ∙ (rw c.in-Err.is at c.in_ok-imports.ensures) in
    stopped_at (g.M.Modules.files c.args.modules.now) c.args.directories.now c.args.entries.now.items c.loop-place.entries.items c.in-Err.refusal (g.M.Modules.asked c.args.modules.now) (g.M.Modules.asked c.loop-place.modules) c.loop-place.invariant.asks due
