use Rattle.std.proofs.Common.{◌∙◌, sym, ap, subst, ◌∷◌, [], length, arith, ◌+◌}
use Rattle.std.proofs.lemmas.List.{length-append}
use Rattle.sp_front.specs.inside.Seen.{AreSeen}
use Rattle.sp_front.proofs.Noting.{seen_over, named_next, named_all}
use Rattle.sp_front.proofs.Asking.{err_is, named_on, named_part, named_so_far, named_done}
use Rattle.sp_front.proofs.named.read_named.Goals as goal

pub returns-then-len-eq-MOST_MODULES-clause-seen : goal.returns-then-len-eq-MOST_MODULES-clause-seen
returns-then-len-eq-MOST_MODULES-clause-seen g c =
    seen_over c.loop-path.seen c.loop-path.entries.items c.push_entry.new.entries.items c.in_ok-without_text.field-0 c.path-item.result c.in_ok-without_text.ensures c.in_ok-push_entry.ensures c.loop-path.invariant.seen

pub loop-path-preserved : goal.loop-path-preserved
loop-path-preserved g c =
    let files = g.M.Modules.files c.args.modules.now in
    let named = c.in_ok-entry.ensures.named c.loop-path.entries.items c.loop-path.invariant.seen in
    let more = c.in_ok-push_entry-2.ensures in
    let n = ap length more ∙ length-append c.loop-path.entries.items (c.in_ok-entry.entry ∷ []) in
    record {
      named = named_next files c.args.names.now c.loop-path.path-index c.path-item.result c.loop-path.entries.items c.push_entry-in-loop-path.new.entries.items c.in_ok-entry.entry c.loop-path-test.true c.path-item.is c.loop-path.invariant.named
          (rw c.loop-path.invariant.files at named.0) more;
      count = let k = c.loop-path.invariant.count in omega (arith, n, k);
      room = let k = c.loop-path.invariant.count in let l = c.len.ensures in let not = c.if-len-eq-MOST_MODULES.false in let r = c.loop-path.invariant.room in omega (arith, k, l, not, r);
      seen = subst (λ es. AreSeen c.read_one.new.seen es) (sym more) named.1;
      asks = named_on (g.M.Modules.asked c.args.modules.now) (g.M.Modules.asked c.loop-path.modules) (g.M.Modules.asked c.read_one.new.modules) c.args.names.now c.loop-path.path-index c.path-item.result c.loop-path-test.true c.path-item.is c.loop-path.invariant.asks c.in_ok-entry.ensures.asks;
      files = c.in_ok-entry.ensures.files ∙ c.loop-path.invariant.files;
      quiet = c.in_ok-entry.ensures.cause ∙ c.loop-path.invariant.quiet;
    }

pub returns-clause-named : goal.returns-clause-named
returns-clause-named g c =
    named_all (g.M.Modules.files c.args.modules.now) c.args.names.now c.loop-path.path-index c.loop-path.entries.items (omega (arith, c.loop-path-test.false)) c.loop-path.invariant.room c.loop-path.invariant.named

pub returns-in_err-without_text-clause-asks_part : goal.returns-in_err-without_text-clause-asks_part
returns-in_err-without_text-clause-asks_part g c =
    err_is c.from_residual.result (named_so_far (g.M.Modules.asked c.args.modules.now) (g.M.Modules.asked c.loop-path.modules) c.args.names.now c.loop-path.path-index c.loop-path.invariant.room c.loop-path.invariant.asks)

pub returns-in_err-push_entry-clause-asks_part : goal.returns-in_err-push_entry-clause-asks_part
returns-in_err-push_entry-clause-asks_part g c =
    err_is c.from_residual-in_err-push_entry.result (named_so_far (g.M.Modules.asked c.args.modules.now) (g.M.Modules.asked c.loop-path.modules) c.args.names.now c.loop-path.path-index c.loop-path.invariant.room c.loop-path.invariant.asks)

pub returns-in_err-entry-clause-asks_part : goal.returns-in_err-entry-clause-asks_part
returns-in_err-entry-clause-asks_part g c =
    let before = g.M.Modules.asked c.args.modules.now in
    let mid = g.M.Modules.asked c.loop-path.modules in
    let names = c.args.names.now in
    let k = c.loop-path.path-index in
    let p = c.path-item.result in
    let n = c.loop-path.invariant.count in
    let l = c.len.ensures in
    let not = c.if-len-eq-MOST_MODULES.false in
    let r = c.loop-path.invariant.room in
    err_is c.from_residual-in_err-entry.result (named_part before mid (g.M.Modules.asked c.read_one.new.modules) names k p c.loop-path-test.true (omega (arith, n, l, not, r)) c.path-item.is c.loop-path.invariant.asks c.in_err-entry.ensures.asks_part)

pub returns-in_err-push_entry-2-clause-asks_part : goal.returns-in_err-push_entry-2-clause-asks_part
returns-in_err-push_entry-2-clause-asks_part g c =
    let before = g.M.Modules.asked c.args.modules.now in
    let mid = g.M.Modules.asked c.loop-path.modules in
    let names = c.args.names.now in
    let k = c.loop-path.path-index in
    let p = c.path-item.result in
    let n = c.loop-path.invariant.count in
    let l = c.len.ensures in
    let not = c.if-len-eq-MOST_MODULES.false in
    let r = c.loop-path.invariant.room in
    let now = g.M.Modules.asked c.read_one.new.modules in
    err_is c.from_residual-in_err-push_entry-2.result (named_so_far before now names (k + 1) (omega (arith, n, l, not, r)) (named_on before mid now names k p c.loop-path-test.true c.path-item.is c.loop-path.invariant.asks c.in_ok-entry.ensures.asks))

pub returns-clause-asks : goal.returns-clause-asks
returns-clause-asks g c =
    named_done (g.M.Modules.asked c.args.modules.now) (g.M.Modules.asked c.loop-path.modules) c.args.names.now c.loop-path.path-index c.loop-path.invariant.room (omega (arith, c.loop-path-test.false)) c.loop-path.invariant.asks
