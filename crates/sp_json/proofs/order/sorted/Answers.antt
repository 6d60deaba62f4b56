use Rattle.std.proofs.Common.{refl}
use Rattle.sp_json.proofs.Written.{entry_put, entry_weighs}
use Rattle.sp_json.proofs.order.sorted.Goals as goal

pub loop-name-preserved : goal.loop-name-preserved
loop-name-preserved g c =
    let l = c.loop-name in
    let x = c.loop-name-item.result in
    record {
      members = λ json. entry_put json c.args.entries.now l.name-index x l.table.entries c.insert.new.self.entries _ _ _ c.loop-name-test.true c.loop-name-item.is c.in_ok-insert.ensures.entries c.as_str.ensures refl (l.invariant.members json);
      weight = λ weight. entry_weighs weight c.args.entries.now l.name-index x l.table.entries c.insert.new.self.entries _ _ _ c.loop-name-test.true c.loop-name-item.is c.in_ok-insert.ensures.entries refl (l.invariant.weight weight);
    }
