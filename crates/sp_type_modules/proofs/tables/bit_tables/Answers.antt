use Rattle.std.proofs.Common.{ap, get_or}
use Rattle.sp_names.proofs.Lists.{each_more, one_longer}
use Rattle.sp_type_modules.specs.inside.Tables.{IsBits}
use Rattle.sp_type_modules.proofs.Steps.{bits_are}
use Rattle.sp_type_modules.proofs.tables.bit_tables.Goals as goal

pub loop-n-preserved : goal.loop-n-preserved
loop-n-preserved c =
    let list = c.args.names.now in
    let n = c.loop-n.n in
    let before = c.loop-n.invariant in
    let table = c.in_ok-bit_table.field-0 in
    let old = c.loop-n.tables.items in
    let new = c.push.new.self.items in
    let bs = c.bitfields-bitfields.result.now in
    let b = get_or bs n c.index-bitfields-n.result in
    let e = c.in_ok-bit_table.ensures in (
      one_longer old new n table c.in_ok-push.ensures.items before.0,
      each_more (IsBits list) old new n table c.in_ok-push.ensures.items before.0 before.1
          (bits_are list bs n b table c.bitfields-bitfields.ensures c.loop-n-test.true (ap (λ x. get_or bs n x) c.index-bitfields-n.is) e.ranges e.width),
    )
