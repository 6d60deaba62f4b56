use Rattle.std.proofs.Common.{ap}
use Rattle.std.specs.Option.{option_map}
use Rattle.sp_value.specs.Val.{Val}
use Rattle.sp_value.specs.Ascending.{entry_key}
use Rattle.sp_value.proofs.Search.{found_at, found_not}
use Rattle.sp_value.proofs.keyed.value_in.Goals as goal

pub returns-in-Ok : goal.returns-in-Ok
returns-in-Ok c =
    ap (option_map (λ (e : Val × Val). e.1)) (found_at entry_key c.args.entries.now c.args.key.now c.in-Ok.i c.index-entries-i.result c.requires c.in-Ok.ensures.within (c.in-Ok.ensures.same c.index-entries-i.result))

pub returns-in-Err : goal.returns-in-Err
returns-in-Err c =
    ap (option_map (λ (e : Val × Val). e.1)) (found_not entry_key c.args.entries.now c.args.key.now c.in-Err.field-0 c.in-Err.ensures)
