use Rattle.std.proofs.Common.{arith}
use Rattle.sp_lib.proofs.GroupsDecoded.{group_of, rest_of, no_group}
use Rattle.sp_lib.proofs.groups.base64_group.Goals as goal

pub returns-in-Ok-clause-group : goal.returns-in-Ok-clause-group
returns-in-Ok-clause-group c =
    group_of c.args.four.now c.decode_slice.new.output c.decode_slice.result c.in-Ok.used c.requires (λ i. let f = c.type_inv.four i in omega arith)
    c.decode_slice.ensures.value c.in-Ok.is c.decode_slice.ensures.written c.decode_slice.ensures.bytes

pub returns-in-Ok-clause-rest : goal.returns-in-Ok-clause-rest
returns-in-Ok-clause-rest c =
    rest_of c.args.four.now c.decode_slice.new.output c.decode_slice.result c.in-Ok.used c.requires c.decode_slice.ensures.value c.in-Ok.is c.decode_slice.ensures.written

pub returns-in-Err-clause-none : goal.returns-in-Err-clause-none
returns-in-Err-clause-none c =
    no_group c.args.four.now c.decode_slice.result c.in-Err.field-0 c.requires (λ i. let f = c.type_inv.four i in omega arith) c.decode_slice.ensures.value c.in-Err.is
