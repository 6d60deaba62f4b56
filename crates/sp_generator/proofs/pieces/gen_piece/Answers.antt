use Rattle.std.proofs.Common.{take, drop, arith}
use Rattle.sp_generator.specs.Input.{input}
use Rattle.sp_generator.specs.inside.Ahead.{bytes_of}
use Rattle.sp_generator.proofs.Blocks.{pushed}
use Rattle.sp_generator.proofs.pieces.gen_piece.Goals as goal

pub bytes-preserved : goal.bytes-preserved
bytes-preserved c =
    let p =
    pushed c.bytes.piece c.push.new.self c.in-Some.byte c.args.most (bytes_of c.bytes.ahead) (bytes_of c.next.new.self) (take c.args.most (drop c.args.from (input c.args.n)))
    c.in_ok-push-in-Some.ensures.ok c.in-Some.ensures.value (omega arith) c.bytes.invariant.value in
    record { small = c.in-Some.ensures.small; short = p.0; value = p.1 }
