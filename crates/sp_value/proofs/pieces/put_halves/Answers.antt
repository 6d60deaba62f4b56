use Rattle.std.proofs.Common.{◌≡◌, ◌+◌, rules}
use Rattle.std.specs.List.{insert}
use Rattle.sp_value.proofs.PieceLists.{halved_all, halved_none}
use Rattle.sp_value.proofs.pieces.put_halves.Goals as goal

pub returns-then-is_ok-clause-all : goal.returns-then-is_ok-clause-all
returns-then-is_ok-clause-all g c =
    let e : c.insert.new.self.items ≡ insert c.args.pieces.now.items (c.args.c + 1) c.args.back = search rules in
    halved_all c.args.pieces.now.items c.insert.new.self.items c.args.c c.args.front c.args.back c.requires.within c.requires.halves e

pub returns-then-is_ok-clause-none_empty : goal.returns-then-is_ok-clause-none_empty
returns-then-is_ok-clause-none_empty g c =
    let e : c.insert.new.self.items ≡ insert c.args.pieces.now.items (c.args.c + 1) c.args.back = search rules in
    halved_none c.args.pieces.now.items c.insert.new.self.items c.args.c c.args.front c.args.back c.requires.within e c.requires.front c.requires.back
