use Rattle.std.proofs.Common.{Some, ap, sym, ◌∙◌}
use Rattle.sp_type_exprs.proofs.Lists.{some_at, part_none}
use Rattle.sp_type_exprs.proofs.calls.part_at.Goals as goal

pub returns-in_ok-copy-in-Some : goal.returns-in_ok-copy-in-Some
returns-in_ok-copy-in-Some c =
    ap Some c.in_ok-copy-in-Some.ensures ∙ sym (some_at c.args.parts.now c.args.n c.in-Some.part.now c.in-Some.ensures.lookup.0 c.in-Some.ensures.lookup.1)

pub returns-in-None : goal.returns-in-None
returns-in-None c = sym (part_none c.args.parts.now c.args.n c.in-None.ensures.lookup.3)
