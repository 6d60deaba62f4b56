use Rattle.std.proofs.Common.{length, ◌+◌, refl, sym, ◌∙◌, arith}
use Rattle.sp_methods.proofs.Found.{parts_at_the_first, parts_without_any}
use Rattle.sp_lib.proofs.TextsDecoded.{left, nothing_left}
use Rattle.sp_lib.proofs.separated.two_parts.Goals as goal

pub returns-in-Some-clause-before : goal.returns-in-Some-clause-before
returns-in-Some-clause-before c = sym (parts_at_the_first c.args.d.now c.args.x.now c.in-Some.at c.requires c.in-Some.ensures).0

pub returns-in-Some-clause-behind : goal.returns-in-Some-clause-behind
returns-in-Some-clause-behind c =
    left (c.in-Some.at + length c.args.d.now) c.args.x.now c.in-Some.ensures.1.fits
    ∙ sym (parts_at_the_first c.args.d.now c.args.x.now c.in-Some.at c.requires c.in-Some.ensures).1

pub returns-in-None-clause-before : goal.returns-in-None-clause-before
returns-in-None-clause-before c = sym (parts_without_any c.args.d.now c.args.x.now c.requires c.in-None.ensures).0

pub returns-in-None-clause-behind : goal.returns-in-None-clause-behind
returns-in-None-clause-behind c =
    left (length c.args.x.now) c.args.x.now (omega arith)
    ∙ nothing_left c.args.x.now (length c.args.x.now) refl
    ∙ sym (parts_without_any c.args.d.now c.args.x.now c.requires c.in-None.ensures).1
