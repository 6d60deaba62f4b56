use Rattle.std.proofs.Common.{◌≡◌, ◌<◌, length, sym, subst, ap, ◌∙◌, rules}
use Rattle.sp_value.specs.Pieces.{all_in, NoneEmpty}
use Rattle.sp_value.proofs.PieceLists.{all_without_empty, none_without, none_of_but}
use Rattle.sp_value.proofs.pieces.drop_empty.Goals as goal

pub returns-then-is_empty-clause-all : goal.returns-then-is_empty-clause-all
returns-then-is_empty-clause-all g c =
    let none : length (c.index.result.now).value.items ≡ 0 = search rules in
    let same = c.index.ensures in
    ap all_in c.remove.ensures.items ∙ all_without_empty c.args.pieces.now.items c.args.c c.index.result.now c.requires.within (subst (λ p. length p.value.items ≡ 0) same none)

pub returns-then-is_empty-clause-none_empty : goal.returns-then-is_empty-clause-none_empty
returns-then-is_empty-clause-none_empty g c =
    subst NoneEmpty (sym c.remove.ensures.items) (none_without c.args.pieces.now.items c.args.c c.requires.others)

pub returns-else-is_empty-clause-none_empty : goal.returns-else-is_empty-clause-none_empty
returns-else-is_empty-clause-none_empty g c =
    let some : 0 < length (c.index.result.now).value.items = search rules in
    let same = c.index.ensures in
    none_of_but c.args.pieces.now.items c.args.c c.index.result.now c.requires.others (subst (λ p. 0 < length p.value.items) same some)
