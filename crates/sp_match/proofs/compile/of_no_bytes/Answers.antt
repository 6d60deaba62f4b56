use Rattle.std.proofs.Common.{[], ◌∷◌, arith, sym, subst}
use Rattle.sp_regex.specs.Trees.{repeat}
use Rattle.sp_regex.specs.Language.{InL}
use Rattle.sp_match.specs.Parts.{IsCompiled}
use Rattle.sp_match.proofs.Compiling.{only_one}
use Rattle.sp_match.proofs.Positions.{repeated_then, repeated_none}
use Rattle.sp_match.proofs.compile.of_no_bytes.Goals as goal

pub returns-in_ok-entry : goal.returns-in_ok-entry
returns-in_ok-entry c = λ net below.
    let r = c.args.part.now in let least = c.args.count.least in let most = c.args.count.most in let then = c.args.then in
    subst (λ z. IsCompiled (InL (repeat least most r)) (then ∷ []) z net net) (sym c.in_ok-entry.ensures)
    (repeated_then r least most (then ∷ []) net c.requires (c.repetition_has.ensures.has c.if-repetition_has.true) (λ p h. let e = only_one then p h in omega arith))

pub returns-else-repetition_has : goal.returns-else-repetition_has
returns-else-repetition_has c = λ net below. repeated_none c.args.part.now c.args.count.least c.args.count.most (c.args.then ∷ []) c.new.result.items net c.requires (c.repetition_has.ensures.misses c.if-repetition_has.false) c.new.ensures.items
