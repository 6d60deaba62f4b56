use Rattle.std.proofs.Common.{ap, sym, ◌∙◌}
use Rattle.std.specs.Prelude.{set as put_at}
use Rattle.std.specs.Int.RustNames.{bit_or}
use Rattle.std.proofs.lemmas.List.{get_or-set_same, get_or-set_other}
use Rattle.sp_match.proofs.Stepping.{number_is}
use Rattle.sp_match.proofs.Words.{merged_word}
use Rattle.sp_match.proofs.bits.merge_word.Goals as goal

pub returns-then-word-len-clause-spots : goal.returns-then-word-len-clause-spots
returns-then-word-len-clause-spots c = λ lt p.
    let old = c.args.set.now.items in
    let x = c.index.result.now in
    let both = bit_or x c.args.spots in
    merged_word old (put_at old c.args.word both) c.args.word c.args.spots
    (get_or-set_same old c.args.word both 0 lt ∙ ap (λ z. bit_or z c.args.spots) (sym (number_is old c.args.word x lt c.index.ensures)))
    (λ k differ. get_or-set_other old c.args.word k both 0 differ) p
