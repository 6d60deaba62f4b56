use Rattle.std.proofs.Common.{◌≡◌, ◌+◌, ◌++◌, [], ◌∷◌, drop, sym, ap, ◌∙◌, append_assoc}
use Rattle.std.proofs.lemmas.List.{take_rest}
use Rattle.sp_literals.specs.Values.{char_value, char_size, decoded}
use Rattle.sp_literals.proofs.Characters.{decoded-next}
use Rattle.sp_literals.proofs.decoding.decoded.Goals as goal

pub loop-at-preserved : goal.loop-at-preserved
loop-at-preserved c =
    let at = c.loop-at.at in
    let text = c.args.text.now in
    let value : c.char_value.result ≡ char_value (drop at text) = c.char_value.ensures ∙ ap char_value (take_rest text at) in
    let size : c.char_size-at.result ≡ char_size (drop at text) = c.char_size-at.ensures.value ∙ ap char_size (take_rest text at) in
    let more : c.push.new.self ≡ c.loop-at.bytes ++ c.char_value.result ∷ [] = c.in_ok-push.ensures.ok in
    ap (λ b. b ++ decoded (drop (at + c.char_size-at.result) text)) more
    ∙ ap (λ n. (c.loop-at.bytes ++ c.char_value.result ∷ []) ++ decoded (drop (at + n) text)) size
    ∙ append_assoc c.loop-at.bytes (c.char_value.result ∷ []) (decoded (drop (at + char_size (drop at text)) text))
    ∙ ap (λ v. c.loop-at.bytes ++ v ∷ decoded (drop (at + char_size (drop at text)) text)) value
    ∙ sym (ap (λ rest. c.loop-at.bytes ++ rest) (decoded-next text at c.loop-at-test.true))
    ∙ c.loop-at.invariant
