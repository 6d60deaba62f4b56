use Rattle.std.proofs.Common.{◌≡◌, [], ◌∷◌, ◌++◌, ap, ◌∙◌, rules}
use Rattle.json.specs.Print.{print}
use Rattle.serde_json.specs.Written.{compact_text}
use Rattle.serde_json.proofs.Texts.{print-outline}
use Rattle.sp_json.specs.Lines.{path_text, event_json}
use Rattle.sp_json.specs.inside.Tokens.{value_tokens}
use Rattle.sp_json.proofs.buffer.line_in.Goals as goal

pub returns : goal.returns
returns c =
    let told = event_json (path_text c.args.flow.now c.args.event.now.at) c.args.event.now.what in
    let out = c.write_event.new.out in
    let before : out.before ≡ [] = c.write_event.ensures.before ∙ c.new-out.ensures.before ∙ c.clear.ensures.items in
    let tokens : out.tokens ≡ value_tokens told = c.in_ok-write_event.ensures.tokens ∙ ap (λ ts. ts ++ value_tokens told) c.new-out.ensures.tokens in
    let text : c.into_inner-line.result.items ≡ compact_text told =
    c.into_inner-line.ensures.items ∙ ap (λ b. b ++ print out.tokens) before ∙ ap print tokens ∙ print-outline told in
    let all : c.push.new.self.items ≡ c.into_inner-line.result.items ++ 10 ∷ [] = search rules in
    all ∙ ap (λ t. t ++ 10 ∷ []) text
