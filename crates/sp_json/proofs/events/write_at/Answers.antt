use Rattle.std.proofs.Common.{◌≡◌, List, ℕ, [], ◌∷◌, ◌++◌, sym, ◌∙◌, subst}
use Rattle.std.specs.Prelude.{OnOk, codes}
use Rattle.json.specs.Token.{key, string}
use Rattle.sp_json.proofs.Written.{path_alone}
use Rattle.sp_json.proofs.events.write_at.Goals as goal

pub returns-then-is_empty-clause-tokens : goal.returns-then-is_empty-clause-tokens
returns-then-is_empty-clause-tokens c =
    subst (λ (s : List ℕ). OnOk c.write_text.result (c.write_text.new.out.tokens ≡ c.args.out.now.tokens ++ key (codes "at") ∷ string s ∷ []))
    (path_alone c.args.at.flow.now c.args.at.numbers.now (sym c.is_empty.ensures ∙ c.if-is_empty.true)) c.write_text.ensures.tokens

pub returns-clause-tokens : goal.returns-clause-tokens
returns-clause-tokens c =
    subst (λ (s : List ℕ). OnOk c.write_text-2.result (c.write_text-2.new.out.tokens ≡ c.args.out.now.tokens ++ key (codes "at") ∷ string s ∷ []))
    (c.as_str.ensures.value ∙ c.in_ok-name.ensures) c.write_text-2.ensures.tokens
