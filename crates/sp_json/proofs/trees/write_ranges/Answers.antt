use Rattle.std.proofs.Common.{ℕ, List, rules, [], ◌∷◌, refl, arith}
use Rattle.std.proofs.lemmas.List.{drop_all}
use Rattle.std.proofs.lemmas.Result.{on_ok_weaker}
use Rattle.json.specs.Token.{Token, begin_object, end_object, key}
use Rattle.serde_json.specs.Data.{number, unsigned}
use Rattle.sp_json.specs.inside.Tokens.{value_tokens, object_rest, in_order}
use Rattle.sp_json.proofs.Written.{behind, one_more, all_written}
use Rattle.sp_json.proofs.trees.write_ranges.Goals as goal

abbrev rest : List (List ℕ × ℕ) → List Token
rest rs = object_rest (in_order (λ n. number (unsigned n)) rs)

abbrev one : List ℕ × ℕ → List Token
one r = key r.0 ∷ value_tokens (number (unsigned r.1))

pub loop-name-preserved : goal.loop-name-preserved
loop-name-preserved c =
    let l = c.loop-name in
    let r = c.loop-name-item.result in
    record {
      tokens = one_more rest one (λ _ _. refl) l.out.tokens c.u64.new.self.tokens _ c.args.ranges.now l.name-index r (omega arith) c.loop-name-item.is
          (behind l.out.tokens c.key.new.self.tokens c.u64.new.self.tokens (key r.0 ∷ []) (value_tokens (number (unsigned r.1))) (search rules) (search rules)) l.invariant.tokens;
      before = search rules;
    }

pub returns-clause-tokens : goal.returns-clause-tokens
returns-clause-tokens c =
    let l = c.loop-name in
    on_ok_weaker c.end_object.result (λ e.
    all_written rest begin_object end_object refl c.args.out.now.tokens c.begin_object.new.self.tokens l.out.tokens c.end_object.new.self.tokens c.args.ranges.now _
    (drop_all l.name-index c.args.ranges.now (omega arith)) c.in_ok-begin_object.ensures.ok l.invariant.tokens e) c.end_object.ensures.ok
