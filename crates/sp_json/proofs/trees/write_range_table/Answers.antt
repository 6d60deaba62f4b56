use Rattle.std.proofs.Common.{ℕ, List, rules, [], ◌∷◌, refl}
use Rattle.std.proofs.lemmas.Result.{on_ok_weaker}
use denote.Ref.{Bor}
use Rattle.json.specs.Token.{Token, begin_object, end_object, key}
use Rattle.serde_json.specs.Data.{number, unsigned}
use Rattle.sp_json.specs.inside.Tokens.{value_tokens, lent, object_rest, in_order}
use Rattle.sp_json.proofs.Written.{behind, next_written, all_written}
use Rattle.sp_json.proofs.trees.write_range_table.Goals as goal

abbrev Lent : Type 0
Lent = Bor (List ℕ) × Bor ℕ

abbrev rest : List Lent → List Token
rest rs = object_rest (in_order (λ n. number (unsigned n)) (lent rs))

abbrev one : Lent → List Token
one r = key r.0.now ∷ value_tokens (number (unsigned r.1.now))

pub loop-name-preserved : goal.loop-name-preserved
loop-name-preserved c =
    let l = c.loop-name in
    let r : Lent = (c.in-Some.name.now, c.in-Some.n.now) in
    record {
      tokens = next_written rest one (λ _ _. refl) l.out.tokens c.u64.new.self.tokens _ l.name-iterator c.next.new.self r c.in-Some.ensures.steps
          (behind l.out.tokens c.key.new.self.tokens c.u64.new.self.tokens (key r.0.now ∷ []) (value_tokens (number (unsigned r.1.now))) (search rules) (search rules)) l.invariant.tokens;
      before = search rules;
    }

pub returns-clause-tokens : goal.returns-clause-tokens
returns-clause-tokens c =
    let l = c.loop-name in
    on_ok_weaker c.end_object.result (λ e.
    all_written rest begin_object end_object refl c.args.out.now.tokens c.begin_object.new.self.tokens l.out.tokens c.end_object.new.self.tokens c.args.table.now.entries l.name-iterator
    c.in-None.ensures.steps.0 c.in_ok-begin_object.ensures.ok l.invariant.tokens e) c.end_object.ensures.ok
