use Rattle.std.proofs.Common.{◌≡◌, ◌++◌, [], sym, ◌∙◌, subst}
use Rattle.std.specs.Prelude.{OnOk}
use Rattle.serde_json.specs.Data.{Members, number, unsigned, object, no_members}
use Rattle.sp_json.specs.inside.Tokens.{value_tokens}
use Rattle.sp_json.proofs.Written.{rising_stays, ranges_are}
use Rattle.sp_json.proofs.trees.write_bits.Goals as goal

pub returns-then-are_rising-clause-tokens : goal.returns-then-are_rising-clause-tokens
returns-then-are_rising-clause-tokens c =
    let ranges = c.args.ranges.now in
    subst (λ (ms : Members). OnOk c.write_ranges.result (c.write_ranges.new.out.tokens ≡ c.args.out.now.tokens ++ value_tokens (object ms)))
    (sym (rising_stays (λ n. number (unsigned n)) [] ranges (sym c.are_rising.ensures ∙ c.if-are_rising.true)) ∙ ranges_are ranges no_members) c.write_ranges.ensures.tokens

pub returns-clause-tokens : goal.returns-clause-tokens
returns-clause-tokens c =
    subst (λ (ms : Members). OnOk c.write_range_table.result (c.write_range_table.new.out.tokens ≡ c.args.out.now.tokens ++ value_tokens (object ms)))
    (c.in_ok-table.ensures.members (λ n. number (unsigned n)) ∙ ranges_are c.args.ranges.now no_members) c.write_range_table.ensures.tokens
