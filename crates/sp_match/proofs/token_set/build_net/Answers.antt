use Rattle.std.proofs.Common.{arith, ◌≡◌, ◌<◌, sym, subst, length, take, []}
use Rattle.std.proofs.lemmas.List.{take_all}
use Rattle.sp_regex.specs.Trees.{empty}
use Rattle.sp_regex.specs.Language.{InL}
use Rattle.sp_match.specs.Running.{Begins, IsNetOf}
use Rattle.sp_match.proofs.Whole.{begins_more, take_long, item_is}
use Rattle.sp_match.proofs.token_set.build_net.Goals as goal

pub loop-i-preserved : goal.loop-i-preserved
loop-i-preserved c =
    let lt : c.loop-i.i < length c.args.tokens.now = omega arith in
    begins_more c.args.tokens.now c.loop-i.i c.index-tokens-i.result c.add_token.new.net.items c.add_token.new.start.items lt c.index-tokens-i.is
    (c.in_ok-add_token.ensures (take c.loop-i.i c.args.tokens.now) (take_long c.args.tokens.now c.loop-i.i (omega arith))
    (λ h. c.requires.none_empty c.loop-i.i (lt, subst (λ z. InL z []) (sym (item_is c.args.tokens.now c.loop-i.i c.index-tokens-i.result empty lt c.index-tokens-i.is)) h))
    c.loop-i.invariant)

pub returns : goal.returns
returns c =
    let all : take c.loop-i.i c.args.tokens.now ≡ c.args.tokens.now = take_all _ _ (omega arith) in
    let b : Begins c.args.tokens.now c.loop-i.net.items c.loop-i.start.items = subst (λ z. Begins z c.loop-i.net.items c.loop-i.start.items) all c.loop-i.invariant in
    let is : IsNetOf c.args.tokens.now c.loop-i.net.items c.loop-i.start.items = record { begins = b; none_empty = c.requires.none_empty } in
    c.in_ok-set.ensures c.args.tokens.now (subst (λ z. IsNetOf c.args.tokens.now z c.deref-2.result.now) (sym c.deref.ensures.value) (subst (IsNetOf c.args.tokens.now c.loop-i.net.items) (sym c.deref-2.ensures.value) is))
