use Rattle.std.proofs.Common.{rules, ◌≡◌, [], ◌∷◌, length, sym, subst}
use Rattle.sp_match.specs.Parts.{IsChain}
use Rattle.sp_match.proofs.Growing.{chain_named}
use Rattle.sp_match.proofs.compile.named.Goals as goal

pub returns-clause-chain : goal.returns-clause-chain
returns-clause-chain c = λ rest then entry first chain.
    let here : c.len-name.result ≡ length c.args.net.now.items = search rules in
    subst (λ z. IsChain rest then entry (z ∷ []) first c.push.new.self.items) (sym here)
    (subst (λ z. IsChain rest then entry (length c.args.net.now.items ∷ []) first z) (sym c.in_ok-push.ensures.items)
    (chain_named rest then entry c.args.set first c.args.net.now.items c.requires.some.0 c.requires.some.1 chain))
