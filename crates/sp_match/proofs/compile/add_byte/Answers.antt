use Rattle.std.proofs.Common.{rules, ◌≡◌, [], ◌∷◌, length, sym, subst}
use Rattle.sp_match.specs.Parts.{IsCompiled, OneByte}
use Rattle.sp_match.proofs.Growing.{is_leaf}
use Rattle.sp_match.proofs.compile.add_byte.Goals as goal

pub returns : goal.returns
returns c =
    let here : c.len-spot.result ≡ length c.args.net.now.items = search rules in
    subst (λ z. IsCompiled (OneByte c.args.bytes.items) (c.args.then ∷ []) (z ∷ []) c.args.net.now.items c.push.new.self.items) (sym here)
    (subst (λ z. IsCompiled (OneByte c.args.bytes.items) (c.args.then ∷ []) (length c.args.net.now.items ∷ []) c.args.net.now.items z) (sym c.in_ok-push.ensures.items)
    (is_leaf c.args.bytes c.args.then c.args.net.now.items c.requires.below c.requires.some.0 c.requires.some.1))
