-- Actions that are passed to a sink, one after another.
use Rattle.std.proofs.Common.{List, [], ◌++◌, sym, subst, append_assoc}
use Rattle.std.proofs.lemmas.List.{append-nil}
use Rattle.sp_parser.specs.declared.symbol.ActionAt.{ActionAt}
use Rattle.sp_parser.specs.Sinks.{Became, Passes, Took}

pub none_passed : {S : Type 0} (became : Became S) (sink : S) → Passes became sink sink []
none_passed became sink = λ first τ h. subst (λ σ. became first sink σ) (sym (append-nil τ)) h

pub passes_on : {S : Type 0} (became : Became S) (a b c : S) (ε δ : List ActionAt) → Passes became a b ε → Passes became b c δ → Passes became a c (ε ++ δ)
passes_on became a b c ε δ p q = λ first τ h. subst (λ σ. became first c σ) (append_assoc τ ε δ) (q first (τ ++ ε) (p first τ h))

-- what was passed to a sink at first is what it took
pub took : {S : Type 0} (became : Became S) (a b : S) (ε : List ActionAt) → Passes became a b ε → Took became a b ε
took became a b ε p = λ first h. p first [] h
