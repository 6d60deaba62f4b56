-- What becomes of a sink to which actions are passed.
use Rattle.std.specs.Prelude.{◌++◌, List, []}
use Rattle.sp_parser.specs.declared.symbol.ActionAt.{ActionAt}

-- what a sink, to which nothing had been passed, has become by actions
abbrev pub Became : Type 0 → Type 1
Became S = S → S → List ActionAt → Type 0

-- these actions were passed: whatever the sink before had become, the one after has become by these actions too
abbrev pub Passes : {S : Type 0} → Became S → S → S → List ActionAt → Type 0
Passes {S = S} became before after ε = (first : S) (τ : List ActionAt) → became first before τ → became first after (τ ++ ε)

-- these actions and no others were passed to the sink, if nothing had been passed to it before
abbrev pub Took : {S : Type 0} → Became S → S → S → List ActionAt → Type 0
Took {S = S} became before after τ = (first : S) → became first before [] → became first after τ
