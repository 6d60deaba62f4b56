-- What one more action does to what is built.
use Rattle.std.specs.Prelude.{Option, Some, None, OnOk}
use Rattle.std.proofs.Common.{◌≡◌, ℕ, List, [], ◌∷◌, ◌++◌, drop, refl, sym, ap, ◌∙◌, Result, Ok, Err}
use Rattle.sp_lex.specs.Lexed.{Lexed}
use Rattle.sp_lex.specs.declared.tokens.Token.{Token}
use Rattle.sp_parser.specs.declared.symbol.ActionAt.{ActionAt}
use Rattle.sp_parser.specs.Grammar.{action_at}
use Rattle.sp_grammar.specs.Actions.{action_with}
use Rattle.sp_build.specs.Building.{Stack, acted, with_action, go_on, all_done}
use Rattle.sp_build.specs.Progress.{Progress, progress, stepped}

nothing_more : (o : Option Stack) → go_on o (λ next. Some next) ≡ o
nothing_more None = refl
nothing_more (Some s) = refl

one_behind : (o : Option Stack) (long short last : Stack → Option Stack) → ((next : Stack) → long next ≡ go_on (short next) last) → go_on o long ≡ go_on (go_on o short) last
one_behind None long short last same = refl
one_behind (Some s) long short last same = same s

all_and_one : (text : List ℕ) (tokens : List Token) (actions : List ActionAt) (e : ActionAt) (s : Stack) → all_done text tokens (actions ++ e ∷ []) s ≡ go_on (all_done text tokens actions s) (λ r. with_action (action_with e.action) (λ m. acted m text tokens e.at r))
all_and_one text tokens [] e s = nothing_more (with_action (action_with e.action) (λ m. acted m text tokens e.at s))
all_and_one text tokens (d ∷ actions) e s =
    one_behind (with_action (action_with d.action) (λ m. acted m text tokens d.at s)) (λ next. all_done text tokens (actions ++ e ∷ []) next) (λ next. all_done text tokens actions next)
    (λ r. with_action (action_with e.action) (λ m. acted m text tokens e.at r)) (λ next. all_and_one text tokens actions e next)

abbrev with_stack : Lexed → ℕ → Option Stack → Progress
with_stack lexed from stack = record { lexed = lexed; from = from; stack = stack }

-- what is built by more actions
pub one_more : (lexed : Lexed) (from : ℕ) (actions : List ActionAt) (e : ActionAt) (before after : Progress) → after ≡ stepped e before → before ≡ progress lexed from actions → after ≡ progress lexed from (actions ++ e ∷ [])
one_more lexed from actions e before after step is = step ∙ ap (stepped e) is ∙ ap (with_stack lexed from) (sym (all_and_one lexed.text (drop from lexed.list) actions e []))

-- the same, where no memory was wanted
pub passed : {E : Type 0} (before after : Progress) (action at : ℕ) (r : Result (Unit {0}) E) → OnOk r (after ≡ stepped (action_at action at) before)
    → OnOk r ((first : Progress) (actions : List ActionAt) → before ≡ progress first.lexed first.from actions → after ≡ progress first.lexed first.from (actions ++ action_at action at ∷ []))
passed before after action at (Ok u) step = λ first actions is. one_more first.lexed first.from actions (action_at action at) before after step is
passed before after action at (Err e) step = tt
