-- How far the tree of a text is built.
use Rattle.std.specs.Prelude.{ℕ, List, [], drop, Bool, true, false, Option, Some, None, refl}
use Rattle.std.specs.Coded.{Coded, code_by, coded×, coded_ℕ, coded_list, coded_option}
use Rattle.sp_ast.specs.Trees.{Tree}
use Rattle.sp_lex.specs.Lexed.{Lexed}
use Rattle.sp_parser.specs.declared.symbol.ActionAt.{ActionAt}
use Rattle.sp_grammar.specs.Actions.{action_with}
use Rattle.sp_build.specs.Items.{coded_item}
use Rattle.sp_build.specs.Building.{Stack, acted, with_action, go_on, all_done}

-- a text with its tokens, the place of the first of them that is the tree's, and the stack of what was built, or nothing where
-- an action found not what it wants
pub record Progress : Type 0 where
  pub lexed : Lexed
  pub from : ℕ
  pub stack : Option Stack

-- progress as a tuple, by which a proof tells it apart
abbrev pub coded_progress : Coded Lexed → Coded Tree → Coded Progress
coded_progress lexed tree =
    code_by (Lexed × (ℕ × Option Stack)) (coded× lexed (coded× coded_ℕ (coded_option (coded_list (coded_item tree)))))
    (λ p. (p.lexed, (p.from, p.stack))) (λ t. record { lexed = t.0; from = t.1.0; stack = t.1.1 }) (λ _. refl)

-- what these actions build of a text from a place on
abbrev pub progress : Lexed → ℕ → List ActionAt → Progress
progress lexed from actions = record { lexed = lexed; from = from; stack = all_done lexed.text (drop from lexed.list) actions [] }

-- what one more action does
abbrev pub stepped : ActionAt → Progress → Progress
stepped e p = record {
  lexed = p.lexed;
  from = p.from;
  stack = go_on p.stack (λ s. with_action (action_with e.action) (λ m. acted m p.lexed.text (drop p.from p.lexed.list) e.at s));
}

-- the stack, as long as each action found what it wants
abbrev pub while_found : Bool → Stack → Option Stack
while_found true s = Some s
while_found false s = None
