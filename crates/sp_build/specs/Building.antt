-- The tree of a text: what the actions of its derivation build, one after another, on a stack of trees.
use Rattle.sp_build.specs.Items.{Item, begun, built}
use Rattle.sp_ast.specs.declared.forms.Form.{Form}
use Rattle.std.specs.Prelude.{ℕ, ◌≡◌, zero, suc, List, [], ◌∷◌, reverse, if◌then◌else◌, Bool, Option, Some, None, option_map}
use Rattle.std.proofs.Common.{get_or}
use Rattle.sp_base.specs.declared.places.Span.{Span}
use Rattle.sp_words.specs.declared.punctuation.Punctuation.TheVariants as punctuation
use Rattle.sp_lex.specs.declared.kinds.TokenKind.TheVariants as kind
use Rattle.sp_lex.specs.declared.tokens.Token.{Token}
use Rattle.sp_lex.specs.Readings.{bytes_of}
use Rattle.sp_parser.specs.declared.symbol.ActionAt.{ActionAt}
use Rattle.sp_grammar.specs.declared.actions.Action.{Action}
use Rattle.sp_grammar.specs.Actions.{action_with}
use Rattle.sp_ast.specs.Trees.{Tree, absent, tree, in_row, respan, span_of}
use Rattle.sp_ast.specs.declared.groups.Sort.{Sort}
use Rattle.sp_ast.specs.declared.groups.Group.TheVariants.{Expressions as expressions}
use Rattle.sp_ast.specs.declared.groups.Sort.TheVariants.{One as one}
use Rattle.sp_ast.specs.Groups.{is_node, is_of, fits}
use Rattle.sp_ast.specs.declared.groups.Slot.{Slot}
use Rattle.sp_ast.specs.declared.groups.Slot.TheVariants.{Part as part, Several as several}
use Rattle.sp_build.specs.Rules.{Leaf, Rule, begins, leaves_out, takes, gathers, closes, closes_integer, closes_attribute, encloses, joins, wraps, rule}
use Rattle.sp_build.specs.Tokens.{form_of, integer_of, attribute_of}

-- the last item first
abbrev pub Stack : Type 0
Stack = List Item

-- an answer, and the stack that is left
pub record Left (A : Type 0) : Type 0 where
  pub value : A
  pub rest : Stack

abbrev pub left : {A : Type 0} → A → Stack → Left A
left x s = record { value = x; rest = s }

-- what is done with an answer, if there is one
abbrev pub then_do : {A B : Type 0} → Option (Left A) → (A → Stack → Option B) → Option B
then_do None go = None
then_do (Some x) go = go x.value x.rest

-- the last tree, if it may stand for such a part
abbrev pub popped : Sort → Stack → Option (Left Tree)
popped sort (built t ∷ s) = if fits sort t then Some (left t s) else None
popped sort _ = None

-- the trees that pass a test and stand last, in the order of the text, before those that are found
abbrev pub gathered : (Tree → Bool) → Stack → List Tree → Left (List Tree)
gathered wanted [] ts = left ts []
gathered wanted (begun p ∷ s) ts = left ts (begun p ∷ s)
gathered wanted (built t ∷ s) ts = if wanted t then gathered wanted s (t ∷ ts) else left ts (built t ∷ s)

-- all trees since one began, of which none is left out or a row
abbrev pub popped_all : Stack → Left (List Tree)
popped_all s = gathered is_node s []

-- the place where the last tree began
abbrev pub opened : Stack → Option (Left ℕ)
opened (begun p ∷ s) = Some (left p s)
opened _ = None

-- The parts that the slots want, the last slot first, before those that are found.
abbrev pub parts_of : List Slot → List Tree → Stack → Option (Left (List Tree))
parts_of [] ts s = Some (left ts s)
parts_of (part sort ∷ slots) ts s = then_do (popped sort s) (λ t rest. parts_of slots (t ∷ ts) rest)
parts_of (several g ∷ slots) ts s = let found = gathered (is_of g) s ts in parts_of slots found.value found.rest

abbrev pub popped_parts : List Slot → Stack → Option (Left (List Tree))
popped_parts slots s = parts_of (reverse slots) [] s

abbrev pub no_token : Token
no_token = record { kind = kind.Punctuation punctuation.Semicolon; span = record { from = 0; to = 0 } }

-- the token before which so many stand
abbrev pub token_of : List Token → ℕ → Token
token_of tokens n = get_or tokens n no_token

-- where the token before this place ends
abbrev pub end_before : List Token → ℕ → ℕ
end_before tokens zero = 0
end_before tokens (suc n) = (token_of tokens n).span.to

-- the text from the token before which p stand, up to the place before which n stand
abbrev pub stretch : List Token → ℕ → ℕ → Span
stretch tokens p n = record { from = (token_of tokens p).span.from; to = end_before tokens n }

-- the text from where these trees begin, up to a place
abbrev pub stretch_from : List Token → List Tree → ℕ → Span
stretch_from tokens [] n = record { from = 0; to = end_before tokens n }
stretch_from tokens (t ∷ ts) n = record { from = (span_of t).from; to = end_before tokens n }

abbrev pub push : Tree → Stack → Option Stack
push t s = Some (built t ∷ s)

-- the token as a tree
abbrev pub leaf : List ℕ → Leaf → Token → Option Tree
leaf text l token = option_map (λ form. tree form token.span []) (form_of l token.kind (bytes_of text token))

abbrev pub push_if : Option Tree → Stack → Option Stack
push_if None s = None
push_if (Some t) s = push t s

-- the parts since a tree began, and the place where it began
abbrev pub close_with : List Slot → Stack → (ℕ → List Tree → Stack → Option Stack) → Option Stack
close_with slots s go = then_do (popped_parts slots s) (λ ts rest. then_do (opened rest) (λ p below. go p ts below))

-- a tree whose alternative is by a word, if there is one
abbrev pub worded : {A : Type 0} → Option A → (A → Form) → Span → List Tree → Stack → Option Stack
worded None form span ts s = None
worded (Some word) form span ts s = push (tree (form word) span ts) s

-- what a rule does at a place before which n tokens stand
abbrev pub done_by : Rule → List ℕ → List Token → ℕ → Stack → Option Stack
done_by begins text tokens n s = Some (begun n ∷ s)
done_by leaves_out text tokens n s = push absent s
done_by (takes l) text tokens n s = push_if (leaf text l (token_of tokens n)) s
done_by gathers text tokens n s = let found = popped_all s in then_do (opened found.rest) (λ p below. push (in_row found.value) below)
done_by (closes slots form) text tokens n s = close_with slots s (λ p ts below. push (tree form (stretch tokens p n) ts) below)
done_by (closes_integer slots form) text tokens n s = close_with slots s (λ p ts below. worded (integer_of (token_of tokens p).kind) form (stretch tokens p n) ts below)
done_by (closes_attribute slots form) text tokens n s = close_with slots s (λ p ts below. worded (attribute_of (token_of tokens p).kind) form (stretch tokens p n) ts below)
done_by encloses text tokens n s = then_do (popped (one expressions) s) (λ t rest. then_do (opened rest) (λ p below. push (respan (stretch tokens p n) t) below))
done_by (joins slots form) text tokens n s = then_do (popped_parts slots s) (λ ts rest. push (tree form (stretch_from tokens ts n) ts) rest)
done_by (wraps g form) text tokens n s = then_do (popped (one g) s) (λ t rest. push (tree form (span_of t) (t ∷ [])) rest)

-- what an action does where it is passed
abbrev pub acted : Action → List ℕ → List Token → ℕ → Stack → Option Stack
acted m text tokens n s = done_by (rule m) text tokens n s

abbrev pub with_action : Option Action → (Action → Option Stack) → Option Stack
with_action None go = None
with_action (Some m) go = go m

abbrev pub go_on : Option Stack → (Stack → Option Stack) → Option Stack
go_on None go = None
go_on (Some next) go = go next

-- What the actions of a derivation do, one after another. The tokens are those from the text's first on.
abbrev pub all_done : List ℕ → List Token → List ActionAt → Stack → Option Stack
all_done text tokens [] s = Some s
all_done text tokens (e ∷ actions) s =
    go_on (with_action (action_with e.action) (λ m. acted m text tokens e.at s)) (λ next. all_done text tokens actions next)

-- the actions build this tree, and nothing else
abbrev pub IsBuilt : List ℕ → List Token → List ActionAt → Tree → Type 0
IsBuilt text tokens actions t = all_done text tokens actions [] ≡ Some (built t ∷ [])
