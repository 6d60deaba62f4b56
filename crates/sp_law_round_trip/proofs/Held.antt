-- The machine that builds trees, apart from places: where a tree begins, it keeps what the token there tells.
use Rattle.std.specs.Prelude.{option_map, if◌then◌else◌}
use Rattle.std.proofs.Common.{ℕ, List, [], ◌∷◌, reverse, Bool, Option, Some, None}
use Rattle.sp_lex.specs.declared.kinds.TokenKind.{TokenKind}
use Rattle.sp_lex.specs.declared.kinds.TokenKind.TheVariants as token
use Rattle.sp_parser.specs.declared.symbol.ActionAt.{ActionAt}
use Rattle.sp_grammar.specs.Actions.{action_with}
use Rattle.sp_ast.specs.declared.forms.Form.{Form}
use Rattle.sp_ast.specs.Trees.{Tree, absent, tree, in_row}
use Rattle.sp_ast.specs.declared.groups.Group.TheVariants.{Expressions as expressions}
use Rattle.sp_ast.specs.declared.groups.Sort.{Sort}
use Rattle.sp_ast.specs.declared.groups.Sort.TheVariants.{One as one}
use Rattle.sp_ast.specs.declared.groups.Slot.{Slot}
use Rattle.sp_ast.specs.declared.groups.Slot.TheVariants.{Part as part, Several as several}
use Rattle.sp_ast.specs.Groups.{fits, is_of, is_node}
use Rattle.sp_build.specs.Rules.{rule, Leaf, always, by_name, by_string, by_bytes, by_regex, by_number, by_integer, by_hook_name, Rule, begins, leaves_out, takes, gathers, closes, closes_integer, closes_attribute, encloses, joins, wraps}
use Rattle.sp_build.specs.Tokens.{integer_of, attribute_of}
use Rattle.sp_build.proofs.Shapes.{and_then}
use Rattle.sp_print.specs.Words.{Word, name, text, bytes, regex, number}
use Rattle.sp_law_round_trip.specs.Bare.{nowhere}
use Rattle.sp_law_round_trip.specs.Told.{Telling}

-- the alternative that a token is of, by what it tells
abbrev pub form_told : Leaf → TokenKind → Word → Option Form
form_told (always form) kind word = Some form
form_told (by_name form) kind (name x) = Some (form x)
form_told (by_string form) kind (text x) = Some (form x)
form_told (by_bytes form) kind (bytes x) = Some (form x)
form_told (by_regex form) kind (regex x) = Some (form x)
form_told (by_number form) kind (number n) = Some (form n)
form_told (by_integer form) kind word = option_map form (integer_of kind)
form_told (by_hook_name form) (token.Hook h) word = Some (form h)
form_told _ kind word = None

-- the beginning of a tree, or a tree that is built
pub data Held : Type 0 where
  started : Telling → Held
  made : Tree → Held

-- the last item first
abbrev pub Pile : Type 0
Pile = List Held

-- an answer, and the pile that is left
pub record After (A : Type 0) : Type 0 where
  pub value : A
  pub rest : Pile

abbrev pub after : {A : Type 0} → A → Pile → After A
after x s = record { value = x; rest = s }

abbrev pub after_do : {A B : Type 0} → Option (After A) → (A → Pile → Option B) → Option B
after_do None go = None
after_do (Some x) go = go x.value x.rest

-- the last tree, if it may stand for such a part
abbrev pub top : Sort → Pile → Option (After Tree)
top sort (made t ∷ s) = if fits sort t then Some (after t s) else None
top sort _ = None

-- the trees that pass a test and stand last, in the order of the text, before those that are found
abbrev pub front : (Tree → Bool) → Pile → List Tree → After (List Tree)
front wanted [] ts = after ts []
front wanted (started p ∷ s) ts = after ts (started p ∷ s)
front wanted (made t ∷ s) ts = if wanted t then front wanted s (t ∷ ts) else after ts (made t ∷ s)

-- the beginning that stands last
abbrev pub start : Pile → Option (After Telling)
start (started p ∷ s) = Some (after p s)
start _ = None

-- the parts that the slots want, the last slot first, before those that are found
abbrev pub filled : List Slot → List Tree → Pile → Option (After (List Tree))
filled [] ts s = Some (after ts s)
filled (part sort ∷ slots) ts s = after_do (top sort s) (λ t rest. filled slots (t ∷ ts) rest)
filled (several g ∷ slots) ts s = let found = front (is_of g) s ts in filled slots found.value found.rest

abbrev pub put : Tree → Pile → Option Pile
put t s = Some (made t ∷ s)

abbrev pub put_if : Option Form → Pile → Option Pile
put_if None s = None
put_if (Some form) s = put (tree form nowhere []) s

-- a tree of the parts since it began, with what the token there tells
abbrev pub closed : List Slot → (Telling → Option Form) → Pile → Option Pile
closed slots form s =
    after_do (filled (reverse slots) [] s) (λ ts rest. after_do (start rest) (λ p below. after_do (option_map (λ f. after f below) (form p)) (λ f under. put (tree f nowhere ts) under)))

-- what a rule does where the next token tells this
abbrev pub does : Rule → Telling → Pile → Option Pile
does begins t s = Some (started t ∷ s)
does leaves_out t s = put absent s
does (takes l) t s = put_if (form_told l t.kind t.word) s
does gathers t s = let found = front is_node s [] in after_do (start found.rest) (λ p below. put (in_row found.value) below)
does (closes slots form) t s = closed slots (λ p. Some form) s
does (closes_integer slots form) t s = closed slots (λ p. option_map form (integer_of p.kind)) s
does (closes_attribute slots form) t s = closed slots (λ p. option_map form (attribute_of p.kind)) s
does encloses t s = after_do (top (one expressions) s) (λ u rest. after_do (start rest) (λ p below. put u below))
does (joins slots form) t s = after_do (filled (reverse slots) [] s) (λ ts rest. put (tree form nowhere ts) rest)
does (wraps g form) t s = after_do (top (one g) s) (λ u rest. put (tree form nowhere (u ∷ [])) rest)

-- What actions do, one after another, where `tell` says what each token tells.
abbrev pub does_all : (ℕ → Telling) → List ActionAt → Pile → Option Pile
does_all tell [] s = Some s
does_all tell (e ∷ actions) s = and_then (and_then (action_with e.action) (λ m. does (rule m) (tell e.at) s)) (λ next. does_all tell actions next)
