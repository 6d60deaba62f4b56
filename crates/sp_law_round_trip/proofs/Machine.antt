-- What actions build of a text is, apart from places, of what its tokens tell.
use Rattle.std.specs.Prelude.{option_map, ◌&&◌, if◌then◌else◌}
use Rattle.std.proofs.Common.{◌≡◌, ℕ, List, [], ◌∷◌, map, reverse, Bool, true, false, Option, Some, None, refl, ap, sym, ◌∙◌}
use Rattle.sp_lex.specs.declared.kinds.Absent.TheVariants as absent_word
use Rattle.sp_lex.specs.declared.kinds.TokenKind.{TokenKind}
use Rattle.sp_lex.specs.declared.kinds.TokenKind.TheVariants as token
use Rattle.sp_lex.specs.declared.tokens.Token.{Token}
use Rattle.sp_lex.specs.Readings.{bytes_of}
use Rattle.sp_parser.specs.declared.symbol.ActionAt.{ActionAt}
use Rattle.sp_grammar.specs.declared.actions.Action.{Action}
use Rattle.sp_grammar.specs.Actions.{action_with}
use Rattle.sp_ast.specs.declared.forms.Form.{Form}
use Rattle.sp_ast.specs.Trees.{Tree, Trees, absent, row, node, none, more, trees, tree, in_row, respan, span_of}
use Rattle.sp_build.specs.Items.{Item, begun, built}
use Rattle.sp_ast.specs.declared.groups.Group.{Group}
use Rattle.sp_ast.specs.declared.groups.Group.TheVariants.{Expressions as expressions}
use Rattle.sp_ast.specs.declared.groups.Sort.{Sort}
use Rattle.sp_ast.specs.declared.groups.Sort.TheVariants.{One as one, Optional as optional, Rows as rows}
use Rattle.sp_ast.specs.declared.groups.Slot.{Slot}
use Rattle.sp_ast.specs.declared.groups.Slot.TheVariants.{Part as part, Several as several}
use Rattle.sp_ast.specs.Groups.{fits, is_of, is_in, are_of, is_node, tree_group}
use Rattle.sp_build.specs.Rules.{Leaf, always, by_name, by_string, by_bytes, by_regex, by_number, by_integer, by_hook_name, Rule, begins, leaves_out, takes, gathers, closes, closes_integer, closes_attribute, encloses, joins, wraps, rule}
use Rattle.sp_build.specs.Tokens.{form_of, integer_of, attribute_of}
use Rattle.sp_build.specs.Building.{Stack, Left, left, then_do, popped, gathered, popped_all, opened, parts_of, popped_parts, close_with, push, push_if, worded, token_of, stretch, stretch_from, done_by, acted, with_action, go_on, all_done}
use Rattle.sp_build.proofs.Shapes.{and_then}
use Rattle.sp_law_round_trip.specs.Bare.{bare, bares, nowhere}
use Rattle.sp_law_round_trip.specs.Told.{Telling, telling, word_of}
use Rattle.sp_law_round_trip.proofs.Held.{Held, started, made, Pile, After, after, after_do, top, front, start, filled, put, put_if, closed, form_told, does, does_all}

-- what the token at a place tells
abbrev pub tell_at : List ℕ → List Token → ℕ → Telling
tell_at source tokens n = telling source (token_of tokens n)

group_bare : (t : Tree) → tree_group (bare t) ≡ tree_group t
group_bare absent = refl
group_bare t = refl

pub of_bare : (g : Group) (t : Tree) → is_of g (bare t) ≡ is_of g t
of_bare g t = ap (λ h. is_in g h) (group_bare t)

node_bare : (t : Tree) → is_node (bare t) ≡ is_node t
node_bare absent = refl
node_bare t = refl

are_bare : (g : Group) (ts : Trees) → are_of g (bares ts) ≡ are_of g ts
are_bare g none = refl
are_bare g (more t ts) = ap (λ b. b && are_of g (bares ts)) (of_bare g t) ∙ ap (λ b. is_of g t && b) (are_bare g ts)

fits_bare : (sort : Sort) (t : Tree) → fits sort (bare t) ≡ fits sort t
fits_bare (one g) t = of_bare g t
fits_bare (optional g) absent = refl
fits_bare (optional g) (row ts) = refl
fits_bare (optional g) (node form span ts) = refl
fits_bare (rows g) absent = refl
fits_bare (rows g) (row ts) = are_bare g ts
fits_bare (rows g) (node form span ts) = refl

bare_trees : (ts : List Tree) → bares (trees ts) ≡ trees (map bare ts)
bare_trees [] = refl
bare_trees (t ∷ ts) = ap (λ rest. more (bare t) rest) (bare_trees ts)

respan_bare : (span : _) (t : Tree) → bare (respan span t) ≡ bare t
respan_bare span absent = refl
respan_bare span t = refl

if_some : {A B : Type 0} (k : A → B) (b : Bool) (x : A) → option_map k (if b then Some x else None) ≡ (if b then Some (k x) else None)
if_some k true x = refl
if_some k false x = refl

form_same : (l : Leaf) (kind : TokenKind) (b : List ℕ) → form_of l kind b ≡ form_told l kind (word_of kind b)
form_same (always form) kind b = refl
form_same (by_integer form) kind b = refl
form_same (by_name form) token.Id b = refl
form_same (by_name form) (token.Absent absent_word.Skip) b = refl
form_same (by_name form) kind b = refl
form_same (by_string form) token.String b = refl
form_same (by_string form) (token.Absent absent_word.Skip) b = refl
form_same (by_string form) kind b = refl
form_same (by_bytes form) token.Bytes b = refl
form_same (by_bytes form) (token.Absent absent_word.Skip) b = refl
form_same (by_bytes form) kind b = refl
form_same (by_regex form) token.Regex b = refl
form_same (by_regex form) (token.Absent absent_word.Skip) b = refl
form_same (by_regex form) kind b = refl
form_same (by_number form) token.Number b = refl
form_same (by_number form) (token.Absent absent_word.Skip) b = refl
form_same (by_number form) kind b = refl
form_same (by_hook_name form) (token.Hook h) b = refl
form_same (by_hook_name form) kind b = refl

-- a stack apart from places, where `tell` says what each token tells
abbrev held : (ℕ → Telling) → Item → Held
held tell (begun n) = started (tell n)
held tell (built t) = made (bare t)

abbrev pub piled : (ℕ → Telling) → Stack → Pile
piled tell s = map (held tell) s

module _ (tell : ℕ → Telling) where
  abbrev kept : {A B : Type 0} → (A → B) → Left A → After B
  kept f x = after (f x.value) (piled tell x.rest)

  -- what is done with an answer, apart from places
  then_held : {A B C D : Type 0} (f : A → B) (k : C → D) (o : Option (Left A)) (go : A → Stack → Option C) (on : B → Pile → Option D) → ((x : A) (s : Stack) → option_map k (go x s) ≡ on (f x) (piled tell s))
      → option_map k (then_do o go) ≡ after_do (option_map (kept f) o) on
  then_held f k None go on h = refl
  then_held f k (Some x) go on h = h x.value x.rest

  top_held : (sort : Sort) (s : Stack) → option_map (kept bare) (popped sort s) ≡ top sort (piled tell s)
  top_held sort [] = refl
  top_held sort (begun n ∷ s) = refl
  top_held sort (built t ∷ s) = if_some (kept bare) (fits sort t) (left t s) ∙ ap (λ b. if b then Some (after (bare t) (piled tell s)) else None) (sym (fits_bare sort t))

  front_if : (test : Tree → Bool) (b : Bool) (t : Tree) (s : Stack) (ts : List Tree) → kept (map bare) (gathered test s (t ∷ ts)) ≡ front test (piled tell s) (map bare (t ∷ ts))
      → kept (map bare) (if b then gathered test s (t ∷ ts) else left ts (built t ∷ s)) ≡ (if b then front test (piled tell s) (bare t ∷ map bare ts) else after (map bare ts) (made (bare t) ∷ piled tell s))
  front_if test true t s ts h = h
  front_if test false t s ts h = refl

  front_held : (test : Tree → Bool) → ((t : Tree) → test (bare t) ≡ test t) → (s : Stack) (ts : List Tree) → kept (map bare) (gathered test s ts) ≡ front test (piled tell s) (map bare ts)
  front_held test same [] ts = refl
  front_held test same (begun n ∷ s) ts = refl
  front_held test same (built t ∷ s) ts =
      front_if test (test t) t s ts (front_held test same s (t ∷ ts))
      ∙ ap (λ b. if b then front test (piled tell s) (bare t ∷ map bare ts) else after (map bare ts) (made (bare t) ∷ piled tell s)) (sym (same t))

  filled_held : (slots : List Slot) (ts : List Tree) (s : Stack) → option_map (kept (map bare)) (parts_of slots ts s) ≡ filled slots (map bare ts) (piled tell s)
  filled_held [] ts s = refl
  filled_held (part sort ∷ slots) ts s =
      then_held bare (kept (map bare)) (popped sort s) (λ t rest. parts_of slots (t ∷ ts) rest) (λ t rest. filled slots (t ∷ map bare ts) rest) (λ t rest. filled_held slots (t ∷ ts) rest)
      ∙ ap (λ o. after_do o (λ t rest. filled slots (t ∷ map bare ts) rest)) (top_held sort s)
  filled_held (several g ∷ slots) ts s =
      filled_held slots (gathered (is_of g) s ts).value (gathered (is_of g) s ts).rest
      ∙ ap (λ x. let found : After (List Tree) = x in filled slots found.value found.rest) (front_held (is_of g) (of_bare g) s ts)

  start_held : (s : Stack) → option_map (kept tell) (opened s) ≡ start (piled tell s)
  start_held (begun n ∷ s) = refl
  start_held s = refl

  start_then : (s : Stack) (go : ℕ → Stack → Option Stack) (on : Telling → Pile → Option Pile) → ((p : ℕ) (below : Stack) → option_map (piled tell) (go p below) ≡ on (tell p) (piled tell below))
      → option_map (piled tell) (then_do (opened s) go) ≡ after_do (start (piled tell s)) on
  start_then s go on h = then_held tell (piled tell) (opened s) go on h ∙ ap (λ o. after_do o on) (start_held s)

  -- the tree that is put down, if its alternative is known
  abbrev put_formed : Option Form → List Tree → Pile → Option Pile
  put_formed o ts s = after_do (option_map (λ f. after f s) o) (λ f under. put (tree f nowhere ts) under)

  closed_held : (slots : List Slot) (s : Stack) (go : ℕ → List Tree → Stack → Option Stack) (form : Telling → Option Form)
      → ((p : ℕ) (ts : List Tree) (below : Stack) → option_map (piled tell) (go p ts below) ≡ put_formed (form (tell p)) (map bare ts) (piled tell below))
      → option_map (piled tell) (close_with slots s go) ≡ closed slots form (piled tell s)
  closed_held slots s go form h =
      then_held (map bare) (piled tell) (popped_parts slots s) (λ ts rest. then_do (opened rest) (λ p below. go p ts below)) (λ ts rest. after_do (start rest) (λ p below. put_formed (form p) ts below))
      (λ ts rest. start_then rest (λ p below. go p ts below) (λ p below. put_formed (form p) (map bare ts) below) (λ p below. h p ts below))
      ∙ ap (λ o. after_do o (λ ts rest. after_do (start rest) (λ p below. put_formed (form p) ts below))) (filled_held (reverse slots) [] s)

  worded_held : {A : Type 0} (o : Option A) (form : A → Form) (span : _) (ts : List Tree) (s : Stack) → option_map (piled tell) (worded o form span ts s) ≡ put_formed (option_map form o) (map bare ts) (piled tell s)
  worded_held None form span ts s = refl
  worded_held (Some w) form span ts s = ap (λ parts. put (node (form w) nowhere parts) (piled tell s)) (bare_trees ts)

  leaf_held : (o : Option Form) (span : _) (s : Stack) → option_map (piled tell) (push_if (option_map (λ form. tree form span []) o) s) ≡ put_if o (piled tell s)
  leaf_held None span s = refl
  leaf_held (Some form) span s = refl

module _ (source : List ℕ) (tokens : List Token) where
  abbrev tell : ℕ → Telling
  tell = tell_at source tokens

  done_held : (r : Rule) (n : ℕ) (s : Stack) → option_map (piled tell) (done_by r source tokens n s) ≡ does r (tell n) (piled tell s)
  done_held begins n s = refl
  done_held leaves_out n s = refl
  done_held (takes l) n s =
      leaf_held tell (form_of l (token_of tokens n).kind (bytes_of source (token_of tokens n))) (token_of tokens n).span s
      ∙ ap (λ o. put_if o (piled tell s)) (form_same l (token_of tokens n).kind (bytes_of source (token_of tokens n)))
  done_held gathers n s =
      let found = popped_all s in
      start_then tell found.rest (λ p below. push (in_row found.value) below) (λ p below. put (in_row (map bare found.value)) below) (λ p below. ap (λ parts. put (row parts) (piled tell below)) (bare_trees found.value))
      ∙ ap (λ x. let all : After (List Tree) = x in after_do (start all.rest) (λ p below. put (in_row all.value) below)) (front_held tell is_node node_bare s [])
  done_held (closes slots form) n s =
      closed_held tell slots s (λ p ts below. push (tree form (stretch tokens p n) ts) below) (λ p. Some form) (λ p ts below. ap (λ parts. put (node form nowhere parts) (piled tell below)) (bare_trees ts))
  done_held (closes_integer slots form) n s =
      closed_held tell slots s (λ p ts below. worded (integer_of (token_of tokens p).kind) form (stretch tokens p n) ts below) (λ p. option_map form (integer_of p.kind))
      (λ p ts below. worded_held tell (integer_of (token_of tokens p).kind) form (stretch tokens p n) ts below)
  done_held (closes_attribute slots form) n s =
      closed_held tell slots s (λ p ts below. worded (attribute_of (token_of tokens p).kind) form (stretch tokens p n) ts below) (λ p. option_map form (attribute_of p.kind))
      (λ p ts below. worded_held tell (attribute_of (token_of tokens p).kind) form (stretch tokens p n) ts below)
  done_held encloses n s =
      then_held tell bare (piled tell) (popped (one expressions) s) (λ t rest. then_do (opened rest) (λ p below. push (respan (stretch tokens p n) t) below)) (λ t rest. after_do (start rest) (λ p below. put t below))
      (λ t rest. start_then tell rest (λ p below. push (respan (stretch tokens p n) t) below) (λ p below. put (bare t) below) (λ p below. ap (λ u. put u (piled tell below)) (respan_bare (stretch tokens p n) t)))
      ∙ ap (λ o. after_do o (λ t rest. after_do (start rest) (λ p below. put t below))) (top_held tell (one expressions) s)
  done_held (joins slots form) n s =
      then_held tell (map bare) (piled tell) (popped_parts slots s) (λ ts rest. push (tree form (stretch_from tokens ts n) ts) rest) (λ ts rest. put (tree form nowhere ts) rest) (λ ts rest. ap (λ parts. put (node form nowhere parts) (piled tell rest)) (bare_trees ts))
      ∙ ap (λ o. after_do o (λ ts rest. put (tree form nowhere ts) rest)) (filled_held tell (reverse slots) [] s)
  done_held (wraps g form) n s =
      then_held tell bare (piled tell) (popped (one g) s) (λ t rest. push (tree form (span_of t) (t ∷ [])) rest) (λ t rest. put (tree form nowhere (t ∷ [])) rest) (λ t rest. refl)
      ∙ ap (λ o. after_do o (λ t rest. put (tree form nowhere (t ∷ [])) rest)) (top_held tell (one g) s)

  on_held : (o : Option Stack) (p : Option Pile) (go : Stack → Option Stack) (on : Pile → Option Pile) → option_map (piled tell) o ≡ p → ((s : Stack) → option_map (piled tell) (go s) ≡ on (piled tell s)) → option_map (piled tell) (go_on o go) ≡ and_then p on
  on_held None p go on e h = ap (λ q. and_then q on) e
  on_held (Some s) p go on e h = h s ∙ ap (λ q. and_then q on) e

  action_held : (o : Option Action) (n : ℕ) (s : Stack) → option_map (piled tell) (with_action o (λ m. acted m source tokens n s)) ≡ and_then o (λ m. does (rule m) (tell n) (piled tell s))
  action_held None n s = refl
  action_held (Some m) n s = done_held (rule m) n s

  -- what actions build, apart from places, is of what the tokens tell
  pub all_held : (actions : List ActionAt) (s : Stack) → option_map (piled tell) (all_done source tokens actions s) ≡ does_all tell actions (piled tell s)
  all_held [] s = refl
  all_held (e ∷ actions) s =
      on_held (with_action (action_with e.action) (λ m. acted m source tokens e.at s)) (and_then (action_with e.action) (λ m. does (rule m) (tell e.at) (piled tell s)))
      (λ next. all_done source tokens actions next) (λ next. does_all tell actions next) (action_held (action_with e.action) e.at s) (λ next. all_held actions next)
