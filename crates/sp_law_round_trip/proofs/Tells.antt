-- The trees of a text tell only what its tokens tell.
use Rattle.std.specs.Prelude.{if◌then◌else◌, ◌&&◌}
use Rattle.std.specs.List.{AllByRecursion}
use Rattle.std.proofs.Common.{ap, ◌≡◌, ℕ, ◌<◌, length, option_map, inl, inr, ⊎_elim, List, [], ◌∷◌, reverse, Bool, true, false, Option, Some, None, refl, sym, subst}
use Rattle.std.proofs.Math.ListN.{get_or-eq_default}
use Rattle.std.proofs.lemmas.List.{get_or_default}
use Rattle.std.proofs.lemmas.Bool.{and_parts, cases_lt}
use Rattle.sp_lex.specs.declared.kinds.TokenKind.{TokenKind}
use Rattle.sp_lex.specs.declared.kinds.TokenKind.TheVariants as token
use Rattle.sp_lex.specs.declared.kinds.Absent.TheVariants as absent_word
use Rattle.sp_lex.specs.declared.tokens.Token.{Token}
use Rattle.sp_words.specs.declared.punctuation.Punctuation.TheVariants as punctuation
use Rattle.sp_lex.specs.Lexed.{Lexed}
use Rattle.sp_lex.specs.Literals.{number_value}
use Rattle.sp_lex.specs.Readings.{bytes_of, token_at}
use Rattle.sp_literals.specs.Values.{string_value, bytes_value, numbered, regex_text}
use Rattle.sp_parser.specs.declared.symbol.ActionAt.{ActionAt}
use Rattle.sp_grammar.specs.declared.actions.Action.{Action}
use Rattle.sp_grammar.specs.declared.actions.Action.TheVariants as build
use Rattle.sp_grammar.specs.Actions.{action_with}
use Rattle.sp_ast.specs.declared.forms.Form.{Form}
use Rattle.sp_words.specs.declared.operators.BinaryOp.TheVariants as binary
use Rattle.sp_words.specs.declared.operators.UnaryOp.TheVariants as unary
use Rattle.sp_words.specs.declared.operators.AssignOp.TheVariants as assign
use Rattle.sp_words.specs.declared.words.IntWord.{IntWord}
use Rattle.sp_words.specs.declared.words.AttributeName.{AttributeName}
use Rattle.sp_ast.specs.Trees.{Tree, absent, trees, tree, in_row, respan, span_of}
use Rattle.sp_build.specs.Items.{begun, built}
use Rattle.sp_ast.specs.declared.groups.Group.TheVariants.{Expressions as expressions}
use Rattle.sp_ast.specs.declared.groups.Sort.{Sort}
use Rattle.sp_ast.specs.declared.groups.Sort.TheVariants.{One as one}
use Rattle.sp_ast.specs.declared.groups.Slot.{Slot}
use Rattle.sp_ast.specs.declared.groups.Slot.TheVariants.{Part as part, Several as several}
use Rattle.sp_ast.specs.Groups.{fits, is_of, is_node}
use Rattle.sp_build.specs.Rules.{Leaf, always, by_name, by_string, by_bytes, by_regex, by_number, by_integer, by_hook_name, Rule, begins, leaves_out, takes, gathers, closes, closes_integer, closes_attribute, encloses, joins, wraps, rule}
use Rattle.sp_build.specs.Tokens.{form_of, integer_of, attribute_of}
use Rattle.sp_build.specs.Building.{Stack, Left, left, then_do, popped, gathered, popped_all, opened, parts_of, popped_parts, close_with, push, push_if, worded, token_of, no_token, stretch, stretch_from, done_by, acted, with_action, go_on, all_done}
use Rattle.sp_print.specs.Own.{own_words}
use Rattle.sp_print.specs.Words.{Word, fixed, name, text, bytes, regex, number}
use Rattle.sp_read_unit.specs.Modules.{IsModuleTree}
use Rattle.sp_law_printed_words.specs.Sound.{is_fixed}
use Rattle.sp_law_printed_words.specs.Trees.{TellsOnly, TellOnly}
use Rattle.sp_law_printed_words.specs.Told.{IsTold}
use Rattle.sp_law_round_trip.proofs.Leaves.{LeafSays}

-- words of one text each, that the profile has
abbrev all_fixed : List Word → Bool
all_fixed [] = true
all_fixed (fixed kind ∷ ws) = is_fixed kind && all_fixed ws
all_fixed (w ∷ ws) = false

-- what the alternatives tell that a rule builds
abbrev RuleTells : Rule → Type 0
RuleTells (takes (always form)) = all_fixed (own_words form) ≡ true
RuleTells (takes l) = LeafSays l
RuleTells (closes slots form) = all_fixed (own_words form) ≡ true
RuleTells (closes_integer slots form) = (w : IntWord) → all_fixed (own_words (form w)) ≡ true
RuleTells (closes_attribute slots form) = (a : AttributeName) → all_fixed (own_words (form a)) ≡ true
RuleTells (joins slots form) = all_fixed (own_words form) ≡ true
RuleTells (wraps g form) = all_fixed (own_words form) ≡ true
RuleTells _ = Unit {0}

rule_tells : (m : Action) → RuleTells (rule m)
rule_tells build.Begin = tt
rule_tells build.Absent = tt
rule_tells build.Row = tt
rule_tells build.Paren = tt
rule_tells build.Name = λ x. refl
rule_tells build.String = λ x. refl
rule_tells build.Number = λ x. refl
rule_tells build.HookName = λ x. refl
rule_tells build.IntType = λ x. refl
rule_tells build.NameTarget = λ x. refl
rule_tells build.HookTarget = λ x. refl
rule_tells build.Attribute = λ x. refl
rule_tells build.BytesBase = λ x. refl
rule_tells build.RegexBase = λ x. refl
rule_tells build.NumberBase = λ x. refl
rule_tells build.IntBase = λ x. refl
rule_tells build.NumberExpr = λ x. refl
rule_tells build.StringExpr = λ x. refl
rule_tells build.BytesExpr = λ x. refl
rule_tells build.RegexExpr = λ x. refl
rule_tells build.TypedNumberExpr = λ x. refl
rule_tells (build.Binary binary.Or) = refl
rule_tells (build.Unary unary.Not) = refl
rule_tells (build.Assign assign.Set) = refl
rule_tells m = refl

-- What holds of all words of one text each that the profile has, and of those that the tokens of a text tell, holds of
-- those that its trees tell.
module _ (P : Word → Type 0) (of_fixed : (k : TokenKind) → is_fixed k ≡ true → P (fixed k)) where
  fixed_hold : (ws : List Word) → all_fixed ws ≡ true → AllByRecursion P ws
  fixed_hold [] e = tt
  fixed_hold (fixed kind ∷ ws) e = let h = and_parts (is_fixed kind) (all_fixed ws) e in (of_fixed kind h.0, fixed_hold ws h.1)
  fixed_hold (w ∷ ws) e = absurd cc

  -- it holds of all words that the trees of a list tell, and those on a stack
  abbrev Tell : List Tree → Type 0
  Tell [] = Unit {0}
  Tell (t ∷ ts) = TellsOnly P t × Tell ts

  abbrev On : Stack → Type 0
  On [] = Unit {0}
  On (begun n ∷ s) = On s
  On (built t ∷ s) = TellsOnly P t × On s

  abbrev OnSome : Option Stack → Type 0
  OnSome None = Unit {0}
  OnSome (Some s) = On s

  abbrev OnLeft : {A : Type 0} → (A → Type 0) → Option (Left A) → Type 0
  OnLeft Q None = Unit {0}
  OnLeft Q (Some x) = Q x.value × On x.rest

  tell_trees : (ts : List Tree) → Tell ts → TellOnly P (trees ts)
  tell_trees [] h = tt
  tell_trees (t ∷ ts) h = (h.0, tell_trees ts h.1)

  then_on : {A : Type 0} (Q : A → Type 0) (o : Option (Left A)) (go : A → Stack → Option Stack) → OnLeft Q o → ((x : A) (s : Stack) → Q x → On s → OnSome (go x s)) → OnSome (then_do o go)
  then_on Q None go h by = tt
  then_on Q (Some x) go h by = by x.value x.rest h.0 h.1

  then_left : {A B : Type 0} (Q : A → Type 0) (R : B → Type 0) (o : Option (Left A)) (go : A → Stack → Option (Left B)) → OnLeft Q o → ((x : A) (s : Stack) → Q x → On s → OnLeft R (go x s)) → OnLeft R (then_do o go)
  then_left Q R None go h by = tt
  then_left Q R (Some x) go h by = by x.value x.rest h.0 h.1

  one_if : (b : Bool) (t : Tree) (s : Stack) → TellsOnly P t → On s → OnLeft (TellsOnly P) (if b then Some (left t s) else None)
  one_if true t s h on = (h, on)
  one_if false t s h on = tt

  popped_on : (sort : Sort) (s : Stack) → On s → OnLeft (TellsOnly P) (popped sort s)
  popped_on sort [] on = tt
  popped_on sort (begun n ∷ s) on = tt
  popped_on sort (built t ∷ s) on = one_if (fits sort t) t s on.0 on.1

  abbrev Both : Left (List Tree) → Type 0
  Both x = Tell x.value × On x.rest

  gathered_if : (b : Bool) (x y : Left (List Tree)) → Both x → Both y → Both (if b then x else y)
  gathered_if true x y h k = h
  gathered_if false x y h k = k

  gathered_on : (test : Tree → Bool) (s : Stack) (ts : List Tree) → On s → Tell ts → Both (gathered test s ts)
  gathered_on test [] ts on tell = (tell, tt)
  gathered_on test (begun n ∷ s) ts on tell = (tell, on)
  gathered_on test (built t ∷ s) ts on tell = gathered_if (test t) (gathered test s (t ∷ ts)) (left ts (built t ∷ s)) (gathered_on test s (t ∷ ts) on.1 (on.0, tell)) (tell, on)

  parts_on : (slots : List Slot) (ts : List Tree) (s : Stack) → On s → Tell ts → OnLeft Tell (parts_of slots ts s)
  parts_on [] ts s on tell = (tell, on)
  parts_on (part sort ∷ slots) ts s on tell = then_left (TellsOnly P) Tell (popped sort s) (λ t rest. parts_of slots (t ∷ ts) rest) (popped_on sort s on) (λ t rest h k. parts_on slots (t ∷ ts) rest k (h, tell))
  parts_on (several g ∷ slots) ts s on tell =
      let h = gathered_on (is_of g) s ts on tell in parts_on slots (gathered (is_of g) s ts).value (gathered (is_of g) s ts).rest h.1 h.0

  abbrev Any : ℕ → Type 0
  Any n = Unit {0}

  opened_on : (s : Stack) → On s → OnLeft Any (opened s)
  opened_on [] on = tt
  opened_on (begun n ∷ s) on = (tt, on)
  opened_on (built t ∷ s) on = tt

  close_on : (slots : List Slot) (s : Stack) (go : ℕ → List Tree → Stack → Option Stack) → On s → ((p : ℕ) (ts : List Tree) (below : Stack) → Tell ts → On below → OnSome (go p ts below)) → OnSome (close_with slots s go)
  close_on slots s go on by =
      then_on Tell (popped_parts slots s) (λ ts rest. then_do (opened rest) (λ p below. go p ts below)) (parts_on (reverse slots) [] s on tt)
      (λ ts rest h k. then_on Any (opened rest) (λ p below. go p ts below) (opened_on rest k) (λ p below u below_on. by p ts below h below_on))

  node_tells : (form : Form) (ts : List Tree) (s : Stack) (span : _) → all_fixed (own_words form) ≡ true → Tell ts → On s → OnSome (push (tree form span ts) s)
  node_tells form ts s span e h on = ((fixed_hold (own_words form) e, tell_trees ts h), on)

  worded_on : {A : Type 0} (o : Option A) (form : A → Form) (span : _) (ts : List Tree) (s : Stack) → ((w : A) → all_fixed (own_words (form w)) ≡ true) → Tell ts → On s → OnSome (worded o form span ts s)
  worded_on None form span ts s e h on = tt
  worded_on (Some w) form span ts s e h on = node_tells (form w) ts s span (e w) h on

  respan_tells : (span : _) (t : Tree) → TellsOnly P t → TellsOnly P (respan span t)
  respan_tells span absent h = h
  respan_tells span t h = h

  -- it holds of the words of the alternative that a token is of, and of those that the token tells
  abbrev LeafHolds : Option Form → Type 0
  LeafHolds None = Unit {0}
  LeafHolds (Some form) = AllByRecursion P (own_words form)

  abbrev TokenTells : TokenKind → List ℕ → Type 0
  TokenTells kind its = (w : Word) → IsTold w kind its → P w

  by_one : (ws : List Word) (w : Word) → ws ≡ w ∷ [] → P w → AllByRecursion P ws
  by_one ws w e h = let one : AllByRecursion P (w ∷ []) = (h, tt) in subst (λ vs. AllByRecursion P vs) (sym e) one

  by_word : {A : Type 0} (o : Option A) (form : A → Form) → ((x : A) → all_fixed (own_words (form x)) ≡ true) → LeafHolds (option_map form o)
  by_word None form e = tt
  by_word (Some x) form e = fixed_hold (own_words (form x)) (e x)

  leaf_holds : (l : Leaf) → RuleTells (takes l) → (kind : TokenKind) (its : List ℕ) → TokenTells kind its → LeafHolds (form_of l kind its)
  leaf_holds (always form) tells kind its told = fixed_hold (own_words form) tells
  leaf_holds (by_integer form) tells kind its told = by_word (integer_of kind) form (λ w. ap all_fixed (tells w))
  leaf_holds (by_name form) tells token.Id its told = by_one (own_words (form its)) (name its) (tells its) (told (name its) (inl refl, refl))
  leaf_holds (by_name form) tells (token.Absent absent_word.Skip) its told = by_one (own_words (form its)) (name its) (tells its) (told (name its) (inr refl, refl))
  leaf_holds (by_name form) tells kind its told = tt
  leaf_holds (by_string form) tells token.String its told = by_one (own_words (form (string_value its))) (text (string_value its)) (tells (string_value its)) (told (text (string_value its)) (refl, refl))
  leaf_holds (by_string form) tells kind its told = tt
  leaf_holds (by_bytes form) tells token.Bytes its told = by_one (own_words (form (bytes_value its))) (bytes (bytes_value its)) (tells (bytes_value its)) (told (bytes (bytes_value its)) (refl, refl))
  leaf_holds (by_bytes form) tells kind its told = tt
  leaf_holds (by_regex form) tells token.Regex its told = by_one (own_words (form (regex_text its))) (regex (regex_text its)) (tells (regex_text its)) (told (regex (regex_text its)) (refl, refl))
  leaf_holds (by_regex form) tells kind its told = tt
  leaf_holds (by_number form) tells token.Number its told = by_one (own_words (form (number_value its))) (number (number_value its)) (tells (number_value its)) (told (number (number_value its)) (refl, refl))
  leaf_holds (by_number form) tells kind its told = tt
  leaf_holds (by_hook_name form) tells (token.Hook h) its told = fixed_hold (own_words (form h)) (ap all_fixed (tells h))
  leaf_holds (by_hook_name form) tells kind its told = tt

  leaf_on : (o : Option Form) (span : _) (s : Stack) → LeafHolds o → On s → OnSome (push_if (option_map (λ form. tree form span []) o) s)
  leaf_on None span s h on = tt
  leaf_on (Some form) span s h on = ((h, tt), on)

  -- no token at all tells nothing
  none_told : (its : List ℕ) → TokenTells (token.Punctuation punctuation.Semicolon) its
  none_told its (fixed kind) told = of_fixed kind told.0.1
  none_told its (name x) told = ⊎_elim (λ e. absurd cc) (λ e. absurd cc) told.0
  none_told its (number n) told = let e = told.0 in absurd cc
  none_told its (text x) told = let e = told.0 in absurd cc
  none_told its (bytes x) told = let e = told.0 in absurd cc
  none_told its (regex x) told = let e = told.0 in absurd cc

  -- it holds of the words that each token of a text tells
  abbrev EachTells : List ℕ → List Token → Type 0
  EachTells source tokens = (n : ℕ) → n < length tokens → TokenTells (numbered tokens n).kind (bytes_of source (numbered tokens n))

  token_tells : (source : List ℕ) (tokens : List Token) → EachTells source tokens → (n : ℕ) → TokenTells (token_of tokens n).kind (bytes_of source (token_of tokens n))
  token_tells source tokens each n =
      ⊎_elim
      (λ inside. subst (λ t. let x : Token = t in TokenTells x.kind (bytes_of source x)) (get_or_default tokens n (token_at token.Id 0 0) no_token inside) (each n inside))
      (λ past. subst (λ t. let x : Token = t in TokenTells x.kind (bytes_of source x)) (sym (get_or-eq_default tokens no_token past)) (none_told (bytes_of source no_token)))
      (cases_lt n (length tokens))

  done_on : (r : Rule) → RuleTells r → (source : List ℕ) (tokens : List Token) → EachTells source tokens → (n : ℕ) (s : Stack) → On s → OnSome (done_by r source tokens n s)
  done_on begins tells source tokens each n s on = on
  done_on leaves_out tells source tokens each n s on = (tt, on)
  done_on (takes l) tells source tokens each n s on =
      leaf_on (form_of l (token_of tokens n).kind (bytes_of source (token_of tokens n))) (token_of tokens n).span s (leaf_holds l tells (token_of tokens n).kind (bytes_of source (token_of tokens n)) (token_tells source tokens each n)) on
  done_on gathers tells source tokens each n s on =
      let h = gathered_on is_node s [] on tt in
      then_on Any (opened (popped_all s).rest) (λ p below. push (in_row (popped_all s).value) below) (opened_on (popped_all s).rest h.1) (λ p below u below_on. (tell_trees (popped_all s).value h.0, below_on))
  done_on (closes slots form) tells source tokens each n s on =
      close_on slots s (λ p ts below. push (tree form (stretch tokens p n) ts) below) on (λ p ts below h below_on. node_tells form ts below (stretch tokens p n) tells h below_on)
  done_on (closes_integer slots form) tells source tokens each n s on =
      close_on slots s (λ p ts below. worded (integer_of (token_of tokens p).kind) form (stretch tokens p n) ts below) on (λ p ts below h below_on. worded_on (integer_of (token_of tokens p).kind) form (stretch tokens p n) ts below tells h below_on)
  done_on (closes_attribute slots form) tells source tokens each n s on =
      close_on slots s (λ p ts below. worded (attribute_of (token_of tokens p).kind) form (stretch tokens p n) ts below) on (λ p ts below h below_on. worded_on (attribute_of (token_of tokens p).kind) form (stretch tokens p n) ts below tells h below_on)
  done_on encloses tells source tokens each n s on =
      then_on (TellsOnly P) (popped (one expressions) s) (λ t rest. then_do (opened rest) (λ p below. push (respan (stretch tokens p n) t) below)) (popped_on (one expressions) s on)
      (λ t rest h rest_on. then_on Any (opened rest) (λ p below. push (respan (stretch tokens p n) t) below) (opened_on rest rest_on) (λ p below u below_on. (respan_tells (stretch tokens p n) t h, below_on)))
  done_on (joins slots form) tells source tokens each n s on =
      then_on Tell (popped_parts slots s) (λ ts rest. push (tree form (stretch_from tokens ts n) ts) rest) (parts_on (reverse slots) [] s on tt) (λ ts rest h rest_on. node_tells form ts rest (stretch_from tokens ts n) tells h rest_on)
  done_on (wraps g form) tells source tokens each n s on =
      then_on (TellsOnly P) (popped (one g) s) (λ t rest. push (tree form (span_of t) (t ∷ [])) rest) (popped_on (one g) s on) (λ t rest h rest_on. node_tells form (t ∷ []) rest (span_of t) tells (h, tt) rest_on)

  go_some : (o : Option Stack) (go : Stack → Option Stack) → OnSome o → ((s : Stack) → On s → OnSome (go s)) → OnSome (go_on o go)
  go_some None go h by = tt
  go_some (Some s) go h by = by s h

  action_on : (o : Option Action) (source : List ℕ) (tokens : List Token) → EachTells source tokens → (n : ℕ) (s : Stack) → On s → OnSome (with_action o (λ m. acted m source tokens n s))
  action_on None source tokens each n s on = tt
  action_on (Some m) source tokens each n s on = done_on (rule m) (rule_tells m) source tokens each n s on

  all_on : (source : List ℕ) (tokens : List Token) → EachTells source tokens → (actions : List ActionAt) (s : Stack) → On s → OnSome (all_done source tokens actions s)
  all_on source tokens each [] s on = on
  all_on source tokens each (e ∷ actions) s on =
      go_some (with_action (action_with e.action) (λ m. acted m source tokens e.at s)) (λ next. all_done source tokens actions next) (action_on (action_with e.action) source tokens each e.at s on) (λ next next_on. all_on source tokens each actions next next_on)

  -- those that a module tells
  pub module_tells : (lexed : Lexed) (m : Tree) → EachTells lexed.text lexed.list → IsModuleTree lexed m → TellsOnly P m
  module_tells lexed m each (actions, derived, built_so, kind) =
      let on : On (built m ∷ []) = subst (λ o. OnSome o) built_so (all_on lexed.text lexed.list each actions [] tt) in on.0
