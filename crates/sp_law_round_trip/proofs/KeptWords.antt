-- No word is lost: whatever is read as a module, its words are those that its tree tells, in their order, but for those that
-- do not stay. So a text and its canonical text, which are read as one tree, have the same.
use Rattle.std.specs.Prelude.{◌&&◌}
use Rattle.std.proofs.Common.{◌≡◌, ◌⊎◌, ℕ, List, [], ◌∷◌, ◌++◌, Bool, true, Option, Some, None, inl, inr, refl, sym, ◌∙◌, ap, append_assoc}
use Rattle.std.proofs.lemmas.Bool.{and_parts}
use Rattle.sp_lex.specs.Lexed.{Lexed, IsLexed}
use Rattle.sp_lex.specs.declared.tokens.Token.{Token}
use Rattle.sp_words.specs.declared.punctuation.Punctuation.TheVariants as sign
use Rattle.sp_lex.specs.declared.kinds.TokenKind.TheVariants as token
use Rattle.sp_parser.specs.declared.symbol.Symbol.{Symbol}
use Rattle.sp_parser.specs.declared.symbol.Symbol.TheVariants as symbol
use Rattle.sp_parser.specs.Grammar.{takes, First, All}
use Rattle.sp_grammar.specs.declared.actions.Action.{Action}
use Rattle.sp_ast.specs.Trees.{Tree}
use Rattle.sp_build.specs.Rules.{rule}
use Rattle.sp_build.proofs.Told.{never}
use Rattle.sp_print.specs.Canonical.{canonical}
use Rattle.sp_print.specs.Words.{Word, fixed}
use Rattle.sp_law_printed_words.specs.Modules.{module_lines}
use Rattle.sp_law_printed_words.specs.Sound.{IsSound}
use Rattle.sp_law_printed_words.proofs.Told.{told_sound}
use Rattle.sp_law_printed_words.proofs.Trees.{module_holds}
use Rattle.sp_read_unit.specs.Modules.{IsModuleTree}
use Rattle.sp_law_round_trip.specs.Bare.{bare}
use Rattle.sp_law_round_trip.specs.Kept.{kept, words_told}
use Rattle.sp_law_round_trip.specs.Told.{told}
use Rattle.sp_law_round_trip.proofs.Held.{Pile, made, does}
use Rattle.sp_law_round_trip.proofs.Goes.{Tok, entire, half, telling_of, number, next, Goes, nothing, whole, first_half, action, part, before, pushed}
use Rattle.sp_law_round_trip.proofs.HeardTokens.{half_says, never_halved, tok_words, token_says, toks_words}
use Rattle.sp_law_round_trip.proofs.StandingShapes.{Stands, text, Next, stands_with, moved, said_so, stands_words, rule_owned, acted, paired, paired_whole, entered}
use Rattle.sp_law_round_trip.proofs.Canonical.{canonical_told, lines_sound}
use Rattle.sp_law_round_trip.proofs.HeardWords.{words_of_tellings, heard_of, heard, told_heard, lines_heard}
use Rattle.sp_law_round_trip.proofs.Placeless.{lines_same}
use Rattle.sp_law_round_trip.proofs.Productions.{again}
use Rattle.sp_law_round_trip.proofs.Shapes.{Shape, tree, one, words, tree_words, Split, trees_in, wrote, covers_on}
use Rattle.sp_law_round_trip.proofs.ShapeRuns.{State, base, inner, adds, is_plain, words_at, depth, after, pairs, after_at, pairs_at, gives, needs, is_used, enters, floor, if_so, either, ends, passes, production_fine}
use Rattle.sp_law_round_trip.proofs.Shown.{flat}
use Rattle.sp_law_round_trip.proofs.Tells.{module_tells}
use Rattle.sp_law_round_trip.proofs.TextReadings.{ReadsModule, goes_of_tree}
use Rattle.sp_law_round_trip.proofs.ToldWords.{told_words}

-- a test that goes on had a state to go on with; of two tests, one holds
so_some : (o : Option State) (go : State → Bool) → if_so o go ≡ true → (st : State) × (o ≡ Some st) × (go st ≡ true)
so_some None go h = never h
so_some (Some st) go h = (st, refl, h)

either_of : (o : Option State) (go : State → Bool) (other : Bool) → either o go other ≡ true → ((st : State) × (o ≡ Some st) × (go st ≡ true)) ⊎ (other ≡ true)
either_of None go other h = inr h
either_of (Some st) go other h = inl (st, refl, h)

-- what comes next is told by a word
next_is : (w : List Tok) → (v : Word) × (next w ≡ telling_of v)
next_is [] = (fixed (token.Punctuation sign.Semicolon), refl)
next_is (entire w ∷ ws) = (w, refl)
next_is (half w ∷ ws) = (w, refl)

-- a token of a terminal that is plain, and the first half of one
token_on : (e : ℕ) (x : Tok) (st : State) (b s : Pile) (o : Stands st b s) → is_plain e ≡ true → takes e (number x) ≡ All → Next (adds (words (words_at e)) st) b s (λ r. text st b s o (tok_words x ++ r))
token_on e x st b s o ok h =
    said_so (adds (words (words_at e)) st) b s (λ r. text st b s o (words_at e ++ r)) (λ r. text st b s o (tok_words x ++ r)) (λ r. ap (λ ws. text st b s o (ws ++ r)) (token_says e x ok h)) (stands_words (words_at e) st b s o)

half_on : (e : ℕ) (w : Word) (st : State) (b s : Pile) (o : Stands st b s) → takes e (number (entire w)) ≡ First → (now : Stands (adds (words (words_at e)) st) b s) × ((r : List Word) → text st b s o (tok_words (entire w) ++ r) ≡ text (adds (words (words_at e)) st) b s now (tok_words (half w) ++ r))
half_on e w st b s o h =
    let (now, says) = stands_words (words_at e) st b s o in
    (now, λ r. ap (λ ws. text st b s o (ws ++ r)) (half_says e w h) ∙ ap (text st b s o) (append_assoc (words_at e) (tok_words (half w)) r) ∙ says (tok_words (half w) ++ r))

-- an action that no token belongs to
action_on : (m : Action) (w : List Tok) (st st' : State) (b s t : Pile) (o : Stands st b s) → after (rule m) st ≡ Some st' → does (rule m) (next w) s ≡ Some t → Next st' b t (λ r. text st b s o r)
action_on m w st st' b s t o ok done = let (v, is) = next_is w in acted (rule m) (rule_owned m) v st st' b s t o ok (ap (λ x. does (rule m) x s) (sym is) ∙ done)

-- A reading ends with what its test wants, in which the words are those that were read.
abbrev Ends : List Shape → Pile → Pile → List Word → List Word → Type 0
Ends want b t x y = (sq : Split want) × (t ≡ pushed (trees_in want sq) b) × (x ≡ wrote want sq y)

ends_after : (want : List Shape) (b t : Pile) (x y z : List Word) → x ≡ y → Ends want b t y z → Ends want b t x z
ends_after want b t x y z same e = (e.0, e.1, same ∙ e.2)

-- where no symbols are left
ended : (st : State) (b s : Pile) (o : Stands st b s) (want : List Shape) → ends st want ≡ true → (x : List Word) → Ends want b s (text st b s o x) x
ended (base cs) b s o want ok x = let (sq, same) = covers_on depth cs want o.0 ok in (sq, o.1 ∙ ap (λ ts. pushed ts b) same.0, same.1 x)
ended (inner known cs st) b s o want ok x = never ok

-- whatever the symbols read
reads_on : {ss : List Symbol} {w v : List Tok} {s t : Pile} → Goes ss w s v t → (st : State) (b : Pile) (o : Stands st b s) (want : List Shape) → passes st ss want ≡ true → Ends want b t (text st b s o (toks_words w)) (toks_words v)
reads_on (nothing {w = w} {s = s}) st b o want ok = ended st b s o want ok (toks_words w)
reads_on (whole {e = e} {x = x} {ss = ss} {w = w} {v = v} {s = s} {t = t} h g) st b o want ok =
    let (plain_so, more) = and_parts (is_plain e) (passes (adds (words (words_at e)) st) ss want) ok in
    let now = token_on e x st b s o plain_so h in
    ends_after want b t (text st b s o (tok_words x ++ toks_words w)) (text (adds (words (words_at e)) st) b s now.0 (toks_words w)) (toks_words v) (now.1 (toks_words w)) (reads_on g (adds (words (words_at e)) st) b now.0 want more)
reads_on (first_half {e = e} {x = x} {ss = ss} {w = w} {v = v} {s = s} {t = t} h g) st b o want ok =
    let more = (and_parts (is_plain e) (passes (adds (words (words_at e)) st) ss want) ok).1 in
    let now = half_on e x st b s o h in
    ends_after want b t (text st b s o (tok_words (entire x) ++ toks_words w)) (text (adds (words (words_at e)) st) b s now.0 (toks_words (half x ∷ w))) (toks_words v) (now.1 (toks_words w)) (reads_on g (adds (words (words_at e)) st) b now.0 want more)
reads_on (action {n = n} {s = s} {t = z} m is done (whole {e = e} {x = x} {ss = ss} {w = w} {v = v} {t = t} h g)) st b o want ok =
    let go : State → Bool = λ made_so. passes made_so ss want in
    let later : State → Bool = λ made_so. is_plain e && passes (adds (words (words_at e)) made_so) ss want in
    elim (either_of (pairs (rule m) e st) go (if_so (after (rule m) st) later) (ap (λ k. either (pairs_at k e st) go (if_so (after_at k st) later)) (sym is) ∙ ok)) [
      | inl (st', paired_so, more) ↦ (
          let now = paired (rule m) (rule_owned m) e x st st' b s z o paired_so h done in
          ends_after want b t (text st b s o (tok_words x ++ toks_words w)) (text st' b z now.0 (toks_words w)) (toks_words v) (now.1 (toks_words w)) (reads_on g st' b now.0 want more)
          )
      | inr alone ↦ (
          let (st', made_so, rest) = so_some (after (rule m) st) later alone in
          let (plain_so, more) = and_parts (is_plain e) (passes (adds (words (words_at e)) st') ss want) rest in
          let first = action_on m (x ∷ w) st st' b s z o made_so done in
          let now = token_on e x st' b z first.0 plain_so h in
          ends_after want b t (text st b s o (tok_words x ++ toks_words w)) (text (adds (words (words_at e)) st') b z now.0 (toks_words w)) (toks_words v) (first.1 (tok_words x ++ toks_words w) ∙ now.1 (toks_words w)) (reads_on g (adds (words (words_at e)) st') b now.0 want more)
          )
    ]
reads_on (action {n = n} {s = s} {t = z} m is done (first_half {e = e} {x = x} {ss = ss} {w = w} {v = v} {t = t} h g)) st b o want ok =
    let go : State → Bool = λ made_so. passes made_so ss want in
    let later : State → Bool = λ made_so. is_plain e && passes (adds (words (words_at e)) made_so) ss want in
    elim (either_of (pairs (rule m) e st) go (if_so (after (rule m) st) later) (ap (λ k. either (pairs_at k e st) go (if_so (after_at k st) later)) (sym is) ∙ ok)) [
      | inl (st', paired_so, more) ↦ absurd (never_halved e (number (entire x)) (paired_whole (rule m) e st st' paired_so) h)
      | inr alone ↦ (
          let (st', made_so, rest) = so_some (after (rule m) st) later alone in
          let more = (and_parts (is_plain e) (passes (adds (words (words_at e)) st') ss want) rest).1 in
          let first = action_on m (entire x ∷ w) st st' b s z o made_so done in
          let now = half_on e x st' b z first.0 h in
          ends_after want b t (text st b s o (tok_words (entire x) ++ toks_words w)) (text (adds (words (words_at e)) st') b z now.0 (toks_words (half x ∷ w))) (toks_words v) (first.1 (tok_words (entire x) ++ toks_words w) ∙ now.1 (toks_words w)) (reads_on g (adds (words (words_at e)) st') b now.0 want more)
          )
    ]
reads_on (action {n = n} {w = w} {s = s} {t = z} m is done nothing) st b o want ok =
    let go : State → Bool = λ made_so. ends made_so want in
    let (st', made_so, more) = so_some (after (rule m) st) go (ap (λ k. if_so (after_at k st) go) (sym is) ∙ ok) in
    let now = action_on m w st st' b s z o made_so done in
    ends_after want b z (text st b s o (toks_words w)) (text st' b z now.0 (toks_words w)) (toks_words w) (now.1 (toks_words w)) (ended st' b z now.0 want more (toks_words w))
reads_on (action {n = n} {ss = symbol.Action k ∷ ss} {w = w} {v = v} {s = s} {t = z} {u = t} m is done g) st b o want ok =
    let go : State → Bool = λ made_so. passes made_so (symbol.Action k ∷ ss) want in
    let (st', made_so, more) = so_some (after (rule m) st) go (ap (λ k. if_so (after_at k st) go) (sym is) ∙ ok) in
    let now = action_on m w st st' b s z o made_so done in
    ends_after want b t (text st b s o (toks_words w)) (text st' b z now.0 (toks_words w)) (toks_words v) (now.1 (toks_words w)) (reads_on g st' b now.0 want more)
reads_on (action {n = n} {ss = symbol.Nonterminal k ∷ ss} {w = w} {v = v} {s = s} {t = z} {u = t} m is done g) st b o want ok =
    let go : State → Bool = λ made_so. passes made_so (symbol.Nonterminal k ∷ ss) want in
    let (st', made_so, more) = so_some (after (rule m) st) go (ap (λ k. if_so (after_at k st) go) (sym is) ∙ ok) in
    let now = action_on m w st st' b s z o made_so done in
    ends_after want b t (text st b s o (toks_words w)) (text st' b z now.0 (toks_words w)) (toks_words v) (now.1 (toks_words w)) (reads_on g st' b now.0 want more)
reads_on (part {n = n} {ss = ss} {w = w} {u = u} {v = v} {s = s} {t = z} {z = t} p applies g h) st b o want ok =
    let go : State → Bool = λ rest. passes (adds (gives n) rest) ss want in
    let (used, onward) = and_parts (is_used n) (if_so (enters (needs n) st) go) ok in
    let (rest, is, more) = so_some (enters (needs n) st) go onward in
    let (under, lower, upper, says) = entered (needs n) st rest b s o is in
    let (sq, pile, all) = reads_on g (floor (needs n)) under upper (gives n) (production_fine n p applies.below used) in
    let now = moved (adds (gives n) rest) (adds (gives n) rest) b (pushed (trees_in (gives n) sq) under) z (λ r. text rest b under lower (wrote (gives n) sq r)) refl (sym pile) (stands_with (gives n) rest b under lower sq) in
    ends_after want b t (text st b s o (toks_words w)) (text (adds (gives n) rest) b z now.0 (toks_words u)) (toks_words v)
    (says (toks_words w) ∙ ap (text rest b under lower) all ∙ now.1 (toks_words u))
    (reads_on h (adds (gives n) rest) b now.0 want more)

-- what a module keeps that is read from words
heard_before : (ws : List Word) → toks_words (before ws []) ≡ heard ws
heard_before [] = refl
heard_before (w ∷ ws) = ap (λ vs. heard_of w ++ vs) (heard_before ws)

module_heard : (ws : List Word) (m : Tree) → ReadsModule (before ws []) m → heard ws ≡ tree_words m []
module_heard ws m g =
    let (sq, pile, all) = reads_on g (base []) [] (tt, refl) (tree one ∷ []) refl in
    let same : made m ∷ [] ≡ made sq.0.0 ∷ [] = pile in
    let it : sq.0.0 ≡ m = cc in
    sym (heard_before ws) ∙ all ∙ ap (λ t. tree_words t []) it

-- The words of a module's text are those of its canonical text, but for parentheses, semicolons and commas.
pub same_kept : (lexed : Lexed) (m : Tree) → IsLexed lexed.text lexed.list → IsModuleTree lexed m → kept (words_told (told lexed)) ≡ kept (flat (module_lines m))
same_kept lexed m is read =
    let (ws, tell) = told_words lexed is in
    let once = goes_of_tree lexed m ws tell read in
    let sound = module_holds IsSound (λ kind fixed. fixed) m (module_tells IsSound (λ kind fixed. fixed) lexed m (told_sound lexed.text lexed.list is) read) in
    told_heard lexed.text lexed.list ws tell
    ∙ module_heard ws (bare m) once
    ∙ sym (module_heard (flat (module_lines (bare m))) (bare m) (again (before ws []) (bare m) once))
    ∙ ap (λ lines. heard (flat lines)) (lines_same m)
    ∙ lines_heard (module_lines m) sound

-- They are what the tokens of the canonical text tell, too.
pub same_told : (lexed : Lexed) (m : Tree) → IsLexed lexed.text lexed.list → IsModuleTree lexed m → (tokens : List Token) → IsLexed (canonical m) tokens
    → kept (words_told (told lexed)) ≡ kept (words_told (told (record { text = canonical m; list = tokens })))
same_told lexed m is read tokens again_lexed =
    same_kept lexed m is read ∙ ap kept (sym (words_of_tellings (flat (module_lines m)))) ∙ ap (λ ts. kept (words_told ts)) (sym (canonical_told m (lines_sound lexed m is read) tokens again_lexed))
