-- What the test of a production finds is so: its trees can be read again, from what the chunks on the pile are written as.
use Rattle.std.specs.Prelude.{not, nat_lt, ◌&&◌, ◌||◌, ◌⊎◌, ◌≤◌, ◌<◌, if◌then◌else◌}
use Rattle.std.proofs.Common.{◌≡◌, ℕ, List, [], ◌∷◌, ◌++◌, Bool, true, false, ◌==◌, Option, Some, None, cond, refl, sym, ◌∙◌, ap, subst, inl, inr, arith}
use Rattle.std.proofs.lemmas.Bool.{and_parts, cases_Bool, ltb-true, not-true}
use Rattle.std.proofs.lemmas.List.{append-nil, append_assoc}
use Rattle.sp_lex.specs.declared.kinds.TokenKind.{TokenKind}
use Rattle.sp_parser.specs.declared.symbol.Symbol.{Symbol}
use Rattle.sp_parser.specs.declared.symbol.Symbol.TheVariants as symbol
use Rattle.sp_parser.specs.Grammar.{Nothing, First, All, takes, CLOSE, SECOND}
use Rattle.sp_grammar.specs.declared.actions.Action.{Action}
use Rattle.sp_grammar.specs.declared.terminals.Terminal.{Terminal}
use Rattle.sp_words.specs.declared.punctuation.Punctuation.TheVariants as sign
use Rattle.sp_words.specs.declared.keywords.Keyword.TheVariants as keyword
use Rattle.sp_grammar.specs.declared.terminals.Terminal.TheVariants as token
use Rattle.sp_grammar.specs.Actions.{action_with}
use Rattle.sp_grammar.specs.Terminals.{terminal_number}
use Rattle.sp_phrases.specs.Kinds.{number_of, terminal_of}
use Rattle.sp_ast.specs.Trees.{Tree, node, absent, row}
use Rattle.sp_ast.specs.declared.groups.Group.TheVariants.{Expressions as expressions}
use Rattle.sp_ast.specs.Groups.{is_of, is_node}
use Rattle.sp_build.specs.Rules.{rule}
use Rattle.sp_build.proofs.Standing.{some_equal, not_some, if_some}
use Rattle.sp_build.proofs.Told.{never}
use Rattle.sp_build.proofs.Shapes.{and_then}
use Rattle.sp_print.specs.Canonical.{last_kind}
use Rattle.sp_print.specs.Words.{Word, fixed}
use Rattle.sp_law_round_trip.proofs.Held.{Pile, does}
use Rattle.sp_law_round_trip.proofs.Goes.{Tok, entire, number, next, coming, before, pushed, Goes, nothing, whole, action, before_both}
use Rattle.sp_law_round_trip.proofs.Shown.{Yield, one, Manner, plain, expression, manner_of, avoided, is_kept, Avoids, Fits, Shows, yielded, ClaimAs, Trace, ended, token_passed, half_passed, action_passed, part_passed, is_avoided, avoided_there}
use Rattle.sp_law_round_trip.proofs.Expressions.{expression_shows}
use Rattle.sp_law_round_trip.proofs.Singles.{kind_for}
use Rattle.sp_law_round_trip.proofs.Chunks.{word, tree, wrote}
use Rattle.sp_law_round_trip.proofs.Advance.{State, add, Move, stays, eats, stuck, Guard, is_watched, are_actions, may_be_empty, comes_first, next_fits, move, move_at, then_go, yield_of, is_read, shown_number, advance}
use Rattle.sp_law_round_trip.proofs.Firsts.{first_tested, paren_tested, else_tested, comes_behind, follows}
use Rattle.sp_law_round_trip.proofs.Piles.{chain_same, alone, Piled, said, Copies, grown}
use Rattle.sp_law_round_trip.proofs.Moves.{rule_plain, stayed, ate, eats_itself, not_second, all_taken}
use Rattle.sp_law_round_trip.proofs.Steps.{beside, never_first, taken_by}

-- what may come behind the symbols
abbrev pub Guarded : Guard → ℕ → List Tok → Type 0
Guarded guard came v = Avoids guard.avoid v ⊎ ((guard.kept ≡ true) × (came ≡ terminal_number (token.Keyword keyword.Else)))

-- The symbols read these words on each copy of the pile, and leave a copy of what they left.
abbrev pub Onward : Guard → List Symbol → List Tok → {σ τ : State} {b s t : Pile} → Piled σ b s → Piled τ b t → Type 0
Onward guard ss u g now =
    (last : Option TokenKind) → (ws : List Word) × (said now last ≡ said g last ++ ws)
    × ((c z : Pile) (v : List Tok) → Copies g c z → Guarded guard (coming u) v → (y : Pile) × Goes ss (before ws v) z v y × Copies now c y)

abbrev Sound : Guard → List Symbol → List Tok → State → {σ : State} {b s : Pile} → Piled σ b s → Pile → Type 0
Sound guard ss u τ {b = b} g t = (now : Piled τ b t) × Onward guard ss u g now

words_on : (x y z : List Word) (ws vs : List Word) → y ≡ x ++ ws → z ≡ y ++ vs → z ≡ x ++ (ws ++ vs)
words_on x y z ws vs e h = h ∙ ap (λ q. q ++ vs) e ∙ append_assoc x ws vs

-- what a move does, by what it is
stay_cases : (m : Move) (stay eat : State → Option State) (τ : State) → then_go m stay eat ≡ Some τ → ((σ : State) × (m ≡ stays σ) × (stay σ ≡ Some τ)) ⊎ ((σ : State) × (m ≡ eats σ) × (eat σ ≡ Some τ))
stay_cases stuck stay eat τ e = not_some e
stay_cases (stays σ) stay eat τ e = inl (σ, refl, e)
stay_cases (eats σ) stay eat τ e = inr (σ, refl, e)

-- an action that stays, and what comes behind it
stay_on : (guard : Guard) (ss : List Symbol) (n : ℕ) (m : Action) (follow : Option ℕ) {σ : State} (next_state τ : State) (w u : List Tok) {b s t z : Pile} → action_with n ≡ Some m → move (rule m) follow σ ≡ stays next_state → does (rule m) (next w) s ≡ Some t → (g : Piled σ b s)
    → ((h : Piled next_state b t) → Sound guard ss u τ h z) → Sound guard (symbol.Action n ∷ ss) u τ g z
stay_on guard ss n m follow {σ = σ} next_state τ w u is moves done g more =
    let (h, same, copies) = stayed (rule m) (rule_plain m) follow σ next_state (next w) moves done g in
    let (now, on) = more h in (
      now,
      λ last. let (ws, words, goes) = on last in (
        ws,
        words ∙ ap (λ q. q ++ ws) (same last),
        λ c z v copy may.
            let (y, does_so, copied) = copies c z (next (before ws v)) copy in let (last_pile, read, copied_on) = goes c y v copied may in (last_pile, action m is does_so read, copied_on),
      ),
    )

first_half_closes : (e k : ℕ) → takes e k ≡ First → takes e SECOND ≡ Nothing → {A : Type 0} → A
first_half_closes e k passed none = elim (cases_Bool (e == CLOSE)) [
  | inl y ↦ absurd (let q : Nothing ≡ All = sym none ∙ ap (λ c. cond c (takes CLOSE SECOND) (cond (e == SECOND) All Nothing)) y in cc)
  | inr n ↦ absurd (never_first (e == k) (sym (taken_by e k n) ∙ passed))
]

-- an action that eats the token that comes, and what comes behind that
eat_on : (guard : Guard) (ss : List Symbol) (n e : ℕ) (m : Action) {σ : State} (next_state τ : State) (x : Tok) (w u : List Tok) {b s t z : Pile} → action_with n ≡ Some m → move (rule m) (Some e) σ ≡ eats next_state → takes e (number x) ≡ All → does (rule m) (next (x ∷ w)) s ≡ Some t → (g : Piled σ b s)
    → ((h : Piled next_state b t) → Sound guard ss u τ h z) → Sound guard (symbol.Action n ∷ symbol.Terminal e ∷ ss) u τ g z
eat_on guard ss n e m {σ = σ} next_state τ x w u is moves passed done g more =
    let (h, it, same, passes, copies) = ate (rule m) (rule_plain m) e σ next_state x moves passed done g in
    let (now, on) = more h in (
      now,
      λ last. let (ws, words, goes) = on last in (
        it ∷ ws,
        words_on (said g last) (said h last) (said now last) (it ∷ []) ws (same last) words,
        λ c z v copy may.
            let (y, does_so, copied) = copies c z copy in let (last_pile, read, copied_on) = goes c y v copied may in (last_pile, action m is does_so (whole passes read), copied_on),
      ),
    )

-- a token, and what comes behind it
token_on : (guard : Guard) (ss : List Symbol) (e : ℕ) {σ : State} (τ : State) (u : List Tok) {b s z : Pile} → is_read e ≡ true → (g : Piled σ b s)
    → ((h : Piled (add (word (shown_number e)) σ) b s) → Sound guard ss u τ h z) → Sound guard (symbol.Terminal e ∷ ss) u τ g z
token_on guard ss e τ u ok g more =
    let k = kind_for (shown_number e) in
    let lone = alone (word (shown_number e)) [] refl in
    let (h, same, copies) = grown lone.0 g in
    let (now, on) = more h in (
      now,
      λ last. let (ws, words, goes) = on last in (
        fixed k ∷ ws,
        words_on (said g last) (said h last) (said now last) (fixed k ∷ []) ws (same last ∙ chain_same (said g) (wrote lone.0) (λ l. fixed k ∷ []) lone.1 last) words,
        λ c z v copy may.
            let (y, read, copied) = goes c z v (copies c z copy) may in (y, whole (all_taken (takes e (number_of (terminal_of k))) ok) read, copied),
      ),
    )

watched_tested : (e : Terminal) → is_watched e ≡ true → first_tested (terminal_number e) ≡ true
watched_tested (token.Punctuation sign.LeftParen) ok = paren_tested
watched_tested (token.Keyword keyword.Else) ok = else_tested
watched_tested e ok = never ok

actions_only : (ss : List Symbol) {w v : List Tok} {s t : Pile} → are_actions ss ≡ true → Trace ss w s v t → w ≡ v
actions_only [] ok ended = refl
actions_only (symbol.Action m ∷ ss) ok (action_passed n is done more) = actions_only ss ok more
actions_only (symbol.Terminal e ∷ ss) ok tr = never ok
actions_only (symbol.Nonterminal e ∷ ss) ok tr = never ok

-- what may come behind a part is what comes there
may_come : (o : Option Terminal) (guard : Guard) (n : ℕ) (ss : List Symbol) {u1 u r v : List Tok} {s t y z : Pile} → next_fits o guard n ss ≡ true → Goes ss r y v z → Trace ss u1 s u t → Guarded guard (coming u) v
    → Avoids o r ⊎ ((is_kept n ≡ true) × (coming u1 ≡ terminal_number (token.Keyword keyword.Else)))
may_come None guard n ss ok goes tr may = inl tt
may_come (Some e) guard n ss {r = r} {v = v} ok goes tr may =
    let all = and_parts (is_watched e && not (comes_first (terminal_number e) ss)) (not (may_be_empty ss) || (is_avoided guard.avoid e && (not guard.kept || (is_kept n && are_actions ss)))) ok in
    let first = and_parts (is_watched e) (not (comes_first (terminal_number e) ss)) all.0 in
    elim (comes_behind (terminal_number e) (watched_tested e first.0) goes (not-true _ first.1)) [
      | inl differs ↦ inl differs
      | inr empty ↦
          let here = and_parts (is_avoided guard.avoid e) (not guard.kept || (is_kept n && are_actions ss)) (follows (may_be_empty ss) (is_avoided guard.avoid e && (not guard.kept || (is_kept n && are_actions ss))) all.1 empty.1) in
          elim may [
            | inl avoids ↦ inl (subst (λ q. Avoids (Some e) q) (sym empty.0) (avoided_there guard.avoid e v here.0 avoids))
            | inr kept ↦
                let actions = and_parts (is_kept n) (are_actions ss) (follows guard.kept (is_kept n && are_actions ss) here.1 kept.0) in
                inr (actions.0, ap coming (actions_only ss actions.1 tr) ∙ kept.1)
          ]
    ]

-- a part by its claim
abbrev Claimed : Guard → ℕ → List Symbol → State → State → Pile → Pile → List Tok → Type 0
Claimed guard n ss σ τ s t u = (y : Yield) × (ts : List Tree) × (t ≡ pushed ts s) × Fits y ts × Shows n y ts (coming u) × (next_fits (avoided n) guard n ss ≡ true) × (advance guard ss (add (tree y) σ) ≡ Some τ)

expression_node : (x : Tree) → is_of expressions x ≡ true → is_node x ≡ true
expression_node (node form span ts) e = refl
expression_node absent e = never e
expression_node (row ts) e = never e

claimed : (m : Manner) (guard : Guard) (n : ℕ) (ss : List Symbol) (σ τ : State) (w u : List Tok) (s t : Pile) → manner_of n ≡ m
    → and_then (yield_of m) (λ y. if next_fits (avoided n) guard n ss then advance guard ss (add (tree y) σ) else None) ≡ Some τ → ClaimAs m n w s t u → Claimed guard n ss σ τ s t u
claimed (plain y) guard n ss σ τ w u s t is ok (ts, on, fits, shows) =
    let i = if_some (next_fits (avoided n) guard n ss) (advance guard ss (add (tree y) σ)) τ ok in (y, ts, on, fits, shows, i.0, i.1)
claimed (expression level) guard n ss σ τ w u s t is ok (x, on, spells) =
    let below = tighter (nat_lt level 15) refl ok in
    let i = if_some (next_fits (avoided n) guard n ss) (advance guard ss (add (tree (one level)) σ)) τ below.1 in
    (one level, x ∷ [], on, (x, refl, expression_node x spells.is), λ last v c may. expression_shows n level is below.0 x spells (coming u) last v c may, i.0, i.1)
  where
    tighter : (c : Bool) → nat_lt level 15 ≡ c → and_then (if c then Some (one level) else None) (λ y. if next_fits (avoided n) guard n ss then advance guard ss (add (tree y) σ) else None) ≡ Some τ
        → (level ≤ 14) × ((if next_fits (avoided n) guard n ss then advance guard ss (add (tree (one level)) σ) else None) ≡ Some τ)
    tighter true e h = let below : level < 15 = ltb-true level 15 e in (omega (arith, below), h)
    tighter false e h = not_some h
claimed m guard n ss σ τ w u s t is ok claim = not_some ok

part_on : (guard : Guard) (ss : List Symbol) (n : ℕ) {σ : State} (τ : State) (u1 u : List Tok) {b s t z : Pile} → Claimed guard n ss σ τ s t u1 → Trace ss u1 t u z → (g : Piled σ b s)
    → ((next_state : State) → advance guard ss next_state ≡ Some τ → (h : Piled next_state b t) → Sound guard ss u τ h z) → Sound guard (symbol.Nonterminal n ∷ ss) u τ g z
part_on guard ss n {σ = σ} τ u1 u {b = b} {s = s} {t = t} {z = z} (y, ts, on, fits, shows, fit, ok) tr g more =
    let lone = alone (tree y) ts fits in
    let (h, same, copies) = grown lone.0 g in
    let rest : (h : Piled (add (tree y) σ) b (pushed ts s)) → Sound guard ss u τ h z = subst (λ q. (h : Piled (add (tree y) σ) b q) → Sound guard ss u τ h z) on (λ h. more (add (tree y) σ) ok h) in
    let (now, goes_on) = rest h in (
      now,
      λ last. let (ws, words, goes) = goes_on last in
          let l = last_kind last (said g last) in (
            yielded y ts l ++ ws,
            words_on (said g last) (said h last) (said now last) (yielded y ts l) ws (same last ∙ chain_same (said g) (wrote lone.0) (yielded y ts) lone.1 last) words,
            λ c z v copy may.
                let (p, read, copied) = goes c (pushed ts z) v (copies c z copy) may in
                (p, subst (λ q. Goes (symbol.Nonterminal n ∷ ss) q z v p) (sym (before_both (yielded y ts l) ws v)) (beside (shows l (before ws v) z (may_come (avoided n) guard n ss fit read tr may)) read), copied),
          ),
    )

-- what an action moves to, by what it is
moves_at : (n : ℕ) (m : Action) (e : Option ℕ) (σ τ : State) (stay eat : State → Option State) → action_with n ≡ Some m → then_go (move_at (action_with n) e σ) stay eat ≡ Some τ → then_go (move (rule m) e σ) stay eat ≡ Some τ
moves_at n m e σ τ stay eat is ok = ap (λ o. then_go (move_at o e σ) stay eat) (sym is) ∙ ok

stays_at : (n : ℕ) (m : Action) (σ τ : State) (stay : State → Option State) → action_with n ≡ Some m → then_go (move_at (action_with n) None σ) stay (λ q. None) ≡ Some τ → (q : State) × (move (rule m) None σ ≡ stays q) × (stay q ≡ Some τ)
stays_at n m σ τ stay is ok = elim (stay_cases (move (rule m) None σ) stay (λ q. None) τ (moves_at n m None σ τ stay (λ q. None) is ok)) [
  | inl found ↦ found
  | inr (q, moves, more) ↦ absurd (let h : None ≡ Some _ = more in cc)
]

-- What the symbols of a production leave, by going over them, they leave on each copy of the pile, from their own words.
pub sound : (guard : Guard) (ss : List Symbol) (σ τ : State) {w u : List Tok} {b s t : Pile} → advance guard ss σ ≡ Some τ → Trace ss w s u t → (g : Piled σ b s) → Sound guard ss u τ g t
sound guard [] σ τ {w = w} {b = b} {s = s} ok ended g =
    subst (λ z. Sound guard [] w z g s) (some_equal ok) (g, λ last. ([], sym (append-nil (said g last)), λ c z v copy may. (z, nothing, copy)))
sound guard (symbol.Terminal e ∷ ss) σ τ {u = u} ok (token_passed passed tr) g =
    let i = if_some (is_read e) (advance guard ss (add (word (shown_number e)) σ)) τ ok in token_on guard ss e τ u i.0 g (λ h. sound guard ss (add (word (shown_number e)) σ) τ i.1 tr h)
sound guard (symbol.Terminal e ∷ ss) σ τ {u = u} ok (half_passed passed tr) g =
    let i = if_some (is_read e) (advance guard ss (add (word (shown_number e)) σ)) τ ok in token_on guard ss e τ u i.0 g (λ h. sound guard ss (add (word (shown_number e)) σ) τ i.1 tr h)
sound guard (symbol.Action n ∷ symbol.Terminal e ∷ ss) σ τ {w = w} {u = u} ok (action_passed m is done (token_passed {x = x} {w = v} passed tr)) g =
    elim (stay_cases (move (rule m) (Some e) σ) (λ q. advance guard (symbol.Terminal e ∷ ss) q) (λ q. advance guard ss q) τ (moves_at n m (Some e) σ τ (λ q. advance guard (symbol.Terminal e ∷ ss) q) (λ q. advance guard ss q) is ok)) [
      | inl (q, moves, more) ↦ stay_on guard (symbol.Terminal e ∷ ss) n m (Some e) q τ w u is moves done g (λ h. sound guard (symbol.Terminal e ∷ ss) q τ more (token_passed {x = x} passed tr) h)
      | inr (q, moves, more) ↦ eat_on guard ss n e m q τ x v u is moves passed done g (λ h. sound guard ss q τ more tr h)
    ]
sound guard (symbol.Action n ∷ symbol.Terminal e ∷ ss) σ τ {w = w} {u = u} ok (action_passed m is done (half_passed {x = x} {w = v} passed tr)) g =
    elim (stay_cases (move (rule m) (Some e) σ) (λ q. advance guard (symbol.Terminal e ∷ ss) q) (λ q. advance guard ss q) τ (moves_at n m (Some e) σ τ (λ q. advance guard (symbol.Terminal e ∷ ss) q) (λ q. advance guard ss q) is ok)) [
      | inl (q, moves, more) ↦ stay_on guard (symbol.Terminal e ∷ ss) n m (Some e) q τ w u is moves done g (λ h. sound guard (symbol.Terminal e ∷ ss) q τ more (half_passed {x = x} passed tr) h)
      | inr (q, moves, more) ↦ first_half_closes e (number (entire x)) passed (not_second e (eats_itself (rule m) e σ q moves))
    ]
sound guard (symbol.Action n ∷ []) σ τ {w = w} {u = u} ok (action_passed m is done tr) g =
    let (q, moves, more) = stays_at n m σ τ (λ q. advance guard [] q) is ok in stay_on guard [] n m None q τ w u is moves done g (λ h. sound guard [] q τ more tr h)
sound guard (symbol.Action n ∷ symbol.Action k ∷ ss) σ τ {w = w} {u = u} ok (action_passed m is done tr) g =
    let (q, moves, more) = stays_at n m σ τ (λ q. advance guard (symbol.Action k ∷ ss) q) is ok in
    stay_on guard (symbol.Action k ∷ ss) n m None q τ w u is moves done g (λ h. sound guard (symbol.Action k ∷ ss) q τ more tr h)
sound guard (symbol.Action n ∷ symbol.Nonterminal k ∷ ss) σ τ {w = w} {u = u} ok (action_passed m is done tr) g =
    let (q, moves, more) = stays_at n m σ τ (λ q. advance guard (symbol.Nonterminal k ∷ ss) q) is ok in
    stay_on guard (symbol.Nonterminal k ∷ ss) n m None q τ w u is moves done g (λ h. sound guard (symbol.Nonterminal k ∷ ss) q τ more tr h)
sound guard (symbol.Nonterminal n ∷ ss) σ τ {w = w} {u = u} {s = s} ok (part_passed {u = v} {t = t} claim tr) g =
    part_on guard ss n τ v u (claimed (manner_of n) guard n ss σ τ w v s t refl ok claim) tr g (λ q more h. sound guard ss q τ more tr h)
