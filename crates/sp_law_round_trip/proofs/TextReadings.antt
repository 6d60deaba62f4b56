-- Readings of a text by the grammar in its own words are readings of the words that its tokens tell, with what their actions
-- build, and back.
use Rattle.std.specs.Prelude.{option_map}
use Rattle.std.proofs.Common.{◌≡◌, ℕ, suc, ◌+◌, get_or, arith, List, [], ◌∷◌, map, Bool, true, false, cond, ◌==◌, Option, Some, refl, ap, sym, ◌∙◌, subst}
use Rattle.std.proofs.Math.ListN.{get_or-map}
use Rattle.std.proofs.lemmas.Simd.{map-map}
use Rattle.sp_lex.specs.Lexed.{Lexed}
use Rattle.sp_parser.specs.declared.symbol.Symbol.{Symbol}
use Rattle.sp_parser.specs.declared.symbol.ActionAt.{ActionAt}
use Rattle.sp_parser.specs.Grammar.{takes, Nothing, First, All, Applies, SECOND, CLOSE, action_at}
use Rattle.sp_grammar.specs.declared.actions.Action.{Action}
use Rattle.sp_grammar.specs.Actions.{action_with}
use Rattle.sp_grammar.specs.Own.{own}
use Rattle.sp_grammar.specs.Reads.{Reads}
use Rattle.sp_grammar.specs.Reads as reads
use Rattle.sp_grammar.specs.Sentences.{IsSentence}
use Rattle.sp_grammar.specs.Written.{Part, part as part_symbol}
use Rattle.sp_grammar.specs.declared.language.Start.TheVariants.{Module}
use Rattle.sp_phrases.specs.Kinds.{numbers_of, number_of, terminal_of}
use Rattle.sp_ast.specs.Trees.{Tree}
use Rattle.sp_ast.specs.Groups.{is_of}
use Rattle.sp_build.specs.Starting.{group_of}
use Rattle.sp_build.specs.Building.{all_done, no_token}
use Rattle.sp_build.specs.Rules.{rule}
use Rattle.sp_build.proofs.Standing.{then_some}
use Rattle.sp_build.proofs.Shapes.{and_then}
use Rattle.sp_print.specs.Words.{Word}
use Rattle.sp_read_unit.specs.Modules.{IsModuleTree}
use Rattle.sp_law_round_trip.specs.Bare.{bare}
use Rattle.sp_law_round_trip.specs.Told.{Telling, telling, told}
use Rattle.sp_law_round_trip.proofs.Held.{Pile, made, does, does_all}
use Rattle.sp_law_round_trip.proofs.Goes.{Tok, entire, half, tells, number, ending, next, Goes, telling_of, before}
use Rattle.sp_law_round_trip.proofs.Goes as goes
use Rattle.sp_law_round_trip.proofs.Machine.{piled, tell_at, all_held, of_bare}
use Rattle.sp_law_round_trip.proofs.AlikeTexts.{one_left}

-- equal lists begin and end alike
parts_same : {A : Type 0} (x y : A) (xs ys : List A) → x ∷ xs ≡ y ∷ ys → (x ≡ y) × (xs ≡ ys)
parts_same x y xs ys e = (cc, cc)

-- no second half of a `>>` is taken for a first one
second_is_whole : (e : ℕ) → takes e SECOND ≡ First → ⊥
second_is_whole e h = by_kind (e == CLOSE) (e == SECOND) h
  where
    by_kind : (closes same : Bool) → cond closes All (cond same All Nothing) ≡ First → ⊥
    by_kind true same h = absurd cc
    by_kind false true h = absurd cc
    by_kind false false h = absurd cc

-- an action that was passed has its rule, which did what it does
action_passed : (o : Option Action) (go : Action → Option Pile) (on : Pile → Option Pile) (z : Pile) → and_then (and_then o go) on ≡ Some z → (m : Action) × (t : Pile) × (o ≡ Some m) × (go m ≡ Some t) × (on t ≡ Some z)
action_passed o go on z h = let (t, there, then_on) = then_some (and_then o go) on z h in let (m, is, did) = then_some o go t there in (m, t, is, did, then_on)

module _ (tell : ℕ → Telling) where
  -- from a place on, the tokens tell these words
  abbrev Stands : ℕ → List Tok → Type 0
  Stands i [] = tell i ≡ ending
  Stands i (x ∷ w) = (tell i ≡ tells x) × Stands (suc i) w

  next_told : (i : ℕ) (w : List Tok) → Stands i w → tell i ≡ next w
  next_told i [] h = h
  next_told i (x ∷ w) h = h.0

  -- what a reading leaves: up to place j, where these kinds stand and these actions are still to pass
  record Gone (ss : List Symbol) (w : List Tok) (s : Pile) (j : ℕ) (v : List ℕ) (τ : List ActionAt) (z : Pile) : Type 0 where
    rest : List Tok
    pile : Pile
    goes : Goes ss w s rest pile
    kinds : map number rest ≡ v
    stands : Stands j rest
    does : does_all tell τ pile ≡ Some z

  goes_of_reads : {ss : List Symbol} {i j : ℕ} {k l : List ℕ} {ρ τ : List ActionAt} → Reads own ss i k ρ j l τ → (w : List Tok) (s z : Pile) → map number w ≡ k → Stands i w → does_all tell ρ s ≡ Some z → Gone ss w s j l τ z
  goes_of_reads reads.nothing w s z kinds stands done = record { rest = w; pile = s; goes = goes.nothing; kinds = kinds; stands = stands; does = done }
  goes_of_reads (reads.whole t r) [] s z kinds stands done = absurd cc
  goes_of_reads (reads.whole {e = e} {k = k} {w = ks} t r) (x ∷ w) s z kinds stands done =
      let same = parts_same (number x) k (map number w) ks kinds in
      let a = goes_of_reads r w s z same.1 stands.1 done in
      record { rest = a.rest; pile = a.pile; goes = goes.whole (ap (takes e) same.0 ∙ t) a.goes; kinds = a.kinds; stands = a.stands; does = a.does }
  goes_of_reads (reads.half t r) [] s z kinds stands done = absurd cc
  goes_of_reads (reads.half {e = e} {k = k} {w = ks} t r) (half x ∷ w) s z kinds stands done =
      let same = parts_same SECOND k (map number w) ks kinds in absurd (second_is_whole e (ap (takes e) same.0 ∙ t))
  goes_of_reads (reads.half {e = e} {k = k} {w = ks} t r) (entire x ∷ w) s z kinds stands done =
      let same = parts_same (number (entire x)) k (map number w) ks kinds in
      let a = goes_of_reads r (half x ∷ w) s z (ap (λ l. SECOND ∷ l) same.1) stands done in
      record { rest = a.rest; pile = a.pile; goes = goes.first_half (ap (takes e) same.0 ∙ t) a.goes; kinds = a.kinds; stands = a.stands; does = a.does }
  goes_of_reads (reads.action {i = i} {m = n} {ρ = ρ} r) w s z kinds stands done =
      let (m, t, is, built, then_done) = action_passed (action_with n) (λ m. does (rule m) (tell i) s) (λ next. does_all tell ρ next) z done in
      let a = goes_of_reads r w t z kinds stands then_done in
      record { rest = a.rest; pile = a.pile; goes = goes.action m is (ap (λ told. does (rule m) told s) (sym (next_told i w stands)) ∙ built) a.goes; kinds = a.kinds; stands = a.stands; does = a.does }
  goes_of_reads (reads.part {n = n} p applies r q) w s z kinds stands done =
      let a = goes_of_reads r w s z kinds stands done in
      let b = goes_of_reads q a.rest a.pile z a.kinds a.stands a.does in
      record { rest = b.rest; pile = b.pile; goes = goes.part p (subst (λ k. Applies own n p k) (sym kinds) applies) a.goes b.goes; kinds = b.kinds; stands = b.stands; does = b.does }

  -- A reading of words from place i on ends at a place, and passes actions before any that are left, which do what it does.
  record Read (ss : List Symbol) (i : ℕ) (w : List Tok) (s : Pile) (v : List Tok) (t : Pile) : Type 0 where
    place : ℕ
    stands : Stands place v
    actions : (τ : List ActionAt) → (ρ : List ActionAt) × Reads own ss i (map number w) ρ place (map number v) τ × (does_all tell ρ s ≡ does_all tell τ t)

  reads_of_goes : {ss : List Symbol} {w v : List Tok} {s t : Pile} → Goes ss w s v t → (i : ℕ) → Stands i w → Read ss i w s v t
  reads_of_goes goes.nothing i stands = record { place = i; stands = stands; actions = λ τ. (τ, reads.nothing, refl) }
  reads_of_goes (goes.whole t r) i stands =
      let a = reads_of_goes r (suc i) stands.1 in
      record { place = a.place; stands = a.stands; actions = λ τ. (let b = a.actions τ in (b.0, reads.whole t b.1, b.2)) }
  reads_of_goes (goes.first_half t r) i stands =
      let a = reads_of_goes r i stands in
      record { place = a.place; stands = a.stands; actions = λ τ. (let b = a.actions τ in (b.0, reads.half t b.1, b.2)) }
  reads_of_goes (goes.action {n = n} {w = w} {s = s} m is built r) i stands =
      let a = reads_of_goes r i stands in
      record {
        place = a.place;
        stands = a.stands;
        actions = λ τ. (let b = a.actions τ in (
          action_at n i ∷ b.0,
          reads.action b.1,
          ap (λ o. and_then (and_then o (λ k. does (rule k) (tell i) s)) (λ next. does_all tell b.0 next)) is
              ∙ ap (λ told. and_then (does (rule m) told s) (λ next. does_all tell b.0 next)) (next_told i w stands)
              ∙ ap (λ o. and_then o (λ next. does_all tell b.0 next)) built ∙ b.2,
        ));
      }
  reads_of_goes (goes.part p applies r q) i stands =
      let a = reads_of_goes r i stands in
      let b = reads_of_goes q a.place a.stands in
      record {
        place = b.place;
        stands = b.stands;
        actions = λ τ. (let d = b.actions τ in let c = a.actions d.0 in (c.0, reads.part p applies c.1 d.1, c.2 ∙ d.2));
      }

-- words stand there if the tokens tell them one for one, and nothing behind them
stand_if_told : (tell : ℕ → Telling) (ws : List Word) (i : ℕ) → ((n : ℕ) → tell (i + n) ≡ get_or (map telling_of ws) n ending) → Stands tell i (before ws [])
stand_if_told tell [] i h = ap tell (omega arith) ∙ h 0
stand_if_told tell (w ∷ ws) i h = (ap tell (omega arith) ∙ h 0, stand_if_told tell ws (suc i) (λ n. ap tell (omega arith) ∙ h (suc n)))

-- the words that the tokens of a text tell stand there
told_stand : (lexed : Lexed) (ws : List Word) → told lexed ≡ map telling_of ws → Stands (tell_at lexed.text lexed.list) 0 (before ws [])
told_stand lexed ws e = stand_if_told (tell_at lexed.text lexed.list) ws 0 (λ n. ap (tell_at lexed.text lexed.list) (omega arith) ∙ sym (get_or-map (telling lexed.text) lexed.list n no_token) ∙ ap (λ ts. get_or ts n ending) e)

numbers_before : (ws : List Word) → map (λ t. let x : Telling = t in number_of (terminal_of x.kind)) (map telling_of ws) ≡ map number (before ws [])
numbers_before [] = refl
numbers_before (w ∷ ws) = ap (λ ks. number (entire w) ∷ ks) (numbers_before ws)

-- and their kinds are those of the tokens
told_numbers : (lexed : Lexed) (ws : List Word) → told lexed ≡ map telling_of ws → numbers_of lexed.list ≡ map number (before ws [])
told_numbers lexed ws e =
    sym (map-map (λ t. let x : Telling = t in number_of (terminal_of x.kind)) (telling lexed.text) lexed.list)
    ∙ ap (λ ts. map (λ t. let x : Telling = t in number_of (terminal_of x.kind)) ts) e ∙ numbers_before ws

-- the reading of a module that reads all words and builds this
abbrev pub ReadsModule : List Tok → Tree → Type 0
ReadsModule w t = Goes (part_symbol Part.Module ∷ []) w [] [] (made t ∷ [])

whole_module : (w v : List Tok) (s : Pile) (t : Tree) → Goes (part_symbol Part.Module ∷ []) w [] v s → map number v ≡ [] → Some s ≡ Some (made t ∷ []) → ReadsModule w t
whole_module w (x ∷ v) s t r e h = absurd cc
whole_module w [] s t r e h = let same : s ≡ made t ∷ [] = cc in subst (λ p. Goes (part_symbol Part.Module ∷ []) w [] [] p) same r

-- a module that was read is read from the words that its tokens tell
pub goes_of_tree : (lexed : Lexed) (m : Tree) (ws : List Word) → told lexed ≡ map telling_of ws → IsModuleTree lexed m → ReadsModule (before ws []) (bare m)
goes_of_tree lexed m ws e (actions, read, built_so, kind) =
    let tell = tell_at lexed.text lexed.list in
    let done : does_all tell actions [] ≡ Some (made (bare m) ∷ []) = sym (all_held lexed.text lexed.list actions []) ∙ ap (λ o. option_map (piled tell) o) built_so in
    let gone = goes_of_reads tell read.1 (before ws []) [] (made (bare m) ∷ []) (sym (told_numbers lexed ws e)) (told_stand lexed ws e) done in
    whole_module (before ws []) gone.rest gone.pile (bare m) gone.goes gone.kinds gone.does

-- a module that is read from the words that the tokens of a text tell is the text's
pub tree_of_goes : (lexed : Lexed) (ws : List Word) (t : Tree) → told lexed ≡ map telling_of ws → ReadsModule (before ws []) t → is_of (group_of Module) t ≡ true → (u : Tree) × IsModuleTree lexed u × (bare u ≡ t)
tree_of_goes lexed ws t e r kind =
    let tell = tell_at lexed.text lexed.list in
    let read = reads_of_goes tell r 0 (told_stand lexed ws e) in
    let (actions, is, done) = read.actions [] in
    let left = one_left tell (all_done lexed.text lexed.list actions []) t (all_held lexed.text lexed.list actions [] ∙ done) in
    let group : is_of (group_of Module) left.0 ≡ true = sym (of_bare (group_of Module) left.0) ∙ ap (λ v. is_of (group_of Module) v) left.2 ∙ kind in
    (left.0, (actions, subst (λ ks. IsSentence Module ks actions) (sym (told_numbers lexed ws e)) (read.place, is), left.1, group), left.2)
