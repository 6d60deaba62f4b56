-- The actions of each text build its tree.
use Rattle.std.specs.Prelude.{ℕ, zero, suc, ◌≡◌, ◌<◌, ◌⊎◌, List, [], ◌∷◌, ◌++◌, take, drop, true, false, ◌||◌, ◌==◌, nat_lt, if◌then◌else◌, cond, Option, Some, None, refl}
use Rattle.std.proofs.Common.{◌∙◌, ap, sym, subst, inl, inr, arith, ltb-true, eqb-true, ne_eqb}
use Rattle.std.proofs.lemmas.Bool.{cases_Bool}
use Rattle.sp_lex.specs.declared.tokens.Token.{Token}
use Rattle.sp_parser.specs.declared.symbol.Symbol.{Symbol}
use Rattle.sp_parser.specs.declared.symbol.Symbol.TheVariants as symbol
use Rattle.sp_parser.specs.declared.symbol.ActionAt.{ActionAt}
use Rattle.sp_parser.specs.Grammar.{right, takes, Nothing, First, All, SECOND, CLOSE, SHIFT, GREATER}
use Rattle.sp_grammar.specs.declared.actions.Action as grammar_action
use Rattle.sp_grammar.specs.Actions.{action_with}
use Rattle.sp_grammar.specs.declared.language.Start.{Start}
use Rattle.sp_grammar.specs.declared.language.Start.TheVariants as start
use Rattle.sp_grammar.specs.Starts.{start_number}
use Rattle.sp_grammar.specs.Language.{language}
use Rattle.sp_grammar.specs.Reads.{Reads, nothing, whole, half, action, part}
use Rattle.sp_grammar.proofs.Sentences.{derived}
use Rattle.sp_grammar.proofs.Spans.{reads_derived, one_production}
use Rattle.sp_phrases.specs.Kinds.{token_number, numbers_of}
use Rattle.sp_phrases.specs.Runs.{IsPhrase}
use Rattle.sp_ast.specs.Trees.{Tree}
use Rattle.sp_ast.specs.declared.groups.Sort.TheVariants.{One as one}
use Rattle.sp_ast.specs.Groups.{is_of}
use Rattle.sp_ast.specs.Slots.{is_formed}
use Rattle.sp_build.specs.Rules.{rule}
use Rattle.sp_build.specs.Starting.{group_of}
use Rattle.sp_build.specs.Items.{begun, built}
use Rattle.sp_build.specs.Building.{Stack, token_of, acted, with_action, go_on, all_done, IsBuilt}
use Rattle.sp_build.proofs.Shapes.{Shape, stands, strip}
use Rattle.sp_build.proofs.Signatures.{signature_at, next_kind, passed, run, is_used_up, keeps_signature, signatures_kept}
use Rattle.sp_build.proofs.Standing.{Stands, bottom, above, append_stands, strip_stands, some_equal, not_some, then_some}
use Rattle.sp_build.proofs.Effects.{IsMade, effect_there}
use Rattle.sp_build.proofs.Formed.{all_formed}
use Rattle.sp_build.proofs.Told.{never, IsKind, even}

-- The kinds that are left are those of the tokens from a place on; the first half of a `>>` may have been taken.
abbrev IsAt : List ℕ → ℕ → List ℕ → Type 0
IsAt us i w = (drop i us ≡ w) ⊎ (SECOND ∷ drop (suc i) us ≡ w)

dropped : (us : List ℕ) (i k : ℕ) (w : List ℕ) → drop i us ≡ k ∷ w → drop (suc i) us ≡ w
dropped [] zero k w e = cc
dropped [] (suc i) k w e = cc
dropped (u ∷ us) zero k w e = cc
dropped (u ∷ us) (suc i) k w e = dropped us i k w e

behind : (us : List ℕ) (i k : ℕ) (w : List ℕ) → IsAt us i (k ∷ w) → drop (suc i) us ≡ w
behind us i k w (inl e) = dropped us i k w e
behind us i k w (inr e) = cc

-- the first kind is that of the token
told_first : (tokens : List Token) (m i k : ℕ) (w : List ℕ) → drop i (take m (numbers_of tokens)) ≡ k ∷ w → token_number (token_of tokens i) ≡ k
told_first [] zero zero k w e = cc
told_first [] zero (suc i) k w e = cc
told_first [] (suc m) zero k w e = cc
told_first [] (suc m) (suc i) k w e = cc
told_first (t ∷ tokens) zero zero k w e = cc
told_first (t ∷ tokens) zero (suc i) k w e = cc
told_first (t ∷ tokens) (suc m) zero k w e = cc
told_first (t ∷ tokens) (suc m) (suc i) k w e = told_first tokens m i k w e

-- below the halves of a `>>` a terminal takes its own kind alone
takes_own : (e k : ℕ) → e < SECOND → takes e k ≡ cond (e == k) All Nothing
takes_own e k h =
    let n : (e == CLOSE) ≡ false = ne_eqb e CLOSE (λ q. omega arith) in
    ap (λ c. cond c (cond (k == GREATER || k == SECOND) All (cond (k == SHIFT) First Nothing)) (cond (e == k) All Nothing)) n

own_taken : (e k : ℕ) → e < SECOND → takes e k ≡ All → e ≡ k
own_taken e k h t = elim (cases_Bool (e == k)) [
  | inl y ↦ eqb-true e k y
  | inr n ↦ let q : Nothing ≡ All = sym (takes_own e k h ∙ ap (λ c. cond c All Nothing) n) ∙ t in absurd (cc)
]

no_half : {A : Type 0} (e k : ℕ) → e < SECOND → takes e k ≡ First → A
no_half e k h t = elim (cases_Bool (e == k)) [
  | inl y ↦ let q : All ≡ First = sym (takes_own e k h ∙ ap (λ c. cond c All Nothing) y) ∙ t in absurd (cc)
  | inr n ↦ let q : Nothing ≡ First = sym (takes_own e k h ∙ ap (λ c. cond c All Nothing) n) ∙ t in absurd (cc)
]

-- the terminal that comes next is the kind of the token
kind_ahead : (tokens : List Token) (m e i k : ℕ) (w : List ℕ) → e < SECOND → e ≡ k → IsAt (take m (numbers_of tokens)) i (k ∷ w) → token_number (token_of tokens i) ≡ e
kind_ahead tokens m e i k w h q (inl x) = told_first tokens m i k w x ∙ sym q
kind_ahead tokens m e i k w h q (inr x) = let s : SECOND ≡ k = cc in absurd (omega (arith, s, q, h))

-- what the symbols tell of the next token is so
next_told : (tokens : List Token) (m : ℕ) {ss : List Symbol} {i j : ℕ} {w v : List ℕ} {ρ τ : List ActionAt} → Reads language ss i w ρ j v τ → IsAt (take m (numbers_of tokens)) i w → IsKind (next_kind ss) (token_of tokens i).kind
next_told tokens m nothing a = tt
next_told tokens m (action r) a = tt
next_told tokens m (part p b r s) a = tt
next_told tokens m (whole {i = i} {e = e} {k = k} {w = w} t r) a = elim (cases_Bool (nat_lt e SECOND)) [
  | inl y ↦ let h = ltb-true e SECOND y in subst (λ c. IsKind (if c then Some e else None) (token_of tokens i).kind) (sym y) (kind_ahead tokens m e i k w h (own_taken e k h t) a)
  | inr n ↦ subst (λ c. IsKind (if c then Some e else None) (token_of tokens i).kind) (sym n) tt
]
next_told tokens m (half {i = i} {e = e} {k = k} t r) a = elim (cases_Bool (nat_lt e SECOND)) [
  | inl y ↦ no_half e k (ltb-true e SECOND y) t
  | inr n ↦ subst (λ c. IsKind (if c then Some e else None) (token_of tokens i).kind) (sym n) tt
]

-- what an action does where it is passed is done
action_there : {tokens : List Token} (o : Option grammar_action.Action) (text : List ℕ) (n : ℕ) (next : Option ℕ) → IsKind next (token_of tokens n).kind → {xs ys : List Shape} {s b : Stack} → passed o next xs ≡ Some ys → Stands tokens xs s b → IsMade tokens (with_action o (λ m. acted m text tokens n s)) ys b
action_there None text n next k e st = not_some e
action_there (Some m) text n next k e st = effect_there (rule m) (even m) text n next k e st

used_up : (o : Option (List Shape)) → is_used_up o ≡ true → o ≡ Some []
used_up None h = never h
used_up (Some []) h = refl
used_up (Some (x ∷ xs)) h = never h

-- The actions that are passed between two places build what the symbols leave.
record Passes (text : List ℕ) (tokens : List Token) (us : List ℕ) (ρ : List ActionAt) (s : Stack) (j : ℕ) (v : List ℕ) (τ : List ActionAt) (ys : List Shape) (b : Stack) : Type 0 where
  next : Stack
  at : IsAt us j v
  does : all_done text tokens ρ s ≡ all_done text tokens τ next
  stands : Stands tokens ys next b

-- the same from an earlier place on
from_earlier : {text : List ℕ} {tokens : List Token} {us v : List ℕ} {ρ σ τ : List ActionAt} {s r b : Stack} {j : ℕ} {ys : List Shape} → all_done text tokens ρ s ≡ all_done text tokens σ r → Passes text tokens us σ r j v τ ys b → Passes text tokens us ρ s j v τ ys b
from_earlier e p = record { next = p.next; at = p.at; does = e ∙ p.does; stands = p.stands }

passes : (text : List ℕ) (tokens : List Token) (m : ℕ) {ss : List Symbol} {i j : ℕ} {w v : List ℕ} {ρ τ : List ActionAt} → Reads language ss i w ρ j v τ → {xs ys : List Shape} {s b : Stack} → run ss xs ≡ Some ys → IsAt (take m (numbers_of tokens)) i w → Stands tokens xs s b → Passes text tokens (take m (numbers_of tokens)) ρ s j v τ ys b
passes text tokens m nothing {s = s} {b = b} e a st = record { next = s; at = a; does = refl; stands = subst (λ zs. Stands tokens zs s b) (some_equal e) st }
passes text tokens m (whole {i = i} {k = k} {w = w} t r) e a st = passes text tokens m r e (inl (behind (take m (numbers_of tokens)) i k w a)) st
passes text tokens m (half {i = i} {k = k} {w = w} t r) e a st = passes text tokens m r e (inr (ap (λ z. SECOND ∷ z) (behind (take m (numbers_of tokens)) i k w a))) st
passes text tokens m (action {i = i} {m = n} {ss = ss} {ρ = ρ} r) {xs = xs} {ys = ys} {s = s} e a st =
    let c = then_some (passed (action_with n) (next_kind ss) xs) (λ next. run ss next) ys e in
    let d = action_there (action_with n) text i (next_kind ss) (next_told tokens m r a) c.1 st in
    from_earlier (ap (λ o. go_on o (λ next. all_done text tokens ρ next)) d.1) (passes text tokens m r c.2 a d.2)
passes text tokens m (part {n = n} {ss = ss} p b r q) {xs = xs} {ys = ys} e a st =
    let c = then_some (strip (signature_at n).finds xs) (λ rest. run ss ((signature_at n).leaves ++ rest)) ys e in
    let x = strip_stands (signature_at n).finds c.1 st in
    let kept = one_production language (λ n r. keeps_signature n r.symbols) n p signatures_kept b.below in
    let f = then_some (run (right language n p) (signature_at n).finds) (λ zs. strip (signature_at n).leaves zs) [] (used_up _ kept) in
    let inner = passes text tokens m r f.1 a x.1 in
    let y = strip_stands (signature_at n).leaves f.2 inner.stands in
    from_earlier inner.does (passes text tokens m q c.2 inner.at (append_stands (on_base y.1 y.2) x.2))
  where
    on_base : {ls : List Shape} {s m b : Stack} → Stands tokens ls s m → Stands tokens [] m b → Stands tokens ls s b
    on_base st bottom = st

start_run : (start : Start) → run (symbol.Nonterminal (start_number start) ∷ []) [] ≡ Some (stands (one (group_of start)) ∷ [])
start_run start.Module = refl
start_run start.Type = refl
start_run start.Stmt = refl
start_run start.Expr = refl

-- on an empty stack one tree is left
one_tree : {tokens : List Token} (start : Start) {s : Stack} → Stands tokens (stands (one (group_of start)) ∷ []) s [] → (t : Tree) × (s ≡ built t ∷ []) × (is_of (group_of start) t ≡ true)
one_tree start (above {i = built t} q bottom) = (t, refl, q)
one_tree start (above {i = begun p} q bottom) = never q

pub phrase_is_built : (start : Start) (text : List ℕ) (tokens : List Token) (m : ℕ) (actions : List ActionAt) → IsPhrase start tokens m actions → (t : Tree) × (is_of (group_of start) t ≡ true) × IsBuilt text tokens actions t × (is_formed t ≡ true)
phrase_is_built start text tokens m actions d =
    let r = reads_derived (derived start (take m (numbers_of tokens)) actions d) in
    let p = passes text tokens m r.1 (start_run start) (inl refl) bottom in
    let t = one_tree start p.stands in
    let built_there = p.does ∙ ap (λ s. Some s) t.1 in
    (t.0, t.2, built_there, (all_formed text tokens actions [] (built t.0 ∷ []) built_there tt).0)
