-- The actions of a module's text leave what they build in order.
use Rattle.std.specs.Prelude.{Bool, true, false, not, ◌&&◌, ◌||◌, ◌==◌, ◌⊎◌, nat_lt, map, if◌then◌else◌}
use Rattle.std.proofs.Common.{ℕ, ◌≡◌, ◌+◌, ◌≤◌, ◌<◌, suc, refl, sym, ap, subst, ◌∙◌, arith, List, [], ◌∷◌, length, get_or, Option, Some, None, inl, inr, cond, ltb-true, ne_eqb}
use Rattle.std.proofs.lemmas.Bool.{and_parts, cases_Bool}
use Rattle.sp_lex.specs.Readings.{InOrder}
use Rattle.sp_lex.specs.declared.tokens.Token.{Token}
use Rattle.sp_parser.specs.declared.symbol.Symbol.{Symbol}
use Rattle.sp_parser.specs.declared.symbol.Symbol.TheVariants.{Terminal, Nonterminal, Action as Act}
use Rattle.sp_parser.specs.declared.symbol.ActionAt.{ActionAt}
use Rattle.sp_parser.specs.Grammar.{right, takes, Nothing, First, All, SECOND, CLOSE, SHIFT, GREATER}
use Rattle.sp_grammar.specs.declared.actions.Action.{Action}
use Rattle.sp_grammar.specs.Actions.{action_with}
use Rattle.sp_grammar.specs.Written.{Part, all_parts}
use Rattle.sp_grammar.specs.Language.{language}
use Rattle.sp_grammar.specs.Reads.{Reads, nothing, whole, half, action, part}
use Rattle.sp_grammar.proofs.Spans.{every_production, one_production}
use Rattle.sp_build.specs.Rules.{Rule, begins, rule}
use Rattle.sp_build.specs.Building.{Stack, end_before, acted, with_action, go_on, all_done}
use Rattle.sp_build.proofs.Standing.{not_some}
use Rattle.sp_build.proofs.Told.{never}
use Rattle.sp_law_lists.proofs.field_places_lemmas.Order.{token_placed, next_later}
use Rattle.sp_law_lists.proofs.field_places_lemmas.Stacks.{Holds, raised, rules_are_plain, bound, bound_low, closes_field, is_beginning, is_taking, taken_holds, done_holds}

-- A test of the grammar. Where a field is closed, a token was passed since it began: its end reads one at least. Behind an action that
-- builds a tree of the next token, this is passed.

-- the parts that read a token at least; and those behind which a token was passed where one was before them
abbrev reads_some : Part → Bool
reads_some Part.FieldEnd = true
reads_some Part.FieldHook = true
reads_some Part.Block = true
reads_some _ = false

abbrev keeps_passed : Part → Bool
keeps_passed Part.FieldHooks = true
keeps_passed Part.OptSemi = true
keeps_passed _ = false

abbrev behind_part : ℕ → Bool → Bool
behind_part n c = get_or (map reads_some all_parts) n false || (get_or (map keeps_passed all_parts) n false && c)

abbrev behind_action : Option Action → Bool → Bool
behind_action None c = c
behind_action (Some m) c = if is_beginning (rule m) then false else c

-- whether a token was passed since each tree began that is open
abbrev behind : Bool → List Symbol → Bool
behind c [] = c
behind c (Terminal e ∷ ss) = behind (nat_lt e SECOND || c) ss
behind c (Act m ∷ ss) = behind (behind_action (action_with m) c) ss
behind c (Nonterminal n ∷ ss) = behind (behind_part n c) ss

abbrev passes_next : List Symbol → Bool
passes_next (Terminal e ∷ ss) = nat_lt e SECOND
passes_next _ = false

abbrev may_act : Option Action → Bool → List Symbol → Bool
may_act None c ss = true
may_act (Some m) c ss = (not (is_taking (rule m)) || passes_next ss) && (not (closes_field (rule m)) || c)

abbrev may_pass : Bool → List Symbol → Bool
may_pass c [] = true
may_pass c (Terminal e ∷ ss) = may_pass (nat_lt e SECOND || c) ss
may_pass c (Act m ∷ ss) = may_act (action_with m) c ss && may_pass (behind_action (action_with m) c) ss
may_pass c (Nonterminal n ∷ ss) = may_pass (behind_part n c) ss

abbrev is_so : ℕ → List Symbol → Bool → Bool
is_so n ss c = may_pass c ss && (not (behind_part n c) || behind c ss)

all_so : every_production language (λ n r. is_so n r.symbols false && is_so n r.symbols true) ≡ true
unfolding language
all_so = refl

-- a terminal that isn't the end of a list of types takes no half of a token
no_half : {X : Type 0} (e k : ℕ) → nat_lt e SECOND ≡ true → takes e k ≡ First → X
no_half e k low t =
    let below = ltb-true e SECOND low in
    let other : (e == CLOSE) ≡ false = ne_eqb e CLOSE (λ q. omega (arith, q, below)) in
    let own : takes e k ≡ cond (e == k) All Nothing = ap (λ c. cond c (cond (k == GREATER || k == SECOND) All (cond (k == SHIFT) First Nothing)) (cond (e == k) All Nothing)) other in
    elim (cases_Bool (e == k)) [
      | inl y ↦ let q : All ≡ First = sym (own ∙ ap (λ c. cond c All Nothing) y) ∙ t in absurd (cc)
      | inr n ↦ let q : Nothing ≡ First = sym (own ∙ ap (λ c. cond c All Nothing) n) ∙ t in absurd (cc)
    ]

-- what passes a test, or asks nothing
implied : (a b : Bool) → (not a || b) ≡ true → a ≡ true → b ≡ true
implied true b e h = e
implied false b e h = never h

not_beginning : (r : Rule) → is_taking r ≡ true → is_beginning r ≡ false
not_beginning begins e = never e
not_beginning _ e = refl

bound_high : (c : Bool) (n : ℕ) → n ≤ bound c n
bound_high true n = (let z : n ≤ n = omega arith in z)
bound_high false n = omega arith

bound_falls : (a b : Bool) (n : ℕ) → (a ≡ true → b ≡ true) → bound b n ≤ bound a n
bound_falls true true n up = (let z : n ≤ n = omega arith in z)
bound_falls true false n up = never (up refl)
bound_falls false b n up = bound_low b n

-- what is made of an answer
went_on : (o : Option Stack) (go : Stack → Option Stack) (next : Stack) → go_on o go ≡ Some next → (x : Stack) × (o ≡ Some x) × (go x ≡ Some next)
went_on None go next e = not_some e
went_on (Some x) go next e = (x, refl, e)

module _ (text : List ℕ) (tokens : List Token) (end : ℕ) (order : InOrder 0 tokens end) (final : Stack) where
  -- the stack stands in order before the next token, or behind it, where that is passed next
  abbrev pub IsReady : Bool → List Symbol → ℕ → Stack → Type 0
  IsReady c ss i s = Holds tokens (bound c i) (end_before tokens i) s ⊎ ((passes_next ss ≡ true) × Holds tokens (bound c i) (end_before tokens (suc i)) s)

  pub record Passed (c : Bool) (j : ℕ) (v : List ℕ) (τ : List ActionAt) : Type 0 where
    pub next : Stack
    pub does : all_done text tokens τ next ≡ Some final
    pub count : j + length v ≡ length tokens
    pub holds : Holds tokens (bound c j) (end_before tokens j) next

  -- where a token is passed next, there is one
  one_more : {ss : List Symbol} {i j : ℕ} {w v : List ℕ} {ρ τ : List ActionAt} → Reads language ss i w ρ j v τ → passes_next ss ≡ true → i + length w ≡ length tokens → i < length tokens
  one_more nothing is count = never is
  one_more (whole {i = i} {k = k} {w = w} t r) is count = (let z : i + suc (length w) ≡ length tokens = count in omega (arith, z))
  one_more (half {i = i} {k = k} {w = w} t r) is count = (let z : i + suc (length w) ≡ length tokens = count in omega (arith, z))
  one_more (action r) is count = never is
  one_more (part p b r q) is count = never is

  acted_so : (o : Option Action) (c : Bool) (ss : List Symbol) (i : ℕ) (s next : Stack) → i ≤ length tokens → (passes_next ss ≡ true → i < length tokens) → may_act o c ss ≡ true → with_action o (λ m. acted m text tokens i s) ≡ Some next → Holds tokens (bound c i) (end_before tokens i) s → IsReady (behind_action o c) ss i next
  acted_so None c ss i s next in_list some may e h = not_some e
  acted_so (Some m) c ss i s next in_list some may e h = by (is_taking (rule m)) refl
    where
      tests : ((not (is_taking (rule m)) || passes_next ss) ≡ true) × ((not (closes_field (rule m)) || c) ≡ true)
      tests = and_parts (not (is_taking (rule m)) || passes_next ss) (not (closes_field (rule m)) || c) may

      by : (b : Bool) → is_taking (rule m) ≡ b → IsReady (behind_action (Some m) c) ss i next
      by true is =
          let passed = implied (is_taking (rule m)) (passes_next ss) tests.0 is in
          let taken = taken_holds text tokens end order i in_list (rule m) (bound c i) s next is (some passed) e h in
          inr (passed, subst (λ b. Holds tokens (bound (if b then false else c) i) (end_before tokens (suc i)) next) (sym (not_beginning (rule m) is)) taken)
      by false is = inl (done_holds text tokens end order i in_list (rule m) c s next (rules_are_plain m) is (implied (closes_field (rule m)) c tests.1) e h)

  pub runs : {ss : List Symbol} {i j : ℕ} {w v : List ℕ} {ρ τ : List ActionAt} → Reads language ss i w ρ j v τ → (c : Bool) → may_pass c ss ≡ true → (s : Stack) → IsReady c ss i s → i + length w ≡ length tokens → all_done text tokens ρ s ≡ Some final → Passed (behind c ss) j v τ
  runs nothing c may s (inl h) count e = record { next = s; does = e; count = count; holds = h }
  runs nothing c may s (inr h) count e = never h.0
  runs (whole {i = i} {e = e} {k = k} {w = w} t r) c may s ready count done =
      let z : i + suc (length w) ≡ length tokens = count in
      let lt : i < length tokens = omega (arith, z) in
      let next : suc i + length w ≡ length tokens = omega (arith, z) in
      let later = next_later tokens i (token_placed tokens end i order lt) in
      let low = bound_low c i in
      let high = bound_high (nat_lt e SECOND || c) (suc i) in
      let wide : bound c i ≤ bound (nat_lt e SECOND || c) (suc i) = omega (arith, low, high) in
      let stays : end_before tokens (suc i) ≤ end_before tokens (suc i) = omega arith in
      runs r (nat_lt e SECOND || c) may s
      (inl (elim ready [
        | inl h ↦ raised tokens (bound c i) (bound (nat_lt e SECOND || c) (suc i)) (end_before tokens i) (end_before tokens (suc i)) s wide later h
        | inr h ↦ raised tokens (bound c i) (bound (nat_lt e SECOND || c) (suc i)) (end_before tokens (suc i)) (end_before tokens (suc i)) s wide stays h.1
      ]))
      next done
  runs (half {i = i} {e = e} {k = k} {w = w} t r) c may s (inr h) count done = no_half e k h.0 t
  runs (half {i = i} {e = e} {k = k} {w = w} t r) c may s (inl h) count done =
      let out : nat_lt e SECOND ≡ false = elim (cases_Bool (nat_lt e SECOND)) [ inl y ↦ no_half e k y t | inr n ↦ n ] in
      runs r (nat_lt e SECOND || c) may s (inl (subst (λ b. Holds tokens (bound (b || c) i) (end_before tokens i) s) (sym out) h)) count done
  runs (action {i = i} {m = m} {ss = ss} {w = w} {ρ = ρ} r) c may s (inr h) count done = never h.0
  runs (action {i = i} {m = m} {ss = ss} {w = w} {ρ = ρ} r) c may s (inl h) count done =
      let p = and_parts (may_act (action_with m) c ss) (may_pass (behind_action (action_with m) c) ss) may in
      let a = went_on (with_action (action_with m) (λ x. acted x text tokens i s)) (λ next. all_done text tokens ρ next) final done in
      let in_list : i ≤ length tokens = omega (arith, count) in
      runs r (behind_action (action_with m) c) p.1 a.0 (acted_so (action_with m) c ss i s a.0 in_list (λ is. one_more r is count) p.0 a.1 h) count a.2
  runs (part {i = i} {m = m} {n = n} {ss = ss} p b r q) c may s (inr h) count done = never h.0
  runs (part {i = i} {m = m} {n = n} {ss = ss} p b r q) c may s (inl h) count done =
      let both = one_production language (λ n r. is_so n r.symbols false && is_so n r.symbols true) n p all_so b.below in
      let t = and_parts (is_so n (right language n p) false) (is_so n (right language n p) true) both in
      let own = and_parts (may_pass c (right language n p)) (not (behind_part n c) || behind c (right language n p)) (tested c t.0 t.1) in
      let inner = runs r c own.0 s (inl h) count done in
      let wide = bound_falls (behind_part n c) (behind c (right language n p)) m (implied (behind_part n c) (behind c (right language n p)) own.1) in
      let stays : end_before tokens m ≤ end_before tokens m = omega arith in
      runs q (behind_part n c) may inner.next (inl (raised tokens (bound (behind c (right language n p)) m) (bound (behind_part n c) m) (end_before tokens m) (end_before tokens m) inner.next wide stays inner.holds)) inner.count inner.does
    where
      tested : (c : Bool) → is_so n (right language n p) false ≡ true → is_so n (right language n p) true ≡ true → is_so n (right language n p) c ≡ true
      tested true no_token one_token = one_token
      tested false no_token one_token = no_token
