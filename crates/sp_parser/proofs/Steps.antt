-- What a step has done so far.
use Rattle.std.proofs.Common.{◌≡◌, ℕ, suc, ◌<◌, ◌≤◌, List, [], ◌∷◌, ◌++◌, length, Bool, true, false, refl, sym, ◌∙◌, ap, subst, arith, cond, reverse}
use Rattle.std.specs.Prelude.{◌==◌}
use Rattle.std.proofs.lemmas.List.{reverse-append}
use Rattle.sp_parser.specs.declared.symbol.Symbol.{Symbol}
use Rattle.sp_parser.specs.declared.symbol.Symbol.TheVariants.{Terminal, Nonterminal, Action}
use Rattle.sp_parser.specs.declared.symbol.ActionAt.{ActionAt}
use Rattle.sp_parser.specs.declared.symbol.Step.{Step}
use Rattle.sp_parser.specs.declared.symbol.Step.TheVariants.{Whole, Half, Refused, Emptied}
use Rattle.sp_parser.specs.Grammar.{Table, productions_of, right, predict, takes, Nothing, First, All, ahead, Derivation, action_at, Advances, Tells, taken_of, SECOND, CLOSE}
use Rattle.sp_parser.specs.Certificate.{Certificate, IsCertified, Ready, steps_of}
use Rattle.sp_parser.specs.Sinks.{Became, Passes}
use Rattle.sp_parser.proofs.Passing.{passes_on}
use Rattle.sp_parser.proofs.Moves.{then, move_whole, move_half, no_move, move_action, move_predict, no_predict, fits_predict, token_end}
use Rattle.sp_parser.proofs.Ends.{fewer, listed-append}

pub record Moved (g : Table) (f : Certificate) (i : ℕ) (ss : List Symbol) (k : ℕ) (ts : List Symbol) {S : Type 0} (became : Became S) (before after : S) : Type 0 where
  pub ready : Ready f ts
  pub left : List ActionAt
  pub passed : Passes became before after left
  pub moves : (w : List ℕ) → ahead w ≡ k → Advances g i ss w i ts w left

append-nil : (ε : List ActionAt) → ε ++ [] ≡ ε
append-nil [] = refl
append-nil (x ∷ ε) = ap (λ r. x ∷ r) (append-nil ε)

-- the parts of the record after one more move
more : (g : Table) (i : ℕ) (ss : List Symbol) (w : List ℕ) (ts : List Symbol) (ε : List ActionAt) (j : ℕ) (us : List Symbol) (v : List ℕ) → Advances g i ss w i ts w ε → Advances g i ts w j us v [] → Advances g i ss w j us v ε
more g i ss w ts ε j us v a b = subst (λ δ. Advances g i ss w j us v δ) (append-nil ε) (then g i ss w i ts w ε j us v [] a b)

pub moved_action : {S : Type 0} (g : Table) (f : Certificate) (i : ℕ) (ss : List Symbol) (k m : ℕ) (ts : List Symbol) (became : Became S) (before after later : S) → Passes became after later (action_at m i ∷ []) → Moved g f i ss k (Action m ∷ ts) became before after → Moved g f i ss k ts became before later
moved_action g f i ss k m ts became before after later p x = record {
  ready = record { fits = x.ready.fits; listed = x.ready.listed };
  left = x.left ++ action_at m i ∷ [];
  passed = passes_on became before after later x.left (action_at m i ∷ []) x.passed p;
  moves = λ w e. then g i ss w i (Action m ∷ ts) w x.left i ts w (action_at m i ∷ []) (x.moves w e) (move_action g i m ts w);
}

pub moved_predict : {S : Type 0} (g : Table) (f : Certificate) → IsCertified g f → (i : ℕ) (ss : List Symbol) (k n : ℕ) (ts : List Symbol) (became : Became S) (before after : S) → predict g n k < length (productions_of g n) → Moved g f i ss k (Nonterminal n ∷ ts) became before after → Moved g f i ss k (right g n (predict g n k) ++ ts) became before after
moved_predict g f s i ss k n ts became before after h x = record {
  ready = record { fits = fits_predict g f s n k ts x.ready.fits h; listed = listed-append f (right g n (predict g n k)) ts (s.listed n (predict g n k) h) x.ready.listed.1 };
  left = x.left;
  passed = x.passed;
  moves = λ w e. more g i ss w (Nonterminal n ∷ ts) x.left i (right g n (predict g n k) ++ ts) w (x.moves w e) (move_predict g f s i n k ts w x.ready.fits e h);
}

second_cases : (c q : Bool) → cond c All (cond q All Nothing) ≡ First → ⊥
second_cases true q h = cc
second_cases false true h = cc
second_cases false false h = cc

pub popped : (old new : List Symbol) (x : Symbol) → old ≡ new ++ x ∷ [] → reverse old ≡ x ∷ reverse new
popped old new x e = ap reverse e ∙ reverse-append new (x ∷ [])

takes_second : (e : ℕ) → takes e SECOND ≡ First → ⊥
takes_second e h = second_cases (e == CLOSE) (e == SECOND) h

no_token : (g : Table) (i e k : ℕ) (ts : List Symbol) (w : List ℕ) (τ : List ActionAt) → takes e k ≡ Nothing → ahead w ≡ k → Derivation g i (Terminal e ∷ ts) w τ → ⊥
no_token g i e k ts [] τ t a r = token_end r
no_token g i e k ts (j ∷ w) τ t a r = no_move g i e j ts w τ (ap (λ x. takes e x) a ∙ t) r

-- what a step tells
abbrev pub Told : {S : Type 0} → Table → Certificate → Step → ℕ → List Symbol → ℕ → List Symbol → Became S → S → S → Type 0
Told g f s i ss k ts became before after = (ε : List ActionAt) × Passes became before after ε × Tells g s i ss k ts ε

pub told_token : {S : Type 0} (g : Table) (f : Certificate) (s : Step) (i : ℕ) (ss : List Symbol) (k e : ℕ) (ts : List Symbol) (became : Became S) (before after : S) → taken_of s (takes e k) → Moved g f i ss k (Terminal e ∷ ts) became before after → Told g f s i ss k ts became before after
told_token g f Whole i ss k e ts became before after t x = (x.left, x.passed, ((λ w. more g i ss (k ∷ w) (Terminal e ∷ ts) x.left (suc i) ts w (x.moves (k ∷ w) refl) (move_whole g i e k ts w t)), λ q τ r. let y = (x.moves [] (sym q)).back τ r in token_end y.2))
told_token g f Half i ss k e ts became before after t x = (x.left, x.passed, ((λ q. takes_second e (subst (λ j. takes e j ≡ First) q t)), (λ w. more g i ss (k ∷ w) (Terminal e ∷ ts) x.left i ts (SECOND ∷ w) (x.moves (k ∷ w) refl) (move_half g i e k ts w t)), λ q τ r. let y = (x.moves [] (sym q)).back τ r in token_end y.2))
told_token g f Refused i ss k e ts became before after t x = (x.left, x.passed, λ w a τ r. let y = (x.moves w a).back τ r in no_token g i e k ts w y.0 t a y.2)
told_token g f Emptied i ss k e ts became before after t x = absurd t

pub told_refused : {S : Type 0} (g : Table) (f : Certificate) → IsCertified g f → (i : ℕ) (ss : List Symbol) (k n : ℕ) (ts us : List Symbol) (became : Became S) (before after : S) → length (productions_of g n) ≤ predict g n k → Moved g f i ss k (Nonterminal n ∷ ts) became before after → Told g f Refused i ss k us became before after
told_refused g f s i ss k n ts us became before after h x = (x.left, x.passed, λ w a τ r. let y = (x.moves w a).back τ r in no_predict g f s i n k ts w y.0 x.ready.fits a (λ l. omega arith) y.2)

-- the stack as a list, once its top is popped
pub at_top : {S : Type 0} {g : Table} {f : Certificate} {i k : ℕ} {ss : List Symbol} {became : Became S} {before after : S} (old new : List Symbol) (x y : Symbol) → old ≡ new ++ x ∷ [] → x ≡ y → Moved g f i ss k (reverse old) became before after → Moved g f i ss k (y ∷ reverse new) became before after
at_top {g = g} {f = f} {i = i} {k = k} {ss = ss} {became = became} {before = before} {after = after} old new x y e q m = subst (λ ts. Moved g f i ss k ts became before after) (popped old new x e ∙ ap (λ z. z ∷ reverse new) q) m

pub after_predict : {S : Type 0} {g : Table} {f : Certificate} {i k : ℕ} {ss : List Symbol} {became : Became S} {before after : S} {n : ℕ} {ts : List Symbol} → IsCertified g f → (symbols us : List Symbol) → predict g n k < length (productions_of g n) → symbols ≡ right g n (predict g n k) → us ≡ symbols ++ ts → Moved g f i ss k (Nonterminal n ∷ ts) became before after → Moved g f i ss k us became before after
after_predict {g = g} {f = f} {i = i} {k = k} {ss = ss} {became = became} {before = before} {after = after} {n = n} {ts = ts} s symbols us h q u x =
    subst (λ vs. Moved g f i ss k vs became before after) (sym (u ∙ ap (λ r. r ++ ts) q)) (moved_predict g f s i ss k n ts became before after h x)

pub less_after : (g : Table) (f : Certificate) → IsCertified g f → (n k : ℕ) (ts symbols us vs : List Symbol) → predict g n k < length (productions_of g n) → symbols ≡ right g n (predict g n k) → us ≡ symbols ++ ts → vs ≡ Nonterminal n ∷ ts → steps_of f 0 us < steps_of f 0 vs
less_after g f s n k ts symbols us vs h q u v =
    let a : steps_of f 0 (right g n (predict g n k) ++ ts) < steps_of f 0 (Nonterminal n ∷ ts) = fewer g f s n (predict g n k) ts h in
    let b : us ≡ right g n (predict g n k) ++ ts = u ∙ ap (λ r. r ++ ts) q in
    subst (λ x. steps_of f 0 us < steps_of f 0 x) (sym v) (subst (λ x. steps_of f 0 x < steps_of f 0 (Nonterminal n ∷ ts)) (sym b) a)
