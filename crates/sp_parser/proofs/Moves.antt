-- The moves of the engine, each of which keeps what is read.
use Rattle.std.proofs.Common.{◌≡◌, ℕ, suc, ◌<◌, List, [], ◌∷◌, ◌++◌, length, refl, sym, ◌∙◌, ap, subst, inl, inr, ◌⊎◌, append_assoc}
use Rattle.std.specs.Int.{bit_at}
use Rattle.sp_parser.specs.declared.symbol.Symbol.{Symbol}
use Rattle.sp_parser.specs.declared.symbol.Symbol.TheVariants.{Terminal, Nonterminal, Action}
use Rattle.sp_parser.specs.declared.symbol.ActionAt.{ActionAt}
use Rattle.sp_parser.specs.Grammar.{Table, productions_of, production_of, right, predict, takes, Nothing, First, All, ahead, Applies, Derivation, done, whole, half, action, expand, action_at, Advances, SECOND}
use Rattle.sp_parser.specs.Certificate.{Certificate, IsCertified, Fits}
use Rattle.sp_parser.proofs.Looks.{picks_production, fits_production}

pub token_inv : {g : Table} {i e k : ℕ} {ss : List Symbol} {w : List ℕ} {τ : List ActionAt} → Derivation g i (Terminal e ∷ ss) (k ∷ w) τ → ((takes e k ≡ All) × Derivation g (suc i) ss w τ) ⊎ ((takes e k ≡ First) × Derivation g i ss (SECOND ∷ w) τ)
token_inv (whole t r) = inl (t, r)
token_inv (half t r) = inr (t, r)

pub token_end : {g : Table} {i e : ℕ} {ss : List Symbol} {τ : List ActionAt} → Derivation g i (Terminal e ∷ ss) [] τ → ⊥
token_end h = elim h [ ]

pub action_inv : {g : Table} {i m : ℕ} {ss : List Symbol} {w : List ℕ} {τ : List ActionAt} → Derivation g i (Action m ∷ ss) w τ → (σ : List ActionAt) × (τ ≡ action_at m i ∷ σ) × Derivation g i ss w σ
action_inv (action {τ = σ} r) = (σ, refl, r)

pub nonterminal_inv : {g : Table} {i n : ℕ} {ss : List Symbol} {w : List ℕ} {τ : List ActionAt} → Derivation g i (Nonterminal n ∷ ss) w τ → (p : ℕ) × Applies g n p w × Derivation g i (right g n p ++ ss) w τ
nonterminal_inv (expand p a r) = (p, a, r)

pub done_inv : {g : Table} {i : ℕ} {w : List ℕ} {τ : List ActionAt} → Derivation g i [] w τ → (w ≡ []) × (τ ≡ [])
done_inv done = (refl, refl)

pub stay : (g : Table) (i : ℕ) (ss : List Symbol) (w : List ℕ) → Advances g i ss w i ss w []
stay g i ss w = record { forth = λ τ r. r; back = λ τ r. (τ, refl, r) }

pub then : (g : Table) (i : ℕ) (ss : List Symbol) (w : List ℕ) (j : ℕ) (ts : List Symbol) (v : List ℕ) (ε : List ActionAt) (k : ℕ) (us : List Symbol) (u : List ℕ) (δ : List ActionAt) → Advances g i ss w j ts v ε → Advances g j ts v k us u δ → Advances g i ss w k us u (ε ++ δ)
then g i ss w j ts v ε k us u δ a b = record {
  forth = λ τ r. subst (λ σ. Derivation g i ss w σ) (sym (append_assoc ε δ τ)) (a.forth (δ ++ τ) (b.forth τ r));
  back = λ τ r. let x = a.back τ r in let y = b.back x.0 x.2 in (y.0, x.1 ∙ ap (λ σ. ε ++ σ) y.1 ∙ sym (append_assoc ε δ y.0), y.2);
}

pub move_whole : (g : Table) (i e k : ℕ) (ss : List Symbol) (w : List ℕ) → takes e k ≡ All → Advances g i (Terminal e ∷ ss) (k ∷ w) (suc i) ss w []
move_whole g i e k ss w t = record {
  forth = λ τ r. whole t r;
  back = λ τ r. elim (token_inv r) [ inl x ↦ (τ, refl, x.1) | inr y ↦ absurd (let q : All ≡ First = sym t ∙ y.0 in cc) ];
}

pub move_half : (g : Table) (i e k : ℕ) (ss : List Symbol) (w : List ℕ) → takes e k ≡ First → Advances g i (Terminal e ∷ ss) (k ∷ w) i ss (SECOND ∷ w) []
move_half g i e k ss w t = record {
  forth = λ τ r. half t r;
  back = λ τ r. elim (token_inv r) [ inl x ↦ absurd (let q : All ≡ First = sym x.0 ∙ t in cc) | inr y ↦ (τ, refl, y.1) ];
}

pub no_move : (g : Table) (i e k : ℕ) (ss : List Symbol) (w : List ℕ) (τ : List ActionAt) → takes e k ≡ Nothing → Derivation g i (Terminal e ∷ ss) (k ∷ w) τ → ⊥
no_move g i e k ss w τ t r = elim (token_inv r) [ inl x ↦ (let q : All ≡ Nothing = sym x.0 ∙ t in cc) | inr y ↦ (let q : First ≡ Nothing = sym y.0 ∙ t in cc) ]

pub move_action : (g : Table) (i m : ℕ) (ss : List Symbol) (w : List ℕ) → Advances g i (Action m ∷ ss) w i ss w (action_at m i ∷ [])
move_action g i m ss w = record { forth = λ τ r. action r; back = λ τ r. action_inv r }

pub move_predict : (g : Table) (f : Certificate) → IsCertified g f → (i n k : ℕ) (ss : List Symbol) (w : List ℕ) → Fits f (Nonterminal n ∷ ss) → ahead w ≡ k → predict g n k < length (productions_of g n) → Advances g i (Nonterminal n ∷ ss) w i (right g n (predict g n k) ++ ss) w []
move_predict g f s i n k ss w fits e h = record {
  forth = λ τ r. expand (predict g n k) (record { below = h; allowed = subst (λ x. bit_at (production_of g n (predict g n k)).avoid x ≡ 0) (sym e) (s.free n k h) }) r;
  back = λ τ r. let x = nonterminal_inv r in
      let q : predict g n (ahead w) ≡ x.0 = picks_production g f s i ss w τ n x.0 fits x.1 x.2 in
      (τ, refl, subst (λ p. Derivation g i (right g n p ++ ss) w τ) (sym q ∙ ap (λ j. predict g n j) e) x.2);
}

pub no_predict : (g : Table) (f : Certificate) → IsCertified g f → (i n k : ℕ) (ss : List Symbol) (w : List ℕ) (τ : List ActionAt) → Fits f (Nonterminal n ∷ ss) → ahead w ≡ k → (predict g n k < length (productions_of g n) → ⊥) → Derivation g i (Nonterminal n ∷ ss) w τ → ⊥
no_predict g f s i n k ss w τ fits e h r =
    let x = nonterminal_inv r in
    let q : predict g n (ahead w) ≡ x.0 = picks_production g f s i ss w τ n x.0 fits x.1 x.2 in
    h (subst (λ p. p < length (productions_of g n)) (sym q ∙ ap (λ j. predict g n j) e) x.1.below)

pub fits_predict : (g : Table) (f : Certificate) → IsCertified g f → (n k : ℕ) (ss : List Symbol) → Fits f (Nonterminal n ∷ ss) → predict g n k < length (productions_of g n) → Fits f (right g n (predict g n k) ++ ss)
fits_predict g f s n k ss fits h = fits_production g f s n (predict g n k) ss h fits

-- At most one run.
pub one_run : (g : Table) (f : Certificate) → IsCertified g f → {i : ℕ} {ss : List Symbol} {w : List ℕ} {τ : List ActionAt} → Fits f ss → Derivation g i ss w τ → (σ : List ActionAt) → Derivation g i ss w σ → τ ≡ σ
one_run g f s fits done σ q = sym (done_inv q).1
one_run g f s fits (whole {i = i} {e = e} {k = k} {ss = ss} {w = w} {τ = τ} t r) σ q = let x = (move_whole g i e k ss w t).back σ q in one_run g f s fits r x.0 x.2 ∙ sym x.1
one_run g f s fits (half {i = i} {e = e} {k = k} {ss = ss} {w = w} {τ = τ} t r) σ q = let x = (move_half g i e k ss w t).back σ q in one_run g f s fits r x.0 x.2 ∙ sym x.1
one_run g f s fits (action {i = i} {m = m} r) σ q = let x = action_inv q in ap (λ ρ. action_at m i ∷ ρ) (one_run g f s fits r x.0 x.2) ∙ sym x.1
one_run g f s fits (expand {i = i} {n = n} {ss = ss} {w = w} {τ = τ} p a r) σ q =
    let x = nonterminal_inv q in
    let e : p ≡ x.0 = sym (picks_production g f s i ss w τ n p fits a r) ∙ picks_production g f s i ss w σ n x.0 fits x.1 x.2 in
    one_run g f s (fits_production g f s n p ss a.below fits) r σ (subst (λ y. Derivation g i (right g n y ++ ss) w σ) (sym e) x.2)
