-- Laws of rounds.
use Rattle.std.proofs.Common.{ℕ, ◌≡◌, zero, suc, ◌+◌, Option, Some, None, refl, sym, ap, ◌∙◌, arith}
use Rattle.sp_solver.specs.declared.attempt.Attempt.{Attempt}
use Rattle.sp_solver.specs.declared.attempt.Attempt.TheVariants.{Done, Waits}
use Rattle.sp_solver.specs.Rounds.{got, round, Within, IsFair, IsSettled}

got_done : {A : Type 0} (t : Attempt A) (a : A) → got t ≡ Some a → t ≡ Done a
got_done (Done b) a e = cc
got_done (Waits j) a e = cc

pub some_is : {A : Type 0} (a b : A) → Some a ≡ Some b → a ≡ b
some_is a b e = cc

pub none_some : {A : Type 0} (o : Option A) (a : A) → o ≡ None → o ≡ Some a → ⊥
none_some o a n s = (let x : None ≡ Some a = sym n ∙ s in cc)

done_waits : {A : Type 0} (t : Attempt A) (a : A) (j : ℕ) → t ≡ Done a → t ≡ Waits j → ⊥
done_waits t a j d w = (let x : Done a ≡ Waits j = sym d ∙ w in cc)

pub done_is : {A : Type 0} (a b : A) → Done a ≡ Done b → a ≡ b
done_is a b e = cc

-- a round loses nothing
pub round_more : {A : Type 0} (try : (ℕ → Option A) → ℕ → Attempt A) → IsFair try → (k : ℕ) → Within (round try k) (round try (suc k))
round_more try fair zero i a e = (let x : ⊥ = none_some None a refl e in absurd x)
round_more try fair (suc k) i a e =
    ap got (fair.keeps (round try k) (round try (suc k)) i a (round_more try fair k) (got_done (try (round try k) i) a e))

-- what stands where nothing more can be found
pub record IsClosed {A : Type 0} (try : (ℕ → Option A) → ℕ → Attempt A) (f : ℕ → Option A) : Type 0 where
  pub solved : (i : ℕ) (a : A) → f i ≡ Some a → try f i ≡ Done a
  pub stuck : (i : ℕ) → f i ≡ None → (j : ℕ) × (try f i ≡ Waits j)

by_option : {A : Type 0} (P : Type 0) (o : Option A) → (o ≡ None → P) → ((a : A) → o ≡ Some a → P) → P
by_option P None n s = n refl
by_option P (Some a) n s = s a refl

-- every round stays within what is closed
pub round_within : {A : Type 0} (try : (ℕ → Option A) → ℕ → Attempt A) → IsFair try → (f : ℕ → Option A) → IsClosed try f → (k : ℕ) → Within (round try k) f
round_within try fair f c zero i a e = (let x : ⊥ = none_some None a refl e in absurd x)
round_within {A} try fair f c (suc k) i a e =
    let d : try f i ≡ Done a = fair.keeps (round try k) f i a (round_within try fair f c k) (got_done (try (round try k) i) a e) in
    by_option (f i ≡ Some a) (f i)
    (λ n. (let w = c.stuck i n in let x : ⊥ = done_waits (try f i) a w.0 d w.1 in absurd x))
    (λ b s. s ∙ ap Some (done_is b a (sym (c.solved i b s) ∙ d)))

option_none : {A : Type 0} (o : Option A) → ((a : A) → o ≡ Some a → ⊥) → o ≡ None
option_none None h = refl
option_none (Some a) h = absurd (h a refl)

pub closed_is_settled : {A : Type 0} (try : (ℕ → Option A) → ℕ → Attempt A) → IsFair try → (f : ℕ → Option A) → IsClosed try f → (t : ℕ) → Within f (round try t) → IsSettled try f
closed_is_settled try fair f c t sound = record {
  solved = c.solved;
  stuck = c.stuck;
  found = λ i a e. (t, sound i a e);
}

-- a question without an answer is answered by no round
pub settled_none : {A : Type 0} (try : (ℕ → Option A) → ℕ → Attempt A) → IsFair try → (f : ℕ → Option A) → IsSettled try f → (i : ℕ) → f i ≡ None → (k : ℕ) → round try k i ≡ None
settled_none try fair f s i n k =
    let c : IsClosed try f = record { solved = s.solved; stuck = s.stuck } in
    option_none (round try k i) (λ a e. none_some (f i) a n (round_within try fair f c k i a e))

-- so many rounds later
abbrev later : ℕ → ℕ → ℕ
later zero k = k
later (suc m) k = suc (later m k)

later_is : (m k : ℕ) → later m k ≡ m + k
later_is zero k = omega arith
later_is (suc m) k = omega (arith, later_is m k)

round_later : {A : Type 0} (try : (ℕ → Option A) → ℕ → Attempt A) → IsFair try → (k m : ℕ) → Within (round try k) (round try (later m k))
round_later try fair k zero i a e = e
round_later try fair k (suc m) i a e = round_more try fair (later m k) i a (round_later try fair k m i a e)

-- what is settled is one
round_same : {A : Type 0} (try : (ℕ → Option A) → ℕ → Attempt A) → IsFair try → (k m i : ℕ) (a b : A) → round try k i ≡ Some a → round try m i ≡ Some b → a ≡ b
round_same try fair k m i a b e h =
    let p : round try (later m k) i ≡ Some a = round_later try fair k m i a e in
    let q : round try (later k m) i ≡ Some b = round_later try fair m k i b h in
    let s : later m k ≡ later k m = omega (arith, later_is m k, later_is k m) in
    some_is a b (sym p ∙ ap (λ n. round try n i) s ∙ q)

pub settled_is_one : {A : Type 0} (try : (ℕ → Option A) → ℕ → Attempt A) → IsFair try → (f g : ℕ → Option A) → IsSettled try f → IsSettled try g → (i : ℕ) → f i ≡ g i
settled_is_one try fair f g sf sg i =
    by_option (f i ≡ g i) (f i)
    (λ n. n ∙ sym (option_none (g i) (λ b e. (let k = sg.found i b e in none_some (round try k.0 i) b (settled_none try fair f sf i n k.0) k.1))))
    (λ a e. by_option (f i ≡ g i) (g i)
    (λ n. (let k = sf.found i a e in let x : ⊥ = none_some (round try k.0 i) a (settled_none try fair g sg i n k.0) k.1 in absurd x))
    (λ b h. (let k = sf.found i a e in let m = sg.found i b h in e ∙ ap Some (round_same try fair k.0 m.0 i a b k.1 m.1) ∙ sym h)))
