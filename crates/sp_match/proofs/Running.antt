-- An automaton that grows, and one that runs.
use Rattle.std.proofs.Common.{◌≡◌, ℕ, ◌+◌, ◌<◌, ◌≤◌, ◌++◌, ◌==◌, ◌||◌, ◌⊎◌, Bool, true, false, List, [], ◌∷◌, length, get_or, refl, ap, sym, subst, ◌∙◌, inl, inr, arith, append_assoc, length-append, eqb-true, eq-eqb}
use Rattle.std.proofs.lemmas.List.{append-nil, get_or_append_left}
use Rattle.std.proofs.Math.Seq.{get_or-append_seam}
use Rattle.sp_regex.specs.Trees.{Syntax, empty}
use Rattle.sp_regex.specs.Language.{InL}
use Rattle.sp_match.specs.declared.spot.Spot.{Spot}
use Rattle.sp_match.specs.declared.spot.Spot.TheVariants as spot
use Rattle.sp_match.specs.Sets.{has}
use Rattle.sp_match.specs.Nets.{at, moves, jumps, is_goal, Reads, here, over, through, ReadsSome, Alive, AliveAt, Leads, Orderly, goal_token, goal_literal}
use Rattle.sp_match.specs.Parts.{IsCompiled}
use Rattle.sp_match.specs.Matching.{kind, is_literal}
use Rattle.sp_match.specs.Running.{ClosedUnder, Begins, Stands, IsNetOf, IsNext, IsClosed}
use Rattle.sp_match.proofs.Compiling.{either_true, left_true, right_true, order, before_or_not}
use Rattle.sp_match.proofs.Growing.{orderly_pushed, no_goal_behind, at_pushed, at_before, length_pushed, at_behind, no_moves, no_jumps}

-- what is read ends at a goal
pub ends_at_goal : (net : List Spot) (g p : ℕ) (w : List ℕ) → Reads net g p w → is_goal (at net g) ≡ true
ends_at_goal net g p w (here x) = x
ends_at_goal net g p w (over {q = q} {w = v} m r) = ends_at_goal net g q v r
ends_at_goal net g p w (through {q = q} j r) = ends_at_goal net g q w r

pub within_moves : (net : List Spot) (p b q : ℕ) → moves (at net p) b q ≡ true → p < length net
within_moves net p b q m = elim (before_or_not p (length net)) [ inl lt ↦ lt | inr ge ↦ absurd (no_moves (at net p) b q (at_behind net p ge) m) ]

pub within_jumps : (net : List Spot) (p q : ℕ) → jumps (at net p) q ≡ true → p < length net
within_jumps net p q m = elim (before_or_not p (length net)) [ inl lt ↦ lt | inr ge ↦ absurd (no_jumps (at net p) q (at_behind net p ge) m) ]

-- the same is read where the automaton has grown
pub grown_read : (old new : List Spot) → ((p : ℕ) → p < length old → at new p ≡ at old p) → (g p : ℕ) (w : List ℕ) → Reads old g p w → Reads new g p w
grown_read old new kept g p w (here x) =
    elim (before_or_not g (length old)) [
      | inl lt ↦ here (ap is_goal (kept g lt) ∙ x)
      | inr ge ↦ absurd (no_goal_behind old g ge x)
    ]
grown_read old new kept g p w (over {b = b} {q = q} {w = v} m r) = over (ap (λ z. moves z b q) (kept p (within_moves old p b q m)) ∙ m) (grown_read old new kept g q v r)
grown_read old new kept g p w (through {q = q} j r) = through (ap (λ z. jumps z q) (kept p (within_jumps old p q j)) ∙ j) (grown_read old new kept g q w r)

pub was_read : (old new : List Spot) → Orderly old → ((p : ℕ) → p < length old → at new p ≡ at old p) → (g p : ℕ) (w : List ℕ) → p < length old → Reads new g p w → Reads old g p w
was_read old new o kept g p w lt (here x) = here (ap is_goal (sym (kept g lt)) ∙ x)
was_read old new o kept g p w lt (over {b = b} {q = q} {w = v} m r) =
    let k : moves (at old p) b q ≡ true = ap (λ z. moves z b q) (sym (kept p lt)) ∙ m in
    over k (was_read old new o kept g q v (o.next_within p b q k) r)
was_read old new o kept g p w lt (through {q = q} j r) =
    let k : jumps (at old p) q ≡ true = ap (λ z. jumps z q) (sym (kept p lt)) ∙ j in
    through k (was_read old new o kept g q w (o.jump_within p q k) r)

goal_moves : (s : Spot) (b q : ℕ) → is_goal s ≡ true → moves s b q ≡ true → ⊥
goal_moves (spot.Goal token literal) b q g m = absurd (let k : false ≡ true = m in cc)
goal_moves (spot.Byte bytes next) b q g m = absurd (let k : false ≡ true = g in cc)
goal_moves (spot.Jump to) b q g m = absurd (let k : false ≡ true = g in cc)
goal_moves spot.Nothing b q g m = absurd (let k : false ≡ true = g in cc)

goal_jumps : (s : Spot) (q : ℕ) → is_goal s ≡ true → jumps s q ≡ true → ⊥
goal_jumps (spot.Goal token literal) q g m = absurd (let k : false ≡ true = m in cc)
goal_jumps (spot.Byte bytes next) q g m = absurd (let k : false ≡ true = g in cc)
goal_jumps (spot.Jump to) q g m = absurd (let k : false ≡ true = g in cc)
goal_jumps spot.Nothing q g m = absurd (let k : false ≡ true = g in cc)

-- from a goal nothing is read but the empty word
pub goal_read : (net : List Spot) (s : Spot) (g p : ℕ) (w : List ℕ) → at net p ≡ s → is_goal s ≡ true → Reads net g p w → (g ≡ p) × (w ≡ [])
goal_read net s g p w e i (here x) = (refl, refl)
goal_read net s g p w e i (over {b = b} {q = q} m r) = absurd (goal_moves s b q i (subst (λ z. moves z b q ≡ true) e m))
goal_read net s g p w e i (through {q = q} j r) = absurd (goal_jumps s q i (subst (λ z. jumps z q ≡ true) e j))

pub record Added (r : Syntax) (start entry begin back : List ℕ) (tokens : List Syntax) (s : Spot) (first second third : List Spot) : Type 0 where
  pub knows : Begins tokens first start
  pub pushed : second ≡ first ++ s ∷ []
  pub goal : is_goal s ≡ true
  pub token : goal_token s ≡ length tokens
  pub literal : goal_literal s ≡ is_literal r
  pub back_is : (p : ℕ) → has back p ≡ (p == length first)
  pub body : IsCompiled (InL r) back entry second third
  pub no_empty : InL r [] → ⊥
  pub begin_is : (p : ℕ) → has begin p ≡ (has start p || has entry p)

module _ {r : Syntax} {start entry begin back : List ℕ} {tokens : List Syntax} {s : Spot} {first second third : List Spot} (a : Added r start entry begin back tokens s first second third) where
  long : length second ≡ length first + 1
  long = ap length a.pushed ∙ length_pushed first s

  longer : length first + 1 ≤ length third
  longer = let l = long in let g = a.body.grown in omega arith

  kept : (p : ℕ) → p < length first → at third p ≡ at first p
  kept p lt = let l = long in a.body.kept p (omega arith) ∙ ap (λ z. at z p) a.pushed ∙ at_before first s p lt

  at_new : at third (length first) ≡ s
  at_new = let l = long in a.body.kept (length first) (omega arith) ∙ ap (λ z. at z (length first)) a.pushed ∙ at_pushed first s

  new_token : get_or (tokens ++ r ∷ []) (length tokens) empty ≡ r
  new_token = get_or-append_seam tokens r [] empty

  old_token : (i : ℕ) → i < length tokens → get_or (tokens ++ r ∷ []) i empty ≡ get_or tokens i empty
  old_token i lt = get_or_append_left tokens (r ∷ []) empty i lt

  back_alive : Alive third back
  back_alive p e = (length first, [], subst (λ z. Reads third (length first) z []) (sym (eqb-true p (length first) (sym (a.back_is p) ∙ e))) (here (ap is_goal at_new ∙ a.goal)))

  begin_cases : (p : ℕ) → has begin p ≡ true → (has start p ≡ true) ⊎ (has entry p ≡ true)
  begin_cases p e = either_true (has start p) (has entry p) (sym (a.begin_is p) ∙ e)

  added_orderly : Orderly third
  added_orderly = a.body.orderly (subst Orderly (sym a.pushed) (orderly_pushed first s (λ b q m. absurd (goal_moves s b q a.goal m)) (λ q m. absurd (goal_jumps s q a.goal m)) a.knows.orderly))

  grown_alive : (p : ℕ) → AliveAt first p → AliveAt third p
  grown_alive p x = (x.0, x.1, grown_read first third kept x.0 p x.1 x.2)

  added_lively : (p q : ℕ) → Leads (at third p) q → AliveAt third q
  added_lively p q x = elim (order p (length first)) [
    | inl lt ↦ grown_alive q (a.knows.lively p q (subst (λ z. Leads z q) (kept p lt) x))
    | inr ge ↦ elim ge [
      | inl e ↦ elim (subst (λ z. Leads z q) (ap (at third) e ∙ at_new) x) [
        | inl m ↦ absurd (goal_moves s m.0 q a.goal m.1)
        | inr j ↦ absurd (goal_jumps s q a.goal j)
      ]
      | inr gt ↦ elim (before_or_not p (length third)) [
        | inl lt ↦ (let l = long in a.body.compiled.lively third (λ z y w. refl) back_alive p q (omega arith) lt x)
        | inr beyond ↦ elim (subst (λ z. Leads z q) (at_behind third p beyond) x) [
          | inl m ↦ absurd (no_moves spot.Nothing m.0 q refl m.1)
          | inr j ↦ absurd (no_jumps spot.Nothing q refl j)
        ]
      ]
    ]
  ]

  -- where the new member's part begins, words of it are read up to its goal, and up to no other
  entry_read : (g p : ℕ) (w : List ℕ) → has entry p ≡ true → Reads third g p w → (g ≡ length first) × InL r w
  entry_read g p w e x = elim (a.body.compiled.spots p e) [
    | inl k ↦ absurd (a.no_empty k.1)
    | inr k ↦ (let y = a.body.compiled.reads third (λ z u v. refl) g p w e k.0 x in
        let i = eqb-true y.5.0 (length first) (sym (a.back_is y.5.0) ∙ y.5.1) in
        let z = goal_read third s g (length first) y.2 at_new a.goal (subst (λ n. Reads third g n y.2) i y.5.2) in
        (z.0, subst (InL r) (sym (y.3 ∙ ap (λ v. (y.0 ∷ y.1) ++ v) z.1 ∙ append-nil (y.0 ∷ y.1))) y.4))
  ]

  added_reads : (g : ℕ) (w : List ℕ) → is_goal (at third g) ≡ true → ReadsSome third g begin w → InL (get_or (tokens ++ r ∷ []) (goal_token (at third g)) empty) w
  added_reads g w is x = elim (begin_cases x.0 x.1) [
    | inl st ↦ (let old = was_read first third a.knows.orderly kept g x.0 w (a.knows.below x.0 st) x.2 in
        let goal = ends_at_goal first g x.0 w old in
        elim (before_or_not g (length first)) [
          | inl lt ↦ subst (λ z. InL z w) (sym (ap (λ z. get_or (tokens ++ r ∷ []) (goal_token z) empty) (kept g lt) ∙ old_token (goal_token (at first g)) (a.knows.goals g goal).0)) (a.knows.reads g w goal (x.0, st, old))
          | inr ge ↦ absurd (no_goal_behind first g ge goal)
        ])
    | inr en ↦ (let y = entry_read g x.0 w en x.2 in
        subst (λ z. InL z w) (sym (ap (λ z. get_or (tokens ++ r ∷ []) (goal_token z) empty) (ap (at third) y.0 ∙ at_new) ∙ ap (λ n. get_or (tokens ++ r ∷ []) n empty) a.token ∙ new_token)) y.1)
  ]

  added_is_read : (g : ℕ) (w : List ℕ) → is_goal (at third g) ≡ true → InL (get_or (tokens ++ r ∷ []) (goal_token (at third g)) empty) w → ReadsSome third g begin w
  added_is_read g w is x = elim (order g (length first)) [
    | inl lt ↦ (let goal = ap is_goal (sym (kept g lt)) ∙ is in
        let y = a.knows.is_read g w goal (subst (λ z. InL z w) (ap (λ z. get_or (tokens ++ r ∷ []) (goal_token z) empty) (kept g lt) ∙ old_token (goal_token (at first g)) (a.knows.goals g goal).0) x) in
        (y.0, a.begin_is y.0 ∙ left_true (has start y.0) (has entry y.0) y.1, grown_read first third kept g y.0 w y.2))
    | inr ge ↦ elim ge [
      | inl e ↦ (let l : InL r w = subst (λ z. InL z w) (ap (λ z. get_or (tokens ++ r ∷ []) (goal_token z) empty) (ap (at third) e ∙ at_new) ∙ ap (λ n. get_or (tokens ++ r ∷ []) n empty) a.token ∙ new_token) x in
          let y = a.body.compiled.is_read third (λ z u v. refl) (length first) w [] l (length first, a.back_is (length first) ∙ eq-eqb (length first) (length first) refl, here (ap is_goal at_new ∙ a.goal)) in
          (y.0, a.begin_is y.0 ∙ right_true (has start y.0) (has entry y.0) y.1, subst (λ n. Reads third n y.0 w) (sym e) (subst (λ v. Reads third (length first) y.0 v) (append-nil w) y.2)))
      | inr gt ↦ absurd (a.body.no_goal g (let l = long in omega arith) is)
    ]
  ]

  added_goals : (g : ℕ) → is_goal (at third g) ≡ true → (goal_token (at third g) < length (tokens ++ r ∷ [])) × (goal_literal (at third g) ≡ kind (tokens ++ r ∷ []) (goal_token (at third g)))
  added_goals g is = let more = length-append tokens (r ∷ []) in elim (order g (length first)) [
    | inl lt ↦ (let goal = ap is_goal (sym (kept g lt)) ∙ is in let k = a.knows.goals g goal in let small = k.0 in
        subst (λ z. (goal_token z < length (tokens ++ r ∷ [])) × (goal_literal z ≡ kind (tokens ++ r ∷ []) (goal_token z))) (sym (kept g lt))
        (omega arith, k.1 ∙ ap is_literal (sym (old_token (goal_token (at first g)) k.0))))
    | inr ge ↦ elim ge [
      | inl e ↦ (let t = a.token in subst (λ z. (goal_token z < length (tokens ++ r ∷ [])) × (goal_literal z ≡ kind (tokens ++ r ∷ []) (goal_token z))) (sym (ap (at third) e ∙ at_new))
          (omega arith, a.literal ∙ ap is_literal (sym (ap (λ n. get_or (tokens ++ r ∷ []) n empty) a.token ∙ new_token))))
      | inr gt ↦ absurd (a.body.no_goal g (let l = long in omega arith) is)
    ]
  ]

  added_goal_of : (i : ℕ) → i < length (tokens ++ r ∷ []) → (g : ℕ) × (is_goal (at third g) ≡ true) × (goal_token (at third g) ≡ i)
  added_goal_of i lt = let more = length-append tokens (r ∷ []) in elim (before_or_not i (length tokens)) [
    | inl small ↦ (let k = a.knows.goal_of i small in
        elim (before_or_not k.0 (length first)) [
          | inl within ↦ (k.0, ap is_goal (kept k.0 within) ∙ k.1, ap goal_token (kept k.0 within) ∙ k.2)
          | inr ge ↦ absurd (no_goal_behind first k.0 ge k.1)
        ])
    | inr ge ↦ (let last : length tokens ≡ i = omega arith in (length first, ap is_goal at_new ∙ a.goal, ap goal_token at_new ∙ a.token ∙ last))
  ]

  pub added_begins : Begins (tokens ++ r ∷ []) third begin
  added_begins = record {
    orderly = added_orderly;
    below = λ p e. elim (begin_cases p e) [ inl st ↦ (let lt = a.knows.below p st in let l = longer in omega arith) | inr en ↦ a.body.below p en ];
    alive = λ p e. elim (begin_cases p e) [
      | inl st ↦ grown_alive p (a.knows.alive p st)
      | inr en ↦ a.body.compiled.alive third (λ z u v. refl) back_alive p en
    ];
    lively = added_lively;
    goals = added_goals;
    goal_of = added_goal_of;
    reads = added_reads;
    is_read = added_is_read;
  }

-- the automaton of no token
pub begins_none : Begins [] [] []
begins_none = record {
  orderly = record {
    next_within = λ p b q m. absurd (let k : false ≡ true = m in cc);
    jump_within = λ p q m. absurd (let k : false ≡ true = m in cc);
    earlier = λ p q m i. absurd (let k : false ≡ true = m in cc);
  };
  below = λ p e. absurd (let k : false ≡ true = e in cc);
  alive = λ p e. absurd (let k : false ≡ true = e in cc);
  lively = λ p q x. elim x [ inl m ↦ absurd (let k : false ≡ true = m.1 in cc) | inr j ↦ absurd (let k : false ≡ true = j in cc) ];
  goals = λ g e. absurd (let k : false ≡ true = e in cc);
  goal_of = λ i lt. absurd (omega arith);
  reads = λ g w e x. absurd (let k : false ≡ true = e in cc);
  is_read = λ g w e x. absurd (let k : false ≡ true = e in cc);
}

-- a run

pub closed_goal : (net : List Spot) (live : ℕ → Bool) → ClosedUnder net live → (g p : ℕ) → live p ≡ true → Reads net g p [] → live g ≡ true
closed_goal net live closed g p h (here x) = h
closed_goal net live closed g p h (through {q = q} j r) = closed_goal net live closed g q (closed p q h j) r

pub closed_step : (net : List Spot) (live : ℕ → Bool) → ClosedUnder net live → (g p b : ℕ) (w : List ℕ) → live p ≡ true → Reads net g p (b ∷ w) → (o : ℕ) × (q : ℕ) × (live o ≡ true) × (moves (at net o) b q ≡ true) × Reads net g q w
closed_step net live closed g p b w h (over {q = q} m r) = (p, q, h, m, r)
closed_step net live closed g p b w h (through {q = q} j r) = closed_step net live closed g q b w (closed p q h j) r

pub stands_next : (tokens : List Syntax) (net : List Spot) (start : List ℕ) (live next : ℕ → Bool) (w : List ℕ) (b : ℕ) → IsNetOf tokens net start → Stands tokens net w live → IsNext net live next b → Stands tokens net (w ++ b ∷ []) next
stands_next tokens net start live next w b n s step = record {
  closed = step.closed;
  alive = λ q h. step.alive n.begins.lively q h;
  goes_on = λ g t is x.
      let y = s.goes_on g (b ∷ t) is (subst (InL (get_or tokens (goal_token (at net g)) empty)) (append_assoc w (b ∷ []) t) x) in
      let z = closed_step net live s.closed g y.0 b t y.1 y.2 in
      (z.1, step.goes z.0 z.1 z.2 z.3, z.4);
  came = λ g t is x.
      let y = step.came x.0 x.1 g t x.2 in
      subst (InL (get_or tokens (goal_token (at net g)) empty)) (sym (append_assoc w (b ∷ []) t))
      (s.came g (b ∷ t) is (y.0, y.2, over y.3 y.4));
}

pub stands_first : (tokens : List Syntax) (net : List Spot) (start : List ℕ) (live : ℕ → Bool) → IsClosed net (has start) live → IsNetOf tokens net start → Stands tokens net [] live
stands_first tokens net start live c n = record {
  closed = c.closed;
  alive = c.alive n.begins.lively (λ q h. n.begins.alive q h);
  goes_on = λ g t is x. let y = n.begins.is_read g t is x in (y.0, c.keeps y.0 y.1, y.2);
  came = λ g t is x. n.begins.reads g t is (c.came x.0 x.1 g t x.2);
}

pub stands_same : (tokens : List Syntax) (net : List Spot) (w : List ℕ) (live other : ℕ → Bool) → ((p : ℕ) → other p ≡ live p) → Stands tokens net w live → Stands tokens net w other
stands_same tokens net w live other same s = record {
  closed = λ p q h j. same q ∙ s.closed p q (sym (same p) ∙ h) j;
  alive = λ p h. s.alive p (sym (same p) ∙ h);
  goes_on = λ g t is x. let y = s.goes_on g t is x in (y.0, same y.0 ∙ y.1, y.2);
  came = λ g t is x. s.came g t is (x.0, sym (same x.0) ∙ x.1, x.2);
}
