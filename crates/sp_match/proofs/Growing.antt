-- What each part adds to the automaton.
use Rattle.std.proofs.Common.{◌≡◌, ℕ, ◌+◌, ◌<◌, ◌≤◌, ◌++◌, ◌==◌, ◌&&◌, ◌||◌, not, ◌⊎◌, Bool, true, false, List, [], ◌∷◌, length, refl, ap, sym, subst, ◌∙◌, inl, inr, arith, length-append, eqb-true, eq-eqb}
use Rattle.std.proofs.lemmas.List.{get_or_append_left, get_or_past}
use Rattle.std.specs.Global.{Vec}
use Rattle.sp_match.specs.declared.spot.Spot.{Spot}
use Rattle.sp_match.specs.declared.spot.Spot.TheVariants as spot
use Rattle.sp_match.specs.Sets.{has, HasNone, class_has}
use Rattle.sp_match.specs.Nets.{at, moves, jumps, is_jump, is_goal, Agree, Reads, Leads, Compiled, Orderly}
use Rattle.sp_regex.specs.Trees.{Syntax, followed, either, empty}
use Rattle.sp_regex.specs.Language.{InL}
use Rattle.sp_match.specs.Parts.{Below, IsCompiled, IsNamed, IsChain, Both, OneByte}
use Rattle.sp_match.proofs.Compiling.{order, before_or_not, byte_no_goal, either_true, left_true, right_true, both_true, not_both, compiled_later, compiled_none, compiled_same, compiled_empty, compiled_both, compiled_either, compiled_leaf, IsLeaf, Either, and_true, only, only_one, only_same, agree_chain, IsFront, front_named, front_compiled, compiled_dead}
use Rattle.sp_match.proofs.Looping.{IsLoop, loop_read, loop_begins}

-- one spot more

pub at_pushed : (net : List Spot) (s : Spot) → at (net ++ s ∷ []) (length net) ≡ s
at_pushed [] s = refl
at_pushed (x ∷ xs) s = at_pushed xs s

pub at_before : (net : List Spot) (s : Spot) (p : ℕ) → p < length net → at (net ++ s ∷ []) p ≡ at net p
at_before net s p lt = get_or_append_left net (s ∷ []) spot.Nothing p lt

pub length_pushed : (net : List Spot) (s : Spot) → length (net ++ s ∷ []) ≡ length net + 1
length_pushed net s = length-append net (s ∷ [])

pub at_behind : (net : List Spot) (p : ℕ) → length net ≤ p → at net p ≡ spot.Nothing
at_behind net p le = get_or_past net p spot.Nothing le

pub no_moves : (s : Spot) (b q : ℕ) → s ≡ spot.Nothing → moves s b q ≡ true → ⊥
no_moves s b q e m = absurd (let k : false ≡ true = sym (ap (λ z. moves z b q) e) ∙ m in cc)

pub no_jumps : (s : Spot) (q : ℕ) → s ≡ spot.Nothing → jumps s q ≡ true → ⊥
no_jumps s q e m = absurd (let k : false ≡ true = sym (ap (λ z. jumps z q) e) ∙ m in cc)

jumped_before : (net : List Spot) (s : Spot) → (p q : ℕ) → jumps (at (net ++ s ∷ []) p) q ≡ true → ((p < length net) × (jumps (at net p) q ≡ true)) ⊎ ((p ≡ length net) × (jumps s q ≡ true))
jumped_before net s p q m =
    let long = length_pushed net s in
    elim (order p (length net)) [
      | inl lt ↦ inl (lt, subst (λ z. jumps z q ≡ true) (at_before net s p lt) m)
      | inr ge ↦ elim ge [
        | inl e ↦ inr (e, subst (λ z. jumps z q ≡ true) (ap (at (net ++ s ∷ [])) e ∙ at_pushed net s) m)
        | inr gt ↦ absurd (no_jumps (at (net ++ s ∷ []) p) q (at_behind (net ++ s ∷ []) p (omega arith)) m)
      ]
    ]

moved_before : (net : List Spot) (s : Spot) → ((b q : ℕ) → moves s b q ≡ true → q < length net) → Orderly net → (p b q : ℕ) → moves (at (net ++ s ∷ []) p) b q ≡ true → q < length net
moved_before net s moved o p b q m =
    let long = length_pushed net s in
    elim (order p (length net)) [
      | inl lt ↦ o.next_within p b q (subst (λ z. moves z b q ≡ true) (at_before net s p lt) m)
      | inr ge ↦ elim ge [
        | inl e ↦ moved b q (subst (λ z. moves z b q ≡ true) (ap (at (net ++ s ∷ [])) e ∙ at_pushed net s) m)
        | inr gt ↦ absurd (no_moves (at (net ++ s ∷ []) p) b q (at_behind (net ++ s ∷ []) p (omega arith)) m)
      ]
    ]

-- A spot more keeps the automaton orderly where it names earlier spots.
pub orderly_pushed : (net : List Spot) (s : Spot) → ((b q : ℕ) → moves s b q ≡ true → q < length net) → ((q : ℕ) → jumps s q ≡ true → q < length net) → Orderly net → Orderly (net ++ s ∷ [])
orderly_pushed net s moved jumped o =
    let long = length_pushed net s in
    record {
      next_within = λ p b q m. let k = moved_before net s moved o p b q m in omega arith;
      jump_within = λ p q m. elim (jumped_before net s p q m) [
        | inl k ↦ (let j = o.jump_within p q k.1 in omega arith)
        | inr k ↦ (let j = jumped q k.1 in omega arith)
      ];
      earlier = λ p q m i. elim (jumped_before net s p q m) [
        | inl k ↦ (let j = o.jump_within p q k.1 in
            o.earlier p q k.1 (subst (λ z. is_jump z ≡ true) (at_before net s q j) i))
        | inr k ↦ (let j = jumped q k.1 in let e = k.0 in omega arith)
      ];
    }

pub no_goal_behind : (net : List Spot) (p : ℕ) → length net ≤ p → is_goal (at net p) ≡ true → ⊥
no_goal_behind net p le g = absurd (let k : false ≡ true = sym (ap is_goal (at_behind net p le)) ∙ g in cc)

-- the parts

pub is_nothing : (then : List ℕ) (net : List Spot) → Below then (length net) → IsCompiled (λ w. w ≡ []) then then net net
is_nothing then net below = record {
  grown = omega arith;
  kept = λ p lt. refl;
  compiled = compiled_empty then (length net) (length net) net (omega arith) below;
  orderly = λ o. o;
  below = below;
  no_goal = λ p le g. no_goal_behind net p le g;
}

pub is_none : (L : List ℕ → Type 0) (then entry : List ℕ) (net : List Spot) → HasNone entry → ((u : List ℕ) (q : ℕ) → L u → has then q ≡ true → ⊥) → IsCompiled L then entry net net
is_none L then entry net none dead = record {
  grown = omega arith;
  kept = λ p lt. refl;
  compiled = compiled_none L then entry (length net) (length net) net (omega arith) none dead;
  orderly = λ o. o;
  below = λ p h. absurd (not_both h (none p));
  no_goal = λ p le g. no_goal_behind net p le g;
}

pub is_same : (A B : List ℕ → Type 0) (then entry : List ℕ) (old new : List Spot) → ((w : List ℕ) → A w → B w) → ((w : List ℕ) → B w → A w) → IsCompiled A then entry old new → IsCompiled B then entry old new
is_same A B then entry old new forth back c = record {
  grown = c.grown;
  kept = c.kept;
  compiled = compiled_same A B then entry (length old) (length new) new forth back c.compiled;
  orderly = c.orderly;
  below = c.below;
  no_goal = c.no_goal;
}

pub is_leaf : (bytes : Vec Bool) (next : ℕ) (old : List Spot) → next < length old → (x : ℕ) → class_has bytes.items x ≡ true → IsCompiled (OneByte bytes.items) (next ∷ []) (length old ∷ []) old (old ++ spot.Byte bytes next ∷ [])
is_leaf bytes next old below x hx =
    let s : Spot = spot.Byte bytes next in
    let long : length (old ++ s ∷ []) ≡ length old + 1 = length_pushed old s in
    let leaf : IsLeaf bytes.items (next ∷ []) s = record {
      is_byte = refl;
      moved = λ x q m. let two = both_true (class_has bytes.items x) (q == next) m in (two.0, only_same next q (eqb-true q next two.1));
      moves = λ x q h k. and_true (class_has bytes.items x) (q == next) h (sym (only next q) ∙ k);
      jumped = λ q j. absurd (let k : false ≡ true = j in cc);
    } in
    record {
      grown = omega arith;
      kept = λ p lt. at_before old s p lt;
      compiled = subst (λ z. Compiled (OneByte bytes.items) (next ∷ []) (length old ∷ []) (length old) z (old ++ s ∷ [])) (sym long)
          (compiled_leaf bytes.items (next ∷ []) (length old ∷ []) (length old) (old ++ s ∷ []) (subst (λ z. IsLeaf bytes.items (next ∷ []) z) (sym (at_pushed old s)) leaf) (only (length old)) x hx next (only_same next next refl));
      orderly = λ o. orderly_pushed old s (λ b q m. let e = eqb-true q next (both_true (class_has bytes.items b) (q == next) m).1 in omega arith) (λ q j. absurd (leaf.jumped q j)) o;
      below = λ p h. let e = only_one (length old) p h in omega arith;
      no_goal = λ p le g. elim (order p (length old)) [
        | inl lt ↦ absurd (omega arith)
        | inr ge ↦ elim ge [
          | inl e ↦ byte_no_goal s refl (subst (λ z. is_goal z ≡ true) (ap (at (old ++ s ∷ [])) e ∙ at_pushed old s) g)
          | inr gt ↦ no_goal_behind (old ++ s ∷ []) p (omega arith) g
        ]
      ];
    }

pub is_both : (A B : List ℕ → Type 0) (then mid entry : List ℕ) (first second third : List Spot) → Below then (length first) → IsCompiled B then mid first second → IsCompiled A mid entry second third → IsCompiled (Both A B) then entry first third
is_both A B then mid entry first second third below cb ca =
    let one = cb.grown in let two = ca.grown in
    record {
      grown = omega arith;
      kept = λ p lt. ca.kept p (omega arith) ∙ cb.kept p lt;
      compiled = compiled_both A B then mid entry (length first) (length second) (length third) third one two below
          (compiled_later B then mid (length first) (length second) second third (λ p _ lt. ca.kept p lt) cb.compiled) ca.compiled;
      orderly = λ o. ca.orderly (cb.orderly o);
      below = ca.below;
      no_goal = λ p le g. elim (before_or_not p (length second)) [
        | inl lt ↦ cb.no_goal p le (ap is_goal (sym (ca.kept p lt)) ∙ g)
        | inr ge ↦ ca.no_goal p ge g
      ];
    }

pub is_either : (A B : List ℕ → Type 0) (then one two entry : List ℕ) (first second third : List Spot) → Below then (length first) → ((p : ℕ) → has entry p ≡ (has one p || has two p)) → IsCompiled A then one first second → IsCompiled B then two second third → IsCompiled (Either A B) then entry first third
is_either A B then one two entry first second third below is ca cb =
    let g = ca.grown in let h = cb.grown in
    record {
      grown = omega arith;
      kept = λ p lt. cb.kept p (omega arith) ∙ ca.kept p lt;
      compiled = compiled_either A B then one two entry (length first) (length second) (length third) third g h below is
          (compiled_later A then one (length first) (length second) second third (λ p _ lt. cb.kept p lt) ca.compiled) cb.compiled;
      orderly = λ o. cb.orderly (ca.orderly o);
      below = λ p x. elim (either_true (has one p) (has two p) (sym (is p) ∙ x)) [
        | inl k ↦ (let lt = ca.below p k in omega arith)
        | inr k ↦ cb.below p k
      ];
      no_goal = λ p le g. elim (before_or_not p (length second)) [
        | inl lt ↦ ca.no_goal p le (ap is_goal (sym (cb.kept p lt)) ∙ g)
        | inr ge ↦ cb.no_goal p ge g
      ];
    }

pub below_later : (set : List ℕ) (a b : ℕ) → a ≤ b → Below set a → Below set b
below_later set a b le below = λ p h. let lt = below p h in omega arith

-- rows of parts

pub named_same : (set : List ℕ) (a b : ℕ) (net : List Spot) → Below set b → IsNamed set set a b net
named_same set a b net below = record {
  below = below;
  none = λ none. none;
  forth = λ other h g w r. r;
  back = λ other h g w r. r;
  alive = λ other h live. live;
}

pub named_later : (begin entry : List ℕ) (a b : ℕ) (net later : List Spot) → Agree net later a b → IsNamed begin entry a b net → IsNamed begin entry a b later
named_later begin entry a b net later same n = record {
  below = n.below;
  none = n.none;
  forth = λ other h. n.forth other (agree_chain net later other a b same h);
  back = λ other h. n.back other (agree_chain net later other a b same h);
  alive = λ other h. n.alive other (agree_chain net later other a b same h);
}

pub chain_of : (r : Syntax) (then : ℕ) (entry : List ℕ) (first net : List Spot) → then < length first → IsCompiled (InL r) (then ∷ []) entry first net → IsChain r then entry entry first net
chain_of r then entry first net lt c = record { behind = lt; compiled = c; named = named_same entry (length first) (length net) net c.below }

pub chain_none : (then : ℕ) (net : List Spot) → then < length net → IsChain empty then (then ∷ []) (then ∷ []) net net
chain_none then net lt = chain_of empty then (then ∷ []) net net lt (is_nothing (then ∷ []) net (λ p h. let e = only_one then p h in omega arith))

pub chain_same : (r s : Syntax) (then : ℕ) (entry begin : List ℕ) (first net : List Spot) → ((w : List ℕ) → InL r w → InL s w) → ((w : List ℕ) → InL s w → InL r w) → IsChain r then entry begin first net → IsChain s then entry begin first net
chain_same r s then entry begin first net forth back c = record {
  behind = c.behind;
  compiled = is_same (InL r) (InL s) (then ∷ []) entry first net forth back c.compiled;
  named = c.named;
}

-- a part in front
pub chain_front : (part r : Syntax) (then v : ℕ) (mid begin entry : List ℕ) (first second third : List Spot) → IsChain r then mid (v ∷ []) first second → IsCompiled (InL part) (v ∷ []) begin second third → ((p : ℕ) → has entry p ≡ ((has begin p && not (p == v)) || (has begin v && has mid p))) → IsChain (followed part r) then entry begin first third
chain_front part r then v mid begin entry first second third c e is =
    let lt = c.behind in let one = c.compiled.grown in let two = e.grown in
    let same : Agree second third (length first) (length second) = λ p _ below. e.kept p below in
    let f : IsFront (InL part) (InL r) (then ∷ []) v mid begin entry (length first) (length second) (length third) third = record {
      first = one;
      second = two;
      below = λ p h. let k = only_one then p h in omega arith;
      row = compiled_later (InL r) (then ∷ []) mid (length first) (length second) second third same c.compiled.compiled;
      stands = named_later (v ∷ []) mid (length first) (length second) second third same c.named;
      part = e.compiled;
      is = is;
    } in
    record {
      behind = lt;
      compiled = record {
        grown = omega arith;
        kept = λ p less. e.kept p (omega arith) ∙ c.compiled.kept p less;
        compiled = front_compiled f;
        orderly = λ o. e.orderly (c.compiled.orderly o);
        below = λ p h. elim (either_true (has begin p && not (p == v)) (has begin v && has mid p) (sym (is p) ∙ h)) [
          | inl k ↦ e.below p (both_true (has begin p) (not (p == v)) k).0
          | inr k ↦ (let less = c.compiled.below p (both_true (has begin v) (has mid p) k).1 in omega arith)
        ];
        no_goal = λ p le g. elim (before_or_not p (length second)) [
          | inl less ↦ c.compiled.no_goal p le (ap is_goal (sym (e.kept p less)) ∙ g)
          | inr ge ↦ e.no_goal p ge g
        ];
      };
      named = front_named f e.below;
    }

-- a part in front of what reads nothing
pub chain_dead : (part r : Syntax) (then : ℕ) (entry : List ℕ) (first net : List Spot) → IsChain r then entry [] first net → IsChain (followed part r) then entry [] first net
chain_dead part r then entry first net c = record {
  behind = c.behind;
  compiled = record {
    grown = c.compiled.grown;
    kept = c.compiled.kept;
    compiled = compiled_dead (InL part) (InL r) (then ∷ []) entry [] (length first) (length net) net c.compiled.compiled c.named (λ p. refl);
    orderly = c.compiled.orderly;
    below = c.compiled.below;
    no_goal = c.compiled.no_goal;
  };
  named = c.named;
}

-- or nothing
pub chain_or : (r : Syntax) (then : ℕ) (entry begin all set : List ℕ) (first net : List Spot) → ((p : ℕ) → has all p ≡ (has entry p || (p == then))) → ((p : ℕ) → has set p ≡ (has begin p || (p == then))) → IsChain r then entry begin first net → IsChain (either r empty) then all set first net
chain_or r then entry begin all set first net is begin_is c =
    let lt = c.behind in
    let low : Below (then ∷ []) (length first) = λ p h. let k = only_one then p h in omega arith in
    let g = c.compiled.grown in
    let n = c.named in
    let forth : (z : List ℕ) (y : List ℕ) → ((p : ℕ) → has z p ≡ (has y p || (p == then))) → (p : ℕ) → has z p ≡ (has y p || has (then ∷ []) p) = λ z y same p. same p ∙ ap (λ x. has y p || x) (sym (only then p)) in
    record {
      behind = lt;
      compiled = is_same (Either (InL r) (InL empty)) (InL (either r empty)) (then ∷ []) all first net (λ w x. x) (λ w x. x)
          (is_either (InL r) (InL empty) (then ∷ []) entry (then ∷ []) all first net net low (forth all entry is) c.compiled (is_nothing (then ∷ []) net (below_later (then ∷ []) (length first) (length net) g low)));
      named = record {
        below = λ p h. elim (either_true (has begin p) (p == then) (sym (begin_is p) ∙ h)) [ inl k ↦ n.below p k | inr k ↦ (let e = eqb-true p then k in omega arith) ];
        none = λ none. absurd (not_both (begin_is then ∙ right_true (has begin then) (then == then) (eq-eqb then then refl)) (none then));
        forth = λ other h k w r. elim (either_true (has begin r.0) (r.0 == then) (sym (begin_is r.0) ∙ r.1)) [
          | inl x ↦ (let y = n.forth other h k w (r.0, x, r.2) in (y.0, is y.0 ∙ left_true (has entry y.0) (y.0 == then) y.1, y.2))
          | inr x ↦ (r.0, is r.0 ∙ right_true (has entry r.0) (r.0 == then) x, r.2)
        ];
        back = λ other h k w r. elim (either_true (has entry r.0) (r.0 == then) (sym (is r.0) ∙ r.1)) [
          | inl x ↦ (let y = n.back other h k w (r.0, x, r.2) in (y.0, begin_is y.0 ∙ left_true (has begin y.0) (y.0 == then) y.1, y.2))
          | inr x ↦ (r.0, begin_is r.0 ∙ right_true (has begin r.0) (r.0 == then) x, r.2)
        ];
        alive = λ other h live p k. elim (either_true (has begin p) (p == then) (sym (begin_is p) ∙ k)) [
          | inl x ↦ n.alive other h (λ q y. live q (is q ∙ left_true (has entry q) (q == then) y)) p x
          | inr x ↦ live p (is p ∙ right_true (has entry p) (p == then) x)
        ];
      };
    }

pub jump_loops : (jump : Vec ℕ) → IsLoop jump.items (spot.Jump jump)
jump_loops jump = record {
  jumps = λ q. refl;
  no_goal = λ h. absurd (let k : false ≡ true = h in cc);
  no_move = λ x q h. absurd (let k : false ≡ true = h in cc);
}

-- one spot that jumps to all of a set
pub chain_named : (r : Syntax) (then : ℕ) (entry : List ℕ) (set : Vec ℕ) (first net : List Spot) → (q : ℕ) → has set.items q ≡ true → IsChain r then entry set.items first net → IsChain r then entry (length net ∷ []) first (net ++ spot.Jump set ∷ [])
chain_named r then entry set first net some has_some c =
    let s : Spot = spot.Jump set in
    let later : List Spot = net ++ s ∷ [] in
    let v = length net in
    let long : length later ≡ length net + 1 = length_pushed net s in
    let g = c.compiled.grown in
    let n = c.named in
    let same : Agree net later (length first) (length net) = λ p _ lt. at_before net s p lt in
    let old = compiled_later (InL r) (then ∷ []) entry (length first) (length net) net later same c.compiled.compiled in
    let stands = named_later set.items entry (length first) (length net) net later same n in
    let early : (other : List Spot) → Agree later other (length first) (length later) → Agree later other (length first) (length net) = λ other h p x y. h p x (omega arith) in
    let here : (other : List Spot) → Agree later other (length first) (length later) → at other v ≡ s = λ other h. h v g (omega arith) ∙ at_pushed net s in
    record {
      behind = c.behind;
      compiled = record {
        grown = omega arith;
        kept = λ p lt. at_before net s p (omega arith) ∙ c.compiled.kept p lt;
        compiled = record {
          spots = λ p h. elim (old.spots p h) [ inl k ↦ inl k | inr k ↦ inr (k.0, let lt = k.1 in omega arith, k.2) ];
          reads = λ other h. old.reads other (early other h);
          is_read = λ other h. old.is_read other (early other h);
          alive = λ other h. old.alive other (early other h);
          lively = λ other h live p q low high x. elim (before_or_not p (length net)) [
            | inl lt ↦ old.lively other (early other h) live p q low lt x
            | inr ge ↦ (let e : p ≡ v = omega arith in
                elim (subst (λ z. Leads z q) (ap (at later) e ∙ at_pushed net s) x) [
                  | inl m ↦ absurd (let k : false ≡ true = m.1 in cc)
                  | inr j ↦ stands.alive other (early other h) (old.alive other (early other h) live) q j
                ])
          ];
        };
        orderly = λ o. orderly_pushed net s (λ b q m. absurd (let k : false ≡ true = m in cc)) (λ q j. n.below q j) (c.compiled.orderly o);
        below = λ p h. let lt = c.compiled.below p h in omega arith;
        no_goal = λ p le h. elim (order p (length net)) [
          | inl lt ↦ c.compiled.no_goal p le (ap is_goal (sym (at_before net s p lt)) ∙ h)
          | inr ge ↦ elim ge [
            | inl e ↦ absurd (let k : false ≡ true = sym (ap is_goal (ap (at later) e ∙ at_pushed net s)) ∙ h in cc)
            | inr gt ↦ no_goal_behind later p (omega arith) h
          ]
        ];
      };
      named = record {
        below = λ p h. let e = only_one v p h in omega arith;
        none = λ none. absurd (not_both (only_same v v refl) (none v));
        forth = λ other h k w x. stands.forth other (early other h) k w (loop_read set.items v other s (here other h) (jump_loops set) k w (subst (λ z. Reads other k z w) (only_one v x.0 x.1) x.2));
        back = λ other h k w x. (v, only_same v v refl, loop_begins set.items v other s (here other h) (jump_loops set) k w (stands.back other (early other h) k w x));
        alive = λ other h live p k.
            let y = stands.alive other (early other h) live some has_some in
            (y.0, y.1, subst (λ z. Reads other y.0 z y.1) (sym (only_one v p k)) (loop_begins set.items v other s (here other h) (jump_loops set) y.0 y.1 (some, has_some, y.2)));
      };
    }
