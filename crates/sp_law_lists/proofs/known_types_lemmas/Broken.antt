-- Where no rule is broken, each node is clear.
use Rattle.std.specs.Prelude.{ℕ, Bool, true, false, not, ◌&&◌, List, [], ◌∷◌}
use Rattle.std.specs.List.{list_all}
use Rattle.std.proofs.Common.{◌≡◌, inl, inr, refl, sym, ap, ◌∙◌}
use Rattle.std.proofs.lemmas.Bool.{and_parts, and_from}
use Rattle.sp_rules.specs.declared.fault.Fault.{Fault}
use Rattle.sp_rules.specs.Least.{Among}
use Rattle.sp_typed.specs.declared.words.OneOp.{OneOp}
use Rattle.sp_typed.specs.Exprs.{Expr}
use Rattle.sp_typed.specs.Nodes.{nodes, holds}
use Rattle.sp_typed.proofs.Everywhere.{holds_everywhere}
use Rattle.sp_rule_bodies.specs.Known.{Known}
use Rattle.sp_rule_bodies.specs.ExprTests.{expr_tests}
use Rattle.sp_rule_bodies.specs.Sweeps.{Breaks}
use Rattle.sp_law_lists.specs.known_types.Clear.{none_hold, names_something, may_stand, is_clear}

-- no test holds where no fault is found
none_by : (b : Bool) (f : Fault) (cs : List (Bool × Fault)) → (((g : Fault) → Among cs (true, g) → ⊥) → none_hold cs ≡ true) → ((g : Fault) → Among ((b, f) ∷ cs) (true, g) → ⊥) → (not b && none_hold cs) ≡ true
none_by true f cs rest h = absurd (h f (inl refl))
none_by false f cs rest h = rest (λ g a. h g (inr a))

none_from : (cs : List (Bool × Fault)) → ((g : Fault) → Among cs (true, g) → ⊥) → none_hold cs ≡ true
none_from [] h = refl
none_from (c ∷ cs) h = none_by c.0 c.1 cs (none_from cs) h

-- a test at each of a list
all_from : {X : Type 0} (p : X → Bool) (xs : List X) → ((x : X) → Among xs x → p x ≡ true) → list_all p xs ≡ true
all_from p [] h = refl
all_from p (x ∷ xs) h = and_from (p x) (list_all p xs) (h x (inl refl)) (all_from p xs (λ y a. h y (inr a)))

among_all : {X : Type 0} (p : X → Bool) (xs : List X) (x : X) → list_all p xs ≡ true → Among xs x → p x ≡ true
among_all p [] x e a = elim a [ ]
among_all p (y ∷ xs) x e a =
    let q = and_parts (p y) (list_all p xs) e in
    elim a [
      | inl s ↦ sym (ap p s) ∙ q.0
      | inr r ↦ among_all p xs x q.1 r
    ]

at_node : (p : Expr → Bool) (e n : Expr) → holds p e ≡ true → Among (nodes e) n → p n ≡ true
at_node p e n h a = among_all p (nodes e) n (holds_everywhere p e ∙ h) a

pub clear_where : (only : OneOp → Bool) (k : Known) (m : ℕ) (e : Expr) → holds names_something e ≡ true → holds (may_stand only) e ≡ true → ((f : Fault) → Breaks k m e f → ⊥) → holds (is_clear only k m) e ≡ true
clear_where only k m e names types broken =
    sym (holds_everywhere (is_clear only k m) e)
    ∙ all_from (is_clear only k m) (nodes e) (λ n a.
    and_from (names_something n) (may_stand only n && none_hold (expr_tests k m n)) (at_node names_something e n names a)
    (and_from (may_stand only n) (none_hold (expr_tests k m n)) (at_node (may_stand only) e n types a) (none_from (expr_tests k m n) (λ f b. broken f (n, a, b)))))
