-- What the fold of `better` tells.
use Rattle.std.specs.Prelude.{◌==◌, nat_lt, nat_le, if◌then◌else◌}
use Rattle.std.proofs.Common.{ℕ, ◌≡◌, ◌≤◌, ◌⊎◌, Bool, true, false, List, [], ◌∷◌, ◌++◌, Option, Some, None, refl, sym, ap, subst, ◌∙◌, arith, inl, inr}
use Rattle.std.proofs.lemmas.Bool.Decides.{nat_tests}
use Rattle.sp_rules.specs.declared.fault.Fault.{Fault}
use Rattle.sp_rules.specs.Rules.{rule_number, rule_group}
use Rattle.sp_rules.specs.Least.{precedes, better, noted, IsLeast, Among, checked, broken, of_groups}

pub noted-append : (o : Option Fault) (xs ys : List Fault) → noted o (xs ++ ys) ≡ noted (noted o xs) ys
noted-append o [] ys = refl
noted-append o (x ∷ xs) ys = noted-append (better o x) xs ys

-- a fault's keys, and the comparison of keys
abbrev by_keys : (a b c d p q r s : ℕ) → Bool
by_keys a b c d p q r s = if a == p then (if b == q then (if c == r then nat_lt d s else nat_lt c r) else nat_lt b q) else nat_lt a p

keys_self : (a b c d : ℕ) → by_keys a b c d a b c d ≡ false
keys_self a b c d = grind (arith, nat_tests)

-- by one key, and then by the rest
abbrev then_by : ℕ → ℕ → Bool → Bool
then_by a p rest = if a == p then rest else nat_lt a p

then_not_before : (a p x : ℕ) (r s t : Bool) → (r ≡ false → s ≡ false → t ≡ false) → then_by a p r ≡ false → then_by p x s ≡ false → then_by a x t ≡ false
then_not_before a p x true true true h k l = grind (arith, nat_tests)
then_not_before a p x true true false h k l = grind (arith, nat_tests)
then_not_before a p x true false true h k l = grind (arith, nat_tests)
then_not_before a p x true false false h k l = grind (arith, nat_tests)
then_not_before a p x false true true h k l = grind (arith, nat_tests)
then_not_before a p x false true false h k l = grind (arith, nat_tests)
then_not_before a p x false false true h k l = (let e : true ≡ false = h refl refl in let b : ⊥ = (cc) in absurd b)
then_not_before a p x false false false h k l = grind (arith, nat_tests)

keys_not_before : (a b c d p q r s x y z w : ℕ) → by_keys a b c d p q r s ≡ false → by_keys p q r s x y z w ≡ false → by_keys a b c d x y z w ≡ false
keys_not_before a b c d p q r s x y z w =
    then_not_before a p x _ _ _ (then_not_before b q y _ _ _ (then_not_before c r z _ _ _ (λ h k. grind (arith, nat_tests))))

keys_not_both : (a b c d p q r s : ℕ) → by_keys a b c d p q r s ≡ true → by_keys p q r s a b c d ≡ false
keys_not_both a b c d p q r s h = grind (arith, nat_tests)

earlier_keys : (a b c d p q r s k : ℕ) → a ≤ k → nat_le p k ≡ false → by_keys a b c d p q r s ≡ true
earlier_keys a b c d p q r s k le e = grind (arith, nat_tests)

before_self : (f : Fault) → precedes f f ≡ false
before_self f = keys_self (rule_group f.rule) f.«module» f.span.from (rule_number f.rule)

not_before : (g m f : Fault) → precedes g m ≡ false → precedes m f ≡ false → precedes g f ≡ false
not_before g m f h k = keys_not_before (rule_group g.rule) g.«module» g.span.from (rule_number g.rule) (rule_group m.rule) m.«module» m.span.from (rule_number m.rule) (rule_group f.rule) f.«module» f.span.from (rule_number f.rule) h k

not_both : (g m : Fault) → precedes g m ≡ true → precedes m g ≡ false
not_both g m h = keys_not_both (rule_group g.rule) g.«module» g.span.from (rule_number g.rule) (rule_group m.rule) m.«module» m.span.from (rule_number m.rule) h

-- the least so far and the rest
record Held (g : Fault) (fs : List Fault) (f : Fault) : Type 0 where
  stands : (g ≡ f) ⊎ Among fs f
  old : precedes g f ≡ false
  rest : (x : Fault) → Among fs x → precedes x f ≡ false

held_new : (g x : Fault) (fs : List Fault) (f : Fault) → precedes x g ≡ true → Held x fs f → Held g (x ∷ fs) f
held_new g x fs f e h = record {
  stands = inr h.stands;
  old = not_before g x f (not_both x g e) h.old;
  rest = λ y among. elim among [ inl is ↦ subst (λ z. precedes z f ≡ false) is h.old | inr later ↦ h.rest y later ];
}

held_old : (g x : Fault) (fs : List Fault) (f : Fault) → precedes x g ≡ false → Held g fs f → Held g (x ∷ fs) f
held_old g x fs f e h = record {
  stands = elim h.stands [ inl is ↦ inl is | inr later ↦ inr (inr later) ];
  old = h.old;
  rest = λ y among. elim among [ inl is ↦ subst (λ z. precedes z f ≡ false) is (not_before x g f e h.old) | inr later ↦ h.rest y later ];
}

held : (g : Fault) (fs : List Fault) → (f : Fault) × (noted (Some g) fs ≡ Some f) × Held g fs f
held g [] = (g, refl, record { stands = inl refl; old = before_self g; rest = λ x h. elim h [ ] })
held g (x ∷ fs) =
    elim (precedes x g) as (λ b. precedes x g ≡ b → (f : Fault) × (noted (Some (if b then x else g)) fs ≡ Some f) × Held g (x ∷ fs) f) [
      | true ↦ λ e. (let r = held x fs in (r.0, r.1, held_new g x fs r.0 e r.2))
      | false ↦ λ e. (let r = held g fs in (r.0, r.1, held_old g x fs r.0 e r.2))
    ] refl

-- the fold gives the least of the list
pub noted_is_least : (fs : List Fault) → IsLeast (Among fs) (noted None fs)
noted_is_least [] = λ f h. h
noted_is_least (x ∷ fs) =
    let r = held x fs in
    subst (IsLeast (Among (x ∷ fs))) (sym r.1) (r.2.stands, λ g among. elim among [ inl is ↦ subst (λ z. precedes z r.0 ≡ false) is r.2.old | inr later ↦ r.2.rest g later ])

-- what is least of one set is least of an equal one
pub least_of_same : (P Q : Fault → Type 0) (o : Option Fault) → ((f : Fault) → P f → Q f) → ((f : Fault) → Q f → P f) → IsLeast P o → IsLeast Q o
least_of_same P Q None to from h = λ f q. h f (from f q)
least_of_same P Q (Some f) to from h = (to f h.0, λ g q. h.1 g (from g q))

pub checked-append : (o : Option Fault) (xs ys : List (Bool × Fault)) → checked o (xs ++ ys) ≡ checked (checked o xs) ys
checked-append o [] ys = refl
checked-append o (x ∷ xs) ys = checked-append (if x.0 then better o x.1 else o) xs ys

checked_head : (o : Option Fault) (b : Bool) (f : Fault) (fs : List Fault) → noted (if b then better o f else o) fs ≡ noted o (if b then f ∷ fs else fs)
checked_head o true f fs = refl
checked_head o false f fs = refl

pub checked_is_noted : (o : Option Fault) (cs : List (Bool × Fault)) → checked o cs ≡ noted o (broken cs)
checked_is_noted o [] = refl
checked_is_noted o (c ∷ cs) = checked_is_noted (if c.0 then better o c.1 else o) cs ∙ checked_head o c.0 c.1 (broken cs)

head_broken : (b : Bool) (g : Fault) (fs : List Fault) (f : Fault) → Among (if b then g ∷ fs else fs) f → ((b ≡ true) × (g ≡ f)) ⊎ Among fs f
head_broken true g fs f h = elim h [ inl e ↦ inl (refl, e) | inr r ↦ inr r ]
head_broken false g fs f h = inr h

broken_head : (b : Bool) (g : Fault) (fs : List Fault) (f : Fault) → ((b ≡ true) × (g ≡ f)) ⊎ Among fs f → Among (if b then g ∷ fs else fs) f
broken_head true g fs f h = elim h [ inl e ↦ inl e.1 | inr r ↦ inr r ]
broken_head false g fs f h = elim h [ inl e ↦ (let x : ⊥ = (cc) in absurd x) | inr r ↦ r ]

-- a fault is among the broken ones where its test holds
pub among_broken : (cs : List (Bool × Fault)) (f : Fault) → Among (broken cs) f → Among cs (true, f)
among_broken [] f h = h
among_broken (c ∷ cs) f h = elim (head_broken c.0 c.1 (broken cs) f h) [ inl e ↦ inl (pair_is c f e.0 e.1) | inr r ↦ inr (among_broken cs f r) ]
  where
    pair_is : (c : Bool × Fault) (f : Fault) → c.0 ≡ true → c.1 ≡ f → c ≡ (true, f)
    pair_is (b, g) f d e = cc

pub broken_among : (cs : List (Bool × Fault)) (f : Fault) → Among cs (true, f) → Among (broken cs) f
broken_among [] f h = h
broken_among (c ∷ cs) f h = broken_head c.0 c.1 (broken cs) f (elim h [ inl e ↦ inl (ap (λ x. x.0) e, ap (λ x. x.1) e) | inr r ↦ inr (broken_among cs f r) ])

pub checked_is_least : (cs : List (Bool × Fault)) → IsLeast (λ f. Among cs (true, f)) (checked None cs)
checked_is_least cs = subst (IsLeast (λ f. Among cs (true, f))) (sym (checked_is_noted None cs)) (least_of_same (Among (broken cs)) (λ f. Among cs (true, f)) (noted None (broken cs)) (among_broken cs) (broken_among cs) (noted_is_least (broken cs)))

-- the rules of the groups up to k alone: the least of all is theirs where it is of such a group, and else none of theirs is broken
pub least_of_groups : (P : Fault → Type 0) (k : ℕ) (o : Option Fault) → IsLeast P o → IsLeast (λ f. P f × (rule_group f.rule ≤ k)) (of_groups k o)
least_of_groups P k None h = λ f b. h f b.0
least_of_groups P k (Some f) h =
    elim (nat_le (rule_group f.rule) k) as (λ b. nat_le (rule_group f.rule) k ≡ b → IsLeast (λ g. P g × (rule_group g.rule ≤ k)) (if b then Some f else None)) [
      | true ↦ λ e. (let le : rule_group f.rule ≤ k = grind (arith, nat_tests) in ((h.0, le), λ g b. h.1 g b.0))
      | false ↦ λ e. λ g b. (let p : precedes g f ≡ true = earlier g f k b.1 e in let n = h.1 g b.0 in let x : ⊥ = (cc) in x)
    ] refl
  where
    earlier : (g f : Fault) (k : ℕ) → rule_group g.rule ≤ k → nat_le (rule_group f.rule) k ≡ false → precedes g f ≡ true
    earlier g f k le e = earlier_keys (rule_group g.rule) g.«module» g.span.from (rule_number g.rule) (rule_group f.rule) f.«module» f.span.from (rule_number f.rule) k le e
