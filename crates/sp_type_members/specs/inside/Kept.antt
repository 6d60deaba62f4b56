-- What is known stays as it is where more is known, and what waits for a member waits for it while that is unknown.
use Rattle.std.proofs.Common.{ℕ, ◌≡◌, ◌+◌, Bool, true, false, refl, sym, ap, subst, ◌∙◌, List, [], ◌∷◌, Option, Some, None}
use Rattle.std.specs.Prelude.{if◌then◌else◌, nat_lt}
use Rattle.sp_solver.specs.Rounds.{Within}
use Rattle.sp_ast.specs.Trees.{Tree}
use Rattle.sp_types.specs.Types.{Ty, word}
use Rattle.sp_types.specs.declared.words.Word.TheVariants as word_is
use Rattle.sp_typed.specs.declared.words.OneOp.{OneOp}
use Rattle.sp_typed.specs.declared.words.OneOp.TheVariants as one_is
use Rattle.sp_typed.specs.Exprs.{Expr, Exprs, leaf, one, two, three, many, exprs}
use Rattle.sp_typed.specs.Exprs as typed_is
use Rattle.sp_type_operands.specs.Literals.{seen}
use Rattle.sp_type_modules.specs.Members.{first_member}
use Rattle.sp_type_members.specs.Opens.{or_else, unanswered, open_at, open_of, open_member, open_in, open_among}

pub none_some : {A : Type 0} (o : Option A) (a : A) → o ≡ None → o ≡ Some a → ⊥
none_some o a n s = (let x : None ≡ Some a = sym n ∙ s in cc)

pub some_is : {A : Type 0} (a b : A) → Some a ≡ Some b → a ≡ b
some_is a b e = cc

pub by_option : {A : Type 0} (P : Type 0) (o : Option A) → (o ≡ None → P) → ((a : A) → o ≡ Some a → P) → P
by_option P None n s = n refl
by_option P (Some a) n s = s a refl

pub else_none : (x y : Option ℕ) → or_else x y ≡ None → (x ≡ None) × (y ≡ None)
else_none None y e = (refl, e)
else_none (Some j) y e = absurd (none_some (Some j) j e refl)

pub none_else : (x y : Option ℕ) → x ≡ None → y ≡ None → or_else x y ≡ None
none_else x y e h = ap (λ o. or_else o y) e ∙ h

pub or_none : (x : Option ℕ) → or_else x None ≡ x
or_none None = refl
or_none (Some j) = refl

pub or_assoc : (x y z : Option ℕ) → or_else (or_else x y) z ≡ or_else x (or_else y z)
or_assoc None y z = refl
or_assoc (Some j) y z = refl

-- What is made under some answers, and its first open question; and the same where more is known.
pub record Kept {X : Type 0} (g : ℕ → Option Ty) (a : X) (p : Option ℕ) (b : X) (q : Option ℕ) : Type 0 where
  pub same : p ≡ None → b ≡ a
  pub none : p ≡ None → q ≡ None
  pub waits : (j : ℕ) → p ≡ Some j → g j ≡ None → q ≡ Some j

pub kept_known : {X : Type 0} (g : ℕ → Option Ty) (a : X) → Kept g a None a None
kept_known g a = record { same = λ e. refl; none = λ e. refl; waits = λ j e n. absurd (none_some None j refl e) }

-- what is made of it
pub kept_made : {X Y : Type 0} (g : ℕ → Option Ty) (make : X → Y) (a b : X) (p q : Option ℕ) → Kept g a p b q → Kept g (make a) p (make b) q
kept_made g make a b p q k = record { same = λ e. ap make (k.same e); none = k.none; waits = k.waits }

-- one thing, and then another that hangs on it
pub kept_then : {X Y : Type 0} (g : ℕ → Option Ty) (a b : X) (p q : Option ℕ) (c d : Y) (r s : Option ℕ)
    → Kept g a p b q → (b ≡ a → Kept g c r d s) → Kept g c (or_else p r) d (or_else q s)
kept_then g a b p q c d r s k next = record {
  same = λ e. (let h = else_none p r e in (next (k.same h.0)).same h.1);
  none = λ e. (let h = else_none p r e in none_else q s (k.none h.0) ((next (k.same h.0)).none h.1));
  waits = λ j e n. by_option (or_else q s ≡ Some j) p
      (λ u. ap (λ o. or_else o s) (k.none u) ∙ (next (k.same u)).waits j (ap (λ o. or_else o r) (sym u) ∙ e) n)
      (λ i u. (
      let is : i ≡ j = some_is i j (ap (λ o. or_else o r) (sym u) ∙ e) in
      ap (λ o. or_else o s) (k.waits j (u ∙ ap Some is) n)));
}

-- two things
pub kept_both : {X Y : Type 0} (g : ℕ → Option Ty) (a b : X) (p q : Option ℕ) (c d : Y) (r s : Option ℕ)
    → Kept g a p b q → Kept g c r d s → Kept {X = X × Y} g (a, c) (or_else p r) (b, d) (or_else q s)
kept_both g a b p q c d r s k l = record {
  same = λ e. (let h = else_none p r e in ap (λ x. (x, d)) (k.same h.0) ∙ ap (λ y. (a, y)) (l.same h.1));
  none = λ e. (let h = else_none p r e in none_else q s (k.none h.0) (l.none h.1));
  waits = λ j e n. by_option (or_else q s ≡ Some j) p
      (λ u. ap (λ o. or_else o s) (k.none u) ∙ l.waits j (ap (λ o. or_else o r) (sym u) ∙ e) n)
      (λ i u. (
      let is : i ≡ j = some_is i j (ap (λ o. or_else o r) (sym u) ∙ e) in
      ap (λ o. or_else o s) (k.waits j (u ∙ ap Some is) n)));
}

module _ (list : List Tree) (count : ℕ) where
  -- a question that is open, while more is known
  pub at_kept : (f g : ℕ → Option Ty) → Within f g → (k : ℕ) → Kept {X = ℕ} g 0 (open_at count f k) 0 (open_at count g k)
  at_kept f g w k = by (nat_lt k count)
    where
      unanswered_none : (o : Option Ty) → unanswered o k ≡ None → (t : Ty) × (o ≡ Some t)
      unanswered_none None e = absurd (none_some (Some k) k e refl)
      unanswered_none (Some t) e = (t, refl)

      unanswered_some : (o : Option Ty) (j : ℕ) → unanswered o k ≡ Some j → k ≡ j
      unanswered_some None j e = some_is k j e
      unanswered_some (Some t) j e = absurd (none_some None j refl e)

      by : (b : Bool) → Kept {X = ℕ} g 0 (if b then unanswered (f k) k else None) 0 (if b then unanswered (g k) k else None)
      by false = kept_known g 0
      by true = record {
        same = λ e. refl;
        none = λ e. (let h = unanswered_none (f k) e in ap (λ o. unanswered o k) (w k h.0 h.1));
        waits = λ j e n. (let is = unanswered_some (f k) j e in ap (λ o. unanswered o k) (ap g is ∙ n) ∙ ap Some is);
      }

  of_kept : (f g : ℕ → Option Ty) → Within f g → (k : ℕ) (t : Ty) → Kept {X = ℕ} g 0 (open_of list count f k t) 0 (open_of list count g k t)
  of_kept f g w k (word (word_is.Unit n)) = at_kept f g w (first_member list n + k)
  of_kept f g w k _ = kept_known g 0

  member_kept : (f g : ℕ → Option Ty) → Within f g → (op : OneOp) (t : Ty) → Kept {X = ℕ} g 0 (open_member list count f op t) 0 (open_member list count g op t)
  member_kept f g w (one_is.Field k) t = of_kept f g w k t
  member_kept f g w (one_is.Variable k) t = of_kept f g w k t
  member_kept f g w _ t = kept_known g 0

  -- an expression that doesn't change
  mutual
    pub fixed : (f g : ℕ → Option Ty) → Within f g → (e : Expr) → Kept {X = ℕ} g 0 (open_in list count f e) 0 (open_in list count g e)
    fixed f g w (leaf h) = kept_known g 0
    fixed f g w (one h a) = kept_then g 0 0 (open_in list count f a) (open_in list count g a) 0 0 (open_member list count f h.op (seen a)) (open_member list count g h.op (seen a)) (fixed f g w a) (λ e. member_kept f g w h.op (seen a))
    fixed f g w (two h a b) = kept_then g 0 0 (open_in list count f a) (open_in list count g a) 0 0 (open_in list count f b) (open_in list count g b) (fixed f g w a) (λ e. fixed f g w b)
    fixed f g w (three h a b c) =
        kept_then g 0 0 (open_in list count f a) (open_in list count g a) 0 0 (or_else (open_in list count f b) (open_in list count f c)) (or_else (open_in list count g b) (open_in list count g c)) (fixed f g w a)
        (λ e. kept_then g 0 0 (open_in list count f b) (open_in list count g b) 0 0 (open_in list count f c) (open_in list count g c) (fixed f g w b) (λ i. fixed f g w c))
    fixed f g w (many h es) = fixed_among f g w es

    pub fixed_among : (f g : ℕ → Option Ty) → Within f g → (es : Exprs) → Kept {X = ℕ} g 0 (open_among list count f es) 0 (open_among list count g es)
    fixed_among f g w typed_is.none = kept_known g 0
    fixed_among f g w (typed_is.more e es) = kept_then g 0 0 (open_in list count f e) (open_in list count g e) 0 0 (open_among list count f es) (open_among list count g es) (fixed f g w e) (λ i. fixed_among f g w es)

  -- the first open question of a list
  abbrev pub open_all : (ℕ → Option Ty) → List Expr → Option ℕ
  open_all f [] = None
  open_all f (e ∷ es) = or_else (open_in list count f e) (open_all f es)

  -- A node made of parts in which what is open in the parts comes first.
  abbrev pub ComesFirst : {X : Type 0} → ((ℕ → Option Ty) → X → Option ℕ) → (X → Expr) → X → Type 0
  ComesFirst opens make x = (h : ℕ → Option Ty) (j : ℕ) → opens h x ≡ Some j → open_in list count h (make x) ≡ Some j

  pub kept_node : {X : Type 0} (f g : ℕ → Option Ty) → Within f g → (opens : (ℕ → Option Ty) → X → Option ℕ) (make : X → Expr) (x y : X)
      → ComesFirst opens make x → ComesFirst opens make y → Kept g x (opens f x) y (opens g y)
      → Kept g (make x) (open_in list count f (make x)) (make y) (open_in list count g (make y))
  kept_node f g w opens make x y first second k =
      let all : (o : Option ℕ) → opens f x ≡ o → open_in list count f (make x) ≡ None → opens f x ≡ None = none_of in record {
        same = λ e. ap make (k.same (all (opens f x) refl e));
        none = λ e. (let h = all (opens f x) refl e in ap (λ z. open_in list count g (make z)) (k.same h) ∙ (fixed f g w (make x)).none e);
        waits = λ j e n. by_option (open_in list count g (make y) ≡ Some j) (opens f x)
            (λ u. ap (λ z. open_in list count g (make z)) (k.same u) ∙ (fixed f g w (make x)).waits j e n)
            (λ i u. (
            let is : i ≡ j = some_is i j (sym (first f i u) ∙ e) in
            second g j (k.waits j (u ∙ ap Some is) n)));
      }
    where
      none_of : (o : Option ℕ) → opens f x ≡ o → open_in list count f (make x) ≡ None → opens f x ≡ None
      none_of None u e = u
      none_of (Some j) u e = absurd (none_some (open_in list count f (make x)) j e (first f j u))

  -- the node may be made in what stands round both
  pub kept_nodes : {X : Type 0} (f g : ℕ → Option Ty) → Within f g → (opens : (ℕ → Option Ty) → X → Option ℕ) (make remake : X → Expr) (x y : X)
      → ((z : X) → remake z ≡ make z)
      → ((z : X) → ComesFirst opens make z) → Kept g x (opens f x) y (opens g y)
      → Kept g (make x) (open_in list count f (make x)) (remake y) (open_in list count g (remake y))
  kept_nodes f g w opens make remake x y same first k =
      subst (λ z. Kept g (make x) (open_in list count f (make x)) z (open_in list count g z)) (sym (same y)) (kept_node f g w opens make x y (first x) (first y) k)

  pub fixed_kept : (f g : ℕ → Option Ty) → Within f g → (e : Expr) → Kept g e (open_in list count f e) e (open_in list count g e)
  fixed_kept f g w e = record { same = λ i. refl; none = (fixed f g w e).none; waits = (fixed f g w e).waits }
