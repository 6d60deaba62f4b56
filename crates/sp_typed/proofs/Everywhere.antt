-- A test at each node is a test at the first one and at those of each part.
use Rattle.std.specs.Prelude.{◌&&◌}
use Rattle.std.specs.List.{list_all}
use Rattle.std.proofs.Common.{◌≡◌, Bool, true, false, refl, ap, ◌∙◌, List, ◌++◌}
use Rattle.std.proofs.lemmas.List.Folds.{list_all-append}
use Rattle.sp_typed.specs.Exprs.{Expr, Exprs, leaf, one, two, three, many, none, more}
use Rattle.sp_typed.specs.Nodes.{nodes, all_nodes, holds, all_hold}

and_true : (b : Bool) → (b && true) ≡ b
and_true true = refl
and_true false = refl

pub joined : (p : Expr → Bool) (xs ys : List Expr) {a b : Bool} → list_all p xs ≡ a → list_all p ys ≡ b → list_all p (xs ++ ys) ≡ (a && b)
joined p xs ys g h = list_all-append p xs ys ∙ (rw (g, h) refl)

mutual
  pub holds_everywhere : (p : Expr → Bool) (e : Expr) → list_all p (nodes e) ≡ holds p e
  holds_everywhere p (leaf h) = and_true (p (leaf h))
  holds_everywhere p (one h a) = ap (λ z. p (one h a) && z) (holds_everywhere p a)
  holds_everywhere p (two h a b) = ap (λ z. p (two h a b) && z) (joined p (nodes a) (nodes b) (holds_everywhere p a) (holds_everywhere p b))
  holds_everywhere p (three h a b c) =
      ap (λ z. p (three h a b c) && z) (joined p (nodes a) (nodes b ++ nodes c) (holds_everywhere p a) (joined p (nodes b) (nodes c) (holds_everywhere p b) (holds_everywhere p c)))
  holds_everywhere p (many h es) = ap (λ z. p (many h es) && z) (all_everywhere p es)

  pub all_everywhere : (p : Expr → Bool) (es : Exprs) → list_all p (all_nodes es) ≡ all_hold p es
  all_everywhere p none = refl
  all_everywhere p (more e es) = joined p (nodes e) (all_nodes es) (holds_everywhere p e) (all_everywhere p es)
