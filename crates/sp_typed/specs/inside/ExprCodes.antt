-- Expressions as codes, by which a proof tells them apart, and their sizes.
use Rattle.std.specs.Prelude.{ℕ, ◌≡◌, ◌+◌, refl}
use Rattle.std.specs.Coded.{Coded}
use base.Stored.{Gv, gnil, gnum, gcons}
use Rattle.std.proofs.Common.{ap}
use Rattle.sp_typed.specs.declared.heads.Leaf.{Leaf}
use Rattle.sp_typed.specs.declared.heads.One.{One}
use Rattle.sp_typed.specs.declared.heads.Two.{Two}
use Rattle.sp_typed.specs.declared.heads.Three.{Three}
use Rattle.sp_typed.specs.declared.heads.Many.{Many}
use Rattle.sp_typed.specs.Exprs.{Expr, Exprs, leaf, one, two, three, many, none, more}

-- how many expressions stand inside one
abbrev mutual
  pub expr_size : Expr → ℕ
  expr_size (leaf h) = 0
  expr_size (one h a) = expr_size a + 1
  expr_size (two h a b) = expr_size a + expr_size b + 1
  expr_size (three h a b c) = expr_size a + expr_size b + expr_size c + 1
  expr_size (many h es) = exprs_size es

  pub exprs_size : Exprs → ℕ
  exprs_size none = 0
  exprs_size (more e es) = expr_size e + 1 + exprs_size es

abbrev mutual
  pub expr_code : Coded Leaf → Coded One → Coded Two → Coded Three → Coded Many → Expr → Gv
  expr_code l o w t m (leaf x) = gcons (gnum 0) (l.code x)
  expr_code l o w t m (one x a) = gcons (gnum 1) (gcons (o.code x) (expr_code l o w t m a))
  expr_code l o w t m (two x a b) = gcons (gnum 2) (gcons (w.code x) (gcons (expr_code l o w t m a) (expr_code l o w t m b)))
  expr_code l o w t m (three x a b c) = gcons (gnum 3) (gcons (t.code x) (gcons (expr_code l o w t m a) (gcons (expr_code l o w t m b) (expr_code l o w t m c))))
  expr_code l o w t m (many x es) = gcons (gnum 4) (gcons (m.code x) (exprs_code l o w t m es))

  pub exprs_code : Coded Leaf → Coded One → Coded Two → Coded Three → Coded Many → Exprs → Gv
  exprs_code l o w t m none = gnil
  exprs_code l o w t m (more e es) = gcons (expr_code l o w t m e) (exprs_code l o w t m es)

abbrev head : Gv → Gv
head (gcons a b) = a
head _ = gnil

abbrev tail : Gv → Gv
tail (gcons a b) = b
tail _ = gnil

mutual
  pub expr_inj : (l : Coded Leaf) (o : Coded One) (w : Coded Two) (t : Coded Three) (m : Coded Many) (x y : Expr) → expr_code l o w t m x ≡ expr_code l o w t m y → x ≡ y
  expr_inj l o w t m (leaf x) (leaf y) p = ap leaf (l.inj x y (ap tail p))
  expr_inj l o w t m (one x a) (one y b) p =
      let q = o.inj x y (ap (λ g. head (tail g)) p) in
      let r = expr_inj l o w t m a b (ap (λ g. tail (tail g)) p) in cc
  expr_inj l o w t m (two x a b) (two y c d) p =
      let q = w.inj x y (ap (λ g. head (tail g)) p) in
      let r = expr_inj l o w t m a c (ap (λ g. head (tail (tail g))) p) in
      let s = expr_inj l o w t m b d (ap (λ g. tail (tail (tail g))) p) in cc
  expr_inj l o w t m (three x a b c) (three y d e f) p =
      let q = t.inj x y (ap (λ g. head (tail g)) p) in
      let r = expr_inj l o w t m a d (ap (λ g. head (tail (tail g))) p) in
      let s = expr_inj l o w t m b e (ap (λ g. head (tail (tail (tail g)))) p) in
      let u = expr_inj l o w t m c f (ap (λ g. tail (tail (tail (tail g)))) p) in cc
  expr_inj l o w t m (many x es) (many y fs) p =
      let q = m.inj x y (ap (λ g. head (tail g)) p) in
      let r = exprs_inj l o w t m es fs (ap (λ g. tail (tail g)) p) in cc
  expr_inj l o w t m x y p = cc

  pub exprs_inj : (l : Coded Leaf) (o : Coded One) (w : Coded Two) (t : Coded Three) (m : Coded Many) (xs ys : Exprs) → exprs_code l o w t m xs ≡ exprs_code l o w t m ys → xs ≡ ys
  exprs_inj l o w t m none none p = refl
  exprs_inj l o w t m (more x xs) (more y ys) p =
      let q = expr_inj l o w t m x y (ap head p) in
      let r = exprs_inj l o w t m xs ys (ap tail p) in cc
  exprs_inj l o w t m xs ys p = cc

abbrev pub coded_expr : Coded Leaf → Coded One → Coded Two → Coded Three → Coded Many → Coded Expr
coded_expr l o w t m = record { code = expr_code l o w t m; inj = expr_inj l o w t m }
