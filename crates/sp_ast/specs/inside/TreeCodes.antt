-- Trees as codes, by which a proof tells them apart.
use Rattle.std.specs.Prelude.{◌≡◌, ℕ, refl}
use Rattle.std.specs.Coded.{Coded}
use base.Stored.{Gv, gnil, gnum, gcons}
use Rattle.std.proofs.Common.{ap}
use Rattle.sp_base.specs.declared.places.Span.{Span}
use Rattle.sp_ast.specs.declared.forms.Form.{Form}
use Rattle.sp_ast.specs.Trees.{Tree, Trees, absent, row, node, none, more}

abbrev pub span_code : Span → Gv
span_code s = gcons (gnum s.from) (gnum s.to)

abbrev mutual
  pub tree_code : Coded Form → Tree → Gv
  tree_code f absent = gnil
  tree_code f (row ts) = gcons (gnum 0) (trees_code f ts)
  tree_code f (node form span ts) = gcons (gnum 1) (gcons (f.code form) (gcons (span_code span) (trees_code f ts)))

  pub trees_code : Coded Form → Trees → Gv
  trees_code f none = gnil
  trees_code f (more t ts) = gcons (tree_code f t) (trees_code f ts)

abbrev head : Gv → Gv
head (gcons a b) = a
head _ = gnil

abbrev tail : Gv → Gv
tail (gcons a b) = b
tail _ = gnil

abbrev number : Gv → ℕ
number (gnum n) = n
number _ = 0

abbrev span_from : ℕ → ℕ → Span
span_from a b = record { from = a; to = b }

span_inj : (x y : Span) → span_code x ≡ span_code y → x ≡ y
span_inj x y p =
    let a : x.from ≡ y.from = ap (λ g. number (head g)) p in let b : x.to ≡ y.to = ap (λ g. number (tail g)) p in
    let c : span_from x.from x.to ≡ span_from y.from y.to = cc in c

mutual
  pub tree_inj : (f : Coded Form) (x y : Tree) → tree_code f x ≡ tree_code f y → x ≡ y
  tree_inj f absent absent p = refl
  tree_inj f (row xs) (row ys) p = ap row (trees_inj f xs ys (ap tail p))
  tree_inj f (node a s xs) (node b t ys) p =
      let form = f.inj a b (ap (λ g. head (tail g)) p) in
      let span = span_inj s t (ap (λ g. head (tail (tail g))) p) in
      let parts = trees_inj f xs ys (ap (λ g. tail (tail (tail g))) p) in cc
  tree_inj f x y p = cc

  trees_inj : (f : Coded Form) (x y : Trees) → trees_code f x ≡ trees_code f y → x ≡ y
  trees_inj f none none p = refl
  trees_inj f (more t xs) (more u ys) p =
      let first = tree_inj f t u (ap head p) in let rest = trees_inj f xs ys (ap tail p) in cc
  trees_inj f xs ys p = cc

abbrev pub coded_tree : Coded Form → Coded Tree
coded_tree f = record { code = tree_code f; inj = tree_inj f }
