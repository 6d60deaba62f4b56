-- Kinds as codes, by which a proof tells them apart.
use Rattle.std.specs.Prelude.{◌≡◌, ℕ, refl}
use base.Stored.{Gv, gnil, gnum, gcons, Coded}
use Rattle.std.proofs.Common.{ap, arith}
use Rattle.sp_methods.specs.Kinds.{Kind, Kinds, Void, Bools, Unsigned, Signed, Bytes, Text, Iterator, Only, EnumOf, UnitOf, BitsOf, TupleOf, VectorOf, SetOf, MapOf, no_kinds, kind_and}

abbrev mutual
  kind_code : Kind → Gv
  kind_code Void = gcons (gnum 0) gnil
  kind_code Bools = gcons (gnum 1) gnil
  kind_code Unsigned = gcons (gnum 2) gnil
  kind_code Signed = gcons (gnum 3) gnil
  kind_code Bytes = gcons (gnum 4) gnil
  kind_code Text = gcons (gnum 5) gnil
  kind_code Iterator = gcons (gnum 6) gnil
  kind_code (Only n) = gcons (gnum 7) (gnum n)
  kind_code (EnumOf n) = gcons (gnum 8) (gnum n)
  kind_code (UnitOf n) = gcons (gnum 9) (gnum n)
  kind_code (BitsOf m n) = gcons (gnum 10) (gcons (gnum m) (gnum n))
  kind_code (TupleOf ks) = gcons (gnum 11) (kinds_code ks)
  kind_code (VectorOf k) = gcons (gnum 12) (kind_code k)
  kind_code (SetOf k) = gcons (gnum 13) (kind_code k)
  kind_code (MapOf j k) = gcons (gnum 14) (gcons (kind_code j) (kind_code k))

  kinds_code : Kinds → Gv
  kinds_code no_kinds = gnil
  kinds_code (kind_and k ks) = gcons (kind_code k) (kinds_code ks)

abbrev head : Gv → Gv
head (gcons a b) = a
head _ = gnil

abbrev tail : Gv → Gv
tail (gcons a b) = b
tail _ = gnil

abbrev number : Gv → ℕ
number (gnum n) = n
number _ = 0

mutual
  pub kind_code-inj : (x y : Kind) → kind_code x ≡ kind_code y → x ≡ y
  kind_code-inj Void Void p = refl
  kind_code-inj Bools Bools p = refl
  kind_code-inj Unsigned Unsigned p = refl
  kind_code-inj Signed Signed p = refl
  kind_code-inj Bytes Bytes p = refl
  kind_code-inj Text Text p = refl
  kind_code-inj Iterator Iterator p = refl
  kind_code-inj (Only m) (Only n) p = ap (λ g. Only (number (tail g))) p
  kind_code-inj (EnumOf m) (EnumOf n) p = ap (λ g. EnumOf (number (tail g))) p
  kind_code-inj (UnitOf m) (UnitOf n) p = ap (λ g. UnitOf (number (tail g))) p
  kind_code-inj (BitsOf j m) (BitsOf k n) p = ap (λ g. BitsOf (number (head (tail g))) (number (tail (tail g)))) p
  kind_code-inj (TupleOf js) (TupleOf ks) p = ap TupleOf (kinds_code-inj js ks (ap tail p))
  kind_code-inj (VectorOf j) (VectorOf k) p = ap VectorOf (kind_code-inj j k (ap tail p))
  kind_code-inj (SetOf j) (SetOf k) p = ap SetOf (kind_code-inj j k (ap tail p))
  kind_code-inj (MapOf i j) (MapOf k l) p =
      let key = kind_code-inj i k (ap (λ g. head (tail g)) p) in
      let value = kind_code-inj j l (ap (λ g. tail (tail g)) p) in cc
  kind_code-inj x y p = absurd (omega (arith, ap (λ g. number (head g)) p))

  pub kinds_code-inj : (xs ys : Kinds) → kinds_code xs ≡ kinds_code ys → xs ≡ ys
  kinds_code-inj no_kinds no_kinds p = refl
  kinds_code-inj (kind_and x xs) (kind_and y ys) p =
      let h = kind_code-inj x y (ap head p) in
      let t = kinds_code-inj xs ys (ap tail p) in cc
  kinds_code-inj xs ys p = cc

abbrev pub coded_kind : Coded Kind
coded_kind = record { code = kind_code; inj = kind_code-inj }
