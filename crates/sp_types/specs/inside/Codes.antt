-- Types as codes, by which a proof tells them apart, and their sizes.
use Rattle.std.specs.Prelude.{ℕ, ◌≡◌, ◌+◌, refl}
use Rattle.std.specs.Coded.{Coded}
use base.Stored.{Gv, gnil, gnum, gcons}
use Rattle.std.proofs.Common.{ap}
use Rattle.sp_types.specs.declared.words.Word.{Word}
use Rattle.sp_types.specs.declared.words.Maker.{Maker}
use Rattle.sp_types.specs.Types.{Ty, Tys, word, made, none, more}

-- how many types stand inside one
abbrev mutual
  pub ty_size : Ty → ℕ
  ty_size (word w) = 0
  ty_size (made m ts) = tys_size ts

  pub tys_size : Tys → ℕ
  tys_size none = 0
  tys_size (more t ts) = ty_size t + 1 + tys_size ts

abbrev mutual
  pub ty_code : Coded Word → Coded Maker → Ty → Gv
  ty_code w k (word x) = gcons (gnum 0) (w.code x)
  ty_code w k (made x ts) = gcons (gnum 1) (gcons (k.code x) (tys_code w k ts))

  pub tys_code : Coded Word → Coded Maker → Tys → Gv
  tys_code w k none = gnil
  tys_code w k (more t ts) = gcons (ty_code w k t) (tys_code w k ts)

abbrev head : Gv → Gv
head (gcons a b) = a
head _ = gnil

abbrev tail : Gv → Gv
tail (gcons a b) = b
tail _ = gnil

mutual
  pub ty_inj : (w : Coded Word) (k : Coded Maker) (x y : Ty) → ty_code w k x ≡ ty_code w k y → x ≡ y
  ty_inj w k (word x) (word y) p = ap word (w.inj x y (ap tail p))
  ty_inj w k (made x ts) (made y us) p =
      let q = k.inj x y (ap (λ g. head (tail g)) p) in
      let r = tys_inj w k ts us (ap (λ g. tail (tail g)) p) in cc
  ty_inj w k x y p = cc

  pub tys_inj : (w : Coded Word) (k : Coded Maker) (xs ys : Tys) → tys_code w k xs ≡ tys_code w k ys → xs ≡ ys
  tys_inj w k none none p = refl
  tys_inj w k (more x xs) (more y ys) p =
      let q = ty_inj w k x y (ap head p) in
      let r = tys_inj w k xs ys (ap tail p) in cc
  tys_inj w k xs ys p = cc

abbrev pub coded_ty : Coded Word → Coded Maker → Coded Ty
coded_ty w k = record { code = ty_code w k; inj = ty_inj w k }
