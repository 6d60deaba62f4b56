-- Parts of units as codes, by which a proof tells them apart, and their sizes.
use Rattle.std.specs.Prelude.{ℕ, ◌≡◌, ◌+◌, Option, refl}
use Rattle.std.specs.Coded.{Coded, coded_option}
use base.Stored.{Gv, gnil, gnum, gcons}
use Rattle.std.proofs.Common.{ap}
use Rattle.sp_base.specs.declared.places.Span.{Span}
use Rattle.sp_typed.specs.Exprs.{Expr}
use Rattle.sp_typed_units.specs.declared.items.Field.{Field}
use Rattle.sp_typed_units.specs.declared.items.Arm.{Arm}
use Rattle.sp_typed_units.specs.Parts.{Part, Parts, Arms, field, choice, no_parts, more_parts, no_arms, more_arms}

-- how many parts stand inside one
abbrev mutual
  pub part_size : Part → ℕ
  part_size (field h) = 0
  part_size (choice at e rows) = arms_size rows

  pub parts_size : Parts → ℕ
  parts_size no_parts = 0
  parts_size (more_parts p ps) = part_size p + 1 + parts_size ps

  pub arms_size : Arms → ℕ
  arms_size no_arms = 0
  arms_size (more_arms a ps rest) = parts_size ps + arms_size rest

-- the codes of what parts are made of
pub record Codes : Type 0 where
  pub field : Coded Field
  pub arm : Coded Arm
  pub span : Coded Span
  pub subject : Coded (Option Expr)

abbrev mutual
  pub part_code : Codes → Part → Gv
  part_code k (field h) = gcons (gnum 0) (k.field.code h)
  part_code k (choice at e rows) = gcons (gnum 1) (gcons (k.span.code at) (gcons (k.subject.code e) (arms_code k rows)))

  pub parts_code : Codes → Parts → Gv
  parts_code k no_parts = gnil
  parts_code k (more_parts p ps) = gcons (part_code k p) (parts_code k ps)

  pub arms_code : Codes → Arms → Gv
  arms_code k no_arms = gnil
  arms_code k (more_arms a ps rest) = gcons (k.arm.code a) (gcons (parts_code k ps) (arms_code k rest))

abbrev head : Gv → Gv
head (gcons a b) = a
head _ = gnil

abbrev tail : Gv → Gv
tail (gcons a b) = b
tail _ = gnil

mutual
  pub part_inj : (k : Codes) (x y : Part) → part_code k x ≡ part_code k y → x ≡ y
  part_inj k (field h) (field i) p = ap field (k.field.inj h i (ap tail p))
  part_inj k (choice m d xs) (choice n e ys) p =
      let q = k.span.inj m n (ap (λ g. head (tail g)) p) in
      let r = k.subject.inj d e (ap (λ g. head (tail (tail g))) p) in
      let s = arms_inj k xs ys (ap (λ g. tail (tail (tail g))) p) in cc
  part_inj k x y p = cc

  pub parts_inj : (k : Codes) (xs ys : Parts) → parts_code k xs ≡ parts_code k ys → xs ≡ ys
  parts_inj k no_parts no_parts p = refl
  parts_inj k (more_parts x xs) (more_parts y ys) p =
      let q = part_inj k x y (ap head p) in
      let r = parts_inj k xs ys (ap tail p) in cc
  parts_inj k xs ys p = cc

  pub arms_inj : (k : Codes) (xs ys : Arms) → arms_code k xs ≡ arms_code k ys → xs ≡ ys
  arms_inj k no_arms no_arms p = refl
  arms_inj k (more_arms a x xs) (more_arms b y ys) p =
      let q = k.arm.inj a b (ap head p) in
      let r = parts_inj k x y (ap (λ g. head (tail g)) p) in
      let s = arms_inj k xs ys (ap (λ g. tail (tail g)) p) in cc
  arms_inj k xs ys p = cc

abbrev pub coded_part : Coded Field → Coded Arm → Coded Span → Coded Expr → Coded Part
coded_part f a s e =
    let k : Codes = record { field = f; arm = a; span = s; subject = coded_option e } in
    record { code = part_code k; inj = part_inj k }
