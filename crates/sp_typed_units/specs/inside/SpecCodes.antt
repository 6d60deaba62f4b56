-- Readings as codes, by which a proof tells them apart, and their sizes.
use Rattle.std.specs.Prelude.{ℕ, ◌≡◌, ◌+◌, List, Option}
use Rattle.std.specs.Coded.{Coded, coded_list, coded_option}
use base.Stored.{Gv, gnil, gnum, gcons}
use Rattle.std.proofs.Common.{ap}
use Rattle.sp_base.specs.declared.places.Span.{Span}
use Rattle.sp_typed.specs.Exprs.{Expr}
use Rattle.sp_typed.specs.inside.StmtCodes.{row_code, row_inj}
use Rattle.sp_typed_units.specs.declared.attributes.Attribute.{Attribute}
use Rattle.sp_typed_units.specs.declared.readings.Reading.{Reading}
use Rattle.sp_typed_units.specs.declared.readings.UnitOf.{UnitOf}
use Rattle.sp_typed_units.specs.Specs.{Spec, read, unit_read, list_read, group_read}

-- how many readings stand inside one
abbrev pub spec_size : Spec → ℕ
spec_size (read h) = 0
spec_size (unit_read h es) = 0
spec_size (list_read at s n) = spec_size s + 1
spec_size (group_read at s attributes) = spec_size s + 1

-- the codes of what readings are made of
pub record Codes : Type 0 where
  pub reading : Coded Reading
  pub unit : Coded UnitOf
  pub span : Coded Span
  pub expr : Coded Expr
  pub attribute : Coded Attribute

abbrev pub count_code : Codes → Coded (Option Expr)
count_code k = coded_option k.expr

abbrev pub attributes_code : Codes → Coded (List Attribute)
attributes_code k = coded_list k.attribute

abbrev pub spec_code : Codes → Spec → Gv
spec_code k (read h) = gcons (gnum 0) (k.reading.code h)
spec_code k (unit_read h es) = gcons (gnum 1) (gcons (k.unit.code h) (row_code k.expr es))
spec_code k (list_read at s n) = gcons (gnum 2) (gcons (k.span.code at) (gcons (spec_code k s) ((count_code k).code n)))
spec_code k (group_read at s l) = gcons (gnum 3) (gcons (k.span.code at) (gcons (spec_code k s) ((attributes_code k).code l)))

abbrev head : Gv → Gv
head (gcons a b) = a
head _ = gnil

abbrev tail : Gv → Gv
tail (gcons a b) = b
tail _ = gnil

pub spec_inj : (k : Codes) (x y : Spec) → spec_code k x ≡ spec_code k y → x ≡ y
spec_inj k (read h) (read i) p = ap read (k.reading.inj h i (ap tail p))
spec_inj k (unit_read h xs) (unit_read i ys) p =
    let q = k.unit.inj h i (ap (λ g. head (tail g)) p) in
    let r = row_inj k.expr xs ys (ap (λ g. tail (tail g)) p) in cc
spec_inj k (list_read m s a) (list_read n t b) p =
    let q = k.span.inj m n (ap (λ g. head (tail g)) p) in
    let r = spec_inj k s t (ap (λ g. head (tail (tail g))) p) in
    let u = (count_code k).inj a b (ap (λ g. tail (tail (tail g))) p) in cc
spec_inj k (group_read m s a) (group_read n t b) p =
    let q = k.span.inj m n (ap (λ g. head (tail g)) p) in
    let r = spec_inj k s t (ap (λ g. head (tail (tail g))) p) in
    let u = (attributes_code k).inj a b (ap (λ g. tail (tail (tail g))) p) in cc
spec_inj k x y p = cc

abbrev pub coded_spec : Coded Reading → Coded UnitOf → Coded Span → Coded Expr → Coded Attribute → Coded Spec
coded_spec r u s e a =
    let k : Codes = record { reading = r; unit = u; span = s; expr = e; attribute = a } in
    record { code = spec_code k; inj = spec_inj k }
