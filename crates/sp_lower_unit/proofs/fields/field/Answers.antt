use Rattle.std.proofs.Common.{◌≡◌, ℕ, List, Option, None, Some, sym, ap, ◌∙◌}
use Rattle.std.proofs.lemmas.Result.{on_ok_weaker}
use Rattle.sp_meaning.specs.Integers.{IntegerForm, integer_field}
use Rattle.sp_code_programs.specs.units.Units.{unit_shape, where_integer, field_code}
use Rattle.sp_emit.proofs.Adding.{adds_as}
use Rattle.sp_lower_unit.specs.Forms.{form_of, read_as}
use Rattle.sp_lower_unit.proofs.Joined.{adds_none}
use Rattle.sp_lower_unit.proofs.fields.field.Goals as goal

pub returns-in-Some : goal.returns-in-Some
returns-in-Some c = λ r begin.
    let list = c.args.list.now in
    let u = c.args.unit in
    let s = unit_shape u r in
    let f = c.args.field.now in
    let known : integer_field c.args.order f ≡ Some (form_of c.in-Some.form) = sym c.integer_field.ensures ∙ ap read_as c.in-Some.is in
    let hooks = ap (λ (hs : List ℕ). field_code list u s (form_of c.in-Some.form) f.member hs) c.as_slice.ensures in
    let all = ap (λ (o : Option IntegerForm). where_integer list o (λ form. field_code list u s form f.member f.hooks)) (sym known) in
    on_ok_weaker c.integer.result (λ h. adds_as _ h (hooks ∙ all)) (c.integer.ensures r begin)

pub returns-in-None : goal.returns-in-None
returns-in-None c = λ r begin.
    let list = c.args.list.now in
    let u = c.args.unit in
    let s = unit_shape u r in
    let f = c.args.field.now in
    let known : integer_field c.args.order f ≡ None = sym c.integer_field.ensures ∙ ap read_as c.in-None.is in
    adds_as _ (adds_none c.args.out.now s begin) (ap (λ (o : Option IntegerForm). where_integer list o (λ form. field_code list u s form f.member f.hooks)) (sym known))
