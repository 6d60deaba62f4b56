-- Statements in which no other one stands pass where the test says so.
use Rattle.std.proofs.Common.{◌≡◌, ℕ, ◌+◌, Bool, true, false, ◌&&◌, Option, Some, sym, ap, subst}
use Rattle.std.specs.Prelude.{slice_get, unwrap_or, is_some}
use Rattle.std.proofs.lemmas.Bool.{and_parts}
use Rattle.sp_words.specs.declared.operators.BinaryOp.TheVariants as op_is
use Rattle.sp_methods.specs.Kinds.{Kind, Void, Bools, Text}
use Rattle.sp_types.specs.Types.{Ty}
use Rattle.sp_typed.specs.declared.words.TwoOp.{TwoOp}
use Rattle.sp_typed.specs.declared.words.TwoOp.TheVariants as two_is
use Rattle.sp_typed.specs.declared.stmt_words.BareOp.{BareOp}
use Rattle.sp_typed.specs.declared.stmt_words.BareOp.TheVariants as bare_is
use Rattle.sp_typed.specs.declared.stmt_words.ValuedOp.{ValuedOp}
use Rattle.sp_typed.specs.declared.stmt_words.ValuedOp.TheVariants as valued_is
use Rattle.sp_typed.specs.Exprs.{Expr, Exprs, leaf, one, two, three, many, none, more, type_of}
use Rattle.sp_typed_units.specs.declared.declarations.Typed.{Typed}
use Rattle.sp_meaning_states.specs.Types.{kind_of_type}
use Rattle.sp_meaning.specs.Globals.{Globals}
use Rattle.sp_code_meaning.specs.Layouts.{Layout}
use Rattle.sp_meaning.specs.Operations.{is_item}
use Rattle.sp_code_meaning.specs.Exprs.{slot_local}
use Rattle.sp_code.specs.Kinds.{kind_of_two}
use Rattle.sp_code.specs.Machine.{Plain}
use Rattle.sp_code.specs.Shapes.{Round, Shapes}
use Rattle.sp_code_programs.specs.exprs.Code.{kind_of, kind_at}
use Rattle.sp_law_code.specs.bodies.Fits.{BareFits, ValuedFits, ValuesFit}
use Rattle.sp_law_programs.specs.finished_bodies.Built.{ExprIsBuilt, PlaceIsBuilt, AllAreBuilt, BareIsBuilt, ValuedIsBuilt}
use Rattle.sp_lower_expr.specs.Literals.{AllLiteralsFit}
use Rattle.sp_lower_stmt.specs.Literals.{ValuedLiteralsFit}
use Rattle.sp_law_meaning.specs.Standing.{ExprStands, AllStand}
use Rattle.sp_law_programs.specs.program_laid.Places.{ChangesPlaces, AllChangePlaces, HasTarget}
use Rattle.sp_law_programs.proofs.program_laid_lemmas.Zeros.{zero_has}
use Rattle.sp_law_lists.specs.fit_expr.Around.{Around, globals_in, locals_in}
use Rattle.sp_law_lists.specs.fit_expr.Sorts as sort_is
use Rattle.sp_law_lists.specs.fit_expr.Passes.{Tables, ExprPasses}
use Rattle.sp_law_lists.specs.fit_expr.Test.{is_sort, expr_passes, place_passes}
use Rattle.sp_law_lists.proofs.fit_expr_lemmas.OfSorts.{of_sort}
use Rattle.sp_law_lists.proofs.fit_expr_lemmas.OfTypes.{local_kind}
use Rattle.sp_law_lists.proofs.fit_expr_lemmas.Sound.{expr_sound, place_sound}
use Rattle.sp_law_lists.specs.fit_body.Bodies.{Body, round_in}
use Rattle.sp_law_lists.specs.fit_body.Test.{is_index, slot_is, set_of, keyed_by, equals, returns_value, test_passes, key_passes, values_pass, bare_passes, valued_passes}
use Rattle.sp_law_lists.proofs.fit_body_lemmas.OfKinds.{set_kinds, keyed_kinds, equal_kinds, nothing_kind, value_kind}

index_is : (op : TwoOp) → is_index op ≡ true → is_item op ≡ true
index_is two_is.Index h = h
index_is _ h = absurd (let z : false ≡ true = h in cc)

module _ (around : Around) where
  abbrev list : Typed
  list = around.list

  abbrev kind : Ty → Kind
  kind t = kind_of_type (globals_in around).ranges t

  abbrev pub IsGood : Expr → Type 0
  IsGood e = ExprPasses list around.places (locals_in around) around.unit e

  -- a slot of a type is a local of its kind
  pub slot_kind : (s : ℕ) (t : Ty) → slot_is around s t ≡ true → slice_get (locals_in around) (around.places.first + s) ≡ Some (kind t)
  slot_kind s t h = local_kind (globals_in around).ranges around.locals (around.places.first + s) t h

  -- an expression, and what is tested beside it
  pub expr_and : (e : Expr) (b : Bool) → (expr_passes around e && b) ≡ true → IsGood e × (b ≡ true)
  expr_and e b h =
      let q = and_parts (expr_passes around e) b h in
      (expr_sound around e q.0, q.1)

  -- a test
  pub test_sound : (e : Expr) → test_passes around e ≡ true → IsGood e × (kind_of (globals_in around) around.places e ≡ Bools)
  test_sound e h =
      let q = expr_and e (is_sort (type_of e) sort_is.Bools) h in
      (q.0, of_sort (globals_in around).ranges (type_of e) sort_is.Bools q.1)

module _ (body : Body) where
  abbrev its_list : Typed
  its_list = body.around.list

  abbrev globals : Globals
  globals = globals_in body.around

  abbrev layout : Layout
  layout = body.around.places

  abbrev round : Round
  round = round_in globals.ranges body.returns

  -- the values of a case, which are compared with a local
  pub record ValuesPass (l : ℕ) (es : Exprs) : Type 0 where
    pub fits : (p : Plain) (shapes : Shapes) → Tables its_list p shapes → ValuesFit p shapes globals layout (locals_in body.around) body.around.unit round l es
    pub built : AllAreBuilt globals its_list.functions es
    pub literals : AllLiteralsFit es
    pub stands : AllStand (is_some layout.offset) its_list.functions es
    pub places : AllChangePlaces es

  pub values_sound : (l : ℕ) (t : Ty) → slice_get (locals_in body.around) l ≡ Some (kind_of_type globals.ranges t) → (es : Exprs) → values_pass body.around t es ≡ true → ValuesPass l es
  values_sound l t is none h = record { fits = λ p shapes tables. tt; built = tt; literals = tt; stands = tt; places = tt }
  values_sound l t is (more e es) h =
      let q = and_parts (expr_passes body.around e && equals t (type_of e)) (values_pass body.around t es) h in
      let v = expr_and body.around e (equals t (type_of e)) q.0 in
      let rest = values_sound l t is es q.1 in
      let subject : kind_at (locals_in body.around) l ≡ kind_of_type globals.ranges t = ap (λ (o : Option Kind). unwrap_or o Void) is in
      let equal = subst (λ (k : Kind). kind_of_two op_is.Equal k (kind_of_type globals.ranges (type_of e)) ≡ Some Bools) (sym subject) (equal_kinds globals.ranges t (type_of e) v.1) in
      record {
        fits = λ p shapes tables. (v.0.fits p shapes tables, equal, rest.fits p shapes tables);
        built = (v.0.built, rest.built);
        literals = (v.0.literals, rest.literals);
        stands = (v.0.stands, rest.stands);
        places = (v.0.places, rest.places);
      }

  -- a statement without parts
  pub record BarePasses (in_loop : Bool) (op : BareOp) : Type 0 where
    pub fits : (p : Plain) (shapes : Shapes) → BareFits p shapes globals layout (locals_in body.around) body.around.unit round in_loop op
    pub built : BareIsBuilt op

  pub bare_sound : (in_loop : Bool) (op : BareOp) → bare_passes body in_loop op ≡ true → BarePasses in_loop op
  bare_sound in_loop (bare_is.Local l) h = record { fits = λ p shapes. (slot_kind body.around l.slot l.ty h, λ units. zero_has globals.ranges units l.ty); built = tt }
  bare_sound in_loop bare_is.Return h = record { fits = λ p shapes. nothing_kind globals.ranges body.returns h; built = tt }
  bare_sound in_loop (bare_is.Break meant) h = record { fits = λ p shapes. h; built = tt }
  bare_sound in_loop (bare_is.Continue meant) h = record { fits = λ p shapes. h; built = tt }
  bare_sound in_loop _ h = absurd (let z : false ≡ true = h in cc)

  -- a statement with one expression
  pub record ValuedPasses (op : ValuedOp) (e : Expr) : Type 0 where
    pub fits : (p : Plain) (shapes : Shapes) → Tables its_list p shapes → ValuedFits p shapes globals layout (locals_in body.around) body.around.unit round op e
    pub built : ValuedIsBuilt op (ExprIsBuilt globals its_list.functions e) (PlaceIsBuilt globals its_list.functions e)
    pub literals : ValuedLiteralsFit op e
    pub stands : ExprStands (is_some layout.offset) its_list.functions e
    pub target : HasTarget op e
    pub places : ChangesPlaces e

  add_sound : (slot : Option ℕ) (e : Expr) → key_passes body.around true (slot_local layout slot) e ≡ true → ValuedPasses (valued_is.Add slot) e
  add_sound slot (two m a b) h =
      let q = and_parts (place_passes body.around (slot_local layout slot) a && expr_passes body.around b && is_index m.op) (set_of (type_of a) (type_of b)) h in
      let r = and_parts (place_passes body.around (slot_local layout slot) a && expr_passes body.around b) (is_index m.op) q.0 in
      let s = and_parts (place_passes body.around (slot_local layout slot) a) (expr_passes body.around b) r.0 in
      let c = place_sound body.around (slot_local layout slot) a s.0 in
      let k = expr_sound body.around b s.1 in
      record {
        fits = λ p shapes tables. (c.fits p shapes tables, k.fits p shapes tables, set_kinds globals.ranges (type_of a) (type_of b) q.1);
        built = (index_is m.op r.1, c.built, k.built);
        literals = (c.literals, k.literals);
        stands = (c.stands, k.stands);
        target = c.place;
        places = (c.places, k.places);
      }
  add_sound slot (leaf m) h = absurd (let z : false ≡ true = h in cc)
  add_sound slot (one m a) h = absurd (let z : false ≡ true = h in cc)
  add_sound slot (three m a b c) h = absurd (let z : false ≡ true = h in cc)
  add_sound slot (many m es) h = absurd (let z : false ≡ true = h in cc)

  delete_sound : (slot : Option ℕ) (e : Expr) → key_passes body.around false (slot_local layout slot) e ≡ true → ValuedPasses (valued_is.Delete slot) e
  delete_sound slot (two m a b) h =
      let q = and_parts (place_passes body.around (slot_local layout slot) a && expr_passes body.around b && is_index m.op) (keyed_by (type_of a) (type_of b)) h in
      let r = and_parts (place_passes body.around (slot_local layout slot) a && expr_passes body.around b) (is_index m.op) q.0 in
      let s = and_parts (place_passes body.around (slot_local layout slot) a) (expr_passes body.around b) r.0 in
      let c = place_sound body.around (slot_local layout slot) a s.0 in
      let k = expr_sound body.around b s.1 in
      record {
        fits = λ p shapes tables. (c.fits p shapes tables, k.fits p shapes tables, keyed_kinds globals.ranges (type_of a) (type_of b) q.1);
        built = (index_is m.op r.1, c.built, k.built);
        literals = (c.literals, k.literals);
        stands = (c.stands, k.stands);
        target = c.place;
        places = (c.places, k.places);
      }
  delete_sound slot (leaf m) h = absurd (let z : false ≡ true = h in cc)
  delete_sound slot (one m a) h = absurd (let z : false ≡ true = h in cc)
  delete_sound slot (three m a b c) h = absurd (let z : false ≡ true = h in cc)
  delete_sound slot (many m es) h = absurd (let z : false ≡ true = h in cc)

  pub valued_sound : (op : ValuedOp) (e : Expr) → valued_passes body op e ≡ true → ValuedPasses op e
  valued_sound (valued_is.Local l) e h =
      let q = expr_and body.around e (slot_is body.around l.slot (type_of e)) h in
      record {
        fits = λ p shapes tables. (q.0.fits p shapes tables, slot_kind body.around l.slot (type_of e) q.1);
        built = q.0.built;
        literals = q.0.literals;
        stands = q.0.stands;
        target = tt;
        places = q.0.places;
      }
  valued_sound valued_is.Return e h =
      let q = expr_and body.around e (returns_value body.returns (type_of e)) h in
      record {
        fits = λ p shapes tables. (q.0.fits p shapes tables, value_kind globals.ranges body.returns (type_of e) q.1);
        built = q.0.built;
        literals = q.0.literals;
        stands = q.0.stands;
        target = tt;
        places = q.0.places;
      }
  valued_sound valued_is.Throw e h =
      let q = expr_and body.around e (is_sort (type_of e) sort_is.Text) h in
      record {
        fits = λ p shapes tables. (q.0.fits p shapes tables, of_sort globals.ranges (type_of e) sort_is.Text q.1);
        built = q.0.built;
        literals = q.0.literals;
        stands = q.0.stands;
        target = tt;
        places = q.0.places;
      }
  valued_sound (valued_is.Assert text) e h =
      let q = test_sound body.around e h in
      record {
        fits = λ p shapes tables. (q.0.fits p shapes tables, q.1);
        built = q.0.built;
        literals = q.0.literals;
        stands = q.0.stands;
        target = tt;
        places = q.0.places;
      }
  valued_sound (valued_is.Add slot) e h = add_sound slot e h
  valued_sound (valued_is.Delete slot) e h = delete_sound slot e h
  valued_sound valued_is.Expr e h =
      let q = expr_sound body.around e h in
      record { fits = q.fits; built = q.built; literals = q.literals; stands = q.stands; target = tt; places = q.places }
