-- Expressions whose parts fit, and some whose parts don't.
use Rattle.std.specs.Prelude.{◌≡◌, ℕ, List, [], ◌∷◌, Option, Some, None, refl}
use Rattle.std.proofs.Common.{ap, arith}
use Rattle.sp_base.specs.declared.places.Span.{Span}
use Rattle.sp_numbers.specs.declared.width.Width.TheVariants.{W8}
use Rattle.sp_words.specs.declared.methods.Method.TheVariants.{PushBack, PopBack}
use Rattle.sp_words.specs.declared.operators.BinaryOp.TheVariants as op_is
use Rattle.sp_types.specs.declared.words.Word.TheVariants as word_is
use Rattle.sp_types.specs.declared.words.Maker.TheVariants as maker_is
use Rattle.sp_types.specs.Types.{Ty, tys, word, made}
use Rattle.sp_typed.specs.declared.words.LeafOp.{LeafOp}
use Rattle.sp_typed.specs.declared.words.LeafOp.TheVariants as leaf_is
use Rattle.sp_typed.specs.declared.words.OneOp.TheVariants as one_is
use Rattle.sp_typed.specs.declared.words.TwoOp.{TwoOp}
use Rattle.sp_typed.specs.declared.words.TwoOp.TheVariants as two_is
use Rattle.sp_typed.specs.declared.words.ManyOp.{ManyOp}
use Rattle.sp_typed.specs.declared.words.ManyOp.TheVariants as many_is
use Rattle.sp_typed.specs.declared.words.Standing.TheVariants.{Meant}
use Rattle.sp_typed.specs.Exprs.{Expr, leaf, one, two, three, many, exprs}
use Rattle.sp_meaning_states.specs.Scopes.{Called}
use Rattle.sp_methods.specs.Kinds.{Bools, Unsigned, VectorOf}
use Rattle.sp_methods.specs.Methods.{push_back_takes, pop_back_takes}
use Rattle.sp_code.specs.Kinds.{of_place, of_tuple, in_vector}
use Rattle.sp_code.specs.Machine.{Body, Plain}
use Rattle.sp_code.specs.Shapes.{UnitKinds}
use Rattle.sp_law_code.specs.exprs.Parts.{AreCounted, Fits}

abbrev here : Span
here = record { from = 0; to = 0 }

abbrev byte : Ty
byte = word (word_is.Uint W8)

abbrev bytes_row : Ty
bytes_row = made maker_is.Vector (tys (byte ∷ []))

abbrev rows : Ty
rows = made maker_is.Vector (tys (bytes_row ∷ []))

abbrev pair : Ty
pair = made maker_is.Tuple (tys (byte ∷ bytes_row ∷ []))

abbrev leaf_of : Ty → LeafOp → Expr
leaf_of t o = leaf (record { span = here; ty = t; op = o })

abbrev two_of : Ty → TwoOp → Expr → Expr → Expr
two_of t o a b = two (record { span = here; ty = t; op = o }) a b

abbrev many_of : Ty → ManyOp → List Expr → Expr
many_of t o es = many (record { span = here; ty = t; op = o }) (exprs es)

-- the first local is a number, the second a vector of vectors; the first member of the unit is a vector
abbrev number : ℕ → Expr
number n = leaf_of byte (leaf_is.Number n)

abbrev first : Expr
first = leaf_of byte (leaf_is.Local 0)

abbrev second : Expr
second = leaf_of rows (leaf_is.Local 1)

abbrev member : Expr
member = one (record { span = here; ty = bytes_row; op = one_is.Field 0 }) (leaf_of (word (word_is.Unit 0)) (leaf_is.Itself Meant))

abbrev item : Expr
item = two_of bytes_row two_is.Index second first

abbrev a_body : Body
a_body = record { start = 0; called = Called.Function; takes = 1; fresh = []; name = []; told = 0 }

abbrev takes_of : Option Body → ℕ
takes_of (Some e) = e.takes
takes_of None = 0

abbrev program : Plain
program =
    record { limits = record { turns = 9; depth = 9; fibers = 9 }; names = record { members = []; labels = []; ranges = [] }; consts = []; bodies = a_body ∷ []; units = []; code = [] }

abbrev the_unit : UnitKinds
the_unit = record { parameters = []; members = VectorOf Unsigned ∷ []; locals = [] }

abbrev Fit : Expr → Type 0
Fit e =
    Fits program (record { at = []; units = the_unit ∷ []; bodies = [] }) (record { constants = []; labels = []; ranges = [] }) (record { own = 0; current = 0; offset = None; first = 0 }) (Unsigned ∷ VectorOf (VectorOf Unsigned) ∷ []) (Some 0) e

-- `l + 1`
pub a_sum_fits : Fit (two_of byte (two_is.Binary op_is.Add) first (number 1))
a_sum_fits = (refl, (λ units. (W8, 1, refl), refl))

-- `l ? l : l`, where l is no Boolean
pub a_number_is_no_test : Fit (three (record { span = here; ty = byte }) first first first) → ⊥
a_number_is_no_test fits = absurd (let q : Unsigned ≡ Bools = fits.3 in cc)

-- `(l, rows[l]).1`
pub a_member_of_a_tuple_fits : Fit (two_of bytes_row (two_is.Item 1) (many_of pair many_is.Tuple (first ∷ item ∷ [])) (number 1))
a_member_of_a_tuple_fits =
    (((refl, ((refl, (refl, of_place _ _ _ (in_vector Unsigned (VectorOf Unsigned) refl))), tt)), refl), of_tuple _ 1 _ refl)

-- `self.m.push_back(l)`, `rows[l].push_back(l)`, `self.m.pop_back()` and `rows[l].pop_back()`
pub a_push_to_a_member_fits : Fit (many_of (word word_is.Void) (many_is.Method PushBack None) (member ∷ first ∷ []))
a_push_to_a_member_fits = (((0, refl, refl), tt, (0, refl, (the_unit, refl, refl))), (refl, tt), (push_back_takes Unsigned, refl))

pub a_push_to_an_item_fits : Fit (many_of (word word_is.Void) (many_is.Method PushBack None) (item ∷ first ∷ []))
a_push_to_an_item_fits = ((refl, refl, in_vector Unsigned (VectorOf Unsigned) refl), (refl, tt), (push_back_takes Unsigned, refl))

pub a_pop_from_a_member_fits : Fit (many_of byte (many_is.Method PopBack None) (member ∷ []))
a_pop_from_a_member_fits = (((0, refl, refl), tt, (0, refl, (the_unit, refl, refl))), tt, pop_back_takes Unsigned)

pub a_pop_from_an_item_fits : Fit (many_of byte (many_is.Method PopBack None) (item ∷ []))
a_pop_from_an_item_fits = ((refl, refl, in_vector Unsigned (VectorOf Unsigned) refl), tt, pop_back_takes Unsigned)

-- `f(l)` and `f(l, l)`, where the function takes one value
pub one_is_counted : AreCounted program (many_of byte (many_is.Call 0) (first ∷ []))
one_is_counted = ((a_body, refl, refl), (tt, tt))

pub two_are_not : AreCounted program (many_of byte (many_is.Call 0) (first ∷ first ∷ [])) → ⊥
two_are_not counted = omega (arith, ap takes_of counted.0.1, counted.0.2)
