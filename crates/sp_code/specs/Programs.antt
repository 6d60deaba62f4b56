-- A program as plain data, and its shapes.
use Rattle.std.specs.Prelude.{ℕ, zero, suc, List, [], ◌∷◌, ◌++◌, length, slice_get, unwrap_or}
use Rattle.std.proofs.Common.{Global}
use Rattle.std.specs.declared.vec.Vec.{Vec}
use Rattle.sp_base.specs.declared.places.Limits.{Limits}
use Rattle.sp_methods.specs.Kinds.{Kind, Void, Bools, Unsigned, Signed, Bytes, Text, Iterator, Only, EnumOf, UnitOf, BitsOf, TupleOf, VectorOf, SetOf, MapOf, kinds_of}
use Rattle.sp_meaning_states.specs.Scopes.{Called}
use Rattle.sp_meaning_states.specs.Telling.{Names}
use Rattle.sp_code.specs.declared.program.BodyOf.{BodyOf}
use Rattle.sp_code.specs.declared.program.BodyOf.TheVariants as body_of
use Rattle.sp_code.specs.declared.program.BodyCode.{BodyCode}
use Rattle.sp_code.specs.declared.program.UnitCode.{UnitCode}
use Rattle.sp_code.specs.declared.program.KindRow.{KindRow}
use Rattle.sp_code.specs.declared.program.KindRow.TheVariants as row_is
use Rattle.sp_code.specs.declared.program.StackRow.{StackRow}
use Rattle.sp_code.specs.declared.program.Opened.{Opened}
use Rattle.sp_code.specs.declared.program.Opened.TheVariants as opened_is
use Rattle.sp_code.specs.declared.program.OpenRow.{OpenRow}
use Rattle.sp_code.specs.declared.program.RoundRow.{RoundRow}
use Rattle.sp_code.specs.declared.program.RoundRow.TheVariants as round_is
use Rattle.sp_code.specs.declared.program.ShapeRow.{ShapeRow}
use Rattle.sp_code.specs.declared.program.Labels.{Labels}
use Rattle.sp_code.specs.declared.program.Ranges.{Ranges}
use Rattle.sp_code.specs.declared.program.Program.{Program}
use Rattle.sp_code.specs.Machine as machine
use Rattle.sp_code.specs.Machine.{Plain}
use Rattle.sp_code.specs.Shapes.{Shape, Shapes, BodyKinds, Opens, AView, ATry, Round, OfUnit, OfEnding, OfFailing, OfFunction, OfHook}
use Rattle.sp_code.specs.Shapes as shapes_are
use Rattle.sp_code.specs.Turns.{Turns}

abbrev pub called_as : BodyOf → Called
called_as body_of.Function = Called.Function
called_as (body_of.Hook name told each) = Called.Hook each

abbrev pub name_of : BodyOf → List ℕ
name_of body_of.Function = []
name_of (body_of.Hook name told each) = name

abbrev pub told_of : BodyOf → ℕ
told_of body_of.Function = 0
told_of (body_of.Hook name told each) = told

abbrev pub bodies_of : List BodyCode → List machine.Body
bodies_of [] = []
bodies_of (b ∷ bs) = (record { start = b.start; called = called_as b.of; takes = b.takes; fresh = b.fresh; name = name_of b.of; told = told_of b.of }) ∷ bodies_of bs

abbrev pub units_of : List UnitCode → List machine.UnitCode
units_of [] = []
units_of (u ∷ us) = (record { start = u.start; ending = u.ending; failing = u.failing; keeps = u.keeps; takes = u.takes; members = length u.members.items; fresh = u.fresh }) ∷ units_of us

abbrev pub member_names : List UnitCode → List (List (List ℕ))
member_names [] = []
member_names (u ∷ us) = u.members.items ∷ member_names us

abbrev pub label_names : List Labels → List (List (ℕ × List ℕ))
label_names [] = []
label_names (l ∷ ls) = l.labels.items ∷ label_names ls

abbrev pub range_names : List Ranges → List (List (List ℕ))
range_names [] = []
range_names (r ∷ rs) = r.ranges.items ∷ range_names rs

abbrev pub names_of : Program → Names
names_of p = record { members = member_names p.units.items; labels = label_names p.shapes.enums.items; ranges = range_names p.shapes.bitfields.items }

-- a program within limits
abbrev pub plain_of : Limits → Program → Plain
plain_of limits p = record { limits = limits; names = names_of p; consts = p.consts; bodies = bodies_of p.hooks.items; units = units_of p.units.items; code = p.code.items }

-- a kind by its number, where these are the kinds so far
abbrev pub kind_at : List Kind → ℕ → Kind
kind_at ks n = unwrap_or (slice_get ks n) Void

abbrev pub kinds_at : List Kind → List ℕ → List Kind
kinds_at ks [] = []
kinds_at ks (n ∷ ns) = kind_at ks n ∷ kinds_at ks ns

abbrev pub kind_of_row : List Kind → KindRow → Kind
kind_of_row ks row_is.Void = Void
kind_of_row ks row_is.Bool = Bools
kind_of_row ks row_is.Unsigned = Unsigned
kind_of_row ks row_is.Signed = Signed
kind_of_row ks row_is.Bytes = Bytes
kind_of_row ks row_is.Text = Text
kind_of_row ks row_is.Iterator = Iterator
kind_of_row ks (row_is.Only n) = Only n
kind_of_row ks (row_is.Enum k) = EnumOf k
kind_of_row ks (row_is.Bits k n) = BitsOf k n
kind_of_row ks (row_is.Unit u) = UnitOf u
kind_of_row ks (row_is.Tuple ns) = TupleOf (kinds_of (kinds_at ks ns.items))
kind_of_row ks (row_is.Vector n) = VectorOf (kind_at ks n)
kind_of_row ks (row_is.Set n) = SetOf (kind_at ks n)
kind_of_row ks (row_is.Map m n) = MapOf (kind_at ks m) (kind_at ks n)

-- the kinds of a table; each may name those before it
abbrev pub kinds_from : List Kind → List KindRow → List Kind
kinds_from ks [] = ks
kinds_from ks (r ∷ rs) = kinds_from (ks ++ kind_of_row ks r ∷ []) rs

-- a row of numbers by its own, where these are the rows so far, counted from 1
abbrev pub stack_at : List (List ℕ) → ℕ → List ℕ
stack_at ss zero = []
stack_at ss (suc n) = unwrap_or (slice_get ss n) []

-- the rows of a table; each may stand on one of those before it
abbrev pub stacks_from : List (List ℕ) → List StackRow → List (List ℕ)
stacks_from ss [] = ss
stacks_from ss (r ∷ rs) = stacks_from (ss ++ (r.top ∷ stack_at ss r.below) ∷ []) rs

abbrev pub opens_in : List Kind → List (List ℕ) → Opened → Opens
opens_in ks ss opened_is.View = AView
opens_in ks ss (opened_is.Try to n) = ATry to (kinds_at ks (stack_at ss n))

-- a row of open constructs, counted likewise
abbrev pub opens_at : List (List Opens) → ℕ → List Opens
opens_at os zero = []
opens_at os (suc n) = unwrap_or (slice_get os n) []

abbrev pub opens_from : List Kind → List (List ℕ) → List (List Opens) → List OpenRow → List (List Opens)
opens_from ks ss os [] = os
opens_from ks ss os (r ∷ rs) = opens_from ks ss (os ++ (opens_in ks ss r.opened ∷ opens_at os r.around) ∷ []) rs

abbrev pub round_of : List Kind → RoundRow → Round
round_of ks round_is.Unit = OfUnit
round_of ks round_is.Ending = OfEnding
round_of ks round_is.Failing = OfFailing
round_of ks (round_is.Function n) = OfFunction (kind_at ks n)
round_of ks (round_is.Hook each) = OfHook each

-- a shape by these kinds, these rows of them, and these rows of what is open
abbrev pub shape_of : List Kind → List (List ℕ) → List (List Opens) → ShapeRow → Shape
shape_of ks ss os s = record { unit = s.unit; round = round_of ks s.round; locals = kinds_at ks (stack_at ss s.locals); operands = kinds_at ks (stack_at ss s.operands); opens = opens_at os s.opens }

abbrev pub shapes_at : List Kind → List (List ℕ) → List (List Opens) → List ShapeRow → List Shape
shapes_at ks ss os [] = []
shapes_at ks ss os (s ∷ rows) = shape_of ks ss os s ∷ shapes_at ks ss os rows

abbrev pub unit_kinds : List Kind → List UnitCode → List shapes_are.UnitKinds
unit_kinds ks [] = []
unit_kinds ks (u ∷ us) = (record { parameters = kinds_at ks u.kinds.parameters.items; members = kinds_at ks u.kinds.members.items; locals = kinds_at ks u.kinds.locals.items }) ∷ unit_kinds ks us

abbrev pub body_kinds : List Kind → List (Vec ℕ Global) → List BodyKinds
body_kinds ks [] = []
body_kinds ks (b ∷ bs) = (record { locals = kinds_at ks b.items }) ∷ body_kinds ks bs

abbrev pub shapes_by : List Kind → List (List ℕ) → Program → Shapes
shapes_by ks ss p = record { at = shapes_at ks ss (opens_from ks ss [] p.shapes.opens.items) p.shapes.at.items; units = unit_kinds ks p.units.items; bodies = body_kinds ks p.shapes.bodies.items }

abbrev pub shapes_of : Program → Shapes
shapes_of p = shapes_by (kinds_from [] p.shapes.kinds.items) (stacks_from [] p.shapes.stacks.items) p

-- Sound programs, whatever their limits: each instruction keeps to the shapes, and each cycle counts a turn.
abbrev pub IsSoundProgram : Program → Type 0
IsSoundProgram p = (limits : Limits) → shapes_are.IsSound (plain_of limits p) (shapes_of p) × Turns (plain_of limits p)
