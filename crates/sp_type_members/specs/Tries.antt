-- The types of what is stored in the members of all units, as questions whose answers hang on each other.
use Rattle.std.specs.Prelude.{ℕ, ◌≡◌, List, length, Option, Some, None, slice_get}
use Rattle.sp_ast.specs.Trees.{Tree}
use Rattle.sp_types.specs.Types.{Ty, word}
use Rattle.sp_types.specs.declared.words.Word.TheVariants as word_is
use Rattle.sp_typed.specs.declared.words.Standing.TheVariants as standing_is
use Rattle.sp_type_context.specs.declared.places.Place.TheVariants.{Value}
use Rattle.sp_type_context.specs.Contexts.{Around}
use Rattle.sp_type_operands.specs.Operands.{unknown}
use Rattle.sp_type_fields.specs.Values.{Values}
use Rattle.sp_type_scopes.specs.Decorators.{with_self}
use Rattle.sp_type_fields.specs.Fields.{field_type}
use Rattle.sp_solver.specs.declared.attempt.Attempt.{Attempt}
use Rattle.sp_solver.specs.declared.attempt.Attempt.TheVariants.{Done, Waits}
use Rattle.sp_solver.specs.Rounds.{IsSettled}
use Rattle.sp_solver.specs.Told.{told}
use Rattle.sp_type_modules.specs.declared.sources.Source.{Source}
use Rattle.sp_type_modules.specs.declared.sources.Source.TheVariants as source_is
use Rattle.sp_type_modules.specs.declared.sources.Question.{Question}
use Rattle.sp_type_modules.specs.Sources.{questions}
use Rattle.sp_type_members.specs.Opens.{with_members, field_open}

-- What stands round the expressions of the unit n, where `g` stands round those of its module and its parameters: `self` is
-- the unit, and so much is known of the members of units.
abbrev pub in_unit : List Tree → (ℕ → Option Ty) → ℕ → Around → Around
in_unit list f n g = with_self (word (word_is.Unit n)) standing_is.Meant (with_members list f g)

-- The type of what is stored in a member: a variable has the type that is written.
abbrev pub source_type : Around → Values → Source → Ty
source_type g v (source_is.Variable t) = g.type_in Value t
source_type g v source_is.Sink = word word_is.Sink
source_type g v (source_is.Field t) = field_type g v t

abbrev pub source_open : List Tree → ℕ → (ℕ → Option Ty) → Around → Values → Source → Option ℕ
source_open list count f g v (source_is.Field t) = field_open list count f g v t
source_open list count f g v _ = None

-- it is known where it hangs on nothing that isn't
abbrev pub when_open : Ty → Option ℕ → Attempt Ty
when_open t None = Done t
when_open t (Some j) = Waits j

-- there is no such question
abbrev pub nowhere : Option Ty → ℕ → Attempt Ty
nowhere (Some t) i = Done t
nowhere None i = Waits i

abbrev pub try_in : List Tree → ℕ → (ℕ → Option Ty) → Around → Values → Source → Attempt Ty
try_in list count f g v s = when_open (source_type g v s) (source_open list count f g v s)

-- the units have these contexts; of one that has none nothing is known
abbrev pub try_unit : List Tree → ℕ → (ℕ → Option Ty) → Values → Question → Option Around → Attempt Ty
try_unit list count f v q None = Done unknown
try_unit list count f v q (Some g) = try_in list count f (in_unit list f q.unit g) v q.source

abbrev pub try_asked : List Tree → List Around → Values → ℕ → (ℕ → Option Ty) → ℕ → Option Question → Attempt Ty
try_asked list contexts v count f i None = nowhere (f i) i
try_asked list contexts v count f i (Some q) = try_unit list count f v q (slice_get contexts q.unit)

-- A try: the type of the member of this number, where these are known. It waits for the first member in its conversions whose
-- type isn't known.
abbrev pub tries : List Tree → List Around → Values → (ℕ → Option Ty) → ℕ → Attempt Ty
tries list contexts v f i = try_asked list contexts v (length (questions list)) f i (slice_get (questions list) i)

-- The types of what is stored in the members of all units, in one row: a member without one is made of itself, or its
-- conversions lead to one that is.
pub record AreStored (list : List Tree) (contexts : List Around) (v : Values) (types : List (Option Ty)) : Type 0 where
  pub settled : IsSettled (tries list contexts v) (told types)
  pub all : length types ≡ length (questions list)
