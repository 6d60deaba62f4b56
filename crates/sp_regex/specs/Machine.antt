-- The reading of a text byte by byte. Contracts of private functions alone cite this: what `parse` promises
-- is said by the written syntax (`Syntax`).
use Rattle.std.specs.Prelude.{◌≡◌, ℕ, Bool, true, false, List, [], ◌∷◌, length, Option, Some, None, nat_lt, if◌then◌else◌}
use Rattle.sp_regex.specs.declared.bytes.ByteRole.{ByteRole}
use Rattle.sp_regex.specs.declared.bytes.ByteRole.TheVariants as role
use Rattle.sp_regex.specs.declared.escape.EscapePlace.TheVariants as escape
use Rattle.sp_regex.specs.declared.escape.EscapeStep.{EscapeStep}
use Rattle.sp_regex.specs.declared.escape.EscapeStep.TheVariants as escape_to
use Rattle.sp_regex.specs.declared.bounds.BoundsPlace.TheVariants as bounds
use Rattle.sp_regex.specs.declared.bounds.BoundsStep.{BoundsStep}
use Rattle.sp_regex.specs.declared.bounds.BoundsStep.TheVariants as bounds_to
use Rattle.sp_regex.specs.declared.class.ClassPlace.TheVariants as class_at
use Rattle.sp_regex.specs.declared.class.ClassReader.{ClassReader}
use Rattle.sp_regex.specs.declared.reader.Mode.{Mode}
use Rattle.sp_regex.specs.declared.reader.Mode.TheVariants.{Start, Atom, Piece, Escape, Class, Bounds}
use Rattle.sp_regex.specs.Trees.{Syntax, byte, any, class, empty, followed, never, either, repeat}
use Rattle.sp_regex.specs.Bytes.{role_of}
use Rattle.sp_regex.specs.Escapes.{escape_step}
use Rattle.sp_regex.specs.Bounds.{bounds_step}
use Rattle.sp_regex.specs.Class.{Outcome, goes, ends, refused, class_step, reader}
use Rattle.sp_regex.specs.Levels.{Opened, opened}

-- the open groups from the innermost but one outwards, the innermost, what is read there, and the class
pub record State : Type 0 where
  pub outer : List Opened
  pub level : Opened
  pub mode : Mode
  pub class : ClassReader

abbrev pub state : List Opened → Opened → Mode → ClassReader → State
state o l m c = record { outer = o; level = l; mode = m; class = c }

-- at the start of a text
abbrev pub initial : State
initial = state [] (opened never empty) Start (reader false [] class_at.Open)

-- whether the byte was taken, and what it led to
abbrev pub IsStep : Bool → State → Option State → Type 0
IsStep true s o = o ≡ Some s
IsStep false s o = o ≡ None

abbrev pub at_mode : State → Mode → State
at_mode s m = state s.outer s.level m s.class

abbrev pub with_piece : State → Syntax → State
with_piece s p = state s.outer (opened s.level.earlier (followed s.level.pieces p)) s.mode s.class

abbrev pub repeated : State → Syntax → ℕ → Option ℕ → State
repeated s a n m = at_mode (with_piece s (repeat n m a)) Piece

abbrev pub group_start : State → Option State
group_start s = if nat_lt (length s.outer) 64 then Some (state (s.level ∷ s.outer) (opened never empty) Start s.class) else None

abbrev pub group_end_in : List Opened → Opened → ClassReader → Option State
group_end_in [] l c = None
group_end_in (o ∷ os) l c = Some (state os o (Atom (either l.earlier l.pieces)) c)

abbrev pub group_end : State → Option State
group_end s = group_end_in s.outer s.level s.class

abbrev pub start_step : State → ByteRole → ℕ → Option State
start_step s role.Plain b = Some (at_mode s (Atom (byte b)))
start_step s role.Dot b = Some (at_mode s (Atom any))
start_step s role.ClassOpen b = Some (state s.outer s.level Class (reader false [] class_at.Open))
start_step s role.GroupOpen b = group_start s
start_step s role.Backslash b = Some (at_mode s (Escape escape.Start))
start_step s _ b = None

abbrev pub piece_step : State → ByteRole → ℕ → Option State
piece_step s role.Bar b = Some (state s.outer (opened (either s.level.earlier s.level.pieces) empty) Start s.class)
piece_step s role.GroupClose b = group_end s
piece_step s m b = start_step s m b

abbrev pub atom_step : State → Syntax → ByteRole → ℕ → Option State
atom_step s a role.Star b = Some (repeated s a 0 None)
atom_step s a role.Plus b = Some (repeated s a 1 None)
atom_step s a role.Question b = Some (repeated s a 0 (Some 1))
atom_step s a role.BoundsOpen b = Some (at_mode s (Bounds a bounds.Start))
atom_step s a m b = piece_step (with_piece s a) m b

abbrev pub escaped_step : State → EscapeStep → Option State
escaped_step s (escape_to.Goes p) = Some (at_mode s (Escape p))
escaped_step s (escape_to.Ends b) = Some (at_mode s (Atom (byte b)))
escaped_step s escape_to.Refused = None

abbrev pub classed_step : State → Outcome → Option State
classed_step s (goes c) = Some (state s.outer s.level Class c)
classed_step s (ends c) = Some (state s.outer s.level (Atom (class c.negated c.ranges)) (reader c.negated [] c.place))
classed_step s refused = None

abbrev pub bounded_step : State → Syntax → BoundsStep → Option State
bounded_step s a (bounds_to.Goes p) = Some (at_mode s (Bounds a p))
bounded_step s a (bounds_to.Ends c) = Some (repeated s a c.least c.most)
bounded_step s a bounds_to.Refused = None

abbrev pub mode_step : State → Mode → ℕ → Option State
mode_step s Start b = start_step s (role_of b) b
mode_step s (Atom a) b = atom_step s a (role_of b) b
mode_step s Piece b = piece_step s (role_of b) b
mode_step s (Escape p) b = escaped_step s (escape_step p b)
mode_step s Class b = classed_step s (class_step s.class b)
mode_step s (Bounds a p) b = bounded_step s a (bounds_step p b)

-- what the next byte leads to
abbrev pub step : State → ℕ → Option State
step s b = mode_step s s.mode b

abbrev pub finished_in : Opened → Mode → Option Syntax
finished_in l (Atom a) = Some (either l.earlier (followed l.pieces a))
finished_in l Piece = Some (either l.earlier l.pieces)
finished_in l _ = None

abbrev pub finished_at : List Opened → Opened → Mode → Option Syntax
finished_at [] l m = finished_in l m
finished_at (o ∷ os) l m = None

-- the tree, if the bytes so far are the text of one
abbrev pub finished : State → Option Syntax
finished s = finished_at s.outer s.level s.mode
