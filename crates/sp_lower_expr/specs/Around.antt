-- What stands round an expression.
use Rattle.std.specs.Prelude.{ℕ, Option, Some, slice_get}
use Rattle.sp_value.specs.Val.{Val, void}
use Rattle.sp_meaning.specs.Globals.{Globals, globals_of}
use Rattle.sp_code_meaning.specs.Layouts.{Layout}
use Rattle.sp_lower_expr.specs.declared.around.Places.{Places}
use Rattle.sp_lower_expr.specs.declared.around.Around.{Around}

-- where a body keeps what it sees
abbrev pub layout_of : Places → Layout
layout_of p = record { own = p.own; current = p.current; offset = p.offset; first = p.first }

-- what the list of modules declares
abbrev pub globals_in : Around → Globals
globals_in x = globals_of x.list.now

-- where the body at hand keeps what it sees
abbrev pub layout_in : Around → Layout
layout_in x = layout_of x.places

-- the value of a constant, or void where it has none
abbrev pub known_value : Option (Option Val) → Val
known_value (Some (Some v)) = v
known_value o = void

-- the value of a constant of the list, or void where there is none
abbrev pub constant_at : Globals → ℕ → Val
constant_at globals c = known_value (slice_get globals.constants c)
