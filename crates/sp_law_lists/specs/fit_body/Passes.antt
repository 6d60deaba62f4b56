-- All that is asked of a statement, whatever program it stands in.
use Rattle.std.specs.Prelude.{ℕ, Bool, List, Option, is_some}
use Rattle.sp_methods.specs.Kinds.{Kind}
use Rattle.sp_typed.specs.Stmts.{Stmt}
use Rattle.sp_typed_units.specs.declared.declarations.Typed.{Typed}
use Rattle.sp_code_meaning.specs.Layouts.{Layout}
use Rattle.sp_meaning.specs.Globals.{globals_of}
use Rattle.sp_code.specs.Machine.{Plain}
use Rattle.sp_code.specs.Shapes.{Round, Shapes}
use Rattle.sp_law_code.specs.bodies.Fits.{StmtFits}
use Rattle.sp_law_programs.specs.finished_bodies.Built.{StmtIsBuilt}
use Rattle.sp_lower_stmt.specs.Literals.{StmtLiteralsFit}
use Rattle.sp_law_meaning.specs.Standing.{StmtStands}
use Rattle.sp_law_programs.specs.program_laid.Places.{StmtChangesPlaces}
use Rattle.sp_law_lists.specs.fit_expr.Passes.{Tables}

-- A statement of a body with these locals and this unit, which returns so, in a loop or in none: its parts are of the kinds that its form
-- asks, it is built of what has a meaning, its literals are of their types, calls have as many arguments as their functions have
-- parameters, `$$` stands where there is one, and what is changed is a place.
pub record StmtPasses (list : Typed) (layout : Layout) (locals : List Kind) (unit : Option ℕ) (round : Round) (in_loop : Bool) (s : Stmt) : Type 0 where
  pub fits : (p : Plain) (shapes : Shapes) → Tables list p shapes → StmtFits p shapes (globals_of list) layout locals unit round in_loop s
  pub built : StmtIsBuilt (globals_of list) list.functions s
  pub literals : StmtLiteralsFit s
  pub stands : StmtStands (is_some layout.offset) list.functions s
  pub places : StmtChangesPlaces s
