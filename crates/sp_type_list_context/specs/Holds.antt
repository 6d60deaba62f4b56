-- What stands round the expressions of modules and units, as the code has it.
use Rattle.std.specs.Prelude.{ℕ, Option}
use Rattle.sp_types.specs.Types.{Ty}
use Rattle.sp_typed.specs.Exprs.{Expr}
use Rattle.sp_solver.specs.Told.{told}
use Rattle.sp_type_context.specs.Contexts.{Around}
use Rattle.sp_type_modules.specs.declared.here.Here.{Here}
use Rattle.sp_type_modules.specs.Holds.{around_here}
use Rattle.sp_type_scopes.specs.declared.parameters.WithParameters.{WithParameters}
use Rattle.sp_type_scopes.specs.Parameters.{with_parameters}
use Rattle.sp_type_scopes.specs.declared.itself.WithSelf.{WithSelf}
use Rattle.sp_type_scopes.specs.Decorators.{with_self}
use Rattle.sp_type_values.specs.declared.known.Known.{Known}
use Rattle.sp_type_values.specs.Answers.{constant_type, number_of}

abbrev pub type_told : Known → ℕ → Ty
type_told k = constant_type k.row.now.0 (told k.row.now.1) (told k.answers.now)

abbrev pub number_told : Known → Expr → Option ℕ
number_told k = number_of k.row.now.0 (told k.row.now.1) (told k.answers.now)

abbrev pub here_told : Here Known → Around
here_told h = around_here type_told number_told h

abbrev pub seeing_told : WithParameters (Here Known) → Around
seeing_told w = with_parameters w.first w.hides w.parameters.now (here_told w.outside.now)

abbrev pub unit_told : WithSelf (WithParameters (Here Known)) → Around
unit_told w = with_self w.ty.now w.standing (seeing_told w.context.now)
