-- What stands round the expressions of a module, as the code has it.
use Rattle.std.specs.Prelude.{ℕ, Option}
use Rattle.sp_types.specs.Types.{Ty}
use Rattle.sp_typed.specs.Exprs.{Expr}
use Rattle.sp_solver.specs.Told.{told}
use Rattle.sp_type_context.specs.Contexts.{Around}
use Rattle.sp_type_modules.specs.declared.here.Here.{Here}
use Rattle.sp_type_modules.specs.Arounds.{Facts, stored_by, around}

module _ {K : Type 0} where
  -- what is known: the types of declarations, of constants and of members as they are told, and the numbers of expressions
  abbrev pub facts_of : (K → ℕ → Ty) → (K → Expr → Option ℕ) → Here K → Facts
  facts_of constant number h = record {
    answers = told h.tables.now.1;
    constant = constant h.constants.now;
    stored = stored_by h.tables.now.0 (told h.stored.now);
    number = number h.constants.now;
  }

  abbrev pub around_here : (K → ℕ → Ty) → (K → Expr → Option ℕ) → Here K → Around
  around_here constant number h = around h.tables.now.0 (facts_of constant number h) h.owner
