-- Rows on which the definitions are run: a body of a hook with the name of its hook and the kind of its `$$`, and literals for which their
-- type has room and has none.
use Rattle.std.specs.Prelude.{◌≡◌, ℕ, List, [], ◌∷◌, codes, refl}
use Rattle.std.proofs.Common.{arith}
use Rattle.sp_methods.specs.Kinds.{Kind, Unsigned}
use Rattle.sp_typed.specs.declared.words.LeafOp.TheVariants as leaf_is
use Rattle.sp_typed.specs.Exprs.{exprs}
use Rattle.sp_typed.specs.Stmts.{print}
use Rattle.sp_typed_units.specs.declared.declarations.Function.{Function}
use Rattle.sp_code_programs.specs.programs.Routines.{Routine}
use Rattle.sp_code_programs.specs.programs.Rows.{here, byte, leaf_of, same}
use Rattle.sp_code_programs.specs.programs.WholeRows.{told_byte, whole_list}
use Rattle.sp_lower.specs.Literals.{FunctionFits, HookFits}
use Rattle.sp_lower.specs.inside.Laid.{named_routines}

abbrev names : List Routine → List (List ℕ)
names [] = []
names (r ∷ rs) = r.entry.name ∷ names rs

abbrev locals : List Routine → List (List Kind)
locals [] = []
locals (r ∷ rs) = r.shape.locals ∷ locals rs

its_name : names (named_routines whole_list 0 whole_list.hooks) ≡ codes "M::U::f" ∷ []
its_name = refl

its_current : locals (named_routines whole_list 0 whole_list.hooks) ≡ (Unsigned ∷ Unsigned ∷ []) ∷ []
its_current = refl

it_fits : HookFits told_byte
it_fits = (tt, tt)

-- a function that tells a number
abbrev telling : ℕ → Function
telling n = record same { body = print here (exprs (leaf_of byte (leaf_is.Number n) ∷ [])) }

the_last_byte_fits : FunctionFits (telling 255)
the_last_byte_fits = (omega arith, tt)

no_more_fits : FunctionFits (telling 256) → ⊥
no_more_fits fits = omega (arith, fits.0)
