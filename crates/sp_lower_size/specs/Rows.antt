-- What the definitions say of a few operators.
use Rattle.std.specs.Prelude.{◌≡◌, ◌+◌, refl}
use Rattle.sp_words.specs.declared.operators.BinaryOp.TheVariants as op_is
use Rattle.sp_code_programs.specs.exprs.Sizes.{binary_size}
use Rattle.sp_lower_size.specs.Beside.{beside}

-- both parts of a sum have two instructions
both : binary_size op_is.Add 2 2 ≡ 2 + 2 + beside op_is.Add
both = refl

only_needed : binary_size op_is.And 2 2 ≡ 2 + 2 + beside op_is.And
only_needed = refl
