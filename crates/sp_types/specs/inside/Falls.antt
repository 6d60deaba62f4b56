-- Each type inside one is smaller than it.
use Rattle.std.specs.Prelude.{◌≤◌, ◌+◌, List, [], ◌∷◌}
use Rattle.std.proofs.Common.{arith}
use denote.Param.Weighed.{most}
use Rattle.sp_types.specs.Types.{Ty, tys}
use Rattle.sp_types.specs.inside.Codes.{ty_size, tys_size}
use Rattle.sp_types.specs.Views.{ty_of}
use Rattle.sp_types.specs.declared.types.Node.{Node}
use Rattle.sp_types.specs.declared.types.Node.TheVariants.{Word, Made}
use Rattle.sp_types.specs.declared.types.Type.TheDeep.{deep-Node}

most_le : (ts : List Ty) → most (λ t. ty_size t + 1) ts ≤ tys_size (tys ts)
most_le [] = omega arith
most_le (t ∷ ts) = omega (arith, most_le ts)

pub deep-Node-le : (n : Node) → deep-Node n ≤ ty_size (ty_of n)
deep-Node-le (Word w) = omega arith
deep-Node-le (Made m ts) = omega (arith, most_le ts.value.items)
