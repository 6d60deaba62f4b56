-- The type that one level of the code's types is.
use Rattle.sp_types.specs.Types.{Ty, word, made, tys}
use Rattle.sp_types.specs.declared.types.Node.{Node}
use Rattle.sp_types.specs.declared.types.Node.TheVariants.{Word, Made}

abbrev pub ty_of : Node → Ty
ty_of (Word w) = word w
ty_of (Made m ts) = made m (tys ts.value.items)
