-- The type of which one level is lent.
use Rattle.sp_types.specs.Types.{Ty, word, made, tys}
use Rattle.sp_types.specs.declared.types.Level.{Level}
use Rattle.sp_types.specs.declared.types.Level.TheVariants as level_is

abbrev pub level_ty : Level → Ty
level_ty (level_is.Word w) = word w
level_ty (level_is.Made m parts) = made m (tys parts.now)
