use Rattle.std.proofs.Common.{◌≡◌, ◌∙◌, sym, false, nat_eq}
use Rattle.indexmap.specs.IndexMap.{get}
use Rattle.sp_types.specs.Types.{is_known}
use Rattle.sp_type_member_names.proofs.Differing.{kept_same}
use Rattle.sp_type_member_names.proofs.stored.keep.Goals as goal

pub returns-else-is_known : goal.returns-else-is_known
returns-else-is_known c =
    let e : is_known c.args.ty ≡ false = sym c.is_known.ensures ∙ c.if-is_known.false in
    λ k t. kept_same c.args.number k (get nat_eq c.args.table.now.of k) c.args.ty t e
