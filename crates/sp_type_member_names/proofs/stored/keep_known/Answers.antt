use Rattle.std.proofs.Common.{◌∙◌, ap, cond, nat_eq, Some}
use Rattle.indexmap.specs.IndexMap.{get}
use Rattle.sp_type_member_names.specs.inside.Seen.{stored_with}
use Rattle.sp_type_member_names.proofs.Differing.{kept_more}
use Rattle.sp_type_member_names.proofs.stored.keep_known.Goals as goal

pub returns : goal.returns
returns c =
    let old = c.args.table.now.of in
    λ k t.
    kept_more c.args.number k (get nat_eq old) (get nat_eq c.insert.new.self) c.args.ty t c.requires
    (c.in_ok-insert.ensures.updates.0 k ∙ ap (λ e. cond (nat_eq c.args.number k) (Some e) (get nat_eq old k)) (c.stored_with-entry.ensures ∙ ap (λ o. stored_with o c.args.ty) c.get.ensures.value))
