use Rattle.sp_type_hooks.specs.Fields.{hangs}
use Rattle.sp_type_hooks.specs.inside.Tables.{has_mark, type_told}
use Rattle.sp_type_hooks.proofs.Marked.{one_element}
use Rattle.sp_type_hooks.proofs.table.FieldTypes.put_at.Goals as goal

pub returns-clause-elements : goal.returns-clause-elements
returns-clause-elements c = λ x ts.
    let old = c.args.self.now in
    one_element old.elements c.args.mark x (has_mark old.mixed x) (has_mark c.add.new.self x) (hangs x c.another_at-another.result) (type_told c.put.new.self x) c.args.ty ts
    (c.in_ok-add.ensures x) (c.another_at-another.ensures x) (c.in_ok-put.ensures x)
