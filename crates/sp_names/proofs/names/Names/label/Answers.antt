use Rattle.std.proofs.Common.{◌-◌, ◌∙◌, ap}
use Rattle.sp_names.specs.declared.sort.DeclSort.TheVariants as sort_is
use Rattle.sp_names.specs.Declarations.{all_from, library_enums}
use Rattle.sp_names.proofs.Lookups.{label_told, none_labelled, some_at, none_at, not_library}
use Rattle.sp_names.proofs.names.Names.label.Goals as goal

pub returns-in-Some : goal.returns-in-Some
returns-in-Some c =
    let t = c.self.invariant in
    label_told c.self.inside.modules.now c.args.self.now c.self.inside.rows.items c.self.inside.sorted.enums.items c.self.inside.labels.items c.args.owner c.in-Some.table.now c.args.name.now c.look_up.result c.self.view_is t.rows_are (t.sorted_are.enums_are ∙ ap (all_from sort_is.Enum 0) t.rows_are) t.labels_are (not_library c.args.owner c.if-owner-lt-LIBRARY_ENUMS.false) (let at = rw c.deref.ensures.value at c.in-Some.ensures.lookup in some_at c.self.inside.labels.items (c.args.owner - library_enums) c.in-Some.table.now at.3.0 at.1) c.look_up.ensures

pub returns-in-None : goal.returns-in-None
returns-in-None c =
    let t = c.self.invariant in
    none_labelled c.self.inside.modules.now c.args.self.now c.self.inside.rows.items c.self.inside.sorted.enums.items c.self.inside.labels.items c.args.owner c.args.name.now c.self.view_is t.rows_are (t.sorted_are.enums_are ∙ ap (all_from sort_is.Enum 0) t.rows_are) t.all_labels (not_library c.args.owner c.if-owner-lt-LIBRARY_ENUMS.false) (let at = rw c.deref.ensures.value at c.in-None.ensures.lookup in none_at c.self.inside.labels.items (c.args.owner - library_enums) at.3)
