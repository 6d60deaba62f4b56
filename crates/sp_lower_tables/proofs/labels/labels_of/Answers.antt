use Rattle.std.proofs.Common.{ℕ, List, [], ◌∷◌, ◌++◌, refl, ap, ◌∙◌}
use Rattle.sp_code.specs.Programs as told
use Rattle.sp_typed_units.specs.declared.declarations.Label.{Label}
use Rattle.sp_meaning.specs.Names.{own_name, label_names, names_of_labels}
use Rattle.sp_lower_tables.proofs.Numbered.{next_item}
use Rattle.sp_lower_tables.proofs.Told.{labels_more, tells_next}
use Rattle.sp_lower_tables.proofs.labels.labels_of.Goals as goal

pub loop-one-preserved : goal.loop-one-preserved
loop-one-preserved c =
    let all = c.args.enums.now in
    let i = c.loop-one.one-index in
    let e = c.one-item.result in
    let before = told.label_names c.loop-one.rows.items in
    let owner = c.own_name-owner.ensures ∙ ap (λ (p : List ℕ). own_name p) c.as_str.ensures in
    let names = c.in_ok-labels.ensures ∙ ap (λ (o : List ℕ). label_names o c.as_slice.result.now) owner ∙ ap (λ (l : List Label). label_names (own_name e.path) l) c.as_slice.ensures in
    tells_next names_of_labels before _ _ (label_names (own_name e.path) e.labels) all i e (next_item all i e c.loop-one-test.true c.one-item.is) refl
    (ap told.label_names c.in_ok-push.ensures.items ∙ labels_more c.loop-one.rows.items _ ∙ ap (λ (ns : List (ℕ × List ℕ)). before ++ ns ∷ []) names) c.loop-one.invariant
