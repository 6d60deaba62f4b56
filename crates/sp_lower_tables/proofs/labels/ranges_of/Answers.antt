use Rattle.std.proofs.Common.{ℕ, List, [], ◌∷◌, ◌++◌, refl, ap, ◌∙◌}
use Rattle.sp_code.specs.Programs as told
use Rattle.sp_typed_units.specs.declared.declarations.BitRange.{BitRange}
use Rattle.sp_meaning.specs.Names.{range_names, names_of_ranges}
use Rattle.sp_lower_tables.proofs.Numbered.{next_item}
use Rattle.sp_lower_tables.proofs.Told.{ranges_more, tells_next}
use Rattle.sp_lower_tables.proofs.labels.ranges_of.Goals as goal

pub loop-bitfield-preserved : goal.loop-bitfield-preserved
loop-bitfield-preserved c =
    let all = c.args.bitfields.now in
    let i = c.loop-bitfield.bitfield-index in
    let b = c.bitfield-item.result in
    let before = told.range_names c.loop-bitfield.rows.items in
    let names = c.in_ok-ranges.ensures ∙ ap (λ (l : List BitRange). range_names l) c.as_slice.ensures in
    tells_next names_of_ranges before _ _ (range_names b.ranges) all i b (next_item all i b c.loop-bitfield-test.true c.bitfield-item.is) refl
    (ap told.range_names c.in_ok-push.ensures.items ∙ ranges_more c.loop-bitfield.rows.items _ ∙ ap (λ (ns : List (List ℕ)). before ++ ns ∷ []) names) c.loop-bitfield.invariant
