use Rattle.std.proofs.Common.{◌≡◌, sym, subst, ap, ◌∙◌, arith}
use Rattle.sp_value.specs.Val.{map, vals_of, entries_of}
use Rattle.sp_value.specs.inside.Sizes.{val_size, sizes, entries_size}
use Rattle.sp_value.specs.Order.{val_cmp, vals_cmp, entries_cmp}
use Rattle.sp_value.specs.Pieces.{all_in, NoneEmpty, rest_in}
use Rattle.sp_value.specs.View.{val_of}
use Rattle.sp_value.specs.Valid.{IsValid}
use Rattle.sp_value.specs.declared.value.Node.TheVariants.{Map}
use Rattle.sp_value.proofs.PieceLists.{starts}
use Rattle.sp_value.proofs.Members.{vals_end}
use Rattle.sp_value.proofs.order.+compare.Goals as goal

pub compare_all-returns : goal.compare_all-returns
compare_all-returns t c =
    let answer = c.cmp.ensures in
    let m = c.len-3.ensures in
    let n = c.len-4.ensures in
    let end = vals_end c.args.a.now.items c.args.b.now.items c.loop-i.i (omega arith) (omega arith) (λ a b. omega arith) in
    let before = c.loop-i.invariant in cc

pub compare-compare_entries-requires : goal.compare-compare_entries-requires
compare-compare_entries-requires t c =
    let a = c.in-Map-Map.a in
    let b = c.in-Map-Map.b in
    let same : c.as_slice-in-Map-Map.result.now ≡ a.value.items = let x = c.as_slice-in-Map-Map.ensures.value in let y = c.deref-in-Map-Map.ensures in cc in
    let other : c.as_slice-in-Map-Map-2.result.now ≡ b.value.items = let x = c.as_slice-in-Map-Map-2.ensures.value in let y = c.deref-in-Map-Map-2.ensures in cc in
    let valid : IsValid (Map c.in-Map-Map.field-0-0 a) = subst IsValid c.in-Map-Map.is-0 c.a.invariant in
    let valid_b : IsValid (Map c.in-Map-Map.field-0-1 b) = subst IsValid c.in-Map-Map.is-1 c.b.invariant in
    let size = ap val_size (sym c.a.view_is ∙ ap val_of c.in-Map-Map.is-0) in
    let lent = ap (λ l. entries_size (entries_of (all_in l))) same in
    (omega arith, (subst NoneEmpty (sym same) valid.0.none_empty, subst NoneEmpty (sym other) valid_b.0.none_empty))

pub compare-returns-in-Map-Map : goal.compare-returns-in-Map-Map
compare-returns-in-Map-Map t c =
    let a = c.in-Map-Map.a in
    let b = c.in-Map-Map.b in
    let same : c.as_slice-in-Map-Map.result.now ≡ a.value.items = let x = c.as_slice-in-Map-Map.ensures.value in let y = c.deref-in-Map-Map.ensures in cc in
    let other : c.as_slice-in-Map-Map-2.result.now ≡ b.value.items = let x = c.as_slice-in-Map-Map-2.ensures.value in let y = c.deref-in-Map-Map-2.ensures in cc in
    let left : c.args.a.now ≡ map (entries_of (all_in a.value.items)) = sym c.a.view_is ∙ ap val_of c.in-Map-Map.is-0 in
    let right : c.args.b.now ≡ map (entries_of (all_in b.value.items)) = sym c.b.view_is ∙ ap val_of c.in-Map-Map.is-1 in
    c.compare_entries.ensures
    ∙ ap (λ l. entries_cmp (entries_of (all_in l)) (entries_of (all_in c.as_slice-in-Map-Map-2.result.now))) same
    ∙ ap (λ l. entries_cmp (entries_of (all_in a.value.items)) (entries_of (all_in l))) other
    ∙ sym (ap (λ v. val_cmp v c.args.b.now) left ∙ ap (λ v. val_cmp (map (entries_of (all_in a.value.items))) v) right)

pub compare_members-loop-x-init : goal.compare_members-loop-x-init
compare_members-loop-x-init t c =
    let x = starts c.args.a.now c.new-i.result.piece c.new-i.result.item c.new-i.ensures.piece c.new-i.ensures.item in
    let y = starts c.args.b.now c.new-j.result.piece c.new-j.result.item c.new-j.ensures.piece c.new-j.ensures.item in (
      ap (λ l. vals_cmp (vals_of l) (vals_of (rest_in c.args.b.now c.new-j.result.piece c.new-j.result.item))) x ∙ ap (λ l. vals_cmp (vals_of (all_in c.args.a.now)) (vals_of l)) y,
      omega (arith, ap (λ l. sizes (vals_of l)) x),
    )

pub compare_entries-loop-x-init : goal.compare_entries-loop-x-init
compare_entries-loop-x-init t c =
    let x = starts c.args.a.now c.new-i.result.piece c.new-i.result.item c.new-i.ensures.piece c.new-i.ensures.item in
    let y = starts c.args.b.now c.new-j.result.piece c.new-j.result.item c.new-j.ensures.piece c.new-j.ensures.item in (
      ap (λ l. entries_cmp (entries_of l) (entries_of (rest_in c.args.b.now c.new-j.result.piece c.new-j.result.item))) x ∙ ap (λ l. entries_cmp (entries_of (all_in c.args.a.now)) (entries_of l)) y,
      omega (arith, ap (λ l. entries_size (entries_of l)) x),
    )
