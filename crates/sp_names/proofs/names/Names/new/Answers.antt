use Rattle.sp_names.proofs.names.Names.new.Goals as goal

pub invariant_of-result : goal.invariant_of-result
invariant_of-result c =
    let rows = c.deref.ensures.value in
    let again = c.deref-2.ensures.value in
    let enums = c.deref-3.ensures.value in
    record {
      rows_are = c.in_ok-rows.ensures;
      all_numbers = rw rows at c.in-Ok-or_drop.ensures.all;
      numbers_are = rw rows at c.in-Ok-or_drop.ensures.each;
      sorted_are = rw rows at c.in-Ok-or_drop.ensures.sorted;
      all_names = c.in-Ok-or_drop-names.ensures.all;
      names_are = c.in-Ok-or_drop-names.ensures.each;
      modules_are = c.in-Ok-or_drop-by_name.ensures;
      all_labels = rw enums at c.in-Ok-or_drop-labels.ensures.all;
      labels_are = rw (enums, again) at c.in-Ok-or_drop-labels.ensures.each;
      bitfields_are = c.in-Ok-or_drop-2.ensures.bitfields;
      all_places = c.in-Ok-or_drop-2.ensures.all;
      places_are = c.in-Ok-or_drop-2.ensures.each;
    }
