use Rattle.std.proofs.Common.{ap, ◌∙◌, ◌++◌}
use Rattle.sp_front.specs.Imports.{imports_among, imports_of}
use Rattle.sp_front.specs.Lists.{missing}
use Rattle.sp_front.proofs.Noting.{missing_step}
use Rattle.sp_front.proofs.imports.missing.Goals as goal

pub loop-declaration-init : goal.loop-declaration-init
loop-declaration-init c = record {
  ready = (tt, tt);
  so_far = λ es are.
      ap (λ is. is ++ missing es (imports_among c.into_iter-declaration-iterator.result)) c.new-imports.ensures.items
      ∙ ap (λ ds. missing es (imports_among ds)) (c.into_iter-declaration-iterator.ensures.into_iter_gives ∙ c.declarations_of-declaration-items.ensures);
}

pub loop-declaration-preserved : goal.loop-declaration-preserved
loop-declaration-preserved c = record {
  ready = (tt, tt);
  so_far = λ es are.
      missing_step es c.loop-declaration.declaration-iterator c.next.new.self c.in-Some.declaration c.loop-declaration.imports.items c.note_import.new.imports.items (missing es (imports_of c.args.file.now.«module»))
      c.in-Some.ensures.steps (c.in_ok-note_import.ensures es are) (c.loop-declaration.invariant.so_far es are);
}
