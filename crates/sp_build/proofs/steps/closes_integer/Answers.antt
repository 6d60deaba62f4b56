use Rattle.std.proofs.Common.{sym, ◌∙◌, ap}
use Rattle.sp_words.specs.declared.words.IntWord.TheVariants as integer
use Rattle.sp_ast.specs.Slots.{slots}
use Rattle.sp_build.proofs.RuleParts.{parts_fill, worded_slots}
use Rattle.sp_build.proofs.steps.closes_integer.Goals as goal

pub close-requires-clause-fill : goal.close-requires-clause-fill
close-requires-clause-fill c =
    let same = ap slots c.worded_form-form.ensures ∙ worded_slots c.args.worded c.in-Some-integer_of.word integer.Uint8 ∙ sym c.worded_slots.ensures in
    parts_fill c.worded_form-form.result c.worded_slots.result.now _ c.args.stack.now _ same c.in-Some.ensures.found.0
