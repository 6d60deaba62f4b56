use Rattle.std.proofs.Common.{[], ◌+◌, length, ◌≡◌, arith}
use Rattle.sp_types.specs.Types.{word}
use Rattle.sp_types.specs.declared.words.Word.TheVariants as word_is
use Rattle.sp_typed.specs.declared.words.ManyOp.TheVariants as many_is
use Rattle.sp_typed.specs.declared.words.NewOf.TheVariants as new_is
use Rattle.sp_type_exprs.proofs.Lists.{each_step}
use Rattle.sp_type_fields.proofs.readings.arguments.Goals as goal

pub loop-e-preserved : goal.loop-e-preserved
loop-e-preserved g c =
    let target = (g.C.Context.around c.args.context.now).target (many_is.New (new_is.Unit c.args.unit) c.args.path) (word word_is.Unknown) in
    let count : c.len-number.result + 0 ≡ length c.loop-e.parts.items = omega (arith, c.len-number.ensures) in
    each_step target [] c.loop-e.parts.items c.push.new.self.items c.loop-e.yielded c.in-Some.e c.in_ok-argument.field-0 c.len-number.result c.loop-e.invariant count c.in_ok-argument.ensures c.in_ok-push.ensures.items
