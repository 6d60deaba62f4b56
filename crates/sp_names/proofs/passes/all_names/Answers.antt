use Rattle.std.proofs.Common.{◌∙◌, ap}
use Rattle.sp_names.specs.Declarations.{module_declarations}
use Rattle.sp_names.specs.Tables.{IsOf}
use Rattle.sp_names.proofs.Lists.{each_more, one_longer}
use Rattle.sp_names.proofs.Further.{next_base, names_of_module}
use Rattle.sp_names.proofs.passes.all_names.Goals as goal

pub loop-i-preserved : goal.loop-i-preserved
loop-i-preserved c =
    let list = c.args.modules.now in
    let i = c.loop-i.i in
    let before = c.loop-i.invariant in
    let n = c.in_ok-count.ensures ∙ c.len.ensures in
    let m = c.in_ok-first.ensures in
    let t = c.index-modules-i.result in
    let d = c.declarations_of-declarations.ensures ∙ ap module_declarations c.index-modules-i.is in (
      one_longer c.loop-i.names.items c.push.new.self.items i c.in_ok-module_names.field-0 c.in_ok-push.ensures.items before.0,
      next_base list i t c.loop-i.first c.in_ok-count.count c.in_ok-first.first c.declarations_of-declarations.result c.loop-i-test.true d before.1 n m,
      each_more (IsOf list) c.loop-i.names.items c.push.new.self.items i c.in_ok-module_names.field-0 c.in_ok-push.ensures.items before.0 before.2
          (names_of_module list i t c.loop-i.first c.declarations_of-declarations.result c.in_ok-module_names.field-0 c.loop-i-test.true d before.1 c.in_ok-module_names.ensures.declared c.in_ok-module_names.ensures.imported),
    )
