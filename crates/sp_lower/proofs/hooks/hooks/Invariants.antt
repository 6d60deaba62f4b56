use Rattle.std.proofs.Common.{drop}
use Rattle.std.specs.List.{AllByRecursion}
use Rattle.sp_meaning.specs.Globals.{globals_of}
use Rattle.sp_lower.specs.Literals.{HookFits}
use Rattle.sp_lower.specs.inside.Laid.{named_routines}
use Rattle.sp_lower.proofs.Laid.{Leads}
use Rattle.sp_lower.proofs.hooks.hooks.Given as goal

abbrev pub invariant-loop-body : goal.invariant-loop-body
invariant-loop-body l = record {
  fits : AllByRecursion HookFits (drop l.body l.all);
  laid :
      Leads (globals_of l.fields.list.now) l.fn.out l.fn.bodies l.out l.bodies (named_routines l.fields.list.now 0 l.all) (named_routines l.fields.list.now l.body (drop l.body l.all));
}
