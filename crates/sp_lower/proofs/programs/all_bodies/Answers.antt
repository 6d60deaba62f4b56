use Rattle.std.proofs.Common.{List, sym, subst, ap, ◌∙◌}
use Rattle.std.specs.List.{AllByRecursion}
use Rattle.sp_typed_units.specs.declared.declarations.Function.{Function}
use Rattle.sp_typed_units.specs.declared.declarations.Hook.{Hook}
use Rattle.sp_typed_units.specs.declared.declarations.Typed.{Typed}
use Rattle.sp_meaning.specs.Globals.{globals_of}
use Rattle.sp_code_programs.specs.programs.Routines.{function_routines}
use Rattle.sp_lower.specs.Literals.{FunctionFits, HookFits}
use Rattle.sp_lower.specs.inside.Laid.{Lays, named_routines}
use Rattle.sp_lower.proofs.Each.{each_of}
use Rattle.sp_lower.proofs.Laid.{lays_both}
use Rattle.sp_lower.proofs.Hooked.{all_laid}
use Rattle.sp_lower.proofs.programs.all_bodies.Goals as goal

pub functions-requires : goal.functions-requires
functions-requires c = subst (λ (l : List Function). AllByRecursion FunctionFits l) (sym c.as_slice.ensures) (each_of FunctionFits c.args.list.now.functions c.requires.functions)

pub hooks-requires-clause-all : goal.hooks-requires-clause-all
hooks-requires-clause-all c = c.as_slice-2.ensures ∙ sym (ap (λ (l : Typed). l.hooks) c.in_ok-fields.ensures)

pub hooks-requires-clause-literals : goal.hooks-requires-clause-literals
hooks-requires-clause-literals c = subst (λ (l : List Hook). AllByRecursion HookFits l) (sym c.as_slice-2.ensures) (each_of HookFits c.args.list.now.hooks c.requires.hooks)

pub returns : goal.returns
returns c =
    let list = c.args.list.now in
    let g = globals_of list in
    let functions = subst (λ (l : List Function). Lays g c.args.out.now c.no_bodies-bodies.result c.functions.new.out c.functions.new.bodies (function_routines g l)) c.as_slice.ensures c.in_ok-functions.ensures in
    let hooks =
    subst (λ (l : List Hook). Lays g c.functions.new.out c.functions.new.bodies c.hooks.new.out c.hooks.new.bodies (named_routines list 0 l)) c.as_slice-2.ensures
    (subst (λ (l : Typed). Lays (globals_of l) c.functions.new.out c.functions.new.bodies c.hooks.new.out c.hooks.new.bodies (named_routines l 0 c.as_slice-2.result.now)) c.in_ok-fields.ensures c.in_ok-hooks.ensures) in
    all_laid list c.args.out.now _ c.no_bodies-bodies.result _ c.no_bodies-bodies.ensures.entries c.no_bodies-bodies.ensures.locals
    (lays_both g _ _ _ _ _ _ _ _ functions hooks)
