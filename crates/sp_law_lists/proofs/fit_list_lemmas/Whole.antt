-- A list passes where its constants, functions, hooks and units do.
use Rattle.std.proofs.Common.{◌≡◌, ℕ, Bool, true, false, List, ◌++◌, length, Some, None, refl, sym, subst}
use Rattle.std.specs.Prelude.{slice_get, is_some, if◌then◌else◌}
use Rattle.sp_methods.specs.Kinds.{Kind}
use Rattle.sp_typed_units.specs.declared.declarations.Function.{Function}
use Rattle.sp_typed_units.specs.declared.declarations.Hook.{Hook}
use Rattle.sp_typed_units.specs.declared.declarations.Typed.{Typed}
use Rattle.sp_typed_units.specs.declared.declarations.Unit.{Unit as TypedUnit}
use Rattle.sp_typed_units.specs.Parts.{parts}
use Rattle.sp_code_meaning.specs.Layouts.{Layout}
use Rattle.sp_meaning.specs.Globals.{globals_of}
use Rattle.sp_code_meaning.specs.Calls.{hook_layout}
use Rattle.sp_meaning.specs.Hooks.{has_current, is_foreach}
use Rattle.sp_meaning.specs.Integers.{last_order, module_order}
use Rattle.sp_code.specs.Machine.{Plain}
use Rattle.sp_code.specs.Shapes.{Shapes, OfHook}
use Rattle.sp_code_programs.specs.exprs.Code.{kind_at}
use Rattle.sp_code_programs.specs.programs.Routines.{hook_unit, slot_kinds, handed_kinds}
use Rattle.sp_code_programs.specs.programs.Currents.{currents_of}
use Rattle.sp_code_programs.specs.programs.Whole.{IsProgramOf}
use Rattle.sp_law_meaning.specs.Standing.{StmtStands}
use Rattle.sp_law_code.specs.bodies.Fits.{StmtFits}
use Rattle.sp_law_programs.specs.whole_program.Laws.{MembersAreListed, FunctionsAreEntered, CurrentsAreListed}
use Rattle.sp_law_programs.specs.whole_program.Fits.{ListFits, UnitFits}
use Rattle.sp_law_lists.specs.fit_expr.Passes.{Tables, ConstantsFit}
use Rattle.sp_law_lists.specs.fit_list.Passes.{ListPasses}
use Rattle.sp_law_lists.specs.fit_list.Stored.{type_for}
use Rattle.sp_law_lists.specs.fit_list.Bodies.{FunctionPasses, HookPasses}
use Rattle.sp_law_lists.specs.fit_list.Units.{UnitPasses}
use Rattle.sp_law_lists.proofs.fit_list_lemmas.Handed.{handed_nothing, current_listed}
use Rattle.sp_law_lists.proofs.fit_list_lemmas.Parts.{parts_sound, variables_sound}

-- a layout by whether there is a `$$`
abbrev layout_by : Bool → ℕ → Layout
layout_by b n = if b then record { own = 0; current = 0; offset = Some 1; first = 2 } else record { own = n; current = 0; offset = None; first = n }

-- the body of a hook has an offset where it has `$$`
offset_there : (b : Bool) (n : ℕ) → is_some (layout_by b n).offset ≡ b
offset_there true n = refl
offset_there false n = refl

hook_stands : (functions : List Function) (x : Hook) → StmtStands (is_some (hook_layout x).offset) functions x.body → StmtStands (has_current x.of) functions x.body
hook_stands functions x s = subst (λ b. StmtStands b functions x.body) (offset_there (has_current x.of) (length x.parameters)) s

module _ (members : MembersAreListed) (entered : FunctionsAreEntered) (currents : CurrentsAreListed) (list : Typed) (constants : ConstantsFit list)
    (functions : (f : ℕ) (x : Function) → slice_get list.functions f ≡ Some x → FunctionPasses list x) where
  -- what any program of the list has
  tables : (p : Plain) (shapes : Shapes) → IsProgramOf list p shapes → Tables list p shapes
  tables p shapes is =
      record {
        members = λ u x at. (members list p shapes is u x at).0;
        parameters = λ u x at. (members list p shapes is u x at).1;
        functions = λ f x at. entered list p shapes is f x at (functions f x at).places;
        constants = constants;
      }

  module _ (hooks : (h : ℕ) (x : Hook) → slice_get list.hooks h ≡ Some x → HookPasses list (type_for list h) x) where
    -- the statement of a body of a hook, where `$$` is of a kind
    abbrev BodyFits : Plain → Shapes → Hook → Kind → Type 0
    BodyFits p shapes x k =
        StmtFits p shapes (globals_of list) (hook_layout x) (handed_kinds (globals_of list).ranges k x ++ slot_kinds (globals_of list).ranges x.slots) (hook_unit x.of) (OfHook (is_foreach x.of)) false x.body

    hook_fits : (p : Plain) (shapes : Shapes) → Tables list p shapes → (h : ℕ) (x : Hook) → slice_get list.hooks h ≡ Some x → BodyFits p shapes x (kind_at (currents_of list) h)
    hook_fits p shapes t h x is =
        let passes = hooks h x is in
        subst (BodyFits p shapes x) (sym (current_listed currents list h x is passes.once)) (passes.body.fits p shapes t)

    module _ (units : (u : ℕ) (x : TypedUnit) → slice_get list.units u ≡ Some x → UnitPasses list u x) where
      unit_fits : (p : Plain) (shapes : Shapes) → Tables list p shapes → (u : ℕ) (x : TypedUnit) → slice_get list.units u ≡ Some x → UnitFits list p shapes u x
      unit_fits p shapes t u x is =
          let passes = units u x is in
          record {
            variables = (variables_sound list u x x.variables passes.variables).fits p shapes t;
            parts = (parts_sound currents list hooks u x (last_order (module_order x.«module» None list.orders) x.orders) (parts x.parts) passes.parts).fits;
          }

      list_fits_in : (p : Plain) (shapes : Shapes) → Tables list p shapes → ListFits list p shapes
      list_fits_in p shapes t =
          record {
            bodies = record { functions = λ f x is. (functions f x is).fits p shapes t; hooks = λ h x is. hook_fits p shapes t h x is };
            places = record { functions = λ f x is. (functions f x is).places; hooks = λ h x is. (hooks h x is).body.places };
            arguments = record { functions = λ f x is. (functions f x is).stands; hooks = λ h x is. hook_stands list.functions x (hooks h x is).body.stands };
            events = λ h u name x is of. handed_nothing u name x.of x.parameters of (hooks h x is).handed;
            units = λ u x is. unit_fits p shapes t u x is;
          }

      pub list_passes : ListPasses list
      list_passes =
          record {
            fits = λ p shapes is. list_fits_in p shapes (tables p shapes is);
            bodies = record { functions = λ f x is. (functions f x is).built; hooks = λ h x is. (hooks h x is).body.built };
            units = λ u x is.
                let passes = units u x is in
                record {
                  plain = passes.plain;
                  variables = (variables_sound list u x x.variables passes.variables).are_built;
                  parts = (parts_sound currents list hooks u x (last_order (module_order x.«module» None list.orders) x.orders) (parts x.parts) passes.parts).are_built;
                  hooks = λ name h y at of. (hooks h y at).body.built;
                };
            literals = record { functions = λ f x is. (functions f x is).literals; hooks = λ h x is. (hooks h x is).body.literals };
            values = λ u x is. (variables_sound list u x x.variables (units u x is).variables).are_literals;
          }
