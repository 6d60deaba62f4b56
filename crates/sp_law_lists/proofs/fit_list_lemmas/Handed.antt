-- Bodies and what is handed to them, as the program of a list has them.
use Rattle.std.proofs.Common.{◌≡◌, ℕ, ◌==◌, Bool, true, false, ◌||◌, not, List, [], ◌∷◌, ◌++◌, Option, Some, None, refl, sym, ap, subst, ◌∙◌}
use Rattle.std.specs.Prelude.{length, slice_get, if◌then◌else◌}
use Rattle.std.proofs.lemmas.Bool.{and_parts}
use Rattle.sp_words.specs.declared.words.HookName.{HookName}
use Rattle.sp_words.specs.declared.words.HookName.TheVariants.{Init, Done, Error, Finally}
use Rattle.sp_methods.specs.Kinds.{Kind, Unsigned}
use Rattle.sp_types.specs.Types.{Ty}
use Rattle.sp_typed_units.specs.declared.declarations.Hook.{Hook}
use Rattle.sp_typed_units.specs.declared.declarations.HookOf.{HookOf}
use Rattle.sp_typed_units.specs.declared.declarations.HookOf.TheVariants as hook_of
use Rattle.sp_typed_units.specs.declared.declarations.Parameter.{Parameter}
use Rattle.sp_typed_units.specs.declared.declarations.Typed.{Typed}
use Rattle.sp_typed_units.specs.declared.items.Field.{Field}
use Rattle.sp_meaning_states.specs.Types.{kind_of_type}
use Rattle.sp_meaning.specs.Globals.{globals_of}
use Rattle.sp_meaning.specs.Hooks.{has_current, is_foreach, is_hook, is_of_unit}
use Rattle.sp_code.specs.Shapes.{OfHook}
use Rattle.sp_code_programs.specs.exprs.Code.{kind_at}
use Rattle.sp_code_programs.specs.programs.Routines.{hook_unit, parameter_kinds, slot_kinds}
use Rattle.sp_code_programs.specs.programs.Currents.{hooked_field, current_type, currents_of}
use Rattle.sp_law_programs.specs.whole_program.Laws.{CurrentsAreListed}
use Rattle.sp_law_lists.specs.fit_body.Passes.{StmtPasses}
use Rattle.sp_law_lists.specs.fit_list.Locals.{parameter_types}
use Rattle.sp_law_lists.specs.fit_list.Stored.{stored_type, type_for}
use Rattle.sp_law_lists.specs.fit_list.Bodies.{parameter_layout, is_each_unit, is_empty, takes_nothing, current_of, HookBodyPasses}

-- the kinds of the locals of a body that is handed its parameters
pub locals_listed : (ranges : List ℕ) (xs : List Parameter) (ts : List Ty) → slot_kinds ranges (parameter_types xs ++ ts) ≡ parameter_kinds ranges xs ++ slot_kinds ranges ts
locals_listed ranges [] ts = refl
locals_listed ranges (x ∷ xs) ts = ap (λ (ks : List Kind). kind_of_type ranges x.ty ∷ ks) (locals_listed ranges xs ts)

-- a body of a hook without `$$` is one
pub plain_hook : (list : Typed) (o : Option Ty) (x : Hook) → has_current x.of ≡ false
    → StmtPasses list (parameter_layout (length x.parameters)) (parameter_kinds (globals_of list).ranges x.parameters ++ slot_kinds (globals_of list).ranges x.slots) (hook_unit x.of) (OfHook (is_foreach x.of)) false x.body
    → HookBodyPasses list o x
plain_hook list o x without h =
    let ranges = (globals_of list).ranges in
    let current = kind_of_type ranges (current_of x.of o) in
    subst
    (λ (b : Bool).
    StmtPasses list (if b then record { own = 0; current = 0; offset = Some 1; first = 2 } else parameter_layout (length x.parameters)) ((if b then current ∷ Unsigned ∷ [] else parameter_kinds ranges x.parameters) ++ slot_kinds ranges x.slots) (hook_unit x.of) (OfHook (is_foreach x.of)) false x.body)
    (sym without)
    h

each_unit : (x y : HookName) → is_hook x y ≡ true → is_each_unit y ≡ true
each_unit Init Init h = refl
each_unit Done Done h = refl
each_unit Error Error h = refl
each_unit Finally Finally h = refl
each_unit _ _ h = absurd (let z : false ≡ true = h in cc)

none_left : (xs : List Parameter) → is_empty xs ≡ true → xs ≡ []
none_left [] h = refl
none_left (x ∷ xs) h = absurd (let z : false ≡ true = h in cc)

unless : (a b : Bool) → a ≡ true → (not a || b) ≡ true → b ≡ true
unless true b e h = h
unless false b e h = absurd (let z : false ≡ true = e in cc)

-- a body of a hook that each unit has is handed nothing
pub handed_nothing : (u : ℕ) (name : HookName) (of : HookOf) (xs : List Parameter) → is_of_unit u name of ≡ true → takes_nothing of xs ≡ true → xs ≡ []
handed_nothing u name (hook_of.Unit v other) xs is h =
    let named = and_parts (u == v) (is_hook name other) is in
    none_left xs (unless (is_each_unit other) (is_empty xs) (each_unit name other named.1) h)
handed_nothing u name _ xs is h = absurd (let z : false ≡ true = is in cc)

-- what `$$` is in a body that is run once, by what its field stores
current_once : (of : HookOf) (f : Option Field) → is_foreach of ≡ false → current_type of f ≡ current_of of (stored_type f)
current_once (hook_of.Field u m) (Some f) h = refl
current_once (hook_of.Field u m) None h = refl
current_once (hook_of.Anonymous u) (Some f) h = refl
current_once (hook_of.Anonymous u) None h = refl
current_once (hook_of.Elements u m) f h = absurd (let z : true ≡ false = h in cc)
current_once (hook_of.AnonymousElements u) f h = absurd (let z : true ≡ false = h in cc)
current_once hook_of.Nothing f h = refl
current_once (hook_of.Unit u name) f h = refl

-- its kind is the one that the program has
pub current_listed : CurrentsAreListed → (list : Typed) (h : ℕ) (x : Hook) → slice_get list.hooks h ≡ Some x → is_foreach x.of ≡ false
    → kind_at (currents_of list) h ≡ kind_of_type (globals_of list).ranges (current_of x.of (type_for list h))
current_listed law list h x is once =
    law list h x is ∙ ap (kind_of_type (globals_of list).ranges) (current_once x.of (hooked_field h list.units) once)
