-- A program that runs a unit with a body of `%done`, to which the laws apply, and what they say of it; fuels that are too small and such as
-- suffice; a unit with a hook of a field and a variable, which is built and is finished; and units that aren't built.
use Rattle.std.specs.Prelude.{◌≡◌, ℕ, zero, suc, Bool, true, false, List, [], ◌∷◌, Some, None, refl, slice_get, unwrap_or}
use Rattle.std.proofs.Common.{subst, ap, arith}
use Rattle.sp_base.specs.Input.{Close, held_open, ended}
use Rattle.sp_numbers.specs.declared.width.Width.TheVariants.{W8}
use Rattle.sp_words.specs.declared.words.HookName.{HookName}
use Rattle.sp_events.specs.declared.event.What.{What}
use Rattle.sp_value.specs.Val.{unit}
use Rattle.sp_methods.specs.Kinds.{Unsigned}
use Rattle.sp_types.specs.declared.words.Word.TheVariants as word_is
use Rattle.sp_types.specs.Types.{word}
use Rattle.sp_typed.specs.declared.words.LeafOp.TheVariants as leaf_is
use Rattle.sp_typed.specs.declared.stmt_words.BareOp.TheVariants as bare_is
use Rattle.sp_typed.specs.Exprs.{Expr, leaf}
use Rattle.sp_typed.specs.Stmts.{Stmt, bare, while_loop, block, no_stmts}
use Rattle.sp_typed_units.specs.declared.declarations.Hook.{Hook}
use Rattle.sp_typed_units.specs.declared.declarations.HookOf.TheVariants as hook_of
use Rattle.sp_typed_units.specs.declared.declarations.Member.{Member}
use Rattle.sp_typed_units.specs.declared.declarations.MemberKind.TheVariants as member_is
use Rattle.sp_typed_units.specs.declared.declarations.Typed.{Typed}
use Rattle.sp_typed_units.specs.declared.declarations.Unit.{Unit as TypedUnit}
use Rattle.sp_typed_units.specs.declared.declarations.Variable.{Variable}
use Rattle.sp_typed_units.specs.declared.readings.ReadOp.{ReadOp}
use Rattle.sp_typed_units.specs.declared.readings.ReadOp.TheVariants as read_is
use Rattle.sp_typed_units.specs.Specs.{read}
use Rattle.sp_typed_units.specs.Parts.{Part, field}
use Rattle.sp_meaning_states.specs.States.{Reading, End, Gives, Fine, Failed, Backs, Need, Unfinished, Result, Ends, first, end_of, state_of}
use Rattle.sp_meaning_states.specs.Reads.{Ask, Read, reads}
use Rattle.sp_meaning.specs.Globals.{globals_of}
use Rattle.sp_code_meaning.specs.Units.{unit_means}
use Rattle.sp_code.specs.Machine.{Body, Plain, Config, step}
use Rattle.sp_code.specs.Runs.{Comes}
use Rattle.sp_code.specs.Shapes.{UnitKinds, BodyKinds, Shapes, OfHook, body_shape}
use Rattle.sp_law_machine.specs.ends.Ending.{IsStop}
use Rattle.sp_code_programs.specs.units.Bodies.{hook_entry}
use Rattle.sp_code_programs.specs.units.Units.{slot_kinds}
use Rattle.sp_law_code.specs.units.Fits.{UnitFits}
use Rattle.sp_law_programs.specs.finished_bodies.Finished.{HookFits, FunctionsFit}
use Rattle.sp_law_programs.specs.unit_told.Told.{started, meant}
use Rattle.sp_law_programs.specs.unit_told.Rows.{here, byte, one_field, hook, list, name, names, program, starts, byte_kinds, shapes, fits, kinds, none, none_is_steady}
use Rattle.sp_law_programs.specs.finished_units.Built.{HookIsBuilt, PartIsBuilt, UnitIsBuilt, HooksFit}
use Rattle.sp_law_programs.specs.finished_units.Fuel.{IsUnitEnd, UnitsAreFinished}
use Rattle.sp_law_programs.specs.finished_units.Meaning.{meaning, RunsUnit}
use Rattle.sp_law_programs.specs.finished_units.Laws.{StopsTell, MeaningsStay, IsLast, EndedInputsDecide}

-- there is no function, and the body of the hook fits as it is run
functions_fit : FunctionsFit program shapes list
functions_fit f x ins k is enters = absurd (let q : None ≡ Some x = is in cc)

hooks_fit : HooksFit program shapes list
hooks_fit zero x u ins is built enters = subst (λ x. HookFits program shapes list x u ins) (ap (λ o. unwrap_or o hook) is) (record { slots = []; fresh = λ units. tt; body = tt; built = tt })
hooks_fit (suc h) x u ins is built enters = absurd (let q : None ≡ Some x = is in cc)

-- the unit is built
hooks_built : (n : HookName) (h : ℕ) (y : Hook) → slice_get list.hooks h ≡ Some y → HookIsBuilt list y
hooks_built n zero y is = subst (λ y. HookIsBuilt list y) (ap (λ o. unwrap_or o hook) is) tt
hooks_built n (suc h) y is = absurd (let q : None ≡ Some y = is in cc)

built : UnitIsBuilt list 0 one_field
built = record { plain = refl; variables = tt; parts = ((tt, tt), tt); hooks = λ n h y is of. hooks_built n h y is }

-- so the program runs it
runs : RunsUnit program shapes names list 0 0 []
runs = record { starts = starts; functions = functions_fit; hooks = hooks_fit; fits = fits; built = built; kinds = byte_kinds; listed = refl; are = kinds; arguments = tt }

-- what the unit means over these bytes
abbrev over : List ℕ → Close → Result
over s close = meaning program names list (reads none s close) 0 []

it_waits : over [] held_open ≡ Ends (Need 0) [] (state_of (over [] held_open))
it_waits = refl

it_is_given : over (7 ∷ []) held_open ≡ Ends (Gives (unit 0)) (What.Hook name [] ∷ []) (state_of (over (7 ∷ []) held_open))
it_is_given = refl

-- wherever a machine stops that was started on it, over one byte, it has told the hook, and nothing else
it_tells_the_hook : StopsTell → (d : Config) (es : List What) → Comes program (reads none (7 ∷ []) held_open) (started 0 []) es d → IsStop (step program (reads none (7 ∷ []) held_open) d) → es ≡ What.Hook name [] ∷ []
it_tells_the_hook law d es comes stop = (law program shapes names list 0 0 [] runs (reads none (7 ∷ []) held_open) d es comes stop).events

-- whatever follows the byte changes nothing
it_stays : MeaningsStay → (t : List ℕ) (close : Close) → over (7 ∷ t) close ≡ over (7 ∷ []) held_open
it_stays law t close = (law program shapes names list 0 0 [] runs none none_is_steady (7 ∷ []) t close).1 (λ need. need)

-- it never waits for more of an ended input
it_is_decided : EndedInputsDecide → (s : List ℕ) → IsLast (end_of (over s ended))
it_is_decided law s = law program shapes names list 0 0 [] runs none s

-- such a unit doesn't end well without its instance, or with another one, or unfinished
fine_is_no_end : IsUnitEnd 0 Fine → ⊥
fine_is_no_end h = h

no_step_back : IsUnitEnd 0 Backs → ⊥
no_step_back h = h

unfinished_is_no_end : IsUnitEnd 0 Unfinished → ⊥
unfinished_is_no_end h = h

a_wait_is_not_the_last : IsLast (Need 0) → ⊥
a_wait_is_not_the_last h = h

-- a body of `%done` that is a loop without end: its turns are counted from 0 behind the byte
abbrev endless : Typed
endless = record list { hooks = (record hook { body = while_loop (leaf (record { span = here; ty = word word_is.Bool; op = leaf_is.True })) (block no_stmts) }) ∷ [] }

abbrev at_fuel : ℕ → End
at_fuel n = end_of (meant program names endless (reads none (7 ∷ []) held_open) n 0 [])

abbrev is_failed : End → Bool
is_failed (Failed e) = true
is_failed how = false

three_are_too_few : at_fuel 3 ≡ Unfinished
three_are_too_few = refl

five_suffice : is_failed (at_fuel 5) ≡ true
five_suffice = refl

more_are_the_same : meant program names endless (reads none (7 ∷ []) held_open) 9 0 [] ≡ meaning program names endless (reads none (7 ∷ []) held_open) 0 []
more_are_the_same = refl

-- A unit with a byte that is read so, whose hook has the body 1, and a variable that begins with 7.
abbrev read_as : ReadOp → Part
read_as o = field (record { span = here; member = Some 0; taken = false; ty = byte; spec = read (record { span = here; ty = byte; op = o }); attributes = []; condition = None; sink = None; hooks = 1 ∷ [] })

abbrev seven : Expr
seven = leaf (record { span = here; ty = byte; op = leaf_is.Number 7 })

abbrev variable : Variable
variable = record { member = 1; span = here; written = record { span = here; unnamed = None; misplaced = None }; taken = false; value = Some seven }

abbrev two_members : List Member
two_members = record { name = []; kind = member_is.Field; ty = byte } ∷ record { name = []; kind = member_is.Variable; ty = byte } ∷ []

abbrev with_part : Part → TypedUnit
with_part x = record one_field { members = two_members; variables = variable ∷ []; parts = x ∷ [] }

abbrev two_fields : TypedUnit
two_fields = with_part (read_as read_is.Int)

-- the body of the field's hook
abbrev of_field : Stmt → Hook
of_field b = record hook { of = hook_of.Field 0 0; body = b }

abbrev two_hooks : Typed
two_hooks = record list { units = two_fields ∷ []; hooks = hook ∷ of_field hook.body ∷ [] }

two_built : (n : HookName) (h : ℕ) (y : Hook) → slice_get two_hooks.hooks h ≡ Some y → HookIsBuilt two_hooks y
two_built n zero y is = subst (λ y. HookIsBuilt two_hooks y) (ap (λ o. unwrap_or o hook) is) tt
two_built n (suc zero) y is = subst (λ y. HookIsBuilt two_hooks y) (ap (λ o. unwrap_or o hook) is) tt
two_built n (suc (suc h)) y is = absurd (let q : None ≡ Some y = is in cc)

it_is_built : UnitIsBuilt two_hooks 0 two_fields
it_is_built = record { plain = refl; variables = (tt, tt); parts = ((tt, ((of_field hook.body, refl, refl, tt), tt)), tt); hooks = λ n h y is of. two_built n h y is }

-- the entries of the bodies, and the kinds: the body of the field's hook has `$$` and the offset
abbrev entry : ℕ → Hook → Body
entry at x = hook_entry (globals_of two_hooks) at name x

abbrev with_bodies : Plain
with_bodies = record program { bodies = entry 0 hook ∷ entry 1 (of_field hook.body) ∷ [] }

abbrev two_kinds : UnitKinds
two_kinds = record { parameters = []; members = Unsigned ∷ Unsigned ∷ []; locals = slot_kinds }

abbrev no_locals : BodyKinds
no_locals = record { locals = [] }

abbrev two_locals : BodyKinds
two_locals = record { locals = Unsigned ∷ Unsigned ∷ [] }

abbrev body_shapes : Shapes
body_shapes = record { at = body_shape (Some 0) (OfHook false) [] ∷ body_shape (Some 0) (OfHook false) two_locals.locals ∷ []; units = two_kinds ∷ []; bodies = no_locals ∷ two_locals ∷ [] }

it_fits : UnitFits with_bodies body_shapes two_hooks 0 two_fields
it_fits =
    record {
      begins = ((two_kinds, refl, refl), (λ units. (W8, 0, refl)), tt);
      variables = (((λ units. (W8, 7, refl)), (two_kinds, refl, refl)), tt);
      parts = (((two_kinds, refl, refl), ((entry 1 (of_field hook.body), two_locals, refl, refl, refl, record { others = []; takes = refl; locals = refl; fresh = λ units. tt }, refl), tt)), tt);
      init = tt;
      done = ((entry 0 hook, no_locals, refl, refl, refl, record { others = []; takes = refl; locals = refl; fresh = λ units. tt }, refl), tt);
      error = tt;
      finally = tt;
    }

no_functions : FunctionsFit with_bodies body_shapes two_hooks
no_functions f x ins k is enters = absurd (let q : None ≡ Some x = is in cc)

two_fit : HooksFit with_bodies body_shapes two_hooks
two_fit zero x u ins is built enters =
    subst (λ x. HookFits with_bodies body_shapes two_hooks x u ins) (ap (λ o. unwrap_or o hook) is) (record { slots = []; fresh = λ units. tt; body = tt; built = tt })
two_fit (suc zero) x u ins is built enters =
    subst (λ x. HookFits with_bodies body_shapes two_hooks x u ins) (ap (λ o. unwrap_or o hook) is) (record { slots = []; fresh = λ units. tt; body = tt; built = tt })
two_fit (suc (suc h)) x u ins is built enters = absurd (let q : None ≡ Some x = is in cc)

-- so it gives its instance, fails or waits, whatever is read
it_ends : UnitsAreFinished → (reads : Reading → Ask → Read) → IsUnitEnd 0 (end_of (unit_means program.names names two_hooks program.limits reads 5 0 [] first))
it_ends law reads =
    law with_bodies body_shapes program.names names two_hooks program.limits reads no_functions two_fit 0 two_fields refl it_fits it_is_built two_kinds [] refl
    (record { takes = refl; parameters = refl; members = refl; locals = refl }) 5 [] None [] first [] (omega arith) (record { told = refl; instances = tt; self = tt; locals = tt }) tt

-- a part that is no integer, a hook that isn't in the list, and a filter
bytes_are_not_built : UnitIsBuilt two_hooks 0 (with_part (read_as read_is.Bytes)) → ⊥
bytes_are_not_built h = h.parts.0.0

no_such_hook : PartIsBuilt list None (read_as read_is.Int) → ⊥
no_such_hook (t, ((x, is, other, b), rest)) = absurd (let q : None ≡ Some x = is in cc)

a_filter_is_not_built : UnitIsBuilt list 0 (record one_field { filter = true }) → ⊥
a_filter_is_not_built h = let q : false ≡ true = h.plain in cc

-- a body that stops has no meaning
a_stop_is_not_built : HookIsBuilt two_hooks (of_field (bare (record { span = here; op = bare_is.Stop true }))) → ⊥
a_stop_is_not_built h = h
