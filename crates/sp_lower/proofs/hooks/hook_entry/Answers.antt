use Rattle.std.proofs.Common.{ℕ, List, ap, ◌∙◌}
use Rattle.sp_value.specs.Val.{Val}
use Rattle.sp_types.specs.Types.{Ty}
use Rattle.sp_meaning_states.specs.Scopes.{Called}
use Rattle.sp_meaning.specs.Globals.{globals_of}
use Rattle.sp_meaning.specs.Calls.{zero_slots}
use Rattle.sp_meaning.specs.Hooks.{is_foreach}
use Rattle.sp_code.specs.Machine.{Body}
use Rattle.sp_code.specs.Programs.{name_of, told_of}
use Rattle.sp_code_programs.specs.units.Bodies.{handed}
use Rattle.sp_meaning.specs.Names.{hook_name}
use Rattle.sp_lower.proofs.hooks.hook_entry.Goals as goal

abbrev entry_with : Called → ℕ → List Val → List ℕ → ℕ → Body
entry_with called takes fresh name told = record { start = 0; called = called; takes = takes; fresh = fresh; name = name; told = told }

pub returns : goal.returns
returns c =
    let list = c.args.list.now in
    let x = c.args.x.now in
    let of = c.in_ok-of.of in
    let is = c.in_ok-of.ensures in
    let name = hook_name list.units x.of in
    let called = Called.Hook (is_foreach x.of) in
    let fresh = c.in_ok-fresh.fresh in
    ap (λ (b : Called). entry_with b c.in_ok-takes.takes fresh (name_of of) (told_of of)) is.called
    ∙ ap (λ (n : ℕ). entry_with called n fresh (name_of of) (told_of of)) c.in_ok-takes.ensures
    ∙ ap (λ (vs : List Val). entry_with called (handed x) vs (name_of of) (told_of of)) (c.in_ok-fresh.ensures ∙ ap (λ (l : List Ty). zero_slots (globals_of list).ranges l) c.as_slice.ensures)
    ∙ ap (λ (n : List ℕ). entry_with called (handed x) (zero_slots (globals_of list).ranges x.slots) n (told_of of)) is.named
    ∙ ap (entry_with called (handed x) (zero_slots (globals_of list).ranges x.slots) name) is.told
