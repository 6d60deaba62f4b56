-- The code of units leads only further on, to what leaves the unit, and so counts a turn in each cycle.
use Rattle.std.proofs.Common.{◌≡◌, ℕ, ◌+◌, List, [], ◌∷◌, ◌++◌, length, Option, Some, None, refl, arith, length-append}
use Rattle.std.specs.Prelude.{slice_get}
use Rattle.sp_words.specs.declared.words.HookName.{HookName}
use Rattle.sp_words.specs.declared.words.HookName.TheVariants.{Init, Done, Error, Finally}
use Rattle.sp_methods.specs.Kinds.{Kind}
use Rattle.sp_typed.specs.Exprs.{Expr}
use Rattle.sp_typed_units.specs.declared.declarations.Member.{Member}
use Rattle.sp_typed_units.specs.declared.declarations.Typed.{Typed}
use Rattle.sp_typed_units.specs.declared.declarations.Unit.{Unit as TypedUnit}
use Rattle.sp_typed_units.specs.declared.declarations.Variable.{Variable}
use Rattle.sp_typed_units.specs.Parts.{Part, Parts, field, no_parts, more_parts, parts}
use Rattle.sp_meaning.specs.Globals.{globals_of}
use Rattle.sp_meaning.specs.Hooks.{hook_bodies, is_of_unit}
use Rattle.sp_meaning.specs.Integers.{IntegerForm, integer_field, last_order, module_order}
use Rattle.sp_code_meaning.specs.Units.{offset_slot, value_slot, unit_layout}
use Rattle.sp_code.specs.declared.instr.Instr.TheVariants as does
use Rattle.sp_code.specs.Shapes.{Shape, OfUnit, OfEnding, OfFailing, push, read_kind}
use Rattle.sp_code_programs.specs.exprs.Marked.{Marked, mark}
use Rattle.sp_code_programs.specs.exprs.Sizes.{expr_size}
use Rattle.sp_code_programs.specs.exprs.Code.{kind_of, kind_at, expr_code}
use Rattle.sp_code_programs.specs.units.Bodies.{loads_code, hooks_code}
use Rattle.sp_code_programs.specs.units.Units.{unit_shape, member_code, member_kind, stored_code, kept_code, field_code, where_integer, part_code, parts_code, begin_code, variable_code, variables_code, unit_hook_code, unit_parts_code}
use Rattle.sp_law_code.proofs.exprs_lemmas.Sizes.{expr_sized}
use Rattle.sp_law_code.specs.turns.Falling.{AllTurn}
use Rattle.sp_law_code.specs.turns.Heights.{falling}
use Rattle.sp_law_code.specs.turns.Laws.{UnitsTurn}
use Rattle.sp_law_code.proofs.turns_lemmas.Forward.{IsForward, to_next, then_forward, fall_both, heights_front, heights_back, falling_counted, straight_falls}
use Rattle.sp_law_code.proofs.turns_lemmas.Exprs.{expr_forward}
use Rattle.sp_law_code.proofs.turns_lemmas.Low.{low_both, falling_low}

-- a piece behind another, whose size is that of its code
both_forward : (pc : ℕ) (a b : List Marked) → IsForward 0 pc a → IsForward 0 (pc + length a) b → IsForward 0 pc (a ++ b)
both_forward pc a b f g = then_forward 0 pc (length a) a b refl f g

-- the values that a body of a hook takes, and the bodies, each of which is called by a turn
loads_forward : (s : Shape) (ls : List ℕ) (pc : ℕ) → IsForward 0 pc (loads_code s ls)
loads_forward s [] pc = tt
loads_forward s (l ∷ ls) pc = (to_next pc _ 0, loads_forward (push (kind_at s.locals l) s) ls (pc + 1))

hooks_forward : (s : Shape) (functions : ℕ) (ls hs : List ℕ) (pc : ℕ) → IsForward 0 pc (hooks_code s functions ls hs)
hooks_forward s functions ls [] pc = tt
hooks_forward s functions ls (h ∷ hs) pc =
    let n = length (loads_code s ls) in
    both_forward pc (loads_code s ls) _ (loads_forward s ls pc) (tt, hooks_forward s functions ls hs (pc + n + 1))

member_forward : (u : ℕ) (s : Shape) (k : Kind) (m pc : ℕ) → IsForward 0 pc (member_code u s k m)
member_forward u s k m pc = (to_next pc 1 0, (to_next (pc + 1) 0 0, tt))

stored_forward : (u : ℕ) (s : Shape) (k : Kind) (member : Option ℕ) (pc : ℕ) → IsForward 0 pc (stored_code u s k member)
stored_forward u s k (Some m) pc = member_forward u s k m pc
stored_forward u s k None pc = (to_next pc 0 0, tt)

kept_forward : (u : ℕ) (s : Shape) (k : Kind) (l : ℕ) (member : Option ℕ) (pc : ℕ) → IsForward 0 pc (kept_code u s k l member)
kept_forward u s k l (Some m) pc = (to_next pc 2 0, member_forward u s k m (pc + 1))
kept_forward u s k l None pc = tt

module _ (list : Typed) where
  field_forward : (u : ℕ) (s : Shape) (form : IntegerForm) (member : Option ℕ) (hs : List ℕ) (pc : ℕ) → IsForward 0 pc (field_code list u s form member hs)
  field_forward u s form member [] pc = (to_next pc _ 0, stored_forward u s (read_kind form.signed) member (pc + 1))
  field_forward u s form member (h ∷ hs) pc =
      let k = read_kind form.signed in
      let l = value_slot form.signed in
      let kept = kept_code u s k l member in
      let at = pc + 1 + 1 + 1 + 1 + 1 in
      let rest = both_forward at kept _ (kept_forward u s k l member at) (hooks_forward s (length list.functions) (l ∷ offset_slot ∷ []) (h ∷ hs) (at + length kept)) in
      (to_next pc _ 0, (to_next (pc + 1) _ 0, (to_next (pc + 1 + 1) _ 0, (to_next (pc + 1 + 1 + 1) _ 0, (to_next (pc + 1 + 1 + 1 + 1) _ 0, rest)))))

  integer_forward : (o : Option IntegerForm) (go : IntegerForm → List Marked) (pc : ℕ) → ((form : IntegerForm) → IsForward 0 pc (go form)) → IsForward 0 pc (where_integer list o go)
  integer_forward (Some form) go pc h = h form
  integer_forward None go pc h = tt

  part_forward : (u : ℕ) (s : Shape) (o : Option ℕ) (p : Part) (pc : ℕ) → IsForward 0 pc (part_code list u s o p)
  part_forward u s o (field f) pc = integer_forward (integer_field o f) _ pc (λ form. field_forward u s form f.member f.hooks pc)
  part_forward u s o _ pc = tt

  parts_forward : (u : ℕ) (s : Shape) (o : Option ℕ) (ps : Parts) (pc : ℕ) → IsForward 0 pc (parts_code list u s o ps)
  parts_forward u s o no_parts pc = tt
  parts_forward u s o (more_parts p ps) pc =
      let ms = part_code list u s o p in
      both_forward pc ms _ (part_forward u s o p pc) (parts_forward u s o ps (pc + length ms))

  begin_forward : (u : ℕ) (s : Shape) (ms : List Member) (vs : List Variable) (pc : ℕ) → IsForward 0 pc (begin_code list u s ms vs)
  begin_forward u s ms [] pc = tt
  begin_forward u s ms (v ∷ vs) pc =
      let k = member_kind (globals_of list).ranges (slice_get ms v.member) in
      (to_next pc _ 0, both_forward (pc + 1) (member_code u s k v.member) _ (member_forward u s k v.member (pc + 1)) (begin_forward u s ms vs (pc + 1 + 2)))

  variable_forward : (u : ℕ) (s : Shape) (m : ℕ) (value : Option Expr) (pc : ℕ) → IsForward 0 pc (variable_code list u s pc m value)
  variable_forward u s m (Some e) pc =
      let n = expr_size unit_layout e in
      then_forward 0 pc n (expr_code (globals_of list) unit_layout s pc e) _ (expr_sized (globals_of list) unit_layout s pc e) (expr_forward (globals_of list) unit_layout s pc e)
      (member_forward u s (kind_of (globals_of list) unit_layout e) m (pc + n))
  variable_forward u s m None pc = tt

  variables_forward : (u : ℕ) (s : Shape) (vs : List Variable) (pc : ℕ) → IsForward 0 pc (variables_code list u s pc vs)
  variables_forward u s [] pc = tt
  variables_forward u s (v ∷ vs) pc =
      let ms = variable_code list u s pc v.member v.value in
      both_forward pc ms _ (variable_forward u s v.member v.value pc) (variables_forward u s vs (pc + length ms))

  unit_hook_forward : (u : ℕ) (s : Shape) (name : HookName) (pc : ℕ) → IsForward 0 pc (unit_hook_code list u s name)
  unit_hook_forward u s name pc = hooks_forward s (length list.functions) [] (hook_bodies (is_of_unit u name) list.hooks) pc

  unit_parts_forward : (u : ℕ) (x : TypedUnit) (pc : ℕ) → IsForward 0 pc (unit_parts_code list pc u x)
  unit_parts_forward u x pc =
      let s = unit_shape u OfUnit in
      let o = last_order (module_order x.«module» None list.orders) x.orders in
      let begins = begin_code list u s x.members x.variables in
      let variables = variables_code list u s (pc + length begins) x.variables in
      let prepared = begins ++ variables in
      let ready = prepared ++ unit_hook_code list u s Init in
      let all = ready ++ parts_code list u s o (parts x.parts) in
      both_forward pc all _
      (both_forward pc ready _
      (both_forward pc prepared _ (both_forward pc begins variables (begin_forward u s x.members x.variables pc) (variables_forward u s x.variables (pc + length begins)))
      (unit_hook_forward u s Init (pc + length prepared)))
      (parts_forward u s o (parts x.parts) (pc + length ready)))
      (unit_hook_forward u s Done (pc + length all))

-- code that leads only further on, to what leaves the unit, counts a turn in each cycle
leaving_turns : (s : Shape) (pc : ℕ) (ms : List Marked) → IsForward 0 pc ms → AllTurn pc (ms ++ mark s does.LeaveUnit ∷ [])
leaving_turns s pc ms forward =
    let n = length ms in
    let hs = falling 1 n in
    let long : length (ms ++ mark s does.LeaveUnit ∷ []) ≡ n + 1 = omega (arith, length-append {A = Marked}) in
    record {
      heights = hs ++ 1 ∷ [];
      count = omega (arith, length-append {A = ℕ}, falling_counted 1 n, long);
      low = low_both (1 + n) (length (ms ++ mark s does.LeaveUnit ∷ [])) hs (1 ∷ []) (omega (arith, long)) (falling_low 1 n) (omega (arith, long), tt);
      fall = λ height have.
          let last = heights_back height pc n hs (1 ∷ []) (falling_counted 1 n) have in
          fall_both height pc n ms (mark s does.LeaveUnit ∷ []) refl (straight_falls height pc 1 n ms refl forward (omega (arith, last.0)) (heights_front height pc hs (1 ∷ []) have)).0 (tt, tt);
    }

pub units_turn : UnitsTurn
units_turn list start ending failing u x =
    let s = unit_shape u OfEnding in
    let t = unit_shape u OfFailing in
    let errors = unit_hook_code list u t Error in (
      leaving_turns (unit_shape u OfUnit) start (unit_parts_code list start u x) (unit_parts_forward list u x start),
      leaving_turns s ending (unit_hook_code list u s Finally) (unit_hook_forward list u s Finally ending),
      leaving_turns t failing (errors ++ unit_hook_code list u t Finally) (both_forward failing errors _ (unit_hook_forward list u t Error failing) (unit_hook_forward list u t Finally (failing + length errors))),
    )
