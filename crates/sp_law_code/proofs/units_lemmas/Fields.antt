-- Variables, fields and hooks of a unit: their code does what they mean.
use Rattle.std.proofs.Common.{◌≡◌, ℕ, ◌+◌, false, List, [], ◌∷◌, ◌++◌, length, Option, Some, None, refl, subst, arith}
use Rattle.std.specs.Prelude.{slice_get}
use Rattle.sp_base.specs.declared.kinds.PKind.TheVariants.{NoMatch}
use Rattle.sp_words.specs.declared.words.HookName.{HookName}
use Rattle.sp_value.specs.Val.{Val, unit}
use Rattle.sp_value.specs.Integers.{integer_of}
use Rattle.sp_methods.specs.Kinds.{Kind, Unsigned, UnitOf}
use Rattle.sp_typed.specs.Exprs.{Expr}
use Rattle.sp_typed_units.specs.declared.declarations.Member.{Member}
use Rattle.sp_typed_units.specs.declared.declarations.Typed.{Typed}
use Rattle.sp_typed_units.specs.declared.declarations.Variable.{Variable}
use Rattle.sp_typed_units.specs.Parts.{Part, Parts, field, no_parts, more_parts}
use Rattle.sp_meaning_states.specs.States.{Reading, State, Gives, Fine, Result, ends, got, done, fails, go, local_of, set_local, put_member}
use Rattle.sp_meaning_states.specs.Reads.{Ask, Bytes, Read, Got, Lacks, Shorts, NoWord, on_read}
use Rattle.sp_meaning_states.specs.Types.{width_bytes}
use Rattle.sp_meaning.specs.Globals.{Globals, globals_of}
use Rattle.sp_meaning.specs.Operations.{known}
use Rattle.sp_code_meaning.specs.Exprs.{expr_means}
use Rattle.sp_meaning.specs.Hooks.{hook_bodies, is_of_unit}
use Rattle.sp_code_meaning.specs.Calls.{call_means, hooks_mean}
use Rattle.sp_meaning.specs.Integers.{integer_means, IntegerForm, integer_field}
use Rattle.sp_code_meaning.specs.Units.{offset_slot, value_slot, unit_layout, integer_in, hooked_means, field_means, part_means, parts_mean, variables_begin, variable_means, variables_mean, unit_hook_means}
use Rattle.sp_meaning.specs.Units.{stored, first_value, offset_here}
use Rattle.sp_code.specs.declared.instr.Instr.TheVariants as does
use Rattle.sp_code.specs.Machine.{Plain, At, Goes, is_failing, raise, read_next, step}
use Rattle.sp_code.specs.Shapes.{Shape, push, read_kind}
use Rattle.sp_code.specs.Runs.{Ways, leads, Comes, here, Runs}
use Rattle.sp_code_programs.specs.exprs.Marked.{Marked, mark}
use Rattle.sp_code_programs.specs.exprs.Code.{kind_of, expr_code}
use Rattle.sp_code_programs.specs.units.Bodies.{HasBodies, hooks_code}
use Rattle.sp_code_programs.specs.units.Units.{int_form, member_code, stored_code, kept_code, member_kind, field_code, where_integer, part_code, parts_code, begin_code, variable_code, variables_code, unit_hook_code}
use Rattle.sp_law_code.proofs.exprs_lemmas.Steps.{one, after_one, act_at, has_instr, Does, then_got, then_done}
use Rattle.sp_law_code.proofs.exprs_lemmas.Forms.{then_constant}
use Rattle.sp_law_code.proofs.exprs_lemmas.Places.{puts_member}
use Rattle.sp_law_code.proofs.exprs_lemmas.Exprs.{expr_does}
use Rattle.sp_law_code.specs.bodies.Parts.{BodiesAreCounted}
use Rattle.sp_law_code.specs.bodies.Laws.{AllTake}
use Rattle.sp_law_code.proofs.bodies_lemmas.Runs.{same_end}
use Rattle.sp_law_code.proofs.bodies_lemmas.Calls.{calls_run}
use Rattle.sp_law_code.proofs.bodies_lemmas.Hooks.{hooks_run}
use Rattle.sp_law_code.specs.units.Parts.{ValueIsCounted, VariablesAreCounted, PartIsCounted, PartsAreCounted, HookTakesNothing}
use Rattle.sp_law_code.proofs.units_lemmas.Walks.{Walks, walks, walks_got, walks_done, walks_step}

module _ (p : Plain) (reads : Reading → Ask → Read) where
  -- a part without code
  nothing_does : (pc : ℕ) → Does p reads pc [] [] (λ st. ends Fine st)
  nothing_does pc vs x st has = let e : pc ≡ pc + 0 = omega arith in subst (λ n. Comes p reads (At pc vs x.frames st) [] (At n vs x.frames st)) e here

  -- a value becomes that of a member of the unit at hand
  member_does : (u : ℕ) (s : Shape) (k : Kind) (m pc : ℕ) (v : Val) → Does p reads pc (member_code u s k m) (v ∷ []) (λ st. put_member (unit st.self) m v st)
  member_does u s k m pc v vs x st has =
      let store = mark (push (UnitOf u) (push k s)) (does.SetField m) in
      let n : pc + 1 + 1 ≡ pc + 2 = omega arith in
      after_one p reads _ (At (pc + 1) (unit st.self ∷ v ∷ vs) x.frames st) (leads (pc + 2) vs x) (put_member (unit st.self) m v st)
      (act_at p reads pc (v ∷ vs) x.frames st does.SelfUnit (has_instr p reads pc (push k s) does.SelfUnit (store ∷ []) has))
      (same_end p reads (At (pc + 1) (unit st.self ∷ v ∷ vs) x.frames st) (pc + 1 + 1) (pc + 2) vs x (put_member (unit st.self) m v st) n
      (puts_member p reads (pc + 1) (push (UnitOf u) (push k s)) m (unit st.self) v vs x st has.3))

  stored_does : (u : ℕ) (s : Shape) (k : Kind) (member : Option ℕ) (pc : ℕ) (v : Val) → Does p reads pc (stored_code u s k member) (v ∷ []) (stored member v)
  stored_does u s k (Some m) pc v vs x st has = member_does u s k m pc v vs x st has
  stored_does u s k None pc v vs x st has = one p reads _ [] _ (act_at p reads pc (v ∷ vs) x.frames st does.Pop (has_instr p reads pc (push k s) does.Pop [] has))

  -- an integer is read, or it lacks bytes
  integer_does : (s : Shape) (form : IntegerForm) (pc : ℕ) → Does p reads pc (mark s (does.ReadInt (int_form form)) ∷ []) [] (λ st. integer_means reads (width_bytes form.width) form.little form.signed st)
  integer_does s form pc vs x st has =
      cases (reads st.now (Bytes (width_bytes form.width))) (act_at p reads pc vs x.frames st (does.ReadInt (int_form form)) (has_instr p reads pc s (does.ReadInt (int_form form)) [] has))
    where
      cases : (r : Read) → step p reads (At pc vs x.frames st) ≡ read_next r (λ t n bs. Goes [] (At (pc + 1) (integer_of form.little form.signed bs ∷ vs) x.frames (go (st.now.place + n) st))) (raise NoMatch x.frames st) x.frames st
          → Runs p reads (At pc vs x.frames st) (leads (pc + 1) vs x) (on_read r (λ t n bs st. ends (Gives (integer_of form.little form.signed bs)) (go (st.now.place + n) st)) (fails NoMatch) st)
      cases (Got t n bs) e = one p reads _ [] _ e
      cases (Lacks m) e = record { pc = pc; operands = vs; frames = x.frames; state = st; mark = _; comes = here; waits = e; low = refl }
      cases (Shorts overs) e = one p reads _ [] _ e
      cases NoWord e = one p reads _ [] _ e

  module _ (hook_names : List (List ℕ)) (list : Typed) (has : HasBodies p hook_names list) (counts : BodiesAreCounted p list) where
    abbrev globals : Globals
    globals = globals_of list

    -- variables begin
    pub begin_does : (u : ℕ) (s : Shape) (ms : List Member) (vs : List Variable) (pc : ℕ) → Does p reads pc (begin_code list u s ms vs) [] (variables_begin p.names hook_names list p.limits reads ms vs)
    begin_does u s ms [] pc = nothing_does pc
    begin_does u s ms (v ∷ vs) pc =
        let m = slice_get ms v.member in
        let first = first_value globals.ranges m in
        let store = member_code u s (member_kind globals.ranges m) v.member in
        then_constant p reads pc s first (store ++ begin_code list u s ms vs) [] (λ st. done (variables_begin p.names hook_names list p.limits reads ms vs) (put_member (unit st.self) v.member first st))
        (then_done p reads (pc + 1) store (begin_code list u s ms vs) (first ∷ []) [] (λ st. put_member (unit st.self) v.member first st) (variables_begin p.names hook_names list p.limits reads ms vs)
        (member_does u s (member_kind globals.ranges m) v.member (pc + 1) first) (begin_does u s ms vs (pc + 1 + length store)))

    module _ (n : ℕ) where
      -- and get their own values
      variable_does : (u : ℕ) (s : Shape) (m : ℕ) (e : Option Expr) (pc : ℕ) → ValueIsCounted p e → Does p reads pc (variable_code list u s pc m e) [] (variable_means p.names hook_names list p.limits reads n m e)
      variable_does u s m (Some e) pc c =
          let code_e = expr_code globals unit_layout s pc e in
          let call : ℕ → List Val → State → Result = call_means p.names hook_names list p.limits n in
          then_got p reads pc code_e (member_code u s (kind_of globals unit_layout e) m) [] [] (expr_means globals call unit_layout e) (λ v st. put_member (unit st.self) m v st)
          (expr_does p reads globals unit_layout call (calls_run p reads hook_names list has counts n) e s pc c) (λ v. member_does u s (kind_of globals unit_layout e) m (pc + length code_e) v)
      variable_does u s m None pc c = nothing_does pc

      pub variables_does : (u : ℕ) (s : Shape) (vs : List Variable) (pc : ℕ) → VariablesAreCounted p vs → Does p reads pc (variables_code list u s pc vs) [] (variables_mean p.names hook_names list p.limits reads n vs)
      variables_does u s [] pc c = nothing_does pc
      variables_does u s (v ∷ vs) pc c =
          let code_v = variable_code list u s pc v.member v.value in
          then_done p reads pc code_v (variables_code list u s (pc + length code_v) vs) [] [] (variable_means p.names hook_names list p.limits reads n v.member v.value) (variables_mean p.names hook_names list p.limits reads n vs)
          (variable_does u s v.member v.value pc c.0) (variables_does u s vs (pc + length code_v) c.1)

      module _ (w : Ways) where
        -- the hooks of a unit in frames that tell whether it fails
        pub unit_hook_walks : (u : ℕ) (s : Shape) (name : HookName) (pc : ℕ) → HookTakesNothing list u name
            → Walks p reads w pc (unit_hook_code list u s name) [] (unit_hook_means p.names hook_names list p.limits reads (is_failing w.frames) n u name)
        unit_hook_walks u s name pc takes vs st code = hooks_run p reads hook_names list has counts n (hook_bodies (is_of_unit u name) list.hooks) [] s pc vs w st takes code

        -- in those of a unit that doesn't fail
        module _ (good : is_failing w.frames ≡ false) where
          hooks_walk : (s : Shape) (l : ℕ) (hs : List ℕ) (pc : ℕ) → AllTake list 2 hs
              → Walks p reads w pc (hooks_code s (length list.functions) (l ∷ offset_slot ∷ []) hs) [] (λ st. hooks_mean p.names hook_names list p.limits false n hs (local_of st offset_slot ∷ local_of st l ∷ []) st)
          hooks_walk s l hs pc takes vs st code =
              subst (λ failing. Runs p reads (At pc vs w.frames st) (leads (pc + length (hooks_code s (length list.functions) (l ∷ offset_slot ∷ []) hs)) vs w) (hooks_mean p.names hook_names list p.limits failing n hs (local_of st offset_slot ∷ local_of st l ∷ []) st)) good
              (hooks_run p reads hook_names list has counts n hs (l ∷ offset_slot ∷ []) s pc vs w st takes code)

          -- the offset of what is behind is kept
          offset_walks : (u : ℕ) (s : Shape) (b : List Marked) (pc : ℕ) (go : State → Result) → Walks p reads w (pc + 1 + 1 + 1) b [] go
              → Walks p reads w pc (mark s does.SelfUnit ∷ mark (push (UnitOf u) s) does.Offset ∷ mark (push Unsigned s) (does.Store offset_slot) ∷ b) [] (λ st. go (set_local offset_slot (offset_here st) st))
          offset_walks u s b pc go h vs st code =
              let now = set_local offset_slot (offset_here st) st in
              let one = mark (push Unsigned s) (does.Store offset_slot) ∷ b in
              let two = mark (push (UnitOf u) s) does.Offset ∷ one in
              let three = mark s does.SelfUnit ∷ two in
              let to = leads (pc + length three) vs w in
              let n : pc + 1 + 1 + 1 + length b ≡ pc + length three = omega arith in
              after_one p reads _ (At (pc + 1) (unit st.self ∷ vs) w.frames st) to (go now) (act_at p reads pc vs w.frames st does.SelfUnit (has_instr p reads pc s does.SelfUnit two code))
              (after_one p reads _ (At (pc + 1 + 1) (offset_here st ∷ vs) w.frames st) to (go now) (act_at p reads (pc + 1) (unit st.self ∷ vs) w.frames st does.Offset (has_instr p reads (pc + 1) (push (UnitOf u) s) does.Offset one code.3))
              (after_one p reads _ (At (pc + 1 + 1 + 1) vs w.frames now) to (go now) (act_at p reads (pc + 1 + 1) (offset_here st ∷ vs) w.frames st (does.Store offset_slot) (has_instr p reads (pc + 1 + 1) (push Unsigned s) (does.Store offset_slot) b code.3.3))
              (same_end p reads (At (pc + 1 + 1 + 1) vs w.frames now) (pc + 1 + 1 + 1 + length b) (pc + length three) vs w (go now) n (h vs now code.3.3.3))))

          -- the value of a local is stored
          kept_walks : (u : ℕ) (s : Shape) (k : Kind) (l : ℕ) (member : Option ℕ) (pc : ℕ) → Walks p reads w pc (kept_code u s k l member) [] (λ st. stored member (local_of st l) st)
          kept_walks u s k l (Some m) pc vs st code =
              let n : pc + 1 + 2 ≡ pc + 3 = omega arith in
              after_one p reads _ (At (pc + 1) (local_of st l ∷ vs) w.frames st) (leads (pc + 3) vs w) (put_member (unit st.self) m (local_of st l) st) (act_at p reads pc vs w.frames st (does.Load l) (has_instr p reads pc s (does.Load l) (member_code u s k m) code))
              (same_end p reads (At (pc + 1) (local_of st l ∷ vs) w.frames st) (pc + 1 + 2) (pc + 3) vs w (put_member (unit st.self) m (local_of st l) st) n (member_does u s k m (pc + 1) (local_of st l) vs w st code.3))
          kept_walks u s k l None pc vs st code = nothing_does pc vs w st tt

          hooked_walks : (u : ℕ) (s : Shape) (form : IntegerForm) (member : Option ℕ) (h : ℕ) (hs : List ℕ) (pc : ℕ) → AllTake list 2 (h ∷ hs)
              → Walks p reads w pc (field_code list u s form member (h ∷ hs)) [] (hooked_means p.names hook_names list p.limits reads n form member (h ∷ hs))
          hooked_walks u s form member h hs pc takes =
              let k = read_kind form.signed in
              let l = value_slot form.signed in
              let read = mark s (does.ReadInt (int_form form)) in
              let kept = kept_code u s k l member in
              let hooks = hooks_code s (length list.functions) (l ∷ offset_slot ∷ []) (h ∷ hs) in
              let q = pc + 1 + 1 + 1 in
              let run : State → Result = λ st. hooks_mean p.names hook_names list p.limits false n (h ∷ hs) (local_of st offset_slot ∷ local_of st l ∷ []) st in
              let behind : State → Result = λ st. done run (stored member (local_of st l) st) in
              offset_walks u s (read ∷ mark (push k s) (does.Store l) ∷ (kept ++ hooks)) pc (λ st. got (λ v st. behind (set_local l v st)) (integer_in p.names hook_names list p.limits reads form st))
              (walks_got p reads w q (read ∷ []) (mark (push k s) (does.Store l) ∷ (kept ++ hooks)) [] (integer_in p.names hook_names list p.limits reads form) (λ v st. behind (set_local l v st))
              (walks p reads w q (read ∷ []) [] (integer_in p.names hook_names list p.limits reads form) (integer_does s form q))
              (λ v. walks_step p reads w (q + 1) (push k s) (does.Store l) (kept ++ hooks) (v ∷ []) [] (set_local l v) behind (λ vs st. refl)
              (walks_done p reads w (q + 1 + 1) kept hooks (λ st. stored member (local_of st l) st) run (kept_walks u s k l member (q + 1 + 1)) (hooks_walk s l (h ∷ hs) (q + 1 + 1 + length kept) takes))))

          field_walks : (u : ℕ) (s : Shape) (form : IntegerForm) (member : Option ℕ) (hs : List ℕ) (pc : ℕ) → AllTake list 2 hs
              → Walks p reads w pc (field_code list u s form member hs) [] (field_means p.names hook_names list p.limits reads n form member hs)
          field_walks u s form member [] pc takes =
              let read = mark s (does.ReadInt (int_form form)) in
              let store = stored_code u s (read_kind form.signed) member in
              walks p reads w pc (read ∷ store) [] (field_means p.names hook_names list p.limits reads n form member [])
              (then_got p reads pc (read ∷ []) store [] [] (integer_in p.names hook_names list p.limits reads form) (stored member) (integer_does s form pc) (λ v. stored_does u s (read_kind form.signed) member (pc + 1) v))
          field_walks u s form member (h ∷ hs) pc takes = hooked_walks u s form member h hs pc takes

          integer_walks : (u : ℕ) (s : Shape) (o : Option IntegerForm) (member : Option ℕ) (hs : List ℕ) (pc : ℕ) → AllTake list 2 hs
              → Walks p reads w pc (where_integer list o (λ form. field_code list u s form member hs)) [] (known o (λ form st. field_means p.names hook_names list p.limits reads n form member hs st))
          integer_walks u s (Some form) member hs pc takes = field_walks u s form member hs pc takes
          integer_walks u s None member hs pc takes = λ vs st code. tt

          part_walks : (u : ℕ) (s : Shape) (o : Option ℕ) (x : Part) (pc : ℕ) → PartIsCounted list x → Walks p reads w pc (part_code list u s o x) [] (part_means p.names hook_names list p.limits reads n o x)
          part_walks u s o (field f) pc takes = integer_walks u s (integer_field o f) f.member f.hooks pc takes
          part_walks u s o x pc takes = λ vs st code. tt

          pub parts_walk : (u : ℕ) (s : Shape) (o : Option ℕ) (xs : Parts) (pc : ℕ) → PartsAreCounted list xs → Walks p reads w pc (parts_code list u s o xs) [] (parts_mean p.names hook_names list p.limits reads n o xs)
          parts_walk u s o no_parts pc takes = λ vs st code. nothing_does pc vs w st tt
          parts_walk u s o (more_parts x xs) pc takes =
              let code_x = part_code list u s o x in
              walks_done p reads w pc code_x (parts_code list u s o xs) (part_means p.names hook_names list p.limits reads n o x) (parts_mean p.names hook_names list p.limits reads n o xs)
              (part_walks u s o x pc takes.0) (parts_walk u s o xs (pc + length code_x) takes.1)
