-- Calls and bodies of hooks that fit end as they may, with fuel enough.
use Rattle.std.proofs.Common.{◌≡◌, ℕ, zero, suc, ◌+◌, ◌-◌, ◌<◌, ◌≤◌, Bool, true, false, List, [], ◌∷◌, ◌++◌, reverse, Option, Some, None, refl, sym, subst, arith}
use Rattle.std.specs.Prelude.{nat_lt, slice_get, if◌then◌else◌}
use Rattle.sp_base.specs.declared.kinds.PKind.TheVariants as error_is
use Rattle.sp_base.specs.declared.places.Limits.{Limits}
use Rattle.sp_value.specs.Val.{Val, void}
use Rattle.sp_methods.specs.Kinds.{Kind, Have}
use Rattle.sp_typed.specs.Stmts.{Stmt}
use Rattle.sp_typed_units.specs.declared.declarations.Hook.{Hook}
use Rattle.sp_typed_units.specs.declared.declarations.Typed.{Typed}
use Rattle.sp_meaning_states.specs.States.{Error, State, End, Gives, Fine, Failed, Broke, Continued, Returned, Result, Ends, ends, behind, done, with_done, fails, one_more, turn, deeper}
use Rattle.sp_meaning_states.specs.Scopes.{called_where, InCall, ends_fiber, dropped_unless, outside, inside}
use Rattle.sp_meaning_states.specs.Scopes as called_is
use Rattle.sp_meaning_states.specs.Types.{zero_value}
use Rattle.sp_meaning_states.specs.Telling.{Names}
use Rattle.sp_code_meaning.specs.Layouts.{Layout}
use Rattle.sp_meaning.specs.Globals.{globals_of}
use Rattle.sp_meaning.specs.Operations.{known}
use Rattle.sp_meaning.specs.Calls.{zero_slots}
use Rattle.sp_code_meaning.specs.Calls.{function_layout, hook_layout, body_means, with_locals, one_deeper, call_means, hook_event, hook_means, hooks_mean}
use Rattle.sp_meaning.specs.Hooks.{is_foreach, told_count}
use Rattle.sp_code.specs.Machine.{Plain}
use Rattle.sp_code.specs.Shapes.{Shapes, Round, OfFunction, OfHook, IsSelf, AlwaysHave, units_of, Enters, AllHaveKinds, Holds}
use Rattle.sp_law_code.specs.bodies.Fits.{StmtFits}
use Rattle.sp_law_machine.proofs.keeps_lemmas.Lists.{have_both, have_reversed}
use Rattle.sp_law_programs.specs.finished_bodies.Built.{IsThere, StmtIsBuilt}
use Rattle.sp_law_programs.specs.finished_bodies.Finished.{AnExpression, AChange, AStatement, ABody, AHook, MayEndAs, IsReturned, HookFits, FunctionsFit}
use Rattle.sp_law_programs.specs.finished_bodies.Laws.{AllFitAs, FuelSuffices}
use Rattle.sp_law_programs.proofs.finished_bodies_lemmas.Right.{Right, Makes, then_behind, then_end, then_done, known_right, counted}
use Rattle.sp_law_programs.proofs.finished_bodies_lemmas.RightExprs.{expr_right}
use Rattle.sp_law_programs.proofs.finished_bodies_lemmas.RightStmts.{turned, stmt_right}

module _ (p : Plain) (shapes : Shapes) (units : List ℕ) where
  -- the locals of a body: what is handed to it, and its slots
  handed : (ins slots : List Kind) (vs ws : List Val) → Have units ins vs → AlwaysHave slots ws → Have units (reverse ins ++ slots) (reverse vs ++ ws)
  handed ins slots vs ws h fresh = have_both units (reverse ins) slots (reverse vs) ws (have_reversed units ins vs h) (fresh units)

  module _ (u : Option ℕ) (ls : List Kind) where
    -- a body that comes to its end returns
    body_end : (c : ℕ) (q : Round) (ending : Val) → IsReturned units ending q → (how : End) (st : State) → c ≤ st.now.count → MayEndAs units how (AStatement q false) → Holds p shapes units u ls st
        → Right p shapes units u ls c (ABody q) (with_done (ends (Returned ending)) how st)
    body_end c q ending r Fine st l a holds = (l, (r, holds))
    body_end c q ending r (Failed e) st l a holds = (l, (tt, holds))
    body_end c q ending r (Returned v) st l a holds = (l, (a, holds))
    body_end c q ending r Broke st l a holds = absurd (let z : false ≡ true = a in cc)
    body_end c q ending r Continued st l a holds = absurd (let z : false ≡ true = a in cc)
    body_end c q ending r (Gives v) st l a holds = absurd a
    body_end c q ending r _ st l a holds = absurd a

    -- a state outside a body, in which values have their kinds behind it
    back : (v : Option ℕ) (js : List Kind) (self : ℕ) (locals : List Val) (st now : State) → now.instances ≡ st.instances → now.self ≡ self → now.locals ≡ locals → IsSelf units u self → Have units ls locals
        → Holds p shapes units v js st → Holds p shapes units u ls now
    back v js self locals st now i e l s h holds =
        record { told = subst (λ xs. units_of xs ≡ units) (sym i) holds.told; instances = subst (AllHaveKinds p shapes units) (sym i) holds.instances; self = subst (IsSelf units u) (sym e) s; locals = subst (Have units ls) (sym l) h }

    called_right : (v : Option ℕ) (js : List Kind) (c : ℕ) (k : Kind) (self : ℕ) (locals : List Val) (r : Result) → IsSelf units u self → Have units ls locals → Right p shapes units v js c (ABody (OfFunction k)) r
        → Right p shapes units u ls c (AnExpression k) (inside (InCall called_is.Called.Function self locals) r)
    called_right v js c k self locals (Ends (Returned x) es st) s h (l, a) = (l, (a.0, back v js self locals st _ refl refl refl s h a.1))
    called_right v js c k self locals (Ends (Failed e) es st) s h (l, a) = (l, (tt, back v js self locals st _ refl refl refl s h a.1))
    called_right v js c k self locals (Ends _ es st) s h (l, a) = absurd a.0

    dropped_right : (c : ℕ) (b : Bool) (e : Error) (st : State) → c ≤ st.now.count → Holds p shapes units u ls st → Right p shapes units u ls c (AHook false) (ends (dropped_unless b e) st)
    dropped_right c true e st l holds = (l, (tt, holds))
    dropped_right c false e st l holds = (l, (tt, holds))

    hooked_right : (failing each : Bool) (v : Option ℕ) (js : List Kind) (c self : ℕ) (locals : List Val) (r : Result) → IsSelf units u self → Have units ls locals → Right p shapes units v js c (ABody (OfHook each)) r
        → Right p shapes units u ls c (AHook each) (inside (InCall (called_where failing (called_is.Called.Hook each)) self locals) r)
    hooked_right true true v js c self locals (Ends (Returned x) es st) s h (l, a) = (l, ((true, refl), back v js self locals st _ refl refl refl s h a.1))
    hooked_right true true v js c self locals (Ends (Failed e) es st) s h (l, a) = (l, (tt, back v js self locals st _ refl refl refl s h a.1))
    hooked_right false true v js c self locals (Ends (Returned x) es st) s h (l, a) = (l, ((true, refl), back v js self locals st _ refl refl refl s h a.1))
    hooked_right false true v js c self locals (Ends (Failed e) es st) s h (l, a) = (l, (tt, back v js self locals st _ refl refl refl s h a.1))
    hooked_right true false v js c self locals (Ends (Returned x) es st) s h (l, a) = (l, (tt, back v js self locals st _ refl refl refl s h a.1))
    hooked_right true false v js c self locals (Ends (Failed e) es st) s h (l, a) =
        then_behind p shapes units u ls c (AHook false) es (ends (dropped_unless (ends_fiber e.kind) e) (outside self locals st))
        (dropped_right c (ends_fiber e.kind) e (outside self locals st) l (back v js self locals st _ refl refl refl s h a.1))
    hooked_right false false v js c self locals (Ends (Returned x) es st) s h (l, a) = (l, (tt, back v js self locals st _ refl refl refl s h a.1))
    hooked_right false false v js c self locals (Ends (Failed e) es st) s h (l, a) = (l, (tt, back v js self locals st _ refl refl refl s h a.1))
    hooked_right _ _ v js c self locals (Ends _ es st) s h (l, a) = absurd a.0

    -- a body of a hook that tells nothing to a container is fine, as a change is
    hook_change : (c : ℕ) (r : Result) → Right p shapes units u ls c (AHook false) r → Right p shapes units u ls c AChange r
    hook_change c (Ends Fine es st) a = a
    hook_change c (Ends (Failed e) es st) a = a
    hook_change c (Ends _ es st) a = absurd a.1.0

    deeper_right : (c k : ℕ) → Makes p shapes units u ls c AChange (deeper k)
    deeper_right c k st l holds = by_test (nat_lt st.depth k)
      where
        by_test : (b : Bool) → Right p shapes units u ls st.now.count AChange (if b then ends Fine st else fails error_is.Depth st)
        by_test true = (omega arith, (tt, holds))
        by_test false = (omega arith, (tt, holds))

  module _ (names : Names) (hook_names : List (List ℕ)) (list : Typed) (limits : Limits) (fits : FunctionsFit p shapes list) where
    abbrev means : ℕ → ℕ → List Val → State → Result
    means n = call_means names hook_names list limits n

    -- calls that fit, from each state with so many turns or more
    abbrev CallsDo : ℕ → ℕ → Type 0
    CallsDo n c = (u : Option ℕ) (ls : List Kind) (f : ℕ) (ins : List Kind) (k : Kind) (vs : List Val) → IsThere (slice_get list.functions f) → Enters p shapes f None called_is.Called.Function (OfFunction k) ins → Have units ins vs
        → Makes p shapes units u ls c (AnExpression k) (means n f vs)

    body_right : (n c : ℕ) (u : Option ℕ) (ls : List Kind) (q : Round) (layout : Layout) (ending : Val) (b : Stmt) → limits.turns - c < n → CallsDo n c → IsReturned units ending q
        → StmtFits p shapes (globals_of list) layout ls u q false b → StmtIsBuilt (globals_of list) list.functions b → Makes p shapes units u ls c (ABody q) (body_means names hook_names list limits n (means n) layout ending b)
    body_right n c u ls q layout ending b fuel calls r f t = λ st l holds.
        then_end p shapes units u ls st.now.count (AStatement q false) (ABody q) (with_done (ends (Returned ending))) _ (λ z. z) (body_end u ls st.now.count q ending r)
        (stmt_right p shapes units u ls limits.turns q names (globals_of list) layout (means n) list.functions c (calls u ls) n fuel false b f t st l holds)

    call_right : (n c : ℕ) → limits.turns - c < n → CallsDo n c
    call_right zero c fuel u ls f ins k vs there enters h = absurd (omega (arith, fuel))
    call_right (suc n) c fuel u ls f ins k vs there enters h =
        known_right p shapes units u ls c (AnExpression k) (slice_get list.functions f) _ there (λ x is.
        let fit = fits f x ins k is enters in
        let js = reverse ins ++ fit.slots in
        turned p shapes units u ls limits.turns c (AnExpression k) _ (λ st l below holds.
        let next : limits.turns - (c + 1) < n = omega (arith, fuel, l, below) in
        then_done p shapes units u ls (c + 1) (AnExpression k) (deeper limits.depth) _ (deeper_right u ls (c + 1) limits.depth) (λ st o holds.
        called_right u ls None js st.now.count k st.self st.locals _ holds.self holds.locals
        (body_right n (c + 1) None js (OfFunction k) (function_layout x) (zero_value (globals_of list).ranges x.result) x.body next (call_right n (c + 1) next) (fit.ending units) fit.body fit.built
        (one_deeper names hook_names list limits (with_locals names hook_names list limits vs x.slots st)) o
        (record { told = holds.told; instances = holds.instances; self = tt; locals = handed ins fit.slots vs (zero_slots (globals_of list).ranges x.slots) h fit.fresh })))
        (one_more st) (omega (arith, l)) (counted p shapes units u ls st holds)))

    hook_right : (failing : Bool) (n c : ℕ) (u : Option ℕ) (ls : List Kind) (h : ℕ) (x : Hook) (ins : List Kind) (vs : List Val) → limits.turns - c < n → slice_get list.hooks h ≡ Some x → HookFits p shapes list x u ins → Have units ins vs
        → Makes p shapes units u ls c (AHook (is_foreach x.of)) (hook_means names hook_names list limits failing n h vs)
    hook_right failing n c u ls h x ins vs fuel is fit have =
        let js = reverse ins ++ fit.slots in
        let run : Hook → State → Result = λ x st. done (λ st. behind (hook_event names hook_names list limits h (told_count x) vs st ∷ [])
        (inside (InCall (called_where failing (called_is.Called.Hook (is_foreach x.of))) st.self st.locals)
        (body_means names hook_names list limits n (means n) (hook_layout x) void x.body (with_locals names hook_names list limits vs x.slots st))))
        (turn limits.turns st) in
        subst (λ o. Makes p shapes units u ls c (AHook (is_foreach x.of)) (known o run)) (sym is)
        (turned p shapes units u ls limits.turns c (AHook (is_foreach x.of)) _ (λ st l below holds.
        then_behind p shapes units u ls (st.now.count + 1) (AHook (is_foreach x.of)) (hook_event names hook_names list limits h (told_count x) vs (one_more st) ∷ []) _
        (hooked_right u ls failing (is_foreach x.of) u js (st.now.count + 1) st.self st.locals _ holds.self holds.locals
        (body_right n (c + 1) u js (OfHook (is_foreach x.of)) (hook_layout x) void x.body (omega (arith, fuel)) (call_right n (c + 1) (omega (arith, fuel))) tt fit.body fit.built
        (with_locals names hook_names list limits vs x.slots (one_more st)) (omega (arith, l))
        (record { told = holds.told; instances = holds.instances; self = holds.self; locals = handed ins fit.slots vs (zero_slots (globals_of list).ranges x.slots) have fit.fresh })))))

    hooks_right : (failing : Bool) (n c : ℕ) (u : Option ℕ) (ls : List Kind) (hs : List ℕ) (ins : List Kind) (vs : List Val) → limits.turns - c < n → AllFitAs p shapes list u ins hs → Have units ins vs
        → Makes p shapes units u ls c (AHook false) (hooks_mean names hook_names list limits failing n hs vs)
    hooks_right failing n c u ls [] ins vs fuel f have = λ st l holds. (omega arith, (tt, holds))
    hooks_right failing n c u ls (h ∷ hs) ins vs fuel ((x, is, other, fit), fs) have =
        then_done p shapes units u ls c (AHook false) (hook_means names hook_names list limits failing n h vs) (hooks_mean names hook_names list limits failing n hs vs)
        (λ st l holds. hook_change u ls st.now.count _ (subst (λ each. Right p shapes units u ls st.now.count (AHook each) (hook_means names hook_names list limits failing n h vs st)) other (hook_right failing n c u ls h x ins vs fuel is fit have st l holds)))
        (hooks_right failing n c u ls hs ins vs fuel fs have)

pub fuel_suffices : FuelSuffices
fuel_suffices p shapes names hook_names list limits fits n units u ls st fuel holds =
    let c = st.now.count in
    let g = globals_of list in
    let calls = call_right p shapes units names hook_names list limits fits n c fuel in
    record {
      calls = λ f x ins k vs is enters h. (calls u ls f ins k vs (subst IsThere (sym is) tt) enters h st (omega arith) holds).1;
      hooks = λ failing h x ins vs is fit have. (hook_right p shapes units names hook_names list limits fits failing n c u ls h x ins vs fuel is fit have st (omega arith) holds).1;
      rows = λ failing hs ins vs all have. (hooks_right p shapes units names hook_names list limits fits failing n c u ls hs ins vs fuel all have st (omega arith) holds).1;
      bodies = λ layout q ending b r f t. (body_right p shapes units names hook_names list limits fits n c u ls q layout ending b fuel calls r f t st (omega arith) holds).1;
      statements = λ layout q in_loop b f t. (stmt_right p shapes units u ls limits.turns q names g layout (call_means names hook_names list limits n) list.functions c (calls u ls) n fuel in_loop b f t st (omega arith) holds).1;
      expressions = λ layout e f t. (expr_right p shapes units u ls c g layout list.functions (call_means names hook_names list limits n) (calls u ls) e f t st (omega arith) holds).1;
    }
