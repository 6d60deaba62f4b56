-- A function that calls itself and a loop, at fuels that are too small and at such as suffice; and that what the laws ask can be met.
use Rattle.std.specs.Prelude.{◌≡◌, ℕ, zero, suc, ◌++◌, Bool, true, false, List, [], ◌∷◌, length, reverse, Some, None, refl, slice_get, unwrap_or}
use Rattle.std.proofs.Common.{ap, sym, subst, arith}
use Rattle.sp_base.specs.declared.kinds.PKind.TheVariants as error_is
use Rattle.sp_base.specs.declared.places.Limits.{Limits}
use Rattle.sp_base.specs.declared.places.Span.{Span}
use Rattle.sp_numbers.specs.declared.width.Width.TheVariants.{W64}
use Rattle.sp_words.specs.declared.operators.BinaryOp.TheVariants as op_is
use Rattle.sp_words.specs.declared.words.HookName.TheVariants as hook_name
use Rattle.sp_events.specs.declared.event.What.{What}
use Rattle.sp_value.specs.Val.{Val, uint}
use Rattle.sp_methods.specs.Kinds.{Kind, Void, Unsigned}
use Rattle.sp_types.specs.declared.words.Word.TheVariants as word_is
use Rattle.sp_types.specs.Types.{Ty, word}
use Rattle.sp_typed.specs.declared.words.LeafOp.{LeafOp}
use Rattle.sp_typed.specs.declared.words.LeafOp.TheVariants as leaf_is
use Rattle.sp_typed.specs.declared.words.TwoOp.TheVariants as two_is
use Rattle.sp_typed.specs.declared.words.ManyOp.TheVariants as many_is
use Rattle.sp_typed.specs.declared.words.Standing.TheVariants.{Meant}
use Rattle.sp_words.specs.declared.operators.AssignOp.TheVariants as assign_is
use Rattle.sp_typed.specs.declared.stmt_words.BareOp.TheVariants as bare_is
use Rattle.sp_typed.specs.declared.stmt_words.ValuedOp.TheVariants as valued_is
use Rattle.sp_typed.specs.Exprs.{Expr, leaf, two, three, many, exprs}
use Rattle.sp_typed.specs.Stmts.{Stmt, bare, valued, assign, while_loop, block, stmts}
use Rattle.sp_typed_units.specs.declared.declarations.Parameter.{Parameter}
use Rattle.sp_typed_units.specs.declared.declarations.Function.{Function}
use Rattle.sp_typed_units.specs.declared.declarations.Hook.{Hook}
use Rattle.sp_typed_units.specs.declared.declarations.HookOf.TheVariants as hook_of
use Rattle.sp_typed_units.specs.declared.declarations.Typed.{Typed}
use Rattle.sp_meaning_states.specs.States.{Main, State, End, Gives, Fine, Failed, Broke, Unfinished, Result, Ends, ends, error_at}
use Rattle.sp_meaning_states.specs.Telling.{Names}
use Rattle.sp_code_meaning.specs.Layouts.{Layout}
use Rattle.sp_meaning.specs.Globals.{globals_of}
use Rattle.sp_code_meaning.specs.Stmts.{stmt_means}
use Rattle.sp_code_meaning.specs.Calls.{call_means, hook_means, hooks_mean}
use Rattle.sp_code.specs.Machine.{Body, Plain}
use Rattle.sp_code.specs.Shapes.{BodyKinds, Shape, Shapes, Round, OfFunction, body_shape, Holds}
use Rattle.sp_code_programs.specs.units.Bodies.{function_entry}
use Rattle.sp_law_programs.specs.finished_bodies.Built.{ExprIsBuilt, StmtIsBuilt}
use Rattle.sp_law_programs.specs.finished_bodies.Finished.{Part, AStatement, MayEndAs, HookFits, FunctionFits, FunctionsFit}

abbrev here : Span
here = record { from = 0; to = 0 }

abbrev number : Ty
number = word (word_is.Uint W64)

abbrev leaf_of : Ty → LeafOp → Expr
leaf_of t o = leaf (record { span = here; ty = t; op = o })

abbrev argument : Expr
argument = leaf_of number (leaf_is.Parameter 0 Meant)

abbrev count : ℕ → Expr
count n = leaf_of number (leaf_is.Number n)

-- `return n == 0 ? 0 : down(n - 1);`
abbrev body : Stmt
body =
    valued (record { span = here; op = valued_is.Return })
    (three (record { span = here; ty = number }) (two (record { span = here; ty = word word_is.Bool; op = two_is.Binary op_is.Equal }) argument (count 0)) (count 0)
    (many (record { span = here; ty = number; op = many_is.Call 0 }) (exprs (two (record { span = here; ty = number; op = two_is.Binary op_is.Subtract }) argument (count 1) ∷ []))))

abbrev parameter : Parameter
parameter = record { name = []; span = here; written = record { span = here; unnamed = None; misplaced = None }; ty = number; inout = false }

abbrev down : Function
down = record { path = []; «module» = 0; span = here; parameters = parameter ∷ []; result = number; written = None; slots = []; body = body }

-- the body of `%init`, which returns
abbrev hook : Hook
hook =
    record {
      «module» = 0;
      span = here;
      of = hook_of.Unit 0 hook_name.Init;
      fits = true;
      parameters = [];
      priority = None;
      rank = None;
      slots = [];
      body = bare (record { span = here; op = bare_is.Return });
    }

abbrev list : Typed
list = record { units = []; functions = down ∷ []; hooks = hook ∷ []; constants = []; enums = []; bitfields = []; aliases = []; conversions = []; orders = [] }

abbrev limits : Limits
limits = record { turns = 9; depth = 9; fibers = 1 }

abbrev names : Names
names = record { members = []; labels = []; ranges = [] }

abbrev state : ℕ → State
state turns =
    record {
      instances = [];
      self = 0;
      locals = [];
      now = record { source = Main; place = 0; high = 0; count = turns; views = [] };
      outer = [];
      level = 0;
      stamps = 0;
      depth = 0;
      tries = false;
      move = None;
    }

abbrev calls : ℕ → ℕ → List Val → State → Result
calls n = call_means names [] list limits n

abbrev end_of : Result → End
end_of (Ends how es st) = how

-- three calls at a fuel of two, of three, and of five
two_are_too_few : end_of (calls 2 0 (uint W64 2 ∷ []) (state 0)) ≡ Unfinished
two_are_too_few = refl

three_suffice : calls 3 0 (uint W64 2 ∷ []) (state 0) ≡ ends (Gives (uint W64 0)) (state 3)
three_suffice = refl

five_are_the_same : calls 5 0 (uint W64 2 ∷ []) (state 0) ≡ ends (Gives (uint W64 0)) (state 3)
five_are_the_same = refl

-- a fuel above the turns that are left comes to the limit of turns
turns_are_too_few : calls 3 0 (uint W64 2 ∷ []) (state 7) ≡ ends (Failed (error_at error_is.Turns (record (state 9) { depth = 2 }))) (state 9)
turns_are_too_few = refl

-- what calls nothing and has no loop takes no fuel
hook_takes_none : hook_means names [] list limits false 0 0 [] (state 0) ≡ Ends Fine (What.Hook [] [] ∷ []) (state 1)
hook_takes_none = refl

-- the body of a hook that throws: its error ends it, unless the unit fails
abbrev throwing : Typed
throwing = record list { hooks = (record hook { body = valued (record { span = here; op = valued_is.Throw }) (leaf_of (word word_is.String) (leaf_is.Text [])) }) ∷ [] }

abbrev is_failed : End → Bool
is_failed (Failed e) = true
is_failed how = false

an_error_ends_the_hook : is_failed (end_of (hooks_mean names [] throwing limits false 0 (0 ∷ []) [] (state 0))) ≡ true
an_error_ends_the_hook = refl

a_failing_unit_drops_it : hooks_mean names [] throwing limits true 0 (0 ∷ []) [] (state 0) ≡ Ends Fine (What.Hook [] [] ∷ []) (state 1)
a_failing_unit_drops_it = refl

-- but not one that ends the fiber
no_turn_is_left : is_failed (end_of (hooks_mean names [] throwing limits true 0 (0 ∷ []) [] (state 9))) ≡ true
no_turn_is_left = refl

abbrev layout : Layout
layout = record { own = 0; current = 0; offset = None; first = 0 }

-- `while ( true ) { }` with no more than nine turns
abbrev loop : ℕ → State → Result
loop n = stmt_means names (globals_of list) 9 (calls n) layout n (while_loop (leaf_of (word word_is.Bool) leaf_is.True) (block (stmts [])))

nine_rounds_are_too_few : end_of (loop 9 (state 0)) ≡ Unfinished
nine_rounds_are_too_few = refl

ten_come_to_the_limit : loop 10 (state 0) ≡ ends (Failed (error_at error_is.Turns (state 9))) (state 9)
ten_come_to_the_limit = refl

-- no part ends unfinished, and a statement breaks in a loop alone
no_part_is_unfinished : (units : List ℕ) (x : Part) → MayEndAs units Unfinished x → ⊥
no_part_is_unfinished units x h = h

no_break_outside : (units : List ℕ) (q : Round) → MayEndAs units Broke (AStatement q false) → ⊥
no_break_outside units q h = let e : false ≡ true = h in cc

-- what has no meaning is not built
stop_is_not_built : StmtIsBuilt (globals_of list) list.functions (bare (record { span = here; op = bare_is.Stop true })) → ⊥
stop_is_not_built h = h

number_is_no_place : StmtIsBuilt (globals_of list) list.functions (assign (record { op = assign_is.Set; owner = None }) (count 0) (count 1)) → ⊥
number_is_no_place h = h.0

no_second_function : ExprIsBuilt (globals_of list) list.functions (many (record { span = here; ty = number; op = many_is.Call 1 }) (exprs [])) → ⊥
no_second_function h = h.0

-- the entry of the function in a table, and its kinds
abbrev entry : Body
entry = function_entry (globals_of list) 0 down

abbrev kinds : BodyKinds
kinds = record { locals = Unsigned ∷ [] }

abbrev shape : Shape
shape = body_shape None (OfFunction Unsigned) (Unsigned ∷ [])

abbrev program : Plain
program = record { limits = limits; names = names; consts = []; bodies = entry ∷ []; units = []; code = [] }

abbrev shapes : Shapes
shapes = record { at = shape ∷ []; units = []; bodies = kinds ∷ [] }

-- the function fits as it is called, with one number
down_fits : FunctionFits program shapes list down (Unsigned ∷ []) Unsigned
down_fits =
    record {
      slots = [];
      fresh = λ units. tt;
      ending = λ units. (W64, 0, refl);
      body = (
        (
          (refl, ((λ units. (W64, 0, refl)), refl)),
          (λ units. (W64, 0, refl)),
          (((refl, ((λ units. (W64, 1, refl)), refl)), tt), (entry, kinds, refl, refl, refl, record { others = []; takes = refl; locals = refl; fresh = λ units. tt }, refl)),
          refl,
          refl,
          refl,
        ),
        refl,
      );
      built = ((tt, tt), tt, (tt, ((tt, tt), tt)));
    }

-- so does the body of the hook, which is handed nothing
hook_fits : HookFits program shapes list hook None []
hook_fits = record { slots = []; fresh = λ units. tt; body = tt; built = tt }

-- the first kind, and the kind of a result
abbrev first_of : List Kind → Kind
first_of [] = Void
first_of (k ∷ ks) = k

abbrev given : Round → Kind
given (OfFunction k) = k
given r = Void

-- one kind with which the locals begin is that of the number
one_number : (ins others : List Kind) → length ins ≡ 1 → Unsigned ∷ [] ≡ reverse ins ++ others → Unsigned ∷ [] ≡ ins
one_number [] others l e = absurd (omega (arith, l))
one_number (k ∷ []) others l e = ap (λ k. k ∷ []) (ap first_of e)
one_number (k ∷ j ∷ ks) others l e = absurd (omega (arith, l))

functions_fit : FunctionsFit program shapes list
functions_fit (suc f) x ins k is enters = absurd (let q : None ≡ Some x = is in cc)
functions_fit zero x ins k is (e, h, listed, has, called, ib, start) =
    let same = ap (λ o. unwrap_or o entry) listed in
    let same_kinds = ap (λ o. unwrap_or o kinds) has in
    let begun : slice_get shapes.at 0 ≡ Some (body_shape None (OfFunction k) h.locals) = subst (λ (b : Body). slice_get shapes.at b.start ≡ Some (body_shape None (OfFunction k) h.locals)) (sym same) start in
    let takes : length ins ≡ 1 = subst (λ (b : Body). length ins ≡ b.takes) (sym same) ib.takes in
    let locals : Unsigned ∷ [] ≡ reverse ins ++ ib.others = subst (λ (h : BodyKinds). h.locals ≡ reverse ins ++ ib.others) (sym same_kinds) ib.locals in
    subst (λ x. FunctionFits program shapes list x ins k) (ap (λ o. unwrap_or o down) is)
    (subst (λ ins. FunctionFits program shapes list down ins k) (one_number ins ib.others takes locals)
    (subst (λ k. FunctionFits program shapes list down (Unsigned ∷ []) k) (ap (λ o. given (unwrap_or o shape).round) begun) down_fits))

-- the state is one in which values have their kinds
state_holds : Holds program shapes [] None [] (state 0)
state_holds = record { told = refl; instances = tt; self = tt; locals = tt }
