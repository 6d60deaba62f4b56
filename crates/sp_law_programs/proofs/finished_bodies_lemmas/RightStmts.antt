-- Statements that fit and are built of what has a meaning end as they may, if calls do and there is fuel enough.
use Rattle.std.proofs.Common.{◌≡◌, ℕ, zero, suc, ◌+◌, ◌-◌, ◌<◌, ◌≤◌, Bool, true, false, List, [], ◌∷◌, Option, Some, refl, sym, subst, arith}
use Rattle.std.specs.Prelude.{nat_lt, slice_get, unwrap_or, if◌then◌else◌}
use Rattle.std.proofs.lemmas.Bool.{ltb-true}
use Rattle.sp_base.specs.declared.kinds.PKind.{PKind}
use Rattle.sp_base.specs.declared.kinds.PKind.TheVariants as error_is
use Rattle.sp_words.specs.declared.operators.BinaryOp.{BinaryOp}
use Rattle.sp_words.specs.declared.operators.BinaryOp.TheVariants as op_is
use Rattle.sp_words.specs.declared.operators.AssignOp.{AssignOp}
use Rattle.sp_words.specs.declared.operators.AssignOp.TheVariants as assign_is
use Rattle.sp_value.specs.Val.{Val, void}
use Rattle.sp_value.specs.Parts.{text_in}
use Rattle.sp_value.specs.Changes.{with_member, without_key}
use Rattle.sp_operators.specs.Operators.{binary}
use Rattle.sp_methods.specs.Kinds.{Kind, Void, Bools, Has}
use Rattle.sp_typed.specs.declared.stmt_words.BareOp.{BareOp}
use Rattle.sp_typed.specs.declared.stmt_words.BareOp.TheVariants as bare_is
use Rattle.sp_typed.specs.declared.stmt_words.ValuedOp.{ValuedOp}
use Rattle.sp_typed.specs.declared.stmt_words.ValuedOp.TheVariants as valued_is
use Rattle.sp_typed.specs.Exprs.{Expr, Exprs, none, more}
use Rattle.sp_typed.specs.Stmts.{Stmt, Stmts, Branches, Cases, bare, valued, assign, print, block, branch, while_loop, for_loop, switch, no_stmts, more_stmts, no_branches, more_branches, no_cases, more_cases}
use Rattle.sp_typed_units.specs.declared.declarations.Function.{Function}
use Rattle.sp_meaning_states.specs.States.{State, End, Gives, Fine, Failed, Broke, Continued, Returned, Result, ends, got, done, round, with_done, with_round, fails, answer, truth_of, local_of, set_local, chosen, one_more, turn}
use Rattle.sp_meaning_states.specs.Types.{zero_value, kind_of_type}
use Rattle.sp_meaning_states.specs.Values.{members_of}
use Rattle.sp_meaning_states.specs.Telling.{Names}
use Rattle.sp_meaning.specs.Globals.{Globals}
use Rattle.sp_code_meaning.specs.Layouts.{Layout}
use Rattle.sp_meaning.specs.Operations.{Changes, fails_with}
use Rattle.sp_code_meaning.specs.Exprs.{slot_local, expr_means, place_means}
use Rattle.sp_code_meaning.specs.Places.{key_means}
use Rattle.sp_code_meaning.specs.Stmts.{printed, bare_means, valued_means, assign_means, rounds, each, one_equals, stmt_means, stmts_mean, branches_mean, cases_mean}
use Rattle.sp_code.specs.Kinds.{kind_of_two}
use Rattle.sp_code.specs.Machine.{Plain}
use Rattle.sp_code.specs.Shapes.{Shapes, Round, OfFunction, OfHook, IsResult, IsKeyOf, Holds}
use Rattle.sp_code_programs.specs.exprs.Code.{kind_of, kind_at}
use Rattle.sp_law_code.specs.exprs.Parts.{Fits, PlaceFits}
use Rattle.sp_law_code.specs.bodies.Fits.{IsSetFor, IsAssigned, BareFits, ValuedFits, ValuesFit, StmtFits, StmtsFit, BranchesFit, CasesFit}
use Rattle.sp_law_machine.proofs.keeps_lemmas.Members.{OnSome, row_kept, key_added, key_deleted}
use Rattle.sp_law_programs.specs.finished_bodies.Built.{BareIsBuilt, ValuedIsBuilt, ExprIsBuilt, AllAreBuilt, PlaceIsBuilt, StmtIsBuilt, StmtsAreBuilt, BranchesAreBuilt, CasesAreBuilt}
use Rattle.sp_law_programs.specs.finished_bodies.Finished.{Part, AnExpression, AChange, AStatement, MayEndAs, IsReturned}
use Rattle.sp_law_programs.proofs.finished_bodies_lemmas.Right.{Right, Makes, later, lower, then_behind, then_end, then_got, change_right, choice, local_has, set_holds, counted}
use Rattle.sp_law_programs.proofs.finished_bodies_lemmas.RightExprs.{CallsGet, binary_value, expr_right, all_right, place_right, put_in_right, key_right}

pub returned : (units : List ℕ) (q : Round) (k : Kind) (v : Val) → IsResult q k → Has units k v → IsReturned units v q
returned units (OfFunction j) k v e h = subst (λ k. Has units k v) e h
returned units (OfHook each) k v e h = tt
returned units _ k v e h = absurd e

key_set : (units : List ℕ) (d j : Kind) (v x : Val) → IsSetFor d j → Has units d v → Has units j x → Has units d (with_member v x)
key_set units d j v x is h g = subst (λ d. Has units d (with_member v x)) (sym is) (key_added units j v x (subst (λ d. Has units d v) is h) g)

module _ (p : Plain) (shapes : Shapes) (units : List ℕ) (u : Option ℕ) (ls : List Kind) (limit : ℕ) where
  -- what comes behind a turn
  pub turned : (c : ℕ) (x : Part) (go : State → Result) → ((st : State) → c ≤ st.now.count → st.now.count < limit → Holds p shapes units u ls st → Right p shapes units u ls (st.now.count + 1) x (go (one_more st)))
      → Makes p shapes units u ls c x (λ st. done go (turn limit st))
  turned c x go h st l holds = by_test (nat_lt st.now.count limit) (ltb-true st.now.count limit)
    where
      by_test : (b : Bool) → (b ≡ true → st.now.count < limit) → Right p shapes units u ls st.now.count x (done go (if b then ends Fine (one_more st) else fails error_is.Turns st))
      by_test true below = then_behind p shapes units u ls st.now.count x [] (go (one_more st)) (lower p shapes units u ls st.now.count (st.now.count + 1) x (go (one_more st)) (omega arith) (h st l (below refl) holds))
      by_test false below = (omega arith, (tt, holds))

  module _ (q : Round) where
    -- from each state with so many turns or more a statement ends as it may
    abbrev Does : ℕ → Bool → (State → Result) → Type 0
    Does c in_loop f = Makes p shapes units u ls c (AStatement q in_loop) f

    does_change : (c : ℕ) (b : Bool) (f : State → Result) → Makes p shapes units u ls c AChange f → Does c b f
    does_change c b f h = λ st l holds. change_right p shapes units u ls st.now.count q b (f st) (h st l holds)

    thrown_right : (c : ℕ) (b : Bool) (kind : PKind) (text : Option (List ℕ)) → Does c b (fails_with kind text)
    thrown_right c b kind text = λ st l holds. (omega arith, (tt, holds))

    kept_right : (c : ℕ) (b : Bool) (l : ℕ) (k : Kind) (v : Val) → slice_get ls l ≡ Some k → Has units k v → Does c b (λ st. ends Fine (set_local l v st))
    kept_right c b l k v e h = λ st m holds. (omega arith, (tt, set_holds p shapes units u ls l k v st e h holds))

    fine_right : (c : ℕ) (b : Bool) → Does c b (ends Fine)
    fine_right c b = λ st l holds. (omega arith, (tt, holds))

    next_right : (c : ℕ) (b : Bool) (go : State → Result) → Does c b go → (how : End) (st : State) → c ≤ st.now.count → MayEndAs units how (AStatement q b) → Holds p shapes units u ls st
        → Right p shapes units u ls c (AStatement q b) (with_done go how st)
    next_right c b go h Fine st l a holds = lower p shapes units u ls c st.now.count (AStatement q b) (go st) l (h st l holds)
    next_right c b go h (Failed e) st l a holds = (l, (a, holds))
    next_right c b go h Broke st l a holds = (l, (a, holds))
    next_right c b go h Continued st l a holds = (l, (a, holds))
    next_right c b go h (Returned v) st l a holds = (l, (a, holds))
    next_right c b go h (Gives v) st l a holds = absurd a
    next_right c b go h _ st l a holds = absurd a

    then_next : (c : ℕ) (b : Bool) (f go : State → Result) → Does c b f → Does c b go → Does c b (λ st. done go (f st))
    then_next c b f go a h = λ st l holds.
        then_end p shapes units u ls st.now.count (AStatement q b) (AStatement q b) (with_done go) (f st) (λ z. z)
        (next_right st.now.count b go (later p shapes units u ls c st.now.count (AStatement q b) go l h)) (a st l holds)

    round_right : (c : ℕ) (b : Bool) (go : State → Result) → Does c b go → (how : End) (st : State) → c ≤ st.now.count → MayEndAs units how (AStatement q true) → Holds p shapes units u ls st
        → Right p shapes units u ls c (AStatement q b) (with_round go how st)
    round_right c b go h Fine st l a holds = lower p shapes units u ls c st.now.count (AStatement q b) (go st) l (h st l holds)
    round_right c b go h Continued st l a holds = lower p shapes units u ls c st.now.count (AStatement q b) (go st) l (h st l holds)
    round_right c b go h Broke st l a holds = (l, (tt, holds))
    round_right c b go h (Failed e) st l a holds = (l, (a, holds))
    round_right c b go h (Returned v) st l a holds = (l, (a, holds))
    round_right c b go h (Gives v) st l a holds = absurd a
    round_right c b go h _ st l a holds = absurd a

    then_round : (c : ℕ) (b : Bool) (f go : State → Result) → Does c true f → Does c b go → Does c b (λ st. round go (f st))
    then_round c b f go a h = λ st l holds.
        then_end p shapes units u ls st.now.count (AStatement q true) (AStatement q b) (with_round go) (f st) (λ z. z)
        (round_right st.now.count b go (later p shapes units u ls c st.now.count (AStatement q b) go l h)) (a st l holds)

    module _ (names : Names) (globals : Globals) (layout : Layout) (call : ℕ → List Val → State → Result) where
      rounds_right : (n c : ℕ) (b : Bool) (test body : State → Result) → limit - c < n → Makes p shapes units u ls c (AnExpression Bools) test → Does c true body
          → Does c b (rounds names globals limit call layout n test body)
      rounds_right zero c b test body fuel h k = absurd (omega (arith, fuel))
      rounds_right (suc n) c b test body fuel h k =
          then_got p shapes units u ls c Bools (AStatement q b) test _ h (λ v w. choice p shapes units u ls c (AStatement q b) (truth_of v) _ (ends Fine)
          (turned c (AStatement q b) (λ st. round (rounds names globals limit call layout n test body) (body st)) (λ st l below holds.
          then_round (c + 1) b body (rounds names globals limit call layout n test body) (later p shapes units u ls c (c + 1) (AStatement q true) body (omega arith) k)
          (rounds_right n (c + 1) b test body (omega (arith, fuel, l, below)) (later p shapes units u ls c (c + 1) (AnExpression Bools) test (omega arith) h) (later p shapes units u ls c (c + 1) (AStatement q true) body (omega arith) k))
          (one_more st) (omega (arith, l)) (counted p shapes units u ls st holds)))
          (fine_right c b))

      each_right : (xs : List Val) (l c : ℕ) (b : Bool) (k : Kind) (body : State → Result) → slice_get ls l ≡ Some k → ((i : ℕ) → OnSome (Has units k) (slice_get xs i)) → Does c true body
          → Does c b (each names globals limit call layout xs l body)
      each_right [] l c b k body e h g = fine_right c b
      each_right (x ∷ xs) l c b k body e h g =
          turned c (AStatement q b) (λ st. round (each names globals limit call layout xs l body) (body (set_local l x st))) (λ st m below holds.
          then_round (c + 1) b (λ st. body (set_local l x st)) (each names globals limit call layout xs l body)
          (λ st o holds. g (set_local l x st) (omega (arith, o)) (set_holds p shapes units u ls l k x st e (h 0) holds))
          (each_right xs l (c + 1) b k body e (λ i. h (suc i)) (later p shapes units u ls c (c + 1) (AStatement q true) body (omega arith) g))
          (one_more st) (omega (arith, m)) (counted p shapes units u ls st holds))

      module _ (functions : List Function) (c : ℕ) (calls : CallsGet p shapes units u ls c globals layout functions call) where
        abbrev means : Expr → State → Result
        means e = expr_means globals call layout e

        abbrev kind : Expr → Kind
        kind e = kind_of globals layout e

        gets : (e : Expr) → Fits p shapes globals layout ls u e → ExprIsBuilt globals functions e → Makes p shapes units u ls c (AnExpression (kind_of globals layout e)) (means e)
        gets e f b = expr_right p shapes units u ls c globals layout functions call calls e f b

        bare_right : (b : Bool) (o : BareOp) → BareFits p shapes globals layout ls u q b o → BareIsBuilt o → Does c b (bare_means names globals limit call layout o)
        bare_right b (bare_is.Local l) (e, h) t =
            kept_right c b (layout.first + l.slot) (kind_of_type globals.ranges l.ty) (zero_value globals.ranges l.ty) e (h units)
        bare_right b bare_is.Return f t = λ st l holds. (omega arith, (returned units q Void void f refl, holds))
        bare_right b (bare_is.Break meant) f t = λ st l holds. (omega arith, (f, holds))
        bare_right b (bare_is.Continue meant) f t = λ st l holds. (omega arith, (f, holds))
        bare_right b _ f t = absurd t

        valued_right : (b : Bool) (o : ValuedOp) (e : Expr) → ValuedFits p shapes globals layout ls u q o e → ValuedIsBuilt o (ExprIsBuilt globals functions e) (PlaceIsBuilt globals functions e)
            → Does c b (valued_means names globals limit call layout o e)
        valued_right b (valued_is.Local l) e (f, at) t =
            then_got p shapes units u ls c (kind e) (AStatement q b) (means e) (λ v st. ends Fine (set_local (layout.first + l.slot) v st)) (gets e f t)
            (λ v w. kept_right c b (layout.first + l.slot) (kind e) v at w)
        valued_right b valued_is.Return e (f, is) t =
            then_got p shapes units u ls c (kind e) (AStatement q b) (means e) (λ v st. ends (Returned v) st) (gets e f t) (λ v w st l holds. (omega arith, (returned units q (kind e) v is w, holds)))
        valued_right b valued_is.Throw e (f, is) t =
            then_got p shapes units u ls c (kind e) (AStatement q b) (means e) (λ v st. fails_with error_is.Throw (text_in v) st) (gets e f t) (λ v w. thrown_right c b error_is.Throw (text_in v))
        valued_right b (valued_is.Assert text) e (f, is) t =
            then_got p shapes units u ls c (kind e) (AStatement q b) (means e) _ (gets e f t)
            (λ v w. choice p shapes units u ls c (AStatement q b) (truth_of v) (ends Fine) (fails_with error_is.Assert text) (fine_right c b) (thrown_right c b error_is.Assert text))
        valued_right b (valued_is.Add owner) e f t = does_change c b (key_means globals call layout (slot_local layout owner) e with_member) (key_right p shapes units u ls c globals layout functions call calls (slot_local layout owner) e IsSetFor with_member f t (key_set units))
        valued_right b (valued_is.Delete owner) e f t = does_change c b (key_means globals call layout (slot_local layout owner) e without_key) (key_right p shapes units u ls c globals layout functions call calls (slot_local layout owner) e IsKeyOf without_key f t (λ d j v x is h g. key_deleted units d j v x is h))
        valued_right b valued_is.Expr e f t = then_got p shapes units u ls c (kind e) (AStatement q b) (means e) (λ v st. ends Fine st) (gets e f t) (λ v w. fine_right c b)

        update_right : (o : BinaryOp) (owner : Option ℕ) (target e : Expr) → PlaceFits p shapes globals layout ls u owner target → PlaceIsBuilt globals functions target → Fits p shapes globals layout ls u e → ExprIsBuilt globals functions e
            → kind_of_two o (kind_of globals layout target) (kind_of globals layout e) ≡ Some (kind_of globals layout target)
            → Makes p shapes units u ls c AChange (place_means globals call layout owner target (λ x put st. got (λ y st. got put (answer (binary o x y) st)) (means e st)))
        update_right o owner target e f t g b is =
            let change : Changes = λ x put st. got (λ y st. got put (answer (binary o x y) st)) (means e st) in
            place_right p shapes units u ls c globals layout functions call calls owner target AChange change f t (λ x put h puts.
            then_got p shapes units u ls c (kind e) AChange (means e) (λ y st. got put (answer (binary o x y) st)) (gets e g b) (λ y w.
            then_got p shapes units u ls c (kind target) AChange (answer (binary o x y)) put (binary_value p shapes units u ls c o (kind target) (kind e) (kind target) x y is h w) puts))

        assign_right : (o : AssignOp) (owner : Option ℕ) (target e : Expr) → PlaceFits p shapes globals layout ls u owner target → PlaceIsBuilt globals functions target → Fits p shapes globals layout ls u e → ExprIsBuilt globals functions e
            → IsAssigned o (kind_of globals layout target) (kind_of globals layout e) → Makes p shapes units u ls c AChange (assign_means names globals limit call layout o owner target e)
        assign_right assign_is.Set owner target e f t g b is =
            put_in_right p shapes units u ls c globals layout functions call calls owner target (means e) f t (subst (λ k. Makes p shapes units u ls c (AnExpression k) (means e)) is (gets e g b))
        assign_right assign_is.Add owner target e f t g b is = update_right op_is.Add owner target e f t g b is
        assign_right assign_is.Subtract owner target e f t g b is = update_right op_is.Subtract owner target e f t g b is

        equals_right : (b : Bool) (es : Exprs) (l : ℕ) (k : Kind) (taken other : State → Result) → slice_get ls l ≡ Some k → ValuesFit p shapes globals layout ls u q l es → AllAreBuilt globals functions es → Does c b taken → Does c b other
            → Does c b (one_equals names globals limit call layout es l taken other)
        equals_right b none l k taken other at f t h g = g
        equals_right b (more e es) l k taken other at (f, is, fs) (t, ts) h g = λ st m holds.
            let x = local_of st l in
            let has : Has units (kind_at ls l) x = subst (λ o. Has units (unwrap_or o Void) x) (sym at) (local_has p shapes units u ls l k st at holds) in
            let decide : Val → State → Result = λ y st. got (λ v st. chosen (truth_of v) taken (one_equals names globals limit call layout es l taken other) st) (answer (binary op_is.Equal x y) st) in
            then_got p shapes units u ls c (kind e) (AStatement q b) (means e) decide (gets e f t) (λ y w.
            then_got p shapes units u ls c Bools (AStatement q b) (answer (binary op_is.Equal x y)) (λ v st. chosen (truth_of v) taken (one_equals names globals limit call layout es l taken other) st)
            (binary_value p shapes units u ls c op_is.Equal (kind_at ls l) (kind e) Bools x y is has w) (λ v r.
            choice p shapes units u ls c (AStatement q b) (truth_of v) taken (one_equals names globals limit call layout es l taken other) h (equals_right b es l k taken other at fs ts h g))) st m holds

        module _ (n : ℕ) (fuel : limit - c < n) where
          mutual
            pub stmt_right : (b : Bool) (s : Stmt) → StmtFits p shapes globals layout ls u q b s → StmtIsBuilt globals functions s → Does c b (stmt_means names globals limit call layout n s)
            stmt_right b (bare h) f t = bare_right b h.op f t
            stmt_right b (valued h e) f t = valued_right b h.op e f t
            stmt_right b (assign h target e) (f, g, is) t = does_change c b (assign_means names globals limit call layout h.op (slot_local layout h.owner) target e) (assign_right h.op (slot_local layout h.owner) target e f t.0 g t.1 is)
            stmt_right b (print at es) f t = all_right p shapes units u ls c globals layout functions call calls es [] [] (AStatement q b) (printed names) f t tt (λ vs w st l holds. (omega arith, (tt, holds)))
            stmt_right b (block ss) f t = stmts_right b ss f t
            stmt_right b (branch bs s) f t = branches_right b bs _ f.0 t.0 (stmt_right b s f.1 t.1)
            stmt_right b (while_loop e s) ((f, is), g) t =
                rounds_right n c b (means e) _ fuel (subst (λ k. Makes p shapes units u ls c (AnExpression k) (means e)) is (gets e f t.0)) (stmt_right true s g t.1)
            stmt_right b (for_loop h e s) (f, over, at, g) t =
                let k = kind_of_type globals.ranges h.ty in
                then_got p shapes units u ls c (kind e) (AStatement q b) (means e) (λ v st. each names globals limit call layout (members_of v) (layout.first + h.slot) (stmt_means names globals limit call layout n s) st) (gets e f t.0) (λ v w.
                each_right (members_of v) (layout.first + h.slot) c b k _ at (λ i. row_kept units (kind e) k v i over w) (stmt_right true s g t.1))
            stmt_right b (switch slot e cs s) (f, at, fs, g) (t, ts, tb) =
                let l = layout.first + slot in
                then_got p shapes units u ls c (kind e) (AStatement q b) (means e) (λ v st. cases_mean names globals limit call layout n l cs (stmt_means names globals limit call layout n s) (set_local l v st)) (gets e f t) (λ v w st m holds.
                cases_right b l (kind e) cs _ at fs ts (stmt_right b s g tb) (set_local l v st) m (set_holds p shapes units u ls l (kind e) v st at w holds))

            stmts_right : (b : Bool) (ss : Stmts) → StmtsFit p shapes globals layout ls u q b ss → StmtsAreBuilt globals functions ss → Does c b (stmts_mean names globals limit call layout n ss)
            stmts_right b no_stmts f t = fine_right c b
            stmts_right b (more_stmts s ss) f t = then_next c b _ _ (stmt_right b s f.0 t.0) (stmts_right b ss f.1 t.1)

            branches_right : (b : Bool) (bs : Branches) (other : State → Result) → BranchesFit p shapes globals layout ls u q b bs → BranchesAreBuilt globals functions bs → Does c b other
                → Does c b (branches_mean names globals limit call layout n bs other)
            branches_right b no_branches other f t h = h
            branches_right b (more_branches e s bs) other ((f, is), g, fs) (t, tb, ts) h =
                then_got p shapes units u ls c (kind e) (AStatement q b) (means e) _ (gets e f t) (λ v w.
                choice p shapes units u ls c (AStatement q b) (truth_of v) (stmt_means names globals limit call layout n s) (branches_mean names globals limit call layout n bs other) (stmt_right b s g tb) (branches_right b bs other fs ts h))

            cases_right : (b : Bool) (l : ℕ) (k : Kind) (cs : Cases) (other : State → Result) → slice_get ls l ≡ Some k → CasesFit p shapes globals layout ls u q b l cs → CasesAreBuilt globals functions cs → Does c b other
                → Does c b (cases_mean names globals limit call layout n l cs other)
            cases_right b l k no_cases other at f t h = h
            cases_right b l k (more_cases es s cs) other at (f, g, fs) (t, tb, ts) h =
                equals_right b es l k _ _ at f t (stmt_right b s g tb) (cases_right b l k cs other at fs ts h)
