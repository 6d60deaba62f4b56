-- Nodes and statements of a tree in which all is built are built where no rule is broken: a `new` starts something alone, what can't be
-- called has no value, and what is dropped may be changed.
use Rattle.std.specs.Prelude.{ℕ, Bool, true, false, not, ◌&&◌, ◌||◌, if◌then◌else◌, List, [], ◌++◌, Option, Some, None}
use Rattle.std.proofs.Common.{◌≡◌, refl, sym, ◌∙◌}
use Rattle.std.proofs.lemmas.Bool.{and_parts, and_from}
use Rattle.sp_base.specs.declared.places.Span.{Span}
use Rattle.sp_words.specs.declared.methods.Method.{Method}
use Rattle.sp_types.specs.declared.words.Word.TheVariants as word_is
use Rattle.sp_types.specs.Types.{Ty, word, made}
use Rattle.sp_typed.specs.declared.heads.Two.{Two}
use Rattle.sp_typed.specs.declared.words.OneOp.{OneOp}
use Rattle.sp_typed.specs.declared.words.OneOp.TheVariants as one_is
use Rattle.sp_typed.specs.declared.words.TwoOp.{TwoOp}
use Rattle.sp_typed.specs.declared.words.TwoOp.TheVariants as two_is
use Rattle.sp_typed.specs.declared.words.ManyOp.{ManyOp}
use Rattle.sp_typed.specs.declared.words.ManyOp.TheVariants as many_is
use Rattle.sp_typed.specs.declared.words.UnitMethod.TheVariants as unit_is
use Rattle.sp_typed.specs.declared.words.Written.{Written}
use Rattle.sp_typed.specs.declared.stmt_words.ValuedOp.{ValuedOp}
use Rattle.sp_typed.specs.declared.stmt_words.ValuedOp.TheVariants as valued_is
use Rattle.sp_typed.specs.Exprs.{Expr, Exprs, leaf, one, two, three, many, none, more, type_of}
use Rattle.sp_typed.specs.Nodes.{word_one, word_many, holds, all_hold}
use Rattle.sp_typed.specs.Stmts.{Stmt, Stmts, Branches, Cases, bare, valued, assign, print, block, branch, while_loop, for_loop, switch, no_stmts, more_stmts, no_branches, more_branches, no_cases, more_cases}
use Rattle.sp_typed.specs.StmtNodes.{stmts_in, stmts_in_all, stmts_in_branches, stmts_in_cases, nodes_hold, stmts_hold, branches_hold, cases_hold}
use Rattle.sp_rule_bodies.specs.Known.{Known}
use Rattle.sp_rule_bodies.specs.Values.{is_new, is_void, is_sink, is_no_value, is_no_object, written_tests}
use Rattle.sp_type_operands.specs.Operands.{is_valueless}
use Rattle.sp_rule_bodies.specs.ExprTests.{one_op_tests, two_op_tests, all_value_tests, elements_tests, entries_tests, argument_tests, many_op_tests}
use Rattle.sp_rule_bodies.specs.StmtTests.{local_tests, return_tests, change_tests, valued_op_tests, print_tests, branches_tests, case_tests, cases_tests}
use Rattle.sp_law_lists.specs.known_types.Full.{is_full, is_right, is_bare, holds_inside}
use Rattle.sp_law_lists.specs.known_types.Clear.{is_clear, any_op}
use Rattle.sp_law_lists.specs.known_types.Stmts.{is_good, takes_key, each_holds, exprs_hold, all_exprs_hold, branch_exprs_hold, case_exprs_hold}
use Rattle.sp_law_lists.proofs.known_types_lemmas.Full.{never}
use Rattle.sp_law_lists.proofs.known_types_lemmas.Tests.{Fine, fine_parts, is_whole, at_first, first_fine}
use Rattle.sp_law_lists.proofs.known_types_lemmas.Bodies.{Quiet, two_quiet, at_first as first_tests, behind}
use Rattle.sp_law_lists.specs.known_kinds.Made.{is_operator, is_row, is_built}
use Rattle.sp_law_lists.proofs.known_kinds_lemmas.Values.{has_type, not_true, and_false}
use Rattle.sp_law_lists.specs.known_statements.Built.{stmt_built, stmts_built, branches_built, cases_built}
use Rattle.sp_law_lists.proofs.passing_list_lemmas.Early.{early_one, early_many, is_early, stmt_early, stmts_early, branches_early, cases_early}

-- what has a value is no `new`
valued_new : (t : Ty) → is_valueless t ≡ false → is_new t ≡ false
valued_new (word word_is.New) h = never (sym h)
valued_new (word _) h = refl
valued_new (made m ts) h = refl

no_new : (e : Expr) → is_no_value e ≡ false → is_new (type_of e) ≡ false
no_new e h = valued_new (type_of e) (has_type e h)

sink_new : (t : Ty) → is_sink t ≡ true → is_new t ≡ false
sink_new (word word_is.Sink) h = refl
sink_new (word _) h = never h
sink_new (made m ts) h = never h

object_new : (e : Expr) → is_no_object e ≡ false → is_new (type_of e) ≡ false
object_new e h = by (is_sink (type_of e)) refl h
  where
    by : (b : Bool) → is_sink (type_of e) ≡ b → (is_no_value e && not b) ≡ false → is_new (type_of e) ≡ false
    by true is i = sink_new (type_of e) is
    by false is i = no_new e (and_false (is_no_value e) i)

void_new : (t : Ty) → not (is_void t) ≡ false → is_new t ≡ false
void_new (word word_is.Void) h = refl
void_new (word _) h = never (sym h)
void_new (made m ts) h = never (sym h)

alone_new : (e : Expr) → (is_no_value e && not (is_void (type_of e))) ≡ false → is_new (type_of e) ≡ false
alone_new e h = by (is_no_value e) refl h
  where
    by : (b : Bool) → is_no_value e ≡ b → (b && not (is_void (type_of e))) ≡ false → is_new (type_of e) ≡ false
    by true is i = void_new (type_of e) i
    by false is i = no_new e is

abbrev NoNews : Exprs → Type 0
NoNews none = Unit {0}
NoNews (more e es) = (is_new (type_of e) ≡ false) × NoNews es

-- what starts a unit or the decoder
abbrev starts : ManyOp → Bool
starts (many_is.New of path) = true
starts op = false

abbrev is_start : Expr → Bool
is_start (many h es) = starts h.op
is_start e = false

no_start : (op : ManyOp) (t : Ty) → early_many op t ≡ true → is_new t ≡ false → starts op ≡ false
no_start (many_is.New of path) t early new = never (sym new ∙ early)
no_start _ t early new = refl

unstarted : (e : Expr) → holds is_early e ≡ true → is_new (type_of e) ≡ false → is_start e ≡ false
unstarted (leaf h) early new = refl
unstarted (one h a) early new = refl
unstarted (two h a b) early new = refl
unstarted (three h c a b) early new = refl
unstarted (many h es) early new = no_start h.op h.ty (at_first is_early (many h es) early) new

module _ (k : Known) (m : ℕ) where
  abbrev clear : Expr → Bool
  clear = is_clear any_op k m

  -- parts of a node are no `new`
  values_new : (es : Exprs) → Fine (all_value_tests m es) → NoNews es
  values_new none f = tt
  values_new (more e es) f = (no_new e f.0, values_new es f.1.1)

  elements_new : (keyed : Bool) (head : Expr) (es : Exprs) → Fine (elements_tests m keyed head es) → NoNews es
  elements_new keyed head none f = tt
  elements_new keyed head (more e es) f = (no_new e f.0, elements_new keyed head es f.1.1.1.1)

  entries_new : (keyed : Bool) (key value : Expr) (es : Exprs) → Fine (entries_tests m keyed key value es) → NoNews es
  entries_new keyed key value none f = tt
  entries_new keyed key value (more e es) f = (no_new e f.0, entries_new (not keyed) key value es f.1.1.1.1)

  arguments_new : (es : Exprs) → Fine (argument_tests m false es) → NoNews es
  arguments_new none f = tt
  arguments_new (more e es) f = (no_new e (and_false (is_no_value e) f.0), arguments_new es f.1)

  parts_new : (op : ManyOp) (t : Ty) (span : Span) (es : Exprs) → early_many op t ≡ true → Fine (many_op_tests k m op span es) → NoNews es
  parts_new many_is.Tuple t span es early f = values_new es f
  parts_new many_is.Vector t span none early f = tt
  parts_new many_is.Vector t span (more e es) early f = elements_new false e (more e es) f
  parts_new many_is.Set t span none early f = tt
  parts_new many_is.Set t span (more e es) early f = elements_new true e (more e es) f
  parts_new many_is.Map t span none early f = tt
  parts_new many_is.Map t span (more key none) early f = never (sym f.0)
  parts_new many_is.Map t span (more key (more value es)) early f = entries_new true key value (more key (more value es)) f
  parts_new (many_is.Call n) t span es early f = arguments_new es f.1
  parts_new (many_is.Convert n) t span es early f = arguments_new es f.1
  parts_new (many_is.New of path) t span es early f = arguments_new es f.1
  parts_new (many_is.Method method slot) t span none early f = tt
  parts_new (many_is.Method method slot) t span (more e es) early f = (object_new e f.0, arguments_new es f.1.1.1.1)
  parts_new (many_is.OfUnit method name) t span none early f = tt
  parts_new (many_is.OfUnit unit_is.Offset name) t span (more e es) early f = (object_new e f.0, arguments_new es f.1.1.1.1)
  parts_new (many_is.OfUnit _ name) t span (more e es) early f = never early
  parts_new (many_is.OfSink method) t span es early f = never early
  parts_new many_is.NoCall t span none early f = tt
  parts_new many_is.NoCall t span (more e es) early f = (no_new e f.0, values_new es f.1.1.1)

  one_new : (op : OneOp) (t : Ty) (a : Expr) → early_one op a ≡ true → Fine (one_op_tests m t op a) → is_new (type_of a) ≡ false
  one_new one_is.Negate t a early f = no_new a f.0
  one_new one_is.Not t a early f = no_new a f.0
  one_new one_is.Complement t a early f = no_new a f.0
  one_new one_is.Size t a early f = no_new a f.0
  one_new (one_is.Cast w) t a early f = no_new a (fine_parts (written_tests m w) _ f).1.1.0
  one_new (one_is.NoMember name) t a early f = object_new a f.0
  one_new one_is.Widen t a early f = not_true (is_new (type_of a)) early
  one_new (one_is.Field n) t a early f = no_new a f.0
  one_new (one_is.Variable n) t a early f = no_new a f.0
  one_new (one_is.SinkOf n) t a early f = no_new a f.0
  one_new (one_is.Bit n) t a early f = no_new a f.0
  one_new (one_is.IsSet n) t a early f = no_new a f.0

  two_new : (op : TwoOp) (a b : Expr) → Fine (two_op_tests k m op a b) → (is_new (type_of a) ≡ false) × (is_new (type_of b) ≡ false)
  two_new (two_is.Binary op) a b f = (no_new a f.0, no_new b f.1.1.1.0)
  two_new two_is.Index a b f = (no_new a f.0, no_new b f.1.1.0)
  two_new (two_is.Item n) a b f = (no_new a f.0, no_new b f.1.1.0)

  -- nodes
  one_built : (op : OneOp) (a : Expr) → early_one op a ≡ true → not (word_one op) ≡ true → is_operator op ≡ true
  one_built (one_is.SinkOf n) a early right = never early
  one_built (one_is.NoMember name) a early right = never right
  one_built one_is.Negate a early right = refl
  one_built one_is.Not a early right = refl
  one_built one_is.Complement a early right = refl
  one_built one_is.Size a early right = refl
  one_built (one_is.Cast w) a early right = refl
  one_built one_is.Widen a early right = refl
  one_built (one_is.Field n) a early right = refl
  one_built (one_is.Variable n) a early right = refl
  one_built (one_is.Bit n) a early right = refl
  one_built (one_is.IsSet n) a early right = refl

  many_built : (op : ManyOp) (t : Ty) (span : Span) (es : Exprs) → early_many op t ≡ true → not (word_many op) ≡ true → starts op ≡ false → Fine (many_op_tests k m op span es) → is_row op ≡ true
  many_built many_is.Tuple t span es early right start f = refl
  many_built many_is.Vector t span es early right start f = refl
  many_built many_is.Set t span es early right start f = refl
  many_built many_is.Map t span es early right start f = refl
  many_built (many_is.Call n) t span es early right start f = refl
  many_built (many_is.Convert n) t span es early right start f = refl
  many_built (many_is.New of path) t span es early right start f = never (sym start)
  many_built (many_is.Method method slot) t span es early right start f = refl
  many_built (many_is.OfUnit method name) t span es early right start f = early
  many_built (many_is.OfSink method) t span es early right start f = never early
  many_built many_is.NoCall t span es early right start f = never right

  two_started : (h : Two) (a b : Expr) → holds is_early (two h a b) ≡ true → holds clear (two h a b) ≡ true → (is_start a ≡ false) × (is_start b ≡ false)
  two_started h a b early c =
      let i = and_parts (holds is_early a) (holds is_early b) early in
      let new = two_new h.op a b (first_fine any_op k m (two h a b) c) in
      (unstarted a i.0 new.0, unstarted b i.1 new.1)

  mutual
    -- An expression that is no `new`.
    pub expr_built : (e : Expr) → holds is_early e ≡ true → holds clear e ≡ true → holds is_right e ≡ true → is_start e ≡ false → holds is_built e ≡ true
    expr_built (leaf h) early c right start = refl
    expr_built (one h a) early c right start =
        let i = and_parts (early_one h.op a) (holds is_early a) early in
        let x = and_parts (clear (one h a)) (holds clear a) c in
        let y = and_parts (is_right (one h a)) (holds is_right a) right in
        let own = and_parts (not (word_one h.op)) (is_full h.ty) y.0 in
        let new = one_new h.op h.ty a i.0 (first_fine any_op k m (one h a) c) in
        and_from (is_operator h.op) (holds is_built a) (one_built h.op a i.0 own.0) (expr_built a i.1 x.1 y.1 (unstarted a i.1 new))
    expr_built (two h a b) early c right start =
        let i = and_parts (holds is_early a) (holds is_early b) early in
        let x = and_parts (clear (two h a b)) (holds clear a && holds clear b) c in
        let u = and_parts (holds clear a) (holds clear b) x.1 in
        let y = and_parts (is_right (two h a b)) (holds is_right a && holds is_right b) right in
        let z = and_parts (holds is_right a) (holds is_right b) y.1 in
        let apart = two_started h a b early c in
        and_from (holds is_built a) (holds is_built b) (expr_built a i.0 u.0 z.0 apart.0) (expr_built b i.1 u.1 z.1 apart.1)
    expr_built (three h c a b) early clear_all right start =
        let i = and_parts (holds is_early c) (holds is_early a && holds is_early b) early in
        let j = and_parts (holds is_early a) (holds is_early b) i.1 in
        let x = and_parts (clear (three h c a b)) (holds clear c && (holds clear a && holds clear b)) clear_all in
        let u = and_parts (holds clear c) (holds clear a && holds clear b) x.1 in
        let v = and_parts (holds clear a) (holds clear b) u.1 in
        let y = and_parts (is_right (three h c a b)) (holds is_right c && (holds is_right a && holds is_right b)) right in
        let z = and_parts (holds is_right c) (holds is_right a && holds is_right b) y.1 in
        let w = and_parts (holds is_right a) (holds is_right b) z.1 in
        let f = first_fine any_op k m (three h c a b) clear_all in
        and_from (holds is_built c) (holds is_built a && holds is_built b) (expr_built c i.0 u.0 z.0 (unstarted c i.0 (no_new c f.0)))
        (and_from (holds is_built a) (holds is_built b) (expr_built a j.0 v.0 w.0 (unstarted a j.0 (no_new a f.1.1.1.0))) (expr_built b j.1 v.1 w.1 (unstarted b j.1 (no_new b f.1.1.1.1.1.0))))
    expr_built (many h es) early c right start =
        let i = and_parts (early_many h.op h.ty) (all_hold is_early es) early in
        let x = and_parts (clear (many h es)) (all_hold clear es) c in
        let y = and_parts (is_right (many h es)) (all_hold is_right es) right in
        let own = and_parts (not (word_many h.op)) (is_full h.ty) y.0 in
        let f = first_fine any_op k m (many h es) c in
        and_from (is_row h.op) (all_hold is_built es) (many_built h.op h.ty h.span es i.0 own.0 start f) (all_built es i.1 x.1 y.1 (parts_new h.op h.ty h.span es i.0 f))

    all_built : (es : Exprs) → all_hold is_early es ≡ true → all_hold clear es ≡ true → all_hold is_right es ≡ true → NoNews es → all_hold is_built es ≡ true
    all_built none early c right new = refl
    all_built (more e es) early c right new =
        let i = and_parts (holds is_early e) (all_hold is_early es) early in
        let x = and_parts (holds clear e) (all_hold clear es) c in
        let y = and_parts (holds is_right e) (all_hold is_right es) right in
        and_from (holds is_built e) (all_hold is_built es) (expr_built e i.0 x.0 y.0 (unstarted e i.0 new.0)) (all_built es i.1 x.1 y.1 new.1)

  -- A value.
  pub value_is_built : (e : Expr) → holds is_early e ≡ true → holds clear e ≡ true → holds is_right e ≡ true → is_no_value e ≡ false → holds is_built e ≡ true
  value_is_built e early c right has = expr_built e early c right (unstarted e early (no_new e has))

  -- what `add` and `delete` take
  bare_built : (e : Expr) → holds is_early e ≡ true → holds clear e ≡ true → holds_inside is_right e ≡ true → is_bare e ≡ true → holds is_built e ≡ true
  bare_built (leaf h) early c inside is = refl
  bare_built (two h a b) early c inside is =
      let i = and_parts (holds is_early a) (holds is_early b) early in
      let x = and_parts (clear (two h a b)) (holds clear a && holds clear b) c in
      let u = and_parts (holds clear a) (holds clear b) x.1 in
      let y = and_parts (holds is_right a) (holds is_right b) inside in
      let apart = two_started h a b early c in
      and_from (holds is_built a) (holds is_built b) (expr_built a i.0 u.0 y.0 apart.0) (expr_built b i.1 u.1 y.1 apart.1)
  bare_built (one h a) early c inside is = never is
  bare_built (three h x a b) early c inside is = never is
  bare_built (many h es) early c inside is = never is

  key_built : (e : Expr) → holds is_early e ≡ true → holds clear e ≡ true → is_good e ≡ true → is_start e ≡ false → holds is_built e ≡ true
  key_built e early c good start =
      let p = and_parts (holds_inside is_right e) (is_right e || is_bare e) good in
      by p.0 (is_right e) refl p.1
    where
      by : holds_inside is_right e ≡ true → (b : Bool) → is_right e ≡ b → (b || is_bare e) ≡ true → holds is_built e ≡ true
      by inside true is either = expr_built e early c (is_whole is_right e inside is) start
      by inside false is either = bare_built e early c inside either

  changed_start : (deletes : Bool) (e : Expr) → Fine (change_tests k m deletes e) → is_start e ≡ false
  changed_start deletes (two h a i) f = refl
  changed_start deletes (leaf h) f = refl
  changed_start deletes (one h a) f = refl
  changed_start deletes (three h c a b) f = refl
  changed_start deletes (many h es) f = never (sym f.0)

  module _ (wanted : Option Ty) where
    abbrev Still : List Stmt → Type 0
    Still ss = Quiet k wanted m ss

    local_value : (t : Ty) (w : Option Written) (e : Expr) → Fine (local_tests m t w e) → is_no_value e ≡ false
    local_value t None e f = f.0
    local_value t (Some w) e f = (fine_parts (written_tests m w) _ f).1.0

    returned_value : (o : Option Ty) (e : Expr) → Fine (return_tests o m e) → is_no_value e ≡ false
    returned_value None e f = f.0
    returned_value (Some t) e f = f.0

    valued_built : (op : ValuedOp) (e : Expr) → holds is_early e ≡ true → holds clear e ≡ true → (if takes_key op then is_good e else holds is_right e) ≡ true → Fine (valued_op_tests k wanted m op e) → holds is_built e ≡ true
    valued_built (valued_is.Local l) e early c right f = value_is_built e early c right (local_value l.ty l.written e f)
    valued_built valued_is.Return e early c right f = value_is_built e early c right (returned_value wanted e f)
    valued_built valued_is.Throw e early c right f = value_is_built e early c right f.0
    valued_built (valued_is.Assert text) e early c right f = value_is_built e early c right f.0
    valued_built (valued_is.Add slot) e early c right f = key_built e early c right (changed_start false e f)
    valued_built (valued_is.Delete slot) e early c right f = key_built e early c right (changed_start true e f)
    valued_built valued_is.Expr e early c right f = expr_built e early c right (unstarted e early (alone_new e f.0))

    printed_new : (es : Exprs) → Fine (print_tests m es) → NoNews es
    printed_new none f = tt
    printed_new (more e es) f = (no_new e f.0, printed_new es f.1.1.1)

    each_right : (es : Exprs) → each_holds (holds is_right) es ≡ true → all_hold is_right es ≡ true
    each_right none h = refl
    each_right (more e es) h = (let p = and_parts (holds is_right e) (each_holds (holds is_right) es) h in and_from (holds is_right e) (all_hold is_right es) p.0 (each_right es p.1))

    case_new : (x : Expr) (es : Exprs) → Fine (case_tests m x es) → NoNews es
    case_new x none f = tt
    case_new x (more e es) f = (no_new e f.0, case_new x es f.1.1.1)

    mutual
      -- A statement.
      pub stmt_is_built : (s : Stmt) → stmt_early s ≡ true → nodes_hold clear s ≡ true → Still (stmts_in s) → exprs_hold (holds is_right) is_good s ≡ true → stmt_built s ≡ true
      stmt_is_built (bare h) i c q r = i
      stmt_is_built (valued h e) i c q r = valued_built h.op e i c r (first_tests k wanted m (valued h e) [] q)
      stmt_is_built (assign h d e) i c q r =
          let p = and_parts (holds is_early d) (holds is_early e) i in
          let x = and_parts (holds clear d) (holds clear e) c in
          let y = and_parts (holds is_right d) (holds is_right e) r in
          let f = first_tests k wanted m (assign h d e) [] q in
          and_from (holds is_built d) (holds is_built e) (expr_built d p.0 x.0 y.0 (unstarted d p.0 (object_new d f.0))) (value_is_built e p.1 x.1 y.1 f.1.1.1.0)
      stmt_is_built (print at es) i c q r = all_built es i c (each_right es r) (printed_new es (first_tests k wanted m (print at es) [] q))
      stmt_is_built (block ss) i c q r = stmts_are_built ss i c (behind k wanted m (block ss) (stmts_in_all ss) q) r
      stmt_is_built (branch bs b) i c q r =
          let inner = stmts_in_branches bs ++ stmts_in b in
          let p = and_parts (branches_early bs) (stmt_early b) i in
          let x = and_parts (branches_hold clear bs) (nodes_hold clear b) c in
          let y = and_parts (branch_exprs_hold (holds is_right) is_good bs) (exprs_hold (holds is_right) is_good b) r in
          let n = two_quiet k wanted m (stmts_in_branches bs) (stmts_in b) (behind k wanted m (branch bs b) inner q) in
          and_from (branches_built bs) (stmt_built b) (branches_are_built bs p.0 x.0 n.0 y.0 (first_tests k wanted m (branch bs b) inner q)) (stmt_is_built b p.1 x.1 n.1 y.1)
      stmt_is_built (while_loop e b) i c q r =
          let p = and_parts (holds is_early e) (stmt_early b) i in
          let x = and_parts (holds clear e) (nodes_hold clear b) c in
          let y = and_parts (holds is_right e) (exprs_hold (holds is_right) is_good b) r in
          let f = first_tests k wanted m (while_loop e b) (stmts_in b) q in
          and_from (holds is_built e) (stmt_built b) (value_is_built e p.0 x.0 y.0 f.0) (stmt_is_built b p.1 x.1 (behind k wanted m (while_loop e b) (stmts_in b) q) y.1)
      stmt_is_built (for_loop h e b) i c q r =
          let p = and_parts (holds is_early e) (stmt_early b) i in
          let x = and_parts (holds clear e) (nodes_hold clear b) c in
          let y = and_parts (holds is_right e) (exprs_hold (holds is_right) is_good b) r in
          let f = first_tests k wanted m (for_loop h e b) (stmts_in b) q in
          and_from (holds is_built e) (stmt_built b) (value_is_built e p.0 x.0 y.0 f.0) (stmt_is_built b p.1 x.1 (behind k wanted m (for_loop h e b) (stmts_in b) q) y.1)
      stmt_is_built (switch slot e cs b) i c q r =
          let node = switch slot e cs b in
          let inner = stmts_in_cases cs ++ stmts_in b in
          let p = and_parts (holds is_early e) (cases_early cs && stmt_early b) i in
          let o = and_parts (cases_early cs) (stmt_early b) p.1 in
          let x = and_parts (holds clear e) (cases_hold clear cs && nodes_hold clear b) c in
          let v = and_parts (cases_hold clear cs) (nodes_hold clear b) x.1 in
          let y = and_parts (holds is_right e) (case_exprs_hold (holds is_right) is_good cs && exprs_hold (holds is_right) is_good b) r in
          let w = and_parts (case_exprs_hold (holds is_right) is_good cs) (exprs_hold (holds is_right) is_good b) y.1 in
          let f = first_tests k wanted m node inner q in
          let n = two_quiet k wanted m (stmts_in_cases cs) (stmts_in b) (behind k wanted m node inner q) in
          and_from (holds is_built e) (cases_built cs && stmt_built b) (value_is_built e p.0 x.0 y.0 f.0)
          (and_from (cases_built cs) (stmt_built b) (cases_are_built e cs o.0 v.0 n.0 w.0 f.1.1.1) (stmt_is_built b o.1 v.1 n.1 w.1))

      stmts_are_built : (ss : Stmts) → stmts_early ss ≡ true → stmts_hold clear ss ≡ true → Still (stmts_in_all ss) → all_exprs_hold (holds is_right) is_good ss ≡ true → stmts_built ss ≡ true
      stmts_are_built no_stmts i c q r = refl
      stmts_are_built (more_stmts b ss) i c q r =
          let p = and_parts (stmt_early b) (stmts_early ss) i in
          let x = and_parts (nodes_hold clear b) (stmts_hold clear ss) c in
          let y = and_parts (exprs_hold (holds is_right) is_good b) (all_exprs_hold (holds is_right) is_good ss) r in
          let n = two_quiet k wanted m (stmts_in b) (stmts_in_all ss) q in
          and_from (stmt_built b) (stmts_built ss) (stmt_is_built b p.0 x.0 n.0 y.0) (stmts_are_built ss p.1 x.1 n.1 y.1)

      branches_are_built : (bs : Branches) → branches_early bs ≡ true → branches_hold clear bs ≡ true → Still (stmts_in_branches bs) → branch_exprs_hold (holds is_right) is_good bs ≡ true → Fine (branches_tests m bs) → branches_built bs ≡ true
      branches_are_built no_branches i c q r f = refl
      branches_are_built (more_branches e b bs) i c q r f =
          let p = and_parts (holds is_early e) (stmt_early b && branches_early bs) i in
          let o = and_parts (stmt_early b) (branches_early bs) p.1 in
          let x = and_parts (holds clear e) (nodes_hold clear b && branches_hold clear bs) c in
          let v = and_parts (nodes_hold clear b) (branches_hold clear bs) x.1 in
          let y = and_parts (holds is_right e) (exprs_hold (holds is_right) is_good b && branch_exprs_hold (holds is_right) is_good bs) r in
          let w = and_parts (exprs_hold (holds is_right) is_good b) (branch_exprs_hold (holds is_right) is_good bs) y.1 in
          let n = two_quiet k wanted m (stmts_in b) (stmts_in_branches bs) q in
          and_from (holds is_built e) (stmt_built b && branches_built bs) (value_is_built e p.0 x.0 y.0 f.0)
          (and_from (stmt_built b) (branches_built bs) (stmt_is_built b o.0 v.0 n.0 w.0) (branches_are_built bs o.1 v.1 n.1 w.1 f.1.1.1))

      cases_are_built : (e : Expr) (cs : Cases) → cases_early cs ≡ true → cases_hold clear cs ≡ true → Still (stmts_in_cases cs) → case_exprs_hold (holds is_right) is_good cs ≡ true → Fine (cases_tests m e cs) → cases_built cs ≡ true
      cases_are_built e no_cases i c q r f = refl
      cases_are_built e (more_cases es b cs) i c q r f =
          let p = and_parts (all_hold is_early es) (stmt_early b && cases_early cs) i in
          let o = and_parts (stmt_early b) (cases_early cs) p.1 in
          let x = and_parts (all_hold clear es) (nodes_hold clear b && cases_hold clear cs) c in
          let v = and_parts (nodes_hold clear b) (cases_hold clear cs) x.1 in
          let y = and_parts (each_holds (holds is_right) es) (exprs_hold (holds is_right) is_good b && case_exprs_hold (holds is_right) is_good cs) r in
          let w = and_parts (exprs_hold (holds is_right) is_good b) (case_exprs_hold (holds is_right) is_good cs) y.1 in
          let g = fine_parts (case_tests m e es) (cases_tests m e cs) f in
          let n = two_quiet k wanted m (stmts_in b) (stmts_in_cases cs) q in
          and_from (all_hold is_built es) (stmt_built b && cases_built cs) (all_built es p.0 x.0 (each_right es y.0) (case_new e es g.0))
          (and_from (stmt_built b) (cases_built cs) (stmt_is_built b o.0 v.0 n.0 w.0) (cases_are_built e cs o.1 v.1 n.1 w.1 g.1))
