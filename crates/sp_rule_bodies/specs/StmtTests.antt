-- The rules at one statement, apart from its expressions, a line for each alternative.
use Rattle.std.specs.Prelude.{ℕ, Bool, true, false, not, ◌&&◌, ◌||◌, List, [], ◌∷◌, ◌++◌, Option, Some, None, is_none}
use Rattle.sp_base.specs.declared.places.Span.{Span}
use Rattle.sp_rules.specs.declared.rule.Rule.TheVariants as rule_is
use Rattle.sp_rules.specs.declared.fault.Fault.{Fault}
use Rattle.sp_words.specs.declared.operators.AssignOp.{AssignOp}
use Rattle.sp_words.specs.declared.operators.AssignOp.TheVariants as assign_is
use Rattle.sp_types.specs.Types.{Ty, Tys, word, made}
use Rattle.sp_types.specs.Types as types
use Rattle.sp_types.specs.declared.words.Word.TheVariants as word_is
use Rattle.sp_types.specs.declared.words.Maker.TheVariants as maker_is
use Rattle.sp_typed.specs.declared.stmt_words.BareOp.{BareOp}
use Rattle.sp_typed.specs.declared.stmt_words.BareOp.TheVariants as bare_is
use Rattle.sp_typed.specs.declared.stmt_words.ValuedOp.{ValuedOp}
use Rattle.sp_typed.specs.declared.stmt_words.ValuedOp.TheVariants as valued_is
use Rattle.sp_typed.specs.declared.words.Written.{Written}
use Rattle.sp_typed.specs.declared.words.TwoOp.{TwoOp}
use Rattle.sp_typed.specs.declared.words.TwoOp.TheVariants as two_is
use Rattle.sp_typed.specs.Exprs.{Expr, Exprs, two, none, more, type_of, span_of}
use Rattle.sp_typed.specs.Stmts.{Stmt, Branches, Cases, bare, valued, assign, print, block, branch, while_loop, for_loop, switch, no_branches, more_branches, no_cases, more_cases}
use Rattle.sp_type_operands.specs.declared.operators.OperatorSort.TheVariants as sort_is
use Rattle.sp_type_operands.specs.Operands.{is_integer, is_bytes, is_text, stands_before, agree}
use Rattle.sp_type_operands.specs.Literals.{seen, is_past}
use Rattle.sp_rule_bodies.specs.Values.{is_void, is_set, is_no_value, is_no_object, knows, value_span, value_tests, wrong, right_tests, condition_tests, target_tests, written_tests}
use Rattle.sp_rules.specs.Faults.{at}
use Rattle.sp_rule_bodies.specs.Known.{Known}
use Rattle.sp_rule_bodies.specs.ExprTests.{may_change, may_change_in}

abbrev pub is_map : Ty → Bool
is_map (made maker_is.Map ts) = true
is_map _ = false

-- a local without a value needs a type
abbrev pub bare_local_tests : ℕ → Span → Option Written → List (Bool × Fault)
bare_local_tests m name None = (true, at m rule_is.TypeMismatch name) ∷ []
bare_local_tests m name (Some w) = written_tests m w

-- a local and its value, which goes to the type that is written
abbrev pub local_tests : ℕ → Ty → Option Written → Expr → List (Bool × Fault)
local_tests m t None e = value_tests m e
local_tests m t (Some w) e = written_tests m w ++ target_tests m t e

-- a word that stands where it means nothing
abbrev pub bare_op_tests : Option Ty → ℕ → Span → BareOp → List (Bool × Fault)
bare_op_tests wanted m span (bare_is.Local l) = bare_local_tests m l.name l.written
bare_op_tests wanted m span bare_is.Return = (not (is_none wanted), at m rule_is.NotAssignable span) ∷ []
bare_op_tests wanted m span (bare_is.Break meant) = (not meant, at m rule_is.OutsideLoop span) ∷ []
bare_op_tests wanted m span (bare_is.Continue meant) = (not meant, at m rule_is.OutsideLoop span) ∷ []
bare_op_tests wanted m span (bare_is.Stop meant) = (not meant, at m rule_is.OutsideLoop span) ∷ []
bare_op_tests wanted m span (bare_is.Confirm meant) = (not meant, at m rule_is.SelfOutside span) ∷ []
bare_op_tests wanted m span (bare_is.Reject meant) = (not meant, at m rule_is.SelfOutside span) ∷ []

-- what is returned goes to the type of the result, where there is one
abbrev pub return_tests : Option Ty → ℕ → Expr → List (Bool × Fault)
return_tests None m e = (is_no_value e, at m rule_is.TypeMismatch (value_span e)) ∷ ((true, at m rule_is.NotAssignable (span_of e)) ∷ [])
return_tests (Some t) m e = target_tests m t e

-- `add s[k]`, `delete s[k]` and `delete m[k]`: the key of a set, or of a map
abbrev pub has_changed_keys : Bool → Ty → Bool
has_changed_keys deletes t = is_set t || (deletes && is_map t)

abbrev pub key_change_tests : Known → ℕ → Bool → TwoOp → Span → Expr → List (Bool × Fault)
key_change_tests k m deletes two_is.Index span a =
    (knows a && not (has_changed_keys deletes (type_of a)), at m rule_is.TypeMismatch span) ∷ ((not (may_change_in k a), at m rule_is.NotAssignable span) ∷ [])
key_change_tests k m deletes _ span a = (true, at m rule_is.TypeMismatch span) ∷ []

abbrev pub change_tests : Known → ℕ → Bool → Expr → List (Bool × Fault)
change_tests k m deletes (two h a i) = key_change_tests k m deletes h.op h.span a
change_tests k m deletes e = (true, at m rule_is.TypeMismatch (span_of e)) ∷ []

-- an expression as a statement, which need not have a value
abbrev pub alone_tests : ℕ → Expr → List (Bool × Fault)
alone_tests m e =
    (is_no_value e && not (is_void (type_of e)), at m rule_is.TypeMismatch (value_span e)) ∷ ((is_past e, at m rule_is.LiteralRange (span_of e)) ∷ [])

abbrev pub valued_op_tests : Known → Option Ty → ℕ → ValuedOp → Expr → List (Bool × Fault)
valued_op_tests k wanted m (valued_is.Local l) e = local_tests m l.ty l.written e
valued_op_tests k wanted m valued_is.Return e = return_tests wanted m e
valued_op_tests k wanted m valued_is.Throw e = right_tests m (is_text (type_of e)) e
valued_op_tests k wanted m (valued_is.Assert text) e = condition_tests m e
valued_op_tests k wanted m (valued_is.Add slot) e = change_tests k m false e
valued_op_tests k wanted m (valued_is.Delete slot) e = change_tests k m true e
valued_op_tests k wanted m valued_is.Expr e = alone_tests m e

-- what an assignment takes as a target: `+=` appends, too
abbrev pub takes_target : AssignOp → Ty → Bool
takes_target assign_is.Set t = true
takes_target assign_is.Add t = is_integer t || is_bytes t || is_text t
takes_target assign_is.Subtract t = is_integer t

-- A sink as a target is one that can't be changed.
abbrev pub assign_tests : Known → ℕ → AssignOp → Expr → Expr → List (Bool × Fault)
assign_tests k m op target value =
    (is_no_object target, at m rule_is.TypeMismatch (value_span target)) ∷ (wrong m (takes_target op (type_of target)) target ∷ ((not (may_change k target), at m rule_is.NotAssignable (span_of target)) ∷ target_tests m (seen target) value))

-- what can be printed: all values but places of the input, also inside others
abbrev mutual
  pub is_printable : Ty → Bool
  is_printable (word word_is.Iterator) = false
  is_printable (word _) = true
  is_printable (made maker ts) = are_printable ts

  pub are_printable : Tys → Bool
  are_printable types.none = true
  are_printable (types.more t ts) = is_printable t && are_printable ts

abbrev pub print_tests : ℕ → Exprs → List (Bool × Fault)
print_tests m none = []
print_tests m (more e es) = right_tests m (is_printable (type_of e)) e ++ print_tests m es

abbrev pub branches_tests : ℕ → Branches → List (Bool × Fault)
branches_tests m no_branches = []
branches_tests m (more_branches e s bs) = condition_tests m e ++ branches_tests m bs

-- what a `for` goes over: vectors, sets, maps and bytes
abbrev pub is_sequence : Ty → Bool
is_sequence (word word_is.Bytes) = true
is_sequence (made maker_is.Vector ts) = true
is_sequence (made maker_is.Set ts) = true
is_sequence (made maker_is.Map ts) = true
is_sequence _ = false

-- the values of a `case`, which are compared with the subject
abbrev pub differs : Expr → Expr → Bool
differs subject e = knows subject && stands_before sort_is.Alike (type_of subject) && not (agree sort_is.Alike (type_of subject) (type_of e))

abbrev pub case_tests : ℕ → Expr → Exprs → List (Bool × Fault)
case_tests m subject none = []
case_tests m subject (more e es) = right_tests m (not (differs subject e)) e ++ case_tests m subject es

abbrev pub cases_tests : ℕ → Expr → Cases → List (Bool × Fault)
cases_tests m subject no_cases = []
cases_tests m subject (more_cases es s cs) = case_tests m subject es ++ cases_tests m subject cs

-- The tests at a statement, where a result of this type is wanted.
abbrev pub stmt_tests : Known → Option Ty → ℕ → Stmt → List (Bool × Fault)
stmt_tests k wanted m (bare h) = bare_op_tests wanted m h.span h.op
stmt_tests k wanted m (valued h e) = valued_op_tests k wanted m h.op e
stmt_tests k wanted m (assign h target value) = assign_tests k m h.op target value
stmt_tests k wanted m (print span es) = print_tests m es
stmt_tests k wanted m (block ss) = []
stmt_tests k wanted m (branch bs s) = branches_tests m bs
stmt_tests k wanted m (while_loop e s) = condition_tests m e
stmt_tests k wanted m (for_loop h e s) = right_tests m (is_sequence (type_of e)) e
stmt_tests k wanted m (switch slot e cs s) = right_tests m (stands_before sort_is.Alike (type_of e)) e ++ cases_tests m e cs
