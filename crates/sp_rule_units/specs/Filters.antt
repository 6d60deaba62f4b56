-- The rules at a node of an expression: where filters stand, and what a sink hook and a `new` may use.
use Rattle.std.specs.Prelude.{ℕ, zero, suc, Bool, true, false, not, ◌&&◌, List, [], ◌∷◌}
use Rattle.sp_base.specs.declared.places.Span.{Span}
use Rattle.sp_rules.specs.declared.rule.Rule.TheVariants as rule_is
use Rattle.sp_rules.specs.declared.fault.Fault.{Fault}
use Rattle.sp_types.specs.Types.{is_plain}
use Rattle.sp_typed.specs.declared.words.Standing.{Standing}
use Rattle.sp_typed.specs.declared.words.Standing.TheVariants as stands
use Rattle.sp_typed.specs.declared.words.LeafOp.{LeafOp}
use Rattle.sp_typed.specs.declared.words.LeafOp.TheVariants as leaf_is
use Rattle.sp_typed.specs.declared.words.ManyOp.{ManyOp}
use Rattle.sp_typed.specs.declared.words.ManyOp.TheVariants as many_is
use Rattle.sp_typed.specs.declared.words.NewOf.{NewOf}
use Rattle.sp_typed.specs.declared.words.NewOf.TheVariants as new_is
use Rattle.sp_typed.specs.declared.words.UnitMethod.{UnitMethod}
use Rattle.sp_typed.specs.declared.words.UnitMethod.TheVariants as unit_is
use Rattle.sp_typed.specs.declared.words.SinkMethod.{SinkMethod}
use Rattle.sp_typed.specs.declared.words.SinkMethod.TheVariants as sink_is
use Rattle.sp_typed.specs.Exprs.{Expr, Exprs, leaf, many, none, more, type_of, span_of}
use Rattle.sp_typed_units.specs.declared.declarations.Unit.{Unit}
use Rattle.sp_rule_units.specs.declared.here.Here.{Here}
use Rattle.sp_rules.specs.Faults.{at}

-- whether the unit of a number has `%filter`
abbrev pub is_filter : List Unit → ℕ → Bool
is_filter [] n = false
is_filter (u ∷ us) zero = u.filter
is_filter (u ∷ us) (suc n) = is_filter us n

-- whether it calls `connect_filter`
abbrev pub connects_filter : List Unit → ℕ → Bool
connects_filter [] n = false
connects_filter (u ∷ us) zero = u.connects_filter
connects_filter (u ∷ us) (suc n) = connects_filter us n

-- what stands in the body of a sink hook, which can't see it
abbrev pub is_hidden : Standing → Bool
is_hidden stands.Hidden = true
is_hidden _ = false

abbrev pub leaf_tests : ℕ → Span → LeafOp → List (Bool × Fault)
leaf_tests m span (leaf_is.Itself s) = (is_hidden s, at m rule_is.HookSeesState span) ∷ []
leaf_tests m span (leaf_is.Parameter n s) = (is_hidden s, at m rule_is.HookSeesState span) ∷ []
leaf_tests m span _ = []

-- the arguments of a `new` are plain
abbrev pub plain_tests : ℕ → Exprs → List (Bool × Fault)
plain_tests m none = []
plain_tests m (more e es) = (not (is_plain (type_of e)), at m rule_is.HookSeesState (span_of e)) ∷ plain_tests m es

abbrev pub itself_leaf : LeafOp → Bool
itself_leaf (leaf_is.Itself s) = true
itself_leaf _ = false

abbrev pub is_itself : Expr → Bool
is_itself (leaf h) = itself_leaf h.op
is_itself _ = false

-- whether what is started is a filter: a unit with `%filter`, or the decoder of the library
abbrev pub starts_filter : List Unit → NewOf → Bool
starts_filter us (new_is.Unit n) = is_filter us n
starts_filter us new_is.Decoder = true

-- a `new` of a filter, and a `new` of what is none
abbrev pub filter_op : List Unit → ManyOp → Bool
filter_op us (many_is.New of path) = starts_filter us of
filter_op us _ = false

abbrev pub other_op : List Unit → ManyOp → Bool
other_op us (many_is.New of path) = not (starts_filter us of)
other_op us _ = false

abbrev pub is_new_filter : List Unit → Expr → Bool
is_new_filter us (many h es) = filter_op us h.op
is_new_filter us _ = false

abbrev pub is_new_other : List Unit → Expr → Bool
is_new_other us (many h es) = other_op us h.op
is_new_other us _ = false

-- what `connect_filter` starts is a filter, and what `connect` starts is none
abbrev pub connected_filter_tests : List Unit → ℕ → Exprs → List (Bool × Fault)
connected_filter_tests us m none = []
connected_filter_tests us m (more e es) = (is_new_other us e, at m rule_is.FilterPlace (span_of e)) ∷ []

abbrev pub connected_tests : List Unit → ℕ → Exprs → List (Bool × Fault)
connected_tests us m none = []
connected_tests us m (more e es) = (is_new_filter us e, at m rule_is.FilterPlace (span_of e)) ∷ []

-- `connect_filter` is called on `self` in `%init` of a unit without `%filter`; `forward` and `forward_eod` on `self` in a unit
-- that has it.
abbrev pub may_connect : Here → Expr → Bool
may_connect d e = is_itself e && (d.init && not d.filter)

abbrev pub may_forward : Here → Expr → Bool
may_forward d e = is_itself e && d.filter

abbrev pub unit_call_tests : List Unit → Here → Span → UnitMethod → Exprs → List (Bool × Fault)
unit_call_tests us d span method none = []
unit_call_tests us d span unit_is.ConnectFilter (more e es) =
    (not (may_connect d e), at d.owner rule_is.FilterPlace span) ∷ connected_filter_tests us d.owner es
unit_call_tests us d span unit_is.Forward (more e es) = (not (may_forward d e), at d.owner rule_is.FilterPlace span) ∷ []
unit_call_tests us d span unit_is.ForwardEod (more e es) = (not (may_forward d e), at d.owner rule_is.FilterPlace span) ∷ []
unit_call_tests us d span _ (more e es) = []

abbrev pub sink_call_tests : List Unit → Here → SinkMethod → Exprs → List (Bool × Fault)
sink_call_tests us d sink_is.Connect (more e es) = connected_tests us d.owner es
sink_call_tests us d _ es = []

abbrev pub many_tests : List Unit → Here → Span → ManyOp → Exprs → List (Bool × Fault)
many_tests us d span (many_is.New of path) es = plain_tests d.owner es
many_tests us d span (many_is.OfUnit method name) es = unit_call_tests us d span method es
many_tests us d span (many_is.OfSink method) es = sink_call_tests us d method es
many_tests us d span _ es = []

-- the tests at a node
abbrev pub node_tests : List Unit → Here → Expr → List (Bool × Fault)
node_tests us d (leaf h) = leaf_tests d.owner h.span h.op
node_tests us d (many h es) = many_tests us d h.span h.op es
node_tests us d _ = []
