-- The typed expression that a tree is, in what stands round it.
use Rattle.std.specs.Prelude.{ℕ, zero, suc, Bool, true, false, not, ◌&&◌, ◌||◌, if◌then◌else◌, List, [], ◌∷◌, ◌++◌, map, filter, length, Option, Some, None}
use Rattle.std.specs.List.{list_any}
use Rattle.sp_base.specs.declared.places.Span.{Span}
use Rattle.sp_words.specs.declared.operators.BinaryOp.{BinaryOp}
use Rattle.sp_words.specs.declared.operators.UnaryOp.{UnaryOp}
use Rattle.sp_words.specs.declared.operators.UnaryOp.TheVariants as unary_is
use Rattle.sp_words.specs.declared.words.IntWord.TheVariants as int
use Rattle.sp_numbers.specs.declared.width.Width.TheVariants as width
use Rattle.sp_ast.specs.Trees.{Tree, Trees, row, node, none, more}
use Rattle.sp_ast.specs.Trees as read
use Rattle.sp_ast.specs.declared.forms.Form.TheVariants as form_is
use Rattle.sp_ast.specs.declared.forms.ExprForm.TheVariants as expr_is
use Rattle.sp_types.specs.declared.words.Word.TheVariants as word_is
use Rattle.sp_types.specs.declared.words.Maker.{Maker}
use Rattle.sp_types.specs.declared.words.Maker.TheVariants as maker_is
use Rattle.sp_types.specs.Types.{Ty, Tys, word, made, tys, same, is_known, widens}
use Rattle.sp_types.specs.Types as types
use Rattle.sp_typed.specs.declared.words.LeafOp.{LeafOp}
use Rattle.sp_typed.specs.declared.words.LeafOp.TheVariants as leaf_is
use Rattle.sp_typed.specs.declared.words.OneOp.{OneOp}
use Rattle.sp_typed.specs.declared.words.OneOp.TheVariants as one_is
use Rattle.sp_typed.specs.declared.words.TwoOp.{TwoOp}
use Rattle.sp_typed.specs.declared.words.TwoOp.TheVariants as two_is
use Rattle.sp_typed.specs.declared.words.ManyOp.{ManyOp}
use Rattle.sp_typed.specs.declared.words.ManyOp.TheVariants as many_is
use Rattle.sp_typed.specs.declared.words.NewOf.{NewOf}
use Rattle.sp_typed.specs.declared.words.NewOf.TheVariants as new_is
use Rattle.sp_typed.specs.declared.words.Written.{Written}
use Rattle.sp_typed.specs.Exprs.{Expr, leaf, one, two, three, many, exprs, span_of, is_number, is_literal, settled}
use Rattle.sp_type_operands.specs.declared.operators.OperatorSort.{OperatorSort}
use Rattle.sp_type_operands.specs.declared.operators.OperatorSort.TheVariants as sort_is
use Rattle.sp_type_context.specs.declared.calls.Callee.{Callee}
use Rattle.sp_type_context.specs.declared.calls.Callee.TheVariants as callee_is
use Rattle.sp_type_context.specs.declared.context.Member.{Member}
use Rattle.sp_type_context.specs.declared.context.Callable.{Callable}
use Rattle.sp_type_context.specs.declared.places.Place.TheVariants as place_is
use Rattle.sp_type_context.specs.Contexts.{Around}
use Rattle.sp_type_operands.specs.Operands.{unknown, boolean, is_integer, sort_of, result_type, unary_type, key_of, first_type, second_type}
use Rattle.sp_type_operands.specs.Literals.{taken, seen, is_negative, literal_word, unsigned_literal, signed_literal}
use Rattle.sp_type_operands.specs.Wholes.{row_type, map_type, tuple_type}
use Rattle.sp_types.specs.Integers.{int_word}

-- nodes on a slice of the text, of a type
abbrev pub leaf_at : Span → Ty → LeafOp → Expr
leaf_at span t op = leaf (record { span = span; ty = t; op = op })

abbrev pub one_at : Span → Ty → OneOp → Expr → Expr
one_at span t op a = one (record { span = span; ty = t; op = op }) a

abbrev pub two_at : Span → Ty → TwoOp → Expr → Expr → Expr
two_at span t op a b = two (record { span = span; ty = t; op = op }) a b

abbrev pub three_at : Span → Ty → Expr → Expr → Expr → Expr
three_at span t a b c = three (record { span = span; ty = t }) a b c

abbrev pub many_at : Span → Ty → ManyOp → List Expr → Expr
many_at span t op es = many (record { span = span; ty = t; op = op }) (exprs es)

-- what stands for a tree that is no expression; no module has one
abbrev pub no_expr : Expr
no_expr = leaf_at (record { from = 0; to = 0 }) unknown leaf_is.Name

abbrev pub size_type : Ty
size_type = word unsigned_literal

-- the name that a tree is, and a number
abbrev pub name_of : Tree → List ℕ
name_of (node (form_is.Name text) span ts) = text
name_of _ = []

abbrev pub number_in : Tree → ℕ
number_in (node (form_is.Number n) span ts) = n
number_in _ = 0

-- What goes to a target: a literal takes its type, and a value of a narrower type stands in a node that widens it.
abbrev pub widened : Ty → Expr → Expr
widened t e = if widens (seen e) t && not (same (seen e) t) then one_at (span_of e) t one_is.Widen e else e

abbrev pub to_target : Ty → Expr → Expr
to_target t e = widened t (taken t e)

abbrev pub to_maybe : Option Ty → Expr → Expr
to_maybe None e = e
to_maybe (Some t) e = to_target t e

-- each to its own target, where the first of them has the number k
abbrev pub each_to : (ℕ → Option Ty) → ℕ → List Expr → List Expr
each_to target k [] = []
each_to target k (e ∷ es) = to_maybe (target k) e ∷ each_to target (suc k) es

-- Two that have to agree: of a literal and what is none, the literal takes the other's type; two literals take one.
abbrev pub alike : Expr → Expr → Expr × Expr
alike a b =
    (settled (literal_word (is_negative a || is_negative b)) a, settled (literal_word (is_negative a || is_negative b)) b)

abbrev pub agreeing : Expr → Expr → Expr × Expr
agreeing a b = if is_literal a && is_literal b then alike a b else (taken (seen b) a, taken (seen a) b)

-- The type that several take which have to agree: that of the first that is no literal. Where all are literals, it is that of two: a
-- signed one where one of them has a minus sign.
abbrev pub leading_of : List Expr → Bool → Ty
leading_of [] signed = word (literal_word signed)
leading_of (e ∷ es) signed = seen e

abbrev pub leading : List Expr → Ty
leading es = leading_of (filter (λ e. not (is_literal e)) es) (list_any is_negative es)

abbrev pub led : List Expr → List Expr
led es = map (taken (leading es)) es

-- a vector and a set of elements
abbrev pub row_at : Span → Maker → ManyOp → List Expr → Expr
row_at span maker op es = many_at span (row_type maker es) op es

-- a map of pairs: the keys agree, and so do the values; they stand in turn
abbrev pub half : Bool → Expr × Expr → Expr
half true p = p.1
half false p = p.0

abbrev pub leading_half : Bool → List (Expr × Expr) → Ty
leading_half values ps = leading (map (half values) ps)

abbrev pub in_turn : Ty → Ty → List (Expr × Expr) → List Expr
in_turn key value [] = []
in_turn key value (p ∷ ps) = taken key p.0 ∷ (taken value p.1 ∷ in_turn key value ps)

abbrev pub map_of : Span → List Expr → Expr
map_of span es = many_at span (map_type es) many_is.Map es

abbrev pub map_at : Span → List (Expr × Expr) → Expr
map_at span ps = map_of span (in_turn (leading_half false ps) (leading_half true ps) ps)

abbrev pub tuple_at : Span → List Expr → Expr
tuple_at span es = many_at span (tuple_type (map seen es)) many_is.Tuple es

abbrev pub made_of : Maker → List Ty → Ty
made_of maker ts = made maker (tys ts)

-- The type of `vector<T>()`, `set<T>()` and `map<K, V>()`. Where a type that is written in it is unknown, or can't stand there,
-- so is that of the whole.
abbrev pub empty_type : Maker → List Ty → Ty
empty_type maker ts = if is_known (made_of maker ts) then made_of maker ts else unknown

-- two written types, one behind the other
abbrev pub or_else : {A : Type 0} → Option A → Option A → Option A
or_else (Some a) o = Some a
or_else None o = o

abbrev pub both_written : Written → Written → Written
both_written a b =
    record { span = record { from = a.span.from; to = b.span.to }; unnamed = or_else a.unnamed b.unnamed; misplaced = or_else a.misplaced b.misplaced }

abbrev pub unary_op : UnaryOp → OneOp
unary_op unary_is.Not = one_is.Not
unary_op unary_is.Negate = one_is.Negate
unary_op unary_is.Complement = one_is.Complement

-- a minus sign before a number makes a literal
abbrev pub signed_type : UnaryOp → Expr → Ty
signed_type unary_is.Negate e = if is_number e then word signed_literal else unary_type unary_is.Negate (seen e)
signed_type op e = unary_type op (seen e)

abbrev pub unary_at : Span → UnaryOp → Expr → Expr
unary_at span op e = one_at span (signed_type op e) (unary_op op) e

abbrev pub joined : Span → BinaryOp → Expr → Expr → Expr
joined span op a b = two_at span (result_type (sort_of op) (seen a) (seen b)) (two_is.Binary op) a b

-- a key before `in` goes to the type of the keys
abbrev pub is_membership : OperatorSort → Bool
is_membership sort_is.Member = true
is_membership _ = false

abbrev pub binary_at : Span → BinaryOp → Expr → Expr → Expr
binary_at span op a b =
    if is_membership (sort_of op) then joined span op (to_target (key_of (seen b)) a) b else joined span op (agreeing a b).0 (agreeing a b).1

abbrev pub cast_type : Ty → Ty
cast_type t = if is_integer t then t else unknown

abbrev pub choice_type : Expr → Expr → Ty
choice_type a b = if same (seen a) (seen b) then seen a else unknown

abbrev pub chosen : Span → Expr → Expr → Expr → Expr
chosen span c a b = three_at span (choice_type a b) c a b

abbrev pub choice_at : Span → Expr → Expr → Expr → Expr
choice_at span c a b = chosen span c (agreeing a b).0 (agreeing a b).1

-- a member, and whether it is set
abbrev pub member_at : Span → Span → Option Member → Expr → Expr
member_at span name None e = one_at span unknown (one_is.NoMember name) e
member_at span name (Some m) e = one_at span m.ty m.op e

abbrev pub member_of : Around → Span → Tree → Expr → Expr
member_of g span name e = member_at span (read.span_of name) (g.member (seen e) (name_of name)) e

abbrev pub set_op : OneOp → Span → OneOp
set_op (one_is.Field k) name = one_is.IsSet k
set_op _ name = one_is.NoMember name

abbrev pub set_member_at : Span → Span → Option Member → Expr → Expr
set_member_at span name None e = one_at span boolean (one_is.NoMember name) e
set_member_at span name (Some m) e = one_at span boolean (set_op m.op name) e

abbrev pub set_member_of : Around → Span → Tree → Expr → Expr
set_member_of g span name e = set_member_at span (read.span_of name) (g.member (seen e) (name_of name)) e

abbrev pub part_at : Tys → ℕ → Option Ty
part_at types.none n = None
part_at (types.more t ts) zero = Some t
part_at (types.more t ts) (suc n) = part_at ts n

abbrev pub item_of : Span → Option Ty → ℕ → Expr → Expr → Expr
item_of span None n a i = two_at span unknown two_is.Index a i
item_of span (Some t) n a i = two_at span t (two_is.Item n) a i

abbrev pub item_at : Span → Tys → Option ℕ → Expr → Expr → Expr
item_at span ts None a i = two_at span unknown two_is.Index a i
item_at span ts (Some n) a i = item_of span (part_at ts n) n a i

abbrev pub index_at : Around → Span → Ty → Expr → Expr → Expr
index_at g span (made maker_is.Vector ts) a i = two_at span (first_type ts) two_is.Index a i
index_at g span (made maker_is.Map ts) a i = two_at span (second_type ts) two_is.Index a (to_target (first_type ts) i)
index_at g span (made maker_is.Set ts) a i = two_at span unknown two_is.Index a (to_target (first_type ts) i)
index_at g span (made maker_is.Tuple ts) a i = item_at span ts (g.item i) a i
index_at g span (word w) a i = two_at span unknown two_is.Index a i

abbrev pub indexed : Around → Span → Expr → Expr → Expr
indexed g span a i = index_at g span (seen a) a i

-- what can't be called, before its arguments
abbrev pub no_call : Span → Expr → List Expr → Expr
no_call span callee es = many_at span unknown many_is.NoCall (callee ∷ es)

-- a call of something that takes no receiver
abbrev pub call_of : Around → Span → ManyOp → Ty → List Expr → Expr
call_of g span op t es = many_at span t op (each_to (g.target op unknown) 0 es)

-- what stands before arguments: a function, an enum, or neither
abbrev pub callee_op : LeafOp → Callee
callee_op (leaf_is.Function n) = callee_is.Function n
callee_op (leaf_is.TypeName (word_is.Enum n)) = callee_is.Enum n
callee_op _ = callee_is.Other

abbrev pub callee_of : Expr → Callee
callee_of (leaf h) = callee_op h.op
callee_of _ = callee_is.Other

abbrev pub call_by : Around → Span → Callee → Expr → List Expr → Expr
call_by g span (callee_is.Function n) callee es = call_of g span (many_is.Call n) (g.result n) es
call_by g span (callee_is.Enum n) callee es = call_of g span (many_is.Convert n) (word (word_is.Enum n)) es
call_by g span callee_is.Other callee es = no_call span callee es

abbrev pub call_at : Around → Span → Expr → List Expr → Expr
call_at g span callee es = call_by g span (callee_of callee) callee es

-- a call of a method
abbrev pub method_found : Around → Span → Callable → Expr → List Expr → Expr
method_found g span m object es =
    many_at span m.ty m.op (object ∷ (each_to (g.target m.op (seen object)) 0 es ++ g.left_out m.op span (length es)))

abbrev pub method_of : Around → Span → Span → Span → Option Callable → Expr → List Expr → Expr
method_of g span member name None object es =
    no_call span (one_at member unknown (one_is.NoMember name) object) es
method_of g span member name (Some m) object es = method_found g span m object es

abbrev pub method_at : Around → Span → Span → Tree → Expr → List Expr → Expr
method_at g span member name object es =
    method_of g span member (read.span_of name) (g.method (seen object) (name_of name) (read.span_of name) (map seen es)) object es

-- what a `connect` starts: a unit, the decoder, or neither
abbrev pub started_op : LeafOp → Option NewOf
started_op (leaf_is.TypeName (word_is.Unit n)) = Some (new_is.Unit n)
started_op leaf_is.Decoder = Some new_is.Decoder
started_op _ = None

abbrev pub started : Expr → Option NewOf
started (leaf h) = started_op h.op
started _ = None

abbrev pub new_by : Around → Span → Span → Option NewOf → Expr → List Expr → Expr
new_by g span path (Some u) callee es = call_of g span (many_is.New u path) (word word_is.New) es
new_by g span path None callee es = no_call span callee es

abbrev pub new_at : Around → Span → Span → Expr → List Expr → Expr
new_at g span path callee es = new_by g span path (started callee) callee es

-- The typed expression of a tree, a line for each alternative: its parts are typed first, and then the node round them.
abbrev mutual
  pub typed : Around → Tree → Expr
  typed g (node (form_is.Expr expr_is.Path) span (more path none)) = g.path span path
  typed g (node (form_is.Expr expr_is.Itself) span none) = g.itself span
  typed g (node (form_is.Expr expr_is.Current) span none) = g.current span
  typed g (node (form_is.Expr expr_is.True) span none) = leaf_at span boolean leaf_is.True
  typed g (node (form_is.Expr expr_is.False) span none) = leaf_at span boolean leaf_is.False
  typed g (node (form_is.Expr (expr_is.Number n)) span none) = leaf_at span (word unsigned_literal) (leaf_is.Number n)
  typed g (node (form_is.Expr (expr_is.String text)) span none) = leaf_at span (word word_is.String) (leaf_is.Text text)
  typed g (node (form_is.Expr (expr_is.Bytes bytes)) span none) = leaf_at span (word word_is.Bytes) (leaf_is.Bytes bytes)
  typed g (node (form_is.Expr (expr_is.Regex text)) span none) = leaf_at span (word word_is.Regex) (leaf_is.Regex text)
  typed g (node (form_is.Expr expr_is.Tuple) span ts) = tuple_at span (typed_all g ts)
  typed g (node (form_is.Expr expr_is.Vector) span ts) = row_at span maker_is.Vector many_is.Vector (led (typed_all g ts))
  typed g (node (form_is.Expr expr_is.Set) span ts) = row_at span maker_is.Set many_is.Set (led (typed_all g ts))
  typed g (node (form_is.Expr expr_is.Map) span ts) = map_at span (pairs_typed g ts)
  typed g (node (form_is.Expr expr_is.EmptyVector) span (more t none)) =
      leaf_at span (empty_type maker_is.Vector (g.type_in place_is.Value t ∷ [])) (leaf_is.Empty (g.written place_is.Value t))
  typed g (node (form_is.Expr expr_is.EmptySet) span (more t none)) =
      leaf_at span (empty_type maker_is.Set (g.type_in place_is.Key t ∷ [])) (leaf_is.Empty (g.written place_is.Key t))
  typed g (node (form_is.Expr expr_is.EmptyMap) span (more k (more v none))) =
      leaf_at span (empty_type maker_is.Map (g.type_in place_is.Key k ∷ g.type_in place_is.Value v ∷ [])) (leaf_is.Empty (both_written (g.written place_is.Key k) (g.written place_is.Value v)))
  typed g (node (form_is.Expr (expr_is.TypedNumber w)) span (more n none)) =
      leaf_at span (word (int_word w)) (leaf_is.TypedNumber (number_in n))
  typed g (node (form_is.Expr expr_is.Cast) span (more t (more e none))) =
      one_at span (cast_type (g.type_in place_is.Whole t)) (one_is.Cast (g.written place_is.Whole t)) (typed g e)
  typed g (node (form_is.Expr expr_is.New) span (more path (more (row ts) none))) =
      new_at g span (read.span_of path) (g.named (read.span_of path) path) (typed_all g ts)
  typed g (node (form_is.Expr expr_is.Size) span (more e none)) = one_at span size_type one_is.Size (typed g e)
  typed g (node (form_is.Expr expr_is.Choice) span (more c (more a (more b none)))) = choice_at span (typed g c) (typed g a) (typed g b)
  typed g (node (form_is.Expr expr_is.Member) span (more e (more name none))) =
      member_of g span name (typed g e)
  typed g (node (form_is.Expr expr_is.SetMember) span (more e (more name none))) =
      set_member_of g span name (typed g e)
  typed g (node (form_is.Expr expr_is.Index) span (more e (more i none))) = indexed g span (typed g e) (typed g i)
  typed g (node (form_is.Expr expr_is.Call) span (more (node (form_is.Expr expr_is.Member) member (more e (more name none))) (more (row ts) none))) =
      method_at g span member name (typed g e) (typed_all g ts)
  typed g (node (form_is.Expr expr_is.Call) span (more callee (more (row ts) none))) = call_at g span (typed g callee) (typed_all g ts)
  typed g (node (form_is.Expr (expr_is.Unary op)) span (more e none)) = unary_at span op (typed g e)
  typed g (node (form_is.Expr (expr_is.Binary op)) span (more a (more b none))) = binary_at span op (typed g a) (typed g b)
  typed g _ = no_expr

  pub typed_all : Around → Trees → List Expr
  typed_all g none = []
  typed_all g (more t ts) = typed g t ∷ typed_all g ts

  pub pairs_typed : Around → Trees → List (Expr × Expr)
  pairs_typed g none = []
  pairs_typed g (more (node form_is.Pair span (more k (more v none))) ts) = (typed g k, typed g v) ∷ pairs_typed g ts
  pairs_typed g (more t ts) = pairs_typed g ts

-- whether a tree is a member of something, behind a dot: before arguments it is a method
abbrev pub is_member : Tree → Bool
is_member (node (form_is.Expr expr_is.Member) span ts) = true
is_member _ = false
