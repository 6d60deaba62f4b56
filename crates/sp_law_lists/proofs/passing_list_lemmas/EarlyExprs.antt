-- What is typed of a tree in which all is built has no late node, whatever rules are broken in it.
use Rattle.std.specs.Prelude.{ℕ, suc, Bool, true, false, not, ◌&&◌, ◌||◌, if◌then◌else◌, cond, List, [], ◌∷◌, ◌++◌, map, length, Option, Some, None}
use Rattle.std.proofs.Common.{◌≡◌, refl, sym, subst, ◌∙◌}
use Rattle.std.proofs.lemmas.Bool.{and_parts, and_from}
use Rattle.sp_base.specs.declared.places.Span.{Span}
use Rattle.sp_words.specs.declared.operators.BinaryOp.{BinaryOp}
use Rattle.sp_words.specs.declared.operators.UnaryOp.{UnaryOp}
use Rattle.sp_words.specs.declared.operators.UnaryOp.TheVariants as unary_is
use Rattle.sp_ast.specs.Trees.{Tree, Trees, absent, row, node, none, more}
use Rattle.sp_ast.specs.Trees as read
use Rattle.sp_ast.specs.declared.forms.Form.{Form}
use Rattle.sp_ast.specs.declared.forms.Form.TheVariants as form_is
use Rattle.sp_ast.specs.declared.forms.ExprForm.TheVariants as expr_is
use Rattle.sp_types.specs.declared.words.Word.{Word}
use Rattle.sp_types.specs.declared.words.Word.TheVariants as word_is
use Rattle.sp_types.specs.declared.words.Maker.TheVariants as maker_is
use Rattle.sp_types.specs.Types.{Ty, Tys, word, made, same, widens}
use Rattle.sp_typed.specs.declared.words.OneOp.{OneOp}
use Rattle.sp_typed.specs.declared.words.OneOp.TheVariants as one_is
use Rattle.sp_typed.specs.declared.words.LeafOp.{LeafOp}
use Rattle.sp_typed.specs.declared.words.LeafOp.TheVariants as leaf_is
use Rattle.sp_typed.specs.declared.words.ManyOp.{ManyOp}
use Rattle.sp_typed.specs.declared.words.ManyOp.TheVariants as many_is
use Rattle.sp_typed.specs.declared.words.NewOf.{NewOf}
use Rattle.sp_typed.specs.Exprs.{Expr, leaf, one, two, three, many, exprs, type_of, span_of, is_literal, retyped, settled}
use Rattle.sp_typed.specs.Nodes.{holds, all_hold}
use Rattle.sp_type_operands.specs.Operands.{key_of, first_type, sort_of}
use Rattle.sp_type_operands.specs.Literals.{can_take, taken, is_negative, seen, is_past, literal_word}
use Rattle.sp_type_context.specs.declared.context.Member.{Member}
use Rattle.sp_type_context.specs.declared.context.Callable.{Callable}
use Rattle.sp_type_context.specs.Contexts.{Around}
use Rattle.sp_type_context.specs.Typing.{typed, typed_all, pairs_typed, name_of, one_at, widened, to_target, to_maybe, each_to, alike, agreeing, leading, leading_half, in_turn, unary_at, joined, is_membership, binary_at, choice_at, member_at, set_op, set_member_at, part_at, item_of, item_at, index_at, no_call, callee_op, call_by, call_at, method_of, started, new_by}
use Rattle.sp_rule_bodies.specs.Values.{is_new}
use Rattle.sp_unbuilt.specs.Constructs.{is_late_unit_method, is_sink_method, is_late_method, text_of, tests_at}
use Rattle.sp_unbuilt.specs.Unbuilt.{tests_in, tests_among}
use Rattle.sp_law_lists.proofs.known_types_lemmas.Full.{never}
use Rattle.sp_law_lists.proofs.known_members_lemmas.Built.{nothing, two_parts}
use Rattle.sp_law_lists.specs.known_kinds.Made.{is_offset}
use Rattle.sp_law_lists.proofs.passing_list_lemmas.Early.{early_one, early_many, is_early, is_leaf, is_early_member, is_called_so, AreEarly}

-- a tree, or some, in which nothing isn't built
module _ (text : List ℕ) (m : ℕ) where
  abbrev pub Fine : Tree → Type 0
  Fine t = nothing (tests_in text m t) ≡ true

  abbrev pub AllFine : Trees → Type 0
  AllFine ts = nothing (tests_among text m ts) ≡ true

  pub inside : (form : Form) (span : Span) (ts : Trees) → Fine (node form span ts) → AllFine ts
  inside form span ts h = (two_parts (tests_at text m (node form span ts)) (tests_among text m ts) h).1

  pub first : (t : Tree) (ts : Trees) → AllFine (more t ts) → Fine t
  first t ts h = (two_parts (tests_in text m t) (tests_among text m ts) h).0

  pub rest : (t : Tree) (ts : Trees) → AllFine (more t ts) → AllFine ts
  rest t ts h = (two_parts (tests_in text m t) (tests_among text m ts) h).1

  pub second : (a b : Tree) (ts : Trees) → AllFine (more a (more b ts)) → Fine b
  second a b ts h = first b ts (rest a (more b ts) h)

  pub third : (a b c : Tree) (ts : Trees) → AllFine (more a (more b (more c ts))) → Fine c
  third a b c ts h = second b c ts (rest a (more b (more c ts)) h)

abbrev pub Early : Expr → Type 0
Early e = holds is_early e ≡ true

abbrev pub AllEarly : List Expr → Type 0
AllEarly es = all_hold is_early (exprs es) ≡ true

leaf_early : (e : Expr) → is_leaf e ≡ true → Early e
leaf_early (leaf h) is = refl
leaf_early (one h a) is = never is
leaf_early (two h a b) is = never is
leaf_early (three h c a b) is = never is
leaf_early (many h es) is = never is

-- literals take types
literal_early : (w : Word) (e : Expr) → is_literal e ≡ true → Early e → Early (retyped (word w) e)
literal_early w (leaf h) l i = refl
literal_early w (one h a) l i = i
literal_early w (two h a b) l i = i
literal_early w (three h a b c) l i = i
literal_early w (many h es) l i = never l

settled_early : (w : Word) (e : Expr) → Early e → Early (settled w e)
settled_early w e i = by (is_literal e) refl
  where
    by : (b : Bool) → is_literal e ≡ b → Early (cond b (retyped (word w) e) e)
    by true l = literal_early w e l i
    by false l = i

either_early : (b : Bool) (x y : Expr) → Early x → Early y → Early (if b then x else y)
either_early true x y i j = i
either_early false x y i j = j

pub taken_early : (t : Ty) (e : Expr) → Early e → Early (taken t e)
taken_early (word w) e i = either_early (is_literal e && can_take w) (settled w e) e (settled_early w e i) i
taken_early (made maker ts) e i = i

-- what is widened is no `new`
unknown_widens : (t : Ty) → widens (word word_is.Unknown) t ≡ true → false ≡ true
unknown_widens (word (word_is.Uint w)) e = e
unknown_widens (word (word_is.Int w)) e = e
unknown_widens (word _) e = e
unknown_widens (made maker ts) e = e

new_widens : (t : Ty) → widens (word word_is.New) t ≡ true → false ≡ true
new_widens (word (word_is.Uint w)) e = e
new_widens (word (word_is.Int w)) e = e
new_widens (word _) e = e
new_widens (made maker ts) e = e

no_new : (u t : Ty) → widens u t ≡ true → not (is_new u) ≡ true
no_new (word word_is.New) t e = new_widens t e
no_new (word _) t e = refl
no_new (made maker ts) t e = refl

within : (t u : Ty) (b : Bool) → widens (if b then word word_is.Unknown else u) t ≡ true → not (is_new u) ≡ true
within t u true e = never (unknown_widens t e)
within t u false e = no_new u t e

widened_early : (t : Ty) (e : Expr) → Early e → Early (widened t e)
widened_early t e i = by (widens (seen e) t && not (same (seen e) t)) refl
  where
    by : (b : Bool) → (widens (seen e) t && not (same (seen e) t)) ≡ b → Early (if b then one_at (span_of e) t one_is.Widen e else e)
    by true l = and_from (not (is_new (type_of e))) (holds is_early e) (within t (type_of e) (is_past e) (and_parts (widens (seen e) t) (not (same (seen e) t)) l).0) i
    by false l = i

pub target_early : (t : Ty) (e : Expr) → Early e → Early (to_target t e)
target_early t e i = widened_early t (taken t e) (taken_early t e i)

pub maybe_early : (t : Option Ty) (e : Expr) → Early e → Early (to_maybe t e)
maybe_early None e i = i
maybe_early (Some t) e i = target_early t e i

abbrev Both : Expr × Expr → Type 0
Both q = Early q.0 × Early q.1

agreeing_early : (a b : Expr) → Early a → Early b → Both (agreeing a b)
agreeing_early a b i j =
    let w = literal_word (is_negative a || is_negative b) in
    by (is_literal a && is_literal b) (settled_early w a i, settled_early w b j) (taken_early (seen b) a i, taken_early (seen a) b j)
  where
    by : (c : Bool) → Both (alike a b) → Both (taken (seen b) a, taken (seen a) b) → Both (if c then alike a b else (taken (seen b) a, taken (seen a) b))
    by true x y = x
    by false x y = y

-- rows
pub more_early : (e : Expr) (es : List Expr) → Early e → AllEarly es → AllEarly (e ∷ es)
more_early e es i j = and_from (holds is_early e) (all_hold is_early (exprs es)) i j

first_early : (e : Expr) (es : List Expr) → AllEarly (e ∷ es) → Early e
first_early e es i = (and_parts (holds is_early e) (all_hold is_early (exprs es)) i).0

rest_early : (e : Expr) (es : List Expr) → AllEarly (e ∷ es) → AllEarly es
rest_early e es i = (and_parts (holds is_early e) (all_hold is_early (exprs es)) i).1

each_early : (target : ℕ → Option Ty) (n : ℕ) (es : List Expr) → AllEarly es → AllEarly (each_to target n es)
each_early target n [] i = refl
each_early target n (e ∷ es) i = more_early (to_maybe (target n) e) (each_to target (suc n) es) (maybe_early (target n) e (first_early e es i)) (each_early target (suc n) es (rest_early e es i))

pub all_taken_early : (t : Ty) (es : List Expr) → AllEarly es → AllEarly (map (taken t) es)
all_taken_early t [] i = refl
all_taken_early t (e ∷ es) i = more_early (taken t e) (map (taken t) es) (taken_early t e (first_early e es i)) (all_taken_early t es (rest_early e es i))

both_early : (es fs : List Expr) → AllEarly es → AllEarly fs → AllEarly (es ++ fs)
both_early [] fs i j = j
both_early (e ∷ es) fs i j = more_early e (es ++ fs) (first_early e es i) (both_early es fs (rest_early e es i) j)

abbrev PairsEarly : List (Expr × Expr) → Type 0
PairsEarly [] = Unit {0}
PairsEarly (q ∷ ps) = Both q × PairsEarly ps

turn_early : (s t : Ty) (ps : List (Expr × Expr)) → PairsEarly ps → AllEarly (in_turn s t ps)
turn_early s t [] i = refl
turn_early s t (q ∷ ps) i =
    more_early (taken s q.0) (taken t q.1 ∷ in_turn s t ps) (taken_early s q.0 i.0.0) (more_early (taken t q.1) (in_turn s t ps) (taken_early t q.1 i.0.1) (turn_early s t ps i.1))

-- nodes of two parts and of three
two_early : (a b : Expr) → Early a → Early b → (holds is_early a && holds is_early b) ≡ true
two_early a b i j = and_from (holds is_early a) (holds is_early b) i j

binary_early : (span : Span) (op : BinaryOp) (a b : Expr) → Early a → Early b → Early (binary_at span op a b)
binary_early span op a b i j = by (is_membership (sort_of op))
  where
    by : (c : Bool) → Early (if c then joined span op (to_target (key_of (seen b)) a) b else joined span op (agreeing a b).0 (agreeing a b).1)
    by true = two_early (to_target (key_of (seen b)) a) b (target_early (key_of (seen b)) a i) j
    by false = (let q = agreeing_early a b i j in two_early (agreeing a b).0 (agreeing a b).1 q.0 q.1)

choice_early : (span : Span) (c a b : Expr) → Early c → Early a → Early b → Early (choice_at span c a b)
choice_early span c a b h i j =
    let q = agreeing_early a b i j in
    let x = (agreeing a b).0 in
    let y = (agreeing a b).1 in
    and_from (holds is_early c) (holds is_early x && holds is_early y) h (two_early x y q.0 q.1)

unary_early : (span : Span) (op : UnaryOp) (e : Expr) → Early e → Early (unary_at span op e)
unary_early span unary_is.Not e i = i
unary_early span unary_is.Negate e i = i
unary_early span unary_is.Complement e i = i

-- elements and members
item_early : (span : Span) (o : Option Ty) (n : ℕ) (a i : Expr) → Early a → Early i → Early (item_of span o n a i)
item_early span None n a i q r = two_early a i q r
item_early span (Some t) n a i q r = two_early a i q r

items_early : (span : Span) (ts : Tys) (o : Option ℕ) (a i : Expr) → Early a → Early i → Early (item_at span ts o a i)
items_early span ts None a i q r = two_early a i q r
items_early span ts (Some n) a i q r = item_early span (part_at ts n) n a i q r

member_op_early : (op : OneOp) (e : Expr) → is_early_member op ≡ true → Early e → (early_one op e && holds is_early e) ≡ true
member_op_early (one_is.Field n) e is i = i
member_op_early (one_is.Variable n) e is i = i
member_op_early (one_is.Bit n) e is i = i
member_op_early _ e is i = never is

set_op_early : (op : OneOp) (name : Span) (e : Expr) → Early e → (early_one (set_op op name) e && holds is_early e) ≡ true
set_op_early (one_is.Field n) name e i = i
set_op_early _ name e i = i

-- the text of a name, twice
pub same_text : (t : Tree) → text_of t ≡ name_of t
same_text (node (form_is.Name x) span ts) = refl
same_text (node _ span ts) = refl
same_text absent = refl
same_text (row ts) = refl

not_true : (b : Bool) → not b ≡ true → b ≡ false
not_true true h = never h
not_true false h = refl

-- a method that is called isn't late where its name isn't
other_one : (a b : Bool) → (a || b) ≡ true → b ≡ false → a ≡ true
other_one true b h none_else = refl
other_one false b h none_else = never (sym none_else ∙ h)

called_early : (op : ManyOp) (t : Ty) (x : List ℕ) → is_called_so x op ≡ true → is_late_method x ≡ false → early_many op t ≡ true
called_early (many_is.Method m slot) t x called late = refl
called_early (many_is.OfUnit m name) t x called late = other_one (is_offset m) (is_late_unit_method x) called (first_of (is_late_unit_method x) (is_sink_method x) late)
  where
    first_of : (a b : Bool) → (a || b) ≡ false → a ≡ false
    first_of true b h = never (sym h)
    first_of false b h = refl
called_early (many_is.OfSink m) t x called late = never (sym (second_of (is_late_unit_method x) (is_sink_method x) late) ∙ called)
  where
    second_of : (a b : Bool) → (a || b) ≡ false → b ≡ false
    second_of true b h = never (sym h)
    second_of false b h = h
called_early _ t x called late = never called

module _ (g : Around) (early : AreEarly g) where
  found_early : (span name : Span) (t : Ty) (x : List ℕ) (o : Option Member) (e : Expr) → ((found : Member) → o ≡ Some found → g.member t x ≡ Some found) → Early e → Early (member_at span name o e)
  found_early span name t x None e known i = i
  found_early span name t x (Some m) e known i = member_op_early m.op e (early.member t x m (known m refl)) i

  set_early : (span name : Span) (o : Option Member) (e : Expr) → Early e → Early (set_member_at span name o e)
  set_early span name None e i = i
  set_early span name (Some m) e i = set_op_early m.op name e i

  index_early : (span : Span) (t : Ty) (a i : Expr) → Early a → Early i → Early (index_at g span t a i)
  index_early span (made maker_is.Vector ts) a i q r = two_early a i q r
  index_early span (made maker_is.Map ts) a i q r = two_early a (to_target (first_type ts) i) q (target_early (first_type ts) i r)
  index_early span (made maker_is.Set ts) a i q r = two_early a (to_target (first_type ts) i) q (target_early (first_type ts) i r)
  index_early span (made maker_is.Tuple ts) a i q r = items_early span ts (g.item i) a i q r
  index_early span (word w) a i q r = two_early a i q r

  -- calls of functions and enums, and what can't be called
  no_call_early : (span : Span) (callee : Expr) (es : List Expr) → Early callee → AllEarly es → Early (no_call span callee es)
  no_call_early span callee es i j = more_early callee es i j

  type_call_early : (span : Span) (w : Word) (callee : Expr) (es : List Expr) → Early callee → AllEarly es → Early (call_by g span (callee_op (leaf_is.TypeName w)) callee es)
  type_call_early span (word_is.Enum n) callee es i j = each_early (g.target (many_is.Convert n) (word word_is.Unknown)) 0 es j
  type_call_early span _ callee es i j = no_call_early span callee es i j

  leaf_call_early : (span : Span) (op : LeafOp) (callee : Expr) (es : List Expr) → Early callee → AllEarly es → Early (call_by g span (callee_op op) callee es)
  leaf_call_early span (leaf_is.Function n) callee es i j = each_early (g.target (many_is.Call n) (word word_is.Unknown)) 0 es j
  leaf_call_early span (leaf_is.TypeName w) callee es i j = type_call_early span w callee es i j
  leaf_call_early span _ callee es i j = no_call_early span callee es i j

  call_early : (span : Span) (callee : Expr) (es : List Expr) → Early callee → AllEarly es → Early (call_at g span callee es)
  call_early span (leaf h) es i j = leaf_call_early span h.op (leaf h) es i j
  call_early span (one h a) es i j = no_call_early span (one h a) es i j
  call_early span (two h a b) es i j = no_call_early span (two h a b) es i j
  call_early span (three h c a b) es i j = no_call_early span (three h c a b) es i j
  call_early span (many h fs) es i j = no_call_early span (many h fs) es i j

  new_early : (span path : Span) (o : Option NewOf) (callee : Expr) (es : List Expr) → Early callee → AllEarly es → Early (new_by g span path o callee es)
  new_early span path None callee es i j = no_call_early span callee es i j
  new_early span path (Some u) callee es i j = each_early (g.target (many_is.New u path) (word word_is.Unknown)) 0 es j

  method_early : (span member at : Span) (x : List ℕ) (o : Option Callable) (object : Expr) (es : List Expr) → ((found : Callable) → o ≡ Some found → is_called_so x found.op ≡ true) → is_late_method x ≡ false
      → Early object → AllEarly es → Early (method_of g span member at o object es)
  method_early span member at x None object es called late i j = no_call_early span (one_at member (word word_is.Unknown) (one_is.NoMember at) object) es i j
  method_early span member at x (Some m) object es called late i j =
      let taken_as = each_to (g.target m.op (seen object)) 0 es in
      let left = g.left_out m.op span (length es) in
      and_from (early_many m.op m.ty) (all_hold is_early (exprs (object ∷ (taken_as ++ left)))) (called_early m.op m.ty x (called m refl) late)
      (more_early object (taken_as ++ left) i (both_early taken_as left (each_early (g.target m.op (seen object)) 0 es j) (early.left_out m.op span (length es))))

  module _ (text : List ℕ) (m : ℕ) where
    -- the tests of a call
    method_named : (span member : Span) (e name : Tree) (ts : Trees) → Fine text m (node (form_is.Expr expr_is.Call) span (more (node (form_is.Expr expr_is.Member) member (more e (more name none))) ts))
        → is_late_method (name_of name) ≡ false
    method_named span member e name ts h =
        let us = more (node (form_is.Expr expr_is.Member) member (more e (more name none))) ts in
        let own = (two_parts (tests_at text m (node (form_is.Expr expr_is.Call) span us)) (tests_among text m us) h).0 in
        subst (λ x. is_late_method x ≡ false) (same_text name) (not_true (is_late_method (text_of name)) (and_parts (not (is_late_method (text_of name))) true own).0)

    mutual
      -- What is typed.
      pub typed_early : (t : Tree) → Fine text m t → Early (typed g t)
      typed_early (node (form_is.Expr expr_is.Path) span (more path none)) h = leaf_early (g.path span path) (early.path span path)
      typed_early (node (form_is.Expr expr_is.Itself) span none) h = leaf_early (g.itself span) (early.itself span)
      typed_early (node (form_is.Expr expr_is.Current) span none) h = leaf_early (g.current span) (early.current span)
      typed_early (node (form_is.Expr expr_is.True) span none) h = refl
      typed_early (node (form_is.Expr expr_is.False) span none) h = refl
      typed_early (node (form_is.Expr (expr_is.Number n)) span none) h = refl
      typed_early (node (form_is.Expr (expr_is.String x)) span none) h = refl
      typed_early (node (form_is.Expr (expr_is.Bytes x)) span none) h = refl
      typed_early (node (form_is.Expr (expr_is.Regex x)) span none) h = refl
      typed_early (node (form_is.Expr expr_is.Tuple) span ts) h = all_early ts (inside text m (form_is.Expr expr_is.Tuple) span ts h)
      typed_early (node (form_is.Expr expr_is.Vector) span ts) h = all_taken_early (leading (typed_all g ts)) (typed_all g ts) (all_early ts (inside text m (form_is.Expr expr_is.Vector) span ts h))
      typed_early (node (form_is.Expr expr_is.Set) span ts) h = all_taken_early (leading (typed_all g ts)) (typed_all g ts) (all_early ts (inside text m (form_is.Expr expr_is.Set) span ts h))
      typed_early (node (form_is.Expr expr_is.Map) span ts) h =
          let ps = pairs_typed g ts in
          turn_early (leading_half false ps) (leading_half true ps) ps (pairs_early ts (inside text m (form_is.Expr expr_is.Map) span ts h))
      typed_early (node (form_is.Expr expr_is.EmptyVector) span (more t none)) h = refl
      typed_early (node (form_is.Expr expr_is.EmptySet) span (more t none)) h = refl
      typed_early (node (form_is.Expr expr_is.EmptyMap) span (more s (more t none))) h = refl
      typed_early (node (form_is.Expr (expr_is.TypedNumber w)) span (more n none)) h = refl
      typed_early (node (form_is.Expr expr_is.Cast) span (more t (more e none))) h = typed_early e (second text m t e none (inside text m (form_is.Expr expr_is.Cast) span (more t (more e none)) h))
      typed_early (node (form_is.Expr expr_is.New) span (more path (more (row ts) none))) h =
          let callee = g.named (read.span_of path) path in
          new_early span (read.span_of path) (started callee) callee (typed_all g ts) (leaf_early callee (early.named (read.span_of path) path)) (all_early ts (second text m path (row ts) none (inside text m (form_is.Expr expr_is.New) span (more path (more (row ts) none)) h)))
      typed_early (node (form_is.Expr expr_is.Size) span (more e none)) h = typed_early e (first text m e none (inside text m (form_is.Expr expr_is.Size) span (more e none) h))
      typed_early (node (form_is.Expr expr_is.Choice) span (more c (more a (more b none)))) h =
          let us = more c (more a (more b none)) in
          let i = inside text m (form_is.Expr expr_is.Choice) span us h in
          choice_early span (typed g c) (typed g a) (typed g b) (typed_early c (first text m c (more a (more b none)) i)) (typed_early a (second text m c a (more b none) i)) (typed_early b (third text m c a b none i))
      typed_early (node (form_is.Expr expr_is.Member) span (more e (more name none))) h =
          let x = name_of name in
          found_early span (read.span_of name) (seen (typed g e)) x (g.member (seen (typed g e)) x) (typed g e) (λ found is. is) (typed_early e (first text m e (more name none) (inside text m (form_is.Expr expr_is.Member) span (more e (more name none)) h)))
      typed_early (node (form_is.Expr expr_is.SetMember) span (more e (more name none))) h =
          set_early span (read.span_of name) (g.member (seen (typed g e)) (name_of name)) (typed g e) (typed_early e (first text m e (more name none) (inside text m (form_is.Expr expr_is.SetMember) span (more e (more name none)) h)))
      typed_early (node (form_is.Expr expr_is.Index) span (more e (more i none))) h =
          let q = inside text m (form_is.Expr expr_is.Index) span (more e (more i none)) h in
          index_early span (seen (typed g e)) (typed g e) (typed g i) (typed_early e (first text m e (more i none) q)) (typed_early i (second text m e i none q))
      typed_early (node (form_is.Expr expr_is.Call) span (more (node (form_is.Expr expr_is.Member) member (more e (more name none))) (more (row ts) none))) h =
          let at = read.span_of name in
          let us = more (node (form_is.Expr expr_is.Member) member (more e (more name none))) (more (row ts) none) in
          let q = inside text m (form_is.Expr expr_is.Call) span us h in
          let o = inside text m (form_is.Expr expr_is.Member) member (more e (more name none)) (first text m (node (form_is.Expr expr_is.Member) member (more e (more name none))) (more (row ts) none) q) in
          let so = method_named span member e name (more (row ts) none) h in
          method_early span member at (name_of name) (g.method (seen (typed g e)) (name_of name) at (map seen (typed_all g ts))) (typed g e) (typed_all g ts) (λ found is. early.method (seen (typed g e)) (name_of name) at (map seen (typed_all g ts)) found is) so
          (typed_early e (first text m e (more name none) o)) (all_early ts (second text m (node (form_is.Expr expr_is.Member) member (more e (more name none))) (row ts) none q))
      typed_early (node (form_is.Expr expr_is.Call) span (more callee (more (row ts) none))) h =
          let q = inside text m (form_is.Expr expr_is.Call) span (more callee (more (row ts) none)) h in
          call_early span (typed g callee) (typed_all g ts) (typed_early callee (first text m callee (more (row ts) none) q)) (all_early ts (second text m callee (row ts) none q))
      typed_early (node (form_is.Expr (expr_is.Unary op)) span (more e none)) h = unary_early span op (typed g e) (typed_early e (first text m e none (inside text m (form_is.Expr (expr_is.Unary op)) span (more e none) h)))
      typed_early (node (form_is.Expr (expr_is.Binary op)) span (more a (more b none))) h =
          let q = inside text m (form_is.Expr (expr_is.Binary op)) span (more a (more b none)) h in
          binary_early span op (typed g a) (typed g b) (typed_early a (first text m a (more b none) q)) (typed_early b (second text m a b none q))
      typed_early _ h = refl

      all_early : (ts : Trees) → AllFine text m ts → AllEarly (typed_all g ts)
      all_early none h = refl
      all_early (more t ts) h = more_early (typed g t) (typed_all g ts) (typed_early t (first text m t ts h)) (all_early ts (rest text m t ts h))

      pairs_early : (ts : Trees) → AllFine text m ts → PairsEarly (pairs_typed g ts)
      pairs_early none h = tt
      pairs_early (more (node form_is.Pair span (more s (more t none))) ts) h =
          let own = first text m (node form_is.Pair span (more s (more t none))) ts h in
          let q = inside text m form_is.Pair span (more s (more t none)) own in
          ((typed_early s (first text m s (more t none) q), typed_early t (second text m s t none q)), pairs_early ts (rest text m (node form_is.Pair span (more s (more t none))) ts h))
      pairs_early (more t ts) h = pairs_early ts (rest text m t ts h)
