-- What is typed outside of bodies keeps no owner in a slot.
use Rattle.std.specs.Prelude.{Bool, true, false, not, ◌&&◌, ◌==◌, if◌then◌else◌, map, slice_get}
use Rattle.std.proofs.Common.{ℕ, ◌≡◌, refl, List, [], ◌∷◌, Option, Some, None}
use Rattle.std.proofs.lemmas.Bool.{and_parts}
use Rattle.sp_base.specs.declared.places.Span.{Span}
use Rattle.sp_words.specs.declared.methods.Method.{Method}
use Rattle.sp_words.specs.declared.methods.Method.TheVariants as method_is
use Rattle.sp_ast.specs.Trees.{Tree}
use Rattle.sp_ast.specs.Trees as read
use Rattle.sp_types.specs.declared.words.Word.{Word}
use Rattle.sp_types.specs.declared.words.Word.TheVariants as word_is
use Rattle.sp_types.specs.declared.words.Maker.TheVariants as maker_is
use Rattle.sp_types.specs.Types.{Ty, Tys, word, made, same}
use Rattle.sp_typed.specs.declared.words.LeafOp.TheVariants as leaf_is
use Rattle.sp_typed.specs.declared.words.ManyOp.{ManyOp}
use Rattle.sp_typed.specs.declared.words.ManyOp.TheVariants as many_is
use Rattle.sp_typed.specs.declared.words.Standing.{Standing}
use Rattle.sp_typed.specs.Exprs.{Expr, leaf, one, two, three, many, exprs}
use Rattle.sp_typed.specs.Nodes.{holds, all_hold}
use Rattle.sp_typed_units.specs.declared.declarations.Parameter.{Parameter}
use Rattle.sp_type_operands.specs.Literals.{seen}
use Rattle.sp_names.specs.declared.sort.DeclSort.{DeclSort}
use Rattle.sp_names.specs.declared.sort.DeclSort.TheVariants as sort_is
use Rattle.sp_names.specs.declared.sort.Meaning.{Meaning}
use Rattle.sp_names.specs.declared.sort.Meaning.TheVariants as meaning_is
use Rattle.sp_names.specs.Declarations.{sort_at}
use Rattle.sp_names.specs.Names.{path_means}
use Rattle.sp_type_context.specs.Contexts.{Around as Names}
use Rattle.sp_type_context.specs.declared.context.Member.{Member}
use Rattle.sp_typed.specs.declared.words.LeafOp.{LeafOp}
use Rattle.sp_typed.specs.declared.words.NewOf.{NewOf}
use Rattle.sp_type_context.specs.Typing.{typed, name_of, member_at, set_member_at, part_at, item_of, item_at, index_at, callee_op, call_by, call_at, started, new_by}
use Rattle.sp_type_scopes.specs.Decorators.{with_self}
use Rattle.sp_type_context.specs.Names.{single_name}
use Rattle.sp_type_scopes.specs.Parameters.{numbered_maybe, parameter_at, parameter_leaf, or_outside, with_parameters}
use Rattle.sp_type_methods.specs.Methods.{base_ten, utf8, replace, left_out_of}
use Rattle.sp_type_modules.specs.Arounds.{Facts, declared_at, meaning_at, slice_of, left_out_by, around as module_names}
use Rattle.sp_law_lists.specs.made_nodes.Makes.{Makes}
use Rattle.sp_law_lists.proofs.made_nodes_lemmas.Nodes.{typed_holds}
use Rattle.sp_law_lists.specs.fit_expr.Around.{Around}
use Rattle.sp_law_lists.specs.fit_expr.Test.{is_sort}
use Rattle.sp_type_methods.specs.Methods.{method_gives}
use Rattle.sp_law_lists.proofs.known_types_lemmas.Full.{never}
use Rattle.sp_law_lists.specs.known_kinds.Made.{receiver_sort, has_slot, callable_made, AreMade, receiver_kept, keeps_owner}
use Rattle.sp_law_lists.proofs.known_kinds_lemmas.Owners.{none_kept}
use Rattle.sp_law_lists.proofs.known_statements_lemmas.Typing.{owner_retyped}

module _ (around : Around) where
  abbrev Owned : Expr → Type 0
  Owned e = holds (keeps_owner around) e ≡ true

  -- all that is named keeps no owner
  pub record AreOwned (g : Names) : Type 0 where
    pub path : (span : Span) (path : Tree) → Owned (g.path span path)
    pub named : (span : Span) (path : Tree) → Owned (g.named span path)
    pub itself : (span : Span) → Owned (g.itself span)
    pub current : (span : Span) → Owned (g.current span)
    pub left_out : (op : ManyOp) (span : Span) (n : ℕ) → all_hold (keeps_owner around) (exprs (g.left_out op span n)) ≡ true

  either_owned : (b : Bool) (xs ys : List Expr) → all_hold (keeps_owner around) (exprs xs) ≡ true → all_hold (keeps_owner around) (exprs ys) ≡ true → all_hold (keeps_owner around) (exprs (if b then xs else ys)) ≡ true
  either_owned true xs ys h i = h
  either_owned false xs ys h i = i

  left_out_owned : (m : Method) (span : Span) (n : ℕ) → all_hold (keeps_owner around) (exprs (left_out_of m span n)) ≡ true
  left_out_owned method_is.ToUint span n = either_owned (n == 0) (base_ten span ∷ []) [] refl refl
  left_out_owned method_is.ToInt span n = either_owned (n == 0) (base_ten span ∷ []) [] refl refl
  left_out_owned method_is.Decode span n =
      either_owned (n == 0) (utf8 span ∷ replace span ∷ []) (if n == 1 then replace span ∷ [] else []) refl (either_owned (n == 1) (replace span ∷ []) [] refl refl)
  left_out_owned _ span n = refl

  all_owned : (op : ManyOp) (span : Span) (n : ℕ) → all_hold (keeps_owner around) (exprs (left_out_by op span n)) ≡ true
  all_owned (many_is.Method m slot) span n = left_out_owned m span n
  all_owned _ span n = refl

  module _ (list : List Tree) (facts : Facts) (m : ℕ) where
    declared_owned : (span : Span) (g : ℕ) (s : DeclSort) → Owned (declared_at list facts.answers facts.constant span g s)
    declared_owned span g sort_is.Constant = refl
    declared_owned span g sort_is.Function = refl
    declared_owned span g _ = refl

    meaning_owned : (span : Span) (path : Tree) (meaning : Meaning) → Owned (meaning_at list facts.answers facts.constant span path meaning)
    meaning_owned span path (meaning_is.Declaration g) = declared_owned span g (sort_at list g)
    meaning_owned span path (meaning_is.LibraryEnum n) = refl
    meaning_owned span path (meaning_is.Label owner label) = refl
    meaning_owned span path meaning_is.Decoder = refl
    meaning_owned span path (meaning_is.Nothing n) = refl

    pub module_owned : AreOwned (module_names list facts m)
    module_owned = record {
      path = λ span path. meaning_owned (slice_of list span path (path_means list facts.answers m path)) path (path_means list facts.answers m path);
      named = λ span path. meaning_owned (slice_of list span path (path_means list facts.answers m path)) path (path_means list facts.answers m path);
      itself = λ span. refl;
      current = λ span. refl;
      left_out = all_owned;
    }

  at_owned : (span : Span) (first : ℕ) (hides : Bool) (n : ℕ) (o : Option Parameter) (e : Expr) → Owned e → Owned (or_outside (parameter_at span first hides n o) e)
  at_owned span first hides n None e h = h
  at_owned span first hides n (Some p) e h = refl

  leaf_owned : (span : Span) (first : ℕ) (hides : Bool) (ps : List Parameter) (o : Option ℕ) (e : Expr) → Owned e → Owned (or_outside (parameter_leaf span first hides ps o) e)
  leaf_owned span first hides ps None e h = h
  leaf_owned span first hides ps (Some n) e h = at_owned span first hides n (slice_get ps n) e h

  pub parameters_owned : (g : Names) (first : ℕ) (hides : Bool) (ps : List Parameter) → AreOwned g → AreOwned (with_parameters first hides ps g)
  parameters_owned g first hides ps known = record {
    path = λ span path. leaf_owned span first hides ps (numbered_maybe (single_name path) ps) (g.path span path) (known.path span path);
    named = known.named;
    itself = known.itself;
    current = known.current;
    left_out = known.left_out;
  }

  pub self_owned : (g : Names) (t : Ty) (s : Standing) → AreOwned g → AreOwned (with_self t s g)
  self_owned g t s known = record {
    path = known.path;
    named = known.named;
    itself = λ span. refl;
    current = known.current;
    left_out = known.left_out;
  }

  -- nodes
  abbrev Keeps : Expr → Type 0
  Keeps e = keeps_owner around e ≡ true

  member_keeps : (span name : Span) (o : Option Member) (e : Expr) → Keeps (member_at span name o e)
  member_keeps span name None e = refl
  member_keeps span name (Some x) e = refl

  set_member_keeps : (span name : Span) (o : Option Member) (e : Expr) → Keeps (set_member_at span name o e)
  set_member_keeps span name None e = refl
  set_member_keeps span name (Some x) e = refl

  item_keeps : (span : Span) (o : Option Ty) (n : ℕ) (a i : Expr) → Keeps (item_of span o n a i)
  item_keeps span None n a i = refl
  item_keeps span (Some t) n a i = refl

  items_keep : (span : Span) (us : Tys) (o : Option ℕ) (a i : Expr) → Keeps (item_at span us o a i)
  items_keep span us None a i = refl
  items_keep span us (Some n) a i = item_keeps span (part_at us n) n a i

  index_keeps : (g : Names) (span : Span) (t : Ty) (a i : Expr) → Keeps (index_at g span t a i)
  index_keeps g span (made maker_is.Vector ts) a i = refl
  index_keeps g span (made maker_is.Map ts) a i = refl
  index_keeps g span (made maker_is.Set ts) a i = refl
  index_keeps g span (made maker_is.Tuple ts) a i = items_keep span ts (g.item i) a i
  index_keeps g span (word w) a i = refl

  type_call_keeps : (g : Names) (span : Span) (w : Word) (callee : Expr) (es : List Expr) → Keeps (call_by g span (callee_op (leaf_is.TypeName w)) callee es)
  type_call_keeps g span (word_is.Enum n) callee es = refl
  type_call_keeps g span _ callee es = refl

  leaf_call_keeps : (g : Names) (span : Span) (op : LeafOp) (callee : Expr) (es : List Expr) → Keeps (call_by g span (callee_op op) callee es)
  leaf_call_keeps g span (leaf_is.Function n) callee es = refl
  leaf_call_keeps g span (leaf_is.TypeName w) callee es = type_call_keeps g span w callee es
  leaf_call_keeps g span _ callee es = refl

  call_keeps : (g : Names) (span : Span) (callee : Expr) (es : List Expr) → Keeps (call_at g span callee es)
  call_keeps g span (leaf h) es = leaf_call_keeps g span h.op (leaf h) es
  call_keeps g span (one h a) es = refl
  call_keeps g span (two h a b) es = refl
  call_keeps g span (three h a b c) es = refl
  call_keeps g span (many h fs) es = refl

  start_keeps : (g : Names) (span path : Span) (o : Option NewOf) (callee : Expr) (es : List Expr) → Keeps (new_by g span path o callee es)
  start_keeps g span path None callee es = refl
  start_keeps g span path (Some u) callee es = refl

  no_slot : (m : Method) (slot : Option ℕ) (object : Expr) (es : List Expr) → not (has_slot slot) ≡ true → receiver_kept around (many_is.Method m slot) (exprs (object ∷ es)) ≡ true
  no_slot m None object es h = none_kept around object
  no_slot m (Some k) object es h = never h

  method_keeps : (s : Ty) (op : ManyOp) (t : Ty) (object : Expr) (es : List Expr) → callable_made s op t ≡ true → receiver_kept around op (exprs (object ∷ es)) ≡ true
  method_keeps s (many_is.Method m slot) t object es c = no_slot m slot object es (and_parts (is_sort s (receiver_sort m) && same t (method_gives m s)) (not (has_slot slot)) c).1
  method_keeps s (many_is.OfUnit m name) t object es c = refl
  method_keeps s (many_is.OfSink m) t object es c = refl
  method_keeps s _ t object es c = never c

  owned_makes : (g : Names) → AreMade around g → AreOwned g → Makes g (keeps_owner around)
  owned_makes g known owned = record {
    path = owned.path;
    named = owned.named;
    itself = owned.itself;
    current = owned.current;
    left_out = owned.left_out;
    taken = owner_retyped around;
    truth = λ span. refl;
    falsehood = λ span. refl;
    number = λ span n. refl;
    text = λ span x. refl;
    bytes = λ span x. refl;
    regex = λ span x. refl;
    empty = λ span t w. refl;
    typed_number = λ span w n. refl;
    no_expression = λ span. refl;
    widened = λ t e w. refl;
    cast = λ span t w e. refl;
    size = λ span e. refl;
    unary = λ span op e. refl;
    binary = λ span op a b. refl;
    choice = λ span c a b. refl;
    tuple = λ span es. refl;
    vector = λ span es. refl;
    set = λ span es. refl;
    entries = λ span key value ps. refl;
    member = λ span name e. member_keeps span (read.span_of name) (g.member (seen e) (name_of name)) e;
    set_member = λ span name e. set_member_keeps span (read.span_of name) (g.member (seen e) (name_of name)) e;
    no_member = λ span name e. refl;
    index = λ span a i. index_keeps g span (seen a) a i;
    no_callee = λ span callee es. refl;
    call = λ span callee es. call_keeps g span callee es;
    method = λ span at name found object es is. method_keeps (seen object) found.op found.ty object _ (known.method (seen object) name at (map seen es) found is);
    start = λ span path callee es. start_keeps g span path (started callee) callee es;
  }

  -- What is typed keeps no owner in a slot.
  pub typed_owned : (g : Names) → AreMade around g → AreOwned g → (t : Tree) → Owned (typed g t)
  typed_owned g known owned t = typed_holds g (keeps_owner around) (owned_makes g known owned) t
