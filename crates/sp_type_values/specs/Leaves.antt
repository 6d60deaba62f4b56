-- What holds of all leaves of an expression, and that no node that typing puts round its parts adds a leaf of its own.
use Rattle.std.specs.Prelude.{ℕ, suc, Bool, true, false, not, ◌&&◌, ◌||◌, cond, List, [], ◌∷◌, ◌++◌, map, length, Option, Some, None}
use Rattle.sp_base.specs.declared.places.Span.{Span}
use Rattle.sp_words.specs.declared.operators.BinaryOp.{BinaryOp}
use Rattle.sp_ast.specs.Trees.{Tree}
use Rattle.sp_types.specs.declared.words.Word.{Word}
use Rattle.sp_types.specs.declared.words.Word.TheVariants as word_is
use Rattle.sp_types.specs.declared.words.Maker.TheVariants as maker_is
use Rattle.sp_types.specs.Types.{Ty, Tys, word, made, same, widens}
use Rattle.sp_typed.specs.declared.words.LeafOp.{LeafOp}
use Rattle.sp_typed.specs.declared.words.LeafOp.TheVariants as leaf_is
use Rattle.sp_typed.specs.declared.words.OneOp.TheVariants as one_is
use Rattle.sp_typed.specs.declared.words.ManyOp.{ManyOp}
use Rattle.sp_typed.specs.declared.words.ManyOp.TheVariants as many_is
use Rattle.sp_typed.specs.declared.words.NewOf.{NewOf}
use Rattle.sp_typed.specs.Exprs.{Expr, Exprs, leaf, one, two, three, many, none, more, exprs, span_of, is_literal, retyped, settled}
use Rattle.sp_type_context.specs.declared.context.Member.{Member}
use Rattle.sp_type_context.specs.declared.context.Callable.{Callable}
use Rattle.sp_type_context.specs.Contexts.{Around}
use Rattle.sp_type_operands.specs.Operands.{unknown, first_type, key_of, sort_of}
use Rattle.sp_type_operands.specs.Literals.{is_negative, can_take, taken, seen, literal_word}
use Rattle.sp_type_context.specs.Typing as typing

module _ (Is : LeafOp → Type 0) where
  abbrev mutual
    pub Holds : Expr → Type 0
    Holds (leaf h) = Is h.op
    Holds (one h a) = Holds a
    Holds (two h a b) = Holds a × Holds b
    Holds (three h c a b) = Holds c × Holds a × Holds b
    Holds (many h es) = HoldsAll es

    pub HoldsAll : Exprs → Type 0
    HoldsAll none = Unit {0}
    HoldsAll (more e es) = Holds e × HoldsAll es

  -- the same of a list, and of pairs
  abbrev pub HoldsOf : List Expr → Type 0
  HoldsOf es = HoldsAll (exprs es)

  abbrev pub HoldsIn : List (Expr × Expr) → Type 0
  HoldsIn [] = Unit {0}
  HoldsIn (p ∷ ps) = (Holds p.0 × Holds p.1) × HoldsIn ps

  -- literals, and what goes to a target
  by_bool : (b : Bool) (x y : Expr) → Holds x → Holds y → Holds (cond b x y)
  by_bool true x y h k = h
  by_bool false x y h k = k

  retyped_holds : (t : Ty) (e : Expr) → Holds e → Holds (retyped t e)
  retyped_holds t (leaf h) i = i
  retyped_holds t (one h a) i = i
  retyped_holds t (two h a b) i = i
  retyped_holds t (three h c a b) i = i
  retyped_holds t (many h es) i = i

  settled_holds : (w : Word) (e : Expr) → Holds e → Holds (settled w e)
  settled_holds w e h = by_bool (is_literal e) (retyped (word w) e) e (retyped_holds (word w) e h) h

  taken_holds : (t : Ty) (e : Expr) → Holds e → Holds (taken t e)
  taken_holds (word w) e h = by_bool (is_literal e && can_take w) (settled w e) e (settled_holds w e h) h
  taken_holds (made m ts) e h = h

  widened_holds : (t : Ty) (e : Expr) → Holds e → Holds (typing.widened t e)
  widened_holds t e h = by_bool (widens (seen e) t && not (same (seen e) t)) (typing.one_at (span_of e) t one_is.Widen e) e h h

  target_holds : (t : Ty) (e : Expr) → Holds e → Holds (typing.to_target t e)
  target_holds t e h = widened_holds t (taken t e) (taken_holds t e h)

  pub maybe_holds : (t : Option Ty) (e : Expr) → Holds e → Holds (typing.to_maybe t e)
  maybe_holds None e h = h
  maybe_holds (Some t) e h = target_holds t e h

  each_holds : (target : ℕ → Option Ty) (k : ℕ) (es : List Expr) → HoldsOf es → HoldsOf (typing.each_to target k es)
  each_holds target k [] h = tt
  each_holds target k (e ∷ es) h = (maybe_holds (target k) e h.0, each_holds target (suc k) es h.1)

  by_pair : (c : Bool) (p q : Expr × Expr) → Holds p.0 × Holds p.1 → Holds q.0 × Holds q.1 → Holds (cond c p q).0 × Holds (cond c p q).1
  by_pair true p q h k = h
  by_pair false p q h k = k

  agreeing_holds : (a b : Expr) → Holds a → Holds b → Holds (typing.agreeing a b).0 × Holds (typing.agreeing a b).1
  agreeing_holds a b h k =
      let w = literal_word (is_negative a || is_negative b) in
      by_pair (is_literal a && is_literal b) (typing.alike a b) (taken (seen b) a, taken (seen a) b)
      (settled_holds w a h, settled_holds w b k)
      (taken_holds (seen b) a h, taken_holds (seen a) b k)

  -- rows

  all_taken_holds : (t : Ty) (es : List Expr) → HoldsOf es → HoldsOf (map (taken t) es)
  all_taken_holds t [] h = tt
  all_taken_holds t (e ∷ es) h = (taken_holds t e h.0, all_taken_holds t es h.1)

  pub led_holds : (es : List Expr) → HoldsOf es → HoldsOf (typing.led es)
  led_holds es h = all_taken_holds (typing.leading es) es h

  in_turn_holds : (k v : Ty) (ps : List (Expr × Expr)) → HoldsIn ps → HoldsOf (typing.in_turn k v ps)
  in_turn_holds k v [] h = tt
  in_turn_holds k v (p ∷ ps) h = (taken_holds k p.0 h.0.0, (taken_holds v p.1 h.0.1, in_turn_holds k v ps h.1))

  pub map_holds : (span : Span) (ps : List (Expr × Expr)) → HoldsIn ps → Holds (typing.map_at span ps)
  map_holds span ps h = in_turn_holds (typing.leading_half false ps) (typing.leading_half true ps) ps h

  -- operators
  pub binary_holds : (span : Span) (op : BinaryOp) (a b : Expr) → Holds a → Holds b → Holds (typing.binary_at span op a b)
  binary_holds span op a b h k =
      by_bool (typing.is_membership (sort_of op)) (typing.joined span op (typing.to_target (key_of (seen b)) a) b) (typing.joined span op (typing.agreeing a b).0 (typing.agreeing a b).1)
      (target_holds (key_of (seen b)) a h, k)
      (agreeing_holds a b h k)

  pub choice_holds : (span : Span) (c a b : Expr) → Holds c → Holds a → Holds b → Holds (typing.choice_at span c a b)
  choice_holds span c a b i h k = (let p = agreeing_holds a b h k in (i, p.0, p.1))

  -- members and elements
  pub member_holds : (span name : Span) (m : Option Member) (e : Expr) → Holds e → Holds (typing.member_at span name m e)
  member_holds span name None e h = h
  member_holds span name (Some m) e h = h

  pub set_member_holds : (span name : Span) (m : Option Member) (e : Expr) → Holds e → Holds (typing.set_member_at span name m e)
  set_member_holds span name None e h = h
  set_member_holds span name (Some m) e h = h

  item_of_holds : (span : Span) (t : Option Ty) (n : ℕ) (a i : Expr) → Holds a → Holds i → Holds (typing.item_of span t n a i)
  item_of_holds span None n a i h k = (h, k)
  item_of_holds span (Some t) n a i h k = (h, k)

  item_holds : (span : Span) (ts : Tys) (n : Option ℕ) (a i : Expr) → Holds a → Holds i → Holds (typing.item_at span ts n a i)
  item_holds span ts None a i h k = (h, k)
  item_holds span ts (Some n) a i h k = item_of_holds span (typing.part_at ts n) n a i h k

  index_holds : (g : Around) (span : Span) (t : Ty) (a i : Expr) → Holds a → Holds i → Holds (typing.index_at g span t a i)
  index_holds g span (made maker_is.Vector ts) a i h k = (h, k)
  index_holds g span (made maker_is.Map ts) a i h k = (h, target_holds (first_type ts) i k)
  index_holds g span (made maker_is.Set ts) a i h k = (h, target_holds (first_type ts) i k)
  index_holds g span (made maker_is.Tuple ts) a i h k = item_holds span ts (g.item i) a i h k
  index_holds g span (word w) a i h k = (h, k)

  pub indexed_holds : (g : Around) (span : Span) (a i : Expr) → Holds a → Holds i → Holds (typing.indexed g span a i)
  indexed_holds g span a i h k = index_holds g span (seen a) a i h k

  -- calls
  call_of_holds : (g : Around) (span : Span) (op : ManyOp) (t : Ty) (es : List Expr) → HoldsOf es → Holds (typing.call_of g span op t es)
  call_of_holds g span op t es h = each_holds (g.target op unknown) 0 es h

  word_call_holds : (g : Around) (span : Span) (w : Word) (callee : Expr) (es : List Expr) → Holds callee → HoldsOf es → Holds (typing.call_by g span (typing.callee_op (leaf_is.TypeName w)) callee es)
  word_call_holds g span (word_is.Enum n) callee es h k = call_of_holds g span (many_is.Convert n) (word (word_is.Enum n)) es k
  word_call_holds g span _ callee es h k = (h, k)

  leaf_call_holds : (g : Around) (span : Span) (op : LeafOp) (callee : Expr) (es : List Expr) → Holds callee → HoldsOf es → Holds (typing.call_by g span (typing.callee_op op) callee es)
  leaf_call_holds g span (leaf_is.Function n) callee es h k = call_of_holds g span (many_is.Call n) (g.result n) es k
  leaf_call_holds g span (leaf_is.TypeName w) callee es h k = word_call_holds g span w callee es h k
  leaf_call_holds g span _ callee es h k = (h, k)

  pub call_holds : (g : Around) (span : Span) (callee : Expr) (es : List Expr) → Holds callee → HoldsOf es → Holds (typing.call_at g span callee es)
  call_holds g span (leaf i) es h k = leaf_call_holds g span i.op (leaf i) es h k
  call_holds g span (one _ _) es h k = (h, k)
  call_holds g span (two _ _ _) es h k = (h, k)
  call_holds g span (three _ _ _ _) es h k = (h, k)
  call_holds g span (many _ _) es h k = (h, k)

  appended_holds : (es fs : List Expr) → HoldsOf es → HoldsOf fs → HoldsOf (es ++ fs)
  appended_holds [] fs h k = k
  appended_holds (e ∷ es) fs h k = (h.0, appended_holds es fs h.1 k)

  method_of_holds : (g : Around) (span member name : Span) (m : Option Callable) (object : Expr) (es : List Expr) → ((op : ManyOp) (s : Span) (n : ℕ) → HoldsOf (g.left_out op s n)) → Holds object → HoldsOf es
      → Holds (typing.method_of g span member name m object es)
  method_of_holds g span member name None object es l h k = (h, k)
  method_of_holds g span member name (Some m) object es l h k =
      (h, appended_holds (typing.each_to (g.target m.op (seen object)) 0 es) (g.left_out m.op span (length es)) (each_holds (g.target m.op (seen object)) 0 es k) (l m.op span (length es)))

  pub method_holds : (g : Around) (span member : Span) (name : Tree) (object : Expr) (es : List Expr) → ((op : ManyOp) (s : Span) (n : ℕ) → HoldsOf (g.left_out op s n)) → Holds object → HoldsOf es
      → Holds (typing.method_at g span member name object es)
  method_holds g span member name object es l h k = method_of_holds g span member _ _ object es l h k

  new_by_holds : (g : Around) (span path : Span) (u : Option NewOf) (callee : Expr) (es : List Expr) → Holds callee → HoldsOf es → Holds (typing.new_by g span path u callee es)
  new_by_holds g span path None callee es h k = (h, k)
  new_by_holds g span path (Some u) callee es h k = call_of_holds g span (many_is.New u path) (word word_is.New) es k

  pub new_holds : (g : Around) (span path : Span) (callee : Expr) (es : List Expr) → Holds callee → HoldsOf es → Holds (typing.new_at g span path callee es)
  new_holds g span path callee es h k = new_by_holds g span path (typing.started callee) callee es h k
