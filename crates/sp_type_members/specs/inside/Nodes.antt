-- What is open in the parts of a node that typing makes is what is open in it first.
use Rattle.std.proofs.Common.{ℕ, ◌≡◌, suc, Bool, true, false, refl, sym, ap, ◌∙◌, List, [], ◌∷◌, ◌++◌, Option, Some, None, cond}
use Rattle.std.specs.Prelude.{if◌then◌else◌, not, ◌&&◌, ◌||◌, map, length}
use Rattle.sp_base.specs.declared.places.Span.{Span}
use Rattle.sp_words.specs.declared.operators.BinaryOp.{BinaryOp}
use Rattle.sp_words.specs.declared.operators.UnaryOp.{UnaryOp}
use Rattle.sp_words.specs.declared.operators.UnaryOp.TheVariants as unary_is
use Rattle.sp_ast.specs.Trees.{Tree}
use Rattle.sp_types.specs.Types.{Ty, Tys, word, made, same, widens}
use Rattle.sp_types.specs.declared.words.Word.{Word}
use Rattle.sp_types.specs.declared.words.Word.TheVariants as word_is
use Rattle.sp_types.specs.declared.words.Maker.{Maker}
use Rattle.sp_types.specs.declared.words.Maker.TheVariants as maker_is
use Rattle.sp_typed.specs.declared.heads.Leaf.{Leaf}
use Rattle.sp_typed.specs.declared.words.LeafOp.{LeafOp}
use Rattle.sp_typed.specs.declared.words.LeafOp.TheVariants as leaf_is
use Rattle.sp_typed.specs.declared.words.OneOp.{OneOp}
use Rattle.sp_typed.specs.declared.words.OneOp.TheVariants as one_is
use Rattle.sp_typed.specs.declared.words.ManyOp.{ManyOp}
use Rattle.sp_typed.specs.declared.words.ManyOp.TheVariants as many_is
use Rattle.sp_typed.specs.declared.words.NewOf.{NewOf}
use Rattle.sp_typed.specs.Exprs.{Expr, leaf, one, two, three, many, exprs, span_of, is_literal, retyped, settled}
use Rattle.sp_type_context.specs.declared.context.Callable.{Callable}
use Rattle.sp_type_context.specs.Contexts.{Around}
use Rattle.sp_type_operands.specs.Operands.{unknown, sort_of, key_of, first_type}
use Rattle.sp_type_operands.specs.Literals.{taken, seen, is_negative, can_take, literal_word}
use Rattle.sp_type_context.specs.Typing.{one_at, widened, to_target, to_maybe, each_to, alike, agreeing, leading, led, row_at, leading_half, in_turn, map_at, tuple_at, unary_op, signed_type, unary_at, joined, is_membership, binary_at, choice_at, item_of, item_at, part_at, index_at, indexed, no_call, call_of, callee_op, call_by, call_at, method_of, started_op, new_by, new_at}
use Rattle.sp_type_members.specs.Opens.{or_else, open_in, open_among}
use Rattle.sp_type_members.specs.inside.Kept.{or_none, or_assoc, open_all, ComesFirst}

pub or_same : (a b c d : Option ℕ) → a ≡ b → c ≡ d → or_else a c ≡ or_else b d
or_same a b c d e i = ap (λ o. or_else o c) e ∙ ap (or_else b) i

-- what comes first goes on to come first
or_first : (x y z : Option ℕ) (j : ℕ) → (y ≡ Some j → z ≡ Some j) → or_else x y ≡ Some j → or_else x z ≡ Some j
or_first None y z j go e = go e
or_first (Some i) y z j go e = e

module _ (list : List Tree) (count : ℕ) where
  abbrev opens : (ℕ → Option Ty) → Expr → Option ℕ
  opens h e = open_in list count h e

  abbrev pub open_two : (ℕ → Option Ty) → Expr × Expr → Option ℕ
  open_two h p = or_else (opens h p.0) (opens h p.1)

  abbrev pub open_three : (ℕ → Option Ty) → Expr × (Expr × Expr) → Option ℕ
  open_three h p = or_else (opens h p.0) (open_two h p.1)

  abbrev pub open_head : (ℕ → Option Ty) → Expr × List Expr → Option ℕ
  open_head h p = or_else (opens h p.0) (open_all list count h p.1)

  abbrev pub open_pairs : (ℕ → Option Ty) → List (Expr × Expr) → Option ℕ
  open_pairs h [] = None
  open_pairs h (p ∷ ps) = or_else (open_two h p) (open_pairs h ps)

  -- literals that take types
  retyped_open : (h : ℕ → Option Ty) (t : Ty) (e : Expr) → opens h (retyped t e) ≡ opens h e
  retyped_open h t (leaf l) = refl
  retyped_open h t (one l a) = refl
  retyped_open h t (two l a b) = refl
  retyped_open h t (three l a b c) = refl
  retyped_open h t (many l es) = refl

  settled_open : (h : ℕ → Option Ty) (w : Word) (e : Expr) → opens h (settled w e) ≡ opens h e
  settled_open h w e = by (is_literal e)
    where
      by : (b : Bool) → opens h (cond b (retyped (word w) e) e) ≡ opens h e
      by true = retyped_open h (word w) e
      by false = refl

  taken_open : (h : ℕ → Option Ty) (t : Ty) (e : Expr) → opens h (taken t e) ≡ opens h e
  taken_open h (word w) e = by (is_literal e && can_take w)
    where
      by : (b : Bool) → opens h (if b then settled w e else e) ≡ opens h e
      by true = settled_open h w e
      by false = refl
  taken_open h (made m ts) e = refl

  widened_open : (h : ℕ → Option Ty) (t : Ty) (e : Expr) → opens h (widened t e) ≡ opens h e
  widened_open h t e = by (widens (seen e) t && not (same (seen e) t))
    where
      by : (b : Bool) → opens h (if b then one_at (span_of e) t one_is.Widen e else e) ≡ opens h e
      by true = or_none (opens h e)
      by false = refl

  target_open : (h : ℕ → Option Ty) (t : Ty) (e : Expr) → opens h (to_target t e) ≡ opens h e
  target_open h t e = widened_open h t (taken t e) ∙ taken_open h t e

  maybe_target_open : (h : ℕ → Option Ty) (o : Option Ty) (e : Expr) → opens h (to_maybe o e) ≡ opens h e
  maybe_target_open h None e = refl
  maybe_target_open h (Some t) e = target_open h t e

  each_open : (h : ℕ → Option Ty) (target : ℕ → Option Ty) (k : ℕ) (es : List Expr) → open_all list count h (each_to target k es) ≡ open_all list count h es
  each_open h target k [] = refl
  each_open h target k (e ∷ es) = or_same (opens h (to_maybe (target k) e)) (opens h e) (open_all list count h (each_to target (suc k) es)) (open_all list count h es) (maybe_target_open h (target k) e) (each_open h target (suc k) es)

  map_taken_open : (h : ℕ → Option Ty) (t : Ty) (es : List Expr) → open_all list count h (map (taken t) es) ≡ open_all list count h es
  map_taken_open h t [] = refl
  map_taken_open h t (e ∷ es) = or_same (opens h (taken t e)) (opens h e) (open_all list count h (map (taken t) es)) (open_all list count h es) (taken_open h t e) (map_taken_open h t es)

  turn_open : (h : ℕ → Option Ty) (key value : Ty) (ps : List (Expr × Expr)) → open_all list count h (in_turn key value ps) ≡ open_pairs h ps
  turn_open h key value [] = refl
  turn_open h key value (p ∷ ps) =
      or_same (opens h (taken key p.0)) (opens h p.0) (or_else (opens h (taken value p.1)) (open_all list count h (in_turn key value ps))) (or_else (opens h p.1) (open_pairs h ps))
      (taken_open h key p.0)
      (or_same (opens h (taken value p.1)) (opens h p.1) (open_all list count h (in_turn key value ps)) (open_pairs h ps) (taken_open h value p.1) (turn_open h key value ps))
      ∙ sym (or_assoc (opens h p.0) (opens h p.1) (open_pairs h ps))

  exprs_open : (h : ℕ → Option Ty) (es : List Expr) → open_among list count h (exprs es) ≡ open_all list count h es
  exprs_open h [] = refl
  exprs_open h (e ∷ es) = ap (or_else (opens h e)) (exprs_open h es)

  append_first : (h : ℕ → Option Ty) (xs ys : List Expr) (j : ℕ) → open_all list count h xs ≡ Some j → open_all list count h (xs ++ ys) ≡ Some j
  append_first h [] ys j e = (let z : None ≡ Some j = e in cc)
  append_first h (x ∷ xs) ys j e = or_first (opens h x) (open_all list count h xs) (open_all list count h (xs ++ ys)) j (append_first h xs ys j) e

  agreeing_open : (h : ℕ → Option Ty) (a b : Expr) → open_two h (agreeing a b) ≡ open_two h (a, b)
  agreeing_open h a b = by (is_literal a && is_literal b)
    where
      by : (c : Bool) → open_two h (if c then alike a b else (taken (seen b) a, taken (seen a) b)) ≡ open_two h (a, b)
      by true = or_same (opens h (alike a b).0) (opens h a) (opens h (alike a b).1) (opens h b) (settled_open h (literal_word (is_negative a || is_negative b)) a) (settled_open h (literal_word (is_negative a || is_negative b)) b)
      by false = or_same (opens h (taken (seen b) a)) (opens h a) (opens h (taken (seen a) b)) (opens h b) (taken_open h (seen b) a) (taken_open h (seen a) b)

  -- nodes
  pub tuple_first : (span : Span) (es : List Expr) → ComesFirst list count (open_all list count) (tuple_at span) es
  tuple_first span es h j e = exprs_open h es ∙ e

  pub row_first : (span : Span) (maker : Maker) (op : ManyOp) (es : List Expr) → ComesFirst list count (open_all list count) (λ x. row_at span maker op (led x)) es
  row_first span maker op es h j e = exprs_open h (led es) ∙ map_taken_open h (leading es) es ∙ e

  pub map_first : (span : Span) (ps : List (Expr × Expr)) → ComesFirst list count open_pairs (map_at span) ps
  map_first span ps h j e =
      exprs_open h (in_turn (leading_half false ps) (leading_half true ps) ps) ∙ turn_open h (leading_half false ps) (leading_half true ps) ps ∙ e

  -- a node round one part that is no member
  pub one_first : (span : Span) (make : Expr → Ty) (op : OneOp) → ((h : ℕ → Option Ty) (a : Expr) → opens h (one_at span (make a) op a) ≡ or_else (opens h a) None)
      → (a : Expr) → ComesFirst list count opens (λ x. one_at span (make x) op x) a
  one_first span make op plain a h j e = plain h a ∙ or_none (opens h a) ∙ e

  unary_open : (span : Span) (t : Ty) (op : UnaryOp) (h : ℕ → Option Ty) (a : Expr) → opens h (one_at span t (unary_op op) a) ≡ or_else (opens h a) None
  unary_open span t unary_is.Not h a = refl
  unary_open span t unary_is.Negate h a = refl
  unary_open span t unary_is.Complement h a = refl

  pub unary_first : (span : Span) (op : UnaryOp) (a : Expr) → ComesFirst list count opens (unary_at span op) a
  unary_first span op a h j e = unary_open span (signed_type op a) op h a ∙ or_none (opens h a) ∙ e

  pub binary_first : (span : Span) (op : BinaryOp) (p : Expr × Expr) → ComesFirst list count open_two (λ q. binary_at span op q.0 q.1) p
  binary_first span op p h j e = by (is_membership (sort_of op)) ∙ e
    where
      by : (b : Bool) → opens h (if b then joined span op (to_target (key_of (seen p.1)) p.0) p.1 else joined span op (agreeing p.0 p.1).0 (agreeing p.0 p.1).1) ≡ open_two h p
      by true = ap (λ o. or_else o (opens h p.1)) (target_open h (key_of (seen p.1)) p.0)
      by false = agreeing_open h p.0 p.1

  pub choice_first : (span : Span) (p : Expr × (Expr × Expr)) → ComesFirst list count open_three (λ q. choice_at span q.0 q.1.0 q.1.1) p
  choice_first span p h j e = ap (or_else (opens h p.0)) (agreeing_open h p.1.0 p.1.1) ∙ e

  item_open : (span : Span) (o : Option Ty) (n : ℕ) (a i : Expr) (h : ℕ → Option Ty) → opens h (item_of span o n a i) ≡ or_else (opens h a) (opens h i)
  item_open span None n a i h = refl
  item_open span (Some t) n a i h = refl

  items_open : (span : Span) (ts : Tys) (o : Option ℕ) (a i : Expr) (h : ℕ → Option Ty) → opens h (item_at span ts o a i) ≡ or_else (opens h a) (opens h i)
  items_open span ts None a i h = refl
  items_open span ts (Some n) a i h = item_open span (part_at ts n) n a i h

  index_open : (g : Around) (span : Span) (t : Ty) (a i : Expr) (h : ℕ → Option Ty) → opens h (index_at g span t a i) ≡ or_else (opens h a) (opens h i)
  index_open g span (made maker_is.Vector ts) a i h = refl
  index_open g span (made maker_is.Map ts) a i h = ap (or_else (opens h a)) (target_open h (first_type ts) i)
  index_open g span (made maker_is.Set ts) a i h = ap (or_else (opens h a)) (target_open h (first_type ts) i)
  index_open g span (made maker_is.Tuple ts) a i h = items_open span ts (g.item i) a i h
  index_open g span (word w) a i h = refl

  pub index_first : (g : Around) (span : Span) (p : Expr × Expr) → ComesFirst list count open_two (λ q. indexed g span q.0 q.1) p
  index_first g span p h j e = index_open g span (seen p.0) p.0 p.1 h ∙ e

  -- calls
  call_open : (g : Around) (span : Span) (op : ManyOp) (t : Ty) (es : List Expr) (h : ℕ → Option Ty) → opens h (call_of g span op t es) ≡ open_all list count h es
  call_open g span op t es h = exprs_open h (each_to (g.target op unknown) 0 es) ∙ each_open h (g.target op unknown) 0 es

  no_call_open : (span : Span) (callee : Expr) (es : List Expr) (h : ℕ → Option Ty) → opens h (no_call span callee es) ≡ open_head h (callee, es)
  no_call_open span callee es h = exprs_open h (callee ∷ es)

  call_word : (g : Around) (span : Span) (w : Word) (l : Leaf) (es : List Expr) (h : ℕ → Option Ty) → opens h (call_by g span (callee_op (leaf_is.TypeName w)) (leaf l) es) ≡ open_all list count h es
  call_word g span (word_is.Enum n) l es h = exprs_open h (each_to (g.target (many_is.Convert n) unknown) 0 es) ∙ each_open h (g.target (many_is.Convert n) unknown) 0 es
  call_word g span _ l es h = no_call_open span (leaf l) es h

  call_leaf : (g : Around) (span : Span) (op : LeafOp) (l : Leaf) (es : List Expr) (h : ℕ → Option Ty) → opens h (call_by g span (callee_op op) (leaf l) es) ≡ open_all list count h es
  call_leaf g span (leaf_is.Function n) l es h = exprs_open h (each_to (g.target (many_is.Call n) unknown) 0 es) ∙ each_open h (g.target (many_is.Call n) unknown) 0 es
  call_leaf g span (leaf_is.TypeName w) l es h = call_word g span w l es h
  call_leaf g span _ l es h = no_call_open span (leaf l) es h

  pub call_first : (g : Around) (span : Span) (p : Expr × List Expr) → ComesFirst list count open_head (λ q. call_at g span q.0 q.1) p
  call_first g span p h j e = by p.0 ∙ e
    where
      by : (c : Expr) → opens h (call_at g span c p.1) ≡ open_head h (c, p.1)
      by (leaf l) = call_leaf g span l.op l p.1 h
      by (one l a) = no_call_open span (one l a) p.1 h
      by (two l a b) = no_call_open span (two l a b) p.1 h
      by (three l a b c) = no_call_open span (three l a b c) p.1 h
      by (many l es) = no_call_open span (many l es) p.1 h

  new_leaf : (g : Around) (span path : Span) (o : Option NewOf) (l : Leaf) (es : List Expr) (h : ℕ → Option Ty) → opens h (new_by g span path o (leaf l) es) ≡ open_all list count h es
  new_leaf g span path (Some u) l es h = exprs_open h (each_to (g.target (many_is.New u path) unknown) 0 es) ∙ each_open h (g.target (many_is.New u path) unknown) 0 es
  new_leaf g span path None l es h = no_call_open span (leaf l) es h

  pub new_first : (g : Around) (span path : Span) (p : Expr × List Expr) → ComesFirst list count open_head (λ q. new_at g span path q.0 q.1) p
  new_first g span path p h j e = by p.0 ∙ e
    where
      by : (c : Expr) → opens h (new_at g span path c p.1) ≡ open_head h (c, p.1)
      by (leaf l) = new_leaf g span path (started_op l.op) l p.1 h
      by (one l a) = no_call_open span (one l a) p.1 h
      by (two l a b) = no_call_open span (two l a b) p.1 h
      by (three l a b c) = no_call_open span (three l a b c) p.1 h
      by (many l es) = no_call_open span (many l es) p.1 h

  method_open : (g : Around) (span member name : Span) (o : Option Callable) (object : Expr) (es : List Expr) (h : ℕ → Option Ty) (j : ℕ)
      → open_head h (object, es) ≡ Some j → opens h (method_of g span member name o object es) ≡ Some j
  method_open g span member name None object es h j e =
      no_call_open span (one_at member unknown (one_is.NoMember name) object) es h
      ∙ ap (λ o. or_else o (open_all list count h es)) (or_none (opens h object))
      ∙ e
  method_open g span member name (Some m) object es h j e =
      let given = each_to (g.target m.op (seen object)) 0 es in
      let left = g.left_out m.op span (length es) in
      exprs_open h (object ∷ (given ++ left))
      ∙ or_first (opens h object) (open_all list count h es) (open_all list count h (given ++ left)) j
      (λ i. append_first h given left j (each_open h (g.target m.op (seen object)) 0 es ∙ i))
      e

  pub method_first : (g : Around) (span member name : Span) (found : Expr × List Expr → Option Callable) (p : Expr × List Expr) → ComesFirst list count open_head (λ q. method_of g span member name (found q) q.0 q.1) p
  method_first g span member name found p h j e = method_open g span member name (found p) p.0 p.1 h j e
