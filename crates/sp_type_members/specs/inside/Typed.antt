-- An expression all of whose members have types is typed alike for good, and the first member without one stays the first.
use Rattle.std.proofs.Common.{ℕ, ◌≡◌, ◌+◌, ◌<◌, true, refl, sym, ap, subst, ◌∙◌, List, [], ◌∷◌, Option, Some, None, slice_get, arith}
use Rattle.std.specs.Prelude.{if◌then◌else◌, nat_lt, map}
use Rattle.std.proofs.lemmas.Bool.Decides.{nat_tests}
use Rattle.sp_base.specs.declared.places.Span.{Span}
use Rattle.sp_ast.specs.Trees.{Tree, Trees, absent, row, node, none, more}
use Rattle.sp_ast.specs.Trees as read
use Rattle.sp_ast.specs.declared.forms.Form.TheVariants as form_is
use Rattle.sp_ast.specs.declared.forms.ExprForm.TheVariants as expr_is
use Rattle.sp_types.specs.Types.{Ty, word, made}
use Rattle.sp_types.specs.declared.words.Word.{Word}
use Rattle.sp_types.specs.declared.words.Word.TheVariants as word_is
use Rattle.sp_types.specs.declared.words.Maker.TheVariants as maker_is
use Rattle.sp_typed.specs.declared.words.LeafOp.{LeafOp}
use Rattle.sp_typed.specs.declared.words.LeafOp.TheVariants as leaf_is
use Rattle.sp_typed.specs.declared.words.OneOp.{OneOp}
use Rattle.sp_typed.specs.declared.words.OneOp.TheVariants as one_is
use Rattle.sp_typed.specs.declared.words.ManyOp.TheVariants as many_is
use Rattle.sp_typed.specs.declared.words.NewOf.{NewOf}
use Rattle.sp_typed.specs.Exprs.{Expr, leaf}
use Rattle.sp_typed_units.specs.declared.declarations.MemberKind.{MemberKind}
use Rattle.sp_typed_units.specs.declared.declarations.MemberKind.TheVariants as kind_is
use Rattle.sp_type_context.specs.declared.places.Place.TheVariants.{Whole}
use Rattle.sp_type_context.specs.declared.context.Callable.{Callable}
use Rattle.sp_type_context.specs.declared.context.Member.{Member}
use Rattle.sp_type_context.specs.Contexts.{Around}
use Rattle.sp_type_operands.specs.Operands.{boolean}
use Rattle.sp_type_operands.specs.Literals.{seen}
use Rattle.sp_type_context.specs.Typing.{typed, typed_all, pairs_typed, name_of, one_at, size_type, cast_type, member_at, set_op, set_member_at, unary_at, binary_at, choice_at, index_at, indexed, call_by, callee_op, call_at, method_of, method_at, new_by, started, new_at, tuple_at, row_at, led, map_at}
use Rattle.sp_solver.specs.Rounds.{Within}
use Rattle.sp_names.specs.Types.{or_unknown}
use Rattle.sp_type_modules.specs.Members.{unit_members, first_member, numbered, kinds_of, range_number, bitfield_width, bitfield_tree}
use Rattle.sp_type_modules.specs.Arounds.{stored_by, member_of, unit_member, some_member, bit_member, width_type}
use Rattle.sp_type_members.specs.Opens.{with_members, or_else, unanswered, open_at, open_member, open_in}
use Rattle.sp_type_members.specs.inside.Kept.{Kept, kept_known, kept_made, kept_then, kept_both, kept_nodes, fixed_kept, at_kept, open_all, or_none}
use Rattle.sp_type_members.specs.inside.Nodes.{open_two, open_three, open_head, open_pairs, tuple_first, row_first, map_first, one_first, unary_first, binary_first, choice_first, index_first, call_first, new_first, method_first}

abbrev pair_of : Expr → Expr → Expr × Expr
pair_of a b = (a, b)

abbrev head_of : Expr → List Expr → Expr × List Expr
head_of a es = (a, es)

abbrev first_of : Expr × List Expr → List Expr
first_of p = p.0 ∷ p.1

abbrev first_pair_of : (Expr × Expr) × List (Expr × Expr) → List (Expr × Expr)
first_pair_of p = p.0 ∷ p.1

abbrev triple_of : Expr → Expr × Expr → Expr × (Expr × Expr)
triple_of a p = (a, p)

abbrev pairs_of : Expr × Expr → List (Expr × Expr) → (Expr × Expr) × List (Expr × Expr)
pairs_of p ps = (p, ps)

-- each member has its number in the row of all
abbrev pub AreInRow : List Tree → ℕ → Type 0
AreInRow list count = (n k : ℕ) (x : List ℕ) → numbered x 0 (unit_members list n) ≡ Some k → first_member list n + k < count

module _ (list : List Tree) (count : ℕ) (in_row : AreInRow list count) where
  abbrev opens : (ℕ → Option Ty) → Expr → Option ℕ
  opens h e = open_in list count h e

  abbrev within : (ℕ → Option Ty) → Around → Around
  within f g = with_members list f g

  -- what is open at a member that was found
  abbrev open_found : (ℕ → Option Ty) → Ty → Option Member → Option ℕ
  open_found h t None = None
  open_found h t (Some m) = open_member list count h m.op t

  -- the type of a member that is known stays
  known_kept : (f g : ℕ → Option Ty) → Within f g → (j : ℕ) → j < count → open_at count f j ≡ None → or_unknown (g j) ≡ or_unknown (f j)
  known_kept f g w j lt e = by (f j) refl (ap (λ b. if b then unanswered (f j) j else None) (sym in_it) ∙ e)
    where
      in_it : nat_lt j count ≡ true
      in_it = grind (arith, nat_tests)

      by : (o : Option Ty) → f j ≡ o → unanswered (f j) j ≡ None → or_unknown (g j) ≡ or_unknown (f j)
      by None s n = (let z : Some j ≡ None = sym (ap (λ o. unanswered o j) s) ∙ n in cc)
      by (Some t) s n = ap or_unknown (w j t s ∙ sym s)

  -- a member is found alike; its type stays where it is known
  found_kept : (f g : ℕ → Option Ty) → Within f g → (t : Ty) (x : List ℕ)
      → Kept g (member_of list (stored_by list f) t x) (open_found f t (member_of list (stored_by list f) t x)) (member_of list (stored_by list g) t x) (open_found g t (member_of list (stored_by list g) t x))
  found_kept f g w (word (word_is.Unit n)) x = number (numbered x 0 (unit_members list n)) refl
    where
      kind : (k : ℕ) → first_member list n + k < count → (o : Option MemberKind)
          → Kept g (some_member (stored_by list f n) k o) (open_found f (word (word_is.Unit n)) (some_member (stored_by list f n) k o)) (some_member (stored_by list g n) k o) (open_found g (word (word_is.Unit n)) (some_member (stored_by list g n) k o))
      kind k lt None = kept_known g None
      kind k lt (Some kind_is.Sink) = kept_known g (some_member (stored_by list f n) k (Some kind_is.Sink))
      kind k lt (Some kind_is.Field) =
          let at = at_kept list count f g w (first_member list n + k) in record {
            same = λ e. ap (λ t. Some (record { op = one_is.Field k; ty = t })) (known_kept f g w (first_member list n + k) lt e);
            none = at.none;
            waits = at.waits;
          }
      kind k lt (Some kind_is.Variable) =
          let at = at_kept list count f g w (first_member list n + k) in record {
            same = λ e. ap (λ t. Some (record { op = one_is.Variable k; ty = t })) (known_kept f g w (first_member list n + k) lt e);
            none = at.none;
            waits = at.waits;
          }

      number : (o : Option ℕ) → numbered x 0 (unit_members list n) ≡ o
          → Kept g (unit_member (stored_by list f n) (unit_members list n) o) (open_found f (word (word_is.Unit n)) (unit_member (stored_by list f n) (unit_members list n) o)) (unit_member (stored_by list g n) (unit_members list n) o) (open_found g (word (word_is.Unit n)) (unit_member (stored_by list g n) (unit_members list n) o))
      number None e = kept_known g None
      number (Some k) e = kind k (in_row n k x e) (slice_get (kinds_of (unit_members list n)) k)
  found_kept f g w (word (word_is.Bitfield n)) x = range (range_number list n x)
    where
      range : (o : Option ℕ) → Kept g (bit_member (width_type (bitfield_width (bitfield_tree list n))) o) (open_found f (word (word_is.Bitfield n)) (bit_member (width_type (bitfield_width (bitfield_tree list n))) o)) (bit_member (width_type (bitfield_width (bitfield_tree list n))) o) (open_found g (word (word_is.Bitfield n)) (bit_member (width_type (bitfield_width (bitfield_tree list n))) o))
      range None = kept_known g None
      range (Some k) = kept_known g (bit_member (width_type (bitfield_width (bitfield_tree list n))) (Some k))
  found_kept f g w _ x = kept_known g None

  -- members
  at_open : (span name : Span) (h : ℕ → Option Ty) (o : Option Member) (a : Expr) → opens h (member_at span name o a) ≡ or_else (opens h a) (open_found h (seen a) o)
  at_open span name h None a = refl
  at_open span name h (Some m) a = refl

  set_open : (span name : Span) (h : ℕ → Option Ty) (op : OneOp) (a : Expr) → opens h (one_at span boolean (set_op op name) a) ≡ or_else (opens h a) None
  set_open span name h (one_is.Field k) a = refl
  set_open span name h _ a = refl

  set_at_open : (span name : Span) (h : ℕ → Option Ty) (o : Option Member) (a : Expr) → opens h (set_member_at span name o a) ≡ or_else (opens h a) None
  set_at_open span name h None a = refl
  set_at_open span name h (Some m) a = set_open span name h m.op a

  -- whether a field is set hangs on no type
  set_same : (f g : ℕ → Option Ty) (span name : Span) (t : Ty) (x : List ℕ) (a : Expr) → set_member_at span name (member_of list (stored_by list g) t x) a ≡ set_member_at span name (member_of list (stored_by list f) t x) a
  set_same f g span name (word (word_is.Unit n)) x a = number (numbered x 0 (unit_members list n))
    where
      kind : (k : ℕ) (o : Option MemberKind) → set_member_at span name (some_member (stored_by list g n) k o) a ≡ set_member_at span name (some_member (stored_by list f n) k o) a
      kind k None = refl
      kind k (Some kind_is.Sink) = refl
      kind k (Some kind_is.Field) = refl
      kind k (Some kind_is.Variable) = refl

      number : (o : Option ℕ) → set_member_at span name (unit_member (stored_by list g n) (unit_members list n) o) a ≡ set_member_at span name (unit_member (stored_by list f n) (unit_members list n) o) a
      number None = refl
      number (Some k) = kind k (slice_get (kinds_of (unit_members list n)) k)
  set_same f g span name _ x a = refl

  kept_as : {X : Type 0} (g : ℕ → Option Ty) (a b : X) (p q r s : Option ℕ) → r ≡ p → s ≡ q → Kept g a p b q → Kept g a r b s
  kept_as g a b p q r s e i k = record { same = λ n. k.same (sym e ∙ n); none = λ n. i ∙ k.none (sym e ∙ n); waits = λ j n u. i ∙ k.waits j (sym e ∙ n) u }

  member_kept : (f g : ℕ → Option Ty) → Within f g → (span name : Span) (x : List ℕ) (a b : Expr) → Kept g a (opens f a) b (opens g b)
      → Kept g (member_at span name (member_of list (stored_by list f) (seen a) x) a) (opens f (member_at span name (member_of list (stored_by list f) (seen a) x) a))
      (member_at span name (member_of list (stored_by list g) (seen b) x) b) (opens g (member_at span name (member_of list (stored_by list g) (seen b) x) b))
  member_kept f g w span name x a b k =
      let found : Expr → Option Member = λ c. member_of list (stored_by list f) (seen c) x in
      let later : Expr → Option Member = λ c. member_of list (stored_by list g) (seen c) x in
      kept_as g (member_at span name (found a) a) (member_at span name (later b) b)
      (or_else (opens f a) (open_found f (seen a) (found a))) (or_else (opens g b) (open_found g (seen b) (later b)))
      (opens f (member_at span name (found a) a)) (opens g (member_at span name (later b) b))
      (at_open span name f (found a) a) (at_open span name g (later b) b)
      (kept_then g a b (opens f a) (opens g b) (member_at span name (found a) a) (member_at span name (later b) b) (open_found f (seen a) (found a)) (open_found g (seen b) (later b)) k
      (λ e. subst (λ c. Kept g (member_at span name (found a) a) (open_found f (seen a) (found a)) (member_at span name (later c) c) (open_found g (seen c) (later c))) (sym e)
      (kept_made g (λ o. member_at span name o a) (found a) (later a) (open_found f (seen a) (found a)) (open_found g (seen a) (later a)) (found_kept f g w (seen a) x))))

  set_kept : (f g : ℕ → Option Ty) → Within f g → (span name : Span) (x : List ℕ) (a b : Expr) → Kept g a (opens f a) b (opens g b)
      → Kept g (set_member_at span name (member_of list (stored_by list f) (seen a) x) a) (opens f (set_member_at span name (member_of list (stored_by list f) (seen a) x) a))
      (set_member_at span name (member_of list (stored_by list g) (seen b) x) b) (opens g (set_member_at span name (member_of list (stored_by list g) (seen b) x) b))
  set_kept f g w span name x a b k =
      kept_nodes list count f g w opens (λ c. set_member_at span name (member_of list (stored_by list f) (seen c) x) c) (λ c. set_member_at span name (member_of list (stored_by list g) (seen c) x) c) a b
      (λ c. set_same f g span name (seen c) x c)
      (λ c h j e. set_at_open span name h (member_of list (stored_by list f) (seen c) x) c ∙ or_none (opens h c) ∙ e)
      k

  -- nodes whose making looks round: not at members
  index_same : (f g : ℕ → Option Ty) (o : Around) (span : Span) (t : Ty) (a i : Expr) → index_at (within g o) span t a i ≡ index_at (within f o) span t a i
  index_same f g o span (made maker_is.Vector ts) a i = refl
  index_same f g o span (made maker_is.Map ts) a i = refl
  index_same f g o span (made maker_is.Set ts) a i = refl
  index_same f g o span (made maker_is.Tuple ts) a i = refl
  index_same f g o span (word w) a i = refl

  call_same : (f g : ℕ → Option Ty) (o : Around) (span : Span) (c : Expr) (es : List Expr) → call_at (within g o) span c es ≡ call_at (within f o) span c es
  call_same f g o span (leaf l) es = by l.op
    where
      by_word : (w : Word) → call_by (within g o) span (callee_op (leaf_is.TypeName w)) (leaf l) es ≡ call_by (within f o) span (callee_op (leaf_is.TypeName w)) (leaf l) es
      by_word (word_is.Enum n) = refl
      by_word _ = refl

      by : (op : LeafOp) → call_by (within g o) span (callee_op op) (leaf l) es ≡ call_by (within f o) span (callee_op op) (leaf l) es
      by (leaf_is.Function n) = refl
      by (leaf_is.TypeName w) = by_word w
      by _ = refl
  call_same f g o span _ es = refl

  new_same : (f g : ℕ → Option Ty) (o : Around) (span path : Span) (u : Option NewOf) (e : Expr) (es : List Expr) → new_by (within g o) span path u e es ≡ new_by (within f o) span path u e es
  new_same f g o span path (Some u) e es = refl
  new_same f g o span path None e es = refl

  method_same : (f g : ℕ → Option Ty) (o : Around) (span member name : Span) (m : Option Callable) (e : Expr) (es : List Expr) → method_of (within g o) span member name m e es ≡ method_of (within f o) span member name m e es
  method_same f g o span member name None e es = refl
  method_same f g o span member name (Some m) e es = refl

  module _ (f g : ℕ → Option Ty) (w : Within f g) where
    abbrev KeptExpr : Expr → Expr → Type 0
    KeptExpr a b = Kept g a (opens f a) b (opens g b)

    abbrev KeptList : List Expr → List Expr → Type 0
    KeptList a b = Kept g a (open_all list count f a) b (open_all list count g b)

    abbrev KeptPairs : List (Expr × Expr) → List (Expr × Expr) → Type 0
    KeptPairs a b = Kept g a (open_pairs list count f a) b (open_pairs list count g b)

    one_kept : (span : Span) (make : Expr → Ty) (op : OneOp) → ((h : ℕ → Option Ty) (a : Expr) → opens h (one_at span (make a) op a) ≡ or_else (opens h a) None)
        → (a b : Expr) → KeptExpr a b → KeptExpr (one_at span (make a) op a) (one_at span (make b) op b)
    one_kept span make op plain a b k = kept_nodes list count f g w opens (λ c. one_at span (make c) op c) (λ c. one_at span (make c) op c) a b (λ c. refl) (one_first list count span make op plain) k

    two_kept : (a b c d : Expr) → KeptExpr a b → KeptExpr c d → Kept g (pair_of a c) (open_two list count f (pair_of a c)) (pair_of b d) (open_two list count g (pair_of b d))
    two_kept a b c d k l = kept_both g a b (opens f a) (opens g b) c d (opens f c) (opens g d) k l

    head_kept : (a b : Expr) (xs ys : List Expr) → KeptExpr a b → KeptList xs ys → Kept g (head_of a xs) (open_head list count f (head_of a xs)) (head_of b ys) (open_head list count g (head_of b ys))
    head_kept a b xs ys k l = kept_both g a b (opens f a) (opens g b) xs ys (open_all list count f xs) (open_all list count g ys) k l

    call_kept : (o : Around) (span : Span) (a b : Expr) (xs ys : List Expr) → KeptExpr a b → KeptList xs ys → KeptExpr (call_at (within f o) span a xs) (call_at (within g o) span b ys)
    call_kept o span a b xs ys k l =
        kept_nodes list count f g w (open_head list count) (λ p. call_at (within f o) span p.0 p.1) (λ p. call_at (within g o) span p.0 p.1) (head_of a xs) (head_of b ys)
        (λ p. call_same f g o span p.0 p.1) (call_first list count (within f o) span) (head_kept a b xs ys k l)

    mutual
      pub typed_kept : (o : Around) (t : Tree) → Kept g (typed (within f o) t) (opens f (typed (within f o) t)) (typed (within g o) t) (opens g (typed (within g o) t))
      typed_kept o (node (form_is.Expr expr_is.Path) span (more path none)) = fixed_kept list count f g w (o.path span path)
      typed_kept o (node (form_is.Expr expr_is.Itself) span none) = fixed_kept list count f g w (o.itself span)
      typed_kept o (node (form_is.Expr expr_is.Current) span none) = fixed_kept list count f g w (o.current span)
      typed_kept o (node (form_is.Expr expr_is.Tuple) span ts) =
          kept_nodes list count f g w (open_all list count) (tuple_at span) (tuple_at span) (typed_all (within f o) ts) (typed_all (within g o) ts) (λ z. refl) (tuple_first list count span) (all_kept o ts)
      typed_kept o (node (form_is.Expr expr_is.Vector) span ts) =
          kept_nodes list count f g w (open_all list count) (λ x. row_at span maker_is.Vector many_is.Vector (led x)) (λ x. row_at span maker_is.Vector many_is.Vector (led x)) (typed_all (within f o) ts) (typed_all (within g o) ts) (λ z. refl) (row_first list count span maker_is.Vector many_is.Vector) (all_kept o ts)
      typed_kept o (node (form_is.Expr expr_is.Set) span ts) =
          kept_nodes list count f g w (open_all list count) (λ x. row_at span maker_is.Set many_is.Set (led x)) (λ x. row_at span maker_is.Set many_is.Set (led x)) (typed_all (within f o) ts) (typed_all (within g o) ts) (λ z. refl) (row_first list count span maker_is.Set many_is.Set) (all_kept o ts)
      typed_kept o (node (form_is.Expr expr_is.Map) span ts) =
          kept_nodes list count f g w (open_pairs list count) (map_at span) (map_at span) (pairs_typed (within f o) ts) (pairs_typed (within g o) ts) (λ z. refl) (map_first list count span) (pairs_kept o ts)
      typed_kept o (node (form_is.Expr expr_is.Cast) span (more t (more e none))) =
          one_kept span (λ a. cast_type (o.type_in Whole t)) (one_is.Cast (o.written Whole t)) (λ h a. refl) (typed (within f o) e) (typed (within g o) e) (typed_kept o e)
      typed_kept o (node (form_is.Expr expr_is.New) span (more path (more (row ts) none))) =
          let named = o.named (read.span_of path) path in
          kept_nodes list count f g w (open_head list count) (λ p. new_at (within f o) span (read.span_of path) p.0 p.1) (λ p. new_at (within g o) span (read.span_of path) p.0 p.1) (head_of named (typed_all (within f o) ts)) (head_of named (typed_all (within g o) ts))
          (λ p. new_same f g o span (read.span_of path) (started p.0) p.0 p.1) (new_first list count (within f o) span (read.span_of path))
          (head_kept named named (typed_all (within f o) ts) (typed_all (within g o) ts) (fixed_kept list count f g w named) (all_kept o ts))
      typed_kept o (node (form_is.Expr expr_is.Size) span (more e none)) =
          one_kept span (λ a. size_type) one_is.Size (λ h a. refl) (typed (within f o) e) (typed (within g o) e) (typed_kept o e)
      typed_kept o (node (form_is.Expr expr_is.Choice) span (more c (more a (more b none)))) =
          kept_nodes list count f g w (open_three list count) (λ q. choice_at span q.0 q.1.0 q.1.1) (λ q. choice_at span q.0 q.1.0 q.1.1)
          (triple_of (typed (within f o) c) (pair_of (typed (within f o) a) (typed (within f o) b))) (triple_of (typed (within g o) c) (pair_of (typed (within g o) a) (typed (within g o) b)))
          (λ z. refl) (choice_first list count span)
          (kept_both g (typed (within f o) c) (typed (within g o) c) (opens f (typed (within f o) c)) (opens g (typed (within g o) c))
          (pair_of (typed (within f o) a) (typed (within f o) b)) (pair_of (typed (within g o) a) (typed (within g o) b))
          (open_two list count f (pair_of (typed (within f o) a) (typed (within f o) b))) (open_two list count g (pair_of (typed (within g o) a) (typed (within g o) b)))
          (typed_kept o c)
          (two_kept (typed (within f o) a) (typed (within g o) a) (typed (within f o) b) (typed (within g o) b) (typed_kept o a) (typed_kept o b)))
      typed_kept o (node (form_is.Expr expr_is.Member) span (more e (more name none))) =
          member_kept f g w span (read.span_of name) (name_of name) (typed (within f o) e) (typed (within g o) e) (typed_kept o e)
      typed_kept o (node (form_is.Expr expr_is.SetMember) span (more e (more name none))) =
          set_kept f g w span (read.span_of name) (name_of name) (typed (within f o) e) (typed (within g o) e) (typed_kept o e)
      typed_kept o (node (form_is.Expr expr_is.Index) span (more e (more i none))) =
          kept_nodes list count f g w (open_two list count) (λ q. indexed (within f o) span q.0 q.1) (λ q. indexed (within g o) span q.0 q.1)
          (pair_of (typed (within f o) e) (typed (within f o) i)) (pair_of (typed (within g o) e) (typed (within g o) i))
          (λ q. index_same f g o span (seen q.0) q.0 q.1) (index_first list count (within f o) span)
          (two_kept (typed (within f o) e) (typed (within g o) e) (typed (within f o) i) (typed (within g o) i) (typed_kept o e) (typed_kept o i))
      typed_kept o (node (form_is.Expr expr_is.Call) span (more (node (form_is.Expr expr_is.Member) member (more e (more name none))) (more (row ts) none))) =
          kept_nodes list count f g w (open_head list count) (λ q. method_at (within f o) span member name q.0 q.1) (λ q. method_at (within g o) span member name q.0 q.1)
          (head_of (typed (within f o) e) (typed_all (within f o) ts)) (head_of (typed (within g o) e) (typed_all (within g o) ts))
          (λ q. method_same f g o span member (read.span_of name) (o.method (seen q.0) (name_of name) (read.span_of name) (map seen q.1)) q.0 q.1)
          (method_first list count (within f o) span member (read.span_of name) (λ q. o.method (seen q.0) (name_of name) (read.span_of name) (map seen q.1)))
          (head_kept (typed (within f o) e) (typed (within g o) e) (typed_all (within f o) ts) (typed_all (within g o) ts) (typed_kept o e) (all_kept o ts))
      typed_kept o (node (form_is.Expr expr_is.Call) span (more callee (more (row ts) none))) =
          call_kept o span (typed (within f o) callee) (typed (within g o) callee) (typed_all (within f o) ts) (typed_all (within g o) ts) (typed_kept o callee) (all_kept o ts)
      typed_kept o (node (form_is.Expr (expr_is.Unary op)) span (more e none)) =
          kept_nodes list count f g w opens (unary_at span op) (unary_at span op) (typed (within f o) e) (typed (within g o) e) (λ z. refl) (unary_first list count span op) (typed_kept o e)
      typed_kept o (node (form_is.Expr (expr_is.Binary op)) span (more a (more b none))) =
          kept_nodes list count f g w (open_two list count) (λ q. binary_at span op q.0 q.1) (λ q. binary_at span op q.0 q.1)
          (pair_of (typed (within f o) a) (typed (within f o) b)) (pair_of (typed (within g o) a) (typed (within g o) b)) (λ z. refl) (binary_first list count span op)
          (two_kept (typed (within f o) a) (typed (within g o) a) (typed (within f o) b) (typed (within g o) b) (typed_kept o a) (typed_kept o b))
      typed_kept o (node (form_is.Expr expr_is.True) span none) = fixed_kept list count f g w (typed (within f o) (node (form_is.Expr expr_is.True) span none))
      typed_kept o (node (form_is.Expr expr_is.False) span none) = fixed_kept list count f g w (typed (within f o) (node (form_is.Expr expr_is.False) span none))
      typed_kept o (node (form_is.Expr (expr_is.Number n)) span none) = fixed_kept list count f g w (typed (within f o) (node (form_is.Expr (expr_is.Number n)) span none))
      typed_kept o (node (form_is.Expr (expr_is.String text)) span none) = fixed_kept list count f g w (typed (within f o) (node (form_is.Expr (expr_is.String text)) span none))
      typed_kept o (node (form_is.Expr (expr_is.Bytes bytes)) span none) = fixed_kept list count f g w (typed (within f o) (node (form_is.Expr (expr_is.Bytes bytes)) span none))
      typed_kept o (node (form_is.Expr (expr_is.Regex text)) span none) = fixed_kept list count f g w (typed (within f o) (node (form_is.Expr (expr_is.Regex text)) span none))
      typed_kept o (node (form_is.Expr expr_is.EmptyVector) span (more t none)) = fixed_kept list count f g w (typed (within f o) (node (form_is.Expr expr_is.EmptyVector) span (more t none)))
      typed_kept o (node (form_is.Expr expr_is.EmptySet) span (more t none)) = fixed_kept list count f g w (typed (within f o) (node (form_is.Expr expr_is.EmptySet) span (more t none)))
      typed_kept o (node (form_is.Expr expr_is.EmptyMap) span (more k (more v none))) = fixed_kept list count f g w (typed (within f o) (node (form_is.Expr expr_is.EmptyMap) span (more k (more v none))))
      typed_kept o (node (form_is.Expr (expr_is.TypedNumber x)) span (more n none)) = fixed_kept list count f g w (typed (within f o) (node (form_is.Expr (expr_is.TypedNumber x)) span (more n none)))
      typed_kept o t = fixed_kept list count f g w (typed (within f o) t)

      pub all_kept : (o : Around) (ts : Trees) → Kept g (typed_all (within f o) ts) (open_all list count f (typed_all (within f o) ts)) (typed_all (within g o) ts) (open_all list count g (typed_all (within g o) ts))
      all_kept o none = kept_known g []
      all_kept o (more t ts) =
          kept_made g first_of (head_of (typed (within f o) t) (typed_all (within f o) ts)) (head_of (typed (within g o) t) (typed_all (within g o) ts))
          (open_head list count f (head_of (typed (within f o) t) (typed_all (within f o) ts))) (open_head list count g (head_of (typed (within g o) t) (typed_all (within g o) ts)))
          (head_kept (typed (within f o) t) (typed (within g o) t) (typed_all (within f o) ts) (typed_all (within g o) ts) (typed_kept o t) (all_kept o ts))

      pub pairs_kept : (o : Around) (ts : Trees) → Kept g (pairs_typed (within f o) ts) (open_pairs list count f (pairs_typed (within f o) ts)) (pairs_typed (within g o) ts) (open_pairs list count g (pairs_typed (within g o) ts))
      pairs_kept o none = kept_known g []
      pairs_kept o (more (node form_is.Pair span (more k (more v none))) ts) =
          let a : Expr × Expr = (typed (within f o) k, typed (within f o) v) in
          let b : Expr × Expr = (typed (within g o) k, typed (within g o) v) in
          kept_made g first_pair_of (pairs_of a (pairs_typed (within f o) ts)) (pairs_of b (pairs_typed (within g o) ts))
          (or_else (open_two list count f a) (open_pairs list count f (pairs_typed (within f o) ts))) (or_else (open_two list count g b) (open_pairs list count g (pairs_typed (within g o) ts)))
          (kept_both g a b (open_two list count f a) (open_two list count g b) (pairs_typed (within f o) ts) (pairs_typed (within g o) ts) (open_pairs list count f (pairs_typed (within f o) ts)) (open_pairs list count g (pairs_typed (within g o) ts))
          (two_kept (typed (within f o) k) (typed (within g o) k) (typed (within f o) v) (typed (within g o) v) (typed_kept o k) (typed_kept o v))
          (pairs_kept o ts))
      pairs_kept o (more t ts) = pairs_kept o ts
