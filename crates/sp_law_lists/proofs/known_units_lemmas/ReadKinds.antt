-- What is read, by its kind: the kind of a reading is told by the reading, one of elements has elements of a full type, and what
-- has brackets is one.
use Rattle.std.specs.Prelude.{ℕ, Bool, true, false}
use Rattle.std.proofs.Common.{◌≡◌, refl, sym, ap, ◌∙◌, Option, Some, None, List}
use Rattle.std.proofs.lemmas.Bool.{and_parts}
use Rattle.sp_base.specs.declared.places.Span.{Span}
use Rattle.sp_ast.specs.Trees.{Tree, Trees, absent, row, node, none, more}
use Rattle.sp_ast.specs.Trees as trees
use Rattle.sp_ast.specs.Slots.{is_formed, are_formed}
use Rattle.sp_ast.specs.Groups.{are_of, fits as stands_as}
use Rattle.sp_ast.specs.declared.groups.Group.TheVariants as group_is
use Rattle.sp_ast.specs.declared.groups.Sort.TheVariants as stands
use Rattle.sp_ast.specs.declared.forms.Form.TheVariants as form_is
use Rattle.sp_ast.specs.declared.forms.BaseForm.TheVariants as base_is
use Rattle.sp_ast.specs.declared.forms.TypeForm.TheVariants as type_is
use Rattle.sp_types.specs.declared.words.Word.{Word}
use Rattle.sp_types.specs.declared.words.Word.TheVariants as word_is
use Rattle.sp_types.specs.declared.words.Maker.TheVariants as maker_is
use Rattle.sp_types.specs.Types.{Ty, word, made}
use Rattle.sp_typed.specs.declared.words.LeafOp.{LeafOp}
use Rattle.sp_typed.specs.declared.words.LeafOp.TheVariants as leaf_is
use Rattle.sp_typed.specs.Exprs.{Expr, leaf}
use Rattle.sp_type_context.specs.declared.places.Place.TheVariants.{Whole}
use Rattle.sp_type_context.specs.Contexts.{Around}
use Rattle.sp_type_fields.specs.declared.readings.Read.{Read}
use Rattle.sp_type_fields.specs.declared.roles.Kind.{Kind}
use Rattle.sp_type_fields.specs.declared.roles.Kind.TheVariants as kind_is
use Rattle.sp_type_fields.specs.Roles.{grouped}
use Rattle.sp_type_fields.specs.Values.{Values}
use Rattle.sp_type_fields.specs.Attributes.{maybe_typed, element_of}
use Rattle.sp_ast.specs.Views.{present}
use Rattle.sp_type_fields.specs.Readings.{constant_read, constant_of_type, named_op, named_read, word_read, unknown_read, type_read, called_word, called_op, called, counting, container, contained, base_read, counted_read}
use Rattle.sp_type_hook_rows.specs.HookRows.{is_some_tree}
use Rattle.sp_type_fields.specs.Kinds.{list_kind, kind_of}
use Rattle.sp_law_lists.specs.known_types.Full.{is_full}
use Rattle.sp_law_lists.proofs.known_types_lemmas.Full.{never, vector_first}
use Rattle.sp_law_lists.proofs.known_members_lemmas.Shapes.{no_first}

-- a row of elements
abbrev pub is_row : Kind → Bool
is_row kind_is.Open = true
is_row kind_is.Counted = true
is_row _ = false

-- elements of a vector
abbrev is_vector : Ty → Bool
is_vector (made maker_is.Vector ts) = true
is_vector _ = false

elements_full : (t : Ty) → is_vector t ≡ true → is_full t ≡ true → is_full (element_of t) ≡ true
elements_full (made maker_is.Vector ts) e full = vector_first ts full
elements_full _ e full = never e

-- a reading whose kind is told by it, and that is of no elements
abbrev IsOne : Read → Type 0
IsOne r = (kind_of r.spec ≡ r.kind) × (is_row r.kind ≡ false)

grouped_one : (k : Kind) → is_row (grouped k) ≡ false
grouped_one kind_is.Literal = refl
grouped_one kind_is.TypedLiteral = refl
grouped_one kind_is.Void = refl
grouped_one kind_is.Broken = refl
grouped_one _ = refl

counted_kind : (g : Around) (o : Option Tree) → list_kind (maybe_typed g o) ≡ counting o
counted_kind g None = refl
counted_kind g (Some e) = refl

module _ (g : Around) (v : Values) where
  word_one : (at : Span) (w : Word) → IsOne (word_read at w)
  word_one at (word_is.Uint w) = (refl, refl)
  word_one at (word_is.Int w) = (refl, refl)
  word_one at (word_is.Bitfield n) = (refl, refl)
  word_one at word_is.Bytes = (refl, refl)
  word_one at word_is.Void = (refl, refl)
  word_one at (word_is.Unit n) = (refl, refl)
  word_one at word_is.Decoder = (refl, refl)
  word_one at _ = (refl, refl)

  constant_one : (at : Span) (n : ℕ) (w : Word) (x : Expr) → IsOne (constant_read v at n w x)
  constant_one at n word_is.Bytes x = (refl, refl)
  constant_one at n word_is.Regex x = (refl, refl)
  constant_one at n word_is.Unknown x = (refl, refl)
  constant_one at n _ x = (refl, refl)

  constant_type_one : (at : Span) (n : ℕ) (t : Ty) (x : Expr) → IsOne (constant_of_type v at n t x)
  constant_type_one at n (word w) x = constant_one at n w x
  constant_type_one at n (made k ts) x = (refl, refl)

  op_one : (at : Span) (op : LeafOp) (t : Ty) (x : Expr) → IsOne (named_op v at op t x)
  op_one at (leaf_is.Constant n) t x = constant_type_one at n t x
  op_one at (leaf_is.Nothing name) t x = (refl, refl)
  op_one at (leaf_is.TypeName w) t x = (refl, refl)
  op_one at _ t x = (refl, refl)

  named_one : (at : Span) (x : Expr) → IsOne (named_read v at x)
  named_one at (leaf h) = op_one at h.op h.ty (leaf h)
  named_one at _ = (refl, refl)

  unknown_one : (at : Span) (t : Tree) → IsOne (unknown_read g v at t)
  unknown_one at (node (form_is.Type type_is.Path) span (more path none)) = named_one at (g.named (trees.span_of path) path)
  unknown_one at _ = (refl, refl)

  type_one : (at : Span) (t : Tree) (u : Ty) → IsOne (type_read g v at t u)
  type_one at t (word word_is.Unknown) = unknown_one at t
  type_one at t (word w) = word_one at w
  type_one at t (made k ts) = (refl, refl)

  word_called : (at path : Span) (w : Word) (es : List Expr) → IsOne (called_word g at path w es)
  word_called at path (word_is.Unit n) es = (refl, refl)
  word_called at path word_is.Unknown es = (refl, refl)
  word_called at path word_is.Decoder es = (refl, refl)
  word_called at path _ es = (refl, refl)

  op_called : (at path : Span) (op : LeafOp) (es : List Expr) → IsOne (called_op g at path op es)
  op_called at path (leaf_is.TypeName w) es = word_called at path w es
  op_called at path leaf_is.Decoder es = (refl, refl)
  op_called at path (leaf_is.Nothing name) es = (refl, refl)
  op_called at path _ es = (refl, refl)

  called_one : (at path : Span) (x : Expr) (es : List Expr) → IsOne (called g at path x es)
  called_one at path (leaf h) es = op_called at path h.op es
  called_one at path _ es = (refl, refl)

  -- counts
  contained_kind : (at : Span) (counts : Trees) (r : Read) → kind_of r.spec ≡ r.kind → kind_of (contained g at counts r).spec ≡ (contained g at counts r).kind
  contained_kind at none r e = e
  contained_kind at (more (node form_is.Count span (more c none)) ts) r e = contained_kind at ts (container g at span (present c) r) (counted_kind g (present c))
  contained_kind at (more x ts) r e = contained_kind at ts r e

  abbrev Elements : Read → Type 0
  Elements r = is_row r.kind ≡ true → is_full (element_of r.ty) ≡ true

  abbrev IsVector : Read → Type 0
  IsVector r = is_row r.kind ≡ true → is_vector r.ty ≡ true

  contained_vector : (at : Span) (counts : Trees) (r : Read) → IsVector r → IsVector (contained g at counts r)
  contained_vector at none r e = e
  contained_vector at (more (node form_is.Count span (more c none)) ts) r e = contained_vector at ts (container g at span (present c) r) (λ row_. refl)
  contained_vector at (more x ts) r e = contained_vector at ts r e

  base_one : (t : Tree) → IsOne (base_read g v t)
  base_one (node (form_is.Base base_is.Type) at (more t none)) = type_one at t (g.type_in Whole t)
  base_one (node (form_is.Base base_is.Unit) at (more path (more (row ts) none))) = called_one at (trees.span_of path) (g.named (trees.span_of path) path) _
  base_one (node (form_is.Base base_is.Group) at (more inner (more (row counts) (more (row ts) none)))) =
      let r = base_read g v inner in
      (ap grouped (contained_kind (trees.span_of inner) counts r (base_one inner).0), grouped_one (counted_read g v inner counts).kind)
  base_one (node (form_is.Base (base_is.Bytes bytes)) at none) = (refl, refl)
  base_one (node (form_is.Base (base_is.Regex text)) at none) = (refl, refl)
  base_one (node (form_is.Base (base_is.Number w)) at (more n none)) = (refl, refl)
  base_one _ = (refl, refl)

  -- The kind of what is read, and its elements.
  pub counted_kinds : (t : Tree) (counts : Trees) → kind_of (counted_read g v t counts).spec ≡ (counted_read g v t counts).kind
  counted_kinds t counts = contained_kind (trees.span_of t) counts (base_read g v t) (base_one t).0

  pub counted_elements : (t : Tree) (counts : Trees) → is_full (counted_read g v t counts).ty ≡ true → Elements (counted_read g v t counts)
  counted_elements t counts full row_ =
      let r = counted_read g v t counts in
      elements_full r.ty (contained_vector (trees.span_of t) counts (base_read g v t) (λ h. never (sym (base_one t).1 ∙ h)) row_) full

  -- what has brackets is a row
  counted_row : (o : Option Tree) → is_row (counting o) ≡ true
  counted_row None = refl
  counted_row (Some t) = refl

  contained_row : (at : Span) (counts : Trees) (r : Read) → is_row r.kind ≡ true → is_row (contained g at counts r).kind ≡ true
  contained_row at none r e = e
  contained_row at (more (node form_is.Count span (more c none)) ts) r e = contained_row at ts (container g at span (present c) r) (counted_row (present c))
  contained_row at (more x ts) r e = contained_row at ts r e

  pub counted_rows : (t : Tree) (counts : Trees) → are_of group_is.Counts counts ≡ true → are_formed counts ≡ true → is_some_tree counts ≡ true → is_row (counted_read g v t counts).kind ≡ true
  counted_rows t none of h some = never some
  counted_rows t (more (node form_is.Count span (more c none)) ts) of h some =
      let at = trees.span_of t in
      contained_row at ts (container g at span (present c) (base_read g v t)) (counted_row (present c))
  counted_rows t (more (node form_is.Count span none) ts) of h some = never (and_parts (is_formed (node form_is.Count span none)) (are_formed ts) h).0
  counted_rows t (more (node form_is.Count span (more c (more y z))) ts) of h some =
      no_first (stands_as (stands.Optional group_is.Expressions) c) (are_formed (more c (more y z))) (and_parts (is_formed (node form_is.Count span (more c (more y z)))) (are_formed ts) h).0
  counted_rows t (more (node _ span xs) ts) of h some = never of
  counted_rows t (more absent ts) of h some = never of
  counted_rows t (more (row xs) ts) of h some = never of
