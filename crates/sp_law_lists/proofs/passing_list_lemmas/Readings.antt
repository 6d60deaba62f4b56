-- What is read where all is built: integers, in a byte order.
use Rattle.std.specs.Prelude.{true, false, not}
use Rattle.std.proofs.Common.{ℕ, ◌≡◌, refl, sym, ap, subst, ◌∙◌, List, [], ◌∷◌, Option, Some, None}
use Rattle.std.proofs.lemmas.Bool.{and_parts, not-true}
use Rattle.sp_base.specs.declared.places.Span.{Span}
use Rattle.sp_words.specs.declared.words.AttributeName.{AttributeName}
use Rattle.sp_words.specs.declared.words.AttributeName.TheVariants as name_is
use Rattle.sp_ast.specs.Trees.{Tree, Trees, absent, row, node, none, more}
use Rattle.sp_ast.specs.Trees as trees
use Rattle.sp_ast.specs.declared.forms.Form.{Form}
use Rattle.sp_ast.specs.declared.forms.Form.TheVariants as form_is
use Rattle.sp_ast.specs.declared.forms.BaseForm.TheVariants as base_is
use Rattle.sp_ast.specs.declared.forms.TypeForm.TheVariants as type_is
use Rattle.sp_types.specs.declared.words.Word.{Word}
use Rattle.sp_types.specs.declared.words.Word.TheVariants as word_is
use Rattle.sp_types.specs.Types.{Ty, word, made}
use Rattle.sp_typed.specs.declared.words.LeafOp.{LeafOp}
use Rattle.sp_typed.specs.declared.words.LeafOp.TheVariants as leaf_is
use Rattle.sp_typed.specs.Exprs.{Expr, leaf}
use Rattle.sp_typed_units.specs.declared.attributes.Attribute.{Attribute}
use Rattle.sp_type_context.specs.declared.places.Place.TheVariants.{Whole}
use Rattle.sp_type_context.specs.Contexts.{Around}
use Rattle.sp_type_fields.specs.declared.attributes.Site.{Site}
use Rattle.sp_type_fields.specs.declared.readings.Read.{Read}
use Rattle.sp_type_fields.specs.Values.{Values}
use Rattle.sp_type_fields.specs.Roles.{role_of}
use Rattle.sp_type_context.specs.Typing.{typed_all}
use Rattle.sp_type_fields.specs.Attributes.{attribute_by, attributes, if_convert, conversion_of, or_next, conversion, converted}
use Rattle.sp_ast.specs.Views.{present}
use Rattle.sp_type_fields.specs.Readings.{word_read, constant_read, constant_of_type, named_op, named_read, unknown_read, type_read, called_word, called_op, called, container, contained, base_read, counted_read}
use Rattle.sp_unbuilt.specs.Fields.{reads_integer}
use Rattle.sp_unbuilt.specs.Constructs.{is_late_attribute}
use Rattle.sp_meaning.specs.Integers.{IntegerForm, only_orders, unless_other, integer_spec, where_known}
use Rattle.sp_law_lists.proofs.known_types_lemmas.Full.{never}
use Rattle.sp_law_lists.proofs.known_members_lemmas.Built.{nothing}
use Rattle.sp_law_lists.proofs.passing_list_lemmas.BuiltTrees.{IsBuilt, AreBuilt, built_passes, at_tree}
use Rattle.sp_law_lists.specs.fit_list.Units.{is_read}

-- parts of what is built
parts_built : (form : Form) (span : Span) (ts : Trees) → IsBuilt (node form span ts) → AreBuilt ts
parts_built form span ts h = (built_passes 0).parts form span ts h

pub first_built : (t : Tree) (ts : Trees) → AreBuilt (more t ts) → IsBuilt t
first_built t ts h = (built_passes 0).first t ts h

pub rest_built : (t : Tree) (ts : Trees) → AreBuilt (more t ts) → AreBuilt ts
rest_built t ts h = (built_passes 0).rest t ts h

pub row_built : (ts : Trees) → IsBuilt (row ts) → AreBuilt ts
row_built ts h = (built_passes 0).in_row ts h

-- attributes that are built are byte orders
only_order : (name : AttributeName) → is_late_attribute name ≡ false → name ≡ name_is.ByteOrder
only_order name_is.ByteOrder e = refl
only_order _ e = never (sym e)

attribute_order : (name : AttributeName) (span : Span) (ts : Trees) → IsBuilt (node (form_is.Attribute name) span ts) → name ≡ name_is.ByteOrder
attribute_order name span ts h = only_order name (not-true (is_late_attribute name) (and_parts (not (is_late_attribute name)) (nothing []) (at_tree (form_is.Attribute name) span ts h)).0)

-- where there are byte orders alone
pub record Ordered (o : Option ℕ) (xs : List Attribute) : Type 0 where
  pub order : Option ℕ
  pub is : only_orders o xs ≡ Some order

one_more : (a : Attribute) (xs : List Attribute) → a.name ≡ name_is.ByteOrder → ((o : Option ℕ) → Ordered o xs) → (o : Option ℕ) → Ordered o (a ∷ xs)
one_more a xs named rest o =
    let r = rest a.number in
    record { order = r.order; is = ap (λ n. unless_other n (only_orders a.number xs)) named ∙ r.is }

no_convert : (name : AttributeName) (x : Option Tree) → name ≡ name_is.ByteOrder → if_convert name x ≡ None
no_convert name x e = ap (λ n. if_convert n x) e

module _ (g : Around) (v : Values) where
  pub orders_alone : (s : Site) (ts : Trees) → AreBuilt ts → (o : Option ℕ) → Ordered o (attributes g v s ts)
  orders_alone s none h o = record { order = o; is = refl }
  orders_alone s (more (node (form_is.Attribute name) span (more value none)) ts) h o =
      let a = attribute_by g v s (role_of s.kind name) span name (present value) in
      let first = first_built (node (form_is.Attribute name) span (more value none)) ts h in
      one_more a (attributes g v s ts) (attribute_order name span (more value none) first) (λ p. orders_alone s ts (rest_built (node (form_is.Attribute name) span (more value none)) ts h) p) o
  orders_alone s (more (node (form_is.Attribute name) span none) ts) h o = orders_alone s ts (rest_built (node (form_is.Attribute name) span none) ts h) o
  orders_alone s (more (node (form_is.Attribute name) span (more value (more x xs))) ts) h o = orders_alone s ts (rest_built (node (form_is.Attribute name) span (more value (more x xs))) ts h) o
  orders_alone s (more (node form span us) ts) h o = orders_alone s ts (rest_built (node form span us) ts h) o
  orders_alone s (more absent ts) h o = orders_alone s ts (rest_built absent ts h) o
  orders_alone s (more (row us) ts) h o = orders_alone s ts (rest_built (row us) ts h) o

  pub no_conversion : (ts : Trees) → AreBuilt ts → conversion ts ≡ None
  no_conversion none h = refl
  no_conversion (more t ts) h = ap (λ c. or_next c (conversion ts)) (none_of t (first_built t ts h)) ∙ no_conversion ts (rest_built t ts h)
    where
      none_of : (t : Tree) → IsBuilt t → conversion_of t ≡ None
      none_of (node (form_is.Attribute name) span (more value none)) b = no_convert name (present value) (attribute_order name span (more value none) b)
      none_of (node (form_is.Attribute name) span none) b = refl
      none_of (node (form_is.Attribute name) span (more value (more x xs))) b = refl
      none_of (node form span us) b = refl
      none_of absent b = refl
      none_of (row us) b = refl

  -- an integer, in each byte order
  abbrev pub IsInteger : Read → Type 0
  IsInteger r = (o : Option ℕ) → (form : IntegerForm) × (integer_spec o r.spec ≡ Some form) × (is_read form.signed r.ty ≡ true)

  abbrev Reads : Read → Type 0
  Reads r = reads_integer r.spec ≡ true → IsInteger r

  word_reads : (at : Span) (w : Word) → Reads (word_read at w)
  word_reads at (word_is.Uint w) e = λ o. (_, refl, refl)
  word_reads at (word_is.Int w) e = λ o. (_, refl, refl)
  word_reads at (word_is.Bitfield n) e = never e
  word_reads at word_is.Bytes e = never e
  word_reads at word_is.Void e = never e
  word_reads at (word_is.Unit n) e = never e
  word_reads at word_is.Decoder e = never e
  word_reads at _ e = never e

  constant_reads : (at : Span) (n : ℕ) (w : Word) (x : Expr) → Reads (constant_read v at n w x)
  constant_reads at n word_is.Bytes x e = never e
  constant_reads at n word_is.Regex x e = never e
  constant_reads at n word_is.Unknown x e = never e
  constant_reads at n _ x e = never e

  constant_type_reads : (at : Span) (n : ℕ) (t : Ty) (x : Expr) → Reads (constant_of_type v at n t x)
  constant_type_reads at n (word w) x e = constant_reads at n w x e
  constant_type_reads at n (made k ts) x e = never e

  op_reads : (at : Span) (op : LeafOp) (t : Ty) (x : Expr) → Reads (named_op v at op t x)
  op_reads at (leaf_is.Constant n) t x e = constant_type_reads at n t x e
  op_reads at (leaf_is.Nothing name) t x e = never e
  op_reads at (leaf_is.TypeName w) t x e = never e
  op_reads at _ t x e = never e

  named_reads : (at : Span) (x : Expr) → Reads (named_read v at x)
  named_reads at (leaf h) e = op_reads at h.op h.ty (leaf h) e
  named_reads at _ e = never e

  unknown_reads : (at : Span) (t : Tree) → Reads (unknown_read g v at t)
  unknown_reads at (node (form_is.Type type_is.Path) span (more path none)) e = named_reads at (g.named (trees.span_of path) path) e
  unknown_reads at _ e = never e

  type_reads : (at : Span) (t : Tree) (u : Ty) → Reads (type_read g v at t u)
  type_reads at t (word word_is.Unknown) e = unknown_reads at t e
  type_reads at t (word w) e = word_reads at w e
  type_reads at t (made k ts) e = never e

  word_called : (at path : Span) (w : Word) (es : List Expr) → Reads (called_word g at path w es)
  word_called at path (word_is.Unit n) es e = never e
  word_called at path word_is.Unknown es e = never e
  word_called at path word_is.Decoder es e = never e
  word_called at path _ es e = never e

  op_called : (at path : Span) (op : LeafOp) (es : List Expr) → Reads (called_op g at path op es)
  op_called at path (leaf_is.TypeName w) es e = word_called at path w es e
  op_called at path leaf_is.Decoder es e = never e
  op_called at path (leaf_is.Nothing name) es e = never e
  op_called at path _ es e = never e

  called_reads : (at path : Span) (x : Expr) (es : List Expr) → Reads (called g at path x es)
  called_reads at path (leaf h) es e = op_called at path h.op es e
  called_reads at path _ es e = never e

  -- no container is one
  no_integer : (at : Span) (ts : Trees) (r : Read) → reads_integer r.spec ≡ false → reads_integer (contained g at ts r).spec ≡ false
  no_integer at none r e = e
  no_integer at (more (node form_is.Count span (more count none)) ts) r e = no_integer at ts (container g at span (present count) r) refl
  no_integer at (more (node form_is.Count span none) ts) r e = no_integer at ts r e
  no_integer at (more (node form_is.Count span (more count (more x xs))) ts) r e = no_integer at ts r e
  no_integer at (more (node form span us) ts) r e = no_integer at ts r e
  no_integer at (more absent ts) r e = no_integer at ts r e
  no_integer at (more (row us) ts) r e = no_integer at ts r e

  contained_reads : (at : Span) (ts : Trees) (r : Read) → Reads r → Reads (contained g at ts r)
  contained_reads at none r h e = h e
  contained_reads at (more (node form_is.Count span (more count none)) ts) r h e = never (sym (no_integer at ts (container g at span (present count) r) refl) ∙ e)
  contained_reads at (more (node form_is.Count span none) ts) r h e = contained_reads at ts r h e
  contained_reads at (more (node form_is.Count span (more count (more x xs))) ts) r h e = contained_reads at ts r h e
  contained_reads at (more (node form span us) ts) r h e = contained_reads at ts r h e
  contained_reads at (more absent ts) r h e = contained_reads at ts r h e
  contained_reads at (more (row us) ts) r h e = contained_reads at ts r h e

  -- a base, and one with counts behind it
  base_reads : (x : Tree) → IsBuilt x → Reads (base_read g v x)
  base_reads (node (form_is.Base base_is.Type) at (more t none)) b e = type_reads at t (g.type_in Whole t) e
  base_reads (node (form_is.Base base_is.Unit) at (more path (more (row ts) none))) b e = called_reads at (trees.span_of path) (g.named (trees.span_of path) path) (typed_all g ts) e
  base_reads (node (form_is.Base base_is.Group) at (more inner (more (row counts) (more (row ts) none)))) b e =
      let parts = parts_built (form_is.Base base_is.Group) at (more inner (more (row counts) (more (row ts) none))) b in
      let behind = rest_built (row counts) (more (row ts) none) (rest_built inner (more (row counts) (more (row ts) none)) parts) in
      let own = row_built ts (first_built (row ts) none behind) in
      let r = contained g (trees.span_of inner) counts (base_read g v inner) in
      let h = contained_reads (trees.span_of inner) counts (base_read g v inner) (base_reads inner (first_built inner (more (row counts) (more (row ts) none)) parts)) e in
      let stored = converted g r.ty (conversion ts) in
      let site : Site = record { kind = r.kind; read = r.ty; stored = stored; of_field = false } in
      let same : stored ≡ r.ty = ap (converted g r.ty) (no_conversion ts own) in
      λ o. (
      let order = orders_alone site ts own o in
      let w = h order.order in
      (w.0, ap (λ x. where_known x (λ p. integer_spec p r.spec)) order.is ∙ w.1, subst (λ u. is_read w.0.signed u ≡ true) (sym same) w.2)
      )
  base_reads (node (form_is.Base (base_is.Bytes bytes)) at none) b e = never e
  base_reads (node (form_is.Base (base_is.Regex text)) at none) b e = never e
  base_reads (node (form_is.Base (base_is.Number w)) at (more n none)) b e = never e
  base_reads _ b e = never e

  pub counted_reads : (base : Tree) (counts : Trees) → IsBuilt base → Reads (counted_read g v base counts)
  counted_reads base counts b = contained_reads (trees.span_of base) counts (base_read g v base) (base_reads base b)
