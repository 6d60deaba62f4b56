-- What is read is of the kind by which its attributes were typed.
use Rattle.std.specs.Prelude.{ℕ, List, Option, Some, None}
use Rattle.std.proofs.Common.{◌≡◌, refl, ap}
use Rattle.sp_base.specs.declared.places.Span.{Span}
use Rattle.sp_ast.specs.Trees.{Tree, Trees, absent, row, node, none, more}
use Rattle.sp_ast.specs.Trees as read
use Rattle.sp_ast.specs.declared.forms.Form.TheVariants as form_is
use Rattle.sp_ast.specs.declared.forms.BaseForm.TheVariants as base_is
use Rattle.sp_ast.specs.declared.forms.TypeForm.TheVariants as type_is
use Rattle.sp_types.specs.Types.{Ty, word}
use Rattle.sp_types.specs.declared.words.Word.{Word}
use Rattle.sp_types.specs.declared.words.Word.TheVariants as word_is
use Rattle.sp_typed.specs.declared.words.LeafOp.{LeafOp}
use Rattle.sp_typed.specs.declared.words.LeafOp.TheVariants as leaf_is
use Rattle.sp_typed.specs.Exprs.{Expr, leaf}
use Rattle.sp_type_context.specs.declared.places.Place.TheVariants.{Whole}
use Rattle.sp_type_context.specs.Contexts.{Around}
use Rattle.sp_type_context.specs.Typing.{typed_all}
use Rattle.sp_type_fields.specs.declared.readings.Read.{Read}
use Rattle.sp_type_fields.specs.Roles.{grouped}
use Rattle.sp_type_fields.specs.Values.{Values}
use Rattle.sp_ast.specs.Views.{present}
use Rattle.sp_type_fields.specs.Readings.{constant_read, constant_of_type, named_op, named_read, word_read, unknown_read, type_read, called_word, called_op, called, container, contained, base_read, counted_read}
use Rattle.sp_type_fields.specs.Kinds.{kind_of}

abbrev IsKind : Read → Type 0
IsKind r = kind_of r.spec ≡ r.kind

of_constant : (v : Values) (at : Span) (n : ℕ) (w : Word) (e : Expr) → IsKind (constant_read v at n w e)
of_constant v at n word_is.Bytes e = refl
of_constant v at n word_is.Regex e = refl
of_constant v at n word_is.Unknown e = refl
of_constant v at n _ e = refl

of_constant_type : (v : Values) (at : Span) (n : ℕ) (t : Ty) (e : Expr) → IsKind (constant_of_type v at n t e)
of_constant_type v at n (word w) e = of_constant v at n w e
of_constant_type v at n _ e = refl

of_named_op : (v : Values) (at : Span) (op : LeafOp) (t : Ty) (e : Expr) → IsKind (named_op v at op t e)
of_named_op v at (leaf_is.Constant n) t e = of_constant_type v at n t e
of_named_op v at (leaf_is.Nothing name) t e = refl
of_named_op v at (leaf_is.TypeName w) t e = refl
of_named_op v at _ t e = refl

of_named : (v : Values) (at : Span) (e : Expr) → IsKind (named_read v at e)
of_named v at (leaf h) = of_named_op v at h.op h.ty (leaf h)
of_named v at _ = refl

of_word : (at : Span) (w : Word) → IsKind (word_read at w)
of_word at (word_is.Uint w) = refl
of_word at (word_is.Int w) = refl
of_word at (word_is.Bitfield n) = refl
of_word at word_is.Bytes = refl
of_word at word_is.Void = refl
of_word at (word_is.Unit n) = refl
of_word at word_is.Decoder = refl
of_word at _ = refl

of_unknown : (g : Around) (v : Values) (at : Span) (t : Tree) → IsKind (unknown_read g v at t)
of_unknown g v at (node (form_is.Type type_is.Path) span (more path none)) = of_named v at (g.named (read.span_of path) path)
of_unknown g v at _ = refl

of_type : (g : Around) (v : Values) (at : Span) (t : Tree) (ty : Ty) → IsKind (type_read g v at t ty)
of_type g v at t (word word_is.Unknown) = of_unknown g v at t
of_type g v at t (word w) = of_word at w
of_type g v at t _ = refl

of_called_word : (g : Around) (at path : Span) (w : Word) (es : List Expr) → IsKind (called_word g at path w es)
of_called_word g at path (word_is.Unit n) es = refl
of_called_word g at path word_is.Unknown es = refl
of_called_word g at path word_is.Decoder es = refl
of_called_word g at path _ es = refl

of_called_op : (g : Around) (at path : Span) (op : LeafOp) (es : List Expr) → IsKind (called_op g at path op es)
of_called_op g at path (leaf_is.TypeName w) es = of_called_word g at path w es
of_called_op g at path leaf_is.Decoder es = refl
of_called_op g at path (leaf_is.Nothing name) es = refl
of_called_op g at path _ es = refl

of_called : (g : Around) (at path : Span) (e : Expr) (es : List Expr) → IsKind (called g at path e es)
of_called g at path (leaf h) es = of_called_op g at path h.op es
of_called g at path _ es = refl

of_container : (g : Around) (at last : Span) (count : Option Tree) (r : Read) → IsKind (container g at last count r)
of_container g at last None r = refl
of_container g at last (Some n) r = refl

of_contained : (g : Around) (at : Span) (ts : Trees) (r : Read) → IsKind r → IsKind (contained g at ts r)
of_contained g at none r h = h
of_contained g at (more (node form_is.Count span (more count none)) ts) r h =
    of_contained g at ts (container g at span (present count) r) (of_container g at span (present count) r)
of_contained g at (more t ts) r h = of_contained g at ts r h

of_base : (g : Around) (v : Values) (t : Tree) → IsKind (base_read g v t)
of_base g v (node (form_is.Base base_is.Type) at (more t none)) = of_type g v at t (g.type_in Whole t)
of_base g v (node (form_is.Base base_is.Unit) at (more path (more (row ts) none))) =
    of_called g at (read.span_of path) (g.named (read.span_of path) path) (typed_all g ts)
of_base g v (node (form_is.Base base_is.Group) at (more inner (more (row counts) (more (row ts) none)))) =
    ap grouped (of_contained g (read.span_of inner) counts (base_read g v inner) (of_base g v inner))
of_base g v (node (form_is.Base (base_is.Bytes bytes)) at none) = refl
of_base g v (node (form_is.Base (base_is.Regex text)) at none) = refl
of_base g v (node (form_is.Base (base_is.Number w)) at (more n none)) = refl
of_base g v t = refl

pub of_counted : (g : Around) (v : Values) (base : Tree) (counts : Trees) → IsKind (counted_read g v base counts)
of_counted g v base counts = of_contained g (read.span_of base) counts (base_read g v base) (of_base g v base)
