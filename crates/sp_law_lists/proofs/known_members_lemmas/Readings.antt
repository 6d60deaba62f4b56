-- What can be read has a full type, and one of values where it isn't void.
use Rattle.std.specs.Prelude.{ℕ, true, false, not}
use Rattle.std.proofs.Common.{◌≡◌, refl, sym, List}
use Rattle.std.proofs.lemmas.Bool.{and_parts, not-true}
use Rattle.sp_base.specs.declared.places.Span.{Span}
use Rattle.sp_words.specs.declared.words.IntWord.{IntWord}
use Rattle.sp_words.specs.declared.words.IntWord.TheVariants as int
use Rattle.sp_ast.specs.Trees.{Tree, Trees, node, none, more}
use Rattle.sp_ast.specs.Trees as trees
use Rattle.sp_ast.specs.declared.forms.Form.TheVariants as form_is
use Rattle.sp_ast.specs.declared.forms.TypeForm.TheVariants as type_is
use Rattle.sp_types.specs.declared.words.Word.{Word}
use Rattle.sp_types.specs.declared.words.Word.TheVariants as word_is
use Rattle.sp_types.specs.Types.{Ty, word, made}
use Rattle.sp_typed.specs.declared.words.LeafOp.{LeafOp}
use Rattle.sp_typed.specs.declared.words.LeafOp.TheVariants as leaf_is
use Rattle.sp_typed.specs.Exprs.{Expr, leaf}
use Rattle.sp_type_context.specs.Contexts.{Around}
use Rattle.sp_types.specs.Integers.{int_word}
use Rattle.sp_type_fields.specs.declared.readings.Read.{Read}
use Rattle.sp_type_fields.specs.Values.{Values}
use Rattle.sp_ast.specs.Views.{present}
use Rattle.sp_type_fields.specs.Readings.{constant_read, constant_of_type, named_op, named_read, word_read, unknown_read, type_read, called_word, called_op, called, container, contained}
use Rattle.sp_type_fields.specs.Attributes.{maybe_typed}
use Rattle.sp_rule_bodies.specs.Known.{Known}
use Rattle.sp_rule_lists.specs.Lists.{option_tests}
use Rattle.sp_rule_lists.specs.Fields.{reads_void, spec_tests, amount_tests}
use Rattle.sp_law_lists.specs.known_types.Full.{has_value, is_full}
use Rattle.sp_law_lists.specs.known_types.Clear.{none_hold}
use Rattle.sp_law_lists.proofs.known_types_lemmas.Full.{never, vector_full}
use Rattle.sp_law_lists.proofs.whole_list_lemmas.None.{none_parts}
use Rattle.sp_law_lists.specs.known_members.Given.{is_read}

abbrev pub IsSound : Read → Type 0
IsSound r = is_read r.spec ≡ true → is_full r.ty ≡ true

-- what reads no void is of a type of values
abbrev pub IsValued : Read → Type 0
IsValued r = reads_void r.spec ≡ false → has_value r.ty ≡ true

pub integer_full : (w : IntWord) → is_full (word (int_word w)) ≡ true
integer_full int.Uint8 = refl
integer_full int.Uint16 = refl
integer_full int.Uint32 = refl
integer_full int.Uint64 = refl
integer_full int.Int8 = refl
integer_full int.Int16 = refl
integer_full int.Int32 = refl
integer_full int.Int64 = refl

pub integer_valued : (w : IntWord) → has_value (word (int_word w)) ≡ true
integer_valued int.Uint8 = refl
integer_valued int.Uint16 = refl
integer_valued int.Uint32 = refl
integer_valued int.Uint64 = refl
integer_valued int.Int8 = refl
integer_valued int.Int16 = refl
integer_valued int.Int32 = refl
integer_valued int.Int64 = refl

module _ (g : Around) (v : Values) where
  word_sound : (at : Span) (w : Word) → IsSound (word_read at w)
  word_sound at (word_is.Uint w) e = refl
  word_sound at (word_is.Int w) e = refl
  word_sound at (word_is.Bitfield n) e = refl
  word_sound at word_is.Bytes e = refl
  word_sound at word_is.Void e = refl
  word_sound at (word_is.Unit n) e = refl
  word_sound at word_is.Decoder e = never e
  word_sound at _ e = never e

  constant_sound : (at : Span) (n : ℕ) (w : Word) (x : Expr) → IsSound (constant_read v at n w x)
  constant_sound at n word_is.Bytes x e = refl
  constant_sound at n word_is.Regex x e = refl
  constant_sound at n word_is.Unknown x e = never e
  constant_sound at n _ x e = never e

  constant_type_sound : (at : Span) (n : ℕ) (t : Ty) (x : Expr) → IsSound (constant_of_type v at n t x)
  constant_type_sound at n (word w) x e = constant_sound at n w x e
  constant_type_sound at n (made k ts) x e = never e

  op_sound : (at : Span) (op : LeafOp) (t : Ty) (x : Expr) → IsSound (named_op v at op t x)
  op_sound at (leaf_is.Constant n) t x e = constant_type_sound at n t x e
  op_sound at (leaf_is.Nothing name) t x e = never e
  op_sound at (leaf_is.TypeName w) t x e = never e
  op_sound at _ t x e = never e

  named_sound : (at : Span) (x : Expr) → IsSound (named_read v at x)
  named_sound at (leaf h) e = op_sound at h.op h.ty (leaf h) e
  named_sound at _ e = never e

  unknown_sound : (at : Span) (t : Tree) → IsSound (unknown_read g v at t)
  unknown_sound at (node (form_is.Type type_is.Path) span (more path none)) e = named_sound at (g.named (trees.span_of path) path) e
  unknown_sound at _ e = never e

  -- a type
  pub type_sound : (at : Span) (t : Tree) (u : Ty) → IsSound (type_read g v at t u)
  type_sound at t (word word_is.Unknown) e = unknown_sound at t e
  type_sound at t (word w) e = word_sound at w e
  type_sound at t (made k ts) e = never e

  -- a unit with arguments
  word_called : (at path : Span) (w : Word) (es : List Expr) → IsSound (called_word g at path w es)
  word_called at path (word_is.Unit n) es e = refl
  word_called at path word_is.Unknown es e = never e
  word_called at path word_is.Decoder es e = never e
  word_called at path _ es e = never e

  op_called : (at path : Span) (op : LeafOp) (es : List Expr) → IsSound (called_op g at path op es)
  op_called at path (leaf_is.TypeName w) es e = word_called at path w es e
  op_called at path leaf_is.Decoder es e = never e
  op_called at path (leaf_is.Nothing name) es e = never e
  op_called at path _ es e = never e

  pub called_sound : (at path : Span) (x : Expr) (es : List Expr) → IsSound (called g at path x es)
  called_sound at path (leaf h) es e = op_called at path h.op es e
  called_sound at path _ es e = never e

  -- types of values
  word_valued : (at : Span) (w : Word) → IsValued (word_read at w)
  word_valued at (word_is.Uint w) e = refl
  word_valued at (word_is.Int w) e = refl
  word_valued at (word_is.Bitfield n) e = refl
  word_valued at word_is.Bytes e = refl
  word_valued at word_is.Void e = never (sym e)
  word_valued at (word_is.Unit n) e = refl
  word_valued at word_is.Decoder e = refl
  word_valued at _ e = refl

  constant_valued : (at : Span) (n : ℕ) (w : Word) (x : Expr) → IsValued (constant_read v at n w x)
  constant_valued at n word_is.Bytes x e = refl
  constant_valued at n word_is.Regex x e = refl
  constant_valued at n word_is.Unknown x e = refl
  constant_valued at n _ x e = refl

  constant_type_valued : (at : Span) (n : ℕ) (t : Ty) (x : Expr) → IsValued (constant_of_type v at n t x)
  constant_type_valued at n (word w) x e = constant_valued at n w x e
  constant_type_valued at n (made k ts) x e = refl

  op_valued : (at : Span) (op : LeafOp) (t : Ty) (x : Expr) → IsValued (named_op v at op t x)
  op_valued at (leaf_is.Constant n) t x e = constant_type_valued at n t x e
  op_valued at (leaf_is.Nothing name) t x e = refl
  op_valued at (leaf_is.TypeName w) t x e = refl
  op_valued at _ t x e = refl

  named_valued : (at : Span) (x : Expr) → IsValued (named_read v at x)
  named_valued at (leaf h) e = op_valued at h.op h.ty (leaf h) e
  named_valued at _ e = refl

  unknown_valued : (at : Span) (t : Tree) → IsValued (unknown_read g v at t)
  unknown_valued at (node (form_is.Type type_is.Path) span (more path none)) e = named_valued at (g.named (trees.span_of path) path) e
  unknown_valued at _ e = refl

  pub type_valued : (at : Span) (t : Tree) (u : Ty) → IsValued (type_read g v at t u)
  type_valued at t (word word_is.Unknown) e = unknown_valued at t e
  type_valued at t (word w) e = word_valued at w e
  type_valued at t (made k ts) e = refl

  word_called_valued : (at path : Span) (w : Word) (es : List Expr) → IsValued (called_word g at path w es)
  word_called_valued at path (word_is.Unit n) es e = refl
  word_called_valued at path word_is.Unknown es e = refl
  word_called_valued at path word_is.Decoder es e = refl
  word_called_valued at path _ es e = refl

  op_called_valued : (at path : Span) (op : LeafOp) (es : List Expr) → IsValued (called_op g at path op es)
  op_called_valued at path (leaf_is.TypeName w) es e = word_called_valued at path w es e
  op_called_valued at path leaf_is.Decoder es e = refl
  op_called_valued at path (leaf_is.Nothing name) es e = refl
  op_called_valued at path _ es e = refl

  pub called_valued : (at path : Span) (x : Expr) (es : List Expr) → IsValued (called g at path x es)
  called_valued at path (leaf h) es e = op_called_valued at path h.op es e
  called_valued at path _ es e = refl

  pub contained_valued : (at : Span) (counts : Trees) (r : Read) → IsValued r → IsValued (contained g at counts r)
  contained_valued at none r valued = valued
  contained_valued at (more (node form_is.Count span (more count none)) ts) r valued = contained_valued at ts (container g at span (present count) r) (λ e. refl)
  contained_valued at (more t ts) r valued = contained_valued at ts r valued

  -- a container of elements of a full type, of which none is void
  module _ (k : Known) (m : ℕ) where
    element_tests : (at : Span) (counts : Trees) (r : Read) → none_hold (spec_tests k m (contained g at counts r).spec) ≡ true → none_hold (spec_tests k m r.spec) ≡ true
    element_tests at none r tests = tests
    element_tests at (more (node form_is.Count span (more count none)) ts) r tests =
        (none_parts (spec_tests k m r.spec) _ (element_tests at ts (container g at span (present count) r) tests)).0
    element_tests at (more t ts) r tests = element_tests at ts r tests

    pub contained_full : (at : Span) (counts : Trees) (r : Read) → none_hold (spec_tests k m (contained g at counts r).spec) ≡ true → IsValued r → is_full r.ty ≡ true → is_full (contained g at counts r).ty ≡ true
    contained_full at none r tests valued full = full
    contained_full at (more (node form_is.Count span (more count none)) ts) r tests valued full =
        let x = container g at span (present count) r in
        let own = none_parts (spec_tests k m r.spec) _ (element_tests at ts x tests) in
        let no_void = and_parts (not (reads_void r.spec)) (none_hold (option_tests (amount_tests k m) (maybe_typed g (present count)))) own.1 in
        contained_full at ts x tests (λ e. refl) (vector_full r.ty (valued (not-true (reads_void r.spec) no_void.0)) full)
    contained_full at (more t ts) r tests valued full = contained_full at ts r tests valued full
