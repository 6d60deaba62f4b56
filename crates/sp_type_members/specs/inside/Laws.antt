-- The types of members wait for what their conversions name, and for nothing else.
use Rattle.std.proofs.Common.{ℕ, ◌≡◌, ◌+◌, ◌<◌, ◌≤◌, Bool, true, false, refl, sym, ap, subst, ◌∙◌, List, length, Option, Some, None, slice_get, arith}
use Rattle.std.specs.Prelude.{if◌then◌else◌, nat_lt}
use Rattle.std.proofs.lemmas.Bool.Decides.{nat_tests}
use Rattle.std.proofs.lemmas.Option.{slice_get_past}
use Rattle.sp_base.specs.declared.places.Span.{Span}
use Rattle.sp_ast.specs.Trees.{Tree, Trees, absent, row, node, none, more}
use Rattle.sp_ast.specs.Trees as read
use Rattle.sp_ast.specs.declared.forms.Form.TheVariants as form_is
use Rattle.sp_ast.specs.declared.forms.BaseForm.TheVariants as base_is
use Rattle.sp_ast.specs.declared.forms.TypeForm.TheVariants as type_is
use Rattle.sp_types.specs.Types.{Ty, word}
use Rattle.sp_types.specs.declared.words.Word.{Word}
use Rattle.sp_types.specs.declared.words.Word.TheVariants as word_is
use Rattle.sp_typed.specs.declared.words.LeafOp.{LeafOp}
use Rattle.sp_typed.specs.declared.words.LeafOp.TheVariants as leaf_is
use Rattle.sp_typed.specs.declared.words.OneOp.{OneOp}
use Rattle.sp_typed.specs.declared.words.OneOp.TheVariants as one_is
use Rattle.sp_typed.specs.declared.words.Standing.TheVariants as standing_is
use Rattle.sp_typed.specs.Exprs.{Expr, Exprs, leaf, one, two, three, many}
use Rattle.sp_typed.specs.Exprs as typed_is
use Rattle.sp_type_context.specs.declared.places.Place.TheVariants as place_is
use Rattle.sp_type_context.specs.Contexts.{Around}
use Rattle.sp_type_operands.specs.Operands.{unknown}
use Rattle.sp_type_operands.specs.Literals.{seen}
use Rattle.sp_type_context.specs.Typing.{typed, typed_all}
use Rattle.sp_type_fields.specs.declared.readings.Read.{Read}
use Rattle.sp_type_fields.specs.Values.{Values}
use Rattle.sp_type_scopes.specs.Decorators.{meant, with_current, with_self}
use Rattle.sp_type_fields.specs.Attributes.{conversion, converted}
use Rattle.sp_ast.specs.Views.{present}
use Rattle.sp_type_fields.specs.Readings.{type_read, unknown_read, called, called_op, called_word, container, contained, vector_of, base_read, counted_read}
use Rattle.sp_solver.specs.declared.attempt.Attempt.{Attempt}
use Rattle.sp_solver.specs.declared.attempt.Attempt.TheVariants.{Done, Waits}
use Rattle.sp_solver.specs.Rounds.{Within, IsFair}
use Rattle.sp_type_modules.specs.Members.{first_member}
use Rattle.sp_type_modules.specs.declared.sources.Source.{Source}
use Rattle.sp_type_modules.specs.declared.sources.Source.TheVariants as source_is
use Rattle.sp_type_modules.specs.declared.sources.Question.{Question}
use Rattle.sp_type_modules.specs.Sources.{questions}
use Rattle.sp_type_members.specs.Opens.{with_members, or_else, unanswered, open_at, open_of, open_member, open_in, open_among, conversion_open, base_open, field_open}
use Rattle.sp_type_fields.specs.Fields.{field_type}
use Rattle.sp_type_members.specs.Tries.{in_unit, source_type, source_open, when_open, nowhere, try_unit, try_asked, tries}
use Rattle.sp_type_members.specs.inside.Kept.{Kept, kept_known, kept_made, kept_then, none_some, some_is}
use Rattle.sp_type_members.specs.inside.Typed.{AreInRow, typed_kept}
use Rattle.sp_type_members.specs.inside.Aligned.{are_in_row}

-- the type of a container is that of its element, and how often it is read
pub contained_type : (g h : Around) (at : Span) (counts : Trees) (r s : Read) → s.ty ≡ r.ty → (contained h at counts s).ty ≡ (contained g at counts r).ty
contained_type g h at none r s e = e
contained_type g h at (more (node form_is.Count span (more count none)) ts) r s e =
    contained_type g h at ts (container g at span (present count) r) (container h at span (present count) s) (ap vector_of e)
contained_type g h at (more t ts) r s e = contained_type g h at ts r s e

-- the type of a unit is told by its name
called_type : (g h : Around) (at path : Span) (c : Expr) (es ds : List Expr) → (called h at path c ds).ty ≡ (called g at path c es).ty
called_type g h at path (leaf l) es ds = by l.op
  where
    word_type : (w : Word) → (called_word h at path w ds).ty ≡ (called_word g at path w es).ty
    word_type (word_is.Unit n) = refl
    word_type word_is.Unknown = refl
    word_type word_is.Decoder = refl
    word_type _ = refl

    by : (op : LeafOp) → (called_op h at path op ds).ty ≡ (called_op g at path op es).ty
    by (leaf_is.TypeName w) = word_type w
    by leaf_is.Decoder = refl
    by (leaf_is.Nothing name) = refl
    by _ = refl
called_type g h at path _ es ds = refl

module _ (list : List Tree) (count : ℕ) (in_row : AreInRow list count) (f g : ℕ → Option Ty) (w : Within f g) (v : Values) where
  abbrev early : Around → Around
  early o = with_members list f o

  abbrev late : Around → Around
  late o = with_members list g o

  unknown_same : (o : Around) (at : Span) (t : Tree) → unknown_read (late o) v at t ≡ unknown_read (early o) v at t
  unknown_same o at (node (form_is.Type type_is.Path) span (more path none)) = refl
  unknown_same o at _ = refl

  type_same : (o : Around) (at : Span) (t : Tree) (u : Ty) → type_read (late o) v at t u ≡ type_read (early o) v at t u
  type_same o at t (word word_is.Unknown) = unknown_same o at t
  type_same o at t _ = refl

  conversion_kept : (o : Around) (t u : Ty) (e : Option Tree) → u ≡ t
      → Kept g (converted (early o) t e) (conversion_open list count f (early o) t e) (converted (late o) u e) (conversion_open list count g (late o) u e)
  conversion_kept o t u e same = subst (λ s. Kept g (converted (early o) t e) (conversion_open list count f (early o) t e) (converted (late o) s e) (conversion_open list count g (late o) s e)) (sym same) (by e)
    where
      by : (e : Option Tree) → Kept g (converted (early o) t e) (conversion_open list count f (early o) t e) (converted (late o) t e) (conversion_open list count g (late o) t e)
      by None = kept_known g t
      by (Some e) =
          kept_made g seen (typed (meant t (early o)) e) (typed (meant t (late o)) e) (open_in list count f (typed (meant t (early o)) e)) (open_in list count g (typed (meant t (late o)) e)) (typed_kept list count in_row f g w (with_current t standing_is.Meant o) e)

  -- what stands in front of counts and attributes, and what these make of it
  behind_kept : (o : Around) (inner : Tree) (counts : Trees) (e : Option Tree)
      → Kept g (base_read (early o) v inner).ty (base_open list count f (early o) v inner) (base_read (late o) v inner).ty (base_open list count g (late o) v inner)
      → Kept g (converted (early o) (counted_read (early o) v inner counts).ty e)
      (or_else (base_open list count f (early o) v inner) (conversion_open list count f (early o) (counted_read (early o) v inner counts).ty e))
      (converted (late o) (counted_read (late o) v inner counts).ty e)
      (or_else (base_open list count g (late o) v inner) (conversion_open list count g (late o) (counted_read (late o) v inner counts).ty e))
  behind_kept o inner counts e k =
      kept_then g (base_read (early o) v inner).ty (base_read (late o) v inner).ty (base_open list count f (early o) v inner) (base_open list count g (late o) v inner)
      (converted (early o) (counted_read (early o) v inner counts).ty e) (converted (late o) (counted_read (late o) v inner counts).ty e)
      (conversion_open list count f (early o) (counted_read (early o) v inner counts).ty e) (conversion_open list count g (late o) (counted_read (late o) v inner counts).ty e)
      k
      (λ same. conversion_kept o (counted_read (early o) v inner counts).ty (counted_read (late o) v inner counts).ty e
      (contained_type (early o) (late o) (read.span_of inner) counts (base_read (early o) v inner) (base_read (late o) v inner) same))

  pub base_kept : (o : Around) (t : Tree) → Kept g (base_read (early o) v t).ty (base_open list count f (early o) v t) (base_read (late o) v t).ty (base_open list count g (late o) v t)
  base_kept o (node (form_is.Base base_is.Type) at (more t none)) = record {
    same = λ e. ap (λ r. Read.ty r) (type_same o at t (o.type_in place_is.Whole t));
    none = λ e. refl;
    waits = λ j e n. absurd (none_some None j refl e);
  }
  base_kept o (node (form_is.Base base_is.Unit) at (more path (more (row ts) none))) = record {
    same = λ e. called_type (early o) (late o) at (read.span_of path) (o.named (read.span_of path) path) (typed_all (early o) ts) (typed_all (late o) ts);
    none = λ e. refl;
    waits = λ j e n. absurd (none_some None j refl e);
  }
  base_kept o (node (form_is.Base base_is.Group) at (more inner (more (row counts) (more (row ts) none)))) = behind_kept o inner counts (conversion ts) (base_kept o inner)
  base_kept o (node (form_is.Base (base_is.Bytes bytes)) at none) = kept_known g (base_read (early o) v (node (form_is.Base (base_is.Bytes bytes)) at none)).ty
  base_kept o (node (form_is.Base (base_is.Regex text)) at none) = kept_known g (base_read (early o) v (node (form_is.Base (base_is.Regex text)) at none)).ty
  base_kept o (node (form_is.Base (base_is.Number x)) at (more n none)) = kept_known g (base_read (early o) v (node (form_is.Base (base_is.Number x)) at (more n none))).ty
  base_kept o t = kept_known g (base_read (early o) v t).ty

  field_kept : (o : Around) (t : Tree) → Kept g (field_type (early o) v t) (field_open list count f (early o) v t) (field_type (late o) v t) (field_open list count g (late o) v t)
  field_kept o (node form_is.Field span (more name (more base (more (row counts) (more (row ts) rest))))) = behind_kept o base counts (conversion ts) (base_kept o base)
  field_kept o t = kept_known g unknown

  pub source_kept : (o : Around) (s : Source) → Kept g (source_type (early o) v s) (source_open list count f (early o) v s) (source_type (late o) v s) (source_open list count g (late o) v s)
  source_kept o (source_is.Field t) = field_kept o t
  source_kept o (source_is.Variable t) = kept_known g (o.type_in place_is.Value t)
  source_kept o source_is.Sink = kept_known g (word word_is.Sink)

-- what is open has no answer, and is in the row
record IsOpen (count : ℕ) (f : ℕ → Option Ty) (j : ℕ) : Type 0 where
  unknown : f j ≡ None
  below : j < count

at_is : (count : ℕ) (f : ℕ → Option Ty) (k j : ℕ) → open_at count f k ≡ Some j → IsOpen count f j
at_is count f k j = by (nat_lt k count) refl
  where
    there : (o : Option Ty) → f k ≡ o → k < count → unanswered o k ≡ Some j → IsOpen count f j
    there None n lt e = (let is : k ≡ j = some_is k j e in record { unknown = ap f (sym is) ∙ n; below = omega (arith, lt, is) })
    there (Some t) n lt e = absurd (none_some None j refl e)

    by : (b : Bool) → nat_lt k count ≡ b → (if b then unanswered (f k) k else None) ≡ Some j → IsOpen count f j
    by true lt e = there (f k) refl (let z : k < count = grind (arith, nat_tests) in z) e
    by false lt e = absurd (none_some None j refl e)

module _ (list : List Tree) (count : ℕ) (f : ℕ → Option Ty) where
  else_is : (x y : Option ℕ) (j : ℕ) → (x ≡ Some j → IsOpen count f j) → (y ≡ Some j → IsOpen count f j) → or_else x y ≡ Some j → IsOpen count f j
  else_is None y j a b e = b e
  else_is (Some i) y j a b e = a e

  none_is : (j : ℕ) → None ≡ Some j → IsOpen count f j
  none_is j e = absurd (none_some None j refl e)

  of_is : (k : ℕ) (t : Ty) (j : ℕ) → open_of list count f k t ≡ Some j → IsOpen count f j
  of_is k (word (word_is.Unit n)) j e = at_is count f (first_member list n + k) j e
  of_is k _ j e = none_is j e

  member_is : (op : OneOp) (t : Ty) (j : ℕ) → open_member list count f op t ≡ Some j → IsOpen count f j
  member_is (one_is.Field k) t j e = of_is k t j e
  member_is (one_is.Variable k) t j e = of_is k t j e
  member_is _ t j e = none_is j e

  mutual
    expr_is : (x : Expr) (j : ℕ) → open_in list count f x ≡ Some j → IsOpen count f j
    expr_is (leaf h) j e = none_is j e
    expr_is (one h a) j e = else_is (open_in list count f a) (open_member list count f h.op (seen a)) j (expr_is a j) (member_is h.op (seen a) j) e
    expr_is (two h a b) j e = else_is (open_in list count f a) (open_in list count f b) j (expr_is a j) (expr_is b j) e
    expr_is (three h a b c) j e =
        else_is (open_in list count f a) (or_else (open_in list count f b) (open_in list count f c)) j (expr_is a j)
        (else_is (open_in list count f b) (open_in list count f c) j (expr_is b j) (expr_is c j)) e
    expr_is (many h es) j e = exprs_is es j e

    exprs_is : (es : Exprs) (j : ℕ) → open_among list count f es ≡ Some j → IsOpen count f j
    exprs_is typed_is.none j e = none_is j e
    exprs_is (typed_is.more x es) j e = else_is (open_in list count f x) (open_among list count f es) j (expr_is x j) (exprs_is es j) e

  conversion_is : (o : Around) (t : Ty) (x : Option Tree) (j : ℕ) → conversion_open list count f o t x ≡ Some j → IsOpen count f j
  conversion_is o t None j e = none_is j e
  conversion_is o t (Some x) j e = expr_is (typed (meant t o) x) j e

  base_is_open : (o : Around) (v : Values) (t : Tree) (j : ℕ) → base_open list count f o v t ≡ Some j → IsOpen count f j
  base_is_open o v (node (form_is.Base base_is.Group) at (more inner (more (row counts) (more (row ts) none)))) j e =
      else_is (base_open list count f o v inner) (conversion_open list count f o (counted_read o v inner counts).ty (conversion ts)) j
      (base_is_open o v inner j) (conversion_is o (counted_read o v inner counts).ty (conversion ts) j) e
  base_is_open o v t j e = none_is j e

  field_is_open : (o : Around) (v : Values) (t : Tree) (j : ℕ) → field_open list count f o v t ≡ Some j → IsOpen count f j
  field_is_open o v (node form_is.Field span (more name (more base (more (row counts) (more (row ts) rest))))) j e =
      else_is (base_open list count f o v base) (conversion_open list count f o (counted_read o v base counts).ty (conversion ts)) j
      (base_is_open o v base j) (conversion_is o (counted_read o v base counts).ty (conversion ts) j) e
  field_is_open o v t j e = none_is j e

  source_is_open : (o : Around) (v : Values) (s : Source) (j : ℕ) → source_open list count f o v s ≡ Some j → IsOpen count f j
  source_is_open o v (source_is.Field t) j e = field_is_open o v t j e
  source_is_open o v (source_is.Variable t) j e = none_is j e
  source_is_open o v source_is.Sink j e = none_is j e

-- tries
done_waits : (a : Ty) (j : ℕ) → Done a ≡ Waits j → ⊥
done_waits a j e = cc

waits_is : (i j : ℕ) → (let x : Attempt Ty = Waits i in let y : Attempt Ty = Waits j in x ≡ y) → i ≡ j
waits_is i j e = cc

done_is : (a b : Ty) → Done a ≡ Done b → a ≡ b
done_is a b e = cc

pub when_done : (b a : Ty) (o : Option ℕ) → when_open b o ≡ Done a → (o ≡ None) × (b ≡ a)
when_done b a None e = (refl, done_is b a e)
when_done b a (Some j) e = absurd (done_waits a j (sym e))

pub when_waits : (b : Ty) (o : Option ℕ) (j : ℕ) → when_open b o ≡ Waits j → o ≡ Some j
when_waits b None j e = absurd (done_waits b j e)
when_waits b (Some k) j e = ap Some (waits_is k j e)

nowhere_done : (o : Option Ty) (i : ℕ) (a : Ty) → nowhere o i ≡ Done a → o ≡ Some a
nowhere_done None i a e = absurd (done_waits a i (sym e))
nowhere_done (Some b) i a e = ap Some (done_is b a e)

nowhere_waits : (o : Option Ty) (i j : ℕ) → nowhere o i ≡ Waits j → (o ≡ None) × (i ≡ j)
nowhere_waits None i j e = (refl, waits_is i j e)
nowhere_waits (Some b) i j e = absurd (done_waits b j e)

module _ (list : List Tree) (contexts : List Around) (v : Values) where
  abbrev count : ℕ
  count = length (questions list)

  abbrev round_unit : ℕ → Around → Around
  round_unit n g = with_self (word (word_is.Unit n)) standing_is.Meant g

  unit_keeps : (f g : ℕ → Option Ty) (a : Ty) → Within f g → (q : Question) (o : Option Around) → try_unit list count f v q o ≡ Done a → try_unit list count g v q o ≡ Done a
  unit_keeps f g a w q None e = e
  unit_keeps f g a w q (Some x) e =
      let o = in_unit list f q.unit x in
      let l = in_unit list g q.unit x in
      let k = source_kept list count (are_in_row list) f g w v (round_unit q.unit x) q.source in
      let d = when_done (source_type o v q.source) a (source_open list count f o v q.source) e in
      ap (when_open (source_type l v q.source)) (k.none d.0) ∙ ap Done (k.same d.0 ∙ d.1)

  unit_waits : (f g : ℕ → Option Ty) (j : ℕ) → Within f g → (q : Question) (o : Option Around) → try_unit list count f v q o ≡ Waits j → g j ≡ None → try_unit list count g v q o ≡ Waits j
  unit_waits f g j w q None e u = absurd (done_waits unknown j e)
  unit_waits f g j w q (Some x) e u =
      let o = in_unit list f q.unit x in
      let l = in_unit list g q.unit x in
      let k = source_kept list count (are_in_row list) f g w v (round_unit q.unit x) q.source in
      ap (when_open (source_type l v q.source)) (k.waits j (when_waits (source_type o v q.source) (source_open list count f o v q.source) j e) u)

  unit_open : (f : ℕ → Option Ty) (j : ℕ) (q : Question) (o : Option Around) → try_unit list count f v q o ≡ Waits j → IsOpen count f j
  unit_open f j q None e = absurd (done_waits unknown j e)
  unit_open f j q (Some x) e =
      let o = in_unit list f q.unit x in
      source_is_open list count f o v q.source j (when_waits (source_type o v q.source) (source_open list count f o v q.source) j e)

  asked_keeps : (f g : ℕ → Option Ty) (i : ℕ) (a : Ty) → Within f g → (q : Option Question) → try_asked list contexts v count f i q ≡ Done a → try_asked list contexts v count g i q ≡ Done a
  asked_keeps f g i a w None e = ap (λ o. nowhere o i) (w i a (nowhere_done (f i) i a e))
  asked_keeps f g i a w (Some q) e = unit_keeps f g a w q (slice_get contexts q.unit) e

  asked_waits : (f g : ℕ → Option Ty) (i j : ℕ) → Within f g → (q : Option Question) → try_asked list contexts v count f i q ≡ Waits j → g j ≡ None → try_asked list contexts v count g i q ≡ Waits j
  asked_waits f g i j w None e u = (let s = nowhere_waits (f i) i j e in ap (λ o. nowhere o i) (ap g s.1 ∙ u) ∙ ap Waits s.1)
  asked_waits f g i j w (Some q) e u = unit_waits f g j w q (slice_get contexts q.unit) e u

  asked_unknown : (f : ℕ → Option Ty) (i j : ℕ) (q : Option Question) → try_asked list contexts v count f i q ≡ Waits j → f j ≡ None
  asked_unknown f i j None e = (let s = nowhere_waits (f i) i j e in ap f (sym s.1) ∙ s.0)
  asked_unknown f i j (Some q) e = (unit_open f j q (slice_get contexts q.unit) e).unknown

  asked_below : (f : ℕ → Option Ty) (i j : ℕ) → i < count → (q : Option Question) → try_asked list contexts v count f i q ≡ Waits j → j < count
  asked_below f i j lt None e = (let s = nowhere_waits (f i) i j e in omega (arith, lt, s.1))
  asked_below f i j lt (Some q) e = (unit_open f j q (slice_get contexts q.unit) e).below

  abbrev pub ready : (ℕ → Option Ty) → ℕ → ℕ → Type 0
  ready f i c = Unit {0}

  pub is_fair : IsFair (tries list contexts v)
  is_fair = record {
    keeps = λ f g i a w e. asked_keeps f g i a w (slice_get (questions list) i) e;
    waits = λ f g i j w e u. asked_waits f g i j w (slice_get (questions list) i) e u;
    unknown = λ f i j e. asked_unknown f i j (slice_get (questions list) i) e;
  }

  pub is_outside : (f : ℕ → Option Ty) (i : ℕ) → length (questions list) ≤ i → f i ≡ None → (j : ℕ) × (tries list contexts v f i ≡ Waits j)
  is_outside f i le u =
      (i, ap (try_asked list contexts v (length (questions list)) f i) (slice_get_past (questions list) i le) ∙ ap (λ o. nowhere o i) u)

  pub is_inside : (f : ℕ → Option Ty) (i j : ℕ) → i < length (questions list) → tries list contexts v f i ≡ Waits j → j < length (questions list)
  is_inside f i j lt e = asked_below f i j lt (slice_get (questions list) i) e

  pub is_first : (f : ℕ → Option Ty) (i : ℕ) → ready f i 0
  is_first f i = tt

  pub is_later : (f g : ℕ → Option Ty) (i c : ℕ) → Within f g → ready f i c → ready g i c
  is_later f g i c w r = tt
