-- What stands round the expressions of a module places names where they are written.
use Rattle.std.specs.Prelude.{ℕ, Bool, true, false, ◌&&◌, ◌||◌, ◌==◌, if◌then◌else◌, List, [], ◌∷◌, Option, Some, None, slice_get}
use Rattle.std.proofs.Common.{◌≡◌, zero, suc, get_or, refl, subst}
use Rattle.std.proofs.lemmas.Bool.{and_parts, and_from}
use Rattle.sp_base.specs.declared.places.Span.{Span}
use Rattle.sp_lex.specs.declared.tokens.Token.{Token}
use Rattle.sp_ast.specs.Trees.{Tree, Trees, row, node, none, more}
use Rattle.sp_ast.specs.Trees as read
use Rattle.sp_ast.specs.declared.forms.Form.{Form}
use Rattle.sp_ast.specs.declared.forms.Form.TheVariants as form_is
use Rattle.sp_ast.specs.declared.forms.TypeForm.TheVariants as type_is
use Rattle.sp_types.specs.declared.words.Word.TheVariants as word_is
use Rattle.sp_types.specs.Types.{Ty, word, made}
use Rattle.sp_typed.specs.declared.words.UnitMethod.{UnitMethod}
use Rattle.sp_typed.specs.declared.words.SinkMethod.{SinkMethod}
use Rattle.sp_typed_units.specs.declared.declarations.MemberKind.{MemberKind}
use Rattle.sp_typed_units.specs.declared.declarations.MemberKind.TheVariants as kind_is
use Rattle.sp_type_context.specs.declared.places.Place.{Place}
use Rattle.sp_type_context.specs.declared.places.Place.TheVariants as place_is
use Rattle.sp_type_context.specs.Places.{suits}
use Rattle.sp_type_context.specs.declared.context.Member.{Member}
use Rattle.sp_type_context.specs.declared.context.Callable.{Callable}
use Rattle.sp_type_context.specs.Typing.{or_else}
use Rattle.sp_names.specs.Types.{type_in}
use Rattle.sp_type_modules.specs.Members.{UnitMember, unit_members, numbered, kinds_of, range_number, bitfield_width, bitfield_tree}
use Rattle.sp_type_modules.specs.Written.{name_span, names_type, unless, or_itself, misplaced_inside, misplaced_among, misplaced_in, written_in}
use Rattle.sp_typed.specs.declared.words.ManyOp.{ManyOp}
use Rattle.sp_typed.specs.declared.words.ManyOp.TheVariants as many_is
use Rattle.sp_typed.specs.Exprs.{Expr, exprs}
use Rattle.sp_typed.specs.Nodes.{holds, all_hold}
use Rattle.sp_names.specs.declared.sort.DeclSort.{DeclSort}
use Rattle.sp_names.specs.declared.sort.DeclSort.TheVariants as sort_is
use Rattle.sp_names.specs.declared.sort.Meaning.{Meaning}
use Rattle.sp_names.specs.declared.sort.Meaning.TheVariants as meaning_is
use Rattle.sp_names.specs.Declarations.{list_of, sort_at}
use Rattle.sp_names.specs.Names.{path_means}
use Rattle.sp_words.specs.declared.methods.Method.{Method}
use Rattle.sp_words.specs.declared.methods.Method.TheVariants as method_is
use Rattle.sp_type_methods.specs.Methods.{told, unit_methods, sink_methods, library_method, library_call, unit_call, sink_call, method_of, left_out_of, base_ten, utf8, replace}
use Rattle.sp_type_modules.specs.Arounds.{Facts, around, type_leaf, declared_at, meaning_at, means_value, slice_of, path_at, some_member, unit_member, width_type, bit_member, member_of, left_out_by}
use Rattle.sp_law_rules.specs.Places.{begins_token, begins_at, all_begin_at}
use Rattle.sp_law_rules.specs.Spans.{is_placed, option_placed, leaf_placed, written_placed, one_placed, many_placed, node_placed, NamesPlaced}

or_second : (a b : Bool) → b ≡ true → (a || b) ≡ true
or_second true b e = refl
or_second false b e = e

module _ (tokens : List Token) where
  abbrev p : Expr → Bool
  p = node_placed tokens

  abbrev At : Span → Type 0
  At span = is_placed tokens span ≡ true

  begun : (span : Span) → begins_token tokens span.from ≡ true → At span
  begun span b = or_second (span.from == 0 && span.to == 0) (begins_token tokens span.from) b

  tree_placed : (t : Tree) → begins_at tokens t ≡ true → At (read.span_of t)
  tree_placed (node form span ts) b = begun span (and_parts (begins_token tokens span.from) (all_begin_at tokens ts) b).0
  tree_placed read.absent b = refl
  tree_placed (row ts) b = refl

  -- a name of a path
  part_begins : (ts : Trees) (k : ℕ) → all_begin_at tokens ts ≡ true → begins_at tokens (get_or (list_of ts) k read.absent) ≡ true
  part_begins none zero b = refl
  part_begins none (suc k) b = refl
  part_begins (more t ts) zero b = (and_parts (begins_at tokens t) (all_begin_at tokens ts) b).0
  part_begins (more t ts) (suc k) b = part_begins ts k (and_parts (begins_at tokens t) (all_begin_at tokens ts) b).1

  no_part : (k : ℕ) → At (read.span_of (get_or [] k read.absent))
  no_part zero = refl
  no_part (suc k) = refl

  name_placed : (path : Tree) (k : ℕ) → begins_at tokens path ≡ true → At (name_span path k)
  name_placed (node form_is.Path span ts) k b = tree_placed (get_or (list_of ts) k read.absent) (part_begins ts k (and_parts (begins_token tokens span.from) (all_begin_at tokens ts) b).1)
  name_placed (node _ span ts) k b = no_part k
  name_placed (row ts) k b = no_part k
  name_placed read.absent k b = no_part k

  type_leaf_placed : (o : Option Ty) → leaf_placed tokens (type_leaf o) ≡ true
  type_leaf_placed None = refl
  type_leaf_placed (Some (word word_is.Decoder)) = refl
  type_leaf_placed (Some (word w)) = refl
  type_leaf_placed (Some (made maker ts)) = refl

  declared_placed : (list : List Tree) (f : ℕ → Option Ty) (constant : ℕ → Ty) (span : Span) (g : ℕ) (s : DeclSort) → At span → holds p (declared_at list f constant span g s) ≡ true
  declared_placed list f constant span g sort_is.Constant at = at
  declared_placed list f constant span g sort_is.Function at = at
  declared_placed list f constant span g _ at = and_from (leaf_placed tokens (type_leaf (f g))) (is_placed tokens span) (type_leaf_placed (f g)) at

  meaning_placed : (list : List Tree) (f : ℕ → Option Ty) (constant : ℕ → Ty) (span : Span) (path : Tree) (w : Meaning) → At span → begins_at tokens path ≡ true → holds p (meaning_at list f constant span path w) ≡ true
  meaning_placed list f constant span path (meaning_is.Declaration g) at b = declared_placed list f constant span g (sort_at list g) at
  meaning_placed list f constant span path (meaning_is.LibraryEnum n) at b = at
  meaning_placed list f constant span path (meaning_is.Label owner label) at b = at
  meaning_placed list f constant span path meaning_is.Decoder at b = at
  meaning_placed list f constant span path (meaning_is.Nothing k) at b = and_from (is_placed tokens (name_span path k)) (is_placed tokens span) (name_placed path k b) at

  either_placed : (b : Bool) (s t : Span) → At s → At t → At (if b then s else t)
  either_placed true s t i j = i
  either_placed false s t i j = j

  path_placed : (list : List Tree) (f : ℕ → Option Ty) (constant : ℕ → Ty) (m : ℕ) (span : Span) (path : Tree) → At span → begins_at tokens path ≡ true → holds p (path_at list f constant m span path) ≡ true
  path_placed list f constant m span path i j =
      let w = path_means list f m path in
      meaning_placed list f constant (slice_of list span path w) path w (either_placed (means_value list w) span (read.span_of path) i (tree_placed path j)) j

  abbrev AllAt : List Expr → Type 0
  AllAt es = all_hold p (exprs es) ≡ true

  either_all : (b : Bool) (xs ys : List Expr) → AllAt xs → AllAt ys → AllAt (if b then xs else ys)
  either_all true xs ys i j = i
  either_all false xs ys i j = j

  left_placed : (method : Method) (span : Span) (n : ℕ) → At span → AllAt (left_out_of method span n)
  left_placed method_is.ToUint span n at = either_all (n == 0) (base_ten span ∷ []) [] (and_from (is_placed tokens span) true at refl) refl
  left_placed method_is.ToInt span n at = either_all (n == 0) (base_ten span ∷ []) [] (and_from (is_placed tokens span) true at refl) refl
  left_placed method_is.Decode span n at =
      let last = and_from (is_placed tokens span) true at refl in
      either_all (n == 0) (utf8 span ∷ replace span ∷ []) (if n == 1 then replace span ∷ [] else []) (and_from (is_placed tokens span) _ at last) (either_all (n == 1) (replace span ∷ []) [] last refl)
  left_placed _ span n at = refl

  left_all : (op : ManyOp) (span : Span) (n : ℕ) → At span → AllAt (left_out_by op span n)
  left_all (many_is.Method method slot) span n at = left_placed method span n at
  left_all _ span n at = refl

  -- types
  unless_placed : (b : Bool) (span : Span) → At span → option_placed tokens (unless b span) ≡ true
  unless_placed true span i = refl
  unless_placed false span i = i

  else_placed : (a b : Option Span) → option_placed tokens a ≡ true → option_placed tokens b ≡ true → option_placed tokens (or_else a b) ≡ true
  else_placed None b i j = j
  else_placed (Some span) b i j = i

  module _ (list : List Tree) (f : ℕ → Option Ty) (m : ℕ) where
    itself_placed : (place : Place) (t : Tree) (inside : Option Span) → option_placed tokens inside ≡ true → begins_at tokens t ≡ true → option_placed tokens (or_itself list f m place t inside) ≡ true
    itself_placed place t inside i b = else_placed inside (unless (suits place (type_in list f m t)) (read.span_of t)) i (unless_placed (suits place (type_in list f m t)) (read.span_of t) (tree_placed t b))

    inner : (form : Form) (span : Span) (ts : Trees) → begins_at tokens (node form span ts) ≡ true → At span × (all_begin_at tokens ts ≡ true)
    inner form span ts b = (let q = and_parts (begins_token tokens span.from) (all_begin_at tokens ts) b in (begun span q.0, q.1))

    mutual
      inside_placed : (t : Tree) → begins_at tokens t ≡ true → option_placed tokens (misplaced_inside list f m t) ≡ true
      inside_placed (node (form_is.Type type_is.Path) span (more path ts)) b = unless_placed (names_type list (path_means list f m path)) span (inner (form_is.Type type_is.Path) span (more path ts) b).0
      inside_placed (node (form_is.Type type_is.Tuple) span ts) b = among_placed ts (inner (form_is.Type type_is.Tuple) span ts b).1
      inside_placed (node (form_is.Type type_is.Vector) span (more t ts)) b =
          let q = (and_parts (begins_at tokens t) (all_begin_at tokens ts) (inner (form_is.Type type_is.Vector) span (more t ts) b).1).0 in
          itself_placed place_is.Value t (misplaced_inside list f m t) (inside_placed t q) q
      inside_placed (node (form_is.Type type_is.Set) span (more t ts)) b =
          let q = (and_parts (begins_at tokens t) (all_begin_at tokens ts) (inner (form_is.Type type_is.Set) span (more t ts) b).1).0 in
          itself_placed place_is.Key t (misplaced_inside list f m t) (inside_placed t q) q
      inside_placed (node (form_is.Type type_is.Map) span (more k (more v ts))) b =
          let q = and_parts (begins_at tokens k) (all_begin_at tokens (more v ts)) (inner (form_is.Type type_is.Map) span (more k (more v ts)) b).1 in
          let r = (and_parts (begins_at tokens v) (all_begin_at tokens ts) q.1).0 in
          else_placed (or_itself list f m place_is.Key k (misplaced_inside list f m k)) (or_itself list f m place_is.Value v (misplaced_inside list f m v))
          (itself_placed place_is.Key k (misplaced_inside list f m k) (inside_placed k q.0) q.0) (itself_placed place_is.Value v (misplaced_inside list f m v) (inside_placed v r) r)
      inside_placed (node (form_is.Type type_is.Enum) span ts) b = (inner (form_is.Type type_is.Enum) span ts b).0
      inside_placed (node (form_is.Type type_is.Unit) span ts) b = (inner (form_is.Type type_is.Unit) span ts b).0
      inside_placed _ b = refl

      among_placed : (ts : Trees) → all_begin_at tokens ts ≡ true → option_placed tokens (misplaced_among list f m ts) ≡ true
      among_placed none b = refl
      among_placed (more t ts) b =
          let q = and_parts (begins_at tokens t) (all_begin_at tokens ts) b in
          else_placed (or_itself list f m place_is.Value t (misplaced_inside list f m t)) (misplaced_among list f m ts) (itself_placed place_is.Value t (misplaced_inside list f m t) (inside_placed t q.0) q.0) (among_placed ts q.1)

    type_placed : (place : Place) (t : Tree) → begins_at tokens t ≡ true → written_placed tokens (written_in list f m place t) ≡ true
    type_placed place t b =
        and_from (is_placed tokens (read.span_of t)) (option_placed tokens (misplaced_in list f m place t)) (tree_placed t b) (itself_placed place t (misplaced_inside list f m t) (inside_placed t b) b)

  -- members and methods
  some_is : {A : Type 0} (P : A → Type 0) (x y : A) → Some x ≡ Some y → P x → P y
  some_is P x y e h = subst P (let q : x ≡ y = cc in q) h

  no_found : {A : Type 0} {X : Type 0} (x : A) → None ≡ Some x → X
  no_found x e = absurd (let q : ⊥ = cc in q)

  kind_placed : (stored : ℕ → Ty) (k : ℕ) (o : Option MemberKind) (found : Member) → some_member stored k o ≡ Some found → one_placed tokens found.op ≡ true
  kind_placed stored k None found e = no_found found e
  kind_placed stored k (Some kind_is.Field) found e = some_is (λ (x : Member). one_placed tokens x.op ≡ true) _ found e refl
  kind_placed stored k (Some kind_is.Variable) found e = some_is (λ (x : Member). one_placed tokens x.op ≡ true) _ found e refl
  kind_placed stored k (Some kind_is.Sink) found e = some_is (λ (x : Member). one_placed tokens x.op ≡ true) _ found e refl

  unit_placed : (stored : ℕ → Ty) (ms : List UnitMember) (o : Option ℕ) (found : Member) → unit_member stored ms o ≡ Some found → one_placed tokens found.op ≡ true
  unit_placed stored ms None found e = no_found found e
  unit_placed stored ms (Some k) found e = kind_placed stored k (slice_get (kinds_of ms) k) found e

  bit_placed : (t : Ty) (o : Option ℕ) (found : Member) → bit_member t o ≡ Some found → one_placed tokens found.op ≡ true
  bit_placed t None found e = no_found found e
  bit_placed t (Some k) found e = some_is (λ (x : Member). one_placed tokens x.op ≡ true) _ found e refl

  member_placed : (list : List Tree) (stored : ℕ → ℕ → Ty) (t : Ty) (x : List ℕ) (found : Member) → member_of list stored t x ≡ Some found → one_placed tokens found.op ≡ true
  member_placed list stored (word (word_is.Unit n)) x found e = unit_placed (stored n) (unit_members list n) (numbered x 0 (unit_members list n)) found e
  member_placed list stored (word (word_is.Bitfield n)) x found e = bit_placed (width_type (bitfield_width (bitfield_tree list n))) (range_number list n x) found e
  member_placed list stored _ x found e = no_found found e

  unit_call_placed : (span : Span) (o : Option UnitMethod) (found : Callable) → unit_call span o ≡ Some found → At span → many_placed tokens found.op ≡ true
  unit_call_placed span None found e i = no_found found e
  unit_call_placed span (Some method) found e i = some_is (λ (x : Callable). many_placed tokens x.op ≡ true) _ found e i

  sink_call_placed : (o : Option SinkMethod) (found : Callable) → sink_call o ≡ Some found → many_placed tokens found.op ≡ true
  sink_call_placed None found e = no_found found e
  sink_call_placed (Some method) found e = some_is (λ (x : Callable). many_placed tokens x.op ≡ true) _ found e refl

  library_placed : (t : Ty) (o : Option Method) (found : Callable) → library_call t o ≡ Some found → many_placed tokens found.op ≡ true
  library_placed t None found e = no_found found e
  library_placed t (Some method) found e = some_is (λ (x : Callable). many_placed tokens x.op ≡ true) _ found e refl

  method_placed : (t : Ty) (x : List ℕ) (span : Span) (ts : List Ty) (found : Callable) → method_of t x span ts ≡ Some found → At span → many_placed tokens found.op ≡ true
  method_placed (word (word_is.Unit n)) x span ts found e i = unit_call_placed span (told x unit_methods) found e i
  method_placed (word word_is.Sink) x span ts found e i = sink_call_placed (told x (sink_methods ts)) found e
  method_placed (word w) x span ts found e i = library_placed (word w) (library_method (word w) x ts) found e
  method_placed (made maker us) x span ts found e i = library_placed (made maker us) (library_method (made maker us) x ts) found e

  pub module_places : (list : List Tree) (facts : Facts) (m : ℕ) → NamesPlaced tokens (around list facts m)
  module_places list facts m = record {
    path = λ span t i j. path_placed list facts.answers facts.constant m span t i j;
    named = λ span t i j. path_placed list facts.answers facts.constant m span t i j;
    itself = λ span i. i;
    current = λ span i. i;
    written = λ place t b. type_placed list facts.answers m place t b;
    member = λ t x found e. member_placed list facts.stored t x found e;
    method = λ t x span ts found e i. method_placed t x span ts found e i;
    left_out = λ op span n i. left_all op span n i;
  }
