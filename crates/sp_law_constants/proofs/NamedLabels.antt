-- Labels that are named in expressions are there.
use Rattle.std.specs.Prelude.{◌-◌, ◌==◌, nat_lt, if◌then◌else◌, codes}
use Rattle.std.specs.Str.{bytes_eq}
use Rattle.std.proofs.Common.{ℕ, ◌≡◌, ◌<◌, ◌+◌, suc, Bool, true, false, refl, arith, List, [], ◌∷◌, length, Option, Some, None}
use Rattle.sp_base.specs.declared.places.Span.{Span}
use Rattle.sp_ast.specs.Trees.{Tree, Trees, row, node, none, more}
use Rattle.sp_ast.specs.Trees as read
use Rattle.sp_ast.specs.declared.forms.Form.TheVariants as form_is
use Rattle.sp_ast.specs.declared.forms.ExprForm.TheVariants as expr_is
use Rattle.sp_words.specs.declared.methods.Method.{Method}
use Rattle.sp_words.specs.declared.methods.Method.TheVariants as method_is
use Rattle.sp_types.specs.declared.words.Word.{Word}
use Rattle.sp_types.specs.declared.words.Word.TheVariants as word_is
use Rattle.sp_types.specs.Types.{Ty, word, made}
use Rattle.sp_typed.specs.declared.words.LeafOp.{LeafOp}
use Rattle.sp_typed.specs.declared.words.LeafOp.TheVariants as leaf_is
use Rattle.sp_typed.specs.declared.words.ManyOp.{ManyOp}
use Rattle.sp_typed.specs.declared.words.ManyOp.TheVariants as many_is
use Rattle.sp_typed.specs.Exprs.{Expr}
use Rattle.sp_names.specs.declared.sort.DeclSort.{DeclSort}
use Rattle.sp_names.specs.declared.sort.DeclSort.TheVariants as sort_is
use Rattle.sp_names.specs.declared.sort.Meaning.{Meaning}
use Rattle.sp_names.specs.declared.sort.Meaning.TheVariants as meaning_is
use Rattle.sp_names.specs.declared.sort.Scope.{Scope}
use Rattle.sp_names.specs.declared.sort.Scope.TheVariants as scope_is
use Rattle.sp_names.specs.Declarations.{sort_at, library_enums}
use Rattle.sp_names.specs.Names.{is_name, first_named, label_name, declared, visible, place_among, library_names, library_labels, own_labels, label_in, some_declaration, some_library, some_label, named_in, enum_of, own_enum, label_of, behind, meaning_or, in_scope, in_own, means, path_names, path_means}
use Rattle.sp_type_operands.specs.Literals.{seen}
use Rattle.sp_type_context.specs.Contexts.{Around}
use Rattle.sp_type_context.specs.Typing.{typed, typed_all, pairs_typed}
use Rattle.sp_type_context.specs.Typing as typing
use Rattle.sp_type_methods.specs.Methods.{base_ten, utf8, replace, left_out_of}
use Rattle.sp_type_modules.specs.Arounds.{word_leaf, type_leaf, declared_at, meaning_at, slice_of, path_at}
use Rattle.sp_type_values.specs.declared.answer.Answer.{Answer}
use Rattle.sp_type_values.specs.Answers.{constant_type, here}
use Rattle.sp_type_values.specs.Leaves.{Holds, HoldsOf, HoldsIn, led_holds, map_holds, binary_holds, choice_holds, member_holds, set_member_holds, indexed_holds, call_holds, method_holds, new_holds}
use Rattle.sp_law_constants.proofs.Labels.{listed}

some_same : (a b : ℕ) → Some a ≡ Some b → a ≡ b
some_same a b e = cc

none_some : (b : ℕ) → None ≡ Some b → ⊥
none_some b e = cc

placed : (x : List ℕ) (k : ℕ) (ns : List (List ℕ)) (n : ℕ) → place_among x k ns ≡ Some n → n < k + length ns
placed x k [] n e = absurd (none_some n e)
placed x k (y ∷ ns) n e = by (λ h. placed x (suc k) ns n h) (bytes_eq x y) e
  where
    by : (place_among x (suc k) ns ≡ Some n → n < suc k + length ns) → (b : Bool) → (if b then Some k else place_among x (suc k) ns) ≡ Some n → n < k + length (y ∷ ns)
    by next true h = (let s = some_same k n h in omega (arith, s))
    by next false h = (let s = next h in omega (arith, s))

named : (x : List ℕ) (k : ℕ) (ts : List Tree) (n : ℕ) → first_named label_name x k ts ≡ Some n → n < k + length ts
named x k [] n e = absurd (none_some n e)
named x k (t ∷ ts) n e = by (λ h. named x (suc k) ts n h) (is_name x (label_name t)) e
  where
    by : (first_named label_name x (suc k) ts ≡ Some n → n < suc k + length ts) → (b : Bool) → (if b then Some k else first_named label_name x (suc k) ts) ≡ Some n → n < k + length (t ∷ ts)
    by next true h = (let s = some_same k n h in omega (arith, s))
    by next false h = (let s = next h in omega (arith, s))

module _ (list : List Tree) where
  -- a leaf is no label that isn't there
  abbrev pub IsListed : LeafOp → Type 0
  IsListed (leaf_is.Label owner n) = n < listed list owner
  IsListed _ = Unit {0}

  label_there : (owner : ℕ) (x : List ℕ) (n : ℕ) → label_in list owner x ≡ Some n → n < listed list owner
  label_there owner x n e = by (nat_lt owner library_enums) e
    where
      by : (b : Bool) → (if b then place_among x 0 (library_labels owner) else first_named label_name x 0 (own_labels list (owner - library_enums))) ≡ Some n
          → n < (if b then length (library_labels owner) else length (own_labels list (owner - library_enums)))
      by true e = (let h = placed x 0 (library_labels owner) n e in omega (arith, h))
      by false e = (let h = named x 0 (own_labels list (owner - library_enums)) n e in omega (arith, h))

  -- what a path means
  abbrev IsThere : Meaning → Type 0
  IsThere (meaning_is.Label owner n) = n < listed list owner
  IsThere _ = Unit {0}

  abbrev MaybeThere : Option Meaning → Type 0
  MaybeThere None = Unit {0}
  MaybeThere (Some w) = IsThere w

  some_there : (owner : ℕ) (x : List ℕ) (o : Option ℕ) → label_in list owner x ≡ o → MaybeThere (some_label owner o)
  some_there owner x None e = tt
  some_there owner x (Some n) e = label_there owner x n e

  of_there : (o : Option ℕ) (x : List ℕ) → MaybeThere (label_of list o x)
  of_there None x = tt
  of_there (Some owner) x = some_there owner x (label_in list owner x) refl

  behind_there : (f : ℕ → Option Ty) (k : ℕ) (o : Option Meaning) (xs : List (List ℕ)) → MaybeThere o → IsThere (behind list f k o xs)
  behind_there f k None xs h = tt
  behind_there f k (Some w) [] h = h
  behind_there f k (Some w) (x ∷ xs) h = behind_there f (suc k) (label_of list (enum_of f w) x) xs (of_there (enum_of f w) x)

  declared_there : (o : Option ℕ) → MaybeThere (some_declaration o)
  declared_there None = tt
  declared_there (Some g) = tt

  library_there : (o : Option ℕ) → MaybeThere (some_library o)
  library_there None = tt
  library_there (Some n) = tt

  decoder_there : (b : Bool) → MaybeThere (if b then Some meaning_is.Decoder else None)
  decoder_there true = tt
  decoder_there false = tt

  named_there : (s : Scope) (x : List ℕ) → MaybeThere (named_in list s x)
  named_there (scope_is.Module k) x = declared_there (declared list k x)
  named_there scope_is.Spicy x = library_there (place_among x 0 library_names)
  named_there scope_is.Filter x = decoder_there (bytes_eq x (codes "Base64Decode"))

  scope_there : (f : ℕ → Option Ty) (own : Option ℕ) (scope : Option Scope) (x : List ℕ) (xs : List (List ℕ)) → IsThere (in_scope list f own scope x xs)
  scope_there f own (Some s) x xs = behind_there f 1 (named_in list s x) xs (named_there s x)
  scope_there f (Some g) None x xs = tt
  scope_there f None None x xs = tt

  own_there : (f : ℕ → Option Ty) (enum own : Option ℕ) (scope : Option Scope) (x : List ℕ) (xs : List (List ℕ)) → IsThere (in_own list f enum own scope x xs)
  own_there f (Some n) own scope x xs = behind_there f 1 (label_of list (Some n) x) xs (of_there (Some n) x)
  own_there f None own scope x xs = scope_there f own scope x xs

  first_there : (k : ℕ) (o : Option ℕ) → IsThere (meaning_or k o)
  first_there k None = tt
  first_there k (Some g) = tt

  means_there : (f : ℕ → Option Ty) (m : ℕ) (xs : List (List ℕ)) → IsThere (means list f m xs)
  means_there f m [] = tt
  means_there f m (x ∷ []) = first_there 0 (declared list m x)
  means_there f m (x ∷ (y ∷ ys)) = own_there f (own_enum f (declared list m x)) (declared list m x) (visible list m x) y ys

  module _ (f : ℕ → Option Ty) (known : ℕ → Option Answer) (m : ℕ) where
    abbrev g : Around
    g = here list f known m

    abbrev types : ℕ → Ty
    types = constant_type list f known

    word_there : (w : Word) → IsListed (word_leaf w)
    word_there word_is.Decoder = tt
    word_there _ = tt

    type_there : (o : Option Ty) → IsListed (type_leaf o)
    type_there None = tt
    type_there (Some (word w)) = word_there w
    type_there (Some (made k ts)) = tt

    sort_there : (span : Span) (d : ℕ) (s : DeclSort) → Holds IsListed (declared_at list f types span d s)
    sort_there span d sort_is.Constant = tt
    sort_there span d sort_is.Function = tt
    sort_there span d _ = type_there (f d)

    meaning_there : (span : Span) (path : Tree) (w : Meaning) → IsThere w → Holds IsListed (meaning_at list f types span path w)
    meaning_there span path (meaning_is.Declaration d) h = sort_there span d (sort_at list d)
    meaning_there span path (meaning_is.Label owner label) h = h
    meaning_there span path _ h = tt

    path_there : (span : Span) (path : Tree) → Holds IsListed (path_at list f types m span path)
    path_there span path = meaning_there (slice_of list span path (path_means list f m path)) path (path_means list f m path) (means_there f m (path_names path))

    -- what stands for arguments that are left out
    utf8_there : 0 < listed list 2
    utf8_there = (let z : 0 < 2 = omega arith in z)

    replace_there : 1 < listed list 3
    replace_there = (let z : 1 < 3 = omega arith in z)

    by_count : (c : Bool) (es fs : List Expr) → HoldsOf IsListed es → HoldsOf IsListed fs → HoldsOf IsListed (if c then es else fs)
    by_count true es fs i j = i
    by_count false es fs i j = j

    method_there : (method : Method) (span : Span) (n : ℕ) → HoldsOf IsListed (left_out_of method span n)
    method_there method_is.ToUint span n = by_count (n == 0) (base_ten span ∷ []) [] (tt, tt) tt
    method_there method_is.ToInt span n = by_count (n == 0) (base_ten span ∷ []) [] (tt, tt) tt
    method_there method_is.Decode span n =
        by_count (n == 0) (utf8 span ∷ replace span ∷ []) (if n == 1 then replace span ∷ [] else []) (utf8_there, (replace_there, tt)) (by_count (n == 1) (replace span ∷ []) [] (replace_there, tt) tt)
    method_there _ span n = tt

    left_out_there : (op : ManyOp) (span : Span) (n : ℕ) → HoldsOf IsListed (g.left_out op span n)
    left_out_there (many_is.Method method slot) span n = method_there method span n
    left_out_there _ span n = tt

    mutual
      pub typed_there : (t : Tree) → Holds IsListed (typed g t)
      typed_there (node (form_is.Expr expr_is.Path) span (more path none)) = path_there span path
      typed_there (node (form_is.Expr expr_is.Itself) span none) = tt
      typed_there (node (form_is.Expr expr_is.Current) span none) = tt
      typed_there (node (form_is.Expr expr_is.True) span none) = tt
      typed_there (node (form_is.Expr expr_is.False) span none) = tt
      typed_there (node (form_is.Expr (expr_is.Number n)) span none) = tt
      typed_there (node (form_is.Expr (expr_is.String text)) span none) = tt
      typed_there (node (form_is.Expr (expr_is.Bytes bytes)) span none) = tt
      typed_there (node (form_is.Expr (expr_is.Regex text)) span none) = tt
      typed_there (node (form_is.Expr expr_is.EmptyVector) span (more t none)) = tt
      typed_there (node (form_is.Expr expr_is.EmptySet) span (more t none)) = tt
      typed_there (node (form_is.Expr expr_is.EmptyMap) span (more k (more v none))) = tt
      typed_there (node (form_is.Expr (expr_is.TypedNumber w)) span (more n none)) = tt
      typed_there (node (form_is.Expr expr_is.Tuple) span ts) = all_there ts
      typed_there (node (form_is.Expr expr_is.Vector) span ts) = led_holds IsListed (typed_all g ts) (all_there ts)
      typed_there (node (form_is.Expr expr_is.Set) span ts) = led_holds IsListed (typed_all g ts) (all_there ts)
      typed_there (node (form_is.Expr expr_is.Map) span ts) = map_holds IsListed span (pairs_typed g ts) (pairs_there ts)
      typed_there (node (form_is.Expr expr_is.Cast) span (more t (more e none))) = typed_there e
      typed_there (node (form_is.Expr expr_is.New) span (more path (more (row ts) none))) =
          new_holds IsListed g span (read.span_of path) (g.named (read.span_of path) path) (typed_all g ts) (path_there (read.span_of path) path) (all_there ts)
      typed_there (node (form_is.Expr expr_is.Size) span (more e none)) = typed_there e
      typed_there (node (form_is.Expr expr_is.Choice) span (more c (more a (more b none)))) = choice_holds IsListed span (typed g c) (typed g a) (typed g b) (typed_there c) (typed_there a) (typed_there b)
      typed_there (node (form_is.Expr expr_is.Member) span (more e (more name none))) = member_holds IsListed span (read.span_of name) (g.member (seen (typed g e)) (typing.name_of name)) (typed g e) (typed_there e)
      typed_there (node (form_is.Expr expr_is.SetMember) span (more e (more name none))) = set_member_holds IsListed span (read.span_of name) (g.member (seen (typed g e)) (typing.name_of name)) (typed g e) (typed_there e)
      typed_there (node (form_is.Expr expr_is.Index) span (more e (more i none))) = indexed_holds IsListed g span (typed g e) (typed g i) (typed_there e) (typed_there i)
      typed_there (node (form_is.Expr expr_is.Call) span (more (node (form_is.Expr expr_is.Member) member (more e (more name none))) (more (row ts) none))) =
          method_holds IsListed g span member name (typed g e) (typed_all g ts) left_out_there (typed_there e) (all_there ts)
      typed_there (node (form_is.Expr expr_is.Call) span (more callee (more (row ts) none))) = call_holds IsListed g span (typed g callee) (typed_all g ts) (typed_there callee) (all_there ts)
      typed_there (node (form_is.Expr (expr_is.Unary op)) span (more e none)) = typed_there e
      typed_there (node (form_is.Expr (expr_is.Binary op)) span (more a (more b none))) = binary_holds IsListed span op (typed g a) (typed g b) (typed_there a) (typed_there b)
      typed_there _ = tt

      all_there : (ts : Trees) → HoldsOf IsListed (typed_all g ts)
      all_there none = tt
      all_there (more t ts) = (typed_there t, all_there ts)

      pairs_there : (ts : Trees) → HoldsIn IsListed (pairs_typed g ts)
      pairs_there none = tt
      pairs_there (more (node form_is.Pair span (more k (more v none))) ts) = ((typed_there k, typed_there v), pairs_there ts)
      pairs_there (more t ts) = pairs_there ts
