-- What paths name: types, constants, functions and labels, and no other declarations.
use Rattle.std.specs.Prelude.{if◌then◌else◌, codes}
use Rattle.std.specs.Str.{bytes_eq}
use Rattle.std.proofs.Common.{ℕ, ◌≡◌, ◌+◌, zero, suc, Bool, true, false, refl, sym, ap, ◌∙◌, arith, List, [], ◌∷◌, ◌++◌, length, length-append, take, Option, Some, None, slice_get}
use Rattle.sp_ast.specs.Trees.{Tree, absent, row, node}
use Rattle.sp_ast.specs.declared.forms.Form.TheVariants as form_is
use Rattle.sp_ast.specs.declared.forms.DeclForm.TheVariants as decl_is
use Rattle.sp_ast.specs.declared.forms.TypeForm.TheVariants as type_is
use Rattle.sp_types.specs.Types.{Ty}
use Rattle.sp_names.specs.declared.rows.Declaration.{Declaration}
use Rattle.sp_names.specs.declared.sort.DeclSort.{DeclSort}
use Rattle.sp_names.specs.declared.sort.DeclSort.TheVariants as sort_is
use Rattle.sp_names.specs.declared.sort.Meaning.{Meaning}
use Rattle.sp_names.specs.declared.sort.Meaning.TheVariants as meaning_is
use Rattle.sp_names.specs.declared.sort.Scope.{Scope}
use Rattle.sp_names.specs.declared.sort.Scope.TheVariants as scope_is
use Rattle.sp_names.specs.Declarations.{declarations, inner_of, type_tree_of, type_sort, sort_of, sort_or, sort_at, module_declarations, rows_of, rows_from, tree_or, module_at, base}
use Rattle.sp_names.specs.Names.{declared_name, is_name, first_named, declared, visible, place_among, library_names, some_declaration, some_library, named_in, enum_of, own_enum, some_label, label_in, label_of, behind, meaning_or, in_scope, in_own, means}
use Rattle.sp_law_lists.proofs.known_types_lemmas.Full.{never}
use Rattle.sp_law_lists.proofs.whole_list_lemmas.Modules.{none_found, some_found}

abbrev pub is_named_sort : DeclSort → Bool
is_named_sort sort_is.Import = false
is_named_sort sort_is.Property = false
is_named_sort sort_is.Hook = false
is_named_sort _ = true

type_named : (t : Tree) → is_named_sort (type_sort t) ≡ true
type_named (node (form_is.Type type_is.Unit) span ts) = refl
type_named (node (form_is.Type type_is.Enum) span ts) = refl
type_named (node (form_is.Type _) span ts) = refl
type_named (node _ span ts) = refl
type_named absent = refl
type_named (row ts) = refl

-- a tree that gives a name in a module
tree_named : (x : List ℕ) (t : Tree) → is_name x (declared_name t) ≡ true → is_named_sort (sort_of t) ≡ true
tree_named x (node (form_is.Decl (decl_is.Type p)) span ts) e = type_named (type_tree_of (node (form_is.Decl (decl_is.Type p)) span ts))
tree_named x (node (form_is.Decl (decl_is.Const p)) span ts) e = refl
tree_named x (node (form_is.Decl (decl_is.Function p)) span ts) e = refl
tree_named x (node (form_is.Decl _) span ts) e = never e
tree_named x (node _ span ts) e = never e
tree_named x absent e = never e
tree_named x (row ts) e = never e

-- where the first tree of a name stands
record IsFirst (gives : Tree → Option (List ℕ)) (x : List ℕ) (k : ℕ) (ts : List Tree) (g : ℕ) : Type 0 where
  place : ℕ
  tree : Tree
  number : k + place ≡ g
  stands : slice_get ts place ≡ Some tree
  named : is_name x (gives tree) ≡ true

first_at : (gives : Tree → Option (List ℕ)) (x : List ℕ) (k : ℕ) (ts : List Tree) (g : ℕ) → first_named gives x k ts ≡ Some g → IsFirst gives x k ts g
first_at gives x k [] g e = none_found g e
first_at gives x k (t ∷ ts) g e = by (is_name x (gives t)) refl (first_at gives x (suc k) ts g) e
  where
    by : (b : Bool) → is_name x (gives t) ≡ b → (first_named gives x (suc k) ts ≡ Some g → IsFirst gives x (suc k) ts g) → (if b then Some k else first_named gives x (suc k) ts) ≡ Some g → IsFirst gives x k (t ∷ ts) g
    by true is later h =
        let s = some_found k g h in
        record { place = 0; tree = t; number = (let z : k + 0 ≡ g = omega (arith, s) in z); stands = refl; named = is }
    by false is later h =
        let r = later h in
        let s = r.number in
        record { place = suc r.place; tree = r.tree; number = (let z : k + suc r.place ≡ g = omega (arith, s) in z); stands = r.stands; named = r.named }

-- its place among all declarations
in_front : {A : Type 0} (xs ys : List A) (j : ℕ) (x : A) → slice_get xs j ≡ Some x → slice_get (xs ++ ys) j ≡ Some x
in_front [] ys j x e = none_found x e
in_front (y ∷ xs) ys zero x e = e
in_front (y ∷ xs) ys (suc j) x e = in_front xs ys j x e

past_front : {A : Type 0} (xs ys : List A) (n j : ℕ) → n ≡ length xs + j → slice_get (xs ++ ys) n ≡ slice_get ys j
past_front [] ys n j e = (let s : n ≡ j = omega (arith, e) in ap (slice_get ys) s)
past_front (x ∷ xs) ys zero j e = absurd (let z : ⊥ = omega (arith, e) in z)
past_front (x ∷ xs) ys (suc n) j e = past_front xs ys n j (let z : n ≡ length xs + j = omega (arith, e) in z)

row_there : (h : ℕ) (ts : List Tree) (j : ℕ) (t : Tree) → slice_get ts j ≡ Some t → slice_get (rows_of h ts) j ≡ Some (record { «module» = h; tree = t })
row_there h [] j t e = none_found t e
row_there h (x ∷ ts) zero t e = ap (λ y. Some (record { «module» = h; tree = y })) (some_found x t e)
row_there h (x ∷ ts) (suc j) t e = row_there h ts j t e

there : (h : ℕ) (list : List Tree) (m j : ℕ) (t : Tree) → slice_get (module_declarations (tree_or (slice_get list m))) j ≡ Some t
    → (d : Declaration) × (slice_get (rows_from h list) (length (rows_from h (take m list)) + j) ≡ Some d) × (sort_of d.tree ≡ sort_of t)
there h [] m j t e = none_found t e
there h (x ∷ list) zero j t e =
    let s : 0 + j ≡ j = omega arith in
    let d : Declaration = record { «module» = h; tree = t } in (
      d,
      ap (slice_get (rows_of h (module_declarations x) ++ rows_from (suc h) list)) s ∙ in_front (rows_of h (module_declarations x)) (rows_from (suc h) list) j d (row_there h (module_declarations x) j t e),
      refl,
    )
there h (x ∷ list) (suc m) j t e =
    let here = rows_of h (module_declarations x) in
    let later = rows_from (suc h) (take m list) in
    let l = length-append here later in
    let s : length (here ++ later) + j ≡ length here + (length later + j) = omega (arith, l) in
    let r = there (suc h) list m j t e in
    (r.0, past_front here (rows_from (suc h) list) (length (here ++ later) + j) (length later + j) s ∙ r.1, r.2)

module _ (list : List Tree) where
  declared_sort : (m : ℕ) (x : List ℕ) (g : ℕ) → declared list m x ≡ Some g → is_named_sort (sort_at list g) ≡ true
  declared_sort m x g e =
      let r = first_at declared_name x (base list m) (module_declarations (module_at list m)) g e in
      let d = there 0 list m r.place r.tree r.stands in
      let at = in_front (declarations list) (inner_of (declarations list)) (base list m + r.place) d.0 d.1 in
      ap (λ i. is_named_sort (sort_at list i)) (sym r.number) ∙ ap (λ o. is_named_sort (sort_or o)) at ∙ ap is_named_sort d.2 ∙ tree_named x r.tree r.named

  -- what a path means, if that is a declaration, gives a name
  abbrev pub IsNamed : Meaning → Type 0
  IsNamed (meaning_is.Declaration g) = is_named_sort (sort_at list g) ≡ true
  IsNamed _ = Unit {0}

  abbrev MaybeNamed : Option Meaning → Type 0
  MaybeNamed None = Unit {0}
  MaybeNamed (Some w) = IsNamed w

  some_label_named : (owner : ℕ) (o : Option ℕ) → MaybeNamed (some_label owner o)
  some_label_named owner None = tt
  some_label_named owner (Some n) = tt

  label_named : (o : Option ℕ) (x : List ℕ) → MaybeNamed (label_of list o x)
  label_named None x = tt
  label_named (Some owner) x = some_label_named owner (label_in list owner x)

  behind_named : (f : ℕ → Option Ty) (k : ℕ) (o : Option Meaning) (xs : List (List ℕ)) → MaybeNamed o → IsNamed (behind list f k o xs)
  behind_named f k None xs h = tt
  behind_named f k (Some w) [] h = h
  behind_named f k (Some w) (x ∷ xs) h = behind_named f (suc k) (label_of list (enum_of f w) x) xs (label_named (enum_of f w) x)

  declaration_named : (m : ℕ) (x : List ℕ) (o : Option ℕ) → declared list m x ≡ o → MaybeNamed (some_declaration o)
  declaration_named m x None e = tt
  declaration_named m x (Some g) e = declared_sort m x g e

  library_named : (o : Option ℕ) → MaybeNamed (some_library o)
  library_named None = tt
  library_named (Some n) = tt

  decoder_named : (b : Bool) → MaybeNamed (if b then Some meaning_is.Decoder else None)
  decoder_named true = tt
  decoder_named false = tt

  scope_named : (s : Scope) (x : List ℕ) → MaybeNamed (named_in list s x)
  scope_named (scope_is.Module k) x = declaration_named k x (declared list k x) refl
  scope_named scope_is.Spicy x = library_named (place_among x 0 library_names)
  scope_named scope_is.Filter x = decoder_named (bytes_eq x (codes "Base64Decode"))

  inside_named : (f : ℕ → Option Ty) (own : Option ℕ) (scope : Option Scope) (x : List ℕ) (xs : List (List ℕ)) → IsNamed (in_scope list f own scope x xs)
  inside_named f own (Some s) x xs = behind_named f 1 (named_in list s x) xs (scope_named s x)
  inside_named f (Some g) None x xs = tt
  inside_named f None None x xs = tt

  own_named : (f : ℕ → Option Ty) (enum own : Option ℕ) (scope : Option Scope) (x : List ℕ) (xs : List (List ℕ)) → IsNamed (in_own list f enum own scope x xs)
  own_named f (Some n) own scope x xs = behind_named f 1 (label_of list (Some n) x) xs (label_named (Some n) x)
  own_named f None own scope x xs = inside_named f own scope x xs

  first_name : (m k : ℕ) (x : List ℕ) (o : Option ℕ) → declared list m x ≡ o → IsNamed (meaning_or k o)
  first_name m k x None e = tt
  first_name m k x (Some g) e = declared_sort m x g e

  pub means_named : (f : ℕ → Option Ty) (m : ℕ) (xs : List (List ℕ)) → IsNamed (means list f m xs)
  means_named f m [] = tt
  means_named f m (x ∷ []) = first_name m 0 x (declared list m x) refl
  means_named f m (x ∷ (y ∷ ys)) = own_named f (own_enum f (declared list m x)) (declared list m x) (visible list m x) y ys
