-- Tries ask for nothing that they don't name.
use Rattle.std.proofs.Common.{ℕ, ◌≡◌, ◌≤◌, ◌<◌, ◌+◌, zero, suc, Bool, true, false, refl, sym, ap, subst, ◌∙◌, arith, List, [], ◌∷◌, ◌++◌, length, take, Option, Some, None, slice_get, ◌⊎◌, inl, inr}
use Rattle.std.specs.Prelude.{if◌then◌else◌, codes}
use Rattle.std.specs.Str.{bytes_eq}
use Rattle.std.proofs.lemmas.List.{length-append}
use Rattle.sp_ast.specs.Trees.{Tree, Trees, absent, row, node, none, more}
use Rattle.sp_ast.specs.declared.forms.Form.TheVariants as form_is
use Rattle.sp_ast.specs.declared.forms.TypeForm.TheVariants as type_is
use Rattle.sp_types.specs.Types.{Ty, Tys, made}
use Rattle.sp_types.specs.Types as types
use Rattle.sp_types.specs.declared.words.Maker.TheVariants as maker_is
use Rattle.sp_solver.specs.declared.attempt.Attempt.{Attempt}
use Rattle.sp_solver.specs.declared.attempt.Attempt.TheVariants.{Done, Waits}
use Rattle.sp_solver.specs.Rounds.{Within, IsFair}
use Rattle.sp_names.specs.declared.rows.Declaration.{Declaration}
use Rattle.sp_names.specs.declared.sort.DeclSort.{DeclSort}
use Rattle.sp_names.specs.declared.sort.DeclSort.TheVariants as sort_is
use Rattle.sp_names.specs.declared.sort.Meaning.{Meaning}
use Rattle.sp_names.specs.declared.sort.Meaning.TheVariants as meaning_is
use Rattle.sp_names.specs.declared.sort.Scope.{Scope}
use Rattle.sp_names.specs.declared.sort.Scope.TheVariants as scope_is
use Rattle.sp_names.specs.Declarations.{declarations, inner_of, rows, rows_of, rows_from, base, module_at, module_declarations, declaration_at, sort_of, type_tree_of}
use Rattle.sp_names.specs.Names.{is_name, first_named, declared_name, declared, visible, place_among, library_names, label_in, some_declaration, some_library, some_label, named_in, enum_type, enum_of, own_enum, label_of, behind, in_scope, in_own, meaning_or, means, path_names}
use Rattle.sp_names.specs.Types.{whole_type, meaning_type, or_unknown, type_in, types_in, one_or_none, named_numbers, mentions, mentions_in, mentions_among}
use Rattle.sp_names.specs.Aliases.{open_or, first_open, sort_asks, asks, sort_type, when_open, nowhere, try_one, tries, ready}

pub none_some : {A : Type 0} (o : Option A) (a : A) → o ≡ None → o ≡ Some a → ⊥
none_some o a n s = (let x : None ≡ Some a = sym n ∙ s in cc)

done_waits : {A : Type 0} (a : A) (j : ℕ) → Done a ≡ Waits j → ⊥
done_waits a j e = cc

waits_is : {A : Type 0} (i j : ℕ) → (let x : Attempt A = Waits i in let y : Attempt A = Waits j in x ≡ y) → i ≡ j
waits_is i j e = cc

done_is : {A : Type 0} (a b : A) → Done a ≡ Done b → a ≡ b
done_is a b e = cc

pub some_is : {A : Type 0} (a b : A) → Some a ≡ Some b → a ≡ b
some_is a b e = cc

pub by_option : {A : Type 0} (P : Type 0) (o : Option A) → (o ≡ None → P) → ((a : A) → o ≡ Some a → P) → P
by_option P None n s = n refl
by_option P (Some a) n s = s a refl

-- all have answers
pub open_none : (f : ℕ → Option Ty) (j : ℕ) (js : List ℕ) → first_open f (j ∷ js) ≡ None → ((a : Ty) × (f j ≡ Some a)) × (first_open f js ≡ None)
open_none f j js e = by_option (((a : Ty) × (f j ≡ Some a)) × (first_open f js ≡ None)) (f j)
    (λ n. absurd (none_some (first_open f (j ∷ js)) j e (ap (λ o. open_or o j (first_open f js)) n)))
    (λ a s. ((a, s), sym (ap (λ o. open_or o j (first_open f js)) s) ∙ e))

pub none_open : (f : ℕ → Option Ty) (j : ℕ) (js : List ℕ) (a : Ty) → f j ≡ Some a → first_open f js ≡ None → first_open f (j ∷ js) ≡ None
none_open f j js a s e = ap (λ o. open_or o j (first_open f js)) s ∙ e

pub open_kept : (f g : ℕ → Option Ty) (js : List ℕ) → Within f g → first_open f js ≡ None → first_open g js ≡ None
open_kept f g [] w e = refl
open_kept f g (j ∷ js) w e = (let o = open_none f j js e in none_open g j js o.0.0 (w j o.0.0 o.0.1) (open_kept f g js w o.1))

open_left : (f : ℕ → Option Ty) (xs ys : List ℕ) → first_open f (xs ++ ys) ≡ None → first_open f xs ≡ None
open_left f [] ys e = refl
open_left f (x ∷ xs) ys e = (let o = open_none f x (xs ++ ys) e in none_open f x xs o.0.0 o.0.1 (open_left f xs ys o.1))

open_right : (f : ℕ → Option Ty) (xs ys : List ℕ) → first_open f (xs ++ ys) ≡ None → first_open f ys ≡ None
open_right f [] ys e = e
open_right f (x ∷ xs) ys e = open_right f xs ys (open_none f x (xs ++ ys) e).1

-- the first that has no answer stays the first while it has none
open_stays : (f g : ℕ → Option Ty) (js : List ℕ) (j : ℕ) → Within f g → first_open f js ≡ Some j → g j ≡ None → first_open g js ≡ Some j
open_stays f g [] j w e n = absurd (none_some None j refl e)
open_stays f g (x ∷ js) j w e n = by_option (first_open g (x ∷ js) ≡ Some j) (f x)
    (λ u. (
    let is : x ≡ j = some_is x j (sym (ap (λ o. open_or o x (first_open f js)) u) ∙ e) in
    ap (λ o. open_or o x (first_open g js)) (ap g is ∙ n) ∙ ap Some is))
    (λ a s. ap (λ o. open_or o x (first_open g js)) (w x a s) ∙ open_stays f g js j w (sym (ap (λ o. open_or o x (first_open f js)) s) ∙ e) n)

open_cases : (f : ℕ → Option Ty) (xs ys : List ℕ) (j : ℕ) → first_open f (xs ++ ys) ≡ Some j → (first_open f xs ≡ Some j) ⊎ (first_open f ys ≡ Some j)
open_cases f [] ys j e = inr e
open_cases f (x ∷ xs) ys j e = by_option ((first_open f (x ∷ xs) ≡ Some j) ⊎ (first_open f ys ≡ Some j)) (f x)
    (λ u. inl (ap (λ o. open_or o x (first_open f xs)) u ∙ sym (ap (λ o. open_or o x (first_open f (xs ++ ys))) u) ∙ e))
    (λ a s. elim (open_cases f xs ys j (sym (ap (λ o. open_or o x (first_open f (xs ++ ys))) s) ∙ e)) [
      | inl l ↦ inl (ap (λ o. open_or o x (first_open f xs)) s ∙ l)
      | inr r ↦ inr r
    ])

pub open_is : (f : ℕ → Option Ty) (js : List ℕ) (j : ℕ) → first_open f js ≡ Some j → f j ≡ None
open_is f [] j e = absurd (none_some None j refl e)
open_is f (x ∷ js) j e = by_option (f j ≡ None) (f x)
    (λ u. (let is : x ≡ j = some_is x j (sym (ap (λ o. open_or o x (first_open f js)) u) ∙ e) in ap f (sym is) ∙ u))
    (λ a s. open_is f js j (sym (ap (λ o. open_or o x (first_open f js)) s) ∙ e))

-- The type of a path hangs on the answers of what it mentions alone. Two answers agree on a meaning where they have one answer
-- for the declaration that it is.
abbrev Agree : (ℕ → Option Ty) → (ℕ → Option Ty) → Option Meaning → Type 0
Agree f g (Some (meaning_is.Declaration d)) = f d ≡ g d
Agree f g _ = Unit {0}

one_enum : (f g : ℕ → Option Ty) (m : Meaning) → Agree f g (Some m) → enum_of f m ≡ enum_of g m
one_enum f g (meaning_is.Declaration d) a = ap enum_type a
one_enum f g _ a = refl

one_type : (f g : ℕ → Option Ty) (m : Meaning) → Agree f g (Some m) → meaning_type f m ≡ meaning_type g m
one_type f g (meaning_is.Declaration d) a = ap or_unknown a
one_type f g _ a = refl

label_agrees : (list : List Tree) (f g : ℕ → Option Ty) (o : Option ℕ) (x : List ℕ) → Agree f g (label_of list o x)
label_agrees list f g None x = tt
label_agrees list f g (Some n) x = of_some n (label_in list n x)
  where
    of_some : (n : ℕ) (o : Option ℕ) → Agree f g (some_label n o)
    of_some n None = tt
    of_some n (Some k) = tt

behind_same : (list : List Tree) (f g : ℕ → Option Ty) (k : ℕ) (o : Option Meaning) (xs : List (List ℕ)) → Agree f g o → meaning_type f (behind list f k o xs) ≡ meaning_type g (behind list g k o xs)
behind_same list f g k None xs a = refl
behind_same list f g k (Some m) [] a = one_type f g m a
behind_same list f g k (Some m) (x ∷ xs) a =
    behind_same list f g (suc k) (label_of list (enum_of f m) x) xs (label_agrees list f g (enum_of f m) x)
    ∙ ap (λ o. meaning_type g (behind list g (suc k) (label_of list o x) xs)) (one_enum f g m a)

known_both : (f g : ℕ → Option Ty) (o : Option ℕ) → Within f g → first_open f (one_or_none o) ≡ None → Agree f g (some_declaration o)
known_both f g None w e = tt
known_both f g (Some d) w e = (let a = (open_none f d [] e).0 in a.1 ∙ sym (w d a.0 a.1))

scope_agrees : (list : List Tree) (f g : ℕ → Option Ty) (s : Scope) (x : List ℕ) → Within f g → first_open f (named_numbers list (Some s) x) ≡ None → Agree f g (named_in list s x)
scope_agrees list f g (scope_is.Module k) x w e = known_both f g (declared list k x) w e
scope_agrees list f g scope_is.Spicy x w e = of_some (place_among x 0 library_names)
  where
    of_some : (o : Option ℕ) → Agree f g (some_library o)
    of_some None = tt
    of_some (Some n) = tt
scope_agrees list f g scope_is.Filter x w e = of_bool (bytes_eq x (codes "Base64Decode"))
  where
    of_bool : (b : Bool) → Agree f g (if b then Some meaning_is.Decoder else None)
    of_bool true = tt
    of_bool false = tt

own_same : (f g : ℕ → Option Ty) (o : Option ℕ) → Agree f g (some_declaration o) → own_enum f o ≡ own_enum g o
own_same f g None a = refl
own_same f g (Some d) a = ap enum_type a

in_scope_same : (list : List Tree) (f g : ℕ → Option Ty) (own : Option ℕ) (scope : Option Scope) (x : List ℕ) (xs : List (List ℕ)) → Within f g → first_open f (named_numbers list scope x) ≡ None
    → meaning_type f (in_scope list f own scope x xs) ≡ meaning_type g (in_scope list g own scope x xs)
in_scope_same list f g own (Some s) x xs w e = behind_same list f g 1 (named_in list s x) xs (scope_agrees list f g s x w e)
in_scope_same list f g (Some d) None x xs w e = refl
in_scope_same list f g None None x xs w e = refl

in_own_same : (list : List Tree) (f g : ℕ → Option Ty) (enum own : Option ℕ) (scope : Option Scope) (x : List ℕ) (xs : List (List ℕ)) → Within f g → first_open f (named_numbers list scope x) ≡ None
    → meaning_type f (in_own list f enum own scope x xs) ≡ meaning_type g (in_own list g enum own scope x xs)
in_own_same list f g (Some n) own scope x xs w e = behind_same list f g 1 (label_of list (Some n) x) xs (label_agrees list f g (Some n) x)
in_own_same list f g None own scope x xs w e = in_scope_same list f g own scope x xs w e

names_same : (list : List Tree) (f g : ℕ → Option Ty) (m : ℕ) (names : List (List ℕ)) → Within f g → first_open f (mentions list m names) ≡ None → meaning_type f (means list f m names) ≡ meaning_type g (means list g m names)
names_same list f g m [] w e = refl
names_same list f g m (x ∷ []) w e = of_one (declared list m x) (known_both f g (declared list m x) w e)
  where
    of_one : (o : Option ℕ) → Agree f g (some_declaration o) → meaning_type f (meaning_or 0 o) ≡ meaning_type g (meaning_or 0 o)
    of_one None a = refl
    of_one (Some d) a = ap or_unknown a
names_same list f g m (x ∷ (y ∷ ys)) w e =
    let own = declared list m x in
    let scope = visible list m x in
    let a = known_both f g own w (open_left f (one_or_none own) (named_numbers list scope y) e) in
    in_own_same list f g (own_enum f own) own scope y ys w (open_right f (one_or_none own) (named_numbers list scope y) e)
    ∙ ap (λ o. meaning_type g (in_own list g o own scope y ys)) (own_same f g own a)

-- and so does the type of a tree
mutual
  type_same : (list : List Tree) (f g : ℕ → Option Ty) (m : ℕ) (t : Tree) → Within f g → first_open f (mentions_in list m t) ≡ None → type_in list f m t ≡ type_in list g m t
  type_same list f g m absent w e = refl
  type_same list f g m (row ts) w e = refl
  type_same list f g m (node (form_is.Type type_is.Path) span (more path ts)) w e = names_same list f g m (path_names path) w e
  type_same list f g m (node (form_is.Type type_is.Tuple) span ts) w e = ap (whole_type maker_is.Tuple) (types_same list f g m ts w e)
  type_same list f g m (node (form_is.Type type_is.Vector) span ts) w e = ap (whole_type maker_is.Vector) (types_same list f g m ts w e)
  type_same list f g m (node (form_is.Type type_is.Set) span ts) w e = ap (whole_type maker_is.Set) (types_same list f g m ts w e)
  type_same list f g m (node (form_is.Type type_is.Map) span ts) w e = ap (whole_type maker_is.Map) (types_same list f g m ts w e)
  type_same list f g m (node _ span ts) w e = refl

  types_same : (list : List Tree) (f g : ℕ → Option Ty) (m : ℕ) (ts : Trees) → Within f g → first_open f (mentions_among list m ts) ≡ None → types_in list f m ts ≡ types_in list g m ts
  types_same list f g m none w e = refl
  types_same list f g m (more t ts) w e =
      let x = type_same list f g m t w (open_left f (mentions_in list m t) (mentions_among list m ts) e) in
      let y = types_same list f g m ts w (open_right f (mentions_in list m t) (mentions_among list m ts) e) in
      ap (λ u. types.more u (types_in list f m ts)) x ∙ ap (types.more (type_in list g m t)) y

-- what is mentioned is a declaration
length_rows_of : (m : ℕ) (ds : List Tree) → length (rows_of m ds) ≡ length ds
length_rows_of m [] = refl
length_rows_of m (d ∷ ds) = ap suc (length_rows_of m ds)

base_within : (s : ℕ) (list : List Tree) (m : ℕ) → length (rows_from s (take m list)) + length (module_declarations (module_at list m)) ≤ length (rows_from s list)
base_within s [] zero = omega arith
base_within s [] (suc m) = omega arith
base_within s (t ∷ ts) zero = (
    let a = length-append (rows_of s (module_declarations t)) (rows_from (suc s) ts) in
    let b = length_rows_of s (module_declarations t) in
    omega (arith, a, b))
base_within s (t ∷ ts) (suc m) = (
    let a = length-append (rows_of s (module_declarations t)) (rows_from (suc s) (take m ts)) in
    let b = length-append (rows_of s (module_declarations t)) (rows_from (suc s) ts) in
    let c = base_within (suc s) ts m in
    omega (arith, a, b, c))

first_within : (gives : Tree → Option (List ℕ)) (x : List ℕ) (k : ℕ) (ts : List Tree) (g : ℕ) → first_named gives x k ts ≡ Some g → g < k + length ts
first_within gives x k [] g e = absurd (none_some None g refl e)
first_within gives x k (t ∷ ts) g e = elim (is_name x (gives t)) as (λ b. (if b then Some k else first_named gives x (suc k) ts) ≡ Some g → g < k + length (t ∷ ts)) [
  | true ↦ λ h. (let i : k ≡ g = some_is k g h in omega (arith, i))
  | false ↦ λ h. (let l = first_within gives x (suc k) ts g h in omega (arith, l))
] e

declared_within : (list : List Tree) (m : ℕ) (x : List ℕ) (g : ℕ) → declared list m x ≡ Some g → g < length (rows list)
declared_within list m x g e =
    let a = first_within declared_name x (base list m) (module_declarations (module_at list m)) g e in
    let b = base_within 0 list m in
    let c = length-append (declarations list) (inner_of (declarations list)) in
    omega (arith, a, b, c)

one_within : (list : List Tree) (f : ℕ → Option Ty) (m : ℕ) (x : List ℕ) (j : ℕ) → first_open f (one_or_none (declared list m x)) ≡ Some j → j < length (rows list)
one_within list f m x j e = by_option (j < length (rows list)) (declared list m x)
    (λ n. absurd (none_some None j refl (sym (ap (λ o. first_open f (one_or_none o)) n) ∙ e)))
    (λ g s. only g (declared_within list m x g s) (sym (ap (λ o. first_open f (one_or_none o)) s) ∙ e))
  where
    only : (g : ℕ) → g < length (rows list) → first_open f (g ∷ []) ≡ Some j → j < length (rows list)
    only g lt h = by_option (j < length (rows list)) (f g)
        (λ u. subst (λ v. v < length (rows list)) (some_is g j (sym (ap (λ o. open_or o g None) u) ∙ h)) lt)
        (λ a s. absurd (none_some None j refl (sym (ap (λ o. open_or o g None) s) ∙ h)))

scope_within : (list : List Tree) (f : ℕ → Option Ty) (s : Option Scope) (x : List ℕ) (j : ℕ) → first_open f (named_numbers list s x) ≡ Some j → j < length (rows list)
scope_within list f (Some (scope_is.Module k)) x j e = one_within list f k x j e
scope_within list f (Some scope_is.Spicy) x j e = absurd (none_some None j refl e)
scope_within list f (Some scope_is.Filter) x j e = absurd (none_some None j refl e)
scope_within list f None x j e = absurd (none_some None j refl e)

names_within : (list : List Tree) (f : ℕ → Option Ty) (m : ℕ) (names : List (List ℕ)) (j : ℕ) → first_open f (mentions list m names) ≡ Some j → j < length (rows list)
names_within list f m [] j e = absurd (none_some None j refl e)
names_within list f m (x ∷ []) j e = one_within list f m x j e
names_within list f m (x ∷ (y ∷ ys)) j e = elim (open_cases f (one_or_none (declared list m x)) (named_numbers list (visible list m x) y) j e) [
  | inl l ↦ one_within list f m x j l
  | inr r ↦ scope_within list f (visible list m x) y j r
]

mutual
  tree_within : (list : List Tree) (f : ℕ → Option Ty) (m : ℕ) (t : Tree) (j : ℕ) → first_open f (mentions_in list m t) ≡ Some j → j < length (rows list)
  tree_within list f m absent j e = absurd (none_some None j refl e)
  tree_within list f m (row ts) j e = absurd (none_some None j refl e)
  tree_within list f m (node (form_is.Type type_is.Path) span (more path ts)) j e = names_within list f m (path_names path) j e
  tree_within list f m (node (form_is.Type type_is.Tuple) span ts) j e = trees_within list f m ts j e
  tree_within list f m (node (form_is.Type type_is.Vector) span ts) j e = trees_within list f m ts j e
  tree_within list f m (node (form_is.Type type_is.Set) span ts) j e = trees_within list f m ts j e
  tree_within list f m (node (form_is.Type type_is.Map) span ts) j e = trees_within list f m ts j e
  tree_within list f m (node _ span ts) j e = absurd (none_some None j refl e)

  trees_within : (list : List Tree) (f : ℕ → Option Ty) (m : ℕ) (ts : Trees) (j : ℕ) → first_open f (mentions_among list m ts) ≡ Some j → j < length (rows list)
  trees_within list f m none j e = absurd (none_some None j refl e)
  trees_within list f m (more t ts) j e = elim (open_cases f (mentions_in list m t) (mentions_among list m ts) j e) [
    | inl l ↦ tree_within list f m t j l
    | inr r ↦ trees_within list f m ts j r
  ]

asks_within : (list : List Tree) (f : ℕ → Option Ty) (d : Declaration) (s : DeclSort) (j : ℕ) → first_open f (sort_asks list d s) ≡ Some j → j < length (rows list)
asks_within list f d sort_is.Alias j e = tree_within list f d.«module» (type_tree_of d.tree) j e
asks_within list f d _ j e = absurd (none_some None j refl e)

sort_same : (list : List Tree) (f g : ℕ → Option Ty) (i : ℕ) (d : Declaration) (s : DeclSort) → Within f g → first_open f (sort_asks list d s) ≡ None → sort_type list f i d s ≡ sort_type list g i d s
sort_same list f g i d sort_is.Alias w e = type_same list f g d.«module» (type_tree_of d.tree) w e
sort_same list f g i d _ w e = refl

-- tries
pub when_done : (t a : Ty) (o : Option ℕ) → when_open t o ≡ Done a → (o ≡ None) × (t ≡ a)
when_done t a None e = (refl, done_is t a e)
when_done t a (Some j) e = absurd (done_waits a j (sym e))

pub when_waits : (t : Ty) (o : Option ℕ) (j : ℕ) → when_open t o ≡ Waits j → o ≡ Some j
when_waits t None j e = absurd (done_waits t j e)
when_waits t (Some k) j e = ap Some (waits_is k j e)

nowhere_done : (o : Option Ty) (i : ℕ) (a : Ty) → nowhere o i ≡ Done a → o ≡ Some a
nowhere_done None i a e = absurd (done_waits a i (sym e))
nowhere_done (Some b) i a e = ap Some (done_is b a e)

nowhere_waits : (o : Option Ty) (i j : ℕ) → nowhere o i ≡ Waits j → (o ≡ None) × (i ≡ j)
nowhere_waits None i j e = (refl, waits_is i j e)
nowhere_waits (Some b) i j e = absurd (done_waits b j e)

try_keeps : (list : List Tree) (f g : ℕ → Option Ty) (i : ℕ) (d : Option Declaration) (a : Ty) → Within f g → try_one list f i d ≡ Done a → try_one list g i d ≡ Done a
try_keeps list f g i None a w e = ap (λ o. nowhere o i) (w i a (nowhere_done (f i) i a e))
try_keeps list f g i (Some d) a w e =
    let s = sort_of d.tree in
    let o = when_done (sort_type list f i d s) a (first_open f (sort_asks list d s)) e in
    ap (when_open (sort_type list g i d s)) (open_kept f g (sort_asks list d s) w o.0) ∙ ap Done (sym (sort_same list f g i d s w o.0) ∙ o.1)

try_waits : (list : List Tree) (f g : ℕ → Option Ty) (i : ℕ) (d : Option Declaration) (j : ℕ) → Within f g → try_one list f i d ≡ Waits j → g j ≡ None → try_one list g i d ≡ Waits j
try_waits list f g i None j w e u = (let s = nowhere_waits (f i) i j e in ap (λ o. nowhere o i) (ap g s.1 ∙ u) ∙ ap Waits s.1)
try_waits list f g i (Some d) j w e u =
    let s = sort_of d.tree in
    ap (when_open (sort_type list g i d s)) (open_stays f g (sort_asks list d s) j w (when_waits (sort_type list f i d s) (first_open f (sort_asks list d s)) j e) u)

try_unknown : (list : List Tree) (f : ℕ → Option Ty) (i : ℕ) (d : Option Declaration) (j : ℕ) → try_one list f i d ≡ Waits j → f j ≡ None
try_unknown list f i None j e = (let s = nowhere_waits (f i) i j e in ap f (sym s.1) ∙ s.0)
try_unknown list f i (Some d) j e =
    let s = sort_of d.tree in
    open_is f (sort_asks list d s) j (when_waits (sort_type list f i d s) (first_open f (sort_asks list d s)) j e)

pub is_fair : (list : List Tree) → IsFair (tries list)
is_fair list = record {
  keeps = λ f g i a w e. try_keeps list f g i (declaration_at list i) a w e;
  waits = λ f g i j w e u. try_waits list f g i (declaration_at list i) j w e u;
  unknown = λ f i j e. try_unknown list f i (declaration_at list i) j e;
}

pub past : {X : Type 0} (xs : List X) (i : ℕ) → length xs ≤ i → slice_get xs i ≡ None
past [] i le = refl
past (x ∷ xs) zero le = absurd (let z : ⊥ = omega (arith, le) in z)
past (x ∷ xs) (suc i) le = past xs i (omega (arith, le))

pub here : {X : Type 0} (xs : List X) (i : ℕ) → i < length xs → (x : X) × (slice_get xs i ≡ Some x)
here [] i lt = absurd (let z : ⊥ = omega (arith, lt) in z)
here (x ∷ xs) zero lt = (x, refl)
here (x ∷ xs) (suc i) lt = here xs i (omega (arith, lt))

pub is_outside : (list : List Tree) (f : ℕ → Option Ty) (i : ℕ) → length (rows list) ≤ i → f i ≡ None → (j : ℕ) × (tries list f i ≡ Waits j)
is_outside list f i le u = (i, ap (try_one list f i) (past (rows list) i le) ∙ ap (λ o. nowhere o i) u)

pub is_inside : (list : List Tree) (f : ℕ → Option Ty) (i j : ℕ) → i < length (rows list) → tries list f i ≡ Waits j → j < length (rows list)
is_inside list f i j lt e =
    let h = here (rows list) i lt in
    let s = sort_of h.0.tree in
    asks_within list f h.0 s j (when_waits (sort_type list f i h.0 s) (first_open f (sort_asks list h.0 s)) j (sym (ap (try_one list f i) h.1) ∙ e))

pub is_first : (list : List Tree) (f : ℕ → Option Ty) (i : ℕ) → ready list f i 0
is_first list f i = refl

pub is_later : (list : List Tree) (f g : ℕ → Option Ty) (i m : ℕ) → Within f g → ready list f i m → ready list g i m
is_later list f g i m w r = open_kept f g (take m (asks list (declaration_at list i))) w r
