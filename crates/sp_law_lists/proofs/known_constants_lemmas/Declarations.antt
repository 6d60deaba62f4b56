-- Each declaration of a list in which no rule on the names of declarations is broken is fine in its module, and so is each inner unit and
-- enum; and the parts of constants.
use Rattle.std.specs.Prelude.{◌==◌, is_some, not, if◌then◌else◌}
use Rattle.std.specs.List.{list_all}
use Rattle.std.proofs.Common.{ℕ, ◌≡◌, ◌+◌, zero, suc, Bool, true, false, ◌&&◌, ◌||◌, refl, sym, ap, subst, ◌∙◌, arith, List, [], ◌∷◌, ◌++◌, length, take, Option, Some, None, slice_get}
use Rattle.std.proofs.lemmas.Bool.{and_parts, and_from}
use Rattle.std.proofs.lemmas.Bool.Decides.{nat_tests}
use Rattle.sp_base.specs.declared.places.Span.{Span}
use Rattle.sp_ast.specs.Trees.{Tree, Trees, absent, row, node, none, more, span_of}
use Rattle.sp_ast.specs.Slots.{is_formed, are_formed}
use Rattle.sp_ast.specs.Groups.{is_of, fits}
use Rattle.sp_ast.specs.declared.groups.Group.TheVariants as group_is
use Rattle.sp_ast.specs.declared.groups.Sort.TheVariants as slot_is
use Rattle.sp_ast.specs.declared.forms.Form.{Form}
use Rattle.sp_ast.specs.declared.forms.Form.TheVariants as form_is
use Rattle.sp_ast.specs.declared.forms.DeclForm.TheVariants as decl_is
use Rattle.sp_ast.specs.declared.forms.TypeForm.TheVariants as type_is
use Rattle.sp_types.specs.Types.{Ty}
use Rattle.sp_names.specs.declared.rows.Declaration.{Declaration}
use Rattle.sp_names.specs.declared.sort.DeclSort.{DeclSort}
use Rattle.sp_names.specs.declared.sort.DeclSort.TheVariants as sort_is
use Rattle.sp_names.specs.Declarations.{list_of, module_name, module_declarations, type_tree_of, type_sort, sort_of, rows_of, rows_from, rows, module_at, tree_or, declaration_at, if_inner, inner_in, inner_among, parts_of, inside as inside_of, inner_of, declarations}
use Rattle.sp_names.specs.Names.{module_named}
use Rattle.sp_names.specs.Types.{bitfields, bitfields_in, first_placed}
use Rattle.sp_names.specs.Faults.{is_later, is_reserved, faults_in, module_faults, faults_from, name_faults}
use Rattle.sp_ast.specs.Views.{present}
use Rattle.sp_type_values.specs.Valued.{written_tree, value_tree}
use Rattle.sp_law_lists.specs.known_types.Clear.{none_hold}
use Rattle.sp_law_lists.proofs.known_types_lemmas.Full.{never}
use Rattle.sp_law_lists.specs.whole_list.Types.{is_type}
use Rattle.sp_law_lists.proofs.whole_list_lemmas.None.{none_parts}
use Rattle.sp_law_lists.specs.known_constants.Fine.{is_found, IsFine, AreFine}
use Rattle.sp_law_lists.proofs.known_constants_lemmas.Fine.{inside, first, rest, type_fine}

-- what holds of each of a list
abbrev pub AllOf : {A : Type 0} → (A → Type 0) → List A → Type 0
AllOf P [] = Unit {0}
AllOf P (x ∷ xs) = P x × AllOf P xs

pub both_of : {A : Type 0} (P : A → Type 0) (xs ys : List A) → AllOf P xs → AllOf P ys → AllOf P (xs ++ ys)
both_of P [] ys h i = i
both_of P (x ∷ xs) ys h i = (h.0, both_of P xs ys h.1 i)

none_there : {A X : Type 0} (a : A) → None ≡ Some a → X
none_there a e = absurd (let b : ⊥ = (cc) in b)

some_is : {A : Type 0} (a b : A) → Some a ≡ Some b → a ≡ b
some_is a b e = cc

pub at_all : {A : Type 0} (P : A → Type 0) (xs : List A) (n : ℕ) (x : A) → AllOf P xs → slice_get xs n ≡ Some x → P x
at_all P [] n x h e = none_there x e
at_all {A} P (y ∷ xs) zero x h e = subst P (some_is y x e) h.0
at_all P (y ∷ xs) (suc n) x h e = at_all P xs n x h.1 e

-- What holds of some trees holds of each; of a tree it passes to its parts; and it holds of none, and of what is left out.
pub record Passes (P : Tree → Type 0) (All : Trees → Type 0) : Type 0 where
  pub parts : (form : Form) (span : Span) (ts : Trees) → P (node form span ts) → All ts
  pub in_row : (ts : Trees) → P (row ts) → All ts
  pub first : (t : Tree) (ts : Trees) → All (more t ts) → P t
  pub rest : (t : Tree) (ts : Trees) → All (more t ts) → All ts
  pub left_out : P absent
  pub nothing : All none

module _ (P : Tree → Type 0) (All : Trees → Type 0) (passes : Passes P All) where
  itself : (t : Tree) → P t → AllOf P (if_inner t)
  itself (node (form_is.Type type_is.Unit) span ts) h = (h, tt)
  itself (node (form_is.Type type_is.Enum) span ts) h = (h, tt)
  itself (node (form_is.Type _) span ts) h = tt
  itself (node _ span ts) h = tt
  itself absent h = tt
  itself (row ts) h = tt

  mutual
    in_tree : (t : Tree) → P t → AllOf P (inner_in t)
    in_tree absent h = tt
    in_tree (row ts) h = among ts (passes.in_row ts h)
    in_tree (node form span ts) h = both_of P (if_inner (node form span ts)) (inner_among ts) (itself (node form span ts) h) (among ts (passes.parts form span ts h))

    among : (ts : Trees) → All ts → AllOf P (inner_among ts)
    among none h = tt
    among (more t ts) h = both_of P (inner_in t) (inner_among ts) (in_tree t (passes.first t ts h)) (among ts (passes.rest t ts h))

  own_parts : (t : Tree) → P t → All (parts_of t)
  own_parts absent h = passes.nothing
  own_parts (row ts) h = passes.in_row ts h
  own_parts (node form span ts) h = passes.parts form span ts h

  within_passes : (d : Tree) → P d → All (inside_of d)
  within_passes absent h = passes.nothing
  within_passes (row ts) h = passes.in_row ts h
  within_passes (node (form_is.Decl (decl_is.Type public)) span (more name (more t ts))) h =
      own_parts t (passes.first t ts (passes.rest name (more t ts) (passes.parts (form_is.Decl (decl_is.Type public)) span (more name (more t ts)) h)))
  within_passes (node (form_is.Decl (decl_is.Type public)) span (more name none)) h = passes.parts (form_is.Decl (decl_is.Type public)) span (more name none) h
  within_passes (node (form_is.Decl (decl_is.Type public)) span none) h = passes.parts (form_is.Decl (decl_is.Type public)) span none h
  within_passes (node (form_is.Decl form) span ts) h = passes.parts (form_is.Decl form) span ts h
  within_passes (node form span ts) h = passes.parts form span ts h

  -- the inner units and enums of a declaration
  pub inner_pass : (d : Tree) → P d → AllOf P (inner_among (inside_of d))
  inner_pass d h = among (inside_of d) (within_passes d h)

-- in each module what holds there
module _ (P : ℕ → Tree → Type 0) (All : ℕ → Trees → Type 0) (walk : (m : ℕ) → Passes (P m) (All m)) where
  abbrev pub Declares : Declaration → Type 0
  Declares d = P d.«module» d.tree

  placed : (m : ℕ) (ts : List Tree) → AllOf (P m) ts → AllOf Declares (rows_of m ts)
  placed m [] h = tt
  placed m (t ∷ ts) h = (h.0, placed m ts h.1)

  inner_declare : (ds : List Declaration) → AllOf Declares ds → AllOf Declares (inner_of ds)
  inner_declare [] h = tt
  inner_declare (d ∷ ds) h =
      let m = d.«module» in
      let ts = inner_among (inside_of d.tree) in
      both_of Declares (rows_of m ts) (inner_of ds) (placed m ts (inner_pass (P m) (All m) (walk m) d.tree h.0)) (inner_declare ds h.1)

  -- What holds of all declarations of a list holds of all that stands in their row.
  pub rows_declare : (list : List Tree) → AllOf Declares (declarations list) → AllOf Declares (rows list)
  rows_declare list h = both_of Declares (declarations list) (inner_of (declarations list)) h (inner_declare (declarations list) h)

-- a bitfield of a module is found where it begins
begins_at : (t : Tree) (j : ℕ) (ts : List Tree) → is_some (first_placed (span_of t).from j (t ∷ ts)) ≡ true
begins_at t j ts =
    let p = (span_of t).from in
    let e : (p == p) ≡ true = grind (arith, nat_tests) in
    ap (λ b. is_some (if b then Some j else first_placed p (suc j) ts)) e

begins_later : (p j : ℕ) (t : Tree) (ts : List Tree) → ((k : ℕ) → is_some (first_placed p k ts) ≡ true) → is_some (first_placed p j (t ∷ ts)) ≡ true
begins_later p j t ts h = by ((span_of t).from == p)
  where
    by : (b : Bool) → is_some (if b then Some j else first_placed p (suc j) ts) ≡ true
    by true = refl
    by false = h (suc j)

all_placed : (q : Tree → Bool) (ts : List Tree) → ((t : Tree) → ((j : ℕ) → is_some (first_placed (span_of t).from j ts) ≡ true) → q t ≡ true) → list_all q ts ≡ true
all_placed q [] h = refl
all_placed q (t ∷ ts) h =
    and_from (q t) (list_all q ts) (h t (λ j. begins_at t j ts)) (all_placed q ts (λ u g. h u (λ j. begins_later (span_of u).from j t ts g)))

pub all_found : (list : List Tree) (f : ℕ → Option Ty) (m : ℕ) → list_all (is_found list f m) (bitfields_in (module_at list m)) ≡ true
all_found list f m = all_placed (is_found list f m) (bitfields_in (module_at list m)) (λ t h. h (length (bitfields (take m list))))

module _ (list : List Tree) (f : ℕ → Option Ty) where
  abbrev pub DeclaredFine : Declaration → Type 0
  DeclaredFine d = IsFine list f d.«module» d.tree

  row_fine : (m : ℕ) (ts : Trees) → AreFine list f m ts → AllOf DeclaredFine (rows_of m (list_of ts))
  row_fine m none h = tt
  row_fine m (more t ts) h = (first list f m t ts h, row_fine m ts (rest list f m t ts h))

  -- the declarations of a module
  module_fine : (m : ℕ) (t : Tree) → IsFine list f m t → AllOf DeclaredFine (rows_of m (module_declarations t))
  module_fine m absent h = tt
  module_fine m (row ts) h = tt
  module_fine m (node form_is.Module span none) h = tt
  module_fine m (node form_is.Module span (more name none)) h = tt
  module_fine m (node form_is.Module span (more name (more absent ts))) h = tt
  module_fine m (node form_is.Module span (more name (more (node form at us) ts))) h = tt
  module_fine m (node form_is.Module span (more name (more (row ds) ts))) h =
      let p = inside list f m form_is.Module span (more name (more (row ds) ts)) h in
      row_fine m ds (first list f m (row ds) ts (rest list f m name (more (row ds) ts) p))
  module_fine m (node _ span ts) h = tt

  here : (m : ℕ) (t : Tree) (ts : List Tree) → ((j : ℕ) → slice_get list (m + j) ≡ slice_get (t ∷ ts) j) → module_at list m ≡ t
  here m t ts at =
      let e : m ≡ m + 0 = omega arith in
      ap (λ n. tree_or (slice_get list n)) e ∙ ap tree_or (at 0)

  later : (m : ℕ) (t : Tree) (ts : List Tree) → ((j : ℕ) → slice_get list (m + j) ≡ slice_get (t ∷ ts) j) → (j : ℕ) → slice_get list (suc m + j) ≡ slice_get ts j
  later m t ts at j =
      let e : suc m + j ≡ m + suc j = omega arith in
      ap (slice_get list) e ∙ at (suc j)

  modules_fine : (m : ℕ) (ts : List Tree) → ((j : ℕ) → slice_get list (m + j) ≡ slice_get ts j) → list_all is_formed ts ≡ true → none_hold (faults_from list f m ts) ≡ true → AllOf DeclaredFine (rows_from m ts)
  modules_fine m [] at formed names = tt
  modules_fine m (t ∷ ts) at formed names =
      let a = and_parts (is_formed t) (list_all is_formed ts) formed in
      let b = none_parts (module_faults list f m t) (faults_from list f (suc m) ts) names in
      let c = and_parts (not (is_later (module_named list (module_name t)) m || is_reserved (module_name t))) (none_hold (faults_in list f m t)) b.0 in
      let found = ap (λ t. list_all (is_found list f m) (bitfields_in t)) (sym (here m t ts at)) ∙ all_found list f m in
      both_of DeclaredFine (rows_of m (module_declarations t)) (rows_from (suc m) ts) (module_fine m t (a.0, c.1, found)) (modules_fine (suc m) ts (later m t ts at) a.1 b.1)

  pub fine_passes : (m : ℕ) → Passes (IsFine list f m) (AreFine list f m)
  fine_passes m = record {
    parts = inside list f m;
    in_row = λ ts h. h;
    first = first list f m;
    rest = rest list f m;
    left_out = (refl, refl, refl);
    nothing = (refl, refl, refl);
  }

  pub all_fine : list_all is_formed list ≡ true → none_hold (name_faults list f) ≡ true → AllOf DeclaredFine (rows list)
  all_fine formed names =
      rows_declare (IsFine list f) (AreFine list f) fine_passes list (modules_fine 0 list (λ j. (let e : 0 + j ≡ j = omega arith in ap (slice_get list) e)) formed names)

  pub declaration_fine : list_all is_formed list ≡ true → none_hold (name_faults list f) ≡ true → (g : ℕ) (d : Declaration) → declaration_at list g ≡ Some d → IsFine list f d.«module» d.tree
  declaration_fine formed names g d at = at_all DeclaredFine (rows list) g d (all_fine formed names) at

  -- the parts of a constant
  abbrev pub WrittenFine : ℕ → Option Tree → Type 0
  WrittenFine m None = Unit {0}
  WrittenFine m (Some t) = is_type list f m t ≡ true

  abbrev pub ValueFine : ℕ → Tree → Type 0
  ValueFine m t = (is_of group_is.Expressions t ≡ true) × IsFine list f m t

  may_fine : (m : ℕ) (t : Tree) → fits (slot_is.Optional group_is.Types) t ≡ true → IsFine list f m t → WrittenFine m (present t)
  may_fine m absent of h = tt
  may_fine m (row ts) of h = never of
  may_fine m (node form span ts) of h = type_fine list f m (node form span ts) of h

abbrev pub is_constant_sort : DeclSort → Bool
is_constant_sort sort_is.Constant = true
is_constant_sort _ = false

no_type_sort : (t : Tree) → is_constant_sort (type_sort t) ≡ false
no_type_sort (node (form_is.Type type_is.Unit) span ts) = refl
no_type_sort (node (form_is.Type type_is.Enum) span ts) = refl
no_type_sort (node (form_is.Type _) span ts) = refl
no_type_sort (node _ span ts) = refl
no_type_sort absent = refl
no_type_sort (row ts) = refl

-- parts of a wrong number
no_second : {X : Type 0} (a b : Bool) → ((a && false) && b) ≡ true → X
no_second true b e = never e
no_second false b e = never e

no_third : {X : Type 0} (a b c : Bool) → ((a && (b && false)) && c) ≡ true → X
no_third true b c e = no_second b c e
no_third false b c e = never e

no_fourth : {X : Type 0} (a b c d : Bool) → ((a && (b && (c && false))) && d) ≡ true → X
no_fourth true b c d e = no_third b c d e
no_fourth false b c d e = never e

pub constant_parts : (list : List Tree) (f : ℕ → Option Ty) (m : ℕ) (t : Tree) → is_constant_sort (sort_of t) ≡ true → IsFine list f m t
    → WrittenFine list f m (present (written_tree t)) × ValueFine list f m (value_tree t)
constant_parts list f m (node (form_is.Decl (decl_is.Const p)) span none) s h = never h.0
constant_parts list f m (node (form_is.Decl (decl_is.Const p)) span (more name none)) s h = no_second (is_of group_is.Names name) (are_formed (more name none)) h.0
constant_parts list f m (node (form_is.Decl (decl_is.Const p)) span (more name (more w none))) s h =
    no_third (is_of group_is.Names name) (fits (slot_is.Optional group_is.Types) w) (are_formed (more name (more w none))) h.0
constant_parts list f m (node (form_is.Decl (decl_is.Const p)) span (more name (more w (more v (more t ts))))) s h =
    no_fourth (is_of group_is.Names name) (fits (slot_is.Optional group_is.Types) w) (is_of group_is.Expressions v) (are_formed (more name (more w (more v (more t ts))))) h.0
constant_parts list f m (node (form_is.Decl (decl_is.Const p)) span (more name (more w (more v none)))) s h =
    let ts = more name (more w (more v none)) in
    let a = (and_parts (is_of group_is.Names name && (fits (slot_is.Optional group_is.Types) w && (is_of group_is.Expressions v && true))) (are_formed ts) h.0).0 in
    let b = and_parts (is_of group_is.Names name) (fits (slot_is.Optional group_is.Types) w && (is_of group_is.Expressions v && true)) a in
    let c = and_parts (fits (slot_is.Optional group_is.Types) w) (is_of group_is.Expressions v && true) b.1 in
    let d = and_parts (is_of group_is.Expressions v) true c.1 in
    let p = rest list f m name (more w (more v none)) (inside list f m (form_is.Decl (decl_is.Const p)) span ts h) in
    let q = first list f m v none (rest list f m w (more v none) p) in
    (may_fine list f m w c.0 (first list f m w (more v none) p), (d.0, q))
constant_parts list f m (node (form_is.Decl (decl_is.Type p)) span ts) s h =
    never (sym (no_type_sort (type_tree_of (node (form_is.Decl (decl_is.Type p)) span ts))) ∙ s)
constant_parts list f m (node (form_is.Decl _) span ts) s h = never s
constant_parts list f m (node (form_is.Type form) span ts) s h = never (sym (no_type_sort (node (form_is.Type form) span ts)) ∙ s)
constant_parts list f m (node _ span ts) s h = never s
constant_parts list f m absent s h = never s
constant_parts list f m (row ts) s h = never s
