-- Each hook of a field has a field: one of its mark stands among the places of hooks.
use Rattle.std.specs.Prelude.{if◌then◌else◌, ◌||◌}
use Rattle.std.proofs.Common.{ℕ, ◌≡◌, ◌+◌, zero, suc, Bool, true, false, refl, sym, ap, subst, ◌∙◌, arith, List, [], ◌∷◌, ◌++◌, Option, Some, None, slice_get}
use Rattle.sp_base.specs.declared.places.Span.{Span}
use Rattle.sp_words.specs.declared.words.HookName.{HookName}
use Rattle.sp_ast.specs.Trees.{Tree, Trees, absent, row, node, none, more}
use Rattle.sp_ast.specs.declared.forms.Form.TheVariants as form_is
use Rattle.sp_ast.specs.declared.forms.DeclForm.TheVariants as decl_is
use Rattle.sp_ast.specs.declared.forms.TypeForm.TheVariants as type_is
use Rattle.sp_ast.specs.declared.forms.TargetForm.TheVariants as target_is
use Rattle.sp_types.specs.Types.{Ty}
use Rattle.sp_typed_units.specs.declared.declarations.HookOf.{HookOf}
use Rattle.sp_typed_units.specs.declared.declarations.HookOf.TheVariants as of_is
use Rattle.sp_names.specs.declared.rows.Declaration.{Declaration}
use Rattle.sp_names.specs.declared.sort.DeclSort.{DeclSort}
use Rattle.sp_names.specs.declared.sort.DeclSort.TheVariants as sort_is
use Rattle.sp_names.specs.Declarations.{rows, all_of, type_sort, type_tree_of, sort_of, declaration_at, number_at}
use Rattle.sp_names.specs.Names.{declaration_of}
use Rattle.sp_type_modules.specs.Members.{members_of, unit_items, unit_in, declared_unit, unit_declaration, numbered}
use Rattle.sp_type_hook_rows.specs.declared.sites.Site.{Site}
use Rattle.sp_type_hook_rows.specs.Sites.{sites_among, sites_of, sites_from, sites}
use Rattle.sp_type_hook_rows.specs.HookRows.{field_among, field_number, plain_of, each_of, field_of, unit_of, target_of, named_unit, unit_hook, member_hook, names_hook, last_of, before_last, declared_of}
use Rattle.sp_type_hooks.specs.Fields.{site_mark}
use Rattle.sp_law_lists.proofs.known_types_lemmas.Full.{never}
use Rattle.sp_law_lists.proofs.whole_list_lemmas.Modules.{none_found, some_found}
use Rattle.sp_law_lists.proofs.known_constants_lemmas.Declarations.{AllOf, at_all}
use Rattle.sp_law_lists.proofs.known_members_lemmas.Shapes.{is_unit_sort}
use Rattle.sp_law_lists.proofs.known_members_lemmas.Units.{IsDeclared, all_declared}
use Rattle.sp_law_lists.proofs.known_hooks_lemmas.Numbers.{unit_number}
use Rattle.sp_law_lists.proofs.known_hooks_lemmas.Marks.{some_marked, marked_behind, marked_before, marked_here}
use Rattle.sp_law_lists.proofs.known_hooks_lemmas.Members.{member_found}

pub unit_is : (s : DeclSort) → is_unit_sort s ≡ true → s ≡ sort_is.Unit
unit_is sort_is.Unit e = refl
unit_is _ e = never e

-- the places in a unit are those of its declaration
pub sites_are : (m n : ℕ) (x : Tree) → is_unit_sort (sort_of x) ≡ true → sites_of m n x ≡ sites_among m n (unit_items (unit_in (type_tree_of x)))
sites_are m n (node (form_is.Decl (decl_is.Type public)) span (more name (more type ts))) s = refl
sites_are m n (node (form_is.Decl (decl_is.Type public)) span none) s = never s
sites_are m n (node (form_is.Decl (decl_is.Type public)) span (more name none)) s = never s
sites_are m n (node (form_is.Decl _) span ts) s = never s
sites_are m n (node (form_is.Type form) span ts) s = refl
sites_are m n (node _ span ts) s = never s
sites_are m n absent s = never s
sites_are m n (row ts) s = never s

module _ (list : List Tree) where
  abbrev pub all : List Site
  all = sites list

  abbrev pub found : ℕ × ℕ × ℕ → Type 0
  found x = some_marked list x all ≡ true

  -- what is marked in a declaration is marked in the list
  declared_found : (x : ℕ × ℕ × ℕ) (h : ℕ) (ds : List Declaration) (j : ℕ) (d : Declaration) → slice_get ds j ≡ Some d → some_marked list x (sites_of d.«module» (number_at list (h + j)) d.tree) ≡ true → some_marked list x (sites_from list h ds) ≡ true
  declared_found x h [] j d at e = none_found d at
  declared_found x h (y ∷ ds) zero d at e =
      let z : h + 0 ≡ h = omega arith in
      let same : y ≡ d = some_found y d at in
      let there = subst (λ i. some_marked list x (sites_of d.«module» (number_at list i) d.tree) ≡ true) z e in
      marked_before list x (sites_of y.«module» (number_at list h) y.tree) (sites_from list (suc h) ds) (subst (λ (w : Declaration). some_marked list x (sites_of w.«module» (number_at list h) w.tree) ≡ true) (sym same) there)
  declared_found x h (y ∷ ds) (suc j) d at e =
      let z : h + suc j ≡ suc h + j = omega arith in
      marked_behind list x (sites_of y.«module» (number_at list h) y.tree) (sites_from list (suc h) ds) (declared_found x (suc h) ds j d at (subst (λ i. some_marked list x (sites_of d.«module» (number_at list i) d.tree) ≡ true) z e))

  -- a field of a unit that has a name
  pub field_found : (n : ℕ) (y : List ℕ) (k : ℕ) → field_number list n y ≡ Some k → found (1, n, k)
  field_found n y k number = by (slice_get (all_of sort_is.Unit list) n) refl
    where
      by : (o : Option ℕ) → slice_get (all_of sort_is.Unit list) n ≡ o → found (1, n, k)
      by None at = none_found k (sym (ap (λ o. field_among (members_of (declared_unit (declaration_of list o))) (numbered y 0 (members_of (declared_unit (declaration_of list o))))) at) ∙ number)
      by (Some g) at =
          let declared = at_all (IsDeclared list) (all_of sort_is.Unit list) n g (all_declared list) at in
          let d = declared.0 in
          let items = unit_items (unit_in (type_tree_of d.tree)) in
          let there : unit_declaration list n ≡ Some d = ap (declaration_of list) at ∙ declared.1 in
          let here = member_found list d.«module» n y k number items (ap (λ o. members_of (declared_unit o)) there) in
          let in_unit : some_marked list (1, n, k) (sites_of d.«module» n d.tree) ≡ true = ap (some_marked list (1, n, k)) (sites_are d.«module» n d.tree declared.2) ∙ here in
          let number_is = unit_number list g d declared.1 (unit_is (sort_of d.tree) declared.2) n at in
          let z : 0 + g ≡ g = omega arith in
          let at_number = subst (λ i. some_marked list (1, n, k) (sites_of d.«module» i d.tree) ≡ true) (sym (ap (number_at list) z ∙ number_is)) in_unit in
          declared_found (1, n, k) 0 (rows list) g d declared.1 at_number

  -- what a hook hangs on is there
  abbrev pub IsSeen : HookOf → Option ℕ → Type 0
  IsSeen (of_is.Field n k) place = found (1, n, k)
  IsSeen (of_is.Anonymous n) None = ⊥
  IsSeen (of_is.Anonymous n) (Some place) = found (2, n, place)
  IsSeen _ place = Unit {0}

  pub plain_seen : (n : ℕ) (y : List ℕ) (place : Option ℕ) → IsSeen (plain_of n (field_number list n y)) place
  plain_seen n y place = by (field_number list n y) refl
    where
      by : (o : Option ℕ) → field_number list n y ≡ o → IsSeen (plain_of n o) place
      by None e = tt
      by (Some k) e = field_found n y k e

  pub each_seen : (n : ℕ) (o : Option ℕ) (place : Option ℕ) → IsSeen (each_of n o) place
  each_seen n None place = tt
  each_seen n (Some k) place = tt

  field_seen : (n : ℕ) (each : Bool) (y : List ℕ) (place : Option ℕ) → IsSeen (field_of n each (field_number list n y)) place
  field_seen n true y place = each_seen n (field_number list n y) place
  field_seen n false y place = plain_seen n y place

  unit_seen : (n : ℕ) (each : Bool) (h : HookName) (place : Option ℕ) → IsSeen (unit_of n each h) place
  unit_seen n true h place = tt
  unit_seen n false h place = tt

  pub target_seen : (n : ℕ) (each : Bool) (x : Tree) (place : Option ℕ) → IsSeen (target_of list n each x) place
  target_seen n each (node (form_is.Target (target_is.Name x)) span ts) place = field_seen n each x place
  target_seen n each (node (form_is.Target (target_is.Hook h)) span ts) place = unit_seen n each h place
  target_seen n each (node _ span ts) place = tt
  target_seen n each absent place = tt
  target_seen n each (row ts) place = tt

  unit_hook_seen : (each : Bool) (h : HookName) (o : Option ℕ) (place : Option ℕ) → IsSeen (unit_hook each h o) place
  unit_hook_seen each h None place = tt
  unit_hook_seen each h (Some n) place = unit_seen n each h place

  member_seen : (each : Bool) (x : List ℕ) (o : Option ℕ) (place : Option ℕ) → IsSeen (member_hook list each x o) place
  member_seen each x None place = tt
  member_seen each x (Some n) place = field_seen n each x place

  pub declared_seen : (f : ℕ → Option Ty) (m : ℕ) (each : Bool) (xs : List (List ℕ)) (name : Tree) (place : Option ℕ) → IsSeen (declared_of list f m each xs name) place
  declared_seen f m each xs (node (form_is.HookName h) span ts) place = unit_hook_seen each h (named_unit list f m xs) place
  declared_seen f m each xs (node _ span ts) place = member_seen each (last_of xs) (named_unit list f m (before_last xs)) place
  declared_seen f m each xs absent place = member_seen each (last_of xs) (named_unit list f m (before_last xs)) place
  declared_seen f m each xs (row ts) place = member_seen each (last_of xs) (named_unit list f m (before_last xs)) place

  -- each field has a mark of its own
  abbrev pub HasOwn : Site → Type 0
  HasOwn s = (x : ℕ × ℕ × ℕ) → site_mark list s ≡ Some x → found x

  each_own : (ss : List Site) → ((x : ℕ × ℕ × ℕ) → some_marked list x ss ≡ true → found x) → AllOf HasOwn ss
  each_own [] up = tt
  each_own (s ∷ ss) up = (λ x e. up x (marked_here list x s ss e), each_own ss (λ x e. up x (marked_behind list x (s ∷ []) ss e)))

  pub all_own : AllOf HasOwn all
  all_own = each_own all (λ x e. e)
