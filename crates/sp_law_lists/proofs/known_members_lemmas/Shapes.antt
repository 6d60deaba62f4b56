-- Trees of units and of fields: each has its parts, as the grammar has them.
use Rattle.std.specs.Prelude.{Bool, true, false, ◌&&◌}
use Rattle.std.proofs.Common.{ℕ, ◌≡◌, refl, ap, ◌∙◌, List, [], ◌∷◌, Option}
use Rattle.std.proofs.lemmas.Bool.{and_parts}
use Rattle.sp_base.specs.declared.places.Span.{Span}
use Rattle.sp_ast.specs.Trees.{Tree, Trees, absent, row, node, none, more}
use Rattle.sp_ast.specs.Slots.{slots, fill, is_formed, are_formed}
use Rattle.sp_ast.specs.Groups.{is_of, are_of, fits}
use Rattle.sp_ast.specs.declared.groups.Group.{Group}
use Rattle.sp_ast.specs.declared.groups.Group.TheVariants as group_is
use Rattle.sp_ast.specs.declared.groups.Sort.{Sort}
use Rattle.sp_ast.specs.declared.groups.Sort.TheVariants as stands
use Rattle.sp_ast.specs.declared.groups.Slot.{Slot}
use Rattle.sp_ast.specs.declared.groups.Slot.TheVariants as slot_is
use Rattle.sp_ast.specs.declared.forms.Form.TheVariants as form_is
use Rattle.sp_ast.specs.declared.forms.DeclForm.TheVariants as decl_is
use Rattle.sp_ast.specs.declared.forms.TypeForm.TheVariants as type_is
use Rattle.sp_types.specs.Types.{Ty}
use Rattle.sp_names.specs.declared.sort.DeclSort.{DeclSort}
use Rattle.sp_names.specs.declared.sort.DeclSort.TheVariants as sort_is
use Rattle.sp_names.specs.Declarations.{type_tree_of, type_sort, sort_of}
use Rattle.sp_type_modules.specs.Members.{unit_in}
use Rattle.sp_law_lists.proofs.known_types_lemmas.Full.{never}
use Rattle.sp_law_lists.specs.known_constants.Fine.{IsFine}
use Rattle.sp_law_lists.proofs.known_constants_lemmas.Fine.{inside, first, rest}

-- parts of a wrong number, behind which all parts are formed
pub no_first : {X : Type 0} (a b : Bool) → ((a && false) && b) ≡ true → X
no_first true b e = never e
no_first false b e = never e

pub no_second : {X : Type 0} (a b c : Bool) → ((a && (b && false)) && c) ≡ true → X
no_second true b c e = no_first b c e
no_second false b c e = never e

pub no_third : {X : Type 0} (a b c d : Bool) → ((a && (b && (c && false))) && d) ≡ true → X
no_third true b c d e = no_second b c d e
no_third false b c d e = never e

-- a part that is there, and those behind it
pub record IsMore (s : Sort) (asked : List Slot) (ts : Trees) : Type 0 where
  pub one : Tree
  pub behind : Trees
  pub is : ts ≡ more one behind
  pub suits : fits s one ≡ true
  pub filled : fill asked behind ≡ true

pub one_more : (s : Sort) (asked : List Slot) (ts : Trees) → fill (slot_is.Part s ∷ asked) ts ≡ true → IsMore s asked ts
one_more s asked none h = never h
one_more s asked (more t us) h =
    let p = and_parts (fits s t) (fill asked us) h in
    record { one = t; behind = us; is = refl; suits = p.0; filled = p.1 }

pub no_more : (ts : Trees) → fill [] ts ≡ true → ts ≡ none
no_more none h = refl
no_more (more t us) h = never h

-- a row of a group
pub record IsRow (g : Group) (t : Tree) : Type 0 where
  pub trees : Trees
  pub is : t ≡ row trees
  pub are : are_of g trees ≡ true

pub row_is : (g : Group) (t : Tree) → fits (stands.Rows g) t ≡ true → IsRow g t
row_is g (row ts) h = record { trees = ts; is = refl; are = h }
row_is g absent h = never h
row_is g (node form span ts) h = never h

-- a unit: its parameters and its items
abbrev pub unit_tree : Span → Trees → Trees → Tree
unit_tree span ps items = node form_is.Unit span (more (row ps) (more (row items) none))

pub record IsUnit (u : Tree) : Type 0 where
  pub span : Span
  pub parameters : Trees
  pub items : Trees
  pub is : u ≡ unit_tree span parameters items

unit_whole : (u : Tree) → is_of group_is.Units u ≡ true → is_formed u ≡ true → IsUnit u
unit_whole (node form_is.Unit span ws) of h =
    let e = (and_parts (fill (slots form_is.Unit) ws) (are_formed ws) h).0 in
    let a = one_more (stands.Rows group_is.Parameters) (slot_is.Part (stands.Rows group_is.Items) ∷ []) ws e in
    let b = one_more (stands.Rows group_is.Items) [] a.behind a.filled in
    let ps = row_is group_is.Parameters a.one a.suits in
    let us = row_is group_is.Items b.one b.suits in
    let behind = b.is ∙ ap (λ t. more t b.behind) us.is ∙ ap (more (row us.trees)) (no_more b.behind b.filled) in
    record {
      span = span;
      parameters = ps.trees;
      items = us.trees;
      is = ap (node form_is.Unit span) (a.is ∙ ap (λ t. more t a.behind) ps.is ∙ ap (more (row ps.trees)) behind);
    }
unit_whole (node _ span ws) of h = never of
unit_whole absent of h = never of
unit_whole (row ws) of h = never of

abbrev pub is_unit_sort : DeclSort → Bool
is_unit_sort sort_is.Unit = true
is_unit_sort _ = false

-- a declaration of a unit
module _ (list : List Tree) (f : ℕ → Option Ty) (m : ℕ) where
  type_of_unit : (x : Tree) → is_unit_sort (sort_of x) ≡ true → IsFine list f m x → IsFine list f m (type_tree_of x) × (is_unit_sort (type_sort (type_tree_of x)) ≡ true)
  type_of_unit (node (form_is.Decl (decl_is.Type p)) span (more name (more t ts))) s h =
      let ws = more name (more t ts) in
      (first list f m t ts (rest list f m name (more t ts) (inside list f m (form_is.Decl (decl_is.Type p)) span ws h)), s)
  type_of_unit (node (form_is.Decl (decl_is.Type p)) span none) s h = never s
  type_of_unit (node (form_is.Decl (decl_is.Type p)) span (more name none)) s h = never s
  type_of_unit (node (form_is.Decl _) span ts) s h = never s
  type_of_unit (node (form_is.Type form) span ts) s h = (h, s)
  type_of_unit (node _ span ts) s h = never s
  type_of_unit absent s h = never s
  type_of_unit (row ts) s h = never s

  unit_fine : (t : Tree) → is_unit_sort (type_sort t) ≡ true → IsFine list f m t → IsFine list f m (unit_in t) × IsUnit (unit_in t)
  unit_fine (node (form_is.Type type_is.Unit) span none) s h = never h.0
  unit_fine (node (form_is.Type type_is.Unit) span (more u ts)) s h =
      let p = and_parts (fill (slots (form_is.Type type_is.Unit)) (more u ts)) (are_formed (more u ts)) h.0 in
      let q = and_parts (is_of group_is.Units u) (fill [] ts) p.0 in
      (first list f m u ts (inside list f m (form_is.Type type_is.Unit) span (more u ts) h), unit_whole u q.0 (and_parts (is_formed u) (are_formed ts) p.1).0)
  unit_fine (node (form_is.Type type_is.Enum) span ts) s h = never s
  unit_fine (node (form_is.Type _) span ts) s h = never s
  unit_fine (node _ span ts) s h = never s
  unit_fine absent s h = never s
  unit_fine (row ts) s h = never s

  -- the unit that it declares is fine, and has its parts
  pub declared_fine : (x : Tree) → is_unit_sort (sort_of x) ≡ true → IsFine list f m x → IsFine list f m (unit_in (type_tree_of x)) × IsUnit (unit_in (type_tree_of x))
  declared_fine x s h =
      let p = type_of_unit x s h in
      unit_fine (type_tree_of x) p.1 p.0

-- a field: its name, what it reads, counts, attributes, its condition, its sink, and hooks
abbrev pub field_parts : Tree → Tree → Trees → Trees → Tree → Tree → Tree → Trees
field_parts name base counts ts condition sink hooks =
    more name (more base (more (row counts) (more (row ts) (more condition (more sink (more hooks none))))))

pub record IsField (ws : Trees) : Type 0 where
  pub name : Tree
  pub base : Tree
  pub counts : Trees
  pub attributes : Trees
  pub condition : Tree
  pub sink : Tree
  pub hooks : Tree
  pub is : ws ≡ field_parts name base counts attributes condition sink hooks

pub field_whole : (ws : Trees) → fill (slots form_is.Field) ws ≡ true → IsField ws
field_whole ws h =
    let expressions = slot_is.Part (stands.Optional group_is.Expressions) in
    let last = slot_is.Part (stands.Rows group_is.HookBodies) ∷ [] in
    let tail = expressions ∷ (expressions ∷ last) in
    let a = one_more (stands.Optional group_is.Names) (slot_is.Part (stands.One group_is.Bases) ∷ (slot_is.Part (stands.Rows group_is.Counts) ∷ (slot_is.Part (stands.Rows group_is.Attributes) ∷ tail))) ws h in
    let b = one_more (stands.One group_is.Bases) (slot_is.Part (stands.Rows group_is.Counts) ∷ (slot_is.Part (stands.Rows group_is.Attributes) ∷ tail)) a.behind a.filled in
    let c = one_more (stands.Rows group_is.Counts) (slot_is.Part (stands.Rows group_is.Attributes) ∷ tail) b.behind b.filled in
    let d = one_more (stands.Rows group_is.Attributes) tail c.behind c.filled in
    let e = one_more (stands.Optional group_is.Expressions) (expressions ∷ last) d.behind d.filled in
    let i = one_more (stands.Optional group_is.Expressions) last e.behind e.filled in
    let j = one_more (stands.Rows group_is.HookBodies) [] i.behind i.filled in
    let counts = row_is group_is.Counts c.one c.suits in
    let attributes = row_is group_is.Attributes d.one d.suits in
    let at_sink = i.is ∙ ap (more i.one) (j.is ∙ ap (more j.one) (no_more j.behind j.filled)) in
    let at_condition = e.is ∙ ap (more e.one) at_sink in
    let at_attributes = d.is ∙ ap (λ t. more t d.behind) attributes.is ∙ ap (more (row attributes.trees)) at_condition in
    let at_counts = c.is ∙ ap (λ t. more t c.behind) counts.is ∙ ap (more (row counts.trees)) at_attributes in
    record {
      name = a.one;
      base = b.one;
      counts = counts.trees;
      attributes = attributes.trees;
      condition = e.one;
      sink = i.one;
      hooks = j.one;
      is = a.is ∙ ap (more a.one) (b.is ∙ ap (more b.one) at_counts);
    }
