-- Aliases at which no test holds: each has an answer, and is written as a type may be.
use Rattle.std.specs.Prelude.{not, is_some}
use Rattle.std.proofs.Common.{ℕ, ◌≡◌, ◌+◌, zero, suc, Bool, true, false, ◌&&◌, refl, sym, ap, ◌∙◌, arith, List, [], ◌∷◌, ◌++◌, Option, Some, slice_get}
use Rattle.std.proofs.lemmas.Bool.{and_parts}
use Rattle.sp_ast.specs.Trees.{Tree, absent, row, node, none, more}
use Rattle.sp_ast.specs.Slots.{fill, are_formed}
use Rattle.sp_ast.specs.Groups.{is_of}
use Rattle.sp_ast.specs.declared.groups.Group.TheVariants as group_is
use Rattle.sp_ast.specs.declared.forms.Form.TheVariants as form_is
use Rattle.sp_ast.specs.declared.forms.DeclForm.TheVariants as decl_is
use Rattle.sp_types.specs.Types.{Ty}
use Rattle.sp_names.specs.declared.rows.Declaration.{Declaration}
use Rattle.sp_names.specs.Declarations.{rows, declaration_at, sort_of, type_tree_of}
use Rattle.sp_type_context.specs.declared.places.Place.TheVariants.{Whole}
use Rattle.sp_type_modules.specs.Written.{written_in}
use Rattle.sp_rule_bodies.specs.Values.{written_tests}
use Rattle.sp_type_declarations.specs.Aliases.{is_alias, alias, if_alias, aliases_from, aliases}
use Rattle.sp_rule_lists.specs.Lists.{all_tests}
use Rattle.sp_rule_lists.specs.Bodies.{alias_tests}
use Rattle.sp_law_lists.specs.known_types.Clear.{none_hold}
use Rattle.sp_law_lists.proofs.known_types_lemmas.Full.{never}
use Rattle.sp_law_lists.specs.whole_list.Known.{Stands}
use Rattle.sp_law_lists.specs.whole_list.Types.{is_type}
use Rattle.sp_law_lists.proofs.whole_list_lemmas.None.{none_parts}
use Rattle.sp_law_lists.proofs.whole_list_lemmas.Functions.{placed}
use Rattle.sp_law_lists.proofs.whole_list_lemmas.Modules.{none_found, some_found}
use Rattle.sp_law_lists.specs.known_constants.Fine.{IsFine}
use Rattle.sp_law_lists.proofs.known_constants_lemmas.Fine.{inside, first, rest, formed, type_fine}

no_second : {X : Type 0} (a b : Bool) → ((a && false) && b) ≡ true → X
no_second true b e = never e
no_second false b e = never e

twice_not : (b : Bool) → not (not b) ≡ true → b ≡ true
twice_not true e = refl
twice_not false e = never e

module _ (list : List Tree) (f : ℕ → Option Ty) where
  -- the type that an alias is
  alias_type : (m : ℕ) (t : Tree) → is_alias (sort_of t) ≡ true → IsFine list f m t → is_type list f m (type_tree_of t) ≡ true
  alias_type m (node (form_is.Decl (decl_is.Type p)) span none) s h = never h.0
  alias_type m (node (form_is.Decl (decl_is.Type p)) span (more name none)) s h = no_second (is_of group_is.Names name) (are_formed (more name none)) h.0
  alias_type m (node (form_is.Decl (decl_is.Type p)) span (more name (more t ts))) s h =
      let all = more name (more t ts) in
      let a = and_parts (is_of group_is.Names name) (is_of group_is.Types t && fill [] ts) (formed list f m (form_is.Decl (decl_is.Type p)) span all h) in
      let q = rest list f m name (more t ts) (inside list f m (form_is.Decl (decl_is.Type p)) span all h) in
      type_fine list f m t (and_parts (is_of group_is.Types t) (fill [] ts) a.1).0 (first list f m t ts q)
  alias_type m (node (form_is.Decl _) span ts) s h = never s
  alias_type m (node (form_is.Type form) span ts) s h = type_fine list f m (node (form_is.Type form) span ts) refl h
  alias_type m (node _ span ts) s h = never s
  alias_type m absent s h = never s
  alias_type m (row ts) s h = never s

  front : (b : Bool) (g m : ℕ) (t : Tree) (ds : List Declaration) → b ≡ true → none_hold (all_tests alias_tests (if_alias list f g m t b ++ aliases_from list f (suc g) ds)) ≡ true → none_hold (alias_tests (alias list f g m t)) ≡ true
  front true g m t ds e h = (none_parts (alias_tests (alias list f g m t)) (all_tests alias_tests (aliases_from list f (suc g) ds)) h).0
  front false g m t ds e h = never e

  behind : (b : Bool) (g m : ℕ) (t : Tree) (ds : List Declaration) → none_hold (all_tests alias_tests (if_alias list f g m t b ++ aliases_from list f (suc g) ds)) ≡ true → none_hold (all_tests alias_tests (aliases_from list f (suc g) ds)) ≡ true
  behind true g m t ds h = (none_parts (alias_tests (alias list f g m t)) (all_tests alias_tests (aliases_from list f (suc g) ds)) h).1
  behind false g m t ds h = h

  alias_at : (ds : List Declaration) (g j : ℕ) (d : Declaration) → slice_get ds j ≡ Some d → is_alias (sort_of d.tree) ≡ true → none_hold (all_tests alias_tests (aliases_from list f g ds)) ≡ true
      → none_hold (alias_tests (alias list f (g + j) d.«module» (type_tree_of d.tree))) ≡ true
  alias_at [] g j d at is h = none_found d at
  alias_at (x ∷ ds) g zero d at is h =
      let e : g ≡ g + 0 = omega arith in
      let same = some_found x d at in
      ap (λ i. none_hold (alias_tests (alias list f i d.«module» (type_tree_of d.tree)))) (sym e)
      ∙ ap (λ (y : Declaration). none_hold (alias_tests (alias list f g y.«module» (type_tree_of y.tree)))) (sym same)
      ∙ front (is_alias (sort_of x.tree)) g x.«module» (type_tree_of x.tree) ds (ap (λ (y : Declaration). is_alias (sort_of y.tree)) same ∙ is) h
  alias_at (x ∷ ds) g (suc j) d at is h =
      let e : suc g + j ≡ g + suc j = omega arith in
      ap (λ i. none_hold (alias_tests (alias list f i d.«module» (type_tree_of d.tree)))) (sym e)
      ∙ alias_at ds (suc g) j d at is (behind (is_alias (sort_of x.tree)) g x.«module» (type_tree_of x.tree) ds h)

  pub alias_stands : none_hold (all_tests alias_tests (aliases list f)) ≡ true → (g : ℕ) (d : Declaration) → declaration_at list g ≡ Some d → is_alias (sort_of d.tree) ≡ true → IsFine list f d.«module» d.tree → Stands list f g d
  alias_stands tests g d at is fine =
      let zero_more : 0 + g ≡ g = omega arith in
      let m = d.«module» in
      let t = type_tree_of d.tree in
      let h = ap (λ i. none_hold (alias_tests (alias list f i m t))) (sym zero_more) ∙ alias_at (rows list) 0 g d at is tests in
      let p = none_parts (written_tests m (written_in list f m Whole t)) _ h in
      (twice_not (is_some (f g)) (and_parts (not (not (is_some (f g)))) true p.1).0, alias_type m d.tree is fine, placed m (written_in list f m Whole t).misplaced p.0)
