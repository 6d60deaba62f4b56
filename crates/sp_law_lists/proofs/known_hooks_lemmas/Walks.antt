-- What holds of a tree and passes to its parts holds of what stands at the places of hooks in it.
use Rattle.std.proofs.Common.{ℕ, ◌≡◌, ◌+◌, suc, ap, ◌∙◌, arith, List, [], ◌∷◌, Some, slice_get}
use Rattle.sp_base.specs.declared.places.Span.{Span}
use Rattle.sp_ast.specs.Trees.{Tree, Trees, absent, row, node, none, more}
use Rattle.sp_ast.specs.declared.forms.Form.{Form}
use Rattle.sp_ast.specs.declared.forms.Form.TheVariants as form_is
use Rattle.sp_ast.specs.declared.forms.DeclForm.TheVariants as decl_is
use Rattle.sp_ast.specs.declared.forms.TypeForm.TheVariants as type_is
use Rattle.sp_ast.specs.declared.forms.ItemForm.TheVariants as item_is
use Rattle.sp_ast.specs.declared.forms.PartForm.TheVariants as part_is
use Rattle.sp_ast.specs.declared.forms.BodyForm.TheVariants as body_is
use Rattle.sp_names.specs.declared.rows.Declaration.{Declaration}
use Rattle.sp_names.specs.Declarations.{rows, type_tree_of, declaration_at, number_at}
use Rattle.sp_type_modules.specs.Members.{unit_in, unit_items}
use Rattle.sp_type_hook_rows.specs.declared.sites.Holder.{Holder}
use Rattle.sp_type_hook_rows.specs.declared.sites.Holder.TheVariants as holder_is
use Rattle.sp_type_hook_rows.specs.declared.sites.Site.{Site}
use Rattle.sp_type_hook_rows.specs.Sites.{sites_in, sites_among, sites_of, sites_from, sites}
use Rattle.sp_law_lists.proofs.known_constants_lemmas.Declarations.{AllOf, both_of, Passes}

-- the tree that stands at a place
abbrev pub tree_at : Holder → Tree
tree_at (holder_is.Declaration t) = t
tree_at (holder_is.Item t) = t
tree_at (holder_is.Field t) = t

module _ (m n : ℕ) where
  -- those of a declaration: what holds of the items of the unit that it declares, and of itself, if it is a hook
  pub declared : (Q : Site → Type 0) (x : Tree) → Q (record { «module» = m; unit = 0; holder = holder_is.Declaration x }) → AllOf Q (sites_among m n (unit_items (unit_in (type_tree_of x)))) → AllOf Q (sites_of m n x)
  declared Q (node (form_is.Decl decl_is.On) span ts) own items = (own, tt)
  declared Q (node (form_is.Decl (decl_is.Type public)) span (more name (more type ts))) own items = items
  declared Q (node (form_is.Decl (decl_is.Type public)) span none) own items = tt
  declared Q (node (form_is.Decl (decl_is.Type public)) span (more name none)) own items = tt
  declared Q (node (form_is.Decl _) span ts) own items = tt
  declared Q (node (form_is.Type form) span ts) own items = items
  declared Q (node _ span ts) own items = tt
  declared Q absent own items = tt
  declared Q (row ts) own items = tt

module _ (P : ℕ → Tree → Type 0) (All : ℕ → Trees → Type 0) (walk : (m : ℕ) → Passes (P m) (All m)) (m n : ℕ) where
  abbrev pub Stands : Site → Type 0
  Stands s = P s.«module» (tree_at s.holder)

  abbrev passes : Passes (P m) (All m)
  passes = walk m

  -- the second part, and the trees of a row that is one
  second : (form : Form) (span : Span) (a b : Tree) (ts : Trees) → P m (node form span (more a (more b ts))) → P m b
  second form span a b ts h = passes.first b ts (passes.rest a (more b ts) (passes.parts form span (more a (more b ts)) h))

  mutual
    in_tree : (x : Tree) → P m x → AllOf Stands (sites_in m n x)
    in_tree (node (form_is.Item item_is.On) span ts) h = (h, tt)
    in_tree (node (form_is.Item item_is.Part) span (more part ts)) h = in_tree part (passes.first part ts (passes.parts (form_is.Item item_is.Part) span (more part ts) h))
    in_tree (node (form_is.Item item_is.Part) span none) h = tt
    in_tree (node (form_is.Item _) span ts) h = tt
    in_tree (node (form_is.Part part_is.Field) span (more field ts)) h = (passes.first field ts (passes.parts (form_is.Part part_is.Field) span (more field ts) h), tt)
    in_tree (node (form_is.Part part_is.Field) span none) h = tt
    in_tree (node (form_is.Part part_is.Switch) span (more subject (more (row arms) ts))) h = among arms (passes.in_row arms (second (form_is.Part part_is.Switch) span subject (row arms) ts h))
    in_tree (node (form_is.Part part_is.Switch) span none) h = tt
    in_tree (node (form_is.Part part_is.Switch) span (more subject none)) h = tt
    in_tree (node (form_is.Part part_is.Switch) span (more subject (more absent ts))) h = tt
    in_tree (node (form_is.Part part_is.Switch) span (more subject (more (node form at us) ts))) h = tt
    in_tree (node form_is.Arm span (more guard (more body ts))) h = in_tree body (second form_is.Arm span guard body ts h)
    in_tree (node form_is.Arm span none) h = tt
    in_tree (node form_is.Arm span (more guard none)) h = tt
    in_tree (node (form_is.Body body_is.One) span ts) h = among ts (passes.parts (form_is.Body body_is.One) span ts h)
    in_tree (node (form_is.Body body_is.Many) span ts) h = among ts (passes.parts (form_is.Body body_is.Many) span ts h)
    in_tree (node (form_is.Body body_is.Nothing) span ts) h = tt
    in_tree absent h = tt
    in_tree (row ts) h = tt
    in_tree (node _ span ts) h = tt

    among : (ts : Trees) → All m ts → AllOf Stands (sites_among m n ts)
    among none h = tt
    among (more t ts) h = both_of Stands (sites_in m n t) (sites_among m n ts) (in_tree t (passes.first t ts h)) (among ts (passes.rest t ts h))

  -- the items of the unit that a type is
  pub unit_passes : (u : Tree) → P m u → All m (unit_items u)
  unit_passes (node form_is.Unit span (more ps (more (row items) ts))) h = passes.in_row items (second form_is.Unit span ps (row items) ts h)
  unit_passes (node form_is.Unit span none) h = passes.nothing
  unit_passes (node form_is.Unit span (more ps none)) h = passes.nothing
  unit_passes (node form_is.Unit span (more ps (more absent ts))) h = passes.nothing
  unit_passes (node form_is.Unit span (more ps (more (node form at us) ts))) h = passes.nothing
  unit_passes (node _ span ts) h = passes.nothing
  unit_passes absent h = passes.nothing
  unit_passes (row ts) h = passes.nothing

  pub type_passes : (t : Tree) → P m t → P m (unit_in t)
  type_passes (node (form_is.Type type_is.Unit) span (more u us)) h = passes.first u us (passes.parts (form_is.Type type_is.Unit) span (more u us) h)
  type_passes (node (form_is.Type type_is.Unit) span none) h = passes.left_out
  type_passes (node (form_is.Type _) span us) h = passes.left_out
  type_passes (node _ span us) h = passes.left_out
  type_passes absent h = passes.left_out
  type_passes (row us) h = passes.left_out

  pub declared_passes : (x : Tree) → P m x → P m (type_tree_of x)
  declared_passes (node (form_is.Decl (decl_is.Type public)) span (more name (more type ts))) h = second (form_is.Decl (decl_is.Type public)) span name type ts h
  declared_passes (node (form_is.Decl (decl_is.Type public)) span none) h = passes.left_out
  declared_passes (node (form_is.Decl (decl_is.Type public)) span (more name none)) h = passes.left_out
  declared_passes (node (form_is.Decl _) span ts) h = passes.left_out
  declared_passes (node (form_is.Type form) span ts) h = h
  declared_passes (node _ span ts) h = passes.left_out
  declared_passes absent h = passes.left_out
  declared_passes (row ts) h = passes.left_out

  -- What stands at the places of hooks in a declaration.
  pub places_pass : (x : Tree) → P m x → AllOf Stands (sites_of m n x)
  places_pass x h = declared m n Stands x h (among (unit_items (unit_in (type_tree_of x))) (unit_passes (unit_in (type_tree_of x)) (type_passes (type_tree_of x) (declared_passes x h))))

module _ (list : List Tree) where
  -- what holds of the places in each declaration holds of all
  each_place : (P : Site → Type 0) → ((g : ℕ) (d : Declaration) → declaration_at list g ≡ Some d → AllOf P (sites_of d.«module» (number_at list g) d.tree)) → (h : ℕ) (ds : List Declaration) → ((j : ℕ) → slice_get (rows list) (h + j) ≡ slice_get ds j) → AllOf P (sites_from list h ds)
  each_place P all h [] at = tt
  each_place P all h (d ∷ ds) at =
      let z : h ≡ h + 0 = omega arith in
      both_of P (sites_of d.«module» (number_at list h) d.tree) (sites_from list (suc h) ds) (all h d (ap (slice_get (rows list)) z ∙ at 0))
      (each_place P all (suc h) ds (λ j. (let e : suc h + j ≡ h + suc j = omega arith in ap (slice_get (rows list)) e ∙ at (suc j))))

  pub all_places : (P : Site → Type 0) → ((g : ℕ) (d : Declaration) → declaration_at list g ≡ Some d → AllOf P (sites_of d.«module» (number_at list g) d.tree)) → AllOf P (sites list)
  all_places P all = each_place P all 0 (rows list) (λ j. (let e : 0 + j ≡ j = omega arith in ap (slice_get (rows list)) e))
