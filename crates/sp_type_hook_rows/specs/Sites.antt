-- Where hooks stand in a list of modules: declarations, items of units, and fields.
use Rattle.std.specs.Prelude.{ℕ, suc, List, [], ◌∷◌, ◌++◌}
use Rattle.sp_ast.specs.Trees.{Tree, Trees, row, node, none, more}
use Rattle.sp_ast.specs.declared.forms.Form.TheVariants as form_is
use Rattle.sp_ast.specs.declared.forms.DeclForm.TheVariants as decl_is
use Rattle.sp_ast.specs.declared.forms.ItemForm.TheVariants as item_is
use Rattle.sp_ast.specs.declared.forms.PartForm.TheVariants as part_is
use Rattle.sp_ast.specs.declared.forms.BodyForm.TheVariants as body_is
use Rattle.sp_names.specs.declared.rows.Declaration.{Declaration}
use Rattle.sp_names.specs.Declarations.{rows, type_tree_of, number_at}
use Rattle.sp_type_modules.specs.Members.{unit_in, unit_items}
use Rattle.sp_type_hook_rows.specs.declared.sites.Holder.{Holder}
use Rattle.sp_type_hook_rows.specs.declared.sites.Holder.TheVariants as holder_is
use Rattle.sp_type_hook_rows.specs.declared.sites.Site.{Site}

-- one site, of a module and a unit
abbrev pub site : ℕ → ℕ → Holder → List Site
site m n h = record { «module» = m; unit = n; holder = h } ∷ []

-- The hooks and fields in items and parts of a unit, in the order of the text, also those in the arms of switches.
abbrev mutual
  pub sites_in : ℕ → ℕ → Tree → List Site
  sites_in m n (node (form_is.Item item_is.On) span ts) = site m n (holder_is.Item (node (form_is.Item item_is.On) span ts))
  sites_in m n (node (form_is.Item item_is.Part) span (more part ts)) = sites_in m n part
  sites_in m n (node (form_is.Part part_is.Field) span (more field ts)) = site m n (holder_is.Field field)
  sites_in m n (node (form_is.Part part_is.Switch) span (more subject (more (row arms) ts))) = sites_among m n arms
  sites_in m n (node form_is.Arm span (more guard (more body ts))) = sites_in m n body
  sites_in m n (node (form_is.Body body_is.One) span ts) = sites_among m n ts
  sites_in m n (node (form_is.Body body_is.Many) span ts) = sites_among m n ts
  sites_in m n _ = []

  pub sites_among : ℕ → ℕ → Trees → List Site
  sites_among m n none = []
  sites_among m n (more t ts) = sites_in m n t ++ sites_among m n ts

-- those of a declaration, which is of this number among its sort: itself, or those of the unit that it declares
abbrev pub sites_of : ℕ → ℕ → Tree → List Site
sites_of m n (node (form_is.Decl decl_is.On) span ts) = site m 0 (holder_is.Declaration (node (form_is.Decl decl_is.On) span ts))
sites_of m n d = sites_among m n (unit_items (unit_in (type_tree_of d)))

-- those of declarations, where the first has the number g
abbrev pub sites_from : List Tree → ℕ → List Declaration → List Site
sites_from list g [] = []
sites_from list g (d ∷ ds) = sites_of d.«module» (number_at list g) d.tree ++ sites_from list (suc g) ds

-- Those of a list: module by module, each in the order of its text.
abbrev pub sites : List Tree → List Site
sites list = sites_from list 0 (rows list)
