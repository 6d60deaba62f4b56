-- What is named in a unit are its members, and a name has the same number.
use Rattle.std.proofs.Common.{ℕ, ◌≡◌, suc, Bool, true, false, refl, ap, ◌∙◌, List, [], ◌∷◌, ◌++◌, Some}
use Rattle.std.specs.Prelude.{if◌then◌else◌, not, filter}
use Rattle.sp_ast.specs.Trees.{Tree, Trees, row, node, none, more}
use Rattle.sp_ast.specs.declared.forms.Form.TheVariants as form_is
use Rattle.sp_ast.specs.declared.forms.ItemForm.TheVariants as item_is
use Rattle.sp_ast.specs.declared.forms.PartForm.TheVariants as part_is
use Rattle.sp_ast.specs.declared.forms.BodyForm.TheVariants as body_is
use Rattle.sp_type_modules.specs.Members.{named_in, named_among, field_member, is_called, unit_items, members_of}
use Rattle.sp_type_modules.specs.Members as around
use Rattle.sp_type_modules.specs.Sources.{Named, has_name, field_named, declared_in, declared_among, firsts, numbered, member_of, members}

-- what is declared, as members
members_append : (xs ys : List Named) → members (xs ++ ys) ≡ members xs ++ members ys
members_append [] ys = refl
members_append (x ∷ xs) ys = ap (λ l. member_of x ∷ l) (members_append xs ys)

field_declared : (t : Tree) → members (field_named t) ≡ field_member t
field_declared (node form_is.Field span (more (node (form_is.Name x) s us) ts)) = refl
field_declared _ = refl

mutual
  pub declared_members : (t : Tree) → members (declared_in t) ≡ named_in t
  declared_members (node (form_is.Item item_is.Variable) span (more name ts)) = refl
  declared_members (node (form_is.Item item_is.Sink) span (more name ts)) = refl
  declared_members (node (form_is.Item item_is.Part) span (more p ts)) = declared_members p
  declared_members (node (form_is.Part part_is.Field) span (more field ts)) = field_declared field
  declared_members (node (form_is.Part part_is.Switch) span (more subject (more (row arms) ts))) = all_declared arms
  declared_members (node form_is.Arm span (more guard (more body ts))) = declared_members body
  declared_members (node (form_is.Body body_is.One) span ts) = all_declared ts
  declared_members (node (form_is.Body body_is.Many) span ts) = all_declared ts
  declared_members _ = refl

  pub all_declared : (ts : Trees) → members (declared_among ts) ≡ named_among ts
  all_declared none = refl
  all_declared (more t ts) =
      members_append (declared_in t) (declared_among ts)
      ∙ ap (λ l. l ++ members (declared_among ts)) (declared_members t)
      ∙ ap (λ l. named_in t ++ l) (all_declared ts)

-- the first of each name
filtered : (d : Named) (ds : List Named) → members (filter (λ e. not (has_name e.name d)) ds) ≡ filter (λ m. not (is_called m.name (member_of d))) (members ds)
filtered d [] = refl
filtered d (e ∷ ds) = by (not (has_name e.name d)) (filtered d ds)
  where
    by : (b : Bool) → members (filter (λ e. not (has_name e.name d)) ds) ≡ filter (λ m. not (is_called m.name (member_of d))) (members ds)
        → members (if b then e ∷ filter (λ e. not (has_name e.name d)) ds else filter (λ e. not (has_name e.name d)) ds) ≡ (if b then member_of e ∷ filter (λ m. not (is_called m.name (member_of d))) (members ds) else filter (λ m. not (is_called m.name (member_of d))) (members ds))
    by true h = ap (λ l. member_of e ∷ l) h
    by false h = h

pub firsts_are : (ds : List Named) → members (firsts ds) ≡ around.firsts (members ds)
firsts_are [] = refl
firsts_are (d ∷ ds) = ap (λ l. member_of d ∷ l) (filtered d (firsts ds) ∙ ap (filter (λ m. not (is_called m.name (member_of d)))) (firsts_are ds))

pub members_are : (unit : Tree) → members (firsts (declared_among (unit_items unit))) ≡ members_of unit
members_are unit = firsts_are (declared_among (unit_items unit)) ∙ ap around.firsts (all_declared (unit_items unit))

-- a name has the same number
pub numbered_is : (x : List ℕ) (k : ℕ) (ds : List Named) → numbered x k ds ≡ around.numbered x k (members ds)
numbered_is x k [] = refl
numbered_is x k (d ∷ ds) = ap (λ o. if has_name x d then Some k else o) (numbered_is x (suc k) ds)
