-- The field of a unit that has the body of a hook is the first of its trees that is typed as one with that body.
use Rattle.std.specs.Prelude.{true, ◌&&◌}
use Rattle.std.proofs.Common.{ℕ, ◌≡◌, refl, sym, ap, ◌∙◌, List, [], ◌++◌, Option, Some, None}
use Rattle.std.proofs.lemmas.Bool.{and_parts}
use Rattle.sp_ast.specs.Trees.{Tree, Trees, absent, row, node, none, more}
use Rattle.sp_ast.specs.Slots.{are_formed}
use Rattle.sp_ast.specs.Groups.{is_of, are_of, fits as stands_as}
use Rattle.sp_ast.specs.declared.groups.Group.TheVariants as group_is
use Rattle.sp_ast.specs.declared.groups.Sort.TheVariants as stands
use Rattle.sp_ast.specs.declared.forms.Form.TheVariants as form_is
use Rattle.sp_ast.specs.declared.forms.ItemForm.TheVariants as item_is
use Rattle.sp_ast.specs.declared.forms.PartForm.TheVariants as part_is
use Rattle.sp_ast.specs.declared.forms.BodyForm.TheVariants as body_is
use Rattle.sp_types.specs.Types.{Ty}
use Rattle.sp_typed.specs.Exprs.{Expr}
use Rattle.sp_typed_units.specs.declared.items.Field.{Field}
use Rattle.sp_typed_units.specs.Parts.{parts}
use Rattle.sp_type_context.specs.Contexts.{Around}
use Rattle.sp_type_fields.specs.Values.{Values}
use Rattle.sp_type_fields.specs.Attributes.{maybe_typed}
use Rattle.sp_ast.specs.Views.{present}
use Rattle.sp_type_fields.specs.Parts.{Fields, field_in, part_of, parts_of, body_of, arms_of}
use Rattle.sp_type_units.specs.Items.{parts_in}
use Rattle.sp_code_programs.specs.programs.Currents.{earlier, field_in as bodied, field_in_parts, field_in_arms}
use Rattle.sp_law_lists.proofs.known_types_lemmas.Full.{never}
use Rattle.sp_law_lists.specs.known_constants.Fine.{IsFine, AreFine}
use Rattle.sp_law_lists.proofs.known_constants_lemmas.Fine.{inside, first, rest, formed}
use Rattle.sp_law_lists.proofs.known_constants_lemmas.Declarations.{AllOf, both_of}
use Rattle.sp_law_lists.proofs.known_members_lemmas.Shapes.{no_first, no_second}
use Rattle.sp_law_lists.specs.field_places.Apart.{fields_in, fields_among}
use Rattle.sp_law_lists.proofs.passing_list_lemmas.Firsts.{either_of, first_of, nothing_behind, first_both}

first_field : (a b : Option Field) → earlier a b ≡ either_of a b
first_field None b = refl
first_field (Some f) b = refl

module _ (list : List Tree) (f : ℕ → Option Ty) (m : ℕ) (g : Around) (v : Values) (fields : Fields) (h : ℕ) where
  abbrev Fine : Tree → Type 0
  Fine x = IsFine list f m x

  abbrev AllFine : Trees → Type 0
  AllFine xs = AreFine list f m xs

  -- a field that is fine
  abbrev pub IsWhole : Tree → Type 0
  IsWhole t = (is_of group_is.Fields t ≡ true) × IsFine list f m t

  -- the field that is typed of a tree, if it has the body
  abbrev pub with_body : Tree → Option Field
  with_body t = bodied h (field_in g v fields t)

  -- these trees are fine, and the first of them that has the body is this one
  pub record AreWalked (o : Option Field) (ts : List Tree) : Type 0 where
    pub whole : AllOf IsWhole ts
    pub same : o ≡ first_of with_body ts

  none_walked : AreWalked None []
  none_walked = record { whole = tt; same = refl }

  both_walked : (a b : Option Field) (xs ys : List Tree) → AreWalked a xs → AreWalked b ys → AreWalked (earlier a b) (xs ++ ys)
  both_walked a b xs ys w x = record {
    whole = both_of IsWhole xs ys w.whole x.whole;
    same = first_field a b ∙ ap (λ o. either_of o b) w.same ∙ ap (either_of (first_of with_body xs)) x.same ∙ sym (first_both with_body xs ys);
  }

  mutual
    part_walked : (x : Tree) → is_of group_is.Parts x ≡ true → Fine x → AreWalked (bodied h (part_of g v fields x)) (fields_in x)
    part_walked (node (form_is.Part part_is.Field) at none) of fine = never fine.0
    part_walked (node (form_is.Part part_is.Field) at (more x none)) of fine =
        let p = and_parts (is_of group_is.Fields x) true (formed list f m (form_is.Part part_is.Field) at (more x none) fine) in
        let here = first list f m x none (inside list f m (form_is.Part part_is.Field) at (more x none) fine) in
        record { whole = ((p.0, here), tt); same = sym (nothing_behind (with_body x)) }
    part_walked (node (form_is.Part part_is.Field) at (more x (more y us))) of fine = no_first (is_of group_is.Fields x) (are_formed (more x (more y us))) fine.0
    part_walked (node (form_is.Part part_is.Switch) at none) of fine = none_walked
    part_walked (node (form_is.Part part_is.Switch) at (more subject none)) of fine = none_walked
    part_walked (node (form_is.Part part_is.Switch) at (more subject (more (row ts) none))) of fine =
        let ws = more subject (more (row ts) none) in
        let p = and_parts (stands_as (stands.Optional group_is.Expressions) subject) (are_of group_is.Arms ts && true) (formed list f m (form_is.Part part_is.Switch) at ws fine) in
        let here = first list f m (row ts) none (rest list f m subject (more (row ts) none) (inside list f m (form_is.Part part_is.Switch) at ws fine)) in
        arms_walked ts (maybe_typed g (present subject)) (and_parts (are_of group_is.Arms ts) true p.1).0 here
    part_walked (node (form_is.Part part_is.Switch) at (more subject (more (row ts) (more y us)))) of fine =
        no_second (stands_as (stands.Optional group_is.Expressions) subject) (are_of group_is.Arms ts) (are_formed (more subject (more (row ts) (more y us)))) fine.0
    part_walked (node (form_is.Part part_is.Switch) at (more subject (more absent us))) of fine = none_walked
    part_walked (node (form_is.Part part_is.Switch) at (more subject (more (node form span ts) us))) of fine = none_walked
    part_walked (node _ at us) of fine = never of
    part_walked absent of fine = never of
    part_walked (row us) of fine = never of

    all_walked : (xs : Trees) → are_of group_is.Parts xs ≡ true → AllFine xs → AreWalked (field_in_parts h (parts (parts_of g v fields xs))) (fields_among xs)
    all_walked none of fine = none_walked
    all_walked (more x xs) of fine =
        let o = and_parts (is_of group_is.Parts x) (are_of group_is.Parts xs) of in
        both_walked (bodied h (part_of g v fields x)) (field_in_parts h (parts (parts_of g v fields xs))) (fields_in x) (fields_among xs) (part_walked x o.0 (first list f m x xs fine)) (all_walked xs o.1 (rest list f m x xs fine))

    body_walked : (x : Tree) → is_of group_is.Bodies x ≡ true → Fine x → AreWalked (field_in_parts h (parts (body_of g v fields x))) (fields_in x)
    body_walked (node (form_is.Body body_is.One) span none) of fine = none_walked
    body_walked (node (form_is.Body body_is.One) span (more x none)) of fine =
        let p = and_parts (is_of group_is.Parts x) true (formed list f m (form_is.Body body_is.One) span (more x none) fine) in
        both_walked (bodied h (part_of g v fields x)) None (fields_in x) [] (part_walked x p.0 (first list f m x none (inside list f m (form_is.Body body_is.One) span (more x none) fine))) none_walked
    body_walked (node (form_is.Body body_is.One) span (more x (more y us))) of fine = no_first (is_of group_is.Parts x) (are_formed (more x (more y us))) fine.0
    body_walked (node (form_is.Body body_is.Many) span xs) of fine = all_walked xs (formed list f m (form_is.Body body_is.Many) span xs fine) (inside list f m (form_is.Body body_is.Many) span xs fine)
    body_walked (node (form_is.Body body_is.Nothing) span xs) of fine = none_walked
    body_walked (node _ span us) of fine = never of
    body_walked absent of fine = never of
    body_walked (row us) of fine = never of

    arms_walked : (xs : Trees) (subject : Option Expr) → are_of group_is.Arms xs ≡ true → AllFine xs → AreWalked (field_in_arms h (arms_of g v fields subject xs)) (fields_among xs)
    arms_walked none subject of fine = none_walked
    arms_walked (more (node form_is.Arm span none) xs) subject of fine = never (first list f m (node form_is.Arm span none) xs fine).0
    arms_walked (more (node form_is.Arm span (more guard none)) xs) subject of fine =
        no_first (is_of group_is.Guards guard) (are_formed (more guard none)) (first list f m (node form_is.Arm span (more guard none)) xs fine).0
    arms_walked (more (node form_is.Arm span (more guard (more body none))) xs) subject of fine =
        let ws = more guard (more body none) in
        let x = node form_is.Arm span ws in
        let here = first list f m x xs fine in
        let p = and_parts (is_of group_is.Guards guard) (is_of group_is.Bodies body && true) (formed list f m form_is.Arm span ws here) in
        let q = first list f m body none (rest list f m guard (more body none) (inside list f m form_is.Arm span ws here)) in
        both_walked (field_in_parts h (parts (body_of g v fields body))) (field_in_arms h (arms_of g v fields subject xs)) (fields_in body) (fields_among xs) (body_walked body (and_parts (is_of group_is.Bodies body) true p.1).0 q) (arms_walked xs subject of (rest list f m x xs fine))
    arms_walked (more (node form_is.Arm span (more guard (more body (more y us)))) xs) subject of fine =
        no_second (is_of group_is.Guards guard) (is_of group_is.Bodies body) (are_formed (more guard (more body (more y us)))) (first list f m (node form_is.Arm span (more guard (more body (more y us)))) xs fine).0
    arms_walked (more (node _ span us) xs) subject of fine = never of
    arms_walked (more absent xs) subject of fine = never of
    arms_walked (more (row us) xs) subject of fine = never of

  pub items_walked : (xs : Trees) → are_of group_is.Items xs ≡ true → AllFine xs → AreWalked (field_in_parts h (parts (parts_in g v fields xs))) (fields_among xs)
  items_walked none of fine = none_walked
  items_walked (more (node (form_is.Item item_is.Part) span none) xs) of fine = never (first list f m (node (form_is.Item item_is.Part) span none) xs fine).0
  items_walked (more (node (form_is.Item item_is.Part) span (more x none)) xs) of fine =
      let u = node (form_is.Item item_is.Part) span (more x none) in
      let here = first list f m u xs fine in
      let p = and_parts (is_of group_is.Parts x) true (formed list f m (form_is.Item item_is.Part) span (more x none) here) in
      both_walked (bodied h (part_of g v fields x)) (field_in_parts h (parts (parts_in g v fields xs))) (fields_in x) (fields_among xs) (part_walked x p.0 (first list f m x none (inside list f m (form_is.Item item_is.Part) span (more x none) here)))
      (items_walked xs of (rest list f m u xs fine))
  items_walked (more (node (form_is.Item item_is.Part) span (more x (more y us))) xs) of fine =
      no_first (is_of group_is.Parts x) (are_formed (more x (more y us))) (first list f m (node (form_is.Item item_is.Part) span (more x (more y us))) xs fine).0
  items_walked (more (node (form_is.Item form) span us) xs) of fine = items_walked xs of (rest list f m (node (form_is.Item form) span us) xs fine)
  items_walked (more (node _ span us) xs) of fine = never of
  items_walked (more absent xs) of fine = never of
  items_walked (more (row us) xs) of fine = never of
