-- The fields of a unit by their trees: the bodies at the place of each, and its member.
use Rattle.std.specs.Prelude.{true, not, ◌||◌, ◌==◌}
use Rattle.std.proofs.Common.{ℕ, ◌≡◌, ◌+◌, zero, suc, refl, sym, ap, subst, ◌∙◌, arith, List, [], ◌∷◌, ◌++◌, Option, Some, None, slice_get}
use Rattle.std.proofs.lemmas.Bool.{and_parts, not-true, eq-eqb}
use Rattle.sp_base.specs.declared.places.Span.{Span}
use Rattle.sp_ast.specs.Trees.{Tree, Trees, absent, row, node, none, more}
use Rattle.sp_ast.specs.Slots.{are_formed}
use Rattle.sp_ast.specs.Groups.{is_of, are_of}
use Rattle.sp_ast.specs.declared.groups.Group.TheVariants as group_is
use Rattle.sp_ast.specs.declared.forms.Form.TheVariants as form_is
use Rattle.sp_ast.specs.declared.forms.ItemForm.TheVariants as item_is
use Rattle.sp_ast.specs.declared.forms.PartForm.TheVariants as part_is
use Rattle.sp_types.specs.Types.{Ty}
use Rattle.sp_typed_units.specs.declared.items.Field.{Field}
use Rattle.sp_typed_units.specs.Parts.{Part, Parts, field, choice, no_parts, more_parts, parts}
use Rattle.sp_type_context.specs.Contexts.{Around}
use Rattle.sp_type_fields.specs.Values.{Values}
use Rattle.sp_type_fields.specs.Parts.{Fields, field_in, part_of}
use Rattle.sp_type_fields.specs.Fields.{field_type}
use Rattle.sp_type_hook_order.specs.declared.keys.HookKey.{HookKey}
use Rattle.sp_type_hook_order.specs.declared.keys.HookKey.TheVariants as key_is
use Rattle.sp_type_hook_order.specs.Keys.{parts_of}
use Rattle.sp_type_hook_rows.specs.HookRows.{field_number}
use Rattle.sp_type_hook_rows.specs.Places.{member_key}
use Rattle.sp_type_hooks.specs.Fields.{key_in}
use Rattle.sp_type_units.specs.Items.{parts_in}
use Rattle.sp_law_lists.proofs.known_types_lemmas.Full.{never}
use Rattle.sp_law_lists.proofs.whole_list_lemmas.Modules.{none_found, some_found}
use Rattle.sp_law_lists.specs.known_constants.Fine.{IsFine, AreFine}
use Rattle.sp_law_lists.proofs.known_constants_lemmas.Fine.{formed, inside, first, rest}
use Rattle.sp_law_lists.proofs.known_members_lemmas.Shapes.{no_first, field_parts, field_whole}
use Rattle.sp_law_lists.specs.field_places.Apart.{fields_in, fields_among, place_of, stands_there, are_apart}
use Rattle.sp_law_lists.proofs.passing_list_lemmas.FirstNames.{or_right}
use Rattle.sp_law_lists.proofs.passing_list_lemmas.Asked.{in_front}
use Rattle.sp_law_lists.proofs.passing_list_lemmas.Placed.{own_key, field_typed}

-- Of fields that stand apart, those at one place are one.
stands_in : (ts : List Tree) (j : ℕ) (t : Tree) (place : ℕ) → slice_get ts j ≡ Some t → place_of t ≡ place → stands_there place ts ≡ true
stands_in [] j t place e at = none_found t e
stands_in (s ∷ ts) zero t place e at = ap (λ b. b || stands_there place ts) (eq-eqb (place_of s) place (ap place_of (some_found s t e) ∙ at))
stands_in (s ∷ ts) (suc j) t place e at = or_right (place_of s == place) (stands_there place ts) (stands_in ts j t place e at)

pub same_tree : (ts : List Tree) → are_apart ts ≡ true → (i j : ℕ) (s t : Tree) → slice_get ts i ≡ Some s → slice_get ts j ≡ Some t → place_of s ≡ place_of t → s ≡ t
same_tree [] apart i j s t here there at = none_found s here
same_tree (x ∷ ts) apart zero zero s t here there at = sym (some_found x s here) ∙ some_found x t there
same_tree (x ∷ ts) apart zero (suc j) s t here there at =
    let alone = not-true (stands_there (place_of x) ts) (and_parts (not (stands_there (place_of x) ts)) (are_apart ts) apart).0 in
    never (sym alone ∙ stands_in ts j t (place_of x) there (sym at ∙ ap place_of (sym (some_found x s here))))
same_tree (x ∷ ts) apart (suc i) zero s t here there at =
    let alone = not-true (stands_there (place_of x) ts) (and_parts (not (stands_there (place_of x) ts)) (are_apart ts) apart).0 in
    never (sym alone ∙ stands_in ts i s (place_of x) here (at ∙ ap place_of (sym (some_found x t there))))
same_tree (x ∷ ts) apart (suc i) (suc j) s t here there at = same_tree ts (and_parts (not (stands_there (place_of x) ts)) (are_apart ts) apart).1 i j s t here there at

-- keys of members and of places
member_of : (n j u k : ℕ) → Some (key_is.Member n j) ≡ Some (key_is.Member u k) → j ≡ k
member_of n j u k e = ap (λ (x : HookKey). (parts_of x).2) (some_found (key_is.Member n j) (key_is.Member u k) e)

place_in : (n j u k : ℕ) → Some (key_is.Anonymous n j) ≡ Some (key_is.Anonymous u k) → k ≡ j
place_in n j u k e = sym (ap (λ (x : HookKey). (parts_of x).2) (some_found (key_is.Anonymous n j) (key_is.Anonymous u k) e))

no_place : {X : Type 0} (n j u k : ℕ) → Some (key_is.Member n j) ≡ Some (key_is.Anonymous u k) → X
no_place n j u k e =
    let z : 1 ≡ 2 = ap (λ (x : HookKey). (parts_of x).0) (some_found (key_is.Member n j) (key_is.Anonymous u k) e) in
    absurd (let y : ⊥ = omega (arith, z) in y)

no_member : {X : Type 0} (n j u k : ℕ) → Some (key_is.Anonymous n j) ≡ Some (key_is.Member u k) → X
no_member n j u k e =
    let z : 2 ≡ 1 = ap (λ (x : HookKey). (parts_of x).0) (some_found (key_is.Anonymous n j) (key_is.Member u k) e) in
    absurd (let y : ⊥ = omega (arith, z) in y)

named_place : {X : Type 0} (n from : ℕ) (o : Option ℕ) (u place : ℕ) → key_in (member_key n from o) ≡ Some (key_is.Anonymous u place) → X
named_place n from None u place e = none_found (key_is.Anonymous u place) e
named_place n from (Some k) u place e = no_place n k u place e

-- a field without a name hangs on its place
pub own_place : (list : List Tree) (n : ℕ) (t : Tree) (u place : ℕ) → own_key list n t ≡ Some (key_is.Anonymous u place) → place ≡ place_of t
own_place list n (node form_is.Field span (more (node (form_is.Name x) s us) ts)) u place e = named_place n s.from (field_number list n x) u place e
own_place list n (node form_is.Field span (more (node _ s us) ts)) u place e = place_in n span.from u place e
own_place list n (node form_is.Field span (more absent ts)) u place e = place_in n span.from u place e
own_place list n (node form_is.Field span (more (row us) ts)) u place e = place_in n span.from u place e
own_place list n (node form_is.Field span none) u place e = none_found (key_is.Anonymous u place) e
own_place list n (node _ span ts) u place e = none_found (key_is.Anonymous u place) e
own_place list n absent u place e = none_found (key_is.Anonymous u place) e
own_place list n (row ts) u place e = none_found (key_is.Anonymous u place) e

behind : {A : Type 0} (xs ys : List A) (i : ℕ) (x : A) → slice_get ys i ≡ Some x → (j : ℕ) × (slice_get (xs ++ ys) j ≡ Some x)
behind [] ys i x e = (i, e)
behind (y ∷ xs) ys i x e = (let r = behind xs ys i x e in (suc r.0, r.1))

module _ (list : List Tree) (n : ℕ) (g : Around) (v : Values) (fields : Fields) (bodies_at : ℕ → List ℕ) (bodies_are : (at : Span) → fields.hooks at ≡ bodies_at at.from) (numbers : (x : List ℕ) (k : ℕ) → field_number list n x ≡ Some k → fields.number x ≡ k) where
  -- the member of a part that is a field
  abbrev part_member : Part → Option ℕ
  part_member (field x) = x.member
  part_member (choice span subject rows) = None

  named_member : (u k from : ℕ) (x : List ℕ) (o : Option ℕ) → field_number list n x ≡ o → key_in (member_key n from o) ≡ Some (key_is.Member u k) → Some (fields.number x) ≡ Some k
  named_member u k from x None is e = none_found (key_is.Member u k) e
  named_member u k from x (Some j) is e = ap Some (numbers x j is ∙ member_of n j u k e)

  whole_member : (u k : ℕ) (span : Span) (name base : Tree) (counts ts : Trees) (condition sink hooks : Tree) → own_key list n (node form_is.Field span (field_parts name base counts ts condition sink hooks)) ≡ Some (key_is.Member u k)
      → part_member (field_in g v fields (node form_is.Field span (field_parts name base counts ts condition sink hooks))) ≡ Some k
  whole_member u k span (node (form_is.Name x) s us) base counts ts condition sink hooks e = named_member u k s.from x (field_number list n x) refl e
  whole_member u k span (node _ s us) base counts ts condition sink hooks e = no_member n span.from u k e
  whole_member u k span absent base counts ts condition sink hooks e = no_member n span.from u k e
  whole_member u k span (row us) base counts ts condition sink hooks e = no_member n span.from u k e

  -- a field of a tree that is one of these
  pub record IsPlaced (trees : List Tree) (x : Field) : Type 0 where
    pub tree : Tree
    pub index : ℕ
    pub stands : slice_get trees index ≡ Some tree
    pub ty : x.ty ≡ field_type g v tree
    pub bodies : x.hooks ≡ bodies_at (place_of tree)
    pub member : (u k : ℕ) → own_key list n tree ≡ Some (key_is.Member u k) → x.member ≡ Some k

  abbrev PartPlaced : List Tree → Part → Type 0
  PartPlaced trees (field x) = IsPlaced trees x
  PartPlaced trees (choice span subject rows) = Unit {0}

  abbrev pub PartsPlaced : List Tree → Parts → Type 0
  PartsPlaced trees no_parts = Unit {0}
  PartsPlaced trees (more_parts (field x) xs) = IsPlaced trees x × PartsPlaced trees xs
  PartsPlaced trees (more_parts (choice span subject rows) xs) = PartsPlaced trees xs

  joined : (trees : List Tree) (p : Part) (xs : Parts) → PartPlaced trees p → PartsPlaced trees xs → PartsPlaced trees (more_parts p xs)
  joined trees (field x) xs one all = (one, all)
  joined trees (choice span subject rows) xs one all = all

  module _ (f : ℕ → Option Ty) (m : ℕ) (trees : List Tree) where
    member_so : (x : Tree) → is_of group_is.Fields x ≡ true → IsFine list f m x → (u k : ℕ) → own_key list n x ≡ Some (key_is.Member u k) → part_member (field_in g v fields x) ≡ Some k
    member_so (node form_is.Field span ws) of fine u k e =
        let w = field_whole ws (formed list f m form_is.Field span ws fine) in
        subst (λ us. own_key list n (node form_is.Field span us) ≡ Some (key_is.Member u k) → part_member (field_in g v fields (node form_is.Field span us)) ≡ Some k) (sym w.is) (whole_member u k span w.name w.base w.counts w.attributes w.condition w.sink w.hooks) e
    member_so (node _ span ws) of fine u k e = never of
    member_so absent of fine u k e = never of
    member_so (row ws) of fine u k e = never of

    field_so : (x : Tree) → is_of group_is.Fields x ≡ true → IsFine list f m x → (i : ℕ) → slice_get trees i ≡ Some x → PartPlaced trees (field_in g v fields x)
    field_so x of fine i at =
        let w = field_typed g v fields bodies_at bodies_are list f m x of fine in
        subst (PartPlaced trees) (sym w.is) (record { tree = x; index = i; stands = at; ty = w.ty; bodies = w.hooks; member = λ u k e. ap part_member (sym w.is) ∙ member_so x of fine u k e })

    part_so : (x : Tree) → is_of group_is.Parts x ≡ true → IsFine list f m x → ((i : ℕ) (y : Tree) → slice_get (fields_in x) i ≡ Some y → (j : ℕ) × (slice_get trees j ≡ Some y)) → PartPlaced trees (part_of g v fields x)
    part_so (node (form_is.Part part_is.Field) place (more x none)) of fine among =
        let suits = and_parts (is_of group_is.Fields x) true (formed list f m (form_is.Part part_is.Field) place (more x none) fine) in
        let there = among 0 x refl in
        field_so x suits.0 (first list f m x none (inside list f m (form_is.Part part_is.Field) place (more x none) fine)) there.0 there.1
    part_so (node (form_is.Part part_is.Field) place none) of fine among = never fine.0
    part_so (node (form_is.Part part_is.Field) place (more x (more y us))) of fine among = no_first (is_of group_is.Fields x) (are_formed (more x (more y us))) fine.0
    part_so (node (form_is.Part part_is.Switch) place none) of fine among = tt
    part_so (node (form_is.Part part_is.Switch) place (more subject none)) of fine among = tt
    part_so (node (form_is.Part part_is.Switch) place (more subject (more (row ts) none))) of fine among = tt
    part_so (node (form_is.Part part_is.Switch) place (more subject (more (row ts) (more y us)))) of fine among = tt
    part_so (node (form_is.Part part_is.Switch) place (more subject (more absent us))) of fine among = tt
    part_so (node (form_is.Part part_is.Switch) place (more subject (more (node form span ts) us))) of fine among = tt
    part_so (node _ place us) of fine among = never of
    part_so absent of fine among = never of
    part_so (row us) of fine among = never of

    -- Each field of some items is one of their trees.
    pub items_placed : (xs : Trees) → are_of group_is.Items xs ≡ true → AreFine list f m xs → ((i : ℕ) (y : Tree) → slice_get (fields_among xs) i ≡ Some y → (j : ℕ) × (slice_get trees j ≡ Some y)) → PartsPlaced trees (parts (parts_in g v fields xs))
    items_placed none of fine among = tt
    items_placed (more (node (form_is.Item item_is.Part) at (more x none)) xs) of fine among =
        let u = node (form_is.Item item_is.Part) at (more x none) in
        let here = first list f m u xs fine in
        let suits = and_parts (is_of group_is.Parts x) true (formed list f m (form_is.Item item_is.Part) at (more x none) here) in
        joined trees (part_of g v fields x) (parts (parts_in g v fields xs))
        (part_so x suits.0 (first list f m x none (inside list f m (form_is.Item item_is.Part) at (more x none) here)) (λ i y e. among i y (in_front (fields_in x) (fields_among xs) i y e)))
        (items_placed xs of (rest list f m u xs fine) (λ i y e. (let r = behind (fields_in x) (fields_among xs) i y e in among r.0 y r.1)))
    items_placed (more (node (form_is.Item item_is.Part) at none) xs) of fine among = never (first list f m (node (form_is.Item item_is.Part) at none) xs fine).0
    items_placed (more (node (form_is.Item item_is.Part) at (more x (more y us))) xs) of fine among =
        no_first (is_of group_is.Parts x) (are_formed (more x (more y us))) (first list f m (node (form_is.Item item_is.Part) at (more x (more y us))) xs fine).0
    items_placed (more (node (form_is.Item form) span us) xs) of fine among =
        items_placed xs of (rest list f m (node (form_is.Item form) span us) xs fine) (λ i y e. (let r = behind (fields_in (node (form_is.Item form) span us)) (fields_among xs) i y e in among r.0 y r.1))
    items_placed (more (node _ span us) xs) of fine among = never of
    items_placed (more absent xs) of fine among = never of
    items_placed (more (row us) xs) of fine among = never of
