-- The first of something among the places of hooks of a list is the first among the fields of one unit, where it is no other's.
use Rattle.std.specs.Prelude.{Bool, true, false}
use Rattle.std.proofs.Common.{ℕ, ◌≡◌, ◌+◌, zero, suc, refl, sym, ap, ◌∙◌, arith, List, [], ◌∷◌, ◌++◌, Option, Some, None, slice_get}
use Rattle.sp_ast.specs.Trees.{Tree, Trees, absent, row, node, none, more}
use Rattle.sp_ast.specs.declared.forms.Form.TheVariants as form_is
use Rattle.sp_ast.specs.declared.forms.DeclForm.TheVariants as decl_is
use Rattle.sp_ast.specs.declared.forms.TypeForm.TheVariants as type_is
use Rattle.sp_ast.specs.declared.forms.ItemForm.TheVariants as item_is
use Rattle.sp_ast.specs.declared.forms.PartForm.TheVariants as part_is
use Rattle.sp_ast.specs.declared.forms.BodyForm.TheVariants as body_is
use Rattle.sp_typed_units.specs.declared.declarations.Unit.{Unit as TypedUnit}
use Rattle.sp_typed_units.specs.declared.items.Field.{Field}
use Rattle.sp_typed_units.specs.Parts.{parts}
use Rattle.sp_names.specs.declared.rows.Declaration.{Declaration}
use Rattle.sp_names.specs.declared.sort.DeclSort.TheVariants as sort_is
use Rattle.sp_names.specs.Declarations.{rows, all_of, type_sort, sort_of, declaration_at, number_at}
use Rattle.sp_type_modules.specs.Members.{unit_in, unit_items}
use Rattle.sp_type_hook_rows.specs.declared.sites.Holder.TheVariants as holder_is
use Rattle.sp_type_hook_rows.specs.declared.sites.Site.{Site}
use Rattle.sp_type_hook_rows.specs.Sites.{sites_in, sites_among, sites_of, sites_from, sites}
use Rattle.sp_code_programs.specs.programs.Currents.{earlier, field_in_parts, hooked_field}
use Rattle.sp_law_lists.proofs.known_types_lemmas.Full.{never}
use Rattle.sp_law_lists.proofs.whole_list_lemmas.Modules.{none_found, some_found}
use Rattle.sp_law_lists.proofs.known_members_lemmas.Shapes.{is_unit_sort}
use Rattle.sp_law_lists.proofs.known_hooks_lemmas.Numbers.{unit_stands, unit_number}
use Rattle.sp_law_lists.proofs.known_hooks_lemmas.Seen.{unit_is}
use Rattle.sp_law_lists.specs.field_places.Apart.{fields_in, fields_among, declared_items}

-- the first of two that is there, and the first that one of a row gives
abbrev pub either_of : {X : Type 0} → Option X → Option X → Option X
either_of None o = o
either_of (Some x) o = Some x

abbrev pub first_of : {A X : Type 0} → (A → Option X) → List A → Option X
first_of p [] = None
first_of p (x ∷ xs) = either_of (p x) (first_of p xs)

pub nothing_behind : {X : Type 0} (o : Option X) → either_of o None ≡ o
nothing_behind None = refl
nothing_behind (Some x) = refl

either_both : {X : Type 0} (a b c : Option X) → either_of a (either_of b c) ≡ either_of (either_of a b) c
either_both None b c = refl
either_both (Some x) b c = refl

pub first_both : {A X : Type 0} (p : A → Option X) (xs ys : List A) → first_of p (xs ++ ys) ≡ either_of (first_of p xs) (first_of p ys)
first_both p [] ys = refl
first_both p (x ∷ xs) ys = ap (either_of (p x)) (first_both p xs ys) ∙ either_both (p x) (first_of p xs) (first_of p ys)

pub all_nothing : {A X : Type 0} (p : A → Option X) → ((x : A) → p x ≡ None) → (xs : List A) → first_of p xs ≡ None
all_nothing p without [] = refl
all_nothing p without (x ∷ xs) = ap (λ o. either_of o (first_of p xs)) (without x) ∙ all_nothing p without xs

-- in one unit
module _ {X : Type 0} (p : Site → Option X) (m n : ℕ) where
  -- at one of its fields
  abbrev pub at_field : Tree → Option X
  at_field t = p (record { «module» = m; unit = n; holder = holder_is.Field t })

  module _ (no_item : (t : Tree) → p (record { «module» = m; unit = n; holder = holder_is.Item t }) ≡ None) where
    mutual
      in_tree : (x : Tree) → first_of p (sites_in m n x) ≡ first_of at_field (fields_in x)
      in_tree (node (form_is.Item item_is.On) span ts) = ap (λ o. either_of o None) (no_item (node (form_is.Item item_is.On) span ts))
      in_tree (node (form_is.Item item_is.Part) span (more part ts)) = in_tree part
      in_tree (node (form_is.Item item_is.Part) span none) = refl
      in_tree (node (form_is.Item _) span ts) = refl
      in_tree (node (form_is.Part part_is.Field) span (more field ts)) = refl
      in_tree (node (form_is.Part part_is.Field) span none) = refl
      in_tree (node (form_is.Part part_is.Switch) span (more subject (more (row arms) ts))) = among arms
      in_tree (node (form_is.Part part_is.Switch) span none) = refl
      in_tree (node (form_is.Part part_is.Switch) span (more subject none)) = refl
      in_tree (node (form_is.Part part_is.Switch) span (more subject (more absent ts))) = refl
      in_tree (node (form_is.Part part_is.Switch) span (more subject (more (node form at us) ts))) = refl
      in_tree (node form_is.Arm span (more guard (more body ts))) = in_tree body
      in_tree (node form_is.Arm span none) = refl
      in_tree (node form_is.Arm span (more guard none)) = refl
      in_tree (node (form_is.Body body_is.One) span ts) = among ts
      in_tree (node (form_is.Body body_is.Many) span ts) = among ts
      in_tree (node (form_is.Body body_is.Nothing) span ts) = refl
      in_tree absent = refl
      in_tree (row ts) = refl
      in_tree (node _ span ts) = refl

      among : (ts : Trees) → first_of p (sites_among m n ts) ≡ first_of at_field (fields_among ts)
      among none = refl
      among (more t ts) =
          first_both p (sites_in m n t) (sites_among m n ts) ∙ ap (λ o. either_of o (first_of p (sites_among m n ts))) (in_tree t) ∙ ap (either_of (first_of at_field (fields_in t))) (among ts)
          ∙ sym (first_both at_field (fields_in t) (fields_among ts))

    -- in a declaration
    declared : ((t : Tree) → p (record { «module» = m; unit = 0; holder = holder_is.Declaration t }) ≡ None) → (x : Tree) → first_of p (sites_of m n x) ≡ first_of at_field (fields_among (declared_items x))
    declared none_declared (node (form_is.Decl decl_is.On) span ts) = ap (λ o. either_of o None) (none_declared (node (form_is.Decl decl_is.On) span ts))
    declared none_declared (node (form_is.Decl (decl_is.Type public)) span (more name (more type ts))) = among (unit_items (unit_in type))
    declared none_declared (node (form_is.Decl (decl_is.Type public)) span none) = refl
    declared none_declared (node (form_is.Decl (decl_is.Type public)) span (more name none)) = refl
    declared none_declared (node (form_is.Decl _) span ts) = refl
    declared none_declared (node (form_is.Type form) span ts) = among (unit_items (unit_in (node (form_is.Type form) span ts)))
    declared none_declared (node _ span ts) = refl
    declared none_declared absent = refl
    declared none_declared (row ts) = refl

-- what declares no unit has no fields
no_unit : (x : Tree) → is_unit_sort (type_sort x) ≡ false → unit_items (unit_in x) ≡ none
no_unit (node (form_is.Type type_is.Unit) span ts) e = never (sym e)
no_unit (node (form_is.Type _) span ts) e = refl
no_unit (node _ span ts) e = refl
no_unit absent e = refl
no_unit (row ts) e = refl

no_items : (x : Tree) → is_unit_sort (sort_of x) ≡ false → declared_items x ≡ none
no_items (node (form_is.Decl (decl_is.Type public)) span (more name (more type ts))) e = no_unit type e
no_items (node (form_is.Decl (decl_is.Type public)) span none) e = refl
no_items (node (form_is.Decl (decl_is.Type public)) span (more name none)) e = refl
no_items (node (form_is.Decl _) span ts) e = refl
no_items (node (form_is.Type form) span ts) e = no_unit (node (form_is.Type form) span ts) e
no_items (node _ span ts) e = refl
no_items absent e = refl
no_items (row ts) e = refl

-- in a list, where it is a field's of the unit n
module _ (list : List Tree) {X : Type 0} (p : Site → Option X) (n : ℕ) (none_declared : (m : ℕ) (t : Tree) → p (record { «module» = m; unit = 0; holder = holder_is.Declaration t }) ≡ None)
    (no_item : (m i : ℕ) (t : Tree) → p (record { «module» = m; unit = i; holder = holder_is.Item t }) ≡ None) (elsewhere : (m i : ℕ) (t : Tree) → (i ≡ n → ⊥) → p (record { «module» = m; unit = i; holder = holder_is.Field t }) ≡ None) where
  abbrev of_declaration : ℕ → Declaration → Option X
  of_declaration g d = first_of p (sites_of d.«module» (number_at list g) d.tree)

  abbrev pub of_unit : Declaration → Option X
  of_unit d = first_of (at_field p d.«module» n) (fields_among (declared_items d.tree))

  not_here : (g : ℕ) (d : Declaration) → (is_unit_sort (sort_of d.tree) ≡ true → number_at list g ≡ n → ⊥) → of_declaration g d ≡ None
  not_here g d other = declared p d.«module» (number_at list g) (no_item d.«module» (number_at list g)) (none_declared d.«module») d.tree ∙ by (is_unit_sort (sort_of d.tree)) refl
    where
      by : (b : Bool) → is_unit_sort (sort_of d.tree) ≡ b → first_of (at_field p d.«module» (number_at list g)) (fields_among (declared_items d.tree)) ≡ None
      by true e = all_nothing (at_field p d.«module» (number_at list g)) (λ t. elsewhere d.«module» (number_at list g) t (other e)) (fields_among (declared_items d.tree))
      by false e = ap (λ ts. first_of (at_field p d.«module» (number_at list g)) (fields_among ts)) (no_items d.tree e)

  split : (h : ℕ) (d : Declaration) (ds : List Declaration) → first_of p (sites_from list h (d ∷ ds)) ≡ either_of (of_declaration h d) (first_of p (sites_from list (suc h) ds))
  split h d ds = first_both p (sites_of d.«module» (number_at list h) d.tree) (sites_from list (suc h) ds)

  nowhere : (h : ℕ) (ds : List Declaration) → ((j : ℕ) (d : Declaration) → slice_get ds j ≡ Some d → is_unit_sort (sort_of d.tree) ≡ true → number_at list (h + j) ≡ n → ⊥) → first_of p (sites_from list h ds) ≡ None
  nowhere h [] other = refl
  nowhere h (d ∷ ds) other =
      let z : h ≡ h + 0 = omega arith in
      split h d ds ∙ ap (λ o. either_of o (first_of p (sites_from list (suc h) ds))) (not_here h d (λ unit number. other 0 d refl unit (sym (ap (number_at list) z) ∙ number)))
      ∙ nowhere (suc h) ds (λ j e at unit number. (let y : h + suc j ≡ suc h + j = omega arith in other (suc j) e at unit (ap (number_at list) y ∙ number)))

  only_here : (h : ℕ) (ds : List Declaration) (k : ℕ) (d : Declaration) → slice_get ds k ≡ Some d → number_at list (h + k) ≡ n
      → ((j : ℕ) (e : Declaration) → slice_get ds j ≡ Some e → is_unit_sort (sort_of e.tree) ≡ true → number_at list (h + j) ≡ n → j ≡ k) → first_of p (sites_from list h ds) ≡ of_unit d
  only_here h [] k d at number single = none_found d at
  only_here h (e ∷ ds) zero d at number single =
      let z : h ≡ h + 0 = omega arith in
      let here : number_at list h ≡ n = ap (number_at list) z ∙ number in
      let same : e ≡ d = some_found e d at in
      let behind : first_of p (sites_from list (suc h) ds) ≡ None = nowhere (suc h) ds (λ j x there unit is. (
      let y : h + suc j ≡ suc h + j = omega arith in
      let zero_is : suc j ≡ 0 = single (suc j) x there unit (ap (number_at list) y ∙ is) in
      let bad : ⊥ = omega (arith, zero_is) in
      bad
      )) in
      split h e ds ∙ ap (either_of (of_declaration h e)) behind ∙ nothing_behind (of_declaration h e) ∙ ap (of_declaration h) same
      ∙ declared p d.«module» (number_at list h) (no_item d.«module» (number_at list h)) (none_declared d.«module») d.tree ∙ ap (λ i. first_of (at_field p d.«module» i) (fields_among (declared_items d.tree))) here
  only_here h (e ∷ ds) (suc k) d at number single =
      let z : h ≡ h + 0 = omega arith in
      let y : suc h + k ≡ h + suc k = omega arith in
      split h e ds ∙ ap (λ o. either_of o (first_of p (sites_from list (suc h) ds))) (not_here h e (λ unit is. (
      let zero_is : 0 ≡ suc k = single 0 e refl unit (sym (ap (number_at list) z) ∙ is) in
      let bad : ⊥ = omega (arith, zero_is) in
      bad
      )))
      ∙ only_here (suc h) ds k d at (ap (number_at list) y ∙ number) (λ j x there unit is. (
      let w : h + suc j ≡ suc h + j = omega arith in
      let next : suc j ≡ suc k = single (suc j) x there unit (ap (number_at list) w ∙ is) in
      omega (arith, next)
      ))

  -- the first of all is that of the unit
  pub in_unit : (g : ℕ) (d : Declaration) → slice_get (all_of sort_is.Unit list) n ≡ Some g → declaration_at list g ≡ Some d → is_unit_sort (sort_of d.tree) ≡ true → first_of p (sites list) ≡ of_unit d
  in_unit g d at is sort =
      let z : 0 + g ≡ g = omega arith in
      only_here 0 (rows list) g d is (ap (number_at list) z ∙ unit_number list g d is (unit_is (sort_of d.tree) sort) n at) (λ j e there unit number. (
      let y : j ≡ 0 + j = omega arith in
      let stands = unit_stands list j e there (unit_is (sort_of e.tree) unit) in
      some_found j g (sym stands ∙ ap (slice_get (all_of sort_is.Unit list)) (ap (number_at list) y ∙ number) ∙ at)
      ))

  -- there is none where there is no such unit
  pub in_none : slice_get (all_of sort_is.Unit list) n ≡ None → first_of p (sites list) ≡ None
  in_none at =
      nowhere 0 (rows list) (λ j e there unit number. (
      let y : j ≡ 0 + j = omega arith in
      none_found j (sym at ∙ sym (ap (slice_get (all_of sort_is.Unit list)) (ap (number_at list) y ∙ number)) ∙ unit_stands list j e there (unit_is (sort_of e.tree) unit))
      ))

-- the first field of units that has a body
none_earlier : (o : Option Field) → earlier o None ≡ o
none_earlier None = refl
none_earlier (Some x) = refl

none_hooked : (h : ℕ) (us : List TypedUnit) → ((i : ℕ) (x : TypedUnit) → slice_get us i ≡ Some x → field_in_parts h (parts x.parts) ≡ None) → hooked_field h us ≡ None
none_hooked h [] others = refl
none_hooked h (y ∷ us) others = ap (λ o. earlier o (hooked_field h us)) (others 0 y refl) ∙ none_hooked h us (λ i x at. others (suc i) x at)

pub only_hooked : (h : ℕ) (us : List TypedUnit) (n : ℕ) (x : TypedUnit) → slice_get us n ≡ Some x → ((i : ℕ) (y : TypedUnit) → slice_get us i ≡ Some y → (i ≡ n → ⊥) → field_in_parts h (parts y.parts) ≡ None) → hooked_field h us ≡ field_in_parts h (parts x.parts)
only_hooked h [] n x at others = none_found x at
only_hooked h (y ∷ us) zero x at others =
    ap (earlier (field_in_parts h (parts y.parts))) (none_hooked h us (λ i z there. others (suc i) z there (λ e. (let bad : ⊥ = omega (arith, e) in bad)))) ∙ none_earlier (field_in_parts h (parts y.parts))
    ∙ ap (λ (z : TypedUnit). field_in_parts h (parts z.parts)) (some_found y x at)
only_hooked h (y ∷ us) (suc n) x at others =
    ap (λ o. earlier o (hooked_field h us)) (others 0 y refl (λ e. (let bad : ⊥ = omega (arith, e) in bad))) ∙ only_hooked h us n x at (λ i z there other. others (suc i) z there (λ e. other (omega (arith, e))))
