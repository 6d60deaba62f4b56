-- Fields of a list that have a body of a hook in common store the same, where the fields of each unit stand at places of their own.
use Rattle.std.specs.Prelude.{Bool, true, false, ◌&&◌, ◌||◌, ◌==◌, nat_eq, if◌then◌else◌, length}
use Rattle.std.specs.List.{list_all}
use Rattle.std.proofs.Common.{ℕ, ◌≡◌, ◌<◌, refl, sym, ap, subst, ◌∙◌, arith, List, [], ◌∷◌, Option, Some, None, slice_get}
use Rattle.std.proofs.lemmas.Bool.{and_parts}
use Rattle.sp_ast.specs.Trees.{Tree, Trees}
use Rattle.sp_ast.specs.Slots.{is_formed}
use Rattle.sp_rules.specs.declared.fault.Fault.{Fault}
use Rattle.sp_types.specs.Types.{Ty}
use Rattle.sp_typed_units.specs.declared.declarations.Hook.{Hook}
use Rattle.sp_typed_units.specs.declared.declarations.Member.{Member}
use Rattle.sp_typed_units.specs.declared.declarations.MemberKind.{MemberKind}
use Rattle.sp_typed_units.specs.declared.declarations.MemberKind.TheVariants as kind_is
use Rattle.sp_typed_units.specs.declared.declarations.Typed.{Typed}
use Rattle.sp_typed_units.specs.declared.declarations.Unit.{Unit as TypedUnit}
use Rattle.sp_typed_units.specs.declared.items.Field.{Field}
use Rattle.sp_typed_units.specs.Parts.{Parts, field, choice, no_parts, more_parts, parts}
use Rattle.sp_solver.specs.Told.{told}
use Rattle.sp_names.specs.declared.rows.Declaration.{Declaration}
use Rattle.sp_names.specs.declared.sort.DeclSort.TheVariants as sort_is
use Rattle.sp_names.specs.Declarations.{rows, all_of, sort_of, declaration_at}
use Rattle.sp_type_modules.specs.Members.{UnitMember, unit_members, numbered, kinds_of}
use Rattle.sp_type_context.specs.Contexts.{Around as Names}
use Rattle.sp_type_fields.specs.Values.{Values}
use Rattle.sp_type_fields.specs.Parts.{Fields}
use Rattle.sp_type_fields.specs.Fields.{field_type}
use Rattle.sp_type_hooks.specs.Fields.{mark_of, key_in}
use Rattle.sp_type_hooks.specs.Hooks.{ranks_of}
use Rattle.sp_type_hook_order.specs.declared.keys.HookKey.{HookKey}
use Rattle.sp_type_hook_order.specs.declared.keys.HookKey.TheVariants as key_is
use Rattle.sp_type_hook_order.specs.Keys.{parts_of, are_same}
use Rattle.sp_type_hook_rows.specs.declared.rows.HookRow.{HookRow}
use Rattle.sp_type_hook_rows.specs.Sites.{sites}
use Rattle.sp_type_hook_rows.specs.HookRows.{if_field, field_among, field_number, key_of, keys_of, hook_rows}
use Rattle.sp_type_hook_rows.specs.Places.{field_key, key_at}
use Rattle.sp_type_units.specs.Fields.{number_or, hooks_by}
use Rattle.sp_type_units.specs.UnitRows.{inside_unit}
use Rattle.sp_unbuilt.specs.Fields.{kinds_in_units}
use Rattle.sp_type_values.specs.Answers.{values}
use Rattle.sp_type_answers.specs.Settled.{Answers}
use Rattle.sp_type_answers.specs.Lists.{typed_of}
use Rattle.sp_type_answers.specs.Rules.{Breaks}
use Rattle.sp_meaning_states.specs.Scopes.{is_among}
use Rattle.sp_code_programs.specs.programs.Currents.{earlier, field_in_parts, hooked_field}
use Rattle.sp_law_lists.proofs.known_types_lemmas.Full.{never}
use Rattle.sp_law_lists.specs.whole_list.Whole.{is_known_unit, is_known_function}
use Rattle.sp_law_lists.proofs.whole_list_lemmas.Modules.{none_found, some_found}
use Rattle.sp_law_lists.proofs.known_constants_lemmas.Declarations.{AllOf, at_all}
use Rattle.sp_law_lists.specs.known_members.Given.{unit_reads}
use Rattle.sp_law_lists.proofs.known_members_lemmas.Built.{nothing}
use Rattle.sp_law_lists.proofs.known_members_lemmas.Contexts.{home}
use Rattle.sp_law_lists.proofs.known_members_lemmas.Rounds.{NoneIsPassed}
use Rattle.sp_law_lists.proofs.known_members_lemmas.Shapes.{is_unit_sort}
use Rattle.sp_law_lists.proofs.known_members_lemmas.Units.{ps, fields, items, suits, items_are_fine}
use Rattle.sp_law_lists.specs.fit_list.Bodies.{HookPasses}
use Rattle.sp_law_lists.specs.fit_list.Stored.{stored_type}
use Rattle.sp_law_lists.proofs.passing_list_lemmas.Agreeing.{FieldAgrees, PartsAgree, FieldsAgree}
use Rattle.sp_law_lists.specs.field_places.Apart.{fields_among, place_of, fields_apart}
use Rattle.sp_law_lists.specs.passing_list.Built.{unit_built}
use Rattle.sp_law_lists.proofs.passing_list_lemmas.BuiltTrees.{IsBuilt}
use Rattle.sp_law_lists.proofs.passing_list_lemmas.Members.{found_below}
use Rattle.sp_law_lists.proofs.passing_list_lemmas.Fields.{AllFields}
use Rattle.sp_law_lists.proofs.passing_list_lemmas.Firsts.{only_hooked}
use Rattle.sp_law_lists.proofs.passing_list_lemmas.Placed.{own_key, IsFound, each_found}
use Rattle.sp_law_lists.proofs.passing_list_lemmas.Hooked.{key_found, as_many_ranks, key_here, all_apart, others}
use Rattle.sp_law_lists.proofs.passing_list_lemmas.FirstNames.{or_right}
use Rattle.sp_law_lists.proofs.passing_list_lemmas.UnitRows.{row_found, of_row}
use Rattle.sp_law_lists.proofs.passing_list_lemmas.BuiltUnits.{the_row, all_fields}
use Rattle.sp_law_lists.proofs.passing_list_lemmas.Untaken.{IsMember, MemberIs, PartsAre}
use Rattle.sp_law_lists.proofs.passing_list_lemmas.StoredTypes.{members_there, own_fields}
use Rattle.sp_law_lists.proofs.passing_list_lemmas.OwnBodies.{same_numbers, is_of_field, field_own, same_field, IsHungOn, hung}
use Rattle.sp_law_lists.proofs.passing_list_lemmas.PlacedFields.{same_tree, own_place, IsPlaced, PartsPlaced, items_placed}

-- the number of a field is that of its name
number_so : (ms : List UnitMember) (o : Option ℕ) (k : ℕ) → field_among ms o ≡ Some k → number_or o ≡ k
number_so ms None k e = none_found k e
number_so ms (Some i) k e = by (slice_get (kinds_of ms) i) e
  where
    by : (o : Option MemberKind) → if_field i o ≡ Some k → i ≡ k
    by None e = none_found k e
    by (Some kind_is.Field) e = some_found i k e
    by (Some kind_is.Variable) e = none_found k e
    by (Some kind_is.Sink) e = none_found k e

-- what the hooks of a field hang on is of its unit
own_is : (list : List Tree) (n : ℕ) (t : Tree) (key : HookKey) → own_key list n t ≡ Some key → is_of_field n key ≡ true
own_is list n t key e = by (field_key list n t) refl e
  where
    by : (o : Option (ℕ × HookKey)) → field_key list n t ≡ o → key_in o ≡ Some key → is_of_field n key ≡ true
    by None is e = none_found key e
    by (Some k) is e = ap (is_of_field n) (sym (some_found k.1 key e)) ∙ field_own list n t k is

at_one : (P : ℕ → Type 0) (hs : List ℕ) (h : ℕ) → AllOf P hs → is_among h hs ≡ true → P h
at_one P [] h all e = never e
at_one P (i ∷ hs) h all e = by (h == i) refl e (at_one P hs h all.1)
  where
    by : (b : Bool) → (h == i) ≡ b → (b || is_among h hs) ≡ true → (is_among h hs ≡ true → P h) → P h
    by true is e later = subst P (sym (same_numbers h i is)) all.0
    by false is e later = later e

-- fields that have a body
abbrev some_has : ℕ → Parts → Bool
some_has h no_parts = false
some_has h (more_parts (field x) xs) = is_among h x.hooks || some_has h xs
some_has h (more_parts (choice span subject cases) xs) = some_has h xs

abbrev AllStore : ℕ → Ty → Parts → Type 0
AllStore h u no_parts = Unit {0}
AllStore h u (more_parts (field x) xs) = (is_among h x.hooks ≡ true → x.ty ≡ u) × AllStore h u xs
AllStore h u (more_parts (choice span subject cases) xs) = ⊥

-- where all that have it store a type, the first does
first_stores : (h : ℕ) (u : Ty) (xs : Parts) → AllStore h u xs → some_has h xs ≡ true → stored_type (field_in_parts h xs) ≡ Some u
first_stores h u no_parts all e = never e
first_stores h u (more_parts (field x) xs) all e = by (is_among h x.hooks) all.0 e (first_stores h u xs all.1)
  where
    by : (b : Bool) → (b ≡ true → x.ty ≡ u) → (b || some_has h xs) ≡ true → (some_has h xs ≡ true → stored_type (field_in_parts h xs) ≡ Some u) → stored_type (earlier (if b then Some x else None) (field_in_parts h xs)) ≡ Some u
    by true is e later = ap Some (is refl)
    by false is e later = later e
first_stores h u (more_parts (choice span subject cases) xs) all e = absurd all

module _ (list : List Tree) (a : Answers list) (formed_list : list_all is_formed list ≡ true) (unbroken : (x : Fault) → Breaks list x → ⊥) (apart : list_all fields_apart list ≡ true) (reads : list_all unit_reads (typed_of list a).units ≡ true) (passed : NoneIsPassed)
    (functions : list_all is_known_function (typed_of list a).functions ≡ true) (known : list_all is_known_unit (typed_of list a).units ≡ true) (all_built : list_all unit_built (typed_of list a).units ≡ true) (declarations : AllOf (λ (d : Declaration). IsBuilt d.tree) (rows list)) (kinds : nothing (kinds_in_units (typed_of list a).units) ≡ true)
    (hooks : (h : ℕ) (x : Hook) → slice_get (typed_of list a).hooks h ≡ Some x → (o : Option Ty) × HookPasses (typed_of list a) o x) where
  abbrev f : ℕ → Option Ty
  f = told a.types

  abbrev t : Typed
  t = typed_of list a

  abbrev worth : Values
  worth = values list f (told a.values)

  abbrev listed : List HookRow
  listed = hook_rows list f

  module _ (n g : ℕ) (d : Declaration) (at : slice_get (all_of sort_is.Unit list) n ≡ Some g) (is : declaration_at list g ≡ Some d) (sort : is_unit_sort (sort_of d.tree) ≡ true) where
    abbrev m : ℕ
    m = d.«module»

    abbrev inside : Names
    inside = inside_unit n (ps list a formed_list unbroken n g d at is sort) (home list a (told a.stored) m)

    abbrev its_fields : Fields
    its_fields = fields list a formed_list unbroken n g d at is sort

    abbrev here : Trees
    here = items list a formed_list unbroken n g d at is sort

    abbrev trees : List Tree
    trees = fields_among here

    abbrev row_ : TypedUnit
    row_ = the_row list a formed_list unbroken functions known all_built declarations kinds hooks n g d at is sort

    there : slice_get t.units n ≡ Some row_
    there = row_found list a formed_list unbroken n g d at is sort

    abbrev bodies_at : ℕ → List ℕ
    bodies_at place = hooks_by (keys_of listed, ranks_of t.hooks) (key_at list (n, place) (sites list))

    numbers : (x : List ℕ) (k : ℕ) → field_number list n x ≡ Some k → its_fields.number x ≡ k
    numbers x k e =
        let same = members_there list a formed_list unbroken reads passed n g d at is sort in
        ap (λ ms. number_or (numbered x 0 ms)) (sym same) ∙ number_so (unit_members list n) (numbered x 0 (unit_members list n)) k e

    abbrev IsOne : Field → Type 0
    IsOne x = IsPlaced list n inside worth its_fields bodies_at (λ place. refl) numbers trees x

    abbrev AreOnes : Parts → Type 0
    AreOnes xs = PartsPlaced list n inside worth its_fields bodies_at (λ place. refl) numbers trees xs

    all_placed : AreOnes (parts row_.parts)
    all_placed = items_placed list n inside worth its_fields bodies_at (λ place. refl) numbers f m trees here (suits list a formed_list unbroken n g d at is sort).1 (items_are_fine list a formed_list unbroken n g d at is sort) (λ i y e. (i, e))

    -- a body hangs on the key of its field
    hung_at : (x : Field) → (one : IsOne x) → (h : ℕ) → is_among h x.hooks ≡ true → IsHungOn listed (own_key list n one.tree) h
    hung_at x one h e =
        let found = at_all (IsFound list n trees) trees one.index one.tree (each_found list n trees (all_apart list a formed_list unbroken apart n g d at is sort)) one.stands in
        let own : key_at list (n, place_of one.tree) (sites list) ≡ own_key list n one.tree = key_here list a formed_list unbroken apart n g d at is sort (place_of one.tree) ∙ found in
        let same : x.hooks ≡ hooks_by (keys_of listed, ranks_of t.hooks) (own_key list n one.tree) = one.bodies ∙ ap (hooks_by (keys_of listed, ranks_of t.hooks)) own in
        at_one (IsHungOn listed (own_key list n one.tree)) (hooks_by (keys_of listed, ranks_of t.hooks) (own_key list n one.tree)) h (hung listed (ranks_of t.hooks) (own_key list n one.tree)) (sym (ap (is_among h) same) ∙ e)

    abbrev Stores : Option ℕ → Ty → Type 0
    Stores o u = MemberIs inside worth its_fields row_.members o u

    member_same : (k : ℕ) (u w : Ty) → IsMember inside worth its_fields row_.members k u → IsMember inside worth its_fields row_.members k w → u ≡ w
    member_same k u w x y = sym x.2 ∙ ap (λ (z : Member). z.ty) (some_found x.0 y.0 (sym x.1 ∙ y.1)) ∙ y.2

    -- fields whose keys are those of one body
    by_keys : (x y : Field) (one : IsOne x) (other : IsOne y) → Stores x.member x.ty → Stores y.member y.ty → (on : HookKey) → own_key list n one.tree ≡ Some on → (to : HookKey) → own_key list n other.tree ≡ Some to → (key : ℕ × ℕ × ℕ) → are_same (parts_of on) key ≡ true → are_same (parts_of to) key ≡ true
        → y.ty ≡ x.ty
    by_keys x y one other store keep (key_is.Unit u name) e to e2 key same also = never (own_is list n one.tree (key_is.Unit u name) e)
    by_keys x y one other store keep (key_is.Member u k) e (key_is.Unit w name) e2 key same also = never (own_is list n other.tree (key_is.Unit w name) e2)
    by_keys x y one other store keep (key_is.Anonymous u k) e (key_is.Unit w name) e2 key same also = never (own_is list n other.tree (key_is.Unit w name) e2)
    by_keys x y one other store keep (key_is.Member u k) e (key_is.Member w j) e2 key same also =
        let first = same_numbers k key.2 (and_parts (nat_eq 1 key.0 && nat_eq u key.1) (nat_eq k key.2) same).1 in
        let second = same_numbers j key.2 (and_parts (nat_eq 1 key.0 && nat_eq w key.1) (nat_eq j key.2) also).1 in
        let left = subst (λ o. Stores o x.ty) (one.member u k e) store in
        let right = subst (λ o. Stores o y.ty) (other.member w j e2) keep in
        member_same k y.ty x.ty (subst (λ i. IsMember inside worth its_fields row_.members i y.ty) (second ∙ sym first) right) left
    by_keys x y one other store keep (key_is.Anonymous u k) e (key_is.Anonymous w j) e2 key same also =
        let first = same_numbers k key.2 (and_parts (nat_eq 2 key.0 && nat_eq u key.1) (nat_eq k key.2) same).1 in
        let second = same_numbers j key.2 (and_parts (nat_eq 2 key.0 && nat_eq w key.1) (nat_eq j key.2) also).1 in
        let at_one_place = sym (own_place list n one.tree u k e) ∙ first ∙ sym second ∙ own_place list n other.tree w j e2 in
        let tree = same_tree trees (all_apart list a formed_list unbroken apart n g d at is sort) one.index other.index one.tree other.tree one.stands other.stands at_one_place in
        other.ty ∙ ap (field_type inside worth) (sym tree) ∙ sym one.ty
    by_keys x y one other store keep (key_is.Member u k) e (key_is.Anonymous w j) e2 key same also =
        let first = same_numbers 1 key.0 (and_parts (nat_eq 1 key.0) (nat_eq u key.1) (and_parts (nat_eq 1 key.0 && nat_eq u key.1) (nat_eq k key.2) same).0).0 in
        let second = same_numbers 2 key.0 (and_parts (nat_eq 2 key.0) (nat_eq w key.1) (and_parts (nat_eq 2 key.0 && nat_eq w key.1) (nat_eq j key.2) also).0).0 in
        absurd (let z : ⊥ = omega (arith, first, second) in z)
    by_keys x y one other store keep (key_is.Anonymous u k) e (key_is.Member w j) e2 key same also =
        let first = same_numbers 2 key.0 (and_parts (nat_eq 2 key.0) (nat_eq u key.1) (and_parts (nat_eq 2 key.0 && nat_eq u key.1) (nat_eq k key.2) same).0).0 in
        let second = same_numbers 1 key.0 (and_parts (nat_eq 1 key.0) (nat_eq w key.1) (and_parts (nat_eq 1 key.0 && nat_eq w key.1) (nat_eq j key.2) also).0).0 in
        absurd (let z : ⊥ = omega (arith, first, second) in z)

    -- two fields of the unit with a body in common
    same_body : (x y : Field) → IsOne x → IsOne y → Stores x.member x.ty → Stores y.member y.ty → (h : ℕ) → is_among h x.hooks ≡ true → is_among h y.hooks ≡ true → y.ty ≡ x.ty
    same_body x y one other store keep h e also =
        let first = hung_at x one h e in
        let second = hung_at y other h also in
        let row_same = some_found first.2.row_ second.2.row_ (sym first.2.stands ∙ second.2.stands) in
        let key_same = some_found first.2.key second.2.key (sym first.2.is_key ∙ ap (λ (r : HookRow). key_of r.of r.field) row_same ∙ second.2.is_key) in
        by_keys x y one other store keep first.0 first.1 second.0 second.1 (parts_of second.2.key) (subst (λ k. are_same (parts_of first.0) (parts_of k) ≡ true) key_same first.2.same) second.2.same

    all_store : (x : Field) → IsOne x → Stores x.member x.ty → (h : ℕ) → is_among h x.hooks ≡ true → (xs : Parts) → AllFields inside worth its_fields xs → AreOnes xs → PartsAre inside worth its_fields row_.members xs → AllStore h x.ty xs
    all_store x one store h e no_parts all ones own = tt
    all_store x one store h e (more_parts (field y) xs) all ones own = ((λ also. same_body x y one ones.0 store own.0 h e also), all_store x one store h e xs all.1 ones.1 own.1)
    all_store x one store h e (more_parts (choice span subject cases) xs) all ones own = absurd all

    whole_fields : AllFields inside worth its_fields (parts row_.parts)
    whole_fields = all_fields list a formed_list unbroken functions known all_built declarations kinds hooks n g d at is sort

    whole_own : PartsAre inside worth its_fields row_.members (parts row_.parts)
    whole_own = own_fields list a formed_list unbroken reads passed n g d at is sort

    -- the mark of what a field's hooks hang on
    mark_is : (key : HookKey) → is_of_field n key ≡ true → (x : ℕ × ℕ × ℕ) × (mark_of (Some key) ≡ Some x) × (x.1 ≡ n)
    mark_is (key_is.Unit u name) e = never e
    mark_is (key_is.Member u k) e = ((1, u, k), refl, sym (same_numbers n u e))
    mark_is (key_is.Anonymous u k) e = ((2, u, k), refl, sym (same_numbers n u e))

    -- a body of a field of the unit is no other unit's
    only_own : (x : Field) → IsOne x → (h : ℕ) → is_among h x.hooks ≡ true → hooked_field h t.units ≡ field_in_parts h (parts row_.parts)
    only_own x one h e =
        let it = hung_at x one h e in
        let body = it.2 in
        let own = same_field n it.0 body.key body.same (own_is list n one.tree it.0 it.1) in
        let mark = mark_is body.key own in
        let many : length (ranks_of t.hooks) ≡ length listed = as_many_ranks _ _ _ _ listed in
        let inside_rows : h < length listed = found_below listed h body.row_ body.stands in
        let below : h < length (ranks_of t.hooks) = omega (arith, many, inside_rows) in
        only_hooked h t.units n row_ there (λ i y at_i differs. others list a formed_list unbroken apart h body.key mark.0 below (key_found listed h body.row_ body.stands ∙ body.is_key) mark.1 i y at_i (λ same. differs (same ∙ mark.2)))

    agrees : (x : Field) → IsOne x → Stores x.member x.ty → ((h : ℕ) → is_among h x.hooks ≡ true → some_has h (parts row_.parts) ≡ true) → FieldAgrees t.units x
    agrees x one store among h e =
        ap stored_type (only_own x one h e) ∙ first_stores h x.ty (parts row_.parts) (all_store x one store h e (parts row_.parts) whole_fields all_placed whole_own) (among h e)

    parts_agree : (xs : Parts) → ((h : ℕ) → some_has h xs ≡ true → some_has h (parts row_.parts) ≡ true) → AllFields inside worth its_fields xs → AreOnes xs → PartsAre inside worth its_fields row_.members xs → PartsAgree t.units xs
    parts_agree no_parts among all ones own = tt
    parts_agree (more_parts (field x) xs) among all ones own =
        (agrees x ones.0 own.0 (λ h e. among h (ap (λ b. b || some_has h xs) e)), parts_agree xs (λ h e. among h (or_right (is_among h x.hooks) (some_has h xs) e)) all.1 ones.1 own.1)
    parts_agree (more_parts (choice span subject cases) xs) among all ones own = absurd all

    row_agrees : PartsAgree t.units (parts row_.parts)
    row_agrees = parts_agree (parts row_.parts) (λ h e. e) whole_fields all_placed whole_own

  -- Fields that have a body in common store the same.
  pub fields_agree : FieldsAgree t
  fields_agree n x at =
      let r = of_row list a formed_list unbroken n x at in
      subst (λ (y : TypedUnit). PartsAgree t.units (parts y.parts)) r.same (row_agrees n r.g r.d r.at r.is r.sort)
