-- A field of a unit whose fields stand apart has the bodies that hang on it, and stores what these see.
use Rattle.std.specs.Prelude.{◌==◌, ◌&&◌, ◌||◌, not, nat_eq, if◌then◌else◌, length}
use Rattle.std.specs.Cmp.{nat_eq_equiv}
use Rattle.std.proofs.Common.{ℕ, ℤ, ◌≡◌, ◌<◌, Bool, true, false, refl, sym, ap, subst, ◌∙◌, List, [], ◌∷◌, Option, Some, None}
use Rattle.std.proofs.lemmas.Bool.{and_parts, and_from, eq-eqb, not-true}
use Rattle.sp_base.specs.declared.places.Span.{Span}
use Rattle.sp_ast.specs.Trees.{Tree, Trees, absent, row, node, none, more}
use Rattle.sp_ast.specs.Slots.{fill, slots}
use Rattle.sp_ast.specs.Groups.{is_of, are_of, fits as stands_as}
use Rattle.sp_ast.specs.declared.groups.Group.TheVariants as group_is
use Rattle.sp_ast.specs.declared.groups.Sort.TheVariants as stands
use Rattle.sp_ast.specs.declared.forms.Form.TheVariants as form_is
use Rattle.sp_types.specs.Types.{Ty}
use Rattle.sp_typed_units.specs.declared.items.Field.{Field}
use Rattle.sp_typed_units.specs.Parts.{Part, field}
use Rattle.sp_type_context.specs.Contexts.{Around}
use Rattle.sp_type_fields.specs.Values.{Values}
use Rattle.sp_ast.specs.Views.{present}
use Rattle.sp_type_fields.specs.Readings.{counted_read}
use Rattle.sp_type_fields.specs.Parts.{Fields, field_place, field_of, field_in}
use Rattle.sp_type_fields.specs.Fields.{field_type}
use Rattle.sp_type_hook_order.specs.declared.keys.HookKey.{HookKey}
use Rattle.sp_type_hook_order.specs.declared.keys.HookKey.TheVariants as key_is
use Rattle.sp_type_hook_order.specs.Keys.{are_same, hangs_on, key_at as key_of_hook, parts_of}
use Rattle.sp_type_hook_rows.specs.HookRows.{field_number}
use Rattle.sp_type_hook_rows.specs.Places.{member_key, field_key, if_at}
use Rattle.sp_type_hooks.specs.Fields.{mark_of, key_in, if_marked}
use Rattle.sp_type_units.specs.Fields.{hooks_by}
use Rattle.sp_meaning_states.specs.Scopes.{is_among}
use Rattle.sp_code_programs.specs.programs.Currents.{field_in as bodied}
use Rattle.sp_law_lists.specs.fit_list.Stored.{stored_type}
use Rattle.sp_law_lists.proofs.known_types_lemmas.Full.{never}
use Rattle.sp_law_lists.proofs.whole_list_lemmas.Modules.{none_found, some_found}
use Rattle.sp_law_lists.specs.known_constants.Fine.{IsFine}
use Rattle.sp_law_lists.proofs.known_constants_lemmas.Fine.{formed}
use Rattle.sp_law_lists.proofs.known_constants_lemmas.Declarations.{AllOf}
use Rattle.sp_law_lists.proofs.known_members_lemmas.Shapes.{field_parts, field_whole}
use Rattle.sp_law_lists.proofs.known_hooks_lemmas.Marks.{is_marked}
use Rattle.sp_law_lists.specs.field_places.Apart.{place_of, stands_there, are_apart}
use Rattle.sp_law_lists.proofs.passing_list_lemmas.Firsts.{either_of, first_of, nothing_behind}
use Rattle.sp_law_lists.proofs.passing_list_lemmas.Ordered.{hangs_there}

neither : (a b : Bool) → (a || b) ≡ false → (a ≡ false) × (b ≡ false)
neither true b e = never (sym e)
neither false b e = (refl, e)

both_not : (a b : Bool) → b ≡ false → (a && b) ≡ false
both_not true b e = e
both_not false b e = refl

-- what the hooks of fields of a unit hang on
module _ (list : List Tree) (n : ℕ) where
  abbrev pub own_key : Tree → Option HookKey
  own_key t = key_in (field_key list n t)

  -- those of a field that stands at a place
  abbrev pub key_there : ℕ → Tree → Option HookKey
  key_there place t = if_at (n, place) n (field_key list n t)

  member_place : (place : ℕ) (o : Option ℕ) (y : ℕ × HookKey) → member_key n place o ≡ Some y → y.0 ≡ place
  member_place place None y e = none_found y e
  member_place place (Some k) y e = sym (ap (λ (p : ℕ × HookKey). p.0) (some_found (place, key_is.Member n k) y e))

  key_place : (t : Tree) (y : ℕ × HookKey) → field_key list n t ≡ Some y → y.0 ≡ place_of t
  key_place (node form_is.Field span (more (node (form_is.Name x) s us) ts)) y e = member_place s.from (field_number list n x) y e
  key_place (node form_is.Field span (more (node _ s us) ts)) y e = sym (ap (λ (p : ℕ × HookKey). p.0) (some_found (span.from, key_is.Anonymous n span.from) y e))
  key_place (node form_is.Field span (more absent ts)) y e = sym (ap (λ (p : ℕ × HookKey). p.0) (some_found (span.from, key_is.Anonymous n span.from) y e))
  key_place (node form_is.Field span (more (row us) ts)) y e = sym (ap (λ (p : ℕ × HookKey). p.0) (some_found (span.from, key_is.Anonymous n span.from) y e))
  key_place (node form_is.Field span none) y e = none_found y e
  key_place (node _ span ts) y e = none_found y e
  key_place absent y e = none_found y e
  key_place (row ts) y e = none_found y e

  at_own : (t : Tree) → key_there (place_of t) t ≡ own_key t
  at_own t = by (field_key list n t) (key_place t)
    where
      by : (o : Option (ℕ × HookKey)) → ((y : ℕ × HookKey) → o ≡ Some y → y.0 ≡ place_of t) → if_at (n, place_of t) n o ≡ key_in o
      by None place = refl
      by (Some y) place =
          ap (λ b. if b then Some y.1 else None) (and_from (nat_eq n n) (nat_eq y.0 (place_of t)) (eq-eqb n n refl) (eq-eqb y.0 (place_of t) (place y refl)))

  at_other : (place : ℕ) (t : Tree) → (place_of t == place) ≡ false → key_there place t ≡ None
  at_other place t apart = by (field_key list n t) (key_place t)
    where
      by : (o : Option (ℕ × HookKey)) → ((y : ℕ × HookKey) → o ≡ Some y → y.0 ≡ place_of t) → if_at (n, place) n o ≡ None
      by None at = refl
      by (Some y) at = ap (λ b. if b then Some y.1 else None) (both_not (nat_eq n n) (nat_eq y.0 place) (ap (λ i. nat_eq i place) (at y refl) ∙ apart))

  none_there : (place : ℕ) (ts : List Tree) → stands_there place ts ≡ false → first_of (key_there place) ts ≡ None
  none_there place [] e = refl
  none_there place (t ∷ ts) e =
      let p = neither (place_of t == place) (stands_there place ts) e in
      ap (λ o. either_of o (first_of (key_there place) ts)) (at_other place t p.0) ∙ none_there place ts p.1

  -- the first field at the place of one of some fields is that field
  abbrev pub IsFound : List Tree → Tree → Type 0
  IsFound ts t = first_of (key_there (place_of t)) ts ≡ own_key t

  found_behind : (u : Tree) (us ts : List Tree) → stands_there (place_of u) ts ≡ false → AllOf (IsFound us) ts → AllOf (IsFound (u ∷ us)) ts
  found_behind u us [] e all = tt
  found_behind u us (t ∷ ts) e all =
      let p = neither (place_of t == place_of u) (stands_there (place_of u) ts) e in
      let other : (place_of u == place_of t) ≡ false = nat_eq_equiv.symm (place_of u) (place_of t) ∙ p.0 in
      (ap (λ o. either_of o (first_of (key_there (place_of t)) us)) (at_other (place_of t) u other) ∙ all.0, found_behind u us ts p.1 all.1)

  pub each_found : (ts : List Tree) → are_apart ts ≡ true → AllOf (IsFound ts) ts
  each_found [] e = tt
  each_found (t ∷ ts) e =
      let p = and_parts (not (stands_there (place_of t) ts)) (are_apart ts) e in
      let alone : stands_there (place_of t) ts ≡ false = not-true (stands_there (place_of t) ts) p.0 in (
        ap (either_of (key_there (place_of t) t)) (none_there (place_of t) ts alone) ∙ nothing_behind (key_there (place_of t) t) ∙ at_own t,
        found_behind t ts ts alone (each_found ts p.1),
      )

-- a body hangs on what has its mark
same_marks : (key r : HookKey) (x : ℕ × ℕ × ℕ) → mark_of (Some r) ≡ Some x → hangs_on (parts_of key) (Some r) ≡ is_marked x (mark_of (Some key))
same_marks key (key_is.Unit n h) x e = none_found x e
same_marks (key_is.Unit a h) (key_is.Member n k) x e = refl
same_marks (key_is.Unit a h) (key_is.Anonymous n place) x e = refl
same_marks (key_is.Member a b) (key_is.Member n k) x e = ap (are_same (1, a, b)) (some_found (1, n, k) x e)
same_marks (key_is.Member a b) (key_is.Anonymous n place) x e = ap (are_same (1, a, b)) (some_found (2, n, place) x e)
same_marks (key_is.Anonymous a b) (key_is.Member n k) x e = ap (are_same (2, a, b)) (some_found (1, n, k) x e)
same_marks (key_is.Anonymous a b) (key_is.Anonymous n place) x e = ap (are_same (2, a, b)) (some_found (2, n, place) x e)

-- a type where a test holds
abbrev where_true : Bool → Ty → Option Ty
where_true b t = if b then Some t else None

where_stored : (b : Bool) (x : Field) → stored_type (if b then Some x else None) ≡ where_true b x.ty
where_stored true x = refl
where_stored false x = refl

where_marked : (x : ℕ × ℕ × ℕ) (o : Option (ℕ × ℕ × ℕ)) (t : Ty) → where_true (is_marked x o) t ≡ if_marked x o t
where_marked x None t = refl
where_marked x (Some y) t = refl

-- The field that is typed of a tree, where fields have their bodies by their places.
module _ (g : Around) (v : Values) (fields : Fields) (bodies_at : ℕ → List ℕ) (bodies_are : (at : Span) → fields.hooks at ≡ bodies_at at.from) where
  pub record IsTyped (t : Tree) : Type 0 where
    pub typed : Field
    pub is : field_in g v fields t ≡ field typed
    pub ty : typed.ty ≡ field_type g v t
    pub hooks : typed.hooks ≡ bodies_at (place_of t)

  place_is : (span : Span) (name : Tree) (ts : Trees) → stands_as (stands.Optional group_is.Names) name ≡ true → (field_place span (present name)).from ≡ place_of (node form_is.Field span (more name ts))
  place_is span absent ts e = refl
  place_is span (node (form_is.Name x) at us) ts e = refl
  place_is span (node _ at us) ts e = never e
  place_is span (row us) ts e = never e

  whole_typed : (span : Span) (name base : Tree) (counts ts : Trees) (condition sink bodies : Tree) → stands_as (stands.Optional group_is.Names) name ≡ true → IsTyped (node form_is.Field span (field_parts name base counts ts condition sink bodies))
  whole_typed span name base counts ts condition sink bodies e = record {
    typed = field_of g v fields span (present name) (counted_read g v base counts) ts (present condition) (present sink);
    is = refl;
    ty = refl;
    hooks = bodies_are (field_place span (present name)) ∙ ap bodies_at (place_is span name (more base (more (row counts) (more (row ts) (more condition (more sink (more bodies none)))))) e);
  }

  pub field_typed : (list : List Tree) (f : ℕ → Option Ty) (m : ℕ) (x : Tree) → is_of group_is.Fields x ≡ true → IsFine list f m x → IsTyped x
  field_typed list f m (node form_is.Field span ws) of fine =
      let filled = formed list f m form_is.Field span ws fine in
      let w = field_whole ws filled in
      let optional = stands.Optional group_is.Expressions in
      let behind = is_of group_is.Bases w.base && (are_of group_is.Counts w.counts && (are_of group_is.Attributes w.attributes && (stands_as optional w.condition && (stands_as optional w.sink && (stands_as (stands.Rows group_is.HookBodies) w.hooks && true))))) in
      let name = (and_parts (stands_as (stands.Optional group_is.Names) w.name) behind (subst (λ us. fill (slots form_is.Field) us ≡ true) w.is filled)).0 in
      subst (λ us. IsTyped (node form_is.Field span us)) (sym w.is) (whole_typed span w.name w.base w.counts w.attributes w.condition w.sink w.hooks name)
  field_typed list f m (node _ span ws) of fine = never of
  field_typed list f m absent of fine = never of
  field_typed list f m (row ws) of fine = never of

-- It has the body of a hook where the hook has its mark.
module _ (keys : List (Option HookKey)) (ranks : List ℤ) (h : ℕ) (r : HookKey) (x : ℕ × ℕ × ℕ) (below : h < length ranks) (key_is : key_of_hook keys h ≡ Some r) (mark_is : mark_of (Some r) ≡ Some x) where
  hung : (o : Option HookKey) → is_among h (hooks_by (keys, ranks) o) ≡ is_marked x (mark_of o)
  hung None = refl
  hung (Some key) = hangs_there keys ranks key h below ∙ ap (hangs_on (parts_of key)) key_is ∙ same_marks key r x mark_is

  pub has_body : (g : Around) (v : Values) (t : Tree) (p : Part) (y : Field) (o : Option HookKey) → p ≡ field y → y.ty ≡ field_type g v t → y.hooks ≡ hooks_by (keys, ranks) o → stored_type (bodied h p) ≡ if_marked x (mark_of o) (field_type g v t)
  has_body g v t p y o is ty hooks =
      ap (λ (q : Part). stored_type (bodied h q)) is ∙ where_stored (is_among h y.hooks) y ∙ ap (λ u. where_true (is_among h y.hooks) u) ty ∙ ap (λ hs. where_true (is_among h hs) (field_type g v t)) hooks
      ∙ ap (λ b. where_true b (field_type g v t)) (hung o) ∙ where_marked x (mark_of o) (field_type g v t)
