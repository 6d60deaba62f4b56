-- Each body of a hook hangs on a field that stores what the body sees, where the fields of each unit stand at places of their own.
use Rattle.std.specs.Prelude.{◌&&◌, ◌||◌, nat_eq, if◌then◌else◌, length}
use Rattle.std.specs.List.{list_all}
use Rattle.std.proofs.Common.{ℕ, ℤ, ◌≡◌, ◌<◌, zero, suc, Bool, true, false, refl, sym, ap, subst, ◌∙◌, arith, List, [], ◌∷◌, Option, Some, None, slice_get}
use Rattle.std.proofs.lemmas.Bool.{and_parts, eqb-true}
use Rattle.sp_ast.specs.Trees.{Tree, Trees, absent, row, node, none, more}
use Rattle.sp_ast.specs.Slots.{is_formed}
use Rattle.sp_ast.specs.declared.forms.Form.TheVariants as form_is
use Rattle.sp_rules.specs.declared.fault.Fault.{Fault}
use Rattle.sp_types.specs.Types.{Ty}
use Rattle.sp_typed.specs.Exprs.{Expr}
use Rattle.sp_typed_units.specs.declared.declarations.Hook.{Hook}
use Rattle.sp_typed_units.specs.declared.declarations.HookOf.{HookOf}
use Rattle.sp_typed_units.specs.declared.declarations.HookOf.TheVariants as of_is
use Rattle.sp_typed_units.specs.declared.declarations.Parameter.{Parameter}
use Rattle.sp_typed_units.specs.declared.declarations.Typed.{Typed}
use Rattle.sp_typed_units.specs.declared.declarations.Unit.{Unit as TypedUnit}
use Rattle.sp_typed_units.specs.declared.items.Field.{Field}
use Rattle.sp_typed_units.specs.Parts.{parts}
use Rattle.sp_type_context.specs.Contexts.{Around}
use Rattle.sp_type_fields.specs.Values.{Values}
use Rattle.sp_type_fields.specs.Parts.{Fields}
use Rattle.sp_type_functions.specs.Events.{is_of_elements}
use Rattle.sp_solver.specs.Told.{told}
use Rattle.sp_names.specs.Types.{or_unknown}
use Rattle.sp_names.specs.declared.rows.Declaration.{Declaration}
use Rattle.sp_names.specs.declared.sort.DeclSort.TheVariants as sort_is
use Rattle.sp_names.specs.Declarations.{inner_among, inside as inside_of, inner_of, declarations, module_declarations, rows_of as declared_rows, rows_from, rows, all_of, sort_of, declaration_at, number_at}
use Rattle.sp_type_modules.specs.Members.{unit_items}
use Rattle.sp_type_values.specs.Answers.{values}
use Rattle.sp_type_hook_order.specs.declared.keys.HookKey.{HookKey}
use Rattle.sp_type_hook_order.specs.declared.keys.HookKey.TheVariants as key_is
use Rattle.sp_type_hook_order.specs.Keys.{are_same, key_at as key_of_hook}
use Rattle.sp_type_hook_rows.specs.declared.sites.Holder.TheVariants as holder_is
use Rattle.sp_type_hook_rows.specs.declared.sites.Site.{Site}
use Rattle.sp_type_hook_rows.specs.declared.rows.HookRow.{HookRow}
use Rattle.sp_type_hook_rows.specs.Sites.{sites}
use Rattle.sp_type_hook_rows.specs.HookRows.{field_number, key_of, keys_of, hook_rows}
use Rattle.sp_type_hook_rows.specs.Places.{member_key, field_key, holder_key, earlier, if_at, key_at}
use Rattle.sp_type_list_context.specs.Contexts.{in_units}
use Rattle.sp_type_hooks.specs.Fields.{holder_types, types_in, mark_of, key_in, site_mark, earlier as earlier_type, if_marked, first_stored, seen_of}
use Rattle.sp_type_hooks.specs.Hooks.{seen_at, typed_hooks, ranks_of}
use Rattle.sp_type_units.specs.Fields.{hooks_by}
use Rattle.sp_type_units.specs.UnitRows.{inside_unit}
use Rattle.sp_type_answers.specs.Settled.{Answers}
use Rattle.sp_type_answers.specs.Lists.{hooks_in, typed_of}
use Rattle.sp_type_answers.specs.Rules.{Breaks}
use Rattle.sp_meaning.specs.Hooks.{has_current}
use Rattle.sp_code_programs.specs.programs.Currents.{field_in_parts, hooked_field}
use Rattle.sp_law_lists.specs.fit_list.Stored.{stored_type}
use Rattle.sp_law_lists.proofs.known_types_lemmas.Full.{never}
use Rattle.sp_law_lists.proofs.whole_list_lemmas.Modules.{none_found, some_found}
use Rattle.sp_law_lists.proofs.known_constants_lemmas.Declarations.{AllOf, both_of, at_all, declaration_fine}
use Rattle.sp_law_lists.proofs.unbroken_list_lemmas.Split.{declared_names}
use Rattle.sp_law_lists.proofs.known_members_lemmas.Shapes.{is_unit_sort}
use Rattle.sp_law_lists.proofs.known_members_lemmas.Contexts.{home}
use Rattle.sp_law_lists.proofs.known_members_lemmas.Units.{IsDeclared, all_declared, suits, items_are_fine, items, fine, ps, fields, row_here}
use Rattle.sp_law_lists.proofs.known_hooks_lemmas.Marks.{is_marked, some_marked}
use Rattle.sp_law_lists.proofs.known_hooks_lemmas.Walks.{all_places}
use Rattle.sp_law_lists.proofs.known_hooks_lemmas.Sites.{SiteFine, places_fine}
use Rattle.sp_law_lists.proofs.known_hooks_lemmas.Seen.{IsSeen, all_own}
use Rattle.sp_law_lists.proofs.known_hooks_lemmas.Contexts.{unit_here}
use Rattle.sp_law_lists.proofs.known_hooks_lemmas.Rows.{RowGood, rows_good}
use Rattle.sp_law_lists.specs.field_places.Apart.{place_of, fields_among, are_apart, declared_items, unit_apart, units_apart, fields_apart}
use Rattle.sp_law_lists.specs.passing_list.Hooked.{AreHooked}
use Rattle.sp_law_lists.proofs.passing_list_lemmas.Members.{found_below}
use Rattle.sp_law_lists.proofs.passing_list_lemmas.UnitRows.{row_found, of_row}
use Rattle.sp_law_lists.proofs.passing_list_lemmas.Firsts.{either_of, first_of, all_nothing, at_field, in_unit, in_none, only_hooked}
use Rattle.sp_law_lists.proofs.passing_list_lemmas.Bodied.{IsWhole, with_body, items_walked}
use Rattle.sp_law_lists.proofs.passing_list_lemmas.Placed.{own_key, key_there, IsFound, each_found, field_typed, has_body}

-- the fields of each declaration stand apart, those of the units in it, too
abbrev StandApart : Declaration → Type 0
StandApart d = unit_apart d.tree ≡ true

abbrev AllApart : Declaration → Type 0
AllApart d = units_apart d.tree ≡ true

declared_apart : (m : ℕ) (ts : List Tree) → list_all units_apart ts ≡ true → AllOf AllApart (declared_rows m ts)
declared_apart m [] e = tt
declared_apart m (t ∷ ts) e = (let p = and_parts (units_apart t) (list_all units_apart ts) e in (p.0, declared_apart m ts p.1))

modules_apart : (m : ℕ) (ts : List Tree) → list_all fields_apart ts ≡ true → AllOf AllApart (rows_from m ts)
modules_apart m [] e = tt
modules_apart m (t ∷ ts) e =
    let p = and_parts (fields_apart t) (list_all fields_apart ts) e in
    both_of AllApart (declared_rows m (module_declarations t)) (rows_from (suc m) ts) (declared_apart m (module_declarations t) p.0) (modules_apart (suc m) ts p.1)

units_stand : (m : ℕ) (ts : List Tree) → list_all unit_apart ts ≡ true → AllOf StandApart (declared_rows m ts)
units_stand m [] e = tt
units_stand m (t ∷ ts) e = (let p = and_parts (unit_apart t) (list_all unit_apart ts) e in (p.0, units_stand m ts p.1))

own_apart : (ds : List Declaration) → AllOf AllApart ds → AllOf StandApart ds
own_apart [] h = tt
own_apart (d ∷ ds) h = ((and_parts (unit_apart d.tree) (list_all unit_apart (inner_among (inside_of d.tree))) h.0).0, own_apart ds h.1)

inner_apart : (ds : List Declaration) → AllOf AllApart ds → AllOf StandApart (inner_of ds)
inner_apart [] h = tt
inner_apart (d ∷ ds) h =
    let ts = inner_among (inside_of d.tree) in
    both_of StandApart (declared_rows d.«module» ts) (inner_of ds) (units_stand d.«module» ts (and_parts (unit_apart d.tree) (list_all unit_apart ts) h.0).1) (inner_apart ds h.1)

rows_apart : (list : List Tree) → list_all fields_apart list ≡ true → AllOf StandApart (rows list)
rows_apart list e =
    let all = modules_apart 0 list e in
    both_of StandApart (declarations list) (inner_of (declarations list)) (own_apart (declarations list) all) (inner_apart (declarations list) all)

-- two numbers that differ
not_same : (i n : ℕ) → (i ≡ n → ⊥) → nat_eq i n ≡ false
not_same i n other = by (nat_eq i n) refl
  where
    by : (b : Bool) → nat_eq i n ≡ b → b ≡ false
    by true e = absurd (other (eqb-true i n e))
    by false e = refl

-- what each field of a row stores, if it has a body
each_stored : (p : Tree → Option Field) (q : Tree → Option Ty) (ts : List Tree) → AllOf (λ t. stored_type (p t) ≡ q t) ts → stored_type (first_of p ts) ≡ first_of q ts
each_stored p q [] all = refl
each_stored p q (t ∷ ts) all = both (p t) (first_of p ts) ∙ ap (λ o. either_of o (stored_type (first_of p ts))) all.0 ∙ ap (either_of (q t)) (each_stored p q ts all.1)
  where
    both : (a b : Option Field) → stored_type (either_of a b) ≡ either_of (stored_type a) (stored_type b)
    both None b = refl
    both (Some x) b = refl

nothing_stored : (o : Option Field) → stored_type o ≡ None → o ≡ None
nothing_stored None e = refl
nothing_stored (Some x) e = none_found x.ty (sym e)

-- rows of hooks by their numbers
pub key_found : (rs : List HookRow) (h : ℕ) (r : HookRow) → slice_get rs h ≡ Some r → key_of_hook (keys_of rs) h ≡ key_of r.of r.field
key_found [] h r e = none_found r e
key_found (s ∷ rs) zero r e = ap (λ (x : HookRow). key_of x.of x.field) (some_found s r e)
key_found (s ∷ rs) (suc h) r e = key_found rs h r e

pub as_many_ranks : (contexts : List Around) (ranks : Expr → Option ℤ) (seen : ℕ × ℕ × ℕ → Option Ty × Option Ty) (units : List (List Parameter)) (rs : List HookRow) → length (ranks_of (typed_hooks contexts ranks seen units rs)) ≡ length rs
as_many_ranks contexts ranks seen units [] = refl
as_many_ranks contexts ranks seen units (r ∷ rs) = ap suc (as_many_ranks contexts ranks seen units rs)

module _ (list : List Tree) where
  -- what the hooks at a place of a unit hang on, and what a field of a mark stores, as what the first of all places gives
  abbrev at_place : ℕ × ℕ → Site → Option HookKey
  at_place x s = if_at x s.unit (holder_key list s.unit s.holder)

  key_first : (x : ℕ × ℕ) (ss : List Site) → key_at list x ss ≡ first_of (at_place x) ss
  key_first x [] = refl
  key_first x (s ∷ ss) = either (at_place x s) (key_at list x ss) ∙ ap (either_of (at_place x s)) (key_first x ss)
    where
      either : (a b : Option HookKey) → earlier a b ≡ either_of a b
      either None b = refl
      either (Some k) b = refl

  place_elsewhere : (n place m i : ℕ) (t : Tree) → (i ≡ n → ⊥) → at_place (n, place) (record { «module» = m; unit = i; holder = holder_is.Field t }) ≡ None
  place_elsewhere n place m i t other = by (field_key list i t)
    where
      by : (o : Option (ℕ × HookKey)) → if_at (n, place) i o ≡ None
      by None = refl
      by (Some y) = ap (λ b. if b && nat_eq y.0 place then Some y.1 else None) (not_same i n other)

  module _ (contexts : List Around) (v : Values) (x : ℕ × ℕ × ℕ) where
    abbrev stored_at : Site → Option Ty
    stored_at s = if_marked x (site_mark list s) (holder_types contexts v s.unit s.holder).stored

    stored_first : (ss : List Site) → first_stored list contexts v x ss ≡ first_of stored_at ss
    stored_first [] = refl
    stored_first (s ∷ ss) = either (stored_at s) (first_stored list contexts v x ss) ∙ ap (either_of (stored_at s)) (stored_first ss)
      where
        either : (a b : Option Ty) → earlier_type a b ≡ either_of a b
        either None b = refl
        either (Some t) b = refl

    -- one that is marked stores something
    something_stored : (ss : List Site) → some_marked list x ss ≡ true → (t : Ty) × (first_of stored_at ss ≡ Some t)
    something_stored [] e = never e
    something_stored (s ∷ ss) e = by_mark (site_mark list s) refl e (something_stored ss)
      where
        u : Ty
        u = (holder_types contexts v s.unit s.holder).stored

        by_same : (b : Bool) → (b || some_marked list x ss) ≡ true → (some_marked list x ss ≡ true → (t : Ty) × (first_of stored_at ss ≡ Some t)) → (t : Ty) × (either_of (if b then Some u else None) (first_of stored_at ss) ≡ Some t)
        by_same true e behind = (u, refl)
        by_same false e behind = behind e

        by_mark : (o : Option (ℕ × ℕ × ℕ)) → site_mark list s ≡ o → (is_marked x o || some_marked list x ss) ≡ true → (some_marked list x ss ≡ true → (t : Ty) × (first_of stored_at ss ≡ Some t)) → (t : Ty) × (either_of (stored_at s) (first_of stored_at ss) ≡ Some t)
        by_mark None is e behind =
            let w = behind e in
            (w.0, ap (λ o. either_of (if_marked x o u) (first_of stored_at ss)) is ∙ w.1)
        by_mark (Some y) is e behind =
            let w = by_same (are_same y x) e behind in
            (w.0, ap (λ o. either_of (if_marked x o u) (first_of stored_at ss)) is ∙ w.1)

    member_unit : (i place : ℕ) (o : Option ℕ) (y : ℕ × ℕ × ℕ) → mark_of (key_in (member_key i place o)) ≡ Some y → y.1 ≡ i
    member_unit i place None y e = none_found y e
    member_unit i place (Some k) y e = sym (ap (λ (z : ℕ × ℕ × ℕ). z.1) (some_found (1, i, k) y e))

    mark_unit : (i : ℕ) (t : Tree) (y : ℕ × ℕ × ℕ) → mark_of (key_in (field_key list i t)) ≡ Some y → y.1 ≡ i
    mark_unit i (node form_is.Field span (more (node (form_is.Name z) s us) ts)) y e = member_unit i s.from (field_number list i z) y e
    mark_unit i (node form_is.Field span (more (node _ s us) ts)) y e = sym (ap (λ (z : ℕ × ℕ × ℕ). z.1) (some_found (2, i, span.from) y e))
    mark_unit i (node form_is.Field span (more absent ts)) y e = sym (ap (λ (z : ℕ × ℕ × ℕ). z.1) (some_found (2, i, span.from) y e))
    mark_unit i (node form_is.Field span (more (row us) ts)) y e = sym (ap (λ (z : ℕ × ℕ × ℕ). z.1) (some_found (2, i, span.from) y e))
    mark_unit i (node form_is.Field span none) y e = none_found y e
    mark_unit i (node _ span ts) y e = none_found y e
    mark_unit i absent y e = none_found y e
    mark_unit i (row ts) y e = none_found y e

    stored_elsewhere : (m i : ℕ) (t : Tree) → (i ≡ x.1 → ⊥) → stored_at (record { «module» = m; unit = i; holder = holder_is.Field t }) ≡ None
    stored_elsewhere m i t other = by (mark_of (key_in (field_key list i t))) (mark_unit i t)
      where
        u : Ty
        u = (types_in (slice_get contexts i) v t).stored

        later : (a b : Bool) → b ≡ false → (a && b) ≡ false
        later true b e = e
        later false b e = refl

        by : (o : Option (ℕ × ℕ × ℕ)) → ((y : ℕ × ℕ × ℕ) → o ≡ Some y → y.1 ≡ i) → if_marked x o u ≡ None
        by None unit = refl
        by (Some y) unit =
            let apart : nat_eq y.1 x.1 ≡ false = not_same y.1 x.1 (λ e. other (sym (unit y refl) ∙ e)) in
            ap (λ b. if b && nat_eq y.2 x.2 then Some u else None) (later (nat_eq y.0 x.0) (nat_eq y.1 x.1) apart)

module _ (list : List Tree) (a : Answers list) (formed_list : list_all is_formed list ≡ true) (unbroken : (x : Fault) → Breaks list x → ⊥) (apart : list_all fields_apart list ≡ true) where
  abbrev f : ℕ → Option Ty
  f = told a.types

  abbrev t : Typed
  t = typed_of list a

  abbrev v : Values
  v = values list f (told a.values)

  abbrev contexts : List Around
  contexts = in_units list f (told a.values) (told a.stored)

  abbrev rs : List HookRow
  rs = hook_rows list f

  abbrev hs : List Hook
  hs = hooks_in list f (told a.values) a.stored (sites list) rs

  -- a unit by its number
  module _ (n g : ℕ) (d : Declaration) (at : slice_get (all_of sort_is.Unit list) n ≡ Some g) (is : declaration_at list g ≡ Some d) (sort : is_unit_sort (sort_of d.tree) ≡ true) where
    abbrev m : ℕ
    m = d.«module»

    abbrev the_row : TypedUnit
    the_row = row_here list a formed_list unbroken n g d at is sort

    abbrev here : Trees
    here = items list a formed_list unbroken n g d at is sort

    abbrev inside : Around
    inside = inside_unit n (ps list a formed_list unbroken n g d at is sort) (home list a (told a.stored) m)

    abbrev known : Fields
    known = fields list a formed_list unbroken n g d at is sort

    items_are : declared_items d.tree ≡ here
    items_are = ap unit_items (fine list a formed_list unbroken n g d at is sort).1.is

    -- the bodies at the place of a field are those that hang on it
    pub key_here : (place : ℕ) → key_at list (n, place) (sites list) ≡ first_of (key_there list n place) (fields_among here)
    key_here place =
        key_first list (n, place) (sites list)
        ∙ in_unit list (at_place list (n, place)) n (λ m t. refl) (λ m i t. refl) (place_elsewhere list n place) g d at is sort
        ∙ ap (λ ts. first_of (key_there list n place) (fields_among ts)) items_are

    pub all_apart : are_apart (fields_among here) ≡ true
    all_apart = subst (λ ts. are_apart (fields_among ts) ≡ true) items_are (at_all StandApart (rows list) g d (rows_apart list apart) is)

    module _ (h : ℕ) (r : HookKey) (x : ℕ × ℕ × ℕ) (below : h < length (ranks_of hs)) (key : key_of_hook (keys_of rs) h ≡ Some r) (mark : mark_of (Some r) ≡ Some x) where
      -- what a field stores that has the body
      abbrev typed : Tree → Option Field
      typed u = with_body list f m inside v known h u

      abbrev stored : Tree → Option Ty
      stored u = at_field (stored_at list contexts v x) m n u

      one_so : (u : Tree) → IsWhole list f m inside v known h u → IsFound list n (fields_among here) u → stored_type (typed u) ≡ stored u
      one_so u whole found =
          let w = field_typed inside v known (λ place. hooks_by (keys_of rs, ranks_of hs) (key_at list (n, place) (sites list))) (λ at. refl) list f m u whole.0 whole.1 in
          let hooks = w.hooks ∙ ap (hooks_by (keys_of rs, ranks_of hs)) (key_here (place_of u) ∙ found) in
          has_body (keys_of rs) (ranks_of hs) h r x below key mark inside v u _ w.typed (own_key list n u) w.is w.ty hooks
          ∙ sym (ap (λ o. if_marked x (mark_of (own_key list n u)) (types_in o v u).stored) (unit_here list a formed_list unbroken n g d at is sort))

      all_so : (us : List Tree) → AllOf (IsWhole list f m inside v known h) us → AllOf (IsFound list n (fields_among here)) us → AllOf (λ u. stored_type (typed u) ≡ stored u) us
      all_so [] whole found = tt
      all_so (u ∷ us) whole found = (one_so u whole.0 found.0, all_so us whole.1 found.1)

      unit_so : stored_type (field_in_parts h (parts the_row.parts)) ≡ first_of stored (fields_among (declared_items d.tree))
      unit_so =
          let w = items_walked list f m inside v known h here (suits list a formed_list unbroken n g d at is sort).1 (items_are_fine list a formed_list unbroken n g d at is sort) in
          ap stored_type w.same ∙ each_stored typed stored (fields_among here) (all_so (fields_among here) w.whole (each_found list n (fields_among here) all_apart))
          ∙ sym (ap (λ ts. first_of stored (fields_among ts)) items_are)

  -- the body of a hook of a mark that some field has
  module _ (h : ℕ) (r : HookKey) (x : ℕ × ℕ × ℕ) (below : h < length (ranks_of hs)) (key : key_of_hook (keys_of rs) h ≡ Some r) (mark : mark_of (Some r) ≡ Some x) where
    abbrev stored_there : Site → Option Ty
    stored_there = stored_at list contexts v x

    pub others : (i : ℕ) (y : TypedUnit) → slice_get t.units i ≡ Some y → (i ≡ x.1 → ⊥) → field_in_parts h (parts y.parts) ≡ None
    others i y listed other =
        let w = of_row list a formed_list unbroken i y listed in
        let empty = unit_so i w.g w.d w.at w.is w.sort h r x below key mark ∙ all_nothing (at_field stored_there w.d.«module» i) (λ u. stored_elsewhere list contexts v x w.d.«module» i u other) (fields_among (declared_items w.d.tree)) in
        subst (λ (z : TypedUnit). field_in_parts h (parts z.parts) ≡ None) w.same (nothing_stored (field_in_parts h (parts (the_row i w.g w.d w.at w.is w.sort).parts)) empty)

    body_stores : some_marked list x (sites list) ≡ true → stored_type (hooked_field h t.units) ≡ Some (or_unknown (first_stored list contexts v x (sites list)))
    body_stores found = by (slice_get (all_of sort_is.Unit list) x.1) refl
      where
        there : (t : Ty) × (first_of stored_there (sites list) ≡ Some t)
        there = something_stored list contexts v x (sites list) found

        by : (o : Option ℕ) → slice_get (all_of sort_is.Unit list) x.1 ≡ o → stored_type (hooked_field h t.units) ≡ Some (or_unknown (first_stored list contexts v x (sites list)))
        by None at = none_found there.0 (sym (in_none list stored_there x.1 (λ m t. refl) (λ m i t. refl) (stored_elsewhere list contexts v x) at) ∙ there.1)
        by (Some g) at =
            let w = at_all (IsDeclared list) (all_of sort_is.Unit list) x.1 g (all_declared list) at in
            let n = x.1 in
            let first = in_unit list stored_there n (λ m t. refl) (λ m i t. refl) (stored_elsewhere list contexts v x) g w.0 at w.1 w.2 in
            let is = ap stored_type (only_hooked h t.units n (the_row n g w.0 at w.1 w.2) (row_found list a formed_list unbroken n g w.0 at w.1 w.2) others) ∙ unit_so n g w.0 at w.1 w.2 h r x below key mark ∙ sym first ∙ there.1 in
            is ∙ ap (λ o. Some (or_unknown o)) (sym (stored_first list contexts v x (sites list) ∙ there.1))

  good : AllOf (RowGood list a formed_list unbroken) rs
  good = rows_good list a formed_list unbroken (all_places list (SiteFine list f) (λ g d is. places_fine list f d.«module» (number_at list g) d.tree (declaration_fine list f formed_list (declared_names list a unbroken) g d is))) (all_own list)

  -- Bodies of fields see what these store.
  pub are_hooked : AllOf (λ (r : HookRow). is_of_elements r.of ≡ false) rs → AreHooked list a
  are_hooked single h r at has =
      let many : length (ranks_of hs) ≡ length rs = as_many_ranks _ _ _ _ rs in
      let inside_rows : h < length rs = found_below rs h r at in
      by (omega (arith, many, inside_rows)) r.of r.field (key_found rs h r at) has (at_all (λ (y : HookRow). is_of_elements y.of ≡ false) rs h r single at) (at_all (RowGood list a formed_list unbroken) rs h r good at).1
    where
      by : h < length (ranks_of hs) → (of : HookOf) (place : Option ℕ) → key_of_hook (keys_of rs) h ≡ key_of of place → has_current of ≡ true → is_of_elements of ≡ false → IsSeen list of place
          → stored_type (hooked_field h t.units) ≡ Some (or_unknown (seen_at (seen_of list contexts v (sites list)) (mark_of (key_of of place))).0)
      by below of_is.Nothing place key has once seen = never has
      by below (of_is.Unit n e) place key has once seen = never has
      by below (of_is.Field n k) place key has once seen = body_stores h (key_is.Member n k) (1, n, k) below key refl seen
      by below (of_is.Elements n k) place key has once seen = never (sym once)
      by below (of_is.Anonymous n) None key has once seen = absurd seen
      by below (of_is.Anonymous n) (Some place) key has once seen = body_stores h (key_is.Anonymous n place) (2, n, place) below key refl seen
      by below (of_is.AnonymousElements n) place key has once seen = never (sym once)
