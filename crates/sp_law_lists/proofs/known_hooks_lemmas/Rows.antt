-- The rows of hooks: each has the tree of a hook, and what it hangs on is there.
use Rattle.std.specs.Prelude.{if◌then◌else◌}
use Rattle.std.specs.List.{list_all}
use Rattle.std.proofs.Common.{ℕ, ◌≡◌, Bool, true, false, refl, List, [], ◌∷◌, Option, Some, None}
use Rattle.sp_base.specs.declared.places.Span.{Span}
use Rattle.sp_ast.specs.Trees.{Tree, Trees, absent, row, node, none, more}
use Rattle.sp_ast.specs.Slots.{is_formed}
use Rattle.sp_ast.specs.declared.forms.Form.TheVariants as form_is
use Rattle.sp_ast.specs.declared.forms.DeclForm.TheVariants as decl_is
use Rattle.sp_ast.specs.declared.forms.ItemForm.TheVariants as item_is
use Rattle.sp_rules.specs.declared.fault.Fault.{Fault}
use Rattle.sp_types.specs.Types.{Ty}
use Rattle.sp_typed_units.specs.declared.declarations.HookOf.{HookOf}
use Rattle.sp_typed_units.specs.declared.declarations.HookOf.TheVariants as of_is
use Rattle.sp_solver.specs.Told.{told}
use Rattle.sp_names.specs.Names.{path_names}
use Rattle.sp_type_hook_rows.specs.declared.sites.Holder.{Holder}
use Rattle.sp_type_hook_rows.specs.declared.sites.Holder.TheVariants as holder_is
use Rattle.sp_type_hook_rows.specs.declared.sites.Site.{Site}
use Rattle.sp_type_hook_rows.specs.declared.rows.HookRow.{HookRow}
use Rattle.sp_type_hook_rows.specs.Sites.{sites}
use Rattle.sp_type_hook_rows.specs.HookRows.{hook_body, is_each, field_number, plain_of, each_of, body_rows, is_some_tree, named_rows, field_rows, item_row, declared_row, holder_rows, rows_of, hook_rows}
use Rattle.sp_type_answers.specs.Settled.{Answers}
use Rattle.sp_type_answers.specs.Rules.{Breaks}
use Rattle.sp_law_lists.specs.known_constants.Fine.{IsFine, AreFine}
use Rattle.sp_law_lists.proofs.known_constants_lemmas.Fine.{inside, first, rest}
use Rattle.sp_law_lists.proofs.known_constants_lemmas.Declarations.{AllOf, both_of}
use Rattle.sp_law_lists.proofs.known_hooks_lemmas.Sites.{SiteFine}
use Rattle.sp_law_lists.proofs.known_hooks_lemmas.Seen.{IsSeen, HasOwn, plain_seen, each_seen, target_seen, declared_seen}
use Rattle.sp_law_lists.proofs.known_hooks_lemmas.Bodies.{RowWritten, body_is, hook_is}

module _ (list : List Tree) (a : Answers list) (formed_list : list_all is_formed list ≡ true) (unbroken : (x : Fault) → Breaks list x → ⊥) where
  abbrev f : ℕ → Option Ty
  f = told a.types

  abbrev pub RowGood : HookRow → Type 0
  RowGood r = RowWritten list a formed_list unbroken r × IsSeen list r.of r.field

  either_seen : (b : Bool) (plain elements : HookOf) (place : Option ℕ) → IsSeen list plain place → IsSeen list elements place → IsSeen list (if b then elements else plain) place
  either_seen true plain elements place p e = e
  either_seen false plain elements place p e = p

  -- hooks behind a field
  behind_good : (m : ℕ) (plain elements : HookOf) (counted : Bool) (place : Option ℕ) (ts : Trees) → AreFine list f m ts → IsSeen list plain place → IsSeen list elements place → AllOf RowGood (body_rows m plain elements counted place ts)
  behind_good m plain elements counted place none h p e = tt
  behind_good m plain elements counted place (more b ts) h p e =
      ((body_is list a formed_list unbroken m b (first list f m b ts h), either_seen (is_each b) plain elements place p e), behind_good m plain elements counted place ts (rest list f m b ts h) p e)

  -- a field that has no name has a mark of its own
  named_good : (m n : ℕ) (span : Span) (name : Tree) (ts : Trees) (counted : Bool) (bodies : Trees) → AreFine list f m bodies → HasOwn list (record { «module» = m; unit = n; holder = holder_is.Field (node form_is.Field span (more name ts)) })
      → AllOf RowGood (named_rows list m n span name counted bodies)
  named_good m n span (node (form_is.Name x) s us) ts counted bodies h own =
      behind_good m (plain_of n (field_number list n x)) (each_of n (field_number list n x)) counted None bodies h (plain_seen list n x None) (each_seen list n (field_number list n x) None)
  named_good m n span (node _ s us) ts counted bodies h own = behind_good m (of_is.Anonymous n) (of_is.AnonymousElements n) counted (Some span.from) bodies h (own (2, n, span.from) refl) tt
  named_good m n span absent ts counted bodies h own = behind_good m (of_is.Anonymous n) (of_is.AnonymousElements n) counted (Some span.from) bodies h (own (2, n, span.from) refl) tt
  named_good m n span (row us) ts counted bodies h own = behind_good m (of_is.Anonymous n) (of_is.AnonymousElements n) counted (Some span.from) bodies h (own (2, n, span.from) refl) tt

  -- those of a field by the parts of its tree
  bodies_fine : (m : ℕ) (span : Span) (name base counts attributes condition sink : Tree) (bodies : Trees) → IsFine list f m (node form_is.Field span (more name (more base (more counts (more attributes (more condition (more sink (more (row bodies) none)))))))) → AreFine list f m bodies
  bodies_fine m span name base counts attributes condition sink bodies h =
      let last = more (row bodies) none in
      let e = more sink last in
      let d = more condition e in
      let c = more attributes d in
      let b = more counts c in
      let ts = more name (more base b) in
      let p = inside list f m form_is.Field span ts h in
      let q = rest list f m base b (rest list f m name (more base b) p) in
      let r = rest list f m attributes d (rest list f m counts c q) in
      let s = rest list f m sink last (rest list f m condition e r) in
      first list f m (row bodies) none s

  field_good : (m n : ℕ) (t : Tree) → IsFine list f m t → HasOwn list (record { «module» = m; unit = n; holder = holder_is.Field t }) → AllOf RowGood (field_rows list m n t)
  field_good m n (node form_is.Field span (more name (more base (more (row counts) (more attributes (more condition (more sink (more (row bodies) none)))))))) h own =
      named_good m n span name (more base (more (row counts) (more attributes (more condition (more sink (more (row bodies) none)))))) (is_some_tree counts) bodies (bodies_fine m span name base (row counts) attributes condition sink bodies h) own
  field_good m n _ h own = tt

  -- a hook in a unit
  item_good : (m n : ℕ) (t : Tree) → IsFine list f m t → AllOf RowGood (item_row list m n t)
  item_good m n (node (form_is.Item item_is.On) span (more target (more hook ts))) h =
      let p = rest list f m target (more hook ts) (inside list f m (form_is.Item item_is.On) span (more target (more hook ts)) h) in
      ((hook_is list a formed_list unbroken m hook (first list f m hook ts p), target_seen list n (is_each (hook_body hook)) target None), tt)
  item_good m n _ h = tt

  -- a hook outside of units
  declared_good : (m : ℕ) (t : Tree) → IsFine list f m t → AllOf RowGood (declared_row list f m t)
  declared_good m (node (form_is.Decl decl_is.On) span (more path (more name (more hook ts)))) h =
      let p = rest list f m path (more name (more hook ts)) (inside list f m (form_is.Decl decl_is.On) span (more path (more name (more hook ts))) h) in
      let q = first list f m hook ts (rest list f m name (more hook ts) p) in
      ((hook_is list a formed_list unbroken m hook q, declared_seen list f m (is_each (hook_body hook)) (path_names path) name None), tt)
  declared_good m _ h = tt

  holder_good : (m n : ℕ) (h : Holder) → SiteFine list f (record { «module» = m; unit = n; holder = h }) → HasOwn list (record { «module» = m; unit = n; holder = h }) → AllOf RowGood (holder_rows list f m n h)
  holder_good m n (holder_is.Declaration t) h own = declared_good m t h
  holder_good m n (holder_is.Item t) h own = item_good m n t h
  holder_good m n (holder_is.Field t) h own = field_good m n t h own

  each_good : (ss : List Site) → AllOf (SiteFine list f) ss → AllOf (HasOwn list) ss → AllOf RowGood (rows_of list f ss)
  each_good [] h own = tt
  each_good (s ∷ ss) h own =
      both_of RowGood (holder_rows list f s.«module» s.unit s.holder) (rows_of list f ss) (holder_good s.«module» s.unit s.holder h.0 own.0) (each_good ss h.1 own.1)

  pub rows_good : AllOf (SiteFine list f) (sites list) → AllOf (HasOwn list) (sites list) → AllOf RowGood (hook_rows list f)
  rows_good h own = each_good (sites list) h own
