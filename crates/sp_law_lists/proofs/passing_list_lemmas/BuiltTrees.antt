-- Where nothing is found in a list that isn't built, nothing is found in its declarations, and no hook is one of elements.
use Rattle.std.specs.Prelude.{◌&&◌, ◌||◌, not, if◌then◌else◌}
use Rattle.std.specs.List.{list_all}
use Rattle.std.proofs.Common.{ℕ, ◌≡◌, ◌+◌, suc, Bool, true, false, refl, sym, subst, List, [], ◌∷◌, Option, Some, None}
use Rattle.std.proofs.lemmas.Bool.{and_parts, not-true}
use Rattle.sp_base.specs.declared.places.Diag.{Diag}
use Rattle.sp_base.specs.declared.places.Span.{Span}
use Rattle.sp_words.specs.declared.words.HookName.{HookName}
use Rattle.sp_ast.specs.Trees.{Tree, Trees, absent, row, node, none, more}
use Rattle.sp_ast.specs.Slots.{is_formed, are_formed}
use Rattle.sp_ast.specs.Groups.{is_of, fits as stands_as}
use Rattle.sp_ast.specs.declared.groups.Group.TheVariants as group_is
use Rattle.sp_ast.specs.declared.groups.Sort.TheVariants as stands
use Rattle.sp_ast.specs.declared.forms.Form.{Form}
use Rattle.sp_ast.specs.declared.forms.Form.TheVariants as form_is
use Rattle.sp_ast.specs.declared.forms.DeclForm.TheVariants as decl_is
use Rattle.sp_ast.specs.declared.forms.ItemForm.TheVariants as item_is
use Rattle.sp_ast.specs.declared.forms.TargetForm.TheVariants as target_is
use Rattle.sp_rules.specs.declared.fault.Fault.{Fault}
use Rattle.sp_types.specs.Types.{Ty}
use Rattle.sp_typed_units.specs.declared.declarations.HookOf.{HookOf}
use Rattle.sp_typed_units.specs.declared.declarations.HookOf.TheVariants as of_is
use Rattle.sp_typed_units.specs.declared.declarations.Typed.{Typed}
use Rattle.sp_solver.specs.Told.{told}
use Rattle.sp_names.specs.declared.rows.Declaration.{Declaration}
use Rattle.sp_names.specs.Declarations.{list_of, module_declarations, rows_of as declared_rows, rows_from, rows, number_at}
use Rattle.sp_names.specs.Names.{path_names}
use Rattle.sp_type_hook_rows.specs.declared.sites.Holder.{Holder}
use Rattle.sp_type_hook_rows.specs.declared.sites.Holder.TheVariants as holder_is
use Rattle.sp_type_hook_rows.specs.declared.sites.Site.{Site}
use Rattle.sp_type_hook_rows.specs.declared.rows.HookRow.{HookRow}
use Rattle.sp_type_hook_rows.specs.Sites.{sites}
use Rattle.sp_type_hook_rows.specs.HookRows.{hook_body, is_each, field_number, plain_of, each_of, field_of, unit_of, target_of, named_unit, unit_hook, member_hook, last_of, before_last, declared_of, body_rows, is_some_tree, named_rows, field_rows, item_row, declared_row, holder_rows, rows_of, hook_rows}
use Rattle.sp_type_functions.specs.Events.{is_of_elements}
use Rattle.sp_unbuilt.specs.Constructs.{is_for_each, is_late_target, is_late_name, tail_tests, read_end, each_tests, tests_at}
use Rattle.sp_ast.specs.Views.{present}
use Rattle.sp_unbuilt.specs.Fields.{kinds_in_units}
use Rattle.sp_unbuilt.specs.Next.{saturated}
use Rattle.sp_unbuilt.specs.Unbuilt.{Texts, tests_in, tests_among, tests_from, unbuilt_tests, first_unbuilt}
use Rattle.sp_type_answers.specs.Settled.{Answers}
use Rattle.sp_type_answers.specs.Lists.{typed_of}
use Rattle.sp_type_answers.specs.Rules.{Breaks}
use Rattle.sp_law_lists.proofs.known_types_lemmas.Full.{never}
use Rattle.sp_law_lists.specs.known_constants.Fine.{IsFine, AreFine}
use Rattle.sp_law_lists.proofs.known_constants_lemmas.Fine.{formed, inside, first, rest}
use Rattle.sp_law_lists.proofs.known_constants_lemmas.Declarations.{AllOf, both_of, at_all, declaration_fine, Passes, rows_declare}
use Rattle.sp_law_lists.proofs.known_members_lemmas.Built.{nothing, none_noted, two_parts}
use Rattle.sp_law_lists.proofs.known_members_lemmas.Shapes.{no_second, no_third, field_parts, field_whole}
use Rattle.sp_law_lists.proofs.known_hooks_lemmas.Walks.{tree_at, places_pass, all_places}
use Rattle.sp_law_lists.proofs.unbroken_list_lemmas.Split.{declared_names}

-- what holds of the trees of modules holds of their declarations
module _ (P : Tree → Type 0) (All : Trees → Type 0) (passes : Passes P All) where
  abbrev pub Declares : Declaration → Type 0
  Declares d = P d.tree

  row_passes : (m : ℕ) (ts : Trees) → All ts → AllOf Declares (declared_rows m (list_of ts))
  row_passes m none h = tt
  row_passes m (more t ts) h = (passes.first t ts h, row_passes m ts (passes.rest t ts h))

  module_passes : (m : ℕ) (t : Tree) → P t → AllOf Declares (declared_rows m (module_declarations t))
  module_passes m absent h = tt
  module_passes m (row ts) h = tt
  module_passes m (node form_is.Module span none) h = tt
  module_passes m (node form_is.Module span (more name none)) h = tt
  module_passes m (node form_is.Module span (more name (more absent ts))) h = tt
  module_passes m (node form_is.Module span (more name (more (node form at us) ts))) h = tt
  module_passes m (node form_is.Module span (more name (more (row ds) ts))) h =
      row_passes m ds (passes.in_row ds (passes.first (row ds) ts (passes.rest name (more (row ds) ts) (passes.parts form_is.Module span (more name (more (row ds) ts)) h))))
  module_passes m (node _ span ts) h = tt

  pub modules_pass : (m : ℕ) (ts : List Tree) → AllOf P ts → AllOf Declares (rows_from m ts)
  modules_pass m [] h = tt
  modules_pass m (t ∷ ts) h = both_of Declares (declared_rows m (module_declarations t)) (rows_from (suc m) ts) (module_passes m t h.0) (modules_pass (suc m) ts h.1)

-- nothing in a tree, or in some, isn't built
pub record IsBuilt (x : Tree) : Type 0 where
  pub text : List ℕ
  pub «module» : ℕ
  pub all : nothing (tests_in text «module» x) ≡ true

pub record AreBuilt (ts : Trees) : Type 0 where
  pub text : List ℕ
  pub «module» : ℕ
  pub all : nothing (tests_among text «module» ts) ≡ true

not_there : (b : Bool) (cs : List (Bool × Diag)) → (not b && nothing cs) ≡ true → b ≡ false
not_there b cs e = not-true b (and_parts (not b) (nothing cs) e).0

pub built_passes : (m : ℕ) → Passes IsBuilt AreBuilt
built_passes m = record {
  parts = λ form span ts h. record { text = h.text; «module» = h.«module»; all = (two_parts (tests_at h.text h.«module» (node form span ts)) (tests_among h.text h.«module» ts) h.all).1 };
  in_row = λ ts h. record { text = h.text; «module» = h.«module»; all = h.all };
  first = λ t ts h. record { text = h.text; «module» = h.«module»; all = (two_parts (tests_in h.text h.«module» t) (tests_among h.text h.«module» ts) h.all).0 };
  rest = λ t ts h. record { text = h.text; «module» = h.«module»; all = (two_parts (tests_in h.text h.«module» t) (tests_among h.text h.«module» ts) h.all).1 };
  left_out = record { text = []; «module» = 0; all = refl };
  nothing = record { text = []; «module» = 0; all = refl };
}

-- the tests at a tree
pub at_tree : (form : Form) (span : Span) (ts : Trees) (h : IsBuilt (node form span ts)) → nothing (tests_at h.text h.«module» (node form span ts)) ≡ true
at_tree form span ts h = (two_parts (tests_at h.text h.«module» (node form span ts)) (tests_among h.text h.«module» ts) h.all).0

-- each module of a list
all_built : (texts : Texts) (m : ℕ) (ts : List Tree) → nothing (tests_from texts m ts) ≡ true → AllOf IsBuilt ts
all_built texts m [] e = tt
all_built texts m (t ∷ ts) e =
    let p = two_parts (tests_in (texts (saturated m)) (saturated m) t) (tests_from texts (m + 1) ts) e in
    (record { text = texts (saturated m); «module» = saturated m; all = p.0 }, all_built texts (m + 1) ts p.1)

-- a hook that is not one of elements
abbrev IsWhole : HookOf → Type 0
IsWhole of = is_of_elements of ≡ false

plain_whole : (n : ℕ) (o : Option ℕ) → IsWhole (plain_of n o)
plain_whole n None = refl
plain_whole n (Some k) = refl

field_whole_hook : (n : ℕ) (each : Bool) (o : Option ℕ) → each ≡ false → IsWhole (field_of n each o)
field_whole_hook n true o e = never (sym e)
field_whole_hook n false o e = plain_whole n o

unit_whole_hook : (n : ℕ) (each : Bool) (h : HookName) → each ≡ false → IsWhole (unit_of n each h)
unit_whole_hook n true h e = refl
unit_whole_hook n false h e = refl

target_whole : (list : List Tree) (n : ℕ) (each : Bool) (x : Tree) → each ≡ false → IsWhole (target_of list n each x)
target_whole list n each (node (form_is.Target (target_is.Name x)) span ts) e = field_whole_hook n each (field_number list n x) e
target_whole list n each (node (form_is.Target (target_is.Hook h)) span ts) e = unit_whole_hook n each h e
target_whole list n each (node _ span ts) e = refl
target_whole list n each absent e = refl
target_whole list n each (row ts) e = refl

unit_hook_whole : (each : Bool) (h : HookName) (o : Option ℕ) → each ≡ false → IsWhole (unit_hook each h o)
unit_hook_whole each h None e = refl
unit_hook_whole each h (Some n) e = unit_whole_hook n each h e

member_whole : (list : List Tree) (each : Bool) (x : List ℕ) (o : Option ℕ) → each ≡ false → IsWhole (member_hook list each x o)
member_whole list each x None e = refl
member_whole list each x (Some n) e = field_whole_hook n each (field_number list n x) e

declared_whole : (list : List Tree) (f : ℕ → Option Ty) (m : ℕ) (each : Bool) (xs : List (List ℕ)) (name : Tree) → each ≡ false → IsWhole (declared_of list f m each xs name)
declared_whole list f m each xs (node (form_is.HookName h) span ts) e = unit_hook_whole each h (named_unit list f m xs) e
declared_whole list f m each xs (node _ span ts) e = member_whole list each (last_of xs) (named_unit list f m (before_last xs)) e
declared_whole list f m each xs absent e = member_whole list each (last_of xs) (named_unit list f m (before_last xs)) e
declared_whole list f m each xs (row ts) e = member_whole list each (last_of xs) (named_unit list f m (before_last xs)) e

-- whether `foreach` stands before what a hook does
hook_each : (x : Tree) → is_of group_is.Hooks x ≡ true → is_formed x ≡ true → is_for_each x ≡ false → is_each (hook_body x) ≡ false
hook_each (node form_is.Hook span none) of h e = refl
hook_each (node form_is.Hook span (more ps none)) of h e = refl
hook_each (node form_is.Hook span (more ps (more body none))) of h e = e
hook_each (node form_is.Hook span (more ps (more body (more x xs)))) of h e =
    no_second (stands_as (stands.Rows group_is.Parameters) ps) (is_of group_is.HookBodies body) (are_formed (more ps (more body (more x xs)))) h
hook_each (node _ span ts) of h e = never of
hook_each absent of h e = never of
hook_each (row ts) of h e = never of

module _ (list : List Tree) (f : ℕ → Option Ty) where
  abbrev RowWhole : HookRow → Type 0
  RowWhole r = IsWhole r.of

  -- hooks behind a field
  each_false : (m : ℕ) (b : Tree) (bs : Trees) → nothing (each_tests m (more b bs)) ≡ true → (is_each b ≡ false) × (nothing (each_tests m bs) ≡ true)
  each_false m b bs e =
      let p = and_parts (not (is_each b)) (nothing (each_tests m bs)) e in
      (not-true (is_each b) p.0, p.1)

  chosen_whole : (b : Bool) (plain elements : HookOf) → b ≡ false → IsWhole plain → IsWhole (if b then elements else plain)
  chosen_whole true plain elements e w = never (sym e)
  chosen_whole false plain elements e w = w

  behind_whole : (m k : ℕ) (plain elements : HookOf) (counted : Bool) (place : Option ℕ) (bs : Trees) → IsWhole plain → nothing (each_tests k bs) ≡ true → AllOf RowWhole (body_rows m plain elements counted place bs)
  behind_whole m k plain elements counted place none w e = tt
  behind_whole m k plain elements counted place (more b bs) w e =
      let p = each_false k b bs e in
      (chosen_whole (is_each b) plain elements p.0 w, behind_whole m k plain elements counted place bs w p.1)

  named_whole : (m n k : ℕ) (span : Span) (name : Tree) (counted : Bool) (bs : Trees) → nothing (each_tests k bs) ≡ true → AllOf RowWhole (named_rows list m n span name counted bs)
  named_whole m n k span (node (form_is.Name x) s us) counted bs e = behind_whole m k (plain_of n (field_number list n x)) (each_of n (field_number list n x)) counted None bs (plain_whole n (field_number list n x)) e
  named_whole m n k span (node _ s us) counted bs e = behind_whole m k (of_is.Anonymous n) (of_is.AnonymousElements n) counted (Some span.from) bs refl e
  named_whole m n k span absent counted bs e = behind_whole m k (of_is.Anonymous n) (of_is.AnonymousElements n) counted (Some span.from) bs refl e
  named_whole m n k span (row us) counted bs e = behind_whole m k (of_is.Anonymous n) (of_is.AnonymousElements n) counted (Some span.from) bs refl e

  field_hooks : (m n : ℕ) (span : Span) (name base : Tree) (counts ts : Trees) (condition sink hooks : Tree) → IsBuilt (node form_is.Field span (field_parts name base counts ts condition sink hooks))
      → AllOf RowWhole (field_rows list m n (node form_is.Field span (field_parts name base counts ts condition sink hooks)))
  field_hooks m n span name base counts ts condition sink (row hooks) h =
      let tail = tail_tests h.text h.«module» (read_end base counts ts) (present condition) (present sink) in
      let p = two_parts tail (each_tests h.«module» hooks) (at_tree form_is.Field span (field_parts name base counts ts condition sink (row hooks)) h) in
      named_whole m n h.«module» span name (is_some_tree counts) hooks p.1
  field_hooks m n span name base counts ts condition sink absent h = tt
  field_hooks m n span name base counts ts condition sink (node form at us) h = tt

  field_holds : (m n : ℕ) (t : Tree) → IsFine list f m t → IsBuilt t → AllOf RowWhole (field_rows list m n t)
  field_holds m n (node form_is.Field span ws) fine h =
      let w = field_whole ws (formed list f m form_is.Field span ws fine) in
      subst (λ us. IsBuilt (node form_is.Field span us) → AllOf RowWhole (field_rows list m n (node form_is.Field span us))) (sym w.is) (field_hooks m n span w.name w.base w.counts w.attributes w.condition w.sink w.hooks) h
  field_holds m n (node _ span ws) fine h = tt
  field_holds m n absent fine h = tt
  field_holds m n (row ws) fine h = tt

  either_false : (a b : Bool) → (a || b) ≡ false → b ≡ false
  either_false true b e = never (sym e)
  either_false false b e = e

  -- a hook in a unit, and one outside of units
  item_holds : (m n : ℕ) (t : Tree) → IsFine list f m t → IsBuilt t → AllOf RowWhole (item_row list m n t)
  item_holds m n (node (form_is.Item item_is.On) span (more target (more hook none))) fine h =
      let ts = more target (more hook none) in
      let p = and_parts (is_of group_is.Targets target) (is_of group_is.Hooks hook && true) (formed list f m (form_is.Item item_is.On) span ts fine) in
      let q = first list f m hook none (rest list f m target (more hook none) (inside list f m (form_is.Item item_is.On) span ts fine)) in
      let each = either_false (is_late_target target) (is_for_each hook) (not_there (is_late_target target || is_for_each hook) [] (at_tree (form_is.Item item_is.On) span ts h)) in
      (target_whole list n (is_each (hook_body hook)) target (hook_each hook (and_parts (is_of group_is.Hooks hook) true p.1).0 q.0 each), tt)
  item_holds m n (node (form_is.Item item_is.On) span (more target (more hook (more x xs)))) fine h =
      no_second (is_of group_is.Targets target) (is_of group_is.Hooks hook) (are_formed (more target (more hook (more x xs)))) fine.0
  item_holds m n _ fine h = tt

  declared_holds : (m : ℕ) (t : Tree) → IsFine list f m t → IsBuilt t → AllOf RowWhole (declared_row list f m t)
  declared_holds m (node (form_is.Decl decl_is.On) span (more path (more name (more hook none)))) fine h =
      let ts = more path (more name (more hook none)) in
      let p = and_parts (is_of group_is.Paths path) (stands_as (stands.Optional group_is.HookNames) name && (is_of group_is.Hooks hook && true)) (formed list f m (form_is.Decl decl_is.On) span ts fine) in
      let o = and_parts (stands_as (stands.Optional group_is.HookNames) name) (is_of group_is.Hooks hook && true) p.1 in
      let q = first list f m hook none (rest list f m name (more hook none) (rest list f m path (more name (more hook none)) (inside list f m (form_is.Decl decl_is.On) span ts fine))) in
      let each = either_false (is_late_name name) (is_for_each hook) (not_there (is_late_name name || is_for_each hook) [] (at_tree (form_is.Decl decl_is.On) span ts h)) in
      (declared_whole list f m (is_each (hook_body hook)) (path_names path) name (hook_each hook (and_parts (is_of group_is.Hooks hook) true o.1).0 q.0 each), tt)
  declared_holds m (node (form_is.Decl decl_is.On) span (more path (more name (more hook (more x xs))))) fine h =
      no_third (is_of group_is.Paths path) (stands_as (stands.Optional group_is.HookNames) name) (is_of group_is.Hooks hook) (are_formed (more path (more name (more hook (more x xs))))) fine.0
  declared_holds m _ fine h = tt

  -- all rows
  abbrev Good : ℕ → Tree → Type 0
  Good m x = IsFine list f m x × IsBuilt x

  abbrev AllGood : ℕ → Trees → Type 0
  AllGood m ts = AreFine list f m ts × AreBuilt ts

  good_passes : (m : ℕ) → Passes (Good m) (AllGood m)
  good_passes m =
      let built = built_passes m in
      record {
        parts = λ form span ts h. (inside list f m form span ts h.0, built.parts form span ts h.1);
        in_row = λ ts h. (h.0, built.in_row ts h.1);
        first = λ t ts h. (first list f m t ts h.0, built.first t ts h.1);
        rest = λ t ts h. (rest list f m t ts h.0, built.rest t ts h.1);
        left_out = ((refl, refl, refl), built.left_out);
        nothing = ((refl, refl, refl), built.nothing);
      }

  abbrev SiteGood : Site → Type 0
  SiteGood s = Good s.«module» (tree_at s.holder)

  holder_holds : (m n : ℕ) (h : Holder) → Good m (tree_at h) → AllOf RowWhole (holder_rows list f m n h)
  holder_holds m n (holder_is.Declaration t) good = declared_holds m t good.0 good.1
  holder_holds m n (holder_is.Item t) good = item_holds m n t good.0 good.1
  holder_holds m n (holder_is.Field t) good = field_holds m n t good.0 good.1

  rows_hold : (ss : List Site) → AllOf SiteGood ss → AllOf RowWhole (rows_of list f ss)
  rows_hold [] good = tt
  rows_hold (s ∷ ss) good = both_of RowWhole (holder_rows list f s.«module» s.unit s.holder) (rows_of list f ss) (holder_holds s.«module» s.unit s.holder good.0) (rows_hold ss good.1)

-- nothing in a declaration isn't built
pub declarations_built : (texts : Texts) (list : List Tree) (t : Typed) → first_unbuilt texts list t ≡ None → AllOf (λ (x : Declaration). IsBuilt x.tree) (rows list)
declarations_built texts list t e =
    let none_ = two_parts (tests_from texts 0 list) (kinds_in_units t.units) (none_noted (unbuilt_tests texts list t) e) in
    rows_declare (λ m x. IsBuilt x) (λ m xs. AreBuilt xs) built_passes list (modules_pass IsBuilt AreBuilt (built_passes 0) 0 list (all_built texts 0 list none_.0))

-- no hook is one of elements
pub rows_whole : (texts : Texts) (list : List Tree) (a : Answers list) → list_all is_formed list ≡ true → ((x : Fault) → Breaks list x → ⊥) → first_unbuilt texts list (typed_of list a) ≡ None → AllOf (λ (r : HookRow). is_of_elements r.of ≡ false) (hook_rows list (told a.types))
rows_whole texts list a formed_list unbroken e =
    let f : ℕ → Option Ty = told a.types in
    let all = declarations_built texts list (typed_of list a) e in
    let places = all_places list (SiteGood list f) (λ g d is. places_pass (Good list f) (AllGood list f) (good_passes list f) d.«module» (number_at list g) d.tree (declaration_fine list f formed_list (declared_names list a unbroken) g d is, at_all (λ (x : Declaration). IsBuilt x.tree) (rows list) g d all is)) in
    rows_hold list f (sites list) places
