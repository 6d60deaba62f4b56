-- Where no conversion is told that is made of itself, none of a member is: each field that is a member is one of those that are told of.
use Rattle.std.proofs.Common.{ℕ, ◌≡◌, ◌+◌, ◌≤◌, zero, suc, true, refl, sym, ap, subst, ◌∙◌, arith, List, [], ◌∷◌, ◌++◌, Option, Some, None, slice_get}
use Rattle.sp_base.specs.declared.places.Span.{Span}
use Rattle.sp_ast.specs.Trees.{Tree, Trees, row, node, none, more}
use Rattle.sp_ast.specs.declared.forms.Form.TheVariants as form_is
use Rattle.sp_ast.specs.declared.forms.DeclForm.TheVariants as decl_is
use Rattle.sp_ast.specs.declared.forms.ItemForm.TheVariants as item_is
use Rattle.sp_ast.specs.declared.forms.PartForm.TheVariants as part_is
use Rattle.sp_ast.specs.declared.forms.BodyForm.TheVariants as body_is
use Rattle.sp_types.specs.Types.{Ty}
use Rattle.sp_typed_units.specs.declared.declarations.EndlessConversion.{EndlessConversion}
use Rattle.sp_type_context.specs.Contexts.{Around}
use Rattle.sp_type_fields.specs.Values.{Values}
use Rattle.sp_names.specs.declared.rows.Declaration.{Declaration}
use Rattle.sp_names.specs.declared.sort.DeclSort.{DeclSort}
use Rattle.sp_names.specs.declared.sort.DeclSort.TheVariants as sort_is
use Rattle.sp_names.specs.Declarations.{rows, all_of, sort_of, type_tree_of, declaration_at, number_at}
use Rattle.sp_names.specs.Names.{declaration_of}
use Rattle.sp_type_modules.specs.Members.{unit_in, unit_items, declared_unit, unit_declaration}
use Rattle.sp_type_modules.specs.declared.sources.Source.{Source}
use Rattle.sp_type_modules.specs.declared.sources.Source.TheVariants as source_is
use Rattle.sp_type_modules.specs.declared.sources.Question.{Question}
use Rattle.sp_type_modules.specs.Sources.{Named, field_named, declared_in, declared_among, firsts, sources_of, asked, questions_of, questions_before, units, questions}
use Rattle.sp_type_hook_rows.specs.declared.sites.Holder.{Holder}
use Rattle.sp_type_hook_rows.specs.declared.sites.Holder.TheVariants as holder_is
use Rattle.sp_type_hook_rows.specs.declared.sites.Site.{Site}
use Rattle.sp_type_hook_rows.specs.Sites.{sites_in, sites_among, sites_of, sites_from, sites}
use Rattle.sp_type_members.specs.Endless.{place_of}
use Rattle.sp_type_declarations.specs.Conversions.{endless_row, held_conversion, site_conversion, endless}
use Rattle.sp_rule_lists.specs.Lists.{all_tests}
use Rattle.sp_rule_lists.specs.Bodies.{conversion_tests}
use Rattle.sp_law_lists.specs.known_types.Clear.{none_hold}
use Rattle.sp_law_lists.proofs.known_types_lemmas.Full.{never}
use Rattle.sp_law_lists.proofs.whole_list_lemmas.Modules.{none_found, some_found}
use Rattle.sp_law_lists.proofs.known_constants_lemmas.Declarations.{AllOf, both_of, at_all}
use Rattle.sp_law_lists.proofs.known_members_lemmas.Shapes.{is_unit_sort}
use Rattle.sp_law_lists.proofs.known_members_lemmas.Items.{first_sources}
use Rattle.sp_law_lists.proofs.known_members_lemmas.Units.{IsDeclared, all_declared, found_at}
use Rattle.sp_law_lists.proofs.known_hooks_lemmas.Numbers.{unit_number}

-- a conversion that is told breaks a rule
none_told : (es : List EndlessConversion) → none_hold (all_tests conversion_tests es) ≡ true → es ≡ []
none_told [] h = refl
none_told (e ∷ es) h = never h

nothing_before : (xs ys : List EndlessConversion) → xs ++ ys ≡ [] → (xs ≡ []) × (ys ≡ [])
nothing_before [] ys e = (refl, e)
nothing_before (x ∷ xs) ys e = absurd (let z : ⊥ = cc in z)

row_empty : (m : ℕ) (o : Option Span) → endless_row m o ≡ [] → o ≡ None
row_empty m None e = refl
row_empty m (Some at) e = absurd (let z : ⊥ = cc in z)

parts_of : {A : Type 0} (P : A → Type 0) (xs ys : List A) → AllOf P (xs ++ ys) → AllOf P xs × AllOf P ys
parts_of P [] ys h = (tt, h)
parts_of P (x ∷ xs) ys h = (let p = parts_of P xs ys h.1 in ((h.0, p.0), p.1))

unit_of_sort : (s : DeclSort) → is_unit_sort s ≡ true → s ≡ sort_is.Unit
unit_of_sort sort_is.Unit e = refl
unit_of_sort _ e = never e

module _ (list : List Tree) (contexts : List Around) (v : Values) (types : List (Option Ty)) where
  -- of what stands at a site, and of what gives a member its type, none is made of itself
  abbrev Untold : ℕ → Holder → Type 0
  Untold n (holder_is.Field t) = place_of list contexts v types n t ≡ None
  Untold n _ = Unit {0}

  abbrev SiteUntold : Site → Type 0
  SiteUntold s = Untold s.unit s.holder

  abbrev pub SourceUntold : ℕ → Source → Type 0
  SourceUntold n (source_is.Field t) = place_of list contexts v types n t ≡ None
  SourceUntold n _ = Unit {0}

  abbrev NamedUntold : ℕ → Named → Type 0
  NamedUntold n d = SourceUntold n d.source

  abbrev pub QuestionUntold : Question → Type 0
  QuestionUntold q = SourceUntold q.unit q.source

  holder_untold : (m n : ℕ) (h : Holder) → held_conversion list contexts v types m n h ≡ [] → Untold n h
  holder_untold m n (holder_is.Field t) e = row_empty m (place_of list contexts v types n t) e
  holder_untold m n (holder_is.Item t) e = tt
  holder_untold m n (holder_is.Declaration t) e = tt

  sites_untold : (ss : List Site) → endless list contexts v types ss ≡ [] → AllOf SiteUntold ss
  sites_untold [] e = tt
  sites_untold (s ∷ ss) e =
      let p = nothing_before (site_conversion list contexts v types s) (endless list contexts v types ss) e in
      (holder_untold s.«module» s.unit s.holder p.0, sites_untold ss p.1)

  -- a field with a name is a site
  named_untold : (n : ℕ) (t : Tree) → place_of list contexts v types n t ≡ None → AllOf (NamedUntold n) (field_named t)
  named_untold n (node form_is.Field span (more (node (form_is.Name x) s us) ts)) h = (h, tt)
  named_untold n _ h = tt

  mutual
    in_tree : (m n : ℕ) (x : Tree) → AllOf SiteUntold (sites_in m n x) → AllOf (NamedUntold n) (declared_in x)
    in_tree m n (node (form_is.Item item_is.Variable) span (more name ts)) h = (tt, tt)
    in_tree m n (node (form_is.Item item_is.Sink) span (more name ts)) h = (tt, tt)
    in_tree m n (node (form_is.Item item_is.Part) span (more part ts)) h = in_tree m n part h
    in_tree m n (node (form_is.Part part_is.Field) span (more field ts)) h = named_untold n field h.0
    in_tree m n (node (form_is.Part part_is.Switch) span (more subject (more (row arms) ts))) h = among m n arms h
    in_tree m n (node form_is.Arm span (more guard (more body ts))) h = in_tree m n body h
    in_tree m n (node (form_is.Body body_is.One) span ts) h = among m n ts h
    in_tree m n (node (form_is.Body body_is.Many) span ts) h = among m n ts h
    in_tree m n _ h = tt

    among : (m n : ℕ) (ts : Trees) → AllOf SiteUntold (sites_among m n ts) → AllOf (NamedUntold n) (declared_among ts)
    among m n none h = tt
    among m n (more t ts) h =
        let p = parts_of SiteUntold (sites_in m n t) (sites_among m n ts) h in
        both_of (NamedUntold n) (declared_in t) (declared_among ts) (in_tree m n t p.0) (among m n ts p.1)

  declared_untold : (m n : ℕ) (x : Tree) → AllOf SiteUntold (sites_of m n x) → AllOf (NamedUntold n) (declared_among (unit_items (unit_in (type_tree_of x))))
  declared_untold m n (node (form_is.Decl decl_is.On) span ts) h = tt
  declared_untold m n x h = among m n (unit_items (unit_in (type_tree_of x))) h

  -- the sites of a declaration
  at_declaration : (h : ℕ) (ds : List Declaration) (j : ℕ) (d : Declaration) → slice_get ds j ≡ Some d → AllOf SiteUntold (sites_from list h ds) → AllOf SiteUntold (sites_of d.«module» (number_at list (h + j)) d.tree)
  at_declaration h [] j d e all = none_found d e
  at_declaration h (x ∷ ds) zero d e all =
      let z : h ≡ h + 0 = omega arith in
      let p = parts_of SiteUntold (sites_of x.«module» (number_at list h) x.tree) (sites_from list (suc h) ds) all in
      let here = subst (λ i. AllOf SiteUntold (sites_of x.«module» (number_at list i) x.tree)) z p.0 in
      subst (λ (y : Declaration). AllOf SiteUntold (sites_of y.«module» (number_at list (h + 0)) y.tree)) (some_found x d e) here
  at_declaration h (x ∷ ds) (suc j) d e all =
      let z : suc h + j ≡ h + suc j = omega arith in
      let p = parts_of SiteUntold (sites_of x.«module» (number_at list h) x.tree) (sites_from list (suc h) ds) all in
      subst (λ i. AllOf SiteUntold (sites_of d.«module» (number_at list i) d.tree)) z (at_declaration (suc h) ds j d e p.1)

  asked_untold : (n : ℕ) (ss : List Source) → AllOf (SourceUntold n) ss → AllOf QuestionUntold (asked n ss)
  asked_untold n [] h = tt
  asked_untold n (s ∷ ss) h = (h.0, asked_untold n ss h.1)

  module _ (all : AllOf SiteUntold (sites list)) where
    unit_untold : (n g : ℕ) (d : Declaration) → slice_get (all_of sort_is.Unit list) n ≡ Some g → declaration_at list g ≡ Some d → is_unit_sort (sort_of d.tree) ≡ true → AllOf QuestionUntold (questions_of list n)
    unit_untold n g d at is sort =
        let z : 0 + g ≡ g = omega arith in
        let number : number_at list (0 + g) ≡ n = ap (number_at list) z ∙ unit_number list g d is (unit_of_sort (sort_of d.tree) sort) n at in
        let own = subst (λ k. AllOf SiteUntold (sites_of d.«module» k d.tree)) number (at_declaration 0 (rows list) g d is all) in
        let there : unit_declaration list n ≡ Some d = ap (declaration_of list) at ∙ is in
        subst (λ o. AllOf QuestionUntold (asked n (sources_of (firsts (declared_among (unit_items (declared_unit o))))))) (sym there)
        (asked_untold n (sources_of (firsts (declared_among (unit_items (unit_in (type_tree_of d.tree)))))) (first_sources (SourceUntold n) (declared_among (unit_items (unit_in (type_tree_of d.tree)))) (declared_untold d.«module» n d.tree own)))

    questions_untold : (n : ℕ) → n ≤ units list → AllOf QuestionUntold (questions_before list n)
    questions_untold zero le = tt
    questions_untold (suc n) le =
        let there = found_at (all_of sort_is.Unit list) n (omega (arith, le)) in
        let declared = at_all (IsDeclared list) (all_of sort_is.Unit list) n there.0 (all_declared list) there.1 in
        both_of QuestionUntold (questions_before list n) (questions_of list n) (questions_untold n (omega (arith, le))) (unit_untold n there.0 declared.0 there.1 declared.1 declared.2)

  pub members_untold : none_hold (all_tests conversion_tests (endless list contexts v types (sites list))) ≡ true → AllOf QuestionUntold (questions list)
  members_untold h =
      questions_untold (sites_untold (sites list) (none_told (endless list contexts v types (sites list)) h)) (units list) (let z : units list ≤ units list = omega arith in z)
