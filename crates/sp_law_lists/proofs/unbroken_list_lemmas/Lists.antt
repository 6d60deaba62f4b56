-- A list in which no rule is broken: its aliases have answers, its functions give values of full types, and so its constants and
-- labels are told.
use Rattle.std.specs.List.{list_all}
use Rattle.std.proofs.Common.{ℕ, ◌≡◌, true, refl, sym, ap, ◌∙◌, List, Option, Some, None}
use Rattle.sp_ast.specs.Trees.{Tree}
use Rattle.sp_ast.specs.Slots.{is_formed}
use Rattle.sp_rules.specs.declared.fault.Fault.{Fault}
use Rattle.sp_solver.specs.Told.{told}
use Rattle.sp_names.specs.declared.rows.Declaration.{Declaration}
use Rattle.sp_names.specs.declared.sort.DeclSort.TheVariants as sort_is
use Rattle.sp_names.specs.Declarations.{all_of, sort_of, sort_or, sort_at, declaration_at, number_at}
use Rattle.sp_names.specs.Names.{declaration_of}
use Rattle.sp_type_modules.specs.Heads.{function_gives, result_of}
use Rattle.sp_rule_lists.specs.Told.{values_of}
use Rattle.sp_rule_lists.specs.Bodies.{function_tests}
use Rattle.sp_type_answers.specs.Settled.{Answers}
use Rattle.sp_type_answers.specs.Lists.{typed_of}
use Rattle.sp_type_answers.specs.Rules.{Breaks}
use Rattle.sp_law_lists.specs.known_types.Full.{is_full}
use Rattle.sp_law_lists.proofs.known_types_lemmas.Full.{never}
use Rattle.sp_law_lists.specs.whole_list.Known.{HasType}
use Rattle.sp_law_lists.proofs.whole_list_lemmas.Declared.{declared_full}
use Rattle.sp_law_lists.specs.known_constants.Given.{AreUnbroken}
use Rattle.sp_law_lists.proofs.known_constants_lemmas.Declarations.{declaration_fine}
use Rattle.sp_law_lists.proofs.unbroken_list_lemmas.Split.{declared_names, are_named, are_asked}
use Rattle.sp_law_lists.proofs.unbroken_list_lemmas.Aliases.{alias_stands}
use Rattle.sp_law_lists.proofs.unbroken_list_lemmas.Functions.{is_function_sort, number_stands, function_at, gives_full}

module _ (list : List Tree) (a : Answers list) (formed : list_all is_formed list ≡ true) (unbroken : (x : Fault) → Breaks list x → ⊥) where
  pub all_types : (g : ℕ) → HasType list (told a.types) g
  all_types = declared_full list (told a.types) a.resolved.1
      (λ g d at is. alias_stands list (told a.types) (are_asked list a unbroken).aliases g d at is (declaration_fine list (told a.types) formed (declared_names list a unbroken) g d at))

  result_full : (g : ℕ) (o : Option Declaration) → declaration_at list g ≡ o → sort_at list g ≡ sort_is.Function → is_full (function_gives list (told a.types) (number_at list g)) ≡ true
  result_full g None at is = never (sym (ap (λ o. is_function_sort (sort_or o)) at) ∙ ap is_function_sort is)
  result_full g (Some d) at is =
      let f = told a.types in
      let t = typed_of list a in
      let s : sort_of d.tree ≡ sort_is.Function = sym (ap sort_or at) ∙ is in
      let place = number_stands list g d at s in
      let fine = declaration_fine list f formed (declared_names list a unbroken) g d at in
      let tests = function_at list f (told a.values) (told a.stored) (function_tests t (values_of t)) (all_of sort_is.Function list) (number_at list g) g d place at (are_asked list a unbroken).functions in
      ap (λ o. is_full (result_of list f (declaration_of list o))) place
      ∙ ap (λ o. is_full (result_of list f o)) at
      ∙ gives_full list f (told a.values) (told a.stored) t (values_of t) all_types d d.tree (ap is_function_sort s) fine tests

  pub all_results : (g : ℕ) → sort_at list g ≡ sort_is.Function → is_full (function_gives list (told a.types) (number_at list g)) ≡ true
  all_results g is = result_full g (declaration_at list g) refl is

  -- Types and values are settled, and no rule on constants and labels is broken.
  pub are_unbroken : AreUnbroken list (told a.types) (told a.values) (typed_of list a)
  are_unbroken =
      let n = are_named list a unbroken in
      let q = are_asked list a unbroken in
      record {
        formed = formed;
        settled = a.valued.settled;
        constants_are = refl;
        enums_are = refl;
        types = all_types;
        results = all_results;
        names = declared_names list a unbroken;
        constant_paths = n.constants;
        enum_paths = n.enums;
        constants = q.constants;
        enums = q.enums;
      }
