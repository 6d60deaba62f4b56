-- The least of all rules that are broken, whichever answers they are asked under: there is one.
use Rattle.std.proofs.Common.{◌≡◌, Bool, true, List, ◌++◌, Option, None, refl, sym, subst, ap, ◌∙◌}
use Rattle.sp_ast.specs.Trees.{Tree}
use Rattle.sp_rules.specs.declared.fault.Fault.{Fault}
use Rattle.sp_rules.specs.Least.{Among, IsLeast, checked}
use Rattle.sp_rule_lists.proofs.Checked.{checked_more}
use Rattle.sp_typed_units.specs.declared.declarations.Typed.{Typed}
use Rattle.sp_type_answers.specs.Settled.{Answers}
use Rattle.sp_type_answers.specs.Lists.{typed_of}
use Rattle.sp_type_answers.specs.NameRules.{name_tests, IsTyped, IsAnswered}
use Rattle.sp_scope.proofs.Least.{least_of_one}
use Rattle.sp_type_answers.specs.Rules.{typed_tests, limits_from, tests, Breaks, IsAsked}

pub asked : (list : List Tree) (t : Typed) (names all : Option Fault) → IsAnswered list t names → all ≡ checked names (typed_tests t ++ limits_from 0 list) → IsAsked list t all
asked list t names all w noted =
    let now : all ≡ checked names (typed_tests (typed_of list w.0) ++ limits_from 0 list) = subst (λ (u : Typed). all ≡ checked names (typed_tests u ++ limits_from 0 list)) w.1 noted in
    let more : checked None (tests list w.0) ≡ checked (checked None (name_tests list w.0)) (typed_tests (typed_of list w.0) ++ limits_from 0 list) = checked_more None (name_tests list w.0) (typed_tests (typed_of list w.0) ++ limits_from 0 list) in
    (w.0, w.1, now ∙ ap (λ (o : Option Fault). checked o (typed_tests (typed_of list w.0) ++ limits_from 0 list)) w.2 ∙ sym more)

tests_same : (list : List Tree) (a b : Answers list) → b.types ≡ a.types → b.values ≡ a.values → b.stored ≡ a.stored → tests list b ≡ tests list a
tests_same list a b t v s = cc

pub typed_of_asked : (list : List Tree) (t : Typed) (o : Option Fault) → IsAsked list t o → IsTyped list t
typed_of_asked list t o w = (w.0, w.1)

pub least_of_asked : ((list : List Tree) (a b : Answers list) → a.types ≡ b.types) → ((list : List Tree) (a b : Answers list) → a.values ≡ b.values) → ((list : List Tree) (a b : Answers list) → a.stored ≡ b.stored) → ((cs : List (Bool × Fault)) → IsLeast (λ f. Among cs (true, f)) (checked None cs)) → (list : List Tree) (t : Typed) (o : Option Fault) → IsAsked list t o → IsLeast (Breaks list) o
least_of_asked types values stored least list t o w =
    least_of_one (tests list) w.0 (λ b. tests_same list w.0 b (types list b w.0) (values list b w.0) (stored list b w.0)) o (subst (λ (p : Option Fault). IsLeast (λ f. Among (tests list w.0) (true, f)) p) (sym w.2) (least (tests list w.0)))
