-- The least of the rules on names, whichever answers they are asked under: there is one.
use Rattle.std.proofs.Common.{◌≡◌, Bool, true, List, Option, Some, None, subst, sym}
use Rattle.sp_ast.specs.Trees.{Tree}
use Rattle.sp_rules.specs.declared.fault.Fault.{Fault}
use Rattle.sp_rules.specs.Least.{Among, IsLeast, checked}
use Rattle.sp_typed_units.specs.declared.declarations.Typed.{Typed}
use Rattle.sp_type_answers.specs.Settled.{Answers}
use Rattle.sp_type_answers.specs.NameRules.{name_tests, BreaksName, IsTyped, IsAnswered}

-- the tests under some answers are those under any
pub least_of_one : {A : Type 0} (tests : A → List (Bool × Fault)) (a : A) → ((b : A) → tests b ≡ tests a) → (o : Option Fault) → IsLeast (λ f. Among (tests a) (true, f)) o → IsLeast (λ f. (b : A) × Among (tests b) (true, f)) o
least_of_one tests a same None least = λ f w. least f (subst (λ ts. Among ts (true, f)) (same w.0) w.1)
least_of_one tests a same (Some f) least =
    ((a, least.0), λ g w. least.1 g (subst (λ ts. Among ts (true, g)) (same w.0) w.1))

tests_same : (list : List Tree) (a b : Answers list) → b.types ≡ a.types → b.values ≡ a.values → b.stored ≡ a.stored → name_tests list b ≡ name_tests list a
tests_same list a b t v s = cc

least_of_names : (list : List Tree) (a : Answers list) → ((b : Answers list) → b.types ≡ a.types) → ((b : Answers list) → b.values ≡ a.values) → ((b : Answers list) → b.stored ≡ a.stored) → (o : Option Fault) → IsLeast (λ f. Among (name_tests list a) (true, f)) o → IsLeast (BreaksName list) o
least_of_names list a t v s o least =
    least_of_one (name_tests list) a (λ b. tests_same list a b (t b) (v b) (s b)) o least

-- what is typed of a list, and the least of the rules on names that are broken in it, whichever answers these are under
pub typed_of_answered : (list : List Tree) (t : Typed) (o : Option Fault) → IsAnswered list t o → IsTyped list t
typed_of_answered list t o w = (w.0, w.1)

pub least_of_answered : ((list : List Tree) (a b : Answers list) → a.types ≡ b.types) → ((list : List Tree) (a b : Answers list) → a.values ≡ b.values) → ((list : List Tree) (a b : Answers list) → a.stored ≡ b.stored) → ((cs : List (Bool × Fault)) → IsLeast (λ f. Among cs (true, f)) (checked None cs)) → (list : List Tree) (t : Typed) (o : Option Fault) → IsAnswered list t o → IsLeast (BreaksName list) o
least_of_answered types values stored least list t o w =
    least_of_names list w.0 (λ b. types list b w.0) (λ b. values list b w.0) (λ b. stored list b w.0) o (subst (λ (p : Option Fault). IsLeast (λ f. Among (name_tests list w.0) (true, f)) p) (sym w.2) (least (name_tests list w.0)))
